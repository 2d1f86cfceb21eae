use Rattle.std.proofs.Common.{drop, refl, subst, take}
use Rattle.raft_base.specs.declared.pipe_log.FileId.{FileId}
use Rattle.raft_dump.specs.Check.{IsReadingOf}
use Rattle.raft_dump.specs.Stale.{IsSearched, stale_len}
use Rattle.raft_dump.proofs.CheckLemmas.{checked}
use Rattle.raft_dump.proofs.part_check.check_parts.Goals as goal

pub returns-clause-value : goal.returns-clause-value
returns-clause-value g c = λ bytes size_is are.
    let zeros = c.in_ok-check-2.ensures in
    let search = c.in_ok-search.ensures in
    let before = search.given bytes are in
    let reading : IsReadingOf c.args.file.now.id bytes c.in_ok-check.check = c.in_ok-check.ensures.value bytes size_is (zeros.given bytes before) in
    checked c.args.file.now.id bytes bytes bytes c.in_ok-check.check c.in_ok-check-2.field-0 c.is_stale.result c.is_ended.result c.in_ok-search.search
    reading refl (zeros.value bytes size_is before) refl
    (subst (λ (id : FileId). IsSearched id (take stale_len (drop c.in_ok-check.check.end bytes)) c.in_ok-search.search)
    reading.id_is (search.value bytes are))
    c.is_stale.ensures.value c.is_ended.ensures.value
