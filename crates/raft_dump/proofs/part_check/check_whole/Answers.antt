use Rattle.std.proofs.Common.{◌≡◌, ◌∙◌, ℕ, List, take, drop, ap, subst, sym}
use Rattle.raft_dump.specs.Check.{IsReadingOf}
use Rattle.raft_dump.specs.Parts.{AreOf}
use Rattle.raft_dump.proofs.HeaderLemmas.{if_ok, on_ok, whole_is}
use Rattle.raft_dump.proofs.PartLemmas.{bytes_of_part}
use Rattle.raft_dump.proofs.part_check.check_whole.Goals as goal

pub returns : goal.returns
returns g c = record {
  value = if_ok c.check_part.result c.check_part.ensures.value (λ check is bytes size_is are.
      let e = c.in_ok-part.ensures in
      let split = subst (AreOf bytes) e.ok are in
      let part = bytes_of_part bytes c.in_ok-part.part 0 c.args.size e.value.0 e.value.1 split.0 in
      subst (λ (b : List ℕ). IsReadingOf c.args.file.now.id b check) (c.deref.ensures.value ∙ part ∙ whole_is bytes c.args.size size_is) is.reading);
  given = on_ok c.check_part.result (λ bytes are. (subst (AreOf bytes) c.in_ok-part.ensures.ok are).1);
  cause = c.check_part.ensures.cause;
}
