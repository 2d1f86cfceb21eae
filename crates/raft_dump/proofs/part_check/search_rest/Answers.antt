use Rattle.std.proofs.Common.{◌≡◌, ◌∙◌, List, ℕ, subst}
use Rattle.raft_dump.specs.Stale.{IsSearched, stale_len}
use Rattle.raft_dump.specs.Parts.{AreOf}
use Rattle.raft_dump.proofs.PartLemmas.{bytes_of_part, if_ok-map}
use Rattle.raft_dump.proofs.part_check.search_rest.Goals as goal

pub returns-clause-value : goal.returns-clause-value
returns-clause-value g c =
    let e = c.in_ok-part.ensures in
    if_ok-map c.search_stale.result (λ search found. λ bytes are.
    subst (λ behind. IsSearched c.args.check.now.id behind search)
    (c.deref.ensures.value ∙ bytes_of_part bytes c.in_ok-part.part c.args.check.now.end stale_len e.value.0 e.value.1 (subst (AreOf bytes) e.ok are).0)
    found) c.search_stale.ensures.value

pub returns-clause-given : goal.returns-clause-given
returns-clause-given g c =
    if_ok-map c.search_stale.result (λ search found. λ bytes are. (subst (AreOf bytes) c.in_ok-part.ensures.ok are).1) c.search_stale.ensures.value
