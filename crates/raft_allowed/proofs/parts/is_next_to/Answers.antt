use Rattle.std.proofs.Common.{◌≡◌, ◌∙◌, Some, ap, sym}
use Rattle.std.specs.Prelude.{slice_get}
use Rattle.std.specs.Option.{option_copied}
use Rattle.raft_allowed.proofs.EntriesLemmas.{next_none, next_some}
use Rattle.raft_allowed.proofs.parts.is_next_to.Goals as goal

pub returns-in-Some : goal.returns-in-Some
returns-in-Some c =
    let first : slice_get c.args.old.now 0 ≡ Some c.in-Some.first.now = sym c.first.ensures.value ∙ ap option_copied c.in-Some.is in
    c.is_in_span.ensures ∙ next_some c.args.old.now c.in-Some.first.now c.args.start first

pub returns-in-None : goal.returns-in-None
returns-in-None c = next_none c.args.old.now c.args.start (sym c.first.ensures.value ∙ ap option_copied c.in-None.is)
