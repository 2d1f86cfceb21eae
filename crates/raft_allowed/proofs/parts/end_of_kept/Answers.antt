use Rattle.std.proofs.Common.{◌≡◌, ◌∙◌, Some, ap, sym}
use Rattle.std.specs.Prelude.{slice_get}
use Rattle.std.specs.Option.{option_copied}
use Rattle.raft_log_engine.specs.Image.{entries_of}
use Rattle.raft_allowed.proofs.EntriesLemmas.{end_none, end_some}
use Rattle.raft_allowed.proofs.parts.end_of_kept.Goals as goal

pub returns-in-Some : goal.returns-in-Some
returns-in-Some c =
    let first : slice_get c.args.new.now 0 ≡ Some c.in-Some.first.now = sym c.first.ensures.value ∙ ap option_copied c.in-Some.is in
    end_some (entries_of c.args.old.now) c.args.new.now c.in-Some.first.now c.is_next_to.result c.end_at.result first c.is_next_to.ensures c.end_at.ensures

pub returns-in-None : goal.returns-in-None
returns-in-None c = end_none (entries_of c.args.old.now) c.args.new.now (sym c.first.ensures.value ∙ ap option_copied c.in-None.is)
