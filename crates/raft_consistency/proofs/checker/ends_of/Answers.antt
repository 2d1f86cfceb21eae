use Rattle.std.proofs.Common.{◌≡◌, ◌-◌, Some, length, sym, ◌∙◌, ap}
use Rattle.std.specs.Option.{option_copied}
use Rattle.std.specs.Prelude.{slice_get}
use Rattle.raft_consistency.proofs.HoleLemmas.{entries_range}
use Rattle.raft_consistency.proofs.checker.ends_of.Goals as goal

pub returns : goal.returns
returns c =
    let es = c.args.entries.now in
    let first : slice_get es 0 ≡ Some c.in-Some-Some.first.now = sym c.first.ensures.value ∙ ap option_copied c.in-Some-Some.is-0 in
    let last : slice_get es (length es - 1) ≡ Some c.in-Some-Some.last.now = sym c.last.ensures.value ∙ ap option_copied c.in-Some-Some.is-1 in
    record { value = sym (entries_range es c.in-Some-Some.first.now c.in-Some-Some.last.now first last) }
