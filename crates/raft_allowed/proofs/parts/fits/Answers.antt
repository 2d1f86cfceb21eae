use Rattle.std.proofs.Common.{◌≡◌, ◌∙◌, Some, ap, false, sym, true}
use Rattle.std.specs.Prelude.{◌&&◌, ◌||◌, slice_get}
use Rattle.std.specs.Option.{option_copied}
use Rattle.raft_records.specs.Contents.{is_next_to}
use Rattle.raft_log_engine.specs.Image.{entries_of}
use Rattle.raft_allowed.specs.Changes.{are_counted_from}
use Rattle.raft_allowed.specs.Held.{is_nil}
use Rattle.raft_allowed.proofs.EntriesLemmas.{fits_some}
use Rattle.raft_allowed.proofs.parts.fits.Goals as goal

pub returns-then-are_counted : goal.returns-then-are_counted
returns-then-are_counted c =
    let first : slice_get c.args.new.now 0 ≡ Some c.in-Some.first.now = sym c.first.ensures.value ∙ ap option_copied c.in-Some.is in
    let told : are_counted_from c.in-Some.first.now.0 (entries_of c.args.new.now) ≡ true = sym c.are_counted.ensures ∙ c.if-are_counted.true in
    let old = entries_of c.args.old.now in
    c.takes_at.ensures ∙ sym (ap (λ b. b && (is_nil old || is_next_to old c.in-Some.first.now.0)) told) ∙ fits_some old c.args.new.now c.in-Some.first.now first

pub returns-else-are_counted : goal.returns-else-are_counted
returns-else-are_counted c =
    let first : slice_get c.args.new.now 0 ≡ Some c.in-Some.first.now = sym c.first.ensures.value ∙ ap option_copied c.in-Some.is in
    let told : are_counted_from c.in-Some.first.now.0 (entries_of c.args.new.now) ≡ false = sym c.are_counted.ensures ∙ c.if-are_counted.false in
    let old = entries_of c.args.old.now in
    c.if-are_counted.false ∙ sym (ap (λ b. b && (is_nil old || is_next_to old c.in-Some.first.now.0)) told) ∙ fits_some old c.args.new.now c.in-Some.first.now first
