use Rattle.std.proofs.Common.{◌∙◌}
use Rattle.raft_allowed.specs.Changes.{item_of}
use Rattle.raft_allowed.specs.Held.{held_of}
use Rattle.raft_allowed.proofs.ImageLemmas.{changed_is, fits_at}
use Rattle.raft_allowed.proofs.images.after_change.Goals as goal

pub returns-clause-value : goal.returns-clause-value
returns-clause-value c =
    changed_is (held_of c.args.image.now.groups.items) c.in_ok-old.old c.in_ok-new.new (item_of c.args.change.now) _ (rw c.deref.ensures.value at c.in_ok-old.ensures) c.in_ok-new.ensures (rw c.deref-2.ensures.value at c.in_ok-image.ensures)

pub returns-clause-fits : goal.returns-clause-fits
returns-clause-fits c = c.takes-fits.ensures ∙ fits_at (held_of c.args.image.now.groups.items) c.in_ok-old.old (item_of c.args.change.now) (rw c.deref.ensures.value at c.in_ok-old.ensures)
