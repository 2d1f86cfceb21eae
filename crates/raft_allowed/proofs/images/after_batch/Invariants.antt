use Rattle.std.proofs.Common.{take}
use Rattle.raft_records.specs.Contents.{Contents}
use Rattle.raft_allowed.specs.Changes.{batch_in}
use Rattle.raft_allowed.specs.Held.{IsHeldBy, held_of}
use Rattle.raft_allowed.proofs.ImageLemmas.{AreAppliedTo}
use Rattle.raft_allowed.proofs.images.after_batch.Given as goal

abbrev pub invariant-loop-change : goal.invariant-loop-change
invariant-loop-change l = (m : Contents) → IsHeldBy m l.initial.image.groups.items → AreAppliedTo m (batch_in (take l.change-index l.batch)) (held_of l.image.groups.items) l.fits
