use Rattle.std.proofs.Common.{refl, subst, sym}
use Rattle.raft_records.specs.Contents.{after_batch}
use Rattle.raft_log_engine.specs.declared.engine.image.Image.{Image}
use Rattle.raft_allowed.specs.Changes.{batch_in}
use Rattle.raft_allowed.specs.Held.{IsHeldBy}
use Rattle.raft_allowed.proofs.WalkLemmas.{written}
use Rattle.raft_allowed.proofs.walk.write.Goals as goal

pub returns : goal.returns
returns c = λ p is.
    written p (batch_in c.args.batch.now) c.args.reached.now _ is (λ m held. subst (λ (x : Image). IsHeldBy (after_batch m (batch_in c.args.batch.now)) x.groups.items) (sym c.put_last-before.ensures.last) (c.in_ok-applied.ensures m held).0)
    (rw (c.in_ok-push.ensures.items, c.put_last-before.ensures.earlier, c.put_last-before.ensures.value) refl)
