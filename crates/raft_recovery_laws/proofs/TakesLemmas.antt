-- Which batches the Rewrite queue takes, and which may be dropped.
use Rattle.std.proofs.Common.{◌≡◌, ◌∙◌, ◌++◌, ◌∷◌, None, List, [], ap, append-nil, subst, sym}
use Rattle.raft_records.specs.Contents.{Contents}
use Rattle.raft_records.specs.Item.{Batch}
use Rattle.raft_recovery_laws.specs.Consecutive.{HaveConsecutiveEntries}
use Rattle.raft_recovery_laws.specs.Dropping.{HoldsLeft, ShareNoGroup}
use Rattle.raft_recovery_laws.specs.DroppingFront.{HoldsDropped}
use Rattle.raft_recovery_laws.specs.Groups.{mark_of}
use Rattle.raft_recovery_laws.specs.Recovered.{effect, recovered, replay}
use Rattle.raft_recovery_laws.specs.Rewriting.{EachChangesNothing}
use Rattle.raft_recovery_laws.specs.Stands.{Queues, Stands}
use Rattle.raft_recovery_laws.specs.Takes.{CanDropFront, CanDropOld, RewriteTakes}
use Rattle.raft_recovery_laws.specs.Together.{StandTogether}
use Rattle.raft_recovery_laws.proofs.DropFrontLemmas.{recovered-without}
use Rattle.raft_recovery_laws.proofs.FixedLemmas.{consecutive_parts}
use Rattle.raft_recovery_laws.proofs.GroupLemmas.{effect-unmarked}
use Rattle.raft_recovery_laws.proofs.MarkLemmas.{each_changes_nothing}
use Rattle.raft_recovery_laws.proofs.StandsLemmas.{all_rewritten}
use Rattle.raft_recovery_laws.proofs.TogetherLemmas.{old_may_go}

-- marks, and what is there, item by item
pub takes_unmarked : (q : Queues) (b : Batch) → HaveConsecutiveEntries (b ∷ []) → mark_of b ≡ None → EachChangesNothing (effect (q.rewritten ++ q.rewritten_since)) q.appended b → RewriteTakes b q
takes_unmarked q b consecutive none each = record {
  consecutive = consecutive;
  found = ap (λ x. replay x q.appended) (effect-unmarked (q.rewritten ++ q.rewritten_since) b none) ∙ each_changes_nothing (effect (q.rewritten ++ q.rewritten_since)) q.appended b each;
}

-- what is found where all of the Rewrite queue is synced
rewritten_found : (q : Queues) (m : Contents) → Stands q m → q.rewritten_since ≡ [] → recovered q.rewritten q.appended ≡ m
rewritten_found q m s none = ap (λ bs. recovered bs q.appended) (sym (append-nil q.rewritten) ∙ ap (λ bs. q.rewritten ++ bs) (sym none)) ∙ all_rewritten q m s

-- a front, where the Rewrite queue holds what the rest leaves alone
pub can_drop_front : (q : Queues) (m : Contents) (front rest : List Batch) → Stands q m → q.rewritten_since ≡ [] → q.appended ≡ front ++ rest → HoldsDropped (effect q.rewritten) rest m → CanDropFront front q
can_drop_front q m front rest s none is held =
    let all : recovered q.rewritten (front ++ rest) ≡ m = ap (recovered q.rewritten) (sym is) ∙ rewritten_found q m s none in
    record {
      rest = rest;
      is = is;
      found = recovered-without q.rewritten front rest (consecutive_parts q.rewritten q.rewritten_since s.rewritten_consecutive).0 (subst HaveConsecutiveEntries is (consecutive_parts q.older q.appended s.appended_consecutive).1) (subst (HoldsDropped (effect q.rewritten) rest) (sym all) held);
      synced = none;
    }

-- old files of the Rewrite queue, where the new ones hold what is left
pub can_drop_old : (q : Queues) (m : Contents) (old new : List Batch) → Stands q m → q.rewritten_since ≡ [] → q.rewritten ≡ old ++ new → StandTogether old → ShareNoGroup old new → HoldsLeft (effect new) q.appended m → CanDropOld old q
can_drop_old q m old new s none is together apart held =
    let parts = consecutive_parts old new (subst HaveConsecutiveEntries is (consecutive_parts q.rewritten q.rewritten_since s.rewritten_consecutive).0) in
    let found : recovered (old ++ new) q.appended ≡ m = ap (λ bs. recovered bs q.appended) (sym is) ∙ rewritten_found q m s none in
    record {
      new = new;
      is = is;
      found = old_may_go old new q.appended together apart parts.0 parts.1 (consecutive_parts q.older q.appended s.appended_consecutive).1 (subst (HoldsLeft (effect new) q.appended) (sym found) held);
      synced = none;
    }
