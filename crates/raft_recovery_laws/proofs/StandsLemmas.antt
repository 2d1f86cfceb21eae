-- Queues that stand for contents: what a crash finds, and each step.
use Rattle.std.proofs.Common.{◌≡◌, ℕ, zero, suc, List, [], ◌∷◌, ◌++◌, take, drop, length, refl, sym, ◌∙◌, ap, subst, append_assoc, append-nil, arith, inl, inr, length-append}
use Rattle.std.proofs.lemmas.List.{drop_at, take-append-drop, take-append-le, take_all}
use Rattle.std.proofs.lemmas.Bool.{cases_lt}
use Rattle.std.proofs.Math.Seq.{take-length}
use Rattle.raft_records.specs.Item.{Batch}
use Rattle.raft_records.specs.Contents.{Contents, after_batch, after_batches}
use Rattle.raft_records.specs.Validity.{IsValidBatch}
use Rattle.raft_recovery_laws.specs.Recovered.{effect, recovered, replay}
use Rattle.raft_recovery_laws.specs.Consecutive.{HaveConsecutiveEntries, HasConsecutiveEntries}
use Rattle.raft_recovery_laws.specs.Valid.{AreValidBatches}
use Rattle.raft_recovery_laws.specs.Stands.{Queues, Stands, found_after_crash, left_by_crash, synced_queues}
use Rattle.raft_recovery_laws.proofs.ContentsLemmas.{consecutive_one, consecutive-append, effect_consecutive, replay_consecutive, replay-all_appended, valid_is_consecutive}
use Rattle.raft_recovery_laws.specs.Dropping.{HoldsLeft, ShareNoGroup}
use Rattle.raft_recovery_laws.proofs.DropRewriteLemmas.{dropped_old_batches, holds_with_more}
use Rattle.raft_recovery_laws.proofs.FixedLemmas.{consecutive_parts, replay-replay, replay-later, replay-more}

-- batches that are valid one after the other

pub valid_take : (m : Contents) (k : ℕ) (bs : List Batch) → AreValidBatches m bs → AreValidBatches m (take k bs)
valid_take m zero bs _ = tt
valid_take m (suc k) [] _ = tt
valid_take m (suc k) (b ∷ bs) (valid, others) = (valid, valid_take (after_batch m b) k bs others)

pub valid_append : (m : Contents) (bs more : List Batch) → AreValidBatches m bs → AreValidBatches (after_batches m bs) more → AreValidBatches m (bs ++ more)
valid_append m [] more _ then = then
valid_append m (b ∷ bs) more (valid, others) then = (valid, valid_append (after_batch m b) bs more others then)

one_consecutive : (m : Contents) (b : Batch) → IsValidBatch m b → HaveConsecutiveEntries (b ∷ [])
one_consecutive m b valid = consecutive_one b (valid_is_consecutive m b valid)

pub valid_consecutive : (m : Contents) (bs : List Batch) → AreValidBatches m bs → HaveConsecutiveEntries bs
valid_consecutive m [] _ = refl
valid_consecutive m (b ∷ bs) (valid, others) = consecutive-append (b ∷ []) bs (one_consecutive m b valid) (valid_consecutive (after_batch m b) bs others)

-- what the fields say of a part

rewritten_part : (q : Queues) (m : Contents) (j : ℕ) → Stands q m → HaveConsecutiveEntries (q.rewritten ++ take j q.rewritten_since)
rewritten_part q m j s =
    (consecutive_parts (q.rewritten ++ take j q.rewritten_since) (drop j q.rewritten_since) (subst HaveConsecutiveEntries (sym (append_assoc q.rewritten (take j q.rewritten_since) (drop j q.rewritten_since) ∙ ap (λ bs. q.rewritten ++ bs) (take-append-drop j q.rewritten_since))) s.rewritten_consecutive)).0

appended_part : (q : Queues) (m : Contents) → Stands q m → HaveConsecutiveEntries q.appended
appended_part q m s = (consecutive_parts q.older q.appended s.appended_consecutive).1

recovered_consecutive : (rewritten appended : List Batch) → HaveConsecutiveEntries rewritten → HaveConsecutiveEntries appended → HasConsecutiveEntries (recovered rewritten appended)
recovered_consecutive rewritten appended run consecutive = replay_consecutive (effect rewritten) appended (effect_consecutive rewritten run) consecutive

pub contents_consecutive : (q : Queues) (m : Contents) → Stands q m → HasConsecutiveEntries m
contents_consecutive q m s = subst HasConsecutiveEntries (s.now 0) (recovered_consecutive (q.rewritten ++ take 0 q.rewritten_since) q.appended (rewritten_part q m 0 s) (appended_part q m s))

older_split : (q : Queues) (i : ℕ) → take i q.older ++ (drop i q.older ++ q.appended) ≡ q.older ++ q.appended
older_split q i = sym (append_assoc (take i q.older) (drop i q.older) q.appended) ∙ ap (λ bs. bs ++ q.appended) (take-append-drop i q.older)

standing_consecutive : (q : Queues) (m : Contents) (i : ℕ) → Stands q m → HaveConsecutiveEntries (drop i q.older ++ q.appended)
standing_consecutive q m i s = (consecutive_parts (take i q.older) (drop i q.older ++ q.appended) (subst HaveConsecutiveEntries (sym (older_split q i)) s.appended_consecutive)).1

standing_past : (q : Queues) (m : Contents) (i : ℕ) → Stands q m → replay m (drop i q.older ++ q.appended) ≡ m
standing_past q m i s = replay-later m (take i q.older) (drop i q.older ++ q.appended) (contents_consecutive q m s) (subst HaveConsecutiveEntries (sym (older_split q i)) s.appended_consecutive) (ap (replay m) (older_split q i) ∙ s.past)

-- what a crash finds

found_synced : (q : Queues) (m : Contents) (i j : ℕ) → Stands q m → recovered (q.rewritten ++ take j q.rewritten_since) (drop i q.older ++ q.appended) ≡ m
found_synced q m i j s = replay-more (effect (q.rewritten ++ take j q.rewritten_since)) m (drop i q.older) q.appended (effect_consecutive (q.rewritten ++ take j q.rewritten_since) (rewritten_part q m j s)) (contents_consecutive q m s)
    (standing_consecutive q m i s) (standing_past q m i s) (s.now j)

pub found_prefix : (q : Queues) (m : Contents) (i j k : ℕ) → Stands q m → found_after_crash q i j k ≡ after_batches m (take k q.appended_since)
found_prefix q m i j k s =
    let x = q.rewritten ++ take j q.rewritten_since in
    let bs = take k q.appended_since in
    let found = found_synced q m i j s in
    replay-all_appended (effect x) (drop i q.older ++ q.appended) bs (effect_consecutive x (rewritten_part q m j s)) (standing_consecutive q m i s) (subst (λ n. AreValidBatches n bs) (sym found) (valid_take m k q.appended_since s.valid))
    ∙ ap (λ n. after_batches n bs) found

-- Steps of the Append queue.

pub stands_written : (q : Queues) (m : Contents) (b : Batch) → Stands q m → IsValidBatch (after_batches m q.appended_since) b → Stands (record q { appended_since = q.appended_since ++ b ∷ [] }) m
stands_written q m b s valid = record {
  rewritten_consecutive = s.rewritten_consecutive;
  appended_consecutive = s.appended_consecutive;
  now = s.now;
  past = s.past;
  valid = valid_append m q.appended_since (b ∷ []) s.valid (valid, tt);
}

pub stands_cut : (q : Queues) (m : Contents) (k : ℕ) → Stands q m → Stands (record q { appended_since = take k q.appended_since }) m
stands_cut q m k s = record {
  rewritten_consecutive = s.rewritten_consecutive;
  appended_consecutive = s.appended_consecutive;
  now = s.now;
  past = s.past;
  valid = valid_take m k q.appended_since s.valid;
}

pub stands_appended_synced : (q : Queues) (m : Contents) → Stands q m → Stands (record q { appended = q.appended ++ q.appended_since; appended_since = [] }) (after_batches m q.appended_since)
stands_appended_synced q m s = record {
  rewritten_consecutive = s.rewritten_consecutive;
  appended_consecutive = subst HaveConsecutiveEntries same consecutive;
  now = λ j. replay-all_appended (effect (q.rewritten ++ take j q.rewritten_since)) q.appended q.appended_since (effect_consecutive (q.rewritten ++ take j q.rewritten_since) (rewritten_part q m j s)) (appended_part q m s) (subst (λ n. AreValidBatches n q.appended_since) (sym (s.now j)) s.valid)
      ∙ ap (λ n. after_batches n q.appended_since) (s.now j);
  past = subst (λ bs. replay (after_batches m q.appended_since) bs ≡ after_batches m q.appended_since) same (subst (λ n. replay n (q.older ++ q.appended ++ q.appended_since) ≡ n) all (replay-replay (effect (q.rewritten ++ take 0 q.rewritten_since)) (q.older ++ q.appended ++ q.appended_since) (effect_consecutive (q.rewritten ++ take 0 q.rewritten_since) (rewritten_part q m 0 s)) consecutive));
  valid = tt;
}
  where
    same : q.older ++ q.appended ++ q.appended_since ≡ q.older ++ (q.appended ++ q.appended_since)
    same = append_assoc q.older q.appended q.appended_since

    consecutive : HaveConsecutiveEntries (q.older ++ q.appended ++ q.appended_since)
    consecutive = consecutive-append (q.older ++ q.appended) q.appended_since s.appended_consecutive (valid_consecutive m q.appended_since s.valid)

    all : recovered (q.rewritten ++ take 0 q.rewritten_since) (q.older ++ q.appended ++ q.appended_since) ≡ after_batches m q.appended_since
    all = ap (λ bs. recovered (q.rewritten ++ take 0 q.rewritten_since) (q.older ++ q.appended ++ bs)) (sym (take-length q.appended_since)) ∙ found_prefix q m 0 0 (length q.appended_since) s ∙ ap (after_batches m) (take-length q.appended_since)

-- older batches are gone, from the first on
pub stands_older_gone : (q : Queues) (m : Contents) (i : ℕ) → Stands q m → Stands (record q { older = drop i q.older }) m
stands_older_gone q m i s = record {
  rewritten_consecutive = s.rewritten_consecutive;
  appended_consecutive = standing_consecutive q m i s;
  now = s.now;
  past = standing_past q m i s;
  valid = s.valid;
}

-- a front of the queue is dropped, and may stand for a while
pub stands_dropped : (q : Queues) (m : Contents) (front rest : List Batch) → Stands q m → q.appended ≡ front ++ rest → ((j : ℕ) → recovered (q.rewritten ++ take j q.rewritten_since) rest ≡ m) → Stands (record q { older = q.older ++ front; appended = rest }) m
stands_dropped q m front rest s is found = record {
  rewritten_consecutive = s.rewritten_consecutive;
  appended_consecutive = subst HaveConsecutiveEntries same s.appended_consecutive;
  now = found;
  past = ap (replay m) (sym same) ∙ s.past;
  valid = s.valid;
}
  where
    same : q.older ++ q.appended ≡ (q.older ++ front) ++ rest
    same = ap (λ bs. q.older ++ bs) is ∙ sym (append_assoc q.older front rest)

-- Steps of the Rewrite queue.

pub stands_rewritten : (q : Queues) (m : Contents) (b : Batch) → Stands q m → HaveConsecutiveEntries (b ∷ []) → recovered (q.rewritten ++ q.rewritten_since ++ b ∷ []) q.appended ≡ m → Stands (record q { rewritten_since = q.rewritten_since ++ b ∷ [] }) m
stands_rewritten q m b s consecutive found = record {
  rewritten_consecutive = subst HaveConsecutiveEntries same (consecutive-append (q.rewritten ++ q.rewritten_since) (b ∷ []) s.rewritten_consecutive consecutive);
  appended_consecutive = s.appended_consecutive;
  now = λ j. elim (cases_lt (length q.rewritten_since) j) [
    | inl more ↦ ap (λ bs. recovered (q.rewritten ++ bs) q.appended) (take_all j (q.rewritten_since ++ b ∷ []) (omega (arith, length-append q.rewritten_since (b ∷ [])))) ∙ ap (λ bs. recovered bs q.appended) (sym same) ∙ found
    | inr within ↦ ap (λ bs. recovered (q.rewritten ++ bs) q.appended) (take-append-le j q.rewritten_since (b ∷ []) within) ∙ s.now j
  ];
  past = s.past;
  valid = s.valid;
}
  where
    same : q.rewritten ++ q.rewritten_since ++ b ∷ [] ≡ q.rewritten ++ (q.rewritten_since ++ b ∷ [])
    same = append_assoc q.rewritten q.rewritten_since (b ∷ [])

take_nothing : {X : Type 0} (j : ℕ) → take {A = X} j [] ≡ []
take_nothing zero = refl
take_nothing (suc j) = refl

pub stands_rewritten_synced : (q : Queues) (m : Contents) → Stands q m → Stands (record q { rewritten = q.rewritten ++ q.rewritten_since; rewritten_since = [] }) m
stands_rewritten_synced q m s = record {
  rewritten_consecutive = subst HaveConsecutiveEntries (sym (append-nil (q.rewritten ++ q.rewritten_since))) s.rewritten_consecutive;
  appended_consecutive = s.appended_consecutive;
  now = λ j. ap (λ bs. recovered (q.rewritten ++ q.rewritten_since ++ bs) q.appended) (take_nothing j) ∙ ap (λ bs. recovered bs q.appended) (append-nil (q.rewritten ++ q.rewritten_since))
      ∙ ap (λ bs. recovered (q.rewritten ++ bs) q.appended) (sym (take-length q.rewritten_since)) ∙ s.now (length q.rewritten_since);
  past = s.past;
  valid = s.valid;
}

pub all_rewritten : (q : Queues) (m : Contents) → Stands q m → recovered (q.rewritten ++ q.rewritten_since) q.appended ≡ m
all_rewritten q m s = ap (λ bs. recovered (q.rewritten ++ bs) q.appended) (sym (take-length q.rewritten_since)) ∙ s.now (length q.rewritten_since)

-- a queue of which all is synced
rewritten_alone : (q : Queues) (left appended : List Batch) (m : Contents) (j : ℕ) → q.rewritten_since ≡ [] → recovered left appended ≡ m → recovered (left ++ take j q.rewritten_since) appended ≡ m
rewritten_alone q left appended m j none found = ap (λ bs. recovered (left ++ take j bs) appended) none ∙ ap (λ bs. recovered (left ++ bs) appended) (take_nothing j) ∙ ap (λ bs. recovered bs appended) (append-nil left) ∙ found

pub stands_rewrite_dropped : (q : Queues) (m : Contents) (old new : List Batch) → Stands q m → q.rewritten_since ≡ [] → q.rewritten ≡ old ++ new → recovered new q.appended ≡ recovered (old ++ new) q.appended → Stands (record q { rewritten = new }) m
stands_rewrite_dropped q m old new s none is same = record {
  rewritten_consecutive = subst (λ bs. HaveConsecutiveEntries (new ++ bs)) (sym none) (subst HaveConsecutiveEntries (sym (append-nil new)) (consecutive_parts old new (subst HaveConsecutiveEntries is (consecutive_parts q.rewritten q.rewritten_since s.rewritten_consecutive).0)).1);
  appended_consecutive = s.appended_consecutive;
  now = λ j. rewritten_alone q new q.appended m j none (same ∙ ap (λ bs. recovered bs q.appended) (sym is ∙ sym (append-nil q.rewritten) ∙ ap (λ bs. q.rewritten ++ bs) (sym none)) ∙ all_rewritten q m s);
  past = s.past;
  valid = s.valid;
}

pub stands_front_dropped : (q : Queues) (m : Contents) (front rest : List Batch) → Stands q m → q.rewritten_since ≡ [] → q.appended ≡ front ++ rest → recovered q.rewritten rest ≡ recovered q.rewritten (front ++ rest) → Stands (record q { older = q.older ++ front; appended = rest }) m
stands_front_dropped q m front rest s none is same =
    let all : recovered q.rewritten q.appended ≡ m = ap (λ bs. recovered bs q.appended) (sym (append-nil q.rewritten) ∙ ap (λ bs. q.rewritten ++ bs) (sym none)) ∙ all_rewritten q m s in
    stands_dropped q m front rest s is (λ j. rewritten_alone q q.rewritten rest m j none (same ∙ ap (recovered q.rewritten) (sym is) ∙ all))

pub stands_opened : (rewritten appended : List Batch) → HaveConsecutiveEntries rewritten → HaveConsecutiveEntries appended → Stands (synced_queues rewritten appended) (recovered rewritten appended)
stands_opened rewritten appended run consecutive = record {
  rewritten_consecutive = subst HaveConsecutiveEntries (sym (append-nil rewritten)) run;
  appended_consecutive = consecutive;
  now = λ j. ap (λ bs. recovered (rewritten ++ bs) appended) (take_nothing j) ∙ ap (λ bs. recovered bs appended) (append-nil rewritten);
  past = replay-replay (effect rewritten) appended (effect_consecutive rewritten run) consecutive;
  valid = tt;
}

pub stands_reopened : (q : Queues) (m : Contents) (i j k : ℕ) → Stands q m → Stands (left_by_crash q i j k) (after_batches m (take k q.appended_since))
stands_reopened q m i j k s =
    let bs = take k q.appended_since in
    subst (Stands (left_by_crash q i j k)) (found_prefix q m i j k s)
    (stands_opened (q.rewritten ++ take j q.rewritten_since) (drop i q.older ++ q.appended ++ bs) (rewritten_part q m j s) (consecutive-append (drop i q.older ++ q.appended) bs (standing_consecutive q m i s) (valid_consecutive m bs (valid_take m k q.appended_since s.valid))))

-- Drops file by file.

-- older batches that still stand are as good as synced ones
pub stands_standing : (q : Queues) (m : Contents) → Stands q m → Stands (record q { older = []; appended = q.older ++ q.appended }) m
stands_standing q m s = record {
  rewritten_consecutive = s.rewritten_consecutive;
  appended_consecutive = s.appended_consecutive;
  now = λ j. found_synced q m 0 j s;
  past = s.past;
  valid = s.valid;
}

-- of a front that may be dropped any first part may go
pub stands_first_gone : (q : Queues) (m : Contents) (first second rest : List Batch) → Stands q m → q.rewritten_since ≡ [] → q.older ++ q.appended ≡ first ++ second ++ rest → recovered q.rewritten rest ≡ recovered q.rewritten (first ++ second ++ rest) → Stands (record q { older = []; appended = second ++ rest }) m
stands_first_gone q m first second rest s none is same =
    let whole : Queues = record q { older = []; appended = q.older ++ q.appended } in
    let dropped : Queues = record q { older = first ++ second; appended = rest } in
    let gone = stands_older_gone dropped m (length first) (stands_front_dropped whole m (first ++ second) rest (stands_standing q m s) none is same) in
    stands_standing (record q { older = second; appended = rest }) m (subst (λ bs. Stands (record q { older = bs; appended = rest }) m) (drop_at first second (length first) refl) gone)

-- .. and of old files of the Rewrite queue, where no atomic group stands on both sides
pub stands_rewrite_first_gone : (q : Queues) (m : Contents) (first second new : List Batch) → Stands q m → q.rewritten_since ≡ [] → q.rewritten ≡ first ++ (second ++ new) → ShareNoGroup first (second ++ new) → ShareNoGroup second new → HoldsLeft (effect new) q.appended m → Stands (record q { rewritten = second ++ new }) m
stands_rewrite_first_gone q m first second new s none is apart apart_new held =
    let run = (consecutive_parts q.rewritten q.rewritten_since s.rewritten_consecutive).0 in
    let parts = consecutive_parts first (second ++ new) (subst HaveConsecutiveEntries is run) in
    let later = consecutive_parts second new parts.1 in
    let found : recovered (first ++ (second ++ new)) q.appended ≡ m = ap (λ bs. recovered bs q.appended) (sym is ∙ sym (append-nil q.rewritten) ∙ ap (λ bs. q.rewritten ++ bs) (sym none)) ∙ all_rewritten q m s in
    stands_rewrite_dropped q m first (second ++ new) s none is
    (dropped_old_batches first (second ++ new) q.appended apart parts.0 parts.1 (appended_part q m s) (subst (HoldsLeft (effect (second ++ new)) q.appended) (sym found) (holds_with_more second new q.appended m apart_new later.0 later.1 held)))
