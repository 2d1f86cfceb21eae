-- What the steps of a purge make of both queues, in contents.
use Rattle.std.proofs.Common.{◌≡◌, ◌≤◌, false, ◌∙◌, ◌++◌, ◌∷◌, ℕ, zero, suc, List, [], take, length, ap, append_assoc, append-nil, arith, length-append, refl, subst, sym}
use Rattle.std.proofs.lemmas.List.{drop_at}
use Rattle.std.proofs.Math.Logic.{∥∥₁_map}
use Rattle.raft_base.specs.declared.pipe_log.LogQueue.{LogQueue}
use Rattle.raft_base.specs.declared.pipe_log.LogQueue.TheVariants.{Append, Rewrite}
use Rattle.raft_env.specs.Directory.{Directory, Path}
use Rattle.raft_files.specs.Scan.{readable_batches}
use Rattle.raft_files.specs.Writer.{bytes_at}
use Rattle.raft_config.specs.Folders.{Folders}
use Rattle.raft_pipes.specs.Counts.{more_dropped}
use Rattle.raft_pipes.specs.Folder.{readable_of}
use Rattle.raft_pipes.specs.Numbered.{in_queue}
use Rattle.raft_pipes.specs.Pipe.{IsRecordOf}
use Rattle.raft_pipes.specs.PipeState.{files_from, sealed_paths}
use Rattle.raft_pipes.specs.Purge.{dropped_batches}
use Rattle.raft_queues.specs.Dual.{AppendsIn, DualState, KeepsBothAppending, SyncsIn}
use Rattle.raft_queues.specs.DualPurge.{HasDroppedUpToIn, KeepsBothRest, counts_after_drop}
use Rattle.raft_records.specs.Contents.{Contents, after_batches}
use Rattle.raft_records.specs.Item.{Batch}
use Rattle.raft_recovery_laws.specs.Consecutive.{HaveConsecutiveEntries}
use Rattle.raft_recovery_laws.specs.Recovered.{recovered, replay}
use Rattle.raft_recovery_laws.specs.Stands.{Queues, Stands}
use Rattle.raft_recovery_laws.proofs.StandsLemmas.{all_rewritten, found_prefix, stands_front_dropped, stands_rewritten, stands_rewritten_synced}
use Rattle.raft_crash_laws.specs.Crash.{RecoversContents}
use Rattle.raft_crash_laws.specs.Held.{HoldsContents, appends, batches_in, drops, counts_in, syncs}
use Rattle.raft_recovery_laws.specs.Takes.{CanDropFront, RewriteTakes}
use Rattle.raft_crash_laws.proofs.StepsLemmas.{have_both, recover_both, queues_appended, queues_appending, queues_synced}

-- The Rewrite queue's calls.

-- a batch that changes nothing
rewritten_stands : (q : Queues) (m : Contents) (b : Batch) → Stands q m → RewriteTakes b q → Stands (appends Rewrite b q) m
rewritten_stands q m b s takes = stands_rewritten q m b s takes.consecutive (takes.found ∙ all_rewritten q m s)

module _ (d d' : DualState) (folders : Folders) (m : Contents) (since : List Batch) (P P' : Queues → Type 0) (old new : Directory) (held : HoldsContents d folders m since P old) where
  pub held_rewritten : (given : List ℕ) (b : Batch) → AppendsIn Rewrite false d d' given old new → IsRecordOf d.rewrite given b → ((q : Queues) → P q → RewriteTakes b q) → ((q : Queues) → P q → P' (appends Rewrite b q)) → HoldsContents d' folders m since P' new
  held_rewritten given b done is takes more = ∥∥₁_map held (λ x. let h = x.2 in (
    x.0,
    x.1,
    record {
      queues = appends Rewrite b h.queues;
      stands = rewritten_stands h.queues (after_batches m (take x.0 since)) b h.stands (takes h.queues h.more);
      since_are = h.since_are;
      has = queues_appended d d' folders old new Rewrite h.queues h.has given b done is;
      more = more h.queues h.more;
    },
  ))

  pub held_rewrite_synced : SyncsIn Rewrite d d' old new → ((q : Queues) → P q → P' (syncs Rewrite q)) → HoldsContents d' folders m since P' new
  held_rewrite_synced done more = ∥∥₁_map held (λ x. let h = x.2 in (
    x.0,
    x.1,
    record {
      queues = syncs Rewrite h.queues;
      stands = stands_rewritten_synced h.queues (after_batches m (take x.0 since)) h.stands;
      since_are = h.since_are;
      has = queues_synced d d' folders old new Rewrite h.queues h.has done;
      more = more h.queues h.more;
    },
  ))

-- .. and a moment while one is written
pub held_rewriting : (d : DualState) (folders : Folders) (m : Contents) (since : List Batch) (P : Queues → Type 0) (old n : Directory) (given : List ℕ) (b : Batch) → HoldsContents d folders m since P old → KeepsBothAppending Rewrite d given old n → IsRecordOf d.rewrite given b → ((q : Queues) → P q → RewriteTakes b q) → RecoversContents folders m since n
held_rewriting d folders m since P old n given b held keeps is takes = ∥∥₁_map held (λ x. let h = x.2 in (
  x.0,
  x.1,
  record {
    queues = appends Rewrite b h.queues;
    stands = rewritten_stands h.queues (after_batches m (take x.0 since)) b h.stands (takes h.queues h.more);
    since_are = h.since_are;
    recovers = queues_appending d folders old n Rewrite h.queues h.has given b keeps is;
  },
))

-- The first files of the Append queue are dropped.

-- older batches that still stand are as good as synced ones
stands_later : (q : Queues) (m : Contents) (first second rest : List Batch) → Stands (record q { older = first ++ second; appended = rest }) m → Stands (record q { older = first; appended = second ++ rest }) m
stands_later q m first second rest s = record {
  rewritten_consecutive = s.rewritten_consecutive;
  appended_consecutive = subst HaveConsecutiveEntries (append_assoc first second rest) s.appended_consecutive;
  now = λ j. ap (recovered (q.rewritten ++ take j q.rewritten_since)) (sym (append-nil (second ++ rest)) ∙ ap (λ bs. bs ++ rest ++ []) (sym (drop_at first second (length first) refl))) ∙ found_prefix (record q { older = first ++ second; appended = rest }) m (length first) j 0 s;
  past = ap (replay m) (sym (append_assoc first second rest)) ∙ s.past;
  valid = s.valid;
}

-- the batches of more first files begin with those of fewer
pub dropped_more : (queue : LogQueue) (n : Directory) (seq : ℕ) (paths : List Path) (count most : ℕ) → count ≤ most → (later : List Batch) × (readable_of queue n (files_from seq (take most paths)) ≡ readable_of queue n (files_from seq (take count paths)) ++ later)
dropped_more queue n seq paths zero most few = (readable_of queue n (files_from seq (take most paths)), refl)
dropped_more queue n seq [] (suc count) most few = ([], ap (λ ps. readable_of queue n (files_from seq ps)) (take_none most))
  where
    take_none : (k : ℕ) → take {A = Path} k [] ≡ []
    take_none zero = refl
    take_none (suc k) = refl
dropped_more queue n seq (path ∷ paths) (suc count) zero few = absurd (omega (arith, few))
dropped_more queue n seq (path ∷ paths) (suc count) (suc most) few =
    let more = dropped_more queue n (suc seq) paths count most (omega (arith, few)) in
    let here = readable_batches (in_queue queue seq) (bytes_at path n) in
    (more.0, ap (λ bs. here ++ bs) more.1 ∙ sym (append_assoc here (readable_of queue n (files_from (suc seq) (take count paths))) more.0))

-- the queues have the same batches, of which more were dropped
module _ (q : Queues) (gone stay : List Batch) (is : q.appended ≡ gone ++ stay) where
  pub dropped_batches_in : (queue : LogQueue) → batches_in q queue ≡ batches_in (drops gone stay q) queue
  dropped_batches_in Append = ap (λ bs. q.older ++ bs ++ q.appended_since) is ∙ ap (λ bs. bs ++ q.appended_since) (sym (append_assoc q.older gone stay))
  dropped_batches_in Rewrite = refl

  dropped_counts : (count : ℕ) (d : DualState) (old : Directory) → gone ≡ dropped_batches count d.append old → (queue : LogQueue) → counts_after_drop Append count d old (counts_in q) queue ≡ counts_in (drops gone stay q) queue
  dropped_counts count d old same Append =
      ap (λ (bs : List Batch). more_dropped (length bs) (counts_in q Append)) (sym same)
      ∙ ap (λ k. record { dropped = k; synced = length (q.older ++ q.appended) }) (sym (length-append q.older gone))
      ∙ ap (λ (bs : List Batch). record { dropped = length (q.older ++ gone); synced = length bs }) (ap (λ bs. q.older ++ bs) is ∙ sym (append_assoc q.older gone stay))
  dropped_counts count d old same Rewrite = refl

-- a step by which so many of the first files go, of those that may
module _ (d : DualState) (old : Directory) (most count : ℕ) (few : count ≤ most) (q : Queues) (m : Contents) (stands : Stands q m) (can : CanDropFront (dropped_batches most d.append old) q) where
  abbrev gone : List Batch
  gone = dropped_batches count d.append old

  later : (second : List Batch) × (dropped_batches most d.append old ≡ gone ++ second)
  later = dropped_more d.append.queue old d.append.first (sealed_paths d.append) count most few

  abbrev stay : List Batch
  stay = later.0 ++ can.rest

  split : q.appended ≡ (gone ++ later.0) ++ can.rest
  split = can.is ∙ ap (λ bs. bs ++ can.rest) later.1

  stay_split : q.appended ≡ gone ++ stay
  stay_split = split ∙ append_assoc gone later.0 can.rest

  dropped_stands : Stands (drops gone stay q) m
  dropped_stands =
      stands_later q m (q.older ++ gone) later.0 can.rest
      (subst (λ bs. Stands (record q { older = bs; appended = can.rest }) m) (sym (append_assoc q.older gone later.0))
      (stands_front_dropped q m (gone ++ later.0) can.rest stands can.synced split (can.found ∙ ap (λ bs. recovered q.rewritten (bs ++ can.rest)) later.1)))

module _ (d : DualState) (folders : Folders) (m : Contents) (since : List Batch) (P : Queues → Type 0) (old : Directory) (held : HoldsContents d folders m since P old) (most : ℕ) (can : (q : Queues) → P q → CanDropFront (dropped_batches most d.append old) q) where
  -- the front was dropped, or some of its first files
  pub held_dropped : (d' : DualState) (P' : Queues → Type 0) (new : Directory) (seq : ℕ) (done : HasDroppedUpToIn Append seq most d d' old new)
      → ((q : Queues) (stay : List Batch) → P q → q.appended ≡ dropped_batches done.0 d.append old ++ stay → P' (drops (dropped_batches done.0 d.append old) stay q)) → HoldsContents d' folders m since P' new
  held_dropped d' P' new seq (count, few, done) more = ∥∥₁_map held (λ x.
      let h = x.2 in
      let q = h.queues in
      let c = can q h.more in
      let now = after_batches m (take x.0 since) in
      let front = dropped_batches count d.append old in
      let rest = stay d old most count few q now h.stands c in
      let is = stay_split d old most count few q now h.stands c in (
        x.0,
        x.1,
        record {
          queues = drops front rest q;
          stands = dropped_stands d old most count few q now h.stands c;
          since_are = h.since_are;
          has = have_both d' folders new (batches_in q) (batches_in (drops front rest q)) (counts_after_drop Append count d old (counts_in q)) (counts_in (drops front rest q)) (dropped_batches_in q front rest is) (dropped_counts q front rest is count d old refl)
              (done.keeps folders (batches_in q) (counts_in q) h.has);
          more = more q rest h.more is;
        },
      ))

  -- .. and a moment of that
  pub held_dropping : (n : Directory) → KeepsBothRest Append most d old n → RecoversContents folders m since n
  held_dropping n keeps = ∥∥₁_map held (λ x.
      let h = x.2 in
      let q = h.queues in
      let c = can q h.more in
      let now = after_batches m (take x.0 since) in
      let all : most ≤ most = omega arith in
      let front = dropped_batches most d.append old in
      let rest = stay d old most most all q now h.stands c in
      let is = stay_split d old most most all q now h.stands c in (
        x.0,
        x.1,
        record {
          queues = drops front rest q;
          stands = dropped_stands d old most most all q now h.stands c;
          since_are = h.since_are;
          recovers = recover_both folders n (batches_in q) (batches_in (drops front rest q)) (counts_after_drop Append most d old (counts_in q)) (counts_in (drops front rest q)) (dropped_batches_in q front rest is) (dropped_counts q front rest is most d old refl)
              (keeps folders (batches_in q) (counts_in q) h.has).2;
        },
      ))
