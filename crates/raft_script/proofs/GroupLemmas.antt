-- Groups of batches: how they are built, and what an engine's write of them is as an operation.
use Rattle.std.proofs.Common.{◌≡◌, ℕ, zero, suc, ◌+◌, ◌<◌, Bool, true, false, cond, inl, inr, List, [], ◌∷◌, ◌++◌, length, map, Option, Some, None, refl, sym, ◌∙◌, ap, subst, arith}
use Rattle.std.specs.Prelude.{◌||◌, IfErr, IfOk, IsErrAnd, IsSome, IsSomeAnd, MatchResult, Result, Ok, Err, Vec, slice_index_or, unwrap_or}
use Rattle.std.specs.List.{AllByRecursion, count_by, list_any}
use Rattle.std.specs.declared.alloc.Global.{Global}
use Rattle.std.proofs.lemmas.Bool.{cases_Bool}
use Rattle.std.proofs.lemmas.List.{length-map, map-append}
use Rattle.std.proofs.lemmas.List.Sums.{sum_by-append}
use Rattle.std.proofs.Math.Logic.{∥∥₁_map}
use Rattle.raft_base.specs.Fault.{fault_code}
use Rattle.raft_base.specs.declared.errors.Fault.{Fault}
use Rattle.raft_base.specs.declared.errors.Fault.TheVariants as fault
use Rattle.raft_env.specs.Directory.{Directory}
use Rattle.raft_env.specs.Moments.{HoldsThroughout}
use Rattle.raft_env.specs.Refusal.{NoFewer, Refusals, RoseBy}
use Rattle.raft_env.specs.declared.env.FileSystem.{Ghosts}
use Rattle.raft_records.specs.Contents.{Contents, after_batch}
use Rattle.raft_records.specs.Batch.{BatchView}
use Rattle.raft_records.specs.Item.{Batch}
use Rattle.raft_crash_laws.specs.Crash.{written_batch}
use Rattle.raft_log_engine.specs.Calls.{IsGroupWrite}
use Rattle.raft_log_engine.specs.Cause as engine
use Rattle.raft_log_engine.specs.Cause.{plain_part, plain_parts}
use Rattle.raft_pipes.specs.PipeState.{HasLastNumber, PipeState}
use Rattle.raft_log_engine.specs.Durability.{Progresses, durability_of}
use Rattle.raft_log_engine.specs.Engine.{contents_of, directory_of, durable_of, folders_of, has_failed, moments_of, queue_of, refusals_of, target_size_of, unsynced_of}
use Rattle.raft_log_engine.specs.Group as group
use Rattle.raft_log_engine.specs.Group.{AreGroupAnswers, FailsWithChoice, GroupState, HasWrittenGroup, LeavesChoice, accepted_in, chosen_of, group_state_of, items_of}
use Rattle.raft_log_engine.specs.declared.engine.Engine.{Engine}
use Rattle.raft_script.specs.Durability.{Does, LeavesInFlight}
use Rattle.raft_script.specs.Batches.{Part, batch_of_acts, batches_of_parts, group_batches, of_both}
use Rattle.raft_script.specs.Called.{IsCalled}
use Rattle.raft_script.specs.Failure.{FailsBy, IsStorageOrMemory, Refuses, is_io}
use Rattle.raft_script.specs.Run.{AreBatchAnswers, IsBatchRefusal, IsGroupRefusal, IsUnbuiltGroup, IsWrittenGroup}
use Rattle.raft_script.proofs.StepsLemmas.{all_weaker}
use Rattle.raft_script.proofs.RunLemmas.{same_err}
use Rattle.raft_script.proofs.ActLemmas.{part_whole}
use Rattle.raft_script.specs.declared.operation.Op.TheVariants.{WriteGroup}
use Rattle.raft_script.specs.declared.operation.Outcome.TheVariants.{Sizes}
use Rattle.raft_config.specs.Folders.{Folders}

-- Building.

-- a batch before others, where there are both
abbrev with_batch : Option Batch → Option (List Batch) → Option (List Batch)
with_batch = of_both (λ batch others. batch ∷ others)

-- these are the batches of the parts
abbrev pub AreBuilt : List Part → List Batch → Type 0
AreBuilt parts batches = map (λ (part : Part). batch_of_acts part.0.items) parts ≡ map Some batches

pub built_more : (parts : List Part) (batches : List Batch) (part : Part) (batch : Batch) → AreBuilt parts batches → batch_of_acts part.0.items ≡ Some batch → AreBuilt (parts ++ part ∷ []) (batches ++ batch ∷ [])
built_more parts batches part batch built is =
    map-append (λ (p : Part). batch_of_acts p.0.items) parts (part ∷ [])
    ∙ ap (λ (l : List (Option Batch)). l ++ batch_of_acts part.0.items ∷ []) built
    ∙ ap (λ (o : Option Batch). map Some batches ++ o ∷ []) is
    ∙ sym (map-append Some batches (batch ∷ []))

pub built_all : (parts : List Part) (batches : List Batch) → AreBuilt parts batches → batches_of_parts parts ≡ Some batches
built_all [] [] built = refl
built_all [] (b ∷ batches) built = absurd (let clash = ap length built in omega (arith, clash))
built_all (p ∷ parts) [] built = absurd (let clash = ap length built in omega (arith, clash))
built_all (p ∷ parts) (b ∷ batches) built =
    let first : batch_of_acts p.0.items ≡ Some b = cc in
    let rest : AreBuilt parts batches = cc in
    ap (λ (o : Option Batch). with_batch o (batches_of_parts parts)) first ∙ ap (with_batch (Some b)) (built_all parts batches rest)

with_none : (o : Option Batch) → with_batch o None ≡ None
with_none None = refl
with_none (Some b) = refl

unbuilt_all : (parts : List Part) (k : ℕ) (part : Part) → k < length parts → slice_index_or parts k part ≡ part → batch_of_acts part.0.items ≡ None → batches_of_parts parts ≡ None
unbuilt_all [] k part within is none = absurd (omega (arith, within))
unbuilt_all (p ∷ parts) zero part within is none = ap (λ (q : Part). with_batch (batch_of_acts q.0.items) (batches_of_parts parts)) is ∙ ap (λ (o : Option Batch). with_batch o (batches_of_parts parts)) none
unbuilt_all (p ∷ parts) (suc k) part within is none = ap (with_batch (batch_of_acts p.0.items)) (unbuilt_all parts k part (omega (arith, within)) is none) ∙ with_none (batch_of_acts p.0.items)

-- a group that wasn't built fails as an operation
pub unbuilt_answered : (parts : List Part) (e : Fault) → IsUnbuiltGroup parts e → IsGroupRefusal parts e
unbuilt_answered parts e (inl memory) = subst (IsGroupRefusal parts) (sym memory) tt
unbuilt_answered parts e (inr (k, part, within, is, inl memory)) = subst (IsGroupRefusal parts) (sym memory) tt
unbuilt_answered parts e (inr (k, part, within, is, inr (inl refused))) = by_code e refused.0
  where
    by_code : (e : Fault) → fault_code e ≡ 1 → IsGroupRefusal parts e
    by_code (fault.InvalidArgument text) code = unbuilt_all parts k part within is refused.1
    by_code _ code = absurd (omega (arith, code))
unbuilt_answered parts e (inr (k, part, within, is, inr (inr oversized))) = subst (IsGroupRefusal parts) (sym oversized.0) (k, part, within, is, oversized.1)

no_failure : (parts : List Part) (e : Fault) → IsUnbuiltGroup parts e → e ≡ fault.Failed → ⊥
no_failure parts e (inl memory) is = let clash = sym memory ∙ is in cc
no_failure parts e (inr (k, part, within, at, inl memory)) is = let clash = sym memory ∙ is in cc
no_failure parts e (inr (k, part, within, at, inr (inl refused))) is = let clash = subst (λ (x : Fault). fault_code x ≡ 1) is refused.0 in omega (arith, clash)
no_failure parts e (inr (k, part, within, at, inr (inr oversized))) is = let clash = sym oversized.0 ∙ is in cc

-- .. and fails no engine
pub unbuilt_fails : (parts : List Part) (failed : Bool) (e : Fault) → IsUnbuiltGroup parts e → FailsBy {T = Vec (Result ℕ Fault) Global} failed (Err e) failed (IsUnbuiltGroup parts)
unbuilt_fails parts failed e unbuilt = record {
  still = λ gone. gone;
  only_failed = λ failure. absurd (no_failure parts e unbuilt (same_err (Err e) refl failure));
  refused = λ gone. inr unbuilt;
  cause = λ alive fails. absurd (let clash = sym alive ∙ fails in cc);
}

-- the flags of the parts
pub flags_any : (parts : List Part) → list_any (λ (flag : Bool). flag) (map (λ (part : Part). part.1) parts) ≡ list_any (λ (part : Part). part.1) parts
flags_any [] = refl
flags_any (p ∷ parts) = ap (λ (b : Bool). p.1 || b) (flags_any parts)

-- Answers.

same_failure : {T : Type 0} (x : T) → Ok x ≡ Err fault.Failed → ⊥
same_failure x clash = cc

-- an engine stands, and no number is left
abbrev NoneLeft : Bool → PipeState → Type 0
NoneLeft fails p = (fails ≡ false) × HasLastNumber p

module _ (folders : Folders) (p : PipeState) (fails : Bool) (stands : fails ≡ false) where
  batch_refusal_of : (m : Contents) (batch : Batch) (old new : Refusals) (e : Fault) → engine.IsWriteRefusal folders p m batch false old new e → IsBatchRefusal (NoneLeft fails p) m batch e
  batch_refusal_of m batch old new (fault.InvalidArgument text) h = h.0
  batch_refusal_of m batch old new fault.Gap h = h.0
  batch_refusal_of m batch old new fault.Range h = elim h.0 [
    | inl out ↦ inl out
    | inr last ↦ inr (last.0, (stands, last.1))
  ]
  batch_refusal_of m batch old new (fault.Io kind path) h = h.0
  batch_refusal_of m batch old new fault.TryAgain h = h.0
  batch_refusal_of m batch old new fault.Memory h = h.0
  batch_refusal_of m batch old new _ h = absurd h.1

  batch_answers : (target_size : ℕ) (m : Contents) (batches : List Batch) (answers : List (Result ℕ Fault)) (s s' : GroupState) → AreGroupAnswers target_size folders p m batches answers s s' → AreBatchAnswers (NoneLeft fails p) m batches answers
  batch_answers target_size m [] [] s s' are = tt
  batch_answers target_size m [] (a ∷ answers) s s' are = absurd are
  batch_answers target_size m (b ∷ batches) [] s s' are = absurd are
  batch_answers target_size m (b ∷ batches) (Ok len ∷ answers) s s' are = (are.1.plain, are.1.valid, are.1.len_is, batch_answers target_size (after_batch m b) batches answers are.0 s' are.2)
  batch_answers target_size m (b ∷ batches) (Err e ∷ answers) s s' are = (batch_refusal_of m b s.refusals are.0.refusals e are.1.cause, batch_answers target_size m batches answers are.0 s' are.2)

-- those that are taken change no group's number
taken_plainly : (target_size : ℕ) (folders : Folders) (p : PipeState) (m : Contents) (batches : List Batch) (answers : List (Result ℕ Fault)) (s s' : GroupState) → AreGroupAnswers target_size folders p m batches answers s s'
    → accepted_in answers batches ≡ accepted_in answers (plain_parts batches)
taken_plainly target_size folders p m [] [] s s' are = refl
taken_plainly target_size folders p m [] (a ∷ answers) s s' are = absurd are
taken_plainly target_size folders p m (b ∷ batches) [] s s' are = absurd are
taken_plainly target_size folders p m (b ∷ batches) (Ok len ∷ answers) s s' are =
    ap (λ (x : Batch). written_batch x ++ accepted_in answers batches) (sym (part_whole b are.1.plain))
    ∙ ap (λ (l : List Batch). written_batch (plain_part b) ++ l) (taken_plainly target_size folders p (after_batch m b) batches answers are.0 s' are.2)
taken_plainly target_size folders p m (b ∷ batches) (Err e ∷ answers) s s' are = taken_plainly target_size folders p m batches answers are.0 s' are.2

-- storage's count rose by as many as it refused
refused_rose : (folders : Folders) (p : PipeState) (m : Contents) (batch : Batch) (old new : Refusals) (e : Fault) → engine.IsWriteRefusal folders p m batch false old new e → is_io {T = ℕ} (Err e) ≡ true → RoseBy 1 old new
refused_rose folders p m batch old new (fault.Io kind path) h io = h.1.0
refused_rose folders p m batch old new fault.TryAgain h io = let twice = h.1 in omega (arith, twice)
refused_rose folders p m batch old new _ h io = absurd (let clash = io in cc)

more_rose : (io : Bool) (n : ℕ) (old mid new : Refusals) → NoFewer old mid → (io ≡ true → RoseBy 1 old mid) → RoseBy n mid new → RoseBy ((0 + cond io 1 0) + n) old new
more_rose true n old mid new counts rose more = let one = rose refl in omega (arith, one, more)
more_rose false n old mid new counts rose more = omega (arith, counts.0, more)

batches_rose : (target_size : ℕ) (folders : Folders) (p : PipeState) (m : Contents) (batches : List Batch) (answers : List (Result ℕ Fault)) (s s' : GroupState) → AreGroupAnswers target_size folders p m batches answers s s' → RoseBy (count_by is_io answers) s.refusals s'.refusals
batches_rose target_size folders p m [] [] s s' are = omega (arith, ap (λ (x : GroupState). x.refusals.storage) are)
batches_rose target_size folders p m [] (a ∷ answers) s s' are = absurd are
batches_rose target_size folders p m (b ∷ batches) [] s s' are = absurd are
batches_rose target_size folders p m (b ∷ batches) (Ok len ∷ answers) s s' are =
    subst (λ (n : ℕ). RoseBy n s.refusals s'.refusals) (sym (sum_by-append (λ (r : Result ℕ Fault). cond (is_io r) 1 0) (Ok len ∷ []) answers))
    (more_rose false (count_by is_io answers) s.refusals are.0.refusals s'.refusals are.1.counts (λ io. absurd (let clash = io in cc)) (batches_rose target_size folders p (after_batch m b) batches answers are.0 s' are.2))
batches_rose target_size folders p m (b ∷ batches) (Err e ∷ answers) s s' are =
    subst (λ (n : ℕ). RoseBy n s.refusals s'.refusals) (sym (sum_by-append (λ (r : Result ℕ Fault). cond (is_io r) 1 0) (Err e ∷ []) answers))
    (more_rose (is_io {T = ℕ} (Err e)) (count_by is_io answers) s.refusals are.0.refusals s'.refusals are.1.counts (refused_rose folders p m b s.refusals are.0.refusals e are.1.cause) (batches_rose target_size folders p m batches answers are.0 s' are.2))

-- an engine's write of the batches is answered as the operation
module _ {F H R W : Type 0} {g : Ghosts F H R W} (parts : Vec Part Global) (views after : List BatchView) (flags : List Bool) (old new : Engine F H R W g) (built : batches_of_parts parts.items ≡ Some (items_of views)) (flags_are : flags ≡ map (λ (part : Part). part.1) parts.items) where
  abbrev batches : List Batch
  batches = items_of views

  abbrev pub IsCause : Result (Vec (Result ℕ Fault) Global) Fault → Type 0
  IsCause result = IfErr result (group.IsGroupRefusal (folders_of old) (length views) (length flags) (has_failed old) (has_failed new) (refusals_of old) (refusals_of new))

  abbrev pub IsOk : Result (Vec (Result ℕ Fault) Global) Fault → Type 0
  IsOk result = IfOk result (λ answers. HasWrittenGroup (list_any (λ (flag : Bool). flag) flags) batches (items_of after) old new answers.items)

  group_is : group_batches parts.items ≡ batches
  group_is = ap (λ (o : Option (List Batch)). unwrap_or o []) built

  part_count : (parts : List Part) (batches : List Batch) → batches_of_parts parts ≡ Some batches → length batches ≡ length parts
  part_count [] batches is = let none : [] ≡ batches = cc in sym (ap length none)
  part_count (p ∷ parts) batches is = by_first (batch_of_acts p.0.items) (batches_of_parts parts) is (part_count parts)
    where
      by_first : (first : Option Batch) (others : Option (List Batch)) → with_batch first others ≡ Some batches → ((l : List Batch) → others ≡ Some l → length l ≡ length parts) → length batches ≡ length (p ∷ parts)
      by_first None others is counts = absurd cc
      by_first (Some b) None is counts = absurd cc
      by_first (Some b) (Some l) is counts = let all : b ∷ l ≡ batches = cc in sym (ap length all) ∙ ap suc (counts l refl)

  same_count : length views ≡ length flags
  same_count = sym (length-map views (λ (v : BatchView). v.items)) ∙ part_count parts.items batches built ∙ sym (length-map parts.items (λ (part : Part). part.1)) ∙ sym (ap length flags_are)

  asked : list_any (λ (flag : Bool). flag) flags ≡ list_any (λ (part : Part). part.1) parts.items
  asked = ap (list_any (λ (flag : Bool). flag)) flags_are ∙ flags_any parts.items

  -- .. by its own clause
  pub called_group : (result : Result (Vec (Result ℕ Fault) Global) Fault) → IsGroupWrite batches (items_of after) (length views) (length flags) (list_any (λ (flag : Bool). flag) flags) old new result → IsCalled (WriteGroup parts) (Sizes result) old new
  called_group result write =
      inr (subst (λ (o : Option (List Batch)). IsSomeAnd o (λ (l : List Batch). (rest : List Batch) × IsGroupWrite l rest (length l) (length l) (list_any (λ (part : Part). part.1) parts.items) old new result)) (sym built) (items_of after, as_many))
    where
      views_are : length views ≡ length batches
      views_are = sym (length-map views (λ (v : BatchView). v.items))

      as_many : IsGroupWrite batches (items_of after) (length batches) (length batches) (list_any (λ (part : Part). part.1) parts.items) old new result
      as_many =
          subst (λ (sync : Bool). IsGroupWrite batches (items_of after) (length batches) (length batches) sync old new result) asked
          (subst (λ (k : ℕ). IsGroupWrite batches (items_of after) (length batches) k (list_any (λ (flag : Bool). flag) flags) old new result) (sym same_count ∙ views_are)
          (subst (λ (k : ℕ). IsGroupWrite batches (items_of after) k (length flags) (list_any (λ (flag : Bool). flag) flags) old new result) views_are write))

  pub group_answered : (m : Contents) → (has_failed old ≡ false → m ≡ contents_of old) → (result : Result (Vec (Result ℕ Fault) Global) Fault) → IsOk result → (has_failed old ≡ true → result ≡ Err fault.Failed) → IsCause result
      → MatchResult result (λ answers. IsWrittenGroup (NoneLeft (has_failed new) (queue_of new)) m parts.items answers.items) (IsGroupRefusal parts.items)
  group_answered m same (Ok answers) ok failed cause = elim (cases_Bool (has_failed old)) [
    | inl gone ↦ absurd (same_failure answers (failed gone))
    | inr stands ↦
        subst (λ (o : Option (List Batch)). IsSomeAnd o (λ l. AreBatchAnswers (NoneLeft (has_failed new) (queue_of new)) m l answers.items)) (sym built)
        (subst (λ (c : Contents). AreBatchAnswers (NoneLeft (has_failed new) (queue_of new)) c batches answers.items) (sym (same stands)) (batch_answers (folders_of old) (queue_of new) (has_failed new) ok.stands (target_size_of old) (contents_of old) batches answers.items (group_state_of old) ok.written ok.answered))
  ]
  group_answered m same (Err e) ok failed cause = by_fault e cause
    where
      by_fault : (e : Fault) → group.IsGroupRefusal (folders_of old) (length views) (length flags) (has_failed old) (has_failed new) (refusals_of old) (refusals_of new) e → IsGroupRefusal parts.items e
      by_fault (fault.InvalidArgument text) h = absurd (h.1 same_count)
      by_fault fault.Failed h = subst IsSome (sym built) refl
      by_fault (fault.Io kind path) h = subst IsSome (sym built) refl
      by_fault fault.Memory h = tt
      by_fault _ h = absurd h.2

  pub group_fails : (result : Result (Vec (Result ℕ Fault) Global) Fault) → IsOk result → (has_failed old ≡ true → result ≡ Err fault.Failed) → (has_failed old ≡ true → has_failed new ≡ true) → IsCause result → FailsBy (has_failed old) result (has_failed new) (IsUnbuiltGroup parts.items)
  group_fails result ok failed still cause = record {
    still = still;
    only_failed = told result cause;
    refused = λ gone. inl (failed gone);
    cause = caused result ok cause;
  }
    where
      told : (result : Result (Vec (Result ℕ Fault) Global) Fault) → IsCause result → result ≡ Err fault.Failed → has_failed old ≡ true
      told (Ok answers) cause failure = absurd (let clash = failure in cc)
      told (Err fault.Failed) cause failure = cause
      told (Err _) cause failure = absurd (let clash = failure in cc)

      by_fault : (e : Fault) → group.IsGroupRefusal (folders_of old) (length views) (length flags) (has_failed old) (has_failed new) (refusals_of old) (refusals_of new) e → has_failed old ≡ false → IsStorageOrMemory e
      by_fault (fault.InvalidArgument text) h alive = absurd (h.1 same_count)
      by_fault fault.Failed h alive = absurd (let clash = sym h ∙ alive in cc)
      by_fault (fault.Io kind path) h alive = tt
      by_fault fault.Memory h alive = tt
      by_fault _ h alive = absurd h.2

      caused : (result : Result (Vec (Result ℕ Fault) Global) Fault) → IsOk result → IsCause result → has_failed old ≡ false → has_failed new ≡ true → IsErrAnd result IsStorageOrMemory
      caused (Ok answers) ok cause alive fails = absurd (let clash = sym fails ∙ ok.stands in cc)
      caused (Err e) ok cause alive fails = by_fault e cause alive

  pub group_refuses : (result : Result (Vec (Result ℕ Fault) Global) Fault) → IsOk result → IsCause result → NoFewer (refusals_of old) (refusals_of new) → Refuses (Sizes result) (refusals_of old) (refusals_of new)
  group_refuses (Ok answers) ok cause counts =
      let rose = batches_rose (target_size_of old) (folders_of old) (queue_of new) (contents_of old) batches answers.items (group_state_of old) ok.written ok.answered in
      (counts, omega (arith, rose, ok.counts.0))
  group_refuses (Err (fault.Io kind path)) ok cause counts = (counts, λ io. cause.3.0)
  group_refuses (Err fault.TryAgain) ok cause counts = absurd cause.2
  group_refuses (Err _) ok cause counts = (counts, λ io. absurd (let clash = io in cc))

  -- what the operation is to write
  abbrev allowed : List Batch
  allowed = plain_parts (group_batches parts.items)

  parts_are : plain_parts batches ≡ allowed
  parts_are = ap plain_parts (sym group_is)

  -- a choice of it was written
  abbrev StopsIn : List Batch → Type 0
  StopsIn l = (choice : List Bool) × Progresses [] false (chosen_of (contents_of old) choice l) (durability_of old) (durability_of new)

  -- what it has done
  pub does_group : (result : Result (Vec (Result ℕ Fault) Global) Fault) → IsOk result
      → MatchResult result (λ answers. Progresses (accepted_in answers.items batches) (list_any (λ (flag : Bool). flag) flags) [] (durability_of old) (durability_of new)) (λ _. FailsWithChoice batches old new)
      → HoldsThroughout (moments_of old) (moments_of new) (directory_of new) (LeavesChoice (folders_of old) (durable_of old) (unsynced_of old) (contents_of old) (plain_parts batches))
      → (has_failed old ≡ true → moments_of new ≡ moments_of old) → Does (WriteGroup parts) (Sizes result) old new
  does_group result ok progress moments stays = by_result result ok progress
    where
      adds : (added : List Directory) × (moments_of new ≡ added ++ moments_of old) × AllByRecursion (LeavesInFlight (WriteGroup parts) old) added
      adds = (
        moments.added,
        moments.is,
        all_weaker _ _
            (λ x leaves. ∥∥₁_map (subst (λ (l : List Batch). LeavesChoice (folders_of old) (durable_of old) (unsynced_of old) (contents_of old) l x) parts_are leaves) (λ (choice, left). (chosen_of (contents_of old) choice allowed, ∣ (choice, refl) ∣₁, left)))
            moments.added moments.each,
      )

      by_result : (result : Result (Vec (Result ℕ Fault) Global) Fault) → IsOk result
          → MatchResult result (λ answers. Progresses (accepted_in answers.items batches) (list_any (λ (flag : Bool). flag) flags) [] (durability_of old) (durability_of new)) (λ _. FailsWithChoice batches old new) → Does (WriteGroup parts) (Sizes result) old new
      by_result (Ok answers) ok progress =
          let taken : accepted_in answers.items batches ≡ accepted_in answers.items allowed =
          taken_plainly (target_size_of old) (folders_of old) (queue_of new) (contents_of old) batches answers.items (group_state_of old) ok.written ok.answered ∙ ap (accepted_in answers.items) parts_are in
          record {
            flight = [];
            may_be = ∣ ([], refl) ∣₁;
            progress = subst (λ (covers : Bool). Progresses (accepted_in answers.items allowed) covers [] (durability_of old) (durability_of new)) asked
                (subst (λ (l : List Batch). Progresses l (list_any (λ (flag : Bool). flag) flags) [] (durability_of old) (durability_of new)) taken progress);
            moments = λ alive. adds;
            rests = stays;
          }
      by_result (Err e) ok progress =
          let stops = subst StopsIn parts_are progress in
          record {
            flight = chosen_of (contents_of old) stops.0 allowed;
            may_be = ∣ (stops.0, refl) ∣₁;
            progress = stops.1;
            moments = λ alive. adds;
            rests = stays;
          }
