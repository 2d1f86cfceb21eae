-- What an engine's write with numbers is as an operation.
use Rattle.std.proofs.Common.{◌≡◌, ℕ, Bool, true, false, inl, inr, List, [], ◌∷◌, Option, Some, refl, sym, ◌∙◌, ap, subst, arith}
use Rattle.std.specs.Prelude.{◌⊎◌, if◌then◌else◌, IsErrAnd, IsSome, MatchResult, Result, Ok, Err, Vec}
use Rattle.std.specs.declared.alloc.Global.{Global}
use Rattle.std.proofs.lemmas.Bool.{cases_Bool}
use Rattle.raft_base.specs.Fault.{fault_code}
use Rattle.raft_base.specs.declared.errors.Fault.{Fault}
use Rattle.raft_base.specs.declared.errors.Fault.TheVariants as fault
use Rattle.raft_env.specs.Refusal.{FailsCountedAt, RoseBy}
use Rattle.raft_env.specs.declared.env.FileSystem.{Ghosts}
use Rattle.raft_crash_laws.specs.Crash.{pending_of, written_batch}
use Rattle.raft_once.specs.History.{are_numbers}
use Rattle.raft_once.specs.Numbers.{Pair, are_new, are_unfit, meets_number, numbered}
use Rattle.raft_once.proofs.BatchLemmas.{numbered_refusal}
use Rattle.raft_pipes.specs.PipeState.{HasLastNumber}
use Rattle.raft_pipes.specs.Queue.{NamesLog}
use Rattle.raft_records.specs.Contents.{Contents, after_batches}
use Rattle.raft_records.specs.Item.{Batch}
use Rattle.raft_records.specs.Validity.{batch_refusal}
use Rattle.raft_log_engine.specs.Advance.{Advances, state_of}
use Rattle.raft_log_engine.specs.Calls.{IsWrite}
use Rattle.raft_log_engine.specs.Cause as engine
use Rattle.raft_log_engine.specs.Durability.{Progresses, accepted_by, covered_by, durability_of}
use Rattle.raft_log_engine.specs.Engine.{all_batches, begun_of, contents_of, directory_of, folders_of, found_of, has_failed, moments_of, queue_of, refusals_of}
use Rattle.raft_log_engine.specs.Group.{accepted_in, chosen_of}
use Rattle.raft_log_engine.specs.Once as once
use Rattle.raft_log_engine.specs.Once.{IsActingOnce, IsOldOnce, IsStaleOnce, IsWriteOnce, acting_batch}
use Rattle.raft_log_engine.specs.declared.engine.Engine.{Engine}
use Rattle.raft_script.specs.Batches.{accepted_of, batch_of_acts, batches_of_op, is_covering, once_batch}
use Rattle.raft_script.specs.Durability.{Does}
use Rattle.raft_script.specs.Failure.{FailsBy, IsStorageOrMemory, is_io}
use Rattle.raft_script.specs.Run.{IsNew, IsOnceRefusal, IsOutOfNumbers, IsUnbuilt, IsWrittenOnce}
use Rattle.raft_script.specs.declared.operation.Act.{Act}
use Rattle.raft_script.specs.declared.operation.Op.{Op}
use Rattle.raft_script.specs.declared.operation.Op.TheVariants.{Write, WriteOnce}
use Rattle.raft_script.specs.declared.operation.Outcome.{Outcome}
use Rattle.raft_script.specs.declared.operation.Outcome.TheVariants.{Size}
use Rattle.raft_script.proofs.DurabilityLemmas.{alone, batches_more, progress_alone}
use Rattle.raft_script.proofs.RefusalLemmas.{write_rose}
use Rattle.raft_script.proofs.RunLemmas.{of_built, same_err}
use Rattle.raft_script.proofs.StepsLemmas.{after-append, found_same, in_flight}

-- A write.

module _ {F H R W : Type 0} {g : Ghosts F H R W} (old new : Engine F H R W g) where
  -- it fails an engine by storage or for lack of memory alone
  pub write_fails : (items rest : Batch) (sync : Bool) (result : Result ℕ Fault) (Other : Fault → Type 0) → IsWrite items rest sync old new result → FailsBy (has_failed old) result (has_failed new) Other
  write_fails items rest sync result Other write = record {
    still = λ gone. (write.unchanged gone).0.failed;
    only_failed = write.failed.0;
    refused = λ gone. inl (write.failed.1 gone);
    cause = by_result result write;
  }
    where
      by_fault : (e : Fault) → engine.IsWriteRefusal (folders_of old) (queue_of new) (contents_of old) items (has_failed new) (refusals_of old) (refusals_of new) e → has_failed new ≡ true → IsStorageOrMemory e
      by_fault (fault.InvalidArgument text) h dies = absurd (let clash = sym dies ∙ h.1 in cc)
      by_fault (fault.Io kind path) h dies = tt
      by_fault fault.Memory h dies = tt
      by_fault fault.Gap h dies = absurd (let clash = sym dies ∙ h.1 in cc)
      by_fault fault.Range h dies = absurd (let clash = sym dies ∙ h.1 in cc)
      by_fault fault.TryAgain h dies = absurd (let clash = sym dies ∙ h.2 in cc)
      by_fault _ h dies = absurd h.1

      by_result : (result : Result ℕ Fault) → IsWrite items rest sync old new result → has_failed old ≡ false → has_failed new ≡ true → IsErrAnd result IsStorageOrMemory
      by_result (Ok len) write alive dies = absurd (let clash = sym dies ∙ write.ok.stands in cc)
      by_result (Err e) write alive dies = by_fault e (write.cause alive) dies

  -- of this batch, and of no other that may be in flight
  pub does_write : (op : Op) (batch : Batch) (covers : Bool) (result : Result ℕ Fault) → batches_of_op (contents_of old) op ≡ batch ∷ [] → is_covering op (Size result) ≡ covered_by result covers
      → Advances (accepted_by result (written_batch batch)) (covered_by result covers) (pending_of (contents_of old) batch) (state_of old) (state_of new)
      → (has_failed old ≡ true → moments_of new ≡ moments_of old) → Does op (Size result) old new
  does_write op batch covers result is covering advance stays =
      let m = contents_of old in
      let flight = chosen_of m (true ∷ []) (batch ∷ []) in
      let may_be : ∥ ((choice : List Bool) × (flight ≡ chosen_of m choice (batches_of_op m op))) ∥₁ = ∣ (true ∷ [], ap (chosen_of m (true ∷ [])) (sym is)) ∣₁ in
      record {
        flight = flight;
        may_be = may_be;
        progress = subst (λ (l : List Batch). Progresses (accepted_in (result ∷ []) l) (is_covering op (Size result)) flight (durability_of old) (durability_of new)) (sym is)
            (subst (λ (b : Bool). Progresses (accepted_in (result ∷ []) (batch ∷ [])) b flight (durability_of old) (durability_of new)) (sym covering)
            (progress_alone m batch batch refl result covers (durability_of old) (durability_of new) advance.progress));
        moments = λ alive. in_flight old op flight (pending_of m batch) (moments_of new) (directory_of new) may_be (alone m batch batch refl) advance.any_moment.throughout;
        rests = stays;
      }

  -- an engine that stands after an operation holds what it accepted
  pub does_contents : (op : Op) (outcome : Outcome) → Does op outcome old new → folders_of new ≡ folders_of old → begun_of new ≡ begun_of old → has_failed new ≡ false
      → contents_of new ≡ after_batches (contents_of old) (accepted_of (contents_of old) op outcome)
  does_contents op outcome does folders begun stands =
      let accepted = accepted_of (contents_of old) op outcome in
      ap (λ (f : Contents). after_batches f (all_batches new)) (found_same new old folders begun)
      ∙ ap (after_batches (found_of old)) (batches_more accepted (is_covering op outcome) does.flight (durability_of old) (durability_of new) does.progress stands)
      ∙ after-append (found_of old) (all_batches old) accepted

-- a write's answer covers where a sync was asked
pub covered_write : (acts : Vec Act Global) (sync : Bool) (result : Result ℕ Fault) → is_covering (Write acts sync) (Size result) ≡ covered_by result sync
covered_write acts sync (Ok len) = refl
covered_write acts sync (Err e) = refl

-- A write with numbers.

module _ {F H R W : Type 0} {g : Ghosts F H R W} (old new : Engine F H R W g) (acts : Vec Act Global) (pairs : Vec Pair Global) (sync : Bool) (items rest : Batch) (built : batch_of_acts acts.items ≡ Some items) where
  abbrev m : Contents
  m = contents_of old

  -- the engine stands, and no number is left
  abbrev NoneLeft : Type 0
  NoneLeft = (has_failed new ≡ false) × HasLastNumber (queue_of new)

  -- it is answered as the operation
  abbrev IsAnswered : Contents → Result ℕ Fault → Type 0
  IsAnswered x result = MatchResult result (IsWrittenOnce x acts.items pairs.items) (IsOnceRefusal NoneLeft x acts.items pairs.items sync)

  some : IsSome (batch_of_acts acts.items)
  some = subst IsSome (sym built) refl

  -- P holds of its batch, whose numbers are new
  new_built : (P : Batch → Type 0) → are_unfit pairs.items ≡ false → are_new m pairs.items ≡ true → P items → IsNew m acts.items pairs.items P
  new_built P fit new holds = (fit, new, of_built P acts.items items built holds)

  unfit_answered : (result : Result ℕ Fault) → are_unfit pairs.items ≡ true → IsErrAnd result (λ e. fault_code e ≡ 1) → IsAnswered m result
  unfit_answered (Ok len) unfit refused = absurd refused
  unfit_answered (Err e) unfit refused = by_code e refused
    where
      by_code : (e : Fault) → fault_code e ≡ 1 → IsOnceRefusal NoneLeft m acts.items pairs.items sync e
      by_code (fault.InvalidArgument text) code = inr (inl unfit)
      by_code _ code = absurd (omega (arith, code))

  stale_answered : (result : Result ℕ Fault) → IsStaleOnce pairs.items old new result → IsAnswered m result
  stale_answered (Ok len) stale = absurd (let clash = stale.refused in cc)
  stale_answered (Err e) stale =
      let e_is : e ≡ fault.StaleNumber = same_err (Err e) refl stale.refused in
      subst (IsOnceRefusal NoneLeft m acts.items pairs.items sync) (sym e_is) (stale.fit, stale.not_old, stale.not_new, some)

  refused_answered : (result : Result ℕ Fault) → are_unfit pairs.items ≡ false → are_new m pairs.items ≡ true → IsErrAnd result (once.IsOnceRefusal m items) → IsAnswered m result
  refused_answered (Ok len) fit new cause = absurd cause
  refused_answered (Err e) fit new cause = by_fault e cause
    where
      by_fault : (e : Fault) → once.IsOnceRefusal m items e → IsOnceRefusal NoneLeft m acts.items pairs.items sync e
      by_fault (fault.InvalidArgument text) h = inr (inr (new_built (λ batch. meets_number m batch ≡ true) fit new h))
      by_fault fault.Gap h = new_built (λ batch. batch_refusal m batch ≡ Some fault.Gap) fit new h.1
      by_fault fault.Range h = inr (new_built (λ batch. IsOutOfNumbers NoneLeft m (numbered batch pairs.items)) fit new (inl (inl (numbered_refusal m items pairs.items ∙ h.1))))
      by_fault fault.Memory h = tt
      by_fault _ h = absurd h

  old_answered : (result : Result ℕ Fault) → has_failed old ≡ false → IsOldOnce pairs.items sync old new result → IsAnswered m result
  old_answered (Ok len) alive late = (items, built, late.fit, inl (late.numbers, late.write.ok.len_is))
  old_answered (Err e) alive late = by_fault e (late.write.memory alive refl).1
    where
      asked : (b : Bool) → sync ≡ b → sync ≡ true
      asked true is = is
      asked false is = absurd (let clash = ((late.write.memory alive refl).0 is).0 in cc)

      by_fault : (e : Fault) → FailsCountedAt (NamesLog (folders_of old)) (refusals_of old) (refusals_of new) e → IsOnceRefusal NoneLeft m acts.items pairs.items sync e
      by_fault (fault.Io kind path) h = inl (asked sync refl, (late.fit, late.numbers, some))
      by_fault fault.Memory h = tt
      by_fault _ h = absurd h

  acting_answered : (result : Result ℕ Fault) → has_failed old ≡ false → IsActingOnce items pairs.items sync old new result → IsAnswered m result
  acting_answered (Ok len) alive a = (items, built, a.fit, inr (a.numbers, a.plain, a.valid, a.write.ok.len_is))
  acting_answered (Err e) alive a = by_fault e a.taken (a.write.cause alive)
    where
      by_fault : (e : Fault) → (fault_code e ≡ 1 → ⊥) → engine.IsWriteRefusal (folders_of old) (queue_of new) m (numbered items pairs.items) (has_failed new) (refusals_of old) (refusals_of new) e
          → IsOnceRefusal NoneLeft m acts.items pairs.items sync e
      by_fault (fault.InvalidArgument text) taken h = absurd (taken refl)
      by_fault (fault.Io kind path) taken h = inr (new_built (λ batch. engine.IsWritable m (numbered batch pairs.items)) a.fit a.numbers h.0)
      by_fault fault.TryAgain taken h = new_built (λ batch. engine.IsWritable m (numbered batch pairs.items)) a.fit a.numbers h.0
      by_fault fault.Memory taken h = tt
      by_fault fault.Gap taken h = absurd (let clash = sym a.valid ∙ sym (numbered_refusal m items pairs.items) ∙ h.0 in cc)
      by_fault fault.Range taken h = inr (new_built (λ batch. IsOutOfNumbers NoneLeft m (numbered batch pairs.items)) a.fit a.numbers (elim h.0 [
        | inl out ↦ inl out
        | inr last ↦ inr (last.0, (h.1, last.1))
      ]))
      by_fault _ taken h = absurd h.1

  module _ (result : Result ℕ Fault) (w : IsWriteOnce items rest pairs.items sync old new result) where
    pub once_answered : (x : Contents) → (has_failed old ≡ false → x ≡ m) → IsAnswered x result
    once_answered x same = elim (cases_Bool (has_failed old)) [
      | inl gone ↦ failed_answered result (w.failed.1 gone)
      | inr alive ↦ subst (λ (c : Contents). IsAnswered c result) (sym (same alive)) (elim (w.answer alive) [
        | inl unfit ↦ unfit_answered result unfit.unfit unfit.refused
        | inr (inl late) ↦ old_answered result alive late
        | inr (inr (inl stale)) ↦ stale_answered result stale
        | inr (inr (inr (inl refused))) ↦ refused_answered result refused.fit refused.numbers refused.cause
        | inr (inr (inr (inr acting))) ↦ acting_answered result alive acting
      ])
    ]
      where
        failed_answered : (result : Result ℕ Fault) → result ≡ Err fault.Failed → IsAnswered x result
        failed_answered (Ok len) told = absurd (let clash = told in cc)
        failed_answered (Err e) told =
            let e_is : e ≡ fault.Failed = same_err (Err e) refl told in
            subst (IsOnceRefusal NoneLeft x acts.items pairs.items sync) (sym e_is) some

    -- it fails an engine as a write does
    pub once_fails : FailsBy (has_failed old) result (has_failed new) (IsUnbuilt acts.items)
    once_fails = record {
      still = λ gone. (w.unchanged gone).failed;
      only_failed = w.failed.0;
      refused = λ gone. inl (w.failed.1 gone);
      cause = λ alive dies. elim (w.answer alive) [
        | inl unfit ↦ absurd (unchanged alive dies unfit.same)
        | inr (inl late) ↦ (write_fails old new [] [] sync result (IsUnbuilt acts.items) late.write).cause alive dies
        | inr (inr (inl stale)) ↦ absurd (unchanged alive dies stale.same)
        | inr (inr (inr (inl refused))) ↦ absurd (unchanged alive dies refused.same)
        | inr (inr (inr (inr acting))) ↦ (write_fails old new (numbered items pairs.items) acting.copied sync result (IsUnbuilt acts.items) acting.write).cause alive dies
      ];
    }
      where
        unchanged : has_failed old ≡ false → has_failed new ≡ true → new ≡ old → ⊥
        unchanged alive dies same = let clash = sym dies ∙ ap has_failed same ∙ alive in cc

    -- that storage fails is counted
    pub once_rose : is_io result ≡ true → RoseBy 1 (refusals_of old) (refusals_of new)
    once_rose io = elim (cases_Bool (has_failed old)) [
      | inl gone ↦ absurd (none result (inl (w.failed.1 gone)) io)
      | inr alive ↦ elim (w.answer alive) [
        | inl unfit ↦ absurd (none result (inr (inl unfit.refused)) io)
        | inr (inl late) ↦ rose [] [] late.write
        | inr (inr (inl stale)) ↦ absurd (none_stale result stale.refused io)
        | inr (inr (inr (inl refused))) ↦ absurd (none result (inr (inr refused.cause)) io)
        | inr (inr (inr (inr acting))) ↦ rose (numbered items pairs.items) acting.copied acting.write
      ]
    ]
      where
        rose : (batch left : Batch) → IsWrite batch left sync old new result → RoseBy 1 (refusals_of old) (refusals_of new)
        rose batch left write = write_rose (folders_of old) (queue_of new) m batch (has_failed old) (has_failed new) (refusals_of old) (refusals_of new) result write.failed write.cause io

        none_stale : (result : Result ℕ Fault) → result ≡ Err fault.StaleNumber → is_io result ≡ true → ⊥
        none_stale (Ok len) told io = let clash = io in cc
        none_stale (Err e) told io = let clash = subst (λ (f : Fault). is_io {T = ℕ} (Err f) ≡ true) (same_err (Err e) refl told) io in cc

        by_fault : (e : Fault) → (e ≡ fault.Failed) ⊎ (fault_code e ≡ 1) ⊎ once.IsOnceRefusal m items e → is_io {T = ℕ} (Err e) ≡ true → ⊥
        by_fault (fault.Io kind path) (inl told) io = let clash = told in cc
        by_fault (fault.Io kind path) (inr (inl code)) io = omega (arith, code)
        by_fault (fault.Io kind path) (inr (inr cause)) io = cause
        by_fault fault.TryAgain (inl told) io = let clash = told in cc
        by_fault fault.TryAgain (inr (inl code)) io = omega (arith, code)
        by_fault fault.TryAgain (inr (inr cause)) io = cause
        by_fault _ why io = let clash = io in cc

        none : (result : Result ℕ Fault) → (result ≡ Err fault.Failed) ⊎ IsErrAnd result (λ e. fault_code e ≡ 1) ⊎ IsErrAnd result (once.IsOnceRefusal m items) → is_io result ≡ true → ⊥
        none (Ok len) why io = let clash = io in cc
        none (Err e) (inl told) io = by_fault e (inl (same_err (Err e) refl told)) io
        none (Err e) (inr (inl code)) io = by_fault e (inr (inl code)) io
        none (Err e) (inr (inr cause)) io = by_fault e (inr (inr cause)) io

    -- what it has done
    pub once_does : are_numbers pairs.items ≡ true → Does (WriteOnce acts pairs sync) (Size result) old new
    once_does numbers = does_write old new (WriteOnce acts pairs sync) (acting_batch m items pairs.items) sync result
        (ap (λ (b : Batch). b ∷ []) (ap (λ (o : Option Batch). once_batch m o pairs.items) built ∙ ap (λ (b : Bool). if b then acting_batch m items pairs.items else []) numbers)) (covering result) w.advance (λ gone. (w.unchanged gone).moments)
      where
        covering : (result : Result ℕ Fault) → is_covering (WriteOnce acts pairs sync) (Size result) ≡ covered_by result sync
        covering (Ok len) = refl
        covering (Err e) = refl
