-- What the engine says of a numbered write makes it legal in a history.
use Rattle.std.proofs.Common.{◌≡◌, ◌∙◌, ◌⊎◌, ◌≤◌, inl, inr, ℕ, cond, Bool, true, false, List, [], ◌∷◌, Result, Ok, Err, IfErr, IsErrAnd, arith, refl, subst, sym, ap}
use Rattle.std.specs.Prelude.{nat_le, nat_lt}
use Rattle.std.proofs.lemmas.Bool.{and_parts, false≢true, leb-true, ltb-true}
use Rattle.raft_base.specs.Fault.{fault_code}
use Rattle.raft_base.specs.declared.errors.Fault.{Fault}
use Rattle.raft_base.specs.declared.errors.Fault.TheVariants as fault
use Rattle.raft_env.specs.Refusal.{FailsCountedAt, Refusals}
use Rattle.raft_env.specs.declared.env.FileSystem.{Ghosts}
use Rattle.raft_config.specs.Folders.{Folders}
use Rattle.raft_pipes.specs.PipeState.{last_seq}
use Rattle.raft_pipes.specs.Queue.{NamesLog}
use Rattle.raft_records.specs.Contents.{Contents, after_batch}
use Rattle.raft_records.specs.Item.{Batch}
use Rattle.raft_once.specs.Numbers.{Pair, are_new, are_old, are_unfit, meets_number, number_of, numbered}
use Rattle.raft_once.proofs.BatchLemmas.{numbered_refusal, plain_meets_none}
use Rattle.raft_log_engine.specs.Calls.{IsWrite}
use Rattle.raft_log_engine.specs.Engine.{contents_of, folders_of, has_failed, queue_of, refusals_of}
use Rattle.raft_log_engine.specs.Once.{IsActingOnce, IsOldOnce, IsOnceRefusal, IsRefusedOnce, IsStaleOnce, IsUnfitOnce, IsWriteOnce}
use Rattle.raft_log_engine.specs.declared.engine.Engine.{Engine}
use Rattle.raft_shared.specs.Begun.{CountsRefusals, lacks_numbers, lacks_numbers_in}
use Rattle.raft_shared.specs.History.{Answer, IsCallersAnswer, IsLegalCall, IsOldAnswer, IsOnceAnswer, Size, WriteOnce, after_event, is_storage_refusal, refused}
use Rattle.raft_shared.specs.Words.{answer_by, reason_of, without_path}
use Rattle.raft_shared.proofs.CallLemmas.{call_ends, counts_none, err_is, refused_invalid, write_answered, write_counts, write_goes_on}

-- what is asked for by a copy
pub once_asked : {items items' : Batch} {pairs pairs' : List Pair} (sync : Bool) → items ≡ items' → pairs ≡ pairs' → WriteOnce items pairs sync ≡ WriteOnce items' pairs' sync
once_asked sync same same' i = WriteOnce (same i) (same' i) sync

-- numbers aren't old and new
never_both : (m : Contents) (pairs : List Pair) → are_unfit pairs ≡ false → are_old m pairs ≡ true → are_new m pairs ≡ true → ⊥
never_both m [] fit old new = false≢true (sym fit)
never_both m (p ∷ ps) fit old new =
    let low = leb-true p.1 (number_of m p.0) (and_parts (nat_le p.1 (number_of m p.0)) (are_old m ps) old).0 in
    let high = ltb-true (number_of m p.0) p.1 (and_parts (nat_lt (number_of m p.0) p.1) (are_new m ps) new).0 in
    omega (arith, low, high)

false_unless : (b : Bool) → (b ≡ true → ⊥) → b ≡ false
false_unless true never = absurd (never refl)
false_unless false never = refl

old_not_new : (m : Contents) (pairs : List Pair) → are_unfit pairs ≡ false → are_old m pairs ≡ true → are_new m pairs ≡ false
old_not_new m pairs fit old = false_unless (are_new m pairs) (λ new. never_both m pairs fit old new)

new_not_old : (m : Contents) (pairs : List Pair) → are_unfit pairs ≡ false → are_new m pairs ≡ true → are_old m pairs ≡ false
new_not_old m pairs fit new = false_unless (are_old m pairs) (λ old. never_both m pairs fit old new)

-- a sync is refused, where there is nothing to write
old_refused : (folders : Folders) (old new : Refusals) (e : Fault) (fails : Bool) → FailsCountedAt (NamesLog folders) old new e → fails ≡ true → IsOldAnswer true (Size (Err (without_path (reason_of e)))) fails
old_refused folders old new (fault.Io kind text) fails cause halts = (refl, refl, halts)
old_refused folders old new fault.Memory fails cause halts = (refl, halts)
old_refused folders old new (fault.InvalidArgument text) fails cause halts = absurd cause
old_refused folders old new fault.Corruption fails cause halts = absurd cause
old_refused folders old new fault.TryAgain fails cause halts = absurd cause
old_refused folders old new fault.Gap fails cause halts = absurd cause
old_refused folders old new fault.Range fails cause halts = absurd cause
old_refused folders old new fault.EntryCompacted fails cause halts = absurd cause
old_refused folders old new fault.EntryNotFound fails cause halts = absurd cause
old_refused folders old new fault.WrongIndex fails cause halts = absurd cause
old_refused folders old new fault.Parse fails cause halts = absurd cause
old_refused folders old new fault.Failed fails cause halts = absurd cause
old_refused folders old new fault.Lz4 fails cause halts = absurd cause
old_refused folders old new fault.FileOutOfRange fails cause halts = absurd cause
old_refused folders old new fault.NotRecovered fails cause halts = absurd cause
old_refused folders old new fault.TrailFull fails cause halts = absurd cause
old_refused folders old new fault.Layer fails cause halts = absurd cause
old_refused folders old new fault.StaleNumber fails cause halts = absurd cause

module _ (m : Contents) (ended : Bool) (items : Batch) (pairs : List Pair) (sync : Bool) (answer : Answer) (fails : Bool) where
  -- an answer, by what the numbers are
  answer_at : (unfit old new : Bool) → are_unfit pairs ≡ unfit → are_old m pairs ≡ old → are_new m pairs ≡ new → IsOnceAnswer unfit old new m ended items pairs sync answer fails
      → IsOnceAnswer (are_unfit pairs) (are_old m pairs) (are_new m pairs) m ended items pairs sync answer fails
  answer_at unfit old new a b c legal =
      subst (λ x. IsOnceAnswer x (are_old m pairs) (are_new m pairs) m ended items pairs sync answer fails) (sym a)
      (subst (λ x. IsOnceAnswer unfit x (are_new m pairs) m ended items pairs sync answer fails) (sym b)
      (subst (λ x. IsOnceAnswer unfit old x m ended items pairs sync answer fails) (sym c) legal))

callers_at : (m : Contents) (ended : Bool) (items : Batch) (pairs : List Pair) (answer : Answer) (fails : Bool) (met : Bool) → meets_number m items ≡ met → IsCallersAnswer met m ended (numbered items pairs) answer fails
    → IsCallersAnswer (meets_number m items) m ended (numbered items pairs) answer fails
callers_at m ended items pairs answer fails met is legal = subst (λ x. IsCallersAnswer x m ended (numbered items pairs) answer fails) (sym is) legal

-- a batch with numbers isn't empty
numbered_some : (items : Batch) (pairs : List Pair) → are_unfit pairs ≡ false → numbered items pairs ≡ [] → ⊥
numbered_some [] [] fit none = absurd (false≢true (sym fit))
numbered_some [] (p ∷ ps) fit none = absurd (cc none)
numbered_some (item ∷ items) pairs fit none = absurd (cc none)

-- a batch with new numbers that isn't written, and that storage has no part in it
refused_as : (m : Contents) (ended : Bool) (items : Batch) (pairs : List Pair) (fails : Bool) (e : Fault) → are_unfit pairs ≡ false → fails ≡ false → IsOnceRefusal m items e
    → IsCallersAnswer (meets_number m items) m ended (numbered items pairs) (Size (Err (without_path (reason_of e)))) fails × (is_storage_refusal (Size (Err (without_path (reason_of e)))) ≡ false)
refused_as m ended items pairs fails (fault.InvalidArgument text) fit stands cause = (callers_at m ended items pairs _ fails true cause (refl, stands), refl)
refused_as m ended items pairs fails fault.Gap fit stands cause = (callers_at m ended items pairs _ fails false cause.0 (numbered_refusal m items pairs ∙ cause.1, stands), refl)
refused_as m ended items pairs fails fault.Range fit stands cause = (callers_at m ended items pairs _ fails false cause.0 (inl (numbered_refusal m items pairs ∙ cause.1), stands), refl)
refused_as m ended items pairs fails fault.Memory fit stands cause = (callers_at m ended items pairs _ fails false (plain_meets_none m items cause.0) (numbered_refusal m items pairs ∙ cause.1, (λ none. absurd (numbered_some items pairs fit none))), refl)
refused_as m ended items pairs fails fault.Corruption fit stands cause = absurd cause
refused_as m ended items pairs fails (fault.Io kind text) fit stands cause = absurd cause
refused_as m ended items pairs fails fault.TryAgain fit stands cause = absurd cause
refused_as m ended items pairs fails fault.EntryCompacted fit stands cause = absurd cause
refused_as m ended items pairs fails fault.EntryNotFound fit stands cause = absurd cause
refused_as m ended items pairs fails fault.WrongIndex fit stands cause = absurd cause
refused_as m ended items pairs fails fault.Parse fit stands cause = absurd cause
refused_as m ended items pairs fails fault.Failed fit stands cause = absurd cause
refused_as m ended items pairs fails fault.Lz4 fit stands cause = absurd cause
refused_as m ended items pairs fails fault.FileOutOfRange fit stands cause = absurd cause
refused_as m ended items pairs fails fault.NotRecovered fit stands cause = absurd cause
refused_as m ended items pairs fails fault.TrailFull fit stands cause = absurd cause
refused_as m ended items pairs fails fault.Layer fit stands cause = absurd cause
refused_as m ended items pairs fails fault.StaleNumber fit stands cause = absurd cause

module _ {F H R W : Type 0} {g : Ghosts F H R W} where
  old_answered : (sync : Bool) (old new : Engine F H R W g) (result : Result ℕ Fault) → IsWrite [] [] sync old new result → has_failed old ≡ false → IsOldAnswer sync (Size (answer_by (λ n. n) result)) (has_failed new)
  old_answered sync old new (Ok size) write is = (write.ok.len_is, write.ok.stands)
  old_answered true old new (Err e) write is = old_refused (folders_of old) (refusals_of old) (refusals_of new) e (has_failed new) (write.memory is refl).1 (write.halts refl)
  old_answered false old new (Err e) write is = absurd (let clash = ((write.memory is refl).0 refl).0 in cc)

  -- an engine that stands after a numbered write stood before it
  once_stood : {items rest : Batch} {pairs : List Pair} {sync : Bool} {old new : Engine F H R W g} {result : Result ℕ Fault} → IsWriteOnce items rest pairs sync old new result → has_failed new ≡ false → has_failed old ≡ false
  once_stood {old = old} w stands = stood (has_failed old) refl
    where
      stood : (was : Bool) → has_failed old ≡ was → was ≡ false
      stood true is = absurd (false≢true (sym stands ∙ (w.unchanged is).failed))
      stood false is = refl

  -- what an engine that stands answers
  once_answered : (items rest : Batch) (pairs : List Pair) (sync : Bool) (old new : Engine F H R W g) (result : Result ℕ Fault) → IsWriteOnce items rest pairs sync old new result
      → (ended : Bool) → (has_failed new ≡ false → ended ≡ lacks_numbers new) → has_failed old ≡ false
      → IsOnceAnswer (are_unfit pairs) (are_old (contents_of old) pairs) (are_new (contents_of old) pairs) (contents_of old) ended items pairs sync (Size (answer_by (λ n. n) result)) (has_failed new)
  once_answered items rest pairs sync old new result w ended numbers is = by (w.answer is)
    where
      Legal : Bool → Bool → Bool → Type 0
      Legal unfit late fresh = IsOnceAnswer unfit late fresh (contents_of old) ended items pairs sync (Size (answer_by (λ n. n) result)) (has_failed new)

      at : (unfit late fresh : Bool) → are_unfit pairs ≡ unfit → are_old (contents_of old) pairs ≡ late → are_new (contents_of old) pairs ≡ fresh → Legal unfit late fresh → Legal (are_unfit pairs) (are_old (contents_of old) pairs) (are_new (contents_of old) pairs)
      at = answer_at (contents_of old) ended items pairs sync (Size (answer_by (λ n. n) result)) (has_failed new)

      stands : new ≡ old → has_failed new ≡ false
      stands same = ap has_failed same ∙ is

      refused_by : (r : Result ℕ Fault) → are_unfit pairs ≡ false → has_failed new ≡ false → IsErrAnd r (IsOnceRefusal (contents_of old) items)
          → IsCallersAnswer (meets_number (contents_of old) items) (contents_of old) ended (numbered items pairs) (Size (answer_by (λ n. n) r)) (has_failed new)
      refused_by (Ok size) fit fails cause = absurd cause
      refused_by (Err e) fit fails cause = (refused_as (contents_of old) ended items pairs (has_failed new) e fit fails cause).0

      by : IsUnfitOnce pairs old new result ⊎ IsOldOnce pairs sync old new result ⊎ IsStaleOnce pairs old new result ⊎ IsRefusedOnce items pairs old new result ⊎ IsActingOnce items pairs sync old new result
          → Legal (are_unfit pairs) (are_old (contents_of old) pairs) (are_new (contents_of old) pairs)
      by (inl u) = at true (are_old (contents_of old) pairs) (are_new (contents_of old) pairs) u.unfit refl refl (refused_invalid result u.refused, stands u.same)
      by (inr (inl o)) = at false true (are_new (contents_of old) pairs) o.fit o.numbers refl
          (old_answered sync old new result o.write is)
      by (inr (inr (inl s))) = at false false false s.fit s.not_old s.not_new (ap (λ r. Size (answer_by (λ n. n) r)) s.refused, stands s.same)
      by (inr (inr (inr (inl r)))) = at false false true r.fit (new_not_old (contents_of old) pairs r.fit r.numbers) r.numbers (refused_by result r.fit (stands r.same) r.cause)
      by (inr (inr (inr (inr a)))) = at false false true a.fit (new_not_old (contents_of old) pairs a.fit a.numbers) a.numbers
          (callers_at (contents_of old) ended items pairs _ (has_failed new) false (plain_meets_none (contents_of old) items a.plain)
          (write_answered (numbered items pairs) a.copied sync old new result a.write (contents_of old) refl ended numbers is
          (λ e err code met. subst (λ r. IfErr r (λ f. fault_code f ≡ 1 → ⊥)) err a.taken code)))

  pub once_is_legal : (seat : ℕ) (items rest : Batch) (pairs : List Pair) (sync : Bool) (old new : Engine F H R W g) (result : Result ℕ Fault) → IsWriteOnce items rest pairs sync old new result
      → (m : Contents) → (has_failed old ≡ false → contents_of old ≡ m) → (ended : Bool) → (has_failed new ≡ false → ended ≡ lacks_numbers new)
      → IsLegalCall m ended (has_failed old) (record { seat = seat; asked = WriteOnce items pairs sync; answer = Size (answer_by (λ n. n) result) }) (has_failed new)
  once_is_legal seat items rest pairs sync old new result w m holds ended numbers = once_at (has_failed old) refl
    where
      once_at : (was : Bool) → has_failed old ≡ was → IsLegalCall m ended was (record { seat = seat; asked = WriteOnce items pairs sync; answer = Size (answer_by (λ n. n) result) }) (has_failed new)
      once_at true is = (ap (λ r. Size (answer_by (λ n. n) r)) (w.failed.1 is), (w.unchanged is).failed)
      once_at false is =
          subst (λ x. IsOnceAnswer (are_unfit pairs) (are_old x pairs) (are_new x pairs) x ended items pairs sync (Size (answer_by (λ n. n) result)) (has_failed new)) (holds is)
          (once_answered items rest pairs sync old new result w ended numbers is)

  -- it comes to no earlier file
  once_goes_on : (items rest : Batch) (pairs : List Pair) (sync : Bool) (old new : Engine F H R W g) (result : Result ℕ Fault) → IsWriteOnce items rest pairs sync old new result → has_failed new ≡ false → last_seq (queue_of old) ≤ last_seq (queue_of new)
  once_goes_on items rest pairs sync old new result w stands = by (w.answer (once_stood w stands))
    where
      same_queue : new ≡ old → last_seq (queue_of old) ≤ last_seq (queue_of new)
      same_queue same = omega (arith, ap (λ (e : Engine F H R W g). last_seq (queue_of e)) same)

      by : IsUnfitOnce pairs old new result ⊎ IsOldOnce pairs sync old new result ⊎ IsStaleOnce pairs old new result ⊎ IsRefusedOnce items pairs old new result ⊎ IsActingOnce items pairs sync old new result
          → last_seq (queue_of old) ≤ last_seq (queue_of new)
      by (inl u) = same_queue u.same
      by (inr (inl o)) = write_goes_on [] [] sync old new result o.write stands
      by (inr (inr (inl s))) = same_queue s.same
      by (inr (inr (inr (inl r)))) = same_queue r.same
      by (inr (inr (inr (inr a)))) = write_goes_on (numbered items pairs) a.copied sync old new result a.write stands

  pub once_ends : (items rest : Batch) (pairs : List Pair) (sync : Bool) (old new : Engine F H R W g) (result : Result ℕ Fault) → IsWriteOnce items rest pairs sync old new result
      → (before after : List (Engine F H R W g)) → after ≡ cond (has_failed new) before (new ∷ []) → (has_failed old ≡ false → lacks_numbers_in before ≡ lacks_numbers old)
      → lacks_numbers_in before ≡ true → lacks_numbers_in after ≡ true
  once_ends items rest pairs sync old new result w = call_ends old new (once_stood w) (once_goes_on items rest pairs sync old new result w)

  -- the contents after it
  once_holds : (seat : ℕ) (items rest : Batch) (pairs : List Pair) (sync : Bool) (old new : Engine F H R W g) (result : Result ℕ Fault) → IsWriteOnce items rest pairs sync old new result → has_failed new ≡ false
      → contents_of new ≡ after_event (contents_of old) (record { seat = seat; asked = WriteOnce items pairs sync; answer = Size (answer_by (λ n. n) result) })
  once_holds seat items rest pairs sync old new (Ok size) w stands = by (w.answer (once_stood w stands))
    where
      After : Bool → Contents
      After fresh = cond fresh (after_batch (contents_of old) (numbered items pairs)) (contents_of old)

      by : IsUnfitOnce pairs old new (Ok size) ⊎ IsOldOnce pairs sync old new (Ok size) ⊎ IsStaleOnce pairs old new (Ok size) ⊎ IsRefusedOnce items pairs old new (Ok size) ⊎ IsActingOnce items pairs sync old new (Ok size)
          → contents_of new ≡ After (are_new (contents_of old) pairs)
      by (inl u) = absurd u.refused
      by (inr (inl o)) = o.write.ok.contents ∙ ap After (sym (old_not_new (contents_of old) pairs o.fit o.numbers))
      by (inr (inr (inl s))) = absurd (let clash = s.refused in cc)
      by (inr (inr (inr (inl r)))) = absurd r.cause
      by (inr (inr (inr (inr a)))) = a.write.ok.contents ∙ ap After (sym a.numbers)
  once_holds seat items rest pairs sync old new (Err e) w stands = by (w.answer (once_stood w stands))
    where
      by : IsUnfitOnce pairs old new (Err e) ⊎ IsOldOnce pairs sync old new (Err e) ⊎ IsStaleOnce pairs old new (Err e) ⊎ IsRefusedOnce items pairs old new (Err e) ⊎ IsActingOnce items pairs sync old new (Err e)
          → contents_of new ≡ contents_of old
      by (inl u) = ap contents_of u.same
      by (inr (inl o)) = (o.write.err stands).contents
      by (inr (inr (inl s))) = ap contents_of s.same
      by (inr (inr (inr (inl r)))) = ap contents_of r.same
      by (inr (inr (inr (inr a)))) = (a.write.err stands).contents

  pub once_leaves : (seat : ℕ) (items rest : Batch) (pairs : List Pair) (sync : Bool) (old new : Engine F H R W g) (result : Result ℕ Fault) → IsWriteOnce items rest pairs sync old new result
      → (m : Contents) → (has_failed old ≡ false → contents_of old ≡ m) → has_failed new ≡ false
      → contents_of new ≡ after_event m (record { seat = seat; asked = WriteOnce items pairs sync; answer = Size (answer_by (λ n. n) result) })
  once_leaves seat items rest pairs sync old new result w m holds stands =
      once_holds seat items rest pairs sync old new result w stands
      ∙ ap (λ x. after_event x (record { seat = seat; asked = WriteOnce items pairs sync; answer = Size (answer_by (λ n. n) result) })) (holds (once_stood w stands))

  -- what storage refused in it
  pub once_counts : (seat : ℕ) (items rest : Batch) (pairs : List Pair) (sync : Bool) (old new : Engine F H R W g) (result : Result ℕ Fault) → IsWriteOnce items rest pairs sync old new result
      → CountsRefusals (record { seat = seat; asked = WriteOnce items pairs sync; answer = Size (answer_by (λ n. n) result) } ∷ []) (refusals_of old) (refusals_of new)
  once_counts seat items rest pairs sync old new (Ok size) w = counts_none w.advance.any_moment.no_fewer
  once_counts seat items rest pairs sync old new (Err e) w = counted (has_failed old) refl
    where
      Counts : Fault → Type 0
      Counts f = CountsRefusals (record { seat = seat; asked = WriteOnce items pairs sync; answer = Size (Err (without_path (reason_of f))) } ∷ []) (refusals_of old) (refusals_of new)

      -- storage isn't what is answered
      unless_storage : (b : Bool) → is_storage_refusal (Size (Err (without_path (reason_of e)))) ≡ b → b ≡ false → Counts e
      unless_storage b is other = omega (arith, w.advance.any_moment.no_fewer.0, ap (λ x. refused x 0) (is ∙ other))

      by : IsUnfitOnce pairs old new (Err e) ⊎ IsOldOnce pairs sync old new (Err e) ⊎ IsStaleOnce pairs old new (Err e) ⊎ IsRefusedOnce items pairs old new (Err e) ⊎ IsActingOnce items pairs sync old new (Err e) → Counts e
      by (inl u) = unless_storage _ refl (ap is_storage_refusal (refused_invalid (Err e) u.refused))
      by (inr (inl o)) = write_counts seat [] [] sync old new (Err e) o.write
      by (inr (inr (inl s))) = subst Counts (sym (err_is s.refused)) (counts_none w.advance.any_moment.no_fewer)
      by (inr (inr (inr (inl r)))) = unless_storage _ refl (refused_as (contents_of old) false items pairs false e r.fit refl r.cause).1
      by (inr (inr (inr (inr a)))) = write_counts seat (numbered items pairs) a.copied sync old new (Err e) a.write

      counted : (was : Bool) → has_failed old ≡ was → Counts e
      counted true is = subst Counts (sym (err_is (w.failed.1 is))) (counts_none w.advance.any_moment.no_fewer)
      counted false is = by (w.answer is)
