-- That storage counted the calls that operations failed in.
use Rattle.std.proofs.Common.{◌≡◌, ℕ, Bool, true, false, inl, inr, refl, subst, arith}
use Rattle.std.specs.Prelude.{◌↔◌, IfErr, Result, Ok, Err}
use Rattle.std.proofs.lemmas.Bool.{cases_Bool}
use Rattle.raft_base.specs.declared.errors.Fault.{Fault}
use Rattle.raft_base.specs.declared.errors.Fault.TheVariants as fault
use Rattle.raft_env.specs.Refusal.{FailsCountedAt, Refusals, RoseBy}
use Rattle.raft_config.specs.Folders.{Folders}
use Rattle.raft_log_engine.specs.Cause as engine
use Rattle.raft_pipes.specs.PipeState.{PipeState}
use Rattle.raft_pipes.specs.Queue.{NamesLog}
use Rattle.raft_records.specs.Contents.{Contents}
use Rattle.raft_records.specs.Item.{Batch}
use Rattle.raft_script.specs.Failure.{is_io}
use Rattle.raft_script.proofs.RunLemmas.{same_err}

-- of an engine that hadn't failed by its cause, and of another one none
rose_for : {T : Type 0} (Cause : Fault → Type 0) (failed : Bool) (old new : Refusals) (result : Result T Fault) → ((result ≡ Err fault.Failed) ↔ (failed ≡ true)) → IfErr result (λ e. failed ≡ false → Cause e)
    → ((e : Fault) → Cause e → is_io {T = T} (Err e) ≡ true → RoseBy 1 old new) → is_io result ≡ true → RoseBy 1 old new
rose_for {T} Cause failed old new (Ok x) told cause rose io = absurd (let clash = io in cc)
rose_for {T} Cause failed old new (Err e) told cause rose io = elim (cases_Bool failed) [
  | inl gone ↦ absurd (let clash = subst (λ (f : Fault). is_io {T = T} (Err f) ≡ true) (same_err (Err e) refl (told.1 gone)) io in cc)
  | inr stands ↦ rose e (cause stands) io
]

-- a write
pub write_rose : (folders : Folders) (p : PipeState) (m : Contents) (items : Batch) (failed fails : Bool) (old new : Refusals) (result : Result ℕ Fault) → ((result ≡ Err fault.Failed) ↔ (failed ≡ true))
    → IfErr result (λ e. failed ≡ false → engine.IsWriteRefusal folders p m items fails old new e) → is_io result ≡ true → RoseBy 1 old new
write_rose folders p m items failed fails old new result told cause = rose_for (engine.IsWriteRefusal folders p m items fails old new) failed old new result told cause by_fault
  where
    by_fault : (e : Fault) → engine.IsWriteRefusal folders p m items fails old new e → is_io {T = ℕ} (Err e) ≡ true → RoseBy 1 old new
    by_fault (fault.Io kind path) h io = h.1.0
    by_fault fault.TryAgain h io = let twice = h.1 in omega (arith, twice)
    by_fault _ h io = absurd (let clash = io in cc)

-- a compaction
pub compaction_rose : (folders : Folders) (p : PipeState) (failed fails : Bool) (old new : Refusals) (result : Result ℕ Fault) → ((result ≡ Err fault.Failed) ↔ (failed ≡ true))
    → IfErr result (λ e. failed ≡ false → engine.IsAppendRefusal folders p fails old new e) → is_io result ≡ true → RoseBy 1 old new
compaction_rose folders p failed fails old new result told cause = rose_for (engine.IsAppendRefusal folders p fails old new) failed old new result told cause by_fault
  where
    by_fault : (e : Fault) → engine.IsAppendRefusal folders p fails old new e → is_io {T = ℕ} (Err e) ≡ true → RoseBy 1 old new
    by_fault (fault.Io kind path) h io = h.0.0
    by_fault fault.TryAgain h io = let twice = h.0 in omega (arith, twice)
    by_fault _ h io = absurd (let clash = io in cc)

-- a sync
pub sync_rose : {T : Type 0} (folders : Folders) (failed : Bool) (old new : Refusals) (result : Result T Fault) → ((result ≡ Err fault.Failed) ↔ (failed ≡ true))
    → IfErr result (λ e. failed ≡ false → FailsCountedAt (NamesLog folders) old new e) → is_io result ≡ true → RoseBy 1 old new
sync_rose {T} folders failed old new result told cause = rose_for (FailsCountedAt (NamesLog folders) old new) failed old new result told cause by_fault
  where
    by_fault : (e : Fault) → FailsCountedAt (NamesLog folders) old new e → is_io {T = T} (Err e) ≡ true → RoseBy 1 old new
    by_fault (fault.Io kind path) h io = h.0
    by_fault fault.TryAgain h io = absurd h
    by_fault _ h io = absurd (let clash = io in cc)
