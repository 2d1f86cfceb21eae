-- Why calls are refused, by what the engine says of them.
use Rattle.std.specs.Borrow.{Bor}
use Rattle.std.proofs.Common.{◌≡◌, ◌⊎◌, ◌∙◌, ℕ, Bool, true, false, List, [], ◌++◌, Ok, Err, Some, None, Option, refl, sym, ap, subst, arith, inl, inr}
use Rattle.std.specs.Prelude.{◌↔◌, Result, ℤ, option_map, pos}
use Rattle.raft_base.specs.Fault.{fault_code}
use Rattle.raft_base.specs.declared.errors.Fault.{Fault}
use Rattle.raft_base.specs.declared.errors.Fault.TheVariants as fault
use Rattle.raft_env.specs.Moments.{MovesBy, OnlyReads}
use Rattle.raft_env.specs.Refusal.{FailsCountedAt}
use Rattle.raft_env.specs.declared.env.FileSystem.{Ghosts}
use Rattle.raft_records.specs.Item.{Batch}
use Rattle.raft_pipes.specs.Folder.{LeavesOtherFiles}
use Rattle.raft_pipes.specs.Queue.{NamesLog}
use Rattle.raft_queues.specs.PassedOver.{LeavesPassedOver}
use Rattle.raft_crash_laws.specs.Crash.{LeavesAllowed, RecoversContents}
use Rattle.raft_log_engine.specs.Engine.{directory_of, durable_of, folders_of, has_failed, refusals_of, unsynced_of}
use Rattle.raft_log_engine.specs.declared.engine.Engine.{Engine}
use Rattle.raft_log_engine.specs.declared.engine.Refused.{Refused}
use Rattle.raft_c_batch.specs.Batch.{read_batch}
use Rattle.raft_c_batch.specs.Refusals.{IsBatchRefusal}
use Rattle.raft_c_batch.specs.declared.batch.BatchFault.{BatchFault}
use Rattle.raft_c_batch.specs.declared.batch.BatchFault.TheVariants.{Malformed, Refused as Unfit}
use Rattle.raft_c_log.specs.Closing.{IsClosedAs}
use Rattle.raft_c_log.specs.Refusals.{IsRefusalFor}
use Rattle.raft_c_log.proofs.CodeLemmas.{code_of, failed_code, fault_code_some}

-- the refusal of a call that fails for lack of memory alone
pub for_memory : {T : Type 0} {failed : Bool} {e : Fault} → (◌≡◌ {A = Result T Fault} (Err e) (Err fault.Failed) ↔ (failed ≡ true)) → (e ≡ fault.Failed) ⊎ (e ≡ fault.Memory) → IsRefusalFor failed (λ f. f ≡ fault.Memory) e
for_memory {failed = true} told by = inl (refl, (let same = told.1 refl in cc))
for_memory {failed = false} told (inl is) = absurd (let fails : false ≡ true = told.0 (ap Err is) in cc)
for_memory {failed = false} told (inr is) = inr (refl, is)

-- .. and of one that hands something back beside the fault
pub for_fault : (failed : Bool) (cause : Fault → Type 0) (e : Fault) → ((e ≡ fault.Failed) ↔ (failed ≡ true)) → (failed ≡ false → cause e) → IsRefusalFor failed cause e
for_fault true cause e told by = inl (refl, told.1 refl)
for_fault false cause e told by = inr (refl, by refl)

-- an engine that answered hasn't failed
pub stands : {T : Type 0} {failed : Bool} {x : T} → (◌≡◌ {A = Result T Fault} (Ok x) (Err fault.Failed) ↔ (failed ≡ true)) → failed ≡ false
stands {failed = false} told = refl
stands {failed = true} told = absurd (let fails = told.1 refl in cc)

-- the batch that was taken from bytes
pub taken_items : {old items : Batch} {taken : Option Batch} → old ≡ [] → option_map (λ xs. old ++ xs) taken ≡ Some items → taken ≡ Some items
taken_items {taken = None} empty is = absurd cc
taken_items {taken = Some xs} empty is = sym (ap (λ (ys : Batch). Some (ys ++ xs)) empty) ∙ is

-- bytes of no batch, by the fault that is told of them
pub none_taken : (old : Batch) (bytes : List ℕ) (b : BatchFault) → b ≡ Malformed → IsBatchRefusal old bytes b → read_batch bytes ≡ None
none_taken old bytes b is refused = subst (IsBatchRefusal old bytes) is refused

pub invalid_code : {T : Type 0} {text : Bor (List ℕ)} {e : Fault} → ◌≡◌ {A = Result T Fault} (Err (fault.InvalidArgument text)) (Err e) → fault_code e ≡ 1
invalid_code {text} {e} is = let same : e ≡ fault.InvalidArgument text = (let whole = is in cc) in ap fault_code same

-- an item that a batch doesn't take
pub item_refused : (old : Batch) (bytes : List ℕ) (b : BatchFault) (e : Fault) → old ≡ [] → b ≡ Unfit e → IsBatchRefusal old bytes b → IsBatchRefusal [] bytes (Unfit e)
item_refused old bytes b e empty is refused =
    subst (λ (items : Batch). IsBatchRefusal items bytes (Unfit e)) empty (subst (IsBatchRefusal old bytes) is refused)

module _ {F H R W : Type 0} {g : Ghosts F H R W} where
  -- a close that was refused
  pub close_refused : {code : ℤ} (e : Engine F H R W g) (r : Refused F) → code ≡ pos (fault_code r.fault) → RecoversContents (folders_of e) (durable_of e) (unsynced_of e) (g.directory r.file_system)
      → MovesBy g.directory g.moments g.refusals_of (λ _. LeavesAllowed (folders_of e) (durable_of e) (unsynced_of e)) e.log.store.file_system r.file_system → ((r.fault ≡ fault.Failed) ↔ (has_failed e ≡ true))
      → (has_failed e ≡ false → FailsCountedAt (NamesLog (folders_of e)) (refusals_of e) (g.refusals_of r.file_system) r.fault) → (has_failed e ≡ true → OnlyReads g.directory g.moments g.refusals_of e.log.store.file_system r.file_system)
      → LeavesOtherFiles (folders_of e) (directory_of e) (g.directory r.file_system) → LeavesPassedOver e.log.store.pipes (directory_of e) (g.directory r.file_system) → IsClosedAs code e r.file_system
  close_refused {code} e r is keeps moments told by same others passed = record {
    ok = λ done. absurd (refuses done);
    err = λ other. record { fails = r.fault; code_is = is; cause = for_fault (has_failed e) (FailsCountedAt (NamesLog (folders_of e)) (refusals_of e) (g.refusals_of r.file_system)) r.fault told by; keeps = keeps };
    failed = failed_code r.fault is told;
    any_moment = moments;
    together = λ done. absurd (refuses done);
    completed = λ done. absurd (refuses done);
    unchanged = same;
    others = others;
    passed = passed;
  }
    where
      refuses : code ≡ pos 0 → ⊥
      refuses done = let none = code_of r.fault is done in let some = fault_code_some r.fault in omega (arith, none, some)
