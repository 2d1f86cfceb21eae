-- What an engine's answers say.
use Rattle.std.proofs.Common.{◌≡◌, ◌⊎◌, ℕ, List, [], ◌∷◌, None, Option, Some, Ok, Err, inl, inr, refl, subst, sym}
use Rattle.std.specs.Prelude.{IsSomeAnd, Result}
use Rattle.raft_base.specs.declared.errors.Fault.{Fault}
use Rattle.raft_env.specs.declared.env.FileSystem.{Ghosts}
use Rattle.raft_records.specs.Contents.{first_index_of, last_index_of}
use Rattle.raft_records.specs.Item.{Batch, Entry}
use Rattle.raft_log_engine.specs.declared.engine.Engine.{Engine}
use Rattle.raft_c_log.specs.Calls.{ComesTo, IsBatchCall, IsCall, IsCalled, IsKeptOff}
use Rattle.raft_c_log.specs.declared.answer.Answer.{Answer}
use Rattle.raft_c_log.specs.declared.calls.Change.{Change}
use Rattle.raft_c_log.specs.declared.calls.Change.TheVariants.{Write, WriteOnce, Sync, CompactTo, RewriteAppendQueue, RewriteAppendGroups, RewriteRewriteQueue, RewriteRewriteGroups, PurgeAllStale, PurgeExpired}

-- without a last entry there is no first one
pub no_last : (entries : List Entry) → last_index_of entries ≡ None → first_index_of entries ≡ None
no_last [] none = refl
no_last (e ∷ []) none = absurd cc
no_last (e ∷ (f ∷ es)) none = absurd (some_last f es none)
  where
    some_last : (f : Entry) (es : List Entry) → last_index_of (f ∷ es) ≡ None → ⊥
    some_last f [] is = absurd cc
    some_last f (h ∷ es) is = some_last h es is

-- a call that was answered so, or was refused
pub call_ok : {T : Type 0} {Clause : Result T Fault → Type 0} {Told : T → Type 0} {done : Unit {0}} (x : T) → Clause (Ok x) → Told x → IsCall Clause Told (Ok done)
call_ok x clause told = record { result = Ok x; clause = clause; comes = told }

pub call_err : {T : Type 0} {Clause : Result T Fault → Type 0} {Told : T → Type 0} {e : Fault} → Clause (Err e) → IsCall Clause Told (Err e)
call_err {e = e} clause = record { result = Err e; clause = clause; comes = refl }

-- what a result comes to, of which nothing is told
pub comes_ok : {T : Type 0} {result : Result T Fault} {x : T} {done : Unit {0}} → result ≡ Ok x → ComesTo (λ _. Unit {0}) result (Ok done)
comes_ok {T} {done = done} is = subst (λ (r : Result T Fault). ComesTo (λ _. Unit {0}) r (Ok done)) (sym is) tt

pub comes_err : {T : Type 0} (Told : T → Type 0) {result : Result T Fault} {e : Fault} → result ≡ Err e → ComesTo Told result (Err e)
comes_err {T} Told {e = e} is = subst (λ (r : Result T Fault). ComesTo Told r (Err e)) (sym is) refl

-- a refused call tells nothing
untold : {T : Type 0} {Clause : Result T Fault → Type 0} {Told Said : T → Type 0} {e : Fault} → IsCall Clause Told (Err e) → IsCall Clause Said (Err e)
untold {T} {Clause} {Told} {Said} {e} call = record { result = call.result; clause = call.clause; comes = by call.result call.comes }
  where
    by : (result : Result T Fault) → ComesTo Told result (Err e) → ComesTo Said result (Err e)
    by (Ok x) comes = absurd comes
    by (Err f) comes = comes

module _ {F H R W : Type 0} {g : Ghosts F H R W} (old new : Engine F H R W g) where
  pub refused_any : (change : Change) (e : Fault) (a b : Answer) → IsCalled change (Err e) old new a → IsCalled change (Err e) old new b
  refused_any (Write bytes sync) e a b call = call
  refused_any (WriteOnce bytes groups numbers sync) e a b call = call
  refused_any Sync e a b call = call
  refused_any (CompactTo group index) e a b call = untold call
  refused_any RewriteAppendQueue e a b call = untold call
  refused_any (RewriteAppendGroups watermark from budget) e a b call = untold call
  refused_any RewriteRewriteQueue e a b call = untold call
  refused_any (RewriteRewriteGroups from budget) e a b call = untold call
  refused_any PurgeAllStale e a b call = untold call
  refused_any (PurgeExpired barrier) e a b (inl call) = inl (untold call)
  refused_any (PurgeExpired barrier) e a b (inr call) = inr call

  -- the batch that was taken was written, or the engine refused it
  pub wrote : {mid : Engine F H R W g} (Unfit : Fault → Type 0) (Clause : Engine F H R W g → Batch → Batch → Result ℕ Fault → Type 0) {taken : Option Batch} {items rest : Batch} (result : Result ℕ Fault) (outcome : Result (Unit {0}) Fault)
      → new ≡ mid → taken ≡ Some items → ComesTo (λ _. Unit {0}) result outcome → Clause mid items rest result → IsKeptOff Unfit outcome old new ⊎ IsSomeAnd taken (IsBatchCall (Clause new) outcome)
  wrote Unfit Clause {taken} {items} {rest} result outcome same is comes clause =
      inr (subst (λ (t : Option Batch). IsSomeAnd t (IsBatchCall (Clause new) outcome)) (sym is)
      (rest, record { result = result; clause = subst (λ (e : Engine F H R W g). Clause e items rest result) (sym same) clause; comes = comes }))
