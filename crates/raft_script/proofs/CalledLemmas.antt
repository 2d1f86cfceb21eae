-- An operation's own clause, by that of the engine's call.
use Rattle.std.proofs.Common.{◌≡◌, ℕ, Bool, inl, inr, Option, Some, refl, subst, sym}
use Rattle.std.specs.Prelude.{IsSomeAnd, Result, Err, Vec}
use Rattle.std.specs.declared.alloc.Global.{Global}
use Rattle.raft_base.specs.declared.errors.Fault.{Fault}
use Rattle.raft_env.specs.declared.env.FileSystem.{Ghosts}
use Rattle.raft_once.specs.Numbers.{Pair}
use Rattle.raft_records.specs.Item.{Batch}
use Rattle.raft_log_engine.specs.Calls.{IsCallersWrite}
use Rattle.raft_log_engine.specs.Once.{IsWriteOnce}
use Rattle.raft_log_engine.specs.declared.engine.Engine.{Engine}
use Rattle.raft_script.specs.Batches.{Part, batch_of_acts}
use Rattle.raft_script.specs.Called.{IsCalled}
use Rattle.raft_script.specs.Run.{IsUnbuilt, IsUnbuiltGroup}
use Rattle.raft_script.specs.declared.operation.Act.{Act}
use Rattle.raft_script.specs.declared.operation.Op.TheVariants.{Write, WriteGroup, WriteOnce}
use Rattle.raft_script.specs.declared.operation.Outcome.TheVariants.{Size, Sizes}

module _ {F H R W : Type 0} {g : Ghosts F H R W} where
  -- what could be built is the engine's
  pub called_write : (acts : Vec Act Global) (sync : Bool) (items rest : Batch) (old new : Engine F H R W g) (result : Result ℕ Fault) → batch_of_acts acts.items ≡ Some items → IsCallersWrite items rest sync old new result → IsCalled (Write acts sync) (Size result) old new
  called_write acts sync items rest old new result built call =
      inr (subst (λ (o : Option Batch). IsSomeAnd o (λ (batch : Batch). (rest : Batch) × IsCallersWrite batch rest sync old new result)) (sym built) (rest, call))

  pub called_once : (acts : Vec Act Global) (pairs : Vec Pair Global) (sync : Bool) (items rest : Batch) (old new : Engine F H R W g) (result : Result ℕ Fault) → batch_of_acts acts.items ≡ Some items → IsWriteOnce items rest pairs.items sync old new result → IsCalled (WriteOnce acts pairs sync) (Size result) old new
  called_once acts pairs sync items rest old new result built call =
      inr (subst (λ (o : Option Batch). IsSomeAnd o (λ (batch : Batch). (rest : Batch) × IsWriteOnce batch rest pairs.items sync old new result)) (sym built) (rest, call))

  -- .. and else it isn't asked
  pub unbuilt_write : (acts : Vec Act Global) (sync : Bool) (e : Fault) (engine : Engine F H R W g) → IsUnbuilt acts.items e → IsCalled (Write acts sync) (Size (Err e)) engine engine
  unbuilt_write acts sync e engine unbuilt = inl (refl, unbuilt)

  pub unbuilt_once : (acts : Vec Act Global) (pairs : Vec Pair Global) (sync : Bool) (e : Fault) (engine : Engine F H R W g) → IsUnbuilt acts.items e → IsCalled (WriteOnce acts pairs sync) (Size (Err e)) engine engine
  unbuilt_once acts pairs sync e engine unbuilt = inl (refl, unbuilt)

  pub unbuilt_group : (parts : Vec Part Global) (e : Fault) (engine : Engine F H R W g) → IsUnbuiltGroup parts.items e → IsCalled (WriteGroup parts) (Sizes (Err e)) engine engine
  unbuilt_group parts e engine unbuilt = inl (refl, unbuilt)
