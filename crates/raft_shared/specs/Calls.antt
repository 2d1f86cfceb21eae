-- What `Engine` promises of a read that a shared engine makes.
use Rattle.std.specs.Prelude.{◌≡◌, ◌⊎◌, ◌↔◌, ℕ, true, false, List, Option, None, Result, Ok, Err, IfOk, IfErr, Vec, option_map}
use Rattle.std.specs.declared.alloc.Global.{Global}
use Rattle.raft_base.specs.declared.errors.Fault.{Fault}
use Rattle.raft_base.specs.declared.errors.Fault.TheVariants as fault
use Rattle.raft_once.specs.Numbers.{shown}
use Rattle.raft_env.specs.declared.env.FileSystem.{Ghosts}
use Rattle.raft_log_engine.specs.Engine.{contents_of, has_failed}
use Rattle.raft_log_engine.specs.declared.engine.Engine.{Engine}

module _ {F H R W : Type 0} {g : Ghosts F H R W} where
  -- `get`
  pub record IsGet (group : ℕ) (key : List ℕ) (engine : Engine F H R W g)
      (result : Result (Option (Vec ℕ Global)) Fault) : Type 0 where
    pub value : IfOk result (λ value. option_map (λ v. v.items) value
        ≡ (shown (contents_of engine)).value group key)
    pub failed : (result ≡ Err fault.Failed) ↔ (has_failed engine ≡ true)
    pub cause : IfErr result (λ e. (e ≡ fault.Failed) ⊎ (e ≡ fault.Memory))
    pub memory : has_failed engine ≡ false → (shown (contents_of engine)).value group key ≡ None
        → result ≡ Ok None
