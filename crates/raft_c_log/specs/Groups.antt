-- Rewritings of groups in short calls, each as one relation.
use Rattle.std.specs.Prelude.{◌≡◌, ◌↔◌, ℕ, true, Err, Option, Result}
use Rattle.raft_base.specs.declared.errors.Fault.{Fault}
use Rattle.raft_base.specs.declared.errors.Fault.TheVariants as fault
use Rattle.raft_base.specs.declared.pipe_log.LogQueue.TheVariants.{Append, Rewrite}
use Rattle.raft_env.specs.declared.env.FileSystem.{Ghosts}
use Rattle.raft_log_engine.specs.AppendGroups.{RewritesGroups}
use Rattle.raft_log_engine.specs.Durability.{StaysFailed}
use Rattle.raft_log_engine.specs.Engine.{has_failed}
use Rattle.raft_log_engine.specs.Purge.{HasLastId, HasOpenGroup}
use Rattle.raft_log_engine.specs.PurgeCalls.{PurgesLog}
use Rattle.raft_log_engine.specs.RewriteGroups.{RenewsGroups}
use Rattle.raft_log_engine.specs.declared.engine.Engine.{Engine}

-- a rewriting of groups of the Append queue, by the clauses of the engine's call
pub record IsGroupsRewrite {F H R W : Type 0} {g : Ghosts F H R W} (watermark from budget : ℕ)
    (old new : Engine F H R W g) (result : Result (Option ℕ) Fault) : Type 0 where
  pub log : PurgesLog Append ⊥ ⊥ result old new
  pub groups : RewritesGroups watermark from budget result old new
  pub failed : (result ≡ Err fault.Failed) ↔ (has_failed old ≡ true)
  pub unchanged : has_failed old ≡ true → StaysFailed old new

-- a rewriting of groups of the Rewrite queue, by the clauses of the engine's call
pub record IsGroupsRenewal {F H R W : Type 0} {g : Ghosts F H R W} (from budget : ℕ)
    (old new : Engine F H R W g) (result : Result (Option ℕ) Fault) : Type 0 where
  pub log : PurgesLog Rewrite (HasOpenGroup new) (HasLastId new) result old new
  pub groups : RenewsGroups from budget result old new
  pub failed : (result ≡ Err fault.Failed) ↔ (has_failed old ≡ true)
  pub unchanged : has_failed old ≡ true → StaysFailed old new
