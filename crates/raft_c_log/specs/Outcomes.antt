-- The codes of calls on an open log.
use Rattle.std.specs.Prelude.{◌≡◌, ◌↔◌, true, false, Result, Ok, Err, ℤ, pos}
use Rattle.raft_base.specs.Fault.{fault_code}
use Rattle.raft_base.specs.declared.errors.Fault.{Fault}
use Rattle.raft_env.specs.declared.env.FileSystem.{Ghosts}
use Rattle.raft_log_engine.specs.Durability.{HasOnlyRead}
use Rattle.raft_log_engine.specs.Engine.{contents_of, has_failed}
use Rattle.raft_log_engine.specs.declared.engine.Engine.{Engine}
use Rattle.raft_c_log.specs.Calls.{HasAnswered, IsCalled}
use Rattle.raft_c_log.specs.Refusals.{IsUnanswered}
use Rattle.raft_c_log.specs.declared.answer.Answer.{Answer}
use Rattle.raft_c_log.specs.declared.calls.Change.{Change}
use Rattle.raft_c_log.specs.declared.calls.Query.{Query}

-- 0 if a call succeeds, else the code of its fault
abbrev pub code_of : Result (Unit {0}) Fault → ℤ
code_of (Ok done) = pos 0
code_of (Err e) = pos (fault_code e)

module _ {F H R W : Type 0} {g : Ghosts F H R W} where
  -- a change ended with this code, by the engine's clause of the call
  pub record HasEnded (change : Change) (code : ℤ) (old new : Engine F H R W g) (answer : Answer)
      : Type 0 where
    pub outcome : Result (Unit {0}) Fault
    pub code_is : code ≡ code_of outcome
    pub called : IsCalled change outcome old new answer

  -- a query returned this code: 0 found, 20 absent, 11 only if the log had failed; nothing changes
  pub record IsReply (q : Query) (code : ℤ) (old new : Engine F H R W g) (answer : Answer)
      : Type 0 where
    pub found : code ≡ pos 0 → HasAnswered q old answer true
    pub absent : code ≡ pos 20 → HasAnswered q old answer false
    pub err : (code ≡ pos 0 → ⊥) → (code ≡ pos 20 → ⊥) → IsUnanswered q code old new
    pub failed : (code ≡ pos 11) ↔ (has_failed old ≡ true)
    pub only : HasOnlyRead old new
    pub contents : contents_of new ≡ contents_of old
