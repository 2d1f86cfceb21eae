-- What is found after a crash.
use Rattle.std.specs.Prelude.{◌≡◌, ℕ, true, [], None, Result, IfOk}
use Rattle.raft_base.specs.declared.errors.Fault.{Fault}
use Rattle.raft_config.specs.Folders.{Folders}
use Rattle.raft_crash_laws.specs.Queues.{AreDetectableIn}
use Rattle.raft_env.specs.Directory.{CrashImage}
use Rattle.raft_env.specs.declared.env.FileSystem.{Ghosts}
use Rattle.raft_log_engine.specs.Engine.{directory_of, folders_of}
use Rattle.raft_log_engine.specs.declared.engine.Engine.{Engine}
use Rattle.raft_world.specs.Happens.{Happens, Running, ledger_of}
use Rattle.raft_world.specs.Kept.{EachCall, Keeps}
use Rattle.raft_world.specs.Ledger.{Ledger}
use Rattle.raft_vote.specs.HardState.{has_reached, may_follow}
use Rattle.raft_vote.specs.Stays.{Stays}
use Rattle.raft_vote.specs.declared.hard_state.HardState.{HardState}

-- the first vote: for node 2 in term 1
abbrev pub first_vote : HardState
first_vote = record { term = 1; vote = 2 }

-- the folders of fresh settings
abbrev pub fresh_folders : Folders
fresh_folders = record { main = []; spill = None }

-- a node has saved its first vote as group 7 of a log in fresh folders
pub record HasVoted {F H R W : Type 0} {g : Ghosts F H R W} (e : Engine F H R W g) : Type 0 where
  pub stays : Stays 7 first_vote e
  pub folders : folders_of e ≡ fresh_folders

-- what a crash left of an engine is detectable: then the first vote is found or a state that may
-- follow it
abbrev pub FindsFirstVote : {F H R W : Type 0} {g : Ghosts F H R W} → Engine F H R W g → CrashImage
    → Result HardState Fault → Type 0
FindsFirstVote later left result = AreDetectableIn fresh_folders (directory_of later) left
    → IfOk result (λ found. may_follow first_vote found ≡ true)

-- whatever happened since a state was saved, until this engine crashed with detectable damage: this
-- state is found or one that may follow it, in these folders
abbrev pub IsFound : {F H R W : Type 0} {g : Ghosts F H R W} → ℕ → Engine F H R W g → CrashImage
    → Folders → Result HardState Fault → Type 0
IsFound {F} {H} {R} {W} {g} group later left folders result =
    (state : HardState) (e : Engine F H R W g) (l : Ledger) → Stays group state e
    → (happened : Happens g (folders_of e) (ledger_of e) (Running later) l)
    → EachCall g (folders_of e) (ledger_of e) (Keeps (has_reached group state)) (Running later) l
    happened
    → folders ≡ folders_of e → AreDetectableIn (folders_of e) (directory_of later) left
    → IfOk result (λ found. may_follow state found ≡ true)
