-- A saved state stays: what an opening finds of it, whatever happens.
use Rattle.std.specs.Prelude.{◌≡◌, ◌≤◌, ◌==◌, ◌||◌, not, ℕ, Bool, true, false, length, Result, IfOk}
use Rattle.std.specs.List.{list_all}
use Rattle.std.specs.Str.{bytes_eq}
use Rattle.raft_base.specs.declared.errors.Fault.{Fault}
use Rattle.raft_records.specs.Item.{Batch, Clean, Content, Delete, Put}
use Rattle.raft_env.specs.Directory.{Directory}
use Rattle.raft_env.specs.declared.env.FileSystem.{Ghosts}
use Rattle.raft_config.specs.declared.config.Config.{Config}
use Rattle.raft_log_engine.specs.Cause.{plain_part}
use Rattle.raft_log_engine.specs.Engine.{IsAllSynced, contents_of, folders_of, has_failed}
use Rattle.raft_log_engine.specs.declared.engine.Engine.{Engine}
use Rattle.raft_log_engine.specs.declared.engine.Refused.{Refused}
use Rattle.raft_world.specs.Call.{HasEffect}
use Rattle.raft_world.specs.Effects.{write_effect}
use Rattle.raft_world.specs.Happens.{Down, Happens, HasOpened, Running, ledger_of}
use Rattle.raft_world.specs.Kept.{EachCall, Keeps}
use Rattle.raft_world.specs.Ledger.{Effect, Ledger}
use Rattle.raft_vote.specs.HardState.{has_reached, may_follow, state_in, state_key}
use Rattle.raft_vote.specs.declared.hard_state.HardState.{HardState}

module _ {F H R W : Type 0} {g : Ghosts F H R W} where
  -- a call moves the group's state on, or leaves it, also if a crash or a fault cuts it short: each
  -- state that the group had reached before it, it has reached after it
  abbrev pub MovesOn : ℕ → Engine F H R W g → Effect → Type 0
  MovesOn group e effect = (state : HardState) → Keeps (has_reached group state) e effect

  -- a call leaves the group's state: it keeps each property of it
  abbrev pub LeavesState : ℕ → Engine F H R W g → Effect → Type 0
  LeavesState group e effect =
      (test : HardState → Bool) → Keeps (λ m. test (state_in group m)) e effect

  -- Whatever happens from this engine on, if each call keeps that the group has reached this state,
  -- the group has this state or one that may follow it.
  pub record Stays (group : ℕ) (state : HardState) (e : Engine F H R W g) : Type 0 where
    -- events may begin here
    pub alive : has_failed e ≡ false
    -- in each opening of the files that returns `Ok`
    pub opened : (n : Directory) (l : Ledger)
        (happened : Happens g (folders_of e) (ledger_of e) (Down n) l)
        → EachCall g (folders_of e) (ledger_of e) (Keeps (has_reached group state))
        (Down n) l happened
        → (config : Config) (files : F) (answer : Result (Engine F H R W g) (Refused F))
        → g.directory files ≡ n → HasOpened g (folders_of e) config files answer
        → IfOk answer (λ found. may_follow state (state_in group (contents_of found)) ≡ true)
    -- and in each engine that hasn't failed
    pub running : (later : Engine F H R W g) (l : Ledger)
        (happened : Happens g (folders_of e) (ledger_of e) (Running later) l)
        → EachCall g (folders_of e) (ledger_of e) (Keeps (has_reached group state))
        (Running later) l happened
        → has_failed later ≡ false
        → may_follow state (state_in group (contents_of later)) ≡ true

  -- a function does this to an engine: a call of at most one batch that moves each group's state on
  -- or leaves it
  pub record OnlyMovesOn (old new : Engine F H R W g) : Type 0 where
    pub effect : Effect
    pub call : HasEffect effect old new
    pub one : (length effect.writes ≤ 1) × (length effect.accepts ≤ 1)
    pub moves : (group : ℕ) → MovesOn group old effect

-- a state that an engine has synced stays
abbrev pub SavedStatesStay : {F H R W : Type 0} → Ghosts F H R W → Type 0
SavedStatesStay {F} {H} {R} {W} g = (group : ℕ) (e : Engine F H R W g)
    → has_failed e ≡ false → IsAllSynced e → Stays group (state_in group (contents_of e)) e

-- a state that stays, and a second one to which a later engine may come: if both have the same term,
-- and the first one has a vote, they have the same vote
abbrev pub NodesVoteOnce : {F H R W : Type 0} → Ghosts F H R W → Type 0
NodesVoteOnce {F} {H} {R} {W} g = (group : ℕ) (first second : HardState)
    (e later : Engine F H R W g) (l : Ledger) → Stays group first e
    → (happened : Happens g (folders_of e) (ledger_of e) (Running later) l)
    → EachCall g (folders_of e) (ledger_of e) (Keeps (has_reached group first)) (Running later) l
    happened
    → has_failed later ≡ false → may_follow (state_in group (contents_of later)) second ≡ true
    → second.term ≡ first.term → (first.vote ≡ 0 → ⊥) → second.vote ≡ first.vote

-- a content that leaves the state of its group
abbrev pub keeps_state : Content → Bool
keeps_state Clean = false
keeps_state (Put key value) = not (bytes_eq state_key key)
keeps_state (Delete key) = not (bytes_eq state_key key)
keeps_state _ = true

-- a batch that leaves the state of this group
abbrev pub leaves_state : ℕ → Batch → Bool
leaves_state group batch = list_all (λ item. not (group == item.group) || keeps_state item.content) batch

-- each call that writes only such batches, as entries, or none, as syncs, purges and reads
abbrev pub OtherCallsLeaveIt : {F H R W : Type 0} → Ghosts F H R W → Type 0
OtherCallsLeaveIt {F} {H} {R} {W} g = (group : ℕ) (e : Engine F H R W g) (effect : Effect)
    → list_all (leaves_state group) effect.writes ≡ true
    → list_all (leaves_state group) effect.accepts ≡ true → LeavesState group e effect

-- the same of `write`
abbrev pub OtherWritesLeaveIt : {F H R W : Type 0} → Ghosts F H R W → Type 0
OtherWritesLeaveIt {F} {H} {R} {W} g = (group : ℕ) (e : Engine F H R W g) (batch : Batch)
    (sync : Bool) (result : Result ℕ Fault) → leaves_state group batch ≡ true
    → LeavesState group e (write_effect (plain_part batch) sync result)
