-- A saved state stays, by the law of what each call keeps.
use Rattle.raft_env.specs.declared.env.FileSystem.{Ghosts}
use Rattle.raft_log_engine.specs.Engine.{contents_of, folders_of}
use Rattle.raft_world.specs.Happens.{Down, Running, ledger_of}
use Rattle.raft_world.specs.Kept.{EachFoundHas, SyncedMayBegin, WhatCallsKeepHolds}
use Rattle.raft_vote.specs.HardState.{has_reached, state_in}
use Rattle.raft_vote.specs.Stays.{NodesVoteOnce, SavedStatesStay}
use Rattle.raft_vote.specs.declared.hard_state.HardState.{HardState}
use Rattle.raft_vote.proofs.StateLemmas.{follows_itself, follows_on, same_vote_in_term}

module _ {F H R W : Type 0} (g : Ghosts F H R W) where
  pub saved_states_stay : WhatCallsKeepHolds g → SyncedMayBegin g → SavedStatesStay g
  saved_states_stay keep begin group e alive synced =
      let s : HardState = state_in group (contents_of e) in
      let start : EachFoundHas (has_reached group s) (ledger_of e) = begin (has_reached group s) e synced (follows_itself s) in
      record {
        alive = alive;
        opened = λ n l happened each. keep (folders_of e) (ledger_of e) (has_reached group s) start (Down n) l happened each;
        running = λ later l happened each. keep (folders_of e) (ledger_of e) (has_reached group s) start (Running later) l happened each;
      }

  pub nodes_vote_once : NodesVoteOnce g
  nodes_vote_once group first second e later l stays happened each alive may =
      same_vote_in_term first second (follows_on first (state_in group (contents_of later)) second (stays.running later l happened each alive) may)
