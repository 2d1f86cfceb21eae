-- The state of an engine when it was shared.
use Rattle.std.specs.Prelude.{suc, nat_le, not, ◌&&◌, ◌+◌, ◌-◌, ◌^◌, ◌≤◌, min, Bool, false, List, [], ◌∷◌}
use Rattle.raft_records.specs.Contents.{Contents, no_contents}
use Rattle.raft_env.specs.Refusal.{Refusals, no_refusals}
use Rattle.raft_env.specs.declared.env.FileSystem.{Ghosts}
use Rattle.raft_pipes.specs.PipeState.{last_seq}
use Rattle.raft_log_engine.specs.Engine.{contents_of, has_failed, queue_of, refusals_of}
use Rattle.raft_log_engine.specs.declared.engine.Engine.{Engine}
use Rattle.raft_shared.specs.History.{Event, storage_refusals}

module _ {F H R W : Type 0} {g : Ghosts F H R W} where
  -- the contents that the engine held when it was shared
  abbrev pub contents_in : List (Engine F H R W g) → Contents
  contents_in [] = no_contents
  contents_in (engine ∷ _) = contents_of engine

  -- the engine had failed when it was shared
  abbrev pub failed_in : List (Engine F H R W g) → Bool
  failed_in [] = false
  failed_in (engine ∷ _) = has_failed engine

  -- how many calls of its file system had failed when it was shared
  abbrev pub refusals_in : List (Engine F H R W g) → Refusals
  refusals_in [] = no_refusals
  refusals_in (engine ∷ _) = refusals_of engine

  -- no number is left for a log file after the last one
  abbrev pub lacks_numbers : Engine F H R W g → Bool
  lacks_numbers engine = nat_le (10 ^ 16) (suc (last_seq (queue_of engine)))

  -- the engine hasn't failed, and no number is left for a next log file
  abbrev pub is_out_of_numbers : Engine F H R W g → Bool
  is_out_of_numbers engine = not (has_failed engine) && lacks_numbers engine

  -- no number was left for a next log file when the engine was shared
  abbrev pub lacks_numbers_in : List (Engine F H R W g) → Bool
  lacks_numbers_in [] = false
  lacks_numbers_in (engine ∷ _) = lacks_numbers engine

-- storage counted at least as many refusals as the history has results that say so
abbrev pub CountsRefusals : List Event → Refusals → Refusals → Type 0
CountsRefusals events old new =
    min (old.storage + storage_refusals events) (2 ^ 64 - 1) ≤ new.storage
