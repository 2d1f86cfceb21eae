-- What the last log files of an engine hold between two calls.
use Rattle.std.specs.Prelude.{◌≡◌, false}
use Rattle.raft_env.specs.declared.env.FileSystem.{Ghosts}
use Rattle.raft_pipes.specs.Completed.{PipeHasCompletedLogIfSimple}
use Rattle.raft_log_engine.specs.Engine.{directory_of, has_failed, queue_of, rewrite_queue_of}
use Rattle.raft_log_engine.specs.Opening.{FoundCompletedRecords}
use Rattle.raft_log_engine.specs.declared.engine.Engine.{Engine}

-- if only writes failed on a queue's last file, it has completed records up to its writer's place
abbrev pub LastFilesAreCompleted : {F H R W : Type 0} → Ghosts F H R W → Type 0
LastFilesAreCompleted {F} {H} {R} {W} g = (e : Engine F H R W g) → has_failed e ≡ false
    → FoundCompletedRecords e → PipeHasCompletedLogIfSimple (queue_of e) (directory_of e)
    × PipeHasCompletedLogIfSimple (rewrite_queue_of e) (directory_of e)
