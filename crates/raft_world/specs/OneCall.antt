-- One call of an engine that hasn't failed, for a caller who knows nothing of its past.
use Rattle.std.specs.Prelude.{◌≡◌, false, Result}
use Rattle.raft_config.specs.declared.config.Config.{Config}
use Rattle.raft_env.specs.Directory.{Directory}
use Rattle.raft_env.specs.declared.env.FileSystem.{Ghosts}
use Rattle.raft_log_engine.specs.Engine.{directory_of, folders_of, has_failed, moments_of}
use Rattle.raft_log_engine.specs.declared.engine.Engine.{Engine}
use Rattle.raft_log_engine.specs.declared.engine.Refused.{Refused}
use Rattle.raft_world.specs.Call.{HasEffect}
use Rattle.raft_world.specs.Ledger.{Effect, interrupted}
use Rattle.raft_world.specs.Happens.{FindsOnly, HasCrashed, HasOpened, IsMoment, LeavesLog, ledger_of}

-- an opening after a crash inside the call finds what the call may leave, or fails with a cause
abbrev pub CrashInCall : {F H R W : Type 0} → Ghosts F H R W → Type 0
CrashInCall {F} {H} {R} {W} g = (old new : Engine F H R W g) (effect : Effect)
    (n after : Directory) (config : Config) (files : F) (answer : Result (Engine F H R W g) (Refused F))
    → HasEffect effect old new → has_failed old ≡ false
    → IsMoment (moments_of old) (moments_of new) (directory_of new) n
    → HasCrashed (folders_of old) n after → LeavesLog (folders_of old) after (g.directory files)
    → HasOpened g (folders_of old) config files answer
    → FindsOnly g (folders_of old) (interrupted effect (ledger_of old)) config files answer
