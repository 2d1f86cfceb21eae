-- What a crash leaves of the history of a shared engine.
use Rattle.std.specs.Prelude.{◌≡◌, ℕ, suc, ◌<◌, ◌≤◌, List, length, take, Option, Some}
use mathlib.Core.List.{IsPrefix}
use Rattle.raft_env.specs.declared.env.FileSystem.{Ghosts}
use Rattle.raft_log_engine.specs.Engine.{durable_of}
use Rattle.raft_shared.specs.History.{Event, after_events}
use Rattle.raft_shared.specs.Shared.{base_of, engine_of, history_of}
use Rattle.raft_shared.specs.declared.shared.Shared.{Shared}

module _ {F H R W : Type 0} {g : Ghosts F H R W} where
  -- the durable contents are those that the first `count` calls of the history left
  pub record AreDurable (count : ℕ) (shared : Shared F H R W g) : Type 0 where
    pub within : count ≤ length (history_of shared)
    pub leaves : durable_of (engine_of shared)
        ≡ after_events (base_of shared) (take count (history_of shared))

  -- the durable contents are those that the calls up to this one left, if there is one
  abbrev pub AreDurableTo : Option ℕ → Shared F H R W g → Type 0
  AreDurableTo last shared = (number : ℕ) → last ≡ Some number → AreDurable (suc number) shared

  -- the call at this place of a beginning of the history is durable
  pub record IsFound (number : ℕ) (front : List Event) (shared : Shared F H R W g) : Type 0 where
    pub begins : IsPrefix front (history_of shared)
    pub count : ℕ
    pub among : number < count
    pub durable : AreDurable count shared
