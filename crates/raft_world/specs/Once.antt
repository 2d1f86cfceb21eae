-- Exactly once: how often a number acts, through the same events.
use Rattle.std.specs.Prelude.{◌≡◌, ℕ, List, [], ◌++◌}
use Rattle.raft_env.specs.declared.env.FileSystem.{Ghosts}
use Rattle.raft_config.specs.Folders.{Folders}
use Rattle.raft_once.specs.History.{Act, ActedOnce, MayAllAct, acted_after, are_written}
use Rattle.raft_world.specs.Call.{MayFollow}
use Rattle.raft_world.specs.Ledger.{Ledger, durable_contents}
use Rattle.raft_world.specs.Happens.{Happens, Node}

-- the accepted batches are acts. Each might act on what those before it left: the caller's items
-- change no number, and the act's numbers are greater than those that its groups keep. So no
-- number of a group acted twice unless the group was cleaned between. Durable batches stay: each
-- number in them acted exactly once
abbrev pub ActsOnce : Ledger → Type 0
ActsOnce l = ∥ ((acts : List Act) × (are_written acts ≡ l.durable ++ l.unsynced)
    × MayAllAct l.start acts
    × ((group : ℕ) → ActedOnce (acted_after group [] acts))) ∥₁

-- the law of numbers. The unsynced batches that the log began with have numbers as calls write
-- them; after an opening, or in folders without a log, there are none
abbrev pub NumbersActOnce : {F H R W : Type 0} → Ghosts F H R W → Type 0
NumbersActOnce g = (folders : Folders) (first : Ledger)
    → MayFollow (durable_contents first) first.unsynced → (node : Node g) (l : Ledger)
    → Happens g folders first node l → ActsOnce l
