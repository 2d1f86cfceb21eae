-- What listeners were told, and what they answered.
use Rattle.std.specs.Prelude.{◌≡◌, ◌≤◌, ℕ, zero, suc, ◌+◌, min, List, [], ◌∷◌, ◌++◌, length, Option, Some, None}
use Rattle.raft_base.specs.declared.history.History.{History}
use Rattle.raft_base.specs.declared.pipe_log.LogQueue.{LogQueue}
use Rattle.raft_listeners.specs.Waiting.{IsFirstWaiting, Waiting, after_event, room_for}
use Rattle.raft_listeners.specs.declared.listener.Event.{Event}
use Rattle.raft_listeners.specs.declared.listener.Event.TheVariants as event

-- what listeners have heard and answered
pub record Heard : Type 0 where
  -- how many listeners the caller gave
  pub given : ℕ
  -- what they and the hook were told, the newest first
  pub told : List Event
  -- what they and the hook answered, each time they were asked, the newest first
  pub asked : List (List (Option ℕ))
  -- for how many files more of the Append queue the hook has room
  pub room : ℕ

-- what the hook makes of what it was told
abbrev pub waiting_after : List Event → Waiting
waiting_after [] = record { first = 0; counts = [] }
waiting_after (told ∷ earlier) = after_event (waiting_after earlier) told

-- the answers of each time
abbrev pub answers_of : List (History (Option ℕ)) → List (List (Option ℕ))
answers_of [] = []
answers_of (answers ∷ earlier) = answers.items ∷ answers_of earlier

-- so many listeners were told and asked nothing yet
pub record IsSilent (given : ℕ) (heard : Heard) : Type 0 where
  pub given_are : heard.given ≡ given
  pub told : heard.told ≡ []
  pub asked : heard.asked ≡ []

-- how much of the hook's room these take
abbrev pub room_taken : List Event → ℕ
room_taken [] = 0
room_taken (told ∷ earlier) = room_for told + room_taken earlier

-- they were told these too, the newest first
pub record HasHeard (events : List Event) (old new : Heard) : Type 0 where
  pub given : new.given ≡ old.given
  pub told : new.told ≡ events ++ old.told
  pub asked : new.asked ≡ old.asked
  pub room : old.room ≤ room_taken events + new.room

-- so many new files of a queue from this number on, the newest first
abbrev pub new_files : LogQueue → ℕ → ℕ → List Event
new_files queue first zero = []
new_files queue first (suc count) =
    event.NewLogFile (record { queue = queue; seq = first + count })
    ∷ new_files queue first count

-- the least of a file and those that are kept
abbrev pub least_of : ℕ → List (Option ℕ) → ℕ
least_of active [] = active
least_of active (None ∷ answers) = least_of active answers
least_of active (Some seq ∷ answers) = min (least_of active answers) seq

-- each of them and then the hook was asked once, and this is the least of the active file and of the
-- files that they keep; the hook keeps the first file with a record that waits
pub record HasAnswered (active barrier : ℕ) (old new : Heard) : Type 0 where
  pub hook : Option ℕ
  pub answers : List (Option ℕ)
  pub each : length answers ≡ old.given
  pub first : IsFirstWaiting (waiting_after old.told) hook
  pub least : barrier ≡ least_of active (hook ∷ answers)
  pub asked : new.asked ≡ (hook ∷ answers) ∷ old.asked
  pub given : new.given ≡ old.given
  pub told : new.told ≡ old.told
  pub room : old.room ≤ new.room
