-- Results: of a batch that was accepted, and of an operation that succeeded.
use Rattle.std.specs.Prelude.{ℕ, Bool, false, List, Option, None, Some, Result, is_ok, slice_get}
use Rattle.raft_base.specs.declared.errors.Fault.{Fault}
use Rattle.raft_script.specs.declared.operation.Outcome.{Outcome}
use Rattle.raft_script.specs.declared.operation.Outcome.TheVariants.{Done, Dropped, Size, Sizes, ToCompact}

-- there is a result, and it is `Ok`
abbrev pub is_ok_in : {T : Type 0} → Option (Result T Fault) → Bool
is_ok_in None = false
is_ok_in (Some answer) = is_ok answer

-- the result at a place, counted from 0, is `Ok`
abbrev pub is_ok_at : {T : Type 0} → ℕ → List (Result T Fault) → Bool
is_ok_at place answers = is_ok_in (slice_get answers place)

-- Each sort of operation succeeded.

-- a write of a batch succeeded
abbrev pub is_written : Outcome → Bool
is_written (Size answer) = is_ok answer
is_written _ = false

-- a write of several batches succeeded
abbrev pub is_grouped : Outcome → Bool
is_grouped (Sizes answer) = is_ok answer
is_grouped _ = false

-- a sync succeeded
abbrev pub is_synced : Outcome → Bool
is_synced (Done answer) = is_ok answer
is_synced _ = false

-- a purge that returns the number of dropped files succeeded
abbrev pub has_dropped : Outcome → Bool
has_dropped (Dropped answer) = is_ok answer
has_dropped _ = false

-- a purge that returns the groups to compact succeeded
abbrev pub has_asked : Outcome → Bool
has_asked (ToCompact answer) = is_ok answer
has_asked _ = false
