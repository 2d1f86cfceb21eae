-- Whether an opening that keeps the last log files of a queue fails.
use Rattle.std.specs.Prelude.{◌≡◌, ◌⊎◌, ℕ, zero, suc, ◌==◌, Bool, true, false, List, Option, Some, None, drop, slice_get, Contains}
use Rattle.raft_config.specs.declared.config.RecoveryMode.{RecoveryMode}
use Rattle.raft_dump.specs.Check.{numbers_of, plan_of}
use Rattle.raft_dump.specs.declared.plan.Planned.TheVariants.{Fail}
use Rattle.raft_inspect.specs.declared.queue_files.QueueFiles.{QueueFiles}

-- the number before a place
abbrev pub number_before : List ℕ → ℕ → Option ℕ
number_before numbers zero = None
number_before numbers (suc place) = slice_get numbers place

-- both numbers exist and are equal
abbrev pub are_same : Option ℕ → Option ℕ → Bool
are_same (Some before) (Some first) = before == first
are_same _ _ = false

-- the last file that is passed over has the number of the first one that is kept
abbrev pub is_doubled : QueueFiles → Bool
is_doubled found =
    let numbers = numbers_of found.checks.items in
    are_same (number_before numbers found.passed) (slice_get numbers found.passed)

-- an opening in this mode fails: a kept file says so, or two files have one number
abbrev pub IsFailing : RecoveryMode → QueueFiles → Type 0
IsFailing mode found = Contains (plan_of mode (drop found.passed found.checks.items)) Fail
    ⊎ (is_doubled found ≡ true)
