-- What a crash may leave of a log that was empty before operations.
use Rattle.std.specs.Prelude.{◌≡◌, ℕ, ◌<◌, List, [], ◌++◌, length, MatchOption, Option}
use Rattle.raft_once.specs.Numbers.{shown}
use Rattle.raft_records.specs.Contents.{Contents, after_batches, no_contents}
use Rattle.raft_records.specs.Item.{Batch}
use Rattle.raft_crash_laws.specs.Crash.{IsAllowedFrom}
use Rattle.raft_log_engine.specs.Image.{IsImageOf}
use Rattle.raft_log_engine.specs.declared.engine.image.Image.{Image}
use Rattle.raft_script.specs.Durability.{MayBeInFlightAt, progress_after_all}
use Rattle.raft_script.specs.Headline.{progress_from}
use Rattle.raft_script.specs.declared.operation.Op.{Op}
use Rattle.raft_script.specs.declared.operation.Outcome.{Outcome}

-- each operation has an outcome, and the place of the failure, if any, is that of one of them
pub record AreFitting (failed_at : Option ℕ) (ops : List Op) (outcomes : List Outcome)
    : Type 0 where
  pub as_many : length outcomes ≡ length ops
  pub place : MatchOption failed_at (Unit {0}) (λ place. place < length ops)

-- a crash may leave these contents: after all covered batches and a prefix of the others
abbrev pub MayBeLeft : Option ℕ → List Op → List Outcome → Contents → Type 0
MayBeLeft failed_at ops outcomes m =
    let p = progress_after_all no_contents (progress_from []) ops outcomes in
    (flight : List Batch)
    × MayBeInFlightAt failed_at (after_batches no_contents p.batches) ops flight
    × IsAllowedFrom p.covered no_contents (p.batches ++ flight) m

-- the image shows such contents, as reads do: without the numbers that groups keep
abbrev pub IsLeftAs : Option ℕ → List Op → List Outcome → Image → Type 0
IsLeftAs failed_at ops outcomes image =
    (m : Contents) × MayBeLeft failed_at ops outcomes m
    × IsImageOf image.groups.items (shown m)
