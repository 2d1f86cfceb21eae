-- What operations lead to: images of the contents that a crash may leave.
use Rattle.std.specs.Prelude.{◌≡◌, ℕ, List, [], ◌∷◌, ◌++◌, length, map, slice_get, Option, Some, None, option_and_then, if◌then◌else◌}
use Rattle.std.specs.List.{AllZip, flat_map}
use Rattle.raft_records.specs.Contents.{Contents, after_batch, after_batches, no_contents}
use Rattle.raft_records.specs.Item.{Batch}
use Rattle.raft_crash_laws.specs.Crash.{pending_of}
use Rattle.raft_log_engine.specs.declared.engine.image.Image.{Image}
use Rattle.raft_script.specs.Batches.{batches_of_op, is_covering}
use Rattle.raft_script.specs.Headline.{Progress}
use Rattle.raft_script.specs.declared.operation.Op.{Op}
use Rattle.raft_script.specs.declared.operation.Outcome.{Outcome}
use Rattle.raft_allowed.specs.Held.{IsHeldBy}
use Rattle.raft_allowed.specs.declared.walk.Reached.{Reached}

-- each image lists what the contents at its place have
abbrev pub AreHeldBy : List Image → List Contents → Type 0
AreHeldBy images ms = AllZip (λ image m. IsHeldBy m image.groups.items) images ms

-- the contents after each prefix of the batches, except the whole
abbrev pub contents_before : Contents → List Batch → List Contents
contents_before m [] = []
contents_before m (batch ∷ batches) = m ∷ contents_before (after_batch m batch) batches

-- the images show the contents after each prefix of the batches that has every covered one
pub record IsReached (p : Progress) (reached : Reached) : Type 0 where
  pub durable : List Batch
  pub unsynced : List Batch
  pub batches : p.batches ≡ durable ++ unsynced
  pub covered : p.covered ≡ length durable
  pub earlier : AreHeldBy reached.earlier.items
      (contents_before (after_batches no_contents durable) unsynced)
  pub last : IsHeldBy (after_batches no_contents p.batches) reached.last.groups.items

-- the progress with more accepted batches
abbrev pub with_batches : Progress → List Batch → Progress
with_batches p batches = record { batches = p.batches ++ batches; covered = p.covered }

-- the progress with all batches covered, if the operation covers them
abbrev pub covered_if : Progress → Op → Outcome → Progress
covered_if p op outcome = record {
  batches = p.batches;
  covered = if is_covering op outcome then length p.batches else p.covered;
}

-- the contents after the batch, if they accept it and it has items
abbrev pub taken_of : Batch → List Contents → List Contents
taken_of batch ms = flat_map (λ m. map (after_batch m) (pending_of m batch)) ms

-- the contents after each choice of these batches, in order
abbrev pub contents_from : List Contents → List Batch → List Contents
contents_from ms [] = ms
contents_from ms (batch ∷ batches) = contents_from (ms ++ taken_of batch ms) batches

-- the batches that an operation is to write, if there is one
abbrev pub batches_if : Contents → Option Op → List Batch
batches_if m None = []
batches_if m (Some op) = batches_of_op m op

-- the batches that the operation at a place is to write, if there is one
abbrev pub batches_at : Contents → List Op → Option ℕ → List Batch
batches_at m ops place = batches_if m (option_and_then (slice_get ops) place)
