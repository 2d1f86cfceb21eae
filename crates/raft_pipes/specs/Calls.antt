-- What calls make of a log that has batches, whatever holds it: a file, a queue or both queues.
use Rattle.std.specs.Prelude.{ℕ, List}
use Rattle.raft_env.specs.Directory.{Directory}
use Rattle.raft_records.specs.Item.{Batch}
use Rattle.raft_pipes.specs.declared.pipe.AppendFault.{AppendFault}
use Rattle.raft_pipes.specs.declared.pipe.AppendFault.TheVariants.{RolledBack, InDoubt}

module _ {Log Place Batches Counts : Type 0}
    (Has : Log → Place → Batches → Counts → Directory → Type 0) where
  -- so it is with all that a log has
  abbrev pub OfAll : Log → Directory → (Place → Batches → Counts → Type 0) → Type 0
  OfAll log old P = (place : Place) (batches : Batches) (counts : Counts)
      → Has log place batches counts old → P place batches counts

  -- all of it is still there, and so much of it counts
  abbrev pub Recounts : (Batches → Counts → Counts) → Log → Log → Directory → Directory → Type 0
  Recounts count log log' old new =
      OfAll log old (λ place batches counts. Has log' place batches (count batches counts) new)

  -- these bytes are the record of a batch
  module _ (IsRecord : Log → Place → List ℕ → Batch → Type 0) where
    -- so it is with all that a log has, and with the batch of these bytes
    abbrev pub OfAllWith : Log → List ℕ → Directory → (Place → Batches → Counts → Batch → Type 0)
        → Type 0
    OfAllWith log given old P = (place : Place) (batches : Batches) (counts : Counts)
        (batch : Batch) → Has log place batches counts old → IsRecord log place given batch
        → P place batches counts batch

    -- the batch stands behind the others, and so much of them counts
    abbrev pub Appends : (Batch → Batches → Batches) → (Batches → Counts → Counts) → Log → Log
        → List ℕ → Directory → Directory → Type 0
    Appends add count log log' given old new =
        OfAllWith log given old (λ place batches counts batch.
        Has log' place (add batch batches) (count (add batch batches) counts) new)

    -- an append that was rolled back leaves the others, and so much of them counts
    abbrev pub RollsBack : (Batches → Counts → Counts) → Log → Log → List ℕ → Directory → Directory
        → AppendFault → Type 0
    RollsBack count log log' given old new (RolledBack e) =
        OfAllWith log given old (λ place batches counts batch.
        Has log' place batches (count batches counts) new)
    RollsBack count log log' given old new (InDoubt e) = Unit {0}
