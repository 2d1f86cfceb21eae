-- Facts of ledgers, for a caller who computes with one.
use Rattle.std.specs.Prelude.{◌≡◌, ◌↔◌, ℕ, Bool, List, [], ◌++◌, take}
use Rattle.raft_records.specs.Contents.{Contents, after_batches}
use Rattle.raft_records.specs.Item.{Batch}
use Rattle.raft_log_engine.specs.Group.{chosen_of}
use Rattle.raft_world.specs.Ledger.{Effect, Ledger, MayFind, accepted_contents, after_effect, all_durable, durable_contents}

-- what may be found, written out: the durable batches, then a first part of the unsynced ones and of
-- a choice of those in flight
abbrev pub FoundIsAFirstPart : Type 0
FoundIsAFirstPart = (l : Ledger) (found : Contents) → MayFind l found
    ↔ ∥ ((written : List Bool) × (count : ℕ) × (found ≡ after_batches (durable_contents l)
    (take count (l.unsynced ++ chosen_of (accepted_contents l) written l.in_flight)))) ∥₁

-- all accepted batches may be found
abbrev pub AcceptedMayBeFound : Type 0
AcceptedMayBeFound = (l : Ledger) → MayFind l (accepted_contents l)

-- if all batches are durable, they are what is found
abbrev pub DurableIsFound : Type 0
DurableIsFound = (l : Ledger) (found : Contents) → l.unsynced ≡ [] → l.in_flight ≡ []
    → MayFind l found → found ≡ durable_contents l

-- a sync changes no contents
abbrev pub SyncsKeepContents : Type 0
SyncsKeepContents = (l : Ledger) → accepted_contents (all_durable l) ≡ accepted_contents l

-- a call adds the batches that it accepts
abbrev pub CallsAddBatches : Type 0
CallsAddBatches = (effect : Effect) (l : Ledger)
    → accepted_contents (after_effect effect l) ≡ after_batches (accepted_contents l) effect.accepts

-- the contents after two lists of batches are those after the second one, at those after the first
abbrev pub BatchesFollowOn : Type 0
BatchesFollowOn = (m : Contents) (earlier later : List Batch)
    → after_batches m (earlier ++ later) ≡ after_batches (after_batches m earlier) later

-- of no batches none is in flight
abbrev pub NoneIsChosen : Type 0
NoneIsChosen = (m : Contents) (written : List Bool) → chosen_of m written [] ≡ []
