-- The acts of operations: the batches that they wrote, and the numbers that acted with each.
use Rattle.std.specs.Prelude.{◌≡◌, ℕ, List, [], ◌∷◌, ◌++◌, map}
use Rattle.raft_records.specs.Contents.{Contents, after_batches}
use Rattle.raft_records.specs.Item.{Batch}
use Rattle.raft_once.specs.History.{Act, ActedOnce, MayAllAct, acted_after, are_written}
use Rattle.raft_script.specs.Batches.{accepted_of, items_of_acts}
use Rattle.raft_script.specs.Durability.{progress_after_all}
use Rattle.raft_script.specs.Headline.{progress_from}
use Rattle.raft_script.specs.declared.operation.Op.{Op}
use Rattle.raft_script.specs.declared.operation.Op.TheVariants.{WriteOnce}
use Rattle.raft_script.specs.declared.operation.Outcome.{Outcome}

-- these batches of an operation as acts; only a write with numbers has numbers
abbrev pub acts_in : Op → List Batch → List Act
acts_in (WriteOnce acts pairs sync) batches =
    map (λ batch. record { items = items_of_acts acts.items; pairs = pairs.items }) batches
acts_in op batches = map (λ batch. record { items = batch; pairs = [] }) batches

-- the acts of operations, in order, from these contents on: none if nothing was written
abbrev pub acts_of : Contents → List Op → List Outcome → List Act
acts_of m (op ∷ ops) (outcome ∷ outcomes) =
    acts_in op (accepted_of m op outcome)
    ++ acts_of (after_batches m (accepted_of m op outcome)) ops outcomes
acts_of m _ _ = []

-- operations wrote by acts, and `before` was written between the start and them
pub record HaveActed (start m : Contents) (before : List Batch) (ops : List Op)
    (outcomes : List Outcome) : Type 0 where
  -- each may be written at what those before it left, and so it raises the numbers that it has
  pub may_all : MayAllAct start (acts_of start ops outcomes)
  -- they are the batches that were accepted
  pub are : (progress_after_all m (progress_from before) ops outcomes).batches
      ≡ before ++ are_written (acts_of start ops outcomes)
  -- no number of a group acted twice, as long as the group wasn't cleaned
  pub once : (group : ℕ) → ActedOnce (acted_after group [] (acts_of start ops outcomes))
