use Rattle.std.proofs.Common.{◌≡◌, map, take}
use Rattle.raft_log_engine.specs.Group.{items_of}
use Rattle.raft_script.specs.Batches.{Part}
use Rattle.raft_script.proofs.GroupLemmas.{AreBuilt}
use Rattle.raft_script.proofs.runs.build_group.Given as goal

-- the first parts are built
abbrev pub invariant-loop-part : goal.invariant-loop-part
invariant-loop-part l = record {
  built : AreBuilt (take l.part-index l.parts) (items_of l.batches.items);
  flags : l.syncs.items ≡ map (λ (part : Part). part.1) (take l.part-index l.parts);
}
