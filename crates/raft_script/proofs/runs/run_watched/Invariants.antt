use Rattle.std.proofs.Common.{All, ◌≡◌, ◌||◌, ◌++◌, ◌≤◌, false, is_some, length, take, vec_len, vec_capacity}
use Rattle.raft_script.specs.Durability.{IsCall, PassesOver, Steps, durable_groups_of, progress_after_all}
use Rattle.raft_script.specs.Headline.{progress_from}
use Rattle.raft_log_engine.specs.Durability.{durability_of}
use Rattle.raft_log_engine.specs.Engine.{all_batches, base_of, begun_of, directory_of, durable_of, folders_of, found_of, has_failed, refusals_of, unsynced_of}
use Rattle.raft_script.specs.Failure.{io_count}
use Rattle.raft_env.specs.Refusal.{RoseBy}
use Rattle.raft_script.specs.Run.{IsUnasked}
use Rattle.raft_script.proofs.StepsLemmas.{Keeps}
use Rattle.raft_script.proofs.DurabilityLemmas.{IsUnderWay}
use Rattle.raft_script.proofs.runs.run_watched.Given as goal

abbrev pub invariant-loop-op : goal.invariant-loop-op
invariant-loop-op g l =
    let first = progress_from (unsynced_of l.initial.engine) in
    let p = progress_after_all (durable_of l.initial.engine) first (take l.op-index l.ops) l.outcomes.items in
    (vec_len l.outcomes ≡ l.op-index)
    × (length l.ops ≤ vec_capacity l.outcomes)
    × (folders_of l.engine ≡ folders_of l.initial.engine)
    × (begun_of l.engine ≡ begun_of l.initial.engine)
    × (has_failed l.engine ≡ false → all_batches l.engine ≡ base_of l.initial.engine ++ p.batches)
    × IsUnderWay (found_of l.initial.engine) (durable_of l.initial.engine) p l.ops l.failed_at (durability_of l.engine)
    × Steps has_failed (IsCall (folders_of l.initial.engine) (durable_of l.initial.engine) (durable_groups_of l.initial.engine)) (durable_of l.initial.engine) first l.initial.engine (take l.op-index l.ops) l.outcomes.items l.failed_at l.engine
    × (has_failed l.engine ≡ (has_failed l.initial.engine || is_some l.failed_at))
    × RoseBy (io_count l.outcomes.items) (refusals_of l.initial.engine) (refusals_of l.engine)
    × (All IsUnasked l.ops → l.engine ≡ l.initial.engine)
    × Keeps (folders_of l.engine) (found_of l.initial.engine) (durability_of l.engine) (directory_of l.engine)
    × PassesOver l.initial.engine l.engine
