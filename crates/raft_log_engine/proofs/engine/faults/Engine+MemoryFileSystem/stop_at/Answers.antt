use Rattle.std.proofs.Common.{subst, sym}
use Rattle.raft_crash_laws.specs.Contents.{Holds}
use Rattle.raft_log_engine.specs.Engine.{contents_of, is_known_in}
use Rattle.raft_entry_blocks.specs.Cache.{HoldsBlockIn}
use Rattle.raft_log_engine.proofs.HeldLemmas.{completed_still, goes_still, left_still, queues_still}
use Rattle.raft_log_engine.proofs.engine.faults.Engine+MemoryFileSystem.stop_at.Goals as goal

-- its files are the same
pub invariant_of-self : goal.invariant_of-self
invariant_of-self c =
    let e = c.args.self.now in
    let same = c.stop_at.ensures.unchanged in
    record {
      emptied = e.emptied;
      holds = λ alive. subst (λ n. Holds e.log.store.pipes n e.log.tables (contents_of e) (is_known_in e)) (sym same) (e.holds alive);
      cached = λ alive. subst (λ n. HoldsBlockIn e.log.store.pipes n e.log.cache) (sym same) (e.cached alive);
      queues = queues_still e _ same;
      completed = completed_still e _ same;
      goes = goes_still e _ same;
      form = e.form;
      left = left_still e _ same;
    }
