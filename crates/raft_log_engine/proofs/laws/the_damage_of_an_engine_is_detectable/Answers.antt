use Rattle.raft_base.specs.declared.pipe_log.LogQueue.{LogQueue}
use Rattle.std.proofs.Math.Logic.{∥∥₁_elim, ∥∥₁_prop}
use Rattle.raft_memory.specs.Choice.{left_by}
use Rattle.raft_queues.specs.Dual.{pipe_of}
use Rattle.raft_config.specs.Folders.{all_of}
use Rattle.raft_pipes.specs.QueueFiles.{IsDetectableQueue}
use Rattle.raft_log_engine.specs.Engine.{directory_of, folders_of}
use Rattle.raft_log_engine.proofs.CrashLemmas.{of_both}
use Rattle.raft_log_engine.proofs.laws.the_damage_of_an_engine_is_detectable.Goals as goal

pub returns : goal.returns
returns g c =
    let e = c.args.engine.now in
    record {
      crash = λ stands begun past fresh consistent choices whole. of_both (λ (queue : LogQueue). IsDetectableQueue (all_of (folders_of e)) queue (directory_of e) (left_by choices (directory_of e))) (λ queue.
          ∥∥₁_elim (e.queues stands) ∥∥₁_prop (λ x. c.damage_of_a_queue_is_detectable.ensures.detectable queue (pipe_of queue e.log.store.pipes) (folders_of e) _ _ (directory_of e) (x.2.has queue) (e.completed stands queue (begun queue)) (past queue) (fresh queue) consistent choices whole));
    }
