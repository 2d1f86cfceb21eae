use Rattle.std.proofs.Common.{◌≡◌, ◌∙◌}
use Rattle.std.proofs.Math.Logic.{∥∥₁_map}
use Rattle.raft_base.specs.declared.pipe_log.LogQueue.{LogQueue}
use Rattle.raft_base.specs.declared.pipe_log.LogQueue.TheVariants.{Append, Rewrite}
use Rattle.raft_crash_laws.specs.Crash.{left_of_queue}
use Rattle.raft_pipes.specs.Folder.{readable_queue}
use Rattle.raft_script.proofs.CrashLemmas.{come_back}
use Rattle.raft_script.proofs.runs.crashes_come_back.Goals as goal

pub returns : goal.returns
returns g c = λ least folders m batches n leaves.
    let law = c.crash_leaves_contents.ensures in
    record {
      found = come_back g.F.FileSystem folders (law.left folders) (law.restarted folders) (law.found folders) (law.opens folders) (law.single folders) (law.stays_clear folders) least m batches n leaves;
      first = λ d after left restarted.
          let read : (queue : LogQueue) → readable_queue queue folders after ≡ left_of_queue queue folders n d = λ queue. c.crash_leaves_a_prefix.ensures.contents queue folders n after d restarted in
          ∥∥₁_map (leaves d left).first (λ (rewritten, appended, first, next, allowed). (rewritten, appended, first.0, next.0, read Rewrite ∙ first.1, read Append ∙ next.1, allowed));
    }
