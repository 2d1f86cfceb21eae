use Rattle.std.proofs.Common.{ap}
use Rattle.raft_base.specs.declared.pipe_log.LogQueue.TheVariants.{Rewrite}
use Rattle.raft_crash_laws.specs.Log.{do_groups_ascend}
use Rattle.raft_queue_laws.proofs.QueueSoundLemmas.{readable_none}
use Rattle.raft_log_engine.proofs.AscendLemmas.{left_ascends}
use Rattle.raft_log_engine.proofs.laws.groups_stand_together.Goals as goal

pub returns : goal.returns
returns g c = record {
  none = λ folders n none. ap do_groups_ascend (readable_none Rewrite folders n none);
  crash = λ alive together d leaves detectable. left_ascends c.args.engine.now alive together d leaves detectable;
}
