use Rattle.raft_log_engine.proofs.EngineLemmas.{engine_keeps}
use Rattle.raft_world.proofs.HappensLemmas.{is_safe}
use Rattle.raft_world.proofs.Below.{CrashLaws}
use Rattle.raft_world.proofs.laws.the_log_is_safe.Goals as goal

pub returns : goal.returns
returns g c = λ folders first node l happened.
    let laws : CrashLaws = record {
      left = c.crash_leaves_contents.ensures.left;
      restarted = c.crash_leaves_contents.ensures.restarted;
      found = c.crash_leaves_contents.ensures.found;
      opens = c.crash_leaves_contents.ensures.opens;
      as_they_are = c.crash_leaves_contents.ensures.as_they_are;
      none = c.crash_leaves_contents.ensures.none;
      clear = c.crash_leaves_contents.ensures.clear;
      single = c.crash_leaves_contents.ensures.single;
      beside = c.queues_stand_side_by_side.ensures.recovers;
    } in
    is_safe g.F.FileSystem folders laws (λ e. engine_keeps e) first node l happened
