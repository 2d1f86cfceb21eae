use Rattle.raft_log_engine.proofs.EngineLemmas.{engine_keeps}
use Rattle.raft_world.proofs.HappensLemmas.{kept_read_first}
use Rattle.raft_world.proofs.Below.{CrashLaws}
use Rattle.raft_world.proofs.laws.what_is_kept_is_read_first.Goals as goal

pub returns : goal.returns
returns g c = λ folders first node l happened after later fallen same.
    let laws : CrashLaws = record {
      left = c.crash_leaves_contents.ensures.left;
      restarted = c.crash_leaves_contents.ensures.restarted;
      found = c.crash_leaves_contents.ensures.found;
      opens = c.crash_leaves_contents.ensures.opens;
      as_they_are = c.crash_leaves_contents.ensures.as_they_are;
      none = c.crash_leaves_contents.ensures.none;
      clear = c.crash_leaves_contents.ensures.clear;
      single = c.crash_leaves_contents.ensures.single;
      beside = c.queues_stand_side_by_side.ensures.recovers;
    } in
    kept_read_first g.F.FileSystem folders laws (λ e. engine_keeps e) c.crash_leaves_a_prefix.ensures.contents first node l happened after later fallen same
