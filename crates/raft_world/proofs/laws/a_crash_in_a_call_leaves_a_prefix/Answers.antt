use Rattle.std.proofs.Common.{refl}
use Rattle.raft_log_engine.proofs.EngineLemmas.{engine_keeps}
use Rattle.raft_log_engine.specs.Engine.{folders_of}
use Rattle.raft_world.specs.Happens.{BeginsWith, Crashed, Down, Inside, InsideCall, Untouched, ledger_of}
use Rattle.raft_world.specs.Ledger.{interrupted}
use Rattle.raft_world.proofs.HappensLemmas.{is_safe}
use Rattle.raft_world.proofs.Below.{CrashLaws}
use Rattle.raft_world.proofs.laws.a_crash_in_a_call_leaves_a_prefix.Goals as goal

pub returns : goal.returns
returns g c = λ old new effect n after config files answer call alive moment crash same opens.
    let laws : CrashLaws = record {
      left = c.crash_leaves_contents.ensures.left;
      restarted = c.crash_leaves_contents.ensures.restarted;
      found = c.crash_leaves_contents.ensures.found;
      opens = c.crash_leaves_contents.ensures.opens;
      as_they_are = c.crash_leaves_contents.ensures.as_they_are;
      none = c.crash_leaves_contents.ensures.none;
      clear = c.crash_leaves_contents.ensures.clear;
      single = c.crash_leaves_contents.ensures.single;
      beside = c.queues_stand_side_by_side.ensures.recovers;
    } in
    let found = g.F.FileSystem.directory files in
    let torn = interrupted effect (ledger_of old) in
    is_safe g.F.FileSystem (folders_of old) laws (λ e. engine_keeps e) (ledger_of old) (Down found) torn
    (Untouched after found torn (Crashed (Inside n) torn after (InsideCall old new (ledger_of old) effect n (BeginsWith old refl alive refl) call alive moment) crash) same) config files answer refl opens
