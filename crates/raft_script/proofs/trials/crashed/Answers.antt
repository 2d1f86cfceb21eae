use denote.Param.Send.{sendable}
use Rattle.std.proofs.Common.{◌≡◌, [], subst, sym}
use Rattle.raft_memory.proofs.Sent.{memory_send, memory_sync}
use Rattle.std.proofs.lemmas.Result.{err_from_is_err_and}
use Rattle.raft_memory.specs.Memory.{memory_directory}
use Rattle.raft_memory.specs.Choice.{left_by}
use Rattle.raft_records.specs.Contents.{Contents}
use Rattle.raft_base.specs.declared.pipe_log.LogQueue.{LogQueue}
use Rattle.raft_pipes.specs.Folder.{readable_queue}
use Rattle.raft_pipes.specs.Numbered.{in_queue}
use Rattle.raft_config.specs.Folders.{folders_in}
use Rattle.raft_script.proofs.TrialLemmas.{choices_refused, clear_of_none, free_of_clear, no_log, none_done, none_known, run_shown, true_of_none}
use Rattle.raft_crash_laws.specs.Crash.{RecoversContents}
use Rattle.raft_script.specs.Trial.{HaveNoLogPath, Ran}
use Rattle.raft_script.proofs.trials.crashed.Goals as goal

pub run_over-requires-send-F : goal.run_over-requires-send-F
run_over-requires-send-F c = λ κs. search (sendable, memory_send) depth 20

pub run_over-requires-sync-F : goal.run_over-requires-sync-F
run_over-requires-sync-F c = λ κs. search (sendable, memory_sync) depth 20

pub returns-clause-value : goal.returns-clause-value
returns-clause-value c =
    let config = c.args.config in
    let dir = folders_in config in
    let first = c.new_files.result in
    let last = c.in_ok-ran.files in
    let before = memory_directory first in
    let files = memory_directory last in
    let left = left_by c.args.choices.now files in
    let none = c.new_files.ensures.files in
    let ran : Ran = record { outcomes = c.in_ok-ran.ran.outcomes.items; failed_at = c.in_ok-ran.ran.failed_at; refused = c.in_ok-ran.refused } in
    let leaves = c.in_ok-left.ensures.value in
    let unread : HaveNoLogPath dir → (queue : LogQueue) → readable_queue queue dir before ≡ [] = λ free queue. (c.crash_leaves_a_prefix.ensures.none queue dir before (no_log dir before none) (clear_of_none dir before free none)).0 in
    let shown = λ (free : HaveNoLogPath dir). run_shown _ config c.args.ops.now ran first last c.in_ok-ran.ensures.ok (none_known dir before (unread free)) (true_of_none dir before (c.crash_leaves_contents.ensures.none dir before) free none) in
    let m = memory_directory c.in_ok-left.left in
    let restarted = c.in_ok-left.ensures.ok in
    record {
      last = last;
      runs = record {
        first = first;
        none = none;
        fails = c.new_files.ensures.stop;
        added = c.in_ok-ran.ensures.any_moment.0;
        later = c.in_ok-ran.ensures.any_moment.1;
        free = λ opened. free_of_clear dir before (c.in_ok-ran.ensures.clear opened);
        runs = shown;
      };
      leaves = leaves;
      restarted = restarted;
      fails = (c.in_ok-left.ensures.others.1, c.in_ok-left.ensures.others.0, c.in_ok-left.ensures.counts);
      detectable = λ opened stands whole stale. c.in_ok-ran.ensures.crash (none_done dir before (λ absent queue. (c.a_queue_recovers_its_batches.ensures.none queue dir before absent).0) none) opened stands (λ queue f kept file at. record { only_writes = c.in_ok-left.ensures.only_writes f.1 file at }) stale c.in_ok-left.ensures.consistent c.args.choices.now whole;
      torn = λ named before queue f last file at.
          let read = before queue f file last at in
          c.premise_can_be_met.ensures.own f.1 (in_queue queue f.0) files file at read.0 c.in_ok-left.ensures.consistent read.1 c.args.choices.now named read.2 file at;
      opens = λ free detectable.
          let empty = true_of_none dir before (c.crash_leaves_contents.ensures.none dir before) free none in
          let keeps = subst (λ (x : Contents). RecoversContents dir x [] before) (sym empty.0) empty.1 in
          c.crash_leaves_contents.ensures.opens dir files m left restarted (c.in_ok-ran.ensures.sound keeps left leaves detectable);
      kept = λ free detectable.
          let keeps = subst (λ (x : Contents). RecoversContents dir x [] before) (sym (true_of_none dir before (c.crash_leaves_contents.ensures.none dir before) free none).0) (true_of_none dir before (c.crash_leaves_contents.ensures.none dir before) free none).1 in
          let sound = c.in_ok-ran.ensures.sound keeps left leaves detectable in
          subst (λ (x : Contents). RecoversContents dir x [] m) (sym (c.crash_leaves_contents.ensures.found dir files m left restarted))
          (c.crash_leaves_contents.ensures.restarted dir files m left restarted sound);
    }

pub returns-in_err-left-clause-cause : goal.returns-in_err-left-clause-cause
returns-in_err-left-clause-cause c =
    let config = c.args.config in
    let dir = folders_in config in
    let first = c.new_files.result in
    let last = c.in_ok-ran.files in
    let before = memory_directory first in
    let files = memory_directory last in
    let none = c.new_files.ensures.files in
    let ran : Ran = record { outcomes = c.in_ok-ran.ran.outcomes.items; failed_at = c.in_ok-ran.ran.failed_at; refused = c.in_ok-ran.refused } in
    let unread : HaveNoLogPath dir → (queue : LogQueue) → readable_queue queue dir before ≡ [] = λ free queue. (c.crash_leaves_a_prefix.ensures.none queue dir before (no_log dir before none) (clear_of_none dir before free none)).0 in
    let shown = λ (free : HaveNoLogPath dir). run_shown _ config c.args.ops.now ran first last c.in_ok-ran.ensures.ok (none_known dir before (unread free)) (true_of_none dir before (c.crash_leaves_contents.ensures.none dir before) free none) in
    let p = err_from_is_err_and c.from_residual-in_err-left.result c.from_residual-in_err-left.ensures.1 in
    rw (p.1, p.2) (choices_refused files c.args.choices.now c.in_err-left.field-0.0 (λ named. c.premise_can_be_met.ensures.allowed c.args.choices.now files named c.in_err-left.ensures.consistent) c.in_err-left.ensures.cause
    (λ not_left. record {
      ran = ran;
      last = last;
      runs = record {
        first = first;
        none = none;
        fails = c.new_files.ensures.stop;
        added = c.in_ok-ran.ensures.any_moment.0;
        later = c.in_ok-ran.ensures.any_moment.1;
        free = λ opened. free_of_clear dir before (c.in_ok-ran.ensures.clear opened);
        runs = shown;
      };
      refused = not_left;
    }))
