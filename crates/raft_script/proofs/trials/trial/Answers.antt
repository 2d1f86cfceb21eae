use denote.Param.Send.{sendable}
use Rattle.std.proofs.Common.{refl}
use Rattle.raft_memory.proofs.Sent.{memory_send, memory_sync}
use Rattle.std.proofs.lemmas.Result.{err_from_is_err_and}
use Rattle.raft_config.specs.Folders.{folders_in}
use Rattle.raft_script.proofs.TrialOpeningLemmas.{crash_clear, crash_opens, crash_single, opening_shown}
use Rattle.raft_script.specs.Trial.{AreDetectablyLeft, Ran}
use Rattle.raft_script.proofs.trials.trial.Goals as goal

pub open_and_give_up-opened-requires-send-F : goal.open_and_give_up-opened-requires-send-F
open_and_give_up-opened-requires-send-F c = λ κs. search (sendable, memory_send) depth 20

pub open_and_give_up-opened-requires-sync-F : goal.open_and_give_up-opened-requires-sync-F
open_and_give_up-opened-requires-sync-F c = λ κs. search (sendable, memory_sync) depth 20

pub returns-clause-value : goal.returns-clause-value
returns-clause-value c =
    let config = c.args.config in
    let ops = c.args.ops.now in
    let choices = c.args.choices.now in
    let left = c.in_ok-ran.left in
    let ran : Ran = record { outcomes = c.in_ok-ran.ran.outcomes.items; failed_at = c.in_ok-ran.ran.failed_at; refused = c.in_ok-ran.refused } in
    let crash = c.in_ok-ran.ensures.value in
    let opening = c.open_and_give_up-opened.ensures in
    record {
      again = left;
      crash = crash;
      none = refl;
      last = c.open_and_give_up-opened.result.1;
      opening = opening_shown _ (AreDetectablyLeft (folders_in config) crash.last choices) (Unit {0}) config c.in_ok-again.again left c.open_and_give_up-opened.result.1 c.open_and_give_up-opened.result.0 c.in_ok-again.ensures.value
          (λ free before detectable. crash_opens _ config ops c.args.stop choices ran left crash refl free detectable)
          (λ free before. (crash_clear _ config ops c.args.stop choices ran left crash refl free, crash_single _ config ops c.args.stop choices ran left crash refl free))
          opening.any_moment opening.value opening.refused opening.cause opening.opens;
    }

pub returns-in_err-ran-clause-cause : goal.returns-in_err-ran-clause-cause
returns-in_err-ran-clause-cause c =
    let p = err_from_is_err_and c.from_residual-in_err-ran.result c.from_residual-in_err-ran.ensures.1 in
    rw (p.1, p.2) c.in_err-ran.ensures.cause
