use denote.Param.Send.{sendable}
use Rattle.std.proofs.Common.{◌∙◌, ⊎_elim, [], inl, inr, refl, subst, sym}
use Rattle.std.proofs.lemmas.Result.{err_from_is_err_and}
use Rattle.raft_memory.proofs.Sent.{memory_send, memory_sync}
use Rattle.raft_config.specs.Folders.{Folders, folders_in}
use Rattle.raft_env.specs.Directory.{Directory}
use Rattle.raft_crash_laws.specs.Contents.{contents_at}
use Rattle.raft_crash_laws.specs.Crash.{IsLeftFrom, RecoversContents, StillRecovers, contents_after_crash}
use Rattle.raft_crash_laws.specs.Queues.{AreSingleIn}
use Rattle.raft_memory.specs.Choice.{left_by}
use Rattle.raft_memory.specs.Memory.{memory_directory}
use Rattle.raft_pipes.specs.Folder.{AreClear}
use Rattle.raft_script.proofs.TrialLemmas.{choices_refused, clear_restarted, reopens_same, same_folders, single_restarted}
use Rattle.raft_script.proofs.CrashLemmas.{allowed_alone}
use Rattle.raft_script.proofs.TrialOpeningLemmas.{OpensTolerantly, crash_clear, crash_opens, crash_single, opening_shown}
use Rattle.raft_script.specs.Trial.{AreDetectablyLeft, HaveNoLogPath, Ran}
use Rattle.raft_script.proofs.trials.trial_twice.Goals as goal

pub open_and_give_up-image-requires-send-F : goal.open_and_give_up-image-requires-send-F
open_and_give_up-image-requires-send-F c = λ κs. search (sendable, memory_send) depth 20

pub open_and_give_up-image-requires-sync-F : goal.open_and_give_up-image-requires-sync-F
open_and_give_up-image-requires-sync-F c = λ κs. search (sendable, memory_sync) depth 20

pub open_and_give_up-opened-requires-send-F : goal.open_and_give_up-opened-requires-send-F
open_and_give_up-opened-requires-send-F c = λ κs. search (sendable, memory_send) depth 20

pub open_and_give_up-opened-requires-sync-F : goal.open_and_give_up-opened-requires-sync-F
open_and_give_up-opened-requires-sync-F c = λ κs. search (sendable, memory_sync) depth 20

pub returns-clause-value : goal.returns-clause-value
returns-clause-value c =
    let config = c.args.config in
    let dir = folders_in config in
    let ops = c.args.ops.now in
    let choices = c.args.choices.now in
    let more = c.args.more.now in
    let first = c.in_ok-ran.first in
    let ran : Ran = record { outcomes = c.in_ok-ran.ran.outcomes.items; failed_at = c.in_ok-ran.ran.failed_at; refused = c.in_ok-ran.refused } in
    let crash = c.in_ok-ran.ensures.value in
    let Q = AreDetectablyLeft dir crash.last choices in
    let m = contents_at dir (memory_directory first) in
    let begun = c.stopped.result in
    let begins = c.stopped.ensures.unchanged in
    let opened = c.open_and_give_up-image.ensures in
    let last = c.open_and_give_up-image.result.1 in
    let files = memory_directory last in
    let d = left_by more files in
    let left = c.in_ok-left.left in
    let after = memory_directory left in
    let leaves = c.in_ok-left.ensures.value in
    let restarted = c.in_ok-left.ensures.ok in
    let law = c.crash_leaves_contents.ensures in
    let copied = same_folders config c.in_ok-second.second c.in_ok-second.ensures.value in
    let still : StillRecovers dir (memory_directory begun) files = subst (λ (p : Folders). StillRecovers p (memory_directory begun) files) copied opened.any_moment.any_moment.throughout.here in
    let recovers : HaveNoLogPath dir → Q → RecoversContents dir m [] files = λ free q. still m [] (subst (λ (n : Directory). RecoversContents dir m [] n) (sym begins) (crash.kept free q)) in
    let left_as : HaveNoLogPath dir → Q → IsLeftFrom 0 dir m [] files d = λ free q. law.left dir m [] files (recovers free q) d leaves in
    let stands : HaveNoLogPath dir → Q → AreClear dir after × AreSingleIn dir after = λ free q. (clear_restarted dir files after d restarted (law.clear dir m [] files (recovers free q)), single_restarted dir files after d restarted (law.single dir m [] files (recovers free q))) in
    record {
      first = first;
      crash = crash;
      left = left;
      second = record {
        begun = begun;
        begins = begins;
        fails = c.stopped.ensures.stop crash.fails;
        image = c.open_and_give_up-image.result.0;
        is = refl;
        last = last;
        opening = opening_shown _ Q (Unit {0}) config c.in_ok-second.second begun last c.open_and_give_up-image.result.0 c.in_ok-second.ensures.value
            (λ free before q. subst (OpensTolerantly dir) (sym begins) (crash_opens _ config ops c.args.stop choices ran first crash refl free q))
            (λ free before. (subst (AreClear dir) (sym begins) (crash_clear _ config ops c.args.stop choices ran first crash refl free), subst (AreSingleIn dir) (sym begins) (crash_single _ config ops c.args.stop choices ran first crash refl free)))
            opened.any_moment opened.value opened.refused opened.cause opened.opens;
        leaves = leaves;
        restarted = restarted;
        fresh = (c.in_ok-left.ensures.others.1, c.in_ok-left.ensures.others.0, c.in_ok-left.ensures.counts);
        same = λ free q p. law.found dir files after d restarted ∙ allowed_alone m (contents_after_crash dir files d) ((left_as free q).found p);
      };
      last = c.open_and_give_up-opened.result.1;
      opening = opening_shown _ (AreDetectablyLeft dir last more) Q config c.in_ok-last.last left c.open_and_give_up-opened.result.1 c.open_and_give_up-opened.result.0 c.in_ok-last.ensures.value
          (λ free q p. record {
            clear = (stands free q).0;
            single = (stands free q).1;
            openable = law.opens dir files after d restarted ((left_as free q).sound p);
          })
          stands c.open_and_give_up-opened.ensures.any_moment c.open_and_give_up-opened.ensures.value c.open_and_give_up-opened.ensures.refused c.open_and_give_up-opened.ensures.cause c.open_and_give_up-opened.ensures.opens;
    }

pub returns-in_err-left-clause-cause : goal.returns-in_err-left-clause-cause
returns-in_err-left-clause-cause c =
    let last = c.open_and_give_up-image.result.1 in
    let files = memory_directory last in
    let more = c.args.more.now in
    let ran : Ran = record { outcomes = c.in_ok-ran.ran.outcomes.items; failed_at = c.in_ok-ran.ran.failed_at; refused = c.in_ok-ran.refused } in
    let p = err_from_is_err_and c.from_residual-in_err-left.result c.from_residual-in_err-left.ensures.1 in
    rw (p.1, p.2) (⊎_elim inl (λ no. inr (inr no)) (choices_refused files more c.in_err-left.field-0.0 (λ named. c.premise_can_be_met.ensures.allowed more files named c.in_err-left.ensures.consistent) c.in_err-left.ensures.cause
    (λ not_left. record {
      ran = ran;
      first = c.in_ok-ran.first;
      crash = c.in_ok-ran.ensures.value;
      begun = c.stopped.result;
      begins = c.stopped.ensures.unchanged;
      fails = c.stopped.ensures.stop c.in_ok-ran.ensures.value.fails;
      image = c.open_and_give_up-image.result.0;
      last = last;
      reopened = reopens_same (folders_in c.in_ok-second.second) (folders_in c.args.config) c.stopped.result last c.open_and_give_up-image.result.0 (same_folders c.args.config c.in_ok-second.second c.in_ok-second.ensures.value) c.open_and_give_up-image.ensures.any_moment;
      refused = not_left;
    })))

pub returns-in_err-ran-clause-cause : goal.returns-in_err-ran-clause-cause
returns-in_err-ran-clause-cause c =
    let p = err_from_is_err_and c.from_residual-in_err-ran.result c.from_residual-in_err-ran.ensures.1 in
    rw (p.1, p.2) (⊎_elim inl (λ no. inr (inl no)) c.in_err-ran.ensures.cause)
