use denote.Param.Send.{sendable}
use Rattle.raft_memory.proofs.Sent.{memory_send, memory_sync}
use Rattle.raft_memory.specs.Memory.{memory_directory}
use Rattle.raft_config.specs.Folders.{folders_in}
use Rattle.raft_crash_laws.specs.Contents.{contents_at, known_at}
use Rattle.raft_lines.proofs.ProgramLemmas.{opens_after_crash, opens_weaker, refused_after_crash}
use Rattle.raft_script.proofs.TrialLemmas.{same_folders}
use Rattle.raft_lines.specs.Program.{HoldsAfterCrash, IsCrashFault, IsNewWith, IsOpeningFault}
use Rattle.raft_lines.proofs.program.crash.Goals as goal

pub give_up-whole-requires-send-F : goal.give_up-whole-requires-send-F
give_up-whole-requires-send-F c = λ κs. search (sendable, memory_send) depth 20

pub give_up-whole-requires-sync-F : goal.give_up-whole-requires-sync-F
give_up-whole-requires-sync-F c = λ κs. search (sendable, memory_sync) depth 20

pub open_again-requires-send-F : goal.open_again-requires-send-F
open_again-requires-send-F c = λ κs. search (sendable, memory_send) depth 20

pub open_again-requires-sync-F : goal.open_again-requires-sync-F
open_again-requires-sync-F c = λ κs. search (sendable, memory_sync) depth 20

pub returns-in-Ok : goal.returns-in-Ok
returns-in-Ok c =
    let config = c.args.config.now in
    let old = c.args.met in
    let folders = folders_in config in
    let copy = c.in_ok-copy.copy in
    let is = c.in_ok-copy.ensures.value in
    let dir = folders_in copy in
    let n = memory_directory c.give_up-whole.result in
    let n_is = c.give_up-whole.ensures.unchanged.0 in
    let m = memory_directory c.in-Ok.files in
    let left = c.in-Ok.ensures.value in
    record {
      value = opens_weaker (IsNewWith dir (contents_at dir m) (known_at dir m)) (HoldsAfterCrash folders old) (IsOpeningFault copy m) (IsCrashFault config old)
          (λ e opened. opens_after_crash folders old e dir n m left.0 (same_folders config copy is) n_is left.1 (c.crash_leaves_contents.ensures.found dir n m left.0 left.2) (c.crash_leaves_contents.ensures.known dir n m left.0 left.2) opened)
          (λ e refused. refused_after_crash config copy old n m left.0 e is n_is left.1 left.2 refused) c.open_again.result c.open_again.new.engine c.open_again.ensures.value;
    }
