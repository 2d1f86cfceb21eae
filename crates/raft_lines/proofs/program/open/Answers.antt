use denote.Param.Send.{sendable}
use Rattle.std.proofs.Common.{◌≡◌, ◌∙◌, [], None, ap}
use Rattle.raft_memory.proofs.Sent.{memory_send, memory_sync}
use Rattle.raft_memory.specs.Memory.{memory_directory, memory_refusals, no_files}
use Rattle.raft_base.specs.declared.pipe_log.LogQueue.{LogQueue}
use Rattle.raft_base.specs.declared.pipe_log.LogQueue.TheVariants.{Append, Rewrite}
use Rattle.raft_records.specs.Contents.{no_contents}
use Rattle.raft_tables.specs.Known.{known_in}
use Rattle.raft_env.specs.Directory.{Directory}
use Rattle.raft_pipes.specs.Folder.{readable_of, readable_queue}
use Rattle.raft_pipes.proofs.FolderQueueLemmas.{log_files-no_log}
use Rattle.raft_config.specs.Folders.{Folders, folders_in}
use Rattle.raft_recovery_laws.proofs.ContentsLemmas.{recovered-nothing_rewritten}
use Rattle.raft_log_engine.proofs.CrashLemmas.{same_groups, same_queues}
use Rattle.raft_lines.proofs.ProgramLemmas.{opened_in, opened_or_copy, opened_or_refused, opened_with}
use Rattle.raft_script.proofs.TrialLemmas.{no_log, same_folders}
use Rattle.raft_lines.specs.Program.{IsMetBy}
use Rattle.raft_lines.proofs.program.open.Goals as goal

pub open_in_order-requires-send-F : goal.open_in_order-requires-send-F
open_in_order-requires-send-F c = λ κs. search (sendable, memory_send) depth 20

pub open_in_order-requires-sync-F : goal.open_in_order-requires-sync-F
open_in_order-requires-sync-F c = λ κs. search (sendable, memory_sync) depth 20

-- where there are no files nothing can be read
none_readable : (queue : LogQueue) (folders : Folders) (n : Directory) → n ≡ no_files → readable_queue queue folders n ≡ []
none_readable queue folders n is = ap (readable_of queue n) (log_files-no_log queue folders n (no_log folders n is))

pub returns : goal.returns
returns c =
    let config = c.args.config.now in
    let copy = c.in_ok-copy.copy in
    let dir = folders_in copy in
    let files = memory_directory c.new.result in
    let same = same_folders config copy c.in_ok-copy.ensures.value in
    let none : (queue : LogQueue) → readable_queue queue dir files ≡ [] = λ queue. none_readable queue dir files c.new.ensures.value in
    let opened = opened_in dir (folders_in config) files no_contents (known_in []) c.open_in_order.result same (same_queues dir files [] [] (none Rewrite) (none Append) ∙ recovered-nothing_rewritten []) (same_groups dir files [] [] (none Rewrite) (none Append))
    (opened_with dir files c.open_in_order.result c.open_in_order.ensures.opened.ok c.open_in_order.ensures.opened.value) in
    record { value = opened_or_copy (IsMetBy config None) config copy files no_files c.open_in_order.result c.in_ok-copy.ensures.value c.new.ensures.value (opened_or_refused (IsMetBy config None) _ copy files (memory_refusals c.new.result) memory_refusals c.open_in_order.result opened c.open_in_order.ensures.refused) }
