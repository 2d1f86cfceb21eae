use denote.Param.Send.{sendable}
use Rattle.std.proofs.Common.{subst, sym}
use Rattle.raft_memory.proofs.Sent.{memory_send, memory_sync}
use Rattle.raft_memory.specs.Choice.{NameNoBytes}
use Rattle.raft_memory.specs.Memory.{memory_directory}
use Rattle.raft_lines.proofs.ProgramLemmas.{crash_refused}
use Rattle.raft_lines.proofs.program.crashed.Goals as goal

pub count_files-requires-send-F : goal.count_files-requires-send-F
count_files-requires-send-F c = λ κs. search (sendable, memory_send) depth 20

pub count_files-requires-sync-F : goal.count_files-requires-sync-F
count_files-requires-sync-F c = λ κs. search (sendable, memory_sync) depth 20

pub returns-clause-cause : goal.returns-clause-cause
returns-clause-cause c = crash_refused c.deref.result.now (memory_directory c.count_files.new.files) (subst NameNoBytes (sym c.deref.ensures.value) c.in_ok-choices_of.ensures.bytes) c.crash.ensures.consistent c.crash.result c.crash.ensures.cause
