-- A folder may go to another thread and be shared.
use denote.RattleType.{RattleType}
use denote.Struct.Declared.{shape}
use denote.Param.Send.{IsSend, IsSync, AllSend, AllSync, sendable}
use denote.Param.Send.{owning_send, part_keyless}
use denote.Param.Send.{recorded_send, recorded_sync, struct_send, struct_sync}
use Rattle.std.proofs.Crossing as items
use Rattle.std.specs.contracts.fs.File as file
use Rattle.raft_memory.proofs.Sent.{memory_send, noted_field_send}
use Rattle.raft_base.specs.contracts.history.History as history
use Rattle.raft_disk.specs.contracts.folder.Folder as folder
use Rattle.raft_env.specs.declared.env.FileSystem.{Ghosts as FileGhosts}
use Rattle.raft_disk.specs.declared.disk.Disk.{Ghosts as DiskGhosts}
use Rattle.raft_disk.specs.contracts.mirror.Mirror as mirror
use Rattle.raft_memory.specs.contracts.refusals.RefusalCount as refusals
use Rattle.raft_disk.specs.contracts.told.Call as call
use Rattle.raft_disk.specs.contracts.spans.Spans as spans
use Rattle.raft_disk.specs.contracts.spans.SpanReport as report
use Rattle.raft_disk.specs.contracts.spans.SpanReports as reports
use Rattle.raft_disk.specs.contracts.span_file.SpanFile as span_file

call_send : IsSend call.the_row
call_send = search (sendable, items.crosses, noted_field_send) depth 20

file_send : IsSend file.the_row
file_send = search (sendable, items.crosses) depth 20

file_sync : IsSync file.the_row
file_sync = search (sendable, items.crosses) depth 20

file_field_send : IsSend (file.the_field).row
file_field_send = search (sendable, items.crosses) depth 20

file_field_sync : IsSync (file.the_field).row
file_field_sync = search (sendable, items.crosses) depth 20

history_send : (A : RattleType) → IsSend A → IsSend (history.the_row A)
history_send A a = owning_send (history.the_type A) (search sendable, tt) (λ d. tt) (λ k x w. tt)

history_sync : (A : RattleType) → IsSend A → IsSync (history.the_row A)
history_sync A a = record {
  shared = λ d b o κ q. part_keyless (history.the_row A) (history_send A a) q d b o;
}

spans_field_send : IsSend (spans.the_field).row
spans_field_send = search (sendable, items.crosses) depth 20

spans_field_sync : IsSync (spans.the_field).row
spans_field_sync = search (sendable, items.crosses) depth 20

report_field_send : IsSend (report.the_field).row
report_field_send = search (sendable, items.crosses) depth 20

report_field_sync : IsSync (report.the_field).row
report_field_sync = search (sendable, items.crosses) depth 20

reports_field_send : IsSend (reports.the_field).row
reports_field_send = search (sendable, items.crosses, report_field_send) depth 20

reports_field_sync : IsSync (reports.the_field).row
reports_field_sync = search (sendable, items.crosses, report_field_sync) depth 20

span_file_field_send : IsSend (span_file.the_field).row
span_file_field_send = search (
  sendable,
  items.crosses,
  file_field_send,
  spans_field_send,
  reports_field_send,
) depth 20

span_file_field_sync : IsSync (span_file.the_field).row
span_file_field_sync = search (
  sendable,
  items.crosses,
  file_field_sync,
  spans_field_sync,
  reports_field_sync,
) depth 20

pub folder_send : IsSend folder.the_row
folder_send = search (
  sendable,
  items.crosses,
  call_send,
  file_field_send,
  history_send,
  memory_send,
  span_file_field_send,
) depth 20

pub folder_sync : IsSync folder.the_row
folder_sync = search (
  sendable,
  items.crosses,
  call_send,
  file_field_sync,
  history_sync,
  memory_send,
  span_file_field_sync,
) depth 20

refusals_field_send : IsSend (refusals.the_field).row
refusals_field_send = search (sendable, items.crosses, history_send) depth 20

refusals_field_sync : IsSync (refusals.the_field).row
refusals_field_sync = search (sendable, items.crosses, history_send, history_sync) depth 20

-- .. and so may a mirror of a disk and an image that may
module _ (D F X H R W : RattleType) (d : DiskGhosts D.Denot X.Denot)
    (g : FileGhosts F.Denot H.Denot R.Denot W.Denot) where
  parts_send : IsSend D → IsSend F → AllSend (shape (mirror.the_type D F X H R W d g)).fields
  parts_send a b =
      (search sendable depth 20, (a, (b, (refusals_field_send, (search sendable, tt)))))

  parts_sync : IsSync D → IsSync F → AllSync (shape (mirror.the_type D F X H R W d g)).fields
  parts_sync a b =
      (search sendable depth 20, (a, (b, (refusals_field_sync, (search sendable, tt)))))

  pub mirror_send : IsSend D → IsSend F → IsSend (mirror.the_row D F X H R W d g)
  mirror_send a b = recorded_send _ _ _ (mirror.the_type D F X H R W d g).to_one
      (struct_send (shape (mirror.the_type D F X H R W d g)) (parts_send a b))

  pub mirror_sync : IsSync D → IsSync F → IsSync (mirror.the_row D F X H R W d g)
  mirror_sync a b = recorded_sync _ _ _ (mirror.the_type D F X H R W d g).to_one
      (struct_sync (shape (mirror.the_type D F X H R W d g)) (parts_sync a b))
