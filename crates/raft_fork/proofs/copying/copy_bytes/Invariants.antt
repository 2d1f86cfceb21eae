use Rattle.std.proofs.Common.{◌≡◌, ◌≤◌, ◌<◌, ◌-◌, ◌^◌, length, take}
use Rattle.raft_env.specs.Directory.{HasFile}
use Rattle.raft_env.specs.Moments.{MovesBy}
use Rattle.raft_files.specs.Writer.{bytes_at}
use Rattle.raft_pipes.specs.Folder.{LeavesOthers}
use Rattle.raft_fork.proofs.copying.copy_bytes.Given as goal

-- the bytes before are copied
abbrev pub invariant-loop-at : goal.invariant-loop-at
invariant-loop-at g l =
    let f = g.F.FileSystem in
    let bytes = bytes_at l.from (f.directory l.fn.file_system) in
    record {
      writer : f.writer_path l.writer ≡ l.to;
      size : l.size ≡ length bytes;
      fits : l.size < 2 ^ 63;
      within : l.at ≤ l.size;
      stands : HasFile (f.directory l.file_system) l.to;
      copied : bytes_at l.to (f.directory l.file_system) ≡ take l.at bytes;
      folders : (f.directory l.file_system).is_folder ≡ (f.directory l.fn.file_system).is_folder;
      room : 0 < length l.buffer;
      moments : MovesBy f.directory f.moments f.refusals_of (LeavesOthers l.to) l.fn.file_system l.file_system;
    }

abbrev pub decreases-loop-at : goal.decreases-loop-at
decreases-loop-at g l = l.size - l.at
