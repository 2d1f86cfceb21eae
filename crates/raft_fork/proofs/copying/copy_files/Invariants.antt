use Rattle.std.proofs.Common.{◌≡◌, ◌<◌, [], length, map, take}
use Rattle.std.specs.String.{string_bytes}
use Rattle.raft_env.specs.Moments.{MovesBy}
use Rattle.raft_opening.specs.Files.{LeavesAllBut}
use Rattle.raft_fork.specs.Fork.{AreBeingCopied, AreCopied, copies_in, source_of}
use Rattle.raft_fork.proofs.copying.copy_files.Given as goal

-- the files before are copied
abbrev pub invariant-loop-file : goal.invariant-loop-file
invariant-loop-file g l =
    let f = g.F.FileSystem in
    let done = map source_of (take l.file-index l.fn.files) in
    let old = f.directory l.fn.file_system in
    let mid = f.directory l.file_system in
    record {
      room : 0 < length l.buffer.items;
      copies : map string_bytes l.copied.items ≡ copies_in l.fn.target done;
      copied : AreCopied l.fn.target done old mid;
      others : LeavesAllBut (copies_in l.fn.target done) old mid;
      folders : mid.is_folder ≡ old.is_folder;
      moments : MovesBy f.directory f.moments f.refusals_of (AreBeingCopied [] l.fn.target (map source_of l.fn.files)) l.fn.file_system l.file_system;
    }
