-- Log files that are synced and read to their end.
use Rattle.std.specs.Prelude.{◌≡◌, ℕ, true, List, length, Some}
use Rattle.std.specs.List.{AllByRecursion}
use Rattle.raft_records.specs.Item.{Batch}
use Rattle.raft_base.specs.declared.pipe_log.FileId.{FileId}
use Rattle.raft_env.specs.Outcomes.{File, Change}
use Rattle.raft_env.specs.Directory.{Directory, Path, file_at}
use Rattle.raft_files.specs.Scan.{readable_batches, is_read_to_end}

-- the change touched no byte of a file with these, nor its length
pub record IsStillBy (synced : List ℕ) (c : Change) : Type 0 where
  pub size : c.size ≡ 0
  pub after : c.after ≡ synced
  pub shortest : c.shortest ≡ length synced
  pub longest : c.longest ≡ length synced

-- at the path stands a log file with these batches that is synced and read to its end: a crash leaves
-- all of it. A file that is closed again may have changes that touched nothing
pub record IsSealed (path : Path) (id : FileId) (batches : List Batch) (n : Directory)
    : Type 0 where
  pub file : File
  pub stands : file_at n path ≡ Some file
  pub latest : file.now ≡ file.synced
  pub still : AllByRecursion (IsStillBy file.synced) file.changes
  pub read : is_read_to_end id file.now ≡ true
  pub holds : readable_batches id file.now ≡ batches
