-- What a fork of log files is.
use Rattle.std.specs.Prelude.{◌≡◌, ◌⊎◌, ◌++◌, ◌∷◌, true, Contains, List, [], None, map, take}
use Rattle.std.specs.List.{AllByRecursion, filter}
use Rattle.std.specs.String.{string_bytes}
use Rattle.raft_base.specs.declared.pipe_log.FileId.{FileId}
use Rattle.raft_base.specs.declared.pipe_log.LogQueue.{LogQueue}
use Rattle.raft_base.specs.declared.pipe_log.LogQueue.TheVariants.{Append, Rewrite}
use Rattle.raft_env.specs.Directory.{Directory, HasFile, Path, file_at, path_in}
use Rattle.raft_files.specs.Writer.{bytes_at}
use Rattle.raft_config.specs.Folders.{Folders, all_of}
use Rattle.raft_pipes.specs.Files.{IsDurable}
use Rattle.raft_opening.specs.Files.{LeavesAllBut}
use Rattle.raft_pipes.specs.Folder.{HasMadeFolder, IsLogPathIn}
use Rattle.raft_pipes.specs.Numbered.{AreDistinct, AreSingle, in_queue, kept_files, path_of}
use Rattle.raft_pipes.specs.Queue.{LeavesAll}
use Rattle.raft_fork.specs.declared.forking.CopyDetails.{CopyDetails}
use Rattle.raft_fork.specs.declared.marking.TheConstants.{FORK_MARK}
use Rattle.raft_fork.specs.declared.source.SourceFile.{SourceFile}

-- a source file: its queue and number, and its path
abbrev pub Source : Type 0
Source = FileId × Path

-- the source file as a pair
abbrev pub source_of : SourceFile → Source
source_of f = (f.id, string_bytes f.path)

-- those of the folders that exist
abbrev pub standing : Folders → Directory → List Path
standing folders n = filter n.is_folder (all_of folders)

-- the files of a queue that an opening of these folders keeps, by number
abbrev pub sources_in : LogQueue → List Path → Directory → List Source
sources_in queue there n = map (λ f. (in_queue queue f.0, f.1)) (kept_files there queue n)

-- the files that a fork copies: those of the Append queue, and then those of the Rewrite queue
abbrev pub all_sources_in : List Path → Directory → List Source
all_sources_in there n = sources_in Append there n ++ sources_in Rewrite there n

-- the source files of both queues in those of the folders that exist
abbrev pub sources_of : Folders → Directory → List Source
sources_of folders n = all_sources_in (standing folders n) n

-- the path that a source file is copied to
abbrev pub copy_in : Path → Source → Path
copy_in target f = path_of target f.0

-- the paths that these source files are copied to
abbrev pub copies_in : Path → List Source → List Path
copies_in target files = map (copy_in target) files

-- a copy has the bytes that its file had, and a crash leaves it as it is
abbrev pub AreCopied : Path → List Source → Directory → Directory → Type 0
AreCopied target files old new =
    AllByRecursion (λ f. IsDurable (copy_in target f) (bytes_at f.1 old) new) files

-- no log file is in the folder
abbrev pub HasNoLogIn : Path → Directory → Type 0
HasNoLogIn folder n = (path : Path) → IsLogPathIn folder path → file_at n path ≡ None

-- the folder exists, or no log file is in it
abbrev pub IsThereOrEmpty : Path → Directory → Type 0
IsThereOrEmpty folder n = (n.is_folder folder ≡ true) ⊎ HasNoLogIn folder n

-- each of these folders exists, or no log file is in it
abbrev pub AreThereOrEmpty : Folders → Directory → Type 0
AreThereOrEmpty folders n =
    (folder : Path) → Contains (all_of folders) folder → IsThereOrEmpty folder n

-- the path of the mark of a fork that hasn't ended
abbrev pub mark_in : Path → Path
mark_in target = path_in target FORK_MARK.now

-- no file has the target's path, and the target has no log file and no mark
pub record IsFree (target : Path) (n : Directory) : Type 0 where
  pub folder : HasFile n target → ⊥
  pub logs : HasNoLogIn target n
  pub unmarked : file_at n (mark_in target) ≡ None

-- the target has copies of the folders' log files and no others, and all else is as before
pub record IsForkOf (folders : Folders) (target : Path) (old new : Directory) : Type 0 where
  pub free : IsFree target old
  pub single : (queue : LogQueue) → AreSingle (standing folders old) queue old
  pub copied : AreCopied target (sources_of folders old) old new
  pub others : LeavesAllBut (copies_in target (sources_of folders old)) old new
  pub folder : HasMadeFolder target old new

-- a moment of copying: some files are copied, and the next one may be under way
pub record AreBeingCopied (aside : List Path) (target : Path) (files : List Source)
    (old n : Directory) : Type 0 where
  pub done : List Source
  pub rest : List Source
  pub is : files ≡ done ++ rest
  pub copied : AreCopied target done old n
  -- only the copies and the paths aside have changed
  pub others : LeavesAllBut (aside ++ copies_in target (done ++ take 1 rest)) old n

-- a moment of copying while the mark exists
pub record AreBeingMarked (target : Path) (files : List Source) (old n : Directory) : Type 0 where
  pub marked : HasFile n (mark_in target)
  pub copies : AreBeingCopied (mark_in target ∷ []) target files old n

-- all files are copied, and no other file and no folder is new
pub record AreAllCopied (target : Path) (files : List Source) (old n : Directory) : Type 0 where
  pub copied : AreCopied target files old n
  pub others : LeavesAllBut (copies_in target files) old n
  pub folders : n.is_folder ≡ old.is_folder

-- a moment of copying with a mark: no file has changed, the mark exists, or all are copied
abbrev pub IsMarkedCopying : Path → List Source → Directory → Directory → Type 0
IsMarkedCopying target files old n =
    LeavesAll old n ⊎ AreBeingMarked target files old n ⊎ AreAllCopied target files old n

-- the target was free and has the mark, and the folders' log files are being copied to it
pub record IsPartOfFork (folders : Folders) (target : Path) (old n : Directory) : Type 0 where
  pub free : IsFree target old
  pub single : (queue : LogQueue) → AreSingle (standing folders old) queue old
  pub files : AreBeingMarked target (sources_of folders old) old n

-- a moment of a fork: no file has changed, its mark exists, or it is complete
abbrev pub IsForking : Folders → Path → Directory → Directory → Type 0
IsForking folders target old n =
    LeavesAll old n ⊎ IsPartOfFork folders target old n ⊎ IsForkOf folders target old n

-- the files can be copied one by one: each exists, no copy does, and no two share one
pub record CanBeCopied (target : Path) (files : List Source) (n : Directory) : Type 0 where
  pub stand : AllByRecursion (λ f. HasFile n f.1) files
  pub free : AllByRecursion (λ f. file_at n (copy_in target f) ≡ None) files
  pub apart : AreDistinct (copies_in target files)

-- nothing was copied
abbrev pub HasNone : CopyDetails → Type 0
HasNone details = (details.copied.items ≡ []) × (details.symlinked.items ≡ [])
