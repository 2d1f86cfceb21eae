-- All log files of a queue in folders that may exist.
use Rattle.std.specs.Prelude.{◌≡◌, ℕ, List, [], ◌∷◌, ◌++◌, if◌then◌else◌, map}
use Rattle.std.specs.List.{filter_map}
use Rattle.std.specs.List.Sorted.{IsNonDecreasingBy, IsPermutation}
use Rattle.std.specs.Borrow.{Bor}
use Rattle.raft_base.specs.declared.pipe_log.FileId.{FileId}
use Rattle.raft_base.specs.declared.pipe_log.LogQueue.{LogQueue}
use Rattle.raft_env.specs.Directory.{Directory, Path, names_in}
use Rattle.raft_dump.specs.LogFiles.{file_named, place_of}
use Rattle.raft_dump.specs.declared.files.LogFile.{LogFile}

-- the log files of a queue in a folder, or none if it doesn't exist
abbrev pub those_there : LogQueue → Directory → Path → List (FileId × Path)
those_there queue n folder = if n.is_folder folder
    then filter_map (file_named folder queue) (names_in folder n) else []

-- the log files of a queue in these folders, folder after folder
abbrev pub all_there : LogQueue → Directory → List (Bor (List ℕ)) → List (FileId × Path)
all_there queue n [] = []
all_there queue n (f ∷ folders) = those_there queue n f.now ++ all_there queue n folders

-- these are all log files of a queue in the folders, by number
pub record AreAllThere (queue : LogQueue) (n : Directory) (folders : List (Bor (List ℕ)))
    (files : List LogFile) : Type 0 where
  pub listed : List LogFile
  pub are : map place_of listed ≡ all_there queue n folders
  pub same : IsPermutation listed files
  pub by_number : IsNonDecreasingBy (λ f. f.id.seq) files
