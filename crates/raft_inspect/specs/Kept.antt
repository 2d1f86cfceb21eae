-- Which log files of a queue an opening keeps, and which it passes over.
use Rattle.std.specs.Prelude.{◌≡◌, ◌↔◌, ℕ, ◌+◌, ◌-◌, ◌^◌, ◌&&◌, ◌||◌, ◌==◌, min, max, Bool, true, false, not, nat_le, List, [], ◌∷◌, length, Option, Some, None, filter, is_none, map}
use Rattle.std.specs.List.{filter_map, flat_map, fold, list_all, sum_by}
use Rattle.std.specs.Str.{bytes_eq}
use Rattle.raft_base.specs.declared.pipe_log.FileId.{FileId}
use Rattle.raft_base.specs.declared.pipe_log.LogQueue.{LogQueue}
use Rattle.raft_env.specs.Directory.{Directory, Path, names_in}
use Rattle.raft_config.specs.Folders.{Folders, all_of}
use Rattle.raft_dump.specs.Check.{numbers_of}
use Rattle.raft_dump.specs.LogFiles.{file_named, place_of}
use Rattle.raft_dump.specs.declared.check.FileCheck.{FileCheck}
use Rattle.raft_dump.specs.declared.files.LogFile.{LogFile}
use Rattle.raft_pipes.specs.Numbered.{AreSingle, in_queue, kept_files}
use Rattle.raft_inspect.specs.Checks.{AreChecksOf}
use Rattle.raft_inspect.specs.declared.kept.KeptFiles.{KeptFiles}
use Rattle.raft_inspect.specs.declared.losses.Passed.{Passed}

-- those of the settings' folders that exist
abbrev pub folders_there : Folders → Directory → List Path
folders_there folders n = filter n.is_folder (all_of folders)

-- the log files of a queue in these folders that an opening keeps, by number
abbrev pub kept_in : List Path → LogQueue → Directory → List (FileId × Path)
kept_in folders queue n = map (λ f. (in_queue queue f.0, f.1)) (kept_files folders queue n)

-- an opening of these folders keeps these files of the queue, and can read this much of each
pub record AreKeptOf (folders : List Path) (queue : LogQueue) (n : Directory) (kept : KeptFiles)
    : Type 0 where
  pub queue_is : kept.found.queue ≡ queue
  pub all : kept.found.passed ≡ 0
  pub files : map place_of kept.found.files.items ≡ kept_in folders queue n
  pub checks : AreChecksOf n kept.found.files.items kept.found.checks.items
  pub single : kept.are_single ≡ true ↔ AreSingle folders queue n

-- all log files of a queue there, folder after folder
abbrev pub all_in : List Path → LogQueue → Directory → List (FileId × Path)
all_in folders queue n =
    flat_map (λ folder. filter_map (file_named folder queue) (names_in folder n)) folders

-- an opening that keeps these files passes this one over: it is another one, of no greater number
abbrev pub is_passed : List (FileId × Path) → FileId × Path → Bool
is_passed [] f = true
is_passed (k ∷ kept) f = nat_le f.0.seq k.0.seq && not (bytes_eq f.1 k.1)

-- the file has only a header or zeros
abbrev pub holds_nothing : FileCheck → Bool
holds_nothing c = (c.records == 0) && (is_none c.stop || c.zeros)

-- the files that hold something
abbrev pub those_held : List FileCheck → List FileCheck
those_held checks = filter (λ c. not (holds_nothing c)) checks

-- what is reported of files that are passed over, if some hold something
pub record IsPassedOf (queue : LogQueue) (checks : List FileCheck) (p : Passed) : Type 0 where
  pub queue_is : p.queue ≡ queue
  pub some : list_all holds_nothing checks ≡ false
  -- files that hold something, their bytes, and the least number of them
  pub files : p.files ≡ length (those_held checks)
  pub bytes : p.bytes ≡ min (sum_by (λ c. c.len) (those_held checks)) (2 ^ 64 - 1)
  pub first : p.first ≡ fold min (2 ^ 64 - 1) (numbers_of (those_held checks))
  -- the greatest number of all, and the next one
  pub last : p.last ≡ fold max 0 (numbers_of checks)
  pub missing : p.missing ≡ min (p.last + 1) (2 ^ 64 - 1)

-- IsPassedOf, or no report if none of the files holds anything
abbrev pub IsPassedTold : LogQueue → List FileCheck → Option Passed → Type 0
IsPassedTold queue checks None = list_all holds_nothing checks ≡ true
IsPassedTold queue checks (Some p) = IsPassedOf queue checks p

-- the report on the files of a queue in these folders that an opening passes over
pub record ArePassedOf (folders : List Path) (queue : LogQueue) (n : Directory)
    (told : Option Passed) : Type 0 where
  pub listed : List LogFile
  pub are : map place_of listed
      ≡ filter (is_passed (kept_in folders queue n)) (all_in folders queue n)
  pub checks : List FileCheck
  pub read : AreChecksOf n listed checks
  pub is : IsPassedTold queue checks told
