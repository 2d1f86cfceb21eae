-- Which files a dump reads, and when it refuses a path.
use Rattle.std.specs.Prelude.{◌≡◌, ◌⊎◌, true, false, Bool, List, [], ◌∷◌, Option, Some, None}
use Rattle.std.specs.Option.{option_and_then}
use Rattle.raft_base.specs.declared.errors.Fault.{Fault}
use Rattle.raft_base.specs.declared.errors.Fault.TheVariants as fault
use Rattle.raft_base.specs.declared.pipe_log.FileId.{FileId}
use Rattle.raft_env.specs.Directory.{Directory, HasFile, Path, name_in}
use Rattle.raft_env.specs.PathParts.{IsParent}
use Rattle.raft_env.specs.Refusal.{FailsAt, NamesFile, Refusals}
use Rattle.raft_files.specs.Name.{parsed_name}
use Rattle.raft_dump.specs.Items.{ItemsState}
use Rattle.raft_dump.specs.LogFiles.{files_in}

-- a reader that hasn't begun with these files
abbrev pub begun_with : List (FileId × Path) → ItemsState
begun_with files = record { files = files; file = None; offset = 0; reading = None; items = [] }

-- the last part of the path, a name, is that of this log file, or of none
abbrev pub TellsFile : Path → Option FileId → Type 0
TellsFile path told = (folder : Path) × IsParent path folder
    × (told ≡ option_and_then parsed_name (name_in folder path))

-- a reader of the one log file at a path
pub record IsFileDump (path : Path) (n : Directory) (s : ItemsState) : Type 0 where
  pub stands : HasFile n path
  pub id : FileId
  pub named : TellsFile path (Some id)
  pub is : s ≡ begun_with ((id, path) ∷ [])

-- a reader of the log files in a folder
pub record IsFolderDump (path : Path) (n : Directory) (s : ItemsState) : Type 0 where
  pub stands : n.is_folder path ≡ true
  pub is : s ≡ begun_with (files_in path n)

-- no file is at the path, its name is no log file's, or memory ran out
abbrev pub IsNoLogFile : Path → Directory → Fault → Type 0
IsNoLogFile path n (fault.InvalidArgument text) = (HasFile n path → ⊥) ⊎ TellsFile path None
IsNoLogFile path n fault.Memory = Unit {0}
IsNoLogFile path n _ = ⊥

-- no folder is at the path, its names can't be listed, or memory ran out
abbrev pub IsNoFolder : Path → Directory → Refusals → Refusals → Fault → Type 0
IsNoFolder path n before after (fault.InvalidArgument text) = n.is_folder path ≡ false
IsNoFolder path n before after e = FailsAt (NamesFile path) before after e

-- a reader of the folder, or of the file, at a path
abbrev pub IsDump : Path → Directory → Bool → ItemsState → Type 0
IsDump path n true s = IsFolderDump path n s
IsDump path n false s = IsFileDump path n s

-- why there is no reader of the folder, or of the file, at a path
abbrev pub IsNoDump : Path → Directory → Refusals → Refusals → Bool → Fault → Type 0
IsNoDump path n before after true e = IsNoFolder path n before after e
IsNoDump path n before after false e = IsNoLogFile path n e
