-- The directory that a namespace of files in memory shows.
use Rattle.std.specs.Prelude.{◌≡◌, Bool, ◌==◌, ◌||◌, List, [], ◌∷◌, length, IfErr, OnErr, OnOk, Result, String}
use Rattle.std.specs.List.{list_any}
use Rattle.std.specs.declared.alloc.Global.{Global}
use Rattle.std.specs.String.{string_bytes}
use Rattle.std.specs.BTreeMap.{BTreeMap}
use Rattle.std.specs.FinMap as finite
use Rattle.raft_env.specs.Outcomes.{File}
use Rattle.raft_env.specs.Directory.{Directory, HasFile, Path, is_on_way}
use Rattle.raft_env.specs.declared.env.FsFault.{FsFault}
use Rattle.raft_memory.specs.declared.namespace.Namespace.{Namespace}

-- files by their paths
abbrev pub Files : Type 0
Files = BTreeMap (String Global) File

-- these files by the bytes of their paths
abbrev pub by_bytes : List (String Global × File) → List (Path × File)
by_bytes [] = []
by_bytes (e ∷ es) = (string_bytes e.0, e.1) ∷ by_bytes es

-- the root, and each folder that was made with those on the way to it
abbrev pub folders_of : List (String Global) → Path → Bool
folders_of made q = (length q == 0) || list_any (λ p. is_on_way q (string_bytes p)) made

-- the directory of these files and folders
abbrev pub directory_of : Files → (Path → Bool) → Directory
directory_of files is_folder = record {
  files = finite.from_entries (by_bytes files.entries);
  is_folder = is_folder;
}

-- the directory of a namespace
abbrev pub namespace_directory : Namespace → Directory
namespace_directory n = directory_of n.files (folders_of n.folders.items)

-- a call on the file at the path changes the directory so, or nothing for such a cause
pub record ChangesFile {T : Type 0} (path : Path) (change : Directory → Directory)
    (IsCause : Directory → Path → FsFault → Type 0) (result : Result T FsFault)
    (old new : Namespace) : Type 0 where
  -- the file stands
  pub value : OnOk result (HasFile (namespace_directory old) path)
  pub ok : OnOk result (namespace_directory new ≡ change (namespace_directory old))
  pub err : OnErr result (namespace_directory new ≡ namespace_directory old)
  pub cause : IfErr result (IsCause (namespace_directory old) path)
