-- The files and folders of a file system that is made of bytes that stand already.
use Rattle.std.specs.Prelude.{ℕ, List, [], ◌∷◌, String, Vec}
use Rattle.std.specs.declared.alloc.Global.{Global}
use Rattle.std.specs.String.{string_bytes}
use Rattle.std.specs.FinMap as finite
use Rattle.raft_env.specs.Outcomes.{synced_file}
use Rattle.raft_env.specs.Directory.{Directory, with_file}
use Rattle.raft_memory.specs.Files.{folders_of}

-- a path and the bytes of its file
abbrev pub PathAndBytes : Type 0
PathAndBytes = String Global × Vec ℕ Global

-- with each of these files at its path, of one path the last
abbrev pub with_files : List PathAndBytes → Directory → Directory
with_files [] n = n
with_files (e ∷ es) n = with_files es (with_file (string_bytes e.0) (synced_file e.1.items) n)

-- the folders with those on the way to them, and the files
abbrev pub settled_files : List PathAndBytes → List (String Global) → Directory
settled_files files folders =
    with_files files (record { files = finite.empty; is_folder = folders_of folders })
