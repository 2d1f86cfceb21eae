-- One file in memory.
use Rattle.std.proofs.Common.{◌≡◌, ◌∙◌, List, [], ◌∷◌, String, Vec, ℕ, ap}
use Rattle.std.specs.declared.alloc.Global.{Global}
use Rattle.std.specs.String.{string_bytes}
use Rattle.raft_env.specs.Directory.{Directory, Path, with_file}
use Rattle.raft_env.specs.Outcomes.{synced_file}
use Rattle.raft_env.proofs.DirectoryLemmas.{file_at-placed_same}
use Rattle.raft_memory.specs.Files.{folders_of}
use Rattle.raft_memory.specs.Settled.{settled_files}
use Rattle.raft_files.specs.Writer.{bytes_at, bytes_of}
use Rattle.std.specs.FinMap as finite

pub image_at : (path : Path) (name : String Global) (bytes : Vec ℕ Global) (folders : List (String Global)) (d : Directory) → d ≡ settled_files ((name, bytes) ∷ []) folders → string_bytes name ≡ path → bytes_at path d ≡ bytes.items
image_at path name bytes folders d is named =
    let base : Directory = record { files = finite.empty; is_folder = folders_of folders } in
    ap (bytes_at path) is
    ∙ ap (λ (p : Path). bytes_at path (with_file p (synced_file bytes.items) base)) named
    ∙ ap bytes_of (file_at-placed_same path (synced_file bytes.items) base)
