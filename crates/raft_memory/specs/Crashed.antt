-- Files under way to what a crash leaves of them.
use Rattle.std.specs.Prelude.{◌≡◌, List, Option, Some, None, String}
use Rattle.std.specs.declared.alloc.Global.{Global}
use Rattle.std.specs.String.{string_bytes, string_cmp}
use Rattle.std.specs.Ordering.{nat_cmp}
use Rattle.std.specs.Cmp.Lexicographic.{slice_cmp}
use Rattle.std.specs.Map.{lookup}
use Rattle.std.specs.BTreeMap as tree
use Rattle.raft_env.specs.Outcomes.{File, MayLeave, synced_file}
use Rattle.raft_env.specs.Directory.{Path, CrashImage}
use Rattle.raft_memory.specs.Files.{Files}

-- the file is put at that path, and the others stay
abbrev pub Puts : Files → Files → Path → File → Type 0
Puts old new path file = tree.UpdatesBy string_cmp (λ k. slice_cmp nat_cmp path (string_bytes k))
    old new (Some file)

-- each file that stands has its copy, and R holds of them
abbrev pub Stands : (File → File → Type 0) → Option File → Option File → Type 0
Stands R None None = Unit {0}
Stands R (Some file) (Some copy) = R file copy
Stands R None (Some copy) = ⊥
Stands R (Some file) None = ⊥

-- the file with this path in the list
abbrev pub at_path : Path → List (String Global × File) → Option File
at_path p es = lookup (tree.is_at (λ k. slice_cmp nat_cmp p (string_bytes k))) es

-- the files of these entries are copied
pub record Copied (R : Path → File → File → Type 0) (es : List (String Global × File))
    (files : Files) : Type 0 where
  pub each : (p : Path) → Stands (R p) (at_path p es) (tree.get_by_text files p)

-- the copy holds what is left, which storage may leave
abbrev pub IsLeft : CrashImage → Path → File → File → Type 0
IsLeft d path file copy = MayLeave file (d path) × (copy ≡ synced_file (d path))
