-- What a file system in memory shows.
use Rattle.std.specs.Prelude.{◌≡◌, ℕ, ◌+◌, ◌^◌, ◌-◌, ◌==◌, ◌/◌, Bool, cond, false, nat_le, if◌then◌else◌, List, ◌∷◌, length, map, take, Option, Some, Result, String, unwrap_or}
use Rattle.std.specs.declared.alloc.Global.{Global}
use Rattle.std.specs.BTreeMap.{BTreeMap, get_by_text}
use Rattle.std.specs.BTreeSet.{contains_text}
use Rattle.std.specs.Str.{bytes_eq}
use Rattle.std.specs.FinMap as finite
use Rattle.raft_env.specs.Outcomes.{File, file_after_write, overlay}
use Rattle.raft_env.specs.Directory.{Directory, Path, update_file}
use Rattle.raft_env.specs.declared.env.FsFault.{FsFault}
use Rattle.raft_env.specs.declared.env.FsFault.TheVariants.{Io}
use Rattle.raft_base.specs.declared.errors.IoKind.{IoKind}
use Rattle.raft_memory.specs.declared.armed.FsCall.{FsCall}
use Rattle.raft_memory.specs.Armed.{arms_of}
use Rattle.raft_memory.specs.Counted.{refusals_in}
use Rattle.raft_memory.specs.Files.{namespace_directory}
use Rattle.raft_env.specs.Refusal.{CountsRefusalOf, Refusals}
use Rattle.raft_memory.specs.declared.memory.MemoryFileSystem.{MemoryFileSystem}

-- the files and folders as they are now
abbrev pub memory_directory : MemoryFileSystem → Directory
memory_directory memory = namespace_directory memory.namespace

-- each directory that there was, the newest first
abbrev pub memory_moments : MemoryFileSystem → List Directory
memory_moments memory =
    namespace_directory memory.namespace ∷ map namespace_directory memory.past.items

-- how many calls failed
abbrev pub memory_refusals : MemoryFileSystem → Refusals
memory_refusals memory = refusals_in memory.refusals

-- a failed call is counted as what it is, and no other
abbrev pub CountsCall : {T : Type 0} → Result T FsFault → MemoryFileSystem → MemoryFileSystem → Type 0
CountsCall result old new = CountsRefusalOf result (memory_refusals old) (memory_refusals new)

-- the free space that a folder was given, and else room for all
abbrev pub free_in : BTreeMap (String Global) ℕ → Path → ℕ
free_in given folder = unwrap_or (get_by_text given folder) (2 ^ 64 - 1)

-- how much room a folder has
abbrev pub memory_free : MemoryFileSystem → Path → ℕ
memory_free memory = free_in memory.free

-- whether a path was given metadata
abbrev pub memory_metadata : MemoryFileSystem → Path → Bool
memory_metadata memory = contains_text memory.metadata

-- all as before, but for this at that path
abbrev pub set_at : {X : Type 0} → Path → X → (Path → X) → Path → X
set_at path x before q = cond (bytes_eq path q) x (before q)

-- no file, and only the root folder
abbrev pub no_files : Directory
no_files = record { files = finite.empty; is_folder = λ q. length q == 0 }

-- the refusals that are armed, in that order: the sort of calls, which of them from now on (of
-- reads, from the arming on), and with which fault it fails
abbrev pub armed_of : MemoryFileSystem → List (FsCall × ℕ × IoKind)
armed_of memory = arms_of memory.armed.refusals.items

-- which of the changing calls from now on is the first that fails
abbrev pub stop_of : MemoryFileSystem → Option ℕ
stop_of memory = memory.armed.stop

-- a file after a write of which so many bytes were written, the first ones; it failed where these
-- aren't all
abbrev pub after_first : ℕ → List ℕ → ℕ → File → File
after_first at given count file = file_after_write at given (nat_le (length given) count)
    (overlay file.now at (take count given)) file

-- with the first half of the bytes, rounded down, written to the file there by a failed call
abbrev pub half_written : Path → ℕ → List ℕ → Directory → Directory
half_written path at given n = update_file path (λ f. file_after_write at given false
    (overlay f.now at (take (length given / 2) given)) f) n

-- half_written, if there is room for all of the bytes
abbrev pub half_left : Path → ℕ → List ℕ → Directory → Directory
half_left path at given n = if nat_le (at + length given) (2 ^ 62) then half_written path at given n
    else n

-- what a failed write leaves: the first half where the refusal was injected, and else all as it
-- was, as where memory for the half was wanting
abbrev pub LeavesHalf : Option IoKind → FsFault → Path → ℕ → List ℕ → Directory → Directory → Type 0
LeavesHalf (Some kind) (Io answered) path at given old new = new ≡ half_left path at given old
LeavesHalf _ _ path at given old new = new ≡ old
