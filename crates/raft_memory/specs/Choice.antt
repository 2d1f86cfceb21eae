-- What a crash leaves of the files of a directory, by choice.
use Rattle.std.specs.Prelude.{◌≡◌, ◌⊎◌, ℕ, zero, suc, ◌+◌, Bool, ◌&&◌, if◌then◌else◌, nat_le, List, [], length, map, slice_index, slice_index_or, All, Option, Some, None}
use Rattle.std.specs.List.{position_or_len, range_with_len}
use Rattle.std.specs.Str.{bytes_eq}
use Rattle.std.specs.FinMap as finite
use Rattle.raft_base.specs.declared.errors.Fault.{Fault}
use Rattle.raft_base.specs.declared.errors.Fault.TheVariants as fault
use Rattle.raft_env.specs.Outcomes.{File, is_touched}
use Rattle.raft_env.specs.Directory.{Directory, Path, CrashImage, file_at}
use Rattle.raft_memory.specs.declared.crash.Choice.{Choice}
use Rattle.raft_memory.specs.declared.crash.Choice.TheVariants as choice

-- how many of the places before this one were touched
abbrev pub touched_before : (ℕ → Bool) → ℕ → ℕ
touched_before touched zero = 0
touched_before touched (suc i) = touched_before touched i + (if touched i then 1 else 0)

-- the byte there, but the fill where so many places before it were touched and it was too
abbrev pub torn_byte : (ℕ → Bool) → ℕ → ℕ → List ℕ → ℕ → ℕ
torn_byte touched kept fill now i = if touched i && nat_le kept (touched_before touched i) then fill
    else slice_index now i

-- the bytes now, of which only the first few touched ones reached the disk
abbrev pub torn_bytes : (ℕ → Bool) → ℕ → ℕ → List ℕ → List ℕ
torn_bytes touched kept fill now = map (torn_byte touched kept fill now) (range_with_len 0
    (length now))

-- the bytes that a choice leaves of a file
abbrev pub bytes_by_choice : Choice → File → List ℕ
bytes_by_choice choice.All file = file.now
bytes_by_choice choice.Synced file = file.synced
bytes_by_choice (choice.Torn kept fill) file = torn_bytes
    (is_touched file.changes) kept fill file.now
bytes_by_choice (choice.Bytes bytes) file = bytes.items

-- the choices go to the paths in order, and `Synced` to those that are left over
abbrev pub choice_for : List Choice → List Path → Path → Choice
choice_for choices paths path = slice_index_or choices (position_or_len (bytes_eq path) paths)
    choice.Synced

-- what the choice leaves of a file; no bytes if there is none
abbrev pub bytes_by_choice_at : Choice → Option File → List ℕ
bytes_by_choice_at c None = []
bytes_by_choice_at c (Some file) = bytes_by_choice c file

-- what the choices leave, by path
abbrev pub left_by : List Choice → Directory → CrashImage
left_by choices n path = bytes_by_choice_at (choice_for choices (finite.keys n.files) path)
    (file_at n path)

-- the choice leaves all bytes, those of the last sync, or a torn file
abbrev pub NamesNoBytes : Choice → Type 0
NamesNoBytes (choice.Bytes bytes) = ⊥
NamesNoBytes _ = Unit {0}

-- NamesNoBytes, of each of these choices
abbrev pub NameNoBytes : List Choice → Type 0
NameNoBytes choices = All NamesNoBytes choices

-- an invalid argument says that the fact fails, and lack of memory says nothing of it
abbrev pub RefusesUnless : Type 0 → Fault → Type 0
RefusesUnless P (fault.InvalidArgument _) = P → ⊥
RefusesUnless P fault.Memory = Unit {0}
RefusesUnless P _ = ⊥

-- each file is left with its bytes now or with those of its last sync
abbrev pub AreWhole : List Choice → Type 0
AreWhole choices = All (λ c. (c ≡ choice.All) ⊎ (c ≡ choice.Synced)) choices
