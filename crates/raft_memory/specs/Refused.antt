-- Why a call on files in memory failed.
use Rattle.std.specs.Prelude.{◌≡◌, ◌⊎◌, ℕ, ◌+◌, ◌<◌, ◌^◌, true, false, List, Option, Some, None, Result, Err, IfErr}
use Rattle.std.specs.List.{list_any}
use Rattle.std.specs.FinMap as map
use Rattle.raft_base.specs.declared.errors.IoKind.TheVariants.{NoSpace, NotFound, Other}
use Rattle.raft_base.specs.declared.errors.IoKind.{IoKind}
use Rattle.raft_env.specs.declared.env.FsFault.{FsFault}
use Rattle.raft_env.specs.declared.env.FsFault.TheVariants.{Io, Memory}
use Rattle.raft_memory.specs.declared.armed.FsCall.{FsCall}
use Rattle.raft_memory.specs.Armed.{IsArmed}
use Rattle.raft_env.specs.Directory.{Directory, Path, file_at, is_on_way}
use Rattle.raft_env.specs.PathParts.{IsParent}

-- no file stands there
abbrev pub IsAbsent : Directory → Path → FsFault → Type 0
IsAbsent n path fault = (fault ≡ Io NotFound) × (file_at n path ≡ None)

-- memory was wanting, or no file stands there
abbrev pub IsMissing : Directory → Path → FsFault → Type 0
IsMissing n path fault = (fault ≡ Memory) ⊎ IsAbsent n path fault

-- memory was wanting, or no folder stands there
abbrev pub HasNoFolder : Directory → Path → FsFault → Type 0
HasNoFolder n path fault = (fault ≡ Memory) ⊎ ((fault ≡ Io NotFound) × (n.is_folder path ≡ false))

-- memory was wanting, a folder stands there, or the path's folder doesn't stand
abbrev pub HasNoPlace : Directory → Path → FsFault → Type 0
HasNoPlace n path fault =
    (fault ≡ Memory)
    ⊎ ((fault ≡ Io Other) × (n.is_folder path ≡ true))
    ⊎ ((fault ≡ Io NotFound) × (folder : Path) × IsParent path folder
    × (n.is_folder folder ≡ false))

-- memory was wanting, or a file stands there or on the way there
abbrev pub IsBarred : Directory → Path → FsFault → Type 0
IsBarred n path fault = (fault ≡ Memory) ⊎ ((fault ≡ Io Other)
    × (list_any (λ file. is_on_way file path) (map.keys n.files) ≡ true))

-- a file has room for 2^62 bytes, and the call asks for more
abbrev pub HasNoRoom : ℕ → ℕ → FsFault → Type 0
HasNoRoom at size fault = (fault ≡ Io NoSpace) × (2 ^ 62 < at + size)

-- a refusal of this kind is armed for such calls
abbrev pub WasArmed : List (FsCall × ℕ × IoKind) → FsCall → FsFault → Type 0
WasArmed armed call (Io kind) = IsArmed armed call kind
WasArmed armed call Memory = ⊥

-- an injected refusal is answered, and without one the call fails only for a cause of its own
abbrev pub RefusesAs : {T : Type 0} → Option IoKind → (FsFault → Type 0) → Result T FsFault → Type 0
RefusesAs None IsCause result = IfErr result IsCause
RefusesAs (Some kind) IsCause result = result ≡ Err (Io kind)
