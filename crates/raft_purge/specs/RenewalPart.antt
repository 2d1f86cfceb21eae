-- What a rewriting of some groups of the Rewrite queue leaves of it.
use Rattle.std.specs.Prelude.{◌≡◌, ◌⊎◌, ◌&&◌, ℕ, nat_eq, suc, true, unwrap_or, Bool, Option, None, Some, if◌then◌else◌}
use Rattle.std.specs.List.{list_any}
use Rattle.raft_env.specs.Directory.{Directory}
use Rattle.raft_pipes.specs.PipeState.{PipeState, last_seq}
use Rattle.raft_queues.specs.Dual.{DualState}
use Rattle.raft_rewrite.specs.EmptiedAnew.{IsAllFrom}
use Rattle.raft_stale.specs.Dropping.{is_free_before}
use Rattle.raft_tables.specs.GroupIds.{ids_bound}
use Rattle.raft_tables.specs.Tables.{Tables, or_empty}
use Rattle.raft_tables.specs.declared.memtables.MemTables.{MemTables}
use Rattle.raft_tables.specs.declared.rewritten.GroupsMet.{GroupsMet}
use Rattle.raft_crash_laws.specs.Log.{KnownGroups}
use Rattle.raft_purge.specs.UnderWay.{IsUnderWay}
use Rattle.raft_purge.specs.declared.renewal_groups.NewFiles.{NewFiles}
use Rattle.raft_purge.specs.declared.renewal_groups.RenewalPart.{RenewalPart}

-- the first of the new files, or the file after the queue's last one if there are none
abbrev pub first_new : Option NewFiles → PipeState → ℕ
first_new None p = suc (last_seq p)
first_new (Some files) p = files.first

-- the new files; if there are none, they begin after the queue's last one
abbrev pub files_new : Option NewFiles → PipeState → GroupsMet → NewFiles
files_new files p groups = unwrap_or files (record { first = suc (last_seq p); groups = groups })

-- the new files that a call leaves for the next one: none after the last groups
abbrev pub files_behind : RenewalPart → NewFiles → Option NewFiles
files_behind part next = if part.is_last then None else Some (unwrap_or part.files next)

-- a bound of the ids of atomic groups in the old files
abbrev pub bound_new : Option NewFiles → GroupsMet → ℕ
bound_new None groups = ids_bound groups.ids
bound_new (Some files) groups = ids_bound files.groups.ids

-- a rewriting of the Rewrite queue into these new files is under way
abbrev pub GoesOnWith : NewFiles → DualState → Tables → KnownGroups → Directory → Type 0
GoesOnWith files d t met n = IsUnderWay files.first (ids_bound files.groups.ids) d t met n

-- GoesOnWith, if there are new files
abbrev pub MayGoOnWith : Option NewFiles → DualState → Tables → KnownGroups → Directory → Type 0
MayGoOnWith None d t met n = Unit {0}
MayGoOnWith (Some files) d t met n = GoesOnWith files d t met n

-- these groups have nothing before the first new file, nor do groups that had nothing there
abbrev pub AreRenewed : ℕ → RenewalPart → Tables → Tables → Type 0
AreRenewed first part t t' = (group : ℕ)
    → (list_any (nat_eq group) part.groups.items ≡ true) ⊎ IsAllFrom first (or_empty (t group))
    → IsAllFrom first (or_empty (t' group))

-- the queue's first file: old ones are gone if unreferenced and atomic groups are adjacent
abbrev pub first_kept : ℕ → Bool → MemTables → PipeState → ℕ
first_kept first together m p = if together && is_free_before first m then first else p.first
