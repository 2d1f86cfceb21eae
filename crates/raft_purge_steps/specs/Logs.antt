-- What a log shows, on a file system with these ghost members: relations of a purge over whole logs.
use Rattle.std.specs.Prelude.{◌≡◌, Result}
use Rattle.raft_entry_blocks.specs.Cache.{HoldsRestIn}
use Rattle.raft_env.specs.Directory.{Directory}
use Rattle.raft_env.specs.declared.env.FileSystem.{Ghosts}
use Rattle.raft_queues.specs.Dual.{DualState}
use Rattle.raft_tables.specs.Owed.{Owed}
use Rattle.raft_tables.specs.OwedMarks.{owed_of}
use Rattle.raft_tables.specs.Tables.{Tables, tables_of}
use Rattle.raft_crash_laws.specs.Index.{LogIndex}
use Rattle.raft_crash_laws.specs.Log.{KnownGroups, known_groups}
use Rattle.raft_purge_steps.specs.Gathering.{IsCleanLog}
use Rattle.raft_purge_steps.specs.Keeping.{Carries}
use Rattle.raft_purge_steps.specs.Renewing.{MayRenewLog}
use Rattle.raft_purge_steps.specs.Steps.{LogValue, PurgedLog, by_groups, by_marks, log_of}
use Rattle.raft_purge_steps.specs.Store.{files_of}
use Rattle.raft_purge_steps.specs.declared.fault.StepFault.{StepFault}
use Rattle.raft_purge_steps.specs.declared.log.Log.{Log}

-- the owed marks and the kept blocks are as before
pub record KeepsOwed {F H R W : Type 0} (l l' : Log F H R W) : Type 0 where
  pub owed : l'.owed ≡ l.owed
  pub cache : l'.cache ≡ l.cache

-- KeepsOwed, and the known atomic groups are as before
pub record KeepsMarks {F H R W : Type 0} (l l' : Log F H R W) : Type 0 where
  pub owed : l'.owed ≡ l.owed
  pub cache : l'.cache ≡ l.cache
  pub groups : l'.groups ≡ l.groups

-- a relation between the tables before and the tables after
abbrev pub BetweenTables : {F H R W : Type 0} → (Tables → Tables → Type 0) → Log F H R W
    → Log F H R W → Type 0
BetweenTables R l l' = R (tables_of l.tables) (tables_of l'.tables)

-- the index of a log, with these known atomic groups in place of its own
abbrev pub by_groups_of : {F H R W : Type 0} → Log F H R W → KnownGroups → LogIndex
by_groups_of l = by_groups (tables_of l.tables) (owed_of l.owed)

-- the index of a log, with these owed marks in place of its own
abbrev pub by_marks_of : {F H R W : Type 0} → Log F H R W → Owed → LogIndex
by_marks_of l = by_marks (tables_of l.tables) (known_groups l.groups)

module _ {F H R W : Type 0} (fs : Ghosts F H R W) where
  -- the PurgedLog of a log: its pipes, its index and its files
  abbrev pub log_in : Log F H R W → PurgedLog
  log_in l = log_of l.store.pipes (tables_of l.tables) (owed_of l.owed) (known_groups l.groups)
      (files_of fs l.store)

  -- kept blocks of files that are left have the bytes of those files
  abbrev pub HoldsRest : Log F H R W → Type 0
  HoldsRest l = HoldsRestIn l.store.pipes (files_of fs l.store) l.cache

  -- P holds of the log's pipes, tables, known atomic groups and files
  abbrev pub InLog : (DualState → Tables → KnownGroups → Directory → Type 0) → Log F H R W → Type 0
  InLog P l = P l.store.pipes (tables_of l.tables) (known_groups l.groups) (files_of fs l.store)

  -- the log is in a renewal with no open group, and holds this value
  abbrev pub MayRenew : Log F H R W → LogValue → Type 0
  MayRenew l =
      MayRenewLog l.store.pipes (tables_of l.tables) (known_groups l.groups) (files_of fs l.store)

  -- P holds of the pipes, tables, known atomic groups and files of one log and another
  abbrev pub BetweenLogs : (DualState → DualState → Tables → Tables → KnownGroups → KnownGroups
      → Directory → Directory → Type 0) → Log F H R W → Log F H R W → Type 0
  BetweenLogs P l l' = P l.store.pipes l'.store.pipes (tables_of l.tables) (tables_of l'.tables)
      (known_groups l.groups) (known_groups l'.groups) (files_of fs l.store) (files_of fs l'.store)

  -- the log, with these owed marks and known groups, holds this value and owes no clean mark
  abbrev pub CleanLog : Log F H R W → Owed → KnownGroups → LogValue → Type 0
  CleanLog l = IsCleanLog l.store.pipes (tables_of l.tables) (files_of fs l.store)

  -- Carries, from one log to another: logs with P become logs with Q
  abbrev pub CarriesLog : {T : Type 0} → Result T StepFault → (Owed → KnownGroups → LogValue → Type 0)
      → (Owed → KnownGroups → LogValue → Type 0) → Log F H R W → Log F H R W → Type 0
  CarriesLog result P Q l l' = Carries fs.directory fs.moments fs.refusals_of result P Q
      l.store.pipes l'.store.pipes (tables_of l'.tables) l.store.file_system l'.store.file_system
