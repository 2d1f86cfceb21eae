-- Logs whose records no failed call brought, and none of which is stale.
use Rattle.std.specs.Prelude.{◌≡◌, ◌⊎◌, ℕ, ◌<◌, ◌≤◌, List, ◌++◌, length, take, map, slice_index, Option, Some}
use Rattle.raft_records.specs.Item.{Batch}
use Rattle.raft_base.specs.declared.pipe_log.FileId.{FileId}
use Rattle.raft_files.specs.declared.format.LogFileFormat.{LogFileFormat}
use Rattle.raft_env.specs.Outcomes.{Change, File, OnlyWritesFailed, untouched_len, least_len}
use Rattle.raft_env.specs.Directory.{Directory, Path, file_at}
use Rattle.raft_files.specs.Scan.{PlacedRecord, ScanResult, scan_file}
use Rattle.raft_files.specs.Detectable.{signature_by, AreFresh, AreFromCompletedCalls}
use Rattle.raft_files.specs.Records.{HoldsRecords, IsUntriedAfter, IsWrittenTo}

-- where a file was renamed, it has as many changes as came before that
abbrev pub IsRenamedWithin : File → Type 0
IsRenamedWithin file = (count : ℕ) → file.renamed_after ≡ Some count
    → count ≤ length (file.changes ++ file.older)

-- IsRenamedWithin, of the file at a path
abbrev pub IsRenamedWithinAt : Path → Directory → Type 0
IsRenamedWithinAt path n = (file : File) → file_at n path ≡ Some file → IsRenamedWithin file

-- no failed call brought these records of a file, and none is stale
pub record AreCompletedRecords (id : FileId) (format : LogFileFormat)
    (records : List PlacedRecord) (file : File) : Type 0 where
  pub completed : AreFromCompletedCalls id (signature_by id format)
      (file.changes ++ file.older) records
  pub fresh : AreFresh (signature_by id format) file.renamed_after (file.changes ++ file.older)
      records
  pub renamed : IsRenamedWithin file

-- AreCompletedRecords, of the file at a path
abbrev pub AreCompletedRecordsAt : Path → FileId → LogFileFormat → List PlacedRecord
    → Directory → Type 0
AreCompletedRecordsAt path id format records n = (file : File) → file_at n path ≡ Some file
    → AreCompletedRecords id format records file

-- of a file's calls only writes failed
pub record HasSimplePast (file : File) : Type 0 where
  pub only_writes : OnlyWritesFailed (file.changes ++ file.older)

-- HasSimplePast, of the file at a path
abbrev pub HasSimplePastAt : Path → Directory → Type 0
HasSimplePastAt path n = (file : File) → file_at n path ≡ Some file → HasSimplePast file

-- zeros alone stand from a place on
pub record EndsInZeros (at : ℕ) (bytes : List ℕ) : Type 0 where
  pub zeros : (i : ℕ) → at ≤ i → i < length bytes → slice_index bytes i ≡ 0

-- from this place on there are zeros, or what the file held when it was renamed
abbrev pub EndsUnwritten : ℕ → List ℕ → Option ℕ → List Change → Type 0
EndsUnwritten at bytes renamed_after changes = EndsInZeros at bytes
    ⊎ ((i : ℕ) → at ≤ i → IsUntriedAfter renamed_after changes i)

-- a file that holds these records, which no failed call brought, and held the first of them at its
-- last sync
pub record HoldsCompletedRecords (id : FileId) (format : LogFileFormat)
    (records : List PlacedRecord)
    (synced at : ℕ)
    (file : File) : Type 0 where
  pub holds : HoldsRecords id format records at file.now
  pub completed : AreCompletedRecords id format records file
  -- up to this place, and none after it
  pub end : ℕ
  pub begins : HoldsRecords id format (take synced records) end file.synced
  pub unwritten : EndsUnwritten end file.synced file.renamed_after file.older
  -- no change touched what stands before that, and none left the file shorter
  pub apart : end ≤ untouched_len file.synced file.changes
  pub long : end ≤ least_len file.synced file.changes

-- at the path stands such a file with the records of these batches
pub record HasCompletedRecords (path : Path) (id : FileId) (format : LogFileFormat)
    (batches : List Batch) (synced at : ℕ) (n : Directory) : Type 0 where
  pub file : File
  pub stands : file_at n path ≡ Some file
  pub records : List PlacedRecord
  pub holds : map (λ p. p.batch) records ≡ batches
  pub held : HoldsCompletedRecords id format records synced at file

-- HasCompletedRecords as its writer left it, with a simple past
pub record HasCompletedLog (path : Path) (id : FileId) (format : LogFileFormat)
    (batches : List Batch)
    (synced at : ℕ) (n : Directory) : Type 0 where
  pub held : HasCompletedRecords path id format batches synced at n
  pub written : IsWrittenTo id format held.records synced at held.file
  pub past : HasSimplePast held.file

-- no failed call brought a record that can be read of a file, and none is stale
pub record ReadsCompletedRecords (id : FileId) (file : File) : Type 0 where
  pub completed : (r : ScanResult) → scan_file id file.now ≡ Some r
      → AreCompletedRecords id r.format r.records file
  pub renamed : IsRenamedWithin file

-- ReadsCompletedRecords, of the file at a path
abbrev pub ReadsCompletedRecordsAt : Path → FileId → Directory → Type 0
ReadsCompletedRecordsAt path id n = (file : File) → file_at n path ≡ Some file
    → ReadsCompletedRecords id file

-- if the file's past is simple, and so was that before, no failed call has brought a record since
abbrev pub KeepsCompletedRecordsAt : Path → FileId → Directory → Directory → Type 0
KeepsCompletedRecordsAt path id old n = HasSimplePastAt path n
    → HasSimplePastAt path old × (ReadsCompletedRecordsAt path id old
    → ReadsCompletedRecordsAt path id n)
