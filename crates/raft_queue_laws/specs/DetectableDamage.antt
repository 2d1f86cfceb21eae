-- Files and outcomes of which the damage of a crash is detectable.
use Rattle.std.specs.Prelude.{◌≡◌, ◌⊎◌, ℕ, ◌≤◌, List, ◌++◌, length, take, Option, Some, None, Contains}
use Rattle.raft_base.specs.declared.pipe_log.LogQueue.{LogQueue}
use Rattle.raft_config.specs.Folders.{Folders, all_of}
use Rattle.raft_base.specs.declared.pipe_log.FileId.{FileId}
use Rattle.raft_files.specs.declared.format.LogFileFormat.{LogFileFormat}
use Rattle.raft_env.specs.Directory.{CrashImage, Directory, Path, file_at}
use Rattle.raft_env.specs.Outcomes.{File, Change, bytes_since_sync}
use Rattle.raft_files.specs.Scan.{PlacedRecord, ScanResult, record_place, record_at, readable_records, scan_file}
use Rattle.raft_files.specs.Detectable.{IsPrefixOf, format_of, signature_by, IsGivenBy, HasCompressedAt, EndsWithoutCompressed}
use Rattle.raft_files.specs.Records.{HoldsRecords, IsUntriedAfter}
use Rattle.raft_pipes.specs.Numbered.{in_queue}
use Rattle.raft_pipes.specs.QueueFiles.{last_kept}

-- where a record is looked for none can be decoded, nor is one barred by a mark of compression alone
abbrev pub IsBrokenFrom : FileId → LogFileFormat → ℕ → List ℕ → Type 0
IsBrokenFrom id format at bytes =
    let place = record_place format.alignment bytes at in
    (record_at (signature_by id format) bytes place ≡ None)
    × (HasCompressedAt (signature_by id format) bytes place → ⊥)

-- where nothing was written since a file was renamed no record decodes in these bytes, nor is one
-- barred by a mark of compression alone
abbrev pub ShowsNoStale : FileId → Option ℕ → List Change → List ℕ → Type 0
ShowsNoStale id renamed_after changes bytes = (format : LogFileFormat) (i : ℕ)
    → format_of bytes ≡ Some format → IsUntriedAfter renamed_after changes i
    → IsBrokenFrom id format i bytes

-- ShowsNoStale, of the file's bytes now and of those at its last sync
pub record HasNoStaleRecord (id : FileId) (file : File) : Type 0 where
  pub now : ShowsNoStale id file.renamed_after (file.changes ++ file.older) file.now
  pub synced : ShowsNoStale id file.renamed_after file.older file.synced

-- HasNoStaleRecord, of the last of a queue's log files in the folders
abbrev pub HasNoStaleRecordOf : LogQueue → Folders → Directory → Type 0
HasNoStaleRecordOf queue folders n = (f : ℕ × Path) (file : File)
    → last_kept (all_of folders) queue n ≡ Some f → file_at n f.1 ≡ Some file
    → HasNoStaleRecord (in_queue queue f.0) file

-- HasNoStaleRecordOf both queues
abbrev pub HaveNoStaleRecordIn : Folders → Directory → Type 0
HaveNoStaleRecordIn folders n = (queue : LogQueue) → HasNoStaleRecordOf queue folders n

-- a crash left the first of these records of a file as they stand now, and after them no record
pub record IsTornAfter (id : FileId) (format : LogFileFormat) (records : List PlacedRecord)
    (file : File)
    (left : List ℕ) : Type 0 where
  pub count : ℕ
  pub end : ℕ
  pub holds : HoldsRecords id format (take count records) end file.now
  pub within : end ≤ length left
  pub same : take end left ≡ take end file.now
  pub broken : IsBrokenFrom id format end left

-- IsTornAfter the records that can be read of the file now
abbrev pub IsTornAsRead : FileId → File → List ℕ → Type 0
IsTornAsRead id file left = (r : ScanResult) → scan_file id file.now ≡ Some r
    → IsTornAfter id r.format r.records file left

-- IsTornAsRead, of the last of a queue's log files in the folders
abbrev pub IsTornAsReadOf : LogQueue → Folders → Directory → CrashImage → Type 0
IsTornAsReadOf queue folders n d = (f : ℕ × Path) (file : File)
    → last_kept (all_of folders) queue n ≡ Some f → file_at n f.1 ≡ Some file
    → IsTornAsRead (in_queue queue f.0) file (d f.1)

-- the change brought no record to the file but the one that it was to write
abbrev pub AddsOnlyItsRecord : FileId → Option ℕ → Change → Type 0
AddsOnlyItsRecord id signature c = (r : PlacedRecord) → Contains (readable_records id c.after) r
    → Contains (readable_records id c.before) r ⊎ IsGivenBy signature r c

-- AddsOnlyItsRecord, of each change of the file, by a format of its header since the last sync
abbrev pub EachAddsOnlyItsRecord : FileId → File → Type 0
EachAddsOnlyItsRecord id file = (format : LogFileFormat) (bytes : List ℕ)
    → Contains (bytes_since_sync file) bytes → format_of bytes ≡ Some format → (c : Change)
    → Contains (file.changes ++ file.older) c → AddsOnlyItsRecord id (signature_by id format) c

-- a crash left a prefix of the records that could be read at a moment since the last sync, under
-- the header then or none, and broken bytes after them
pub record IsReadAsBefore (id : FileId) (file : File) (left : List ℕ) : Type 0 where
  pub bytes : List ℕ
  pub moment : Contains (bytes_since_sync file) bytes
  pub header : (format_of left ≡ format_of bytes) ⊎ (format_of left ≡ None)
  pub prefix : IsPrefixOf (readable_records id left) (readable_records id bytes)
  pub unmarked : EndsWithoutCompressed id left
