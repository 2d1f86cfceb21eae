-- What can be read of a log file, and what an opening does with it.
use Rattle.std.specs.Prelude.{◌≡◌, ◌≢◌, ℕ, suc, ◌<◌, ◌≤◌, ◌==◌, Bool, true, List, [], ◌∷◌, length, map, take, drop, slice_index, Option, Some, None, is_none, if◌then◌else◌}
use Rattle.std.specs.List.{list_all, take_while}
use Rattle.std.specs.Option.{option_map}
use Rattle.raft_base.specs.declared.errors.Fault.{Fault}
use Rattle.raft_base.specs.declared.errors.Fault.TheVariants as fault
use Rattle.raft_base.specs.declared.pipe_log.FileId.{FileId}
use Rattle.raft_config.specs.Recovery.{tolerates_corruption}
use Rattle.raft_config.specs.declared.config.RecoveryMode.{RecoveryMode}
use Rattle.raft_records.specs.ItemBatch.{record_refusal}
use Rattle.raft_files.specs.declared.format.LogFileFormat.{LogFileFormat}
use Rattle.raft_files.specs.Header.{header_of}
use Rattle.raft_files.specs.RecordReader.{RecordCursor, cursor_after_header, next_refusal, records_left, signature_of}
use Rattle.raft_files.specs.Scan.{PlacedRecord, end_of_records, end_of_scan, readable_records}
use Rattle.raft_dump.specs.declared.check.FileCheck.{FileCheck}
use Rattle.raft_dump.specs.declared.plan.Planned.{Planned}
use Rattle.raft_dump.specs.Stale.{HasStaleRecord, headed_lens, stale_len, stale_sum}
use Rattle.raft_dump.specs.declared.plan.Planned.TheVariants.{Keep, Cut, Fail}

-- a reading that begins after the header
pub record IsBegunAt (id : FileId) (r : RecordCursor) : Type 0 where
  pub rest : List ℕ
  pub header : header_of r.bytes ≡ Some (r.format, rest)
  pub is : r ≡ cursor_after_header id r.format r.bytes

-- nothing is read there: the file ends, or the next record can't be read for this reason
abbrev pub EndsReading : RecordCursor → Option Fault → Type 0
EndsReading r None = r.at ≡ length r.bytes
EndsReading r (Some e) = (r.at < length r.bytes) × (next_refusal r ≡ Some e)

-- the records that are read: all that can be, up to one with too many bytes of entries
abbrev pub records_read : RecordCursor → List PlacedRecord
records_read r =
    take_while (λ p. is_none (record_refusal (signature_of r) (drop p.at r.bytes))) (records_left r)

-- a reading from there: how many records are read, where they end, and why it stops
pub record IsReadFrom (r : RecordCursor) (c : FileCheck) : Type 0 where
  pub records : c.records ≡ length (records_read r)
  pub end : c.end ≡ end_of_records r.at (records_read r)
  pub stop : EndsReading (record r { at = c.end }) c.stop

-- what is read of a file with this header; without a header nothing is
abbrev pub IsReadIn : FileId → List ℕ → Option (LogFileFormat × List ℕ) → FileCheck → Type 0
IsReadIn id bytes None c = (c.records ≡ 0) × (c.end ≡ 0) × (c.stop ≡ Some fault.Corruption)
IsReadIn id bytes (Some header) c = IsReadFrom (cursor_after_header id header.0 bytes) c

-- what can be read of a file of these bytes: as much as a scan, unless a record is too long
pub record IsReadingOf (id : FileId) (bytes : List ℕ) (c : FileCheck) : Type 0 where
  pub id_is : c.id ≡ id
  pub len : c.len ≡ length bytes
  pub format : c.format ≡ option_map (λ h. h.0) (header_of bytes)
  pub read : IsReadIn id bytes (header_of bytes) c
  pub end : c.stop ≢ Some fault.Range → c.end ≡ end_of_scan id bytes
  pub records : c.stop ≢ Some fault.Range → c.records ≡ length (readable_records id bytes)

-- IsReadingOf, and what is known of the rest of the file
pub record IsCheckOf (id : FileId) (bytes : List ℕ) (c : FileCheck) : Type 0 where
  pub reading : IsReadingOf id bytes c
  -- the rest is zeros
  pub zeros : c.zeros ≡ list_all (λ b. b == 0) (drop c.end bytes)
  -- a record of an earlier file is in it
  pub stale : c.stale ≡ true → HasStaleRecord id (take stale_len (drop c.end bytes))
  -- possible records in it are longer than what a search sums
  pub unsearched : c.unsearched ≡ true → stale_sum < headed_lens (take stale_len (drop c.end bytes))

-- a broken end is cut off if that is tolerated; a compressed or too long record never is
abbrev pub planned_stop : Bool → ℕ → Option Fault → Planned
planned_stop is_tolerant end None = Keep
planned_stop is_tolerant end (Some fault.Corruption) = if is_tolerant then Cut end else Fail
planned_stop is_tolerant end (Some _) = Fail

-- what an opening in this mode does with each of these files of a queue
abbrev pub plan_of : RecoveryMode → List FileCheck → List Planned
plan_of mode [] = []
plan_of mode (c ∷ checks) =
    planned_stop (tolerates_corruption mode (length checks == 0)) c.end c.stop ∷ plan_of mode checks

-- the number after this place is one more than the one at it
abbrev pub RisesAt : List ℕ → ℕ → Type 0
RisesAt numbers place = slice_index numbers (suc place) ≡ suc (slice_index numbers place)

-- the numbers rise by one from this place on, and from no earlier one
pub record AreLastToRise (numbers : List ℕ) (passed : ℕ) : Type 0 where
  pub within : passed ≤ length numbers
  pub rise : (place : ℕ) → passed ≤ place → suc place < length numbers → RisesAt numbers place
  pub most : (place : ℕ) → passed ≡ suc place
      → (passed < length numbers) × (RisesAt numbers place → ⊥)

-- the file numbers of these checks
abbrev pub numbers_of : List FileCheck → List ℕ
numbers_of checks = map (λ c. c.id.seq) checks
