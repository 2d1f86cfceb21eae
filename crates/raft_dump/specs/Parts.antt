-- Parts of a log file's bytes.
use Rattle.std.specs.Prelude.{◌≡◌, ◌<◌, ◌≤◌, ℕ, ◌+◌, ◌-◌, ◌==◌, Bool, true, false, List, [], IfErr, IfOk, OnOk, Result, length, min, take, drop, Option, Some, None, if◌then◌else◌}
use Rattle.std.specs.List.{AllByRecursion as Each}
use Rattle.raft_base.specs.declared.errors.Fault.{Fault}
use Rattle.raft_base.specs.declared.errors.Fault.TheVariants as fault
use Rattle.raft_files.specs.Header.{header_len, header_of}
use Rattle.raft_files.specs.declared.format.LogFileFormat.{LogFileFormat}
use Rattle.raft_records.specs.Front.{HasRecordOf}
use Rattle.raft_dump.specs.declared.part_source.FilePart.{FilePart}

-- how many bytes of a file are read at once, unless a record needs more
abbrev pub part_len : ℕ
part_len = 262144

-- the part has the bytes that a file of these bytes has at its place
abbrev pub IsPartOf : List ℕ → FilePart → Type 0
IsPartOf bytes part = part.bytes.items ≡ take part.len (drop part.at bytes)

-- all parts are of a file of these bytes
abbrev pub AreOf : List ℕ → List FilePart → Type 0
AreOf bytes parts = Each (IsPartOf bytes) parts

-- a read failed, or memory ran out
abbrev pub IsReadRefusal : Fault → Type 0
IsReadRefusal (fault.Io kind text) = Unit {0}
IsReadRefusal fault.Memory = Unit {0}
IsReadRefusal _ = ⊥

-- from the parts of a file that it was given, a call returns what holds of any such file
pub record ReadsParts {T : Type 0} (result : Result T Fault) (IsTold : T → List ℕ → Type 0)
    (size : ℕ) (old new : List FilePart) : Type 0 where
  pub value : IfOk result (λ told. (bytes : List ℕ) → length bytes ≡ size → AreOf bytes new
      → IsTold told bytes)
  -- parts given before the call are among those after it
  pub given : OnOk result ((bytes : List ℕ) → AreOf bytes new → AreOf bytes old)
  pub cause : IfErr result IsReadRefusal

-- a file of these bytes begins with this header, and its records aren't aligned
pub record BeginsWith (header : List ℕ) (format : LogFileFormat) (bytes : List ℕ) : Type 0 where
  pub rest : List ℕ
  pub read : header_of bytes ≡ Some (format, rest)
  pub header_is : header ≡ take (header_len format.version) bytes
  pub unaligned : format.alignment ≡ 0

-- a file of which one part at a time is put after its header
pub record PartsState : Type 0 where
  pub header : List ℕ
  pub size : ℕ
  -- where the part begins, how many bytes it is to have, and those that were read
  pub at : ℕ
  pub len : ℕ
  pub part : List ℕ

-- these bytes show if a record is next, with so many bytes left in the file
abbrev pub TellsNext : ℕ → List ℕ → Type 0
TellsNext left front = (bytes : List ℕ) → length bytes ≡ left → front ≡ take (length front) bytes
    → HasRecordOf bytes front

-- TellsNext, or this many bytes are needed, which the file has
abbrev pub IsWanted : ℕ → List ℕ → Option ℕ → Type 0
IsWanted left front None = TellsNext left front
IsWanted left front (Some wanted) = (length front < wanted) × (wanted ≤ left)

-- the state before any part is read: the first part begins after the header
abbrev pub begun_with : List ℕ → Option (LogFileFormat × List ℕ) → PartsState
begun_with bytes None = record {
  header = [];
  size = min 69 (length bytes);
  at = 0;
  len = min 69 (length bytes);
  part = [];
}
begun_with bytes (Some (format, rest)) = if format.alignment == 0 then record {
  header = take (header_len format.version) bytes;
  size = length bytes;
  at = header_len format.version;
  len = min part_len (length bytes - header_len format.version);
  part = [];
} else record { header = []; size = length bytes; at = 0; len = length bytes; part = [] }

-- how many bytes of the part were read, if its reading ended at this place
abbrev pub read_of : ℕ → PartsState → ℕ
read_of end p = min (end - length p.header) (length p.part)

-- the next part begins where the reading ended; if there is none, it is known what follows
abbrev pub GoesOn : ℕ → PartsState → Bool → PartsState → Type 0
GoesOn end old true new =
    (new ≡ record old { at = old.at + read_of end old; len = new.len; part = [] })
    × (length old.part - read_of end old < new.len)
GoesOn end old false new = (new ≡ old)
    × TellsNext (old.size - (old.at + read_of end old)) (drop (read_of end old) old.part)
