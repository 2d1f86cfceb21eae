-- The records that a replay takes of a file, one after the other: their entries blocks may be
-- broken.
use Rattle.std.specs.Prelude.{ℕ, ◌-◌, Bool, List, [], length, take, drop, Option, Some, None, option_map}
use Rattle.raft_base.specs.FileId.{signature_in}
use Rattle.raft_records.specs.Record.{Header, is_block, record_header}
use Rattle.raft_records.specs.Replay.{replayed_record}
use Rattle.raft_base.specs.declared.pipe_log.FileId.{FileId}
use Rattle.raft_files.specs.declared.format.LogFileFormat.{LogFileFormat}
use Rattle.raft_files.specs.Header.{header_len, header_of}
use Rattle.raft_files.specs.Scan.{PlacedRecord, placed_by, record_place}
use Rattle.raft_records.specs.declared.record_format.TheConstants.{RECORD_HEADER_LEN}

-- the record that a replay takes at a place
unfoldable pub replayed_at : Option ℕ → List ℕ → ℕ → Option PlacedRecord
replayed_at signature bytes at =
    option_map (λ found. record { at = at; len = found.1; batch = found.0 })
    (replayed_record signature (drop at bytes))

-- the record that a replay takes next from a place on
abbrev pub next_replayed : FileId → LogFileFormat → List ℕ → ℕ → Option PlacedRecord
next_replayed id format bytes at =
    replayed_at (signature_in format.version id.seq) bytes (record_place format.alignment bytes at)

-- all records from a place on, in a file of this format, up to the first that a replay can't take
abbrev pub replayed_after : FileId → LogFileFormat → List ℕ → ℕ → List PlacedRecord
replayed_after id format bytes at = placed_by (length bytes) (next_replayed id format bytes) at

-- the records that a replay takes after this header; none without a header
abbrev pub replayed_in : FileId → List ℕ → Option (LogFileFormat × List ℕ) → List PlacedRecord
replayed_in id bytes None = []
replayed_in id bytes (Some header) = replayed_after id header.0 bytes (header_len header.0.version)

-- the records that a replay takes of these bytes of a file, none where its header can't be read
abbrev pub replayed_records : FileId → List ℕ → List PlacedRecord
replayed_records id bytes = replayed_in id bytes (header_of bytes)

-- the entries block that stands after a header
abbrev pub block_after : List ℕ → Option Header → List ℕ
block_after bytes None = []
block_after bytes (Some header) =
    take (header.footer - RECORD_HEADER_LEN) (drop RECORD_HEADER_LEN bytes)

-- the entries block of the record at a place is sound
abbrev pub has_sound_block_at : List ℕ → ℕ → Bool
has_sound_block_at bytes at =
    let ahead = drop at bytes in
    is_block (block_after ahead (record_header ahead))
