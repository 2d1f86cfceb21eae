-- What a dump gives of a part, by the places in its file.
use Rattle.std.specs.Prelude.{ℕ, ◌+◌, ◌-◌, List, [], ◌∷◌, ◌++◌, map}
use Rattle.raft_base.specs.declared.pipe_log.FileId.{FileId}
use Rattle.raft_files.specs.RecordReader.{RecordCursor, replayed_left}
use Rattle.raft_files.specs.Scan.{PlacedRecord, end_of_records}
use Rattle.raft_files.specs.declared.format.LogFileFormat.{LogFileFormat}
use Rattle.raft_dump.specs.Check.{records_read}
use Rattle.raft_dump.specs.Items.{Given, items_at}

-- a reader that has read a file of these bytes up to a place
abbrev pub cursor : FileId → LogFileFormat → List ℕ → ℕ → RecordCursor
cursor id format bytes at = record { id = id; format = format; bytes = bytes; at = at }

-- the items of these records, each with the place of its record; the first record is here
abbrev pub items_from : ℕ → List PlacedRecord → List Given
items_from at [] = []
items_from at (p ∷ ps) = items_at at p.batch ++ items_from (p.at + p.len) ps

-- the items that a reader still gives
abbrev pub items_left : RecordCursor → List Given
items_left r = items_from r.at (replayed_left r)

-- the end of the records that a reader still gives
abbrev pub end_of_items : RecordCursor → ℕ
end_of_items r = end_of_records r.at (replayed_left r)

-- the items of the records that a reader of sound records still reads
abbrev pub sound_items : RecordCursor → List Given
sound_items r = items_from r.at (records_read r)

-- the end of these records
abbrev pub end_of_sound : RecordCursor → ℕ
end_of_sound r = end_of_records r.at (records_read r)

-- items whose places, counted from one offset, are counted from another
abbrev pub moved : ℕ → ℕ → List Given → List Given
moved from to given = map (λ (g : Given). record g { offset = to + (g.offset - from) }) given
