-- Records of an earlier file after those of a recycled file.
use Rattle.std.specs.Prelude.{◌≡◌, ℕ, ◌+◌, ◌<◌, nat_le, Bool, true, false, List, [], ◌∷◌, length, drop, Option, Some, None, if◌then◌else◌}
use Rattle.raft_base.specs.FileId.{signature_in}
use Rattle.raft_base.specs.declared.pipe_log.FileId.{FileId}
use Rattle.raft_base.specs.declared.pipe_log.Version.TheVariants.{V2}
use Rattle.raft_records.specs.ItemBatch.{record_refusal}
use Rattle.raft_records.specs.Record.{Header, record_header}
use Rattle.raft_dump.specs.declared.stale.StaleSearch.{StaleSearch}
use Rattle.raft_dump.specs.declared.stale.StaleSearch.TheVariants.{Stale, NotStale, Ended}

-- how many bytes after the last record are searched
abbrev pub stale_len : ℕ
stale_len = 1048576

-- how many bytes of records are summed until a search ends
abbrev pub stale_sum : ℕ
stale_sum = 67108864

-- these bytes have a record that can be read in an earlier file
pub record HasStaleRecord (id : FileId) (bytes : List ℕ) : Type 0 where
  pub at : ℕ
  pub seq : ℕ
  -- no file has the number 0
  pub some : 0 < seq
  pub earlier : seq < id.seq
  pub reads : record_refusal (signature_in V2 seq) (drop at bytes) ≡ None

-- the length of a record with this header if it ends within so many bytes, else 0
abbrev pub held_len : ℕ → Option Header → ℕ
held_len size None = 0
held_len size (Some header) = if nat_le header.len size then header.len else 0

-- the length of the record that the bytes may begin with, else 0
abbrev pub headed_len : List ℕ → ℕ
headed_len bytes = held_len (length bytes) (record_header bytes)

-- the sum of headed_len over all places in the bytes
abbrev pub headed_lens : List ℕ → ℕ
headed_lens [] = 0
headed_lens (b ∷ bytes) = headed_len (b ∷ bytes) + headed_lens bytes

-- what a search of the bytes may return; `NotStale` is no promise that there is no record
abbrev pub IsSearched : FileId → List ℕ → StaleSearch → Type 0
IsSearched id bytes Stale = HasStaleRecord id bytes
IsSearched id bytes NotStale = Unit {0}
IsSearched id bytes Ended = stale_sum < headed_lens bytes

-- the search found a record of an earlier file
abbrev pub says_stale : StaleSearch → Bool
says_stale Stale = true
says_stale _ = false

-- the search ended before all bytes were searched
abbrev pub says_ended : StaleSearch → Bool
says_ended Ended = true
says_ended _ = false
