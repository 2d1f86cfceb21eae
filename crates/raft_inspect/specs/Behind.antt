-- Whole records after the place at which a log file is broken.
use Rattle.std.specs.Prelude.{◌≡◌, ℕ, ◌<◌, ◌≤◌, List, drop, length, Option, Some, None}
use Rattle.raft_base.specs.FileId.{signature_in}
use Rattle.raft_base.specs.declared.errors.Fault.TheVariants.{Corruption}
use Rattle.raft_base.specs.declared.pipe_log.Version.{Version}
use Rattle.raft_base.specs.declared.pipe_log.Version.TheVariants.{V1, V2}
use Rattle.raft_records.specs.ItemBatch.{record_refusal}
use Rattle.raft_dump.specs.Stale.{headed_lens}

-- these bytes begin with no record that has this signature
abbrev pub IsBroken : Option ℕ → List ℕ → Type 0
IsBroken signature bytes = record_refusal signature bytes ≡ Some Corruption

-- these bytes begin with no record of a file of this number and version (`None`: of any version)
abbrev pub IsNoRecord : ℕ → Option Version → List ℕ → Type 0
IsNoRecord seq (Some version) bytes = IsBroken (signature_in version seq) bytes
IsNoRecord seq None bytes =
    IsBroken (signature_in V2 seq) bytes × IsBroken (signature_in V1 seq) bytes

-- no record begins at any place before `end`
abbrev pub IsNoneIn : ℕ → Option Version → List ℕ → ℕ → Type 0
IsNoneIn seq version bytes end = (at : ℕ) → at < end → IsNoRecord seq version (drop at bytes)

-- a record begins at some place in these bytes
pub record HoldsRecord (seq : ℕ) (version : Option Version) (bytes : List ℕ) : Type 0 where
  pub at : ℕ
  pub within : at < length bytes
  pub stands : ¬ IsNoRecord seq version (drop at bytes)

-- a search may be given up if possible records in the bytes have this many bytes or more
abbrev pub most_searched : ℕ
most_searched = 268435456

-- possible records in these bytes, by their headers, are long enough to give up the search
abbrev pub IsLongSearch : List ℕ → Type 0
IsLongSearch bytes = most_searched ≤ headed_lens bytes
