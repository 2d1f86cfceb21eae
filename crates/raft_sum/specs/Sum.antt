-- What is summed of a log's contents: of each group its number, and then parts, each begun by a byte that says what it is.
use Rattle.std.specs.Prelude.{ℕ, List, ◌∷◌, ◌++◌, length}
use Rattle.raft_codec.specs.Number.{u64_bytes}

-- bytes behind their length
abbrev pub part_bytes : List ℕ → List ℕ
part_bytes bytes = u64_bytes (length bytes) ++ bytes

-- an entry: its index, and its bytes as they are stored
abbrev pub entry_bytes : ℕ → List ℕ → List ℕ
entry_bytes index bytes = 1 ∷ (u64_bytes index ++ part_bytes bytes)

-- a key and its value
abbrev pub pair_bytes : List ℕ → List ℕ → List ℕ
pair_bytes key value = 2 ∷ (part_bytes key ++ part_bytes value)
