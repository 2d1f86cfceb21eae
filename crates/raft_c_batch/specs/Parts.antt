-- Results as bytes.
use Rattle.std.specs.Prelude.{ℕ, List, [], ◌∷◌, ◌++◌}
use Rattle.raft_codec.specs.Number.{u64_bytes}
use Rattle.raft_c_batch.specs.Batch.{part_bytes}

-- numbers, each in eight bytes, the greatest first
abbrev pub numbers_bytes : List ℕ → List ℕ
numbers_bytes [] = []
numbers_bytes (n ∷ ns) = u64_bytes n ++ numbers_bytes ns

-- keys and values, each with its length before it
abbrev pub pairs_bytes : List (List ℕ × List ℕ) → List ℕ
pairs_bytes [] = []
pairs_bytes (p ∷ ps) = (part_bytes p.0 ++ part_bytes p.1) ++ pairs_bytes ps
