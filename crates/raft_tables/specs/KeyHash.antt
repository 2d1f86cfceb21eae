-- How a table hashes its keys.
use Rattle.std.specs.Prelude.{ℕ, ◌*◌, ◌%◌, ◌^◌, List, length, take, drop, fold, bit_xor, if◌then◌else◌, nat_le}
use Rattle.std.specs.Int.{w64, from_le_bytes}
use Rattle.raft_tables.specs.declared.key_hash.KeyHasher.{KeyHasher}

-- before the first byte
abbrev pub first_state : KeyHasher
first_state = record { 0 = 0x243f_6a88_85a3_08d3 }

-- one step, for a byte or for eight as one number
abbrev pub hash_step : ℕ → ℕ → ℕ
hash_step state bits = (bit_xor state bits * 0x9e37_79b9_7f4a_7c15) % 2 ^ 64

-- a step for the first eight bytes, where there are so many, and one for each byte after them
abbrev pub hash_write : KeyHasher → List ℕ → KeyHasher
hash_write h bytes =
    let first = hash_step h.0 (from_le_bytes w64 (take 8 bytes)) in
    record {
      0 =
          if nat_le 8 (length bytes) then fold hash_step first (drop 8 bytes)
          else fold hash_step h.0 bytes;
    }
