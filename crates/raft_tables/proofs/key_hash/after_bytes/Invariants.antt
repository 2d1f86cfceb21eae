use Rattle.std.proofs.Common.{◌≡◌, take}
use Rattle.std.specs.List.{fold}
use Rattle.raft_tables.specs.KeyHash.{hash_step}
use Rattle.raft_tables.proofs.key_hash.after_bytes.Given as goal

abbrev pub invariant-loop-byte : goal.invariant-loop-byte
invariant-loop-byte l = l.hash ≡ fold hash_step l.first (take l.byte-index l.bytes)
