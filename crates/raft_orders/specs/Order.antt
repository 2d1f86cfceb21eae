-- The bytes of orders.
use Rattle.std.specs.Prelude.{ℕ, ◌+◌, List, [], ◌∷◌, ◌++◌, length, take}
use Rattle.raft_codec.specs.Number.{u64_bytes}
use Rattle.raft_disk.specs.declared.told.Call.{Call}
use Rattle.raft_disk.specs.declared.told.Call.TheVariants as call

-- an order: a byte for its kind, a number, the lengths of two parts, and the parts
abbrev pub order_of : ℕ → ℕ → List ℕ → List ℕ → List ℕ
order_of kind number first second =
    kind ∷ u64_bytes number ++ u64_bytes (length first) ++ u64_bytes (length second)
    ++ first ++ second

-- the order of a call; the first part is its path
abbrev pub order_bytes : Call → List ℕ
order_bytes (call.Create path) = order_of 1 0 path []
order_bytes (call.Delete path) = order_of 2 0 path []
order_bytes (call.Rename src dst) = order_of 3 0 src dst
order_bytes (call.MakeFolder path) = order_of 4 0 path []
order_bytes (call.Write path at bytes count) = order_of 5 at path (take count bytes)
order_bytes (call.Truncate path size) = order_of 6 size path []
order_bytes (call.Allocate path at size) = order_of 7 (at + size) path []
order_bytes (call.Sync path) = order_of 8 0 path []
