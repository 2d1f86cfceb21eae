use Rattle.std.proofs.Common.{◌≡◌, ◌++◌, take}
use Rattle.raft_c_batch.specs.Parts.{numbers_bytes}
use Rattle.raft_c_batch.proofs.parts.push_numbers.Given as goal

abbrev pub invariant-loop-number : goal.invariant-loop-number
invariant-loop-number l = l.bytes.items ≡ l.fn.bytes.items ++ numbers_bytes (take l.number-index l.numbers)
