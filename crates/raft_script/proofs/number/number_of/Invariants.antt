use Rattle.std.proofs.Common.{◌≡◌, ◌<◌, ◌^◌, drop}
use Rattle.raft_script.specs.Number.{number_in}
use Rattle.raft_script.proofs.NumberLemmas.{number_from}
use Rattle.raft_script.proofs.number.number_of.Given as goal

abbrev pub invariant-loop-byte : goal.invariant-loop-byte
invariant-loop-byte l = (l.number < 2 ^ 64) × (number_from l.number (drop l.byte-index l.word) ≡ number_in l.word)
