use Rattle.std.proofs.Common.{◌≡◌, ◌==◌, ◌-◌, ℕ, List, drop, length}
use Rattle.std.specs.List.{list_all}
use Rattle.raft_dump.specs.Parts.{AreOf}
use Rattle.raft_dump.proofs.part_check.has_zeros.Given as goal

abbrev pub invariant-parts : goal.invariant-parts
invariant-parts g l =
    ((bytes : List ℕ) → length bytes ≡ l.size → AreOf bytes (g.S.PartSource.given l.source)
    → list_all (λ b. b == 0) (drop l.at bytes) ≡ list_all (λ b. b == 0) (drop l.from bytes))
    × ((bytes : List ℕ) → AreOf bytes (g.S.PartSource.given l.source) → AreOf bytes (g.S.PartSource.given l.fn.source))

abbrev pub decreases-parts : goal.decreases-parts
decreases-parts g l = l.size - l.at
