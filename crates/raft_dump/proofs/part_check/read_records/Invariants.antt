use Rattle.std.proofs.Common.{◌≡◌, ◌+◌, ◌-◌, ◌*◌, ◌^◌, ◌≤◌, ℕ, List, length, None, Some, unwrap_or}
use Rattle.std.specs.Option.{IfSome}
use Rattle.raft_dump.specs.Check.{EndsReading}
use Rattle.raft_dump.proofs.CheckLemmas.{IsReadTo}
use Rattle.raft_dump.specs.Given.{cursor}
use Rattle.raft_dump.specs.Parts.{AreOf, BeginsWith}
use Rattle.raft_dump.proofs.part_check.read_records.Given as goal

abbrev pub invariant-parts : goal.invariant-parts
invariant-parts g l =
    (l.check.id ≡ l.file.id) × (l.check.len ≡ l.size) × (l.check.format ≡ Some l.fn.format)
    × (l.check.end ≤ l.size) × IfSome l.wanted (λ w. w ≤ l.size - l.check.end)
    × ((bytes : List ℕ) → length bytes ≡ l.size → AreOf bytes (g.S.PartSource.given l.source) → BeginsWith l.header l.fn.format bytes
    → IsReadTo l.file.id bytes (cursor l.file.id l.fn.format bytes l.check.end) l.check.records
    × (l.wanted ≡ None → EndsReading (cursor l.file.id l.fn.format bytes l.check.end) l.check.stop))
    × ((bytes : List ℕ) → AreOf bytes (g.S.PartSource.given l.source) → AreOf bytes (g.S.PartSource.given l.fn.source))

abbrev pub decreases-parts : goal.decreases-parts
decreases-parts g l = (l.size - l.check.end) * 2 ^ 64 + (2 ^ 64 - unwrap_or l.wanted (2 ^ 64))
