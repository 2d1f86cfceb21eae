use Rattle.std.proofs.Common.{◌≡◌, ◌==◌, ℕ, drop, true}
use Rattle.std.specs.Prelude.{if◌then◌else◌}
use Rattle.std.specs.List.{list_any}
use Rattle.raft_purge_rules.specs.Rounds.{next_round, rounds_of}
use Rattle.raft_purge_rules.proofs.rounds.Rounds.after.Given as goal

-- with those that are left to go over, each group gets what it is to have
abbrev pub invariant-loop-group : goal.invariant-loop-group
invariant-loop-group l = (one : ℕ)
    → (if list_any (λ asked. asked == one) (drop l.group-index l.asked) then next_round true (rounds_of l.self one) else rounds_of l.rounds one)
    ≡ next_round (list_any (λ asked. asked == one) l.asked) (rounds_of l.self one)
