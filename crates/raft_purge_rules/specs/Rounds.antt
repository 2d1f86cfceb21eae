-- How often in a row groups were asked for.
use Rattle.std.specs.Prelude.{ℕ, ◌+◌, nat_le, Bool, unwrap_or, if◌then◌else◌}
use Rattle.std.specs.BTreeMap as tree
use Rattle.std.specs.Ordering.{nat_cmp}
use Rattle.raft_purge_rules.specs.declared.rounds.Rounds.{Rounds}

-- in how many purges in a row a group was asked for and not rewritten
abbrev pub rounds_of : Rounds → ℕ → ℕ
rounds_of rounds group = unwrap_or (tree.get nat_cmp rounds.counts group) 0

-- one more for a group that is asked for, but in the tenth purge it begins anew; none for another one
abbrev pub next_round : Bool → ℕ → ℕ
next_round is_asked rounds = if is_asked then (if nat_le 9 rounds then 0 else rounds + 1) else 0
