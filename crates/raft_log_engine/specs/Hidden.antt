-- What reads list, without the groups' numbers.
use Rattle.std.specs.Prelude.{ℕ, List, filter, not}
use Rattle.raft_once.specs.Numbers.{is_number_key}

-- the pairs without the one at the key of a group's number
abbrev pub without_number : List (List ℕ × List ℕ) → List (List ℕ × List ℕ)
without_number pairs = filter (λ p. not (is_number_key p.0)) pairs
