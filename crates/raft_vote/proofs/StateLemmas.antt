-- States that follow one another.
use Rattle.std.proofs.Common.{◌≡◌, ◌⊎◌, ◌∙◌, ◌<◌, ℕ, true, arith, inl, inr, refl, sym}
use Rattle.std.proofs.lemmas.Bool.{and_from, and_parts, or_cases, or_left, or_right}
use Rattle.std.proofs.lemmas.Bool.Decides.{nat_tests}
use Rattle.std.specs.Prelude.{◌==◌, ◌&&◌, ◌||◌, nat_lt}
use Rattle.raft_vote.specs.HardState.{may_follow}
use Rattle.raft_vote.specs.declared.hard_state.HardState.{HardState}

-- Numbers.

is_less : (a b : ℕ) → nat_lt a b ≡ true → a < b
is_less a b is = grind (arith, nat_tests)

less_is : (a b : ℕ) → a < b → nat_lt a b ≡ true
less_is a b is = grind (arith, nat_tests)

pub is_same : (a b : ℕ) → (a == b) ≡ true → a ≡ b
is_same a b is = grind (arith, nat_tests)

pub same_is : (a b : ℕ) → a ≡ b → (a == b) ≡ true
same_is a b is = grind (arith, nat_tests)

-- States.

-- in a later term, or in the same one with the same vote, or with the first one
abbrev Follows : HardState → HardState → Type 0
Follows s t = (s.term < t.term) ⊎ ((s.term ≡ t.term) × ((s.vote ≡ 0) ⊎ (s.vote ≡ t.vote)))

same_vote : (s t : HardState) → (s.vote == 0 || s.vote == t.vote) ≡ true → (s.vote ≡ 0) ⊎ (s.vote ≡ t.vote)
same_vote s t is = elim (or_cases (s.vote == 0) (s.vote == t.vote) is) [
  | inl none ↦ inl (is_same s.vote 0 none)
  | inr same ↦ inr (is_same s.vote t.vote same)
]

follows : (s t : HardState) → may_follow s t ≡ true → Follows s t
follows s t is = elim (or_cases (nat_lt s.term t.term) (s.term == t.term && (s.vote == 0 || s.vote == t.vote)) is) [
  | inl later ↦ inl (is_less s.term t.term later)
  | inr same ↦
      let parts = and_parts (s.term == t.term) (s.vote == 0 || s.vote == t.vote) same in
      inr (is_same s.term t.term parts.0, same_vote s t parts.1)
]

in_later_term : (s t : HardState) → s.term < t.term → may_follow s t ≡ true
in_later_term s t later = or_left (nat_lt s.term t.term) (s.term == t.term && (s.vote == 0 || s.vote == t.vote)) (less_is s.term t.term later)

in_same_term : (s t : HardState) → s.term ≡ t.term → (s.vote == 0 || s.vote == t.vote) ≡ true → may_follow s t ≡ true
in_same_term s t same vote =
    or_right (nat_lt s.term t.term) (s.term == t.term && (s.vote == 0 || s.vote == t.vote))
    (and_from (s.term == t.term) (s.vote == 0 || s.vote == t.vote) (same_is s.term t.term same) vote)

may : (s t : HardState) → Follows s t → may_follow s t ≡ true
may s t (inl later) = in_later_term s t later
may s t (inr (same, inl none)) = in_same_term s t same (or_left (s.vote == 0) (s.vote == t.vote) (same_is s.vote 0 none))
may s t (inr (same, inr vote)) = in_same_term s t same (or_right (s.vote == 0) (s.vote == t.vote) (same_is s.vote t.vote vote))

pub follows_itself : (s : HardState) → may_follow s s ≡ true
follows_itself s = may s s (inr (refl, inr refl))

then_follows : (s t u : HardState) → Follows s t → Follows t u → Follows s u
then_follows s t u (inl later) (inl next) = inl (omega arith)
then_follows s t u (inl later) (inr (same, vote)) = inl (omega arith)
then_follows s t u (inr (same, vote)) (inl next) = inl (omega arith)
then_follows s t u (inr (same, inl none)) (inr (next, vote)) = inr (same ∙ next, inl none)
then_follows s t u (inr (same, inr vote)) (inr (next, inl none)) = inr (same ∙ next, inl (vote ∙ none))
then_follows s t u (inr (same, inr vote)) (inr (next, inr voted)) = inr (same ∙ next, inr (vote ∙ voted))

pub follows_on : (s t u : HardState) → may_follow s t ≡ true → may_follow t u ≡ true → may_follow s u ≡ true
follows_on s t u first next = may s u (then_follows s t u (follows s t first) (follows t u next))

-- a state that may follow one with a vote has this vote in the same term
pub same_vote_in_term : (s t : HardState) → may_follow s t ≡ true → t.term ≡ s.term → (s.vote ≡ 0 → ⊥) → t.vote ≡ s.vote
same_vote_in_term s t is same voted = elim (follows s t is) [
  | inl later ↦ omega arith
  | inr (term, inl none) ↦ absurd (voted none)
  | inr (term, inr vote) ↦ sym vote
]
