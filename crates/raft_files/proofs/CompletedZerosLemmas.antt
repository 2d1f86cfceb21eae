-- What stands after the records of a file.
use Rattle.std.proofs.Common.{◌≡◌, ℕ, List, ◌∷◌, length, Option, Some, None, Contains, refl, ap, sym, subst, ◌∙◌, inl, inr, arith}
use Rattle.std.proofs.lemmas.List.Elements.{All-contains, Contains-append_right}
use Rattle.raft_env.specs.Outcomes.{Change, IsStaleAfter, IsWriteIfFailed, OnlyWritesFailed}
use Rattle.raft_files.specs.Records.{IsEmptyFrom}
use Rattle.raft_files.specs.Completed.{EndsUnwritten}
use Rattle.raft_env.proofs.ConsistentLemmas.{nowhere}

-- no place is stale of a file that was never renamed
pub never_stale : (renamed : Option ℕ) (changes : List Change) (i : ℕ) → renamed ≡ None → IsStaleAfter renamed changes i → ⊥
never_stale renamed changes i never stale = let some : Some stale.0 ≡ None = sym stale.1 ∙ never in absurd cc

-- where the places that it has not written hold zeros or what failed writes gave, they hold zeros
pub only_unwritten : (at : ℕ) (bytes : List ℕ) (renamed : Option ℕ) (changes : List Change) → IsEmptyFrom at bytes renamed changes → OnlyWritesFailed changes → EndsUnwritten at bytes renamed changes
only_unwritten at bytes renamed changes (inr stale) writes = inr stale
only_unwritten at bytes renamed changes (inl empty) writes = inl (record {
  zeros = λ i above below. elim (empty i above below) [
    | inl zero' ↦ zero'
    | inr q ↦
        let has : Contains changes q.1 = subst (λ cs. Contains cs q.1) (sym q.3) (Contains-append_right q.0 (q.1 ∷ q.2) q.1 (0, omega arith, refl)) in
        let wrote = All-contains IsWriteIfFailed changes q.1 writes has q.4 in
        let apart = nowhere q.1.from q.1.size i (omega (arith, wrote, ap length q.5)) in
        absurd (cc (apart, q.6))
  ];
})
