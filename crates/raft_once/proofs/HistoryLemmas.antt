-- No number of a group acts twice.
use Rattle.std.proofs.Common.{◌≡◌, ℕ, ◌<◌, ◌≤◌, ◌⊎◌, Bool, true, false, cond, nat_lt, nat_le, List, [], ◌∷◌, refl, sym, subst, arith, inl, inr}
use Rattle.std.specs.List.{list_all}
use Rattle.std.proofs.lemmas.Bool.{and_parts, and_from, leb-true, le-leb, lt-ltb}
use Rattle.raft_records.specs.Contents.{Contents, after_batch}
use Rattle.raft_records.specs.Item.{Batch}
use Rattle.raft_once.specs.Numbers.{Pair, are_new, are_old, are_unfit, has_group_twice, number_of, numbered}
use Rattle.raft_once.specs.History.{Act, ActedOnce, MayAct, MayAllAct, acted_after, acted_then, are_numbers, cleans, numbers_for, written_of}
use Rattle.raft_once.proofs.NumberLemmas.{IsGroupIn, IsGroupOut, group_in_pairs, number_raised, number_stays_beside, old_after}

-- the numbers that acted, and the one that the group keeps
record IsKept (n : ℕ) (acted : List ℕ) : Type 0 where
  once : ActedOnce acted
  below : list_all (λ k. nat_le k n) acted ≡ true

all_below : (k n : ℕ) (ns : List ℕ) → k < n → list_all (λ j. nat_le j k) ns ≡ true → list_all (λ j. nat_lt j n) ns ≡ true
all_below k n [] less all = refl
all_below k n (j ∷ ns) less all =
    let parts = and_parts (nat_le j k) (list_all (λ i. nat_le i k) ns) all in
    let low = leb-true j k parts.0 in
    and_from _ _ (lt-ltb j n (omega arith)) (all_below k n ns less parts.1)

all_within : (k n : ℕ) (ns : List ℕ) → k ≤ n → list_all (λ j. nat_le j k) ns ≡ true → list_all (λ j. nat_le j n) ns ≡ true
all_within k n [] less all = refl
all_within k n (j ∷ ns) less all =
    let parts = and_parts (nat_le j k) (list_all (λ i. nat_le i k) ns) all in
    let low = leb-true j k parts.0 in
    and_from _ _ (le-leb j n (omega arith)) (all_within k n ns less parts.1)

fit_once : (pairs : List Pair) → are_unfit pairs ≡ false → has_group_twice pairs ≡ false
fit_once [] fit = absurd cc
fit_once (p ∷ ps) fit = fit

once_in : (m : Contents) (pairs : List Pair) → ((pairs ≡ []) ⊎ ((are_unfit pairs ≡ false) × (are_new m pairs ≡ true))) → (has_group_twice pairs ≡ false) × (are_new m pairs ≡ true)
once_in m pairs (inl none) = subst (λ ps. (has_group_twice ps ≡ false) × (are_new m ps ≡ true)) (sym none) (refl, refl)
once_in m pairs (inr both) = (fit_once pairs both.0, both.1)

group_of_act : (m : Contents) (g : ℕ) (act : Act) → MayAct m act → IsGroupOut g act.pairs ⊎ ((n : ℕ) × IsGroupIn m g act.pairs n)
group_of_act m g act may = let w = once_in m act.pairs may.greater in group_in_pairs m g act.pairs w.0 may.numbers w.1

-- one act more
kept_after : (m : Contents) (g : ℕ) (act : Act) (acted : List ℕ) → MayAct m act → IsKept (number_of m g) acted
    → IsKept (number_of (after_batch m (written_of act)) g) (acted_then acted (cleans g act.items) (numbers_for g act.pairs))
kept_after m g act acted may kept = at (group_of_act m g act may)
  where
    stays : (b : Bool) → cleans g act.items ≡ b → IsGroupOut g act.pairs → IsKept (number_of (after_batch m (written_of act)) g) (cond b [] acted)
    stays true cleaned out = record { once = tt; below = refl }
    stays false cleaned out = record {
      once = kept.once;
      below = subst (λ n. list_all (λ k. nat_le k n) acted ≡ true) (sym (number_stays_beside m act.items act.pairs g may.plain cleaned out)) kept.below;
    }

    at : (IsGroupOut g act.pairs ⊎ ((n : ℕ) × IsGroupIn m g act.pairs n)) → IsKept (number_of (after_batch m (written_of act)) g) (acted_then acted (cleans g act.items) (numbers_for g act.pairs))
    at (inl out) = subst (λ ns. IsKept (number_of (after_batch m (written_of act)) g) (acted_then acted (cleans g act.items) ns)) (sym out.numbers) (stays (cleans g act.items) refl out)
    at (inr (n, within)) =
        let is : number_of (after_batch m (written_of act)) g ≡ n = number_raised m act.items act.pairs m g n within in
        let below : list_all (λ k. nat_lt k n) acted ≡ true = all_below (number_of m g) n acted within.greater kept.below in
        let low : number_of m g ≤ n = omega (arith, within.greater) in
        let more : IsKept n (n ∷ acted) = record {
          once = (below, kept.once);
          below = and_from _ _ (le-leb n n (omega arith)) (all_within (number_of m g) n acted low kept.below);
        } in
        subst (λ ns. IsKept (number_of (after_batch m (written_of act)) g) (acted_then acted (cleans g act.items) ns)) (sym within.numbers) (subst (λ k. IsKept k (n ∷ acted)) (sym is) more)

kept_after_all : (m : Contents) (g : ℕ) (acts : List Act) (acted : List ℕ) → MayAllAct m acts → IsKept (number_of m g) acted → ActedOnce (acted_after g acted acts)
kept_after_all m g [] acted may kept = kept.once
kept_after_all m g (act ∷ acts) acted may kept =
    kept_after_all (after_batch m (written_of act)) g acts (acted_then acted (cleans g act.items) (numbers_for g act.pairs)) may.1 (kept_after m g act acted may.0 kept)

pub acts_once : (m : Contents) (g : ℕ) (acts : List Act) → MayAllAct m acts → ActedOnce (acted_after g [] acts)
acts_once m g acts may = kept_after_all m g acts [] may (record { once = tt; below = refl })

-- a number falls only by a clean
pub never_falls : (m : Contents) (g : ℕ) (act : Act) → MayAct m act → cleans g act.items ≡ false → number_of m g ≤ number_of (after_batch m (written_of act)) g
never_falls m g act may kept = at (group_of_act m g act may)
  where
    at : (IsGroupOut g act.pairs ⊎ ((n : ℕ) × IsGroupIn m g act.pairs n)) → number_of m g ≤ number_of (after_batch m (written_of act)) g
    at (inl out) = let is = number_stays_beside m act.items act.pairs g may.plain kept out in omega (arith, is)
    at (inr (n, within)) = let is = number_raised m act.items act.pairs m g n within in omega (arith, is, within.greater)

-- what acted is old
pub old_once_acted : (m : Contents) (items : Batch) (pairs : List Pair) → are_unfit pairs ≡ false → are_numbers pairs ≡ true → are_old (after_batch m (numbered items pairs)) pairs ≡ true
old_once_acted m items pairs fit numbers = old_after m items pairs (fit_once pairs fit) numbers
