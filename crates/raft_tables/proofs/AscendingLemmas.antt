-- Ids of atomic groups that ascend: those of more batches, and of fewer.
use Rattle.std.proofs.Common.{◌≡◌, ℕ, ◌+◌, ◌≤◌, ◌&&◌, ◌||◌, max, Bool, true, false, List, [], ◌∷◌, ◌++◌, Option, Some, None, map, fold, nat_le, refl, sym, ◌∙◌, ap, ⊎_elim, arith}
use Rattle.std.proofs.lemmas.Bool.Decides.{nat_tests}
use Rattle.std.proofs.lemmas.List.{map-append}
use Rattle.raft_records.specs.Item.{Batch}
use Rattle.raft_recovery_laws.specs.Groups.{GroupMark, mark_of}
use Rattle.raft_tables.specs.GroupIds.{are_ascending, bound_after, goes_on}
use Rattle.raft_tables.proofs.GroupIdsLemmas.{and_both, le_test, marks, or_cases}

pub and_of : (a b : Bool) → a ≡ true → b ≡ true → (a && b) ≡ true
and_of a b first second = ap (λ c. c && b) first ∙ second

pub or_first : (a b : Bool) → a ≡ true → (a || b) ≡ true
or_first a b is = ap (λ c. c || b) is

pub or_second : (a b : Bool) → b ≡ true → (a || b) ≡ true
or_second true b is = refl
or_second false b is = is

test_le : (a b : ℕ) → a ≤ b → nat_le a b ≡ true
test_le a b le = grind (arith, nat_tests)

-- from a lower bound on
lower : (bound low : ℕ) (last : Option ℕ) (ms : List (Option GroupMark)) → low ≤ bound → are_ascending bound last ms ≡ true → are_ascending low last ms ≡ true
lower bound low last [] le is = refl
lower bound low last (None ∷ ms) le is = lower bound low None ms le is
lower bound low last (Some m ∷ ms) le is =
    let both = and_both (nat_le bound m.id || goes_on last m) (are_ascending (max bound (m.id + 1)) (Some m.id) ms) is in
    let first : (nat_le low m.id || goes_on last m) ≡ true = ⊎_elim
    (λ (new : nat_le bound m.id ≡ true). or_first (nat_le low m.id) (goes_on last m) (test_le low m.id (omega (arith, le, le_test bound m.id new))))
    (λ (on : goes_on last m ≡ true). or_second (nat_le low m.id) (goes_on last m) on)
    (or_cases (nat_le bound m.id) (goes_on last m) both.0) in
    and_of (nat_le low m.id || goes_on last m) (are_ascending (max low (m.id + 1)) (Some m.id) ms) first (lower (max bound (m.id + 1)) (max low (m.id + 1)) (Some m.id) ms (omega (arith, le)) both.1)

-- the first of these begin the list
anew : (bound : ℕ) (last : Option ℕ) (ms : List (Option GroupMark)) → are_ascending bound last ms ≡ true → are_ascending 0 None ms ≡ true
anew bound last [] is = refl
anew bound last (None ∷ ms) is = lower bound 0 None ms (omega arith) is
anew bound last (Some m ∷ ms) is =
    let both = and_both (nat_le bound m.id || goes_on last m) (are_ascending (max bound (m.id + 1)) (Some m.id) ms) is in
    and_of (nat_le 0 m.id || false) (are_ascending (max 0 (m.id + 1)) (Some m.id) ms) (or_first (nat_le 0 m.id) false (test_le 0 m.id (omega arith)))
    (lower (max bound (m.id + 1)) (max 0 (m.id + 1)) (Some m.id) ms (omega arith) both.1)

behind : (bound : ℕ) (last : Option ℕ) (ms ns : List (Option GroupMark)) → are_ascending bound last (ms ++ ns) ≡ true → are_ascending 0 None ns ≡ true
behind bound last [] ns is = anew bound last ns is
behind bound last (None ∷ ms) ns is = behind bound None ms ns is
behind bound last (Some m ∷ ms) ns is =
    behind (max bound (m.id + 1)) (Some m.id) ms ns (and_both (nat_le bound m.id || goes_on last m) (are_ascending (max bound (m.id + 1)) (Some m.id) (ms ++ ns)) is).1

before : (bound : ℕ) (last : Option ℕ) (ms ns : List (Option GroupMark)) → are_ascending bound last (ms ++ ns) ≡ true → are_ascending bound last ms ≡ true
before bound last [] ns is = refl
before bound last (None ∷ ms) ns is = before bound None ms ns is
before bound last (Some m ∷ ms) ns is =
    let both = and_both (nat_le bound m.id || goes_on last m) (are_ascending (max bound (m.id + 1)) (Some m.id) (ms ++ ns)) is in
    and_of (nat_le bound m.id || goes_on last m) (are_ascending (max bound (m.id + 1)) (Some m.id) ms) both.0 (before (max bound (m.id + 1)) (Some m.id) ms ns both.1)

-- others behind them, which ascend from the bound on that these leave
more_marks : (bound : ℕ) (last : Option ℕ) (ms ns : List (Option GroupMark)) → are_ascending bound last ms ≡ true
    → ((k : ℕ) (next : Option ℕ) → k ≡ fold bound_after bound ms → are_ascending k next ns ≡ true) → are_ascending bound last (ms ++ ns) ≡ true
more_marks bound last [] ns is more = more bound last refl
more_marks bound last (None ∷ ms) ns is more = more_marks bound None ms ns is more
more_marks bound last (Some m ∷ ms) ns is more =
    let both = and_both (nat_le bound m.id || goes_on last m) (are_ascending (max bound (m.id + 1)) (Some m.id) ms) is in
    and_of (nat_le bound m.id || goes_on last m) (are_ascending (max bound (m.id + 1)) (Some m.id) (ms ++ ns)) both.0 (more_marks (max bound (m.id + 1)) (Some m.id) ms ns both.1 more)

-- batches

pub ascend_fewer : (front batches : List Batch) → are_ascending 0 None (map mark_of (front ++ batches)) ≡ true → are_ascending 0 None (map mark_of batches) ≡ true
ascend_fewer front batches is = behind 0 None (marks front) (marks batches) (ap (are_ascending 0 None) (sym (map-append mark_of front batches)) ∙ is)

pub ascend_first : (batches others : List Batch) → are_ascending 0 None (map mark_of (batches ++ others)) ≡ true → are_ascending 0 None (map mark_of batches) ≡ true
ascend_first batches others is = before 0 None (marks batches) (marks others) (ap (are_ascending 0 None) (sym (map-append mark_of batches others)) ∙ is)

pub ascend_more : (batches others : List Batch) → are_ascending 0 None (map mark_of batches) ≡ true
    → ((k : ℕ) (next : Option ℕ) → k ≡ fold bound_after 0 (map mark_of batches) → are_ascending k next (map mark_of others) ≡ true) → are_ascending 0 None (map mark_of (batches ++ others)) ≡ true
ascend_more batches others is more = ap (are_ascending 0 None) (map-append mark_of batches others) ∙ more_marks 0 None (marks batches) (marks others) is more

pub ascend_unmarked : (batches : List Batch) (b : Batch) → mark_of b ≡ None → are_ascending 0 None (map mark_of batches) ≡ true → are_ascending 0 None (map mark_of (batches ++ b ∷ [])) ≡ true
ascend_unmarked batches b none is = ascend_more batches (b ∷ []) is (λ k next at. ap (λ (o : Option GroupMark). are_ascending k next (o ∷ [])) none)
