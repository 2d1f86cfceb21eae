-- What is true of one group while an opening replays the Append queue.
use Rattle.std.proofs.Common.{◌≡◌, ℕ, ◌+◌, ◌<◌, ◌≤◌, ◌&&◌, ◌⊎◌, inl, inr, Bool, true, false, cond, eqb, List, [], ◌∷◌, ◌++◌, length, filter, refl, sym, ◌∙◌, ap, subst, ⊎_elim, arith}
use Rattle.std.specs.List.{Contains, AllByRecursion as Each}
use Rattle.std.specs.Prelude.{nat_le, nat_lt}
use Rattle.std.proofs.lemmas.Bool.{and_parts, cases_Bool, false≢true, leb-true}
use Rattle.std.proofs.lemmas.Bool.Decides.{nat_tests}
use Rattle.raft_base.specs.declared.pipe_log.LogQueue.TheVariants.{Append}
use Rattle.raft_records.specs.FileBatches.{IsInFile}
use Rattle.raft_records.specs.declared.entry_index.EntryPlace.{EntryPlace}
use Rattle.raft_records.specs.Item.{Entry}
use Rattle.raft_records.specs.Contents.{entries_below, is_next_to, with_entries}
use Rattle.raft_records.specs.Places.{Blocks, entry_in, entries_in}
use Rattle.raft_records.specs.Validity.{are_consecutive_from}
use Rattle.raft_recovery_laws.specs.Consecutive.{are_consecutive}
use Rattle.raft_recovery_laws.proofs.AscendingLemmas.{Contains-filter, Contains-head, Contains-unfilter}
use Rattle.raft_recovery_laws.proofs.KeptLemmas.{filter_no, filter_yes}
use Rattle.raft_tables.specs.Counters.{is_rewritten}
use Rattle.raft_index_laws.specs.Opening.{GroupReplayed, IsAllLeft, IsLeftBelow}
use Rattle.raft_tables.specs.Owed.{Marks, leaves_hole}
use Rattle.raft_index_laws.specs.Standing.{AreInFileOrder, EntryStands, GroupStands, HasNoneBefore, HasNoneBehind, rank_of}
use Rattle.raft_index_laws.proofs.DropLemmas.{placed_of, placed_run}
use Rattle.raft_recovery_laws.proofs.EachLemmas.{consecutive_parts, each_append, each_contained, each_filter, each_map, each_of, next_to, within}
use Rattle.raft_index_laws.proofs.GroupLemmas.{all_from, entry_less, in_not_rewritten, in_rank, in_stands, none_behind_appended, nothing_below, order_append, order_filter, order_lower, order_same, rewritten-append}
use Rattle.raft_index_laws.proofs.MovedLemmas.{contains_in, no_rank, stands_there}
use Rattle.raft_index_laws.proofs.WrittenLemmas.{placed_next}

-- consecutive entries

high_test : (a b : ℕ) → nat_lt a b ≡ false → b ≤ a
high_test a b is = grind (arith, nat_tests)

low_test : (a b : ℕ) → a < b → nat_lt a b ≡ true
low_test a b is = grind (arith, nat_tests)

from_test : (a b : ℕ) → nat_le a b ≡ false → b < a
from_test a b is = grind (arith, nat_tests)

run_below : (n s : ℕ) (xs : List (ℕ × EntryPlace)) → are_consecutive_from n xs ≡ true → are_consecutive_from n (entries_below s xs) ≡ true
run_below n s [] run = refl
run_below n s (x ∷ xs) run =
    let parts = consecutive_parts n x xs run in
    ⊎_elim
    (λ low. subst (λ ys. are_consecutive_from n ys ≡ true) (sym (filter_yes (λ (y : ℕ × EntryPlace). nat_lt y.0 s) x xs low)) (ap (λ b. b && are_consecutive_from (n + 1) (entries_below s xs)) (and_parts (eqb x.0 n) (are_consecutive_from (n + 1) xs) run).0 ∙ run_below (n + 1) s xs parts.1))
    (λ high. let le = high_test x.0 s high in subst (λ ys. are_consecutive_from n ys ≡ true) (sym (nothing_below n s (x ∷ xs) (omega (arith, le, parts.0)) run)) refl)
    (cases_Bool (nat_lt x.0 s))

run_from : (n c : ℕ) (xs : List (ℕ × EntryPlace)) → are_consecutive_from n xs ≡ true → (m : ℕ) × (are_consecutive_from m (filter (λ e. nat_le c e.0) xs) ≡ true)
run_from n c [] run = (0, refl)
run_from n c (x ∷ xs) run =
    let parts = consecutive_parts n x xs run in
    ⊎_elim
    (λ here. (n, subst (λ ys. are_consecutive_from n ys ≡ true) (sym (all_from c n (x ∷ xs) (omega (arith, leb-true c x.0 here, parts.0)) run)) run))
    (λ later. let rest = run_from (n + 1) c xs parts.1 in (rest.0, subst (λ ys. are_consecutive_from rest.0 ys ≡ true) (sym (filter_no (λ (y : ℕ × EntryPlace). nat_le c y.0) x xs later)) rest.1))
    (cases_Bool (nat_le c x.0))

length_below : (n s : ℕ) (xs : List (ℕ × EntryPlace)) → are_consecutive_from n xs ≡ true → n ≤ s → s ≤ n + length xs → n + length (entries_below s xs) ≡ s
length_below n s [] run low high = omega (arith, low, high)
length_below n s (x ∷ xs) run low high =
    let parts = consecutive_parts n x xs run in
    ⊎_elim
    (λ below. let k = leb-true _ _ below in let rest = length_below (n + 1) s xs parts.1 (omega (arith, k, parts.0)) (omega (arith, high)) in omega (arith, ap length (filter_yes (λ (y : ℕ × EntryPlace). nat_lt y.0 s) x xs below), rest))
    (λ above. let le = high_test x.0 s above in omega (arith, ap length (nothing_below n s (x ∷ xs) (omega (arith, le, parts.0)) run), le, parts.0, low))
    (cases_Bool (nat_lt x.0 s))

run_append : (n : ℕ) (xs ys : List (ℕ × EntryPlace)) → are_consecutive_from n xs ≡ true → are_consecutive_from (n + length xs) ys ≡ true → are_consecutive_from n (xs ++ ys) ≡ true
run_append n [] ys first second = let at : n + 0 ≡ n = omega arith in subst (λ m. are_consecutive_from m ys ≡ true) at second
run_append n (x ∷ xs) ys first second =
    let parts = consecutive_parts n x xs first in
    let at : n + length (x ∷ xs) ≡ (n + 1) + length xs = omega arith in
    ap (λ b. b && are_consecutive_from (n + 1) (xs ++ ys)) (and_parts (eqb x.0 n) (are_consecutive_from (n + 1) xs) first).0 ∙ run_append (n + 1) xs ys parts.1 (subst (λ m. are_consecutive_from m ys ≡ true) at second)

run_with : (n : ℕ) (old : List (ℕ × EntryPlace)) (e : ℕ × EntryPlace) (new : List (ℕ × EntryPlace)) → are_consecutive_from n old ≡ true → are_consecutive_from e.0 (e ∷ new) ≡ true → (m : ℕ) × (are_consecutive_from m (with_entries old (e ∷ new)) ≡ true)
run_with n [] e new run run_new = (e.0, run_new)
run_with n (f ∷ fs) e new run run_new =
    let parts = consecutive_parts n f fs run in
    ⊎_elim
    (λ next.
    let ends = and_parts (nat_le f.0 e.0) (nat_le e.0 (f.0 + length (f ∷ fs))) next in
    let low = leb-true f.0 e.0 ends.0 in
    let high = leb-true e.0 (f.0 + length (f ∷ fs)) ends.1 in
    let at = length_below n e.0 (f ∷ fs) run (omega (arith, low, parts.0)) (omega (arith, high, parts.0)) in
    (n, subst (λ b. are_consecutive_from n (cond b (entries_below e.0 (f ∷ fs) ++ e ∷ new) (e ∷ new)) ≡ true) (sym next) (run_append n (entries_below e.0 (f ∷ fs)) (e ∷ new) (run_below n e.0 (f ∷ fs) run) (subst (λ m. are_consecutive_from m (e ∷ new) ≡ true) (sym at) run_new))))
    (λ apart. (e.0, subst (λ b. are_consecutive_from e.0 (cond b (entries_below e.0 (f ∷ fs) ++ e ∷ new) (e ∷ new)) ≡ true) (sym apart) run_new))
    (cases_Bool (is_next_to (f ∷ fs) e.0))

-- two cuts are the lower one
below_lower : (s t : ℕ) (xs : List Entry) → s ≤ t → entries_below s (entries_below t xs) ≡ entries_below s xs
below_lower s t [] le = refl
below_lower s t (x ∷ xs) le = at (nat_lt x.0 t) (nat_lt x.0 s) refl refl (below_lower s t xs le)
  where
    at : (b c : Bool) → nat_lt x.0 t ≡ b → nat_lt x.0 s ≡ c → entries_below s (entries_below t xs) ≡ entries_below s xs → entries_below s (cond b (x ∷ entries_below t xs) (entries_below t xs)) ≡ cond c (x ∷ entries_below s xs) (entries_below s xs)
    at true true is_b is_c rest = ap (λ c. cond c (x ∷ entries_below s (entries_below t xs)) (entries_below s (entries_below t xs))) is_c ∙ ap (λ ys. x ∷ ys) rest
    at true false is_b is_c rest = ap (λ c. cond c (x ∷ entries_below s (entries_below t xs)) (entries_below s (entries_below t xs))) is_c ∙ rest
    at false true is_b is_c rest = let low = leb-true _ _ is_c in let high = high_test x.0 t is_b in absurd (omega (arith, low, high, le))
    at false false is_b is_c rest = rest

below_again : (s t : ℕ) (xs : List Entry) → t ≤ s → entries_below s (entries_below t xs) ≡ entries_below t xs
below_again s t [] le = refl
below_again s t (x ∷ xs) le = at (nat_lt x.0 t) refl (below_again s t xs le)
  where
    at : (b : Bool) → nat_lt x.0 t ≡ b → entries_below s (entries_below t xs) ≡ entries_below t xs → entries_below s (cond b (x ∷ entries_below t xs) (entries_below t xs)) ≡ cond b (x ∷ entries_below t xs) (entries_below t xs)
    at true is rest = let low = leb-true _ _ is in ap (λ c. cond c (x ∷ entries_below s (entries_below t xs)) (entries_below s (entries_below t xs))) (low_test x.0 s (omega (arith, low, le))) ∙ ap (λ ys. x ∷ ys) rest
    at false is rest = rest

below_each : (s : ℕ) (xs : List (ℕ × EntryPlace)) → Each (λ p. p.0 < s) (entries_below s xs)
below_each s xs = each_of (λ p. p.0 < s) (entries_below s xs) (λ p has. leb-true _ _ (Contains-unfilter (λ (y : ℕ × EntryPlace). nat_lt y.0 s) xs p has).1)

-- where new entries start over old ones
pub data StartsAt (n : ℕ) (old : List (ℕ × EntryPlace)) (e : ℕ × EntryPlace) (all : List (ℕ × EntryPlace)) : Type 0 where
  -- with the first of them
  AtNew : (rest : List (ℕ × EntryPlace)) → all ≡ e ∷ rest → ((e.0 ≤ n) ⊎ (n + length old < e.0)) → StartsAt n old e all
  -- with the first of the old ones
  AtOld : (f : ℕ × EntryPlace) (fs rest : List (ℕ × EntryPlace)) → old ≡ f ∷ fs → f.0 < e.0 → all ≡ f ∷ rest → StartsAt n old e all

either_side : (a b : ℕ) → (a ≤ b) ⊎ (b + 0 < a)
either_side a b = ⊎_elim (λ le. inl (leb-true a b le)) (λ gt. inr (let h = from_test a b gt in omega (arith, h))) (cases_Bool (nat_le a b))

starts_at : (n : ℕ) (old : List (ℕ × EntryPlace)) (e : ℕ × EntryPlace) (new : List (ℕ × EntryPlace)) → are_consecutive_from n old ≡ true → StartsAt n old e (with_entries old (e ∷ new))
starts_at n [] e new run = AtNew new refl (either_side e.0 n)
starts_at n (f ∷ fs) e new run = next (is_next_to (f ∷ fs) e.0) refl
  where
    parts : (f.0 ≡ n) × (are_consecutive_from (n + 1) fs ≡ true)
    parts = consecutive_parts n f fs run

    touching : (b : Bool) → nat_lt f.0 e.0 ≡ b → StartsAt n (f ∷ fs) e (entries_below e.0 (f ∷ fs) ++ e ∷ new)
    touching true low = AtOld f fs (entries_below e.0 fs ++ e ∷ new) refl (leb-true _ _ low) (ap (λ xs. xs ++ e ∷ new) (filter_yes (λ (y : ℕ × EntryPlace). nat_lt y.0 e.0) f fs low))
    touching false high =
        let le = high_test f.0 e.0 high in
        AtNew new (ap (λ xs. xs ++ e ∷ new) (nothing_below n e.0 (f ∷ fs) (omega (arith, le, parts.0)) run)) (inl (omega (arith, le, parts.0)))

    apart : (nat_le f.0 e.0 && nat_le e.0 (f.0 + length (f ∷ fs))) ≡ false → (e.0 ≤ n) ⊎ (n + length (f ∷ fs) < e.0)
    apart is = at (nat_le f.0 e.0) (nat_le e.0 (f.0 + length (f ∷ fs))) refl refl is
      where
        at : (b c : Bool) → nat_le f.0 e.0 ≡ b → nat_le e.0 (f.0 + length (f ∷ fs)) ≡ c → (b && c) ≡ false → (e.0 ≤ n) ⊎ (n + length (f ∷ fs) < e.0)
        at true true is_b is_c none = absurd (false≢true (sym none))
        at true false is_b is_c none = let h = from_test e.0 (f.0 + length (f ∷ fs)) is_c in inr (omega (arith, h, parts.0))
        at false c is_b is_c none = let h = from_test f.0 e.0 is_b in inl (omega (arith, h, parts.0))

    next : (b : Bool) → is_next_to (f ∷ fs) e.0 ≡ b → StartsAt n (f ∷ fs) e (cond b (entries_below e.0 (f ∷ fs) ++ e ∷ new) (e ∷ new))
    next true is = touching (nat_lt f.0 e.0) refl
    next false is = AtNew new refl (apart is)

filter_in : (blocks : Blocks) (test : ℕ → Bool) (ps : List (ℕ × EntryPlace)) → filter (λ (e : Entry). test e.0) (entries_in blocks ps) ≡ entries_in blocks (filter (λ (p : ℕ × EntryPlace). test p.0) ps)
filter_in blocks test [] = refl
filter_in blocks test (p ∷ ps) = at (test p.0) (filter_in blocks test ps)
  where
    at : (b : Bool) → filter (λ (e : Entry). test e.0) (entries_in blocks ps) ≡ entries_in blocks (filter (λ (q : ℕ × EntryPlace). test q.0) ps)
        → cond b (entry_in blocks p ∷ filter (λ (e : Entry). test e.0) (entries_in blocks ps)) (filter (λ (e : Entry). test e.0) (entries_in blocks ps)) ≡ entries_in blocks (cond b (p ∷ filter (λ (q : ℕ × EntryPlace). test q.0) ps) (filter (λ (q : ℕ × EntryPlace). test q.0) ps))
    at true rest = ap (λ es. entry_in blocks p ∷ es) rest
    at false rest = rest

below_in : (blocks : Blocks) (s : ℕ) (xs : List (ℕ × EntryPlace)) → entries_in blocks (entries_below s xs) ≡ entries_below s (entries_in blocks xs)
below_in blocks s xs = sym (filter_in blocks (λ i. nat_lt i s) xs)

-- new entries
pub replayed_entries : (blocks : Blocks) (left left' : ℕ → ℕ → Bool) (marks marks' : Marks) (held : List Entry) (older newer : List (ℕ × EntryPlace)) (seq : ℕ) (e : ℕ × EntryPlace) (new : List (ℕ × EntryPlace))
    → ((n i : ℕ) → left n i ≡ false → left' n i ≡ false) → ((i : ℕ) → e.0 ≤ i → left' seq i ≡ false) → Each (IsInFile Append seq) (e ∷ new) → are_consecutive_from e.0 (e ∷ new) ≡ true
    → marks'.cleaned ≡ marks.cleaned → (marks'.compacted ≡ false → (marks.compacted ≡ false) × (leaves_hole newer e.0 ≡ false)) → Each (λ o. rank_of o.1 ≤ seq + 1) newer
    → GroupReplayed blocks left marks held older newer → GroupReplayed blocks left' marks' held (entries_below e.0 older) (with_entries newer (e ∷ new))
replayed_entries blocks left left' marks marks' held older newer seq e new less set placed run_new cleaned compacted ranks before = record {
  older_run = (before.older_run.0, run_below before.older_run.0 e.0 older before.older_run.1);
  newer_run = run_with before.newer_run.0 newer e new before.newer_run.1 run_new;
  older_stand = each_filter P' (λ x. nat_lt x.0 e.0) older (each_map P P' older step before.older_stand);
  newer_stand = over P' (each_map P P' newer step before.newer_stand) new_stand;
  older_rewritten = each_filter (λ x. is_rewritten x.1 ≡ true) (λ x. nat_lt x.0 e.0) older before.older_rewritten;
  newer_appended = over (λ x. is_rewritten x.1 ≡ false) before.newer_appended (each_map (IsInFile Append seq) (λ x. is_rewritten x.1 ≡ false) (e ∷ new) (λ x is. in_not_rewritten seq x is) placed);
  ordered = in_order (is_next_to newer e.0);
  below = below_new (starts_at before.newer_run.0 newer e new before.newer_run.1);
  whole = λ c d. all_new (sym cleaned ∙ c) (compacted d) (starts_at before.newer_run.0 newer e new before.newer_run.1);
}
  where
    P : ℕ × EntryPlace → Type 0
    P = EntryStands blocks left marks held

    P' : ℕ × EntryPlace → Type 0
    P' = EntryStands blocks left' marks' held

    step : (x : ℕ × EntryPlace) → P x → P' x
    step x is = entry_less left left' marks marks' held (entry_in blocks x) x.1.block less cleaned is

    new_stand : Each P' (e ∷ new)
    new_stand = each_of P' (e ∷ new) (λ x has. in_stands left' marks' held seq (entry_in blocks x) x (each_contained (IsInFile Append seq) (e ∷ new) x placed has) (λ i le. set i (omega (arith, (within e.0 (e ∷ new) x run_new has).0, le))))

    over : (Q : ℕ × EntryPlace → Type 0) → Each Q newer → Each Q (e ∷ new) → Each Q (with_entries newer (e ∷ new))
    over Q old fresh = at (is_next_to newer e.0)
      where
        at : (b : Bool) → Each Q (cond b (entries_below e.0 newer ++ e ∷ new) (e ∷ new))
        at true = each_append Q (entries_below e.0 newer) (e ∷ new) (each_filter Q (λ x. nat_lt x.0 e.0) newer old) fresh
        at false = fresh

    new_order : AreInFileOrder (seq + 1) (e ∷ new)
    new_order = order_same (seq + 1) (e ∷ new) (each_map (IsInFile Append seq) (λ n. rank_of n.1 ≡ seq + 1) (e ∷ new) (λ n is. in_rank seq n is) placed)

    in_order : (b : Bool) → AreInFileOrder 0 (cond b (entries_below e.0 newer ++ e ∷ new) (e ∷ new))
    in_order true = order_append 0 (seq + 1) (entries_below e.0 newer) (e ∷ new) (omega arith) (order_filter 0 (λ x. nat_lt x.0 e.0) newer before.ordered) (each_filter (λ o. rank_of o.1 ≤ seq + 1) (λ x. nat_lt x.0 e.0) newer ranks) new_order
    in_order false = order_lower 0 (seq + 1) (e ∷ new) (omega arith) new_order

    n : ℕ
    n = before.newer_run.0

    below_new : StartsAt n newer e (with_entries newer (e ∷ new)) → IsLeftBelow blocks held (entries_below e.0 older) (with_entries newer (e ∷ new))
    below_new (AtNew rest is apart) = subst (IsLeftBelow blocks held (entries_below e.0 older)) (sym is) (below_each e.0 older)
    below_new (AtOld f fs rest old low is) = subst (IsLeftBelow blocks held (entries_below e.0 older)) (sym is) (each_filter (λ p. p.0 < f.0) (λ x. nat_lt x.0 e.0) older (subst (IsLeftBelow blocks held older) old before.below))

    cut : (t : ℕ) → entries_in blocks older ≡ entries_below t held → entries_in blocks (entries_below e.0 older) ≡ entries_below e.0 (entries_below t held)
    cut t is = below_in blocks e.0 older ∙ ap (entries_below e.0) is

    from_new : marks.cleaned ≡ false → (marks.compacted ≡ false) × (leaves_hole newer e.0 ≡ false) → ((e.0 ≤ n) ⊎ (n + length newer < e.0)) → (old : List (ℕ × EntryPlace)) → newer ≡ old → entries_in blocks (entries_below e.0 older) ≡ entries_below e.0 held
    from_new c d apart [] none = below_in blocks e.0 older ∙ ap (entries_below e.0) (subst (IsAllLeft blocks held older) none (before.whole c d.0))
    from_new c d apart (f ∷ fs) some =
        let at = (consecutive_parts n f fs (subst (λ xs. are_consecutive_from n xs ≡ true) some before.newer_run.1)).0 in
        let high = high_test (f.0 + length (f ∷ fs)) e.0 (subst (λ xs. leaves_hole xs e.0 ≡ false) some d.1) in
        let start : e.0 ≤ f.0 = ⊎_elim (λ low. omega (arith, low, at)) (λ past. absurd (omega (arith, past, high, at, ap length some))) apart in
        cut f.0 (subst (IsAllLeft blocks held older) some (before.whole c d.0)) ∙ below_lower e.0 f.0 held start

    all_new : marks.cleaned ≡ false → (marks.compacted ≡ false) × (leaves_hole newer e.0 ≡ false) → StartsAt n newer e (with_entries newer (e ∷ new)) → IsAllLeft blocks held (entries_below e.0 older) (with_entries newer (e ∷ new))
    all_new c d (AtNew rest is apart) = subst (IsAllLeft blocks held (entries_below e.0 older)) (sym is) (from_new c d apart newer refl)
    all_new c d (AtOld f fs rest old low is) =
        subst (IsAllLeft blocks held (entries_below e.0 older)) (sym is)
        (cut f.0 (subst (IsAllLeft blocks held older) old (before.whole c d.0)) ∙ below_again e.0 f.0 held (omega (arith, low)))

-- other changes
pub replayed_less : (blocks : Blocks) (left left' : ℕ → ℕ → Bool) (marks marks' : Marks) (held : List Entry) (older newer : List (ℕ × EntryPlace)) → ((n i : ℕ) → left n i ≡ false → left' n i ≡ false) → marks'.cleaned ≡ marks.cleaned → (marks'.compacted ≡ false → marks.compacted ≡ false)
    → GroupReplayed blocks left marks held older newer → GroupReplayed blocks left' marks' held older newer
replayed_less blocks left left' marks marks' held older newer less cleaned compacted before = record {
  older_run = before.older_run;
  newer_run = before.newer_run;
  older_stand = each_map (EntryStands blocks left marks held) (EntryStands blocks left' marks' held) older (λ x is. entry_less left left' marks marks' held (entry_in blocks x) x.1.block less cleaned is) before.older_stand;
  newer_stand = each_map (EntryStands blocks left marks held) (EntryStands blocks left' marks' held) newer (λ x is. entry_less left left' marks marks' held (entry_in blocks x) x.1.block less cleaned is) before.newer_stand;
  older_rewritten = before.older_rewritten;
  newer_appended = before.newer_appended;
  ordered = before.ordered;
  below = before.below;
  whole = λ c d. before.whole (sym cleaned ∙ c) (compacted d);
}

pub replayed_clean : (blocks : Blocks) (left : ℕ → ℕ → Bool) (marks : Marks) (held : List Entry) → marks.cleaned ≡ true → GroupReplayed blocks left marks held [] []
replayed_clean blocks left marks held cleaned = record {
  older_run = (0, refl);
  newer_run = (0, refl);
  older_stand = tt;
  newer_stand = tt;
  older_rewritten = tt;
  newer_appended = tt;
  ordered = tt;
  below = λ o has. tt;
  whole = λ c d. absurd (false≢true (sym c ∙ cleaned));
}

from_kept : (a b : ℕ) → a ≤ b → nat_le a b ≡ true
from_kept a b is = grind (arith, nat_tests)

-- what a compaction leaves of consecutive entries starts no lower
first_from : (n index : ℕ) (xs : List (ℕ × EntryPlace)) (f : ℕ × EntryPlace) (fs : List (ℕ × EntryPlace)) → are_consecutive_from n xs ≡ true → filter (λ e. nat_le index e.0) xs ≡ f ∷ fs → n ≤ f.0
first_from n index xs f fs run is =
    (within n xs f run (Contains-unfilter (λ (e : ℕ × EntryPlace). nat_le index e.0) xs f (subst (λ ys. Contains ys f) (sym is) (Contains-head f fs))).0).0

pub replayed_compaction : (blocks : Blocks) (left left' : ℕ → ℕ → Bool) (marks marks' : Marks) (held : List Entry) (index : ℕ) (older newer : List (ℕ × EntryPlace)) → ((n i : ℕ) → left n i ≡ false → left' n i ≡ false) → marks'.cleaned ≡ marks.cleaned → marks'.compacted ≡ true
    → GroupReplayed blocks left marks held older newer → GroupReplayed blocks left' marks' held (filter (λ e. nat_le index e.0) older) (filter (λ e. nat_le index e.0) newer)
replayed_compaction blocks left left' marks marks' held index older newer less cleaned compacted before = record {
  older_run = run_from before.older_run.0 index older before.older_run.1;
  newer_run = run_from before.newer_run.0 index newer before.newer_run.1;
  older_stand = each_filter P' keeps older (each_map P P' older step before.older_stand);
  newer_stand = each_filter P' keeps newer (each_map P P' newer step before.newer_stand);
  older_rewritten = each_filter (λ x. is_rewritten x.1 ≡ true) keeps older before.older_rewritten;
  newer_appended = each_filter (λ x. is_rewritten x.1 ≡ false) keeps newer before.newer_appended;
  ordered = order_filter 0 keeps newer before.ordered;
  below = by (filter keeps newer) refl newer refl before.below;
  whole = λ c d. absurd (false≢true (sym d ∙ compacted));
}
  where
    P : ℕ × EntryPlace → Type 0
    P = EntryStands blocks left marks held

    P' : ℕ × EntryPlace → Type 0
    P' = EntryStands blocks left' marks' held

    step : (x : ℕ × EntryPlace) → P x → P' x
    step x is = entry_less left left' marks marks' held (entry_in blocks x) x.1.block less cleaned is

    keeps : ℕ × EntryPlace → Bool
    keeps e = nat_le index e.0

    kept_in : (o : Entry) → index ≤ o.0 → Contains (entries_in blocks older) o → Contains (entries_in blocks (filter keeps older)) o
    kept_in o le has = subst (λ xs. Contains xs o) (filter_in blocks (nat_le index) older) (Contains-filter (λ (e : Entry). nat_le index e.0) (entries_in blocks older) o has (from_kept index o.0 le))

    at_least : (p : ℕ × EntryPlace) → Contains (filter keeps older) p → (index ≤ p.0) × Contains older p
    at_least p has = let found = Contains-unfilter keeps older p has in (leb-true index p.0 found.1, found.0)

    by : (after : List (ℕ × EntryPlace)) → filter keeps newer ≡ after → (old : List (ℕ × EntryPlace)) → newer ≡ old → IsLeftBelow blocks held older newer → IsLeftBelow blocks held (filter keeps older) (filter keeps newer)
    by [] none [] is_old is =
        subst (IsLeftBelow blocks held (filter keeps older)) (sym none)
        (λ o has. each_of (λ p. p.0 ≤ o.0 → Contains (entries_in blocks (filter keeps older)) o) (filter keeps older)
        (λ p in_left le. let found = at_least p in_left in
        kept_in o (omega (arith, found.0, le)) (each_contained (λ (q : ℕ × EntryPlace). q.0 ≤ o.0 → Contains (entries_in blocks older) o) older p (subst (IsLeftBelow blocks held older) is_old is o has) found.1 le)))
    by [] none (f ∷ fs) is_old is =
        subst (IsLeftBelow blocks held (filter keeps older)) (sym none)
        (λ o has. each_of (λ p. p.0 ≤ o.0 → Contains (entries_in blocks (filter keeps older)) o) (filter keeps older)
        (λ p in_left le. let found = at_least p in_left in
        let low = each_contained (λ (q : ℕ × EntryPlace). q.0 < f.0) older p (subst (IsLeftBelow blocks held older) is_old is) found.1 in
        absurd (gone f fs is_old (omega (arith, found.0, low)))))
      where
        -- the first entry is above the index, so something is left
        gone : (g : ℕ × EntryPlace) (gs : List (ℕ × EntryPlace)) → newer ≡ g ∷ gs → index ≤ g.0 → ⊥
        gone g gs is le =
            let still = Contains-filter keeps newer g (subst (λ xs. Contains xs g) (sym is) (Contains-head g gs)) (from_kept index g.0 le) in
            omega (arith, (subst (λ xs. Contains xs g) none still).1)
    by (h ∷ hs) some [] is_old is = absurd (nothing (subst (λ xs. filter keeps xs ≡ h ∷ hs) is_old some))
      where
        nothing : [] ≡ h ∷ hs → ⊥
        nothing is = let l : length {A = ℕ × EntryPlace} [] ≡ length (h ∷ hs) = ap length is in omega (arith, l)
    by (h ∷ hs) some (f ∷ fs) is_old is =
        let at = (consecutive_parts before.newer_run.0 f fs (subst (λ xs. are_consecutive_from before.newer_run.0 xs ≡ true) is_old before.newer_run.1)).0 in
        let low = first_from before.newer_run.0 index newer h hs before.newer_run.1 some in
        subst (IsLeftBelow blocks held (filter keeps older)) (sym some)
        (each_filter (λ p. p.0 < h.0) keeps older (each_map (λ (p : ℕ × EntryPlace). p.0 < f.0) (λ (p : ℕ × EntryPlace). p.0 < h.0) older (λ p lt. omega (arith, lt, at, low)) (subst (IsLeftBelow blocks held older) is_old is)))

-- before the first batch
pub replayed_none : (blocks : Blocks) (left : ℕ → ℕ → Bool) (marks : Marks) (held : List Entry) (older : List (ℕ × EntryPlace)) → entries_in blocks older ≡ held → are_consecutive held ≡ true → Each (λ e. is_rewritten e.1 ≡ true) older → marks.cleaned ≡ false
    → GroupReplayed blocks left marks held older []
replayed_none blocks left marks held older same run rewritten clean = record {
  older_run = run_of older refl;
  newer_run = (0, refl);
  older_stand = each_of (EntryStands blocks left marks held) older (λ e has. stands_there left marks held (entry_in blocks e) e.1.block (each_contained (λ x. is_rewritten x.1 ≡ true) older e rewritten has) (subst (λ xs. Contains xs (entry_in blocks e)) same (contains_in blocks older e has)) clean);
  newer_stand = tt;
  older_rewritten = rewritten;
  newer_appended = tt;
  ordered = tt;
  below = λ o has. each_of (λ p. p.0 ≤ o.0 → Contains (entries_in blocks older) o) older (λ p in_older le. subst (λ xs. Contains xs o) (sym same) has);
  whole = λ c d. same;
}
  where
    run_of : (xs : List (ℕ × EntryPlace)) → older ≡ xs → (n : ℕ) × (are_consecutive_from n older ≡ true)
    run_of [] is = (0, subst (λ ys. are_consecutive_from 0 ys ≡ true) (sym is) refl)
    run_of (n ∷ others) is = (n.0, subst (λ ys. are_consecutive_from n.0 ys ≡ true) (sym is) (placed_run blocks held older same run n others is))

-- the end

index_in : (blocks : Blocks) (n : ℕ) (es : List (ℕ × EntryPlace)) → are_consecutive_from n es ≡ true → are_consecutive (entries_in blocks es) ≡ true
index_in blocks n [] run = refl
index_in blocks n (e ∷ es) run =
    let parts = consecutive_parts n e es run in
    go e.0 (e ∷ es) (subst (λ k. are_consecutive_from k (e ∷ es) ≡ true) (sym parts.0) run)
  where
    go : (k : ℕ) (xs : List (ℕ × EntryPlace)) → are_consecutive_from k xs ≡ true → are_consecutive_from k (entries_in blocks xs) ≡ true
    go k [] is = refl
    go k (x ∷ xs) is = let both = and_parts (eqb x.0 k) (are_consecutive_from (k + 1) xs) is in ap (λ b. b && are_consecutive_from (k + 1) (entries_in blocks xs)) both.0 ∙ go (k + 1) xs both.1

pub replayed_end : (blocks : Blocks) (left : ℕ → ℕ → Bool) (marks : Marks) (held : List Entry) (older newer : List (ℕ × EntryPlace)) → GroupReplayed blocks left marks held older newer → GroupStands blocks left marks held (with_entries older newer)
replayed_end blocks left marks held older [] before = record {
  ordered = order_same 0 older (no_rank older before.older_rewritten);
  each = before.older_stand;
  behind = behind older refl;
  before = λ c d. first older refl (before.whole c d);
}
  where
    behind : (xs : List (ℕ × EntryPlace)) → older ≡ xs → HasNoneBehind older held
    behind [] is = subst (λ ys. HasNoneBehind ys held) (sym is) tt
    behind (f ∷ fs) is =
        let at = consecutive_parts before.older_run.0 f fs (subst (λ ys. are_consecutive_from before.older_run.0 ys ≡ true) is before.older_run.1) in
        subst (λ ys. HasNoneBehind ys held) (sym is)
        (λ all. each_of (λ o. o.0 < f.0 + length (f ∷ fs)) held
        (λ o has. ⊎_elim
        (λ le.
        let there = each_contained (λ (p : ℕ × EntryPlace). p.0 ≤ o.0 → Contains (entries_in blocks older) o) older f (before.below o has) (subst (λ ys. Contains ys f) (sym is) (Contains-head f fs)) (leb-true f.0 o.0 le) in
        let found = placed_of blocks older o there in
        let high = (within before.older_run.0 older found.0 before.older_run.1 found.1).1 in
        let same : found.0.0 ≡ o.0 = ap (λ (e : Entry). e.0) found.2 in
        omega (arith, high, same, at.0, ap length is))
        (λ gt. let h = from_test f.0 o.0 gt in omega (arith, h))
        (cases_Bool (nat_le f.0 o.0))))

    first : (xs : List (ℕ × EntryPlace)) → older ≡ xs → entries_in blocks older ≡ held → HasNoneBefore older held
    first [] is same = subst (λ ys. HasNoneBefore ys held) (sym is) (sym same ∙ ap (entries_in blocks) is)
    first (f ∷ fs) is same =
        let at = consecutive_parts before.older_run.0 f fs (subst (λ ys. are_consecutive_from before.older_run.0 ys ≡ true) is before.older_run.1) in
        subst (λ ys. HasNoneBefore ys held) (sym is)
        (each_of (λ o. o.0 + 1 ≡ f.0 → ⊥) held
        (λ o has next.
        let found = placed_of blocks older o (subst (λ ys. Contains ys o) (sym same) has) in
        let low = (within before.older_run.0 older found.0 before.older_run.1 found.1).0 in
        let index : found.0.0 ≡ o.0 = ap (λ (e : Entry). e.0) found.2 in
        omega (arith, low, index, at.0, next)))
replayed_end blocks left marks held older (f ∷ fs) before = next (is_next_to older f.0) refl
  where
    P : ℕ × EntryPlace → Type 0
    P = EntryStands blocks left marks held

    not_rewritten : is_rewritten f.1 ≡ false
    not_rewritten = before.newer_appended.0

    -- an entry of the Rewrite queue below the first is left
    is_left : marks.cleaned ≡ false → marks.compacted ≡ false → (o : Entry) → Contains held o → o.0 < f.0 → Contains (entries_in blocks older) o
    is_left c d o has low = subst (λ xs. Contains xs o) (sym (before.whole c d)) (Contains-filter (λ (e : Entry). nat_lt e.0 f.0) held o has (low_test o.0 f.0 low))

    touching : (xs : List (ℕ × EntryPlace)) → older ≡ xs → is_next_to older f.0 ≡ true → marks.cleaned ≡ false → marks.compacted ≡ false → HasNoneBefore (entries_below f.0 older ++ f ∷ fs) held
    touching [] is next c d = absurd (false≢true (subst (λ ys. is_next_to ys f.0 ≡ true) is next))
    touching (p ∷ ps) is next c d =
        let at = consecutive_parts before.older_run.0 p ps (subst (λ ys. are_consecutive_from before.older_run.0 ys ≡ true) is before.older_run.1) in
        let low = each_contained (λ (q : ℕ × EntryPlace). q.0 < f.0) older p before.below (subst (λ ys. Contains ys p) (sym is) (Contains-head p ps)) in
        subst (λ ys. HasNoneBefore (entries_below f.0 ys ++ f ∷ fs) held) (sym is)
        (subst (λ ys. HasNoneBefore (ys ++ f ∷ fs) held) (sym (filter_yes (λ (y : ℕ × EntryPlace). nat_lt y.0 f.0) p ps (low_test p.0 f.0 low)))
        (each_of (λ o. o.0 + 1 ≡ p.0 → ⊥) held
        (λ o has one.
        let found = placed_of blocks older o (is_left c d o has (omega (arith, one, low))) in
        let least = (within before.older_run.0 older found.0 before.older_run.1 found.1).0 in
        let index : found.0.0 ≡ o.0 = ap (λ (e : Entry). e.0) found.2 in
        omega (arith, least, index, at.0, one))))

    apart : is_next_to older f.0 ≡ false → marks.cleaned ≡ false → marks.compacted ≡ false → HasNoneBefore (f ∷ fs) held
    apart alone c d =
        each_of (λ o. o.0 + 1 ≡ f.0 → ⊥) held
        (λ o has one.
        let touches = next_to (entries_in blocks older) o f.0 (index_in blocks before.older_run.0 older before.older_run.1) (is_left c d o has (omega (arith, one))) one in
        false≢true (sym alone ∙ sym (placed_next blocks older f.0) ∙ touches))

    next : (b : Bool) → is_next_to older f.0 ≡ b → GroupStands blocks left marks held (cond b (entries_below f.0 older ++ f ∷ fs) (f ∷ fs))
    next true is = record {
      ordered = order_append 0 0 (entries_below f.0 older) (f ∷ fs) (omega arith) (order_filter 0 (λ x. nat_lt x.0 f.0) older (order_same 0 older (no_rank older before.older_rewritten)))
          (each_filter (λ e. rank_of e.1 ≤ 0) (λ x. nat_lt x.0 f.0) older (each_map (λ e. rank_of e.1 ≡ 0) (λ e. rank_of e.1 ≤ 0) older (λ e r. omega (arith, r)) (no_rank older before.older_rewritten))) before.ordered;
      each = each_append P (entries_below f.0 older) (f ∷ fs) (each_filter P (λ x. nat_lt x.0 f.0) older before.older_stand) before.newer_stand;
      behind = none_behind_appended held (entries_below f.0 older ++ f ∷ fs) (rewritten-append (entries_below f.0 older) f fs not_rewritten);
      before = touching older refl is;
    }
    next false is = record {
      ordered = before.ordered;
      each = before.newer_stand;
      behind = none_behind_appended held (f ∷ fs) (rewritten-append [] f fs not_rewritten);
      before = apart is;
    }
