-- When new entries of a list change nothing of what is recovered of it.
use Rattle.std.proofs.Common.{◌≡◌, ℕ, ◌<◌, ◌≤◌, Bool, true, false, cond, nat_le, nat_lt, ◌⊎◌, List, [], ◌∷◌, ◌++◌, append-nil, filter, refl, sym, ◌∙◌, ap, subst, ⊎_elim, arith}
use Rattle.std.specs.List.{All, Contains}
use Rattle.std.proofs.lemmas.Bool.{false≢true, le-leb, leb-true}
use Rattle.std.proofs.lemmas.List.Elements.{All-contains, filter-append}
use Rattle.raft_records.specs.Item.{Entry}
use Rattle.raft_records.specs.Contents.{is_next_to, entries_below, with_entries}
use Rattle.raft_recovery_laws.proofs.KeptLemmas.{passing, joined, joined_same, filter_comm}
use Rattle.raft_recovery_laws.proofs.AppendLemmas.{no_before_filter}
use Rattle.raft_recovery_laws.proofs.ListLemmas.{has_before}
use Rattle.raft_recovery_laws.proofs.AscendingLemmas.{IsAscending, IsAscending-filter, Contains-filter, Contains-unfilter, empty_unless, ascending_same, above_start, below_and_above}

-- of new entries: each that the test keeps stands in what is joined, each that it keeps there is
-- below the first of them or among them, and where one is below they touch the old list
pub record Rewrites (p : ℕ → Bool) (old now : List Entry) (e : Entry) (es : List Entry) : Type 0 where
  pub held : All (λ n. p n.0 ≡ true → Contains now n) (e ∷ es)
  pub covered : All (λ o. p o.0 ≡ true → (o.0 < e.0) ⊎ Contains (e ∷ es) o) now
  pub touching : All (λ o. p o.0 ≡ true → o.0 < e.0 → is_next_to old e.0 ≡ true) now

-- the old list is what of it stands below them, and those of them that are passing
new_is_above : (p : ℕ → Bool) (old now : List Entry) (e : Entry) (es : List Entry) → IsAscending 0 old → IsAscending e.0 (e ∷ es) → Rewrites p old now e es → passing p now ≡ passing p old
    → passing p (e ∷ es) ≡ filter (λ o. nat_le e.0 o.0) (passing p old)
new_is_above p old now e es up_old up_new new same =
    let keeps = λ (x : Entry). p x.0 in
    let above = λ (x : Entry). nat_le e.0 x.0 in
    ascending_same 0 _ _ (IsAscending-filter keeps 0 (e ∷ es) (omega arith, up_new.1)) (IsAscending-filter above 0 (passing p old) (IsAscending-filter keeps 0 old up_old))
    (λ n is.
    let found = Contains-unfilter keeps (e ∷ es) n is in
    let at : e.0 ≤ n.0 = All-contains (λ (x : Entry). e.0 ≤ x.0) (e ∷ es) n (above_start e.0 (e ∷ es) up_new) found.0 in
    let there : Contains now n = All-contains (λ (x : Entry). p x.0 ≡ true → Contains now x) (e ∷ es) n new.held found.0 found.1 in
    Contains-filter above (passing p old) n (subst (λ xs. Contains xs n) same (Contains-filter keeps now n there found.1)) (le-leb e.0 n.0 at))
    (λ o is.
    let found = Contains-unfilter above (passing p old) o is in
    let there = Contains-unfilter keeps now o (subst (λ xs. Contains xs o) (sym same) found.0) in
    let at : e.0 ≤ o.0 = leb-true e.0 o.0 found.1 in
    ⊎_elim
    (λ below. absurd (omega arith))
    (λ among. Contains-filter keeps (e ∷ es) o among there.1)
    (All-contains (λ (x : Entry). p x.0 ≡ true → (x.0 < e.0) ⊎ Contains (e ∷ es) x) now o new.covered there.0 there.1))

-- nothing of the old list stands below them where they don't touch it
none_below_apart : (p : ℕ → Bool) (old now : List Entry) (e : Entry) (es : List Entry) → Rewrites p old now e es → passing p now ≡ passing p old → is_next_to old e.0 ≡ false → filter (λ o. nat_lt o.0 e.0) (passing p old) ≡ []
none_below_apart p old now e es new same apart =
    empty_unless (filter (λ o. nat_lt o.0 e.0) (passing p old))
    (λ o is.
    let found = Contains-unfilter (λ (x : Entry). nat_lt x.0 e.0) (passing p old) o is in
    let there = Contains-unfilter (λ (x : Entry). p x.0) now o (subst (λ xs. Contains xs o) (sym same) found.0) in
    false≢true (sym apart ∙ All-contains (λ (x : Entry). p x.0 ≡ true → x.0 < e.0 → is_next_to old e.0 ≡ true) now o new.touching there.0 there.1 (leb-true _ _ found.1)))

-- what the test keeps of the list with the new entries
passing-with_entries : (p : ℕ → Bool) (old : List Entry) (e : Entry) (es : List Entry) (b : Bool) → is_next_to old e.0 ≡ b → passing p (with_entries old (e ∷ es)) ≡ cond b (filter (λ o. nat_lt o.0 e.0) (passing p old) ++ passing p (e ∷ es)) (passing p (e ∷ es))
passing-with_entries p old e es true next =
    ap (λ b. passing p (cond b (entries_below e.0 old ++ (e ∷ es)) (e ∷ es))) next ∙ filter-append (λ x. p x.0) (entries_below e.0 old) (e ∷ es) ∙ ap (λ xs. xs ++ passing p (e ∷ es)) (filter_comm (λ x. p x.0) (λ o. nat_lt o.0 e.0) old)
passing-with_entries p old e es false next = ap (λ b. passing p (cond b (entries_below e.0 old ++ (e ∷ es)) (e ∷ es))) next

same_list : (p : ℕ → Bool) (old now : List Entry) (e : Entry) (es : List Entry) → IsAscending 0 old → IsAscending e.0 (e ∷ es) → Rewrites p old now e es → passing p now ≡ passing p old → (b : Bool) → is_next_to old e.0 ≡ b
    → cond b (filter (λ o. nat_lt o.0 e.0) (passing p old) ++ passing p (e ∷ es)) (passing p (e ∷ es)) ≡ passing p old
same_list p old now e es up_old up_new new same true next =
    ap (λ xs. filter (λ o. nat_lt o.0 e.0) (passing p old) ++ xs) (new_is_above p old now e es up_old up_new new same) ∙ below_and_above 0 e.0 (passing p old) (IsAscending-filter (λ x. p x.0) 0 old up_old)
same_list p old now e es up_old up_new new same false next =
    new_is_above p old now e es up_old up_new new same
    ∙ ap (λ xs. xs ++ filter (λ o. nat_le e.0 o.0) (passing p old)) (sym (none_below_apart p old now e es new same next))
    ∙ below_and_above 0 e.0 (passing p old) (IsAscending-filter (λ x. p x.0) 0 old up_old)

-- no new entry is passing where nothing of the old list is in what is joined
none_is_kept : (p : ℕ → Bool) (old now : List Entry) (e : Entry) (es : List Entry) → Rewrites p old now e es → passing p now ≡ [] → passing p (e ∷ es) ≡ []
none_is_kept p old now e es new nothing =
    empty_unless (passing p (e ∷ es))
    (λ n is.
    let found = Contains-unfilter (λ (x : Entry). p x.0) (e ∷ es) n is in
    let there : Contains now n = All-contains (λ (x : Entry). p x.0 ≡ true → Contains now x) (e ∷ es) n new.held found.0 found.1 in
    let in_nothing : Contains [] n = subst (λ xs. Contains xs n) nothing (Contains-filter (λ x. p x.0) now n there found.1) in
    omega (arith, in_nothing.1))

still_apart : (p : ℕ → Bool) (old : List Entry) (e : Entry) (es : List Entry) (s : ℕ) (b : Bool) → passing p (e ∷ es) ≡ [] → has_before s (passing p old) ≡ false
    → has_before s (cond b (filter (λ o. nat_lt o.0 e.0) (passing p old) ++ passing p (e ∷ es)) (passing p (e ∷ es))) ≡ false
still_apart p old e es s true none apart =
    ap (λ xs. has_before s (filter (λ o. nat_lt o.0 e.0) (passing p old) ++ xs)) none ∙ ap (has_before s) (append-nil _) ∙ no_before_filter (λ o. nat_lt o.0 e.0) s (passing p old) apart
still_apart p old e es s false none apart = ap (has_before s) none

-- new entries of a list change nothing of what is joined
pub joined-rewritten : (p : ℕ → Bool) (old a : List Entry) (e : Entry) (es : List Entry) → IsAscending 0 old → IsAscending e.0 (e ∷ es) → passing p (passing p old) ≡ passing p old → passing p a ≡ [] → Rewrites p old (joined (passing p old) a) e es
    → joined (passing p (with_entries old (e ∷ es))) a ≡ joined (passing p old) a
joined-rewritten p old a e es up_old up_new all none new =
    joined_same p (passing p old) (passing p (with_entries old (e ∷ es))) a all none
    (λ same. passing-with_entries p old e es (is_next_to old e.0) refl ∙ same_list p old _ e es up_old up_new new same (is_next_to old e.0) refl)
    (λ _ nothing s apart. ap (has_before s) (passing-with_entries p old e es (is_next_to old e.0) refl) ∙ still_apart p old e es s (is_next_to old e.0) (none_is_kept p old _ e es new nothing) apart)
