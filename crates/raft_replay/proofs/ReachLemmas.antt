-- What chunks of changes of one group's entries leave that were made apart.
use Rattle.std.proofs.Common.{◌≡◌, ℕ, ◌+◌, ◌<◌, ◌≤◌, Bool, true, false, cond, ltb, leb, ◌||◌, List, [], ◌∷◌, ◌++◌, length, filter, fold, refl, sym, ◌∙◌, ap, subst, inl, inr, arith, append_assoc, append-nil, length-append}
use Rattle.std.specs.List.{AllByRecursion as Each}
use Rattle.std.proofs.lemmas.Bool.{false≢true, ltb-true, ltb-false, leb-true, le-leb, cases_Bool, or_right, or_left, or_from, or_parts, cases_lt}
use Rattle.std.proofs.lemmas.List.Elements.{filter-append}
use Rattle.std.proofs.lemmas.List.Sums.{fold-append}
use Rattle.raft_records.specs.Item.{Entry}
use Rattle.raft_records.specs.Contents.{entries_below}
use Rattle.raft_recovery_laws.proofs.ListLemmas.{Runs, From, has_before, put_on, filter_all, below_none, runs_from, runs_append, runs_below, before_in_run, no_before_run, run_before, length-below, each_weaker, put_on-before, put_on-apart, each_left}
use Rattle.raft_recovery_laws.proofs.AppendLemmas.{EntryChange, Stay, Place, Empty, Cut, IsRun, Apart, after_change, after_changes, kept_by, kept, kept-cons, kept_by-stay, kept_by-empty, apart_after_change, apart_from_nothing, before-append, before_apart}

-- entries with consecutive indexes up to an end
abbrev pub RunsTo : ℕ → List Entry → Type 0
RunsTo end xs = (n : ℕ) × Runs n xs × (n + length xs ≡ end)

-- one past the last entry that changes brought, after one more
abbrev pub end_after : ℕ → EntryChange → ℕ
end_after end Stay = end
end_after end (Place e es) = e.0 + length (e ∷ es)
end_after end Empty = end
end_after end (Cut index) = end

-- entries are brought past the end of those brought before them, and no clean comes before that
abbrev pub drops : ℕ → List EntryChange → Bool
drops end [] = false
drops end (Stay ∷ cs) = drops end cs
drops end (Place e es ∷ cs) = ltb end e.0 || drops (e.0 + length (e ∷ es)) cs
drops end (Empty ∷ cs) = false
drops end (Cut index ∷ cs) = drops end cs

above_to : (n c : ℕ) (w : List Entry) → Runs n w → RunsTo (n + length w) (filter (λ e. leb c e.0) w)
above_to n c [] _ = (n, tt, refl)
above_to n c (e ∷ es) (is, runs) = go (leb c e.0) refl (above_to (n + 1) c es runs)
  where
    go : (b : Bool) → leb c e.0 ≡ b → RunsTo (n + 1 + length es) (filter (λ (x : Entry). leb c x.0) es) → RunsTo (n + length (e ∷ es)) (cond b (e ∷ filter (λ (x : Entry). leb c x.0) es) (filter (λ (x : Entry). leb c x.0) es))
    go true low rest =
        let c_low : c ≤ e.0 = leb-true c e.0 low in
        let each : Each (λ (x : Entry). leb c x.0 ≡ true) es = each_weaker (λ (x : Entry). n + 1 ≤ x.0) (λ x. leb c x.0 ≡ true) (λ x from. le-leb c x.0 (omega arith)) es (runs_from (n + 1) es runs) in
        (n, subst (λ xs. Runs n (e ∷ xs)) (sym (filter_all (λ (x : Entry). leb c x.0) es each)) (is, runs), ap (λ (xs : List Entry). n + length (e ∷ xs)) (filter_all (λ (x : Entry). leb c x.0) es each))
    go false high (m, run, end) = (m, run, omega (arith, end))

put_on_to : (n : ℕ) (w : List Entry) (e : Entry) (es : List Entry) → Runs n w → Runs e.0 (e ∷ es) → RunsTo (e.0 + length (e ∷ es)) (put_on w (e ∷ es))
put_on_to n w e es runs run = elim (cases_Bool (has_before e.0 w)) [
  | inl next ↦
      let (low, high) = run_before n e.0 w runs next in
      let len : n + length (entries_below e.0 w) ≡ e.0 = length-below n e.0 w runs (omega (arith, low)) high in
      let all : Runs n (entries_below e.0 w ++ e ∷ es) = runs_append n (entries_below e.0 w) (e ∷ es) (runs_below n e.0 w runs) (subst (λ k. Runs k (e ∷ es)) (sym len) run) in
      subst (RunsTo (e.0 + length (e ∷ es))) (sym (put_on-before w e es next)) (n, all, omega (arith, len, length-append (entries_below e.0 w) (e ∷ es)))
  | inr far ↦ subst (RunsTo (e.0 + length (e ∷ es))) (sym (put_on-apart w e es far)) (e.0, run, refl)
]

-- entries up to an end run up to the next after a change
pub change_to : (end : ℕ) (xs : List Entry) (c : EntryChange) → IsRun c → RunsTo end xs → RunsTo (end_after end c) (after_change xs c)
change_to end xs Stay _ to = to
change_to end xs (Place e es) run (n, runs, is) = put_on_to n xs e es runs run
change_to end xs Empty _ to = (end, tt, omega arith)
change_to end xs (Cut index) _ (n, runs, is) = subst (λ k. RunsTo k (filter (λ e. leb index e.0) xs)) is (above_to n index xs runs)

pub changes_to : (end : ℕ) (xs : List Entry) (cs : List EntryChange) → Each IsRun cs → RunsTo end xs → RunsTo (fold end_after end cs) (after_changes xs cs)
changes_to end xs [] _ to = to
changes_to end xs (c ∷ cs) (run, runs) to = changes_to (end_after end c) (after_change xs c) cs runs (change_to end xs c run to)

-- one change leaves its part of either
step : (b : Bool) (c : EntryChange) (cs : List EntryChange) (w a : List Entry) → after_change (w ++ a) c ≡ kept_by c w ++ after_change a c
    → after_changes (kept_by c w ++ after_change a c) cs ≡ cond b [] (kept cs (kept_by c w)) ++ after_changes (after_change a c) cs
    → after_changes (w ++ a) (c ∷ cs) ≡ cond b [] (kept (c ∷ cs) w) ++ after_changes a (c ∷ cs)
step b c cs w a both then =
    ap (λ xs. after_changes xs cs) both ∙ then ∙ ap (λ k. cond b [] k ++ after_changes (after_change a c) cs) (sym (kept-cons c cs w))

-- entries that start at their list's end or before stand on what is below them, and on nothing else
place_parts : (end : ℕ) (w a : List Entry) (e : Entry) (es : List Entry) → Apart w a → RunsTo end (w ++ a) → e.0 ≤ end → after_change (w ++ a) (Place e es) ≡ kept_by (Place e es) w ++ after_change a (Place e es)
place_parts end w a e es apart (n, runs, is) within = elim (cases_Bool (has_before e.0 a)) [
  | inl next ↦ put_on-before (w ++ a) e es (before-append e.0 w a ∙ or_right (has_before e.0 w) (has_before e.0 a) next) ∙ ap (λ xs. xs ++ e ∷ es) (filter-append (λ x. ltb x.0 e.0) w a)
      ∙ append_assoc (entries_below e.0 w) (entries_below e.0 a) (e ∷ es) ∙ ap (λ xs. entries_below e.0 w ++ xs) (sym (put_on-before a e es next))
  | inr far ↦ elim (cases_Bool (has_before e.0 w)) [
    | inl touch ↦ put_on-before (w ++ a) e es (before-append e.0 w a ∙ or_left (has_before e.0 w) (has_before e.0 a) touch) ∙ ap (λ xs. xs ++ e ∷ es) (filter-append (λ x. ltb x.0 e.0) w a
        ∙ ap (λ xs. entries_below e.0 w ++ xs) (below_none e.0 a (before_apart e.0 w a apart touch)) ∙ append-nil (entries_below e.0 w)) ∙ ap (λ xs. entries_below e.0 w ++ xs) (sym (put_on-apart a e es far))
    | inr gap ↦
        let none : has_before e.0 (w ++ a) ≡ false = before-append e.0 w a ∙ or_from (has_before e.0 w) (has_before e.0 a) gap far in
        let low : e.0 ≤ n = elim (cases_lt n e.0) [ inl lt ↦ absurd (false≢true (sym none ∙ before_in_run n e.0 (w ++ a) runs lt (omega (arith, is, within)))) | inr ge ↦ ge ] in
        let from : From e.0 w = each_left (λ (x : Entry). e.0 ≤ x.0) w a (each_weaker (λ (x : Entry). n ≤ x.0) (λ x. e.0 ≤ x.0) (λ x f. omega arith) (w ++ a) (runs_from n (w ++ a) runs)) in
        put_on-apart (w ++ a) e es none ∙ sym (ap (λ xs. xs ++ put_on a (e ∷ es)) (below_none e.0 w from) ∙ put_on-apart a e es far)
  ]
]

place_step : (cs : List EntryChange) (w a : List Entry) (e : Entry) (es : List Entry) (end : ℕ) → IsRun (Place e es) → Apart w a → RunsTo end (w ++ a)
    → ((x y : List Entry) → Apart x y → RunsTo (e.0 + length (e ∷ es)) (x ++ y) → after_changes (x ++ y) cs ≡ cond (drops (e.0 + length (e ∷ es)) cs) [] (kept cs x) ++ after_changes y cs)
    → (b : Bool) → ltb end e.0 ≡ b → after_changes (w ++ a) (Place e es ∷ cs) ≡ cond (b || drops (e.0 + length (e ∷ es)) cs) [] (kept (Place e es ∷ cs) w) ++ after_changes a (Place e es ∷ cs)
place_step cs w a e es end run apart (n, run_all, is) rest true past =
    let less : end < e.0 = ltb-true end e.0 past in
    let none : has_before e.0 (w ++ a) ≡ false = no_before_run n e.0 (w ++ a) run_all (omega (arith, is, less)) in
    let alone = or_parts (has_before e.0 w) (has_before e.0 a) (sym (before-append e.0 w a) ∙ none) in
    ap (λ xs. after_changes xs cs) (put_on-apart (w ++ a) e es none ∙ sym (put_on-apart a e es alone.1))
place_step cs w a e es end run apart to rest false within =
    let le : e.0 ≤ end = ltb-false end e.0 within in
    let both = place_parts end w a e es apart to le in
    step (drops (e.0 + length (e ∷ es)) cs) (Place e es) cs w a both
    (rest (kept_by (Place e es) w) (after_change a (Place e es)) (apart_after_change w a (Place e es) run apart) (subst (RunsTo (e.0 + length (e ∷ es))) both (change_to end (w ++ a) (Place e es) run to)))

-- Later changes leave of earlier entries what each of them leaves alone, or nothing.
pub parts_after : (cs : List EntryChange) (w a : List Entry) (end : ℕ) → Each IsRun cs → Apart w a → RunsTo end (w ++ a) → after_changes (w ++ a) cs ≡ cond (drops end cs) [] (kept cs w) ++ after_changes a cs
parts_after [] w a end _ _ _ = ap (λ xs. xs ++ a) (sym (kept_by-stay w))
parts_after (Stay ∷ cs) w a end (_, runs) apart to =
    parts_after cs w a end runs apart to ∙ ap (λ k. cond (drops end cs) [] k ++ after_changes a cs) (sym (kept-cons Stay cs w ∙ ap (kept cs) (kept_by-stay w)))
parts_after (Empty ∷ cs) w a end (_, runs) apart to =
    ap (λ xs. xs ++ after_changes [] cs) (sym (kept-cons Empty cs w ∙ ap (kept cs) (kept_by-empty w)))
parts_after (Cut index ∷ cs) w a end (run, runs) apart to =
    let both = filter-append (λ x. leb index x.0) w a in
    step (drops end cs) (Cut index) cs w a both
    (parts_after cs (kept_by (Cut index) w) (after_change a (Cut index)) end runs (apart_after_change w a (Cut index) run apart) (subst (RunsTo end) both (change_to end (w ++ a) (Cut index) run to)))
parts_after (Place e es ∷ cs) w a end (run, runs) apart to =
    place_step cs w a e es end run apart to (λ x y apart' to'. parts_after cs x y (e.0 + length (e ∷ es)) runs apart' to') (ltb end e.0) refl

-- What changes and then later ones leave.
pub changes_in_two : (cs ds : List EntryChange) → Each IsRun cs → Each IsRun ds
    → after_changes [] (cs ++ ds) ≡ cond (drops (fold end_after 0 cs) ds) [] (kept ds (after_changes [] cs)) ++ after_changes [] ds
changes_in_two cs ds runs later =
    let old = after_changes [] cs in
    let to : RunsTo (fold end_after 0 cs) (old ++ []) = subst (RunsTo (fold end_after 0 cs)) (sym (append-nil old)) (changes_to 0 [] cs runs (0, tt, refl)) in
    fold-append after_change [] cs ds ∙ ap (λ xs. after_changes xs ds) (sym (append-nil old)) ∙ parts_after ds old [] (fold end_after 0 cs) later (apart_from_nothing old) to
