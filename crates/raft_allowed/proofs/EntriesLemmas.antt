-- Entries between bounds, and whether a list takes entries.
use Rattle.std.proofs.Common.{◌≡◌, ℕ, ◌+◌, ◌-◌, ◌<◌, ◌≤◌, Bool, true, false, cond, List, [], ◌∷◌, ◌++◌, length, drop, get_or, Option, Some, None, refl, sym, ◌∙◌, ap, subst, arith}
use Rattle.std.specs.Prelude.{◌^◌, ◌==◌, ◌&&◌, ◌||◌, filter, is_none, nat_le, nat_lt, not, slice_get, Vec}
use Rattle.std.specs.List.{list_any}
use Rattle.std.specs.declared.alloc.Global.{Global}
use Rattle.std.proofs.lemmas.Bool.{le-leb, le-ltb}
use Rattle.std.proofs.lemmas.List.{append-nil, length-map}
use Rattle.std.proofs.Math.ListN.{drop_of_length-le}
use Rattle.raft_base.specs.declared.errors.Fault.TheVariants as fault
use Rattle.raft_records.specs.Contents.{entries_below, is_next_to, with_entries}
use Rattle.raft_records.specs.Item.{Entry}
use Rattle.raft_records.specs.Validity.{are_consecutive_from, entries_refusal, fits_behind}
use Rattle.raft_log_engine.specs.Image.{entries_of}
use Rattle.raft_allowed.specs.Changes.{are_counted_from}
use Rattle.raft_allowed.specs.Held.{is_nil, is_within}
use Rattle.raft_allowed.proofs.LoopLemmas.{ahead}

-- a filter by two tests that agree
filter_same : (p q : ℕ → Bool) → ((n : ℕ) → p n ≡ q n) → (es : List Entry) → filter (λ e. p e.0) es ≡ filter (λ e. q e.0) es
filter_same p q same [] = refl
filter_same p q same (e ∷ es) = ap (λ b. cond b (e ∷ filter (λ x. p x.0) es) (filter (λ x. p x.0) es)) (same e.0) ∙ ap (λ l. cond (q e.0) (e ∷ l) l) (filter_same p q same es)

-- no bounds
pub within_all : (es : List Entry) → filter (λ e. is_within 0 None e.0) es ≡ es
within_all [] = refl
within_all (e ∷ es) = ap (λ b. cond b (e ∷ filter (λ x. is_within 0 None x.0) es) (filter (λ x. is_within 0 None x.0) es)) (le-leb 0 e.0 (omega arith)) ∙ ap (λ l. e ∷ l) (within_all es)

within_below : (start : ℕ) (es : List Entry) → filter (λ e. is_within 0 (Some start) e.0) es ≡ entries_below start es
within_below start es = filter_same (is_within 0 (Some start)) (λ n. nat_lt n start) (λ n. ap (λ b. b && nat_lt n start) (le-leb 0 n (omega arith))) es

within_none : (es : List Entry) → filter (λ e. is_within 0 (Some 0) e.0) es ≡ []
within_none [] = refl
within_none (e ∷ es) = ap (λ b. cond b (e ∷ filter (λ x. is_within 0 (Some 0) x.0) es) (filter (λ x. is_within 0 (Some 0) x.0) es)) (ap (λ b. nat_le 0 e.0 && b) (le-ltb e.0 0 (omega arith)) ∙ and_no (nat_le 0 e.0)) ∙ within_none es
  where
    and_no : (b : Bool) → (b && false) ≡ false
    and_no true = refl
    and_no false = refl

-- entries that begin in a list or right behind it, and others
pub kept_none : (old : List Entry) → with_entries old [] ≡ filter (λ e. is_within 0 None e.0) old ++ []
kept_none old = sym (within_all old) ∙ sym (append-nil (filter (λ e. is_within 0 None e.0) old))

pub kept_below : (old : List Entry) (e : Entry) (es : List Entry) → is_next_to old e.0 ≡ true → with_entries old (e ∷ es) ≡ filter (λ x. is_within 0 (Some e.0) x.0) old ++ (e ∷ es)
kept_below old e es next = ap (λ b. cond b (entries_below e.0 old ++ (e ∷ es)) (e ∷ es)) next ∙ ap (λ l. l ++ (e ∷ es)) (sym (within_below e.0 old))

pub kept_nothing : (old : List Entry) (e : Entry) (es : List Entry) → is_next_to old e.0 ≡ false → with_entries old (e ∷ es) ≡ filter (λ x. is_within 0 (Some 0) x.0) old ++ (e ∷ es)
kept_nothing old e es apart = ap (λ b. cond b (entries_below e.0 old ++ (e ∷ es)) (e ∷ es)) apart ∙ ap (λ l. l ++ (e ∷ es)) (sym (within_none old))

-- counted entries are consecutive, and none has the greatest number
counted_is : (index : ℕ) (es : List Entry) → are_counted_from index es ≡ (not (list_any (λ e. e.0 == 2 ^ 64 - 1) es) && are_consecutive_from index es)
counted_is index [] = refl
counted_is index (e ∷ es) =
    ap (λ b. (not (e.0 == 2 ^ 64 - 1) && e.0 == index) && b) (counted_is (index + 1) es)
    ∙ regroup (e.0 == 2 ^ 64 - 1) (list_any (λ x. x.0 == 2 ^ 64 - 1) es) (e.0 == index) (are_consecutive_from (index + 1) es)
  where
    regroup : (a b c d : Bool) → ((not a && c) && (not b && d)) ≡ (not (a || b) && (c && d))
    regroup true b c d = refl
    regroup false true true d = refl
    regroup false true false d = refl
    regroup false false true d = refl
    regroup false false false d = refl

pub fits_is : (old : List Entry) (e : Entry) (es : List Entry) → is_none (entries_refusal old (e ∷ es)) ≡ (are_counted_from e.0 (e ∷ es) && (is_nil old || is_next_to old e.0))
fits_is old e es =
    by_tests (list_any (λ x. x.0 == 2 ^ 64 - 1) (e ∷ es)) (fits_behind old (e ∷ es))
    ∙ ap (λ b. not (list_any (λ x. x.0 == 2 ^ 64 - 1) (e ∷ es)) && b) (behind old)
    ∙ regroup (not (list_any (λ x. x.0 == 2 ^ 64 - 1) (e ∷ es))) (are_consecutive_from e.0 (e ∷ es)) (is_nil old || is_next_to old e.0)
    ∙ ap (λ b. b && (is_nil old || is_next_to old e.0)) (sym (counted_is e.0 (e ∷ es)))
  where
    by_tests : (a b : Bool) → is_none (cond a (Some fault.Range) (cond b None (Some fault.Gap))) ≡ (not a && b)
    by_tests true b = refl
    by_tests false true = refl
    by_tests false false = refl

    and_yes : (b : Bool) → b ≡ (b && true)
    and_yes true = refl
    and_yes false = refl

    behind : (old : List Entry) → fits_behind old (e ∷ es) ≡ (are_consecutive_from e.0 (e ∷ es) && (is_nil old || is_next_to old e.0))
    behind [] = and_yes (are_consecutive_from e.0 (e ∷ es))
    behind (o ∷ old) = refl

    regroup : (a b c : Bool) → (a && (b && c)) ≡ ((a && b) && c)
    regroup true b c = refl
    regroup false b c = refl

-- Stored entries.

abbrev pub Stored : Type 0
Stored = ℕ × Vec ℕ Global

-- a list with a first element
pub head_some : {X : Type 0} (xs : List X) (x : X) → slice_get xs 0 ≡ Some x → (ys : List X) × (xs ≡ x ∷ ys)
head_some [] x is = cc
head_some (y ∷ ys) x is = (ys, cc)

pub head_none : {X : Type 0} (xs : List X) → slice_get xs 0 ≡ None → xs ≡ []
head_none [] is = refl
head_none (y ∷ ys) is = cc

-- what stays below new entries
pub end_some : (old : List Entry) (new : List Stored) (first : Stored) (next : Bool) (end : Option ℕ) → slice_get new 0 ≡ Some first → next ≡ is_next_to old first.0 → end ≡ cond next (Some first.0) (Some 0)
    → with_entries old (entries_of new) ≡ filter (λ e. is_within 0 end e.0) old ++ entries_of new
end_some old new first next end is told ends =
    let tail = head_some new first is in
    let bytes : List ℕ = first.1.items in
    let at : (b : Bool) → is_next_to old first.0 ≡ b → with_entries old ((first.0, bytes) ∷ entries_of tail.0) ≡ filter (λ e. is_within 0 (cond b (Some first.0) (Some 0)) e.0) old ++ ((first.0, bytes) ∷ entries_of tail.0) = λ b. by_test b old first tail.0 in
    ap (λ (l : List Stored). with_entries old (entries_of l)) tail.1
    ∙ at (is_next_to old first.0) refl
    ∙ ap (λ (l : List Stored). filter (λ e. is_within 0 (cond (is_next_to old first.0) (Some first.0) (Some 0)) e.0) old ++ entries_of l) (sym tail.1)
    ∙ ap (λ b. filter (λ e. is_within 0 (cond b (Some first.0) (Some 0)) e.0) old ++ entries_of new) (sym told)
    ∙ ap (λ (o : Option ℕ). filter (λ e. is_within 0 o e.0) old ++ entries_of new) (sym ends)
  where
    by_test : (b : Bool) (old : List Entry) (first : Stored) (rest : List Stored) → is_next_to old first.0 ≡ b → with_entries old ((first.0, first.1.items) ∷ entries_of rest) ≡ filter (λ e. is_within 0 (cond b (Some first.0) (Some 0)) e.0) old ++ ((first.0, first.1.items) ∷ entries_of rest)
    by_test true old first rest next = kept_below old (first.0, first.1.items) (entries_of rest) next
    by_test false old first rest apart = kept_nothing old (first.0, first.1.items) (entries_of rest) apart

pub end_none : (old : List Entry) (new : List Stored) → slice_get new 0 ≡ None → with_entries old (entries_of new) ≡ filter (λ e. is_within 0 None e.0) old ++ entries_of new
end_none old new none = subst (λ (l : List Stored). with_entries old (entries_of l) ≡ filter (λ e. is_within 0 None e.0) old ++ entries_of l) (sym (head_none new none)) (kept_none old)

-- where a list may go on
pub next_some : (old : List Stored) (first : Stored) (start : ℕ) → slice_get old 0 ≡ Some first → (nat_le first.0 start && nat_le start (first.0 + length old)) ≡ is_next_to (entries_of old) start
next_some old first start is =
    let tail = head_some old first is in
    let len : length old ≡ length (entries_of old) = sym (length-map old (λ (e : Stored). (e.0, e.1.items))) in
    ap (λ (n : ℕ). nat_le first.0 start && nat_le start (first.0 + n)) len
    ∙ subst (λ (l : List Stored). (nat_le first.0 start && nat_le start (first.0 + length (entries_of l))) ≡ is_next_to (entries_of l) start) (sym tail.1) refl

pub next_none : (old : List Stored) (start : ℕ) → slice_get old 0 ≡ None → false ≡ is_next_to (entries_of old) start
next_none old start none = subst (λ (l : List Stored). false ≡ is_next_to (entries_of l) start) (sym (head_none old none)) refl

-- whether a list takes entries
pub fits_some : (old : List Entry) (new : List Stored) (first : Stored) → slice_get new 0 ≡ Some first → (are_counted_from first.0 (entries_of new) && (is_nil old || is_next_to old first.0)) ≡ is_none (entries_refusal old (entries_of new))
fits_some old new first is =
    let tail = head_some new first is in
    subst (λ (l : List Stored). (are_counted_from first.0 (entries_of l) && (is_nil old || is_next_to old first.0)) ≡ is_none (entries_refusal old (entries_of l))) (sym tail.1) (sym (fits_is old (first.0, first.1.items) (entries_of tail.0)))

-- an index that is counted on, or isn't
counted_ahead : (entries : List Stored) (start place : ℕ) (entry : Stored) → place < length entries → entry ≡ get_or entries place entry
    → are_counted_from (start + place) (entries_of (drop place entries)) ≡ ((not (entry.0 == 2 ^ 64 - 1) && entry.0 == start + place) && are_counted_from ((start + place) + 1) (entries_of (drop (place + 1) entries)))
counted_ahead entries start place entry within is = ap (λ (l : List Stored). are_counted_from (start + place) (entries_of l)) (ahead entries place entry within is)

pub counted_more : (entries : List Stored) (start place : ℕ) (entry : Stored) → place < length entries → entry ≡ get_or entries place entry → (not (entry.0 == 2 ^ 64 - 1) && entry.0 == start + place) ≡ true → are_counted_from (start + place) (entries_of (drop place entries)) ≡ are_counted_from start (entries_of entries)
    → are_counted_from (start + (place + 1)) (entries_of (drop (place + 1) entries)) ≡ are_counted_from start (entries_of entries)
counted_more entries start place entry within is counted so =
    let next : start + (place + 1) ≡ (start + place) + 1 = omega arith in
    ap (λ (n : ℕ). are_counted_from n (entries_of (drop (place + 1) entries))) next
    ∙ sym (ap (λ b. b && are_counted_from ((start + place) + 1) (entries_of (drop (place + 1) entries))) counted)
    ∙ sym (counted_ahead entries start place entry within is) ∙ so

pub counted_no_more : (entries : List Stored) (start place : ℕ) (entry : Stored) → place < length entries → entry ≡ get_or entries place entry → (not (entry.0 == 2 ^ 64 - 1) && entry.0 == start + place) ≡ false → are_counted_from (start + place) (entries_of (drop place entries)) ≡ are_counted_from start (entries_of entries)
    → false ≡ are_counted_from start (entries_of entries)
counted_no_more entries start place entry within is counted so =
    sym (ap (λ b. b && are_counted_from ((start + place) + 1) (entries_of (drop (place + 1) entries))) counted)
    ∙ sym (counted_ahead entries start place entry within is) ∙ so

pub counted_all : (entries : List Stored) (start place : ℕ) → length entries ≤ place → are_counted_from (start + place) (entries_of (drop place entries)) ≡ are_counted_from start (entries_of entries) → true ≡ are_counted_from start (entries_of entries)
counted_all entries start place past so = sym (ap (λ (l : List Stored). are_counted_from (start + place) (entries_of l)) (drop_of_length-le entries past)) ∙ so
