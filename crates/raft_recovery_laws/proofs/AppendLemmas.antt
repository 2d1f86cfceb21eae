-- One group's entries through changes: what a list of changes leaves alone, and what it leaves itself.
use Rattle.std.proofs.Common.{◌≡◌, ℕ, ◌+◌, ◌<◌, ◌≤◌, Bool, true, false, cond, eqb, ltb, leb, ◌||◌, List, [], ◌∷◌, ◌++◌, filter, fold, refl, sym, ◌∙◌, ap, subst, inl, inr, arith, append_assoc, append-nil}
use Rattle.std.specs.List.{list_all, AllByRecursion as Each}
use Rattle.std.proofs.lemmas.Bool.{false≢true, ltb-true, eq-eqb, eqb-true, ne_eqb, lt-ltb, lt-leb, le-leb, and_parts, or_parts, or_cases, or_right, or_from, cases_lt, cases_Bool}
use Rattle.std.proofs.lemmas.List.Elements.{filter-append}
use Rattle.std.proofs.lemmas.List.Folds.{list_any-append}
use Rattle.raft_records.specs.Item.{Entry}
use Rattle.raft_records.specs.Contents.{entries_below}
use Rattle.raft_recovery_laws.proofs.ListLemmas.{Runs, AreRun, Above, From, Below, has_before, put_on, each_append, each_filter, each_weaker, each_passes, filter_all, filter_none, filter_filter, below_all, below_none, no_before_below, no_before_from, runs_from, runs_tail_above, runs_below, run_above, run_put_on, put_on-before, put_on-apart}

-- what an item changes of a group's entries
pub data EntryChange : Type 0 where
  Stay : EntryChange
  Place : (first : Entry) (others : List Entry) → EntryChange
  Empty : EntryChange
  Cut : (index : ℕ) → EntryChange

-- the entries after a change
abbrev pub after_change : List Entry → EntryChange → List Entry
after_change old Stay = old
after_change old (Place e es) = put_on old (e ∷ es)
after_change old Empty = []
after_change old (Cut index) = filter (λ e. leb index e.0) old

abbrev pub after_changes : List Entry → List EntryChange → List Entry
after_changes old cs = fold after_change old cs

-- the change leaves the entry with this index alone
abbrev pub keeps : EntryChange → ℕ → Bool
keeps Stay i = true
keeps (Place e es) i = ltb i e.0
keeps Empty i = false
keeps (Cut index) i = leb index i

abbrev pub all_keep : List EntryChange → ℕ → Bool
all_keep cs i = list_all (λ c. keeps c i) cs

-- the entries that a change leaves alone, and those that each of the changes does
abbrev pub kept_by : EntryChange → List Entry → List Entry
kept_by c w = filter (λ e. keeps c e.0) w

abbrev pub kept : List EntryChange → List Entry → List Entry
kept cs w = filter (λ e. all_keep cs e.0) w

-- the new entries are consecutive
abbrev pub IsRun : EntryChange → Type 0
IsRun Stay = Unit {0}
IsRun (Place e es) = Runs e.0 (e ∷ es)
IsRun Empty = Unit {0}
IsRun (Cut index) = Unit {0}

-- the first list's indexes are below the second's
abbrev pub Apart : List Entry → List Entry → Type 0
Apart w a = Each (λ e. Above e.0 a) w

pub kept-cons : (c : EntryChange) (cs : List EntryChange) (w : List Entry) → kept (c ∷ cs) w ≡ kept cs (kept_by c w)
kept-cons c cs w = sym (filter_filter (λ e. keeps c e.0) (λ e. all_keep cs e.0) w)

-- What is left alone stands below what the changes leave.

each_cond : {X : Type 0} (P : X → Type 0) (b : Bool) (xs ys : List X) → Each P xs → Each P ys → Each P (cond b xs ys)
each_cond P true xs ys left right = left
each_cond P false xs ys left right = right

pub above_after_change : (i : ℕ) (a : List Entry) (c : EntryChange) → IsRun c → Above i a → keeps c i ≡ true → Above i (after_change a c)
above_after_change i a Stay run above is = above
above_after_change i a (Place e es) run above is =
    let low : i < e.0 = ltb-true i e.0 is in
    let new : Above i (e ∷ es) = (low, each_weaker (λ (x : Entry). e.0 < x.0) (λ x. i < x.0) (λ x less. omega arith) es (runs_tail_above e.0 e es run)) in
    each_cond (λ (x : Entry). i < x.0) (has_before e.0 a) (entries_below e.0 a ++ e ∷ es) (e ∷ es) (each_append (λ (x : Entry). i < x.0) (entries_below e.0 a) (e ∷ es) (each_filter (λ (x : Entry). i < x.0) (λ x. ltb x.0 e.0) a above) new) new
above_after_change i a Empty run above is = tt
above_after_change i a (Cut index) run above is = each_filter (λ (x : Entry). i < x.0) (λ x. leb index x.0) a above

pub above_after_changes : (cs : List EntryChange) (i : ℕ) (a : List Entry) → Each IsRun cs → Above i a → all_keep cs i ≡ true → Above i (after_changes a cs)
above_after_changes [] i a _ above is = above
above_after_changes (c ∷ cs) i a (run, runs) above is =
    let both = and_parts (keeps c i) (all_keep cs i) is in
    above_after_changes cs i (after_change a c) runs (above_after_change i a c run above both.0) both.1

each_passed : {X : Type 0} (P Q : X → Type 0) (p : X → Bool) → ((x : X) → P x → p x ≡ true → Q x) → (xs : List X) → Each P xs → Each Q (filter p xs)
each_passed P Q p gives [] _ = tt
each_passed P Q p gives (x ∷ xs) (here, rest) = go (p x) refl (each_passed P Q p gives xs rest)
  where
    go : (b : Bool) → p x ≡ b → Each Q (filter p xs) → Each Q (cond b (x ∷ filter p xs) (filter p xs))
    go true is later = (gives x here is, later)
    go false is later = later

pub apart_after_change : (w a : List Entry) (c : EntryChange) → IsRun c → Apart w a → Apart (kept_by c w) (after_change a c)
apart_after_change w a c run apart = each_passed (λ e. Above e.0 a) (λ e. Above e.0 (after_change a c)) (λ e. keeps c e.0) (λ e above is. above_after_change e.0 a c run above is) w apart

pub apart_from_nothing : (w : List Entry) → Apart w []
apart_from_nothing [] = tt
apart_from_nothing (e ∷ es) = (tt, apart_from_nothing es)

pub apart_kept : (cs : List EntryChange) (x : List Entry) → Each IsRun cs → Apart (kept cs x) (after_changes [] cs)
apart_kept cs x runs = each_passed (λ e. Above e.0 []) (λ e. Above e.0 (after_changes [] cs)) (λ e. all_keep cs e.0) (λ e above is. above_after_changes cs e.0 [] runs above is) x (apart_from_nothing x)

pub below_first : (w : List Entry) (f : Entry) (r : List Entry) → Apart w (f ∷ r) → Below f.0 w
below_first w f r apart = each_weaker (λ (e : Entry). Above e.0 (f ∷ r)) (λ e. e.0 < f.0) (λ e above. above.0) w apart

-- Changes keep entries consecutive.

pub run_after_change : (a : List Entry) (c : EntryChange) → IsRun c → AreRun a → AreRun (after_change a c)
run_after_change a Stay run is = is
run_after_change a (Place e es) run is = run_put_on a (e ∷ es) is (e.0, run)
run_after_change a Empty run is = (0, tt)
run_after_change a (Cut index) run (n, runs) = run_above n index a runs

pub run_after_changes : (cs : List EntryChange) (a : List Entry) → Each IsRun cs → AreRun a → AreRun (after_changes a cs)
run_after_changes [] a _ is = is
run_after_changes (c ∷ cs) a (run, runs) is = run_after_changes cs (after_change a c) runs (run_after_change a c run is)

each_refl : {X : Type 0} (b : Bool) (xs : List X) → Each (λ x. b ≡ b) xs
each_refl b [] = tt
each_refl b (x ∷ xs) = (refl, each_refl b xs)

pub kept_by-stay : (w : List Entry) → kept_by Stay w ≡ w
kept_by-stay w = filter_all (λ x. true) w (each_refl true w)

pub kept_by-empty : (w : List Entry) → kept_by Empty w ≡ []
kept_by-empty w = filter_none (λ x. false) w (each_refl false w)

run_kept_by : (c : EntryChange) (w : List Entry) → AreRun w → AreRun (kept_by c w)
run_kept_by Stay w run = subst AreRun (sym (kept_by-stay w)) run
run_kept_by (Place e es) w (n, runs) = (n, runs_below n e.0 w runs)
run_kept_by Empty w run = subst AreRun (sym (kept_by-empty w)) (0, tt)
run_kept_by (Cut index) w (n, runs) = run_above n index w runs

-- .. and what is left alone of consecutive entries is consecutive
pub run_kept : (cs : List EntryChange) (w : List Entry) → AreRun w → AreRun (kept cs w)
run_kept [] w run = subst AreRun (sym (kept_by-stay w)) run
run_kept (c ∷ cs) w run = subst AreRun (sym (kept-cons c cs w)) (run_kept cs (kept_by c w) (run_kept_by c w run))

-- The index before, in a part of a list.

pub before-append : (s : ℕ) (u v : List Entry) → has_before s (u ++ v) ≡ (has_before s u || has_before s v)
before-append s u v = list_any-append (λ e. eqb (e.0 + 1) s) u v

before_step : (p : Entry → Bool) (s : ℕ) (b : Bool) (e : Entry) (es : List Entry) → p e ≡ b → (eqb (e.0 + 1) s ≡ true → p e ≡ true) → has_before s (filter p es) ≡ has_before s es → has_before s (cond b (e ∷ filter p es) (filter p es)) ≡ has_before s (e ∷ es)
before_step p s true e es is gives rest = ap (λ t. eqb (e.0 + 1) s || t) rest
before_step p s false e es is gives rest = rest ∙ sym (ap (λ t. t || has_before s es) (ne_eqb (e.0 + 1) s (λ same. false≢true (sym is ∙ gives (eq-eqb (e.0 + 1) s same)))))

-- a filter that passes the index before
before_filter : (p : Entry → Bool) (s : ℕ) (w : List Entry) → ((e : Entry) → eqb (e.0 + 1) s ≡ true → p e ≡ true) → has_before s (filter p w) ≡ has_before s w
before_filter p s [] gives = refl
before_filter p s (e ∷ es) gives = before_step p s (p e) e es refl (gives e) (before_filter p s es gives)

pub before-below : (s : ℕ) (w : List Entry) → has_before s (entries_below s w) ≡ has_before s w
before-below s w = before_filter (λ e. ltb e.0 s) s w (λ e is. (let same : e.0 + 1 ≡ s = eqb-true (e.0 + 1) s is in lt-ltb e.0 s (omega arith)))

before-cut : (c s : ℕ) (w : List Entry) → c < s → has_before s (filter (λ e. leb c e.0) w) ≡ has_before s w
before-cut c s w less = before_filter (λ e. leb c e.0) s w (λ e is. (let same : e.0 + 1 ≡ s = eqb-true (e.0 + 1) s is in le-leb c e.0 (omega arith)))

-- a filter brings no index before
pub no_before_filter : (p : Entry → Bool) (s : ℕ) (w : List Entry) → has_before s w ≡ false → has_before s (filter p w) ≡ false
no_before_filter p s [] is = refl
no_before_filter p s (e ∷ es) is =
    let parts = or_parts (eqb (e.0 + 1) s) (has_before s es) is in
    go (p e) parts.0 (no_before_filter p s es parts.1)
  where
    go : (b : Bool) → eqb (e.0 + 1) s ≡ false → has_before s (filter p es) ≡ false → has_before s (cond b (e ∷ filter p es) (filter p es)) ≡ false
    go true here rest = ap (λ t. t || has_before s (filter p es)) here ∙ rest
    go false here rest = rest

pub before_apart : (s : ℕ) (w a : List Entry) → Apart w a → has_before s w ≡ true → From s a
before_apart s [] a _ is = absurd (false≢true is)
before_apart s (e ∷ es) a (here, rest) is = elim (or_cases (eqb (e.0 + 1) s) (has_before s es) is) [
  | inl same ↦ each_weaker (λ (x : Entry). e.0 < x.0) (λ x. s ≤ x.0) (λ x less. (let is_s : e.0 + 1 ≡ s = eqb-true (e.0 + 1) s same in omega arith)) a here
  | inr later ↦ before_apart s es a rest later
]

-- Entries put on a list, or on two.

pub put_on-nothing : (a : List Entry) → put_on [] a ≡ a
put_on-nothing [] = refl
put_on-nothing (e ∷ es) = refl

pub put_on-below : (w : List Entry) (e : Entry) (es : List Entry) → put_on (entries_below e.0 w) (e ∷ es) ≡ put_on w (e ∷ es)
put_on-below w e es =
    ap (λ xs. cond (has_before e.0 (entries_below e.0 w)) (xs ++ e ∷ es) (e ∷ es)) (below_all e.0 (entries_below e.0 w) (each_weaker (λ (x : Entry). ltb x.0 e.0 ≡ true) (λ x. x.0 < e.0) (λ x is. ltb-true x.0 e.0 is) (entries_below e.0 w) (each_passes (λ x. ltb x.0 e.0) w)))
    ∙ ap (λ b. cond b (entries_below e.0 w ++ e ∷ es) (e ∷ es)) (before-below e.0 w)

-- where the second list starts at the new entries or after
put_on-low : (w a : List Entry) (e : Entry) (es : List Entry) → From e.0 a → put_on (w ++ a) (e ∷ es) ≡ put_on w (e ∷ es)
put_on-low w a e es from =
    ap (λ b. cond b (entries_below e.0 (w ++ a) ++ e ∷ es) (e ∷ es)) (before-append e.0 w a ∙ ap (λ b. has_before e.0 w || b) (no_before_from e.0 e.0 a from (omega arith)) ∙ or_false (has_before e.0 w))
    ∙ ap (λ xs. cond (has_before e.0 w) (xs ++ e ∷ es) (e ∷ es)) (filter-append (λ x. ltb x.0 e.0) w a ∙ ap (λ xs. entries_below e.0 w ++ xs) (below_none e.0 a from) ∙ append-nil (entries_below e.0 w))
  where
    or_false : (b : Bool) → (b || false) ≡ b
    or_false true = refl
    or_false false = refl

pub put_on-touching : (w : List Entry) (f : Entry) (r : List Entry) → Apart w (f ∷ r) → has_before f.0 w ≡ true → put_on w (f ∷ r) ≡ w ++ f ∷ r
put_on-touching w f r apart is = put_on-before w f r is ∙ ap (λ xs. xs ++ f ∷ r) (below_all f.0 w (below_first w f r apart))

-- The changes of a list set on a list are the changes of the list, where each starts at or after
-- its first entry.

-- entries start at the list's first index or after
abbrev pub StartsIn : List Entry → ℕ → Type 0
StartsIn [] s = Unit {0}
StartsIn (o ∷ old) s = o.0 ≤ s

abbrev pub Fits : List Entry → EntryChange → Type 0
Fits old Stay = Unit {0}
Fits old (Place e es) = StartsIn old e.0
Fits old Empty = Unit {0}
Fits old (Cut index) = Unit {0}

-- the first of a list stays below a later start
first_stays : (s : ℕ) (f : Entry) (r : List Entry) → f.0 < s → entries_below s (f ∷ r) ≡ f ∷ entries_below s r
first_stays s f r less = ap (λ b. cond b (f ∷ entries_below s r) (entries_below s r)) (lt-ltb f.0 s less)

place_later : (w : List Entry) (f : Entry) (r : List Entry) (e : Entry) (es : List Entry) → Apart w (f ∷ r) → f.0 < e.0 → put_on w (put_on (f ∷ r) (e ∷ es)) ≡ put_on (put_on w (f ∷ r)) (e ∷ es)
place_later w f r e es apart later = elim (cases_Bool (has_before e.0 (f ∷ r))) [
  | inl next ↦ elim (cases_Bool (has_before f.0 w)) [
    | inl touch ↦ ap (put_on w) (placed next) ∙ put_on-before w f (entries_below e.0 r ++ e ∷ es) touch ∙ ap (λ xs. xs ++ f ∷ (entries_below e.0 r ++ e ∷ es)) (below_all f.0 w low)
        ∙ sym (ap (λ xs. put_on xs (e ∷ es)) (put_on-touching w f r apart touch) ∙ put_on-before (w ++ f ∷ r) e es (before-append e.0 w (f ∷ r) ∙ or_right (has_before e.0 w) (has_before e.0 (f ∷ r)) next)
        ∙ ap (λ xs. xs ++ e ∷ es) (filter-append (λ x. ltb x.0 e.0) w (f ∷ r) ∙ ap (λ xs. xs ++ entries_below e.0 (f ∷ r)) stays ∙ ap (λ xs. w ++ xs) (first_stays e.0 f r later)) ∙ append_assoc w (f ∷ entries_below e.0 r) (e ∷ es))
    | inr gap ↦ ap (put_on w) (placed next) ∙ put_on-apart w f (entries_below e.0 r ++ e ∷ es) gap ∙ sym (ap (λ xs. put_on xs (e ∷ es)) (put_on-apart w f r gap) ∙ placed next)
  ]
  | inr far ↦ ap (put_on w) (put_on-apart (f ∷ r) e es far) ∙ put_on-apart w e es none ∙ elim (cases_Bool (has_before f.0 w)) [
    | inl touch ↦ sym (ap (λ xs. put_on xs (e ∷ es)) (put_on-touching w f r apart touch) ∙ put_on-apart (w ++ f ∷ r) e es (before-append e.0 w (f ∷ r) ∙ or_from (has_before e.0 w) (has_before e.0 (f ∷ r)) none far))
    | inr gap ↦ sym (ap (λ xs. put_on xs (e ∷ es)) (put_on-apart w f r gap) ∙ put_on-apart (f ∷ r) e es far)
  ]
]
  where
    low : Below f.0 w
    low = below_first w f r apart

    none : has_before e.0 w ≡ false
    none = no_before_below e.0 f.0 w low later

    stays : entries_below e.0 w ≡ w
    stays = below_all e.0 w (each_weaker (λ (x : Entry). x.0 < f.0) (λ x. x.0 < e.0) (λ x less. omega arith) w low)

    placed : has_before e.0 (f ∷ r) ≡ true → put_on (f ∷ r) (e ∷ es) ≡ f ∷ (entries_below e.0 r ++ e ∷ es)
    placed next = put_on-before (f ∷ r) e es next ∙ ap (λ xs. xs ++ e ∷ es) (first_stays e.0 f r later)

place_before : (w : List Entry) (f : Entry) (r : List Entry) (e : Entry) (es : List Entry) → Runs f.0 (f ∷ r) → Apart w (f ∷ r) → e.0 ≤ f.0 → StartsIn (put_on w (f ∷ r)) e.0 → put_on (entries_below e.0 w) (put_on (f ∷ r) (e ∷ es)) ≡ put_on (put_on w (f ∷ r)) (e ∷ es)
place_before w f r e es runs apart early starts =
    ap (put_on (entries_below e.0 w)) alone ∙ put_on-below w e es ∙ elim (cases_Bool (has_before f.0 w)) [
      | inl touch ↦ sym (ap (λ xs. put_on xs (e ∷ es)) (put_on-touching w f r apart touch) ∙ put_on-low w (f ∷ r) e es from)
      | inr gap ↦
          let same : f.0 ≡ e.0 = omega (arith, subst (λ xs. StartsIn xs e.0) (put_on-apart w f r gap) starts) in
          put_on-apart w e es (subst (λ s. has_before s w ≡ false) same gap) ∙ sym (ap (λ xs. put_on xs (e ∷ es)) (put_on-apart w f r gap) ∙ alone)
    ]
  where
    from : From e.0 (f ∷ r)
    from = each_weaker (λ (x : Entry). f.0 ≤ x.0) (λ x. e.0 ≤ x.0) (λ x less. omega arith) (f ∷ r) (runs_from f.0 (f ∷ r) runs)

    alone : put_on (f ∷ r) (e ∷ es) ≡ e ∷ es
    alone = put_on-apart (f ∷ r) e es (no_before_from e.0 e.0 (f ∷ r) from (omega arith))

cut_apart : (w : List Entry) (f : Entry) (r : List Entry) (index : ℕ) → Runs f.0 (f ∷ r) → Apart w (f ∷ r) → put_on (kept_by (Cut index) w) (after_change (f ∷ r) (Cut index)) ≡ after_change (put_on w (f ∷ r)) (Cut index)
cut_apart w f r index runs apart = elim (cases_lt index f.0) [
  | inl less ↦
      let all_stay : cut (f ∷ r) ≡ f ∷ r = filter_all (λ x. leb index x.0) (f ∷ r) (each_weaker (λ (x : Entry). f.0 ≤ x.0) (λ x. leb index x.0 ≡ true) (λ x is. le-leb index x.0 (omega arith)) (f ∷ r) (runs_from f.0 (f ∷ r) runs)) in
      ap (put_on (cut w)) all_stay ∙ elim (cases_Bool (has_before f.0 w)) [
        | inl touch ↦ put_on-touching (cut w) f r (each_filter (λ e. Above e.0 (f ∷ r)) (λ x. leb index x.0) w apart) (before-cut index f.0 w less ∙ touch)
            ∙ sym (ap cut (put_on-touching w f r apart touch) ∙ filter-append (λ x. leb index x.0) w (f ∷ r) ∙ ap (λ xs. cut w ++ xs) all_stay)
        | inr gap ↦ put_on-apart (cut w) f r (before-cut index f.0 w less ∙ gap) ∙ sym (ap cut (put_on-apart w f r gap) ∙ all_stay)
      ]
  | inr high ↦
      let gone : cut w ≡ [] = filter_none (λ x. leb index x.0) w (each_weaker (λ (x : Entry). x.0 < f.0) (λ x. leb index x.0 ≡ false) (λ x is. lt-leb index x.0 (omega arith)) w (below_first w f r apart)) in
      ap (λ xs. put_on xs (cut (f ∷ r))) gone ∙ put_on-nothing (cut (f ∷ r)) ∙ elim (cases_Bool (has_before f.0 w)) [
        | inl touch ↦ sym (ap cut (put_on-touching w f r apart touch) ∙ filter-append (λ x. leb index x.0) w (f ∷ r) ∙ ap (λ xs. xs ++ cut (f ∷ r)) gone)
        | inr gap ↦ sym (ap cut (put_on-apart w f r gap))
      ]
]
  where
    cut : List Entry → List Entry
    cut xs = filter (λ x. leb index x.0) xs

pub put_on-after_change : (w a : List Entry) (c : EntryChange) → IsRun c → AreRun a → Apart w a → Fits (put_on w a) c → put_on (kept_by c w) (after_change a c) ≡ after_change (put_on w a) c
put_on-after_change w a Stay run runs apart fits = ap (λ xs. put_on xs a) (kept_by-stay w)
put_on-after_change w [] (Place e es) run runs apart fits = put_on-below w e es
put_on-after_change w (f ∷ r) (Place e es) run (n, runs) apart fits = elim (cases_lt f.0 e.0) [
  | inl later ↦ ap (λ xs. put_on xs (put_on (f ∷ r) (e ∷ es))) (below_all e.0 w (each_weaker (λ (x : Entry). x.0 < f.0) (λ x. x.0 < e.0) (λ x less. omega arith) w (below_first w f r apart))) ∙ place_later w f r e es apart later
  | inr early ↦ place_before w f r e es (refl, subst (λ k. Runs (k + 1) r) (sym runs.0) runs.1) apart early fits
]
put_on-after_change w a Empty run runs apart fits = kept_by-empty w
put_on-after_change w [] (Cut index) run runs apart fits = refl
put_on-after_change w (f ∷ r) (Cut index) run (n, runs) apart fits = cut_apart w f r index (refl, subst (λ k. Runs (k + 1) r) (sym runs.0) runs.1) apart

-- .. and so for each change that fits the list before it
abbrev pub AllFit : List Entry → List EntryChange → Type 0
AllFit old [] = Unit {0}
AllFit old (c ∷ cs) = Fits old c × AllFit (after_change old c) cs

pub put_on-after_changes : (cs : List EntryChange) (w a : List Entry) → Each IsRun cs → AreRun a → Apart w a → AllFit (put_on w a) cs → put_on (kept cs w) (after_changes a cs) ≡ after_changes (put_on w a) cs
put_on-after_changes [] w a _ runs apart fit = ap (λ xs. put_on xs a) (kept_by-stay w)
put_on-after_changes (c ∷ cs) w a (run, others) runs apart (fits, fit) =
    let step = put_on-after_change w a c run runs apart fits in
    ap (λ xs. put_on xs (after_changes (after_change a c) cs)) (kept-cons c cs w)
    ∙ put_on-after_changes cs (kept_by c w) (after_change a c) others (run_after_change a c run runs) (apart_after_change w a c run apart) (subst (λ xs. AllFit xs cs) (sym step) fit)
    ∙ ap (λ xs. after_changes xs cs) step
