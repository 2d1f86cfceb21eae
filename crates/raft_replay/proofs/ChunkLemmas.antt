-- What chunks of batches reach, and what they leave that were applied apart.
use Rattle.std.proofs.Common.{◌≡◌, ◌⊎◌, ℕ, ◌+◌, Bool, true, false, cond, eqb, leb, min, max, not, nat_le, nat_lt, ◌&&◌, ◌||◌, List, [], ◌∷◌, ◌++◌, length, filter, fold, Option, Some, None, refl, sym, ◌∙◌, ap, subst, inl, inr, arith, append_assoc}
use Rattle.std.specs.List.{list_all}
use Rattle.std.specs.Option.{is_some}
use Rattle.std.specs.Str.{bytes_eq}
use Rattle.std.proofs.lemmas.Bool.{false≢true, cases_Bool, and_parts}
use Rattle.std.proofs.lemmas.Bool.Decides.{nat_tests}
use Rattle.std.proofs.lemmas.List.{map-append}
use Rattle.std.proofs.lemmas.List.Elements.{filter_agree}
use Rattle.std.proofs.lemmas.List.Folds.{list_all-append}
use Rattle.std.proofs.lemmas.List.Sums.{fold-append}
use Rattle.raft_records.specs.Item.{Entry, Content, Entries, Clean, Compact, Put, Delete, Item, Batch, group_mark_key}
use Rattle.raft_records.specs.Contents.{Contents, no_contents, with_entries, after_batches}
use Rattle.raft_replay.specs.Chunks.{Starts, Reach, no_reach, starts_then, reach_then, reach_by, reach_after, reach_in, starts_leave, reach_leaves, starts_replace, merged_entries, deleted_by, deleted_after, deleted_in}
use Rattle.raft_recovery_laws.specs.Consecutive.{HaveConsecutiveEntries, content_is_consecutive}
use Rattle.raft_recovery_laws.specs.Recovered.{items_of, content_leaves, item_leaves, leaves, leaves_key, item_leaves_key, content_leaves_key, replay}
use Rattle.raft_recovery_laws.proofs.ListLemmas.{AreRun, with_entries-run, runs_left}
use Rattle.raft_recovery_laws.proofs.AppendLemmas.{EntryChange, Stay, Place, Empty, Cut, Apart, after_change, after_changes, kept, run_after_changes}
use Rattle.raft_recovery_laws.proofs.EntryLemmas.{content_change, change_in, changes_of, entries-after_batches, kept-leaves, runs_of_items, no_entries_run}
use Rattle.raft_recovery_laws.proofs.FrontLemmas.{apart_new, put_on-next}
use Rattle.raft_recovery_laws.proofs.KeyLemmas.{value-after_batches, value_after, value_after_item, value_after_content, items_leave}
use Rattle.raft_replay.proofs.ReachLemmas.{end_after, drops, changes_in_two}

or_true : (b : Bool) → (b || true) ≡ true
or_true true = refl
or_true false = refl

or_false : (b : Bool) → (b || false) ≡ b
or_false true = refl
or_false false = refl

or_comm : (b c : Bool) → (b || c) ≡ (c || b)
or_comm true c = sym (or_true c)
or_comm false c = sym (or_false c)

and_false : (b : Bool) → (b && false) ≡ false
and_false true = refl
and_false false = refl

and_true : (b : Bool) → (b && true) ≡ b
and_true true = refl
and_true false = refl

-- What is reached, one after the other.

cleaned_last : (older newer : Reach) → newer.cleaned ≡ true → reach_then older newer ≡ newer
cleaned_last older newer is = ap (λ b. cond b newer (record { cleaned = older.cleaned; compacted = max older.compacted newer.compacted; starts = starts_then older.starts newer.starts })) is

abbrev open_then : Reach → Reach → Reach
open_then older newer = record { cleaned = older.cleaned; compacted = max older.compacted newer.compacted; starts = starts_then older.starts newer.starts }

open_last : (older newer : Reach) → newer.cleaned ≡ false → reach_then older newer ≡ open_then older newer
open_last older newer is = ap (λ b. cond b newer (open_then older newer)) is

starts_none : (s : Option Starts) → starts_then s None ≡ s
starts_none None = refl
starts_none (Some s) = refl

max_zero : (n : ℕ) → max n 0 ≡ n
max_zero n = omega arith

zero_max : (n : ℕ) → max 0 n ≡ n
zero_max n = omega arith

pub then_nothing : (r : Reach) → reach_then r no_reach ≡ r
then_nothing r =
    ap (λ m. record { cleaned = r.cleaned; compacted = m; starts = starts_then r.starts None }) (max_zero r.compacted)
    ∙ ap (λ s. record { cleaned = r.cleaned; compacted = r.compacted; starts = s }) (starts_none r.starts)

pub nothing_then : (r : Reach) → reach_then no_reach r ≡ r
nothing_then r = elim (cases_Bool r.cleaned) [
  | inl is_so ↦ cleaned_last no_reach r is_so
  | inr is_not ↦ open_last no_reach r is_not ∙ ap (λ m. record { cleaned = false; compacted = m; starts = r.starts }) (zero_max r.compacted) ∙ ap (λ b. record { cleaned = b; compacted = r.compacted; starts = r.starts }) (sym is_not)
]

holes_join : (a b c g h : Bool) → ((a || (b || g)) || (c || h)) ≡ (a || ((b || (c || h)) || g))
holes_join true b c g h = refl
holes_join false true c g h = refl
holes_join false false c true h = sym (or_true (c || h))
holes_join false false c false h = sym (or_false (c || h))

min_join : (a b c : ℕ) → min (min a b) c ≡ min a (min b c)
min_join a b c = omega arith

max_join : (a b c : ℕ) → max (max a b) c ≡ max a (max b c)
max_join a b c = omega arith

starts_join : (a b c : Option Starts) → starts_then (starts_then a b) c ≡ starts_then a (starts_then b c)
starts_join None b c = refl
starts_join (Some a) None c = refl
starts_join (Some a) (Some b) None = refl
starts_join (Some a) (Some b) (Some c) =
    ap (λ l. Some (record { first = a.first; least = l; end = c.end; has_hole = (a.has_hole || (b.has_hole || nat_lt a.end b.first)) || (c.has_hole || nat_lt b.end c.first) })) (min_join a.least b.least c.least)
    ∙ ap (λ h. Some (record { first = a.first; least = min a.least (min b.least c.least); end = c.end; has_hole = h })) (holes_join a.has_hole b.has_hole c.has_hole (nat_lt a.end b.first) (nat_lt b.end c.first))

pub reach_join : (a b c : Reach) → reach_then (reach_then a b) c ≡ reach_then a (reach_then b c)
reach_join a b c = elim (cases_Bool c.cleaned) [
  | inl is_so ↦ cleaned_last (reach_then a b) c is_so ∙ sym (cleaned_last a c is_so) ∙ ap (reach_then a) (sym (cleaned_last b c is_so))
  | inr is_not ↦ elim (cases_Bool b.cleaned) [
    | inl b_so ↦
        let is = open_last b c is_not in
        ap (λ r. reach_then r c) (cleaned_last a b b_so) ∙ is ∙ sym (cleaned_last a (open_then b c) b_so) ∙ ap (reach_then a) (sym is)
    | inr b_not ↦
        ap (λ r. reach_then r c) (open_last a b b_not) ∙ open_last (open_then a b) c is_not
        ∙ ap (λ n. record { cleaned = a.cleaned; compacted = n; starts = starts_then (starts_then a.starts b.starts) c.starts }) (max_join a.compacted b.compacted c.compacted)
        ∙ ap (λ s. record { cleaned = a.cleaned; compacted = max a.compacted (max b.compacted c.compacted); starts = s }) (starts_join a.starts b.starts c.starts)
        ∙ sym (open_last a (open_then b c) b_not) ∙ ap (reach_then a) (sym (open_last b c is_not))
  ]
]

reach_step : (g : ℕ) (items : List Item) (r x : Reach) → ((q : Reach) → fold (reach_after g) q items ≡ reach_then q (fold (reach_after g) no_reach items)) → (b : Bool)
    → fold (reach_after g) (cond b (reach_then r x) r) items ≡ reach_then r (fold (reach_after g) (cond b (reach_then no_reach x) no_reach) items)
reach_step g items r x rest true = rest (reach_then r x) ∙ reach_join r x (fold (reach_after g) no_reach items) ∙ ap (reach_then r) (sym (rest x) ∙ ap (λ y. fold (reach_after g) y items) (sym (nothing_then x)))
reach_step g items r x rest false = rest r

fold_reach : (g : ℕ) (items : List Item) (r : Reach) → fold (reach_after g) r items ≡ reach_then r (fold (reach_after g) no_reach items)
fold_reach g [] r = sym (then_nothing r)
fold_reach g (item ∷ items) r = reach_step g items r (reach_by item.content) (λ q. fold_reach g items q) (eqb g item.group)

items_append : (older newer : List Batch) → items_of (older ++ newer) ≡ items_of older ++ items_of newer
items_append [] newer = refl
items_append (b ∷ older) newer = ap (λ xs. b ++ xs) (items_append older newer) ∙ sym (append_assoc b (items_of older) (items_of newer))

pub reach_of_both : (g : ℕ) (older newer : List Batch) → reach_in g (older ++ newer) ≡ reach_then (reach_in g older) (reach_in g newer)
reach_of_both g older newer =
    ap (fold (reach_after g) no_reach) (items_append older newer) ∙ fold-append (reach_after g) no_reach (items_of older) (items_of newer) ∙ fold_reach g (items_of newer) (reach_in g older)

-- What is left alone.

le_max : (a b i : ℕ) → nat_le (max a b) i ≡ (nat_le a i && nat_le b i)
le_max a b i = grind (arith, nat_tests)

lt_min : (i a b : ℕ) → nat_lt i (min a b) ≡ (nat_lt i a && nat_lt i b)
lt_min i a b = grind (arith, nat_tests)

starts_leave_both : (o n : Option Starts) (i : ℕ) → starts_leave (starts_then o n) i ≡ (starts_leave o i && starts_leave n i)
starts_leave_both None n i = refl
starts_leave_both (Some o) None i = sym (and_true (nat_lt i o.least))
starts_leave_both (Some o) (Some n) i = lt_min i o.least n.least

and_swap : (b s t : Bool) → (b && (s && t)) ≡ (s && (b && t))
and_swap true s t = refl
and_swap false s t = sym (and_false s)

parts_meet : (p a b s t : Bool) → (p && ((a && b) && (s && t))) ≡ ((p && (a && s)) && (b && t))
parts_meet false a b s t = refl
parts_meet true false b s t = refl
parts_meet true true b s t = and_swap b s t

leaves_both : (o n : Reach) (i : ℕ) → reach_leaves (reach_then o n) i ≡ (reach_leaves o i && reach_leaves n i)
leaves_both o n i = elim (cases_Bool n.cleaned) [
  | inl is_so ↦
      let none : reach_leaves n i ≡ false = ap (λ b. not b && (nat_le n.compacted i && starts_leave n.starts i)) is_so in
      ap (λ r. reach_leaves r i) (cleaned_last o n is_so) ∙ none ∙ sym (and_false (reach_leaves o i)) ∙ ap (λ b. reach_leaves o i && b) (sym none)
  | inr is_not ↦
      let all : reach_leaves n i ≡ (nat_le n.compacted i && starts_leave n.starts i) = ap (λ b. not b && (nat_le n.compacted i && starts_leave n.starts i)) is_not in
      ap (λ r. reach_leaves r i) (open_last o n is_not)
      ∙ ap (λ b. not o.cleaned && (b && starts_leave (starts_then o.starts n.starts) i)) (le_max o.compacted n.compacted i)
      ∙ ap (λ b. not o.cleaned && ((nat_le o.compacted i && nat_le n.compacted i) && b)) (starts_leave_both o.starts n.starts i)
      ∙ parts_meet (not o.cleaned) (nat_le o.compacted i) (nat_le n.compacted i) (starts_leave o.starts i) (starts_leave n.starts i)
      ∙ ap (λ b. reach_leaves o i && b) (sym all)
]

content_leaves_by : (content : Content) (i : ℕ) → reach_leaves (reach_by content) i ≡ content_leaves i content
content_leaves_by (Entries []) i = grind (arith, nat_tests)
content_leaves_by (Entries (e ∷ es)) i = grind (arith, nat_tests)
content_leaves_by Clean i = refl
content_leaves_by (Compact index) i = and_true (nat_le index i)
content_leaves_by (Put key value) i = grind (arith, nat_tests)
content_leaves_by (Delete key) i = grind (arith, nat_tests)

fold_leaves : (g i : ℕ) (items : List Item) (r : Reach) → reach_leaves (fold (reach_after g) r items) i ≡ (reach_leaves r i && list_all (item_leaves g i) items)
fold_leaves g i [] r = sym (and_true (reach_leaves r i))
fold_leaves g i (item ∷ items) r = fold_leaves g i items (reach_after g r item) ∙ go (eqb g item.group)
  where
    and_parts_of : (a b c d : Bool) → a ≡ (b && c) → (a && d) ≡ (b && (c && d))
    and_parts_of a true c d is = ap (λ x. x && d) is
    and_parts_of a false c d is = ap (λ x. x && d) is

    go : (b : Bool) → (reach_leaves (cond b (reach_then r (reach_by item.content)) r) i && list_all (item_leaves g i) items) ≡ (reach_leaves r i && (cond b (content_leaves i item.content) true && list_all (item_leaves g i) items))
    go true = and_parts_of _ (reach_leaves r i) (content_leaves i item.content) (list_all (item_leaves g i) items) (leaves_both r (reach_by item.content) i ∙ ap (λ b. reach_leaves r i && b) (content_leaves_by item.content i))
    go false = refl

pub left_by_reach : (g i : ℕ) (batches : List Batch) → leaves batches g i ≡ reach_leaves (reach_in g batches) i
left_by_reach g i batches = sym (fold_leaves g i (items_of batches) no_reach ∙ ap (λ b. b && leaves batches g i) zero_leaves)
  where
    zero_leaves : reach_leaves no_reach i ≡ true
    zero_leaves = grind (arith, nat_tests)

-- The reach of changes of one group's entries.

abbrev pub reach_of : EntryChange → Reach
reach_of Stay = no_reach
reach_of (Place e es) = record { cleaned = false; compacted = 0; starts = Some (record { first = e.0; least = e.0; end = e.0 + length (e ∷ es); has_hole = false }) }
reach_of Empty = record { cleaned = true; compacted = 0; starts = None }
reach_of (Cut index) = record { cleaned = false; compacted = index; starts = None }

abbrev pub reach_all : Reach → List EntryChange → Reach
reach_all r cs = fold (λ q c. reach_then q (reach_of c)) r cs

all_from : (cs : List EntryChange) (r : Reach) → reach_all r cs ≡ reach_then r (reach_all no_reach cs)
all_from [] r = sym (then_nothing r)
all_from (c ∷ cs) r =
    all_from cs (reach_then r (reach_of c)) ∙ reach_join r (reach_of c) (reach_all no_reach cs) ∙ ap (reach_then r) (sym (all_from cs (reach_of c)) ∙ ap (λ q. reach_all q cs) (sym (nothing_then (reach_of c))))

all_cons : (c : EntryChange) (cs : List EntryChange) → reach_all no_reach (c ∷ cs) ≡ reach_then (reach_of c) (reach_all no_reach cs)
all_cons c cs = ap (λ q. reach_all q cs) (nothing_then (reach_of c)) ∙ all_from cs (reach_of c)

content_reach : (content : Content) → reach_by content ≡ reach_of (content_change content)
content_reach (Entries []) = refl
content_reach (Entries (e ∷ es)) = refl
content_reach Clean = refl
content_reach (Compact index) = refl
content_reach (Put key value) = refl
content_reach (Delete key) = refl

pub reach_of_items : (g : ℕ) (items : List Item) (r : Reach) → fold (reach_after g) r items ≡ reach_all r (changes_of g items)
reach_of_items g [] r = refl
reach_of_items g (item ∷ items) r = reach_of_items g items (reach_after g r item) ∙ ap (λ q. reach_all q (changes_of g items)) (go (eqb g item.group))
  where
    go : (b : Bool) → cond b (reach_then r (reach_by item.content)) r ≡ reach_then r (reach_of (cond b (content_change item.content) Stay))
    go true = ap (reach_then r) (content_reach item.content)
    go false = sym (then_nothing r)

-- where entries stand, the latest brought them to the end that is known of it
abbrev pub KnowsEnd : List Entry → ℕ → Reach → Type 0
KnowsEnd xs end r = (xs ≡ []) ⊎ ((s : Starts) × (r.starts ≡ Some s) × (s.end ≡ end))

starts_after : (o n : Reach) → n.cleaned ≡ false → (reach_then o n).starts ≡ starts_then o.starts n.starts
starts_after o n is_not = ap (λ (r : Reach). r.starts) (open_last o n is_not)

placed_end : (o : Option Starts) (n : Starts) → (s : Starts) × (starts_then o (Some n) ≡ Some s) × (s.end ≡ n.end)
placed_end None n = (n, refl, refl)
placed_end (Some o) n = (_, refl, refl)

pub knows_after : (xs : List Entry) (end : ℕ) (r : Reach) (c : EntryChange) → KnowsEnd xs end r → KnowsEnd (after_change xs c) (end_after end c) (reach_then r (reach_of c))
knows_after xs end r Stay knows = subst (KnowsEnd xs end) (sym (then_nothing r)) knows
knows_after xs end r (Place e es) knows = inr (placed_end r.starts (record { first = e.0; least = e.0; end = e.0 + length (e ∷ es); has_hole = false }))
knows_after xs end r Empty knows = inl refl
knows_after xs end r (Cut index) (inl none) = inl (ap (filter (λ e. leb index e.0)) none)
knows_after xs end r (Cut index) (inr (s, is, at)) = inr (s, starts_none r.starts ∙ is, at)

knows_all : (cs : List EntryChange) (xs : List Entry) (end : ℕ) (r : Reach) → KnowsEnd xs end r → KnowsEnd (after_changes xs cs) (fold end_after end cs) (reach_all r cs)
knows_all [] xs end r knows = knows
knows_all (c ∷ cs) xs end r knows = knows_all cs (after_change xs c) (end_after end c) (reach_then r (reach_of c)) (knows_after xs end r c knows)

-- newer changes replace all that ends there
abbrev replace_from : ℕ → Option Starts → Bool
replace_from end None = false
replace_from end (Some n) = n.has_hole || nat_lt end n.first

abbrev Tells : ℕ → List EntryChange → Reach → Type 0
Tells end cs r = (r.cleaned ≡ true) ⊎ (drops end cs ≡ replace_from end r.starts)

place_tells : (end first len : ℕ) (newer : Option Starts) (later : Bool) → later ≡ replace_from (first + len) newer
    → (nat_lt end first || later) ≡ replace_from end (starts_then (Some (record { first = first; least = first; end = first + len; has_hole = false })) newer)
place_tells end first len None later is = ap (λ b. nat_lt end first || b) is ∙ or_false (nat_lt end first)
place_tells end first len (Some n) later is = ap (λ b. nat_lt end first || b) is ∙ or_comm (nat_lt end first) (n.has_hole || nat_lt (first + len) n.first)

tells_first : (end : ℕ) (c : EntryChange) (cs : List EntryChange) (r : Reach) → ((to : ℕ) → Tells to cs r) → Tells end (c ∷ cs) (reach_then (reach_of c) r)
tells_first end c cs r rest = elim (cases_Bool r.cleaned) [
  | inl is_so ↦ inl (ap (λ (q : Reach). q.cleaned) (cleaned_last (reach_of c) r is_so) ∙ is_so)
  | inr is_not ↦ go c is_not
]
  where
    still : (to : ℕ) → r.cleaned ≡ false → drops to cs ≡ replace_from to r.starts
    still to is_not = elim (rest to) [ inl is_so ↦ absurd (false≢true (sym is_not ∙ is_so)) | inr is ↦ is ]

    go : (c : EntryChange) → r.cleaned ≡ false → Tells end (c ∷ cs) (reach_then (reach_of c) r)
    go Stay is_not = inr (still end is_not ∙ ap (replace_from end) (sym (starts_after no_reach r is_not)))
    go (Place e es) is_not = inr (place_tells end e.0 (length (e ∷ es)) r.starts (drops (e.0 + length (e ∷ es)) cs) (still (e.0 + length (e ∷ es)) is_not) ∙ ap (replace_from end) (sym (starts_after (reach_of (Place e es)) r is_not)))
    go Empty is_not = inl (ap (λ (q : Reach). q.cleaned) (open_last (reach_of Empty) r is_not))
    go (Cut index) is_not = inr (still end is_not ∙ ap (replace_from end) (sym (starts_after (reach_of (Cut index)) r is_not)))

tells_all : (cs : List EntryChange) (end : ℕ) → Tells end cs (reach_all no_reach cs)
tells_all [] end = inr refl
tells_all (c ∷ cs) end = subst (Tells end (c ∷ cs)) (sym (all_cons c cs)) (tells_first end c cs (reach_all no_reach cs) (λ to. tells_all cs to))

-- What two chunks leave.

nothing_either_way : (b c : Bool) (xs : List Entry) → xs ≡ [] → cond b [] xs ≡ cond c [] xs
nothing_either_way true true xs is = refl
nothing_either_way true false xs is = sym is
nothing_either_way false true xs is = is
nothing_either_way false false xs is = refl

none_left : (r : Reach) (xs : List Entry) → r.cleaned ≡ true → filter (λ e. reach_leaves r e.0) xs ≡ []
none_left r [] is_so = refl
none_left r (x ∷ xs) is_so = ap (λ b. cond b (x ∷ filter (λ e. reach_leaves r e.0) xs) (filter (λ e. reach_leaves r e.0) xs)) (ap (λ b. not b && (nat_le r.compacted x.0 && starts_leave r.starts x.0)) is_so) ∙ none_left r xs is_so

module _ (older newer : List Batch) (consecutive : HaveConsecutiveEntries (older ++ newer)) (g : ℕ) where
  abbrev cs : List EntryChange
  cs = changes_of g (items_of older)

  abbrev ds : List EntryChange
  ds = changes_of g (items_of newer)

  abbrev old : List Entry
  old = (after_batches no_contents older).entries g

  abbrev new : List Entry
  new = (after_batches no_contents newer).entries g

  both_parts : (list_all (λ item. content_is_consecutive item.content) (items_of older) ≡ true) × (list_all (λ item. content_is_consecutive item.content) (items_of newer) ≡ true)
  both_parts = and_parts (list_all (λ item. content_is_consecutive item.content) (items_of older)) (list_all (λ item. content_is_consecutive item.content) (items_of newer))
      (sym (list_all-append (λ item. content_is_consecutive item.content) (items_of older) (items_of newer)) ∙ ap (list_all (λ item. content_is_consecutive item.content)) (sym (items_append older newer)) ∙ consecutive)

  old_is : old ≡ after_changes [] cs
  old_is = entries-after_batches no_contents older g both_parts.0 no_entries_run

  new_is : new ≡ after_changes [] ds
  new_is = entries-after_batches no_contents newer g both_parts.1 no_entries_run

  left_is : kept ds old ≡ filter (λ e. reach_leaves (reach_in g newer) e.0) old
  left_is = sym (kept-leaves g newer old) ∙ filter_agree (λ e. leaves newer g e.0) (λ e. reach_leaves (reach_in g newer) e.0) (λ e. left_by_reach g e.0 newer) old

  front_is : cond (drops (fold end_after 0 cs) ds) [] (kept ds old) ≡ cond (starts_replace (reach_in g older).starts (reach_in g newer).starts) [] (filter (λ e. reach_leaves (reach_in g newer) e.0) old)
  front_is = elim (knows_all cs [] 0 no_reach (inl refl)) [
    | inl none ↦
        let nothing : old ≡ [] = old_is ∙ none in
        ap (λ xs. cond (drops (fold end_after 0 cs) ds) [] xs) left_is ∙ nothing_either_way _ _ _ (ap (filter (λ e. reach_leaves (reach_in g newer) e.0)) nothing)
    | inr (s, is, at) ↦ elim (tells_all ds (fold end_after 0 cs)) [
      | inl cleaned ↦
          ap (λ xs. cond (drops (fold end_after 0 cs) ds) [] xs) left_is ∙ nothing_either_way _ _ _ (none_left (reach_in g newer) old (ap (λ (r : Reach). r.cleaned) (reach_of_items g (items_of newer) no_reach) ∙ cleaned))
      | inr tells ↦
          let starts : (reach_in g older).starts ≡ Some s = ap (λ (r : Reach). r.starts) (reach_of_items g (items_of older) no_reach) ∙ is in
          let same : replace_from (fold end_after 0 cs) (reach_all no_reach ds).starts ≡ starts_replace (reach_in g older).starts (reach_in g newer).starts =
          ap (λ e. replace_from e (reach_all no_reach ds).starts) (sym at) ∙ from_some s (reach_all no_reach ds).starts
          ∙ ap (λ t. starts_replace (Some s) t) (sym (ap (λ (r : Reach). r.starts) (reach_of_items g (items_of newer) no_reach))) ∙ ap (λ t. starts_replace t (reach_in g newer).starts) (sym starts) in
          ap (λ b. cond b [] (kept ds old)) (tells ∙ same) ∙ ap (λ xs. cond (starts_replace (reach_in g older).starts (reach_in g newer).starts) [] xs) left_is
    ]
  ]
    where
      from_some : (s : Starts) (n : Option Starts) → replace_from s.end n ≡ starts_replace (Some s) n
      from_some s None = refl
      from_some s (Some n) = refl

  abbrev front : List Entry
  front = cond (starts_replace (reach_in g older).starts (reach_in g newer).starts) [] (filter (λ e. reach_leaves (reach_in g newer) e.0) old)

  all_is : (after_batches no_contents (older ++ newer)).entries g ≡ front ++ new
  all_is =
      entries-after_batches no_contents (older ++ newer) g consecutive no_entries_run ∙ ap (after_changes []) (changes_append (items_of older) (items_of newer))
      ∙ changes_in_two cs ds (runs_of_items g (items_of older) both_parts.0) (runs_of_items g (items_of newer) both_parts.1)
      ∙ ap (λ xs. cond (drops (fold end_after 0 cs) ds) [] (kept ds xs) ++ after_changes [] ds) (sym old_is)
      ∙ ap (λ xs. xs ++ after_changes [] ds) front_is ∙ ap (λ xs. front ++ xs) (sym new_is)
    where
      changes_append : (xs ys : List Item) → changes_of g (items_of (older ++ newer)) ≡ cs ++ ds
      changes_append xs ys = ap (changes_of g) (items_append older newer) ∙ map-append (change_in g) (items_of older) (items_of newer)

  apart : Apart front new
  apart = subst (Apart front) (sym new_is) (go (starts_replace (reach_in g older).starts (reach_in g newer).starts))
    where
      go : (b : Bool) → Apart (cond b [] (filter (λ e. reach_leaves (reach_in g newer) e.0) old)) (after_changes [] ds)
      go true = tt
      go false = subst (λ xs. Apart xs (after_changes [] ds)) left_is (apart_new ds old (runs_of_items g (items_of newer) both_parts.1))

  run : AreRun (front ++ new)
  run = subst AreRun (sym (entries-after_batches no_contents (older ++ newer) g consecutive no_entries_run) ∙ all_is) (run_after_changes (changes_of g (items_of (older ++ newer))) [] (runs_of_items g (items_of (older ++ newer)) consecutive) no_entries_run)

  pub merged_is : (after_batches no_contents (older ++ newer)).entries g ≡ merged_entries (reach_in g older) (reach_in g newer) old new
  merged_is = all_is ∙ sym (with_entries-run run.0 front new (runs_left run.0 front new run.1) ∙ put_on-next front new run apart)

pub values_of_both : (older newer : List Batch) (g : ℕ) (k : List ℕ) → (after_batches no_contents (older ++ newer)).value g k ≡ cond (leaves_key newer g k) ((after_batches no_contents older).value g k) ((after_batches no_contents newer).value g k)
values_of_both older newer g k =
    value-after_batches no_contents (older ++ newer) g k ∙ ap (value_after g k None) (items_append older newer)
    ∙ fold-append (value_after_item g k) None (items_of older) (items_of newer)
    ∙ items_leave g k (items_of newer) (value_after g k None (items_of older)) None
    ∙ ap (λ v. cond (leaves_key newer g k) v (value_after g k None (items_of newer))) (sym (value-after_batches no_contents older g k))
    ∙ ap (λ v. cond (leaves_key newer g k) ((after_batches no_contents older).value g k) v) (sym (value-after_batches no_contents newer g k))

-- Keys that are left alone.

put_touched : (mark at c d : Bool) (value : List ℕ) (v : Option (List ℕ)) → (not (c || (d || is_some v)) && (not at || mark)) ≡ not (c || (d || is_some (cond mark v (cond at (Some value) v))))
put_touched true at c d value v = ap (λ b. not (c || (d || is_some v)) && b) (or_true (not at)) ∙ and_true (not (c || (d || is_some v)))
put_touched false true c d value v = and_false (not (c || (d || is_some v))) ∙ sym (ap not (ap (λ b. c || b) (or_true d) ∙ or_true c))
put_touched false false c d value v = and_true (not (c || (d || is_some v)))

delete_touched : (at c d : Bool) (v : Option (List ℕ)) → (not (c || (d || is_some v)) && not at) ≡ not (c || ((d || at) || is_some (cond at None v)))
delete_touched true c d v = and_false (not (c || (d || is_some v))) ∙ sym (ap not (ap (λ b. c || (b || false)) (or_true d) ∙ or_true c))
delete_touched false c d v = and_true (not (c || (d || is_some v))) ∙ ap (λ b. not (c || (b || is_some v))) (sym (or_false d))

content_touched : (k : List ℕ) (content : Content) (r : Reach) (d : Bool) (v : Option (List ℕ)) → (not (r.cleaned || (d || is_some v)) && content_leaves_key k content)
    ≡ not ((reach_then r (reach_by content)).cleaned || (deleted_by k d content || is_some (value_after_content k v content)))
content_touched k (Entries []) r d v = and_true (not (r.cleaned || (d || is_some v)))
content_touched k (Entries (e ∷ es)) r d v = and_true (not (r.cleaned || (d || is_some v)))
content_touched k Clean r d v = and_false (not (r.cleaned || (d || is_some v)))
content_touched k (Compact index) r d v = and_true (not (r.cleaned || (d || is_some v)))
content_touched k (Put key value) r d v = put_touched (bytes_eq key group_mark_key) (bytes_eq k key) r.cleaned d value v
content_touched k (Delete key) r d v = delete_touched (bytes_eq k key) r.cleaned d v

item_touched : (same : Bool) (k : List ℕ) (content : Content) (r : Reach) (d : Bool) (v : Option (List ℕ)) → (not (r.cleaned || (d || is_some v)) && cond same (content_leaves_key k content) true)
    ≡ not ((cond same (reach_then r (reach_by content)) r).cleaned || (cond same (deleted_by k d content) d || is_some (cond same (value_after_content k v content) v)))
item_touched true k content r d v = content_touched k content r d v
item_touched false k content r d v = and_true (not (r.cleaned || (d || is_some v)))

and_step : (a b c d : Bool) → (a && b) ≡ c → (a && (b && d)) ≡ (c && d)
and_step true b c d is = ap (λ x. x && d) is
and_step false b c d is = ap (λ x. x && d) is

fold_touched : (g : ℕ) (k : List ℕ) (items : List Item) (r : Reach) (d : Bool) (v : Option (List ℕ)) → (not (r.cleaned || (d || is_some v)) && list_all (item_leaves_key g k) items)
    ≡ not ((fold (reach_after g) r items).cleaned || (fold (deleted_after g k) d items || is_some (value_after g k v items)))
fold_touched g k [] r d v = and_true (not (r.cleaned || (d || is_some v)))
fold_touched g k (item ∷ items) r d v =
    and_step (not (r.cleaned || (d || is_some v))) (item_leaves_key g k item) _ (list_all (item_leaves_key g k) items) (item_touched (eqb g item.group) k item.content r d v)
    ∙ fold_touched g k items (reach_after g r item) (deleted_after g k d item) (value_after_item g k v item)

pub touched_by_reach : (g : ℕ) (k : List ℕ) (batches : List Batch) → leaves_key batches g k ≡ not ((reach_in g batches).cleaned || (deleted_in g k batches || is_some ((after_batches no_contents batches).value g k)))
touched_by_reach g k batches =
    fold_touched g k (items_of batches) no_reach false None
    ∙ ap (λ v. not ((reach_in g batches).cleaned || (deleted_in g k batches || is_some v))) (sym (value-after_batches no_contents batches g k))

pub entries_joined : (x : Contents) (appended : List Batch) (g : ℕ) → (replay x appended).entries g ≡ with_entries (filter (λ e. reach_leaves (reach_in g appended) e.0) (x.entries g)) ((after_batches no_contents appended).entries g)
entries_joined x appended g = ap (λ w. with_entries w ((after_batches no_contents appended).entries g)) (filter_agree (λ e. leaves appended g e.0) (λ e. reach_leaves (reach_in g appended) e.0) (λ e. left_by_reach g e.0 appended) (x.entries g))
