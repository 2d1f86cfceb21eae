-- Holes of ranges, one after the other.
use Rattle.std.proofs.Common.{◌≡◌, ◌==◌, ℕ, suc, ◌-◌, Bool, true, false, cond, List, [], ◌∷◌, ◌++◌, Option, Some, None, refl, sym, ◌∙◌, ap, length, map, append-nil, append_assoc, nat_eq, arith}
use Rattle.std.specs.Cmp.{nat_eq_equiv}
use Rattle.std.specs.Prelude.{slice_get}
use Rattle.std.proofs.lemmas.Map.{lookup-none}
use Rattle.std.proofs.lemmas.Map.Entries.{none_past_head}
use Rattle.std.specs.List.{IsDistinct}
use Rattle.std.specs.Map.{keys_of, lookup}
use Rattle.std.specs.Option.{option_and_then, option_map, option_or}
use Rattle.raft_records.specs.Contents.{first_index_of, last_index_of}
use Rattle.raft_records.specs.LogItem.{item_of}
use Rattle.raft_records.specs.declared.log_item.LogItem.{LogItem}
use Rattle.raft_records.specs.Places.{Blocks, entries_in, placed_entry}
use Rattle.raft_records.specs.PlacedItem.{PlacedContent, EntriesAt, Plain, PlacedItem, content_in, item_in}
use Rattle.raft_records.specs.declared.entry_index.EntryIndex.{EntryIndex}
use Rattle.raft_records.specs.declared.entry_index.EntryPlace.{EntryPlace}
use Rattle.raft_consistency.specs.Holes.{IndexRange, hole_after, hole_before, kept_of, kept_then, last_after, range_by, range_of, ranges_by, ranges_of}
use Rattle.raft_consistency.specs.declared.checker.GroupEntries.{GroupEntries}

pub or_none : {X : Type 0} (a : Option X) → option_or a None ≡ a
or_none None = refl
or_none (Some x) = refl

pub or_join : {X : Type 0} (a b c : Option X) → option_or (option_or a b) c ≡ option_or a (option_or b c)
or_join None b c = refl
or_join (Some x) b c = refl

-- the last one of two lists of ranges, and the first hole in them
last-append : (last : ℕ) (rs : List IndexRange) (s : IndexRange) (ss : List IndexRange) → last_after last (rs ++ s ∷ ss) ≡ last_after s.1 ss
last-append last [] s ss = refl
last-append last (r ∷ rs) s ss = last-append r.1 rs s ss

hole-append : (last : ℕ) (rs : List IndexRange) (s : IndexRange) (ss : List IndexRange)
    → hole_after last (rs ++ s ∷ ss) ≡ option_or (option_or (hole_after last rs) (hole_before (last_after last rs) s.0)) (hole_after s.1 ss)
hole-append last [] s ss = refl
hole-append last (r ∷ rs) s ss =
    ap (option_or (hole_before last r.0)) (hole-append r.1 rs s ss)
    ∙ sym (or_join (hole_before last r.0) (option_or (hole_after r.1 rs) (hole_before (last_after r.1 rs) s.0)) (hole_after s.1 ss))
    ∙ ap (λ o. option_or o (hole_after s.1 ss)) (sym (or_join (hole_before last r.0) (hole_after r.1 rs) (hole_before (last_after r.1 rs) s.0)))

kept_three : (f l m : ℕ) (h k : Option ℕ) → l ≡ m → h ≡ k → Some (let g : GroupEntries = record { first = f; last = l; hole = h } in g) ≡ Some (record { first = f; last = m; hole = k })
kept_three f l m h k same_last same_hole = cc

-- what is kept of two lists of ranges
pub kept-append : (rs ss : List IndexRange) → kept_of (rs ++ ss) ≡ kept_then (kept_of rs) (kept_of ss)
kept-append rs [] = ap kept_of (append-nil rs)
kept-append [] (s ∷ ss) = refl
kept-append (r ∷ rs) (s ∷ ss) = kept_three r.0 _ _ _ _ (last-append r.1 rs s ss) (hole-append r.1 rs s ss)

then_three : (f l : ℕ) (h k : Option ℕ) → h ≡ k → Some (let g : GroupEntries = record { first = f; last = l; hole = h } in g) ≡ Some (record { first = f; last = l; hole = k })
then_three f l h k same = cc

pub then_join : (a b c : Option GroupEntries) → kept_then (kept_then a b) c ≡ kept_then a (kept_then b c)
then_join a b None = refl
then_join a None (Some c) = refl
then_join None (Some b) (Some c) = refl
then_join (Some a) (Some b) (Some c) = then_three a.first c.last _ _ (holes_join a.hole (hole_before a.last b.first) b.hole (hole_before b.last c.first) c.hole)
  where
    holes_join : (p q r s t : Option ℕ) → option_or (option_or (option_or (option_or p q) r) s) t ≡ option_or (option_or p q) (option_or (option_or r s) t)
    holes_join p q r s t = ap (λ o. option_or o t) (or_join (option_or p q) r s) ∙ or_join (option_or p q) (option_or r s) t

-- one more item's ranges
pub kept_more : (old : Option GroupEntries) (rs ss : List IndexRange) → kept_then (kept_then old (kept_of rs)) (kept_of ss) ≡ kept_then old (kept_of (rs ++ ss))
kept_more old rs ss = then_join old (kept_of rs) (kept_of ss) ∙ ap (kept_then old) (sym (kept-append rs ss))

-- the indexes of entries, whatever their bytes are
first_same : (blocks : Blocks) (es : List (ℕ × EntryPlace)) → first_index_of (entries_in blocks es) ≡ first_index_of es
first_same blocks [] = refl
first_same blocks (e ∷ es) = refl

last_same : (blocks : Blocks) (es : List (ℕ × EntryPlace)) → last_index_of (entries_in blocks es) ≡ last_index_of es
last_same blocks [] = refl
last_same blocks (e ∷ []) = refl
last_same blocks (e ∷ (f ∷ es)) = last_same blocks (f ∷ es)

range_same : (blocks : Blocks) (p : PlacedContent) → range_by (content_in blocks p) ≡ range_by (content_in (λ _. []) p)
range_same blocks (EntriesAt es) =
    ap (λ f. range_of f (last_index_of (entries_in blocks es))) (first_same blocks es ∙ sym (first_same (λ _. []) es))
    ∙ ap (range_of (first_index_of (entries_in (λ _. []) es))) (last_same blocks es ∙ sym (last_same (λ _. []) es))
range_same blocks (Plain content) = refl

-- a batch's items have the ranges that they have without bytes
pub ranges_under : (group : ℕ) (blocks : Blocks) (items : List PlacedItem) → ranges_of group (map (item_in blocks) items) ≡ ranges_of group (map (item_in (λ _. [])) items)
ranges_under group blocks [] = refl
ranges_under group blocks (item ∷ items) =
    ap (λ rs. cond (group == item.group) rs [] ++ ranges_of group (map (item_in blocks) items)) (range_same blocks item.content)
    ∙ ap (λ rs. ranges_by group (item_in (λ _. []) item) ++ rs) (ranges_under group blocks items)

-- the first and the last of placed entries
first_index : (es : List EntryIndex) (x : EntryIndex) → slice_get es 0 ≡ Some x → first_index_of (entries_in (λ _. []) (map placed_entry es)) ≡ Some x.index
first_index [] x is = absurd cc
first_index (e ∷ es) x is = ap (option_map (λ (e : EntryIndex). e.index)) is

last_index : (es : List EntryIndex) (x : EntryIndex) → slice_get es (length es - 1) ≡ Some x → last_index_of (entries_in (λ _. []) (map placed_entry es)) ≡ Some x.index
last_index [] x is = absurd cc
last_index (e ∷ []) x is = ap (option_map (λ (e : EntryIndex). e.index)) is
last_index (e ∷ (f ∷ es)) x is =
    let next : suc (length (f ∷ es) - 1) ≡ length (e ∷ (f ∷ es)) - 1 = omega arith in
    last_index (f ∷ es) x (ap (slice_get (e ∷ (f ∷ es))) next ∙ is)

pub entries_range : (es : List EntryIndex) (first last : EntryIndex) → slice_get es 0 ≡ Some first → slice_get es (length es - 1) ≡ Some last
    → kept_of (range_by (content_in (λ _. []) (EntriesAt (map placed_entry es)))) ≡ Some (record { first = first.index; last = last.index; hole = None })
entries_range es first last f l =
    ap (λ x. kept_of (range_of x (last_index_of (entries_in (λ _. []) (map placed_entry es))))) (first_index es first f)
    ∙ ap (λ x. kept_of (range_of (Some first.index) x)) (last_index es last l)

pub no_range : (es : List EntryIndex) → slice_get es 0 ≡ None → kept_of (range_by (content_in (λ _. []) (EntriesAt (map placed_entry es)))) ≡ None
no_range [] is = refl
no_range (e ∷ es) is = absurd cc

-- the ranges of one more item
pub ranges_more : (group : ℕ) (items : List LogItem) (item : LogItem) → ranges_of group (map item_of (items ++ item ∷ [])) ≡ ranges_of group (map item_of items) ++ ranges_by group (item_of item)
ranges_more group [] item = append-nil (ranges_by group (item_of item))
ranges_more group (i ∷ items) item =
    ap (λ rs. ranges_by group (item_of i) ++ rs) (ranges_more group items item)
    ∙ sym (append_assoc (ranges_by group (item_of i)) (ranges_of group (map item_of items)) (ranges_by group (item_of item)))

-- one more group of a map
abbrev pub Groups : Type 0
Groups = List (ℕ × GroupEntries)

nothing_behind : (e : ℕ × GroupEntries) (es : Groups) (g : ℕ) → IsDistinct nat_eq (keys_of (e ∷ es)) → (e.0 == g) ≡ true → lookup (nat_eq g) es ≡ None
nothing_behind e es g distinct same = lookup-none (nat_eq g) es (none_past_head nat_eq_equiv g e es distinct (nat_eq_equiv.symm g e.0 ∙ same))

pub joined_first : (e : ℕ × GroupEntries) (es : Groups) (g : ℕ) (old new : Option GroupEntries) → IsDistinct nat_eq (keys_of (e ∷ es)) → new ≡ kept_then old (cond (e.0 == g) (Some e.1) None)
    → kept_then new (lookup (nat_eq g) es) ≡ kept_then old (lookup (nat_eq g) (e ∷ es))
joined_first e es g old new distinct is = at (e.0 == g) (nat_eq_equiv.symm g e.0) (lookup (nat_eq g) es) (nothing_behind e es g distinct) is
  where
    at : (b : Bool) → nat_eq g e.0 ≡ b → (rest : Option GroupEntries) → (b ≡ true → rest ≡ None) → new ≡ kept_then old (cond b (Some e.1) None) → kept_then new rest ≡ kept_then old (cond (nat_eq g e.0) (Some e.1) rest)
    at true same rest none is = ap (kept_then new) (none refl) ∙ is ∙ ap (λ c. kept_then old (cond c (Some e.1) rest)) (sym same)
    at false other rest none is = ap (λ o. kept_then o rest) is ∙ ap (λ c. kept_then old (cond c (Some e.1) rest)) (sym other)

abbrev pub hole_of : Option GroupEntries → Option ℕ
hole_of kept = option_and_then (λ k. k.hole) kept

pub hole_first : (e : ℕ × GroupEntries) (es : Groups) (g : ℕ) (old new : Option ℕ) → IsDistinct nat_eq (keys_of (e ∷ es)) → new ≡ cond (e.0 == g) (option_or e.1.hole old) old
    → option_or (hole_of (lookup (nat_eq g) es)) new ≡ option_or (hole_of (lookup (nat_eq g) (e ∷ es))) old
hole_first e es g old new distinct is = at (e.0 == g) (nat_eq_equiv.symm g e.0) (lookup (nat_eq g) es) (nothing_behind e es g distinct) is
  where
    at : (b : Bool) → nat_eq g e.0 ≡ b → (rest : Option GroupEntries) → (b ≡ true → rest ≡ None) → new ≡ cond b (option_or e.1.hole old) old
        → option_or (hole_of rest) new ≡ option_or (hole_of (cond (nat_eq g e.0) (Some e.1) rest)) old
    at true same rest none is = ap (λ r. option_or (hole_of r) new) (none refl) ∙ is ∙ ap (λ c. option_or (hole_of (cond c (Some e.1) rest)) old) (sym same)
    at false other rest none is = ap (option_or (hole_of rest)) is ∙ ap (λ c. option_or (hole_of (cond c (Some e.1) rest)) old) (sym other)
