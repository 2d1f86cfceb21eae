-- Indexes that stay below a bound, and the key of the marks of atomic groups, which has no value.
use Rattle.std.proofs.Common.{◌≡◌, ℕ, ◌<◌, ◌==◌, Bool, true, false, cond, List, [], ◌∷◌, ◌++◌, filter, fold, Option, Some, None, refl, sym, ◌∙◌, ap, subst}
use Rattle.std.specs.List.{AllByRecursion as Each}
use Rattle.std.specs.Str.{bytes_eq}
use Rattle.std.specs.Prelude.{nat_le, nat_lt}
use Rattle.std.specs.Cmp.Lexicographic.{bytes_decides, nat_list_eq_equiv}
use Rattle.raft_records.specs.Contents.{Contents, after_batches, after_content, after_item, entries_below, is_next_to, no_contents, with_entries, with_value}
use Rattle.raft_records.specs.Item.{Batch, Content, Entries, Entry, Clean, Compact, Put, Delete, Item, group_mark_key}
use Rattle.raft_recovery_laws.specs.Recovered.{items_of, replay}
use Rattle.raft_recovery_laws.proofs.KeyLemmas.{after_batches-items_of, value-after_batches, value-replay, value_after, value_after_content}
use Rattle.raft_recovery_laws.specs.Bounds.{AreItemsBelow, HasIndexesBelow, IsContentBelow}
use Rattle.raft_recovery_laws.proofs.EachLemmas.{each_append, each_filter}

below_with : (bound : ℕ) (old new : List Entry) → Each (λ e. e.0 < bound) old → Each (λ e. e.0 < bound) new → Each (λ e. e.0 < bound) (with_entries old new)
below_with bound old [] is_old is_new = is_old
below_with bound old (e ∷ es) is_old is_new = at (is_next_to old e.0)
  where
    at : (b : Bool) → Each (λ x. x.0 < bound) (cond b (entries_below e.0 old ++ e ∷ es) (e ∷ es))
    at true = each_append (λ x. x.0 < bound) (entries_below e.0 old) (e ∷ es) (each_filter (λ x. x.0 < bound) (λ x. nat_lt x.0 e.0) old is_old) is_new
    at false = is_new

either_below : (bound : ℕ) (b : Bool) (new old : List Entry) → Each (λ e. e.0 < bound) new → Each (λ e. e.0 < bound) old → Each (λ e. e.0 < bound) (cond b new old)
either_below bound true new old is_new is_old = is_new
either_below bound false new old is_new is_old = is_old

pub content_below : (bound group : ℕ) (content : Content) (m : Contents) → IsContentBelow bound content → HasIndexesBelow bound m → HasIndexesBelow bound (after_content group content m)
content_below bound group (Entries es) m is all g = either_below bound (g == group) (with_entries (m.entries group) es) (m.entries g) (below_with bound (m.entries group) es (all group) is) (all g)
content_below bound group Clean m is all g = either_below bound (g == group) [] (m.entries g) tt (all g)
content_below bound group (Compact index) m is all g = either_below bound (g == group) (filter (λ e. nat_le index e.0) (m.entries group)) (m.entries g) (each_filter (λ x. x.0 < bound) (λ x. nat_le index x.0) (m.entries group) (all group)) (all g)
content_below bound group (Put key value) m is all g = at (bytes_eq key group_mark_key)
  where
    at : (b : Bool) → Each (λ e. e.0 < bound) ((cond b m (with_value group key (Some value) m)).entries g)
    at true = all g
    at false = all g
content_below bound group (Delete key) m is all g = all g

items_below : (bound : ℕ) (m : Contents) (items : List Item) → AreItemsBelow bound items → HasIndexesBelow bound m → HasIndexesBelow bound (fold after_item m items)
items_below bound m [] is all = all
items_below bound m (item ∷ items) is all = items_below bound (after_item m item) items is.1 (content_below bound item.group item.content m is.0 all)

pub batches_below : (bound : ℕ) (batches : List Batch) → AreItemsBelow bound (items_of batches) → HasIndexesBelow bound (after_batches no_contents batches)
batches_below bound batches is = subst (HasIndexesBelow bound) (sym (after_batches-items_of no_contents batches)) (items_below bound no_contents (items_of batches) is (λ g. tt))

-- the key of the marks

mark_stays : (content : Content) → value_after_content group_mark_key None content ≡ None
mark_stays (Entries es) = refl
mark_stays Clean = refl
mark_stays (Compact index) = refl
mark_stays (Put key value) = at (bytes_eq key group_mark_key) (bytes_eq group_mark_key key) (nat_list_eq_equiv.symm key group_mark_key)
  where
    at : (a b : Bool) → a ≡ b → cond a None (cond b (Some value) None) ≡ None
    at true b same = refl
    at false true same = absurd (cc)
    at false false same = refl
mark_stays (Delete key) = at (bytes_eq group_mark_key key)
  where
    at : (b : Bool) → let none : Option (List ℕ) = None in cond b none none ≡ none
    at true = refl
    at false = refl

marks_stay : (g : ℕ) (items : List Item) (v : Option (List ℕ)) → v ≡ None → value_after g group_mark_key v items ≡ None
marks_stay g [] v none = none
marks_stay g (item ∷ items) v none = marks_stay g items _ (at (g == item.group))
  where
    at : (b : Bool) → cond b (value_after_content group_mark_key v item.content) v ≡ None
    at true = ap (λ w. value_after_content group_mark_key w item.content) none ∙ mark_stays item.content
    at false = none

pub no_mark_value : (batches : List Batch) (g : ℕ) → (after_batches no_contents batches).value g group_mark_key ≡ None
no_mark_value batches g = value-after_batches no_contents batches g group_mark_key ∙ marks_stay g (items_of batches) None refl

pub no_mark_recovered : (x : Contents) (appended : List Batch) (g : ℕ) → x.value g group_mark_key ≡ None → (replay x appended).value g group_mark_key ≡ None
no_mark_recovered x appended g none = value-replay x appended g group_mark_key ∙ marks_stay g (items_of appended) (x.value g group_mark_key) none
