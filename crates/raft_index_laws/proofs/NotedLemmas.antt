-- The marks of a valid batch are the same whatever the tables hold.
use Rattle.std.proofs.Common.{◌≡◌, ℕ, ◌+◌, ◌≤◌, ◌&&◌, true, false, cond, List, [], ◌∷◌, length, map, None, refl, sym, ◌∙◌, ap, subst, ⊎_elim, arith}
use Rattle.std.specs.List.{list_all}
use Rattle.std.specs.Prelude.{nat_le, nat_lt}
use Rattle.std.proofs.lemmas.Bool.{and_parts, leb-true}
use Rattle.std.proofs.lemmas.Bool.Decides.{nat_tests}
use Rattle.raft_base.specs.declared.pipe_log.FileId.{FileId}
use Rattle.raft_records.specs.declared.entry_index.EntryPlace.{EntryPlace}
use Rattle.raft_records.specs.Contents.{is_next_to}
use Rattle.raft_records.specs.Item.{Entry, Entries, Clean, Compact, Put, Delete}
use Rattle.raft_records.specs.PlacedItem.{PlacedContent, EntriesAt, Plain, PlacedItem, content_in, item_in, is_placed_in_order}
use Rattle.raft_records.specs.Places.{Blocks, entries_in}
use Rattle.raft_records.specs.Validity.{batch_refusal, content_refusal, entries_refusal}
use Rattle.raft_recovery_laws.proofs.ContentsLemmas.{valid_first}
use Rattle.raft_tables.specs.Owed.{Marks, Owed, leaves_hole, marks_after, marks_noted, owed_after, owed_after_item, owed_noted, owed_noted_by, with_compaction, with_marks}
use Rattle.raft_tables.specs.Tables.{Tables, contents_in, or_empty, tables_after_item}
use Rattle.raft_tables.proofs.ContentsLemmas.{contents_after_item}
use Rattle.raft_index_laws.proofs.WrittenLemmas.{placed_fits}

no_hole_behind : (es : List (ℕ × EntryPlace)) (s : ℕ) → is_next_to es s ≡ true → leaves_hole es s ≡ false
no_hole_behind [] s next = refl
no_hole_behind (f ∷ fs) s next = not_past (f.0 + length (f ∷ fs)) s (leb-true s (f.0 + length (f ∷ fs)) (and_parts (nat_le f.0 s) (nat_le s (f.0 + length (f ∷ fs))) next).1)
  where
    not_past : (a b : ℕ) → b ≤ a → nat_lt a b ≡ false
    not_past a b is = grind (arith, nat_tests)

content_noted : (blocks : Blocks) (c : PlacedContent) (es : List (ℕ × EntryPlace)) (m : Marks) → is_placed_in_order c ≡ true → ((new : List Entry) → content_in blocks c ≡ Entries new → entries_refusal (entries_in blocks es) new ≡ None) → marks_after c es m ≡ marks_noted c m
content_noted blocks (EntriesAt []) es m in_order fits = refl
content_noted blocks (EntriesAt (e ∷ new)) es m in_order fits =
    ap (λ b. cond (b && leaves_hole es e.0) (with_compaction m) m) in_order
    ∙ ap (λ b. cond b (with_compaction m) m) (⊎_elim (λ none. ap (λ xs. leaves_hole xs e.0) none) (λ next. no_hole_behind es e.0 next) (placed_fits blocks es e new (fits (entries_in blocks (e ∷ new)) refl)))
content_noted blocks (Plain (Entries entries)) es m in_order fits = refl
content_noted blocks (Plain Clean) es m in_order fits = refl
content_noted blocks (Plain (Compact index)) es m in_order fits = refl
content_noted blocks (Plain (Put key value)) es m in_order fits = refl
content_noted blocks (Plain (Delete key)) es m in_order fits = refl

refusal_of : (blocks : Blocks) (t : Tables) (group : ℕ) (c : _) (es : List Entry) → c ≡ Entries es → content_refusal (contents_in blocks t) group c ≡ None → entries_refusal (entries_in blocks (or_empty (t group)).entries) es ≡ None
refusal_of blocks t group c es is none = subst (λ d. content_refusal (contents_in blocks t) group d ≡ None) is none

pub valid_noted : (blocks : Blocks) (id : FileId) (t : Tables) (items : List PlacedItem) (owed : Owed) → list_all (λ item. is_placed_in_order item.content) items ≡ true → batch_refusal (contents_in blocks t) (map (item_in blocks) items) ≡ None
    → owed_after id t items owed ≡ owed_noted owed items
valid_noted blocks id t [] owed in_order valid = refl
valid_noted blocks id t (item ∷ items) owed in_order valid =
    let orders = and_parts (is_placed_in_order item.content) (list_all (λ i. is_placed_in_order i.content) items) in_order in
    let first = valid_first (contents_in blocks t) (item_in blocks item) (map (item_in blocks) items) valid in
    let noted = content_noted blocks item.content (or_empty (t item.group)).entries (owed item.group) orders.0 (λ es is. refusal_of blocks t item.group (content_in blocks item.content) es is first.0) in
    let one : owed_after_item t item owed ≡ owed_noted_by owed item = ap (λ (m : Marks). with_marks item.group m owed) noted in
    ap (owed_after id (tables_after_item id t item) items) one
    ∙ valid_noted blocks id (tables_after_item id t item) items (owed_noted_by owed item) orders.1 (subst (λ m. batch_refusal m (map (item_in blocks) items) ≡ None) (sym (contents_after_item id blocks t item.group item.content orders.0)) first.1)
