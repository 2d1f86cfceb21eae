-- What is true of the entries after a batch was written to the Append queue and applied.
use Rattle.std.proofs.Common.{◌≡◌, ℕ, ◌+◌, ◌≤◌, ◌==◌, ◌&&◌, ◌⊎◌, inl, inr, Bool, true, false, cond, List, [], ◌∷◌, length, map, filter, Option, Some, None, suc, refl, sym, ◌∙◌, ap, subst, ⊎_elim, arith}
use Rattle.std.specs.List.{AllByRecursion as Each, list_all, list_any}
use Rattle.std.specs.Option.{option_map}
use Rattle.std.specs.Str.{bytes_eq}
use Rattle.std.specs.Prelude.{unwrap_or, nat_le, nat_lt}
use Rattle.std.proofs.lemmas.Bool.{and_parts, false≢true, leb-true}
use Rattle.std.proofs.lemmas.Bool.Decides.{nat_tests}
use Rattle.raft_base.specs.declared.errors.Fault.{Fault}
use Rattle.raft_base.specs.declared.pipe_log.FileBlockHandle.{FileBlockHandle}
use Rattle.raft_base.specs.declared.pipe_log.LogQueue.{LogQueue}
use Rattle.raft_base.specs.declared.pipe_log.LogQueue.TheVariants.{Append, Rewrite}
use Rattle.raft_records.specs.FileBatches.{AreInFile}
use Rattle.raft_records.specs.declared.entry_index.EntryPlace.{EntryPlace}
use Rattle.raft_records.specs.Contents.{Contents, is_next_to, with_entries}
use Rattle.raft_records.specs.Item.{Entry, Entries, Clean, Compact, Put, Delete, Item, group_mark_key}
use Rattle.raft_records.specs.PlacedItem.{PlacedContent, EntriesAt, Plain, PlacedItem, content_in, item_in, is_placed_in_order}
use Rattle.raft_records.specs.Places.{Blocks, entry_in, entries_in}
use Rattle.raft_records.specs.Validity.{are_consecutive_from, batch_refusal, content_refusal, entries_refusal, fits_behind}
use Rattle.raft_recovery_laws.specs.Consecutive.{HasConsecutiveEntries, HaveConsecutiveEntries}
use Rattle.raft_recovery_laws.specs.Recovered.{content_leaves, item_leaves}
use Rattle.raft_recovery_laws.proofs.ContentsLemmas.{after_batches_consecutive, consecutive_one, valid_first, valid_is_consecutive}
use Rattle.raft_tables.specs.Table.{TableView, with_entries_at}
use Rattle.raft_tables.specs.Tables.{Tables, contents_in, or_empty, table_after, tables_after, tables_after_item}
use Rattle.raft_tables.proofs.ContentsLemmas.{contents_after_item, entries-delete}
use Rattle.raft_tables.specs.Owed.{Marks, Owed, leaves_hole, marks_after, owed_after, owed_after_item}
use Rattle.raft_index_laws.specs.Standing.{EntryStands, GroupStands, PlacedEntryStands, StandsInBlock, rank_in, rank_of}
use Rattle.raft_index_laws.proofs.DropLemmas.{mapped_length, placed_run}
use Rattle.raft_recovery_laws.proofs.EachLemmas.{each_map}
use Rattle.raft_index_laws.proofs.GroupLemmas.{group_cleaned, group_compacted, group_less, group_written}
use Rattle.raft_index_laws.proofs.KeyLemmas.{both_less, eq_from_test, hole_cleaned, in_append, le_self, set_now, stays_less}

-- entries that stand stand in no later file than the queue has
pub bounded_rank : (left : ℕ → ℕ → Bool) (marks : Marks) (held : List Entry) (seq : ℕ) (e : Entry) (block : Option FileBlockHandle) → ((n i : ℕ) → left n i ≡ false → n ≤ seq) → StandsInBlock left marks held e block
    → unwrap_or (option_map (λ (b : FileBlockHandle). rank_in b.id.seq b.id.queue) block) 0 ≤ seq + 1
bounded_rank left marks held seq e None bounded stands = absurd stands
bounded_rank left marks held seq e (Some block) bounded stands = at block.id.queue stands
  where
    at : (queue : LogQueue) → PlacedEntryStands left marks held e block.id.seq queue → rank_in block.id.seq queue ≤ seq + 1
    at Append is = let low = bounded block.id.seq e.0 (is e.0 (omega arith)) in omega (arith, low)
    at Rewrite is = omega arith

-- where entries that aren't refused start
not_refused : (too_great fit : Bool) (f g : Fault) → cond too_great (Some f) (cond fit None (Some g)) ≡ None → fit ≡ true
not_refused true fit f g is = absurd (cc)
not_refused false true f g is = refl
not_refused false false f g is = absurd (cc)

fits_next : (old : List Entry) (e : Entry) (es : List Entry) → fits_behind old (e ∷ es) ≡ true → ((old ≡ []) ⊎ (is_next_to old e.0 ≡ true))
fits_next [] e es is = inl refl
fits_next (o ∷ old) e es is = inr (and_parts (are_consecutive_from e.0 (e ∷ es)) (is_next_to (o ∷ old) e.0) is).1

pub placed_next : (blocks : Blocks) (es : List (ℕ × EntryPlace)) (s : ℕ) → is_next_to (entries_in blocks es) s ≡ is_next_to es s
placed_next blocks [] s = refl
placed_next blocks (x ∷ xs) s = ap (λ n. nat_le x.0 s && nat_le s (x.0 + suc n)) (mapped_length blocks xs)

pub placed_none : (blocks : Blocks) (es : List (ℕ × EntryPlace)) → entries_in blocks es ≡ [] → es ≡ []
placed_none blocks [] is = refl
placed_none blocks (x ∷ xs) is = absurd (none (ap length is))
  where
    none : suc (length (entries_in blocks xs)) ≡ 0 → ⊥
    none is = omega (arith, is)

pub placed_fits : (blocks : Blocks) (es : List (ℕ × EntryPlace)) (e : ℕ × EntryPlace) (new : List (ℕ × EntryPlace)) → entries_refusal (entries_in blocks es) (entries_in blocks (e ∷ new)) ≡ None → ((es ≡ []) ⊎ (is_next_to es e.0 ≡ true))
placed_fits blocks es e new is =
    ⊎_elim (λ none. inl (placed_none blocks es none)) (λ next. inr (sym (placed_next blocks es e.0) ∙ next))
    (fits_next (entries_in blocks es) (entry_in blocks e) (entries_in blocks new) (not_refused (list_any (λ (x : Entry). x.0 == 18446744073709551615) (entries_in blocks (e ∷ new))) (fits_behind (entries_in blocks es) (entries_in blocks (e ∷ new))) _ _ is))

hole_compacted : (b : Bool) (m : Marks) → (cond b (record m { compacted = true }) m).compacted ≡ false → m.compacted ≡ false
hole_compacted true m is = absurd (false≢true (sym is))
hole_compacted false m is = is

pub entries_of_either : (b : Bool) (u v : Option TableView) → (or_empty (cond b u v)).entries ≡ cond b (or_empty u).entries (or_empty v).entries
entries_of_either true u v = refl
entries_of_either false u v = refl

pub same_either : {X : Type 0} (b : Bool) (x : X) → cond b x x ≡ x
same_either true x = refl
same_either false x = refl

pub filtered : (index : ℕ) (t : Option TableView) → (or_empty (option_map (λ v. with_entries_at (filter (λ e. nat_le index e.0) v.entries) v) t)).entries ≡ filter (λ e. nat_le index e.0) (or_empty t).entries
filtered index None = refl
filtered index (Some v) = refl

pub not_below : (i s : ℕ) → s ≤ i → nat_lt i s ≡ false
not_below i s is = grind (arith, nat_tests)

pub content_written : (blocks : Blocks) (c : PlacedContent) (left left' : ℕ → ℕ → Bool) (seq : ℕ) (marks : Marks) (held : List Entry) (t : Option TableView)
    → ((n i : ℕ) → left n i ≡ false → left' n i ≡ false) → ((n i : ℕ) → left n i ≡ false → n ≤ seq) → ((i : ℕ) → content_leaves i (content_in blocks c) ≡ false → left' seq i ≡ false)
    → is_placed_in_order c ≡ true → AreInFile Append seq c → ((es : List Entry) → content_in blocks c ≡ Entries es → entries_refusal (entries_in blocks (or_empty t).entries) es ≡ None)
    → ((n : ℕ × EntryPlace) (others : List (ℕ × EntryPlace)) → (or_empty t).entries ≡ n ∷ others → are_consecutive_from n.0 (n ∷ others) ≡ true)
    → GroupStands blocks left marks held (or_empty t).entries
    → GroupStands blocks left' (marks_after c (or_empty t).entries marks) held (or_empty (table_after (in_append seq) c t)).entries
content_written blocks (EntriesAt []) left left' seq marks held t less bounded set in_order placed fits run stands = group_less blocks left left' marks marks held (or_empty t).entries less refl (λ is. is) stands
content_written blocks (EntriesAt (e ∷ new)) left left' seq marks held t less bounded set in_order placed fits run stands =
    let es = (or_empty t).entries in
    let hole = leaves_hole es e.0 in
    let ordered = (and_parts (are_consecutive_from e.0 (e ∷ new)) (nat_lt (e.0 + length (e ∷ new)) 18446744073709551616) in_order).0 in
    subst (λ b. GroupStands blocks left' (cond (b && hole) (record marks { compacted = true }) marks) held (or_empty (cond b (Some (with_entries_at (with_entries es (e ∷ new)) (or_empty t))) t)).entries) (sym in_order)
    (group_less blocks left' left' marks (cond hole (record marks { compacted = true }) marks) held (with_entries es (e ∷ new)) (λ n i is. is) (hole_cleaned hole marks) (hole_compacted hole marks)
    (group_written blocks left left' marks held es seq e new less (λ i le. set i (not_below i e.0 le)) placed ordered run
    (each_map (EntryStands blocks left marks held) (λ o. rank_of o.1 ≤ seq + 1) es (λ o is. bounded_rank left marks held seq (entry_in blocks o) o.1.block bounded is) stands.each)
    (placed_fits blocks es e new (fits (entries_in blocks (e ∷ new)) refl)) stands))
content_written blocks (Plain (Entries entries)) left left' seq marks held t less bounded set in_order placed fits run stands = absurd (false≢true in_order)
content_written blocks (Plain Clean) left left' seq marks held t less bounded set in_order placed fits run stands = group_cleaned blocks left' (record { cleaned = true; compacted = false; deleted = λ _. false }) held refl
content_written blocks (Plain (Compact index)) left left' seq marks held t less bounded set in_order placed fits run stands =
    subst (GroupStands blocks left' (record marks { compacted = true }) held) (sym (filtered index t))
    (group_compacted blocks left left' marks (record marks { compacted = true }) held index (or_empty t).entries less refl refl run stands)
content_written blocks (Plain (Put key value)) left left' seq marks held t less bounded set in_order placed fits run stands =
    subst (GroupStands blocks left' marks held) (sym (entries_of_either (bytes_eq key group_mark_key) t _ ∙ same_either (bytes_eq key group_mark_key) (or_empty t).entries))
    (group_less blocks left left' marks marks held (or_empty t).entries less refl (λ is. is) stands)
content_written blocks (Plain (Delete key)) left left' seq marks held t less bounded set in_order placed fits run stands =
    subst (GroupStands blocks left' (marks_after (Plain (Delete key)) (or_empty t).entries marks) held) (sym (entries-delete key t))
    (group_less blocks left left' marks (marks_after (Plain (Delete key)) (or_empty t).entries marks) held (or_empty t).entries less refl (λ is. is) stands)

-- a batch

-- the ends that leave an index alone, once a batch with this in it stands in a file
abbrev pub leave_after : (ℕ → ℕ → Bool) → ℕ → (ℕ → Bool) → ℕ → ℕ → Bool
leave_after left seq leaves n i = left n i && cond (nat_le n seq) (leaves i) true

pub still_bounded : (n seq : ℕ) (a leaves : Bool) → (a ≡ false → n ≤ seq) → (a && cond (nat_le n seq) leaves true) ≡ false → n ≤ seq
still_bounded n seq a leaves low is = at a (nat_le n seq) refl low is
  where
    at : (b c : Bool) → nat_le n seq ≡ c → (b ≡ false → n ≤ seq) → (b && cond c leaves true) ≡ false → n ≤ seq
    at false c test low is = low refl
    at true true test low is = leb-true n seq test
    at true false test low is = absurd (false≢true (sym is))

content_of_refusal : (m : Contents) (group : ℕ) (c : _) (es : List Entry) → c ≡ Entries es → content_refusal m group c ≡ None → entries_refusal (m.entries group) es ≡ None
content_of_refusal m group c es is none = subst (λ d. content_refusal m group d ≡ None) is none

pub item_written : (blocks : Blocks) (seq g : ℕ) (left : ℕ → ℕ → Bool) (owed : Owed) (held : List Entry) (t : Tables) (item : PlacedItem)
    → ((n i : ℕ) → left n i ≡ false → n ≤ seq) → is_placed_in_order item.content ≡ true → AreInFile Append seq item.content → content_refusal (contents_in blocks t) item.group (content_in blocks item.content) ≡ None → HasConsecutiveEntries (contents_in blocks t)
    → GroupStands blocks left (owed g) held (or_empty (t g)).entries
    → GroupStands blocks (leave_after left seq (λ i. item_leaves g i (item_in blocks item))) (owed_after_item t item owed g) held (or_empty (tables_after_item (in_append seq) t item g)).entries
item_written blocks seq g left owed held t item bounded in_order placed fits run stands = at (g == item.group) refl
  where
    at : (b : Bool) → (g == item.group) ≡ b
        → GroupStands blocks (leave_after left seq (λ i. cond b (content_leaves i (content_in blocks item.content)) true)) (cond b (marks_after item.content (or_empty (t item.group)).entries (owed item.group)) (owed g)) held (or_empty (cond b (table_after (in_append seq) item.content (t item.group)) (t g))).entries
    at true same =
        let leaves = λ (i : ℕ). content_leaves i (content_in blocks item.content) in
        content_written blocks item.content left (leave_after left seq leaves) seq (owed item.group) held (t item.group)
        (λ n i is. stays_less (left n i) (nat_le n seq) (leaves i) is) bounded (λ i none. set_now (left seq i) (nat_le seq seq) (leaves i) (le_self seq) none) in_order placed
        (λ es is. content_of_refusal (contents_in blocks t) item.group (content_in blocks item.content) es is fits)
        (placed_run blocks ((contents_in blocks t).entries item.group) (or_empty (t item.group)).entries refl (run item.group))
        (subst (λ h. GroupStands blocks left (owed h) held (or_empty (t h)).entries) (eq_from_test g item.group same) stands)
    at false other = group_less blocks left (leave_after left seq (λ i. true)) (owed g) (owed g) held (or_empty (t g)).entries (λ n i is. stays_less (left n i) (nat_le n seq) true is) refl (λ is. is) stands

pub items_written : (blocks : Blocks) (seq g : ℕ) (left : ℕ → ℕ → Bool) (owed : Owed) (held : List Entry) (t : Tables) (items : List PlacedItem)
    → ((n i : ℕ) → left n i ≡ false → n ≤ seq) → list_all (λ item. is_placed_in_order item.content) items ≡ true → Each (λ item. AreInFile Append seq item.content) items → batch_refusal (contents_in blocks t) (map (item_in blocks) items) ≡ None → HasConsecutiveEntries (contents_in blocks t)
    → GroupStands blocks left (owed g) held (or_empty (t g)).entries
    → GroupStands blocks (leave_after left seq (λ i. list_all (item_leaves g i) (map (item_in blocks) items))) (owed_after (in_append seq) t items owed g) held (or_empty (tables_after (in_append seq) t items g)).entries
items_written blocks seq g left owed held t [] bounded in_order placed fits run stands = group_less blocks left (leave_after left seq (λ i. true)) (owed g) (owed g) held (or_empty (t g)).entries (λ n i is. stays_less (left n i) (nat_le n seq) true is) refl (λ is. is) stands
items_written blocks seq g left owed held t (item ∷ items) bounded in_order placed fits run stands =
    let next = tables_after_item (in_append seq) t item in
    let orders = and_parts (is_placed_in_order item.content) (list_all (λ i. is_placed_in_order i.content) items) in_order in
    let valid = valid_first (contents_in blocks t) (item_in blocks item) (map (item_in blocks) items) fits in
    let contents = contents_after_item (in_append seq) blocks t item.group item.content orders.0 in
    let first = λ (i : ℕ). item_leaves g i (item_in blocks item) in
    let others = λ (i : ℕ). list_all (item_leaves g i) (map (item_in blocks) items) in
    let one : HaveConsecutiveEntries ((item_in blocks item ∷ []) ∷ []) = consecutive_one (item_in blocks item ∷ []) (valid_is_consecutive (contents_in blocks t) (item_in blocks item ∷ []) (alone (contents_in blocks t) (item_in blocks item) valid.0)) in
    let next_run : HasConsecutiveEntries (contents_in blocks next) = subst HasConsecutiveEntries (sym contents) (after_batches_consecutive (contents_in blocks t) ((item_in blocks item ∷ []) ∷ []) run one) in
    group_less blocks (leave_after (leave_after left seq first) seq others) (leave_after left seq (λ i. first i && others i)) (owed_after (in_append seq) next items (owed_after_item t item owed) g) (owed_after (in_append seq) next items (owed_after_item t item owed) g) held (or_empty (tables_after (in_append seq) next items g)).entries
    (λ n i is. both_less (left n i) (nat_le n seq) (first i) (others i) is) refl (λ is. is)
    (items_written blocks seq g (leave_after left seq first) (owed_after_item t item owed) held next items (λ n i is. still_bounded n seq (left n i) (first i) (bounded n i) is) orders.1 placed.1
    (subst (λ m. batch_refusal m (map (item_in blocks) items) ≡ None) (sym contents) valid.1) next_run
    (item_written blocks seq g left owed held t item bounded orders.0 placed.0 valid.0 run stands))
  where
    alone : (m : Contents) (i : Item) → content_refusal m i.group i.content ≡ None → batch_refusal m (i ∷ []) ≡ None
    alone m i is = at (content_refusal m i.group i.content) refl is
      where
        at : (o : Option Fault) → content_refusal m i.group i.content ≡ o → o ≡ None → batch_refusal m (i ∷ []) ≡ None
        at None is none = rw is refl
        at (Some f) is none = absurd (cc)
