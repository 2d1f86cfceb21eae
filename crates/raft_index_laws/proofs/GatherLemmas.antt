-- What was gathered, item by item, and what is left of a group once a part of it was written.
use Rattle.std.proofs.Common.{◌≡◌, ℕ, ◌&&◌, not, nat_le, true, false, cond, List, [], ◌∷◌, ◌++◌, append_assoc, map, Option, Some, None, refl, sym, ◌∙◌, ap, subst}
use Rattle.std.specs.List.{list_all, AllByRecursion as Each}
use Rattle.std.specs.Option.{option_map}
use Rattle.std.specs.Prelude.{unwrap_or}
use Rattle.std.proofs.lemmas.Bool.{and_parts, false≢true}
use Rattle.std.proofs.lemmas.List.Folds.{list_all-append}
use Rattle.std.proofs.lemmas.List.Sums.{fold-append}
use Rattle.raft_base.specs.declared.pipe_log.FileBlockHandle.{FileBlockHandle}
use Rattle.raft_base.specs.declared.pipe_log.FileId.{FileId}
use Rattle.raft_base.specs.declared.pipe_log.LogQueue.{LogQueue}
use Rattle.raft_base.specs.declared.pipe_log.LogQueue.TheVariants.{Append, Rewrite}
use Rattle.raft_records.specs.Contents.{Contents}
use Rattle.raft_records.specs.declared.entry_index.EntryPlace.{EntryPlace}
use Rattle.raft_records.specs.FileBatches.{FileBatch, batches_of}
use Rattle.raft_records.specs.Item.{Item}
use Rattle.raft_records.specs.PlacedItem.{EntriesAt, PlacedContent, PlacedItem, are_all_placed, is_placed_in_order, item_in}
use Rattle.raft_records.specs.Places.{Blocks, entries_in}
use Rattle.raft_records.specs.Validity.{are_consecutive_from}
use Rattle.raft_recovery_laws.specs.Consecutive.{HasConsecutiveEntries, HaveConsecutiveEntries, are_consecutive}
use Rattle.raft_recovery_laws.proofs.ContentsLemmas.{replay_consecutive}
use Rattle.raft_recovery_laws.proofs.EachLemmas.{each_append, each_left, each_map, each_right}
use Rattle.raft_tables.specs.Counters.{is_rewrite, is_rewritten}
use Rattle.raft_tables.specs.MovedEntries.{entries_moved, may_move, may_move_from}
use Rattle.raft_tables.specs.Moving.{table_moved, tables_moved, tables_moved_by}
use Rattle.raft_tables.specs.Owed.{Owed}
use Rattle.raft_tables.specs.Table.{TableView}
use Rattle.raft_tables.specs.Tables.{Tables, or_empty}
use Rattle.raft_index_laws.specs.Standing.{TablesStandFor, are_rewritten}
use Rattle.raft_index_laws.proofs.DropLemmas.{placed_run}
use Rattle.raft_index_laws.proofs.KeyLemmas.{eq_self}
use Rattle.raft_index_laws.specs.Gathering.{AreSetApart, IsFetchedContent, IsGathered, SetApart}
use Rattle.raft_index_laws.specs.Rewriting.{IsFetched, placed_entries_item}
use Rattle.raft_index_laws.proofs.MatchLemmas.{entries_of, fetched_item, gets, group_left, head_same, no_cons, tail_same}
use Rattle.raft_index_laws.proofs.MovingLemmas.{middle_moves}
use Rattle.raft_index_laws.proofs.RewrittenLemmas.{entries-moved}

-- Entries.

-- what may move of the Append queue doesn't stand in the Rewrite queue
moves_appended : (w : ℕ) (place : EntryPlace) → may_move_from (Some w) place ≡ true → is_rewritten place ≡ false
moves_appended w place = at place.block
  where
    by : (seq : ℕ) (queue : LogQueue) → (not (is_rewrite queue) && nat_le seq w) ≡ true → is_rewrite queue ≡ false
    by seq Append may = refl
    by seq Rewrite may = absurd (false≢true may)

    at : (b : Option FileBlockHandle) → unwrap_or (option_map (λ (x : FileBlockHandle). may_move (Some w) x.id) b) false ≡ true → unwrap_or (option_map (λ (x : FileBlockHandle). is_rewrite x.id.queue) b) false ≡ false
    at None may = refl
    at (Some x) may = by x.id.seq x.id.queue may

some_none : (w : ℕ) → Some w ≡ None → ⊥
some_none w is = cc

pub beginning : (w : ℕ) (es part rest : List (ℕ × EntryPlace)) → IsFetched (Some w) es (part ++ rest) → IsFetched (Some w) es part
beginning w es part rest from = record {
  pre = from.pre;
  post = rest ++ from.post;
  parts = from.parts ∙ ap (λ xs. from.pre ++ xs) (append_assoc part rest from.post);
  first = from.first;
  rest = each_append (λ e. is_rewritten e.1 ≡ false) rest from.post
      (each_map (λ e. may_move_from (Some w) e.1 ≡ true) (λ e. is_rewritten e.1 ≡ false) rest (λ e may. moves_appended w e.1 may) (each_right (λ e. may_move_from (Some w) e.1 ≡ true) part rest from.moves)) from.rest;
  moves = each_left (λ e. may_move_from (Some w) e.1 ≡ true) part rest from.moves;
  whole = λ is. absurd (some_none w is);
}

-- the first index of entries that are consecutive with their bytes
first_of : (blocks : Blocks) (es : List (ℕ × EntryPlace)) → are_consecutive (entries_in blocks es) ≡ true → (k : ℕ) × (are_consecutive_from k es ≡ true)
first_of blocks es run = at es refl
  where
    at : (xs : List (ℕ × EntryPlace)) → es ≡ xs → (k : ℕ) × (are_consecutive_from k es ≡ true)
    at [] none = (0, subst (λ xs. are_consecutive_from 0 xs ≡ true) (sym none) refl)
    at (f ∷ fs) some = (f.0, subst (λ xs. are_consecutive_from f.0 xs ≡ true) (sym some) (placed_run blocks (entries_in blocks es) es refl run f fs some))

pub table_run : (blocks : Blocks) (x : Contents) (appended : List FileBatch) (owed : Owed) (t : Tables) (group : ℕ) → HasConsecutiveEntries x → HaveConsecutiveEntries (batches_of appended) → TablesStandFor blocks x appended owed t
    → (k : ℕ) × (are_consecutive_from k (or_empty (t group)).entries ≡ true)
table_run blocks x appended owed t group run_x run stands =
    first_of blocks (or_empty (t group)).entries (subst (λ (m : Contents). are_consecutive (m.entries group) ≡ true) (sym stands.contents) (replay_consecutive x (batches_of appended) run_x run group))

-- what is left, once a part of what was fetched moved
part_moved : (w : ℕ) (blocks : Blocks) (k : ℕ) (es part new rest : List (ℕ × EntryPlace)) → are_consecutive_from k es ≡ true → entries_in blocks new ≡ entries_in blocks part → are_rewritten new ≡ true → IsFetched (Some w) es (part ++ rest) → IsFetched (Some w) (entries_moved (Some w) new es) rest
part_moved w blocks k es part new rest run same written from = record {
  pre = from.pre ++ new;
  post = from.post;
  parts = ap (entries_moved (Some w) new) split ∙ middle_moves (Some w) k from.pre part new (rest ++ from.post) (subst (λ xs. are_consecutive_from k xs ≡ true) split run) (gets (Some w) blocks part new same (each_left (λ e. may_move_from (Some w) e.1 ≡ true) part rest from.moves)) ∙ sym (append_assoc from.pre new (rest ++ from.post));
  first = list_all-append (λ (e : ℕ × EntryPlace). is_rewritten e.1) from.pre new ∙ ap (λ b. b && are_rewritten new) from.first ∙ written;
  rest = from.rest;
  moves = each_right (λ e. may_move_from (Some w) e.1 ≡ true) part rest from.moves;
  whole = λ is. absurd (some_none w is);
}
  where
    split : es ≡ from.pre ++ (part ++ (rest ++ from.post))
    split = from.parts ∙ ap (λ xs. from.pre ++ xs) (append_assoc part rest from.post)

-- items that stand for others, of which the last sets entries
record Divided (blocks : Blocks) (others news : List PlacedItem) (group : ℕ) (part : List (ℕ × EntryPlace)) : Type 0 where
  before : List PlacedItem
  new : List (ℕ × EntryPlace)
  is : news ≡ before ++ placed_entries_item group new ∷ []
  same_before : map (item_in blocks) before ≡ map (item_in blocks) others
  same : entries_in blocks new ≡ entries_in blocks part
  written : are_rewritten new ≡ true

divided : (blocks : Blocks) (others news : List PlacedItem) (group : ℕ) (part : List (ℕ × EntryPlace)) → map (item_in blocks) news ≡ map (item_in blocks) (others ++ placed_entries_item group part ∷ [])
    → list_all (λ item. is_placed_in_order item.content) news ≡ true → list_all (λ item. are_all_placed is_rewritten item.content) news ≡ true → Divided blocks others news group part
divided blocks [] [] group part same order placed = absurd (no_cons (item_in blocks (placed_entries_item group part)) [] same)
divided blocks [] (n ∷ m ∷ news) group part same order placed =
    absurd (no_cons (item_in blocks m) (map (item_in blocks) news) (sym (tail_same (item_in blocks n) (item_in blocks (placed_entries_item group part)) (map (item_in blocks) (m ∷ news)) [] same)))
divided blocks [] (n ∷ []) group part same order placed =
    let one = head_same (item_in blocks n) (item_in blocks (placed_entries_item group part)) [] [] same in
    let orders = and_parts (is_placed_in_order n.content) true order in
    let places = and_parts (are_all_placed is_rewritten n.content) true placed in
    let of = entries_of blocks part n.content (ap (λ (x : Item). x.content) one) orders.0 in
    record {
      before = [];
      new = of.0;
      is = let item : PlacedItem → PlacedItem = λ i. i in ap (λ (i : PlacedItem). i ∷ []) (rebuilt n group of.0 (ap (λ (x : Item). x.group) one) of.1);
      same_before = refl;
      same = of.2;
      written = subst (λ (c : PlacedContent). are_all_placed is_rewritten c ≡ true) of.1 places.0;
    }
  where
    rebuilt : (i : PlacedItem) (g : ℕ) (ns : List (ℕ × EntryPlace)) → i.group ≡ g → i.content ≡ EntriesAt ns → i ≡ placed_entries_item g ns
    rebuilt i g ns at_group at_content = ap (λ (h : ℕ). let j : PlacedItem = record { group = h; content = i.content } in j) at_group ∙ ap (λ (c : PlacedContent). let j : PlacedItem = record { group = g; content = c } in j) at_content
divided blocks (o ∷ others) [] group part same order placed = absurd (no_cons (item_in blocks o) (map (item_in blocks) (others ++ placed_entries_item group part ∷ [])) same)
divided blocks (o ∷ others) (n ∷ news) group part same order placed =
    let orders = and_parts (is_placed_in_order n.content) (list_all (λ item. is_placed_in_order item.content) news) order in
    let places = and_parts (are_all_placed is_rewritten n.content) (list_all (λ item. are_all_placed is_rewritten item.content) news) placed in
    let tails = map (item_in blocks) (others ++ placed_entries_item group part ∷ []) in
    let rest = divided blocks others news group part (tail_same (item_in blocks n) (item_in blocks o) (map (item_in blocks) news) tails same) orders.1 places.1 in
    record {
      before = n ∷ rest.before;
      new = rest.new;
      is = ap (λ is. n ∷ is) rest.is;
      same_before = ap (λ (i : Item). i ∷ map (item_in blocks) rest.before) (head_same (item_in blocks n) (item_in blocks o) (map (item_in blocks) news) tails same) ∙ ap (λ (is : List Item). item_in blocks o ∷ is) rest.same_before;
      same = rest.same;
      written = rest.written;
    }

others_too : (blocks : Blocks) (group : ℕ) (others news : List PlacedItem) → map (item_in blocks) news ≡ map (item_in blocks) others → Each (λ item. item.group ≡ group → ⊥) others → Each (λ item. item.group ≡ group → ⊥) news
others_too blocks group [] [] same each = tt
others_too blocks group [] (n ∷ news) same each = absurd (no_cons (item_in blocks n) (map (item_in blocks) news) (sym same))
others_too blocks group (o ∷ others) [] same each = tt
others_too blocks group (o ∷ others) (n ∷ news) same each =
    let one = head_same (item_in blocks n) (item_in blocks o) (map (item_in blocks) news) (map (item_in blocks) others) same in
    (λ is. each.0 (sym (ap (λ (x : Item). x.group) one) ∙ is), others_too blocks group others news (tail_same (item_in blocks n) (item_in blocks o) (map (item_in blocks) news) (map (item_in blocks) others) same) each.1)

pub left : (blocks : Blocks) (x : Contents) (appended : List FileBatch) (owed : Owed) (t : Tables) (watermark : ℕ) (id : FileId) (group : ℕ) (part rest : List (ℕ × EntryPlace)) (others news : List PlacedItem)
    → HasConsecutiveEntries x → HaveConsecutiveEntries (batches_of appended) → TablesStandFor blocks x appended owed t → IsFetched (Some watermark) (or_empty (t group)).entries (part ++ rest) → Each (λ item. item.group ≡ group → ⊥) others
    → map (item_in blocks) news ≡ map (item_in blocks) (others ++ placed_entries_item group part ∷ []) → list_all (λ item. is_placed_in_order item.content) news ≡ true → list_all (λ item. are_all_placed is_rewritten item.content) news ≡ true
    → IsFetched (Some watermark) (or_empty (tables_moved (Some watermark) id t news group)).entries rest
left blocks x appended owed t w id group part rest others news run_x run stands from apart same order placed =
    subst (λ es. IsFetched (Some w) es rest) (sym moved) (part_moved w blocks start.0 (or_empty (t group)).entries part d.new rest start.1 d.same d.written from)
  where
    d : Divided blocks others news group part
    d = divided blocks others news group part same order placed

    start : (k : ℕ) × (are_consecutive_from k (or_empty (t group)).entries ≡ true)
    start = table_run blocks x appended owed t group run_x run stands

    u : Tables
    u = tables_moved (Some w) id t d.before

    moved : (or_empty (tables_moved (Some w) id t news group)).entries ≡ entries_moved (Some w) d.new (or_empty (t group)).entries
    moved =
        ap (λ is. (or_empty (tables_moved (Some w) id t is group)).entries) d.is
        ∙ ap (λ (v : Tables). (or_empty (v group)).entries) (fold-append (tables_moved_by (Some w) id) t d.before (placed_entries_item group d.new ∷ []))
        ∙ ap (λ b. (or_empty (cond b (table_moved (Some w) id (EntriesAt d.new) (u group)) (u group))).entries) (eq_self group)
        ∙ entries-moved (Some w) id d.new (u group)
        ∙ ap (λ (v : Option TableView). entries_moved (Some w) d.new (or_empty v).entries) (group_left (Some w) id t d.before group (others_too blocks group others d.before d.same_before apart))

-- Items, one behind the other.

apart_more : (items : List PlacedItem) (item : PlacedItem) → AreSetApart items → Each (λ other. SetApart other item) items → AreSetApart (items ++ item ∷ [])
apart_more [] item apart each = (tt, tt)
apart_more (i ∷ items) item apart each = (each_append (SetApart i) items (item ∷ []) apart.0 (each.0, tt), apart_more items item apart.1 each.1)

pub gathered_more : (watermark : Option ℕ) (owed : Owed) (t : Tables) (items : List PlacedItem) (item : PlacedItem) → IsGathered watermark owed t items → (owed item.group).cleaned ≡ false → IsFetchedContent watermark t item.group item.content
    → Each (λ other. SetApart other item) items → IsGathered watermark owed t (items ++ item ∷ [])
gathered_more watermark owed t items item gathered clean from apart = record {
  each = each_append (fetched_item watermark owed t) items (item ∷ []) gathered.each ((clean, from), tt);
  apart = apart_more items item gathered.apart apart;
}
