-- Once an atomic group is ended, all that it holds gets its new places.
use Rattle.std.proofs.Common.{◌≡◌, ℕ, ◌==◌, ◌&&◌, Bool, true, false, cond, List, [], ◌∷◌, ◌++◌, append-nil, append_assoc, map, Option, None, refl, sym, ◌∙◌, ap, subst}
use Rattle.std.specs.List.{flat_map, list_all}
use Rattle.std.specs.Prelude.{◌^◌, ◌-◌}
use Rattle.std.proofs.lemmas.Bool.{and_parts}
use Rattle.std.proofs.lemmas.List.{map-append}
use Rattle.std.proofs.lemmas.List.Folds.{list_all-append}
use Rattle.raft_base.specs.declared.pipe_log.FileId.{FileId}
use Rattle.raft_records.specs.Contents.{Contents, after_batch}
use Rattle.raft_records.specs.declared.entry_index.EntryPlace.{EntryPlace}
use Rattle.raft_records.specs.FileBatches.{FileBatch, batches_of}
use Rattle.raft_records.specs.Item.{Batch, Entry, Item, Put, group_mark_key}
use Rattle.raft_records.specs.PlacedItem.{EntriesAt, Plain, PlacedContent, PlacedItem, are_all_placed, is_placed_in_order, item_in}
use Rattle.raft_records.specs.Places.{Blocks, entry_in, entries_in}
use Rattle.raft_records.specs.Record.{Mark, mark_byte, mark_item}
use Rattle.raft_records.specs.Record.Mark.{Begin, Middle, End}
use Rattle.raft_recovery_laws.specs.Bounds.{AreItemsBelow}
use Rattle.raft_recovery_laws.specs.Consecutive.{content_is_consecutive}
use Rattle.raft_recovery_laws.specs.Ids.{EndsInGroup}
use Rattle.raft_recovery_laws.specs.Recovered.{effect, items_of}
use Rattle.raft_recovery_laws.specs.Stands.{Queues}
use Rattle.raft_tables.specs.Counters.{is_rewritten}
use Rattle.raft_tables.specs.Moving.{table_moved, tables_moved, tables_moved_by}
use Rattle.raft_tables.specs.Owed.{Owed}
use Rattle.raft_tables.specs.Tables.{Tables, or_empty}
use Rattle.raft_index_laws.specs.ForQueues.{StandForQueues}
use Rattle.raft_index_laws.specs.Standing.{TablesStandFor, are_rewritten}
use Rattle.raft_index_laws.proofs.KeyLemmas.{eq_from_test, in_rewrite}
use Rattle.raft_index_laws.proofs.ReadLemmas.{placed_low}
use Rattle.raft_index_laws.specs.AtomicGroup.{bodies_in, ended_group, last_body, marked, open_group, set_by_parts}
use Rattle.raft_index_laws.specs.Gathering.{IsFetchedContent, IsGathered}
use Rattle.raft_index_laws.specs.Rewriting.{IsFetched, entries_item, placed_entries_item}
use Rattle.raft_index_laws.proofs.AgainLemmas.{all_again}
use Rattle.raft_index_laws.proofs.AtomicStepLemmas.{ended_of, part_low}
use Rattle.raft_index_laws.proofs.FitsLemmas.{all_fit, each_run}
use Rattle.raft_index_laws.proofs.GroupIdLemmas.{behind_first}
use Rattle.raft_index_laws.proofs.MatchLemmas.{all_given, entries_of, head_same, is_given, may_all, no_cons, put_of, tail_same}
use Rattle.raft_index_laws.proofs.PartsLemmas.{moved_parts}
use Rattle.raft_index_laws.proofs.StepLemmas.{held_run, one_more, rewrites, with_rewritten_batch}

-- a mark moves nothing
mark_moves_nothing : (w : Option ℕ) (f : FileId) (u : Tables) (n : PlacedItem) (v : List ℕ) → n.content ≡ Plain (Put group_mark_key v) → tables_moved_by w f u n ≡ u
mark_moves_nothing w f u n v is =
    ap (λ (c : PlacedContent). let t : Tables = λ g. cond (g == n.group) (table_moved w f c (u n.group)) (u g) in t) is ∙ (λ i g. at g (g == n.group) refl i)
  where
    at : (g : ℕ) (b : Bool) → (g == n.group) ≡ b → cond b (u n.group) (u g) ≡ u g
    at g true here = ap u (sym (eq_from_test g n.group here))
    at g false other = refl

-- two parts, one behind the other
two_moved : (w : Option ℕ) (f : FileId) (t : Tables) (group : ℕ) (first next : List (ℕ × EntryPlace)) → tables_moved_by w f (tables_moved_by w f t (placed_entries_item group first)) (placed_entries_item group next) ≡ tables_moved_by w f t (placed_entries_item group (first ++ next))
two_moved w f t group first next = moved_parts w f t group first (next ∷ []) ∙ ap (λ es. tables_moved_by w f t (placed_entries_item group (first ++ es))) (append-nil next)

-- a mark and a part behind it
record Pair (blocks : Blocks) (w : Option ℕ) (f : FileId) (u : Tables) (group : ℕ) (part : List (ℕ × EntryPlace)) (n m : PlacedItem) : Type 0 where
  new : List (ℕ × EntryPlace)
  same : entries_in blocks new ≡ entries_in blocks part
  written : are_rewritten new ≡ true
  moved : tables_moved_by w f (tables_moved_by w f u n) m ≡ tables_moved_by w f u (placed_entries_item group new)

pair : (blocks : Blocks) (w : Option ℕ) (f : FileId) (u : Tables) (group id : ℕ) (mark : Mark) (part : List (ℕ × EntryPlace)) (n m : PlacedItem) → item_in blocks n ≡ mark_item id mark → item_in blocks m ≡ entries_item group (entries_in blocks part) → is_placed_in_order m.content ≡ true → are_all_placed is_rewritten m.content ≡ true
    → Pair blocks w f u group part n m
pair blocks w f u group id mark part n m is_mark is_part order placed =
    let of = entries_of blocks part m.content (ap (λ (x : Item). x.content) is_part) order in
    record {
      new = of.0;
      same = of.2;
      written = subst (λ (c : PlacedContent). are_all_placed is_rewritten c ≡ true) of.1 placed;
      moved = ap (λ (v : Tables). tables_moved_by w f v m) (mark_moves_nothing w f u n (mark_byte mark ∷ []) (put_of blocks group_mark_key (mark_byte mark ∷ []) n.content (ap (λ (x : Item). x.content) is_mark)))
          ∙ ap (λ (i : PlacedItem). tables_moved_by w f u i) (rebuilt m group of.0 (ap (λ (x : Item). x.group) is_part) of.1);
    }
  where
    rebuilt : (i : PlacedItem) (g : ℕ) (ns : List (ℕ × EntryPlace)) → i.group ≡ g → i.content ≡ EntriesAt ns → i ≡ placed_entries_item g ns
    rebuilt i g ns at_group at_content = ap (λ (h : ℕ). let j : PlacedItem = record { group = h; content = i.content } in j) at_group ∙ ap (λ (c : PlacedContent). let j : PlacedItem = record { group = g; content = c } in j) at_content

-- what is left of a group's items, once some parts moved
record Rest (blocks : Blocks) (w : Option ℕ) (f : FileId) (t : Tables) (group : ℕ) (acc all : List (ℕ × EntryPlace)) (values news : List PlacedItem) : Type 0 where
  new : List (ℕ × EntryPlace)
  set : List PlacedItem
  moved : tables_moved w f (tables_moved_by w f t (placed_entries_item group acc)) news ≡ tables_moved w f (tables_moved_by w f t (placed_entries_item group (acc ++ new))) set
  same : entries_in blocks new ≡ entries_in blocks all
  same_values : map (item_in blocks) set ≡ map (item_in blocks) values
  order : list_all (λ item. is_placed_in_order item.content) set ≡ true
  placed : list_all (λ item. are_all_placed is_rewritten item.content) set ≡ true
  written : are_rewritten new ≡ true

abbrev tail_items : Blocks → ℕ → ℕ → List (List (ℕ × EntryPlace)) → List (ℕ × EntryPlace) → List PlacedItem → List Item
tail_items blocks id group parts part values = items_of (behind_first id (bodies_in blocks group parts) (last_body blocks group part values))

rest_of : (blocks : Blocks) (w : Option ℕ) (f : FileId) (t : Tables) (id group : ℕ) (parts : List (List (ℕ × EntryPlace))) (part : List (ℕ × EntryPlace)) (values news : List PlacedItem) (acc : List (ℕ × EntryPlace)) → map (item_in blocks) news ≡ tail_items blocks id group parts part values
    → list_all (λ item. is_placed_in_order item.content) news ≡ true → list_all (λ item. are_all_placed is_rewritten item.content) news ≡ true → Rest blocks w f t group acc (flat_map (λ p. p) parts ++ part) values news
rest_of blocks w f t id group [] part values [] acc same order placed = absurd (no_cons (mark_item id End) (last_body blocks group part values ++ []) same)
rest_of blocks w f t id group [] part values (n ∷ []) acc same order placed =
    absurd (no_cons (entries_item group (entries_in blocks part)) (map (item_in blocks) values ++ []) (tail_same (item_in blocks n) (mark_item id End) [] (last_body blocks group part values ++ []) same))
rest_of blocks w f t id group [] part values (n ∷ (m ∷ news)) acc same order placed =
    let tails = tail_same (item_in blocks n) (mark_item id End) (map (item_in blocks) (m ∷ news)) (last_body blocks group part values ++ []) same in
    let orders = and_parts (is_placed_in_order n.content) (list_all (λ item. is_placed_in_order item.content) (m ∷ news)) order in
    let orders_m = and_parts (is_placed_in_order m.content) (list_all (λ item. is_placed_in_order item.content) news) orders.1 in
    let places = and_parts (are_all_placed is_rewritten n.content) (list_all (λ item. are_all_placed is_rewritten item.content) (m ∷ news)) placed in
    let places_m = and_parts (are_all_placed is_rewritten m.content) (list_all (λ item. are_all_placed is_rewritten item.content) news) places.1 in
    let part_item = entries_item group (entries_in blocks part) in
    let two = pair blocks w f (tables_moved_by w f t (placed_entries_item group acc)) group id End part n m (head_same (item_in blocks n) (mark_item id End) (map (item_in blocks) (m ∷ news)) (last_body blocks group part values ++ []) same)
    (head_same (item_in blocks m) part_item (map (item_in blocks) news) (map (item_in blocks) values ++ []) tails) orders_m.0 places_m.0 in
    record {
      new = two.new;
      set = news;
      moved = ap (λ (v : Tables). tables_moved w f v news) (two.moved ∙ two_moved w f t group acc two.new);
      same = two.same;
      same_values = tail_same (item_in blocks m) part_item (map (item_in blocks) news) (map (item_in blocks) values ++ []) tails ∙ append-nil (map (item_in blocks) values);
      order = orders_m.1;
      placed = places_m.1;
      written = two.written;
    }
rest_of blocks w f t id group (p ∷ parts) part values [] acc same order placed = absurd (no_cons (mark_item id Middle) (entries_item group (entries_in blocks p) ∷ tail_items blocks id group parts part values) same)
rest_of blocks w f t id group (p ∷ parts) part values (n ∷ []) acc same order placed =
    absurd (no_cons (entries_item group (entries_in blocks p)) (tail_items blocks id group parts part values) (tail_same (item_in blocks n) (mark_item id Middle) [] (entries_item group (entries_in blocks p) ∷ tail_items blocks id group parts part values) same))
rest_of blocks w f t id group (p ∷ parts) part values (n ∷ (m ∷ news)) acc same order placed =
    let part_item = entries_item group (entries_in blocks p) in
    let behind = tail_items blocks id group parts part values in
    let tails = tail_same (item_in blocks n) (mark_item id Middle) (map (item_in blocks) (m ∷ news)) (part_item ∷ behind) same in
    let orders = and_parts (is_placed_in_order n.content) (list_all (λ item. is_placed_in_order item.content) (m ∷ news)) order in
    let orders_m = and_parts (is_placed_in_order m.content) (list_all (λ item. is_placed_in_order item.content) news) orders.1 in
    let places = and_parts (are_all_placed is_rewritten n.content) (list_all (λ item. are_all_placed is_rewritten item.content) (m ∷ news)) placed in
    let places_m = and_parts (are_all_placed is_rewritten m.content) (list_all (λ item. are_all_placed is_rewritten item.content) news) places.1 in
    let two = pair blocks w f (tables_moved_by w f t (placed_entries_item group acc)) group id Middle p n m (head_same (item_in blocks n) (mark_item id Middle) (map (item_in blocks) (m ∷ news)) (part_item ∷ behind) same)
    (head_same (item_in blocks m) part_item (map (item_in blocks) news) behind tails) orders_m.0 places_m.0 in
    let rest = rest_of blocks w f t id group parts part values news (acc ++ two.new) (tail_same (item_in blocks m) part_item (map (item_in blocks) news) behind tails) orders_m.1 places_m.1 in
    record {
      new = two.new ++ rest.new;
      set = rest.set;
      moved = ap (λ (v : Tables). tables_moved w f v news) (two.moved ∙ two_moved w f t group acc two.new) ∙ rest.moved ∙ ap (λ es. tables_moved w f (tables_moved_by w f t (placed_entries_item group es)) rest.set) (append_assoc acc two.new rest.new);
      same = map-append (entry_in blocks) two.new rest.new ∙ ap (λ (es : List Entry). es ++ entries_in blocks rest.new) two.same ∙ ap (λ (es : List Entry). entries_in blocks p ++ es) rest.same
          ∙ sym (map-append (entry_in blocks) p (flat_map (λ x. x) parts ++ part)) ∙ ap (entries_in blocks) (sym (append_assoc p (flat_map (λ x. x) parts) part));
      same_values = rest.same_values;
      order = rest.order;
      placed = rest.placed;
      written = list_all-append (λ (e : ℕ × EntryPlace). is_rewritten e.1) two.new rest.new ∙ ap (λ b. b && are_rewritten rest.new) two.written ∙ rest.written;
    }

-- all that a group's batches hold, as one item for its entries, and its values
pub record Merged (blocks : Blocks) (w : Option ℕ) (f : FileId) (t : Tables) (group : ℕ) (all : List (ℕ × EntryPlace)) (values news : List PlacedItem) : Type 0 where
  pub new : List (ℕ × EntryPlace)
  pub set : List PlacedItem
  pub moved : tables_moved w f t news ≡ tables_moved w f t (placed_entries_item group new ∷ set)
  pub same : entries_in blocks new ≡ entries_in blocks all
  pub same_values : map (item_in blocks) set ≡ map (item_in blocks) values
  pub order : list_all (λ item. is_placed_in_order item.content) set ≡ true
  pub placed : list_all (λ item. are_all_placed is_rewritten item.content) set ≡ true
  pub written : are_rewritten new ≡ true

pub merged : (blocks : Blocks) (w : Option ℕ) (f : FileId) (t : Tables) (id group : ℕ) (parts : List (List (ℕ × EntryPlace))) (part : List (ℕ × EntryPlace)) (values news : List PlacedItem) → (parts ≡ [] → ⊥) → map (item_in blocks) news ≡ items_of (ended_group id (bodies_in blocks group parts) (last_body blocks group part values))
    → list_all (λ item. is_placed_in_order item.content) news ≡ true → list_all (λ item. are_all_placed is_rewritten item.content) news ≡ true → Merged blocks w f t group (flat_map (λ p. p) parts ++ part) values news
merged blocks w f t id group [] part values news some same order placed = absurd (some refl)
merged blocks w f t id group (p ∷ parts) part values [] some same order placed = absurd (no_cons (mark_item id Begin) (entries_item group (entries_in blocks p) ∷ tail_items blocks id group parts part values) same)
merged blocks w f t id group (p ∷ parts) part values (n ∷ []) some same order placed =
    absurd (no_cons (entries_item group (entries_in blocks p)) (tail_items blocks id group parts part values) (tail_same (item_in blocks n) (mark_item id Begin) [] (entries_item group (entries_in blocks p) ∷ tail_items blocks id group parts part values) same))
merged blocks w f t id group (p ∷ parts) part values (n ∷ (m ∷ news)) some same order placed =
    let part_item = entries_item group (entries_in blocks p) in
    let behind = tail_items blocks id group parts part values in
    let tails = tail_same (item_in blocks n) (mark_item id Begin) (map (item_in blocks) (m ∷ news)) (part_item ∷ behind) same in
    let orders = and_parts (is_placed_in_order n.content) (list_all (λ item. is_placed_in_order item.content) (m ∷ news)) order in
    let orders_m = and_parts (is_placed_in_order m.content) (list_all (λ item. is_placed_in_order item.content) news) orders.1 in
    let places = and_parts (are_all_placed is_rewritten n.content) (list_all (λ item. are_all_placed is_rewritten item.content) (m ∷ news)) placed in
    let places_m = and_parts (are_all_placed is_rewritten m.content) (list_all (λ item. are_all_placed is_rewritten item.content) news) places.1 in
    let two = pair blocks w f t group id Begin p n m (head_same (item_in blocks n) (mark_item id Begin) (map (item_in blocks) (m ∷ news)) (part_item ∷ behind) same)
    (head_same (item_in blocks m) part_item (map (item_in blocks) news) behind tails) orders_m.0 places_m.0 in
    let rest = rest_of blocks w f t id group parts part values news two.new (tail_same (item_in blocks m) part_item (map (item_in blocks) news) behind tails) orders_m.1 places_m.1 in
    record {
      new = two.new ++ rest.new;
      set = rest.set;
      moved = ap (λ (v : Tables). tables_moved w f v news) two.moved ∙ rest.moved;
      same = map-append (entry_in blocks) two.new rest.new ∙ ap (λ (es : List Entry). es ++ entries_in blocks rest.new) two.same ∙ ap (λ (es : List Entry). entries_in blocks p ++ es) rest.same
          ∙ sym (map-append (entry_in blocks) p (flat_map (λ x. x) parts ++ part)) ∙ ap (entries_in blocks) (sym (append_assoc p (flat_map (λ x. x) parts) part));
      same_values = rest.same_values;
      order = rest.order;
      placed = rest.placed;
      written = list_all-append (λ (e : ℕ × EntryPlace). is_rewritten e.1) two.new rest.new ∙ ap (λ b. b && are_rewritten rest.new) two.written ∙ rest.written;
    }

pub fetched_of : (w : Option ℕ) (t : Tables) (g : ℕ) (es : List (ℕ × EntryPlace)) → IsFetchedContent w t g (EntriesAt es) → IsFetched w (or_empty (t g)).entries es
fetched_of w t g [] from = absurd from
fetched_of w t g (e ∷ es) from = from

pub merged_same : (blocks : Blocks) (group : ℕ) (new all : List (ℕ × EntryPlace)) (set values : List PlacedItem) → entries_in blocks new ≡ entries_in blocks all → map (item_in blocks) set ≡ map (item_in blocks) values
    → map (item_in blocks) (placed_entries_item group new ∷ set) ≡ map (item_in blocks) (placed_entries_item group all ∷ values)
merged_same blocks group new all set values same same_values = ap (λ (es : List Entry). entries_item group es ∷ map (item_in blocks) set) same ∙ ap (λ (is : List Item). entries_item group (entries_in blocks all) ∷ is) same_values

pub ended : (blocks : Blocks) (numbered : List FileBatch) (owed : Owed) (t : Tables) (q : Queues) (id group seq : ℕ) (parts : List (List (ℕ × EntryPlace))) (part : List (ℕ × EntryPlace)) (values news : List PlacedItem) → StandForQueues blocks numbered owed t q
    → EndsInGroup id (open_group id (bodies_in blocks group parts)) (rewrites q) → (parts ≡ [] → ⊥) → IsGathered None owed t (set_by_parts group parts part values)
    → map (item_in blocks) news ≡ items_of (ended_group id (bodies_in blocks group parts) (last_body blocks group part values))
    → list_all (λ item. is_placed_in_order item.content) news ≡ true → list_all (λ item. are_all_placed is_rewritten item.content) news ≡ true
    → StandForQueues blocks numbered owed (tables_moved None (in_rewrite seq) t news) (with_rewritten_batch (marked id End (last_body blocks group part values)) q)
ended blocks numbered owed t q id group seq parts part values news s e some gathered same order placed =
    let x = effect (rewrites q) in
    let all = flat_map (λ p. p) parts ++ part in
    let items = set_by_parts group parts part values in
    let of = ended_of blocks numbered owed t q id group parts part values s e some gathered in
    let m = merged blocks None (in_rewrite seq) t id group parts part values news some same order placed in
    let one = placed_entries_item group m.new ∷ m.set in
    let one_same = merged_same blocks group m.new all m.set values m.same m.same_values in
    let run_x = held_run blocks numbered owed t q s in
    let fit = all_fit blocks x numbered owed t None items run_x s.appended_consecutive s.stand gathered.each in
    let run_one = subst (λ (b : Batch). list_all (λ (i : Item). content_is_consecutive i.content) b ≡ true) (sym one_same) (each_run x (batches_of numbered) (map (item_in blocks) items) fit) in
    let given : list_all (λ (item : PlacedItem). is_given item.content) one ≡ true = all_given m.set m.order in
    let at : list_all (λ (item : PlacedItem). are_all_placed is_rewritten item.content) one ≡ true = ap (λ b. b && list_all (λ (item : PlacedItem). are_all_placed is_rewritten item.content) m.set) m.written ∙ m.placed in
    let may = may_all None (in_rewrite seq) blocks owed t items one gathered.each gathered.apart one_same given at in
    let u = tables_moved None (in_rewrite seq) t news in
    let stand = (all_again blocks x numbered owed t None seq one run_x s.appended_consecutive run_one may s.stand).1 in
    let from = subst (λ es. IsFetched None (or_empty (t group)).entries (flat_map (λ p. p) parts ++ es)) (sym (append-nil part)) (fetched_of None t group all gathered.each.0.1) in
    let low : AreItemsBelow (2 ^ 64 - 1) (marked id End (last_body blocks group part values)) =
    (tt, (part_low blocks numbered owed t q group (flat_map (λ p. p) parts) part [] s from, subst (AreItemsBelow (2 ^ 64 - 1)) m.same_values (placed_low blocks m.set m.order))) in
    one_more blocks numbered owed owed t u q (marked id End (last_body blocks group part values)) s of.run low
    (subst (λ (y : Contents). TablesStandFor blocks y numbered owed u) (ap (after_batch x) one_same ∙ sym of.effect_is) (subst (TablesStandFor blocks (after_batch x (map (item_in blocks) one)) numbered owed) (sym m.moved) stand))
