-- What holds of an opening's tables, batch by batch.
use Rattle.std.proofs.Common.{◌≡◌, ℕ, ◌+◌, ◌≤◌, ◌==◌, ◌&&◌, Bool, true, false, cond, List, [], ◌∷◌, ◌++◌, length, map, filter, Option, Some, None, refl, sym, ◌∙◌, ap, subst}
use Rattle.std.specs.List.{AllByRecursion as Each, list_all}
use Rattle.std.specs.Option.{option_map, option_or}
use Rattle.std.specs.Prelude.{nat_le, nat_lt}
use Rattle.std.specs.Str.{bytes_eq}
use Rattle.std.proofs.lemmas.Bool.{and_parts, false≢true}
use Rattle.raft_base.specs.declared.pipe_log.LogQueue.{LogQueue}
use Rattle.raft_base.specs.declared.pipe_log.LogQueue.TheVariants.{Append, Rewrite}
use Rattle.raft_records.specs.Contents.{Contents, entries_below, with_entries}
use Rattle.raft_records.specs.Item.{Batch, Entry, Entries, Clean, Compact, Put, Delete, group_mark_key}
use Rattle.raft_records.specs.PlacedItem.{PlacedContent, EntriesAt, Plain, PlacedItem, content_in, item_in, is_placed_in_order}
use Rattle.raft_records.specs.Places.{Blocks, entry_in}
use Rattle.raft_records.specs.Validity.{are_consecutive_from, are_in_order}
use Rattle.raft_recovery_laws.specs.Consecutive.{HasConsecutiveEntries}
use Rattle.raft_recovery_laws.specs.Recovered.{content_leaves, content_leaves_key, item_leaves, item_leaves_key, replay}
use Rattle.raft_tables.specs.Counters.{is_rewrite}
use Rattle.raft_tables.specs.Leaving.{table_left, tables_left, tables_left_by}
use Rattle.raft_tables.specs.Recovering.{IsJoined}
use Rattle.raft_tables.specs.Table.{StoredValue, TableView, with_entries_at, with_key}
use Rattle.raft_tables.specs.Tables.{Tables, contents_in, or_empty, table_after, tables_after, tables_after_item}
use Rattle.raft_tables.proofs.ContentsLemmas.{entries-delete}
use Rattle.raft_index_laws.specs.Opening.{AreRewritten, GroupReplayed, IsRewrittenValue, ReplayStands}
use Rattle.raft_tables.specs.Owed.{Marks, Owed, leaves_hole, marks_after, no_marks, owed_after, owed_after_item}
use Rattle.raft_records.specs.FileBatches.{AreInFile, FileBatch, batches_of}
use Rattle.raft_index_laws.specs.Standing.{EntryStands, GroupStands, KeyStands, PlacedKeyStands, TablesStandFor, ends_leave, ends_leave_key, rank_of}
use Rattle.raft_recovery_laws.proofs.EachLemmas.{each_map}
use Rattle.raft_index_laws.proofs.EndsLemmas.{pass-push}
use Rattle.raft_index_laws.proofs.KeyLemmas.{both_less, cleaned_by, eq_from_test, hole_cleaned, in_append, le_self, left_after, less_left, set_now, stays_less, stored-after, stored_after}
use Rattle.raft_index_laws.proofs.ReplayedLemmas.{replayed_clean, replayed_compaction, replayed_end, replayed_entries, replayed_less, replayed_none}
use Rattle.raft_index_laws.proofs.TotalLemmas.{past_all}
use Rattle.raft_index_laws.proofs.WrittenLemmas.{bounded_rank, entries_of_either, filtered, leave_after, not_below, same_either, still_bounded}

-- entries

cut_entries : (s : ℕ) (t : Option TableView) → (or_empty (option_map (λ v. with_entries_at (entries_below s v.entries) v) t)).entries ≡ entries_below s (or_empty t).entries
cut_entries s None = refl
cut_entries s (Some v) = refl

-- a hole counts as a compaction
no_hole : (b : Bool) (m : Marks) → (cond b (record m { compacted = true }) m).compacted ≡ false → (m.compacted ≡ false) × (b ≡ false)
no_hole true m is = absurd (false≢true (sym is))
no_hole false m is = (is, refl)

content_replayed : (blocks : Blocks) (c : PlacedContent) (left left' : ℕ → ℕ → Bool) (seq : ℕ) (marks : Marks) (held : List Entry) (l a : Option TableView)
    → ((n i : ℕ) → left n i ≡ false → left' n i ≡ false) → ((n i : ℕ) → left n i ≡ false → n ≤ seq) → ((i : ℕ) → content_leaves i (content_in blocks c) ≡ false → left' seq i ≡ false)
    → is_placed_in_order c ≡ true → AreInFile Append seq c → GroupReplayed blocks left marks held (or_empty l).entries (or_empty a).entries
    → GroupReplayed blocks left' (marks_after c (or_empty a).entries marks) held (or_empty (table_left c l)).entries (or_empty (table_after (in_append seq) c a)).entries
content_replayed blocks (EntriesAt []) left left' seq marks held l a less bounded set in_order placed before = replayed_less blocks left left' marks marks held (or_empty l).entries (or_empty a).entries less refl (λ is. is) before
content_replayed blocks (EntriesAt (e ∷ new)) left left' seq marks held l a less bounded set in_order placed before =
    let es = (or_empty a).entries in
    let hole = leaves_hole es e.0 in
    let ordered = (and_parts (are_consecutive_from e.0 (e ∷ new)) (nat_lt (e.0 + length (e ∷ new)) 18446744073709551616) in_order).0 in
    subst (λ b. GroupReplayed blocks left' (cond (b && hole) (record marks { compacted = true }) marks) held (or_empty (cond b (option_map (λ v. with_entries_at (entries_below e.0 v.entries) v) l) l)).entries (or_empty (cond b (Some (with_entries_at (with_entries es (e ∷ new)) (or_empty a))) a)).entries) (sym in_order)
    (subst (λ xs. GroupReplayed blocks left' (cond hole (record marks { compacted = true }) marks) held xs (with_entries es (e ∷ new))) (sym (cut_entries e.0 l))
    (replayed_entries blocks left left' marks (cond hole (record marks { compacted = true }) marks) held (or_empty l).entries es seq e new less (λ i le. set i (not_below i e.0 le)) placed ordered (hole_cleaned hole marks) (no_hole hole marks)
    (each_map (EntryStands blocks left marks held) (λ o. rank_of o.1 ≤ seq + 1) es (λ o is. bounded_rank left marks held seq (entry_in blocks o) o.1.block bounded is) before.newer_stand) before))
content_replayed blocks (Plain (Entries entries)) left left' seq marks held l a less bounded set in_order placed before = absurd (false≢true in_order)
content_replayed blocks (Plain Clean) left left' seq marks held l a less bounded set in_order placed before = replayed_clean blocks left' (record { cleaned = true; compacted = false; deleted = λ _. false }) held refl
content_replayed blocks (Plain (Compact index)) left left' seq marks held l a less bounded set in_order placed before =
    subst (λ xs. GroupReplayed blocks left' (record marks { compacted = true }) held xs (or_empty (table_after (in_append seq) (Plain (Compact index)) a)).entries) (sym (filtered index l))
    (subst (GroupReplayed blocks left' (record marks { compacted = true }) held (filter (λ e. nat_le index e.0) (or_empty l).entries)) (sym (filtered index a))
    (replayed_compaction blocks left left' marks (record marks { compacted = true }) held index (or_empty l).entries (or_empty a).entries less refl refl before))
content_replayed blocks (Plain (Put key value)) left left' seq marks held l a less bounded set in_order placed before =
    subst (λ xs. GroupReplayed blocks left' marks held xs (or_empty (table_after (in_append seq) (Plain (Put key value)) a)).entries) (sym (entries_of_either (bytes_eq key group_mark_key) l (option_map (with_key key None) l) ∙ ap (cond (bytes_eq key group_mark_key) (or_empty l).entries) (entries-delete key l) ∙ same_either (bytes_eq key group_mark_key) (or_empty l).entries))
    (subst (GroupReplayed blocks left' marks held (or_empty l).entries) (sym (entries_of_either (bytes_eq key group_mark_key) a _ ∙ same_either (bytes_eq key group_mark_key) (or_empty a).entries))
    (replayed_less blocks left left' marks marks held (or_empty l).entries (or_empty a).entries less refl (λ is. is) before))
content_replayed blocks (Plain (Delete key)) left left' seq marks held l a less bounded set in_order placed before =
    subst (λ xs. GroupReplayed blocks left' (marks_after (Plain (Delete key)) (or_empty a).entries marks) held xs (or_empty (option_map (with_key key None) a)).entries) (sym (entries-delete key l))
    (subst (GroupReplayed blocks left' (marks_after (Plain (Delete key)) (or_empty a).entries marks) held (or_empty l).entries) (sym (entries-delete key a))
    (replayed_less blocks left left' marks (marks_after (Plain (Delete key)) (or_empty a).entries marks) held (or_empty l).entries (or_empty a).entries less refl (λ is. is) before))

item_replayed : (blocks : Blocks) (seq g : ℕ) (left : ℕ → ℕ → Bool) (owed : Owed) (held : List Entry) (l a : Tables) (item : PlacedItem)
    → ((n i : ℕ) → left n i ≡ false → n ≤ seq) → is_placed_in_order item.content ≡ true → AreInFile Append seq item.content
    → GroupReplayed blocks left (owed g) held (or_empty (l g)).entries (or_empty (a g)).entries
    → GroupReplayed blocks (leave_after left seq (λ i. item_leaves g i (item_in blocks item))) (owed_after_item a item owed g) held (or_empty (tables_left_by l item g)).entries (or_empty (tables_after_item (in_append seq) a item g)).entries
item_replayed blocks seq g left owed held l a item bounded in_order placed before = at (g == item.group) refl
  where
    at : (b : Bool) → (g == item.group) ≡ b
        → GroupReplayed blocks (leave_after left seq (λ i. cond b (content_leaves i (content_in blocks item.content)) true)) (cond b (marks_after item.content (or_empty (a item.group)).entries (owed item.group)) (owed g)) held (or_empty (cond b (table_left item.content (l item.group)) (l g))).entries (or_empty (cond b (table_after (in_append seq) item.content (a item.group)) (a g))).entries
    at true same =
        let leaves = λ (i : ℕ). content_leaves i (content_in blocks item.content) in
        content_replayed blocks item.content left (leave_after left seq leaves) seq (owed item.group) held (l item.group) (a item.group)
        (λ n i is. stays_less (left n i) (nat_le n seq) (leaves i) is) bounded (λ i none. set_now (left seq i) (nat_le seq seq) (leaves i) (le_self seq) none) in_order placed
        (subst (λ h. GroupReplayed blocks left (owed h) held (or_empty (l h)).entries (or_empty (a h)).entries) (eq_from_test g item.group same) before)
    at false other = replayed_less blocks left (leave_after left seq (λ i. true)) (owed g) (owed g) held (or_empty (l g)).entries (or_empty (a g)).entries (λ n i is. stays_less (left n i) (nat_le n seq) true is) refl (λ is. is) before

items_replayed : (blocks : Blocks) (seq g : ℕ) (left : ℕ → ℕ → Bool) (owed : Owed) (held : List Entry) (l a : Tables) (items : List PlacedItem)
    → ((n i : ℕ) → left n i ≡ false → n ≤ seq) → list_all (λ item. is_placed_in_order item.content) items ≡ true → Each (λ item. AreInFile Append seq item.content) items
    → GroupReplayed blocks left (owed g) held (or_empty (l g)).entries (or_empty (a g)).entries
    → GroupReplayed blocks (leave_after left seq (λ i. list_all (item_leaves g i) (map (item_in blocks) items))) (owed_after (in_append seq) a items owed g) held (or_empty (tables_left l items g)).entries (or_empty (tables_after (in_append seq) a items g)).entries
items_replayed blocks seq g left owed held l a [] bounded in_order placed before = replayed_less blocks left (leave_after left seq (λ i. true)) (owed g) (owed g) held (or_empty (l g)).entries (or_empty (a g)).entries (λ n i is. stays_less (left n i) (nat_le n seq) true is) refl (λ is. is) before
items_replayed blocks seq g left owed held l a (item ∷ items) bounded in_order placed before =
    let next = tables_after_item (in_append seq) a item in
    let kept = tables_left_by l item in
    let orders = and_parts (is_placed_in_order item.content) (list_all (λ i. is_placed_in_order i.content) items) in_order in
    let first = λ (i : ℕ). item_leaves g i (item_in blocks item) in
    let others = λ (i : ℕ). list_all (item_leaves g i) (map (item_in blocks) items) in
    replayed_less blocks (leave_after (leave_after left seq first) seq others) (leave_after left seq (λ i. first i && others i)) (owed_after (in_append seq) next items (owed_after_item a item owed) g) (owed_after (in_append seq) next items (owed_after_item a item owed) g) held (or_empty (tables_left kept items g)).entries (or_empty (tables_after (in_append seq) next items g)).entries
    (λ n i is. both_less (left n i) (nat_le n seq) (first i) (others i) is) refl (λ is. is)
    (items_replayed blocks seq g (leave_after left seq first) (owed_after_item a item owed) held kept next items (λ n i is. still_bounded n seq (left n i) (first i) (bounded n i) is) orders.1 placed.1
    (item_replayed blocks seq g left owed held l a item bounded orders.0 placed.0 before))

-- keys

-- what a change leaves of a key's value
abbrev pub stored_left : List ℕ → PlacedContent → Option StoredValue → Option StoredValue
stored_left k (EntriesAt entries) s = s
stored_left k (Plain (Entries entries)) s = s
stored_left k (Plain Clean) s = None
stored_left k (Plain (Compact index)) s = s
stored_left k (Plain (Put key value)) s = cond (bytes_eq key group_mark_key) s (cond (bytes_eq k key) None s)
stored_left k (Plain (Delete key)) s = cond (bytes_eq k key) None s

keys_of_either : (b : Bool) (u v : Option TableView) (k : List ℕ) → (or_empty (cond b u v)).keys k ≡ cond b ((or_empty u).keys k) ((or_empty v).keys k)
keys_of_either true u v k = refl
keys_of_either false u v k = refl

none_either : (b : Bool) → let none : Option StoredValue = None in none ≡ cond b none none
none_either true = refl
none_either false = refl

keys_deleted : (key : List ℕ) (t : Option TableView) (k : List ℕ) → (or_empty (option_map (with_key key None) t)).keys k ≡ cond (bytes_eq k key) None ((or_empty t).keys k)
keys_deleted key None k = none_either (bytes_eq k key)
keys_deleted key (Some v) k = refl

stored-left : (c : PlacedContent) (t : Option TableView) (k : List ℕ) → (or_empty (table_left c t)).keys k ≡ stored_left k c ((or_empty t).keys k)
stored-left (EntriesAt []) t k = refl
stored-left (EntriesAt (e ∷ es)) t k = at (are_in_order (e ∷ es)) t
  where
    at : (b : Bool) (u : Option TableView) → (or_empty (cond b (option_map (λ v. with_entries_at (entries_below e.0 v.entries) v) u) u)).keys k ≡ (or_empty u).keys k
    at true None = refl
    at true (Some v) = refl
    at false u = refl
stored-left (Plain (Entries entries)) t k = refl
stored-left (Plain Clean) t k = refl
stored-left (Plain (Compact index)) None k = refl
stored-left (Plain (Compact index)) (Some v) k = refl
stored-left (Plain (Put key value)) t k = keys_of_either (bytes_eq key group_mark_key) t _ k ∙ ap (cond (bytes_eq key group_mark_key) ((or_empty t).keys k)) (keys_deleted key t k)
stored-left (Plain (Delete key)) t k = keys_deleted key t k

-- the newer value over the older one changes as one would
over-after : (seq : ℕ) (k : List ℕ) (c : PlacedContent) (newer older : Option StoredValue) → option_or (stored_after (in_append seq) k c newer) (stored_left k c older) ≡ stored_after (in_append seq) k c (option_or newer older)
over-after seq k (EntriesAt entries) newer older = refl
over-after seq k (Plain (Entries entries)) newer older = refl
over-after seq k (Plain Clean) newer older = refl
over-after seq k (Plain (Compact index)) newer older = refl
over-after seq k (Plain (Put key value)) newer older = at (bytes_eq key group_mark_key) (bytes_eq k key)
  where
    at : (mark same : Bool) → option_or (cond mark newer (cond same (Some (value, in_append seq)) newer)) (cond mark older (cond same None older)) ≡ cond mark (option_or newer older) (cond same (Some (value, in_append seq)) (option_or newer older))
    at true same = refl
    at false true = refl
    at false false = refl
over-after seq k (Plain (Delete key)) newer older = at (bytes_eq k key)
  where
    at : (same : Bool) → option_or (cond same None newer) (cond same None older) ≡ cond same None (option_or newer older)
    at true = refl
    at false = refl

abbrev over : Tables → Tables → ℕ → List ℕ → Option StoredValue
over newer older g k = option_or ((or_empty (newer g)).keys k) ((or_empty (older g)).keys k)

key_replayed : (blocks : Blocks) (seq : ℕ) (g : ℕ) (k : List ℕ) (left : ℕ → Bool) (owed : Owed) (held : Option (List ℕ)) (l a : Tables) (item : PlacedItem)
    → KeyStands left (owed g) held k (over a l g k)
    → KeyStands (left_after left seq (item_leaves_key g k (item_in blocks item))) (owed_after_item a item owed g) held k (over (tables_after_item (in_append seq) a item) (tables_left_by l item) g k)
key_replayed blocks seq g k left owed held l a item stands = at (g == item.group) refl
  where
    at : (b : Bool) → (g == item.group) ≡ b
        → KeyStands (left_after left seq (cond b (content_leaves_key k (content_in blocks item.content)) true)) (cond b (marks_after item.content (or_empty (a item.group)).entries (owed item.group)) (owed g)) held k
        (option_or ((or_empty (cond b (table_after (in_append seq) item.content (a item.group)) (a g))).keys k) ((or_empty (cond b (table_left item.content (l item.group)) (l g))).keys k))
    at true same =
        let P : ℕ → Type 0 = λ h. KeyStands left (owed h) held k (over a l h k) in
        let leaves = content_leaves_key k (content_in blocks item.content) in
        let id = in_append seq in
        let becomes : option_or ((or_empty (table_after id item.content (a item.group))).keys k) ((or_empty (table_left item.content (l item.group))).keys k) ≡ stored_after id k item.content (over a l item.group k) =
        ap (λ s. option_or s ((or_empty (table_left item.content (l item.group))).keys k)) (stored-after id item.content (a item.group) k)
        ∙ ap (option_or (stored_after id k item.content ((or_empty (a item.group)).keys k))) (stored-left item.content (l item.group) k)
        ∙ over-after seq k item.content ((or_empty (a item.group)).keys k) ((or_empty (l item.group)).keys k) in
        subst (λ s. KeyStands (left_after left seq leaves) (marks_after item.content (or_empty (a item.group)).entries (owed item.group)) held k s) (sym becomes)
        (cleaned_by blocks (or_empty (a item.group)).entries item.content left (left_after left seq leaves) seq (owed item.group) held k (over a l item.group k)
        (λ n is. stays_less (left n) (nat_le n seq) leaves is) (λ none. set_now (left seq) (nat_le seq seq) leaves (le_self seq) none)
        (subst P (eq_from_test g item.group same) stands))
    at false other = less_left left (left_after left seq true) (owed g) held k (over a l g k) (λ n is. stays_less (left n) (nat_le n seq) true is) stands

keys_replayed : (blocks : Blocks) (seq : ℕ) (g : ℕ) (k : List ℕ) (left : ℕ → Bool) (owed : Owed) (held : Option (List ℕ)) (l a : Tables) (items : List PlacedItem)
    → KeyStands left (owed g) held k (over a l g k)
    → KeyStands (left_after left seq (list_all (item_leaves_key g k) (map (item_in blocks) items))) (owed_after (in_append seq) a items owed g) held k (over (tables_after (in_append seq) a items) (tables_left l items) g k)
keys_replayed blocks seq g k left owed held l a [] stands = less_left left (left_after left seq true) (owed g) held k (over a l g k) (λ n is. stays_less (left n) (nat_le n seq) true is) stands
keys_replayed blocks seq g k left owed held l a (item ∷ items) stands =
    let first = item_leaves_key g k (item_in blocks item) in
    let others = list_all (item_leaves_key g k) (map (item_in blocks) items) in
    let next = tables_after_item (in_append seq) a item in
    let kept = tables_left_by l item in
    less_left (left_after (left_after left seq first) seq others) (left_after left seq (first && others)) (owed_after (in_append seq) next items (owed_after_item a item owed) g) held k (over (tables_after (in_append seq) next items) (tables_left kept items) g k)
    (λ n is. both_less (left n) (nat_le n seq) first others is)
    (keys_replayed blocks seq g k (left_after left seq first) (owed_after_item a item owed) held kept next items (key_replayed blocks seq g k left owed held l a item stands))

-- the whole

pub replay_step : (blocks : Blocks) (x : Contents) (appended : List FileBatch) (owed : Owed) (l a : Tables) (seq : ℕ) (items : List PlacedItem) → Each (λ b. b.0 ≤ seq) appended → list_all (λ item. is_placed_in_order item.content) items ≡ true → Each (λ item. AreInFile Append seq item.content) items
    → ReplayStands blocks x appended owed l a
    → ReplayStands blocks x (appended ++ (seq, map (item_in blocks) items) ∷ []) (owed_after (in_append seq) a items owed) (tables_left l items) (tables_after (in_append seq) a items)
replay_step blocks x appended owed l a seq items files in_order placed stands = record {
  entries = λ g.
      replayed_less blocks (leave_after (ends_leave appended g) seq (λ i. list_all (item_leaves g i) batch)) (ends_leave (appended ++ (seq, batch) ∷ []) g) (owed_after (in_append seq) a items owed g) (owed_after (in_append seq) a items owed g) (x.entries g) (or_empty (tables_left l items g)).entries (or_empty (tables_after (in_append seq) a items g)).entries
      (λ n i is. pass-push (item_leaves g i) appended seq batch n ∙ is) refl (λ is. is)
      (items_replayed blocks seq g (ends_leave appended g) owed (x.entries g) l a items (λ n i is. past_all (item_leaves g i) appended seq n files is) in_order placed (stands.entries g));
  keys = λ g k.
      less_left _ (ends_leave_key (appended ++ (seq, batch) ∷ []) g k) (owed_after (in_append seq) a items owed g) (x.value g k) k (over (tables_after (in_append seq) a items) (tables_left l items) g k)
      (λ n is. pass-push (item_leaves_key g k) appended seq batch n ∙ is)
      (keys_replayed blocks seq g k (ends_leave_key appended g k) owed (x.value g k) l a items (stands.keys g k));
}
  where
    batch : Batch
    batch = map (item_in blocks) items

pub replay_start : (blocks : Blocks) (x : Contents) (l : Tables) → HasConsecutiveEntries x → contents_in blocks l ≡ x → AreRewritten l → ReplayStands blocks x [] (λ _. no_marks) l (λ _. None)
replay_start blocks x l run same rewritten = record {
  entries = λ g. replayed_none blocks (ends_leave [] g) no_marks (x.entries g) (or_empty (l g)).entries (ap (λ (m : Contents). m.entries g) same) (run g) (rewritten.entries g) refl;
  keys = λ g k. at g k ((or_empty (l g)).keys k) refl (rewritten.keys g k);
}
  where
    at : (g : ℕ) (k : List ℕ) (s : Option StoredValue) → (or_empty (l g)).keys k ≡ s → IsRewrittenValue ((or_empty (l g)).keys k) → KeyStands (ends_leave_key [] g k) no_marks (x.value g k) k ((or_empty (l g)).keys k)
    at g k None is there = subst (KeyStands (ends_leave_key [] g k) no_marks (x.value g k) k) (sym is) (λ c d. sym (ap (λ (m : Contents). m.value g k) same) ∙ ap (option_map (λ (s : StoredValue). s.0)) is)
    at g k (Some (value, id)) is there =
        subst (KeyStands (ends_leave_key [] g k) no_marks (x.value g k) k) (sym is)
        (by id.queue (subst IsRewrittenValue is there) (sym (ap (λ (m : Contents). m.value g k) same) ∙ ap (option_map (λ (s : StoredValue). s.0)) is))
      where
        by : (queue : LogQueue) → is_rewrite queue ≡ true → x.value g k ≡ Some value → PlacedKeyStands (ends_leave_key [] g k) no_marks (x.value g k) value id.seq queue
        by Append wrong held = absurd (false≢true wrong)
        by Rewrite right held = (held, refl)

pub replay_end : (blocks : Blocks) (x : Contents) (appended : List FileBatch) (owed : Owed) (l a j : Tables) → IsJoined l a j → contents_in blocks j ≡ replay x (batches_of appended) → ReplayStands blocks x appended owed l a → TablesStandFor blocks x appended owed j
replay_end blocks x appended owed l a j joined contents stands = record {
  contents = contents;
  entries = λ g. subst (GroupStands blocks (ends_leave appended g) (owed g) (x.entries g)) (sym (joined.entries g)) (replayed_end blocks (ends_leave appended g) (owed g) (x.entries g) (or_empty (l g)).entries (or_empty (a g)).entries (stands.entries g));
  keys = λ g k. subst (KeyStands (ends_leave_key appended g k) (owed g) (x.value g k) k) (sym (joined.keys g k)) (stands.keys g k);
}
