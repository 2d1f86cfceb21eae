-- Marks that are written to the Rewrite queue, and values that are written there again.
use Rattle.std.proofs.Common.{◌≡◌, ℕ, ◌≤◌, ◌==◌, Bool, true, false, cond, List, [], ◌∷◌, filter, Option, Some, None, refl, sym, ◌∙◌, ap, subst, arith}
use Rattle.std.specs.List.{Contains}
use Rattle.std.specs.Option.{option_map}
use Rattle.std.specs.Prelude.{nat_le}
use Rattle.std.specs.Str.{bytes_eq}
use Rattle.std.specs.Cmp.Lexicographic.{bytes_decides}
use Rattle.std.proofs.lemmas.Bool.{false≢true}
use Rattle.raft_base.specs.declared.pipe_log.FileBlockHandle.{FileBlockHandle}
use Rattle.raft_base.specs.declared.pipe_log.LogQueue.{LogQueue}
use Rattle.raft_base.specs.declared.pipe_log.LogQueue.TheVariants.{Append, Rewrite}
use Rattle.raft_records.specs.declared.entry_index.EntryPlace.{EntryPlace}
use Rattle.raft_records.specs.Contents.{Contents, after_item, with_value}
use Rattle.raft_records.specs.Item.{Entry, Clean, Compact, Delete, Put, group_mark_key}
use Rattle.raft_records.specs.PlacedItem.{Plain}
use Rattle.raft_records.specs.Places.{Blocks, entry_in, entries_in}
use Rattle.raft_records.specs.Validity.{are_consecutive_from}
use Rattle.raft_recovery_laws.specs.Consecutive.{HasConsecutiveEntries, HaveConsecutiveEntries}
use Rattle.raft_recovery_laws.specs.Recovered.{item_leaves, item_leaves_key, leaves, leaves_key, replay}
use Rattle.raft_recovery_laws.specs.Rewriting.{ChangesNothing}
use Rattle.raft_recovery_laws.proofs.ContentsLemmas.{replay_consecutive}
use Rattle.raft_recovery_laws.proofs.MarkLemmas.{contents_ext, deleted_changes_nothing, put_changes_nothing}
use Rattle.raft_recovery_laws.proofs.UnchangedLemmas.{clean_changes_nothing, compaction_changes_nothing}
use Rattle.raft_tables.specs.MovedEntries.{may_move}
use Rattle.raft_tables.specs.Moving.{table_moved, tables_moved_by, value_moved}
use Rattle.raft_tables.specs.Table.{StoredValue, TableView, with_key}
use Rattle.raft_tables.specs.Tables.{Tables, contents_in, or_empty}
use Rattle.raft_tables.specs.Owed.{Marks, Owed, with_marks, without_clean, without_compaction, without_delete}
use Rattle.raft_index_laws.specs.Rewriting.{IsMarkIndex, MayMoveKey}
use Rattle.raft_records.specs.FileBatches.{FileBatch, batches_of}
use Rattle.raft_index_laws.specs.Standing.{EntriesStand, EntryStands, GroupStands, PlacedEntryStands, StandsInBlock, TablesStandFor, ends_leave, ends_leave_key}
use Rattle.raft_index_laws.proofs.DropLemmas.{placed_of, placed_run}
use Rattle.raft_recovery_laws.proofs.EachLemmas.{all_of, each_contained, within}
use Rattle.raft_index_laws.proofs.EndsLemmas.{from_none, pass-later}
use Rattle.raft_index_laws.proofs.GroupLemmas.{group_clean_marked, group_compaction_marked, group_less}
use Rattle.raft_index_laws.proofs.KeyLemmas.{eq_from_test, in_rewrite, set_by_append, stored-moved}
use Rattle.raft_index_laws.proofs.KeyStepLemmas.{key_deleted, key_rewritten, keys_cleaned, keys_compacted}

pub entries_of_cond : (b : Bool) (m n : Contents) (g : ℕ) → (cond b m n).entries g ≡ cond b (m.entries g) (n.entries g)
entries_of_cond true m n g = refl
entries_of_cond false m n g = refl

pub same_either : {X : Type 0} (b : Bool) (x : X) → cond b x x ≡ x
same_either true x = refl
same_either false x = refl

-- the marks of a group are others, and its entries stand as before
entries_marked : (blocks : Blocks) (x : Contents) (appended : List FileBatch) (owed : Owed) (t : Tables) (group : ℕ) (marks : Marks) → marks.cleaned ≡ (owed group).cleaned → (marks.compacted ≡ false → (owed group).compacted ≡ false) → EntriesStand blocks x appended owed t
    → EntriesStand blocks x appended (with_marks group marks owed) t
entries_marked blocks x appended owed t group marks cleaned compacted stands g = at (g == group) refl
  where
    at : (b : Bool) → (g == group) ≡ b → GroupStands blocks (ends_leave appended g) (cond b marks (owed g)) (x.entries g) (or_empty (t g)).entries
    at true here = subst (λ (h : ℕ). GroupStands blocks (ends_leave appended h) marks (x.entries h) (or_empty (t h)).entries) (sym (eq_from_test g group here))
        (group_less blocks (ends_leave appended group) (ends_leave appended group) (owed group) marks (x.entries group) (or_empty (t group)).entries (λ n i is. is) cleaned compacted (stands group))
    at false other = stands g

-- a delete of a key that isn't there
pub delete_marked : (blocks : Blocks) (x : Contents) (appended : List FileBatch) (owed : Owed) (t : Tables) (group : ℕ) (key : List ℕ) → (or_empty (t group)).keys key ≡ None → TablesStandFor blocks x appended owed t
    → ChangesNothing x (batches_of appended) (record { group = group; content = Delete key })
    × TablesStandFor blocks (after_item x (record { group = group; content = Delete key })) appended (with_marks group (without_delete key (owed group)) owed) t
delete_marked blocks x appended owed t group key none stands = (
  unchanged,
  record {
    contents = stands.contents ∙ sym unchanged;
    entries = entries_marked blocks x appended owed t group (without_delete key (owed group)) refl (λ is. is) stands.entries;
    keys = key_deleted x appended owed t group key stands.keys none;
  },
)
  where
    unchanged : ChangesNothing x (batches_of appended) (record { group = group; content = Delete key })
    unchanged = deleted_changes_nothing x (batches_of appended) group key (λ left. sym (ap (λ (m : Contents). m.value group key) stands.contents) ∙ ap (option_map (λ (s : StoredValue). s.0)) none)

-- what the whole queue leaves alone of an entry that stands
not_left : (appended : List FileBatch) (group : ℕ) (marks : Marks) (held : List Entry) (e : Entry) (block : Option FileBlockHandle) → marks.cleaned ≡ true → StandsInBlock (ends_leave appended group) marks held e block → leaves (batches_of appended) group e.0 ≡ false
not_left appended group marks held e None owed stands = absurd stands
not_left appended group marks held e (Some block) owed stands = at block.id.queue stands
  where
    at : (queue : LogQueue) → PlacedEntryStands (ends_leave appended group) marks held e block.id.seq queue → leaves (batches_of appended) group e.0 ≡ false
    at Append is = ap (λ (bs : List FileBatch). leaves (batches_of bs) group e.0) (sym (from_none appended)) ∙ pass-later (item_leaves group e.0) appended 0 block.id.seq (omega arith) (is e.0 (omega arith))
    at Rewrite is = absurd (false≢true (sym is.1 ∙ owed))

-- a clean that is owed
pub clean_marked : (blocks : Blocks) (x : Contents) (appended : List FileBatch) (owed : Owed) (t : Tables) (group : ℕ) → HasConsecutiveEntries x → HaveConsecutiveEntries (batches_of appended) → (owed group).cleaned ≡ true → TablesStandFor blocks x appended owed t
    → ChangesNothing x (batches_of appended) (record { group = group; content = Clean })
    × TablesStandFor blocks (after_item x (record { group = group; content = Clean })) appended (with_marks group (without_clean (owed group)) owed) t
clean_marked blocks x appended owed t group run_x run clean stands = (
  unchanged,
  record {
    contents = stands.contents ∙ sym unchanged;
    entries = λ g. at g (g == group) refl;
    keys = keys_cleaned x appended owed t group stands.keys clean;
  },
)
  where
    unchanged : ChangesNothing x (batches_of appended) (record { group = group; content = Clean })
    unchanged = clean_changes_nothing x (batches_of appended) group run (run_x group) (record {
      entries = all_of (λ o. leaves (batches_of appended) group o.0 ≡ true → ⊥) ((replay x (batches_of appended)).entries group)
          (λ o has left.
          let found = placed_of blocks (or_empty (t group)).entries o (subst (λ (m : Contents). Contains (m.entries group) o) (sym stands.contents) has) in
          let p = found.0 in
          let taken = not_left appended group (owed group) (x.entries group) (entry_in blocks p) p.1.block clean (each_contained (EntryStands blocks (ends_leave appended group) (owed group) (x.entries group)) (or_empty (t group)).entries p (stands.entries group).each found.1) in
          false≢true (sym (ap (λ (e : Entry). leaves (batches_of appended) group e.0) (sym found.2) ∙ taken) ∙ left));
      keys = λ key left. sym (ap (λ (m : Contents). m.value group key) stands.contents)
          ∙ set_by_append (ends_leave_key appended group key) (owed group) (x.value group key) key ((or_empty (t group)).keys key) clean (stands.keys group key)
          (ap (λ (bs : List FileBatch). leaves_key (batches_of bs) group key) (from_none appended) ∙ left) (λ n is. pass-later (item_leaves_key group key) appended 0 n (omega arith) is);
    })

    at : (g : ℕ) (b : Bool) → (g == group) ≡ b → GroupStands blocks (ends_leave appended g) (cond b (without_clean (owed group)) (owed g)) (cond b [] (x.entries g)) (or_empty (t g)).entries
    at g true here = group_clean_marked blocks (ends_leave appended g) (owed g) (without_clean (owed group)) (x.entries g) (or_empty (t g)).entries (ap (λ (h : ℕ). (owed h).cleaned) (eq_from_test g group here) ∙ clean) (stands.entries g)
    at g false other = stands.entries g

pub compaction_marked : (blocks : Blocks) (x : Contents) (appended : List FileBatch) (owed : Owed) (t : Tables) (group index : ℕ) → HasConsecutiveEntries x → HaveConsecutiveEntries (batches_of appended) → IsMarkIndex (or_empty (t group)).entries (x.entries group) index
    → TablesStandFor blocks x appended owed t
    → ChangesNothing x (batches_of appended) (record { group = group; content = Compact index })
    × TablesStandFor blocks (after_item x (record { group = group; content = Compact index })) appended (with_marks group (without_compaction (owed group)) owed) t
compaction_marked blocks x appended owed t group index run_x run mark stands = (
  unchanged,
  record {
    contents = stands.contents ∙ sym unchanged;
    entries = λ g. at g (g == group) refl;
    keys = keys_compacted x appended owed t group index stands.keys;
  },
)
  where
    es : List (ℕ × EntryPlace)
    es = (or_empty (t group)).entries

    same : entries_in blocks es ≡ (replay x (batches_of appended)).entries group
    same = ap (λ (m : Contents). m.entries group) stands.contents

    run_es : (n : ℕ × EntryPlace) (others : List (ℕ × EntryPlace)) → es ≡ n ∷ others → are_consecutive_from n.0 (n ∷ others) ≡ true
    run_es = placed_run blocks ((replay x (batches_of appended)).entries group) es same (replay_consecutive x (batches_of appended) run_x run group)

    first : (n : ℕ × EntryPlace) (others : List (ℕ × EntryPlace)) → es ≡ n ∷ others → n.0 ≡ index
    first n others is = subst (λ ys. IsMarkIndex ys (x.entries group) index) is mark

    unchanged : ChangesNothing x (batches_of appended) (record { group = group; content = Compact index })
    unchanged = compaction_changes_nothing x (batches_of appended) group index run (run_x group)
        (all_of (λ o. leaves (batches_of appended) group o.0 ≡ true → index ≤ o.0) ((replay x (batches_of appended)).entries group)
        (λ o has left.
        let found = placed_of blocks es o (subst (λ (xs : List Entry). Contains xs o) (sym same) has) in
        let at : found.0.0 ≡ o.0 = ap (λ (e : Entry). e.0) found.2 in
        omega (arith, above es refl found.0 found.1, at)))
      where
        above : (ys : List (ℕ × EntryPlace)) → es ≡ ys → (p : ℕ × EntryPlace) → Contains es p → index ≤ p.0
        above [] is p has = absurd (omega (arith, (subst (λ zs. Contains zs p) is has).1))
        above (n ∷ others) is p has = omega (arith, (within n.0 (n ∷ others) p (run_es n others is) (subst (λ zs. Contains zs p) is has)).0, first n others is)

    at : (g : ℕ) (b : Bool) → (g == group) ≡ b → GroupStands blocks (ends_leave appended g) (cond b (without_compaction (owed group)) (owed g)) (cond b (filter (λ e. nat_le index e.0) (x.entries group)) (x.entries g)) (or_empty (t g)).entries
    at g true here =
        subst (λ (h : ℕ). GroupStands blocks (ends_leave appended h) (without_compaction (owed group)) (filter (λ e. nat_le index e.0) (x.entries group)) (or_empty (t h)).entries) (sym (eq_from_test g group here))
        (group_compaction_marked blocks (ends_leave appended group) (owed group) (without_compaction (owed group)) (x.entries group) index es (λ c. c) (λ n others is. (first n others is, run_es n others is)) (λ none. subst (λ ys. IsMarkIndex ys (x.entries group) index) none mark) (stands.entries group))
    at g false other = stands.entries g

-- a value that is written again

values_moved : (watermark : Option ℕ) (key value : List ℕ) (seq : ℕ) (t : Option TableView) (k : List ℕ)
    → option_map (λ (s : StoredValue). s.0) ((or_empty (table_moved watermark (in_rewrite seq) (Plain (Put key value)) t)).keys k) ≡ option_map (λ (s : StoredValue). s.0) ((or_empty t).keys k)
values_moved watermark key value seq t k =
    ap (option_map (λ (s : StoredValue). s.0)) (stored-moved watermark (in_rewrite seq) key value t k) ∙ at (bytes_eq key group_mark_key) (bytes_eq k key) refl
  where
    same_value : (s : Option StoredValue) → option_map (λ (v : StoredValue). v.0) (option_map (value_moved watermark (in_rewrite seq)) s) ≡ option_map (λ (v : StoredValue). v.0) s
    same_value None = refl
    same_value (Some s) = ap (λ v. let o : Option (List ℕ) = Some v in o) (either (may_move watermark s.1) s (s.0, in_rewrite seq) refl)
      where
        either : (b : Bool) (old new : StoredValue) → new.0 ≡ old.0 → (cond b new old).0 ≡ old.0
        either true old new same = same
        either false old new same = refl

    at : (mark same : Bool) → bytes_eq k key ≡ same → option_map (λ (v : StoredValue). v.0) (cond mark ((or_empty t).keys k) (cond same (option_map (value_moved watermark (in_rewrite seq)) ((or_empty t).keys key)) ((or_empty t).keys k))) ≡ option_map (λ (v : StoredValue). v.0) ((or_empty t).keys k)
    at true same is = refl
    at false true is = same_value ((or_empty t).keys key) ∙ ap (λ j. option_map (λ (v : StoredValue). v.0) ((or_empty t).keys j)) (sym ((bytes_decides k key).0 is))
    at false false is = refl

pub entries_kept : (watermark : Option ℕ) (key value : List ℕ) (seq : ℕ) (t : Option TableView) → (or_empty (table_moved watermark (in_rewrite seq) (Plain (Put key value)) t)).entries ≡ (or_empty t).entries
entries_kept watermark key value seq None = at (bytes_eq key group_mark_key)
  where
    at : (b : Bool) → (or_empty (cond b None None)).entries ≡ []
    at true = refl
    at false = refl
entries_kept watermark key value seq (Some v) = at (bytes_eq key group_mark_key)
  where
    at : (b : Bool) → (or_empty (cond b (Some v) (Some (with_key key (option_map (value_moved watermark (in_rewrite seq)) (v.keys key)) v)))).entries ≡ v.entries
    at true = refl
    at false = refl

entries_at : (b : Bool) (u v : Option TableView) → (b ≡ true → (or_empty u).entries ≡ (or_empty v).entries) → (or_empty (cond b u v)).entries ≡ (or_empty v).entries
entries_at true u v same = same refl
entries_at false u v same = refl

value_in_either : (b : Bool) (u v : Option TableView) (k : List ℕ) → (b ≡ true → option_map (λ (s : StoredValue). s.0) ((or_empty u).keys k) ≡ option_map (λ (s : StoredValue). s.0) ((or_empty v).keys k)) → option_map (λ (s : StoredValue). s.0) ((or_empty (cond b u v)).keys k) ≡ option_map (λ (s : StoredValue). s.0) ((or_empty v).keys k)
value_in_either true u v k same = same refl
value_in_either false u v k same = refl

pub value_rewritten : (blocks : Blocks) (x : Contents) (appended : List FileBatch) (owed : Owed) (t : Tables) (watermark : Option ℕ) (seq group : ℕ) (key value : List ℕ) → (owed group).cleaned ≡ false → MayMoveKey watermark t group key value → TablesStandFor blocks x appended owed t
    → ChangesNothing x (batches_of appended) (record { group = group; content = Put key value })
    × TablesStandFor blocks (after_item x (record { group = group; content = Put key value })) appended owed (tables_moved_by watermark (in_rewrite seq) t (record { group = group; content = Plain (Put key value) }))
value_rewritten blocks x appended owed t watermark seq group key value clean may stands = (
  unchanged,
  record {
    contents = same_contents ∙ stands.contents ∙ sym unchanged;
    entries = λ g. subst (λ (es : List (ℕ × EntryPlace)). GroupStands blocks (ends_leave appended g) (owed g) ((after_item x (record { group = group; content = Put key value })).entries g) es) (sym (entries_same g))
        (subst (λ (hs : List Entry). GroupStands blocks (ends_leave appended g) (owed g) hs (or_empty (t g)).entries) (sym (entries_of_cond (bytes_eq key group_mark_key) x (with_value group key (Some value) x) g ∙ same_either (bytes_eq key group_mark_key) (x.entries g))) (stands.entries g));
    keys = key_rewritten x appended owed t watermark seq group key value stands.keys clean may;
  },
)
  where
    u : Tables
    u = tables_moved_by watermark (in_rewrite seq) t (record { group = group; content = Plain (Put key value) })

    unchanged : ChangesNothing x (batches_of appended) (record { group = group; content = Put key value })
    unchanged = put_changes_nothing x (batches_of appended) group key value (λ left. sym (ap (λ (m : Contents). m.value group key) stands.contents) ∙ ap (option_map (λ (s : StoredValue). s.0)) may.1)

    entries_same : (g : ℕ) → (or_empty (u g)).entries ≡ (or_empty (t g)).entries
    entries_same g = entries_at (g == group) (table_moved watermark (in_rewrite seq) (Plain (Put key value)) (t group)) (t g) (λ here. entries_kept watermark key value seq (t group) ∙ sym (ap (λ h. (or_empty (t h)).entries) (eq_from_test g group here)))

    same_contents : contents_in blocks u ≡ contents_in blocks t
    same_contents = contents_ext (contents_in blocks u) (contents_in blocks t) (λ g. ap (entries_in blocks) (entries_same g))
        (λ g k. value_in_either (g == group) (table_moved watermark (in_rewrite seq) (Plain (Put key value)) (t group)) (t g) k (λ here. values_moved watermark key value seq (t group) k ∙ sym (ap (λ h. option_map (λ (s : StoredValue). s.0) ((or_empty (t h)).keys k)) (eq_from_test g group here))))
