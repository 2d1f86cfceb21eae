-- What the new files of the Rewrite queue hold, while a call writes to them again.
use Rattle.std.proofs.Common.{◌≡◌, ℕ, ◌==◌, Bool, true, false, cond, List, [], ◌∷◌, ◌++◌, Option, Some, None, refl, sym, ◌∙◌, ap, subst}
use Rattle.std.specs.List.{Contains, AllByRecursion as Each}
use Rattle.std.specs.Option.{option_map}
use Rattle.std.specs.Prelude.{unwrap_or}
use Rattle.std.specs.Str.{bytes_eq}
use Rattle.std.proofs.lemmas.Bool.{false≢true}
use Rattle.raft_base.specs.declared.pipe_log.FileBlockHandle.{FileBlockHandle}
use Rattle.raft_base.specs.declared.pipe_log.FileId.{FileId}
use Rattle.raft_records.specs.declared.entry_index.EntryPlace.{EntryPlace}
use Rattle.raft_records.specs.Contents.{Contents, after_item, with_entries, with_value}
use Rattle.raft_records.specs.Item.{Entry, Put, group_mark_key}
use Rattle.raft_records.specs.PlacedItem.{EntriesAt, Plain}
use Rattle.raft_records.specs.Places.{Blocks, entry_in, entries_in}
use Rattle.raft_records.specs.Validity.{are_consecutive_from}
use Rattle.raft_recovery_laws.proofs.KeyLemmas.{value-after_item}
use Rattle.raft_tables.specs.Counters.{is_rewrite, is_rewritten}
use Rattle.raft_tables.specs.MovedEntries.{entries_moved, may_move}
use Rattle.raft_tables.specs.Moving.{table_moved, tables_moved_by, value_moved}
use Rattle.raft_tables.specs.Table.{StoredValue, TableView}
use Rattle.raft_tables.specs.Tables.{Tables, or_empty}
use Rattle.raft_index_laws.specs.DroppingOld.{HoldsFrom, IsHeldFrom, IsValueHeldFrom}
use Rattle.raft_index_laws.specs.Rewriting.{ArePart, MayMoveKey, entries_item, placed_entries_item}
use Rattle.raft_recovery_laws.proofs.EachLemmas.{each_append, each_map, each_of}
use Rattle.raft_index_laws.proofs.KeyLemmas.{eq_from_test, in_rewrite, stored-moved}
use Rattle.raft_index_laws.proofs.MarkedLemmas.{entries_kept, entries_of_cond, same_either}
use Rattle.raft_index_laws.proofs.MovedLemmas.{contains_in, in_new}
use Rattle.raft_index_laws.proofs.MovingLemmas.{middle_moves}
use Rattle.raft_index_laws.proofs.RewrittenLemmas.{entries-moved, keys-moved, keys_at}

held_anyway : (first : ℕ) (held : List Entry) (e : Entry) (block : Option FileBlockHandle) → Contains held e → IsHeldFrom first held e block
held_anyway first held e None has = tt
held_anyway first held e (Some block) has = λ queue from. has

not_there : (first : ℕ) (held : List Entry) (e : Entry) (block : Option FileBlockHandle) → unwrap_or (option_map (λ (b : FileBlockHandle). is_rewrite b.id.queue) block) false ≡ false → IsHeldFrom first held e block
not_there first held e None is = tt
not_there first held e (Some block) is = λ queue from. absurd (false≢true (sym is ∙ ap is_rewrite queue))

-- all that a group has in the Rewrite queue is written again
pub holds_entries : (blocks : Blocks) (first : ℕ) (x : Contents) (t : Tables) (watermark : Option ℕ) (id : FileId) (group : ℕ) (n : ℕ × EntryPlace) (ns : List (ℕ × EntryPlace)) (k : ℕ) → are_consecutive_from k (or_empty (t group)).entries ≡ true
    → (part : ArePart watermark blocks (or_empty (t group)).entries (n ∷ ns)) → part.pre ≡ [] → HoldsFrom blocks first x t
    → HoldsFrom blocks first (after_item x (entries_item group (entries_in blocks (n ∷ ns)))) (tables_moved_by watermark id t (placed_entries_item group (n ∷ ns)))
holds_entries blocks first x t watermark id group n ns k run part none holds = record {
  entries = λ g. at g (g == group) refl;
  keys = λ g key. subst (IsValueHeldFrom first (x.value g key)) (sym (keys_at (g == group) (table_moved watermark id (EntriesAt (n ∷ ns)) (t group)) (t g) key (λ here. keys-moved watermark id (n ∷ ns) (t group) key ∙ sym (ap (λ h. (or_empty (t h)).keys key) (eq_from_test g group here))))) (holds.keys g key);
}
  where
    new : List Entry
    new = with_entries (x.entries group) (entries_in blocks (n ∷ ns))

    parts : (or_empty (t group)).entries ≡ part.mid ++ part.post
    parts = part.parts ∙ ap (λ (xs : List (ℕ × EntryPlace)). xs ++ (part.mid ++ part.post)) none

    moved : (or_empty (table_moved watermark id (EntriesAt (n ∷ ns)) (t group))).entries ≡ (n ∷ ns) ++ part.post
    moved = entries-moved watermark id (n ∷ ns) (t group) ∙ ap (entries_moved watermark (n ∷ ns)) parts
        ∙ middle_moves watermark k [] part.mid (n ∷ ns) part.post (subst (λ xs. are_consecutive_from k xs ≡ true) parts run) part.places

    at : (g : ℕ) (b : Bool) → (g == group) ≡ b
        → Each (λ e. IsHeldFrom first (cond b new (x.entries g)) (entry_in blocks e) e.1.block) (or_empty (cond b (table_moved watermark id (EntriesAt (n ∷ ns)) (t group)) (t g))).entries
    at g true here =
        subst (Each (λ e. IsHeldFrom first new (entry_in blocks e) e.1.block)) (sym moved)
        (each_append (λ e. IsHeldFrom first new (entry_in blocks e) e.1.block) (n ∷ ns) part.post
        (each_of (λ e. IsHeldFrom first new (entry_in blocks e) e.1.block) (n ∷ ns) (λ e has. held_anyway first new (entry_in blocks e) e.1.block (in_new (x.entries group) (entry_in blocks n) (entries_in blocks ns) (entry_in blocks e) (contains_in blocks (n ∷ ns) e has))))
        (each_map (λ e. is_rewritten e.1 ≡ false) (λ e. IsHeldFrom first new (entry_in blocks e) e.1.block) part.post (λ e is. not_there first new (entry_in blocks e) e.1.block is) part.rest))
    at g false other = holds.entries g

value_held : (first seq : ℕ) (watermark : Option ℕ) (held : Option (List ℕ)) (k : List ℕ) (s : Option StoredValue) (key value : List ℕ) (s_key : Option StoredValue) (from : FileId) → IsValueHeldFrom first held s → s_key ≡ Some (value, from) → may_move watermark from ≡ true
    → IsValueHeldFrom first (cond (bytes_eq key group_mark_key) held (cond (bytes_eq k key) (Some value) held)) (cond (bytes_eq key group_mark_key) s (cond (bytes_eq k key) (option_map (value_moved watermark (in_rewrite seq)) s_key) s))
value_held first seq watermark held k s key value s_key from there is may = at (bytes_eq key group_mark_key) (bytes_eq k key)
  where
    new : option_map (value_moved watermark (in_rewrite seq)) s_key ≡ Some (value, in_rewrite seq)
    new = ap (option_map (value_moved watermark (in_rewrite seq))) is ∙ ap (λ b. Some (cond b (value, in_rewrite seq) (value, from))) may

    at : (mark same : Bool) → IsValueHeldFrom first (cond mark held (cond same (Some value) held)) (cond mark s (cond same (option_map (value_moved watermark (in_rewrite seq)) s_key) s))
    at true same = there
    at false true = subst (λ o. IsValueHeldFrom first (Some value) o) (sym new) (λ queue from_first. refl)
    at false false = there

-- .. and a value
pub holds_value : (blocks : Blocks) (first : ℕ) (x : Contents) (t : Tables) (watermark : Option ℕ) (seq group : ℕ) (key value : List ℕ) → MayMoveKey watermark t group key value → HoldsFrom blocks first x t
    → HoldsFrom blocks first (after_item x (record { group = group; content = Put key value })) (tables_moved_by watermark (in_rewrite seq) t (record { group = group; content = Plain (Put key value) }))
holds_value blocks first x t watermark seq group key value may holds = record {
  entries = λ g. by g (g == group) refl;
  keys = λ g k. subst (λ v. IsValueHeldFrom first v ((or_empty (u g)).keys k)) (sym (value-after_item x (record { group = group; content = Put key value }) g k)) (at g k (g == group) refl);
}
  where
    moved : Option TableView
    moved = table_moved watermark (in_rewrite seq) (Plain (Put key value)) (t group)

    u : Tables
    u = tables_moved_by watermark (in_rewrite seq) t (record { group = group; content = Plain (Put key value) })

    held_same : (g : ℕ) → (after_item x (record { group = group; content = Put key value })).entries g ≡ x.entries g
    held_same g = entries_of_cond (bytes_eq key group_mark_key) x (with_value group key (Some value) x) g ∙ same_either (bytes_eq key group_mark_key) (x.entries g)

    by : (g : ℕ) (b : Bool) → (g == group) ≡ b → Each (λ e. IsHeldFrom first ((after_item x (record { group = group; content = Put key value })).entries g) (entry_in blocks e) e.1.block) (or_empty (cond b moved (t g))).entries
    by g true here =
        subst (λ hs. Each (λ e. IsHeldFrom first hs (entry_in blocks e) e.1.block) (or_empty moved).entries) (sym (held_same g))
        (subst (Each (λ e. IsHeldFrom first (x.entries g) (entry_in blocks e) e.1.block)) (ap (λ h. (or_empty (t h)).entries) (eq_from_test g group here) ∙ sym (entries_kept watermark key value seq (t group))) (holds.entries g))
    by g false other = subst (λ hs. Each (λ e. IsHeldFrom first hs (entry_in blocks e) e.1.block) (or_empty (t g)).entries) (sym (held_same g)) (holds.entries g)

    at : (g : ℕ) (k : List ℕ) (b : Bool) → (g == group) ≡ b → IsValueHeldFrom first (cond b (cond (bytes_eq key group_mark_key) (x.value g k) (cond (bytes_eq k key) (Some value) (x.value g k))) (x.value g k)) ((or_empty (cond b moved (t g))).keys k)
    at g k true here =
        subst (IsValueHeldFrom first (cond (bytes_eq key group_mark_key) (x.value g k) (cond (bytes_eq k key) (Some value) (x.value g k)))) (sym (stored-moved watermark (in_rewrite seq) key value (t group) k))
        (value_held first seq watermark (x.value g k) k ((or_empty (t group)).keys k) key value ((or_empty (t group)).keys key) may.0 (subst (λ h. IsValueHeldFrom first (x.value g k) ((or_empty (t h)).keys k)) (eq_from_test g group here) (holds.keys g k)) may.1 may.2)
    at g k false other = holds.keys g k
