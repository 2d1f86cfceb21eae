-- What is true of the keys of all groups, step by step.
use Rattle.std.proofs.Common.{◌≡◌, ℕ, ◌==◌, Bool, true, false, cond, List, Option, None, refl, sym, ◌∙◌, ap, subst}
use Rattle.std.specs.Cmp.Lexicographic.{bytes_decides}
use Rattle.raft_records.specs.Contents.{Contents, after_item}
use Rattle.raft_records.specs.Item.{Clean, Compact, Content, Delete, Put}
use Rattle.raft_records.specs.PlacedItem.{Plain, PlacedItem}
use Rattle.raft_recovery_laws.proofs.KeyLemmas.{value_after_content, value-after_item}
use Rattle.raft_tables.specs.Tables.{Tables, or_empty}
use Rattle.raft_tables.specs.Moving.{tables_moved_by, table_moved}
use Rattle.raft_tables.specs.Owed.{Marks, Owed, with_marks, without_clean, without_compaction, without_delete}
use Rattle.raft_records.specs.FileBatches.{FileBatch}
use Rattle.raft_index_laws.specs.Standing.{KeysStand, KeyStands, ends_leave_key}
use Rattle.raft_index_laws.proofs.KeyLemmas.{clean_marked, delete_marked, eq_from_test, eq_self, in_rewrite, more_owed, moved, stored-moved}
use Rattle.raft_index_laws.specs.Rewriting.{MayMoveKey}

-- what one item does to a group's key in the Rewrite queue
pub in_group : (x : Contents) (appended : List FileBatch) (owed : Owed) (t u : Tables) (group : ℕ) (content : Content) (marks : Marks) → ((g : ℕ) → (g == group) ≡ false → u g ≡ t g)
    → ((key : List ℕ) → KeyStands (ends_leave_key appended group key) marks (value_after_content key (x.value group key) content) key ((or_empty (u group)).keys key))
    → KeysStand x appended owed t → KeysStand (after_item x (record { group = group; content = content })) appended (with_marks group marks owed) u
in_group x appended owed t u group content marks others here stands g k =
    subst (λ v. KeyStands (ends_leave_key appended g k) (with_marks group marks owed g) v k ((or_empty (u g)).keys k)) (sym (value-after_item x (record { group = group; content = content }) g k)) (at (g == group) refl)
  where
    at : (b : Bool) → (g == group) ≡ b → KeyStands (ends_leave_key appended g k) (cond b marks (owed g)) (cond b (value_after_content k (x.value g k) content) (x.value g k)) k ((or_empty (u g)).keys k)
    at true same = subst (λ (h : ℕ). KeyStands (ends_leave_key appended h k) marks (value_after_content k (x.value h k) content) k ((or_empty (u h)).keys k)) (sym (eq_from_test g group same)) (here k)
    at false other = subst (λ (o : _). KeyStands (ends_leave_key appended g k) (owed g) (x.value g k) k ((or_empty o).keys k)) (sym (others g other)) (stands g k)

pub key_deleted : (x : Contents) (appended : List FileBatch) (owed : Owed) (t : Tables) (group : ℕ) (key : List ℕ) → KeysStand x appended owed t → (or_empty (t group)).keys key ≡ None
    → KeysStand (after_item x (record { group = group; content = Delete key })) appended (with_marks group (without_delete key (owed group)) owed) t
key_deleted x appended owed t group key stands none =
    in_group x appended owed t t group (Delete key) (without_delete key (owed group)) (λ g other. refl)
    (λ k. delete_marked (ends_leave_key appended group k) (owed group) (x.value group k) k ((or_empty (t group)).keys k) key (λ same. ap (or_empty (t group)).keys ((bytes_decides k key).0 same) ∙ none) (stands group k))
    stands

pub keys_cleaned : (x : Contents) (appended : List FileBatch) (owed : Owed) (t : Tables) (group : ℕ) → KeysStand x appended owed t → (owed group).cleaned ≡ true
    → KeysStand (after_item x (record { group = group; content = Clean })) appended (with_marks group (without_clean (owed group)) owed) t
keys_cleaned x appended owed t group stands clean =
    in_group x appended owed t t group Clean (without_clean (owed group)) (λ g other. refl)
    (λ k. clean_marked (ends_leave_key appended group k) (owed group) (x.value group k) k ((or_empty (t group)).keys k) clean (stands group k)) stands

pub keys_compacted : (x : Contents) (appended : List FileBatch) (owed : Owed) (t : Tables) (group index : ℕ) → KeysStand x appended owed t
    → KeysStand (after_item x (record { group = group; content = Compact index })) appended (with_marks group (without_compaction (owed group)) owed) t
keys_compacted x appended owed t group index stands =
    in_group x appended owed t t group (Compact index) (without_compaction (owed group)) (λ g other. refl)
    (λ k. more_owed (ends_leave_key appended group k) (owed group) (without_compaction (owed group)) (x.value group k) k ((or_empty (t group)).keys k) refl (λ is. is) (stands group k)) stands

pub key_rewritten : (x : Contents) (appended : List FileBatch) (owed : Owed) (t : Tables) (watermark : Option ℕ) (seq group : ℕ) (key value : List ℕ) → KeysStand x appended owed t → (owed group).cleaned ≡ false → MayMoveKey watermark t group key value
    → KeysStand (after_item x (record { group = group; content = Put key value })) appended owed (tables_moved_by watermark (in_rewrite seq) t (record { group = group; content = Plain (Put key value) }))
key_rewritten x appended owed t watermark seq group key value stands clean may =
    let item : PlacedItem = record { group = group; content = Plain (Put key value) } in
    let u = tables_moved_by watermark (in_rewrite seq) t item in
    let unchanged = in_group x appended owed t u group (Put key value) (owed group) (λ g other. ap (λ b. cond b (table_moved watermark (in_rewrite seq) (Plain (Put key value)) (t group)) (t g)) other)
    (λ k. subst (λ s. KeyStands (ends_leave_key appended group k) (owed group) (value_after_content k (x.value group k) (Put key value)) k s)
    (sym (ap (λ b. (or_empty (cond b (table_moved watermark (in_rewrite seq) (Plain (Put key value)) (t group)) (t group))).keys k) (eq_self group) ∙ stored-moved watermark (in_rewrite seq) key value (t group) k))
    (moved watermark seq (ends_leave_key appended group k) (owed group) (x.value group k) k ((or_empty (t group)).keys k) key value ((or_empty (t group)).keys key) may.0 (stands group k) clean may.1 may.2)) stands in
    λ g k. subst (λ (m : Marks). KeyStands (ends_leave_key appended g k) m ((after_item x (record { group = group; content = Put key value })).value g k) k ((or_empty (u g)).keys k)) (same_marks owed g group) (unchanged g k)
  where
    same_marks : (owed : Owed) (g group : ℕ) → cond (g == group) (owed group) (owed g) ≡ owed g
    same_marks owed g group = at (g == group) refl
      where
        at : (b : Bool) → (g == group) ≡ b → cond b (owed group) (owed g) ≡ owed g
        at true same = ap owed (sym (eq_from_test g group same))
        at false other = refl
