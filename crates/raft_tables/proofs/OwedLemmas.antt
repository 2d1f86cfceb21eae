-- Marks that are noted.
use Rattle.std.proofs.Common.{◌≡◌, ℕ, ◌+◌, ◌⊎◌, inl, inr, ◌==◌, ◌&&◌, ◌||◌, nat_lt, length, Bool, true, false, cond, List, [], ◌∷◌, Option, Some, None, Vec, unwrap_or, refl, sym, ◌∙◌, ap, arith}
use Rattle.std.proofs.lemmas.Grind.{common_steps}
use Rattle.std.proofs.lemmas.Map.Text.{is_eq-slice_cmp}
use Rattle.std.specs.BTreeMap as tree
use Rattle.std.specs.BTreeMap.{BTreeMap}
use Rattle.std.specs.BTreeSet as set
use Rattle.std.specs.BTreeSet.{BTreeSet, insert_key}
use Rattle.std.specs.Cmp.Lexicographic.{slice_cmp, bytes_decides, nat_list_eq_equiv}
use Rattle.std.specs.List.{AllByRecursion as Each, list_any}
use Rattle.std.specs.Map.{lookup}
use Rattle.std.specs.Option.{option_map}
use Rattle.std.specs.Ordering.{is_eq, match_ordering, nat_cmp}
use Rattle.std.specs.Str.{bytes_eq}
use Rattle.std.specs.declared.alloc.Global.{Global}
use Rattle.std.specs.declared.cmp.Ordering.{Ordering}
use Rattle.std.specs.declared.cmp.Ordering.TheVariants.{Less, Equal, Greater}
use Rattle.raft_records.specs.declared.entry_index.EntryPlace.{EntryPlace}
use Rattle.raft_records.specs.Item.{Content, Entries, Clean, Compact, Put, Delete}
use Rattle.raft_records.specs.LogItem.{command_of, key_value_of, placed_content_of}
use Rattle.raft_records.specs.PlacedItem.{EntriesAt, Plain}
use Rattle.raft_records.specs.declared.log_item.Command.{Command}
use Rattle.raft_records.specs.declared.log_item.KeyValue.{KeyValue}
use Rattle.raft_records.specs.declared.log_item.LogItemContent.{LogItemContent}
use Rattle.raft_records.specs.declared.log_item.LogItemContent.TheVariants.{Command as TheCommand, Kv}
use Rattle.raft_records.specs.Validity.{are_in_order}
use Rattle.raft_tables.specs.Owed.{Marks, Owed, clean_marks, marks_after, marks_noted, no_marks, with_compaction, with_delete, with_marks}
use Rattle.raft_tables.specs.OwedMarks.{is_key_of, leave_hole}
use Rattle.raft_tables.specs.Span.{span_of}

pub is_eq-nat_cmp : (a b : ℕ) → is_eq (nat_cmp a b) ≡ (b == a)
is_eq-nat_cmp a b = grind (arith, common_steps)

eq_from_test : (a b : ℕ) → (a == b) ≡ true → a ≡ b
eq_from_test a b same = grind (arith, common_steps)

abbrev pub Groups : Type 0
Groups = BTreeSet ℕ

abbrev pub Keys : Type 0
Keys = BTreeSet (Vec ℕ Global)

abbrev pub Deleted : Type 0
Deleted = BTreeMap ℕ Keys

-- the marks of these sets
abbrev pub in_sets : Groups → Groups → Deleted → Owed
in_sets cleaned compacted deleted = λ group. record {
  cleaned = set.contains nat_cmp cleaned group;
  compacted = set.contains nat_cmp compacted group;
  deleted = λ key. unwrap_or (option_map (is_key_of key) (tree.get nat_cmp deleted group)) false;
}

in_set : (s n : Groups) (group : ℕ) (b : Bool) → set.UpdatesBy nat_cmp (nat_cmp group) s n b → (g : ℕ) → set.contains nat_cmp n g ≡ cond (g == group) b (set.contains nat_cmp s g)
in_set s n group b updates g = updates.0 g ∙ ap (λ t. cond t b (set.contains nat_cmp s g)) (is_eq-nat_cmp group g)

in_map : (m n : Deleted) (group : ℕ) (w : Option Keys) → tree.UpdatesBy nat_cmp (nat_cmp group) m n w → (g : ℕ) → tree.get nat_cmp n g ≡ cond (g == group) w (tree.get nat_cmp m g)
in_map m n group w updates g = updates.0 g ∙ ap (λ t. cond t w (tree.get nat_cmp m g)) (is_eq-nat_cmp group g)

-- a clean was noted
pub clean_noted : (cleaned compacted new_cleaned new_compacted : Groups) (deleted new_deleted : Deleted) (group : ℕ) → set.UpdatesBy nat_cmp (nat_cmp group) cleaned new_cleaned true
    → set.UpdatesBy nat_cmp (nat_cmp group) compacted new_compacted false → tree.UpdatesBy nat_cmp (nat_cmp group) deleted new_deleted None
    → in_sets new_cleaned new_compacted new_deleted ≡ with_marks group clean_marks (in_sets cleaned compacted deleted)
clean_noted cleaned compacted new_cleaned new_compacted deleted new_deleted group first second third = λ i g. at g (g == group) (in_set cleaned new_cleaned group true first g) (in_set compacted new_compacted group false second g) (in_map deleted new_deleted group None third g) i
  where
    at : (g : ℕ) (b : Bool) → set.contains nat_cmp new_cleaned g ≡ cond b true (set.contains nat_cmp cleaned g) → set.contains nat_cmp new_compacted g ≡ cond b false (set.contains nat_cmp compacted g)
        → tree.get nat_cmp new_deleted g ≡ cond b None (tree.get nat_cmp deleted g) → in_sets new_cleaned new_compacted new_deleted g ≡ cond b clean_marks (in_sets cleaned compacted deleted g)
    at g true p q r = λ i. record { cleaned = p i; compacted = q i; deleted = λ key. unwrap_or (option_map (is_key_of key) (r i)) false }
    at g false p q r = λ i. record { cleaned = p i; compacted = q i; deleted = λ key. unwrap_or (option_map (is_key_of key) (r i)) false }

-- a compaction was
pub compaction_noted : (cleaned compacted new_compacted : Groups) (deleted : Deleted) (group : ℕ) → set.UpdatesBy nat_cmp (nat_cmp group) compacted new_compacted true
    → in_sets cleaned new_compacted deleted ≡ with_marks group (with_compaction (in_sets cleaned compacted deleted group)) (in_sets cleaned compacted deleted)
compaction_noted cleaned compacted new_compacted deleted group first = λ i g. at g (g == group) refl (in_set compacted new_compacted group true first g) i
  where
    at : (g : ℕ) (b : Bool) → (g == group) ≡ b → set.contains nat_cmp new_compacted g ≡ cond b true (set.contains nat_cmp compacted g)
        → in_sets cleaned new_compacted deleted g ≡ cond b (with_compaction (in_sets cleaned compacted deleted group)) (in_sets cleaned compacted deleted g)
    at g true here q =
        (λ i. record { cleaned = set.contains nat_cmp cleaned g; compacted = q i; deleted = λ key. unwrap_or (option_map (is_key_of key) (tree.get nat_cmp deleted g)) false })
        ∙ ap (λ h. with_compaction (in_sets cleaned compacted deleted h)) (eq_from_test g group here)
    at g false here q = λ i. record { cleaned = set.contains nat_cmp cleaned g; compacted = q i; deleted = λ key. unwrap_or (option_map (is_key_of key) (tree.get nat_cmp deleted g)) false }

-- a key more
or_swap : (a b c : Bool) → (a || (b || c)) ≡ (b || (a || c))
or_swap true true c = refl
or_swap true false c = refl
or_swap false true c = refl
or_swap false false c = refl

abbrev pub has_bytes : List ℕ → List (Vec ℕ Global) → Bool
has_bytes key ks = list_any (λ k. bytes_eq key k.items) ks

same_bytes : (key xs ys : List ℕ) → is_eq (slice_cmp nat_cmp xs ys) ≡ true → bytes_eq key xs ≡ bytes_eq key ys
same_bytes key xs ys same = ap (bytes_eq key) ((bytes_decides xs ys).0 (sym (is_eq-slice_cmp xs ys) ∙ same))

or_same : (a b c : Bool) → a ≡ b → (b || c) ≡ (a || (b || c))
or_same true true c same = refl
or_same true false c same = absurd cc
or_same false true c same = absurd cc
or_same false false c same = refl

pub key_inserted : (key : List ℕ) (k : Vec ℕ Global) (ks : List (Vec ℕ Global)) → has_bytes key (insert_key (λ x y. slice_cmp nat_cmp x.items y.items) ks k) ≡ (bytes_eq key k.items || has_bytes key ks)
key_inserted key k [] = refl
key_inserted key k (x ∷ xs) = at (key_inserted key k xs) (slice_cmp nat_cmp k.items x.items) refl
  where
    at : has_bytes key (insert_key (λ a b. slice_cmp nat_cmp a.items b.items) xs k) ≡ (bytes_eq key k.items || has_bytes key xs) → (o : Ordering) → slice_cmp nat_cmp k.items x.items ≡ o
        → has_bytes key (match_ordering o (k ∷ x ∷ xs) (x ∷ xs) (x ∷ insert_key (λ a b. slice_cmp nat_cmp a.items b.items) xs k)) ≡ (bytes_eq key k.items || (bytes_eq key x.items || has_bytes key xs))
    at rest Less is = refl
    at rest Equal is = or_same (bytes_eq key k.items) (bytes_eq key x.items) (has_bytes key xs) (same_bytes key k.items x.items (ap is_eq is))
    at rest Greater is = ap (λ b. bytes_eq key x.items || b) rest ∙ or_swap (bytes_eq key x.items) (bytes_eq key k.items) (has_bytes key xs)

-- a delete was noted
pub delete_noted : (cleaned compacted : Groups) (deleted new_deleted : Deleted) (group : ℕ) (key : Vec ℕ Global) (old : Option Keys) (keys : Keys) → old ≡ tree.get nat_cmp deleted group
    → ((bs : List ℕ) → has_bytes bs (set.keys keys) ≡ (bytes_eq bs key.items || unwrap_or (option_map (is_key_of bs) old) false)) → tree.UpdatesBy nat_cmp (nat_cmp group) deleted new_deleted (Some keys)
    → in_sets cleaned compacted new_deleted ≡ with_marks group (with_delete key.items (in_sets cleaned compacted deleted group)) (in_sets cleaned compacted deleted)
delete_noted cleaned compacted deleted new_deleted group key old keys before has updates = λ i g. at g (g == group) refl (in_map deleted new_deleted group (Some keys) updates g) i
  where
    at : (g : ℕ) (b : Bool) → (g == group) ≡ b → tree.get nat_cmp new_deleted g ≡ cond b (Some keys) (tree.get nat_cmp deleted g)
        → in_sets cleaned compacted new_deleted g ≡ cond b (with_delete key.items (in_sets cleaned compacted deleted group)) (in_sets cleaned compacted deleted g)
    at g true here q =
        let each : (bs : List ℕ) → unwrap_or (option_map (is_key_of bs) (tree.get nat_cmp new_deleted g)) false ≡ (bytes_eq bs key.items || unwrap_or (option_map (is_key_of bs) (tree.get nat_cmp deleted g)) false) =
        λ bs. ap (λ o. unwrap_or (option_map (is_key_of bs) o) false) q ∙ has bs ∙ ap (λ o. bytes_eq bs key.items || unwrap_or (option_map (is_key_of bs) o) false) (before ∙ ap (tree.get nat_cmp deleted) (sym (eq_from_test g group here))) in
        (λ i. record { cleaned = set.contains nat_cmp cleaned g; compacted = set.contains nat_cmp compacted g; deleted = λ bs. each bs i })
        ∙ ap (λ h. with_delete key.items (in_sets cleaned compacted deleted h)) (eq_from_test g group here)
    at g false here q = λ i. record { cleaned = set.contains nat_cmp cleaned g; compacted = set.contains nat_cmp compacted g; deleted = λ key. unwrap_or (option_map (is_key_of key) (q i)) false }

-- no keys

abbrev pub AreEmpty : List (ℕ × Keys) → Type 0
AreEmpty es = Each (λ e. set.btree_set_len e.1 ≡ 0) es

no_key : (keys : Keys) (key : List ℕ) → set.btree_set_len keys ≡ 0 → is_key_of key keys ≡ false
no_key keys key none = at (set.keys keys) none
  where
    at : (ks : List (Vec ℕ Global)) → length ks ≡ 0 → has_bytes key ks ≡ false
    at [] short = refl
    at (k ∷ ks) short = absurd (omega arith)

pub none_deleted : (es : List (ℕ × Keys)) (group : ℕ) (key : List ℕ) → AreEmpty es → unwrap_or (option_map (is_key_of key) (lookup (λ k. is_eq (nat_cmp group k)) es)) false ≡ false
none_deleted [] group key empty = refl
none_deleted (e ∷ es) group key empty = at (is_eq (nat_cmp group e.0)) (none_deleted es group key empty.1)
  where
    at : (b : Bool) → unwrap_or (option_map (is_key_of key) (lookup (λ k. is_eq (nat_cmp group k)) es)) false ≡ false
        → unwrap_or (option_map (is_key_of key) (cond b (Some e.1) (lookup (λ k. is_eq (nat_cmp group k)) es))) false ≡ false
    at true rest = no_key e.1 key empty.0
    at false rest = rest

-- where a set has keys, one of them is noted
pub some_deleted : (m : Deleted) (group : ℕ) (keys : Keys) → tree.get nat_cmp m group ≡ Some keys → (set.btree_set_len keys ≡ 0 → ⊥)
    → ((g : ℕ) (key : List ℕ) → unwrap_or (option_map (is_key_of key) (tree.get nat_cmp m g)) false ≡ false) → ⊥
some_deleted m group keys is some none = at (set.keys keys) refl
  where
    at : (ks : List (Vec ℕ Global)) → set.keys keys ≡ ks → ⊥
    at [] same = some (ap length same)
    at (k ∷ ks) same =
        let noted = none group k.items in
        let has : is_key_of k.items keys ≡ true = ap (has_bytes k.items) same ∙ ap (λ b. b || has_bytes k.items ks) (nat_list_eq_equiv.refl k.items) in
        let clash : true ≡ false = sym has ∙ sym (ap (λ o. unwrap_or (option_map (is_key_of k.items) o) false) is) ∙ noted in
        absurd cc

-- entries that leave a hole

and_swap : (a b : Bool) → (a && b) ≡ (b && a)
and_swap true true = refl
and_swap true false = refl
and_swap false true = refl
and_swap false false = refl

pub marks_by_hole : {X : Type 0} (new : List (ℕ × EntryPlace)) (es : List (ℕ × X)) (m : Marks) → marks_after (EntriesAt new) es m ≡ cond (leave_hole (span_of es) new) (with_compaction m) m
marks_by_hole [] es m = refl
marks_by_hole (e ∷ new) [] m = ap (λ b. cond b (with_compaction m) m) (and_swap (are_in_order (e ∷ new)) false)
marks_by_hole (e ∷ new) (x ∷ es) m = ap (λ b. cond b (with_compaction m) m) (and_swap (are_in_order (e ∷ new)) (nat_lt (x.0 + length (x ∷ es)) e.0))

pub plain_noted : {X : Type 0} (content : Content) (es : List (ℕ × X)) (m : Marks) → marks_noted (Plain content) m ≡ marks_after (Plain content) es m
plain_noted (Entries entries) es m = refl
plain_noted Clean es m = refl
plain_noted (Compact index) es m = refl
plain_noted (Put key value) es m = refl
plain_noted (Delete key) es m = refl

pub not_entries : {X : Type 0} (c : LogItemContent) (es : List (ℕ × X)) (m : Marks) → ((x : Command) × (c ≡ TheCommand x)) ⊎ ((x : KeyValue) × (c ≡ Kv x)) → marks_noted (placed_content_of c) m ≡ marks_after (placed_content_of c) es m
not_entries c es m (inl (x, is)) = ap (λ d. marks_noted (placed_content_of d) m) is ∙ plain_noted (command_of x) es m ∙ sym (ap (λ d. marks_after (placed_content_of d) es m) is)
not_entries c es m (inr (x, is)) = ap (λ d. marks_noted (placed_content_of d) m) is ∙ plain_noted (key_value_of x) es m ∙ sym (ap (λ d. marks_after (placed_content_of d) es m) is)

-- nothing is owed

none_in : (s : Groups) (group : ℕ) → set.btree_set_len s ≡ 0 → set.contains nat_cmp s group ≡ false
none_in s group none = at (set.keys s) none
  where
    at : (ks : List ℕ) → length ks ≡ 0 → list_any (λ k. is_eq (nat_cmp group k)) ks ≡ false
    at [] short = refl
    at (k ∷ ks) short = absurd (omega arith)

empty_set : (s : Groups) → ((group : ℕ) → set.contains nat_cmp s group ≡ false) → set.btree_set_len s ≡ 0
empty_set s none = at (set.keys s) none
  where
    here : (k : ℕ) → is_eq (nat_cmp k k) ≡ true
    here k = grind (arith, common_steps)

    at : (ks : List ℕ) → ((group : ℕ) → list_any (λ k. is_eq (nat_cmp group k)) ks ≡ false) → length ks ≡ 0
    at [] absent = refl
    at (k ∷ ks) absent = absurd (let clash : true ≡ false = sym (ap (λ b. b || list_any (λ x. is_eq (nat_cmp k x)) ks) (here k)) ∙ absent k in cc)

pub nothing_owed : (cleaned compacted : Groups) (deleted : Deleted) → set.btree_set_len cleaned ≡ 0 → set.btree_set_len compacted ≡ 0 → ((group : ℕ) (key : List ℕ) → (in_sets cleaned compacted deleted group).deleted key ≡ false)
    → (group : ℕ) → in_sets cleaned compacted deleted group ≡ no_marks
nothing_owed cleaned compacted deleted first second third group = λ i. record { cleaned = none_in cleaned group first i; compacted = none_in compacted group second i; deleted = λ key. third group key i }

pub owes_nothing : (cleaned compacted : Groups) (deleted : Deleted) → ((group : ℕ) → in_sets cleaned compacted deleted group ≡ no_marks)
    → (set.btree_set_len cleaned ≡ 0) × (set.btree_set_len compacted ≡ 0) × ((group : ℕ) (key : List ℕ) → (in_sets cleaned compacted deleted group).deleted key ≡ false)
owes_nothing cleaned compacted deleted none = (
  empty_set cleaned (λ group. ap (λ (m : Marks). m.cleaned) (none group)),
  empty_set compacted (λ group. ap (λ (m : Marks). m.compacted) (none group)),
  λ group key. ap (λ (m : Marks). m.deleted key) (none group),
)
