-- Items at the end of the Rewrite queue that change nothing of what is recovered.
use Rattle.std.proofs.Common.{◌≡◌, ℕ, Bool, true, false, cond, eqb, ◌&&◌, List, [], ◌∷◌, Option, Some, None, refl, sym, ◌∙◌, ap, subst}
use Rattle.std.proofs.Math.Path.{fun_ext}
use Rattle.std.specs.List.{list_all}
use Rattle.std.specs.Str.{bytes_eq}
use Rattle.std.specs.Cmp.Lexicographic.{bytes_decides}
use Rattle.std.proofs.lemmas.Bool.{eqb-true}
use Rattle.raft_records.specs.Item.{Entry, Put, Delete, Item, Batch, group_mark_key}
use Rattle.raft_records.specs.Contents.{Contents, no_contents, with_entries, with_entries_in, with_value, after_item, after_batch, after_batches}
use Rattle.raft_recovery_laws.specs.Recovered.{items_of, item_leaves_key, leaves, leaves_key, replay}
use Rattle.raft_recovery_laws.specs.Rewriting.{ChangesNothing, EachChangesNothing}
use Rattle.raft_recovery_laws.proofs.KeyLemmas.{value_after, items_leave, value-replay}
use Rattle.raft_recovery_laws.proofs.KeptLemmas.{passing}

pub contents_ext : (m n : Contents) → ((g : ℕ) → m.entries g ≡ n.entries g) → ((g : ℕ) (k : List ℕ) → m.value g k ≡ n.value g k) → m ≡ n
contents_ext m n same_entries same_values =
    ap (λ f. let c : Contents = record { entries = f; value = m.value } in c) (fun_ext same_entries) ∙ ap (λ f. let c : Contents = record { entries = n.entries; value = f } in c) (fun_ext (λ g. fun_ext (same_values g)))

-- values that differ only where the items set a key are the same after them
same_by : (b : Bool) (g : ℕ) (k : List ℕ) (items : List Item) (v w : Option (List ℕ)) → list_all (item_leaves_key g k) items ≡ b → (b ≡ true → v ≡ w) → value_after g k v items ≡ value_after g k w items
same_by true g k items v w is same = ap (λ o. value_after g k o items) (same refl)
same_by false g k items v w is same =
    items_leave g k items v v ∙ ap (λ b. cond b v (value_after g k v items)) is ∙ value_either g k items v w is
  where
    value_either : (g : ℕ) (k : List ℕ) (items : List Item) (v w : Option (List ℕ)) → list_all (item_leaves_key g k) items ≡ false → value_after g k v items ≡ value_after g k w items
    value_either g k items v w is = items_leave g k items v w ∙ ap (λ b. cond b v (value_after g k w items)) is

pub value_after-same : (g : ℕ) (k : List ℕ) (items : List Item) (v w : Option (List ℕ)) → (list_all (item_leaves_key g k) items ≡ true → v ≡ w) → value_after g k v items ≡ value_after g k w items
value_after-same g k items v w same = same_by (list_all (item_leaves_key g k) items) g k items v w refl same

-- contents that differ only where the batches set a key have the same values after them
pub value-replay_same : (x y : Contents) (appended : List Batch) (g : ℕ) (k : List ℕ) → (leaves_key appended g k ≡ true → x.value g k ≡ y.value g k) → (replay x appended).value g k ≡ (replay y appended).value g k
value-replay_same x y appended g k same = value-replay x appended g k ∙ value_after-same g k (items_of appended) _ _ same ∙ sym (value-replay y appended g k)

-- what the batches leave alone is recovered
pub value-left : (x : Contents) (appended : List Batch) (g : ℕ) (k : List ℕ) → leaves_key appended g k ≡ true → (replay x appended).value g k ≡ x.value g k
value-left x appended g k left = ap (λ b. cond b (x.value g k) ((after_batches no_contents appended).value g k)) left

-- a key that gets the value it has, where the batches leave it alone
set_at : (b c : Bool) (new old : Option (List ℕ)) → (b ≡ true → c ≡ true → new ≡ old) → cond (b && c) new old ≡ old
set_at true true new old same = same refl refl
set_at true false new old same = refl
set_at false c new old same = refl

value_set : (x : Contents) (appended : List Batch) (group : ℕ) (key : List ℕ) (value : Option (List ℕ)) → (leaves_key appended group key ≡ true → (replay x appended).value group key ≡ value) → replay (with_value group key value x) appended ≡ replay x appended
value_set x appended group key value same =
    contents_ext _ _ (λ g. refl)
    (λ g k. value-replay_same (with_value group key value x) x appended g k
    (λ left. set_at (eqb g group) (bytes_eq k key) value (x.value g k)
    (λ same_group same_key.
    let at_g : g ≡ group = eqb-true g group same_group in
    let at_k : k ≡ key = (bytes_decides k key).0 same_key in
    let here : leaves_key appended group key ≡ true = subst (λ h. leaves_key appended h key ≡ true) at_g (subst (λ l. leaves_key appended g l ≡ true) at_k left) in
    sym (same here) ∙ value-left x appended group key here ∙ sym (ap (λ h. x.value h k) at_g ∙ ap (λ l. x.value group l) at_k))))

pub deleted_changes_nothing : (x : Contents) (appended : List Batch) (group : ℕ) (key : List ℕ) → (leaves_key appended group key ≡ true → (replay x appended).value group key ≡ None) → ChangesNothing x appended (record { group = group; content = Delete key })
deleted_changes_nothing x appended group key none = value_set x appended group key None none

mark_or_value : (b : Bool) (m n : Contents) (appended : List Batch) → replay n appended ≡ replay m appended → replay (cond b m n) appended ≡ replay m appended
mark_or_value true m n appended same = refl
mark_or_value false m n appended same = same

pub put_changes_nothing : (x : Contents) (appended : List Batch) (group : ℕ) (key value : List ℕ) → (leaves_key appended group key ≡ true → (replay x appended).value group key ≡ Some value) → ChangesNothing x appended (record { group = group; content = Put key value })
put_changes_nothing x appended group key value same = mark_or_value (bytes_eq key group_mark_key) x _ appended (value_set x appended group key (Some value) same)

pub each_changes_nothing : (x : Contents) (appended : List Batch) (items : List Item) → EachChangesNothing x appended items → replay (after_batch x items) appended ≡ replay x appended
each_changes_nothing x appended [] each = refl
each_changes_nothing x appended (item ∷ items) each = each_changes_nothing (after_item x item) appended items each.1 ∙ each.0

-- entries of one group that give the same where the batches' own are set on them
entries_at : (b : Bool) (appended : List Batch) (g : ℕ) (new old : List Entry) → (b ≡ true → with_entries (passing (leaves appended g) new) ((after_batches no_contents appended).entries g) ≡ with_entries (passing (leaves appended g) old) ((after_batches no_contents appended).entries g))
    → with_entries (passing (leaves appended g) (cond b new old)) ((after_batches no_contents appended).entries g) ≡ with_entries (passing (leaves appended g) old) ((after_batches no_contents appended).entries g)
entries_at true appended g new old same = same refl
entries_at false appended g new old same = refl

pub entries_set : (x : Contents) (appended : List Batch) (group : ℕ) (new : List Entry)
    → with_entries (passing (leaves appended group) new) ((after_batches no_contents appended).entries group) ≡ (replay x appended).entries group
    → (g : ℕ) → (replay (with_entries_in group new x) appended).entries g ≡ (replay x appended).entries g
entries_set x appended group new same g =
    entries_at (eqb g group) appended g new (x.entries g)
    (λ at. let P : ℕ → Type 0 = λ h. with_entries (passing (leaves appended h) new) ((after_batches no_contents appended).entries h) ≡ (replay x appended).entries h in
    subst P (sym (eqb-true g group at)) same)
