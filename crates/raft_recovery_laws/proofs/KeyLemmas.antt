-- What a group has at a key after batches.
use Rattle.std.proofs.Common.{◌≡◌, ℕ, Bool, true, false, cond, not, eqb, ◌&&◌, ◌||◌, List, [], ◌∷◌, Option, Some, None, fold, refl, sym, ◌∙◌, ap}
use Rattle.std.specs.List.{list_all}
use Rattle.std.specs.Str.{bytes_eq}
use Rattle.std.proofs.lemmas.List.Sums.{fold-append}
use Rattle.raft_records.specs.Item.{Content, Entries, Clean, Compact, Put, Delete, Item, Batch, group_mark_key}
use Rattle.raft_records.specs.Contents.{Contents, no_contents, after_content, after_item, after_batch, after_batches}
use Rattle.raft_recovery_laws.specs.Recovered.{items_of, content_leaves_key, item_leaves_key, leaves_key, replay}

-- what a key has after a change of its group
abbrev pub value_after_content : List ℕ → Option (List ℕ) → Content → Option (List ℕ)
value_after_content key v (Entries es) = v
value_after_content key v Clean = None
value_after_content key v (Compact index) = v
value_after_content key v (Put changed value) = cond (bytes_eq changed group_mark_key) v (cond (bytes_eq key changed) (Some value) v)
value_after_content key v (Delete changed) = cond (bytes_eq key changed) None v

-- what a group's key has after an item
abbrev pub value_after_item : ℕ → List ℕ → Option (List ℕ) → Item → Option (List ℕ)
value_after_item group key v item = cond (eqb group item.group) (value_after_content key v item.content) v

update_at : {X : Type 0} (b c : Bool) (new old : X) → cond (b && c) new old ≡ cond b (cond c new old) old
update_at true c new old = refl
update_at false c new old = refl

put_at : (mark same at_key : Bool) (value : List ℕ) (old : Option (List ℕ)) → cond mark old (cond (same && at_key) (Some value) old) ≡ cond same (cond mark old (cond at_key (Some value) old)) old
put_at true true c value old = refl
put_at true false c value old = refl
put_at false true c value old = refl
put_at false false c value old = refl

value_of_cond : (b : Bool) (m n : Contents) (g : ℕ) (k : List ℕ) → (cond b m n).value g k ≡ cond b (m.value g k) (n.value g k)
value_of_cond true m n g k = refl
value_of_cond false m n g k = refl

same_either_way : {X : Type 0} (b : Bool) (x : X) → x ≡ cond b x x
same_either_way true x = refl
same_either_way false x = refl

value-after_content : (group : ℕ) (content : Content) (m : Contents) (g : ℕ) (k : List ℕ) → (after_content group content m).value g k ≡ cond (eqb g group) (value_after_content k (m.value g k) content) (m.value g k)
value-after_content group (Entries es) m g k = same_either_way (eqb g group) (m.value g k)
value-after_content group Clean m g k = refl
value-after_content group (Compact index) m g k = same_either_way (eqb g group) (m.value g k)
value-after_content group (Put key value) m g k = value_of_cond (bytes_eq key group_mark_key) _ _ g k ∙ put_at (bytes_eq key group_mark_key) (eqb g group) (bytes_eq k key) value (m.value g k)
value-after_content group (Delete key) m g k = update_at (eqb g group) (bytes_eq k key) None (m.value g k)

pub value-after_item : (m : Contents) (item : Item) (g : ℕ) (k : List ℕ) → (after_item m item).value g k ≡ value_after_item g k (m.value g k) item
value-after_item m item g k = value-after_content item.group item.content m g k

-- what a group's key has after items
abbrev pub value_after : ℕ → List ℕ → Option (List ℕ) → List Item → Option (List ℕ)
value_after group key v items = fold (value_after_item group key) v items

pub value-after_items : (m : Contents) (items : List Item) (g : ℕ) (k : List ℕ) → (fold after_item m items).value g k ≡ value_after g k (m.value g k) items
value-after_items m [] g k = refl
value-after_items m (item ∷ items) g k = value-after_items (after_item m item) items g k ∙ ap (λ v. value_after g k v items) (value-after_item m item g k)

pub after_batches-items_of : (m : Contents) (batches : List Batch) → after_batches m batches ≡ fold after_item m (items_of batches)
after_batches-items_of m [] = refl
after_batches-items_of m (b ∷ bs) = after_batches-items_of (after_batch m b) bs ∙ sym (fold-append after_item m b (items_of bs))

pub value-after_batches : (m : Contents) (batches : List Batch) (g : ℕ) (k : List ℕ) → (after_batches m batches).value g k ≡ value_after g k (m.value g k) (items_of batches)
value-after_batches m batches g k = ap (λ (n : Contents). n.value g k) (after_batches-items_of m batches) ∙ value-after_items m (items_of batches) g k

-- a change that leaves a key alone gives it nothing new, and any other gives it the same whatever
-- it had
put_leaves : (at_key mark : Bool) (value : List ℕ) (v w : Option (List ℕ)) → cond mark v (cond at_key (Some value) v) ≡ cond (not at_key || mark) v (cond mark w (cond at_key (Some value) w))
put_leaves true true value v w = refl
put_leaves true false value v w = refl
put_leaves false true value v w = refl
put_leaves false false value v w = refl

delete_leaves : (at_key : Bool) (v w : Option (List ℕ)) → cond at_key None v ≡ cond (not at_key) v (cond at_key None w)
delete_leaves true v w = refl
delete_leaves false v w = refl

content_leaves : (k : List ℕ) (content : Content) (v w : Option (List ℕ)) → value_after_content k v content ≡ cond (content_leaves_key k content) v (value_after_content k w content)
content_leaves k (Entries es) v w = refl
content_leaves k Clean v w = refl
content_leaves k (Compact index) v w = refl
content_leaves k (Put key value) v w = put_leaves (bytes_eq k key) (bytes_eq key group_mark_key) value v w
content_leaves k (Delete key) v w = delete_leaves (bytes_eq k key) v w

leaves_either : (same kept : Bool) (v w new_v new_w : Option (List ℕ)) → new_v ≡ cond kept v new_w → cond same new_v v ≡ cond (cond same kept true) v (cond same new_w w)
leaves_either true kept v w new_v new_w is = is
leaves_either false kept v w new_v new_w is = refl

item_leaves : (g : ℕ) (k : List ℕ) (item : Item) (v w : Option (List ℕ)) → value_after_item g k v item ≡ cond (item_leaves_key g k item) v (value_after_item g k w item)
item_leaves g k item v w = leaves_either (eqb g item.group) (content_leaves_key k item.content) v w _ _ (content_leaves k item.content v w)

items_leave_step : (kept others : Bool) (g : ℕ) (k : List ℕ) (items : List Item) (v next_v next_w : Option (List ℕ)) → next_v ≡ cond kept v next_w → value_after g k next_v items ≡ cond others next_v (value_after g k next_w items)
    → value_after g k next_v items ≡ cond (kept && others) v (value_after g k next_w items)
items_leave_step true true g k items v next_v next_w is rest = rest ∙ is
items_leave_step true false g k items v next_v next_w is rest = rest
items_leave_step false others g k items v next_v next_w is rest = ap (λ x. value_after g k x items) is

pub items_leave : (g : ℕ) (k : List ℕ) (items : List Item) (v w : Option (List ℕ)) → value_after g k v items ≡ cond (list_all (item_leaves_key g k) items) v (value_after g k w items)
items_leave g k [] v w = refl
items_leave g k (item ∷ items) v w =
    items_leave_step (item_leaves_key g k item) (list_all (item_leaves_key g k) items) g k items v _ _ (item_leaves g k item v w) (items_leave g k items (value_after_item g k v item) (value_after_item g k w item))

-- the Append queue's items go on where the Rewrite queue's ended
pub value-replay : (x : Contents) (appended : List Batch) (g : ℕ) (k : List ℕ) → (replay x appended).value g k ≡ value_after g k (x.value g k) (items_of appended)
value-replay x appended g k =
    ap (cond (leaves_key appended g k) (x.value g k)) (value-after_batches no_contents appended g k) ∙ sym (items_leave g k (items_of appended) (x.value g k) None)
