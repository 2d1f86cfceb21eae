-- What was gathered is of groups that the tables know.
use Rattle.std.proofs.Common.{◌≡◌, ℕ, ◌==◌, ◌⊎◌, inl, inr, ⊎_elim, Bool, true, false, cond, List, [], ◌∷◌, ◌++◌, append-nil, append_assoc, fold, map, Option, Some, None, refl, sym, ◌∙◌, ap, is_some}
use Rattle.std.specs.List.{AllByRecursion as Each, flat_map}
use Rattle.std.proofs.lemmas.List.Sums.{fold-append}
use Rattle.raft_records.specs.declared.entry_index.EntryPlace.{EntryPlace}
use Rattle.raft_records.specs.Item.{Batch, Entries, Clean, Compact, Put, Delete, Item}
use Rattle.raft_records.specs.PlacedItem.{EntriesAt, Plain, PlacedContent, PlacedItem, item_in}
use Rattle.raft_records.specs.Places.{Blocks}
use Rattle.raft_records.specs.Record.Mark.{Middle, End}
use Rattle.raft_recovery_laws.specs.Groups.{mark_of, whole}
use Rattle.raft_recovery_laws.specs.Ids.{EndsInGroup}
use Rattle.raft_recovery_laws.proofs.GroupLemmas.{whole-complete_group, whole-open_group, whole-unmarked}
use Rattle.raft_tables.specs.Known.{known_after, known_after_content, known_after_item, known_in}
use Rattle.raft_tables.specs.Owed.{Owed}
use Rattle.raft_tables.specs.Table.{StoredValue, TableView}
use Rattle.raft_tables.specs.Tables.{Tables, or_empty}
use Rattle.raft_index_laws.proofs.KeyLemmas.{eq_from_test}
use Rattle.raft_index_laws.specs.AtomicGroup.{bodies_in, ended_group, last_body, marked, next_mark, open_group, set_by_parts}
use Rattle.raft_index_laws.specs.Gathering.{IsFetchedContent, IsGathered}
use Rattle.raft_index_laws.proofs.GroupIdLemmas.{ended_complete, ended_of_group, more_is, open_incomplete, open_of_group}
use Rattle.raft_index_laws.proofs.MatchLemmas.{fetched_item, no_cons}

-- Groups of which something was fetched.

no_parts : (e : ℕ × EntryPlace) (pre rest : List (ℕ × EntryPlace)) → [] ≡ pre ++ (e ∷ rest) → ⊥
no_parts e [] rest is = no_cons e rest is
no_parts e (p ∷ pre) rest is = no_cons p (pre ++ (e ∷ rest)) is

with_entry : (t : Option TableView) (e : ℕ × EntryPlace) (pre rest : List (ℕ × EntryPlace)) → (or_empty t).entries ≡ pre ++ (e ∷ rest) → is_some t ≡ true
with_entry None e pre rest is = absurd (no_parts e pre rest is)
with_entry (Some v) e pre rest is = refl

with_key_there : (t : Option TableView) (key : List ℕ) (s : StoredValue) → (or_empty t).keys key ≡ Some s → is_some t ≡ true
with_key_there None key s is = absurd (let clash = is in cc)
with_key_there (Some v) key s is = refl

pub fetched_known : (w : Option ℕ) (t : Tables) (g : ℕ) (c : PlacedContent) → IsFetchedContent w t g c → is_some (t g) ≡ true
fetched_known w t g (EntriesAt []) from = absurd from
fetched_known w t g (EntriesAt (e ∷ es)) from = with_entry (t g) e from.pre (es ++ from.post) from.parts
fetched_known w t g (Plain (Entries xs)) from = absurd from
fetched_known w t g (Plain Clean) from = absurd from
fetched_known w t g (Plain (Compact index)) from = absurd from
fetched_known w t g (Plain (Put key value)) from = with_key_there (t g) key (value, from.0) from.1
fetched_known w t g (Plain (Delete key)) from = absurd from

-- an item that makes no other group known
abbrev KnowsNoOther : Tables → Item → Type 0
KnowsNoOther t i = ((k : Bool) → known_after_content k i.content ≡ k) ⊎ (is_some (t i.group) ≡ true)

known_items : (t : Tables) (g : ℕ) (k : Bool) (items : List Item) → Each (KnowsNoOther t) items → known_after g k items ≡ true → (k ≡ true) ⊎ (is_some (t g) ≡ true)
known_items t g k [] each is = inl is
known_items t g k (i ∷ items) each is = ⊎_elim (at (g == i.group) refl) inr (known_items t g (known_after_item g k i) items each.1 is)
  where
    at : (b : Bool) → (g == i.group) ≡ b → cond b (known_after_content k i.content) k ≡ true → (k ≡ true) ⊎ (is_some (t g) ≡ true)
    at true here now = ⊎_elim (λ same. inl (sym (same k) ∙ now)) (λ there. inr (ap (λ (h : ℕ). is_some (t h)) (eq_from_test g i.group here) ∙ there)) each.0
    at false other now = inl now

known_batches : (t : Tables) (g : ℕ) (k : Bool) (batches : List Batch) → Each (Each (KnowsNoOther t)) batches → fold (known_after g) k batches ≡ true → (k ≡ true) ⊎ (is_some (t g) ≡ true)
known_batches t g k [] each is = inl is
known_batches t g k (b ∷ batches) each is = ⊎_elim (known_items t g k b each.0) inr (known_batches t g (known_after g k b) batches each.1 is)

-- Gathered items.

gathered_items : (blocks : Blocks) (w : Option ℕ) (owed : Owed) (t : Tables) (items : List PlacedItem) → Each (fetched_item w owed t) items → Each (KnowsNoOther t) (map (item_in blocks) items)
gathered_items blocks w owed t [] each = tt
gathered_items blocks w owed t (i ∷ items) each = (inr (fetched_known w t i.group i.content each.0.1), gathered_items blocks w owed t items each.1)

pub gathered_known : (blocks : Blocks) (w : Option ℕ) (owed : Owed) (t : Tables) (items : List PlacedItem) (batches : List Batch) (g : ℕ) → IsGathered w owed t items → mark_of (map (item_in blocks) items) ≡ None
    → known_in (whole (batches ++ map (item_in blocks) items ∷ [])) g ≡ true → (known_in (whole batches) g ≡ true) ⊎ (is_some (t g) ≡ true)
gathered_known blocks w owed t items batches g gathered none is =
    known_items t g (known_in (whole batches) g) (map (item_in blocks) items) (gathered_items blocks w owed t items gathered.each)
    (sym (ap (λ (bs : List Batch). known_in bs g) (whole-unmarked batches (map (item_in blocks) items) none) ∙ fold-append (known_after g) false (whole batches) (map (item_in blocks) items ∷ [])) ∙ is)

-- An atomic group.

whole_open : (id : ℕ) (bodies batches : List Batch) → (e : EndsInGroup id (open_group id bodies) batches) → whole batches ≡ whole e.old
whole_open id bodies batches e =
    ap whole (e.is ∙ sym (append-nil (e.old ++ open_group id bodies)))
    ∙ whole-open_group id e.old (open_group id bodies) [] e.apart refl (open_of_group id bodies) (open_incomplete id bodies)
    ∙ ap whole (append-nil e.old)

pub open_known : (id : ℕ) (bodies batches : List Batch) (body : Batch) (g : ℕ) → EndsInGroup id (open_group id bodies) batches → known_in (whole (batches ++ marked id (next_mark bodies) body ∷ [])) g ≡ known_in (whole batches) g
open_known id bodies batches body g e =
    let more : EndsInGroup id (open_group id (bodies ++ body ∷ [])) (batches ++ marked id (next_mark bodies) body ∷ []) = record { old = e.old; is = more_is id bodies batches body e; apart = e.apart } in
    ap (λ (bs : List Batch). known_in bs g) (whole_open id (bodies ++ body ∷ []) (batches ++ marked id (next_mark bodies) body ∷ []) more ∙ sym (whole_open id bodies batches e))

middles_known : (blocks : Blocks) (t : Tables) (id group : ℕ) (parts : List (List (ℕ × EntryPlace))) → is_some (t group) ≡ true → Each (Each (KnowsNoOther t)) (map (marked id Middle) (bodies_in blocks group parts))
middles_known blocks t id group [] there = tt
middles_known blocks t id group (p ∷ parts) there = ((inl (λ k. refl), (inr there, tt)), middles_known blocks t id group parts there)

open_batches : (blocks : Blocks) (t : Tables) (id group : ℕ) (parts : List (List (ℕ × EntryPlace))) → is_some (t group) ≡ true → Each (Each (KnowsNoOther t)) (open_group id (bodies_in blocks group parts))
open_batches blocks t id group [] there = tt
open_batches blocks t id group (p ∷ parts) there = ((inl (λ k. refl), (inr there, tt)), middles_known blocks t id group parts there)

both_each : {X : Type 0} (P : X → Type 0) (xs ys : List X) → Each P xs → Each P ys → Each P (xs ++ ys)
both_each P [] ys first second = second
both_each P (x ∷ xs) ys first second = (first.0, both_each P xs ys first.1 second)

some_parts : (blocks : Blocks) (group : ℕ) (parts : List (List (ℕ × EntryPlace))) → (parts ≡ [] → ⊥) → bodies_in blocks group parts ≡ [] → ⊥
some_parts blocks group [] some none = some refl
some_parts blocks group (p ∷ parts) some none = cc

pub ended_known : (blocks : Blocks) (owed : Owed) (t : Tables) (id group : ℕ) (parts : List (List (ℕ × EntryPlace))) (part : List (ℕ × EntryPlace)) (values : List PlacedItem) (batches : List Batch) (g : ℕ)
    → EndsInGroup id (open_group id (bodies_in blocks group parts)) batches → (parts ≡ [] → ⊥) → IsGathered None owed t (set_by_parts group parts part values)
    → known_in (whole (batches ++ marked id End (last_body blocks group part values) ∷ [])) g ≡ true → (known_in (whole batches) g ≡ true) ⊎ (is_some (t g) ≡ true)
ended_known blocks owed t id group parts part values batches g e some gathered is =
    let bodies = bodies_in blocks group parts in
    let last = last_body blocks group part values in
    let there = fetched_known None t group (EntriesAt (flat_map (λ p. p) parts ++ part)) gathered.each.0.1 in
    let each = both_each (Each (KnowsNoOther t)) (open_group id bodies) (marked id End last ∷ []) (open_batches blocks t id group parts there) ((inl (λ k. refl), (inr there, gathered_items blocks None owed t values gathered.each.1)), tt) in
    let whole_is : whole (batches ++ marked id End last ∷ []) ≡ whole e.old ++ ended_group id bodies last =
    ap whole (ap (λ bs. bs ++ marked id End last ∷ []) e.is ∙ append_assoc e.old (open_group id bodies) (marked id End last ∷ [])) ∙ whole-complete_group id e.old (ended_group id bodies last) e.apart (ended_of_group id bodies last) (ended_complete id bodies last (some_parts blocks group parts some)) in
    let now = sym (ap (λ (bs : List Batch). known_in bs g) whole_is ∙ fold-append (known_after g) false (whole e.old) (ended_group id bodies last)) ∙ is in
    ⊎_elim (λ old. inl (ap (λ (bs : List Batch). known_in bs g) (whole_open id bodies batches e) ∙ old)) inr (known_batches t g (known_in (whole e.old) g) (ended_group id bodies last) each now)
