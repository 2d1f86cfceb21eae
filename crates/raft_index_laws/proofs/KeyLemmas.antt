-- What is true of one key, step by step.
use Rattle.std.proofs.Common.{◌≡◌, ℕ, ◌≤◌, ◌==◌, ◌&&◌, ◌||◌, not, Bool, true, false, cond, List, [], ◌∷◌, Option, Some, None, map, refl, sym, ◌∙◌, ap, subst, arith, rules}
use Rattle.std.specs.Prelude.{nat_le}
use Rattle.std.specs.List.{list_all}
use Rattle.std.specs.Option.{option_map}
use Rattle.std.specs.Str.{bytes_eq}
use Rattle.std.proofs.lemmas.Bool.{false≢true}
use Rattle.std.proofs.lemmas.Grind.{common_steps}
use Rattle.raft_base.specs.declared.pipe_log.FileId.{FileId}
use Rattle.raft_base.specs.declared.pipe_log.LogQueue.TheVariants.{Append, Rewrite}
use Rattle.raft_records.specs.declared.entry_index.EntryPlace.{EntryPlace}
use Rattle.raft_records.specs.Item.{Entries, Clean, Compact, Put, Delete, group_mark_key}
use Rattle.raft_records.specs.PlacedItem.{PlacedContent, EntriesAt, Plain, PlacedItem, content_in, item_in}
use Rattle.raft_records.specs.Places.{Blocks}
use Rattle.raft_records.specs.Validity.{are_in_order}
use Rattle.raft_recovery_laws.specs.Recovered.{content_leaves_key, item_leaves_key}
use Rattle.raft_tables.specs.Table.{StoredValue, TableView}
use Rattle.raft_tables.specs.Tables.{Tables, or_empty, table_after, tables_after, tables_after_item}
use Rattle.raft_tables.specs.MovedEntries.{may_move}
use Rattle.raft_tables.specs.Moving.{table_moved, value_moved}
use Rattle.raft_tables.specs.Owed.{Marks, Owed, leaves_hole, marks_after, owed_after, owed_after_item}
use Rattle.raft_index_laws.specs.Standing.{IsPlacedFrom, KeyStands, PlacedKeyStands}

-- a file of the Append queue
abbrev pub in_append : ℕ → FileId
in_append seq = record { queue = Append; seq = seq }

abbrev pub in_rewrite : ℕ → FileId
in_rewrite seq = record { queue = Rewrite; seq = seq }

-- what a change of its group leaves at a key
abbrev pub stored_after : FileId → List ℕ → PlacedContent → Option StoredValue → Option StoredValue
stored_after id k (EntriesAt entries) s = s
stored_after id k (Plain (Entries entries)) s = s
stored_after id k (Plain Clean) s = None
stored_after id k (Plain (Compact index)) s = s
stored_after id k (Plain (Put key value)) s = cond (bytes_eq key group_mark_key) s (cond (bytes_eq k key) (Some (value, id)) s)
stored_after id k (Plain (Delete key)) s = cond (bytes_eq k key) None s

keys_of_either : (b : Bool) (u v : Option TableView) (k : List ℕ) → (or_empty (cond b u v)).keys k ≡ cond b ((or_empty u).keys k) ((or_empty v).keys k)
keys_of_either true u v k = refl
keys_of_either false u v k = refl

none_either : (b : Bool) → let none : Option StoredValue = None in none ≡ cond b none none
none_either true = refl
none_either false = refl

same_either : {X : Type 0} (b : Bool) (x : X) → cond b x x ≡ x
same_either true x = refl
same_either false x = refl

pub stored-after : (id : FileId) (c : PlacedContent) (t : Option TableView) (k : List ℕ) → (or_empty (table_after id c t)).keys k ≡ stored_after id k c ((or_empty t).keys k)
stored-after id (EntriesAt []) t k = refl
stored-after id (EntriesAt (e ∷ es)) t k = keys_of_either (are_in_order (e ∷ es)) _ t k ∙ same_either (are_in_order (e ∷ es)) ((or_empty t).keys k)
stored-after id (Plain (Entries entries)) t k = refl
stored-after id (Plain Clean) t k = refl
stored-after id (Plain (Compact index)) None k = refl
stored-after id (Plain (Compact index)) (Some v) k = refl
stored-after id (Plain (Put key value)) t k = keys_of_either (bytes_eq key group_mark_key) t _ k
stored-after id (Plain (Delete key)) None k = none_either (bytes_eq k key)
stored-after id (Plain (Delete key)) (Some v) k = refl

-- the same of ends that leave less alone
pub less_left : (left left' : ℕ → Bool) (marks : Marks) (held : Option (List ℕ)) (k : List ℕ) (s : Option StoredValue) → ((n : ℕ) → left n ≡ false → left' n ≡ false) → KeyStands left marks held k s → KeyStands left' marks held k s
less_left left left' marks held k None less stands = stands
less_left left left' marks held k (Some (value, id)) less stands = placed id.queue stands
  where
    placed : (queue : _) → PlacedKeyStands left marks held value id.seq queue → PlacedKeyStands left' marks held value id.seq queue
    placed Append is = less id.seq is
    placed Rewrite is = is

-- the same of marks of which as many are owed for the key
pub more_owed : (left : ℕ → Bool) (marks marks' : Marks) (held : Option (List ℕ)) (k : List ℕ) (s : Option StoredValue) → marks'.cleaned ≡ marks.cleaned → (marks'.deleted k ≡ false → marks.deleted k ≡ false) → KeyStands left marks held k s → KeyStands left marks' held k s
more_owed left marks marks' held k None cleaned deleted stands = λ c d. stands (sym cleaned ∙ c) (deleted d)
more_owed left marks marks' held k (Some (value, id)) cleaned deleted stands = placed id.queue stands
  where
    placed : (queue : _) → PlacedKeyStands left marks held value id.seq queue → PlacedKeyStands left marks' held value id.seq queue
    placed Append is = is
    placed Rewrite is = (is.0, cleaned ∙ is.1)

pub hole_cleaned : (b : Bool) (m : Marks) → (cond b (record m { compacted = true }) m).cleaned ≡ m.cleaned
hole_cleaned true m = refl
hole_cleaned false m = refl

hole_deleted : (b : Bool) (m : Marks) (k : List ℕ) → (cond b (record m { compacted = true }) m).deleted k ≡ m.deleted k
hole_deleted true m k = refl
hole_deleted false m k = refl

pub cleaned_by : (blocks : Blocks) (es : List (ℕ × EntryPlace)) (c : PlacedContent) (left left' : ℕ → Bool) (seq : ℕ) (marks : Marks) (held : Option (List ℕ)) (k : List ℕ) (s : Option StoredValue)
    → ((n : ℕ) → left n ≡ false → left' n ≡ false) → (content_leaves_key k (content_in blocks c) ≡ false → left' seq ≡ false)
    → KeyStands left marks held k s → KeyStands left' (marks_after c es marks) held k (stored_after (in_append seq) k c s)
cleaned_by blocks es (EntriesAt []) left left' seq marks held k s less set stands = less_left left left' marks held k s less stands
cleaned_by blocks es (EntriesAt (e ∷ new)) left left' seq marks held k s less set stands =
    let hole = are_in_order (e ∷ new) && leaves_hole es e.0 in
    more_owed left' marks (cond hole (record marks { compacted = true }) marks) held k s (hole_cleaned hole marks) (λ is. sym (hole_deleted hole marks k) ∙ is) (less_left left left' marks held k s less stands)
cleaned_by blocks es (Plain (Entries entries)) left left' seq marks held k s less set stands = less_left left left' marks held k s less stands
cleaned_by blocks es (Plain Clean) left left' seq marks held k s less set stands = λ cleaned deleted. absurd (false≢true (sym cleaned))
cleaned_by blocks es (Plain (Compact index)) left left' seq marks held k s less set stands =
    more_owed left' marks (record marks { compacted = true }) held k s refl (λ is. is) (less_left left left' marks held k s less stands)
cleaned_by blocks es (Plain (Put key value)) left left' seq marks held k s less set stands = put (bytes_eq key group_mark_key) (bytes_eq k key) refl refl
  where
    put : (mark at : Bool) → bytes_eq key group_mark_key ≡ mark → bytes_eq k key ≡ at → KeyStands left' marks held k (cond mark s (cond at (Some (value, in_append seq)) s))
    put true at is_mark is_at = less_left left left' marks held k s less stands
    put false true is_mark is_at = set (ap (λ b. not b || bytes_eq key group_mark_key) is_at ∙ is_mark)
    put false false is_mark is_at = less_left left left' marks held k s less stands
cleaned_by blocks es (Plain (Delete key)) left left' seq marks held k s less set stands = delete (bytes_eq k key) refl
  where
    owed : Marks
    owed = record marks { deleted = λ j. bytes_eq j key || marks.deleted j }

    delete : (at : Bool) → bytes_eq k key ≡ at → KeyStands left' owed held k (cond at None s)
    delete true is_at = λ cleaned deleted. absurd (false≢true (sym deleted ∙ ap (λ b. b || marks.deleted k) is_at))
    delete false is_at = more_owed left' marks owed held k s refl (λ is. sym (ap (λ b. b || marks.deleted k) is_at) ∙ is) (less_left left left' marks held k s less stands)

-- a batch of the queue's last file

-- the ends that leave the key alone, once a batch with this in it stands in a file
abbrev pub left_after : (ℕ → Bool) → ℕ → Bool → ℕ → Bool
left_after left seq leaves n = left n && cond (nat_le n seq) leaves true

pub stays_less : (a b c : Bool) → a ≡ false → (a && cond b c true) ≡ false
stays_less true b c is = absurd (false≢true (sym is))
stays_less false b c is = refl

pub set_now : (a b c : Bool) → b ≡ true → c ≡ false → (a && cond b c true) ≡ false
set_now true b c here none = ap (λ d. cond d c true) here ∙ none
set_now false b c here none = refl

pub both_less : (a b i l : Bool) → ((a && cond b i true) && cond b l true) ≡ false → (a && cond b (i && l) true) ≡ false
both_less false b i l is = refl
both_less true false i l is = is
both_less true true true l is = is
both_less true true false l is = refl

pub le_self : (n : ℕ) → nat_le n n ≡ true
le_self n = search rules

pub eq_self : (n : ℕ) → (n == n) ≡ true
eq_self n = grind (arith, common_steps)

pub eq_from_test : (a b : ℕ) → (a == b) ≡ true → a ≡ b
eq_from_test a b same = grind (arith, common_steps)

pub after_item : (blocks : Blocks) (seq : ℕ) (g : ℕ) (k : List ℕ) (left : ℕ → Bool) (owed : Owed) (held : Option (List ℕ)) (t : Tables) (item : PlacedItem)
    → KeyStands left (owed g) held k ((or_empty (t g)).keys k)
    → KeyStands (left_after left seq (item_leaves_key g k (item_in blocks item))) (owed_after_item t item owed g) held k ((or_empty (tables_after_item (in_append seq) t item g)).keys k)
after_item blocks seq g k left owed held t item stands = at (g == item.group) refl
  where
    at : (b : Bool) → (g == item.group) ≡ b
        → KeyStands (left_after left seq (cond b (content_leaves_key k (content_in blocks item.content)) true)) (cond b (marks_after item.content (or_empty (t item.group)).entries (owed item.group)) (owed g)) held k ((or_empty (cond b (table_after (in_append seq) item.content (t item.group)) (t g))).keys k)
    at true same =
        let P : ℕ → Type 0 = λ h. KeyStands left (owed h) held k ((or_empty (t h)).keys k) in
        let leaves = content_leaves_key k (content_in blocks item.content) in
        subst (λ s. KeyStands (left_after left seq leaves) (marks_after item.content (or_empty (t item.group)).entries (owed item.group)) held k s) (sym (stored-after (in_append seq) item.content (t item.group) k))
        (cleaned_by blocks (or_empty (t item.group)).entries item.content left (left_after left seq leaves) seq (owed item.group) held k ((or_empty (t item.group)).keys k)
        (λ n is. stays_less (left n) (nat_le n seq) leaves is) (λ none. set_now (left seq) (nat_le seq seq) leaves (le_self seq) none)
        (subst P (eq_from_test g item.group same) stands))
    at false other = less_left left (left_after left seq true) (owed g) held k ((or_empty (t g)).keys k) (λ n is. stays_less (left n) (nat_le n seq) true is) stands

pub after_items : (blocks : Blocks) (seq : ℕ) (g : ℕ) (k : List ℕ) (left : ℕ → Bool) (owed : Owed) (held : Option (List ℕ)) (t : Tables) (items : List PlacedItem)
    → KeyStands left (owed g) held k ((or_empty (t g)).keys k)
    → KeyStands (left_after left seq (list_all (item_leaves_key g k) (map (item_in blocks) items))) (owed_after (in_append seq) t items owed g) held k ((or_empty (tables_after (in_append seq) t items g)).keys k)
after_items blocks seq g k left owed held t [] stands = less_left left (left_after left seq true) (owed g) held k ((or_empty (t g)).keys k) (λ n is. stays_less (left n) (nat_le n seq) true is) stands
after_items blocks seq g k left owed held t (item ∷ items) stands =
    let first = item_leaves_key g k (item_in blocks item) in
    let others = list_all (item_leaves_key g k) (map (item_in blocks) items) in
    let next = tables_after_item (in_append seq) t item in
    less_left (left_after (left_after left seq first) seq others) (left_after left seq (first && others)) (owed_after (in_append seq) next items (owed_after_item t item owed) g) held k ((or_empty (tables_after (in_append seq) next items g)).keys k)
    (λ n is. both_less (left n) (nat_le n seq) first others is)
    (after_items blocks seq g k (left_after left seq first) (owed_after_item t item owed) held next items (after_item blocks seq g k left owed held t item stands))

-- a key that is written again

pub stored-moved : (watermark : Option ℕ) (id : FileId) (key value : List ℕ) (t : Option TableView) (k : List ℕ)
    → (or_empty (table_moved watermark id (Plain (Put key value)) t)).keys k
    ≡ cond (bytes_eq key group_mark_key) ((or_empty t).keys k) (cond (bytes_eq k key) (option_map (value_moved watermark id) ((or_empty t).keys key)) ((or_empty t).keys k))
stored-moved watermark id key value None k = keys_of_either (bytes_eq key group_mark_key) None None k ∙ ap (λ s. cond (bytes_eq key group_mark_key) None s) (none_either (bytes_eq k key))
stored-moved watermark id key value (Some v) k = keys_of_either (bytes_eq key group_mark_key) (Some v) _ k

pub moved : (watermark : Option ℕ) (seq : ℕ) (left : ℕ → Bool) (marks : Marks) (held : Option (List ℕ)) (k : List ℕ) (s : Option StoredValue) (key value : List ℕ) (s_key : Option StoredValue) (from : FileId)
    → KeyStands left marks held k s → marks.cleaned ≡ false → s_key ≡ Some (value, from) → may_move watermark from ≡ true
    → KeyStands left marks (cond (bytes_eq key group_mark_key) held (cond (bytes_eq k key) (Some value) held)) k
    (cond (bytes_eq key group_mark_key) s (cond (bytes_eq k key) (option_map (value_moved watermark (in_rewrite seq)) s_key) s))
moved watermark seq left marks held k s key value s_key from stands clean is may = at (bytes_eq key group_mark_key) (bytes_eq k key)
  where
    new : option_map (value_moved watermark (in_rewrite seq)) s_key ≡ Some (value, in_rewrite seq)
    new = ap (option_map (value_moved watermark (in_rewrite seq))) is ∙ ap (λ b. Some (cond b (value, in_rewrite seq) (value, from))) may

    at : (mark same : Bool) → KeyStands left marks (cond mark held (cond same (Some value) held)) k (cond mark s (cond same (option_map (value_moved watermark (in_rewrite seq)) s_key) s))
    at true same = stands
    at false true = subst (λ o. KeyStands left marks (Some value) k o) (sym new) (refl, clean)
    at false false = stands

-- marks

pub delete_marked : (left : ℕ → Bool) (marks : Marks) (held : Option (List ℕ)) (k : List ℕ) (s : Option StoredValue) (key : List ℕ) → (bytes_eq k key ≡ true → s ≡ None)
    → KeyStands left marks held k s → KeyStands left (record marks { deleted = λ j. not (bytes_eq j key) && marks.deleted j }) (cond (bytes_eq k key) None held) k s
delete_marked left marks held k s key none stands = at (bytes_eq k key) refl
  where
    fewer : Marks
    fewer = record marks { deleted = λ j. not (bytes_eq j key) && marks.deleted j }

    at : (b : Bool) → bytes_eq k key ≡ b → KeyStands left fewer (cond b None held) k s
    at true same = subst (λ o. KeyStands left fewer None k o) (sym (none same)) (λ c d. refl)
    at false other = more_owed left marks fewer held k s refl (λ is. sym (ap (λ b. not b && marks.deleted k) other) ∙ is) stands

pub clean_marked : (left : ℕ → Bool) (marks : Marks) (held : Option (List ℕ)) (k : List ℕ) (s : Option StoredValue) → marks.cleaned ≡ true
    → KeyStands left marks held k s → KeyStands left (record marks { cleaned = false }) None k s
clean_marked left marks held k None owed stands = λ c d. refl
clean_marked left marks held k (Some (value, id)) owed stands = at id.queue stands
  where
    at : (queue : _) → PlacedKeyStands left marks held value id.seq queue → PlacedKeyStands left (record marks { cleaned = false }) None value id.seq queue
    at Append is = is
    at Rewrite is = absurd (false≢true (sym is.1 ∙ owed))

-- what a clean mark needs: nothing is recovered that the Append queue leaves alone
pub set_by_append : (left : ℕ → Bool) (marks : Marks) (held : Option (List ℕ)) (k : List ℕ) (s : Option StoredValue) → marks.cleaned ≡ true → KeyStands left marks held k s → left 0 ≡ true
    → ((n : ℕ) → left n ≡ false → left 0 ≡ false) → option_map (λ (v : StoredValue). v.0) s ≡ None
set_by_append left marks held k None owed stands all less = refl
set_by_append left marks held k (Some (value, id)) owed stands all less = absurd (at id.queue stands)
  where
    at : (queue : _) → PlacedKeyStands left marks held value id.seq queue → ⊥
    at Append is = false≢true (sym (less id.seq is) ∙ all)
    at Rewrite is = false≢true (sym is.1 ∙ owed)

-- dropped files

pub front_dropped : (first : ℕ) (left left' : ℕ → Bool) (marks : Marks) (held : Option (List ℕ)) (k : List ℕ) (s : Option StoredValue) → ((n : ℕ) → first ≤ n → left n ≡ false → left' n ≡ false) → IsPlacedFrom first s
    → KeyStands left marks held k s → KeyStands left' marks held k s
front_dropped first left left' marks held k None less placed stands = stands
front_dropped first left left' marks held k (Some (value, id)) less placed stands = at id.queue placed stands
  where
    at : (queue : _) → (queue ≡ Append → first ≤ id.seq) → PlacedKeyStands left marks held value id.seq queue → PlacedKeyStands left' marks held value id.seq queue
    at Append from is = less id.seq (from refl) is
    at Rewrite from is = is

-- what the Rewrite queue holds where the rest of the Append queue leaves the key alone and no mark is owed
pub held_without : (first : ℕ) (left : ℕ → Bool) (rest : Bool) (marks : Marks) (held : Option (List ℕ)) (k : List ℕ) (s : Option StoredValue) → marks.cleaned ≡ false → marks.deleted k ≡ false → IsPlacedFrom first s
    → ((n : ℕ) → first ≤ n → left n ≡ false → rest ≡ false) → rest ≡ true → KeyStands left marks held k s → held ≡ option_map (λ (v : StoredValue). v.0) s
held_without first left rest marks held k None clean none placed less is stands = stands clean none
held_without first left rest marks held k (Some (value, id)) clean none placed less is stands = at id.queue placed stands
  where
    at : (queue : _) → (queue ≡ Append → first ≤ id.seq) → PlacedKeyStands left marks held value id.seq queue → held ≡ Some value
    at Append from set = absurd (false≢true (sym (less id.seq (from refl) set) ∙ is))
    at Rewrite from there = there.0
