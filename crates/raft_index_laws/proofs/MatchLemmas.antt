-- Items that stand for the same at other places, and items that set different things.
use Rattle.std.proofs.Common.{◌≡◌, ℕ, ◌==◌, ◌&&◌, Bool, true, false, cond, List, [], ◌∷◌, map, Option, Some, None, refl, sym, ◌∙◌, ap, subst, arith}
use Rattle.std.specs.List.{list_all, AllByRecursion as Each}
use Rattle.std.specs.Option.{option_map}
use Rattle.std.specs.Str.{bytes_eq}
use Rattle.std.specs.Cmp.Lexicographic.{bytes_decides}
use Rattle.std.proofs.lemmas.Bool.{and_parts, false≢true}
use Rattle.raft_base.specs.declared.pipe_log.FileId.{FileId}
use Rattle.raft_records.specs.declared.entry_index.EntryPlace.{EntryPlace}
use Rattle.raft_records.specs.Item.{Content, Entry, Entries, Clean, Compact, Put, Delete, Item, group_mark_key}
use Rattle.raft_records.specs.PlacedItem.{PlacedContent, EntriesAt, Plain, PlacedItem, are_all_placed, content_in, is_placed_in_order, item_in}
use Rattle.raft_records.specs.Places.{Blocks, entry_in, entries_in}
use Rattle.raft_tables.specs.Counters.{is_rewritten}
use Rattle.raft_tables.specs.MovedEntries.{may_move_from}
use Rattle.raft_tables.specs.Moving.{table_moved, tables_moved, tables_moved_by, value_moved}
use Rattle.raft_tables.specs.Owed.{Owed}
use Rattle.raft_tables.specs.Table.{TableView, with_key}
use Rattle.raft_tables.specs.Tables.{Tables, or_empty}
use Rattle.raft_index_laws.specs.Standing.{are_rewritten}
use Rattle.raft_index_laws.proofs.KeyLemmas.{eq_from_test}
use Rattle.raft_index_laws.specs.Gathering.{AreSetApart, IsFetchedContent, SetApart, key_set_by}
use Rattle.raft_index_laws.specs.Rewriting.{ArePart, GetPlaces, IsFetched, MayAllBeWritten, MayMoveKey, MayWriteAgain}
use Rattle.raft_index_laws.proofs.RewrittenLemmas.{keys-moved}

-- Equal lists and contents.

pub head_same : {X : Type 0} (x y : X) (xs ys : List X) → x ∷ xs ≡ y ∷ ys → x ≡ y
head_same x y xs ys is = cc

pub tail_same : {X : Type 0} (x y : X) (xs ys : List X) → x ∷ xs ≡ y ∷ ys → xs ≡ ys
tail_same x y xs ys is = cc

pub no_cons : {X : Type 0} (x : X) (xs : List X) → [] ≡ x ∷ xs → ⊥
no_cons x xs is = cc

abbrev pub kind_of : Content → ℕ
kind_of (Entries es) = 0
kind_of Clean = 1
kind_of (Compact index) = 2
kind_of (Put key value) = 3
kind_of (Delete key) = 4

abbrev pub set_entries : Content → List Entry
set_entries (Entries es) = es
set_entries Clean = []
set_entries (Compact index) = []
set_entries (Put key value) = []
set_entries (Delete key) = []

abbrev put_key : Content → List ℕ
put_key (Entries es) = []
put_key Clean = []
put_key (Compact index) = []
put_key (Put key value) = key
put_key (Delete key) = key

abbrev put_value : Content → List ℕ
put_value (Entries es) = []
put_value Clean = []
put_value (Compact index) = []
put_value (Put key value) = value
put_value (Delete key) = []

pub unlike : (c d : Content) → c ≡ d → (kind_of c ≡ kind_of d → ⊥) → ⊥
unlike c d is other = other (ap kind_of is)

-- The same bytes at other places.

pub gets : (w : Option ℕ) (blocks : Blocks) (mid new : List (ℕ × EntryPlace)) → entries_in blocks new ≡ entries_in blocks mid → Each (λ e. may_move_from w e.1 ≡ true) mid → GetPlaces w mid new
gets w blocks [] [] same moves = tt
gets w blocks [] (n ∷ new) same moves = no_cons (entry_in blocks n) (entries_in blocks new) (sym same)
gets w blocks (e ∷ es) [] same moves = no_cons (entry_in blocks e) (entries_in blocks es) same
gets w blocks (e ∷ es) (n ∷ new) same moves =
    (ap (λ (x : Entry). x.0) (head_same (entry_in blocks n) (entry_in blocks e) (entries_in blocks new) (entries_in blocks es) same), moves.0, gets w blocks es new (tail_same (entry_in blocks n) (entry_in blocks e) (entries_in blocks new) (entries_in blocks es) same) moves.1)

-- entries are given by their places
abbrev pub is_given : PlacedContent → Bool
is_given (EntriesAt entries) = true
is_given (Plain (Entries entries)) = false
is_given (Plain Clean) = true
is_given (Plain (Compact index)) = true
is_given (Plain (Put key value)) = true
is_given (Plain (Delete key)) = true

in_order_given : (c : PlacedContent) → is_placed_in_order c ≡ true → is_given c ≡ true
in_order_given (EntriesAt entries) order = refl
in_order_given (Plain (Entries entries)) order = order
in_order_given (Plain Clean) order = refl
in_order_given (Plain (Compact index)) order = refl
in_order_given (Plain (Put key value)) order = refl
in_order_given (Plain (Delete key)) order = refl

pub all_given : (items : List PlacedItem) → list_all (λ item. is_placed_in_order item.content) items ≡ true → list_all (λ item. is_given item.content) items ≡ true
all_given [] order = refl
all_given (i ∷ items) order =
    let orders = and_parts (is_placed_in_order i.content) (list_all (λ item. is_placed_in_order item.content) items) order in
    ap (λ b. b && list_all (λ item. is_given item.content) items) (in_order_given i.content orders.0) ∙ all_given items orders.1

-- entries with the same bytes as those that were fetched are a part
pub part_again : (w : Option ℕ) (blocks : Blocks) (t : Tables) (g : ℕ) (e : ℕ × EntryPlace) (es : List (ℕ × EntryPlace)) (n : ℕ × EntryPlace) (ns : List (ℕ × EntryPlace)) → IsFetched w (or_empty (t g)).entries (e ∷ es) → entries_in blocks (n ∷ ns) ≡ entries_in blocks (e ∷ es) → are_rewritten (n ∷ ns) ≡ true
    → (part : ArePart w blocks (or_empty (t g)).entries (n ∷ ns)) × (w ≡ None → part.pre ≡ [])
part_again w blocks t g e es n ns from same placed = (
  record {
    pre = from.pre;
    mid = e ∷ es;
    post = from.post;
    parts = from.parts;
    first = from.first;
    rest = from.rest;
    places = gets w blocks (e ∷ es) (n ∷ ns) same from.moves;
    bytes = same;
    written = placed;
  },
  from.whole,
)

entries_again : (w : Option ℕ) (blocks : Blocks) (t : Tables) (g : ℕ) (e : ℕ × EntryPlace) (es : List (ℕ × EntryPlace)) (c : PlacedContent) → IsFetched w (or_empty (t g)).entries (e ∷ es) → content_in blocks c ≡ Entries (entries_in blocks (e ∷ es)) → is_given c ≡ true → are_all_placed is_rewritten c ≡ true → MayWriteAgain w blocks t g c
entries_again w blocks t g e es (EntriesAt []) from same order placed = absurd (no_cons (entry_in blocks e) (entries_in blocks es) (ap set_entries same))
entries_again w blocks t g e es (EntriesAt (n ∷ ns)) from same order placed = (part_again w blocks t g e es n ns from (ap set_entries same) placed).0
entries_again w blocks t g e es (Plain (Entries xs)) from same order placed = absurd (false≢true order)
entries_again w blocks t g e es (Plain Clean) from same order placed = absurd (unlike Clean (Entries (entries_in blocks (e ∷ es))) same (λ is. omega (arith, is)))
entries_again w blocks t g e es (Plain (Compact index)) from same order placed = absurd (unlike (Compact index) (Entries (entries_in blocks (e ∷ es))) same (λ is. omega (arith, is)))
entries_again w blocks t g e es (Plain (Put key value)) from same order placed = absurd (unlike (Put key value) (Entries (entries_in blocks (e ∷ es))) same (λ is. omega (arith, is)))
entries_again w blocks t g e es (Plain (Delete key)) from same order placed = absurd (unlike (Delete key) (Entries (entries_in blocks (e ∷ es))) same (λ is. omega (arith, is)))

value_again : (w : Option ℕ) (blocks : Blocks) (t : Tables) (g : ℕ) (k v : List ℕ) (c : PlacedContent) → MayMoveKey w t g k v → content_in blocks c ≡ Put k v → MayWriteAgain w blocks t g c
value_again w blocks t g k v (EntriesAt ns) from same = absurd (unlike (Entries (entries_in blocks ns)) (Put k v) same (λ is. omega (arith, is)))
value_again w blocks t g k v (Plain (Entries xs)) from same = absurd (unlike (Entries xs) (Put k v) same (λ is. omega (arith, is)))
value_again w blocks t g k v (Plain Clean) from same = absurd (unlike Clean (Put k v) same (λ is. omega (arith, is)))
value_again w blocks t g k v (Plain (Compact index)) from same = absurd (unlike (Compact index) (Put k v) same (λ is. omega (arith, is)))
value_again w blocks t g k v (Plain (Put key value)) from same =
    subst (λ (j : List ℕ). MayMoveKey w t g j value) (sym (ap put_key same)) (subst (λ (u : List ℕ). MayMoveKey w t g k u) (sym (ap put_value same)) from)
value_again w blocks t g k v (Plain (Delete key)) from same = absurd (unlike (Delete key) (Put k v) same (λ is. omega (arith, is)))

pub may_again : (w : Option ℕ) (blocks : Blocks) (t : Tables) (g : ℕ) (d c : PlacedContent) → IsFetchedContent w t g d → content_in blocks c ≡ content_in blocks d → is_given c ≡ true → are_all_placed is_rewritten c ≡ true → MayWriteAgain w blocks t g c
may_again w blocks t g (EntriesAt []) c from same order placed = absurd from
may_again w blocks t g (EntriesAt (e ∷ es)) c from same order placed = entries_again w blocks t g e es c from same order placed
may_again w blocks t g (Plain (Entries xs)) c from same order placed = absurd from
may_again w blocks t g (Plain Clean) c from same order placed = absurd from
may_again w blocks t g (Plain (Compact index)) c from same order placed = absurd from
may_again w blocks t g (Plain (Put key value)) c from same order placed = value_again w blocks t g key value c from same
may_again w blocks t g (Plain (Delete key)) c from same order placed = absurd from

-- the entries of a content with the same bytes as entries that are given by their places
pub entries_of : (blocks : Blocks) (es : List (ℕ × EntryPlace)) (c : PlacedContent) → content_in blocks c ≡ Entries (entries_in blocks es) → is_placed_in_order c ≡ true → (ns : List (ℕ × EntryPlace)) × (c ≡ EntriesAt ns) × (entries_in blocks ns ≡ entries_in blocks es)
entries_of blocks es (EntriesAt ns) same order = (ns, refl, ap set_entries same)
entries_of blocks es (Plain (Entries xs)) same order = absurd (false≢true order)
entries_of blocks es (Plain Clean) same order = absurd (unlike Clean (Entries (entries_in blocks es)) same (λ is. omega (arith, is)))
entries_of blocks es (Plain (Compact index)) same order = absurd (unlike (Compact index) (Entries (entries_in blocks es)) same (λ is. omega (arith, is)))
entries_of blocks es (Plain (Put key value)) same order = absurd (unlike (Put key value) (Entries (entries_in blocks es)) same (λ is. omega (arith, is)))
entries_of blocks es (Plain (Delete key)) same order = absurd (unlike (Delete key) (Entries (entries_in blocks es)) same (λ is. omega (arith, is)))

pub put_of : (blocks : Blocks) (k v : List ℕ) (c : PlacedContent) → content_in blocks c ≡ Put k v → c ≡ Plain (Put k v)
put_of blocks k v (EntriesAt ns) same = absurd (unlike (Entries (entries_in blocks ns)) (Put k v) same (λ is. omega (arith, is)))
put_of blocks k v (Plain content) same = ap Plain same

-- What a change sets.

abbrev pub set_key : Content → Option (List ℕ)
set_key (Entries es) = None
set_key Clean = None
set_key (Compact index) = None
set_key (Put key value) = Some key
set_key (Delete key) = Some key

pub key_set : (blocks : Blocks) (c : PlacedContent) → key_set_by c ≡ set_key (content_in blocks c)
key_set blocks (EntriesAt es) = refl
key_set blocks (Plain (Entries es)) = refl
key_set blocks (Plain Clean) = refl
key_set blocks (Plain (Compact index)) = refl
key_set blocks (Plain (Put key value)) = refl
key_set blocks (Plain (Delete key)) = refl

pub same_key_set : (blocks : Blocks) (c d : PlacedContent) → content_in blocks c ≡ content_in blocks d → key_set_by c ≡ key_set_by d
same_key_set blocks c d same = key_set blocks c ∙ ap set_key same ∙ sym (key_set blocks d)

-- What an item leaves that sets something else.

content_leaves_entries : (w : Option ℕ) (id : FileId) (c : PlacedContent) (u : Option TableView) → (key_set_by c ≡ None → ⊥) → (or_empty (table_moved w id c u)).entries ≡ (or_empty u).entries
content_leaves_entries w id (EntriesAt new) u apart = absurd (apart refl)
content_leaves_entries w id (Plain (Entries entries)) u apart = refl
content_leaves_entries w id (Plain Clean) u apart = refl
content_leaves_entries w id (Plain (Compact index)) u apart = refl
content_leaves_entries w id (Plain (Put key value)) u apart = at (bytes_eq key group_mark_key) u
  where
    at : (b : Bool) (v : Option TableView) → (or_empty (cond b v (option_map (λ x. with_key key (option_map (value_moved w id) (x.keys key)) x) v))).entries ≡ (or_empty v).entries
    at true v = refl
    at false None = refl
    at false (Some x) = refl
content_leaves_entries w id (Plain (Delete key)) u apart = refl

content_leaves_key : (w : Option ℕ) (id : FileId) (c : PlacedContent) (u : Option TableView) (k : List ℕ) → (key_set_by c ≡ Some k → ⊥) → (or_empty (table_moved w id c u)).keys k ≡ (or_empty u).keys k
content_leaves_key w id (EntriesAt new) u k apart = keys-moved w id new u k
content_leaves_key w id (Plain (Entries entries)) u k apart = refl
content_leaves_key w id (Plain Clean) u k apart = refl
content_leaves_key w id (Plain (Compact index)) u k apart = refl
content_leaves_key w id (Plain (Put key value)) u k apart = at (bytes_eq key group_mark_key) u (bytes_eq k key) refl
  where
    at : (b : Bool) (v : Option TableView) (same : Bool) → bytes_eq k key ≡ same → (or_empty (cond b v (option_map (λ x. with_key key (option_map (value_moved w id) (x.keys key)) x) v))).keys k ≡ (or_empty v).keys k
    at true v same is = refl
    at false None same is = refl
    at false (Some x) true is = absurd (apart (ap (λ (j : List ℕ). let o : Option (List ℕ) = Some j in o) (sym ((bytes_decides k key).0 is))))
    at false (Some x) false is = ap (λ b. cond b (option_map (value_moved w id) (x.keys key)) (x.keys k)) is
content_leaves_key w id (Plain (Delete key)) u k apart = refl

pub entries_left : (w : Option ℕ) (id : FileId) (t : Tables) (item : PlacedItem) (g : ℕ) → (item.group ≡ g → key_set_by item.content ≡ None → ⊥) → (or_empty (tables_moved_by w id t item g)).entries ≡ (or_empty (t g)).entries
entries_left w id t item g apart = at (g == item.group) refl
  where
    at : (b : Bool) → (g == item.group) ≡ b → (or_empty (cond b (table_moved w id item.content (t item.group)) (t g))).entries ≡ (or_empty (t g)).entries
    at true here = let is = eq_from_test g item.group here in content_leaves_entries w id item.content (t item.group) (apart (sym is)) ∙ ap (λ h. (or_empty (t h)).entries) (sym is)
    at false other = refl

pub key_left : (w : Option ℕ) (id : FileId) (t : Tables) (item : PlacedItem) (g : ℕ) (k : List ℕ) → (item.group ≡ g → key_set_by item.content ≡ Some k → ⊥) → (or_empty (tables_moved_by w id t item g)).keys k ≡ (or_empty (t g)).keys k
key_left w id t item g k apart = at (g == item.group) refl
  where
    at : (b : Bool) → (g == item.group) ≡ b → (or_empty (cond b (table_moved w id item.content (t item.group)) (t g))).keys k ≡ (or_empty (t g)).keys k
    at true here = let is = eq_from_test g item.group here in content_leaves_key w id item.content (t item.group) k (apart (sym is)) ∙ ap (λ h. (or_empty (t h)).keys k) (sym is)
    at false other = refl

-- a group of which no item is
pub group_left : (w : Option ℕ) (id : FileId) (t : Tables) (items : List PlacedItem) (g : ℕ) → Each (λ item. item.group ≡ g → ⊥) items → tables_moved w id t items g ≡ t g
group_left w id t [] g others = refl
group_left w id t (item ∷ items) g others = group_left w id (tables_moved_by w id t item) items g others.1 ∙ at (g == item.group) refl
  where
    at : (b : Bool) → (g == item.group) ≡ b → cond b (table_moved w id item.content (t item.group)) (t g) ≡ t g
    at true here = absurd (others.0 (sym (eq_from_test g item.group here)))
    at false other = refl

-- what was fetched is fetched still, once an item moved that sets something else
pub fetched_still : (w : Option ℕ) (id : FileId) (t : Tables) (item : PlacedItem) (g : ℕ) (c : PlacedContent) → (item.group ≡ g → key_set_by item.content ≡ key_set_by c → ⊥) → IsFetchedContent w t g c → IsFetchedContent w (tables_moved_by w id t item) g c
fetched_still w id t item g (EntriesAt []) apart from = from
fetched_still w id t item g (EntriesAt (e ∷ es)) apart from = subst (λ xs. IsFetched w xs (e ∷ es)) (sym (entries_left w id t item g apart)) from
fetched_still w id t item g (Plain (Entries xs)) apart from = from
fetched_still w id t item g (Plain Clean) apart from = from
fetched_still w id t item g (Plain (Compact index)) apart from = from
fetched_still w id t item g (Plain (Put key value)) apart from = (from.0, key_left w id t item g key apart ∙ from.1, from.2)
fetched_still w id t item g (Plain (Delete key)) apart from = from

-- Gathered items, at their new places.

abbrev pub fetched_item : Option ℕ → Owed → Tables → PlacedItem → Type 0
fetched_item w owed t item = ((owed item.group).cleaned ≡ false) × IsFetchedContent w t item.group item.content

pub each_still : (w : Option ℕ) (id : FileId) (owed : Owed) (t : Tables) (n : PlacedItem) (items : List PlacedItem) → Each (λ i. n.group ≡ i.group → key_set_by n.content ≡ key_set_by i.content → ⊥) items → Each (fetched_item w owed t) items → Each (fetched_item w owed (tables_moved_by w id t n)) items
each_still w id owed t n [] apart each = tt
each_still w id owed t n (i ∷ items) apart each = ((each.0.0, fetched_still w id t n i.group i.content apart.0 each.0.1), each_still w id owed t n items apart.1 each.1)

-- an item that stands for the same sets the same
pub apart_too : (blocks : Blocks) (n i : PlacedItem) (items : List PlacedItem) → item_in blocks n ≡ item_in blocks i → Each (SetApart i) items → Each (λ j. n.group ≡ j.group → key_set_by n.content ≡ key_set_by j.content → ⊥) items
apart_too blocks n i [] same apart = tt
apart_too blocks n i (j ∷ items) same apart =
    (λ group key. apart.0 (sym (ap (λ (x : Item). x.group) same) ∙ group) (sym (same_key_set blocks n.content i.content (ap (λ (x : Item). x.content) same)) ∙ key), apart_too blocks n i items same apart.1)

pub may_all : (w : Option ℕ) (id : FileId) (blocks : Blocks) (owed : Owed) (t : Tables) (items news : List PlacedItem) → Each (fetched_item w owed t) items → AreSetApart items → map (item_in blocks) news ≡ map (item_in blocks) items
    → list_all (λ item. is_given item.content) news ≡ true → list_all (λ item. are_all_placed is_rewritten item.content) news ≡ true → MayAllBeWritten w id blocks owed t news
may_all w id blocks owed t [] [] each apart same order placed = tt
may_all w id blocks owed t [] (n ∷ news) each apart same order placed = absurd (no_cons (item_in blocks n) (map (item_in blocks) news) (sym same))
may_all w id blocks owed t (i ∷ items) [] each apart same order placed = tt
may_all w id blocks owed t (i ∷ items) (n ∷ news) each apart same order placed =
    let orders = and_parts (is_given n.content) (list_all (λ item. is_given item.content) news) order in
    let places = and_parts (are_all_placed is_rewritten n.content) (list_all (λ item. are_all_placed is_rewritten item.content) news) placed in
    let one = head_same (item_in blocks n) (item_in blocks i) (map (item_in blocks) news) (map (item_in blocks) items) same in
    let group : n.group ≡ i.group = ap (λ (x : Item). x.group) one in
    let content : content_in blocks n.content ≡ content_in blocks i.content = ap (λ (x : Item). x.content) one in (
      ap (λ (g : ℕ). (owed g).cleaned) group ∙ each.0.0,
      subst (λ (g : ℕ). MayWriteAgain w blocks t g n.content) (sym group) (may_again w blocks t i.group i.content n.content each.0.1 content orders.0 places.0),
      may_all w id blocks owed (tables_moved_by w id t n) items news (each_still w id owed t n items (apart_too blocks n i items one apart.0) each.1) apart.1
          (tail_same (item_in blocks n) (item_in blocks i) (map (item_in blocks) news) (map (item_in blocks) items) same) orders.1 places.1,
    )
