-- A batch of a log's contents is too great for a record: a great entry is in it, or it is a great record.
use Rattle.std.proofs.Common.{◌≡◌, ◌⊎◌, ◌<◌, ◌≤◌, ◌+◌, ◌-◌, ◌^◌, ◌∙◌, ◌++◌, ◌∷◌, ◌||◌, ◌==◌, ℕ, suc, Bool, true, false, List, [], Option, Some, None, Contains, ap, arith, filter, inl, inr, length, length-append, map, nat_le, refl, subst, sym, take}
use Rattle.std.specs.Prelude.{if◌then◌else◌}
use Rattle.std.specs.List.{AllByRecursion as Each, flat_map, list_any}
use Rattle.std.specs.Option.{option_or}
use Rattle.std.proofs.lemmas.Bool.Decides.{nat_tests}
use Rattle.std.proofs.lemmas.Grind.{flat_map-append}
use Rattle.std.proofs.lemmas.List.Sums.{sum_by-cons}
use Rattle.raft_base.specs.declared.errors.Fault.{Fault}
use Rattle.raft_base.specs.declared.errors.Fault.TheVariants as fault
use Rattle.raft_queues.specs.Dual.{both_blocks_now}
use Rattle.raft_records.specs.Batch.{batch_of, with_entries_item}
use Rattle.raft_records.specs.Contents.{Contents, no_contents}
use Rattle.raft_records.specs.Item.{Batch, Clean, Compact, Content, Delete, Entries, Entry, Item, Put}
use Rattle.raft_records.specs.Layout.{entry_bytes}
use Rattle.raft_records.specs.PlacedItem.{EntriesAt, Plain, PlacedContent, PlacedItem, content_in, item_in}
use Rattle.raft_records.specs.Places.{Blocks, entries_in, entry_in}
use Rattle.raft_records.specs.Record.{entry_bytes_of, record_bytes}
use Rattle.raft_records.specs.RecordLimits.{first_refusal, length_refusal}
use Rattle.raft_records.specs.Validity.{content_refusal, fits_behind}
use Rattle.raft_records.specs.declared.entry_index.EntryPlace.{EntryPlace}
use Rattle.raft_recovery_laws.specs.Bounds.{AreItemsBelow, IsContentBelow}
use Rattle.raft_recovery_laws.proofs.AscendingLemmas.{Contains-head, Contains-tail}
use Rattle.raft_recovery_laws.proofs.EachLemmas.{each_contained, each_filter, each_left, each_map, each_right}
use Rattle.raft_index_laws.specs.AtomicGroup.{marked}
use Rattle.raft_index_laws.specs.Gathering.{IsFetchedContent}
use Rattle.raft_index_laws.specs.Rewriting.{entries_item}
use Rattle.raft_tables.specs.MovedEntries.{may_move_from}
use Rattle.raft_tables.specs.Owed.{Owed}
use Rattle.raft_tables.specs.Tables.{Tables, contents_in, or_empty}
use Rattle.raft_purge_steps.specs.Cut.{IsCutBatch, bytes_held, bytes_in as item_bytes, bytes_of_entries}
use Rattle.raft_purge_steps.specs.Faults.{HasNoRecordIn}
use Rattle.raft_purge_steps.specs.Gathering.{put_items}
use Rattle.raft_purge_steps.specs.Rewriting.{WasGathered}
use Rattle.raft_purge_steps.specs.Steps.{PurgedLog}
use Rattle.raft_purge_steps.specs.Unfit.{HasTooGreat, IsFrom, IsFromLogOf}
use Rattle.raft_purge_steps.proofs.CutLemmas.{held_more, one_held}
use Rattle.raft_rewrite.specs.TooGreat.{HasGreatEntry, HasGreatRecord}
use Rattle.raft_rewrite.proofs.BelowLemmas.{log_below, log_contents, log_has}

-- The entries of a batch are those of the contents.

abbrev AreOf : List Entry → Content → Type 0
AreOf held (Entries es) = Each (λ (e : Entry). Contains held e) es
AreOf held Clean = Unit {0}
AreOf held (Compact index) = Unit {0}
AreOf held (Put key value) = Unit {0}
AreOf held (Delete key) = Unit {0}

abbrev IsItemOf : Contents → Item → Type 0
IsItemOf x item = AreOf (x.entries item.group) item.content

-- each stands there
each_there : {X Y : Type 0} (f : X → Y) (xs : List X) → Each (λ x. Contains (map f xs) (f x)) xs
each_there f [] = tt
each_there f (x ∷ xs) = (Contains-head (f x) (map f xs), each_map (λ y. Contains (map f xs) (f y)) (λ y. Contains (f x ∷ map f xs) (f y)) xs (λ y is. Contains-tail (f x) (map f xs) (f y) is) (each_there f xs))

each_entry : (blocks : Blocks) (held : List Entry) (es : List (ℕ × EntryPlace)) → Each (λ e. Contains held (entry_in blocks e)) es → Each (λ (e : Entry). Contains held e) (entries_in blocks es)
each_entry blocks held [] each = tt
each_entry blocks held (e ∷ es) each = (each.0, each_entry blocks held es each.1)

-- a part of them
part_there : (blocks : Blocks) (held : List Entry) (all front part back : List (ℕ × EntryPlace)) → all ≡ front ++ (part ++ back) → Each (λ e. Contains held (entry_in blocks e)) all → Each (λ (e : Entry). Contains held e) (entries_in blocks part)
part_there blocks held all front part back is each =
    let P : ℕ × EntryPlace → Type 0 = λ e. Contains held (entry_in blocks e) in
    each_entry blocks held part (each_left P part back (each_right P front (part ++ back) (subst (Each P) is each)))

fetched_there : (blocks : Blocks) (w : Option ℕ) (t : Tables) (group : ℕ) (c : PlacedContent) → IsFetchedContent w t group c → AreOf ((contents_in blocks t).entries group) (content_in blocks c)
fetched_there blocks w t group (EntriesAt []) from = absurd from
fetched_there blocks w t group (EntriesAt (e ∷ es)) from =
    let all = (or_empty (t group)).entries in
    part_there blocks (entries_in blocks all) all from.pre (e ∷ es) from.post from.parts (each_there (entry_in blocks) all)
fetched_there blocks w t group (Plain (Entries es)) from = absurd from
fetched_there blocks w t group (Plain Clean) from = tt
fetched_there blocks w t group (Plain (Compact index)) from = tt
fetched_there blocks w t group (Plain (Put key value)) from = tt
fetched_there blocks w t group (Plain (Delete key)) from = tt

gathered_there : (blocks : Blocks) (w : Option ℕ) (owed : Owed) (t : Tables) (items : List PlacedItem) → Each (λ item. ((owed item.group).cleaned ≡ false) × IsFetchedContent w t item.group item.content) items → Each (IsItemOf (contents_in blocks t)) (map (item_in blocks) items)
gathered_there blocks w owed t [] each = tt
gathered_there blocks w owed t (item ∷ items) each = (fetched_there blocks w t item.group item.content each.0.1, gathered_there blocks w owed t items each.1)

values_there : (x : Contents) (group : ℕ) (pairs : List (List ℕ × List ℕ)) → Each (IsItemOf x) (put_items group pairs)
values_there x group [] = tt
values_there x group (p ∷ pairs) = (tt, values_there x group pairs)

-- .. where the batch is from a log
from_there : (s : PurgedLog) (blocks : Blocks) (batch : Batch) → (blocks ≡ both_blocks_now s.pipes s.files) → ((watermark : Option ℕ) (was : WasGathered watermark s.pipes s.files s.index.owed s.index.tables batch) → batch ≡ map (item_in blocks) was.items) → IsFrom s batch → Each (IsItemOf (contents_in blocks s.index.tables)) batch
from_there s blocks batch are reads (inl (watermark, was)) = subst (Each (IsItemOf (contents_in blocks s.index.tables))) (sym (reads watermark was)) (gathered_there blocks watermark s.index.owed s.index.tables was.items was.gathered.each)
from_there s blocks batch are reads (inr of) =
    let x = contents_in blocks s.index.tables in
    let all = (or_empty (s.index.tables of.group)).entries in
    let held = entries_in blocks all in
    let P : ℕ × EntryPlace → Type 0 = λ e. Contains held (entry_in blocks e) in
    let moved = filter (λ (e : ℕ × EntryPlace). may_move_from None e.1) all in
    let part = part_there blocks held moved of.front of.part of.back (sym of.all) (each_filter P (λ (e : ℕ × EntryPlace). may_move_from None e.1) all (each_there (entry_in blocks) all)) in
    subst (Each (IsItemOf x)) (sym (of.same ∙ ap (λ (now : Blocks). marked of.id of.mark (entries_item of.group (entries_in now of.part) ∷ put_items of.group of.pairs)) (sym are))) (tt, (part, values_there x of.group of.pairs))

-- It isn't refused for an index.

content_under : (held : List Entry) (c : Content) → ((e : Entry) → Contains held e → e.0 < 2 ^ 64 - 1) → AreOf held c → IsContentBelow (2 ^ 64 - 1) c
content_under held (Entries es) below are = each_map (λ (e : Entry). Contains held e) (λ (e : Entry). e.0 < 2 ^ 64 - 1) es below are
content_under held Clean below are = tt
content_under held (Compact index) below are = tt
content_under held (Put key value) below are = tt
content_under held (Delete key) below are = tt

not_greatest : (n : ℕ) → n < 2 ^ 64 - 1 → (n == 2 ^ 64 - 1) ≡ false
not_greatest n less = grind (arith, nat_tests)

none_greatest : (es : List Entry) → Each (λ (e : Entry). e.0 < 2 ^ 64 - 1) es → list_any (λ (e : Entry). e.0 == 2 ^ 64 - 1) es ≡ false
none_greatest [] each = refl
none_greatest (e ∷ es) each = ap (λ (b : Bool). b || list_any (λ (x : Entry). x.0 == 2 ^ 64 - 1) es) (not_greatest e.0 each.0) ∙ none_greatest es each.1

abbrev or_gap : Bool → Option Fault
or_gap fits = if fits then None else Some fault.Gap

gap_only : (great fits : Bool) → great ≡ false → (if great then Some fault.Range else or_gap fits) ≡ Some fault.Range → ⊥
gap_only true fits none is = absurd cc
gap_only false true none is = absurd cc
gap_only false false none is = absurd cc

content_not_range : (group : ℕ) (c : Content) → IsContentBelow (2 ^ 64 - 1) c → content_refusal no_contents group c ≡ Some fault.Range → ⊥
content_not_range group (Entries es) below is = gap_only (list_any (λ (e : Entry). e.0 == 2 ^ 64 - 1) es) (fits_behind [] es) (none_greatest es below) is
content_not_range group Clean below is = absurd cc
content_not_range group (Compact index) below is = absurd cc
content_not_range group (Put key value) below is = absurd cc
content_not_range group (Delete key) below is = absurd cc

second_of : (first second : Option Fault) → (first ≡ Some fault.Range → ⊥) → option_or first second ≡ Some fault.Range → second ≡ Some fault.Range
second_of None second not is = is
second_of (Some f) second not is = absurd (not is)

first_not_range : (batch : Batch) → AreItemsBelow (2 ^ 64 - 1) batch → first_refusal batch ≡ Some fault.Range → ⊥
first_not_range [] below is = absurd cc
first_not_range (item ∷ items) below is = first_not_range items below.1 (second_of (content_refusal no_contents item.group item.content) (first_refusal items) (content_not_range item.group item.content below.0) is)

batch_under : (x : Contents) (batch : Batch) → ((group : ℕ) (e : Entry) → Contains (x.entries group) e → e.0 < 2 ^ 64 - 1) → Each (IsItemOf x) batch → AreItemsBelow (2 ^ 64 - 1) batch
batch_under x [] below are = tt
batch_under x (item ∷ items) below are = (content_under (x.entries item.group) item.content (below item.group) are.0, batch_under x items below are.1)

-- Its bytes.

entries_len : (es : List Entry) → length (flat_map (λ (e : Entry). e.1) es) ≡ bytes_of_entries es
entries_len [] = refl
entries_len (e ∷ es) = length-append e.1 (flat_map (λ (x : Entry). x.1) es) ∙ ap (λ (n : ℕ). length e.1 + n) (entries_len es) ∙ sym (sum_by-cons (λ (n : ℕ). n) (length e.1) (map (λ (x : Entry). length x.1) es))

content_len : (c : Content) → length (entry_bytes_of c) ≤ item_bytes c
content_len (Entries es) = let same = entries_len es in omega (arith, same)
content_len Clean = omega arith
content_len (Compact index) = omega arith
content_len (Put key value) = omega arith
content_len (Delete key) = omega arith

held_len : (batch : Batch) → length (entry_bytes batch) ≤ bytes_held batch
held_len [] = omega arith
held_len (item ∷ items) =
    let all : length (entry_bytes (item ∷ items)) ≡ length (entry_bytes_of item.content) + length (entry_bytes items) = length-append (entry_bytes_of item.content) (entry_bytes items) in
    let whole : bytes_held (item ∷ items) ≡ bytes_held (item ∷ []) + bytes_held items = held_more (item ∷ []) items in
    let one = one_held item in
    let first = content_len item.content in
    let rest = held_len items in
    omega (arith, all, whole, one, first, rest)

values_len : (group : ℕ) (pairs : List (List ℕ × List ℕ)) → entry_bytes (put_items group pairs) ≡ []
values_len group [] = refl
values_len group (p ∷ pairs) = values_len group pairs

both_len : (a b : Batch) → length (entry_bytes (a ++ b)) ≡ length (entry_bytes a) + length (entry_bytes b)
both_len a b = ap length (flat_map-append (λ (i : Item). entry_bytes_of i.content) a b) ∙ length-append (entry_bytes a) (entry_bytes b)

behind_len : (earlier : Batch) (group : ℕ) (es : List Entry) → length (entry_bytes (with_entries_item (batch_of earlier) group es).items) ≤ bytes_held earlier + bytes_of_entries es
behind_len earlier group [] = let few = held_len earlier in omega (arith, few)
behind_len earlier group (e ∷ es) =
    let item : Item = record { group = group; content = Entries (e ∷ es) } in
    let few = held_len earlier in
    let all = both_len earlier (item ∷ []) in
    let one = held_len (item ∷ []) in
    let bytes : bytes_held (item ∷ []) ≡ bytes_of_entries (e ∷ es) = one_held item in
    omega (arith, few, all, one, bytes)

cut_len : (batch : Batch) (cut : IsCutBatch batch) → length (entry_bytes batch) ≤ bytes_held cut.earlier + bytes_of_entries cut.entries
cut_len batch cut =
    let begun = (with_entries_item (batch_of cut.earlier) cut.group cut.entries).items in
    let all = ap (λ (b : Batch). length (entry_bytes b)) cut.same ∙ both_len begun (put_items cut.group cut.pairs) in
    let none : length (entry_bytes (put_items cut.group cut.pairs)) ≡ 0 = ap length (values_len cut.group cut.pairs) in
    let few = behind_len cut.earlier cut.group cut.entries in
    omega (arith, all, none, few)

-- many bytes, of which few stand before the last entry
last_long : (es : List Entry) (before : ℕ) → before + bytes_of_entries (take (length es - 1) es) ≤ 131072 → 2 ^ 32 ≤ before + bytes_of_entries es → (e : Entry) × Contains es e × (2 ^ 32 ≤ length e.1 + 131072)
last_long [] before few many = absurd (let none : bytes_of_entries [] ≡ 0 = refl in omega (arith, few, many, none))
last_long (e ∷ []) before few many =
    let bytes = sum_by-cons (λ (n : ℕ). n) (length e.1) [] in
    (e, Contains-head e [], omega (arith, few, many, bytes))
last_long (e ∷ (f ∷ es)) before few many =
    let len_of : Entry → ℕ = λ x. length x.1 in
    let all : bytes_of_entries (e ∷ (f ∷ es)) ≡ length e.1 + bytes_of_entries (f ∷ es) = sum_by-cons (λ (n : ℕ). n) (length e.1) (map len_of (f ∷ es)) in
    let one_less : length (e ∷ (f ∷ es)) - 1 ≡ suc (length (f ∷ es) - 1) = omega arith in
    let front = take (length (f ∷ es) - 1) (f ∷ es) in
    let before_last : bytes_of_entries (take (length (e ∷ (f ∷ es)) - 1) (e ∷ (f ∷ es))) ≡ length e.1 + bytes_of_entries front = ap (λ (n : ℕ). bytes_of_entries (take n (e ∷ (f ∷ es)))) one_less ∙ sum_by-cons (λ (n : ℕ). n) (length e.1) (map len_of front) in
    let rest = last_long (f ∷ es) (before + length e.1) (omega (arith, few, before_last)) (omega (arith, many, all)) in
    (rest.0, Contains-tail e (f ∷ es) rest.0 rest.1, rest.2)

-- the last group's entries are the contents'
cut_entries : (x : Contents) (earlier : Batch) (group : ℕ) (es : List Entry) → Each (IsItemOf x) (with_entries_item (batch_of earlier) group es).items → Each (λ (e : Entry). Contains (x.entries group) e) es
cut_entries x earlier group [] are = tt
cut_entries x earlier group (e ∷ es) are = (each_right (IsItemOf x) earlier (record { group = group; content = Entries (e ∷ es) } ∷ []) are).0

long_by : (n bound : ℕ) → (if nat_le bound n then Some fault.Range else None) ≡ Some fault.Range → bound ≤ n
long_by n bound = by_test (nat_le bound n) refl
  where
    by_test : (long : Bool) → nat_le bound n ≡ long → (if long then Some fault.Range else None) ≡ Some fault.Range → bound ≤ n
    by_test true test is = grind (arith, nat_tests)
    by_test false test is = absurd cc

great_entry : (x : Contents) (batch : Batch) → IsCutBatch batch → Each (IsItemOf x) batch → 2 ^ 32 ≤ length (entry_bytes batch) → HasGreatEntry x
great_entry x batch cut are many =
    let few = cut_len batch cut in
    let long = last_long cut.entries (bytes_held cut.earlier) cut.within (omega (arith, few, many)) in
    let begun = (with_entries_item (batch_of cut.earlier) cut.group cut.entries).items in
    let each = cut_entries x cut.earlier cut.group cut.entries (each_left (IsItemOf x) begun (put_items cut.group cut.pairs) (subst (Each (IsItemOf x)) cut.same are)) in
    (cut.group, long.0, each_contained (λ (e : Entry). Contains (x.entries cut.group) e) cut.entries long.0 each long.1, long.2)

great_of : (x : Contents) (batch : Batch) → IsFromLogOf x batch → Each (IsItemOf x) batch → ((group : ℕ) (e : Entry) → Contains (x.entries group) e → e.0 < 2 ^ 64 - 1) → HasNoRecordIn batch fault.Range → HasGreatEntry x ⊎ HasGreatRecord x
great_of x batch from are below (inl none) = inr (batch, from, long_by (length (record_bytes None batch)) (2 ^ 56) (second_of (first_refusal batch) (length_refusal batch) (first_not_range batch (batch_under x batch below are)) none))
great_of x batch from are below (inr long) = inl (great_entry x batch from.cut are (long_by (length (entry_bytes batch)) (2 ^ 32) long))

pub great_part : (x : Contents) → HasTooGreat x → HasGreatEntry x ⊎ HasGreatRecord x
great_part x (batch, from, none) =
    let s = from.log in
    let v = from.value in
    let now = both_blocks_now s.pipes s.files in
    let contents = log_contents s v from.holds ∙ from.contents in
    let are = subst (λ (m : Contents). Each (IsItemOf m) batch) contents (from_there s now batch refl (λ watermark was. was.same now (log_has s v from.holds)) from.from) in
    let below : (group : ℕ) (e : Entry) → Contains (x.entries group) e → e.0 < 2 ^ 64 - 1 = subst (λ (m : Contents). (group : ℕ) (e : Entry) → Contains (m.entries group) e → e.0 < 2 ^ 64 - 1) from.contents (log_below s v from.holds) in
    great_of x batch from are below none
