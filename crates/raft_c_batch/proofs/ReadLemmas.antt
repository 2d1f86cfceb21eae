-- What is read as a batch, written again.
use Rattle.std.proofs.Common.{◌≡◌, ◌∙◌, ◌^◌, ◌<◌, ◌≤◌, ℕ, zero, suc, Bool, List, [], ◌∷◌, ◌++◌, length, take, drop, Option, Some, None, option_and_then, option_map, inl, inr, false, true, nat_eq, arith, refl, sym, ap, subst, append_assoc, append-nil}
use Rattle.std.specs.Prelude.{◌==◌, nat_le, if◌then◌else◌}
use Rattle.std.specs.List.{AllByRecursion}
use Rattle.std.proofs.lemmas.Bool.{leb-true, cases_eq}
use Rattle.std.proofs.lemmas.Bool.Decides.{nat_tests}
use Rattle.std.proofs.lemmas.List.{take-append-drop, length-take-le}
use Rattle.std.proofs.lemmas.Option.{option_and_then_some, cond_some, none-some, same_Some}
use Rattle.raft_codec.specs.Number.{AreBytes, u64_bytes, take_u64}
use Rattle.raft_codec.proofs.NumberLemmas.{AreBytes-append_right, u64_bytes_from_taken}
use Rattle.raft_records.specs.Item.{Entry, Content, Entries, Clean, Compact, Put, Delete, Item, Batch}
use Rattle.raft_records.specs.Record.{take_bytes}
use Rattle.raft_c_batch.specs.Batch.{IsGivenBatch, IsGivenContent, IsGivenEntry, IsGivenItem, all_items, batch_bytes, content_bytes, entries_bytes, index_in, item_bytes, items_bytes, kind_of, part_bytes, read_batch, take_compact, take_content, take_delete, take_each, take_entries, take_entry, take_item, take_items, take_part, take_put}

pub map_some : {A B P : Type 0} (h : A → B) (o : Option A) (y : B) → option_map h o ≡ Some y → ((x : A) → o ≡ Some x → h x ≡ y → P) → P
map_some h None y made then_follows = absurd (none-some y made)
map_some h (Some x) y made then_follows = then_follows x refl (same_Some (h x) y made)

-- what stands in front of the rest
abbrev IsSplit : List ℕ → List ℕ → List ℕ → Type 0
IsSplit bytes front rest = (bytes ≡ front ++ rest) × AreBytes rest

split_of : (bytes front rest : List ℕ) → AreBytes bytes → bytes ≡ front ++ rest → IsSplit bytes front rest
split_of bytes front rest are split = (split, AreBytes-append_right front rest (subst AreBytes split are))

-- one part behind another
joined : (bytes front middle next rest : List ℕ) → IsSplit bytes front next → IsSplit next middle rest → IsSplit bytes (front ++ middle) rest
joined bytes front middle next rest first second =
    (first.0 ∙ ap (λ (n : List ℕ). front ++ n) second.0 ∙ sym (append_assoc front middle rest), second.1)

number_split : (bytes rest : List ℕ) (n : ℕ) → AreBytes bytes → take_u64 bytes ≡ Some (n, rest) → (n < 2 ^ 64) × IsSplit bytes (u64_bytes n) rest
number_split bytes rest n are taken =
    let whole = u64_bytes_from_taken bytes rest n are taken in
    (whole.0, split_of bytes (u64_bytes n) rest are whole.1)

cut_split : (n : ℕ) (bytes part rest : List ℕ) → AreBytes bytes → take_bytes n bytes ≡ Some (part, rest) → (length part ≡ n) × IsSplit bytes part rest
cut_split n bytes part rest are taken =
    let kept = cond_some (nat_le n (length bytes)) (take n bytes, drop n bytes) (part, rest) taken in
    let long : n ≤ length bytes = leb-true n (length bytes) kept.0 in
    subst (λ (p : List ℕ × List ℕ). (length p.0 ≡ n) × IsSplit bytes p.0 p.1) kept.1
    (length-take-le n bytes long, split_of bytes (take n bytes) (drop n bytes) are (sym (take-append-drop n bytes)))

part_split : (bytes part rest : List ℕ) → AreBytes bytes → take_part bytes ≡ Some (part, rest) → (length part < 2 ^ 64) × IsSplit bytes (part_bytes part) rest
part_split bytes part rest are taken =
    option_and_then_some (λ (n : ℕ × List ℕ). take_bytes n.0 n.1) (take_u64 bytes) (part, rest) taken (λ n counted cut.
    let number = number_split bytes n.1 n.0 are counted in
    let after = cut_split n.0 n.1 part rest number.1.1 cut in
    let fits : length part < 2 ^ 64 = subst (λ (len : ℕ). len < 2 ^ 64) (sym after.0) number.0 in
    let sized : IsSplit bytes (u64_bytes (length part)) n.1 = subst (λ (len : ℕ). IsSplit bytes (u64_bytes len) n.1) (sym after.0) number.1 in
    (fits, joined bytes (u64_bytes (length part)) part n.1 rest sized after.1))

abbrev IsEntrySplit : List ℕ → Entry × List ℕ → Type 0
IsEntrySplit bytes r = IsGivenEntry r.0 × IsSplit bytes (part_bytes r.0.1) r.1

entry_split : (bytes : List ℕ) (r : Entry × List ℕ) → AreBytes bytes → take_entry bytes ≡ Some r → IsEntrySplit bytes r
entry_split bytes r are taken =
    option_and_then_some (λ (p : List ℕ × List ℕ). option_map {U = Entry × List ℕ} (λ (i : ℕ). ((i, p.0), p.1)) (index_in p.0)) (take_part bytes) r taken (λ p parted indexed.
    map_some {B = Entry × List ℕ} (λ (i : ℕ). ((i, p.0), p.1)) (index_in p.0) r indexed (λ i is same.
    let part = part_split bytes p.0 p.1 are parted in
    subst (IsEntrySplit bytes) same ((part.0, is), part.1)))

abbrev AreEntriesSplit : ℕ → List ℕ → List Entry × List ℕ → Type 0
AreEntriesSplit n bytes r = (length r.0 ≡ n) × AllByRecursion IsGivenEntry r.0 × IsSplit bytes (entries_bytes r.0) r.1

entries_split : (n : ℕ) (bytes : List ℕ) (r : List Entry × List ℕ) → AreBytes bytes → take_each n bytes ≡ Some r → AreEntriesSplit n bytes r
unfolding take_each
entries_split zero bytes r are taken =
    subst (AreEntriesSplit 0 bytes) (same_Some ([], bytes) r taken) (refl, tt, (refl, are))
entries_split (suc n) bytes r are taken =
    option_and_then_some (λ (e : Entry × List ℕ). option_map (λ (es : List Entry × List ℕ). (e.0 ∷ es.0, es.1)) (take_each n e.1)) (take_entry bytes) r taken (λ e first others_taken.
    map_some (λ (es : List Entry × List ℕ). (e.0 ∷ es.0, es.1)) (take_each n e.1) r others_taken (λ es others same.
    let one = entry_split bytes e are first in
    let more = entries_split n e.1 es one.1.1 others in
    subst (AreEntriesSplit (suc n) bytes) same
    (ap suc more.0, (one.0, more.1), joined bytes (part_bytes e.0.1) (entries_bytes es.0) e.1 es.1 one.1 more.2)))

abbrev IsContentSplit : ℕ → List ℕ → Content × List ℕ → Type 0
IsContentSplit kind bytes r = (kind ≡ kind_of r.0) × IsGivenContent r.0 × IsSplit bytes (content_bytes r.0) r.1

put_split : (bytes : List ℕ) (r : Content × List ℕ) → AreBytes bytes → take_put bytes ≡ Some r → IsContentSplit 1 bytes r
put_split bytes r are taken =
    option_and_then_some (λ (key : List ℕ × List ℕ). option_map (λ (value : List ℕ × List ℕ). (Put key.0 value.0, value.1)) (take_part key.1)) (take_part bytes) r taken (λ key first more.
    map_some (λ (value : List ℕ × List ℕ). (Put key.0 value.0, value.1)) (take_part key.1) r more (λ value second same.
    let k = part_split bytes key.0 key.1 are first in
    let v = part_split key.1 value.0 value.1 k.1.1 second in
    subst (IsContentSplit 1 bytes) same (refl, (k.0, v.0), joined bytes (part_bytes key.0) (part_bytes value.0) key.1 value.1 k.1 v.1)))

delete_split : (bytes : List ℕ) (r : Content × List ℕ) → AreBytes bytes → take_delete bytes ≡ Some r → IsContentSplit 2 bytes r
delete_split bytes r are taken =
    map_some (λ (key : List ℕ × List ℕ). (Delete key.0, key.1)) (take_part bytes) r taken (λ key first same.
    let k = part_split bytes key.0 key.1 are first in
    subst (IsContentSplit 2 bytes) same (refl, k.0, k.1))

-- entries that aren't none
given_entries : (es : List Entry) (n : ℕ) → length es ≡ n → nat_eq n 0 ≡ false → n < 2 ^ 64 → AllByRecursion IsGivenEntry es → IsGivenContent (Entries es)
given_entries [] n counted some fits given = absurd (grind (arith, nat_tests, counted, some))
given_entries (e ∷ es) n counted some fits given = (subst (λ (m : ℕ). m < 2 ^ 64) (sym counted) fits, given)

entries_content_split : (bytes : List ℕ) (r : Content × List ℕ) → AreBytes bytes → take_entries bytes ≡ Some r → IsContentSplit 3 bytes r
entries_content_split bytes r are taken =
    option_and_then_some (λ (n : ℕ × List ℕ). if n.0 == 0 then None else option_map (λ (es : List Entry × List ℕ). (Entries es.0, es.1)) (take_each n.0 n.1)) (take_u64 bytes) r taken (λ n counted more.
    some_split n counted (nat_eq n.0 0) refl more)
  where
    some_split : (n : ℕ × List ℕ) → take_u64 bytes ≡ Some n → (none : Bool) → nat_eq n.0 0 ≡ none
        → (if none then None else option_map (λ (es : List Entry × List ℕ). (Entries es.0, es.1)) (take_each n.0 n.1)) ≡ Some r → IsContentSplit 3 bytes r
    some_split n counted true is made = absurd (none-some r made)
    some_split n counted false is made =
        map_some (λ (es : List Entry × List ℕ). (Entries es.0, es.1)) (take_each n.0 n.1) r made (λ es read same.
        let number = number_split bytes n.1 n.0 are counted in
        let all = entries_split n.0 n.1 es number.1.1 read in
        let sized : IsSplit bytes (u64_bytes (length es.0)) n.1 = subst (λ (len : ℕ). IsSplit bytes (u64_bytes len) n.1) (sym all.0) number.1 in
        subst (IsContentSplit 3 bytes) same
        (refl, given_entries es.0 n.0 all.0 is number.0 all.1, joined bytes (u64_bytes (length es.0)) (entries_bytes es.0) n.1 es.1 sized all.2))

compact_split : (bytes : List ℕ) (r : Content × List ℕ) → AreBytes bytes → take_compact bytes ≡ Some r → IsContentSplit 5 bytes r
compact_split bytes r are taken =
    map_some (λ (index : ℕ × List ℕ). (Compact index.0, index.1)) (take_u64 bytes) r taken (λ index first same.
    let number = number_split bytes index.1 index.0 are first in
    subst (IsContentSplit 5 bytes) same (refl, number.0, number.1))

clean_split : (bytes : List ℕ) (r : Content × List ℕ) → AreBytes bytes → Some (Clean, bytes) ≡ Some r → IsContentSplit 4 bytes r
clean_split bytes r are taken = subst (IsContentSplit 4 bytes) (same_Some (Clean, bytes) r taken) (refl, tt, (refl, are))

-- a content of any kind
content_split : (kind : ℕ) (bytes : List ℕ) (r : Content × List ℕ) → AreBytes bytes → take_content kind bytes ≡ Some r → IsContentSplit kind bytes r
content_split kind bytes r are taken =
    of_kind 1 (put_split bytes r are) (λ not_put.
    of_kind 2 (delete_split bytes r are) (λ not_delete.
    of_kind 3 (entries_content_split bytes r are) (λ not_entries.
    of_kind 4 (clean_split bytes r are) (λ not_clean.
    of_kind 5 (compact_split bytes r are) (λ not_compact.
    let none : take_content kind bytes ≡ None = grind (arith, nat_tests, not_put, not_delete, not_entries, not_clean, not_compact) in
    absurd (none-some r (sym none ∙ taken)))))))
  where
    of_kind : (k : ℕ) → (take_content k bytes ≡ Some r → IsContentSplit k bytes r) → ((kind ≡ k → ⊥) → IsContentSplit kind bytes r) → IsContentSplit kind bytes r
    of_kind k this others =
        elim (cases_eq kind k) [
          | inl same ↦ subst (λ (x : ℕ). IsContentSplit x bytes r) (sym same) (this (subst (λ (x : ℕ). take_content x bytes ≡ Some r) same taken))
          | inr different ↦ others different
        ]

abbrev IsItemSplit : List ℕ → Item × List ℕ → Type 0
IsItemSplit bytes r = IsGivenItem r.0 × IsSplit bytes (item_bytes r.0) r.1

item_split : (bytes : List ℕ) (r : Item × List ℕ) → AreBytes bytes → take_item bytes ≡ Some r → IsItemSplit bytes r
item_split [] r are taken = absurd (none-some r taken)
item_split (kind ∷ bytes) r are taken =
    option_and_then_some (λ (group : ℕ × List ℕ). option_map {U = Item × List ℕ} (λ (c : Content × List ℕ). (record { group = group.0; content = c.0 }, c.1)) (take_content kind group.1)) (take_u64 bytes) r taken (λ group first more.
    map_some {B = Item × List ℕ} (λ (c : Content × List ℕ). (record { group = group.0; content = c.0 }, c.1)) (take_content kind group.1) r more (λ c read same.
    let number = number_split bytes group.1 group.0 (AreBytes-append_right (kind ∷ []) bytes are) first in
    let content = content_split kind group.1 c number.1.1 read in
    let tail = joined bytes (u64_bytes group.0) (content_bytes c.0) group.1 c.1 number.1 content.2 in
    let whole : kind ∷ bytes ≡ (kind_of c.0 ∷ u64_bytes group.0 ++ content_bytes c.0) ++ c.1 =
    ap (λ (b : List ℕ). kind ∷ b) tail.0 ∙ ap (λ (k : ℕ). k ∷ ((u64_bytes group.0 ++ content_bytes c.0) ++ c.1)) content.0 in
    subst (IsItemSplit (kind ∷ bytes)) same ((number.0, content.1), (whole, tail.1))))

abbrev AreItemsSplit : ℕ → List ℕ → Batch × List ℕ → Type 0
AreItemsSplit n bytes r = (length r.0 ≡ n) × AllByRecursion IsGivenItem r.0 × IsSplit bytes (items_bytes r.0) r.1

items_split : (n : ℕ) (bytes : List ℕ) (r : Batch × List ℕ) → AreBytes bytes → take_items n bytes ≡ Some r → AreItemsSplit n bytes r
unfolding take_items
items_split zero bytes r are taken =
    subst (AreItemsSplit 0 bytes) (same_Some ([], bytes) r taken) (refl, tt, (refl, are))
items_split (suc n) bytes r are taken =
    option_and_then_some (λ (i : Item × List ℕ). option_map (λ (is : Batch × List ℕ). (i.0 ∷ is.0, is.1)) (take_items n i.1)) (take_item bytes) r taken (λ i first others_taken.
    map_some (λ (is : Batch × List ℕ). (i.0 ∷ is.0, is.1)) (take_items n i.1) r others_taken (λ is others same.
    let one = item_split bytes i are first in
    let more = items_split n i.1 is one.1.1 others in
    subst (AreItemsSplit (suc n) bytes) same
    (ap suc more.0, (one.0, more.1), joined bytes (item_bytes i.0) (items_bytes is.0) i.1 is.1 one.1 more.2)))

-- items that fill the bytes
all_taken : (r : Batch × List ℕ) (items : Batch) → all_items r ≡ Some items → r ≡ (items, [])
all_taken (is, []) items all = ap (λ (x : Batch). (x, [])) (same_Some is items all)
all_taken (is, b ∷ bs) items all = absurd (none-some items all)

pub batch_written : (bytes : List ℕ) (items : Batch) → AreBytes bytes → read_batch bytes ≡ Some items → (bytes ≡ batch_bytes items) × IsGivenBatch items
batch_written bytes items are taken =
    option_and_then_some (λ (n : ℕ × List ℕ). option_and_then all_items (take_items n.0 n.1)) (take_u64 bytes) items taken (λ n counted more.
    option_and_then_some all_items (take_items n.0 n.1) items more (λ r read all.
    let number = number_split bytes n.1 n.0 are counted in
    let same = all_taken r items all in
    let split = subst (AreItemsSplit n.0 n.1) same (items_split n.0 n.1 r number.1.1 read) in
    let sized : bytes ≡ u64_bytes (length items) ++ n.1 = subst (λ (len : ℕ). bytes ≡ u64_bytes len ++ n.1) (sym split.0) number.1.0 in
    let rest : n.1 ≡ items_bytes items = split.2.0 ∙ append-nil (items_bytes items) in (
      sized ∙ ap (λ (b : List ℕ). u64_bytes (length items) ++ b) rest,
      (subst (λ (len : ℕ). len < 2 ^ 64) (sym split.0) number.0, split.1),
    )))
