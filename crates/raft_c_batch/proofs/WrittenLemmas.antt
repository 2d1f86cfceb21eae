-- Bytes of batches, read as what they are of.
use Rattle.std.proofs.Common.{◌≡◌, ◌∙◌, ◌^◌, ◌<◌, ℕ, suc, List, [], ◌∷◌, ◌++◌, length, Some, true, false, nat_eq, arith, refl, sym, ap, append_assoc, append-nil, length-append}
use Rattle.std.specs.Prelude.{nat_le}
use Rattle.std.specs.List.{AllByRecursion}
use Rattle.std.proofs.lemmas.Bool.Decides.{nat_tests}
use Rattle.std.proofs.Math.Seq.{take-append_seam, drop-append_seam}
use Rattle.raft_codec.specs.Number.{u64_bytes, take_u64}
use Rattle.raft_codec.proofs.NumberLemmas.{take_u64-u64_bytes}
use Rattle.raft_records.specs.Item.{Entry, Content, Entries, Clean, Compact, Put, Delete, Item, Batch}
use Rattle.raft_records.specs.Record.{take_bytes}
use Rattle.raft_c_batch.specs.Batch.{IsGivenBatch, IsGivenContent, IsGivenEntry, IsGivenItem, batch_bytes, content_bytes, entries_bytes, item_bytes, items_bytes, kind_of, part_bytes, read_batch, take_content, take_each, take_item, take_items, take_part}

number_ahead : (n : ℕ) (bytes rest : List ℕ) → n < 2 ^ 64 → bytes ≡ u64_bytes n ++ rest → take_u64 bytes ≡ Some (n, rest)
number_ahead n bytes rest fits split = rw split (take_u64-u64_bytes n rest fits)

bytes_ahead : (part rest : List ℕ) → take_bytes (length part) (part ++ rest) ≡ Some (part, rest)
bytes_ahead part rest =
    let long : nat_le (length part) (length (part ++ rest)) ≡ true = simp length-append (grind (arith, nat_tests)) in
    rw (long, take-append_seam part rest, drop-append_seam part rest) refl

part_ahead : (part rest : List ℕ) → length part < 2 ^ 64 → take_part (part_bytes part ++ rest) ≡ Some (part, rest)
part_ahead part rest fits =
    let number = number_ahead (length part) (part_bytes part ++ rest) (part ++ rest) fits (append_assoc (u64_bytes (length part)) part rest) in
    rw number (bytes_ahead part rest)

entries_ahead : (es : List Entry) (rest : List ℕ) → AllByRecursion IsGivenEntry es
    → take_each (length es) (entries_bytes es ++ rest) ≡ Some (es, rest)
unfolding take_each
entries_ahead [] rest given = refl
entries_ahead (e ∷ es) rest given =
    let split = append_assoc (part_bytes e.1) (entries_bytes es) rest in
    rw (split, part_ahead e.1 (entries_bytes es ++ rest) given.0.0, given.0.1, entries_ahead es rest given.1) refl

content_ahead : (content : Content) (rest : List ℕ) → IsGivenContent content
    → take_content (kind_of content) (content_bytes content ++ rest) ≡ Some (content, rest)
content_ahead (Put key value) rest given =
    rw (append_assoc (part_bytes key) (part_bytes value) rest, part_ahead key (part_bytes value ++ rest) given.0, part_ahead value rest given.1) refl
content_ahead (Delete key) rest given = rw (part_ahead key rest given) refl
content_ahead (Entries []) rest given = absurd given
content_ahead (Entries (e ∷ es)) rest given =
    let count = length (e ∷ es) in
    let number = number_ahead count (content_bytes (Entries (e ∷ es)) ++ rest) (entries_bytes (e ∷ es) ++ rest) given.0 (append_assoc (u64_bytes count) (entries_bytes (e ∷ es)) rest) in
    let some : nat_eq count 0 ≡ false = grind (arith, nat_tests) in
    rw (number, some, entries_ahead (e ∷ es) rest given.1) refl
content_ahead Clean rest given = refl
content_ahead (Compact index) rest given = rw (take_u64-u64_bytes index rest given) refl

item_ahead : (item : Item) (rest : List ℕ) → IsGivenItem item → take_item (item_bytes item ++ rest) ≡ Some (item, rest)
item_ahead item rest given =
    let split = append_assoc (u64_bytes item.group) (content_bytes item.content) rest in
    let number = number_ahead item.group ((u64_bytes item.group ++ content_bytes item.content) ++ rest) (content_bytes item.content ++ rest) given.0 split in
    rw (number, content_ahead item.content rest given.1) refl

next_items : (n : ℕ) (bytes tail rest : List ℕ) (item : Item) (items : Batch) → take_item bytes ≡ Some (item, tail)
    → take_items n tail ≡ Some (items, rest) → take_items (suc n) bytes ≡ Some (item ∷ items, rest)
unfolding take_items
next_items n bytes tail rest item items one more = rw (one, more) refl

items_ahead : (items : Batch) (rest : List ℕ) → AllByRecursion IsGivenItem items
    → take_items (length items) (items_bytes items ++ rest) ≡ Some (items, rest)
unfolding take_items
items_ahead [] rest given = refl
items_ahead (item ∷ items) rest given =
    let more = items_bytes items ++ rest in
    ap (take_items (suc (length items))) (append_assoc (item_bytes item) (items_bytes items) rest)
    ∙ next_items (length items) (item_bytes item ++ more) more rest item items (item_ahead item more given.0) (items_ahead items rest given.1)

pub batch_read : (items : Batch) → IsGivenBatch items → read_batch (batch_bytes items) ≡ Some items
batch_read items given =
    let number = take_u64-u64_bytes (length items) (items_bytes items) given.0 in
    let all : take_items (length items) (items_bytes items) ≡ Some (items, []) =
    ap (take_items (length items)) (sym (append-nil (items_bytes items))) ∙ items_ahead items [] given.1 in
    rw (number, all) refl
