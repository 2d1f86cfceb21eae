-- Answers, one part at a time.
use Rattle.std.proofs.Common.{◌≡◌, ◌∙◌, ◌+◌, ◌<◌, ℕ, List, [], ◌∷◌, ◌++◌, length, map, take, get_or, refl, sym, ap, append_assoc, append-nil}
use Rattle.std.proofs.lemmas.List.{map-append, take_more}
use Rattle.raft_codec.specs.Number.{u64_bytes}
use Rattle.raft_records.specs.Item.{Entry}
use Rattle.raft_c_batch.specs.Batch.{entries_bytes, part_bytes, stored_of}
use Rattle.raft_c_batch.specs.declared.entry.Entry.{Entry as StoredEntry}
use Rattle.raft_c_batch.specs.Parts.{numbers_bytes}

entries_append : (xs ys : List Entry) → entries_bytes (xs ++ ys) ≡ entries_bytes xs ++ entries_bytes ys
entries_append [] ys = refl
entries_append (x ∷ xs) ys =
    ap (λ (b : List ℕ). part_bytes x.1 ++ b) (entries_append xs ys)
    ∙ sym (append_assoc (part_bytes x.1) (entries_bytes xs) (entries_bytes ys))

pub entries_more : (es : List StoredEntry) (i : ℕ) (e : StoredEntry) → i < length es → e ≡ get_or es i e
    → entries_bytes (map stored_of (take (i + 1) es)) ≡ entries_bytes (map stored_of (take i es)) ++ part_bytes e.bytes.items
entries_more es i e within is =
    let more : take (i + 1) es ≡ take i es ++ e ∷ [] = take_more es i e within ∙ ap (λ (x : StoredEntry). take i es ++ x ∷ []) (sym is) in
    let front = map stored_of (take i es) in
    ap (λ (l : List StoredEntry). entries_bytes (map stored_of l)) more
    ∙ (ap entries_bytes (map-append stored_of (take i es) (e ∷ []))
    ∙ (entries_append front (stored_of e ∷ [])
    ∙ ap (λ (b : List ℕ). entries_bytes front ++ b) (append-nil (part_bytes e.bytes.items))))

numbers_append : (xs ys : List ℕ) → numbers_bytes (xs ++ ys) ≡ numbers_bytes xs ++ numbers_bytes ys
numbers_append [] ys = refl
numbers_append (x ∷ xs) ys =
    ap (λ (b : List ℕ). u64_bytes x ++ b) (numbers_append xs ys)
    ∙ sym (append_assoc (u64_bytes x) (numbers_bytes xs) (numbers_bytes ys))

pub numbers_more : (ns : List ℕ) (i n : ℕ) → i < length ns → n ≡ get_or ns i n
    → numbers_bytes (take (i + 1) ns) ≡ numbers_bytes (take i ns) ++ u64_bytes n
numbers_more ns i n within is =
    let more : take (i + 1) ns ≡ take i ns ++ n ∷ [] = take_more ns i n within ∙ ap (λ (x : ℕ). take i ns ++ x ∷ []) (sym is) in
    ap numbers_bytes more
    ∙ (numbers_append (take i ns) (n ∷ [])
    ∙ ap (λ (b : List ℕ). numbers_bytes (take i ns) ++ b) (append-nil (u64_bytes n)))
