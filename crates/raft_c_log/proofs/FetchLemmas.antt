-- Entries that were fetched, as bytes.
use Rattle.std.proofs.Common.{◌≡◌, ◌∙◌, ℕ, List, [], ◌∷◌, ◌++◌, length, map, Option, Some, refl, ap}
use Rattle.std.specs.List.{AllZip}
use Rattle.raft_records.specs.Contents.{Contents}
use Rattle.raft_records.specs.Item.{Entry}
use Rattle.raft_c_batch.specs.Batch.{entries_bytes, index_in, stored_of}
use Rattle.raft_c_batch.specs.declared.entry.Entry.{Entry as StoredEntry}
use Rattle.raft_log_engine.specs.Reads.{IsEntryOf, IsFetchOf, entries_to_fetch}
use Rattle.raft_c_log.specs.Calls.{IsFetchAnswer}
use Rattle.raft_c_log.specs.Limit.{max_of}
use Rattle.raft_c_log.specs.declared.calls.Fetch.{Fetch}

abbrev IsParsed : List ℕ → StoredEntry → Type 0
IsParsed bytes e = (e.bytes.items ≡ bytes) × (index_in bytes ≡ Some e.index)

abbrev index_of : StoredEntry → ℕ
index_of e = e.index

stored_all : (entries : List Entry) (read : List StoredEntry) → AllZip (IsEntryOf IsParsed index_of) entries read → map stored_of read ≡ entries
stored_all [] [] all = refl
stored_all [] (r ∷ rs) all = absurd all
stored_all (e ∷ es) [] all = absurd all
stored_all (e ∷ es) (r ∷ rs) all = λ i. (all.0.1 i, all.0.0.0 i) ∷ stored_all es rs all.1 i

pub fetch_answer : (fetch : Fetch) (m : Contents) (max : Option ℕ) → max ≡ max_of fetch.max_size
    → (old read : List StoredEntry) → old ≡ [] → (answer : ℕ) → IsFetchOf IsParsed index_of m fetch.group fetch.begin fetch.end max old read answer
    → (front bytes : List ℕ) → front ≡ [] → (lent : List StoredEntry) → lent ≡ read → bytes ≡ front ++ entries_bytes (map stored_of lent)
    → IsFetchAnswer fetch m bytes
fetch_answer fetch m max bound old read empty answer met front bytes none lent same are =
    let is : bytes ≡ entries_bytes (map stored_of read) = are ∙ (λ i. none i ++ entries_bytes (map stored_of (same i))) in
    record {
      without = λ without. is ∙ ap (λ (es : List StoredEntry). entries_bytes (map stored_of es)) ((met.without without).0 ∙ empty);
      fetched = λ some. let got = met.fetched some in (
        got.0,
        is
            ∙ ap (λ (es : List StoredEntry). entries_bytes (map stored_of es)) (got.1.list ∙ ap (λ (es : List StoredEntry). es ++ got.1.read) empty)
            ∙ ap entries_bytes (stored_all _ got.1.read got.1.each)
            ∙ ap (λ (x : Option ℕ). entries_bytes (entries_to_fetch length fetch.begin fetch.end x (m.entries fetch.group))) bound,
      );
    }
