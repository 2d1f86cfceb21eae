-- Entries by their places, and what stands there.
use Rattle.std.proofs.Common.{◌≡◌, ◌∙◌, ◌+◌, inl, inr, ℕ, Bool, true, false, List, [], ◌∷◌, Option, Some, None, ap, arith, drop, length, length-drop, sym, refl}
use Rattle.std.proofs.lemmas.Bool.{and_parts, cases_Bool, leb-true}
use Rattle.std.proofs.lemmas.List.{length-take-le}
use Rattle.std.specs.List.{list_all}
use Rattle.std.specs.Prelude.{is_none, is_some, nat_le}
use Rattle.std.specs.Map.{lookup}
use Rattle.raft_records.specs.Contents.{first_index_of, last_index_of}
use Rattle.raft_records.specs.ItemBatch.{block_refusal, is_readable_at}
use Rattle.raft_records.specs.Places.{Blocks, bytes_in, entries_in}
use Rattle.raft_tables.specs.Table.{StoredValue, TableView, value_at}
use Rattle.raft_tables.specs.Tables.{Tables, contents_in, or_empty}
use Rattle.raft_log_engine.specs.Image.{IsWithout}
use Rattle.std.specs.Option.{option_map}
use Rattle.raft_records.specs.declared.entry_index.EntryPlace.{EntryPlace}

pub first_index_of-entries_in : (blocks : Blocks) (es : List (ℕ × EntryPlace)) → first_index_of (entries_in blocks es) ≡ first_index_of es
first_index_of-entries_in blocks [] = refl
first_index_of-entries_in blocks (e ∷ es) = refl

pub last_index_of-entries_in : (blocks : Blocks) (es : List (ℕ × EntryPlace)) → last_index_of (entries_in blocks es) ≡ last_index_of es
last_index_of-entries_in blocks [] = refl
last_index_of-entries_in blocks (e ∷ []) = refl
last_index_of-entries_in blocks (e ∷ (f ∷ es)) = last_index_of-entries_in blocks (f ∷ es)

-- what holds of each value holds of the one that is found
pub found_holds : {X : Type 0} (holds : X → Bool) (test : ℕ → Bool) (es : List (ℕ × X)) (x : X) → list_all (λ e. holds e.1) es ≡ true → lookup test es ≡ Some x → holds x ≡ true
found_holds holds test [] x all found = absurd cc
found_holds {X} holds test (e ∷ es) x all found =
    elim (cases_Bool (holds e.1)) [
      | inl is ↦
          let rest : list_all (λ (f : ℕ × X). holds f.1) es ≡ true = rw is at all in
          elim (cases_Bool (test e.0)) [
            | inl here ↦ let same : Some e.1 ≡ Some x = rw here at found in let one : e.1 ≡ x = cc in ap holds (sym one) ∙ is
            | inr other ↦ found_holds holds test es x rest (rw other at found)
          ]
      | inr is ↦ let none : false ≡ true = rw is at all in absurd cc
    ]

-- of a place that can be read stand as many bytes as it says
pub length-bytes_in : (blocks : Blocks) (place : EntryPlace) → is_readable_at blocks place ≡ true → length (bytes_in blocks place) ≡ place.len
length-bytes_in blocks place readable =
    let block = blocks place.block in
    let parts = and_parts (is_none (block_refusal block place.lz4)) (nat_le (place.offset + place.len) (length block)) readable in
    let within = leb-true (place.offset + place.len) (length block) parts.1 in
    length-take-le place.len (drop place.offset block) (omega (arith, within, length-drop place.offset block))

none_of_entries : (blocks : Blocks) (es : List (ℕ × EntryPlace)) → entries_in blocks es ≡ [] → es ≡ []
none_of_entries blocks [] none = refl
none_of_entries blocks (e ∷ es) none = absurd cc

none_of_value : (o : Option StoredValue) → option_map (λ s. s.0) o ≡ None → o ≡ None
none_of_value None none = refl
none_of_value (Some s) none = absurd cc

-- a group whose table isn't empty has something
pub filled_some : (blocks : Blocks) (t : Tables) (group : ℕ) (v : TableView) → t group ≡ Some v → ((v.entries ≡ []) × ((k : List ℕ) → v.keys k ≡ None) → ⊥) → IsWithout (contents_in blocks t) group → ⊥
filled_some blocks t group v is filled without =
    let entries : entries_in blocks v.entries ≡ [] = ap (λ (o : Option TableView). entries_in blocks (or_empty o).entries) (sym is) ∙ without.0 in
    filled (none_of_entries blocks v.entries entries, λ k. none_of_value (v.keys k) (ap (λ (o : Option TableView). value_at (or_empty o) k) (sym is) ∙ without.1 k))

-- a group without a table has nothing
pub without_table : (blocks : Blocks) (table : Option TableView) → is_some table ≡ false → (entries_in blocks (or_empty table).entries ≡ []) × ((key : List ℕ) → value_at (or_empty table) key ≡ None)
without_table blocks None unknown = (refl, λ key. refl)
without_table blocks (Some t) unknown = cc
