-- Entries of a group that are written again in parts, as the batches of an atomic group.
use Rattle.std.proofs.Common.{◌≡◌, ℕ, ◌+◌, ◌==◌, ◌&&◌, Bool, true, false, cond, List, [], ◌∷◌, ◌++◌, map, fold, length, Option, Some, None, append-nil, refl, sym, ◌∙◌, ap, subst}
use Rattle.std.specs.List.{flat_map}
use Rattle.std.proofs.lemmas.List.Sums.{fold-append}
use Rattle.raft_base.specs.declared.pipe_log.FileId.{FileId}
use Rattle.raft_records.specs.declared.entry_index.EntryPlace.{EntryPlace}
use Rattle.raft_records.specs.Contents.{Contents, after_item}
use Rattle.raft_records.specs.Item.{Entry}
use Rattle.raft_records.specs.PlacedItem.{EntriesAt}
use Rattle.raft_records.specs.Validity.{are_consecutive_from}
use Rattle.raft_recovery_laws.specs.Consecutive.{HasConsecutiveEntries, are_consecutive}
use Rattle.raft_recovery_laws.proofs.ContentsLemmas.{after_batches_consecutive, consecutive_one}
use Rattle.raft_recovery_laws.proofs.PartLemmas.{after_item-parts}
use Rattle.raft_tables.specs.Moving.{table_moved, tables_moved, tables_moved_by}
use Rattle.raft_tables.specs.MovedEntries.{entry_moved}
use Rattle.raft_tables.specs.Table.{TableView, with_entries_at}
use Rattle.raft_tables.specs.Tables.{Tables}
use Rattle.raft_index_laws.specs.Rewriting.{entries_item, placed_entries_item}
use Rattle.raft_recovery_laws.proofs.EachLemmas.{consecutive_parts, run_left, run_right}
use Rattle.raft_index_laws.proofs.KeyLemmas.{eq_self}

pub front_run : (es fs : List Entry) → are_consecutive (es ++ fs) ≡ true → are_consecutive es ≡ true
front_run [] fs run = refl
front_run (e ∷ es) fs run = run_left e.0 (e ∷ es) fs run

pub rest_run : (es fs : List Entry) → are_consecutive (es ++ fs) ≡ true → are_consecutive fs ≡ true
rest_run [] fs run = run
rest_run (e ∷ es) [] run = refl
rest_run (e ∷ es) (f ∷ fs) run =
    let behind = run_right e.0 (e ∷ es) (f ∷ fs) run in
    subst (λ n. are_consecutive_from n (f ∷ fs) ≡ true) (sym (first_is (e.0 + length (e ∷ es)) f fs behind)) behind
  where
    first_is : (n : ℕ) (x : Entry) (xs : List Entry) → are_consecutive_from n (x ∷ xs) ≡ true → x.0 ≡ n
    first_is n x xs is = (consecutive_parts n x xs is).0

pub item_run : (x : Contents) (group : ℕ) (es : List Entry) → HasConsecutiveEntries x → are_consecutive es ≡ true → HasConsecutiveEntries (after_item x (entries_item group es))
item_run x group es run run_es = after_batches_consecutive x ((entries_item group es ∷ []) ∷ []) run (consecutive_one (entries_item group es ∷ []) (ap (λ b. b && true) run_es))

-- parts are the same as all at once
pub parts_at_once : (x : Contents) (group : ℕ) (first : List Entry) (parts : List (List Entry)) → HasConsecutiveEntries x → are_consecutive (first ++ flat_map (λ p. p) parts) ≡ true
    → fold after_item x (map (entries_item group) (first ∷ parts)) ≡ after_item x (entries_item group (first ++ flat_map (λ p. p) parts))
parts_at_once x group first [] run runs = ap (λ es. after_item x (entries_item group es)) (sym (append-nil first))
parts_at_once x group first (next ∷ parts) run runs =
    parts_at_once (after_item x (entries_item group first)) group next parts (item_run x group first run (front_run first (next ++ flat_map (λ p. p) parts) runs)) (rest_run first (next ++ flat_map (λ p. p) parts) runs)
    ∙ after_item-parts x group first (next ++ flat_map (λ p. p) parts) (run group) runs

moved_twice : (watermark : Option ℕ) (id : FileId) (a b : List (ℕ × EntryPlace)) (t : Option TableView) → table_moved watermark id (EntriesAt b) (table_moved watermark id (EntriesAt a) t) ≡ table_moved watermark id (EntriesAt (a ++ b)) t
moved_twice watermark id a b None = refl
moved_twice watermark id a b (Some v) = ap (λ es. let o : Option TableView = Some (with_entries_at es v) in o) (sym (fold-append (λ old n. map (entry_moved watermark n) old) v.entries a b))

pub moved_parts : (watermark : Option ℕ) (id : FileId) (t : Tables) (group : ℕ) (first : List (ℕ × EntryPlace)) (parts : List (List (ℕ × EntryPlace)))
    → tables_moved watermark id t (map (placed_entries_item group) (first ∷ parts)) ≡ tables_moved_by watermark id t (placed_entries_item group (first ++ flat_map (λ p. p) parts))
moved_parts watermark id t group first [] = ap (λ es. tables_moved_by watermark id t (placed_entries_item group es)) (sym (append-nil first))
moved_parts watermark id t group first (next ∷ parts) =
    moved_parts watermark id (tables_moved_by watermark id t (placed_entries_item group first)) group next parts ∙ (λ i g. at g (g == group) refl i)
  where
    rest : List (ℕ × EntryPlace)
    rest = next ++ flat_map (λ p. p) parts

    at : (g : ℕ) (b : Bool) → (g == group) ≡ b
        → cond b (table_moved watermark id (EntriesAt rest) (tables_moved_by watermark id t (placed_entries_item group first) group)) (cond b (table_moved watermark id (EntriesAt first) (t group)) (t g)) ≡ cond b (table_moved watermark id (EntriesAt (first ++ rest)) (t group)) (t g)
    at g true same = ap (λ b. table_moved watermark id (EntriesAt rest) (cond b (table_moved watermark id (EntriesAt first) (t group)) (t group))) (eq_self group) ∙ moved_twice watermark id first rest (t group)
    at g false other = refl
