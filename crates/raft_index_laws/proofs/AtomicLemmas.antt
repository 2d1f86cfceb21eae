-- A group that is written again in the batches of an atomic group.
use Rattle.std.proofs.Common.{◌≡◌, ℕ, true, false, List, [], ◌∷◌, ◌++◌, map, fold, Option, refl, sym, ◌∙◌, ap, subst}
use Rattle.std.specs.List.{flat_map}
use Rattle.std.proofs.lemmas.List.{map-append}
use Rattle.raft_base.specs.declared.pipe_log.FileId.{FileId}
use Rattle.raft_records.specs.declared.entry_index.EntryPlace.{EntryPlace}
use Rattle.raft_records.specs.Contents.{Contents, after_item}
use Rattle.raft_records.specs.Item.{Entry}
use Rattle.raft_records.specs.Places.{Blocks, entry_in, entries_in}
use Rattle.raft_recovery_laws.specs.Consecutive.{HasConsecutiveEntries, HaveConsecutiveEntries, are_consecutive}
use Rattle.raft_recovery_laws.specs.Recovered.{replay}
use Rattle.raft_tables.specs.Moving.{tables_moved}
use Rattle.raft_tables.specs.Owed.{Owed}
use Rattle.raft_tables.specs.Tables.{Tables, or_empty}
use Rattle.raft_index_laws.specs.Rewriting.{ArePart, entries_item, placed_entries_item}
use Rattle.raft_records.specs.FileBatches.{FileBatch, batches_of}
use Rattle.raft_index_laws.specs.Standing.{TablesStandFor}
use Rattle.raft_index_laws.proofs.PartsLemmas.{moved_parts, parts_at_once}
use Rattle.raft_index_laws.proofs.RewrittenLemmas.{entries_rewritten}

parts_in : (blocks : Blocks) (parts : List (List (ℕ × EntryPlace))) → entries_in blocks (flat_map (λ p. p) parts) ≡ flat_map (λ p. p) (map (entries_in blocks) parts)
parts_in blocks [] = refl
parts_in blocks (p ∷ parts) = map-append (entry_in blocks) p (flat_map (λ q. q) parts) ∙ ap (λ es. entries_in blocks p ++ es) (parts_in blocks parts)

pub parts_rewritten : (blocks : Blocks) (x : Contents) (appended : List FileBatch) (owed : Owed) (t : Tables) (watermark : Option ℕ) (id : FileId) (group : ℕ) (n : ℕ × EntryPlace) (ns : List (ℕ × EntryPlace)) (parts : List (List (ℕ × EntryPlace)))
    → HasConsecutiveEntries x → HaveConsecutiveEntries (batches_of appended) → are_consecutive (entries_in blocks ((n ∷ ns) ++ flat_map (λ p. p) parts)) ≡ true → (owed group).cleaned ≡ false
    → ArePart watermark blocks (or_empty (t group)).entries ((n ∷ ns) ++ flat_map (λ p. p) parts) → TablesStandFor blocks x appended owed t
    → (replay (fold after_item x (map (entries_item group) (map (entries_in blocks) ((n ∷ ns) ∷ parts)))) (batches_of appended) ≡ replay x (batches_of appended))
    × TablesStandFor blocks (fold after_item x (map (entries_item group) (map (entries_in blocks) ((n ∷ ns) ∷ parts)))) appended owed (tables_moved watermark id t (map (placed_entries_item group) ((n ∷ ns) ∷ parts)))
parts_rewritten blocks x appended owed t watermark id group n ns parts run_x run runs clean part stands =
    let rest = flat_map (λ (p : List (ℕ × EntryPlace)). p) parts in
    let all = entries_rewritten blocks x appended owed t watermark id group n (ns ++ rest) run_x run clean part stands in
    let bytes : entries_in blocks ((n ∷ ns) ++ rest) ≡ entries_in blocks (n ∷ ns) ++ flat_map (λ (p : List Entry). p) (map (entries_in blocks) parts) =
    map-append (entry_in blocks) (n ∷ ns) rest ∙ ap (λ es. entries_in blocks (n ∷ ns) ++ es) (parts_in blocks parts) in
    let same : fold after_item x (map (entries_item group) (map (entries_in blocks) ((n ∷ ns) ∷ parts))) ≡ after_item x (entries_item group (entries_in blocks ((n ∷ ns) ++ rest))) =
    parts_at_once x group (entries_in blocks (n ∷ ns)) (map (entries_in blocks) parts) run_x (subst (λ es. are_consecutive es ≡ true) bytes runs) ∙ ap (λ es. after_item x (entries_item group es)) (sym bytes) in
    let moved = moved_parts watermark id t group (n ∷ ns) parts in (
      ap (λ y. replay y (batches_of appended)) same ∙ all.0,
      subst (λ y. TablesStandFor blocks y appended owed (tables_moved watermark id t (map (placed_entries_item group) ((n ∷ ns) ∷ parts)))) (sym same)
          (subst (λ u. TablesStandFor blocks (after_item x (entries_item group (entries_in blocks ((n ∷ ns) ++ rest)))) appended owed u) (sym moved) all.1),
    )
