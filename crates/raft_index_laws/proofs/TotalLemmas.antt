-- What holds of the tables, the marks that are owed and both queues, step by step.
use Rattle.std.proofs.Common.{◌≡◌, ℕ, ◌≤◌, Bool, true, false, cond, List, [], ◌∷◌, ◌++◌, map, refl, sym, ◌∙◌, ap, subst, arith}
use Rattle.std.specs.List.{AllByRecursion as Each, list_all}
use Rattle.std.specs.Prelude.{nat_le}
use Rattle.std.proofs.lemmas.Bool.{false≢true}
use Rattle.std.proofs.lemmas.Bool.Decides.{nat_tests}
use Rattle.std.proofs.lemmas.List.{map-append}
use Rattle.raft_base.specs.declared.pipe_log.LogQueue.TheVariants.{Append}
use Rattle.raft_records.specs.Contents.{Contents, after_batch}
use Rattle.raft_records.specs.Item.{Batch, Item}
use Rattle.raft_records.specs.PlacedItem.{PlacedItem, item_in, is_placed_in_order}
use Rattle.raft_records.specs.Places.{Blocks}
use Rattle.raft_records.specs.Validity.{IsValidBatch}
use Rattle.raft_recovery_laws.specs.Consecutive.{HasConsecutiveEntries, HaveConsecutiveEntries}
use Rattle.raft_recovery_laws.specs.Recovered.{item_leaves, item_leaves_key, items_of, replay}
use Rattle.raft_recovery_laws.proofs.ContentsLemmas.{replay-appended, replay_consecutive}
use Rattle.raft_tables.specs.Tables.{Tables, contents_in, or_empty, tables_after}
use Rattle.raft_tables.proofs.ContentsLemmas.{contents_after}
use Rattle.raft_tables.specs.Owed.{Owed, owed_after}
use Rattle.raft_records.specs.FileBatches.{AreInFile, FileBatch, batches_of, from_file}
use Rattle.raft_index_laws.specs.Standing.{TablesStandFor, ends_leave, ends_leave_key}
use Rattle.raft_index_laws.proofs.EndsLemmas.{pass-push, pass_from}
use Rattle.raft_index_laws.proofs.GroupLemmas.{group_less}
use Rattle.raft_index_laws.proofs.KeyLemmas.{after_items, in_append, less_left}
use Rattle.raft_index_laws.proofs.WrittenLemmas.{items_written, leave_after}

-- what a queue leaves alone whose files are these
pub past_all : (p : Item → Bool) (appended : List FileBatch) (seq n : ℕ) → Each (λ b. b.0 ≤ seq) appended → pass_from p appended n ≡ false → n ≤ seq
past_all p [] seq n each is = absurd (false≢true (sym is))
past_all p (b ∷ appended) seq n each is = at (nat_le n b.0) refl (λ test. past_all p appended seq n each.1 (sym (ap (λ c. list_all p (items_of (batches_of (cond c (b ∷ from_file n appended) (from_file n appended))))) test) ∙ is))
  where
    below : (i j : ℕ) → nat_le i j ≡ true → i ≤ j
    below i j test = grind (arith, nat_tests)

    at : (c : Bool) → nat_le n b.0 ≡ c → (nat_le n b.0 ≡ false → n ≤ seq) → n ≤ seq
    at true test rest = let low = below n b.0 test in omega (arith, low, each.0)
    at false test rest = rest test

pub written : (blocks : Blocks) (x : Contents) (appended : List FileBatch) (owed : Owed) (t : Tables) (seq : ℕ) (items : List PlacedItem)
    → HasConsecutiveEntries x → HaveConsecutiveEntries (batches_of appended) → Each (λ b. b.0 ≤ seq) appended → list_all (λ item. is_placed_in_order item.content) items ≡ true → Each (λ item. AreInFile Append seq item.content) items
    → IsValidBatch (contents_in blocks t) (map (item_in blocks) items) → TablesStandFor blocks x appended owed t
    → TablesStandFor blocks x (appended ++ (seq, map (item_in blocks) items) ∷ []) (owed_after (in_append seq) t items owed) (tables_after (in_append seq) t items)
written blocks x appended owed t seq items run_x run files in_order placed valid stands = record {
  contents =
      contents_after (in_append seq) blocks t items in_order ∙ ap (λ m. after_batch m batch) stands.contents
      ∙ sym (replay-appended x (batches_of appended) batch run_x run (subst (λ m. IsValidBatch m batch) stands.contents valid))
      ∙ ap (replay x) (sym (map-append (λ (b : FileBatch). b.1) appended ((seq, batch) ∷ [])));
  entries = λ g.
      group_less blocks (leave_after (ends_leave appended g) seq (λ i. list_all (item_leaves g i) batch)) (ends_leave (appended ++ (seq, batch) ∷ []) g) (owed_after (in_append seq) t items owed g) (owed_after (in_append seq) t items owed g) (x.entries g) (or_empty (tables_after (in_append seq) t items g)).entries
      (λ n i is. pass-push (item_leaves g i) appended seq batch n ∙ is) refl (λ is. is)
      (items_written blocks seq g (ends_leave appended g) owed (x.entries g) t items (λ n i is. past_all (item_leaves g i) appended seq n files is) in_order placed valid
      (subst HasConsecutiveEntries (sym stands.contents) (replay_consecutive x (batches_of appended) run_x run)) (stands.entries g));
  keys = λ g k.
      less_left _ (ends_leave_key (appended ++ (seq, batch) ∷ []) g k) (owed_after (in_append seq) t items owed g) (x.value g k) k ((or_empty (tables_after (in_append seq) t items g)).keys k)
      (λ n is. pass-push (item_leaves_key g k) appended seq batch n ∙ is)
      (after_items blocks seq g k (ends_leave_key appended g k) owed (x.value g k) t items (stands.keys g k));
}
  where
    batch : Batch
    batch = map (item_in blocks) items
