-- What holds of the tables and the marks, in terms of both queues.
use Rattle.std.proofs.Common.{◌≡◌, ℕ, ◌≤◌, Bool, true, List, [], ◌∷◌, ◌++◌, append-nil, append_assoc, map, Option, Some, None, refl, sym, ◌∙◌, ap, subst, arith}
use Rattle.std.specs.List.{Contains, AllByRecursion as Each, list_all}
use Rattle.std.specs.Prelude.{◌^◌, ◌-◌}
use Rattle.std.proofs.lemmas.List.{map-append}
use Rattle.raft_base.specs.declared.pipe_log.FileBlockHandle.{FileBlockHandle}
use Rattle.raft_base.specs.declared.pipe_log.LogQueue.{LogQueue}
use Rattle.raft_base.specs.declared.pipe_log.LogQueue.TheVariants.{Append, Rewrite}
use Rattle.raft_records.specs.Contents.{Contents, no_contents}
use Rattle.raft_records.specs.declared.entry_index.EntryPlace.{EntryPlace}
use Rattle.raft_records.specs.FileBatches.{AreInFile, FileBatch, batches_of}
use Rattle.raft_records.specs.Item.{Batch, Entry}
use Rattle.raft_records.specs.PlacedItem.{PlacedItem, is_placed_in_order, item_in}
use Rattle.raft_records.specs.Places.{Blocks, entry_in, entries_in}
use Rattle.raft_records.specs.Validity.{IsValidBatch}
use Rattle.raft_recovery_laws.specs.Bounds.{AreItemsBelow}
use Rattle.raft_recovery_laws.specs.Consecutive.{HaveConsecutiveEntries}
use Rattle.raft_recovery_laws.specs.Recovered.{effect, items_of}
use Rattle.raft_recovery_laws.specs.Stands.{Queues, synced_queues}
use Rattle.raft_recovery_laws.proofs.ContentsLemmas.{consecutive-append, consecutive_one, effect_consecutive, valid_is_consecutive}
use Rattle.raft_recovery_laws.proofs.MarkLemmas.{contents_ext}
use Rattle.raft_tables.specs.Owed.{Marks, Owed, owed_noted}
use Rattle.raft_tables.specs.Table.{StoredValue}
use Rattle.raft_tables.specs.Tables.{Tables, contents_in, or_empty, tables_after}
use Rattle.raft_index_laws.specs.ForQueues.{StandForQueues}
use Rattle.raft_index_laws.specs.Standing.{EntryStands, HasNoneBefore, KeyStands, PlacedEntryStands, PlacedKeyStands, StandsInBlock, TablesStandFor, ends_leave, ends_leave_key}
use Rattle.raft_index_laws.proofs.KeyLemmas.{in_append}
use Rattle.raft_index_laws.proofs.NotedLemmas.{valid_noted}
use Rattle.raft_index_laws.proofs.TotalLemmas.{written}

-- The lists of both queues.

-- what is known of the Rewrite queue's batches, where they are the same in another division
pub rewritten_again : (blocks : Blocks) (numbered : List FileBatch) (owed : Owed) (t : Tables) (q p : Queues) → q.rewritten ++ q.rewritten_since ≡ p.rewritten ++ p.rewritten_since → q.appended ++ q.appended_since ≡ p.appended ++ p.appended_since
    → StandForQueues blocks numbered owed t q → StandForQueues blocks numbered owed t p
rewritten_again blocks numbered owed t q p same appended s = record {
  batches = s.batches ∙ appended;
  appended_consecutive = s.appended_consecutive;
  rewritten_consecutive = subst HaveConsecutiveEntries same s.rewritten_consecutive;
  rewritten_below = subst (λ (bs : List Batch). AreItemsBelow (2 ^ 64 - 1) (items_of bs)) same s.rewritten_below;
  stand = subst (λ (bs : List Batch). TablesStandFor blocks (effect bs) numbered owed t) same s.stand;
}

pub opened : (blocks : Blocks) (rewritten : List Batch) (numbered : List FileBatch) (owed : Owed) (t : Tables) → HaveConsecutiveEntries (batches_of numbered) → HaveConsecutiveEntries rewritten → AreItemsBelow (2 ^ 64 - 1) (items_of rewritten)
    → TablesStandFor blocks (effect rewritten) numbered owed t → StandForQueues blocks numbered owed t (synced_queues rewritten (batches_of numbered))
opened blocks rewritten numbered owed t run_a run_r below stands = record {
  batches = sym (append-nil (batches_of numbered));
  appended_consecutive = run_a;
  rewritten_consecutive = subst HaveConsecutiveEntries (sym (append-nil rewritten)) run_r;
  rewritten_below = subst (λ (bs : List Batch). AreItemsBelow (2 ^ 64 - 1) (items_of bs)) (sym (append-nil rewritten)) below;
  stand = subst (λ (bs : List Batch). TablesStandFor blocks (effect bs) numbered owed t) (sym (append-nil rewritten)) stands;
}

pub queue_written : (blocks : Blocks) (numbered : List FileBatch) (owed : Owed) (t : Tables) (q : Queues) (seq : ℕ) (items : List PlacedItem) → Each (λ b. b.0 ≤ seq) numbered → list_all (λ item. is_placed_in_order item.content) items ≡ true → Each (λ item. AreInFile Append seq item.content) items
    → IsValidBatch (contents_in blocks t) (map (item_in blocks) items) → StandForQueues blocks numbered owed t q
    → StandForQueues blocks (numbered ++ (seq, map (item_in blocks) items) ∷ []) (owed_noted owed items) (tables_after (in_append seq) t items) (record q { appended_since = q.appended_since ++ map (item_in blocks) items ∷ [] })
queue_written blocks numbered owed t q seq items files in_order placed valid s = record {
  batches = grown ∙ ap (λ bs. bs ++ batch ∷ []) s.batches ∙ append_assoc q.appended q.appended_since (batch ∷ []);
  appended_consecutive = subst HaveConsecutiveEntries (sym grown) (consecutive-append (batches_of numbered) (batch ∷ []) s.appended_consecutive (consecutive_one batch (valid_is_consecutive (contents_in blocks t) batch valid)));
  rewritten_consecutive = s.rewritten_consecutive;
  rewritten_below = s.rewritten_below;
  stand = subst (λ o. TablesStandFor blocks (effect (q.rewritten ++ q.rewritten_since)) (numbered ++ (seq, batch) ∷ []) o (tables_after (in_append seq) t items)) (valid_noted blocks (in_append seq) t items owed in_order valid)
      (written blocks (effect (q.rewritten ++ q.rewritten_since)) numbered owed t seq items (effect_consecutive (q.rewritten ++ q.rewritten_since) s.rewritten_consecutive) s.appended_consecutive files in_order placed valid s.stand);
}
  where
    batch : Batch
    batch = map (item_in blocks) items

    grown : batches_of (numbered ++ (seq, batch) ∷ []) ≡ batches_of numbered ++ batch ∷ []
    grown = map-append (λ (b : FileBatch). b.1) numbered ((seq, batch) ∷ [])

pub queue_synced : (blocks : Blocks) (numbered : List FileBatch) (owed : Owed) (t : Tables) (q : Queues) → StandForQueues blocks numbered owed t q → StandForQueues blocks numbered owed t (record q { appended = q.appended ++ q.appended_since; appended_since = [] })
queue_synced blocks numbered owed t q s = rewritten_again blocks numbered owed t q (record q { appended = q.appended ++ q.appended_since; appended_since = [] }) refl (sym (append-nil (q.appended ++ q.appended_since))) s

pub queue_rewritten_synced : (blocks : Blocks) (numbered : List FileBatch) (owed : Owed) (t : Tables) (q : Queues) → StandForQueues blocks numbered owed t q → StandForQueues blocks numbered owed t (record q { rewritten = q.rewritten ++ q.rewritten_since; rewritten_since = [] })
queue_rewritten_synced blocks numbered owed t q s = rewritten_again blocks numbered owed t q (record q { rewritten = q.rewritten ++ q.rewritten_since; rewritten_since = [] }) (sym (append-nil (q.rewritten ++ q.rewritten_since))) refl s

-- Blocks with the same bytes where entries stand.

entries_alike : (old new : Blocks) (es : List (ℕ × EntryPlace)) → Each (λ e. entry_in old e ≡ entry_in new e) es → entries_in new es ≡ entries_in old es
entries_alike old new [] same = refl
entries_alike old new (e ∷ es) same = ap (λ n. n ∷ entries_in new es) (sym same.0) ∙ ap (λ ns. entry_in old e ∷ ns) (entries_alike old new es same.1)

stand_alike : (old new : Blocks) (left : ℕ → ℕ → Bool) (marks : Marks) (held : List Entry) (es : List (ℕ × EntryPlace)) → Each (λ e. entry_in old e ≡ entry_in new e) es → Each (EntryStands old left marks held) es → Each (EntryStands new left marks held) es
stand_alike old new left marks held [] same each = tt
stand_alike old new left marks held (e ∷ es) same each = (subst (λ (n : Entry). StandsInBlock left marks held n e.1.block) same.0 each.0, stand_alike old new left marks held es same.1 each.1)

pub alike : (old new : Blocks) (x : Contents) (numbered : List FileBatch) (owed : Owed) (t : Tables) → ((group : ℕ) → Each (λ e. entry_in old e ≡ entry_in new e) (or_empty (t group)).entries) → TablesStandFor old x numbered owed t → TablesStandFor new x numbered owed t
alike old new x numbered owed t same s = record {
  contents = contents_ext (contents_in new t) (contents_in old t) (λ g. entries_alike old new (or_empty (t g)).entries (same g)) (λ g k. refl) ∙ s.contents;
  entries = λ g. let of = s.entries g in record {
    ordered = of.ordered;
    each = stand_alike old new (ends_leave numbered g) (owed g) (x.entries g) (or_empty (t g)).entries (same g) of.each;
    behind = of.behind;
    before = of.before;
  };
  keys = s.keys;
}

pub queue_alike : (old new : Blocks) (numbered : List FileBatch) (owed : Owed) (t : Tables) (q : Queues) → ((group : ℕ) → Each (λ e. entry_in old e ≡ entry_in new e) (or_empty (t group)).entries) → StandForQueues old numbered owed t q → StandForQueues new numbered owed t q
queue_alike old new numbered owed t q same s = record {
  batches = s.batches;
  appended_consecutive = s.appended_consecutive;
  rewritten_consecutive = s.rewritten_consecutive;
  rewritten_below = s.rewritten_below;
  stand = alike old new (effect (q.rewritten ++ q.rewritten_since)) numbered owed t same s.stand;
}

-- An empty Rewrite queue.

none_there : (e : Entry) → Contains [] e → ⊥
none_there e is = omega (arith, is.1)

in_block : (left : ℕ → ℕ → Bool) (marks marks' : Marks) (e : Entry) (block : Option FileBlockHandle) → StandsInBlock left marks [] e block → StandsInBlock left marks' [] e block
in_block left marks marks' e None stands = stands
in_block left marks marks' e (Some block) stands = at block.id.queue stands
  where
    at : (queue : LogQueue) → PlacedEntryStands left marks [] e block.id.seq queue → PlacedEntryStands left marks' [] e block.id.seq queue
    at Append is = is
    at Rewrite is = absurd (none_there e is.0)

each_unowed : (blocks : Blocks) (left : ℕ → ℕ → Bool) (marks marks' : Marks) (es : List (ℕ × EntryPlace)) → Each (EntryStands blocks left marks []) es → Each (EntryStands blocks left marks' []) es
each_unowed blocks left marks marks' [] each = tt
each_unowed blocks left marks marks' (e ∷ es) each = (in_block left marks marks' (entry_in blocks e) e.1.block each.0, each_unowed blocks left marks marks' es each.1)

none_before : (es : List (ℕ × EntryPlace)) → HasNoneBefore es []
none_before [] = refl
none_before (e ∷ es) = tt

key_unowed : (left : ℕ → Bool) (marks marks' : Marks) (key : List ℕ) (s : Option StoredValue) → KeyStands left marks None key s → KeyStands left marks' None key s
key_unowed left marks marks' key None stands = λ _ _. refl
key_unowed left marks marks' key (Some stored) stands = at stored.1.queue stands
  where
    at : (queue : LogQueue) → PlacedKeyStands left marks None stored.0 stored.1.seq queue → PlacedKeyStands left marks' None stored.0 stored.1.seq queue
    at Append is = is
    at Rewrite is = absurd (let none : None ≡ Some stored.0 = is.0 in cc)

pub unowed : (blocks : Blocks) (numbered : List FileBatch) (owed owed' : Owed) (t : Tables) → TablesStandFor blocks no_contents numbered owed t → TablesStandFor blocks no_contents numbered owed' t
unowed blocks numbered owed owed' t s = record {
  contents = s.contents;
  entries = λ g. let of = s.entries g in record {
    ordered = of.ordered;
    each = each_unowed blocks (ends_leave numbered g) (owed g) (owed' g) (or_empty (t g)).entries of.each;
    behind = of.behind;
    before = λ _ _. none_before (or_empty (t g)).entries;
  };
  keys = λ g k. key_unowed (ends_leave_key numbered g k) (owed g) (owed' g) k ((or_empty (t g)).keys k) (s.keys g k);
}

pub queue_unowed : (blocks : Blocks) (numbered : List FileBatch) (owed owed' : Owed) (t : Tables) (q : Queues) → q.rewritten ++ q.rewritten_since ≡ [] → StandForQueues blocks numbered owed t q → StandForQueues blocks numbered owed' t q
queue_unowed blocks numbered owed owed' t q none s = record {
  batches = s.batches;
  appended_consecutive = s.appended_consecutive;
  rewritten_consecutive = s.rewritten_consecutive;
  rewritten_below = s.rewritten_below;
  stand = subst (λ (bs : List Batch). TablesStandFor blocks (effect bs) numbered owed' t) (sym none) (unowed blocks numbered owed owed' t (subst (λ (bs : List Batch). TablesStandFor blocks (effect bs) numbered owed t) none s.stand));
}
