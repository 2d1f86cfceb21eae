-- What is rewritten from the Append queue fits the Rewrite queue.
use Rattle.std.proofs.Common.{◌≡◌, ℕ, ◌<◌, ◌≤◌, Bool, true, false, List, [], ◌∷◌, ◌++◌, Option, Some, None, sym, ◌∙◌, ap, arith}
use Rattle.std.specs.List.{Contains, AllByRecursion as Each}
use Rattle.std.specs.Option.{option_map}
use Rattle.std.specs.Prelude.{unwrap_or}
use Rattle.std.proofs.lemmas.Bool.{and_parts, false≢true}
use Rattle.raft_base.specs.declared.pipe_log.FileBlockHandle.{FileBlockHandle}
use Rattle.raft_base.specs.declared.pipe_log.LogQueue.{LogQueue}
use Rattle.raft_base.specs.declared.pipe_log.LogQueue.TheVariants.{Append, Rewrite}
use Rattle.raft_records.specs.declared.entry_index.EntryPlace.{EntryPlace}
use Rattle.raft_records.specs.Item.{Entry}
use Rattle.raft_records.specs.Contents.{is_next_to}
use Rattle.raft_records.specs.Places.{Blocks, entry_in, entries_in}
use Rattle.raft_recovery_laws.specs.Consecutive.{are_consecutive}
use Rattle.raft_recovery_laws.specs.Recovered.{item_leaves, leaves}
use Rattle.raft_tables.specs.Counters.{is_rewrite, is_rewritten}
use Rattle.raft_tables.specs.Owed.{Marks}
use Rattle.raft_records.specs.FileBatches.{FileBatch, batches_of}
use Rattle.raft_index_laws.specs.Standing.{EntryStands, PlacedEntryStands, StandsInBlock, are_rewritten, ends_leave}
use Rattle.raft_recovery_laws.proofs.EachLemmas.{each_contained, next_to, one_before, within}
use Rattle.raft_index_laws.proofs.EndsLemmas.{from_none, pass-later}

-- what an entry in the Rewrite queue is
pub in_rewrite_queue : (left : ℕ → ℕ → Bool) (marks : Marks) (held : List Entry) (e : Entry) (block : Option FileBlockHandle) → unwrap_or (option_map (λ (b : FileBlockHandle). is_rewrite b.id.queue) block) false ≡ true
    → StandsInBlock left marks held e block → Contains held e × (marks.cleaned ≡ false)
in_rewrite_queue left marks held e None is stands = absurd (false≢true is)
in_rewrite_queue left marks held e (Some block) is stands = at block.id.queue is stands
  where
    at : (queue : LogQueue) → is_rewrite queue ≡ true → PlacedEntryStands left marks held e block.id.seq queue → Contains held e × (marks.cleaned ≡ false)
    at Append is_no stands = absurd (false≢true is_no)
    at Rewrite is_yes stands = stands

-- .. and one in the Append queue
pub in_append_queue : (left : ℕ → ℕ → Bool) (marks : Marks) (held : List Entry) (e : Entry) (block : Option FileBlockHandle) → unwrap_or (option_map (λ (b : FileBlockHandle). is_rewrite b.id.queue) block) false ≡ false
    → StandsInBlock left marks held e block → (seq : ℕ) × ((index : ℕ) → e.0 ≤ index → left seq index ≡ false)
in_append_queue left marks held e None is stands = absurd stands
in_append_queue left marks held e (Some block) is stands = at block.id.queue is stands
  where
    at : (queue : LogQueue) → is_rewrite queue ≡ false → PlacedEntryStands left marks held e block.id.seq queue → (seq : ℕ) × ((index : ℕ) → e.0 ≤ index → left seq index ≡ false)
    at Append is_no stands = (block.id.seq, stands)
    at Rewrite is_yes stands = absurd (false≢true (sym is_yes))

-- entries in the Rewrite queue are there
pub rewritten_are_held : (blocks : Blocks) (left : ℕ → ℕ → Bool) (marks : Marks) (held : List Entry) (es : List (ℕ × EntryPlace)) → are_rewritten es ≡ true → Each (EntryStands blocks left marks held) es
    → Each (Contains held) (entries_in blocks es)
rewritten_are_held blocks left marks held [] all each = tt
rewritten_are_held blocks left marks held (e ∷ es) all each =
    let parts = and_parts (is_rewritten e.1) (are_rewritten es) all in
    ((in_rewrite_queue left marks held (entry_in blocks e) e.1.block parts.0 each.0).0, rewritten_are_held blocks left marks held es parts.1 each.1)

-- what stands behind an entry of the Append queue isn't left alone by the queue as a whole
pub none_left_behind : (blocks : Blocks) (appended : List FileBatch) (group : ℕ) (marks : Marks) (held : List Entry) (m : ℕ × EntryPlace) → is_rewritten m.1 ≡ false → EntryStands blocks (ends_leave appended group) marks held m
    → (index : ℕ) → m.0 ≤ index → leaves (batches_of appended) group index ≡ false
none_left_behind blocks appended group marks held m is stands index le =
    let found = in_append_queue (ends_leave appended group) marks held (entry_in blocks m) m.1.block is stands in
    let later = found.1 index le in
    ap (λ (bs : List FileBatch). leaves (batches_of bs) group index) (sym (from_none appended)) ∙ pass-later (item_leaves group index) appended 0 found.0 (omega arith) later

-- nothing stands before the first of consecutive entries
pub touching : (old ps : List Entry) (e : Entry) (r : List Entry) → are_consecutive old ≡ true → are_consecutive (ps ++ e ∷ r) ≡ true → Each (Contains old) ps → (o : Entry) → Contains (ps ++ e ∷ r) o → o.0 < e.0 → is_next_to old e.0 ≡ true
touching old [] e r run_old run held o has below = absurd (omega (arith, (within e.0 (e ∷ r) o run has).0))
touching old (p ∷ ps) e r run_old run held o has below =
    let found = one_before p.0 p ps e r run in
    next_to old found.0 e.0 run_old (each_contained (Contains old) (p ∷ ps) found.0 held found.1) found.2
