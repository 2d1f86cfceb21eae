-- Batches that a purge writes to the Rewrite queue, and fronts of the Append queue that it drops.
use Rattle.std.proofs.Common.{◌≡◌, ℕ, ◌<◌, ◌≤◌, ◌&&◌, Bool, true, false, cond, List, [], ◌∷◌, ◌++◌, append-nil, append_assoc, map, Option, Some, None, refl, sym, ◌∙◌, ap, subst, arith}
use Rattle.std.specs.List.{AllByRecursion as Each, list_all}
use Rattle.std.specs.Prelude.{◌^◌, ◌-◌, filter, is_some}
use Rattle.raft_base.specs.declared.pipe_log.LogQueue.{LogQueue}
use Rattle.raft_base.specs.declared.pipe_log.LogQueue.TheVariants.{Append, Rewrite}
use Rattle.raft_base.specs.declared.pipe_log.FileBlockHandle.{FileBlockHandle}
use Rattle.raft_records.specs.Contents.{Contents, after_batch, after_item}
use Rattle.raft_records.specs.declared.entry_index.EntryPlace.{EntryPlace}
use Rattle.raft_records.specs.FileBatches.{FileBatch, batches_of, from_file}
use Rattle.raft_records.specs.Item.{Batch, Content, Entry, Entries, Clean, Compact, Put, Delete, Item, group_mark_key}
use Rattle.raft_records.specs.PlacedItem.{PlacedItem, are_all_placed, is_placed_in_order, item_in}
use Rattle.raft_records.specs.Places.{Blocks}
use Rattle.raft_recovery_laws.specs.Bounds.{AreItemsBelow, HasIndexesBelow, IsContentBelow}
use Rattle.raft_recovery_laws.specs.Consecutive.{HasConsecutiveEntries, HaveConsecutiveEntries, content_is_consecutive}
use Rattle.raft_recovery_laws.specs.Groups.{batch_counts, mark_of, whole}
use Rattle.raft_recovery_laws.specs.Recovered.{effect, items_of, recovered}
use Rattle.raft_recovery_laws.specs.Rewriting.{ChangesNothing, EachChangesNothing}
use Rattle.raft_recovery_laws.specs.Stands.{Queues}
use Rattle.raft_recovery_laws.specs.Takes.{CanDropFront, RewriteTakes}
use Rattle.raft_recovery_laws.proofs.BoundLemmas.{batches_below, content_below, no_mark_value}
use Rattle.raft_recovery_laws.proofs.ContentsLemmas.{after_batches_consecutive, consecutive-append, consecutive_one, effect_consecutive, items-append}
use Rattle.raft_recovery_laws.proofs.EachLemmas.{each_append, each_left, each_right}
use Rattle.raft_recovery_laws.proofs.FixedLemmas.{consecutive_parts}
use Rattle.raft_recovery_laws.proofs.GroupLemmas.{effect-unmarked}
use Rattle.raft_recovery_laws.proofs.TakesLemmas.{takes_unmarked}
use Rattle.raft_tables.specs.Counters.{is_rewritten}
use Rattle.raft_tables.specs.Moving.{tables_moved}
use Rattle.raft_tables.specs.Owed.{Marks, Owed, without_pending}
use Rattle.raft_tables.specs.Table.{StoredValue}
use Rattle.raft_tables.specs.Tables.{Tables, or_empty}
use Rattle.raft_tables.specs.WrittenMarks.{AreOwed, IsOwed, mark_index, owed_again, owed_left, owed_left_by}
use Rattle.raft_index_laws.specs.ForQueues.{StandForQueues}
use Rattle.raft_index_laws.specs.Standing.{AreEntriesPlacedFrom, AreKeysPlacedFrom, IsEntryPlacedFrom, IsPlacedFrom, KeyStands, OwesNothing, PlacedKeyStands, TablesStandFor, ends_leave, ends_leave_key}
use Rattle.raft_index_laws.proofs.DropLemmas.{front_gone, front_may_go}
use Rattle.raft_index_laws.proofs.GroupLemmas.{group_less}
use Rattle.raft_index_laws.proofs.KeyLemmas.{in_rewrite}
use Rattle.raft_index_laws.proofs.ReadLemmas.{placed_low}
use Rattle.raft_index_laws.specs.Gathering.{IsGathered}
use Rattle.raft_index_laws.specs.Rewriting.{IsMarkIndex}
use Rattle.raft_index_laws.proofs.AgainLemmas.{all_again}
use Rattle.raft_index_laws.proofs.FitsLemmas.{all_fit, are_apart, each_nothing, each_run, unmarked}
use Rattle.raft_index_laws.proofs.MarkedLemmas.{clean_marked, compaction_marked, delete_marked}
use Rattle.raft_index_laws.proofs.MatchLemmas.{all_given, may_all}

-- What both queues hold.

abbrev pub rewrites : Queues → List Batch
rewrites q = q.rewritten ++ q.rewritten_since

pub held_run : (blocks : Blocks) (numbered : List FileBatch) (owed : Owed) (t : Tables) (q : Queues) → StandForQueues blocks numbered owed t q → HasConsecutiveEntries (effect (rewrites q))
held_run blocks numbered owed t q s = effect_consecutive (rewrites q) s.rewritten_consecutive

pub no_mark_held : (q : Queues) (g : ℕ) → (effect (rewrites q)).value g group_mark_key ≡ None
no_mark_held q g = no_mark_value (whole (rewrites q)) g

pub all_synced : (blocks : Blocks) (numbered : List FileBatch) (owed : Owed) (t : Tables) (q : Queues) → StandForQueues blocks numbered owed t q → q.appended_since ≡ [] → batches_of numbered ≡ q.appended
all_synced blocks numbered owed t q s none = s.batches ∙ ap (λ bs. q.appended ++ bs) none ∙ append-nil q.appended

abbrev pub with_rewritten_batch : Batch → Queues → Queues
with_rewritten_batch batch q = record q { rewritten_since = q.rewritten_since ++ batch ∷ [] }

-- one batch more
pub one_more : (blocks : Blocks) (numbered : List FileBatch) (owed owed' : Owed) (t u : Tables) (q : Queues) (batch : Batch) → StandForQueues blocks numbered owed t q → list_all (λ i. content_is_consecutive i.content) batch ≡ true → AreItemsBelow (2 ^ 64 - 1) batch
    → TablesStandFor blocks (effect (rewrites q ++ batch ∷ [])) numbered owed' u → StandForQueues blocks numbered owed' u (with_rewritten_batch batch q)
one_more blocks numbered owed owed' t u q batch s run below stands = record {
  batches = s.batches;
  appended_consecutive = s.appended_consecutive;
  rewritten_consecutive = subst HaveConsecutiveEntries same (consecutive-append (rewrites q) (batch ∷ []) s.rewritten_consecutive (consecutive_one batch run));
  rewritten_below = subst (λ (bs : List Batch). AreItemsBelow (2 ^ 64 - 1) (items_of bs)) same
      (subst (AreItemsBelow (2 ^ 64 - 1)) (sym (items-append (rewrites q) (batch ∷ []))) (each_append (λ (i : Item). IsContentBelow (2 ^ 64 - 1) i.content) (items_of (rewrites q)) (items_of (batch ∷ [])) s.rewritten_below (subst (AreItemsBelow (2 ^ 64 - 1)) (sym (append-nil batch)) below)));
  stand = subst (λ (bs : List Batch). TablesStandFor blocks (effect bs) numbered owed' u) same stands;
}
  where
    same : rewrites q ++ batch ∷ [] ≡ q.rewritten ++ (q.rewritten_since ++ batch ∷ [])
    same = append_assoc q.rewritten q.rewritten_since (batch ∷ [])

-- A gathered batch.

pub gathered_takes : (blocks : Blocks) (numbered : List FileBatch) (owed : Owed) (t : Tables) (q : Queues) (watermark : Option ℕ) (items : List PlacedItem) → StandForQueues blocks numbered owed t q → q.appended_since ≡ [] → IsGathered watermark owed t items → RewriteTakes (map (item_in blocks) items) q
gathered_takes blocks numbered owed t q watermark items s none gathered =
    let x = effect (rewrites q) in
    let batch = map (item_in blocks) items in
    let run_x = held_run blocks numbered owed t q s in
    let fit = all_fit blocks x numbered owed t watermark items run_x s.appended_consecutive s.stand gathered.each in
    takes_unmarked q batch (consecutive_one batch (each_run x (batches_of numbered) batch fit)) (unmarked blocks x numbered owed t watermark items (no_mark_held q) s.stand gathered.each)
    (subst (λ (bs : List Batch). EachChangesNothing x bs batch) (all_synced blocks numbered owed t q s none) (each_nothing x (batches_of numbered) batch run_x s.appended_consecutive fit (are_apart blocks items gathered.apart)))

pub gathered_unmarked : (blocks : Blocks) (numbered : List FileBatch) (owed : Owed) (t : Tables) (q : Queues) (watermark : Option ℕ) (items : List PlacedItem) → StandForQueues blocks numbered owed t q → IsGathered watermark owed t items → mark_of (map (item_in blocks) items) ≡ None
gathered_unmarked blocks numbered owed t q watermark items s gathered = unmarked blocks (effect (rewrites q)) numbered owed t watermark items (no_mark_held q) s.stand gathered.each

pub gathered_written : (blocks : Blocks) (numbered : List FileBatch) (owed : Owed) (t : Tables) (q : Queues) (watermark : Option ℕ) (seq : ℕ) (items news : List PlacedItem) → StandForQueues blocks numbered owed t q → IsGathered watermark owed t items
    → map (item_in blocks) news ≡ map (item_in blocks) items → list_all (λ item. is_placed_in_order item.content) news ≡ true → list_all (λ item. are_all_placed is_rewritten item.content) news ≡ true
    → StandForQueues blocks numbered owed (tables_moved watermark (in_rewrite seq) t news) (with_rewritten_batch (map (item_in blocks) news) q)
gathered_written blocks numbered owed t q watermark seq items news s gathered same order placed =
    let x = effect (rewrites q) in
    let batch = map (item_in blocks) news in
    let u = tables_moved watermark (in_rewrite seq) t news in
    let run_x = held_run blocks numbered owed t q s in
    let fit = all_fit blocks x numbered owed t watermark items run_x s.appended_consecutive s.stand gathered.each in
    let run_b = subst (λ (b : Batch). list_all (λ (i : Item). content_is_consecutive i.content) b ≡ true) (sym same) (each_run x (batches_of numbered) (map (item_in blocks) items) fit) in
    let no_mark = subst (λ (b : Batch). mark_of b ≡ None) (sym same) (unmarked blocks x numbered owed t watermark items (no_mark_held q) s.stand gathered.each) in
    let may = may_all watermark (in_rewrite seq) blocks owed t items news gathered.each gathered.apart same (all_given news order) placed in
    one_more blocks numbered owed owed t u q batch s run_b (placed_low blocks news order)
    (subst (λ (y : Contents). TablesStandFor blocks y numbered owed u) (sym (effect-unmarked (rewrites q) batch no_mark)) (all_again blocks x numbered owed t watermark seq news run_x s.appended_consecutive run_b may s.stand).1)

-- Marks.

mark_at : (es : List (ℕ × EntryPlace)) (held : List Entry) (index : ℕ) → index ≡ mark_index es → Each (λ (e : Entry). e.0 < 2 ^ 64 - 1) held → IsMarkIndex es held index
mark_at [] held index is below = subst (λ (n : ℕ). Each (λ (e : Entry). e.0 < n) held) (sym is) below
mark_at (e ∷ es) held index is below = sym is

record Marked (blocks : Blocks) (x : Contents) (numbered : List FileBatch) (owed : Owed) (t : Tables) (g : ℕ) (c : Content) : Type 0 where
  nothing : ChangesNothing x (batches_of numbered) (record { group = g; content = c })
  stand : TablesStandFor blocks (after_item x (record { group = g; content = c })) numbered (owed_left_by owed (record { group = g; content = c })) t
  run : content_is_consecutive c ≡ true
  low : IsContentBelow (2 ^ 64 - 1) c

one_mark : (blocks : Blocks) (x : Contents) (numbered : List FileBatch) (owed : Owed) (t : Tables) (g : ℕ) (c : Content) → HasConsecutiveEntries x → HaveConsecutiveEntries (batches_of numbered) → HasIndexesBelow (2 ^ 64 - 1) x → IsOwed (owed g) (or_empty (t g)) c → TablesStandFor blocks x numbered owed t → Marked blocks x numbered owed t g c
one_mark blocks x numbered owed t g (Entries es) run_x run below is stands = absurd is
one_mark blocks x numbered owed t g Clean run_x run below is stands = let both = clean_marked blocks x numbered owed t g run_x run is stands in record { nothing = both.0; stand = both.1; run = refl; low = tt }
one_mark blocks x numbered owed t g (Compact index) run_x run below is stands =
    let both = compaction_marked blocks x numbered owed t g index run_x run (mark_at (or_empty (t g)).entries (x.entries g) index is.1 (below g)) stands in
    record { nothing = both.0; stand = both.1; run = refl; low = tt }
one_mark blocks x numbered owed t g (Put key value) run_x run below is stands = absurd is
one_mark blocks x numbered owed t g (Delete key) run_x run below is stands = let both = delete_marked blocks x numbered owed t g key is.1 stands in record { nothing = both.0; stand = both.1; run = refl; low = tt }

record AllMarked (blocks : Blocks) (x : Contents) (numbered : List FileBatch) (owed : Owed) (t : Tables) (marks : List Item) : Type 0 where
  nothing : EachChangesNothing x (batches_of numbered) marks
  stand : TablesStandFor blocks (after_batch x marks) numbered (owed_left owed marks) t
  run : list_all (λ i. content_is_consecutive i.content) marks ≡ true
  low : AreItemsBelow (2 ^ 64 - 1) marks

all_marked : (blocks : Blocks) (x : Contents) (numbered : List FileBatch) (owed : Owed) (t : Tables) (marks : List Item) → HasConsecutiveEntries x → HaveConsecutiveEntries (batches_of numbered) → HasIndexesBelow (2 ^ 64 - 1) x → AreOwed t owed marks → TablesStandFor blocks x numbered owed t → AllMarked blocks x numbered owed t marks
all_marked blocks x numbered owed t [] run_x run below are stands = record { nothing = tt; stand = stands; run = refl; low = tt }
all_marked blocks x numbered owed t (m ∷ marks) run_x run below are stands =
    let one = one_mark blocks x numbered owed t m.group m.content run_x run below are.0 stands in
    let next_run : HasConsecutiveEntries (after_item x m) = after_batches_consecutive x ((m ∷ []) ∷ []) run_x (consecutive_one (m ∷ []) (ap (λ b. b && true) one.run)) in
    let rest = all_marked blocks (after_item x m) numbered (owed_left_by owed m) t marks next_run run (content_below (2 ^ 64 - 1) m.group m.content x one.low below) are.1 one.stand in
    record {
      nothing = (one.nothing, rest.nothing);
      stand = rest.stand;
      run = ap (λ b. b && list_all (λ (i : Item). content_is_consecutive i.content) marks) one.run ∙ rest.run;
      low = (one.low, rest.low);
    }

marks_unmarked : (t : Tables) (owed : Owed) (marks : List Item) → AreOwed t owed marks → mark_of marks ≡ None
marks_unmarked t owed [] are = refl
marks_unmarked t owed (m ∷ marks) are = at m.content are.0
  where
    at : (c : Content) → IsOwed (owed m.group) (or_empty (t m.group)) c → mark_of (record { group = m.group; content = c } ∷ marks) ≡ None
    at (Entries es) is = absurd is
    at Clean is = refl
    at (Compact index) is = refl
    at (Put key value) is = absurd is
    at (Delete key) is = refl

whole_below : (bound : ℕ) (p : Batch → Bool) (bs : List Batch) → AreItemsBelow bound (items_of bs) → AreItemsBelow bound (items_of (filter p bs))
whole_below bound p [] below = tt
whole_below bound p (b ∷ bs) below =
    let low = λ (i : Item). IsContentBelow bound i.content in
    at (p b) (each_left low b (items_of bs) below) (whole_below bound p bs (each_right low b (items_of bs) below))
  where
    at : (test : Bool) → AreItemsBelow bound b → AreItemsBelow bound (items_of (filter p bs)) → AreItemsBelow bound (items_of (cond test (b ∷ filter p bs) (filter p bs)))
    at true first rest = each_append (λ (i : Item). IsContentBelow bound i.content) b (items_of (filter p bs)) first rest
    at false first rest = rest

pub held_below : (blocks : Blocks) (numbered : List FileBatch) (owed : Owed) (t : Tables) (q : Queues) → StandForQueues blocks numbered owed t q → HasIndexesBelow (2 ^ 64 - 1) (effect (rewrites q))
held_below blocks numbered owed t q s = batches_below (2 ^ 64 - 1) (whole (rewrites q)) (whole_below (2 ^ 64 - 1) (batch_counts (rewrites q)) (rewrites q) s.rewritten_below)

pub marks_take : (blocks : Blocks) (numbered : List FileBatch) (owed : Owed) (t : Tables) (q : Queues) (marks : List Item) → StandForQueues blocks numbered owed t q → q.appended_since ≡ [] → AreOwed t owed marks → RewriteTakes marks q
marks_take blocks numbered owed t q marks s none are =
    let x = effect (rewrites q) in
    let all = all_marked blocks x numbered owed t marks (held_run blocks numbered owed t q s) s.appended_consecutive (held_below blocks numbered owed t q s) are s.stand in
    takes_unmarked q marks (consecutive_one marks all.run) (marks_unmarked t owed marks are) (subst (λ (bs : List Batch). EachChangesNothing x bs marks) (all_synced blocks numbered owed t q s none) all.nothing)

pub marks_written : (blocks : Blocks) (numbered : List FileBatch) (owed : Owed) (t : Tables) (q : Queues) (marks : List Item) → StandForQueues blocks numbered owed t q → AreOwed t owed marks → StandForQueues blocks numbered (owed_left owed marks) t (with_rewritten_batch marks q)
marks_written blocks numbered owed t q marks s are =
    let x = effect (rewrites q) in
    let all = all_marked blocks x numbered owed t marks (held_run blocks numbered owed t q s) s.appended_consecutive (held_below blocks numbered owed t q s) are s.stand in
    one_more blocks numbered owed (owed_left owed marks) t t q marks s all.run all.low (subst (λ (y : Contents). TablesStandFor blocks y numbered (owed_left owed marks) t) (sym (effect-unmarked (rewrites q) marks (marks_unmarked t owed marks are))) all.stand)

-- a delete of a key that is there is forgotten
key_forgotten : (left : ℕ → Bool) (m : Marks) (held : Option (List ℕ)) (key : List ℕ) (s : Option StoredValue) → KeyStands left (record { cleaned = m.cleaned; compacted = false; deleted = λ k. m.deleted k && is_some s }) held key s → KeyStands left (without_pending m) held key s
key_forgotten left m held key None stands = λ clean _. stands clean (no_key (m.deleted key))
  where
    no_key : (b : Bool) → (b && false) ≡ false
    no_key true = refl
    no_key false = refl
key_forgotten left m held key (Some stored) stands = at stored.1.queue stands
  where
    at : (queue : LogQueue) → PlacedKeyStands left (record { cleaned = m.cleaned; compacted = false; deleted = λ k. m.deleted k && true }) held stored.0 stored.1.seq queue → PlacedKeyStands left (without_pending m) held stored.0 stored.1.seq queue
    at Append is = is
    at Rewrite is = is

-- what is known of a key looks at the mark of that key alone
key_owed : (left : ℕ → Bool) (m n : Marks) (held : Option (List ℕ)) (key : List ℕ) (s : Option StoredValue) → m.cleaned ≡ n.cleaned → m.deleted key ≡ n.deleted key → KeyStands left m held key s → KeyStands left n held key s
key_owed left m n held key None cleaned deleted stands = λ c d. stands (cleaned ∙ c) (deleted ∙ d)
key_owed left m n held key (Some stored) cleaned deleted stands = at stored.1.queue stands
  where
    at : (queue : LogQueue) → PlacedKeyStands left m held stored.0 stored.1.seq queue → PlacedKeyStands left n held stored.0 stored.1.seq queue
    at Append is = is
    at Rewrite is = (is.0, sym cleaned ∙ is.1)

pub forgotten : (blocks : Blocks) (numbered : List FileBatch) (owed : Owed) (t : Tables) (q : Queues) → StandForQueues blocks numbered (owed_again t owed) t q → StandForQueues blocks numbered (λ g. without_pending (owed g)) t q
forgotten blocks numbered owed t q s = record {
  batches = s.batches;
  appended_consecutive = s.appended_consecutive;
  rewritten_consecutive = s.rewritten_consecutive;
  rewritten_below = s.rewritten_below;
  stand = record {
    contents = s.stand.contents;
    entries = λ g. group_less blocks (ends_leave numbered g) (ends_leave numbered g) (owed_again t owed g) (without_pending (owed g)) ((effect (rewrites q)).entries g) (or_empty (t g)).entries (λ n i is. is) refl (λ is. is) (s.stand.entries g);
    keys = λ g k. let here = (or_empty (t g)).keys k in
        key_forgotten (ends_leave_key numbered g k) (owed g) ((effect (rewrites q)).value g k) k here
        (key_owed (ends_leave_key numbered g k) (owed_again t owed g) (record { cleaned = (owed g).cleaned; compacted = false; deleted = λ j. (owed g).deleted j && is_some here }) ((effect (rewrites q)).value g k) k here refl refl (s.stand.keys g k));
  };
}

-- Fronts of the Append queue.

pub front_can : (blocks : Blocks) (numbered : List FileBatch) (owed : Owed) (t : Tables) (q : Queues) (first : ℕ) (front : List Batch) → StandForQueues blocks numbered owed t q → q.appended_since ≡ [] → q.rewritten_since ≡ [] → OwesNothing owed → AreEntriesPlacedFrom first t → AreKeysPlacedFrom first t
    → batches_of numbered ≡ front ++ batches_of (from_file first numbered) → CanDropFront front q
front_can blocks numbered owed t q first front s none none_rewritten nothing entries keys parts = record {
  rest = rest;
  is = sym (all_synced blocks numbered owed t q s none) ∙ parts;
  found = subst (λ (bs : List Batch). recovered bs rest ≡ recovered bs (front ++ rest)) (ap (λ bs. q.rewritten ++ bs) none_rewritten ∙ append-nil q.rewritten)
      (subst (λ (bs : List Batch). recovered (rewrites q) rest ≡ recovered (rewrites q) bs) parts (front_may_go blocks (rewrites q) numbered front owed t first s.rewritten_consecutive s.appended_consecutive parts nothing entries keys s.stand));
  synced = none_rewritten;
}
  where
    rest : List Batch
    rest = batches_of (from_file first numbered)

same_rest : (front xs ys : List Batch) → front ++ xs ≡ front ++ ys → xs ≡ ys
same_rest [] xs ys is = is
same_rest (f ∷ front) xs ys is = same_rest front xs ys (let same = is in cc)

entry_from : (least first : ℕ) (b : Option FileBlockHandle) → least ≤ first → IsEntryPlacedFrom first b → IsEntryPlacedFrom least b
entry_from least first None low is = tt
entry_from least first (Some block) low is = λ queue. let from = is queue in omega (arith, low, from)

entries_from : (least first : ℕ) (es : List (ℕ × EntryPlace)) → least ≤ first → Each (λ e. IsEntryPlacedFrom first e.1.block) es → Each (λ e. IsEntryPlacedFrom least e.1.block) es
entries_from least first [] low is = tt
entries_from least first (e ∷ es) low is = (entry_from least first e.1.block low is.0, entries_from least first es low is.1)

key_from : (least first : ℕ) (s : Option StoredValue) → least ≤ first → IsPlacedFrom first s → IsPlacedFrom least s
key_from least first None low is = tt
key_from least first (Some stored) low is = λ queue. let from = is queue in omega (arith, low, from)

pub front_lost : (blocks : Blocks) (numbered : List FileBatch) (owed : Owed) (t : Tables) (q : Queues) (first least : ℕ) (front stay : List Batch) → StandForQueues blocks numbered owed t q → q.appended_since ≡ [] → OwesNothing owed → AreEntriesPlacedFrom first t → AreKeysPlacedFrom first t
    → least ≤ first → batches_of numbered ≡ front ++ batches_of (from_file least numbered) → q.appended ≡ front ++ stay → StandForQueues blocks (from_file least numbered) owed t (record q { older = q.older ++ front; appended = stay })
front_lost blocks numbered owed t q first least front stay s none nothing entries keys low parts split =
    let x = effect (rewrites q) in
    let rest = batches_of (from_file least numbered) in
    let from_entries : AreEntriesPlacedFrom least t = λ g. entries_from least first (or_empty (t g)).entries low (entries g) in
    let from_keys : AreKeysPlacedFrom least t = λ g k. key_from least first ((or_empty (t g)).keys k) low (keys g k) in
    let same = front_may_go blocks (rewrites q) numbered front owed t least s.rewritten_consecutive s.appended_consecutive parts nothing from_entries from_keys s.stand in
    let is_stay : rest ≡ stay = same_rest front rest stay (sym parts ∙ all_synced blocks numbered owed t q s none ∙ split) in
    record {
      batches = is_stay ∙ sym (ap (λ bs. stay ++ bs) none ∙ append-nil stay);
      appended_consecutive = (consecutive_parts front rest (subst HaveConsecutiveEntries parts s.appended_consecutive)).1;
      rewritten_consecutive = s.rewritten_consecutive;
      rewritten_below = s.rewritten_below;
      stand = front_gone blocks x numbered owed t least same from_entries from_keys s.stand;
    }
