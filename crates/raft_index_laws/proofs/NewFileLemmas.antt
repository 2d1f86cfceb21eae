-- New files of the Rewrite queue hold what is placed there, and old ones may go.
use Rattle.std.proofs.Common.{◌≡◌, ℕ, ◌<◌, ◌≤◌, ◌&&◌, inl, inr, ⊎_elim, true, false, eqb, List, [], ◌∷◌, ◌++◌, append-nil, append_assoc, map, Option, Some, None, refl, sym, ◌∙◌, ap, subst, arith}
use Rattle.std.specs.List.{Contains, AllByRecursion as Each, flat_map, list_all}
use Rattle.std.specs.Prelude.{◌^◌, ◌-◌, nat_lt}
use Rattle.std.proofs.lemmas.Bool.{and_parts, cases_Bool, false≢true}
use Rattle.std.proofs.lemmas.Bool.Decides.{nat_tests}
use Rattle.std.proofs.lemmas.List.Elements.{Contains-append_right}
use Rattle.raft_base.specs.declared.pipe_log.FileBlockHandle.{FileBlockHandle}
use Rattle.raft_base.specs.declared.pipe_log.FileId.{FileId}
use Rattle.raft_records.specs.Contents.{Contents, after_batch, after_item}
use Rattle.raft_records.specs.declared.entry_index.EntryPlace.{EntryPlace}
use Rattle.raft_records.specs.FileBatches.{FileBatch, batches_of}
use Rattle.raft_records.specs.Item.{Batch, Entries, Entry, Clean, Compact, Put, Delete, Item}
use Rattle.raft_records.specs.PlacedItem.{EntriesAt, Plain, PlacedContent, PlacedItem, are_all_placed, content_in, is_placed_in_order, item_in}
use Rattle.raft_records.specs.Places.{Blocks, entry_in, entries_in}
use Rattle.raft_records.specs.Record.Mark.{End}
use Rattle.raft_records.specs.Validity.{are_consecutive_from}
use Rattle.raft_recovery_laws.specs.Bounds.{AreItemsBelow, IsContentBelow}
use Rattle.raft_recovery_laws.specs.Consecutive.{HasConsecutiveEntries, HaveConsecutiveEntries}
use Rattle.raft_recovery_laws.specs.Dropping.{HoldsLeft, IsLaterPart, ShareNoGroup}
use Rattle.raft_recovery_laws.specs.Groups.{mark_of, places_in}
use Rattle.raft_recovery_laws.specs.Ids.{EndsInGroup, HasIdsBelow, HasIdsFrom}
use Rattle.raft_recovery_laws.specs.Recovered.{effect, items_of, recovered, replay}
use Rattle.raft_recovery_laws.specs.Stands.{Queues}
use Rattle.raft_recovery_laws.specs.Takes.{CanDropOld}
use Rattle.raft_recovery_laws.specs.Together.{IsCut, StandTogether}
use Rattle.raft_recovery_laws.proofs.ContentsLemmas.{effect_consecutive, items-append}
use Rattle.raft_recovery_laws.proofs.DropRewriteLemmas.{effect-cut, later_part}
use Rattle.raft_recovery_laws.proofs.EachLemmas.{each_map, each_right}
use Rattle.raft_recovery_laws.proofs.FixedLemmas.{consecutive_parts}
use Rattle.raft_recovery_laws.proofs.GroupLemmas.{effect-unmarked, none_of_others}
use Rattle.raft_recovery_laws.proofs.TogetherLemmas.{both_without, old_may_go, parts_without, unmarked_place}
use Rattle.raft_tables.specs.Counters.{is_rewritten}
use Rattle.raft_tables.specs.Moving.{tables_moved, tables_moved_by}
use Rattle.raft_tables.specs.Owed.{Owed}
use Rattle.raft_tables.specs.Table.{StoredValue}
use Rattle.raft_tables.specs.Tables.{Tables, or_empty}
use Rattle.raft_index_laws.specs.ForQueues.{StandForQueues}
use Rattle.raft_index_laws.specs.Standing.{TablesStandFor}
use Rattle.raft_index_laws.proofs.KeyLemmas.{eq_self, in_rewrite}
use Rattle.raft_index_laws.specs.AtomicGroup.{bodies_in, ended_group, last_body, marked, next_mark, open_group, set_by_parts}
use Rattle.raft_index_laws.specs.DroppingOld.{AreRewrittenBefore, AreRewrittenFrom, HoldsFrom, IsHeldFrom, IsRewrittenBefore, IsValueHeldFrom, IsValueRewrittenBefore}
use Rattle.raft_index_laws.specs.Gathering.{AreSetApart, IsFetchedContent, IsGathered, key_set_by}
use Rattle.raft_index_laws.specs.NewFiles.{HasNewFiles}
use Rattle.raft_index_laws.specs.Rewriting.{placed_entries_item}
use Rattle.raft_index_laws.proofs.AtomicStepLemmas.{after_ended, after_open, ended_of, set_at_once, some_bodies}
use Rattle.raft_index_laws.proofs.DropOldLemmas.{old_gone, old_may_go as old_held}
use Rattle.raft_index_laws.proofs.FitsLemmas.{unmarked}
use Rattle.raft_index_laws.proofs.GatherLemmas.{table_run}
use Rattle.raft_index_laws.proofs.GroupIdLemmas.{ends_more}
use Rattle.raft_index_laws.proofs.HeldLemmas.{holds_entries, holds_value}
use Rattle.raft_index_laws.proofs.MatchLemmas.{all_given, apart_too, each_still, entries_left, fetched_item, head_same, is_given, no_cons, part_again, put_of, set_entries, tail_same, unlike}
use Rattle.raft_index_laws.proofs.MovedGroupLemmas.{merged, merged_same}
use Rattle.raft_index_laws.proofs.StepLemmas.{all_synced, held_run, no_mark_held, rewrites, with_rewritten_batch}

-- What the new files hold.

abbrev Run : Tables → ℕ → Type 0
Run t g = (k : ℕ) × (are_consecutive_from k (or_empty (t g)).entries ≡ true)

hold_entries : (blocks : Blocks) (first : ℕ) (y : Contents) (t : Tables) (seq g : ℕ) (e : ℕ × EntryPlace) (es : List (ℕ × EntryPlace)) (c : PlacedContent) → IsFetchedContent None t g (EntriesAt (e ∷ es)) → Run t g → content_in blocks c ≡ Entries (entries_in blocks (e ∷ es)) → is_given c ≡ true → are_all_placed is_rewritten c ≡ true → HoldsFrom blocks first y t
    → HoldsFrom blocks first (after_item y (record { group = g; content = content_in blocks c })) (tables_moved_by None (in_rewrite seq) t (record { group = g; content = c }))
hold_entries blocks first y t seq g e es (EntriesAt []) from run same given placed holds = absurd (no_cons (entry_in blocks e) (entries_in blocks es) (ap set_entries same))
hold_entries blocks first y t seq g e es (EntriesAt (n ∷ ns)) from run same given placed holds =
    let part = part_again None blocks t g e es n ns from (ap set_entries same) placed in
    holds_entries blocks first y t None (in_rewrite seq) g n ns run.0 run.1 part.0 (part.1 refl) holds
hold_entries blocks first y t seq g e es (Plain (Entries xs)) from run same given placed holds = absurd (false≢true given)
hold_entries blocks first y t seq g e es (Plain Clean) from run same given placed holds = absurd (unlike Clean (Entries (entries_in blocks (e ∷ es))) same (λ is. omega (arith, is)))
hold_entries blocks first y t seq g e es (Plain (Compact index)) from run same given placed holds = absurd (unlike (Compact index) (Entries (entries_in blocks (e ∷ es))) same (λ is. omega (arith, is)))
hold_entries blocks first y t seq g e es (Plain (Put key value)) from run same given placed holds = absurd (unlike (Put key value) (Entries (entries_in blocks (e ∷ es))) same (λ is. omega (arith, is)))
hold_entries blocks first y t seq g e es (Plain (Delete key)) from run same given placed holds = absurd (unlike (Delete key) (Entries (entries_in blocks (e ∷ es))) same (λ is. omega (arith, is)))

hold_one : (blocks : Blocks) (first : ℕ) (y : Contents) (t : Tables) (seq g : ℕ) (d c : PlacedContent) → IsFetchedContent None t g d → (key_set_by d ≡ None → Run t g) → content_in blocks c ≡ content_in blocks d → is_given c ≡ true → are_all_placed is_rewritten c ≡ true → HoldsFrom blocks first y t
    → HoldsFrom blocks first (after_item y (record { group = g; content = content_in blocks c })) (tables_moved_by None (in_rewrite seq) t (record { group = g; content = c }))
hold_one blocks first y t seq g (EntriesAt []) c from run same given placed holds = absurd from
hold_one blocks first y t seq g (EntriesAt (e ∷ es)) c from run same given placed holds = hold_entries blocks first y t seq g e es c from (run refl) same given placed holds
hold_one blocks first y t seq g (Plain (Entries xs)) c from run same given placed holds = absurd from
hold_one blocks first y t seq g (Plain Clean) c from run same given placed holds = absurd from
hold_one blocks first y t seq g (Plain (Compact index)) c from run same given placed holds = absurd from
hold_one blocks first y t seq g (Plain (Put key value)) c from run same given placed holds =
    subst (λ (b : PlacedContent). HoldsFrom blocks first (after_item y (record { group = g; content = content_in blocks b })) (tables_moved_by None (in_rewrite seq) t (record { group = g; content = b }))) (sym (put_of blocks key value c same))
    (holds_value blocks first y t None seq g key value from holds)
hold_one blocks first y t seq g (Plain (Delete key)) c from run same given placed holds = absurd from

runs_still : (t : Tables) (f : FileId) (n : PlacedItem) (items : List PlacedItem) → Each (λ i. n.group ≡ i.group → key_set_by n.content ≡ key_set_by i.content → ⊥) items → Each (λ i. key_set_by i.content ≡ None → Run t i.group) items → Each (λ i. key_set_by i.content ≡ None → Run (tables_moved_by None f t n) i.group) items
runs_still t f n [] apart runs = tt
runs_still t f n (i ∷ items) apart runs =
    (λ none. let r = runs.0 none in (r.0, subst (λ es. are_consecutive_from r.0 es ≡ true) (sym (entries_left None f t n i.group (λ group key. apart.0 group (key ∙ sym none)))) r.1), runs_still t f n items apart.1 runs.1)

hold_all : (blocks : Blocks) (first : ℕ) (owed : Owed) (y : Contents) (t : Tables) (seq : ℕ) (items news : List PlacedItem) → Each (fetched_item None owed t) items → Each (λ i. key_set_by i.content ≡ None → Run t i.group) items → AreSetApart items → map (item_in blocks) news ≡ map (item_in blocks) items
    → list_all (λ item. is_given item.content) news ≡ true → list_all (λ item. are_all_placed is_rewritten item.content) news ≡ true → HoldsFrom blocks first y t → HoldsFrom blocks first (after_batch y (map (item_in blocks) news)) (tables_moved None (in_rewrite seq) t news)
hold_all blocks first owed y t seq [] [] each runs apart same given placed holds = holds
hold_all blocks first owed y t seq [] (n ∷ news) each runs apart same given placed holds = absurd (no_cons (item_in blocks n) (map (item_in blocks) news) (sym same))
hold_all blocks first owed y t seq (i ∷ items) [] each runs apart same given placed holds = holds
hold_all blocks first owed y t seq (i ∷ items) (n ∷ news) each runs apart same given placed holds =
    let givens = and_parts (is_given n.content) (list_all (λ item. is_given item.content) news) given in
    let places = and_parts (are_all_placed is_rewritten n.content) (list_all (λ item. are_all_placed is_rewritten item.content) news) placed in
    let one = head_same (item_in blocks n) (item_in blocks i) (map (item_in blocks) news) (map (item_in blocks) items) same in
    let group : n.group ≡ i.group = ap (λ (x : Item). x.group) one in
    let content : content_in blocks n.content ≡ content_in blocks i.content = ap (λ (x : Item). x.content) one in
    let others = apart_too blocks n i items one apart.0 in
    let next = hold_one blocks first y t seq n.group i.content n.content (subst (λ (g : ℕ). IsFetchedContent None t g i.content) (sym group) each.0.1) (subst (λ (g : ℕ). key_set_by i.content ≡ None → Run t g) (sym group) runs.0) content givens.0 places.0 holds in
    hold_all blocks first owed (after_item y (item_in blocks n)) (tables_moved_by None (in_rewrite seq) t n) seq items news (each_still None (in_rewrite seq) owed t n items others each.1) (runs_still t (in_rewrite seq) n items others runs.1) apart.1
    (tail_same (item_in blocks n) (item_in blocks i) (map (item_in blocks) news) (map (item_in blocks) items) same) givens.1 places.1 next

all_runs : (t : Tables) (items : List PlacedItem) → ((g : ℕ) → Run t g) → Each (λ i. key_set_by i.content ≡ None → Run t i.group) items
all_runs t [] run = tt
all_runs t (i ∷ items) run = (λ none. run i.group, all_runs t items run)

pub tables_run : (blocks : Blocks) (numbered : List FileBatch) (owed : Owed) (t : Tables) (q : Queues) → StandForQueues blocks numbered owed t q → (g : ℕ) → Run t g
tables_run blocks numbered owed t q s g = table_run blocks (effect (rewrites q)) numbered owed t g (held_run blocks numbered owed t q s) s.appended_consecutive s.stand

-- The batches of both files.

more_batches : (q : Queues) (old new : List Batch) (batch : Batch) → q.rewritten ++ q.rewritten_since ≡ old ++ new → q.rewritten ++ (q.rewritten_since ++ batch ∷ []) ≡ old ++ (new ++ batch ∷ [])
more_batches q old new batch is = sym (append_assoc q.rewritten q.rewritten_since (batch ∷ [])) ∙ ap (λ bs. bs ++ batch ∷ []) is ∙ append_assoc old new (batch ∷ [])

entry_before : (first : ℕ) (held : List Entry) (e : Entry) (b : Option FileBlockHandle) → IsRewrittenBefore first b → IsHeldFrom first held e b
entry_before first held e None before = tt
entry_before first held e (Some block) before = λ queue from. let low = before queue in absurd (omega (arith, low, from))

value_before : (first : ℕ) (held : Option (List ℕ)) (s : Option StoredValue) → IsValueRewrittenBefore first s → IsValueHeldFrom first held s
value_before first held None before = tt
value_before first held (Some stored) before = λ queue from. let low = before queue in absurd (omega (arith, low, from))

pub rotated : (blocks : Blocks) (t : Tables) (q : Queues) (first bound : ℕ) → AreRewrittenBefore first t → StandTogether (rewrites q) → HasIdsBelow bound (rewrites q) → HasNewFiles blocks first bound (rewrites q) [] t q
rotated blocks t q first bound before together below = record {
  batches = sym (append-nil (rewrites q));
  together = together;
  old_ids = below;
  new_ids = λ id low. refl;
  holds = record {
    entries = λ g. each_map (λ e. IsRewrittenBefore first e.1.block) (λ e. IsHeldFrom first [] (entry_in blocks e) e.1.block) (or_empty (t g)).entries (λ e is. entry_before first [] (entry_in blocks e) e.1.block is) (before.entries g);
    keys = λ g k. value_before first None ((or_empty (t g)).keys k) (before.keys g k);
  };
}

pub new_written : (blocks : Blocks) (numbered : List FileBatch) (owed : Owed) (t : Tables) (q : Queues) (first bound seq : ℕ) (old new : List Batch) (items news : List PlacedItem) → StandForQueues blocks numbered owed t q → HasNewFiles blocks first bound old new t q → IsGathered None owed t items
    → map (item_in blocks) news ≡ map (item_in blocks) items → list_all (λ item. is_placed_in_order item.content) news ≡ true → list_all (λ item. are_all_placed is_rewritten item.content) news ≡ true
    → HasNewFiles blocks first bound old (new ++ map (item_in blocks) news ∷ []) (tables_moved None (in_rewrite seq) t news) (with_rewritten_batch (map (item_in blocks) news) q)
new_written blocks numbered owed t q first bound seq old new items news s h gathered same order placed =
    let batch = map (item_in blocks) news in
    let no_mark = subst (λ (b : Batch). mark_of b ≡ None) (sym same) (unmarked blocks (effect (rewrites q)) numbered owed t None items (no_mark_held q) s.stand gathered.each) in
    record {
      batches = more_batches q old new batch h.batches;
      together = h.together;
      old_ids = h.old_ids;
      new_ids = λ id low. both_without id new (batch ∷ []) (h.new_ids id low) (unmarked_place id batch no_mark);
      holds = subst (λ (y : Contents). HoldsFrom blocks first y (tables_moved None (in_rewrite seq) t news)) (sym (effect-unmarked new batch no_mark))
          (hold_all blocks first owed (effect new) t seq items news gathered.each (all_runs t items (tables_run blocks numbered owed t q s)) gathered.apart same (all_given news order) placed h.holds);
    }

not_same : (a b c : ℕ) → a < b → b ≤ c → eqb a c ≡ false
not_same a b c low high = grind (arith, nat_tests)

marked_ids : (bound id other : ℕ) (m : _) (body : Batch) → bound ≤ id → other < bound → places_in other (marked id m body ∷ []) ≡ []
marked_ids bound id other m body high low = none_of_others id other (marked id m body ∷ []) (ap (λ t. t && true) (eq_self id)) (not_same other bound id low high)

pub new_opened : (blocks : Blocks) (t : Tables) (q : Queues) (first bound id : ℕ) (old new bodies : List Batch) (body : Batch) → HasNewFiles blocks first bound old new t q → bound ≤ id → EndsInGroup id (open_group id bodies) new
    → let batch = marked id (next_mark bodies) body in
    let next = record q { rewritten_since = q.rewritten_since ++ batch ∷ [] } in
    HasNewFiles blocks first bound old (new ++ batch ∷ []) t next × EndsInGroup id (open_group id (bodies ++ body ∷ [])) (new ++ batch ∷ [])
new_opened blocks t q first bound id old new bodies body h high e =
    let batch = marked id (next_mark bodies) body in (
      record {
        batches = more_batches q old new batch h.batches;
        together = h.together;
        old_ids = h.old_ids;
        new_ids = λ other low. both_without other new (batch ∷ []) (h.new_ids other low) (marked_ids bound id other (next_mark bodies) body high low);
        holds = subst (λ (y : Contents). HoldsFrom blocks first y t) (sym (after_open new id bodies body e)) h.holds;
      },
      ends_more id bodies new body e,
    )

-- an end of the Rewrite queue's batches is one of them too
pub new_run : (blocks : Blocks) (numbered : List FileBatch) (owed : Owed) (t : Tables) (q : Queues) (old new : List Batch) → StandForQueues blocks numbered owed t q → rewrites q ≡ old ++ new → HaveConsecutiveEntries old × HaveConsecutiveEntries new
new_run blocks numbered owed t q old new s is = consecutive_parts old new (subst HaveConsecutiveEntries is s.rewritten_consecutive)

ends_whole : (id : ℕ) (group old new batches : List Batch) → batches ≡ old ++ new → places_in id old ≡ [] → EndsInGroup id group new → EndsInGroup id group batches
ends_whole id group old new batches is none e = record {
  old = old ++ e.old;
  is = is ∙ ap (λ bs. old ++ bs) e.is ∙ sym (append_assoc old e.old group);
  apart = both_without id old e.old none e.apart;
}

pub new_ended : (blocks : Blocks) (numbered : List FileBatch) (owed : Owed) (t : Tables) (q : Queues) (first bound id group seq : ℕ) (old new : List Batch) (parts : List (List (ℕ × EntryPlace))) (part : List (ℕ × EntryPlace)) (values news : List PlacedItem) → StandForQueues blocks numbered owed t q
    → HasNewFiles blocks first bound old new t q → bound ≤ id → EndsInGroup id (open_group id (bodies_in blocks group parts)) new → (parts ≡ [] → ⊥) → IsGathered None owed t (set_by_parts group parts part values)
    → map (item_in blocks) news ≡ items_of (ended_group id (bodies_in blocks group parts) (last_body blocks group part values)) → list_all (λ item. is_placed_in_order item.content) news ≡ true → list_all (λ item. are_all_placed is_rewritten item.content) news ≡ true
    → HasNewFiles blocks first bound old (new ++ marked id End (last_body blocks group part values) ∷ []) (tables_moved None (in_rewrite seq) t news) (with_rewritten_batch (marked id End (last_body blocks group part values)) q)
new_ended blocks numbered owed t q first bound id group seq old new parts part values news s h high e some gathered same order placed =
    let last = last_body blocks group part values in
    let batch = marked id End last in
    let bodies = bodies_in blocks group parts in
    let all = flat_map (λ p. p) parts ++ part in
    let items = set_by_parts group parts part values in
    let whole_ends = ends_whole id (open_group id bodies) old new (rewrites q) h.batches (h.old_ids id high) e in
    let of = ended_of blocks numbered owed t q id group parts part values s whole_ends some gathered in
    let m = merged blocks None (in_rewrite seq) t id group parts part values news some same order placed in
    let one = placed_entries_item group m.new ∷ m.set in
    let one_same = merged_same blocks group m.new all m.set values m.same m.same_values in
    let given : list_all (λ (item : PlacedItem). is_given item.content) one ≡ true = all_given m.set m.order in
    let at : list_all (λ (item : PlacedItem). are_all_placed is_rewritten item.content) one ≡ true = ap (λ b. b && list_all (λ (item : PlacedItem). are_all_placed is_rewritten item.content) m.set) m.written ∙ m.placed in
    let run : HasConsecutiveEntries (effect new) = effect_consecutive new (new_run blocks numbered owed t q old new s h.batches).1 in
    let held = hold_all blocks first owed (effect new) t seq items one gathered.each (all_runs t items (tables_run blocks numbered owed t q s)) gathered.apart one_same given at h.holds in
    let is : effect (new ++ batch ∷ []) ≡ after_batch (effect new) (map (item_in blocks) one) =
    after_ended new id bodies last e (some_bodies blocks group parts some) ∙ set_at_once blocks id group (effect new) parts part values run some of.all_run ∙ ap (after_batch (effect new)) (sym one_same) in
    record {
      batches = more_batches q old new batch h.batches;
      together = h.together;
      old_ids = h.old_ids;
      new_ids = λ other low. both_without other new (batch ∷ []) (h.new_ids other low) (marked_ids bound id other End last high low);
      holds = subst (λ (y : Contents). HoldsFrom blocks first y (tables_moved None (in_rewrite seq) t news)) (sym is) (subst (HoldsFrom blocks first (after_batch (effect new) (map (item_in blocks) one))) (sym m.moved) held);
    }

-- Old files.

share_none : (bound : ℕ) (old new : List Batch) → HasIdsBelow bound old → HasIdsFrom bound new → ShareNoGroup old new
share_none bound old new below from id = ⊎_elim (λ low. inr (from id (lower id bound low))) (λ high. inl (below id (higher id bound high))) (cases_Bool (nat_lt id bound))
  where
    lower : (a b : ℕ) → nat_lt a b ≡ true → a < b
    lower a b is = grind (arith, nat_tests)

    higher : (a b : ℕ) → nat_lt a b ≡ false → b ≤ a
    higher a b is = grind (arith, nat_tests)

pub old_left : (blocks : Blocks) (numbered : List FileBatch) (owed : Owed) (t : Tables) (q : Queues) (first bound : ℕ) (old new : List Batch) → StandForQueues blocks numbered owed t q → HasNewFiles blocks first bound old new t q → AreRewrittenFrom first t
    → HoldsLeft (effect new) (batches_of numbered) (recovered (old ++ new) (batches_of numbered))
old_left blocks numbered owed t q first bound old new s h from =
    subst (λ (bs : List Batch). HoldsLeft (effect new) (batches_of numbered) (recovered bs (batches_of numbered))) h.batches (old_held blocks (effect (rewrites q)) (effect new) numbered owed t first h.holds from s.stand)

old_found : (blocks : Blocks) (numbered : List FileBatch) (owed : Owed) (t : Tables) (q : Queues) (first bound : ℕ) (old new : List Batch) → StandForQueues blocks numbered owed t q → HasNewFiles blocks first bound old new t q → AreRewrittenFrom first t
    → (front rest : List Batch) → old ≡ front ++ rest → recovered (rest ++ new) (batches_of numbered) ≡ recovered (old ++ new) (batches_of numbered)
old_found blocks numbered owed t q first bound old new s h from =
    let runs = new_run blocks numbered owed t q old new s h.batches in
    old_may_go old new (batches_of numbered) h.together (share_none bound old new h.old_ids h.new_ids) runs.0 runs.1 s.appended_consecutive (old_left blocks numbered owed t q first bound old new s h from)

pub old_can : (blocks : Blocks) (numbered : List FileBatch) (owed : Owed) (t : Tables) (q : Queues) (first bound : ℕ) (old new : List Batch) → StandForQueues blocks numbered owed t q → HasNewFiles blocks first bound old new t q → q.appended_since ≡ [] → q.rewritten_since ≡ [] → AreRewrittenFrom first t → CanDropOld old q
old_can blocks numbered owed t q first bound old new s h none none_rewritten from = record {
  new = new;
  is = sym (ap (λ bs. q.rewritten ++ bs) none_rewritten ∙ append-nil q.rewritten) ∙ h.batches;
  found = λ front rest is. subst (λ (bs : List Batch). recovered (rest ++ new) bs ≡ recovered (old ++ new) bs) (all_synced blocks numbered owed t q s none) (old_found blocks numbered owed t q first bound old new s h from front rest is);
  synced = none_rewritten;
}

holds_more : (blocks : Blocks) (first : ℕ) (x y : Contents) (t : Tables) → IsLaterPart x y → HoldsFrom blocks first x t → HoldsFrom blocks first y t
holds_more blocks first x y t part holds = record {
  entries = λ g. each_map (λ e. IsHeldFrom first (x.entries g) (entry_in blocks e) e.1.block) (λ e. IsHeldFrom first (y.entries g) (entry_in blocks e) e.1.block) (or_empty (t g)).entries
      (λ e is. entry_more g (entry_in blocks e) e.1.block is) (holds.entries g);
  keys = λ g k. value_more g k ((or_empty (t g)).keys k) (holds.keys g k);
}
  where
    entry_more : (g : ℕ) (e : Entry) (b : Option FileBlockHandle) → IsHeldFrom first (x.entries g) e b → IsHeldFrom first (y.entries g) e b
    entry_more g e None is = tt
    entry_more g e (Some block) is = λ queue from. subst (λ (es : List Entry). Contains es e) (sym (part.entries g).1) (Contains-append_right (part.entries g).0 (x.entries g) e (is queue from))

    value_more : (g : ℕ) (k : List ℕ) (v : Option StoredValue) → IsValueHeldFrom first (x.value g k) v → IsValueHeldFrom first (y.value g k) v
    value_more g k None is = tt
    value_more g k (Some stored) is = λ queue from. ⊎_elim (λ none. absurd (no_value stored.0 (sym none ∙ is queue from))) (λ same. sym same ∙ is queue from) (part.value g k)
      where
        no_value : (v : List ℕ) → None ≡ Some v → ⊥
        no_value v same = cc

pub old_lost : (blocks : Blocks) (numbered : List FileBatch) (owed : Owed) (t : Tables) (q : Queues) (first bound : ℕ) (old new front rest : List Batch) → StandForQueues blocks numbered owed t q → HasNewFiles blocks first bound old new t q → q.appended_since ≡ [] → q.rewritten_since ≡ [] → AreRewrittenFrom first t
    → old ≡ front ++ rest → StandForQueues blocks numbered owed t (record q { rewritten = rest ++ new })
old_lost blocks numbered owed t q first bound old new front rest s h none none_rewritten from split =
    record {
      batches = s.batches;
      appended_consecutive = s.appended_consecutive;
      rewritten_consecutive = subst HaveConsecutiveEntries (sym no_more) (consecutive_parts front (rest ++ new) (subst HaveConsecutiveEntries all s.rewritten_consecutive)).1;
      rewritten_below = subst (λ (bs : List Batch). AreItemsBelow (2 ^ 64 - 1) (items_of bs)) (sym no_more)
          (each_right (λ (i : Item). IsContentBelow (2 ^ 64 - 1) i.content) (items_of front) (items_of (rest ++ new)) (subst (AreItemsBelow (2 ^ 64 - 1)) (ap items_of all ∙ items-append front (rest ++ new)) s.rewritten_below));
      stand = subst (λ (bs : List Batch). TablesStandFor blocks (effect bs) numbered owed t) (sym no_more) (subst (λ (y : Contents). TablesStandFor blocks y numbered owed t) (sym cut_same) there);
    }
  where
    no_more : (rest ++ new) ++ q.rewritten_since ≡ rest ++ new
    no_more = ap (λ bs. (rest ++ new) ++ bs) none_rewritten ∙ append-nil (rest ++ new)

    all : rewrites q ≡ front ++ (rest ++ new)
    all = h.batches ∙ ap (λ bs. bs ++ new) split ∙ append_assoc front rest new

    share : ShareNoGroup old new
    share = share_none bound old new h.old_ids h.new_ids

    cut : IsCut front rest
    cut = h.together front rest split

    -- the old batches, and those of them that are of no group that began before the cut
    parts : old ≡ (front ++ cut.tail) ++ cut.rest
    parts = split ∙ ap (λ bs. front ++ bs) cut.is ∙ sym (append_assoc front cut.tail cut.rest)

    share_front : ShareNoGroup (front ++ cut.tail) (cut.rest ++ new)
    share_front id = ⊎_elim inl (λ no_rest. ⊎_elim (λ no_old. inl (parts_without id (front ++ cut.tail) cut.rest (ap (places_in id) (sym parts) ∙ no_old)).0) (λ no_new. inr (both_without id cut.rest new no_rest no_new)) (share id)) (cut.apart id)

    share_rest : ShareNoGroup cut.rest new
    share_rest id = ⊎_elim (λ no_old. inl (parts_without id (front ++ cut.tail) cut.rest (ap (places_in id) (sym parts) ∙ no_old)).1) inr (share id)

    cut_same : effect (rest ++ new) ≡ effect (cut.rest ++ new)
    cut_same = ap (λ bs. effect (bs ++ new)) cut.is ∙ ap effect (append_assoc cut.tail cut.rest new) ∙ effect-cut cut.id front cut.tail (cut.rest ++ new) cut.of_group cut.incomplete share_front

    runs : HaveConsecutiveEntries (front ++ cut.tail) × HaveConsecutiveEntries (cut.rest ++ new)
    runs = consecutive_parts (front ++ cut.tail) (cut.rest ++ new) (subst HaveConsecutiveEntries whole s.rewritten_consecutive)
      where
        whole : rewrites q ≡ (front ++ cut.tail) ++ (cut.rest ++ new)
        whole = h.batches ∙ ap (λ bs. bs ++ new) parts ∙ append_assoc (front ++ cut.tail) cut.rest new

    rests : HaveConsecutiveEntries cut.rest × HaveConsecutiveEntries new
    rests = consecutive_parts cut.rest new runs.1

    whole_is : effect (rewrites q) ≡ effect ((front ++ cut.tail) ++ (cut.rest ++ new))
    whole_is = ap effect (h.batches ∙ ap (λ bs. bs ++ new) parts ∙ append_assoc (front ++ cut.tail) cut.rest new)

    later : IsLaterPart (effect (cut.rest ++ new)) (effect (rewrites q))
    later = subst (IsLaterPart (effect (cut.rest ++ new))) (sym whole_is) (later_part (front ++ cut.tail) (cut.rest ++ new) share_front runs.0 runs.1)

    found : replay (effect (cut.rest ++ new)) (batches_of numbered) ≡ replay (effect (rewrites q)) (batches_of numbered)
    found = ap (λ (y : Contents). replay y (batches_of numbered)) (sym cut_same) ∙ old_found blocks numbered owed t q first bound old new s h from front rest split ∙ ap (λ bs. recovered bs (batches_of numbered)) (sym h.batches)

    there : TablesStandFor blocks (effect (cut.rest ++ new)) numbered owed t
    there = old_gone blocks (effect (rewrites q)) (effect (cut.rest ++ new)) numbered owed t first (holds_more blocks first (effect new) (effect (cut.rest ++ new)) t (later_part cut.rest new share_rest rests.0 rests.1) h.holds) from later found s.stand
