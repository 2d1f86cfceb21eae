-- Entries and values that are written to the Rewrite queue again.
use Rattle.std.proofs.Common.{◌≡◌, ℕ, ◌+◌, ◌<◌, ◌==◌, ◌&&◌, ◌⊎◌, inl, inr, Bool, true, false, cond, eqb, List, [], ◌∷◌, ◌++◌, length, Option, Some, None, refl, sym, ◌∙◌, ap, subst, ⊎_elim, arith}
use Rattle.std.specs.List.{Contains, AllByRecursion as Each}
use Rattle.std.specs.Option.{option_map}
use Rattle.std.proofs.lemmas.Bool.{and_parts, false≢true}
use Rattle.std.proofs.lemmas.List.{map-append}
use Rattle.std.proofs.lemmas.List.Elements.{Contains-append_cases, Contains-append_left, Contains-append_right}
use Rattle.raft_base.specs.declared.pipe_log.FileId.{FileId}
use Rattle.raft_records.specs.declared.entry_index.EntryPlace.{EntryPlace}
use Rattle.raft_records.specs.Contents.{Contents, after_item, is_next_to, with_entries}
use Rattle.raft_records.specs.Item.{Entry, Entries, Item}
use Rattle.raft_records.specs.PlacedItem.{EntriesAt}
use Rattle.raft_records.specs.Places.{Blocks, entry_in, entries_in}
use Rattle.raft_records.specs.Validity.{are_consecutive_from}
use Rattle.raft_recovery_laws.specs.Consecutive.{HasConsecutiveEntries, HaveConsecutiveEntries, are_consecutive}
use Rattle.raft_recovery_laws.specs.Recovered.{leaves, replay}
use Rattle.raft_recovery_laws.specs.Rewriting.{ChangesNothing, FitsRewrite}
use Rattle.raft_recovery_laws.proofs.ContentsLemmas.{replay_consecutive}
use Rattle.raft_recovery_laws.proofs.MarkLemmas.{contents_ext}
use Rattle.raft_recovery_laws.proofs.UnchangedLemmas.{rewriting_changes_nothing}
use Rattle.raft_tables.specs.Counters.{is_rewritten}
use Rattle.raft_tables.specs.MovedEntries.{entries_moved}
use Rattle.raft_tables.specs.Moving.{table_moved, tables_moved_by}
use Rattle.raft_tables.specs.Table.{StoredValue, TableView}
use Rattle.raft_tables.specs.Tables.{Tables, contents_in, or_empty}
use Rattle.raft_tables.specs.Owed.{Marks, Owed}
use Rattle.raft_index_laws.specs.Rewriting.{ArePart, GetPlaces}
use Rattle.raft_records.specs.FileBatches.{FileBatch, batches_of}
use Rattle.raft_index_laws.specs.Standing.{EntriesStand, EntryStands, GroupStands, KeyStands, KeysStand, TablesStandFor, are_rewritten, ends_leave, ends_leave_key}
use Rattle.raft_index_laws.proofs.DropLemmas.{placed_of, placed_run}
use Rattle.raft_recovery_laws.proofs.EachLemmas.{all_of, consecutive_parts, each_contained, each_left, each_right, run_left, run_right, within}
use Rattle.raft_index_laws.proofs.FitLemmas.{none_left_behind, rewritten_are_held, touching}
use Rattle.raft_index_laws.proofs.KeyLemmas.{eq_from_test, eq_self}
use Rattle.raft_index_laws.proofs.MovedLemmas.{group_moved}
use Rattle.raft_index_laws.proofs.MovingLemmas.{middle_moves}

-- a part of a group's entries fits the Rewrite queue
pub part_fits : (blocks : Blocks) (x : Contents) (appended : List FileBatch) (marks : Marks) (group : ℕ) (pre : List (ℕ × EntryPlace)) (m : ℕ × EntryPlace) (ms post : List (ℕ × EntryPlace))
    → are_consecutive (x.entries group) ≡ true → are_consecutive (entries_in blocks (pre ++ m ∷ (ms ++ post))) ≡ true
    → (replay x (batches_of appended)).entries group ≡ entries_in blocks (pre ++ m ∷ (ms ++ post))
    → Each (EntryStands blocks (ends_leave appended group) marks (x.entries group)) (pre ++ m ∷ (ms ++ post)) → are_rewritten pre ≡ true → Each (λ e. is_rewritten e.1 ≡ false) post
    → FitsRewrite x (batches_of appended) group (entry_in blocks m) (entries_in blocks ms)
part_fits blocks x appended marks group pre m ms post run_x run now each rewritten rest = record {
  held = all_of (λ n. leaves (batches_of appended) group n.0 ≡ true → Contains ((replay x (batches_of appended)).entries group) n) new
      (λ n is _. subst (λ (xs : List Entry). Contains xs n) (sym (now ∙ split)) (Contains-append_right (entries_in blocks pre) (new ++ entries_in blocks post) n (Contains-append_left new (entries_in blocks post) n is)));
  covers = all_of (λ o. leaves (batches_of appended) group o.0 ≡ true → (o.0 < e.0) ⊎ Contains new o) ((replay x (batches_of appended)).entries group)
      (λ o is left. ⊎_elim (λ before. inl (below o before))
      (λ later. ⊎_elim (λ among. inr among) (λ behind. absurd (false≢true (sym (taken o behind) ∙ left))) (Contains-append_cases new (entries_in blocks post) o later))
      (Contains-append_cases (entries_in blocks pre) (new ++ entries_in blocks post) o (subst (λ (xs : List Entry). Contains xs o) (now ∙ split) is)));
  touches = all_of (λ o. leaves (batches_of appended) group o.0 ≡ true → o.0 < e.0 → is_next_to old e.0 ≡ true) ((replay x (batches_of appended)).entries group)
      (λ o is left low. touching old (entries_in blocks pre) e (entries_in blocks ms ++ entries_in blocks post) run_x run_split (rewritten_are_held blocks (ends_leave appended group) marks old pre rewritten (each_left P pre (m ∷ (ms ++ post)) each)) o (subst (λ (xs : List Entry). Contains xs o) (now ∙ split) is) low);
}
  where
    P : ℕ × EntryPlace → Type 0
    P = EntryStands blocks (ends_leave appended group) marks (x.entries group)

    old : List Entry
    old = x.entries group

    e : Entry
    e = entry_in blocks m

    new : List Entry
    new = e ∷ entries_in blocks ms

    split : entries_in blocks (pre ++ m ∷ (ms ++ post)) ≡ entries_in blocks pre ++ (e ∷ (entries_in blocks ms ++ entries_in blocks post))
    split = map-append (entry_in blocks) pre (m ∷ (ms ++ post)) ∙ ap (λ r. entries_in blocks pre ++ (e ∷ r)) (map-append (entry_in blocks) ms post)

    run_split : are_consecutive (entries_in blocks pre ++ (e ∷ (entries_in blocks ms ++ entries_in blocks post))) ≡ true
    run_split = subst (λ (xs : List Entry). are_consecutive xs ≡ true) split run

    below : (o : Entry) → Contains (entries_in blocks pre) o → o.0 < e.0
    below o has = at (entries_in blocks pre) refl
      where
        at : (ps : List Entry) → entries_in blocks pre ≡ ps → o.0 < e.0
        at [] is = absurd (omega (arith, (subst (λ xs. Contains xs o) is has).1))
        at (p ∷ ps) is =
            let whole = subst (λ xs. are_consecutive (xs ++ (e ∷ (entries_in blocks ms ++ entries_in blocks post))) ≡ true) is run_split in
            let low = within p.0 (p ∷ ps) o (run_left p.0 (p ∷ ps) (e ∷ (entries_in blocks ms ++ entries_in blocks post)) whole) (subst (λ xs. Contains xs o) is has) in
            let start = (consecutive_parts (p.0 + length (p ∷ ps)) e (entries_in blocks ms ++ entries_in blocks post) (run_right p.0 (p ∷ ps) (e ∷ (entries_in blocks ms ++ entries_in blocks post)) whole)).0 in
            omega (arith, low.1, start)

    taken : (o : Entry) → Contains (entries_in blocks post) o → leaves (batches_of appended) group o.0 ≡ false
    taken o has =
        let found = placed_of blocks post o has in
        let p = found.0 in
        let stands = each_contained P post p (each_right P (m ∷ ms) post (each_right P pre (m ∷ (ms ++ post)) each)) found.1 in
        none_left_behind blocks appended group marks old p (each_contained (λ y. is_rewritten y.1 ≡ false) post p rest found.1) stands o.0 (let at : p.0 ≡ o.0 = ap (λ (y : Entry). y.0) found.2 in omega (arith, at))

-- tables

moves_nothing : (watermark : Option ℕ) (new : List (ℕ × EntryPlace)) → entries_moved watermark new [] ≡ []
moves_nothing watermark [] = refl
moves_nothing watermark (n ∷ new) = moves_nothing watermark new

pub entries-moved : (watermark : Option ℕ) (id : FileId) (new : List (ℕ × EntryPlace)) (t : Option TableView) → (or_empty (table_moved watermark id (EntriesAt new) t)).entries ≡ entries_moved watermark new (or_empty t).entries
entries-moved watermark id new None = sym (moves_nothing watermark new)
entries-moved watermark id new (Some v) = refl

pub keys-moved : (watermark : Option ℕ) (id : FileId) (new : List (ℕ × EntryPlace)) (t : Option TableView) (k : List ℕ) → (or_empty (table_moved watermark id (EntriesAt new) t)).keys k ≡ (or_empty t).keys k
keys-moved watermark id new None k = refl
keys-moved watermark id new (Some v) k = refl

pub keys_at : (b : Bool) (u v : Option TableView) (k : List ℕ) → (b ≡ true → (or_empty u).keys k ≡ (or_empty v).keys k) → (or_empty (cond b u v)).keys k ≡ (or_empty v).keys k
keys_at true u v k same = same refl
keys_at false u v k same = refl

-- one part of a group's entries is written again
pub entries_rewritten : (blocks : Blocks) (x : Contents) (appended : List FileBatch) (owed : Owed) (t : Tables) (watermark : Option ℕ) (id : FileId) (group : ℕ) (n : ℕ × EntryPlace) (ns : List (ℕ × EntryPlace))
    → HasConsecutiveEntries x → HaveConsecutiveEntries (batches_of appended) → (owed group).cleaned ≡ false → ArePart watermark blocks (or_empty (t group)).entries (n ∷ ns) → TablesStandFor blocks x appended owed t
    → ChangesNothing x (batches_of appended) (record { group = group; content = Entries (entries_in blocks (n ∷ ns)) })
    × TablesStandFor blocks (after_item x (record { group = group; content = Entries (entries_in blocks (n ∷ ns)) })) appended owed (tables_moved_by watermark id t (record { group = group; content = EntriesAt (n ∷ ns) }))
entries_rewritten blocks x appended owed t watermark id group n ns run_x run clean part stands = at part.mid refl
  where
    es : List (ℕ × EntryPlace)
    es = (or_empty (t group)).entries

    item : Item
    item = record { group = group; content = Entries (entries_in blocks (n ∷ ns)) }

    u : Tables
    u = tables_moved_by watermark id t (record { group = group; content = EntriesAt (n ∷ ns) })

    now_run : are_consecutive ((replay x (batches_of appended)).entries group) ≡ true
    now_run = replay_consecutive x (batches_of appended) run_x run group

    now : (replay x (batches_of appended)).entries group ≡ entries_in blocks es
    now = sym (ap (λ (m : Contents). m.entries group) stands.contents)

    at : (mid : List (ℕ × EntryPlace)) → part.mid ≡ mid → ChangesNothing x (batches_of appended) item × TablesStandFor blocks (after_item x item) appended owed u
    at [] is = absurd (subst (λ (xs : List (ℕ × EntryPlace)). GetPlaces watermark xs (n ∷ ns)) is part.places)
    at (m ∷ ms) is = (unchanged, record { contents = same_contents ∙ stands.contents ∙ sym unchanged; entries = entries; keys = keys })
      where
        parts : es ≡ part.pre ++ m ∷ (ms ++ part.post)
        parts = part.parts ∙ ap (λ xs. part.pre ++ (xs ++ part.post)) is

        bytes : entries_in blocks (n ∷ ns) ≡ entries_in blocks (m ∷ ms)
        bytes = part.bytes ∙ ap (entries_in blocks) is

        places : GetPlaces watermark (m ∷ ms) (n ∷ ns)
        places = subst (λ (xs : List (ℕ × EntryPlace)). GetPlaces watermark xs (n ∷ ns)) is part.places

        run_parts : are_consecutive (entries_in blocks (part.pre ++ m ∷ (ms ++ part.post))) ≡ true
        run_parts = subst (λ xs. are_consecutive (entries_in blocks xs) ≡ true) parts (subst (λ (xs : List Entry). are_consecutive xs ≡ true) now now_run)

        fits : FitsRewrite x (batches_of appended) group (entry_in blocks m) (entries_in blocks ms)
        fits = part_fits blocks x appended (owed group) group part.pre m ms part.post (run_x group) run_parts (now ∙ ap (entries_in blocks) parts)
            (subst (Each (EntryStands blocks (ends_leave appended group) (owed group) (x.entries group))) parts (stands.entries group).each) part.first part.rest

        -- the first index of the whole, and each of its parts
        whole : (k : ℕ) × (are_consecutive_from k (part.pre ++ m ∷ (ms ++ part.post)) ≡ true)
        whole = from (part.pre ++ m ∷ (ms ++ part.post)) refl
          where
            from : (xs : List (ℕ × EntryPlace)) → part.pre ++ m ∷ (ms ++ part.post) ≡ xs → (k : ℕ) × (are_consecutive_from k (part.pre ++ m ∷ (ms ++ part.post)) ≡ true)
            from [] none = (0, subst (λ xs. are_consecutive_from 0 xs ≡ true) (sym none) refl)
            from (f ∷ fs) some = (f.0, subst (λ xs. are_consecutive_from f.0 xs ≡ true) (sym some) (placed_run blocks (entries_in blocks (part.pre ++ m ∷ (ms ++ part.post))) (part.pre ++ m ∷ (ms ++ part.post)) refl run_parts f fs some))

        new_run : are_consecutive (entries_in blocks (m ∷ ms)) ≡ true
        new_run =
            let k = whole.0 + length part.pre in
            let behind = run_left k (m ∷ ms) part.post (run_right whole.0 part.pre (m ∷ (ms ++ part.post)) whole.1) in
            let start = (consecutive_parts k m ms behind).0 in
            indexed m.0 (m ∷ ms) (subst (λ i. are_consecutive_from i (m ∷ ms) ≡ true) (sym start) behind)
          where
            indexed : (i : ℕ) (xs : List (ℕ × EntryPlace)) → are_consecutive_from i xs ≡ true → are_consecutive_from i (entries_in blocks xs) ≡ true
            indexed i [] is = refl
            indexed i (y ∷ ys) is = let both = and_parts (eqb y.0 i) (are_consecutive_from (i + 1) ys) is in ap (λ b. b && are_consecutive_from (i + 1) (entries_in blocks ys)) both.0 ∙ indexed (i + 1) ys both.1

        unchanged : ChangesNothing x (batches_of appended) item
        unchanged = subst (λ (xs : List Entry). ChangesNothing x (batches_of appended) (record { group = group; content = Entries xs })) (sym bytes)
            (rewriting_changes_nothing x (batches_of appended) group (entry_in blocks m) (entries_in blocks ms) run (run_x group) new_run fits)

        moved : (or_empty (u group)).entries ≡ part.pre ++ n ∷ (ns ++ part.post)
        moved =
            ap (λ b. (or_empty (cond b (table_moved watermark id (EntriesAt (n ∷ ns)) (t group)) (t group))).entries) (eq_self group) ∙ entries-moved watermark id (n ∷ ns) (t group)
            ∙ ap (entries_moved watermark (n ∷ ns)) parts ∙ middle_moves watermark whole.0 part.pre (m ∷ ms) (n ∷ ns) part.post whole.1 places

        same_bytes : entries_in blocks (part.pre ++ n ∷ (ns ++ part.post)) ≡ entries_in blocks (part.pre ++ m ∷ (ms ++ part.post))
        same_bytes =
            map-append (entry_in blocks) part.pre ((n ∷ ns) ++ part.post) ∙ ap (λ xs. entries_in blocks part.pre ++ xs) (map-append (entry_in blocks) (n ∷ ns) part.post ∙ ap (λ xs. xs ++ entries_in blocks part.post) bytes ∙ sym (map-append (entry_in blocks) (m ∷ ms) part.post))
            ∙ sym (map-append (entry_in blocks) part.pre ((m ∷ ms) ++ part.post))

        same_contents : contents_in blocks u ≡ contents_in blocks t
        same_contents = contents_ext (contents_in blocks u) (contents_in blocks t) (λ g. entries_same g (g == group) refl) (λ g k. ap (option_map (λ (s : StoredValue). s.0)) (keys_same g k))
          where
            entries_same : (g : ℕ) (b : Bool) → (g == group) ≡ b → entries_in blocks (or_empty (cond b (table_moved watermark id (EntriesAt (n ∷ ns)) (t group)) (t g))).entries ≡ entries_in blocks (or_empty (t g)).entries
            entries_same g true here =
                ap (entries_in blocks) (sym (ap (λ b. (or_empty (cond b (table_moved watermark id (EntriesAt (n ∷ ns)) (t group)) (t group))).entries) (eq_self group)) ∙ moved) ∙ same_bytes ∙ sym (ap (entries_in blocks) parts)
                ∙ sym (ap (λ h. entries_in blocks (or_empty (t h)).entries) (eq_from_test g group here))
            entries_same g false other = refl

            keys_same : (g : ℕ) (k : List ℕ) → (or_empty (u g)).keys k ≡ (or_empty (t g)).keys k
            keys_same g k = keys_at (g == group) (table_moved watermark id (EntriesAt (n ∷ ns)) (t group)) (t g) k (λ here. keys-moved watermark id (n ∷ ns) (t group) k ∙ sym (ap (λ h. (or_empty (t h)).keys k) (eq_from_test g group here)))

        keys : KeysStand (after_item x item) appended owed u
        keys g k = subst (λ s. KeyStands (ends_leave_key appended g k) (owed g) (x.value g k) k s)
            (sym (keys_at (g == group) (table_moved watermark id (EntriesAt (n ∷ ns)) (t group)) (t g) k (λ here. keys-moved watermark id (n ∷ ns) (t group) k ∙ sym (ap (λ h. (or_empty (t h)).keys k) (eq_from_test g group here))))) (stands.keys g k)

        entries : EntriesStand blocks (after_item x item) appended owed u
        entries g = by (g == group) refl
          where
            by : (b : Bool) → (g == group) ≡ b → GroupStands blocks (ends_leave appended g) (owed g) (cond b (with_entries (x.entries group) (entries_in blocks (n ∷ ns))) (x.entries g)) (or_empty (cond b (table_moved watermark id (EntriesAt (n ∷ ns)) (t group)) (t g))).entries
            by true here =
                subst (λ (h : ℕ). GroupStands blocks (ends_leave appended h) (owed h) (with_entries (x.entries group) (entries_in blocks (n ∷ ns))) (or_empty (table_moved watermark id (EntriesAt (n ∷ ns)) (t group))).entries) (sym (eq_from_test g group here))
                (subst (GroupStands blocks (ends_leave appended group) (owed group) (with_entries (x.entries group) (entries_in blocks (n ∷ ns)))) (sym (sym (ap (λ b. (or_empty (cond b (table_moved watermark id (EntriesAt (n ∷ ns)) (t group)) (t group))).entries) (eq_self group)) ∙ moved))
                (subst (λ (xs : List Entry). GroupStands blocks (ends_leave appended group) (owed group) (with_entries (x.entries group) xs) (part.pre ++ n ∷ (ns ++ part.post))) (sym bytes)
                (group_moved blocks (ends_leave appended group) (owed group) (x.entries group) whole.0 part.pre m ms n ns part.post (run_x group) whole.1 part.first part.rest part.written places.0 bytes clean
                (subst (GroupStands blocks (ends_leave appended group) (owed group) (x.entries group)) parts (stands.entries group)))))
            by false other = stands.entries g
