-- A front of the Append queue that may be dropped.
use Rattle.std.proofs.Common.{◌≡◌, ℕ, ◌+◌, ◌<◌, ◌≤◌, ◌&&◌, Bool, true, false, eqb, List, [], ◌∷◌, ◌++◌, length, Option, Some, None, suc, refl, sym, ◌∙◌, ap, subst, ⊎_elim, arith}
use Rattle.std.specs.List.{All, Contains, AllByRecursion as Each}
use Rattle.std.specs.Option.{option_map}
use Rattle.std.specs.Prelude.{unwrap_or}
use Rattle.std.proofs.lemmas.Bool.{and_parts, cases_Bool, false≢true}
use Rattle.raft_base.specs.declared.pipe_log.FileBlockHandle.{FileBlockHandle}
use Rattle.raft_base.specs.declared.pipe_log.LogQueue.{LogQueue}
use Rattle.raft_base.specs.declared.pipe_log.LogQueue.TheVariants.{Append, Rewrite}
use Rattle.raft_records.specs.declared.entry_index.EntryPlace.{EntryPlace}
use Rattle.raft_records.specs.Item.{Batch, Entry}
use Rattle.raft_records.specs.Contents.{Contents}
use Rattle.raft_records.specs.Places.{Blocks, entry_in, entries_in}
use Rattle.raft_records.specs.Validity.{are_consecutive_from}
use Rattle.raft_recovery_laws.specs.Consecutive.{HasConsecutiveEntries, HaveConsecutiveEntries, are_consecutive}
use Rattle.raft_recovery_laws.specs.DroppingFront.{HoldsDropped, IsBeside}
use Rattle.raft_recovery_laws.specs.Recovered.{effect, item_leaves, item_leaves_key, leaves, leaves_key, recovered, replay}
use Rattle.raft_recovery_laws.proofs.AscendingLemmas.{Contains-cons_cases, Contains-head, Contains-tail}
use Rattle.raft_recovery_laws.proofs.ContentsLemmas.{effect_consecutive, replay_consecutive}
use Rattle.raft_recovery_laws.proofs.DropFrontLemmas.{recovered-without}
use Rattle.raft_tables.specs.Counters.{is_rewrite, is_rewritten}
use Rattle.raft_tables.specs.Tables.{Tables, contents_in, or_empty}
use Rattle.raft_tables.specs.Owed.{Marks, Owed}
use Rattle.raft_records.specs.FileBatches.{FileBatch, batches_of, from_file}
use Rattle.raft_index_laws.specs.Standing.{AreEntriesPlacedFrom, AreKeysPlacedFrom, EntryStands, GroupStands, HasNoneBefore, HasNoneBehind, IsEntryPlacedFrom, OwesNothing, PlacedEntryStands, StandsInBlock, TablesStandFor, are_rewritten, ends_leave, ends_leave_key}
use Rattle.raft_recovery_laws.proofs.EachLemmas.{all_of, each_contained, within}
use Rattle.raft_index_laws.proofs.EndsLemmas.{from_from, pass-later}
use Rattle.raft_index_laws.proofs.GroupLemmas.{group_dropped}
use Rattle.raft_index_laws.proofs.KeyLemmas.{front_dropped, held_without}

-- an entry that the rest leaves alone is in the Rewrite queue
left_is_held : (first : ℕ) (left : ℕ → ℕ → Bool) (rest : ℕ → Bool) (marks : Marks) (held : List Entry) (e : Entry) (block : Option FileBlockHandle) → ((n i : ℕ) → first ≤ n → left n i ≡ false → rest i ≡ false) → IsEntryPlacedFrom first block
    → StandsInBlock left marks held e block → rest e.0 ≡ true → Contains held e
left_is_held first left rest marks held e None less from stands is = absurd stands
left_is_held first left rest marks held e (Some block) less from stands is = at block.id.queue from stands
  where
    at : (queue : LogQueue) → (queue ≡ Append → first ≤ block.id.seq) → PlacedEntryStands left marks held e block.id.seq queue → Contains held e
    at Append from stands = absurd (false≢true (sym (less block.id.seq e.0 (from refl) (stands e.0 (omega arith))) ∙ is))
    at Rewrite from stands = stands.0

-- an entry of the Append queue leaves nothing behind it alone, in its file and later ones
none_left_from : (first : ℕ) (left : ℕ → ℕ → Bool) (rest : ℕ → Bool) (marks : Marks) (held : List Entry) (e : Entry) (block : Option FileBlockHandle) → ((n i : ℕ) → first ≤ n → left n i ≡ false → rest i ≡ false) → IsEntryPlacedFrom first block
    → StandsInBlock left marks held e block → unwrap_or (option_map (λ (b : FileBlockHandle). is_rewrite b.id.queue) block) false ≡ false → (i : ℕ) → e.0 ≤ i → rest i ≡ false
none_left_from first left rest marks held e None less from stands is i le = absurd stands
none_left_from first left rest marks held e (Some block) less from stands is i le = at block.id.queue from stands is
  where
    at : (queue : LogQueue) → (queue ≡ Append → first ≤ block.id.seq) → PlacedEntryStands left marks held e block.id.seq queue → is_rewrite queue ≡ false → rest i ≡ false
    at Append from stands right = less block.id.seq i (from refl) (stands i le)
    at Rewrite from stands wrong = absurd (false≢true (sym wrong))

-- of entries that aren't all in the Rewrite queue one isn't
one_appended : (es : List (ℕ × EntryPlace)) → are_rewritten es ≡ false → (e : ℕ × EntryPlace) × Contains es e × (is_rewritten e.1 ≡ false)
one_appended [] is = absurd (false≢true (sym is))
one_appended (e ∷ es) is =
    ⊎_elim
    (λ here. let found = one_appended es (sym (ap (λ b. b && are_rewritten es) here) ∙ is) in (found.0, Contains-tail e es found.0 found.1, found.2))
    (λ other. (e, Contains-head e es, other))
    (cases_Bool (is_rewritten e.1))

-- the entry by its place, of one that stands in a group's entries
pub placed_of : (blocks : Blocks) (es : List (ℕ × EntryPlace)) (o : Entry) → Contains (entries_in blocks es) o → (e : ℕ × EntryPlace) × Contains es e × (entry_in blocks e ≡ o)
placed_of blocks [] o has = absurd (omega (arith, has.1))
placed_of blocks (x ∷ xs) o has =
    ⊎_elim (λ same. (x, Contains-head x xs, same)) (λ later. let found = placed_of blocks xs o later in (found.0, Contains-tail x xs found.0 found.1, found.2)) (Contains-cons_cases (entry_in blocks x) (entries_in blocks xs) o has)

pub mapped_length : (blocks : Blocks) (es : List (ℕ × EntryPlace)) → length (entries_in blocks es) ≡ length es
mapped_length blocks [] = refl
mapped_length blocks (x ∷ xs) = ap suc (mapped_length blocks xs)

-- what a front drop needs of one group
pub entries_dropped : (blocks : Blocks) (first : ℕ) (left : ℕ → ℕ → Bool) (rest : ℕ → Bool) (marks : Marks) (held : List Entry) (es : List (ℕ × EntryPlace)) → ((n i : ℕ) → first ≤ n → left n i ≡ false → rest i ≡ false) → Each (λ e. IsEntryPlacedFrom first e.1.block) es
    → GroupStands blocks left marks held es → All (λ o. rest o.0 ≡ true → Contains held o) (entries_in blocks es)
entries_dropped blocks first left rest marks held es less from stands =
    all_of (λ o. rest o.0 ≡ true → Contains held o) (entries_in blocks es)
    (λ o has is.
    let found = placed_of blocks es o has in
    let p = found.0 in
    subst (Contains held) found.2
    (left_is_held first left rest marks held (entry_in blocks p) p.1.block less (each_contained (λ e. IsEntryPlacedFrom first e.1.block) es p from found.1) (each_contained (EntryStands blocks left marks held) es p stands.each found.1) (ap (λ (x : Entry). rest x.0) found.2 ∙ is)))

pub others_dropped : (blocks : Blocks) (first : ℕ) (left : ℕ → ℕ → Bool) (rest : ℕ → Bool) (marks : Marks) (held : List Entry) (es : List (ℕ × EntryPlace)) → ((n i : ℕ) → first ≤ n → left n i ≡ false → rest i ≡ false) → Each (λ e. IsEntryPlacedFrom first e.1.block) es
    → ((n : ℕ × EntryPlace) (others : List (ℕ × EntryPlace)) → es ≡ n ∷ others → are_consecutive_from n.0 (n ∷ others) ≡ true) → marks.cleaned ≡ false → marks.compacted ≡ false
    → GroupStands blocks left marks held es → All (λ o. rest o.0 ≡ true → IsBeside (entries_in blocks es) o.0 → ⊥) held
others_dropped blocks first left rest marks held es less from run clean whole stands = at es refl
  where
    none : (xs : List (ℕ × EntryPlace)) → es ≡ xs → HasNoneBefore xs held
    none xs is = subst (λ ys. HasNoneBefore ys held) is (stands.before clean whole)

    behind : (n : ℕ × EntryPlace) (others : List (ℕ × EntryPlace)) → es ≡ n ∷ others → (o : Entry) → Contains held o → rest o.0 ≡ true → n.0 + length others < o.0 → ⊥
    behind n others is o has left_alone past =
        ⊎_elim
        (λ all. let low = each_contained (λ (x : Entry). x.0 < n.0 + length (n ∷ others)) held o (subst (λ ys. HasNoneBehind ys held) is stands.behind (subst (λ ys. are_rewritten ys ≡ true) is all)) has in absurd (omega (arith, low, past)))
        (λ some.
        let found = one_appended es some in
        let p = found.0 in
        let low = within n.0 (n ∷ others) p (run n others is) (subst (λ ys. Contains ys p) is found.1) in
        false≢true (sym (none_left_from first left rest marks held (entry_in blocks p) p.1.block less (each_contained (λ e. IsEntryPlacedFrom first e.1.block) es p from found.1) (each_contained (EntryStands blocks left marks held) es p stands.each found.1) found.2 o.0 (omega (arith, low.1, past))) ∙ left_alone))
        (cases_Bool (are_rewritten es))

    at : (xs : List (ℕ × EntryPlace)) → es ≡ xs → All (λ o. rest o.0 ≡ true → IsBeside (entries_in blocks es) o.0 → ⊥) held
    at [] is = subst (λ hs. All (λ o. rest o.0 ≡ true → IsBeside (entries_in blocks es) o.0 → ⊥) hs) (sym (none [] is)) (λ k d lt. absurd (omega (arith, lt)))
    at (n ∷ others) is =
        all_of (λ o. rest o.0 ≡ true → IsBeside (entries_in blocks es) o.0 → ⊥) held
        (λ o has left_alone beside.
        ⊎_elim
        (λ before. each_contained (λ (x : Entry). x.0 + 1 ≡ n.0 → ⊥) held o (none (n ∷ others) is) has before)
        (λ past. behind n others is o has left_alone (omega (arith, past, mapped_length blocks others)))
        (subst (λ ys. IsBeside (entries_in blocks ys) o.0) is beside))

-- the whole
pub placed_run : (blocks : Blocks) (m : List Entry) (es : List (ℕ × EntryPlace)) → entries_in blocks es ≡ m → are_consecutive m ≡ true → (n : ℕ × EntryPlace) (others : List (ℕ × EntryPlace)) → es ≡ n ∷ others → are_consecutive_from n.0 (n ∷ others) ≡ true
placed_run blocks m es same run n others is =
    index n.0 (n ∷ others) (subst (λ xs. are_consecutive (entries_in blocks xs) ≡ true) is (subst (λ xs. are_consecutive xs ≡ true) (sym same) run))
  where
    index : (k : ℕ) (xs : List (ℕ × EntryPlace)) → are_consecutive_from k (entries_in blocks xs) ≡ true → are_consecutive_from k xs ≡ true
    index k [] is = refl
    index k (x ∷ xs) is = let parts = and_parts (eqb x.0 k) (are_consecutive_from (k + 1) (entries_in blocks xs)) is in ap (λ b. b && are_consecutive_from (k + 1) xs) parts.0 ∙ index (k + 1) xs parts.1

pub front_may_go : (blocks : Blocks) (rewritten : List Batch) (appended : List FileBatch) (front : List Batch) (owed : Owed) (t : Tables) (first : ℕ) → HaveConsecutiveEntries rewritten → HaveConsecutiveEntries (batches_of appended)
    → batches_of appended ≡ front ++ batches_of (from_file first appended) → OwesNothing owed → AreEntriesPlacedFrom first t → AreKeysPlacedFrom first t → TablesStandFor blocks (effect rewritten) appended owed t
    → recovered rewritten (batches_of (from_file first appended)) ≡ recovered rewritten (batches_of appended)
front_may_go blocks rewritten appended front owed t first run_x run parts nothing entries keys stands =
    subst (λ bs. recovered rewritten rest ≡ recovered rewritten bs) (sym parts)
    (recovered-without rewritten front rest run_x (subst HaveConsecutiveEntries parts run) (subst (λ bs. HoldsDropped (effect rewritten) rest (recovered rewritten bs)) parts (subst (HoldsDropped (effect rewritten) rest) stands.contents holds)))
  where
    rest : List Batch
    rest = batches_of (from_file first appended)

    all_run : HasConsecutiveEntries (replay (effect rewritten) (batches_of appended))
    all_run = replay_consecutive (effect rewritten) (batches_of appended) (effect_consecutive rewritten run_x) run

    holds : HoldsDropped (effect rewritten) rest (contents_in blocks t)
    holds = record {
      entries = λ g. entries_dropped blocks first (ends_leave appended g) (ends_leave appended g first) (owed g) ((effect rewritten).entries g) (or_empty (t g)).entries (λ n i from is. pass-later (item_leaves g i) appended first n from is) (entries g) (stands.entries g);
      others = λ g. others_dropped blocks first (ends_leave appended g) (ends_leave appended g first) (owed g) ((effect rewritten).entries g) (or_empty (t g)).entries (λ n i from is. pass-later (item_leaves g i) appended first n from is) (entries g)
          (placed_run blocks ((replay (effect rewritten) (batches_of appended)).entries g) (or_empty (t g)).entries (ap (λ (m : Contents). m.entries g) stands.contents) (all_run g)) (nothing g).0 (nothing g).1 (stands.entries g);
      keys = λ g k left. held_without first (ends_leave_key appended g k) (ends_leave_key appended g k first) (owed g) ((effect rewritten).value g k) k ((or_empty (t g)).keys k) (nothing g).0 ((nothing g).2 k) (keys g k) (λ n from is. pass-later (item_leaves_key g k) appended first n from is) left (stands.keys g k);
    }

pub front_gone : (blocks : Blocks) (x : Contents) (appended : List FileBatch) (owed : Owed) (t : Tables) (first : ℕ) → replay x (batches_of (from_file first appended)) ≡ replay x (batches_of appended) → AreEntriesPlacedFrom first t → AreKeysPlacedFrom first t → TablesStandFor blocks x appended owed t
    → TablesStandFor blocks x (from_file first appended) owed t
front_gone blocks x appended owed t first same entries keys stands = record {
  contents = stands.contents ∙ sym same;
  entries = λ g. group_dropped blocks first (ends_leave appended g) (ends_leave (from_file first appended) g) (owed g) (x.entries g) (or_empty (t g)).entries (λ n i from is. ap (λ (bs : List FileBatch). leaves (batches_of bs) g i) (from_from first n appended from) ∙ is) (entries g) (stands.entries g);
  keys = λ g k. front_dropped first (ends_leave_key appended g k) (ends_leave_key (from_file first appended) g k) (owed g) (x.value g k) k ((or_empty (t g)).keys k) (λ n from is. ap (λ (bs : List FileBatch). leaves_key (batches_of bs) g k) (from_from first n appended from) ∙ is) (keys g k) (stands.keys g k);
}
