-- Items that were gathered, in the Rewrite queue's contents: each changes nothing of what is recovered.
use Rattle.std.proofs.Common.{◌≡◌, ℕ, ◌<◌, ◌==◌, ◌&&◌, ◌⊎◌, Bool, true, false, cond, List, [], ◌∷◌, ◌++◌, map, Option, Some, None, refl, sym, ◌∙◌, ap, subst}
use Rattle.std.specs.List.{All, Contains, AllByRecursion as Each, list_all}
use Rattle.std.specs.Option.{option_map}
use Rattle.std.specs.Str.{bytes_eq}
use Rattle.std.specs.Cmp.Lexicographic.{bytes_decides}
use Rattle.std.proofs.lemmas.List.{map-append}
use Rattle.raft_records.specs.Contents.{Contents, after_item, is_next_to, with_entries, with_value}
use Rattle.raft_records.specs.FileBatches.{FileBatch, batches_of}
use Rattle.raft_records.specs.Item.{Batch, Content, Entry, Entries, Clean, Compact, Put, Delete, Item, group_mark_key}
use Rattle.raft_records.specs.PlacedItem.{EntriesAt, Plain, PlacedContent, PlacedItem, content_in, item_in}
use Rattle.raft_records.specs.Places.{Blocks, entry_in, entries_in}
use Rattle.raft_recovery_laws.specs.Consecutive.{HasConsecutiveEntries, HaveConsecutiveEntries, are_consecutive, content_is_consecutive}
use Rattle.raft_recovery_laws.specs.Groups.{GroupMark, mark_of}
use Rattle.raft_recovery_laws.specs.Recovered.{leaves, leaves_key, replay}
use Rattle.raft_recovery_laws.specs.Rewriting.{ChangesNothing, EachChangesNothing, FitsRewrite}
use Rattle.raft_recovery_laws.proofs.ContentsLemmas.{after_batches_consecutive, consecutive_one, replay_consecutive}
use Rattle.raft_recovery_laws.proofs.BoundLemmas.{no_mark_recovered}
use Rattle.raft_recovery_laws.proofs.MarkLemmas.{put_changes_nothing}
use Rattle.raft_recovery_laws.proofs.UnchangedLemmas.{rewriting_changes_nothing}
use Rattle.raft_tables.specs.Owed.{Owed}
use Rattle.raft_tables.specs.Table.{StoredValue}
use Rattle.raft_tables.specs.Tables.{Tables, or_empty}
use Rattle.raft_index_laws.specs.Standing.{EntryStands, TablesStandFor, ends_leave}
use Rattle.raft_index_laws.proofs.KeyLemmas.{eq_from_test}
use Rattle.raft_index_laws.specs.Gathering.{AreSetApart, IsFetchedContent, SetApart}
use Rattle.raft_index_laws.proofs.MatchLemmas.{fetched_item, key_set, set_key}
use Rattle.raft_index_laws.proofs.PartsLemmas.{front_run, rest_run}
use Rattle.raft_index_laws.proofs.RewrittenLemmas.{part_fits}

-- a change of a group that may be appended to the Rewrite queue
abbrev pub Fits : Contents → List Batch → ℕ → Content → Type 0
Fits x a g (Entries []) = ⊥
Fits x a g (Entries (e ∷ es)) = (are_consecutive (e ∷ es) ≡ true) × FitsRewrite x a g e es
Fits x a g Clean = ⊥
Fits x a g (Compact index) = ⊥
Fits x a g (Put key value) = leaves_key a g key ≡ true → (replay x a).value g key ≡ Some value
Fits x a g (Delete key) = ⊥

-- what was fetched does
pub fits_of : (blocks : Blocks) (x : Contents) (appended : List FileBatch) (owed : Owed) (t : Tables) (w : Option ℕ) (g : ℕ) (c : PlacedContent) → HasConsecutiveEntries x → HaveConsecutiveEntries (batches_of appended) → TablesStandFor blocks x appended owed t
    → IsFetchedContent w t g c → Fits x (batches_of appended) g (content_in blocks c)
fits_of blocks x appended owed t w g (EntriesAt []) run_x run stands from = absurd from
fits_of blocks x appended owed t w g (EntriesAt (e ∷ es)) run_x run stands from = (
  new_run,
  part_fits blocks x appended (owed g) g from.pre e es from.post (run_x g) run_parts (now ∙ ap (entries_in blocks) from.parts)
      (subst (Each (EntryStands blocks (ends_leave appended g) (owed g) (x.entries g))) from.parts (stands.entries g).each) from.first from.rest,
)
  where
    now : (replay x (batches_of appended)).entries g ≡ entries_in blocks (or_empty (t g)).entries
    now = sym (ap (λ (m : Contents). m.entries g) stands.contents)

    run_parts : are_consecutive (entries_in blocks (from.pre ++ ((e ∷ es) ++ from.post))) ≡ true
    run_parts = subst (λ xs. are_consecutive (entries_in blocks xs) ≡ true) from.parts (subst (λ (xs : List Entry). are_consecutive xs ≡ true) now (replay_consecutive x (batches_of appended) run_x run g))

    split : entries_in blocks (from.pre ++ ((e ∷ es) ++ from.post)) ≡ entries_in blocks from.pre ++ (entries_in blocks (e ∷ es) ++ entries_in blocks from.post)
    split = map-append (entry_in blocks) from.pre ((e ∷ es) ++ from.post) ∙ ap (λ r. entries_in blocks from.pre ++ r) (map-append (entry_in blocks) (e ∷ es) from.post)

    new_run : are_consecutive (entries_in blocks (e ∷ es)) ≡ true
    new_run = front_run (entries_in blocks (e ∷ es)) (entries_in blocks from.post) (rest_run (entries_in blocks from.pre) (entries_in blocks (e ∷ es) ++ entries_in blocks from.post) (subst (λ (xs : List Entry). are_consecutive xs ≡ true) split run_parts))
fits_of blocks x appended owed t w g (Plain (Entries xs)) run_x run stands from = absurd from
fits_of blocks x appended owed t w g (Plain Clean) run_x run stands from = absurd from
fits_of blocks x appended owed t w g (Plain (Compact index)) run_x run stands from = absurd from
fits_of blocks x appended owed t w g (Plain (Put key value)) run_x run stands from =
    λ left. sym (ap (λ (m : Contents). m.value g key) stands.contents) ∙ ap (option_map (λ (s : StoredValue). s.0)) from.1
fits_of blocks x appended owed t w g (Plain (Delete key)) run_x run stands from = absurd from

pub fits_nothing : (x : Contents) (a : List Batch) (g : ℕ) (c : Content) → HasConsecutiveEntries x → HaveConsecutiveEntries a → Fits x a g c → ChangesNothing x a (record { group = g; content = c })
fits_nothing x a g (Entries []) run_x run fits = absurd fits
fits_nothing x a g (Entries (e ∷ es)) run_x run fits = rewriting_changes_nothing x a g e es run (run_x g) fits.0 fits.1
fits_nothing x a g Clean run_x run fits = absurd fits
fits_nothing x a g (Compact index) run_x run fits = absurd fits
fits_nothing x a g (Put key value) run_x run fits = put_changes_nothing x a g key value fits
fits_nothing x a g (Delete key) run_x run fits = absurd fits

fits_run : (x : Contents) (a : List Batch) (g : ℕ) (c : Content) → Fits x a g c → content_is_consecutive c ≡ true
fits_run x a g (Entries []) fits = absurd fits
fits_run x a g (Entries (e ∷ es)) fits = fits.0
fits_run x a g Clean fits = absurd fits
fits_run x a g (Compact index) fits = absurd fits
fits_run x a g (Put key value) fits = refl
fits_run x a g (Delete key) fits = absurd fits

-- .. and of other contents, of which the same is recovered, with the same entries where it sets entries
fits_still : (x y : Contents) (a : List Batch) (g : ℕ) (c : Content) → replay y a ≡ replay x a → (set_key c ≡ None → y.entries g ≡ x.entries g) → Fits x a g c → Fits y a g c
fits_still x y a g (Entries []) same entries fits = fits
fits_still x y a g (Entries (e ∷ es)) same entries fits = (
  fits.0,
  record {
    held = subst (λ (m : Contents). All (λ n. leaves a g n.0 ≡ true → Contains (m.entries g) n) (e ∷ es)) (sym same) fits.1.held;
    covers = subst (λ (m : Contents). All (λ o. leaves a g o.0 ≡ true → (o.0 < e.0) ⊎ Contains (e ∷ es) o) (m.entries g)) (sym same) fits.1.covers;
    touches = subst (λ (h : List Entry). All (λ o. leaves a g o.0 ≡ true → o.0 < e.0 → is_next_to h e.0 ≡ true) ((replay y a).entries g)) (sym (entries refl))
        (subst (λ (m : Contents). All (λ o. leaves a g o.0 ≡ true → o.0 < e.0 → is_next_to (x.entries g) e.0 ≡ true) (m.entries g)) (sym same) fits.1.touches);
  },
)
fits_still x y a g Clean same entries fits = fits
fits_still x y a g (Compact index) same entries fits = fits
fits_still x y a g (Put key value) same entries fits = λ left. ap (λ (m : Contents). m.value g key) same ∙ fits left
fits_still x y a g (Delete key) same entries fits = fits

-- an item leaves the entries of a group, where it sets something else
entries_stay : (x : Contents) (a : List Batch) (g : ℕ) (c : Content) (h : ℕ) → Fits x a g c → (g ≡ h → set_key c ≡ None → ⊥) → (after_item x (record { group = g; content = c })).entries h ≡ x.entries h
entries_stay x a g (Entries []) h fits apart = absurd fits
entries_stay x a g (Entries (e ∷ es)) h fits apart = at (h == g) refl
  where
    at : (b : Bool) → (h == g) ≡ b → cond b (with_entries (x.entries g) (e ∷ es)) (x.entries h) ≡ x.entries h
    at true here = absurd (apart (sym (eq_from_test h g here)) refl)
    at false other = refl
entries_stay x a g Clean h fits apart = absurd fits
entries_stay x a g (Compact index) h fits apart = absurd fits
entries_stay x a g (Put key value) h fits apart = at (bytes_eq key group_mark_key)
  where
    at : (b : Bool) → (let m : Contents = cond b x (with_value g key (Some value) x) in m.entries h) ≡ x.entries h
    at true = refl
    at false = refl
entries_stay x a g (Delete key) h fits apart = absurd fits

abbrev pub apart_items : Item → Item → Type 0
apart_items i j = i.group ≡ j.group → set_key i.content ≡ set_key j.content → ⊥

abbrev pub AreApart : List Item → Type 0
AreApart [] = Unit {0}
AreApart (i ∷ items) = Each (apart_items i) items × AreApart items

item_after_run : (x : Contents) (a : List Batch) (i : Item) → HasConsecutiveEntries x → Fits x a i.group i.content → HasConsecutiveEntries (after_item x i)
item_after_run x a i run fits = after_batches_consecutive x ((i ∷ []) ∷ []) run (consecutive_one (i ∷ []) (ap (λ b. b && true) (fits_run x a i.group i.content fits)))

each_fits_still : (x : Contents) (a : List Batch) (i : Item) (items : List Item) → Fits x a i.group i.content → replay (after_item x i) a ≡ replay x a → Each (apart_items i) items → Each (λ j. Fits x a j.group j.content) items → Each (λ j. Fits (after_item x i) a j.group j.content) items
each_fits_still x a i [] fits same apart each = tt
each_fits_still x a i (j ∷ items) fits same apart each =
    (fits_still x (after_item x i) a j.group j.content same (λ none. entries_stay x a i.group i.content j.group fits (λ group key. apart.0 group (key ∙ sym none))) each.0, each_fits_still x a i items fits same apart.1 each.1)

pub each_nothing : (x : Contents) (a : List Batch) (items : List Item) → HasConsecutiveEntries x → HaveConsecutiveEntries a → Each (λ i. Fits x a i.group i.content) items → AreApart items → EachChangesNothing x a items
each_nothing x a [] run_x run each apart = tt
each_nothing x a (i ∷ items) run_x run each apart =
    let same = fits_nothing x a i.group i.content run_x run each.0 in
    (same, each_nothing (after_item x i) a items (item_after_run x a i run_x each.0) run (each_fits_still x a i items each.0 same apart.0 each.1) apart.1)

pub each_run : (x : Contents) (a : List Batch) (items : List Item) → Each (λ i. Fits x a i.group i.content) items → list_all (λ i. content_is_consecutive i.content) items ≡ true
each_run x a [] each = refl
each_run x a (i ∷ items) each = ap (λ b. b && list_all (λ j. content_is_consecutive j.content) items) (fits_run x a i.group i.content each.0) ∙ each_run x a items each.1

-- gathered items
pub all_fit : (blocks : Blocks) (x : Contents) (appended : List FileBatch) (owed : Owed) (t : Tables) (w : Option ℕ) (items : List PlacedItem) → HasConsecutiveEntries x → HaveConsecutiveEntries (batches_of appended) → TablesStandFor blocks x appended owed t
    → Each (fetched_item w owed t) items → Each (λ i. Fits x (batches_of appended) i.group i.content) (map (item_in blocks) items)
all_fit blocks x appended owed t w [] run_x run stands each = tt
all_fit blocks x appended owed t w (i ∷ items) run_x run stands each = (fits_of blocks x appended owed t w i.group i.content run_x run stands each.0.1, all_fit blocks x appended owed t w items run_x run stands each.1)

apart_in : (blocks : Blocks) (i : PlacedItem) (items : List PlacedItem) → Each (SetApart i) items → Each (apart_items (item_in blocks i)) (map (item_in blocks) items)
apart_in blocks i [] apart = tt
apart_in blocks i (j ∷ items) apart = (λ group key. apart.0 group (key_set blocks i.content ∙ key ∙ sym (key_set blocks j.content)), apart_in blocks i items apart.1)

pub are_apart : (blocks : Blocks) (items : List PlacedItem) → AreSetApart items → AreApart (map (item_in blocks) items)
are_apart blocks [] apart = tt
are_apart blocks (i ∷ items) apart = (apart_in blocks i items apart.0, are_apart blocks items apart.1)

-- a batch of them has no mark
pub unmarked : (blocks : Blocks) (x : Contents) (appended : List FileBatch) (owed : Owed) (t : Tables) (w : Option ℕ) (items : List PlacedItem) → ((g : ℕ) → x.value g group_mark_key ≡ None) → TablesStandFor blocks x appended owed t → Each (fetched_item w owed t) items → mark_of (map (item_in blocks) items) ≡ None
unmarked blocks x appended owed t w [] no_mark stands each = refl
unmarked blocks x appended owed t w (i ∷ items) no_mark stands each = at i.content each.0.1
  where
    at : (c : PlacedContent) → IsFetchedContent w t i.group c → mark_of (record { group = i.group; content = content_in blocks c } ∷ map (item_in blocks) items) ≡ None
    at (EntriesAt es) from = refl
    at (Plain (Entries xs)) from = refl
    at (Plain Clean) from = refl
    at (Plain (Compact index)) from = refl
    at (Plain (Put key value)) from = by (bytes_eq key group_mark_key) refl
      where
        some_none : (v : List ℕ) → Some v ≡ None → ⊥
        some_none v is = cc

        there : (replay x (batches_of appended)).value i.group key ≡ Some value
        there = sym (ap (λ (m : Contents). m.value i.group key) stands.contents) ∙ ap (option_map (λ (s : StoredValue). s.0)) from.1

        by : (b : Bool) → bytes_eq key group_mark_key ≡ b → (let none : Option GroupMark = None in cond b (Some (record { id = i.group; place = value })) none) ≡ None
        by true is = absurd (some_none value (sym there ∙ ap (λ k. (replay x (batches_of appended)).value i.group k) ((bytes_decides key group_mark_key).0 is) ∙ no_mark_recovered x (batches_of appended) i.group (no_mark i.group)))
        by false is = refl
    at (Plain (Delete key)) from = refl
