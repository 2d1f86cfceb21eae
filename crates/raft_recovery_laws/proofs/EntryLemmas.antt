-- One group's entries through batches: each item is a change of them or leaves them alone.
use Rattle.std.proofs.Common.{◌≡◌, ℕ, ◌+◌, Bool, true, false, cond, eqb, leb, ◌&&◌, List, [], ◌∷◌, map, filter, fold, refl, sym, ◌∙◌, ap, subst, inl, inr}
use Rattle.std.specs.List.{list_all, AllByRecursion as Each}
use Rattle.std.specs.Str.{bytes_eq}
use Rattle.std.proofs.lemmas.Bool.{and_parts, eqb-true, eq-eqb, cases_Bool}
use Rattle.std.proofs.lemmas.List.Elements.{filter_agree}
use Rattle.raft_records.specs.Item.{Entry, Content, Entries, Clean, Compact, Put, Delete, Item, Batch, group_mark_key}
use Rattle.raft_records.specs.Contents.{Contents, no_contents, with_entries, with_value, after_content, after_item, after_batches}
use Rattle.raft_records.specs.Validity.{are_consecutive_from}
use Rattle.raft_recovery_laws.specs.Recovered.{items_of, content_leaves, item_leaves, leaves, replay}
use Rattle.raft_recovery_laws.specs.Consecutive.{content_is_consecutive, HaveConsecutiveEntries}
use Rattle.raft_recovery_laws.proofs.ListLemmas.{Runs, AreRun, put_on, with_entries-run}
use Rattle.raft_recovery_laws.proofs.AppendLemmas.{EntryChange, Stay, Place, Empty, Cut, IsRun, after_change, after_changes, keeps, all_keep, kept, run_after_change, run_kept}
use Rattle.raft_recovery_laws.proofs.KeyLemmas.{after_batches-items_of}

-- what a content changes of its group's entries
abbrev pub content_change : Content → EntryChange
content_change (Entries []) = Stay
content_change (Entries (e ∷ es)) = Place e es
content_change Clean = Empty
content_change (Compact index) = Cut index
content_change (Put key value) = Stay
content_change (Delete key) = Stay

-- what an item changes of a group's entries
abbrev pub change_in : ℕ → Item → EntryChange
change_in group item = cond (eqb group item.group) (content_change item.content) Stay

-- what batches change of a group's entries, in order
abbrev pub changes_of : ℕ → List Item → List EntryChange
changes_of group items = map (change_in group) items

-- Consecutive entries.

pub runs_when_consecutive : (n : ℕ) (es : List Entry) → are_consecutive_from n es ≡ true → Runs n es
runs_when_consecutive n [] is = tt
runs_when_consecutive n (e ∷ es) is =
    let both = and_parts (eqb e.0 n) (are_consecutive_from (n + 1) es) is in
    (eqb-true e.0 n both.0, runs_when_consecutive (n + 1) es both.1)

run_of_content : (content : Content) → content_is_consecutive content ≡ true → IsRun (content_change content)
run_of_content (Entries []) is = tt
run_of_content (Entries (e ∷ es)) is = runs_when_consecutive e.0 (e ∷ es) is
run_of_content Clean is = tt
run_of_content (Compact index) is = tt
run_of_content (Put key value) is = tt
run_of_content (Delete key) is = tt

run_of_either : (b : Bool) (c : EntryChange) → IsRun c → IsRun (cond b c Stay)
run_of_either true c run = run
run_of_either false c run = tt

pub runs_of_items : (group : ℕ) (items : List Item) → list_all (λ item. content_is_consecutive item.content) items ≡ true → Each IsRun (changes_of group items)
runs_of_items group [] is = tt
runs_of_items group (item ∷ items) is =
    let both = and_parts (content_is_consecutive item.content) (list_all (λ i. content_is_consecutive i.content) items) is in
    (run_of_either (eqb group item.group) (content_change item.content) (run_of_content item.content both.0), runs_of_items group items both.1)

-- Entries after an item.

entries_of_cond : (b : Bool) (m n : Contents) (g : ℕ) → (cond b m n).entries g ≡ cond b (m.entries g) (n.entries g)
entries_of_cond true m n g = refl
entries_of_cond false m n g = refl

either_same : {X : Type 0} (b : Bool) (x : X) → cond b x x ≡ x
either_same true x = refl
either_same false x = refl

in_its_group : (b : Bool) (m : Contents) (g : ℕ) (content : Content) → b ≡ true → eqb g g ≡ b → AreRun (m.entries g) → (after_content g content m).entries g ≡ after_change (m.entries g) (content_change content)
in_its_group b m g (Entries []) is same run = either_same (eqb g g) (m.entries g)
in_its_group b m g (Entries (e ∷ es)) is same (n, runs) = ap (λ t. cond t (with_entries (m.entries g) (e ∷ es)) (m.entries g)) (same ∙ is) ∙ with_entries-run n (m.entries g) (e ∷ es) runs
in_its_group b m g Clean is same run = ap (λ t. cond t [] (m.entries g)) (same ∙ is)
in_its_group b m g (Compact index) is same run = ap (λ t. cond t (filter (λ e. leb index e.0) (m.entries g)) (m.entries g)) (same ∙ is)
in_its_group b m g (Put key value) is same run = entries_of_cond (bytes_eq key group_mark_key) m (with_value g key _ m) g ∙ either_same (bytes_eq key group_mark_key) (m.entries g)
in_its_group b m g (Delete key) is same run = refl

in_another : (m : Contents) (g group : ℕ) (content : Content) → eqb g group ≡ false → (after_content group content m).entries g ≡ m.entries g
in_another m g group (Entries es) other = ap (λ t. cond t (with_entries (m.entries group) es) (m.entries g)) other
in_another m g group Clean other = ap (λ t. cond t [] (m.entries g)) other
in_another m g group (Compact index) other = ap (λ t. cond t (filter (λ e. leb index e.0) (m.entries group)) (m.entries g)) other
in_another m g group (Put key value) other = entries_of_cond (bytes_eq key group_mark_key) m (with_value group key _ m) g ∙ either_same (bytes_eq key group_mark_key) (m.entries g)
in_another m g group (Delete key) other = refl

pub entries-after_item : (m : Contents) (item : Item) (g : ℕ) → AreRun (m.entries g) → (after_item m item).entries g ≡ after_change (m.entries g) (change_in g item)
entries-after_item m item g run = elim (cases_Bool (eqb g item.group)) [
  | inl same ↦ subst (λ group. (after_content group item.content m).entries g ≡ after_change (m.entries g) (content_change item.content)) (eqb-true g item.group same) (in_its_group true m g item.content refl (eq-eqb g g refl) run)
      ∙ sym (ap (λ t. after_change (m.entries g) (cond t (content_change item.content) Stay)) same)
  | inr other ↦ in_another m g item.group item.content other ∙ sym (ap (λ t. after_change (m.entries g) (cond t (content_change item.content) Stay)) other)
]

-- Entries after items and batches.

pub entries-after_items : (m : Contents) (items : List Item) (g : ℕ) → Each IsRun (changes_of g items) → AreRun (m.entries g) → (fold after_item m items).entries g ≡ after_changes (m.entries g) (changes_of g items)
entries-after_items m [] g _ run = refl
entries-after_items m (item ∷ items) g (first, others) run =
    let step = entries-after_item m item g run in
    let run_then : AreRun ((after_item m item).entries g) = subst AreRun (sym step) (run_after_change (m.entries g) (change_in g item) first run) in
    entries-after_items (after_item m item) items g others run_then ∙ ap (λ es. after_changes es (changes_of g items)) step

pub entries-after_batches : (m : Contents) (batches : List Batch) (g : ℕ) → HaveConsecutiveEntries batches → AreRun (m.entries g) → (after_batches m batches).entries g ≡ after_changes (m.entries g) (changes_of g (items_of batches))
entries-after_batches m batches g consecutive run = ap (λ (n : Contents). n.entries g) (after_batches-items_of m batches) ∙ entries-after_items m (items_of batches) g (runs_of_items g (items_of batches) consecutive) run

-- What is left alone.

content_keeps : (i : ℕ) (content : Content) → content_leaves i content ≡ keeps (content_change content) i
content_keeps i (Entries []) = refl
content_keeps i (Entries (e ∷ es)) = refl
content_keeps i Clean = refl
content_keeps i (Compact index) = refl
content_keeps i (Put key value) = refl
content_keeps i (Delete key) = refl

either_keeps : (b kept_so : Bool) (i : ℕ) (c : EntryChange) → kept_so ≡ keeps c i → cond b kept_so true ≡ keeps (cond b c Stay) i
either_keeps true kept_so i c is = is
either_keeps false kept_so i c is = refl

pub all_keep-items : (g i : ℕ) (items : List Item) → list_all (item_leaves g i) items ≡ all_keep (changes_of g items) i
all_keep-items g i [] = refl
all_keep-items g i (item ∷ items) = both (either_keeps (eqb g item.group) (content_leaves i item.content) i (content_change item.content) (content_keeps i item.content)) (all_keep-items g i items)
  where
    both : {a b c d : Bool} → a ≡ b → c ≡ d → (a && c) ≡ (b && d)
    both p q = cc

pub kept-leaves : (g : ℕ) (batches : List Batch) (w : List Entry) → filter (λ e. leaves batches g e.0) w ≡ kept (changes_of g (items_of batches)) w
kept-leaves g batches w = filter_agree (λ e. leaves batches g e.0) (λ e. all_keep (changes_of g (items_of batches)) e.0) (λ e. all_keep-items g e.0 (items_of batches)) w

-- What is recovered of a group's entries.

pub no_entries_run : AreRun []
no_entries_run = (0, tt)

pub entries-replay : (x : Contents) (appended : List Batch) (g : ℕ) → HaveConsecutiveEntries appended → AreRun (x.entries g) → (replay x appended).entries g ≡ put_on (kept (changes_of g (items_of appended)) (x.entries g)) (after_changes [] (changes_of g (items_of appended)))
entries-replay x appended g consecutive run =
    let cs = changes_of g (items_of appended) in
    let (n, runs) = run_kept cs (x.entries g) run in
    ap (λ w. with_entries w ((after_batches no_contents appended).entries g)) (kept-leaves g appended (x.entries g))
    ∙ ap (λ a. with_entries (kept cs (x.entries g)) a) (entries-after_batches no_contents appended g consecutive no_entries_run)
    ∙ with_entries-run n (kept cs (x.entries g)) (after_changes [] cs) runs
