-- Contents on which the Append queue's batches change nothing, and batches before it that may still stand.
use Rattle.std.proofs.Common.{◌≡◌, ℕ, Bool, true, false, cond, List, ◌++◌, refl, sym, ◌∙◌, ap, subst, Option}
use Rattle.std.specs.List.{list_all, AllByRecursion as Each}
use Rattle.std.proofs.lemmas.Bool.{and_parts}
use Rattle.std.proofs.lemmas.List.Folds.{list_all-append}
use Rattle.std.proofs.lemmas.List.Sums.{fold-append}
use Rattle.raft_records.specs.Item.{Item, Batch}
use Rattle.raft_records.specs.Contents.{Contents}
use Rattle.raft_recovery_laws.specs.Recovered.{items_of, item_leaves_key, replay}
use Rattle.raft_recovery_laws.specs.Consecutive.{content_is_consecutive, HaveConsecutiveEntries, HasConsecutiveEntries}
use Rattle.raft_recovery_laws.proofs.ListLemmas.{AreRun}
use Rattle.raft_recovery_laws.proofs.AppendLemmas.{IsRun}
use Rattle.raft_recovery_laws.proofs.FrontLemmas.{replayed, replayed-replayed, fixed_later, replayed_more}
use Rattle.raft_recovery_laws.proofs.EntryLemmas.{changes_of, runs_of_items, entries-replay}
use Rattle.raft_recovery_laws.proofs.KeyLemmas.{value_after, value_after_item, items_leave, value-replay}
use Rattle.raft_recovery_laws.proofs.MarkLemmas.{contents_ext}
use Rattle.raft_recovery_laws.proofs.ContentsLemmas.{items-append, changes-batches, run_of_consecutive, run_recovered}

-- Consecutive entries of a part of a list.

abbrev is_run : Item → Bool
is_run item = content_is_consecutive item.content

pub consecutive_parts : (older newer : List Batch) → HaveConsecutiveEntries (older ++ newer) → HaveConsecutiveEntries older × HaveConsecutiveEntries newer
consecutive_parts older newer is = and_parts (list_all is_run (items_of older)) (list_all is_run (items_of newer)) (sym (list_all-append is_run (items_of older) (items_of newer)) ∙ sym (ap (list_all is_run) (items-append older newer)) ∙ is)

-- One group's entries.

-- the changes of two lists, which hold consecutive entries
changes_run : (g : ℕ) (older newer : List Batch) → HaveConsecutiveEntries (older ++ newer) → Each IsRun (changes_of g (items_of older) ++ changes_of g (items_of newer))
changes_run g older newer consecutive = subst (Each IsRun) (changes-batches g older newer) (runs_of_items g (items_of (older ++ newer)) consecutive)

entries_replayed : (x : Contents) (older newer : List Batch) (g : ℕ) → HaveConsecutiveEntries (older ++ newer) → AreRun (x.entries g) → (replay x (older ++ newer)).entries g ≡ replayed (changes_of g (items_of older) ++ changes_of g (items_of newer)) (x.entries g)
entries_replayed x older newer g consecutive run = entries-replay x (older ++ newer) g consecutive run ∙ ap (λ cs. replayed cs (x.entries g)) (changes-batches g older newer)

entries_again : (x : Contents) (appended : List Batch) (g : ℕ) → HaveConsecutiveEntries appended → AreRun (x.entries g) → (replay (replay x appended) appended).entries g ≡ (replay x appended).entries g
entries_again x appended g consecutive run =
    let cs = changes_of g (items_of appended) in
    let found = entries-replay x appended g consecutive run in
    entries-replay (replay x appended) appended g consecutive (run_recovered x appended g consecutive run) ∙ ap (replayed cs) found
    ∙ replayed-replayed cs (x.entries g) (runs_of_items g (items_of appended) consecutive) ∙ sym found

entries_later : (m : Contents) (older newer : List Batch) (g : ℕ) → HaveConsecutiveEntries (older ++ newer) → AreRun (m.entries g) → replay m (older ++ newer) ≡ m → (replay m newer).entries g ≡ m.entries g
entries_later m older newer g consecutive run fixed =
    entries-replay m newer g (consecutive_parts older newer consecutive).1 run
    ∙ fixed_later (changes_of g (items_of older)) (changes_of g (items_of newer)) (m.entries g) (changes_run g older newer consecutive) run (sym (entries_replayed m older newer g consecutive run) ∙ ap (λ (n : Contents). n.entries g) fixed)

entries_more : (x j : Contents) (older newer : List Batch) (g : ℕ) → HaveConsecutiveEntries (older ++ newer) → AreRun (x.entries g) → AreRun (j.entries g) → replay j (older ++ newer) ≡ j → replay x newer ≡ j → (replay x (older ++ newer)).entries g ≡ j.entries g
entries_more x j older newer g consecutive run run_found fixed found =
    entries_replayed x older newer g consecutive run
    ∙ replayed_more (changes_of g (items_of older)) (changes_of g (items_of newer)) (x.entries g) (j.entries g) (changes_run g older newer consecutive)
    (sym (entries_replayed j older newer g consecutive run_found) ∙ ap (λ (n : Contents). n.entries g) fixed)
    (sym (entries-replay x newer g (consecutive_parts older newer consecutive).1 run) ∙ ap (λ (n : Contents). n.entries g) found)

-- One key.

either_same : {X : Type 0} (b : Bool) (x : X) → cond b x x ≡ x
either_same true x = refl
either_same false x = refl

value_again : (g : ℕ) (k : List ℕ) (v : Option (List ℕ)) (items : List Item) → value_after g k (value_after g k v items) items ≡ value_after g k v items
value_again g k v items = items_leave g k items (value_after g k v items) v ∙ either_same (list_all (item_leaves_key g k) items) (value_after g k v items)

value_both : (x : Contents) (older newer : List Batch) (g : ℕ) (k : List ℕ) → (replay x (older ++ newer)).value g k ≡ value_after g k (value_after g k (x.value g k) (items_of older)) (items_of newer)
value_both x older newer g k = value-replay x (older ++ newer) g k ∙ ap (value_after g k (x.value g k)) (items-append older newer) ∙ fold-append (value_after_item g k) (x.value g k) (items_of older) (items_of newer)

value_later : (m : Contents) (older newer : List Batch) (g : ℕ) (k : List ℕ) → replay m (older ++ newer) ≡ m → (replay m newer).value g k ≡ m.value g k
value_later m older newer g k fixed =
    let both : value_after g k (value_after g k (m.value g k) (items_of older)) (items_of newer) ≡ m.value g k = sym (value_both m older newer g k) ∙ ap (λ (n : Contents). n.value g k) fixed in
    value-replay m newer g k ∙ ap (λ v. value_after g k v (items_of newer)) (sym both) ∙ value_again g k (value_after g k (m.value g k) (items_of older)) (items_of newer) ∙ both

value_more : (x j : Contents) (older newer : List Batch) (g : ℕ) (k : List ℕ) → replay j (older ++ newer) ≡ j → replay x newer ≡ j → (replay x (older ++ newer)).value g k ≡ j.value g k
value_more x j older newer g k fixed found = value_both x older newer g k ∙ go (list_all (item_leaves_key g k) (items_of newer)) refl
  where
    is : value_after g k (x.value g k) (items_of newer) ≡ j.value g k
    is = sym (value-replay x newer g k) ∙ ap (λ (n : Contents). n.value g k) found

    leave : (v w : Option (List ℕ)) → value_after g k v (items_of newer) ≡ cond (list_all (item_leaves_key g k) (items_of newer)) v (value_after g k w (items_of newer))
    leave v w = items_leave g k (items_of newer) v w

    go : (b : Bool) → list_all (item_leaves_key g k) (items_of newer) ≡ b → value_after g k (value_after g k (x.value g k) (items_of older)) (items_of newer) ≡ j.value g k
    go true all =
        let same : x.value g k ≡ j.value g k = sym (leave (x.value g k) (x.value g k) ∙ ap (λ b. cond b (x.value g k) (value_after g k (x.value g k) (items_of newer))) all) ∙ is in
        ap (λ v. value_after g k (value_after g k v (items_of older)) (items_of newer)) same ∙ sym (value_both j older newer g k) ∙ ap (λ (n : Contents). n.value g k) fixed
    go false some = leave (value_after g k (x.value g k) (items_of older)) (x.value g k) ∙ ap (λ b. cond b (value_after g k (x.value g k) (items_of older)) (value_after g k (x.value g k) (items_of newer))) some ∙ is

-- Contents.

-- replayed on what they were replayed on, batches change nothing
pub replay-replay : (x : Contents) (appended : List Batch) → HasConsecutiveEntries x → HaveConsecutiveEntries appended → replay (replay x appended) appended ≡ replay x appended
replay-replay x appended run consecutive = contents_ext (replay (replay x appended) appended) (replay x appended) (λ g. entries_again x appended g consecutive (run_of_consecutive (x.entries g) (run g)))
    (λ g k. value-replay (replay x appended) appended g k ∙ ap (λ v. value_after g k v (items_of appended)) (value-replay x appended g k) ∙ value_again g k (x.value g k) (items_of appended) ∙ sym (value-replay x appended g k))

-- where batches change nothing the later ones of them change nothing
pub replay-later : (m : Contents) (older newer : List Batch) → HasConsecutiveEntries m → HaveConsecutiveEntries (older ++ newer) → replay m (older ++ newer) ≡ m → replay m newer ≡ m
replay-later m older newer run consecutive fixed = contents_ext (replay m newer) m (λ g. entries_later m older newer g consecutive (run_of_consecutive (m.entries g) (run g)) fixed) (λ g k. value_later m older newer g k fixed)

-- .. and older ones before these change nothing of what is recovered
pub replay-more : (x j : Contents) (older newer : List Batch) → HasConsecutiveEntries x → HasConsecutiveEntries j → HaveConsecutiveEntries (older ++ newer) → replay j (older ++ newer) ≡ j → replay x newer ≡ j → replay x (older ++ newer) ≡ j
replay-more x j older newer run run_found consecutive fixed found =
    contents_ext (replay x (older ++ newer)) j (λ g. entries_more x j older newer g consecutive (run_of_consecutive (x.entries g) (run g)) (run_of_consecutive (j.entries g) (run_found g)) fixed found)
    (λ g k. value_more x j older newer g k fixed found)
