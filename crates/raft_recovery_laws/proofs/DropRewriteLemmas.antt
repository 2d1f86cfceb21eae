-- The first batches of the Rewrite queue dropped.
use Rattle.std.proofs.Common.{◌≡◌, ℕ, ◌+◌, ◌≤◌, Bool, true, false, cond, ◌&&◌, ◌||◌, ◌⊎◌, inl, inr, List, [], ◌∷◌, ◌++◌, append-nil, append_assoc, Option, Some, None, filter, refl, sym, ◌∙◌, ap, subst, ⊎_elim, arith}
use Rattle.std.specs.List.{All, Contains, cons_option, AllByRecursion as Each, list_all}
use Rattle.std.proofs.lemmas.Bool.{and_parts, eq-eqb, false≢true}
use Rattle.std.proofs.lemmas.List.Elements.{All-contains, All-weaker, Contains-append_left, Contains-append_right, filter-append}
use Rattle.std.proofs.lemmas.List.{map-append}
use Rattle.std.proofs.lemmas.List.Concat.{flat_map-append}
use Rattle.std.proofs.lemmas.List.Folds.{list_all-append}
use Rattle.std.proofs.lemmas.List.Sums.{fold-append}
use Rattle.raft_records.specs.Item.{Entry, Item, Batch}
use Rattle.raft_records.specs.Contents.{Contents, no_contents, after_batch, after_batches}
use Rattle.raft_recovery_laws.specs.Consecutive.{content_is_consecutive, HaveConsecutiveEntries}
use Rattle.raft_recovery_laws.specs.Dropping.{HoldsLeft, IsLaterPart, ShareNoGroup}
use Rattle.raft_recovery_laws.specs.Groups.{GroupMark, batch_counts, is_complete, is_of_group, mark_counts, mark_of, place_by, places_in, whole}
use Rattle.raft_recovery_laws.specs.Recovered.{items_of, item_leaves_key, leaves, effect, recovered, replay}
use Rattle.raft_recovery_laws.proofs.AppendLemmas.{IsRun, after_changes, all_keep, kept, before-append, run_after_changes}
use Rattle.raft_recovery_laws.proofs.AscendingLemmas.{IsAscending, above_start, Contains-cons_cases, Contains-unfilter, empty_unless}
use Rattle.raft_recovery_laws.proofs.EntryLemmas.{all_keep-items, change_in, changes_of, entries-after_batches, runs_of_items, no_entries_run}
use Rattle.raft_recovery_laws.proofs.GroupLemmas.{effect-open_group, filter_next, no_batches, no_place, places-append}
use Rattle.raft_recovery_laws.proofs.UnchangedLemmas.{changes, entries_joined, kept_twice, own, own_not_kept}
use Rattle.raft_recovery_laws.proofs.FrontLemmas.{front_of}
use Rattle.raft_recovery_laws.proofs.KeptLemmas.{passing, joined, joined_same}
use Rattle.raft_recovery_laws.proofs.KeyLemmas.{items_leave, value_after, value-after_batches}
use Rattle.raft_recovery_laws.proofs.ListLemmas.{AreRun, Runs, has_before}
use Rattle.raft_recovery_laws.proofs.MarkLemmas.{contents_ext, value-left, value-replay_same}

-- Entries.

-- of a list whose indexes rise, no entry stands in two parts
in_one_part : (s : ℕ) (front rest : List Entry) (e : Entry) → IsAscending s (front ++ rest) → Contains front e → Contains rest e → ⊥
in_one_part s [] rest e up first later = omega (arith, first.1)
in_one_part s (z ∷ zs) rest e up first later =
    ⊎_elim
    (λ same.
    let above : z.0 + 1 ≤ e.0 = All-contains (λ (x : Entry). z.0 + 1 ≤ x.0) (zs ++ rest) e (above_start (z.0 + 1) (zs ++ rest) up.1) (Contains-append_right zs rest e later) in
    let at : z.0 ≡ e.0 = ap (λ (x : Entry). x.0) same in
    omega arith)
    (λ behind. in_one_part (z.0 + 1) zs rest e up.1 behind later)
    (Contains-cons_cases z zs e first)

not_before : (x y : Bool) → (x || y) ≡ false → y ≡ false
not_before true y is = absurd (false≢true (sym is))
not_before false y is = is

-- entries that stand before others go, where all that is kept of what is joined is among the others
pub joined-dropped : (p : ℕ → Bool) (s : ℕ) (front rest a : List Entry) → IsAscending s (front ++ rest) → passing p (passing p (front ++ rest)) ≡ passing p (front ++ rest) → passing p a ≡ []
    → All (λ e. p e.0 ≡ true → Contains rest e) (joined (passing p (front ++ rest)) a) → joined (passing p rest) a ≡ joined (passing p (front ++ rest)) a
joined-dropped p s front rest a up twice none held =
    let keeps = λ (e : Entry). p e.0 in
    let w = passing p (front ++ rest) in
    let parts : w ≡ passing p front ++ passing p rest = filter-append keeps front rest in
    joined_same p w (passing p rest) a twice none
    (λ same.
    let gone : passing p front ≡ [] = empty_unless (passing p front)
    (λ e is.
    let found = Contains-unfilter keeps front e is in
    let there = Contains-unfilter keeps (joined w a) e (subst (λ xs. Contains xs e) (sym parts ∙ sym same) (Contains-append_left (passing p front) (passing p rest) e is)) in
    in_one_part s front rest e up found.0 (All-contains (λ (x : Entry). p x.0 ≡ true → Contains rest x) (joined w a) e held there.0 there.1)) in
    sym (parts ∙ ap (λ xs. xs ++ passing p rest) gone))
    (λ _ _ t apart. not_before (has_before t (passing p front)) (has_before t (passing p rest)) (sym (ap (has_before t) parts ∙ before-append t (passing p front) (passing p rest)) ∙ apart))

-- Keys.

-- a key that the later items set has what they set, whatever it had
pub set_later : (g : ℕ) (k value : List ℕ) (items : List Item) (v : Option (List ℕ)) → value_after g k None items ≡ Some value → value_after g k v items ≡ Some value
set_later g k value items v is = by_test (list_all (item_leaves_key g k) items) refl
  where
    by_test : (b : Bool) → list_all (item_leaves_key g k) items ≡ b → value_after g k v items ≡ Some value
    by_test true left = absurd (let none : value_after g k None items ≡ None = items_leave g k items None None ∙ ap (λ b. cond b None (value_after g k None items)) left in cc)
    by_test false left = items_leave g k items v None ∙ ap (λ b. cond b v (value_after g k None items)) left ∙ is

-- a key without a value after all items has none after the later ones alone
none_later : (g : ℕ) (k : List ℕ) (items : List Item) (v : Option (List ℕ)) → value_after g k v items ≡ None → value_after g k None items ≡ None
none_later g k items v none = by_test (list_all (item_leaves_key g k) items) refl
  where
    by_test : (b : Bool) → list_all (item_leaves_key g k) items ≡ b → value_after g k None items ≡ None
    by_test true left = items_leave g k items None None ∙ ap (λ b. cond b None (value_after g k None items)) left
    by_test false left = sym (items_leave g k items v None ∙ ap (λ b. cond b v (value_after g k None items)) left) ∙ none

-- Atomic groups.

-- the place of the batch's own group isn't missing
own_place : (mark : GroupMark) (rest : List (List ℕ)) → cons_option (place_by mark.id (Some mark)) rest ≡ [] → ⊥
own_place mark rest is = false≢true (sym (no_place mark.id (Some mark) rest is).0 ∙ eq-eqb mark.id mark.id refl)

mark_counts_alone : (all one : List Batch) (m : Option GroupMark) (rest : ℕ → List (List ℕ)) → ((id : ℕ) → (cons_option (place_by id m) (rest id) ≡ []) ⊎ (places_in id all ≡ places_in id one)) → mark_counts all m ≡ mark_counts one m
mark_counts_alone all one None rest same = refl
mark_counts_alone all one (Some mark) rest same = ⊎_elim (λ none. absurd (own_place mark (rest mark.id) none)) (λ is. ap is_complete is) (same mark.id)

-- the batches count as among those alone that share their groups
counts_alone : (all one bs : List Batch) → ((id : ℕ) → (places_in id bs ≡ []) ⊎ (places_in id all ≡ places_in id one)) → filter (batch_counts all) bs ≡ filter (batch_counts one) bs
counts_alone all one [] same = refl
counts_alone all one (b ∷ bs) same =
    filter_next (batch_counts all) (batch_counts one) b bs (mark_counts_alone all one (mark_of b) (λ id. places_in id bs) same)
    (counts_alone all one bs (λ id. ⊎_elim (λ none. inl (no_place id (mark_of b) (places_in id bs) none).1) (λ is. inr is) (same id)))

pub whole-append : (old new : List Batch) → ShareNoGroup old new → whole (old ++ new) ≡ whole old ++ whole new
whole-append old new share =
    filter-append (batch_counts (old ++ new)) old new
    ∙ ap (λ xs. xs ++ filter (batch_counts (old ++ new)) new) (counts_alone (old ++ new) old old (λ id. ⊎_elim (λ none. inl none) (λ none. inr (places-append id old new ∙ ap (λ ps. places_in id old ++ ps) none ∙ append-nil (places_in id old))) (share id)))
    ∙ ap (λ xs. whole old ++ xs) (counts_alone (old ++ new) new new (λ id. ⊎_elim (λ none. inr (places-append id old new ∙ ap (λ ps. ps ++ places_in id new) none)) (λ none. inl none) (share id)))

pub effect-append : (old new : List Batch) → ShareNoGroup old new → effect (old ++ new) ≡ after_batches (effect old) (whole new)
effect-append old new share = ap (after_batches no_contents) (whole-append old new share) ∙ fold-append after_batch no_contents (whole old) (whole new)

-- Both, of the Rewrite queue's contents.

consecutive_parts : (batch : Batch) (bs : List Batch) → HaveConsecutiveEntries (batch ∷ bs) → (list_all (λ item. content_is_consecutive item.content) batch ≡ true) × HaveConsecutiveEntries bs
consecutive_parts batch bs is = and_parts _ _ (sym (list_all-append (λ item. content_is_consecutive item.content) batch (items_of bs)) ∙ is)

consecutive_either : (t : Bool) (batch : Batch) (bs : List Batch) → list_all (λ item. content_is_consecutive item.content) batch ≡ true → HaveConsecutiveEntries bs → HaveConsecutiveEntries (cond t (batch ∷ bs) bs)
consecutive_either true batch bs first rest = list_all-append (λ item. content_is_consecutive item.content) batch (items_of bs) ∙ ap (λ b. b && list_all (λ item. content_is_consecutive item.content) (items_of bs)) first ∙ rest
consecutive_either false batch bs first rest = rest

pub consecutive-filter : (p : Batch → Bool) (bs : List Batch) → HaveConsecutiveEntries bs → HaveConsecutiveEntries (filter p bs)
consecutive-filter p [] is = refl
consecutive-filter p (b ∷ bs) is =
    let parts = consecutive_parts b bs is in
    consecutive_either (p b) b (filter p bs) parts.0 (consecutive-filter p bs parts.1)

changes-append : (g : ℕ) (old new : List Batch) → changes_of g (items_of (old ++ new)) ≡ changes_of g (items_of old) ++ changes_of g (items_of new)
changes-append g old new = ap (changes_of g) (flat_map-append (λ (b : Batch). b) old new) ∙ map-append (change_in g) (items_of old) (items_of new)

ascending_run : (n : ℕ) (es : List Entry) → Runs n es → IsAscending n es
ascending_run n [] runs = tt
ascending_run n (e ∷ es) runs = (omega (arith, runs.0), subst (λ i. IsAscending (i + 1) es) (sym runs.0) (ascending_run (n + 1) es runs.1))

entries_dropped : (x y : Contents) (appended : List Batch) (g : ℕ) (front : List Entry) → HaveConsecutiveEntries appended → AreRun (x.entries g) → AreRun (y.entries g) → x.entries g ≡ front ++ y.entries g
    → All (λ e. leaves appended g e.0 ≡ true → Contains (y.entries g) e) ((replay x appended).entries g) → (replay y appended).entries g ≡ (replay x appended).entries g
entries_dropped x y appended g front consecutive run run_y is held =
    let cs = changes appended g in
    let at_x : (replay x appended).entries g ≡ joined (kept cs (front ++ y.entries g)) (own appended g) = entries_joined x appended g consecutive run ∙ ap (λ es. joined (kept cs es) (own appended g)) is in
    let (n, runs) = run in
    entries_joined y appended g consecutive run_y
    ∙ joined-dropped (all_keep cs) n front (y.entries g) (own appended g) (subst (IsAscending n) is (ascending_run n (x.entries g) runs)) (kept_twice cs (front ++ y.entries g)) (own_not_kept cs (runs_of_items g (items_of appended) consecutive))
    (All-weaker (λ (e : Entry). leaves appended g e.0 ≡ true → Contains (y.entries g) e) (λ (e : Entry). all_keep cs e.0 ≡ true → Contains (y.entries g) e) (λ e there kept_so. there (all_keep-items g e.0 (items_of appended) ∙ kept_so)) _
    (subst (All (λ (e : Entry). leaves appended g e.0 ≡ true → Contains (y.entries g) e)) at_x held))
    ∙ sym at_x

consecutive-append : (old new : List Batch) → HaveConsecutiveEntries old → HaveConsecutiveEntries new → HaveConsecutiveEntries (old ++ new)
consecutive-append [] new is_old is_new = is_new
consecutive-append (b ∷ bs) new is_old is_new =
    let parts = consecutive_parts b bs is_old in
    consecutive_either true b (bs ++ new) parts.0 (consecutive-append bs new parts.1 is_new)

-- what stands in the Rewrite queue's list before the entries of its later batches
record Before (old new : List Batch) (g : ℕ) : Type 0 where
  front : List Entry
  is : (effect (old ++ new)).entries g ≡ front ++ (effect new).entries g

pub effect_run : (batches : List Batch) (g : ℕ) → HaveConsecutiveEntries batches → AreRun ((effect batches).entries g)
effect_run batches g is =
    let counted = consecutive-filter (batch_counts batches) batches is in
    subst AreRun (sym (entries-after_batches no_contents (whole batches) g counted no_entries_run)) (run_after_changes (changes (whole batches) g) [] (runs_of_items g (items_of (whole batches)) counted) no_entries_run)

before_of : (old new : List Batch) (g : ℕ) → ShareNoGroup old new → HaveConsecutiveEntries old → HaveConsecutiveEntries new → Before old new g
before_of old new g share is_old is_new =
    let counted_old = consecutive-filter (batch_counts old) old is_old in
    let counted_new = consecutive-filter (batch_counts new) new is_new in
    let both = consecutive-append (whole old) (whole new) counted_old counted_new in
    let split = changes-append g (whole old) (whole new) in
    let f = front_of (changes (whole old) g) (changes (whole new) g) (subst (Each IsRun) split (runs_of_items g (items_of (whole old ++ whole new)) both)) in
    record {
      front = f.front;
      is = ap (λ bs. (after_batches no_contents bs).entries g) (whole-append old new share)
          ∙ entries-after_batches no_contents (whole old ++ whole new) g both no_entries_run
          ∙ ap (after_changes []) split ∙ f.is
          ∙ ap (λ es. f.front ++ es) (sym (entries-after_batches no_contents (whole new) g counted_new no_entries_run));
    }

-- the value of a key after both, and after the later batches alone
value_both : (old new : List Batch) (g : ℕ) (k : List ℕ) → ShareNoGroup old new → (effect (old ++ new)).value g k ≡ value_after g k ((effect old).value g k) (items_of (whole new))
value_both old new g k share = ap (λ (m : Contents). m.value g k) (effect-append old new share) ∙ value-after_batches (effect old) (whole new) g k

value_later : (new : List Batch) (g : ℕ) (k : List ℕ) → (effect new).value g k ≡ value_after g k None (items_of (whole new))
value_later new g k = value-after_batches no_contents (whole new) g k

same_value : (o v w : Option (List ℕ)) → v ≡ o → ((value : List ℕ) → o ≡ Some value → w ≡ Some value) → (o ≡ None → w ≡ None) → w ≡ v
same_value None v w is some none = none refl ∙ sym is
same_value (Some value) v w is some none = some value refl ∙ sym is

pub dropped_old_batches : (old new appended : List Batch) → ShareNoGroup old new → HaveConsecutiveEntries old → HaveConsecutiveEntries new → HaveConsecutiveEntries appended → HoldsLeft (effect new) appended (recovered (old ++ new) appended) → recovered new appended ≡ recovered (old ++ new) appended
dropped_old_batches old new appended share is_old is_new consecutive holds =
    let x = effect (old ++ new) in
    let y = effect new in
    contents_ext (replay y appended) (replay x appended)
    (λ g. let before = before_of old new g share is_old is_new in
    entries_dropped x y appended g before.front consecutive (effect_run (old ++ new) g (consecutive-append old new is_old is_new)) (effect_run new g is_new) before.is (holds.entries g))
    (λ g k. value-replay_same y x appended g k
    (λ left. same_value (x.value g k) (x.value g k) (y.value g k) refl
    (λ value is. holds.keys g k value left (value-left x appended g k left ∙ is))
    (λ is. value_later new g k ∙ none_later g k (items_of (whole new)) ((effect old).value g k) (sym (value_both old new g k share) ∙ is))))

pub holds_with_more : (old new appended : List Batch) (m : Contents) → ShareNoGroup old new → HaveConsecutiveEntries old → HaveConsecutiveEntries new → HoldsLeft (effect new) appended m → HoldsLeft (effect (old ++ new)) appended m
holds_with_more old new appended m share is_old is_new holds = record {
  entries = λ g. let before = before_of old new g share is_old is_new in
      All-weaker (λ (e : Entry). leaves appended g e.0 ≡ true → Contains ((effect new).entries g) e) (λ (e : Entry). leaves appended g e.0 ≡ true → Contains ((effect (old ++ new)).entries g) e)
      (λ e there left. subst (λ es. Contains es e) (sym before.is) (Contains-append_right before.front ((effect new).entries g) e (there left))) (m.entries g) (holds.entries g);
  keys = λ g k value left is. value_both old new g k share ∙ set_later g k value (items_of (whole new)) ((effect old).value g k) (sym (value_later new g k) ∙ holds.keys g k value left is);
}

-- what later batches alone leave is the later part of what all leave
pub later_part : (old new : List Batch) → ShareNoGroup old new → HaveConsecutiveEntries old → HaveConsecutiveEntries new → IsLaterPart (effect new) (effect (old ++ new))
later_part old new share is_old is_new = record {
  entries = λ g. let before = before_of old new g share is_old is_new in (before.front, before.is);
  value = λ g k. by_value g k ((effect new).value g k) refl;
}
  where
    by_value : (g : ℕ) (k : List ℕ) (v : Option (List ℕ)) → (effect new).value g k ≡ v → ((effect new).value g k ≡ None) ⊎ ((effect new).value g k ≡ (effect (old ++ new)).value g k)
    by_value g k None is = inl is
    by_value g k (Some value) is = inr (is ∙ sym (value_both old new g k share ∙ set_later g k value (items_of (whole new)) ((effect old).value g k) (sym (value_later new g k) ∙ is)))

-- The last batches of one dropped group still stand.

no_places_left : (xs ys : List (List ℕ)) → xs ++ ys ≡ [] → ys ≡ []
no_places_left [] ys is = is
no_places_left (x ∷ xs) ys is = absurd cc

-- the batches of a group that isn't complete change nothing before others that it has no batch in
pub effect-cut : (id : ℕ) (front tail new : List Batch) → list_all (is_of_group id) tail ≡ true → is_complete (places_in id tail) ≡ false → ShareNoGroup (front ++ tail) new → effect (tail ++ new) ≡ effect new
effect-cut id front tail new all incomplete share =
    ⊎_elim
    (λ none. ap (λ bs. effect (bs ++ new)) (no_batches id tail all (no_places_left (places_in id front) (places_in id tail) (sym (places-append id front tail) ∙ none))))
    (λ none. effect-open_group id [] tail new refl none all incomplete)
    (share id)

pub dropped_to_a_cut : (id : ℕ) (front tail new appended : List Batch) → list_all (is_of_group id) tail ≡ true → is_complete (places_in id tail) ≡ false → ShareNoGroup (front ++ tail) new → HaveConsecutiveEntries (front ++ tail) → HaveConsecutiveEntries new → HaveConsecutiveEntries appended
    → HoldsLeft (effect new) appended (recovered (front ++ tail ++ new) appended) → recovered (tail ++ new) appended ≡ recovered (front ++ tail ++ new) appended
dropped_to_a_cut id front tail new appended all incomplete share is_old is_new consecutive holds =
    ap (λ x. replay x appended) (effect-cut id front tail new all incomplete share) ∙ dropped_old_batches (front ++ tail) new appended share is_old is_new consecutive holds

pub dropped_before_rest : (id : ℕ) (front tail rest new appended : List Batch) → list_all (is_of_group id) tail ≡ true → is_complete (places_in id tail) ≡ false → ShareNoGroup (front ++ tail) (rest ++ new) → ShareNoGroup rest new → HaveConsecutiveEntries (front ++ tail) → HaveConsecutiveEntries rest → HaveConsecutiveEntries new → HaveConsecutiveEntries appended
    → HoldsLeft (effect new) appended (recovered (front ++ tail ++ rest ++ new) appended) → recovered (tail ++ rest ++ new) appended ≡ recovered (front ++ tail ++ rest ++ new) appended
dropped_before_rest id front tail rest new appended all incomplete share share_rest is_old is_rest is_new consecutive holds =
    let same = append_assoc (front ++ tail) rest new in
    ap (λ bs. recovered bs appended) (append_assoc tail rest new)
    ∙ dropped_to_a_cut id front tail (rest ++ new) appended all incomplete share is_old (consecutive-append rest new is_rest is_new) consecutive
    (subst (λ bs. HoldsLeft (effect (rest ++ new)) appended (recovered bs appended)) same (holds_with_more rest new appended (recovered (front ++ tail ++ rest ++ new) appended) share_rest is_rest is_new holds))
    ∙ sym (ap (λ bs. recovered bs appended) same)
