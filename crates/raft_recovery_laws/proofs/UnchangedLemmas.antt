-- Changes of a group's entries in the Rewrite queue that change nothing of what is recovered.
use Rattle.std.proofs.Common.{◌≡◌, ℕ, ◌+◌, ◌<◌, ◌≤◌, Bool, true, false, cond, eqb, nat_le, ◌⊎◌, List, [], ◌∷◌, Option, None, filter, slice_index_or, refl, sym, ◌∙◌, ap, subst, ⊎_elim, arith}
use Rattle.std.specs.List.{All, Contains, AllByRecursion as Each}
use Rattle.std.proofs.lemmas.Bool.{and_parts, cases_Bool, eqb-true}
use Rattle.std.proofs.lemmas.List.Elements.{All-from_recursion, All-weaker, filter_passes}
use Rattle.raft_records.specs.Item.{Entry, Entries, Clean, Compact, Batch}
use Rattle.raft_records.specs.Contents.{Contents, is_next_to, with_entries, with_entries_in, without_group}
use Rattle.raft_records.specs.Validity.{are_consecutive_from}
use Rattle.raft_recovery_laws.specs.Consecutive.{are_consecutive, HaveConsecutiveEntries}
use Rattle.raft_recovery_laws.specs.Recovered.{items_of, leaves, leaves_key, replay}
use Rattle.raft_recovery_laws.specs.Rewriting.{ChangesNothing, EachLeft, FitsRewrite, IsSetByAppend}
use Rattle.raft_recovery_laws.proofs.AppendLemmas.{EntryChange, IsRun, after_changes, all_keep, kept, above_after_changes, apart_kept}
use Rattle.raft_recovery_laws.proofs.EntryLemmas.{changes_of, runs_of_items, all_keep-items, entries-replay}
use Rattle.raft_recovery_laws.proofs.KeptLemmas.{passing, joined, joined-compacted, joined-nothing, kept_all, kept_none, filter_comm, put_on-joined}
use Rattle.raft_recovery_laws.proofs.ListLemmas.{AreRun, Runs, run_above, run_put_on, with_entries-run}
use Rattle.raft_recovery_laws.proofs.AscendingLemmas.{IsAscending, IsAscending-consecutive, IsAscending-lower}
use Rattle.raft_recovery_laws.proofs.RewriteLemmas.{Rewrites, joined-rewritten}
use Rattle.raft_recovery_laws.proofs.MarkLemmas.{contents_ext, entries_set, value-left, value-replay_same}

runs_from_consecutive : (n : ℕ) (es : List Entry) → are_consecutive_from n es ≡ true → Runs n es
runs_from_consecutive n [] is = tt
runs_from_consecutive n (e ∷ es) is =
    let both = and_parts (eqb e.0 n) (are_consecutive_from (n + 1) es) is in
    (eqb-true e.0 n both.0, runs_from_consecutive (n + 1) es both.1)

pub run_from_consecutive : (es : List Entry) → are_consecutive es ≡ true → AreRun es
run_from_consecutive [] is = (0, tt)
run_from_consecutive (e ∷ es) is = (e.0, runs_from_consecutive e.0 (e ∷ es) is)

-- what the batches change of a group's entries, and what they leave of them themselves
abbrev pub changes : List Batch → ℕ → List EntryChange
changes appended group = changes_of group (items_of appended)

abbrev pub own : List Batch → ℕ → List Entry
own appended group = after_changes [] (changes appended group)

pub entries_joined : (x : Contents) (appended : List Batch) (g : ℕ) → HaveConsecutiveEntries appended → AreRun (x.entries g) → (replay x appended).entries g ≡ joined (kept (changes appended g) (x.entries g)) (own appended g)
entries_joined x appended g consecutive run =
    entries-replay x appended g consecutive run ∙ put_on-joined _ _ (apart_kept (changes appended g) (x.entries g) (runs_of_items g (items_of appended) consecutive))

pub kept_twice : (cs : List EntryChange) (w : List Entry) → passing (all_keep cs) (kept cs w) ≡ kept cs w
kept_twice cs w = kept_all (λ (e : Entry). all_keep cs e.0) (kept cs w) (filter_passes (λ (e : Entry). all_keep cs e.0) w)

-- the batches leave none of their own entries alone
pub own_not_kept : (cs : List EntryChange) → Each IsRun cs → passing (all_keep cs) (after_changes [] cs) ≡ []
own_not_kept cs runs =
    kept_none (λ (e : Entry). all_keep cs e.0) (after_changes [] cs)
    (λ k d within.
    let at = (slice_index_or (after_changes [] cs) k d).0 in
    ⊎_elim
    (λ yes. let above = All-from_recursion (λ (e : Entry). at < e.0) (after_changes [] cs) (above_after_changes cs at [] runs tt yes) k d within in absurd (omega arith))
    (λ no. no)
    (cases_Bool (all_keep cs at)))

-- a fact about each entry that is recovered and left alone
each_left : (x : Contents) (appended : List Batch) (group : ℕ) (P : Entry → Type 0) → HaveConsecutiveEntries appended → AreRun (x.entries group) → EachLeft x appended group P
    → All (λ e. all_keep (changes appended group) e.0 ≡ true → P e) (joined (kept (changes appended group) (x.entries group)) (own appended group))
each_left x appended group P consecutive run each =
    All-weaker (λ (e : Entry). leaves appended group e.0 ≡ true → P e) (λ (e : Entry). all_keep (changes appended group) e.0 ≡ true → P e) (λ e is kept_so. is (all_keep-items group e.0 (items_of appended) ∙ kept_so))
    (joined (kept (changes appended group) (x.entries group)) (own appended group))
    (subst (All (λ (e : Entry). leaves appended group e.0 ≡ true → P e)) (entries_joined x appended group consecutive run) each)

-- other entries in one group change nothing of what is recovered, where they give the same there
set_unchanged : (x : Contents) (appended : List Batch) (group : ℕ) (new : List Entry) → HaveConsecutiveEntries appended → AreRun (x.entries group) → AreRun new
    → joined (kept (changes appended group) new) (own appended group) ≡ joined (kept (changes appended group) (x.entries group)) (own appended group)
    → (g : ℕ) → (replay (with_entries_in group new x) appended).entries g ≡ (replay x appended).entries g
set_unchanged x appended group new consecutive run new_run same =
    let y : Contents = record { entries = λ g. new; value = x.value } in
    entries_set x appended group new (entries_joined y appended group consecutive new_run ∙ same ∙ sym (entries_joined x appended group consecutive run))

above_run : (c : ℕ) (w : List Entry) → AreRun w → AreRun (filter (λ e. nat_le c e.0) w)
above_run c w (n, runs) = run_above n c w runs

pub compaction_changes_nothing : (x : Contents) (appended : List Batch) (group index : ℕ) → HaveConsecutiveEntries appended → are_consecutive (x.entries group) ≡ true → EachLeft x appended group (λ e. index ≤ e.0)
    → ChangesNothing x appended (record { group = group; content = Compact index })
compaction_changes_nothing x appended group index consecutive is_run each =
    let run = run_from_consecutive (x.entries group) is_run in
    let cs = changes appended group in
    let old = x.entries group in
    let new = filter (λ (e : Entry). nat_le index e.0) old in
    contents_ext (replay (with_entries_in group new x) appended) (replay x appended)
    (set_unchanged x appended group new consecutive run (above_run index old run)
    (ap (λ w. joined w (own appended group)) (filter_comm (λ (e : Entry). all_keep cs e.0) (λ (e : Entry). nat_le index e.0) old)
    ∙ joined-compacted (all_keep cs) index (kept cs old) (own appended group) (kept_twice cs old) (own_not_kept cs (runs_of_items group (items_of appended) consecutive)) (each_left x appended group (λ e. index ≤ e.0) consecutive run each)))
    (λ g k. refl)

-- nothing is kept where each that is kept can't be
none_kept : (cs : List EntryChange) (xs : List Entry) → All (λ e. all_keep cs e.0 ≡ true → ⊥) xs → All (λ e. all_keep cs e.0 ≡ false) xs
none_kept cs xs each = All-weaker (λ (e : Entry). all_keep cs e.0 ≡ true → ⊥) (λ (e : Entry). all_keep cs e.0 ≡ false) (λ e never. ⊎_elim (λ kept_so. absurd (never kept_so)) (λ is. is) (cases_Bool (all_keep cs e.0))) xs each

removed_value : (b : Bool) (old : Option (List ℕ)) → (b ≡ true → old ≡ None) → cond b None old ≡ old
removed_value true old none = sym (none refl)
removed_value false old none = refl

pub clean_changes_nothing : (x : Contents) (appended : List Batch) (group : ℕ) → HaveConsecutiveEntries appended → are_consecutive (x.entries group) ≡ true → IsSetByAppend x appended group
    → ChangesNothing x appended (record { group = group; content = Clean })
clean_changes_nothing x appended group consecutive is_run by_append =
    let run = run_from_consecutive (x.entries group) is_run in
    let cs = changes appended group in
    let old = x.entries group in
    let none = none_kept cs _ (each_left x appended group (λ e. ⊥) consecutive run by_append.entries) in
    contents_ext (replay (without_group group x) appended) (replay x appended)
    (set_unchanged x appended group [] consecutive run (0, tt) (joined-nothing (all_keep cs) (kept cs old) (own appended group) (kept_twice cs old) (own_not_kept cs (runs_of_items group (items_of appended) consecutive)) none))
    (λ g k. value-replay_same (without_group group x) x appended g k
    (λ left. removed_value (eqb g group) (x.value g k)
    (λ at.
    let same : g ≡ group = eqb-true g group at in
    let P : ℕ → Type 0 = λ h. leaves_key appended h k ≡ true → (replay x appended).value h k ≡ None in
    sym (value-left x appended g k left) ∙ subst P (sym same) (by_append.keys k) left)))

run_of_both : (old : List Entry) (e : Entry) (es : List Entry) → AreRun old → AreRun (e ∷ es) → AreRun (with_entries old (e ∷ es))
run_of_both old e es (n, runs) new = subst AreRun (sym (with_entries-run n old (e ∷ es) runs)) (run_put_on old (e ∷ es) (n, runs) new)

ascending_run : (xs : List Entry) → are_consecutive xs ≡ true → IsAscending 0 xs
ascending_run [] is = tt
ascending_run (e ∷ es) is = IsAscending-lower 0 e.0 (e ∷ es) (omega arith) (IsAscending-consecutive e.0 (e ∷ es) is)

pub rewriting_changes_nothing : (x : Contents) (appended : List Batch) (group : ℕ) (e : Entry) (es : List Entry) → HaveConsecutiveEntries appended → are_consecutive (x.entries group) ≡ true → are_consecutive (e ∷ es) ≡ true → FitsRewrite x appended group e es
    → ChangesNothing x appended (record { group = group; content = Entries (e ∷ es) })
rewriting_changes_nothing x appended group e es consecutive is_run new_run fits =
    let run = run_from_consecutive (x.entries group) is_run in
    let cs = changes appended group in
    let old = x.entries group in
    let now = joined (kept cs old) (own appended group) in
    let rewrites : Rewrites (all_keep cs) old now e es = record {
      held = All-weaker (λ (n : Entry). leaves appended group n.0 ≡ true → Contains ((replay x appended).entries group) n) (λ (n : Entry). all_keep cs n.0 ≡ true → Contains now n)
          (λ n is kept_so. subst (λ xs. Contains xs n) (entries_joined x appended group consecutive run) (is (all_keep-items group n.0 (items_of appended) ∙ kept_so))) (e ∷ es) fits.held;
      covered = each_left x appended group (λ o. (o.0 < e.0) ⊎ Contains (e ∷ es) o) consecutive run fits.covers;
      touching = each_left x appended group (λ o. o.0 < e.0 → is_next_to old e.0 ≡ true) consecutive run fits.touches;
    } in
    contents_ext (replay (with_entries_in group (with_entries old (e ∷ es)) x) appended) (replay x appended)
    (set_unchanged x appended group (with_entries old (e ∷ es)) consecutive run (run_of_both old e es run (run_from_consecutive (e ∷ es) new_run))
    (joined-rewritten (all_keep cs) old (own appended group) e es (ascending_run old is_run) (IsAscending-consecutive e.0 (e ∷ es) new_run) (kept_twice cs old) (own_not_kept cs (runs_of_items group (items_of appended) consecutive)) rewrites))
    (λ g k. refl)
