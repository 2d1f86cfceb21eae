-- What changes nothing of what is recovered meets the premise of its law.
use Rattle.std.proofs.Common.{◌≡◌, ℕ, ◌≤◌, Bool, true, false, cond, eqb, nat_le, ◌&&◌, ◌⊎◌, inl, inr, List, [], ◌∷◌, ◌++◌, Some, None, filter, slice_index_or, refl, sym, ◌∙◌, ap, subst, ⊎_elim, arith}
use Rattle.std.specs.List.{Contains}
use Rattle.std.specs.Str.{bytes_eq}
use Rattle.std.specs.Cmp.Lexicographic.{bytes_decides}
use Rattle.std.proofs.lemmas.Bool.{eq-eqb, leb-true}
use Rattle.std.proofs.lemmas.List.Elements.{Contains-append_cases, All-contains_itself}
use Rattle.raft_records.specs.Item.{Entry, Clean, Compact, Delete, Put, Batch, group_mark_key}
use Rattle.raft_records.specs.Contents.{Contents, with_entries_in, with_value, without_group}
use Rattle.raft_recovery_laws.specs.Consecutive.{are_consecutive, HaveConsecutiveEntries}
use Rattle.raft_recovery_laws.specs.Recovered.{effect, items_of, leaves, leaves_key, recovered, replay}
use Rattle.raft_recovery_laws.specs.Dropping.{HoldsLeft}
use Rattle.raft_recovery_laws.proofs.DropRewriteLemmas.{effect_run}
use Rattle.raft_recovery_laws.specs.Rewriting.{ChangesNothing, EachLeft, IsSetByAppend}
use Rattle.raft_recovery_laws.proofs.AppendLemmas.{all_keep, kept}
use Rattle.raft_recovery_laws.proofs.AscendingLemmas.{Contains-filter, Contains-unfilter}
use Rattle.raft_recovery_laws.proofs.EntryLemmas.{runs_of_items, all_keep-items}
use Rattle.raft_recovery_laws.proofs.KeptLemmas.{joined}
use Rattle.raft_recovery_laws.proofs.ListLemmas.{AreRun, has_before, run_above}
use Rattle.raft_recovery_laws.proofs.MarkLemmas.{value-left}
use Rattle.raft_recovery_laws.proofs.UnchangedLemmas.{changes, own, entries_joined, own_not_kept, run_from_consecutive}

-- what is joined is of one of the lists
in_either : (b : Bool) (w : List Entry) (f : Entry) (fs : List Entry) (e : Entry) → Contains (cond b (w ++ (f ∷ fs)) (f ∷ fs)) e → Contains w e ⊎ Contains (f ∷ fs) e
in_either true w f fs e is = Contains-append_cases w (f ∷ fs) e is
in_either false w f fs e is = inr is

of_one : (w a : List Entry) (e : Entry) → Contains (joined w a) e → Contains w e ⊎ Contains a e
of_one w [] e is = inl is
of_one w (f ∷ fs) e is = in_either (has_before f.0 w) w f fs e is

-- an entry that is recovered and left alone stands in the Rewrite queue's list
pub left_is_rewritten : (x : Contents) (appended : List Batch) (g : ℕ) (e : Entry) → HaveConsecutiveEntries appended → AreRun (x.entries g) → Contains ((replay x appended).entries g) e → leaves appended g e.0 ≡ true → Contains (x.entries g) e
left_is_rewritten x appended g e consecutive run is left =
    let cs = changes appended g in
    let keeps = λ (i : Entry). all_keep cs i.0 in
    let kept_so : all_keep cs e.0 ≡ true = sym (all_keep-items g e.0 (items_of appended)) ∙ left in
    ⊎_elim
    (λ old. (Contains-unfilter keeps (x.entries g) e old).0)
    (λ new. absurd (omega (arith, (subst (λ es. Contains es e) (own_not_kept cs (runs_of_items g (items_of appended) consecutive)) (Contains-filter keeps (own appended g) e new kept_so)).1)))
    (of_one (kept cs (x.entries g)) (own appended g) e (subst (λ es. Contains es e) (entries_joined x appended g consecutive run) is))

own_group : {X : Type 0} (group : ℕ) (new old : X) → cond (eqb group group) new old ≡ new
own_group group new old = ap (λ b. cond b new old) (eq-eqb group group refl)

pub deleted_is_none : (x : Contents) (appended : List Batch) (group : ℕ) (key : List ℕ) → ChangesNothing x appended (record { group = group; content = Delete key }) → leaves_key appended group key ≡ true → (replay x appended).value group key ≡ None
deleted_is_none x appended group key same left =
    sym (ap (λ (m : Contents). m.value group key) same) ∙ value-left (with_value group key None x) appended group key left
    ∙ ap (λ b. cond (b && bytes_eq key key) None (x.value group key)) (eq-eqb group group refl) ∙ ap (λ b. cond b None (x.value group key)) ((bytes_decides key key).1 refl)

each_by : (x : Contents) (appended : List Batch) (group : ℕ) (P : Entry → Type 0) → ((e : Entry) → Contains ((replay x appended).entries group) e → leaves appended group e.0 ≡ true → P e) → EachLeft x appended group P
each_by x appended group P all = λ k d within. let es = (replay x appended).entries group in all (slice_index_or es k d) (All-contains_itself es k d within)

pub compacted_is_above : (x : Contents) (appended : List Batch) (group index : ℕ) → HaveConsecutiveEntries appended → are_consecutive (x.entries group) ≡ true → ChangesNothing x appended (record { group = group; content = Compact index }) → EachLeft x appended group (λ e. index ≤ e.0)
compacted_is_above x appended group index consecutive is_run same =
    let old = x.entries group in
    let new = filter (λ (e : Entry). nat_le index e.0) old in
    let y = with_entries_in group new x in
    let at : y.entries group ≡ new = own_group group new (x.entries group) in
    let (n, runs) = run_from_consecutive old is_run in
    each_by x appended group (λ e. index ≤ e.0)
    (λ e is left.
    let in_new = subst (λ es. Contains es e) at (left_is_rewritten y appended group e consecutive (subst AreRun (sym at) (run_above n index old runs)) (subst (λ (m : Contents). Contains (m.entries group) e) (sym same) is) left) in
    leb-true index e.0 (Contains-unfilter (λ (o : Entry). nat_le index o.0) old e in_new).1)

pub cleaned_is_set_by_append : (x : Contents) (appended : List Batch) (group : ℕ) → HaveConsecutiveEntries appended → ChangesNothing x appended (record { group = group; content = Clean }) → IsSetByAppend x appended group
cleaned_is_set_by_append x appended group consecutive same =
    let y = without_group group x in
    let at : y.entries group ≡ [] = own_group group [] (x.entries group) in
    let none : AreRun [] = (0, tt) in
    record {
      entries = each_by x appended group (λ e. ⊥)
          (λ e is left.
          let in_none = subst (λ es. Contains es e) at (left_is_rewritten y appended group e consecutive (subst AreRun (sym at) none) (subst (λ (m : Contents). Contains (m.entries group) e) (sym same) is) left) in
          omega (arith, in_none.1));
      keys = λ key left. sym (ap (λ (m : Contents). m.value group key) same) ∙ value-left y appended group key left ∙ own_group group None (x.value group key);
    }

pub put_is_there : (x : Contents) (appended : List Batch) (group : ℕ) (key value : List ℕ) → bytes_eq key group_mark_key ≡ false → ChangesNothing x appended (record { group = group; content = Put key value }) → leaves_key appended group key ≡ true → (replay x appended).value group key ≡ Some value
put_is_there x appended group key value no_mark same left =
    let y = with_value group key (Some value) x in
    let set : cond (bytes_eq key group_mark_key) x y ≡ y = ap (λ b. cond b x y) no_mark in
    sym (ap (λ (m : Contents). m.value group key) same) ∙ ap (λ (m : Contents). (replay m appended).value group key) set ∙ value-left y appended group key left
    ∙ ap (λ b. cond (b && bytes_eq key key) (Some value) (x.value group key)) (eq-eqb group group refl) ∙ ap (λ b. cond b (Some value) (x.value group key)) ((bytes_decides key key).1 refl)

-- what stays recovered without the old batches is in the new ones, where Append leaves it alone
pub dropped_is_held : (new appended : List Batch) (m : Contents) → HaveConsecutiveEntries new → HaveConsecutiveEntries appended → recovered new appended ≡ m → HoldsLeft (effect new) appended m
dropped_is_held new appended m is_new consecutive same = record {
  entries = λ g k d within.
      let e = slice_index_or (m.entries g) k d in
      λ left. left_is_rewritten (effect new) appended g e consecutive (effect_run new g is_new) (subst (λ (n : Contents). Contains (n.entries g) e) (sym same) (All-contains_itself (m.entries g) k d within)) left;
  keys = λ g k value left is. sym (value-left (effect new) appended g k left) ∙ ap (λ (n : Contents). n.value g k) same ∙ is;
}
