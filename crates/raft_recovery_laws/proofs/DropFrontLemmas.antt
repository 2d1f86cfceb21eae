-- What is recovered without the first batches of the Append queue.
use Rattle.std.proofs.Common.{◌≡◌, ℕ, Bool, true, false, cond, List, [], ◌∷◌, ◌++◌, refl, sym, ◌∙◌, ap, subst, inl, inr}
use Rattle.std.specs.Prelude.{Contains}
use Rattle.std.proofs.lemmas.List.Elements.{recursion_from_All, All-from_recursion, Contains-append_left, Contains-append_right, Contains-push}
use Rattle.raft_records.specs.Item.{Entry, Batch}
use Rattle.raft_records.specs.Contents.{Contents}
use Rattle.raft_recovery_laws.specs.Recovered.{items_of, leaves, leaves_key, effect, recovered, replay}
use Rattle.raft_recovery_laws.specs.Consecutive.{HaveConsecutiveEntries, HasConsecutiveEntries}
use Rattle.raft_recovery_laws.specs.DroppingFront.{IsBeside, HoldsDropped}
use Rattle.raft_recovery_laws.proofs.AppendLemmas.{EntryChange, all_keep, kept}
use Rattle.raft_recovery_laws.proofs.FrontLemmas.{replayed}
use Rattle.raft_recovery_laws.proofs.EntryLemmas.{changes_of, all_keep-items, runs_of_items, entries-replay}
use Rattle.raft_recovery_laws.proofs.KeyLemmas.{value_after, items_leave, value-replay}
use Rattle.raft_recovery_laws.proofs.MarkLemmas.{contents_ext}
use Rattle.raft_recovery_laws.proofs.ContentsLemmas.{effect_consecutive, replay_consecutive, run_of_consecutive}
use Rattle.raft_recovery_laws.proofs.FixedLemmas.{consecutive_parts, replay-replay, replay-later}
use Rattle.raft_recovery_laws.proofs.DropLemmas.{In, NoneBeside, in_contains, in_each, in_kept, kept_in, each_in, replayed_without, replayed_needs, replayed_needs_no_other}

entries_without : (x m : Contents) (rest : List Batch) (g : ℕ) → HasConsecutiveEntries x → HasConsecutiveEntries m → HaveConsecutiveEntries rest → replay m rest ≡ m → HoldsDropped x rest m → (replay x rest).entries g ≡ m.entries g
entries_without x m rest g run_x run_m consecutive fixed holds =
    entries-replay x rest g consecutive (run_of_consecutive (x.entries g) (run_x g))
    ∙ replayed_without cs (x.entries g) (m.entries g) (runs_of_items g (items_of rest) consecutive) (run_of_consecutive (x.entries g) (run_x g)) (run_of_consecutive (m.entries g) (run_m g))
    (sym (entries-replay m rest g consecutive (run_of_consecutive (m.entries g) (run_m g))) ∙ ap (λ (n : Contents). n.entries g) fixed) held none
  where
    cs : List EntryChange
    cs = changes_of g (items_of rest)

    left : (e : Entry) → all_keep cs e.0 ≡ true → leaves rest g e.0 ≡ true
    left e is = all_keep-items g e.0 (items_of rest) ∙ is

    held : (e : Entry) → In e (kept cs (m.entries g)) → In e (kept cs (x.entries g))
    held e is =
        let (found, keeps) = kept_in (λ (y : Entry). all_keep cs y.0) (m.entries g) e is in
        let has = in_each (λ (y : Entry). leaves rest g y.0 ≡ true → Contains (x.entries g) y) (m.entries g) e (recursion_from_All (λ (y : Entry). leaves rest g y.0 ≡ true → Contains (x.entries g) y) (m.entries g) (holds.entries g)) found (left e keeps) in
        in_kept (λ (y : Entry). all_keep cs y.0) (x.entries g) e (in_contains (x.entries g) e has) keeps

    none : NoneBeside cs (x.entries g) (m.entries g)
    none e is beside =
        let (found, keeps) = kept_in (λ (y : Entry). all_keep cs y.0) (x.entries g) e is in
        in_each (λ (y : Entry). leaves rest g y.0 ≡ true → IsBeside (m.entries g) y.0 → ⊥) (x.entries g) e (recursion_from_All (λ (y : Entry). leaves rest g y.0 ≡ true → IsBeside (m.entries g) y.0 → ⊥) (x.entries g) (holds.others g)) found (left e keeps) beside

value_without : (x m : Contents) (rest : List Batch) (g : ℕ) (k : List ℕ) → replay m rest ≡ m → HoldsDropped x rest m → (replay x rest).value g k ≡ m.value g k
value_without x m rest g k fixed holds = value-replay x rest g k ∙ items_leave g k (items_of rest) (x.value g k) (m.value g k) ∙ go (leaves_key rest g k) refl
  where
    is : value_after g k (m.value g k) (items_of rest) ≡ m.value g k
    is = sym (value-replay m rest g k) ∙ ap (λ (n : Contents). n.value g k) fixed

    go : (b : Bool) → leaves_key rest g k ≡ b → cond b (x.value g k) (value_after g k (m.value g k) (items_of rest)) ≡ m.value g k
    go true leave = holds.keys g k leave
    go false leave = is

pub replay-without : (x m : Contents) (rest : List Batch) → HasConsecutiveEntries x → HasConsecutiveEntries m → HaveConsecutiveEntries rest → replay m rest ≡ m → HoldsDropped x rest m → replay x rest ≡ m
replay-without x m rest run_x run_m consecutive fixed holds = contents_ext (replay x rest) m (λ g. entries_without x m rest g run_x run_m consecutive fixed holds) (λ g k. value_without x m rest g k fixed holds)

pub recovered-without : (rewritten front rest : List Batch) → HaveConsecutiveEntries rewritten → HaveConsecutiveEntries (front ++ rest) → HoldsDropped (effect rewritten) rest (recovered rewritten (front ++ rest)) → recovered rewritten rest ≡ recovered rewritten (front ++ rest)
recovered-without rewritten front rest run consecutive holds =
    let x = effect rewritten in
    let run_x = effect_consecutive rewritten run in
    let run_m = replay_consecutive x (front ++ rest) run_x consecutive in
    replay-without x (recovered rewritten (front ++ rest)) rest run_x run_m (consecutive_parts front rest consecutive).1
    (replay-later (recovered rewritten (front ++ rest)) front rest run_m consecutive (replay-replay x (front ++ rest) run_x consecutive)) holds

-- What the Rewrite queue has to hold then.

contains_in : {X : Type 0} (xs : List X) (e : X) → In e xs → Contains xs e
contains_in [] e found = absurd found
contains_in (x ∷ xs) e (inl same) = subst (Contains (x ∷ xs)) same (Contains-append_left (x ∷ []) xs x (Contains-push [] x))
contains_in (x ∷ xs) e (inr later) = Contains-append_right (x ∷ []) xs e (contains_in xs e later)

pub holds-without : (x m : Contents) (rest : List Batch) → HasConsecutiveEntries x → HaveConsecutiveEntries rest → replay x rest ≡ m → HoldsDropped x rest m
holds-without x m rest run_x consecutive is = record {
  entries = λ g. All-from_recursion (Held g) (m.entries g) (each_in (Held g) (m.entries g) (λ e found leave. contains_in (x.entries g) e (held g e found leave)));
  others = λ g. All-from_recursion (Alone g) (x.entries g) (each_in (Alone g) (x.entries g) (λ e found leave. none g e (in_kept (λ (y : Entry). all_keep (changes_of g (items_of rest)) y.0) (x.entries g) e found (keeps g e leave))));
  keys = λ g k leave. sym (ap (λ (n : Contents). n.value g k) (sym is) ∙ value-replay x rest g k ∙ items_leave g k (items_of rest) (x.value g k) (x.value g k) ∙ ap (λ b. cond b (x.value g k) (value_after g k (x.value g k) (items_of rest))) leave);
}
  where
    Held : ℕ → Entry → Type 0
    Held g e = leaves rest g e.0 ≡ true → Contains (x.entries g) e

    Alone : ℕ → Entry → Type 0
    Alone g e = leaves rest g e.0 ≡ true → IsBeside (m.entries g) e.0 → ⊥

    keeps : (g : ℕ) (e : Entry) → leaves rest g e.0 ≡ true → all_keep (changes_of g (items_of rest)) e.0 ≡ true
    keeps g e leave = sym (all_keep-items g e.0 (items_of rest)) ∙ leave

    found_of : (g : ℕ) → replayed (changes_of g (items_of rest)) (x.entries g) ≡ m.entries g
    found_of g = sym (entries-replay x rest g consecutive (run_of_consecutive (x.entries g) (run_x g))) ∙ ap (λ (n : Contents). n.entries g) is

    held : (g : ℕ) (e : Entry) → In e (m.entries g) → leaves rest g e.0 ≡ true → In e (x.entries g)
    held g e found leave =
        let cs = changes_of g (items_of rest) in
        (kept_in (λ (y : Entry). all_keep cs y.0) (x.entries g) e (replayed_needs cs (x.entries g) (m.entries g) (runs_of_items g (items_of rest) consecutive) (found_of g) e (in_kept (λ (y : Entry). all_keep cs y.0) (m.entries g) e found (keeps g e leave)))).0

    none : (g : ℕ) → NoneBeside (changes_of g (items_of rest)) (x.entries g) (m.entries g)
    none g = replayed_needs_no_other (changes_of g (items_of rest)) (x.entries g) (m.entries g) (runs_of_items g (items_of rest) consecutive)
        (run_of_consecutive (m.entries g) (subst HasConsecutiveEntries is (replay_consecutive x rest run_x consecutive) g)) (found_of g)
