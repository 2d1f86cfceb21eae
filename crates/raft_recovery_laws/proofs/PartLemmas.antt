-- Entries put on a list in two parts, the second starting right after the first.
use Rattle.std.proofs.Common.{◌≡◌, ℕ, ◌+◌, ◌<◌, ◌≤◌, Bool, true, false, cond, eqb, ltb, List, [], ◌∷◌, ◌++◌, refl, sym, ◌∙◌, ap, append-nil, append_assoc, inl, inr, arith}
use Rattle.std.proofs.lemmas.Bool.{eq-eqb, ltb-true, or_right, cases_Bool}
use Rattle.raft_records.specs.Item.{Entry, Entries}
use Rattle.raft_records.specs.Contents.{Contents, entries_below, with_entries, after_item}
use Rattle.raft_recovery_laws.specs.Consecutive.{are_consecutive}
use Rattle.raft_recovery_laws.proofs.ListLemmas.{Runs, AreRun, Below, has_before, put_on, each_append, each_passes, each_weaker, below_all, before_in_append, put_on-before, put_on-apart, run_put_on, runs_left, with_entries-run}
use Rattle.raft_recovery_laws.proofs.AppendLemmas.{before-append}
use Rattle.raft_recovery_laws.proofs.ContentsLemmas.{run_of_consecutive}
use Rattle.raft_recovery_laws.proofs.MarkLemmas.{contents_ext}

-- the first part is below the second
first_below : (n : ℕ) (es : List Entry) (f : Entry) (fs : List Entry) → Runs n (es ++ f ∷ fs) → (Below f.0 es) × (n ≤ f.0)
first_below n [] f fs (here, rest) = (tt, omega (arith, here))
first_below n (e ∷ es) f fs (here, rest) =
    let (below, more) = first_below (n + 1) es f fs rest in
    ((omega (arith, here, more), below), omega (arith, more))

-- a list with entries whose last is right before others takes these after all of them
put_after : (u : List Entry) (f : Entry) (fs : List Entry) → Below f.0 u → has_before f.0 u ≡ true → put_on u (f ∷ fs) ≡ u ++ f ∷ fs
put_after u f fs below before = put_on-before u f fs before ∙ ap (λ v. v ++ f ∷ fs) (below_all f.0 u below)

below_put : (e f : Entry) (w : List Entry) → e.0 < f.0 → Below f.0 (entries_below e.0 w)
below_put e f w less = each_weaker (λ (x : Entry). ltb x.0 e.0 ≡ true) (λ x. x.0 < f.0) (λ x is. (let low : x.0 < e.0 = ltb-true x.0 e.0 is in omega (arith, low, less))) (entries_below e.0 w) (each_passes (λ (x : Entry). ltb x.0 e.0) w)

put_on-put_on : (w es fs : List Entry) → AreRun (es ++ fs) → put_on (put_on w es) fs ≡ put_on w (es ++ fs)
put_on-put_on w [] fs run = refl
put_on-put_on w (e ∷ es) [] run = ap (put_on w) (sym (append-nil (e ∷ es)))
put_on-put_on w (e ∷ es) (f ∷ fs) (n, runs) = elim (cases_Bool (has_before e.0 w)) [
  | inl touch ↦
      ap (λ u. put_on u (f ∷ fs)) (put_on-before w e es touch)
      ∙ put_after (entries_below e.0 w ++ e ∷ es) f fs (each_append (λ (x : Entry). x.0 < f.0) (entries_below e.0 w) (e ∷ es) (below_put e f w below.0) below)
      (before-append f.0 (entries_below e.0 w) (e ∷ es) ∙ or_right (has_before f.0 (entries_below e.0 w)) (has_before f.0 (e ∷ es)) next)
      ∙ append_assoc (entries_below e.0 w) (e ∷ es) (f ∷ fs) ∙ sym (put_on-before w e (es ++ f ∷ fs) touch)
  | inr gap ↦ ap (λ u. put_on u (f ∷ fs)) (put_on-apart w e es gap) ∙ put_after (e ∷ es) f fs below next ∙ sym (put_on-apart w e (es ++ f ∷ fs) gap)
]
  where
    below : Below f.0 (e ∷ es)
    below = (first_below n (e ∷ es) f fs runs).0

    next : has_before f.0 (e ∷ es) ≡ true
    next = before_in_append n e es f fs runs

run_first : (es fs : List Entry) → AreRun (es ++ fs) → AreRun es
run_first es fs (n, runs) = (n, runs_left n es fs runs)

with_entries-parts : (w es fs : List Entry) → AreRun w → AreRun (es ++ fs) → with_entries (with_entries w es) fs ≡ with_entries w (es ++ fs)
with_entries-parts w es fs (n, runs) run =
    let (k, then) = run_put_on w es (n, runs) (run_first es fs run) in
    ap (λ u. with_entries u fs) (with_entries-run n w es runs) ∙ with_entries-run k (put_on w es) fs then ∙ put_on-put_on w es fs run ∙ sym (with_entries-run n w (es ++ fs) runs)

twice : (b : Bool) (two one : List Entry) (between old : List Entry) → two ≡ one → cond b two (cond b between old) ≡ cond b one old
twice true two one between old same = same
twice false two one between old same = refl

pub after_item-parts : (x : Contents) (group : ℕ) (es fs : List Entry) → are_consecutive (x.entries group) ≡ true → are_consecutive (es ++ fs) ≡ true
    → after_item (after_item x (record { group = group; content = Entries es })) (record { group = group; content = Entries fs }) ≡ after_item x (record { group = group; content = Entries (es ++ fs) })
after_item-parts x group es fs run parts =
    contents_ext _ _
    (λ g. twice (eqb g group) (with_entries (cond (eqb group group) (with_entries (x.entries group) es) (x.entries group)) fs) (with_entries (x.entries group) (es ++ fs)) (with_entries (x.entries group) es) (x.entries g)
    (ap (λ b. with_entries (cond b (with_entries (x.entries group) es) (x.entries group)) fs) (eq-eqb group group refl)
    ∙ with_entries-parts (x.entries group) es fs (run_of_consecutive (x.entries group) run) (run_of_consecutive (es ++ fs) parts)))
    (λ g k. refl)
