-- One group's entries where changes before these may still stand: they change nothing.
use Rattle.std.proofs.Common.{◌≡◌, ◌⊎◌, ℕ, ◌<◌, Bool, true, false, ltb, leb, ◌&&◌, List, [], ◌∷◌, ◌++◌, filter, refl, sym, ◌∙◌, ap, subst, inl, inr, arith, append_assoc, append-nil}
use Rattle.std.specs.List.{AllByRecursion as Each}
use Rattle.std.proofs.lemmas.Bool.{or_right, or_left, or_from, cases_Bool}
use Rattle.std.proofs.lemmas.List.Elements.{filter-append, filter_agree}
use Rattle.std.proofs.lemmas.List.Folds.{list_all-append}
use Rattle.std.proofs.lemmas.List.Sums.{fold-append}
use Rattle.raft_records.specs.Item.{Entry}
use Rattle.raft_records.specs.Contents.{entries_below}
use Rattle.raft_recovery_laws.proofs.ListLemmas.{AreRun, Above, has_before, put_on, each_weaker, each_passes, filter_all, filter_none, filter_filter, below_none, before_in_append, put_on-before, put_on-apart}
use Rattle.raft_recovery_laws.proofs.AppendLemmas.{EntryChange, Stay, Place, Empty, Cut, IsRun, Apart, after_change, after_changes, keeps, all_keep, kept_by, kept, kept-cons, kept_by-stay, above_after_changes, apart_after_change, apart_from_nothing, before-append, before_apart, no_before_filter, put_on-nothing, put_on-touching}
use Rattle.raft_recovery_laws.proofs.KeptLemmas.{filter_comm}

-- the entries that changes set on these
abbrev pub replayed : List EntryChange → List Entry → List Entry
replayed cs x = put_on (kept cs x) (after_changes [] cs)

pub kept-append : (cs ds : List EntryChange) (w : List Entry) → kept (cs ++ ds) w ≡ kept ds (kept cs w)
kept-append cs ds w = filter_agree (λ e. all_keep (cs ++ ds) e.0) (λ e. all_keep cs e.0 && all_keep ds e.0) (λ e. list_all-append (λ c. keeps c e.0) cs ds) w ∙ sym (filter_filter (λ e. all_keep cs e.0) (λ e. all_keep ds e.0) w)

pub kept_twice : (cs : List EntryChange) (w : List Entry) → kept cs (kept cs w) ≡ kept cs w
kept_twice cs w = filter_all (λ e. all_keep cs e.0) (kept cs w) (each_passes (λ e. all_keep cs e.0) w)

pub each_run_right : (cs ds : List EntryChange) → Each IsRun (cs ++ ds) → Each IsRun ds
each_run_right [] ds runs = runs
each_run_right (c ∷ cs) ds (run, runs) = each_run_right cs ds runs

-- Of what changes leave themselves they leave nothing alone.

none_passes : (p : ℕ → Bool) (a : List Entry) → ((i : ℕ) → p i ≡ true → Above i a) → Each (λ e. p e.0 ≡ false) a
none_passes p [] above = tt
none_passes p (e ∷ es) above = (go (p e.0) refl, none_passes p es (λ i is. (above i is).1))
  where
    go : (b : Bool) → p e.0 ≡ b → p e.0 ≡ false
    go true is = (let less : e.0 < e.0 = (above e.0 is).0 in absurd (omega arith))
    go false is = is

above_new : (cs : List EntryChange) → Each IsRun cs → (i : ℕ) → all_keep cs i ≡ true → Above i (after_changes [] cs)
above_new cs runs i is = above_after_changes cs i [] runs tt is

pub kept-after_changes : (cs : List EntryChange) → Each IsRun cs → kept cs (after_changes [] cs) ≡ []
kept-after_changes cs runs = filter_none (λ e. all_keep cs e.0) (after_changes [] cs) (none_passes (all_keep cs) (after_changes [] cs) (above_new cs runs))

pub apart_new : (cs : List EntryChange) (x : List Entry) → Each IsRun cs → Apart (kept cs x) (after_changes [] cs)
apart_new cs x runs = each_weaker (λ (e : Entry). all_keep cs e.0 ≡ true) (λ e. Above e.0 (after_changes [] cs)) (λ e is. above_new cs runs e.0 is) (kept cs x) (each_passes (λ e. all_keep cs e.0) x)

-- Entries put on a list with lower indexes are put next to it, or replace it.

pub put_on_cases : (w a : List Entry) → Apart w a → (put_on w a ≡ w ++ a) ⊎ ((put_on w a ≡ a) × ((p : Entry → Bool) → put_on (filter p w) a ≡ a))
put_on_cases w [] apart = inl (sym (append-nil w))
put_on_cases w (f ∷ r) apart = elim (cases_Bool (has_before f.0 w)) [
  | inl touch ↦ inl (put_on-touching w f r apart touch)
  | inr gap ↦ inr (put_on-apart w f r gap, λ p. put_on-apart (filter p w) f r (no_before_filter p f.0 w gap))
]

pub put_on-next : (w a : List Entry) → AreRun (w ++ a) → Apart w a → put_on w a ≡ w ++ a
put_on-next w [] run apart = sym (append-nil w)
put_on-next [] (f ∷ r) run apart = refl
put_on-next (x ∷ w) (f ∷ r) (n, runs) apart = put_on-touching (x ∷ w) f r apart (before_in_append n x w f r runs)

-- Entries that stay where changes are set on them: what is left alone, and then what the changes leave.
pub fixed_parts : (cs : List EntryChange) (j : List Entry) → Each IsRun cs → replayed cs j ≡ j → j ≡ kept cs j ++ after_changes [] cs
fixed_parts cs j runs fixed = elim (put_on_cases (kept cs j) (after_changes [] cs) (apart_new cs j runs)) [
  | inl both ↦ sym fixed ∙ both
  | inr (alone, others) ↦
      let is : j ≡ after_changes [] cs = sym fixed ∙ alone in
      is ∙ ap (λ w. w ++ after_changes [] cs) (sym (ap (kept cs) is ∙ kept-after_changes cs runs))
]

pub fixed_from_parts : (cs : List EntryChange) (j : List Entry) → Each IsRun cs → AreRun j → j ≡ kept cs j ++ after_changes [] cs → replayed cs j ≡ j
fixed_from_parts cs j runs run parts = put_on-next (kept cs j) (after_changes [] cs) (subst AreRun parts run) (apart_new cs j runs) ∙ sym parts

-- changes set on entries stay where they are set again
pub replayed-replayed : (cs : List EntryChange) (x : List Entry) → Each IsRun cs → replayed cs (replayed cs x) ≡ replayed cs x
replayed-replayed cs x runs = elim (put_on_cases (kept cs x) (after_changes [] cs) (apart_new cs x runs)) [
  | inl both ↦ ap (λ w. put_on w (after_changes [] cs)) (ap (kept cs) both ∙ filter-append (λ e. all_keep cs e.0) (kept cs x) (after_changes [] cs) ∙ ap (λ ys. kept cs (kept cs x) ++ ys) (kept-after_changes cs runs) ∙ append-nil (kept cs (kept cs x)) ∙ kept_twice cs x)
  | inr (alone, others) ↦ ap (λ w. put_on w (after_changes [] cs)) (ap (kept cs) alone ∙ kept-after_changes cs runs) ∙ put_on-nothing (after_changes [] cs) ∙ sym alone
]

-- Changes after others leave what they leave themselves, possibly after what they leave alone of the others'.

after_change_cases : (w a : List Entry) (c : EntryChange) → Apart w a → (after_change (w ++ a) c ≡ kept_by c w ++ after_change a c) ⊎ (after_change (w ++ a) c ≡ after_change a c)
after_change_cases w a Stay apart = inl (ap (λ xs. xs ++ a) (sym (kept_by-stay w)))
after_change_cases w a (Place e es) apart = elim (cases_Bool (has_before e.0 a)) [
  | inl next ↦ inl (put_on-before (w ++ a) e es (before-append e.0 w a ∙ or_right (has_before e.0 w) (has_before e.0 a) next) ∙ ap (λ xs. xs ++ e ∷ es) (filter-append (λ x. ltb x.0 e.0) w a)
      ∙ append_assoc (entries_below e.0 w) (entries_below e.0 a) (e ∷ es) ∙ ap (λ xs. entries_below e.0 w ++ xs) (sym (put_on-before a e es next)))
  | inr far ↦ elim (cases_Bool (has_before e.0 w)) [
    | inl touch ↦ inl (put_on-before (w ++ a) e es (before-append e.0 w a ∙ or_left (has_before e.0 w) (has_before e.0 a) touch) ∙ ap (λ xs. xs ++ e ∷ es) (filter-append (λ x. ltb x.0 e.0) w a
        ∙ ap (λ xs. entries_below e.0 w ++ xs) (below_none e.0 a (before_apart e.0 w a apart touch)) ∙ append-nil (entries_below e.0 w)) ∙ ap (λ xs. entries_below e.0 w ++ xs) (sym (put_on-apart a e es far)))
    | inr gap ↦ inr (put_on-apart (w ++ a) e es (before-append e.0 w a ∙ or_from (has_before e.0 w) (has_before e.0 a) gap far) ∙ sym (put_on-apart a e es far))
  ]
]
after_change_cases w a Empty apart = inr refl
after_change_cases w a (Cut index) apart = inl (filter-append (λ x. leb index x.0) w a)

after_changes_cases : (cs : List EntryChange) (w a : List Entry) → Each IsRun cs → Apart w a → (after_changes (w ++ a) cs ≡ kept cs w ++ after_changes a cs) ⊎ (after_changes (w ++ a) cs ≡ after_changes a cs)
after_changes_cases [] w a _ apart = inl (ap (λ xs. xs ++ a) (sym (kept_by-stay w)))
after_changes_cases (c ∷ cs) w a (run, runs) apart = elim (after_change_cases w a c apart) [
  | inl both ↦ elim (after_changes_cases cs (kept_by c w) (after_change a c) runs (apart_after_change w a c run apart)) [
    | inl then_both ↦ inl (ap (λ j. after_changes j cs) both ∙ then_both ∙ ap (λ xs. xs ++ after_changes (after_change a c) cs) (sym (kept-cons c cs w)))
    | inr then_alone ↦ inr (ap (λ j. after_changes j cs) both ∙ then_alone)
  ]
  | inr alone ↦ inr (ap (λ j. after_changes j cs) alone)
]

-- what stands before the entries of the later changes
pub record Front (cs ds : List EntryChange) : Type 0 where
  pub front : List Entry
  pub is : after_changes [] (cs ++ ds) ≡ front ++ after_changes [] ds
  pub stays : kept ds front ≡ front

pub front_of : (cs ds : List EntryChange) → Each IsRun (cs ++ ds) → Front cs ds
front_of cs ds runs = elim (after_changes_cases ds old [] (each_run_right cs ds runs) (apart_from_nothing old)) [
  | inl both ↦ record { front = kept ds old; is = all ∙ both; stays = kept_twice ds old }
  | inr alone ↦ record { front = []; is = all ∙ alone; stays = refl }
]
  where
    old : List Entry
    old = after_changes [] cs

    all : after_changes [] (cs ++ ds) ≡ after_changes (old ++ []) ds
    all = fold-append after_change [] cs ds ∙ ap (λ xs. after_changes xs ds) (sym (append-nil old))

-- what later changes leave alone of entries on which all stay
pub kept_front : (cs ds : List EntryChange) (m : List Entry) → (runs : Each IsRun (cs ++ ds)) → (f : Front cs ds) → replayed (cs ++ ds) m ≡ m → kept ds m ≡ kept (cs ++ ds) m ++ f.front
kept_front cs ds m runs f fixed =
    let a = after_changes [] ds in
    let v = kept (cs ++ ds) m in
    let parts : m ≡ v ++ (f.front ++ a) = fixed_parts (cs ++ ds) m runs fixed ∙ ap (λ xs. v ++ xs) f.is in
    let left : kept ds v ≡ v = ap (kept ds) (kept-append cs ds m) ∙ kept_twice ds (kept cs m) ∙ sym (kept-append cs ds m) in
    let right : kept ds (f.front ++ a) ≡ f.front = filter-append (λ e. all_keep ds e.0) f.front a ∙ ap (λ xs. kept ds f.front ++ xs) (kept-after_changes ds (each_run_right cs ds runs)) ∙ append-nil (kept ds f.front) ∙ f.stays in
    ap (kept ds) parts ∙ filter-append (λ e. all_keep ds e.0) v (f.front ++ a) ∙ ap (λ xs. xs ++ kept ds (f.front ++ a)) left ∙ ap (λ xs. v ++ xs) right

-- where all changes stay, the later ones do
pub fixed_later : (cs ds : List EntryChange) (m : List Entry) → Each IsRun (cs ++ ds) → AreRun m → replayed (cs ++ ds) m ≡ m → replayed ds m ≡ m
fixed_later cs ds m runs run fixed =
    let f = front_of cs ds runs in
    let a = after_changes [] ds in
    let v = kept (cs ++ ds) m in
    let parts : m ≡ v ++ (f.front ++ a) = fixed_parts (cs ++ ds) m runs fixed ∙ ap (λ xs. v ++ xs) f.is in
    fixed_from_parts ds m (each_run_right cs ds runs) run (parts ∙ sym (append_assoc v f.front a) ∙ ap (λ xs. xs ++ a) (sym (kept_front cs ds m runs f fixed)))

-- .. and with them before the later ones nothing else is found
kept-order : (cs ds : List EntryChange) (w : List Entry) → kept (cs ++ ds) w ≡ kept cs (kept ds w)
kept-order cs ds w = kept-append cs ds w ∙ filter_comm (λ e. all_keep ds e.0) (λ e. all_keep cs e.0) w

no_front : (u v : List Entry) → u ++ v ≡ [] → v ≡ []
no_front [] v is = is
no_front (x ∷ u) v is = cc

pub replayed_more : (cs ds : List EntryChange) (x j : List Entry) → Each IsRun (cs ++ ds) → replayed (cs ++ ds) j ≡ j → replayed ds x ≡ j → replayed (cs ++ ds) x ≡ j
replayed_more cs ds x j runs fixed found = elim (put_on_cases w a (apart_new ds x later)) [
  | inl both ↦
      let left : kept ds j ≡ w = ap (kept ds) (sym found ∙ both) ∙ filter-append (λ e. all_keep ds e.0) w a ∙ ap (λ ys. kept ds w ++ ys) (kept-after_changes ds later) ∙ append-nil (kept ds w) ∙ kept_twice ds x in
      ap (λ v. put_on v (after_changes [] (cs ++ ds))) (kept-order cs ds x ∙ ap (kept cs) (sym left) ∙ sym (kept-order cs ds j)) ∙ fixed
  | inr (alone, others) ↦
      let is : j ≡ a = sym found ∙ alone in
      let f = front_of cs ds runs in
      let gone : f.front ≡ [] = no_front (kept (cs ++ ds) j) f.front (sym (kept_front cs ds j runs f fixed) ∙ ap (kept ds) is ∙ kept-after_changes ds later) in
      ap (λ b. put_on (kept (cs ++ ds) x) b) (f.is ∙ ap (λ y. y ++ a) gone) ∙ ap (λ v. put_on v a) (kept-order cs ds x) ∙ others (λ e. all_keep cs e.0) ∙ sym is
]
  where
    later : Each IsRun ds
    later = each_run_right cs ds runs

    w : List Entry
    w = kept ds x

    a : List Entry
    a = after_changes [] ds
