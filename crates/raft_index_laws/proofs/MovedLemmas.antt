-- What is true of one group's entries after some of them were written to the Rewrite queue again.
use Rattle.std.proofs.Common.{◌≡◌, ℕ, ◌+◌, ◌<◌, ◌≤◌, ◌&&◌, ◌⊎◌, inl, inr, Bool, true, false, cond, eqb, List, [], ◌∷◌, ◌++◌, length, Option, Some, None, refl, sym, ◌∙◌, ap, subst, ⊎_elim, length-append, suc, arith}
use Rattle.std.specs.List.{Contains, AllByRecursion as Each}
use Rattle.std.specs.Option.{option_map}
use Rattle.std.specs.Prelude.{unwrap_or, nat_lt}
use Rattle.std.proofs.lemmas.Bool.{and_parts, false≢true, leb-true}
use Rattle.std.proofs.lemmas.Bool.Decides.{nat_tests}
use Rattle.std.proofs.lemmas.List.Elements.{Contains-append_cases, Contains-append_left, Contains-append_right}
use Rattle.raft_base.specs.declared.pipe_log.FileBlockHandle.{FileBlockHandle}
use Rattle.raft_base.specs.declared.pipe_log.LogQueue.{LogQueue}
use Rattle.raft_base.specs.declared.pipe_log.LogQueue.TheVariants.{Append, Rewrite}
use Rattle.raft_records.specs.declared.entry_index.EntryPlace.{EntryPlace}
use Rattle.raft_records.specs.Item.{Entry}
use Rattle.raft_records.specs.Contents.{entries_below, is_next_to, with_entries}
use Rattle.raft_records.specs.Places.{Blocks, entry_in, entries_in}
use Rattle.raft_records.specs.Validity.{are_consecutive_from}
use Rattle.raft_recovery_laws.specs.Consecutive.{are_consecutive}
use Rattle.raft_recovery_laws.proofs.AscendingLemmas.{Contains-cons_cases, Contains-filter, Contains-head, Contains-tail, Contains-unfilter}
use Rattle.raft_tables.specs.Counters.{is_rewrite, is_rewritten}
use Rattle.raft_tables.specs.Owed.{Marks}
use Rattle.raft_index_laws.specs.Standing.{AreInFileOrder, EntryStands, GroupStands, HasNoneBefore, HasNoneBehind, PlacedEntryStands, StandsInBlock, are_rewritten, rank_of}
use Rattle.raft_recovery_laws.proofs.EachLemmas.{consecutive_parts, each_append, each_contained, each_left, each_map, each_of, each_right, next_to, one_before, run_left, run_right, within}
use Rattle.raft_index_laws.proofs.FitLemmas.{in_rewrite_queue}
use Rattle.raft_index_laws.proofs.GroupLemmas.{order_append, order_lower, order_same, rewritten_rank}

-- what stands in new entries over old ones

pub in_new : (held : List Entry) (e : Entry) (es : List Entry) (x : Entry) → Contains (e ∷ es) x → Contains (with_entries held (e ∷ es)) x
in_new held e es x has = at (is_next_to held e.0)
  where
    at : (b : Bool) → Contains (cond b (entries_below e.0 held ++ e ∷ es) (e ∷ es)) x
    at true = Contains-append_right (entries_below e.0 held) (e ∷ es) x has
    at false = has

less_test : (a b : ℕ) → a < b → nat_lt a b ≡ true
less_test a b is = grind (arith, nat_tests)

in_old : (held : List Entry) (e : Entry) (es : List Entry) (x : Entry) → Contains held x → x.0 < e.0 → is_next_to held e.0 ≡ true → Contains (with_entries held (e ∷ es)) x
in_old held e es x has below next =
    subst (λ b. Contains (cond b (entries_below e.0 held ++ e ∷ es) (e ∷ es)) x) (sym next) (Contains-append_left (entries_below e.0 held) (e ∷ es) x (Contains-filter (λ (o : Entry). nat_lt o.0 e.0) held x has (less_test x.0 e.0 below)))

of_both : (held : List Entry) (e : Entry) (es : List Entry) (o : Entry) → Contains (with_entries held (e ∷ es)) o → (Contains held o × (o.0 < e.0)) ⊎ Contains (e ∷ es) o
of_both held e es o has = at (is_next_to held e.0) has
  where
    at : (b : Bool) → Contains (cond b (entries_below e.0 held ++ e ∷ es) (e ∷ es)) o → (Contains held o × (o.0 < e.0)) ⊎ Contains (e ∷ es) o
    at true there =
        ⊎_elim (λ below. let found = Contains-unfilter (λ (x : Entry). nat_lt x.0 e.0) held o below in inl (found.0, leb-true _ _ found.1)) (λ new. inr new) (Contains-append_cases (entries_below e.0 held) (e ∷ es) o there)
    at false there = inr there

-- an entry in the Rewrite queue stands there
pub stands_there : (left : ℕ → ℕ → Bool) (marks : Marks) (held : List Entry) (e : Entry) (block : Option FileBlockHandle) → unwrap_or (option_map (λ (b : FileBlockHandle). is_rewrite b.id.queue) block) false ≡ true → Contains held e → marks.cleaned ≡ false
    → StandsInBlock left marks held e block
stands_there left marks held e None is has clean = absurd (false≢true is)
stands_there left marks held e (Some block) is has clean = at block.id.queue is
  where
    at : (queue : LogQueue) → is_rewrite queue ≡ true → PlacedEntryStands left marks held e block.id.seq queue
    at Append wrong = absurd (false≢true wrong)
    at Rewrite right = (has, clean)

-- one in the Append queue stands whatever the Rewrite queue has
stands_anyway : (left : ℕ → ℕ → Bool) (marks : Marks) (held held' : List Entry) (e : Entry) (block : Option FileBlockHandle) → unwrap_or (option_map (λ (b : FileBlockHandle). is_rewrite b.id.queue) block) false ≡ false → StandsInBlock left marks held e block → StandsInBlock left marks held' e block
stands_anyway left marks held held' e None is stands = stands
stands_anyway left marks held held' e (Some block) is stands = at block.id.queue is stands
  where
    at : (queue : LogQueue) → is_rewrite queue ≡ false → PlacedEntryStands left marks held e block.id.seq queue → PlacedEntryStands left marks held' e block.id.seq queue
    at Append right stands = stands
    at Rewrite wrong stands = absurd (false≢true (sym wrong))

are_rewritten_each : (es : List (ℕ × EntryPlace)) → are_rewritten es ≡ true → Each (λ e. is_rewritten e.1 ≡ true) es
are_rewritten_each [] is = tt
are_rewritten_each (e ∷ es) is = let parts = and_parts (is_rewritten e.1) (are_rewritten es) is in (parts.0, are_rewritten_each es parts.1)

pub no_rank : (es : List (ℕ × EntryPlace)) → Each (λ e. is_rewritten e.1 ≡ true) es → Each (λ e. rank_of e.1 ≡ 0) es
no_rank es each = each_map (λ e. is_rewritten e.1 ≡ true) (λ e. rank_of e.1 ≡ 0) es (λ e is. rewritten_rank e.1.block is) each

order_right : (n : ℕ) (xs ys : List (ℕ × EntryPlace)) → AreInFileOrder n (xs ++ ys) → AreInFileOrder 0 ys
order_right n [] ys is = order_lower 0 n ys (omega arith) is
order_right n (x ∷ xs) ys is = order_right (rank_of x.1) xs ys is.1

-- the entry at a place in a group's entries by their places
pub contains_in : (blocks : Blocks) (es : List (ℕ × EntryPlace)) (e : ℕ × EntryPlace) → Contains es e → Contains (entries_in blocks es) (entry_in blocks e)
contains_in blocks [] e has = absurd (omega (arith, has.1))
contains_in blocks (x ∷ xs) e has =
    ⊎_elim
    (λ same. subst (λ y. Contains (entry_in blocks x ∷ entries_in blocks xs) (entry_in blocks y)) same (Contains-head (entry_in blocks x) (entries_in blocks xs)))
    (λ later. Contains-tail (entry_in blocks x) (entries_in blocks xs) (entry_in blocks e) (contains_in blocks xs e later))
    (Contains-cons_cases x xs e has)

pub group_moved : (blocks : Blocks) (left : ℕ → ℕ → Bool) (marks : Marks) (held : List Entry) (n : ℕ) (pre : List (ℕ × EntryPlace)) (m : ℕ × EntryPlace) (ms : List (ℕ × EntryPlace)) (m' : ℕ × EntryPlace) (ms' post : List (ℕ × EntryPlace))
    → are_consecutive held ≡ true → are_consecutive_from n (pre ++ m ∷ (ms ++ post)) ≡ true → are_rewritten pre ≡ true → Each (λ e. is_rewritten e.1 ≡ false) post
    → are_rewritten (m' ∷ ms') ≡ true → m'.0 ≡ m.0 → entries_in blocks (m' ∷ ms') ≡ entries_in blocks (m ∷ ms) → marks.cleaned ≡ false
    → GroupStands blocks left marks held (pre ++ m ∷ (ms ++ post)) → GroupStands blocks left marks (with_entries held (entries_in blocks (m ∷ ms))) (pre ++ m' ∷ (ms' ++ post))
group_moved blocks left marks held n pre m ms m' ms' post run_held run rewritten appended moved same_first same clean stands = record {
  ordered = order_append 0 0 pre (m' ∷ (ms' ++ post)) (omega arith) (order_same 0 pre (no_rank pre pre_each)) (each_map (λ e. rank_of e.1 ≡ 0) (λ e. rank_of e.1 ≤ 0) pre (λ e is. omega (arith, is)) (no_rank pre pre_each))
      (order_append 0 0 (m' ∷ ms') post (omega arith) (order_same 0 (m' ∷ ms') (no_rank (m' ∷ ms') new_each)) (each_map (λ e. rank_of e.1 ≡ 0) (λ e. rank_of e.1 ≤ 0) (m' ∷ ms') (λ e is. omega (arith, is)) (no_rank (m' ∷ ms') new_each))
      (order_right 0 ms post (order_right 0 (pre ++ m ∷ []) (ms ++ post) (subst (AreInFileOrder 0) (regroup pre m (ms ++ post)) stands.ordered))));
  each = each_append P' pre (m' ∷ (ms' ++ post)) (each_of P' pre old_stands) (each_append P' (m' ∷ ms') post (each_of P' (m' ∷ ms') new_stands) (each_of P' post later_stands));
  behind = none_behind pre refl;
  before = λ c d. none_before pre refl (stands.before c d);
}
  where
    e : Entry
    e = entry_in blocks m

    now : List Entry
    now = with_entries held (entries_in blocks (m ∷ ms))

    P : ℕ × EntryPlace → Type 0
    P = EntryStands blocks left marks held

    P' : ℕ × EntryPlace → Type 0
    P' = EntryStands blocks left marks now

    regroup : (xs : List (ℕ × EntryPlace)) (y : ℕ × EntryPlace) (ys : List (ℕ × EntryPlace)) → xs ++ y ∷ ys ≡ (xs ++ y ∷ []) ++ ys
    regroup [] y ys = refl
    regroup (x ∷ xs) y ys = ap (λ zs. x ∷ zs) (regroup xs y ys)

    pre_each : Each (λ e. is_rewritten e.1 ≡ true) pre
    pre_each = are_rewritten_each pre rewritten

    new_each : Each (λ e. is_rewritten e.1 ≡ true) (m' ∷ ms')
    new_each = are_rewritten_each (m' ∷ ms') moved

    start : m.0 ≡ n + length pre
    start = (consecutive_parts (n + length pre) m (ms ++ post) (run_right n pre (m ∷ (ms ++ post)) run)).0

    run_new : are_consecutive_from m.0 (m ∷ ms) ≡ true
    run_new = subst (λ k. are_consecutive_from k (m ∷ ms) ≡ true) (sym start) (run_left (n + length pre) (m ∷ ms) post (run_right n pre (m ∷ (ms ++ post)) run))

    in_index : (es : List (ℕ × EntryPlace)) (k : ℕ) → are_consecutive_from k es ≡ true → are_consecutive_from k (entries_in blocks es) ≡ true
    in_index [] k is = refl
    in_index (x ∷ xs) k is = let parts = and_parts (eqb x.0 k) (are_consecutive_from (k + 1) xs) is in ap (λ b. b && are_consecutive_from (k + 1) (entries_in blocks xs)) parts.0 ∙ in_index xs (k + 1) parts.1

    mapped_length : (es : List (ℕ × EntryPlace)) → length (entries_in blocks es) ≡ length es
    mapped_length [] = refl
    mapped_length (x ∷ xs) = ap suc (mapped_length xs)

    new_within : (o : Entry) → Contains (entries_in blocks (m ∷ ms)) o → (m.0 ≤ o.0) × (o.0 < m.0 + length (m ∷ ms))
    new_within o has =
        let at = within m.0 (entries_in blocks (m ∷ ms)) o (in_index (m ∷ ms) m.0 run_new) has in
        (at.0, omega (arith, at.1, mapped_length (m ∷ ms)))

    pre_within : (p : ℕ × EntryPlace) → Contains pre p → (n ≤ p.0) × (p.0 < n + length pre)
    pre_within p has = within n pre p (run_left n pre (m ∷ (ms ++ post)) run) has

    touches : (xs : List (ℕ × EntryPlace)) → pre ≡ xs → (p : ℕ × EntryPlace) → Contains pre p → is_next_to held e.0 ≡ true
    touches [] is p has = absurd (omega (arith, (subst (λ ys. Contains ys p) is has).1))
    touches (x ∷ xs) is p has =
        let found = one_before n x xs m (ms ++ post) (subst (λ ys. are_consecutive_from n (ys ++ m ∷ (ms ++ post)) ≡ true) is run) in
        let q = found.0 in
        let in_pre : Contains pre q = subst (λ ys. Contains ys q) (sym is) found.1 in
        let there = (in_rewrite_queue left marks held (entry_in blocks q) q.1.block (each_contained (λ y. is_rewritten y.1 ≡ true) pre q pre_each in_pre) (each_contained P pre q (each_left P pre (m ∷ (ms ++ post)) stands.each) in_pre)).0 in
        next_to held (entry_in blocks q) m.0 run_held there found.2

    old_stands : (p : ℕ × EntryPlace) → Contains pre p → P' p
    old_stands p has =
        let is = each_contained (λ y. is_rewritten y.1 ≡ true) pre p pre_each has in
        let there = (in_rewrite_queue left marks held (entry_in blocks p) p.1.block is (each_contained P pre p (each_left P pre (m ∷ (ms ++ post)) stands.each) has)).0 in
        stands_there left marks now (entry_in blocks p) p.1.block is (in_old held e (entries_in blocks ms) (entry_in blocks p) there (omega (arith, (pre_within p has).1, start)) (touches pre refl p has)) clean

    new_stands : (p : ℕ × EntryPlace) → Contains (m' ∷ ms') p → P' p
    new_stands p has =
        stands_there left marks now (entry_in blocks p) p.1.block (each_contained (λ y. is_rewritten y.1 ≡ true) (m' ∷ ms') p new_each has)
        (in_new held e (entries_in blocks ms) (entry_in blocks p) (subst (λ xs. Contains xs (entry_in blocks p)) same (contains_in blocks (m' ∷ ms') p has))) clean

    later_stands : (p : ℕ × EntryPlace) → Contains post p → P' p
    later_stands p has =
        stands_anyway left marks held now (entry_in blocks p) p.1.block (each_contained (λ y. is_rewritten y.1 ≡ false) post p appended has)
        (each_contained P post p (each_right P (m ∷ ms) post (each_right P pre (m ∷ (ms ++ post)) stands.each)) has)

    -- all that the Rewrite queue then has ends with the new entries
    ends : (o : Entry) → Contains now o → o.0 < m.0 + length (m ∷ ms)
    ends o has = ⊎_elim (λ old. omega (arith, old.1)) (λ new. (new_within o new).1) (of_both held e (entries_in blocks ms) o has)

    same_length : length (m' ∷ ms') ≡ length (m ∷ ms)
    same_length = sym (mapped_length (m' ∷ ms')) ∙ ap length same ∙ mapped_length (m ∷ ms)

    none_behind : (xs : List (ℕ × EntryPlace)) → pre ≡ xs → HasNoneBehind (pre ++ m' ∷ (ms' ++ post)) now
    none_behind [] is =
        subst (λ ys. HasNoneBehind (ys ++ m' ∷ (ms' ++ post)) now) (sym is)
        (λ all. each_of (λ o. o.0 < m'.0 + length (m' ∷ (ms' ++ post))) now (λ o has. omega (arith, ends o has, same_first, same_length, length-append ms' post)))
    none_behind (p ∷ ps) is =
        let first = (consecutive_parts n p (ps ++ m ∷ (ms ++ post)) (subst (λ ys. are_consecutive_from n (ys ++ m ∷ (ms ++ post)) ≡ true) is run)).0 in
        subst (λ ys. HasNoneBehind (ys ++ m' ∷ (ms' ++ post)) now) (sym is)
        (λ all. each_of (λ o. o.0 < p.0 + length (p ∷ (ps ++ m' ∷ (ms' ++ post)))) now (λ o has. omega (arith, ends o has, start, ap length is, first, same_length, length-append ms' post, length-append ps (m' ∷ (ms' ++ post)))))

    none_before : (xs : List (ℕ × EntryPlace)) → pre ≡ xs → HasNoneBefore (pre ++ m ∷ (ms ++ post)) held → HasNoneBefore (pre ++ m' ∷ (ms' ++ post)) now
    none_before [] is none =
        subst (λ ys. HasNoneBefore (ys ++ m' ∷ (ms' ++ post)) now) (sym is)
        (each_of (λ o. o.0 + 1 ≡ m'.0 → ⊥) now (λ o has at. ⊎_elim (λ old. each_contained (λ (x : Entry). x.0 + 1 ≡ m.0 → ⊥) held o (subst (λ ys. HasNoneBefore (ys ++ m ∷ (ms ++ post)) held) is none) old.0 (at ∙ same_first)) (λ new. absurd (omega (arith, (new_within o new).0, at, same_first))) (of_both held e (entries_in blocks ms) o has)))
    none_before (p ∷ ps) is none =
        let first = (consecutive_parts n p (ps ++ m ∷ (ms ++ post)) (subst (λ ys. are_consecutive_from n (ys ++ m ∷ (ms ++ post)) ≡ true) is run)).0 in
        subst (λ ys. HasNoneBefore (ys ++ m' ∷ (ms' ++ post)) now) (sym is)
        (each_of (λ o. o.0 + 1 ≡ p.0 → ⊥) now (λ o has at. ⊎_elim (λ old. each_contained (λ (x : Entry). x.0 + 1 ≡ p.0 → ⊥) held o (subst (λ ys. HasNoneBefore (ys ++ m ∷ (ms ++ post)) held) is none) old.0 at) (λ new. absurd (omega (arith, (new_within o new).0, at, start, first, ap length is))) (of_both held e (entries_in blocks ms) o has)))
