-- What is true of one group's entries, step by step.
use Rattle.std.proofs.Common.{◌≡◌, ℕ, ◌+◌, ◌<◌, ◌≤◌, ◌&&◌, ◌⊎◌, Bool, true, false, cond, List, [], ◌∷◌, ◌++◌, length, filter, Option, Some, None, refl, sym, ◌∙◌, ap, subst, ⊎_elim, arith}
use Rattle.std.specs.List.{Contains, AllByRecursion as Each}
use Rattle.std.specs.Option.{option_map}
use Rattle.std.specs.Prelude.{unwrap_or, nat_le, nat_lt}
use Rattle.std.proofs.lemmas.Bool.{and_parts, cases_Bool, false≢true, leb-true, le-leb}
use Rattle.std.proofs.lemmas.Bool.Decides.{nat_tests}
use Rattle.std.proofs.lemmas.List.Elements.{All-from_recursion}
use Rattle.raft_base.specs.declared.pipe_log.FileBlockHandle.{FileBlockHandle}
use Rattle.raft_base.specs.declared.pipe_log.LogQueue.{LogQueue}
use Rattle.raft_base.specs.declared.pipe_log.LogQueue.TheVariants.{Append, Rewrite}
use Rattle.raft_records.specs.FileBatches.{IsInFile}
use Rattle.raft_records.specs.declared.entry_index.EntryPlace.{EntryPlace}
use Rattle.raft_records.specs.Item.{Entry}
use Rattle.raft_records.specs.Contents.{entries_below, is_next_to, with_entries}
use Rattle.raft_records.specs.Places.{Blocks, entry_in}
use Rattle.raft_records.specs.Validity.{are_consecutive_from}
use Rattle.raft_recovery_laws.proofs.AscendingLemmas.{Contains-filter, Contains-unfilter}
use Rattle.raft_recovery_laws.proofs.KeptLemmas.{filter_no, filter_yes, kept_none}
use Rattle.raft_tables.specs.Counters.{is_rewrite, is_rewritten}
use Rattle.raft_tables.specs.Owed.{Marks}
use Rattle.raft_index_laws.specs.Standing.{AreInFileOrder, EntryStands, GroupStands, HasNoneBefore, HasNoneBehind, IsEntryPlacedFrom, PlacedEntryStands, StandsInBlock, are_rewritten, rank_in, rank_of}
use Rattle.raft_recovery_laws.proofs.EachLemmas.{consecutive_parts, each_append, each_contained, each_filter, each_map, each_of, within}

-- ranks

pub order_lower : (n m : ℕ) (es : List (ℕ × EntryPlace)) → n ≤ m → AreInFileOrder m es → AreInFileOrder n es
order_lower n m [] le is = tt
order_lower n m (e ∷ es) le is = (omega (arith, is.0), is.1)

pub order_filter : (n : ℕ) (p : ℕ × EntryPlace → Bool) (es : List (ℕ × EntryPlace)) → AreInFileOrder n es → AreInFileOrder n (filter p es)
order_filter n p [] is = tt
order_filter n p (e ∷ es) is = at (p e) (order_filter (rank_of e.1) p es is.1)
  where
    at : (b : Bool) → AreInFileOrder (rank_of e.1) (filter p es) → AreInFileOrder n (cond b (e ∷ filter p es) (filter p es))
    at true rest = (is.0, rest)
    at false rest = order_lower n (rank_of e.1) (filter p es) is.0 rest

pub order_append : (n m : ℕ) (xs ys : List (ℕ × EntryPlace)) → n ≤ m → AreInFileOrder n xs → Each (λ x. rank_of x.1 ≤ m) xs → AreInFileOrder m ys → AreInFileOrder n (xs ++ ys)
order_append n m [] ys le first below second = order_lower n m ys le second
order_append n m (x ∷ xs) ys le first below second = (first.0, order_append (rank_of x.1) m xs ys below.0 first.1 below.1 second)

pub order_same : (n : ℕ) (xs : List (ℕ × EntryPlace)) → Each (λ x. rank_of x.1 ≡ n) xs → AreInFileOrder n xs
order_same n [] each = tt
order_same n (x ∷ xs) each = (omega (arith, each.0), subst (λ m. AreInFileOrder m xs) (sym each.0) (order_same n xs each.1))

-- an entry that stands before all files of Append is in the Rewrite queue
pub first_rank : (left : ℕ → ℕ → Bool) (marks : Marks) (held : List Entry) (e : Entry) (block : Option FileBlockHandle) → unwrap_or (option_map (λ (b : FileBlockHandle). rank_in b.id.seq b.id.queue) block) 0 ≤ 0 → StandsInBlock left marks held e block
    → unwrap_or (option_map (λ (b : FileBlockHandle). is_rewrite b.id.queue) block) false ≡ true
first_rank left marks held e None low stands = absurd stands
first_rank left marks held e (Some block) low stands = at block.id.queue low
  where
    at : (queue : LogQueue) → rank_in block.id.seq queue ≤ 0 → is_rewrite queue ≡ true
    at Append low = absurd (omega (arith, low))
    at Rewrite low = refl

pub rewritten_rank : (block : Option FileBlockHandle) → unwrap_or (option_map (λ (b : FileBlockHandle). is_rewrite b.id.queue) block) false ≡ true → unwrap_or (option_map (λ (b : FileBlockHandle). rank_in b.id.seq b.id.queue) block) 0 ≡ 0
rewritten_rank None is = absurd (false≢true is)
rewritten_rank (Some block) is = at block.id.queue is
  where
    at : (queue : LogQueue) → is_rewrite queue ≡ true → rank_in block.id.seq queue ≡ 0
    at Append wrong = absurd (false≢true wrong)
    at Rewrite right = refl

-- the same of ends that leave less alone, and of other marks

pub entry_less : (left left' : ℕ → ℕ → Bool) (marks marks' : Marks) (held : List Entry) (e : Entry) (block : Option FileBlockHandle) → ((n i : ℕ) → left n i ≡ false → left' n i ≡ false) → marks'.cleaned ≡ marks.cleaned
    → StandsInBlock left marks held e block → StandsInBlock left' marks' held e block
entry_less left left' marks marks' held e None less cleaned stands = stands
entry_less left left' marks marks' held e (Some block) less cleaned stands = at block.id.queue stands
  where
    at : (queue : LogQueue) → PlacedEntryStands left marks held e block.id.seq queue → PlacedEntryStands left' marks' held e block.id.seq queue
    at Append is = λ i le. less block.id.seq i (is i le)
    at Rewrite is = (is.0, cleaned ∙ is.1)

-- other changes, and changes of other groups
pub group_less : (blocks : Blocks) (left left' : ℕ → ℕ → Bool) (marks marks' : Marks) (held : List Entry) (es : List (ℕ × EntryPlace)) → ((n i : ℕ) → left n i ≡ false → left' n i ≡ false) → marks'.cleaned ≡ marks.cleaned → (marks'.compacted ≡ false → marks.compacted ≡ false)
    → GroupStands blocks left marks held es → GroupStands blocks left' marks' held es
group_less blocks left left' marks marks' held es less cleaned compacted stands = record {
  ordered = stands.ordered;
  each = each_map (EntryStands blocks left marks held) (EntryStands blocks left' marks' held) es (λ e is. entry_less left left' marks marks' held (entry_in blocks e) e.1.block less cleaned is) stands.each;
  behind = stands.behind;
  before = λ c d. stands.before (sym cleaned ∙ c) (compacted d);
}

-- new entries

pub none_behind_appended : (held : List Entry) (es : List (ℕ × EntryPlace)) → are_rewritten es ≡ false → HasNoneBehind es held
none_behind_appended held [] is = tt
none_behind_appended held (e ∷ es) is = λ all. absurd (false≢true (sym is ∙ all))

pub rewritten-append : (xs : List (ℕ × EntryPlace)) (y : ℕ × EntryPlace) (ys : List (ℕ × EntryPlace)) → is_rewritten y.1 ≡ false → are_rewritten (xs ++ y ∷ ys) ≡ false
rewritten-append [] y ys is = ap (λ b. b && are_rewritten ys) is
rewritten-append (x ∷ xs) y ys is = ap (λ b. is_rewritten x.1 && b) (rewritten-append xs y ys is) ∙ and_false (is_rewritten x.1)
  where
    and_false : (b : Bool) → (b && false) ≡ false
    and_false true = refl
    and_false false = refl

pub in_rank : (seq : ℕ) (e : ℕ × EntryPlace) → IsInFile Append seq e → rank_of e.1 ≡ seq + 1
in_rank seq e at = ap (λ (b : Option FileBlockHandle). unwrap_or (option_map (λ (b : FileBlockHandle). rank_in b.id.seq b.id.queue) b) 0) at.1 ∙ ap (rank_in at.0.id.seq) at.3 ∙ ap (λ n. n + 1) at.2

pub in_not_rewritten : (seq : ℕ) (e : ℕ × EntryPlace) → IsInFile Append seq e → is_rewritten e.1 ≡ false
in_not_rewritten seq e at = ap (λ (b : Option FileBlockHandle). unwrap_or (option_map (λ (b : FileBlockHandle). is_rewrite b.id.queue) b) false) at.1 ∙ ap is_rewrite at.3

pub in_stands : (left : ℕ → ℕ → Bool) (marks : Marks) (held : List Entry) (seq : ℕ) (n : Entry) (e : ℕ × EntryPlace) → IsInFile Append seq e → ((i : ℕ) → n.0 ≤ i → left seq i ≡ false) → StandsInBlock left marks held n e.1.block
in_stands left marks held seq n e at set =
    subst (StandsInBlock left marks held n) (sym at.1)
    (subst (PlacedEntryStands left marks held n at.0.id.seq) (sym at.3) (subst (λ s. PlacedEntryStands left marks held n s Append) (sym at.2) set))

same_first : (held : List Entry) (a b : ℕ × EntryPlace) (ats bs : List (ℕ × EntryPlace)) → a.0 ≡ b.0 → HasNoneBefore (a ∷ ats) held → HasNoneBefore (b ∷ bs) held
same_first held a b ats bs same is = each_map (λ (o : Entry). o.0 + 1 ≡ a.0 → ⊥) (λ (o : Entry). o.0 + 1 ≡ b.0 → ⊥) held (λ o no_one at. no_one (at ∙ sym same)) is

at_or_above : (a b : ℕ) → nat_lt a b ≡ false → b ≤ a
at_or_above a b is = grind (arith, nat_tests)

not_below_test : (a b : ℕ) → b ≤ a → nat_lt a b ≡ false
not_below_test a b is = grind (arith, nat_tests)

pub nothing_below : (n s : ℕ) (es : List (ℕ × EntryPlace)) → s ≤ n → are_consecutive_from n es ≡ true → entries_below s es ≡ []
nothing_below n s [] le run = refl
nothing_below n s (e ∷ es) le run =
    let parts = consecutive_parts n e es run in
    filter_no (λ (x : ℕ × EntryPlace). nat_lt x.0 s) e es (not_below_test e.0 s (omega (arith, parts.0))) ∙ nothing_below (n + 1) s es (omega (arith, le)) parts.1

next_parts : (f : ℕ × EntryPlace) (fs : List (ℕ × EntryPlace)) (s : ℕ) → is_next_to (f ∷ fs) s ≡ true → f.0 ≤ s
next_parts f fs s is = leb-true f.0 s (and_parts (nat_le f.0 s) (nat_le s (f.0 + length (f ∷ fs))) is).0

before_new : (held : List Entry) (f : ℕ × EntryPlace) (fs : List (ℕ × EntryPlace)) (e : ℕ × EntryPlace) (new : List (ℕ × EntryPlace)) → are_consecutive_from f.0 (f ∷ fs) ≡ true → f.0 ≤ e.0 → HasNoneBefore (f ∷ fs) held
    → HasNoneBefore (entries_below e.0 (f ∷ fs) ++ e ∷ new) held
before_new held f fs e new run le is =
    ⊎_elim
    (λ below. subst (λ xs. HasNoneBefore (xs ++ e ∷ new) held) (sym (filter_yes (λ (x : ℕ × EntryPlace). nat_lt x.0 e.0) f fs below)) (same_first held f f fs (filter (λ (x : ℕ × EntryPlace). nat_lt x.0 e.0) fs ++ e ∷ new) refl is))
    (λ above. subst (λ xs. HasNoneBefore (xs ++ e ∷ new) held) (sym (nothing_below f.0 e.0 (f ∷ fs) (at_or_above f.0 e.0 above) run)) (same_first held f e fs new (omega (arith, le, at_or_above f.0 e.0 above)) is))
    (cases_Bool (nat_lt f.0 e.0))

pub group_written : (blocks : Blocks) (left left' : ℕ → ℕ → Bool) (marks : Marks) (held : List Entry) (es : List (ℕ × EntryPlace)) (seq : ℕ) (e : ℕ × EntryPlace) (new : List (ℕ × EntryPlace))
    → ((n i : ℕ) → left n i ≡ false → left' n i ≡ false) → ((i : ℕ) → e.0 ≤ i → left' seq i ≡ false)
    → Each (IsInFile Append seq) (e ∷ new) → are_consecutive_from e.0 (e ∷ new) ≡ true → ((n : ℕ × EntryPlace) (others : List (ℕ × EntryPlace)) → es ≡ n ∷ others → are_consecutive_from n.0 (n ∷ others) ≡ true)
    → Each (λ o. rank_of o.1 ≤ seq + 1) es → ((es ≡ []) ⊎ (is_next_to es e.0 ≡ true))
    → GroupStands blocks left marks held es → GroupStands blocks left' marks held (with_entries es (e ∷ new))
group_written blocks left left' marks held es seq e new less set placed run_new run ranks fits stands =
    ⊎_elim
    (λ nothing. subst (λ xs. GroupStands blocks left' marks held (with_entries xs (e ∷ new))) (sym nothing) (alone nothing))
    (λ next. subst (λ b. GroupStands blocks left' marks held (cond b (entries_below e.0 es ++ e ∷ new) (e ∷ new))) (sym next) (behind_old es refl next))
    fits
  where
    new_each : Each (EntryStands blocks left' marks held) (e ∷ new)
    new_each = each_of (EntryStands blocks left' marks held) (e ∷ new) (λ n is. in_stands left' marks held seq (entry_in blocks n) n (each_contained (IsInFile Append seq) (e ∷ new) n placed is) (λ i le. set i (omega (arith, (within e.0 (e ∷ new) n run_new is).0, le))))

    new_order : AreInFileOrder (seq + 1) (e ∷ new)
    new_order = order_same (seq + 1) (e ∷ new) (each_map (IsInFile Append seq) (λ n. rank_of n.1 ≡ seq + 1) (e ∷ new) (λ n is. in_rank seq n is) placed)

    alone : es ≡ [] → GroupStands blocks left' marks held (e ∷ new)
    alone nothing = record {
      ordered = order_lower 0 (seq + 1) (e ∷ new) (omega arith) new_order;
      each = new_each;
      behind = none_behind_appended held (e ∷ new) (rewritten-append [] e new (in_not_rewritten seq e placed.0));
      before = λ c d. subst (λ hs. Each (λ (o : Entry). o.0 + 1 ≡ e.0 → ⊥) hs) (sym (subst (λ xs. HasNoneBefore xs held) nothing (stands.before c d))) tt;
    }

    behind_old : (xs : List (ℕ × EntryPlace)) → es ≡ xs → is_next_to es e.0 ≡ true → GroupStands blocks left' marks held (entries_below e.0 es ++ e ∷ new)
    behind_old [] is next = absurd (false≢true (subst (λ ys. is_next_to ys e.0 ≡ true) is next))
    behind_old (f ∷ fs) is next = record {
      ordered = order_append 0 (seq + 1) (entries_below e.0 es) (e ∷ new) (omega arith) (order_filter 0 (λ x. nat_lt x.0 e.0) es stands.ordered) (each_filter (λ o. rank_of o.1 ≤ seq + 1) (λ x. nat_lt x.0 e.0) es ranks) new_order;
      each = each_append (EntryStands blocks left' marks held) (entries_below e.0 es) (e ∷ new)
          (each_filter (EntryStands blocks left' marks held) (λ x. nat_lt x.0 e.0) es (each_map (EntryStands blocks left marks held) (EntryStands blocks left' marks held) es (λ n s. entry_less left left' marks marks held (entry_in blocks n) n.1.block less refl s) stands.each))
          new_each;
      behind = none_behind_appended held (entries_below e.0 es ++ e ∷ new) (rewritten-append (entries_below e.0 es) e new (in_not_rewritten seq e placed.0));
      before = λ c d. subst (λ xs. HasNoneBefore (entries_below e.0 xs ++ e ∷ new) held) (sym is) (before_new held f fs e new (run f fs is) (next_parts f fs e.0 (subst (λ ys. is_next_to ys e.0 ≡ true) is next)) (subst (λ xs. HasNoneBefore xs held) is (stands.before c d)));
    }

-- compactions

-- the first of entries goes
tail_behind : (blocks : Blocks) (left : ℕ → ℕ → Bool) (marks : Marks) (held : List Entry) (n least : ℕ) (a : ℕ × EntryPlace) (es : List (ℕ × EntryPlace)) → are_consecutive_from n (a ∷ es) ≡ true → AreInFileOrder least (a ∷ es)
    → Each (EntryStands blocks left marks held) (a ∷ es) → HasNoneBehind (a ∷ es) held → HasNoneBehind es held
tail_behind blocks left marks held n least a [] run order each none = tt
tail_behind blocks left marks held n least a (b ∷ bs) run order each none =
    λ all.
    let parts = and_parts (is_rewritten b.1) (are_rewritten bs) all in
    let low : rank_of a.1 ≤ 0 = omega (arith, order.1.0, rewritten_rank b.1.block parts.0) in
    let first : is_rewritten a.1 ≡ true = first_rank left marks held (entry_in blocks a) a.1.block low each.0 in
    let at = consecutive_parts n a (b ∷ bs) run in
    let next = consecutive_parts (n + 1) b bs at.1 in
    each_map (λ (o : Entry). o.0 < a.0 + length (a ∷ b ∷ bs)) (λ (o : Entry). o.0 < b.0 + length (b ∷ bs)) held (λ o is. omega (arith, is, at.0, next.0)) (none (both first all))
  where
    both : {c d : Bool} → c ≡ true → d ≡ true → (c && d) ≡ true
    both p q = cc

pub all_from : (index n : ℕ) (es : List (ℕ × EntryPlace)) → index ≤ n → are_consecutive_from n es ≡ true → filter (λ e. nat_le index e.0) es ≡ es
all_from index n [] le run = refl
all_from index n (e ∷ es) le run =
    let parts = consecutive_parts n e es run in
    filter_yes (λ (x : ℕ × EntryPlace). nat_le index x.0) e es (le-leb index e.0 (omega (arith, parts.0))) ∙ ap (λ xs. e ∷ xs) (all_from index (n + 1) es (omega (arith, le)) parts.1)

pub behind_compacted : (blocks : Blocks) (left : ℕ → ℕ → Bool) (marks : Marks) (held : List Entry) (index n least : ℕ) (es : List (ℕ × EntryPlace)) → are_consecutive_from n es ≡ true → AreInFileOrder least es → Each (EntryStands blocks left marks held) es
    → HasNoneBehind es held → HasNoneBehind (filter (λ e. nat_le index e.0) es) held
behind_compacted blocks left marks held index n least [] run order each none = tt
behind_compacted blocks left marks held index n least (a ∷ es) run order each none =
    let parts = consecutive_parts n a es run in
    ⊎_elim
    (λ above. subst (λ xs. HasNoneBehind xs held) (sym (all_from index n (a ∷ es) (omega (arith, leb-true index a.0 above, parts.0)) run)) none)
    (λ below. subst (λ xs. HasNoneBehind xs held) (sym (filter_no (λ (x : ℕ × EntryPlace). nat_le index x.0) a es below))
    (behind_compacted blocks left marks held index (n + 1) (rank_of a.1) es parts.1 order.1 each.1 (tail_behind blocks left marks held n least a es run order each none)))
    (cases_Bool (nat_le index a.0))

pub group_compacted : (blocks : Blocks) (left left' : ℕ → ℕ → Bool) (marks marks' : Marks) (held : List Entry) (index : ℕ) (es : List (ℕ × EntryPlace)) → ((n i : ℕ) → left n i ≡ false → left' n i ≡ false) → marks'.cleaned ≡ marks.cleaned → marks'.compacted ≡ true
    → ((n : ℕ × EntryPlace) (others : List (ℕ × EntryPlace)) → es ≡ n ∷ others → are_consecutive_from n.0 (n ∷ others) ≡ true)
    → GroupStands blocks left marks held es → GroupStands blocks left' marks' held (filter (λ e. nat_le index e.0) es)
group_compacted blocks left left' marks marks' held index es less cleaned compacted run stands = record {
  ordered = order_filter 0 (λ e. nat_le index e.0) es stands.ordered;
  each = each_filter (EntryStands blocks left' marks' held) (λ e. nat_le index e.0) es (each_map (EntryStands blocks left marks held) (EntryStands blocks left' marks' held) es (λ e is. entry_less left left' marks marks' held (entry_in blocks e) e.1.block less cleaned is) stands.each);
  behind = at es refl;
  before = λ c d. absurd (false≢true (sym d ∙ compacted));
}
  where
    at : (xs : List (ℕ × EntryPlace)) → es ≡ xs → HasNoneBehind (filter (λ e. nat_le index e.0) es) held
    at [] is = subst (λ ys. HasNoneBehind (filter (λ e. nat_le index e.0) ys) held) (sym is) tt
    at (n ∷ others) is = subst (λ ys. HasNoneBehind (filter (λ e. nat_le index e.0) ys) held) (sym is)
        (behind_compacted blocks left marks held index n.0 0 (n ∷ others) (run n others is) (subst (AreInFileOrder 0) is stands.ordered) (subst (Each (EntryStands blocks left marks held)) is stands.each) (subst (λ ys. HasNoneBehind ys held) is stands.behind))

pub group_cleaned : (blocks : Blocks) (left : ℕ → ℕ → Bool) (marks : Marks) (held : List Entry) → marks.cleaned ≡ true → GroupStands blocks left marks held []
group_cleaned blocks left marks held cleaned = record {
  ordered = tt;
  each = tt;
  behind = tt;
  before = λ c d. absurd (false≢true (sym c ∙ cleaned));
}

-- marks that are written

entry_held : (left : ℕ → ℕ → Bool) (marks marks' : Marks) (held held' : List Entry) (e : Entry) (block : Option FileBlockHandle) → (marks.cleaned ≡ false → marks'.cleaned ≡ false) → (marks.cleaned ≡ false → Contains held e → Contains held' e)
    → StandsInBlock left marks held e block → StandsInBlock left marks' held' e block
entry_held left marks marks' held held' e None cleaned there stands = stands
entry_held left marks marks' held held' e (Some block) cleaned there stands = at block.id.queue stands
  where
    at : (queue : LogQueue) → PlacedEntryStands left marks held e block.id.seq queue → PlacedEntryStands left marks' held' e block.id.seq queue
    at Append is = is
    at Rewrite is = (there is.1 is.0, cleaned is.1)

behind_fewer : (held held' : List Entry) (es : List (ℕ × EntryPlace)) → ((P : Entry → Type 0) → Each P held → Each P held') → HasNoneBehind es held → HasNoneBehind es held'
behind_fewer held held' [] fewer none = tt
behind_fewer held held' (e ∷ es) fewer none = λ all. fewer (λ o. o.0 < e.0 + length (e ∷ es)) (none all)

-- a clean mark: nothing of the group stands in the Rewrite queue
pub group_clean_marked : (blocks : Blocks) (left : ℕ → ℕ → Bool) (marks marks' : Marks) (held : List Entry) (es : List (ℕ × EntryPlace)) → marks.cleaned ≡ true → GroupStands blocks left marks held es → GroupStands blocks left marks' [] es
group_clean_marked blocks left marks marks' held es owed stands = record {
  ordered = stands.ordered;
  each = each_map (EntryStands blocks left marks held) (EntryStands blocks left marks' []) es (λ e is. entry_held left marks marks' held [] (entry_in blocks e) e.1.block (λ no_clean. absurd (false≢true (sym no_clean ∙ owed))) (λ no_clean there. absurd (false≢true (sym no_clean ∙ owed))) is) stands.each;
  behind = behind_fewer held [] es (λ P each. tt) stands.behind;
  before = λ c d. nothing_before es;
}
  where
    nothing_before : (xs : List (ℕ × EntryPlace)) → HasNoneBefore xs []
    nothing_before [] = refl
    nothing_before (x ∷ xs) = tt

not_at : (i n : ℕ) → n < i → nat_le i n ≡ false
not_at i n is = grind (arith, nat_tests)

-- a compaction mark: of the first index that is there, or of one above all where none is
pub group_compaction_marked : (blocks : Blocks) (left : ℕ → ℕ → Bool) (marks marks' : Marks) (held : List Entry) (index : ℕ) (es : List (ℕ × EntryPlace)) → (marks.cleaned ≡ false → marks'.cleaned ≡ false)
    → ((n : ℕ × EntryPlace) (others : List (ℕ × EntryPlace)) → es ≡ n ∷ others → (n.0 ≡ index) × (are_consecutive_from n.0 (n ∷ others) ≡ true)) → (es ≡ [] → Each (λ o. o.0 < index) held)
    → GroupStands blocks left marks held es → GroupStands blocks left marks' (filter (λ o. nat_le index o.0) held) es
group_compaction_marked blocks left marks marks' held index es cleaned some none stands = record {
  ordered = stands.ordered;
  each = each_of (EntryStands blocks left marks' kept) es (λ e has. entry_held left marks marks' held kept (entry_in blocks e) e.1.block cleaned (λ _ there. Contains-filter (λ (o : Entry). nat_le index o.0) held (entry_in blocks e) there (le-leb index e.0 (above e has))) (each_contained (EntryStands blocks left marks held) es e stands.each has));
  behind = behind_fewer held kept es (λ P each. each_filter P (λ o. nat_le index o.0) held each) stands.behind;
  before = λ c d. before es refl;
}
  where
    kept : List Entry
    kept = filter (λ o. nat_le index o.0) held

    above : (e : ℕ × EntryPlace) → Contains es e → index ≤ e.0
    above e has = at es refl
      where
        at : (xs : List (ℕ × EntryPlace)) → es ≡ xs → index ≤ e.0
        at [] is = absurd (omega (arith, (subst (λ ys. Contains ys e) is has).1))
        at (n ∷ others) is = let first = some n others is in omega (arith, first.0, (within n.0 (n ∷ others) e first.1 (subst (λ ys. Contains ys e) is has)).0)

    before : (xs : List (ℕ × EntryPlace)) → es ≡ xs → HasNoneBefore xs kept
    before [] is = kept_none (λ (o : Entry). nat_le index o.0) held (All-from_recursion (λ (o : Entry). nat_le index o.0 ≡ false) held (each_map (λ (o : Entry). o.0 < index) (λ (o : Entry). nat_le index o.0 ≡ false) held (λ o is. not_at index o.0 is) (none is)))
    before (n ∷ others) is = each_of (λ (o : Entry). o.0 + 1 ≡ n.0 → ⊥) kept (λ o has at. let found = (Contains-unfilter (λ (x : Entry). nat_le index x.0) held o has).1 in absurd (omega (arith, leb-true index o.0 found, at, (some n others is).0)))

-- dropped files

entry_from : (first : ℕ) (left left' : ℕ → ℕ → Bool) (marks : Marks) (held : List Entry) (e : Entry) (block : Option FileBlockHandle) → ((n i : ℕ) → first ≤ n → left n i ≡ false → left' n i ≡ false) → IsEntryPlacedFrom first block
    → StandsInBlock left marks held e block → StandsInBlock left' marks held e block
entry_from first left left' marks held e None less from stands = stands
entry_from first left left' marks held e (Some block) less from stands = at block.id.queue from stands
  where
    at : (queue : LogQueue) → (queue ≡ Append → first ≤ block.id.seq) → PlacedEntryStands left marks held e block.id.seq queue → PlacedEntryStands left' marks held e block.id.seq queue
    at Append from is = λ i le. less block.id.seq i (from refl) (is i le)
    at Rewrite from is = is

pub group_dropped : (blocks : Blocks) (first : ℕ) (left left' : ℕ → ℕ → Bool) (marks : Marks) (held : List Entry) (es : List (ℕ × EntryPlace)) → ((n i : ℕ) → first ≤ n → left n i ≡ false → left' n i ≡ false) → Each (λ e. IsEntryPlacedFrom first e.1.block) es
    → GroupStands blocks left marks held es → GroupStands blocks left' marks held es
group_dropped blocks first left left' marks held es less from stands = record {
  ordered = stands.ordered;
  each = each_of (EntryStands blocks left' marks held) es (λ e has. entry_from first left left' marks held (entry_in blocks e) e.1.block less (each_contained (λ x. IsEntryPlacedFrom first x.1.block) es e from has) (each_contained (EntryStands blocks left marks held) es e stands.each has));
  behind = stands.behind;
  before = stands.before;
}
