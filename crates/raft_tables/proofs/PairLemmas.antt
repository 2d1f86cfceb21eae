-- Tables of one group in pairs.
use Rattle.std.proofs.Common.{◌≡◌, ℕ, suc, ◌+◌, ◌-◌, ◌<◌, ◌≤◌, ◌==◌, nat_eq, length, get_or, Bool, true, false, cond, List, [], ◌∷◌, ◌++◌, Option, Some, None, Result, Ok, Err, refl, sym, ◌∙◌, ap, subst, arith}
use Rattle.std.proofs.lemmas.Map.Entries.{lookup_head}
use Rattle.std.specs.Cmp.{nat_eq_equiv}
use Rattle.std.specs.List.{AllByRecursion, AllZip, IsDistinct}
use Rattle.std.specs.Map.{keys_of, lookup}
use Rattle.std.specs.Option.{option_map}
use Rattle.std.specs.Prelude.{IfOk, OnOk}
use Rattle.raft_base.specs.declared.pipe_log.LogQueue.TheVariants.{Rewrite}
use Rattle.raft_tables.specs.Counters.{count_after}
use Rattle.raft_tables.specs.Pairs.{ArePaired, ArePut, IsJoinedAt, IsPairJoined, WasJoined, joined_total, left_of_result, newer_table, older_table, over, paired_total}
use Rattle.raft_tables.specs.Recovering.{IsJoined, IsTableJoined, rewritten_total}
use Rattle.raft_tables.specs.Table.{TableView, rewritten_in, table_of}
use Rattle.raft_tables.specs.Tables.{Tables, or_empty, tables_of, with_table}
use Rattle.raft_tables.specs.declared.memtable.MemTable.{MemTable}
use Rattle.raft_tables.specs.declared.memtables.MemTables.{MemTables}
use Rattle.raft_tables.specs.declared.pairs.Pair.{Pair}
use Rattle.raft_tables.proofs.JoiningLemmas.{count_rest, eq_from_test, option_or-none, tables_in, tables_in-rest, with_entries-nothing}

over-append : (table : Pair → TableView) (xs ys : List Pair) (t : Tables) → over table (xs ++ ys) t ≡ over table xs (over table ys t)
over-append table [] ys t = refl
over-append table (x ∷ xs) ys t = ap (with_table x.group (Some (table x))) (over-append table xs ys t)

-- one table is set after another of its group
set_again : (group : ℕ) (v w : Option TableView) (t : Tables) → t group ≡ v → with_table group v (with_table group w t) ≡ t
set_again group v w t is = λ i g. at g (g == group) refl i
  where
    at : (g : ℕ) (b : Bool) → (g == group) ≡ b → cond b v (cond b w (t g)) ≡ t g
    at g true here = sym is ∙ ap t (sym (eq_from_test g group here))
    at g false here = refl

-- a pair was taken out of the tables
pub over-taken : (table : Pair → TableView) (ps : List Pair) (p : Pair) (group : ℕ) (w : Option TableView) (t n : Tables) → p.group ≡ group → t group ≡ Some (table p) → n ≡ with_table group w t → over table (ps ++ p ∷ []) n ≡ over table ps t
over-taken table ps p group w t n named there is =
    over-append table ps (p ∷ []) n
    ∙ ap (over table ps) (ap (λ g. with_table g (Some (table p)) n) named ∙ ap (with_table group (Some (table p))) is ∙ set_again group (Some (table p)) w t there)

-- .. and the last of them put back
pub over-put : (table : Pair → TableView) (ps all : List Pair) (p : Pair) (t n : Tables) → all ≡ ps ++ p ∷ [] → n ≡ with_table p.group (Some (table p)) t → over table ps n ≡ over table all t
over-put table ps all p t n are is =
    ap (over table ps) is ∙ sym (over-append table ps (p ∷ []) t) ∙ ap (λ qs. over table qs t) (sym are)

-- what joins one group's tables

joined_alone : (o : Option TableView) → IsJoinedAt None o o
joined_alone o = record {
  entries = sym (with_entries-nothing (or_empty o).entries);
  keys = λ k. sym (option_or-none ((or_empty o).keys k));
  known = refl;
}

joined_both : (o n v : TableView) → IsTableJoined (Some o) (Some n) v → IsJoinedAt (Some o) (Some n) (Some v)
joined_both o n v is = record { entries = is.entries; keys = is.keys; known = refl }

-- an older table that became its group's own
joined_set : (t : TableView) (j : Option TableView) → IsJoinedAt None (Some t) j → IsJoinedAt (Some t) None j
joined_set t j is = record {
  entries = is.entries ∙ with_entries-nothing t.entries;
  keys = λ k. is.keys k ∙ option_or-none (t.keys k);
  known = is.known;
}

pub joined_of_all : (l a j : Tables) → ((g : ℕ) → IsJoinedAt (l g) (a g) (j g)) → IsJoined l a j
joined_of_all l a j at = record {
  entries = λ g. (at g).entries;
  keys = λ g. (at g).keys;
  known = λ g. (at g).known;
}

-- what is so of the tables below is so with the same pairs over them
over-both : (ps : List Pair) (l a m b : Tables) → ((g : ℕ) (j : Option TableView) → IsJoinedAt (m g) (b g) j → IsJoinedAt (l g) (a g) j) → (g : ℕ) (j : Option TableView)
    → IsJoinedAt (over older_table ps m g) (over newer_table ps b g) j → IsJoinedAt (over older_table ps l g) (over newer_table ps a g) j
over-both [] l a m b step g j is = step g j is
over-both (p ∷ ps) l a m b step g j is = at (over-both ps l a m b step g j) (g == p.group) is
  where
    at : (IsJoinedAt (over older_table ps m g) (over newer_table ps b g) j → IsJoinedAt (over older_table ps l g) (over newer_table ps a g) j) → (c : Bool) → IsJoinedAt (cond c (Some (older_table p)) (over older_table ps m g)) (cond c (Some (newer_table p)) (over newer_table ps b g)) j
        → IsJoinedAt (cond c (Some (older_table p)) (over older_table ps l g)) (cond c (Some (newer_table p)) (over newer_table ps a g)) j
    at others true here = here
    at others false here = others here

-- the older table of the first group was set, where the group had none
pub paired_set : (ps : List Pair) (e : ℕ × MemTable) (es : List (ℕ × MemTable)) (a b : Tables) → IsDistinct nat_eq (keys_of (e ∷ es)) → a e.0 ≡ None → b ≡ with_table e.0 (Some (table_of e.1)) a
    → (g : ℕ) (j : Option TableView) → IsJoinedAt (over older_table ps (tables_in es) g) (over newer_table ps b g) j → IsJoinedAt (over older_table ps (tables_in (e ∷ es)) g) (over newer_table ps a g) j
paired_set ps e es a b distinct none is = over-both ps (tables_in (e ∷ es)) a (tables_in es) b step
  where
    at : (g : ℕ) (j : Option TableView) (c : Bool) → (g == e.0) ≡ c → IsJoinedAt (cond c None (tables_in (e ∷ es) g)) (cond c (Some (table_of e.1)) (a g)) j
        → tables_in (e ∷ es) g ≡ cond c (Some (table_of e.1)) (tables_in es g) → IsJoinedAt (tables_in (e ∷ es) g) (a g) j
    at g j true here joined first = subst (λ o. IsJoinedAt (tables_in (e ∷ es) g) o j) (sym (ap a (eq_from_test g e.0 here) ∙ none)) (subst (λ o. IsJoinedAt o None j) (sym first) (joined_set (table_of e.1) j joined))
    at g j false here joined first = joined

    first_at : (g : ℕ) (c : Bool) → option_map table_of (cond c (Some e.1) (lookup (nat_eq g) es)) ≡ cond c (Some (table_of e.1)) (option_map table_of (lookup (nat_eq g) es))
    first_at g true = refl
    first_at g false = refl

    step : (g : ℕ) (j : Option TableView) → IsJoinedAt (tables_in es g) (b g) j → IsJoinedAt (tables_in (e ∷ es) g) (a g) j
    step g j joined = at g j (g == e.0) refl
        (subst (λ (t : Tables). IsJoinedAt (t g) (with_table e.0 (Some (table_of e.1)) a g) j) (tables_in-rest e es distinct) (subst (λ (t : Tables). IsJoinedAt (tables_in es g) (t g) j) is joined))
        (first_at g (g == e.0))

-- the older table of the first group was paired
pub paired_more : (ps : List Pair) (p : Pair) (e : ℕ × MemTable) (es : List (ℕ × MemTable)) (a b : Tables) (w : Option TableView) → IsDistinct nat_eq (keys_of (e ∷ es)) → p.group ≡ e.0 → p.older ≡ e.1 → a e.0 ≡ Some (newer_table p) → b ≡ with_table e.0 w a
    → (g : ℕ) (j : Option TableView) → IsJoinedAt (over older_table (ps ++ p ∷ []) (tables_in es) g) (over newer_table (ps ++ p ∷ []) b g) j
    → IsJoinedAt (over older_table ps (tables_in (e ∷ es)) g) (over newer_table ps a g) j
paired_more ps p e es a b w distinct named older there is g j joined =
    subst (λ (t : Tables). IsJoinedAt (over older_table ps (tables_in (e ∷ es)) g) (t g) j) (over-taken newer_table ps p e.0 w a b named there is)
    (subst (λ (t : Tables). IsJoinedAt (t g) (over newer_table (ps ++ p ∷ []) b g) j) (over-taken older_table ps p e.0 None (tables_in (e ∷ es)) (tables_in es) named first (tables_in-rest e es distinct)) joined)
  where
    first : tables_in (e ∷ es) e.0 ≡ Some (older_table p)
    first = ap (option_map table_of) (lookup_head (nat_eq e.0) e es (nat_eq_equiv.refl e.0)) ∙ ap (λ t. Some (table_of t)) (sym older)

-- once all pairs were joined
pub pairs_joined : (ps qs : List Pair) → AllZip IsPairJoined ps qs → AllByRecursion WasJoined qs → (t : Tables) (g : ℕ) → IsJoinedAt (over older_table ps (λ _. None) g) (over newer_table ps t g) (over newer_table qs t g)
pairs_joined [] [] zip was t g = joined_alone (t g)
pairs_joined [] (q ∷ qs) zip was t g = absurd zip
pairs_joined (p ∷ ps) [] zip was t g = absurd zip
pairs_joined (p ∷ ps) (q ∷ qs) zip was t g =
    subst (λ n. IsJoinedAt (with_table p.group (Some (older_table p)) (over older_table ps (λ _. None)) g) (with_table p.group (Some (newer_table p)) (over newer_table ps t) g) (with_table n (Some (newer_table q)) (over newer_table qs t) g)) (sym zip.0.group)
    (at (pairs_joined ps qs zip.1 was.1 t g) (g == p.group))
  where
    one : IsJoinedAt (Some (older_table p)) (Some (newer_table p)) (Some (newer_table q))
    one = let ok = rw was.0.1 at zip.0.ok in joined_both (older_table p) (newer_table p) (newer_table q) ok.0

    at : IsJoinedAt (over older_table ps (λ _. None) g) (over newer_table ps t g) (over newer_table qs t g) → (c : Bool) → IsJoinedAt (cond c (Some (older_table p)) (over older_table ps (λ _. None) g)) (cond c (Some (newer_table p)) (over newer_table ps t g)) (cond c (Some (newer_table q)) (over newer_table qs t g))
    at others true = one
    at others false = others

-- how many stand in the Rewrite queue

pub pairs_total : (ps qs : List Pair) → AllZip IsPairJoined ps qs → AllByRecursion WasJoined qs → joined_total qs ≡ paired_total ps
pairs_total [] [] zip was = refl
pairs_total [] (q ∷ qs) zip was = absurd zip
pairs_total (p ∷ ps) [] zip was = absurd zip
pairs_total (p ∷ ps) (q ∷ qs) zip was =
    let ok = rw was.0.1 at zip.0.ok in
    let left = ap left_of_result was.0.1 in
    omega (arith, ok.1, left, pairs_total ps qs zip.1 was.1)

pub paired_total-more : (ps : List Pair) (p : Pair) → paired_total (ps ++ p ∷ []) ≡ paired_total ps + (rewritten_in (older_table p) + rewritten_in (newer_table p))
paired_total-more [] p = omega arith
paired_total-more (q ∷ ps) p = omega (arith, paired_total-more ps p)

pub joined_total-more : (ps : List Pair) (p : Pair) → joined_total (ps ++ p ∷ []) ≡ joined_total ps + (left_of_result p.left + rewritten_in (newer_table p))
joined_total-more [] p = omega arith
joined_total-more (q ∷ ps) p = omega (arith, joined_total-more ps p)

-- the last was joined too
pub was_more : (ps : List Pair) (p : Pair) → AllByRecursion WasJoined ps → WasJoined p → AllByRecursion WasJoined (ps ++ p ∷ [])
was_more [] p all last = (last, tt)
was_more (q ∷ ps) p all last = (all.0, was_more ps p all.1 last)

-- what the calls give together

pub all_joined : (older newer t n : Tables) (ps qs : List Pair) → ArePaired older newer ps t → AllZip IsPairJoined ps qs → AllByRecursion WasJoined qs → n ≡ over newer_table qs t → IsJoined older newer n
all_joined older newer t n ps qs paired zip was is =
    joined_of_all older newer n (λ g. paired g (n g) (subst (λ (u : Tables). IsJoinedAt (over older_table ps (λ _. None) g) (over newer_table ps t g) (u g)) (sym is) (pairs_joined ps qs zip was t g)))

abbrev pub IsPutBelow : MemTables → MemTables → MemTables → ℕ → Type 0
IsPutBelow older newer n left =
    IsJoined (tables_of older) (tables_of newer) (tables_of n)
    × (left ≡ count_after Rewrite (rewritten_total older + rewritten_total newer - rewritten_total n) 0)
    × (rewritten_total n ≤ rewritten_total older + rewritten_total newer)

pub all_put : (older newer t n : MemTables) (ps qs items : List Pair) (left : ℕ) → ArePaired (tables_of older) (tables_of newer) ps (tables_of t) → paired_total ps + rewritten_total t ≡ rewritten_total older + rewritten_total newer
    → AllZip IsPairJoined ps qs → items ≡ qs → ArePut items t n left → IsPutBelow older newer n left
all_put older newer t n ps qs items left paired total zip are put =
    let was : AllByRecursion WasJoined qs = subst (AllByRecursion WasJoined) are put.joined in
    let sum : put.count + rewritten_total n ≡ rewritten_total older + rewritten_total newer = omega (arith, put.total, ap joined_total are, pairs_total ps qs zip was, total) in (
      all_joined (tables_of older) (tables_of newer) (tables_of t) (tables_of n) ps qs paired zip was (put.tables ∙ ap (λ xs. over newer_table xs (tables_of t)) are),
      put.left_is ∙ count_rest (rewritten_total older + rewritten_total newer) (rewritten_total n) put.count sum,
      omega (arith, sum),
    )

pub on_ok_of : {T E X : Type 0} (r : Result T E) (P : T → Type 0) → ((v : T) → P v → X) → IfOk r P → OnOk r X
on_ok_of (Ok v) P gives is = gives v is
on_ok_of (Err e) P gives is = tt

-- what holds at each place of two lists of one length
pub zip_from_places : {A : Type 0} (R : A → A → Type 0) (xs ys : List A) → length ys ≡ length xs → ((i : ℕ) (d : A) → i < length xs → R (get_or xs i d) (get_or ys i d)) → AllZip R xs ys
zip_from_places R [] [] len each = tt
zip_from_places R [] (y ∷ ys) len each = cc
zip_from_places R (x ∷ xs) [] len each = cc
zip_from_places R (x ∷ xs) (y ∷ ys) len each = (each 0 x (omega arith), zip_from_places R xs ys (omega (arith, len)) (λ i d lt. each (suc i) d (omega (arith, lt))))
