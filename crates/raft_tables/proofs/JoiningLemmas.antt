-- Older tables put below newer ones.
use Rattle.std.proofs.Common.{◌≡◌, ℕ, ◌+◌, ◌-◌, ◌^◌, ◌<◌, ◌==◌, nat_eq, ◌||◌, min, Bool, true, false, cond, List, [], ◌∷◌, Option, Some, None, is_some, unwrap_or, refl, sym, ◌∙◌, ap, subst, arith}
use Rattle.std.proofs.lemmas.Bool.Decides.{nat_tests}
use Rattle.std.proofs.lemmas.Grind.{common_steps}
use Rattle.std.proofs.lemmas.List.Sums.{sum_by-cons}
use Rattle.std.proofs.lemmas.Map.{lookup-none}
use Rattle.std.proofs.lemmas.Map.Entries.{lookup_head, none_past_head, sum_by-remove_entry, sum_by-set_value, sum_by_puts_entry, sum_by_values_permutation}
use Rattle.std.specs.Cmp.{nat_eq_equiv}
use Rattle.std.specs.HashMap as hash
use Rattle.std.specs.List.{IsDistinct, sum_by}
use Rattle.std.specs.List.Sorted.{IsPermutation}
use Rattle.std.specs.Map.{keys_of, lookup, remove_entry, set_value, values_of}
use Rattle.std.specs.Option.{option_map, option_or}
use Rattle.raft_base.specs.declared.pipe_log.LogQueue.TheVariants.{Rewrite}
use Rattle.raft_records.specs.Contents.{with_entries}
use Rattle.raft_records.specs.declared.entry_index.EntryPlace.{EntryPlace}
use Rattle.raft_tables.specs.Counters.{count_after, deleted_count, rewritten_count}
use Rattle.raft_tables.specs.Recovering.{AreCounted, IsJoined, IsTableJoined, rewritten_total}
use Rattle.raft_tables.specs.Table.{StoredValue, TableView, rewritten_in, table_of}
use Rattle.raft_tables.specs.Tables.{Tables, or_empty, with_table}
use Rattle.raft_tables.specs.declared.memtable.MemTable.{MemTable}
use Rattle.raft_tables.specs.declared.memtables.MemTables.{MemTables}
use Rattle.raft_tables.specs.declared.stats.GlobalStats.{GlobalStats}
use Rattle.raft_tables.proofs.TablesLemmas.{Groups}

pub eq_from_test : (a b : ℕ) → (a == b) ≡ true → a ≡ b
eq_from_test a b same = grind (arith, common_steps)

pub with_entries-nothing : (es : List (ℕ × EntryPlace)) → with_entries [] es ≡ es
with_entries-nothing [] = refl
with_entries-nothing (e ∷ es) = refl

pub option_or-none : (o : Option StoredValue) → option_or o None ≡ o
option_or-none None = refl
option_or-none (Some v) = refl

-- a group's table without one above it
pub table_alone : (t : TableView) (o : Option TableView) → None ≡ o → IsTableJoined (Some t) o t
table_alone t o none = subst (λ p. IsTableJoined (Some t) p t) none (record { entries = refl; keys = λ k. refl })

-- no tables put below leave what is there
pub joined_none : (t : Tables) → IsJoined (λ _. None) t t
joined_none t = record {
  entries = λ g. sym (with_entries-nothing (or_empty (t g)).entries);
  keys = λ g k. sym (option_or-none ((or_empty (t g)).keys k));
  known = λ g. refl;
}

-- after one group's table was put below, the others give the same as all did
pub join_step : (l a j : Tables) (group : ℕ) (t v : TableView) → l group ≡ Some t → IsTableJoined (Some t) (a group) v → IsJoined (with_table group None l) (with_table group (Some v) a) j → IsJoined l a j
join_step l a j group t v first table joined = record {
  entries = λ g. entries_at g (g == group) refl (joined.entries g);
  keys = λ g k. key_at g k (g == group) refl (joined.keys g k);
  known = λ g. known_at g (g == group) refl (joined.known g);
}
  where
    entries_at : (g : ℕ) (b : Bool) → (g == group) ≡ b → (or_empty (j g)).entries ≡ with_entries (or_empty (cond b None (l g))).entries (or_empty (cond b (Some v) (a g))).entries
        → (or_empty (j g)).entries ≡ with_entries (or_empty (l g)).entries (or_empty (a g)).entries
    entries_at g true here is =
        is ∙ with_entries-nothing v.entries ∙ table.entries
        ∙ ap (λ (o : Option TableView). with_entries (or_empty o).entries (or_empty (a group)).entries) (sym first)
        ∙ ap (λ h. with_entries (or_empty (l h)).entries (or_empty (a h)).entries) (sym (eq_from_test g group here))
    entries_at g false here is = is

    key_at : (g : ℕ) (k : List ℕ) (b : Bool) → (g == group) ≡ b → (or_empty (j g)).keys k ≡ option_or ((or_empty (cond b (Some v) (a g))).keys k) ((or_empty (cond b None (l g))).keys k)
        → (or_empty (j g)).keys k ≡ option_or ((or_empty (a g)).keys k) ((or_empty (l g)).keys k)
    key_at g k true here is =
        is ∙ option_or-none (v.keys k) ∙ table.keys k
        ∙ ap (λ (o : Option TableView). option_or ((or_empty (a group)).keys k) ((or_empty o).keys k)) (sym first)
        ∙ ap (λ h. option_or ((or_empty (a h)).keys k) ((or_empty (l h)).keys k)) (sym (eq_from_test g group here))
    key_at g k false here is = is

    known_at : (g : ℕ) (b : Bool) → (g == group) ≡ b → is_some (j g) ≡ (is_some (cond b None (l g)) || is_some (cond b (Some v) (a g))) → is_some (j g) ≡ (is_some (l g) || is_some (a g))
    known_at g true here is =
        is ∙ ap (λ (o : Option TableView). is_some o || is_some (a g)) (sym first) ∙ ap (λ h. is_some (l h) || is_some (a g)) (sym (eq_from_test g group here))
    known_at g false here is = is

-- the tables of a list of groups, none of them twice
abbrev pub tables_in : List (ℕ × MemTable) → Tables
tables_in es group = option_map table_of (lookup (nat_eq group) es)

pub tables_in-rest : (e : ℕ × MemTable) (es : List (ℕ × MemTable)) → IsDistinct nat_eq (keys_of (e ∷ es)) → tables_in es ≡ with_table e.0 None (tables_in (e ∷ es))
tables_in-rest e es distinct = λ i g. at g (g == e.0) refl i
  where
    at : (g : ℕ) (b : Bool) → (g == e.0) ≡ b → option_map table_of (lookup (nat_eq g) es) ≡ cond b None (option_map table_of (cond b (Some e.1) (lookup (nat_eq g) es)))
    at g true here = ap (option_map table_of) (lookup-none (nat_eq g) es (none_past_head nat_eq_equiv g e es distinct here))
    at g false here = refl

-- after the first of a list was put below, the others give the same as all did
pub join_first : (e : ℕ × MemTable) (all es : List (ℕ × MemTable)) (a b j : Tables) (v : TableView) → all ≡ e ∷ es → IsDistinct nat_eq (keys_of all) → IsTableJoined (Some (table_of e.1)) (a e.0) v → b ≡ with_table e.0 (Some v) a
    → IsJoined (tables_in es) b j → IsJoined (tables_in all) a j
join_first e all es a b j v whole distinct table put joined =
    let apart = subst (λ xs. IsDistinct nat_eq (keys_of xs)) whole distinct in
    let first : tables_in (e ∷ es) e.0 ≡ Some (table_of e.1) = ap (option_map table_of) (lookup_head (nat_eq e.0) e es (nat_eq_equiv.refl e.0)) in
    let others = subst (λ (t : Tables). IsJoined (tables_in es) t j) put joined in
    subst (λ xs. IsJoined (tables_in xs) a j) (sym whole)
    (join_step (tables_in (e ∷ es)) a j e.0 (table_of e.1) v first table (subst (λ (t : Tables). IsJoined t (with_table e.0 (Some v) a) j) (tables_in-rest e es apart) others))

-- how many stand in the Rewrite queue

abbrev pub total_in : List (ℕ × MemTable) → ℕ
total_in es = sum_by (λ t. rewritten_in (table_of t)) (values_of es)

pub total-set : (m : MemTables) (n : Groups) (group : ℕ) (old new : MemTable) → Some old ≡ hash.get nat_eq m.tables group → n.entries ≡ set_value (nat_eq group) m.tables.entries new
    → total_in n.entries + rewritten_in (table_of old) ≡ rewritten_total m + rewritten_in (table_of new)
total-set m n group old new there is =
    ap (λ es. total_in es + rewritten_in (table_of old)) is
    ∙ sum_by-set_value (λ t. rewritten_in (table_of t)) (nat_eq group) m.tables.entries old new (sym there)

pub total-insert : (m : MemTables) (n : Groups) (group : ℕ) (new : MemTable) (old : Option MemTable) → None ≡ hash.get nat_eq m.tables group → old ≡ hash.get nat_eq m.tables group → hash.PutsEntry nat_eq m.tables n group new old
    → total_in n.entries ≡ rewritten_total m + rewritten_in (table_of new)
total-insert m n group new old none is puts =
    let sum = sum_by_puts_entry (λ (t : MemTable). rewritten_in (table_of t)) nat_eq m.tables n group new old is puts in
    let nothing = ap (λ o. unwrap_or (option_map (λ (t : MemTable). rewritten_in (table_of t)) o) 0) (is ∙ sym none) in
    omega (arith, sum, nothing)

pub total-put : (m : MemTables) (n : Groups) (group : ℕ) (new : MemTable) (old : Option MemTable) → old ≡ hash.get nat_eq m.tables group → hash.PutsEntry nat_eq m.tables n group new old
    → unwrap_or (option_map (λ (t : MemTable). rewritten_in (table_of t)) old) 0 + total_in n.entries ≡ rewritten_in (table_of new) + rewritten_total m
total-put m n group new old is puts =
    let sum = sum_by_puts_entry (λ (t : MemTable). rewritten_in (table_of t)) nat_eq m.tables n group new old is puts in
    let was = ap (λ o. unwrap_or (option_map (λ (t : MemTable). rewritten_in (table_of t)) o) 0) is in
    omega (arith, sum, was)

pub total-removed : (m : MemTables) (n : Groups) (group : ℕ) (old : Option MemTable) → old ≡ hash.get nat_eq m.tables group → IsPermutation (remove_entry (nat_eq group) m.tables.entries) n.entries
    → rewritten_in (or_empty (option_map table_of old)) + total_in n.entries ≡ rewritten_total m
total-removed m n group old is moved =
    let f = λ (t : MemTable). rewritten_in (table_of t) in
    let sum = sum_by-remove_entry f (nat_eq group) m.tables.entries in
    let same = sum_by_values_permutation f (remove_entry (nat_eq group) m.tables.entries) n.entries moved in
    let gone = weight_of old ∙ ap (λ o. unwrap_or (option_map f o) 0) is in
    omega (arith, sum, same, gone)
  where
    weight_of : (o : Option MemTable) → rewritten_in (or_empty (option_map table_of o)) ≡ unwrap_or (option_map (λ (t : MemTable). rewritten_in (table_of t)) o) 0
    weight_of None = refl
    weight_of (Some t) = refl

pub total_in-cons : (e : ℕ × MemTable) (es : List (ℕ × MemTable)) → total_in (e ∷ es) ≡ rewritten_in (table_of e.1) + total_in es
total_in-cons e es = sum_by-cons (λ (t : MemTable). rewritten_in (table_of t)) e.1 (values_of es)

pub count_more : (n left more next : ℕ) → left ≡ count_after Rewrite n 0 → next ≡ min (left + more) (2 ^ 64 - 1) → next ≡ count_after Rewrite (n + more) 0
count_more n left more next is then = at (2 ^ 64 - 1) is then
  where
    at : (most : ℕ) → left ≡ min (0 + n) most → next ≡ min (left + more) most → next ≡ min (0 + (n + more)) most
    at most before after = grind (arith, nat_tests)

-- .. where what is added is a count itself
pub count_more-counted : (n left gone more next : ℕ) → left ≡ count_after Rewrite n 0 → more ≡ count_after Rewrite gone 0 → next ≡ min (left + more) (2 ^ 64 - 1) → next ≡ count_after Rewrite (n + gone) 0
count_more-counted n left gone more next is counted then = at (2 ^ 64 - 1) is counted then
  where
    at : (most : ℕ) → left ≡ min (0 + n) most → more ≡ min (0 + gone) most → next ≡ min (left + more) most → next ≡ min (0 + (n + gone)) most
    at most before added after = grind (arith, nat_tests)

-- where all was counted before, all is after so many more were placed and so many left
pub counted_more : (m n : MemTables) (s r : GlobalStats) (placed left : ℕ) → rewritten_count r ≡ count_after Rewrite placed (rewritten_count s) → deleted_count r ≡ count_after Rewrite left (deleted_count s)
    → left + rewritten_total n ≡ rewritten_total m + placed → AreCounted m s → AreCounted n r
counted_more m n s r placed left rewritten deleted total counted =
    at (2 ^ 64 - 1) (rewritten_count s) (deleted_count s) (rewritten_count r) (deleted_count r) (rewritten_total m) (rewritten_total n) rewritten deleted total counted
  where
    at : (most a b c d t u : ℕ) → c ≡ min (a + placed) most → d ≡ min (b + left) most → left + u ≡ t + placed → (a < most → b + t ≡ a) → c < most → d + u ≡ c
    at most a b c d t u first second total counted short =
        let below : a + placed < most = grind (arith, nat_tests) in
        let before : b + t ≡ a = counted (omega arith) in
        grind (arith, nat_tests)

-- what left is what stands no more
pub count_rest : (a b n : ℕ) → n + b ≡ a → count_after Rewrite n 0 ≡ count_after Rewrite (a - b) 0
count_rest a b n is = ap (λ k. count_after Rewrite k 0) (omega (arith, is))

-- no tables, where as many left as were placed
pub none_counted : (m : MemTables) (s : GlobalStats) → rewritten_total m ≡ 0 → deleted_count s ≡ rewritten_count s → AreCounted m s
none_counted m s none even short = omega (arith, none, even)
