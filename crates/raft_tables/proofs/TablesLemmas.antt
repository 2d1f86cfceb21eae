-- What a change of one group's table leaves in the tables.
use Rattle.std.proofs.Common.{◌≡◌, ℕ, ◌==◌, nat_eq, Bool, true, false, cond, List, [], ◌∷◌, length, Option, Some, None, refl, sym, ◌∙◌, ap, arith}
use Rattle.std.proofs.lemmas.Grind.{common_steps}
use Rattle.std.specs.HashMap as hash
use Rattle.std.specs.HashMap.{HashMap}
use Rattle.std.specs.Cmp.{nat_eq_equiv}
use Rattle.std.specs.Map.{lookup}
use Rattle.std.specs.Option.{option_map}
use Rattle.std.specs.declared.hash.BuildHasherDefault.{BuildHasherDefault}
use Rattle.std.specs.declared.hash.FoldHasher.{FoldHasher}
use Rattle.raft_tables.specs.Table.{TableView, table_of}
use Rattle.raft_tables.specs.Tables.{Tables, tables_of, with_table}
use Rattle.raft_tables.specs.declared.memtable.MemTable.{MemTable}
use Rattle.raft_tables.specs.declared.memtables.MemTables.{MemTables}

abbrev pub Groups : Type 0
Groups = HashMap ℕ MemTable (BuildHasherDefault FoldHasher)

-- the tables of a map of groups
abbrev pub shown : Groups → Tables
shown m group = option_map table_of (hash.get nat_eq m group)

eq-flip : (a b : ℕ) → (a == b) ≡ (b == a)
eq-flip a b = nat_eq_equiv.symm a b

eq_from_test : (a b : ℕ) → (a == b) ≡ true → a ≡ b
eq_from_test a b same = grind (arith, common_steps)

option_map-cond : {A B : Type 0} (f : A → B) (b : Bool) (x y : Option A) → option_map f (cond b x y) ≡ cond b (option_map f x) (option_map f y)
option_map-cond f true x y = refl
option_map-cond f false x y = refl

-- one group's table was changed
pub table_changed : (m : MemTables) (n : Groups) (group : ℕ) (w : Option MemTable) → hash.UpdatesBy nat_eq (nat_eq group) m.tables n w → shown n ≡ with_table group (option_map table_of w) (tables_of m)
table_changed m n group w updates =
    let at : (g : ℕ) → shown n g ≡ with_table group (option_map table_of w) (tables_of m) g = λ g.
    ap (option_map table_of) (updates.0 g ∙ ap (λ b. cond b w (hash.get nat_eq m.tables g)) (eq-flip group g)) ∙ option_map-cond table_of (g == group) w (hash.get nat_eq m.tables g) in
    λ i g. at g i

-- the table that a group has is put in its place
pub same_table : (t : Tables) (group : ℕ) (v : Option TableView) → t group ≡ v → with_table group v t ≡ t
same_table t group v is = λ i g. at g (g == group) refl i
  where
    at : (g : ℕ) (b : Bool) → (g == group) ≡ b → cond b v (t g) ≡ t g
    at g true here = sym is ∙ ap t (sym (eq_from_test g group here))
    at g false here = refl

-- the first table of a group
pub first_of_group : (m : MemTables) (n : Groups) (group : ℕ) (after : MemTable) (f : Option TableView → Option TableView) → None ≡ hash.get nat_eq m.tables group → hash.UpdatesBy nat_eq (nat_eq group) m.tables n (Some after)
    → Some (table_of after) ≡ f None → shown n ≡ with_table group (f (tables_of m group)) (tables_of m)
first_of_group m n group after f none updates is =
    table_changed m n group (Some after) updates ∙ ap (λ v. with_table group v (tables_of m)) (is ∙ ap (λ o. f (option_map table_of o)) none)

-- a map without entries has no tables
pub no_tables : (es : List (ℕ × MemTable)) → length es ≡ 0 → (group : ℕ) → option_map table_of (lookup (nat_eq group) es) ≡ None
no_tables [] short group = refl
no_tables (e ∷ es) short group = absurd (omega (arith, short))

pub none_stored : (es : List (ℕ × MemTable)) → ((group : ℕ) → option_map table_of (lookup (nat_eq group) es) ≡ None) → length es ≡ 0
none_stored [] none = refl
none_stored (e ∷ es) none =
    let first : Some (table_of e.1) ≡ None = rw (nat_eq_equiv.refl e.0) at (none e.0) in
    absurd cc
