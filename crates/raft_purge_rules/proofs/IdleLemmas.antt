-- Where neither queue is rewritten, nothing is done about any group.
use Rattle.std.proofs.Common.{◌≡◌, ◌∙◌, ℕ, Bool, false, List, [], ◌∷◌, Option, None, Some, ap, map, refl, sym}
use Rattle.std.specs.Prelude.{nat_eq, nat_le}
use Rattle.std.specs.HashMap as hash
use Rattle.std.specs.List.{AllByRecursion as Each, list_any}
use Rattle.std.specs.List.Sorted.{IsStrictlySortedBy}
use Rattle.std.specs.Option.{option_map}
use Rattle.std.specs.Ordering.{nat_cmp}
use Rattle.std.proofs.lemmas.Map.Made.{is_some-lookup}
use Rattle.raft_tables.specs.Table.{table_of}
use Rattle.raft_tables.specs.Tables.{tables_of}
use Rattle.raft_tables.specs.declared.memtable.MemTable.{MemTable}
use Rattle.raft_tables.specs.declared.memtables.MemTables.{MemTables}
use Rattle.raft_tables.proofs.ListingLemmas.{is_some-map}
use Rattle.raft_purge_rules.specs.Choosing.{AreDecisions, IsDecided, groups_by, no_choice}
use Rattle.raft_purge_rules.specs.Rounds.{rounds_of}
use Rattle.raft_purge_rules.specs.declared.choosing.Chosen.{Chosen}
use Rattle.raft_purge_rules.specs.declared.choosing.Chosen.TheVariants.{Asked, Heavy, Rewritten}
use Rattle.raft_purge_rules.specs.declared.choosing.Decision.{Decision}
use Rattle.raft_purge_rules.specs.declared.choosing.Needs.{Needs}
use Rattle.raft_purge_rules.specs.declared.rounds.Rounds.{Rounds}

-- nothing is done about this group
abbrev undecided : ℕ → Decision
undecided group = record { group = group; is_often_rewritten = false; choice = no_choice }

-- the decisions about the groups of these tables
abbrev pub idle_decisions : MemTables → List Decision
idle_decisions m = map undecided (hash.keys m.tables)

none_by : (chosen : Chosen) (groups : List ℕ) → groups_by chosen (map undecided groups) ≡ []
none_by chosen [] = refl
none_by Asked (g ∷ groups) = none_by Asked groups
none_by Heavy (g ∷ groups) = none_by Heavy groups
none_by Rewritten (g ∷ groups) = none_by Rewritten groups

pub none_chosen : (chosen : Chosen) (m : MemTables) → groups_by chosen (idle_decisions m) ≡ []
none_chosen chosen m = none_by chosen (hash.keys m.tables)

same_groups : (groups : List ℕ) → map (λ (d : Decision). d.group) (map undecided groups) ≡ groups
same_groups [] = refl
same_groups (g ∷ groups) = ap (λ (gs : List ℕ). g ∷ gs) (same_groups groups)

module _ (needs : Needs) (rounds : Rounds) (m : MemTables) (rewrite : needs.rewrite ≡ false) (append : needs.append ≡ None) where
  decided : (g : ℕ) (is_due : Bool) (o : Option MemTable) → IsDecided needs is_due (option_map table_of o) (undecided g)
  decided g is_due None = refl
  decided g is_due (Some t) = (t, refl, rw (rewrite, append) refl)

  each : (groups : List ℕ) → Each (λ d. IsDecided needs (nat_le 9 (rounds_of rounds d.group)) (tables_of m d.group) d) (map undecided groups)
  each [] = tt
  each (g ∷ groups) = (decided g (nat_le 9 (rounds_of rounds g)) (hash.get nat_eq m.tables g), each groups)

  pub idle : AreDecisions needs rounds (tables_of m) (idle_decisions m)
  idle = record {
    each = each (hash.keys m.tables);
    all = λ g.
        ap (list_any (nat_eq g)) (same_groups (hash.keys m.tables))
        ∙ sym (is_some-lookup (nat_eq g) m.tables.entries)
        ∙ sym (is_some-map table_of (hash.get nat_eq m.tables g));
  }

pub none_sorted : IsStrictlySortedBy nat_cmp []
unfolding IsStrictlySortedBy
none_sorted = tt
