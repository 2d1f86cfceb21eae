-- Groups by what is decided about them.
use Rattle.std.proofs.Common.{◌≡◌, ◌++◌, ap, refl, subst, sym, ℕ, Bool, true, false, cond, List, [], ◌∷◌, map}
use Rattle.std.specs.Prelude.{nat_le}
use Rattle.std.specs.List.{AllByRecursion as Each, filter}
use Rattle.std.specs.List.Sorted.{IsStrictlySortedBy}
use Rattle.std.specs.Ordering.{nat_cmp}
use Rattle.std.specs.declared.cmp.Ordering.TheVariants.{Less}
use Rattle.raft_tables.specs.Tables.{Tables}
use Rattle.raft_purge_rules.specs.Choosing.{IsDecided, chosen_by, groups_by}
use Rattle.raft_purge_rules.specs.Rounds.{rounds_of}
use Rattle.raft_purge_rules.specs.declared.choosing.Chosen.{Chosen}
use Rattle.raft_purge_rules.specs.declared.choosing.Decision.{Decision}
use Rattle.raft_purge_rules.specs.declared.choosing.Needs.{Needs}
use Rattle.raft_purge_rules.specs.declared.rounds.Rounds.{Rounds}

each_group : (P : ℕ → Type 0) (b : Bool) (d : Decision) (rest : List Decision) → P d.group → Each P (map (λ (d : Decision). d.group) rest) → Each P (map (λ (d : Decision). d.group) (cond b (d ∷ rest) rest))
each_group P true d rest first each = (first, each)
each_group P false d rest first each = each

-- what is true of all is true of some
pub each_chosen : (P : ℕ → Type 0) (chosen : Chosen) (ds : List Decision) → Each P (map (λ (d : Decision). d.group) ds) → Each P (groups_by chosen ds)
each_chosen P chosen [] each = tt
each_chosen P chosen (d ∷ ds) each = each_group P (chosen_by chosen d) d (filter (chosen_by chosen) ds) each.0 (each_chosen P chosen ds each.1)

ascending_group : (b : Bool) (d : Decision) (rest : List Decision) → Each (λ k. nat_cmp d.group k ≡ Less) (map (λ (d : Decision). d.group) rest) → IsStrictlySortedBy nat_cmp (map (λ (d : Decision). d.group) rest)
    → IsStrictlySortedBy nat_cmp (map (λ (d : Decision). d.group) (cond b (d ∷ rest) rest))
unfolding IsStrictlySortedBy
ascending_group true d rest first sorted = (first, sorted)
ascending_group false d rest first sorted = sorted

pub chosen_ascending : (chosen : Chosen) (ds : List Decision) → IsStrictlySortedBy nat_cmp (map (λ (d : Decision). d.group) ds) → IsStrictlySortedBy nat_cmp (groups_by chosen ds)
unfolding IsStrictlySortedBy
chosen_ascending chosen [] sorted = tt
chosen_ascending chosen (d ∷ ds) sorted =
    ascending_group (chosen_by chosen d) d (filter (chosen_by chosen) ds) (each_chosen (λ k. nat_cmp d.group k ≡ Less) chosen ds sorted.0) (chosen_ascending chosen ds sorted.1)

pub groups_more : (ds : List Decision) (d : Decision) → map (λ (d : Decision). d.group) (ds ++ d ∷ []) ≡ map (λ (d : Decision). d.group) ds ++ d.group ∷ []
groups_more [] d = refl
groups_more (e ∷ ds) d = ap (λ (rest : List ℕ). e.group ∷ rest) (groups_more ds d)

pub decided_by : (needs : Needs) (rounds : Rounds) (t : Tables) (group : ℕ) (due : Bool) (d : Decision) → due ≡ nat_le 9 (rounds_of rounds group) → d.group ≡ group → IsDecided needs due (t group) d
    → IsDecided needs (nat_le 9 (rounds_of rounds d.group)) (t d.group) d
decided_by needs rounds t group due d due_is same is =
    subst (λ (k : ℕ). IsDecided needs (nat_le 9 (rounds_of rounds k)) (t k) d) (sym same) (subst (λ (b : Bool). IsDecided needs b (t group) d) due_is is)
