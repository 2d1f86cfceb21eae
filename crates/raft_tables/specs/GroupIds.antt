-- Numbers of atomic groups: those that were met, and whether the batches of each group stand together.
use Rattle.std.specs.Prelude.{ℕ, ◌+◌, ◌<◌, ◌^◌, ◌==◌, ◌&&◌, ◌||◌, not, max, nat_le, Bool, true, false, List, [], ◌∷◌, Option, Some, None, unwrap_or}
use Rattle.std.specs.List.{AllByRecursion as Each}
use Rattle.std.specs.Str.{bytes_eq}
use Rattle.raft_records.specs.Item.{Batch}
use Rattle.raft_recovery_laws.specs.Groups.{GroupMark, first_place, mark_of}
use Rattle.raft_tables.specs.declared.group_ids.GroupIds.{GroupIds}

-- every number that was met or given is below this one
abbrev pub ids_bound : GroupIds → ℕ
ids_bound ids = unwrap_or ids.next (2 ^ 64)

-- the bound after a mark was met
abbrev pub bound_after : ℕ → Option GroupMark → ℕ
bound_after bound None = bound
bound_after bound (Some mark) = max bound (mark.id + 1)

-- the id of the mark, if there is one, is below the bound
abbrev pub IsBelow : ℕ → Option GroupMark → Type 0
IsBelow bound None = Unit {0}
IsBelow bound (Some mark) = mark.id < bound

-- the marks of batches have numbers below this one
abbrev pub AreIdsBelow : ℕ → List Batch → Type 0
AreIdsBelow bound batches = Each (λ b. IsBelow bound (mark_of b)) batches

-- a batch with this mark goes on with the group of the one before it, whose number was `last`
abbrev pub goes_on : Option ℕ → GroupMark → Bool
goes_on None mark = false
goes_on (Some last) mark = mark.id == last && not (bytes_eq mark.place first_place)

-- each batch of a group begins it, with a number above every one before, or goes on with it: so the
-- batches of a group stand together, and the first of them alone may be marked as first
abbrev pub are_ascending : ℕ → Option ℕ → List (Option GroupMark) → Bool
are_ascending bound last [] = true
are_ascending bound last (None ∷ marks) = are_ascending bound None marks
are_ascending bound last (Some mark ∷ marks) =
    (nat_le bound mark.id || goes_on last mark)
    && are_ascending (max bound (mark.id + 1)) (Some mark.id) marks
