-- Records of a renamed file stay fresh.
use Rattle.std.proofs.Common.{◌≡◌, ◌∙◌, ℕ, suc, ◌-◌, ◌≤◌, Bool, true, false, ◌||◌, List, [], ◌∷◌, ◌++◌, length, take, Option, Some, None, Contains, ap, arith, refl, subst, sym}
use Rattle.std.proofs.lemmas.List.Elements.{Contains-append_right}
use Rattle.raft_env.specs.Outcomes.{Change, File, IsStaleAfter, changed_by, is_written}
use Rattle.raft_files.specs.Detectable.{AreFresh, IsFreshAfter, IsGivenBy, WasGivenSince}
use Rattle.raft_files.specs.Scan.{PlacedRecord}
use Rattle.raft_files.specs.Completed.{IsRenamedWithin}
use Rattle.raft_files.proofs.CompletedZerosLemmas.{never_stale}

right_of : (a b : Bool) → a || b ≡ false → b ≡ false
right_of true b none = absurd (let no : true ≡ false = none in cc)
right_of false b none = none

-- so many of these changes at most came before the renaming, if there was one
abbrev pub IsWithin : Option ℕ → List Change → Type 0
IsWithin renamed changes = (count : ℕ) → renamed ≡ Some count → count ≤ length changes

module _ (renamed : Option ℕ) (c : Change) (changes : List Change) (within : IsWithin renamed changes) where
  -- the changes since the renaming are one more
  one_more : (count : ℕ) → renamed ≡ Some count → take (length (c ∷ changes) - count) (c ∷ changes) ≡ c ∷ take (length changes - count) changes
  one_more count is = let few = within count is in
      ap (λ n. take n (c ∷ changes)) (let e : length (c ∷ changes) - count ≡ suc (length changes - count) = omega (arith, few) in e)

  -- what is stale then was stale before
  stale_before : (i : ℕ) → IsStaleAfter renamed (c ∷ changes) i → IsStaleAfter renamed changes i
  stale_before i (count, is, none) = (count, is, right_of _ _ (sym (ap (λ cs. is_written cs i) (one_more count is)) ∙ none))

  given_since : (signature : Option ℕ) (r : PlacedRecord) → WasGivenSince signature renamed changes r → WasGivenSince signature renamed (c ∷ changes) r
  given_since signature r (count, is, d, has, given) =
      (count, is, d, subst (λ cs. Contains cs d) (sym (one_more count is)) (Contains-append_right (c ∷ []) (take (length changes - count) changes) d has), given)

  -- a fresh record stays fresh
  pub stays_fresh : (signature : Option ℕ) (records : List PlacedRecord) → AreFresh signature renamed changes records → AreFresh signature renamed (c ∷ changes) records
  stays_fresh signature records fresh r among stale = given_since signature r (fresh r among (stale_before r.at stale))

  -- a record that the change was to write is fresh
  pub written_fresh : (signature : Option ℕ) (r : PlacedRecord) → IsGivenBy signature r c → IsFreshAfter signature renamed (c ∷ changes) r
  written_fresh signature r given (count, is, none) =
      (count, is, c, subst (λ cs. Contains cs c) (sym (one_more count is)) (0, omega arith, refl), given)

  pub within_more : IsWithin renamed (c ∷ changes)
  within_more count is = let few = within count is in omega (arith, few)

-- of a file that was never renamed all are fresh
pub never_fresh : (signature renamed : Option ℕ) (changes : List Change) (records : List PlacedRecord) → renamed ≡ None → AreFresh signature renamed changes records
never_fresh signature renamed changes records never r among stale = absurd (never_stale renamed changes r.at never stale)

pub never_within : (renamed : Option ℕ) (changes : List Change) → renamed ≡ None → IsWithin renamed changes
never_within renamed changes never count is = absurd (let clash : Some count ≡ None = sym is ∙ never in cc)

-- a change more leaves the file renamed as it was
pub renamed_changed : (c : Change) (file : File) → IsRenamedWithin file → IsRenamedWithin (changed_by c file)
renamed_changed c file within = within_more file.renamed_after c (file.changes ++ file.older) within
