-- What a group has, of lists that are alike.
use Rattle.std.proofs.Common.{◌≡◌, ℕ, suc, ◌+◌, ◌<◌, ◌≤◌, true, false, List, [], ◌∷◌, length, map, drop, get_or, refl, ◌∙◌, ap, sym, nat_eq, arith}
use Rattle.std.specs.Prelude.{◌==◌, unwrap_or, IfOk, Result, Ok, Err, Option, Some}
use Rattle.std.specs.Map.{lookup}
use Rattle.std.proofs.Math.ListN.{drop_of_length-le}
use Rattle.std.proofs.lemmas.Bool.{cond-false, cond-true, eqb-true}
use Rattle.raft_log_engine.specs.declared.engine.image.GroupImage.{GroupImage}
use Rattle.raft_records.specs.Item.{Entry}
use Rattle.raft_allowed.specs.Held.{Held, Pairs, group_with_held, held_at, held_in, held_of, is_nil, nothing}
use Rattle.raft_allowed.proofs.LoopLemmas.{ahead}

abbrev pub group_held : ℕ → List Entry → Pairs → ℕ × Held
group_held group entries pairs = (group, record { entries = entries; pairs = pairs })

pub same_held : (group : ℕ) (es fs : List Entry) (ps qs : Pairs) → es ≡ fs → ps ≡ qs → group_held group es ps ≡ group_held group fs qs
same_held group es fs ps qs entries pairs = ap (λ (l : List Entry). group_held group l ps) entries ∙ ap (group_held group fs) pairs

-- A group is looked for from a place on.

pub at_here : (images : List GroupImage) (i : ℕ) (image : GroupImage) (group : ℕ) → i < length images → image ≡ get_or images i image → nat_eq group image.group ≡ true → held_at group (held_of (drop i images)) ≡ held_at group (held_of images) → held_in image ≡ held_at group (held_of images)
at_here images i image group within is same so =
    let rest : List (ℕ × Held) = held_of (drop (i + 1) images) in
    sym (ap (λ (l : List GroupImage). held_at group (held_of l)) (ahead images i image within is) ∙ ap (λ (o : Option Held). unwrap_or o nothing) (cond-true (nat_eq group image.group) (Some (held_in image)) (lookup (nat_eq group) rest) same)) ∙ so

pub at_later : (images : List GroupImage) (i : ℕ) (image : GroupImage) (group : ℕ) → i < length images → image ≡ get_or images i image → nat_eq group image.group ≡ false → held_at group (held_of (drop i images)) ≡ held_at group (held_of images) → held_at group (held_of (drop (i + 1) images)) ≡ held_at group (held_of images)
at_later images i image group within is differs so =
    let rest : List (ℕ × Held) = held_of (drop (i + 1) images) in
    sym (ap (λ (l : List GroupImage). held_at group (held_of l)) (ahead images i image within is) ∙ ap (λ (o : Option Held). unwrap_or o nothing) (cond-false (nat_eq group image.group) (Some (held_in image)) (lookup (nat_eq group) rest) differs)) ∙ so

pub at_none : (images : List GroupImage) (i : ℕ) (group : ℕ) → length images ≤ i → held_at group (held_of (drop i images)) ≡ held_at group (held_of images) → nothing ≡ held_at group (held_of images)
at_none images i group past so = sym (ap (λ (l : List GroupImage). held_at group (held_of l)) (drop_of_length-le images past)) ∙ so

-- lists are empty where they have no length
pub nil_by_length : {X Y : Type 0} (f : X → Y) (xs : List X) → (length xs == 0) ≡ is_nil (map f xs)
nil_by_length f [] = refl
nil_by_length f (x ∷ xs) = no_zero (length xs)
  where
    no_zero : (n : ℕ) → (suc n == 0) ≡ false
    no_zero n = grind arith

abbrev pub group_pair : ℕ → Held → ℕ × Held
group_pair group held = (group, held)

-- a copy of the image of the group has what the group has
pub same_number : {E : Type 0} (group : ℕ) (image : GroupImage) (result : Result GroupImage E) (held : Held) → nat_eq group image.group ≡ true → IfOk result (λ copy. group_with_held copy ≡ group_with_held image) → held_in image ≡ held → IfOk result (λ copy. group_with_held copy ≡ (group, held))
same_number group image (Ok copy) held same copied is = copied ∙ ap (λ (n : ℕ). group_pair n (held_in image)) (sym (eqb-true group image.group same)) ∙ ap (group_pair group) is
same_number group image (Err e) held same copied is = tt
