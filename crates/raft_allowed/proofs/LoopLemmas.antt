-- Loops that push what passes a test, and what is ahead of them.
use Rattle.std.proofs.Common.{◌≡◌, ℕ, suc, ◌+◌, ◌<◌, Bool, true, false, cond, List, [], ◌∷◌, ◌++◌, length, map, take, drop, drop-cons, get_or, refl, sym, ◌∙◌, ap, append_assoc, arith}
use Rattle.std.specs.Prelude.{◌==◌, filter}
use Rattle.std.proofs.lemmas.Bool.{eqb-true}
use Rattle.std.proofs.lemmas.List.{append-nil}
use Rattle.std.proofs.Math.Seq.{take-suc}
use Rattle.raft_records.specs.Item.{Item}
use Rattle.raft_crash_laws.specs.Crash.{written_batch}
use Rattle.raft_allowed.specs.Held.{is_nil}

pub ahead : {X : Type 0} (xs : List X) (i : ℕ) (x : X) → i < length xs → x ≡ get_or xs i x → drop i xs ≡ x ∷ drop (i + 1) xs
ahead xs i x within is =
    let next : suc i ≡ i + 1 = omega arith in
    drop-cons xs i x within ∙ ap (λ y. y ∷ drop (suc i) xs) (sym is) ∙ ap (λ (n : ℕ). x ∷ drop n xs) next

pub taken_more : {X : Type 0} (xs : List X) (i : ℕ) (x : X) → i < length xs → x ≡ get_or xs i x → take (i + 1) xs ≡ take i xs ++ x ∷ []
taken_more xs i x within is =
    let next : i + 1 ≡ suc i = omega arith in
    ap (λ (n : ℕ). take n xs) next ∙ take-suc xs i x within ∙ ap (λ y. take i xs ++ y ∷ []) (sym is)

-- Lists with and without elements, by their lengths.

no_length : (n : ℕ) → (suc n == 0) ≡ true → ⊥
no_length n is =
    let none : suc n ≡ 0 = eqb-true (suc n) 0 is in
    omega arith

pub mapped_none : {X Y : Type 0} (f : X → Y) (xs : List X) → (length xs == 0) ≡ true → map f xs ≡ []
mapped_none f [] none = refl
mapped_none f (x ∷ xs) none = absurd (no_length (length xs) none)

pub written_none : {X : Type 0} (f : X → Item) (xs : List X) → (length xs == 0) ≡ true → written_batch (map f xs) ≡ []
written_none f [] none = refl
written_none f (x ∷ xs) none = absurd (no_length (length xs) none)

pub written_one : {X : Type 0} (f : X → Item) (xs : List X) → (length xs == 0) ≡ false → written_batch (map f xs) ≡ map f xs ∷ []
written_one f [] some = cc
written_one f (x ∷ xs) some = refl

pub some_left : {X : Type 0} (xs : List X) → (length xs == 0) ≡ false → is_nil xs ≡ false
some_left [] some = cc
some_left (x ∷ xs) some = refl

pub nil_mapped : {X Y : Type 0} (f : X → Y) (xs : List X) → is_nil (map f xs) ≡ is_nil xs
nil_mapped f [] = refl
nil_mapped f (x ∷ xs) = refl

-- one element, which passes a test or doesn't
pub push_none : {Y : Type 0} (p : Y → Bool) (y : Y) (old : List Y) → p y ≡ false → old ≡ old ++ filter p (y ∷ [])
push_none p y old fails = sym (append-nil old) ∙ ap (λ l. old ++ l) (sym (ap (λ b. cond b (y ∷ []) []) fails))

pub push_one : {Y : Type 0} (p : Y → Bool) (y : Y) (old new : List Y) → p y ≡ true → new ≡ old ++ y ∷ [] → new ≡ old ++ filter p (y ∷ [])
push_one p y old new passes pushed = pushed ∙ ap (λ l. old ++ l) (sym (ap (λ b. cond b (y ∷ []) []) passes))

module _ {X Y : Type 0} (f : X → Y) (p : Y → Bool) where
  -- what was pushed, and what of the rest passes, are these
  abbrev pub IsPushing : List Y → List X → List Y → Type 0
  IsPushing pushed rest whole = pushed ++ filter p (map f rest) ≡ whole

  passed : (b : Bool) (y : Y) (ys : List Y) → cond b (y ∷ []) [] ++ ys ≡ cond b (y ∷ ys) ys
  passed true y ys = refl
  passed false y ys = refl

  pub pushing_more : (old : List Y) (whole : List Y) (xs : List X) (i : ℕ) (x : X) (new : List Y) → i < length xs → x ≡ get_or xs i x → IsPushing old (drop i xs) whole → new ≡ old ++ filter p (f x ∷ []) → IsPushing new (drop (i + 1) xs) whole
  pushing_more old whole xs i x new within is so_far pushed =
      let rest : List Y = filter p (map f (drop (i + 1) xs)) in
      ap (λ l. l ++ rest) pushed
      ∙ append_assoc old (filter p (f x ∷ [])) rest
      ∙ ap (λ l. old ++ l) (passed (p (f x)) (f x) rest)
      ∙ ap (λ l. old ++ filter p (map f l)) (sym (ahead xs i x within is))
      ∙ so_far

  pub pushing_ended : (old : List Y) (whole : List Y) (xs : List X) (i : ℕ) → drop i xs ≡ [] → IsPushing old (drop i xs) whole → old ≡ whole
  pushing_ended old whole xs i none so_far = sym (append-nil old) ∙ ap (λ l. old ++ filter p (map f l)) (sym none) ∙ so_far
