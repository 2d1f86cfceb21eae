-- Beginnings of one list.
use Rattle.std.proofs.Common.{◌≡◌, ℕ, zero, suc, ◌≤◌, List, [], ◌∷◌, ◌++◌, length, map, take, Some, slice_get, refl, ap, sym, ◌∙◌, arith, append_assoc}
use Rattle.std.proofs.lemmas.List.{map-append}
use mathlib.Core.List.{IsPrefix}

-- of two beginnings of one list the shorter begins the longer
pub prefix_shorter : {A : Type 0} (xs ys zs : List A) → IsPrefix xs zs → IsPrefix ys zs → length xs ≤ length ys → IsPrefix xs ys
prefix_shorter [] ys zs p q le = (ys, refl)
prefix_shorter (x ∷ xs) [] zs p q le = absurd (omega arith)
prefix_shorter (x ∷ xs) (y ∷ ys) [] p q le = absurd (cc (p.1))
prefix_shorter (x ∷ xs) (y ∷ ys) (z ∷ zs) p q le =
    let heads : x ≡ y = cc (p.1, q.1) in
    let rest = prefix_shorter xs ys zs (p.0, cc (p.1)) (q.0, cc (q.1)) (omega arith) in
    (rest.0, cc (heads, rest.1))

-- a beginning as long as the whole is the whole
pub prefix_whole : {A : Type 0} (xs ys : List A) → IsPrefix xs ys → length ys ≤ length xs → xs ≡ ys
prefix_whole [] [] p le = refl
prefix_whole [] (y ∷ ys) p le = absurd (omega arith)
prefix_whole (x ∷ xs) [] p le = absurd (cc (p.1))
prefix_whole (x ∷ xs) (y ∷ ys) p le =
    let rest = prefix_whole xs ys (p.0, cc (p.1)) (omega arith) in cc (p.1, rest)

pub prefix_trans : {A : Type 0} (xs ys zs : List A) → IsPrefix xs ys → IsPrefix ys zs → IsPrefix xs zs
prefix_trans xs ys zs p q = (p.0 ++ q.0, sym (append_assoc xs p.0 q.0) ∙ (ap (λ w. w ++ q.0) p.1 ∙ q.1))

-- what stands in a beginning stands in the whole, at the same place
pub prefix_get : {A : Type 0} (xs ys : List A) (k : ℕ) (x : A) → IsPrefix xs ys → slice_get xs k ≡ Some x → slice_get ys k ≡ Some x
prefix_get [] ys k x p h = absurd cc
prefix_get (y ∷ xs) [] k x p h = absurd (cc (p.1))
prefix_get (y ∷ xs) (z ∷ ys) zero x p h = cc (p.1, h)
prefix_get (y ∷ xs) (z ∷ ys) (suc k) x p h = prefix_get xs ys k x (p.0, cc (p.1)) h

-- a list that begins another begins it still when that has grown
pub begins_still : {A : Type 0} (xs ys more : List A) → take (length xs) ys ≡ xs → take (length xs) (ys ++ more) ≡ xs
begins_still [] ys more e = refl
begins_still (x ∷ xs) [] more e = absurd (cc e)
begins_still (x ∷ xs) (y ∷ ys) more e =
    let rest = begins_still xs ys more (cc e) in cc (e, rest)

pub begins_itself : {A : Type 0} (xs : List A) → take (length xs) xs ≡ xs
begins_itself [] = refl
begins_itself (x ∷ xs) = ap (λ ys. x ∷ ys) (begins_itself xs)

pub begins_whole : {A : Type 0} (xs ys : List A) → take (length xs) ys ≡ xs → length xs ≡ length ys → xs ≡ ys
begins_whole [] [] e n = refl
begins_whole [] (y ∷ ys) e n = absurd (omega arith)
begins_whole (x ∷ xs) [] e n = absurd (cc e)
begins_whole (x ∷ xs) (y ∷ ys) e n = let rest = begins_whole xs ys (cc e) (omega arith) in cc (e, rest)

pub begins_prefix : {A : Type 0} (xs ys : List A) → take (length xs) ys ≡ xs → IsPrefix xs ys
begins_prefix [] ys e = (ys, refl)
begins_prefix (x ∷ xs) [] e = absurd (cc e)
begins_prefix (x ∷ xs) (y ∷ ys) e =
    let rest = begins_prefix xs ys (cc e) in (rest.0, cc (e, rest.1))

-- the last one
pub get_last : {A : Type 0} (xs : List A) (x : A) → slice_get (xs ++ x ∷ []) (length xs) ≡ Some x
get_last [] x = refl
get_last (y ∷ xs) x = get_last xs x

-- of what lies within a list more of it makes nothing else
pub take_within : {A : Type 0} (n : ℕ) (xs ys : List A) → n ≤ length xs → take n (xs ++ ys) ≡ take n xs
take_within zero xs ys le = refl
take_within (suc n) [] ys le = absurd (omega arith)
take_within (suc n) (x ∷ xs) ys le = ap (λ zs. x ∷ zs) (take_within n xs ys (omega arith))

pub prefix_map : {A B : Type 0} (f : A → B) (xs ys : List A) → IsPrefix xs ys → IsPrefix (map f xs) (map f ys)
prefix_map f xs ys p = (map f p.0, sym (map-append f xs p.0) ∙ ap (map f) p.1)
