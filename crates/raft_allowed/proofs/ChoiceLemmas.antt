-- Contents after choices of batches, and after prefixes of them.
use Rattle.std.proofs.Common.{◌≡◌, ℕ, zero, suc, ◌+◌, ◌<◌, Bool, true, false, cond, inl, inr, ⊎_elim, List, [], ◌∷◌, ◌++◌, length, map, take, refl, sym, ◌∙◌, ap, subst, arith}
use Rattle.std.specs.Prelude.{◌⊎◌, Any, is_none}
use Rattle.std.specs.List.{AllByRecursion, AllZip}
use Rattle.std.proofs.lemmas.List.Sums.{fold-append}
use Rattle.raft_records.specs.Contents.{Contents, after_batch, after_batches}
use Rattle.raft_records.specs.Item.{Batch}
use Rattle.raft_records.specs.Validity.{batch_refusal}
use Rattle.raft_crash_laws.specs.Crash.{pending_of, written_batch}
use Rattle.raft_log_engine.specs.Group.{chosen_of}
use Rattle.raft_allowed.specs.Walk.{contents_before, contents_from, taken_of}

-- it is one of these
abbrev pub IsAmong : {X : Type 0} → X → List X → Type 0
IsAmong x [] = ⊥
IsAmong x (y ∷ ys) = (x ≡ y) ⊎ IsAmong x ys

pub among_left : {X : Type 0} (x : X) (ys zs : List X) → IsAmong x ys → IsAmong x (ys ++ zs)
among_left x [] zs in_none = absurd in_none
among_left x (y ∷ ys) zs (inl is) = inl is
among_left x (y ∷ ys) zs (inr among) = inr (among_left x ys zs among)

pub among_right : {X : Type 0} (x : X) (ys zs : List X) → IsAmong x zs → IsAmong x (ys ++ zs)
among_right x [] zs among = among
among_right x (y ∷ ys) zs among = inr (among_right x ys zs among)

pub among_cases : {X : Type 0} (x : X) (ys zs : List X) → IsAmong x (ys ++ zs) → IsAmong x ys ⊎ IsAmong x zs
among_cases x [] zs among = inr among
among_cases x (y ∷ ys) zs (inl is) = inl (inl is)
among_cases x (y ∷ ys) zs (inr among) = ⊎_elim (λ first. inl (inr first)) (λ last. inr last) (among_cases x ys zs among)

pub map_among : {X Y : Type 0} (f : X → Y) (x : X) (xs : List X) → IsAmong x xs → IsAmong (f x) (map f xs)
map_among f x [] in_none = absurd in_none
map_among f x (y ∷ ys) (inl is) = inl (ap f is)
map_among f x (y ∷ ys) (inr among) = inr (map_among f x ys among)

pub among_map : {X Y : Type 0} (f : X → Y) (y : Y) (xs : List X) → IsAmong y (map f xs) → (x : X) × IsAmong x xs × (y ≡ f x)
among_map f y [] in_none = absurd in_none
among_map f y (x ∷ xs) (inl is) = (x, inl refl, is)
among_map f y (x ∷ xs) (inr among) = let rest = among_map f y xs among in (rest.0, inr rest.1, rest.2)

-- what may be written of a batch is nothing or one batch
pending_cases : (m : Contents) (batch : Batch) → (pending_of m batch ≡ []) ⊎ ((b : Batch) × (pending_of m batch ≡ b ∷ []))
pending_cases m batch = at (is_none (batch_refusal m batch)) batch
  where
    written_cases : (b : Batch) → (written_batch b ≡ []) ⊎ ((c : Batch) × (written_batch b ≡ c ∷ []))
    written_cases [] = inl refl
    written_cases (item ∷ items) = inr (item ∷ items, refl)

    at : (t : Bool) (b : Batch) → (cond t (written_batch b) [] ≡ []) ⊎ ((c : Batch) × (cond t (written_batch b) [] ≡ c ∷ []))
    at true b = written_cases b
    at false b = inl refl

pub after-append : (m : Contents) (xs ys : List Batch) → after_batches m (xs ++ ys) ≡ after_batches (after_batches m xs) ys
after-append m xs ys = fold-append after_batch m xs ys

-- what these contents take stands among what all of them take
taken_among : (n m : Contents) (batch b : Batch) (ms : List Contents) → IsAmong m ms → pending_of m batch ≡ b ∷ [] → n ≡ after_batch m b → IsAmong n (taken_of batch ms)
taken_among n m batch b [] in_none pending is = absurd in_none
taken_among n m batch b (x ∷ ms) (inl same) pending is =
    let here : map (after_batch x) (pending_of x batch) ≡ after_batch m b ∷ [] = ap (λ y. map (after_batch y) (pending_of y batch)) (sym same) ∙ ap (map (after_batch m)) pending in
    let first : IsAmong n (after_batch m b ∷ []) = inl is in
    among_left n (map (after_batch x) (pending_of x batch)) (taken_of batch ms) (subst (IsAmong n) (sym here) first)
taken_among n m batch b (x ∷ ms) (inr among) pending is = among_right n (map (after_batch x) (pending_of x batch)) (taken_of batch ms) (taken_among n m batch b ms among pending is)

-- contents that are taken are those after what is pending at some of these
pub record IsTakenAt (n : Contents) (batch : Batch) (ms : List Contents) : Type 0 where
  pub before : Contents
  pub among : IsAmong before ms
  pub is : n ≡ after_batches before (pending_of before batch)

taken_at : (n : Contents) (batch : Batch) (ms : List Contents) → IsAmong n (taken_of batch ms) → IsTakenAt n batch ms
taken_at n batch [] in_none = absurd in_none
taken_at n batch (m ∷ ms) among =
    ⊎_elim
    (λ here. by_pending (pending_cases m batch) here)
    (λ later. let rest = taken_at n batch ms later in record { before = rest.before; among = inr rest.among; is = rest.is })
    (among_cases n (map (after_batch m) (pending_of m batch)) (taken_of batch ms) among)
  where
    by_pending : (pending_of m batch ≡ []) ⊎ ((b : Batch) × (pending_of m batch ≡ b ∷ [])) → IsAmong n (map (after_batch m) (pending_of m batch)) → IsTakenAt n batch (m ∷ ms)
    by_pending (inl none) here = let in_none : ⊥ = subst (λ (bs : List Batch). IsAmong n (map (after_batch m) bs)) none here in absurd in_none
    by_pending (inr one) here = ⊎_elim
        (λ is. record { before = m; among = inl refl; is = is ∙ sym (ap (after_batches m) one.1) })
        (λ none. absurd none)
        (let first : IsAmong n (after_batch m one.0 ∷ []) = subst (λ (bs : List Batch). IsAmong n (map (after_batch m) bs)) one.1 here in first)

-- what pending batches lead to is among what is kept and what is taken
stays_or_taken : (m : Contents) (batch : Batch) (ms : List Contents) → IsAmong m ms → IsAmong (after_batches m (pending_of m batch)) (ms ++ taken_of batch ms)
stays_or_taken m batch ms among = ⊎_elim
    (λ none. subst (λ (bs : List Batch). IsAmong (after_batches m bs) (ms ++ taken_of batch ms)) (sym none) (among_left m ms (taken_of batch ms) among))
    (λ one. subst (λ (bs : List Batch). IsAmong (after_batches m bs) (ms ++ taken_of batch ms)) (sym one.1) (among_right (after_batch m one.0) ms (taken_of batch ms) (taken_among (after_batch m one.0) m batch one.0 ms among one.1 refl)))
    (pending_cases m batch)

-- each choice leads to contents among these
pub chosen_among : (choice : List Bool) (batches : List Batch) (m : Contents) (ms : List Contents) → IsAmong m ms → IsAmong (after_batches m (chosen_of m choice batches)) (contents_from ms batches)
chosen_among [] [] m ms among = among
chosen_among (true ∷ choice) [] m ms among = among
chosen_among (false ∷ choice) [] m ms among = among
chosen_among [] (batch ∷ batches) m ms among = chosen_among [] batches m (ms ++ taken_of batch ms) (among_left m ms (taken_of batch ms) among)
chosen_among (false ∷ choice) (batch ∷ batches) m ms among = chosen_among choice batches m (ms ++ taken_of batch ms) (among_left m ms (taken_of batch ms) among)
chosen_among (true ∷ choice) (batch ∷ batches) m ms among =
    let next : Contents = after_batches m (pending_of m batch) in
    let later = chosen_among choice batches next (ms ++ taken_of batch ms) (stays_or_taken m batch ms among) in
    subst (λ (n : Contents). IsAmong n (contents_from (ms ++ taken_of batch ms) batches)) (sym (after-append m (pending_of m batch) (chosen_of next choice batches))) later

-- .. and each of these is led to by a choice
pub record IsChosenFrom (n : Contents) (batches : List Batch) (ms : List Contents) : Type 0 where
  pub before : Contents
  pub among : IsAmong before ms
  pub choice : List Bool
  pub is : n ≡ after_batches before (chosen_of before choice batches)

pub chosen_from : (batches : List Batch) (ms : List Contents) (n : Contents) → IsAmong n (contents_from ms batches) → IsChosenFrom n batches ms
chosen_from [] ms n among = record { before = n; among = among; choice = []; is = refl }
chosen_from (batch ∷ batches) ms n among =
    let later = chosen_from batches (ms ++ taken_of batch ms) n among in
    ⊎_elim
    (λ kept. record { before = later.before; among = kept; choice = false ∷ later.choice; is = later.is })
    (λ taken. let at = taken_at later.before batch ms taken in record {
      before = at.before;
      among = at.among;
      choice = true ∷ later.choice;
      is = later.is ∙ ap (λ (m : Contents). after_batches m (chosen_of m later.choice batches)) at.is ∙ sym (after-append at.before (pending_of at.before batch) (chosen_of (after_batches at.before (pending_of at.before batch)) later.choice batches));
    })
    (among_cases later.before ms (taken_of batch ms) later.among)

-- a prefix of what is chosen is chosen too
pub prefix_chosen : (count : ℕ) (choice : List Bool) (batches : List Batch) (m : Contents) → (other : List Bool) × (take count (chosen_of m choice batches) ≡ chosen_of m other batches)
prefix_chosen zero choice batches m = ([], refl)
prefix_chosen (suc n) [] batches m = ([], refl)
prefix_chosen (suc n) (false ∷ choice) [] m = ([], refl)
prefix_chosen (suc n) (true ∷ choice) [] m = ([], refl)
prefix_chosen (suc n) (false ∷ choice) (batch ∷ batches) m = let rest = prefix_chosen (suc n) choice batches m in (false ∷ rest.0, rest.1)
prefix_chosen (suc n) (true ∷ choice) (batch ∷ batches) m =
    let next : Contents = after_batches m (pending_of m batch) in
    ⊎_elim
    (λ none. let rest = prefix_chosen (suc n) choice batches next in (true ∷ rest.0, ap (λ (bs : List Batch). take (suc n) (bs ++ chosen_of next choice batches)) none ∙ rest.1 ∙ sym (ap (λ (bs : List Batch). bs ++ chosen_of next rest.0 batches) none)))
    (λ one. let rest = prefix_chosen n choice batches next in (true ∷ rest.0, ap (λ (bs : List Batch). take (suc n) (bs ++ chosen_of next choice batches)) one.1 ∙ ap (λ (bs : List Batch). one.0 ∷ bs) rest.1 ∙ sym (ap (λ (bs : List Batch). bs ++ chosen_of next rest.0 batches) one.1)))
    (pending_cases m batch)

-- Prefixes.

pub before-append : (m : Contents) (xs ys : List Batch) → contents_before m (xs ++ ys) ≡ contents_before m xs ++ contents_before (after_batches m xs) ys
before-append m [] ys = refl
before-append m (x ∷ xs) ys = ap (λ (l : List Contents). m ∷ l) (before-append (after_batch m x) xs ys)

pub before_among : (count : ℕ) (batches : List Batch) (m : Contents) → count < length batches → IsAmong (after_batches m (take count batches)) (contents_before m batches)
before_among count [] m within = absurd (omega arith)
before_among zero (batch ∷ batches) m within = inl refl
before_among (suc n) (batch ∷ batches) m within = inr (before_among n batches (after_batch m batch) (omega arith))

pub among_before : (batches : List Batch) (m n : Contents) → IsAmong n (contents_before m batches) → (count : ℕ) × (count < length batches) × (n ≡ after_batches m (take count batches))
among_before [] m n in_none = absurd in_none
among_before (batch ∷ batches) m n (inl is) = (0, omega arith, is)
among_before (batch ∷ batches) m n (inr among) = let rest = among_before batches (after_batch m batch) n among in (suc rest.0, omega arith, rest.2)

-- Lists side by side.

pub zip_append : {A B : Type 0} (R : A → B → Type 0) (xs us : List A) (ys vs : List B) → AllZip R xs ys → AllZip R us vs → AllZip R (xs ++ us) (ys ++ vs)
zip_append R [] us [] vs first last = last
zip_append R [] us (y ∷ ys) vs first last = absurd first
zip_append R (x ∷ xs) us [] vs first last = absurd first
zip_append R (x ∷ xs) us (y ∷ ys) vs first last = (first.0, zip_append R xs us ys vs first.1 last)

any_next : {A : Type 0} (P : A → Type 0) (x : A) (xs : List A) → Any P xs → Any P (x ∷ xs)
any_next P x xs any = (suc any.0, any.1, omega (arith, any.2), any.3, any.4)

pub zip_any : {A B : Type 0} (R : A → B → Type 0) (xs : List A) (ys : List B) (y : B) → AllZip R xs ys → IsAmong y ys → Any (λ x. R x y) xs
zip_any R [] [] y zip among = absurd among
zip_any R [] (z ∷ ys) y zip among = absurd zip
zip_any R (x ∷ xs) [] y zip among = absurd among
zip_any R (x ∷ xs) (z ∷ ys) y zip (inl is) = (0, x, omega arith, refl, subst (R x) (sym is) zip.0)
zip_any R (x ∷ xs) (z ∷ ys) y zip (inr among) = any_next (λ a. R a y) x xs (zip_any R xs ys y zip.1 among)

pub zip_all : {A B : Type 0} (R : A → B → Type 0) (P : A → Type 0) (xs : List A) (ys : List B) → AllZip R xs ys → ((x : A) (y : B) → IsAmong y ys → R x y → P x) → AllByRecursion P xs
zip_all R P [] ys zip each = tt
zip_all R P (x ∷ xs) [] zip each = absurd zip
zip_all R P (x ∷ xs) (y ∷ ys) zip each = (each x y (inl refl) zip.0, zip_all R P xs ys zip.1 (λ a b among. each a b (inr among)))
