-- Images of what contents take of a batch, one place after the other.
use Rattle.std.proofs.Common.{◌≡◌, ℕ, zero, suc, ◌+◌, ◌<◌, ◌≤◌, Bool, true, false, cond, List, [], ◌∷◌, ◌++◌, length, map, take, drop, get_or, None, refl, sym, ◌∙◌, ap, subst, arith}
use Rattle.std.specs.Prelude.{is_none}
use Rattle.std.specs.List.{AllZip}
use Rattle.std.specs.declared.cmp.Ordering.{Ordering}
use Rattle.std.proofs.lemmas.List.{append-nil, flat_map_more, take_all}
use Rattle.raft_records.specs.Contents.{Contents, after_batch}
use Rattle.raft_records.specs.Item.{Batch}
use Rattle.raft_records.specs.Validity.{batch_refusal}
use Rattle.raft_crash_laws.specs.Crash.{pending_of}
use Rattle.raft_log_engine.specs.declared.engine.image.Image.{Image}
use Rattle.raft_allowed.specs.Held.{IsHeldBy, between, is_nil}
use Rattle.raft_allowed.specs.Walk.{AreHeldBy, contents_from, taken_of}
use Rattle.raft_allowed.proofs.ChoiceLemmas.{zip_append}
use Rattle.raft_allowed.proofs.LoopLemmas.{ahead}

-- no bounds
pub between_all : {K V : Type 0} (cmp : K → K → Ordering) (es : List (K × V)) → between cmp None None es ≡ es
between_all cmp [] = refl
between_all cmp (e ∷ es) = ap (λ l. e ∷ l) (between_all cmp es)

-- what stands at a place of two lists side by side
pub record IsAtPlace {A B : Type 0} (R : A → B → Type 0) (x : A) (ys : List B) (place : ℕ) : Type 0 where
  pub other : B
  pub are : R x other
  pub taken : take (suc place) ys ≡ take place ys ++ other ∷ []

pub zip_at : {A B : Type 0} (R : A → B → Type 0) (xs : List A) (ys : List B) (place : ℕ) (x : A) → AllZip R xs ys → place < length xs → x ≡ get_or xs place x → IsAtPlace R x ys place
zip_at R [] ys place x zip within is = absurd (omega arith)
zip_at R (a ∷ xs) [] place x zip within is = absurd zip
zip_at R (a ∷ xs) (b ∷ ys) zero x zip within is = record { other = b; are = subst (λ c. R c b) (sym is) zip.0; taken = refl }
zip_at R (a ∷ xs) (b ∷ ys) (suc n) x zip within is =
    let rest = zip_at R xs ys n x zip.1 (omega arith) is in
    record { other = rest.other; are = rest.are; taken = ap (λ l. b ∷ l) rest.taken }

-- of a batch with items what is pending is the batch, where it is taken
pending_some : (m : Contents) (batch : Batch) → is_nil batch ≡ false → pending_of m batch ≡ cond (is_none (batch_refusal m batch)) (batch ∷ []) []
pending_some m [] some = cc
pending_some m (item ∷ items) some = refl

-- an image more, where it is taken
pub taken_step : (batch : Batch) (ms : List Contents) (taken found new : List Image) (place : ℕ) (image applied : Image) (fits : Bool) → is_nil batch ≡ false → AreHeldBy found ms → place < length found → image ≡ get_or found place image
    → AreHeldBy taken (taken_of batch (take place ms)) → ((m : Contents) → IsHeldBy m image.groups.items → IsHeldBy (after_batch m batch) applied.groups.items × (fits ≡ is_none (batch_refusal m batch))) → new ≡ taken ++ cond fits (applied ∷ []) []
    → AreHeldBy new (taken_of batch (take (place + 1) ms))
taken_step batch ms taken found new place image applied fits some are within is so_far step pushed =
    let R : Image → Contents → Type 0 = λ i m. IsHeldBy m i.groups.items in
    let at = zip_at R found ms place image are within is in
    let after = step at.other at.are in
    let next : place + 1 ≡ suc place = omega arith in
    let whole : taken_of batch (take (place + 1) ms) ≡ taken_of batch (take place ms) ++ map (after_batch at.other) (pending_of at.other batch) =
    ap (λ (n : ℕ). taken_of batch (take n ms)) next ∙ ap (taken_of batch) at.taken ∙ sym (flat_map_more (λ m. map (after_batch m) (pending_of m batch)) [] (take place ms) at.other) in
    let pending : map (after_batch at.other) (pending_of at.other batch) ≡ map (after_batch at.other) (cond fits (batch ∷ []) []) =
    ap (map (after_batch at.other)) (pending_some at.other batch some ∙ ap (λ b. cond b (batch ∷ []) []) (sym after.1)) in
    subst (λ (l : List Image). AreHeldBy l (taken_of batch (take (place + 1) ms))) (sym pushed)
    (subst (AreHeldBy (taken ++ cond fits (applied ∷ []) [])) (sym (whole ∙ ap (λ l. taken_of batch (take place ms) ++ l) pending))
    (zip_append R taken (cond fits (applied ∷ []) []) (taken_of batch (take place ms)) (map (after_batch at.other) (cond fits (batch ∷ []) [])) so_far (one fits at.other after.0)))
  where
    one : (b : Bool) (m : Contents) → IsHeldBy (after_batch m batch) applied.groups.items → AreHeldBy (cond b (applied ∷ []) []) (map (after_batch m) (cond b (batch ∷ []) []))
    one true m held = (held, tt)
    one false m held = tt

-- a batch without items is taken by none
taken_none : (ms : List Contents) → taken_of [] ms ≡ []
taken_none [] = refl
taken_none (m ∷ ms) = taken_none ms

pub none_taken : (found : List Image) (ms : List Contents) (batch : Batch) → batch ≡ [] → AreHeldBy found ms → AreHeldBy found (ms ++ taken_of batch ms)
none_taken found ms batch empty are =
    let same : ms ≡ ms ++ taken_of batch ms = sym (append-nil ms) ∙ ap (λ (l : List Contents). ms ++ l) (sym (taken_none ms)) ∙ ap (λ (b : Batch). ms ++ taken_of b ms) (sym empty) in
    subst (AreHeldBy found) same are

pub taken_behind : (found taken new : List Image) (ms : List Contents) (batch : Batch) → new ≡ found ++ taken → AreHeldBy found ms → AreHeldBy taken (taken_of batch ms) → AreHeldBy new (ms ++ taken_of batch ms)
taken_behind found taken new ms batch is are more =
    subst (λ (l : List Image). AreHeldBy l (ms ++ taken_of batch ms)) (sym is) (zip_append (λ image m. IsHeldBy m image.groups.items) found taken ms (taken_of batch ms) are more)

-- the batches from a place on
pub flight_more : {X : Type 0} (f : X → Batch) (ms : List Contents) (whole : List Contents) (xs : List X) (i : ℕ) (x : X) → i < length xs → x ≡ get_or xs i x → contents_from ms (map f (drop i xs)) ≡ whole → contents_from (ms ++ taken_of (f x) ms) (map f (drop (i + 1) xs)) ≡ whole
flight_more {X} f ms whole xs i x within is so = sym (ap (λ (l : List X). contents_from ms (map f l)) (ahead xs i x within is)) ∙ so

-- one image of one
pub one_held : (m : Contents) (image : Image) (found : List Image) → found ≡ image ∷ [] → IsHeldBy m image.groups.items → AreHeldBy found (m ∷ [])
one_held m image found is held = subst (λ (l : List Image). AreHeldBy l (m ∷ [])) (sym is) (held, tt)

-- lists side by side are as long
pub zip_len : {A B : Type 0} (R : A → B → Type 0) (xs : List A) (ys : List B) → AllZip R xs ys → length xs ≡ length ys
zip_len R [] [] zip = refl
zip_len R [] (y ∷ ys) zip = absurd zip
zip_len R (x ∷ xs) [] zip = absurd zip
zip_len R (x ∷ xs) (y ∷ ys) zip = ap suc (zip_len R xs ys zip.1)

pub taken_all : (batch : Batch) (found taken : List Image) (ms : List Contents) (place : ℕ) → length found ≤ place → AreHeldBy found ms → AreHeldBy taken (taken_of batch (take place ms)) → AreHeldBy taken (taken_of batch ms)
taken_all batch found taken ms place past are so =
    let same : length found ≡ length ms = zip_len (λ (i : Image) (m : Contents). IsHeldBy m i.groups.items) found ms are in
    let all : length ms ≤ place = omega arith in
    subst (λ (l : List Contents). AreHeldBy taken (taken_of batch l)) (take_all place ms all) so
