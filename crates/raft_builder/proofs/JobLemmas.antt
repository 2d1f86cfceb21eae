-- What calls in threads give, job by job.
use Rattle.std.proofs.Common.{◌≡◌, ℕ, suc, ◌<◌, List, [], ◌∷◌, length, get_or, sym, subst, arith}
use Rattle.std.specs.Prelude.{Result, Ok, Err, IfOk}
use Rattle.std.specs.List.{AllZip}
use Rattle.std.specs.Fork.{GivesJobs}
use denote.Param.Members.{Shared}

pub if_ok_both : {T E : Type 0} (r : Result T E) (P Q S : T → Type 0) → ((v : T) → P v → Q v → S v) → IfOk r P → IfOk r Q → IfOk r S
if_ok_both (Ok v) P Q S both p q = both v p q
if_ok_both (Err e) P Q S both p q = tt

-- what holds at each place of two lists of one length
pub zip_from_places : {A B : Type 0} (R : A → B → Type 0) (xs : List A) (ys : List B) → length ys ≡ length xs → ((i : ℕ) (d : A) (e : B) → i < length xs → R (get_or xs i d) (get_or ys i e)) → AllZip R xs ys
zip_from_places R [] [] len each = tt
zip_from_places R [] (y ∷ ys) len each = cc
zip_from_places R (x ∷ xs) [] len each = cc
zip_from_places R (x ∷ xs) (y ∷ ys) len each = (each 0 x y (omega arith), zip_from_places R xs ys (omega (arith, len)) (λ i d e lt. each (suc i) d e (omega (arith, lt))))

-- .. of jobs and what calls gave of them
pub zip_from_jobs : {F J X : Type 0} (g : Shared F (J × Unit {0}) X) (f : F) (R : J → X → Type 0) → ((job : J) (x : X) → g.post f (job, tt) x → R job x)
    → (jobs : List J) (xs : List X) → length xs ≡ length jobs → GivesJobs g f jobs xs → AllZip R jobs xs
zip_from_jobs g f R gives jobs xs len each = zip_from_places R jobs xs len (λ i d e lt.
    let h = (each i e lt).1 in
    subst (λ j. R j (get_or xs i e)) (sym (h.job_is d)) (gives h.job (get_or xs i e) h.call.met))
