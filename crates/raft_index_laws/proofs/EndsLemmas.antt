-- The ends of the Append queue.
use Rattle.std.proofs.Common.{◌≡◌, ℕ, ◌≤◌, ◌&&◌, Bool, true, false, cond, List, [], ◌∷◌, ◌++◌, refl, sym, ◌∙◌, ap, arith, rules}
use Rattle.std.specs.Prelude.{nat_le}
use Rattle.std.specs.List.{list_all}
use Rattle.std.proofs.lemmas.Bool.{false≢true}
use Rattle.std.proofs.lemmas.Bool.Decides.{nat_tests}
use Rattle.raft_records.specs.Item.{Item, Batch}
use Rattle.raft_recovery_laws.specs.Recovered.{items_of}
use Rattle.raft_records.specs.FileBatches.{FileBatch, batches_of, from_file}

-- each item from a file on passes a test
abbrev pub pass_from : (Item → Bool) → List FileBatch → ℕ → Bool
pass_from p appended seq = list_all p (items_of (batches_of (from_file seq appended)))

pass-append : (p : Item → Bool) (is js : List Item) → list_all p (is ++ js) ≡ (list_all p is && list_all p js)
pass-append p [] js = refl
pass-append p (i ∷ is) js = ap (λ b. p i && b) (pass-append p is js) ∙ assoc (p i) (list_all p is) (list_all p js)
  where
    assoc : (a b c : Bool) → (a && (b && c)) ≡ ((a && b) && c)
    assoc true b c = refl
    assoc false b c = refl

pass-cons : (p : Item → Bool) (b : FileBatch) (appended : List FileBatch) (seq : ℕ) → pass_from p (b ∷ appended) seq ≡ (cond (nat_le seq b.0) (list_all p b.1) true && pass_from p appended seq)
pass-cons p b appended seq = at (nat_le seq b.0)
  where
    at : (c : Bool) → list_all p (items_of (batches_of (cond c (b ∷ from_file seq appended) (from_file seq appended)))) ≡ (cond c (list_all p b.1) true && pass_from p appended seq)
    at true = pass-append p b.1 (items_of (batches_of (from_file seq appended)))
    at false = refl

pub pass-push : (p : Item → Bool) (appended : List FileBatch) (last : ℕ) (batch : Batch) (seq : ℕ) → pass_from p (appended ++ (last, batch) ∷ []) seq ≡ (pass_from p appended seq && cond (nat_le seq last) (list_all p batch) true)
pass-push p [] last batch seq = pass-cons p (last, batch) [] seq ∙ and_true (cond (nat_le seq last) (list_all p batch) true)
  where
    and_true : (b : Bool) → (b && true) ≡ b
    and_true true = refl
    and_true false = refl
pass-push p (b ∷ appended) last batch seq =
    pass-cons p b (appended ++ (last, batch) ∷ []) seq
    ∙ ap (λ c. cond (nat_le seq b.0) (list_all p b.1) true && c) (pass-push p appended last batch seq)
    ∙ assoc (cond (nat_le seq b.0) (list_all p b.1) true) (pass_from p appended seq) (cond (nat_le seq last) (list_all p batch) true)
    ∙ ap (λ c. c && cond (nat_le seq last) (list_all p batch) true) (sym (pass-cons p b appended seq))
  where
    assoc : (a b c : Bool) → (a && (b && c)) ≡ ((a && b) && c)
    assoc true b c = refl
    assoc false b c = refl

le_trans_test : (a b c : ℕ) → a ≤ b → nat_le b c ≡ true → nat_le a c ≡ true
le_trans_test a b c le is = grind (arith, nat_tests)

-- an end within an end leaves at least as much alone
pub pass-later : (p : Item → Bool) (appended : List FileBatch) (first seq : ℕ) → first ≤ seq → pass_from p appended seq ≡ false → pass_from p appended first ≡ false
pass-later p [] first seq le is = is
pass-later p (b ∷ appended) first seq le is =
    pass-cons p b appended first ∙ at (nat_le first b.0) (nat_le seq b.0) (list_all p b.1) (pass_from p appended first) (pass_from p appended seq)
    (λ later. le_trans_test first seq b.0 le later) (λ none. pass-later p appended first seq le none) (sym (pass-cons p b appended seq) ∙ is)
  where
    at : (early late batch rest_first rest_seq : Bool) → (late ≡ true → early ≡ true) → (rest_seq ≡ false → rest_first ≡ false) → (cond late batch true && rest_seq) ≡ false → (cond early batch true && rest_first) ≡ false
    at true true true f s implies rest none = rest none
    at true true false f s implies rest none = refl
    at true false true f s implies rest none = rest none
    at true false false f s implies rest none = refl
    at false true batch f s implies rest none = absurd (false≢true (implies refl))
    at false false batch f s implies rest none = rest none

-- an end of an end
pub from_from : (first seq : ℕ) (appended : List FileBatch) → first ≤ seq → from_file seq (from_file first appended) ≡ from_file seq appended
from_from first seq [] le = refl
from_from first seq (b ∷ appended) le = at (nat_le first b.0) (nat_le seq b.0) refl refl (from_from first seq appended le)
  where
    at : (early late : Bool) → nat_le first b.0 ≡ early → nat_le seq b.0 ≡ late → from_file seq (from_file first appended) ≡ from_file seq appended
        → from_file seq (cond early (b ∷ from_file first appended) (from_file first appended)) ≡ cond late (b ∷ from_file seq appended) (from_file seq appended)
    at true true is_early is_late rest = ap (λ c. cond c (b ∷ from_file seq (from_file first appended)) (from_file seq (from_file first appended))) is_late ∙ ap (λ bs. b ∷ bs) rest
    at true false is_early is_late rest = ap (λ c. cond c (b ∷ from_file seq (from_file first appended)) (from_file seq (from_file first appended))) is_late ∙ rest
    at false true is_early is_late rest = absurd (false≢true (sym is_early ∙ le_trans_test first seq b.0 le is_late))
    at false false is_early is_late rest = rest

-- all of it
pub from_none : (appended : List FileBatch) → from_file 0 appended ≡ appended
from_none [] = refl
from_none (b ∷ appended) = ap (λ c. cond c (b ∷ from_file 0 appended) (from_file 0 appended)) (le_zero b.0) ∙ ap (λ bs. b ∷ bs) (from_none appended)
  where
    le_zero : (n : ℕ) → nat_le 0 n ≡ true
    le_zero n = search rules
