-- The places that entries get when a part of them is written again.
use Rattle.std.proofs.Common.{◌≡◌, ℕ, ◌+◌, ◌<◌, ◌==◌, ◌&&◌, true, false, cond, List, [], ◌∷◌, ◌++◌, map, Option, refl, sym, ◌∙◌, ap, append_assoc, subst, arith}
use Rattle.std.proofs.lemmas.Bool.{and_parts}
use Rattle.std.proofs.lemmas.Bool.Decides.{nat_tests}
use Rattle.raft_records.specs.declared.entry_index.EntryPlace.{EntryPlace}
use Rattle.raft_records.specs.Validity.{are_consecutive_from}
use Rattle.raft_tables.specs.MovedEntries.{entries_moved, entry_moved, may_move_from}
use Rattle.raft_index_laws.specs.Rewriting.{GetPlaces}
use Rattle.raft_recovery_laws.proofs.EachLemmas.{consecutive_parts}

other_test : (a b : ℕ) → a < b → (a == b) ≡ false
other_test a b is = grind (arith, nat_tests)

above_test : (a b : ℕ) → b < a → (a == b) ≡ false
above_test a b is = grind (arith, nat_tests)

same_test : (a b : ℕ) → a ≡ b → (a == b) ≡ true
same_test a b is = grind (arith, nat_tests)

stays : (watermark : Option ℕ) (new e : ℕ × EntryPlace) → (e.0 == new.0) ≡ false → entry_moved watermark new e ≡ e
stays watermark new e other = ap (λ b. cond (b && may_move_from watermark e.1) (e.0, new.1) e) other

stay_above : (watermark : Option ℕ) (new : ℕ × EntryPlace) (n : ℕ) (es : List (ℕ × EntryPlace)) → new.0 < n → are_consecutive_from n es ≡ true → map (entry_moved watermark new) es ≡ es
stay_above watermark new n [] low run = refl
stay_above watermark new n (e ∷ es) low run =
    let parts = consecutive_parts n e es run in
    ap (λ x. x ∷ map (entry_moved watermark new) es) (stays watermark new e (above_test e.0 new.0 (omega (arith, parts.0, low)))) ∙ ap (λ xs. e ∷ xs) (stay_above watermark new (n + 1) es (omega (arith, low)) parts.1)

one_moves : (watermark : Option ℕ) (new : ℕ × EntryPlace) (n : ℕ) (pre : List (ℕ × EntryPlace)) (m : ℕ × EntryPlace) (rest : List (ℕ × EntryPlace)) → are_consecutive_from n (pre ++ m ∷ rest) ≡ true → new.0 ≡ m.0 → may_move_from watermark m.1 ≡ true
    → map (entry_moved watermark new) (pre ++ m ∷ rest) ≡ pre ++ new ∷ rest
one_moves watermark new n [] m rest run same may =
    let parts = consecutive_parts n m rest run in
    let here : entry_moved watermark new m ≡ new = ap (λ b. cond (b && may_move_from watermark m.1) (m.0, new.1) m) (same_test m.0 new.0 (sym same)) ∙ ap (λ b. cond b (m.0, new.1) m) may ∙ ap (λ (k : ℕ). (k, new.1)) (sym same) in
    ap (λ x. x ∷ map (entry_moved watermark new) rest) here ∙ ap (λ xs. new ∷ xs) (stay_above watermark new (n + 1) rest (omega (arith, parts.0, same)) parts.1)
one_moves watermark new n (p ∷ pre) m rest run same may =
    let parts = consecutive_parts n p (pre ++ m ∷ rest) run in
    ap (λ x. x ∷ map (entry_moved watermark new) (pre ++ m ∷ rest)) (stays watermark new p (other_test p.0 new.0 (omega (arith, parts.0, same, at_or_behind (n + 1) pre m rest parts.1))))
    ∙ ap (λ xs. p ∷ xs) (one_moves watermark new (n + 1) pre m rest parts.1 same may)
  where
    at_or_behind : (k : ℕ) (xs : List (ℕ × EntryPlace)) (y : ℕ × EntryPlace) (ys : List (ℕ × EntryPlace)) → are_consecutive_from k (xs ++ y ∷ ys) ≡ true → k < y.0 + 1
    at_or_behind k [] y ys run = let parts = consecutive_parts k y ys run in omega (arith, parts.0)
    at_or_behind k (x ∷ xs) y ys run = let parts = consecutive_parts k x (xs ++ y ∷ ys) run in omega (arith, at_or_behind (k + 1) xs y ys parts.1)

-- the indexes are those of the new ones
renumbered : (n : ℕ) (pre : List (ℕ × EntryPlace)) (m new : ℕ × EntryPlace) (rest : List (ℕ × EntryPlace)) → new.0 ≡ m.0 → are_consecutive_from n (pre ++ m ∷ rest) ≡ true → are_consecutive_from n (pre ++ new ∷ rest) ≡ true
renumbered n [] m new rest same run = subst (λ k. ((k == n) && are_consecutive_from (n + 1) rest) ≡ true) (sym same) run
renumbered n (p ∷ pre) m new rest same run =
    let parts = and_parts (p.0 == n) (are_consecutive_from (n + 1) (pre ++ m ∷ rest)) run in
    ap (λ b. b && are_consecutive_from (n + 1) (pre ++ new ∷ rest)) parts.0 ∙ renumbered (n + 1) pre m new rest same parts.1

pub middle_moves : (watermark : Option ℕ) (n : ℕ) (pre mid new post : List (ℕ × EntryPlace)) → are_consecutive_from n (pre ++ (mid ++ post)) ≡ true → GetPlaces watermark mid new
    → entries_moved watermark new (pre ++ (mid ++ post)) ≡ pre ++ (new ++ post)
middle_moves watermark n pre [] [] post run gets = refl
middle_moves watermark n pre [] (x ∷ new) post run gets = absurd gets
middle_moves watermark n pre (m ∷ mid) [] post run gets = absurd gets
middle_moves watermark n pre (m ∷ mid) (x ∷ new) post run gets =
    ap (entries_moved watermark new) (one_moves watermark x n pre m (mid ++ post) run gets.0 gets.1)
    ∙ ap (entries_moved watermark new) (sym (append_assoc pre (x ∷ []) (mid ++ post)))
    ∙ middle_moves watermark n (pre ++ x ∷ []) mid new post (subst (λ xs. are_consecutive_from n xs ≡ true) (sym (append_assoc pre (x ∷ []) (mid ++ post))) (renumbered n pre m x (mid ++ post) gets.0 run)) gets.2
    ∙ append_assoc pre (x ∷ []) (new ++ post)
