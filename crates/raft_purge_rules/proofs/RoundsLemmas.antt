-- One more group of those that are asked for.
use Rattle.std.proofs.Common.{◌≡◌, ◌==◌, ℕ, Bool, true, false, cond, refl, rules}
use Rattle.std.specs.Prelude.{◌||◌}

pub same_at : (f : ℕ → ℕ) (a b m : ℕ) → cond (a == b) (f a) m ≡ cond (a == b) (f b) m
same_at f a b m = search rules

pub cond-or : (b rest : Bool) (n m r : ℕ) → cond (b || rest) n m ≡ r → cond rest n (cond b n m) ≡ r
cond-or true true n m r is = is
cond-or true false n m r is = is
cond-or false true n m r is = is
cond-or false false n m r is = is
