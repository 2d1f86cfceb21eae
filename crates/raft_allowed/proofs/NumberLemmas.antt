-- The numbers that groups keep, and which are new.
use Rattle.std.proofs.Common.{◌≡◌, ℕ, ◌+◌, ◌<◌, Bool, true, false, cond, List, [], ◌∷◌, length, drop, get_or, Option, Some, sym, ◌∙◌, ap, add-one, drop-cons}
use Rattle.std.specs.Prelude.{◌&&◌, nat_lt, Vec}
use Rattle.std.specs.Map.{lookup}
use Rattle.std.specs.Str.{bytes_eq}
use Rattle.std.specs.Cmp.Lexicographic.{nat_list_eq_equiv}
use Rattle.std.specs.declared.alloc.Global.{Global}
use Rattle.std.proofs.lemmas.Bool.{cond-true, cond-false}
use Rattle.raft_once.specs.History.{are_numbers}
use Rattle.raft_once.specs.Numbers.{Pair, are_new, are_unfit, has_numbers, is_number_key, number_in, number_key, number_of, numbered}
use Rattle.raft_records.specs.Contents.{Contents}
use Rattle.raft_records.specs.Item.{Batch}
use Rattle.raft_tables.specs.Listing.{listed}
use Rattle.raft_log_engine.specs.Once.{acting_batch}
use Rattle.raft_script.specs.Batches.{once_batch}
use Rattle.raft_log_engine.specs.declared.engine.image.GroupImage.{GroupImage}
use Rattle.raft_allowed.specs.Held.{IsHeldBy, held_at, held_of, kept_of}

-- what a group keeps is told from its pairs
pub kept_is : (m : Contents) (images : List GroupImage) (group : ℕ) → IsHeldBy m images → kept_of (held_at group (held_of images)) ≡ number_of m group
kept_is m images group held = ap number_in ((held.each group).keys.value number_key)

-- the number at a place is new, or isn't
told_at : (m : Contents) (images : List GroupImage) (pair : Pair) (kept : ℕ) (b : Bool) → IsHeldBy m images → kept ≡ kept_of (held_at pair.0 (held_of images)) → nat_lt kept pair.1 ≡ b → nat_lt (number_of m pair.0) pair.1 ≡ b
told_at m images pair kept b held keeps told = ap (λ (n : ℕ). nat_lt n pair.1) (sym (keeps ∙ kept_is m images pair.0 held)) ∙ told

ahead_at : (m : Contents) (pairs : List Pair) (i : ℕ) (d : Pair) → i < length pairs → are_new m (drop i pairs) ≡ (nat_lt (number_of m (get_or pairs i d).0) (get_or pairs i d).1 && are_new m (drop (i + 1) pairs))
ahead_at m pairs i d within = ap (are_new m) (drop-cons pairs i d within) ∙ ap (λ (n : ℕ). nat_lt (number_of m (get_or pairs i d).0) (get_or pairs i d).1 && are_new m (drop n pairs)) (sym (add-one i))

pub new_at : (m : Contents) (images : List GroupImage) (pairs : List Pair) (i : ℕ) (d : Pair) (kept : ℕ) → IsHeldBy m images → i < length pairs → kept ≡ kept_of (held_at (get_or pairs i d).0 (held_of images)) → nat_lt kept (get_or pairs i d).1 ≡ true → are_new m (drop i pairs) ≡ are_new m pairs
    → are_new m (drop (i + 1) pairs) ≡ are_new m pairs
new_at m images pairs i d kept held within keeps told so =
    sym (ap (λ b. b && are_new m (drop (i + 1) pairs)) (told_at m images (get_or pairs i d) kept true held keeps told)) ∙ sym (ahead_at m pairs i d within) ∙ so

pub old_at : (m : Contents) (images : List GroupImage) (pairs : List Pair) (i : ℕ) (d : Pair) (kept : ℕ) → IsHeldBy m images → i < length pairs → kept ≡ kept_of (held_at (get_or pairs i d).0 (held_of images)) → nat_lt kept (get_or pairs i d).1 ≡ false → are_new m (drop i pairs) ≡ are_new m pairs
    → false ≡ are_new m pairs
old_at m images pairs i d kept held within keeps told so =
    sym (ap (λ b. b && are_new m (drop (i + 1) pairs)) (told_at m images (get_or pairs i d) kept false held keeps told)) ∙ sym (ahead_at m pairs i d within) ∙ so

-- at the first of pairs the key is found, or it isn't
abbrev pub Stored : Type 0
Stored = Vec ℕ Global × Vec ℕ Global

same_test : (key : List ℕ) (b : Bool) → is_number_key key ≡ b → bytes_eq number_key key ≡ b
same_test key b is = nat_list_eq_equiv.symm number_key key ∙ is

pub found_first : (pair : Stored) (pairs : List Stored) → is_number_key pair.0.items ≡ true → lookup (bytes_eq number_key) (listed (pair ∷ pairs)) ≡ Some pair.1.items
found_first pair pairs is = cond-true (bytes_eq number_key pair.0.items) (Some pair.1.items) (lookup (bytes_eq number_key) (listed pairs)) (same_test pair.0.items true is)

pub found_later : (pair : Stored) (pairs : List Stored) → is_number_key pair.0.items ≡ false → lookup (bytes_eq number_key) (listed (pair ∷ pairs)) ≡ lookup (bytes_eq number_key) (listed pairs)
found_later pair pairs is = cond-false (bytes_eq number_key pair.0.items) (Some pair.1.items) (lookup (bytes_eq number_key) (listed pairs)) (same_test pair.0.items false is)

-- Whether a write acts.

pub unfit_acts : (m : Contents) (items : Batch) (pairs : List Pair) → are_unfit pairs ≡ true → acting_batch m items pairs ≡ []
unfit_acts m items pairs unfit = ap (λ b. cond b [] (cond (has_numbers items) [] (cond (are_new m pairs) (numbered items pairs) []))) unfit

pub numbers_act : (m : Contents) (items : Batch) (pairs : List Pair) → are_unfit pairs ≡ false → has_numbers items ≡ true → acting_batch m items pairs ≡ []
numbers_act m items pairs fit numbers =
    ap (λ b. cond b [] (cond (has_numbers items) [] (cond (are_new m pairs) (numbered items pairs) []))) fit
    ∙ ap (λ b. cond b [] (cond (are_new m pairs) (numbered items pairs) [])) numbers

pub new_acts : (m : Contents) (items : Batch) (pairs : List Pair) (b : Bool) → are_unfit pairs ≡ false → has_numbers items ≡ false → b ≡ are_new m pairs → acting_batch m items pairs ≡ cond b (numbered items pairs) []
new_acts m items pairs b fit plain told =
    ap (λ x. cond x [] (cond (has_numbers items) [] (cond (are_new m pairs) (numbered items pairs) []))) fit
    ∙ ap (λ x. cond x [] (cond (are_new m pairs) (numbered items pairs) [])) plain
    ∙ ap (λ x. cond x (numbered items pairs) []) (sym told)

-- .. of the acts that it is of
pub once_is : (m : Contents) (made : Option Batch) (items : Batch) (pairs : List Pair) (batch : Batch) → are_numbers pairs ≡ true → made ≡ Some items → acting_batch m items pairs ≡ batch → batch ≡ once_batch m made pairs
once_is m made items pairs batch fit is acts =
    sym (ap (λ (o : Option Batch). once_batch m o pairs) is ∙ ap (λ b. cond b (acting_batch m items pairs) []) fit ∙ acts)
