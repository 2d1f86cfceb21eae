-- What a part tells of the bytes that it is of.
use Rattle.std.proofs.Common.{◌≡◌, ◌∙◌, ◌≤◌, ℕ, List, drop, take, Option, Some, None, Result, Ok, Err, ap}
use Rattle.std.specs.Option.{IfSome}
use Rattle.std.specs.Result.{IfOk}
use Rattle.raft_dump.specs.Parts.{IsPartOf, IsWanted}
use Rattle.raft_dump.specs.declared.part_source.FilePart.{FilePart}

pub bytes_of_part : (bytes : List ℕ) (part : FilePart) (at len : ℕ) → part.at ≡ at → part.len ≡ len → IsPartOf bytes part → part.bytes.items ≡ take len (drop at bytes)
bytes_of_part bytes part at len at_is len_is is = is ∙ ap (λ (n : ℕ). take n (drop part.at bytes)) len_is ∙ ap (λ (n : ℕ). take len (drop n bytes)) at_is

-- what follows from what holds of a value
pub if_ok-map : {T E : Type 0} {P Q : T → Type 0} (r : Result T E) → ((t : T) → P t → Q t) → IfOk r P → IfOk r Q
if_ok-map (Ok t) f p = f t p
if_ok-map (Err e) f p = tt

pub some_is_none : {A : Type 0} {x : A} → Some x ≡ None → ⊥
some_is_none e = cc

-- no more is wanted than the file has
pub wanted_within : (left : ℕ) (front : List ℕ) (o : Option ℕ) → IsWanted left front o → IfSome o (λ w. w ≤ left)
wanted_within left front None w = tt
wanted_within left front (Some n) w = w.1
