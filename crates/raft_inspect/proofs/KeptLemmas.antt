-- Files that are listed, and those that are kept or passed over.
use Rattle.std.proofs.Common.{◌≡◌, ◌∙◌, ◌++◌, ◌+◌, ◌-◌, ◌^◌, ◌≤◌, ◌<◌, ℕ, suc, min, max, Bool, true, false, cond, List, [], ◌∷◌, length, length-append, map, ap, append-nil, arith, refl, sym}
use Rattle.std.specs.Prelude.{◌↔◌, ◌&&◌, not}
use Rattle.std.specs.List.{filter, fold, list_all, sum_by}
use Rattle.std.proofs.lemmas.List.{map-append}
use Rattle.std.proofs.lemmas.List.Elements.{filter-append}
use Rattle.std.proofs.lemmas.List.Sums.{count_by-le-length, fold_push, length-filter, sum_by_push}
use Rattle.raft_base.specs.declared.pipe_log.LogQueue.{LogQueue}
use Rattle.raft_dump.specs.Check.{numbers_of}
use Rattle.raft_dump.specs.declared.check.FileCheck.{FileCheck}
use Rattle.raft_inspect.specs.Kept.{holds_nothing, those_held}
use Rattle.raft_inspect.specs.declared.losses.Passed.{Passed}

-- one more holds nothing, or something
pub held_same : (front : List FileCheck) (c : FileCheck) → holds_nothing c ≡ true → those_held (front ++ c ∷ []) ≡ those_held front
held_same front c is =
    filter-append (λ x. not (holds_nothing x)) front (c ∷ []) ∙ ap (λ (b : Bool). those_held front ++ cond (not b) (c ∷ []) []) is ∙ append-nil (those_held front)

pub held_more : (front : List FileCheck) (c : FileCheck) → holds_nothing c ≡ false → those_held (front ++ c ∷ []) ≡ those_held front ++ c ∷ []
held_more front c is =
    filter-append (λ x. not (holds_nothing x)) front (c ∷ []) ∙ ap (λ (b : Bool). those_held front ++ cond (not b) (c ∷ []) []) is

-- none is counted just where none holds anything
pub none_held : (checks : List FileCheck) → (length (those_held checks) ≡ 0) ↔ (list_all holds_nothing checks ≡ true)
none_held [] = (λ none. refl, λ every. refl)
none_held (c ∷ checks) = one (none_held checks) (holds_nothing c) refl
  where
    one : (length (those_held checks) ≡ 0) ↔ (list_all holds_nothing checks ≡ true) → (b : Bool) → holds_nothing c ≡ b → (length (those_held (c ∷ checks)) ≡ 0) ↔ (list_all holds_nothing (c ∷ checks) ≡ true)
    one rest true is = (λ none. ap (λ (b : Bool). b && list_all holds_nothing checks) is ∙ rest.0 (sym (ap (λ (b : Bool). length (cond (not b) (c ∷ those_held checks) (those_held checks))) is) ∙ none), λ every. ap (λ (b : Bool). length (cond (not b) (c ∷ those_held checks) (those_held checks))) is ∙ rest.1 (sym (ap (λ (b : Bool). b && list_all holds_nothing checks) is) ∙ every))
    one rest false is = (λ none. absurd (let more : suc (length (those_held checks)) ≡ 0 = sym (ap (λ (b : Bool). length (cond (not b) (c ∷ those_held checks) (those_held checks))) is) ∙ none in omega (arith, more)), λ every. absurd (let clash : false ≡ true = sym (ap (λ (b : Bool). b && list_all holds_nothing checks) is) ∙ every in cc))

-- what is told of the files so far
pub record IsToldTo (queue : LogQueue) (front : List FileCheck) (p : Passed) : Type 0 where
  pub queue_is : p.queue ≡ queue
  pub files : p.files ≡ length (those_held front)
  pub bytes : p.bytes ≡ min (sum_by (λ (c : FileCheck). c.len) (those_held front)) (2 ^ 64 - 1)
  pub first : p.first ≡ fold min (2 ^ 64 - 1) (numbers_of (those_held front))
  pub last : p.last ≡ fold max 0 (numbers_of front)

least_more : (checks : List FileCheck) (c : FileCheck) → fold min (2 ^ 64 - 1) (numbers_of (checks ++ c ∷ [])) ≡ min (fold min (2 ^ 64 - 1) (numbers_of checks)) c.id.seq
least_more checks c = ap (fold min (2 ^ 64 - 1)) (map-append (λ (x : FileCheck). x.id.seq) checks (c ∷ [])) ∙ fold_push min (2 ^ 64 - 1) (numbers_of checks) c.id.seq

greatest_more : (checks : List FileCheck) (c : FileCheck) → fold max 0 (numbers_of (checks ++ c ∷ [])) ≡ max (fold max 0 (numbers_of checks)) c.id.seq
greatest_more checks c = ap (fold max 0) (map-append (λ (x : FileCheck). x.id.seq) checks (c ∷ [])) ∙ fold_push max 0 (numbers_of checks) c.id.seq

module _ {queue : LogQueue} {front : List FileCheck} {old : Passed} {new : Passed} where
  pub told_same : (c : FileCheck) → IsToldTo queue front old → holds_nothing c ≡ true → new.queue ≡ old.queue → new.last ≡ max old.last c.id.seq → (new.files ≡ old.files) × (new.bytes ≡ old.bytes) × (new.first ≡ old.first)
      → IsToldTo queue (front ++ c ∷ []) new
  told_same c told is queue_is last same =
      let held = held_same front c is in
      record {
        queue_is = queue_is ∙ told.queue_is;
        files = same.0 ∙ told.files ∙ sym (ap (λ (xs : List FileCheck). length xs) held);
        bytes = same.1 ∙ told.bytes ∙ sym (ap (λ (xs : List FileCheck). min (sum_by (λ (x : FileCheck). x.len) xs) (2 ^ 64 - 1)) held);
        first = same.2 ∙ told.first ∙ sym (ap (λ (xs : List FileCheck). fold min (2 ^ 64 - 1) (numbers_of xs)) held);
        last = last ∙ ap (λ (k : ℕ). max k c.id.seq) told.last ∙ sym (greatest_more front c);
      }

  pub told_more : (c : FileCheck) → IsToldTo queue front old → length front + 1 < 2 ^ 64 → holds_nothing c ≡ false → new.queue ≡ old.queue → new.last ≡ max old.last c.id.seq
      → (new.files ≡ min (suc old.files) (2 ^ 64 - 1)) × (new.bytes ≡ min (old.bytes + c.len) (2 ^ 64 - 1)) × (new.first ≡ min old.first c.id.seq) → IsToldTo queue (front ++ c ∷ []) new
  told_more c told short is queue_is last more =
      let held = held_more front c is in
      let fewer : length (those_held front) ≤ length front = le_length (λ x. not (holds_nothing x)) front in
      let count : length (those_held front ++ c ∷ []) ≡ length (those_held front) + 1 = length-append (those_held front) (c ∷ []) in
      let sum : sum_by (λ (x : FileCheck). x.len) (those_held front ++ c ∷ []) ≡ sum_by (λ (x : FileCheck). x.len) (those_held front) + c.len = sum_by_push (λ (x : FileCheck). x.len) (those_held front) c in
      let files : new.files ≡ length (those_held front ++ c ∷ []) = let is = more.0 in let was = told.files in omega (arith, is, was, fewer, count, short) in
      let bytes : new.bytes ≡ min (sum_by (λ (x : FileCheck). x.len) (those_held front ++ c ∷ [])) (2 ^ 64 - 1) = let is = more.1 in let was = told.bytes in omega (arith, is, was, sum) in
      record {
        queue_is = queue_is ∙ told.queue_is;
        files = files ∙ sym (ap (λ (xs : List FileCheck). length xs) held);
        bytes = bytes ∙ sym (ap (λ (xs : List FileCheck). min (sum_by (λ (x : FileCheck). x.len) xs) (2 ^ 64 - 1)) held);
        first = more.2 ∙ ap (λ (k : ℕ). min k c.id.seq) told.first ∙ sym (least_more (those_held front) c) ∙ sym (ap (λ (xs : List FileCheck). fold min (2 ^ 64 - 1) (numbers_of xs)) held);
        last = last ∙ ap (λ (k : ℕ). max k c.id.seq) told.last ∙ sym (greatest_more front c);
      }
    where
      le_length : (p : FileCheck → Bool) (xs : List FileCheck) → length (filter p xs) ≤ length xs
      le_length p xs = let counted = length-filter p xs in let within = count_by-le-length p xs in omega (arith, counted, within)
