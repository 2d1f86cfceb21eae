-- The number that a group keeps, after batches with and without numbers.
use Rattle.std.proofs.Common.{◌≡◌, ℕ, ◌^◌, ◌<◌, ◌⊎◌, ◌&&◌, Bool, true, false, cond, nat_eq, nat_lt, List, [], ◌∷◌, Some, None, refl, sym, ◌∙◌, ap, subst, arith, inl, inr, append-nil}
use Rattle.std.specs.List.{list_any}
use Rattle.std.specs.Str.{bytes_eq}
use Rattle.std.proofs.lemmas.Bool.{and_parts, and_from, or_parts, cases_Bool, eqb-true, eq-eqb, ltb-true, le-leb, false_from_ne_true}
use Rattle.std.proofs.lemmas.List.Sums.{fold-append}
use Rattle.std.proofs.lemmas.Slice.Eq.{bytes_eq-Decides}
use Rattle.raft_codec.specs.Number.{take_u64, u64_bytes}
use Rattle.raft_codec.proofs.NumberLemmas.{take_u64-u64_bytes}
use Rattle.raft_records.specs.Contents.{Contents, after_batch, after_content, after_item, with_value}
use Rattle.raft_records.specs.Item.{Content, Entries, Clean, Compact, Put, Delete, Batch, group_mark_key}
use Rattle.raft_once.specs.Numbers.{Pair, are_new, are_old, changes_number, has_group_twice, has_numbers, is_number_key, number_in, number_item, number_items, number_key, number_of, numbered, whole_number}
use Rattle.raft_once.specs.History.{are_numbers, cleans, is_clean, numbers_for}
pub use Rattle.raft_once.proofs.BatchLemmas.{front_in, front_refusal, met_after_front, none_in_plain, not_met_after_front, numbered_refusal, plain_meets_none, plain_without_place}

-- Values.

pub number_in-u64_bytes : (n : ℕ) → n < 2 ^ 64 → number_in (Some (u64_bytes n)) ≡ n
number_in-u64_bytes n fits =
    let taken : take_u64 (u64_bytes n) ≡ Some (n, []) = ap take_u64 (sym (append-nil (u64_bytes n))) ∙ take_u64-u64_bytes n [] fits in
    ap whole_number taken

-- Items that change no number.

other_key : (key : List ℕ) → is_number_key key ≡ false → bytes_eq number_key key ≡ false
other_key key other = false_from_ne_true (bytes_eq number_key key) (λ same. at ((bytes_eq-Decides number_key key).0 same))
  where
    at : number_key ≡ key → ⊥
    at e = let here = (bytes_eq-Decides key number_key).1 (sym e) in cc

no_pick : {X : Type 0} (a b : Bool) (x y : X) → b ≡ false → cond (a && b) x y ≡ y
no_pick true b x y off = rw off refl
no_pick false b x y off = refl

content_keeps : (m : Contents) (group g : ℕ) (c : Content) → changes_number c ≡ false → (nat_eq g group && is_clean c) ≡ false → (after_content group c m).value g number_key ≡ m.value g number_key
content_keeps m group g (Entries es) plain kept = refl
content_keeps m group g Clean plain kept = at (nat_eq g group) kept
  where
    at : (b : Bool) → (b && true) ≡ false → cond b None (m.value g number_key) ≡ m.value g number_key
    at true off = absurd cc
    at false off = refl
content_keeps m group g (Compact index) plain kept = refl
content_keeps m group g (Put key value) plain kept = at (bytes_eq key group_mark_key)
  where
    at : (b : Bool) → (cond b m (with_value group key (Some value) m)).value g number_key ≡ m.value g number_key
    at true = refl
    at false = no_pick (nat_eq g group) (bytes_eq number_key key) (Some value) (m.value g number_key) (other_key key plain)
content_keeps m group g (Delete key) plain kept = no_pick (nat_eq g group) (bytes_eq number_key key) None (m.value g number_key) (other_key key plain)

batch_keeps : (m : Contents) (g : ℕ) (items : Batch) → has_numbers items ≡ false → cleans g items ≡ false → (after_batch m items).value g number_key ≡ m.value g number_key
batch_keeps m g [] plain kept = refl
batch_keeps m g (item ∷ items) plain kept =
    let a = or_parts (changes_number item.content) (has_numbers items) plain in
    let b = or_parts (nat_eq g item.group && is_clean item.content) (cleans g items) kept in
    batch_keeps (after_item m item) g items a.1 b.1 ∙ content_keeps m item.group g item.content a.0 b.0

-- a batch without numbers and without a clean
pub number_stays : (m : Contents) (g : ℕ) (items : Batch) → has_numbers items ≡ false → cleans g items ≡ false → number_of (after_batch m items) g ≡ number_of m g
number_stays m g items plain kept = ap number_in (batch_keeps m g items plain kept)

-- Items that keep numbers.

either_pick : {X : Type 0} (a : Bool) (x y : X) → cond (a && true) x y ≡ cond a x y
either_pick true x y = refl
either_pick false x y = refl

number_put : (m : Contents) (group g n : ℕ) → (after_content group (Put number_key (u64_bytes n)) m).value g number_key ≡ cond (nat_eq g group) (Some (u64_bytes n)) (m.value g number_key)
number_put m group g n = either_pick (nat_eq g group) (Some (u64_bytes n)) (m.value g number_key)

-- none for this group
others_keep : (m : Contents) (g : ℕ) (pairs : List Pair) → list_any (λ p. nat_eq g p.0) pairs ≡ false → (after_batch m (number_items pairs)).value g number_key ≡ m.value g number_key
others_keep m g [] none = refl
others_keep m g (p ∷ ps) none =
    let parts = or_parts (nat_eq g p.0) (list_any (λ q. nat_eq g q.0) ps) none in
    others_keep (after_item m (number_item p)) g ps parts.1 ∙ number_put m p.0 g p.1 ∙ ap (λ b. cond b (Some (u64_bytes p.1)) (m.value g number_key)) parts.0

none_for : (g : ℕ) (pairs : List Pair) → list_any (λ p. nat_eq g p.0) pairs ≡ false → numbers_for g pairs ≡ []
none_for g [] none = refl
none_for g (p ∷ ps) none =
    let parts = or_parts (nat_eq g p.0) (list_any (λ q. nat_eq g q.0) ps) none in
    rw parts.0 (none_for g ps parts.1)

-- pairs without this group
pub record IsGroupOut (g : ℕ) (pairs : List Pair) : Type 0 where
  pub numbers : numbers_for g pairs ≡ []
  pub none : list_any (λ p. nat_eq g p.0) pairs ≡ false

-- pairs with this group once, by this number
pub record IsGroupIn (m : Contents) (g : ℕ) (pairs : List Pair) (n : ℕ) : Type 0 where
  pub numbers : numbers_for g pairs ≡ n ∷ []
  pub greater : number_of m g < n
  pub fits : n < 2 ^ 64
  pub kept : (x : Contents) → (after_batch x (number_items pairs)).value g number_key ≡ Some (u64_bytes n)

-- each group stands in pairs of new numbers once or not at all
pub group_in_pairs : (m : Contents) (g : ℕ) (pairs : List Pair) → has_group_twice pairs ≡ false → are_numbers pairs ≡ true → are_new m pairs ≡ true → IsGroupOut g pairs ⊎ ((n : ℕ) × IsGroupIn m g pairs n)
group_in_pairs m g [] once numbers new = inl (record { numbers = refl; none = refl })
group_in_pairs m g (p ∷ ps) once numbers new =
    let o = or_parts (list_any (λ q. nat_eq p.0 q.0) ps) (has_group_twice ps) once in
    let f = and_parts (nat_lt p.1 (2 ^ 64)) (are_numbers ps) numbers in
    let w = and_parts (nat_lt (number_of m p.0) p.1) (are_new m ps) new in
    elim (cases_Bool (nat_eq g p.0)) [
      | inl same ↦
          let e : g ≡ p.0 = eqb-true g p.0 same in
          let none : list_any (λ q. nat_eq g q.0) ps ≡ false = subst (λ k. list_any (λ q. nat_eq k q.0) ps ≡ false) (sym e) o.0 in
          let below : number_of m g < p.1 = subst (λ k. number_of m k < p.1) (sym e) (ltb-true (number_of m p.0) p.1 w.0) in
          inr (
            p.1,
            record {
              numbers = rw (same, none_for g ps none) refl;
              greater = below;
              fits = ltb-true p.1 (2 ^ 64) f.0;
              kept = λ x. others_keep (after_item x (number_item p)) g ps none ∙ number_put x p.0 g p.1 ∙ ap (λ b. cond b (Some (u64_bytes p.1)) (x.value g number_key)) same;
            },
          )
      | inr other ↦ further p ps other (group_in_pairs m g ps o.1 f.1 w.1)
    ]
  where
    further : (p : Pair) (ps : List Pair) → nat_eq g p.0 ≡ false → (IsGroupOut g ps ⊎ ((n : ℕ) × IsGroupIn m g ps n)) → IsGroupOut g (p ∷ ps) ⊎ ((n : ℕ) × IsGroupIn m g (p ∷ ps) n)
    further p ps other (inl out) = inl (record { numbers = rw other out.numbers; none = rw other out.none })
    further p ps other (inr (n, within)) = inr (n, record { numbers = rw other within.numbers; greater = within.greater; fits = within.fits; kept = λ x. within.kept (after_item x (number_item p)) })

after_numbered : (m : Contents) (items : Batch) (pairs : List Pair) → after_batch m (numbered items pairs) ≡ after_batch (after_batch m items) (number_items pairs)
after_numbered m items pairs = fold-append after_item m items (number_items pairs)

-- the number of a group that stands in the pairs
pub number_raised : (m : Contents) (items : Batch) (pairs : List Pair) (x : Contents) (g n : ℕ) → IsGroupIn x g pairs n → number_of (after_batch m (numbered items pairs)) g ≡ n
number_raised m items pairs x g n within =
    ap (λ c. number_of c g) (after_numbered m items pairs) ∙ ap number_in (within.kept (after_batch m items)) ∙ number_in-u64_bytes n within.fits

-- .. and of one that doesn't
pub number_stays_beside : (m : Contents) (items : Batch) (pairs : List Pair) (g : ℕ) → has_numbers items ≡ false → cleans g items ≡ false → IsGroupOut g pairs → number_of (after_batch m (numbered items pairs)) g ≡ number_of m g
number_stays_beside m items pairs g plain kept out =
    ap (λ c. number_of c g) (after_numbered m items pairs) ∙ ap number_in (others_keep (after_batch m items) g pairs out.none) ∙ number_stays m g items plain kept

-- Pairs whose numbers acted are old.

-- each group keeps its number
number_at_end : (x : Contents) (p : Pair) (ps : List Pair) → list_any (λ q. nat_eq p.0 q.0) ps ≡ false → p.1 < 2 ^ 64 → number_of (after_batch x (number_items (p ∷ ps))) p.0 ≡ p.1
number_at_end x p ps none fits =
    ap number_in (others_keep (after_item x (number_item p)) p.0 ps none ∙ number_put x p.0 p.0 p.1 ∙ ap (λ b. cond b (Some (u64_bytes p.1)) (x.value p.0 number_key)) (eq-eqb p.0 p.0 refl)) ∙ number_in-u64_bytes p.1 fits

old_at_end : (x : Contents) (pairs : List Pair) → has_group_twice pairs ≡ false → are_numbers pairs ≡ true → are_old (after_batch x (number_items pairs)) pairs ≡ true
old_at_end x [] once numbers = refl
old_at_end x (p ∷ ps) once numbers =
    let o = or_parts (list_any (λ q. nat_eq p.0 q.0) ps) (has_group_twice ps) once in
    let f = and_parts (nat_lt p.1 (2 ^ 64)) (are_numbers ps) numbers in
    let is = number_at_end x p ps o.0 (ltb-true p.1 (2 ^ 64) f.0) in
    and_from _ _ (le-leb p.1 (number_of (after_batch x (number_items (p ∷ ps))) p.0) (omega (arith, is))) (old_at_end (after_item x (number_item p)) ps o.1 f.1)

pub old_after : (m : Contents) (items : Batch) (pairs : List Pair) → has_group_twice pairs ≡ false → are_numbers pairs ≡ true → are_old (after_batch m (numbered items pairs)) pairs ≡ true
old_after m items pairs once numbers = ap (λ c. are_old c pairs) (after_numbered m items pairs) ∙ old_at_end (after_batch m items) pairs once numbers
