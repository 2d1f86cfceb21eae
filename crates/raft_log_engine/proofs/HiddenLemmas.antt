-- What reads show of contents, and lists without the groups' numbers.
use Rattle.std.proofs.Common.{◌≡◌, ◌∙◌, ℕ, Bool, true, false, cond, not, List, [], ◌∷◌, map, Option, None, refl, ap, sym, subst}
use Rattle.std.specs.Cmp.Lexicographic.{slice_cmp}
use Rattle.std.specs.List.{filter}
use Rattle.std.specs.List.Sorted.{IsStrictlySortedBy}
use Rattle.std.specs.Map.{keys_of}
use Rattle.std.specs.Ordering.{nat_cmp}
use Rattle.std.specs.Str.{bytes_eq}
use Rattle.std.proofs.lemmas.List.Kept.{IsStrictlySortedBy-filter}
use Rattle.std.proofs.lemmas.Map.Entries.{lookup-filter-keys}
use Rattle.std.proofs.lemmas.Slice.Eq.{bytes_eq-Decides}
use Rattle.raft_once.specs.Numbers.{is_number_key, shown}
use Rattle.raft_records.specs.Contents.{Contents}
use Rattle.raft_tables.specs.Listing.{IsListing, is_between, value_between}
use Rattle.raft_log_engine.specs.Hidden.{without_number}
use Rattle.raft_log_engine.specs.Image.{IsWithout}

map_either : {X Y : Type 0} (f : X → Y) (b : Bool) (x : X) (xs : List X) (ys : List Y) → map f xs ≡ ys → map f (cond b (x ∷ xs) xs) ≡ cond b (f x ∷ ys) ys
map_either f true x xs ys same = ap (λ l. f x ∷ l) same
map_either f false x xs ys same = same

pub map-filter : {X Y : Type 0} (f : X → Y) (test : Y → Bool) (xs : List X) → map f (filter (λ x. test (f x)) xs) ≡ filter test (map f xs)
map-filter f test [] = refl
map-filter f test (x ∷ xs) = map_either f (test (f x)) x (filter (λ y. test (f y)) xs) (filter test (map f xs)) (map-filter f test xs)

keys_either : (b : Bool) (p : List ℕ × List ℕ) (ps : List (List ℕ × List ℕ)) (ks : List (List ℕ)) → keys_of ps ≡ ks → keys_of (cond b (p ∷ ps) ps) ≡ cond b (p.0 ∷ ks) ks
keys_either true p ps ks same = ap (λ l. p.0 ∷ l) same
keys_either false p ps ks same = same

keys_left : (test : List ℕ → Bool) (pairs : List (List ℕ × List ℕ)) → keys_of (filter (λ p. test p.0) pairs) ≡ filter test (keys_of pairs)
keys_left test [] = refl
keys_left test (p ∷ ps) = keys_either (test p.0) p (filter (λ q. test q.0) ps) (filter test (keys_of ps)) (keys_left test ps)

not_hidden : (b : Bool) (value : Option (List ℕ)) → cond (not b) value None ≡ cond b None value
not_hidden true value = refl
not_hidden false value = refl

-- a listing without the number is one of what is shown
pub listing_without : (value_of left : List ℕ → Option (List ℕ)) (pairs : List (List ℕ × List ℕ)) → IsListing value_of pairs → ((key : List ℕ) → cond (is_number_key key) None (value_of key) ≡ left key) → IsListing left (without_number pairs)
listing_without value_of left pairs listing same = record {
  ascending = subst (IsStrictlySortedBy (slice_cmp nat_cmp)) (sym (keys_left (λ k. not (is_number_key k)) pairs)) (IsStrictlySortedBy-filter (slice_cmp nat_cmp) (λ k. not (is_number_key k)) (keys_of pairs) listing.ascending);
  value = λ key.
      lookup-filter-keys (bytes_eq key) (λ k. not (is_number_key k)) (not (is_number_key key)) (λ k is. ap (λ x. not (is_number_key x)) (sym ((bytes_eq-Decides key k).0 is))) pairs
      ∙ ap (λ o. cond (not (is_number_key key)) o None) (listing.value key)
      ∙ not_hidden (is_number_key key) (value_of key)
      ∙ same key;
}

-- .. between two bounds
between_hidden : (within number : Bool) (value : Option (List ℕ)) → cond number None (cond within value None) ≡ cond within (cond number None value) None
between_hidden true true value = refl
between_hidden true false value = refl
between_hidden false true value = refl
between_hidden false false value = refl

pub shown_between : (m : Contents) (group : ℕ) (start end : Option (List ℕ)) (pairs : List (List ℕ × List ℕ)) → IsListing (value_between start end (m.value group)) pairs → IsListing (value_between start end ((shown m).value group)) (without_number pairs)
shown_between m group start end pairs listing =
    listing_without (value_between start end (m.value group)) (value_between start end ((shown m).value group)) pairs listing
    (λ key. between_hidden (is_between start end key) (is_number_key key) (m.value group key))

pub shown_listing : (m : Contents) (group : ℕ) (pairs : List (List ℕ × List ℕ)) → IsListing (m.value group) pairs → IsListing ((shown m).value group) (without_number pairs)
shown_listing m group pairs listing = listing_without (m.value group) ((shown m).value group) pairs listing (λ key. refl)

hidden_none : (b : Bool) (value : Option (List ℕ)) → value ≡ None → cond b None value ≡ None
hidden_none true value none = refl
hidden_none false value none = none

-- where nothing is, nothing is shown
pub shown_none : (m : Contents) (group : ℕ) (key : List ℕ) → m.value group key ≡ None → (shown m).value group key ≡ None
shown_none m group key none = hidden_none (is_number_key key) (m.value group key) none

pub shown_without : (m : Contents) (group : ℕ) → IsWithout m group → IsWithout (shown m) group
shown_without m group none = (none.0, λ key. shown_none m group key (none.1 key))

other_at : (b : Bool) (value : Option (List ℕ)) → b ≡ false → cond b None value ≡ value
other_at true value other = cc
other_at false value other = refl

-- .. and all else is
pub other_shown : (m : Contents) (group : ℕ) (key : List ℕ) → is_number_key key ≡ false → (shown m).value group key ≡ m.value group key
other_shown m group key other = other_at (is_number_key key) (m.value group key) other
