-- What a scan goes over, and what of it is left to hand over.
use Rattle.std.proofs.Common.{◌≡◌, ◌⊎◌, append_assoc, ◌∙◌, ◌<◌, ◌+◌, ◌∷◌, ◌++◌, [], List, ℕ, Bool, true, false, cond, Bor, Option, None, refl, sym, ap, subst, inl, inr, length, map, reverse, drop, get_or}
use Rattle.std.specs.List.Sorted.{IsStrictlySortedBy}
use Rattle.std.proofs.lemmas.Fn.{called}
use Rattle.std.proofs.lemmas.List.{append-nil, drop_more, map-append, reverse-append, reverse-reverse}
use Rattle.std.specs.Fn.{Called}
use denote.Param.Members.{Mut}
use Rattle.raft_records.specs.Contents.{Contents}
use Rattle.raft_tables.specs.Listing.{IsListing, IsWithoutKeys, is_between, lent_pairs, value_between}
use Rattle.raft_log_engine.specs.Scan.{AreBegun, AreHandedOver, CalledAtKey, IsScan, IsScanned}

reverse-map : {X Y : Type 0} (f : X → Y) (xs : List X) → reverse (map f xs) ≡ map f (reverse xs)
reverse-map f [] = refl
reverse-map f (x ∷ xs) = reverse-append (f x ∷ []) (map f xs) ∙ ap (λ l. l ++ (f x ∷ [])) (reverse-map f xs) ∙ sym (map-append f (reverse xs) (x ∷ [])) ∙ ap (map f) (sym (reverse-append (x ∷ []) xs))

module _ (m : Contents) (group : ℕ) (start end : Option (List ℕ)) where
  none_between : (b : Bool) (value : Option (List ℕ)) → value ≡ None → None ≡ cond b value None
  none_between true value none = sym none
  none_between false value none = refl

  nothing_listed : IsWithoutKeys m group → IsListing (value_between start end (m.value group)) []
  unfolding IsStrictlySortedBy
  nothing_listed none = record { ascending = tt; value = λ key. none_between (is_between start end key) (m.value group key) (none key) }

  pub nothing_scanned : (reversed : Bool) → IsWithoutKeys m group → IsScan m group start end reversed []
  nothing_scanned false none = nothing_listed none
  nothing_scanned true none = nothing_listed none

  pub listing_reversed : (pairs back : List (Bor (List ℕ) × Bor (List ℕ))) → back ≡ reverse pairs → IsListing (value_between start end (m.value group)) (lent_pairs pairs) → IsScan m group start end true (lent_pairs back)
  listing_reversed pairs back is listing =
      subst (IsListing (value_between start end (m.value group))) (sym (reverse-map (λ p. (p.0.now, p.1.now)) back ∙ ap (λ ps. lent_pairs (reverse ps)) is ∙ ap lent_pairs (reverse-reverse pairs))) listing

module _ {F : Type 0} (called : F → List ℕ → List ℕ → Bool → F → Type 0) where
  module _ (xs : List (Bor (List ℕ) × Bor (List ℕ))) (i : ℕ) (d : Bor (List ℕ) × Bor (List ℕ)) (within : i < length xs) (f last : F) where
    pub handed_last : called f (get_or xs i d).0.now (get_or xs i d).1.now false last → AreHandedOver called f (lent_pairs (drop i xs)) last
    handed_last call = rw (drop_more xs i d within) (inl call)

    pub handed_more : (next : F) → called f (get_or xs i d).0.now (get_or xs i d).1.now true next → AreHandedOver called next (lent_pairs (drop (i + 1) xs)) last → AreHandedOver called f (lent_pairs (drop i xs)) last
    handed_more next call more = rw (drop_more xs i d within) (inr (next, call, more))

    pub begun_more : (next : F) → called f (get_or xs i d).0.now (get_or xs i d).1.now true next → AreBegun called next (lent_pairs (drop (i + 1) xs)) last → AreBegun called f (lent_pairs (drop i xs)) last
    begun_more next call more = rw (drop_more xs i d within) (inr (next, call, more))

pub called_at_key : {F M : Type 0} (g : Mut F (Bor (List ℕ) × (M × Unit {0})) Bool) {f next : F} {key : Bor (List ℕ)} {message : M} {answer is : Bool} → Called g f (key, (message, tt)) answer next → answer ≡ is → CalledAtKey g f key.now message is next
called_at_key g {key = key} call same = record { shown = key; shows = refl; called = called g call same }

-- what each call keeps holds after all of them, or what a false answer leaves
handed_by : {F V : Type 0} (called : F → List ℕ → V → Bool → F → Type 0) (xs ps : List (List ℕ × V)) (f last : F) → AreHandedOver called f ps last → (J : List (List ℕ × V) → F → Type 0) (K : F → Type 0) → J xs f
    → ((xs : List (List ℕ × V)) (f : F) (key : List ℕ) (value : V) (next : F) → J xs f → called f key value true next → J (xs ++ (key, value) ∷ []) next)
    → ((xs : List (List ℕ × V)) (f : F) (key : List ℕ) (value : V) (next : F) → J xs f → called f key value false next → K next)
    → J (xs ++ ps) last ⊎ K last
handed_by called xs [] f last is J K j goes stops = inl (subst (λ ys. J ys last) (sym (append-nil xs)) (subst (J xs) (sym is) j))
handed_by called xs (p ∷ ps) f last (inl stop) J K j goes stops = inr (stops xs f p.0 p.1 last j stop)
handed_by called xs (p ∷ ps) f last (inr more) J K j goes stops =
    subst (λ ys. J ys last ⊎ K last) (append_assoc xs (p ∷ []) ps) (handed_by called (xs ++ p ∷ []) ps more.0 last more.2 J K (goes xs f p.0 p.1 more.0 j more.1) goes stops)

pub scanned_by : {F : Type 0} {called : F → List ℕ → List ℕ → Bool → F → Type 0} {m : Contents} {group : ℕ} {start end : Option (List ℕ)} {reversed : Bool} {first last : F} (ran : IsScanned called m group start end reversed first last) (J : F → List (List ℕ × List ℕ) → F → Type 0) (K : F → F → Type 0) → J first [] first
    → ((from : F) (xs : List (List ℕ × List ℕ)) (f : F) (key value : List ℕ) (next : F) → J from xs f → called f key value true next → J from (xs ++ (key, value) ∷ []) next)
    → ((from : F) (xs : List (List ℕ × List ℕ)) (f : F) (key value : List ℕ) (next : F) → J from xs f → called f key value false next → K from next)
    → J first ran.pairs last ⊎ K first last
scanned_by {called = called} {first = first} {last = last} ran J K j goes stops = handed_by called [] ran.pairs first last ran.handed (J first) (K first) j (goes first) (stops first)
