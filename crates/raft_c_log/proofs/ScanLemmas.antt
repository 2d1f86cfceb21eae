-- What a scan keeps of the pairs that are handed to it.
use Rattle.std.proofs.Common.{◌≡◌, ◌⊎◌, ◌∙◌, ◌+◌, ◌-◌, ℕ, Bool, true, false, List, [], ◌∷◌, ◌++◌, length, take, Option, Some, None, refl, sym, ap, subst, append_assoc, arith, inl, inr}
use Rattle.std.specs.Cmp.Lexicographic.{nat_list_eq_equiv}
use Rattle.std.specs.Map.{lookup}
use Rattle.std.specs.Prelude.{if◌then◌else◌, reverse}
use Rattle.std.specs.Str.{bytes_eq}
use Rattle.std.proofs.lemmas.List.{append-nil, length-append, length-reverse, take_all}
use Rattle.std.proofs.Math.Seq.{take-append_seam}
use Rattle.raft_c_batch.specs.Batch.{part_bytes}
use Rattle.raft_records.specs.Contents.{Contents}
use Rattle.raft_log_engine.specs.Scan.{AreHandedOver, IsScan, IsScanned}
use Rattle.raft_c_batch.specs.Parts.{pairs_bytes}
use Rattle.raft_c_log.specs.Limit.{IsLeft, IsOneLess, limited}

abbrev pub Pair : Type 0
Pair = List ℕ × List ℕ

pub pairs_more : (xs : List Pair) (key value : List ℕ)
    → pairs_bytes (xs ++ (key, value) ∷ []) ≡ pairs_bytes xs ++ (part_bytes key ++ part_bytes value)
pairs_more [] key value = append-nil (part_bytes key ++ part_bytes value)
pairs_more (x ∷ xs) key value =
    ap (λ (b : List ℕ). (part_bytes x.0 ++ part_bytes x.1) ++ b) (pairs_more xs key value)
    ∙ sym (append_assoc (part_bytes x.0 ++ part_bytes x.1) (pairs_bytes xs) (part_bytes key ++ part_bytes value))

-- all pairs were kept, where there was room for each
pub limited_all : (limit left : Option ℕ) (xs : List Pair) → IsLeft limit (length xs) left → limited limit xs ≡ xs
limited_all None left xs room = refl
limited_all (Some n) left xs room = take_all n xs room.0

-- .. or as many as the limit, where there is none left
pub limited_first : (limit : Option ℕ) (xs rest : List Pair) → IsLeft limit (length xs) (Some 0) → limited limit (xs ++ rest) ≡ xs
limited_first None xs rest room = absurd cc
limited_first (Some n) xs rest room =
    let some : Some 0 ≡ Some (n - length xs) = room.1 in
    let none : 0 ≡ n - length xs = cc in
    let all : n ≡ length xs = omega (arith, none, room.0) in
    ap (λ (k : ℕ). take k (xs ++ rest)) all ∙ take-append_seam xs rest

-- what each call keeps holds after all of them, or of those before a false answer what that leaves
handed_from : {F : Type 0} (called : F → List ℕ → List ℕ → Bool → F → Type 0) (xs ps : List Pair) (f last : F) → AreHandedOver called f ps last
    → (J K : List Pair → F → Type 0) → J xs f
    → ((xs : List Pair) (f : F) (key value : List ℕ) (next : F) → J xs f → called f key value true next → J (xs ++ (key, value) ∷ []) next)
    → ((xs : List Pair) (f : F) (key value : List ℕ) (next : F) → J xs f → called f key value false next → K xs next)
    → J (xs ++ ps) last ⊎ ((kept rest : List Pair) × (xs ++ ps ≡ kept ++ rest) × K kept last)
handed_from called xs [] f last is J K j goes stops = inl (subst (λ ys. J ys last) (sym (append-nil xs)) (subst (J xs) (sym is) j))
handed_from called xs (p ∷ ps) f last (inl stop) J K j goes stops = inr (xs, (p ∷ ps), refl, stops xs f p.0 p.1 last j stop)
handed_from called xs (p ∷ ps) f last (inr more) J K j goes stops =
    subst (λ ys. J ys last ⊎ ((kept rest : List Pair) × (ys ≡ kept ++ rest) × K kept last)) (append_assoc xs (p ∷ []) ps)
    (handed_from called (xs ++ p ∷ []) ps more.0 last more.2 J K (goes xs f p.0 p.1 more.0 j more.1) goes stops)

pub kept_by : {F : Type 0} {called : F → List ℕ → List ℕ → Bool → F → Type 0} {m : Contents} {group : ℕ} {start end : Option (List ℕ)} {reversed : Bool} {first last : F}
    (ran : IsScanned called m group start end reversed first last) (J K : F → List Pair → F → Type 0) → J first [] first
    → ((from : F) (xs : List Pair) (f : F) (key value : List ℕ) (next : F) → J from xs f → called f key value true next → J from (xs ++ (key, value) ∷ []) next)
    → ((from : F) (xs : List Pair) (f : F) (key value : List ℕ) (next : F) → J from xs f → called f key value false next → K from xs next)
    → J first ran.pairs last ⊎ ((kept rest : List Pair) × (ran.pairs ≡ kept ++ rest) × K first kept last)
kept_by {called} {first} {last} ran J K j goes stops = handed_from called [] ran.pairs first last ran.handed (J first) (K first) j (goes first) (stops first)

pub left_all : (limit left : Option ℕ) → left ≡ limit → IsLeft limit 0 left
left_all None left is = is
left_all (Some n) left is = (omega arith, is ∙ ap Some (omega arith))

pub left_more : (limit left after : Option ℕ) (xs : List Pair) (p : Pair) → IsLeft limit (length xs) left → IsOneLess left after
    → IsLeft limit (length (xs ++ p ∷ [])) after
left_more None left after xs p room less = subst (λ (l : Option ℕ). IsOneLess l after) room less
left_more (Some most) left after xs p room less =
    let one : IsOneLess (Some (most - length xs)) after = subst (λ (l : Option ℕ). IsOneLess l after) room.1 less in
    let count : length (xs ++ p ∷ []) ≡ length xs + 1 = length-append xs (p ∷ []) in
    (omega (arith, one.0, room.0, count), one.1 ∙ ap Some (omega (arith, count)))

-- a group without keys has no pairs
none_at : (found : Bool) (value : Option (List ℕ)) → value ≡ None → (if found then value else None) ≡ None
none_at true value none = none
none_at false value none = refl

none_forward : (m : Contents) (group : ℕ) (start end : Option (List ℕ)) (pairs : List Pair)
    → ((key : List ℕ) → m.value group key ≡ None) → IsScan m group start end false pairs → pairs ≡ []
none_forward m group start end [] none scan = refl
none_forward m group start end (p ∷ ps) none scan =
    let here : lookup (bytes_eq p.0) (p ∷ ps) ≡ Some p.1 = rw (nat_list_eq_equiv.refl p.0) refl in
    let nothing : lookup (bytes_eq p.0) (p ∷ ps) ≡ None = scan.value p.0 ∙ none_at _ _ (none p.0) in
    absurd (let clash : Some p.1 ≡ None = sym here ∙ nothing in cc)

pub none_scanned : (m : Contents) (group : ℕ) (start end : Option (List ℕ)) (reversed : Bool) (pairs : List Pair)
    → ((key : List ℕ) → m.value group key ≡ None) → IsScan m group start end reversed pairs → pairs ≡ []
none_scanned m group start end false pairs none scan = none_forward m group start end pairs none scan
none_scanned m group start end true pairs none scan =
    of_length pairs (sym (length-reverse pairs) ∙ ap length (none_forward m group start end (reverse pairs) none scan))
  where
    of_length : (xs : List Pair) → length xs ≡ 0 → xs ≡ []
    of_length [] is = refl
    of_length (x ∷ xs) is = absurd (omega (arith, is))

-- what was called with no pairs is as it was
pub none_handed : {F : Type 0} {called : F → List ℕ → List ℕ → Bool → F → Type 0} {m : Contents} {group : ℕ} {start end : Option (List ℕ)} {reversed : Bool} {first last : F} (P : F → F → Type 0)
    → IsScanned called m group start end reversed first last → ((key : List ℕ) → m.value group key ≡ None) → P first first → P first last
none_handed {F} {called} {m} {group} {start} {end} {reversed} {first} {last} P ran none here =
    let same : last ≡ first = subst (λ (ps : List Pair). AreHandedOver called first ps last) (none_scanned m group start end reversed ran.pairs none ran.scan) ran.handed in
    subst (P first) (sym same) here
