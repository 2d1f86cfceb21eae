-- When a change of a list changes nothing of what is recovered of it.
use Rattle.std.proofs.Common.{◌≡◌, ℕ, ◌≤◌, Bool, true, false, cond, nat_le, List, [], ◌∷◌, ◌++◌, append-nil, filter, refl, sym, ◌∙◌, ap, ⊎_elim}
use Rattle.std.specs.List.{All}
use Rattle.std.proofs.lemmas.Bool.{cases_Bool, le-leb}
use Rattle.std.proofs.lemmas.List.Elements.{All-head, All-tail, filter-append}
use Rattle.raft_records.specs.Item.{Entry}
use Rattle.raft_recovery_laws.proofs.AppendLemmas.{Apart, no_before_filter, put_on-touching}
use Rattle.raft_recovery_laws.proofs.ListLemmas.{has_before, put_on, put_on-apart}

-- the entries whose indexes pass a test
abbrev pub passing : (ℕ → Bool) → List Entry → List Entry
passing p es = filter (λ e. p e.0) es

-- a list with later entries set on it, where they touch it
abbrev pub joined : List Entry → List Entry → List Entry
joined w [] = w
joined w (e ∷ es) = cond (has_before e.0 w) (w ++ (e ∷ es)) (e ∷ es)

pub filter_yes : {X : Type 0} (p : X → Bool) (x : X) (xs : List X) → p x ≡ true → filter p (x ∷ xs) ≡ x ∷ filter p xs
filter_yes p x xs is = ap (λ b. cond b (x ∷ filter p xs) (filter p xs)) is

pub filter_no : {X : Type 0} (p : X → Bool) (x : X) (xs : List X) → p x ≡ false → filter p (x ∷ xs) ≡ filter p xs
filter_no p x xs is = ap (λ b. cond b (x ∷ filter p xs) (filter p xs)) is

pub kept_all : {X : Type 0} (p : X → Bool) (xs : List X) → All (λ x. p x ≡ true) xs → filter p xs ≡ xs
kept_all p [] all = refl
kept_all p (x ∷ xs) all = filter_yes p x xs (All-head (λ y. p y ≡ true) x xs all) ∙ ap (λ ys. x ∷ ys) (kept_all p xs (All-tail (λ y. p y ≡ true) x xs all))

pub kept_none : {X : Type 0} (p : X → Bool) (xs : List X) → All (λ x. p x ≡ false) xs → filter p xs ≡ []
kept_none p [] all = refl
kept_none p (x ∷ xs) all = filter_no p x xs (All-head (λ y. p y ≡ false) x xs all) ∙ kept_none p xs (All-tail (λ y. p y ≡ false) x xs all)

pub filter_comm : {X : Type 0} (p q : X → Bool) (xs : List X) → filter p (filter q xs) ≡ filter q (filter p xs)
filter_comm p q [] = refl
filter_comm p q (x ∷ xs) =
    let rest = filter_comm p q xs in
    ⊎_elim
    (λ yes_p. ⊎_elim
    (λ yes_q. ap (filter p) (filter_yes q x xs yes_q) ∙ filter_yes p x (filter q xs) yes_p ∙ ap (λ ys. x ∷ ys) rest ∙ sym (ap (filter q) (filter_yes p x xs yes_p) ∙ filter_yes q x (filter p xs) yes_q))
    (λ no_q. ap (filter p) (filter_no q x xs no_q) ∙ rest ∙ sym (ap (filter q) (filter_yes p x xs yes_p) ∙ filter_no q x (filter p xs) no_q))
    (cases_Bool (q x)))
    (λ no_p. ⊎_elim
    (λ yes_q. ap (filter p) (filter_yes q x xs yes_q) ∙ filter_no p x (filter q xs) no_p ∙ rest ∙ sym (ap (filter q) (filter_no p x xs no_p)))
    (λ no_q. ap (filter p) (filter_no q x xs no_q) ∙ rest ∙ sym (ap (filter q) (filter_no p x xs no_p)))
    (cases_Bool (q x)))
    (cases_Bool (p x))

set_on : (b : Bool) (p : ℕ → Bool) (w new : List Entry) (e : Entry) (es : List Entry) → has_before e.0 w ≡ b → passing p w ≡ w → passing p (e ∷ es) ≡ [] → (passing p (joined w (e ∷ es)) ≡ w → new ≡ w)
    → (joined w (e ∷ es) ≡ e ∷ es → passing p (joined w (e ∷ es)) ≡ [] → has_before e.0 w ≡ false → has_before e.0 new ≡ false) → joined new (e ∷ es) ≡ joined w (e ∷ es)
set_on true p w new e es touches all none same apart =
    let is : joined w (e ∷ es) ≡ w ++ (e ∷ es) = ap (λ b. cond b (w ++ (e ∷ es)) (e ∷ es)) touches in
    ap (λ xs. joined xs (e ∷ es)) (same (ap (passing p) is ∙ filter-append (λ x. p x.0) w (e ∷ es) ∙ ap (λ xs. xs ++ passing p (e ∷ es)) all ∙ ap (λ xs. w ++ xs) none ∙ append-nil w))
set_on false p w new e es touches all none same apart =
    let is : joined w (e ∷ es) ≡ e ∷ es = ap (λ b. cond b (w ++ (e ∷ es)) (e ∷ es)) touches in
    ap (λ b. cond b (new ++ (e ∷ es)) (e ∷ es)) (apart is (ap (passing p) is ∙ none) touches) ∙ sym is

-- the same is joined where the lists are the same, or nothing of the old one remains in what is
-- joined and the new one touches the later entries no more than the old one
pub joined_same : (p : ℕ → Bool) (w new a : List Entry) → passing p w ≡ w → passing p a ≡ [] → (passing p (joined w a) ≡ w → new ≡ w)
    → (joined w a ≡ a → passing p (joined w a) ≡ [] → (s : ℕ) → has_before s w ≡ false → has_before s new ≡ false) → joined new a ≡ joined w a
joined_same p w new [] all none same apart = same all
joined_same p w new (e ∷ es) all none same apart = set_on (has_before e.0 w) p w new e es refl all none same (λ is nothing. apart is nothing e.0)

-- nothing is left of a list of which nothing is left in what is joined
pub joined-nothing : (p : ℕ → Bool) (w a : List Entry) → passing p w ≡ w → passing p a ≡ [] → All (λ e. p e.0 ≡ false) (joined w a) → joined [] a ≡ joined w a
joined-nothing p w a all none nothing =
    let is = kept_none (λ e. p e.0) (joined w a) nothing in
    joined_same p w [] a all none (λ same. sym is ∙ same) (λ _ _ s _. refl)

above : (p : ℕ → Bool) (c : ℕ) (xs : List Entry) → All (λ e. p e.0 ≡ true → c ≤ e.0) xs → filter (λ e. nat_le c e.0) (passing p xs) ≡ passing p xs
above p c [] all = refl
above p c (e ∷ es) all =
    let rest = above p c es (All-tail (λ x. p x.0 ≡ true → c ≤ x.0) e es all) in
    ⊎_elim
    (λ yes. ap (filter (λ x. nat_le c x.0)) (filter_yes (λ x. p x.0) e es yes) ∙ filter_yes (λ x. nat_le c x.0) e (passing p es) (le-leb c e.0 (All-head (λ x. p x.0 ≡ true → c ≤ x.0) e es all yes)) ∙ ap (λ xs. e ∷ xs) rest ∙ sym (filter_yes (λ x. p x.0) e es yes))
    (λ no. ap (filter (λ x. nat_le c x.0)) (filter_no (λ x. p x.0) e es no) ∙ rest ∙ sym (filter_no (λ x. p x.0) e es no))
    (cases_Bool (p e.0))

-- entries below an index go that nothing is left of in what is joined
pub joined-compacted : (p : ℕ → Bool) (c : ℕ) (w a : List Entry) → passing p w ≡ w → passing p a ≡ [] → All (λ e. p e.0 ≡ true → c ≤ e.0) (joined w a) → joined (filter (λ e. nat_le c e.0) w) a ≡ joined w a
joined-compacted p c w a all none bound =
    joined_same p w (filter (λ e. nat_le c e.0) w) a all none
    (λ same. ap (filter (λ e. nat_le c e.0)) (sym same) ∙ above p c (joined w a) bound ∙ same)
    (λ _ _ s apart. no_before_filter (λ e. nat_le c e.0) s w apart)

touching : (b : Bool) (w : List Entry) (e : Entry) (es : List Entry) → has_before e.0 w ≡ b → Apart w (e ∷ es) → put_on w (e ∷ es) ≡ cond b (w ++ (e ∷ es)) (e ∷ es)
touching true w e es is apart = put_on-touching w e es apart is
touching false w e es is apart = put_on-apart w e es is

-- entries are set so on a list that they come after
pub put_on-joined : (w a : List Entry) → Apart w a → put_on w a ≡ joined w a
put_on-joined w [] apart = refl
put_on-joined w (e ∷ es) apart = touching (has_before e.0 w) w e es refl apart
