-- Lists in the order of their keys, with one key changed.
use Rattle.std.proofs.Common.{◌≡◌, ℕ, Bool, true, false, cond, inl, inr, ⊎_elim, List, [], ◌∷◌, ◌++◌, Option, Some, None, refl, sym, ◌∙◌, ap, subst, append_assoc, arith, nat_eq}
use Rattle.std.specs.Prelude.{◌⊎◌, ◌&&◌, filter}
use Rattle.std.specs.List.{AllByRecursion}
use Rattle.std.specs.List.Sorted.{IsStrictlySortedBy}
use Rattle.std.specs.Map.{keys_of, lookup}
use Rattle.std.specs.Cmp.{IsTotalOrder, nat_cmp_total}
use Rattle.std.specs.Cmp.Lexicographic.{slice_cmp, bytes_decides, nat_list_cmp_total, nat_list_eq_equiv}
use Rattle.std.specs.Ordering.{is_eq, is_lt, nat_cmp, ordering_reverse}
use Rattle.std.specs.Str.{bytes_eq}
use Rattle.std.specs.declared.cmp.Ordering.{Ordering}
use Rattle.std.specs.declared.cmp.Ordering.TheVariants.{Less, Equal, Greater}
use Rattle.std.proofs.lemmas.Bool.{cond-true, cond-false, eqb-true, eq-eqb}
use Rattle.std.proofs.lemmas.List.{append-nil, map-append}
use Rattle.std.proofs.lemmas.List.Kept.{IsStrictlySortedBy-filter}
use Rattle.std.proofs.lemmas.Map.Entries.{lookup-filter-keys}
use Rattle.std.proofs.lemmas.Map.Text.{is_eq-slice_cmp}
use Rattle.raft_allowed.specs.Held.{between, is_between, put_at, with_one}

-- keys are told apart by an order and by a test alike
pub record IsKeyOrder {K : Type 0} (cmp : K → K → Ordering) (eq : K → K → Bool) : Type 0 where
  pub same : (a b : K) → eq a b ≡ true → a ≡ b
  pub self : (a : K) → eq a a ≡ true
  pub less : (a b : K) → cmp a b ≡ Less → eq a b ≡ false
  pub more : (a b : K) → cmp a b ≡ Less → eq b a ≡ false
  pub trans : (a b c : K) → cmp a b ≡ Less → cmp b c ≡ Less → cmp a c ≡ Less
  pub apart : (a b : K) → eq a b ≡ false → (cmp a b ≡ Less) ⊎ (cmp b a ≡ Less)

is_lt-Less : (o : Ordering) → is_lt o ≡ true → o ≡ Less
is_lt-Less Less is = refl
is_lt-Less Equal is = cc
is_lt-Less Greater is = cc

not_Less : (o : Ordering) → (o ≡ Less → ⊥) → is_lt o ≡ false
not_Less Less none = absurd (none refl)
not_Less Equal none = refl
not_Less Greater none = refl

by_order : (o p : Ordering) → o ≡ ordering_reverse p → is_eq o ≡ false → (o ≡ Less) ⊎ (p ≡ Less)
by_order Less p is differs = inl refl
by_order Equal p is differs = cc
by_order Greater Less is differs = inr refl
by_order Greater Equal is differs = cc
by_order Greater Greater is differs = cc

no_eq : (o : Ordering) → o ≡ Less → is_eq o ≡ false
no_eq o is = ap is_eq is

-- of any total order that tells all keys apart
pub key_order : {K : Type 0} (cmp : K → K → Ordering) (eq : K → K → Bool) → IsTotalOrder cmp → ((a b : K) → eq a b ≡ is_eq (cmp a b)) → ((a b : K) → eq a b ≡ true → a ≡ b) → ((a : K) → eq a a ≡ true) → IsKeyOrder cmp eq
key_order cmp eq total told same self = record {
  same = same;
  self = self;
  less = λ a b below. told a b ∙ no_eq (cmp a b) below;
  more = λ a b below. told b a ∙ ap is_eq (total.antisymm b a) ∙ ap (λ o. is_eq (ordering_reverse o)) below;
  trans = total.trans;
  apart = λ a b differ. by_order (cmp a b) (cmp b a) (total.antisymm a b) (sym (told a b) ∙ differ);
}

told_numbers : (a b : ℕ) → nat_eq a b ≡ is_eq (nat_cmp a b)
told_numbers a b = grind arith

pub number_order : IsKeyOrder nat_cmp nat_eq
number_order = key_order nat_cmp nat_eq nat_cmp_total told_numbers eqb-true (λ a. eq-eqb a a refl)

pub bytes_order : IsKeyOrder (slice_cmp nat_cmp) bytes_eq
bytes_order = key_order (slice_cmp nat_cmp) bytes_eq nat_list_cmp_total (λ a b. sym (is_eq-slice_cmp a b)) (λ a b. (bytes_decides a b).0) nat_list_eq_equiv.refl

all_append : {X : Type 0} (P : X → Type 0) (xs ys : List X) → AllByRecursion P xs → AllByRecursion P ys → AllByRecursion P (xs ++ ys)
all_append P [] ys all more = more
all_append P (x ∷ xs) ys all more = (all.0, all_append P xs ys all.1 more)

all_weaker : {X : Type 0} (P Q : X → Type 0) → ((x : X) → P x → Q x) → (xs : List X) → AllByRecursion P xs → AllByRecursion Q xs
all_weaker P Q f [] all = tt
all_weaker P Q f (x ∷ xs) all = (f x all.0, all_weaker P Q f xs all.1)

all_filter : {X : Type 0} (P : X → Type 0) (p : X → Bool) (xs : List X) → AllByRecursion P xs → AllByRecursion P (filter p xs)
all_filter P p [] all = tt
all_filter P p (x ∷ xs) all = at (p x) (all_filter P p xs all.1)
  where
    at : (b : Bool) → AllByRecursion P (filter p xs) → AllByRecursion P (cond b (x ∷ filter p xs) (filter p xs))
    at true rest = (all.0, rest)
    at false rest = rest

all_pass : {X : Type 0} (p : X → Bool) (xs : List X) → AllByRecursion (λ x. p x ≡ true) (filter p xs)
all_pass p [] = tt
all_pass p (x ∷ xs) = at (p x) refl (all_pass p xs)
  where
    at : (b : Bool) → p x ≡ b → AllByRecursion (λ y. p y ≡ true) (filter p xs) → AllByRecursion (λ y. p y ≡ true) (cond b (x ∷ filter p xs) (filter p xs))
    at true is rest = (is, rest)
    at false is rest = rest

-- the first that is there
abbrev or_next : {A : Type 0} → Option A → Option A → Option A
or_next None other = other
or_next (Some a) other = Some a

or_next-None : {A : Type 0} (a : Option A) → or_next a None ≡ a
or_next-None None = refl
or_next-None (Some a) = refl

above_less : (b : Bool) → (b && true) ≡ true → b ≡ true
above_less true is = refl
above_less false is = is

module _ {K : Type 0} (cmp : K → K → Ordering) (eq : K → K → Bool) (o : IsKeyOrder cmp eq) where
  not_less_self : (a : K) → is_lt (cmp a a) ≡ false
  not_less_self a = not_Less (cmp a a) (λ below. let differ = o.less a a below in let self = o.self a in cc)

  below_is : (k key : K) (b : Bool) → is_lt (cmp k key) ≡ b → is_between cmp None (Some key) k ≡ b
  below_is k key b is = is

  above_is : (k key : K) (b : Bool) → is_lt (cmp key k) ≡ b → is_between cmp (Some key) None k ≡ b
  above_is k key true is = ap (λ x. x && true) is
  above_is k key false is = ap (λ x. x && true) is

  sorted_join : (xs ys : List K) (key : K) → IsStrictlySortedBy cmp xs → IsStrictlySortedBy cmp ys → AllByRecursion (λ x. cmp x key ≡ Less) xs → AllByRecursion (λ y. cmp key y ≡ Less) ys
      → IsStrictlySortedBy cmp (xs ++ ys) × IsStrictlySortedBy cmp (xs ++ key ∷ ys)
  unfolding IsStrictlySortedBy
  sorted_join [] ys key first last below above = (last, (above, last))
  sorted_join (x ∷ xs) ys key first last below above =
      let rest = sorted_join xs ys key first.1 last below.1 above in
      let past : AllByRecursion (λ y. cmp x y ≡ Less) ys = all_weaker (λ y. cmp key y ≡ Less) (λ y. cmp x y ≡ Less) (λ y more. o.trans x key y below.0 more) ys above in (
        (all_append (λ y. cmp x y ≡ Less) xs ys first.0 past, rest.0),
        (all_append (λ y. cmp x y ≡ Less) xs (key ∷ ys) first.0 (below.0, past), rest.1),
      )

module _ {K V : Type 0} (cmp : K → K → Ordering) (eq : K → K → Bool) (o : IsKeyOrder cmp eq) where
  lookup-append : (test : K → Bool) (xs ys : List (K × V)) → lookup test (xs ++ ys) ≡ or_next (lookup test xs) (lookup test ys)
  lookup-append test [] ys = refl
  lookup-append test (x ∷ xs) ys = at (test x.0) (lookup-append test xs ys)
    where
      at : (b : Bool) → lookup test (xs ++ ys) ≡ or_next (lookup test xs) (lookup test ys) → cond b (Some x.1) (lookup test (xs ++ ys)) ≡ or_next (cond b (Some x.1) (lookup test xs)) (lookup test ys)
      at true rest = refl
      at false rest = rest

  lookup-one : (k key : K) (value : Option V) → lookup (eq k) (with_one key value) ≡ cond (eq k key) value None
  lookup-one k key (Some value) = refl
  lookup-one k key None = at (eq k key)
    where
      at : (b : Bool) → let none : Option V = None in none ≡ cond b none none
      at true = refl
      at false = refl

  -- what is found between two bounds
  lookup-between : (after before : Option K) (k : K) (b : Bool) (es : List (K × V)) → is_between cmp after before k ≡ b → lookup (eq k) (between cmp after before es) ≡ cond b (lookup (eq k) es) None
  lookup-between after before k b es is = lookup-filter-keys (eq k) (is_between cmp after before) b (λ x same. ap (is_between cmp after before) (sym (o.same k x same)) ∙ is) es

  lookup-parts : (k key : K) (value : Option V) (es : List (K × V)) (below above here : Bool) → is_lt (cmp k key) ≡ below → is_lt (cmp key k) ≡ above → eq k key ≡ here
      → lookup (eq k) (put_at cmp key value es) ≡ or_next (or_next (cond below (lookup (eq k) es) None) (cond here value None)) (cond above (lookup (eq k) es) None)
  lookup-parts k key value es below above here is_below is_above is_here =
      lookup-append (eq k) (between cmp None (Some key) es ++ with_one key value) (between cmp (Some key) None es)
      ∙ ap (λ x. or_next x (lookup (eq k) (between cmp (Some key) None es))) (lookup-append (eq k) (between cmp None (Some key) es) (with_one key value))
      ∙ ap (λ x. or_next (or_next x (lookup (eq k) (with_one key value))) (lookup (eq k) (between cmp (Some key) None es))) (lookup-between None (Some key) k below es (below_is cmp eq o k key below is_below))
      ∙ ap (λ x. or_next (or_next (cond below (lookup (eq k) es) None) x) (lookup (eq k) (between cmp (Some key) None es))) (lookup-one k key value ∙ ap (λ b. cond b value None) is_here)
      ∙ ap (or_next (or_next (cond below (lookup (eq k) es) None) (cond here value None))) (lookup-between (Some key) None k above es (above_is cmp eq o k key above is_above))

  -- at the key the value is found
  pub lookup-put_same : (k key : K) (value : Option V) (es : List (K × V)) → eq k key ≡ true → lookup (eq k) (put_at cmp key value es) ≡ value
  lookup-put_same k key value es here =
      let same : k ≡ key = o.same k key here in
      let below : is_lt (cmp k key) ≡ false = ap (λ x. is_lt (cmp x key)) same ∙ not_less_self cmp eq o key in
      let above : is_lt (cmp key k) ≡ false = ap (λ x. is_lt (cmp key x)) same ∙ not_less_self cmp eq o key in
      lookup-parts k key value es false false true below above here ∙ or_next-None value

  -- .. and at another key what was found there
  pub lookup-put_other : (k key : K) (value : Option V) (es : List (K × V)) → eq k key ≡ false → lookup (eq k) (put_at cmp key value es) ≡ lookup (eq k) es
  lookup-put_other k key value es differs =
      ⊎_elim
      (λ below. let above : is_lt (cmp key k) ≡ false = not_Less (cmp key k) (λ back. let loop = o.less k k (o.trans k key k below back) in let self = o.self k in cc) in
      lookup-parts k key value es true false false (ap is_lt below) above differs ∙ or_next-None (or_next (lookup (eq k) es) None) ∙ or_next-None (lookup (eq k) es))
      (λ above. let below : is_lt (cmp k key) ≡ false = not_Less (cmp k key) (λ back. let loop = o.less k k (o.trans k key k back above) in let self = o.self k in cc) in
      lookup-parts k key value es false true false below (ap is_lt above) differs)
      (o.apart k key differs)

  -- Order.

  keys-filter : (p : K → Bool) (es : List (K × V)) → keys_of (filter (λ e. p e.0) es) ≡ filter p (keys_of es)
  keys-filter p [] = refl
  keys-filter p (e ∷ es) = at (p e.0) (keys-filter p es)
    where
      at : (b : Bool) → keys_of (filter (λ x. p x.0) es) ≡ filter p (keys_of es) → keys_of (cond b (e ∷ filter (λ x. p x.0) es) (filter (λ x. p x.0) es)) ≡ cond b (e.0 ∷ filter p (keys_of es)) (filter p (keys_of es))
      at true rest = ap (λ ks. e.0 ∷ ks) rest
      at false rest = rest

  keys-put : (key : K) (value : Option V) (es : List (K × V)) → keys_of (put_at cmp key value es) ≡ (filter (is_between cmp None (Some key)) (keys_of es) ++ keys_of (with_one key value)) ++ filter (is_between cmp (Some key) None) (keys_of es)
  keys-put key value es =
      map-append (λ (e : K × V). e.0) (between cmp None (Some key) es ++ with_one key value) (between cmp (Some key) None es)
      ∙ ap (λ ks. ks ++ keys_of (between cmp (Some key) None es)) (map-append (λ (e : K × V). e.0) (between cmp None (Some key) es) (with_one key value))
      ∙ ap (λ ks. (ks ++ keys_of (with_one key value)) ++ keys_of (between cmp (Some key) None es)) (keys-filter (is_between cmp None (Some key)) es)
      ∙ ap (λ ks. (filter (is_between cmp None (Some key)) (keys_of es) ++ keys_of (with_one key value)) ++ ks) (keys-filter (is_between cmp (Some key) None) es)

  sorted_parts : (first last : List K) (key : K) (value : Option V) → IsStrictlySortedBy cmp (first ++ last) × IsStrictlySortedBy cmp (first ++ key ∷ last) → IsStrictlySortedBy cmp ((first ++ keys_of (with_one key value)) ++ last)
  sorted_parts first last key None both = subst (λ (ks : List K). IsStrictlySortedBy cmp (ks ++ last)) (sym (append-nil first)) both.0
  sorted_parts first last key (Some v) both = subst (IsStrictlySortedBy cmp) (sym (append_assoc first (key ∷ []) last)) both.1

  pub sorted-put : (key : K) (value : Option V) (es : List (K × V)) → IsStrictlySortedBy cmp (keys_of es) → IsStrictlySortedBy cmp (keys_of (put_at cmp key value es))
  sorted-put key value es sorted =
      let below = is_between cmp None (Some key) in
      let above = is_between cmp (Some key) None in
      let ks = keys_of es in
      subst (IsStrictlySortedBy cmp) (sym (keys-put key value es))
      (sorted_parts (filter below ks) (filter above ks) key value
      (sorted_join cmp eq o (filter below ks) (filter above ks) key
      (IsStrictlySortedBy-filter cmp below ks sorted)
      (IsStrictlySortedBy-filter cmp above ks sorted)
      (all_weaker (λ x. below x ≡ true) (λ x. cmp x key ≡ Less) (λ x is. is_lt-Less (cmp x key) is) (filter below ks) (all_pass below ks))
      (all_weaker (λ x. above x ≡ true) (λ x. cmp key x ≡ Less) (λ x is. is_lt-Less (cmp key x) (above_less (is_lt (cmp key x)) is)) (filter above ks) (all_pass above ks))))

  -- what holds of all values holds of all with one more
  pub all-put : (P : V → Type 0) (key : K) (value : Option V) (es : List (K × V)) → ((v : V) → value ≡ Some v → P v) → AllByRecursion (λ e. P e.1) es → AllByRecursion (λ e. P e.1) (put_at cmp key value es)
  all-put P key value es one all =
      all_append (λ e. P e.1) (between cmp None (Some key) es ++ with_one key value) (between cmp (Some key) None es)
      (all_append (λ e. P e.1) (between cmp None (Some key) es) (with_one key value) (all_filter (λ e. P e.1) (λ e. is_between cmp None (Some key) e.0) es all) (at value one))
      (all_filter (λ e. P e.1) (λ e. is_between cmp (Some key) None e.0) es all)
    where
      at : (w : Option V) → ((v : V) → w ≡ Some v → P v) → AllByRecursion (λ e. P e.1) (with_one key w)
      at None own = tt
      at (Some v) own = (own v refl, tt)

  -- each key finds its own value
  pub lookup-own : (es : List (K × V)) → IsStrictlySortedBy cmp (keys_of es) → AllByRecursion (λ e. lookup (eq e.0) es ≡ Some e.1) es
  unfolding IsStrictlySortedBy
  lookup-own [] sorted = tt
  lookup-own (e ∷ es) sorted = (cond-true (eq e.0 e.0) (Some e.1) (lookup (eq e.0) es) (o.self e.0), behind es sorted.0 (lookup-own es sorted.1))
    where
      behind : (fs : List (K × V)) → AllByRecursion (λ k. cmp e.0 k ≡ Less) (keys_of fs) → AllByRecursion (λ f. lookup (eq f.0) es ≡ Some f.1) fs → AllByRecursion (λ f. lookup (eq f.0) (e ∷ es) ≡ Some f.1) fs
      behind [] above own = tt
      behind (f ∷ fs) above own = (cond-false (eq f.0 e.0) (Some e.1) (lookup (eq f.0) es) (o.more e.0 f.0 above.0) ∙ own.0, behind fs above.1 own.1)
