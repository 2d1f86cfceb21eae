-- What was read so far, and what is left.
use Rattle.std.proofs.Common.{◌≡◌, ◌≢◌, ◌∙◌, ◌<◌, ◌≤◌, ◌^◌, ◌⊎◌, ℕ, zero, suc, List, [], ◌∷◌, ◌++◌, Option, Some, None, Result, Ok, Err, IfErr, IsErrAnd, inl, inr, option_and_then, option_map, arith, refl, sym, ap, subst, append_assoc, append-nil, length, false, nat_eq}
use Rattle.std.specs.Prelude.{IsSomeAnd, nat_le}
use Rattle.std.proofs.lemmas.Bool.{leb-true}
use Rattle.std.proofs.lemmas.Bool.Decides.{nat_tests}
use Rattle.std.proofs.lemmas.Option.{cond_some, option_and_then_some, same_Some}
use Rattle.raft_codec.specs.Number.{take_u64}
use Rattle.raft_base.specs.declared.errors.Fault.{Fault}
use Rattle.raft_base.specs.declared.errors.Fault.TheVariants as fault
use Rattle.raft_records.specs.Batch.{BatchView, size_refusal, with_entries_item}
use Rattle.raft_records.specs.Item.{Content, Entry, Entries, Item, Batch}
use Rattle.raft_records.specs.Layout.{entry_bytes}
use Rattle.raft_c_batch.specs.declared.batch.BatchFault.{BatchFault}
use Rattle.raft_c_batch.specs.declared.batch.BatchFault.TheVariants.{Malformed, Refused}
use Rattle.raft_c_batch.specs.Batch.{all_items, read_batch, take_each, take_entries, take_entry, take_item, take_items, with_item_taken, with_taken}
use Rattle.raft_c_batch.specs.Refusals.{IsAddRefusal, IsBatchRefusal, IsContentRefusal, IsItemRefusal, IsPartRefusal}
use Rattle.raft_c_batch.proofs.ReadLemmas.{map_some}

-- these and those that were read
abbrev pub before : {A : Type 0} → List A → List A × List ℕ → List A × List ℕ
before xs taken = (xs ++ taken.0, taken.1)

-- one more in front of those that were read
abbrev in_front : {A : Type 0} → A → List A × List ℕ → List A × List ℕ
in_front x taken = (x ∷ taken.0, taken.1)

before_one : {A : Type 0} (xs : List A) (x : A) (rest : Option (List A × List ℕ))
    → option_map (before (xs ++ x ∷ [])) rest ≡ option_map (before xs) (option_map (in_front x) rest)
before_one xs x None = refl
before_one xs x (Some taken) = ap (λ ys. Some (ys, taken.1)) (append_assoc xs (x ∷ []) taken.0)

before_none : {A : Type 0} (xs : List A) (rest : Option (List A × List ℕ)) → option_map (before xs) rest ≡ None → rest ≡ None
before_none xs None none = refl
before_none xs (Some taken) none = absurd cc

pub if_err : {T : Type 0} (r : Result T BatchFault) (Q : BatchFault → Type 0) (e : BatchFault)
    → IsErrAnd r (λ f. f ≡ e) → Q e → IfErr r Q
if_err (Ok x) Q e is holds = tt
if_err (Err f) Q e is holds = subst Q (sym is) holds

-- Entries.

pub entries_next : (xs : List Entry) (x : Entry) (n left : ℕ) (bytes tail : List ℕ) → n ≡ suc left
    → take_entry bytes ≡ Some (x, tail)
    → option_map (before (xs ++ x ∷ [])) (take_each left tail) ≡ option_map (before xs) (take_each n bytes)
unfolding take_each
entries_next xs x n left bytes tail more taken = rw (more, taken) (before_one xs x (take_each left tail))

pub entries_none : (n : ℕ) (bytes : List ℕ) → n ≢ 0 → take_entry bytes ≡ None → take_each n bytes ≡ None
unfolding take_each
entries_none zero bytes some none = absurd (omega arith)
entries_none (suc n) bytes some none = rw none refl

pub entries_end : (xs : List Entry) (n : ℕ) (bytes : List ℕ) → n ≡ 0 → option_map (before xs) (take_each n bytes) ≡ Some (xs, bytes)
unfolding take_each
entries_end xs n bytes none = rw none (ap (λ ys. Some (ys, bytes)) (append-nil xs))

pub entry_refused : (e : BatchFault) (xs : List Entry) (count left : ℕ) (bytes rest : List ℕ) → left ≢ 0
    → option_map (before xs) (take_each left rest) ≡ take_each count bytes
    → IsPartRefusal (take_entry rest) e → IsPartRefusal (take_each count bytes) e
entry_refused Malformed xs count left bytes rest some read none =
    sym read ∙ ap (option_map (before xs)) (entries_none left rest some none)
entry_refused (Refused f) xs count left bytes rest some read is = is

-- entries that were read are an item
pub entries_added : (batch : BatchView) (group count : ℕ) (bytes rest tail : List ℕ) (es : List Entry) → count ≢ 0
    → take_u64 bytes ≡ Some (count, rest) → take_each count rest ≡ Some (es, tail)
    → option_map (with_taken batch.items group) (take_entries bytes) ≡ Some ((with_entries_item batch group es).items, tail)
unfolding take_each
entries_added batch group zero bytes rest tail es some counted taken = absurd (omega arith)
entries_added batch group (suc n) bytes rest tail es some counted taken = rw (counted, test, taken) (by_list es (nonempty (take_entry rest) taken))
  where
    test : nat_eq (suc n) 0 ≡ false
    test = grind (arith, nat_tests)

    -- the list has one at least
    nonempty : (o : Option (Entry × List ℕ))
        → option_and_then {U = List Entry × List ℕ} (λ (e : Entry × List ℕ). option_map (in_front e.0) (take_each n e.1)) o ≡ Some (es, tail)
        → es ≢ []
    nonempty None is = absurd cc
    nonempty (Some e) is = by_rest (take_each n e.1) is
      where
        by_rest : (o : Option (List Entry × List ℕ)) → option_map (in_front e.0) o ≡ Some (es, tail) → es ≢ []
        by_rest None is = absurd cc
        by_rest (Some more) is = λ none. let same : e.0 ∷ more.0 ≡ es = grind (arith, is) in absurd (omega (arith, ap length (same ∙ none)))

    by_list : (es : List Entry) → es ≢ []
        → ◌≡◌ {A = Option (Batch × List ℕ)} (Some (batch.items ++ record { group = group; content = Entries es } ∷ [], tail)) (Some ((with_entries_item batch group es).items, tail))
    by_list [] some = absurd (some refl)
    by_list (e ∷ es) some = refl

-- entries that a batch doesn't take are an item that it doesn't take
pub entries_refused : (batch : BatchView) (group count : ℕ) (bytes rest tail : List ℕ) (es : List Entry) (e : Fault) → count ≢ 0
    → take_u64 bytes ≡ Some (count, rest) → take_each count rest ≡ Some (es, tail)
    → (size_refusal (with_entries_item batch group es).items ≡ Some e) ⊎ (e ≡ fault.Memory)
    → IsContentRefusal batch.items group (take_entries bytes) (Refused e)
entries_refused batch group count bytes rest tail es e some counted taken (inr memory) = inl memory
entries_refused batch group count bytes rest tail es e some counted taken (inl refusal) =
    map_some (with_taken batch.items group) (take_entries bytes) _ (entries_added batch group count bytes rest tail es some counted taken) (λ c read same.
    let long = size_of (with_entries_item batch group es).items e refusal in
    let items = ap (λ (p : Batch × List ℕ). p.0) same in
    inr (subst (λ (o : Option (Content × List ℕ)). IsSomeAnd o (λ c. IsItemRefusal batch.items (record { group = group; content = c.0 }) e)) (sym read)
    (inr (long.0, subst (λ (b : Batch). 2 ^ 32 ≤ length (entry_bytes b)) (sym items) long.1))))
  where
    size_of : (items : Batch) (e : Fault) → size_refusal items ≡ Some e → (e ≡ fault.Range) × (2 ^ 32 ≤ length (entry_bytes items))
    size_of items e is =
        let kept = cond_some (nat_le (2 ^ 32) (length (entry_bytes items))) fault.Range e is in
        (sym kept.1, leb-true (2 ^ 32) (length (entry_bytes items)) kept.0)

-- Items.

pub items_next : (xs : Batch) (x : Item) (n left : ℕ) (bytes tail : List ℕ) → n ≡ suc left
    → take_item bytes ≡ Some (x, tail)
    → option_map (before (xs ++ x ∷ [])) (take_items left tail) ≡ option_map (before xs) (take_items n bytes)
unfolding take_items
items_next xs x n left bytes tail more taken = rw (more, taken) (before_one xs x (take_items left tail))

pub items_none : (n : ℕ) (bytes : List ℕ) → n ≢ 0 → take_item bytes ≡ None → take_items n bytes ≡ None
unfolding take_items
items_none zero bytes some none = absurd (omega arith)
items_none (suc n) bytes some none = rw none refl

pub items_end : (xs : Batch) (n : ℕ) (bytes : List ℕ) → n ≡ 0 → option_map (before xs) (take_items n bytes) ≡ Some (xs, bytes)
unfolding take_items
items_end xs n bytes none = rw none (ap (λ ys. Some (ys, bytes)) (append-nil xs))

pub item_added : (xs new : Batch) (n left : ℕ) (bytes tail : List ℕ) → n ≡ suc left
    → option_map (with_item_taken xs) (take_item bytes) ≡ Some (new, tail)
    → option_map (before new) (take_items left tail) ≡ option_map (before xs) (take_items n bytes)
item_added xs new n left bytes tail more taken = by_item (take_item bytes) refl taken
  where
    by_item : (o : Option (Item × List ℕ)) → take_item bytes ≡ o → option_map (with_item_taken xs) o ≡ Some (new, tail)
        → option_map (before new) (take_items left tail) ≡ option_map (before xs) (take_items n bytes)
    by_item None is e = absurd cc
    by_item (Some (x, rest)) is e =
        let here : new ≡ xs ++ x ∷ [] = grind (arith, e) in
        let after : tail ≡ rest = grind (arith, e) in
        rw (here, after) (items_next xs x n left bytes rest more is)

-- the items that were read, and one more
items_more : (n : ℕ) (bytes tail rest : List ℕ) (xs : Batch) (x : Item) → take_items n bytes ≡ Some (xs, tail)
    → take_item tail ≡ Some (x, rest) → take_items (suc n) bytes ≡ Some (xs ++ x ∷ [], rest)
unfolding take_items
items_more zero bytes tail rest xs x taken item =
    let same : ([], bytes) ≡ (xs, tail) = same_Some ([], bytes) (xs, tail) taken in
    let here : take_item bytes ≡ Some (x, rest) = subst (λ (p : Batch × List ℕ). take_item p.1 ≡ Some (x, rest)) (sym same) item in
    rw here (ap (λ (p : Batch × List ℕ). Some (p.0 ++ x ∷ [], rest)) same)
items_more (suc n) bytes tail rest xs x taken item =
    option_and_then_some (λ (i : Item × List ℕ). option_map (λ (is : Batch × List ℕ). (i.0 ∷ is.0, is.1)) (take_items n i.1)) (take_item bytes) (xs, tail) taken (λ i first others_taken.
    map_some (λ (is : Batch × List ℕ). (i.0 ∷ is.0, is.1)) (take_items n i.1) (xs, tail) others_taken (λ is others same.
    let here : take_item is.1 ≡ Some (x, rest) = subst (λ (p : Batch × List ℕ). take_item p.1 ≡ Some (x, rest)) (sym same) item in
    let more = items_more n i.1 is.1 rest is.0 x others here in
    rw (first, more) (ap (λ (p : Batch × List ℕ). Some (p.0 ++ x ∷ [], rest)) same)))

pub begun_more : (xs ys new : Batch) (n after : ℕ) (bytes now tail : List ℕ) → after ≡ suc n
    → option_map (before xs) (take_items n bytes) ≡ Some (ys, now) → option_map (with_item_taken ys) (take_item now) ≡ Some (new, tail)
    → option_map (before xs) (take_items after bytes) ≡ Some (new, tail)
begun_more xs ys new n after bytes now tail more begun made =
    map_some (before xs) (take_items n bytes) (ys, now) begun (λ d taken same.
    map_some (with_item_taken ys) (take_item now) (new, tail) made (λ i read here.
    let item : take_item d.1 ≡ Some i = subst (λ (p : Batch × List ℕ). take_item p.1 ≡ Some i) (sym same) read in
    rw (more, items_more n bytes d.1 i.1 d.0 i.0 taken item)
    (ap (λ (b : Batch). Some (b, i.1)) (sym (append_assoc xs d.0 (i.0 ∷ [])))
    ∙ ap (λ (p : Batch × List ℕ). Some (p.0 ++ i.0 ∷ [], i.1)) same
    ∙ ap Some here)))

pub item_refused : (e : BatchFault) (xs ys : Batch) (count past left : ℕ) (bytes rest now : List ℕ) → past < count → left ≢ 0
    → take_u64 bytes ≡ Some (count, rest)
    → option_map (before ys) (take_items left now) ≡ option_map (before xs) (take_items count rest)
    → option_map (before xs) (take_items past rest) ≡ Some (ys, now)
    → IsAddRefusal ys (take_item now) e → IsBatchRefusal xs bytes e
item_refused Malformed xs ys count past left bytes rest now within some counted read begun none =
    let gone : take_items count rest ≡ None = before_none xs (take_items count rest)
    (sym read ∙ ap (option_map (before ys)) (items_none left now some none)) in
    rw (counted, gone) refl
item_refused (Refused f) xs ys count past left bytes rest now within some counted read begun (inl memory) = inl memory
item_refused (Refused f) xs ys count past left bytes rest now within some counted read begun (inr unfit) = by_item (take_item now) refl unfit
  where
    by_item : (o : Option (Item × List ℕ)) → take_item now ≡ o → IsSomeAnd o (λ i. IsItemRefusal ys i.0 f) → IsBatchRefusal xs bytes (Refused f)
    by_item None is none = absurd none
    by_item (Some i) is unfit =
        map_some (before xs) (take_items past rest) (ys, now) begun (λ d taken same.
        let item : take_item d.1 ≡ Some i = subst (λ (p : Batch × List ℕ). take_item p.1 ≡ Some i) (sym same) is in
        let all = items_more past rest d.1 i.1 d.0 i.0 taken item in
        let unfit_here : IsItemRefusal (xs ++ d.0) i.0 f = subst (λ (p : Batch × List ℕ). IsItemRefusal p.0 i.0 f) (sym same) unfit in
        inr (d.0, i.0, ((count, rest), suc past, i.1, counted, omega (arith, within), all), unfit_here))

module _ (xs ys : Batch) (count : ℕ) (bytes rest tail : List ℕ) (counted : take_u64 bytes ≡ Some (count, rest))
    (read : option_map (before xs) (take_items count rest) ≡ Some (ys, tail)) where
  pub items_fill : length tail ≡ 0 → option_map (λ (items : Batch). xs ++ items) (read_batch bytes) ≡ Some ys
  items_fill none = rw counted (by_items (take_items count rest) read)
    where
      by_items : (o : Option (Batch × List ℕ)) → option_map (before xs) o ≡ Some (ys, tail)
          → option_map (λ (items : Batch). xs ++ items) (option_and_then all_items o) ≡ Some ys
      by_items None e = absurd cc
      by_items (Some (is, [])) e = grind (arith, e)
      by_items (Some (is, b ∷ bs)) e = let same : b ∷ bs ≡ tail = grind (arith, e) in absurd (omega (arith, ap length same))

  pub items_left : length tail ≢ 0 → read_batch bytes ≡ None
  items_left some = rw counted (by_items (take_items count rest) read)
    where
      by_items : (o : Option (Batch × List ℕ)) → option_map (before xs) o ≡ Some (ys, tail) → option_and_then all_items o ≡ None
      by_items None e = absurd cc
      by_items (Some (is, [])) e = let same : [] ≡ tail = grind (arith, e) in absurd (omega (arith, ap length same))
      by_items (Some (is, b ∷ bs)) e = refl
