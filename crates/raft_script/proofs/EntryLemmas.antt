-- Entries of text as bytes.
use Rattle.std.proofs.Common.{◌≡◌, ℕ, ◌^◌, ◌<◌, ◌==◌, ◌&&◌, not, nat_lt, Bool, true, false, cond, List, [], ◌∷◌, ◌++◌, length, get_or, map, take, drop, suc, zero, ◌+◌, ◌-◌, ◌≤◌, Option, Some, None, MatchOption, refl, sym, ◌∙◌, ap, arith}
use Rattle.std.specs.Prelude.{Vec}
use Rattle.std.specs.declared.alloc.Global.{Global}
use Rattle.std.specs.Fmt.{decimal}
use Rattle.std.specs.Int.{IsInRange}
use Rattle.std.specs.Char.{is_ascii_digit}
use Rattle.std.specs.List.{position_or_len, range_with_len}
use Rattle.std.proofs.lemmas.List.FromFn.{map-range_with_len_more}
use Rattle.std.specs.Str.{all_ascii_digits}
use Rattle.std.specs.Str.Parse.{IsNumeral, digits_value}
use Rattle.std.proofs.lemmas.Bool.Decides.{nat_tests}
use Rattle.std.proofs.lemmas.Bool.{eqb-true, lt-ltb}
use Rattle.std.proofs.lemmas.List.{length-append, length-map, map-append, take-append-drop, take_all}
use Rattle.std.proofs.Math.Seq.{drop-append_seam, take-append_seam}
use Rattle.std.proofs.lemmas.Fmt.{decimal-digits_value, decimal_digit, decimal_is_IsNumeral, decimal_nonempty, first_decimal}
use Rattle.std.proofs.lemmas.Str.Parse.{IsNumeralModel, numerals_by_value, tells_all_ascii_digits, digit_at}
use Rattle.raft_records.specs.Batch.{raw_entries}
use Rattle.raft_records.specs.Item.{Entry}
use Rattle.raft_records.specs.declared.entry_index.EntryIndex.{EntryIndex}
use Rattle.raft_script.proofs.RunLemmas.{taken_more}
use Rattle.raft_script.specs.Number.{number_in}
use Rattle.raft_script.specs.Entry.{text_bytes, text_entry}
use Rattle.raft_script.specs.Batches.{indexed_bytes}

digits_model : IsNumeralModel (λ ds. all_ascii_digits ds ≡ true) (digits_value 10)
digits_model = numerals_by_value _ tells_all_ascii_digits

-- Indexes.

module _ (number : ℕ) (small : number < 2 ^ 64) where
  numeral : IsNumeral 10 (decimal number) × (digits_value 10 (decimal number) ≡ number)
  numeral = decimal_is_IsNumeral number small

  decimal_digits : all_ascii_digits (decimal number) ≡ true
  decimal_digits = digits_model.from _ numeral.0.1

  number_in-decimal : number_in (decimal number) ≡ Some number
  number_in-decimal = rw (decimal_digits, numeral.1, lt-ltb number (2 ^ 64) small) refl

-- what is no number is printed of none
no_decimal : (digits : List ℕ) → number_in digits ≡ None → (number : ℕ) → number < 2 ^ 64 → digits ≡ decimal number → ⊥
no_decimal digits none number small is = let both : Some number ≡ None = sym (number_in-decimal number small) ∙ ap number_in (sym is) ∙ none in cc

pub empty_decimal : (digits : List ℕ) → length digits ≡ 0 → (number : ℕ) → number < 2 ^ 64 → digits ≡ decimal number → ⊥
empty_decimal digits none number small is = absurd (omega (arith, none, ap length is, decimal_nonempty number small))

-- two digits of which the first is 0
pub zero_decimal : (digits : List ℕ) → 2 ≤ length digits → get_or digits 0 0 ≡ 48 → (number : ℕ) → number < 2 ^ 64 → digits ≡ decimal number → ⊥
zero_decimal digits two first zero small is = absurd (omega (arith, two, ap length (is ∙ decimal_digit 0 (omega arith))))
zero_decimal digits two first (suc n) small is = absurd (omega (arith, first, ap (λ d. get_or d 0 0) is, first_decimal (suc n) (omega arith) small))

-- the number of digits without zeros before it is printed as these
decimal_of : (digits : List ℕ) (number : ℕ) → number_in digits ≡ Some number → 1 ≤ length digits → (get_or digits 0 0 ≡ 48 → length digits ≡ 1) → digits ≡ decimal number
decimal_of digits number is some lead = by_digits (all_ascii_digits digits) refl
  where
    by_value : (b : Bool) → nat_lt (digits_value 10 digits) (2 ^ 64) ≡ b → all_ascii_digits digits ≡ true → cond b (Some (digits_value 10 digits)) None ≡ Some number → digits ≡ decimal number
    by_value true small all e =
        let value : digits_value 10 digits ≡ number = cc in
        sym (decimal-digits_value digits_model digits all some lead (grind (arith, nat_tests))) ∙ ap decimal value
    by_value false small all e = cc

    by_digits : (b : Bool) → all_ascii_digits digits ≡ b → digits ≡ decimal number
    by_digits true all = by_value (nat_lt (digits_value 10 digits) (2 ^ 64)) refl all (sym (ap (λ b. cond (b && nat_lt (digits_value 10 digits) (2 ^ 64)) (Some (digits_value 10 digits)) None) all) ∙ is)
    by_digits false all = let none : None ≡ Some number = sym (ap (λ b. cond (b && nat_lt (digits_value 10 digits) (2 ^ 64)) (Some (digits_value 10 digits)) None) all) ∙ is in cc

-- what is read of digits without zeros before them
pub number_found : (digits : List ℕ) (r : Option ℕ) → r ≡ number_in digits → 1 ≤ length digits → (get_or digits 0 0 ≡ 48 → length digits ≡ 1)
    → MatchOption r ((number : ℕ) → number < 2 ^ 64 → digits ≡ decimal number → ⊥) (λ number. digits ≡ decimal number)
number_found digits None is some lead = no_decimal digits (sym is)
number_found digits (Some number) is some lead = decimal_of digits number (sym is) some lead

-- Colons.

abbrev pub is_colon : ℕ → Bool
is_colon b = b == 58

-- the first colon stands after the digits
colon_place : (digits word : List ℕ) → all_ascii_digits digits ≡ true → position_or_len is_colon (digits ++ 58 ∷ word) ≡ length digits
colon_place [] word all = refl
colon_place (d ∷ ds) word all =
    let in_range : IsInRange 48 57 d = digit_at (d ∷ ds) 0 (digits_model.to (d ∷ ds) all) (omega arith) in
    let other : is_colon d ≡ false = grind (arith, nat_tests, in_range) in
    let rest : all_ascii_digits ds ≡ true = by_first (is_ascii_digit d) all in
    ap (λ b. cond (not b) (1 + position_or_len is_colon (ds ++ 58 ∷ word)) 0) other ∙ ap (λ n. 1 + n) (colon_place ds word rest) ∙ omega arith
  where
    by_first : (b : Bool) → (b && all_ascii_digits ds) ≡ true → all_ascii_digits ds ≡ true
    by_first true e = e
    by_first false e = cc

-- what stands from the first colon on begins with it
first_colon : (bytes : List ℕ) (b : ℕ) (bs : List ℕ) → drop (position_or_len is_colon bytes) bytes ≡ b ∷ bs → b ≡ 58
first_colon [] b bs is = cc
first_colon (c ∷ cs) b bs is = by_test (is_colon c) refl (first_colon cs b bs)
  where
    by_test : (t : Bool) → is_colon c ≡ t → (drop (position_or_len is_colon cs) cs ≡ b ∷ bs → b ≡ 58) → b ≡ 58
    by_test true e rest =
        let here : position_or_len is_colon (c ∷ cs) ≡ 0 = ap (λ t. cond (not t) (1 + position_or_len is_colon cs) 0) e in
        let same : c ∷ cs ≡ b ∷ bs = sym (ap (λ n. drop n (c ∷ cs)) here) ∙ is in
        let first : c ≡ b = cc in sym first ∙ eqb-true c 58 e
    by_test false e rest =
        let later : position_or_len is_colon (c ∷ cs) ≡ 1 + position_or_len is_colon cs = ap (λ t. cond (not t) (1 + position_or_len is_colon cs) 0) e in
        let more : 1 + position_or_len is_colon cs ≡ suc (position_or_len is_colon cs) = omega arith in
        rest (sym (ap (λ n. drop n (c ∷ cs)) (later ∙ more)) ∙ is)

module _ (bytes digits rest : List ℕ) (len : ℕ) (len_is : len ≡ position_or_len is_colon bytes) (digits_is : digits ≡ take len bytes) (rest_is : rest ≡ drop len bytes) where
  -- bytes of an entry are cut at the colon
  cut_there : (index : ℕ) (word : List ℕ) → index < 2 ^ 64 → bytes ≡ text_bytes index word → (digits ≡ decimal index) × (rest ≡ 58 ∷ word)
  cut_there index word small is =
      let place : len ≡ length (decimal index) = len_is ∙ ap (position_or_len is_colon) is ∙ colon_place (decimal index) word (decimal_digits index small) in (
        digits_is ∙ ap (λ n. take n bytes) place ∙ ap (take (length (decimal index))) is ∙ take-append_seam (decimal index) (58 ∷ word),
        rest_is ∙ ap (λ n. drop n bytes) place ∙ ap (drop (length (decimal index))) is ∙ drop-append_seam (decimal index) (58 ∷ word),
      )

  pub no_colon : length rest ≡ 0 → (index : ℕ) (word : List ℕ) → index < 2 ^ 64 → bytes ≡ text_bytes index word → ⊥
  no_colon none index word small is = absurd (omega (arith, none, ap length (cut_there index word small is).1))

  pub no_index : ((number : ℕ) → number < 2 ^ 64 → digits ≡ decimal number → ⊥) → (index : ℕ) (word : List ℕ) → index < 2 ^ 64 → bytes ≡ text_bytes index word → ⊥
  no_index none index word small is = none index small (cut_there index word small is).0

  pub cut_bytes : (number : ℕ) → 1 ≤ length rest → digits ≡ decimal number → bytes ≡ text_bytes number (take (length rest - 1) (drop 1 rest))
  cut_bytes number some is = by_rest rest some rest_is
    where
      by_rest : (r : List ℕ) → 1 ≤ length r → r ≡ drop len bytes → bytes ≡ text_bytes number (take (length r - 1) (drop 1 r))
      by_rest [] none from = absurd (omega (arith, none))
      by_rest (b ∷ bs) one from =
          let colon : b ≡ 58 = first_colon bytes b bs (ap (λ n. drop n bytes) (sym len_is) ∙ sym from) in
          sym (take-append-drop len bytes) ∙ ap (λ d. d ++ drop len bytes) (sym digits_is ∙ is) ∙ ap (λ r. decimal number ++ r) (sym from)
          ∙ ap (λ c. decimal number ++ c ∷ bs) colon ∙ ap (λ w. text_bytes number w) (sym (take_all (length (b ∷ bs) - 1) bs (omega arith)))

-- Entries one after the other.

pub entries_more : (first index : ℕ) (word : List ℕ) (old new : List (ℕ × Vec ℕ Global)) (text : Vec ℕ Global) → first ≤ index → map indexed_bytes old ≡ map (text_entry word) (range_with_len first (index - first)) → new ≡ old ++ (index, text) ∷ [] → text.items ≡ text_bytes index word
    → map indexed_bytes new ≡ map (text_entry word) (range_with_len first (index + 1 - first))
entries_more first index word old new text low entries more text_is =
    ap (map indexed_bytes) more ∙ map-append indexed_bytes old ((index, text) ∷ []) ∙ ap (λ (bytes : List ℕ). map indexed_bytes old ++ (index, bytes) ∷ []) text_is
    ∙ ap (λ (l : List Entry). l ++ text_entry word index ∷ []) entries
    ∙ sym (map-range_with_len_more (text_entry word) first (index - first) index (omega (arith, low)))
    ∙ ap (λ k. map (text_entry word) (range_with_len first k)) (omega (arith, low))

-- Entries as indexes and bytes apart.

raw_push : (xs : List EntryIndex) (bs : List (List ℕ)) (x : EntryIndex) (b : List ℕ) → length xs ≡ length bs → raw_entries (xs ++ x ∷ []) (bs ++ b ∷ []) ≡ raw_entries xs bs ++ (x.index, b) ∷ []
raw_push [] [] x b same = refl
raw_push [] (c ∷ bs) x b same = absurd (omega arith)
raw_push (y ∷ xs) [] x b same = absurd (omega arith)
raw_push (y ∷ xs) (c ∷ bs) x b same = rw (raw_push xs bs x b (omega arith)) refl

module _ (indexes new_indexes : List EntryIndex) (index : EntryIndex) (copies new_copies : List (Vec ℕ Global)) (copy : Vec ℕ Global) (indexes_are : new_indexes ≡ indexes ++ index ∷ []) (copies_are : new_copies ≡ copies ++ copy ∷ []) (same : length indexes ≡ length copies) where
  pub same_more : length new_indexes ≡ length new_copies
  same_more = ap length indexes_are ∙ length-append indexes (index ∷ []) ∙ ap (λ (n : ℕ). n + 1) same ∙ sym (length-append copies (copy ∷ [])) ∙ ap length (sym copies_are)

  -- the first entries, with one more
  pub split_more : (entries : List (ℕ × Vec ℕ Global)) (i : ℕ) (entry : ℕ × Vec ℕ Global) → i < length entries → entry ≡ get_or entries i entry → index.index ≡ entry.0 → copy.items ≡ entry.1.items
      → raw_entries indexes (map (λ (v : Vec ℕ Global). v.items) copies) ≡ map indexed_bytes (take i entries)
      → raw_entries new_indexes (map (λ (v : Vec ℕ Global). v.items) new_copies) ≡ map indexed_bytes (take (i + 1) entries)
  split_more entries i entry within is index_is copy_is kept =
      ap (λ (l : List EntryIndex). raw_entries l (map (λ (v : Vec ℕ Global). v.items) new_copies)) indexes_are
      ∙ ap (λ (l : List (Vec ℕ Global)). raw_entries (indexes ++ index ∷ []) (map (λ (v : Vec ℕ Global). v.items) l)) copies_are
      ∙ ap (raw_entries (indexes ++ index ∷ [])) (map-append (λ (v : Vec ℕ Global). v.items) copies (copy ∷ []))
      ∙ raw_push indexes (map (λ (v : Vec ℕ Global). v.items) copies) index copy.items (same ∙ sym (length-map copies (λ (v : Vec ℕ Global). v.items)))
      ∙ ap (λ (l : List Entry). l ++ (index.index, copy.items) ∷ []) kept
      ∙ ap (λ (n : ℕ). map indexed_bytes (take i entries) ++ (n, copy.items) ∷ []) index_is
      ∙ ap (λ (b : List ℕ). map indexed_bytes (take i entries) ++ (entry.0, b) ∷ []) copy_is
      ∙ sym (map-append indexed_bytes (take i entries) (entry ∷ []))
      ∙ ap (map indexed_bytes) (sym (taken_more entries i entry within is))
