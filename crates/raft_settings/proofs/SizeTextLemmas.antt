-- A size that is written is read back.
use Rattle.std.proofs.Common.{◌≡◌, ◌==◌, ℕ, zero, suc, ◌≤◌, ◌+◌, ◌*◌, ◌/◌, ◌%◌, ◌^◌, ◌<◌, true, false, not, List, [], ◌∷◌, ◌++◌, length, fold, ◌-◌, Some, refl, ap, ◌∙◌, inl, inr, arith}
use Rattle.std.specs.Char.{is_ascii_digit}
use Rattle.std.specs.Fmt.{decimal}
use Rattle.std.specs.List.{position_or_len}
use Rattle.std.specs.Str.{all_ascii_digits}
use Rattle.std.proofs.Math.Nat.{mul-suc}
use Rattle.std.proofs.Math.Seq.{take-append_seam, drop-append_seam}
use Rattle.std.proofs.lemmas.Bool.{and_parts, cases_Bool, lt-ltb}
use Rattle.std.proofs.lemmas.Bool.Decides.{nat_tests}
use Rattle.std.proofs.lemmas.Fmt.{decimal_nonempty, digits_decimal, digits_value-decimal}
use Rattle.std.proofs.lemmas.Str.Parse.{IsNumeralModel, numerals_by_fold, tells_all_ascii_digits}
use Rattle.raft_base.specs.Size.{decimal as read_decimal, scaled, size_in, unit_size}
use Rattle.raft_settings.specs.Writing.{size_text}

model : IsNumeralModel (λ ds. all_ascii_digits ds ≡ true) read_decimal
model = numerals_by_fold _ tells_all_ascii_digits (λ n ds. fold (λ number digit. 10 * number + (digit - 48)) n ds)
    (record {
      empty = λ n. refl;
      more = λ n c cs h. ap (λ (k : ℕ). fold (λ number digit. 10 * number + (digit - 48)) k cs) (omega arith);
    })

digits_end : (ds : List ℕ) (u : ℕ) (us : List ℕ) → all_ascii_digits ds ≡ true → is_ascii_digit u ≡ false
    → position_or_len (λ b. not (is_ascii_digit b)) (ds ++ u ∷ us) ≡ length ds
digits_end [] u us all other = rw other refl
digits_end (d ∷ ds) u us all other =
    let (here, more) = and_parts (is_ascii_digit d) (all_ascii_digits ds) all in
    rw (here, digits_end ds u us more other) (omega arith)

scaled_is : (ds : List ℕ) (unit : ℕ) → 0 < length ds → read_decimal ds * unit < 2 ^ 64 → scaled ds unit ≡ Some (read_decimal ds * unit)
scaled_is [] unit some fits = absurd (omega arith)
scaled_is (d ∷ ds) unit some fits = rw (lt-ltb _ _ fits) refl

text_is : (count unit u : ℕ) (us : List ℕ) → count < 2 ^ 64 → count * unit < 2 ^ 64 → is_ascii_digit u ≡ false → unit_size (u ∷ us) ≡ Some unit
    → size_in (decimal count ++ u ∷ us) ≡ Some (count * unit)
text_is count unit u us small fits other is =
    let all : all_ascii_digits (decimal count) ≡ true = digits_decimal model count small in
    let value : read_decimal (decimal count) ≡ count = digits_value-decimal model count small in
    rw (digits_end (decimal count) u us all other, take-append_seam (decimal count) (u ∷ us), drop-append_seam (decimal count) (u ∷ us), is)
    (scaled_is (decimal count) unit (decimal_nonempty count small) (rw value fits) ∙ ap (λ (k : ℕ). Some (k * unit)) value)

tested : (n : ℕ) → (n == 0) ≡ true → n ≡ 0
tested n is = grind (arith, nat_tests)

no_more : (bytes unit : ℕ) → 0 < unit → bytes / unit * unit ≡ bytes → bytes / unit ≤ bytes
no_more bytes zero some back = absurd (omega arith)
no_more bytes (suc unit) some back = omega (arith, mul-suc (bytes / suc unit) unit, back)

-- so many of a unit that divides them
whole : (bytes unit u : ℕ) (us : List ℕ) → 0 < unit → bytes < 2 ^ 64 → bytes / unit * unit ≡ bytes → is_ascii_digit u ≡ false → unit_size (u ∷ us) ≡ Some unit
    → size_in (decimal (bytes / unit) ++ u ∷ us) ≡ Some bytes
whole bytes unit u us some fits back other is =
    text_is (bytes / unit) unit u us (omega (arith, no_more bytes unit some back)) (rw back fits) other is ∙ ap Some back

-- a size that is written is read back
pub size_in-size_text : (bytes : ℕ) → bytes < 2 ^ 64 → size_in (size_text bytes) ≡ Some bytes
size_in-size_text bytes fits = elim (cases_Bool (bytes == 0)) [
  | inl none ↦ rw none (text_is bytes 1 66 [] fits (omega arith) refl refl ∙ ap Some (omega arith))
  | inr some ↦ elim (cases_Bool (bytes % 2 ^ 10 == 0)) [
    | inr odd ↦ rw (some, odd) (text_is bytes 1 66 [] fits (omega arith) refl refl ∙ ap Some (omega arith))
    | inl kb ↦ let kbs = tested _ kb in elim (cases_Bool (bytes % 2 ^ 20 == 0)) [
      | inr odd ↦ rw (some, kb, odd) (whole bytes (2 ^ 10) 75 (66 ∷ []) (omega arith) fits (omega arith) refl refl)
      | inl mb ↦ let mbs = tested _ mb in elim (cases_Bool (bytes % 2 ^ 30 == 0)) [
        | inr odd ↦ rw (some, kb, mb, odd) (whole bytes (2 ^ 20) 77 (66 ∷ []) (omega arith) fits (omega arith) refl refl)
        | inl gb ↦ let gbs = tested _ gb in rw (some, kb, mb, gb) (whole bytes (2 ^ 30) 71 (66 ∷ []) (omega arith) fits (omega arith) refl refl)
      ]
    ]
  ]
]
