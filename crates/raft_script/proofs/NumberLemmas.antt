-- The number that digits spell, one by one.
use Rattle.std.proofs.Common.{◌≡◌, ℕ, ◌+◌, ◌-◌, ◌*◌, ◌^◌, ◌<◌, ◌≤◌, ◌&&◌, nat_lt, Bool, true, false, cond, List, [], ◌∷◌, length, drop, get_or, Option, Some, None, refl, ◌∙◌, ap, arith}
use Rattle.std.specs.Char.{digit_value, is_ascii_digit}
use Rattle.std.specs.Str.{all_ascii_digits}
use Rattle.std.specs.Str.Parse.{digits_value_after}
use Rattle.std.proofs.lemmas.Bool.{le-ltb, lt-ltb}
use Rattle.std.proofs.lemmas.List.{drop_all, drop_more}

-- the number of digits that follow those of another number
abbrev pub number_from : ℕ → List ℕ → Option ℕ
number_from n digits = cond (all_ascii_digits digits && nat_lt (digits_value_after 10 n digits) (2 ^ 64)) (Some (digits_value_after 10 n digits)) None

digit_value-digit : (c : ℕ) → 48 ≤ c → c ≤ 57 → digit_value c ≡ c - 48
digit_value-digit c low high =
    ap (λ b. cond b 36 (cond (nat_lt c 58) (c - 48) (cond (nat_lt c 65) 36 (cond (nat_lt c 91) (c - 55) (cond (nat_lt c 97) 36 (cond (nat_lt c 123) (c - 87) 36)))))) (le-ltb c 48 low)
    ∙ ap (λ b. cond b (c - 48) (cond (nat_lt c 65) 36 (cond (nat_lt c 91) (c - 55) (cond (nat_lt c 97) 36 (cond (nat_lt c 123) (c - 87) 36))))) (lt-ltb c 58 (omega arith))

value_after_more : (n : ℕ) (digits : List ℕ) → n ≤ digits_value_after 10 n digits
value_after_more n [] = omega arith
value_after_more n (c ∷ cs) = omega (arith, value_after_more (n * 10 + digit_value c) cs)

pub number_from-digit : (n c : ℕ) (digits : List ℕ) → is_ascii_digit c ≡ true → 48 ≤ c → c ≤ 57 → number_from n (c ∷ digits) ≡ number_from (n * 10 + (c - 48)) digits
number_from-digit n c digits e low high =
    ap (λ b. cond (b && all_ascii_digits digits && nat_lt (digits_value_after 10 (n * 10 + digit_value c) digits) (2 ^ 64)) (Some (digits_value_after 10 (n * 10 + digit_value c) digits)) None) e
    ∙ ap (λ v. number_from (n * 10 + v) digits) (digit_value-digit c low high)

pub number_from-over : (n : ℕ) (digits : List ℕ) → 2 ^ 64 ≤ n → number_from n digits ≡ None
number_from-over n digits over =
    ap (λ b. cond (all_ascii_digits digits && b) (Some (digits_value_after 10 n digits)) None) (le-ltb (digits_value_after 10 n digits) (2 ^ 64) (omega (arith, over, value_after_more n digits)))
    ∙ by_test (all_ascii_digits digits)
  where
    by_test : (b : Bool) → cond (b && false) (Some (digits_value_after 10 n digits)) None ≡ None
    by_test true = refl
    by_test false = refl

-- the digits from a place on
pub number_next : (word : List ℕ) (i n : ℕ) → i < length word → is_ascii_digit (get_or word i 0) ≡ true → 48 ≤ get_or word i 0 → get_or word i 0 ≤ 57 → number_from n (drop i word) ≡ number_from (n * 10 + (get_or word i 0 - 48)) (drop (i + 1) word)
number_next word i n within digit low high = ap (number_from n) (drop_more word i 0 within) ∙ number_from-digit n (get_or word i 0) (drop (i + 1) word) digit low high

pub number_over : (word : List ℕ) (i n : ℕ) → i < length word → is_ascii_digit (get_or word i 0) ≡ true → 48 ≤ get_or word i 0 → get_or word i 0 ≤ 57 → 2 ^ 64 ≤ n * 10 + (get_or word i 0 - 48) → number_from n (drop i word) ≡ None
number_over word i n within digit low high over = number_next word i n within digit low high ∙ number_from-over (n * 10 + (get_or word i 0 - 48)) (drop (i + 1) word) over

pub number_ends : (word : List ℕ) (i n : ℕ) → length word ≤ i → n < 2 ^ 64 → number_from n (drop i word) ≡ Some n
number_ends word i n past small = ap (number_from n) (drop_all i word past) ∙ ap (λ b. cond b (Some n) None) (lt-ltb n (2 ^ 64) small)
