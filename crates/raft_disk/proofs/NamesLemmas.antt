-- Names of a log's files.
use Rattle.std.proofs.Common.{◌≡◌, ◌∙◌, ℕ, ◌≤◌, ◌&&◌, Bool, true, nat_le, List, length, take, drop, ap, sym, arith}
use Rattle.std.specs.Char.{is_ascii_digit}
use Rattle.std.specs.List.{IsSplitAt, list_all}
use Rattle.std.proofs.lemmas.Bool.Decides.{nat_tests}
use Rattle.raft_disk.specs.Names.{is_log_end, is_log_name}

-- a name of a number and an end
pub named : (name bytes number end : List ℕ) (is : Bool) → bytes ≡ name → IsSplitAt bytes 16 number end → list_all is_ascii_digit number ≡ true → is ≡ is_log_end end → is ≡ is_log_name name
named name bytes number end is same split digits ended =
    let front : take 16 name ≡ number = sym (split.1 ∙ ap (take 16) same) in
    let back : drop 16 name ≡ end = sym (split.2 ∙ ap (drop 16) same) in
    let within : 16 ≤ length name = omega (arith, split.0, ap length same) in
    let long : nat_le 16 (length name) ≡ true = grind (arith, nat_tests, within) in
    ended ∙ sym (
    ap (λ (b : Bool). b && (list_all is_ascii_digit (take 16 name) && is_log_end (drop 16 name))) long
    ∙ ap (λ (b : Bool). b && is_log_end (drop 16 name)) (ap (list_all is_ascii_digit) front ∙ digits)
    ∙ ap is_log_end back
    )
