-- The receipts of a seat beside its calls, from one of them on.
use Rattle.std.proofs.Common.{◌≡◌, ◌∙◌, ℕ, ◌≤◌, List, [], IsTrue, arith, drop, length, map, nat_eq, sym, ap}
use Rattle.std.proofs.Math.ListN.{drop_of_length-le}
use Rattle.std.proofs.lemmas.Bool.{eq-eqb, eqb-true}
use Rattle.std.proofs.lemmas.List.{length-drop, length-map}
use Rattle.raft_shared.specs.Words.{calls_of, event_of, told_by}
use Rattle.raft_shared.specs.declared.call.Receipt.{Receipt}
use Rattle.raft_shared.specs.declared.call.Recorded.{Recorded}

-- all receipts are the calls just where those from here on are those from there on
abbrev pub IsSameLeft : ℕ → List Receipt → List Recorded → ℕ → ℕ → Type 0
IsSameLeft seat receipts trail next number =
    ((map told_by receipts ≡ calls_of seat 0 (map event_of trail)) → map told_by (drop next receipts) ≡ calls_of seat number (map event_of (drop number trail)))
    × ((map told_by (drop next receipts) ≡ calls_of seat number (map event_of (drop number trail))) → map told_by receipts ≡ calls_of seat 0 (map event_of trail))

-- past the last call
pub settled_at_end : (seat : ℕ) (receipts : List Receipt) (trail : List Recorded) (next number : ℕ) → next ≤ length receipts → length trail ≤ number → IsSameLeft seat receipts trail next number
    → (IsTrue (nat_eq next (length receipts)) → map told_by receipts ≡ calls_of seat 0 (map event_of trail)) × ((map told_by receipts ≡ calls_of seat 0 (map event_of trail)) → IsTrue (nat_eq next (length receipts)))
settled_at_end seat receipts trail next number within past left =
    let none : calls_of seat number (map event_of (drop number trail)) ≡ [] = ap (λ rs. calls_of seat number (map event_of rs)) (drop_of_length-le trail past) in (
      (λ e. let all : length receipts ≤ next = omega (arith, eqb-true next (length receipts) e) in left.1 (ap (map told_by) (drop_of_length-le receipts all) ∙ sym none)),
      (λ e.
          let rest : length (map told_by (drop next receipts)) ≡ 0 = ap length (left.0 e ∙ none) in
          let same : next ≡ length receipts = omega (arith, within, rest, length-map (drop next receipts) told_by, length-drop next receipts) in
          eq-eqb next (length receipts) same),
    )
