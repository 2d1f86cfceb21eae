use Rattle.std.proofs.Common.{◌≡◌, ◌∙◌, ℕ, None, ap, rules, sym}
use Rattle.std.specs.Prelude.{option_map}
use Rattle.raft_lines.specs.Line.{number_by, words_in}
use Rattle.raft_lines.proofs.LineLemmas.{after_number, map-and_then, without_number}
use Rattle.raft_lines.proofs.line.parse_two_numbers.Goals as goal

pub returns-in_err-first : goal.returns-in_err-first
returns-in_err-first c = record {
  value =
      let none : c.from_residual.result ≡ None = search rules in
      none ∙ sym (without_number c.args.rest.now (λ first rest. option_map (λ second. (first, second)) (number_by rest)) c.in_err-first.ensures.value);
}

pub returns-in_err-second : goal.returns-in_err-second
returns-in_err-second c = record {
  value =
      let none : c.from_residual-in_err-second.result ≡ None = search rules in
      let first = c.in_ok-first in
      let pair : ℕ → ℕ × ℕ = λ second. (first.first, second) in
      none ∙ sym (after_number c.args.rest.now (λ first rest. option_map (λ second. (first, second)) (number_by rest)) first.ensures.value.0 first.rest.now first.first first.ensures.value.1 first.ensures.value.2
      ∙ map-and_then pair number_by (words_in first.rest.now) ∙ ap (option_map pair) (sym c.in_err-second.ensures.value));
}

pub returns : goal.returns
returns c = record {
  value =
      let first = c.in_ok-first in
      let pair : ℕ → ℕ × ℕ = λ second. (first.first, second) in
      sym (after_number c.args.rest.now (λ first rest. option_map (λ second. (first, second)) (number_by rest)) first.ensures.value.0 first.rest.now first.first first.ensures.value.1 first.ensures.value.2
      ∙ map-and_then pair number_by (words_in first.rest.now) ∙ ap (option_map pair) (sym c.in_ok-second.ensures.value));
}
