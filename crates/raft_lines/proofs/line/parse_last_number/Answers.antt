use Rattle.std.proofs.Common.{◌≡◌, ◌∙◌, None, rules, sym}
use Rattle.raft_lines.specs.Line.{if_last, words_in}
use Rattle.raft_lines.proofs.LineLemmas.{after_number, nothing_follows, something_follows, without_number}
use Rattle.raft_lines.proofs.line.parse_last_number.Goals as goal

pub returns-in_err-number : goal.returns-in_err-number
returns-in_err-number c = record {
  value =
      let none : c.from_residual.result ≡ None = search rules in
      none ∙ sym (without_number c.args.rest.now if_last c.in_err-number.ensures.value);
}

pub returns-in_err-ends : goal.returns-in_err-ends
returns-in_err-ends c = record {
  value =
      let none : c.from_residual-in_err-ends.result ≡ None = search rules in
      let number = c.in_ok-number in
      none ∙ sym (after_number c.args.rest.now if_last number.ensures.value.0 number.rest.now number.number number.ensures.value.1 number.ensures.value.2
      ∙ something_follows number.number (words_in number.rest.now) (sym c.in_err-ends.ensures.value));
}

pub returns : goal.returns
returns c = record {
  value =
      let number = c.in_ok-number in
      sym (after_number c.args.rest.now if_last number.ensures.value.0 number.rest.now number.number number.ensures.value.1 number.ensures.value.2
      ∙ nothing_follows number.number (words_in number.rest.now) (sym c.in_ok-ends.ensures.value));
}
