use Rattle.std.proofs.Common.{◌≡◌, ◌∙◌, None, ap, rules, sym}
use Rattle.std.specs.Prelude.{option_map}
use Rattle.raft_lines.specs.Line.{asked_of_call, numbered_by, with_number}
use Rattle.raft_lines.proofs.LineLemmas.{after_number, without_number}
use Rattle.raft_lines.proofs.line.parse_once.Goals as goal

pub returns-in_err-group : goal.returns-in_err-group
returns-in_err-group c = record {
  value =
      let none : c.from_residual.result ≡ None = search rules in
      ap (option_map asked_of_call) none ∙ sym (without_number c.args.rest.now (λ group. with_number (numbered_by group)) c.in_err-group.ensures.value);
}

pub returns-in_err-number : goal.returns-in_err-number
returns-in_err-number c = record {
  value =
      let none : c.from_residual-in_err-number.result ≡ None = search rules in
      let group = c.in_ok-group in
      let n = group.group in
      ap (option_map asked_of_call) none ∙ sym (after_number c.args.rest.now (λ group. with_number (numbered_by group)) group.ensures.value.0 group.rest.now n group.ensures.value.1 group.ensures.value.2
      ∙ without_number group.rest.now (numbered_by n) c.in_err-number.ensures.value);
}

pub returns : goal.returns
returns c = record {
  value =
      let group = c.in_ok-group in
      let number = c.in_ok-number in
      let n = group.group in
      c.parse_numbered.ensures.value ∙ sym (after_number c.args.rest.now (λ group. with_number (numbered_by group)) group.ensures.value.0 group.rest.now n group.ensures.value.1 group.ensures.value.2
      ∙ after_number group.rest.now (numbered_by n) number.ensures.value.0 number.rest.now number.number number.ensures.value.1 number.ensures.value.2);
}
