use Rattle.std.proofs.Common.{◌≡◌, ◌∙◌, None, ap, rules, sym}
use Rattle.std.specs.Prelude.{option_map}
use Rattle.raft_lines.specs.Line.{asked_of_call, with_number, words_by}
use Rattle.raft_lines.proofs.LineLemmas.{after_number, without_number}
use Rattle.raft_lines.proofs.line.parse_entries.Goals as goal

pub returns-in_err-group : goal.returns-in_err-group
returns-in_err-group c = record {
  value =
      let none : c.from_residual.result ≡ None = search rules in
      ap (option_map asked_of_call) none ∙ sym (without_number c.args.rest.now (λ group. with_number (λ first. with_number (words_by group first))) c.in_err-group.ensures.value);
}

pub returns-in_err-first : goal.returns-in_err-first
returns-in_err-first c = record {
  value =
      let none : c.from_residual-in_err-first.result ≡ None = search rules in
      let group = c.in_ok-group in
      let n = group.group in
      ap (option_map asked_of_call) none ∙ sym (after_number c.args.rest.now (λ group. with_number (λ first. with_number (words_by group first))) group.ensures.value.0 group.rest.now n group.ensures.value.1 group.ensures.value.2
      ∙ without_number group.rest.now (λ first. with_number (words_by n first)) c.in_err-first.ensures.value);
}

pub returns-in_err-last : goal.returns-in_err-last
returns-in_err-last c = record {
  value =
      let none : c.from_residual-in_err-last.result ≡ None = search rules in
      let group = c.in_ok-group in
      let first = c.in_ok-first in
      let n = group.group in
      ap (option_map asked_of_call) none ∙ sym (after_number c.args.rest.now (λ group. with_number (λ first. with_number (words_by group first))) group.ensures.value.0 group.rest.now n group.ensures.value.1 group.ensures.value.2
      ∙ after_number group.rest.now (λ first. with_number (words_by n first)) first.ensures.value.0 first.rest.now first.first first.ensures.value.1 first.ensures.value.2
      ∙ without_number first.rest.now (words_by n first.first) c.in_err-last.ensures.value);
}

pub returns : goal.returns
returns c = record {
  value =
      let group = c.in_ok-group in
      let first = c.in_ok-first in
      let last = c.in_ok-last in
      let n = group.group in
      c.parse_words.ensures.value ∙ sym (after_number c.args.rest.now (λ group. with_number (λ first. with_number (words_by group first))) group.ensures.value.0 group.rest.now n group.ensures.value.1 group.ensures.value.2
      ∙ after_number group.rest.now (λ first. with_number (words_by n first)) first.ensures.value.0 first.rest.now first.first first.ensures.value.1 first.ensures.value.2
      ∙ after_number first.rest.now (words_by n first.first) last.ensures.value.0 last.rest.now last.last last.ensures.value.1 last.ensures.value.2);
}
