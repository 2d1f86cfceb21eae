use Rattle.std.proofs.Common.{◌≡◌, ◌∙◌, None, ap, codes, option_map, rules, sym}
use Rattle.raft_lines.specs.Line.{Groups, asked_of, words_in}
use Rattle.raft_lines.proofs.LineLemmas.{asked_groups, nothing_follows, something_follows}
use Rattle.raft_lines.proofs.line.parse_of_group.Goals as goal

pub returns-in_err-ends : goal.returns-in_err-ends
returns-in_err-ends c = record {
  value =
      let found = words_in c.args.rest.now in
      let is : c.args.verb.now ≡ codes "groups" = search rules in
      let none : c.from_residual-in_err-ends.result ≡ None = search rules in
      ap (option_map asked_of) none ∙ sym (asked_groups c.args.verb.now found is ∙ something_follows Groups found (sym c.in_err-ends.ensures.value));
}

pub returns-in_ok-ends : goal.returns-in_ok-ends
returns-in_ok-ends c = record {
  value =
      let found = words_in c.args.rest.now in
      let is : c.args.verb.now ≡ codes "groups" = search rules in
      sym (asked_groups c.args.verb.now found is ∙ nothing_follows Groups found (sym c.in_ok-ends.ensures.value));
}
