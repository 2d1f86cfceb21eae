use Rattle.std.proofs.Common.{◌≡◌, ◌∙◌, None, ap, rules, sym}
use Rattle.std.specs.Prelude.{option_map}
use Rattle.raft_lines.specs.Line.{asked_of_call}
use Rattle.raft_lines.proofs.LineLemmas.{get_without_group}
use Rattle.raft_lines.proofs.line.parse_get.Goals as goal

pub returns-in_err-group : goal.returns-in_err-group
returns-in_err-group c = record {
  value =
      let none : c.from_residual.result ≡ None = search rules in
      ap (option_map asked_of_call) none ∙ sym (get_without_group c.args.rest.now c.in_err-group.ensures.value);
}
