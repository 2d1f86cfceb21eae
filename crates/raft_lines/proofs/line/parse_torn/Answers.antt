use Rattle.std.proofs.Common.{◌≡◌, ◌∙◌, None, rules, sym}
use Rattle.raft_lines.proofs.LineLemmas.{torn_without_fill, torn_without_kept}
use Rattle.raft_lines.proofs.line.parse_torn.Goals as goal

pub returns-in_err-kept : goal.returns-in_err-kept
returns-in_err-kept c = record {
  value =
      let none : c.from_residual.result ≡ None = search rules in
      none ∙ sym (torn_without_kept c.args.rest.now c.in_err-kept.ensures.value);
}

pub returns-in_err-fill : goal.returns-in_err-fill
returns-in_err-fill c = record {
  value =
      let none : c.from_residual-in_err-fill.result ≡ None = search rules in
      none ∙ sym (torn_without_fill c.in_ok-kept.rest.now c.in_err-fill.ensures.value c.args.rest.now c.in_ok-kept.ensures.value.0 c.in_ok-kept.ensures.value.2);
}
