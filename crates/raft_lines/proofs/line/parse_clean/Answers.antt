use Rattle.std.proofs.Common.{◌≡◌, ◌∙◌, None, ap, rules, sym}
use Rattle.std.specs.Prelude.{option_map}
use Rattle.raft_lines.specs.Line.{Clean, asked_of_call, sync_by, words_in}
use Rattle.raft_lines.proofs.LineLemmas.{after_number, map-and_then, without_number}
use Rattle.raft_lines.proofs.line.parse_clean.Goals as goal

pub returns-in_err-group : goal.returns-in_err-group
returns-in_err-group c = record {
  value =
      let none : c.from_residual.result ≡ None = search rules in
      ap (option_map asked_of_call) none ∙ sym (without_number c.args.rest.now (λ group rest. option_map (Clean group) (sync_by rest)) c.in_err-group.ensures.value);
}

pub returns-in_err-sync : goal.returns-in_err-sync
returns-in_err-sync c = record {
  value =
      let none : c.from_residual-in_err-sync.result ≡ None = search rules in
      let group = c.in_ok-group in
      ap (option_map asked_of_call) none ∙ sym (after_number c.args.rest.now (λ group rest. option_map (Clean group) (sync_by rest)) group.ensures.value.0 group.rest.now group.group group.ensures.value.1 group.ensures.value.2
      ∙ map-and_then (Clean group.group) sync_by (words_in group.rest.now) ∙ ap (option_map (Clean group.group)) (sym c.in_err-sync.ensures.value));
}

pub returns : goal.returns
returns c = record {
  value =
      let group = c.in_ok-group in
      sym (after_number c.args.rest.now (λ group rest. option_map (Clean group) (sync_by rest)) group.ensures.value.0 group.rest.now group.group group.ensures.value.1 group.ensures.value.2
      ∙ map-and_then (Clean group.group) sync_by (words_in group.rest.now) ∙ ap (option_map (Clean group.group)) (sym c.in_ok-sync.ensures.value));
}
