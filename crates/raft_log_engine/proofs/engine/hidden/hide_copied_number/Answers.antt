use Rattle.std.proofs.Common.{◌≡◌, ◌∙◌, List, ℕ, not, Vec, ap, rules}
use Rattle.std.specs.declared.alloc.Global.{Global}
use Rattle.std.proofs.lemmas.Fn.{filter_same}
use Rattle.raft_once.specs.Numbers.{is_number_key}
use Rattle.raft_tables.specs.Listing.{listed}
use Rattle.raft_log_engine.proofs.HiddenLemmas.{map-filter}
use Rattle.raft_log_engine.proofs.engine.hidden.hide_copied_number.Goals as goal

pub returns : goal.returns
returns c =
    let left = filter_same _ (λ (p : Vec ℕ Global × Vec ℕ Global). not (is_number_key p.0.items)) _ (λ x b f' k. search rules) _ _ c.retain.ensures.filtered in
    record { value = ap listed left ∙ map-filter (λ p. (p.0.items, p.1.items)) (λ p. not (is_number_key p.0)) c.args.pairs.now.items }
