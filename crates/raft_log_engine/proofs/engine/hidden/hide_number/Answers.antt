use Rattle.std.proofs.Common.{◌≡◌, ◌∙◌, List, ℕ, not, Bor, ap, rules}
use Rattle.std.proofs.lemmas.Fn.{filter_same}
use Rattle.raft_once.specs.Numbers.{is_number_key}
use Rattle.raft_tables.specs.Listing.{lent_pairs}
use Rattle.raft_log_engine.proofs.HiddenLemmas.{map-filter}
use Rattle.raft_log_engine.proofs.engine.hidden.hide_number.Goals as goal

pub returns : goal.returns
returns c =
    let left = filter_same _ (λ (p : Bor (List ℕ) × Bor (List ℕ)). not (is_number_key p.0.now)) _ (λ x b f' k. search rules) _ _ c.retain.ensures.filtered in
    record { value = ap lent_pairs left ∙ map-filter (λ p. (p.0.now, p.1.now)) (λ p. not (is_number_key p.0)) c.args.pairs.now.items }
