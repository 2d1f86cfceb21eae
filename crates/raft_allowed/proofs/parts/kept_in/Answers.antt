use Rattle.std.proofs.Common.{◌≡◌, ◌∙◌, ◌+◌, Some, ap, drop, sym}
use Rattle.std.proofs.Math.ListN.{drop_of_length-le}
use Rattle.std.specs.Map.{lookup}
use Rattle.std.specs.Str.{bytes_eq}
use Rattle.raft_once.specs.Numbers.{is_number_key, number_in, number_key}
use Rattle.raft_tables.specs.Listing.{listed}
use Rattle.raft_allowed.proofs.LoopLemmas.{ahead}
use Rattle.raft_allowed.proofs.NumberLemmas.{found_first, found_later}
use Rattle.raft_allowed.proofs.parts.kept_in.Goals as goal

pub loop-pair-preserved : goal.loop-pair-preserved
loop-pair-preserved c =
    let pairs = c.args.pairs.now in
    let i = c.loop-pair.pair-index in
    let pair = c.pair-item.result in
    let rest = drop (i + 1) pairs in
    sym (ap (λ l. lookup (bytes_eq number_key) (listed l)) (ahead pairs i pair c.loop-pair-test.true c.pair-item.is) ∙ found_later pair rest (ap is_number_key (sym c.deref.ensures.value) ∙ sym c.is_number_key.ensures.value ∙ c.if-is_number_key.false)) ∙ c.loop-pair.invariant

pub returns-then-is_number_key : goal.returns-then-is_number_key
returns-then-is_number_key c =
    let pairs = c.args.pairs.now in
    let i = c.loop-pair.pair-index in
    let pair = c.pair-item.result in
    let rest = drop (i + 1) pairs in
    let value : c.kept_number.result ≡ number_in (Some pair.1.items) = cc in
    value ∙ ap number_in (sym (ap (λ l. lookup (bytes_eq number_key) (listed l)) (ahead pairs i pair c.loop-pair-test.true c.pair-item.is) ∙ found_first pair rest (ap is_number_key (sym c.deref.ensures.value) ∙ sym c.is_number_key.ensures.value ∙ c.if-is_number_key.true)) ∙ c.loop-pair.invariant)

pub returns : goal.returns
returns c = ap number_in (sym (ap (λ l. lookup (bytes_eq number_key) (listed l)) (drop_of_length-le c.args.pairs.now c.loop-pair-test.false)) ∙ c.loop-pair.invariant)
