use Rattle.std.proofs.Common.{◌≡◌, length, get_or, subst, rules}
use Rattle.raft_tables.specs.Pairs.{IsPairJoined}
use Rattle.raft_tables.proofs.PairLemmas.{zip_from_places}
use Rattle.raft_tables.proofs.pairs.join_all.Goals as goal

pub returns : goal.returns
returns g c =
    let old = c.args.pairs.now in
    let len : length c.for_each_mut.new.s ≡ length old = search rules in
    zip_from_places IsPairJoined old c.for_each_mut.new.s len (λ i d lt.
    let h = (c.for_each_mut.ensures i d lt).1 in
    let call = h.call in
    let joined : IsPairJoined h.argument.now h.after_call.now = search rules in
    subst (IsPairJoined (get_or old i d)) h.left (subst (λ p. IsPairJoined p h.after_call.now) h.argument_is joined))
