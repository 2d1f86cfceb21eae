use Rattle.std.proofs.Common.{List, map, ap, ◌∙◌}
use Rattle.raft_records.specs.LogItem.{item_of}
use Rattle.raft_records.specs.declared.log_item.LogItem.{LogItem}
use Rattle.raft_consistency.specs.Holes.{kept_in, kept_of, kept_then, ranges_of}
use Rattle.raft_consistency.proofs.TakenLemmas.{taken_more}
use Rattle.raft_consistency.proofs.replaying.ConsistencyCheckerReplayMachine.replay.Goals as goal

pub returns-clause-ok : goal.returns-clause-ok
returns-clause-ok c = λ blocks can stand earlier batches taken group.
    let old = kept_in c.args.self.now group in
    taken_more group blocks c.args._file.seq c.args.items.now.items batches old (kept_in c.take.new.self group)
    (c.in_ok-take.ensures.ok group ∙ ap (λ (xs : List LogItem). kept_then old (kept_of (ranges_of group (map item_of xs)))) c.deref.ensures.value) (taken group)
