use Rattle.std.proofs.Common.{◌≤◌, ap, subst, arith, length, map, List}
use mathlib.Core.List.{IsPrefix}
use Rattle.raft_shared.specs.Words.{event_of}
use Rattle.raft_shared.specs.declared.call.Recorded.{Recorded}
use Rattle.raft_shared.proofs.Fronts.{prefix_map, prefix_shorter}
use Rattle.raft_shared.proofs.book.Front.longer.Goals as goal

pub returns-then-self-other-clause-this : goal.returns-then-self-other-clause-this
returns-then-self-other-clause-this g c =
    let both = c.learn.new.self.log in
    let this : IsPrefix c.self.inside.seen.log both = subst (λ (l : List Recorded). IsPrefix l both) (ap (λ s. s.log) c.again-both.ensures) c.learn.ensures.2 in
    let less : length (map event_of c.self.inside.seen.log) ≤ length (map event_of c.other.inside.seen.log) = omega (arith, c.self.invariant.0, c.other.invariant.0) in
    rw (c.again.ensures.value, ← c.self.view_is, ← c.other.view_is) (prefix_shorter (map event_of c.self.inside.seen.log) (map event_of c.other.inside.seen.log) (map event_of both) (prefix_map event_of _ _ this) (prefix_map event_of _ _ c.learn.ensures.3) less)

pub returns-clause-that : goal.returns-clause-that
returns-clause-that g c =
    let both = c.learn.new.self.log in
    let this : IsPrefix c.self.inside.seen.log both = subst (λ (l : List Recorded). IsPrefix l both) (ap (λ s. s.log) c.again-both.ensures) c.learn.ensures.2 in
    let less : length (map event_of c.other.inside.seen.log) ≤ length (map event_of c.self.inside.seen.log) = omega (arith, c.self.invariant.0, c.other.invariant.0) in
    rw (c.again-else-self-other.ensures.value, ← c.self.view_is, ← c.other.view_is) (prefix_shorter (map event_of c.other.inside.seen.log) (map event_of c.self.inside.seen.log) (map event_of both) (prefix_map event_of _ _ c.learn.ensures.3) (prefix_map event_of _ _ this) less)
