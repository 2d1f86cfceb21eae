use Rattle.std.proofs.Common.{◌≡◌, ◌+◌, ◌≤◌, drop}
use Rattle.raft_dump.specs.Stale.{headed_lens}
use Rattle.raft_dump.proofs.stale.search_stale.Given as goal

abbrev pub invariant-loop-at : goal.invariant-loop-at
invariant-loop-at l = (l.summed ≤ 67108864)
    × (l.summed + headed_lens (drop l.at l.bytes) ≡ headed_lens l.bytes)
