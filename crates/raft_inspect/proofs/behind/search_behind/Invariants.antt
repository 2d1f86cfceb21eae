use Rattle.std.proofs.Common.{◌≡◌, ◌+◌, ◌<◌, drop}
use Rattle.raft_dump.specs.Stale.{headed_lens}
use Rattle.raft_inspect.specs.Behind.{IsNoneIn}
use Rattle.raft_inspect.proofs.behind.search_behind.Given as goal

-- none begins at the places so far, and so much may still be read
abbrev pub invariant-loop-at : goal.invariant-loop-at
invariant-loop-at l = IsNoneIn l.id.seq l.version l.bytes l.at × (0 < l.left)
    × (l.left + headed_lens l.bytes ≡ 268435456 + headed_lens (drop l.at l.bytes))
