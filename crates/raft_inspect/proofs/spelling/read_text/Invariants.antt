use Rattle.std.proofs.Common.{length}
use Rattle.raft_inspect.proofs.spelling.read_text.Given as goal

abbrev pub decreases-bytes : goal.decreases-bytes
decreases-bytes l = length l.left
