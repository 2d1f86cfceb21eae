use Rattle.std.proofs.Common.{◌≡◌, drop}
use Rattle.std.specs.Map.{lookup}
use Rattle.std.specs.Str.{bytes_eq}
use Rattle.raft_once.specs.Numbers.{number_key}
use Rattle.raft_tables.specs.Listing.{listed}
use Rattle.raft_allowed.proofs.parts.kept_in.Given as goal

abbrev pub invariant-loop-pair : goal.invariant-loop-pair
invariant-loop-pair l = lookup (bytes_eq number_key) (listed (drop l.pair-index l.pairs)) ≡ lookup (bytes_eq number_key) (listed l.pairs)
