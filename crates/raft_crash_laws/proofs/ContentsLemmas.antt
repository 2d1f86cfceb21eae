-- What batches leave one after the other.
use Rattle.std.proofs.Common.{◌≡◌, ◌++◌, ℕ, Bool, List}
use Rattle.std.proofs.lemmas.List.Sums.{fold-append}
use Rattle.raft_records.specs.Contents.{Contents, after_batch, after_batches}
use Rattle.raft_records.specs.Item.{Batch}
use Rattle.raft_tables.specs.Known.{known_after}
use Rattle.raft_crash_laws.specs.Contents.{known_from}

-- batches one after the other, and then more
pub after-append : (m : Contents) (xs ys : List Batch) → after_batches m (xs ++ ys) ≡ after_batches (after_batches m xs) ys
after-append m xs ys = fold-append after_batch m xs ys

pub known-append : (is_known : ℕ → Bool) (xs ys : List Batch) (group : ℕ) → known_from is_known (xs ++ ys) group ≡ known_from (known_from is_known xs) ys group
known-append is_known xs ys group = fold-append (known_after group) (is_known group) xs ys
