use Rattle.std.proofs.Common.{[], drop}
use Rattle.raft_records.specs.Contents.{no_contents}
use Rattle.raft_script.specs.Durability.{progress_after_all}
use Rattle.raft_script.specs.Headline.{progress_from}
use Rattle.raft_allowed.proofs.WalkLemmas.{IsWalking}
use Rattle.raft_allowed.proofs.left.images_of.Given as goal

abbrev pub invariant-loop-place : goal.invariant-loop-place
invariant-loop-place l = IsWalking (progress_after_all no_contents (progress_from []) l.ops l.outcomes) (drop l.place l.ops) (drop l.place l.outcomes) l.reached
