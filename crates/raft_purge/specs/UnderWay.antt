-- A rewriting of the Rewrite queue over several calls, described by pipes, tables and files only.
use Rattle.std.specs.Prelude.{◌≡◌, ◌≤◌, ◌++◌, ℕ, true, List, None}
use Rattle.raft_base.specs.declared.pipe_log.LogQueue.TheVariants.{Rewrite}
use Rattle.raft_env.specs.Directory.{Directory}
use Rattle.raft_pipes.specs.PipeState.{last_seq}
use Rattle.raft_queues.specs.Dual.{DualState}
use Rattle.raft_queues.specs.DualByFile.{batches_by_file}
use Rattle.raft_records.specs.FileBatches.{FileBatch, batches_of}
use Rattle.raft_records.specs.Places.{Blocks}
use Rattle.raft_recovery_laws.specs.Ids.{HasIdsBelow, HasIdsFrom}
use Rattle.raft_recovery_laws.specs.Recovered.{effect}
use Rattle.raft_recovery_laws.specs.Together.{StandTogether}
use Rattle.raft_index_laws.specs.DroppingOld.{HoldsFrom}
use Rattle.raft_tables.specs.Owed.{Owed}
use Rattle.raft_tables.specs.Tables.{Tables}
use Rattle.raft_crash_laws.specs.Log.{KnownGroups}
use Rattle.raft_crash_laws.specs.Queues.{HasBothBlocks}
use Rattle.raft_crash_laws.specs.Renewal.{Renewal, new_batches, old_batches}
use Rattle.raft_purge_steps.specs.Renewing.{renewed_log}
use Rattle.raft_purge_steps.specs.Steps.{IsLog, LogValue, log_of}

-- new files hold what the tables place there; only old ones have group ids below the bound
pub record HaveNewFiles (blocks : Blocks) (numbered : List FileBatch) (first bound : ℕ) (t : Tables)
    : Type 0 where
  pub together : StandTogether (old_batches first numbered)
  pub old_ids : HasIdsBelow bound (old_batches first numbered)
  pub new_ids : HasIdsFrom bound (new_batches first numbered)
  pub holds : HoldsFrom blocks first (effect (new_batches first numbered)) t

-- the Rewrite queue has new files from this one on; HaveNewFiles if atomic groups are adjacent
pub record IsUnderWay (first bound : ℕ) (d : DualState) (t : Tables) (met : KnownGroups) (n : Directory)
    : Type 0 where
  pub behind : d.rewrite.first ≤ first
  pub within : first ≤ last_seq d.rewrite
  pub above : bound ≤ met.bound
  pub parts : batches_of (batches_by_file Rewrite d n)
      ≡ old_batches first (batches_by_file Rewrite d n) ++ new_batches first (batches_by_file Rewrite d n)
  pub files :
      met.are_together ≡ true → ∥ ((blocks : Blocks) → HasBothBlocks d n blocks
      → HaveNewFiles blocks (batches_by_file Rewrite d n) first bound t) ∥₁

-- a renewal from this file on, with this bound of old ids and no open group
abbrev pub renewal_at : ℕ → ℕ → KnownGroups → Renewal
renewal_at first bound met = record {
  first = first;
  are_together = met.are_together;
  bound = bound;
  begun = None;
}

-- a plain log is in a renewal with these new files, and keeps its value
abbrev pub ContinuesRenewal : ℕ → ℕ → DualState → DualState → Tables → KnownGroups → Directory
    → Directory → Type 0
ContinuesRenewal first bound d d' t met old new = (owed : Owed) (v : LogValue)
    → IsLog (log_of d t owed met old) v
    → IsLog (renewed_log d' t owed met (renewal_at first bound met) new) v
