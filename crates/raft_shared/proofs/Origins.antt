-- No call of a shared engine changes where it comes from.
use Rattle.std.proofs.Common.{◌≡◌, ◌∙◌, Option, Some, sym}
use Rattle.raft_env.specs.declared.env.FileSystem.{Ghosts}
use Rattle.raft_log_engine.specs.Advance.{ChangesOnlyItsLog, state_of}
use Rattle.raft_log_engine.specs.Engine.{found_of, settings_of}
use Rattle.raft_crash_laws.specs.Contents.{found_contents}
use Rattle.raft_config.specs.Folders.{folders_in}
use Rattle.raft_shared.specs.Shared.{IsButSeats, IsSameShared, engine_of}
use Rattle.raft_shared.specs.declared.shared.Shared.{Shared}
use Rattle.raft_shared.specs.Origin.{Origin, origin_of}

module _ {F H R W : Type 0} {g : Ghosts F H R W} (origin : Option Origin) (old new : Shared F H R W g) (is : origin ≡ Some (origin_of old)) where
  -- a call that changes only the engine's log
  pub origin_kept : IsSameShared old new → ChangesOnlyItsLog (state_of (engine_of old)) (state_of (engine_of new)) → origin ≡ Some (origin_of new)
  origin_kept same only = is ∙ sym (λ i. Some (record {
    settings = only.settings i;
    found = found_contents (folders_in (only.settings i)) (only.begun i);
    base = same.base i;
    failed = same.failed i;
    refusals = same.refusals i;
    limit = same.limit i;
  }))

  -- .. that leaves the engine
  pub origin_so : IsSameShared old new → engine_of new ≡ engine_of old → origin ≡ Some (origin_of new)
  origin_so same engine = is ∙ sym (λ i. Some (record {
    settings = settings_of (engine i);
    found = found_of (engine i);
    base = same.base i;
    failed = same.failed i;
    refusals = same.refusals i;
    limit = same.limit i;
  }))

  -- a seat was given
  pub origin_seated : IsButSeats old new → origin ≡ Some (origin_of new)
  origin_seated same = is ∙ sym (λ i. Some (record {
    settings = settings_of (same.engine i);
    found = found_of (same.engine i);
    base = same.base i;
    failed = same.failed i;
    refusals = same.refusals i;
    limit = same.limit i;
  }))
