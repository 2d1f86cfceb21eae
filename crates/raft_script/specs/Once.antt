-- Exactly once: how often a number acts, over runs, crashes and openings.
use Rattle.std.specs.Prelude.{◌≡◌, ℕ, ◌≤◌, false, List, [], ◌∷◌, ◌++◌, length, take, if◌then◌else◌}
use Rattle.raft_records.specs.Contents.{Contents, after_batches}
use Rattle.raft_records.specs.Item.{Batch}
use Rattle.raft_env.specs.Directory.{Directory}
use Rattle.raft_env.specs.declared.env.FileSystem.{Ghosts}
use Rattle.raft_once.specs.History.{Act, ActedOnce, MayAllAct, acted_after, are_written}
use Rattle.raft_log_engine.specs.Engine.{IsAllSynced, contents_of, directory_of, folders_of, has_failed}
use Rattle.raft_log_engine.specs.declared.engine.Engine.{Engine}
use Rattle.raft_script.specs.Batches.{MayBeInFlight, accepted_of, is_covering}
use Rattle.raft_script.specs.Numbers.{acts_in}
use Rattle.raft_script.specs.declared.operation.Op.{Op}
use Rattle.raft_script.specs.declared.operation.Outcome.{Outcome}
use Rattle.raft_script.specs.Headline.{AreSafe, IsFound, IsMomentOf}

-- earlier acts and the first ones of a run's, at least the covered ones, made the found contents
pub record HaveActedOnce (start : Contents) (earlier : List Act) (covered : ℕ) (acts : List Act)
    (found : Contents) : Type 0 where
  pub count : ℕ
  pub least : covered ≤ count
  pub within : count ≤ length acts
  pub is : found ≡ after_batches start (are_written (earlier ++ take count acts))
  -- no number of a group acted twice unless the group was cleaned, so a covered one acted once
  pub once : (group : ℕ) → ActedOnce (acted_after group [] (earlier ++ take count acts))
  -- as the next run needs it
  pub may : MayAllAct start (earlier ++ take count acts)

-- the acts of a run, and how many of them a successful sync covers
pub record ActProgress : Type 0 where
  pub acts : List Act
  pub covered : ℕ

-- the acts after an operation at these contents
abbrev pub acts_after : Contents → ActProgress → Op → Outcome → ActProgress
acts_after m p op outcome = let acts = p.acts ++ acts_in op (accepted_of m op outcome) in
    record { acts = acts; covered = if is_covering op outcome then length acts else p.covered }

module _ {F H R W : Type 0} {g : Ghosts F H R W} where
  -- at each moment of an operation, and after it, a crash leaves acts that acted once
  pub record ActsOnce (start : Contents) (earlier : List Act) (p : ActProgress) (op : Op)
      (outcome : Outcome) (old new : Engine F H R W g) : Type 0 where
    pub inside : has_failed old ≡ false → (n : Directory) → IsMomentOf old new n
        → ∥ ((flight : List Batch) × MayBeInFlight (contents_of old) op flight
        × IsFound g (λ found. ∥ HaveActedOnce start earlier p.covered (p.acts ++ acts_in op flight)
        found ∥₁) (folders_of old) n) ∥₁
    pub answered : has_failed new ≡ false → let now = acts_after (contents_of old) p op outcome in
        IsFound g (λ found. ∥ HaveActedOnce start earlier now.covered now.acts found ∥₁)
        (folders_of old) (directory_of new)

  -- ActsOnce holds of each operation of a run
  abbrev pub AllActOnce : Contents → List Act → ActProgress → List Op → List Outcome
      → Engine F H R W g → List (Engine F H R W g) → Type 0
  AllActOnce start earlier p [] [] old [] = Unit {0}
  AllActOnce start earlier p (op ∷ ops) (outcome ∷ outcomes) old (new ∷ states) =
      ActsOnce start earlier p op outcome old new
      × AllActOnce start earlier (acts_after (contents_of old) p op outcome) ops outcomes new states
  AllActOnce start earlier p _ _ old _ = ⊥

  -- a run is safe; if earlier acts made the contents before, all of them synced, AllActOnce holds
  pub record AreOnce (ops : List Op) (outcomes : List Outcome) (old new : Engine F H R W g)
      : Type 0 where
    pub safe : AreSafe ops outcomes old new
    pub each : (start : Contents) (earlier : List Act) → MayAllAct start earlier
        → contents_of old ≡ after_batches start (are_written earlier) → IsAllSynced old
        → AllActOnce start earlier (record { acts = []; covered = 0 }) ops outcomes old safe.states
