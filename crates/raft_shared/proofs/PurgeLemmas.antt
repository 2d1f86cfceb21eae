-- What the engine says of a purge by watermarks makes it legal in a history.
use Rattle.std.proofs.Common.{◌≡◌, ◌∙◌, ◌⊎◌, inl, inr, ℕ, cond, Bool, true, false, List, [], ◌∷◌, Result, Ok, Err, refl, sym, ap}
use Rattle.std.specs.Prelude.{IfOk, OnErr, Vec, not, ◌&&◌}
use Rattle.std.specs.Result.{result_unwrap_or}
use Rattle.std.proofs.lemmas.Bool.{false≢true}
use Rattle.std.specs.declared.alloc.Global.{Global}
use Rattle.raft_base.specs.declared.errors.Fault.{Fault}
use Rattle.raft_base.specs.declared.errors.Fault.TheVariants as fault
use Rattle.raft_config.specs.Folders.{Folders}
use Rattle.raft_env.specs.Refusal.{NoFewer, Refusals}
use Rattle.raft_env.specs.declared.env.FileSystem.{Ghosts}
use Rattle.raft_pipes.specs.PipeState.{PipeState}
use Rattle.raft_records.specs.Contents.{Contents}
use Rattle.raft_log_engine.specs.Durability.{durability_of}
use Rattle.raft_log_engine.specs.Engine.{contents_of, folders_of, has_failed, queue_of, refusals_of, rewrite_queue_of}
use Rattle.raft_log_engine.specs.Purge.{HasLastId, HasOpenGroup, IsPurgeFault, OwesTooMuch}
use Rattle.raft_log_engine.specs.PurgeCalls.{IsExpiry}
use Rattle.raft_log_engine.specs.declared.engine.Engine.{Engine}
use Rattle.raft_log_engine.proofs.ProgressLemmas.{ProgressCases, progress_cases}
use Rattle.raft_shared.specs.Begun.{CountsRefusals, is_out_of_numbers, lacks_numbers, lacks_numbers_in}
use Rattle.raft_shared.specs.History.{Done, IsLegalCall, IsRefusedPurge, Purge, after_event}
use Rattle.raft_shared.specs.Words.{answer_by, reason_of, without_path}
use Rattle.raft_shared.proofs.CallLemmas.{counts_none, err_is, write_ended}

module _ (m : Contents) (append rewrite : PipeState) (ends_open no_id : Type 0) (folders : Folders) (fails : Bool) (old new : Refusals) where
  refused_purge : (e : Fault) → IsPurgeFault m append rewrite ends_open no_id folders fails old new e → IsRefusedPurge (without_path (reason_of e)) fails
  refused_purge fault.Range cause = tt
  refused_purge (fault.InvalidArgument text) cause = tt
  refused_purge fault.TryAgain cause = cause.1
  refused_purge (fault.Io kind text) cause = refl
  refused_purge fault.Memory cause = tt
  refused_purge fault.Gap cause = absurd cause
  refused_purge fault.Corruption cause = absurd cause
  refused_purge fault.EntryCompacted cause = absurd cause
  refused_purge fault.EntryNotFound cause = absurd cause
  refused_purge fault.WrongIndex cause = absurd cause
  refused_purge fault.Parse cause = absurd cause
  refused_purge fault.Failed cause = absurd cause
  refused_purge fault.Lz4 cause = absurd cause
  refused_purge fault.FileOutOfRange cause = absurd cause
  refused_purge fault.NotRecovered cause = absurd cause
  refused_purge fault.TrailFull cause = absurd cause
  refused_purge fault.Layer cause = absurd cause
  refused_purge fault.StaleNumber cause = absurd cause

  counts_purge : (seat barrier : ℕ) (e : Fault) → IsPurgeFault m append rewrite ends_open no_id folders fails old new e → NoFewer old new
      → CountsRefusals (record { seat = seat; asked = Purge barrier; answer = Done (Err (without_path (reason_of e))) } ∷ []) old new
  counts_purge seat barrier (fault.Io kind text) cause fewer = cause.0
  counts_purge seat barrier fault.TryAgain cause fewer = cause.0
  counts_purge seat barrier fault.Range cause fewer = counts_none fewer
  counts_purge seat barrier (fault.InvalidArgument text) cause fewer = counts_none fewer
  counts_purge seat barrier fault.Memory cause fewer = counts_none fewer
  counts_purge seat barrier fault.Gap cause fewer = absurd cause
  counts_purge seat barrier fault.Corruption cause fewer = absurd cause
  counts_purge seat barrier fault.EntryCompacted cause fewer = absurd cause
  counts_purge seat barrier fault.EntryNotFound cause fewer = absurd cause
  counts_purge seat barrier fault.WrongIndex cause fewer = absurd cause
  counts_purge seat barrier fault.Parse cause fewer = absurd cause
  counts_purge seat barrier fault.Failed cause fewer = absurd cause
  counts_purge seat barrier fault.Lz4 cause fewer = absurd cause
  counts_purge seat barrier fault.FileOutOfRange cause fewer = absurd cause
  counts_purge seat barrier fault.NotRecovered cause fewer = absurd cause
  counts_purge seat barrier fault.TrailFull cause fewer = absurd cause
  counts_purge seat barrier fault.Layer cause fewer = absurd cause
  counts_purge seat barrier fault.StaleNumber cause fewer = absurd cause

-- the groups that are told: those that were asked for, or none
pub groups_asked : (result : Result (Vec ℕ Global) Fault) (none told : Vec ℕ Global) → told ≡ result_unwrap_or result none → IfOk result (λ groups. told.items ≡ groups.items)
groups_asked (Ok groups) none told is = ap (λ (v : Vec ℕ Global). v.items) is
groups_asked (Err e) none told is = tt

pub none_asked : (result : Result (Vec ℕ Global) Fault) (none told : Vec ℕ Global) → told ≡ result_unwrap_or result none → none.items ≡ [] → OnErr result (told.items ≡ [])
none_asked (Ok groups) none told is empty = tt
none_asked (Err e) none told is empty = ap (λ (v : Vec ℕ Global). v.items) is ∙ empty

module _ {F H R W : Type 0} {g : Ghosts F H R W} (barrier : ℕ) (old new : Engine F H R W g) where
  -- an engine that stands after a purge stood before it
  stood_before : (result : Result (Vec ℕ Global) Fault) → IsExpiry barrier old new result → has_failed new ≡ false → has_failed old ≡ false
  stood_before result p stands = at (has_failed old) refl
    where
      at : (was : Bool) → has_failed old ≡ was → has_failed old ≡ false
      at true is = absurd (false≢true (sym stands ∙ (p.unchanged is).failed))
      at false is = is

  -- .. and one that answers stands
  pub stands_answered : (groups : Vec ℕ Global) → IsExpiry barrier old new (Ok groups) → has_failed new ≡ false
  stands_answered groups p = at (progress_cases [] true [] (durability_of old) (durability_of new) p.log.progress)
    where
      at : ProgressCases [] true [] (durability_of old) (durability_of new) → has_failed new ≡ false
      at (inl rest) = absurd (false≢true (sym rest.covers_none))
      at (inr (inl added)) = absurd (false≢true (sym added.covers_none))
      at (inr (inr (inl synced))) = synced.stands
      at (inr (inr (inr fails))) = absurd (false≢true (sym fails.covers_none))

  pub purge_is_legal : (seat : ℕ) (result : Result (Vec ℕ Global) Fault) → IsExpiry barrier old new result → (m : Contents) (ended : Bool)
      → IsLegalCall m ended (has_failed old) (record { seat = seat; asked = Purge barrier; answer = Done (answer_by (λ _. tt) result) }) (has_failed new)
  purge_is_legal seat result p m ended = at (has_failed old) refl result p
    where
      at : (was : Bool) → has_failed old ≡ was → (result : Result (Vec ℕ Global) Fault) → IsExpiry barrier old new result
          → IsLegalCall m ended was (record { seat = seat; asked = Purge barrier; answer = Done (answer_by (λ _. tt) result) }) (has_failed new)
      at true is result p = (ap (λ r. Done (answer_by (λ _. tt) r)) (p.failed.1 is), (p.unchanged is).failed)
      at false is (Ok groups) p = stands_answered groups p
      at false is (Err e) p = refused_purge (contents_of old) (queue_of new) (rewrite_queue_of new) (HasOpenGroup new) (HasLastId new ⊎ OwesTooMuch old new) (folders_of old) (has_failed new) (refusals_of old) (refusals_of new) e (p.log.cause is)

  -- no numbers have ended before a purge of an engine that stands
  pub purge_ends : (result : Result (Vec ℕ Global) Fault) → IsExpiry barrier old new result → is_out_of_numbers old ≡ false
      → (before after : List (Engine F H R W g)) → after ≡ cond (has_failed new) before (new ∷ []) → (has_failed old ≡ false → lacks_numbers_in before ≡ lacks_numbers old)
      → lacks_numbers_in before ≡ true → lacks_numbers_in after ≡ true
  purge_ends result p some before after noted numbers lacks = at (has_failed old) refl
    where
      at : (was : Bool) → has_failed old ≡ was → lacks_numbers_in after ≡ true
      at true is = write_ended new before after noted ∙ (ap (λ b. cond b (lacks_numbers_in before) (lacks_numbers new)) (p.unchanged is).failed ∙ lacks)
      at false is = absurd (false≢true (sym some ∙ (ap (λ b. not b && lacks_numbers old) is ∙ (sym (numbers is) ∙ lacks))))

  -- the contents after it
  pub purge_leaves : (seat : ℕ) (result : Result (Vec ℕ Global) Fault) → IsExpiry barrier old new result → (m : Contents) → (has_failed old ≡ false → contents_of old ≡ m) → has_failed new ≡ false
      → contents_of new ≡ after_event m (record { seat = seat; asked = Purge barrier; answer = Done (answer_by (λ _. tt) result) })
  purge_leaves seat result p m holds stands = p.log.contents ∙ holds (stood_before result p stands)

  -- what storage refused in it
  pub purge_counts : (seat : ℕ) (result : Result (Vec ℕ Global) Fault) → IsExpiry barrier old new result
      → CountsRefusals (record { seat = seat; asked = Purge barrier; answer = Done (answer_by (λ _. tt) result) } ∷ []) (refusals_of old) (refusals_of new)
  purge_counts seat (Ok groups) p = counts_none p.log.any_moment.no_fewer
  purge_counts seat (Err e) p = at (has_failed old) refl
    where
      at : (was : Bool) → has_failed old ≡ was → CountsRefusals (record { seat = seat; asked = Purge barrier; answer = Done (Err (without_path (reason_of e))) } ∷ []) (refusals_of old) (refusals_of new)
      at true is = rw (err_is (p.failed.1 is)) (counts_none p.log.any_moment.no_fewer)
      at false is = counts_purge (contents_of old) (queue_of new) (rewrite_queue_of new) (HasOpenGroup new) (HasLastId new ⊎ OwesTooMuch old new) (folders_of old) (has_failed new) (refusals_of old) (refusals_of new) seat barrier e (p.log.cause is) p.log.any_moment.no_fewer
