-- Why the steps of a purge fail, of what stands for the log in memory, and what they leave of its files.
use Rattle.std.proofs.Common.{◌≡◌, ◌⊎◌, ℕ, inl, inr, subst}
use Rattle.std.specs.Prelude.{Err, Ok}
use Rattle.raft_base.specs.declared.errors.Fault.{Fault}
use Rattle.raft_env.specs.Directory.{Directory}
use Rattle.raft_env.specs.Refusal.{Refusals}
use Rattle.raft_queues.specs.Dual.{DualState}
use Rattle.raft_tables.specs.Owed.{Owed}
use Rattle.raft_tables.specs.Tables.{Tables}
use Rattle.raft_tables.specs.declared.memtables.MemTables.{MemTables}
use Rattle.raft_tables.specs.declared.rewritten.GroupsMet.{GroupsMet}
use Rattle.raft_tables.specs.declared.stats.GlobalStats.{GlobalStats}
use Rattle.raft_crash_laws.specs.Log.{KnownGroups}
use Rattle.raft_purge_steps.specs.Faults.{HaveOwedNoRecord, IsPurgeRefusal}
use Rattle.raft_purge_steps.specs.Steps.{LogValue, by_groups, by_marks}
use Rattle.raft_purge_steps.specs.Unfit.{IsUnfitWhere}
use Rattle.raft_purge_steps.specs.declared.fault.StepFault.{StepFault}
use Rattle.raft_rewrite.specs.OpenGroup.{HasNoId}
use Rattle.raft_purge.specs.Purges.{IsExpiredRefusal, IsLogBy, IsOwedRefusal, IsRenewRefusal}
use Rattle.raft_log_engine.specs.Purge.{Frees}
use Rattle.raft_log_engine.specs.declared.engine.purge_kind.Purge.{Purge}
use Rattle.raft_log_engine.proofs.PurgeFaultLemmas.{atomic_weaker, or_unfit, refusal_weaker, unfit_where}

module _ (d d' : DualState) (t t' : Tables) (owed : Owed) (met : KnownGroups) (n n' : Directory) (old new : Refusals) where
  abbrev M : Fault → Type 0
  M = HaveOwedNoRecord t' owed

  -- what the engine knows and owes stands for it
  abbrev Here : LogValue → Type 0
  Here = IsLogBy (λ (x : Unit {0}). by_groups t owed met) d n

  -- a purge of the Append queue, whatever is known of atomic groups
  pub append_cause : (f : StepFault) → IsOwedRefusal t' owed d d' n' old new (IsUnfitWhere (IsLogBy (by_groups t owed) d n)) f → IsOwedRefusal t' owed d d' n' old new (IsUnfitWhere Here) f
  append_cause =
      let P : LogValue → Type 0 = IsLogBy (by_groups t owed) d n in
      refusal_weaker d d' n' old new (λ e. M e ⊎ IsUnfitWhere P e) (λ e. M e ⊎ IsUnfitWhere Here e) (or_unfit M (IsUnfitWhere P) (IsUnfitWhere Here) (unfit_where P Here (λ v held. (met, held.1))))

  -- one of the Rewrite queue, whichever marks are owed
  pub renew_cause : (groups' : GroupsMet) (f : StepFault) → IsRenewRefusal groups' d d' n' old new (IsUnfitWhere (IsLogBy (by_marks t met) d n)) f → IsExpiredRefusal t' owed groups' d d' n' old new (IsUnfitWhere Here) f
  renew_cause groups' =
      let P : LogValue → Type 0 = IsLogBy (by_marks t met) d n in
      atomic_weaker d d' n' old new (λ e. HasNoId groups' e ⊎ IsUnfitWhere P e) (λ e. HasNoId groups' e ⊎ (M e ⊎ IsUnfitWhere Here e)) (or_unfit (HasNoId groups') (IsUnfitWhere P) (λ e. M e ⊎ IsUnfitWhere Here e) (λ e unfit. inr (unfit_where P Here (λ v held. (owed, held.1)) e unfit)))

  -- a drop, which writes marks alone
  pub stale_cause : (f : StepFault) → IsPurgeRefusal d d' n' old new M f → IsOwedRefusal t' owed d d' n' old new (IsUnfitWhere Here) f
  stale_cause = refusal_weaker d d' n' old new M (λ e. M e ⊎ IsUnfitWhere Here e) (λ e none. inl none)

-- Of pipes that were the same before, whatever is answered.

module _ {A B : Type 0} (purge : Purge) (m m' : MemTables) (s s' : GlobalStats) (k k' : GroupsMet) (c d d' : DualState) (same : c ≡ d) where
  pub frees_ok : (x : ℕ) → Frees {E = A} purge (Ok x) m m' s s' k k' c d' → Frees {E = B} purge (Ok x) m m' s s' k k' d d'
  frees_ok x frees =
      let f = subst (λ (p : DualState). Frees {E = A} purge (Ok x) m m' s s' k k' p d') same frees in
      record { files = f.files; first = tt; append = f.append; tables = f.tables; apart = f.apart; idle = f.idle; counted = f.counted; stale = f.stale; ids = f.ids }

  pub frees_err : (e : A) (e' : B) → Frees {E = A} purge (Err e) m m' s s' k k' c d' → Frees {E = B} purge (Err e') m m' s s' k k' d d'
  frees_err e e' frees =
      let f = subst (λ (p : DualState). Frees {E = A} purge (Err e) m m' s s' k k' p d') same frees in
      record { files = tt; first = f.first; append = f.append; tables = tt; apart = tt; idle = tt; counted = λ only. tt; stale = f.stale; ids = f.ids }
