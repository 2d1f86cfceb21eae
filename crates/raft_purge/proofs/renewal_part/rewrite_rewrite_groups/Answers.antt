use Rattle.std.proofs.Common.{inl, inr, ◌⊎◌, ◌∙◌, ◌≤◌, ℕ, List, None, Some, ap, arith, refl, subst, sym}
use Rattle.std.specs.Prelude.{Err}
use Rattle.std.specs.List.{AllByRecursion as Each}
use Rattle.std.specs.List.Sorted.{IsStrictlySortedBy}
use Rattle.std.specs.Ordering.{nat_cmp}
use Rattle.std.proofs.Math.Logic.{∥∥₁_elim, ∥∥₁_map}
use Rattle.std.proofs.Props.{props}
use Rattle.std.proofs.lemmas.Result.{IfOk-weaker, err_from_is_err_and, on_ok_weaker}
use Rattle.raft_base.specs.declared.errors.Fault.{Fault}
use Rattle.raft_env.specs.Directory.{Directory}
use Rattle.raft_env.specs.Moments.{MovesBy}
use Rattle.raft_env.proofs.MomentsLemmas.{moves_then, moves_weaker}
use Rattle.raft_index_laws.specs.DroppingOld.{AreRewrittenFrom}
use Rattle.raft_entry_blocks.specs.Cache.{HoldsRestIn}
use Rattle.raft_entry_blocks.specs.Recent.{KeptBlocks}
use Rattle.raft_listeners.specs.Telling.{AreOfPurge}
use Rattle.raft_pipes.specs.PipeState.{last_seq}
use Rattle.raft_queues.specs.Dual.{DualState}
use Rattle.raft_tables.specs.Owed.{Owed}
use Rattle.raft_tables.specs.Tables.{Tables, or_empty, tables_of}
use Rattle.raft_crash_laws.specs.Index.{index_of}
use Rattle.raft_crash_laws.specs.Log.{KnownGroups, known_groups}
use Rattle.raft_purge_steps.specs.Renewing.{EndsRenewal, GoesOnRenewal, IsSomeKnownLog, MayRenewLog, renewed_log}
use Rattle.raft_purge_steps.specs.Steps.{IsLog, KeepsEachLog, KeepsLogAt, LogValue, by_marks, log_of}
use Rattle.raft_purge_steps.specs.Unfit.{IsUnfitWhere}
use Rattle.raft_purge_steps.proofs.AnewLemmas.{err_of}
use Rattle.raft_purge_steps.proofs.FaultLemmas.{each_refusal_since, folders_then, if_ok, if_stands_map, no_fewer_then}
use Rattle.raft_purge_steps.proofs.RewriterMomentLemmas.{both_ok}
use Rattle.raft_purge_steps.proofs.StepLemmas.{recovers_then}
use Rattle.raft_rewrite.specs.EmptiedAnew.{IsAllFrom}
use Rattle.raft_rewrite.specs.OpenGroup.{HasNoId}
use Rattle.raft_rewrite.proofs.AtomicFaultLemmas.{atomic_since, each_plain_refusal, plain_refusal}
use Rattle.raft_rewrite.proofs.SpanLemmas.{any_of}
use Rattle.raft_stale.proofs.DoubtLemmas.{fails_by, if_fails_map}
use Rattle.raft_stale.proofs.OldFileLemmas.{dropped_some_then}
use Rattle.raft_stale.proofs.StillLemmas.{still_err, still_step}
use Rattle.raft_purge.specs.RenewalPart.{bound_new, first_new}
use Rattle.raft_purge.specs.UnderWay.{ContinuesRenewal, renewal_at}
use Rattle.raft_purge.proofs.AnewLemmas.{renewed_within}
use Rattle.raft_purge.proofs.DoubtLemmas.{on_err_of}
use Rattle.raft_purge.proofs.ReadLemmas.{log_reading, reading, rest_log}
use Rattle.raft_purge.proofs.RenewalPartLemmas.{kept_same}
use Rattle.raft_purge.proofs.RewriterMomentLemmas.{err_map}
use Rattle.raft_purge.proofs.UnderWayLemmas.{still_under_way, under_way_of}
use Rattle.raft_purge.proofs.renewal_part.rewrite_rewrite_groups.Given.{Over}
use Rattle.raft_purge.proofs.renewal_part.rewrite_rewrite_groups.Goals.{After-rewrite_some}
use Rattle.raft_purge.proofs.renewal_part.rewrite_rewrite_groups.Goals as goal

pub returns-in_err-first-clause-purges : goal.returns-in_err-first-clause-purges
returns-in_err-first-clause-purges g c =
    let p = err_from_is_err_and c.from_residual.result c.from_residual.ensures.1 in
    rw (p.1, p.2) (record {
      log = still_err (still_step {T = ℕ} (Err c.in_err-first.field-0.0) (by_marks (tables_of c.args.log.now.tables) (known_groups c.args.log.now.groups)) c.in_err-first.ensures.rotates.now c.in_err-first.ensures.rotates.side c.go_on.ensures.rotates.any_moment c.go_on.ensures.found);
      value = tt;
      front = fails_by ℕ c.in_err-first.field-0.0 _ c.go_on.ensures.rotates.first;
      cut = tt;
      holds =
          let d = c.args.log.now.store.pipes in
          let d1 = c.go_on.new.store.pipes in
          let n = g.F.FileSystem.directory c.args.log.now.store.file_system in
          let n1 = g.F.FileSystem.directory c.go_on.new.store.file_system in
          let t = tables_of c.args.log.now.tables in
          let met = known_groups c.args.log.now.groups in
          err_map c.in_err-first.field-0.0 (KeepsEachLog d d1 n n1) _ (λ keeps. ∥∥₁_elim c.requires.some (hlevel props) (λ x. rest_log (log_of d t x.0 met n) (log_of d1 t x.0 met n1) c.args.log.now.cache (keeps (index_of t x.0 met None)) x.1 x.2 c.requires.holds)) c.in_err-first.ensures.rotates.now;
      cause =
          let d = c.args.log.now.store.pipes in
          let t = tables_of c.args.log.now.tables in
          let n = g.F.FileSystem.directory c.args.log.now.store.file_system in
          let met = known_groups c.args.log.now.groups in
          let P : LogValue → Type 0 = λ v. (owed : Owed) × IsLog (log_of d t owed met n) v in
          let r0 = g.F.FileSystem.refusals_of c.args.log.now.store.file_system in
          let r1 = g.F.FileSystem.refusals_of c.go_on.new.store.file_system in
          let U : Fault → Type 0 = λ f. HasNoId c.args.log.now.groups f ⊎ IsUnfitWhere P f in
          plain_refusal d c.go_on.new.store.pipes (g.F.FileSystem.directory c.go_on.new.store.file_system) r0 r1 (λ _. ⊥) U c.in_err-first.field-0.0 (λ f none. absurd none) c.in_err-first.ensures.rotates.cause;
    })

-- the moments up to the rewriting's end
renewing : (g : Over) (c : After-rewrite_some g) → MovesBy g.F.FileSystem.directory g.F.FileSystem.moments g.F.FileSystem.refusals_of (λ before k. (owed : Owed) → KeepsLogAt (log_of c.args.log.now.store.pipes (tables_of c.args.log.now.tables) owed (known_groups c.args.log.now.groups) before) k) c.args.log.now.store.file_system c.rewrite_some.new.log.store.file_system
renewing g c =
    let t = tables_of c.args.log.now.tables in
    let met = known_groups c.args.log.now.groups in
    let n0 = g.F.FileSystem.directory c.args.log.now.store.file_system in
    let n1 = g.F.FileSystem.directory c.go_on.new.store.file_system in
    let r = renewal_at (first_new c.args.part.now.files c.args.log.now.store.pipes.rewrite) (bound_new c.args.part.now.files c.args.log.now.groups) met in
    let goes : GoesOnRenewal met r = record { none_begun = refl; together = refl; above = c.go_on.ensures.above } in
    moves_then (moves_weaker (λ k at owed. at (by_marks t met owed)) c.go_on.ensures.rotates.any_moment)
    (λ k at owed v held. recovers_then v n0 n1 k (c.go_on.ensures.rotates.any_moment.throughout.here (by_marks t met owed) v held) (at owed r v goes (c.in_ok-first.ensures.now owed v held))) c.rewrite_some.ensures.any_moment

found : (g : Over) (c : After-rewrite_some g) → AreOfPurge c.args.events.now c.rewrite_some.new.events
found g c = (c.rewrite_some.ensures.rewrites.keeps.found.0 ∙ c.go_on.ensures.found.0, c.rewrite_some.ensures.rewrites.keeps.found.1 ∙ c.go_on.ensures.found.1)

pub returns-in_err-rewrite_some-clause-purges : goal.returns-in_err-rewrite_some-clause-purges
returns-in_err-rewrite_some-clause-purges g c =
    let p = err_from_is_err_and c.from_residual-in_err-rewrite_some.result c.from_residual-in_err-rewrite_some.ensures.1 in
    let met = known_groups c.args.log.now.groups in
    let r = renewal_at (first_new c.args.part.now.files c.args.log.now.store.pipes.rewrite) (bound_new c.args.part.now.files c.args.log.now.groups) met in
    let goes : GoesOnRenewal met r = record { none_begun = refl; together = refl; above = c.go_on.ensures.above } in
    rw (p.1, p.2) (record {
      log =
          let at = (goal.at.returns-in_err-rewrite_some-clause-purges g c).After-rewrite_some in
          let f = c.in_err-rewrite_some.field-0.0 in
          record {
            now = err_of (Unit {0}) ℕ f _ _ (λ leaves owed v held. leaves owed r v goes (c.in_ok-first.ensures.now owed v held)) c.in_err-rewrite_some.ensures.err;
            side = err_of (Unit {0}) ℕ f _ _ (λ side. side) c.in_err-rewrite_some.ensures.side;
            any_moment = renewing g at;
            found = found g at;
          };
      value = tt;
      front = fails_by ℕ c.in_err-rewrite_some.field-0.0 _ (c.rewrite_some.ensures.rewrites.keeps.first ∙ c.go_on.ensures.rotates.first);
      cut = tt;
      holds = err_map c.in_err-rewrite_some.field-0.0 _ _ (λ rest. rest) c.in_err-rewrite_some.ensures.rewrites.holds;
      cause =
          let d = c.args.log.now.store.pipes in
          let t = tables_of c.args.log.now.tables in
          let n = g.F.FileSystem.directory c.args.log.now.store.file_system in
          let P : LogValue → Type 0 = λ v. (owed : Owed) × IsLog (log_of d t owed met n) v in
          let r0 = g.F.FileSystem.refusals_of c.args.log.now.store.file_system in
          let r1 = g.F.FileSystem.refusals_of c.go_on.new.store.file_system in
          let Q = MayRenewLog c.go_on.new.store.pipes t met (g.F.FileSystem.directory c.go_on.new.store.file_system) in
          let U : Fault → Type 0 = λ f. HasNoId c.rewrite_some.new.log.groups f ⊎ IsUnfitWhere Q f in
          let U' : Fault → Type 0 = λ f. HasNoId c.rewrite_some.new.log.groups f ⊎ IsUnfitWhere P f in
          let weaker : (f : Fault) → U f → U' f = λ f h. elim h [ inl none ↦ inl none | inr unfit ↦ inr (λ v held. unfit v (held.0, r, goes, c.in_ok-first.ensures.now held.0 v held.1)) ] in
          atomic_since d c.go_on.new.store.pipes c.rewrite_some.new.log.store.pipes (g.F.FileSystem.directory c.rewrite_some.new.log.store.file_system) r0 r1 (g.F.FileSystem.refusals_of c.rewrite_some.new.log.store.file_system) U U' c.in_err-rewrite_some.field-0.0 c.in_ok-first.ensures.rotates.folders c.go_on.ensures.rotates.any_moment.no_fewer weaker c.in_err-rewrite_some.ensures.cause;
    })

pub returns-clause-purges : goal.returns-clause-purges
returns-clause-purges g c =
    let met = known_groups c.args.log.now.groups in
    let r = renewal_at (first_new c.args.part.now.files c.args.log.now.store.pipes.rewrite) (bound_new c.args.part.now.files c.args.log.now.groups) met in
    let goes : GoesOnRenewal met r = record { none_begun = refl; together = refl; above = c.go_on.ensures.above } in
    let is = c.in_ok-first.ensures.value in
    let together = c.rewrite_some.ensures.together in
    record {
      log =
          let at = (goal.at.returns-clause-purges g c).After-rewrite_some in
          let n0 = g.F.FileSystem.directory c.args.log.now.store.file_system in
          let n2 = g.F.FileSystem.directory c.rewrite_some.new.log.store.file_system in
          let renews = c.in_ok-rewrite_some.ensures.ok in
          record {
            now = if_stands_map c.leave.result _ _ (λ ends owed v held. ends owed r v (sym is) (sym together) (renews owed r v goes (c.in_ok-first.ensures.now owed v held))) c.leave.ensures.now;
            side = c.leave.ensures.side;
            any_moment = moves_then (renewing g at) (λ k here owed v held. recovers_then v n0 n2 k ((renewing g at).throughout.here owed v held) (here owed r v (sym is) (sym together) (renews owed r v goes (c.in_ok-first.ensures.now owed v held)))) c.leave.ensures.any_moment;
            found = found g at;
          };
      value =
          let first = c.in_ok-rewrite_some.ensures.rewrites.keeps.first in
          let begins = c.go_on.ensures.rotates.first in
          IfOk-weaker c.leave.result _ _ (λ count is. omega (arith, first, begins, is)) c.leave.ensures.value;
      front =
          let first = c.rewrite_some.ensures.rewrites.keeps.first ∙ c.go_on.ensures.rotates.first in
          if_fails_map c.leave.result _ _ (λ same. ap (λ (d : DualState). d.rewrite.first) same ∙ first) c.leave.ensures.front;
      cut = if_ok c.leave.result _ (λ rests are. c.in_ok-rewrite_some.ensures.rewrites.cut rests (c.in_ok-first.ensures.cut rests are));
      holds =
          let d2 = c.rewrite_some.new.log.store.pipes in
          let n2 = g.F.FileSystem.directory c.rewrite_some.new.log.store.file_system in
          let n3 = g.F.FileSystem.directory c.leave.new.store.file_system in
          let t2 = tables_of c.rewrite_some.new.log.tables in
          let met2 = known_groups c.rewrite_some.new.log.groups in
          let kept = c.rewrite_some.new.log.cache in
          let written = c.in_ok-rewrite_some.ensures.ok in
          if_stands_map c.leave.result (EndsRenewal c.in_ok-first.first t2 met2 d2 c.leave.new.store.pipes n2 n3) (HoldsRestIn c.leave.new.store.pipes n3 kept) (λ ends. ∥∥₁_elim c.requires.some (hlevel props) (λ x.
          let held = written x.0 r x.1 goes (c.in_ok-first.ensures.now x.0 x.1 x.2) in
          (ends x.0 r (reading x.1 kept) (sym is) (sym together) (log_reading (renewed_log d2 t2 x.0 met2 r n2) x.1 kept c.in_ok-rewrite_some.ensures.rewrites.holds held)).pipes.read)) c.leave.ensures.now;
      cause =
          let d = c.args.log.now.store.pipes in
          let t = tables_of c.args.log.now.tables in
          let n = g.F.FileSystem.directory c.args.log.now.store.file_system in
          let P : LogValue → Type 0 = λ v. (owed : Owed) × IsLog (log_of d t owed met n) v in
          let r0 = g.F.FileSystem.refusals_of c.args.log.now.store.file_system in
          let r1 = g.F.FileSystem.refusals_of c.go_on.new.store.file_system in
          let r2 = g.F.FileSystem.refusals_of c.rewrite_some.new.log.store.file_system in
          let r3 = g.F.FileSystem.refusals_of c.leave.new.store.file_system in
          let U : Fault → Type 0 = λ f. HasNoId c.rewrite_some.new.log.groups f ⊎ IsUnfitWhere P f in
          each_plain_refusal c.leave.result d c.leave.new.store.pipes (g.F.FileSystem.directory c.leave.new.store.file_system) r0 r3 U U (λ f h. h)
          (each_refusal_since c.leave.result d c.rewrite_some.new.log.store.pipes c.leave.new.store.pipes (g.F.FileSystem.directory c.leave.new.store.file_system) r0 r2 r3 (λ _. ⊥) U (folders_then d c.go_on.new.store.pipes c.rewrite_some.new.log.store.pipes c.in_ok-first.ensures.rotates.folders c.in_ok-rewrite_some.ensures.rewrites.keeps.folders) (no_fewer_then r0 r1 r2 c.go_on.ensures.rotates.any_moment.no_fewer c.rewrite_some.ensures.any_moment.no_fewer)
          (λ f none. absurd none) c.leave.ensures.cause);
    }

pub rewrite_some-requires-clause-some : goal.rewrite_some-requires-clause-some
rewrite_some-requires-clause-some g c =
    let met = known_groups c.args.log.now.groups in
    let r = renewal_at (first_new c.args.part.now.files c.args.log.now.store.pipes.rewrite) (bound_new c.args.part.now.files c.args.log.now.groups) met in
    let goes : GoesOnRenewal met r = record { none_begun = refl; together = refl; above = c.go_on.ensures.above } in
    λ κs within. ∥∥₁_map c.requires.some (λ x. (x.0, r, x.1, goes, c.in_ok-first.ensures.now x.0 x.1 x.2))

going_rest : (first bound : ℕ) (d d1 : DualState) (t : Tables) (met : KnownGroups) (n n1 : Directory) (kept : KeptBlocks) → IsSomeKnownLog d t met n → ContinuesRenewal first bound d d1 t met n n1 → HoldsRestIn d n kept → HoldsRestIn d1 n1 kept
going_rest first bound d d1 t met n n1 kept some goes rest =
    ∥∥₁_elim some (hlevel props) (λ x. (goes x.0 (reading x.1 kept) (log_reading (log_of d t x.0 met n) x.1 kept rest x.2)).pipes.read)

pub rewrite_some-requires-clause-holds : goal.rewrite_some-requires-clause-holds
rewrite_some-requires-clause-holds g c = λ κs within.
    going_rest (first_new c.args.part.now.files c.args.log.now.store.pipes.rewrite) (bound_new c.args.part.now.files c.args.log.now.groups) c.args.log.now.store.pipes c.go_on.new.store.pipes (tables_of c.args.log.now.tables) (known_groups c.args.log.now.groups) (g.F.FileSystem.directory c.args.log.now.store.file_system) (g.F.FileSystem.directory c.go_on.new.store.file_system) c.args.log.now.cache c.requires.some c.in_ok-first.ensures.now c.requires.holds

pub rewrite_some-requires-clause-ascending : goal.rewrite_some-requires-clause-ascending
rewrite_some-requires-clause-ascending g c = λ κs within. subst (λ (gs : List ℕ). IsStrictlySortedBy nat_cmp gs) (sym c.deref.ensures.value) c.args.part.now.ascending

pub leave-requires-clause-within : goal.leave-requires-clause-within
leave-requires-clause-within g c =
    let met = known_groups c.args.log.now.groups in
    let met' = known_groups c.rewrite_some.new.log.groups in
    let r = renewal_at (first_new c.args.part.now.files c.args.log.now.store.pipes.rewrite) (bound_new c.args.part.now.files c.args.log.now.groups) met in
    let goes : GoesOnRenewal met r = record { none_begun = refl; together = refl; above = c.go_on.ensures.above } in
    let low : r.first ≤ last_seq c.rewrite_some.new.log.store.pipes.rewrite = ∥∥₁_elim c.requires.some (hlevel props) (λ x. renewed_within c.rewrite_some.new.log.store.pipes (tables_of c.rewrite_some.new.log.tables) x.0 met' r (g.F.FileSystem.directory c.rewrite_some.new.log.store.file_system) x.1 (c.in_ok-rewrite_some.ensures.ok x.0 r x.1 goes (c.in_ok-first.ensures.now x.0 x.1 x.2))) in
    let is = c.in_ok-first.ensures.value in
    λ κs within. omega (arith, low, is)

-- What is left of the groups.

pub returns-clause-emptied : goal.returns-clause-emptied
returns-clause-emptied g c =
    let t' = tables_of c.rewrite_some.new.log.tables in
    let first = first_new c.args.part.now.files c.args.log.now.store.pipes.rewrite in
    let low = c.in_ok-first.ensures.within in
    let each = subst (λ (gs : List ℕ). Each (λ k. IsAllFrom first (or_empty (t' k))) gs) c.deref.ensures.value (c.in_ok-rewrite_some.ensures.emptied first low) in
    if_ok c.leave.result _ (λ group h. elim h [
      | inl among ↦ any_of (λ k. IsAllFrom first (or_empty (t' k))) group c.args.part.now.groups.items each among
      | inr none ↦ c.in_ok-rewrite_some.ensures.still first group low none
    ])

pub returns-clause-goes : goal.returns-clause-goes
returns-clause-goes g c =
    let met = known_groups c.args.log.now.groups in
    let met' = known_groups c.rewrite_some.new.log.groups in
    let first = first_new c.args.part.now.files c.args.log.now.store.pipes.rewrite in
    let bound = bound_new c.args.part.now.files c.args.log.now.groups in
    let r = renewal_at first bound met in
    let goes : GoesOnRenewal met r = record { none_begun = refl; together = refl; above = c.go_on.ensures.above } in
    let d' = c.leave.new.store.pipes in
    let t' = tables_of c.rewrite_some.new.log.tables in
    let n' = g.F.FileSystem.directory c.leave.new.store.file_system in
    let above = c.go_on.ensures.above in
    let ids = c.rewrite_some.ensures.ids in
    let goes' : GoesOnRenewal met' r = record { none_begun = refl; together = sym c.rewrite_some.ensures.together; above = omega (arith, above, ids) } in
    both_ok c.leave.result _ _ _ (λ keeps still not.
    let same = ap (λ (d : DualState). d.rewrite.first) (still not) ∙ c.in_ok-rewrite_some.ensures.rewrites.keeps.first ∙ c.go_on.ensures.rotates.first in
    let least = c.go_on.ensures.behind in
    under_way_of first bound d' t' met' n' c.requires.some (λ x. still_under_way d' t' x.0 met' r n' x.1 goes' (omega (arith, same, least)) (keeps not (index_of t' x.0 met' (Some r)) x.1 (c.in_ok-rewrite_some.ensures.ok x.0 r x.1 goes (c.in_ok-first.ensures.now x.0 x.1 x.2)))))
    c.leave.ensures.goes c.leave.ensures.still

-- Where the queue begins then.

pub returns-clause-kept : goal.returns-clause-kept
returns-clause-kept g c =
    let first = c.in_ok-rewrite_some.ensures.rewrites.keeps.first ∙ c.go_on.ensures.rotates.first in
    on_ok_weaker c.leave.result (λ still not. ap (λ (d : DualState). d.rewrite.first) (still not) ∙ first) c.leave.ensures.still

pub returns-clause-dropped : goal.returns-clause-dropped
returns-clause-dropped g c =
    let first = c.in_ok-rewrite_some.ensures.rewrites.keeps.first ∙ c.go_on.ensures.rotates.first in
    let least = c.go_on.ensures.behind in
    let is = c.in_ok-first.ensures.value in
    on_ok_weaker c.leave.result (λ dropped last. dropped last (omega (arith, first, least, is)) ∙ kept_same c.in_ok-first.first (first_new c.args.part.now.files c.args.log.now.store.pipes.rewrite) c.rewrite_some.new.log.groups.together c.args.log.now.groups.together c.rewrite_some.new.log.tables c.rewrite_some.new.log.store.pipes.rewrite c.args.log.now.store.pipes.rewrite is c.rewrite_some.ensures.together first) c.leave.ensures.dropped

pub returns-clause-span : goal.returns-clause-span
returns-clause-span g c =
    let t' = tables_of c.rewrite_some.new.log.tables in
    let first = c.in_ok-rewrite_some.ensures.rewrites.keeps.first ∙ c.go_on.ensures.rotates.first in
    let least = c.go_on.ensures.behind in
    let is = c.in_ok-first.ensures.value in
    on_ok_weaker c.leave.result (λ gone last together none. gone last (c.rewrite_some.ensures.together ∙ together) (omega (arith, first, least, is)) (subst (λ (k : ℕ). AreRewrittenFrom k t') (sym is) none) ∙ is) c.leave.ensures.span

pub returns-in_err-first-clause-first : goal.returns-in_err-first-clause-first
returns-in_err-first-clause-first g c = on_err_of c.from_residual.result _ (inl c.go_on.ensures.rotates.first)

pub returns-in_err-rewrite_some-clause-first : goal.returns-in_err-rewrite_some-clause-first
returns-in_err-rewrite_some-clause-first g c =
    on_err_of c.from_residual-in_err-rewrite_some.result _ (inl (c.rewrite_some.ensures.rewrites.keeps.first ∙ c.go_on.ensures.rotates.first))

pub returns-clause-first : goal.returns-clause-first
returns-clause-first g c =
    let first = c.rewrite_some.ensures.rewrites.keeps.first ∙ c.go_on.ensures.rotates.first in
    on_err_of c.leave.result _ (dropped_some_then c.in_ok-first.first (first_new c.args.part.now.files c.args.log.now.store.pipes.rewrite) c.rewrite_some.new.log.tables c.args.log.now.store.pipes.rewrite c.rewrite_some.new.log.store.pipes.rewrite c.leave.new.store.pipes.rewrite c.in_ok-first.ensures.value first c.leave.ensures.first)

-- The Append queue's pipe is the same.

pub returns-in_err-first-clause-others : goal.returns-in_err-first-clause-others
returns-in_err-first-clause-others g c = c.go_on.ensures.rotates.others

pub returns-in_err-rewrite_some-clause-others : goal.returns-in_err-rewrite_some-clause-others
returns-in_err-rewrite_some-clause-others g c = λ queue other. c.rewrite_some.ensures.rewrites.keeps.others queue other ∙ c.go_on.ensures.rotates.others queue other

pub returns-clause-others : goal.returns-clause-others
returns-clause-others g c = λ queue other. c.leave.ensures.others queue other ∙ (c.rewrite_some.ensures.rewrites.keeps.others queue other ∙ c.go_on.ensures.rotates.others queue other)

pub returns-clause-stats : goal.returns-clause-stats
returns-clause-stats g c = if_ok c.leave.result _ c.reset_if.ensures.deleted

pub returns-clause-only : goal.returns-clause-only
returns-clause-only g c = if_ok c.leave.result _ c.in_ok-rewrite_some.ensures.only

pub returns-clause-folders : goal.returns-clause-folders
returns-clause-folders g c =
    let d = c.args.log.now.store.pipes in
    let mid = c.rewrite_some.new.log.store.pipes in
    on_ok_weaker c.leave.result (folders_then d mid c.leave.new.store.pipes (folders_then d c.go_on.new.store.pipes mid c.in_ok-first.ensures.rotates.folders c.in_ok-rewrite_some.ensures.rewrites.keeps.folders)) c.leave.ensures.folders
