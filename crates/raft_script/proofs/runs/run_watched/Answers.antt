use Rattle.std.proofs.Common.{◌≡◌, ◌∙◌, Bool, ℕ, ◌++◌, ◌∷◌, [], List, length, length-take, append_assoc, map, take, Some, false, refl, sym, ap, subst, arith, inl, inr}
use Rattle.std.proofs.lemmas.Bool.{cases_Bool}
use Rattle.std.proofs.lemmas.Grind.{common_steps}
use Rattle.std.proofs.lemmas.List.{length-map, map-append, take_all}
use Rattle.std.proofs.lemmas.List.Elements.{All-get_or}
use Rattle.std.proofs.lemmas.Option.{slice_get_read}
use Rattle.raft_env.specs.Directory.{Directory}
use Rattle.raft_config.specs.Folders.{Folders}
use Rattle.raft_records.specs.Contents.{Contents, after_batches}
use Rattle.raft_records.specs.Item.{Batch}
use Rattle.raft_crash_laws.specs.Contents.{known_from}
use Rattle.raft_crash_laws.specs.Begins.{LogStandsFor}
use Rattle.raft_crash_laws.specs.Crash.{LeavesAllowed, LeavesAllowedFrom}
use Rattle.raft_log_engine.specs.Durability.{Progresses, durability_of}
use Rattle.raft_log_engine.specs.Engine.{all_batches, base_of, contents_of, directory_of, durable_of, folders_of, found_groups_of, found_of, has_failed, is_known_in, refusals_of, unsynced_of}
use Rattle.raft_script.specs.Batches.{MayBeInFlight, accepted_of, is_covering}
use Rattle.raft_script.specs.Durability.{IsCall, IsDurableAfter, IsOutOfNumbersIn, Steps, durable_groups_of, progress_after_all}
use Rattle.raft_script.specs.Headline.{AreSafe, IsSafe, Progress, ReadsFirst, progress_after, progress_from}
use Rattle.raft_script.specs.Once.{AreOnce}
use Rattle.raft_script.proofs.ActOnceLemmas.{are_once}
use Rattle.raft_script.proofs.SafeLemmas.{are_safe, is_safe}
use Rattle.raft_script.specs.Run.{IsUnasked}
use Rattle.raft_script.specs.declared.operation.Op.{Op}
use Rattle.raft_script.proofs.StepsLemmas.{after-append, begun_place, failure_place, found_same, groups_same, known-append, last_state-more, leads_len, leads_more, place_more}
use Rattle.raft_script.proofs.DurabilityLemmas.{IsUnderWay, batches_more, durable_after, inside_here, leaves_standing, progress_more, read_standing, under_way_begun, under_way_more}
use Rattle.raft_script.proofs.ActLemmas.{have_acted}
use Rattle.raft_script.proofs.PassedLemmas.{passes_more, passes_none}
use Rattle.raft_script.proofs.RunLemmas.{IsNextPlace, accepted_same, answer_weaker, rose_more, stands_so_far, still_failing, taken_more}
use Rattle.raft_script.proofs.runs.run_watched.Goals as goal
use Rattle.raft_script.proofs.runs.run_watched.Goals.{then-stood+then-failed, else-stood, else-stood-via-then-stood+else-failed, else-stood-via-else-stood}

pub loop-op-preserved : goal.loop-op-preserved
loop-op-preserved g c =
    let kept = c.loop-op.invariant in
    let step = c.step-outcome.ensures in
    let begun = c.args.engine.now in
    let old = c.loop-op.engine in
    let new = c.step-outcome.new.engine in
    let law = c.an_engine_recovers_what_it_keeps-in-loop-op.ensures in
    let outcomes = c.loop-op.outcomes.items in
    let op = c.op-item.result in
    let outcome = c.step-outcome.result in
    let place = c.loop-op.op-index in
    let failed_at = c.loop-op.failed_at in
    let next_at = c.if-stood.failed_at in
    let ops = take place c.args.ops.now in
    let folders = folders_of begun in
    let done : length ops ≡ place = omega (arith, c.loop-op-test.true, length-take place c.args.ops.now) in
    let taken = taken_more c.args.ops.now place op c.loop-op-test.true c.op-item.is in
    let same_len : length outcomes ≡ length ops = omega (arith, done, kept.0) in
    let still = still_failing op outcome (has_failed old) (has_failed new) step.failed in
    let found = found_of begun in
    let before : found_of old ≡ found = found_same old begun kept.2 kept.3 in
    let after : found_of new ≡ found = found_same new begun (step.folder ∙ kept.2) (step.others ∙ kept.3) in
    let groups : found_groups_of old ≡ found_groups_of begun = groups_same old begun kept.2 kept.3 in
    let next : IsNextPlace (has_failed old) (has_failed new) place failed_at next_at = elim c.if-stood.branch [
      | then-stood+then-failed w ↦ record {
        falls = λ alive fell. w.failed_at-is ∙ ap Some (w.len.ensures ∙ kept.0);
        rests = λ same. grind (arith, common_steps, same, w.failed.ensures.value, w.if-failed.true, c.failed-stood.ensures.value, w.if-stood);
      }
      | else-stood w ↦ record {
        falls = λ alive fell. elim w.else-stood.branch [
          | else-stood-via-then-stood+else-failed v ↦ grind (arith, common_steps, fell, v.failed.ensures.value, v.if-failed.false)
          | else-stood-via-else-stood v ↦ grind (arith, common_steps, alive, c.failed-stood.ensures.value, v.if-stood)
        ];
        rests = λ same. w.failed_at-is;
      }
    ] in
    let m = durable_of begun in
    let known = durable_groups_of begun in
    let first = progress_from (unsynced_of begun) in
    let p = progress_after_all m first ops outcomes in
    let q = progress_after m p op outcome in
    let here = slice_get_read c.args.ops.now (length c.args.ops.now) place op refl c.loop-op-test.true c.op-item.is in
    let does = step.progress in
    let flight = does.flight in
    let holds = kept.10.holds in
    let held : has_failed old ≡ false → contents_of old ≡ after_batches m p.batches = λ alive.
    ap (λ (f : Contents). after_batches f (all_batches old)) before ∙ ap (after_batches found) (kept.4 alive) ∙ after-append found (base_of begun) p.batches in
    let wrote : accepted_of (contents_of old) op outcome ≡ accepted_of (after_batches m p.batches) op outcome = accepted_same (contents_of old) (after_batches m p.batches) op (has_failed old) held outcome (has_failed new) step.failed in
    let progress = subst (λ (l : List Batch). Progresses l (is_covering op outcome) flight (durability_of old) (durability_of new)) wrote does.progress in
    let way = under_way_more found m p c.args.ops.now place failed_at next_at (durability_of old) kept.5 op outcome flight (durability_of new) next here (subst (λ (f : Contents). MayBeInFlight (after_batches f (all_batches old)) op flight) before does.may_be) progress holds in
    let alive_before : has_failed new ≡ false → has_failed old ≡ false = λ stands. elim (cases_Bool (has_failed old)) [
      | inl gone ↦ absurd (let clash = sym (still gone) ∙ stands in cc)
      | inr alive ↦ alive
    ] in
    let listed : has_failed new ≡ false → all_batches new ≡ base_of begun ++ q.batches = λ stands.
    batches_more _ _ flight (durability_of old) (durability_of new) does.progress stands
    ∙ ap (λ (l : List Batch). l ++ accepted_of (contents_of old) op outcome) (kept.4 (alive_before stands))
    ∙ ap (λ (l : List Batch). (base_of begun ++ p.batches) ++ l) wrote
    ∙ append_assoc (base_of begun) p.batches (accepted_of (after_batches m p.batches) op outcome) in
    let now = (g.met.F.FileSystem g.world.𝓛 g.world.𝓜 g.world.𝓡 ((λ s allowed. allowed), (λ patient. patient), (λ solo. solo), (λ cuts. cuts))).now_counts new.log.store.file_system in
    let once = (g.met.F.FileSystem g.world.𝓛 g.world.𝓜 g.world.𝓡 ((λ s allowed. allowed), (λ patient. patient), (λ solo. solo), (λ cuts. cuts))).now_counts old.log.store.file_system in
    let here_before : LeavesAllowed (folders_of old) (durable_of old) (unsynced_of old) (directory_of old) = subst (λ (f : Contents). LeavesAllowed (folders_of old) (after_batches f (base_of old)) (unsynced_of old) (directory_of old)) (sym before) kept.10.leaves in
    let here_after : LeavesAllowed (folders_of old) (after_batches found (base_of new)) (unsynced_of new) (directory_of new) =
    subst (λ (f : Contents). LeavesAllowed (folders_of old) (after_batches f (base_of new)) (unsynced_of new) (directory_of new)) after
    (subst (λ (f : Folders). LeavesAllowed f (durable_of new) (unsynced_of new) (directory_of new)) step.folder law.crash) in
    let written : has_failed new ≡ false → LogStandsFor (folders_of old) (after_batches found (base_of new)) (unsynced_of new) (directory_of new) = λ stands.
    subst (λ (f : Contents). LogStandsFor (folders_of old) (after_batches f (base_of new)) (unsynced_of new) (directory_of new)) after
    (subst (λ (f : Folders). LogStandsFor f (durable_of new) (unsynced_of new) (directory_of new)) step.folder (law.written stands)) in
    let ahead : (some : List Batch) (x : Directory) → has_failed old ≡ false → MayBeInFlight (contents_of old) op some → LeavesAllowed (folders_of old) (durable_of old) (unsynced_of old ++ some) x
    → MayBeInFlight (after_batches m p.batches) op some × LeavesAllowedFrom p.covered (folders_of old) m (p.batches ++ some) x = λ some x alive may_be left.
    inside_here found m p c.args.ops.now place failed_at next_at (durability_of old) kept.5 op outcome some (durability_of new) next (folders_of old) x (subst (λ (f : Contents). MayBeInFlight (after_batches f (all_batches old)) op some) before may_be) holds alive
    (subst (λ (f : Contents). LeavesAllowed (folders_of old) (after_batches f (base_of old)) (unsynced_of old ++ some) x) before left) in
    let read : has_failed new ≡ false → ReadsFirst (λ x. x ≡ after_batches m q.batches) (folders_of old) (directory_of new) = λ stands.
    read_standing (folders_of old) found m q c.args.ops.now next_at (durability_of new) way stands (directory_of new) (written stands) in
    let left : has_failed new ≡ false → LeavesAllowedFrom q.covered (folders_of old) m q.batches (directory_of new) = λ stands.
    leaves_standing (folders_of old) found m q c.args.ops.now next_at (durability_of new) way stands (directory_of new) here_after in
    let holding : has_failed new ≡ false → contents_of new ≡ after_batches m q.batches = λ stands.
    ap (λ (f : Contents). after_batches f (all_batches new)) after ∙ ap (after_batches found) (listed stands) ∙ after-append found (base_of begun) q.batches in
    let safe : IsSafe m p op outcome old new = is_safe old new once now op outcome does c.crashes_come_back.ensures m p step.failed here_before ahead (λ stands. (holding stands, read stands, left stands)) in
    let known_is : has_failed old ≡ false → known_from known p.batches ≡ is_known_in old = λ alive.
    sym (known-append (found_groups_of begun) (base_of begun) p.batches)
    ∙ ap (known_from (found_groups_of begun)) (sym (kept.4 alive))
    ∙ ap (λ (k : ℕ → Bool). known_from k (all_batches old)) (sym groups) in
    let ended : IsOutOfNumbersIn (folders_of new) (directory_of new) → IsOutOfNumbersIn folders (directory_of new) = subst (λ (f : Folders). IsOutOfNumbersIn f (directory_of new)) (step.folder ∙ kept.2) in
    let answer = answer_weaker _ (IsOutOfNumbersIn folders (directory_of new)) (λ last. ended (c.last_number_stands.ensures last.0 last.1)) (has_failed old) (after_batches m p.batches) (known_from known p.batches) op outcome
    (step.value (after_batches m p.batches) (known_from known p.batches) (λ alive. sym (held alive)) known_is) in
    let is_call : IsCall folders m known p op outcome old new = record { answer = answer; failure = step.failed; safe = safe; does = does; called = step.called } in
    let states = kept.6.states in
    let fails = map has_failed states in
    let as_many = leads_len (IsCall folders m known) m first begun ops outcomes states kept.6.each in
    let counted : length fails ≡ place = omega (arith, as_many, kept.0, length-map states has_failed) in
    let failure = place_more fails (has_failed new) (has_failed old) failed_at next_at (subst (λ (k : ℕ). IsNextPlace (has_failed old) (has_failed new) k failed_at next_at) (sym counted) next) still (has_failed begun) kept.7 kept.6.place in
    let steps : Steps has_failed (IsCall folders m known) m first begun (ops ++ op ∷ []) (outcomes ++ outcome ∷ []) next_at new = record {
      states = states ++ new ∷ [];
      each = leads_more (IsCall folders m known) m op outcome new first begun ops outcomes states kept.6.each (subst (λ e. IsCall folders m known p op outcome e new) (sym kept.6.ends) is_call);
      ends = last_state-more begun states new;
      place = failure.1 ∙ ap (failure_place (has_failed begun)) (sym (map-append has_failed states (new ∷ [])));
    } in
    let more : progress_after_all m first (ops ++ op ∷ []) (outcomes ++ outcome ∷ []) ≡ q = progress_more m first ops outcomes op outcome same_len in
    let way_more = subst (λ (r : Progress). IsUnderWay found m r c.args.ops.now next_at (durability_of new)) (sym more) way in
    let listed_more = subst (λ (r : Progress). has_failed new ≡ false → all_batches new ≡ base_of begun ++ r.batches) (sym more) listed in (
      omega (arith, c.in_ok-push.ensures.len, kept.0),
      omega (arith, c.in_ok-push.ensures.capacity, kept.1),
      step.folder ∙ kept.2,
      step.others ∙ kept.3,
      rw (taken, c.in_ok-push.ensures.items) listed_more,
      rw (taken, c.in_ok-push.ensures.items) way_more,
      rw (taken, c.in_ok-push.ensures.items) steps,
      failure.0,
      rw c.in_ok-push.ensures.items (rose_more outcomes outcome (refusals_of begun) (refusals_of old) (refusals_of new) kept.8 step.cause),
      λ none. step.unchanged (subst IsUnasked (sym c.op-item.is) (All-get_or IsUnasked c.args.ops.now place op c.loop-op-test.true none)) ∙ kept.9 none,
      record { leaves = subst (λ (f : Contents). LeavesAllowed (folders_of new) (after_batches f (base_of new)) (unsynced_of new) (directory_of new)) after law.crash; holds = λ alive. after-append found (base_of new) (unsynced_of new) },
      passes_more begun old new kept.11 step.passed still (λ gone. let heads : directory_of new ∷ now.0 ≡ directory_of old ∷ once.0 = sym now.1 ∙ does.rests gone ∙ once.1 in cc),
    )

pub loop-op-init : goal.loop-op-init
loop-op-init g c =
    let e = c.args.engine.now in
    let law = c.an_engine_recovers_what_it_keeps.ensures in
    rw c.in_ok-outcomes.ensures.items (
      c.in_ok-outcomes.ensures.len,
      omega (arith, c.in_ok-outcomes.ensures.capacity),
      refl,
      refl,
      λ stands. refl,
      under_way_begun (found_of e) c.args.ops.now (durability_of e),
      record { states = []; each = tt; ends = refl; place = begun_place (has_failed e) },
      stands_so_far (has_failed e),
      omega arith,
      λ _. refl,
      record { leaves = law.crash; holds = law.contents },
      passes_none e,
    )

pub returns-clause-ok : goal.returns-clause-ok
returns-clause-ok g c =
    let e = c.loop-op.engine in
    let old = c.args.engine.now in
    let ops = c.args.ops.now in
    let outcomes = c.loop-op.outcomes.items in
    let failed_at = c.loop-op.failed_at in
    let m = durable_of old in
    let first = progress_from (unsynced_of old) in
    let kept = c.loop-op.invariant in
    let whole : take c.loop-op.op-index ops ≡ ops = take_all c.loop-op.op-index ops (omega (arith, c.loop-op-test.false)) in
    let way = subst (λ (l : List Op). IsUnderWay (found_of old) m (progress_after_all m first l outcomes) ops failed_at (durability_of e)) whole kept.5 in
    record {
      steps = subst (λ (l : List Op). Steps has_failed (IsCall (folders_of old) m (durable_groups_of old)) m first old l outcomes failed_at e) whole kept.6;
      counted = kept.8;
      batches = subst (λ (l : List Op). has_failed e ≡ false → all_batches e ≡ base_of old ++ (progress_after_all m first l outcomes).batches) whole kept.4;
      progress = subst (λ (f : Contents). IsDurableAfter failed_at m (unsynced_of old) ops outcomes (after_batches f (base_of e)) (unsynced_of e)) (sym (found_same e old kept.2 kept.3)) (durable_after (found_of old) m (unsynced_of old) ops outcomes failed_at (durability_of e) way);
    }

pub returns-clause-numbers : goal.returns-clause-numbers
returns-clause-numbers g c =
    let old = c.args.engine.now in
    have_acted c.a_number_acts_once.ensures.once (contents_of old) (durable_of old) (unsynced_of old) c.args.ops.now c.loop-op.outcomes.items (after-append (found_of old) (base_of old) (unsynced_of old))

pub returns-clause-crash : goal.returns-clause-crash
returns-clause-crash g c =
    let old = c.args.engine.now in
    let ops = c.args.ops.now in
    let whole : take c.loop-op.op-index ops ≡ ops = take_all c.loop-op.op-index ops (omega (arith, c.loop-op-test.false)) in
    subst (λ (l : List Op). AreSafe l c.loop-op.outcomes.items old c.loop-op.engine) whole
    (are_safe old c.loop-op.engine (take c.loop-op.op-index ops) c.loop-op.outcomes.items c.loop-op.failed_at c.crashes_come_back.ensures c.an_engine_recovers_what_it_keeps.ensures.crash c.loop-op.invariant.6)

pub returns-clause-once : goal.returns-clause-once
returns-clause-once g c =
    let old = c.args.engine.now in
    let ops = c.args.ops.now in
    let whole : take c.loop-op.op-index ops ≡ ops = take_all c.loop-op.op-index ops (omega (arith, c.loop-op-test.false)) in
    subst (λ (l : List Op). AreOnce l c.loop-op.outcomes.items old c.loop-op.engine) whole
    (are_once c.a_number_acts_once.ensures.once (take c.loop-op.op-index ops) c.loop-op.outcomes.items old c.loop-op.engine
    (are_safe old c.loop-op.engine (take c.loop-op.op-index ops) c.loop-op.outcomes.items c.loop-op.failed_at c.crashes_come_back.ensures c.an_engine_recovers_what_it_keeps.ensures.crash c.loop-op.invariant.6))

pub returns-clause-passed : goal.returns-clause-passed
returns-clause-passed g c = c.loop-op.invariant.11

pub returns-in_err-outcomes-clause-passed : goal.returns-in_err-outcomes-clause-passed
returns-in_err-outcomes-clause-passed g c = passes_none c.args.engine.now
