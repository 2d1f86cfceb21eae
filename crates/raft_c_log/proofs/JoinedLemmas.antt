-- Calls on an open log join.
use Rattle.std.proofs.Common.{◌≡◌, ◌⊎◌, ◌∙◌, ◌+◌, ◌++◌, ℕ, ℤ, Bool, true, false, List, [], ◌∷◌, Option, Some, None, Ok, Err, ap, append_assoc, arith, inl, inr, length, length-append, pos, refl, subst, sym, take, append-nil}
use Rattle.std.specs.Prelude.{IsErrAnd, IsSomeAnd, Result, is_ok, option_map, zip}
use Rattle.std.proofs.Math.Logic.{∥∥₁_map}
use Rattle.std.proofs.Math.Seq.{take-append-add}
use Rattle.std.proofs.lemmas.Bool.{cases_Bool}
use Rattle.std.proofs.lemmas.List.{append_cancel_left}
use Rattle.raft_base.specs.Fault.{fault_code}
use Rattle.raft_base.specs.declared.errors.Fault.{Fault}
use Rattle.raft_env.specs.Directory.{Directory, file_at}
use Rattle.raft_env.specs.Moments.{OnlyReads}
use Rattle.raft_env.specs.declared.env.FileSystem.{Ghosts}
use Rattle.raft_env.proofs.MomentsLemmas.{moves_then, moves_weaker, reads_moves}
use Rattle.raft_config.specs.Folders.{Folders}
use Rattle.raft_pipes.specs.Folder.{LeavesOtherFiles}
use Rattle.raft_records.specs.Contents.{Contents, after_batches}
use Rattle.raft_records.specs.Item.{Batch}
use Rattle.raft_crash_laws.specs.Contents.{found_contents}
use Rattle.raft_crash_laws.specs.Crash.{LeavesAllowed, pending_of, written_batch}
use Rattle.raft_crash_laws.proofs.ContentsLemmas.{after-append}
use Rattle.raft_log_engine.specs.Advance.{Advances, ChangesOnlyItsLog, LogState, StaysWithin, durable_in, state_of}
use Rattle.raft_log_engine.specs.Durability.{Durability, HasOnlyRead, Progresses, StaysFailed, durability_of}
use Rattle.raft_queues.specs.Dual.{DualState}
use Rattle.raft_queues.specs.PassedOver.{StayPassedOver}
use Rattle.raft_log_engine.specs.Calls.{IsCallersWrite}
use Rattle.raft_log_engine.specs.Once.{IsWriteOnce, acting_batch}
use Rattle.raft_log_engine.specs.Engine.{IsAllSynced, Memory, base_of, contents_of, directory_of, durable_of, folders_of, found_of, has_failed, unsynced_of}
use Rattle.raft_log_engine.specs.PurgeCalls.{PurgesLog}
use Rattle.raft_base.specs.declared.pipe_log.LogQueue.{LogQueue}
use Rattle.raft_log_engine.specs.declared.engine.Engine.{Engine}
use Rattle.raft_log_engine.proofs.AdvanceLemmas.{changes_none, changes_then, stays_more}
use Rattle.raft_log_engine.proofs.CrashLemmas.{leaves_if, leaves_more}
use Rattle.raft_log_engine.proofs.EngineLemmas.{engine_leaves}
use Rattle.raft_c_batch.specs.Batch.{read_batch}
use Rattle.raft_c_log.specs.Calls.{ComesTo, IsBatchCall, IsCall, IsCalled, IsKeptOff}
use Rattle.raft_c_log.specs.Joined.{AreAnswered, Asked, GoesOn, IsAnswered, LeadsOn, all_in, flight_of, is_covering, may_write, pending_in}
use Rattle.raft_c_log.specs.Outcomes.{HasEnded, IsReply, code_of}
use Rattle.raft_c_log.specs.declared.answer.Answer.{Answer}
use Rattle.raft_c_log.specs.declared.calls.Change.{Change}
use Rattle.raft_c_log.specs.declared.calls.Change.TheVariants.{Write, WriteOnce, Sync, CompactTo, RewriteAppendQueue, RewriteAppendGroups, RewriteRewriteQueue, RewriteRewriteGroups, PurgeAllStale, PurgeExpired}
use Rattle.raft_c_log.proofs.CodeLemmas.{fault_code_some}

-- What a call does by its progress.

-- .. its batches
progress_all : (a : List Batch) (c : Bool) (flight : List Batch) (old new : Durability) → Progresses a c flight old new → (written : List Batch) × (new.base ++ new.unsynced ≡ (old.base ++ old.unsynced) ++ written)
progress_all a c flight old new (inl rest) = ([], ap (λ (d : Durability). d.base ++ d.unsynced) rest.2 ∙ sym (append-nil (old.base ++ old.unsynced)))
progress_all a true flight old new (inr (inl done)) = (a, ap (λ (d : Durability). d.base ++ d.unsynced) done.1 ∙ append-nil ((old.base ++ old.unsynced) ++ a))
progress_all a false flight old new (inr (inl done)) = (a, ap (λ (d : Durability). d.base ++ d.unsynced) done.1 ∙ sym (append_assoc old.base old.unsynced a))
progress_all a c flight old new (inr (inr fails)) = elim fails.3 [
  | inl flying ↦ (flight, ap (λ (d : Durability). d.base ++ d.unsynced) flying ∙ sym (append_assoc old.base old.unsynced flight))
  | inr none ↦ ([], ap (λ (d : Durability). d.base ++ d.unsynced) none ∙ sym (append-nil (old.base ++ old.unsynced)))
]

-- .. the durable ones
progress_durable : (a : List Batch) (c : Bool) (flight : List Batch) (old new : Durability) → Progresses a c flight old new → (more : List Batch) × (new.base ≡ old.base ++ more)
progress_durable a c flight old new (inl rest) = ([], ap (λ (d : Durability). d.base) rest.2 ∙ sym (append-nil old.base))
progress_durable a true flight old new (inr (inl done)) = (old.unsynced ++ a, ap (λ (d : Durability). d.base) done.1 ∙ append_assoc old.base old.unsynced a)
progress_durable a false flight old new (inr (inl done)) = ([], ap (λ (d : Durability). d.base) done.1 ∙ sym (append-nil old.base))
progress_durable a c flight old new (inr (inr fails)) = elim fails.3 [
  | inl flying ↦ ([], ap (λ (d : Durability). d.base) flying ∙ sym (append-nil old.base))
  | inr none ↦ ([], ap (λ (d : Durability). d.base) none ∙ sym (append-nil old.base))
]

progress_covered : (a flight : List Batch) (old new : Durability) → Progresses a true flight old new → (new.failed ≡ false) × (new.unsynced ≡ [])
progress_covered a flight old new (inl rest) = absurd (let clash = rest.1 in cc)
progress_covered a flight old new (inr (inl done)) = (ap (λ (d : Durability). d.failed) done.1 ∙ done.0, ap (λ (d : Durability). d.unsynced) done.1)
progress_covered a flight old new (inr (inr fails)) = absurd (let clash = fails.2 in cc)

abbrev Goes : LogState → LogState → Type 0
Goes old new = (written : List Batch) × GoesOn written old new

goes_by : (a : List Batch) (c : Bool) (flight : List Batch) {old new : LogState} → ChangesOnlyItsLog old new → Progresses a c flight old.durability new.durability
    → (old.durability.failed ≡ true → (new.durability.failed ≡ true) × (new.files ≡ old.files)) → Goes old new
goes_by a c flight {old} {new} only progress rests =
    let all = progress_all a c flight old.durability new.durability progress in
    let durable = progress_durable a c flight old.durability new.durability progress in
    (all.0, record { only = only; written_are = all.1; more = durable.0; durable = durable.1; rests = rests })

-- calls join
goes_then : {old mid new : LogState} → Goes old mid → Goes mid new → Goes old new
goes_then {old} {mid} {new} (written, first) (later, second) = (
  written ++ later,
  record {
    only = elim (cases_Bool mid.durability.failed) [
      | inl gone ↦ record {
        folders = second.only.folders ∙ first.only.folders;
        settings = second.only.settings ∙ first.only.settings;
        begun = second.only.begun ∙ first.only.begun;
        others = λ path other reserved. ap (λ (n : Directory). file_at n path) (second.rests gone).1 ∙ first.only.others path other reserved;
        passed = λ queue path over. ap (λ (n : Directory). file_at n path) (second.rests gone).1 ∙ first.only.passed queue path over;
        still = λ stands. absurd (let fails = (second.rests gone).0 in let clash : true ≡ false = sym fails ∙ stands in cc);
        together = second.only.together ∙ first.only.together;
      }
      | inr alive ↦ changes_then alive first.only second.only
    ];
    written_are = second.written_are ∙ ap (λ (l : List Batch). l ++ later) first.written_are ∙ append_assoc (all_in old) written later;
    more = first.more ++ second.more;
    durable = second.durable ∙ ap (λ (l : List Batch). l ++ second.more) first.durable ∙ append_assoc old.durability.base first.more second.more;
    rests = λ gone. ((second.rests (first.rests gone).0).0, (second.rests (first.rests gone).0).1 ∙ (first.rests gone).1);
  },
)

-- what a crash leaves, by what was durable before

-- .. of batches that were made sure of since
durable_ahead : (folders : Folders) (m : Contents) (more batches : List Batch) (n : Directory) → LeavesAllowed folders (after_batches m more) batches n → LeavesAllowed folders m (more ++ batches) n
durable_ahead folders m more batches n = leaves_if folders 0 0 (after_batches m more) m batches (more ++ batches) n (λ found allowed. ∥∥₁_map allowed (λ x. (
  length more + x.0,
  omega arith,
  omega (arith, x.2, length-append more batches),
  x.3 ∙ sym (after-append m more (take x.0 batches)) ∙ ap (after_batches m) (sym (take-append-add more batches x.0)),
)))

-- .. of a log that went on
gone_ahead : {written : List Batch} {old mid : LogState} → GoesOn written old mid → (flight : List Batch) (n : Directory)
    → LeavesAllowed mid.folders (durable_in mid) (mid.durability.unsynced ++ flight) n → LeavesAllowed old.folders (durable_in old) ((old.durability.unsynced ++ written) ++ flight) n
gone_ahead {written} {old} {mid} goes flight n leaves =
    subst (λ (l : List Batch). LeavesAllowed old.folders (durable_in old) l n) (sym (append_assoc goes.more mid.durability.unsynced flight) ∙ ap (λ (l : List Batch). l ++ flight) rest)
    (durable_ahead old.folders (durable_in old) goes.more (mid.durability.unsynced ++ flight) n
    (subst (λ (m : Contents). LeavesAllowed old.folders m (mid.durability.unsynced ++ flight) n) grown
    (subst (λ (f : Folders). LeavesAllowed f (durable_in mid) (mid.durability.unsynced ++ flight) n) goes.only.folders leaves)))
  where
    grown : durable_in mid ≡ after_batches (durable_in old) goes.more
    grown = (λ i. after_batches (found_contents (goes.only.folders i) (goes.only.begun i)) (goes.durable i))
        ∙ after-append (found_contents old.folders old.begun) old.durability.base goes.more

    rest : goes.more ++ mid.durability.unsynced ≡ old.durability.unsynced ++ written
    rest = append_cancel_left old.durability.base (goes.more ++ mid.durability.unsynced) (old.durability.unsynced ++ written)
        (sym (append_assoc old.durability.base goes.more mid.durability.unsynced)
        ∙ ap (λ (l : List Batch). l ++ mid.durability.unsynced) (sym goes.durable)
        ∙ goes.written_are
        ∙ append_assoc old.durability.base old.durability.unsynced written)

-- the result of a call that is done
answered : {T : Type 0} {Clause : Result T Fault → Type 0} {Told : T → Type 0} {done : Unit {0}} → IsCall Clause Told (Ok done) → (x : T) × Clause (Ok x)
answered {T} {Clause} {Told} {done} call = by call.result call.clause call.comes
  where
    by : (result : Result T Fault) → Clause result → ComesTo Told result (Ok done) → (x : T) × Clause (Ok x)
    by (Ok x) clause told = (x, clause)
    by (Err e) clause told = absurd told

-- .. with the batch that was taken
of_batch : {P : Type 0} (Clause : Batch → Batch → Result ℕ Fault → Type 0) (done : Unit {0}) → ((items rest : Batch) (len : ℕ) → Clause items rest (Ok len) → P) → (taken : Option Batch) → IsSomeAnd taken (IsBatchCall Clause (Ok done)) → P
of_batch Clause done each None call = absurd call
of_batch Clause done each (Some items) call = let ok = answered call.1 in each items call.0 ok.0 ok.1

mapped_same : (taken : Option Batch) → option_map (λ (items : Batch). items) taken ≡ taken
mapped_same None = refl
mapped_same (Some items) = refl

-- One call.

module _ {F H R W : Type 0} {g : Ghosts F H R W} where
  rests_as : {old new : Engine F H R W g} → (has_failed old ≡ true → StaysFailed old new) → has_failed old ≡ true → (has_failed new ≡ true) × (directory_of new ≡ directory_of old)
  rests_as stays gone = ((stays gone).failed, (stays gone).files)

  goes_read : {old new : Engine F H R W g} → HasOnlyRead old new → Goes (state_of old) (state_of new)
  goes_read {old} {new} read = goes_by [] false []
      (record {
        folders = read.folders;
        settings = read.settings;
        begun = read.begun;
        others = λ path other reserved. ap (λ (n : Directory). file_at n path) read.files;
        passed = λ queue path over. ap (λ (n : Directory). file_at n path) read.files;
        still = λ stands. subst (λ (d : DualState). StayPassedOver old.log.store.pipes d) (sym read.pipes) (λ queue path over. over);
        together = ap (λ (m : Memory). m.groups.together) read.memory;
      })
      (inl (refl, refl, read.state))
      (λ gone. (ap (λ (d : Durability). d.failed) read.state ∙ gone, read.files))

  only_same : (e : Engine F H R W g) → HasOnlyRead e e
  only_same e = record { files = refl; moments = refl; refusals = (omega arith, omega arith); folders = refl; state = refl; begun = refl; settings = refl; pipes = refl; memory = refl }

  goes_still : {old new : Engine F H R W g} → new ≡ old → Goes (state_of old) (state_of new)
  goes_still {old} {new} same = subst (λ (e : Engine F H R W g). Goes (state_of old) (state_of e)) (sym same) (goes_read (only_same old))

  goes_advance : {a : List Batch} {c : Bool} {flight : List Batch} {old new : Engine F H R W g} → Advances a c flight (state_of old) (state_of new) → (has_failed old ≡ true → StaysFailed old new) → Goes (state_of old) (state_of new)
  goes_advance {a} {c} {flight} {old} advance stays = goes_by a c flight advance.only.log advance.progress (rests_as stays)

  goes_purge : {T : Type 0} {queue : LogQueue} {ends_open no_id : Type 0} {result : Result T Fault} {old new : Engine F H R W g} → PurgesLog queue ends_open no_id result old new → (has_failed old ≡ true → StaysFailed old new) → Goes (state_of old) (state_of new)
  goes_purge {result = result} {old = old} log stays = goes_by [] (is_ok result) [] log.others log.progress (rests_as stays)

  -- a call with the batch that was taken
  goes_batch : (old new : Engine F H R W g) (Clause : Batch → Batch → Result ℕ Fault → Type 0) (outcome : Result (Unit {0}) Fault) → ((items rest : Batch) (result : Result ℕ Fault) → Clause items rest result → Goes (state_of old) (state_of new))
      → (taken : Option Batch) → IsSomeAnd taken (IsBatchCall Clause outcome) → Goes (state_of old) (state_of new)
  goes_batch old new Clause outcome each None call = absurd call
  goes_batch old new Clause outcome each (Some items) call = each items call.0 call.1.result call.1.clause

  goes_called : (change : Change) (outcome : Result (Unit {0}) Fault) (old new : Engine F H R W g) (answer : Answer) → IsCalled change outcome old new answer → Goes (state_of old) (state_of new)
  goes_called (Write bytes sync) outcome old new answer (inl off) = goes_still off.1
  goes_called (Write bytes sync) outcome old new answer (inr call) = goes_batch old new (λ items rest. IsCallersWrite items rest sync old new) outcome (λ items rest result write. goes_advance write.call.advance (λ gone. (write.call.unchanged gone).0)) (read_batch bytes.now) call
  goes_called (WriteOnce bytes groups numbers sync) outcome old new answer (inl off) = goes_still off.1
  goes_called (WriteOnce bytes groups numbers sync) outcome old new answer (inr call) = goes_batch old new (λ items rest. IsWriteOnce items rest (zip groups.now numbers.now) sync old new) outcome (λ items rest result write. goes_advance write.advance write.unchanged) (read_batch bytes.now) call
  goes_called Sync outcome old new answer call = goes_advance call.advance call.unchanged
  goes_called (CompactTo group index) outcome old new answer call = goes_advance call.clause.advance call.clause.unchanged
  goes_called RewriteAppendQueue outcome old new answer call = goes_purge call.clause.log call.clause.unchanged
  goes_called (RewriteAppendGroups watermark from budget) outcome old new answer call = goes_purge call.clause.log call.clause.unchanged
  goes_called RewriteRewriteQueue outcome old new answer call = goes_purge call.clause.log call.clause.unchanged
  goes_called (RewriteRewriteGroups from budget) outcome old new answer call = goes_purge call.clause.log call.clause.unchanged
  goes_called PurgeAllStale outcome old new answer call = goes_purge call.clause.log call.clause.unchanged
  goes_called (PurgeExpired barrier) outcome old new answer (inl call) = goes_purge call.clause.log call.clause.unchanged
  goes_called (PurgeExpired barrier) outcome old new answer (inr untold) = goes_purge untold.1.1.log untold.1.1.unchanged

  goes_answered : (asked : Asked) (old new : Engine F H R W g) → IsAnswered asked old new → Goes (state_of old) (state_of new)
  goes_answered (inl change) old new call = goes_called change call.2.outcome old new call.1 call.2.called
  goes_answered (inr q) old new call = goes_read call.2.only

  -- .. and many
  goes_on : (asked : List Asked) (old new : Engine F H R W g) → AreAnswered asked old new → Goes (state_of old) (state_of new)
  goes_on [] old new same = goes_still same
  goes_on (one ∷ more) old new calls = goes_then (goes_answered one old calls.0 calls.1) (goes_on more calls.0 new calls.2)

  -- Inside a call.

  -- what a crash leaves in it, where it may write these
  abbrev Within : List Batch → Engine F H R W g → Engine F H R W g → Type 0
  Within flight old new = StaysWithin (LeavesAllowed (folders_of old) (durable_of old) (unsynced_of old ++ flight)) (state_of old) (state_of new)

  within_any : (flight : List Batch) (old new : Engine F H R W g) → StaysWithin (LeavesAllowed (folders_of old) (durable_of old) (unsynced_of old)) (state_of old) (state_of new) → Within flight old new
  within_any flight old new moments = moves_weaker (λ n. leaves_more (folders_of old) 0 (durable_of old) (unsynced_of old) flight n) moments

  within_read : (flight : List Batch) (old new : Engine F H R W g) → HasOnlyRead old new → Within flight old new
  within_read flight old new read =
      within_any flight old new (reads_moves (engine_leaves old) (record { same_files = read.files; same_moments = read.moments; no_fewer = read.refusals }))

  within_still : (flight : List Batch) (old new : Engine F H R W g) → new ≡ old → Within flight old new
  within_still flight old new same = subst (λ (e : Engine F H R W g). Within flight old e) (sym same) (within_read flight old old (only_same old))

  within_batch : (old new : Engine F H R W g) (Clause : Batch → Batch → Result ℕ Fault → Type 0) (outcome : Result (Unit {0}) Fault) (acts : Batch → Batch)
      → ((items rest : Batch) (result : Result ℕ Fault) → Clause items rest result → Within (pending_of (contents_of old) (acts items)) old new)
      → (taken : Option Batch) → IsSomeAnd taken (IsBatchCall Clause outcome) → Within (pending_in (contents_of old) (option_map acts taken)) old new
  within_batch old new Clause outcome acts each None call = absurd call
  within_batch old new Clause outcome acts each (Some items) call = each items call.0 call.1.result call.1.clause

  within_called : (change : Change) (outcome : Result (Unit {0}) Fault) (old new : Engine F H R W g) (answer : Answer) → IsCalled change outcome old new answer → Within (flight_of change (contents_of old)) old new
  within_called (Write bytes sync) outcome old new answer (inl off) = within_still (flight_of (Write bytes sync) (contents_of old)) old new off.1
  within_called (Write bytes sync) outcome old new answer (inr call) =
      subst (λ (taken : Option Batch). Within (pending_in (contents_of old) taken) old new) (mapped_same (read_batch bytes.now))
      (within_batch old new (λ items rest. IsCallersWrite items rest sync old new) outcome (λ items. items) (λ items rest result write. write.call.advance.any_moment) (read_batch bytes.now) call)
  within_called (WriteOnce bytes groups numbers sync) outcome old new answer (inl off) = within_still (flight_of (WriteOnce bytes groups numbers sync) (contents_of old)) old new off.1
  within_called (WriteOnce bytes groups numbers sync) outcome old new answer (inr call) =
      within_batch old new (λ items rest. IsWriteOnce items rest (zip groups.now numbers.now) sync old new) outcome (λ items. acting_batch (contents_of old) items (zip groups.now numbers.now)) (λ items rest result write. write.advance.any_moment) (read_batch bytes.now) call
  within_called Sync outcome old new answer call = call.advance.any_moment
  within_called (CompactTo group index) outcome old new answer call = call.clause.advance.any_moment
  within_called RewriteAppendQueue outcome old new answer call = within_any [] old new call.clause.log.any_moment
  within_called (RewriteAppendGroups watermark from budget) outcome old new answer call = within_any [] old new call.clause.log.any_moment
  within_called RewriteRewriteQueue outcome old new answer call = within_any [] old new call.clause.log.any_moment
  within_called (RewriteRewriteGroups from budget) outcome old new answer call = within_any [] old new call.clause.log.any_moment
  within_called PurgeAllStale outcome old new answer call = within_any [] old new call.clause.log.any_moment
  within_called (PurgeExpired barrier) outcome old new answer (inl call) = within_any [] old new call.clause.log.any_moment
  within_called (PurgeExpired barrier) outcome old new answer (inr untold) = within_any [] old new untold.1.1.log.any_moment

  within_answered : (next : Asked) (old new : Engine F H R W g) → IsAnswered next old new → Within (may_write next (contents_of old)) old new
  within_answered (inl change) old new call = within_called change call.2.outcome old new call.1 call.2.called
  within_answered (inr q) old new call = within_read [] old new call.2.only

  pub leads_on : (asked : List Asked) (old mid : Engine F H R W g) → AreAnswered asked old mid → LeadsOn old mid
  leads_on asked old mid calls =
      let goes = goes_on asked old mid calls in
      (goes.0, goes.1, λ next new call. moves_weaker (gone_ahead goes.1 (may_write next (contents_of mid))) (within_answered next mid new call))

  -- A call that makes sure of all.

  covered : (a flight : List Batch) (old new : Engine F H R W g) → Progresses a true flight (durability_of old) (durability_of new) → (has_failed new ≡ false) × IsAllSynced new
  covered a flight old new progress =
      let done = progress_covered a flight (durability_of old) (durability_of new) progress in
      (done.0, (sym (ap (λ (l : List Batch). after_batches (found_of new) (base_of new ++ l)) done.1 ∙ ap (after_batches (found_of new)) (append-nil (base_of new))), done.1))

  covered_if : (a flight : List Batch) (c : Bool) (old new : Engine F H R W g) → c ≡ true → Progresses a c flight (durability_of old) (durability_of new) → (has_failed new ≡ false) × IsAllSynced new
  covered_if a flight c old new asks progress = covered a flight old new (subst (λ (d : Bool). Progresses a d flight (durability_of old) (durability_of new)) asks progress)

  -- .. of a purge
  covered_purge : {T : Type 0} {queue : LogQueue} {ends_open no_id : Type 0} {old new : Engine F H R W g} {x : T} → PurgesLog queue ends_open no_id (Ok x) old new → (has_failed new ≡ false) × IsAllSynced new
  covered_purge {old = old} {new = new} log = covered [] [] old new log.progress

  covered_call : (change : Change) (done : Unit {0}) (old new : Engine F H R W g) (answer : Answer) → is_covering change ≡ true → IsCalled change (Ok done) old new answer → (has_failed new ≡ false) × IsAllSynced new
  covered_call (Write bytes sync) done old new answer asks (inl off) = absurd off.0
  covered_call (Write bytes sync) done old new answer asks (inr call) =
      of_batch (λ items rest. IsCallersWrite items rest sync old new) done (λ items rest len write. covered_if (written_batch items) (pending_of (contents_of old) items) sync old new asks write.call.advance.progress) (read_batch bytes.now) call
  covered_call (WriteOnce bytes groups numbers sync) done old new answer asks (inl off) = absurd off.0
  covered_call (WriteOnce bytes groups numbers sync) done old new answer asks (inr call) =
      of_batch (λ items rest. IsWriteOnce items rest (zip groups.now numbers.now) sync old new) done (λ items rest len write. let acting = acting_batch (contents_of old) items (zip groups.now numbers.now) in covered_if (written_batch acting) (pending_of (contents_of old) acting) sync old new asks write.advance.progress) (read_batch bytes.now) call
  covered_call Sync done old new answer asks call = covered [] [] old new call.advance.progress
  covered_call (CompactTo group index) done old new answer asks call = absurd (let clash = asks in cc)
  covered_call RewriteAppendQueue done old new answer asks call = covered_purge (answered call).1.log
  covered_call (RewriteAppendGroups watermark from budget) done old new answer asks call = covered_purge (answered call).1.log
  covered_call RewriteRewriteQueue done old new answer asks call = covered_purge (answered call).1.log
  covered_call (RewriteRewriteGroups from budget) done old new answer asks call = covered_purge (answered call).1.log
  covered_call PurgeAllStale done old new answer asks call = covered_purge (answered call).1.log
  covered_call (PurgeExpired barrier) done old new answer asks (inl call) = covered_purge (answered call).1.log
  covered_call (PurgeExpired barrier) done old new answer asks (inr untold) = absurd (let clash = untold.0 in cc)

  pub covered_ended : (change : Change) (answer : Answer) (old new : Engine F H R W g) → is_covering change ≡ true → HasEnded change (pos 0) old new answer → (has_failed new ≡ false) × IsAllSynced new
  covered_ended change answer old new asks ended = by ended.outcome ended.code_is ended.called
    where
      by : (outcome : Result (Unit {0}) Fault) → pos 0 ≡ code_of outcome → IsCalled change outcome old new answer → (has_failed new ≡ false) × IsAllSynced new
      by (Ok done) is called = covered_call change done old new answer asks called
      by (Err e) is called = absurd (let some = fault_code_some e in let none : 0 ≡ fault_code e = (let same = is in cc) in omega (arith, some, none))
