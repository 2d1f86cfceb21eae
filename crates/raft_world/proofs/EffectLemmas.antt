-- Each call has its effect, by its own clauses.
use Rattle.std.proofs.Common.{◌≡◌, ◌⊎◌, ◌∙◌, ◌++◌, ◌∷◌, ℕ, true, false, Bool, List, [], append-nil, refl, sym, ap, subst, inl, inr}
use Rattle.std.specs.Prelude.{Result, Ok, Err, is_none, is_ok, if◌then◌else◌}
use Rattle.std.specs.List.{AllByRecursion}
use Rattle.std.proofs.lemmas.Bool.{cases_Bool}
use Rattle.raft_base.specs.declared.errors.Fault.{Fault}
use Rattle.raft_records.specs.Contents.{Contents, after_batches}
use Rattle.raft_records.specs.Item.{Batch}
use Rattle.raft_records.specs.Validity.{batch_refusal}
use Rattle.raft_env.specs.Directory.{Directory}
use Rattle.raft_env.specs.Moments.{HoldsThroughout}
use Rattle.raft_env.specs.declared.env.FileSystem.{Ghosts}
use Rattle.raft_crash_laws.specs.Contents.{found_contents}
use Rattle.raft_crash_laws.specs.Crash.{LeavesAllowed, RecoversContents, pending_of, written_batch}
use Rattle.raft_log_engine.specs.Advance.{Advances, ChangesOnlyItsLog, state_of}
use Rattle.raft_log_engine.specs.Cause.{plain_part}
use Rattle.raft_log_engine.specs.Durability.{Durability, Progresses, StaysFailed, accepted_by, after_call, covered_by, durability_of}
use Rattle.raft_log_engine.specs.Engine.{base_of, begun_of, contents_of, directory_of, durable_of, folders_of, found_of, has_failed, moments_of, queue_of, target_size_of, unsynced_of}
use Rattle.raft_log_engine.specs.Group.{LeavesChoice, chosen_of, group_state_of}
use Rattle.raft_log_engine.specs.Once.{acting_batch}
use Rattle.raft_log_engine.specs.Reads.{compact_batch}
use Rattle.raft_log_engine.specs.declared.engine.Engine.{Engine}
use Rattle.raft_log_engine.proofs.EngineLemmas.{engine_keeps, engine_leaves}
use Rattle.raft_config.specs.Folders.{folders_in}
use Rattle.raft_config.specs.declared.config.Config.{Config}
use Rattle.raft_log_engine.specs.Opening.{Opens}
use Rattle.raft_log_engine.specs.declared.engine.Refused.{Refused}
use Rattle.raft_world.specs.Call.{Ends, HasEffect, MayFollow}
use Rattle.raft_world.specs.Happens.{HasOpened}
use Rattle.raft_world.specs.Effects.{ArmingHasNoEffect, CloseEnds, CompactionHasEffect, EffectStoodBefore, EffectSyncsAll, GiveUpEnds, KillEnds, NothingHasNoEffect, OpeningMakesAnew, PurgeHasEffect, ReadHasNoEffect, ReopenEnds, SyncHasEffect, WriteGroupHasEffect, WriteHasEffect, WriteOnceHasEffect, no_effect}
use Rattle.raft_world.proofs.LedgerLemmas.{none_chosen}
use Rattle.raft_world.proofs.NumberLemmas.{none_follow}
use Rattle.raft_world.proofs.PlainLemmas.{accepted_follow, compact_follows, once_follows, part_plain, parts_follow, plain_follows}

-- what holds at each moment does so in other words
weaker : (P Q : Directory → Type 0) (old new : List Directory) (now : Directory) → ((n : Directory) → P n → Q n) → HoldsThroughout old new now P → HoldsThroughout old new now Q
weaker P Q old new now implies holds = record { added = holds.added; is = holds.is; each = all holds.added holds.each; here = implies now holds.here }
  where
    all : (l : List Directory) → AllByRecursion P l → AllByRecursion Q l
    all [] each = tt
    all (x ∷ l) each = (implies x each.0, all l each.1)

chosen_one : (m : Contents) (items : Batch) (choice : List Bool) → MayFollow m (written_batch items) → MayFollow m (chosen_of m choice (items ∷ []))
chosen_one m items [] follow = none_follow m
chosen_one m items (true ∷ choice) follow = subst (MayFollow m) (sym (ap (λ l. pending_of m items ++ l) (none_chosen _ choice) ∙ append-nil (pending_of m items))) (pending_one (is_none (batch_refusal m items)))
  where
    pending_one : (b : Bool) → MayFollow m (if b then written_batch items else [])
    pending_one true = follow
    pending_one false = none_follow m
chosen_one m items (false ∷ choice) follow = subst (MayFollow m) (sym (none_chosen m choice)) (none_follow m)

accepted_one : (m : Contents) (items : Batch) (result : Result ℕ Fault) → MayFollow m (written_batch items) → MayFollow m (accepted_by result (written_batch items))
accepted_one m items (Ok x) follow = follow
accepted_one m items (Err e) follow = none_follow m

module _ {F H R W : Type 0} (g : Ghosts F H R W) where
  rests_by : (old new : Engine F H R W g) → (has_failed old ≡ true → StaysFailed old new) → has_failed old ≡ true → (has_failed new ≡ true) × (directory_of new ≡ directory_of old) × (moments_of new ≡ moments_of old)
  rests_by old new stays gone = let s = stays gone in (s.failed, s.files, s.moments)

  -- what its opening found is the same
  same_found : (old new : Engine F H R W g) → folders_of new ≡ folders_of old → begun_of new ≡ begun_of old → found_of new ≡ found_of old
  same_found old new folders begun = ap (λ f. found_contents f (begun_of new)) folders ∙ ap (found_contents (folders_of old)) begun

  -- Writes.

  -- one batch, of which nothing or all is accepted
  advance_has_effect : (batch : Batch) (accepted : List Batch) (syncs : Bool) (old new : Engine F H R W g) → Advances accepted syncs (pending_of (contents_of old) batch) (state_of old) (state_of new) → (has_failed old ≡ true → StaysFailed old new)
      → MayFollow (contents_of old) accepted → MayFollow (contents_of old) (written_batch batch) → HasEffect (record { writes = batch ∷ []; accepts = accepted; syncs = syncs }) old new
  advance_has_effect batch accepted syncs old new advance stays follow flight =
      let one : chosen_of (contents_of old) (true ∷ []) (batch ∷ []) ≡ pending_of (contents_of old) batch = append-nil (pending_of (contents_of old) batch) in
      record {
        folders = advance.only.log.folders;
        found = same_found old new advance.only.log.folders advance.only.log.begun;
        written = true ∷ [];
        progress = subst (λ l. Progresses accepted syncs l (durability_of old) (durability_of new)) (sym one) advance.progress;
        any_moment = λ alive. weaker _ (LeavesChoice (folders_of old) (durable_of old) (unsynced_of old) (contents_of old) (batch ∷ [])) (moments_of old) (moments_of new) (directory_of new)
            (λ n leaves. ∣ (true ∷ [], subst (λ l. LeavesAllowed (folders_of old) (durable_of old) (unsynced_of old ++ l) n) (sym one) leaves) ∣₁) advance.any_moment.throughout;
        rests = rests_by old new stays;
        numbers = λ alive. follow;
        flights = λ alive choice. chosen_one (contents_of old) batch choice flight;
      }

  pub write_has_effect : WriteHasEffect g
  write_has_effect batch rest sync old new result call plain =
      let part = plain_part batch in
      let follow = plain_follows (contents_of old) part (part_plain batch) in
      advance_has_effect part (accepted_by result (written_batch part)) (covered_by result sync) old new plain (λ gone. (call.unchanged gone).0) (accepted_one (contents_of old) part result follow) follow

  pub write_once_has_effect : WriteOnceHasEffect g
  write_once_has_effect batch rest pairs sync old new result numbers write =
      let acting = acting_batch (contents_of old) batch pairs in
      let follow = once_follows (contents_of old) batch pairs numbers in
      advance_has_effect acting (accepted_by result (written_batch acting)) (covered_by result sync) old new write.advance write.unchanged (accepted_one (contents_of old) acting result follow) follow

  pub compaction_has_effect : CompactionHasEffect g
  compaction_has_effect group index old new (Ok count) compacts =
      let batch = compact_batch group index ((contents_of old).entries group) in
      let follow = compact_follows (contents_of old) group index ((contents_of old).entries group) in
      advance_has_effect batch (written_batch batch) false old new compacts.advance compacts.unchanged follow follow
  compaction_has_effect group index old new (Err e) compacts =
      let batch = compact_batch group index ((contents_of old).entries group) in
      advance_has_effect batch [] false old new compacts.advance compacts.unchanged (none_follow (contents_of old)) (compact_follows (contents_of old) group index ((contents_of old).entries group))

  pub write_group_has_effect : WriteGroupHasEffect g
  write_group_has_effect batches rest count flags sync old new (Ok answers) write = record {
    folders = write.only.log.folders;
    found = same_found old new write.only.log.folders write.only.log.begun;
    written = [];
    progress = write.progress;
    any_moment = λ alive. write.any_moment.throughout;
    rests = rests_by old new (λ gone. (write.unchanged gone).0);
    numbers = λ alive. accepted_follow (target_size_of old) (folders_of old) (queue_of new) (contents_of old) batches answers.items (group_state_of old) write.ok.written write.ok.answered;
    flights = λ alive choice. parts_follow (contents_of old) batches choice;
  }
  write_group_has_effect batches rest count flags sync old new (Err e) write = record {
    folders = write.only.log.folders;
    found = same_found old new write.only.log.folders write.only.log.begun;
    written = write.progress.0;
    progress = write.progress.1;
    any_moment = λ alive. write.any_moment.throughout;
    rests = rests_by old new (λ gone. (write.unchanged gone).0);
    numbers = λ alive. none_follow (contents_of old);
    flights = λ alive choice. parts_follow (contents_of old) batches choice;
  }

  -- Syncs and purges.

  -- a call that writes no batch
  writes_nothing : (syncs : Bool) (old new : Engine F H R W g) → Progresses [] syncs [] (durability_of old) (durability_of new)
      → (has_failed old ≡ false → HoldsThroughout (moments_of old) (moments_of new) (directory_of new) (LeavesAllowed (folders_of old) (durable_of old) (unsynced_of old)))
      → ChangesOnlyItsLog (state_of old) (state_of new) → (has_failed old ≡ true → StaysFailed old new) → HasEffect (record { writes = []; accepts = []; syncs = syncs }) old new
  writes_nothing syncs old new progress any_moment others stays = record {
    folders = others.folders;
    found = same_found old new others.folders others.begun;
    written = [];
    progress = progress;
    any_moment = λ alive. weaker _ (LeavesChoice (folders_of old) (durable_of old) (unsynced_of old) (contents_of old) []) (moments_of old) (moments_of new) (directory_of new)
        (λ n leaves. ∣ ([], subst (λ l. LeavesAllowed (folders_of old) (durable_of old) l n) (sym (append-nil (unsynced_of old))) leaves) ∣₁) (any_moment alive);
    rests = rests_by old new stays;
    numbers = λ alive. none_follow (contents_of old);
    flights = λ alive choice. subst (MayFollow (contents_of old)) (sym (none_chosen (contents_of old) choice)) (none_follow (contents_of old));
  }

  pub sync_has_effect : SyncHasEffect g
  sync_has_effect old new result sync = writes_nothing (is_ok result) old new sync.advance.progress
      (λ alive. weaker _ (LeavesAllowed (folders_of old) (durable_of old) (unsynced_of old)) (moments_of old) (moments_of new) (directory_of new) (λ n leaves. subst (λ l. LeavesAllowed (folders_of old) (durable_of old) l n) (append-nil (unsynced_of old)) leaves) sync.advance.any_moment.throughout)
      sync.advance.only.log sync.unchanged

  pub purge_has_effect : (T : Type 0) (EndsOpen LacksId : Engine F H R W g → Type 0) → PurgeHasEffect g T EndsOpen LacksId
  purge_has_effect T EndsOpen LacksId queue result old new log stays = writes_nothing (is_ok result) old new log.progress (λ alive. log.any_moment.throughout) log.others stays

  -- Reads.

  reads_only : (old new : Engine F H R W g) → directory_of new ≡ directory_of old → moments_of new ≡ moments_of old → folders_of new ≡ folders_of old → durability_of new ≡ durability_of old → begun_of new ≡ begun_of old → HasEffect no_effect old new
  reads_only old new files moments folders state begun = record {
    folders = folders;
    found = same_found old new folders begun;
    written = [];
    progress = inl (refl, refl, state);
    any_moment = λ alive. record {
      added = [];
      is = moments;
      each = tt;
      here = ∣ (
        [],
        subst (λ l. LeavesAllowed (folders_of old) (durable_of old) l (directory_of new)) (sym (append-nil (unsynced_of old))) (subst (LeavesAllowed (folders_of old) (durable_of old) (unsynced_of old)) (sym files) (engine_leaves old)),
      ) ∣₁;
    };
    rests = λ gone. (ap (λ (d : Durability). d.failed) state ∙ gone, files, moments);
    numbers = λ alive. none_follow (contents_of old);
    flights = λ alive choice. subst (MayFollow (contents_of old)) (sym (none_chosen (contents_of old) choice)) (none_follow (contents_of old));
  }

  pub read_has_no_effect : ReadHasNoEffect g
  read_has_no_effect old new read = reads_only old new read.files read.moments read.folders read.state read.begun

  pub nothing_has_no_effect : NothingHasNoEffect g
  nothing_has_no_effect e = reads_only e e refl refl refl refl refl

  pub arming_has_no_effect : ArmingHasNoEffect g
  arming_has_no_effect old new armed = reads_only old new armed.files armed.moments armed.folders armed.state armed.begun

  -- Any effect.

  pub effect_syncs_all : EffectSyncsAll g
  effect_syncs_all effect old new has syncs = elim has.progress [
    | inl none ↦ let clash : true ≡ false = sym syncs ∙ none.1 in absurd cc
    | inr (inl done) ↦
        let is : durability_of new ≡ after_call effect.accepts true (durability_of old) = done.1 ∙ ap (λ (b : Bool). after_call effect.accepts b (durability_of old)) syncs in
        let none : unsynced_of new ≡ [] = ap (λ (d : Durability). d.unsynced) is in
        ((ap (after_batches (found_of new)) (sym (append-nil (base_of new)) ∙ ap (λ (l : List Batch). base_of new ++ l) (sym none)), none), ap (λ (d : Durability). d.failed) is ∙ done.0)
    | inr (inr torn) ↦ let clash : true ≡ false = sym syncs ∙ torn.2 in absurd cc
  ]

  pub stood_before : EffectStoodBefore g
  stood_before effect old new has stands = elim (cases_Bool (has_failed old)) [
    | inl gone ↦ let clash : true ≡ false = sym (has.rests gone).0 ∙ stands in absurd cc
    | inr alive ↦ alive
  ]

  -- Closes.

  -- a call that returned `Ok` began with an engine that hadn't failed
  stood : (old : Engine F H R W g) → ((has_failed old ≡ true) → ⊥) → has_failed old ≡ false
  stood old never = elim (cases_Bool (has_failed old)) [
    | inl gone ↦ absurd (never gone)
    | inr alive ↦ alive
  ]

  pub close_ends : CloseEnds g
  close_ends old (Ok files) ok err failed = (record { stood = stood old failed.1; contents = ok.contents; keeps = ok.keeps; openable = ok.openable }, tt)
  close_ends old (Err r) ok err failed = (tt, record { keeps = inl err })

  pub reopen_ends : ReopenEnds g
  reopen_ends old (Ok e) contents ok crash failed unchanged = (record { folders = ok.folders_are; stood = stood old failed.1; stands = ok.stands; synced = ok.synced; contents = contents }, tt)
  reopen_ends old (Err r) contents ok crash failed unchanged = (
    tt,
    record {
      keeps = elim (cases_Bool (has_failed old)) [
        | inl gone ↦ inl (subst (RecoversContents (folders_of old) (durable_of old) (unsynced_of old)) (sym (unchanged gone)) (engine_keeps old))
        | inr alive ↦ by_crash alive crash
      ];
    },
  )
    where
      by_crash : has_failed old ≡ false → RecoversContents (folders_of old) (durable_of old) (unsynced_of old) (g.directory r.file_system) ⊎ RecoversContents (folders_of old) (contents_of old) [] (g.directory r.file_system)
          → RecoversContents (folders_of old) (durable_of old) (unsynced_of old) (g.directory r.file_system) ⊎ ((has_failed old ≡ false) × RecoversContents (folders_of old) (contents_of old) [] (g.directory r.file_system))
      by_crash alive (inl before) = inl before
      by_crash alive (inr all) = inr (alive, all)

  pub give_up_ends : GiveUpEnds g
  give_up_ends old files keeps = record { keeps = inl keeps }

  pub kill_ends : KillEnds g
  kill_ends old files same = record { keeps = inl (subst (RecoversContents (folders_of old) (durable_of old) (unsynced_of old)) (sym same) (engine_keeps old)) }

  pub ends_by : (old : Engine F H R W g) (files : F) → HoldsThroughout (moments_of old) (g.moments files) (g.directory files) (LeavesAllowed (folders_of old) (durable_of old) (unsynced_of old)) → Ends old files
  ends_by old files any_moment = record { any_moment = any_moment }

  -- Openings.

  pub opening_makes_anew : OpeningMakesAnew g
  opening_makes_anew config files e opens = let new = opens.opened.ok in (new.folders_are, new.synced, new.stands)

  pub opened_by : (config : Config) (files : F) (answer : Result (Engine F H R W g) (Refused F)) → Opens config files answer → HasOpened g (folders_in config) config files answer
  opened_by config files answer opens = record { same = refl; opens = opens }
