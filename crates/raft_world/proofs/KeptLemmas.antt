-- What each call keeps, each opening finds: by induction over everything that happens.
use Rattle.std.proofs.Common.{◌≡◌, ◌∙◌, ◌+◌, ◌++◌, ◌∷◌, ℕ, zero, suc, true, false, Bool, List, [], append-nil, arith, length, refl, sym, ap, subst}
use Rattle.std.proofs.Props.{props}
use Rattle.std.proofs.Math.Logic.{∥∥₁_elim}
use Rattle.std.proofs.lemmas.List.{take_all}
use Rattle.std.specs.List.{AllByRecursion}
use Rattle.std.specs.Prelude.{IfOk, Result, Ok, Err, is_none, take, if◌then◌else◌}
use Rattle.raft_base.specs.declared.errors.Fault.{Fault}
use Rattle.raft_records.specs.Contents.{Contents, after_batch, after_batches}
use Rattle.raft_records.specs.Item.{Batch}
use Rattle.raft_records.specs.Validity.{batch_refusal}
use Rattle.raft_env.specs.declared.env.FileSystem.{Ghosts}
use Rattle.raft_config.specs.Folders.{Folders}
use Rattle.raft_config.specs.declared.config.Config.{Config}
use Rattle.raft_crash_laws.specs.Crash.{pending_of, written_batch}
use Rattle.raft_log_engine.specs.Durability.{accepted_by}
use Rattle.raft_log_engine.specs.Engine.{contents_of}
use Rattle.raft_log_engine.specs.Group.{chosen_of}
use Rattle.raft_log_engine.specs.declared.engine.Engine.{Engine}
use Rattle.raft_log_engine.specs.declared.engine.Refused.{Refused}
use Rattle.raft_world.specs.Happens.{Begins, BeginsWith, Called, Closed, Crashed, Down, Failed, FindsOnly, GivenUp, Happens, Holds, Inside, InsideCall, InsideClose, InsideOpening, Node, Opened, OpeningFailed, Reopened, Rested, Restarted, Running, TheLogIsSafe, Untouched, ledger_of}
use Rattle.raft_world.specs.Kept.{CallsKeep, EachCall, EachFoundHas, IsKeptBy, Keeps, NodeHas, SyncedMayBegin, WhatCallsKeepHolds, WhatCallsKeepIsFound, WritesKeep}
use Rattle.raft_world.specs.Ledger.{Effect, Ledger, MayRecover, accepted_contents, accepting, after_effect, all_durable, durable_contents, interrupted}
use Rattle.raft_world.proofs.EffectLemmas.{stood_before}
use Rattle.raft_world.proofs.LedgerLemmas.{after-append, after_accepting, all_durable_accepted, durable_is_found, found_is_a_first_part, may_find, none_chosen, take_nothing, take_past}

module _ (holds : Contents → Bool) where
  abbrev Has : Contents → Type 0
  Has m = holds m ≡ true

  -- Batches.

  -- after each first part of these batches
  abbrev HasAlong : Contents → List Batch → Type 0
  HasAlong m batches = (count : ℕ) → Has (after_batches m (take count batches))

  has_after : (m : Contents) (batches : List Batch) → HasAlong m batches → Has (after_batches m batches)
  has_after m batches along = subst (λ (xs : List Batch). Has (after_batches m xs)) (take_all (length batches) batches (omega arith)) (along (length batches))

  along_none : (m : Contents) (batches : List Batch) → batches ≡ [] → Has m → HasAlong m batches
  along_none m batches none has count = subst (λ (xs : List Batch). Has (after_batches m xs)) (sym (ap (take count) none ∙ take_nothing count)) has

  -- after each first part of two lists, if so of the first list, and of the second one after it
  along_both : (m : Contents) (xs ys : List Batch) → HasAlong m xs → HasAlong (after_batches m xs) ys → HasAlong m (xs ++ ys)
  along_both m [] ys first next count = next count
  along_both m (x ∷ xs) ys first next zero = first zero
  along_both m (x ∷ xs) ys first next (suc count) = along_both (after_batch m x) xs ys (λ n. first (suc n)) next count

  along_written : (m : Contents) (batch : Batch) → Has m → Has (after_batch m batch) → HasAlong m (written_batch batch)
  along_written m [] has after count = along_none m [] refl has count
  along_written m (item ∷ items) has after zero = has
  along_written m (item ∷ items) has after (suc count) = along_none (after_batch m (item ∷ items)) [] refl after count

  along_pending : (m : Contents) (batch : Batch) → Has m → Has (after_batch m batch) → HasAlong m (pending_of m batch)
  along_pending m batch has after = by_fit (is_none (batch_refusal m batch))
    where
      by_fit : (fits : Bool) → HasAlong m (if fits then written_batch batch else [])
      by_fit true = along_written m batch has after
      by_fit false = along_none m [] refl has

  along_each : (m : Contents) (batches : List Batch) → Has m → AllByRecursion (IsKeptBy holds) batches → HasAlong m batches
  along_each m batches has each zero = has
  along_each m [] has each (suc count) = has
  along_each m (b ∷ batches) has each (suc count) = along_each (after_batch m b) batches (each.0 m has) each.1 count

  along_chosen : (written : List Bool) (batches : List Batch) → AllByRecursion (IsKeptBy holds) batches → (m : Contents) → Has m → HasAlong m (chosen_of m written batches)
  along_chosen [] batches each m has = along_none m [] refl has
  along_chosen (true ∷ written) [] each m has = along_none m [] refl has
  along_chosen (false ∷ written) [] each m has = along_none m [] refl has
  along_chosen (true ∷ written) (b ∷ batches) each m has =
      let first : HasAlong m (pending_of m b) = along_pending m b has (each.0 m has) in
      along_both m (pending_of m b) (chosen_of (after_batches m (pending_of m b)) written batches) first
      (along_chosen written batches each.1 (after_batches m (pending_of m b)) (has_after m (pending_of m b) first))
  along_chosen (false ∷ written) (b ∷ batches) each m has = along_chosen written batches each.1 m has

  -- one batch in flight
  along_one : (m : Contents) (batch : Batch) → Has m → Has (after_batch m batch) → (written : List Bool) → HasAlong m (chosen_of m written (batch ∷ []))
  along_one m batch has after [] = along_none m [] refl has
  along_one m batch has after (true ∷ written) =
      along_both m (pending_of m batch) (chosen_of (after_batches m (pending_of m batch)) written []) (along_pending m batch has after)
      (along_none (after_batches m (pending_of m batch)) (chosen_of (after_batches m (pending_of m batch)) written []) (none_chosen (after_batches m (pending_of m batch)) written)
      (has_after m (pending_of m batch) (along_pending m batch has after)))
  along_one m batch has after (false ∷ written) = along_none m (chosen_of m written []) (none_chosen m written) has

  along_accepted : (m : Contents) (batch : Batch) (result : Result ℕ Fault) → Has m → Has (after_batch m batch) → HasAlong m (accepted_by result (written_batch batch))
  along_accepted m batch (Ok count) has after = along_written m batch has after
  along_accepted m batch (Err e) has after = along_none m [] refl has

  -- Ledgers.

  -- the property, in all that an opening may find of a log
  record KeepsAll (l : Ledger) : Type 0 where
    unsynced : HasAlong (durable_contents l) l.unsynced
    in_flight : (written : List Bool) → HasAlong (accepted_contents l) (chosen_of (accepted_contents l) written l.in_flight)

  has_now : (l : Ledger) → KeepsAll l → Has (accepted_contents l)
  has_now l all = all.in_flight [] zero

  found_along : (l : Ledger) → KeepsAll l → (written : List Bool) → HasAlong (durable_contents l) (l.unsynced ++ chosen_of (accepted_contents l) written l.in_flight)
  found_along l all written = along_both (durable_contents l) l.unsynced (chosen_of (accepted_contents l) written l.in_flight) all.unsynced (all.in_flight written)

  each_found : (l : Ledger) → KeepsAll l → EachFoundHas holds l
  each_found l all found may = ∥∥₁_elim ((found_is_a_first_part l found).0 may) (hlevel props) (λ (written, count, is). subst Has (sym is) (found_along l all written count))

  keeps_all : (l : Ledger) → EachFoundHas holds l → KeepsAll l
  keeps_all l each = record {
    unsynced = λ count. subst (λ (xs : List Batch). Has (after_batches (durable_contents l) (take count xs))) (append-nil l.unsynced) (each (after_batches (durable_contents l) (take count (l.unsynced ++ []))) (may_find l [] count));
    in_flight = λ written count.
        let flight : List Batch = chosen_of (accepted_contents l) written l.in_flight in
        subst Has (ap (after_batches (durable_contents l)) (take_past l.unsynced flight count) ∙ after-append (durable_contents l) l.unsynced (take count flight))
        (each (after_batches (durable_contents l) (take (length l.unsynced + count) (l.unsynced ++ flight))) (may_find l written (length l.unsynced + count)));
  }

  -- a log without batches that a crash may take
  settled : (start : Contents) (durable : List Batch) → Has (after_batches start durable) → KeepsAll (record { start = start; durable = durable; unsynced = []; in_flight = [] })
  settled start durable has = record {
    unsynced = along_none (after_batches start durable) [] refl has;
    in_flight = λ written. along_none (after_batches start durable) (chosen_of (after_batches start durable) written []) (none_chosen (after_batches start durable) written) has;
  }

  -- What an event makes of the log.

  opened : (l later : Ledger) (found : Contents) → KeepsAll l → MayRecover l later found → KeepsAll later
  opened l later found all may = ∥∥₁_elim may (hlevel props) (λ (written, count, is, same).
      let left : List Batch = take count (l.unsynced ++ chosen_of (accepted_contents l) written l.in_flight) in
      subst KeepsAll (sym is) (settled l.start (l.durable ++ left) (subst Has (sym (after-append l.start l.durable left)) (found_along l all written count))))

  all_synced : (l : Ledger) → KeepsAll l → KeepsAll (all_durable l)
  all_synced l all = settled l.start (l.durable ++ l.unsynced) (subst Has (sym (all_durable_accepted l)) (has_now l all))

  called : (l : Ledger) → KeepsAll l → (effect : Effect) → HasAlong (accepted_contents l) effect.accepts → KeepsAll (after_effect effect l)
  called l all effect along = by_syncs effect.syncs
    where
      accepted : KeepsAll (accepting effect.accepts l)
      accepted = record {
        unsynced = along_both (durable_contents l) l.unsynced effect.accepts all.unsynced along;
        in_flight = λ written. along_none (accepted_contents (accepting effect.accepts l)) (chosen_of (accepted_contents (accepting effect.accepts l)) written []) (none_chosen (accepted_contents (accepting effect.accepts l)) written)
            (subst Has (sym (after-append (durable_contents l) l.unsynced effect.accepts)) (has_after (accepted_contents l) effect.accepts along));
      }

      by_syncs : (syncs : Bool) → KeepsAll (after_accepting effect.accepts syncs l)
      by_syncs true = all_synced (accepting effect.accepts l) accepted
      by_syncs false = accepted

  cut_short : (l : Ledger) → KeepsAll l → (effect : Effect) → ((written : List Bool) → HasAlong (accepted_contents l) (chosen_of (accepted_contents l) written effect.writes)) → KeepsAll (interrupted effect l)
  cut_short l all effect along = record { unsynced = all.unsynced; in_flight = along }

module _ {F H R W : Type 0} (g : Ghosts F H R W) where
  -- Calls.

  pub calls_keep : CallsKeep g
  calls_keep holds e effect writes accepts = record {
    accepted = λ has. along_each holds (contents_of e) effect.accepts has accepts;
    in_flight = λ has written. along_chosen holds written effect.writes writes (contents_of e) has;
  }

  pub writes_keep : WritesKeep g
  writes_keep holds e batch sync result keeps = record {
    accepted = λ has. along_accepted holds (contents_of e) batch result has (keeps has);
    in_flight = λ has. along_one holds (contents_of e) batch has (keeps has);
  }

  pub synced_may_begin : SyncedMayBegin g
  synced_may_begin holds e synced has found may = subst (λ (m : Contents). holds m ≡ true) (sym (durable_is_found (ledger_of e) found synced.1 refl may ∙ synced.0)) has

  -- Everything that happens.

  module _ (safe : TheLogIsSafe g) (folders : Folders) (first : Ledger) (holds : Contents → Bool) (start : KeepsAll holds first) where
    -- a call at the log that the engine has
    called_at : (e : Engine F H R W g) (l : Ledger) (effect : Effect) → contents_of e ≡ accepted_contents l → KeepsAll holds l → Keeps holds e effect → KeepsAll holds (after_effect effect l)
    called_at e l effect same all keeps =
        called holds l all effect (subst (λ (m : Contents). HasAlong holds m effect.accepts) same (keeps.accepted (subst (Has holds) (sym same) (has_now holds l all))))

    cut_short_at : (e : Engine F H R W g) (l : Ledger) (effect : Effect) → contents_of e ≡ accepted_contents l → KeepsAll holds l → Keeps holds e effect → KeepsAll holds (interrupted effect l)
    cut_short_at e l effect same all keeps =
        cut_short holds l all effect (subst (λ (m : Contents). (written : List Bool) → HasAlong holds m (chosen_of m written effect.writes)) same (keeps.in_flight (subst (Has holds) (sym same) (has_now holds l all))))

    kept_all : (node : Node g) (l : Ledger) (happened : Happens g folders first node l) → EachCall g folders first (Keeps holds) node l happened → KeepsAll holds l
    kept_all _ _ (Begins n none clear starts) each = start
    kept_all _ _ (BeginsWith e same alive starts) each = start
    kept_all _ _ (Opened config files l later e before opens found) each = opened holds l later (contents_of e) (kept_all (Down (g.directory files)) l before each) found
    kept_all _ _ (OpeningFailed config files l r before opens clean) each = kept_all (Down (g.directory files)) l before each
    kept_all _ _ (Called e later l effect before call stands) each =
        called_at e l effect (safe folders first (Running e) l before (stood_before g effect e later call stands)) (kept_all (Running e) l before each.0) each.1
    kept_all _ _ (Failed e later l effect before call alive fails) each =
        cut_short_at e l effect (safe folders first (Running e) l before alive) (kept_all (Running e) l before each.0) each.1
    kept_all _ _ (Rested e later l effect before call gone) each = kept_all (Running e) l before each
    kept_all _ _ (Closed e l files before closes) each = all_synced holds l (kept_all (Running e) l before each)
    kept_all _ _ (Reopened e later l before reopens) each = all_synced holds l (kept_all (Running e) l before each)
    kept_all _ _ (GivenUp e l files before gives clean) each = kept_all (Running e) l before each
    kept_all _ _ (Restarted n later l before anew) each = kept_all (Down n) l before each
    kept_all _ _ (Untouched n later l before same) each = kept_all (Down n) l before each
    kept_all _ _ (InsideCall e later l effect n before call alive moment) each =
        cut_short_at e l effect (safe folders first (Running e) l before alive) (kept_all (Running e) l before each.0) each.1
    kept_all _ _ (InsideClose e l after n before ends moment) each = kept_all (Running e) l before each
    kept_all _ _ (InsideOpening config files l answer n before opens moment) each = kept_all (Down (g.directory files)) l before each
    kept_all _ _ (Crashed node l after before crash) each = kept_all node l before each

  pub what_calls_keep_is_found : TheLogIsSafe g → WhatCallsKeepIsFound g
  what_calls_keep_is_found safe folders first holds start node l happened each =
      each_found holds l (kept_all safe folders first holds (keeps_all holds first start) node l happened each)

  -- an opening, by what it may find
  opens_with : (folders : Folders) (holds : Contents → Bool) (l : Ledger) (config : Config) (files : F) (answer : Result (Engine F H R W g) (Refused F)) → EachFoundHas holds l → FindsOnly g folders l config files answer → IfOk answer (λ e. holds (contents_of e) ≡ true)
  opens_with folders holds l config files (Ok e) each finds = each (contents_of e) finds.ok.3
  opens_with folders holds l config files (Err r) each finds = tt

  node_has : (folders : Folders) (holds : Contents → Bool) (node : Node g) (l : Ledger) → Holds g folders node l → KeepsAll holds l → NodeHas g folders holds node
  node_has folders holds (Running e) l safe all = λ stands. subst (Has holds) (sym (safe stands)) (has_now holds l all)
  node_has folders holds (Inside n) l safe all = tt
  node_has folders holds (Down n) l safe all = λ config files answer is opens. opens_with folders holds l config files answer (each_found holds l all) (safe config files answer is opens)

  pub what_calls_keep_holds : TheLogIsSafe g → WhatCallsKeepHolds g
  what_calls_keep_holds safe folders first holds start node l happened each =
      node_has folders holds node l (safe folders first node l happened) (kept_all safe folders first holds (keeps_all holds first start) node l happened each)
