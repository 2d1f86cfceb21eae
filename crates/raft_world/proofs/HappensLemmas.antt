-- What a log keeps, whatever happens.
use Rattle.std.proofs.Common.{◌≡◌, ◌⊎◌, ◌∙◌, ◌++◌, ◌∷◌, true, false, Bool, List, [], append-nil, append_assoc, inl, inr, refl, sym, ap, subst}
use Rattle.std.proofs.lemmas.Bool.{cases_Bool}
use Rattle.std.specs.Prelude.{Result, Ok, Err}
use Rattle.std.specs.List.{AllByRecursion}
use Rattle.std.proofs.Props.{props}
use Rattle.std.proofs.Math.Logic.{∥∥₁_elim, ∥∥₁_map, ∥∥₁_prop}
use Rattle.std.proofs.lemmas.List.{append_cancel_right}
use Rattle.raft_base.specs.declared.errors.Fault.{Fault}
use Rattle.raft_base.specs.declared.errors.Fault.TheVariants as fault
use Rattle.raft_records.specs.Contents.{Contents, after_batches, no_contents}
use Rattle.raft_records.specs.Item.{Batch}
use Rattle.raft_env.specs.Directory.{CrashImage, Directory, IsRestarted}
use Rattle.raft_env.specs.Moments.{HoldsThroughout}
use Rattle.raft_env.specs.Refusal.{FailsAt, Refusals}
use Rattle.raft_env.specs.declared.env.FileSystem.{Ghosts}
use Rattle.raft_config.specs.Folders.{Folders, folders_in}
use Rattle.raft_config.specs.declared.config.Config.{Config}
use Rattle.raft_config.specs.Sanitized.{IsContradiction}
use Rattle.raft_config.specs.declared.config.RecoveryMode.{RecoveryMode}
use Rattle.raft_config.specs.declared.config.RecoveryMode.TheVariants.{AbsoluteConsistency}
use Rattle.raft_crash_laws.specs.Contents.{contents_at}
use Rattle.raft_crash_laws.specs.Crash.{IsAllowedFrom, LeavesAllowed, RecoversContents, StillRecovers, contents_after_crash}
use Rattle.raft_crash_laws.specs.Queues.{AreOpenableIn, AreSoundIn, IsOpeningRefusal}
use Rattle.raft_files.specs.Records.{as_it_is}
use Rattle.raft_log_engine.specs.Durability.{Durability, after_call, durability_of}
use Rattle.raft_log_engine.specs.Engine.{base_of, contents_of, directory_of, durable_of, folders_of, found_of, has_failed, moments_of, unsynced_of}
use Rattle.raft_log_engine.specs.Group.{LeavesChoice, chosen_of}
use Rattle.raft_log_engine.specs.Opening.{opened_files}
use Rattle.raft_log_engine.specs.declared.engine.Engine.{Engine}
use Rattle.raft_log_engine.specs.declared.engine.Refused.{Refused}
use Rattle.raft_base.specs.declared.pipe_log.LogQueue.TheVariants.{Append, Rewrite}
use Rattle.raft_recovery_laws.specs.Recovered.{recovered}
use Rattle.raft_world.specs.ReadFirst.{ReadsFirst}
use Rattle.raft_world.specs.Call.{Closes, Ends, GivesUp, HasEffect, Reopens}
use Rattle.raft_world.proofs.Below.{CrashLaws, LeftIsRead}
use Rattle.raft_world.proofs.RefusalLemmas.{no_log_detectable, refused_outside}
use Rattle.raft_world.proofs.SoundLemmas.{openable_is_sound, read_as_it_is}
use Rattle.raft_world.proofs.UntouchedLemmas.{contents_stay, readable_stays, still_openable, still_recovers}
use Rattle.raft_config.proofs.ConfigLemmas.{no_contradiction}
use Rattle.raft_world.specs.Ledger.{Effect, MayRecover, Ledger, MayFind, after_effect, all_durable, interrupted, durable_contents, accepted_contents, after_crash, starts_with}
use Rattle.raft_world.specs.Happens.{AreDetectable, FindsOnly, Happens, HasCrashed, HasOpened, Holds, IsAfterCrash, IsMoment, IsMomentOfOpening, IsTolerant, LeavesLog, Node, Running, Inside, Down, Begins, BeginsWith, Opened, OpeningFailed, Called, Failed, Rested, Closed, Reopened, GivenUp, Restarted, Untouched, InsideCall, InsideClose, InsideOpening, Crashed, files_of}
use Rattle.raft_world.proofs.LedgerLemmas.{after-append, after_accepting, all_durable_accepted, may_find_accepted, may_find_left, take_nothing}

-- Moments.

every : (P : Directory → Type 0) (later earlier : List Directory) (n : Directory) → AllByRecursion P (later ++ n ∷ earlier) → P n
every P [] earlier n all = all.0
every P (x ∷ later) earlier n all = every P later earlier n all.1

at_moment : (P : Directory → Type 0) (old new : List Directory) (now n : Directory) → HoldsThroughout old new now P → IsMoment old new now n → P n
at_moment P old new now n holds (inl is) = subst P (sym is) holds.here
at_moment P old new now n holds (inr (later, earlier, is)) =
    let same : holds.added ≡ later ++ n ∷ earlier = append_cancel_right holds.added (later ++ n ∷ earlier) old (sym holds.is ∙ is) in
    every P later earlier n (subst (λ (l : List Directory). AllByRecursion P l) same holds.each)

-- Durability.

-- a call that was done fails no engine
done_failed : (accepted : List Batch) (syncs : Bool) (d : Durability) → (after_call accepted syncs d).failed ≡ d.failed
done_failed accepted true d = refl
done_failed accepted false d = refl

fails_prop : (old new : Refusals) (e : Fault) → IsProp (FailsAt (λ _. Unit {0}) old new e)
fails_prop old new (fault.Io kind text) = hlevel props
fails_prop old new fault.Memory = hlevel props
fails_prop old new _ = hlevel props

module _ {F H R W : Type 0} (g : Ghosts F H R W) (folders : Folders) where
  -- an engine with this log
  record KeepsUp (e : Engine F H R W g) (l : Ledger) : Type 0 where
    folders_are : folders_of e ≡ folders
    durable_is : durable_of e ≡ durable_contents l
    stands : has_failed e ≡ false → unsynced_of e ≡ l.unsynced
    choice : List Bool
    unsynced_is : unsynced_of e ≡ l.unsynced ++ chosen_of (accepted_contents l) choice l.in_flight

  -- files at a moment of a call with this log: what a crash may leave of contents and batches may be left of the log
  record KeepsInside (n : Directory) (l : Ledger) : Type 0 where
    m : Contents
    batches : List Batch
    leaves : LeavesAllowed folders m batches n
    allowed : (found : Contents) → IsAllowedFrom 0 m batches found → MayFind l found

  -- files with this log: they keep contents and batches, of which what may be left may be left of the log, and
  -- what stands in them now may too
  record KeepsDown (n : Directory) (l : Ledger) : Type 0 where
    m : Contents
    batches : List Batch
    keeps : RecoversContents folders m batches n
    allowed : (found : Contents) → IsAllowedFrom 0 m batches found → MayFind l found
    is : MayFind l (contents_at folders n)
    openable : (mode : RecoveryMode) → (mode ≡ AbsoluteConsistency → ⊥) → AreOpenableIn mode folders n

  abbrev Keeps : Node g → Ledger → Type 0
  Keeps (Running e) l = ∥ KeepsUp e l ∥₁
  Keeps (Inside n) l = ∥ KeepsInside n l ∥₁
  Keeps (Down n) l = ∥ KeepsDown n l ∥₁

  -- what an engine holds
  all_held : (e : Engine F H R W g) → contents_of e ≡ after_batches (durable_of e) (unsynced_of e)
  all_held e = after-append (found_of e) (base_of e) (unsynced_of e)

  up_holds : (e : Engine F H R W g) (l : Ledger) → KeepsUp e l → has_failed e ≡ false → contents_of e ≡ accepted_contents l
  up_holds e l keeps alive = all_held e ∙ ap (λ m. after_batches m (unsynced_of e)) keeps.durable_is ∙ ap (after_batches (durable_contents l)) (keeps.stands alive)

  alone : (m found : Contents) → IsAllowedFrom 0 m [] found → found ≡ m
  alone m found allowed = ∥∥₁_elim allowed (hlevel props) (λ x. x.3 ∙ ap (after_batches m) (take_nothing x.0))

  -- by what stands below
  module _ (laws : CrashLaws) (kept : (e : Engine F H R W g) → RecoversContents (folders_of e) (durable_of e) (unsynced_of e) (directory_of e)) where
    -- A crash, and a restart.

    -- files that were read anew from those that were left
    settled : (l : Ledger) (n after : Directory) (left : CrashImage) → IsRestarted n left after → AreSoundIn folders n left → MayFind l (contents_after_crash folders n left) → KeepsDown after l
    settled l n after left restarted sound may_be = record {
      m = contents_after_crash folders n left;
      batches = [];
      keeps = laws.restarted folders n after left restarted sound;
      allowed = λ x only. subst (MayFind l) (sym (alone (contents_after_crash folders n left) x only)) may_be;
      is = subst (MayFind l) (sym (laws.found folders n after left restarted)) may_be;
      openable = laws.opens folders n after left restarted sound;
    }

    crashed : (l : Ledger) (n after : Directory) → KeepsInside n l → HasCrashed folders n after → KeepsDown after l
    crashed l n after keeps has =
        let here = keeps.leaves has.crash.left has.crash.leaves in
        settled l n after has.crash.left has.crash.restarted (here.sound has.detectable) (keeps.allowed (contents_after_crash folders n has.crash.left) (here.found has.detectable))

    restarted : (l : Ledger) (n later : Directory) → KeepsDown n l → IsRestarted n (as_it_is n) later → KeepsDown later l
    restarted l n later keeps anew =
        settled l n later (as_it_is n) anew
        (openable_is_sound folders n (laws.clear folders keeps.m keeps.batches n keeps.keeps) (laws.single folders keeps.m keeps.batches n keeps.keeps) keeps.openable)
        (subst (MayFind l) (sym (read_as_it_is folders n)) keeps.is)

    untouched : (l : Ledger) (n later : Directory) → KeepsDown n l → LeavesLog folders n later → KeepsDown later l
    untouched l n later keeps same = record {
      m = keeps.m;
      batches = keeps.batches;
      keeps = still_recovers folders n later same laws.beside keeps.m keeps.batches keeps.keeps;
      allowed = keeps.allowed;
      is = subst (MayFind l) (sym (contents_stay folders n later same)) keeps.is;
      openable = λ mode tolerant. still_openable folders n later same mode (keeps.openable mode tolerant);
    }

    -- files as they are
    standing : (m : Contents) (batches : List Batch) (l : Ledger) (n : Directory) → RecoversContents folders m batches n → ((found : Contents) → IsAllowedFrom 0 m batches found → MayFind l found) → AreDetectable folders n → KeepsDown n l
    standing m batches l n keeps allowed clean =
        let are = laws.as_they_are folders m batches n keeps clean in
        record {
          m = m;
          batches = batches;
          keeps = keeps;
          allowed = allowed;
          is = allowed (contents_at folders n) are.0;
          openable = are.1;
        }

    -- An engine.

    up_keeps : (e : Engine F H R W g) (l : Ledger) (keeps : KeepsUp e l) → RecoversContents folders (durable_contents l) (l.unsynced ++ chosen_of (accepted_contents l) keeps.choice l.in_flight) (directory_of e)
    up_keeps e l keeps =
        subst (λ f. RecoversContents f (durable_contents l) (l.unsynced ++ chosen_of (accepted_contents l) keeps.choice l.in_flight) (directory_of e)) keeps.folders_are
        (subst (λ m. RecoversContents (folders_of e) m (l.unsynced ++ chosen_of (accepted_contents l) keeps.choice l.in_flight) (directory_of e)) keeps.durable_is
        (subst (λ since. RecoversContents (folders_of e) (durable_of e) since (directory_of e)) keeps.unsynced_is (kept e)))

    -- what an engine that stands may leave of a log is what its call may
    choice_here : (e : Engine F H R W g) (l : Ledger) (d : Effect) (n : Directory) → KeepsUp e l → has_failed e ≡ false → (choice : List Bool) → LeavesAllowed (folders_of e) (durable_of e) (unsynced_of e ++ chosen_of (contents_of e) choice d.writes) n → LeavesAllowed folders (durable_contents l) (l.unsynced ++ chosen_of (accepted_contents l) choice d.writes) n
    choice_here e l d n keeps alive choice leaves =
        subst (λ f. LeavesAllowed f (durable_contents l) (l.unsynced ++ chosen_of (accepted_contents l) choice d.writes) n) keeps.folders_are
        (subst (λ m. LeavesAllowed (folders_of e) m (l.unsynced ++ chosen_of (accepted_contents l) choice d.writes) n) keeps.durable_is
        (subst (λ since. LeavesAllowed (folders_of e) (durable_of e) (since ++ chosen_of (accepted_contents l) choice d.writes) n) (keeps.stands alive)
        (subst (λ m. LeavesAllowed (folders_of e) (durable_of e) (unsynced_of e ++ chosen_of m choice d.writes) n) (up_holds e l keeps alive) leaves)))

    inside_call : (e later : Engine F H R W g) (l : Ledger) (d : Effect) (n : Directory) → KeepsUp e l → HasEffect d e later → has_failed e ≡ false → IsMoment (moments_of e) (moments_of later) (directory_of later) n → ∥ KeepsInside n (interrupted d l) ∥₁
    inside_call e later l d n keeps call alive moment =
        ∥∥₁_map (at_moment (LeavesChoice (folders_of e) (durable_of e) (unsynced_of e) (contents_of e) d.writes) (moments_of e) (moments_of later) (directory_of later) n (call.any_moment alive) moment)
        (λ (choice, leaves). record {
          m = durable_contents l;
          batches = l.unsynced ++ chosen_of (accepted_contents l) choice d.writes;
          leaves = choice_here e l d n keeps alive choice leaves;
          allowed = may_find_left (interrupted d l) choice;
        })

    inside_close : (e : Engine F H R W g) (l : Ledger) (after : F) (n : Directory) → KeepsUp e l → Ends e after → IsMoment (moments_of e) (g.moments after) (g.directory after) n → KeepsInside n l
    inside_close e l after n keeps ends moment =
        let leaves = at_moment (LeavesAllowed (folders_of e) (durable_of e) (unsynced_of e)) (moments_of e) (g.moments after) (g.directory after) n ends.any_moment moment in
        record {
          m = durable_contents l;
          batches = l.unsynced ++ chosen_of (accepted_contents l) keeps.choice l.in_flight;
          leaves =
              subst (λ f. LeavesAllowed f (durable_contents l) (l.unsynced ++ chosen_of (accepted_contents l) keeps.choice l.in_flight) n) keeps.folders_are
              (subst (λ m. LeavesAllowed (folders_of e) m (l.unsynced ++ chosen_of (accepted_contents l) keeps.choice l.in_flight) n) keeps.durable_is
              (subst (λ since. LeavesAllowed (folders_of e) (durable_of e) since n) keeps.unsynced_is leaves));
          allowed = may_find_left l keeps.choice;
        }

    -- HasEffect.

    module _ (e later : Engine F H R W g) (l : Ledger) (d : Effect) (keeps : KeepsUp e l) (call : HasEffect d e later) where
      at_folders : folders_of later ≡ folders
      at_folders = call.folders ∙ keeps.folders_are

      same_durable : base_of later ≡ base_of e → durable_of later ≡ durable_contents l
      same_durable same = ap (λ m. after_batches m (base_of later)) call.found ∙ ap (after_batches (found_of e)) same ∙ keeps.durable_is

      -- it was done
      accepted : (batches : List Batch) (syncs : Bool) → has_failed e ≡ false → durability_of later ≡ after_call batches syncs (durability_of e) → KeepsUp later (after_accepting batches syncs l)
      accepted batches true alive is =
          let base : base_of later ≡ (base_of e ++ unsynced_of e) ++ batches = ap (λ (x : Durability). x.base) is in
          let none : unsynced_of later ≡ [] = ap (λ (x : Durability). x.unsynced) is in
          record {
            folders_are = at_folders;
            durable_is = ap (λ m. after_batches m (base_of later)) call.found ∙ ap (after_batches (found_of e)) base
                ∙ after-append (found_of e) (base_of e ++ unsynced_of e) batches
                ∙ ap (λ m. after_batches m batches) (up_holds e l keeps alive ∙ sym (after-append l.start l.durable l.unsynced))
                ∙ sym (after-append l.start (l.durable ++ l.unsynced) batches)
                ∙ ap (after_batches l.start) (append_assoc l.durable l.unsynced batches);
            stands = λ _. none;
            choice = [];
            unsynced_is = none;
          }
      accepted batches false alive is =
          let base : base_of later ≡ base_of e = ap (λ (x : Durability). x.base) is in
          let more : unsynced_of later ≡ unsynced_of e ++ batches = ap (λ (x : Durability). x.unsynced) is in
          let since : unsynced_of later ≡ l.unsynced ++ batches = more ∙ ap (λ (xs : List Batch). xs ++ batches) (keeps.stands alive) in
          record {
            folders_are = at_folders;
            durable_is = same_durable base;
            stands = λ _. since;
            choice = [];
            unsynced_is = since ∙ sym (append-nil (l.unsynced ++ batches));
          }

      -- nothing was
      idle : has_failed e ≡ false → durability_of later ≡ durability_of e → KeepsUp later (after_accepting [] false l)
      idle alive is = accepted [] false alive (is ∙ ap (λ (xs : List Batch). record { failed = has_failed e; base = base_of e; unsynced = xs }) (sym (append-nil (unsynced_of e))))

      -- the engine stands after it, and so it stood before it
      stood : has_failed later ≡ false → has_failed e ≡ false
      stood stands = elim (cases_Bool (has_failed e)) [
        | inl failed ↦ let clash : true ≡ false = sym (call.rests failed).0 ∙ stands in absurd cc
        | inr alive ↦ alive
      ]

      called : has_failed later ≡ false → KeepsUp later (after_effect d l)
      called stands = elim call.progress [
        | inl none ↦
            subst (λ (xs : List Batch). KeepsUp later (after_accepting xs d.syncs l)) (sym none.0)
            (subst (λ (b : Bool). KeepsUp later (after_accepting [] b l)) (sym none.1) (idle (stood stands) none.2))
        | inr (inl done) ↦ accepted d.accepts d.syncs (stood stands) done.1
        | inr (inr (alive, none, uncovered, inl torn)) ↦
            let clash : true ≡ false = sym (ap (λ (x : Durability). x.failed) torn) ∙ stands in absurd cc
        | inr (inr (alive, none, uncovered, inr torn)) ↦
            let clash : true ≡ false = sym (ap (λ (x : Durability). x.failed) torn) ∙ stands in absurd cc
      ]

      failing : has_failed e ≡ false → has_failed later ≡ true → (choice : List Bool) → base_of later ≡ base_of e → unsynced_of later ≡ unsynced_of e ++ chosen_of (contents_of e) choice d.writes → KeepsUp later (interrupted d l)
      failing alive fails choice base more = record {
        folders_are = at_folders;
        durable_is = same_durable base;
        stands = λ stands. let clash : true ≡ false = sym fails ∙ stands in absurd cc;
        choice = choice;
        unsynced_is = more ∙ ap (λ (xs : List Batch). xs ++ chosen_of (contents_of e) choice d.writes) (keeps.stands alive)
            ∙ ap (λ m. l.unsynced ++ chosen_of m choice d.writes) (up_holds e l keeps alive);
      }

      failed : has_failed e ≡ false → has_failed later ≡ true → KeepsUp later (interrupted d l)
      failed alive fails = elim call.progress [
        | inl none ↦ let clash : true ≡ false = sym fails ∙ ap (λ (x : Durability). x.failed) none.2 ∙ alive in absurd cc
        | inr (inl done) ↦ let clash : true ≡ false = sym fails ∙ ap (λ (x : Durability). x.failed) done.1 ∙ done_failed d.accepts d.syncs (durability_of e) ∙ alive in absurd cc
        | inr (inr (stood, none, uncovered, inl torn)) ↦
            failing alive fails call.written (ap (λ (x : Durability). x.base) torn) (ap (λ (x : Durability). x.unsynced) torn)
        | inr (inr (stood, none, uncovered, inr torn)) ↦
            failing alive fails [] (ap (λ (x : Durability). x.base) torn) (ap (λ (x : Durability). x.unsynced) torn ∙ sym (append-nil (unsynced_of e)))
      ]

      rested : has_failed e ≡ true → KeepsUp later l
      rested gone = elim call.progress [
        | inl none ↦ record {
          folders_are = at_folders;
          durable_is = same_durable (ap (λ (x : Durability). x.base) none.2);
          stands = λ stands. let clash : true ≡ false = sym (call.rests gone).0 ∙ stands in absurd cc;
          choice = keeps.choice;
          unsynced_is = ap (λ (x : Durability). x.unsynced) none.2 ∙ keeps.unsynced_is;
        }
        | inr (inl done) ↦ let clash : true ≡ false = sym gone ∙ done.0 in absurd cc
        | inr (inr torn) ↦ let clash : true ≡ false = sym gone ∙ torn.0 in absurd cc
      ]

    -- Closes.

    -- files that stand for all
    closed_with : (l : Ledger) (m : Contents) (n : Directory) → m ≡ accepted_contents l → contents_at folders n ≡ m → RecoversContents folders m [] n → ((mode : RecoveryMode) → (mode ≡ AbsoluteConsistency → ⊥) → AreOpenableIn mode folders n) → KeepsDown n l
    closed_with l m n same is keeps openable = record {
      m = m;
      batches = [];
      keeps = keeps;
      allowed = λ found only. subst (MayFind l) (sym (alone m found only ∙ same)) (may_find_accepted l);
      is = subst (MayFind l) (sym (is ∙ same)) (may_find_accepted l);
      openable = openable;
    }

    closed : (e : Engine F H R W g) (l : Ledger) (files : F) → KeepsUp e l → Closes e files → KeepsDown (g.directory files) (all_durable l)
    closed e l files keeps closes =
        let same = up_holds e l keeps closes.stood ∙ sym (all_durable_accepted l) in
        closed_with (all_durable l) (contents_of e) (g.directory files) same
        (subst (λ f. contents_at f (g.directory files) ≡ contents_of e) keeps.folders_are closes.contents)
        (subst (λ f. RecoversContents f (contents_of e) [] (g.directory files)) keeps.folders_are closes.keeps)
        (λ mode tolerant. subst (λ f. AreOpenableIn mode f (g.directory files)) keeps.folders_are (closes.openable mode))

    reopened : (e later : Engine F H R W g) (l : Ledger) → KeepsUp e l → Reopens e later → KeepsUp later (all_durable l)
    reopened e later l keeps reopens = record {
      folders_are = reopens.folders ∙ keeps.folders_are;
      durable_is = reopens.synced.0 ∙ reopens.contents ∙ up_holds e l keeps reopens.stood ∙ sym (all_durable_accepted l);
      stands = λ _. reopens.synced.1;
      choice = [];
      unsynced_is = reopens.synced.1;
    }

    given_up : (e : Engine F H R W g) (l : Ledger) (files : F) → KeepsUp e l → GivesUp e files → AreDetectable folders (g.directory files) → KeepsDown (g.directory files) l
    given_up e l files keeps gives clean = elim gives.keeps [
      | inl part ↦ standing (durable_contents l) (l.unsynced ++ chosen_of (accepted_contents l) keeps.choice l.in_flight) l (g.directory files)
          (subst (λ f. RecoversContents f (durable_contents l) (l.unsynced ++ chosen_of (accepted_contents l) keeps.choice l.in_flight) (g.directory files)) keeps.folders_are
          (subst (λ m. RecoversContents (folders_of e) m (l.unsynced ++ chosen_of (accepted_contents l) keeps.choice l.in_flight) (g.directory files)) keeps.durable_is
          (subst (λ since. RecoversContents (folders_of e) (durable_of e) since (g.directory files)) keeps.unsynced_is part)))
          (may_find_left l keeps.choice) clean
      | inr all ↦ standing (contents_of e) [] l (g.directory files)
          (subst (λ f. RecoversContents f (contents_of e) [] (g.directory files)) keeps.folders_are all.1)
          (λ found only. subst (MayFind l) (sym (alone (contents_of e) found only ∙ up_holds e l keeps all.0)) (may_find_accepted l)) clean
    ]

    -- Openings.

    opened : (config : Config) (files : F) (later l : Ledger) (e : Engine F H R W g) → HasOpened g folders config files (Ok e) → MayRecover l later (contents_of e) → ∥ KeepsUp e later ∥₁
    opened config files later l e opens left = ∥∥₁_map left (λ (choice, count, is, found).
        let new = opens.opens.opened.ok in
        let later_is : later ≡ after_crash l choice count = is in
        let none : later.unsynced ≡ [] = ap (λ (x : Ledger). x.unsynced) is in
        let whole : accepted_contents later ≡ durable_contents later = ap (after_batches (durable_contents later)) none in
        record {
          folders_are = new.folders_are ∙ opens.same;
          durable_is = new.synced.0 ∙ found ∙ whole;
          stands = λ _. new.synced.1 ∙ sym none;
          choice = [];
          unsynced_is = new.synced.1 ∙ sym (append-nil []) ∙ ap (λ (xs : List Batch). xs ++ []) (sym none);
        })

    -- what is kept is kept at each moment of an opening
    still : (m : Contents) (batches : List Batch) (config : Config) (files : F) (answer : Result (Engine F H R W g) (Refused F)) → HasOpened g folders config files answer → RecoversContents folders m batches (g.directory files) → HoldsThroughout (g.moments files) (g.moments (opened_files answer)) (g.directory (opened_files answer)) (RecoversContents folders m batches)
    still m batches config files answer opens keeps =
        let each = opens.opens.opened.any_moment.throughout in record {
          added = each.added;
          is = each.is;
          each = weaker each.added each.each;
          here = once (g.directory (opened_files answer)) each.here;
        }
      where
        once : (x : Directory) → StillRecovers (folders_in config) (g.directory files) x → RecoversContents folders m batches x
        once x kept = subst (λ (f : Folders). StillRecovers f (g.directory files) x) opens.same kept m batches keeps

        weaker : (l : List Directory) → AllByRecursion (StillRecovers (folders_in config) (g.directory files)) l → AllByRecursion (RecoversContents folders m batches) l
        weaker [] all = tt
        weaker (x ∷ l) all = (once x all.0, weaker l all.1)

    opening_failed : (config : Config) (files : F) (l : Ledger) (r : Refused F) → KeepsDown (g.directory files) l → HasOpened g folders config files (Err r) → AreDetectable folders (g.directory r.file_system) → KeepsDown (g.directory r.file_system) l
    opening_failed config files l r keeps opens clean =
        standing keeps.m keeps.batches l (g.directory r.file_system) (still keeps.m keeps.batches config files (Err r) opens keeps.keeps).here keeps.allowed clean

    inside_opening : (config : Config) (files : F) (l : Ledger) (answer : Result (Engine F H R W g) (Refused F)) (n : Directory) → KeepsDown (g.directory files) l → HasOpened g folders config files answer → IsMomentOfOpening g files answer n → KeepsInside n l
    inside_opening config files l answer n keeps opens moment = record {
      m = keeps.m;
      batches = keeps.batches;
      leaves = laws.left folders keeps.m keeps.batches n
          (at_moment (RecoversContents folders keeps.m keeps.batches) (g.moments files) (g.moments (opened_files answer)) (g.directory (opened_files answer)) n (still keeps.m keeps.batches config files answer opens keeps.keeps) moment);
      allowed = keeps.allowed;
    }

    -- what a crash may leave of a node
    leaving : (node : Node g) (l : Ledger) → Keeps node l → ∥ KeepsInside (files_of g node) l ∥₁
    leaving (Running e) l keeps = ∥∥₁_map keeps (λ k. record {
      m = durable_contents l;
      batches = l.unsynced ++ chosen_of (accepted_contents l) k.choice l.in_flight;
      leaves = laws.left folders (durable_contents l) (l.unsynced ++ chosen_of (accepted_contents l) k.choice l.in_flight) (directory_of e) (up_keeps e l k);
      allowed = may_find_left l k.choice;
    })
    leaving (Inside n) l keeps = keeps
    leaving (Down n) l keeps = ∥∥₁_map keeps (λ k. record { m = k.m; batches = k.batches; leaves = laws.left folders k.m k.batches n k.keeps; allowed = k.allowed })

    -- All.

    keeps_all : (first : Ledger) (node : Node g) (l : Ledger) → Happens g folders first node l → Keeps node l
    keeps_all first _ _ (Begins n none clear starts) =
        let empty = laws.none folders n none clear in
        ∣ subst (KeepsDown n) (sym starts) (standing no_contents [] (starts_with no_contents) n empty.1 (λ found only. subst (MayFind (starts_with no_contents)) (sym (alone no_contents found only)) (may_find_accepted (starts_with no_contents))) (no_log_detectable folders n none)) ∣₁
    keeps_all first _ _ (BeginsWith e same alive starts) = ∣ subst (KeepsUp e) (sym starts) (record { folders_are = same; durable_is = refl; stands = λ _. refl; choice = []; unsynced_is = sym (append-nil (unsynced_of e)) }) ∣₁
    keeps_all first _ _ (Opened config files l later e before opens left) = opened config files later l e opens left
    keeps_all first _ _ (OpeningFailed config files l r before opens clean) = ∥∥₁_map (keeps_all first (Down (g.directory files)) l before) (λ k. opening_failed config files l r k opens clean)
    keeps_all first _ _ (Called e later l d before call stands) = ∥∥₁_map (keeps_all first (Running e) l before) (λ k. called e later l d k call stands)
    keeps_all first _ _ (Failed e later l d before call alive fails) = ∥∥₁_map (keeps_all first (Running e) l before) (λ k. failed e later l d k call alive fails)
    keeps_all first _ _ (Rested e later l d before call gone) = ∥∥₁_map (keeps_all first (Running e) l before) (λ k. rested e later l d k call gone)
    keeps_all first _ _ (Closed e l files before closes) = ∥∥₁_map (keeps_all first (Running e) l before) (λ k. closed e l files k closes)
    keeps_all first _ _ (Reopened e later l before reopens) = ∥∥₁_map (keeps_all first (Running e) l before) (λ k. reopened e later l k reopens)
    keeps_all first _ _ (GivenUp e l files before gives clean) = ∥∥₁_map (keeps_all first (Running e) l before) (λ k. given_up e l files k gives clean)
    keeps_all first _ _ (Restarted n later l before anew) = ∥∥₁_map (keeps_all first (Down n) l before) (λ k. restarted l n later k anew)
    keeps_all first _ _ (Untouched n later l before same) = ∥∥₁_map (keeps_all first (Down n) l before) (λ k. untouched l n later k same)
    keeps_all first _ _ (InsideCall e later l d n before call alive moment) = ∥∥₁_elim (keeps_all first (Running e) l before) ∥∥₁_prop (λ k. inside_call e later l d n k call alive moment)
    keeps_all first _ _ (InsideClose e l after n before ends moment) = ∥∥₁_map (keeps_all first (Running e) l before) (λ k. inside_close e l after n k ends moment)
    keeps_all first _ _ (InsideOpening config files l answer n before opens moment) = ∥∥₁_map (keeps_all first (Down (g.directory files)) l before) (λ k. inside_opening config files l answer n k opens moment)
    keeps_all first _ _ (Crashed node l after before crash) = ∥∥₁_map (leaving node l (keeps_all first node l before)) (λ k. crashed l (files_of g node) after k crash)

    -- What openings find.

    find : (l : Ledger) (config : Config) (files : F) → KeepsDown (g.directory files) l → (answer : Result (Engine F H R W g) (Refused F)) → HasOpened g folders config files answer → FindsOnly g folders l config files answer
    find l config files k (Ok e) opens =
        let o = opens.opens.opened in
        let same : contents_of e ≡ contents_at folders (g.directory files) = o.contents ∙ ap (λ (f : Folders). contents_at f (g.directory files)) opens.same in
        record { ok = (o.ok.folders_are ∙ opens.same, o.ok.stands, o.ok.synced, subst (MayFind l) (sym same) k.is); err = λ tolerant. tt }
    find l config files k (Err r) opens = record { ok = tt; err = λ tolerant. by_cause tolerant opens.opens.refused }
      where
        by_cause : IsTolerant config → IsContradiction config r.fault ⊎ IsOpeningRefusal config.recovery_mode (folders_in config) (g.directory files) (g.refusals_of files) (g.refusals_of r.file_system) r.fault → FailsAt (λ _. Unit {0}) (g.refusals_of files) (g.refusals_of r.file_system) r.fault
        by_cause tolerant (inl clash) = absurd (no_contradiction config r.fault tolerant.fit clash)
        by_cause tolerant (inr refused) = refused_outside config.recovery_mode folders (g.directory files) (g.refusals_of files) (g.refusals_of r.file_system) r.fault
            (subst (λ (f : Folders). IsOpeningRefusal config.recovery_mode f (g.directory files) (g.refusals_of files) (g.refusals_of r.file_system) r.fault) opens.same refused)
            (k.openable config.recovery_mode tolerant.mode) (laws.clear folders k.m k.batches (g.directory files) k.keeps) (laws.single folders k.m k.batches (g.directory files) k.keeps)

    find_prop : (l : Ledger) (config : Config) (files : F) (answer : Result (Engine F H R W g) (Refused F)) → IsProp (FindsOnly g folders l config files answer)
    find_prop l config files (Ok e) = hlevel props
    find_prop l config files (Err r) = hlevel (props, fails_prop (g.refusals_of files) (g.refusals_of r.file_system) r.fault)

    pub is_safe : (first : Ledger) (node : Node g) (l : Ledger) → Happens g folders first node l → Holds g folders node l
    is_safe first (Running e) l happened = λ alive. ∥∥₁_elim (keeps_all first (Running e) l happened) (hlevel props) (λ k. up_holds e l k alive)
    is_safe first (Inside n) l happened = tt
    is_safe first (Down n) l happened = λ config files answer is opens. ∥∥₁_elim (keeps_all first (Down n) l happened) (find_prop l config files answer) (λ k. find l config files (subst (λ (x : Directory). KeepsDown x l) (sym is) k) answer opens)

    pub continues : (first : Ledger) (config : Config) (files : F) (l : Ledger) (e : Engine F H R W g) → Happens g folders first (Down (g.directory files)) l → HasOpened g folders config files (Ok e) → ∥ ((later : Ledger) × (contents_of e ≡ accepted_contents later) × MayRecover l later (contents_of e) × Happens g folders first (Running e) later) ∥₁
    continues first config files l e before opens =
        ∥∥₁_elim (is_safe first (Down (g.directory files)) l before config files (Ok e) refl opens).ok.3 ∥∥₁_prop (λ (later, may). ∥∥₁_map may (λ (written, count, is, found).
        (later, found, may, Opened config files l later e before opens may)))

    -- Beside the law.

    first_read : LeftIsRead → (l : Ledger) (n after : Directory) → KeepsInside n l → IsAfterCrash n after → ReadsFirst (MayFind l) folders after
    first_read read l n after keeps fallen = ∥∥₁_map (keeps.leaves fallen.left fallen.leaves).first (λ (rewritten, appended, first, next, may).
        (rewritten, appended, first.0, next.0, read Rewrite folders n after fallen.left fallen.restarted ∙ first.1, read Append folders n after fallen.left fallen.restarted ∙ next.1, keeps.allowed (recovered rewritten appended) may))

    pub kept_read_first : LeftIsRead → (first : Ledger) (node : Node g) (l : Ledger) → Happens g folders first node l → (after later : Directory) → IsAfterCrash (files_of g node) after → LeavesLog folders after later → ReadsFirst (MayFind l) folders later
    kept_read_first read first node l happened after later fallen same = ∥∥₁_elim (leaving node l (keeps_all first node l happened)) ∥∥₁_prop (λ k. ∥∥₁_map (first_read read l (files_of g node) after k fallen) (λ (rewritten, appended, rest, more, of_rewrite, of_append, may).
        (rewritten, appended, rest, more, readable_stays folders after later same Rewrite ∙ of_rewrite, readable_stays folders after later same Append ∙ of_append, may)))
