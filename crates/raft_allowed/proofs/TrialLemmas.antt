-- What a trial finds, and what may be left after its operations.
use Rattle.std.proofs.Common.{◌≡◌, ◌⊎◌, ℕ, Bool, ◌+◌, inl, inr, ⊎_elim, List, [], ◌∷◌, ◌++◌, length, length-append, length-drop, take, drop, Option, Some, None, refl, sym, ◌∙◌, ap, subst, arith}
use Rattle.std.specs.Prelude.{IfOk, IsSomeAnd, Result, Ok, Err}
use Rattle.std.proofs.lemmas.List.{drop-append-le, take-append-le}
use Rattle.std.proofs.lemmas.List.Sums.{fold-append}
use Rattle.std.proofs.Math.Logic.{∥∥₁_map}
use Rattle.std.proofs.Math.Seq.{take-add}
use Rattle.raft_base.specs.declared.errors.Fault.{Fault}
use Rattle.raft_records.specs.Contents.{Contents, after_batch, after_batches, no_contents}
use Rattle.raft_records.specs.Item.{Batch}
use Rattle.raft_env.specs.Directory.{CrashImage, Directory, IsRestarted}
use Rattle.raft_env.specs.declared.env.FileSystem.{Ghosts}
use Rattle.raft_memory.specs.Choice.{left_by}
use Rattle.raft_memory.specs.Memory.{memory_directory}
use Rattle.raft_memory.specs.declared.crash.Choice.{Choice}
use Rattle.raft_memory.specs.declared.memory.MemoryFileSystem.{MemoryFileSystem}
use Rattle.raft_config.specs.Folders.{Folders, folders_in}
use Rattle.raft_config.specs.declared.config.Config.{Config}
use Rattle.raft_tables.specs.Known.{known_in}
use Rattle.raft_crash_laws.specs.Contents.{contents_at}
use Rattle.raft_crash_laws.specs.Crash.{IsAllowedFrom, LeavesAllowed, contents_after_crash}
use Rattle.raft_log_engine.specs.Engine.{directory_of, durable_of, folders_of, unsynced_of}
use Rattle.raft_log_engine.specs.Image.{IsImageOf}
use Rattle.raft_log_engine.specs.declared.engine.Engine.{Engine}
use Rattle.raft_log_engine.specs.declared.engine.image.Image.{Image}
use Rattle.raft_log_engine.proofs.EngineLemmas.{engine_leaves}
use Rattle.raft_once.specs.Numbers.{shown}
use Rattle.raft_script.specs.Batches.{batch_of_acts, batches_of_parts}
use Rattle.raft_script.specs.Called.{IsCalled}
use Rattle.raft_script.specs.Durability.{IsCall, IsDurableAfter, IsPartlyDurable, progress_after_all}
use Rattle.raft_script.specs.Headline.{Leads, Progress, last_state, progress_after, progress_from}
use Rattle.raft_script.specs.Trial.{AreAnswered, AreDetectablyLeft, AreNotAsked, IsCrashOf, IsTrialOf, IsTrialTwiceOf, ran_in}
use Rattle.raft_script.specs.declared.operation.Op.{Op}
use Rattle.raft_script.specs.declared.operation.Op.TheVariants as operation
use Rattle.raft_script.specs.declared.operation.Op.TheVariants.{Write, WriteGroup, WriteOnce, Sync, Get, CompactTo, First, Last, RewriteAppend, RewriteRewrite, PurgeStale, Purge}
use Rattle.raft_script.specs.declared.operation.Outcome.{Outcome}
use Rattle.raft_script.specs.declared.operation.Outcome.TheVariants as reply
use Rattle.raft_script.specs.declared.operation.Outcome.TheVariants.{Size, Sizes, Done, Value, Count, Index, Dropped, ToCompact}
use Rattle.raft_script.specs.declared.operation.Trial.{Trial}
use Rattle.raft_allowed.specs.Allowed.{IsLeftAs, MayBeLeft}

-- The folders of the settings stay.

of_some : {X : Type 0} {Q : Type 0} (o : Option X) (P : X → Type 0) → IsSomeAnd o P → ((x : X) → P x → Q) → Q
of_some None P held f = absurd held
of_some (Some x) P held f = f x held

module _ {F H R W : Type 0} {g : Ghosts F H R W} where
  called_folders : (op : Op) (outcome : Outcome) (old new : Engine F H R W g) → IsCalled op outcome old new → folders_of new ≡ folders_of old
  called_folders (Write acts sync) (Size answer) old new (inl unbuilt) = ap folders_of unbuilt.0
  called_folders (Write acts sync) (Size answer) old new (inr called) = of_some (batch_of_acts acts.items) _ called (λ batch w. w.1.call.advance.only.log.folders)
  called_folders (WriteOnce acts pairs sync) (Size answer) old new (inl unbuilt) = ap folders_of unbuilt.0
  called_folders (WriteOnce acts pairs sync) (Size answer) old new (inr called) = of_some (batch_of_acts acts.items) _ called (λ batch w. w.1.advance.only.log.folders)
  called_folders (WriteGroup parts) (Sizes answer) old new (inl unbuilt) = ap folders_of unbuilt.0
  called_folders (WriteGroup parts) (Sizes answer) old new (inr called) = of_some (batches_of_parts parts.items) _ called (λ batches w. w.1.only.log.folders)
  called_folders Sync (Done answer) old new called = called.advance.only.log.folders
  called_folders (Get group key) (Value answer) old new called = ap folders_of called.same
  called_folders (CompactTo group index) (Count answer) old new called = called.advance.only.log.folders
  called_folders (operation.Entry group index) (reply.Entry answer) old new called = called.unchanged.folders
  called_folders (First group) (Index index) old new called = ap folders_of called.same
  called_folders (Last group) (Index index) old new called = ap folders_of called.same
  called_folders operation.Groups (reply.Groups answer) old new called = ap folders_of called.same
  called_folders (RewriteAppend watermark step) (Dropped answer) old new called = called.log.others.folders
  called_folders RewriteRewrite (Dropped answer) old new called = called.log.others.folders
  called_folders PurgeStale (Dropped answer) old new called = called.log.others.folders
  called_folders Purge (ToCompact answer) old new called = called.log.others.folders
  called_folders _ _ old new called = absurd called

  led_folders : (folders : Folders) (found : Contents) (known : ℕ → Bool) (m : Contents) (p : Progress) (before : Engine F H R W g) (ops : List Op) (outcomes : List Outcome) (states : List (Engine F H R W g))
      → Leads (IsCall folders found known) m p before ops outcomes states → folders_of (last_state before states) ≡ folders_of before
  led_folders folders found known m p before [] [] [] led = refl
  led_folders folders found known m p before (op ∷ ops) (outcome ∷ outcomes) (state ∷ states) led =
      led_folders folders found known m (progress_after m p op outcome) state ops outcomes states led.1 ∙ called_folders op outcome before state led.0.called
  led_folders folders found known m p before [] [] (state ∷ states) led = absurd led
  led_folders folders found known m p before [] (outcome ∷ outcomes) states led = absurd led
  led_folders folders found known m p before (op ∷ ops) [] states led = absurd led
  led_folders folders found known m p before (op ∷ ops) (outcome ∷ outcomes) [] led = absurd led

-- What is allowed.

-- of what is durable and what stands unsynced, as of all batches
allowed_of_all : (m durable : Contents) (unsynced : List Batch) (p : Progress) (flight : List Batch) (found : Contents) → IsPartlyDurable m p flight durable unsynced → IsAllowedFrom 0 durable unsynced found → IsAllowedFrom p.covered m (p.batches ++ flight) found
allowed_of_all m durable unsynced p flight found a allowed = ∥∥₁_map allowed (λ x.
    let all = p.batches ++ flight in
    let rest : drop p.covered all ≡ unsynced = drop-append-le p.covered p.batches flight a.within ∙ sym a.unsynced_is in
    let first : take p.covered all ≡ take p.covered p.batches = take-append-le p.covered p.batches flight a.within in (
      p.covered + x.0,
      omega arith,
      omega (arith, x.2, a.within, ap length rest, length-append p.batches flight, length-drop p.covered all),
      x.3
          ∙ ap (λ c. after_batches c (take x.0 unsynced)) a.durable_is
          ∙ sym (fold-append after_batch m (take p.covered p.batches) (take x.0 unsynced))
          ∙ ap (λ (l : List Batch). after_batches m (take p.covered p.batches ++ take x.0 l)) (sym rest)
          ∙ ap (λ (l : List Batch). after_batches m (l ++ take x.0 (drop p.covered all))) (sym first)
          ∙ ap (after_batches m) (sym (take-add p.covered x.0 all)),
    ))

-- A trial.

abbrev IsFoundAgain : Type 0
IsFoundAgain = (folders : Folders) (n m : Directory) (d : CrashImage) → IsRestarted n d m → contents_at folders m ≡ contents_after_crash folders n d

module _ {H R W : Type 0} (g : Ghosts MemoryFileSystem H R W) (same : (files : MemoryFileSystem) → g.directory files ≡ memory_directory files) (again : IsFoundAgain)
    (config : Config) (ops : List Op) (stop : Option ℕ) (choices : List Choice) (t : Trial) (left : MemoryFileSystem) (crash : IsCrashOf g config ops stop choices (ran_in t) left) where
  abbrev found : Contents
  found = contents_at (folders_in config) (memory_directory left)

  module _ (a : AreAnswered g config no_contents (known_in []) ops (ran_in t) crash.runs.first crash.last) where
    begun_new : folders_of a.begun ≡ folders_in config
    begun_new = a.opens.opened.ok.folders_are

    durable_none : durable_of a.begun ≡ no_contents
    durable_none = a.opens.opened.ok.synced.0 ∙ a.holds

    unsynced_none : unsynced_of a.begun ≡ []
    unsynced_none = a.opens.opened.ok.synced.1

    folders_same : folders_of a.ended ≡ folders_in config
    folders_same =
        ap folders_of (sym a.runs.steps.ends)
        ∙ led_folders _ _ _ _ _ a.begun ops t.outcomes.items a.runs.steps.states a.runs.steps.each
        ∙ begun_new

    progress : IsDurableAfter t.failed_at no_contents [] ops t.outcomes.items (durable_of a.ended) (unsynced_of a.ended)
    progress =
        subst (λ (m : Contents). IsDurableAfter t.failed_at m [] ops t.outcomes.items (durable_of a.ended) (unsynced_of a.ended)) durable_none
        (subst (λ (l : List Batch). IsDurableAfter t.failed_at (durable_of a.begun) l ops t.outcomes.items (durable_of a.ended) (unsynced_of a.ended)) unsynced_none a.runs.progress)

    files_are : memory_directory crash.last ≡ directory_of a.ended
    files_are = sym (same crash.last) ∙ a.files

    leaves : LeavesAllowed (folders_in config) (durable_of a.ended) (unsynced_of a.ended) (memory_directory crash.last)
    leaves =
        subst (LeavesAllowed (folders_in config) (durable_of a.ended) (unsynced_of a.ended)) (sym files_are)
        (subst (λ (folders : Folders). LeavesAllowed folders (durable_of a.ended) (unsynced_of a.ended) (directory_of a.ended)) folders_same (engine_leaves a.ended))

    left_by_run : AreDetectablyLeft (folders_in config) crash.last choices → MayBeLeft t.failed_at ops t.outcomes.items found
    left_by_run detectable =
        let files = memory_directory crash.last in
        let d = left_by choices files in
        let p = progress_after_all no_contents (progress_from []) ops t.outcomes.items in
        let back : found ≡ contents_after_crash (folders_in config) files d = again (folders_in config) files (memory_directory left) d crash.restarted in
        let allowed : IsAllowedFrom 0 (durable_of a.ended) (unsynced_of a.ended) found =
        subst (λ (m : Contents). IsAllowedFrom 0 (durable_of a.ended) (unsynced_of a.ended) m) (sym back) ((leaves d crash.leaves).found detectable) in
        (progress.0, progress.1, allowed_of_all no_contents (durable_of a.ended) (unsynced_of a.ended) p progress.0 found progress.2 allowed)

  module _ (opened : t.refused ≡ None) (detectable : AreDetectablyLeft (folders_in config) crash.last choices) where
    may_be_left : MayBeLeft t.failed_at ops t.outcomes.items found
    may_be_left = ⊎_elim
        (λ (a : AreAnswered g config no_contents (known_in []) ops (ran_in t) crash.runs.first crash.last). left_by_run a detectable)
        (λ (a : AreNotAsked g config no_contents (ran_in t) crash.runs.first crash.last). absurd (let clash = sym opened ∙ a.refused in cc))
        (crash.runs.runs (crash.runs.free opened)).answered

    -- what an opening shows that finds the same contents
    pub shown_left : (m : Contents) → m ≡ found → (shows : Result Image Fault) → IfOk shows (λ image. IsImageOf image.groups.items (shown m)) → IfOk shows (IsLeftAs t.failed_at ops t.outcomes.items)
    shown_left m is (Ok image) shows = (m, subst (MayBeLeft t.failed_at ops t.outcomes.items) (sym is) may_be_left, shows)
    shown_left m is (Err e) shows = tt

module _ {H R W : Type 0} (g : Ghosts MemoryFileSystem H R W) (same : (files : MemoryFileSystem) → g.directory files ≡ memory_directory files) (again : IsFoundAgain)
    (config : Config) (ops : List Op) (stop : Option ℕ) (choices : List Choice) where
  pub trial_left : (t : Trial) (is : IsTrialOf g config ops stop choices t) → t.refused ≡ None → AreDetectablyLeft (folders_in config) is.crash.last choices → IfOk t.opened (IsLeftAs t.failed_at ops t.outcomes.items)
  trial_left t is opened detectable = shown_left g same again config ops stop choices t is.again is.crash opened detectable (contents_at (folders_in config) (memory_directory is.again)) refl t.opened is.opening.found

  module _ (stop_again : Option ℕ) (more : List Choice) (t : Trial) (is : IsTrialTwiceOf g config ops stop choices stop_again more t) (opened : t.refused ≡ None) (detectable : AreDetectablyLeft (folders_in config) is.crash.last choices) where
    -- the opening in which the second crash came
    pub second_left : IsSomeAnd t.second (λ o. IfOk o (IsLeftAs t.failed_at ops t.outcomes.items))
    second_left =
        let second = is.second in
        let begins = ap (contents_at (folders_in config)) second.begins in
        subst (λ (o : Option (Result Image Fault)). IsSomeAnd o (λ r. IfOk r (IsLeftAs t.failed_at ops t.outcomes.items))) (sym second.is)
        (shown_left g same again config ops stop choices t is.first is.crash opened detectable (contents_at (folders_in config) (memory_directory second.begun)) begins second.image second.opening.found)

    -- .. and the one after it
    pub twice_left : AreDetectablyLeft (folders_in config) is.second.last more → IfOk t.opened (IsLeftAs t.failed_at ops t.outcomes.items)
    twice_left detectable_again =
        let back = is.second.same (is.crash.runs.free opened) detectable detectable_again in
        shown_left g same again config ops stop choices t is.first is.crash opened detectable (contents_at (folders_in config) (memory_directory is.left)) back t.opened is.opening.found
