-- What comes back after crashes.
use Rattle.std.proofs.Common.{◌≡◌, ◌⊎◌, ◌++◌, ◌∷◌, ℕ, zero, suc, ◌∙◌, List, [], inl, inr, sym, subst, ap}
use Rattle.std.specs.Prelude.{Result, Ok, Err}
use Rattle.std.proofs.Props.{props}
use Rattle.std.proofs.Math.Logic.{∥∥₁_elim}
use Rattle.std.specs.List.{AllByRecursion}
use Rattle.std.proofs.lemmas.List.{append_cancel_right}
use Rattle.raft_records.specs.Contents.{Contents, after_batches}
use Rattle.raft_records.specs.Item.{Batch}
use Rattle.raft_base.specs.declared.errors.Fault.{Fault}
use Rattle.raft_base.specs.declared.errors.Fault.TheVariants as fault
use Rattle.raft_base.specs.declared.pipe_log.LogQueue.{LogQueue}
use Rattle.raft_env.specs.Directory.{CrashImage, Directory, IsRestarted}
use Rattle.raft_env.specs.Moments.{HoldsThroughout}
use Rattle.raft_env.specs.Refusal.{FailsAt, Refusals}
use Rattle.raft_env.specs.declared.env.FileSystem.{Ghosts}
use Rattle.raft_config.specs.Folders.{Folders, folders_in}
use Rattle.raft_config.specs.Sanitized.{IsContradiction}
use Rattle.raft_config.specs.declared.config.RecoveryMode.{RecoveryMode}
use Rattle.raft_config.specs.declared.config.RecoveryMode.TheVariants.{AbsoluteConsistency}
use Rattle.raft_pipes.specs.Folder.{AreClear}
use Rattle.raft_crash_laws.specs.Contents.{contents_at}
use Rattle.raft_crash_laws.specs.Crash.{IsAllowedFrom, LeavesAllowed, LeavesAllowedFrom, RecoversContents, StillRecovers, contents_after_crash}
use Rattle.raft_crash_laws.specs.Queues.{AreOpenableIn, AreSingleIn, AreSoundIn, IsOpeningRefusal}
use Rattle.raft_log_engine.specs.Engine.{contents_of}
use Rattle.raft_log_engine.specs.Opening.{opened_files}
use Rattle.raft_log_engine.specs.declared.engine.Engine.{Engine}
use Rattle.raft_log_engine.specs.declared.engine.Refused.{Refused}
use Rattle.raft_config.proofs.ConfigLemmas.{no_contradiction}
use Rattle.raft_script.specs.Failure.{IsStorageOrMemory}
use Rattle.raft_script.specs.Headline.{AreLeft, FindsOnly, HasCrashed, HasOpened, IsFound, IsInsideOpening, IsMoment}
use Rattle.raft_base.specs.declared.pipe_log.FileId.{FileId}
use Rattle.raft_config.specs.Recovery.{tolerates_corruption}
use Rattle.raft_pipes.specs.Files.{EachFile, IsOpenableFile, is_last}
use Rattle.raft_opening.specs.Files.{HasDamageAmong}
use Rattle.raft_pipes.specs.Folder.{log_files_of}
use Rattle.raft_opening.specs.LogFile.{IsDamage}
use Rattle.raft_pipes.specs.LogFile.{IsOpenableLog}
use Rattle.raft_pipes.specs.Numbered.{in_queue}
use Rattle.raft_opening.specs.Queue.{HasDamageOf, IsOpenRefusalOf}
use Rattle.raft_pipes.specs.Queue.{IsOpenableOf}
use Rattle.raft_env.specs.Directory.{Path}
use Rattle.raft_files.specs.Writer.{bytes_at}
use Rattle.raft_crash_laws.proofs.StepsLemmas.{take_nothing}
use Rattle.std.proofs.Common.{Bool, true, false}

-- Why an opening after a crash is refused.

-- bytes that can be opened aren't damaged
not_damaged : (id : FileId) (is_tolerant : Bool) (bytes : List ℕ) (e : Fault) → IsOpenableLog id is_tolerant bytes → IsDamage id is_tolerant bytes e → ⊥
not_damaged id is_tolerant bytes fault.Corruption openable damage = damage.1 openable
not_damaged id is_tolerant bytes fault.Range openable damage = let clash : false ≡ true = sym damage ∙ openable.places in absurd cc
not_damaged id is_tolerant bytes fault.Lz4 openable damage = openable.unmarked damage.read damage.is_read damage.marked
not_damaged id is_tolerant bytes _ openable damage = damage

none_damaged : (mode : RecoveryMode) (queue : LogQueue) (bytes : Path → List ℕ) (files : List (ℕ × Path)) (e : Fault) → EachFile (IsOpenableFile mode queue bytes) files → HasDamageAmong mode queue bytes files e → ⊥
none_damaged mode queue bytes [] e openable damage = damage
none_damaged mode queue bytes (f ∷ files) e openable (inl damage) = not_damaged (in_queue queue f.0) (tolerates_corruption mode (is_last files)) (bytes f.1) e openable.0 damage
none_damaged mode queue bytes (f ∷ files) e openable (inr damage) = none_damaged mode queue bytes files e openable.1 damage.1

undamaged : (queue : LogQueue) (mode : RecoveryMode) (folders : Folders) (n : Directory) (e : Fault) → IsOpenableOf queue mode folders n → HasDamageOf queue mode folders n e → ⊥
undamaged queue mode folders n e = none_damaged mode queue (λ path. bytes_at path n) (log_files_of queue folders n) e

-- where the log can be opened, no folder's place is taken and no number stands in both, an opening fails by storage or for lack of memory
pub refused_outside : (mode : RecoveryMode) (folders : Folders) (n : Directory) (old new : Refusals) (e : Fault) → IsOpeningRefusal mode folders n old new e → AreOpenableIn mode folders n → AreClear folders n → AreSingleIn folders n → IsStorageOrMemory e
refused_outside mode folders n old new e (queue, refused) openable clear single = by_fault e refused
  where
    by_fault : (e : Fault) → IsOpenRefusalOf queue mode folders n old new e → IsStorageOrMemory e
    by_fault (fault.InvalidArgument text) (inl taken) = absurd (clear taken)
    by_fault (fault.InvalidArgument text) (inr twice) = absurd (∥∥₁_elim (single queue) (hlevel props) twice)
    by_fault fault.Corruption refused = absurd (undamaged queue mode folders n fault.Corruption (openable queue) refused)
    by_fault fault.Range refused = absurd (undamaged queue mode folders n fault.Range (openable queue) refused)
    by_fault fault.Lz4 refused = absurd (undamaged queue mode folders n fault.Lz4 (openable queue) refused)
    by_fault (fault.Io kind text) refused = tt
    by_fault fault.Memory refused = tt
    by_fault _ refused = absurd refused

-- where nothing was written, nothing else is allowed
pub allowed_alone : (m found : Contents) → IsAllowedFrom 0 m [] found → found ≡ m
allowed_alone m found allowed = ∥∥₁_elim allowed (hlevel props) (λ x. x.3 ∙ ap (after_batches m) (take_nothing x.0))

-- Moments.

-- a moment has what each moment has
every : (P : Directory → Type 0) (later earlier : List Directory) (n : Directory) → AllByRecursion P (later ++ n ∷ earlier) → P n
every P [] earlier n all = all.0
every P (x ∷ later) earlier n all = every P later earlier n all.1

pub at_moment : (P : Directory → Type 0) (old new : List Directory) (now n : Directory) → HoldsThroughout old new now P → IsMoment old new now n → P n
at_moment P old new now n holds (inl is) = subst P (sym is) holds.here
at_moment P old new now n holds (inr (later, earlier, is)) =
    let same : holds.added ≡ later ++ n ∷ earlier = append_cancel_right holds.added (later ++ n ∷ earlier) old (sym holds.is ∙ is) in
    every P later earlier n (subst (λ (l : List Directory). AllByRecursion P l) same holds.each)

-- files that can be opened, in each mode but the absolute one, and stand for these contents
record StandOpen (folders : Folders) (c : Contents) (n : Directory) : Type 0 where
  pub is : contents_at folders n ≡ c
  pub clear : AreClear folders n
  pub single : AreSingleIn folders n
  pub openable : (mode : RecoveryMode) → (mode ≡ AbsoluteConsistency → ⊥) → AreOpenableIn mode folders n

counted : (mode : RecoveryMode) (folders : Folders) (n : Directory) (old new : Refusals) (e : Fault) → IsStorageOrMemory e → IsOpeningRefusal mode folders n old new e → FailsAt (λ _. Unit {0}) old new e
counted mode folders n old new (fault.Io kind text) kind_is (queue, refused) = (refused.0, tt)
counted mode folders n old new fault.Memory kind_is refused = tt
counted mode folders n old new _ kind_is refused = absurd kind_is

module _ {F H R W : Type 0} (g : Ghosts F H R W) (folders : Folders) where
  -- what an opening of such files is answered
  finds : (c : Contents) (P : Contents → Type 0) (files : F) (answer : Result (Engine F H R W g) (Refused F)) → HasOpened g folders files answer → StandOpen folders c (g.directory files) → P c → FindsOnly g P files answer
  finds c P files (Ok e) opened stand holds =
      let o = opened.opens.opened in
      let same : contents_of e ≡ c = o.contents ∙ ap (λ (f : Folders). contents_at f (g.directory files)) opened.tolerant.same ∙ stand.is in
      record { ok = (o.ok.stands, o.ok.synced, subst P (sym same) holds); err = tt }
  finds c P files (Err r) opened stand holds = record { ok = tt; err = by_cause opened.opens.refused }
    where
      at : Refusals
      at = g.refusals_of files

      by_cause : IsContradiction opened.config r.fault ⊎ IsOpeningRefusal opened.config.recovery_mode (folders_in opened.config) (g.directory files) at (g.refusals_of r.file_system) r.fault → FailsAt (λ _. Unit {0}) at (g.refusals_of r.file_system) r.fault
      by_cause (inl clash) = absurd (no_contradiction opened.config r.fault opened.tolerant.fit clash)
      by_cause (inr refused) =
          let mode = opened.config.recovery_mode in
          let here : IsOpeningRefusal mode folders (g.directory files) at (g.refusals_of r.file_system) r.fault = subst (λ (f : Folders). IsOpeningRefusal mode f (g.directory files) at (g.refusals_of r.file_system) r.fault) opened.tolerant.same refused in
          counted mode folders (g.directory files) at (g.refusals_of r.file_system) r.fault (refused_outside mode folders (g.directory files) at (g.refusals_of r.file_system) r.fault here (stand.openable mode opened.tolerant.mode) stand.clear stand.single) here

  -- files that keep contents keep them at each moment of an opening
  kept_inside : (c : Contents) (files : F) (n : Directory) → RecoversContents folders c [] (g.directory files) → IsInsideOpening g folders files n → RecoversContents folders c [] n
  kept_inside c files n keeps (answer, opened, moment) =
      at_moment (λ x. RecoversContents folders c [] x) (g.moments files) (g.moments (opened_files answer)) (g.directory (opened_files answer)) n
      (let each = opened.opens.opened.any_moment.throughout in record {
        added = each.added;
        is = each.is;
        each = weaker each.added each.each;
        here = once (g.directory (opened_files answer)) each.here;
      }) moment
    where
      once : (x : Directory) → StillRecovers (folders_in opened.config) (g.directory files) x → RecoversContents folders c [] x
      once x still = subst (λ (f : Folders). StillRecovers f (g.directory files) x) opened.tolerant.same still c [] keeps

      weaker : (l : List Directory) → AllByRecursion (StillRecovers (folders_in opened.config) (g.directory files)) l → AllByRecursion (λ x. RecoversContents folders c [] x) l
      weaker [] all = tt
      weaker (x ∷ l) all = (once x all.0, weaker l all.1)

  -- by what laws say of a crash
  module _ (left : (m : Contents) (batches : List Batch) (n : Directory) → RecoversContents folders m batches n → LeavesAllowed folders m batches n)
      (restarted : (n m : Directory) (d : CrashImage) → IsRestarted n d m → AreSoundIn folders n d → RecoversContents folders (contents_after_crash folders n d) [] m)
      (found : (n m : Directory) (d : CrashImage) → IsRestarted n d m → contents_at folders m ≡ contents_after_crash folders n d)
      (opens : (n m : Directory) (d : CrashImage) → IsRestarted n d m → AreSoundIn folders n d → (mode : RecoveryMode) → (mode ≡ AbsoluteConsistency → ⊥) → AreOpenableIn mode folders m)
      (single : (m : Contents) (batches : List Batch) (n : Directory) → RecoversContents folders m batches n → AreSingleIn folders n)
      (clear : (n m : Directory) (d : CrashImage) → IsRestarted n d m → AreSoundIn folders n d → AreClear folders m) where
    -- a crash that left a sound log
    stands : (n : Directory) (files : F) (crash : HasCrashed g folders n files) → AreSoundIn folders n crash.left → StandOpen folders (contents_after_crash folders n crash.left) (g.directory files)
    stands n files crash sound = record {
      is = found n (g.directory files) crash.left crash.restarted;
      clear = clear n (g.directory files) crash.left crash.restarted sound;
      single = single _ _ (g.directory files) (restarted n (g.directory files) crash.left crash.restarted sound);
      openable = opens n (g.directory files) crash.left crash.restarted sound;
    }

    -- what is kept alone comes back however often it crashes
    again : (c : Contents) (more : ℕ) (n : Directory) (files : F) → RecoversContents folders c [] n → AreLeft g more folders n files → StandOpen folders c (g.directory files)
    again c zero n files keeps crash =
        let here = left c [] n keeps crash.left crash.leaves in
        let same : contents_after_crash folders n crash.left ≡ c = allowed_alone c _ (here.found crash.detectable) in
        subst (λ (x : Contents). StandOpen folders x (g.directory files)) same (stands n files crash (here.sound crash.detectable))
    again c (suc more) n files keeps (first, crash, inside, opening, rest) =
        let here = left c [] n keeps crash.left crash.leaves in
        let same : contents_after_crash folders n crash.left ≡ c = allowed_alone c _ (here.found crash.detectable) in
        let kept : RecoversContents folders c [] (g.directory first) = subst (λ (x : Contents). RecoversContents folders x [] (g.directory first)) same (restarted n (g.directory first) crash.left crash.restarted (here.sound crash.detectable)) in
        again c more inside files (kept_inside c first inside kept opening) rest

    pub come_back : (least : ℕ) (m : Contents) (batches : List Batch) (n : Directory) → LeavesAllowedFrom least folders m batches n → IsFound g (IsAllowedFrom least m batches) folders n
    come_back least m batches n leaves zero files answer crash opened =
        let here = leaves crash.left crash.leaves in
        finds _ (IsAllowedFrom least m batches) files answer opened (stands n files crash (here.sound crash.detectable)) (here.found crash.detectable)
    come_back least m batches n leaves (suc more) files answer (first, crash, inside, opening, rest) opened =
        let here = leaves crash.left crash.leaves in
        let c = contents_after_crash folders n crash.left in
        let kept : RecoversContents folders c [] (g.directory first) = restarted n (g.directory first) crash.left crash.restarted (here.sound crash.detectable) in
        finds c (IsAllowedFrom least m batches) files answer opened (again c more inside files (kept_inside c first inside kept opening) rest) (here.found crash.detectable)
