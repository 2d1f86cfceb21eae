-- What the program replies.
use Rattle.std.specs.Prelude.{◌≡◌, ◌⊎◌, ℕ, Bool, true, false, [], Option, Some, None, Result, Ok, Err, Vec}
use Rattle.std.specs.declared.alloc.Global.{Global}
use Rattle.raft_base.specs.declared.errors.Fault.{Fault}
use Rattle.raft_base.specs.declared.errors.Fault.TheVariants as fault
use Rattle.raft_env.specs.Directory.{CrashImage, Directory, IsRestarted, Leaves}
use Rattle.raft_env.specs.Refusal.{FailsAt, Refusals}
use Rattle.raft_env.specs.declared.env.FileSystem.{Ghosts}
use Rattle.raft_log_engine.specs.declared.engine.Engine.{Engine}
use Rattle.raft_log_engine.specs.Engine.{IsSpanOf, begun_of, contents_of, directory_of, folders_of, has_failed, is_known_in, refusals_of}
use Rattle.raft_log_engine.specs.Opening.{IsNewIn}
use Rattle.raft_config.specs.Folders.{Folders, folders_in}
use Rattle.raft_config.specs.Sanitized.{IsContradiction}
use Rattle.raft_config.specs.declared.config.Config.{Config}
use Rattle.raft_memory.specs.Memory.{no_files}
use Rattle.raft_pipes.specs.Queue.{NamesPlace}
use Rattle.raft_once.specs.Numbers.{shown}
use Rattle.raft_records.specs.Contents.{Contents, after_batches, no_contents}
use Rattle.raft_tables.specs.Known.{known_in}
use Rattle.raft_crash_laws.specs.Crash.{contents_after_crash, known_after_crash}
use Rattle.raft_crash_laws.specs.Queues.{IsOpeningRefusal}
use Rattle.raft_tables.specs.Listing.{IsListing, listed}
use Rattle.raft_script.specs.Entry.{range_of}
use Rattle.raft_lines.specs.Line.{Asked, Nothing, Range, Reopen, Scan, Span, Crash, asked_by_op}
use Rattle.raft_script.specs.Durability.{Does, IsAnswerOf}
use Rattle.raft_script.specs.Called.{IsCalled}
use Rattle.raft_script.specs.Batches.{accepted_of}
use Rattle.raft_script.specs.Failure.{IsFailing, IsStorageOrMemory, Refuses}
use Rattle.raft_script.specs.Run.{IsUnasked}
use Rattle.raft_lines.specs.Settings.{AreMet, IsSetRefusal}
use Rattle.raft_lines.specs.declared.settings.Settings.{Settings}
use Rattle.raft_lines.specs.declared.answer.Answer.{Answer}
use Rattle.raft_lines.specs.declared.answer.Answer.TheVariants as answer
use Rattle.raft_script.specs.declared.operation.Op.{Op}
use Rattle.raft_script.specs.declared.operation.Outcome.{Outcome}

-- why settings can't be used to open these files
abbrev pub IsOpeningFault : Config → Directory → Fault → Type 0
IsOpeningFault config files e = IsContradiction config e ⊎ ((old : Refusals) × (new : Refusals)
    × IsOpeningRefusal config.recovery_mode (folders_in config) files old new e)

module _ {F H R W : Type 0} {g : Ghosts F H R W} where
  -- the engine did the operation that a line requests, with this outcome
  pub record IsAnswered (asked : Asked) (outcome : Outcome) (old new : Engine F H R W g) : Type 0 where
    pub op : Op
    pub does : asked_by_op op ≡ Some asked
    pub answer : IsAnswerOf op outcome old new
    pub fails : IsFailing (has_failed old) op outcome (has_failed new)
    pub unchanged : IsUnasked op → new ≡ old
    pub refused : Refuses outcome (refusals_of old) (refusals_of new)
    pub contents : has_failed new ≡ false
        → contents_of new
        ≡ after_batches (contents_of old) (accepted_of (contents_of old) op outcome)
    pub done : Does op outcome old new
    pub called : IsCalled op outcome old new
    pub folders : folders_of new ≡ folders_of old
    pub begun : begun_of new ≡ begun_of old

  -- an engine just opened in these folders, which found these contents and groups there
  pub record IsNewWith (folders : Folders) (m : Contents) (known : ℕ → Bool) (e : Engine F H R W g)
      : Type 0 where
    pub new : IsNewIn folders e
    pub contents : contents_of e ≡ m
    pub groups : (group : ℕ) → is_known_in e group ≡ known group

  -- the engine for a line: the one before it, or one that is opened for it and holds nothing
  abbrev pub IsMetBy : Config → Option (Engine F H R W g) → Engine F H R W g → Type 0
  IsMetBy config None e = IsNewWith (folders_in config) no_contents (known_in []) e
  IsMetBy config (Some before) e = e ≡ before

  -- a usable engine was closed, and what it held was opened again; no other groups are known
  pub record IsReopened (old new : Engine F H R W g) : Type 0 where
    pub stood : has_failed old ≡ false
    pub new_is : IsNewIn (folders_of old) new
    pub contents : contents_of new ≡ contents_of old
    pub groups : (group : ℕ) → is_known_in new group ≡ true → is_known_in old group ≡ true

  -- why a reopening fails: the engine had failed, or a call on its folders or log files fails
  abbrev pub IsReopenFault : Engine F H R W g → Fault → Type 0
  IsReopenFault old e = ((has_failed old ≡ true) × (e ≡ fault.Failed))
      ⊎ ((has_failed old ≡ false) × (new : Refusals)
      × FailsAt (NamesPlace (folders_of old)) (refusals_of old) new e)

  -- a new engine holds what a crash left of another one's files
  abbrev pub HoldsAfterCrash : Folders → Engine F H R W g → Engine F H R W g → Type 0
  HoldsAfterCrash folders old new = (image : CrashImage) × Leaves (directory_of old) image
      × IsNewWith folders (contents_after_crash folders (directory_of old) image)
      (known_after_crash folders (directory_of old) image) new

  -- why a crash fails: the files aren't listed or made, or what is left of them isn't opened
  abbrev pub IsCrashFault : Config → Engine F H R W g → Fault → Type 0
  IsCrashFault config old e = IsStorageOrMemory e
      ⊎ ((image : CrashImage) × Leaves (directory_of old) image × (files : Directory)
      × IsRestarted (directory_of old) image files × IsOpeningFault config files e)

  -- a group's keys with their values, without its number, or why they aren't listed
  abbrev pub IsScanAnswer : Engine F H R W g → ℕ → Result (Vec (Vec ℕ Global × Vec ℕ Global) Global)
      Fault → Type 0
  IsScanAnswer e group (Ok pairs) =
      (has_failed e ≡ false) × IsListing ((shown (contents_of e)).value group) (listed pairs.items)
  IsScanAnswer e group (Err refusal) =
      (refusal ≡ fault.Memory) ⊎ ((refusal ≡ fault.Failed) × (has_failed e ≡ true))

  -- the reply to a look
  abbrev pub AnswersLook : Asked → Answer → Engine F H R W g → Type 0
  AnswersLook (Range group) (answer.Range range) e =
      has_failed e ≡ false → range ≡ range_of ((contents_of e).entries group)
  AnswersLook (Scan group) (answer.Pairs result) e = IsScanAnswer e group result
  AnswersLook (Span queue) (answer.Span span) e = IsSpanOf queue e span
  AnswersLook asked _ e = ⊥

  -- the reply of the engine to a request, and the engine after it
  abbrev pub AnswersAsked : Asked → Answer → Engine F H R W g → Engine F H R W g → Type 0
  AnswersAsked asked (answer.Outcome outcome) old new = IsAnswered asked outcome old new
  AnswersAsked asked a old new = (new ≡ old) × AnswersLook asked a old

  -- an opening gives such an engine, or it fails for such a cause, and the program ends
  abbrev pub OpensTo : Answer → Option (Engine F H R W g) → (Engine F H R W g → Type 0)
      → (Fault → Type 0) → Type 0
  OpensTo answer.Done (Some new) P IsCause = P new
  OpensTo (answer.Fatal e) new P IsCause = IsCause e
  OpensTo a new P IsCause = ⊥

  -- the reply to a request, and the engine after it; a failed reopening or crash ends the program
  abbrev pub AnswersFrom : Config → Asked → Answer → Engine F H R W g → Option (Engine F H R W g)
      → Type 0
  AnswersFrom config Reopen a met new = OpensTo a new (IsReopened met) (IsReopenFault met)
  AnswersFrom config (Crash left) a met new =
      OpensTo a new (HoldsAfterCrash (folders_in config) met) (IsCrashFault config met)
  AnswersFrom config asked a met (Some new) = AnswersAsked asked a met new
  AnswersFrom config asked a met None = ⊥

  -- AnswersFrom with the engine for the line; or none can be opened, and the program ends
  abbrev pub AnswersBy : Config → Asked → Answer → Option (Engine F H R W g)
      → Option (Engine F H R W g) → Type 0
  AnswersBy config asked a old new =
      ((e : Fault) × (a ≡ answer.Fatal e) × (old ≡ None) × IsOpeningFault config no_files e)
      ⊎ ((met : Engine F H R W g) × IsMetBy config old met × AnswersFrom config asked a met new)

  -- a line that requests nothing is skipped; another one gets its reply, or there are no settings
  abbrev pub AnswersLine : Settings → Settings → Asked → Answer → Option (Engine F H R W g)
      → Option (Engine F H R W g) → Type 0
  AnswersLine set made asked a old new = ((asked ≡ Nothing) × (a ≡ answer.Nothing) × (new ≡ old))
      ⊎ ((e : Fault) × (a ≡ answer.Fatal e) × (set.config ≡ None) × IsSetRefusal set.lines.items e)
      ⊎ ((config : Config) × AreMet set made config × AnswersBy config asked a old new)

-- the program ends with this reply
abbrev pub is_fatal : Answer → Bool
is_fatal (answer.Fatal e) = true
is_fatal _ = false
