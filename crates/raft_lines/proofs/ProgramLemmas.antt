-- What the program's openings answer.
use Rattle.std.proofs.Common.{◌≡◌, ◌∙◌, ℕ, Bool, true, false, List, [], ◌∷◌, Option, Some, None, Result, Ok, Err, inl, inr, ap, refl, subst, sym}
use Rattle.std.specs.Prelude.{◌↔◌, ◌⊎◌, ◌||◌, IfErr, IfOk, IfSome, IsErrAnd, MatchResult}
use Rattle.std.specs.declared.alloc.AllocError.{AllocError}
use Rattle.std.proofs.lemmas.Bool.{cases_Bool}
use Rattle.raft_base.specs.declared.errors.Fault.{Fault}
use Rattle.raft_base.specs.declared.errors.Fault.TheVariants as fault
use Rattle.raft_env.specs.Consistent.{AreConsistent}
use Rattle.raft_env.specs.Directory.{CrashImage, Directory, IsRestarted, Leaves}
use Rattle.raft_env.specs.Refusal.{FailsAt, IsFaultOf, Refusals}
use Rattle.raft_env.specs.declared.env.FsFault.{FsFault}
use Rattle.raft_env.specs.declared.env.FsFault.TheVariants as fs
use Rattle.raft_config.proofs.ConfigLemmas.{contradiction-copy, same_contradiction}
use Rattle.raft_config.specs.Config.{IsCopy}
use Rattle.raft_config.specs.Folders.{Folders, folders_in}
use Rattle.raft_config.specs.Sanitized.{IsContradiction}
use Rattle.raft_config.specs.declared.config.Config.{Config}
use Rattle.raft_config.specs.declared.config.RecoveryMode.{RecoveryMode}
use Rattle.raft_env.specs.declared.env.FileSystem.{Ghosts}
use Rattle.raft_crash_laws.specs.Contents.{contents_at, found_contents, found_groups, known_at, known_from}
use Rattle.raft_crash_laws.specs.Crash.{contents_after_crash, known_after_crash}
use Rattle.raft_crash_laws.specs.Queues.{IsOpeningRefusal}
use Rattle.raft_memory.proofs.ChoiceTornLemmas.{choices_may_leave}
use Rattle.raft_memory.specs.Choice.{NameNoBytes, RefusesUnless, left_by}
use Rattle.raft_memory.specs.declared.crash.Choice.{Choice}
use Rattle.raft_memory.specs.Memory.{no_files}
use Rattle.raft_pipes.specs.Queue.{NamesPlace}
use Rattle.raft_log_engine.specs.Engine.{begun_of, directory_of, folders_of, found_groups_of, found_of, has_failed, refusals_of}
use Rattle.raft_log_engine.specs.Opening.{IsNewIn, Reopens}
use Rattle.raft_log_engine.specs.declared.engine.Engine.{Engine}
use Rattle.raft_log_engine.specs.declared.engine.Refused.{Refused}
use Rattle.raft_records.specs.Contents.{Contents, after_batches}
use Rattle.raft_records.specs.Item.{Batch}
use Rattle.raft_script.proofs.TrialLemmas.{same_folders}
use Rattle.raft_script.specs.Failure.{IsStorageOrMemory}
use Rattle.raft_lines.specs.Line.{Asked, asked_of, is_asked}
use Rattle.raft_lines.specs.Program.{AnswersBy, AnswersFrom, AnswersLine, HoldsAfterCrash, IsCrashFault, IsMetBy, IsNewWith, IsOpeningFault, IsReopenFault, IsReopened, OpensTo, is_fatal}
use Rattle.raft_lines.specs.Settings.{SetsOwn, were_read}
use Rattle.raft_lines.specs.declared.line.Call.TheVariants as call
use Rattle.raft_lines.specs.declared.line.Line.{Line}
use Rattle.raft_lines.specs.declared.line.Line.TheVariants as line
use Rattle.raft_lines.specs.declared.line.Look.TheVariants as look
use Rattle.raft_lines.specs.declared.settings.Settings.{Settings}
use Rattle.raft_lines.specs.declared.answer.Answer.{Answer}
use Rattle.raft_lines.specs.declared.answer.Answer.TheVariants as answer

-- settings fail as those of which they are a copy
fault_of_copy : (c copy : Config) (n : Directory) (e : Fault) → IsCopy c copy → IsOpeningFault copy n e → IsOpeningFault c n e
fault_of_copy c copy n e is (inl against) = inl (same_contradiction c copy e (contradiction-copy c copy is) against)
fault_of_copy c copy n e is (inr (old, new, why)) =
    let mode : copy.recovery_mode ≡ c.recovery_mode = ap (λ (x : Config). x.recovery_mode) is.others in
    inr (old, new, subst (λ (m : RecoveryMode). IsOpeningRefusal m (folders_in c) n old new e) mode (subst (λ (p : Folders). IsOpeningRefusal copy.recovery_mode p n old new e) (same_folders c copy is) why))

module _ {F H R W : Type 0} {g : Ghosts F H R W} where
  -- what holds of the engine that an opening leaves, or of its fault, may be said otherwise
  pub opens_weaker : (P Q : Engine F H R W g → Type 0) (C D : Fault → Type 0) → ((e : Engine F H R W g) → P e → Q e) → ((e : Fault) → C e → D e) → (a : Answer) (new : Option (Engine F H R W g)) → OpensTo a new P C → OpensTo a new Q D
  opens_weaker P Q C D weaker causes answer.Nothing new none = absurd none
  opens_weaker P Q C D weaker causes answer.Done (Some e) opened = weaker e opened
  opens_weaker P Q C D weaker causes answer.Done None none = absurd none
  opens_weaker P Q C D weaker causes (answer.Outcome outcome) new none = absurd none
  opens_weaker P Q C D weaker causes (answer.Range range) new none = absurd none
  opens_weaker P Q C D weaker causes (answer.Span span) new none = absurd none
  opens_weaker P Q C D weaker causes (answer.Pairs result) new none = absurd none
  opens_weaker P Q C D weaker causes (answer.Fatal fault) new refused = causes fault refused

  -- what holds of an opened engine holds of the one that is there after the opening
  pub opens_to : (P : Engine F H R W g → Type 0) (C : Fault → Type 0) (opening : Result (Engine F H R W g) (Refused F)) (a : Answer) (new : Option (Engine F H R W g)) → MatchResult opening (λ e. (a ≡ answer.Done) × (new ≡ Some e)) (λ r. a ≡ answer.Fatal r.fault) → MatchResult opening P (λ r. C r.fault) → OpensTo a new P C
  opens_to P C (Ok e) a new is holds = subst (λ (x : Answer). OpensTo x new P C) (sym is.0) (subst (λ (o : Option (Engine F H R W g)). OpensTo answer.Done o P C) (sym is.1) holds)
  opens_to P C (Err r) a new is holds = subst (λ (x : Answer). OpensTo x new P C) (sym is) holds

  -- why an opening failed, by what it is told of both of its answers
  pub opened_or_refused : (P Q : Engine F H R W g → Type 0) (config : Config) (n : Directory) (old : Refusals) (new : F → Refusals) (opening : Result (Engine F H R W g) (Refused F)) → IfOk opening P
      → MatchResult opening Q (λ r. IsContradiction config r.fault ⊎ IsOpeningRefusal config.recovery_mode (folders_in config) n old (new r.file_system) r.fault) → MatchResult opening P (λ r. IsOpeningFault config n r.fault)
  opened_or_refused P Q config n old new (Ok e) opened told = opened
  opened_or_refused P Q config n old new (Err r) opened (inl against) = inl against
  opened_or_refused P Q config n old new (Err r) opened (inr why) = inr (old, new r.file_system, why)

  -- .. by settings of which these are a copy, over no files
  pub opened_or_copy : (P : Engine F H R W g → Type 0) (c copy : Config) (n m : Directory) (opening : Result (Engine F H R W g) (Refused F)) → IsCopy c copy → n ≡ m → MatchResult opening P (λ r. IsOpeningFault copy n r.fault) → MatchResult opening P (λ r. IsOpeningFault c m r.fault)
  opened_or_copy P c copy n m (Ok e) is same opened = opened
  opened_or_copy P c copy n m (Err r) is same refused = subst (λ (x : Directory). IsOpeningFault c x r.fault) same (fault_of_copy c copy n r.fault is refused)

  -- what a new engine finds, it holds
  new_with : (folders : Folders) (n : Directory) (e : Engine F H R W g) → IsNewIn folders e → begun_of e ≡ n ∷ [] → IsNewWith folders (contents_at folders n) (known_at folders n) e
  new_with folders n e new begun = record {
    new = new;
    contents = ap (after_batches (found_of e)) new.none ∙ ap (λ (f : Folders). found_contents f (begun_of e)) new.folders_are ∙ ap (found_contents folders) begun;
    groups = λ group. ap (λ (l : List Batch). known_from (found_groups_of e) l group) new.none ∙ ap (λ (f : Folders). found_groups f (begun_of e) group) new.folders_are ∙ ap (λ (l : List Directory). found_groups folders l group) begun;
  }

  -- an opening finds what the folders' log stands for
  pub opened_with : (folders : Folders) (n : Directory) (opening : Result (Engine F H R W g) (Refused F)) → IfOk opening (IsNewIn folders) → IfOk opening (λ e. begun_of e ≡ n ∷ []) → IfOk opening (IsNewWith folders (contents_at folders n) (known_at folders n))
  opened_with folders n (Ok e) new begun = new_with folders n e new begun
  opened_with folders n (Err r) new begun = tt

  -- .. in these folders, where it stands for these
  pub opened_in : (dir folders : Folders) (n : Directory) (m : Contents) (known : ℕ → Bool) (opening : Result (Engine F H R W g) (Refused F)) → dir ≡ folders → contents_at dir n ≡ m → ((group : ℕ) → known_at dir n group ≡ known group) → IfOk opening (IsNewWith dir (contents_at dir n) (known_at dir n)) → IfOk opening (IsNewWith folders m known)
  opened_in dir folders n m known (Ok e) dir_is contents groups opened = record {
    new = subst (λ (p : Folders). IsNewIn p e) dir_is opened.new;
    contents = opened.contents ∙ contents;
    groups = λ group. opened.groups group ∙ groups group;
  }
  opened_in dir folders n m known (Err r) dir_is contents groups opened = tt

  -- an opening of what a crash left
  pub opens_after_crash : (folders : Folders) (old e : Engine F H R W g) (dir : Folders) (n m : Directory) (image : CrashImage) → dir ≡ folders → n ≡ directory_of old → Leaves n image → contents_at dir m ≡ contents_after_crash dir n image → ((group : ℕ) → known_at dir m group ≡ known_after_crash dir n image group)
      → IsNewWith dir (contents_at dir m) (known_at dir m) e → HoldsAfterCrash folders old e
  opens_after_crash folders old e dir n m image dir_is n_is leaves contents groups opened = (
    image,
    subst (λ (x : Directory). Leaves x image) n_is leaves,
    record {
      new = subst (λ (p : Folders). IsNewIn p e) dir_is opened.new;
      contents = opened.contents ∙ contents ∙ ap (λ (p : Folders). contents_after_crash p n image) dir_is ∙ ap (λ (x : Directory). contents_after_crash folders x image) n_is;
      groups = λ group. opened.groups group ∙ groups group ∙ ap (λ (p : Folders). known_after_crash p n image group) dir_is ∙ ap (λ (x : Directory). known_after_crash folders x image group) n_is;
    },
  )

  -- .. that fails
  pub refused_after_crash : (c copy : Config) (old : Engine F H R W g) (n m : Directory) (image : CrashImage) (e : Fault) → IsCopy c copy → n ≡ directory_of old → Leaves n image → IsRestarted n image m → IsOpeningFault copy m e → IsCrashFault c old e
  refused_after_crash c copy old n m image e is n_is leaves restarted refused = inr (
    image,
    subst (λ (x : Directory). Leaves x image) n_is leaves,
    m,
    subst (λ (x : Directory). IsRestarted x image m) n_is restarted,
    fault_of_copy c copy m e is refused,
  )

  -- an opening of what was closed
  pub reopened : (old : Engine F H R W g) (opening : Result (Engine F H R W g) (Refused F)) → IfOk opening (IsNewIn (folders_of old)) → Reopens old opening → (IsErrAnd opening (λ r. r.fault ≡ fault.Failed) ↔ (has_failed old ≡ true)) → IfOk opening (IsReopened old)
  reopened old (Ok e) new (inr refused) failed = absurd refused
  reopened old (Ok e) new (inl begins) failed = elim (cases_Bool (has_failed old)) [
    | inl gone ↦ absurd (failed.1 gone)
    | inr stood ↦
        let opened = new_with (folders_of old) (g.directory begins.closed) e new begins.opens.value in
        let holds = begins.closes.holds in
        record { stood = stood; new_is = new; contents = opened.contents ∙ holds.contents; groups = λ group is. holds.known group (sym (opened.groups group) ∙ is) }
  ]
  reopened old (Err r) new begins failed = tt

  -- .. that fails
  pub reopened_or_refused : (old : Engine F H R W g) (after : F → Refusals) (opening : Result (Engine F H R W g) (Refused F)) → IfOk opening (IsReopened old) → (IsErrAnd opening (λ r. r.fault ≡ fault.Failed) ↔ (has_failed old ≡ true))
      → (has_failed old ≡ false → IfErr opening (λ r. FailsAt (NamesPlace (folders_of old)) (refusals_of old) (after r.file_system) r.fault)) → MatchResult opening (IsReopened old) (λ r. IsReopenFault old r.fault)
  reopened_or_refused old after (Ok e) opened failed cause = opened
  reopened_or_refused old after (Err r) opened failed cause = elim (cases_Bool (has_failed old)) [
    | inl gone ↦ inl (gone, failed.1 gone)
    | inr stood ↦ inr (stood, after r.file_system, cause stood)
  ]

  -- what a line asks for is answered by the engine that it meets
  pub answered_by : (config : Config) (asked : Asked) (old new : Option (Engine F H R W g)) (met : Engine F H R W g) (opening : Result (Engine F H R W g) (Refused F)) (result : Result Answer AllocError) → opening ≡ Ok met
      → MatchResult opening (IsMetBy config old) (λ r. (old ≡ None) × IsOpeningFault config no_files r.fault) → IfOk result (λ a. AnswersFrom config asked a met new) → IfOk result (λ a. AnswersBy config asked a old new)
  answered_by config asked old new met opening (Ok a) is meets answers =
      inr (met, subst (λ (x : Result (Engine F H R W g) (Refused F)). MatchResult x (IsMetBy config old) (λ r. (old ≡ None) × IsOpeningFault config no_files r.fault)) is meets, answers)
  answered_by config asked old new met opening (Err e) is meets answers = tt

  -- .. or there is none
  pub refused_by : (config : Config) (asked : Asked) (old new : Option (Engine F H R W g)) (r : Refused F) (opening : Result (Engine F H R W g) (Refused F)) → opening ≡ Err r
      → MatchResult opening (IsMetBy config old) (λ r. (old ≡ None) × IsOpeningFault config no_files r.fault) → AnswersBy config asked (answer.Fatal r.fault) old new
  refused_by config asked old new r opening is refused =
      let why = subst (λ (x : Result (Engine F H R W g) (Refused F)). MatchResult x (IsMetBy config old) (λ r. (old ≡ None) × IsOpeningFault config no_files r.fault)) is refused in
      inl (r.fault, refl, why.0, why.1)

  -- a line is answered by the settings that it meets
  pub line_answered : (set made : Settings) (config : Config) → made.config ≡ Some config → (were_read set ≡ true → made ≡ set) → (set.config ≡ None → IfSome made.config (SetsOwn set.lines.items)) → (asked : Asked) (old new : Option (Engine F H R W g)) (result : Result Answer AllocError)
      → IfOk result (λ a. AnswersBy config asked a old new) → IfOk result (λ a. AnswersLine set made asked a old new)
  line_answered set made config is once sets asked old new (Ok a) answers = inr (inr (config, record { is = is; once = once; made = λ none. subst (λ (o : Option Config). IfSome o (SetsOwn set.lines.items)) is (sets none) }, answers))
  line_answered set made config is once sets asked old new (Err e) answers = tt

-- a line that isn't empty asks for something
pub asks_something : (l : Line) → (l ≡ line.Nothing → ⊥) → is_asked (Some (asked_of l)) ≡ true
asks_something line.Nothing some = absurd (some refl)
asks_something (line.Call (call.Put group key value sync)) some = refl
asks_something (line.Call (call.Delete group key sync)) some = refl
asks_something (line.Call (call.Once group number key value sync)) some = refl
asks_something (line.Call (call.Get group key)) some = refl
asks_something (line.Call (call.Entries group first last word sync)) some = refl
asks_something (line.Call (call.Clean group sync)) some = refl
asks_something (line.Call (call.Compact group index)) some = refl
asks_something (line.Call (call.Entry group index)) some = refl
asks_something (line.Call call.Groups) some = refl
asks_something (line.Call call.Sync) some = refl
asks_something (line.Call call.RewriteAppend) some = refl
asks_something (line.Call call.RewriteRewrite) some = refl
asks_something (line.Call call.PurgeStale) some = refl
asks_something (line.Call call.Purge) some = refl
asks_something (line.Look (look.Range group)) some = refl
asks_something (line.Look (look.Scan group)) some = refl
asks_something (line.Look (look.Span queue)) some = refl
asks_something line.Reopen some = refl
asks_something (line.Crash left) some = refl

-- .. and settings were read then
pub asked_then : (set made : Bool) (l : Line) → (l ≡ line.Nothing → ⊥) → made ≡ true → made ≡ (set || is_asked (Some (asked_of l)))
asked_then set made l some is = is ∙ sym (ap (λ (b : Bool). set || b) (asks_something l some) ∙ or_true set)
  where
    or_true : (b : Bool) → (b || true) ≡ true
    or_true true = refl
    or_true false = refl

-- what is so after each answer is so after one with which the program goes on
pub unless_fatal : (P : Type 0) → P → (r : Result Answer AllocError) → IfOk r (λ a. is_fatal a ≡ false → P)
unless_fatal P is (Ok a) = λ _. is
unless_fatal P is (Err e) = tt

-- choices that name no bytes are refused for lack of memory alone
crash_fault : (choices : List Choice) (n : Directory) → NameNoBytes choices → AreConsistent n → (e : Fault) → RefusesUnless (Leaves n (left_by choices n)) e → IsStorageOrMemory e
crash_fault choices n none all (fault.InvalidArgument text) unless = absurd (unless (choices_may_leave choices n none all))
crash_fault choices n none all fault.Memory unless = tt
crash_fault choices n none all _ unless = absurd unless

pub crash_refused : {T : Type 0} (choices : List Choice) (n : Directory) → NameNoBytes choices → AreConsistent n → (r : Result T Fault) → IfErr r (RefusesUnless (Leaves n (left_by choices n))) → IfErr r IsStorageOrMemory
crash_refused choices n none all (Ok x) refused = tt
crash_refused choices n none all (Err e) refused = crash_fault choices n none all e refused

-- a fault of a call on storage
pub storage_fault : (path : List ℕ) (told : FsFault) (e : Fault) → IsFaultOf path told e → IsStorageOrMemory e
storage_fault path (fs.Io kind) e (text, is, named) = subst IsStorageOrMemory (sym is) tt
storage_fault path fs.Memory e is = subst IsStorageOrMemory (sym is) tt
