-- What a trial's crash leaves, and what its opening finds.
use Rattle.std.proofs.Common.{◌≡◌, ◌⊎◌, ⊎_elim, inl, inr, ℕ, true, List, [], Option, Some, None, arith, refl, sym, ap, subst, ◌∙◌}
use Rattle.std.specs.Prelude.{Bool, IsSome, IfOk, IfErr, Result, Ok, Err, filter, is_some, map, option_map}
use Rattle.std.specs.FinMap.{get-empty}
use Rattle.std.specs.String.{string_bytes}
use Rattle.std.proofs.Props.{props}
use Rattle.std.proofs.Math.Logic.{∥∥₁_elim, ∥∥₁_map}
use Rattle.std.proofs.Math.Path.{fun_ext}
use Rattle.raft_records.specs.Contents.{Contents, no_contents}
use Rattle.raft_records.specs.Item.{Batch}
use Rattle.raft_base.specs.Fault.{fault_code}
use Rattle.raft_memory.specs.Choice.{RefusesUnless, left_by, NameNoBytes}
use Rattle.raft_env.specs.Directory.{Directory, IsRestarted, Leaves, CrashImage, Path, file_at}
use Rattle.raft_env.specs.Outcomes.{File, synced_file}
use Rattle.raft_env.specs.declared.env.FileSystem.{Ghosts}
use Rattle.raft_memory.specs.Memory.{no_files}
use Rattle.raft_memory.specs.declared.crash.Choice.{Choice}
use Rattle.raft_crash_laws.specs.Crash.{RecoversContents}
use Rattle.raft_base.specs.declared.errors.Fault.{Fault}
use Rattle.raft_base.specs.declared.errors.Fault.TheVariants as fault
use Rattle.raft_log_engine.specs.Image.{IsImageOf}
use Rattle.raft_once.specs.Numbers.{shown}
use Rattle.raft_log_engine.specs.declared.engine.image.Image.{Image}
use Rattle.raft_tables.specs.Known.{known_in}
use Rattle.raft_crash_laws.specs.Contents.{contents_at, known_at, recovered_groups}
use Rattle.raft_base.specs.declared.pipe_log.LogQueue.{LogQueue}
use Rattle.raft_base.specs.declared.pipe_log.LogQueue.TheVariants.{Append, Rewrite}
use Rattle.raft_env.specs.Refusal.{FailsAt, NoFewer, Refusals, RoseBy}
use Rattle.raft_config.specs.Config.{IsCopy}
use Rattle.raft_config.specs.Folders.{Folders, all_of, beside_main, folders_in}
use Rattle.raft_config.specs.Sanitized.{IsContradiction}
use Rattle.raft_pipes.specs.Folder.{AreClear, HasFileFor, HasNoLog, readable_queue}
use Rattle.raft_pipes.specs.Numbered.{StandAlone, end_of_numbers, has_file, in_queue, last_run, path_of, paths_of}
use Rattle.raft_opening.specs.Queue.{IsOpenRefusalOf}
use Rattle.raft_pipes.specs.Queue.{NamesLog}
use Rattle.raft_pipes.proofs.TakenLemmas.{one_free}
use Rattle.raft_crash_laws.specs.Queues.{AreOpenableIn, AreSingleIn, IsOpeningRefusal, ReadCompletedRecordsIn}
use Rattle.raft_script.specs.Failure.{IsStorageOrMemory, is_io}
use Rattle.raft_script.specs.Trial.{HaveNoLogPath, IsLogRefusal, Ran, Reopens, RunsOver}
use Rattle.raft_config.specs.declared.config.Config.{Config}
use Rattle.raft_config.specs.declared.config.RecoveryMode.{RecoveryMode}
use Rattle.raft_script.specs.declared.operation.Op.{Op}

none_there : (n : Directory) → n ≡ no_files → (path : Path) → file_at n path ≡ None
none_there n is path = ap (λ (x : Directory). file_at x path) is ∙ get-empty _ path

pub no_log : (folders : Folders) (n : Directory) → n ≡ no_files → HasNoLog folders n
no_log folders n is = λ q named. none_there n is q

-- .. and no folder's place is taken but by the path of a log file
pub clear_of_none : (folders : Folders) (n : Directory) → HaveNoLogPath folders → n ≡ no_files → HasFileFor folders n → ⊥
clear_of_none folders n free is (folder, among, inl there) = let clash = subst IsSome (none_there n is folder) there in absurd cc
clear_of_none folders n free is (folder, among, inr log) = free folder among log

-- where a log could be opened, no folder has such a path
pub free_of_clear : (folders : Folders) (n : Directory) → AreClear folders n → HaveNoLogPath folders
free_of_clear folders n clear = λ folder among log. clear (folder, among, inr log)

-- as a folder alone hasn't it
pub one_has_no_log_path : (folders : Folders) → folders.spill ≡ None → HaveNoLogPath folders
one_has_no_log_path folders alone = λ folder among log.
    one_free folders no_files (ap (beside_main folders.main) alone) (λ there. let clash = subst IsSome (none_there no_files refl folders.main) there in absurd cc) (folder, among, inr log)

-- of folders without files no failed call brought a record
pub none_done : (folders : Folders) (n : Directory) → (HasNoLog folders n → ReadCompletedRecordsIn folders n) → n ≡ no_files → ReadCompletedRecordsIn folders n
none_done folders n done is = done (no_log folders n is)

-- what is true of folders without a log is so where there are no files
pub true_of_none : {P : Type 0} (folders : Folders) (n : Directory) → (HasNoLog folders n → AreClear folders n → P) → HaveNoLogPath folders → n ≡ no_files → P
true_of_none folders n told free is = told (no_log folders n is) (clear_of_none folders n free is)

-- of folders of which nothing can be read no group is known
pub none_known : (folders : Folders) (n : Directory) → ((queue : LogQueue) → readable_queue queue folders n ≡ []) → known_at folders n ≡ known_in []
none_known folders n none =
    ap (λ (r : List Batch). recovered_groups r (readable_queue Append folders n)) (none Rewrite) ∙ ap (recovered_groups []) (none Append)

-- what a run shows that began with no files
pub run_shown : {F H R W : Type 0} (g : Ghosts F H R W) (config : Config) (ops : List Op) (ran : Ran) (old new : F)
    → (RecoversContents (folders_in config) (contents_at (folders_in config) (g.directory old)) [] (g.directory old) → RunsOver g config (contents_at (folders_in config) (g.directory old)) (known_at (folders_in config) (g.directory old)) ops ran old new)
    → known_at (folders_in config) (g.directory old) ≡ known_in []
    → (contents_at (folders_in config) (g.directory old) ≡ no_contents) × RecoversContents (folders_in config) no_contents [] (g.directory old)
    → RunsOver g config no_contents (known_in []) ops ran old new
run_shown g config ops ran old new runs groups none =
    let dir = folders_in config in
    let n = g.directory old in
    subst (λ (k : ℕ → Bool). RunsOver g config no_contents k ops ran old new) groups
    (subst (λ (m : Contents). RunsOver g config m (known_at dir n) ops ran old new) none.0 (runs (subst (λ (m : Contents). RecoversContents dir m [] n) (sym none.0) none.1)))

same_opened : {m m' : Contents} (opened : Result Image Fault) → m ≡ m' → IfOk opened (λ image. IsImageOf image.groups.items m) → IfOk opened (λ image. IsImageOf image.groups.items m')
same_opened (Ok image) same is = subst (IsImageOf image.groups.items) same is
same_opened (Err e) same is = is

-- the image of files under a copy of the settings
pub image_same : (dir folders : Folders) (n : Directory) (opened : Result Image Fault) → dir ≡ folders → IfOk opened (λ image. IsImageOf image.groups.items (shown (contents_at dir n))) → IfOk opened (λ image. IsImageOf image.groups.items (shown (contents_at folders n)))
image_same dir folders n opened same is = same_opened opened (ap (λ (p : Folders). shown (contents_at p n)) same) is

-- copies of settings name the same folders
pub same_folders : (c copy : Config) → IsCopy c copy → folders_in copy ≡ folders_in c
same_folders c copy is =
    ap (λ (main : Path). record { main = main; spill = option_map string_bytes copy.spill_dir }) is.dir ∙ ap (λ (spill : Option Path). record { main = string_bytes c.dir; spill = spill }) is.spill_dir

-- Why the opening after a crash fails.

if_err : {T G : Type 0} (P Q : G → Type 0) (result : Result T G) → ((e : G) → P e → Q e) → IfErr result P → IfErr result Q
if_err P Q (Ok x) f holds = tt
if_err P Q (Err e) f holds = f e holds

-- .. else by these or for the damage of the log
pub refused_inside : (mode : RecoveryMode) (folders : Folders) (n : Directory) (old new : Refusals) (e : Fault) → IsOpeningRefusal mode folders n old new e → AreClear folders n → AreSingleIn folders n → IsLogRefusal mode folders n e
refused_inside mode folders n old new e (queue, refused) clear single = by_fault e refused
  where
    by_fault : (e : Fault) → IsOpenRefusalOf queue mode folders n old new e → IsLogRefusal mode folders n e
    by_fault (fault.InvalidArgument text) (inl taken) = absurd (clear taken)
    by_fault (fault.InvalidArgument text) (inr twice) = absurd (∥∥₁_elim (single queue) (hlevel props) twice)
    by_fault fault.Corruption refused = inr (queue, refused)
    by_fault fault.Range refused = inr (queue, refused)
    by_fault fault.Lz4 refused = inr (queue, refused)
    by_fault (fault.Io kind text) refused = inl tt
    by_fault fault.Memory refused = inl tt
    by_fault _ refused = absurd refused

-- what a read of an engine's image fails as
pub read_fails : (folders : Folders) (old new : Refusals) (e : Fault) → FailsAt (NamesLog folders) old new e → IsStorageOrMemory e
read_fails folders old new (fault.Io kind text) refused = tt
read_fails folders old new fault.Memory refused = tt
read_fails folders old new _ refused = absurd refused

-- .. and what answers `Io` storage counted
pub read_rose : (folders : Folders) (old mid new : Refusals) (result : Result Image Fault) → NoFewer old mid → IfErr result (FailsAt (NamesLog folders) mid new) → is_io result ≡ true → RoseBy 1 old new
read_rose folders old mid new (Ok image) before refused io = let clash = io in absurd cc
read_rose folders old mid new (Err (fault.Io kind text)) before refused io = let rose = refused.0 in omega (arith, before.0, rose)
read_rose folders old mid new (Err fault.Memory) before refused io = let clash = io in absurd cc
read_rose folders old mid new (Err _) before refused io = absurd refused

pub opening_rose : (config : Config) (n : Directory) (old new : Refusals) (e : Fault) → IsContradiction config e ⊎ IsOpeningRefusal config.recovery_mode (folders_in config) n old new e → is_io {T = Image} (Err e) ≡ true → RoseBy 1 old new
opening_rose config n old new (fault.Io kind text) (inl against) io = absurd against
opening_rose config n old new (fault.Io kind text) (inr (queue, refused)) io = refused.0
opening_rose config n old new fault.TryAgain (inl against) io = absurd against
opening_rose config n old new fault.TryAgain (inr (queue, refused)) io = absurd refused
opening_rose config n old new _ refused io = let clash = io in absurd cc

-- as it is said of a copy of the settings
pub reopens_same : {F : Type 0} {directory : F → Directory} {moments : F → List Directory} {refusals_of : F → Refusals} (dir folders : Folders) (found left : F) (opened : Result Image Fault) → dir ≡ folders → Reopens directory moments refusals_of dir found left opened → Reopens directory moments refusals_of folders found left opened
reopens_same {F} {directory} {moments} {refusals_of} dir folders found left opened same reopens = subst (λ (p : Folders). Reopens directory moments refusals_of p found left opened) same reopens

pub opened_outside : (mode again : RecoveryMode) (folders dir : Folders) (m : Directory) (opened : Result Image Fault) → again ≡ mode → dir ≡ folders → AreOpenableIn mode folders m → AreClear folders m → AreSingleIn folders m
    → IfErr opened (λ e. AreOpenableIn again dir m → AreClear dir m → AreSingleIn dir m → IsStorageOrMemory e) → IfErr opened IsStorageOrMemory
opened_outside mode again folders dir m opened mode_is dir_is opens clear single refused =
    let openable : AreOpenableIn again dir m = subst (λ (x : RecoveryMode). AreOpenableIn x dir m) (sym mode_is) (subst (λ (p : Folders). AreOpenableIn mode p m) (sym dir_is) opens) in
    let free : AreClear dir m = subst (λ (p : Folders). AreClear p m) (sym dir_is) clear in
    let alone : AreSingleIn dir m = subst (λ (p : Folders). AreSingleIn p m) (sym dir_is) single in
    if_err _ _ opened (λ e outside. outside openable free alone) refused

-- a crash leaves the names of the files
restarted_stands : (n m : Directory) (d : CrashImage) → IsRestarted n d m → (q : Path) → has_file m q ≡ has_file n q
restarted_stands n m d restarted q = ap is_some (restarted.each q) ∙ is_some-map (file_at n q)
  where
    is_some-map : (o : Option File) → is_some (option_map (λ _. synced_file (d q)) o) ≡ is_some o
    is_some-map None = refl
    is_some-map (Some file) = refl

paths_same : (folders : List Path) (queue : LogQueue) (n m : Directory) → ((q : Path) → has_file m q ≡ has_file n q) → paths_of folders queue m ≡ paths_of folders queue n
paths_same folders queue n m same = fun_ext (λ seq. ap (λ (stands : Path → Bool). filter stands (map (λ (folder : Path). path_of folder (in_queue queue seq)) folders)) (fun_ext same))

-- .. so that folders stay free and numbers alone
pub single_restarted : (folders : Folders) (n m : Directory) (d : CrashImage) → IsRestarted n d m → AreSingleIn folders n → AreSingleIn folders m
single_restarted folders n m d restarted single = λ queue. ∥∥₁_map (single queue)
    (subst (λ (here : ℕ → List Path). StandAlone here (last_run here end_of_numbers)) (sym (paths_same (all_of folders) queue n m (restarted_stands n m d restarted))))

pub clear_restarted : (folders : Folders) (n m : Directory) (d : CrashImage) → IsRestarted n d m → AreClear folders n → AreClear folders m
clear_restarted folders n m d restarted clear (folder, among, inl there) = clear (folder, among, inl (sym (restarted_stands n m d restarted folder) ∙ there))
clear_restarted folders n m d restarted clear (folder, among, inr log) = clear (folder, among, inr log)

-- an opening with a copy of the settings of files where no folder's place is taken and no number
-- stands in both
pub opened_log : (C C' : Fault → Type 0) (mode again : RecoveryMode) (folders dir : Folders) (m : Directory) (opened : Result Image Fault) → ((e : Fault) → C' e → C e) → again ≡ mode → dir ≡ folders → AreClear folders m → AreSingleIn folders m
    → IfErr opened (λ e. AreClear dir m → AreSingleIn dir m → C' e ⊎ IsLogRefusal again dir m e) → IfErr opened (λ e. C e ⊎ IsLogRefusal mode folders m e)
opened_log C C' mode again folders dir m opened same mode_is dir_is clear single refused =
    if_err _ _ opened (λ e cause.
    let free : AreClear dir m = subst (λ (p : Folders). AreClear p m) (sym dir_is) clear in
    let alone : AreSingleIn dir m = subst (λ (p : Folders). AreSingleIn p m) (sym dir_is) single in
    ⊎_elim (λ no. inl (same e no)) (λ log. inr (subst (λ (x : RecoveryMode). IsLogRefusal x folders m e) mode_is (subst (λ (p : Folders). IsLogRefusal again p m e) dir_is log))) (cause free alone)) refused

-- Why the choices are refused.

-- only for bytes that they name and that storage may not leave of them
pub choices_refused : {P : Type 0} (n : Directory) (choices : List Choice) (e : Fault) → (NameNoBytes choices → Leaves n (left_by choices n)) → RefusesUnless (Leaves n (left_by choices n)) e → ((Leaves n (left_by choices n) → ⊥) → P) → (e ≡ fault.Memory) ⊎ ((fault_code e ≡ 1) × (NameNoBytes choices → ⊥) × P)
choices_refused n choices (fault.InvalidArgument text) may_leave refuses told = inr (refl, λ none. refuses (may_leave none), told refuses)
choices_refused n choices fault.Corruption may_leave refuses told = absurd refuses
choices_refused n choices (fault.Io kind path) may_leave refuses told = absurd refuses
choices_refused n choices fault.TryAgain may_leave refuses told = absurd refuses
choices_refused n choices fault.Gap may_leave refuses told = absurd refuses
choices_refused n choices fault.Range may_leave refuses told = absurd refuses
choices_refused n choices fault.EntryCompacted may_leave refuses told = absurd refuses
choices_refused n choices fault.EntryNotFound may_leave refuses told = absurd refuses
choices_refused n choices fault.WrongIndex may_leave refuses told = absurd refuses
choices_refused n choices fault.Parse may_leave refuses told = absurd refuses
choices_refused n choices fault.Failed may_leave refuses told = absurd refuses
choices_refused n choices fault.Memory may_leave refuses told = inl refl
choices_refused n choices fault.Lz4 may_leave refuses told = absurd refuses
choices_refused n choices fault.FileOutOfRange may_leave refuses told = absurd refuses
choices_refused n choices fault.NotRecovered may_leave refuses told = absurd refuses
choices_refused n choices fault.TrailFull may_leave refuses told = absurd refuses
choices_refused n choices fault.Layer may_leave refuses told = absurd refuses
choices_refused n choices fault.StaleNumber may_leave refuses told = absurd refuses
