-- The queue of the folders once it is opened.
use Rattle.std.proofs.Common.{◌≡◌, ℕ, suc, ◌+◌, ◌<◌, Bool, true, false, ◌&&◌, List, [], ◌∷◌, ◌++◌, length, map, take, get_or, Option, Some, None, refl, ap, sym, subst, ◌∙◌, inl, inr, arith, is_some, length-append}
use Rattle.std.specs.Prelude.{Contains}
use Rattle.std.specs.List.{AllByRecursion, AllZip}
use Rattle.std.proofs.lemmas.Grind.{flat_map-append}
use Rattle.std.proofs.lemmas.List.{append-nil, length-map}
use Rattle.raft_records.specs.Item.{Batch}
use Rattle.raft_records.specs.Places.{Blocks}
use Rattle.raft_base.specs.declared.pipe_log.FileId.{FileId}
use Rattle.raft_base.specs.declared.pipe_log.LogQueue.{LogQueue}
use Rattle.raft_base.specs.declared.pipe_log.LogQueue.TheVariants.{Rewrite}
use Rattle.raft_base.specs.declared.pipe_log.Version.{Version}
use Rattle.raft_env.specs.Outcomes.{File}
use Rattle.raft_env.specs.Directory.{Directory, HasFile, Path, file_at}
use Rattle.raft_files.specs.Blocks.{AreBlocksOf}
use Rattle.raft_files.specs.Header.{header_bytes}
use Rattle.raft_files.specs.Records.{HasLog}
use Rattle.raft_files.specs.Scan.{end_of_scan, readable_batches, scan_file}
use Rattle.raft_files.specs.Sealed.{IsSealed}
use Rattle.raft_files.specs.Writer.{IsWriterOf, bytes_at, bytes_of}
use Rattle.raft_pipes.specs.Blocks.{HasBlocks}
use Rattle.raft_opening.specs.Files.{AreSettledFrom, HaveBlocks, IsSettledTo, LeavesAllBut}
use Rattle.raft_pipes.specs.Files.{EachFile, IsDurable, IsOpenableFile}
use Rattle.raft_pipes.specs.Folder.{HasFileFor, IsQueueSpan, LeavesOthers, log_files_of, readable_of, readable_queue}
use Rattle.raft_opening.specs.Folder.{first_file_of}
use Rattle.raft_config.specs.Folders.{all_of, Folders}
use Rattle.raft_opening.specs.LogFile.{bytes_kept, format_in, opened_bytes}
use Rattle.raft_pipes.specs.LogFile.{has_places, have_places}
use Rattle.raft_pipes.specs.Numbered.{AreNumbered, AreSingle, IsPathOf, IsRun, has_file, in_queue, path_of, paths_of}
use Rattle.raft_opening.specs.Open.{HasLogOf}
use Rattle.raft_pipes.specs.Pipe.{HasQueueOf}
use Rattle.raft_pipes.specs.Counts.{synced_to}
use Rattle.raft_pipes.specs.PipeState.{PipeState, WritesFiles, files_from, last_file, last_seq, sealed_paths}
use Rattle.raft_pipes.specs.Queue.{IsOpenableOf}
use Rattle.raft_opening.specs.Queue.{IsOpenedOf}
use Rattle.raft_pipes.specs.QueueFiles.{HasFilesBefore, QueueFile, batches_in, batches_with, if_standing, last_kept, last_of, places_of}
use Rattle.raft_pipes.specs.Written.{written_bytes}
use Rattle.raft_config.specs.declared.config.RecoveryMode.{RecoveryMode}
use Rattle.raft_opening.specs.declared.replay.ReplayedLog.{ReplayedLog}
use Rattle.raft_pipes.proofs.ApartLemmas.{all_apart}
use Rattle.raft_opening.proofs.BlocksLemmas.{kept_blocks}
use Rattle.raft_pipes.proofs.FolderLemmas.{named_log, still_free, among_first}
use Rattle.raft_opening.proofs.KeepsQueueLemmas.{each_file, first_files, first_place, no_first_file, numbered_in, one_fits, run_stays, still_clear_but}
use Rattle.raft_pipes.proofs.LogFileLemmas.{nothing_is_read}
use Rattle.raft_pipes.proofs.NumberedLemmas.{numbered_same, run_at, run_back, run_front}
use Rattle.raft_pipes.proofs.PlacesLemmas.{found_is_path, found_stands, paths_of-same}
use Rattle.raft_pipes.proofs.PipeNamesLemmas.{length-sealed_paths}
use Rattle.raft_pipes.proofs.QueueFilesLemmas.{all_push, last_behind}
use Rattle.raft_pipes.proofs.SpareLemmas.{after_own}
use Rattle.raft_opening.proofs.SpanLemmas.{span_kept}

-- A file with the batches that could be read of it.

opened_file : (queue : LogQueue) → Directory → ℕ × Path → QueueFile
opened_file queue old f = record { seq = f.0; path = f.1; batches = readable_batches (in_queue queue f.0) (bytes_at f.1 old) }

places_of-opened : (queue : LogQueue) (old : Directory) (files : List (ℕ × Path)) → places_of (map (opened_file queue old) files) ≡ files
unfolding opened_file
places_of-opened queue old [] = refl
places_of-opened queue old (f ∷ files) = ap (λ fs. f ∷ fs) (places_of-opened queue old files)

batches_in-opened : (queue : LogQueue) (old : Directory) (files : List (ℕ × Path)) → batches_in (map (opened_file queue old) files) ≡ readable_of queue old files
unfolding opened_file
batches_in-opened queue old [] = refl
batches_in-opened queue old (f ∷ files) = ap (λ bs. readable_batches (in_queue queue f.0) (bytes_at f.1 old) ++ bs) (batches_in-opened queue old files)

sealed_opened : (queue : LogQueue) (old new : Directory) (files : List (ℕ × Path)) → AllByRecursion (λ f. IsSettledTo f.1 (in_queue queue f.0) (bytes_at f.1 old) new) files
    → AllByRecursion (λ f. IsSealed f.path (in_queue queue f.seq) f.batches new) (map (opened_file queue old) files)
unfolding opened_file
sealed_opened queue old new [] settled = tt
sealed_opened queue old new (f ∷ files) settled = (settled.0.sealed, sealed_opened queue old new files settled.1)

-- Runs.

pub run_from : (here : ℕ → List Path) (seq : ℕ) (files : List (ℕ × Path)) → IsRun here seq files → files ≡ files_from seq (map (λ f. f.1) files)
run_from here seq [] run = refl
run_from here seq (f ∷ files) run = ap (λ k. (k, f.1) ∷ files) run.0 ∙ ap (λ fs. (seq, f.1) ∷ fs) (run_from here (suc seq) files run.2)

pub run_first : (here : ℕ → List Path) (seq : ℕ) (files : List (ℕ × Path)) (d : ℕ × Path) → 0 < length files → IsRun here seq files → (get_or files 0 d).0 ≡ seq
run_first here seq [] d some run = absurd (omega arith)
run_first here seq (f ∷ files) d some run = run.0

-- Files that stand.

all_stand : (new : Directory) (files : List (ℕ × Path)) (last : ℕ × Path) → AllByRecursion (λ f. HasFile new f.1) files → HasFile new last.1 → (q : Path) → Contains (map (λ f. f.1) (files ++ last ∷ [])) q → HasFile new q
all_stand new [] last stand stands q among = elim (among_first last.1 q [] among) [ inl is ↦ subst (HasFile new) is stands | inr rest ↦ absurd (omega (arith, rest.1)) ]
all_stand new (f ∷ files) last stand stands q among = elim (among_first f.1 q (map (λ g. g.1) (files ++ last ∷ [])) among) [
  | inl is ↦ subst (HasFile new) is stand.0
  | inr rest ↦ all_stand new files last stand.1 stands q rest
]

settled_stand : (queue : LogQueue) (old new : Directory) (files : List (ℕ × Path)) → AllByRecursion (λ f. IsSettledTo f.1 (in_queue queue f.0) (bytes_at f.1 old) new) files → AllByRecursion (λ f. HasFile new f.1) files
settled_stand queue old new [] settled = tt
settled_stand queue old new (f ∷ files) settled = (ap is_some settled.0.sealed.stands, settled_stand queue old new files settled.1)

-- Files that are opened.

module _ (queue : LogQueue) (folders : Folders) (front : List (ℕ × Path)) (last : ℕ × Path) (old new : Directory) (is : log_files_of queue folders old ≡ front ++ last ∷ []) (single : AreSingle (all_of folders) queue old) where
  abbrev Here : Directory → ℕ → List Path
  Here n = paths_of (all_of folders) queue n

  pub numbered : (first : ℕ) × AreNumbered (Here old) first (front ++ last ∷ [])
  numbered = let found = numbered_in queue folders old single in (found.0, subst (AreNumbered (Here old) found.0) is found.1)

  last_is : last.0 ≡ numbered.0 + length front
  last_is = run_at (Here old) numbered.0 front last [] numbered.1.run

  last_path : IsPathOf (all_of folders) queue last.0 last.1
  last_path =
      subst (λ k. IsPathOf (all_of folders) queue k last.1) (sym last_is)
      (found_is_path (all_of folders) queue old (numbered.0 + length front) last.1 [] (run_back (Here old) numbered.0 front (last ∷ []) numbered.1.run).1)

  module _ (settled : AllByRecursion (λ f. IsSettledTo f.1 (in_queue queue f.0) (bytes_at f.1 old) new) front) (others : LeavesAllBut (map (λ f. f.1) (front ++ last ∷ [])) old new) (stands : HasFile new last.1) where
    names : (q : Path) → has_file new q ≡ has_file old q
    names =
        run_stays (all_of folders) queue old new numbered.0 (front ++ last ∷ []) numbered.1.run others
        (λ q among stood. all_stand new front last (settled_stand queue old new front settled) stands q among)

    files_opened : HasFilesBefore (all_of folders) queue numbered.0 (map (opened_file queue old) front) last.0 last.1 new
    files_opened = record {
      apart = all_apart folders;
      numbered = subst (λ b. AreNumbered (Here new) numbered.0 (places_of (map (opened_file queue old) front) ++ if_standing b last.0 last.1)) (sym stands)
          (subst (λ fs. AreNumbered (Here new) numbered.0 (fs ++ last ∷ [])) (sym (places_of-opened queue old front))
          (numbered_same (Here old) (Here new) numbered.0 (front ++ last ∷ []) (λ k fits. paths_of-same (all_of folders) queue old new names k) numbered.1));
      next = last_is ∙ ap (λ k. numbered.0 + k) (sym (length-map front (opened_file queue old)));
      fits = omega (arith, last_is, numbered.1.fits, length-append front (last ∷ []));
      path_is = last_path;
      sealed = sealed_opened queue old new front settled;
    }

  -- the file of a pipe's writer
  pub last_of_pipe : (p : PipeState) → p.queue ≡ queue → p.first ≡ (get_or (front ++ last ∷ []) 0 last).0 → sealed_paths p ≡ map (λ f. f.1) front → last_file p ≡ in_queue queue last.0
  last_of_pipe p queue_is first_is sealed_is =
      let at : p.first ≡ numbered.0 = first_is ∙ run_first (Here old) numbered.0 (front ++ last ∷ []) last (omega (arith, length-append front (last ∷ []))) numbered.1.run in
      let seq : last_seq p ≡ last.0 = omega (arith, at, ap length sealed_is, length-sealed_paths p, length-map front (λ (f : ℕ × Path). f.1), last_is) in
      ap (λ q. in_queue q (last_seq p)) queue_is ∙ ap (in_queue queue) seq

  pub last_kept-opened : last_kept (all_of folders) queue old ≡ Some last
  last_kept-opened = ap last_of is ∙ last_behind front last

-- .. with a writer
module _ (queue : LogQueue) (p : PipeState) (folders : Folders) (front : List (ℕ × Path)) (last : ℕ × Path) (old new : Directory) (folders_are : p.folders ≡ folders) (queue_is : p.queue ≡ queue) where
  with_folder : (first : ℕ) (before : List QueueFile) (f : QueueFile) (log : HasLogOf f.path (in_queue queue f.seq) (bytes_at f.path old) p.version p.writer.written new) → p.first ≡ first → sealed_paths p ≡ map (λ f. f.path) before
      → HasFilesBefore (all_of folders) queue first before f.seq f.path new → f.path ≡ p.writer.path → f.batches ≡ readable_batches (in_queue queue f.seq) (bytes_at f.path old) → places_of before ≡ files_from first (map (λ f. f.path) before)
      → (batches : List Batch) → batches ≡ batches_with before f → WritesFiles p batches (synced_to (length batches)) new
  with_folder first before f log first_is sealed_is files path_is holds sealed_are batches batches_are = record {
    dropped = [];
    before = before;
    last = f;
    format = log.format;
    more = length f.batches;
    files = after_own (all_of p.folders) p.queue p.first before f.seq f.path new own;
    log = subst (λ q. HasLog f.path (in_queue q f.seq) log.format f.batches (length f.batches) p.writer.written new) (sym queue_is)
        (subst (λ bs. HasLog f.path (in_queue queue f.seq) log.format bs (length bs) p.writer.written new) (sym holds) log.log);
    sealed_are = sealed_are ∙ ap (λ k. files_from k (map (λ f. f.path) before)) (sym first_is) ∙ ap (files_from p.first) (sym sealed_is);
    path_is = path_is;
    version_is = log.version_is;
    batches_are = batches_are;
    dropped_are = refl;
    few = omega (arith, ap length batches_are, length-append (batches_in before) f.batches);
    alone = λ none. own;
  }
    where
      own : HasFilesBefore (all_of p.folders) p.queue p.first before f.seq f.path new
      own = subst (λ k. HasFilesBefore (all_of p.folders) p.queue k before f.seq f.path new) (sym first_is)
          (subst (λ q. HasFilesBefore (all_of p.folders) q first before f.seq f.path new) (sym queue_is)
          (subst (λ d. HasFilesBefore (all_of d) queue first before f.seq f.path new) (sym folders_are) files))

paths_opened : (queue : LogQueue) (old : Directory) (files : List (ℕ × Path)) → map (λ (f : QueueFile). f.path) (map (opened_file queue old) files) ≡ map (λ f. f.1) files
unfolding opened_file
paths_opened queue old [] = refl
paths_opened queue old (f ∷ files) = ap (λ ps. f.1 ∷ ps) (paths_opened queue old files)

pub opened_queue : (queue : LogQueue) (p : PipeState) (folders : Folders) (front : List (ℕ × Path)) (last : ℕ × Path) (replayed : List ReplayedLog) (old new : Directory) → p.folders ≡ folders → p.queue ≡ queue → p.first ≡ (get_or (front ++ last ∷ []) 0 last).0 → sealed_paths p ≡ map (λ f. f.1) front → p.writer.path ≡ last.1
    → log_files_of queue folders old ≡ front ++ last ∷ [] → AreSingle (all_of folders) queue old → AllZip (λ f r. r.id ≡ in_queue queue f.0) front replayed → AreSettledFrom old new (map (λ f. f.1) front) replayed → HasLogOf last.1 (in_queue queue last.0) (bytes_at last.1 old) p.version p.writer.written new → IsWriterOf p.writer new
    → LeavesAllBut (map (λ f. f.1) (front ++ last ∷ [])) old new → have_places (readable_queue queue folders old) ≡ true → (HasFileFor folders old → ⊥) → (queue ≡ Rewrite → p.capacity ≡ 0) → HasQueueOf queue p folders (readable_queue queue folders old) (synced_to (length (readable_queue queue folders old))) new
unfolding opened_file
opened_queue queue p folders front last replayed old new folders_are queue_is first_is sealed_is path_is is single ids settled log writes others places none alone = record {
  folders_are = folders_are;
  queue_is = queue_is;
  clear = still_clear_but queue folders old new (subst (λ fs. LeavesAllBut (map (λ (f : ℕ × Path). f.1) fs) old new) (sym is) others) none;
  writes = ∣ writes ∣₁;
  places = places;
  files = ∣
      with_folder queue p folders front last old new folders_are queue_is run.0 before (opened_file queue old last) log
      (first_is ∙ run_first (paths_of (all_of folders) queue old) run.0 (front ++ last ∷ []) last (omega (arith, length-append front (last ∷ []))) run.1.run)
      (sealed_is ∙ sym (paths_opened queue old front))
      (files_opened queue folders front last old new is single each others (ap is_some log.log.stands))
      (sym path_is)
      refl
      (places_of-opened queue old front ∙ run_from (paths_of (all_of folders) queue old) run.0 front front_run ∙ ap (files_from run.0) (sym (paths_opened queue old front)))
      (readable_queue queue folders old)
      (ap (readable_of queue old) is ∙ flat_map-append (λ (f : ℕ × Path). readable_batches (in_queue queue f.0) (bytes_at f.1 old)) front (last ∷ [])
      ∙ ap (λ bs. bs ++ readable_of queue old (last ∷ [])) (sym (batches_in-opened queue old front))
      ∙ ap (λ bs. batches_in before ++ bs) (append-nil (readable_batches (in_queue queue last.0) (bytes_at last.1 old)))) ∣₁;
  alone = alone;
}
  where
    before : List QueueFile
    before = map (opened_file queue old) front

    run : (first : ℕ) × AreNumbered (paths_of (all_of folders) queue old) first (front ++ last ∷ [])
    run = numbered queue folders front last old new is single

    front_run : IsRun (paths_of (all_of folders) queue old) run.0 front
    front_run = run_front (paths_of (all_of folders) queue old) run.0 front (last ∷ []) run.1.run

    each : AllByRecursion (λ f. IsSettledTo f.1 (in_queue queue f.0) (bytes_at f.1 old) new) front
    each = each_file queue (λ path id. IsSettledTo path id (bytes_at path old) new) front replayed ids settled

-- A first file.

pub begun_queue : (queue : LogQueue) (p : PipeState) (folders : Folders) (folder : Path) → Contains (all_of folders) folder → (old new : Directory) → p.folders ≡ folders → p.queue ≡ queue → p.first ≡ 1 → p.sealed ≡ [] → p.writer.path ≡ path_of folder (first_file_of queue)
    → log_files_of queue folders old ≡ [] → HasLogOf (path_of folder (first_file_of queue)) (first_file_of queue) [] p.version p.writer.written new → IsWriterOf p.writer new
    → LeavesOthers (path_of folder (first_file_of queue)) old new → (HasFileFor folders old → ⊥) → (queue ≡ Rewrite → p.capacity ≡ 0) → HasQueueOf queue p folders (readable_queue queue folders old) (synced_to (length (readable_queue queue folders old))) new
begun_queue queue p folders folder among old new folders_are queue_is first_is sealed_is path_is empty log writes others none alone = record {
  folders_are = folders_are;
  queue_is = queue_is;
  clear = still_free folders old new (λ f in_all not_log unreserved. others f (λ is. not_log (named_log folders queue 1 f one_fits (folder, among, is)))) none;
  writes = ∣ writes ∣₁;
  places = ap have_places nothing;
  files = ∣
      with_folder queue p folders [] (1, path) old new folders_are queue_is 1 [] (record { seq = 1; path = path; batches = [] }) (subst (λ bytes. HasLogOf path (first_file_of queue) bytes p.version p.writer.written new) (sym no_bytes) log) first_is (ap (map (λ f. f.path)) sealed_is)
      (first_files queue folders folder among old new empty others) (sym path_is) (sym (ap (readable_batches (first_file_of queue)) no_bytes ∙ nothing_is_read (first_file_of queue))) refl (readable_queue queue folders old) nothing ∣₁;
  alone = alone;
}
  where
    path : Path
    path = path_of folder (first_file_of queue)

    nothing : readable_queue queue folders old ≡ []
    nothing = ap (readable_of queue old) empty

    no_bytes : bytes_at path old ≡ []
    no_bytes = ap bytes_of (no_first_file queue folders folder among old empty)

-- The files that stand are the pipe's own.

pub opened_span : (queue : LogQueue) (p : PipeState) (folders : Folders) (front : List (ℕ × Path)) (last : ℕ × Path) (replayed : List ReplayedLog) (old new : Directory) → p.queue ≡ queue → p.first ≡ (get_or (front ++ last ∷ []) 0 last).0 → sealed_paths p ≡ map (λ f. f.1) front
    → log_files_of queue folders old ≡ front ++ last ∷ [] → AreSingle (all_of folders) queue old → AllZip (λ f r. r.id ≡ in_queue queue f.0) front replayed → AreSettledFrom old new (map (λ f. f.1) front) replayed → HasFile new last.1
    → LeavesAllBut (map (λ f. f.1) (front ++ last ∷ [])) old new → IsQueueSpan queue folders new (p.first, last_seq p)
opened_span queue p folders front last replayed old new queue_is first_is sealed_is is single ids settled stands others =
    let run = numbered queue folders front last old new is single in
    let at : p.first ≡ run.0 = first_is ∙ run_first (paths_of (all_of folders) queue old) run.0 (front ++ last ∷ []) last (omega (arith, length-append front (last ∷ []))) run.1.run in
    let seq : last_seq p ≡ last.0 = ap (λ (i : FileId). i.seq) (last_of_pipe queue folders front last old new is single p queue_is first_is sealed_is) in
    let each = each_file queue (λ path id. IsSettledTo path id (bytes_at path old) new) front replayed ids settled in
    let span = span_kept (all_of folders) queue run.0 (map (opened_file queue old) front) last.0 last.1 new (files_opened queue folders front last old new is single each others stands) stands in
    (span.0 ∙ ap Some (sym at), span.1 ∙ ap Some (sym seq))

pub begun_span : (queue : LogQueue) (p : PipeState) (folders : Folders) (folder : Path) → Contains (all_of folders) folder → (old new : Directory) → p.first ≡ 1 → p.sealed ≡ [] → log_files_of queue folders old ≡ [] → HasFile new (path_of folder (first_file_of queue))
    → LeavesOthers (path_of folder (first_file_of queue)) old new → IsQueueSpan queue folders new (p.first, last_seq p)
begun_span queue p folders folder among old new first_is sealed_is empty stands others =
    let span = span_kept (all_of folders) queue 1 [] 1 (path_of folder (first_file_of queue)) new (first_files queue folders folder among old new empty others) stands in
    let last : 1 ≡ last_seq p = omega (arith, first_is, ap length sealed_is) in
    (span.0 ∙ ap Some (sym first_is), span.1 ∙ ap Some last)

-- Places.

both_places : (x y : List Batch) → have_places x ≡ true → have_places y ≡ true → have_places (x ++ y) ≡ true
both_places [] y first second = second
both_places (b ∷ x) y first second = by_one (has_places b) (λ rest. both_places x y rest second) first
  where
    by_one : (one : Bool) → (have_places x ≡ true → have_places (x ++ y) ≡ true) → (one && have_places x) ≡ true → (one && have_places (x ++ y)) ≡ true
    by_one true more rest = more rest
    by_one false more rest = let no : false ≡ true = rest in absurd cc

files_places : (queue : LogQueue) (mode : RecoveryMode) (n : Directory) (files : List (ℕ × Path)) → EachFile (IsOpenableFile mode queue (λ path. bytes_at path n)) files → have_places (readable_of queue n files) ≡ true
files_places queue mode n [] each = refl
files_places queue mode n (f ∷ files) each = both_places (readable_batches (in_queue queue f.0) (bytes_at f.1 n)) (readable_of queue n files) each.0.places (files_places queue mode n files each.1)

pub openable_places : (queue : LogQueue) (mode : RecoveryMode) (folders : Folders) (n : Directory) → IsOpenableOf queue mode folders n → have_places (readable_queue queue folders n) ≡ true
openable_places queue mode folders n = files_places queue mode n (log_files_of queue folders n)

-- What an opening left of each file.

kept_bytes : (id : FileId) (version : Version) (path : Path) (old : Directory) → HasFile old path → bytes_kept (bytes_at path old) (scan_file id (bytes_at path old)) ≡ opened_bytes id version (file_at old path)
kept_bytes id version path old stands = by_file (file_at old path) stands
  where
    by_file : (found : Option File) → is_some found ≡ true → bytes_kept (bytes_of found) (scan_file id (bytes_of found)) ≡ opened_bytes id version found
    by_file None none = let no : false ≡ true = none in absurd cc
    by_file (Some file) there = refl

durable_in : (queue : LogQueue) (version : Version) (old new : Directory) (files : List (ℕ × Path)) → AllByRecursion (λ f. HasFile old f.1) files → AllByRecursion (λ f. let b = bytes_at f.1 old in IsDurable f.1 (bytes_kept b (scan_file (in_queue queue f.0) b)) new) files
    → AllByRecursion (λ f. IsDurable f.1 (opened_bytes (in_queue queue f.0) version (file_at old f.1)) new) files
durable_in queue version old new [] stand durable = tt
durable_in queue version old new (f ∷ files) stand durable = (subst (λ b. IsDurable f.1 b new) (kept_bytes (in_queue queue f.0) version f.1 old stand.0) durable.0, durable_in queue version old new files stand.1 durable.1)

run_stand : (queue : LogQueue) (folders : List Path) (n : Directory) (seq : ℕ) (files : List (ℕ × Path)) → IsRun (paths_of folders queue n) seq files → AllByRecursion (λ f. HasFile n f.1) files
run_stand queue folders n seq [] run = tt
run_stand queue folders n seq (f ∷ files) run = (found_stands folders queue n seq f.1 [] run.1, run_stand queue folders n (suc seq) files run.2)

settled_durable : (queue : LogQueue) (old new : Directory) (files : List (ℕ × Path)) (last : ℕ × Path) → AllByRecursion (λ f. IsSettledTo f.1 (in_queue queue f.0) (bytes_at f.1 old) new) files → (let b = bytes_at last.1 old in IsDurable last.1 (bytes_kept b (scan_file (in_queue queue last.0) b)) new)
    → AllByRecursion (λ f. let b = bytes_at f.1 old in IsDurable f.1 (bytes_kept b (scan_file (in_queue queue f.0) b)) new) (files ++ last ∷ [])
settled_durable queue old new [] last settled durable = (durable, tt)
settled_durable queue old new (f ∷ files) last settled durable = (settled.0.durable, settled_durable queue old new files last settled.1 durable)

pub opened_in : (queue : LogQueue) (version : Version) (folders : Folders) (front : List (ℕ × Path)) (last : ℕ × Path) (replayed : List ReplayedLog) (old new : Directory) → log_files_of queue folders old ≡ front ++ last ∷ [] → AreSingle (all_of folders) queue old → AllZip (λ f r. r.id ≡ in_queue queue f.0) front replayed
    → AreSettledFrom old new (map (λ f. f.1) front) replayed → (let b = bytes_at last.1 old in IsDurable last.1 (bytes_kept b (scan_file (in_queue queue last.0) b)) new) → IsOpenedOf queue version folders old new
opened_in queue version folders front last replayed old new is single ids settled durable =
    let run = numbered queue folders front last old new is single in
    let each = each_file queue (λ path id. IsSettledTo path id (bytes_at path old) new) front replayed ids settled in
    record {
      kept = subst (AllByRecursion (λ f. IsDurable f.1 (opened_bytes (in_queue queue f.0) version (file_at old f.1)) new)) (sym is)
          (durable_in queue version old new (front ++ last ∷ []) (run_stand queue (all_of folders) old run.0 (front ++ last ∷ []) run.1.run) (settled_durable queue old new front last each durable));
      begun = λ none. absurd (omega (arith, ap length none, ap length is, length-append front (last ∷ [])));
    }

pub begun_in : (queue : LogQueue) (version : Version) (folders : Folders) (folder : Path) → Contains (all_of folders) folder → (old new : Directory) → log_files_of queue folders old ≡ [] → IsDurable (path_of folder (first_file_of queue)) (header_bytes (format_in version)) new → IsOpenedOf queue version folders old new
begun_in queue version folders folder among old new empty durable = record {
  kept = subst (AllByRecursion (λ f. IsDurable f.1 (opened_bytes (in_queue queue f.0) version (file_at old f.1)) new)) (sym empty) tt;
  begun = λ none. ((1, path_of folder (first_file_of queue)), first_place queue (all_of folders) folder among, durable);
}

-- What blocks hold.

settled_blocks : (queue : LogQueue) (old new : Directory) (blocks : Blocks) (files : List (ℕ × Path)) → AllByRecursion (λ f. IsSettledTo f.1 (in_queue queue f.0) (bytes_at f.1 old) new) files
    → AllByRecursion (λ f. AreBlocksOf (in_queue queue f.0) (bytes_at f.1 new) blocks) files → HaveBlocks queue old files blocks
settled_blocks queue old new blocks [] settled have = tt
settled_blocks queue old new blocks (f ∷ files) settled have =
    let id = in_queue queue f.0 in
    let kept : bytes_at f.1 new ≡ bytes_kept (bytes_at f.1 old) (scan_file id (bytes_at f.1 old)) = ap bytes_of settled.0.durable.stands ∙ settled.0.durable.now in
    (kept_blocks id (bytes_at f.1 old) blocks (subst (λ b. AreBlocksOf id b blocks) kept have.0), settled_blocks queue old new blocks files settled.1 have.1)

-- blocks of what a pipe has written are those of what could be read when it was opened
pub opened_blocks : (queue : LogQueue) (p : PipeState) (folders : Folders) (front : List (ℕ × Path)) (last : ℕ × Path) (replayed : List ReplayedLog) (old new : Directory) → p.queue ≡ queue → p.first ≡ (get_or (front ++ last ∷ []) 0 last).0 → sealed_paths p ≡ map (λ f. f.1) front
    → log_files_of queue folders old ≡ front ++ last ∷ [] → AreSingle (all_of folders) queue old → AllZip (λ f r. r.id ≡ in_queue queue f.0) front replayed → AreSettledFrom old new (map (λ f. f.1) front) replayed
    → (let b = bytes_at last.1 old in written_bytes p.writer new ≡ bytes_kept b (scan_file (in_queue queue last.0) b)) → (blocks : Blocks) → HasBlocks p new blocks → HaveBlocks queue old (log_files_of queue folders old) blocks
opened_blocks queue p folders front last replayed old new queue_is first_is sealed_is is single ids settled written blocks have =
    let run = numbered queue folders front last old new is single in
    let here = paths_of (all_of folders) queue old in
    let id = in_queue queue last.0 in
    let front_run = run_front here run.0 front (last ∷ []) run.1.run in
    let at : p.first ≡ run.0 = first_is ∙ run_first here run.0 (front ++ last ∷ []) last (omega (arith, length-append front (last ∷ []))) run.1.run in
    let files : files_from p.first (sealed_paths p) ≡ front = ap (λ k. files_from k (sealed_paths p)) at ∙ ap (files_from run.0) sealed_is ∙ sym (run_from here run.0 front front_run) in
    let before : AllByRecursion (λ (f : ℕ × Path). AreBlocksOf (in_queue queue f.0) (bytes_at f.1 new) blocks) front =
    subst (λ q. AllByRecursion (λ (f : ℕ × Path). AreBlocksOf (in_queue q f.0) (bytes_at f.1 new) blocks) front) queue_is
    (subst (AllByRecursion (λ (f : ℕ × Path). AreBlocksOf (in_queue p.queue f.0) (bytes_at f.1 new) blocks)) files have.0) in
    let end = subst (λ b. AreBlocksOf id b blocks) written (subst (λ i. AreBlocksOf i (written_bytes p.writer new) blocks) (last_of_pipe queue folders front last old new is single p queue_is first_is sealed_is) have.1) in
    let each = each_file queue (λ path i. IsSettledTo path i (bytes_at path old) new) front replayed ids settled in
    subst (λ fs. HaveBlocks queue old fs blocks) (sym is)
    (all_push (λ (f : ℕ × Path). let b = bytes_at f.1 old in AreBlocksOf (in_queue queue f.0) (take (end_of_scan (in_queue queue f.0) b) b) blocks) front last
    (settled_blocks queue old new blocks front each before) (kept_blocks id (bytes_at last.1 old) blocks end))
