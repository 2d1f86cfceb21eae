use Rattle.std.proofs.Common.{◌≡◌, ◌∙◌, ap, map, subst, sym}
use Rattle.raft_base.specs.declared.pipe_log.LogQueue.TheVariants.{Append}
use Rattle.raft_env.specs.Directory.{Directory}
use Rattle.raft_files.specs.Writer.{bytes_at}
use Rattle.raft_pipes.specs.FileList.{place_of}
use Rattle.raft_opening.specs.Files.{AreReplaysOf}
use Rattle.raft_pipes.specs.Files.{EachFile, IsOpenableFile}
use Rattle.raft_pipes.specs.Folder.{log_files_of}
use Rattle.raft_config.specs.Folders.{Folders, all_of}
use Rattle.raft_pipes.specs.Numbered.{AreSingle}
use Rattle.raft_opening.proofs.OpenedQueueLemmas.{openable_places}
use Rattle.raft_queues.proofs.DualLemmas.{append_differs}
use Rattle.raft_queue_scenarios.proofs.queues.opened.Goals as goal

pub settle_or_begin-requires-clause-read : goal.settle_or_begin-requires-clause-read
settle_or_begin-requires-clause-read g c _ _ =
    let folders : Folders = c.in_ok-folders.folders in
    let mode = c.in_ok-config.config.recovery_mode in
    let replayed = c.in_ok-replayed.replayed.items in
    let made = g.F.FileSystem.directory c.make.new.file_system in
    let read = g.F.FileSystem.directory c.read_files.new.file_system in
    let still : read ≡ made = c.read_files.ensures.unchanged.same_files ∙ c.find.ensures.unchanged.same_files in
    let found_is = ap (map place_of) c.deref.ensures.value ∙ c.in_ok-files.ensures.value in
    let openable = subst (λ (n : Directory). EachFile (IsOpenableFile mode Append (λ path. bytes_at path n)) (map place_of c.deref.result.now)) (sym c.read_files.ensures.unchanged.same_files) c.in_ok-replayed.ensures.openable in
    let before = subst (EachFile (IsOpenableFile mode Append (λ path. bytes_at path read))) (found_is ∙ ap (λ (n : Directory). log_files_of Append folders n) (sym still)) openable in
    let replays = subst (λ (n : Directory). AreReplaysOf Append n (map place_of c.deref.result.now) replayed) (sym c.read_files.ensures.unchanged.same_files) c.in_ok-replayed.ensures.value in
    record {
      files = c.in_ok-files.ensures.value ∙ ap (λ (n : Directory). log_files_of Append folders n) (sym still);
      single = subst (λ (n : Directory). AreSingle (all_of folders) Append n) (sym still) c.in_ok-files.ensures.single;
      places = openable_places Append mode folders read before;
      replays = λ some. subst (λ fs. AreReplaysOf Append read (map place_of fs) replayed) c.deref.ensures.value replays;
    }

pub settle_or_begin-requires-clause-alone : goal.settle_or_begin-requires-clause-alone
settle_or_begin-requires-clause-alone g c _ _ = λ is. absurd (append_differs is)
