use Rattle.std.proofs.Common.{◌≡◌, ◌∙◌, ◌+◌, ◌<◌, ◌++◌, ◌∷◌, ℕ, List, append_assoc, append-nil, ap, drop, get_or, length, map, subst, sym}
use Rattle.std.proofs.lemmas.List.{at_drop_all, at_drop_more}
use Rattle.std.specs.Borrow.{Bor}
use Rattle.raft_base.specs.declared.pipe_log.FileId.{FileId}
use Rattle.raft_base.specs.declared.pipe_log.LogQueue.{LogQueue}
use Rattle.raft_env.specs.Directory.{Directory, Path}
use Rattle.raft_env.proofs.MomentsLemmas.{reads_then}
use Rattle.raft_dump.specs.LogFiles.{place_of}
use Rattle.raft_inspect.specs.Listed.{all_there, those_there}
use Rattle.raft_inspect.proofs.queue_files.files_there.Goals as goal

abbrev Places : Type 0
Places = List (FileId × Path)

abbrev Folder : Type 0
Folder = Bor (List ℕ)

-- those of one folder more
with_folder : (queue : LogQueue) (n : Directory) (folders : List Folder) (place : ℕ) (folder : Folder) (before now : Places)
    → place < length folders → folder ≡ get_or folders place folder
    → before ++ all_there queue n (drop place folders) ≡ all_there queue n folders
    → now ≡ before ++ those_there queue n folder.now → now ++ all_there queue n (drop (place + 1) folders) ≡ all_there queue n folders
with_folder queue n folders place folder before now within is was grown =
    let rest : List Folder = drop (place + 1) folders in
    ap (λ (fs : Places). fs ++ all_there queue n rest) grown
    ∙ append_assoc before (those_there queue n folder.now) (all_there queue n rest)
    ∙ ap (λ (fs : Places). before ++ fs) (
    ap (λ (f : Folder). all_there queue n (f ∷ rest)) is
    ∙ sym (at_drop_more (all_there queue n) folders place folder within)
    )
    ∙ was

pub folders-preserved : goal.folders-preserved
folders-preserved g c =
    let n = g.F.FileSystem.directory c.args.file_system.now in
    let folder = c.in-Some.folder.now in
    let before = map place_of c.folders.files.items in
    let now = map place_of c.add_there.new.files.items in
    let read = c.in-Some.ensures.lookup.3 in
    let so_far = c.folders.invariant in
    let added = subst (λ (m : Directory). now ≡ before ++ those_there c.args.queue m folder.now) so_far.0.same_files c.in_ok-add_there.ensures.value in (
      reads_then so_far.0 c.in_ok-add_there.ensures.unchanged,
      with_folder c.args.queue n c.args.folders.now c.folders.place folder before now read.0 (read.1 folder) so_far.1 added,
    )

pub returns : goal.returns
returns g c =
    let n = g.F.FileSystem.directory c.args.file_system.now in
    let files = map place_of c.folders.files.items in
    let end = at_drop_all (all_there c.args.queue n) c.args.folders.now c.folders.place c.in_default.ensures.lookup.3 in
    record {
      value = sym (append-nil files) ∙ ap (λ (fs : Places). files ++ fs) (sym end) ∙ c.folders.invariant.1;
      unchanged = c.folders.invariant.0;
      cause = tt;
    }
