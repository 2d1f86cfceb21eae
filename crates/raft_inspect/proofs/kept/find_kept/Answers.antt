use Rattle.std.proofs.Common.{◌≡◌, ◌∙◌, ℕ, List, map, true, ap, refl, subst, sym}
use Rattle.std.specs.List.{list_all}
use Rattle.std.specs.String.{string_bytes}
use Rattle.raft_base.specs.declared.pipe_log.FileId.{FileId}
use Rattle.raft_env.specs.Directory.{Directory, Path}
use Rattle.raft_env.proofs.MomentsLemmas.{reads_then}
use Rattle.raft_dump.specs.declared.files.LogFile.{LogFile}
use Rattle.raft_pipes.specs.Numbered.{StandAlone, in_queue, paths_of}
use Rattle.raft_pipes.specs.declared.file_list.FoundFile.{FoundFile}
use Rattle.raft_pipes.proofs.OnlyLemmas.{alone_if, only_if}
use Rattle.raft_inspect.specs.Checks.{AreChecksOf}
use Rattle.raft_inspect.proofs.kept.find_kept.Goals as goal

pub returns : goal.returns
returns g c =
    let n = g.F.FileSystem.directory c.args.file_system.now in
    let queue = c.args.queue in
    let here = paths_of (map string_bytes c.args.folders.now) queue n in
    let listed = c.in_ok-listed.listed.items in
    let files = c.in_ok-files.files.items in
    let checks = c.in_ok-checks.checks.items in
    let only : c.are_only-are_single.result ≡ list_all (λ f. f.is_only) listed = c.are_only-are_single.ensures.value ∙ ap (λ (xs : List FoundFile). list_all (λ f. f.is_only) xs) c.deref.ensures.value in
    record {
      value = record {
        queue_is = refl;
        all = refl;
        files = c.in_ok-files.ensures.value ∙ ap (λ (fs : List (ℕ × Path)). map (λ f. (in_queue queue f.0, f.1)) fs) c.in_ok-listed.ensures.value;
        checks = subst (λ (fs : List LogFile). AreChecksOf n fs checks) c.deref-2.ensures.value
            (subst (λ (m : Directory). AreChecksOf m c.deref-2.result.now checks) c.in_ok-listed.ensures.unchanged.same_files c.in_ok-checks.ensures.value);
        single = (
          λ is. subst (StandAlone here) c.in_ok-listed.ensures.value (alone_if here listed c.in_ok-listed.ensures.alone (sym only ∙ is)),
          λ single. only ∙ only_if here listed c.in_ok-listed.ensures.alone (subst (StandAlone here) (sym c.in_ok-listed.ensures.value) single),
        );
      };
      unchanged = reads_then c.in_ok-listed.ensures.unchanged c.in_ok-checks.ensures.unchanged;
      cause = tt;
    }
