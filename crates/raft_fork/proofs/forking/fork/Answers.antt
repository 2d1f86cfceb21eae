use Rattle.std.proofs.Common.{◌≡◌, ◌∙◌, None, map, ap, inl, sym, subst}
use Rattle.std.specs.String.{string_bytes}
use Rattle.std.proofs.lemmas.Result.{err_from_is_err_and}
use Rattle.raft_env.specs.Directory.{Directory, file_at}
use Rattle.raft_env.proofs.MomentsLemmas.{moves_then_reads, moves_weaker}
use Rattle.raft_config.specs.Folders.{folders_in}
use Rattle.raft_fork.specs.Fork.{CanBeCopied, all_sources_in, copies_in, mark_in, source_of, standing}
use Rattle.raft_fork.specs.Refused.{IsMarkedRefusal, IsSourceRefusal}
use Rattle.raft_fork.proofs.ForkLemmas.{HasFound, copies_before, forking_moves, is_fork, ready, still_unmarked}
use Rattle.raft_fork.proofs.RefusedLemmas.{fork_marked, fork_source, fork_target}
use Rattle.raft_pipes.proofs.PipeDoubtLemmas.{fewer_then}
use Rattle.raft_fork.proofs.forking.fork.Goals as goal

pub returns-in_err-make_target-clause-any_moment : goal.returns-in_err-make_target-clause-any_moment
returns-in_err-make_target-clause-any_moment g c = moves_weaker (λ n all. inl all) c.make_target.ensures.any_moment

pub returns-in_err-make_target-clause-cause : goal.returns-in_err-make_target-clause-cause
returns-in_err-make_target-clause-cause g c =
    let f = g.F.FileSystem in
    let p = err_from_is_err_and c.from_residual-in_err-make_target.result c.from_residual-in_err-make_target.ensures.1 in
    rw (p.1, p.2)
    (fork_target c.args.source.now c.args.target.now (f.directory c.args.file_system.now) (f.refusals_of c.args.file_system.now) (f.refusals_of c.make_target.new.file_system) c.in_err-make_target.field-0.0 c.in_ok-check_settings.ensures.ok c.in_err-make_target.ensures.cause)

pub returns-in_err-files-clause-any_moment : goal.returns-in_err-files-clause-any_moment
returns-in_err-files-clause-any_moment g c = moves_then_reads (moves_weaker (λ n all. inl all) c.make_target.ensures.any_moment) c.find_sources.ensures.unchanged

pub returns-in_err-files-clause-cause : goal.returns-in_err-files-clause-cause
returns-in_err-files-clause-cause g c =
    let f = g.F.FileSystem in
    let mid = f.directory c.make_target.new.file_system in
    let p = err_from_is_err_and c.from_residual-in_err-files.result c.from_residual-in_err-files.ensures.1 in
    let e = c.in_err-files.field-0.0 in
    let made = f.refusals_of c.make_target.new.file_system in
    let new = f.refusals_of c.find_sources.new.file_system in
    let refused = subst (λ there. IsSourceRefusal there mid made new e) (ap (map string_bytes) c.deref.ensures.value ∙ c.in_ok-folders.ensures.value) c.in_err-files.ensures.cause in
    rw (p.1, p.2)
    (fork_source c.args.source.now c.args.target.now (f.directory c.args.file_system.now) (f.refusals_of c.args.file_system.now) new mid made e c.in_ok-check_settings.ensures.ok c.in_ok-make_target.ensures.ok c.make_target.ensures.others c.make_target.ensures.any_moment.no_fewer refused)

pub copy_marked-requires-clause-can : goal.copy_marked-requires-clause-can
copy_marked-requires-clause-can g c κs within =
    let f = g.F.FileSystem in
    let target = c.args.target.now in
    let mid = f.directory c.make_target.new.file_system in
    let stand = ap (map string_bytes) c.deref.ensures.value ∙ c.in_ok-folders.ensures.value in
    subst (λ m. CanBeCopied target (map source_of c.deref-2.result.now) m) (sym c.find_sources.ensures.unchanged.same_files)
    (subst (λ given. CanBeCopied target (map source_of given) mid) (sym c.deref-2.ensures.value)
    (ready (folders_in c.args.source.now) target (f.directory c.args.file_system.now) mid c.make_target.ensures.others (map string_bytes c.deref.result.now) stand (map source_of c.in_ok-files.files.items) c.in_ok-files.ensures.value c.in_ok-make_target.ensures.ok c.in_ok-files.ensures.single))

pub copy_marked-requires-clause-unmarked : goal.copy_marked-requires-clause-unmarked
copy_marked-requires-clause-unmarked g c κs within =
    let f = g.F.FileSystem in
    let target = c.args.target.now in
    let mid = f.directory c.make_target.new.file_system in
    let stand = ap (map string_bytes) c.deref.ensures.value ∙ c.in_ok-folders.ensures.value in
    subst (λ m. file_at m (mark_in target) ≡ None) (sym c.find_sources.ensures.unchanged.same_files)
    (still_unmarked (folders_in c.args.source.now) target (f.directory c.args.file_system.now) mid c.make_target.ensures.others (map string_bytes c.deref.result.now) stand (map source_of c.in_ok-files.files.items) c.in_ok-files.ensures.value c.in_ok-make_target.ensures.ok)

pub returns-in_err-copied-clause-any_moment : goal.returns-in_err-copied-clause-any_moment
returns-in_err-copied-clause-any_moment g c =
    let f = g.F.FileSystem in
    let there = map string_bytes c.deref.result.now in
    let files = map source_of c.in_ok-files.files.items in
    let has : HasFound (folders_in c.args.source.now) c.args.target.now there files (f.directory c.args.file_system.now) (f.directory c.make_target.new.file_system) = record {
      others = c.make_target.ensures.others;
      free = c.in_ok-make_target.ensures.ok;
      made = c.in_ok-make_target.ensures.folder;
      stand = ap (map string_bytes) c.deref.ensures.value ∙ c.in_ok-folders.ensures.value;
      are = c.in_ok-files.ensures.value;
      single = c.in_ok-files.ensures.single;
    } in
    forking_moves (folders_in c.args.source.now) c.args.target.now there files (map source_of c.deref-2.result.now) has (ap (map source_of) c.deref-2.ensures.value) c.make_target.ensures.any_moment c.find_sources.ensures.unchanged c.copy_marked.ensures.any_moment

pub returns-in_err-copied-clause-cause : goal.returns-in_err-copied-clause-cause
returns-in_err-copied-clause-cause g c =
    let f = g.F.FileSystem in
    let source = c.args.source.now in
    let target = c.args.target.now in
    let n = f.directory c.args.file_system.now in
    let mid = f.directory c.make_target.new.file_system in
    let p = err_from_is_err_and c.from_residual-in_err-copied.result c.from_residual-in_err-copied.ensures.1 in
    let e = c.in_err-copied.field-0.0 in
    let found = f.refusals_of c.find_sources.new.file_system in
    let new = f.refusals_of c.copy_marked.new.file_system in
    let copies : map source_of c.deref-2.result.now ≡ all_sources_in (standing (folders_in source) n) mid = ap (map source_of) c.deref-2.ensures.value ∙ c.in_ok-files.ensures.value ∙ ap (λ there. all_sources_in there mid) (ap (map string_bytes) c.deref.ensures.value ∙ c.in_ok-folders.ensures.value) in
    let refused = subst (λ files. IsMarkedRefusal target files found new e) copies c.in_err-copied.ensures.cause in
    rw (p.1, p.2)
    (fork_marked source target n (f.refusals_of c.args.file_system.now) new mid found e c.make_target.ensures.others (fewer_then _ _ _ c.make_target.ensures.any_moment.no_fewer c.find_sources.ensures.unchanged.no_fewer) refused)

pub returns-clause-ok : goal.returns-clause-ok
returns-clause-ok g c =
    let f = g.F.FileSystem in
    let target = c.args.target.now in
    let mid = f.directory c.make_target.new.file_system in
    let files = map source_of c.in_ok-files.files.items in
    let after = f.directory c.copy_marked.new.file_system in
    let stand = ap (map string_bytes) c.deref.ensures.value ∙ c.in_ok-folders.ensures.value in
    let same = c.find_sources.ensures.unchanged.same_files in
    let all = rw (same, c.deref-2.ensures.value) at c.in_ok-copied.ensures.ok in
    is_fork (folders_in c.args.source.now) target (f.directory c.args.file_system.now) mid c.make_target.ensures.others (map string_bytes c.deref.result.now) stand files c.in_ok-files.ensures.value after c.in_ok-make_target.ensures.ok c.in_ok-make_target.ensures.folder all.folders c.in_ok-files.ensures.single all.copied all.others

pub returns-clause-copies : goal.returns-clause-copies
returns-clause-copies g c =
    let f = g.F.FileSystem in
    let target = c.args.target.now in
    let stand = ap (map string_bytes) c.deref.ensures.value ∙ c.in_ok-folders.ensures.value in
    c.in_ok-copied.ensures.copies ∙ ap (λ given. copies_in target (map source_of given)) c.deref-2.ensures.value
    ∙ copies_before (folders_in c.args.source.now) target (f.directory c.args.file_system.now) (f.directory c.make_target.new.file_system) c.make_target.ensures.others (map string_bytes c.deref.result.now) stand (map source_of c.in_ok-files.files.items) c.in_ok-files.ensures.value

pub returns-clause-any_moment : goal.returns-clause-any_moment
returns-clause-any_moment g c =
    let f = g.F.FileSystem in
    let there = map string_bytes c.deref.result.now in
    let files = map source_of c.in_ok-files.files.items in
    let has : HasFound (folders_in c.args.source.now) c.args.target.now there files (f.directory c.args.file_system.now) (f.directory c.make_target.new.file_system) = record {
      others = c.make_target.ensures.others;
      free = c.in_ok-make_target.ensures.ok;
      made = c.in_ok-make_target.ensures.folder;
      stand = ap (map string_bytes) c.deref.ensures.value ∙ c.in_ok-folders.ensures.value;
      are = c.in_ok-files.ensures.value;
      single = c.in_ok-files.ensures.single;
    } in
    forking_moves (folders_in c.args.source.now) c.args.target.now there files (map source_of c.deref-2.result.now) has (ap (map source_of) c.deref-2.ensures.value) c.make_target.ensures.any_moment c.find_sources.ensures.unchanged c.copy_marked.ensures.any_moment
