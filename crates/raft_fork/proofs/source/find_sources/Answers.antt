use Rattle.std.proofs.Common.{◌∙◌, ◌++◌, List, ap, map, subst}
use Rattle.std.specs.String.{string_bytes}
use Rattle.std.proofs.lemmas.Result.{err_from_is_err_and}
use Rattle.raft_base.specs.declared.pipe_log.LogQueue.TheVariants.{Append, Rewrite}
use Rattle.raft_env.specs.Directory.{Directory}
use Rattle.raft_env.proofs.MomentsLemmas.{reads_then}
use Rattle.raft_pipes.specs.Numbered.{AreSingle}
use Rattle.raft_fork.specs.Fork.{Source, source_of, sources_in}
use Rattle.raft_fork.specs.declared.source.SourceFile.{SourceFile}
use Rattle.raft_fork.proofs.RefusedLemmas.{later_source, single_both}
use Rattle.raft_fork.proofs.source.find_sources.Goals as goal

pub returns-in_err-add_queue : goal.returns-in_err-add_queue
returns-in_err-add_queue g c =
    let p = err_from_is_err_and c.from_residual.result c.from_residual.ensures.1 in
    rw (p.1, p.2) (record { value = tt; single = tt; unchanged = c.add_queue.ensures.unchanged; cause = c.in_err-add_queue.ensures.cause })

pub returns-in_err-add_queue-2 : goal.returns-in_err-add_queue-2
returns-in_err-add_queue-2 g c =
    let f = g.F.FileSystem in
    let n = f.directory c.args.file_system.now in
    let old = f.refusals_of c.args.file_system.now in
    let mid = f.refusals_of c.add_queue.new.file_system in
    let new = f.refusals_of c.add_queue-2.new.file_system in
    let there = map string_bytes c.args.folders.now in
    let p = err_from_is_err_and c.from_residual-in_err-add_queue-2.result c.from_residual-in_err-add_queue-2.ensures.1 in
    let refused = rw c.in_ok-add_queue.ensures.unchanged.same_files at c.in_err-add_queue-2.ensures.cause in
    rw (p.1, p.2) (record {
      value = tt;
      single = tt;
      unchanged = reads_then c.add_queue.ensures.unchanged c.add_queue-2.ensures.unchanged;
      cause = later_source there n old mid new c.in_err-add_queue-2.field-0.0 c.add_queue.ensures.unchanged.no_fewer refused;
    })

pub returns : goal.returns
returns g c =
    let n = g.F.FileSystem.directory c.args.file_system.now in
    let there = map string_bytes c.args.folders.now in
    let same = c.in_ok-add_queue.ensures.unchanged.same_files in
    let first = c.in_ok-add_queue.ensures.value ∙ ap (λ (fs : List SourceFile). map source_of fs ++ sources_in Append there n) c.new-files.ensures.items in
    let rewrite = subst (λ m. AreSingle there Rewrite m) same c.in_ok-add_queue-2.ensures.single in
    record {
      value = c.in_ok-add_queue-2.ensures.value ∙ ap (λ (m : Directory). map source_of c.add_queue.new.files.items ++ sources_in Rewrite there m) same ∙ ap (λ (fs : List Source). fs ++ sources_in Rewrite there n) first;
      single = λ queue. single_both there n c.in_ok-add_queue.ensures.single rewrite queue;
      unchanged = reads_then c.add_queue.ensures.unchanged c.add_queue-2.ensures.unchanged;
      cause = tt;
    }
