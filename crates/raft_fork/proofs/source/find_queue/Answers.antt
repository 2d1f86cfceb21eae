use Rattle.std.proofs.Common.{◌≡◌, ◌∙◌, List, map, true, false, ap, sym, subst}
use Rattle.std.specs.List.{list_all}
use Rattle.std.specs.String.{string_bytes}
use Rattle.std.proofs.lemmas.Result.{err_from_is_err_and}
use Rattle.raft_pipes.specs.Numbered.{StandAlone, paths_of}
use Rattle.raft_pipes.specs.declared.file_list.FoundFile.{FoundFile}
use Rattle.raft_pipes.proofs.OnlyLemmas.{alone_if, only_if}
use Rattle.raft_fork.proofs.RefusedLemmas.{listed_source}
use Rattle.raft_fork.proofs.source.find_queue.Goals as goal

pub returns-in_err-files : goal.returns-in_err-files
returns-in_err-files g c =
    let f = g.F.FileSystem in
    let n = f.directory c.args.file_system.now in
    let there = map string_bytes c.args.folders.now in
    let p = err_from_is_err_and c.from_residual.result c.from_residual.ensures.1 in
    rw (p.1, p.2) (record {
      value = tt;
      single = tt;
      unchanged = c.scan.ensures.unchanged;
      cause = listed_source there n (f.refusals_of c.args.file_system.now) (f.refusals_of c.scan.new.file_system) c.in_err-files.field-0.0 c.in_err-files.ensures.cause;
    })

pub returns-then-are_only : goal.returns-then-are_only
returns-then-are_only g c =
    let here = paths_of (map string_bytes c.args.folders.now) c.args.queue (g.F.FileSystem.directory c.args.file_system.now) in
    let files = c.in_ok-files.files.items in
    let each : list_all (λ f. f.is_only) files ≡ true = ap (λ (xs : List FoundFile). list_all (λ f. f.is_only) xs) (sym c.deref.ensures.value) ∙ sym c.if-are_only.ensures.value in
    record {
      value = c.in_ok-files.ensures.value;
      single = subst (StandAlone here) c.in_ok-files.ensures.value (alone_if here files c.in_ok-files.ensures.alone each);
      unchanged = c.scan.ensures.unchanged;
      cause = tt;
    }

pub returns-else-are_only : goal.returns-else-are_only
returns-else-are_only g c = record {
  value = tt;
  single = tt;
  unchanged = c.scan.ensures.unchanged;
  cause = (
    c.args.queue,
    λ single.
        (let here = paths_of (map string_bytes c.args.folders.now) c.args.queue (g.F.FileSystem.directory c.args.file_system.now) in
        let files = c.in_ok-files.files.items in
        let each : list_all (λ f. f.is_only) files ≡ true = only_if here files c.in_ok-files.ensures.alone (subst (StandAlone here) (sym c.in_ok-files.ensures.value) single) in
        let no : false ≡ true = c.if-are_only.ensures.value ∙ ap (λ (xs : List FoundFile). list_all (λ f. f.is_only) xs) c.deref.ensures.value ∙ each in
        absurd cc),
  );
}
