use Rattle.std.proofs.Common.{◌∙◌, subst}
use Rattle.std.proofs.lemmas.Result.{IfErr-weaker, IfOk-weaker, err_from_is_err_and}
use Rattle.raft_env.proofs.MomentsLemmas.{moves_then_reads}
use Rattle.raft_config.specs.Folders.{Folders}
use Rattle.raft_consistency.specs.Check.{log_holes}
use Rattle.raft_consistency.specs.Holes.{AreHoles}
use Rattle.raft_builder.specs.Builder.{IsOrderRefusal}
use Rattle.raft_consistency.proofs.ReadLemmas.{holes_before, read_fails, scan_fails}
use Rattle.raft_consistency.proofs.check.holes_of.Goals as goal

pub returns-in_err-scan-clause-cause : goal.returns-in_err-scan-clause-cause
returns-in_err-scan-clause-cause g c =
    let p = err_from_is_err_and c.from_residual.result c.from_residual.ensures.1 in
    let b = c.args.builder.now in
    let counts = g.F.FileSystem.refusals_of in
    rw (p.1, p.2) (scan_fails b.folders (g.F.FileSystem.directory b.file_system) (counts b.file_system) (counts c.scan.new.self.file_system) c.in_err-scan.field-0.0 c.in_err-scan.ensures.cause)

pub returns-clause-value : goal.returns-clause-value
returns-clause-value g c =
    let b = c.args.builder.now in
    let s = c.scan.new.self in
    let files = g.F.FileSystem.directory in
    let scan = c.in_ok-scan.ensures in
    IfOk-weaker c.holes_of_found.result _ _ (λ pairs are. holes_before b.folders (files b.file_system) (files s.file_system) scan.any_moment.throughout.here pairs.items
    (subst (λ (f : Folders). AreHoles (log_holes f (files s.file_system)) pairs.items) scan.settings.folders are)) c.holes_of_found.ensures.value

pub returns-clause-cause : goal.returns-clause-cause
returns-clause-cause g c =
    let b = c.args.builder.now in
    let s = c.scan.new.self in
    let files = g.F.FileSystem.directory in
    let counts = g.F.FileSystem.refusals_of in
    let scan = c.in_ok-scan.ensures in
    IfErr-weaker c.holes_of_found.result _ _ (λ e refused. read_fails b.folders (files b.file_system) (files s.file_system) scan.any_moment.throughout.here s.mode (counts b.file_system) (counts s.file_system) (counts c.holes_of_found.new.builder.file_system) e
    (scan.settings.mode ∙ c.requires) scan.any_moment.no_fewer
    (subst (λ (f : Folders). IsOrderRefusal s.mode f (files s.file_system) (counts s.file_system) (counts c.holes_of_found.new.builder.file_system) e) scan.settings.folders refused)) c.holes_of_found.ensures.cause

pub returns-clause-any_moment : goal.returns-clause-any_moment
returns-clause-any_moment g c = moves_then_reads c.scan.ensures.any_moment c.holes_of_found.ensures.unchanged
