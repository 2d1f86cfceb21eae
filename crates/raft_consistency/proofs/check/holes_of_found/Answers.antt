use Rattle.std.proofs.Common.{◌∙◌, ap}
use Rattle.std.specs.Option.{option_or}
use Rattle.raft_base.specs.declared.pipe_log.LogQueue.TheVariants.{Append, Rewrite}
use Rattle.raft_consistency.specs.Check.{log_holes}
use Rattle.raft_consistency.specs.Holes.{hole_in, holes_in}
use Rattle.raft_pipes.specs.Folder.{readable_queue}
use Rattle.raft_consistency.proofs.ReadLemmas.{found_holes}
use Rattle.raft_consistency.proofs.TakenLemmas.{holes_same}
use Rattle.raft_consistency.proofs.check.holes_of_found.Goals as goal

pub returns-in-Ok-clause-value : goal.returns-in-Ok-clause-value
returns-in-Ok-clause-value g c =
    let b = c.args.builder.now in
    let n = g.F.FileSystem.directory b.file_system in
    let read = c.in_ok-appended.ensures.read c.requires.scanned in
    let appended = c.in_ok-appended.appended in
    let rewritten = c.in_ok-appended.rewritten in
    let a = found_holes Append b.folders n appended (c.requires.single Append) (read.stand Append) in
    let r = found_holes Rewrite b.folders n rewritten (c.requires.single Rewrite) (read.stand Rewrite) in
    holes_same (λ group. option_or (hole_in rewritten group) (hole_in appended group)) (log_holes b.folders n) c.in-Ok.pairs.items
    (λ group. ap (λ o. option_or o (hole_in appended group)) (r group) ∙ ap (option_or (holes_in (readable_queue Rewrite b.folders n) group)) (a group)) c.in-Ok.ensures.value
