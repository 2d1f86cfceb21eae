use Rattle.std.proofs.Common.{◌≡◌, ◌∙◌, ap, subst}
use Rattle.std.proofs.lemmas.Result.{err_from_is_err_and}
use Rattle.raft_env.proofs.MomentsLemmas.{moves_after_reads, moves_weaker}
use Rattle.raft_env.specs.Directory.{Directory}
use Rattle.raft_env.specs.Outcomes.{synced_of}
use Rattle.raft_files.specs.Writer.{bytes_at, bytes_of}
use Rattle.raft_pipes.specs.Files.{IsDurable}
use Rattle.raft_opening.proofs.FileCallsLemmas.{leaves_others_then}
use Rattle.raft_fork.proofs.FoldersLemmas.{updated_folders}
use Rattle.raft_fork.proofs.StepsLemmas.{others_one_of, stands_apart, synced_durable}
use Rattle.raft_fork.proofs.copying.copy_file.Goals as goal

pub returns-in_err-copy_bytes-clause-writes : goal.returns-in_err-copy_bytes-clause-writes
returns-in_err-copy_bytes-clause-writes g c =
    let made = moves_after_reads c.open.ensures.unchanged c.make_empty.ensures.writes.any_moment in
    let p = err_from_is_err_and c.from_residual-in_err-copy_bytes.result c.from_residual-in_err-copy_bytes.ensures.1 in
    rw (p.1, p.2) (record { ok = tt; folders = tt; any_moment = leaves_others_then c.args.to.now made c.copy_bytes.ensures.writes.any_moment })

pub returns-in-Ok-sync-clause-writes : goal.returns-in-Ok-sync-clause-writes
returns-in-Ok-sync-clause-writes g c =
    let f = g.F.FileSystem in
    let from = c.args.from.now in
    let to = c.args.to.now in
    let n = f.directory c.args.file_system.now in
    let copied = f.directory c.copy_bytes.new.file_system in
    let new = f.directory c.sync.new.self in
    let made = moves_after_reads c.open.ensures.unchanged c.make_empty.ensures.writes.any_moment in
    let same : bytes_at from (f.directory c.make_empty.new.file_system) ≡ bytes_at from n = ap bytes_of (made.throughout.here from (stands_apart n from to c.requires.stands c.requires.free)) in
    let synced = rw (c.copy_bytes.ensures.writer, c.in_ok-writer.ensures.writer) at c.in-Ok-sync.ensures.ok in
    let syncing = rw (c.copy_bytes.ensures.writer, c.in_ok-writer.ensures.writer) at c.sync.ensures.any_moment in
    record {
      ok = subst (λ bytes. IsDurable to bytes new) (c.in_ok-copy_bytes.ensures.writes.ok.1 ∙ same) (synced_durable to copied new c.in_ok-copy_bytes.ensures.writes.ok.0 synced);
      folders = updated_folders to synced_of copied new synced ∙ c.in_ok-copy_bytes.ensures.writes.folders ∙ c.in_ok-writer.ensures.writes.folders ∙ ap (λ (m : Directory). m.is_folder) c.open.ensures.unchanged.same_files;
      any_moment = leaves_others_then to (leaves_others_then to made c.copy_bytes.ensures.writes.any_moment) (moves_weaker (λ m one. others_one_of to synced_of copied m one) syncing);
    }

pub returns-clause-writes : goal.returns-clause-writes
returns-clause-writes g c =
    let f = g.F.FileSystem in
    let to = c.args.to.now in
    let copied = f.directory c.copy_bytes.new.file_system in
    let made = moves_after_reads c.open.ensures.unchanged c.make_empty.ensures.writes.any_moment in
    let syncing = rw (c.copy_bytes.ensures.writer, c.in_ok-writer.ensures.writer) at c.sync.ensures.any_moment in
    record { ok = tt; folders = tt; any_moment = leaves_others_then to (leaves_others_then to made c.copy_bytes.ensures.writes.any_moment) (moves_weaker (λ m one. others_one_of to synced_of copied m one) syncing) }
