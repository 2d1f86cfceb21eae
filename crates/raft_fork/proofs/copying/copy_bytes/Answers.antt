use Rattle.std.proofs.Common.{◌≡◌, ◌∙◌, ◌++◌, length, take, ap, subst, arith}
use Rattle.std.proofs.lemmas.List.{length-take-le}
use Rattle.raft_env.proofs.MomentsLemmas.{moves_after_reads, moves_weaker}
use Rattle.raft_files.specs.Reader.{IsReadTo}
use Rattle.raft_files.specs.Writer.{bytes_at, bytes_of}
use Rattle.raft_fork.proofs.FoldersLemmas.{updated_folders}
use Rattle.raft_opening.proofs.FileCallsLemmas.{appended, leaves_others_then, others_writing}
use Rattle.raft_fork.proofs.StepsLemmas.{read_next, read_some}
use Rattle.raft_fork.proofs.copying.copy_bytes.Goals as goal

pub loop-at-preserved : goal.loop-at-preserved
loop-at-preserved g c =
    let f = g.F.FileSystem in
    let from = c.args.from.now in
    let to = c.args.to.now in
    let n = f.directory c.args.file_system.now in
    let mid = f.directory c.loop-at.file_system in
    let new = f.directory c.write.new.self in
    let bytes = bytes_at from n in
    let at = c.loop-at.at in
    let count = c.in_ok-count.count in
    let so_far = c.loop-at.invariant in
    let same : bytes_at from mid ≡ bytes = ap bytes_of (so_far.moments.throughout.here from c.requires.apart) in
    let got : IsReadTo bytes at count c.loop-at.buffer c.read_part.new.buffer = subst (λ b. IsReadTo b at count c.loop-at.buffer c.read_part.new.buffer) same c.in_ok-count.ensures.ok in
    let some = read_some bytes at count c.loop-at.buffer c.read_part.new.buffer got (omega (arith, so_far.size)) (omega (arith, so_far.size)) so_far.room in
    let end : length (bytes_at to mid) ≡ at = ap length so_far.copied ∙ length-take-le at bytes (omega (arith, so_far.size)) in
    let written = rw (so_far.writer, c.in_ok-count.ensures.unchanged.same_files) at c.in-Ok-write.ensures.ok in
    let step = appended to at _ mid new so_far.stands end written in
    let writing = moves_after_reads c.in_ok-count.ensures.unchanged (rw so_far.writer at c.write.ensures.any_moment) in
    record {
      writer = c.write.ensures.writer ∙ so_far.writer;
      size = so_far.size;
      fits = so_far.fits;
      within = omega (arith, some.1, so_far.size);
      stands = step.0;
      copied = step.1 ∙ ap (λ front. front ++ take count c.read_part.new.buffer) so_far.copied ∙ read_next bytes at count c.loop-at.buffer c.read_part.new.buffer got;
      folders = updated_folders to _ mid new written ∙ so_far.folders;
      room = omega (arith, so_far.room, c.read_part.auto.buffer);
      moments = leaves_others_then to so_far.moments (moves_weaker (λ m w. others_writing to _ _ mid m w) writing);
    }

pub returns-in-Err-write-clause-writes : goal.returns-in-Err-write-clause-writes
returns-in-Err-write-clause-writes g c =
    let f = g.F.FileSystem in
    let to = c.args.to.now in
    let n = f.directory c.args.file_system.now in
    let mid = f.directory c.loop-at.file_system in
    let new = f.directory c.write.new.self in
    let writing = moves_after_reads c.in_ok-count.ensures.unchanged (rw c.loop-at.invariant.writer at c.write.ensures.any_moment) in
    record {
      ok = tt;
      folders = tt;
      any_moment = leaves_others_then to c.loop-at.invariant.moments (moves_weaker (λ m w. others_writing to _ _ mid m w) writing);
    }
