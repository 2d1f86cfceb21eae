use Rattle.std.proofs.Common.{◌≡◌, ◌∙◌, ◌+◌, ◌++◌, [], ◌∷◌, None, length, map, take, drop, ap, refl, sym, subst, inl, arith}
use Rattle.std.specs.String.{string_bytes}
use Rattle.std.proofs.lemmas.List.{length-append, length-take, map-append, take_all}
use Rattle.std.proofs.lemmas.Result.{err_from_is_err_and}
use Rattle.raft_env.specs.Directory.{HasFile, file_at}
use Rattle.raft_env.proofs.MomentsLemmas.{moves_none}
use Rattle.raft_files.specs.Writer.{bytes_at}
use Rattle.raft_pipes.specs.Files.{IsDurable}
use Rattle.raft_pipes.specs.Folder.{LeavesOthers}
use Rattle.raft_fork.proofs.CopiesLemmas.{copy_moves, next_copied, next_copy, next_free, next_others, next_part, next_refused, next_stands, none_being_copied}
use Rattle.raft_fork.specs.Fork.{AreCopied, copies_in, copy_in, source_of}
use Rattle.raft_fork.proofs.copying.copy_files.Goals as goal

pub returns-in_err-buffer-clause-cause : goal.returns-in_err-buffer-clause-cause
returns-in_err-buffer-clause-cause g c =
    let p = err_from_is_err_and c.from_residual.result c.from_residual.ensures.1 in
    rw p.1 (inl p.2)

pub loop-file-init : goal.loop-file-init
loop-file-init g c = record {
  room = omega (arith, c.in_ok-buffer.buffer.ok, c.in_ok-buffer.ensures.len);
  copies = ap (map string_bytes) c.new-copied.ensures.items;
  copied = tt;
  others = λ q out. refl;
  folders = refl;
  moments = moves_none (none_being_copied c.args.target.now (map source_of c.args.files.now) (g.F.FileSystem.directory c.args.file_system.now));
}

pub returns-in_err-path-clause-any_moment : goal.returns-in_err-path-clause-any_moment
returns-in_err-path-clause-any_moment g c = c.loop-file.invariant.moments

pub returns-in_err-path-clause-cause : goal.returns-in_err-path-clause-cause
returns-in_err-path-clause-cause g c =
    let p = err_from_is_err_and c.from_residual-in_err-path.result c.from_residual-in_err-path.ensures.1 in
    rw (p.1, p.2) (inl c.in_err-path.ensures.memory)

pub copy_file-requires-clause-stands : goal.copy_file-requires-clause-stands
copy_file-requires-clause-stands g c κs within =
    let f = g.F.FileSystem in
    let files = c.args.files.now in
    let i = c.loop-file.file-index in
    let mid = f.directory c.loop-file.file_system in
    let next = next_copy c.args.target.now files i c.file-item.result (f.directory c.args.file_system.now) mid (omega (arith, c.loop-file-test.true)) c.file-item.is c.requires c.loop-file.invariant.copied c.loop-file.invariant.others in
    subst (HasFile mid) (sym c.as_str.ensures.value) (next_stands c.args.target.now files i c.file-item.result _ mid next)

pub copy_file-requires-clause-free : goal.copy_file-requires-clause-free
copy_file-requires-clause-free g c κs within =
    let f = g.F.FileSystem in
    let files = c.args.files.now in
    let i = c.loop-file.file-index in
    let mid = f.directory c.loop-file.file_system in
    let next = next_copy c.args.target.now files i c.file-item.result (f.directory c.args.file_system.now) mid (omega (arith, c.loop-file-test.true)) c.file-item.is c.requires c.loop-file.invariant.copied c.loop-file.invariant.others in
    subst (λ path. file_at mid path ≡ None) (sym (c.as_str-in-loop-file.ensures.value ∙ c.in_ok-path.ensures.ok)) (next_free c.args.target.now files i c.file-item.result _ mid next)

pub copy_file-requires-clause-room : goal.copy_file-requires-clause-room
copy_file-requires-clause-room g c κs within = omega (arith, c.loop-file.invariant.room, ap length c.deref_mut.ensures.value)

pub returns-in_err-copy_file-clause-any_moment : goal.returns-in_err-copy_file-clause-any_moment
returns-in_err-copy_file-clause-any_moment g c =
    let so_far = c.loop-file.invariant in
    let next = next_copy c.args.target.now c.args.files.now c.loop-file.file-index c.file-item.result _ (g.F.FileSystem.directory c.loop-file.file_system) (omega (arith, c.loop-file-test.true)) c.file-item.is c.requires so_far.copied so_far.others in
    copy_moves c.args.target.now c.args.files.now c.loop-file.file-index c.file-item.result c.as_str-in-loop-file.result.now next (c.as_str-in-loop-file.ensures.value ∙ c.in_ok-path.ensures.ok) so_far.moments c.copy_file.ensures.writes.any_moment

pub returns-in_err-copy_file-clause-cause : goal.returns-in_err-copy_file-clause-cause
returns-in_err-copy_file-clause-cause g c =
    let counts = g.F.FileSystem.refusals_of in
    let so_far = c.loop-file.invariant in
    let next = next_copy c.args.target.now c.args.files.now c.loop-file.file-index c.file-item.result _ (g.F.FileSystem.directory c.loop-file.file_system) (omega (arith, c.loop-file-test.true)) c.file-item.is c.requires so_far.copied so_far.others in
    let p = err_from_is_err_and c.from_residual-in_err-copy_file.result c.from_residual-in_err-copy_file.ensures.1 in
    rw (p.1, p.2)
    (next_refused c.args.target.now c.args.files.now c.loop-file.file-index c.file-item.result _ _ next (counts c.args.file_system.now) (counts c.loop-file.file_system) (counts c.copy_file.new.file_system) c.loop-file.invariant.moments.no_fewer
    c.in_err-copy_file.field-0.0 c.as_str-in-loop-file.result.now c.as_str.result.now (c.as_str-in-loop-file.ensures.value ∙ c.in_ok-path.ensures.ok) c.as_str.ensures.value c.in_err-copy_file.ensures.cause)

pub returns-in_err-push-clause-any_moment : goal.returns-in_err-push-clause-any_moment
returns-in_err-push-clause-any_moment g c =
    let so_far = c.loop-file.invariant in
    let next = next_copy c.args.target.now c.args.files.now c.loop-file.file-index c.file-item.result _ (g.F.FileSystem.directory c.loop-file.file_system) (omega (arith, c.loop-file-test.true)) c.file-item.is c.requires so_far.copied so_far.others in
    copy_moves c.args.target.now c.args.files.now c.loop-file.file-index c.file-item.result c.as_str-in-loop-file.result.now next (c.as_str-in-loop-file.ensures.value ∙ c.in_ok-path.ensures.ok) so_far.moments c.copy_file.ensures.writes.any_moment

pub returns-in_err-push-clause-cause : goal.returns-in_err-push-clause-cause
returns-in_err-push-clause-cause g c =
    let p = err_from_is_err_and c.from_residual-in_err-push.result c.from_residual-in_err-push.ensures.1 in
    rw p.1 (inl p.2)

pub loop-file-preserved : goal.loop-file-preserved
loop-file-preserved g c =
    let f = g.F.FileSystem in
    let target = c.args.target.now in
    let files = c.args.files.now in
    let i = c.loop-file.file-index in
    let item = c.file-item.result in
    let n = f.directory c.args.file_system.now in
    let mid = f.directory c.loop-file.file_system in
    let front = map source_of (take i files) in
    let so_far = c.loop-file.invariant in
    let next = next_copy target files i item n mid (omega (arith, c.loop-file-test.true)) c.file-item.is c.requires so_far.copied so_far.others in
    let to_is : c.as_str-in-loop-file.result.now ≡ copy_in target (source_of item) = c.as_str-in-loop-file.ensures.value ∙ c.in_ok-path.ensures.ok in
    let after = f.directory c.copy_file.new.file_system in
    let only : LeavesOthers (copy_in target (source_of item)) mid after = subst (λ path. LeavesOthers path mid after) to_is c.copy_file.ensures.writes.any_moment.throughout.here in
    let written = c.copy_file.new.buffer in
    let durable : IsDurable (copy_in target (source_of item)) (bytes_at (string_bytes item.path) mid) after = rw (sym to_is, sym c.as_str.ensures.value) c.in_ok-copy_file.ensures.writes.ok in
    let paths : map string_bytes c.push.new.self.items ≡ copies_in target (front ++ source_of item ∷ []) =
    ap (map string_bytes) c.in_ok-push.ensures.items ∙ map-append string_bytes c.loop-file.copied.items (c.in_ok-path.path ∷ [])
    ∙ ap (λ xs. xs ++ string_bytes c.in_ok-path.path ∷ []) so_far.copies ∙ ap (λ path. copies_in target front ++ path ∷ []) c.in_ok-path.ensures.ok
    ∙ sym (map-append (copy_in target) front (source_of item ∷ [])) in
    record {
      room = omega (arith, so_far.room, c.copy_file.auto.buffer, ap length c.deref_mut.ensures.value, c.loop-file.buffer.ok, length-take c.loop-file.buffer.len (written ++ drop (length written) c.loop-file.buffer.items), length-append written (drop (length written) c.loop-file.buffer.items));
      copies = paths ∙ ap (copies_in target) (sym (next_part files i item next.within next.place));
      copied = next_copied target files i item n mid next after only durable;
      others = next_others target files i item n mid next after only;
      folders = c.in_ok-copy_file.ensures.writes.folders ∙ so_far.folders;
      moments = copy_moves target files i item c.as_str-in-loop-file.result.now next to_is so_far.moments c.copy_file.ensures.writes.any_moment;
    }

pub returns-clause-copies : goal.returns-clause-copies
returns-clause-copies g c =
    let end : take c.loop-file.file-index c.args.files.now ≡ c.args.files.now = take_all c.loop-file.file-index c.args.files.now (omega (arith, c.loop-file-test.false)) in
    c.loop-file.invariant.copies ∙ ap (λ files. copies_in c.args.target.now (map source_of files)) end

pub returns-clause-ok : goal.returns-clause-ok
returns-clause-ok g c =
    let end : take c.loop-file.file-index c.args.files.now ≡ c.args.files.now = take_all c.loop-file.file-index c.args.files.now (omega (arith, c.loop-file-test.false)) in
    subst (λ files. AreCopied c.args.target.now (map source_of files) (g.F.FileSystem.directory c.args.file_system.now) (g.F.FileSystem.directory c.loop-file.file_system)) end c.loop-file.invariant.copied

pub returns-clause-folders : goal.returns-clause-folders
returns-clause-folders g c = c.loop-file.invariant.folders

pub returns-clause-any_moment : goal.returns-clause-any_moment
returns-clause-any_moment g c = c.loop-file.invariant.moments
