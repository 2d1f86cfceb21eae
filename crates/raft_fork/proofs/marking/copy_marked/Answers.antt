use Rattle.std.proofs.Common.{◌≡◌, ◌∙◌, None, map, ap, inl, inr, refl, sym, subst, arith}
use Rattle.std.proofs.lemmas.Result.{err_from_is_err_and}
use Rattle.raft_env.specs.Directory.{Directory, IsOneOf, after_create, without_file}
use Rattle.raft_env.specs.Moments.{MovesBy}
use Rattle.raft_env.proofs.MomentsLemmas.{moves_none}
use Rattle.raft_fork.specs.Fork.{CanBeCopied, mark_in, source_of}
use Rattle.raft_fork.proofs.CopiesLemmas.{others_of}
use Rattle.raft_fork.proofs.MarkLemmas.{all_copied, can_marked, copy_later, copying_moves, making_moves, mark_refused, removing_moves}
use Rattle.raft_pipes.proofs.PipeDoubtLemmas.{fewer_then}
use Rattle.raft_fork.proofs.marking.copy_marked.Goals as goal

pub returns-in_err-mark-clause-any_moment : goal.returns-in_err-mark-clause-any_moment
returns-in_err-mark-clause-any_moment g c = moves_none (inl (λ q. refl))

pub returns-in_err-mark-clause-cause : goal.returns-in_err-mark-clause-cause
returns-in_err-mark-clause-cause g c =
    let p = err_from_is_err_and c.from_residual.result c.from_residual.ensures.1 in
    rw (p.1, p.2) (inr (inl c.in_err-mark.ensures.memory))

pub returns-in_err-put_mark-clause-any_moment : goal.returns-in_err-put_mark-clause-any_moment
returns-in_err-put_mark-clause-any_moment g c =
    let f = g.F.FileSystem in
    let mark = c.as_str.ensures.value ∙ c.in_ok-mark.ensures.value in
    making_moves c.args.target.now (map source_of c.args.files.now) c.requires.can c.requires.unmarked
    (subst (λ p. MovesBy f.directory f.moments f.refusals_of (λ n. IsOneOf n (after_create p n)) c.args.file_system.now c.put_mark.new.file_system) mark c.put_mark.ensures.any_moment)

pub returns-in_err-put_mark-clause-cause : goal.returns-in_err-put_mark-clause-cause
returns-in_err-put_mark-clause-cause g c =
    let f = g.F.FileSystem in
    let old = f.refusals_of c.args.file_system.now in
    let mark = c.as_str.ensures.value ∙ c.in_ok-mark.ensures.value in
    let p = err_from_is_err_and c.from_residual-in_err-put_mark.result c.from_residual-in_err-put_mark.ensures.1 in
    rw (p.1, p.2)
    (mark_refused c.args.target.now (map source_of c.args.files.now) old old (f.refusals_of c.put_mark.new.file_system) c.in_err-put_mark.field-0.0 c.as_str.result.now mark (omega arith, omega arith) c.in_err-put_mark.ensures.cause)

pub copy_files-requires-after_bounds : goal.copy_files-requires-after_bounds
copy_files-requires-after_bounds g c κs within =
    let f = g.F.FileSystem in
    let old = f.directory c.args.file_system.now in
    let mark = c.as_str.ensures.value ∙ c.in_ok-mark.ensures.value in
    can_marked c.args.target.now (map source_of c.args.files.now) old (f.directory c.put_mark.new.file_system) c.requires.can c.requires.unmarked
    (c.in_ok-put_mark.ensures.ok ∙ ap (λ p. after_create p old) mark)

pub returns-in_err-copied-clause-any_moment : goal.returns-in_err-copied-clause-any_moment
returns-in_err-copied-clause-any_moment g c =
    let f = g.F.FileSystem in
    let old = f.directory c.args.file_system.now in
    let mark = c.as_str.ensures.value ∙ c.in_ok-mark.ensures.value in
    copying_moves c.args.target.now (map source_of c.args.files.now) c.requires.can c.requires.unmarked
    (c.in_ok-put_mark.ensures.ok ∙ ap (λ p. after_create p old) mark)
    (subst (λ p. MovesBy f.directory f.moments f.refusals_of (λ n. IsOneOf n (after_create p n)) c.args.file_system.now c.put_mark.new.file_system) mark c.put_mark.ensures.any_moment)
    c.copy_files.ensures.any_moment

pub returns-in_err-copied-clause-cause : goal.returns-in_err-copied-clause-cause
returns-in_err-copied-clause-cause g c =
    let f = g.F.FileSystem in
    let p = err_from_is_err_and c.from_residual-in_err-copied.result c.from_residual-in_err-copied.ensures.1 in
    rw (p.1, p.2)
    (copy_later c.args.target.now (map source_of c.args.files.now) (f.refusals_of c.args.file_system.now) (f.refusals_of c.put_mark.new.file_system) (f.refusals_of c.copy_files.new.file_system) c.in_err-copied.field-0.0 c.put_mark.ensures.any_moment.no_fewer c.in_err-copied.ensures.cause)

pub returns-in-Ok-clause-ok : goal.returns-in-Ok-clause-ok
returns-in-Ok-clause-ok g c =
    let f = g.F.FileSystem in
    let target = c.args.target.now in
    let files = map source_of c.args.files.now in
    let old = f.directory c.args.file_system.now in
    let mid = f.directory c.put_mark.new.file_system in
    let after = f.directory c.copy_files.new.file_system in
    let mark = c.as_str.ensures.value ∙ c.in_ok-mark.ensures.value in
    let removed = c.as_str-2.ensures.value ∙ c.in_ok-mark.ensures.value in
    all_copied target files old mid c.requires.can c.requires.unmarked (c.in_ok-put_mark.ensures.ok ∙ ap (λ p. after_create p old) mark) after (f.directory c.delete.new.self)
    c.in_ok-copied.ensures.ok (others_of target files mid after c.copy_files.ensures.any_moment.throughout.here) c.in_ok-copied.ensures.folders
    (c.in-Ok.ensures.ok ∙ ap (λ p. without_file p after) removed)

pub returns-in-Ok-clause-any_moment : goal.returns-in-Ok-clause-any_moment
returns-in-Ok-clause-any_moment g c =
    let f = g.F.FileSystem in
    let target = c.args.target.now in
    let files = map source_of c.args.files.now in
    let old = f.directory c.args.file_system.now in
    let mid = f.directory c.put_mark.new.file_system in
    let after = f.directory c.copy_files.new.file_system in
    let mark = c.as_str.ensures.value ∙ c.in_ok-mark.ensures.value in
    let removed = c.as_str-2.ensures.value ∙ c.in_ok-mark.ensures.value in
    removing_moves target files c.requires.can c.requires.unmarked
    (c.in_ok-put_mark.ensures.ok ∙ ap (λ p. after_create p old) mark)
    (subst (λ p. MovesBy f.directory f.moments f.refusals_of (λ n. IsOneOf n (after_create p n)) c.args.file_system.now c.put_mark.new.file_system) mark c.put_mark.ensures.any_moment)
    c.copy_files.ensures.any_moment
    c.in_ok-copied.ensures.ok (others_of target files mid after c.copy_files.ensures.any_moment.throughout.here) c.in_ok-copied.ensures.folders
    (subst (λ p. MovesBy f.directory f.moments f.refusals_of (λ n. IsOneOf n (without_file p n)) c.copy_files.new.file_system c.delete.new.self) removed c.delete.ensures.any_moment)

pub returns-clause-any_moment : goal.returns-clause-any_moment
returns-clause-any_moment g c =
    let f = g.F.FileSystem in
    let target = c.args.target.now in
    let files = map source_of c.args.files.now in
    let old = f.directory c.args.file_system.now in
    let mid = f.directory c.put_mark.new.file_system in
    let after = f.directory c.copy_files.new.file_system in
    let mark = c.as_str.ensures.value ∙ c.in_ok-mark.ensures.value in
    let removed = c.as_str-2.ensures.value ∙ c.in_ok-mark.ensures.value in
    removing_moves target files c.requires.can c.requires.unmarked
    (c.in_ok-put_mark.ensures.ok ∙ ap (λ p. after_create p old) mark)
    (subst (λ p. MovesBy f.directory f.moments f.refusals_of (λ n. IsOneOf n (after_create p n)) c.args.file_system.now c.put_mark.new.file_system) mark c.put_mark.ensures.any_moment)
    c.copy_files.ensures.any_moment
    c.in_ok-copied.ensures.ok (others_of target files mid after c.copy_files.ensures.any_moment.throughout.here) c.in_ok-copied.ensures.folders
    (subst (λ p. MovesBy f.directory f.moments f.refusals_of (λ n. IsOneOf n (without_file p n)) c.copy_files.new.file_system c.delete.new.self) removed c.delete.ensures.any_moment)
