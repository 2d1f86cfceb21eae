use Rattle.std.proofs.Common.{◌≡◌, ◌++◌, ◌∷◌, [], ℕ, length, length-append, map, sym, ◌∙◌, ap, subst, rules, arith}
use Rattle.std.specs.Prelude.{slice_index_or}
use Rattle.std.specs.Map.Iter.{deref_pair}
use Rattle.std.specs.String.{string_bytes}
use Rattle.std.proofs.lemmas.Grind.{common_steps}
use Rattle.std.proofs.lemmas.List.{append-nil, map-append, length-map}
use Rattle.std.proofs.lemmas.Result.{err_from_is_err_and}
use Rattle.raft_env.specs.Outcomes.{MayLeave, synced_file}
use Rattle.raft_env.specs.Directory.{Leaves}
use Rattle.raft_memory.specs.Choice.{bytes_by_choice, left_by}
use Rattle.raft_memory.specs.Crashed.{Copied, IsLeft, Puts}
use Rattle.raft_memory.specs.Files.{namespace_directory}
use Rattle.raft_memory.specs.declared.crash.Choice.TheVariants as choice
use Rattle.raft_memory.proofs.CrashedLemmas.{copied_turn, allowed_here, refuses_unless_more, leaves_all, restarted}
use Rattle.raft_memory.proofs.namespace.Namespace.crashed.Goals as goal

pub returns-clause-ok : goal.returns-clause-ok
returns-clause-ok c =
    let all : map deref_pair c.loop-path.yielded ≡ c.args.self.now.files.entries = grind (arith, common_steps, append-nil, c.in-None.ensures.steps, c.loop-path.invariant.whole) in
    restarted (left_by c.args.choices.now (namespace_directory c.args.self.now)) c.args.self.now (record { files = c.loop-path.files; folders = c.in_ok-folders.folders; room = c.args.self.now.room })
    (subst (λ l. Copied (IsLeft (left_by c.args.choices.now (namespace_directory c.args.self.now))) l c.loop-path.files) all c.loop-path.invariant.copied)
    (c.in_ok-folders.ensures ∙ ap (map string_bytes) c.deref.ensures.value)

pub returns-clause-crash : goal.returns-clause-crash
returns-clause-crash c =
    let all : map deref_pair c.loop-path.yielded ≡ c.args.self.now.files.entries = grind (arith, common_steps, append-nil, c.in-None.ensures.steps, c.loop-path.invariant.whole) in
    leaves_all (left_by c.args.choices.now (namespace_directory c.args.self.now)) c.args.self.now (record { files = c.loop-path.files; folders = c.in_ok-folders.folders; room = c.args.self.now.room })
    (subst (λ l. Copied (IsLeft (left_by c.args.choices.now (namespace_directory c.args.self.now))) l c.loop-path.files) all c.loop-path.invariant.copied)

pub loop-path-preserved : goal.loop-path-preserved
loop-path-preserved c =
    let done = map deref_pair c.loop-path.yielded in
    let k = c.in-Some.path.now in
    let file = c.in-Some.file.now in
    let next : c.loop-path.path-iterator ≡ (k, file) ∷ c.next.new.self = search rules in
    let count : c.loop-path.turn ≡ length done = c.loop-path.invariant.count ∙ sym (length-map c.loop-path.yielded deref_pair) in
    let pick : c.choice_at.result.now ≡ slice_index_or c.args.choices.now (length done) choice.Synced = c.choice_at.ensures ∙ ap (slice_index_or c.args.choices.now c.loop-path.turn) c.loop-path.invariant.left_over ∙ ap (λ (i : ℕ). slice_index_or c.args.choices.now i choice.Synced) count in
    let path : c.as_str.result.now ≡ string_bytes k = c.as_str.ensures.value in
    let puts : Puts c.loop-path.files c.put_left.new.files (string_bytes k) (synced_file (bytes_by_choice (slice_index_or c.args.choices.now (length done) choice.Synced) file)) = rw (path, pick) at c.in_ok-put_left.ensures.ok in
    let may : MayLeave file (bytes_by_choice (slice_index_or c.args.choices.now (length done) choice.Synced) file) = rw pick at c.in_ok-put_left.ensures.crash in
    let turn = copied_turn c.args.choices.now c.args.self.now done c.loop-path.path-iterator c.next.new.self k file c.loop-path.invariant.whole next c.iter-path-items.ensures.ordered c.loop-path.files c.put_left.new.files c.loop-path.invariant.copied puts may in
    let more : map deref_pair (c.loop-path.yielded ++ (c.in-Some.path, c.in-Some.file) ∷ []) ≡ done ++ (k, file) ∷ [] = map-append deref_pair c.loop-path.yielded ((c.in-Some.path, c.in-Some.file) ∷ []) in
    record {
      whole = ap (λ l. l ++ c.next.new.self) more ∙ turn.0;
      count = omega (arith, c.loop-path.invariant.count, length-append c.loop-path.yielded ((c.in-Some.path, c.in-Some.file) ∷ []));
      left_over = c.loop-path.invariant.left_over;
      copied = subst (λ l. Copied (IsLeft (left_by c.args.choices.now (namespace_directory c.args.self.now))) l c.put_left.new.files) (sym more) turn.1;
    }

pub returns-in_err-put_left-clause-cause : goal.returns-in_err-put_left-clause-cause
returns-in_err-put_left-clause-cause c =
    let done = map deref_pair c.loop-path.yielded in
    let k = c.in-Some.path.now in
    let file = c.in-Some.file.now in
    let next : c.loop-path.path-iterator ≡ (k, file) ∷ c.next.new.self = search rules in
    let count : c.loop-path.turn ≡ length done = c.loop-path.invariant.count ∙ sym (length-map c.loop-path.yielded deref_pair) in
    let pick : c.choice_at.result.now ≡ slice_index_or c.args.choices.now (length done) choice.Synced = c.choice_at.ensures ∙ ap (slice_index_or c.args.choices.now c.loop-path.turn) c.loop-path.invariant.left_over ∙ ap (λ (i : ℕ). slice_index_or c.args.choices.now i choice.Synced) count in
    let allowed = allowed_here c.args.choices.now c.args.self.now done c.loop-path.path-iterator c.next.new.self k file c.loop-path.invariant.whole next c.iter-path-items.ensures.ordered in
    let refused = refuses_unless_more _ (Leaves (namespace_directory c.args.self.now) (left_by c.args.choices.now (namespace_directory c.args.self.now))) c.in_err-put_left.field-0.0 allowed (rw pick at c.in_err-put_left.ensures.cause) in
    let gave = err_from_is_err_and c.from_residual-in_err-put_left.result c.from_residual-in_err-put_left.ensures.1 in
    rw (gave.1, gave.2) refused
