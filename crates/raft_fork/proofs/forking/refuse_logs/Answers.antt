use Rattle.std.proofs.Common.{◌≡◌, ◌∙◌, ◌<◌, [], ◌∷◌, length, map, ap, inl, inr, arith, rules}
use Rattle.std.specs.String.{string_bytes}
use Rattle.std.proofs.lemmas.List.{length-map}
use Rattle.raft_pipes.specs.FileList.{place_of}
use Rattle.raft_pipes.specs.Numbered.{kept_files}
use Rattle.raft_fork.proofs.RefusedLemmas.{has_log}
use Rattle.raft_fork.proofs.forking.refuse_logs.Goals as goal

pub returns-then-not-is_empty-clause-cause : goal.returns-then-not-is_empty-clause-cause
returns-then-not-is_empty-clause-cause g c =
    let n = g.F.FileSystem.directory c.args.file_system.now in
    let folder = c.args.folder.now in
    let found = map place_of c.in_ok-found.found.items in
    let folders : map string_bytes c.deref.result.now ≡ folder ∷ [] = search rules in
    let are : found ≡ kept_files (folder ∷ []) c.args.queue n = c.in_ok-found.ensures.value ∙ ap (λ folders. kept_files folders c.args.queue n) folders in
    let some : 0 < length c.in_ok-found.found.items = search rules in
    inr (inl (has_log folder c.args.queue n found are (omega (arith, some, length-map c.in_ok-found.found.items place_of))))
