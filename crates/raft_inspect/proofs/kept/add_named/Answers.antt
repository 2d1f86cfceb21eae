use Rattle.std.proofs.Common.{◌≡◌, ◌∙◌, ℕ, ◌+◌, ◌<◌, List, [], ◌∷◌, ◌++◌, length, map, take, Option, Some, None, option_map, ap, sym, append_assoc, arith, Global, String, Vec}
use Rattle.std.proofs.lemmas.List.{append-nil, map-append, take_more}
use Rattle.std.proofs.lemmas.List.Elements.{filter_map-append}
use Rattle.std.specs.List.{cons_option, filter_map}
use Rattle.std.specs.String.{string_bytes}
use Rattle.raft_base.specs.declared.pipe_log.FileId.{FileId}
use Rattle.raft_env.specs.Directory.{Path}
use Rattle.raft_dump.specs.LogFiles.{file_named, place_of}
use Rattle.raft_dump.specs.declared.files.LogFile.{LogFile}
use Rattle.raft_inspect.proofs.kept.add_named.Goals.{in-Some+in_ok-push, in_default}
use Rattle.raft_inspect.proofs.kept.add_named.Goals as goal

abbrev Places : Type 0
Places = List (FileId × Path)

-- one name more
with_name : (h : List ℕ → Option (FileId × Path)) (before now now' : Places) (front : List (List ℕ)) (name : List ℕ) (found : Option (FileId × Path)) → now ≡ before ++ filter_map h front → h name ≡ found → now' ≡ now ++ cons_option found [] → now' ≡ before ++ filter_map h (front ++ name ∷ [])
with_name h before now now' front name found was is grown =
    grown ∙ ap (λ (xs : Places). xs ++ cons_option found []) was ∙ append_assoc before (filter_map h front) (cons_option found [])
    ∙ ap (λ (o : Option (FileId × Path)). before ++ (filter_map h front ++ cons_option o [])) (sym is)
    ∙ ap (λ (xs : Places). before ++ xs) (sym (filter_map-append h front (name ∷ [])))

pub loop-name-preserved : goal.loop-name-preserved
loop-name-preserved c =
    let h = file_named c.args.folder.now c.args.queue in
    let names = c.args.names.now in
    let i = c.loop-name.name-index in
    let item = c.name-item.result in
    let front = map string_bytes (take i names) in
    let name = string_bytes item in
    let within : i < length names = omega (arith, c.loop-name-test.true) in
    let grown : map string_bytes (take (i + 1) names) ≡ front ++ name ∷ [] =
    ap (λ (xs : List (String Global)). map string_bytes xs) (take_more names i item within ∙ ap (λ x. take i names ++ x ∷ []) (sym c.name-item.is)) ∙ map-append string_bytes (take i names) (item ∷ []) in
    let before = map place_of c.args.files.now.items in
    let now = map place_of c.loop-name.files.items in
    elim c.match-branch-2.branch [
      | in-Some+in_ok-push w ↦
          with_name h before now (map place_of c.match-branch-2.files.items) front name (Some (place_of w.in-Some.file)) c.loop-name.invariant
          (ap h (sym c.as_str.ensures.value) ∙ sym c.in_ok-file.ensures.value ∙ ap (option_map place_of) w.in-Some.is)
          (ap (λ (fs : Vec LogFile Global). map place_of fs.items) w.files-is ∙ ap (map place_of) w.in_ok-push.ensures.items ∙ map-append place_of c.loop-name.files.items (w.in-Some.file ∷ []))
          ∙ ap (λ (ns : List (List ℕ)). before ++ filter_map h ns) (sym grown)
      | in_default w ↦
          with_name h before now (map place_of c.match-branch-2.files.items) front name None c.loop-name.invariant
          (ap h (sym c.as_str.ensures.value) ∙ sym c.in_ok-file.ensures.value ∙ ap (option_map place_of) w.in_default.is)
          (ap (λ (fs : Vec LogFile Global). map place_of fs.items) w.files-is ∙ sym (append-nil now))
          ∙ ap (λ (ns : List (List ℕ)). before ++ filter_map h ns) (sym grown)
    ]
