use Rattle.std.proofs.Common.{◌≡◌, ◌∙◌, ℕ, List, false, Bool, cond, Option, Some, None, option_and_then, refl, ap, sym}
use Rattle.std.specs.Str.{bytes_eq}
use Rattle.raft_base.specs.declared.pipe_log.FileId.{FileId}
use Rattle.raft_base.specs.declared.pipe_log.LogQueue.{LogQueue}
use Rattle.raft_env.specs.Directory.{Path, path_in}
use Rattle.raft_files.specs.Name.{file_name, parsed_name}
use Rattle.raft_dump.specs.LogFiles.{file_named, if_named, in_queue}
use Rattle.raft_dump.proofs.files.log_file.Goals as goal

not_named : (folder : Path) (queue : LogQueue) (name : List ℕ) (parsed f : FileId) (built : List ℕ) (t : Bool) → t ≡ false → parsed_name name ≡ Some parsed → f ≡ in_queue queue parsed.seq → built ≡ file_name f → t ≡ bytes_eq built name → None ≡ file_named folder queue name
not_named folder queue name parsed f built t differs some is built_is eq =
    sym (
    ap (option_and_then (λ (id : FileId). if_named folder name (in_queue queue id.seq))) some
    ∙ ap (if_named folder name) (sym is)
    ∙ ap (λ (b : List ℕ). cond {A = Option (FileId × Path)} (bytes_eq b name) (Some (f, path_in folder (file_name f))) None) (sym built_is)
    ∙ ap (λ (t : Bool). cond {A = Option (FileId × Path)} t (Some (f, path_in folder (file_name f))) None) (sym eq ∙ differs)
    )

pub returns-clause-value : goal.returns-clause-value
returns-clause-value c = not_named c.args.folder.now c.args.queue c.args.name.now c.in-Some.parsed c.new-id.result c.as_str.result.now false refl (sym c.parse_file_name.ensures.value ∙ c.in-Some.is) c.new-id.ensures.value (c.as_str.ensures.value ∙ c.in_ok-built.ensures.ok) c.if-eq.ensures
