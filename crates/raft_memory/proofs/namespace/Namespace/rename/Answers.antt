use Rattle.std.proofs.Common.{◌≡◌, ◌∙◌, ap, inl, inr, subst, sym}
use Rattle.std.specs.Result.{OnOk}
use Rattle.std.proofs.lemmas.Result.{IfErr-weaker}
use Rattle.std.proofs.lemmas.Slice.Eq.{bytes_eq-Decides}
use Rattle.raft_env.specs.Directory.{Path, Directory, update_file, after_rename}
use Rattle.raft_env.specs.Outcomes.{renamed_of}
use Rattle.raft_memory.specs.Files.{namespace_directory}
use Rattle.raft_memory.specs.Refused.{IsAbsent}
use Rattle.raft_memory.proofs.MemoryLemmas.{renamed_in_place}
use Rattle.raft_memory.proofs.namespace.Namespace.rename.Goals as goal

pub returns-then-eq : goal.returns-then-eq
returns-then-eq c =
    let old = namespace_directory c.args.self.now in
    let from = c.args.from.now in
    let same : from ≡ c.args.to.now = (bytes_eq-Decides from c.args.to.now).0 (sym c.if-eq.ensures) in
    let is : update_file from renamed_of old ≡ after_rename from c.args.to.now old = renamed_in_place old from ∙ ap (λ (to : Path). after_rename from to old) same in
    record {
      value = c.rename_in_place.ensures.value;
      ok = subst (λ (new : Directory). OnOk c.rename_in_place.result (namespace_directory c.rename_in_place.new.self ≡ new)) is c.rename_in_place.ensures.ok;
      err = c.rename_in_place.ensures.err;
      cause = IfErr-weaker c.rename_in_place.result (IsAbsent old from) _ (λ e absent. inl (inr absent)) c.rename_in_place.ensures.cause;
    }
