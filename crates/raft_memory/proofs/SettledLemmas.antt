-- Files that are put at their paths one after another.
use Rattle.std.proofs.Common.{◌≡◌, ℕ, Bool, List, [], ◌∷◌, Some, refl, sym, subst, ◌∙◌, ap}
use Rattle.std.specs.Prelude.{String, Vec}
use Rattle.std.specs.declared.alloc.Global.{Global}
use Rattle.std.specs.String.{string_bytes, string_cmp}
use Rattle.std.specs.BTreeMap as tree
use Rattle.std.specs.FinMap as finite
use Rattle.raft_env.specs.Outcomes.{File, synced_file}
use Rattle.raft_env.specs.Directory.{Directory, Path}
use Rattle.raft_memory.specs.Files.{Files, by_bytes, directory_of, folders_of}
use Rattle.raft_memory.specs.Settled.{PathAndBytes, with_files, settled_files}
use Rattle.raft_memory.proofs.MemoryLemmas.{placed_key}
use Rattle.raft_memory.proofs.MemoryInvariantLemmas.{Invariant, Each, of_each, placed_each, settled_holds, no_files_each}

module _ (is_folder : Path → Bool) (whole : Directory) where
  -- none is put yet
  pub with_files-first : (m : Files) (files all : List PathAndBytes) → m.entries ≡ [] → all ≡ files
      → with_files files (record { files = finite.empty; is_folder = is_folder }) ≡ whole → with_files all (directory_of m is_folder) ≡ whole
  with_files-first m files all empty same is =
      ap (λ (l : List PathAndBytes). with_files l (directory_of m is_folder)) same
      ∙ ap (with_files files) (λ i. record { files = finite.from_entries (by_bytes (empty i)); is_folder = is_folder }) ∙ is

  -- the next one is put at its path
  pub with_files-next : (m n : Files) (key : String Global) (bytes : Vec ℕ Global) (v : File) (all rest : List PathAndBytes) → all ≡ (key, bytes) ∷ rest
      → tree.Updates string_cmp m n key (Some v) → v ≡ synced_file bytes.items → with_files all (directory_of m is_folder) ≡ whole → with_files rest (directory_of n is_folder) ≡ whole
  with_files-next m n key bytes v all rest next updates v_is is =
      ap (with_files rest) (placed_key m n is_folder key (string_bytes key) v (synced_file bytes.items) updates refl v_is)
      ∙ sym (ap (λ (l : List PathAndBytes). with_files l (directory_of m is_folder)) next) ∙ is

  -- all are put
  pub with_files-last : (m : Files) (all : List PathAndBytes) → all ≡ [] → with_files all (directory_of m is_folder) ≡ whole → directory_of m is_folder ≡ whole
  with_files-last m all none is = sym (ap (λ (l : List PathAndBytes). with_files l (directory_of m is_folder)) none) ∙ is

with_files_each : (files : List PathAndBytes) (n : Directory) → Each n → Each (with_files files n)
with_files_each [] n each = each
with_files_each (e ∷ es) n each = with_files_each es _ (placed_each (string_bytes e.0) (synced_file e.1.items) n each (settled_holds e.1.items))

pub invariant-settled : (files : List PathAndBytes) (folders : List (String Global)) (n : Directory) → n ≡ settled_files files folders → Invariant n
invariant-settled files folders n is = subst Invariant (sym is) (of_each (settled_files files folders) (with_files_each files _ (no_files_each (folders_of folders))))
