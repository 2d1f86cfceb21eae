-- What a change of one file does to the directory that a map of files shows.
use Rattle.std.proofs.Common.{◌≡◌, ℕ, Bool, true, false, cond, List, [], ◌∷◌, Option, Some, None, refl, sym, ◌∙◌, ap, inl, inr}
use Rattle.std.specs.Prelude.{String, IsSome, is_some}
use Rattle.std.specs.declared.alloc.Global.{Global}
use Rattle.std.specs.String.{string_bytes, string_cmp}
use Rattle.std.specs.Str.{bytes_eq}
use Rattle.std.specs.Ordering.{nat_cmp, eq_by_cmp}
use Rattle.std.specs.Cmp.Lexicographic.{slice_cmp, nat_list_cmp_total}
use Rattle.std.specs.Cmp.{eq_by_cmp_equiv}
use Rattle.std.specs.BTreeMap as tree
use Rattle.std.specs.Map.{lookup, set_value}
use Rattle.std.specs.FinMap as finite
use Rattle.std.proofs.lemmas.Map.Text.{btree_map_updates_text, is_eq-slice_cmp}
use Rattle.std.proofs.lemmas.Map.Steps.{set_value_same}
use Rattle.raft_env.specs.Outcomes.{File, synced_file, renamed_of, Outcome}
use Rattle.raft_env.specs.Directory.{Path, Directory, file_at, with_file, without_file, update_file, update_at, after_create, after_rename, after_rename_at, IsChanging}
use Rattle.raft_memory.specs.declared.namespace.Namespace.{Namespace}
use Rattle.raft_memory.specs.Files.{Files, by_bytes, directory_of, folders_of, namespace_directory}

pub path_cmp-IsAntisymmetric : finite.IsAntisymmetric (slice_cmp nat_cmp)
path_cmp-IsAntisymmetric = finite.slice_cmp-IsAntisymmetric finite.nat_cmp-IsAntisymmetric

find-by_bytes : (es : List (String Global × File)) (p : Path) → finite.find (slice_cmp nat_cmp) p (by_bytes es) ≡ lookup (tree.is_at (λ k. slice_cmp nat_cmp p (string_bytes k))) es
find-by_bytes [] p = refl
find-by_bytes (e ∷ es) p = ap (λ o. cond (eq_by_cmp (slice_cmp nat_cmp) p (string_bytes e.0)) (Some e.1) o) (find-by_bytes es p)

pub file_at-directory_of : (m : Files) (is_folder : Path → Bool) (p : Path) → file_at (directory_of m is_folder) p ≡ tree.get_by_text m p
file_at-directory_of m is_folder p = finite.get-from_entries nat_list_cmp_total (by_bytes m.entries) p ∙ find-by_bytes m.entries p

turned : (p q : Path) → bytes_eq p q ≡ eq_by_cmp (slice_cmp nat_cmp) q p
turned p q = sym (is_eq-slice_cmp p q) ∙ (eq_by_cmp_equiv nat_list_cmp_total).symm p q

-- with another file at a path
pub placed_after : (m n : Files) (is_folder : Path → Bool) (p : Path) (w : File) → tree.UpdatesBy string_cmp (λ k. slice_cmp nat_cmp p (string_bytes k)) m n (Some w) → directory_of n is_folder ≡ with_file p w (directory_of m is_folder)
placed_after m n is_folder p w updates =
    let same = finite.same_map nat_list_cmp_total path_cmp-IsAntisymmetric (directory_of n is_folder).files (finite.insert (directory_of m is_folder).files p w) (λ q.
    file_at-directory_of n is_folder q ∙ btree_map_updates_text p m n (Some w) updates q ∙ ap (λ b. cond b (Some w) (tree.get_by_text m q)) (turned p q) ∙ ap (cond (eq_by_cmp (slice_cmp nat_cmp) q p) (Some w)) (sym (file_at-directory_of m is_folder q))
    ∙ sym (finite.get-insert nat_list_cmp_total (directory_of m is_folder).files p w q)) in
    λ i. record { files = same i; is_folder = is_folder }

-- the same file at its path again
pub same_after : (m n : Files) (is_folder : Path → Bool) (p : Path) (w : File) → tree.get_by_text m p ≡ Some w → n.entries ≡ set_value (tree.is_at (λ k. slice_cmp nat_cmp p (string_bytes k))) m.entries w → directory_of n is_folder ≡ directory_of m is_folder
same_after m n is_folder p w is written =
    let same : n.entries ≡ m.entries = written ∙ set_value_same _ m.entries w is in
    λ i. record { files = finite.from_entries (by_bytes (same i)); is_folder = is_folder }

-- the file at a path, changed
pub changed_after : (m n : Files) (is_folder : Path → Bool) (p : Path) (f : File → File) (old w : File) → tree.get_by_text m p ≡ Some old → w ≡ f old → tree.UpdatesBy string_cmp (λ k. slice_cmp nat_cmp p (string_bytes k)) m n (Some w)
    → directory_of n is_folder ≡ update_file p f (directory_of m is_folder)
changed_after m n is_folder p f old w is done updates =
    placed_after m n is_folder p w updates ∙ ap (λ (x : File). with_file p x (directory_of m is_folder)) done ∙ ap (λ o. update_at p f o (directory_of m is_folder)) (sym (file_at-directory_of m is_folder p ∙ is))

pub created_after : (m n : Files) (is_folder : Path → Bool) (p : Path) → is_some (tree.get_by_text m p) ≡ false → tree.UpdatesBy string_cmp (λ k. slice_cmp nat_cmp p (string_bytes k)) m n (Some (synced_file [])) → directory_of n is_folder ≡ after_create p (directory_of m is_folder)
created_after m n is_folder p none updates = rw (ap is_some (file_at-directory_of m is_folder p) ∙ none) (placed_after m n is_folder p (synced_file []) updates)

-- Deleted and renamed files.

pub none_from_not_some : (found : Option File) → is_some found ≡ false → found ≡ None
none_from_not_some None lacks = refl
none_from_not_some (Some file) lacks = absurd cc

-- directories that answer alike are one
same_directory : (m n : Directory) → m.is_folder ≡ n.is_folder → ((q : Path) → file_at m q ≡ file_at n q) → m ≡ n
same_directory m n folders same =
    let files = finite.same_map nat_list_cmp_total path_cmp-IsAntisymmetric m.files n.files same in
    λ i. record { files = files i; is_folder = folders i }

-- without the file at a path
pub removed_after : (m n : Files) (is_folder : Path → Bool) (p : Path) → tree.UpdatesBy string_cmp (λ k. slice_cmp nat_cmp p (string_bytes k)) m n None → directory_of n is_folder ≡ without_file p (directory_of m is_folder)
removed_after m n is_folder p updates = same_directory (directory_of n is_folder) (without_file p (directory_of m is_folder)) refl (λ q.
    file_at-directory_of n is_folder q ∙ btree_map_updates_text p m n None updates q ∙ ap (λ b. cond b None (tree.get_by_text m q)) (turned p q)
    ∙ ap (cond (eq_by_cmp (slice_cmp nat_cmp) q p) None) (sym (file_at-directory_of m is_folder q)) ∙ sym (finite.get-remove nat_list_cmp_total (directory_of m is_folder).files p q))

-- the same of an insertion at a key
pub placed_key : (m n : Files) (is_folder : Path → Bool) (key : String Global) (p : Path) (v w : File) → tree.Updates string_cmp m n key (Some v) → string_bytes key ≡ p → v ≡ w → directory_of n is_folder ≡ with_file p w (directory_of m is_folder)
placed_key m n is_folder key p v w updates key_is v_is = placed_after m n is_folder (string_bytes key) v updates ∙ ap (λ (q : Path). with_file q v (directory_of m is_folder)) key_is ∙ ap (λ (x : File). with_file p x (directory_of m is_folder)) v_is

-- room that was made first leaves no trace
twice : (b c : Bool) (w x : Option File) (o : Option File) → cond b w (cond c None (cond b x o)) ≡ cond b w (cond c None o)
twice true c w x o = refl
twice false c w x o = refl

pub renamed_after_room : (n : Directory) (src dst : Path) (old room : File) → file_at n src ≡ Some old → with_file dst (renamed_of old) (without_file src (with_file dst room n)) ≡ after_rename src dst n
renamed_after_room n src dst old room stands =
    let here : Path → Bool = λ q. eq_by_cmp (slice_cmp nat_cmp) q dst in
    let there : Path → Bool = λ q. eq_by_cmp (slice_cmp nat_cmp) q src in
    same_directory _ (with_file dst (renamed_of old) (without_file src n)) refl (λ q.
    finite.get-insert nat_list_cmp_total (without_file src (with_file dst room n)).files dst (renamed_of old) q
    ∙ ap (cond (here q) (Some (renamed_of old))) (finite.get-remove nat_list_cmp_total (with_file dst room n).files src q ∙ ap (cond (there q) None) (finite.get-insert nat_list_cmp_total n.files dst room q))
    ∙ twice (here q) (there q) (Some (renamed_of old)) (Some room) (file_at n q)
    ∙ ap (cond (here q) (Some (renamed_of old))) (sym (finite.get-remove nat_list_cmp_total n.files src q)) ∙ sym (finite.get-insert nat_list_cmp_total (without_file src n).files dst (renamed_of old) q))
    ∙ ap (λ o. after_rename_at src dst o n) (sym stands)

once : (b : Bool) (w : Option File) (o : Option File) → cond b w o ≡ cond b w (cond b None o)
once true w o = refl
once false w o = refl

-- a file that is given its own name
pub renamed_in_place : (n : Directory) (p : Path) → update_file p renamed_of n ≡ after_rename p p n
renamed_in_place n p = by_file (file_at n p)
  where
    by_file : (found : Option File) → update_at p renamed_of found n ≡ after_rename_at p p found n
    by_file None = refl
    by_file (Some file) = same_directory (with_file p (renamed_of file) n) (with_file p (renamed_of file) (without_file p n)) refl (λ q.
        finite.get-insert nat_list_cmp_total n.files p (renamed_of file) q ∙ once (eq_by_cmp (slice_cmp nat_cmp) q p) (Some (renamed_of file)) (file_at n q)
        ∙ ap (cond (eq_by_cmp (slice_cmp nat_cmp) q p) (Some (renamed_of file))) (sym (finite.get-remove nat_list_cmp_total n.files p q)) ∙ sym (finite.get-insert nat_list_cmp_total (without_file p n).files p (renamed_of file) q))

-- the same of a tree
pub file_at-namespace_directory : (t : Namespace) (p : Path) → file_at (namespace_directory t) p ≡ tree.get_by_text t.files p
file_at-namespace_directory t p = file_at-directory_of t.files (folders_of t.folders.items) p

pub found_in : (t : Namespace) (p : Path) (file : File) → tree.get_by_text t.files p ≡ Some file → IsSome (file_at (namespace_directory t) p)
found_in t p file stands = ap is_some (file_at-namespace_directory t p ∙ stands)

-- Moments of a call.

-- what a call leaves that changes one file is a moment of it
pub changing : (path : Path) (step : Bool → List ℕ → File → File) (wanted : List ℕ → List ℕ) (IsPart : List ℕ → List ℕ → Type 0) (old new : Directory) (is_done : Bool) (left : List ℕ → List ℕ)
    → ((now : List ℕ) → Outcome is_done (wanted now) (IsPart now) (left now)) → new ≡ update_file path (λ f. step is_done (left f.now) f) old → IsChanging path step wanted IsPart old new
changing path step wanted IsPart old new is_done left outcome is = at_file (file_at old path) refl
  where
    at_file : (o : Option File) → file_at old path ≡ o → IsChanging path step wanted IsPart old new
    at_file None e = inl (is ∙ ap (λ o. update_at path (λ f. step is_done (left f.now) f) o old) e)
    at_file (Some file) e = inr (file, left file.now, is_done, e, outcome file.now, is ∙ ap (λ o. update_at path (λ f. step is_done (left f.now) f) o old) e)
