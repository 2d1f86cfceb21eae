-- The files of a crashed directory, one by one.
use Rattle.raft_env.proofs.DirectoryLemmas.{same_path}
use Rattle.std.proofs.Common.{◌≡◌, ℕ, Bool, true, false, cond, eqb, List, [], ◌∷◌, ◌++◌, length, map, Option, Some, None, refl, sym, ◌∙◌, ap, subst, append_assoc, ◌||◌, arith}
use Rattle.std.specs.Prelude.{String, option_map, slice_index_or}
use Rattle.std.specs.List.{AllByRecursion, list_any, position_or_len}
use Rattle.std.specs.List.Sorted.{IsStrictlySortedBy}
use Rattle.std.specs.declared.alloc.Global.{Global}
use Rattle.std.specs.declared.cmp.Ordering.TheVariants.{Less}
use Rattle.std.specs.String.{string_bytes, string_cmp}
use Rattle.std.specs.Str.{bytes_eq}
use Rattle.std.specs.Ordering.{nat_cmp, is_eq}
use Rattle.std.specs.Cmp.Lexicographic.{slice_cmp, nat_list_cmp_total}
use Rattle.std.specs.Cmp.{eq_by_cmp_equiv}
use Rattle.std.specs.BTreeMap as tree
use Rattle.std.specs.FinMap as finite
use Rattle.std.proofs.lemmas.Map.Text.{btree_map_updates_text, is_eq-slice_cmp}
use Rattle.std.proofs.lemmas.Slice.Eq.{bytes_eq-Decides}
use Rattle.raft_base.specs.declared.errors.Fault.{Fault}
use Rattle.raft_base.specs.declared.errors.Fault.TheVariants as fault
use Rattle.raft_env.specs.Outcomes.{File, MayLeave, synced_file}
use Rattle.raft_env.specs.Directory.{Path, CrashImage, Leaves, IsRestarted, file_at, is_on_way}
use Rattle.raft_memory.specs.Files.{Files, folders_of, namespace_directory}
use Rattle.raft_memory.specs.Choice.{bytes_by_choice, bytes_by_choice_at, choice_for, left_by, RefusesUnless}
use Rattle.raft_memory.specs.Crashed.{Stands, Copied, IsLeft, Puts, at_path}
use Rattle.raft_memory.specs.declared.namespace.Namespace.{Namespace}
use Rattle.raft_memory.specs.declared.crash.Choice.{Choice}
use Rattle.raft_memory.specs.declared.crash.Choice.TheVariants as choice
use Rattle.raft_memory.proofs.MemoryLemmas.{file_at-namespace_directory}
use Rattle.raft_memory.proofs.FilesLemmas.{keys-directory_of, any_by_bytes}

abbrev Entry : Type 0
Entry = String Global × File

behind : (b : Bool) (e f : File) (o o' : Option File) → (o ≡ None → o' ≡ Some f) → cond b (Some e) o ≡ None → cond b (Some e) o' ≡ Some f
behind true e f o o' rest found = absurd cc
behind false e f o o' rest found = rest found

turned : (p q : Path) → is_eq (slice_cmp nat_cmp p q) ≡ is_eq (slice_cmp nat_cmp q p)
turned p q = (eq_by_cmp_equiv nat_list_cmp_total).symm p q

-- the first entry at a path, after those that don't stand there
push_same : (es later : List Entry) (k : String Global) (f : File) (p : Path) → is_eq (slice_cmp nat_cmp p (string_bytes k)) ≡ true → at_path p es ≡ None → at_path p (es ++ (k, f) ∷ later) ≡ Some f
push_same [] later k f p same none = ap (λ b. cond b (Some f) (at_path p later)) same
push_same (e ∷ es) later k f p same none = behind (is_eq (slice_cmp nat_cmp p (string_bytes e.0))) e.1 f (at_path p es) (at_path p (es ++ (k, f) ∷ later)) (push_same es later k f p same) none

push_other : (es : List Entry) (k : String Global) (f : File) (p : Path) → is_eq (slice_cmp nat_cmp p (string_bytes k)) ≡ false → at_path p (es ++ (k, f) ∷ []) ≡ at_path p es
push_other [] k f p apart = ap (λ b. cond b (Some f) None) apart
push_other (e ∷ es) k f p apart = ap (cond (is_eq (slice_cmp nat_cmp p (string_bytes e.0))) (Some e.1)) (push_other es k f p apart)

among : (P : String Global → Type 0) (es rest : List Entry) (k : String Global) (f : File) → AllByRecursion P (map (λ e. e.0) (es ++ (k, f) ∷ rest)) → P k
among P [] rest k f all = all.0
among P (e ∷ es) rest k f all = among P es rest k f all.1

-- a later key is not among the earlier ones
absent : (es rest : List Entry) (k : String Global) (f : File) → IsStrictlySortedBy string_cmp (map (λ e. e.0) (es ++ (k, f) ∷ rest)) → at_path (string_bytes k) es ≡ None
unfolding IsStrictlySortedBy
absent [] rest k f sorted = refl
absent (e ∷ es) rest k f sorted =
    let less = among (λ y. string_cmp e.0 y ≡ Less) es rest k f sorted.0 in
    let apart : is_eq (slice_cmp nat_cmp (string_bytes k) (string_bytes e.0)) ≡ false = turned (string_bytes k) (string_bytes e.0) ∙ ap is_eq less in
    ap (λ b. cond b (Some e.1) (at_path (string_bytes k) es)) apart ∙ absent es rest k f sorted.1

missed : (b : Bool) (e : File) (o : Option File) → cond b (Some e) o ≡ None → (b ≡ false) × (o ≡ None)
missed true e o none = absurd cc
missed false e o none = (refl, none)

-- the place of a path among the keys
position_there : (es later : List Entry) (k : String Global) (f : File) → at_path (string_bytes k) es ≡ None → position_or_len (bytes_eq (string_bytes k)) (map string_bytes (map (λ e. e.0) (es ++ (k, f) ∷ later))) ≡ length es
position_there [] later k f none = rw ((bytes_eq-Decides (string_bytes k) (string_bytes k)).1 refl) refl
position_there (e ∷ es) later k f none =
    let apart = missed (is_eq (slice_cmp nat_cmp (string_bytes k) (string_bytes e.0))) e.1 (at_path (string_bytes k) es) none in
    let test : bytes_eq (string_bytes k) (string_bytes e.0) ≡ false = sym (is_eq-slice_cmp (string_bytes k) (string_bytes e.0)) ∙ apart.0 in
    let rest = position_there es later k f apart.1 in
    rw (test, rest) (omega arith)

copied_more : (R : Path → File → File → Type 0) (es : List Entry) (k : String Global) (file copy : File) (m n : Files) → Copied R es m → at_path (string_bytes k) es ≡ None
    → Puts m n (string_bytes k) copy → R (string_bytes k) file copy → Copied R (es ++ (k, file) ∷ []) n
copied_more R es k file copy m n so_far none updates holds = record { each = λ p. go p (is_eq (slice_cmp nat_cmp p (string_bytes k))) refl }
  where
    read : (p : Path) → tree.get_by_text n p ≡ cond (bytes_eq (string_bytes k) p) (Some copy) (tree.get_by_text m p)
    read p = btree_map_updates_text (string_bytes k) m n (Some copy) updates p

    test : (p : Path) → bytes_eq (string_bytes k) p ≡ is_eq (slice_cmp nat_cmp p (string_bytes k))
    test p = sym (is_eq-slice_cmp (string_bytes k) p) ∙ turned (string_bytes k) p

    go : (p : Path) (b : Bool) → is_eq (slice_cmp nat_cmp p (string_bytes k)) ≡ b → Stands (R p) (at_path p (es ++ (k, file) ∷ [])) (tree.get_by_text n p)
    go p true e =
        let p_is : p ≡ string_bytes k = (bytes_eq-Decides p (string_bytes k)).0 (sym (is_eq-slice_cmp p (string_bytes k)) ∙ e) in
        let first = push_same es [] k file p e (ap (λ (q : Path). at_path q es) p_is ∙ none) in
        let second = read p ∙ ap (λ b. cond b (Some copy) (tree.get_by_text m p)) (test p ∙ e) in
        rw (first, second) (subst (λ (q : Path). R q file copy) (sym p_is) holds)
    go p false e =
        let first = push_other es k file p e in
        let second = read p ∙ ap (λ b. cond b (Some copy) (tree.get_by_text m p)) (test p ∙ e) in
        rw (first, second) (so_far.each p)

module _ (choices : List Choice) (t : Namespace) (done rest later : List Entry) (k : String Global) (file : File) (whole : done ++ rest ≡ t.files.entries) (rest_is : rest ≡ (k, file) ∷ later) (sorted : tree.IsOrdered string_cmp t.files) where
  split : done ++ (k, file) ∷ later ≡ t.files.entries
  split = ap (λ (l : List Entry). done ++ l) (sym rest_is) ∙ whole

  none_before : at_path (string_bytes k) done ≡ None
  none_before = absent done later k file (subst (λ (l : List Entry). IsStrictlySortedBy string_cmp (map (λ e. e.0) l)) (sym split) sorted)

  stands : file_at (namespace_directory t) (string_bytes k) ≡ Some file
  stands = file_at-namespace_directory t (string_bytes k) ∙ ap (at_path (string_bytes k)) (sym split) ∙ push_same done later k file (string_bytes k) (same_path (string_bytes k)) none_before

  -- the file's choice is the one at its turn
  pub left_at_turn : left_by choices (namespace_directory t) (string_bytes k) ≡ bytes_by_choice (slice_index_or choices (length done) choice.Synced) file
  left_at_turn =
      let keys = keys-directory_of t.files (folders_of t.folders.items) sorted ∙ ap (λ (l : List Entry). map string_bytes (map (λ e. e.0) l)) (sym split) in
      let turn = ap (position_or_len (bytes_eq (string_bytes k))) keys ∙ position_there done later k file none_before in
      ap (λ o. bytes_by_choice_at (choice_for choices (finite.keys (namespace_directory t).files) (string_bytes k)) o) stands ∙ ap (λ (i : ℕ). bytes_by_choice (slice_index_or choices i choice.Synced) file) turn

  -- one turn of the loop
  pub copied_turn : (m n : Files) → Copied (IsLeft (left_by choices (namespace_directory t))) done m → Puts m n (string_bytes k) (synced_file (bytes_by_choice (slice_index_or choices (length done) choice.Synced) file))
      → MayLeave file (bytes_by_choice (slice_index_or choices (length done) choice.Synced) file)
      → ((done ++ (k, file) ∷ []) ++ later ≡ t.files.entries) × Copied (IsLeft (left_by choices (namespace_directory t))) (done ++ (k, file) ∷ []) n
  copied_turn m n so_far puts may = (
    append_assoc done ((k, file) ∷ []) later ∙ split,
    copied_more _ done k file _ m n so_far none_before puts (subst (MayLeave file) (sym left_at_turn) may, ap synced_file (sym left_at_turn)),
  )

  -- what storage may not leave of this file it may not leave at all
  pub allowed_here : Leaves (namespace_directory t) (left_by choices (namespace_directory t)) → MayLeave file (bytes_by_choice (slice_index_or choices (length done) choice.Synced) file)
  allowed_here leaves = subst (MayLeave file) left_at_turn (leaves.each (string_bytes k) file stands)

pub refuses_unless_more : (P Q : Type 0) (e : Fault) → (Q → P) → RefusesUnless P e → RefusesUnless Q e
refuses_unless_more P Q (fault.InvalidArgument t) f refused = λ q. refused (f q)
refuses_unless_more P Q fault.Memory f refused = tt
refuses_unless_more P Q _ f refused = refused

same_folders : (made copies : List (String Global)) → map string_bytes copies ≡ map string_bytes made → folders_of copies ≡ folders_of made
same_folders made copies is =
    let same : (q : Path) → folders_of copies q ≡ folders_of made q = λ q.
    ap (λ b. eqb (length q) 0 || b) (sym (any_by_bytes (is_on_way q) copies) ∙ ap (list_any (is_on_way q)) is ∙ any_by_bytes (is_on_way q) made) in
    λ i. λ q. same q i

-- at the end each file of the old tree has its copy
module _ (d : CrashImage) (t n : Namespace) (all : Copied (IsLeft d) t.files.entries n.files) where
  leaves_at : (p : Path) (file : File) (o c : Option File) → Stands (IsLeft d p) o c → o ≡ Some file → MayLeave file (d p)
  leaves_at p file None c pair is = absurd cc
  leaves_at p file (Some f) None pair is = absurd pair
  leaves_at p file (Some f) (Some copy) pair is =
      let same : f ≡ file = cc in
      subst (λ (x : File). MayLeave x (d p)) same pair.0

  holds_at : (p : Path) (o c : Option File) → Stands (IsLeft d p) o c → c ≡ option_map (λ _. synced_file (d p)) o
  holds_at p None None pair = refl
  holds_at p None (Some copy) pair = absurd pair
  holds_at p (Some f) None pair = absurd pair
  holds_at p (Some f) (Some copy) pair = ap Some pair.1

  pub leaves_all : Leaves (namespace_directory t) d
  leaves_all = record { each = λ p file is. leaves_at p file (at_path p t.files.entries) (tree.get_by_text n.files p) (all.each p) (sym (file_at-namespace_directory t p) ∙ is) }

  pub restarted : map string_bytes n.folders.items ≡ map string_bytes t.folders.items → IsRestarted (namespace_directory t) d (namespace_directory n)
  restarted folders = record {
    each = λ p. file_at-namespace_directory n p ∙ holds_at p (at_path p t.files.entries) (tree.get_by_text n.files p) (all.each p) ∙ ap (option_map (λ _. synced_file (d p))) (sym (file_at-namespace_directory t p));
    folders = same_folders t.folders.items n.folders.items folders;
  }
