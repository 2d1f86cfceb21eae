-- Calls keep files consistent, and storage may leave of such a file all bytes now.
use Rattle.std.proofs.Common.{◌≡◌, ◌⊎◌, ℕ, ◌+◌, ◌-◌, ◌<◌, ◌≤◌, ◌==◌, min, max, Bool, true, false, cond, List, [], ◌∷◌, ◌++◌, length, take, replicate, slice_index, Option, Some, None, is_some, refl, ap, sym, subst, ◌∙◌, inl, inr, arith}
use Rattle.std.specs.Prelude.{option_map}
use Rattle.std.proofs.lemmas.Bool.{cases_Bool, cases_lt, eqb-true, or_parts, or_from}
use Rattle.std.proofs.lemmas.Bool.Decides.{nat_tests}
use Rattle.std.proofs.lemmas.List.{get_or-take, get_or_append_left, length-append, length-take}
use Rattle.std.proofs.lemmas.Option.{same_Some}
use Rattle.std.specs.Ordering.{nat_cmp, eq_by_cmp}
use Rattle.std.specs.Cmp.Lexicographic.{slice_cmp, nat_list_cmp_total}
use Rattle.std.specs.FinMap as finite
use Rattle.raft_env.specs.Outcomes.{File, Change, MayLeave, Outcome, IsPartOf, IsCutOf, is_within, is_touched, bytes_after, untouched_len, least_len, greatest_len, changed_by, file_after_write, lengthened_to, cut_to, synced_of, synced_file, renamed_of, pad_to, overlay}
use Rattle.raft_env.specs.Directory.{Directory, CrashImage, Path, file_at, with_file, without_file, after_rename, after_rename_at, update_file, update_at, after_create, IsMakingFolder, IsChanging, IsWriting, IsTruncating, IsAllocating, IsOneOf, IsRestarted}
use Rattle.raft_env.specs.Consistent.{HasItsRange, HasItsLength, IsPastOf, IsConsistent, AreConsistent}
use Rattle.raft_env.proofs.DirectoryLemmas.{file_at-making}
use Rattle.raft_env.proofs.OutcomesOverlayLemmas.{overlaid_bounds, overlaid_outside_part, longest_of-more}
use Rattle.raft_env.proofs.OutcomesLemmas.{not_within}

-- Files.

pub settled_consistent : (bytes : List ℕ) → IsConsistent (synced_file bytes)
settled_consistent bytes = record { latest = refl; untouched = λ i within apart. (within, refl); past = tt; earlier = tt }

pub synced_consistent : (file : File) → IsConsistent file → IsConsistent (synced_of file)
synced_consistent file is = record { latest = refl; untouched = λ i within apart. (within, refl); past = is.past; earlier = is.past }

-- outside its range a change leaves what stood there
pub record KeepsOutside (old : List ℕ) (c : Change) : Type 0 where
  pub outside : (i : ℕ) → i < length old → is_within c.from c.size i ≡ false → (i < length c.after) × (slice_index c.after i ≡ slice_index old i)

consistent_more : (file : File) (c : Change) → IsConsistent file → c.before ≡ file.now → HasItsRange c → HasItsLength c → KeepsOutside file.now c → IsConsistent (changed_by c file)
consistent_more file c old before range len keeps = record {
  latest = refl;
  untouched = λ i within apart.
      let each = or_parts (is_within c.from c.size i) (is_touched file.changes i) apart in
      let stood = old.untouched i within each.1 in
      let stands = keeps.outside i stood.0 each.0 in
      (stands.0, stands.1 ∙ stood.1);
  past = (refl, range, len, subst (λ bytes. IsPastOf bytes (file.changes ++ file.older)) (sym before) old.past);
  earlier = old.earlier;
}

part_outside : (at len : ℕ) (old : List ℕ) (c : Change) → c.from ≡ at → c.size ≡ len → IsPartOf at len old c.after → KeepsOutside old c
part_outside at len old c from size part = record {
  outside = λ i within apart. (omega (arith, part.no_shorter), part.elsewhere i within (ap (λ n. is_within n len i) (sym from) ∙ ap (λ n. is_within c.from n i) (sym size) ∙ apart));
}

-- a write, done or not
pub written_consistent : (at : ℕ) (given after : List ℕ) (is_done : Bool) (file : File) → IsConsistent file → Outcome is_done (overlay file.now at given) (IsPartOf at (length given) file.now) after → IsConsistent (file_after_write at given is_done after file)
written_consistent at given after true file old done = consistent_more file _ old refl (omega arith) (omega arith, omega arith) (record {
  outside = λ i within apart. (
    omega (arith, ap length done, (overlaid_bounds file.now at given).0),
    ap (λ b. slice_index b i) done ∙ overlaid_outside_part file.now at (length given) given (omega arith) i apart,
  );
})
written_consistent at given after false file old part = consistent_more file _ old refl (omega arith) (omega arith, longest_of-more false at (length given) (length after)) (part_outside at (length given) file.now _ refl refl part)

-- an allocation
pub allocated_consistent : (size : ℕ) (after : List ℕ) (is_done : Bool) (file : File) → IsConsistent file → Outcome is_done (pad_to file.now size) (IsPartOf (length file.now) (size - length file.now) file.now) after → IsConsistent (lengthened_to size is_done after file)
allocated_consistent size after true file old done =
    let zeros : List ℕ = replicate (size - length file.now) 0 in
    consistent_more file _ old refl (omega arith) (omega arith, omega arith) (record {
      outside = λ i within apart. (
        omega (arith, ap length done, length-append file.now zeros),
        ap (λ b. slice_index b i) done ∙ get_or_append_left file.now zeros 0 i within,
      );
    })
allocated_consistent size after false file old part = consistent_more file _ old refl (omega arith) (omega arith, omega arith) (record {
  outside = λ i within apart. (omega (arith, part.no_shorter), part.elsewhere i within (not_within (length file.now) (size - length file.now) i (inl within)));
})

outside_is : (from size i : ℕ) → is_within from size i ≡ false → (i < from) ⊎ (from + size ≤ i)
outside_is from size i apart = elim (cases_lt i from) [
  | inl before ↦ inl before
  | inr behind ↦ inr (past behind)
]
  where
    past : from ≤ i → from + size ≤ i
    past behind = grind (arith, nat_tests)

-- a truncation
pub cut_consistent : (size : ℕ) (after : List ℕ) (is_done : Bool) (file : File) → IsConsistent file → Outcome is_done (take size file.now) (IsCutOf size file.now) after → IsConsistent (cut_to size is_done after file)
cut_consistent size after true file old done = consistent_more file _ old refl (omega arith) (omega arith, omega arith) (record {
  outside = λ i within apart.
      let len = ap length done ∙ length-take size file.now in
      let before : i < length after = elim (outside_is (min (length after) (length file.now)) (max (length after) (length file.now) - min (length after) (length file.now)) i apart) [
        | inl front ↦ omega arith
        | inr behind ↦ absurd (omega arith)
      ] in
      (before, ap (λ b. slice_index b i) done ∙ get_or-take size file.now i 0 (omega (arith, len)));
})
cut_consistent size after false file old part = consistent_more file _ old refl (omega arith) (omega arith, omega arith) (record {
  outside = λ i within apart.
      let most = min size (length file.now) in
      let before : i < most = elim (outside_is most (length file.now - most) i apart) [
        | inl front ↦ front
        | inr behind ↦ absurd (omega arith)
      ] in (
        omega (arith, part.no_shorter),
        sym (get_or-take most after i 0 before) ∙ ap (λ b. slice_index b i) part.kept ∙ get_or-take most file.now i 0 before,
      );
})

-- Directories.

pub placed_cases : (path q : Path) (file found : File) (n : Directory) → file_at (with_file path file n) q ≡ Some found → (file ≡ found) ⊎ (file_at n q ≡ Some found)
placed_cases path q file found n stands = by_test (eq_by_cmp (slice_cmp nat_cmp) q path) (sym (finite.get-insert nat_list_cmp_total n.files path file q) ∙ stands)
  where
    by_test : (same : Bool) → cond same (Some file) (file_at n q) ≡ Some found → (file ≡ found) ⊎ (file_at n q ≡ Some found)
    by_test true e = inl (same_Some file found e)
    by_test false e = inr e

placed_consistent : (path : Path) (file : File) (n : Directory) → AreConsistent n → IsConsistent file → AreConsistent (with_file path file n)
placed_consistent path file n old is q found stands = elim (placed_cases path q file found n stands) [
  | inl same ↦ subst IsConsistent same is
  | inr stood ↦ old q found stood
]

changing_consistent : (path : Path) (step : Bool → List ℕ → File → File) (wanted : List ℕ → List ℕ) (IsPart : List ℕ → List ℕ → Type 0) (old new : Directory) →
    ((after : List ℕ) (is_done : Bool) (file : File) → IsConsistent file → Outcome is_done (wanted file.now) (IsPart file.now) after → IsConsistent (step is_done after file)) →
    AreConsistent old → IsChanging path step wanted IsPart old new → AreConsistent new
changing_consistent path step wanted IsPart old new each all (inl same) = subst AreConsistent (sym same) all
changing_consistent path step wanted IsPart old new each all (inr (file, after, is_done, stands, outcome, is)) =
    subst AreConsistent (sym is) (placed_consistent path (step is_done after file) old all (each after is_done file (all path file stands) outcome))

pub writing_consistent : (path : Path) (at : ℕ) (given : List ℕ) (old new : Directory) → AreConsistent old → IsWriting path at given old new → AreConsistent new
writing_consistent path at given old new = changing_consistent path _ _ _ old new (written_consistent at given)

pub allocating_consistent : (path : Path) (size : ℕ) (old new : Directory) → AreConsistent old → IsAllocating path size old new → AreConsistent new
allocating_consistent path size old new = changing_consistent path _ _ _ old new (allocated_consistent size)

pub truncating_consistent : (path : Path) (size : ℕ) (old new : Directory) → AreConsistent old → IsTruncating path size old new → AreConsistent new
truncating_consistent path size old new = changing_consistent path _ _ _ old new (cut_consistent size)

pub syncing_consistent : (path : Path) (old new : Directory) → AreConsistent old → IsOneOf old (update_file path synced_of old) new → AreConsistent new
syncing_consistent path old new all (inl same) = subst AreConsistent (sym same) all
syncing_consistent path old new all (inr is) = subst AreConsistent (sym is) (by_file (file_at old path) refl)
  where
    by_file : (found : Option File) → file_at old path ≡ found → AreConsistent (update_at path synced_of found old)
    by_file None stands = all
    by_file (Some file) stands = placed_consistent path (synced_of file) old all (synced_consistent file (all path file stands))

pub creating_consistent : (path : Path) (old new : Directory) → AreConsistent old → IsOneOf old (after_create path old) new → AreConsistent new
creating_consistent path old new all (inl same) = subst AreConsistent (sym same) all
creating_consistent path old new all (inr is) = subst AreConsistent (sym is) (by_test (is_some (file_at old path)))
  where
    by_test : (stands : Bool) → AreConsistent (cond stands old (with_file path (synced_file []) old))
    by_test true = all
    by_test false = placed_consistent path (synced_file []) old all (settled_consistent [])

removed_cases : (path q : Path) (found : File) (n : Directory) → file_at (without_file path n) q ≡ Some found → file_at n q ≡ Some found
removed_cases path q found n stands = by_test (eq_by_cmp (slice_cmp nat_cmp) q path) (sym (finite.get-remove nat_list_cmp_total n.files path q) ∙ stands)
  where
    by_test : (same : Bool) → cond same None (file_at n q) ≡ Some found → file_at n q ≡ Some found
    by_test true e = absurd cc
    by_test false e = e

-- what holds of each file holds of each that is left
pub without_each : (P : File → Type 0) (path : Path) (n : Directory) → ((q : Path) (file : File) → file_at n q ≡ Some file → P file) → (q : Path) (file : File) → file_at (without_file path n) q ≡ Some file → P file
without_each P path n each q file stands = each q file (removed_cases path q file n stands)

-- .. and of each file after a renaming, if it goes over to the renamed one
pub renamed_each : (P : File → Type 0) (src dst : Path) (n : Directory) → ((file : File) → P file → P (renamed_of file)) → ((q : Path) (file : File) → file_at n q ≡ Some file → P file)
    → (q : Path) (file : File) → file_at (after_rename src dst n) q ≡ Some file → P file
renamed_each P src dst n goes each = by_file (file_at n src) refl
  where
    by_file : (found : Option File) → file_at n src ≡ found → (q : Path) (file : File) → file_at (after_rename_at src dst found n) q ≡ Some file → P file
    by_file None none q file found = each q file found
    by_file (Some moved) stands q file found = elim (placed_cases dst q (renamed_of moved) file (without_file src n) found) [
      | inl same ↦ subst P same (goes moved (each src moved stands))
      | inr stood ↦ each q file (removed_cases src q file n stood)
    ]

pub renamed_consistent : (file : File) → IsConsistent file → IsConsistent (renamed_of file)
renamed_consistent file is = record { latest = is.latest; untouched = is.untouched; past = is.past; earlier = is.earlier }

pub deleting_consistent : (path : Path) (old new : Directory) → AreConsistent old → IsOneOf old (without_file path old) new → AreConsistent new
deleting_consistent path old new all (inl same) = subst AreConsistent (sym same) all
deleting_consistent path old new all (inr is) = subst AreConsistent (sym is) (without_each IsConsistent path old all)

pub renaming_consistent : (src dst : Path) (old new : Directory) → AreConsistent old → IsOneOf old (after_rename src dst old) new → AreConsistent new
renaming_consistent src dst old new all (inl same) = subst AreConsistent (sym same) all
renaming_consistent src dst old new all (inr is) = subst AreConsistent (sym is) (renamed_each IsConsistent src dst old renamed_consistent all)

pub folders_consistent : (path : Path) (old new : Directory) → AreConsistent old → IsMakingFolder path old new → AreConsistent new
folders_consistent path old new all making q file stands = all q file (sym (file_at-making path q old new making) ∙ stands)

pub restarted_consistent : (n m : Directory) (d : CrashImage) → IsRestarted n d m → AreConsistent m
restarted_consistent n m d restarted path file stands = by_file (file_at n path) (sym (restarted.each path) ∙ stands)
  where
    by_file : (found : Option File) → option_map (λ _. synced_file (d path)) found ≡ Some file → IsConsistent file
    by_file None e = cc
    by_file (Some f) e = subst IsConsistent (same_Some (synced_file (d path)) file e) (settled_consistent (d path))

-- What storage may leave.

pub length_now : (file : File) → IsConsistent file → (least_len file.synced file.changes ≤ length file.now) × (length file.now ≤ greatest_len file.synced file.changes)
length_now file is = by_changes file.changes is.latest is.past
  where
    by_changes : (changes : List Change) → file.now ≡ bytes_after file.synced changes → IsPastOf file.now (changes ++ file.older) → (least_len file.synced changes ≤ length file.now) × (length file.now ≤ greatest_len file.synced changes)
    by_changes [] latest past = (omega (arith, ap length latest), omega (arith, ap length latest))
    by_changes (c ∷ changes) latest past = (omega (arith, ap length latest, past.2.0), omega (arith, ap length latest, past.2.1))

pub now_may_be_left : (file : File) → IsConsistent file → MayLeave file file.now
now_may_be_left file is = record {
  no_shorter = (length_now file is).0;
  no_longer = (length_now file is).1;
  untouched = λ i within stood apart. (is.untouched i stood apart).1;
}

-- What no change touched.

pub nowhere : (from size i : ℕ) → size ≡ 0 → is_within from size i ≡ false
nowhere from size i none = elim (cases_lt i from) [
  | inl front ↦ not_within from size i (inl front)
  | inr behind ↦ not_within from size i (inr (omega (arith, none)))
]

pub before_is_untouched : (synced : List ℕ) (changes : List Change) (i : ℕ) → i < untouched_len synced changes → is_touched changes i ≡ false
before_is_untouched synced [] i before = refl
before_is_untouched synced (c ∷ changes) i before = elim (cases_Bool (c.size == 0)) [
  | inl none ↦
      let len = ap (λ b. cond b (untouched_len synced changes) (min c.from (untouched_len synced changes))) none in
      or_from _ _ (nowhere c.from c.size i (eqb-true c.size 0 none)) (before_is_untouched synced changes i (omega (arith, len)))
  | inr some ↦
      let len = ap (λ b. cond b (untouched_len synced changes) (min c.from (untouched_len synced changes))) some in
      or_from _ _ (not_within c.from c.size i (inl (omega (arith, len)))) (before_is_untouched synced changes i (omega (arith, len)))
]
