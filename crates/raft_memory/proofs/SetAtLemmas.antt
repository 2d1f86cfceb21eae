-- What is set at a path of a sorted map or set, and what a copy of one has.
use Rattle.std.proofs.Common.{◌≡◌, ℕ, ◌-◌, ◌^◌, Bool, true, false, cond, List, [], ◌∷◌, Option, Some, refl, sym, ◌∙◌, ap, inl, inr}
use Rattle.std.specs.Prelude.{◌||◌, String, unwrap_or}
use Rattle.std.specs.declared.alloc.Global.{Global}
use Rattle.std.specs.List.{AllZip, list_any}
use Rattle.std.specs.String.{string_bytes, string_cmp}
use Rattle.std.specs.Str.{bytes_eq}
use Rattle.std.specs.Ordering.{nat_cmp, eq_by_cmp}
use Rattle.std.specs.Cmp.Lexicographic.{slice_cmp, bytes_decides}
use Rattle.std.specs.Map.{lookup}
use Rattle.std.specs.BTreeMap as tree
use Rattle.std.specs.BTreeSet as set
use Rattle.std.proofs.lemmas.Bool.{cases_Bool}
use Rattle.std.proofs.lemmas.Map.Text.{btree_map_updates_text, btree_set_updates_text}
use Rattle.raft_env.specs.Directory.{Path}
use Rattle.raft_memory.specs.Memory.{free_in, set_at}

given_else : (b : Bool) (x default : ℕ) (before : Option ℕ) → unwrap_or (cond b (Some x) before) default ≡ cond b x (unwrap_or before default)
given_else true x default before = refl
given_else false x default before = refl

pub free_in-set : (m n : tree.BTreeMap (String Global) ℕ) (path : Path) (x : ℕ) → tree.UpdatesBy string_cmp (λ k. slice_cmp nat_cmp path (string_bytes k)) m n (Some x) → free_in n ≡ set_at path x (free_in m)
free_in-set m n path x updates =
    let each : (q : Path) → free_in n q ≡ set_at path x (free_in m) q = λ q.
    ap (λ o. unwrap_or o (2 ^ 64 - 1)) (btree_map_updates_text path m n (Some x) updates q) ∙ given_else (bytes_eq path q) x (2 ^ 64 - 1) (tree.get_by_text m q) in
    λ i q. each q i

pub contains_text-set : (s t : set.BTreeSet (String Global)) (path : Path) (b : Bool) → set.UpdatesBy string_cmp (λ k. slice_cmp nat_cmp path (string_bytes k)) s t b → set.contains_text t ≡ set_at path b (set.contains_text s)
contains_text-set s t path b updates =
    let each : (q : Path) → set.contains_text t q ≡ set_at path b (set.contains_text s) q = btree_set_updates_text path s t b updates in
    λ i q. each q i

-- .. which is as before at any other path
pub contains_text-elsewhere : (s t : set.BTreeSet (String Global)) (path q : Path) (b : Bool) → set.UpdatesBy string_cmp (λ k. slice_cmp nat_cmp path (string_bytes k)) s t b → (q ≡ path → ⊥) → set.contains_text t q ≡ set.contains_text s q
contains_text-elsewhere s t path q b updates other =
    elim (cases_Bool (bytes_eq path q)) [
      | inl same ↦ absurd (other (sym ((bytes_decides path q).0 same)))
      | inr differ ↦ btree_set_updates_text path s t b updates q ∙ ap (λ c. cond c b (set.contains_text s q)) differ
    ]

-- Copies.

lookup-copy : (q : Path) (es fs : List (String Global × ℕ)) → AllZip (λ e f. (string_bytes f.0 ≡ string_bytes e.0) × (f.1 ≡ e.1)) es fs
    → lookup (tree.is_at (λ k. slice_cmp nat_cmp q (string_bytes k))) fs ≡ lookup (tree.is_at (λ k. slice_cmp nat_cmp q (string_bytes k))) es
lookup-copy q [] [] same = refl
lookup-copy q [] (f ∷ fs) same = absurd same
lookup-copy q (e ∷ es) [] same = absurd same
lookup-copy q (e ∷ es) (f ∷ fs) same =
    let rest = lookup-copy q es fs same.1 in
    λ i. cond (eq_by_cmp (slice_cmp nat_cmp) q (same.0.0 i)) (Some (same.0.1 i)) (rest i)

list_any-copy : (q : Path) (ks ls : List (String Global)) → AllZip (λ k l. string_bytes l ≡ string_bytes k) ks ls
    → list_any (tree.is_at (λ k. slice_cmp nat_cmp q (string_bytes k))) ls ≡ list_any (tree.is_at (λ k. slice_cmp nat_cmp q (string_bytes k))) ks
list_any-copy q [] [] same = refl
list_any-copy q [] (l ∷ ls) same = absurd same
list_any-copy q (k ∷ ks) [] same = absurd same
list_any-copy q (k ∷ ks) (l ∷ ls) same =
    let rest = list_any-copy q ks ls same.1 in
    λ i. eq_by_cmp (slice_cmp nat_cmp) q (same.0 i) || rest i

pub free_in-copy : (m n : tree.BTreeMap (String Global) ℕ) → tree.IsClone (λ s t. string_bytes t ≡ string_bytes s) (λ x y. y ≡ x) m n → free_in n ≡ free_in m
free_in-copy m n same = λ i q. unwrap_or (lookup-copy q m.entries n.entries same i) (2 ^ 64 - 1)

pub contains_text-copy : (s t : set.BTreeSet (String Global)) → set.IsClone (λ k l. string_bytes l ≡ string_bytes k) s t → set.contains_text t ≡ set.contains_text s
contains_text-copy s t same = λ i q. list_any-copy q s.keys t.keys same i
