-- The keys of a directory are those of its map, in order.
use Rattle.std.proofs.Common.{◌≡◌, Bool, true, false, List, [], ◌∷◌, map, refl, sym, ◌∙◌, ap, subst}
use Rattle.std.specs.Prelude.{String, ◌&&◌, ◌||◌}
use Rattle.std.specs.List.{AllByRecursion, list_any}
use Rattle.std.specs.List.Sorted.{IsStrictlySortedBy}
use Rattle.std.specs.declared.alloc.Global.{Global}
use Rattle.std.specs.declared.cmp.Ordering.TheVariants.{Less}
use Rattle.std.specs.String.{string_bytes, string_cmp}
use Rattle.std.specs.Ordering.{nat_cmp, is_lt}
use Rattle.std.specs.Cmp.Lexicographic.{slice_cmp, nat_list_cmp_total}
use Rattle.std.specs.BTreeMap as tree
use Rattle.std.specs.FinMap as finite
use Rattle.std.specs.FinMap.Entries.{is_sorted, below_all}
use Rattle.std.proofs.Math.Dec.{T}
use Rattle.raft_env.specs.Outcomes.{File}
use Rattle.raft_env.specs.Directory.{Path}
use Rattle.raft_memory.specs.Files.{Files, by_bytes, directory_of}
use Rattle.raft_memory.proofs.MemoryLemmas.{path_cmp-IsAntisymmetric}

joined : (a b : Bool) → T a → T b → T (a && b)
joined true b x y = y
joined false b x y = absurd x

below : (k : String Global) (es : List (String Global × File)) → AllByRecursion (λ y. string_cmp k y ≡ Less) (map (λ e. e.0) es) → T (below_all (slice_cmp nat_cmp) (string_bytes k) (by_bytes es))
below k [] all = tt
below k (e ∷ es) all = joined _ _ (subst (λ r. T (is_lt r)) (sym all.0) tt) (below k es all.1)

rises : (es : List (String Global × File)) → IsStrictlySortedBy string_cmp (map (λ e. e.0) es) → T (is_sorted (slice_cmp nat_cmp) (by_bytes es))
unfolding IsStrictlySortedBy
rises [] sorted = tt
rises (e ∷ es) sorted = joined _ _ (below e.0 es sorted.0) (rises es sorted.1)

keys_by_bytes : (es : List (String Global × File)) → map (λ e. e.0) (by_bytes es) ≡ map string_bytes (map (λ e. e.0) es)
keys_by_bytes [] = refl
keys_by_bytes (e ∷ es) = ap (λ (l : List Path). string_bytes e.0 ∷ l) (keys_by_bytes es)

pub keys-directory_of : (m : Files) (is_folder : Path → Bool) → tree.IsOrdered string_cmp m → finite.keys (directory_of m is_folder).files ≡ map string_bytes (tree.keys m)
keys-directory_of m is_folder ordered =
    let sorted = rises m.entries ordered in
    let same = finite.same_map nat_list_cmp_total path_cmp-IsAntisymmetric (finite.from_entries (by_bytes m.entries)) (finite.from_sorted (by_bytes m.entries)) (λ q.
    finite.get-from_entries nat_list_cmp_total (by_bytes m.entries) q ∙ sym (finite.get-from_sorted (slice_cmp nat_cmp) (by_bytes m.entries) q sorted)) in
    ap (λ (x : finite.FinMap (slice_cmp nat_cmp) File). map (λ e. e.0) (finite.entries x)) same ∙ ap (λ (l : List (Path × File)). map (λ e. e.0) l) (finite.entries-from_sorted (slice_cmp nat_cmp) (by_bytes m.entries) sorted) ∙ keys_by_bytes m.entries

pub any_by_bytes : (test : Path → Bool) (keys : List (String Global)) → list_any test (map string_bytes keys) ≡ list_any (λ k. test (string_bytes k)) keys
any_by_bytes test [] = refl
any_by_bytes test (k ∷ keys) = ap (λ b. test (string_bytes k) || b) (any_by_bytes test keys)
