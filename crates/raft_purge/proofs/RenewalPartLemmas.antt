-- What a rewriting of some groups of the Rewrite queue leaves of it.
use Rattle.std.proofs.Common.{◌≡◌, ◌⊎◌, ◌≤◌, ◌∙◌, ◌&&◌, ℕ, Bool, true, false, List, [], ◌∷◌, Option, None, Some, ap, arith, inl, inr, refl, subst, sym}
use Rattle.std.specs.Prelude.{if◌then◌else◌, is_some, nat_eq}
use Rattle.std.specs.List.{AllByRecursion as Each, list_any}
use Rattle.std.proofs.lemmas.Bool.{and_parts, cases_Bool}
use Rattle.raft_base.specs.declared.pipe_log.LogQueue.TheVariants.{Rewrite}
use Rattle.raft_index_laws.proofs.KeyLemmas.{eq_from_test}
use Rattle.raft_index_laws.proofs.FirstLemmas.{nothing_rewritten_before}
use Rattle.raft_index_laws.specs.DroppingOld.{AreRewrittenFrom}
use Rattle.raft_pipes.specs.PipeState.{PipeState}
use Rattle.raft_records.specs.Item.{Batch}
use Rattle.raft_rewrite.specs.EmptiedAnew.{IsAllFrom, KeepsMovingFrom, MovesAllFrom, MovesGroupFrom}
use Rattle.raft_rewrite.specs.Gathering.{GatherState}
use Rattle.raft_stale.specs.Dropping.{is_free_before}
use Rattle.raft_tables.specs.FirstFiles.{first_of_tables}
use Rattle.raft_tables.specs.Table.{TableView}
use Rattle.raft_tables.specs.Tables.{Tables, or_empty, tables_of}
use Rattle.raft_tables.specs.declared.memtables.MemTables.{MemTables}
use Rattle.raft_purge.specs.RenewalPart.{first_kept}

free_before : (seq : ℕ) (m : MemTables) → is_free_before seq m ≡ true → AreRewrittenFrom seq (tables_of m)
free_before seq m free = subst (λ (k : ℕ). AreRewrittenFrom k (tables_of m)) (eq_from_test (first_of_tables Rewrite seq m) seq free) (nothing_rewritten_before seq m).0

-- where the queue begins once the old files were dropped, or kept
pub kept_of : (first : ℕ) (together : Bool) (m : MemTables) (p p' : PipeState) → (together ≡ true → p.first ≤ first → AreRewrittenFrom first (tables_of m) → p'.first ≡ first) → (together && is_free_before first m ≡ false → p'.first ≡ p.first) → p.first ≤ first → p'.first ≡ first_kept first together m p
kept_of first together m p p' gone kept low = elim (cases_Bool (together && is_free_before first m)) [
  | inl free ↦
      let parts = and_parts together (is_free_before first m) free in
      gone parts.0 low (free_before first m parts.1) ∙ ap (λ (b : Bool). if b then first else p.first) (sym free)
  | inr not ↦ kept not ∙ ap (λ (b : Bool). if b then first else p.first) (sym not)
]

-- a group of which nothing stood before a file is left so
pub still_none_before : (first : ℕ) (s mid s' : GatherState) (group : ℕ) → s.watermark ≡ None → s.batch ≡ [] → KeepsMovingFrom first s mid → KeepsMovingFrom first mid s' → s'.batch ≡ [] → IsAllFrom first (or_empty (s.tables group)) → IsAllFrom first (or_empty (s'.tables group))
still_none_before first s mid s' group none empty kept last written was =
    let begin : MovesAllFrom first s.tables s.batch group = subst (λ (b : Batch). MovesAllFrom first s.tables b group) (sym empty) (λ block offset queue within. was) in
    let all : MovesAllFrom first s'.tables [] group = subst (λ (b : Batch). MovesAllFrom first s'.tables b group) written (last.1 group (kept.0 ∙ none) (kept.1 group none begin)) in
    all (record { id = record { queue = Rewrite; seq = first }; offset = 0; len = 0 }) 0 refl (omega arith)

-- .. and so are those that were written again
pub each_none_before : (first : ℕ) (s mid s' : GatherState) (gs : List ℕ) → s.watermark ≡ None → KeepsMovingFrom first s mid → Each (λ g. MovesGroupFrom first g mid) gs → KeepsMovingFrom first mid s' → s'.batch ≡ [] → Each (λ g. IsAllFrom first (or_empty (s'.tables g))) gs
each_none_before first s mid s' [] none kept each last written = tt
each_none_before first s mid s' (g ∷ gs) none kept each last written =
    let all : MovesAllFrom first s'.tables [] g = subst (λ (b : Batch). MovesAllFrom first s'.tables b g) written (last.1 g (kept.0 ∙ none) (each.0 (kept.0 ∙ none))) in
    (all (record { id = record { queue = Rewrite; seq = first }; offset = 0; len = 0 }) 0 refl (omega arith), each_none_before first s mid s' gs none kept each.1 last written)

-- .. of all known groups: nothing is left before the file
pub none_of : (first : ℕ) (o : Option TableView) → is_some o ≡ false → IsAllFrom first (or_empty o)
none_of first None unknown = record { entries = tt; keys = λ key. tt }
none_of first (Some t) unknown = absurd cc

pub all_anew : (first : ℕ) (gs : List ℕ) (t t' : Tables) → ((k : ℕ) → list_any (nat_eq k) gs ≡ is_some (t k)) → ((k : ℕ) → (list_any (nat_eq k) gs ≡ true) ⊎ IsAllFrom first (or_empty (t k)) → IsAllFrom first (or_empty (t' k))) → AreRewrittenFrom first t'
all_anew first gs t t' known renewed = record { entries = λ k. (now k).entries; keys = λ k. (now k).keys }
  where
    at : (k : ℕ) (b : Bool) → is_some (t k) ≡ b → IsAllFrom first (or_empty (t' k))
    at k true there = renewed k (inl (known k ∙ there))
    at k false unknown = renewed k (inr (none_of first (t k) unknown))

    now : (k : ℕ) → IsAllFrom first (or_empty (t' k))
    now k = at k (is_some (t k)) refl

-- the same of equal numbers
pub kept_same : (a b : ℕ) (x y : Bool) (m : MemTables) (p q : PipeState) → a ≡ b → x ≡ y → p.first ≡ q.first → first_kept a x m p ≡ first_kept b y m q
kept_same a b x y m p q is same begins =
    ap (λ (k : ℕ). if x && is_free_before k m then k else p.first) is
    ∙ ap (λ (z : Bool). if z && is_free_before b m then b else p.first) same
    ∙ ap (λ (k : ℕ). if y && is_free_before b m then b else k) begins
