-- Kept blocks in an `LruCache`.
use Rattle.std.proofs.Common.{◌≡◌, ◌∙◌, ◌+◌, ◌-◌, ◌<◌, ◌∷◌, [], inl, inr, ℕ, Bool, true, false, List, Option, Some, None, T, ap, arith, length, suc, take, refl, sym, subst, zero}
use Rattle.std.specs.Prelude.{◌&&◌, is_some, nat_eq, nat_le, not, option_map, slice_get, Vec}
use Rattle.std.specs.Option.{option_map_or}
use Rattle.std.specs.List.{filter, find}
use Rattle.std.specs.Map.{lookup, lookup_entry, remove_entry}
use Rattle.std.specs.declared.alloc.Global.{Global}
use Rattle.std.proofs.Math.Dec.{eqb_refl}
use Rattle.std.proofs.lemmas.Bool.{cases_Bool}
use Rattle.lru.specs.LruCache.{LruCache, put_entries}
use Rattle.raft_base.specs.declared.pipe_log.FileBlockHandle.{FileBlockHandle}
use Rattle.raft_base.specs.declared.pipe_log.LogQueue.{LogQueue}
use Rattle.raft_base.specs.declared.pipe_log.LogQueue.TheVariants as queue
use Rattle.raft_base.specs.contracts.pipe_log.FileBlockHandlePartialEq.TheImpl as handle_eq
use Rattle.raft_pipes.specs.PipeState.{is_same_queue}
use Rattle.raft_queues.specs.Dual.{by_queue}
use Rattle.raft_entry_blocks.specs.Recent.{KeptBlocks, is_from, is_handle, without}
use Rattle.raft_entry_blocks.proofs.RecentLemmas.{is_found, is_handle-eq, is_handle-true, lookup_entry-none}

-- the file of a handle is one from these numbers on
abbrev is_from_file : ℕ → ℕ → FileBlockHandle → Bool
is_from_file append rewrite handle = nat_le (by_queue append rewrite handle.id.queue) handle.id.seq

same_test : (handle : FileBlockHandle) → is_handle handle ≡ handle_eq.ghosts.eq handle
same_test handle = λ i other. is_handle-eq handle other i

same_queue-refl : (q : LogQueue) → is_same_queue q q ≡ true
same_queue-refl queue.Append = refl
same_queue-refl queue.Rewrite = refl

is_true : (b : Bool) → T b → b ≡ true
is_true true t = refl
is_true false t = absurd t

nat_eq-refl : (n : ℕ) → nat_eq n n ≡ true
nat_eq-refl n = is_true (nat_eq n n) (eqb_refl n)

is_handle-refl : (handle : FileBlockHandle) → is_handle handle handle ≡ true
is_handle-refl handle = rw (same_queue-refl handle.id.queue, nat_eq-refl handle.id.seq, nat_eq-refl handle.offset, nat_eq-refl handle.len) refl

-- a block that is the first stays there
pub first_stays : (handle : FileBlockHandle) (es : KeptBlocks) → true ≡ option_map_or (λ block. is_handle handle block.0) (slice_get es 0) false
    → (is_some (lookup (is_handle handle) es) ≡ true) × (option_map_or (λ block. block ∷ without handle es) (lookup_entry (is_handle handle) es) es ≡ es)
first_stays handle [] is = absurd cc
first_stays handle (e ∷ es) is = let same : is_handle handle e.0 ≡ true = sym is in (rw same refl, rw same refl)

-- what a block that is not kept leaves
pub put_first : (handle : FileBlockHandle) (bytes : Vec ℕ Global) (c : LruCache FileBlockHandle (Vec ℕ Global)) → c.cap ≡ 16 → is_some (lookup (is_handle handle) c.entries) ≡ false
    → put_entries handle_eq.ghosts.eq c handle bytes ≡ (handle, bytes) ∷ take 15 c.entries
put_first handle bytes c cap none =
    let missing : lookup_entry (handle_eq.ghosts.eq handle) c.entries ≡ None = subst (λ (test : FileBlockHandle → Bool). lookup_entry test c.entries ≡ None) (same_test handle) (lookup_entry-none (is_handle handle) c.entries none) in
    ap (λ (o : Option (FileBlockHandle × Vec ℕ Global)). option_map_or (λ e. (e.0, bytes) ∷ remove_entry (handle_eq.ghosts.eq handle) c.entries) o ((handle, bytes) ∷ take (c.cap - 1) c.entries)) missing
    ∙ ap (λ (n : ℕ). (handle, bytes) ∷ take (n - 1) c.entries) cap

module _ (append rewrite : ℕ) where
  -- the block of a dropped file is not missed
  filter-without : (handle : FileBlockHandle) (es : KeptBlocks) → is_from_file append rewrite handle ≡ false → filter (is_from append rewrite) (without handle es) ≡ filter (is_from append rewrite) es
  filter-without handle [] drops = refl
  filter-without handle (e ∷ es) drops = elim (cases_Bool (is_handle handle e.0)) [
    | inl is ↦
        let fails : is_from append rewrite e ≡ false = ap (is_from_file append rewrite) (is_handle-true handle e.0 is) ∙ drops in
        rw (is, fails) refl
    | inr other ↦ elim (cases_Bool (is_from append rewrite e)) [
      | inl stays ↦ rw (other, stays) (ap (λ xs. e ∷ xs) (filter-without handle es drops))
      | inr fails ↦ rw (other, fails) (filter-without handle es drops)
    ]
  ]

  -- what is found before these numbers: it is dropped, and it is kept until then
  pub record IsBefore (handle : FileBlockHandle) (es : KeptBlocks) : Type 0 where
    pub drops : is_from_file append rewrite handle ≡ false
    pub kept : is_some (lookup (is_handle handle) es) ≡ true

  pub found_before : (handle : FileBlockHandle) (es : KeptBlocks) → Some handle ≡ option_map (λ block. block.0) (find (λ block. not (is_from append rewrite block)) es) → IsBefore handle es
  found_before handle [] is = absurd cc
  found_before handle (e ∷ es) is = elim (cases_Bool (is_from append rewrite e)) [
    | inl stays ↦
        let rest = found_before handle es (rw stays at is) in
        let kept : is_some (lookup (is_handle handle) (e ∷ es)) ≡ true = elim (cases_Bool (is_handle handle e.0)) [ inl same ↦ rw same refl | inr other ↦ rw other rest.kept ] in
        record { drops = rest.drops; kept = kept }
    | inr fails ↦
        let found : Some handle ≡ Some e.0 = rw fails at is in
        let key : handle ≡ e.0 = cc in
        let same : is_handle handle e.0 ≡ true = subst (λ (k : FileBlockHandle). is_handle handle k ≡ true) key (is_handle-refl handle) in
        record { drops = ap (is_from_file append rewrite) key ∙ fails; kept = rw same refl }
  ]

  pub none_before : (es : KeptBlocks) → None ≡ option_map (λ block. block.0) (find (λ block. not (is_from append rewrite block)) es) → es ≡ filter (is_from append rewrite) es
  none_before [] is = refl
  none_before (e ∷ es) is = elim (cases_Bool (is_from append rewrite e)) [
    | inl stays ↦ rw stays (ap (λ xs. e ∷ xs) (none_before es (rw stays at is)))
    | inr fails ↦ let no : None ≡ Some e.0 = rw fails at is in absurd cc
  ]

  -- .. and it is taken out
  pub popped : (handle : FileBlockHandle) (es : KeptBlocks) → IsBefore handle es
      → (filter (is_from append rewrite) (remove_entry (handle_eq.ghosts.eq handle) es) ≡ filter (is_from append rewrite) es)
      × (length (remove_entry (handle_eq.ghosts.eq handle) es) < length es)
  popped handle es before =
      let fewer = (is_found (is_handle handle) es before.kept).fewer in
      let less : length (without handle es) < length es = omega (arith, fewer) in (
        subst (λ (test : FileBlockHandle → Bool). filter (is_from append rewrite) (remove_entry test es) ≡ filter (is_from append rewrite) es) (same_test handle) (filter-without handle es before.drops),
        subst (λ (test : FileBlockHandle → Bool). length (remove_entry test es) < length es) (same_test handle) less,
      )

  popped_at : (es : KeptBlocks) (n : ℕ) (e : FileBlockHandle × Vec ℕ Global) → length es ≡ suc n → Some e ≡ slice_get es n → is_from append rewrite e ≡ false
      → (filter (is_from append rewrite) (take n es) ≡ filter (is_from append rewrite) es) × (length (take n es) < length es)
  popped_at [] n e len is fails = absurd omega (arith, len)
  popped_at (x ∷ []) zero e len is fails =
      let same : e ≡ x = cc in
      let drops : is_from append rewrite x ≡ false = ap (is_from append rewrite) (sym same) ∙ fails in
      (rw drops refl, omega arith)
  popped_at (x ∷ y ∷ es) zero e len is fails = absurd omega (arith, len)
  popped_at (x ∷ es) (suc n) e len is fails =
      let rest = popped_at es n e (omega (arith, len)) is fails in
      let fewer = rest.1 in
      (elim (cases_Bool (is_from append rewrite x)) [ inl stays ↦ rw stays (ap (λ xs. x ∷ xs) rest.0) | inr drops ↦ rw drops rest.0 ], omega (arith, fewer))

  -- the last block, of a dropped file, is taken out
  pub popped_last : (es : KeptBlocks) (e : FileBlockHandle × Vec ℕ Global) → Some e ≡ slice_get es (length es - 1) → is_from append rewrite e ≡ false
      → (filter (is_from append rewrite) (take (length es - 1) es) ≡ filter (is_from append rewrite) es)
      × (length (take (length es - 1) es) < length es)
  popped_last [] e is fails = absurd cc
  popped_last (x ∷ es) e is fails =
      let all : KeptBlocks = x ∷ es in
      let one : length all - 1 ≡ length es = omega arith in
      subst (λ (n : ℕ). (filter (is_from append rewrite) (take n all) ≡ filter (is_from append rewrite) all) × (length (take n all) < length all)) (sym one)
      (popped_at all (length es) e (omega arith) (is ∙ ap (slice_get all) one) fails)
