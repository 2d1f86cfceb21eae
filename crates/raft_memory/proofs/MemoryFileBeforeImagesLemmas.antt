-- What a file saves of its last sync, and puts back.
use Rattle.std.proofs.lemmas.Bool.{cases_lt}
use Rattle.std.proofs.Common.{◌≡◌, ℕ, ◌+◌, ◌-◌, ◌<◌, ◌≤◌, min, Bool, true, false, cond, List, [], ◌∷◌, ◌++◌, length, take, drop, get_or, Option, Some, None, unwrap_or, refl, sym, ◌∙◌, ap, inl, inr, arith}
use Rattle.std.specs.Prelude.{replicate}
use Rattle.std.specs.Option.{option_or}
use Rattle.std.proofs.lemmas.Bool.Decides.{nat_tests}
use Rattle.std.proofs.lemmas.List.{length-drop, length-take, length-take-le, take_all, get_or-drop, get_or-take, get_or_past, drop-drop, drop_more, take_more}
use Rattle.std.proofs.lemmas.Grind.{same_number_lists}
use Rattle.std.proofs.Math.ListN.{get_or-append}
use Rattle.raft_env.specs.Outcomes.{is_within, overlay, pad_to}
use Rattle.raft_memory.specs.MemoryFile.{BeforeImages, IsSaved, places_len, before_image_in, before_image_at}
use Rattle.raft_env.proofs.OutcomesOverlayLemmas.{get_or-padded, overlaid_outside_part}

pub places_len-more : (places : List (ℕ × ℕ)) (from size : ℕ) → places_len (places ++ (from, size) ∷ []) ≡ places_len places + size
places_len-more [] from size = omega arith
places_len-more (p ∷ places) from size = omega (arith, places_len-more places from size)

-- one more range, whose bytes stand after the others
pub before_image_in-more : (places : List (ℕ × ℕ)) (old new bytes : List ℕ) (from size i : ℕ) → places_len places ≡ length old → ((j : ℕ) → j < length old → get_or new j 0 ≡ get_or old j 0)
    → ((j : ℕ) → j < size → get_or new (length old + j) 0 ≡ get_or bytes (from + j) 0)
    → before_image_in (places ++ (from, size) ∷ []) new i ≡ option_or (before_image_in places old i) (cond (is_within from size i) (Some (get_or bytes i 0)) None)
before_image_in-more [] old new bytes from size i fits kept added = first (is_within from size i) refl
  where
    first : (b : Bool) → is_within from size i ≡ b → cond b (Some (get_or new (i - from) 0)) None ≡ cond b (Some (get_or bytes i 0)) None
    first true e =
        let above : from ≤ i = grind (arith, nat_tests) in
        let below : i < from + size = grind (arith, nat_tests) in
        let at_end : length old + (i - from) ≡ i - from = omega (arith, fits) in
        let there : from + (i - from) ≡ i = omega arith in
        ap Some (ap (λ (n : ℕ). get_or new n 0) (sym at_end) ∙ added (i - from) (omega arith) ∙ ap (λ (n : ℕ). get_or bytes n 0) there)
    first false e = refl
before_image_in-more (p ∷ places) old new bytes from size i fits kept added =
    next (is_within p.0 p.1 i) refl _ _ _
    (before_image_in-more places (drop p.1 old) (drop p.1 new) bytes from size i (omega (arith, fits, len))
    (λ j h. get_or-drop p.1 new j 0 ∙ kept (p.1 + j) (omega (arith, len)) ∙ sym (get_or-drop p.1 old j 0))
    (λ j h. let there : p.1 + (length (drop p.1 old) + j) ≡ length old + j = omega (arith, fits, len) in get_or-drop p.1 new (length (drop p.1 old) + j) 0 ∙ ap (λ (n : ℕ). get_or new n 0) there ∙ added j h))
  where
    len : length (drop p.1 old) ≡ length old - p.1
    len = length-drop p.1 old

    next : (b : Bool) → is_within p.0 p.1 i ≡ b → (rest before more : Option ℕ) → rest ≡ option_or before more
        → cond b (Some (get_or new (i - p.0) 0)) rest ≡ option_or (cond b (Some (get_or old (i - p.0) 0)) before) more
    next true e rest before more others =
        let above : p.0 ≤ i = grind (arith, nat_tests) in
        let below : i < p.0 + p.1 = grind (arith, nat_tests) in
        ap Some (kept (i - p.0) (omega (arith, fits)))
    next false e rest before more others = others

-- a byte that is saved before it changes is still known
still_known : (o : Option ℕ) (b : Bool) (x y : ℕ) → (b ≡ false → y ≡ x) → unwrap_or o x ≡ unwrap_or (option_or o (cond b (Some x) None)) y
still_known (Some z) b x y same = refl
still_known None true x y same = refl
still_known None false x y same = sym (same refl)

module _ (bytes : List ℕ) (saved : BeforeImages) (stored len : ℕ) (synced : List ℕ) (k : IsSaved bytes saved stored len synced) where
  -- a change of what was saved before
  pub saved_again : (more : BeforeImages) (after : List ℕ) (from size : ℕ) → ((i : ℕ) → before_image_at more i ≡ option_or (before_image_at saved i) (cond (is_within from size i) (Some (get_or bytes i 0)) None))
      → ((i : ℕ) → i < stored → is_within from size i ≡ false → get_or after i 0 ≡ get_or bytes i 0) → IsSaved after more stored len synced
  saved_again more after from size added same = record {
    len_is = k.len_is;
    each = λ i h. k.each i h ∙ still_known (before_image_at saved i) (is_within from size i) (get_or bytes i 0) (get_or after i 0) (same i h) ∙ ap (λ (o : Option ℕ). unwrap_or o (get_or after i 0)) (sym (added i));
    zeros = k.zeros;
  }

  -- bytes that hold the same at each place
  pub saved_same : (others : List ℕ) → ((i : ℕ) → get_or others i 0 ≡ get_or bytes i 0) → IsSaved others saved stored len synced
  saved_same others same = record {
    len_is = k.len_is;
    each = λ i h. k.each i h ∙ ap (unwrap_or (before_image_at saved i)) (sym (same i));
    zeros = k.zeros;
  }

  pub saved_written : (more : BeforeImages) (at : ℕ) (given kept : List ℕ) → length kept ≤ length given
      → ((i : ℕ) → before_image_at more i ≡ option_or (before_image_at saved i) (cond (is_within at (min stored (at + length given) - at) i) (Some (get_or bytes i 0)) None)) → IsSaved (overlay bytes at kept) more stored len synced
  saved_written more at given kept part added = saved_again more (overlay bytes at kept) at (min stored (at + length given) - at) added (λ i h out.
      let apart : is_within at (length given) i ≡ false = grind (arith, nat_tests) in
      overlaid_outside_part bytes at (length given) kept part i apart)

  pub saved_cut : (more : BeforeImages) (from : ℕ) → ((i : ℕ) → before_image_at more i ≡ option_or (before_image_at saved i) (cond (is_within from (stored - from) i) (Some (get_or bytes i 0)) None)) → IsSaved (take from bytes) more stored len synced
  saved_cut more from added = saved_again more (take from bytes) from (stored - from) added (λ i h out.
      let inside : i < from = grind (arith, nat_tests) in
      get_or-take from bytes i 0 inside)

  pub saved_lengthened : (size : ℕ) → IsSaved (pad_to bytes size) saved stored len synced
  saved_lengthened size = saved_same (pad_to bytes size) (λ i. get_or-padded bytes size i)

-- a lengthening with zeros changes nothing before the new end
cut_or_padded : (bytes : List ℕ) (n i : ℕ) → i < n → get_or (take n bytes ++ replicate (n - length bytes) 0) i 0 ≡ get_or bytes i 0
cut_or_padded bytes n i h = elim (cases_lt i (length bytes)) [
  | inl inside ↦ get_or-append (take n bytes) _ 0 i (omega (arith, length-take n bytes)) ∙ get_or-take n bytes i 0 h
  | inr past ↦ ap (λ (l : List ℕ). get_or (l ++ replicate (n - length bytes) 0) i 0) (take_all n bytes (omega arith)) ∙ get_or-padded bytes n i
]

-- the bytes now with what was saved, and zeros behind them, are those of the last sync
pub restored : (bytes : List ℕ) (saved : BeforeImages) (stored len : ℕ) (synced resized put after : List ℕ) → IsSaved bytes saved stored len synced
    → resized ≡ take stored bytes ++ replicate (stored - length bytes) 0 → length resized ≡ stored → length put ≡ length resized
    → ((i : ℕ) → i < length resized → get_or put i 0 ≡ unwrap_or (before_image_at saved i) (get_or resized i 0))
    → after ≡ take len put ++ replicate (len - length put) 0 → length after ≡ len → after ≡ synced
restored bytes saved stored len synced resized put after k is resized_len put_len each last last_len =
    same_number_lists _ _ (omega (arith, k.len_is)) (λ i h.
    let within : i < len = omega arith in
    let now = ap (λ (l : List ℕ). get_or l i 0) last ∙ cut_or_padded put len i within in
    elim (cases_lt i stored) [
      | inl inside ↦ now ∙ each i (omega arith) ∙ ap (unwrap_or (before_image_at saved i)) (ap (λ (l : List ℕ). get_or l i 0) is ∙ cut_or_padded bytes stored i inside) ∙ sym (k.each i inside)
      | inr behind ↦ now ∙ get_or_past put i 0 (omega arith) ∙ sym (k.zeros i (omega arith))
    ])

-- the range before is put back
module _ (places : List (ℕ × ℕ)) (saved : List ℕ) (k end : ℕ) (p : ℕ × ℕ) (inside : k < length places) (is : get_or places k p ≡ p) (end_is : end ≡ places_len (take (k + 1) places)) where
  pub end_before : end ≡ places_len (take k places) + p.1
  end_before = end_is ∙ ap places_len (take_more places k p inside) ∙ ap (λ (q : ℕ × ℕ). places_len (take k places ++ q ∷ [])) is ∙ places_len-more (take k places) p.0 p.1

  pub restored_from : (given old bytes after : List ℕ) (i : ℕ) → end ≤ length saved → given ≡ take p.1 (drop (end - p.1) saved)
      → get_or bytes i 0 ≡ unwrap_or (before_image_in (drop (k + 1) places) (drop end saved) i) (get_or old i 0)
      → get_or after i 0 ≡ cond (is_within p.0 (length given) i) (get_or given (i - p.0) 0) (get_or bytes i 0)
      → get_or after i 0 ≡ unwrap_or (before_image_in (drop k places) (drop (end - p.1) saved) i) (get_or old i 0)
  restored_from given old bytes after i last given_is before put =
      let first : drop k places ≡ p ∷ drop (k + 1) places = drop_more places k p inside ∙ ap (λ (q : ℕ × ℕ). q ∷ drop (k + 1) places) is in
      let there : end - p.1 + p.1 ≡ end = omega (arith, end_before) in
      let behind : drop p.1 (drop (end - p.1) saved) ≡ drop end saved = drop-drop p.1 (end - p.1) saved ∙ ap (λ (n : ℕ). drop n saved) there in
      let len : length given ≡ p.1 = ap length given_is ∙ length-take-le p.1 (drop (end - p.1) saved) (omega (arith, end_before, length-drop (end - p.1) saved)) in
      put ∙ ap (λ (n : ℕ). cond (is_within p.0 n i) (get_or given (i - p.0) 0) (get_or bytes i 0)) len ∙ one (is_within p.0 p.1 i) refl given_is before behind
      ∙ ap (λ (l : List (ℕ × ℕ)). unwrap_or (before_image_in l (drop (end - p.1) saved) i) (get_or old i 0)) (sym first)
    where
      one : (b : Bool) → is_within p.0 p.1 i ≡ b → given ≡ take p.1 (drop (end - p.1) saved) → get_or bytes i 0 ≡ unwrap_or (before_image_in (drop (k + 1) places) (drop end saved) i) (get_or old i 0)
          → drop p.1 (drop (end - p.1) saved) ≡ drop end saved → cond b (get_or given (i - p.0) 0) (get_or bytes i 0)
          ≡ unwrap_or (cond b (Some (get_or (drop (end - p.1) saved) (i - p.0) 0)) (before_image_in (drop (k + 1) places) (drop p.1 (drop (end - p.1) saved)) i)) (get_or old i 0)
      one true e given_is before behind =
          let above : p.0 ≤ i = grind (arith, nat_tests) in
          let below : i < p.0 + p.1 = grind (arith, nat_tests) in
          ap (λ (l : List ℕ). get_or l (i - p.0) 0) given_is ∙ get_or-take p.1 (drop (end - p.1) saved) (i - p.0) 0 (omega arith)
      one false e given_is before behind = before ∙ ap (λ (l : List ℕ). unwrap_or (before_image_in (drop (k + 1) places) l i) (get_or old i 0)) (sym behind)

-- a part that is put behind the bytes that were saved leaves these
pub part_keeps : (put resized given : List ℕ) (start i : ℕ) → i < start
    → get_or put i 0 ≡ cond (is_within start (length given) i) (get_or given (i - start) 0) (get_or resized i 0) → get_or put i 0 ≡ get_or resized i 0
part_keeps put resized given start i before is =
    let apart : is_within start (length given) i ≡ false = grind (arith, nat_tests) in
    is ∙ ap (λ (b : Bool). cond b (get_or given (i - start) 0) (get_or resized i 0)) apart

-- .. and has the bytes from a place on, with zeros past their end
pub part_put : (put resized given bytes : List ℕ) (start from i n : ℕ) → n ≡ start + i → given ≡ drop from bytes → get_or resized n 0 ≡ 0
    → get_or put n 0 ≡ cond (is_within start (length given) n) (get_or given (n - start) 0) (get_or resized n 0) → get_or put n 0 ≡ get_or bytes (from + i) 0
part_put put resized given bytes start from i n at given_is zero is = is ∙ one (is_within start (length given) n) refl
  where
    len : length given ≡ length bytes - from
    len = ap length given_is ∙ length-drop from bytes

    one : (b : Bool) → is_within start (length given) n ≡ b → cond b (get_or given (n - start) 0) (get_or resized n 0) ≡ get_or bytes (from + i) 0
    one true e =
        let there : n - start ≡ i = omega (arith, at) in
        ap (λ (l : List ℕ). get_or l (n - start) 0) given_is ∙ ap (λ (k : ℕ). get_or (drop from bytes) k 0) there ∙ get_or-drop from bytes i 0
    one false e =
        let past : length bytes ≤ from + i = grind (arith, nat_tests, len, at) in
        zero ∙ sym (get_or_past bytes (from + i) 0 past)
