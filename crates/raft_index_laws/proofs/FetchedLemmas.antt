-- What is fetched of a group's entries is a part of them.
use Rattle.std.proofs.Common.{◌≡◌, ℕ, ◌+◌, ◌<◌, ◌≤◌, ◌&&◌, not, Bool, true, false, cond, List, [], ◌∷◌, ◌++◌, filter, Option, Some, None, refl, sym, ◌∙◌, ap, ⊎_elim, arith}
use Rattle.std.specs.List.{AllByRecursion as Each}
use Rattle.std.specs.Option.{option_map}
use Rattle.std.specs.Prelude.{unwrap_or, nat_le}
use Rattle.std.proofs.lemmas.Bool.{cases_Bool, false≢true, leb-true}
use Rattle.std.proofs.lemmas.Bool.Decides.{nat_tests}
use Rattle.raft_base.specs.declared.pipe_log.FileBlockHandle.{FileBlockHandle}
use Rattle.raft_base.specs.declared.pipe_log.LogQueue.{LogQueue}
use Rattle.raft_base.specs.declared.pipe_log.LogQueue.TheVariants.{Append, Rewrite}
use Rattle.raft_records.specs.declared.entry_index.EntryPlace.{EntryPlace}
use Rattle.raft_records.specs.Contents.{Contents}
use Rattle.raft_records.specs.FileBatches.{FileBatch}
use Rattle.raft_records.specs.Item.{Entry}
use Rattle.raft_records.specs.Places.{Blocks, entry_in}
use Rattle.raft_recovery_laws.proofs.KeptLemmas.{filter_no, filter_yes}
use Rattle.raft_tables.specs.Counters.{is_rewrite, is_rewritten}
use Rattle.raft_tables.specs.MovedEntries.{may_move, may_move_from}
use Rattle.raft_tables.specs.Owed.{Marks, Owed}
use Rattle.raft_tables.specs.Tables.{Tables, or_empty}
use Rattle.raft_index_laws.specs.Rewriting.{IsFetched}
use Rattle.raft_index_laws.specs.Standing.{AreInFileOrder, EntryStands, StandsInBlock, TablesStandFor, are_rewritten, ends_leave, rank_in, rank_of}
use Rattle.raft_index_laws.proofs.GroupLemmas.{order_lower, rewritten_rank}

-- what was fetched of entries, and those before and behind it
record Parted (es fetched : List (ℕ × EntryPlace)) : Type 0 where
  pre : List (ℕ × EntryPlace)
  post : List (ℕ × EntryPlace)
  parts : es ≡ pre ++ (fetched ++ post)
  first : are_rewritten pre ≡ true
  rest : Each (λ e. is_rewritten e.1 ≡ false) post

-- the tests of a place, by the queue and the number of its file

pub data Placed (watermark : ℕ) (place : EntryPlace) : Type 0 where
  InRewrite : is_rewritten place ≡ true → may_move_from (Some watermark) place ≡ false → may_move_from None place ≡ true → Placed watermark place
  UpTo : is_rewritten place ≡ false → may_move_from (Some watermark) place ≡ true → may_move_from None place ≡ false → 1 ≤ rank_of place → Placed watermark place
  Past : is_rewritten place ≡ false → may_move_from (Some watermark) place ≡ false → may_move_from None place ≡ false → watermark + 2 ≤ rank_of place → Placed watermark place

past_test : (a b : ℕ) → nat_le a b ≡ false → b < a
past_test a b is = grind (arith, nat_tests)

placed : (watermark : ℕ) (left : ℕ → ℕ → Bool) (marks : Marks) (held : List Entry) (e : Entry) (place : EntryPlace) → StandsInBlock left marks held e place.block → Placed watermark place
placed watermark left marks held e place stands = at place.block refl stands
  where
    is_in : Option FileBlockHandle → Bool
    is_in b = unwrap_or (option_map (λ (x : FileBlockHandle). is_rewrite x.id.queue) b) false

    moves : Option ℕ → Option FileBlockHandle → Bool
    moves w b = unwrap_or (option_map (λ (x : FileBlockHandle). may_move w x.id) b) false

    rank : Option FileBlockHandle → ℕ
    rank b = unwrap_or (option_map (λ (x : FileBlockHandle). rank_in x.id.seq x.id.queue) b) 0

    at : (b : Option FileBlockHandle) → place.block ≡ b → StandsInBlock left marks held e b → Placed watermark place
    at None is stands = absurd stands
    at (Some block) is stands = by block.id.queue refl
      where
        by : (queue : LogQueue) → block.id.queue ≡ queue → Placed watermark place
        by Rewrite same =
            InRewrite (ap is_in is ∙ ap is_rewrite same) (ap (moves (Some watermark)) is ∙ ap (λ q. not (is_rewrite q) && nat_le block.id.seq watermark) same) (ap (moves None) is ∙ ap is_rewrite same)
        by Append same =
            ⊎_elim
            (λ low. UpTo (ap is_in is ∙ ap is_rewrite same) (ap (moves (Some watermark)) is ∙ ap (λ q. not (is_rewrite q) && nat_le block.id.seq watermark) same ∙ low) (ap (moves None) is ∙ ap is_rewrite same)
            (let r : rank_of place ≡ block.id.seq + 1 = ap rank is ∙ ap (rank_in block.id.seq) same in omega (arith, r)))
            (λ high. let past = past_test block.id.seq watermark high in
            Past (ap is_in is ∙ ap is_rewrite same) (ap (moves (Some watermark)) is ∙ ap (λ q. not (is_rewrite q) && nat_le block.id.seq watermark) same ∙ high) (ap (moves None) is ∙ ap is_rewrite same)
            (let r : rank_of place ≡ block.id.seq + 1 = ap rank is ∙ ap (rank_in block.id.seq) same in omega (arith, r, past)))
            (cases_Bool (nat_le block.id.seq watermark))

no_rank_rewritten : (place : EntryPlace) → is_rewritten place ≡ true → 1 ≤ rank_of place → ⊥
no_rank_rewritten place is low = omega (arith, low, rewritten_rank place.block is)

-- behind an entry past the watermark none is fetched
none_past : (blocks : Blocks) (watermark : ℕ) (left : ℕ → ℕ → Bool) (marks : Marks) (held : List Entry) (least : ℕ) (es : List (ℕ × EntryPlace)) → watermark + 2 ≤ least → AreInFileOrder least es → Each (EntryStands blocks left marks held) es
    → (filter (λ e. may_move_from (Some watermark) e.1) es ≡ []) × Each (λ e. is_rewritten e.1 ≡ false) es
none_past blocks watermark left marks held least [] high order each = (refl, tt)
none_past blocks watermark left marks held least (e ∷ es) high order each =
    let rest = none_past blocks watermark left marks held (rank_of e.1) es (omega (arith, high, order.0)) order.1 each.1 in
    at (placed watermark left marks held (entry_in blocks e) e.1 each.0) rest
  where
    at : Placed watermark e.1 → (filter (λ x. may_move_from (Some watermark) x.1) es ≡ []) × Each (λ x. is_rewritten x.1 ≡ false) es → (filter (λ x. may_move_from (Some watermark) x.1) (e ∷ es) ≡ []) × Each (λ x. is_rewritten x.1 ≡ false) (e ∷ es)
    at (InRewrite in_rewrite some none) rest = absurd (no_rank_rewritten e.1 in_rewrite (omega (arith, high, order.0)))
    at (UpTo in_append some none low) rest = absurd (low_only e.1 some (omega (arith, high, order.0)))
      where
        low_only : (place : EntryPlace) → may_move_from (Some watermark) place ≡ true → watermark + 2 ≤ rank_of place → ⊥
        low_only place may far = by place.block may far
          where
            by : (b : Option FileBlockHandle) → unwrap_or (option_map (λ (x : FileBlockHandle). may_move (Some watermark) x.id) b) false ≡ true → watermark + 2 ≤ unwrap_or (option_map (λ (x : FileBlockHandle). rank_in x.id.seq x.id.queue) b) 0 → ⊥
            by None may far = false≢true may
            by (Some block) may far = queue block.id.queue may far
              where
                queue : (q : LogQueue) → (not (is_rewrite q) && nat_le block.id.seq watermark) ≡ true → watermark + 2 ≤ rank_in block.id.seq q → ⊥
                queue Append may far = let low = leb-true block.id.seq watermark may in omega (arith, low, far)
                queue Rewrite may far = omega (arith, far)
    at (Past in_append some none far) rest = (filter_no (λ (x : ℕ × EntryPlace). may_move_from (Some watermark) x.1) e es some ∙ rest.0, (in_append, rest.1))

-- of entries in the Append queue those up to the watermark stand before the others
some_first : (blocks : Blocks) (watermark : ℕ) (left : ℕ → ℕ → Bool) (marks : Marks) (held : List Entry) (least : ℕ) (es : List (ℕ × EntryPlace)) → 1 ≤ least → AreInFileOrder least es → Each (EntryStands blocks left marks held) es
    → (post : List (ℕ × EntryPlace)) × (es ≡ filter (λ e. may_move_from (Some watermark) e.1) es ++ post) × Each (λ e. is_rewritten e.1 ≡ false) es × Each (λ e. is_rewritten e.1 ≡ false) post
some_first blocks watermark left marks held least [] low order each = ([], refl, tt, tt)
some_first blocks watermark left marks held least (e ∷ es) low order each =
    at (placed watermark left marks held (entry_in blocks e) e.1 each.0) (some_first blocks watermark left marks held (rank_of e.1) es (omega (arith, low, order.0)) order.1 each.1)
  where
    Result : List (ℕ × EntryPlace) → Type 0
    Result xs = (post : List (ℕ × EntryPlace)) × (xs ≡ filter (λ x. may_move_from (Some watermark) x.1) xs ++ post) × Each (λ x. is_rewritten x.1 ≡ false) xs × Each (λ x. is_rewritten x.1 ≡ false) post

    at : Placed watermark e.1 → Result es → Result (e ∷ es)
    at (InRewrite in_rewrite some none) rest = absurd (no_rank_rewritten e.1 in_rewrite (omega (arith, low, order.0)))
    at (UpTo in_append some none up) rest =
        (rest.0, ap (λ xs. e ∷ xs) rest.1 ∙ sym (ap (λ xs. xs ++ rest.0) (filter_yes (λ (x : ℕ × EntryPlace). may_move_from (Some watermark) x.1) e es some)), (in_append, rest.2), rest.3)
    at (Past in_append some none far) rest =
        let none_later = none_past blocks watermark left marks held (rank_of e.1) es far order.1 each.1 in
        (e ∷ es, sym (ap (λ xs. xs ++ (e ∷ es)) (filter_no (λ (x : ℕ × EntryPlace). may_move_from (Some watermark) x.1) e es some ∙ none_later.0)), (in_append, none_later.1), (in_append, none_later.1))

parted_up_to : (blocks : Blocks) (watermark : ℕ) (left : ℕ → ℕ → Bool) (marks : Marks) (held : List Entry) (es : List (ℕ × EntryPlace)) → AreInFileOrder 0 es → Each (EntryStands blocks left marks held) es
    → Parted es (filter (λ e. may_move_from (Some watermark) e.1) es)
parted_up_to blocks watermark left marks held es = go es
  where
    go : (xs : List (ℕ × EntryPlace)) → AreInFileOrder 0 xs → Each (EntryStands blocks left marks held) xs → Parted xs (filter (λ e. may_move_from (Some watermark) e.1) xs)
    go [] order each = record { pre = []; post = []; parts = refl; first = refl; rest = tt }
    go (e ∷ xs) order each = at (placed watermark left marks held (entry_in blocks e) e.1 each.0) (λ rewritten. go xs (order_lower 0 (rank_of e.1) xs (omega arith) order.1) each.1)
      where
        appended : 1 ≤ rank_of e.1 → Parted (e ∷ xs) (filter (λ x. may_move_from (Some watermark) x.1) (e ∷ xs))
        appended low =
            let all = some_first blocks watermark left marks held (rank_of e.1) (e ∷ xs) low (omega arith, order.1) each in
            record { pre = []; post = all.0; parts = all.1; first = refl; rest = all.3 }

        at : Placed watermark e.1 → (is_rewritten e.1 ≡ true → Parted xs (filter (λ x. may_move_from (Some watermark) x.1) xs)) → Parted (e ∷ xs) (filter (λ x. may_move_from (Some watermark) x.1) (e ∷ xs))
        at (InRewrite in_rewrite some none) later =
            let rest = later in_rewrite in
            record {
              pre = e ∷ rest.pre;
              post = rest.post;
              parts = ap (λ ys. e ∷ ys) rest.parts ∙ sym (ap (λ ys. (e ∷ rest.pre) ++ (ys ++ rest.post)) (filter_no (λ (x : ℕ × EntryPlace). may_move_from (Some watermark) x.1) e xs some));
              first = ap (λ b. b && are_rewritten rest.pre) in_rewrite ∙ rest.first;
              rest = rest.rest;
            }
        at (UpTo in_append some none low) later = appended low
        at (Past in_append some none far) later = appended (omega (arith, far))

-- all that stand in the Rewrite queue stand first
parted_rewritten : (blocks : Blocks) (left : ℕ → ℕ → Bool) (marks : Marks) (held : List Entry) (es : List (ℕ × EntryPlace)) → AreInFileOrder 0 es → Each (EntryStands blocks left marks held) es
    → (post : List (ℕ × EntryPlace)) × (es ≡ filter (λ e. may_move_from None e.1) es ++ post) × Each (λ e. is_rewritten e.1 ≡ false) post
parted_rewritten blocks left marks held es order each = go es order each
  where
    Result : List (ℕ × EntryPlace) → Type 0
    Result xs = (post : List (ℕ × EntryPlace)) × (xs ≡ filter (λ e. may_move_from None e.1) xs ++ post) × Each (λ e. is_rewritten e.1 ≡ false) post

    none_later : (least : ℕ) (xs : List (ℕ × EntryPlace)) → 1 ≤ least → AreInFileOrder least xs → Each (EntryStands blocks left marks held) xs → (filter (λ e. may_move_from None e.1) xs ≡ []) × Each (λ e. is_rewritten e.1 ≡ false) xs
    none_later least [] low order each = (refl, tt)
    none_later least (e ∷ xs) low order each = at (placed 0 left marks held (entry_in blocks e) e.1 each.0) (none_later (rank_of e.1) xs (omega (arith, low, order.0)) order.1 each.1)
      where
        at : Placed 0 e.1 → (filter (λ x. may_move_from None x.1) xs ≡ []) × Each (λ x. is_rewritten x.1 ≡ false) xs → (filter (λ x. may_move_from None x.1) (e ∷ xs) ≡ []) × Each (λ x. is_rewritten x.1 ≡ false) (e ∷ xs)
        at (InRewrite in_rewrite some none) rest = absurd (no_rank_rewritten e.1 in_rewrite (omega (arith, low, order.0)))
        at (UpTo in_append some none up) rest = (filter_no (λ (x : ℕ × EntryPlace). may_move_from None x.1) e xs none ∙ rest.0, (in_append, rest.1))
        at (Past in_append some none far) rest = (filter_no (λ (x : ℕ × EntryPlace). may_move_from None x.1) e xs none ∙ rest.0, (in_append, rest.1))

    go : (xs : List (ℕ × EntryPlace)) → AreInFileOrder 0 xs → Each (EntryStands blocks left marks held) xs → Result xs
    go [] order each = ([], refl, tt)
    go (e ∷ xs) order each = at (placed 0 left marks held (entry_in blocks e) e.1 each.0) (go xs (order_lower 0 (rank_of e.1) xs (omega arith) order.1) each.1)
      where
        only : may_move_from None e.1 ≡ false → is_rewritten e.1 ≡ false → 1 ≤ rank_of e.1 → Result (e ∷ xs)
        only none in_append low =
            let rest = none_later (rank_of e.1) xs low order.1 each.1 in
            (e ∷ xs, sym (ap (λ ys. ys ++ (e ∷ xs)) (filter_no (λ (x : ℕ × EntryPlace). may_move_from None x.1) e xs none ∙ rest.0)), (in_append, rest.1))

        at : Placed 0 e.1 → Result xs → Result (e ∷ xs)
        at (InRewrite in_rewrite some none) rest = (rest.0, ap (λ ys. e ∷ ys) rest.1 ∙ sym (ap (λ ys. ys ++ rest.0) (filter_yes (λ (x : ℕ × EntryPlace). may_move_from None x.1) e xs none)), rest.2)
        at (UpTo in_append some none low) rest = only none in_append low
        at (Past in_append some none far) rest = only none in_append (omega (arith, far))

-- what a test lets through passes it
pub passed : {X : Type 0} (p : X → Bool) (xs : List X) → Each (λ x. p x ≡ true) (filter p xs)
passed p [] = tt
passed p (x ∷ xs) = at (p x) refl (passed p xs)
  where
    at : (b : Bool) → p x ≡ b → Each (λ y. p y ≡ true) (filter p xs) → Each (λ y. p y ≡ true) (cond b (x ∷ filter p xs) (filter p xs))
    at true is rest = (is, rest)
    at false is rest = rest

some_none : (w : ℕ) → Some w ≡ None → ⊥
some_none w is = cc

pub fetched : (blocks : Blocks) (x : Contents) (appended : List FileBatch) (owed : Owed) (t : Tables) (watermark : Option ℕ) (group : ℕ) → TablesStandFor blocks x appended owed t → IsFetched watermark (or_empty (t group)).entries (filter (λ e. may_move_from watermark e.1) (or_empty (t group)).entries)
fetched blocks x appended owed t (Some w) group s =
    let of = s.entries group in
    let es = (or_empty (t group)).entries in
    let p = parted_up_to blocks w (ends_leave appended group) (owed group) (x.entries group) es of.ordered of.each in
    record { pre = p.pre; post = p.post; parts = p.parts; first = p.first; rest = p.rest; moves = passed (λ (e : ℕ × EntryPlace). may_move_from (Some w) e.1) es; whole = λ is. absurd (some_none w is) }
fetched blocks x appended owed t None group s =
    let of = s.entries group in
    let es = (or_empty (t group)).entries in
    let p = parted_rewritten blocks (ends_leave appended group) (owed group) (x.entries group) es of.ordered of.each in
    record { pre = []; post = p.0; parts = p.1; first = refl; rest = p.2; moves = passed (λ (e : ℕ × EntryPlace). may_move_from None e.1) es; whole = λ _. refl }
