-- The batches of an atomic group, in which a purge writes all that a group has in the Rewrite queue again.
use Rattle.std.proofs.Common.{◌≡◌, ℕ, ◌<◌, ◌&&◌, true, List, [], ◌∷◌, ◌++◌, append-nil, append_assoc, fold, map, None, refl, sym, ◌∙◌, ap, subst}
use Rattle.std.specs.List.{Contains, AllByRecursion as Each, flat_map, list_all}
use Rattle.std.specs.Prelude.{◌^◌, ◌-◌}
use Rattle.std.proofs.lemmas.List.{map-append}
use Rattle.std.proofs.lemmas.List.Sums.{fold-append}
use Rattle.raft_records.specs.Contents.{Contents, after_batch, after_batches, after_item}
use Rattle.raft_records.specs.declared.entry_index.EntryPlace.{EntryPlace}
use Rattle.raft_records.specs.FileBatches.{FileBatch, batches_of}
use Rattle.raft_records.specs.Item.{Batch, Entries, Entry, Item}
use Rattle.raft_records.specs.PlacedItem.{PlacedItem, item_in}
use Rattle.raft_records.specs.Places.{Blocks, entry_in, entries_in}
use Rattle.raft_records.specs.Record.{Mark}
use Rattle.raft_records.specs.Record.Mark.{Middle, End}
use Rattle.raft_recovery_laws.specs.Bounds.{AreItemsBelow}
use Rattle.raft_recovery_laws.specs.Consecutive.{HasConsecutiveEntries, are_consecutive, content_is_consecutive}
use Rattle.raft_recovery_laws.specs.Ids.{EndsInGroup}
use Rattle.raft_recovery_laws.specs.Recovered.{effect, replay}
use Rattle.raft_recovery_laws.specs.Stands.{Queues}
use Rattle.raft_recovery_laws.specs.Takes.{RewriteTakes}
use Rattle.raft_recovery_laws.proofs.ContentsLemmas.{consecutive_one, replay_consecutive}
use Rattle.raft_recovery_laws.proofs.EachLemmas.{each_contained, each_left, each_map, each_right}
use Rattle.raft_recovery_laws.proofs.GroupLemmas.{effect-complete_group}
use Rattle.raft_recovery_laws.proofs.MarkLemmas.{each_changes_nothing}
use Rattle.raft_tables.specs.MovedEntries.{may_move_from}
use Rattle.raft_tables.specs.Owed.{Owed}
use Rattle.raft_tables.specs.Tables.{Tables, or_empty}
use Rattle.raft_index_laws.specs.ForQueues.{StandForQueues}
use Rattle.raft_index_laws.specs.Standing.{EntryStands, TablesStandFor, are_rewritten, ends_leave}
use Rattle.raft_index_laws.proofs.FitLemmas.{rewritten_are_held}
use Rattle.raft_index_laws.specs.AtomicGroup.{bodies_in, ended_group, last_body, marked, next_mark, open_group, set_by_parts}
use Rattle.raft_index_laws.specs.Gathering.{IsGathered}
use Rattle.raft_index_laws.specs.Rewriting.{IsFetched, entries_item}
use Rattle.raft_index_laws.proofs.FitsLemmas.{Fits, all_fit, are_apart, each_nothing, each_run}
use Rattle.raft_index_laws.proofs.GroupIdLemmas.{effect_open, ended_complete, ended_of_group, ends_more, more_is}
use Rattle.raft_index_laws.proofs.PartsLemmas.{front_run, parts_at_once, rest_run}
use Rattle.raft_index_laws.proofs.StepLemmas.{all_synced, held_below, held_run, one_more, rewrites}

-- A part of what was fetched of the Rewrite queue.

-- the parts of what was fetched
record Between (es before part behind : List (ℕ × EntryPlace)) : Type 0 where
  front : List (ℕ × EntryPlace)
  back : List (ℕ × EntryPlace)
  is : es ≡ front ++ (part ++ back)

between : (es before part behind : List (ℕ × EntryPlace)) → IsFetched None es (before ++ (part ++ behind)) → Between es before part behind
between es before part behind from = record {
  front = from.pre ++ before;
  back = behind ++ from.post;
  is = from.parts ∙ ap (λ xs. from.pre ++ xs) (append_assoc before (part ++ behind) from.post ∙ ap (λ xs. before ++ xs) (append_assoc part behind from.post)) ∙ sym (append_assoc from.pre before (part ++ (behind ++ from.post)));
}

pub middle_run : (blocks : Blocks) (front part back : List (ℕ × EntryPlace)) → are_consecutive (entries_in blocks (front ++ (part ++ back))) ≡ true → are_consecutive (entries_in blocks part) ≡ true
middle_run blocks front part back run =
    front_run (entries_in blocks part) (entries_in blocks back) (rest_run (entries_in blocks front) (entries_in blocks part ++ entries_in blocks back)
    (subst (λ (xs : List Entry). are_consecutive xs ≡ true) (map-append (entry_in blocks) front (part ++ back) ∙ ap (λ xs. entries_in blocks front ++ xs) (map-append (entry_in blocks) part back)) run))

all_rewritten : (es : List (ℕ × EntryPlace)) → Each (λ e. may_move_from None e.1 ≡ true) es → are_rewritten es ≡ true
all_rewritten [] moves = refl
all_rewritten (e ∷ es) moves = ap (λ b. b && are_rewritten es) moves.0 ∙ all_rewritten es moves.1

pub part_run : (blocks : Blocks) (numbered : List FileBatch) (owed : Owed) (t : Tables) (q : Queues) (group : ℕ) (before part behind : List (ℕ × EntryPlace)) → StandForQueues blocks numbered owed t q → IsFetched None (or_empty (t group)).entries (before ++ (part ++ behind)) → are_consecutive (entries_in blocks part) ≡ true
part_run blocks numbered owed t q group before part behind s from =
    let at = between (or_empty (t group)).entries before part behind from in
    middle_run blocks at.front part at.back
    (subst (λ es. are_consecutive (entries_in blocks es) ≡ true) at.is
    (subst (λ (m : Contents). are_consecutive (m.entries group) ≡ true) (sym s.stand.contents) (replay_consecutive (effect (rewrites q)) (batches_of numbered) (held_run blocks numbered owed t q s) s.appended_consecutive group)))

pub part_low : (blocks : Blocks) (numbered : List FileBatch) (owed : Owed) (t : Tables) (q : Queues) (group : ℕ) (before part behind : List (ℕ × EntryPlace)) → StandForQueues blocks numbered owed t q → IsFetched None (or_empty (t group)).entries (before ++ (part ++ behind)) → Each (λ e. e.0 < 2 ^ 64 - 1) (entries_in blocks part)
part_low blocks numbered owed t q group before part behind s from =
    each_map (Contains held) (λ (e : Entry). e.0 < 2 ^ 64 - 1) (entries_in blocks part) (λ e has. each_contained (λ (o : Entry). o.0 < 2 ^ 64 - 1) held e (held_below blocks numbered owed t q s group) has)
    (rewritten_are_held blocks (ends_leave numbered group) (owed group) held part (all_rewritten part moves) stand)
  where
    held : List Entry
    held = (effect (rewrites q)).entries group

    at : Between (or_empty (t group)).entries before part behind
    at = between (or_empty (t group)).entries before part behind from

    P : ℕ × EntryPlace → Type 0
    P = EntryStands blocks (ends_leave numbered group) (owed group) held

    stand : Each P part
    stand = each_left P part at.back (each_right P at.front (part ++ at.back) (subst (Each P) at.is (s.stand.entries group).each))

    M : ℕ × EntryPlace → Type 0
    M = λ e. may_move_from None e.1 ≡ true

    moves : Each M part
    moves = each_left M part behind (each_right M before (part ++ behind) from.moves)

-- A batch of a group that isn't ended.

next_of_map : {X Y : Type 0} (f : X → Y) (xs : List X) → next_mark (map f xs) ≡ next_mark xs
next_of_map f [] = refl
next_of_map f (x ∷ xs) = refl

pub after_open : (batches : List Batch) (id : ℕ) (bodies : List Batch) (body : Batch) → EndsInGroup id (open_group id bodies) batches → effect (batches ++ marked id (next_mark bodies) body ∷ []) ≡ effect batches
after_open batches id bodies body e =
    let more : EndsInGroup id (open_group id (bodies ++ body ∷ [])) (batches ++ marked id (next_mark bodies) body ∷ []) = record { old = e.old; is = more_is id bodies batches body e; apart = e.apart } in
    effect_open id (bodies ++ body ∷ []) (batches ++ marked id (next_mark bodies) body ∷ []) more ∙ sym (effect_open id bodies batches e)

pub opened : (blocks : Blocks) (numbered : List FileBatch) (owed : Owed) (t : Tables) (q : Queues) (id group : ℕ) (parts : List (List (ℕ × EntryPlace))) (part rest : List (ℕ × EntryPlace)) → StandForQueues blocks numbered owed t q
    → EndsInGroup id (open_group id (bodies_in blocks group parts)) (rewrites q) → IsFetched None (or_empty (t group)).entries (flat_map (λ p. p) parts ++ (part ++ rest))
    → let batch = marked id (next_mark parts) (entries_item group (entries_in blocks part) ∷ []) in
    let next = record q { rewritten_since = q.rewritten_since ++ batch ∷ [] } in
    RewriteTakes batch q × StandForQueues blocks numbered owed t next × EndsInGroup id (open_group id (bodies_in blocks group (parts ++ part ∷ []))) (next.rewritten ++ next.rewritten_since)
opened blocks numbered owed t q id group parts part rest s e from = (
  record { consecutive = consecutive_one batch run; found = ap (λ x. replay x q.appended) same },
  one_more blocks numbered owed owed t t q batch s run low (subst (λ (x : Contents). TablesStandFor blocks x numbered owed t) (sym same) s.stand),
  subst (λ (bs : List Batch). EndsInGroup id (open_group id (bodies_in blocks group (parts ++ part ∷ []))) bs) (append_assoc q.rewritten q.rewritten_since (batch ∷ []))
      (subst (λ (bs : List Batch). EndsInGroup id (open_group id bs) (rewrites q ++ batch ∷ [])) (sym (map-append body_of parts (part ∷ [])))
      (subst (λ (m : Mark). EndsInGroup id (open_group id (bodies ++ body ∷ [])) (rewrites q ++ marked id m body ∷ [])) mark (ends_more id bodies (rewrites q) body e))),
)
  where
    body_of : List (ℕ × EntryPlace) → Batch
    body_of = λ p. entries_item group (entries_in blocks p) ∷ []

    bodies : List Batch
    bodies = bodies_in blocks group parts

    body : Batch
    body = entries_item group (entries_in blocks part) ∷ []

    batch : Batch
    batch = marked id (next_mark parts) body

    mark : next_mark bodies ≡ next_mark parts
    mark = next_of_map body_of parts

    same : effect (rewrites q ++ batch ∷ []) ≡ effect (rewrites q)
    same = subst (λ (m : Mark). effect (rewrites q ++ marked id m body ∷ []) ≡ effect (rewrites q)) mark (after_open (rewrites q) id bodies body e)

    run : list_all (λ i. content_is_consecutive i.content) batch ≡ true
    run = ap (λ b. b && true) (part_run blocks numbered owed t q group (flat_map (λ p. p) parts) part rest s from)

    low : AreItemsBelow (2 ^ 64 - 1) batch
    low = (tt, (part_low blocks numbered owed t q group (flat_map (λ p. p) parts) part rest s from, tt))

-- All batches of a group set what its parts at once and the values set.

middles_set : (id : ℕ) (m : Contents) (bodies : List Batch) → after_batches m (map (marked id Middle) bodies) ≡ after_batches m bodies
middles_set id m [] = refl
middles_set id m (b ∷ bodies) = middles_set id (after_batch m b) bodies

open_set : (id : ℕ) (m : Contents) (bodies : List Batch) → after_batches m (open_group id bodies) ≡ after_batches m bodies
open_set id m [] = refl
open_set id m (b ∷ bodies) = middles_set id (after_batch m b) bodies

bodies_set : (blocks : Blocks) (group : ℕ) (m : Contents) (parts : List (List (ℕ × EntryPlace))) → after_batches m (bodies_in blocks group parts) ≡ fold after_item m (map (entries_item group) (map (entries_in blocks) parts))
bodies_set blocks group m [] = refl
bodies_set blocks group m (p ∷ parts) = bodies_set blocks group (after_item m (entries_item group (entries_in blocks p))) parts

flat_entries : (blocks : Blocks) (parts : List (List (ℕ × EntryPlace))) → flat_map (λ p. p) (map (entries_in blocks) parts) ≡ entries_in blocks (flat_map (λ p. p) parts)
flat_entries blocks [] = refl
flat_entries blocks (p ∷ parts) = ap (λ es. entries_in blocks p ++ es) (flat_entries blocks parts) ∙ sym (map-append (entry_in blocks) p (flat_map (λ x. x) parts))

flat_more : {X : Type 0} (parts : List (List X)) (part : List X) → flat_map (λ p. p) (parts ++ part ∷ []) ≡ flat_map (λ p. p) parts ++ part
flat_more [] part = append-nil part
flat_more (p ∷ parts) part = ap (λ es. p ++ es) (flat_more parts part) ∙ sym (append_assoc p (flat_map (λ x. x) parts) part)

pub set_at_once : (blocks : Blocks) (id group : ℕ) (x : Contents) (parts : List (List (ℕ × EntryPlace))) (part : List (ℕ × EntryPlace)) (values : List PlacedItem) → HasConsecutiveEntries x → (parts ≡ [] → ⊥) → are_consecutive (entries_in blocks (flat_map (λ p. p) parts ++ part)) ≡ true
    → after_batches x (ended_group id (bodies_in blocks group parts) (last_body blocks group part values)) ≡ after_batch x (map (item_in blocks) (set_by_parts group parts part values))
set_at_once blocks id group x [] part values run_x some run = absurd (some refl)
set_at_once blocks id group x (p ∷ parts) part values run_x some run =
    fold-append after_batch x (open_group id (bodies_in blocks group (p ∷ parts))) (marked id End (last_body blocks group part values) ∷ [])
    ∙ ap (λ (m : Contents). after_batch m (last_body blocks group part values)) (open_set id x (bodies_in blocks group (p ∷ parts)) ∙ bodies_set blocks group x (p ∷ parts))
    ∙ ap (λ (m : Contents). after_batch m (map (item_in blocks) values)) all
  where
    all_parts : List (List Entry)
    all_parts = map (entries_in blocks) (parts ++ part ∷ [])

    joined : entries_in blocks p ++ flat_map (λ es. es) all_parts ≡ entries_in blocks (flat_map (λ es. es) (p ∷ parts) ++ part)
    joined =
        ap (λ es. entries_in blocks p ++ es) (flat_entries blocks (parts ++ part ∷ []) ∙ ap (entries_in blocks) (flat_more parts part)) ∙ sym (map-append (entry_in blocks) p (flat_map (λ es. es) parts ++ part))
        ∙ ap (entries_in blocks) (sym (append_assoc p (flat_map (λ es. es) parts) part))

    all : after_item (fold after_item x (map (entries_item group) (map (entries_in blocks) (p ∷ parts)))) (entries_item group (entries_in blocks part)) ≡ after_item x (entries_item group (entries_in blocks (flat_map (λ es. es) (p ∷ parts) ++ part)))
    all =
        sym (fold-append after_item x (map (entries_item group) (map (entries_in blocks) (p ∷ parts))) (entries_item group (entries_in blocks part) ∷ []))
        ∙ ap (fold after_item x) (sym (map-append (entries_item group) (map (entries_in blocks) (p ∷ parts)) (entries_in blocks part ∷ [])) ∙ ap (map (entries_item group)) (sym (map-append (entries_in blocks) (p ∷ parts) (part ∷ []))))
        ∙ parts_at_once x group (entries_in blocks p) all_parts run_x (subst (λ (es : List Entry). are_consecutive es ≡ true) (sym joined) run)
        ∙ ap (λ es. after_item x (entries_item group es)) joined

-- The last batch of a group.

-- what the last batch leaves of the Rewrite queue
pub after_ended : (batches : List Batch) (id : ℕ) (bodies : List Batch) (last : Batch) → EndsInGroup id (open_group id bodies) batches → (bodies ≡ [] → ⊥) → effect (batches ++ marked id End last ∷ []) ≡ after_batches (effect batches) (ended_group id bodies last)
after_ended batches id bodies last e some =
    ap effect (ap (λ bs. bs ++ marked id End last ∷ []) e.is ∙ append_assoc e.old (open_group id bodies) (marked id End last ∷ []))
    ∙ effect-complete_group id e.old (ended_group id bodies last) e.apart (ended_of_group id bodies last) (ended_complete id bodies last some)
    ∙ ap (λ (m : Contents). after_batches m (ended_group id bodies last)) (sym (effect_open id bodies batches e))

pub some_bodies : (blocks : Blocks) (group : ℕ) (parts : List (List (ℕ × EntryPlace))) → (parts ≡ [] → ⊥) → bodies_in blocks group parts ≡ [] → ⊥
some_bodies blocks group [] some none = some refl
some_bodies blocks group (p ∷ parts) some none = cc

first_fits : (x : Contents) (a : List Batch) (g : ℕ) (es : List Entry) → Fits x a g (Entries es) → are_consecutive es ≡ true
first_fits x a g [] fits = refl
first_fits x a g (e ∷ es) fits = fits.0

pub record Ended (blocks : Blocks) (numbered : List FileBatch) (owed : Owed) (t : Tables) (q : Queues) (id group : ℕ) (parts : List (List (ℕ × EntryPlace))) (part : List (ℕ × EntryPlace)) (values : List PlacedItem) : Type 0 where
  pub run : list_all (λ i. content_is_consecutive i.content) (marked id End (last_body blocks group part values)) ≡ true
  pub all_run : are_consecutive (entries_in blocks (flat_map (λ p. p) parts ++ part)) ≡ true
  pub effect_is : effect (rewrites q ++ marked id End (last_body blocks group part values) ∷ []) ≡ after_batch (effect (rewrites q)) (map (item_in blocks) (set_by_parts group parts part values))
  pub nothing : replay (after_batch (effect (rewrites q)) (map (item_in blocks) (set_by_parts group parts part values))) (batches_of numbered) ≡ replay (effect (rewrites q)) (batches_of numbered)

pub ended_of : (blocks : Blocks) (numbered : List FileBatch) (owed : Owed) (t : Tables) (q : Queues) (id group : ℕ) (parts : List (List (ℕ × EntryPlace))) (part : List (ℕ × EntryPlace)) (values : List PlacedItem) → StandForQueues blocks numbered owed t q
    → EndsInGroup id (open_group id (bodies_in blocks group parts)) (rewrites q) → (parts ≡ [] → ⊥) → IsGathered None owed t (set_by_parts group parts part values) → Ended blocks numbered owed t q id group parts part values
ended_of blocks numbered owed t q id group parts part values s e some gathered =
    let x = effect (rewrites q) in
    let items = set_by_parts group parts part values in
    let run_x = held_run blocks numbered owed t q s in
    let fit = all_fit blocks x numbered owed t None items run_x s.appended_consecutive s.stand gathered.each in
    let whole = first_fits x (batches_of numbered) group (entries_in blocks (flat_map (λ p. p) parts ++ part)) fit.0 in
    let last = last_body blocks group part values in
    let part_is : are_consecutive (entries_in blocks part) ≡ true = rest_run (entries_in blocks (flat_map (λ p. p) parts)) (entries_in blocks part) (subst (λ (es : List Entry). are_consecutive es ≡ true) (map-append (entry_in blocks) (flat_map (λ p. p) parts) part) whole) in
    record {
      run = ap (λ b. b && list_all (λ (i : Item). content_is_consecutive i.content) (map (item_in blocks) values)) part_is ∙ each_run x (batches_of numbered) (map (item_in blocks) values) fit.1;
      all_run = whole;
      effect_is = after_ended (rewrites q) id (bodies_in blocks group parts) last e (some_bodies blocks group parts some) ∙ set_at_once blocks id group x parts part values run_x some whole;
      nothing = each_changes_nothing x (batches_of numbered) (map (item_in blocks) items) (each_nothing x (batches_of numbered) (map (item_in blocks) items) run_x s.appended_consecutive fit (are_apart blocks items gathered.apart));
    }

pub ended_takes : (blocks : Blocks) (numbered : List FileBatch) (owed : Owed) (t : Tables) (q : Queues) (id group : ℕ) (parts : List (List (ℕ × EntryPlace))) (part : List (ℕ × EntryPlace)) (values : List PlacedItem) → StandForQueues blocks numbered owed t q → q.appended_since ≡ []
    → EndsInGroup id (open_group id (bodies_in blocks group parts)) (rewrites q) → (parts ≡ [] → ⊥) → IsGathered None owed t (set_by_parts group parts part values) → RewriteTakes (marked id End (last_body blocks group part values)) q
ended_takes blocks numbered owed t q id group parts part values s none e some gathered =
    let of = ended_of blocks numbered owed t q id group parts part values s e some gathered in
    record {
      consecutive = consecutive_one (marked id End (last_body blocks group part values)) of.run;
      found = subst (λ (bs : List Batch). replay (effect (rewrites q ++ marked id End (last_body blocks group part values) ∷ [])) bs ≡ replay (effect (rewrites q)) bs) (all_synced blocks numbered owed t q s none)
          (ap (λ (m : Contents). replay m (batches_of numbered)) of.effect_is ∙ of.nothing);
    }
