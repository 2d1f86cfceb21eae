-- What listeners are told and answer, one by one.
use Rattle.std.proofs.Common.{append_assoc, sym, ◌+◌, ◌++◌, ◌∙◌, ◌≡◌, ◌≤◌, ◌<◌, ◌-◌, ℕ, zero, suc, true, false, List, [], ◌∷◌, map, min, refl, Bool, ◌&&◌, ap, arith, Option, Some, None}
use Rattle.std.specs.List.{list_all}
use Rattle.std.specs.Option.{option_map_or}
use Rattle.raft_base.specs.declared.pipe_log.LogQueue.{LogQueue}
use Rattle.raft_base.specs.declared.pipe_log.LogQueue.TheVariants.{Append, Rewrite}
use Rattle.raft_listeners.specs.Heard.{HasHeard, Heard, least_of, new_files, room_taken}
use Rattle.raft_listeners.specs.Told.{appended_lens, found_in, is_of_rewrite, is_rewrite}
use Rattle.raft_listeners.specs.Waiting.{is_append, room_for}
use Rattle.raft_listeners.specs.declared.listener.Event.{Event}
use Rattle.raft_listeners.specs.declared.listener.Event.TheVariants as event

-- one answer more
pub least_lesser : (active barrier : ℕ) (kept : Option ℕ) (answers : List (Option ℕ)) → barrier ≡ least_of active answers
    → option_map_or (λ seq. min barrier seq) kept barrier ≡ least_of active (kept ∷ answers)
least_lesser active barrier None answers same = same
least_lesser active barrier (Some seq) answers same = ap (λ (n : ℕ). min n seq) same

-- so many new files take no more room
files_taken : (queue : LogQueue) (first count : ℕ) → room_taken (new_files queue first count) ≤ count
files_taken queue first zero = omega arith
files_taken Append first (suc count) = let less = files_taken Append first count in omega (arith, less)
files_taken Rewrite first (suc count) = let less = files_taken Rewrite first count in omega (arith, less)

taken_then : (more first : List Event) → room_taken (more ++ first) ≡ room_taken more + room_taken first
taken_then [] first = omega arith
taken_then (told ∷ more) first = let rest = taken_then more first in omega (arith, rest)

-- events of the Rewrite queue take none
pub none_taken : (events : List Event) → list_all is_of_rewrite events ≡ true → room_taken events ≡ 0
none_taken [] all = refl
none_taken (told ∷ events) all =
    let both = and_true (is_of_rewrite told) (list_all is_of_rewrite events) all in
    let rest = none_taken events both.1 in
    let free = room_free told both.0 in
    omega (arith, rest, free)
  where
    and_true : (a b : Bool) → a && b ≡ true → (a ≡ true) × (b ≡ true)
    and_true true b is = (refl, is)
    and_true false b is = absurd (let clash : false ≡ true = is in cc)

    by_queue : (queue : LogQueue) (seq : ℕ) → is_rewrite queue ≡ true → room_for (event.NewLogFile (record { queue = queue; seq = seq })) ≡ 0
    by_queue Append seq is = absurd (let clash : false ≡ true = is in cc)
    by_queue Rewrite seq is = refl

    room_free : (told : Event) → is_of_rewrite told ≡ true → room_for told ≡ 0
    room_free (event.NewLogFile id) is = by_queue id.queue id.seq is
    room_free (event.Append block) is = refl
    room_free (event.Apply id) is = refl
    room_free (event.Purge id) is = refl

pub append_is : (queue : LogQueue) → is_append queue ≡ true → queue ≡ Append
append_is Append is = refl
append_is Rewrite is = absurd (let both : false ≡ true = is in cc)

-- where some files are still to come there is room for the next one
pub room_left : (queue : LogQueue) (first end seq : ℕ) (old new : Heard) → HasHeard (new_files queue first (seq - first)) old new
    → end - first ≤ old.room → first ≤ seq → seq < end → 0 < new.room
room_left queue first end seq old new heard room begun before =
    let counted = files_taken queue first (seq - first) in
    let spent = heard.room in
    omega arith

-- nothing was told
pub heard_none : (heard : Heard) → HasHeard [] heard heard
heard_none heard = record { given = refl; told = refl; asked = refl; room = omega arith }

-- these, and then those
pub heard_then : (first more : List Event) (a b c : Heard) → HasHeard first a b → HasHeard more b c → HasHeard (more ++ first) a c
heard_then first more a b c one two = record {
  given = two.given ∙ one.given;
  told = two.told ∙ ap (λ (told : List Event). more ++ told) one.told ∙ sym (append_assoc more first a.told);
  asked = two.asked ∙ one.asked;
  room = let long = taken_then more first in let spent = one.room in let next = two.room in omega arith;
}

-- one event more since listeners were found
pub told_more : {L : Type 0} (heard : L → Heard) (found : List L) (event : Event) (told : List Event) (a b : Heard) → (found ≡ [] → ⊥) → HasHeard told (found_in (map heard found) a) a → HasHeard (event ∷ []) a b → HasHeard (event ∷ told) (found_in (map heard found) b) b
told_more heard [] event told a b some first more = absurd (some refl)
told_more heard (l ∷ earlier) event told a b some first more = heard_then told (event ∷ []) (heard l) a b first more

pub rewrite_more : (event : Event) (told : List Event) → is_of_rewrite event ≡ true → list_all is_of_rewrite told ≡ true → list_all is_of_rewrite (event ∷ told) ≡ true
rewrite_more event told is all = ap (λ (b : Bool). b && list_all is_of_rewrite told) is ∙ all

-- .. which is no record
pub lens_still : (event : Event) (told : List Event) → appended_lens (event ∷ []) ≡ [] → appended_lens (event ∷ told) ≡ appended_lens told
lens_still (event.NewLogFile id) told none = refl
lens_still (event.Append block) told none = absurd (let clash : block.len ∷ [] ≡ [] = none in cc)
lens_still (event.Apply id) told none = refl
lens_still (event.Purge id) told none = refl
