-- Ledgers.
use Rattle.std.proofs.Common.{◌≡◌, ◌∙◌, ◌+◌, ◌≤◌, ◌++◌, ◌∷◌, ℕ, zero, suc, true, false, Bool, List, [], append-nil, refl, sym, ap, arith, length, subst}
use Rattle.std.specs.Prelude.{take, if◌then◌else◌}
use Rattle.std.proofs.Props.{props}
use Rattle.std.proofs.Math.Logic.{∥∥₁_elim, ∥∥₁_map, ∥∥₁_prop}
use Rattle.std.proofs.lemmas.Grind.{fold-append}
use Rattle.std.proofs.lemmas.List.{take_all}
use Rattle.raft_records.specs.Contents.{Contents, after_batch, after_batches}
use Rattle.raft_records.specs.Item.{Batch}
use Rattle.raft_crash_laws.specs.Crash.{IsAllowedFrom}
use Rattle.raft_log_engine.specs.Group.{chosen_of}
use Rattle.raft_world.specs.Computed.{CallsAddBatches, DurableIsFound, FoundIsAFirstPart}
use Rattle.raft_world.specs.Ledger.{Ledger, MayFind, accepted_contents, accepting, after_crash, all_durable, durable_contents}

-- Batches.

pub take_nothing : (n : ℕ) → take {A = Batch} n [] ≡ []
take_nothing zero = refl
take_nothing (suc n) = refl

pub take_past : (xs ys : List Batch) (n : ℕ) → take (length xs + n) (xs ++ ys) ≡ xs ++ take n ys
take_past [] ys n = let none : length {A = Batch} [] + n ≡ n = omega arith in ap (λ k. take k ys) none
take_past (x ∷ xs) ys n = let one : length (x ∷ xs) + n ≡ suc (length xs + n) = omega arith in ap (λ k. take k (x ∷ (xs ++ ys))) one ∙ ap (λ l. x ∷ l) (take_past xs ys n)

pub none_chosen : (m : Contents) (choice : List Bool) → chosen_of m choice [] ≡ []
none_chosen m [] = refl
none_chosen m (true ∷ choice) = refl
none_chosen m (false ∷ choice) = refl

pub after-append : (m : Contents) (xs ys : List Batch) → after_batches m (xs ++ ys) ≡ after_batches (after_batches m xs) ys
after-append m xs ys = fold-append after_batch m xs ys

-- what a crash may leave of it
pub may_find_left : (l : Ledger) (choice : List Bool) (found : Contents) → IsAllowedFrom 0 (durable_contents l) (l.unsynced ++ chosen_of (accepted_contents l) choice l.in_flight) found → MayFind l found
may_find_left l choice found allowed = ∥∥₁_map allowed (λ (count, _, _, is).
    (after_crash l choice count, ∣ (choice, count, refl, is ∙ sym (after-append l.start l.durable (take count (l.unsynced ++ chosen_of (accepted_contents l) choice l.in_flight)))) ∣₁))

-- all of it, too
pub may_find_accepted : (l : Ledger) → MayFind l (accepted_contents l)
may_find_accepted l =
    let all : take (length l.unsynced) (l.unsynced ++ []) ≡ l.unsynced = ap (take (length l.unsynced)) (append-nil l.unsynced) ∙ take_all (length l.unsynced) l.unsynced (omega arith) in
    let short : length l.unsynced ≤ length (l.unsynced ++ []) = subst (λ (xs : List Batch). length l.unsynced ≤ length xs) (sym (append-nil l.unsynced)) (omega arith) in
    may_find_left l [] (accepted_contents l) ∣ (length l.unsynced, omega arith, short, ap (after_batches (durable_contents l)) (sym all)) ∣₁

pub all_durable_accepted : (l : Ledger) → accepted_contents (all_durable l) ≡ accepted_contents l
all_durable_accepted l = after-append l.start l.durable l.unsynced

-- the ledger after a call that accepts these batches
abbrev pub after_accepting : List Batch → Bool → Ledger → Ledger
after_accepting batches syncs l = if syncs then all_durable (accepting batches l) else accepting batches l

-- What an opening may find.

pub may_find : (l : Ledger) (written : List Bool) (count : ℕ) → MayFind l (after_batches (durable_contents l) (take count (l.unsynced ++ chosen_of (accepted_contents l) written l.in_flight)))
may_find l written count = ∣ (after_crash l written count, ∣ (written, count, refl, sym (after-append l.start l.durable (take count (l.unsynced ++ chosen_of (accepted_contents l) written l.in_flight)))) ∣₁) ∣₁

pub found_is_a_first_part : FoundIsAFirstPart
found_is_a_first_part l found = (
  λ may. ∥∥₁_elim may ∥∥₁_prop (λ (later, recovers). ∥∥₁_map recovers (λ (written, count, is, same).
      (written, count, same ∙ ap accepted_contents is ∙ after-append l.start l.durable (take count (l.unsynced ++ chosen_of (accepted_contents l) written l.in_flight))))),
  λ first. ∥∥₁_elim first ∥∥₁_prop (λ (written, count, is). subst (MayFind l) (sym is) (may_find l written count)),
)

pub durable_is_found : DurableIsFound
durable_is_found l found unsynced flight may = ∥∥₁_elim ((found_is_a_first_part l found).0 may) (hlevel props) (λ (written, count, is). is ∙ ap (after_batches (durable_contents l)) (none written count))
  where
    none : (written : List Bool) (count : ℕ) → take count (l.unsynced ++ chosen_of (accepted_contents l) written l.in_flight) ≡ []
    none written count =
        ap (λ (xs : List Batch). take count (xs ++ chosen_of (accepted_contents l) written l.in_flight)) unsynced
        ∙ ap (take count) (ap (chosen_of (accepted_contents l) written) flight ∙ none_chosen (accepted_contents l) written)
        ∙ take_nothing count

pub calls_add_batches : CallsAddBatches
calls_add_batches effect l = by_syncs effect.syncs
  where
    by_syncs : (syncs : Bool) → accepted_contents (after_accepting effect.accepts syncs l) ≡ after_batches (accepted_contents l) effect.accepts
    by_syncs true = all_durable_accepted (accepting effect.accepts l) ∙ after-append (durable_contents l) l.unsynced effect.accepts
    by_syncs false = after-append (durable_contents l) l.unsynced effect.accepts
