-- Batches that may be written one after the other: those without numbers, and those of a write that acts once.
use Rattle.std.proofs.Common.{◌≡◌, ◌∙◌, ◌++◌, ◌∷◌, ℕ, true, false, Bool, List, [], append-nil, refl, ap, inl, inr}
use Rattle.std.specs.Prelude.{Result, Ok, Err, is_none, if◌then◌else◌, map}
use Rattle.std.specs.List.{AllByRecursion}
use Rattle.raft_base.specs.declared.errors.Fault.{Fault}
use Rattle.raft_records.specs.Contents.{Contents, after_batch, after_batches}
use Rattle.raft_records.specs.Item.{Batch, Entry}
use Rattle.raft_records.specs.Validity.{batch_refusal}
use Rattle.raft_config.specs.Folders.{Folders}
use Rattle.raft_pipes.specs.PipeState.{PipeState}
use Rattle.raft_once.specs.History.{Act, MayAllAct, are_numbers, are_written, written_of}
use Rattle.raft_once.specs.Numbers.{Pair, are_new, are_unfit, has_numbers, numbered}
use Rattle.raft_crash_laws.specs.Crash.{pending_of, written_batch}
use Rattle.raft_log_engine.specs.Cause.{plain_part, plain_parts}
use Rattle.raft_log_engine.specs.Group.{AreGroupAnswers, GroupState, accepted_in, chosen_of}
use Rattle.raft_log_engine.specs.Once.{acting_batch}
use Rattle.raft_log_engine.specs.Reads.{compact_batch}
use Rattle.raft_world.specs.Call.{MayFollow}
use Rattle.raft_world.proofs.NumberLemmas.{none_follow}

-- Batches without numbers.

abbrev ArePlain : List Batch → Type 0
ArePlain batches = AllByRecursion (λ batch. has_numbers batch ≡ false) batches

plain-append : (batches more : List Batch) → ArePlain batches → ArePlain more → ArePlain (batches ++ more)
plain-append [] more plain later = later
plain-append (b ∷ batches) more plain later = (plain.0, plain-append batches more plain.1 later)

pub part_plain : (batch : Batch) → has_numbers (plain_part batch) ≡ false
part_plain batch = by_case (has_numbers batch) refl
  where
    by_case : (b : Bool) → has_numbers batch ≡ b → has_numbers (if b then [] else batch) ≡ false
    by_case true is = refl
    by_case false is = is

parts_plain : (batches : List Batch) → ArePlain (plain_parts batches)
parts_plain [] = tt
parts_plain (b ∷ batches) = (part_plain b, parts_plain batches)

written_plain : (batch : Batch) → has_numbers batch ≡ false → ArePlain (written_batch batch)
written_plain [] plain = tt
written_plain (item ∷ items) plain = (plain, tt)

pending_plain : (m : Contents) (batch : Batch) → has_numbers batch ≡ false → ArePlain (pending_of m batch)
pending_plain m batch plain = by_case (is_none (batch_refusal m batch))
  where
    by_case : (b : Bool) → ArePlain (if b then written_batch batch else [])
    by_case true = written_plain batch plain
    by_case false = tt

chosen_plain : (m : Contents) (choice : List Bool) (batches : List Batch) → ArePlain batches → ArePlain (chosen_of m choice batches)
chosen_plain m [] batches plain = tt
chosen_plain m (true ∷ choice) [] plain = tt
chosen_plain m (false ∷ choice) [] plain = tt
chosen_plain m (true ∷ choice) (b ∷ batches) plain = plain-append (pending_of m b) (chosen_of (after_batches m (pending_of m b)) choice batches) (pending_plain m b plain.0) (chosen_plain (after_batches m (pending_of m b)) choice batches plain.1)
chosen_plain m (false ∷ choice) (b ∷ batches) plain = chosen_plain m choice batches plain.1

abbrev plainly : Batch → Act
plainly batch = record { items = batch; pairs = [] }

plain_may : (m : Contents) (batches : List Batch) → ArePlain batches → MayAllAct m (map plainly batches)
plain_may m [] plain = tt
plain_may m (b ∷ batches) plain = (record { plain = plain.0; numbers = refl; greater = inl refl }, plain_may (after_batch m (written_of (plainly b))) batches plain.1)

plain_written : (batches : List Batch) → are_written (map plainly batches) ≡ batches
plain_written [] = refl
plain_written (b ∷ batches) = ap (λ (x : Batch). x ∷ are_written (map plainly batches)) (append-nil b) ∙ ap (λ (l : List Batch). b ∷ l) (plain_written batches)

plain_follow : (m : Contents) (batches : List Batch) → ArePlain batches → MayFollow m batches
plain_follow m batches plain = ∣ (map plainly batches, plain_written batches, plain_may m batches plain) ∣₁

-- a batch without numbers
pub plain_follows : (m : Contents) (batch : Batch) → has_numbers batch ≡ false → MayFollow m (written_batch batch)
plain_follows m batch plain = plain_follow m (written_batch batch) (written_plain batch plain)

-- the command of a compaction
pub compact_follows : (m : Contents) (group index : ℕ) (entries : List Entry) → MayFollow m (written_batch (compact_batch group index entries))
compact_follows m group index [] = none_follow m
compact_follows m group index (e ∷ entries) = plain_follows m (compact_batch group index (e ∷ entries)) refl

-- what may be taken of a group of batches
pub parts_follow : (m : Contents) (batches : List Batch) (choice : List Bool) → MayFollow m (chosen_of m choice (plain_parts batches))
parts_follow m batches choice = plain_follow m (chosen_of m choice (plain_parts batches)) (chosen_plain m choice (plain_parts batches) (parts_plain batches))

-- those that were accepted
group_plain : (target_size : ℕ) (folders : Folders) (p : PipeState) (m : Contents) (batches : List Batch) (answers : List (Result ℕ Fault)) (s s' : GroupState) → AreGroupAnswers target_size folders p m batches answers s s' → ArePlain (accepted_in answers batches)
group_plain target_size folders p m [] [] s s' are = tt
group_plain target_size folders p m [] (a ∷ answers) s s' are = absurd are
group_plain target_size folders p m (b ∷ batches) [] s s' are = absurd are
group_plain target_size folders p m (b ∷ batches) (Ok len ∷ answers) s s' are = plain-append (written_batch b) (accepted_in answers batches) (written_plain b are.1.plain) (group_plain target_size folders p (after_batch m b) batches answers are.0 s' are.2)
group_plain target_size folders p m (b ∷ batches) (Err e ∷ answers) s s' are = group_plain target_size folders p m batches answers are.0 s' are.2

pub accepted_follow : (target_size : ℕ) (folders : Folders) (p : PipeState) (m : Contents) (batches : List Batch) (answers : List (Result ℕ Fault)) (s s' : GroupState) → AreGroupAnswers target_size folders p m batches answers s s' → MayFollow m (accepted_in answers batches)
accepted_follow target_size folders p m batches answers s s' are = plain_follow m (accepted_in answers batches) (group_plain target_size folders p m batches answers s s' are)

-- A batch with numbers.

pub once_follows : (m : Contents) (items : Batch) (pairs : List Pair) → are_numbers pairs ≡ true → MayFollow m (written_batch (acting_batch m items pairs))
once_follows m items pairs numbers = by_case (are_unfit pairs) (has_numbers items) (are_new m pairs) refl refl refl
  where
    acting : are_unfit pairs ≡ false → has_numbers items ≡ false → are_new m pairs ≡ true → (batch : Batch) → numbered items pairs ≡ batch → MayFollow m (written_batch batch)
    acting fit plain new [] is = none_follow m
    acting fit plain new (i ∷ others) is = ∣ (record { items = items; pairs = pairs } ∷ [], ap (λ (b : Batch). b ∷ []) is, (record { plain = plain; numbers = numbers; greater = inr (fit, new) }, tt)) ∣₁

    by_case : (u h w : Bool) → are_unfit pairs ≡ u → has_numbers items ≡ h → are_new m pairs ≡ w → MayFollow m (written_batch (if u then [] else if h then [] else if w then numbered items pairs else []))
    by_case true h w fit plain new = none_follow m
    by_case false true w fit plain new = none_follow m
    by_case false false false fit plain new = none_follow m
    by_case false false true fit plain new = acting fit plain new (numbered items pairs) refl
