-- The acts of operations: that they may all act, and are what was written.
use Rattle.std.proofs.Common.{◌≡◌, ℕ, zero, suc, Bool, true, false, inl, inr, List, [], ◌∷◌, ◌++◌, map, take, Option, Some, None, refl, sym, ◌∙◌, ap, subst, append_assoc}
use Rattle.std.specs.Prelude.{◌⊎◌, if◌then◌else◌, Result, Ok, Err, is_none, unwrap_or}
use Rattle.std.specs.List.{AllByRecursion}
use Rattle.std.proofs.lemmas.List.{append-nil}
use Rattle.std.proofs.Math.Logic.{∥∥₁_map}
use Rattle.raft_base.specs.declared.errors.Fault.{Fault}
use Rattle.raft_records.specs.Contents.{Contents, after_batch, after_batches}
use Rattle.raft_records.specs.Item.{Batch, Entry}
use Rattle.raft_records.specs.Validity.{batch_refusal}
use Rattle.raft_crash_laws.specs.Crash.{pending_of, written_batch}
use Rattle.raft_once.specs.History.{Act, ActedOnce, MayAllAct, acted_after, are_numbers, are_written, written_of}
use Rattle.raft_once.specs.Numbers.{Pair, are_new, are_unfit, has_numbers, numbered}
use Rattle.raft_log_engine.specs.Cause.{plain_part, plain_parts}
use Rattle.raft_log_engine.specs.Group.{accepted_in, chosen_of}
use Rattle.raft_log_engine.specs.Reads.{compact_batch}
use Rattle.raft_script.specs.Batches.{MayBeInFlight, accepted_of, answers_in, batch_of_acts, batches_of_op, group_batches, items_of_acts, once_batch}
use Rattle.raft_script.specs.Durability.{progress_after_all}
use Rattle.raft_script.specs.Headline.{Progress, progress_after, progress_from}
use Rattle.raft_script.specs.Numbers.{HaveActed, acts_in, acts_of}
use Rattle.raft_script.specs.declared.operation.Op.{Op}
use Rattle.raft_script.specs.declared.operation.Op.TheVariants.{CompactTo, Write, WriteGroup, WriteOnce}
use Rattle.raft_script.specs.declared.operation.Outcome.{Outcome}
use Rattle.raft_script.proofs.StepsLemmas.{after-append}

-- Acts one after the other.

pub written-append : (acts more : List Act) → are_written (acts ++ more) ≡ are_written acts ++ are_written more
written-append [] more = refl
written-append (act ∷ acts) more = ap (λ (l : List Batch). written_of act ∷ l) (written-append acts more)

pub written-take : (count : ℕ) (acts : List Act) → take count (are_written acts) ≡ are_written (take count acts)
written-take zero acts = refl
written-take (suc count) [] = refl
written-take (suc count) (act ∷ acts) = ap (λ (l : List Batch). written_of act ∷ l) (written-take count acts)

-- acts may act behind others that may, where they may at what those leave
pub all-append : (m : Contents) (acts more : List Act) → MayAllAct m acts → MayAllAct (after_batches m (are_written acts)) more → MayAllAct m (acts ++ more)
all-append m [] more may later = later
all-append m (act ∷ acts) more may later = (may.0, all-append (after_batch m (written_of act)) acts more may.1 later)

-- the first ones of acts that may all act may
pub all-take : (m : Contents) (acts : List Act) (count : ℕ) → MayAllAct m acts → MayAllAct m (take count acts)
all-take m acts zero may = tt
all-take m [] (suc count) may = tt
all-take m (act ∷ acts) (suc count) may = (may.0, all-take (after_batch m (written_of act)) acts count may.1)

-- Batches without numbers.

abbrev ArePlain : List Batch → Type 0
ArePlain batches = AllByRecursion (λ batch. has_numbers batch ≡ false) batches

plain-append : (batches more : List Batch) → ArePlain batches → ArePlain more → ArePlain (batches ++ more)
plain-append [] more plain later = later
plain-append (b ∷ batches) more plain later = (plain.0, plain-append batches more plain.1 later)

part_plain : (batch : Batch) → has_numbers (plain_part batch) ≡ false
part_plain batch = by_case (has_numbers batch) refl
  where
    by_case : (b : Bool) → has_numbers batch ≡ b → has_numbers (if b then [] else batch) ≡ false
    by_case true is = refl
    by_case false is = is

-- a batch without numbers is taken whole
pub part_whole : (batch : Batch) → has_numbers batch ≡ false → plain_part batch ≡ batch
part_whole batch plain = ap (λ (b : Bool). if b then [] else batch) plain

parts_plain : (batches : List Batch) → ArePlain (plain_parts batches)
parts_plain [] = tt
parts_plain (b ∷ batches) = (part_plain b, parts_plain batches)

written_plain : (batch : Batch) → has_numbers batch ≡ false → ArePlain (written_batch batch)
written_plain [] plain = tt
written_plain (item ∷ items) plain = (plain, tt)

pending_plain : (m : Contents) (batch : Batch) → has_numbers batch ≡ false → ArePlain (pending_of m batch)
pending_plain m batch plain = by_case (is_none (batch_refusal m batch))
  where
    by_case : (b : Bool) → ArePlain (if b then written_batch batch else [])
    by_case true = written_plain batch plain
    by_case false = tt

accepted_plain : (answers : List (Result ℕ Fault)) (batches : List Batch) → ArePlain batches → ArePlain (accepted_in answers batches)
accepted_plain [] batches plain = tt
accepted_plain (Ok len ∷ answers) [] plain = tt
accepted_plain (Err e ∷ answers) [] plain = tt
accepted_plain (Ok len ∷ answers) (b ∷ batches) plain = plain-append (written_batch b) (accepted_in answers batches) (written_plain b plain.0) (accepted_plain answers batches plain.1)
accepted_plain (Err e ∷ answers) (b ∷ batches) plain = accepted_plain answers batches plain.1

chosen_plain : (m : Contents) (choice : List Bool) (batches : List Batch) → ArePlain batches → ArePlain (chosen_of m choice batches)
chosen_plain m [] batches plain = tt
chosen_plain m (true ∷ choice) [] plain = tt
chosen_plain m (false ∷ choice) [] plain = tt
chosen_plain m (true ∷ choice) (b ∷ batches) plain = plain-append (pending_of m b) (chosen_of (after_batches m (pending_of m b)) choice batches) (pending_plain m b plain.0) (chosen_plain (after_batches m (pending_of m b)) choice batches plain.1)
chosen_plain m (false ∷ choice) (b ∷ batches) plain = chosen_plain m choice batches plain.1

-- a command has none
compact_plain : (group index : ℕ) (entries : List Entry) → has_numbers (compact_batch group index entries) ≡ false
compact_plain group index [] = refl
compact_plain group index (e ∷ entries) = refl

-- as acts
abbrev plainly : Batch → Act
plainly batch = record { items = batch; pairs = [] }

plain_may : (m : Contents) (batches : List Batch) → ArePlain batches → MayAllAct m (map plainly batches)
plain_may m [] plain = tt
plain_may m (b ∷ batches) plain = (record { plain = plain.0; numbers = refl; greater = inl refl }, plain_may (after_batch m (written_of (plainly b))) batches plain.1)

plain_written : (batches : List Batch) → are_written (map plainly batches) ≡ batches
plain_written [] = refl
plain_written (b ∷ batches) = ap (λ (x : Batch). x ∷ are_written (map plainly batches)) (append-nil b) ∙ ap (λ (l : List Batch). b ∷ l) (plain_written batches)

-- A batch with numbers.

-- these batches of one operation may act, with these items and numbers, and are what they write
abbrev ActWith : Contents → Batch → List Pair → List Batch → Type 0
ActWith m items pairs batches =
    MayAllAct m (map (λ batch. record { items = items; pairs = pairs }) batches)
    × (are_written (map (λ batch. record { items = items; pairs = pairs }) batches) ≡ batches)

once_acts : (m : Contents) (built : Option Batch) (pairs : List Pair) → ActWith m (unwrap_or built []) pairs (written_batch (once_batch m built pairs))
once_acts m None pairs = (tt, refl)
once_acts m (Some items) pairs = by_case (are_numbers pairs) (are_unfit pairs) (has_numbers items) (are_new m pairs) refl refl refl refl
  where
    acting : are_numbers pairs ≡ true → are_unfit pairs ≡ false → has_numbers items ≡ false → are_new m pairs ≡ true → (batch : Batch) → numbered items pairs ≡ batch → ActWith m items pairs (written_batch batch)
    acting numbers fit plain new [] is = (tt, refl)
    acting numbers fit plain new (i ∷ others) is = ((record { plain = plain; numbers = numbers; greater = inr (fit, new) }, tt), ap (λ (b : Batch). b ∷ []) is)

    by_case : (n u h w : Bool) → are_numbers pairs ≡ n → are_unfit pairs ≡ u → has_numbers items ≡ h → are_new m pairs ≡ w
        → ActWith m items pairs (written_batch (if n then (if u then [] else if h then [] else if w then numbered items pairs else []) else []))
    by_case false u h w numbers fit plain new = (tt, refl)
    by_case true true h w numbers fit plain new = (tt, refl)
    by_case true false true w numbers fit plain new = (tt, refl)
    by_case true false false false numbers fit plain new = (tt, refl)
    by_case true false false true numbers fit plain new = acting numbers fit plain new (numbered items pairs) refl

-- Operations.

-- these are some of an operation's batches, of those that may act
abbrev pub ArePartOf : Contents → Op → List Batch → Type 0
ArePartOf m (WriteOnce acts pairs sync) batches = (batches ≡ [])
    ⊎ (batches ≡ written_batch (once_batch m (batch_of_acts acts.items) pairs.items))
ArePartOf m op batches = ArePlain batches

abbrev pub Act-in : Contents → Op → List Batch → Type 0
Act-in m op batches = MayAllAct m (acts_in op batches) × (are_written (acts_in op batches) ≡ batches)

pub part_acts : (m : Contents) (op : Op) (batches : List Batch) → ArePartOf m op batches → Act-in m op batches
part_acts m (WriteOnce acts pairs sync) batches (inl none) = subst (λ (l : List Batch). Act-in m (WriteOnce acts pairs sync) l) (sym none) (tt, refl)
part_acts m (WriteOnce acts pairs sync) batches (inr is) = subst (λ (l : List Batch). Act-in m (WriteOnce acts pairs sync) l) (sym is) (once_acts m (batch_of_acts acts.items) pairs.items)
part_acts m _ batches plain = (plain_may m batches plain, plain_written batches)

pub accepted_part : (m : Contents) (op : Op) (outcome : Outcome) → ArePartOf m op (accepted_of m op outcome)
accepted_part m (WriteOnce acts pairs sync) outcome = alone (answers_in outcome) (once_batch m (batch_of_acts acts.items) pairs.items)
  where
    ended : (answers : List (Result ℕ Fault)) → accepted_in answers [] ≡ []
    ended [] = refl
    ended (Ok len ∷ answers) = refl
    ended (Err e ∷ answers) = refl

    alone : (answers : List (Result ℕ Fault)) (batch : Batch) → (accepted_in answers (batch ∷ []) ≡ []) ⊎ (accepted_in answers (batch ∷ []) ≡ written_batch batch)
    alone [] batch = inl refl
    alone (Ok len ∷ answers) batch = inr (ap (λ (l : List Batch). written_batch batch ++ l) (ended answers) ∙ append-nil (written_batch batch))
    alone (Err e ∷ answers) batch = inl (ended answers)
accepted_part m (Write acts sync) outcome = accepted_plain (answers_in outcome) (plain_part (items_of_acts acts.items) ∷ []) (part_plain (items_of_acts acts.items), tt)
accepted_part m (WriteGroup parts) outcome = accepted_plain (answers_in outcome) (plain_parts (group_batches parts.items)) (parts_plain (group_batches parts.items))
accepted_part m (CompactTo group index) outcome = accepted_plain (answers_in outcome) (compact_batch group index (m.entries group) ∷ []) (compact_plain group index (m.entries group), tt)
accepted_part m _ outcome = accepted_plain (answers_in outcome) [] tt

chosen_part : (m : Contents) (op : Op) (choice : List Bool) → ArePartOf m op (chosen_of m choice (batches_of_op m op))
chosen_part m (WriteOnce acts pairs sync) choice = alone choice (once_batch m (batch_of_acts acts.items) pairs.items)
  where
    ended : (x : Contents) (choice : List Bool) → chosen_of x choice [] ≡ []
    ended x [] = refl
    ended x (true ∷ choice) = refl
    ended x (false ∷ choice) = refl

    pending : (batch : Batch) (b : Bool) → ((if b then written_batch batch else []) ≡ []) ⊎ ((if b then written_batch batch else []) ≡ written_batch batch)
    pending batch true = inr refl
    pending batch false = inl refl

    alone : (choice : List Bool) (batch : Batch) → (chosen_of m choice (batch ∷ []) ≡ []) ⊎ (chosen_of m choice (batch ∷ []) ≡ written_batch batch)
    alone [] batch = inl refl
    alone (false ∷ choice) batch = inl (ended m choice)
    alone (true ∷ choice) batch =
        let all : chosen_of m (true ∷ choice) (batch ∷ []) ≡ pending_of m batch =
        ap (λ (l : List Batch). pending_of m batch ++ l) (ended (after_batches m (pending_of m batch)) choice) ∙ append-nil (pending_of m batch) in
        elim (pending batch (is_none (batch_refusal m batch))) [
          | inl none ↦ inl (all ∙ none)
          | inr is ↦ inr (all ∙ is)
        ]
chosen_part m (Write acts sync) choice = chosen_plain m choice (plain_part (items_of_acts acts.items) ∷ []) (part_plain (items_of_acts acts.items), tt)
chosen_part m (WriteGroup parts) choice = chosen_plain m choice (plain_parts (group_batches parts.items)) (parts_plain (group_batches parts.items))
chosen_part m (CompactTo group index) choice = chosen_plain m choice (compact_batch group index (m.entries group) ∷ []) (compact_plain group index (m.entries group), tt)
chosen_part m _ choice = chosen_plain m choice [] tt

-- what an operation has in flight may act
pub flight_acts : (m : Contents) (op : Op) (flight : List Batch) → MayBeInFlight m op flight
    → ∥ MayAllAct m (acts_in op flight) × (are_written (acts_in op flight) ≡ flight) ∥₁
flight_acts m op flight may_be = ∥∥₁_map may_be (λ (choice, is).
    subst (λ (l : List Batch). Act-in m op l) (sym is) (part_acts m op (chosen_of m choice (batches_of_op m op)) (chosen_part m op choice)))

-- what operations wrote may all act
acts_may : (m : Contents) (ops : List Op) (outcomes : List Outcome) → MayAllAct m (acts_of m ops outcomes)
acts_may m [] outcomes = tt
acts_may m (op ∷ ops) [] = tt
acts_may m (op ∷ ops) (outcome ∷ outcomes) =
    let accepted = accepted_of m op outcome in
    let rest = acts_of (after_batches m accepted) ops outcomes in
    let here = part_acts m op accepted (accepted_part m op outcome) in
    all-append m (acts_in op accepted) rest here.0
    (subst (λ (l : List Batch). MayAllAct (after_batches m l) rest) (sym here.1) (acts_may (after_batches m accepted) ops outcomes))

-- .. and is what was accepted
acts_are : (m : Contents) (p : Progress) (ops : List Op) (outcomes : List Outcome)
    → (progress_after_all m p ops outcomes).batches ≡ p.batches ++ are_written (acts_of (after_batches m p.batches) ops outcomes)
acts_are m p [] outcomes = sym (append-nil p.batches)
acts_are m p (op ∷ ops) [] = sym (append-nil p.batches)
acts_are m p (op ∷ ops) (outcome ∷ outcomes) =
    let start = after_batches m p.batches in
    let accepted = accepted_of start op outcome in
    let rest = acts_of (after_batches start accepted) ops outcomes in
    let here = part_acts start op accepted (accepted_part start op outcome) in
    let next : (progress_after_all m (progress_after m p op outcome) ops outcomes).batches ≡ (p.batches ++ accepted) ++ are_written (acts_of (after_batches m (p.batches ++ accepted)) ops outcomes) =
    acts_are m (progress_after m p op outcome) ops outcomes in
    next
    ∙ ap (λ (x : Contents). (p.batches ++ accepted) ++ are_written (acts_of x ops outcomes)) (after-append m p.batches accepted)
    ∙ append_assoc p.batches accepted (are_written rest)
    ∙ ap (λ (l : List Batch). p.batches ++ (l ++ are_written rest)) (sym here.1)
    ∙ ap (λ (l : List Batch). p.batches ++ l) (sym (written-append (acts_in op accepted) rest))

-- the law of numbers
abbrev pub IsLaw : Type 0
IsLaw = (m : Contents) (group : ℕ) (acts : List Act) → MayAllAct m acts → ActedOnce (acted_after group [] acts)

pub have_acted : (law : IsLaw) (start m : Contents) (before : List Batch) (ops : List Op) (outcomes : List Outcome) → start ≡ after_batches m before → HaveActed start m before ops outcomes
have_acted law start m before ops outcomes is = record {
  may_all = acts_may start ops outcomes;
  are = acts_are m (progress_from before) ops outcomes ∙ ap (λ (x : Contents). before ++ are_written (acts_of x ops outcomes)) (sym is);
  once = λ group. law start group (acts_of start ops outcomes) (acts_may start ops outcomes);
}
