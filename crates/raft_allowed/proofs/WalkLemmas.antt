-- What operations lead to, and what may be left after them.
use Rattle.std.proofs.Common.{◌≡◌, ℕ, zero, suc, ◌+◌, ◌-◌, ◌<◌, ◌≤◌, Bool, true, false, cond, inl, inr, ⊎_elim, List, [], ◌∷◌, ◌++◌, length, length-append, map, take, drop, get_or, Option, Some, None, refl, sym, ◌∙◌, ap, subst, append_assoc, arith}
use Rattle.std.specs.Prelude.{◌⊎◌, Any, MatchOption, Result, Ok, Err, IsSomeAnd, slice_get}
use Rattle.std.specs.List.{AllByRecursion}
use Rattle.std.proofs.lemmas.Bool.{cases_lt}
use Rattle.std.proofs.lemmas.List.{append-nil, take_all, take-append-le}
use Rattle.std.proofs.Math.ListN.{drop_of_length-le}
use Rattle.std.proofs.Math.Logic.{∥∥₁_elim, ∥∥₁_map, ∥∥₁_prop}
use Rattle.raft_base.specs.declared.errors.Fault.{Fault}
use Rattle.raft_once.specs.Numbers.{shown}
use Rattle.raft_records.specs.Contents.{Contents, after_batch, after_batches, no_contents}
use Rattle.raft_records.specs.Item.{Batch}
use Rattle.raft_crash_laws.specs.Crash.{written_batch}
use Rattle.raft_log_engine.specs.Group.{accepted_in, chosen_of}
use Rattle.raft_log_engine.specs.Image.{IsImageOf}
use Rattle.raft_log_engine.specs.declared.engine.image.Image.{Image}
use Rattle.raft_script.specs.Batches.{MayBeInFlight, answers_in, batches_of_op, is_covering}
use Rattle.raft_script.specs.Durability.{MayBeInFlightAt, progress_after_all}
use Rattle.raft_script.specs.Headline.{Progress, progress_after, progress_from}
use Rattle.raft_script.specs.declared.operation.Op.{Op}
use Rattle.raft_script.specs.declared.operation.Outcome.{Outcome}
use Rattle.raft_allowed.specs.Allowed.{AreFitting, IsLeftAs, MayBeLeft}
use Rattle.raft_allowed.specs.Answers.{is_ok_at}
use Rattle.raft_allowed.specs.Held.{IsHeldBy}
use Rattle.raft_allowed.specs.Walk.{AreHeldBy, IsReached, batches_at, batches_if, contents_before, contents_from, covered_if, with_batches}
use Rattle.raft_allowed.specs.declared.walk.Reached.{Reached}
use Rattle.raft_allowed.proofs.ChoiceLemmas.{IsAmong, after-append, among_before, among_cases, among_left, among_map, among_right, before-append, before_among, chosen_among, chosen_from, map_among, prefix_chosen, zip_all, zip_any, zip_append}
use Rattle.raft_allowed.proofs.HeldLemmas.{none_of_none}
use Rattle.raft_allowed.proofs.ImageLemmas.{image_of_held}
use Rattle.raft_allowed.proofs.LoopLemmas.{ahead}

-- Steps.

pub begun : (reached : Reached) → reached.earlier.items ≡ [] → reached.last.groups.items ≡ [] → IsReached (progress_from []) reached
begun reached none empty = record {
  durable = [];
  unsynced = [];
  batches = refl;
  covered = refl;
  earlier = subst (λ (l : List Image). AreHeldBy l []) (sym none) tt;
  last = subst (IsHeldBy no_contents) (sym empty) none_of_none;
}

-- a batch more
pub written : (p : Progress) (batch : Batch) (old new : Reached) → IsReached p old → ((m : Contents) → IsHeldBy m old.last.groups.items → IsHeldBy (after_batch m batch) new.last.groups.items) → new.earlier.items ≡ old.earlier.items ++ old.last ∷ []
    → IsReached (with_batches p (batch ∷ [])) new
written p batch old new is applied pushed =
    let base : Contents = after_batches no_contents is.durable in
    let whole : after_batches no_contents p.batches ≡ after_batches base is.unsynced = ap (after_batches no_contents) is.batches ∙ after-append no_contents is.durable is.unsynced in
    let last : AreHeldBy (old.last ∷ []) (after_batches base is.unsynced ∷ []) = (subst (λ (m : Contents). IsHeldBy m old.last.groups.items) whole is.last, tt) in
    let all : AreHeldBy (old.earlier.items ++ old.last ∷ []) (contents_before base (is.unsynced ++ batch ∷ [])) = subst (AreHeldBy (old.earlier.items ++ old.last ∷ [])) (sym (before-append base is.unsynced (batch ∷ []))) (zip_append (λ image m. IsHeldBy m image.groups.items) old.earlier.items (old.last ∷ []) (contents_before base is.unsynced) (after_batches base is.unsynced ∷ []) is.earlier last) in
    record {
      durable = is.durable;
      unsynced = is.unsynced ++ batch ∷ [];
      batches = ap (λ (l : List Batch). l ++ batch ∷ []) is.batches ∙ append_assoc is.durable is.unsynced (batch ∷ []);
      covered = is.covered;
      earlier = subst (λ (l : List Image). AreHeldBy l (contents_before base (is.unsynced ++ batch ∷ []))) (sym pushed) all;
      last = subst (λ (m : Contents). IsHeldBy m new.last.groups.items) (sym (after-append no_contents p.batches (batch ∷ []))) (applied (after_batches no_contents p.batches) is.last);
    }

-- all that is accepted is covered
pub covered_yes : (p : Progress) (op : Op) (outcome : Outcome) (old new : Reached) → is_covering op outcome ≡ true → IsReached p old → new.earlier.items ≡ [] → new.last.groups.items ≡ old.last.groups.items → IsReached (covered_if p op outcome) new
covered_yes p op outcome old new covers is none same = record {
  durable = p.batches;
  unsynced = [];
  batches = sym (append-nil p.batches);
  covered = ap (λ b. cond b (length p.batches) p.covered) covers;
  earlier = subst (λ (l : List Image). AreHeldBy l []) (sym none) tt;
  last = subst (IsHeldBy (after_batches no_contents p.batches)) (sym same) is.last;
}

pub covered_no : (p : Progress) (op : Op) (outcome : Outcome) (reached : Reached) → is_covering op outcome ≡ false → IsReached p reached → IsReached (covered_if p op outcome) reached
covered_no p op outcome reached rests is = record {
  durable = is.durable;
  unsynced = is.unsynced;
  batches = is.batches;
  covered = ap (λ b. cond b (length p.batches) p.covered) rests ∙ is.covered;
  earlier = is.earlier;
  last = is.last;
}

-- .. with the batches of an operation
pub gone_on : (p : Progress) (op : Op) (outcome : Outcome) (batches : List Batch) (old new : Reached) → IsReached p old → ((m : Contents) → IsHeldBy m old.last.groups.items → batches ≡ batches_of_op m op)
    → ((q : Progress) → q ≡ with_batches p (accepted_in (answers_in outcome) batches) → IsReached (covered_if q op outcome) new) → IsReached (progress_after no_contents p op outcome) new
gone_on p op outcome batches old new is are leads =
    let m : Contents = after_batches no_contents p.batches in
    leads (with_batches p (accepted_in (answers_in outcome) (batches_of_op m op))) (ap (λ (l : List Batch). with_batches p (accepted_in (answers_in outcome) l)) (sym (are m is.last)))

-- Answers.

-- the batch at a place is accepted where it is answered so

pub accepted_next : (place : ℕ) (answers : List (Result ℕ Fault)) (batch : Batch) (batches : List Batch) → accepted_in (drop place answers) (batch ∷ batches) ≡ cond (is_ok_at place answers) (written_batch batch) [] ++ accepted_in (drop (suc place) answers) batches
accepted_next zero [] batch batches = refl
accepted_next (suc n) [] batch batches = refl
accepted_next zero (Ok len ∷ answers) batch batches = refl
accepted_next zero (Err e ∷ answers) batch batches = refl
accepted_next (suc n) (answer ∷ answers) batch batches = accepted_next n answers batch batches

-- the batches from a place on, and those before it as they are reached
pub record IsAccepting (whole : Progress) (answers : List (Result ℕ Fault)) (place : ℕ) (rest : List Batch) (reached : Reached) : Type 0 where
  pub so_far : Progress
  pub is : IsReached so_far reached
  pub leads : with_batches so_far (accepted_in (drop place answers) rest) ≡ whole

pub accepting_begun : (p : Progress) (answers : List (Result ℕ Fault)) (batches : List Batch) (reached : Reached) → IsReached p reached → IsAccepting (with_batches p (accepted_in answers batches)) answers 0 batches reached
accepting_begun p answers batches reached is = record { so_far = p; is = is; leads = refl }

with_more : (p : Progress) (xs ys : List Batch) → with_batches (with_batches p xs) ys ≡ with_batches p (xs ++ ys)
with_more p xs ys = ap (λ (l : List Batch). let q : Progress = record { batches = l; covered = p.covered } in q) (append_assoc p.batches xs ys)

pub accepting_more : (whole : Progress) (answers : List (Result ℕ Fault)) (place : ℕ) (batch : Batch) (rest : List Batch) (old new : Reached) → IsAccepting whole answers place (batch ∷ rest) old
    → ((p : Progress) → IsReached p old → IsReached (with_batches p (cond (is_ok_at place answers) (written_batch batch) [])) new) → IsAccepting whole answers (suc place) rest new
accepting_more whole answers place batch rest old new so step =
    let one : List Batch = cond (is_ok_at place answers) (written_batch batch) [] in
    record {
      so_far = with_batches so.so_far one;
      is = step so.so_far so.is;
      leads = with_more so.so_far one (accepted_in (drop (suc place) answers) rest) ∙ ap (with_batches so.so_far) (sym (accepted_next place answers batch rest)) ∙ so.leads;
    }

-- no batch more
pub none_more : (p : Progress) (reached : Reached) → IsReached p reached → IsReached (with_batches p []) reached
none_more p reached is = subst (λ (q : Progress). IsReached q reached) (ap (λ (l : List Batch). let q : Progress = record { batches = l; covered = p.covered } in q) (sym (append-nil p.batches))) is

-- .. at a place of a list
pub accepting_on : {X : Type 0} (f : X → Batch) (whole : Progress) (answers : List (Result ℕ Fault)) (xs : List X) (i : ℕ) (x : X) (accepted : Bool) (batch : Batch) (old new : Reached) → i < length xs → x ≡ get_or xs i x → accepted ≡ is_ok_at i answers → batch ≡ f x
    → IsAccepting whole answers i (map f (drop i xs)) old → ((p : Progress) → IsReached p old → IsReached (with_batches p (cond accepted (written_batch batch) [])) new) → IsAccepting whole answers (i + 1) (map f (drop (i + 1) xs)) new
accepting_on f whole answers xs i x accepted batch old new within is told same so step =
    let next : suc i ≡ i + 1 = omega arith in
    let here : IsAccepting whole answers i (f x ∷ map f (drop (i + 1) xs)) old = subst (λ (l : List Batch). IsAccepting whole answers i l old) (ap (map f) (ahead xs i x within is)) so in
    let one : cond accepted (written_batch batch) [] ≡ cond (is_ok_at i answers) (written_batch (f x)) [] =
    ap (λ b. cond b (written_batch batch) []) told ∙ ap (λ (b : Batch). cond (is_ok_at i answers) (written_batch b) []) same in
    subst (λ (n : ℕ). IsAccepting whole answers n (map f (drop (i + 1) xs)) new) next
    (accepting_more whole answers i (f x) (map f (drop (i + 1) xs)) old new here (λ p reached. subst (λ (l : List Batch). IsReached (with_batches p l) new) one (step p reached)))

accepted_none : (answers : List (Result ℕ Fault)) → accepted_in answers [] ≡ []
accepted_none [] = refl
accepted_none (Ok len ∷ answers) = refl
accepted_none (Err e ∷ answers) = refl

pub accepting_ended : (whole : Progress) (answers : List (Result ℕ Fault)) (place : ℕ) (rest : List Batch) (reached : Reached) → rest ≡ [] → IsAccepting whole answers place rest reached → IsReached whole reached
accepting_ended whole answers place rest reached none so =
    let same : so.so_far ≡ whole =
    ap (λ (l : List Batch). let q : Progress = record { batches = l; covered = so.so_far.covered } in q) (sym (append-nil so.so_far.batches))
    ∙ ap (with_batches so.so_far) (sym (ap (accepted_in (drop place answers)) none ∙ accepted_none (drop place answers)))
    ∙ so.leads in subst (λ (q : Progress). IsReached q reached) same so.is

-- Operations.

-- operations from a place on, and those before it as they are reached
pub record IsWalking (whole : Progress) (ops : List Op) (outcomes : List Outcome) (reached : Reached) : Type 0 where
  pub so_far : Progress
  pub is : IsReached so_far reached
  pub leads : progress_after_all no_contents so_far ops outcomes ≡ whole

pub walking_more : (whole : Progress) (op : Op) (ops : List Op) (outcome : Outcome) (outcomes : List Outcome) (old new : Reached) → IsWalking whole (op ∷ ops) (outcome ∷ outcomes) old
    → ((p : Progress) → IsReached p old → IsReached (progress_after no_contents p op outcome) new) → IsWalking whole ops outcomes new
walking_more whole op ops outcome outcomes old new so step = record {
  so_far = progress_after no_contents so.so_far op outcome;
  is = step so.so_far so.is;
  leads = so.leads;
}

pub walking_ended : (whole : Progress) (outcomes : List Outcome) (reached : Reached) → IsWalking whole [] outcomes reached → IsReached whole reached
walking_ended whole outcomes reached so = subst (λ (q : Progress). IsReached q reached) so.leads so.is

-- .. at a place of the lists
pub walking_on : (whole : Progress) (ops : List Op) (outcomes : List Outcome) (i : ℕ) (op : Op) (outcome : Outcome) (old new : Reached) → i < length ops → op ≡ get_or ops i op → i < length outcomes → outcome ≡ get_or outcomes i outcome → IsWalking whole (drop i ops) (drop i outcomes) old
    → ((p : Progress) → IsReached p old → IsReached (progress_after no_contents p op outcome) new) → IsWalking whole (drop (i + 1) ops) (drop (i + 1) outcomes) new
walking_on whole ops outcomes i op outcome old new within is among same so step =
    let first = subst (λ (l : List Op). IsWalking whole l (drop i outcomes) old) (ahead ops i op within is) so in
    let both = subst (λ (l : List Outcome). IsWalking whole (op ∷ drop (i + 1) ops) l old) (ahead outcomes i outcome among same) first in
    walking_more whole op (drop (i + 1) ops) outcome (drop (i + 1) outcomes) old new both step

pub walking_done : (whole : Progress) (ops : List Op) (outcomes : List Outcome) (i : ℕ) (reached : Reached) → length ops ≤ i → IsWalking whole (drop i ops) (drop i outcomes) reached → IsReached whole reached
walking_done whole ops outcomes i reached past so =
    walking_ended whole (drop i outcomes) reached (subst (λ (l : List Op). IsWalking whole l (drop i outcomes) reached) (drop_of_length-le ops past) so)

-- The end.

take_behind : (n : ℕ) (xs ys : List Batch) → take (length xs + n) (xs ++ ys) ≡ xs ++ take n ys
take_behind n [] ys =
    let none : zero + n ≡ n = omega arith in
    ap (λ (k : ℕ). take k ys) none
take_behind n (x ∷ xs) ys =
    let next : suc (length xs) + n ≡ suc (length xs + n) = omega arith in
    ap (λ (k : ℕ). take k (x ∷ (xs ++ ys))) next ∙ ap (λ (l : List Batch). x ∷ l) (take_behind n xs ys)

module _ (failed_at : Option ℕ) (ops : List Op) (outcomes : List Outcome) (fit : AreFitting failed_at ops outcomes) where
  abbrev end : Progress
  end = progress_after_all no_contents (progress_from []) ops outcomes

  abbrev whole : Contents
  whole = after_batches no_contents end.batches

  -- each choice of the batches may be in flight
  may_be : (choice : List Bool) (place : Option ℕ) → MatchOption place (Unit {0}) (λ n. n < length ops) → MayBeInFlightAt place whole ops (chosen_of whole choice (batches_at whole ops place))
  may_be choice None within = no_batches choice
    where
      no_batches : (c : List Bool) → chosen_of whole c [] ≡ []
      no_batches [] = refl
      no_batches (true ∷ c) = refl
      no_batches (false ∷ c) = refl
  may_be choice (Some n) within = at (slice_get ops n) (there n ops within)
    where
      there : (k : ℕ) (os : List Op) → k < length os → (op : Op) × (slice_get os k ≡ Some op)
      there k [] below = absurd (omega arith)
      there zero (o ∷ os) below = (o, refl)
      there (suc j) (o ∷ os) below = there j os (omega arith)

      at : (found : Option Op) → ((op : Op) × (found ≡ Some op)) → IsSomeAnd found (λ op. MayBeInFlight whole op (chosen_of whole choice (batches_if whole found)))
      at None (op, is) = cc
      at (Some op) some = ∣ (choice, refl) ∣₁

  -- what may be in flight is some choice of them
  some_choice : (place : Option ℕ) (flight : List Batch) → MayBeInFlightAt place whole ops flight → ∥ ((choice : List Bool) × (flight ≡ chosen_of whole choice (batches_at whole ops place))) ∥₁
  some_choice None flight none = ∣ ([], none) ∣₁
  some_choice (Some n) flight may = at (slice_get ops n) may
    where
      at : (found : Option Op) → IsSomeAnd found (λ op. MayBeInFlight whole op flight) → ∥ ((choice : List Bool) × (flight ≡ chosen_of whole choice (batches_if whole found))) ∥₁
      at None never = absurd never
      at (Some op) may = may

  module _ (reached : Reached) (is : IsReached end reached) where
    abbrev base : Contents
    base = after_batches no_contents is.durable

    abbrev contents : List Contents
    contents = contents_before base is.unsynced ++ contents_from (whole ∷ []) (batches_at whole ops failed_at)

    covered_within : end.covered ≤ length end.batches
    covered_within = omega (arith, is.covered, ap length is.batches, length-append is.durable is.unsynced)

    -- these contents may be left
    left_early : (n : Contents) → IsAmong n (contents_before base is.unsynced) → MayBeLeft failed_at ops outcomes n
    left_early n among =
        let at = among_before is.unsynced base n among in
        let none : List Batch = chosen_of whole [] (batches_at whole ops failed_at) in
        let k : ℕ = length is.durable + at.0 in
        let sizes : length end.batches ≡ length is.durable + length is.unsynced = ap length is.batches ∙ length-append is.durable is.unsynced in
        let both : length (end.batches ++ none) ≡ length end.batches + length none = length-append end.batches none in
        let least : end.covered ≤ k = omega (arith, is.covered) in
        let most : k ≤ length (end.batches ++ none) = omega (arith, sizes, both, at.1) in
        let front : take k (end.batches ++ none) ≡ is.durable ++ take at.0 is.unsynced =
        ap (λ (l : List Batch). take k (l ++ none)) is.batches ∙ ap (take k) (append_assoc is.durable is.unsynced none) ∙ take_behind at.0 is.durable (is.unsynced ++ none)
        ∙ ap (λ (l : List Batch). is.durable ++ l) (take-append-le at.0 is.unsynced none (omega (arith, at.1))) in
        (none, may_be [] failed_at fit.place, ∣ (k, least, most, at.2 ∙ sym (after-append no_contents is.durable (take at.0 is.unsynced)) ∙ ap (after_batches no_contents) (sym front)) ∣₁)

    left_late : (n : Contents) → IsAmong n (contents_from (whole ∷ []) (batches_at whole ops failed_at)) → MayBeLeft failed_at ops outcomes n
    left_late n among =
        let from = chosen_from (batches_at whole ops failed_at) (whole ∷ []) n among in
        let here : from.before ≡ whole = ⊎_elim (λ same. same) (λ none. absurd none) from.among in
        let flight : List Batch = chosen_of whole from.choice (batches_at whole ops failed_at) in
        let all : List Batch = end.batches ++ flight in
        let both : length all ≡ length end.batches + length flight = length-append end.batches flight in
        let least : end.covered ≤ length all = omega (arith, covered_within, both) in
        let most : length all ≤ length all = omega arith in
        let is_after : n ≡ after_batches whole flight = from.is ∙ ap (λ (m : Contents). after_batches m (chosen_of m from.choice (batches_at whole ops failed_at))) here in
        (flight, may_be from.choice failed_at fit.place, ∣ (length all, least, most, is_after ∙ sym (after-append no_contents end.batches flight) ∙ ap (after_batches no_contents) (sym (take_all (length all) all most))) ∣₁)

    left_each : (n : Contents) → IsAmong n contents → MayBeLeft failed_at ops outcomes n
    left_each n among = ⊎_elim (left_early n) (left_late n) (among_cases n (contents_before base is.unsynced) (contents_from (whole ∷ []) (batches_at whole ops failed_at)) among)

    -- .. and no others
    among_early : (n : Contents) (flight : List Batch) (j k : ℕ) → k ≡ length is.durable + j → j < length is.unsynced → n ≡ after_batches no_contents (take k (end.batches ++ flight)) → IsAmong n (contents_before base is.unsynced)
    among_early n flight j k at within is_after =
        let fits : j ≤ length is.unsynced = omega arith in
        let front : take k (end.batches ++ flight) ≡ is.durable ++ take j is.unsynced =
        ap (λ (l : List Batch). take k (l ++ flight)) is.batches ∙ ap (take k) (append_assoc is.durable is.unsynced flight) ∙ ap (λ (i : ℕ). take i (is.durable ++ (is.unsynced ++ flight))) at ∙ take_behind j is.durable (is.unsynced ++ flight)
        ∙ ap (λ (l : List Batch). is.durable ++ l) (take-append-le j is.unsynced flight fits) in
        let same : after_batches base (take j is.unsynced) ≡ n = sym (after-append no_contents is.durable (take j is.unsynced)) ∙ ap (after_batches no_contents) (sym front) ∙ sym is_after in
        subst (λ (m : Contents). IsAmong m (contents_before base is.unsynced)) same (before_among j is.unsynced base within)

    among_late : (n : Contents) (choice : List Bool) (j k : ℕ) → k ≡ length end.batches + j → n ≡ after_batches no_contents (take k (end.batches ++ chosen_of whole choice (batches_at whole ops failed_at))) → IsAmong n (contents_from (whole ∷ []) (batches_at whole ops failed_at))
    among_late n choice j k at is_after =
        let other = prefix_chosen j choice (batches_at whole ops failed_at) whole in
        let front : take k (end.batches ++ chosen_of whole choice (batches_at whole ops failed_at)) ≡ end.batches ++ chosen_of whole other.0 (batches_at whole ops failed_at) =
        ap (λ (i : ℕ). take i (end.batches ++ chosen_of whole choice (batches_at whole ops failed_at))) at ∙ take_behind j end.batches (chosen_of whole choice (batches_at whole ops failed_at)) ∙ ap (λ (l : List Batch). end.batches ++ l) other.1 in
        let same : after_batches whole (chosen_of whole other.0 (batches_at whole ops failed_at)) ≡ n = sym (after-append no_contents end.batches (chosen_of whole other.0 (batches_at whole ops failed_at))) ∙ ap (after_batches no_contents) (sym front) ∙ sym is_after in
        subst (λ (m : Contents). IsAmong m (contents_from (whole ∷ []) (batches_at whole ops failed_at))) same (chosen_among other.0 (batches_at whole ops failed_at) whole (whole ∷ []) (inl refl))

    among_all : (n : Contents) → MayBeLeft failed_at ops outcomes n → ∥ IsAmong n contents ∥₁
    among_all n left =
        ∥∥₁_elim (some_choice failed_at left.0 left.1) ∥∥₁_prop (λ (choice, chosen).
        ∥∥₁_map left.2 (λ (k, least, most, is_after). by_count left.0 choice chosen k least is_after (cases_lt k (length end.batches))))
      where
        by_count : (flight : List Batch) (choice : List Bool) → flight ≡ chosen_of whole choice (batches_at whole ops failed_at) → (k : ℕ) → end.covered ≤ k → n ≡ after_batches no_contents (take k (end.batches ++ flight)) → (k < length end.batches) ⊎ (length end.batches ≤ k) → IsAmong n contents
        by_count flight choice chosen k least is_after (inl below) =
            let sizes : length end.batches ≡ length is.durable + length is.unsynced = ap length is.batches ∙ length-append is.durable is.unsynced in
            let at : k ≡ length is.durable + (k - length is.durable) = omega (arith, is.covered) in
            let within : k - length is.durable < length is.unsynced = omega (arith, sizes, is.covered) in
            among_left n (contents_before base is.unsynced) (contents_from (whole ∷ []) (batches_at whole ops failed_at)) (among_early n flight (k - length is.durable) k at within is_after)
        by_count flight choice chosen k least is_after (inr past) =
            let at : k ≡ length end.batches + (k - length end.batches) = omega arith in
            among_right n (contents_before base is.unsynced) (contents_from (whole ∷ []) (batches_at whole ops failed_at)) (among_late n choice (k - length end.batches) k at (is_after ∙ ap (λ (l : List Batch). after_batches no_contents (take k (end.batches ++ l))) chosen))

    -- these are the images of what may be left, as it is shown
    module _ (found new : List Image) (are : AreHeldBy found (contents_from (whole ∷ []) (batches_at whole ops failed_at))) (shows : (ms : List Contents) → AreHeldBy (reached.earlier.items ++ found) ms → AreHeldBy new (map shown ms)) where
      all_held : AreHeldBy new (map shown contents)
      all_held = shows contents (zip_append (λ image m. IsHeldBy m image.groups.items) reached.earlier.items found (contents_before base is.unsynced) (contents_from (whole ∷ []) (batches_at whole ops failed_at)) is.earlier are)

      pub all_sound : AllByRecursion (IsLeftAs failed_at ops outcomes) new
      all_sound = zip_all (λ image m. IsHeldBy m image.groups.items) (IsLeftAs failed_at ops outcomes) new (map shown contents) all_held (λ image m among held.
          let at = among_map shown m contents among in
          (at.0, left_each at.0 at.1, subst (IsImageOf image.groups.items) at.2 (image_of_held m image.groups.items held)))

      pub all_complete : (n : Contents) → MayBeLeft failed_at ops outcomes n → ∥ Any (λ image. IsImageOf image.groups.items (shown n)) new ∥₁
      all_complete n left = ∥∥₁_map (among_all n left) (λ among. any_image new (zip_any (λ image m. IsHeldBy m image.groups.items) new (map shown contents) (shown n) all_held (map_among shown n contents among)))
        where
          any_image : (images : List Image) → Any (λ image. IsHeldBy (shown n) image.groups.items) images → Any (λ image. IsImageOf image.groups.items (shown n)) images
          any_image images any = (any.0, any.1, any.2, any.3, image_of_held (shown n) any.1.groups.items any.4)
