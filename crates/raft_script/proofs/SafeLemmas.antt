-- What is safe of operations on an engine.
use Rattle.std.proofs.Common.{◌≡◌, ◌∙◌, ℕ, false, true, List, Option, [], ◌∷◌, ◌++◌, append-nil, refl, sym, subst}
use Rattle.std.proofs.Math.Logic.{∥∥₁_map}
use Rattle.std.specs.List.{AllByRecursion}
use Rattle.raft_records.specs.Contents.{Contents, after_batches}
use Rattle.raft_records.specs.Item.{Batch}
use Rattle.raft_env.specs.Directory.{Directory}
use Rattle.raft_env.specs.declared.env.FileSystem.{Ghosts}
use Rattle.raft_crash_laws.specs.Crash.{LeavesAllowed, LeavesAllowedFrom}
use Rattle.raft_log_engine.specs.Engine.{contents_of, directory_of, durable_of, folders_of, has_failed, moments_of, unsynced_of}
use Rattle.raft_log_engine.specs.declared.engine.Engine.{Engine}
use Rattle.raft_script.specs.Batches.{MayBeInFlight}
use Rattle.raft_script.specs.Durability.{CrashesComeBack, Does, IsCall, LeavesInFlight, Steps, durable_groups_of}
use Rattle.raft_script.specs.Failure.{IsFailing}
use Rattle.raft_script.specs.Headline.{AreSafe, IsMomentOf, IsSafe, Leads, Progress, ReadsFirst, progress_after, progress_from}
use Rattle.raft_script.specs.declared.operation.Op.{Op}
use Rattle.raft_script.specs.declared.operation.Outcome.{Outcome}
use Rattle.raft_script.proofs.CrashLemmas.{at_moment}
use Rattle.raft_script.proofs.RunLemmas.{stands_answered, still_failing}

-- Moments.

-- the files as they are now are the newest moment
abbrev pub IsNewest : List Directory → Directory → Type 0
IsNewest moments now = (earlier : List Directory) × (moments ≡ now ∷ earlier)

-- so what each added moment has they have, and where none was added, what was there before
here_now : (P : Directory → Type 0) (added old : List Directory) (was now : Directory) (earlier : List Directory) → AllByRecursion P added → IsNewest old was → added ++ old ≡ now ∷ earlier → P was → P now
here_now P [] old was now earlier all before is holds =
    let heads : was ∷ before.0 ≡ now ∷ earlier = sym before.1 ∙ is in
    let same : was ≡ now = cc in
    subst P same holds
here_now P (x ∷ added) old was now earlier all before is holds =
    let heads : x ∷ (added ++ old) ≡ now ∷ earlier = is in
    let same : x ≡ now = cc in
    subst P same all.0

module _ {F H R W : Type 0} {g : Ghosts F H R W} (old new : Engine F H R W g) (was : IsNewest (moments_of old) (directory_of old)) (now : IsNewest (moments_of new) (directory_of new)) (op : Op) (outcome : Outcome) (does : Does op outcome old new) where
  -- a crash at a moment of an operation
  leaves_at : has_failed old ≡ false → LeavesAllowed (folders_of old) (durable_of old) (unsynced_of old) (directory_of old) → (n : Directory) → IsMomentOf old new n → LeavesInFlight op old n
  leaves_at alive leaves n moment =
      let none : LeavesInFlight op old (directory_of old) = ∣ ([], ∣ ([], refl) ∣₁, subst (λ (l : List Batch). LeavesAllowed (folders_of old) (durable_of old) l (directory_of old)) (sym (append-nil (unsynced_of old))) leaves) ∣₁ in
      let call = does.moments alive in
      at_moment (LeavesInFlight op old) (moments_of old) (moments_of new) (directory_of new) n (record {
        added = call.0;
        is = call.1;
        each = call.2;
        here = here_now (LeavesInFlight op old) call.0 (moments_of old) (directory_of old) (directory_of new) now.0 call.2 was (sym call.1 ∙ now.1) none;
      }) moment

  -- a failed engine changes no file
  rests_with : has_failed old ≡ true → (directory_of new ≡ directory_of old) × (moments_of new ≡ moments_of old)
  rests_with gone =
      let heads : directory_of new ∷ now.0 ≡ directory_of old ∷ was.0 = sym now.1 ∙ does.rests gone ∙ was.1 in
      let same : directory_of new ≡ directory_of old = cc in
      (same, does.rests gone)

  -- by what its call leaves
  pub is_safe : (back : CrashesComeBack g) (m : Contents) (p : Progress)
      → IsFailing (has_failed old) op outcome (has_failed new)
      → LeavesAllowed (folders_of old) (durable_of old) (unsynced_of old) (directory_of old)
      → ((flight : List Batch) (n : Directory) → has_failed old ≡ false → MayBeInFlight (contents_of old) op flight → LeavesAllowed (folders_of old) (durable_of old) (unsynced_of old ++ flight) n
      → MayBeInFlight (after_batches m p.batches) op flight × LeavesAllowedFrom p.covered (folders_of old) m (p.batches ++ flight) n)
      → (has_failed new ≡ false → let q = progress_after m p op outcome in
      (contents_of new ≡ after_batches m q.batches)
      × ReadsFirst (λ found. found ≡ after_batches m q.batches) (folders_of old) (directory_of new)
      × LeavesAllowedFrom q.covered (folders_of old) m q.batches (directory_of new))
      → IsSafe m p op outcome old new
  is_safe back m p failing leaves ahead after =
      let q = progress_after m p op outcome in
      record {
        inside = λ alive n moment. ∥∥₁_map (leaves_at alive leaves n moment) (λ (flight, may_be, left).
            let told = ahead flight n alive may_be left in
            (flight, told.0, back p.covered (folders_of old) m (p.batches ++ flight) n told.1));
        answered = λ stands.
            let told = after stands in
            (told.0, told.1, back q.covered (folders_of old) m q.batches (directory_of new) told.2);
        stands = stands_answered op outcome (has_failed old) (has_failed new) failing;
        rests = λ gone. (still_failing op outcome (has_failed old) (has_failed new) failing gone, (rests_with gone).0, (rests_with gone).1);
      }

-- Operations.

-- what is so of each is so by what follows from it
leads_weaker : {S : Type 0} (D E : Progress → Op → Outcome → S → S → Type 0) → ((p : Progress) (op : Op) (outcome : Outcome) (before after : S) → D p op outcome before after → E p op outcome before after) → (m : Contents) (p : Progress) (before : S) (ops : List Op) (outcomes : List Outcome) (states : List S)
    → Leads D m p before ops outcomes states → Leads E m p before ops outcomes states
leads_weaker D E weaker m p before [] [] [] led = tt
leads_weaker D E weaker m p before (op ∷ ops) (outcome ∷ outcomes) (s ∷ states) led = (weaker p op outcome before s led.0, leads_weaker D E weaker m (progress_after m p op outcome) s ops outcomes states led.1)
leads_weaker D E weaker m p before [] [] (s ∷ states) led = absurd led
leads_weaker D E weaker m p before [] (outcome ∷ outcomes) states led = absurd led
leads_weaker D E weaker m p before (op ∷ ops) [] states led = absurd led
leads_weaker D E weaker m p before (op ∷ ops) (outcome ∷ outcomes) [] led = absurd led

module _ {F H R W : Type 0} {g : Ghosts F H R W} where
  -- calls, each of which is safe
  pub are_safe : (old new : Engine F H R W g) (ops : List Op) (outcomes : List Outcome) (failed_at : Option ℕ) → CrashesComeBack g → LeavesAllowed (folders_of old) (durable_of old) (unsynced_of old) (directory_of old)
      → Steps has_failed (IsCall (folders_of old) (durable_of old) (durable_groups_of old)) (durable_of old) (progress_from (unsynced_of old)) old ops outcomes failed_at new
      → AreSafe ops outcomes old new
  are_safe old new ops outcomes failed_at back leaves steps = record {
    before = back 0 (folders_of old) (durable_of old) (unsynced_of old) (directory_of old) leaves;
    states = steps.states;
    each = leads_weaker (IsCall (folders_of old) (durable_of old) (durable_groups_of old)) (IsSafe (durable_of old)) (λ p op outcome a b call. call.safe) (durable_of old) (progress_from (unsynced_of old)) old ops outcomes steps.states steps.each;
    last = steps.ends;
  }
