-- How often the numbers of a run's writes act, over crashes.
use Rattle.std.proofs.Common.{◌≡◌, ◌∙◌, ℕ, suc, Bool, inl, inr, false, true, List, [], ◌∷◌, ◌++◌, length, take, arith, ap, refl, sym, subst}
use Rattle.std.specs.Prelude.{if◌then◌else◌}
use Rattle.std.proofs.lemmas.Bool.{cases_Bool}
use Rattle.std.proofs.lemmas.Result.{IfOk-weaker}
use Rattle.std.proofs.Math.Logic.{∥∥₁_elim, ∥∥₁_map, ∥∥₁_prop}
use Rattle.raft_records.specs.Contents.{Contents, after_batches}
use Rattle.raft_records.specs.Item.{Batch}
use Rattle.raft_env.specs.Directory.{Directory}
use Rattle.raft_env.specs.declared.env.FileSystem.{Ghosts}
use Rattle.raft_config.specs.Folders.{Folders}
use Rattle.raft_crash_laws.specs.Crash.{IsAllowedFrom}
use Rattle.raft_once.specs.History.{Act, MayAllAct, are_written}
use Rattle.raft_log_engine.specs.Engine.{base_of, contents_of, directory_of, durable_of, folders_of, found_of, has_failed, unsynced_of}
use Rattle.raft_log_engine.specs.declared.engine.Engine.{Engine}
use Rattle.raft_script.specs.Batches.{MayBeInFlight, accepted_of, is_covering}
use Rattle.raft_script.specs.Headline.{AreSafe, IsFound, IsSafe, Leads, Progress, progress_after, progress_from}
use Rattle.raft_script.specs.Numbers.{acts_in}
use Rattle.raft_script.specs.Once.{ActProgress, ActsOnce, AllActOnce, AreOnce, HaveActedOnce, acts_after}
use Rattle.raft_script.specs.declared.operation.Op.{Op}
use Rattle.raft_script.specs.declared.operation.Outcome.{Outcome}
use Rattle.raft_script.proofs.ActLemmas.{IsLaw, accepted_part, all-append, all-take, flight_acts, part_acts, written-append, written-take}
use Rattle.raft_script.proofs.StepsLemmas.{after-append}

-- Acts.

-- each is written as a batch
written-length : (acts : List Act) → length (are_written acts) ≡ length acts
written-length [] = refl
written-length (act ∷ acts) = ap suc (written-length acts)

-- the contents after a prefix of the batches that acts wrote, behind earlier ones
acted_once : (law : IsLaw) (start : Contents) (earlier acts : List Act) (least : ℕ) (m : Contents) (batches : List Batch) (found : Contents) → MayAllAct start earlier → m ≡ after_batches start (are_written earlier) → MayAllAct m acts → batches ≡ are_written acts
    → IsAllowedFrom least m batches found → ∥ HaveActedOnce start earlier least acts found ∥₁
acted_once law start earlier acts least m batches found before is may are allowed = ∥∥₁_map allowed (λ x.
    let kept : MayAllAct start (earlier ++ take x.0 acts) = all-append start earlier (take x.0 acts) before (subst (λ (c : Contents). MayAllAct c (take x.0 acts)) is (all-take m acts x.0 may)) in
    record {
      count = x.0;
      least = x.1;
      within = omega (arith, x.2, ap (λ (l : List Batch). length l) are, written-length acts);
      is = x.3
          ∙ ap (λ (l : List Batch). after_batches m (take x.0 l)) are
          ∙ ap (after_batches m) (written-take x.0 acts)
          ∙ ap (λ (c : Contents). after_batches c (are_written (take x.0 acts))) is
          ∙ sym (after-append start (are_written earlier) (are_written (take x.0 acts)))
          ∙ ap (after_batches start) (sym (written-append earlier (take x.0 acts)));
      once = λ group. law start group (earlier ++ take x.0 acts) kept;
      may = kept;
    })

-- the acts are what was accepted so far, and as many are covered
record AreActs (m : Contents) (p : Progress) (a : ActProgress) : Type 0 where
  pub written : p.batches ≡ are_written a.acts
  pub covered : p.covered ≡ a.covered
  pub may : MayAllAct m a.acts

-- with one operation more
module _ (m held : Contents) (p : Progress) (a : ActProgress) (op : Op) (outcome : Outcome) (is : held ≡ after_batches m p.batches) (so : AreActs m p a) where
  abbrev accepted : List Batch
  accepted = accepted_of (after_batches m p.batches) op outcome

  abbrev acts : List Act
  acts = a.acts ++ acts_in op (accepted_of held op outcome)

  written_more : p.batches ++ accepted ≡ are_written acts
  written_more =
      ap (λ (c : Contents). p.batches ++ accepted_of c op outcome) (sym is)
      ∙ ap (λ (l : List Batch). l ++ accepted_of held op outcome) so.written
      ∙ ap (λ (l : List Batch). are_written a.acts ++ l) (sym (part_acts held op (accepted_of held op outcome) (accepted_part held op outcome)).1)
      ∙ sym (written-append a.acts (acts_in op (accepted_of held op outcome)))

  covered_more : (b : Bool) → (if b then length (p.batches ++ accepted) else p.covered) ≡ (if b then length acts else a.covered)
  covered_more true = ap (λ (l : List Batch). length l) written_more ∙ written-length acts
  covered_more false = so.covered

  acts_more : AreActs m (progress_after m p op outcome) (acts_after held a op outcome)
  acts_more = record {
    written = written_more;
    covered = covered_more (is_covering op outcome);
    may = all-append m a.acts (acts_in op (accepted_of held op outcome)) so.may (subst (λ (c : Contents). MayAllAct c (acts_in op (accepted_of held op outcome))) (is ∙ ap (after_batches m) so.written) (part_acts held op (accepted_of held op outcome) (accepted_part held op outcome)).0);
  }

-- Crashes.

module _ {F H R W : Type 0} {g : Ghosts F H R W} where
  found_weaker : (P Q : Contents → Type 0) → ((c : Contents) → P c → Q c) → (folders : Folders) (n : Directory) → IsFound g P folders n → IsFound g Q folders n
  found_weaker P Q weaker folders n found = λ more files answer left opened.
      let told = found more files answer left opened in
      record { ok = IfOk-weaker answer _ _ (λ e fine. (fine.0, fine.1, weaker (contents_of e) fine.2)) told.ok; err = told.err }

  -- behind acts that led to these contents
  module _ (law : IsLaw) (start : Contents) (earlier : List Act) (before : MayAllAct start earlier) (m : Contents) (is : m ≡ after_batches start (are_written earlier)) where
    found_once : (least covered : ℕ) (batches : List Batch) (acts : List Act) (folders : Folders) (n : Directory) → MayAllAct m acts → batches ≡ are_written acts → least ≡ covered → IsFound g (IsAllowedFrom least m batches) folders n
        → IsFound g (λ found. ∥ HaveActedOnce start earlier covered acts found ∥₁) folders n
    found_once least covered batches acts folders n may are same found =
        found_weaker (IsAllowedFrom least m batches) (λ c. ∥ HaveActedOnce start earlier covered acts c ∥₁)
        (λ c allowed. acted_once law start earlier acts covered m batches c before is may are (subst (λ (k : ℕ). IsAllowedFrom k m batches c) same allowed)) folders n found

    -- one operation
    acts_once : (p : Progress) (a : ActProgress) (op : Op) (outcome : Outcome) (old new : Engine F H R W g) → (has_failed old ≡ false → (contents_of old ≡ after_batches m p.batches) × AreActs m p a) → IsSafe m p op outcome old new → ActsOnce start earlier a op outcome old new
    acts_once p a op outcome old new holds safe = record {
      inside = λ alive n moment.
          let held = (holds alive).0 in
          let so = (holds alive).1 in
          ∥∥₁_elim (safe.inside alive n moment) ∥∥₁_prop (λ (flight, may_be, back).
          let told : MayBeInFlight (contents_of old) op flight = subst (λ (c : Contents). MayBeInFlight c op flight) (sym held) may_be in
          ∥∥₁_map (flight_acts (contents_of old) op flight told) (λ (may, are). (
            flight,
            told,
            found_once p.covered a.covered (p.batches ++ flight) (a.acts ++ acts_in op flight) (folders_of old) n
                (all-append m a.acts (acts_in op flight) so.may (subst (λ (c : Contents). MayAllAct c (acts_in op flight)) (held ∙ ap (after_batches m) so.written) may))
                (ap (λ (l : List Batch). l ++ flight) so.written ∙ ap (λ (l : List Batch). are_written a.acts ++ l) (sym are) ∙ sym (written-append a.acts (acts_in op flight)))
                so.covered back.found,
          )));
      answered = λ stands.
          let alive = stood stands in
          let more = acts_more m (contents_of old) p a op outcome (holds alive).0 (holds alive).1 in
          let q = progress_after m p op outcome in
          let b = acts_after (contents_of old) a op outcome in
          found_once q.covered b.covered q.batches b.acts (folders_of old) (directory_of new) more.may more.written more.covered (safe.answered stands).2.found;
    }
      where
        stood : has_failed new ≡ false → has_failed old ≡ false
        stood stands = elim (cases_Bool (has_failed old)) [
          | inl gone ↦ absurd (let clash = sym (safe.rests gone).0 ∙ stands in cc)
          | inr alive ↦ alive
        ]

    all_once : (p : Progress) (a : ActProgress) (ops : List Op) (outcomes : List Outcome) (old : Engine F H R W g) (states : List (Engine F H R W g)) → (has_failed old ≡ false → (contents_of old ≡ after_batches m p.batches) × AreActs m p a)
        → Leads (IsSafe m) m p old ops outcomes states → AllActOnce start earlier a ops outcomes old states
    all_once p a [] [] old [] holds led = tt
    all_once p a (op ∷ ops) (outcome ∷ outcomes) old (new ∷ states) holds led = (
      acts_once p a op outcome old new holds led.0,
      all_once (progress_after m p op outcome) (acts_after (contents_of old) a op outcome) ops outcomes new states
          (λ stands. let alive = stood stands in ((led.0.answered stands).0, acts_more m (contents_of old) p a op outcome (holds alive).0 (holds alive).1)) led.1,
    )
      where
        stood : has_failed new ≡ false → has_failed old ≡ false
        stood stands = elim (cases_Bool (has_failed old)) [
          | inl gone ↦ absurd (let clash = sym (led.0.rests gone).0 ∙ stands in cc)
          | inr alive ↦ alive
        ]
    all_once p a [] [] old (new ∷ states) holds led = absurd led
    all_once p a [] (outcome ∷ outcomes) old states holds led = absurd led
    all_once p a (op ∷ ops) [] old states holds led = absurd led
    all_once p a (op ∷ ops) (outcome ∷ outcomes) old [] holds led = absurd led

  -- a run that is safe
  pub are_once : IsLaw → (ops : List Op) (outcomes : List Outcome) (old new : Engine F H R W g) → AreSafe ops outcomes old new → AreOnce ops outcomes old new
  are_once law ops outcomes old new safe = record {
    safe = safe;
    each = λ start earlier may is synced. all_once law start earlier may (durable_of old) (synced.0 ∙ is) (progress_from (unsynced_of old)) (record { acts = []; covered = 0 }) ops outcomes old safe.states
        (λ alive. (after-append (found_of old) (base_of old) (unsynced_of old), record { written = synced.1; covered = refl; may = tt })) safe.each;
  }
