-- Kept files that stand alone are numbered.
use Rattle.std.proofs.Common.{◌≡◌, ◌≢◌, ℕ, zero, suc, ◌+◌, ◌<◌, ◌≤◌, List, [], ◌∷◌, ◌++◌, length, refl, ap, sym, subst, ◌∙◌, inl, inr, arith, length-append}
use Rattle.std.specs.Prelude.{◌⊎◌}
use Rattle.std.proofs.lemmas.Bool.Decides.{eqb_tells}
use Rattle.raft_records.specs.Item.{Batch}
use Rattle.raft_base.specs.declared.pipe_log.LogQueue.{LogQueue}
use Rattle.raft_env.specs.Directory.{Directory, Path}
use Rattle.raft_pipes.specs.Counts.{QueueCounts}
use Rattle.raft_pipes.specs.Numbered.{AreNumbered, AreSingle, IsRun, StandAlone, end_of_numbers, found_or, has_file, joined, kept_files, last_run, paths_of, run_below}
use Rattle.raft_pipes.specs.QueueFiles.{IsKeptQueue, if_standing, places_of}
use Rattle.raft_pipes.proofs.NumberedLemmas.{kept-numbered, last_run-suc, last_run-zero, run_below-suc, run_push}
use Rattle.raft_pipes.proofs.QueueFilesLemmas.{all_front}

pub run_alone : (here : ℕ → List Path) (seq : ℕ) (files : List (ℕ × Path)) → IsRun here seq files → StandAlone here files
run_alone here seq [] run = tt
run_alone here seq (f ∷ files) run = (ap here run.0 ∙ run.1, run_alone here (suc seq) files run.2)

-- the run of files right below a number
record FoundRun (here : ℕ → List Path) (top : ℕ) (files : List (ℕ × Path)) : Type 0 where
  first : ℕ
  run : IsRun here first files
  end : first + length files ≡ top
  hole : (k : ℕ) → first ≡ suc k → here k ≡ []

found_some : (files other : List (ℕ × Path)) → 0 < length files → found_or files other ≡ files
found_some [] other some = absurd (omega arith)
found_some (f ∷ files) other some = refl

nat_eq_or : (a b : ℕ) → (a ≡ b) ⊎ (a ≢ b)
nat_eq_or a b = elim (eqb_tells a b) [ inl same ↦ inl same.1 | inr other ↦ inr other.1 ]

-- of several files of a number the last alone is left
joined-several : (seq : ℕ) (path : Path) (more : List Path) → (last : Path) × (joined seq (path ∷ more) [] ≡ (seq, last) ∷ [])
joined-several seq path [] = (path, refl)
joined-several seq path (other ∷ more) = joined-several seq other more

module _ (here : ℕ → List Path) where
  nothing_below : run_below here 0 ≡ []
  unfolding run_below
  nothing_below = refl

  -- several files of a number don't stand alone
  several_alone : (seq : ℕ) (path other : Path) (more : List Path) → here seq ≡ path ∷ other ∷ more → StandAlone here (joined seq (path ∷ other ∷ more) (run_below here seq)) → ⊥
  several_alone seq path other more e alone =
      let several = joined-several seq other more in
      let one : here seq ≡ several.0 ∷ [] = (subst (StandAlone here) several.1 alone).0 in
      absurd (omega (arith, ap length one, ap length e))

  found_run : (top : ℕ) → StandAlone here (run_below here top) → FoundRun here top (run_below here top)
  found_run zero alone = subst (FoundRun here 0) (sym nothing_below) (record { first = 0; run = tt; end = refl; hole = λ k e. absurd (omega arith) })
  found_run (suc top) alone = subst (FoundRun here (suc top)) (sym (run_below-suc here top)) (by_here (here top) refl (subst (StandAlone here) (run_below-suc here top) alone) (found_run top))
    where
      by_here : (found : List Path) → here top ≡ found → StandAlone here (joined top found (run_below here top)) → (StandAlone here (run_below here top) → FoundRun here top (run_below here top)) → FoundRun here (suc top) (joined top found (run_below here top))
      by_here [] e alone lower = record { first = suc top; run = tt; end = omega arith; hole = λ k is. (let same : k ≡ top = omega arith in ap here same ∙ e) }
      by_here (path ∷ []) e alone lower =
          let below = lower (all_front (λ (f : ℕ × Path). here f.0 ≡ f.1 ∷ []) (run_below here top) ((top, path) ∷ []) alone) in
          record {
            first = below.first;
            run = run_push here here below.first (run_below here top) top path (sym below.end) e (λ k low. refl) below.run;
            end = omega (arith, below.end, length-append (run_below here top) ((top, path) ∷ []));
            hole = below.hole;
          }
      by_here (path ∷ other ∷ more) e alone lower = absurd (several_alone top path other more e alone)

  last_run_numbered : (top : ℕ) → top ≤ end_of_numbers → ((k : ℕ) → top ≤ k → k < end_of_numbers → here k ≡ []) → StandAlone here (last_run here top) → (first : ℕ) × AreNumbered here first (last_run here top)
  last_run_numbered zero fits none alone = (0, subst (AreNumbered here 0) (sym (last_run-zero here)) (record { run = tt; hole = λ k e. absurd (omega arith); above = λ k low high. none k (omega arith) high; none = λ e k low. absurd (omega arith); fits = omega arith }))
  last_run_numbered (suc top) fits none alone = by_here (here top) refl (last_run_numbered top (omega arith))
    where
      Found : List (ℕ × Path) → Type 0
      Found files = (first : ℕ) × AreNumbered here first files

      -- where files of this number stand, they end the run
      found : (files : List (ℕ × Path)) → run_below here (suc top) ≡ files → 0 < length files → last_run here (suc top) ≡ run_below here (suc top)
      found files is some = last_run-suc here top ∙ found_some (run_below here (suc top)) (last_run here top) (omega (arith, some, ap length is))

      by_here : (found_here : List Path) → here top ≡ found_here → (((k : ℕ) → top ≤ k → k < end_of_numbers → here k ≡ []) → StandAlone here (last_run here top) → Found (last_run here top)) → Found (last_run here (suc top))
      by_here [] e lower = subst Found (sym run_gone) (lower (λ k low high. by_place k low high (nat_eq_or k top)) (subst (StandAlone here) run_gone alone))
        where
          run_gone : last_run here (suc top) ≡ last_run here top
          run_gone = last_run-suc here top ∙ ap (λ fs. found_or fs (last_run here top)) (run_below-suc here top ∙ ap (λ found. joined top found (run_below here top)) e)

          by_place : (k : ℕ) → top ≤ k → k < end_of_numbers → (k ≡ top) ⊎ (k ≢ top) → here k ≡ []
          by_place k low high (inl is) = ap here is ∙ e
          by_place k low high (inr other) = none k (omega arith) high
      by_here (path ∷ []) e lower =
          let some : run_below here (suc top) ≡ run_below here top ++ (top, path) ∷ [] = run_below-suc here top ∙ ap (λ found. joined top found (run_below here top)) e in
          let long : length (run_below here (suc top)) ≡ length (run_below here top) + 1 = ap length some ∙ length-append (run_below here top) ((top, path) ∷ []) in
          let is = found (run_below here (suc top)) refl (omega (arith, long)) in
          let below = found_run (suc top) (subst (StandAlone here) is alone) in
          subst Found (sym is) (
            below.first,
            record {
              run = below.run;
              hole = below.hole;
              above = λ k low high. none k (omega (arith, below.end)) high;
              none = λ is k low. absurd (omega (arith, long, ap length is));
              fits = omega (arith, below.end);
            },
          )
      by_here (path ∷ other ∷ more) e lower =
          let several = joined-several top other more in
          let is : run_below here (suc top) ≡ joined top (path ∷ other ∷ more) (run_below here top) = run_below-suc here top ∙ ap (λ found. joined top found (run_below here top)) e in
          absurd (several_alone top path other more e (subst (StandAlone here) (found ((top, several.0) ∷ []) (is ∙ several.1) (omega arith) ∙ is) alone))

-- where each kept file stands alone, they are the files of a queue
pub single_numbered : (folders : List Path) (queue : LogQueue) (n : Directory) → AreSingle folders queue n → (first : ℕ) × AreNumbered (paths_of folders queue n) first (kept_files folders queue n)
single_numbered folders queue n single = last_run_numbered (paths_of folders queue n) end_of_numbers (omega arith) (λ k low high. absurd (omega arith)) single

-- the kept files of a queue stand alone
pub queue_single : (folders : List Path) (queue : LogQueue) (batches : List Batch) (counts : QueueCounts) (n : Directory) → IsKeptQueue folders queue batches counts n → AreSingle folders queue n
queue_single folders queue batches counts n k =
    let numbered = k.keeps.files.numbered in
    let files = places_of k.before ++ if_standing (has_file n k.last.path) k.last.seq k.last.path in
    subst (StandAlone (paths_of folders queue n)) (sym (kept-numbered (paths_of folders queue n) k.first files numbered)) (run_alone (paths_of folders queue n) k.first files numbered.run)
