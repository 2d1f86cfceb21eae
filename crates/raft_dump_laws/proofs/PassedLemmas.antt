-- The files whose numbers rise up to the greatest.
use Rattle.std.proofs.Common.{◌≡◌, ◌==◌, ℕ, zero, suc, ◌+◌, ◌<◌, ◌≤◌, Bool, cond, List, [], ◌∷◌, length, drop, map, refl, ◌∙◌, ap, subst, arith}
use Rattle.std.specs.List.{AllByRecursion, filter}
use Rattle.std.proofs.lemmas.Bool.{eq-eqb, ne_eqb}
use Rattle.raft_base.specs.declared.pipe_log.LogQueue.{LogQueue}
use Rattle.raft_env.specs.Directory.{Directory, Path}
use Rattle.raft_pipes.specs.Numbered.{AreNumbered, IsRun, end_of_numbers, kept_files, paths_of}
use Rattle.raft_pipes.proofs.NumberedLemmas.{kept-numbered}
use Rattle.raft_dump.specs.Check.{AreLastToRise, RisesAt}
use Rattle.raft_dump_laws.specs.Passed.{AreAllOf, AreByNumber, IsDoubledAt, numbers_in, paths_with}

-- the files have the numbers from this one on
abbrev HaveNumbers : ℕ → List (ℕ × Path) → Type 0
HaveNumbers seq [] = Unit {0}
HaveNumbers seq (f ∷ files) = (f.0 ≡ seq) × HaveNumbers (suc seq) files

abbrev AreWithin : List (ℕ × Path) → Type 0
AreWithin files = AllByRecursion (λ f. f.0 < end_of_numbers) files

-- Paths of a number.

other_first : (seq : ℕ) (f : ℕ × Path) (files : List (ℕ × Path)) → (f.0 ≡ seq → ⊥) → paths_with seq (f ∷ files) ≡ paths_with seq files
other_first seq f files other =
    ap (λ (b : Bool). map (λ (g : ℕ × Path). g.1) (cond b (f ∷ filter (λ (g : ℕ × Path). g.0 == seq) files) (filter (λ (g : ℕ × Path). g.0 == seq) files))) (ne_eqb f.0 seq other)

same_first : (seq : ℕ) (f : ℕ × Path) (files : List (ℕ × Path)) → f.0 ≡ seq → paths_with seq (f ∷ files) ≡ f.1 ∷ paths_with seq files
same_first seq f files same =
    ap (λ (b : Bool). map (λ (g : ℕ × Path). g.1) (cond b (f ∷ filter (λ (g : ℕ × Path). g.0 == seq) files) (filter (λ (g : ℕ × Path). g.0 == seq) files))) (eq-eqb f.0 seq same)

none_before : (k seq : ℕ) (files : List (ℕ × Path)) → HaveNumbers seq files → k < seq → paths_with k files ≡ []
none_before k seq [] have low = refl
none_before k seq (f ∷ files) have low = other_first k f files (λ is. absurd (omega (arith, is, have.0, low))) ∙ none_before k (suc seq) files have.1 (omega (arith, low))

none_behind : (k seq : ℕ) (files : List (ℕ × Path)) → HaveNumbers seq files → seq + length files ≤ k → paths_with k files ≡ []
none_behind k seq [] have high = refl
none_behind k seq (f ∷ files) have high = other_first k f files (λ is. absurd (omega (arith, is, have.0, high))) ∙ none_behind k (suc seq) files have.1 (omega (arith, high))

-- Files that follow one another.

module _ (here : ℕ → List Path) where
  -- from this number on, all files are among these
  abbrev AllFrom : ℕ → List (ℕ × Path) → Type 0
  AllFrom low files = (seq : ℕ) → low ≤ seq → seq < end_of_numbers → here seq ≡ paths_with seq files

  from_next : (low : ℕ) (f : ℕ × Path) (files : List (ℕ × Path)) → AllFrom low (f ∷ files) → (next : ℕ) → low ≤ next → f.0 < next → AllFrom next files
  from_next low f files all next above behind seq high inside =
      all seq (omega (arith, above, high)) inside ∙ other_first seq f files (λ is. absurd (omega (arith, is, behind, high)))

  run_of : (seq : ℕ) (files : List (ℕ × Path)) → HaveNumbers seq files → AreWithin files → AllFrom seq files → IsRun here seq files
  run_of seq [] have within all = tt
  run_of seq (f ∷ files) have within all = (
    have.0,
    all seq (omega arith) (omega (arith, have.0, within.0)) ∙ same_first seq f files have.0 ∙ ap (λ (ps : List Path). f.1 ∷ ps) (none_before seq (suc seq) files have.1 (omega arith)),
    run_of (suc seq) files have.1 within.1 (from_next seq f files all (suc seq) (omega arith) (omega (arith, have.0))),
  )

  fits_of : (seq : ℕ) (f : ℕ × Path) (files : List (ℕ × Path)) → HaveNumbers seq (f ∷ files) → AreWithin (f ∷ files) → seq + length (f ∷ files) ≤ end_of_numbers
  fits_of seq f [] have within = omega (arith, have.0, within.0)
  fits_of seq f (g ∷ files) have within = let rest = fits_of (suc seq) g files have.1 within.1 in omega (arith, rest)

  numbered_of : (low : ℕ) (f : ℕ × Path) (files : List (ℕ × Path)) → HaveNumbers f.0 (f ∷ files) → AreWithin (f ∷ files) → AllFrom low (f ∷ files) → ((k : ℕ) → f.0 ≡ suc k → low ≤ k) → low ≤ f.0 → AreNumbered here f.0 (f ∷ files)
  numbered_of low f files have within all hole above = record {
    run = run_of f.0 (f ∷ files) have within (λ seq high inside. all seq (omega (arith, above, high)) inside);
    hole = λ k is. all k (hole k is) (omega (arith, is, within.0)) ∙ none_before k f.0 (f ∷ files) have (omega (arith, is));
    above = λ k high inside. all k (omega (arith, above, high)) inside ∙ none_behind k f.0 (f ∷ files) have high;
    none = λ none k below. let both : f ∷ files ≡ [] = none in cc;
    fits = fits_of f.0 f files have within;
  }

  none_numbered : AllFrom 0 [] → AreNumbered here 0 []
  none_numbered all = record {
    run = tt;
    hole = λ k is. absurd (omega (arith, is));
    above = λ k high inside. all k (omega arith) inside;
    none = λ none k below. absurd (omega (arith, below));
    fits = omega arith;
  }

  -- numbers that rise place by place
  rising : (f : ℕ × Path) (files : List (ℕ × Path)) → ((place : ℕ) → suc place < length (numbers_in (f ∷ files)) → RisesAt (numbers_in (f ∷ files)) place) → HaveNumbers f.0 (f ∷ files)
  rising f [] rise = (refl, tt)
  rising f (g ∷ files) rise =
      let next : g.0 ≡ suc f.0 = rise 0 (omega arith) in
      (refl, subst (λ (seq : ℕ). HaveNumbers seq (g ∷ files)) next (rising g files (λ place inside. rise (suc place) (omega (arith, inside)))))

  -- behind a first one, some more of which are passed over
  behind : (passed : ℕ) (f : ℕ × Path) (files : List (ℕ × Path)) → AllFrom (suc f.0) files → AreByNumber (f ∷ files) → AreWithin files
      → AreLastToRise (numbers_in (f ∷ files)) (suc passed) → (IsDoubledAt (f ∷ files) (suc passed) → ⊥) → (first : ℕ) × AreNumbered here first (drop passed files)
  behind passed f [] all order within last single = let most = last.most passed refl in absurd (omega (arith, most.0))
  behind zero f (g ∷ files) all order within last single =
      let most = last.most 0 refl in
      let next : suc f.0 < g.0 = omega (arith, order.0.0, (λ (is : g.0 ≡ suc f.0). most.1 is), (λ (is : g.0 ≡ f.0). single (0, refl, is))) in
      (g.0, numbered_of (suc f.0) g files (rising g files (λ place inside. last.rise (suc place) (omega arith) (omega (arith, inside)))) within all (λ k is. omega (arith, next, is)) (omega (arith, next)))
  behind (suc passed) f (g ∷ files) all order within last single =
      behind passed g files (from_next (suc f.0) g files all (suc g.0) (omega (arith, order.0.0)) (omega arith)) order.1 within.1 (record {
        within = omega (arith, last.within);
        rise = λ place low inside. last.rise (suc place) (omega (arith, low)) (omega (arith, inside));
        most = λ place is. let most = last.most (suc place) (ap suc is) in (omega (arith, most.0), most.1);
      }) (λ doubled. single (suc doubled.0, ap suc doubled.1, doubled.2))

  numbered : (passed : ℕ) (files : List (ℕ × Path)) → AreAllOf here files → AreLastToRise (numbers_in files) passed → (IsDoubledAt files passed → ⊥) → (first : ℕ) × AreNumbered here first (drop passed files)
  numbered zero [] all last single = (0, none_numbered (λ seq low inside. all.are seq inside))
  numbered zero (f ∷ files) all last single =
      (f.0, numbered_of 0 f files (rising f files (λ place inside. last.rise place (omega arith) inside)) all.within (λ seq low inside. all.are seq inside) (λ k is. omega arith) (omega arith))
  numbered (suc passed) [] all last single = let most = last.most passed refl in absurd (omega (arith, most.0))
  numbered (suc passed) (f ∷ files) all last single =
      behind passed f files (from_next 0 f files (λ seq low inside. all.are seq inside) (suc f.0) (omega arith) (omega arith)) all.order all.within.1 last single

pub files_kept : (folders : List Path) (queue : LogQueue) (n : Directory) (files : List (ℕ × Path)) (passed : ℕ) → AreAllOf (paths_of folders queue n) files → AreLastToRise (numbers_in files) passed → (IsDoubledAt files passed → ⊥) → kept_files folders queue n ≡ drop passed files
files_kept folders queue n files passed all last single =
    let found = numbered (paths_of folders queue n) passed files all last single in
    kept-numbered (paths_of folders queue n) found.0 (drop passed files) found.1
