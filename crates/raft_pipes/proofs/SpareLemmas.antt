-- A file with a number below a queue's own goes.
use Rattle.std.proofs.Common.{◌≡◌, ◌≢◌, ℕ, zero, suc, ◌+◌, ◌<◌, ◌≤◌, true, false, List, [], ◌∷◌, ◌++◌, length, refl, ap, sym, subst, ◌∙◌, inl, inr, arith, is_some, append_assoc, length-append}
use Rattle.std.specs.Prelude.{Contains, ◌⊎◌, ◌-◌, IsSome, drop, nat_lt, take, Option, Some, None}
use Rattle.raft_records.specs.Item.{Batch}
use Rattle.std.proofs.lemmas.Grind.{flat_map-append}
use Rattle.std.proofs.Math.Seq.{take-append-add}
use Rattle.std.proofs.lemmas.Bool.Decides.{nat_tests}
use Rattle.std.specs.List.{AllByRecursion}
use Rattle.std.proofs.lemmas.Bool.{cases_Bool}
use Rattle.std.proofs.lemmas.List.{append-nil, map-append}
use Rattle.raft_base.specs.declared.pipe_log.LogQueue.{LogQueue}
use Rattle.raft_env.specs.Directory.{Directory, HasFile, Path, after_rename, after_rename_at, file_at, with_file, without_file}
use Rattle.raft_env.specs.Outcomes.{File, renamed_of}
use Rattle.raft_files.specs.Records.{RecoversPrefixAt}
use Rattle.raft_env.proofs.DirectoryLemmas.{file_at-placed_other, file_at-placed_same, file_at-removed_same, file_at-removed_other}
use Rattle.raft_files.specs.Sealed.{IsSealed}
use Rattle.raft_files.specs.Name.{file_name}
use Rattle.raft_pipes.specs.Folder.{LeavesOthers}
use Rattle.raft_pipes.specs.Numbered.{AreNumbered, IsPathOf, IsRun, end_of_numbers, has_file, in_queue, paths_of}
use Rattle.raft_pipes.specs.Counts.{IsLeftOf}
use Rattle.raft_pipes.specs.QueueFiles.{HasFilesAfter, HasFilesBefore, IsKeptQueue, IsNoPathOf, QueueFile, batches_in, batches_with, counts_after, if_standing, places_of}
use Rattle.raft_pipes.proofs.NumberedLemmas.{numbered_dropped, run_at, run_back, run_front, run_same}
use Rattle.raft_pipes.proofs.PlacesLemmas.{among_passing, one_of, path_cases, paths_of-other, paths_of-removed}
use Rattle.raft_pipes.proofs.QueueFilesLemmas.{all_back}
use Rattle.raft_pipes.proofs.StepsLemmas.{files_beside, files_stay, length-places_of, paths_apart, run_before, sealed_apart}

found_file : (path : Path) (n : Directory) → HasFile n path → (file : File) × (file_at n path ≡ Some file)
found_file path n has = by_file (file_at n path) refl has
  where
    by_file : (o : Option File) → file_at n path ≡ o → IsSome o → (file : File) × (file_at n path ≡ Some file)
    by_file None e has = absurd (let clash : false ≡ true = has in cc)
    by_file (Some file) e has = (file, e)

no_file : (o : Option File) → is_some o ≡ false → o ≡ None
no_file None e = refl
no_file (Some file) e = absurd (let no : true ≡ false = e in cc)

-- a file that doesn't stand goes
gone_nothing : (path q : Path) (n : Directory) → has_file n path ≡ false → file_at (without_file path n) q ≡ file_at n q
gone_nothing path q n none = elim (path_cases q path) [
  | inl is ↦ ap (file_at (without_file path n)) is ∙ file_at-removed_same path n ∙ sym (no_file (file_at n path) none) ∙ ap (file_at n) (sym is)
  | inr other ↦ file_at-removed_other path q n other
]

less_or_not : (a b : ℕ) → (a < b) ⊎ (b ≤ a)
less_or_not a b = elim (cases_Bool (nat_lt a b)) [ inl less ↦ inl (grind (arith, nat_tests)) | inr more ↦ inr (grind (arith, nat_tests)) ]

-- the file of a number in a run, those before it and those after it
record FoundIn (here : ℕ → List Path) (k : ℕ) (files : List QueueFile) : Type 0 where
  front : List QueueFile
  f : QueueFile
  rest : List QueueFile
  split : files ≡ front ++ f ∷ rest
  seq_is : f.seq ≡ k

found_in : (here : ℕ → List Path) (k seq : ℕ) (files : List QueueFile) → seq ≤ k → k < seq + length files → IsRun here seq (places_of files) → FoundIn here k files
found_in here k seq [] low high run = absurd (omega arith)
found_in here k seq (f ∷ files) low high run = by_test (less_or_not seq k) (λ less. found_in here k (suc seq) files (omega arith) (omega arith) run.2)
  where
    by_test : (seq < k) ⊎ (k ≤ seq) → (seq < k → FoundIn here k files) → FoundIn here k (f ∷ files)
    by_test (inr least) more = let at : f.seq ≡ k = omega (arith, run.0) in record { front = []; f = f; rest = files; split = refl; seq_is = at }
    by_test (inl less) more =
        let found = more less in
        record { front = f ∷ found.front; f = found.f; rest = found.rest; split = ap (λ fs. f ∷ fs) found.split; seq_is = found.seq_is }

-- without the file of a number the queue consists of the files after it
record StandsAbove (folders : List Path) (queue : LogQueue) (k first : ℕ) (before : List QueueFile) (seq : ℕ) (path : Path) (n : Directory) : Type 0 where
  from : ℕ
  out : List QueueFile
  kept : List QueueFile
  split : before ≡ out ++ kept
  few : length out ≤ suc k - first
  files : HasFilesBefore folders queue from kept seq path n

module _ (folders : List Path) (queue : LogQueue) (first : ℕ) (before : List QueueFile) (seq : ℕ) (path : Path) (old : Directory) (files : HasFilesBefore folders queue first before seq path old) (k : ℕ) (spare : Path) (is_path : IsPathOf folders queue k spare) (low : k < seq) (behind_it : (suc k < seq) ⊎ HasFile old path) where
  abbrev new : Directory
  new = without_file spare old

  short : k < end_of_numbers
  short = omega (arith, files.fits)

  only : LeavesOthers spare old new
  only q other = file_at-removed_other spare q old other

  gone : has_file new spare ≡ false
  gone = ap is_some (file_at-removed_same spare old)

  last_apart : path ≢ spare
  last_apart = paths_apart folders queue files.apart seq k path spare files.fits short (λ e. absurd (omega arith)) files.path_is is_path

  last_stands : has_file new path ≡ has_file old path
  last_stands = ap is_some (only path last_apart)

  stands_by : AreNumbered (paths_of folders queue new) first (places_of before ++ if_standing (has_file old path) seq path) → AreNumbered (paths_of folders queue new) first (places_of before ++ if_standing (has_file new path) seq path)
  stands_by = subst (λ b. AreNumbered (paths_of folders queue new) first (places_of before ++ if_standing b seq path)) (sym last_stands)

  -- it stands nowhere
  nothing_goes : has_file old spare ≡ false → StandsAbove folders queue k first before seq path new
  nothing_goes none = record {
    from = first;
    out = [];
    kept = before;
    split = refl;
    few = omega arith;
    files = files_beside folders queue first before seq path old files new (λ j p fits is. gone_nothing spare p old none);
  }

  module _ (stood : has_file old spare ≡ true) where
    among : Contains (paths_of folders queue old k) spare
    among = subst (Contains (paths_of folders queue old k)) (sym is_path.2) (among_passing (file_name (in_queue queue k)) (has_file old) folders is_path.0 is_path.1 (ap (has_file old) (sym is_path.2) ∙ stood))

    -- below the first one
    below_goes : k < first → StandsAbove folders queue k first before seq path new
    below_goes less = record {
      from = first;
      out = [];
      kept = before;
      split = refl;
      few = omega arith;
      files = record {
        apart = files.apart;
        numbered = stands_by (record {
          run = run_same (paths_of folders queue old) (paths_of folders queue new) first _ (λ j above within. same j (omega (arith, numbered.fits)) (λ e. absurd (omega arith))) numbered.run;
          hole = λ j e. same j (omega (arith, files.fits)) (λ at. not_hole (e ∙ ap suc at)) ∙ numbered.hole j e;
          above = λ j above within. same j within (λ e. absurd (omega arith)) ∙ numbered.above j above within;
          none = λ e j less_too. absurd (nothing_among (numbered.none e k less));
          fits = numbered.fits;
        });
        next = files.next;
        fits = files.fits;
        path_is = files.path_is;
        sealed = sealed_apart folders queue files.apart old new k spare is_path short only first before (omega (arith, files.next, files.fits)) (inl less) (run_before folders queue first before seq path old files) files.sealed;
      };
    }
      where
        numbered : AreNumbered (paths_of folders queue old) first (places_of before ++ if_standing (has_file old path) seq path)
        numbered = files.numbered

        same : (j : ℕ) → j < end_of_numbers → j ≢ k → paths_of folders queue new j ≡ paths_of folders queue old j
        same = paths_of-other folders queue files.apart old new k spare is_path short only

        nothing_among : paths_of folders queue old k ≡ [] → ⊥
        nothing_among none = let no : Contains [] spare = subst (λ l. Contains l spare) none among in absurd (omega (arith, no.1))

        not_hole : first ≡ suc k → ⊥
        not_hole e = nothing_among (numbered.hole k e)

    -- one of its own
    own_goes : first ≤ k → StandsAbove folders queue k first before seq path new
    own_goes within = by_found (found_in (paths_of folders queue old) k first before within (omega (arith, files.next)) (run_before folders queue first before seq path old files))
      where
        by_found : FoundIn (paths_of folders queue old) k before → StandsAbove folders queue k first before seq path new
        by_found found = record {
          from = suc f.seq;
          out = front ++ f ∷ [];
          kept = rest;
          split = found.split ∙ sym (append_assoc front (f ∷ []) rest);
          few = omega (arith, length-append front (f ∷ []), at, found.seq_is);
          files = record {
            apart = files.apart;
            numbered = subst (λ b. AreNumbered (paths_of folders queue new) (suc f.seq) (places_of rest ++ if_standing b seq path)) (sym last_stands)
                (numbered_dropped (paths_of folders queue old) (paths_of folders queue new) first (places_of front) (f.seq, f.path) behind some
                (ap (paths_of folders queue new) found.seq_is ∙ none_now) (λ j fits other. paths_of-other folders queue files.apart old new k spare is_path short only j fits (λ e. other (e ∙ sym found.seq_is))) numbered);
            next = omega (arith, files.next, long, at, ap length found.split);
            fits = files.fits;
            path_is = files.path_is;
            sealed = sealed_apart folders queue files.apart old new k spare is_path short only (suc f.seq) rest (omega (arith, files.fits, files.next, long, at, ap length found.split)) (inl (omega (arith, found.seq_is)))
                (run_front (paths_of folders queue old) (suc f.seq) (places_of rest) _ (subst (λ j. IsRun (paths_of folders queue old) j behind) one run.2)) sealed.1;
          };
        }
          where
            front : List QueueFile
            front = found.front

            f : QueueFile
            f = found.f

            rest : List QueueFile
            rest = found.rest

            behind : List (ℕ × Path)
            behind = places_of rest ++ if_standing (has_file old path) seq path

            split : places_of before ++ if_standing (has_file old path) seq path ≡ places_of front ++ (f.seq, f.path) ∷ behind
            split =
                ap (λ fs. places_of fs ++ if_standing (has_file old path) seq path) found.split
                ∙ ap (λ fs. fs ++ if_standing (has_file old path) seq path) (map-append (λ (w : QueueFile). (w.seq, w.path)) front (f ∷ rest))
                ∙ append_assoc (places_of front) ((f.seq, f.path) ∷ places_of rest) (if_standing (has_file old path) seq path)

            numbered : AreNumbered (paths_of folders queue old) first (places_of front ++ (f.seq, f.path) ∷ behind)
            numbered = subst (AreNumbered (paths_of folders queue old) first) split files.numbered

            at : f.seq ≡ first + length front
            at = run_at (paths_of folders queue old) first (places_of front) (f.seq, f.path) behind numbered.run ∙ ap (λ j. first + j) (length-places_of front)

            run : IsRun (paths_of folders queue old) (first + length (places_of front)) ((f.seq, f.path) ∷ behind)
            run = run_back (paths_of folders queue old) first (places_of front) ((f.seq, f.path) ∷ behind) numbered.run

            one : suc (first + length (places_of front)) ≡ suc f.seq
            one = omega (arith, at, length-places_of front)

            long : length (front ++ f ∷ rest) ≡ length front + suc (length rest)
            long = length-append front (f ∷ rest)

            rest_long : length before ≡ length front + suc (length rest)
            rest_long = ap length found.split ∙ long

            some : 0 < length behind
            some = elim behind_it [
              | inl more ↦ omega (arith, length-append (places_of rest) (if_standing (has_file old path) seq path), length-places_of rest, files.next, rest_long, at, found.seq_is, more)
              | inr stands ↦ omega (arith, length-append (places_of rest) (if_standing (has_file old path) seq path), ap (λ b. length (if_standing b seq path)) stands)
            ]

            here : paths_of folders queue old k ≡ f.path ∷ []
            here = ap (paths_of folders queue old) (sym found.seq_is ∙ run.0) ∙ run.1

            same_path : f.path ≡ spare
            same_path = one_of f.path spare (subst (λ l. Contains l spare) here among)

            none_now : paths_of folders queue new k ≡ []
            none_now = paths_of-removed folders queue files.apart old new k spare is_path short only (here ∙ ap (λ p. p ∷ []) same_path) gone

            sealed : AllByRecursion (λ w. IsSealed w.path (in_queue queue w.seq) w.batches old) (f ∷ rest)
            sealed = all_back (λ w. IsSealed w.path (in_queue queue w.seq) w.batches old) front (f ∷ rest) (subst (AllByRecursion (λ w. IsSealed w.path (in_queue queue w.seq) w.batches old)) found.split files.sealed)

    stood_goes : StandsAbove folders queue k first before seq path new
    stood_goes = elim (less_or_not k first) [ inl less ↦ below_goes less | inr more ↦ own_goes more ]

  gone_below : StandsAbove folders queue k first before seq path (without_file spare old)
  gone_below = elim (cases_Bool (has_file old spare)) [ inl stood ↦ stood_goes stood | inr none ↦ nothing_goes none ]

-- Batches.

batches-append : (xs ys : List QueueFile) → batches_in (xs ++ ys) ≡ batches_in xs ++ batches_in ys
batches-append xs ys = flat_map-append (λ (f : QueueFile). f.batches) xs ys

-- files at the front of two lists of which one is no longer than the front
record FrontSplit (front before out kept : List QueueFile) : Type 0 where
  rest : List QueueFile
  front_is : front ≡ out ++ rest
  kept_is : kept ≡ rest ++ before

front_split : (front before out kept : List QueueFile) → front ++ before ≡ out ++ kept → length out ≤ length front → FrontSplit front before out kept
front_split front before [] kept is few = record { rest = front; front_is = refl; kept_is = sym is }
front_split [] before (f ∷ out) kept is few = absurd (omega arith)
front_split (g ∷ front) before (f ∷ out) kept is few =
    let tails : front ++ before ≡ out ++ kept = ap tail_of is in
    let heads : g ≡ f = ap (head_or g) is in
    let more = front_split front before out kept tails (omega arith) in
    record { rest = more.rest; front_is = ap (λ fs. g ∷ fs) more.front_is ∙ ap (λ h. h ∷ out ++ more.rest) heads; kept_is = more.kept_is }
  where
    tail_of : List QueueFile → List QueueFile
    tail_of [] = []
    tail_of (x ∷ xs) = xs

    head_or : QueueFile → List QueueFile → QueueFile
    head_or x [] = x
    head_or x (y ∷ ys) = y

-- Files below the first one.

-- without a front no file below the first one is any of the queue's
pub below_gone : (folders : List Path) (queue : LogQueue) (first : ℕ) (before : List QueueFile) (seq : ℕ) (path : Path) (old : Directory) → HasFilesBefore folders queue first before seq path old → (k : ℕ) (spare : Path) → IsPathOf folders queue k spare → k < first → (suc k < seq) ⊎ HasFile old path
    → HasFilesBefore folders queue first before seq path (without_file spare old)
below_gone folders queue first before seq path old files k spare is_path low behind_it = by_out above.out above.kept above.split above.few above.files
  where
    above : StandsAbove folders queue k first before seq path (without_file spare old)
    above = gone_below folders queue first before seq path old files k spare is_path (omega (arith, files.next, low)) behind_it

    by_out : (out kept : List QueueFile) → before ≡ out ++ kept → length out ≤ suc k - first → HasFilesBefore folders queue above.from kept seq path (without_file spare old) → HasFilesBefore folders queue first before seq path (without_file spare old)
    by_out [] kept split few there =
        subst (λ fs. HasFilesBefore folders queue first fs seq path (without_file spare old)) (sym split)
        (subst (λ from. HasFilesBefore folders queue from kept seq path (without_file spare old)) (let same : above.from ≡ first = omega (arith, there.next, files.next, ap length split) in same) there)
    by_out (f ∷ out) kept split few there = absurd (omega (arith, few, low))

-- Files with a front.

pub after_own : (folders : List Path) (queue : LogQueue) (first : ℕ) (before : List QueueFile) (seq : ℕ) (path : Path) (n : Directory) → HasFilesBefore folders queue first before seq path n → HasFilesAfter folders queue first [] before seq path n
after_own folders queue first before seq path n files = record { first = first; front = []; gone = []; files = files; own_is = omega arith; dropped_is = refl }

pub after_dropped : (folders : List Path) (queue : LogQueue) (own : ℕ) (dropped : List Batch) (f : QueueFile) (before : List QueueFile) (seq : ℕ) (path : Path) (n : Directory) → HasFilesAfter folders queue own dropped (f ∷ before) seq path n → HasFilesAfter folders queue (suc own) (dropped ++ f.batches) before seq path n
after_dropped folders queue own dropped f before seq path n a = record {
  first = a.first;
  front = a.front ++ f ∷ [];
  gone = a.gone;
  files = subst (λ fs. HasFilesBefore folders queue a.first fs seq path n) (sym (append_assoc a.front (f ∷ []) before)) a.files;
  own_is = omega (arith, a.own_is, length-append a.front (f ∷ []));
  dropped_is =
      ap (λ bs. bs ++ f.batches) a.dropped_is
      ∙ append_assoc a.gone (batches_in a.front) f.batches
      ∙ ap (λ bs. a.gone ++ bs) (ap (λ bs. batches_in a.front ++ bs) (sym (append-nil f.batches)) ∙ sym (batches-append a.front (f ∷ [])));
}

module _ (folders : List Path) (queue : LogQueue) (own : ℕ) (dropped : List Batch) (before : List QueueFile) (seq : ℕ) (path : Path) (old : Directory) (a : HasFilesAfter folders queue own dropped before seq path old) (k : ℕ) (spare : Path) (is_path : IsPathOf folders queue k spare) (low : k < own) where
  long : length (a.front ++ before) ≡ length a.front + length before
  long = length-append a.front before

  pub after_gone : (suc k < seq) ⊎ HasFile old path → HasFilesAfter folders queue own dropped before seq path (without_file spare old)
  after_gone behind_it = by_split (front_split a.front before above.out above.kept above.split (omega (arith, above.few, low, a.own_is)))
    where
      above : StandsAbove folders queue k a.first (a.front ++ before) seq path (without_file spare old)
      above = gone_below folders queue a.first (a.front ++ before) seq path old a.files k spare is_path (omega (arith, a.files.next, long, low, a.own_is)) behind_it

      total : length (a.front ++ before) ≡ length above.out + length above.kept
      total = ap length above.split ∙ length-append above.out above.kept

      by_split : FrontSplit a.front before above.out above.kept → HasFilesAfter folders queue own dropped before seq path (without_file spare old)
      by_split s = record {
        first = above.from;
        front = s.rest;
        gone = a.gone ++ batches_in above.out;
        files = subst (λ fs. HasFilesBefore folders queue above.from fs seq path (without_file spare old)) s.kept_is above.files;
        own_is = omega (arith, a.own_is, a.files.next, above.files.next, total, long, ap length s.kept_is, length-append s.rest before);
        dropped_is =
            a.dropped_is
            ∙ ap (λ fs. a.gone ++ batches_in fs) s.front_is
            ∙ ap (λ bs. a.gone ++ bs) (batches-append above.out s.rest)
            ∙ sym (append_assoc a.gone (batches_in above.out) (batches_in s.rest));
      }

  pub after_renamed : file_at old path ≡ None → 0 < length before → HasFile old spare → HasFilesAfter folders queue own dropped before seq path (after_rename spare path old)
  after_renamed none some stood = record {
    first = mid.first;
    front = mid.front;
    gone = mid.gone;
    files = files_stay folders queue mid.first (mid.front ++ before) seq path (without_file spare old) mid.files (after_rename spare path old) only (λ was. there);
    own_is = mid.own_is;
    dropped_is = mid.dropped_is;
  }
    where
      mid : HasFilesAfter folders queue own dropped before seq path (without_file spare old)
      mid = after_gone (inl (omega (arith, a.files.next, long, low, a.own_is, some)))

      file : File
      file = (found_file spare old stood).0

      is : after_rename spare path old ≡ with_file path (renamed_of file) (without_file spare old)
      is = ap (λ found. after_rename_at spare path found old) (found_file spare old stood).1

      only : LeavesOthers path (without_file spare old) (after_rename spare path old)
      only q other = ap (λ m. file_at m q) is ∙ file_at-placed_other path (renamed_of file) (without_file spare old) q other

      there : HasFile (after_rename spare path old) path
      there = ap is_some (ap (λ m. file_at m path) is ∙ file_at-placed_same path (renamed_of file) (without_file spare old))

-- the batches that stand follow those that are gone
pub after_batches : (folders : List Path) (queue : LogQueue) (own : ℕ) (dropped : List Batch) (before : List QueueFile) (last : QueueFile) (n : Directory) (a : HasFilesAfter folders queue own dropped before last.seq last.path n) → dropped ++ batches_with before last ≡ a.gone ++ batches_with (a.front ++ before) last
after_batches folders queue own dropped before last n a =
    ap (λ bs. bs ++ batches_with before last) a.dropped_is
    ∙ append_assoc a.gone (batches_in a.front) (batches_with before last)
    ∙ ap (λ bs. a.gone ++ bs) (sym (append_assoc (batches_in a.front) (batches_in before) last.batches) ∙ ap (λ bs. bs ++ last.batches) (sym (batches-append a.front before)))

pub after_keeps : (folders : List Path) (queue : LogQueue) (own : ℕ) (dropped : List Batch) (before : List QueueFile) (last : QueueFile) (more : ℕ) (n : Directory) → HasFilesAfter folders queue own dropped before last.seq last.path n → RecoversPrefixAt last.path (in_queue queue last.seq) last.batches more n
    → IsKeptQueue folders queue (dropped ++ batches_with before last) (counts_after dropped before more) n
after_keeps folders queue own dropped before last more n a end = record {
  first = a.first;
  before = a.front ++ before;
  last = last;
  more = more;
  keeps = record { files = a.files; end = end };
  gone = a.gone;
  are = after_batches folders queue own dropped before last n a;
  few = omega (arith, both);
  dropped = omega (arith, both, all);
  synced = omega (arith, both, all);
}
  where
    both : length dropped ≡ length a.gone + length (batches_in a.front)
    both = ap length a.dropped_is ∙ length-append a.gone (batches_in a.front)

    all : length (batches_in (a.front ++ before)) ≡ length (batches_in a.front) + length (batches_in before)
    all = ap length (batches-append a.front before) ∙ length-append (batches_in a.front) (batches_in before)

drop-front : (from : ℕ) (xs ys : List Batch) → from ≤ length xs → drop from (xs ++ ys) ≡ drop from xs ++ ys
drop-front zero xs ys few = refl
drop-front (suc from) [] ys few = absurd (omega arith)
drop-front (suc from) (x ∷ xs) ys few = drop-front from xs ys (omega arith)

pub left_split : (older synced since found : List Batch) → IsLeftOf (older ++ (synced ++ since)) (record { dropped = length older; synced = length older + length synced }) found
    → (i : ℕ) × (k : ℕ) × (k ≤ length since) × (found ≡ drop i older ++ (synced ++ take k since))
left_split older synced since found left = (left.from, k, omega (arith, left.within, left.synced, total), is)
  where
    k : ℕ
    k = left.count - (length older + length synced)

    total : length (older ++ (synced ++ since)) ≡ length older + (length synced + length since)
    total = omega (arith, length-append older (synced ++ since), length-append synced since)

    front : take left.count (older ++ (synced ++ since)) ≡ older ++ (synced ++ take k since)
    front =
        ap (λ c. take c (older ++ (synced ++ since))) (let e : left.count ≡ length older + (length synced + k) = omega (arith, left.synced) in e)
        ∙ take-append-add older (synced ++ since) (length synced + k)
        ∙ ap (λ bs. older ++ bs) (take-append-add synced since k)

    is : found ≡ drop left.from older ++ (synced ++ take k since)
    is = left.is ∙ ap (drop left.from) front ∙ drop-front left.from older (synced ++ take k since) left.few

-- Files at other paths.

module _ (folders : List Path) (queue : LogQueue) (own : ℕ) (dropped : List Batch) (before : List QueueFile) (seq : ℕ) (path : Path) (old : Directory) (a : HasFilesAfter folders queue own dropped before seq path old) where
  -- a file that is none of the queue's changes
  pub after_beside : (p : Path) (new : Directory) → IsNoPathOf folders queue p → LeavesOthers p old new → HasFilesAfter folders queue own dropped before seq path new
  after_beside p new apart only = record {
    first = a.first;
    front = a.front;
    gone = a.gone;
    files = files_beside folders queue a.first (a.front ++ before) seq path old a.files new (λ k q fits is. only q (λ e. apart k fits (subst (IsPathOf folders queue k) e is)));
    own_is = a.own_is;
    dropped_is = a.dropped_is;
  }

  -- the next file comes
  pub after_stays : (new : Directory) → LeavesOthers path old new → HasFile new path → HasFilesAfter folders queue own dropped before seq path new
  after_stays new only there = record {
    first = a.first;
    front = a.front;
    gone = a.gone;
    files = files_stay folders queue a.first (a.front ++ before) seq path old a.files new only (λ was. there);
    own_is = a.own_is;
    dropped_is = a.dropped_is;
  }

module _ (spare to : Path) (old : Directory) (stood : HasFile old spare) where
  moved_file : File
  moved_file = (found_file spare old stood).0

  moved_is : after_rename spare to old ≡ with_file to (renamed_of moved_file) (without_file spare old)
  unfolding moved_file
  moved_is = ap (λ found. after_rename_at spare to found old) (found_file spare old stood).1

  pub moved_only : LeavesOthers to (without_file spare old) (after_rename spare to old)
  moved_only q other = ap (λ m. file_at m q) moved_is ∙ file_at-placed_other to (renamed_of moved_file) (without_file spare old) q other

  moved_there : HasFile (after_rename spare to old) to
  moved_there = ap is_some (ap (λ m. file_at m to) moved_is ∙ file_at-placed_same to (renamed_of moved_file) (without_file spare old))

module _ (folders : List Path) (queue : LogQueue) (own : ℕ) (dropped : List Batch) (before : List QueueFile) (seq : ℕ) (path : Path) (old : Directory) (a : HasFilesAfter folders queue own dropped before seq path old) where
  pub after_reserved : file_at old path ≡ None → (spare : Path) → IsNoPathOf folders queue spare → HasFile old spare → HasFilesAfter folders queue own dropped before seq path (after_rename spare path old)
  after_reserved none spare apart stood =
      after_stays folders queue own dropped before seq path (without_file spare old)
      (after_beside folders queue own dropped before seq path old a spare (without_file spare old) apart (λ q other. file_at-removed_other spare q old other))
      (after_rename spare path old) (moved_only spare path old stood) (moved_there spare path old stood)

  pub after_set_aside : (k : ℕ) (spare to : Path) → IsPathOf folders queue k spare → k < own → (suc k < seq) ⊎ HasFile old path → IsNoPathOf folders queue to → HasFile old spare → HasFilesAfter folders queue own dropped before seq path (after_rename spare to old)
  after_set_aside k spare to is_path low behind_it apart stood =
      after_beside folders queue own dropped before seq path (without_file spare old) (after_gone folders queue own dropped before seq path old a k spare is_path low behind_it) to (after_rename spare to old) apart (moved_only spare to old stood)
