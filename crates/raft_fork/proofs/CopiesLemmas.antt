-- Files that are copied one after the other.
use Rattle.std.proofs.Common.{◌≡◌, ◌≢◌, ◌⊎◌, ◌∙◌, ℕ, ◌+◌, ◌<◌, length, get_or, take, drop, List, [], ◌∷◌, ◌++◌, map, Option, None, IsSome, refl, ap, sym, subst, inl, inr, arith, append_assoc}
use Rattle.std.specs.Prelude.{Contains}
use Rattle.std.specs.List.{AllByRecursion}
use Rattle.std.specs.String.{string_bytes}
use Rattle.std.proofs.lemmas.List.{drop_more, map-append, take-append-drop, take_more}
use Rattle.std.proofs.lemmas.List.Elements.{Contains-append_left}
use Rattle.raft_env.specs.Directory.{Directory, HasFile, Path, file_at}
use Rattle.raft_env.specs.Outcomes.{File}
use Rattle.raft_env.specs.Moments.{MovesBy}
use Rattle.raft_env.proofs.MomentsLemmas.{moves_then}
use Rattle.raft_files.specs.Writer.{bytes_at, bytes_of}
use Rattle.raft_pipes.specs.Files.{IsDurable}
use Rattle.raft_opening.specs.Files.{LeavesAllBut}
use Rattle.raft_pipes.specs.Folder.{LeavesOthers}
use Rattle.raft_pipes.specs.Numbered.{AreDistinct}
use Rattle.raft_pipes.proofs.NamesInLemmas.{has_cases, has_later, none_before, stands_in}
use Rattle.raft_pipes.proofs.QueueFilesLemmas.{all_back, all_push}
use Rattle.raft_base.specs.declared.errors.Fault.{Fault}
use Rattle.raft_env.specs.Refusal.{FailsAt, NamesFile, NoFewer, Refusals}
use Rattle.raft_pipes.proofs.FileListLemmas.{refused_later}
use Rattle.raft_fork.specs.Fork.{AreBeingCopied, AreCopied, CanBeCopied, Source, copies_in, copy_in, source_of}
use Rattle.raft_fork.specs.Refused.{IsCopyRefusal}
use Rattle.raft_fork.specs.declared.source.SourceFile.{SourceFile}

-- no copy stands before
among_free : (target : Path) (files : List Source) (n : Directory) → AllByRecursion (λ f. file_at n (copy_in target f) ≡ None) files → (q : Path) → Contains (copies_in target files) q → file_at n q ≡ None
among_free target [] n free q among = absurd (omega (arith, among.1))
among_free target (f ∷ files) n free q among = elim (has_cases (copy_in target f) q (copies_in target files) among) [
  | inl here ↦ ap (file_at n) (sym here) ∙ free.0
  | inr more ↦ among_free target files n free.1 q more
]

-- one more file
module _ (target : Path) (n : Directory) (front : List Source) (f : Source) (rest : List Source) (can : CanBeCopied target (front ++ f ∷ rest) n) where
  free_copies : (q : Path) → Contains (copies_in target (front ++ f ∷ rest)) q → file_at n q ≡ None
  free_copies = among_free target (front ++ f ∷ rest) n can.free

  in_front : (q : Path) → Contains (copies_in target front) q → Contains (copies_in target (front ++ f ∷ rest)) q
  in_front q among = subst (λ paths. Contains paths q) (sym (map-append (copy_in target) front (f ∷ rest))) (Contains-append_left (copies_in target front) (copies_in target (f ∷ rest)) q among)

  copy_among : Contains (copies_in target (front ++ f ∷ rest)) (copy_in target f)
  copy_among = subst (λ paths. Contains paths (copy_in target f)) (sym (map-append (copy_in target) front (f ∷ rest))) (stands_in (copies_in target front) (copy_in target f) (copies_in target rest))

  apart_from_front : Contains (copies_in target front) (copy_in target f) → ⊥
  apart_from_front = none_before (copies_in target front) (copy_in target f) (copies_in target rest) (subst AreDistinct (map-append (copy_in target) front (f ∷ rest)) can.apart)

  source_stood : HasFile n f.1
  source_stood = (all_back (λ g. HasFile n g.1) front (f ∷ rest) can.stand).0

  no_source_among : (files : List Source) → ((q : Path) → Contains (copies_in target files) q → Contains (copies_in target (front ++ f ∷ rest)) q) → Contains (copies_in target files) f.1 → ⊥
  no_source_among files within among = let stood = source_stood in let none = free_copies f.1 (within f.1 among) in (let no : IsSome {T = File} None = subst (λ (o : Option File). IsSome o) none stood in absurd cc)

  module _ (mid : Directory) (others : LeavesAllBut (copies_in target front) n mid) where
    same_source : file_at mid f.1 ≡ file_at n f.1
    same_source = others f.1 (no_source_among front in_front)

    pub source_stands : HasFile mid f.1
    source_stands = subst (λ o. IsSome o) (sym same_source) source_stood

    pub copy_free : file_at mid (copy_in target f) ≡ None
    copy_free = others (copy_in target f) apart_from_front ∙ free_copies (copy_in target f) copy_among

    module _ (after : Directory) (only : LeavesOthers (copy_in target f) mid after) where
      durable_stays : (path : Path) (bytes : List ℕ) → path ≢ copy_in target f → IsDurable path bytes mid → IsDurable path bytes after
      durable_stays path bytes apart durable = record { file = durable.file; stands = only path apart ∙ durable.stands; now = durable.now; synced = durable.synced; unchanged = durable.unchanged }

      earlier : (files : List Source) → ((q : Path) → Contains (copies_in target files) q → Contains (copies_in target front) q) → AreCopied target files n mid → AreCopied target files n after
      earlier [] within copied = tt
      earlier (g ∷ files) within copied = (
        durable_stays (copy_in target g) (bytes_at g.1 n) (λ is. apart_from_front (subst (Contains (copies_in target front)) is (within (copy_in target g) (stands_in [] (copy_in target g) (copies_in target files))))) copied.0,
        earlier files (λ q among. within q (has_later (copy_in target g) q (copies_in target files) among)) copied.1,
      )

      pub copied_next : AreCopied target front n mid → IsDurable (copy_in target f) (bytes_at f.1 mid) after → AreCopied target (front ++ f ∷ []) n after
      copied_next copied durable =
          all_push (λ g. IsDurable (copy_in target g) (bytes_at g.1 n) after) front f (earlier front (λ q among. among) copied)
          (subst (λ bytes. IsDurable (copy_in target f) bytes after) (ap bytes_of same_source) durable)

      pub others_next : LeavesAllBut (copies_in target (front ++ f ∷ [])) n after
      others_next = λ q out.
          let all : copies_in target (front ++ f ∷ []) ≡ copies_in target front ++ copy_in target f ∷ [] = map-append (copy_in target) front (f ∷ []) in
          only q (λ is. out (subst (λ paths. Contains paths q) (sym all) (subst (Contains (copies_in target front ++ copy_in target f ∷ [])) (sym is) (stands_in (copies_in target front) (copy_in target f) []))))
          ∙ others q (λ among. out (subst (λ paths. Contains paths q) (sym all) (Contains-append_left (copies_in target front) (copy_in target f ∷ []) q among)))

      -- while its copy is made
      pub moment_next : AreCopied target front n mid → AreBeingCopied [] target (front ++ f ∷ rest) n after
      moment_next copied = record { done = front; rest = f ∷ rest; is = refl; copied = earlier front (λ q among. among) copied; others = others_next }

-- what has been copied, or is on its way, is some of the files
among_started : (target : Path) (done rest : List Source) (q : Path) → Contains (copies_in target (done ++ take 1 rest)) q → Contains (copies_in target (done ++ rest)) q
among_started target done [] q among = among
among_started target done (f ∷ rest) q among =
    let all : copies_in target (done ++ f ∷ []) ++ copies_in target rest ≡ copies_in target (done ++ f ∷ rest) = sym (map-append (copy_in target) (done ++ f ∷ []) rest) ∙ ap (copies_in target) (append_assoc done (f ∷ []) rest) in
    subst (λ paths. Contains paths q) all (Contains-append_left (copies_in target (done ++ f ∷ [])) (copies_in target rest) q among)

pub others_of : (target : Path) (files : List Source) (old n : Directory) → AreBeingCopied [] target files old n → LeavesAllBut (copies_in target files) old n
others_of target files old n being = λ q out. being.others q (λ among. out (subst (λ fs. Contains (copies_in target fs) q) (sym being.is) (among_started target being.done being.rest q among)))

-- before all copies
pub none_being_copied : (target : Path) (files : List Source) (n : Directory) → AreBeingCopied [] target files n n
none_being_copied target files n = record { done = []; rest = files; is = refl; copied = tt; others = λ q out. refl }

-- the file at a place of a list
module _ (files : List SourceFile) (i : ℕ) (item : SourceFile) (within : i < length files) (is : item ≡ get_or files i item) where
  pub parts : map source_of files ≡ map source_of (take i files) ++ source_of item ∷ map source_of (drop (i + 1) files)
  parts =
      ap (map source_of) (sym (take-append-drop i files) ∙ ap (λ xs. take i files ++ xs) (drop_more files i item within ∙ ap (λ x. x ∷ drop (i + 1) files) (sym is)))
      ∙ map-append source_of (take i files) (item ∷ drop (i + 1) files)

  pub next_part : map source_of (take (i + 1) files) ≡ map source_of (take i files) ++ source_of item ∷ []
  next_part = ap (map source_of) (take_more files i item within ∙ ap (λ x. take i files ++ x ∷ []) (sym is)) ∙ map-append source_of (take i files) (item ∷ [])

-- a refused copy
module _ (target : Path) (front : List Source) (f : Source) (rest : List Source) (all : List Source) (is : all ≡ front ++ f ∷ rest) (old mid new : Refusals) (before : NoFewer old mid) where
  at_copy : (e : Fault) → FailsAt (NamesFile (copy_in target f)) mid new e → IsCopyRefusal target all old new e
  at_copy e refused = subst (λ fs. IsCopyRefusal target fs old new e) (sym is) (inr (
    copy_in target f,
    inl (subst (λ paths. Contains paths (copy_in target f)) (sym (map-append (copy_in target) front (f ∷ rest))) (stands_in (copies_in target front) (copy_in target f) (copies_in target rest))),
    refused_later (copy_in target f) old mid new e before refused,
  ))

  at_source : (e : Fault) → FailsAt (NamesFile f.1) mid new e → IsCopyRefusal target all old new e
  at_source e refused = subst (λ fs. IsCopyRefusal target fs old new e) (sym is) (inr (
    f.1,
    inr (subst (λ paths. Contains paths f.1) (sym (map-append (λ (g : Source). g.1) front (f ∷ rest))) (stands_in (map (λ (g : Source). g.1) front) f.1 (map (λ (g : Source). g.1) rest))),
    refused_later f.1 old mid new e before refused,
  ))

  pub copy_refused : (e : Fault) (to from : Path) → to ≡ copy_in target f → from ≡ f.1 → (FailsAt (NamesFile to) mid new e ⊎ FailsAt (NamesFile from) mid new e) → IsCopyRefusal target all old new e
  copy_refused e to from to_is from_is (inl refused) = at_copy e (subst (λ p. FailsAt (NamesFile p) mid new e) to_is refused)
  copy_refused e to from to_is from_is (inr refused) = at_source e (subst (λ p. FailsAt (NamesFile p) mid new e) from_is refused)

-- the next file to copy is this one, at its place among them, and those before it are copied
pub record IsNextCopy (target : Path) (files : List SourceFile) (i : ℕ) (item : SourceFile) (n mid : Directory) : Type 0 where
  pub within : i < length files
  pub place : item ≡ get_or files i item
  pub can : CanBeCopied target (map source_of (take i files) ++ source_of item ∷ map source_of (drop (i + 1) files)) n
  pub copied : AreCopied target (map source_of (take i files)) n mid
  pub others : LeavesAllBut (copies_in target (map source_of (take i files))) n mid

pub next_copy : (target : Path) (files : List SourceFile) (i : ℕ) (item : SourceFile) (n mid : Directory) → i < length files → item ≡ get_or files i item → CanBeCopied target (map source_of files) n → AreCopied target (map source_of (take i files)) n mid → LeavesAllBut (copies_in target (map source_of (take i files))) n mid → IsNextCopy target files i item n mid
next_copy target files i item n mid within place can copied others = record { within = within; place = place; can = subst (λ fs. CanBeCopied target fs n) (parts files i item within place) can; copied = copied; others = others }

module _ (target : Path) (files : List SourceFile) (i : ℕ) (item : SourceFile) (n mid : Directory) (next : IsNextCopy target files i item n mid) where
  pub next_stands : HasFile mid (string_bytes item.path)
  next_stands = source_stands target n (map source_of (take i files)) (source_of item) (map source_of (drop (i + 1) files)) next.can mid next.others

  pub next_free : file_at mid (copy_in target (source_of item)) ≡ None
  next_free = copy_free target n (map source_of (take i files)) (source_of item) (map source_of (drop (i + 1) files)) next.can mid next.others

  pub next_refused : (old between new : Refusals) → NoFewer old between → (e : Fault) (to from : Path) → to ≡ copy_in target (source_of item) → from ≡ string_bytes item.path → (FailsAt (NamesFile to) between new e ⊎ FailsAt (NamesFile from) between new e) → IsCopyRefusal target (map source_of files) old new e
  next_refused = copy_refused target (map source_of (take i files)) (source_of item) (map source_of (drop (i + 1) files)) (map source_of files) (parts files i item next.within next.place)

  -- its copy is made
  pub next_copied : (after : Directory) → LeavesOthers (copy_in target (source_of item)) mid after → IsDurable (copy_in target (source_of item)) (bytes_at (string_bytes item.path) mid) after → AreCopied target (map source_of (take (i + 1) files)) n after
  next_copied after only durable =
      subst (λ fs. AreCopied target fs n after) (sym (next_part files i item next.within next.place))
      (copied_next target n (map source_of (take i files)) (source_of item) (map source_of (drop (i + 1) files)) next.can mid next.others after only next.copied durable)

  pub next_others : (after : Directory) → LeavesOthers (copy_in target (source_of item)) mid after → LeavesAllBut (copies_in target (map source_of (take (i + 1) files))) n after
  next_others after only =
      subst (λ fs. LeavesAllBut (copies_in target fs) n after) (sym (next_part files i item next.within next.place))
      (others_next target n (map source_of (take i files)) (source_of item) (map source_of (drop (i + 1) files)) next.can mid next.others after only)

  next_moment : (m : Directory) → LeavesOthers (copy_in target (source_of item)) mid m → AreBeingCopied [] target (map source_of files) n m
  next_moment m only =
      subst (λ fs. AreBeingCopied [] target fs n m) (sym (parts files i item next.within next.place))
      (moment_next target n (map source_of (take i files)) (source_of item) (map source_of (drop (i + 1) files)) next.can mid next.others m only next.copied)

-- .. by calls on a file system
pub copy_moves : {F : Type 0} {directory : F → Directory} {moments : F → List Directory} {refusals_of : F → Refusals} (target : Path) (files : List SourceFile) (i : ℕ) (item : SourceFile) (path : Path) {old mid new : F} → IsNextCopy target files i item (directory old) (directory mid) → path ≡ copy_in target (source_of item)
    → MovesBy directory moments refusals_of (AreBeingCopied [] target (map source_of files)) old mid → MovesBy directory moments refusals_of (LeavesOthers path) mid new → MovesBy directory moments refusals_of (AreBeingCopied [] target (map source_of files)) old new
copy_moves {directory = directory} target files i item path {old} {mid} next path_is earlier later =
    moves_then earlier (λ m only. next_moment target files i item (directory old) (directory mid) next m (subst (λ p. LeavesOthers p (directory mid) m) path_is only)) later
