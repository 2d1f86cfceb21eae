-- The mark of a fork that hasn't ended.
use Rattle.std.proofs.Common.{◌≡◌, ◌≢◌, ◌⊎◌, ◌∙◌, ℕ, suc, ◌+◌, ◌-◌, ◌<◌, ◌≤◌, Bool, true, false, cond, List, [], ◌∷◌, ◌++◌, length, map, take, replicate, Option, Some, None, is_some, IsSome, refl, ap, sym, subst, inl, inr, arith}
use Rattle.std.specs.Prelude.{Contains}
use Rattle.std.specs.Fmt.{decimal}
use Rattle.std.specs.List.{AllByRecursion}
use Rattle.std.proofs.lemmas.List.{length-append, length-replicate}
use Rattle.raft_base.specs.declared.pipe_log.FileId.{FileId}
use Rattle.raft_env.specs.Directory.{Directory, HasFile, IsOneOf, Path, after_create, file_at, path_in, with_file, without_file}
use Rattle.raft_env.specs.Moments.{MovesBy}
use Rattle.raft_env.specs.Outcomes.{File, synced_file}
use Rattle.raft_env.specs.Refusal.{FailsAt, NamesFile, NoFewer, Refusals}
use Rattle.raft_env.proofs.DirectoryLemmas.{file_at-removed_other, file_at-removed_same}
use Rattle.raft_env.proofs.MomentsLemmas.{moves_then, moves_weaker}
use Rattle.raft_base.specs.declared.errors.Fault.{Fault}
use Rattle.raft_files.specs.Name.{file_name, padded_number, suffix_of}
use Rattle.raft_files.specs.Writer.{bytes_at, bytes_of}
use Rattle.raft_opening.proofs.FileCallsLemmas.{created_empty}
use Rattle.raft_opening.specs.Files.{LeavesAllBut}
use Rattle.raft_pipes.specs.Files.{IsDurable}
use Rattle.raft_pipes.specs.Folder.{LeavesOthers}
use Rattle.raft_pipes.specs.Numbered.{path_of}
use Rattle.raft_pipes.specs.Queue.{LeavesAll}
use Rattle.raft_pipes.proofs.FileListLemmas.{refused_later}
use Rattle.raft_pipes.proofs.FolderLemmas.{others_created}
use Rattle.raft_pipes.proofs.NamesInLemmas.{has_cases, has_later}
use Rattle.raft_pipes.proofs.PlacesLemmas.{here_first, path_cases}
use Rattle.raft_pipes.proofs.QueueFilesLemmas.{all_front}
use Rattle.raft_fork.specs.Fork.{AreAllCopied, AreBeingCopied, AreBeingMarked, AreCopied, CanBeCopied, IsMarkedCopying, Source, copies_in, copy_in, mark_in}
use Rattle.raft_fork.specs.declared.marking.TheConstants.{FORK_MARK}
use Rattle.raft_fork.specs.Refused.{IsCopyRefusal, IsMarkedRefusal}
use Rattle.raft_fork.proofs.CopiesLemmas.{none_being_copied}

-- Its path is that of no copy.

name_long : (id : FileId) → 16 ≤ length (file_name id)
name_long id = omega (
  arith,
  length-append (padded_number id.seq) (suffix_of id.queue),
  length-append (replicate (16 - length (decimal id.seq)) 48) (decimal id.seq),
  length-replicate {A = ℕ} (16 - length (decimal id.seq)) 48,
)

pub mark_apart : (target : Path) (id : FileId) → path_of target id ≡ mark_in target → ⊥
mark_apart [] id is =
    let same : length (file_name id) ≡ 7 = ap length is in
    absurd (omega (arith, name_long id, same))
mark_apart (c ∷ target) id is =
    let long : length ((c ∷ target) ++ 47 ∷ file_name id) ≡ length (c ∷ target) + suc (length (file_name id)) = length-append (c ∷ target) (47 ∷ file_name id) in
    let short : length ((c ∷ target) ++ 47 ∷ FORK_MARK.now) ≡ length (c ∷ target) + 8 = length-append (c ∷ target) (47 ∷ FORK_MARK.now) in
    let same : length ((c ∷ target) ++ 47 ∷ file_name id) ≡ length ((c ∷ target) ++ 47 ∷ FORK_MARK.now) = ap length is in
    absurd (omega (arith, name_long id, long, short, same))

mark_beside : (target : Path) (files : List Source) → Contains (copies_in target files) (mark_in target) → ⊥
mark_beside target [] among = absurd (omega (arith, among.1))
mark_beside target (f ∷ files) among = elim (has_cases (copy_in target f) (mark_in target) (copies_in target files) among) [
  | inl is ↦ mark_apart target f.0 is
  | inr more ↦ mark_beside target files more
]

-- Copying under the mark.

module _ (target : Path) (files : List Source) (old mid : Directory) (can : CanBeCopied target files old) (free : file_at old (mark_in target) ≡ None) (made : mid ≡ after_create (mark_in target) old) where
  mark_stands : HasFile mid (mark_in target)
  mark_stands = (created_empty (mark_in target) old mid free made).0

  mark_others : LeavesOthers (mark_in target) old mid
  mark_others = others_created (mark_in target) old mid (inr made)

  no_mark : (path : Path) → HasFile old path → path ≢ mark_in target
  no_mark path stands is = let no : IsSome {T = File} None = subst (λ (o : Option File). IsSome o) (ap (file_at old) is ∙ free) stands in absurd cc

  stand_on : (fs : List Source) → AllByRecursion (λ f. HasFile old f.1) fs → AllByRecursion (λ f. HasFile mid f.1) fs
  stand_on [] stand = tt
  stand_on (f ∷ fs) stand = (subst (λ (o : Option File). IsSome o) (sym (mark_others f.1 (no_mark f.1 stand.0))) stand.0, stand_on fs stand.1)

  free_on : (fs : List Source) → AllByRecursion (λ f. file_at old (copy_in target f) ≡ None) fs → AllByRecursion (λ f. file_at mid (copy_in target f) ≡ None) fs
  free_on [] none = tt
  free_on (f ∷ fs) none = (mark_others (copy_in target f) (mark_apart target f.0) ∙ none.0, free_on fs none.1)

  pub can_marked : CanBeCopied target files mid
  can_marked = record { stand = stand_on files can.stand; free = free_on files can.free; apart = can.apart }

  -- the copies are those of the files before the mark
  copied_back : (n : Directory) (fs : List Source) → AllByRecursion (λ f. HasFile old f.1) fs → AreCopied target fs mid n → AreCopied target fs old n
  copied_back n [] stand copied = tt
  copied_back n (f ∷ fs) stand copied = (
    subst (λ bytes. IsDurable (copy_in target f) bytes n) (ap bytes_of (mark_others f.1 (no_mark f.1 stand.0))) copied.0,
    copied_back n fs stand.1 copied.1,
  )

  being_marked : (n : Directory) → AreBeingCopied [] target files mid n → AreBeingMarked target files old n
  being_marked n being =
      let copies = copies_in target (being.done ++ take 1 being.rest) in
      record {
        marked = subst (λ (o : Option File). IsSome o) (sym (being.others (mark_in target) (mark_beside target (being.done ++ take 1 being.rest)))) mark_stands;
        copies = record {
          done = being.done;
          rest = being.rest;
          is = being.is;
          copied = copied_back n being.done (all_front (λ f. HasFile old f.1) being.done being.rest (subst (AllByRecursion (λ f. HasFile old f.1)) being.is can.stand)) being.copied;
          others = λ q out. being.others q (λ among. out (has_later (mark_in target) q copies among)) ∙ mark_others q (λ is. out (subst (Contains (mark_in target ∷ copies)) (sym is) (here_first (mark_in target) copies)));
        };
      }

  made_moment : (n : Directory) → IsOneOf old (after_create (mark_in target) old) n → IsMarkedCopying target files old n
  made_moment n (inl same) = inl (λ q. ap (λ (m : Directory). file_at m q) same)
  made_moment n (inr is) = inr (inl (being_marked n (subst (AreBeingCopied [] target files mid) (made ∙ sym is) (none_being_copied target files mid))))

  -- the mark is removed
  module _ (after new : Directory) (copied : AreCopied target files mid after) (others : LeavesAllBut (copies_in target files) mid after) (folders : after.is_folder ≡ mid.is_folder) (gone : new ≡ without_file (mark_in target) after) where
    gone_others : LeavesOthers (mark_in target) after new
    gone_others q other = ap (λ (m : Directory). file_at m q) gone ∙ file_at-removed_other (mark_in target) q after other

    copied_still : (fs : List Source) → AreCopied target fs mid after → AreCopied target fs mid new
    copied_still [] all = tt
    copied_still (f ∷ fs) all = (
      record { file = all.0.file; stands = gone_others (copy_in target f) (mark_apart target f.0) ∙ all.0.stands; now = all.0.now; synced = all.0.synced; unchanged = all.0.unchanged },
      copied_still fs all.1,
    )

    made_folders : (found : Bool) → (cond found old (with_file (mark_in target) (synced_file []) old)).is_folder ≡ old.is_folder
    made_folders true = refl
    made_folders false = refl

    pub all_copied : AreAllCopied target files old new
    all_copied = record {
      copied = copied_back new files can.stand (copied_still files copied);
      others = λ q out. elim (path_cases q (mark_in target)) [
        | inl is ↦ ap (file_at new) is ∙ ap (λ (m : Directory). file_at m (mark_in target)) gone ∙ file_at-removed_same (mark_in target) after ∙ sym free ∙ ap (file_at old) (sym is)
        | inr other ↦ gone_others q other ∙ others q out ∙ mark_others q other
      ];
      folders = ap (λ (m : Directory). m.is_folder) gone ∙ folders ∙ ap (λ (m : Directory). m.is_folder) made ∙ made_folders (is_some (file_at old (mark_in target)));
    }

  whole_moment : (after : Directory) → AreBeingCopied [] target files mid after → AreCopied target files mid after → LeavesAllBut (copies_in target files) mid after → after.is_folder ≡ mid.is_folder → (n : Directory) → IsOneOf after (without_file (mark_in target) after) n → IsMarkedCopying target files old n
  whole_moment after being copied others folders n (inl same) = inr (inl (being_marked n (subst (AreBeingCopied [] target files mid) (sym same) being)))
  whole_moment after being copied others folders n (inr gone) = inr (inr (all_copied after n copied others folders gone))

-- .. by calls on a file system
module _ {F : Type 0} {directory : F → Directory} {moments : F → List Directory} {refusals_of : F → Refusals} (target : Path) (files : List Source) {old mid : F} (can : CanBeCopied target files (directory old)) (free : file_at (directory old) (mark_in target) ≡ None) where
  pub making_moves : MovesBy directory moments refusals_of (λ n. IsOneOf n (after_create (mark_in target) n)) old mid → MovesBy directory moments refusals_of (IsMarkedCopying target files) old mid
  making_moves moves = moves_weaker (made_moment target files (directory old) (after_create (mark_in target) (directory old)) can free refl) moves

  module _ (made : directory mid ≡ after_create (mark_in target) (directory old)) {after : F} (making : MovesBy directory moments refusals_of (λ n. IsOneOf n (after_create (mark_in target) n)) old mid) (copying : MovesBy directory moments refusals_of (AreBeingCopied [] target files) mid after) where
    pub copying_moves : MovesBy directory moments refusals_of (IsMarkedCopying target files) old after
    copying_moves = moves_then (making_moves making) (λ n being. inr (inl (being_marked target files (directory old) (directory mid) can free made n being))) copying

    pub removing_moves : {new : F} → AreCopied target files (directory mid) (directory after) → LeavesAllBut (copies_in target files) (directory mid) (directory after) → (directory after).is_folder ≡ (directory mid).is_folder
        → MovesBy directory moments refusals_of (λ n. IsOneOf n (without_file (mark_in target) n)) after new → MovesBy directory moments refusals_of (IsMarkedCopying target files) old new
    removing_moves copied others folders removing =
        moves_then copying_moves (whole_moment target files (directory old) (directory mid) can free made (directory after) copying.throughout.here copied others folders) removing

-- Refusals.

pub mark_refused : (target : Path) (files : List Source) (old mid new : Refusals) (e : Fault) (path : Path) → path ≡ mark_in target → NoFewer old mid → FailsAt (NamesFile path) mid new e → IsMarkedRefusal target files old new e
mark_refused target files old mid new e path is before refused = inl (subst (λ p. FailsAt (NamesFile p) old new e) is (refused_later path old mid new e before refused))

pub copy_later : (target : Path) (files : List Source) (old mid new : Refusals) (e : Fault) → NoFewer old mid → IsCopyRefusal target files mid new e → IsMarkedRefusal target files old new e
copy_later target files old mid new e before (inl memory) = inr (inl memory)
copy_later target files old mid new e before (inr refused) = inr (inr (refused.0, refused.1, refused_later refused.0 old mid new e before refused.2))
