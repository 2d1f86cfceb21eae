-- A fork, by its parts.
use Rattle.std.proofs.Common.{◌≡◌, ◌⊎◌, ◌∙◌, List, [], ◌∷◌, None, Option, IsSome, ap, sym, subst, inl, inr}
use Rattle.std.specs.Prelude.{Contains}
use Rattle.raft_base.specs.declared.pipe_log.LogQueue.{LogQueue}
use Rattle.raft_env.specs.Directory.{Directory, HasFile, Path, file_at}
use Rattle.raft_env.specs.Moments.{MovesBy, OnlyReads}
use Rattle.raft_env.specs.Outcomes.{File}
use Rattle.raft_env.specs.Refusal.{Refusals}
use Rattle.raft_env.proofs.MomentsLemmas.{moves_after_reads, moves_then, moves_weaker}
use Rattle.raft_files.specs.Writer.{bytes_of}
use Rattle.raft_config.specs.Folders.{Folders}
use Rattle.raft_pipes.specs.Files.{IsDurable}
use Rattle.raft_pipes.specs.Folder.{HasMadeFolder}
use Rattle.raft_opening.specs.Files.{LeavesAllBut}
use Rattle.raft_pipes.specs.Queue.{LeavesAll}
use Rattle.raft_pipes.specs.Numbered.{AreSingle}
use Rattle.raft_fork.specs.Fork.{AreAllCopied, AreBeingMarked, AreCopied, CanBeCopied, HasNoLogIn, IsForkOf, IsForking, IsFree, IsMarkedCopying, Source, all_sources_in, copies_in, copy_in, mark_in, sources_of, standing}
use Rattle.raft_fork.proofs.FoldersLemmas.{folder_then}
use Rattle.raft_fork.proofs.PlacesLemmas.{can_be_copied, single_same, sources_same}

module _ (folders : Folders) (target : Path) (old mid : Directory) (same : LeavesAll old mid) (there : List Path) (stand : there ≡ standing folders old) (files : List Source) (are : files ≡ all_sources_in there mid) where
  files_before : files ≡ sources_of folders old
  files_before = are ∙ sources_same there old mid same ∙ ap (λ t. all_sources_in t old) stand

  still_free : IsFree target old → HasNoLogIn target mid
  still_free free = λ path log. same path ∙ free.logs path log

  pub still_unmarked : IsFree target old → file_at mid (mark_in target) ≡ None
  still_unmarked free = same (mark_in target) ∙ free.unmarked

  pub ready : IsFree target old → ((queue : LogQueue) → AreSingle there queue mid) → CanBeCopied target files mid
  ready free single = subst (λ fs. CanBeCopied target fs mid) (sym are) (can_be_copied target there mid (still_free free) single)

  copied_from : (n : Directory) (fs : List Source) → AreCopied target fs mid n → AreCopied target fs old n
  copied_from n [] copied = tt
  copied_from n (f ∷ fs) copied = (subst (λ bytes. IsDurable (copy_in target f) bytes n) (ap bytes_of (same f.1)) copied.0, copied_from n fs copied.1)

  others_before : (n : Directory) → LeavesAllBut (copies_in target files) mid n → LeavesAllBut (copies_in target (sources_of folders old)) old n
  others_before n others = λ q out. others q (λ among. out (subst (λ fs. Contains (copies_in target fs) q) files_before among)) ∙ same q

  single_before : ((queue : LogQueue) → AreSingle there queue mid) → (queue : LogQueue) → AreSingle (standing folders old) queue old
  single_before single queue = subst (λ t. AreSingle t queue old) stand (single_same there queue old mid same (single queue))

  pub is_fork : (n : Directory) → IsFree target old → HasMadeFolder target old mid → n.is_folder ≡ mid.is_folder → ((queue : LogQueue) → AreSingle there queue mid) → AreCopied target files mid n → LeavesAllBut (copies_in target files) mid n → IsForkOf folders target old n
  is_fork n free made kept single copied others = record {
    free = free;
    single = single_before single;
    copied = subst (λ fs. AreCopied target fs old n) files_before (copied_from n files copied);
    others = others_before n others;
    folder = folder_then target old mid n made kept;
  }

  pub copies_before : copies_in target files ≡ copies_in target (sources_of folders old)
  copies_before = ap (copies_in target) files_before

  marked_before : (n : Directory) → AreBeingMarked target files mid n → AreBeingMarked target (sources_of folders old) old n
  marked_before n being = record {
    marked = being.marked;
    copies = record {
      done = being.copies.done;
      rest = being.copies.rest;
      is = sym files_before ∙ being.copies.is;
      copied = copied_from n being.copies.done being.copies.copied;
      others = λ q out. being.copies.others q out ∙ same q;
    };
  }

  pub forking_moment : IsFree target old → HasMadeFolder target old mid → ((queue : LogQueue) → AreSingle there queue mid) → (n : Directory) → IsMarkedCopying target files mid n → IsForking folders target old n
  forking_moment free made single n (inl all) = inl (λ q. all q ∙ same q)
  forking_moment free made single n (inr (inl being)) = inr (inl (record { free = free; single = single_before single; files = marked_before n being }))
  forking_moment free made single n (inr (inr all)) = inr (inr (is_fork n free made all.folders single all.copied all.others))

-- what was found of a fork's folders once the target was made
pub record HasFound (folders : Folders) (target : Path) (there : List Path) (files : List Source) (old mid : Directory) : Type 0 where
  pub others : LeavesAll old mid
  pub free : IsFree target old
  pub made : HasMadeFolder target old mid
  pub stand : there ≡ standing folders old
  pub are : files ≡ all_sources_in there mid
  pub single : (queue : LogQueue) → AreSingle there queue mid

-- calls that make the target, look for the files and copy them
pub forking_moves : {F : Type 0} {directory : F → Directory} {moments : F → List Directory} {refusals_of : F → Refusals} (folders : Folders) (target : Path) (there : List Path) (files given : List Source) {old mid found new : F} → HasFound folders target there files (directory old) (directory mid) → given ≡ files
    → MovesBy directory moments refusals_of LeavesAll old mid → OnlyReads directory moments refusals_of mid found → MovesBy directory moments refusals_of (IsMarkedCopying target given) found new → MovesBy directory moments refusals_of (IsForking folders target) old new
forking_moves {directory = directory} {moments} {refusals_of} folders target there files given {old} {mid} {found} {new} has given_is made finding copying =
    moves_then (moves_weaker (λ n all. inl all) made) (forking_moment folders target (directory old) (directory mid) has.others there has.stand files has.are has.free has.made has.single)
    (moves_after_reads finding (subst (λ fs. MovesBy directory moments refusals_of (IsMarkedCopying target fs) found new) given_is copying))

-- a moment of a fork into a free target
pub is_marked : (source : Folders) (target : Path) (n m : Directory) → IsFree target n → IsForking source target n m → HasNoLogIn target m ⊎ HasFile m (mark_in target) ⊎ IsForkOf source target n m
is_marked source target n m free (inl all) = inl (λ path log. all path ∙ free.logs path log)
is_marked source target n m free (inr (inl part)) = inr (inl part.files.marked)
is_marked source target n m free (inr (inr whole)) = inr (inr whole)
