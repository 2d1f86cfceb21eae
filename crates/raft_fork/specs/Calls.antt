-- What the calls do of which a fork is made.
use Rattle.std.specs.Prelude.{◌≡◌, IfErr, IfOk, List, OnOk, Result}
use Rattle.raft_base.specs.declared.errors.Fault.{Fault}
use Rattle.raft_env.specs.Directory.{Directory, Path}
use Rattle.raft_env.specs.Moments.{MovesBy, OnlyReads}
use Rattle.raft_env.specs.Refusal.{Refusals}
use Rattle.raft_pipes.specs.Folder.{LeavesOthers}
use Rattle.raft_fork.specs.Refused.{IsSourceRefusal}

-- for files with this directory, these moments inside calls, and these counts of failed calls
module _ {F : Type 0} (directory : F → Directory) (moments : F → List Directory)
    (refusals_of : F → Refusals) where
  -- the files of these folders are found: nothing is changed
  pub record FindsSources {T : Type 0} (result : Result T Fault) (there : List Path)
      (IsFound : List Path → Directory → T → Type 0) (AreAlone : List Path → Directory → Type 0)
      (old new : F) : Type 0 where
    pub value : IfOk result (IsFound there (directory old))
    pub single : OnOk result (AreAlone there (directory old))
    pub unchanged : OnlyReads directory moments refusals_of old new
    pub cause : IfErr result (IsSourceRefusal there (directory old) (refusals_of old)
        (refusals_of new))

  -- the file at the path is changed as IsDone says; other files and the folders are unchanged
  pub record WritesOnly {T : Type 0} (path : Path) (IsDone : Directory → Directory → Type 0)
      (result : Result T Fault) (old new : F) : Type 0 where
    pub ok : OnOk result (IsDone (directory old) (directory new))
    pub folders : OnOk result ((directory new).is_folder ≡ (directory old).is_folder)
    pub any_moment : MovesBy directory moments refusals_of (LeavesOthers path) old new
