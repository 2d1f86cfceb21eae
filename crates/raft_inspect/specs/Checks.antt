-- What can be read of the log files of a queue, and why a reading fails.
use Rattle.std.specs.Prelude.{IfErr, IfOk, List, [], ◌∷◌, Result, ⊤}
use Rattle.std.specs.String.{string_bytes}
use Rattle.raft_base.specs.declared.errors.Fault.{Fault}
use Rattle.raft_base.specs.declared.errors.Fault.TheVariants as fault
use Rattle.raft_env.specs.Directory.{Directory}
use Rattle.raft_env.specs.Moments.{OnlyReads}
use Rattle.raft_env.specs.Refusal.{Refusals, RoseBy}
use Rattle.raft_files.specs.Writer.{bytes_at}
use Rattle.raft_dump.specs.Check.{IsCheckOf}
use Rattle.raft_dump.specs.declared.check.FileCheck.{FileCheck}
use Rattle.raft_dump.specs.declared.files.LogFile.{LogFile}

-- each check says what can be read of the file at its place in the list
abbrev pub AreChecksOf : Directory → List LogFile → List FileCheck → Type 0
AreChecksOf n [] [] = ⊤
AreChecksOf n [] (_ ∷ _) = ⊥
AreChecksOf n (_ ∷ _) [] = ⊥
AreChecksOf n (f ∷ files) (c ∷ checks) =
    IsCheckOf f.id (bytes_at (string_bytes f.path) n) c × AreChecksOf n files checks

-- storage counted a failed call, or memory ran out
abbrev pub IsReadFault : Refusals → Refusals → Fault → Type 0
IsReadFault before after (fault.Io kind path) = RoseBy 1 before after
IsReadFault before after fault.Memory = ⊤
IsReadFault before after _ = ⊥

-- for files with this directory, these moments inside calls, and these counts of failed calls
module _ {F : Type 0} (directory : F → Directory) (moments : F → List Directory)
    (refusals_of : F → Refusals) where
  -- a call only reads; it returns what IsFound says, or fails for a counted refusal or for memory
  pub record Finds {T : Type 0} (result : Result T Fault) (IsFound : T → Type 0) (old new : F)
      : Type 0 where
    pub value : IfOk result IsFound
    pub unchanged : OnlyReads directory moments refusals_of old new
    pub cause : IfErr result (IsReadFault (refusals_of old) (refusals_of new))
