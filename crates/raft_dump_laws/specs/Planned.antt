-- What is planned of the files of a queue, and what an opening does with them.
use Rattle.std.specs.Prelude.{◌≡◌, ℕ, true, List}
use Rattle.std.specs.List.{AllZip}
use Rattle.raft_base.specs.declared.pipe_log.FileId.{FileId}
use Rattle.raft_base.specs.declared.pipe_log.LogQueue.{LogQueue}
use Rattle.raft_env.specs.Directory.{Path}
use Rattle.raft_files.specs.Scan.{end_of_scan, is_read_to_end}
use Rattle.raft_pipes.specs.Numbered.{in_queue}
use Rattle.raft_dump.specs.Check.{IsCheckOf}
use Rattle.raft_dump.specs.declared.check.FileCheck.{FileCheck}
use Rattle.raft_dump.specs.declared.plan.Planned.{Planned}
use Rattle.raft_dump.specs.declared.plan.Planned.TheVariants.{Keep, Cut, Fail}

-- these checks say what can be read of each of these files of a queue
abbrev pub AreChecksIn : LogQueue → (Path → List ℕ) → List (ℕ × Path) → List FileCheck → Type 0
AreChecksIn queue bytes files checks =
    AllZip (λ f c. IsCheckOf (in_queue queue f.0) (bytes f.1) c) files checks

-- an opening that succeeds reads of these bytes what is planned: all, or those before the cut
abbrev pub IsReadAs : FileId → List ℕ → Planned → Type 0
IsReadAs id bytes Keep = is_read_to_end id bytes ≡ true
IsReadAs id bytes (Cut end) = end ≡ end_of_scan id bytes
IsReadAs id bytes Fail = ⊥

-- IsReadAs for each of these files of a queue
abbrev pub AreReadAs : LogQueue → (Path → List ℕ) → List (ℕ × Path) → List Planned → Type 0
AreReadAs queue bytes files plan =
    AllZip (λ f p. IsReadAs (in_queue queue f.0) (bytes f.1) p) files plan
