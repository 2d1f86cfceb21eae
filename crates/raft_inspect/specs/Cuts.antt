-- What an opening cuts off log files.
use Rattle.std.specs.Prelude.{◌≡◌, ℕ, ◌-◌, ◌==◌, Bool, true, false, List, [], ◌∷◌, length, Option, Some, None, if◌then◌else◌}
use Rattle.std.specs.List.{cons_option}
use Rattle.std.specs.Option.{option_map}
use Rattle.std.specs.String.{string_bytes}
use Rattle.raft_base.specs.declared.pipe_log.FileId.{FileId}
use Rattle.raft_base.specs.declared.pipe_log.Version.{Version}
use Rattle.raft_env.specs.Directory.{Path}
use Rattle.raft_config.specs.Recovery.{tolerates_corruption}
use Rattle.raft_config.specs.declared.config.RecoveryMode.{RecoveryMode}
use Rattle.raft_dump.specs.Check.{planned_stop}
use Rattle.raft_dump.specs.declared.check.FileCheck.{FileCheck}
use Rattle.raft_dump.specs.declared.files.LogFile.{LogFile}
use Rattle.raft_dump.specs.declared.plan.Planned.{Planned}
use Rattle.raft_dump.specs.declared.plan.Planned.TheVariants.{Cut, Fail, Keep}
use Rattle.raft_inspect.specs.Behind.{HoldsRecord, IsLongSearch, IsNoneIn}
use Rattle.raft_inspect.specs.declared.cuts.Cut.{Cut as TheCut}
use Rattle.raft_inspect.specs.declared.cuts.Unexplained.{Unexplained}
use Rattle.raft_inspect.specs.declared.cuts.Unexplained.TheVariants.{Earlier, Records, Unsearched}

-- bytes of a log file that an opening cuts off
pub record CutPlace : Type 0 where
  pub id : FileId
  pub path : Path
  -- where they begin, and how many there are
  pub offset : ℕ
  pub len : ℕ
  -- a record of an earlier file is in them
  pub stale : Bool
  -- the file is the last one of its queue
  pub is_last : Bool
  -- the version of the file's records, if its header has one
  pub version : Option Version

-- the bytes that a reported cut names
abbrev pub place_of : TheCut → CutPlace
place_of c = record {
  id = c.id;
  path = string_bytes c.path;
  offset = c.offset;
  len = c.len;
  stale = c.stale;
  is_last = c.is_last;
  version = c.version;
}

-- the bytes after what can be read of a file
abbrev pub place_in : Bool → LogFile → FileCheck → CutPlace
place_in is_last f c = record {
  id = f.id;
  path = string_bytes f.path;
  offset = c.end;
  len = c.len - c.end;
  stale = c.stale;
  is_last = is_last;
  version = option_map (λ format. format.version) c.format;
}

-- the reported cut names the bytes after what can be read of this file
abbrev pub IsToldOf : Bool → LogFile → FileCheck → TheCut → Type 0
IsToldOf is_last f c told = place_of told ≡ place_in is_last f c

-- the bytes that this plan cuts off a file: none if they are zeros, which hold nothing
abbrev pub cut_as : Planned → Bool → LogFile → FileCheck → Option CutPlace
cut_as (Cut _) is_last f c = if c.zeros then None else Some (place_in is_last f c)
cut_as Keep is_last f c = None
cut_as Fail is_last f c = None

-- the cuts in files of a queue, by what can be read of each; the last file is the queue's last one
abbrev pub cuts_in : RecoveryMode → List LogFile → List FileCheck → List CutPlace
cuts_in mode files [] = []
cuts_in mode [] (c ∷ checks) = []
cuts_in mode (f ∷ files) (c ∷ checks) =
    let is_last = length checks == 0 in
    cons_option (cut_as (planned_stop (tolerates_corruption mode is_last) c.end c.stop) is_last f c)
    (cuts_in mode files checks)

-- why an unsynced tail can't explain these bytes; `None`: no whole record is in them
abbrev pub IsToldWhy : TheCut → List ℕ → Option Unexplained → Type 0
IsToldWhy c bytes (Some Earlier) = c.is_last ≡ false
IsToldWhy c bytes (Some Records) = (c.is_last ≡ true) × HoldsRecord c.id.seq c.version bytes
IsToldWhy c bytes (Some Unsearched) = (c.is_last ≡ true) × IsLongSearch bytes
IsToldWhy c bytes None = (c.is_last ≡ true) × IsNoneIn c.id.seq c.version bytes (length bytes)
