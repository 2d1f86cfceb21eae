-- Counts that the readers of several parts give back.
use Rattle.std.proofs.Common.{List, [], ◌∷◌, ◌++◌}
use Rattle.std.specs.List.{AllByRecursion}
use Rattle.raft_env.specs.Refusal.{NoFewer, Refusals, added_count, no_refusals}
use Rattle.raft_opening.specs.OpenedLogs.{OpenedLogState, counted}
use Rattle.raft_opening.proofs.OpenedLogsLemmas.{LogRoseBy, rose_before, rose_then}

-- those before, once more are given back
pub rose_still : (old mid new : Refusals) (logs : List OpenedLogState) → AllByRecursion (LogRoseBy old mid) logs → NoFewer (added_count mid no_refusals) new → AllByRecursion (LogRoseBy old new) logs
rose_still old mid new [] rose more = tt
rose_still old mid new (log ∷ logs) rose more = (rose_before old mid new (counted log.reader) no_refusals rose.0 more, rose_still old mid new logs rose.1 more)

-- those after
pub rose_later : (old mid new : Refusals) (logs : List OpenedLogState) → NoFewer (added_count old no_refusals) mid → AllByRecursion (LogRoseBy mid new) logs → AllByRecursion (LogRoseBy old new) logs
rose_later old mid new [] fewer rose = tt
rose_later old mid new (log ∷ logs) fewer rose = (rose_then old mid new (counted log.reader) fewer rose.0, rose_later old mid new logs fewer rose.1)

module _ {X : Type 0} (logs_of : X → List OpenedLogState) where
  -- each reader of each part has given its count back
  abbrev pub PartsRose : Refusals → Refusals → List X → Type 0
  PartsRose old new parts = AllByRecursion (λ part. AllByRecursion (LogRoseBy old new) (logs_of part)) parts

  pub parts_still : (old mid new : Refusals) (parts : List X) → PartsRose old mid parts → NoFewer (added_count mid no_refusals) new → PartsRose old new parts
  parts_still old mid new [] rose more = tt
  parts_still old mid new (p ∷ parts) rose more = (rose_still old mid new (logs_of p) rose.0 more, parts_still old mid new parts rose.1 more)

  pub parts_later : (old mid new : Refusals) (parts : List X) → NoFewer (added_count old no_refusals) mid → PartsRose mid new parts → PartsRose old new parts
  parts_later old mid new [] fewer rose = tt
  parts_later old mid new (p ∷ parts) fewer rose = (rose_later old mid new (logs_of p) fewer rose.0, parts_later old mid new parts fewer rose.1)

  pub one_more_part : (old mid new : Refusals) (parts : List X) (part : X) → NoFewer (added_count old no_refusals) mid → PartsRose old mid parts → NoFewer (added_count mid no_refusals) new → AllByRecursion (LogRoseBy mid new) (logs_of part) → PartsRose old new (parts ++ part ∷ [])
  one_more_part old mid new [] part fewer rose more last = (rose_later old mid new (logs_of part) fewer last, tt)
  one_more_part old mid new (p ∷ parts) part fewer rose more last = (rose_still old mid new (logs_of p) rose.0 more, one_more_part old mid new parts part fewer rose.1 more last)
