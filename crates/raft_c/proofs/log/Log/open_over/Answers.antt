use Rattle.std.proofs.Common.{rules, ◌≡◌, of_z, sym, to_z, w32}
use Rattle.raft_c.proofs.OpenedLemmas.{opening_of}
use Rattle.raft_c.proofs.log.Log.open_over.Goals as goal

pub returns-in-Ok : goal.returns-in-Ok
returns-in-Ok c =
    let kept : to_z w32 (of_z w32 c.open_files.result) ≡ c.open_files.result = search rules in
    record { value = opening_of _ _ _ _ _ _ (sym kept) c.in-Ok.ensures.value c.open_files.ensures.value }
