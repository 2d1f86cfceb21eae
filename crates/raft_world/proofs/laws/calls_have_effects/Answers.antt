use Rattle.std.specs.Prelude.{ℕ, Option, Vec}
use Rattle.std.specs.declared.alloc.Global.{Global}
use Rattle.raft_log_engine.specs.Purge.{HasLastId, HasOpenGroup}
use Rattle.raft_world.proofs.EffectLemmas.{arming_has_no_effect, close_ends, compaction_has_effect, effect_syncs_all, give_up_ends, kill_ends, nothing_has_no_effect, opening_makes_anew, purge_has_effect, read_has_no_effect, reopen_ends, stood_before, sync_has_effect, write_group_has_effect, write_has_effect, write_once_has_effect}
use Rattle.raft_world.proofs.laws.calls_have_effects.Goals as goal

pub returns-clause-write : goal.returns-clause-write
returns-clause-write g c = write_has_effect g.F.FileSystem

pub returns-clause-write_once : goal.returns-clause-write_once
returns-clause-write_once g c = write_once_has_effect g.F.FileSystem

pub returns-clause-write_group : goal.returns-clause-write_group
returns-clause-write_group g c = write_group_has_effect g.F.FileSystem

pub returns-clause-compact_to : goal.returns-clause-compact_to
returns-clause-compact_to g c = compaction_has_effect g.F.FileSystem

pub returns-clause-sync : goal.returns-clause-sync
returns-clause-sync g c = sync_has_effect g.F.FileSystem

pub returns-clause-purge_expired_files : goal.returns-clause-purge_expired_files
returns-clause-purge_expired_files g c = purge_has_effect g.F.FileSystem (Vec ℕ Global) HasOpenGroup HasLastId

pub returns-clause-must_rewrite_append_queue : goal.returns-clause-must_rewrite_append_queue
returns-clause-must_rewrite_append_queue g c = purge_has_effect g.F.FileSystem ℕ (λ _. ⊥) (λ _. ⊥)

pub returns-clause-must_rewrite_rewrite_queue : goal.returns-clause-must_rewrite_rewrite_queue
returns-clause-must_rewrite_rewrite_queue g c = purge_has_effect g.F.FileSystem ℕ HasOpenGroup HasLastId

pub returns-clause-must_purge_all_stale : goal.returns-clause-must_purge_all_stale
returns-clause-must_purge_all_stale g c = purge_has_effect g.F.FileSystem ℕ (λ _. ⊥) (λ _. ⊥)

pub returns-clause-must_rewrite_append_groups : goal.returns-clause-must_rewrite_append_groups
returns-clause-must_rewrite_append_groups g c = purge_has_effect g.F.FileSystem (Option ℕ) (λ _. ⊥) (λ _. ⊥)

pub returns-clause-must_rewrite_rewrite_groups : goal.returns-clause-must_rewrite_rewrite_groups
returns-clause-must_rewrite_rewrite_groups g c = purge_has_effect g.F.FileSystem (Option ℕ) HasOpenGroup HasLastId

pub returns-clause-get_entry : goal.returns-clause-get_entry
returns-clause-get_entry g c = read_has_no_effect g.F.FileSystem

pub returns-clause-fetch_entries_to : goal.returns-clause-fetch_entries_to
returns-clause-fetch_entries_to g c = read_has_no_effect g.F.FileSystem

pub returns-clause-load_entry : goal.returns-clause-load_entry
returns-clause-load_entry g c = read_has_no_effect g.F.FileSystem

pub returns-clause-image : goal.returns-clause-image
returns-clause-image g c = read_has_no_effect g.F.FileSystem

pub returns-clause-refuse : goal.returns-clause-refuse
returns-clause-refuse g c = arming_has_no_effect g.F.FileSystem

pub returns-clause-stop_at : goal.returns-clause-stop_at
returns-clause-stop_at g c = arming_has_no_effect g.F.FileSystem

pub returns-clause-close : goal.returns-clause-close
returns-clause-close g c = close_ends g.F.FileSystem

pub returns-clause-reopen : goal.returns-clause-reopen
returns-clause-reopen g c = reopen_ends g.F.FileSystem

pub returns-clause-give_up : goal.returns-clause-give_up
returns-clause-give_up g c = give_up_ends g.F.FileSystem

pub returns-clause-kill : goal.returns-clause-kill
returns-clause-kill g c = kill_ends g.F.FileSystem

pub returns-clause-nothing : goal.returns-clause-nothing
returns-clause-nothing g c = nothing_has_no_effect g.F.FileSystem

pub returns-clause-opening : goal.returns-clause-opening
returns-clause-opening g c = opening_makes_anew g.F.FileSystem

pub returns-clause-syncs : goal.returns-clause-syncs
returns-clause-syncs g c = effect_syncs_all g.F.FileSystem

pub returns-clause-stood : goal.returns-clause-stood
returns-clause-stood g c = stood_before g.F.FileSystem
