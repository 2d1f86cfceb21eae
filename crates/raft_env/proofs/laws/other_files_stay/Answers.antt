use Rattle.std.proofs.Common.{◌≡◌, ◌-◌, refl, arith, length, ◌++◌}
use Rattle.raft_env.proofs.DirectoryLemmas.{file_at-removed_same, file_at-removed_other, file_at-renamed_to, file_at-renamed_from, file_at-renamed_other}
use Rattle.raft_env.proofs.laws.other_files_stay.Goals as goal

pub returns-clause-deleted : goal.returns-clause-deleted
returns-clause-deleted c = file_at-removed_same

pub returns-clause-kept : goal.returns-clause-kept
returns-clause-kept c = file_at-removed_other

pub returns-clause-renamed : goal.returns-clause-renamed
returns-clause-renamed c = file_at-renamed_to

pub returns-clause-moved : goal.returns-clause-moved
returns-clause-moved c = file_at-renamed_from

pub returns-clause-others : goal.returns-clause-others
returns-clause-others c = file_at-renamed_other

pub returns-clause-left : goal.returns-clause-left
returns-clause-left c file left = (
  refl,
  (
    λ may. record { no_shorter = may.no_shorter; no_longer = may.no_longer; untouched = may.untouched },
    λ may. record { no_shorter = may.no_shorter; no_longer = may.no_longer; untouched = may.untouched },
  ),
)

pub returns-clause-stale : goal.returns-clause-stale
returns-clause-stale c file i =
    let none : length (file.changes ++ file.older) - length (file.changes ++ file.older) ≡ 0 = omega arith in
    (length (file.changes ++ file.older), refl, rw none refl)
