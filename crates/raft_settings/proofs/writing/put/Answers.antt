use Rattle.std.proofs.Common.{ap, ◌∙◌}
use Rattle.toml.specs.View.{view, table_view}
use Rattle.raft_settings.specs.Writing.{with_member}
use Rattle.raft_settings.proofs.TableLemmas.{members_view-insert_entry}
use Rattle.raft_settings.proofs.writing.put.Goals as goal

pub returns-clause-ok : goal.returns-clause-ok
returns-clause-ok c =
    rw c.in_ok-insert.ensures.entries (members_view-insert_entry c.args.table.now.entries c.in_ok-from_str.field-0 c.args.value
    ∙ ap (λ key. with_member key (view c.args.value) (table_view c.args.table.now)) c.in_ok-from_str.ensures.ok)
