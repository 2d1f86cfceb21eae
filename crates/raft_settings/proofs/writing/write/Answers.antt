use Rattle.std.proofs.Common.{◌≡◌, ◌≤◌, Some, ap, ◌∙◌, string_bytes, arith}
use Rattle.toml.specs.Data.{members_depth}
use Rattle.toml.specs.Parse.{parse_document}
use Rattle.toml.specs.View.{table_view}
use Rattle.raft_settings.specs.Writing.{table_of}
use Rattle.raft_settings.proofs.ReadBackLemmas.{changes_back, flat_table}
use Rattle.raft_settings.proofs.writing.write.Goals as goal

parsed : (c : goal.After-drop-table) → parse_document (string_bytes c.in-Ok.text) ≡ Some (table_of c.args.config.now)
parsed c =
    let seen : table_view c.in_ok-table.table ≡ table_of c.args.config.now = c.in_ok-table.ensures.value in
    let flat = flat_table c.args.config.now in
    let shallow : members_depth (table_view c.in_ok-table.table) ≤ 80 = omega (arith, ap members_depth seen, flat.depth) in
    c.in-Ok.ensures.reads_back shallow ∙ ap Some seen

pub returns-in-Ok-clause-ok : goal.returns-in-Ok-clause-ok
returns-in-Ok-clause-ok c = parsed c

pub returns-in-Ok-clause-value : goal.returns-in-Ok-clause-value
returns-in-Ok-clause-value c =
    let fits = c.in_ok-table.ensures.fits in
    λ default is. record {
      table = table_of c.args.config.now;
      is = parsed c;
      changes = changes_back c.args.config.now default is fits.0 fits.1 fits.2;
    }
