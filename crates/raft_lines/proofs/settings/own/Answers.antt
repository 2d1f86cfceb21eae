use Rattle.std.proofs.Common.{◌≡◌, [], refl, rules}
use Rattle.std.specs.String.{string_bytes}
use Rattle.raft_lines.proofs.settings.own.Goals as goal

pub returns : goal.returns
returns c =
    let empty : string_bytes c.fresh-config.result.dir ≡ [] = c.fresh-config.ensures.value.dir in
    record {
      value = record {
        dir = search rules;
        target_file_size = search rules;
        purge_threshold = search rules;
        default = c.fresh-config.result;
        is_default = c.fresh-config.ensures.value;
        others = refl;
      };
    }
