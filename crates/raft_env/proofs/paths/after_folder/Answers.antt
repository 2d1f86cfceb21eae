use Rattle.std.proofs.Common.{◌++◌, ◌∷◌, sym, ap, ◌∙◌, lit<}
use Rattle.std.proofs.lemmas.Str.Pattern.{strip_prefix_char}
use Rattle.raft_env.proofs.PathPartsLemmas.{none_after, after_folder_answer}
use Rattle.raft_env.proofs.paths.after_folder.Goals as goal

pub returns : goal.returns
returns c =
    let cases = c.in_ok-strip_prefix.ensures.cases in
    let rest = c.in_ok-strip_prefix.field-0.now in
    record {
      value = after_folder_answer c.args.folder.now c.args.path.now rest c.strip_prefix-2.result (cases.1.1 ∙ ap (λ l. c.args.folder.now ++ l) (sym cases.2))
          (strip_prefix_char 47 rest c.strip_prefix-2.result c.strip_prefix-2.ensures.cases (lit< tt));
    }

pub returns-in_err-strip_prefix : goal.returns-in_err-strip_prefix
returns-in_err-strip_prefix c = rw c.from_residual.ensures (record { value = none_after c.args.folder.now c.args.path.now (λ rest. c.in_err-strip_prefix.ensures.cases (47 ∷ rest)) })
