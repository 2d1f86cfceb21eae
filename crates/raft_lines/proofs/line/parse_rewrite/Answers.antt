use Rattle.std.proofs.Common.{◌≡◌, ◌∙◌, None, codes, refl, rules, sym}
use Rattle.raft_lines.specs.declared.line.Call.TheVariants as call
use Rattle.raft_lines.specs.Line.{rewrite_by, words_in}
use Rattle.raft_lines.proofs.LineLemmas.{begins_to, nothing_follows, something_follows}
use Rattle.raft_lines.proofs.line.parse_rewrite.Goals as goal

pub returns-in_err-ends-2 : goal.returns-in_err-ends-2
returns-in_err-ends-2 c = record {
  value =
      let is : c.in_ok-word.word.now ≡ codes "rewrite" = search rules in
      let none : c.from_residual-in_err-ends-2.result ≡ None = search rules in
      none ∙ sym (begins_to rewrite_by call.RewriteRewrite c.args.rest.now c.in_ok-word.word.now c.in_ok-word.rest.now (codes "rewrite") c.in_ok-word.ensures.value is (λ words. refl) ∙ something_follows call.RewriteRewrite (words_in c.in_ok-word.rest.now) (sym c.in_err-ends-2.ensures.value));
}

pub returns-in_ok-ends-2 : goal.returns-in_ok-ends-2
returns-in_ok-ends-2 c = record {
  value =
      let is : c.in_ok-word.word.now ≡ codes "rewrite" = search rules in
      sym (begins_to rewrite_by call.RewriteRewrite c.args.rest.now c.in_ok-word.word.now c.in_ok-word.rest.now (codes "rewrite") c.in_ok-word.ensures.value is (λ words. refl) ∙ nothing_follows call.RewriteRewrite (words_in c.in_ok-word.rest.now) (sym c.in_ok-ends-2.ensures.value));
}

pub returns-in_err-ends-3 : goal.returns-in_err-ends-3
returns-in_err-ends-3 c = record {
  value =
      let is : c.in_ok-word.word.now ≡ codes "stale" = search rules in
      let none : c.from_residual-in_err-ends-3.result ≡ None = search rules in
      none ∙ sym (begins_to rewrite_by call.PurgeStale c.args.rest.now c.in_ok-word.word.now c.in_ok-word.rest.now (codes "stale") c.in_ok-word.ensures.value is (λ words. refl) ∙ something_follows call.PurgeStale (words_in c.in_ok-word.rest.now) (sym c.in_err-ends-3.ensures.value));
}

pub returns-in_ok-ends-3 : goal.returns-in_ok-ends-3
returns-in_ok-ends-3 c = record {
  value =
      let is : c.in_ok-word.word.now ≡ codes "stale" = search rules in
      sym (begins_to rewrite_by call.PurgeStale c.args.rest.now c.in_ok-word.word.now c.in_ok-word.rest.now (codes "stale") c.in_ok-word.ensures.value is (λ words. refl) ∙ nothing_follows call.PurgeStale (words_in c.in_ok-word.rest.now) (sym c.in_ok-ends-3.ensures.value));
}
