use Rattle.std.proofs.Common.{◌≡◌, ◌∙◌, None, codes, refl, rules, sym}
use Rattle.raft_base.specs.declared.pipe_log.LogQueue.TheVariants.{Rewrite}
use Rattle.raft_lines.specs.Line.{queue_by, words_in}
use Rattle.raft_lines.proofs.LineLemmas.{begins_to, nothing_follows, something_follows}
use Rattle.raft_lines.proofs.line.parse_queue.Goals as goal

pub returns-in_err-ends-2 : goal.returns-in_err-ends-2
returns-in_err-ends-2 c = record {
  value =
      let is : c.in_ok-word.word.now ≡ codes "rewrite" = search rules in
      let none : c.from_residual-in_err-ends-2.result ≡ None = search rules in
      none ∙ sym (begins_to queue_by Rewrite c.args.rest.now c.in_ok-word.word.now c.in_ok-word.rest.now (codes "rewrite") c.in_ok-word.ensures.value is (λ words. refl) ∙ something_follows Rewrite (words_in c.in_ok-word.rest.now) (sym c.in_err-ends-2.ensures.value));
}

pub returns-in_ok-ends-2 : goal.returns-in_ok-ends-2
returns-in_ok-ends-2 c = record {
  value =
      let is : c.in_ok-word.word.now ≡ codes "rewrite" = search rules in
      sym (begins_to queue_by Rewrite c.args.rest.now c.in_ok-word.word.now c.in_ok-word.rest.now (codes "rewrite") c.in_ok-word.ensures.value is (λ words. refl) ∙ nothing_follows Rewrite (words_in c.in_ok-word.rest.now) (sym c.in_ok-ends-2.ensures.value));
}
