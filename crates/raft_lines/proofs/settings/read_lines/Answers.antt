use Rattle.std.proofs.Common.{◌≡◌, List, ℕ, Ok, Err, IfErr, IfOk, inr, subst, sym}
use Rattle.std.specs.Prelude.{Result}
use Rattle.raft_base.specs.declared.errors.Fault.{Fault}
use Rattle.raft_base.specs.declared.errors.Fault.TheVariants as fault
use Rattle.raft_config.specs.declared.config.Config.{Config}
use Rattle.raft_settings.specs.Reading.{IsReadRefusal, Reads}
use Rattle.raft_lines.specs.Settings.{AreOwn, IsSetRefusal, SetsOwn}
use Rattle.raft_lines.proofs.settings.read_lines.Goals as goal

module _ (lines text : List ℕ) (is : text ≡ lines) (own : Config) (are : AreOwn own) where
  sets : (r : Result Config Fault) → IfOk r (Reads text own) → IfOk r (SetsOwn lines)
  sets (Ok c) reads = (own, are, subst (λ t. Reads t own c) is reads)
  sets (Err e) reads = tt

  refuses : (r : Result Config Fault) → IfErr r (IsReadRefusal text own) → IfErr r (IsSetRefusal lines)
  refuses (Ok c) refused = tt
  refuses (Err (fault.InvalidArgument reason)) refused = inr (own, are, λ c reads. refused c (subst (λ t. Reads t own c) (sym is) reads))
  refuses (Err fault.Memory) refused = tt
  refuses (Err _) refused = absurd refused

pub returns-in-Ok-clause-value : goal.returns-in-Ok-clause-value
returns-in-Ok-clause-value c = sets c.args.lines.now c.in-Ok.text.now c.in-Ok.ensures.cases.0 c.in_ok-own.own c.in_ok-own.ensures.value c.with_text.result c.with_text.ensures.value

pub returns-in-Ok-clause-cause : goal.returns-in-Ok-clause-cause
returns-in-Ok-clause-cause c = refuses c.args.lines.now c.in-Ok.text.now c.in-Ok.ensures.cases.0 c.in_ok-own.own c.in_ok-own.ensures.value c.with_text.result c.with_text.ensures.cause
