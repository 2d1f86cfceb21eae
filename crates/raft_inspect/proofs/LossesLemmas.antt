-- What an opening loses of both queues, by what is found of each.
use Rattle.std.proofs.Common.{◌≡◌, ◌⊎◌, ◌∙◌, Bool, true, false, List, map, drop, Option, inl, inr, refl, subst, sym}
use Rattle.std.specs.Prelude.{◌↔◌, ◌||◌, Contains}
use Rattle.std.proofs.lemmas.Bool.{false_from_ne_true}
use Rattle.raft_base.specs.declared.pipe_log.LogQueue.{LogQueue}
use Rattle.raft_env.specs.Directory.{Directory, Path}
use Rattle.raft_config.specs.declared.config.RecoveryMode.{RecoveryMode}
use Rattle.raft_dump.specs.Check.{plan_of}
use Rattle.raft_dump.specs.LogFiles.{place_of}
use Rattle.raft_dump.specs.declared.plan.Planned.TheVariants.{Fail}
use Rattle.raft_inspect.specs.Cuts.{CutPlace, cuts_in}
use Rattle.raft_inspect.specs.Kept.{AreKeptOf, ArePassedOf, kept_in}
use Rattle.raft_inspect.specs.Losses.{IsToFail, cuts_by}
use Rattle.raft_inspect.specs.declared.kept.KeptFiles.{KeptFiles}
use Rattle.raft_inspect.specs.declared.losses.Passed.{Passed}
use Rattle.raft_inspect.specs.declared.queue_files.QueueFiles.{QueueFiles}

module _ {there : List Path} {queue : LogQueue} {n : Directory} {kept : KeptFiles} where
  -- found a little later, where nothing had changed
  pub passed_now : {m : Directory} {told : Option Passed} → AreKeptOf there queue n kept → m ≡ n
      → (map place_of kept.found.files.items ≡ kept_in there kept.found.queue m → ArePassedOf there kept.found.queue m told) → ArePassedOf there queue n told
  passed_now {m} {told} are same passed =
      let listed : map place_of kept.found.files.items ≡ kept_in there kept.found.queue m =
      subst (λ (k : Directory). map place_of kept.found.files.items ≡ kept_in there kept.found.queue k) (sym same)
      (subst (λ (q : LogQueue). map place_of kept.found.files.items ≡ kept_in there q n) (sym are.queue_is) are.files) in
      subst (λ (q : LogQueue). ArePassedOf there q n told) are.queue_is (subst (λ (k : Directory). ArePassedOf there kept.found.queue k told) same (passed listed))

  -- the opening fails for what they hold, or for a number that isn't alone
  pub to_fail : (mode : RecoveryMode) {fails : Bool} → AreKeptOf there queue n kept → (fails ≡ true ↔ (Contains (plan_of mode kept.found.checks.items) Fail ⊎ (kept.are_single ≡ false)))
      → fails ≡ true ↔ IsToFail mode there queue n kept
  to_fail mode are told = (λ is. there_if (told.0 is), λ fails. told.1 (back_if fails))
    where
      there_if : Contains (plan_of mode kept.found.checks.items) Fail ⊎ (kept.are_single ≡ false) → IsToFail mode there queue n kept
      there_if (inl planned) = inl planned
      there_if (inr other) = inr (λ single. absurd (let is = are.single.1 single in let clash : true ≡ false = sym is ∙ other in cc))

      back_if : IsToFail mode there queue n kept → Contains (plan_of mode kept.found.checks.items) Fail ⊎ (kept.are_single ≡ false)
      back_if (inl planned) = inl planned
      back_if (inr other) = inr (false_from_ne_true kept.are_single (λ is. other (are.single.0 is)))

  -- none of them is passed over
  pub all_cuts : (mode : RecoveryMode) → AreKeptOf there queue n kept → cuts_in mode (drop kept.found.passed kept.found.files.items) (drop kept.found.passed kept.found.checks.items) ≡ cuts_by mode kept
  all_cuts mode are = λ i. cuts_in mode (drop (are.all i) kept.found.files.items) (drop (are.all i) kept.found.checks.items)

-- one of two
pub either_fails : {A B : Type 0} {a b : Bool} → a ≡ true ↔ A → b ≡ true ↔ B → (a || b) ≡ true ↔ (A ⊎ B)
either_fails {a = true} first second = (λ is. inl (first.0 refl), λ either. refl)
either_fails {A} {B} {a = false} {b} first second = (λ is. inr (second.0 is), λ either. back either)
  where
    back : A ⊎ B → b ≡ true
    back (inl x) = absurd (let clash = first.1 x in cc)
    back (inr y) = second.1 y
