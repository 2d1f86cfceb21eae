-- Log files that an opening passed over, through operations.
use Rattle.std.proofs.Common.{◌≡◌, ◌∙◌, true, ap, inl, inr, refl, subst, sym}
use Rattle.std.proofs.lemmas.Bool.{cases_Bool}
use Rattle.raft_env.specs.Directory.{Directory, file_at}
use Rattle.raft_env.specs.declared.env.FileSystem.{Ghosts}
use Rattle.raft_queues.specs.Dual.{DualState}
use Rattle.raft_queues.specs.PassedOver.{StayPassedOver}
use Rattle.raft_log_engine.specs.Engine.{directory_of, has_failed}
use Rattle.raft_log_engine.specs.declared.engine.Engine.{Engine}
use Rattle.raft_script.specs.Durability.{PassesOver}

module _ {F H R W : Type 0} {g : Ghosts F H R W} where
  -- an engine that isn't asked leaves them
  pub passes_none : (e : Engine F H R W g) → PassesOver e e
  passes_none e = record { files = λ queue path passed. refl; still = λ alive queue path passed. passed }

  -- .. and so does one that only reads
  pub passes_read : (old new : Engine F H R W g) → directory_of new ≡ directory_of old
      → new.log.store.pipes ≡ old.log.store.pipes → PassesOver old new
  passes_read old new files pipes = record {
    files = λ queue path passed. ap (λ (n : Directory). file_at n path) files;
    still = λ alive. subst (λ (d : DualState). StayPassedOver old.log.store.pipes d) (sym pipes) (λ queue path passed. passed);
  }

  -- one operation after others: a failed engine stays so, and changes nothing
  pub passes_more : (old mid new : Engine F H R W g) → PassesOver old mid → PassesOver mid new
      → (has_failed mid ≡ true → has_failed new ≡ true)
      → (has_failed mid ≡ true → directory_of new ≡ directory_of mid) → PassesOver old new
  passes_more old mid new first next still rests = record {
    files = λ queue path passed. elim (cases_Bool (has_failed mid)) [
      | inl gone ↦ ap (λ (n : Directory). file_at n path) (rests gone) ∙ first.files queue path passed
      | inr alive ↦ next.files queue path (first.still alive queue path passed) ∙ first.files queue path passed
    ];
    still = λ stands queue path passed. elim (cases_Bool (has_failed mid)) [
      | inl gone ↦ absurd (let clash = sym (still gone) ∙ stands in cc)
      | inr alive ↦ next.still stands queue path (first.still alive queue path passed)
    ];
  }
