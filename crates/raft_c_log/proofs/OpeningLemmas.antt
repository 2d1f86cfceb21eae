-- How an opening with a text's settings goes, by how the engine opens.
use Rattle.std.proofs.Common.{◌≡◌, ℕ, List, Ok, Err, IfErr, ap, inl, inr, refl, subst}
use Rattle.std.specs.Prelude.{Result, ℤ, pos}
use Rattle.raft_base.specs.Fault.{fault_code}
use Rattle.raft_base.specs.declared.errors.Fault.{Fault}
use Rattle.raft_config.specs.declared.config.Config.{Config}
use Rattle.raft_env.specs.declared.env.FileSystem.{Ghosts}
use Rattle.raft_settings.specs.Reading.{IsLoneReadRefusal}
use Rattle.raft_log_engine.specs.Engine.{directory_of, moments_of}
use Rattle.raft_log_engine.specs.declared.engine.Engine.{Engine}
use Rattle.raft_log_engine.specs.declared.engine.Refused.{Refused}
use Rattle.raft_c_log.specs.Opening.{IsOpenedBy, IsTextRefusal, IsUnopened, KeepsNamed, OpensBy}

pub text_refused : {text given : List ℕ} → text ≡ given → (r : Result Config Fault) → IfErr r (IsLoneReadRefusal text) → IfErr r (IsTextRefusal given)
text_refused is (Ok config) refused = tt
text_refused is (Err e) refused = inr (subst (λ (t : List ℕ). IsLoneReadRefusal t e) is refused)

module _ {F H R W : Type 0} {g : Ghosts F H R W} {text : List ℕ} {found : F} where
  pub opened_by : (e : Engine F H R W g) → OpensBy text found (Ok e) → IsOpenedBy text (g.directory found) e
  opened_by e (inl by) = record { settings = by.settings; read = by.read; found = found; found_in = refl; opens = by.opens }
  opened_by e (inr refused) = absurd (let clash = refused.2 in cc)

  pub opening_keeps : (e : Engine F H R W g) → OpensBy text found (Ok e) → KeepsNamed text (g.directory found) (g.moments found) (moments_of e) (directory_of e)
  opening_keeps e (inl by) = inl (by.settings, by.read, by.opens.opened.any_moment.throughout)
  opening_keeps e (inr refused) = absurd (let clash = refused.2 in cc)

  pub refused_by : {code : ℤ} (r : Refused F) → code ≡ pos (fault_code r.fault) → OpensBy {g = g} text found (Err r) → IsUnopened text code (g.directory found) (g.refusals_of found) (g.refusals_of r.file_system)
  refused_by r is (inl by) = record { fails = r.fault; code_is = is; cause = inr (by.settings, by.read, by.opens.refused) }
  refused_by r is (inr refused) =
      let same : refused.0 ≡ r.fault = (let whole = refused.2 in cc) in
      record { fails = r.fault; code_is = is; cause = inl (subst (λ (e : Fault). IsTextRefusal text e) same refused.1) }

  pub refusal_keeps : (r : Refused F) → OpensBy {g = g} text found (Err r) → KeepsNamed text (g.directory found) (g.moments found) (g.moments r.file_system) (g.directory r.file_system)
  refusal_keeps r (inl by) = inl (by.settings, by.read, by.opens.opened.any_moment.throughout)
  refusal_keeps r (inr refused) =
      let same : r.file_system ≡ found = (let whole = refused.2 in cc) in
      inr (ap (λ (f : F). g.moments f) same, ap (λ (f : F). g.directory f) same)
