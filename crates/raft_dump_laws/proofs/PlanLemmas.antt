-- What is planned of the files of a queue.
use Rattle.std.proofs.Common.{◌≡◌, ◌⊎◌, ◌==◌, ℕ, Bool, List, [], ◌∷◌, length, Contains, inl, inr, refl, sym, subst, arith}
use Rattle.std.proofs.lemmas.Bool.{ne_eqb}
use Rattle.std.proofs.lemmas.List.Elements.{Contains-append_cases, Contains-append_left, Contains-append_right, Contains-push, Contains-push_cases}
use Rattle.raft_base.specs.declared.errors.Fault.{Fault}
use Rattle.raft_base.specs.declared.pipe_log.LogQueue.{LogQueue}
use Rattle.raft_env.specs.Directory.{Path}
use Rattle.raft_config.specs.Recovery.{tolerates_corruption}
use Rattle.raft_config.specs.declared.config.RecoveryMode.{RecoveryMode}
use Rattle.raft_files.specs.Header.{header_of}
use Rattle.raft_pipes.specs.Files.{EachFile, IsOpenableFile, is_last}
use Rattle.raft_opening.specs.Files.{HasDamageAmong}
use Rattle.raft_pipes.specs.Numbered.{in_queue}
use Rattle.raft_dump.specs.Check.{plan_of, planned_stop}
use Rattle.raft_dump.specs.declared.check.FileCheck.{FileCheck}
use Rattle.raft_dump.specs.declared.plan.Planned.{Planned}
use Rattle.raft_dump.specs.declared.plan.Planned.TheVariants.{Fail}
use Rattle.raft_dump_laws.specs.Planned.{AreChecksIn, AreReadAs, IsReadAs}
use Rattle.raft_dump_laws.proofs.CheckedLemmas.{IsJudged, damage_bars, judged_in}

-- Plans that fail somewhere.

none_fails : Contains [] Fail → ⊥
none_fails fails = absurd (omega (arith, fails.1))

first_fails : (p : Planned) (ps : List Planned) → p ≡ Fail → Contains (p ∷ ps) Fail
first_fails p ps is = subst (λ (x : Planned). Contains (p ∷ ps) x) is (Contains-append_left (p ∷ []) ps p (Contains-push [] p))

later_fails : (p : Planned) (ps : List Planned) → Contains ps Fail → Contains (p ∷ ps) Fail
later_fails p ps fails = Contains-append_right (p ∷ []) ps Fail fails

fails_somewhere : (p : Planned) (ps : List Planned) → Contains (p ∷ ps) Fail → (p ≡ Fail) ⊎ Contains ps Fail
fails_somewhere p ps fails = elim (Contains-append_cases (p ∷ []) ps Fail fails) [
  | inl here ↦ elim (Contains-push_cases [] p Fail here) [
    | inl nowhere ↦ absurd (omega (arith, nowhere.1))
    | inr is ↦ inl is
  ]
  | inr later ↦ inr later
]

module _ (mode : RecoveryMode) (queue : LogQueue) (bytes : Path → List ℕ) where
  same_last : (files : List (ℕ × Path)) (checks : List FileCheck) → AreChecksIn queue bytes files checks → (length checks == 0) ≡ is_last files
  same_last [] [] are = refl
  same_last [] (c ∷ checks) are = absurd are
  same_last (f ∷ files) [] are = absurd are
  same_last (f ∷ files) (c ∷ checks) are = ne_eqb (length (c ∷ checks)) 0 (λ none. absurd (omega (arith, none)))

  abbrev planned_first : FileCheck → List FileCheck → Planned
  planned_first c checks = planned_stop (tolerates_corruption mode (length checks == 0)) c.end c.stop

  -- the first of these files is judged
  judged_first : (f : ℕ × Path) (files : List (ℕ × Path)) (c : FileCheck) (checks : List FileCheck) → AreChecksIn queue bytes (f ∷ files) (c ∷ checks)
      → IsJudged (in_queue queue f.0) (tolerates_corruption mode (is_last files)) (bytes f.1) (planned_stop (tolerates_corruption mode (length checks == 0)) c.end c.stop)
  judged_first f files c checks are =
      subst (λ (last : Bool). IsJudged (in_queue queue f.0) (tolerates_corruption mode (is_last files)) (bytes f.1) (planned_stop (tolerates_corruption mode last) c.end c.stop)) (sym (same_last files checks are.1))
      (judged_in (in_queue queue f.0) (tolerates_corruption mode (is_last files)) (bytes f.1) (header_of (bytes f.1)) c refl are.0.reading.read)

  pub plan_opens : (files : List (ℕ × Path)) (checks : List FileCheck) → AreChecksIn queue bytes files checks → (Contains (plan_of mode checks) Fail → ⊥) → EachFile (IsOpenableFile mode queue bytes) files
  plan_opens [] checks are whole = tt
  plan_opens (f ∷ files) [] are whole = absurd are
  plan_opens (f ∷ files) (c ∷ checks) are whole = elim (judged_first f files c checks are) [
    | inl found ↦ (found.0, plan_opens files checks are.1 (λ fails. whole (later_fails (planned_first c checks) (plan_of mode checks) fails)))
    | inr breaks ↦ absurd (whole (first_fails (planned_first c checks) (plan_of mode checks) breaks.0))
  ]

  pub plan_read : (files : List (ℕ × Path)) (checks : List FileCheck) → AreChecksIn queue bytes files checks → EachFile (IsOpenableFile mode queue bytes) files → AreReadAs queue bytes files (plan_of mode checks)
  plan_read [] [] are each = tt
  plan_read [] (c ∷ checks) are each = absurd are
  plan_read (f ∷ files) [] are each = absurd are
  plan_read (f ∷ files) (c ∷ checks) are each = elim (judged_first f files c checks are) [
    | inl found ↦ (found.1, plan_read files checks are.1 each.1)
    | inr breaks ↦ absurd (damage_bars (in_queue queue f.0) (tolerates_corruption mode (is_last files)) (bytes f.1) breaks.1 breaks.2 each.0)
  ]

  no_failing : (f : ℕ × Path) (p : Planned) → p ≡ Fail → IsReadAs (in_queue queue f.0) (bytes f.1) p → ⊥
  no_failing f p is read = subst (IsReadAs (in_queue queue f.0) (bytes f.1)) is read

  pub plan_fails : (files : List (ℕ × Path)) (checks : List FileCheck) → AreChecksIn queue bytes files checks → Contains (plan_of mode checks) Fail → (e : Fault) × HasDamageAmong mode queue bytes files e
  plan_fails [] [] are fails = absurd (none_fails fails)
  plan_fails [] (c ∷ checks) are fails = absurd are
  plan_fails (f ∷ files) [] are fails = absurd are
  plan_fails (f ∷ files) (c ∷ checks) are fails = elim (judged_first f files c checks are) [
    | inl found ↦ elim (fails_somewhere (planned_first c checks) (plan_of mode checks) fails) [
      | inl is ↦ absurd (no_failing f (planned_first c checks) is found.1)
      | inr later ↦ let rest = plan_fails files checks are.1 later in (rest.0, inr (found.0, rest.1))
    ]
    | inr breaks ↦ (breaks.1, inl breaks.2)
  ]

  pub plan_refused : (files : List (ℕ × Path)) (checks : List FileCheck) (e : Fault) → AreChecksIn queue bytes files checks → HasDamageAmong mode queue bytes files e → Contains (plan_of mode checks) Fail
  plan_refused [] checks e are damage = absurd damage
  plan_refused (f ∷ files) [] e are damage = absurd are
  plan_refused (f ∷ files) (c ∷ checks) e are damage = elim (judged_first f files c checks are) [
    | inl found ↦ elim damage [
      | inl here ↦ absurd (damage_bars (in_queue queue f.0) (tolerates_corruption mode (is_last files)) (bytes f.1) e here found.0)
      | inr later ↦ later_fails (planned_first c checks) (plan_of mode checks) (plan_refused files checks e are.1 later.1)
    ]
    | inr breaks ↦ first_fails (planned_first c checks) (plan_of mode checks) breaks.0
  ]
