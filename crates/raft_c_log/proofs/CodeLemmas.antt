-- The codes of faults are none of those of answers.
use Rattle.std.proofs.Common.{◌≡◌, ◌∙◌, ◌≤◌, Bool, true, ℤ, pos, to_z, of_z, w32, ℕ, arith, ap, refl, sym}
use Rattle.std.specs.Prelude.{◌↔◌}
use Rattle.raft_base.specs.Fault.{fault_code}
use Rattle.raft_base.specs.declared.errors.Fault.{Fault}
use Rattle.raft_base.specs.declared.errors.Fault.TheVariants as fault

pub fault_code_some : (e : Fault) → 1 ≤ fault_code e
fault_code_some e = grind arith

pub fault_code_low : (e : Fault) → fault_code e ≤ 18
fault_code_low e = grind arith

pub ruleset fault_codes = (fault_code_some, fault_code_low)

-- a code is the same in the machine's numbers
stored_code : (e : Fault) → to_z w32 (of_z w32 (pos (fault_code e))) ≡ pos (fault_code e)
stored_code (fault.InvalidArgument text) = refl
stored_code (fault.Io kind text) = refl
stored_code fault.Corruption = refl
stored_code fault.TryAgain = refl
stored_code fault.Gap = refl
stored_code fault.Range = refl
stored_code fault.EntryCompacted = refl
stored_code fault.EntryNotFound = refl
stored_code fault.WrongIndex = refl
stored_code fault.Parse = refl
stored_code fault.Failed = refl
stored_code fault.Memory = refl
stored_code fault.Lz4 = refl
stored_code fault.FileOutOfRange = refl
stored_code fault.NotRecovered = refl
stored_code fault.TrailFull = refl
stored_code fault.Layer = refl
stored_code fault.StaleNumber = refl

pub kept_code : (e : Fault) {code : ℤ} → code ≡ pos (fault_code e) → to_z w32 (of_z w32 code) ≡ pos (fault_code e)
kept_code e is = ap (λ (c : ℤ). to_z w32 (of_z w32 c)) is ∙ stored_code e

pub code_of : (e : Fault) {code : ℤ} {n : ℕ} → code ≡ pos (fault_code e) → code ≡ pos n → fault_code e ≡ n
code_of e {n = n} is other = let same : pos (fault_code e) ≡ pos n = sym is ∙ other in cc

-- the code of a failed engine's fault
failed_fault : (e : Fault) → fault_code e ≡ 11 → e ≡ fault.Failed
failed_fault (fault.InvalidArgument text) is = absurd (omega (arith, is))
failed_fault (fault.Io kind text) is = absurd (omega (arith, is))
failed_fault fault.Corruption is = absurd (omega (arith, is))
failed_fault fault.TryAgain is = absurd (omega (arith, is))
failed_fault fault.Gap is = absurd (omega (arith, is))
failed_fault fault.Range is = absurd (omega (arith, is))
failed_fault fault.EntryCompacted is = absurd (omega (arith, is))
failed_fault fault.EntryNotFound is = absurd (omega (arith, is))
failed_fault fault.WrongIndex is = absurd (omega (arith, is))
failed_fault fault.Parse is = absurd (omega (arith, is))
failed_fault fault.Failed is = refl
failed_fault fault.Memory is = absurd (omega (arith, is))
failed_fault fault.Lz4 is = absurd (omega (arith, is))
failed_fault fault.FileOutOfRange is = absurd (omega (arith, is))
failed_fault fault.NotRecovered is = absurd (omega (arith, is))
failed_fault fault.TrailFull is = absurd (omega (arith, is))
failed_fault fault.Layer is = absurd (omega (arith, is))
failed_fault fault.StaleNumber is = absurd (omega (arith, is))

-- .. is told where it failed
pub failed_code : {failed : Bool} (e : Fault) {code : ℤ} → code ≡ pos (fault_code e) → ((e ≡ fault.Failed) ↔ (failed ≡ true)) → (code ≡ pos 11) ↔ (failed ≡ true)
failed_code e is told = (λ eleven. told.0 (failed_fault e (code_of e is eleven)), λ fails. is ∙ ap (λ (f : Fault). pos (fault_code f)) (told.1 fails))
