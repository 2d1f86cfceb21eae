-- Refusals that are armed, and how calls use them up.
use Rattle.std.specs.Prelude.{ℕ, ◌-◌, ◌&&◌, Bool, not, nat_le, nat_lt, List, Option, Some, None, find, map, option_map, if◌then◌else◌}
use Rattle.std.specs.List.{Contains, retain_mut}
use Rattle.std.specs.Option.{option_or}
use denote.Enum.Bare.{sameb}
use Rattle.raft_base.specs.declared.errors.IoKind.{IoKind}
use Rattle.raft_base.specs.declared.errors.IoKind.TheVariants.{Other}
use Rattle.raft_memory.specs.declared.armed.FsCall.{FsCall}
use Rattle.raft_memory.specs.declared.armed.FsCall.TheVariants.{FileSize, NewReader, Open}
use Rattle.raft_memory.specs.declared.armed.ArmedRefusal.{ArmedRefusal}
use Rattle.raft_memory.specs.contracts.armed.FsCall as declared_call

-- the sort of calls, how many of them come up to the failed one, and the kind that is answered
abbrev pub Arm : Type 0
Arm = FsCall × ℕ × IoKind

-- an armed refusal, as clauses see it
abbrev pub arm_of : ArmedRefusal → Arm
arm_of refusal = (refusal.call, refusal.left, refusal.kind)

-- armed refusals, as clauses see them
abbrev pub arms_of : List ArmedRefusal → List Arm
arms_of refusals = map arm_of refusals

-- whether both are the same call
abbrev pub same_call : FsCall → FsCall → Bool
same_call a b = sameb declared_call.the_type a b

-- the next call of that sort is the failed one
abbrev pub is_due : FsCall → Arm → Bool
is_due call arm = same_call call arm.0 && nat_le arm.1 1

-- a call of that sort brings the failed one nearer
abbrev pub one_less : FsCall → Arm → Arm
one_less call arm = if same_call call arm.0 then (arm.0, arm.1 - 1, arm.2) else arm

-- what is armed after a call of that sort: what was due is spent
abbrev pub arms_after : FsCall → List Arm → List Arm
arms_after call arms = retain_mut (λ arm. not (is_due call arm)) (one_less call) arms

-- the kind of the first refusal that is due at that call
abbrev pub due_kind : FsCall → List Arm → Option IoKind
due_kind call arms = option_map (λ arm. arm.2) (find (is_due call) arms)

-- what is armed after the calls that a block's read stands for: to open the file, of its size, and
-- of a reader
abbrev pub arms_after_block : List Arm → List Arm
arms_after_block arms = arms_after NewReader (arms_after FileSize (arms_after Open arms))

-- the first fault that is due at one of the calls that a block's read stands for
abbrev pub due_in_block : List Arm → Option IoKind
due_in_block arms = option_or (option_or (due_kind Open arms)
    (due_kind FileSize (arms_after Open arms)))
    (due_kind NewReader (arms_after FileSize (arms_after Open arms)))

-- as what a call fails: by what is due, or, once the stop has come, as `Other`
abbrev pub injected : FsCall → List Arm → Option ℕ → Option IoKind
injected call arms None = due_kind call arms
injected call arms (Some nth) = if nat_lt 1 nth then due_kind call arms else Some Other

-- how many such calls are left after the next one, up to the first to stop at
abbrev pub stop_after : Option ℕ → Option ℕ
stop_after None = None
stop_after (Some nth) = if nat_lt 1 nth then Some (nth - 1) else Some nth

-- a refusal of this kind is armed for this sort of calls
abbrev pub IsArmed : List Arm → FsCall → IoKind → Type 0
IsArmed arms call kind = (nth : ℕ) × Contains arms (call, nth, kind)
