-- What is shown of armed refusals.
use Rattle.std.proofs.Common.{◌≡◌, ℕ, ◌+◌, ◌<◌, Bool, true, false, cond, not, List, [], ◌∷◌, length, get_or, drop, Option, Some, None, IfSome, refl, sym, subst, ◌∙◌, ap, arith}
use Rattle.std.specs.Prelude.{find, option_map}
use Rattle.std.specs.List.{Contains}
use Rattle.std.specs.List.Retain.{RetainsInTurn}
use Rattle.std.proofs.lemmas.List.{at_drop_more, get_or-map, length-map}
use Rattle.raft_base.specs.declared.errors.IoKind.{IoKind}
use Rattle.raft_memory.specs.declared.armed.FsCall.{FsCall}
use Rattle.raft_memory.specs.declared.armed.ArmedRefusal.{ArmedRefusal}
use Rattle.raft_memory.specs.Armed.{IsArmed, arm_of, arms_of, arms_after, due_kind, is_due, one_less}

-- one of these is for that sort of calls, as that
abbrev pub IsAmong : List ArmedRefusal → FsCall → IoKind → Type 0
IsAmong refusals call kind = (refusal : ArmedRefusal) × Contains refusals refusal × (refusal.call ≡ call) × (refusal.kind ≡ kind)

among_is_armed : (refusals : List ArmedRefusal) (call : FsCall) (kind : IoKind) → IsAmong refusals call kind → IsArmed (arms_of refusals) call kind
among_is_armed refusals call kind (a, (k, below, is), same_call, same_kind) =
    let here : IsArmed (arms_of refusals) a.call a.kind = (a.left, (k, omega (arith, length-map {A = ArmedRefusal} refusals arm_of), get_or-map arm_of refusals k a (arm_of a) below ∙ ap arm_of is)) in
    subst (λ c. IsArmed (arms_of refusals) c kind) same_call (subst (λ n. IsArmed (arms_of refusals) a.call n) same_kind here)

-- .. so it is shown as armed
pub due_is_armed : (refusals : List ArmedRefusal) (call : FsCall) (due : Option IoKind) → IfSome due (λ kind. IsAmong refusals call kind) → IfSome due (λ kind. IsArmed (arms_of refusals) call kind)
due_is_armed refusals call None among = among
due_is_armed refusals call (Some kind) among = among_is_armed refusals call kind among

-- what goes over the refusals in turn, and of each says whether it stays and counts it, leaves what is armed after the call
module _ {S : Type 0} (Counts : S → ArmedRefusal → Bool → S → ArmedRefusal → Type 0) (call : FsCall) (IsFor : S → Type 0)
    (each : (s : S) (x : ArmedRefusal) (stays : Bool) (t : S) (y : ArmedRefusal) → IsFor s → Counts s x stays t y → (stays ≡ not (is_due call (arm_of x))) × (arm_of y ≡ one_less call (arm_of x)) × IsFor t) where
  arms_of-cond : (stays : Bool) (y : ArmedRefusal) (zs : List ArmedRefusal) → arms_of (cond stays (y ∷ zs) zs) ≡ cond stays (arm_of y ∷ arms_of zs) (arms_of zs)
  arms_of-cond true y zs = refl
  arms_of-cond false y zs = refl

  pub arms_of-retained : (s : S) (xs ys : List ArmedRefusal) → IsFor s → RetainsInTurn Counts s xs ys → arms_of ys ≡ arms_after call (arms_of xs)
  arms_of-retained s [] ys is h = ap arms_of h
  arms_of-retained s (x ∷ xs) ys is h =
      let said = each s x h.0 h.1 h.2 is h.3 in
      let rest = arms_of-retained h.1 xs h.4 said.2 h.5 in
      ap arms_of h.6 ∙ arms_of-cond h.0 h.2 h.4 ∙ (λ i. cond (said.0 i) (said.1 i ∷ rest i) (rest i))

module _ (call : FsCall) (refusals : List ArmedRefusal) (i : ℕ) (x : ArmedRefusal) (inside : i < length refusals) (is : x ≡ get_or refusals i x) where
  from_there : (due : Bool) → is_due call (arm_of x) ≡ due → due_kind call (arms_of (drop i refusals)) ≡ option_map (λ arm. arm.2) (cond due (Some (arm_of x)) (find (is_due call) (arms_of (drop (i + 1) refusals))))
  from_there due e =
      at_drop_more (λ l. due_kind call (arms_of l)) refusals i x inside
      ∙ (λ j. due_kind call (arms_of (sym is j ∷ drop (i + 1) refusals)))
      ∙ ap (λ b. option_map (λ arm. arm.2) (cond b (Some (arm_of x)) (find (is_due call) (arms_of (drop (i + 1) refusals))))) e

  -- the refusal there is due, and is the first of what is left
  pub due_kind-here : is_due call (arm_of x) ≡ true → due_kind call (arms_of (drop i refusals)) ≡ Some x.kind
  due_kind-here = from_there true

  pub due_kind-later : is_due call (arm_of x) ≡ false → due_kind call (arms_of (drop i refusals)) ≡ due_kind call (arms_of (drop (i + 1) refusals))
  due_kind-later = from_there false
