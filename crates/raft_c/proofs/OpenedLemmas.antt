-- Openings over files, by what is known of these.
use Rattle.std.proofs.Common.{◌≡◌, ℕ, List, ℤ, subst}
use Rattle.raft_env.specs.Directory.{Directory}
use Rattle.raft_env.specs.Refusal.{Refusals}
use Rattle.raft_c_log.specs.Opening.{IsUnopened, KeepsNamed}
use Rattle.raft_c.specs.Logs.{IsOpeningOver}
use Rattle.raft_c.specs.declared.log.State.{State}

pub keeps_from : (text : List ℕ) (n now : Directory) (before old after : List Directory) → before ≡ old → KeepsNamed text n before after now → KeepsNamed text n old after now
keeps_from text n now before old after is keeps = subst (λ (b : List Directory). KeepsNamed text n b after now) is keeps

pub unopened_from : (text : List ℕ) (code kept : ℤ) (n : Directory) (before old new : Refusals) → code ≡ kept → before ≡ old → IsUnopened text code n before new → IsUnopened text kept n old new
unopened_from text code kept n before old new same is refused =
    subst (λ (c : ℤ). IsUnopened text c n old new) same (subst (λ (b : Refusals). IsUnopened text code n b new) is refused)

pub opening_of : (text : List ℕ) (code kept : ℤ) (state : State) (files found : Directory) → code ≡ kept → files ≡ found → IsOpeningOver text files code state → IsOpeningOver text found kept state
opening_of text code kept state files found same is opened =
    subst (λ (c : ℤ). IsOpeningOver text found c state) same (subst (λ (n : Directory). IsOpeningOver text n code state) is opened)
