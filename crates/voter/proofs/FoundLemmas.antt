-- What is found after a crash, by what a saved state promises.
use Rattle.std.proofs.Common.{◌≡◌, ◌∙◌, true, false, [], arith, inl, inr, refl, sym, ap, subst}
use Rattle.std.proofs.lemmas.Bool.{cases_Bool}
use Rattle.std.specs.Prelude.{IfOk, ℕ, List, Option, Result, Ok, Err, OnOk, is_ok}
use Rattle.std.specs.Option.{option_map}
use Rattle.std.specs.String.{string_bytes}
use Rattle.raft_base.specs.declared.errors.Fault.{Fault}
use Rattle.raft_config.specs.Config.{IsDefault}
use Rattle.raft_config.specs.Folders.{Folders, folders_in}
use Rattle.raft_config.specs.declared.config.Config.{Config}
use Rattle.raft_env.specs.Directory.{CrashImage, Directory, IsRestarted, Leaves}
use Rattle.raft_env.specs.declared.env.FileSystem.{Ghosts}
use Rattle.raft_crash_laws.specs.Queues.{AreDetectableIn}
use Rattle.raft_log_engine.specs.Durability.{Durability, SameButArmed}
use Rattle.raft_log_engine.specs.Engine.{contents_of, directory_of, folders_of, has_failed}
use Rattle.raft_log_engine.specs.Opening.{Opens}
use Rattle.raft_log_engine.specs.declared.engine.Engine.{Engine}
use Rattle.raft_world.specs.Effects.{ArmingHasNoEffect, no_effect}
use Rattle.raft_world.specs.Happens.{BeginsWith, Called, Crashed, Failed, Happens, HasCrashed, Running, ledger_of}
use Rattle.raft_world.specs.Kept.{EachCall, Keeps}
use Rattle.raft_world.specs.Ledger.{Ledger, after_effect, interrupted}
use Rattle.raft_vote.specs.HardState.{has_reached, may_follow, state_in}
use Rattle.raft_vote.specs.Stays.{NodesVoteOnce, OnlyMovesOn, OtherCallsLeaveIt, Stays}
use Rattle.raft_vote.specs.declared.hard_state.HardState.{HardState}
use Rattle.voter.specs.Found.{FindsFirstVote, HasVoted, IsFound, first_vote, fresh_folders}

are_two_votes : ◌≡◌ {A = ℕ} 3 2 → ⊥
are_two_votes same = omega arith

-- Fresh settings name these folders.

abbrev folders_with : List ℕ → Option (List ℕ) → Folders
folders_with main spill = record { main = main; spill = spill }

pub in_fresh_folders : (config : Config) → IsDefault config → folders_in config ≡ fresh_folders
in_fresh_folders config fresh =
    ap (λ (main : List ℕ). folders_with main (option_map string_bytes config.spill_dir)) fresh.dir
    ∙ ap (folders_with []) (ap (option_map string_bytes) fresh.spill_dir)

module _ {F H R W : Type 0} (g : Ghosts F H R W) where
  -- a first save in fresh folders
  pub has_voted : (config : Config) (files : F) (opened later : Engine F H R W g) → IsDefault config → Opens config files (Ok opened) → OnlyMovesOn opened later → Stays 7 first_vote later → HasVoted later
  has_voted config files opened later fresh opens moves stays = record {
    stays = stays;
    folders = moves.call.folders ∙ opens.opened.ok.folders_are ∙ in_fresh_folders config fresh;
  }

  -- the crash of an engine whose storage has these files now, and an opening of what it leaves
  pub is_found : (group : ℕ) (later opened : Engine F H R W g) (left : Directory → CrashImage) (now : Directory) (config : Config) (files : F) → now ≡ directory_of later
      → Leaves now (left now) → IsRestarted now (left now) (g.directory files) → Opens config files (Ok opened) → (result : Result HardState Fault)
      → IfOk result (λ state. state ≡ state_in group (contents_of opened)) → IsFound group later (left (directory_of later)) (folders_in config) result
  is_found group later opened left now config files same leaves restarted opens (Ok found) is = λ state e l stays happened each folders detectable.
      let crash : HasCrashed (folders_of e) (directory_of later) (g.directory files) = record {
        crash = record {
          left = left (directory_of later);
          leaves = subst (λ (n : Directory). Leaves n (left n)) same leaves;
          restarted = subst (λ (n : Directory). IsRestarted n (left n) (g.directory files)) same restarted;
        };
        detectable = detectable;
      } in
      subst (λ (s : HardState). may_follow state s ≡ true) (sym is)
      (stays.opened (g.directory files) l (Crashed (Running later) l (g.directory files) happened crash) each config files (Ok opened) refl (record { same = folders; opens = opens }))
  is_found group later opened left now config files same leaves restarted opens (Err e) is = λ state e' l stays happened each folders detectable. tt

  -- no second vote in the term of the first one
  pub no_second_vote : NodesVoteOnce g → (e : Engine F H R W g) → HasVoted e → (second : HardState) → second.term ≡ 1
      → may_follow (state_in 7 (contents_of e)) second ≡ true → second.vote ≡ 2
  no_second_vote once e voted second same may =
      once 7 first_vote second e e (ledger_of e) voted.stays (BeginsWith e refl voted.stays.alive refl) tt voted.stays.alive may same (λ none. let clash : 2 ≡ 0 = none in absurd cc)

  pub is_not_saved : NodesVoteOnce g → (e : Engine F H R W g) → HasVoted e → (result : Result (Unit {0}) Fault)
      → OnOk result (may_follow (state_in 7 (contents_of e)) (record { term = 1; vote = 3 }) ≡ true) → is_ok result ≡ false
  is_not_saved once e voted (Ok u) may = absurd (are_two_votes (no_second_vote once e voted (record { term = 1; vote = 3 }) refl may))
  is_not_saved once e voted (Err fault) may = refl

  -- an engine that voted, armed its storage, and saved another state
  module _ (arming : ArmingHasNoEffect g) (others : OtherCallsLeaveIt g) (e armed later : Engine F H R W g) (voted : HasVoted e)
      (arms : SameButArmed e armed) (saves : OnlyMovesOn armed later) where
    alive : has_failed e ≡ false
    alive = voted.stays.alive

    stands : has_failed armed ≡ false
    stands = ap (λ (d : Durability). d.failed) arms.state ∙ alive

    abbrev l : Ledger
    l = after_effect no_effect (ledger_of e)

    abbrev armed_happened : Happens g (folders_of e) (ledger_of e) (Running armed) l
    armed_happened = Called e armed (ledger_of e) no_effect (BeginsWith e refl alive refl) (arming e armed arms) stands

    armed_each : EachCall g (folders_of e) (ledger_of e) (Keeps (has_reached 7 first_vote)) (Running armed) l armed_happened
    armed_each = (tt, others 7 e no_effect refl refl (may_follow first_vote))

    -- a crash of the last one, by what an opening in the same folders finds
    pub first_vote_found : (left : CrashImage) (folders : Folders) (result : Result HardState Fault) → IsFound 7 later left folders result → folders ≡ fresh_folders → FindsFirstVote later left result
    first_vote_found left folders result found same detectable = elim (cases_Bool (has_failed later)) [
      | inl failed ↦ found first_vote e (interrupted saves.effect l) voted.stays (Failed armed later l saves.effect armed_happened saves.call stands failed) (armed_each, saves.moves 7 first_vote) in_folders here
      | inr stood ↦ found first_vote e (after_effect saves.effect l) voted.stays (Called armed later l saves.effect armed_happened saves.call stood) (armed_each, saves.moves 7 first_vote) in_folders here
    ]
      where
        in_folders : folders ≡ folders_of e
        in_folders = same ∙ sym voted.folders

        here : AreDetectableIn (folders_of e) (directory_of later) left
        here = subst (λ (f : Folders). AreDetectableIn f (directory_of later) left) (sym voted.folders) detectable
