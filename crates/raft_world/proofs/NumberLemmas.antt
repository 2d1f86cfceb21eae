-- Numbers.
use Rattle.std.proofs.Common.{◌≡◌, ◌∙◌, ◌+◌, ◌++◌, ◌∷◌, ℕ, zero, suc, true, false, Bool, List, [], append-nil, append_assoc, refl, sym, ap, length, subst, inl, inr}
use Rattle.std.proofs.lemmas.Bool.{cases_Bool}
use Rattle.std.specs.Prelude.{take}
use Rattle.std.proofs.Math.Logic.{∥∥₁_elim, ∥∥₁_map, ∥∥₁_prop}
use Rattle.raft_records.specs.Contents.{Contents, after_batch, after_batches, no_contents}
use Rattle.raft_records.specs.Item.{Batch}
use Rattle.raft_env.specs.declared.env.FileSystem.{Ghosts}
use Rattle.raft_config.specs.Folders.{Folders}
use Rattle.raft_once.specs.History.{Act, MayAllAct, are_written, written_of}
use Rattle.raft_crash_laws.specs.Crash.{RecoversContents}
use Rattle.raft_log_engine.specs.Engine.{contents_of, directory_of, durable_of, folders_of, has_failed, unsynced_of}
use Rattle.raft_log_engine.specs.Group.{chosen_of}
use Rattle.raft_log_engine.specs.declared.engine.Engine.{Engine}
use Rattle.raft_world.specs.Call.{HasEffect, MayFollow}
use Rattle.raft_world.proofs.Below.{CrashLaws, OnceLaw}
use Rattle.raft_world.specs.Ledger.{Effect, Ledger, all_durable, durable_contents, interrupted, accepted_contents, after_crash, starts_with}
use Rattle.raft_world.specs.Once.{ActsOnce}
use Rattle.raft_world.specs.Happens.{Happens, Node, Running, Down, Begins, BeginsWith, Opened, OpeningFailed, Called, Failed, Rested, Closed, Reopened, GivenUp, Restarted, Untouched, InsideCall, InsideClose, InsideOpening, Crashed, ledger_of}
use Rattle.raft_world.proofs.LedgerLemmas.{after-append, after_accepting, none_chosen, take_past}
use Rattle.raft_world.proofs.HappensLemmas.{is_safe}

-- Acts.

written_append : (xs ys : List Act) → are_written (xs ++ ys) ≡ are_written xs ++ are_written ys
written_append [] ys = refl
written_append (x ∷ xs) ys = ap (λ l. written_of x ∷ l) (written_append xs ys)

written_take : (k : ℕ) (xs : List Act) → are_written (take k xs) ≡ take k (are_written xs)
written_take zero xs = refl
written_take (suc k) [] = refl
written_take (suc k) (x ∷ xs) = ap (λ l. written_of x ∷ l) (written_take k xs)

may_take : (m : Contents) (k : ℕ) (xs : List Act) → MayAllAct m xs → MayAllAct m (take k xs)
may_take m zero xs may = tt
may_take m (suc k) [] may = tt
may_take m (suc k) (x ∷ xs) may = (may.0, may_take (after_batch m (written_of x)) k xs may.1)

joined : (m : Contents) (xs ys : List Act) → MayAllAct m xs → MayAllAct (after_batches m (are_written xs)) ys → MayAllAct m (xs ++ ys)
joined m [] ys may next = next
joined m (x ∷ xs) ys may next = (may.0, joined (after_batch m (written_of x)) xs ys may.1 next)

-- Batches.

pub none_follow : (m : Contents) → MayFollow m []
none_follow m = ∣ ([], refl, tt) ∣₁

follow_both : (m : Contents) (xs ys : List Batch) → MayFollow m xs → MayFollow (after_batches m xs) ys → MayFollow m (xs ++ ys)
follow_both m xs ys first next = ∥∥₁_elim first ∥∥₁_prop (λ (a, a_is, a_may). ∥∥₁_map next (λ (b, b_is, b_may). (
  a ++ b,
  written_append a b ∙ ap (λ l. l ++ are_written b) a_is ∙ ap (λ l. xs ++ l) b_is,
  joined m a b a_may (subst (λ l. MayAllAct (after_batches m l) b) (sym a_is) b_may),
)))

first_follow : (m : Contents) (xs ys : List Batch) (n : ℕ) → MayFollow m (xs ++ ys) → MayFollow m (xs ++ take n ys)
first_follow m xs ys n follow = ∥∥₁_map follow (λ (a, is, may).
    (take (length xs + n) a, written_take (length xs + n) a ∙ ap (take (length xs + n)) is ∙ take_past xs ys n, may_take m (length xs + n) a may))

-- Logs.

record IsNumbered (l : Ledger) : Type 0 where
  all : MayFollow l.start (l.durable ++ l.unsynced)
  torn : (choice : List Bool) → MayFollow (accepted_contents l) (chosen_of (accepted_contents l) choice l.in_flight)

whole : (l : Ledger) → after_batches l.start (l.durable ++ l.unsynced) ≡ accepted_contents l
whole l = after-append l.start l.durable l.unsynced

untorn : (l : Ledger) → l.in_flight ≡ [] → (choice : List Bool) → MayFollow (accepted_contents l) (chosen_of (accepted_contents l) choice l.in_flight)
untorn l none choice = subst (MayFollow (accepted_contents l)) (sym (ap (chosen_of (accepted_contents l) choice) none ∙ none_chosen (accepted_contents l) choice)) (none_follow (accepted_contents l))

numbered_kept : (l : Ledger) → IsNumbered l → IsNumbered (all_durable l)
numbered_kept l is = record { all = subst (MayFollow l.start) (sym (append-nil (l.durable ++ l.unsynced))) is.all; torn = untorn (all_durable l) refl }

numbered_after : (l : Ledger) (batches : List Batch) (syncs : Bool) → IsNumbered l → MayFollow (accepted_contents l) batches → IsNumbered (after_accepting batches syncs l)
numbered_after l batches syncs is next = by_syncs syncs
  where
    all : MayFollow l.start (l.durable ++ (l.unsynced ++ batches))
    all = subst (MayFollow l.start) (append_assoc l.durable l.unsynced batches) (follow_both l.start (l.durable ++ l.unsynced) batches is.all (subst (λ m. MayFollow m batches) (sym (whole l)) next))

    by_syncs : (syncs : Bool) → IsNumbered (after_accepting batches syncs l)
    by_syncs true = record { all = subst (MayFollow l.start) (sym (append-nil (l.durable ++ (l.unsynced ++ batches)))) all; torn = untorn (after_accepting batches true l) refl }
    by_syncs false = record { all = all; torn = untorn (after_accepting batches false l) refl }

numbered_left : (l : Ledger) (choice : List Bool) (count : ℕ) → IsNumbered l → IsNumbered (after_crash l choice count)
numbered_left l choice count is =
    let torn = chosen_of (accepted_contents l) choice l.in_flight in
    let all : MayFollow l.start ((l.durable ++ l.unsynced) ++ torn) = follow_both l.start (l.durable ++ l.unsynced) torn is.all (subst (λ m. MayFollow m torn) (sym (whole l)) (is.torn choice)) in
    let split : MayFollow l.start (l.durable ++ (l.unsynced ++ torn)) = subst (MayFollow l.start) (append_assoc l.durable l.unsynced torn) all in
    record {
      all = subst (MayFollow l.start) (sym (append-nil (l.durable ++ take count (l.unsynced ++ torn)))) (first_follow l.start l.durable (l.unsynced ++ torn) count split);
      torn = untorn (after_crash l choice count) refl;
    }

module _ {F H R W : Type 0} (g : Ghosts F H R W) (folders : Folders) (first : Ledger) (laws : CrashLaws) (kept : (e : Engine F H R W g) → RecoversContents (folders_of e) (durable_of e) (unsynced_of e) (directory_of e)) where
  holds : (e : Engine F H R W g) (l : Ledger) → Happens g folders first (Running e) l → has_failed e ≡ false → contents_of e ≡ accepted_contents l
  holds e l happened = is_safe g folders laws kept first (Running e) l happened

  stood : (e later : Engine F H R W g) (d : Effect) → HasEffect d e later → has_failed later ≡ false → has_failed e ≡ false
  stood e later d call stands = elim (cases_Bool (has_failed e)) [
    | inl failed ↦ let clash : true ≡ false = sym (call.rests failed).0 ∙ stands in absurd cc
    | inr alive ↦ alive
  ]

  torn_in : (e later : Engine F H R W g) (l : Ledger) (d : Effect) → Happens g folders first (Running e) l → HasEffect d e later → has_failed e ≡ false → IsNumbered l → IsNumbered (interrupted d l)
  torn_in e later l d happened call alive is = record {
    all = is.all;
    torn = λ choice. subst (λ m. MayFollow m (chosen_of m choice d.writes)) (holds e l happened alive) (call.flights alive choice);
  }

  numbered : MayFollow (durable_contents first) first.unsynced → (node : Node g) (l : Ledger) → Happens g folders first node l → ∥ IsNumbered l ∥₁
  numbered acts _ _ (Begins n none clear starts) = ∣ subst IsNumbered (sym starts) (record { all = none_follow no_contents; torn = untorn (starts_with no_contents) refl }) ∣₁
  numbered acts _ _ (BeginsWith e same alive starts) =
      let all : MayFollow (durable_of e) (unsynced_of e) = subst (λ (l : Ledger). MayFollow (durable_contents l) l.unsynced) starts acts in
      ∣ subst IsNumbered (sym starts) (record { all = all; torn = untorn (ledger_of e) refl }) ∣₁
  numbered acts _ _ (Opened config files l later e before opens left) = ∥∥₁_elim (numbered acts (Down (g.directory files)) l before) ∥∥₁_prop (λ is. ∥∥₁_map left (λ (choice, count, later_is, found). subst IsNumbered (sym later_is) (numbered_left l choice count is)))
  numbered acts _ _ (OpeningFailed config files l r before opens clean) = numbered acts (Down (g.directory files)) l before
  numbered acts _ _ (Called e later l d before call stands) = ∥∥₁_map (numbered acts (Running e) l before) (λ is. numbered_after l d.accepts d.syncs is (subst (λ m. MayFollow m d.accepts) (holds e l before (stood e later d call stands)) (call.numbers (stood e later d call stands))))
  numbered acts _ _ (Failed e later l d before call alive fails) = ∥∥₁_map (numbered acts (Running e) l before) (torn_in e later l d before call alive)
  numbered acts _ _ (Rested e later l d before call gone) = numbered acts (Running e) l before
  numbered acts _ _ (Closed e l files before closes) = ∥∥₁_map (numbered acts (Running e) l before) (numbered_kept l)
  numbered acts _ _ (Reopened e later l before reopens) = ∥∥₁_map (numbered acts (Running e) l before) (numbered_kept l)
  numbered acts _ _ (GivenUp e l files before gives clean) = numbered acts (Running e) l before
  numbered acts _ _ (Restarted n later l before anew) = numbered acts (Down n) l before
  numbered acts _ _ (Untouched n later l before same) = numbered acts (Down n) l before
  numbered acts _ _ (InsideCall e later l d n before call alive moment) = ∥∥₁_map (numbered acts (Running e) l before) (torn_in e later l d before call alive)
  numbered acts _ _ (InsideClose e l after n before ends moment) = numbered acts (Running e) l before
  numbered acts _ _ (InsideOpening config files l answer n before opens moment) = numbered acts (Down (g.directory files)) l before
  numbered acts _ _ (Crashed node l after before crash) = numbered acts node l before

  pub acts_once : OnceLaw → MayFollow (durable_contents first) first.unsynced → (node : Node g) (l : Ledger) → Happens g folders first node l → ActsOnce l
  acts_once once acts node l happened = ∥∥₁_elim (numbered acts node l happened) ∥∥₁_prop (λ is. ∥∥₁_map is.all (λ (acts, are, may). (acts, are, may, λ group. once l.start group acts may)))
