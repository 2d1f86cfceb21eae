-- What a save does to an engine.
use Rattle.std.proofs.Common.{◌≡◌, ◌≤◌, ◌∙◌, ◌<◌, ◌^◌, ◌++◌, ◌∷◌, ℕ, true, false, Bool, List, [], append-nil, arith, inl, inr, length, refl, sym, ap, subst}
use Rattle.std.specs.Prelude.{◌==◌, ◌&&◌, ◌||◌, not, Option, Some, Result, Ok, Err, if◌then◌else◌, unwrap_or}
use Rattle.std.proofs.lemmas.Bool.{cases_Bool}
use Rattle.raft_base.specs.declared.errors.Fault.{Fault}
use Rattle.raft_codec.specs.Number.{take_u64, u64_bytes}
use Rattle.raft_records.specs.Batch.{BatchView, batch_of, with_item}
use Rattle.raft_records.specs.Contents.{Contents, after_batch, with_value}
use Rattle.raft_records.specs.Item.{Batch, Item, Put}
use Rattle.raft_env.specs.declared.env.FileSystem.{Ghosts}
use Rattle.raft_crash_laws.specs.Crash.{written_batch}
use Rattle.raft_log_engine.specs.Calls.{IsWrite}
use Rattle.raft_log_engine.specs.Cause.{plain_part}
use Rattle.raft_log_engine.specs.Durability.{accepted_by}
use Rattle.raft_log_engine.specs.Engine.{IsAllSynced, contents_of, has_failed}
use Rattle.raft_log_engine.specs.declared.engine.Engine.{Engine}
use Rattle.raft_world.specs.Call.{HasEffect}
use Rattle.raft_world.specs.Effects.{EffectSyncsAll, NothingHasNoEffect, no_effect, write_effect}
use Rattle.raft_world.specs.Kept.{CallsKeep, WritesKeep}
use Rattle.raft_vote.specs.HardState.{has_reached, may_follow, none_saved, read_state, state_bytes, state_in, state_key, state_of_value, with_term, with_vote}
use Rattle.raft_vote.specs.Stays.{OnlyMovesOn, SavedStatesStay, Stays, keeps_state}
use Rattle.raft_vote.specs.declared.hard_state.HardState.{HardState}
use Rattle.raft_vote.proofs.OtherLemmas.{kept_by}
use Rattle.raft_vote.proofs.StateLemmas.{follows_on, is_same, same_is}

-- what a save writes
abbrev pub save_batch : ℕ → HardState → Batch
save_batch group state = record { group = group; content = Put state_key (state_bytes state) } ∷ []

abbrev state_item : ℕ → HardState → List ℕ → Item
state_item group state key = record { group = group; content = Put key (state_bytes state) }

-- the items of a new batch into which the state was put
pub written_items : (made new : BatchView) (group : ℕ) (state : HardState) (key : List ℕ) → made ≡ batch_of [] → key ≡ state_key → new ≡ with_item made (record { group = group; content = Put key (state_bytes state) }) → new.items ≡ save_batch group state
written_items made new group state key empty same put =
    ap (λ (b : BatchView). b.items) put
    ∙ ap (λ (b : BatchView). b.items ++ (state_item group state key ∷ [])) empty
    ∙ ap (λ (k : List ℕ). state_item group state k ∷ []) same

-- raft_codec's law u64_round_trip, clause `encoded`
abbrev pub RoundTrip : Type 0
RoundTrip = (n : ℕ) (rest : List ℕ) → n < 2 ^ 64 → take_u64 (u64_bytes n ++ rest) ≡ Some (n, rest)

pub read_back : RoundTrip → (state : HardState) → state.term < 2 ^ 64 → state.vote < 2 ^ 64 → read_state (state_bytes state) ≡ Some state
read_back trip state term vote =
    let last : take_u64 (u64_bytes state.vote) ≡ Some (state.vote, []) = ap take_u64 (sym (append-nil (u64_bytes state.vote))) ∙ trip state.vote [] vote in
    ap with_term (trip state.term (u64_bytes state.vote) term) ∙ ap (with_vote state.term) last

pub state_after : (group : ℕ) (m : Contents) (state : HardState) → read_state (state_bytes state) ≡ Some state → state_in group (after_batch m (save_batch group state)) ≡ state
state_after group m state read =
    ap (λ (b : Bool). state_of_value (if b && true then Some (state_bytes state) else m.value group state_key)) (same_is group group refl)
    ∙ ap (λ (found : Option HardState). unwrap_or found none_saved) read

-- it moves each group's state on, or leaves it
reached_after : (group other : ℕ) (m : Contents) (s state : HardState) → read_state (state_bytes state) ≡ Some state → may_follow (state_in group m) state ≡ true
    → has_reached other s m ≡ true → has_reached other s (after_batch m (save_batch group state)) ≡ true
reached_after group other m s state read may has = elim (cases_Bool (other == group)) [
  | inl same ↦
      let is : other ≡ group = is_same other group same in
      let next : may_follow s state ≡ true = follows_on s (state_in group m) state (subst (λ (n : ℕ). has_reached n s m ≡ true) is has) may in
      subst (λ (n : ℕ). has_reached n s (after_batch m (save_batch group state)) ≡ true) (sym is)
      (subst (λ (t : HardState). may_follow s t ≡ true) (sym (state_after group m state read)) next)
  | inr differ ↦ kept_by other (may_follow s) (save_batch group state) (ap (λ (b : Bool). (not b || keeps_state (Put state_key (state_bytes state))) && true) differ) m has
]

none_is_few : length {A = Batch} [] ≤ 1
none_is_few = omega arith

one_is_few : (batch : Batch) → length (batch ∷ []) ≤ 1
one_is_few batch = omega arith

accepts_few : (group : ℕ) (state : HardState) (result : Result ℕ Fault) → length (accepted_by result (written_batch (save_batch group state))) ≤ 1
accepts_few group state (Ok len) = one_is_few (save_batch group state)
accepts_few group state (Err e) = none_is_few

module _ {F H R W : Type 0} (g : Ghosts F H R W) where
  -- a save that only read
  pub no_call : NothingHasNoEffect g → CallsKeep g → (e : Engine F H R W g) → OnlyMovesOn e e
  no_call nothing keep e = record {
    effect = no_effect;
    call = nothing e;
    one = (none_is_few, none_is_few);
    moves = λ group s. keep (has_reached group s) e no_effect tt tt;
  }

  pub write_moves_on : WritesKeep g → (group : ℕ) (items : Batch) (old new : Engine F H R W g) (state : HardState) (result : Result ℕ Fault) → items ≡ save_batch group state → read_state (state_bytes state) ≡ Some state → may_follow (state_in group (contents_of old)) state ≡ true
      → HasEffect (write_effect (plain_part items) true result) old new → OnlyMovesOn old new
  write_moves_on keep group items old new state result is read may call = record {
    effect = write_effect (save_batch group state) true result;
    call = subst (λ (b : Batch). HasEffect (write_effect (plain_part b) true result) old new) is call;
    one = (one_is_few (save_batch group state), accepts_few group state result);
    moves = λ other s. keep (has_reached other s) old (save_batch group state) true result (reached_after group other (contents_of old) s state read may);
  }

  -- a save that returned `Ok`

  pub write_contents : (group : ℕ) (items rest : Batch) (old new : Engine F H R W g) (state : HardState) (len : ℕ) → items ≡ save_batch group state → IsWrite items rest true old new (Ok len)
      → contents_of new ≡ with_value group state_key (Some (state_bytes state)) (contents_of old)
  write_contents group items rest old new state len is write = write.ok.contents ∙ ap (λ (b : Batch). after_batch (contents_of old) b) is

  pub write_saves : (group : ℕ) (items rest : Batch) (old new : Engine F H R W g) (state : HardState) (len : ℕ) → items ≡ save_batch group state → read_state (state_bytes state) ≡ Some state → IsWrite items rest true old new (Ok len)
      → state_in group (contents_of new) ≡ state
  write_saves group items rest old new state len is read write = ap (state_in group) (write_contents group items rest old new state len is write) ∙ state_after group (contents_of old) state read

  pub write_stays : SavedStatesStay g → EffectSyncsAll g → (group : ℕ) (items : Batch) (old new : Engine F H R W g) (state : HardState) (len : ℕ) → state_in group (contents_of new) ≡ state
      → HasEffect (write_effect (plain_part items) true (Ok len)) old new → Stays group state new
  write_stays stay syncs group items old new state len saved call =
      let all : IsAllSynced new × (has_failed new ≡ false) = syncs (write_effect (plain_part items) true (Ok len)) old new call refl in
      subst (λ (s : HardState). Stays group s new) saved (stay group new all.1 all.0)
