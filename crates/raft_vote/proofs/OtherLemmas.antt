-- Calls that leave a group's state.
use Rattle.std.proofs.Common.{◌≡◌, ◌∙◌, ◌∷◌, ℕ, true, false, Bool, List, [], refl, ap}
use Rattle.std.specs.Prelude.{◌==◌, ◌&&◌, ◌||◌, Option, Some, None, if◌then◌else◌, not}
use Rattle.std.specs.List.{AllByRecursion, list_all}
use Rattle.std.specs.Str.{bytes_eq}
use Rattle.raft_once.specs.Numbers.{has_numbers}
use Rattle.raft_records.specs.Contents.{Contents, after_batch, after_content, after_item, with_value}
use Rattle.raft_records.specs.Item.{Batch, Clean, Compact, Content, Delete, Entries, Put, group_mark_key}
use Rattle.raft_env.specs.declared.env.FileSystem.{Ghosts}
use Rattle.raft_log_engine.specs.Cause.{plain_part}
use Rattle.raft_log_engine.specs.Engine.{contents_of}
use Rattle.raft_world.specs.Kept.{CallsKeep, IsKeptBy, WritesKeep}
use Rattle.raft_vote.specs.HardState.{state_in, state_key, state_of_value}
use Rattle.raft_vote.specs.Stays.{OtherCallsLeaveIt, OtherWritesLeaveIt, keeps_state, leaves_state}
use Rattle.raft_vote.specs.declared.hard_state.HardState.{HardState}

both : (a b : Bool) → (a && b) ≡ true → (a ≡ true) × (b ≡ true)
both true b is = (refl, is)
both false b is = let clash : false ≡ true = is in absurd cc

-- One batch.

kept_value : {A : Type 0} (same is_key : Bool) (new old : A) → (not same || not is_key) ≡ true → (if same && is_key then new else old) ≡ old
kept_value true true new old leaves = let clash : false ≡ true = leaves in absurd cc
kept_value true false new old leaves = refl
kept_value false is_key new old leaves = refl

kept_group : {A : Type 0} (same : Bool) (new old : A) → (not same || false) ≡ true → (if same then new else old) ≡ old
kept_group true new old leaves = let clash : false ≡ true = leaves in absurd cc
kept_group false new old leaves = refl

content_leaves : (group other : ℕ) (m : Contents) (content : Content) → (not (group == other) || keeps_state content) ≡ true → (after_content other content m).value group state_key ≡ m.value group state_key
content_leaves group other m (Entries entries) leaves = refl
content_leaves group other m Clean leaves = kept_group (group == other) None (m.value group state_key) leaves
content_leaves group other m (Compact index) leaves = refl
content_leaves group other m (Put key value) leaves = by_mark (bytes_eq key group_mark_key)
  where
    by_mark : (is_mark : Bool) → (if is_mark then m else with_value other key (Some value) m).value group state_key ≡ m.value group state_key
    by_mark true = refl
    by_mark false = kept_value (group == other) (bytes_eq state_key key) (Some value) (m.value group state_key) leaves
content_leaves group other m (Delete key) leaves = kept_value (group == other) (bytes_eq state_key key) None (m.value group state_key) leaves

batch_leaves : (group : ℕ) (m : Contents) (batch : Batch) → leaves_state group batch ≡ true → (after_batch m batch).value group state_key ≡ m.value group state_key
batch_leaves group m [] leaves = refl
batch_leaves group m (item ∷ items) leaves =
    let each = both (not (group == item.group) || keeps_state item.content) (leaves_state group items) leaves in
    batch_leaves group (after_item m item) items each.1 ∙ content_leaves group item.group m item.content each.0

pub kept_by : (group : ℕ) (test : HardState → Bool) (batch : Batch) → leaves_state group batch ≡ true → IsKeptBy (λ m. test (state_in group m)) batch
kept_by group test batch leaves m has = ap (λ (value : Option (List ℕ)). test (state_of_value value)) (batch_leaves group m batch leaves) ∙ has

-- Several batches.

all_keep : (group : ℕ) (test : HardState → Bool) (batches : List Batch) → list_all (leaves_state group) batches ≡ true → AllByRecursion (IsKeptBy (λ m. test (state_in group m))) batches
all_keep group test [] leave = tt
all_keep group test (b ∷ batches) leave =
    let each = both (leaves_state group b) (list_all (leaves_state group) batches) leave in
    (kept_by group test b each.0, all_keep group test batches each.1)

-- Calls.

module _ {F H R W : Type 0} (g : Ghosts F H R W) where
  pub other_calls_leave_it : CallsKeep g → OtherCallsLeaveIt g
  other_calls_leave_it keep group e effect writes accepts test = keep (λ m. test (state_in group m)) e effect (all_keep group test effect.writes writes) (all_keep group test effect.accepts accepts)

  plain_leaves : (group : ℕ) (batch : Batch) → leaves_state group batch ≡ true → (numbers : Bool) → leaves_state group (if numbers then [] else batch) ≡ true
  plain_leaves group batch leaves true = refl
  plain_leaves group batch leaves false = leaves

  pub other_writes_leave_it : WritesKeep g → OtherWritesLeaveIt g
  other_writes_leave_it keep group e batch sync result leaves test =
      keep (λ m. test (state_in group m)) e (plain_part batch) sync result (kept_by group test (plain_part batch) (plain_leaves group batch leaves (has_numbers batch)) (contents_of e))
