-- What calls of a shared engine make of what is durable.
use Rattle.std.proofs.Common.{◌≡◌, ◌∙◌, inl, inr, ℕ, suc, ◌+◌, Bool, true, false, List, [], ◌∷◌, ◌++◌, length, take, Option, None, Some, Result, Ok, Err, refl, sym, ap, subst, arith, length-append}
use Rattle.std.specs.Prelude.{if◌then◌else◌, Vec}
use Rattle.std.specs.declared.alloc.Global.{Global}
use Rattle.std.proofs.lemmas.Bool.{false≢true}
use Rattle.std.proofs.lemmas.List.{append-nil}
use Rattle.raft_base.specs.declared.errors.Fault.{Fault}
use Rattle.raft_env.specs.declared.env.FileSystem.{Ghosts}
use Rattle.raft_records.specs.Contents.{after_batches}
use Rattle.raft_records.specs.Item.{Batch}
use Rattle.raft_log_engine.specs.Advance.{ChangesOnlyItsLog, durable_in, state_of}
use Rattle.raft_log_engine.specs.Calls.{IsSync}
use Rattle.raft_log_engine.specs.PurgeCalls.{IsExpiry}
use Rattle.raft_log_engine.specs.Durability.{Durability, Progresses, covered_by, durability_of}
use Rattle.raft_log_engine.specs.Engine.{base_of as synced_of, contents_of, durable_of, found_of, has_failed}
use Rattle.raft_log_engine.specs.declared.engine.Engine.{Engine}
use Rattle.raft_log_engine.proofs.ProgressLemmas.{ProgressCases, progress_cases}
use Rattle.raft_shared.specs.History.{Done, Event, after_events}
use Rattle.raft_shared.specs.Shared.{RecordsGet, RecordsPurge, RecordsSync, RecordsWrite, base_of, engine_of, history_of}
use Rattle.raft_shared.proofs.PurgeLemmas.{stands_answered}
use Rattle.raft_shared.specs.Words.{answer_by, told_by}
use Rattle.raft_shared.specs.declared.call.Receipt.{Receipt}
use Rattle.raft_shared.specs.declared.seat.Seat.{Seat}
use Rattle.raft_shared.specs.declared.shared.Shared.{Shared}
use Rattle.raft_shared.specs.TicketCalls.{is_done}
use Rattle.raft_shared.specs.Durable.{AreDurable, AreDurableTo}
use Rattle.raft_shared.proofs.Fronts.{begins_itself, take_within}

-- a call that makes sure of nothing leaves what is durable
base_kept : (accepted : List Batch) (covers : Bool) (flight : List Batch) (old new : Durability) → covers ≡ false → Progresses accepted covers flight old new → new.base ≡ old.base
base_kept accepted covers flight old new none p = at (progress_cases accepted covers flight old new p)
  where
    at : ProgressCases accepted covers flight old new → new.base ≡ old.base
    at (inl rest) = rest.base
    at (inr (inl added)) = added.base
    at (inr (inr (inl synced))) = absurd (false≢true (sym none ∙ synced.covers_all))
    at (inr (inr (inr fails))) = fails.base

-- one that makes sure of all leaves nothing that isn't
nothing_left : (accepted : List Batch) (covers : Bool) (flight : List Batch) (old new : Durability) → covers ≡ true → Progresses accepted covers flight old new → new.unsynced ≡ []
nothing_left accepted covers flight old new all p = at (progress_cases accepted covers flight old new p)
  where
    at : ProgressCases accepted covers flight old new → new.unsynced ≡ []
    at (inl rest) = absurd (false≢true (sym rest.covers_none ∙ all))
    at (inr (inl added)) = absurd (false≢true (sym added.covers_none ∙ all))
    at (inr (inr (inl synced))) = synced.unsynced
    at (inr (inr (inr fails))) = absurd (false≢true (sym fails.covers_none ∙ all))

pub covers_none : {T : Type 0} (result : Result T Fault) → covered_by result false ≡ false
covers_none (Ok x) = refl
covers_none (Err e) = refl

module _ {F H R W : Type 0} {g : Ghosts F H R W} where
  pub durable_stays : (accepted : List Batch) (covers : Bool) (flight : List Batch) (old new : Engine F H R W g) → covers ≡ false → Progresses accepted covers flight (durability_of old) (durability_of new) → ChangesOnlyItsLog (state_of old) (state_of new) → durable_of new ≡ durable_of old
  durable_stays accepted covers flight old new none progress only =
      let base = base_kept accepted covers flight _ _ none progress in
      λ i. durable_in (record (state_of old) { folders = only.folders i; begun = only.begun i; durability = record (durability_of old) { base = base i } })

  durable_all : (old new : Engine F H R W g) → Progresses [] true [] (durability_of old) (durability_of new) → durable_of new ≡ contents_of new
  durable_all old new progress =
      sym (ap (λ (u : List Batch). after_batches (found_of new) (synced_of new ++ u)) (nothing_left [] true [] _ _ refl progress) ∙ ap (after_batches (found_of new)) (append-nil (synced_of new)))

  pub none_durable : (shared : Shared F H R W g) → AreDurableTo None shared
  none_durable shared number is = absurd cc

  -- a history that grew by a call that made sure of nothing
  pub durable_kept : (last : Option ℕ) (old new : Shared F H R W g) (event : Event) → AreDurableTo last old → base_of new ≡ base_of old → history_of new ≡ history_of old ++ event ∷ []
      → durable_of (engine_of new) ≡ durable_of (engine_of old) → AreDurableTo last new
  durable_kept last old new event was base grown durable number is =
      let d = was number is in
      let more : length (history_of new) ≡ length (history_of old) + 1 = ap length grown ∙ length-append (history_of old) (event ∷ []) in
      let first : take (suc number) (history_of new) ≡ take (suc number) (history_of old) = ap (take (suc number)) grown ∙ take_within (suc number) (history_of old) (event ∷ []) d.within in
      record { within = omega (arith, d.within, more); leaves = durable ∙ d.leaves ∙ sym (λ i. after_events (base i) (first i)) }

  -- .. that is as it was
  pub durable_so : (last : Option ℕ) (old new : Shared F H R W g) → AreDurableTo last old → base_of new ≡ base_of old → history_of new ≡ history_of old → engine_of new ≡ engine_of old → AreDurableTo last new
  durable_so last old new was base history engine number is =
      let d = was number is in
      record { within = rw history d.within; leaves = ap durable_of engine ∙ d.leaves ∙ sym (λ i. after_events (base i) (take (suc number) (history i))) }

  -- one that made sure of all
  durable_now : (old new : Shared F H R W g) (event : Event) → history_of new ≡ history_of old ++ event ∷ [] → durable_of (engine_of new) ≡ contents_of (engine_of new) → has_failed (engine_of new) ≡ false → AreDurable (suc (length (history_of old))) new
  durable_now old new event grown all stands =
      let whole : suc (length (history_of old)) ≡ length (history_of new) = omega (arith, ap length grown, length-append (history_of old) (event ∷ [])) in
      record {
        within = omega (arith, whole);
        leaves = all ∙ new.contents stands ∙ ap (after_events (base_of new)) (sym (ap (λ n. take n (history_of new)) whole ∙ begins_itself (history_of new)));
      }

  -- which calls are durable after a sync
  pub sync_covers : (before last : Option ℕ) (old new : Shared F H R W g) (seat seat' : Seat) (receipt : Receipt) → AreDurableTo before old → RecordsSync old new seat seat' receipt
      → last ≡ (if is_done (told_by receipt).answer then Some receipt.number else before) → AreDurableTo last new
  sync_covers before last old new seat seat' receipt was r is =
      at r.result r.sync (is ∙ ap (λ t. if is_done t.answer then Some receipt.number else before) r.recorded.receipt_is)
    where
      at : (result : Result (Unit {0}) Fault) → IsSync (engine_of old) (engine_of new) result → last ≡ (if is_done (Done (answer_by (λ _. tt) result)) then Some receipt.number else before) → AreDurableTo last new
      at (Ok done) s all = λ number now.
          let here : length (history_of old) ≡ number = sym (ap (λ t. t.number) r.recorded.receipt_is) ∙ cc (all, now) in
          subst (λ (n : ℕ). AreDurable (suc n) new) here (durable_now old new _ r.recorded.history (durable_all (engine_of old) (engine_of new) s.advance.progress) s.stands)
      at (Err e) s same = durable_kept last old new _ (subst (λ (o : Option ℕ). AreDurableTo o old) (sym same) was) r.recorded.same.base r.recorded.history (durable_stays [] false [] (engine_of old) (engine_of new) refl s.advance.progress s.advance.only.log)

  -- .. after a purge
  pub purge_covers : (before last : Option ℕ) (barrier : ℕ) (old new : Shared F H R W g) (seat seat' : Seat) (asked : List ℕ) (receipt : Receipt) → AreDurableTo before old → RecordsPurge barrier old new seat seat' asked receipt
      → last ≡ (if is_done (told_by receipt).answer then Some receipt.number else before) → AreDurableTo last new
  purge_covers before last barrier old new seat seat' asked receipt was r is =
      at r.result r.purge (is ∙ ap (λ t. if is_done t.answer then Some receipt.number else before) r.recorded.receipt_is)
    where
      at : (result : Result (Vec ℕ Global) Fault) → IsExpiry barrier (engine_of old) (engine_of new) result → last ≡ (if is_done (Done (answer_by (λ _. tt) result)) then Some receipt.number else before) → AreDurableTo last new
      at (Ok groups) p all = λ number now.
          let here : length (history_of old) ≡ number = sym (ap (λ t. t.number) r.recorded.receipt_is) ∙ cc (all, now) in
          subst (λ (n : ℕ). AreDurable (suc n) new) here (durable_now old new _ r.recorded.history (durable_all (engine_of old) (engine_of new) p.log.progress) (stands_answered barrier (engine_of old) (engine_of new) groups p))
      at (Err e) p same = durable_kept last old new _ (subst (λ (o : Option ℕ). AreDurableTo o old) (sym same) was) r.recorded.same.base r.recorded.history (durable_stays [] false [] (engine_of old) (engine_of new) refl p.log.progress p.log.others)

  -- a write without a sync
  pub write_keeps : (last : Option ℕ) (items rest : Batch) (old new : Shared F H R W g) (seat seat' : Seat) (receipt : Receipt) → AreDurableTo last old → RecordsWrite items rest false old new seat seat' receipt → AreDurableTo last new
  write_keeps last items rest old new seat seat' receipt was r =
      durable_kept last old new _ was r.recorded.same.base r.recorded.history (durable_stays _ (covered_by r.result false) _ (engine_of old) (engine_of new) (covers_none r.result) r.write.call.advance.progress r.write.call.advance.only.log)

  -- a look-up
  pub get_keeps : (last : Option ℕ) (group : ℕ) (key : List ℕ) (old new : Shared F H R W g) (seat seat' : Seat) (receipt : Receipt) → AreDurableTo last old → RecordsGet group key old new seat seat' receipt → AreDurableTo last new
  get_keeps last group key old new seat seat' receipt was r =
      durable_kept last old new _ was r.recorded.same.base r.recorded.history (ap durable_of r.engine)
