-- Operations under way: the batch of acts, and what the operations so far leave.
use Rattle.std.proofs.Common.{◌≡◌, ℕ, suc, ◌+◌, ◌<◌, ◌≤◌, Bool, true, false, cond, inl, inr, ⊎_elim, List, [], ◌∷◌, ◌++◌, length, length-drop, take, drop, drop-cons, get_or, Option, Some, None, refl, sym, ◌∙◌, ap, subst, append_assoc, arith}
use Rattle.std.specs.Prelude.{◌^◌, ◌⊎◌, ◌||◌, ◌↔◌, IfErr, IfOk, OnErr, OnOk, IsErrAnd, IsSome, IsSomeAnd, MatchResult, Result, Ok, Err, String, Vec, is_ok, option_map}
use Rattle.std.proofs.lemmas.Bool.{cases_Bool}
use Rattle.std.proofs.lemmas.List.{append-nil, nil_from_length}
use Rattle.std.proofs.lemmas.List.Sums.{sum_by-append}
use Rattle.std.proofs.Math.Seq.{take-suc}
use Rattle.raft_records.specs.Contents.{Contents, after_batch}
use Rattle.raft_env.specs.declared.env.FileSystem.{Ghosts}
use Rattle.raft_records.specs.Item.{Batch}
use Rattle.raft_records.specs.Layout.{entry_bytes}
use Rattle.raft_records.specs.Validity.{IsValidBatch, batch_refusal}
use Rattle.raft_base.specs.Fault.{fault_code}
use Rattle.raft_base.specs.declared.errors.Fault.{Fault}
use Rattle.raft_base.specs.declared.errors.Fault.TheVariants as fault
use Rattle.raft_base.specs.declared.errors.IoKind.{IoKind}
use Rattle.std.specs.declared.alloc.Global.{Global}
use Rattle.raft_log_engine.specs.Cause as engine
use Rattle.raft_log_engine.specs.Purge as purges
use Rattle.raft_pipes.specs.PipeState.{HasLastNumber, PipeState}
use Rattle.raft_pipes.specs.Queue.{NamesLog}
use Rattle.raft_env.specs.Refusal.{FailsAt, FailsCountedAt, Refusals, RoseBy}
use Rattle.raft_log_engine.specs.Durability.{HasWritten}
use Rattle.raft_log_engine.specs.Engine.{contents_of, has_failed, queue_of, refusals_of}
use Rattle.raft_log_engine.specs.declared.engine.Engine.{Engine}
use Rattle.raft_once.specs.Numbers.{Pair, has_numbers, meets_number, numbered}
use Rattle.raft_purge_steps.specs.Unfit.{IsUnfit}
use Rattle.raft_script.specs.Batches.{accepted_of, batch_of_acts, batches_of_parts, is_answered, items_of_act, of_both}
use Rattle.raft_script.specs.Failure.{FailsBy, FailsFor, FailsInPurge, IsFailing, IsPurgeFailure, IsRenewalFailure, IsSteadyBy, IsStorageOrMemory, Refuses, io_count, io_in, is_io}
use Rattle.raft_script.specs.Run.{AreBatchAnswers, IsAnswer, IsBatchRefusal, IsCompactRefusal, IsEngineRefusal, IsGetRefusal, IsOutOfNumbers, IsPurgeAnswer, IsRefusedPurge, IsTextRefusal, IsNew, IsOnceRefusal, IsUnbuilt, IsWriteRefusal, IsWritten}
use Rattle.raft_log_engine.specs.Reads.{IsEntryAnswer, IsEntryRefusalAt, IsGroupList, compact_count, entry_of}
use Rattle.raft_script.specs.Entry.{IsTextOf, index_of}
use Rattle.raft_script.specs.declared.text_entry.TextEntry.{TextEntry}
use Rattle.raft_script.specs.declared.operation.Act.{Act}
use Rattle.raft_script.specs.declared.operation.Op.{Op}
use Rattle.raft_script.specs.declared.operation.Op.TheVariants as operation
use Rattle.raft_script.specs.declared.operation.Op.TheVariants.{Write, WriteGroup, WriteOnce, Sync, Get, CompactTo, First, Last, RewriteAppend, RewriteRewrite, PurgeStale, Purge}
use Rattle.raft_script.specs.declared.operation.Outcome.{Outcome}
use Rattle.raft_script.specs.declared.operation.Outcome.TheVariants as reply
use Rattle.raft_script.specs.declared.operation.Outcome.TheVariants.{Size, Sizes, Done, Value, Count, Index, Dropped, ToCompact}
use Rattle.raft_config.specs.Folders.{Folders}

-- items before others, where there are both
abbrev with_items : Option Batch → Option Batch → Option Batch
with_items = of_both (λ items others. items ++ others)

-- items, followed by the batch of more acts, where there is one
abbrev pub followed_by : Batch → Option Batch → Option Batch
followed_by items rest = option_map (λ more. items ++ more) rest

-- the items are those of the first acts of a list
abbrev pub IsBuilt : Batch → ℕ → List Act → Type 0
IsBuilt items n acts = followed_by items (batch_of_acts (drop n acts)) ≡ batch_of_acts acts

followed_by-with_items : (items more : Batch) (rest : Option Batch) → followed_by items (with_items (Some more) rest) ≡ followed_by (items ++ more) rest
followed_by-with_items items more None = refl
followed_by-with_items items more (Some others) = ap Some (sym (append_assoc items more others))

pub ahead : {X : Type 0} (xs : List X) (i : ℕ) (x : X) → i < length xs → x ≡ get_or xs i x → drop i xs ≡ x ∷ drop (i + 1) xs
ahead xs i x within is =
    let next : suc i ≡ i + 1 = omega arith in
    drop-cons xs i x within ∙ ap (λ y. y ∷ drop (suc i) xs) (sym is) ∙ ap (λ (n : ℕ). x ∷ drop n xs) next

pub built_more : (items : Batch) (n : ℕ) (acts : List Act) (act : Act) (more : Batch) → n < length acts → act ≡ get_or acts n act → items_of_act act ≡ Some more → IsBuilt items n acts → IsBuilt (items ++ more) (n + 1) acts
built_more items n acts act more within is more_is built =
    sym (followed_by-with_items items more (batch_of_acts (drop (n + 1) acts)))
    ∙ ap (λ o. followed_by items (with_items o (batch_of_acts (drop (n + 1) acts)))) (sym more_is)
    ∙ ap (λ l. followed_by items (batch_of_acts l)) (sym (ahead acts n act within is))
    ∙ built

pub taken_more : {X : Type 0} (xs : List X) (i : ℕ) (x : X) → i < length xs → x ≡ get_or xs i x → take (i + 1) xs ≡ take i xs ++ x ∷ []
taken_more xs i x within is =
    let next : i + 1 ≡ suc i = omega arith in
    ap (λ (n : ℕ). take n xs) next ∙ take-suc xs i x within ∙ ap (λ y. take i xs ++ y ∷ []) (sym is)

-- the batch of one act more
batch_push : (acts : List Act) (a : Act) (items more : Batch) → batch_of_acts acts ≡ Some items → items_of_act a ≡ Some more → batch_of_acts (acts ++ a ∷ []) ≡ Some (items ++ more)
batch_push [] a items more built is = let none : [] ≡ items = cc in ap (λ o. with_items o (Some [])) is ∙ ap Some (append-nil more ∙ ap (λ (l : Batch). l ++ more) none)
batch_push (b ∷ acts) a items more built is = by_first (items_of_act b) (batch_of_acts acts) built (λ others rest. batch_push acts a others more rest is)
  where
    by_first : (first rest : Option Batch) → with_items first rest ≡ Some items → ((others : Batch) → rest ≡ Some others → batch_of_acts (acts ++ a ∷ []) ≡ Some (others ++ more)) → with_items first (batch_of_acts (acts ++ a ∷ [])) ≡ Some (items ++ more)
    by_first None rest built pushed = cc
    by_first (Some first) None built pushed = cc
    by_first (Some first) (Some others) built pushed =
        let all : first ++ others ≡ items = cc in
        ap (with_items (Some first)) (pushed others refl) ∙ ap Some (sym (append_assoc first others more) ∙ ap (λ (l : Batch). l ++ more) all)

-- the batch of the first acts, with one more
pub taken_built : (items more : Batch) (n : ℕ) (acts : List Act) (act : Act) → n < length acts → act ≡ get_or acts n act → items_of_act act ≡ Some more → batch_of_acts (take n acts) ≡ Some items → batch_of_acts (take (n + 1) acts) ≡ Some (items ++ more)
taken_built items more n acts act within is more_is built = ap batch_of_acts (taken_more acts n act within is) ∙ batch_push (take n acts) act items more built more_is

-- no batch where an act has no item
built_refused : (items : Batch) (n : ℕ) (acts : List Act) (act : Act) → n < length acts → act ≡ get_or acts n act → items_of_act act ≡ None → IsBuilt items n acts → batch_of_acts acts ≡ None
built_refused items n acts act within is none built =
    sym built
    ∙ ap (λ l. followed_by items (batch_of_acts l)) (ahead acts n act within is)
    ∙ ap (λ o. followed_by items (with_items o (batch_of_acts (drop (n + 1) acts)))) none

-- what the refusal of one act more says of all acts
pub unbuilt_by : (e : Fault) (items : Batch) (n : ℕ) (acts : List Act) (act : Act) → n < length acts → act ≡ get_or acts n act → IsBuilt items n acts → batch_of_acts (take n acts) ≡ Some items
    → (e ≡ fault.Memory) ⊎ ((fault_code e ≡ 1) × (items_of_act act ≡ None)) ⊎ ((e ≡ fault.Range) × (more : Batch) × (items_of_act act ≡ Some more) × (2 ^ 32 ≤ length (entry_bytes (items ++ more)))) → IsUnbuilt acts e
unbuilt_by e items n acts act within is built first (inl memory) = inl memory
unbuilt_by e items n acts act within is built first (inr (inl r)) = inr (inl (r.0, built_refused items n acts act within is r.1 built))
unbuilt_by e items n acts act within is built first (inr (inr r)) = inr (inr (r.0, (n + 1, items ++ r.1, taken_built items r.1 n acts act within is r.2 first, r.3)))

pub built_ended : (items : Batch) (n : ℕ) (acts : List Act) → drop n acts ≡ [] → IsBuilt items n acts → batch_of_acts acts ≡ Some items
built_ended items n acts none built = sym built ∙ ap (λ l. followed_by items (batch_of_acts l)) none ∙ ap Some (append-nil items)

pub same_err : {T : Type 0} {x y : Fault} (r : Result T Fault) → r ≡ Err x → r ≡ Err y → x ≡ y
same_err r a b = cc

-- what is known of the batch of acts
pub of_built : (P : Batch → Type 0) (acts : List Act) (items : Batch) → batch_of_acts acts ≡ Some items → P items → IsSomeAnd (batch_of_acts acts) P
of_built P acts items built h = subst (λ (o : Option Batch). IsSomeAnd o P) (sym built) h

-- an engine's write of such a batch is answered as the operation
module _ {F H R W : Type 0} {g : Ghosts F H R W} (acts : List Act) (items rest : Batch) (folders : Folders) (m : Contents) (old new : Engine F H R W g) (built : batch_of_acts acts ≡ Some items) (same : has_failed old ≡ false → m ≡ contents_of old) where
  -- the engine stands, and no number is left
  abbrev NoneLeft : Type 0
  NoneLeft = (has_failed new ≡ false) × HasLastNumber (queue_of new)

  pub write_answered : (result : Result ℕ Fault) → IfOk result (HasWritten items rest old new) → OnOk result (has_numbers items ≡ false) → ((result ≡ Err fault.Failed) ↔ (has_failed old ≡ true)) → IfErr result (λ e. has_failed old ≡ false → engine.IsWriteRefusal folders (queue_of new) (contents_of old) items (has_failed new) (refusals_of old) (refusals_of new) e) →
      MatchResult result (IsWritten m acts) (IsWriteRefusal NoneLeft m acts)
  write_answered (Ok len) written plain failed cause = elim (cases_Bool (has_failed old)) [
    | inl gone ↦ absurd (let clash = failed.1 gone in cc)
    | inr stands ↦ (items, built, plain, subst (λ (c : Contents). IsValidBatch c items) (sym (same stands)) written.valid, written.len_is)
  ]
  write_answered (Err e) written plain failed cause = elim (cases_Bool (has_failed old)) [
    | inl gone ↦ let is : e ≡ fault.Failed = same_err (Err e) refl (failed.1 gone) in subst (IsWriteRefusal NoneLeft m acts) (sym is) (subst IsSome (sym built) refl)
    | inr stands ↦ by_fault e (subst (λ (c : Contents). engine.IsWriteRefusal folders (queue_of new) c items (has_failed new) (refusals_of old) (refusals_of new) e) (sym (same stands)) (cause stands))
  ]
    where
      by_fault : (e : Fault) → engine.IsWriteRefusal folders (queue_of new) m items (has_failed new) (refusals_of old) (refusals_of new) e → IsWriteRefusal NoneLeft m acts e
      by_fault (fault.InvalidArgument text) h = inr (of_built (λ batch. meets_number m batch ≡ true) acts items built h.0)
      by_fault (fault.Io kind path) h = of_built (engine.IsWritable m) acts items built h.0
      by_fault fault.TryAgain h = of_built (engine.IsWritable m) acts items built h.0
      by_fault fault.Memory h = tt
      by_fault fault.Gap h = of_built (λ batch. batch_refusal m batch ≡ Some fault.Gap) acts items built h.0
      by_fault fault.Range h = inr (of_built (IsOutOfNumbers NoneLeft m) acts items built (elim h.0 [
        | inl out ↦ inl out
        | inr last ↦ inr (last.0, (h.1, last.1))
      ]))
      by_fault _ h = absurd h.1

-- .. and so is a compaction
module _ (m n : Contents) (group index : ℕ) (failed : Bool) (folders : Folders) (old new : Refusals) (same : failed ≡ false → m ≡ n) where
  engine_refusal : (e : Fault) → FailsAt (NamesLog folders) old new e → IsEngineRefusal e
  engine_refusal (fault.Io kind path) h = tt
  engine_refusal fault.Memory h = tt
  engine_refusal _ h = absurd h

  append_refusal : (p : PipeState) (fails : Bool) (e : Fault) → engine.IsAppendRefusal folders p fails old new e → IsCompactRefusal ((fails ≡ false) × HasLastNumber p) e
  append_refusal p fails (fault.Io kind path) h = tt
  append_refusal p fails fault.TryAgain h = tt
  append_refusal p fails fault.Memory h = tt
  append_refusal p fails fault.Range h = (h.1, h.0)
  append_refusal p fails _ h = absurd h

  pub compaction_answered : (p : PipeState) (fails : Bool) (result : Result ℕ Fault) → IfOk result (λ count. count ≡ compact_count index (n.entries group)) → ((result ≡ Err fault.Failed) ↔ (failed ≡ true)) → IfErr result (λ e. failed ≡ false → engine.IsAppendRefusal folders p fails old new e)
      → MatchResult result (λ count. count ≡ compact_count index (m.entries group)) (IsCompactRefusal ((fails ≡ false) × HasLastNumber p))
  compaction_answered p fails (Ok count) is told cause = elim (cases_Bool failed) [
    | inl gone ↦ absurd (let clash = told.1 gone in cc)
    | inr stands ↦ is ∙ ap (λ (c : Contents). compact_count index (c.entries group)) (sym (same stands))
  ]
  compaction_answered p fails (Err e) is told cause = elim (cases_Bool failed) [
    | inl gone ↦ let e_is : e ≡ fault.Failed = same_err (Err e) refl (told.1 gone) in subst (IsCompactRefusal ((fails ≡ false) × HasLastNumber p)) (sym e_is) tt
    | inr stands ↦ append_refusal p fails e (cause stands)
  ]

  -- a read of an entry
  pub entry_answered : (result : Result (Option TextEntry) Fault) → IfOk result (IsEntryAnswer IsTextOf index_of index (entry_of n group index)) → ((result ≡ Err fault.Failed) ↔ (failed ≡ true))
      → IfErr result (λ e. failed ≡ false → IsEntryRefusalAt IsTextOf index_of index (entry_of n group index) e ⊎ FailsAt (NamesLog folders) old new e)
      → MatchResult result (IsEntryAnswer IsTextOf index_of index (entry_of m group index)) (IsTextRefusal index (entry_of m group index))
  entry_answered (Ok found) is fails cause = elim (cases_Bool failed) [
    | inl gone ↦ absurd (let clash = fails.1 gone in cc)
    | inr stands ↦ subst (λ (c : Contents). IsEntryAnswer IsTextOf index_of index (entry_of c group index) found) (sym (same stands)) is
  ]
  entry_answered (Err e) is fails cause = elim (cases_Bool failed) [
    | inl gone ↦ let e_is : e ≡ fault.Failed = same_err (Err e) refl (fails.1 gone) in inr (subst IsEngineRefusal (sym e_is) tt)
    | inr stands ↦ subst (λ (c : Contents). IsTextRefusal index (entry_of c group index) e) (sym (same stands)) (elim (cause stands) [
      | inl told ↦ inl told
      | inr refused ↦ inr (engine_refusal e refused)
    ])
  ]

  no_entry_io : (bytes : Option (List ℕ)) (kind : IoKind) (path : String Global) → IsEntryRefusalAt IsTextOf index_of index bytes (fault.Io kind path) → ⊥
  no_entry_io None kind path told = told
  no_entry_io (Some bytes) kind path told = told

  no_entry_again : (bytes : Option (List ℕ)) → IsEntryRefusalAt IsTextOf index_of index bytes fault.TryAgain → ⊥
  no_entry_again None told = told
  no_entry_again (Some bytes) told = told

  -- .. that storage fails is counted
  pub entry_rose : (result : Result (Option TextEntry) Fault) → ((result ≡ Err fault.Failed) ↔ (failed ≡ true)) → IfErr result (λ e. failed ≡ false → IsEntryRefusalAt IsTextOf index_of index (entry_of n group index) e ⊎ FailsAt (NamesLog folders) old new e)
      → is_io result ≡ true → RoseBy 1 old new
  entry_rose (Ok found) fails cause io = absurd cc
  entry_rose (Err (fault.Io kind path)) fails cause io = elim (cases_Bool failed) [
    | inl gone ↦ absurd (let clash = fails.1 gone in cc)
    | inr stands ↦ elim (cause stands) [
      | inl told ↦ absurd (no_entry_io (entry_of n group index) kind path told)
      | inr refused ↦ refused.0
    ]
  ]
  entry_rose (Err fault.TryAgain) fails cause io = elim (cases_Bool failed) [
    | inl gone ↦ absurd (let clash = fails.1 gone in cc)
    | inr stands ↦ elim (cause stands) [
      | inl told ↦ absurd (no_entry_again (entry_of n group index) told)
      | inr refused ↦ absurd refused
    ]
  ]
  entry_rose (Err _) fails cause io = absurd cc

-- a compaction fails an engine by storage or for lack of memory alone
pub compaction_fails : (P R S : Type 0) (Q : Fault → Type 0) (failed fails : Bool) (folders : Folders) (p : PipeState) (old new : Refusals) (result : Result ℕ Fault) → MatchResult result (λ _. (fails ≡ false) × P × R × S) Q → ((result ≡ Err fault.Failed) ↔ (failed ≡ true)) → (failed ≡ true → fails ≡ true)
    → IfErr result (λ e. failed ≡ false → engine.IsAppendRefusal folders p fails old new e) → FailsBy failed result fails (λ _. ⊥)
compaction_fails P R S Q failed fails folders p old new result ok told still cause = record {
  still = still;
  only_failed = told.0;
  refused = λ gone. inl (told.1 gone);
  cause = caused result ok cause;
}
  where
    by_fault : (e : Fault) → engine.IsAppendRefusal folders p fails old new e → fails ≡ true → IsStorageOrMemory e
    by_fault (fault.Io kind path) h dies = tt
    by_fault fault.Memory h dies = tt
    by_fault fault.Range h dies = absurd (let clash = sym dies ∙ h.1 in cc)
    by_fault fault.TryAgain h dies = absurd (let clash = sym dies ∙ h.1 in cc)
    by_fault _ h dies = absurd h

    caused : (result : Result ℕ Fault) → MatchResult result (λ _. (fails ≡ false) × P × R × S) Q → IfErr result (λ e. failed ≡ false → engine.IsAppendRefusal folders p fails old new e) → failed ≡ false → fails ≡ true → IsErrAnd result IsStorageOrMemory
    caused (Ok count) ok cause alive dies = absurd (let clash = sym dies ∙ ok.0 in cc)
    caused (Err e) ok cause alive dies = by_fault e (cause alive) dies

-- .. and so a sync, which fails it where it isn't answered
pub sync_fails : {T : Type 0} (failed fails : Bool) (folders : Folders) (old new : Refusals) (result : Result T Fault) → OnOk result (fails ≡ false) → OnErr result (fails ≡ true) → ((result ≡ Err fault.Failed) ↔ (failed ≡ true)) → (failed ≡ true → fails ≡ true)
    → IfErr result (λ e. failed ≡ false → FailsCountedAt (NamesLog folders) old new e) → FailsBy failed result fails (λ _. ⊥) × (is_ok result ≡ false → fails ≡ true)
sync_fails {T} failed fails folders old new result stands err told still cause = (
  record {
    still = still;
    only_failed = told.0;
    refused = λ gone. inl (told.1 gone);
    cause = caused result stands cause;
  },
  ended result err,
)
  where
    by_fault : (e : Fault) → FailsCountedAt (NamesLog folders) old new e → IsStorageOrMemory e
    by_fault (fault.Io kind text) h = tt
    by_fault fault.Memory h = tt
    by_fault _ h = absurd h

    caused : (result : Result T Fault) → OnOk result (fails ≡ false) → IfErr result (λ e. failed ≡ false → FailsCountedAt (NamesLog folders) old new e) → failed ≡ false → fails ≡ true → IsErrAnd result IsStorageOrMemory
    caused (Ok x) stands cause alive dies = absurd (let clash = sym dies ∙ stands in cc)
    caused (Err e) stands cause alive dies = by_fault e (cause alive)

    ended : (result : Result T Fault) → OnErr result (fails ≡ true) → is_ok result ≡ false → fails ≡ true
    ended (Ok x) err clash = absurd cc
    ended (Err e) err clash = err

-- a purge
module _ {T : Type 0} (x : Contents) (append rewrite : PipeState) (ends_open no_id : Type 0) (failed fails : Bool) (folders : Folders) (old new : Refusals) (result : Result T Fault) (told : (result ≡ Err fault.Failed) ↔ (failed ≡ true)) (cause : failed ≡ false → IfErr result (purges.IsPurgeFault x append rewrite ends_open no_id folders fails old new)) where
  abbrev IsCaused : Fault → Type 0
  IsCaused e = purges.IsPurgeFault x append rewrite ends_open no_id folders fails old new e

  -- is answered so
  pub purge_answered : (m : Contents) → (failed ≡ false → m ≡ x) → IsPurgeAnswer m result
  purge_answered m same = by_result result told cause
    where
      by_fault : m ≡ x → (e : Fault) → IsCaused e → IsRefusedPurge m e
      by_fault is (fault.InvalidArgument text) h = subst (λ (c : Contents). IsUnfit c (fault.InvalidArgument text)) (sym is) h.1
      by_fault is (fault.Io kind path) h = tt
      by_fault is fault.TryAgain h = tt
      by_fault is fault.Memory h = tt
      by_fault is fault.Range h = tt
      by_fault is _ h = absurd h

      by_result : (r : Result T Fault) → ((r ≡ Err fault.Failed) ↔ (failed ≡ true)) → (failed ≡ false → IfErr r IsCaused) → IsPurgeAnswer m r
      by_result (Ok count) told cause = tt
      by_result (Err e) told cause = elim (cases_Bool failed) [
        | inl gone ↦ let e_is : e ≡ fault.Failed = same_err (Err e) refl (told.1 gone) in subst (IsRefusedPurge m) (sym e_is) tt
        | inr stands ↦ by_fault (same stands) e (cause stands)
      ]

  -- that storage fails is counted
  pub purge_rose : is_io result ≡ true → RoseBy 1 old new
  purge_rose io = by_result result told cause io
    where
      by_result : (r : Result T Fault) → ((r ≡ Err fault.Failed) ↔ (failed ≡ true)) → (failed ≡ false → IfErr r IsCaused) → is_io r ≡ true → RoseBy 1 old new
      by_result (Ok count) told cause io = absurd cc
      by_result (Err (fault.Io kind path)) told cause io = elim (cases_Bool failed) [
        | inl gone ↦ absurd (let clash = told.1 gone in cc)
        | inr stands ↦ (cause stands).0
      ]
      by_result (Err fault.TryAgain) told cause io = elim (cases_Bool failed) [
        | inl gone ↦ absurd (let clash = told.1 gone in cc)
        | inr stands ↦ (cause stands).0
      ]
      by_result (Err _) told cause io = absurd cc

  -- it fails an engine for such a cause alone
  fails_for : (P : Fault → Type 0) → ((e : Fault) → IsCaused e → fails ≡ true → P e) → IfOk result (λ _. fails ≡ false) → (failed ≡ true → fails ≡ true) → FailsInPurge P failed result fails
  fails_for P by_fault ok still = record {
    still = still;
    only_failed = told.0;
    refused = λ gone. inl (told.1 gone);
    cause = by_result result told cause ok;
  }
    where
      by_result : (r : Result T Fault) → ((r ≡ Err fault.Failed) ↔ (failed ≡ true)) → (failed ≡ false → IfErr r IsCaused) → IfOk r (λ _. fails ≡ false) → failed ≡ false → fails ≡ true → IsErrAnd r P
      by_result (Ok count) told cause ok alive dies = absurd (let clash = sym dies ∙ ok in cc)
      by_result (Err e) told cause ok alive dies = by_fault e (cause alive) dies

  stood : (fails ≡ false) ⊎ ends_open → (ends_open → ⊥) → fails ≡ true → ⊥
  stood (inl alive) never dies = absurd (let clash = sym dies ∙ alive in cc)
  stood (inr there) never dies = never there

  -- by storage, for lack of memory or for want of space, where no atomic group is left open
  pub purge_fails : (ends_open → ⊥) → IfOk result (λ _. fails ≡ false) → (failed ≡ true → fails ≡ true) → FailsInPurge IsPurgeFailure failed result fails
  purge_fails never = fails_for IsPurgeFailure by_fault
    where
      by_fault : (e : Fault) → IsCaused e → fails ≡ true → IsPurgeFailure e
      by_fault (fault.InvalidArgument text) h dies = absurd (stood h.0 never dies)
      by_fault (fault.Io kind path) h dies = tt
      by_fault fault.Memory h dies = tt
      by_fault fault.TryAgain h dies = tt
      by_fault fault.Range h dies = absurd (stood h.0 never dies)
      by_fault _ h dies = absurd h

  -- .. for each cause of its own
  pub renewal_fails : IfOk result (λ _. fails ≡ false) → (failed ≡ true → fails ≡ true) → FailsInPurge IsRenewalFailure failed result fails
  renewal_fails = fails_for IsRenewalFailure by_fault
    where
      by_fault : (e : Fault) → IsCaused e → fails ≡ true → IsRenewalFailure e
      by_fault (fault.InvalidArgument text) h dies = tt
      by_fault (fault.Io kind path) h dies = tt
      by_fault fault.Memory h dies = tt
      by_fault fault.TryAgain h dies = tt
      by_fault fault.Range h dies = tt
      by_fault _ h dies = absurd h

-- .. and so are the groups
pub groups_answered : (m n : Contents) (known is_known : ℕ → Bool) (failed : Bool) (same : failed ≡ false → m ≡ n) (same_known : failed ≡ false → known ≡ is_known) (result : Result (Vec ℕ Global) Fault) → IfOk result (λ groups. IsGroupList n is_known groups.items) → ((result ≡ Err fault.Failed) ↔ (failed ≡ true)) → IfErr result (λ e. (e ≡ fault.Failed) ⊎ (e ≡ fault.Memory))
    → MatchResult result (λ groups. IsGroupList m known groups.items) IsGetRefusal
groups_answered m n known is_known failed same same_known (Ok groups) is fails cause = elim (cases_Bool failed) [
  | inl gone ↦ absurd (let clash = fails.1 gone in cc)
  | inr stands ↦ subst (λ (c : Contents). IsGroupList c known groups.items) (sym (same stands)) (subst (λ (k : ℕ → Bool). IsGroupList n k groups.items) (sym (same_known stands)) is)
]
groups_answered m n known is_known failed same same_known (Err e) is fails (inl e_is) = subst IsGetRefusal (sym e_is) tt
groups_answered m n known is_known failed same same_known (Err e) is fails (inr e_is) = subst IsGetRefusal (sym e_is) tt

-- an engine that only reads has failed or not as before
pub steady_by : {T : Type 0} (failed fails : Bool) (result : Result T Fault) → ((result ≡ Err fault.Failed) ↔ (failed ≡ true)) → fails ≡ failed → IsSteadyBy failed result fails
steady_by failed fails result told same = (
  record {
    still = λ gone. same ∙ gone;
    only_failed = told.0;
    refused = λ gone. inl (told.1 gone);
    cause = λ alive fell. absurd (let clash = sym alive ∙ sym same ∙ fell in cc);
  },
  same,
)

-- What depends on the contents of an engine that stands alone.

module _ (m n : Contents) (op : Op) (failed : Bool) (same : failed ≡ false → m ≡ n) where
  pub accepted_same : (outcome : Outcome) (fails : Bool) → IsFailing failed op outcome fails → accepted_of m op outcome ≡ accepted_of n op outcome
  accepted_same outcome fails failing = by_op op outcome failing
    where
      by_op : (op : Op) (outcome : Outcome) → IsFailing failed op outcome fails → accepted_of m op outcome ≡ accepted_of n op outcome
      by_op (CompactTo group index) (Count (Ok count)) f = elim (cases_Bool failed) [
        | inl gone ↦ absurd (⊎_elim (λ told. let clash = told in cc) (λ other. other) (f.refused gone))
        | inr stands ↦ ap (λ (c : Contents). accepted_of c (CompactTo group index) (Count (Ok count))) (same stands)
      ]
      by_op (CompactTo group index) (Count (Err e)) f = refl
      by_op (WriteOnce acts pairs sync) (Size (Ok len)) f = elim (cases_Bool failed) [
        | inl gone ↦ absurd (⊎_elim (λ told. let clash = told in cc) (λ other. other) (f.refused gone))
        | inr stands ↦ ap (λ (c : Contents). accepted_of c (WriteOnce acts pairs sync) (Size (Ok len))) (same stands)
      ]
      by_op (WriteOnce acts pairs sync) (Size (Err e)) f = refl
      by_op (WriteOnce acts pairs sync) _ f = absurd f
      by_op (CompactTo group index) _ f = absurd f
      by_op _ _ f = refl

pub acts_ended : (items : Batch) (n : ℕ) (acts : List Act) → length acts ≤ n → IsBuilt items n acts → batch_of_acts acts ≡ Some items
acts_ended items n acts past built = built_ended items n acts (nil_from_length (drop n acts) (length-drop n acts ∙ omega (arith, past))) built

-- Where an engine failed.

-- a failed engine stays failed
still_by : (op : Op) (outcome : Outcome) (fails : Bool) → IsFailing true op outcome fails → fails ≡ true
still_by (Write acts sync) (Size answer) fails is = is.still refl
still_by (WriteOnce acts pairs sync) (Size answer) fails is = is.still refl
still_by (WriteGroup parts) (Sizes answer) fails is = is.still refl
still_by Sync (Done answer) fails is = is.0.still refl
still_by (Get group key) (Value answer) fails is = is.0.still refl
still_by (CompactTo group index) (Count answer) fails is = is.still refl
still_by (operation.Entry group index) (reply.Entry answer) fails is = is.0.still refl
still_by (First group) (Index index) fails is = is
still_by (Last group) (Index index) fails is = is
still_by operation.Groups (reply.Groups answer) fails is = is.0.still refl
still_by (RewriteAppend watermark step) (Dropped answer) fails is = is.still refl
still_by RewriteRewrite (Dropped answer) fails is = is.still refl
still_by PurgeStale (Dropped answer) fails is = is.still refl
still_by Purge (ToCompact answer) fails is = is.still refl
still_by _ _ fails is = absurd is

pub still_failing : (op : Op) (outcome : Outcome) (failed fails : Bool) → IsFailing failed op outcome fails → failed ≡ true → fails ≡ true
still_failing op outcome failed fails is had = still_by op outcome fails (subst (λ (b : Bool). IsFailing b op outcome fails) had is)

-- an answer that isn't a refusal leaves an engine standing
done_stands : {T : Type 0} (P Q : Fault → Type 0) (failed fails : Bool) (answer : Result T Fault) → FailsFor P failed answer fails Q → is_ok answer ≡ true → fails ≡ false
done_stands P Q failed false answer f ok = refl
done_stands P Q true true (Ok x) f ok = absurd (⊎_elim (λ told. let clash = told in cc) (λ other. other) (f.refused refl))
done_stands P Q false true (Ok x) f ok = absurd (f.cause refl refl)
done_stands P Q failed true (Err e) f ok = absurd cc

pub stands_answered : (op : Op) (outcome : Outcome) (failed fails : Bool) → IsFailing failed op outcome fails → is_answered outcome ≡ true → fails ≡ false
stands_answered (Write acts sync) (Size answer) failed fails f ok = done_stands _ _ failed fails answer f ok
stands_answered (WriteOnce acts pairs sync) (Size answer) failed fails f ok = done_stands _ _ failed fails answer f ok
stands_answered (WriteGroup parts) (Sizes answer) failed fails f ok = done_stands _ _ failed fails answer f ok
stands_answered Sync (Done answer) failed fails f ok = done_stands _ _ failed fails answer f.0 ok
stands_answered (CompactTo group index) (Count answer) failed fails f ok = done_stands _ _ failed fails answer f ok
stands_answered (RewriteAppend watermark step) (Dropped answer) failed fails f ok = done_stands _ _ failed fails answer f ok
stands_answered RewriteRewrite (Dropped answer) failed fails f ok = done_stands _ _ failed fails answer f ok
stands_answered PurgeStale (Dropped answer) failed fails f ok = done_stands _ _ failed fails answer f ok
stands_answered Purge (ToCompact answer) failed fails f ok = done_stands _ _ failed fails answer f ok
stands_answered (Get group key) (Value answer) failed fails f ok = absurd cc
stands_answered (operation.Entry group index) (reply.Entry answer) failed fails f ok = absurd cc
stands_answered (First group) (Index index) failed fails f ok = absurd cc
stands_answered (Last group) (Index index) failed fails f ok = absurd cc
stands_answered operation.Groups (reply.Groups answer) failed fails f ok = absurd cc
stands_answered _ _ failed fails f ok = absurd f

-- where the engine failed once the operation at a place is done
pub record IsNextPlace (failed fails : Bool) (place : ℕ) (before next : Option ℕ) : Type 0 where
  pub falls : failed ≡ false → fails ≡ true → next ≡ Some place
  pub rests : fails ≡ failed → next ≡ before

-- What is said of the last number.

-- an answer under a premise on it that is weaker
module _ (P Q : Type 0) (weaker : P → Q) where
  numbers_weaker : (m : Contents) (batch : Batch) → IsOutOfNumbers P m batch → IsOutOfNumbers Q m batch
  numbers_weaker m batch (inl out) = inl out
  numbers_weaker m batch (inr last) = inr (last.0, weaker last.1)

  some_weaker : (m : Contents) (o : Option Batch) → IsSomeAnd o (IsOutOfNumbers P m) → IsSomeAnd o (IsOutOfNumbers Q m)
  some_weaker m None some = absurd some
  some_weaker m (Some batch) some = numbers_weaker m batch some

  write_weaker : (m : Contents) (acts : List Act) (e : Fault) → IsWriteRefusal P m acts e → IsWriteRefusal Q m acts e
  write_weaker m acts fault.Range (inl large) = inl large
  write_weaker m acts fault.Range (inr some) = inr (some_weaker m (batch_of_acts acts) some)
  write_weaker m acts _ is = is

  new_weaker : (m : Contents) (acts : List Act) (pairs : List Pair) → IsNew m acts pairs (λ batch. IsOutOfNumbers P m (numbered batch pairs)) → IsNew m acts pairs (λ batch. IsOutOfNumbers Q m (numbered batch pairs))
  new_weaker m acts pairs is = (is.0, is.1, by_batch (batch_of_acts acts) is.2)
    where
      by_batch : (o : Option Batch) → IsSomeAnd o (λ batch. IsOutOfNumbers P m (numbered batch pairs)) → IsSomeAnd o (λ batch. IsOutOfNumbers Q m (numbered batch pairs))
      by_batch None some = absurd some
      by_batch (Some batch) some = numbers_weaker m (numbered batch pairs) some

  once_weaker : (m : Contents) (acts : List Act) (pairs : List Pair) (sync : Bool) (e : Fault) → IsOnceRefusal P m acts pairs sync e → IsOnceRefusal Q m acts pairs sync e
  once_weaker m acts pairs sync fault.Range (inl large) = inl large
  once_weaker m acts pairs sync fault.Range (inr is) = inr (new_weaker m acts pairs is)
  once_weaker m acts pairs sync _ is = is

  batch_weaker : (m : Contents) (batch : Batch) (e : Fault) → IsBatchRefusal P m batch e → IsBatchRefusal Q m batch e
  batch_weaker m batch fault.Range is = numbers_weaker m batch is
  batch_weaker m batch _ is = is

  batches_weaker : (m : Contents) (batches : List Batch) (answers : List (Result ℕ Fault)) → AreBatchAnswers P m batches answers → AreBatchAnswers Q m batches answers
  batches_weaker m [] [] are = tt
  batches_weaker m [] (a ∷ answers) are = absurd are
  batches_weaker m (b ∷ batches) [] are = absurd are
  batches_weaker m (b ∷ batches) (Ok len ∷ answers) are = (are.0, are.1, are.2, batches_weaker (after_batch m b) batches answers are.3)
  batches_weaker m (b ∷ batches) (Err e ∷ answers) are = (batch_weaker m b e are.0, batches_weaker m batches answers are.1)

  group_weaker : (m : Contents) (o : Option (List Batch)) (answers : List (Result ℕ Fault)) → IsSomeAnd o (λ batches. AreBatchAnswers P m batches answers) → IsSomeAnd o (λ batches. AreBatchAnswers Q m batches answers)
  group_weaker m None answers some = absurd some
  group_weaker m (Some batches) answers some = batches_weaker m batches answers some

  compact_weaker : (e : Fault) → IsCompactRefusal P e → IsCompactRefusal Q e
  compact_weaker fault.Range is = weaker is
  compact_weaker _ is = is

  pub answer_weaker : (failed : Bool) (m : Contents) (known : ℕ → Bool) (op : Op) (outcome : Outcome) → IsAnswer P failed m known op outcome → IsAnswer Q failed m known op outcome
  answer_weaker failed m known (Write acts sync) (Size (Ok len)) is = is
  answer_weaker failed m known (Write acts sync) (Size (Err e)) is = write_weaker m acts.items e is
  answer_weaker failed m known (WriteOnce acts pairs sync) (Size (Ok len)) is = is
  answer_weaker failed m known (WriteOnce acts pairs sync) (Size (Err e)) is = once_weaker m acts.items pairs.items sync e is
  answer_weaker failed m known (WriteGroup parts) (Sizes (Ok answers)) is = group_weaker m (batches_of_parts parts.items) answers.items is
  answer_weaker failed m known (WriteGroup parts) (Sizes (Err e)) is = is
  answer_weaker failed m known (CompactTo group index) (Count (Ok count)) is = is
  answer_weaker failed m known (CompactTo group index) (Count (Err e)) is = compact_weaker e is
  answer_weaker failed m known _ _ is = is

-- before the first operation
pub stands_so_far : (had : Bool) → had ≡ (had || false)
stands_so_far true = refl
stands_so_far false = refl

-- Storage's refusals.

rose_in : (outcome : Outcome) (old new : Refusals) → Refuses outcome old new → RoseBy (io_in outcome) old new
rose_in (Sizes (Ok answers)) old new refuses = refuses.1
rose_in _ old new refuses = by_case _ refuses.1
  where
    by_case : (b : Bool) → (b ≡ true → RoseBy 1 old new) → RoseBy (cond b 1 0) old new
    by_case true rose = rose refl
    by_case false rose = omega (arith, refuses.0.0)

-- one outcome more
pub rose_more : (outcomes : List Outcome) (outcome : Outcome) (old mid new : Refusals) → RoseBy (io_count outcomes) old mid → Refuses outcome mid new → RoseBy (io_count (outcomes ++ outcome ∷ [])) old new
rose_more outcomes outcome old mid new so_far refuses =
    subst (λ (n : ℕ). RoseBy n old new) (sym (sum_by-append io_in outcomes (outcome ∷ []))) (let more = rose_in outcome mid new refuses in omega (arith, so_far, more))
