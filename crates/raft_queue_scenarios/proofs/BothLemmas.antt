-- Two queues side by side, after calls on one of them.
use Rattle.std.proofs.Common.{◌≡◌, ◌∙◌, ℕ, ◌<◌, ◌^◌, Bool, true, List, [], length, Some, ap, subst, sym}
use Rattle.std.specs.Prelude.{unwrap_or}
use Rattle.std.proofs.Math.Logic.{∥∥₁_elim, ∥∥₁_map, ∥∥₁_prop}
use Rattle.std.proofs.lemmas.Bool.{lt-ltb}
use Rattle.raft_base.specs.FileId.{file_signature}
use Rattle.raft_base.specs.declared.pipe_log.LogFileContext.{LogFileContext}
use Rattle.raft_base.specs.declared.pipe_log.LogQueue.{LogQueue}
use Rattle.raft_env.specs.Directory.{Directory}
use Rattle.raft_queues.specs.Dual.{AppendsIn, DualState, HasBoth, StandSideBySide, StillHasBoth, SyncsIn, counted, grown, pipe_of}
use Rattle.raft_config.specs.Folders.{Folders}
use Rattle.raft_pipes.specs.Counts.{QueueCounts}
use Rattle.raft_pipes.specs.Pipe.{IsPipeOf, IsRecordOf}
use Rattle.raft_pipes.specs.PipeState.{PipeState, context_of}
use Rattle.raft_queues.specs.DualPurge.{HasDroppedIn, counts_after_drop}
use Rattle.raft_records.specs.Batch.{BatchView, populated, signed_for}
use Rattle.raft_records.specs.Item.{Batch}
use Rattle.raft_records.specs.Layout.{entry_bytes}
use Rattle.raft_records.specs.Record.{record_bytes, record_of}
use Rattle.raft_records.specs.RecordLimits.{FitsRecord}

-- each pipe can be used
pub each_stands : (queue : LogQueue) (d : DualState) (n : Directory) → StandSideBySide d n → IsPipeOf (pipe_of queue d) n
each_stands queue d n stand = ∥∥₁_elim stand ∥∥₁_prop (λ w. (w.3 queue).writes)

pub stand_opened : (d : DualState) (n : Directory) (folders : Folders) (batches : LogQueue → List Batch) (counts : LogQueue → QueueCounts) → HasBoth d folders batches counts n → StandSideBySide d n
stand_opened d n folders batches counts has = ∣ (folders, batches, counts, has) ∣₁

pub stand_appended : (queue : LogQueue) (sync : Bool) (d d' : DualState) (given : List ℕ) (batch : Batch) (old new : Directory) → AppendsIn queue sync d d' given old new → IsRecordOf (pipe_of queue d) given batch → StandSideBySide d old → StandSideBySide d' new
stand_appended queue sync d d' given batch old new appended is stand =
    ∥∥₁_map stand (λ w. (w.0, grown queue batch w.1, counted queue sync (grown queue batch w.1) w.2, appended w.0 w.1 w.2 batch w.3 is))

pub stand_synced : (queue : LogQueue) (d d' : DualState) (old new : Directory) → SyncsIn queue d d' old new → StandSideBySide d old → StandSideBySide d' new
stand_synced queue d d' old new synced stand = ∥∥₁_map stand (λ w. (w.0, w.1, counted queue true w.1 w.2, synced w.0 w.1 w.2 w.3))

pub stand_still : (d d' : DualState) (old new : Directory) → StillHasBoth d d' old new → StandSideBySide d old → StandSideBySide d' new
stand_still d d' old new still stand = ∥∥₁_map stand (λ w. (w.0, w.1, w.2, still w.0 w.1 w.2 w.3))

pub stand_dropped : (queue : LogQueue) (seq count : ℕ) (d d' : DualState) (old new : Directory) → HasDroppedIn queue seq count d d' old new → StandSideBySide d old → StandSideBySide d' new
stand_dropped queue seq count d d' old new dropped stand = ∥∥₁_map stand (λ w. (w.0, w.1, counts_after_drop queue count d old w.2, dropped.keeps w.0 w.1 w.2 w.3))

-- a batch that was populated and then signed for the last file of a pipe is encoded to its record
pub signed_record : (p : PipeState) (context : LogFileContext) (given : List ℕ) (batch full signed : BatchView) → full ≡ populated batch → signed ≡ signed_for (file_signature context) full → given ≡ unwrap_or signed.encoded [] → FitsRecord batch.items
    → (FitsRecord full.items → record_of (file_signature context) (record_bytes (file_signature context) full.items) ≡ Some (full.items, length (record_bytes (file_signature context) full.items)))
    → length (entry_bytes batch.items) < 2 ^ 32 → context ≡ context_of p → IsRecordOf p given batch.items
signed_record p context given batch full signed full_is signed_is given_is fits readable within is =
    let signature = file_signature context in
    let bytes = record_bytes signature batch.items in
    let given_bytes : given ≡ bytes = given_is ∙ ap (λ (b : BatchView). unwrap_or b.encoded []) (signed_is ∙ ap (signed_for signature) full_is) in
    let read_back : record_of signature bytes ≡ Some (batch.items, length bytes) =
    subst (λ (b : BatchView). FitsRecord b.items → record_of signature (record_bytes signature b.items) ≡ Some (b.items, length (record_bytes signature b.items))) full_is readable fits in
    record {
      read = ap (λ (c : LogFileContext). record_of (file_signature c) given) (sym is) ∙ ap (record_of signature) given_bytes ∙ read_back ∙ ap (λ (l : List ℕ). Some (batch.items, length l)) (sym given_bytes);
      places = lt-ltb (length (entry_bytes batch.items)) (2 ^ 32) within;
    }
