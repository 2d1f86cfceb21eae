-- Writes keep the records of a log file.
use Rattle.std.proofs.Common.{◌≡◌, ℕ, ◌+◌, ◌<◌, ◌≤◌, true, false, List, [], ◌∷◌, ◌++◌, length, take, slice_index, Option, Some, Contains, refl, ap, sym, subst, ◌∙◌, inl, inr, arith}
use Rattle.std.proofs.lemmas.Bool.{cases_lt}
use Rattle.std.proofs.lemmas.List.{length-append, length-take-le}
use Rattle.raft_records.specs.Item.{Batch}
use Rattle.raft_records.specs.Record.{record_of}
use Rattle.raft_base.specs.declared.pipe_log.FileId.{FileId}
use Rattle.raft_files.specs.declared.format.LogFileFormat.{LogFileFormat}
use Rattle.raft_env.specs.Outcomes.{File, Change, file_after_write, overlay, IsPartOf, written_change}
use Rattle.raft_files.specs.Scan.{PlacedRecord, scan_file, readable_records}
use Rattle.raft_files.specs.Detectable.{signature_by, IsGivenBy, IsFromCompletedCall, IsFreshAfter}
use Rattle.raft_files.specs.Records.{IsEmptyFrom, HasNothingFrom, HoldsRecords, IsWrittenTo, IsTornFrom}
use Rattle.raft_env.proofs.OutcomesLemmas.{within_is, not_within, same_front}
use Rattle.raft_files.proofs.DetectableLemmas.{prefix_itself, prefix_append}
use Rattle.raft_files.proofs.ScanExtentLemmas.{record_header_is, record_of_header, same_some}
use Rattle.raft_files.proofs.ScanLemmas.{reading-append, read_in}
use Rattle.raft_env.proofs.OutcomesOverlayLemmas.{length-overlaid, overlaid_outside}
use Rattle.raft_env.proofs.DirectoryLemmas.{writing_part}
use Rattle.raft_files.proofs.WriterPartLemmas.{part_keeps, take-overlaid_whole}
use Rattle.raft_files.proofs.DetectableStaleLemmas.{GivesNoneFrom, refused_at, refused_gives_none, gives_none_before, given_before, stale_more, stale_from_more, stale_or_not}
use Rattle.raft_files.proofs.RecordsEmptyLemmas.{none_done, has_nothing_after}
use Rattle.raft_files.proofs.RecordsHeldLemmas.{format_of-held, left_of_torn}
use Rattle.raft_files.proofs.RecordsLemmas.{keeps_more, keeps_held, synced_within}
use Rattle.raft_files.proofs.RecordsLengthLemmas.{refused_before, holds_same}

-- after its range a write leaves what stood there
record IsKeptBehind (end : ℕ) (old new : List ℕ) : Type 0 where
  pub within : (i : ℕ) → end ≤ i → i < length new → i < length old
  pub same : (i : ℕ) → end ≤ i → i < length new → slice_index new i ≡ slice_index old i

empty_written : (at : ℕ) (old new : List ℕ) (c : Change) (renamed : Option ℕ) (changes : List Change) → IsEmptyFrom at old renamed changes → c.from ≡ at → IsKeptBehind (at + c.size) old new → GivesNoneFrom (at + c.size) c → IsEmptyFrom (at + c.size) new renamed (c ∷ changes)
empty_written at old new c renamed changes (inr stale) from kept none = inr (stale_from_more renamed c changes at (at + c.size) none (omega arith) stale)
empty_written at old new c renamed changes (inl empty) from kept none = inl (λ i behind within.
    elim (empty i (omega arith) (kept.within i behind within)) [
      | inl zero' ↦ inl (kept.same i behind within ∙ zero')
      | inr refused ↦ inr (refused_before c changes i (inr (omega arith)) refused)
    ])

kept_part : (at len : ℕ) (old new : List ℕ) → IsPartOf at len old new → IsKeptBehind (at + len) old new
kept_part at len old new part = record {
  within = λ i behind within. omega (arith, part.no_longer);
  same = λ i behind within. part.elsewhere i (omega (arith, part.no_longer)) (not_within at len i (inr behind));
}

-- the record of the batch that a write gives
abbrev pub record_given : ℕ → List ℕ → Batch → PlacedRecord
record_given at given batch = record { at = at; len = length given; batch = batch }

same_placed : (r : PlacedRecord) (at len : ℕ) (batch : Batch) → r.at ≡ at → batch ≡ r.batch → len ≡ r.len → r ≡ record { at = at; len = len; batch = batch }
same_placed r at len batch stands same_batch same_len = rw (← stands, same_batch, same_len) refl

record_long : (signature : Option ℕ) (given : List ℕ) (batch : Batch) (len : ℕ) → record_of signature given ≡ Some (batch, len) → 1 ≤ length given
record_long signature given batch len e =
    let found = record_of_header signature given batch len e in
    let has = record_header_is given found.0 found.1 in
    omega (arith, has.long)

-- after the records a crash leaves nothing but the record that the write was to write
only_given : (id : FileId) (signature : Option ℕ) (c : Change) (renamed : Option ℕ) (changes : List Change) (batch : Batch) → HasNothingFrom id c.from c.before renamed changes → c.is_done ≡ false → c.size ≡ length c.given → record_of signature c.given ≡ Some (batch, length c.given) →
    IsEmptyFrom (c.from + c.size) c.after renamed (c ∷ changes) → (r : PlacedRecord) → Contains (readable_records id c.after) r → c.from ≤ r.at → IsFromCompletedCall id signature (c ∷ changes) r → IsFreshAfter signature renamed (c ∷ changes) r → Contains (record_given c.from c.given batch ∷ []) r
only_given id signature c renamed changes batch nothing refused size given empty r has behind completed fresh = elim completed [
  | inr earlier ↦ elim (stale_or_not renamed changes r.at) [
    | inr not_stale ↦ absurd (nothing signature r earlier.0 behind earlier.1 (λ stale. absurd (not_stale stale)))
    | inl stale ↦ elim (given_before signature renamed c changes r (fresh (stale_more renamed c changes r.at (refused_at c r.at refused) stale))) [
      | inr since ↦ absurd (nothing signature r earlier.0 behind earlier.1 (λ again. since))
      | inl own ↦ is_own own
    ]
  ]
  | inl no_byte ↦
      let is = read_in id c.after r has in
      elim (cases_lt r.at (c.from + c.size)) [
        | inr past ↦ absurd (none_done is.signature signature c.after renamed (c ∷ changes) (c.from + c.size) empty r past is.is no_byte fresh)
        | inl here ↦
            is_own (no_byte [] c changes refl refused (r.at, omega arith, omega (arith, is.long), within_is c.from c.size r.at behind here, refl))
      ]
]
  where
    is_own : IsGivenBy signature r c → Contains (record_given c.from c.given batch ∷ []) r
    is_own own =
        let found = same_some (sym given ∙ own.1) in
        let same : r ≡ record_given c.from c.given batch = same_placed r c.from (length c.given) batch own.0 (ap (λ (x : Batch × ℕ). x.0) found) (ap (λ (x : Batch × ℕ). x.1) found) in
        subst (Contains (record_given c.from c.given batch ∷ [])) (sym same) (0, omega arith, refl)

-- a write that fails
pub written_to_refused : (id : FileId) (format : LogFileFormat) (records : List PlacedRecord) (synced at : ℕ) (file : File) (given : List ℕ) (batch : Batch) (after : List ℕ) → IsWrittenTo id format records synced at file →
    record_of (signature_by id format) given ≡ Some (batch, length given) → IsPartOf at (length given) file.now after → IsTornFrom id format records (record_given at given batch ∷ []) synced at (file_after_write at given false after file)
written_to_refused id format records synced at file given batch after written_to is part =
    let c = written_change at given false after file.now in
    let one = record_given at given batch ∷ [] in
    let long = written_to.holds.within in
    let still : at ≤ length after = omega (arith, part.no_shorter) in
    let same = same_front at file.now after long still (λ i within. sym (part.elsewhere i (omega arith) (not_within at (length given) i (inl within)))) in
    let holds = holds_same id format records at file.now after written_to.holds same still in
    let past = file.changes ++ file.older in
    let empty = empty_written at file.now after c file.renamed_after past written_to.empty refl (kept_part at (length given) file.now after part) (refused_gives_none (at + length given) c refl (omega (arith, record_long (signature_by id format) given batch (length given) is))) in
    let only = only_given id (signature_by id format) c file.renamed_after past batch written_to.nothing refl refl is empty in
    let within = synced_within id format records synced at file.now written_to.holds in
    record {
      keeps = keeps_more id format records (records ++ one) synced file c written_to.keeps (prefix_append records one) (format_of-held id format records at after holds)
          (left_of_torn id format (signature_by id format) records one at after file.renamed_after (c ∷ past) holds (omega arith) only) within (omega (arith, within, still));
      few = written_to.keeps.few;
      holds = holds;
      few_in_flight = omega arith;
      only = only;
    }

-- a write after them leaves the records
pub holds_written : (id : FileId) (format : LogFileFormat) (records : List PlacedRecord) (at : ℕ) (bytes given : List ℕ) → HoldsRecords id format records at bytes → HoldsRecords id format records at (overlay bytes at given)
holds_written id format records at bytes given holds =
    let part = writing_part at given given (omega arith) bytes in
    holds_same id format records at bytes (overlay bytes at given) holds (sym (part_keeps at (length given) at bytes _ part (omega arith) holds.within)) (omega (arith, holds.within, part.no_shorter))

-- a write that is done
pub written_to_written : (id : FileId) (format : LogFileFormat) (records : List PlacedRecord) (synced at : ℕ) (file : File) (given : List ℕ) (batch : Batch) → IsWrittenTo id format records synced at file →
    record_of (signature_by id format) given ≡ Some (batch, length given) →
    IsWrittenTo id format (records ++ record_given at given batch ∷ []) synced (at + length given) (file_after_write at given true (overlay file.now at given) file)
written_to_written id format records synced at file given batch written_to is =
    let after = overlay file.now at given in
    let c = written_change at given true after file.now in
    let end = at + length given in
    let one = record_given at given batch in
    let all = records ++ one ∷ [] in
    let long = written_to.holds.within in
    let len_front : length (take at file.now) ≡ at = length-take-le at file.now long in
    let len = length-overlaid file.now at given (inl long) in
    let kept : IsKeptBehind end file.now after = record { within = λ i behind within. omega (arith, len); same = λ i behind within. overlaid_outside file.now at given i (not_within at (length given) i (inr behind)) } in
    let front : take end after ≡ take at file.now ++ given = take-overlaid_whole file.now at given long in
    let read =
    reading-append id (take at file.now) given batch (record { format = format; records = records; end = at }) written_to.holds.read (sym len_front) is in
    let holds : HoldsRecords id format all end after = record {
      within = omega (arith, len);
      read = ap (λ bytes. scan_file id bytes) front ∙ read
          ∙ ap (λ n. Some (record { format = format; records = records ++ record_given n given batch ∷ []; end = length (take at file.now ++ given) })) len_front
          ∙ ap (λ n. Some (record { format = format; records = all; end = n })) (length-append (take at file.now) given ∙ ap (λ n. n + length given) len_front);
    } in
    let past = file.changes ++ file.older in
    let none : GivesNoneFrom end c = gives_none_before end c (omega arith) in
    let empty = empty_written at file.now after c file.renamed_after past written_to.empty refl kept none in
    let nothing = has_nothing_after id at end c file.renamed_after past written_to.nothing (omega arith) none empty in
    let within = synced_within id format records synced at file.now written_to.holds in
    record {
      keeps = keeps_held id format records all all synced end file c written_to.keeps (prefix_append records (one ∷ [])) holds nothing (prefix_itself all) within (omega (arith, within, len));
      holds = holds;
      empty = empty;
      nothing = nothing;
    }
