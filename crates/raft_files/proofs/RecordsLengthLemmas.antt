-- Allocations and truncations keep the records of a log file.
use Rattle.std.proofs.Common.{◌≡◌, ◌⊎◌, ℕ, ◌+◌, ◌-◌, ◌<◌, ◌≤◌, min, Bool, true, false, List, [], ◌∷◌, ◌++◌, length, take, replicate, slice_index, Option, Contains, refl, ap, sym, subst, ◌∙◌, inl, inr, arith}
use Rattle.std.specs.Prelude.{◌||◌}
use Rattle.std.proofs.lemmas.Bool.{cases_lt}
use Rattle.std.proofs.lemmas.List.{take-take, take-append-le, length-append, length-take-le, length-replicate, get_or-replicate, get_or-append_right, get_or_append_left}
use Rattle.raft_base.specs.declared.pipe_log.FileId.{FileId}
use Rattle.raft_files.specs.declared.format.LogFileFormat.{LogFileFormat}
use Rattle.raft_files.specs.Header.{header_len}
use Rattle.raft_env.specs.Outcomes.{File, Change, is_touched, changed_by, pad_to, Outcome, IsPartOf, IsCutOf, resized_change, lengthened_change, cut_change}
use Rattle.raft_files.specs.Scan.{PlacedRecord, end_of_records, scan_file, readable_records}
use Rattle.raft_files.specs.Detectable.{signature_by, IsFromCompletedCall, IsFreshAfter}
use Rattle.raft_files.specs.Records.{IsRefusedAt, IsEmptyFrom, HasNothingFrom, HoldsRecords, IsWrittenTo, IsTornFrom}
use Rattle.raft_env.proofs.OutcomesLemmas.{within_is, not_within, same_front}
use Rattle.raft_files.proofs.DetectableLemmas.{prefix_itself}
use Rattle.raft_files.proofs.DetectableStaleLemmas.{ungiven, stale_from_more, fresh_before}
use Rattle.raft_files.proofs.ScanLemmas.{read_in}
use Rattle.raft_files.proofs.RecordsEmptyLemmas.{none_done, has_nothing_after}
use Rattle.raft_files.proofs.RecordsHeldLemmas.{format_of-held, left_of_torn}
use Rattle.raft_files.proofs.RecordsLemmas.{keeps_more, keeps_held, synced_within}

-- Places of bytes.

pub refused_here : (c : Change) (changes : List Change) (i : ℕ) → c.is_done ≡ false → c.given ≡ [] → c.from ≤ i → i < c.from + c.size → IsRefusedAt (c ∷ changes) i
refused_here c changes i refused none above below = ([], c, changes, refl, refused, none, within_is c.from c.size i above below, refl)

pub refused_before : (c : Change) (changes : List Change) (i : ℕ) → (i < c.from) ⊎ (c.from + c.size ≤ i) → IsRefusedAt changes i → IsRefusedAt (c ∷ changes) i
refused_before c changes i outside q =
    let untouched : is_touched (c ∷ q.0) i ≡ false = ap (λ b. b || is_touched q.0 i) (not_within c.from c.size i outside) ∙ q.7 in
    (c ∷ q.0, q.1, q.2, ap (λ cs. c ∷ cs) q.3, q.4, q.5, q.6, untouched)

pub holds_same : (id : FileId) (format : LogFileFormat) (records : List PlacedRecord) (at : ℕ) (a b : List ℕ) → HoldsRecords id format records at a → take at a ≡ take at b → at ≤ length b → HoldsRecords id format records at b
holds_same id format records at a b holds same long = record { within = long; read = ap (λ bytes. scan_file id bytes) (sym same) ∙ holds.read }

-- A change after a place.

-- it leaves the bytes before the place, and after it none that it gave
pub record IsBehind (at : ℕ) (old : List ℕ) (c : Change) (renamed : Option ℕ) (changes : List Change) : Type 0 where
  pub was : c.before ≡ old
  pub given : c.given ≡ []
  pub shortest : at ≤ c.shortest
  pub from : at ≤ c.from
  pub long : at ≤ length c.after
  pub same : take at old ≡ take at c.after
  pub empty : IsEmptyFrom at c.after renamed (c ∷ changes)

pub written_to_changed : (id : FileId) (format : LogFileFormat) (records : List PlacedRecord) (synced at : ℕ) (file : File) (c : Change) → IsWrittenTo id format records synced at file →
    IsBehind at file.now c file.renamed_after (file.changes ++ file.older) → IsWrittenTo id format records synced at (changed_by c file)
written_to_changed id format records synced at file c written behind =
    let past = file.changes ++ file.older in
    let holds = holds_same id format records at file.now c.after written.holds behind.same behind.long in
    let within = synced_within id format records synced at file.now written.holds in
    let itself = prefix_itself records in
    let nothing = has_nothing_after id at at c file.renamed_after past (subst (λ b. HasNothingFrom id at b file.renamed_after past) (sym behind.was) written.nothing) (omega arith) (ungiven at c behind.given) behind.empty in
    record { keeps = keeps_held id format records records records synced at file c written.keeps itself holds nothing itself (omega (arith, within, behind.from)) (omega (arith, within, behind.shortest)); holds = holds; empty = behind.empty; nothing = nothing }

pub torn_changed : (id : FileId) (format : LogFileFormat) (records in_flight : List PlacedRecord) (synced at : ℕ) (file : File) (c : Change) → IsTornFrom id format records in_flight synced at file →
    IsBehind at file.now c file.renamed_after (file.changes ++ file.older) → IsTornFrom id format records in_flight synced at (changed_by c file)
torn_changed id format records in_flight synced at file c torn behind =
    let all = records ++ in_flight in
    let holds = holds_same id format records at file.now c.after torn.holds behind.same behind.long in
    let within = synced_within id format records synced at file.now torn.holds in
    let front : take synced all ≡ take synced records = take-append-le synced records in_flight torn.few in
    record {
      keeps = keeps_more id format all all synced file c torn.keeps (prefix_itself all) (format_of-held id format records at c.after holds)
          (left_of_torn id format (signature_by id format) records in_flight at c.after file.renamed_after (c ∷ past) holds torn.few_in_flight only)
          (omega (arith, within, behind.from, ap (λ rs. end_of_records (header_len format.version) rs) front)) (omega (arith, within, behind.shortest, ap (λ rs. end_of_records (header_len format.version) rs) front));
      few = torn.few;
      holds = holds;
      few_in_flight = torn.few_in_flight;
      only = only;
    }
  where
    past : List Change
    past = file.changes ++ file.older

    only : (r : PlacedRecord) → Contains (readable_records id c.after) r → at ≤ r.at → IsFromCompletedCall id (signature_by id format) (c ∷ past) r → IsFreshAfter (signature_by id format) file.renamed_after (c ∷ past) r → Contains in_flight r
    only r has after completed fresh = elim completed [
      | inl no_byte ↦ let is = read_in id c.after r has in absurd (none_done is.signature (signature_by id format) c.after file.renamed_after (c ∷ past) at behind.empty r after is.is no_byte fresh)
      | inr earlier ↦ torn.only r (subst (λ b. Contains (readable_records id b) r) behind.was earlier.0) after earlier.1 (fresh_before (signature_by id format) file.renamed_after c past at r (ungiven at c behind.given) after fresh)
    ]

-- Allocations.

-- a change from the end of the bytes on leaves what stood before it
empty_lengthened : (at : ℕ) (old : List ℕ) (c : Change) (renamed : Option ℕ) (changes : List Change) → c.from ≡ length old → c.given ≡ [] → ((i : ℕ) → i < length old → slice_index c.after i ≡ slice_index old i) →
    ((i : ℕ) → length old ≤ i → i < length c.after → (slice_index c.after i ≡ 0) ⊎ IsRefusedAt (c ∷ changes) i) → IsEmptyFrom at old renamed changes → IsEmptyFrom at c.after renamed (c ∷ changes)
empty_lengthened at old c renamed changes from none front further (inr stale) = inr (stale_from_more renamed c changes at at (ungiven at c none) (omega arith) stale)
empty_lengthened at old c renamed changes from none front further (inl empty) = inl (λ i above below. elim (cases_lt i (length old)) [
  | inr behind ↦ further i behind below
  | inl before ↦ elim (empty i above before) [
    | inl zero' ↦ inl (front i before ∙ zero')
    | inr refused ↦ inr (refused_before c changes i (inl (omega arith)) refused)
  ]
])

pub allocation_after : (size at : ℕ) (is_done : Bool) (after old : List ℕ) (renamed : Option ℕ) (changes : List Change) → at ≤ length old → IsEmptyFrom at old renamed changes →
    Outcome is_done (pad_to old size) (IsPartOf (length old) (size - length old) old) after → IsBehind at old (lengthened_change size is_done after old) renamed changes
allocation_after size at true after old renamed changes within empty completed =
    let zeros : List ℕ = replicate (size - length old) 0 in
    let len : length after ≡ length old + (size - length old) = omega (arith, ap length completed, length-append old zeros, length-replicate {A = ℕ} (size - length old) 0) in
    record {
      was = refl;
      given = refl;
      shortest = omega arith;
      from = omega arith;
      long = omega arith;
      same = sym (take-append-le at old zeros within) ∙ ap (take at) (sym completed);
      empty = empty_lengthened at old (resized_change after old) renamed changes (omega arith) refl
          (λ i before. ap (λ b. slice_index b i) completed ∙ get_or_append_left old zeros 0 i before)
          (λ i behind below. inl (ap (λ b. slice_index b i) completed ∙ get_or-append_right old zeros (length old) i 0 refl behind ∙ get_or-replicate {A = ℕ} (size - length old) (i - length old) 0 0 (omega arith))) empty;
    }
allocation_after size at false after old renamed changes within empty part =
    let front = λ (i : ℕ) (before : i < length old). part.elsewhere i before (not_within (length old) (size - length old) i (inl before)) in
    record {
      was = refl;
      given = refl;
      shortest = omega (arith, part.no_shorter);
      from = within;
      long = omega (arith, part.no_shorter);
      same = same_front at old after within (omega (arith, part.no_shorter)) (λ i before. sym (front i (omega arith)));
      empty = empty_lengthened at old (lengthened_change size false after old) renamed changes refl refl front
          (λ i behind below. inr (refused_here _ changes i refl refl behind (omega (arith, part.no_longer)))) empty;
    }

-- Truncations.

pub cut_after : (size : ℕ) (is_done : Bool) (after old : List ℕ) (renamed : Option ℕ) (changes : List Change) → size ≤ length old → Outcome is_done (take size old) (IsCutOf size old) after → IsBehind size old (cut_change size is_done after old) renamed changes
cut_after size true after old renamed changes within completed =
    let len : length after ≡ size = ap length completed ∙ length-take-le size old within in
    record {
      was = refl;
      given = refl;
      shortest = omega arith;
      from = omega arith;
      long = omega arith;
      same = sym (take-take size size old (omega arith)) ∙ ap (λ b. take size b) (sym completed);
      empty = inl (λ i above below. absurd (omega arith));
    }
cut_after size false after old renamed changes within part =
    let least : min size (length old) ≡ size = omega arith in
    record {
      was = refl;
      given = refl;
      shortest = omega (arith, part.no_shorter);
      from = omega arith;
      long = omega (arith, part.no_shorter);
      same = sym (ap (λ n. take n after) (sym least) ∙ part.kept ∙ ap (λ n. take n old) least);
      empty = inl (λ i above below. inr (refused_here (cut_change size false after old) changes i refl refl (omega arith) (omega (arith, part.no_longer))));
    }
