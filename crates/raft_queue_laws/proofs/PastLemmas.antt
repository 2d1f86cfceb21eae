-- Files of any past of which the damage of a crash can be told.
use Rattle.std.proofs.Common.{◌≡◌, ◌⊎◌, ℕ, ◌-◌, ◌≤◌, ◌==◌, min, true, false, cond, List, [], ◌∷◌, ◌++◌, length, take, map, Option, Some, None, Contains, refl, ap, sym, subst, ◌∙◌, inl, inr, arith, append_assoc}
use Rattle.std.specs.Prelude.{◌||◌}
use Rattle.std.proofs.lemmas.Bool.{cases_Bool, cases_lt}
use Rattle.std.proofs.lemmas.List.Elements.{Contains-append_left, Contains-append_right}
use Rattle.std.specs.FinMap as finite
use Rattle.raft_base.specs.declared.pipe_log.FileId.{FileId}
use Rattle.raft_files.specs.declared.format.LogFileFormat.{LogFileFormat}
use Rattle.raft_env.specs.Outcomes.{File, Change, MayLeave, is_within, is_touched, untouched_len, bytes_since_sync, bytes_after}
use Rattle.raft_env.specs.Directory.{Directory, Path, file_at}
use Rattle.raft_files.specs.Scan.{PlacedRecord, readable_records}
use Rattle.raft_memory.specs.Choice.{bytes_by_choice, bytes_by_choice_at, choice_for, left_by, NamesNoBytes, NameNoBytes}
use Rattle.raft_env.specs.Consistent.{HasItsRange, IsPastOf, IsConsistent, AreConsistent}
use Rattle.raft_files.specs.Detectable.{IsPrefixOf, format_of, signature_by, IsGivenBy, HasNoByteOfFailedCall, IsFromCompletedCall, EndsWithoutCompressed, IsDetectableFile, IsDetectable}
use Rattle.raft_queue_laws.specs.DetectableDamage.{AddsOnlyItsRecord, EachAddsOnlyItsRecord, IsReadAsBefore}
use Rattle.raft_memory.specs.declared.crash.Choice.{Choice}
use Rattle.raft_memory.specs.declared.crash.Choice.TheVariants as choice
use Rattle.raft_files.proofs.DetectableLemmas.{prefix_itself}
use Rattle.raft_files.proofs.ScanExtentLemmas.{same_some, record_of_header}
use Rattle.raft_env.proofs.OutcomesLemmas.{within_is, same_front}
use Rattle.raft_files.proofs.ScanPlacedLemmas.{contains_cases}
use Rattle.raft_env.proofs.ConsistentLemmas.{before_is_untouched}
use Rattle.raft_memory.proofs.ChoiceTornLemmas.{choice_may_leave, length-torn, no_bytes_at_turn, choices_may_leave}
use Rattle.raft_queue_laws.proofs.DetectableDamageLemmas.{readable_records-take}
use Rattle.raft_files.proofs.CompletedZerosLemmas.{never_stale}

-- Records.

-- a record that the newest change was to write has no byte of an older one
given_covers : (by : Option ℕ) (c : Change) (changes : List Change) (r : PlacedRecord) → HasItsRange c → IsGivenBy by r c → HasNoByteOfFailedCall by (c ∷ changes) r
given_covers by c changes r range given [] d before e refused with_byte =
    let same : c ≡ d = cc in
    subst (IsGivenBy by r) same given
given_covers by c changes r range given (x ∷ later) d before e refused with_byte =
    let same : c ≡ x = cc in
    let found = record_of_header by c.given r.batch r.len given.1 in
    let here : is_within c.from c.size with_byte.0 ≡ true = within_is c.from c.size with_byte.0 (omega (arith, with_byte.1, given.0)) (omega (arith, with_byte.2, given.0, found.3, range)) in
    let touched : is_touched (x ∷ later) with_byte.0 ≡ true = ap (λ b. b || is_touched later with_byte.0) (ap (λ (y : Change). is_within y.from y.size with_byte.0) (sym same) ∙ here) in
    let false_is : true ≡ false = sym touched ∙ with_byte.4 in
    absurd cc

-- where each change brought only the record that it was to write, no failed call brought what is read
own_completed : (id : FileId) (by : Option ℕ) (bytes : List ℕ) (changes : List Change) → IsPastOf bytes changes → ((c : Change) → Contains changes c → AddsOnlyItsRecord id by c) → (r : PlacedRecord) → Contains (readable_records id bytes) r → IsFromCompletedCall id by changes r
own_completed id by bytes [] past own r has = tt
own_completed id by bytes (c ∷ changes) past own r has =
    elim (own c (0, omega arith, refl) r (subst (λ b. Contains (readable_records id b) r) (sym past.0) has)) [
      | inl earlier ↦ inr (earlier, own_completed id by c.before changes past.3 (λ d older. own d (Contains-append_right (c ∷ []) changes d older)) r earlier)
      | inr given ↦ inl (given_covers by c changes r past.1 given)
    ]

-- Moments.

past_after : (newer rest : List Change) (bytes : List ℕ) → IsPastOf bytes (newer ++ rest) → (then_bytes : List ℕ) × IsPastOf then_bytes rest
past_after [] rest bytes past = (bytes, past)
past_after (c ∷ newer) rest bytes past = past_after newer rest c.before past.3

-- the past of a file at a moment since its last sync
past_at : (file : File) → IsConsistent file → (newer upto : List Change) → file.changes ≡ newer ++ upto → IsPastOf (bytes_after file.synced upto) (upto ++ file.older)
past_at file is newer [] e = is.earlier
past_at file is newer (c ∷ upto) e =
    let all : file.changes ++ file.older ≡ newer ++ (c ∷ upto ++ file.older) = ap (λ cs. cs ++ file.older) e ∙ append_assoc newer (c ∷ upto) file.older in
    let past = (past_after newer (c ∷ upto ++ file.older) file.now (subst (IsPastOf file.now) all is.past)).1 in
    (refl, past.1, past.2, past.3)

-- the bytes of a file at such a moment, by its changes
pub record IsMoment (synced : List ℕ) (changes : List Change) (bytes : List ℕ) : Type 0 where
  pub newer : List Change
  pub upto : List Change
  pub split : changes ≡ newer ++ upto
  pub is : bytes_after synced upto ≡ bytes

moment_of : (synced : List ℕ) (changes : List Change) (bytes : List ℕ) → Contains (map (λ (c : Change). c.after) changes ++ synced ∷ []) bytes → IsMoment synced changes bytes
moment_of synced [] bytes has = elim (contains_cases synced bytes [] has) [
  | inl same ↦ record { newer = []; upto = []; split = refl; is = same }
  | inr none ↦ absurd (omega (arith, none.1))
]
moment_of synced (c ∷ changes) bytes has = elim (contains_cases c.after bytes (map (λ (d : Change). d.after) changes ++ synced ∷ []) has) [
  | inl same ↦ record { newer = []; upto = c ∷ changes; split = refl; is = same }
  | inr earlier ↦
      let m = moment_of synced changes bytes earlier in
      record { newer = c ∷ m.newer; upto = m.upto; split = ap (λ cs. c ∷ cs) m.split; is = m.is }
]

-- What no change touched.

untouched_len_within : (synced : List ℕ) (changes : List Change) → untouched_len synced changes ≤ length synced
untouched_len_within synced [] = omega arith
untouched_len_within synced (c ∷ changes) =
    let further = untouched_len_within synced changes in
    elim (cases_Bool (c.size == 0)) [
      | inl none ↦ omega (arith, further, ap (λ b. cond b (untouched_len synced changes) (min c.from (untouched_len synced changes))) none)
      | inr some ↦ omega (arith, further, ap (λ b. cond b (untouched_len synced changes) (min c.from (untouched_len synced changes))) some)
    ]

untouched_stands : (file : File) → IsConsistent file → untouched_len file.synced file.changes ≤ length file.now
untouched_stands file is =
    let len = untouched_len file.synced file.changes in
    let within = untouched_len_within file.synced file.changes in
    elim (cases_lt 0 len) [
      | inl some ↦
          let stands = is.untouched (len - 1) (omega arith) (before_is_untouched file.synced file.changes (len - 1) (omega arith)) in
          omega (arith, stands.0)
      | inr none ↦ omega arith
    ]

-- a choice that names no bytes leaves all of it
untouched_is_left : (file : File) → IsConsistent file → (c : Choice) → NamesNoBytes c → untouched_len file.synced file.changes ≤ length (bytes_by_choice c file)
untouched_is_left file is choice.All none = untouched_stands file is
untouched_is_left file is choice.Synced none = untouched_len_within file.synced file.changes
untouched_is_left file is (choice.Torn kept fill) none = omega (arith, untouched_stands file is, length-torn (is_touched file.changes) kept fill file.now)
untouched_is_left file is (choice.Bytes bytes) none = absurd none

untouched_stays : (file : File) (left : List ℕ) → MayLeave file left → untouched_len file.synced file.changes ≤ length left →
    take (untouched_len file.synced file.changes) file.synced ≡ take (untouched_len file.synced file.changes) left
untouched_stays file left may long =
    let len = untouched_len file.synced file.changes in
    let within = untouched_len_within file.synced file.changes in
    same_front len file.synced left within long (λ i before. sym (may.untouched i (omega arith) (omega arith) (before_is_untouched file.synced file.changes i before)))

-- .. and so do choices in a directory
pub untouched_by_choices : (n : Directory) → AreConsistent n → (choices : List Choice) → NameNoBytes choices → (path : Path) (file : File) → file_at n path ≡ Some file →
    take (untouched_len file.synced file.changes) (left_by choices n path) ≡ take (untouched_len file.synced file.changes) file.synced
untouched_by_choices n consistent choices none path file stands =
    let is = consistent path file stands in
    let c = choice_for choices (finite.keys n.files) path in
    let named = no_bytes_at_turn choices none _ in
    let left : left_by choices n path ≡ bytes_by_choice c file = ap (bytes_by_choice_at c) stands in
    subst (λ b. take (untouched_len file.synced file.changes) b ≡ take (untouched_len file.synced file.changes) file.synced) (sym left)
    (sym (untouched_stays file (bytes_by_choice c file) (choice_may_leave file is c named) (untouched_is_left file is c named)))

untouched_is_read : (id : FileId) (file : File) (left : List ℕ) → MayLeave file left → untouched_len file.synced file.changes ≤ length left →
    IsPrefixOf (readable_records id (take (untouched_len file.synced file.changes) file.synced)) (readable_records id left)
untouched_is_read id file left may long =
    let len = untouched_len file.synced file.changes in
    subst (λ b. IsPrefixOf (readable_records id b) (readable_records id left)) (sym (untouched_stays file left may long)) (readable_records-take id len left)

-- Outcomes.

newest_moment : (synced : List ℕ) (changes : List Change) → Contains (map (λ (c : Change). c.after) changes ++ synced ∷ []) (bytes_after synced changes)
newest_moment synced [] = (0, omega arith, refl)
newest_moment synced (c ∷ changes) = (0, omega arith, refl)

pub now_is_read : (id : FileId) (file : File) → IsConsistent file → EndsWithoutCompressed id file.now → IsReadAsBefore id file file.now
now_is_read id file is unmarked = record {
  header = inl refl;
  bytes = file.now;
  moment = subst (Contains (bytes_since_sync file)) (sym is.latest) (newest_moment file.synced file.changes);
  prefix = prefix_itself (readable_records id file.now);
  unmarked = unmarked;
}

pub synced_is_read : (id : FileId) (file : File) → EndsWithoutCompressed id file.synced → IsReadAsBefore id file file.synced
synced_is_read id file unmarked = record {
  header = inl refl;
  bytes = file.synced;
  moment = Contains-append_right (map (λ (c : Change). c.after) file.changes) (file.synced ∷ []) file.synced (0, omega arith, refl);
  prefix = prefix_itself (readable_records id file.synced);
  unmarked = unmarked;
}

own_is_detectable : (id : FileId) (file : File) (left : List ℕ) → IsConsistent file → file.renamed_after ≡ None → EachAddsOnlyItsRecord id file → MayLeave file left → untouched_len file.synced file.changes ≤ length left → IsReadAsBefore id file left → IsDetectableFile id file left
own_is_detectable id file left consistent never own may long reads = record {
  header = header;
  newer = m.newer;
  upto = m.upto;
  moment = m.split;
  prefix = begins;
  completed = λ format is r has. own_completed id (signature_by id format) (bytes_after file.synced m.upto) (m.upto ++ file.older) (past_at file consistent m.newer m.upto m.split) (λ c among. own format reads.bytes reads.moment (format_then format is) c (of_file c among)) r (read_then r has);
  untouched = untouched_is_read id file left may long;
  unmarked = reads.unmarked;
  none_stale = λ other is r has stale. absurd (never_stale file.renamed_after (m.upto ++ file.older) r.at never stale);
}
  where
    m : IsMoment file.synced file.changes reads.bytes
    m = moment_of file.synced file.changes reads.bytes reads.moment

    begins : IsPrefixOf (readable_records id left) (readable_records id (bytes_after file.synced m.upto))
    begins = subst (λ b. IsPrefixOf (readable_records id left) (readable_records id b)) (sym m.is) reads.prefix

    read_then : (r : PlacedRecord) → Contains (readable_records id left) r → Contains (readable_records id (bytes_after file.synced m.upto)) r
    read_then r has = subst (λ rs. Contains rs r) (sym begins.1) (Contains-append_left (readable_records id left) begins.0 r has)

    header : (format_of left ≡ format_of (bytes_after file.synced m.upto)) ⊎ (format_of left ≡ None)
    header = subst (λ b. (format_of left ≡ format_of b) ⊎ (format_of left ≡ None)) (sym m.is) reads.header

    format_then : (format : LogFileFormat) → format_of left ≡ Some format → format_of reads.bytes ≡ Some format
    format_then format is = elim reads.header [
      | inl same ↦ sym same ∙ is
      | inr none ↦ let some : Some format ≡ None = sym is ∙ none in absurd cc
    ]

    of_file : (c : Change) → Contains (m.upto ++ file.older) c → Contains (file.changes ++ file.older) c
    of_file c among =
        let all : file.changes ++ file.older ≡ m.newer ++ (m.upto ++ file.older) = ap (λ cs. cs ++ file.older) m.split ∙ append_assoc m.newer m.upto file.older in
        subst (λ cs. Contains cs c) (sym all) (Contains-append_right m.newer (m.upto ++ file.older) c among)

-- the damage can be told of what choices leave that is read as it was at a moment since the last sync
pub own_detectable : (path : Path) (id : FileId) (n : Directory) (file : File) → file_at n path ≡ Some file → file.renamed_after ≡ None → AreConsistent n → EachAddsOnlyItsRecord id file → (choices : List Choice) → NameNoBytes choices →
    IsReadAsBefore id file (left_by choices n path) → IsDetectable path id n (left_by choices n)
own_detectable path id n file stands never consistent own choices none reads other is =
    let d = left_by choices n in
    let c = choice_for choices (finite.keys n.files) path in
    let left : d path ≡ bytes_by_choice c file = ap (bytes_by_choice_at c) stands in
    let long = untouched_is_left file (consistent path file stands) c (no_bytes_at_turn choices none _) in
    subst (λ f. IsDetectableFile id f (d path)) (same_some (sym stands ∙ is))
    (own_is_detectable id file (d path) (consistent path file stands) never own ((choices_may_leave choices n none consistent).each path file stands) (omega (arith, long, ap length left)) reads)
