-- The header of a file, by its first bytes.
use Rattle.std.proofs.Common.{◌≡◌, ◌≢◌, ◌∙◌, ◌-◌, ◌≤◌, ◌==◌, ℕ, min, Bool, true, false, cond, List, [], length, take, drop, Option, Some, None, Result, Ok, Err, IfOk, OnOk, ap, refl, sym, arith}
use Rattle.std.proofs.lemmas.Bool.{eq-eqb, ne_eqb}
use Rattle.std.proofs.lemmas.List.{take-take, take_all}
use Rattle.raft_base.specs.declared.pipe_log.FileId.{FileId}
use Rattle.raft_base.specs.declared.pipe_log.Version.{Version}
use Rattle.raft_base.specs.declared.pipe_log.Version.TheVariants.{V1, V2}
use Rattle.raft_files.specs.Header.{header_len, header_of}
use Rattle.raft_files.specs.declared.format.LogFileFormat.{LogFileFormat}
use Rattle.raft_files.proofs.ScanExtentLemmas.{header_is}
use Rattle.raft_files.proofs.ScanLemmas.{header_of-kept}
use Rattle.raft_dump.specs.Parts.{BeginsWith, begun_with, part_len}

most : (version : Version) → header_len version ≤ 69
most V1 = omega arith
most V2 = omega arith

module _ (bytes front : List ℕ) (is : front ≡ take 69 bytes) where
  same : take 69 bytes ≡ take 69 front
  same = sym (take-take 69 69 bytes (omega arith)) ∙ ap (take 69) (sym is)

  pub header_none : header_of front ≡ None → header_of bytes ≡ None
  header_none none = by_header (header_of bytes) refl
    where
      by_header : (o : Option (LogFileFormat × List ℕ)) → header_of bytes ≡ o → header_of bytes ≡ None
      by_header None read = read
      by_header (Some (format, rest)) read = absurd (let e : Some (format, drop (header_len format.version) front) ≡ None = sym (header_of-kept 69 bytes front format rest same read (most format.version)) ∙ none in cc)

  module _ (format : LogFileFormat) (rest : List ℕ) (read : header_of front ≡ Some (format, rest)) where
    there : header_of bytes ≡ Some (format, drop (header_len format.version) bytes)
    there = header_of-kept 69 front bytes format rest (sym same) read (most format.version)

    pub header_fits : header_len format.version ≤ length bytes
    header_fits = (header_is bytes format (drop (header_len format.version) bytes) there).long

    pub header_begins : (header : List ℕ) (len : ℕ) → len ≡ header_len format.version → header ≡ take len front → format.alignment ≡ 0 → BeginsWith header format bytes
    header_begins header len len_is header_is unaligned = record {
      rest = drop (header_len format.version) bytes;
      read = there;
      header_is = header_is ∙ ap (λ (n : ℕ). take n front) len_is ∙ ap (take (header_len format.version)) is ∙ take-take (header_len format.version) 69 bytes (most format.version);
      unaligned = unaligned;
    }

    aligned : (even : Bool) → (format.alignment == 0) ≡ even → begun_with bytes (header_of bytes) ≡ cond even (record {
      header = take (header_len format.version) bytes;
      size = length bytes;
      at = header_len format.version;
      len = min part_len (length bytes - header_len format.version);
      part = [];
    }) (record { header = []; size = length bytes; at = 0; len = length bytes; part = [] })
    aligned even is = ap (begun_with bytes) there ∙ ap (λ (b : Bool). cond b (record {
      header = take (header_len format.version) bytes;
      size = length bytes;
      at = header_len format.version;
      len = min part_len (length bytes - header_len format.version);
      part = [];
    }) (record { header = []; size = length bytes; at = 0; len = length bytes; part = [] })) is

    pub begun_whole : (size : ℕ) → length bytes ≡ size → format.alignment ≢ 0 → record { header = []; size = size; at = 0; len = size; part = [] } ≡ begun_with bytes (header_of bytes)
    begun_whole size is unequal =
        ap (λ (n : ℕ). record { header = []; size = n; at = 0; len = n; part = [] }) (sym is)
        ∙ sym (aligned false (ne_eqb format.alignment 0 unequal))

    pub begun_behind : (header : List ℕ) (size at len : ℕ) (part : List ℕ) → length bytes ≡ size → at ≡ header_len format.version → header ≡ take at front → format.alignment ≡ 0 → len ≡ min part_len (size - at) → part ≡ [] →
        record { header = header; size = size; at = at; len = len; part = part } ≡ begun_with bytes (header_of bytes)
    begun_behind header size at len part is at_is header_is unaligned len_is none =
        let begins = header_begins header at at_is header_is unaligned in
        ap (λ (l : List ℕ). record { header = header; size = size; at = at; len = len; part = l }) none
        ∙ ap (λ (n : ℕ). record { header = header; size = size; at = at; len = n; part = [] }) len_is
        ∙ ap (λ (h : List ℕ). record { header = h; size = size; at = at; len = min part_len (size - at); part = [] }) begins.header_is
        ∙ ap (λ (n : ℕ). record { header = take (header_len format.version) bytes; size = n; at = at; len = min part_len (n - at); part = [] }) (sym is)
        ∙ ap (λ (n : ℕ). record { header = take (header_len format.version) bytes; size = length bytes; at = n; len = min part_len (length bytes - n); part = [] }) at_is
        ∙ sym (aligned true (eq-eqb format.alignment 0 unaligned))

  pub begun_front : (n : ℕ) → header_of front ≡ None → n ≡ min 69 (length bytes) → record { header = []; size = n; at = 0; len = n; part = [] } ≡ begun_with bytes (header_of bytes)
  begun_front n none is =
      ap (λ (k : ℕ). record { header = []; size = k; at = 0; len = k; part = [] }) is
      ∙ ap (begun_with bytes) (sym (header_none none))

-- the bytes of a file that is read whole
pub whole_is : (bytes : List ℕ) (size : ℕ) → length bytes ≡ size → take size (drop 0 bytes) ≡ bytes
whole_is bytes size is = take_all size bytes (omega (arith, is))

pub if_ok : {T E : Type 0} {P Q : T → Type 0} (r : Result T E) → IfOk r P → ((x : T) → P x → Q x) → IfOk r Q
if_ok (Ok x) p f = f x p
if_ok (Err e) p f = tt

pub on_ok : {T E : Type 0} {R : Type 0} (r : Result T E) → R → OnOk r R
on_ok (Ok x) p = p
on_ok (Err e) p = tt

pub if_both_ok : {T E : Type 0} {P Q : T → Type 0} {R : Type 0} (r : Result T E) → IfOk r P → OnOk r R → ((x : T) → P x → R → Q x) → IfOk r Q
if_both_ok (Ok x) p r f = f x p r
if_both_ok (Err e) p r f = tt
