-- A sealed file stays as it is.
use Rattle.std.proofs.Common.{◌≡◌, ℕ, true, false, List, [], ◌∷◌, length, map, take, Some, refl, ap, sym, subst, ◌∙◌, inl, inr, min, arith}
use Rattle.std.specs.Prelude.{option_map}
use Rattle.std.proofs.lemmas.Grind.{same_number_lists}
use Rattle.std.proofs.lemmas.Bool.{eq-eqb}
use Rattle.std.specs.List.{AllByRecursion}
use Rattle.std.proofs.lemmas.List.{length-take-le, take_all}
use Rattle.raft_records.specs.Item.{Batch}
use Rattle.raft_base.specs.declared.pipe_log.FileId.{FileId}
use Rattle.raft_env.specs.Outcomes.{File, Change, MayLeave, least_len, greatest_len, is_touched, synced_file}
use Rattle.raft_env.specs.Directory.{Directory, CrashImage, Leaves, Path, IsRestarted, file_at}
use Rattle.raft_files.specs.declared.format.LogFileFormat.{LogFileFormat}
use Rattle.raft_files.specs.Scan.{PlacedRecord, readable_batches, records_of, ends_with, is_read_to_end}
use Rattle.raft_files.specs.Records.{HasLog, image_of_file, bytes_after_crash, batches_after_crash}
use Rattle.raft_files.specs.Writer.{HasChanged, IsClosed, IsClosing, IsCutting, IsSyncing, bytes_at, bytes_of}
use Rattle.raft_env.proofs.ConsistentLemmas.{nowhere}
use Rattle.raft_files.proofs.WriterChangeLemmas.{stands_after, was_file}
use Rattle.raft_files.specs.Sealed.{IsSealed, IsStillBy}

abbrev IsStill : List ℕ → List Change → Type 0
IsStill synced changes = AllByRecursion (IsStillBy synced) changes

still_least : (synced : List ℕ) (changes : List Change) → IsStill synced changes → least_len synced changes ≡ length synced
still_least synced [] still = refl
still_least synced (c ∷ changes) still = omega (arith, still.0.shortest, still_least synced changes still.1)

still_greatest : (synced : List ℕ) (changes : List Change) → IsStill synced changes → greatest_len synced changes ≡ length synced
still_greatest synced [] still = refl
still_greatest synced (c ∷ changes) still = omega (arith, still.0.longest, still_greatest synced changes still.1)

still_untouched : (synced : List ℕ) (changes : List Change) (i : ℕ) → IsStill synced changes → is_touched changes i ≡ false
still_untouched synced [] i still = refl
still_untouched synced (c ∷ changes) i still = rw (nowhere c.from c.size i still.0.size) (still_untouched synced changes i still.1)

-- a file of which no byte was touched since its last sync is left as it is
pub left_settled : (file : File) (left : List ℕ) → IsStill file.synced file.changes → MayLeave file left → left ≡ file.synced
left_settled file left still may =
    same_number_lists left file.synced (omega (arith, may.no_shorter, may.no_longer, still_least file.synced file.changes still, still_greatest file.synced file.changes still))
    (λ k within. may.untouched k within (omega (arith, may.no_shorter, may.no_longer, still_least file.synced file.changes still, still_greatest file.synced file.changes still)) (still_untouched file.synced file.changes k still))

module _ (path : Path) (id : FileId) (batches : List Batch) (n : Directory) (sealed : IsSealed path id batches n) where
  pub sealed_bytes : (d : CrashImage) → Leaves n d → bytes_after_crash path n d ≡ sealed.file.now
  sealed_bytes d leaves =
      ap (λ found. image_of_file found (d path)) sealed.stands
      ∙ left_settled sealed.file (d path) sealed.still (leaves.each path sealed.file sealed.stands)
      ∙ sym sealed.latest

  pub sealed_left : (d : CrashImage) → Leaves n d → (batches_after_crash path id n d ≡ batches) × (is_read_to_end id (bytes_after_crash path n d) ≡ true)
  sealed_left d leaves =
      (ap (readable_batches id) (sealed_bytes d leaves) ∙ sealed.holds, ap (is_read_to_end id) (sealed_bytes d leaves) ∙ sealed.read)

  pub sealed_beside : (m : Directory) → file_at m path ≡ file_at n path → IsSealed path id batches m
  sealed_beside m same = record { file = sealed.file; stands = same ∙ sealed.stands; latest = sealed.latest; still = sealed.still; read = sealed.read; holds = sealed.holds }

  pub sealed_restarted : (d : CrashImage) (m : Directory) → Leaves n d → IsRestarted n d m → IsSealed path id batches m
  sealed_restarted d m leaves restarted =
      let same : d path ≡ sealed.file.now = left_settled sealed.file (d path) sealed.still (leaves.each path sealed.file sealed.stands) ∙ sym sealed.latest in
      record {
        file = synced_file (d path);
        stands = restarted.each path ∙ ap (λ found. option_map (λ _. synced_file (d path)) found) sealed.stands;
        latest = refl;
        still = tt;
        read = ap (is_read_to_end id) same ∙ sealed.read;
        holds = ap (readable_batches id) same ∙ sealed.holds;
      }

-- a log that is closed is sealed
pub log_sealed : (path : Path) (id : FileId) (format : LogFileFormat) (batches : List Batch) (synced at : ℕ) (old new : Directory) → HasLog path id format batches synced at old → HasChanged path (IsClosed at) old new → IsSealed path id batches new
log_sealed path id format batches synced at old new log change = record {
  file = change.after;
  stands = stands_after path old new (IsClosed at) change;
  still = subst (IsStill change.after.synced) (sym (ap (λ (f : File). f.changes) how.3)) tt;
  latest = ap (λ (f : File). f.now) how.3 ∙ sym (ap (λ (f : File). f.synced) how.3);
  read = ap (is_read_to_end id) now ∙ ap (λ q. ends_with (length (take at log.file.now)) q) log.written.holds.read ∙ eq-eqb at (length (take at log.file.now)) (sym (length-take-le at log.file.now log.written.holds.within));
  holds = ap (readable_batches id) now ∙ ap (λ q. map (λ (p : PlacedRecord). p.batch) (records_of q)) log.written.holds.read ∙ log.holds;
}
  where
    how : IsClosed at log.file change.after
    how = was_file path old new (IsClosed at) change log.file log.stands

    now : change.after.now ≡ take at log.file.now
    now = ap (λ (f : File). f.now) how.3 ∙ how.2

-- a sealed file that is closed again stays sealed
module _ (path : Path) (id : FileId) (batches : List Batch) where
  sealed_as : (n : Directory) (before after : File) → IsStill before.synced before.changes → before.now ≡ before.synced → is_read_to_end id before.now ≡ true → readable_batches id before.now ≡ batches
      → file_at n path ≡ Some after → after.now ≡ before.now → after.synced ≡ before.synced → IsStill before.synced after.changes → IsSealed path id batches n
  sealed_as n before after still latest read holds stands now synced still_now = record {
    file = after;
    stands = stands;
    latest = now ∙ latest ∙ sym synced;
    still = subst (λ bytes. IsStill bytes after.changes) (sym synced) still_now;
    read = ap (is_read_to_end id) now ∙ read;
    holds = ap (readable_batches id) now ∙ holds;
  }

  -- a moment of a cut at the end
  cut_nothing : (at : ℕ) (old new : File) → at ≡ length old.now → old.now ≡ old.synced → IsStill old.synced old.changes → IsCutting at old new → (new.now ≡ old.now) × (new.synced ≡ old.synced) × IsStill old.synced new.changes
  cut_nothing at old new end latest still (inl same) = (ap (λ (f : File). f.now) same, ap (λ (f : File). f.synced) same, subst (λ (f : File). IsStill old.synced f.changes) (sym same) still)
  cut_nothing at old new end latest still (inr (after, true, completed, is)) =
      let now : after ≡ old.now = completed ∙ take_all at old.now (omega arith) in
      (ap (λ (f : File). f.now) is ∙ now, ap (λ (f : File). f.synced) is, subst (λ (f : File). IsStill old.synced f.changes) (sym is) (record { size = omega (arith, ap length now); after = now ∙ latest; shortest = ap length (now ∙ latest); longest = ap length (now ∙ latest) }, still))
  cut_nothing at old new end latest still (inr (after, false, part, is)) =
      let now : after ≡ old.now = sym (take_all (min at (length old.now)) after (omega (arith, part.no_longer))) ∙ part.kept ∙ take_all (min at (length old.now)) old.now (omega arith) in
      (ap (λ (f : File). f.now) is ∙ now, ap (λ (f : File). f.synced) is, subst (λ (f : File). IsStill old.synced f.changes) (sym is) (record { size = omega arith; after = now ∙ latest; shortest = omega (arith, ap length now, ap length latest); longest = ap length (now ∙ latest) }, still))

  pub sealed_closing : (at : ℕ) (old n : Directory) → IsSealed path id batches old → at ≡ length (bytes_at path old) → HasChanged path (IsClosing at) old n → IsSealed path id batches n × (bytes_at path n ≡ bytes_at path old)
  sealed_closing at old n sealed end change =
      let how = was_file path old n (IsClosing at) change sealed.file sealed.stands in
      let at_end : at ≡ length sealed.file.now = end ∙ ap (λ o. length (bytes_of o)) sealed.stands in
      let cut = cut_nothing at sealed.file how.0 at_end sealed.latest sealed.still how.1 in
      by_sync how.0 cut.0 cut.1 cut.2 how.2
    where
      here : (now : change.after.now ≡ sealed.file.now) → bytes_at path n ≡ bytes_at path old
      here now = ap bytes_of (stands_after path old n (IsClosing at) change) ∙ now ∙ sym (ap bytes_of sealed.stands)

      by_sync : (mid : File) → mid.now ≡ sealed.file.now → mid.synced ≡ sealed.file.synced → IsStill sealed.file.synced mid.changes → IsSyncing mid change.after → IsSealed path id batches n × (bytes_at path n ≡ bytes_at path old)
      by_sync mid now synced still (inl same) =
          (sealed_as n sealed.file change.after sealed.still sealed.latest sealed.read sealed.holds (stands_after path old n (IsClosing at) change) (ap (λ (f : File). f.now) same ∙ now) (ap (λ (f : File). f.synced) same ∙ synced) (subst (λ (f : File). IsStill sealed.file.synced f.changes) (sym same) still), here (ap (λ (f : File). f.now) same ∙ now))
      by_sync mid now synced still (inr is) =
          (sealed_as n sealed.file change.after sealed.still sealed.latest sealed.read sealed.holds (stands_after path old n (IsClosing at) change) (ap (λ (f : File). f.now) is ∙ now) (ap (λ (f : File). f.synced) is ∙ now ∙ sealed.latest) (subst (λ (f : File). IsStill sealed.file.synced f.changes) (sym is) tt), here (ap (λ (f : File). f.now) is ∙ now))
