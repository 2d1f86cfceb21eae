-- Old files of the Rewrite queue that may be dropped.
use Rattle.std.proofs.Common.{◌≡◌, ℕ, ◌+◌, ◌<◌, ◌≤◌, ◌⊎◌, Bool, true, false, List, [], ◌∷◌, ◌++◌, length, Option, Some, None, refl, sym, ◌∙◌, ap, subst, ⊎_elim, arith}
use Rattle.std.specs.List.{Contains}
use Rattle.std.specs.Option.{option_map}
use Rattle.std.proofs.lemmas.Bool.{false≢true}
use Rattle.raft_base.specs.declared.pipe_log.FileBlockHandle.{FileBlockHandle}
use Rattle.raft_base.specs.declared.pipe_log.LogQueue.{LogQueue}
use Rattle.raft_base.specs.declared.pipe_log.LogQueue.TheVariants.{Append, Rewrite}
use Rattle.raft_records.specs.declared.entry_index.EntryPlace.{EntryPlace}
use Rattle.raft_records.specs.Contents.{Contents}
use Rattle.raft_records.specs.Item.{Entry}
use Rattle.raft_records.specs.Places.{Blocks, entry_in}
use Rattle.raft_recovery_laws.specs.Dropping.{HoldsLeft, IsLaterPart}
use Rattle.raft_recovery_laws.specs.Recovered.{item_leaves, item_leaves_key, leaves, leaves_key, replay}
use Rattle.raft_tables.specs.Table.{StoredValue}
use Rattle.raft_tables.specs.Tables.{Tables, or_empty}
use Rattle.raft_index_laws.specs.DroppingOld.{AreRewrittenFrom, HoldsFrom, IsHeldFrom, IsRewrittenFrom, IsValueHeldFrom, IsValueRewrittenFrom}
use Rattle.raft_tables.specs.Owed.{Marks, Owed}
use Rattle.raft_records.specs.FileBatches.{FileBatch, batches_of}
use Rattle.raft_index_laws.specs.Standing.{EntryStands, HasNoneBefore, HasNoneBehind, KeyStands, PlacedEntryStands, PlacedKeyStands, StandsInBlock, TablesStandFor, ends_leave, ends_leave_key}
use Rattle.raft_index_laws.proofs.DropLemmas.{placed_of}
use Rattle.raft_recovery_laws.proofs.EachLemmas.{all_of, each_contained, each_of, each_right}
use Rattle.raft_index_laws.proofs.EndsLemmas.{from_none, pass-later}

-- an entry that stands is held, or taken by the Append queue
held_or_taken : (first : ℕ) (left : ℕ → ℕ → Bool) (all : Bool) (marks : Marks) (held now : List Entry) (e : Entry) (block : Option FileBlockHandle) → ((n : ℕ) → left n e.0 ≡ false → all ≡ false) → IsHeldFrom first now e block → IsRewrittenFrom first block
    → StandsInBlock left marks held e block → all ≡ true → Contains now e
held_or_taken first left all marks held now e None less there from stands is = absurd stands
held_or_taken first left all marks held now e (Some block) less there from stands is = at block.id.queue there from stands
  where
    at : (queue : LogQueue) → (queue ≡ Rewrite → first ≤ block.id.seq → Contains now e) → (queue ≡ Rewrite → first ≤ block.id.seq) → PlacedEntryStands left marks held e block.id.seq queue → Contains now e
    at Append there from stands = absurd (false≢true (sym (less block.id.seq (stands e.0 (omega arith))) ∙ is))
    at Rewrite there from stands = there refl (from refl)

value_or_taken : (first : ℕ) (left : ℕ → Bool) (all : Bool) (marks : Marks) (held now : Option (List ℕ)) (k value : List ℕ) (s : Option StoredValue) → ((n : ℕ) → left n ≡ false → all ≡ false) → IsValueHeldFrom first now s → IsValueRewrittenFrom first s
    → KeyStands left marks held k s → all ≡ true → option_map (λ (v : StoredValue). v.0) s ≡ Some value → now ≡ Some value
value_or_taken first left all marks held now k value None less there from stands is some = absurd (cc)
value_or_taken first left all marks held now k value (Some (v, id)) less there from stands is some = at id.queue there from stands ∙ some
  where
    at : (queue : LogQueue) → (queue ≡ Rewrite → first ≤ id.seq → now ≡ Some v) → (queue ≡ Rewrite → first ≤ id.seq) → PlacedKeyStands left marks held v id.seq queue → now ≡ Some v
    at Append there from stands = absurd (false≢true (sym (less id.seq stands) ∙ is))
    at Rewrite there from stands = there refl (from refl)

pub old_may_go : (blocks : Blocks) (x new : Contents) (appended : List FileBatch) (owed : Owed) (t : Tables) (first : ℕ) → HoldsFrom blocks first new t → AreRewrittenFrom first t → TablesStandFor blocks x appended owed t → HoldsLeft new (batches_of appended) (replay x (batches_of appended))
old_may_go blocks x new appended owed t first holds from stands = record {
  entries = λ g.
      all_of (λ o. leaves (batches_of appended) g o.0 ≡ true → Contains (new.entries g) o) ((replay x (batches_of appended)).entries g)
      (λ o has left.
      let es = (or_empty (t g)).entries in
      let found = placed_of blocks es o (subst (λ (m : Contents). Contains (m.entries g) o) (sym stands.contents) has) in
      let p = found.0 in
      subst (Contains (new.entries g)) found.2
      (held_or_taken first (ends_leave appended g) (leaves (batches_of appended) g p.0) (owed g) (x.entries g) (new.entries g) (entry_in blocks p) p.1.block
      (λ n is. ap (λ (bs : List FileBatch). leaves (batches_of bs) g p.0) (sym (from_none appended)) ∙ pass-later (item_leaves g p.0) appended 0 n (omega arith) is)
      (each_contained (λ e. IsHeldFrom first (new.entries g) (entry_in blocks e) e.1.block) es p (holds.entries g) found.1) (each_contained (λ e. IsRewrittenFrom first e.1.block) es p (from.entries g) found.1)
      (each_contained (EntryStands blocks (ends_leave appended g) (owed g) (x.entries g)) es p (stands.entries g).each found.1)
      (ap (λ (e : Entry). leaves (batches_of appended) g e.0) found.2 ∙ left)));
  keys = λ g k value left some.
      value_or_taken first (ends_leave_key appended g k) (leaves_key (batches_of appended) g k) (owed g) (x.value g k) (new.value g k) k value ((or_empty (t g)).keys k)
      (λ n is. ap (λ (bs : List FileBatch). leaves_key (batches_of bs) g k) (sym (from_none appended)) ∙ pass-later (item_leaves_key g k) appended 0 n (omega arith) is)
      (holds.keys g k) (from.keys g k) (stands.keys g k) left (ap (λ (m : Contents). m.value g k) stands.contents ∙ some);
}

-- the tables stand for the later batches

entry_later : (first : ℕ) (left : ℕ → ℕ → Bool) (marks : Marks) (held now : List Entry) (e : Entry) (block : Option FileBlockHandle) → IsHeldFrom first now e block → IsRewrittenFrom first block → StandsInBlock left marks held e block → StandsInBlock left marks now e block
entry_later first left marks held now e None there from stands = stands
entry_later first left marks held now e (Some block) there from stands = at block.id.queue there from stands
  where
    at : (queue : LogQueue) → (queue ≡ Rewrite → first ≤ block.id.seq → Contains now e) → (queue ≡ Rewrite → first ≤ block.id.seq) → PlacedEntryStands left marks held e block.id.seq queue → PlacedEntryStands left marks now e block.id.seq queue
    at Append there from stands = stands
    at Rewrite there from stands = (there refl (from refl), stands.1)

value_later : (first : ℕ) (left : ℕ → Bool) (marks : Marks) (held now : Option (List ℕ)) (k : List ℕ) (s : Option StoredValue) → ((now ≡ None) ⊎ (now ≡ held)) → IsValueHeldFrom first now s → IsValueRewrittenFrom first s → KeyStands left marks held k s → KeyStands left marks now k s
value_later first left marks held now k None part there from stands = λ c d. ⊎_elim (λ none. none) (λ same. same ∙ stands c d) part
value_later first left marks held now k (Some (v, id)) part there from stands = at id.queue there from stands
  where
    at : (queue : LogQueue) → (queue ≡ Rewrite → first ≤ id.seq → now ≡ Some v) → (queue ≡ Rewrite → first ≤ id.seq) → PlacedKeyStands left marks held v id.seq queue → PlacedKeyStands left marks now v id.seq queue
    at Append there from stands = stands
    at Rewrite there from stands = (there refl (from refl), stands.1)

behind_part : (front now : List Entry) (es : List (ℕ × EntryPlace)) → HasNoneBehind es (front ++ now) → HasNoneBehind es now
behind_part front now [] is = tt
behind_part front now (e ∷ es) is = λ all. each_right (λ o. o.0 < e.0 + length (e ∷ es)) front now (is all)

before_part : (front now : List Entry) (es : List (ℕ × EntryPlace)) → HasNoneBefore es (front ++ now) → HasNoneBefore es now
before_part [] now [] is = is
before_part (f ∷ front) now [] is = absurd (let l : length (f ∷ (front ++ now)) ≡ 0 = ap length is in omega (arith, l))
before_part front now (e ∷ es) is = each_right (λ o. o.0 + 1 ≡ e.0 → ⊥) front now is

pub old_gone : (blocks : Blocks) (x new : Contents) (appended : List FileBatch) (owed : Owed) (t : Tables) (first : ℕ) → HoldsFrom blocks first new t → AreRewrittenFrom first t → IsLaterPart new x → replay new (batches_of appended) ≡ replay x (batches_of appended) → TablesStandFor blocks x appended owed t
    → TablesStandFor blocks new appended owed t
old_gone blocks x new appended owed t first holds from part same stands = record {
  contents = stands.contents ∙ sym same;
  entries = λ g.
      let es = (or_empty (t g)).entries in
      let later = part.entries g in
      let old = stands.entries g in
      record {
        ordered = old.ordered;
        each = each_of (EntryStands blocks (ends_leave appended g) (owed g) (new.entries g)) es
            (λ e has. entry_later first (ends_leave appended g) (owed g) (x.entries g) (new.entries g) (entry_in blocks e) e.1.block (each_contained (λ p. IsHeldFrom first (new.entries g) (entry_in blocks p) p.1.block) es e (holds.entries g) has) (each_contained (λ p. IsRewrittenFrom first p.1.block) es e (from.entries g) has) (each_contained (EntryStands blocks (ends_leave appended g) (owed g) (x.entries g)) es e old.each has));
        behind = behind_part later.0 (new.entries g) es (subst (HasNoneBehind es) later.1 old.behind);
        before = λ c d. before_part later.0 (new.entries g) es (subst (HasNoneBefore es) later.1 (old.before c d));
      };
  keys = λ g k. value_later first (ends_leave_key appended g k) (owed g) (x.value g k) (new.value g k) k ((or_empty (t g)).keys k) (part.value g k) (holds.keys g k) (from.keys g k) (stands.keys g k);
}
