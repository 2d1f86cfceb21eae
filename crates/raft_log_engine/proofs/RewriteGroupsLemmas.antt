-- A rewriting of some groups of the Rewrite queue, of what its steps leave.
use Rattle.std.proofs.Common.{◌≡◌, ◌∙◌, ◌&&◌, ◌⊎◌, ℕ, Bool, true, false, not, Option, None, Some, ap, inl, inr, refl, subst, sym}
use Rattle.std.specs.Prelude.{Err, Ok, OnOk, Result, if◌then◌else◌, is_some, nat_eq, nat_le}
use Rattle.std.specs.List.{list_any}
use Rattle.std.proofs.lemmas.Bool.{false≢true}
use Rattle.std.proofs.lemmas.Option.{same_Some}
use Rattle.raft_env.specs.Directory.{Directory}
use Rattle.raft_index_laws.specs.DroppingOld.{AreRewrittenFrom}
use Rattle.raft_pipes.specs.PipeState.{PipeState}
use Rattle.raft_queues.specs.Dual.{DualState}
use Rattle.raft_tables.specs.GroupsFrom.{comes_before}
use Rattle.raft_tables.specs.Tables.{Tables, or_empty, tables_of}
use Rattle.raft_tables.specs.declared.memtables.MemTables.{MemTables}
use Rattle.raft_tables.specs.declared.rewritten.GroupsMet.{GroupsMet}
use Rattle.raft_crash_laws.specs.Log.{KnownGroups}
use Rattle.raft_rewrite.specs.Emptied.{MovesOnly}
use Rattle.raft_rewrite.specs.EmptiedAnew.{IsAllFrom}
use Rattle.raft_purge.specs.RenewalPart.{AreRenewed, GoesOnWith, MayGoOnWith, bound_new, files_behind, files_new, first_kept, first_new}
use Rattle.raft_purge.specs.UnderWay.{IsUnderWay}
use Rattle.raft_purge.specs.declared.renewal_groups.NewFiles.{NewFiles}
use Rattle.raft_purge.specs.declared.renewal_groups.RenewalPart.{RenewalPart}
use Rattle.raft_purge.proofs.RenewalPartLemmas.{none_of}
use Rattle.raft_purge_rules.specs.NextGroups.{AreNextGroups}
use Rattle.raft_purge_rules.specs.declared.within_budget.NextGroups.{NextGroups}
use Rattle.raft_log_engine.specs.Purge.{GoesOnFrom, GoesOnIf, HasRenewedGroups}
use Rattle.raft_log_engine.specs.RewriteGroups.{HasRenewedFrom, first_left}
use Rattle.raft_log_engine.specs.declared.engine.purge_kind.Purge.{Purge}
use Rattle.raft_log_engine.specs.declared.engine.purge_kind.Purge.TheVariants.{DropExpired, DropStale, RenewGroups, RewriteAppend, RewriteGroups, RewriteRewrite}

-- What one of them leaves, clause by clause.

pub renewed_groups : {T E : Type 0} (r : Result T E) (x : RenewalPart) (together : Bool) (m m' : MemTables) (a w a' w' : PipeState) → a' ≡ a → OnOk r (AreRenewed (first_new x.files w) x (tables_of m) (tables_of m')) → OnOk r (x.is_last ≡ false → w'.first ≡ w.first) → OnOk r (x.is_last ≡ true → w'.first ≡ first_kept (first_new x.files w) together m' w)
    → OnOk r (x.is_last ≡ true → together ≡ true → AreRewrittenFrom (first_new x.files w) (tables_of m') → w'.first ≡ first_new x.files w) → OnOk r (HasRenewedGroups x together m m' w w' × (a' ≡ a))
renewed_groups (Ok y) x together m m' a w a' w' same emptied kept dropped gone = (record { emptied = emptied; kept = kept; dropped = dropped; gone = gone }, same)
renewed_groups (Err e) x together m m' a w a' w' same emptied kept dropped gone = tt

-- Its new files, behind it and before the next one.

-- those that it went on with, or began
going_with : (o : Option NewFiles) (p : PipeState) (groups : GroupsMet) (d : DualState) (t : Tables) (met : KnownGroups) (n : Directory) → IsUnderWay (first_new o p) (bound_new o groups) d t met n → GoesOnWith (files_new o p groups) d t met n
going_with None p groups d t met n under_way = under_way
going_with (Some files) p groups d t met n under_way = under_way

abbrev behind_if : Bool → NewFiles → Option NewFiles
behind_if is_last files = if is_last then None else Some files

pub going_on : (x : RenewalPart) (p : PipeState) (groups : GroupsMet) (d : DualState) (t : Tables) (met : KnownGroups) (n : Directory) → (x.is_last ≡ false → IsUnderWay (first_new x.files p) (bound_new x.files groups) d t met n) → (files : NewFiles) → files_behind x (files_new None p groups) ≡ Some files → GoesOnWith files d t met n
going_on x p groups d t met n goes files = at x.is_last goes
  where
    at : (b : Bool) → (b ≡ false → IsUnderWay (first_new x.files p) (bound_new x.files groups) d t met n) → behind_if b (files_new x.files p groups) ≡ Some files → GoesOnWith files d t met n
    at true going is = absurd (let clash : ◌≡◌ {A = Option NewFiles} None (Some files) = is in cc)
    at false going is = subst (λ (f : NewFiles). GoesOnWith f d t met n) (same_Some (files_new x.files p groups) files is) (going_with x.files p groups d t met n (going refl))

-- what a purge asks of them
pub goes_on_if : (purge : Purge) (files : Option NewFiles) (d : DualState) (t : Tables) (met : KnownGroups) (n : Directory) → GoesOnFrom purge files → ((f : NewFiles) → files ≡ Some f → GoesOnWith f d t met n) → GoesOnIf purge d t met n
goes_on_if (RenewGroups x) files d t met n from goes = subst (λ (o : Option NewFiles). MayGoOnWith o d t met n) (sym from) (at files goes)
  where
    at : (o : Option NewFiles) → ((f : NewFiles) → o ≡ Some f → GoesOnWith f d t met n) → MayGoOnWith o d t met n
    at None each = tt
    at (Some f) each = each f refl
goes_on_if (RewriteAppend scope) files d t met n from goes = tt
goes_on_if (RewriteGroups some) files d t met n from goes = tt
goes_on_if RewriteRewrite files d t met n from goes = tt
goes_on_if DropStale files d t met n from goes = tt
goes_on_if (DropExpired x) files d t met n from goes = tt

-- Of the next groups, of which these are the last ones or not.

pub renewed_from : (first from : ℕ) (x : NextGroups) (t t' : Tables) → AreNextGroups from t x → ((group : ℕ) → (list_any (nat_eq group) x.groups.items ≡ true) ⊎ IsAllFrom first (or_empty (t group)) → IsAllFrom first (or_empty (t' group))) → MovesOnly None t t' → HasRenewedFrom first from x.next t t'
renewed_from first from x t t' are renewed only = record { emptied = λ k. each k; only = only; known = are.next }
  where
    at : (k : ℕ) → (nat_le from k && comes_before x.next k) ≡ true → (b : Bool) → is_some (t k) ≡ b → IsAllFrom first (or_empty (t' k))
    at k within true there = renewed k (inl (are.each k ∙ rw (there, within) refl))
    at k within false unknown = renewed k (inr (none_of first (t k) unknown))

    each : (k : ℕ) → ((nat_le from k && comes_before x.next k) ≡ true) ⊎ IsAllFrom first (or_empty (t k)) → IsAllFrom first (or_empty (t' k))
    each k (inl within) = at k within (is_some (t k)) refl
    each k (inr none) = renewed k (inr none)

abbrev before_if : Bool → NewFiles → Option NewFiles
before_if is_some_next files = if is_some_next then Some files else None

pub behind_is : (is_last : Bool) (next : Option ℕ) (files : NewFiles) → is_some next ≡ not is_last → behind_if is_last files ≡ before_if (is_some next) files
behind_is true next files is = sym (ap (λ (s : Bool). before_if s files) is)
behind_is false next files is = sym (ap (λ (s : Bool). before_if s files) is)

pub begins_with : (is_last : Bool) (next : Option ℕ) (first : ℕ) (together : Bool) (m' : MemTables) (p p' : PipeState) → is_some next ≡ not is_last → (is_last ≡ false → p'.first ≡ p.first) → (is_last ≡ true → p'.first ≡ first_kept first together m' p) → p'.first ≡ first_left first together next m' p
begins_with true None first together m' p p' is kept dropped = dropped refl
begins_with false (Some next) first together m' p p' is kept dropped = kept refl
begins_with false None first together m' p p' is kept dropped = absurd (false≢true is)
begins_with true (Some next) first together m' p p' is kept dropped = absurd (false≢true (sym is))

pub last_of : (is_last : Bool) (next : Option ℕ) → is_some next ≡ not is_last → next ≡ None → is_last ≡ true
last_of true next is none = refl
last_of false next is none = absurd (false≢true (sym (ap is_some none) ∙ is))
