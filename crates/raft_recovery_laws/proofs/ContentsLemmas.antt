-- Valid batches, and what is recovered where they are appended.
use Rattle.std.proofs.Common.{◌≡◌, ℕ, ◌+◌, Bool, true, false, cond, eqb, leb, ◌&&◌, List, [], ◌∷◌, ◌++◌, length, filter, refl, sym, ◌∙◌, ap, subst, Option, Some, None, append-nil, append_assoc}
use Rattle.std.specs.List.{list_all, list_any, AllByRecursion as Each}
use Rattle.std.proofs.lemmas.Bool.{and_parts, and_from, leb-true, eqb-true, eq-eqb}
use Rattle.std.proofs.lemmas.List.Concat.{flat_map-append}
use Rattle.std.proofs.lemmas.List.Folds.{list_all-append}
use Rattle.std.proofs.lemmas.List.Sums.{fold-append}
use Rattle.raft_base.specs.declared.errors.Fault.{Fault}
use Rattle.raft_records.specs.Item.{Entry, Content, Entries, Clean, Compact, Put, Delete, Item, Batch}
use Rattle.raft_records.specs.Contents.{Contents, no_contents, with_entries, after_item, after_batch, after_batches}
use Rattle.raft_records.specs.Validity.{are_consecutive_from, fits_behind, content_refusal, batch_refusal, IsValidBatch}
use Rattle.raft_recovery_laws.specs.Recovered.{items_of, replay, effect, recovered}
use Rattle.raft_recovery_laws.specs.Groups.{whole, batch_counts}
use Rattle.raft_recovery_laws.specs.Consecutive.{are_consecutive, content_is_consecutive, HaveConsecutiveEntries, HasConsecutiveEntries}
use Rattle.raft_recovery_laws.specs.Valid.{AreValidBatches}
use Rattle.raft_recovery_laws.proofs.ListLemmas.{Runs, AreRun, put_on, run_put_on}
use Rattle.raft_recovery_laws.proofs.AppendLemmas.{EntryChange, Stay, IsRun, Fits, AllFit, StartsIn, after_change, after_changes, kept, run_kept, run_after_change, run_after_changes, put_on-after_changes}
use Rattle.raft_recovery_laws.proofs.FrontLemmas.{replayed, kept-append, apart_new}
use Rattle.raft_recovery_laws.proofs.EntryLemmas.{content_change, change_in, changes_of, runs_of_items, runs_when_consecutive, entries-after_item, entries-after_items, entries-after_batches, entries-replay}
use Rattle.raft_recovery_laws.proofs.KeyLemmas.{value_after, value_after_item, value-after_items, value-after_batches, value-replay}
use Rattle.raft_recovery_laws.proofs.MarkLemmas.{contents_ext}

-- Consecutive entries.

consecutive_when_runs : (n : ℕ) (es : List Entry) → Runs n es → are_consecutive_from n es ≡ true
consecutive_when_runs n [] _ = refl
consecutive_when_runs n (e ∷ es) (here, rest) = and_from (eqb e.0 n) (are_consecutive_from (n + 1) es) (eq-eqb e.0 n here) (consecutive_when_runs (n + 1) es rest)

pub consecutive_run : (es : List Entry) → AreRun es → are_consecutive es ≡ true
consecutive_run [] _ = refl
consecutive_run (e ∷ es) (n, runs) = consecutive_when_runs e.0 (e ∷ es) (refl, subst (λ k. Runs (k + 1) es) (sym runs.0) runs.1)

pub run_of_consecutive : (es : List Entry) → are_consecutive es ≡ true → AreRun es
run_of_consecutive [] is = (0, tt)
run_of_consecutive (e ∷ es) is = (e.0, runs_when_consecutive e.0 (e ∷ es) is)

pub items-append : (older newer : List Batch) → items_of (older ++ newer) ≡ items_of older ++ items_of newer
items-append older newer = flat_map-append (λ b. b) older newer

pub changes-append : (g : ℕ) (is more : List Item) → changes_of g (is ++ more) ≡ changes_of g is ++ changes_of g more
changes-append g [] more = refl
changes-append g (i ∷ is) more = ap (λ cs. change_in g i ∷ cs) (changes-append g is more)

pub changes-batches : (g : ℕ) (older newer : List Batch) → changes_of g (items_of (older ++ newer)) ≡ changes_of g (items_of older) ++ changes_of g (items_of newer)
changes-batches g older newer = ap (changes_of g) (items-append older newer) ∙ changes-append g (items_of older) (items_of newer)

pub run_replayed : (cs : List EntryChange) (x : List Entry) → Each IsRun cs → AreRun x → AreRun (replayed cs x)
run_replayed cs x runs run = run_put_on (kept cs x) (after_changes [] cs) (run_kept cs x run) (run_after_changes cs [] runs (0, tt))

pub run_recovered : (x : Contents) (appended : List Batch) (g : ℕ) → HaveConsecutiveEntries appended → AreRun (x.entries g) → AreRun ((replay x appended).entries g)
run_recovered x appended g consecutive run = subst AreRun (sym (entries-replay x appended g consecutive run)) (run_replayed (changes_of g (items_of appended)) (x.entries g) (runs_of_items g (items_of appended) consecutive) run)

-- What a valid batch brings.

valid_by : (m : Contents) (item : Item) (items : Batch) (o : Option Fault) → content_refusal m item.group item.content ≡ o → batch_refusal m (item ∷ items) ≡ None → (o ≡ None) × (batch_refusal (after_item m item) items ≡ None)
valid_by m item items None first is = (refl, rw first at is)
valid_by m item items (Some f) first is = let no = rw first at is in absurd (cc)

pub valid_first : (m : Contents) (item : Item) (items : Batch) → batch_refusal m (item ∷ items) ≡ None → (content_refusal m item.group item.content ≡ None) × (batch_refusal (after_item m item) items ≡ None)
valid_first m item items is = valid_by m item items (content_refusal m item.group item.content) refl is

entries_fit : (too_great fit : Bool) (f g : Fault) → cond too_great (Some f) (cond fit None (Some g)) ≡ None → fit ≡ true
entries_fit true fit f g is = absurd (cc)
entries_fit false true f g is = refl
entries_fit false false f g is = absurd (cc)

entries_start : (old : List Entry) (e : Entry) (es : List Entry) → fits_behind old (e ∷ es) ≡ true → StartsIn old e.0 × (are_consecutive_from e.0 (e ∷ es) ≡ true)
entries_start [] e es is = (tt, is)
entries_start (o ∷ old) e es is =
    let both = and_parts (are_consecutive_from e.0 (e ∷ es)) (leb o.0 e.0 && leb e.0 (o.0 + length (o ∷ old))) is in
    (leb-true o.0 e.0 (and_parts (leb o.0 e.0) (leb e.0 (o.0 + length (o ∷ old))) both.1).0, both.0)

content_fits : (m : Contents) (group : ℕ) (content : Content) → content_refusal m group content ≡ None → Fits (m.entries group) (content_change content) × (content_is_consecutive content ≡ true)
content_fits m group (Entries []) is = (tt, refl)
content_fits m group (Entries (e ∷ es)) is = entries_start (m.entries group) e es (entries_fit (list_any (λ x. eqb x.0 18446744073709551615) (e ∷ es)) (fits_behind (m.entries group) (e ∷ es)) _ _ is)
content_fits m group Clean is = (tt, refl)
content_fits m group (Compact index) is = (tt, refl)
content_fits m group (Put key value) is = (tt, refl)
content_fits m group (Delete key) is = (tt, refl)

pub valid_is_consecutive : (m : Contents) (items : Batch) → IsValidBatch m items → list_all (λ item. content_is_consecutive item.content) items ≡ true
valid_is_consecutive m [] is = refl
valid_is_consecutive m (item ∷ items) is =
    let first = valid_first m item items is in
    and_from (content_is_consecutive item.content) (list_all (λ i. content_is_consecutive i.content) items) (content_fits m item.group item.content first.0).1 (valid_is_consecutive (after_item m item) items first.1)

fits_in : (m : Contents) (g group : ℕ) (c : EntryChange) (b : Bool) → eqb g group ≡ b → Fits (m.entries group) c → Fits (m.entries g) (cond b c Stay)
fits_in m g group c true same fits = subst (λ h. Fits (m.entries h) c) (sym (eqb-true g group same)) fits
fits_in m g group c false other fits = tt

pub valid_fits : (m : Contents) (items : Batch) (g : ℕ) → IsValidBatch m items → Each IsRun (changes_of g items) → AreRun (m.entries g) → AllFit (m.entries g) (changes_of g items)
valid_fits m [] g is _ run = tt
valid_fits m (item ∷ items) g is (first, others) run =
    let parts = valid_first m item items is in
    let step = entries-after_item m item g run in (
      fits_in m g item.group (content_change item.content) (eqb g item.group) refl (content_fits m item.group item.content parts.0).0,
      subst (λ es. AllFit es (changes_of g items)) step (valid_fits (after_item m item) items g parts.1 others (subst AreRun (sym step) (run_after_change (m.entries g) (change_in g item) first run))),
    )

-- A valid batch is applied to what is recovered.

pub one_more : (appended : List Batch) (b : Batch) → items_of (appended ++ b ∷ []) ≡ items_of appended ++ b
one_more appended b = items-append appended (b ∷ []) ∙ ap (λ is. items_of appended ++ is) (append-nil b)

pub consecutive-append : (older newer : List Batch) → HaveConsecutiveEntries older → HaveConsecutiveEntries newer → HaveConsecutiveEntries (older ++ newer)
consecutive-append older newer left right = ap (list_all (λ item. content_is_consecutive item.content)) (items-append older newer) ∙ list_all-append (λ item. content_is_consecutive item.content) (items_of older) (items_of newer) ∙ and_from _ _ left right

pub consecutive_one : (b : Batch) → list_all (λ item. content_is_consecutive item.content) b ≡ true → HaveConsecutiveEntries (b ∷ [])
consecutive_one b is = ap (list_all (λ item. content_is_consecutive item.content)) (append-nil b) ∙ is

consecutive_more : (appended : List Batch) (b : Batch) → HaveConsecutiveEntries appended → list_all (λ item. content_is_consecutive item.content) b ≡ true → HaveConsecutiveEntries (appended ++ b ∷ [])
consecutive_more appended b left right = consecutive-append appended (b ∷ []) left (ap (list_all (λ item. content_is_consecutive item.content)) (append-nil b) ∙ right)

replayed-append : (cs ds : List EntryChange) (x : List Entry) → Each IsRun cs → Each IsRun ds → AllFit (replayed cs x) ds → replayed (cs ++ ds) x ≡ after_changes (replayed cs x) ds
replayed-append cs ds x first then fit =
    ap (λ w. put_on w (after_changes [] (cs ++ ds))) (kept-append cs ds x) ∙ ap (put_on (kept ds (kept cs x))) (fold-append after_change [] cs ds)
    ∙ put_on-after_changes ds (kept cs x) (after_changes [] cs) then (run_after_changes cs [] first (0, tt)) (apart_new cs x first) fit

entries_appended : (x : Contents) (appended : List Batch) (b : Batch) (g : ℕ) → AreRun (x.entries g) → HaveConsecutiveEntries appended → IsValidBatch (replay x appended) b → (replay x (appended ++ b ∷ [])).entries g ≡ (after_batch (replay x appended) b).entries g
entries_appended x appended b g run consecutive valid =
    let right : list_all (λ item. content_is_consecutive item.content) b ≡ true = valid_is_consecutive (replay x appended) b valid in
    let cs = changes_of g (items_of appended) in
    let first = runs_of_items g (items_of appended) consecutive in
    let then = runs_of_items g b right in
    let found = entries-replay x appended g consecutive run in
    let run_now = run_recovered x appended g consecutive run in
    entries-replay x (appended ++ b ∷ []) g (consecutive_more appended b consecutive right) run
    ∙ ap (λ ds. replayed ds (x.entries g)) (ap (changes_of g) (one_more appended b) ∙ changes-append g (items_of appended) b)
    ∙ replayed-append cs (changes_of g b) (x.entries g) first then (subst (λ es. AllFit es (changes_of g b)) found (valid_fits (replay x appended) b g valid then run_now))
    ∙ ap (λ es. after_changes es (changes_of g b)) (sym found) ∙ sym (entries-after_items (replay x appended) b g then run_now)

value_appended : (x : Contents) (appended : List Batch) (b : Batch) (g : ℕ) (k : List ℕ) → (replay x (appended ++ b ∷ [])).value g k ≡ (after_batch (replay x appended) b).value g k
value_appended x appended b g k =
    value-replay x (appended ++ b ∷ []) g k ∙ ap (value_after g k (x.value g k)) (one_more appended b) ∙ fold-append (value_after_item g k) (x.value g k) (items_of appended) b
    ∙ ap (λ v. value_after g k v b) (sym (value-replay x appended g k)) ∙ sym (value-after_items (replay x appended) b g k)

pub replay-appended : (x : Contents) (appended : List Batch) (b : Batch) → HasConsecutiveEntries x → HaveConsecutiveEntries appended → IsValidBatch (replay x appended) b → replay x (appended ++ b ∷ []) ≡ after_batch (replay x appended) b
replay-appended x appended b run consecutive valid = contents_ext (replay x (appended ++ b ∷ [])) (after_batch (replay x appended) b) (λ g. entries_appended x appended b g (run_of_consecutive (x.entries g) (run g)) consecutive valid) (value_appended x appended b)

-- .. and so are batches that are valid one after the other
pub replay-all_appended : (x : Contents) (appended bs : List Batch) → HasConsecutiveEntries x → HaveConsecutiveEntries appended → AreValidBatches (replay x appended) bs → replay x (appended ++ bs) ≡ after_batches (replay x appended) bs
replay-all_appended x appended [] run consecutive _ = ap (replay x) (append-nil appended)
replay-all_appended x appended (b ∷ bs) run consecutive (valid, others) =
    let one = replay-appended x appended b run consecutive valid in
    ap (replay x) (sym (append_assoc appended (b ∷ []) bs))
    ∙ replay-all_appended x (appended ++ b ∷ []) bs run (consecutive_more appended b consecutive (valid_is_consecutive (replay x appended) b valid)) (subst (λ m. AreValidBatches m bs) (sym one) others)
    ∙ ap (λ m. after_batches m bs) one

-- What the queues' batches leave is consecutive where their entries are.

filter_consecutive : (p : Batch → Bool) (batches : List Batch) → HaveConsecutiveEntries batches → HaveConsecutiveEntries (filter p batches)
filter_consecutive p [] is = refl
filter_consecutive p (b ∷ bs) is =
    let both = and_parts (list_all is_run b) (list_all is_run (items_of bs)) (sym (list_all-append is_run b (items_of bs)) ∙ is) in
    go (p b) both.0 (filter_consecutive p bs both.1)
  where
    is_run : Item → Bool
    is_run item = content_is_consecutive item.content

    go : (t : Bool) → list_all is_run b ≡ true → HaveConsecutiveEntries (filter p bs) → HaveConsecutiveEntries (cond t (b ∷ filter p bs) (filter p bs))
    go true here rest = list_all-append is_run b (items_of (filter p bs)) ∙ and_from _ _ here rest
    go false here rest = rest

pub after_batches_consecutive : (m : Contents) (batches : List Batch) → HasConsecutiveEntries m → HaveConsecutiveEntries batches → HasConsecutiveEntries (after_batches m batches)
after_batches_consecutive m batches run consecutive g =
    let here = run_of_consecutive (m.entries g) (run g) in
    consecutive_run ((after_batches m batches).entries g) (subst AreRun (sym (entries-after_batches m batches g consecutive here))
    (run_after_changes (changes_of g (items_of batches)) (m.entries g) (runs_of_items g (items_of batches) consecutive) here))

pub effect_consecutive : (rewritten : List Batch) → HaveConsecutiveEntries rewritten → HasConsecutiveEntries (effect rewritten)
effect_consecutive rewritten consecutive = after_batches_consecutive no_contents (whole rewritten) (λ g. refl) (filter_consecutive (batch_counts rewritten) rewritten consecutive)

pub replay_consecutive : (x : Contents) (appended : List Batch) → HasConsecutiveEntries x → HaveConsecutiveEntries appended → HasConsecutiveEntries (replay x appended)
replay_consecutive x appended run consecutive g = consecutive_run ((replay x appended).entries g) (run_recovered x appended g consecutive (run_of_consecutive (x.entries g) (run g)))

-- Nothing in the Rewrite queue.

with_entries-nothing : (a : List Entry) → with_entries [] a ≡ a
with_entries-nothing [] = refl
with_entries-nothing (e ∷ es) = refl

pub recovered-nothing_rewritten : (appended : List Batch) → recovered [] appended ≡ after_batches no_contents appended
recovered-nothing_rewritten appended = contents_ext (recovered [] appended) (after_batches no_contents appended)
    (λ g. with_entries-nothing ((after_batches no_contents appended).entries g))
    (λ g k. value-replay no_contents appended g k ∙ sym (value-after_batches no_contents appended g k))
