-- Operations on an engine, from one state to the next.
use Rattle.std.proofs.Common.{◌≡◌, ◌∙◌, ℕ, suc, Bool, true, false, List, [], ◌∷◌, ◌++◌, length, append-nil, append_assoc, refl, sym, subst, ap, arith, inl, inr}
use Rattle.std.specs.Prelude.{◌||◌, Option, Some, None, is_some, map, option_map, if◌then◌else◌}
use Rattle.std.specs.List.{AllByRecursion}
use Rattle.std.proofs.lemmas.Bool.{cases_Bool}
use Rattle.std.proofs.lemmas.List.Sums.{fold-append}
use Rattle.std.proofs.Math.Path.{fun_ext}
use Rattle.raft_env.specs.Directory.{Directory}
use Rattle.raft_config.specs.Folders.{Folders}
use Rattle.raft_env.specs.Moments.{HoldsThroughout}
use Rattle.raft_env.specs.declared.env.FileSystem.{Ghosts}
use Rattle.raft_crash_laws.specs.Contents.{found_contents, found_groups, known_from}
use Rattle.raft_crash_laws.specs.Crash.{LeavesAllowed}
use Rattle.raft_tables.specs.Known.{known_after}
use Rattle.raft_log_engine.specs.Durability.{Durability, HasOnlyRead, Progresses, StaysFailed, durability_of}
use Rattle.raft_log_engine.specs.Engine.{begun_of, contents_of, directory_of, durable_of, folders_of, found_groups_of, found_of, has_failed, moments_of, unsynced_of}
use Rattle.raft_log_engine.specs.declared.engine.Engine.{Engine}
use Rattle.raft_records.specs.Contents.{Contents, after_batch, after_batches}
use Rattle.raft_records.specs.Item.{Batch}
use Rattle.raft_script.specs.Batches.{MayBeInFlight, accepted_of, is_covering}
use Rattle.raft_script.specs.Durability.{Does, IsCall, LeavesInFlight, first_true, progress_after_all}
use Rattle.raft_script.specs.Headline.{Leads, Progress, last_state, progress_after}
use Rattle.raft_script.specs.declared.operation.Op.{Op}
use Rattle.raft_script.specs.declared.operation.Outcome.{Outcome}
use Rattle.raft_log_engine.proofs.ProgressLemmas.{rests}
use Rattle.raft_script.proofs.RunLemmas.{IsNextPlace}

-- Where an engine failed.

-- the place of a first failure after others
abbrev first_after : Option ℕ → Bool → ℕ → Option ℕ
first_after (Some place) failed len = Some place
first_after None failed len = if failed then Some len else None

one_later : (o : Option ℕ) (b : Bool) (len : ℕ)
    → option_map suc (first_after o b len) ≡ first_after (option_map suc o) b (suc len)
one_later (Some place) b len = refl
one_later None true len = refl
one_later None false len = refl

-- behind a state that has failed or not
abbrev first_behind : Bool → Option ℕ → Option ℕ
first_behind failed o = if failed then Some 0 else option_map suc o

first_behind-more : (b : Bool) (o more : Option ℕ) (failed : Bool) (len : ℕ)
    → more ≡ first_after o failed len
    → first_behind b more ≡ first_after (first_behind b o) failed (suc len)
first_behind-more true o more failed len is = refl
first_behind-more false o more failed len is = ap (option_map suc) is ∙ one_later o failed len

first_true-more : (fails : List Bool) (b : Bool)
    → first_true (fails ++ b ∷ []) ≡ first_after (first_true fails) b (length fails)
first_true-more [] b = refl
first_true-more (x ∷ fails) b = first_behind-more x (first_true fails) (first_true (fails ++ b ∷ [])) b (length fails) (first_true-more fails b)

-- where the engine failed that had failed before or not
abbrev pub failure_place : Bool → List Bool → Option ℕ
failure_place had fails = if had then None else first_true fails

pub begun_place : (had : Bool) → None ≡ failure_place had []
begun_place true = refl
begun_place false = refl

module _ (fails : List Bool) (falls : Bool) (failed : Bool) (failed_at next_at : Option ℕ) (next : IsNextPlace failed falls (length fails) failed_at next_at) (still : failed ≡ true → falls ≡ true) where
  -- once one operation more is done
  pub place_more : (had : Bool) → failed ≡ (had || is_some failed_at)
      → failed_at ≡ failure_place had fails
      → (falls ≡ (had || is_some next_at)) × (next_at ≡ failure_place had (fails ++ falls ∷ []))
  place_more true now at =
      let same : next_at ≡ failed_at = next.rests (still now ∙ sym now) in
      (still now, same ∙ at)
  place_more false now at = by_case failed falls refl refl
    where
      more : next_at ≡ first_after failed_at falls (length fails)
          → next_at ≡ first_true (fails ++ falls ∷ [])
      more is = is ∙ ap (λ (o : Option ℕ). first_after o falls (length fails)) at ∙ sym (first_true-more fails falls)

      none : (o : Option ℕ) → false ≡ is_some o → o ≡ None
      none None is = refl
      none (Some place) is = absurd cc

      kept : (o : Option ℕ) (b : Bool) → true ≡ is_some o → o ≡ first_after o b (length fails)
      kept (Some place) b is = refl
      kept None b is = absurd cc

      by_case : (b c : Bool) → failed ≡ b → falls ≡ c
          → (falls ≡ is_some next_at) × (next_at ≡ first_true (fails ++ falls ∷ []))
      by_case true false fell stood = absurd (let clash = sym (still fell) ∙ stood in cc)
      by_case true true fell dies =
          let same : next_at ≡ failed_at = next.rests (dies ∙ sym fell) in (
            dies ∙ sym fell ∙ now ∙ ap is_some (sym same),
            more (same ∙ kept failed_at falls (sym fell ∙ now)),
          )
      by_case false false alive stands =
          let same : next_at ≡ failed_at = next.rests (stands ∙ sym alive) in
          let nowhere : failed_at ≡ None = none failed_at (sym alive ∙ now) in (
            stands ∙ sym (ap is_some (same ∙ nowhere)),
            more (same ∙ nowhere ∙ sym (ap (λ (o : Option ℕ). first_after o falls (length fails)) nowhere ∙ ap (λ (b : Bool). first_after None b (length fails)) stands)),
          )
      by_case false true alive dies =
          let here : next_at ≡ Some (length fails) = next.falls alive dies in
          let nowhere : failed_at ≡ None = none failed_at (sym alive ∙ now) in (
            dies ∙ sym (ap is_some here),
            more (here ∙ sym (ap (λ (o : Option ℕ). first_after o falls (length fails)) nowhere ∙ ap (λ (b : Bool). first_after None b (length fails)) dies)),
          )

-- where none of the states has failed, the last hasn't
module _ {S : Type 0} (failed : S → Bool) where
  pub never_failed : (before : S) (states : List S) → failed before ≡ false
      → None ≡ first_true (map failed states) → failed (last_state before states) ≡ false
  never_failed before [] stood none = stood
  never_failed before (s ∷ states) stood none = elim (cases_Bool (failed s)) [
    | inl fell ↦ absurd (let clash = none ∙ ap (λ (b : Bool). if b then Some 0 else option_map suc (first_true (map failed states))) fell in cc)
    | inr alive ↦ never_failed s states alive (nowhere (first_true (map failed states)) (none ∙ ap (λ (b : Bool). if b then Some 0 else option_map suc (first_true (map failed states))) alive))
  ]
    where
      nowhere : (o : Option ℕ) → None ≡ option_map suc o → None ≡ o
      nowhere None is = refl
      nowhere (Some place) is = absurd cc

-- States.

module _ {S : Type 0} (D : Progress → Op → Outcome → S → S → Type 0) (m : Contents) where
  -- one operation more
  pub leads_more : (op : Op) (outcome : Outcome) (after : S) (p : Progress) (before : S) (ops : List Op) (outcomes : List Outcome) (states : List S)
      → Leads D m p before ops outcomes states
      → D (progress_after_all m p ops outcomes) op outcome (last_state before states) after
      → Leads D m p before (ops ++ op ∷ []) (outcomes ++ outcome ∷ []) (states ++ after ∷ [])
  leads_more op outcome after p before [] [] [] led more = (more, tt)
  leads_more op outcome after p before (x ∷ ops) (o ∷ outcomes) (s ∷ states) led more = (led.0, leads_more op outcome after (progress_after m p x o) s ops outcomes states led.1 more)
  leads_more op outcome after p before [] [] (s ∷ states) led more = absurd led
  leads_more op outcome after p before [] (o ∷ outcomes) states led more = absurd led
  leads_more op outcome after p before (x ∷ ops) [] states led more = absurd led
  leads_more op outcome after p before (x ∷ ops) (o ∷ outcomes) [] led more = absurd led

  -- as many states as outcomes
  pub leads_len : (p : Progress) (before : S) (ops : List Op) (outcomes : List Outcome) (states : List S)
      → Leads D m p before ops outcomes states → length states ≡ length outcomes
  leads_len p before [] [] [] led = refl
  leads_len p before (x ∷ ops) (o ∷ outcomes) (s ∷ states) led = ap suc (leads_len (progress_after m p x o) s ops outcomes states led.1)
  leads_len p before [] [] (s ∷ states) led = absurd led
  leads_len p before [] (o ∷ outcomes) states led = absurd led
  leads_len p before (x ∷ ops) [] states led = absurd led
  leads_len p before (x ∷ ops) (o ∷ outcomes) [] led = absurd led

pub last_state-more : {S : Type 0} (before : S) (states : List S) (after : S)
    → last_state before (states ++ after ∷ []) ≡ after
last_state-more before [] after = refl
last_state-more before (s ∷ states) after = last_state-more s states after

-- calls add moments to those that there were
module _ {F H R W : Type 0} {g : Ghosts F H R W} where
  more_moments : (folders : Folders) (m : Contents) (known : ℕ → Bool) (p : Progress) (op : Op) (outcome : Outcome) (old new : Engine F H R W g) → IsCall folders m known p op outcome old new → (added : List Directory) × (moments_of new ≡ added ++ moments_of old)
  more_moments folders m known p op outcome old new call = elim (cases_Bool (has_failed old)) [
    | inl gone ↦ ([], call.does.rests gone)
    | inr alive ↦ ((call.does.moments alive).0, (call.does.moments alive).1)
  ]

  pub leads_moments : (folders : Folders) (m : Contents) (known : ℕ → Bool) (p : Progress) (before : Engine F H R W g) (ops : List Op) (outcomes : List Outcome) (states : List (Engine F H R W g))
      → Leads (IsCall folders m known) m p before ops outcomes states
      → (added : List Directory) × (moments_of (last_state before states) ≡ added ++ moments_of before)
  leads_moments folders m known p before [] [] [] led = ([], refl)
  leads_moments folders m known p before (x ∷ ops) (o ∷ outcomes) (s ∷ states) led =
      let rest = leads_moments folders m known (progress_after m p x o) s ops outcomes states led.1 in
      let here = more_moments folders m known p x o before s led.0 in
      (rest.0 ++ here.0, rest.1 ∙ ap (λ (l : List Directory). rest.0 ++ l) here.1 ∙ sym (append_assoc rest.0 here.0 (moments_of before)))
  leads_moments folders m known p before [] [] (s ∷ states) led = absurd led
  leads_moments folders m known p before [] (o ∷ outcomes) states led = absurd led
  leads_moments folders m known p before (x ∷ ops) [] states led = absurd led
  leads_moments folders m known p before (x ∷ ops) (o ∷ outcomes) [] led = absurd led

-- What an engine holds.

-- what the opening found is the same
module _ {F H R W : Type 0} {g : Ghosts F H R W} (new old : Engine F H R W g) (folders : folders_of new ≡ folders_of old) (begun : begun_of new ≡ begun_of old) where
  pub found_same : found_of new ≡ found_of old
  found_same = ap (λ (f : Folders). found_contents f (begun_of new)) folders ∙ ap (found_contents (folders_of old)) begun

  pub groups_same : found_groups_of new ≡ found_groups_of old
  groups_same = ap (λ (f : Folders). found_groups f (begun_of new)) folders ∙ ap (found_groups (folders_of old)) begun

-- what holds of each engine between two calls
pub record Keeps (folders : Folders) (found : Contents) (now : Durability) (n : Directory) : Type 0 where
  pub leaves : LeavesAllowed folders (after_batches found now.base) now.unsynced n
  pub holds : now.failed ≡ false
      → after_batches found (now.base ++ now.unsynced) ≡ after_batches (after_batches found now.base) now.unsynced

pub after-append : (m : Contents) (batches more : List Batch)
    → after_batches m (batches ++ more) ≡ after_batches (after_batches m batches) more
after-append m batches more = fold-append after_batch m batches more

pub known-append : (known : ℕ → Bool) (batches more : List Batch)
    → known_from known (batches ++ more) ≡ known_from (known_from known batches) more
known-append known batches more = fun_ext (λ group. fold-append (known_after group) (known group) batches more)

-- Moments.

-- the moments that a call adds, each of which has this
abbrev pub Adds : List Directory → List Directory → (Directory → Type 0) → Type 0
Adds old new P = (added : List Directory) × (new ≡ added ++ old) × AllByRecursion P added

pub all_weaker : (P Q : Directory → Type 0) → ((n : Directory) → P n → Q n) → (l : List Directory)
    → AllByRecursion P l → AllByRecursion Q l
all_weaker P Q f [] all = tt
all_weaker P Q f (n ∷ l) all = (f n all.0, all_weaker P Q f l all.1)

-- the moments of a call that has these batches in flight
pub in_flight : {F H R W : Type 0} {g : Ghosts F H R W} (e : Engine F H R W g) (op : Op) (flight written : List Batch) (after : List Directory) (n : Directory)
    → MayBeInFlight (contents_of e) op flight → flight ≡ written
    → HoldsThroughout (moments_of e) after n (LeavesAllowed (folders_of e) (durable_of e) (unsynced_of e ++ written)) → Adds (moments_of e) after (LeavesInFlight op e)
in_flight e op flight written after n may_be is holds = (
  holds.added,
  holds.is,
  all_weaker _ _ (λ x leaves. ∣ (flight, may_be, subst (λ (l : List Batch). LeavesAllowed (folders_of e) (durable_of e) (unsynced_of e ++ l) x) (sym is) leaves) ∣₁) holds.added holds.each,
)

module _ {F H R W : Type 0} {g : Ghosts F H R W} (old new : Engine F H R W g) (op : Op) (outcome : Outcome) where
  -- what an engine that only read has done
  pub does_read : HasOnlyRead old new → accepted_of (contents_of old) op outcome ≡ []
      → is_covering op outcome ≡ false → Does op outcome old new
  does_read read none covers_none = record {
    flight = [];
    may_be = ∣ ([], refl) ∣₁;
    progress = subst (λ (l : List Batch). Progresses l (is_covering op outcome) [] (durability_of old) (durability_of new)) (sym none)
        (subst (λ (covers : Bool). Progresses [] covers [] (durability_of old) (durability_of new)) (sym covers_none) (subst (λ (d : Durability). Progresses [] false [] (durability_of old) d) (sym read.state) (rests (durability_of old) [])));
    moments = λ alive. ([], read.moments, tt);
    rests = λ gone. read.moments;
  }

  -- .. and one that has nothing in flight
  pub does_purge : Progresses (accepted_of (contents_of old) op outcome) (is_covering op outcome) [] (durability_of old) (durability_of new)
      → HoldsThroughout (moments_of old) (moments_of new) (directory_of new) (LeavesAllowed (folders_of old) (durable_of old) (unsynced_of old)) → (has_failed old ≡ true → StaysFailed old new) → Does op outcome old new
  does_purge progress moments stays = record {
    flight = [];
    may_be = ∣ ([], refl) ∣₁;
    progress = progress;
    moments = λ alive. in_flight old op [] [] (moments_of new) (directory_of new) ∣ ([], refl) ∣₁ refl
        (subst (λ (l : List Batch). HoldsThroughout (moments_of old) (moments_of new) (directory_of new) (LeavesAllowed (folders_of old) (durable_of old) l)) (sym (append-nil (unsynced_of old))) moments);
    rests = λ gone. (stays gone).moments;
  }

-- an engine that isn't asked only read
pub read_same : {F H R W : Type 0} {g : Ghosts F H R W} (e : Engine F H R W g) → HasOnlyRead e e
read_same e = record { files = refl; moments = refl; refusals = (omega arith, omega arith); folders = refl; state = refl; begun = refl; settings = refl; pipes = refl; memory = refl }
