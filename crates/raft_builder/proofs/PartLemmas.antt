-- Parts that were read, put together.
use Rattle.std.proofs.Common.{◌≡◌, ◌⊎◌, ◌≤◌, suc, List, [], ◌∷◌, ◌++◌, length, get_or, map, take, drop, inl, inr, refl, sym, ◌∙◌, ap, subst, arith}
use Rattle.std.specs.Prelude.{Contains, Ok, Err, IfErr, IfOk, Vec}
use Rattle.std.specs.declared.alloc.Global.{Global}
use Rattle.std.specs.List.{All, AllByRecursion, AllZip, flat_map}
use Rattle.std.proofs.lemmas.Grind.{flat_map-append}
use Rattle.std.proofs.lemmas.List.{map-append}
use Rattle.std.proofs.lemmas.List.Elements.{All-cons, All-nil, Contains-append_left}
use Rattle.raft_base.specs.declared.errors.Fault.{Fault}
use Rattle.raft_base.specs.declared.errors.Fault.TheVariants.{Memory}
use Rattle.raft_base.specs.declared.pipe_log.LogQueue.{LogQueue}
use Rattle.raft_env.specs.Directory.{Directory}
use Rattle.raft_env.specs.Refusal.{Refusals}
use Rattle.raft_opening.specs.OpenedLogs.{AreInQueue, AreReplayed, HasDamageIn, HaveLogBlocks, IsLogsFault, IsLogsRefusal, IsOpenableIn, IsReplayIn, OpenedLogState, logged_batches}
use Rattle.raft_opening.specs.declared.replay.ReplayedLog.{ReplayedLog}
use Rattle.raft_opening.proofs.OpenedLogsLemmas.{all_append, zip_append}
use Rattle.raft_pipes.proofs.QueueFilesLemmas.{all_back, all_front}
use Rattle.raft_opening.proofs.ReadFilesLemmas.{fault_after}
use Rattle.raft_records.specs.FileBatches.{FileBatch}
use Rattle.raft_records.specs.Places.{Blocks}
use Rattle.raft_builder.specs.Parts.{Answer, AreAnswered, IsFirstRefusal, IsPartRead}
use Rattle.raft_builder.specs.Reading.{AreLogsRead}
use Rattle.raft_builder.proofs.CountLemmas.{PartsRose}
use Rattle.raft_builder.specs.Machines.{AreFresh}

pub all_from_recursion : {A : Type 0} (P : A → Type 0) (xs : List A) → AllByRecursion P xs → All P xs
all_from_recursion P [] all = All-nil P
all_from_recursion P (x ∷ xs) all = All-cons P x xs all.0 (all_from_recursion P xs all.1)

head_is : {A : Type 0} (x y : A) (xs ys : List A) → x ∷ xs ≡ y ∷ ys → x ≡ y
head_is x y xs ys is = ap (λ zs. get_or zs 0 x) is

tail_is : {A : Type 0} (x y : A) (xs ys : List A) → x ∷ xs ≡ y ∷ ys → xs ≡ ys
tail_is x y xs ys is = ap (λ zs. drop 1 zs) is

-- each part has some of the files
pub all_in_parts : {J : Type 0} (logs_of : J → List OpenedLogState) (P : OpenedLogState → Type 0) (jobs : List J) → AllByRecursion P (flat_map logs_of jobs) → AllByRecursion (λ job. AllByRecursion P (logs_of job)) jobs
all_in_parts logs_of P [] all = tt
all_in_parts logs_of P (job ∷ jobs) all = (all_front P (logs_of job) (flat_map logs_of jobs) all, all_in_parts logs_of P jobs (all_back P (logs_of job) (flat_map logs_of jobs) all))

-- two lists of jobs, and what was given of them
module _ {J X : Type 0} (R : J → X → Type 0) where
  pub zip_front : (jobs others : List J) (read : List X) → AllZip R (jobs ++ others) read → AllZip R jobs (take (length jobs) read)
  zip_front [] others read zip = tt
  zip_front (job ∷ jobs) others [] zip = absurd zip
  zip_front (job ∷ jobs) others (r ∷ read) zip = (zip.0, zip_front jobs others read zip.1)

  pub zip_back : (jobs others : List J) (read : List X) → AllZip R (jobs ++ others) read → AllZip R others (drop (length jobs) read)
  zip_back [] others read zip = zip
  zip_back (job ∷ jobs) others [] zip = absurd zip
  zip_back (job ∷ jobs) others (r ∷ read) zip = zip_back jobs others read zip.1

  pub zip_within : (jobs others : List J) (read : List X) → AllZip R (jobs ++ others) read → length jobs ≤ length read
  zip_within [] others read zip = omega arith
  zip_within (job ∷ jobs) others [] zip = absurd zip
  zip_within (job ∷ jobs) others (r ∷ read) zip = let rest = zip_within jobs others read zip.1 in omega (arith, rest)

module _ {J X M : Type 0} (logs_of : J → List OpenedLogState) (machine_of : J → M) (left_of : X → List OpenedLogState) (read_of : X → Answer M)
    (stands_for : LogQueue → Blocks → List FileBatch → M → List FileBatch → Type 0) (n : Directory) where
  abbrev pub WasRead : J → X → Type 0
  WasRead job r = IsPartRead stands_for n (logs_of job) (machine_of job) (left_of r) (read_of r)

  fault_behind : (logs more : List OpenedLogState) (before after : Refusals) (e : Fault) → AllByRecursion (IsOpenableIn n) logs → IsLogsFault n more before after e → IsLogsFault n (logs ++ more) before after e
  fault_behind [] more before after e openable fault = fault
  fault_behind (log ∷ logs) more before after e openable fault = elim (fault_behind logs more before after e openable.1 fault) [
    | inl (inl memory) ↦ inl (inl memory)
    | inl (inr (path, there, refusal)) ↦ inl (inr (path, (suc there.0, omega (arith, there.1), there.2), refusal))
    | inr damage ↦ inr (inr (openable.0, damage))
  ]

  damage_before : (logs more : List OpenedLogState) (e : Fault) → HasDamageIn n logs e → HasDamageIn n (logs ++ more) e
  damage_before [] more e none = absurd none
  damage_before (log ∷ logs) more e (inl damage) = inl damage
  damage_before (log ∷ logs) more e (inr (openable, damage)) = inr (openable, damage_before logs more e damage)

  fault_before : (logs more : List OpenedLogState) (before after : Refusals) (e : Fault) → IsLogsFault n logs before after e → IsLogsFault n (logs ++ more) before after e
  fault_before logs more before after e (inl (inl memory)) = inl (inl memory)
  fault_before logs more before after e (inl (inr (path, there, refusal))) = inl (inr (path, subst (λ ps. Contains ps path) (sym (map-append (λ (log : OpenedLogState). log.path) logs more)) (Contains-append_left (map (λ log. log.path) logs) (map (λ log. log.path) more) path there), refusal))
  fault_before logs more before after e (inr damage) = inr (damage_before logs more e damage)

  -- a part that was read can be opened
  one_openable : (job : J) (r : X) (done : M × Vec ReplayedLog Global) → read_of r ≡ Ok done → WasRead job r → AreReplayed stands_for n (logs_of job) (machine_of job) done.0 done.1.items
  one_openable job r done is was = rw is at was.ok

  -- the first refusal
  pub parts_refused : (jobs : List J) (read : List X) (before after : Refusals) (e : Fault) → AllZip WasRead jobs read → PartsRose left_of before after read → IsFirstRefusal (map read_of read) e → IsLogsFault n (flat_map logs_of jobs) before after e
  parts_refused [] [] before after e zip rose first = absurd first
  parts_refused [] (r ∷ read) before after e zip rose first = absurd zip
  parts_refused (job ∷ jobs) [] before after e zip rose first = absurd zip
  parts_refused (job ∷ jobs) (r ∷ read) before after e zip rose first = here (read_of r) zip.0.ok zip.0.refused (parts_refused jobs read before after e zip.1 rose.1) first
    where
      here : (answer : Answer M) → IfOk answer (λ done. AreReplayed stands_for n (logs_of job) (machine_of job) done.0 done.1.items) → IfErr answer (IsLogsRefusal n (logs_of job) (left_of r)) → (IsFirstRefusal (map read_of read) e → IsLogsFault n (flat_map logs_of jobs) before after e) → IsFirstRefusal (answer ∷ map read_of read) e → IsLogsFault n (logs_of job ++ flat_map logs_of jobs) before after e
      here (Ok done) ok refused later first = fault_behind (logs_of job) (flat_map logs_of jobs) before after e ok.openable (later first)
      here (Err f) ok refused later first = fault_before (logs_of job) (flat_map logs_of jobs) before after e (subst (IsLogsFault n (logs_of job) before after) first (fault_after n (logs_of job) (left_of r) before after f refused rose.0))

  pub gathered_fault : (jobs : List J) (read : List X) (before after : Refusals) (e : Fault) → AllZip WasRead jobs read → PartsRose left_of before after read → (e ≡ Memory) ⊎ IsFirstRefusal (map read_of read) e → IsLogsFault n (flat_map logs_of jobs) before after e
  gathered_fault jobs read before after e zip rose (inl memory) = inl (inl memory)
  gathered_fault jobs read before after e zip rose (inr first) = parts_refused jobs read before after e zip rose first

  -- parts of which each was read from nothing
  pub parts_openable : (jobs : List J) (read : List X) (done : List (M × Vec ReplayedLog Global)) → AllZip WasRead jobs read → map Ok done ≡ map read_of read → AllByRecursion (IsOpenableIn n) (flat_map logs_of jobs)
  parts_openable [] read done zip are = tt
  parts_openable (job ∷ jobs) [] done zip are = absurd zip
  parts_openable (job ∷ jobs) (r ∷ read) [] zip are = cc
  parts_openable (job ∷ jobs) (r ∷ read) (d ∷ done) zip are =
      all_append (IsOpenableIn n) (logs_of job) (flat_map logs_of jobs) (one_openable job r d (sym (head_is _ _ _ _ are)) zip.0).openable (parts_openable jobs read done zip.1 (tail_is _ _ _ _ are))

  pub parts_replays : (jobs : List J) (read : List X) (done : List (M × Vec ReplayedLog Global)) → AllZip WasRead jobs read → map Ok done ≡ map read_of read → AllZip (IsReplayIn n) (flat_map logs_of jobs) (flat_map (λ one. one.1.items) done)
  parts_replays [] [] [] zip are = tt
  parts_replays [] [] (d ∷ done) zip are = cc
  parts_replays [] (r ∷ read) done zip are = absurd zip
  parts_replays (job ∷ jobs) [] done zip are = absurd zip
  parts_replays (job ∷ jobs) (r ∷ read) [] zip are = cc
  parts_replays (job ∷ jobs) (r ∷ read) (d ∷ done) zip are =
      zip_append (IsReplayIn n) (logs_of job) (flat_map logs_of jobs) d.1.items (flat_map (λ one. one.1.items) done) (one_openable job r d (sym (head_is _ _ _ _ are)) zip.0).replays (parts_replays jobs read done zip.1 (tail_is _ _ _ _ are))

  pub parts_batches : (jobs : List J) → flat_map (λ part. part) (map (λ job. logged_batches n (logs_of job)) jobs) ≡ logged_batches n (flat_map logs_of jobs)
  parts_batches [] = refl
  parts_batches (job ∷ jobs) = ap (λ bs. logged_batches n (logs_of job) ++ bs) (parts_batches jobs) ∙ sym (flat_map-append _ (logs_of job) (flat_map logs_of jobs))

  module _ (is_new : M → Type 0) (fresh : AreFresh is_new stands_for) (queue : LogQueue) (blocks : Blocks) where
    pub parts_stand : (jobs : List J) (read : List X) (done : List (M × Vec ReplayedLog Global)) → AllZip WasRead jobs read → map Ok done ≡ map read_of read → AllByRecursion (λ job. is_new (machine_of job)) jobs → AreInQueue queue (flat_map logs_of jobs) → HaveLogBlocks n (flat_map logs_of jobs) blocks
        → AllZip (λ part machine. stands_for queue blocks [] machine part) (map (λ job. logged_batches n (logs_of job)) jobs) (map (λ one. one.0) done)
    parts_stand [] [] [] zip are new inside have = tt
    parts_stand [] [] (d ∷ done) zip are new inside have = cc
    parts_stand [] (r ∷ read) done zip are new inside have = absurd zip
    parts_stand (job ∷ jobs) [] done zip are new inside have = absurd zip
    parts_stand (job ∷ jobs) (r ∷ read) [] zip are new inside have = cc
    parts_stand (job ∷ jobs) (r ∷ read) (d ∷ done) zip are new inside have = (
      (one_openable job r d (sym (head_is _ _ _ _ are)) zip.0).stands queue blocks (all_front _ (logs_of job) (flat_map logs_of jobs) inside) (all_front _ (logs_of job) (flat_map logs_of jobs) have) [] [] (fresh (machine_of job) new.0 queue blocks),
      parts_stand jobs read done zip.1 (tail_is _ _ _ _ are) new.1 (all_back _ (logs_of job) (flat_map logs_of jobs) inside) (all_back _ (logs_of job) (flat_map logs_of jobs) have),
    )

  -- the machine of all parts, and what is decided of their files
  pub parts_read : (is_new : M → Type 0) (fresh : AreFresh is_new stands_for) (queue : LogQueue) (jobs : List J) (read : List X) (logs : List OpenedLogState) (machines : List M) (replayed : List ReplayedLog) (m : M)
      → flat_map logs_of jobs ≡ logs → AllByRecursion (λ job. is_new (machine_of job)) jobs → AllZip WasRead jobs read → AreAnswered (map read_of read) machines replayed
      → ((blocks : Blocks) (parts : List (List FileBatch)) → AllZip (λ part machine. stands_for queue blocks [] machine part) parts machines → stands_for queue blocks [] m (flat_map (λ part. part) parts))
      → AreLogsRead stands_for queue n logs m replayed
  parts_read is_new fresh queue jobs read logs machines replayed m logs_are new zip are merged =
      subst (λ ls. AreLogsRead stands_for queue n ls m replayed) logs_are (record {
        openable = parts_openable jobs read are.done zip are.are;
        replays = subst (AllZip (IsReplayIn n) (flat_map logs_of jobs)) are.replayed_are (parts_replays jobs read are.done zip are.are);
        stands = λ blocks inside have. subst (stands_for queue blocks [] m) (parts_batches jobs)
            (merged blocks (map (λ job. logged_batches n (logs_of job)) jobs)
            (subst (AllZip (λ part machine. stands_for queue blocks [] machine part) (map (λ job. logged_batches n (logs_of job)) jobs)) are.machines_are
            (parts_stand is_new fresh queue blocks jobs read are.done zip are.are new inside have)));
      })
