-- Files that are dealt out in parts, and what was read of two queues' parts.
use Rattle.std.proofs.Common.{◌≡◌, ◌≤◌, ℕ, List, [], ◌∷◌, ◌++◌, length, take, drop, sym, ◌∙◌, ap, subst, append_assoc}
use Rattle.std.specs.List.{All, AllByRecursion, AllZip, flat_map}
use Rattle.std.proofs.lemmas.Grind.{flat_map-append}
use Rattle.std.proofs.lemmas.List.{append-nil}
use Rattle.raft_opening.specs.OpenedLogs.{OpenedLogState}
use Rattle.raft_opening.proofs.OpenedLogsLemmas.{all_append}
use Rattle.raft_builder.proofs.PartLemmas.{all_from_recursion, all_in_parts, zip_back, zip_front, zip_within}

-- one more part
pub parts_more : {J L : Type 0} (f : J → List L) (jobs jobs' : List J) (job : J) (part rest all : List L) → jobs' ≡ jobs ++ job ∷ [] → f job ++ rest ≡ part → flat_map f jobs ++ part ≡ all → flat_map f jobs' ++ rest ≡ all
parts_more f jobs jobs' job part rest all is cut before =
    ap (λ js. flat_map f js ++ rest) is ∙ ap (λ ls. ls ++ rest) (flat_map-append f jobs (job ∷ []) ∙ ap (λ ls. flat_map f jobs ++ ls) (append-nil (f job)))
    ∙ append_assoc (flat_map f jobs) (f job) rest ∙ ap (λ ls. flat_map f jobs ++ ls) cut ∙ before

-- what holds of each file holds of those of each part
pub each_in_parts : {J : Type 0} (logs_of : J → List OpenedLogState) (P : OpenedLogState → Type 0) (jobs others all : List J) (appended rewritten : List OpenedLogState) → all ≡ jobs ++ others → flat_map logs_of jobs ≡ appended → flat_map logs_of others ≡ rewritten
    → AllByRecursion P appended → AllByRecursion P rewritten → All (λ job. AllByRecursion P (logs_of job)) all
each_in_parts logs_of P jobs others all appended rewritten is first second in_first in_second =
    subst (All (λ job. AllByRecursion P (logs_of job))) (sym is)
    (all_from_recursion (λ job. AllByRecursion P (logs_of job)) (jobs ++ others)
    (all_append (λ job. AllByRecursion P (logs_of job)) jobs others (all_in_parts logs_of P jobs (subst (AllByRecursion P) (sym first) in_first)) (all_in_parts logs_of P others (subst (AllByRecursion P) (sym second) in_second))))

-- what was read of the first queue's parts and of the second queue's
module _ {J X : Type 0} (R : J → X → Type 0) (jobs others all : List J) (read : List X) (is : all ≡ jobs ++ others) (zip : AllZip R all read) where
  whole : AllZip R (jobs ++ others) read
  whole = subst (λ js. AllZip R js read) is zip

  pub front_within : length jobs ≤ length read
  front_within = zip_within R jobs others read whole

  pub front_zip : (k : ℕ) (front : List X) → k ≡ length jobs → front ≡ take k read → AllZip R jobs front
  front_zip k front len cut = subst (AllZip R jobs) (sym (cut ∙ ap (λ i. take i read) len)) (zip_front R jobs others read whole)

  pub back_zip : (k : ℕ) (back : List X) → k ≡ length jobs → back ≡ drop k read → AllZip R others back
  back_zip k back len cut = subst (AllZip R others) (sym (cut ∙ ap (λ i. drop i read) len)) (zip_back R jobs others read whole)
