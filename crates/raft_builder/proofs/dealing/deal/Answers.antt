use Rattle.std.proofs.Common.{◌≡◌, ◌∙◌, ◌==◌, ◌++◌, true, [], ap, length, rules, subst, sym, take}
use Rattle.std.specs.List.{AllByRecursion, flat_map}
use Rattle.std.proofs.lemmas.Bool.{eqb-true}
use Rattle.std.proofs.lemmas.List.{append-nil, nil_from_length, take-append-drop}
use Rattle.raft_pipes.proofs.QueueFilesLemmas.{all_push}
use Rattle.raft_builder.proofs.DealLemmas.{parts_more}
use Rattle.raft_builder.proofs.dealing.deal.Goals as goal

pub loop-part-preserved : goal.loop-part-preserved
loop-part-preserved g c =
    let jobs = c.loop-part.jobs.items in
    let part = c.loop-part.part.items in
    let k = c.min.result in
    let cut = c.in_ok-rest.ensures in
    let before = c.loop-part.invariant in record {
      parts = parts_more (λ job. job.logs.items) jobs c.push.new.self.items _ part c.in_ok-rest.rest.items c.args.logs.items c.in_ok-push.ensures.items
          (ap (λ logs. logs ++ c.in_ok-rest.rest.items) cut.items ∙ ap (λ logs. take k part ++ logs) cut.tail ∙ take-append-drop k part) before.parts;
      machines = subst (AllByRecursion (λ job. g.FA.Factory.is_new job.machine)) (sym c.in_ok-push.ensures.items) (all_push (λ job. g.FA.Factory.is_new job.machine) jobs _ before.machines c.in_ok-machine.ensures.ok);
    }

pub returns-clause-parts : goal.returns-clause-parts
returns-clause-parts g c =
    let part = c.loop-part.part.items in
    let empty : (length part == 0) ≡ true = search rules in
    let none : part ≡ [] = nil_from_length part (eqb-true (length part) 0 empty) in
    sym (append-nil (flat_map (λ job. job.logs.items) c.loop-part.jobs.items)) ∙ ap (λ logs. flat_map (λ job. job.logs.items) c.loop-part.jobs.items ++ logs) (sym none) ∙ c.loop-part.invariant.parts
