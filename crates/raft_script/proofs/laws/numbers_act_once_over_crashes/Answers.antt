use Rattle.raft_script.proofs.ActLemmas.{all-append, all-take, flight_acts, written-take}
use Rattle.raft_script.proofs.laws.numbers_act_once_over_crashes.Goals as goal

pub returns : goal.returns
returns c = record {
  flight = flight_acts;
  left = λ m acts count may. (all-take m acts count may, written-take count acts);
  joined = all-append;
}
