use Rattle.std.proofs.Common.{length, arith}
use Rattle.raft_files.proofs.ScanExtentLemmas.{record_header_is}
use Rattle.raft_dump.proofs.FrontLemmas.{tells_none, tells_one}
use Rattle.raft_dump.proofs.part_wanted.wanted_behind.Goals as goal

pub returns-in-Ok : goal.returns-in-Ok
returns-in-Ok c = record {
  value = λ bytes size is.
      let has = record_header_is c.args.rest.now _ c.in-Ok.ensures.ok in
      tells_one bytes c.args.rest.now is _ (omega (arith, has.long)) c.in-Ok.ensures.ok (λ within. absurd (omega (arith, within, size, c.if-header-left.true)));
}

pub returns-in-Ok-2 : goal.returns-in-Ok-2
returns-in-Ok-2 c = record {
  value = λ bytes size is.
      let has = record_header_is c.args.rest.now _ c.in-Ok.ensures.ok in
      tells_one bytes c.args.rest.now is _ (omega (arith, has.long)) c.in-Ok.ensures.ok (λ _. omega (arith, c.if-header-rest.true));
}

pub returns-in-Err : goal.returns-in-Err
returns-in-Err c = record {
  value = λ bytes size is. tells_none bytes c.args.rest.now is (omega (arith, c.if-rest-ge-RECORD_HEADER_LEN.true)) c.in-Err.ensures.cause.1;
}
