use Rattle.std.proofs.Common.{sym}
use Rattle.std.proofs.lemmas.List.{append-nil}
use Rattle.raft_allowed.proofs.walk.push_if_fits.Goals as goal

pub returns-then-not-fits : goal.returns-then-not-fits
returns-then-not-fits c = rw c.if-not-fits.true (sym (append-nil c.args.taken.now.items))

pub returns : goal.returns
returns c = rw c.if-not-fits.false c.in_ok-push.ensures.items
