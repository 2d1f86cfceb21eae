use Rattle.raft_settings.proofs.DefaultLemmas.{refused_alone}
use Rattle.raft_settings.proofs.reading.read.Goals as goal

pub returns-clause-cause : goal.returns-clause-cause
returns-clause-cause c = refused_alone c.with_text.result c.args.text.now c.fresh.result c.fresh.ensures.value c.with_text.ensures.cause
