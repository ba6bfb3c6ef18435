use Rattle.gr_pubend.specs.Log.{said}
use Rattle.gr_pubend.proofs.News.{known_gives}
use Rattle.gr_pubend.proofs.pubend.Pubend.know.Goals as goal

pub returns-clause-each : goal.returns-clause-each
returns-clause-each c =
    rw (← c.self.view_is) (known_gives (said c.self.inside.log) c.self.inside.know.runs c.self.invariant c.len.ensures.canonical c.len.ensures.in_range)
