use Rattle.gr_broker_relay.specs.Held.{held_view}
use Rattle.gr_broker.specs.Starting.{fresh_view}
use Rattle.std.proofs.Common.{◌∙◌, ap₂}
use Rattle.gr_broker.proofs.Fresh.{started_elsewhere, lines_elsewhere}
use Rattle.gr_broker.proofs.starting.held_below.Goals as goal

pub returns-clause-started : goal.returns-clause-started
returns-clause-started c =
    let s = c.args.site.now in
    started_elsewhere s.topo.now s.publisher s.broker c.in_ok-held.held.log (held_view c.in_ok-held.held) c.requires.below c.in_ok-held.ensures.log
    (c.in_ok-held.ensures.view ∙ ap₂ (fresh_view s.topo.now s.publisher s.broker) c.new.ensures.runs c.new-2.ensures)

pub returns-clause-lines : goal.returns-clause-lines
returns-clause-lines c = let s = c.args.site.now in lines_elsewhere s.topo.now s.publisher s.broker c.in_ok-held.held.log c.requires.below
