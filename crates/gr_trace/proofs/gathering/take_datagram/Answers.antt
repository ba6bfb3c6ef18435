use Rattle.gr_node.specs.Seen.{seen}
use Rattle.gr_trace.proofs.InMemory.{gathers_of, ok_end, cause_end, moves_end}
use Rattle.gr_trace.proofs.gathering.take_datagram.Goals as goal

-- What the call told and offered in memory was gathered.

pub returns-clause-went : goal.returns-clause-went
returns-clause-went g c = λ x left.
    gathers_of c.args.site.now.topo.now c.args.site.now.hosted.now _ _ (seen c.datagram_comes-done.new.node) c.args.gathered.now c.datagram_comes-done.new.sink.held c.datagram_comes-done.new.page.held c.datagram_comes-done.new.post c.finish.new.lines.held c.finish.new.page.held
    c.datagram_comes-done.result c.finish.result c.requires.empty (c.datagram_comes-done.ensures.went left) c.datagram_comes-done.ensures.cause c.finish.ensures x

pub returns-clause-serving : goal.returns-clause-serving
returns-clause-serving g c = ok_end c.datagram_comes-done.result c.finish.result _ _ _ _ _ c.finish.ensures c.datagram_comes-done.ensures.serving

pub returns-clause-keeps : goal.returns-clause-keeps
returns-clause-keeps g c = record {
  others = c.datagram_comes-done.ensures.keeps.others;
  disk_moves = moves_end _ _ _ _ c.datagram_comes-done.result c.finish.result _ _ _ _ c.finish.ensures c.datagram_comes-done.ensures.keeps.disk_moves;
}

pub returns-clause-cause : goal.returns-clause-cause
returns-clause-cause g c = cause_end c.datagram_comes-done.result c.finish.result _ _ _ _ c.finish.ensures c.datagram_comes-done.ensures.cause
