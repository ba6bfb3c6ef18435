-- The call is one of the host while a stop is ordered: it is taken up by the world, or the stop broke it
use Rattle.std.proofs.Common.{◌≡◌, ◌<◌, List, length, Result, sym, ap, ◌∙◌, subst}
use Rattle.std.specs.Prelude.{◌↔◌, IsErrOf}
use Rattle.gr_out.specs.declared.disk.Stop.TheVariants.{Unset}
use Rattle.gr_out.specs.Lane.{stop_at}
use Rattle.gr_publog.specs.Views.{lanes_at}
use Rattle.gr_topo.specs.Topology.{host_of}
use Rattle.gr_model.specs.declared.report.Report.{Report}
use Rattle.gr_broker.specs.Lanes.{log_lane}
use Rattle.gr_broker.specs.Told.{log_answer}
use Rattle.gr_world.specs.contracts.world.World.{the_view}
use Rattle.gr_world.specs.declared.fault.WorldFault.{WorldFault}
use Rattle.gr_world.specs.declared.fault.WorldFault.TheVariants as fault
use Rattle.gr_world.specs.Seen.{WorldView}
use Rattle.gr_world.specs.Disk.{IsBarred}
use Rattle.gr_world.specs.Ran.{Ran}
use Rattle.gr_world.specs.Stopped.{lines_in, broken_in}
use Rattle.gr_world.specs.Taking.{put_in}
use Rattle.gr_world.proofs.ByCalls.{same_both, same_stops, SameBoth}
use Rattle.gr_world.proofs.BrokenAppend.{broken_by, took_none, stand_with, stopped_ran, stopped_reopens, stopped_at, not_through, reserved_left, stopped_calls, ended_fit}
use Rattle.gr_world.proofs.Called.{Site, read_stands}
use Rattle.gr_world.proofs.Published.{Publishes, PublishesOn, ran_publish, reopens_publish, unchanged_publish, failed_publish}
use Rattle.gr_world.proofs.StoppedWorlds.{IsHere, is_here}
use Rattle.gr_world.proofs.world.World.publish_to_stop.Goals.{in-Ok, in-Err}
use Rattle.gr_world.proofs.world.World.publish_to_stop.Goals as goal

pub stop_both-requires-clause-reserved : goal.stop_both-requires-clause-reserved
stop_both-requires-clause-reserved g c =
    let h : IsHere c.args.self.now (g.D.Disk.lane_of c.args.disk.now) c.args.p =
    is_here c.args.self.now (g.D.Disk.lane_of c.args.disk.now) c.args.p c.requires.fits c.requires.«open» c.requires.lanes c.requires.publisher
    (subst (λ k. k < length c.args.self.now.topo.brokers) c.requires.host c.requires.broker) in
    h.lane.reserved

pub publish-answer-requires-clause-stands : goal.publish-answer-requires-clause-stands
publish-answer-requires-clause-stands g c = λ t.
    stand_with c.index_mut-broker.result.now c.args.p (stop_at c.args.stop.now.call c.args.stop.now.pick) (g.D.Disk.lane_of c.args.disk.now) (g.D.Disk.lane_of c.stop_both.new.disk) c.stop_both.ensures.both c.stop_both.ensures.others
    (read_stands (the_view c.self.inside) c.args.self.now c.args.host c.index_mut-broker.result.now (g.D.Disk.lane_of c.args.disk.now) c.self.view_is c.requires.fits c.requires.«open» c.requires.lanes
    (subst (λ (u : WorldView). c.args.host < length u.topo.brokers) (sym c.self.view_is) c.requires.broker) c.index_mut-broker.ensures.value)

pub returns-then-is_broken_by-clause-ran : goal.returns-then-is_broken_by-clause-ran
returns-then-is_broken_by-clause-ran g c =
    let s : Site (the_view c.self.inside) c.args.self.now c.args.host c.args.p c.index_mut-broker.result.now = record {
      same = c.self.view_is;
      fits = c.requires.fits;
      is_open = c.requires.«open»;
      publisher = c.requires.publisher;
      broker = subst (λ (u : WorldView). c.args.host < length u.topo.brokers) (sym c.self.view_is) c.requires.broker;
      read = c.index_mut-broker.ensures.value;
    } in
    let host : host_of c.self.inside.topology c.args.p ≡ c.args.host = sym (c.requires.host ∙ ap (λ (u : WorldView). host_of u.topo c.args.p) (sym c.self.view_is)) in
    let e = c.publish-answer.ensures in
    let k : Publishes c.self.inside.topology c.index_mut-broker.result.now c.args.p c.self.inside.clock c.args.number c.args.event.now c.publish-answer.new.self c.publish-answer.result =
    record { told = e.told; leaves = e.leaves; log = e.log; fits = e.fits; reopen = e.reopen } in
    stopped_ran (the_view c.self.inside) c.args.self.now c.args.host c.args.p c.args.number c.args.event.now c.index_mut-broker.result.now c.publish-answer.new.self c.publish-answer.result s host c.every_topology_is_a_tree.ensures.tree k
    (broken_by c.publish-answer.result c.is_stopped.result (sym c.is_broken_by.ensures ∙ c.if-is_broken_by.true)).0

pub returns-then-is_broken_by-clause-stopped : goal.returns-then-is_broken_by-clause-stopped
returns-then-is_broken_by-clause-stopped g c = λ is tick some.
    let s : Site (the_view c.self.inside) c.args.self.now c.args.host c.args.p c.index_mut-broker.result.now = record {
      same = c.self.view_is;
      fits = c.requires.fits;
      is_open = c.requires.«open»;
      publisher = c.requires.publisher;
      broker = subst (λ (u : WorldView). c.args.host < length u.topo.brokers) (sym c.self.view_is) c.requires.broker;
      read = c.index_mut-broker.ensures.value;
    } in
    let host : host_of c.self.inside.topology c.args.p ≡ c.args.host = sym (c.requires.host ∙ ap (λ (u : WorldView). host_of u.topo c.args.p) (sym c.self.view_is)) in
    let e = c.publish-answer.ensures in
    let k : Publishes c.self.inside.topology c.index_mut-broker.result.now c.args.p c.self.inside.clock c.args.number c.args.event.now c.publish-answer.new.self c.publish-answer.result =
    record { told = e.told; leaves = e.leaves; log = e.log; fits = e.fits; reopen = e.reopen } in
    let on : PublishesOn c.index_mut-broker.result.now c.args.p c.self.inside.clock c.args.number c.args.event.now c.publish-answer.new.self (g.D.Disk.lane_of c.stop_both.new.disk) (g.D.Disk.lane_of c.publish-answer.new.disk) c.publish-answer.result =
    record {
      lane = e.lane g.met.D.SimDisk.told;
      idle = λ h n. ap (λ d. g.D.Disk.lane_of d n) (e.uses.disk.idle (ap log_answer h));
      untouched = λ h n. ap (λ d. g.D.Disk.lane_of d n) (e.untouched h);
      others = e.uses.disk.others g.met.D.SimDisk.told;
      stands = e.stands g.met.D.SimDisk.told;
    } in
    stopped_at (the_view c.self.inside) c.args.self.now c.args.host c.args.p c.args.number c.args.event.now c.index_mut-broker.result.now c.publish-answer.new.self c.publish-answer.result s host c.every_topology_is_a_tree.ensures.tree k (g.D.Disk.lane_of c.args.disk.now) (g.D.Disk.lane_of c.stop_both.new.disk) (g.D.Disk.lane_of c.publish-answer.new.disk) c.args.stop.now.call c.args.stop.now.pick tick c.stop_both.ensures.both c.requires.first
    (let f = c.requires.lanes in f.readable c.requires.«open».unspent c.args.p c.requires.publisher)
    (broken_by c.publish-answer.result c.is_stopped.result (sym c.is_broken_by.ensures ∙ c.if-is_broken_by.true)).0
    (sym c.is_stopped.ensures ∙ (broken_by c.publish-answer.result c.is_stopped.result (sym c.is_broken_by.ensures ∙ c.if-is_broken_by.true)).1) some on

pub stop_both-requires-2-clause-reserved : goal.stop_both-requires-2-clause-reserved
stop_both-requires-2-clause-reserved g c =
    let h : IsHere c.args.self.now (g.D.Disk.lane_of c.args.disk.now) c.args.p =
    is_here c.args.self.now (g.D.Disk.lane_of c.args.disk.now) c.args.p c.requires.fits c.requires.«open» c.requires.lanes c.requires.publisher
    (subst (λ k. k < length c.args.self.now.topo.brokers) c.requires.host c.requires.broker) in
    let s : Site (the_view c.self.inside) c.args.self.now c.args.host c.args.p c.index_mut-broker.result.now = record {
      same = c.self.view_is;
      fits = c.requires.fits;
      is_open = c.requires.«open»;
      publisher = c.requires.publisher;
      broker = subst (λ (u : WorldView). c.args.host < length u.topo.brokers) (sym c.self.view_is) c.requires.broker;
      read = c.index_mut-broker.ensures.value;
    } in
    let host : host_of c.self.inside.topology c.args.p ≡ c.args.host = sym (c.requires.host ∙ ap (λ (u : WorldView). host_of u.topo c.args.p) (sym c.self.view_is)) in
    let e = c.publish-answer.ensures in
    let k : Publishes c.self.inside.topology c.index_mut-broker.result.now c.args.p c.self.inside.clock c.args.number c.args.event.now c.publish-answer.new.self c.publish-answer.result =
    record { told = e.told; leaves = e.leaves; log = e.log; fits = e.fits; reopen = e.reopen } in
    let on : PublishesOn c.index_mut-broker.result.now c.args.p c.self.inside.clock c.args.number c.args.event.now c.publish-answer.new.self (g.D.Disk.lane_of c.stop_both.new.disk) (g.D.Disk.lane_of c.publish-answer.new.disk) c.publish-answer.result =
    record {
      lane = e.lane g.met.D.SimDisk.told;
      idle = λ h n. ap (λ d. g.D.Disk.lane_of d n) (e.uses.disk.idle (ap log_answer h));
      untouched = λ h n. ap (λ d. g.D.Disk.lane_of d n) (e.untouched h);
      others = e.uses.disk.others g.met.D.SimDisk.told;
      stands = e.stands g.met.D.SimDisk.told;
    } in
    reserved_left (the_view c.self.inside) c.args.self.now c.args.host c.args.p c.args.number c.args.event.now c.index_mut-broker.result.now c.publish-answer.new.self c.publish-answer.result s host c.every_topology_is_a_tree.ensures.tree k (g.D.Disk.lane_of c.args.disk.now) (g.D.Disk.lane_of c.stop_both.new.disk) (g.D.Disk.lane_of c.publish-answer.new.disk) (stop_at c.args.stop.now.call c.args.stop.now.pick) c.stop_both.ensures.both h.lane.reserved on

pub returns-clause-ran : goal.returns-clause-ran
returns-clause-ran g c =
    let s : Site (the_view c.self.inside) c.args.self.now c.args.host c.args.p c.index_mut-broker.result.now = record {
      same = c.self.view_is;
      fits = c.requires.fits;
      is_open = c.requires.«open»;
      publisher = c.requires.publisher;
      broker = subst (λ (u : WorldView). c.args.host < length u.topo.brokers) (sym c.self.view_is) c.requires.broker;
      read = c.index_mut-broker.ensures.value;
    } in
    let host : host_of c.self.inside.topology c.args.p ≡ c.args.host = sym (c.requires.host ∙ ap (λ (u : WorldView). host_of u.topo c.args.p) (sym c.self.view_is)) in
    let e = c.publish-answer.ensures in
    let k : Publishes c.self.inside.topology c.index_mut-broker.result.now c.args.p c.self.inside.clock c.args.number c.args.event.now c.publish-answer.new.self c.publish-answer.result =
    record { told = e.told; leaves = e.leaves; log = e.log; fits = e.fits; reopen = e.reopen } in
    let lines_is : lines_in c.match-take_answer.result ≡ c.take_answer.result = elim c.match-take_answer.branch [
      | in-Ok w ↦ ap lines_in w.result-is ∙ sym w.in-Ok.is
      | in-Err w ↦ ap lines_in w.result-is ∙ sym w.in-Err.is
    ] in
    subst (λ (r : Result (List Report) WorldFault). Ran c.args.self.now (put_in (the_view c.self.inside) c.args.host c.publish-answer.new.self c.take_answer.new.frames) r) (sym lines_is)
    (ran_publish (the_view c.self.inside) c.args.self.now c.args.host c.args.p c.args.number c.args.event.now c.index_mut-broker.result.now c.publish-answer.new.self c.take_answer.new.frames c.publish-answer.result c.take_answer.result s host c.every_topology_is_a_tree.ensures.tree k c.take_answer.ensures.follows c.take_answer.ensures.takes)

pub returns-clause-never_through : goal.returns-clause-never_through
returns-clause-never_through g c = λ lines is.
    let h : IsHere c.args.self.now (g.D.Disk.lane_of c.args.disk.now) c.args.p =
    is_here c.args.self.now (g.D.Disk.lane_of c.args.disk.now) c.args.p c.requires.fits c.requires.«open» c.requires.lanes c.requires.publisher
    (subst (λ k. k < length c.args.self.now.topo.brokers) c.requires.host c.requires.broker) in
    let s : Site (the_view c.self.inside) c.args.self.now c.args.host c.args.p c.index_mut-broker.result.now = record {
      same = c.self.view_is;
      fits = c.requires.fits;
      is_open = c.requires.«open»;
      publisher = c.requires.publisher;
      broker = subst (λ (u : WorldView). c.args.host < length u.topo.brokers) (sym c.self.view_is) c.requires.broker;
      read = c.index_mut-broker.ensures.value;
    } in
    let host : host_of c.self.inside.topology c.args.p ≡ c.args.host = sym (c.requires.host ∙ ap (λ (u : WorldView). host_of u.topo c.args.p) (sym c.self.view_is)) in
    let e = c.publish-answer.ensures in
    let k : Publishes c.self.inside.topology c.index_mut-broker.result.now c.args.p c.self.inside.clock c.args.number c.args.event.now c.publish-answer.new.self c.publish-answer.result =
    record { told = e.told; leaves = e.leaves; log = e.log; fits = e.fits; reopen = e.reopen } in
    let on : PublishesOn c.index_mut-broker.result.now c.args.p c.self.inside.clock c.args.number c.args.event.now c.publish-answer.new.self (g.D.Disk.lane_of c.stop_both.new.disk) (g.D.Disk.lane_of c.publish-answer.new.disk) c.publish-answer.result =
    record {
      lane = e.lane g.met.D.SimDisk.told;
      idle = λ h n. ap (λ d. g.D.Disk.lane_of d n) (e.uses.disk.idle (ap log_answer h));
      untouched = λ h n. ap (λ d. g.D.Disk.lane_of d n) (e.untouched h);
      others = e.uses.disk.others g.met.D.SimDisk.told;
      stands = e.stands g.met.D.SimDisk.told;
    } in
    let lines_is : lines_in c.match-take_answer.result ≡ c.take_answer.result = elim c.match-take_answer.branch [
      | in-Ok w ↦ ap lines_in w.result-is ∙ sym w.in-Ok.is
      | in-Err w ↦ ap lines_in w.result-is ∙ sym w.in-Err.is
    ] in
    took_none c.publish-answer.result c.take_answer.result lines c.take_answer.ensures.follows (sym lines_is ∙ ap lines_in is)
    (not_through (the_view c.self.inside) c.args.self.now c.args.host c.args.p c.args.number c.args.event.now c.index_mut-broker.result.now c.publish-answer.new.self c.publish-answer.result s host c.every_topology_is_a_tree.ensures.tree k (g.D.Disk.lane_of c.args.disk.now) (g.D.Disk.lane_of c.stop_both.new.disk) (g.D.Disk.lane_of c.publish-answer.new.disk) c.args.stop.now.call c.args.stop.now.pick h.log h.there c.stop_both.ensures.both c.requires.first c.requires.last c.requires.next on)

pub returns-clause-lanes : goal.returns-clause-lanes
returns-clause-lanes g c = λ ne.
    let s : Site (the_view c.self.inside) c.args.self.now c.args.host c.args.p c.index_mut-broker.result.now = record {
      same = c.self.view_is;
      fits = c.requires.fits;
      is_open = c.requires.«open»;
      publisher = c.requires.publisher;
      broker = subst (λ (u : WorldView). c.args.host < length u.topo.brokers) (sym c.self.view_is) c.requires.broker;
      read = c.index_mut-broker.ensures.value;
    } in
    let host : host_of c.self.inside.topology c.args.p ≡ c.args.host = sym (c.requires.host ∙ ap (λ (u : WorldView). host_of u.topo c.args.p) (sym c.self.view_is)) in
    let e = c.publish-answer.ensures in
    let k : Publishes c.self.inside.topology c.index_mut-broker.result.now c.args.p c.self.inside.clock c.args.number c.args.event.now c.publish-answer.new.self c.publish-answer.result =
    record { told = e.told; leaves = e.leaves; log = e.log; fits = e.fits; reopen = e.reopen } in
    let on : PublishesOn c.index_mut-broker.result.now c.args.p c.self.inside.clock c.args.number c.args.event.now c.publish-answer.new.self (g.D.Disk.lane_of c.stop_both.new.disk) (g.D.Disk.lane_of c.publish-answer.new.disk) c.publish-answer.result =
    record {
      lane = e.lane g.met.D.SimDisk.told;
      idle = λ h n. ap (λ d. g.D.Disk.lane_of d n) (e.uses.disk.idle (ap log_answer h));
      untouched = λ h n. ap (λ d. g.D.Disk.lane_of d n) (e.untouched h);
      others = e.uses.disk.others g.met.D.SimDisk.told;
      stands = e.stands g.met.D.SimDisk.told;
    } in
    ended_fit (the_view c.self.inside) c.args.self.now c.args.host c.args.p c.args.number c.args.event.now c.index_mut-broker.result.now c.publish-answer.new.self c.publish-answer.result s host c.every_topology_is_a_tree.ensures.tree k c.take_answer.new.frames c.take_answer.result (g.D.Disk.lane_of c.args.disk.now) (g.D.Disk.lane_of c.stop_both.new.disk) (g.D.Disk.lane_of c.publish-answer.new.disk) (g.D.Disk.lane_of c.stop_both-2.new.disk) (stop_at c.args.stop.now.call c.args.stop.now.pick)
    c.take_answer.ensures.follows c.take_answer.ensures.takes c.requires.lanes c.stop_both.ensures.both c.stop_both-2.ensures.both c.stop_both-2.ensures.others
    (λ m away. c.stop_both-2.ensures.others m away ∙ (e.uses.disk.others g.met.D.SimDisk.told m away ∙ c.stop_both.ensures.others m away)) on

pub returns-then-is_broken_by-clause-reopen : goal.returns-then-is_broken_by-clause-reopen
returns-then-is_broken_by-clause-reopen g c =
    let s : Site (the_view c.self.inside) c.args.self.now c.args.host c.args.p c.index_mut-broker.result.now = record {
      same = c.self.view_is;
      fits = c.requires.fits;
      is_open = c.requires.«open»;
      publisher = c.requires.publisher;
      broker = subst (λ (u : WorldView). c.args.host < length u.topo.brokers) (sym c.self.view_is) c.requires.broker;
      read = c.index_mut-broker.ensures.value;
    } in
    let host : host_of c.self.inside.topology c.args.p ≡ c.args.host = sym (c.requires.host ∙ ap (λ (u : WorldView). host_of u.topo c.args.p) (sym c.self.view_is)) in
    let e = c.publish-answer.ensures in
    let k : Publishes c.self.inside.topology c.index_mut-broker.result.now c.args.p c.self.inside.clock c.args.number c.args.event.now c.publish-answer.new.self c.publish-answer.result =
    record { told = e.told; leaves = e.leaves; log = e.log; fits = e.fits; reopen = e.reopen } in
    stopped_reopens (the_view c.self.inside) c.args.self.now c.args.host c.args.p c.args.number c.args.event.now c.index_mut-broker.result.now c.publish-answer.new.self c.publish-answer.result s host c.every_topology_is_a_tree.ensures.tree k
    (broken_by c.publish-answer.result c.is_stopped.result (sym c.is_broken_by.ensures ∙ c.if-is_broken_by.true)).0

pub returns-clause-reopen : goal.returns-clause-reopen
returns-clause-reopen g c =
    let s : Site (the_view c.self.inside) c.args.self.now c.args.host c.args.p c.index_mut-broker.result.now = record {
      same = c.self.view_is;
      fits = c.requires.fits;
      is_open = c.requires.«open»;
      publisher = c.requires.publisher;
      broker = subst (λ (u : WorldView). c.args.host < length u.topo.brokers) (sym c.self.view_is) c.requires.broker;
      read = c.index_mut-broker.ensures.value;
    } in
    let host : host_of c.self.inside.topology c.args.p ≡ c.args.host = sym (c.requires.host ∙ ap (λ (u : WorldView). host_of u.topo c.args.p) (sym c.self.view_is)) in
    let e = c.publish-answer.ensures in
    let k : Publishes c.self.inside.topology c.index_mut-broker.result.now c.args.p c.self.inside.clock c.args.number c.args.event.now c.publish-answer.new.self c.publish-answer.result =
    record { told = e.told; leaves = e.leaves; log = e.log; fits = e.fits; reopen = e.reopen } in
    let lines_is : lines_in c.match-take_answer.result ≡ c.take_answer.result = elim c.match-take_answer.branch [
      | in-Ok w ↦ ap lines_in w.result-is ∙ sym w.in-Ok.is
      | in-Err w ↦ ap lines_in w.result-is ∙ sym w.in-Err.is
    ] in
    subst (λ (r : Result (List Report) WorldFault). IsErrOf r fault.Reopen ↔ IsBarred c.args.self.now c.args.p c.args.number c.args.event.now) (sym lines_is)
    (reopens_publish (the_view c.self.inside) c.args.self.now c.args.host c.args.p c.args.number c.args.event.now c.index_mut-broker.result.now c.publish-answer.new.self c.take_answer.new.frames c.publish-answer.result c.take_answer.result s host c.every_topology_is_a_tree.ensures.tree k c.take_answer.ensures.follows c.take_answer.ensures.takes)

pub returns-clause-unchanged : goal.returns-clause-unchanged
returns-clause-unchanged g c =
    let s : Site (the_view c.self.inside) c.args.self.now c.args.host c.args.p c.index_mut-broker.result.now = record {
      same = c.self.view_is;
      fits = c.requires.fits;
      is_open = c.requires.«open»;
      publisher = c.requires.publisher;
      broker = subst (λ (u : WorldView). c.args.host < length u.topo.brokers) (sym c.self.view_is) c.requires.broker;
      read = c.index_mut-broker.ensures.value;
    } in
    let host : host_of c.self.inside.topology c.args.p ≡ c.args.host = sym (c.requires.host ∙ ap (λ (u : WorldView). host_of u.topo c.args.p) (sym c.self.view_is)) in
    let e = c.publish-answer.ensures in
    let k : Publishes c.self.inside.topology c.index_mut-broker.result.now c.args.p c.self.inside.clock c.args.number c.args.event.now c.publish-answer.new.self c.publish-answer.result =
    record { told = e.told; leaves = e.leaves; log = e.log; fits = e.fits; reopen = e.reopen } in
    let lines_is : lines_in c.match-take_answer.result ≡ c.take_answer.result = elim c.match-take_answer.branch [
      | in-Ok w ↦ ap lines_in w.result-is ∙ sym w.in-Ok.is
      | in-Err w ↦ ap lines_in w.result-is ∙ sym w.in-Err.is
    ] in
    subst (λ (r : Result (List Report) WorldFault). IsErrOf r fault.Reopen → (put_in (the_view c.self.inside) c.args.host c.publish-answer.new.self c.take_answer.new.frames) ≡ c.args.self.now) (sym lines_is)
    (unchanged_publish (the_view c.self.inside) c.args.self.now c.args.host c.args.p c.args.number c.args.event.now c.index_mut-broker.result.now c.publish-answer.new.self c.take_answer.new.frames c.publish-answer.result c.take_answer.result s host c.every_topology_is_a_tree.ensures.tree k c.take_answer.ensures.follows c.take_answer.ensures.takes)

pub returns-clause-failed : goal.returns-clause-failed
returns-clause-failed g c =
    let s : Site (the_view c.self.inside) c.args.self.now c.args.host c.args.p c.index_mut-broker.result.now = record {
      same = c.self.view_is;
      fits = c.requires.fits;
      is_open = c.requires.«open»;
      publisher = c.requires.publisher;
      broker = subst (λ (u : WorldView). c.args.host < length u.topo.brokers) (sym c.self.view_is) c.requires.broker;
      read = c.index_mut-broker.ensures.value;
    } in
    let host : host_of c.self.inside.topology c.args.p ≡ c.args.host = sym (c.requires.host ∙ ap (λ (u : WorldView). host_of u.topo c.args.p) (sym c.self.view_is)) in
    let e = c.publish-answer.ensures in
    let k : Publishes c.self.inside.topology c.index_mut-broker.result.now c.args.p c.self.inside.clock c.args.number c.args.event.now c.publish-answer.new.self c.publish-answer.result =
    record { told = e.told; leaves = e.leaves; log = e.log; fits = e.fits; reopen = e.reopen } in
    let lines_is : lines_in c.match-take_answer.result ≡ c.take_answer.result = elim c.match-take_answer.branch [
      | in-Ok w ↦ ap lines_in w.result-is ∙ sym w.in-Ok.is
      | in-Err w ↦ ap lines_in w.result-is ∙ sym w.in-Err.is
    ] in
    subst (λ (r : Result (List Report) WorldFault). IsErrOf r fault.Disk → (put_in (the_view c.self.inside) c.args.host c.publish-answer.new.self c.take_answer.new.frames) ≡ broken_in c.args.self.now c.args.host c.args.p) (sym lines_is)
    (λ h. failed_publish (the_view c.self.inside) c.args.self.now c.args.host c.args.p c.args.number c.args.event.now c.index_mut-broker.result.now c.publish-answer.new.self c.take_answer.new.frames c.publish-answer.result c.take_answer.result s host c.every_topology_is_a_tree.ensures.tree k c.take_answer.ensures.follows c.take_answer.ensures.takes h ∙ ap (λ b. broken_in c.args.self.now b c.args.p) (sym c.requires.host))

-- the lanes hold at every moment what they held, or that with the record

pub returns-then-is_broken_by-clause-calls : goal.returns-then-is_broken_by-clause-calls
returns-then-is_broken_by-clause-calls g c =
    let h : IsHere c.args.self.now (g.D.Disk.lane_of c.args.disk.now) c.args.p =
    is_here c.args.self.now (g.D.Disk.lane_of c.args.disk.now) c.args.p c.requires.fits c.requires.«open» c.requires.lanes c.requires.publisher
    (subst (λ k. k < length c.args.self.now.topo.brokers) c.requires.host c.requires.broker) in
    let s : Site (the_view c.self.inside) c.args.self.now c.args.host c.args.p c.index_mut-broker.result.now = record {
      same = c.self.view_is;
      fits = c.requires.fits;
      is_open = c.requires.«open»;
      publisher = c.requires.publisher;
      broker = subst (λ (u : WorldView). c.args.host < length u.topo.brokers) (sym c.self.view_is) c.requires.broker;
      read = c.index_mut-broker.ensures.value;
    } in
    let host : host_of c.self.inside.topology c.args.p ≡ c.args.host = sym (c.requires.host ∙ ap (λ (u : WorldView). host_of u.topo c.args.p) (sym c.self.view_is)) in
    let e = c.publish-answer.ensures in
    let k : Publishes c.self.inside.topology c.index_mut-broker.result.now c.args.p c.self.inside.clock c.args.number c.args.event.now c.publish-answer.new.self c.publish-answer.result =
    record { told = e.told; leaves = e.leaves; log = e.log; fits = e.fits; reopen = e.reopen } in
    let on : PublishesOn c.index_mut-broker.result.now c.args.p c.self.inside.clock c.args.number c.args.event.now c.publish-answer.new.self (g.D.Disk.lane_of c.stop_both.new.disk) (g.D.Disk.lane_of c.publish-answer.new.disk) c.publish-answer.result =
    record {
      lane = e.lane g.met.D.SimDisk.told;
      idle = λ h n. ap (λ d. g.D.Disk.lane_of d n) (e.uses.disk.idle (ap log_answer h));
      untouched = λ h n. ap (λ d. g.D.Disk.lane_of d n) (e.untouched h);
      others = e.uses.disk.others g.met.D.SimDisk.told;
      stands = e.stands g.met.D.SimDisk.told;
    } in
    stopped_calls (the_view c.self.inside) c.args.self.now c.args.host c.args.p c.args.number c.args.event.now c.index_mut-broker.result.now c.publish-answer.new.self c.publish-answer.result s host c.every_topology_is_a_tree.ensures.tree k c.stands_read.ensures
    (g.D.Disk.lane_of c.args.disk.now) (g.D.Disk.lane_of c.stop_both.new.disk) (g.D.Disk.lane_of c.publish-answer.new.disk) (g.D.Disk.lane_of c.publish-answer.new.disk) (stop_at c.args.stop.now.call c.args.stop.now.pick)
    h.log h.there h.lane c.stop_both.ensures.both on (e.uses.goes_on g.met.D.SimDisk.told) (same_both (lanes_at (g.D.Disk.lane_of c.publish-answer.new.disk) (log_lane c.args.p)))
    (λ m away. e.uses.disk.others g.met.D.SimDisk.told m away ∙ c.stop_both.ensures.others m away)

pub returns-clause-calls : goal.returns-clause-calls
returns-clause-calls g c =
    let h : IsHere c.args.self.now (g.D.Disk.lane_of c.args.disk.now) c.args.p =
    is_here c.args.self.now (g.D.Disk.lane_of c.args.disk.now) c.args.p c.requires.fits c.requires.«open» c.requires.lanes c.requires.publisher
    (subst (λ k. k < length c.args.self.now.topo.brokers) c.requires.host c.requires.broker) in
    let s : Site (the_view c.self.inside) c.args.self.now c.args.host c.args.p c.index_mut-broker.result.now = record {
      same = c.self.view_is;
      fits = c.requires.fits;
      is_open = c.requires.«open»;
      publisher = c.requires.publisher;
      broker = subst (λ (u : WorldView). c.args.host < length u.topo.brokers) (sym c.self.view_is) c.requires.broker;
      read = c.index_mut-broker.ensures.value;
    } in
    let host : host_of c.self.inside.topology c.args.p ≡ c.args.host = sym (c.requires.host ∙ ap (λ (u : WorldView). host_of u.topo c.args.p) (sym c.self.view_is)) in
    let e = c.publish-answer.ensures in
    let k : Publishes c.self.inside.topology c.index_mut-broker.result.now c.args.p c.self.inside.clock c.args.number c.args.event.now c.publish-answer.new.self c.publish-answer.result =
    record { told = e.told; leaves = e.leaves; log = e.log; fits = e.fits; reopen = e.reopen } in
    let on : PublishesOn c.index_mut-broker.result.now c.args.p c.self.inside.clock c.args.number c.args.event.now c.publish-answer.new.self (g.D.Disk.lane_of c.stop_both.new.disk) (g.D.Disk.lane_of c.publish-answer.new.disk) c.publish-answer.result =
    record {
      lane = e.lane g.met.D.SimDisk.told;
      idle = λ h n. ap (λ d. g.D.Disk.lane_of d n) (e.uses.disk.idle (ap log_answer h));
      untouched = λ h n. ap (λ d. g.D.Disk.lane_of d n) (e.untouched h);
      others = e.uses.disk.others g.met.D.SimDisk.told;
      stands = e.stands g.met.D.SimDisk.told;
    } in
    let left = lanes_at (g.D.Disk.lane_of c.publish-answer.new.disk) (log_lane c.args.p) in
    stopped_calls (the_view c.self.inside) c.args.self.now c.args.host c.args.p c.args.number c.args.event.now c.index_mut-broker.result.now c.publish-answer.new.self c.publish-answer.result s host c.every_topology_is_a_tree.ensures.tree k c.stands_read.ensures
    (g.D.Disk.lane_of c.args.disk.now) (g.D.Disk.lane_of c.stop_both.new.disk) (g.D.Disk.lane_of c.publish-answer.new.disk) (g.D.Disk.lane_of c.stop_both-2.new.disk) (stop_at c.args.stop.now.call c.args.stop.now.pick)
    h.log h.there h.lane c.stop_both.ensures.both on (e.uses.goes_on g.met.D.SimDisk.told) (subst (SameBoth left) (sym c.stop_both-2.ensures.both) (same_stops Unset left))
    (λ m away. c.stop_both-2.ensures.others m away ∙ (e.uses.disk.others g.met.D.SimDisk.told m away ∙ c.stop_both.ensures.others m away))
