use Rattle.std.proofs.Common.{inl, Ok, Err, sym, ◌∙◌}
use Rattle.std.proofs.lemmas.Bool.{false≢true}
use Rattle.std.proofs.lemmas.List.{length-map}
use Rattle.gr_world.specs.Seen.{frame_said, net_in}
use Rattle.gr_world.proofs.Joining.{ran_joined, lanes_kept, brokers_kept, disk_joined}
use Rattle.gr_world.proofs.ByCalls.{lanes_on}
use Rattle.gr_world.proofs.Composed.{disk_lines}
use Rattle.gr_world.proofs.Ending.{end_behind, ends_third, ends_wakes}
use Rattle.gr_world.proofs.Onward.{phases_do}
use Rattle.gr_world.proofs.world.World.phases.Goals as goal

pub returns-in-Err-joined-clause-lanes : goal.returns-in-Err-joined-clause-lanes
returns-in-Err-joined-clause-lanes g c =
    lanes_kept (g.D.Disk.lane_of c.wake_brokers.new.disk) c.wake_brokers.new.self c.hand_brokers-told.new.self c.hand_brokers-told.ensures.ran.keeps c.hand_brokers-told.ensures.delivers.logs c.in-Ok.ensures.lanes

pub wake_brokers-told-requires-clause-brokers : goal.wake_brokers-told-requires-clause-brokers
wake_brokers-told-requires-clause-brokers g c =
    brokers_kept c.args.self.now c.hand_brokers-told.new.self c.args.inwards.now (c.hand_brokers-told.ensures.ran.keeps.topo ∙ c.in-Ok.ensures.ran.keeps.topo) c.requires.brokers

pub wake_brokers-told-requires-clause-lanes : goal.wake_brokers-told-requires-clause-lanes
wake_brokers-told-requires-clause-lanes g c =
    lanes_kept (g.D.Disk.lane_of c.wake_brokers.new.disk) c.wake_brokers.new.self c.hand_brokers-told.new.self c.hand_brokers-told.ensures.ran.keeps c.hand_brokers-told.ensures.delivers.logs c.in-Ok.ensures.lanes

pub returns-clause-ran : goal.returns-clause-ran
returns-clause-ran g c =
    let a = c.args.self.now in
    let second = ran_joined a c.wake_brokers.new.self c.hand_brokers-told.new.self c.in-Ok.woken c.hand_brokers-told.result (Ok c.in-Ok-joined.handed) c.in-Ok-joined.ensures c.in-Ok.ensures.ran c.hand_brokers-told.ensures.ran in
    ran_joined a c.hand_brokers-told.new.self c.wake_brokers-told.new.self c.in-Ok-joined.handed c.wake_brokers-told.result c.joined-2.result c.joined-2.ensures second c.wake_brokers-told.ensures.ran

pub returns-in-Err-joined-clause-ran : goal.returns-in-Err-joined-clause-ran
returns-in-Err-joined-clause-ran g c =
    ran_joined c.args.self.now c.wake_brokers.new.self c.hand_brokers-told.new.self c.in-Ok.woken c.hand_brokers-told.result (Err c.in-Err-joined.fault) c.in-Err-joined.ensures c.in-Ok.ensures.ran c.hand_brokers-told.ensures.ran

pub returns-clause-does : goal.returns-clause-does
returns-clause-does g c =
    phases_do c.args.self.now c.wake_brokers.new.self c.hand_brokers-told.new.self c.wake_brokers-told.new.self c.args.p c.sent-first.result c.args.inwards.now c.args.outwards.now c.in-Ok.woken c.in-Ok-joined.handed c.hand_brokers-told.result c.wake_brokers-told.result c.joined-2.result
    c.in-Ok.ensures.ran.keeps.topo (c.hand_brokers-told.ensures.ran.keeps.topo ∙ c.in-Ok.ensures.ran.keeps.topo) c.sent-first.ensures c.in-Ok-joined.ensures c.joined-2.ensures c.in-Ok.ensures.does c.hand_brokers-told.ensures.does c.wake_brokers-told.ensures.does

pub returns-in-Err-clause-ends : goal.returns-in-Err-clause-ends
returns-in-Err-clause-ends g c = λ e. inl (c.in-Err.ensures.ends e)

pub returns-in-Err-joined-clause-ends : goal.returns-in-Err-joined-clause-ends
returns-in-Err-joined-clause-ends g c = λ e.
    absurd (end_behind c.wake_brokers.new.self c.hand_brokers-told.new.self c.in-Ok.woken c.hand_brokers-told.result (Err c.in-Err-joined.fault) c.in-Err-joined.ensures c.hand_brokers-told.ensures.delivers e)

pub returns-clause-ends : goal.returns-clause-ends
returns-clause-ends g c = λ e.
    let a = c.args.self.now in
    let b = c.wake_brokers.new.self in
    let mid = c.hand_brokers-told.new.self in
    let handed = ran_joined a b mid c.in-Ok.woken c.hand_brokers-told.result (Ok c.in-Ok-joined.handed) c.in-Ok-joined.ensures c.in-Ok.ensures.ran c.hand_brokers-told.ensures.ran in
    ends_third a b mid c.wake_brokers-told.new.self c.args.p c.sent-first.result c.args.inwards.now c.args.outwards.now c.in-Ok.woken c.in-Ok-joined.handed c.hand_brokers-told.result c.joined-2.result
    (c.sent-first.ensures ∙ sym (length-map a.frames frame_said)) c.in-Ok.ensures.ran.keeps.topo handed.keeps.topo handed.keeps c.in-Ok-joined.ensures c.in-Ok.ensures.does c.hand_brokers-told.ensures.does
    (ends_wakes (net_in mid) c.args.p c.args.inwards.now mid c.wake_brokers-told.new.self c.in-Ok-joined.handed c.wake_brokers-told.result c.joined-2.result c.joined-2.ensures c.wake_brokers-told.ensures.ends e)

pub returns-clause-bars : goal.returns-clause-bars
returns-clause-bars g c = λ d has. absurd (false≢true (c.in-Ok.ensures.bars d has))

pub returns-clause-calls : goal.returns-clause-calls
returns-clause-calls g c =
    let x = c.in-Ok.ensures in
    lanes_on c.args.self.now.topo c.hand_brokers-told.new.self.topo (g.D.Disk.lane_of c.args.disk.now) (g.D.Disk.lane_of c.wake_brokers.new.disk) (g.D.Disk.lane_of c.wake_brokers-told.new.disk)
    (c.hand_brokers-told.ensures.ran.keeps.topo ∙ x.ran.keeps.topo) x.calls c.wake_brokers-told.ensures.calls

pub returns-clause-disk : goal.returns-clause-disk
returns-clause-disk g c =
    let x = c.args.disk.now in
    let y = c.wake_brokers.new.disk in
    let z = c.wake_brokers-told.new.disk in
    disk_joined (g.D.Disk.faultless x) (g.D.Disk.faultless y) (g.D.Disk.faultless z) (g.D.Disk.faults x) (g.D.Disk.stops x) (g.D.Disk.faults y) (g.D.Disk.stops y) (g.D.Disk.faults z) (g.D.Disk.stops z)
    c.in-Ok-joined.handed c.wake_brokers-told.result c.joined-2.result c.joined-2.ensures (disk_lines {ls = c.in-Ok.woken} c.in-Ok-joined.handed c.in-Ok.ensures.disk) c.wake_brokers-told.ensures.disk
