use Rattle.std.proofs.Common.{List, Result, sym, subst}
use Rattle.std.specs.Prelude.{IfOk}
use Rattle.gr_model.specs.declared.report.Report.{Report}
use Rattle.gr_world.specs.declared.fault.WorldFault.{WorldFault}
use Rattle.gr_world.specs.Opened.{Crashes}
use Rattle.gr_model.specs.World.{crash}
use Rattle.gr_world.specs.Seen.{net_in, world_of}
use Rattle.gr_world.specs.Steps.{Does}
use Rattle.gr_world.proofs.Crashing.{others_fit, logs_found, crash_made, crashes_over, sound_but}
use Rattle.gr_world.proofs.world.World.crash_at.Goals as goal
use Rattle.gr_world.proofs.world.World.crash_at.Goals.{in-Ok-crash_lines, in-Err-crash_lines}

pub restart-requires-clause-others : goal.restart-requires-clause-others
restart-requires-clause-others g c =
    others_fit c.args.self.now c.args.b (g.D.Disk.lane_of c.args.disk.now) c.requires.lanes c.requires.unspent c.requires.down

pub returns-clause-does : goal.returns-clause-does
returns-clause-does g c = λ sound.
    let old = c.args.self.now in
    let new = c.restart.new.self in
    let b = c.args.b in
    let one = c.in-Ok.ensures in
    let same = logs_found c.stands_found.ensures old new b (g.D.Disk.lane_of c.args.disk.now) c.requires.fits sound c.requires.unspent c.requires.lanes c.requires.broker one.restarts.elsewhere one.found one.restarts.topo in
    elim c.match-crash_lines.branch [
      | in-Ok-crash_lines w ↦
          subst (λ r. Does (crash (net_in old) (world_of old) b) new r) (sym w.result-is)
          (crash_made old new b c.in-Ok.opened w.in-Ok-crash_lines.lines one.does same w.in-Ok-crash_lines.ensures)
      | in-Err-crash_lines w ↦ subst (λ r. Does (crash (net_in old) (world_of old) b) new r) (sym w.result-is) (record { world = tt; lines = tt })
    ]

pub returns-clause-sound : goal.returns-clause-sound
returns-clause-sound g c = λ sound some. c.in-Ok.ensures.restarts.sound (sound_but c.args.self.now c.args.b sound)

pub returns-clause-crashes : goal.returns-clause-crashes
returns-clause-crashes g c =
    let old = c.args.self.now in
    let new = c.restart.new.self in
    let b = c.args.b in
    let lanes = g.D.Disk.lane_of c.args.disk.now in
    let one = c.in-Ok.ensures in
    elim c.match-crash_lines.branch [
      | in-Ok-crash_lines w ↦
          subst (λ (r : Result (List Report) WorldFault). IfOk r (Crashes b lanes old new)) (sym w.result-is)
          (crashes_over old new b lanes c.in-Ok.opened w.in-Ok-crash_lines.lines one.does one.restarts.elsewhere one.found w.in-Ok-crash_lines.ensures)
      | in-Err-crash_lines w ↦ subst (λ (r : Result (List Report) WorldFault). IfOk r (Crashes b lanes old new)) (sym w.result-is) tt
    ]
