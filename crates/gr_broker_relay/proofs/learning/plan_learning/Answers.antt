use Rattle.std.proofs.Common.{◌++◌, ℕ, List, ◌&&◌, nat_lt, nat_le, refl, ap, ◌∙◌, subst}
use Rattle.std.specs.Prelude.{if◌then◌else◌}
use Rattle.gr_tick.specs.Stored.{RunsGive}
use Rattle.gr_curio.specs.declared.values.Q3.TheVariants.{N, A}
use Rattle.gr_curio.specs.Wants.{runs_of, all_A}
use Rattle.gr_frame.specs.declared.Frame.{Frame}
use Rattle.gr_model.specs.declared.report.Report.{Report}
use Rattle.gr_model.specs.Broker.{new_ticks}
use Rattle.gr_broker_relay.specs.Held.{held_view, shown_net}
use Rattle.gr_broker_relay.specs.Told.{AddsFrames}
use Rattle.gr_broker_relay.proofs.Planned.{planned_lines, planned_frames}
use Rattle.gr_broker_relay.proofs.learning.plan_learning.Goals as goal

pub returns-clause-adds : goal.returns-clause-adds
returns-clause-adds c = λ log.
    let net = shown_net c.args.site.now.topo.now c.args.held.now in
    record {
      lines = c.in_ok-deliver.ensures ∙ ap (λ (xs : List Report). c.args.into.now.reports ++ xs) (planned_lines net c.args.site.now.publisher c.args.site.now.broker c.args.piece.now (held_view c.args.held.now) log c.horizon_with-to.result c.horizon_with-to.ensures.reached);
      frames = subst (λ (fs : List Frame). AddsFrames fs c.args.into.now.frames c.forward_news.new.into) (planned_frames net c.args.site.now.publisher c.args.site.now.broker c.args.piece.now (held_view c.args.held.now) log (new_ticks c.args.held.now.know.runs c.args.piece.now) refl) c.in_ok-quenched.ensures.adds;
    }

pub returns-clause-changes : goal.returns-clause-changes
returns-clause-changes c = record {
  moves = c.horizon_with-to.ensures.reached;
  onward = c.horizon_with-to.ensures.forward;
  inside = c.horizon_with-to.ensures.inside;
  each = c.in_ok-quenched.ensures.each;
  completed = subst (λ (x : ℕ). RunsGive N c.in_ok-completed.completed (λ t. if nat_lt c.args.held.now.horizon t && nat_le t x && all_A (runs_of c.args.held.now.wants) t then A else N)) c.horizon_with-to.ensures.reached c.in_ok-completed.ensures;
}
