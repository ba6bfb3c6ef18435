-- Behind a cut the lanes hold the log with it
use Rattle.std.proofs.Common.{◌≡◌, ℕ, Some, Ok, sym, ◌∙◌, subst}
use Rattle.gr_out.specs.Lane.{Lane, lane_at}
use Rattle.gr_publog.specs.Views.{lanes_at, Stands, IsReady}
use Rattle.gr_pubend.specs.Cuts.{Cuts, cut_view}
use Rattle.gr_pubend.specs.End.{EndView, cut_end}
use Rattle.gr_pubend.proofs.Cuts.{cut_stays, cuts_stand}
use Rattle.gr_tests_wire.proofs.endpoints.cut.Goals as goal

-- an endpoint whose cut came through
is_ready : {T : Type 0} (x : T) (old new : EndView) (tick reclaim : ℕ) (before after : ℕ → Lane) → new ≡ cut_end reclaim tick old → IsReady old.log (lanes_at before old.log.lane)
    → Cuts old.log (Some tick) reclaim (lanes_at before old.log.lane) (lanes_at after old.log.lane) (Ok x) → IsReady new.log (lanes_at after new.log.lane)
is_ready x old new tick reclaim before after e ready cuts = subst (λ (p : EndView). IsReady p.log (lanes_at after p.log.lane)) (sym e) there
  where
    there : IsReady (cut_view reclaim tick old.log) (lanes_at after (cut_view reclaim tick old.log).lane)
    there = λ whole.
        let stays = cut_stays reclaim tick old.log in
        subst (λ (n : ℕ). Stands (lanes_at after n) (cut_view reclaim tick old.log)) (sym stays.0) (cuts_stand old.log reclaim _ _ (Ok x) (Some tick) cuts ready (sym stays.1 ∙ whole))

pub returns-in-Ok-Recorded : goal.returns-in-Ok-Recorded
returns-in-Ok-Recorded c =
    let k = c.in-Ok-Recorded.ensures in
    record { stands = is_ready _ c.args.end.now c.cut_to.new.self c.in-Some.tick c.in-Ok.reclaim (lane_at c.args.disk.now.lanes) (lane_at c.cut_to.new.disk.lanes) k.end.ok c.requires.stands (k.lanes tt) }

pub returns-in-Ok-Reclaimed : goal.returns-in-Ok-Reclaimed
returns-in-Ok-Reclaimed c =
    let k = c.in-Ok-Reclaimed.ensures in
    record { stands = is_ready _ c.args.end.now c.cut_to.new.self c.in-Some.tick c.in-Ok.reclaim (lane_at c.args.disk.now.lanes) (lane_at c.cut_to.new.disk.lanes) k.end.ok c.requires.stands (k.lanes tt) }
