-- Every sweep that is not refused reaches each broker below the host that keeps a horizon, so the headline holds whole over every schedule
use Rattle.std.proofs.Common.{◌≡◌, inl, inr, ⊎_elim, ℕ, ◌≤◌, ◌<◌, max, Bool, true, false, List, [], ◌∷◌, length, refl, sym, ap, ◌∙◌, subst, arith, le_antisymm}
use Rattle.std.specs.Prelude.{nat_lt}
use Rattle.std.specs.List.{list_any}
use Rattle.std.proofs.lemmas.Bool.{cases_lt, true≢false, or_left, or_right}
use Rattle.gr_frame.specs.declared.Frame.{Frame}
use Rattle.gr_sched.specs.declared.step.Line.{Line}
use Rattle.gr_model.specs.declared.report.Report.TheVariants as line
use Rattle.gr_model.specs.Net.{Net, numbers}
use Rattle.gr_model.specs.Broker.{max_tick}
use Rattle.gr_model.specs.World.{World, Transition, view_of, log_of, unchanged, followed_by, in_turn, sweep_moment, frames_past, sweep_by}
use Rattle.gr_model_calls.specs.OneNet.{sweep, sweep_for, report_of, Headline}
use Rattle.gr_model.specs.Tree.{IsNet}
use Rattle.gr_model_calls.specs.Fits.{StepsIn, WorldFits}
use Rattle.gr_model_calls.proofs.runs.Closed.{clocked}
use Rattle.gr_model_theorems.proofs.records.Recorded.{settled_far, most_before}
use Rattle.gr_model_calls.proofs.runs.Schedules.{clocked_fits, sweep_kept}
use Rattle.gr_model_calls.proofs.asks.AskMoments.{AsksFit, asked_upto}
use Rattle.gr_model_calls.proofs.rules.SweepAsks.{sweep_begins}
use Rattle.gr_model_theorems.proofs.heard.Heard.{HeardFits}
use Rattle.gr_model_theorems.proofs.heard.HeardSteps.{heard_in}
use Rattle.gr_model_theorems.proofs.sweep.SweepHears.{SweepAdds, sweep_adds, tells_to}
use Rattle.gr_model_calls.proofs.rules.Serves.{frames_past_all}
use Rattle.gr_model_theorems.proofs.sweep.SweepStates.{Unknowns, Begins}
use Rattle.gr_model_theorems.proofs.headline.AfterSweeps.{SweepsReach, swept_settled, headline_where_sweeps_reach}
use Rattle.gr_model_theorems.proofs.sweep.SecondBrings.{Brings, sweeps_bring}

-- the world at a sweep's moment
abbrev pub at_sweep_moment : Net → World → World
at_sweep_moment net w = clocked w (sweep_moment net w) (max (sweep_moment net w) w.most)

pub swept_world : (net : Net) (w : World) (k : ℕ) → nat_lt max_tick (sweep_moment net w) ≡ false → (sweep net w k).world ≡ (in_turn (sweep_for net) (numbers net.publishers) (at_sweep_moment net w)).world
unfolding sweep_by
swept_world net w k e = go (nat_lt max_tick m) e
  where
    m : ℕ
    m = sweep_moment net w

    u : World
    u = record { clock = m; most = max m w.most; frames = w.frames; views = w.views; logs = w.logs }

    go : (q : Bool) → q ≡ false → (let t : Transition = elim q [ true ↦ unchanged w (line.RefusedClock k m ∷ []) | false ↦ followed_by (in_turn (sweep_for net) (numbers net.publishers) u) (λ x. unchanged x (line.Swept m ∷ [])) ] in t.world) ≡ (in_turn (sweep_for net) (numbers net.publishers) u).world
    go true e = absurd (true≢false e)
    go false e = refl

-- how each publisher's sweep begins
pub moment_begins : (net : Net) (w : World) (p : ℕ) → WorldFits net w → AsksFit net w → Unknowns net w → p < net.publishers → Begins net p (sweep_moment net w) (at_sweep_moment net w)
moment_begins net w p f a u j = record {
  publisher = j;
  fits = clocked_fits net w (sweep_moment net w) (max (sweep_moment net w) w.most) f;
  now = sweep_begins net w a;
  unknown = record { each = u.each; any = u.any };
  none_asked = λ b t i e. omega (arith, asked_upto w.most t (sweep_moment net w) (view_of w b p).asks (a.upto p b j i) e, most_before net w);
  far = settled_far net w p f j;
}

-- an accepted sweep brings the horizon of each broker below the host to the sweep's moment
pub sweeps_reach : (net : Net) (n : IsNet net) → 1 ≤ net.quiet → 1 ≤ net.retry → SweepsReach net n
sweeps_reach net n z r w k heard f a u h ok b p i j host keeps = record {
  horizon = le_antisymm (omega (arith, (g.views p b j i).horizon.settled, settled)) brings.horizon;
  heard = λ t x y. ⊎_elim
      (λ l. or_left (heard_in heard b p t) (list_any (tells_to b p t) adds.more) (was.below t x l))
      (λ o. ⊎_elim
      (λ q. or_left (heard_in heard b p t) (list_any (tells_to b p t) adds.more) (elim (cases_lt (view_of w b p).horizon t) [ inl l ↦ was.known t l q | inr l ↦ was.below t x l ]))
      (λ q. or_right (heard_in heard b p t) (list_any (tells_to b p t) adds.more) (subst (λ (fs : List Frame). list_any (tells_to b p t) fs ≡ true) same_more q))
      o)
      (brings.told t x y);
}
  where
    m : ℕ
    m = sweep_moment net w

    y : World
    y = (sweep net w k).world

    g : WorldFits net y
    g = (sweep_kept net w k n f).fits

    settled : (log_of y p).settled ≡ m
    settled = swept_settled net w k p n z f j ok

    was : HeardFits (view_of w b p) (heard_in heard b p)
    was = h.fits b p i j host keeps

    adds : SweepAdds net w k
    adds = sweep_adds net w k n f

    brings : Brings net m b p (at_sweep_moment net w) y
    brings = subst (Brings net m b p (at_sweep_moment net w)) (sym (swept_world net w k ok)) (sweeps_bring net p m b 0 net.publishers (at_sweep_moment net w) n r z i host keeps (omega arith) (omega (arith, j)) (omega arith) (moment_begins net w p f a u j))

    same_more : brings.more ≡ adds.more
    same_more = sym (frames_past_all w.frames brings.more) ∙ (ap (frames_past (length w.frames)) (sym brings.frames ∙ adds.frames) ∙ frames_past_all w.frames adds.more)

-- the headline, whole, over every schedule
pub headline_always : (net : Net) (ls : List Line) → IsNet net → 1 ≤ net.quiet → 1 ≤ net.retry → StepsIn net ls → Headline net ls (report_of net ls)
headline_always net ls n z r i = headline_where_sweeps_reach net ls n (sweeps_reach net n z r) z i
