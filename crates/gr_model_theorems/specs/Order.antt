-- What every schedule keeps of its cuts and of the frames that it sends
use Rattle.std.specs.Prelude.{◌≡◌, ℕ, ◌≤◌, ◌<◌, true, List, ◌∷◌, ◌++◌, filter, Contains, Bool, false}
use Rattle.gr_event.specs.declared.event.Event.{Event}
use Rattle.gr_model.specs.declared.report.Report.{Report}
use Rattle.gr_model.specs.declared.report.Report.TheVariants as line
use Rattle.gr_model.specs.Net.{Net}
use Rattle.gr_sched.specs.declared.step.Line.{Line}
use Rattle.gr_sched.specs.declared.step.Step.{Step}
use Rattle.gr_sched.specs.declared.step.Step.TheVariants as step
use Rattle.gr_model.specs.Headline.{History, record_of, reopened_cut, last_cut, is_sent}
use Rattle.gr_model.specs.Tree.{IsSubscriber}
use Rattle.gr_model.specs.World.{start, run_all, sent_lines}
use Rattle.gr_model_calls.specs.Fits.{history_of}

-- discarded only after delivery, for one publisher: cuts rise strictly, none is past what is settled, and each event up
-- to a cut was got before it by each subscriber that wants it
pub record CutsInOrder (net : Net) (h : History) (p : ℕ) : Type 0 where
  pub cuts : (t : ℕ) (xs ys : List Report) → h.lines ≡ xs ++ line.Cut p t ∷ ys → last_cut p (reopened_cut h p) xs < t
  pub cut_settled : (t : ℕ) (xs ys : List Report) → h.lines ≡ xs ++ line.Cut p t ∷ ys → t ≤ (record_of h p).settled
  pub cut_got : (t : ℕ) (xs ys : List Report) → h.lines ≡ xs ++ line.Cut p t ∷ ys →
      (s u : ℕ) (e : Event) → Contains (record_of h p).events (u, e) → u ≤ t → IsSubscriber net s → net.wants p s u e
      ≡ true → Contains xs (line.Got s p u e)

-- a sweep
abbrev pub is_sweep : Step → Bool
is_sweep step.Sweep = true
is_sweep _ = false

-- frames sent: the sent lines are numbered 1, 2, 3 and so on, and say the frames that the calls sent, in their order
abbrev pub FramesSent : Net → List Line → Type 0
FramesSent net steps = filter is_sent (history_of net steps).lines
    ≡ sent_lines 1 (run_all net (start net) steps).world.frames
