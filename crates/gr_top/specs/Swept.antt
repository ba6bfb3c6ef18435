-- What each sweep of a schedule reaches, by the lines so far and its own
use Rattle.std.specs.Prelude.{◌≡◌, ℕ, suc, ◌<◌, List, [], ◌∷◌, ◌++◌, length, drop, filter, Contains}
use Rattle.gr_sched.specs.declared.step.Step.TheVariants as step
use Rattle.gr_sched.specs.declared.step.Line.{Line}
use Rattle.gr_model.specs.declared.report.Report.{Report}
use Rattle.gr_model.specs.declared.report.Report.TheVariants as line
use Rattle.gr_model.specs.Net.{Net}
use Rattle.gr_model.specs.Headline.{History, history, begin, record_of, last_cut, last_horizon, delivered_events}
use Rattle.gr_model.specs.Headline.{recorded_net}

-- Lines of a sweep at this moment settle everything, behind this history: the moment is where each publisher is marked
-- and last cut, and where each subscriber's last horizon is; and each subscriber has got exactly what is recorded that
-- it wants, a late one what is past its join
pub record SettlesAll (net : Net) (h : History) (moment : ℕ) (told : List Report) : Type 0 where
  pub marked : (p : ℕ) → p < net.publishers → Contains told (line.Mark p moment)
  pub cut : (p : ℕ) → p < net.publishers → last_cut p 0 told ≡ moment
  pub horizon : (s p : ℕ) → s < net.subscribers → p < net.publishers → last_horizon s p 0 told ≡ moment
  pub all_got : (s p : ℕ) → s < net.subscribers → p < net.publishers → delivered_events s p (h.lines ++ told)
      ≡ filter (λ x. (recorded_net net h).wants p s x.0 x.1) (record_of h p).events

-- so do those of each sweep of a schedule that was not refused: with the steps before it and the lines that these told,
-- of which the first are those of the start
abbrev pub SweepsSettle : Net → List Line → List (List Report) → Type 0
SweepsSettle net lines report =
    (done left : List Line) (number moment : ℕ) (before after : List (List Report)) (told most : List Report)
    → lines ≡ done ++ record { number = number; step = step.Sweep } ∷ left → report ≡ before ++ told ∷ after
    → length before ≡ suc (length done) → told ≡ most ++ line.Swept moment ∷ []
    → SettlesAll net (history net (begin net) done (drop 1 before)) moment told
