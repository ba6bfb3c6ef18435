-- What layers above may use of every world, read off what stands with the history of the steps to it
use Rattle.std.proofs.Common.{◌≡◌, ◌≢◌, ◌⊎◌, inl, inr, ℕ, ◌≤◌, ◌<◌, List, [], refl, sym, ap, ap₂, ◌∙◌}
use Rattle.std.proofs.lemmas.Bool.{eq-eqb}
use Rattle.gr_know.specs.declared.values.K.{K}
use Rattle.gr_know.specs.declared.values.K.TheVariants.{Q, S, D, F}
use Rattle.gr_know.specs.Values.{known_at}
use Rattle.gr_sched.specs.declared.step.Line.{Line}
use Rattle.gr_model.specs.Net.{Net}
use Rattle.gr_model.specs.Broker.{event_at}
use Rattle.gr_model.specs.World.{World, view_of, log_of, start}
use Rattle.gr_model_calls.specs.OneNet.{run_all, run_from, history_of}
use Rattle.gr_model.specs.Headline.{History, history, begin}
use Rattle.gr_model.specs.Tree.{IsNet}
use Rattle.gr_model_calls.specs.Truth.{IsTrueAt}
use Rattle.gr_model_calls.specs.Said.{due_upto}
use Rattle.gr_model_calls.specs.Fits.{StepsIn, facts_of}
use Rattle.gr_model_theorems.specs.Standing.{KnowsLog, Fits}
use Rattle.gr_model_calls.proofs.asks.AskMoments.{asked_upto}
use Rattle.gr_model_theorems.proofs.records.Recorded.{record_core}
use Rattle.gr_model_calls.proofs.runs.Schedules.{event_said, said_value}
use Rattle.gr_model_calls.proofs.runs.Worlds.{reached_here}
use Rattle.gr_model_theorems.proofs.hosts.HostAlways.{FinalsHold, none_past, run_finals, start_finals}
use Rattle.gr_model_theorems.proofs.sweep.SweepStates.{Unknowns}
use Rattle.gr_model_theorems.proofs.sweep.FirstUnknown.{unknowns_always}
use Rattle.gr_model_theorems.proofs.headline.SoFar.{in_order, doubt_at}
use Rattle.gr_model_theorems.proofs.headline.WithoutSweeps.{Whole, start_whole}
use Rattle.gr_model_theorems.proofs.headline.AfterSweeps.{stands_where_sweeps_reach}
use Rattle.gr_model_theorems.proofs.headline.SecondReaches.{sweeps_reach}

-- The host

-- a value that is true at the host is what the log says, or final
host_says : (net : Net) (w : World) (p t : ℕ) (k : K) → k ≢ Q → IsTrueAt net (facts_of net w p) p (net.host p) t k → (k ≡ event_at (log_of w p).events t) ⊎ (k ≡ F)
host_says net w p t Q n h = absurd (n refl)
host_says net w p t S n h = inl (sym (event_said (log_of w p).events t ∙ ap said_value (h.silent (eq-eqb (net.host p) (net.host p) refl))))
host_says net w p t (D e) n h = inl (sym (event_said (log_of w p).events t ∙ ap said_value h.logged))
host_says net w p t F n h = inr refl

knows_log : (net : Net) (w : World) (h : History) (p : ℕ) → IsNet net → Whole net w h → FinalsHold net w → p < net.publishers → KnowsLog net w p
knows_log net w h p n k finals j =
    let f = k.stands.fits in
    let v = f.views p (net.host p) j (n.host_in p j) in
    record {
      settled = λ t a c. host_says net w p t (known_at (view_of w (net.host p) p).know t) (f.known p j t a c) (v.know.each t);
      cut = λ t a c. (finals.hosts p j).cut_final t a c;
      only = λ t e. (finals.hosts p j).only t e;
      past = λ t l. none_past net (facts_of net w p) p (net.host p) t (known_at (view_of w (net.host p) p).know t) l (v.know.each t);
    }

-- Worlds

pub fits_of : (net : Net) (w : World) (h : History) → IsNet net → Whole net w h → FinalsHold net w → Fits net h w
fits_of net w h n k finals =
    let s = k.stands in
    record {
      truth = s.fits;
      clock = s.records.clock;
      most = s.records.most;
      logs = λ p j. record {
        record_is = sym (record_core net w h p s.records);
        cut = sym (s.ordered.last p j);
        stored = sym (s.stored.each p j);
      };
      sent = s.sent;
      got = λ a p i j.
          let y = n.subscriber a i in
          let reached = reached_here net w p a y in
          record {
            got = s.lines.got p a j y ∙ ap₂ (λ m r. due_upto net p a m r.events) reached (sym (record_core net w h p s.records));
            told = s.lines.horizon p a j y ∙ reached;
          };
      horizons = λ p b j i. (s.fits.views p b j i).horizon.settled;
      at_host = λ p j keeps. doubt_at net w h (net.host p) p s j keeps (eq-eqb (net.host p) (net.host p) refl);
      heard = λ b p i j host keeps.
          let x = k.hears.fits b p i j host keeps in
          record { below = x.below; stops = x.stops; kept = x.kept; known = x.known };
      host = λ p j. knows_log net w h p n k finals j;
      final = λ p b t j i c. finals.final p b j i t c;
      order = in_order net w h n s;
      asks = λ p b t m j i e. asked_upto w.most t m (view_of w b p).asks (s.asks.upto p b j i) e;
      host_asks = λ p j. s.asks.host p j;
    }

-- after a run from a world that stands with its history
pub fits_run : (net : Net) (w : World) (h : History) (steps : List Line) → IsNet net → 1 ≤ net.quiet → 1 ≤ net.retry → StepsIn net steps → Whole net w h → Unknowns net w → FinalsHold net w → Fits net (history net h steps (run_from net w steps)) (run_all net w steps).world
fits_run net w h steps n z r i k x finals =
    let y = stands_where_sweeps_reach net w h steps n (sweeps_reach net n z r) z i k x in
    fits_of net (run_all net w steps).world (history net h steps (run_from net w steps)) n y.0 (run_finals net n z w steps k.stands.fits finals i)

-- over every schedule
pub fits_always : (net : Net) (steps : List Line) → IsNet net → 1 ≤ net.quiet → 1 ≤ net.retry → StepsIn net steps → Fits net (history_of net steps) (run_all net (start net) steps).world
fits_always net steps n z r i = fits_run net (start net) (begin net) steps n z r i (start_whole net n) (unknowns_always net [] n tt) (start_finals net n)
