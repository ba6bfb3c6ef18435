-- What a layer above may use of every world that a schedule leads to: the world beside the history of the steps to it
use Rattle.std.specs.Prelude.{◌≡◌, ◌≢◌, ◌⊎◌, ℕ, suc, ◌≤◌, ◌<◌, Bool, true, false, ◌&&◌, if◌then◌else◌, [], filter}
use Rattle.std.specs.Prelude.{get_or, IsTrue}
use Rattle.gr_know.specs.declared.values.K.{K}
use Rattle.gr_know.specs.declared.values.K.TheVariants.{Q, F}
use Rattle.gr_know.specs.Values.{known_at}
use Rattle.gr_curio.specs.declared.asks.Moment.TheVariants.{At}
use Rattle.gr_curio.specs.Values.{asked_at}
use Rattle.gr_model.specs.Net.{Net, keeps_horizon, is_host}
use Rattle.gr_model.specs.Broker.{View, event_at, is_consolidated_by}
use Rattle.gr_model.specs.World.{World, view_of, log_of, sent_lines}
use Rattle.gr_model.specs.Opening.{recorded_of, stored_now}
use Rattle.gr_model.specs.Headline.{History, record_of, reopened_cut, stored_of, last_cut, last_horizon}
use Rattle.gr_model.specs.Headline.{delivered_events, expected, is_heard, is_sent, may_crash, InOrder}
use Rattle.gr_model_calls.specs.Fits.{WorldFits}

-- The log of p is its record, with its marks and its cuts, and is stored as these say
pub record IsRecorded (net : Net) (h : History) (w : World) (p : ℕ) : Type 0 where
  -- the last number, the tick up to which all is settled, and the events
  pub record_is : recorded_of (log_of w p) ≡ record_of h p
  -- the cut is that of the last cut line, or the one that was found
  pub cut : (log_of w p).cut ≡ last_cut p (reopened_cut h p) h.lines
  -- its lane has the generation, and its text the size, that all that was logged, marked and cut gives
  pub stored : stored_now (log_of w p) ≡ stored_of h p

-- Subscriber s got exactly what p owes it up to the horizon of its broker, and was told that horizon
pub record HasGot (net : Net) (h : History) (w : World) (s p : ℕ) : Type 0 where
  pub got : delivered_events s p h.lines ≡ expected net h s p (view_of w (net.at s) p).horizon
  pub told : last_horizon s p 0 h.lines ≡ (view_of w (net.at s) p).horizon

-- broker b has heard of a tick of p since it started
abbrev pub was_heard : History → ℕ → ℕ → ℕ → Bool
was_heard h b p t = is_heard (get_or (get_or h.heard b []) p []) t

-- What a broker below the host has heard, where it keeps a horizon
pub record HeardIsKnown (h : History) (b p : ℕ) (v : View) : Type 0 where
  -- all up to its horizon, and not the next tick
  pub below : (t : ℕ) → 1 ≤ t → t ≤ v.horizon → IsTrue (was_heard h b p t)
  pub stops : was_heard h b p (suc v.horizon) ≡ false
  -- above its horizon it knows what it has heard, and has heard what it knows
  pub kept : (t : ℕ) → v.horizon < t → IsTrue (was_heard h b p t) → known_at v.know t ≢ Q
  pub known : (t : ℕ) → v.horizon < t → known_at v.know t ≢ Q → IsTrue (was_heard h b p t)

-- what broker b knows of a tick of p
abbrev pub knows_at : World → ℕ → ℕ → ℕ → K
knows_at w b p t = known_at (view_of w b p).know t

-- every child acknowledged the tick, and a kept horizon has come past it
abbrev pub is_consolidated_at : Net → World → ℕ → ℕ → ℕ → Bool
is_consolidated_at net w b p t =
    is_consolidated_by (keeps_horizon net p b) (view_of w b p).horizon (view_of w b p).wants t

-- The host of p knows of a settled tick what the log says, or that it is final; and of a later tick nothing
pub record KnowsLog (net : Net) (w : World) (p : ℕ) : Type 0 where
  pub settled : (t : ℕ) → 1 ≤ t → t ≤ (log_of w p).settled →
      (knows_at w (net.host p) p t ≡ event_at (log_of w p).events t) ⊎ (knows_at w (net.host p) p t ≡ F)
  -- every tick up to the cut is final, and no other that is not consolidated
  pub cut : (t : ℕ) → 1 ≤ t → t ≤ (log_of w p).cut → knows_at w (net.host p) p t ≡ F
  pub only : (t : ℕ) → knows_at w (net.host p) p t ≡ F →
      (t ≤ (log_of w p).cut) ⊎ IsTrue (is_consolidated_at net w (net.host p) p t)
  pub past : (t : ℕ) → (log_of w p).settled < t → knows_at w (net.host p) p t ≡ Q

-- a host's kept horizon is where its log is settled, or 0 while nothing was logged or marked since it started
abbrev pub host_reaches : Net → History → ℕ → ℕ
host_reaches net h p = if get_or h.unlogged p true && may_crash net (net.host p) then 0 else (record_of h p).settled

pub record Fits (net : Net) (h : History) (w : World) : Type 0 where
  -- whatever a broker knows, whatever a frame says, and whatever was acknowledged or cut is true
  pub truth : WorldFits net w
  -- the clock, and the greatest moment that it had
  pub clock : h.clock ≡ w.clock
  pub most : h.most ≡ w.most
  -- each log is the record
  pub logs : (p : ℕ) → p < net.publishers → IsRecorded net h w p
  -- the sent lines say the frames, numbered from 1
  pub sent : filter is_sent h.lines ≡ sent_lines 1 w.frames
  -- each subscriber got what it is owed up to its broker's horizon
  pub got : (s p : ℕ) → s < net.subscribers → p < net.publishers → HasGot net h w s p
  -- no horizon is past what is settled, and a host's is where that is
  pub horizons : (p b : ℕ) → p < net.publishers → b < net.brokers → (view_of w b p).horizon ≤ (log_of w p).settled
  pub at_host : (p : ℕ) → p < net.publishers → IsTrue (keeps_horizon net p (net.host p)) →
      (view_of w (net.host p) p).horizon ≡ host_reaches net h p
  -- below the host, what is heard and what is known agree above a kept horizon
  pub heard : (b p : ℕ) → b < net.brokers → p < net.publishers → is_host net p b ≡ false →
      IsTrue (keeps_horizon net p b) → HeardIsKnown h b p (view_of w b p)
  -- a host knows what its log says
  pub host : (p : ℕ) → p < net.publishers → KnowsLog net w p
  -- a consolidated tick is final
  pub final : (p b t : ℕ) → p < net.publishers → b < net.brokers → IsTrue (is_consolidated_at net w b p t) →
      knows_at w b p t ≡ F
  -- horizons and cuts rise, and a cut is told after all that it lets go
  pub order : InOrder net h
  -- no ask is of a moment past the greatest, and a host has asked nothing
  pub asks : (p b t m : ℕ) → p < net.publishers → b < net.brokers → asked_at (view_of w b p).asks t ≡ At m → m ≤ w.most
  pub host_asks : (p : ℕ) → p < net.publishers → (view_of w (net.host p) p).asks ≡ []
