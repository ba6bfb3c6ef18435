-- What was sent is true of the log that keeps all events, and so it is of the code's log, but for events that were cut; and whatever pair a
-- crash leaves of its lanes holds that log
use Rattle.std.proofs.Common.{◌≡◌, ◌≢◌, inl, inr, ℕ, zero, suc, ◌<◌, ◌≤◌, Bool, true, false, List, [], ◌∷◌, length, Option, Some, None, Result, Ok, refl, sym, ap, ◌∙◌, subst, arith}
use Rattle.std.specs.Prelude.{slice_get, nat_eq, nat_lt, if◌then◌else◌}
use Rattle.std.proofs.lemmas.Bool.{cases_lt, ltb-false, ne_eqb}
use Rattle.gr_event.specs.declared.event.Event.{Event}
use Rattle.gr_event.specs.Joins.{Joins}
use Rattle.gr_frame.specs.declared.Body.TheVariants as body
use Rattle.gr_frame.specs.declared.Frame.{Frame}
use Rattle.gr_know.specs.declared.values.K.{K}
use Rattle.gr_know.specs.declared.values.K.TheVariants.{Q, S, D, F}
use Rattle.gr_know.specs.Values.{Known, known_at}
use Rattle.gr_out.specs.Lane.{Lane}
use Rattle.gr_publog.specs.State.{LogState}
use Rattle.gr_publog.specs.Lanes.{state_in}
use Rattle.gr_publog.specs.Views.{LogView, lanes_at, MayLeavePair, StandsRead}
use Rattle.gr_pubend.specs.Log.{Log, past, pairs, said}
use Rattle.gr_sched.specs.declared.step.Line.{Line}
use Rattle.gr_topo.specs.Topology.{host_of}
use Rattle.gr_model.specs.declared.report.Report.{Report}
use Rattle.gr_model.specs.Net.{Net}
use Rattle.gr_model.specs.World.{World, log_of, frame_at}
use Rattle.gr_model_calls.specs.Fits.{FrameTrue, AllFramesTrue, BodyTrue, facts_of}
use Rattle.gr_model_calls.specs.Truth.{Facts, IsTrueAt}
use Rattle.gr_model_calls.specs.Said.{said_at}
use Rattle.gr_model_theorems.specs.Forgets.{SameLog, DifferInCut}
use Rattle.gr_model_theorems.specs.Statements.{world_after, joined_net}
use Rattle.gr_model_theorems.proofs.server.CutEvents.{same_get}
use Rattle.gr_broker.specs.Lanes.{log_lane}
use Rattle.gr_broker.specs.Seen.{log_said}
use Rattle.gr_report.proofs.Hosts.{hosted_log}
use Rattle.gr_world.specs.Seen.{WorldView, broker_in, log_at, net_in, world_of}
use Rattle.gr_world.specs.Fits.{Fits}
use Rattle.gr_world.specs.Lasting.{IsLogged, HoldsSent}
use Rattle.gr_world.proofs.Absorbing.{log_is}
use Rattle.gr_world.proofs.Fitted.{stands_of, differs_in_cut}

-- Frames

-- what holds of all frames that were sent holds of one
sent_true : (net : Net) (w : World) (fs : List Frame) (k : ℕ) (f : Frame) → AllFramesTrue net w fs → slice_get fs k ≡ Some f → FrameTrue net w f
sent_true net w [] k f a e = absurd (cc e)
sent_true net w (x ∷ xs) zero f a e = let same : x ≡ f = cc in subst (FrameTrue net w) same a.0
sent_true net w (x ∷ xs) (suc k) f a e = sent_true net w xs k f a.1 e

frame_true : (net : Net) (w : World) (k : ℕ) (f : Frame) → AllFramesTrue net w w.frames → frame_at w k ≡ Some f → FrameTrue net w f
frame_true net w zero f a e = absurd (cc e)
frame_true net w (suc k) f a e = sent_true net w w.frames k f a e

-- a value that is true is settled
true_settled : (net : Net) (f : Facts) (p b t : ℕ) (k : K) → IsTrueAt net f p b t k → k ≢ Q → t ≤ f.settled
true_settled net f p b t Q h n = absurd (n refl)
true_settled net f p b t S h n = h.settled
true_settled net f p b t (D e) h n = h.settled
true_settled net f p b t F h n = h.settled

-- and an event was logged
true_logged : (net : Net) (f : Facts) (p b t : ℕ) (k : K) (e : Event) → IsTrueAt net f p b t k → k ≡ D e → f.said t ≡ Some e
true_logged net f p b t k e h is = let x : IsTrueAt net f p b t (D e) = subst (IsTrueAt net f p b t) is h in x.logged

-- a frame of the one world is one of the other
frame_same : (w u : World) (k : ℕ) (f : Frame) → u.frames ≡ w.frames → frame_at u k ≡ Some f → frame_at w k ≡ Some f
frame_same w u zero f same e = absurd (cc e)
frame_same w u (suc k) f same e = subst (λ (fs : List Frame). slice_get fs k ≡ Some f) same e

-- Events

-- past a cut those are the same that stand past it
said_past : (cut t : ℕ) (xs : List (ℕ × Event)) → cut < t → said_at (past cut xs) t ≡ said_at xs t
said_past cut t [] l = refl
said_past cut t (x ∷ xs) l = go (nat_lt cut x.0) refl (said_past cut t xs l)
  where
    go : (a : Bool) → nat_lt cut x.0 ≡ a → said_at (past cut xs) t ≡ said_at xs t → said_at (if a then x ∷ past cut xs else past cut xs) t ≡ (if nat_eq x.0 t then Some x.1 else said_at xs t)
    go true y e = ap (λ (o : Option Event). if nat_eq x.0 t then Some x.1 else o) e
    go false y e = e ∙ sym (ap (λ (c : Bool). if c then Some x.1 else said_at xs t) (ne_eqb x.0 t (λ h. omega (arith, l, h, ltb-false cut x.0 y))))

-- what is true of a log that keeps all events is in the code's log, or was cut
is_logged : (net : Net) (w : World) (l : LogView) (p from b : ℕ) (runs : Known) (js : Joins) → SameLog (log_of w p) (said l) → BodyTrue net (facts_of net w p) p from b (body.Knowledge runs js) → IsLogged l.state runs js
is_logged net w l p from b runs js s h = record {
  settled = λ t n. subst (λ m. t ≤ m) (sym settled) (true_settled net (facts_of net w p) p b t (known_at runs t) (h.0.each t) n);
  events = λ t e is. elim (cases_lt l.state.cut t) [
    | inl k ↦ inr (events_are t k ∙ true_logged net (facts_of net w p) p b t (known_at runs t) e (h.0.each t) is)
    | inr k ↦ inl k
  ];
  rest = h.1.rest;
  joins = ap (λ (m : Log). m.joins) s.is ∙ h.1.front;
}
  where
    log : Log
    log = log_of w p

    settled : l.state.settled ≡ log.settled
    settled = ap (λ (m : Log). m.settled) s.is

    cut : l.state.cut ≡ log.cut
    cut = ap (λ (m : Log). m.cut) s.is

    events_are : (t : ℕ) → l.state.cut < t → said_at (pairs l.state.events) t ≡ said_at log.events t
    events_are t k =
        let below : log.cut < t = subst (λ n. n < t) cut k in
        ap (λ (m : Log). said_at m.events t) s.is
        ∙ (sym (said_past log.cut t s.events below)
        ∙ (ap (λ (xs : List (ℕ × Event)). said_at xs t) s.past_same ∙ said_past log.cut t log.events below))

-- Lanes

module _ (read : StandsRead) (w : WorldView) (lanes : ℕ → Lane) (steps : List Line) (told : List (List Report)) (f : Fits w lanes steps told) (p : ℕ) (lt : p < length w.topo.publishers) where
  -- the net of the joins so far, and the world that keeps all events
  abbrev net : Net
  net = joined_net (net_in w) steps

  abbrev kept : World
  kept = world_after (net_in w) steps

  abbrev b : ℕ
  b = host_of w.topo p

  host : b < length w.topo.brokers
  host = f.tree.host_in p lt

  log : (l : LogView) × (log_at w p ≡ Some l)
  log = hosted_log w.topo b (broker_in w b) (f.world.brokers b host) (f.world.numbered b host) p lt refl

  not_down : w.down ≢ Some b
  not_down e = none_some (sym f.sound.up ∙ e)
    where
      none_some : None ≡ Some b → ⊥
      none_some h = cc

  -- whatever pair a crash leaves holds what the log holds
  pair_reads : (x y : List ℕ) → MayLeavePair (lanes_at lanes (log_lane p)) x y → state_in w.topo.late x y ≡ Ok (let l : LogView = log.0 in l.state)
  pair_reads x y left =
      let l : LogView = log.0 in
      let stands = (f.lanes_fit.logs f.unspent p l lt not_down log.1).ready (f.sound.logs p l lt log.1) in
      subst (λ (late : List ℕ). ◌≡◌ {A = Result LogState ℕ} (state_in late x y) (Ok l.state)) ((f.world.brokers b host).late p l log.1) (read (lanes_at lanes (log_lane p)) l x y stands left)

  differ : DifferInCut kept (world_of w)
  differ = differs_in_cut w lanes steps told f

  log_same : SameLog (log_of kept p) (said log.0)
  log_same = subst (λ (m : Log). SameLog (log_of kept p) m) (log_is w p lt ∙ ap log_said log.1) (same_get kept.logs (let u : World = world_of w in u.logs) p differ.logs)

  pub holds_sent : (x y : List ℕ) → MayLeavePair (lanes_at lanes (log_lane p)) x y → HoldsSent w p x y
  holds_sent x y left = record {
    state = let l : LogView = log.0 in l.state;
    reads = pair_reads x y left;
    sent = λ k c runs js at is of_p.
        let t : FrameTrue net kept c = frame_true net kept k c (let s = stands_of w lanes steps told f in s.truth.frames) (frame_same kept (world_of w) k c differ.frames at) in
        let knows : BodyTrue net (facts_of net kept p) p c.head.from c.head.to (body.Knowledge runs js) =
        subst (λ y. BodyTrue net (facts_of net kept p) p c.head.from c.head.to y) is (subst (λ q. BodyTrue net (facts_of net kept q) q c.head.from c.head.to c.body) of_p t.told) in
        is_logged net kept log.0 p c.head.from c.head.to runs js log_same knows;
  }
