-- The wake of the host in a sweep: it sends no curiosity, tells each child of the mark, and acknowledges nothing new
use Rattle.std.proofs.Common.{◌≡◌, ◌≢◌, ℕ, suc, zero, ◌+◌, ◌≤◌, ◌<◌, Bool, true, false, List, [], ◌∷◌, length, refl, sym, ap, ◌∙◌, subst, Some, arith, le_refl}
use Rattle.std.specs.Prelude.{filter, nat_le, nat_lt, if◌then◌else◌}
use Rattle.std.proofs.lemmas.Bool.{false≢true, true≢false, eq-eqb, leb-true, both_ways}
use Rattle.gr_know.specs.declared.values.K.TheVariants.{Q, S}
use Rattle.gr_curio.specs.declared.values.Q3.{Q3}
use Rattle.gr_curio.specs.declared.values.Q3.TheVariants.{N, A}
use Rattle.gr_frame.specs.declared.Frame.{Frame}
use Rattle.gr_know.specs.Values.{Known, known_at}
use Rattle.gr_curio.specs.Values.{wanted_at}
use Rattle.gr_model.specs.Net.{Net, is_host, pass}
use Rattle.gr_model.specs.Broker.{View, Log, Outcome, learn, marking, cutting, silence, with_mark, wake, wake_host, wake_below, expect_frames}
use Rattle.gr_model.specs.World.{World, view_of, log_of, frames_past, sent_since, is_want, deliver_up_by, wake_for_by, wake_up_by}
use Rattle.gr_model_calls.specs.OneNet.{wake_for, wake_up, deliver_up}
use Rattle.gr_model.specs.Tree.{IsNet, IsPlace}
use Rattle.gr_model_calls.specs.Fits.{WorldFits, ViewTrue, LogFits, facts}
use Rattle.gr_model_calls.proofs.calls.HostCases.{marking_cases}
use Rattle.gr_model_calls.proofs.calls.CallTruth.{ViewTrue-later}
use Rattle.gr_model_calls.proofs.calls.Calls.{later_facts, silence_true, nothing_true, silence_in}
use Rattle.gr_model_calls.proofs.runs.Worlds.{Each}
use Rattle.gr_model_calls.proofs.asks.AskMoments.{Each-on, Taken, absorbed_taken}
use Rattle.gr_model_calls.proofs.rules.Forwarding.{Has, Has-front, TellsTick, LearnTicks, learn_ticks, wants_of}
use Rattle.gr_model_calls.proofs.rules.Serves.{frames_past_all}
use Rattle.gr_model_theorems.proofs.sweep.Upward.{SentBy, learn_each, expects_each}
use Rattle.gr_model_calls.proofs.calls.Held.{grows_not}
use Rattle.gr_model_theorems.proofs.sweep.SweepStates.{IsChild}

-- No curiosity goes up from the host

no_up : (net : Net) (p u : ℕ) → IsNet net → p < net.publishers → net.up p (net.host p) ≡ Some u → ⊥
no_up net p u n j e =
    let x = n.up_in p (net.host p) u j (n.host_in p j) e in
    true≢false (sym (eq-eqb (net.host p) (net.host p) refl) ∙ (n.place p u j x.0).child_not_host (net.host p) x.1)

abbrev NotUp : Frame → Type 0
NotUp f = is_want f ≡ false

not_up : (net : Net) (p : ℕ) → IsNet net → p < net.publishers → SentBy net p (net.host p) NotUp
not_up net p n j = record {
  know = λ c part js. refl;
  want = λ u part e. absurd (no_up net p u n j e);
  expect = λ c tick. refl;
}

marking_each : (net : Net) (p b now : ℕ) (v : View) (log : Log) → SentBy net p b NotUp → Each NotUp (marking net p b now v log).frames
marking_each net p b now v log s = marking_cases net p b now v log (λ o. Each NotUp o.frames) (λ e. learn_each net p b NotUp (silence (suc log.settled) now []) v (with_mark log now) s) (λ e. tt)

wake_each : (net : Net) (p b now : ℕ) (v : View) (log : Log) → is_host net p b ≡ true → SentBy net p b NotUp → Each NotUp (wake net p b now v log).frames
unfolding wake wake_host
wake_each net p b now v log host s = go (is_host net p b) host
  where
    o : Outcome
    o = marking net p b now v log

    more : (q : Bool) (tick : ℕ) → Each NotUp (if q then expect_frames p b tick (net.children p b) o.view.wants else [])
    more true tick = expects_each net p b tick NotUp (net.children p b) o.view.wants s
    more false tick = tt

    go : (q : Bool) → q ≡ true → Each NotUp (let u : Outcome = elim q [ true ↦ wake_host net p b now v log | false ↦ wake_below net p b now v log ] in u.frames)
    go false e = absurd (false≢true e)
    go true e = Each-on NotUp o.frames _ (marking_each net p b now v log s) (more (nat_lt 0 (cutting net p b o.view o.log).settled) (cutting net p b o.view o.log).settled)

none_left : (fs : List Frame) → Each NotUp fs → filter is_want fs ≡ []
none_left [] a = refl
none_left (x ∷ xs) a = rw a.0 (none_left xs a.1)

deliver_none : (net : Net) (fuel : ℕ) (w : World) → (deliver_up net fuel [] w).world ≡ w
unfolding deliver_up_by
deliver_none net zero w = refl
deliver_none net (suc fuel) w = refl

-- a wake changes the one view, and the one log, that it is of
pub woken_taken : (net : Net) (w : World) (b p : ℕ) → WorldFits net w → b < net.brokers → p < net.publishers → Taken net w (wake_for net w b p).world b p (wake net p b w.clock (view_of w b p) (log_of w p))
unfolding wake_for_by
woken_taken net w b p f i j = absorbed_taken net w b p (wake net p b w.clock (view_of w b p) (log_of w p)) f i j

-- so nothing more is delivered
pub host_alone : (net : Net) (p : ℕ) (w : World) → IsNet net → p < net.publishers → WorldFits net w → (wake_up net p w (net.host p)).world ≡ (wake_for net w (net.host p) p).world
unfolding wake_up_by
host_alone net p w n j f =
    let b = net.host p in
    let y = (wake_for net w b p).world in
    let o = wake net p b w.clock (view_of w b p) (log_of w p) in
    let since : sent_since w y ≡ o.frames = ap (frames_past (length w.frames)) (woken_taken net w b p f (n.host_in p j) j).frames ∙ frames_past_all w.frames o.frames in
    let none : filter is_want (sent_since w y) ≡ [] = ap (filter is_want) since ∙ none_left o.frames (wake_each net p b w.clock (view_of w b p) (log_of w p) (eq-eqb b b refl) (not_up net p n j)) in
    ap (λ fs. (deliver_up net net.brokers fs y).world) none ∙ deliver_none net net.brokers y

-- The mark

-- the host tells each child of the silence up to the mark, and no child acknowledges more
pub record TellsMark (net : Net) (p b now : ℕ) (v : View) (log : Log) (o : Outcome) : Type 0 where
  pub tells : (c t : ℕ) → IsChild net p b c → log.settled < t → t ≤ now → known_at v.know t ≡ Q → wanted_at (wants_of net p b v c) t ≢ A → Has (TellsTick p b c t S) o.frames
  pub plain : (c t : ℕ) → IsChild net p b c → wanted_at (wants_of net p b o.view c) t ≡ A → wanted_at (wants_of net p b v c) t ≡ A

quench_A : (q : Bool) (a : Q3) → (if q then N else a) ≡ A → a ≡ A
quench_A true a h = cc
quench_A false a h = h

S_not_Q : S ≡ Q → ⊥
S_not_Q e = cc

marking_tells : (net : Net) (p b now : ℕ) (v : View) (log : Log) (reached : ℕ → ℕ) → IsPlace net p b → LogFits log → ViewTrue net (facts log reached) p b v → nat_le (log.settled + net.quiet) now ≡ true → TellsMark net p b now v log (marking net p b now v log)
marking_tells net p b now v log reached place fit h long = marking_cases net p b now v log (TellsMark net p b now v log) (λ e. marked) (λ e. absurd (both_ways (nat_le (log.settled + net.quiet) now) e long))
  where
    new : Log
    new = with_mark log now

    piece : Known
    piece = silence (suc log.settled) now []

    o : Outcome
    o = learn net p b piece v new

    upto : log.settled ≤ now
    upto = omega (arith, leb-true (log.settled + net.quiet) now long)

    k : LearnTicks net p b piece v o
    k = learn_ticks net (facts new reached) p b piece v new place
        (ViewTrue-later net (facts log reached) (facts new reached) p b v (later_facts log new reached reached upto (λ t x. refl) (λ s. le_refl (reached s)) (grows_not log.joins log.settled)) h)
        (silence_true net (facts new reached) p b (suc log.settled) now [] (omega arith) (le_refl now) (λ t x y. fit.past t x) (nothing_true net (facts new reached) p b) tt tt)

    marked : TellsMark net p b now v log o
    marked = record {
      tells = λ c t m l u q a.
          let s : known_at piece t ≡ S = silence_in (suc log.settled) now [] t l u in
          subst (λ z. Has (TellsTick p b c t z) o.frames) (ap (pass net p c t) s) (k.forwarded c t m q (λ z. S_not_Q (sym s ∙ z)) a);
      plain = λ c t m a. quench_A _ (wanted_at (wants_of net p b v c) t) (sym (k.wants c t m) ∙ a);
    }

-- a host that was quiet for long tells each child of the silence up to its mark
pub host_tells : (net : Net) (p b now : ℕ) (v : View) (log : Log) (reached : ℕ → ℕ) → IsPlace net p b → is_host net p b ≡ true → LogFits log → ViewTrue net (facts log reached) p b v → nat_le (log.settled + net.quiet) now ≡ true → TellsMark net p b now v log (wake net p b now v log)
unfolding wake wake_host
host_tells net p b now v log reached place host fit h long = go (is_host net p b) host
  where
    o : Outcome
    o = marking net p b now v log

    k : TellsMark net p b now v log o
    k = marking_tells net p b now v log reached place fit h long

    go : (q : Bool) → q ≡ true → TellsMark net p b now v log (elim q [ true ↦ wake_host net p b now v log | false ↦ wake_below net p b now v log ])
    go false e = absurd (false≢true e)
    go true e = record {
      tells = λ c t m l u q a. Has-front (TellsTick p b c t S) o.frames _ (k.tells c t m l u q a);
      plain = k.plain;
    }
