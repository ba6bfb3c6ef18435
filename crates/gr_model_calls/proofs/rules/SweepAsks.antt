-- In a sweep, the outstanding asks are those of its moment
use Rattle.std.proofs.Common.{◌≡◌, inl, inr, ℕ, ◌+◌, ◌≤◌, ◌<◌, max, true, false, ◌&&◌, refl, sym, ap, ◌∙◌, subst, arith}
use Rattle.std.specs.Prelude.{nat_le}
use Rattle.std.proofs.lemmas.Bool.{cases_eq, false≢true, le-ltb, and_right, both_ways}
use Rattle.gr_frame.specs.declared.Frame.{Frame}
use Rattle.gr_curio.specs.Values.{asked_at, is_outstanding}
use Rattle.gr_model.specs.Net.{Net}
use Rattle.gr_model.specs.Broker.{Outcome, wake, receive}
use Rattle.gr_model.specs.World.{World, view_of, log_of, absorbed, sweep_moment, deliver_frame_by, wake_for_by}
use Rattle.gr_model_calls.specs.OneNet.{wake_for, deliver_frame, sweep_for}
use Rattle.gr_model.specs.Tree.{IsNet}
use Rattle.gr_model_calls.specs.Fits.{WorldFits, FrameTrue}
use Rattle.gr_model_calls.proofs.runs.Worlds.{Each}
use Rattle.gr_model_calls.proofs.runs.Closed.{clocked, IsCallClosed, Goes, sweep_for_goes}
use Rattle.gr_model_calls.proofs.asks.AskMoments.{AllValues, AllValues-on, value_at-all, IsUpto, AsksFit, ExpectFits, KeepsAsks, Taken, absorbed_taken, wake_asks, receive_asks, wake_frames_fit, receive_frames_fit, Each-on}
use Rattle.gr_model_calls.proofs.asks.CallTicks.{sweep_is_past}
use Rattle.gr_curio.specs.declared.asks.Moment.TheVariants.{Never, At}
use Rattle.gr_curio.specs.declared.asks.Moment.{Moment}

-- an ask that is outstanding has this moment
abbrev pub IsNow : ℕ → ℕ → Moment → Type 0
IsNow m retry o = is_outstanding o m retry ≡ true → o ≡ At m

-- the clock stands at a moment, and each ask that is outstanding then has it
pub record AsksNow (net : Net) (m : ℕ) (w : World) : Type 0 where
  pub clock : w.clock ≡ m
  pub asks : (p b : ℕ) → p < net.publishers → b < net.brokers → AllValues (IsNow m net.retry) (view_of w b p).asks
  pub sent : Each (ExpectFits net) w.frames

now_none : (m retry : ℕ) → IsNow m retry Never
now_none m retry e = absurd (false≢true e)

now_now : (m retry : ℕ) → IsNow m retry (At m)
now_now m retry e = refl

-- in a sweep an outstanding ask is one of the sweep's own moment
pub asked_now : (net : Net) (m p b t : ℕ) (w : World) → AsksNow net m w → p < net.publishers → b < net.brokers → is_outstanding (asked_at (view_of w b p).asks t) m net.retry ≡ true → asked_at (view_of w b p).asks t ≡ At m
asked_now net m p b t w a i j = value_at-all Never (IsNow m net.retry) (view_of w b p).asks t (now_none m net.retry) (a.asks p b i j)

taken_now : (net : Net) (m : ℕ) (w u : World) (b p : ℕ) (o : Outcome) → b < net.brokers → p < net.publishers → Taken net w u b p o → KeepsAsks net p b w.clock (view_of w b p) o → Each (ExpectFits net) o.frames → AsksNow net m w → AsksNow net m u
taken_now net m w u b p o i j t k fits a = record {
  clock = t.clock ∙ a.clock;
  asks = λ q c x y. elim (cases_eq q p) [
    | inl e ↦ elim (cases_eq c b) [
      | inl g ↦ subst (λ z. AllValues (IsNow m net.retry) (view_of u c z).asks) (sym e) (subst (λ z. AllValues (IsNow m net.retry) (view_of u z p).asks) (sym g)
          (subst (λ v. AllValues (IsNow m net.retry) v.asks) (sym t.view) (k.all (IsNow m net.retry) (now_none m net.retry) (subst (λ z. IsNow m net.retry (At z)) (sym a.clock) (now_now m net.retry)) (a.asks p b j i))))
      | inr g ↦ subst (λ v. AllValues (IsNow m net.retry) v.asks) (sym (t.other c q g)) (a.asks q c x y)
    ]
    | inr e ↦ subst (λ v. AllValues (IsNow m net.retry) v.asks) (sym (t.other_publisher c q e)) (a.asks q c x y)
  ];
  sent = subst (Each (ExpectFits net)) (sym t.frames) (Each-on (ExpectFits net) w.frames o.frames a.sent fits);
}

wake_now : (net : Net) (m : ℕ) → IsNet net → (w : World) (b p : ℕ) → WorldFits net w → b < net.brokers → p < net.publishers → AsksNow net m w → AsksNow net m (wake_for net w b p).world
unfolding wake_for_by
wake_now net m n w b p f i j a =
    let o = wake net p b w.clock (view_of w b p) (log_of w p) in
    taken_now net m w (absorbed w b p o).world b p o i j (absorbed_taken net w b p o f i j) (wake_asks net p b w.clock (view_of w b p) (log_of w p)) (wake_frames_fit net p b w.clock (view_of w b p) (log_of w p) (λ c k. (n.place p b j i).child_not_host c k)) a

deliver_now : (net : Net) (m : ℕ) → IsNet net → (w : World) (x : Frame) → WorldFits net w → FrameTrue net w x → ExpectFits net x → AsksNow net m w → AsksNow net m (deliver_frame net w x).world
unfolding deliver_frame_by
deliver_now net m n w x f t r a =
    let o = receive net w.clock x (view_of w x.head.to x.head.publisher) (log_of w x.head.publisher) in
    taken_now net m w (absorbed w x.head.to x.head.publisher o).world x.head.to x.head.publisher o t.fits.to_in t.publisher_in (absorbed_taken net w x.head.to x.head.publisher o f t.fits.to_in t.publisher_in) (receive_asks net w.clock x (view_of w x.head.to x.head.publisher) (log_of w x.head.publisher) r)
    (receive_frames_fit net w.clock x (view_of w x.head.to x.head.publisher) (log_of w x.head.publisher) (λ c k. (n.place x.head.publisher x.head.to t.publisher_in t.fits.to_in).child_not_host c k) t.fits.body) a

-- each wake and delivery at the moment keeps it
pub now_closed : (net : Net) (m : ℕ) → IsNet net → IsCallClosed net (ExpectFits net) (AsksNow net m)
now_closed net m n = record {
  sent = λ w a. a.sent;
  woken = λ w b p f i j a. wake_now net m n w b p f i j a;
  delivered = λ w x f t r a. deliver_now net m n w x f t r a;
}

-- it holds where a sweep begins
pub sweep_begins : (net : Net) (w : World) → AsksFit net w → AsksNow net (sweep_moment net w) (clocked w (sweep_moment net w) (max (sweep_moment net w) w.most))
sweep_begins net w a = record {
  clock = refl;
  asks = λ p b i j. AllValues-on (IsUpto w.most) (IsNow m net.retry) (view_of w b p).asks old (a.upto p b i j);
  sent = a.sent;
}
  where
    m : ℕ
    m = sweep_moment net w

    not_now : (k : ℕ) → k ≤ w.most → is_outstanding (At k) m net.retry ≡ false
    not_now k l = ap (λ x. nat_le k m && x) (le-ltb m (k + net.retry) (omega (arith, l, sweep_is_past net w))) ∙ and_right (nat_le k m) false refl

    old : (v : Moment) → IsUpto w.most v → IsNow m net.retry v
    old Never l e = absurd (false≢true e)
    old (At k) l e = absurd (both_ways (is_outstanding (At k) m net.retry) (not_now k l) e)

-- and over the phases for a publisher
pub sweep_for_now : (net : Net) (m : ℕ) (w : World) (p : ℕ) → IsNet net → WorldFits net w → AsksNow net m w → p < net.publishers → Goes net (AsksNow net m) w (sweep_for net w p)
sweep_for_now net m w p n f a j = sweep_for_goes net (ExpectFits net) (AsksNow net m) w p n (now_closed net m n) f a j
