-- A sweep settles everything, where each publisher in turn is calm after the second phase of its sweep: later sweeps take nothing of it back
use Rattle.std.proofs.Common.{◌≡◌, ◌≢◌, ◌⊎◌, inl, inr, ⊎_elim, ℕ, suc, zero, ◌+◌, ◌≤◌, ◌<◌, max, Bool, true, false, not, ◌&&◌, List, [], ◌∷◌, ◌++◌, map, length, refl, sym, ap, ◌∙◌, subst, arith, le_refl, le_trans}
use Rattle.std.specs.Prelude.{nat_eq, nat_lt, filter, if◌then◌else◌, Contains}
use Rattle.std.proofs.lemmas.Bool.{cases_Bool, cases_eq, cases_lt, false≢true, or_cases, or_left, eqb-true}
use Rattle.std.proofs.lemmas.List.Elements.{Contains-append_left}
use Rattle.gr_frame.specs.declared.Frame.{Frame}
use Rattle.gr_model.specs.declared.report.Report.{Report}
use Rattle.gr_model.specs.declared.report.Report.TheVariants as line
use Rattle.gr_model.specs.Net.{Net, keeps_horizon, is_empty, not_empty, numbers, numbers_from}
use Rattle.gr_model.specs.Broker.{Outcome, wake, receive, max_tick}
use Rattle.gr_model.specs.World.{World, Transition, view_of, log_of, absorbed, unchanged, followed_by, in_turn, frame_at, sweep_moment, deliver_frame_by, sweep_for_by, wake_for_by}
use Rattle.gr_model_calls.specs.OneNet.{sweep_for, sweep}
use Rattle.gr_model.specs.Headline.{is_record_line, last_cut, last_horizon}
use Rattle.gr_model_theorems.specs.Settles.{all_made, calls_in_turn, sweep_calls_for, sweep_calls, at_sweep, sent_past, times, is_expect, SweepSettles}
use Rattle.gr_model.specs.Tree.{IsNet, IsSubscriber}
use Rattle.gr_model_calls.specs.Fits.{WorldFits, LinesFit, reached_in}
use Rattle.gr_model_calls.proofs.calls.Calls.{wake_call, receive_call}
use Rattle.gr_model_theorems.proofs.cuts.Cutlines.{CallCuts, wake_cuts, receive_cuts, last_cut-append}
use Rattle.gr_model_calls.proofs.calls.Telling.{last_horizon-append}
use Rattle.gr_model_theorems.proofs.records.Records.{core_of}
use Rattle.gr_model_theorems.proofs.records.Recorded.{Sweeps, sweeps_from, marked_now, settled_below}
use Rattle.gr_model_theorems.proofs.records.RecordLines.{sweeps_recs}
use Rattle.gr_model_calls.proofs.runs.Worlds.{held_by_host, Each, Kept, absorbed_changed, sweep_for_kept, reached_here, numbers_below}
use Rattle.gr_model_calls.proofs.runs.Chains.{Chains, in_turn_both, sweep_for_chain}
use Rattle.gr_model_calls.proofs.runs.Schedules.{clocked_fits, sweep_kept}
use Rattle.gr_model_theorems.proofs.cuts.Orders.{Ordered, has_one}
use Rattle.gr_model_theorems.proofs.cuts.Ordering.{sweep_orders}
use Rattle.gr_model_theorems.proofs.sweep.SweepStates.{Calm, second_phase}
use Rattle.gr_model_theorems.proofs.sweep.ThirdPhase.{Still, third_phase_cuts}
use Rattle.gr_model_theorems.proofs.sweep.Rounds.{stands, stands_numbers}
use Rattle.gr_model_theorems.proofs.sweep.SweepCalls.{Grows, grows_long, all_made_grows, sweep_for_are, sweeps_are, sweep_is_calls, sweep_sent}
use Rattle.gr_model_theorems.proofs.sweep.SweepNumbers.{count, count-append, sent_split, sent_none, sent_once, sent_never, sent_not_before}
use Rattle.gr_model_theorems.proofs.sweep.SweepOnce.{is_due, in_turn_grows, sweep_for_once}

-- each publisher in turn is calm after the second phase of its sweep
abbrev pub CalmTurns : Net → ℕ → List ℕ → World → Type 0
CalmTurns net m [] w = Unit {0}
CalmTurns net m (p ∷ ps) w = Calm net p m (length w.frames) (second_phase net w p) × CalmTurns net m ps (sweep_for net w p).world

-- Horizons and cuts only rise

record Rises (net : Net) (p : ℕ) (w : World) (t : Transition) : Type 0 where
  horizon : (b : ℕ) → b < net.brokers → (view_of w b p).horizon ≤ (view_of t.world b p).horizon
  cut : (log_of w p).cut ≤ (log_of t.world p).cut

call_rises : (net : Net) (p : ℕ) (w : World) (b q : ℕ) (o : Outcome) → WorldFits net w → b < net.brokers → q < net.publishers → (view_of w b q).horizon ≤ o.view.horizon → CallCuts net q b (log_of w q) o → Rises net p w (absorbed w b q o)
call_rises net p w b q o f i j rise cuts =
    let u = (absorbed w b q o).world in
    let c = absorbed_changed net w b q o f i j in
    let cut : (log_of w q).cut ≤ o.log.cut = ⊎_elim (λ x. omega (arith, x.1)) (λ x. omega (arith, x.more)) cuts.here in
    elim (cases_eq p q) [
      | inr e ↦ record {
        horizon = λ a x. omega (arith, ap (λ v. v.horizon) (c.other_publisher a p e));
        cut = omega (arith, ap (λ l. l.cut) (c.other_log p e));
      }
      | inl e ↦ subst (λ z. Rises net z w (absorbed w b q o)) (sym e) (record {
        horizon = λ a x. elim (cases_eq a b) [
          | inl g ↦ subst (λ z. (view_of w z q).horizon ≤ (view_of u z q).horizon) (sym g) (omega (arith, rise, ap (λ v. v.horizon) c.view))
          | inr g ↦ omega (arith, ap (λ v. v.horizon) (c.other_broker a q g))
        ];
        cut = omega (arith, cut, ap (λ l. l.cut) c.log);
      })
    ]

rises_chain : (net : Net) (p : ℕ) → IsNet net → Chains net (Rises net p)
unfolding wake_for_by deliver_frame_by
rises_chain net p n = record {
  nil = λ w f. record { horizon = λ b i. le_refl (view_of w b p).horizon; cut = le_refl (log_of w p).cut };
  seq = λ w t f g k a x b. record { horizon = λ c i. le_trans (a.horizon c i) (b.horizon c i); cut = le_trans a.cut b.cut };
  wake = λ w b q f i j. call_rises net p w b q (wake net q b w.clock (view_of w b q) (log_of w q)) f i j (wake_call net q b w.clock (view_of w b q) (log_of w q) (reached_in net w q) n j i (f.logs q j) (f.views q b j i) (held_by_host net w b q f j)).horizon (wake_cuts net q b w.clock (view_of w b q) (log_of w q) (f.logs q j).keeps);
  deliver = λ w x f t. call_rises net p w x.head.to x.head.publisher (receive net w.clock x (view_of w x.head.to x.head.publisher) (log_of w x.head.publisher)) f t.fits.to_in t.publisher_in
      (receive_call net w.clock x (view_of w x.head.to x.head.publisher) (log_of w x.head.publisher) (reached_in net w x.head.publisher) n t.publisher_in t.fits t.told (f.logs x.head.publisher t.publisher_in) (f.views x.head.publisher x.head.to t.publisher_in t.fits.to_in)).horizon
      (receive_cuts net w.clock x (view_of w x.head.to x.head.publisher) (log_of w x.head.publisher));
}

rises_over : (net : Net) (p : ℕ) (ps : List ℕ) (w : World) → IsNet net → WorldFits net w → Each (λ q. q < net.publishers) ps → Rises net p w (in_turn (sweep_for net) ps w)
rises_over net p ps w n f a = (in_turn_both net (Rises net p) (λ x q. q < net.publishers) (sweep_for net) (rises_chain net p n) (λ x y q l h. h) (λ x q g h. sweep_for_chain net (Rises net p) x q (rises_chain net p n) n g h) ps w f a).holds

-- One publisher after another

still_for : (net : Net) (p m : ℕ) (w : World) → IsNet net → 1 ≤ net.quiet → 1 ≤ net.retry → p < net.publishers → Calm net p m (length w.frames) (second_phase net w p) → Still net p m (second_phase net w p) (sweep_for net w p).world
unfolding sweep_for_by
still_for net p m w n z r j c = third_phase_cuts net p m (length w.frames) (second_phase net w p) n z r j c

-- what a publisher's sweep reaches, the later ones keep
record HasReached (net : Net) (p m : ℕ) (w : World) : Type 0 where
  horizon : (b : ℕ) → b < net.brokers → keeps_horizon net p b ≡ true → m ≤ (view_of w b p).horizon
  cut : m ≤ (log_of w p).cut

turns_reach : (net : Net) (m : ℕ) (ps : List ℕ) (w : World) (p : ℕ) → IsNet net → 1 ≤ net.quiet → 1 ≤ net.retry → WorldFits net w → Each (λ q. q < net.publishers) ps → CalmTurns net m ps w → stands ps p ≡ true → HasReached net p m (in_turn (sweep_for net) ps w).world
turns_reach net m [] w p n z r f a c s = absurd (false≢true s)
turns_reach net m (q ∷ ps) w p n z r f a c s =
    let y = (sweep_for net w q).world in
    let g = (sweep_for_kept net w q n f a.0).fits in
    ⊎_elim
    (λ e.
    let t = still_for net q m w n z r a.0 c.0 in
    let on = rises_over net q ps y n g a.1 in
    subst (λ x. HasReached net x m (in_turn (sweep_for net) ps y).world) (eqb-true q p e) (record { horizon = λ b i k. omega (arith, t.reached b i k, on.horizon b i); cut = omega (arith, t.cut, on.cut) }))
    (λ e. turns_reach net m ps y p n z r g a.1 c.1 e)
    (or_cases (nat_eq q p) (stands ps p) s)

sweep_for_grows : (net : Net) (w : World) (p : ℕ) → Grows w (sweep_for net w p).world
sweep_for_grows net w p = subst (λ t. Grows w t.world) (sweep_for_are net w p) (all_made_grows net (sweep_calls_for net w p) w)

turn_once : (net : Net) (k p m : ℕ) (w : World) → IsNet net → 1 ≤ net.quiet → 1 ≤ net.retry → WorldFits net w → p < net.publishers → Calm net p m (length w.frames) (second_phase net w p) → count k (sweep_calls_for net w p) ≡ times k (sent_past is_due (length w.frames) (sweep_for net w p).world)
turn_once net k p m w n z r f j c = let t = third_phase_cuts net p m (length w.frames) (second_phase net w p) n z r j c in sweep_for_once net k p w n f j (record { more = t.more; frames = t.frames; each = t.none_told })

-- each frame that the sweeps send, but an Expect, is delivered once
turns_once : (net : Net) (k m : ℕ) (ps : List ℕ) (w : World) → IsNet net → 1 ≤ net.quiet → 1 ≤ net.retry → WorldFits net w → Each (λ q. q < net.publishers) ps → CalmTurns net m ps w → count k (calls_in_turn net (sweep_calls_for net) ps w) ≡ times k (sent_past is_due (length w.frames) (in_turn (sweep_for net) ps w).world)
turns_once net k m [] w n z r f a c = ap (times k) (sym (sent_none is_due w))
turns_once net k m (p ∷ ps) w n z r f a c =
    let y = (sweep_for net w p).world in
    let v = (in_turn (sweep_for net) ps y).world in
    let rest = turns_once net k m ps y n z r (sweep_for_kept net w p n f a.0).fits a.1 c.1 in
    let rest1 : count k (calls_in_turn net (sweep_calls_for net) ps (all_made net (sweep_calls_for net w p) w).world) ≡ times k (sent_past is_due (length y.frames) v) = subst (λ s. count k (calls_in_turn net (sweep_calls_for net) ps s.world) ≡ times k (sent_past is_due (length y.frames) v)) (sym (sweep_for_are net w p)) rest in
    omega (
      arith,
      count-append k (sweep_calls_for net w p) (calls_in_turn net (sweep_calls_for net) ps (all_made net (sweep_calls_for net w p) w).world),
      turn_once net k p m w n z r f a.0 c.0,
      rest1,
      sent_split k is_due (length w.frames) y v (grows_long w y (length w.frames) (sweep_for_grows net w p) (omega arith)) (in_turn_grows (sweep_for net) (sweep_for_grows net) ps y),
    )

-- Lines

-- the last cut line of some lines is the same whatever stood before, or they have none
cut_kind : (p : ℕ) (ls : List Report) → ((a : ℕ) → last_cut p a ls ≡ a) ⊎ ((a b : ℕ) → last_cut p a ls ≡ last_cut p b ls)
cut_kind p [] = inl (λ a. refl)
cut_kind p (line.Cut q t ∷ ls) =
    elim (cases_Bool (nat_eq q p)) [
      | inl e ↦ inr (λ a b. ap (λ c. last_cut p (if c then t else a) ls) e ∙ ap (λ c. last_cut p (if c then t else b) ls) (sym e))
      | inr e ↦ ⊎_elim
          (λ h. inl (λ a. ap (λ c. last_cut p (if c then t else a) ls) e ∙ h a))
          (λ h. inr (λ a b. h (if nat_eq q p then t else a) (if nat_eq q p then t else b)))
          (cut_kind p ls)
    ]
cut_kind p (l ∷ ls) = cut_kind p ls

cut_own : (p a m : ℕ) (ls : List Report) → last_cut p a ls ≡ m → a ≢ m → last_cut p 0 ls ≡ m
cut_own p a m ls e n = ⊎_elim (λ h. absurd (n (sym (h a) ∙ e))) (λ h. h 0 a ∙ e) (cut_kind p ls)

horizon_kind : (s p : ℕ) (ls : List Report) → ((a : ℕ) → last_horizon s p a ls ≡ a) ⊎ ((a b : ℕ) → last_horizon s p a ls ≡ last_horizon s p b ls)
horizon_kind s p [] = inl (λ a. refl)
horizon_kind s p (line.Horizon r q t ∷ ls) =
    elim (cases_Bool (nat_eq r s && nat_eq q p)) [
      | inl e ↦ inr (λ a b. ap (λ c. last_horizon s p (if c then t else a) ls) e ∙ ap (λ c. last_horizon s p (if c then t else b) ls) (sym e))
      | inr e ↦ ⊎_elim
          (λ h. inl (λ a. ap (λ c. last_horizon s p (if c then t else a) ls) e ∙ h a))
          (λ h. inr (λ a b. h (if nat_eq r s && nat_eq q p then t else a) (if nat_eq r s && nat_eq q p then t else b)))
          (horizon_kind s p ls)
    ]
horizon_kind s p (l ∷ ls) = horizon_kind s p ls

horizon_own : (s p a m : ℕ) (ls : List Report) → last_horizon s p a ls ≡ m → a ≢ m → last_horizon s p 0 ls ≡ m
horizon_own s p a m ls e n = ⊎_elim (λ h. absurd (n (sym (h a) ∙ e))) (λ h. h 0 a ∙ e) (horizon_kind s p ls)

past_one : {X : Type 0} (y x : X) (xs : List X) → Contains xs x → Contains (y ∷ xs) x
past_one y x xs c = (suc c.0, omega (arith, c.1), c.2)

kept_contains : {X : Type 0} (test : X → Bool) (xs : List X) (x : X) → Contains (filter test xs) x → Contains xs x
kept_contains test [] x c = c
kept_contains test (y ∷ xs) x c = go (test y) (λ d. kept_contains test xs x d) c
  where
    go : (q : Bool) → (Contains (filter test xs) x → Contains xs x) → Contains (if q then y ∷ filter test xs else filter test xs) x → Contains (y ∷ xs) x
    go false rest c = past_one y x xs (rest c)
    go true rest (zero, l, e) = (0, omega arith, e)
    go true rest (suc k, l, e) = past_one y x xs (rest (k, omega (arith, l), e))

mark_in : (c p a n : ℕ) → a ≤ p → p < a + n → Contains (map (λ q. line.Mark q c) (numbers_from a n)) (line.Mark p c)
mark_in c p a zero l h = absurd (omega (arith, l, h))
mark_in c p a (suc n) l h =
    elim (cases_eq a p) [
      | inl e ↦ (0, omega arith, ap (λ q. line.Mark q c) e)
      | inr e ↦ past_one (line.Mark a c) (line.Mark p c) (map (λ q. line.Mark q c) (numbers_from (suc a) n)) (mark_in c p (suc a) n (omega (arith, l, e)) (omega (arith, h)))
    ]

is_not_due : (f : Frame) → is_expect f ≡ true → is_due f ≡ false
is_not_due f e = ap not e

not_expect : (f : Frame) → is_expect f ≡ false → is_due f ≡ true
not_expect f e = ap not e

-- a broker with a subscriber keeps horizons
pub keeps_at_subscriber : (net : Net) (p s : ℕ) → IsSubscriber net s → keeps_horizon net p (net.at s) ≡ true
keeps_at_subscriber net p s y = or_left (not_empty (net.subscribers_at (net.at s))) (is_empty (net.children p (net.at s))) (has_one (net.subscribers_at (net.at s)) s y.here)

-- where each publisher in turn is calm, the sweep settles everything
pub settles_where_calm : (net : Net) (w : World) (k : ℕ) (found : ℕ → ℕ) (before : List Report) → IsNet net → 1 ≤ net.quiet → 1 ≤ net.retry → WorldFits net w → LinesFit net w before → Ordered net found w before → nat_lt max_tick (sweep_moment net w) ≡ false → CalmTurns net (sweep_moment net w) (numbers net.publishers) (at_sweep net w) → SweepSettles net w k
unfolding sweep_calls
settles_where_calm net w k found before n z r f lf of ok calm = record {
  horizons = horizons;
  settled = settled;
  cut = cut;
  calls = sweep_is_calls net w k ok;
  sent = sweep_sent net w;
  once = λ i x l e d. counted i ∙ sent_once (length w.frames) i is_due v x l (ap (λ t. frame_at t.world i) (sym is) ∙ e) (not_expect x d);
  none_before = λ i l. counted i ∙ sent_not_before (length w.frames) i is_due v l;
  no_expect = λ i x e d. elim (cases_lt (length w.frames) i) [
    | inl l ↦ counted i ∙ sent_never (length w.frames) i is_due v x l (ap (λ t. frame_at t.world i) (sym is) ∙ e) (is_not_due x d)
    | inr l ↦ counted i ∙ sent_not_before (length w.frames) i is_due v l
  ];
  marked = λ p j. subst (λ t. Contains t.lines (line.Mark p m)) (sym is) (Contains-append_left swept.lines (line.Swept m ∷ []) (line.Mark p m) (kept_contains is_record_line swept.lines (line.Mark p m)
      (subst (λ ls. Contains ls (line.Mark p m)) (sym (sweeps_recs net u 0 net.publishers n z g (omega arith) (λ q x y. settled_below net w q f (omega (arith, y))))) (mark_in m p 0 net.publishers (omega arith) (omega (arith, j))))));
  last_cuts = λ p j. cut_own p (last_cut p (found p) before) m (sweep net w k).lines (sym (last_cut-append p (found p) before (sweep net w k).lines) ∙ (ordered.last p j ∙ cut p j)) (λ e. omega (arith, e, of.last p j, (f.logs p j).cut, settled_below net w p f j, z));
  last_horizons = λ s p i j.
      let y = n.subscriber s i in
      horizon_own s p (last_horizon s p 0 before) m (sweep net w k).lines
      (sym (last_horizon-append s p 0 before (sweep net w k).lines) ∙ ((kept.lines before lf).horizon p s j y ∙ (reached_here net (sweep net w k).world p s y ∙ horizons p (net.at s) j y.at_in (keeps_at_subscriber net p s y))))
      (λ e. omega (arith, e, lf.horizon p s j y, reached_here net w p s y, (f.views p (net.at s) j y.at_in).horizon.settled, settled_below net w p f j, z));
}
  where
    m : ℕ
    m = sweep_moment net w

    u : World
    u = at_sweep net w

    g : WorldFits net u
    g = clocked_fits net w m (max m w.most) f

    ins : Each (λ q. q < net.publishers) (numbers net.publishers)
    ins = numbers_below 0 net.publishers net.publishers (omega arith)

    swept : Transition
    swept = in_turn (sweep_for net) (numbers net.publishers) u

    v : World
    v = swept.world

    is : sweep net w k ≡ followed_by swept (λ x. unchanged x (line.Swept m ∷ []))
    is = sweep_is_calls net w k ok ∙ ap (λ (t : Transition). followed_by t (λ x. unchanged x (line.Swept m ∷ []))) (sweeps_are net (numbers net.publishers) u)

    counted : (i : ℕ) → count i (calls_in_turn net (sweep_calls_for net) (numbers net.publishers) u) ≡ times i (sent_past is_due (length w.frames) v)
    counted i = turns_once net i m (numbers net.publishers) u n z r g ins calm

    all : Sweeps net u v 0 net.publishers
    all = sweeps_from net u 0 net.publishers n z g (omega arith)

    kept : Kept net w (sweep net w k)
    kept = sweep_kept net w k n f

    ordered : Ordered net found (sweep net w k).world (before ++ (sweep net w k).lines)
    ordered = sweep_orders net w k n f found before lf of

    settled : (p : ℕ) → p < net.publishers → (log_of (sweep net w k).world p).settled ≡ m
    settled p j = ap (λ t. (log_of t.world p).settled) is ∙ ap (λ c. c.settled) (all.inside p (omega arith) (omega (arith, j)) ∙ marked_now net m (core_of w p) (settled_below net w p f j))

    reach : (p : ℕ) → p < net.publishers → HasReached net p m (sweep net w k).world
    reach p j = subst (λ t. HasReached net p m t.world) (sym is) (turns_reach net m (numbers net.publishers) u p n z r g ins calm (stands_numbers 0 net.publishers p (omega arith) (omega (arith, j))))

    horizons : (p b : ℕ) → p < net.publishers → b < net.brokers → keeps_horizon net p b ≡ true → (view_of (sweep net w k).world b p).horizon ≡ m
    horizons p b j i keeps = omega (arith, (reach p j).horizon b i keeps, (kept.fits.views p b j i).horizon.settled, settled p j)

    cut : (p : ℕ) → p < net.publishers → (log_of (sweep net w k).world p).cut ≡ m
    cut p j = omega (arith, (reach p j).cut, (kept.fits.logs p j).cut, settled p j)
