-- What stands after each step of every schedule, and what it says of the lines so far: delivered exactly, horizons rise, discarded only after delivery
use Rattle.std.proofs.lemmas.List.Elements.{filter-append}
use Rattle.gr_frame.specs.declared.Frame.{Frame}
use Rattle.std.proofs.Common.{◌≡◌, zero, suc, length, arith, ℕ, ◌≤◌, ◌<◌, true, false, ◌&&◌, ap, get_or, List, [], ◌∷◌, ◌++◌, refl, sym, ap₂, ◌∙◌, subst, Bool}
use Rattle.std.specs.Prelude.{filter, slice_index_or, Contains, nat_eq, if◌then◌else◌}
use Rattle.std.proofs.lemmas.Bool.{eqb-true, eq-eqb}
use Rattle.gr_sched.specs.declared.step.Line.{Line}
use Rattle.gr_model.specs.declared.report.Report.{Report}
use Rattle.gr_model.specs.declared.report.Report.TheVariants as line
use Rattle.gr_model.specs.Net.{keeps_horizon, Net, is_host}
use Rattle.gr_model.specs.World.{sent_lines, World, view_of, log_of, start, start_by, run_from_by}
use Rattle.gr_model_calls.specs.OneNet.{next, run_all, run_from, history_of}
use Rattle.gr_model.specs.Headline.{GetsExactly, unlogged_after, InOrder, History, history, reopened_cut, record_of, history_after, begin, last_horizon, may_crash, HorizonsRise, sent_count, is_sent}
use Rattle.gr_model_theorems.proofs.records.RecordLines.{sent_lines-append}
use Rattle.gr_model_theorems.proofs.records.RecordSteps.{step_sends}
use Rattle.gr_model_calls.proofs.calls.Telling.{steady_rises}
use Rattle.gr_model_calls.specs.Said.{due_upto}
use Rattle.gr_model.specs.Tree.{IsNet, IsSubscriber}
use Rattle.gr_model_calls.specs.Fits.{WorldFits, LinesFit, StepIn, StepsIn}
use Rattle.gr_model_theorems.specs.Order.{CutsInOrder}
use Rattle.gr_model_theorems.proofs.records.Records.{core_of}
use Rattle.gr_model_theorems.proofs.records.Recorded.{RecordsFit, record_core, next_records, begin_fits, begin_lines, after_lines}
use Rattle.gr_model_theorems.proofs.records.Stored.{StoredFit, next_stored, start_stored}
use Rattle.gr_model_calls.proofs.runs.Schedules.{start_is, start_log, next_kept, start_fits, start_lines}
use Rattle.gr_model_theorems.proofs.cuts.Cutlines.{CutsHave, CutsHave-at}
use Rattle.gr_model_theorems.proofs.cuts.Orders.{CutFits, Ordered}
use Rattle.gr_model_theorems.proofs.cuts.Ordering.{next_orders}
use Rattle.gr_model_theorems.proofs.cuts.CutOrder.{got_in, said_listed, start_ordered}
use Rattle.gr_model_theorems.proofs.hosts.BareHosts.{Unlogged, bare_horizon, host_horizon, started_horizon}
use Rattle.gr_model_theorems.proofs.sweep.SweepHosts.{step_bare}
use Rattle.gr_model_calls.proofs.asks.AskMoments.{ExpectFits, AsksFit, asks_closed, start_asks}
use Rattle.gr_model_calls.proofs.runs.Closed.{next_holds}
use Rattle.std.proofs.lemmas.List.{get_or-replicate, length-replicate}
use Rattle.gr_model.specs.Broker.{empty_log}
use Rattle.gr_model_theorems.proofs.records.NamedLines.{Named, Named-append, Named-map, IsShown, step_named}

-- no matter what a doubt line says
abbrev pub Any : ℕ → ℕ → ℕ → Type 0
Any b p t = Unit {0}

-- a world and the history of the steps to it
pub record Stands (net : Net) (w : World) (h : History) : Type 0 where
  pub fits : WorldFits net w
  pub records : RecordsFit net w h
  pub lines : LinesFit net w h.lines
  pub ordered : Ordered net (reopened_cut h) w h.lines
  pub sent : filter is_sent h.lines ≡ sent_lines 1 w.frames
  pub named : Named net Any h.lines
  pub unlogged : Unlogged net w h.unlogged
  pub asks : AsksFit net w
  pub stored : StoredFit net w h.stored

-- each sent frame has one line
pub lines_long : (n : ℕ) (fs : List Frame) → length (sent_lines n fs) ≡ length fs
lines_long n [] = refl
lines_long n (f ∷ fs) = ap suc (lines_long (suc n) fs)

-- as many frames as sent lines
pub sent_count_is : (net : Net) (w : World) (h : History) → Stands net w h → sent_count h.lines ≡ length w.frames
sent_count_is net w h k = ap length k.sent ∙ lines_long 1 w.frames

-- at a split of the lines
rise_at : (s p n m : ℕ) (xs ys : List Report) → HorizonsRise s p m (xs ++ line.Horizon s p n ∷ ys) → last_horizon s p m xs < n
rise_at s p n m [] ys a = a.0 (ap₂ (λ x y. x && y) (eq-eqb s s refl) (eq-eqb p p refl))
rise_at s p n m (line.Horizon r q t ∷ xs) ys a = rise_at s p n (if nat_eq r s && nat_eq q p then t else m) xs ys a.1
rise_at s p n m (l ∷ xs) ys a = rise_at s p n m xs ys a

-- the place of an element in a list
pub record IsSplit {X : Type 0} (xs : List X) (x : X) : Type 0 where
  pub front : List X
  pub back : List X
  pub is : xs ≡ front ++ x ∷ back

-- an element that stands in a list splits it
pub split_from : {X : Type 0} (xs : List X) (x : X) (k : ℕ) → k < length xs → slice_index_or xs k x ≡ x → IsSplit xs x
split_from [] x k h e = absurd (omega arith)
split_from (y ∷ ys) x zero h e = record { front = []; back = ys; is = ap (λ z. z ∷ ys) e }
split_from {X} (y ∷ ys) x (suc k) h e = let s = split_from ys x k (omega arith) e in record { front = y ∷ s.front; back = s.back; is = ap (λ (z : List X). y ∷ z) s.is }

named_cut : (net : Net) (G : ℕ → ℕ → ℕ → Type 0) (p t : ℕ) (xs ys : List Report) → Named net G (xs ++ line.Cut p t ∷ ys) → p < net.publishers
named_cut net G p t [] ys a = a.0
named_cut net G p t (line.Cut q u ∷ xs) ys a = named_cut net G p t xs ys a.1
named_cut net G p t (line.Horizon s q u ∷ xs) ys a = named_cut net G p t xs ys a.1
named_cut net G p t (line.Doubt b q u ∷ xs) ys a = named_cut net G p t xs ys a.1
named_cut net G p t (l ∷ xs) ys a = named_cut net G p t xs ys a

named_horizon : (net : Net) (G : ℕ → ℕ → ℕ → Type 0) (s p t : ℕ) (xs ys : List Report) → Named net G (xs ++ line.Horizon s p t ∷ ys) → IsSubscriber net s × (p < net.publishers)
named_horizon net G s p t [] ys a = a.0
named_horizon net G s p t (line.Cut q u ∷ xs) ys a = named_horizon net G s p t xs ys a.1
named_horizon net G s p t (line.Horizon r q u ∷ xs) ys a = named_horizon net G s p t xs ys a.1
named_horizon net G s p t (line.Doubt b q u ∷ xs) ys a = named_horizon net G s p t xs ys a.1
named_horizon net G s p t (l ∷ xs) ys a = named_horizon net G s p t xs ys a

-- a doubt line among named lines is as it should be
pub named_doubt : (net : Net) (G : ℕ → ℕ → ℕ → Type 0) (b p t : ℕ) (xs ys : List Report) → Named net G (xs ++ line.Doubt b p t ∷ ys) → G b p t
named_doubt net G b p t [] ys a = a.0
named_doubt net G b p t (line.Cut q u ∷ xs) ys a = named_doubt net G b p t xs ys a.1
named_doubt net G b p t (line.Horizon r q u ∷ xs) ys a = named_doubt net G b p t xs ys a.1
named_doubt net G b p t (line.Doubt c q u ∷ xs) ys a = named_doubt net G b p t xs ys a.1
named_doubt net G b p t (l ∷ xs) ys a = named_doubt net G b p t xs ys a

cuts_of : (net : Net) (w : World) (h : History) (p : ℕ) → Stands net w h → p < net.publishers → CutsInOrder net h p
cuts_of net w h p k j =
    let c : record_of h p ≡ core_of w p = record_core net w h p k.records in
    let at : (t : ℕ) (xs ys : List Report) → h.lines ≡ xs ++ line.Cut p t ∷ ys → CutFits net (reopened_cut h) w p t xs = λ t xs ys e. CutsHave-at (CutFits net (reopened_cut h) w p) p t [] xs ys (subst (λ z. CutsHave (CutFits net (reopened_cut h) w p) p [] z) e (k.ordered.each p j)) in
    record {
      cuts = λ t xs ys e. (at t xs ys e).rise;
      cut_settled = λ t xs ys e. subst (λ r. t ≤ r.settled) (sym c) (at t xs ys e).settled;
      cut_got = λ t xs ys e s u v m l y wants. got_in s p u v xs ((at t xs ys e).told s u v y l (let q : Contains (log_of w p).events (u, v) = subst (λ r. Contains r.events (u, v)) c m in said_listed 0 (log_of w p).events u v q.0 (k.fits.logs p j).rise q.1 q.2) wants);
    }

-- where all stands, horizons rise, and each event is discarded only after its delivery
pub in_order : (net : Net) (w : World) (h : History) → IsNet net → Stands net w h → InOrder net h
in_order net w h n k = record {
  horizons = λ s p m xs ys e. let y = named_horizon net Any s p m xs ys (subst (Named net Any) e k.named) in rise_at s p m 0 xs ys (subst (λ z. HorizonsRise s p 0 z) e (steady_rises s p 0 0 h.lines (k.lines.steady p s y.1 y.0)));
  cuts = λ p t xs ys e. (cuts_of net w h p k (named_cut net Any p t xs ys (subst (Named net Any) e k.named))).cuts t xs ys e;
  cut_settled = λ p t c.
      let s = split_from h.lines (line.Cut p t) c.0 c.1 c.2 in
      (cuts_of net w h p k (named_cut net Any p t s.front s.back (subst (Named net Any) s.is k.named))).cut_settled t s.front s.back s.is;
  cut_got = λ p t xs ys e s u v m l b wants. (cuts_of net w h p k (named_cut net Any p t xs ys (subst (Named net Any) e k.named))).cut_got t xs ys e s u v m l (n.subscriber s b) wants;
}

-- where all stands, each subscriber got exactly what it is owed
pub gets_now : (net : Net) (w : World) (h : History) (s p : ℕ) → Stands net w h → p < net.publishers → IsSubscriber net s → GetsExactly net h s p
gets_now net w h s p k j y = record {
  got = k.lines.got p s j y ∙ ap₂ (λ m r. due_upto net p s m r.events) (sym (k.lines.horizon p s j y)) (sym (record_core net w h p k.records));
  rise = steady_rises s p 0 0 h.lines (k.lines.steady p s j y);
}

after_found : (net : Net) (h : History) (l : Line) (ls : List Report) → (history_after net h l ls).reopened_cuts ≡ h.reopened_cuts
unfolding history_after
after_found net h l ls = refl

after_bare : (net : Net) (h : History) (l : Line) (ls : List Report) → (history_after net h l ls).unlogged ≡ unlogged_after net h l ls
unfolding history_after
after_bare net h l ls = refl

-- a horizon that a host keeps is its doubt horizon
pub doubt_at : (net : Net) (w : World) (h : History) (b p : ℕ) → Stands net w h → p < net.publishers → keeps_horizon net p b ≡ true → is_host net p b ≡ true → (view_of w b p).horizon ≡ (if get_or h.unlogged p true && may_crash net b then 0 else (record_of h p).settled)
doubt_at net w h b p k j keeps x =
    let g : net.host p ≡ b = eqb-true (net.host p) b x in
    let c : record_of h p ≡ core_of w p = record_core net w h p k.records in
    let f : host_horizon net p w ≡ bare_horizon net h.unlogged w p = k.unlogged.fits p j (subst (λ z. keeps_horizon net p z ≡ true) (sym g) keeps) in
    subst (λ z. (view_of w z p).horizon ≡ (if get_or h.unlogged p true && may_crash net z then 0 else (log_of w p).settled)) g f ∙ ap (λ s. if get_or h.unlogged p true && may_crash net b then 0 else s) (ap (λ r. r.settled) (sym c))

-- what stands before a step stands after it, with its lines
pub next_stands : (net : Net) (w : World) (h : History) (l : Line) → IsNet net → 1 ≤ net.quiet → StepIn net l.step → Stands net w h → Stands net (next net w l).world (history_after net h l (next net w l).lines)
next_stands net w h l n z i k =
    let x = next_kept net w l n k.fits i in
    let e = after_lines net h l (next net w l).lines in
    record {
      fits = x.fits;
      records = next_records net w h l n z k.fits k.records i;
      lines = subst (λ y. LinesFit net (next net w l).world y) (sym e) (x.lines h.lines k.lines);
      ordered = subst (λ (y : List ℕ). Ordered net (λ q. get_or y q 0) (next net w l).world (history_after net h l (next net w l).lines).lines) (sym (after_found net h l (next net w l).lines)) (subst (λ y. Ordered net (reopened_cut h) (next net w l).world y) (sym e) (next_orders net w l n k.fits i (reopened_cut h) h.lines k.lines k.ordered));
      sent =
          let c = step_sends net w l n k.fits i in
          ap (filter is_sent) e ∙ (filter-append is_sent h.lines (next net w l).lines
          ∙ (ap₂ (λ (y z : List Report). y ++ z) k.sent c.told ∙ (sym (sent_lines-append 1 w.frames c.more ∙ ap (λ m. sent_lines 1 w.frames ++ sent_lines m c.more) (omega arith)) ∙ ap (sent_lines 1) (sym c.frames))));
      named = subst (Named net Any) (sym e) (Named-append net Any h.lines (next net w l).lines k.named (Named-map net (IsShown net w) Any (next net w l).lines (λ b p t x. tt) (step_named net w l n k.fits i)));
      unlogged = subst (Unlogged net (next net w l).world) (sym (after_bare net h l (next net w l).lines)) (step_bare net w h l n z k.fits k.records k.asks.sent i k.unlogged);
      asks = next_holds net (ExpectFits net) (AsksFit net) w l n (asks_closed net n) k.fits k.asks i;
      stored = next_stored net w h l n z k.fits k.records i k.stored;
    }

start_frames : (net : Net) → (start net).frames ≡ []
unfolding start_by
start_frames net = refl

start_bare : (net : Net) → IsNet net → Unlogged net (start net) (begin net).unlogged
unfolding begin
start_bare net n = record {
  long = length-replicate net.publishers true;
  fits = λ p j keeps. ap (λ v. v.horizon) (start_is net (net.host p) p (n.host_in p j) j) ∙ (started_horizon net p (net.host p) empty_log
      ∙ sym (ap (λ x. if x && may_crash net (net.host p) then 0 else (log_of (start net) p).settled) (get_or-replicate net.publishers p true true j) ∙ (ap (λ s. if may_crash net (net.host p) then 0 else s) (ap (λ l. l.settled) (start_log net p j)) ∙ zero_both (may_crash net (net.host p)))));
}
  where
    zero_both : (c : Bool) → (let z : ℕ = if c then 0 else 0 in z ≡ 0)
    zero_both true = refl
    zero_both false = refl

-- at the start all stands
pub start_stands : (net : Net) → IsNet net → Stands net (start net) (begin net)
start_stands net n = record {
  fits = start_fits net n;
  records = begin_fits net;
  lines = subst (λ y. LinesFit net (start net) y) (sym (begin_lines net)) (start_lines net);
  ordered = subst (λ y. Ordered net (reopened_cut (begin net)) (start net) y) (sym (begin_lines net)) (start_ordered net n);
  sent = ap (filter is_sent) (begin_lines net) ∙ ap (sent_lines 1) (sym (start_frames net));
  named = subst (Named net Any) (sym (begin_lines net)) tt;
  unlogged = start_bare net n;
  asks = start_asks net n;
  stored = start_stored net;
}

-- the world after a schedule stands with its history
pub stands_run : (net : Net) (w : World) (h : History) (ls : List Line) → IsNet net → 1 ≤ net.quiet → StepsIn net ls → Stands net w h → Stands net (run_all net w ls).world (history net h ls (run_from net w ls))
unfolding run_from_by
stands_run net w h [] n z i k = k
stands_run net w h (l ∷ ls) n z i k = stands_run net (next net w l).world (history_after net h l (next net w l).lines) ls n z i.1 (next_stands net w h l n z i.0 k)

-- over every schedule the sent lines are those of the frames that the steps send
pub frames_sent : (net : Net) (ls : List Line) → IsNet net → 1 ≤ net.quiet → StepsIn net ls → filter is_sent (history_of net ls).lines ≡ sent_lines 1 (run_all net (start net) ls).world.frames
frames_sent net ls n z i = (stands_run net (start net) (begin net) ls n z i (start_stands net n)).sent
