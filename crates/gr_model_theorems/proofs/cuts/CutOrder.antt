-- Over every schedule a publisher's cuts rise, and each cut line stands
-- after the deliveries of what it cuts, since each step keeps that order
use Rattle.std.proofs.Common.{◌≡◌, inl, inr, ℕ, suc, zero, ◌≤◌, ◌<◌, Bool, true, false, ◌&&◌, List, [], ◌∷◌, ◌++◌, length, refl, sym, ap, ◌∙◌, subst, Some, None, arith}
use Rattle.std.specs.Prelude.{nat_eq, if◌then◌else◌, get_or, Contains, slice_index_or}
use Rattle.std.proofs.lemmas.List.{get_or-replicate}
use Rattle.std.proofs.lemmas.Bool.{cases_eq, and_parts, eqb-true}
use Rattle.gr_event.specs.declared.event.Event.{Event}
use Rattle.gr_sched.specs.declared.step.Line.{Line}
use Rattle.gr_model.specs.declared.report.Report.{Report}
use Rattle.gr_model.specs.declared.report.Report.TheVariants as line
use Rattle.gr_model.specs.Net.{Net}
use Rattle.gr_model.specs.World.{log_of, start}
use Rattle.gr_model_calls.specs.OneNet.{run_all, run_from, history_of}
use Rattle.gr_model.specs.Headline.{History, history_after, begin, reopened_cut, history, record_of, delivered_events}
use Rattle.gr_model_calls.specs.Said.{said_at, TicksRise}
use Rattle.gr_model.specs.Broker.{started}
use Rattle.gr_model.specs.Tree.{IsNet}
use Rattle.gr_model_calls.specs.Fits.{StepsIn}
use Rattle.gr_model_theorems.specs.Order.{CutsInOrder}
use Rattle.gr_model_calls.proofs.calls.Told.{said_at-here, said_at-past}
use Rattle.gr_model_theorems.proofs.records.Records.{core_of}
use Rattle.gr_model_theorems.proofs.records.Recorded.{record_core, runs, begin_fits, begin_lines}
use Rattle.gr_model_calls.proofs.runs.Schedules.{always_true, start_fits, start_is, start_log, start_lines}
use Rattle.gr_model_theorems.proofs.hosts.HostHorizon.{HostsMeet}
use Rattle.gr_model_theorems.proofs.cuts.Cutlines.{CutsHave, CutsHave-at}
use Rattle.gr_model_theorems.proofs.cuts.Orders.{CutFits, Ordered}
use Rattle.gr_model_theorems.proofs.cuts.Ordering.{run_orders}

some_none : (e : Event) → None ≡ Some e → ⊥
some_none e h = cc

some_some : (a b : Event) → Some a ≡ Some b → a ≡ b
some_some a b h = cc

past_one : {X : Type 0} (y x : X) (xs : List X) → Contains xs x → Contains (y ∷ xs) x
past_one y x xs c = (suc c.0, omega (arith, c.1), c.2)

-- what is said is listed, and what is got is a got line
pub got_in : (s p u : ℕ) (e : Event) (xs : List Report) → said_at (delivered_events s p xs) u ≡ Some e → Contains xs (line.Got s p u e)
got_in s p u e [] h = absurd (some_none e h)
got_in s p u e (line.Got r q t v ∷ xs) h = go (λ k. got_in s p u e xs k) (nat_eq r s && nat_eq q p) refl h
  where
    go : (said_at (delivered_events s p xs) u ≡ Some e → Contains xs (line.Got s p u e)) → (c : Bool) → (nat_eq r s && nat_eq q p) ≡ c → said_at ((if c then (t, v) ∷ [] else []) ++ delivered_events s p xs) u ≡ Some e → Contains (line.Got r q t v ∷ xs) (line.Got s p u e)
    go more false x k = past_one (line.Got r q t v) (line.Got s p u e) xs (more k)
    go more true x k =
        elim (cases_eq t u) [
          | inl y ↦
              let a = and_parts (nat_eq r s) (nat_eq q p) x in
              let b = eqb-true r s a.0 in
              let c = eqb-true q p a.1 in
              let d = some_some v e (sym (said_at-here (t, v) (delivered_events s p xs) u y) ∙ k) in
              (0, omega arith, λ i. line.Got (b i) (c i) (y i) (d i))
          | inr y ↦ past_one (line.Got r q t v) (line.Got s p u e) xs (more (sym (said_at-past (t, v) (delivered_events s p xs) u y) ∙ k))
        ]
got_in s p u e (l ∷ xs) h = past_one l (line.Got s p u e) xs (got_in s p u e xs h)

later_in : (from : ℕ) (xs : List (ℕ × Event)) (k : ℕ) (d : ℕ × Event) → TicksRise from xs → k < length xs → from < (slice_index_or xs k d).0
later_in from [] k d r h = absurd (omega arith)
later_in from (x ∷ xs) zero d r h = r.0
later_in from (x ∷ xs) (suc k) d r h = omega (arith, r.0, later_in x.0 xs k d r.1 (omega arith))

-- a rising list says at a tick each event that stands in it with that tick
pub said_listed : (from : ℕ) (xs : List (ℕ × Event)) (u : ℕ) (e : Event) (k : ℕ) → TicksRise from xs → k < length xs → slice_index_or xs k (u, e) ≡ (u, e) → said_at xs u ≡ Some e
said_listed from [] u e k r h q = absurd (omega arith)
said_listed from (x ∷ xs) u e zero r h q = said_at-here x xs u (ap (λ z. z.0) q) ∙ ap (λ z. Some z.1) q
said_listed from (x ∷ xs) u e (suc k) r h q = said_at-past x xs u (λ z. omega (arith, z, later_in x.0 xs k (u, e) r.1 (omega arith), ap (λ y. y.0) q)) ∙ said_listed x.0 xs u e k r.1 (omega arith) q

start_meets : (net : Net) → IsNet net → HostsMeet net (start net)
unfolding started
start_meets net n q x y = ap (λ v. v.horizon) (start_is net (net.host q) q (n.host_in q x) x) ∙ ap (λ l. l.settled) (sym (start_log net q x))

begin_found : (net : Net) (q : ℕ) → q < net.publishers → reopened_cut (begin net) q ≡ 0
unfolding begin
begin_found net q j = get_or-replicate net.publishers q 0 0 j

-- what was found stays
history_found : (net : Net) (h : History) (ls : List Line) (rs : List (List Report)) → (history net h ls rs).reopened_cuts ≡ h.reopened_cuts
unfolding history_after
history_found net h [] rs = refl
history_found net h (l ∷ ls) [] = refl
history_found net h (l ∷ ls) (r ∷ rs) = history_found net (history_after net h l r) ls rs

-- at the start the cut lines, of which there are none, are in order
pub start_ordered : (net : Net) → IsNet net → Ordered net (reopened_cut (begin net)) (start net) []
start_ordered net n = record { meets = start_meets net n; last = λ q j. begin_found net q j ∙ ap (λ l. l.cut) (sym (start_log net q j)); each = λ q j. tt }

pub always_ordered : (net : Net) (ls : List Line) → IsNet net → StepsIn net ls → Ordered net (reopened_cut (begin net)) (run_all net (start net) ls).world (run_all net (start net) ls).lines
always_ordered net ls n i = run_orders net (start net) ls n (start_fits net n) i (reopened_cut (begin net)) [] (start_lines net) (start_ordered net n)

-- I10: a host with subscribers has its horizon where its log is settled, whatever the schedule
pub hosts_always_meet : (net : Net) (ls : List Line) → IsNet net → StepsIn net ls → HostsMeet net (run_all net (start net) ls).world
hosts_always_meet net ls n i = (always_ordered net ls n i).meets

-- over every schedule a publisher's cuts rise, and each cut line stands after all deliveries of what it cuts
pub cuts_in_order : (net : Net) (ls : List Line) (p : ℕ) → IsNet net → 1 ≤ net.quiet → StepsIn net ls → p < net.publishers → CutsInOrder net (history_of net ls) p
cuts_in_order net ls p n z i j =
    let w = (run_all net (start net) ls).world in
    let told = (run_all net (start net) ls).lines in
    let x = runs net (start net) _ ls n z (start_fits net n) (begin_fits net) i in
    let same : (history_of net ls).reopened_cuts ≡ (begin net).reopened_cuts = history_found net (begin net) ls (run_from net (start net) ls) in
    let o : Ordered net (reopened_cut (history_of net ls)) w told = subst (λ (z : List ℕ). Ordered net (λ q. get_or z q 0) w told) (sym same) (always_ordered net ls n i) in
    let found : ℕ → ℕ = reopened_cut (history_of net ls) in
    let e : (history_of net ls).lines ≡ told = x.lines ∙ ap (λ k. k ++ told) (begin_lines net) in
    let c : record_of (history_of net ls) p ≡ core_of w p = record_core net w (history_of net ls) p x.records in
    let at : (t : ℕ) (xs ys : List Report) → (history_of net ls).lines ≡ xs ++ line.Cut p t ∷ ys → CutFits net found w p t xs = λ t xs ys h. CutsHave-at (CutFits net found w p) p t [] xs ys (subst (λ k. CutsHave (CutFits net found w p) p [] k) (sym e ∙ h) (o.each p j)) in
    record {
      cuts = λ t xs ys h. (at t xs ys h).rise;
      cut_settled = λ t xs ys h. subst (λ k. t ≤ k.settled) (sym c) (at t xs ys h).settled;
      cut_got = λ t xs ys h s u v k l y wants. got_in s p u v xs ((at t xs ys h).told s u v y l (let m : Contains (log_of w p).events (u, v) = subst (λ r. Contains r.events (u, v)) c k in said_listed 0 (log_of w p).events u v m.0 ((always_true net ls n i).logs p j).rise m.1 m.2) wants);
    }
