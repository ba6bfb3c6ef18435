-- Of brokers that began over empty logs all groups are those that an audit expects
use Rattle.std.proofs.Common.{◌≡◌, ℕ, ◌≤◌, ◌^◌, min, Bool, true, false, List, [], ◌∷◌, ◌++◌, map, length, refl, sym, ap, ap₂, ◌∙◌, subst, append-nil, arith}
use Rattle.std.specs.Prelude.{if◌then◌else◌, max}
use Rattle.std.proofs.lemmas.Bool.{true≢false}
use Rattle.gr_sched.specs.declared.step.Line.{Line}
use Rattle.gr_topo.specs.Topology.{TopologyView}
use Rattle.gr_model.specs.NetOf.{net_of}
use Rattle.gr_model.specs.Broker.{max_tick, seen}
use Rattle.gr_model.specs.World.{World, Transition, sent_since}
use Rattle.gr_model.specs.Arrivals.{Arrival, datagram, quiet, Request, left_after, at_moment, comes_by, reads_by, quieted_by}
use Rattle.gr_model.specs.Orders.{ordered, fed, without_ordered}
use Rattle.gr_journal.specs.declared.arrival.Arrival.{Arrival as Noted}
use Rattle.gr_journal.specs.Lines.{arrival_text}
use Rattle.gr_journal.specs.Groups.{group_text, groups_text}
use Rattle.gr_report.proofs.Passing.{PassesLog, PassesRest}
use Rattle.gr_node.specs.Seen.{NodeView}
use Rattle.gr_node.specs.Plan.{Act, arrives, settles, is_ours, ours, moment_of, datagram_acts, acts_of, settling, led_to, arrival_acts, acts_from}
use Rattle.gr_node.specs.Done.{Done, at_arrival, done, all_done}
use Rattle.gr_node.proofs.Planned.{none_taken, ours_more, ours_same}
use Rattle.gr_audit_theorems.specs.Behaves.{arrival_of, Standing, begun, comes_to, standing_next, standing_after, group_of, group_at, behaves}
use Rattle.gr_audit_theorems.proofs.Coming.{Unheard}
use Rattle.gr_audit_theorems.proofs.Texts.{after_one}
use Rattle.gr_trace.specs.Traced.{noted, said_lines, outs_of}
use Rattle.gr_trace.specs.Wrote.{line_of, written_at}
use Rattle.gr_trace.proofs.Group.{IsProcess, came_text, came_process}
use Rattle.gr_trace.proofs.Groups.{acts_tell, led_at}
use Rattle.gr_trace.proofs.Turning.{written_then, waiting_at, arrives_at, arrival_waits}

-- A moment past the last tick is as good as that

min_twice : (m : ℕ) → min (min m max_tick) max_tick ≡ min m max_tick
min_twice m = omega arith

moved_twice : (w : World) (m : ℕ) → at_moment w (min m max_tick) ≡ at_moment w m
moved_twice w m = ap (λ (k : ℕ). let u : World = record { clock = k; most = max k w.most; frames = w.frames; views = w.views; logs = w.logs } in u) (min_twice m)

comes_noted : (t : TopologyView) (hosted : List ℕ) (s : Standing) (a : Arrival) → comes_to t hosted s (arrival_of (noted a)) ≡ comes_to t hosted s a
unfolding comes_by
comes_noted t hosted s (datagram b bytes moment) = ap (λ (w : World). reads_by (seen (net_of t)) (net_of t) w b bytes) (moved_twice s.world moment)
comes_noted t hosted s (quiet moment) = ap (λ (w : World). quieted_by (seen (net_of t)) (net_of t) hosted w s.left) (moved_twice s.world moment)

left_noted : (left : List Request) (a : Arrival) → left_after left (arrival_of (noted a)) ≡ left_after left a
left_noted left (datagram b bytes moment) = refl
left_noted [] (quiet moment) = refl
left_noted (x ∷ left) (quiet moment) = refl

group_noted : (t : TopologyView) (hosted : List ℕ) (s : Standing) (a : Arrival) → group_at t hosted s (arrival_of (noted a)) ≡ group_at t hosted s a
unfolding group_at
group_noted t hosted s a = ap (λ (u : Transition). group_of t (u.lines ++ ordered (fed s.orders u.lines)) (sent_since s.world u.world)) (comes_noted t hosted s a)

next_noted : (t : TopologyView) (hosted : List ℕ) (s : Standing) (a : Arrival) → standing_next t hosted s (arrival_of (noted a)) ≡ standing_next t hosted s a
unfolding standing_next
next_noted t hosted s a =
    ap₂ (λ (u : Transition) (left : List Request). let z : Standing = record { world = u.world; left = left; orders = without_ordered (fed s.orders u.lines) } in z) (comes_noted t hosted s a) (left_noted s.left a)

left_is : (t : TopologyView) (hosted : List ℕ) (s : Standing) (a : Arrival) → left_after s.left a ≡ Standing.left (standing_next t hosted s a)
unfolding standing_next
left_is t hosted s a = refl

-- One arrival

module _ (t : TopologyView) (hosted : List ℕ) (passes : PassesLog) (passes_rest : PassesRest) (unheard : Unheard (net_of t)) (few : length t.subscribers ≤ 2 ^ 16) where
  -- that is one of ours
  ours_at : (n : NodeView) (s : Standing) (a : Arrival) → IsProcess t hosted n s → is_ours hosted a ≡ true
      → written_at t hosted n [] (arrival_acts (net_of t) hosted s.left a) ≡ group_text t (noted a) (group_at t hosted s a)
  ours_at n s a p e =
      let here : NodeView = at_arrival hosted n a in
      let acts : List Act = acts_of (net_of t) hosted s.left a in
      let settled : settling hosted a ≡ settles ∷ [] = ap (λ (q : Bool). if q then settles ∷ [] else []) e in
      let led : led_to (net_of t) hosted s.left a ≡ acts ++ settles ∷ [] = ap (λ (xs : List Act). acts ++ xs) settled in
      arrives_at t hosted n a (led_to (net_of t) hosted s.left a)
      ∙ ap₂ (λ (xs ys : List ℕ). xs ++ ys) (ap (λ (q : Bool). if q then arrival_text t (noted a) else []) e)
      (ap (written_at t hosted here []) led
      ∙ (led_at t hosted here acts (acts_tell (net_of t) hosted s.left a)
      ∙ (ap (λ (xs : List Act). let d : Done = all_done t hosted here xs in said_lines t d.lines ++ outs_of t d.entries) (sym led)
      ∙ came_text t hosted n s a passes passes_rest unheard few p e)))

  -- and one at a broker elsewhere puts nothing there, and changes nothing
  elsewhere_acts : (left : List Request) (a : Arrival) → is_ours hosted a ≡ false → arrival_acts (net_of t) hosted left a ≡ arrives a ∷ []
  elsewhere_acts left (datagram b bytes moment) e = ap (λ (q : Bool). arrives (datagram b bytes moment) ∷ ((if q then datagram_acts (net_of t) b bytes else []) ++ (if q then settles ∷ [] else []))) e
  elsewhere_acts left (quiet moment) e = absurd (true≢false e)

  still_at : (n : NodeView) (a : Arrival) → is_ours hosted a ≡ false → (all_done t hosted n (arrives a ∷ [])).node ≡ n
  unfolding all_done done
  still_at n a e = ap (λ (q : Bool). if q then (let m : NodeView = record { brokers = n.brokers; offers = n.offers; now = min (moment_of a) max_tick; orders = n.orders } in m) else n) e

  nothing_at : (n : NodeView) (a : Arrival) → is_ours hosted a ≡ false → written_at t hosted n [] (arrives a ∷ []) ≡ []
  unfolding written_at
  nothing_at n a e = arrives_at t hosted n a [] ∙ (append-nil (line_of t hosted a) ∙ ap (λ (q : Bool). if q then arrival_text t (noted a) else []) e)

  -- behind the acts of one that is ours the node is the next process
  next_at : (n : NodeView) (s : Standing) (a : Arrival) → IsProcess t hosted n s → is_ours hosted a ≡ true → IsProcess t hosted (all_done t hosted n (arrival_acts (net_of t) hosted s.left a)).node (standing_next t hosted s a)
  unfolding all_done done
  next_at n s a p e = came_process t hosted n s a passes passes_rest unheard few p e

  -- All arrivals
  module _ (steps : List Line) where
    abbrev stands : List Noted → Standing
    stands before = standing_after t hosted (begun t steps hosted) before

    -- what these arrivals put there, behind any that came before, is what is expected
    abbrev IsExpected : List Arrival → Type 0
    IsExpected came = (next : List Noted) (m : NodeView) (rest : List Request) → IsProcess t hosted m (stands next) → rest ≡ Standing.left (stands next)
        → written_at t hosted m [] (acts_from (net_of t) hosted rest came) ≡ groups_text (behaves t steps) t hosted next (map noted (ours hosted came))

    pub expected_at : (came : List Arrival) (before : List Noted) (n : NodeView) (left : List Request) → IsProcess t hosted n (stands before) → left ≡ Standing.left (stands before)
        → written_at t hosted n [] (acts_from (net_of t) hosted left came) ≡ groups_text (behaves t steps) t hosted before (map noted (ours hosted came))
    unfolding written_at acts_from
    expected_at [] before n left p l = refl
    expected_at (a ∷ came) before n left p l = go (λ before₁ m left₁ p₁ l₁. expected_at came before₁ m left₁ p₁ l₁) (is_ours hosted a) refl
      where
        s : Standing
        s = stands before

        go : IsExpected came → (q : Bool) → is_ours hosted a ≡ q → written_at t hosted n [] (arrival_acts (net_of t) hosted left a ++ acts_from (net_of t) hosted (left_after left a) came) ≡ groups_text (behaves t steps) t hosted before (map noted (ours hosted (a ∷ came)))
        go more true e =
            let acts : List Act = arrival_acts (net_of t) hosted left a in
            let rest : List Act = acts_from (net_of t) hosted (left_after left a) came in
            let m : NodeView = (all_done t hosted n acts).node in
            let next : stands (before ++ noted a ∷ []) ≡ standing_next t hosted s a = after_one t hosted (begun t steps hosted) before (noted a) ∙ next_noted t hosted s a in
            let process : IsProcess t hosted m (stands (before ++ noted a ∷ [])) =
            subst (λ (z : Standing). IsProcess t hosted m z) (sym next)
            (subst (λ (xs : List Request). IsProcess t hosted (all_done t hosted n (arrival_acts (net_of t) hosted xs a)).node (standing_next t hosted s a)) (sym l) (next_at n s a p e)) in
            let later : left_after left a ≡ Standing.left (stands (before ++ noted a ∷ [])) =
            ap (λ (xs : List Request). left_after xs a) l ∙ (left_is t hosted s a ∙ ap (λ (z : Standing). z.left) (sym next)) in
            written_then t hosted n [] acts rest
            ∙ (ap (λ (xs : List ℕ). written_at t hosted n [] acts ++ written_at t hosted m xs rest) (arrival_waits t hosted n left a)
            ∙ (ap₂ (λ (xs ys : List ℕ). xs ++ ys)
            (ap (λ (xs : List Request). written_at t hosted n [] (arrival_acts (net_of t) hosted xs a)) l ∙ (ours_at n s a p e ∙ ap (group_text t (noted a)) (sym (group_noted t hosted s a))))
            (more (before ++ noted a ∷ []) m (left_after left a) process later)
            ∙ ap (λ (xs : List Arrival). groups_text (behaves t steps) t hosted before (map noted xs)) (sym (ours_more hosted a came e))))
        go more false e =
            let rest : List Act = acts_from (net_of t) hosted (left_after left a) came in
            ap (λ (xs : List Act). written_at t hosted n [] (xs ++ rest)) (elsewhere_acts left a e)
            ∙ (written_then t hosted n [] (arrives a ∷ []) rest
            ∙ (ap₂ (λ (xs : List ℕ) (m : NodeView). xs ++ written_at t hosted m (waiting_at t hosted n [] (arrives a ∷ [])) rest) (nothing_at n a e) (still_at n a e)
            ∙ (ap (λ (xs : List ℕ). written_at t hosted n xs rest) (ap (waiting_at t hosted n []) (sym (elsewhere_acts left a e)) ∙ arrival_waits t hosted n left a)
            ∙ (more before n (left_after left a) p (none_taken hosted left a e ∙ l)
            ∙ ap (λ (xs : List Arrival). groups_text (behaves t steps) t hosted before (map noted xs)) (sym (ours_same hosted a came e))))))
