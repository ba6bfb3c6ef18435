-- Each call of a broker obeys its rule, of every view that it may have, and only that outcome does
use Rattle.std.proofs.Common.{◌≡◌, ℕ, suc, zero, ◌<◌, ◌≤◌, Bool, true, false, [], ◌∷◌, get_or, refl, ap, length}
use Rattle.std.proofs.lemmas.Bool.{false≢true}
use Rattle.gr_curio.specs.Values.{Wanted}
use Rattle.std.specs.Prelude.{List, map, if◌then◌else◌}
use Rattle.gr_event.specs.declared.event.Event.{Event}
use Rattle.gr_event.specs.Joins.{longer}
use Rattle.gr_know.specs.declared.values.K.TheVariants.{Q}
use Rattle.gr_curio.specs.declared.values.Q3.TheVariants.{N}
use Rattle.gr_frame.specs.declared.Body.{Body}
use Rattle.gr_frame.specs.declared.Body.TheVariants as body
use Rattle.gr_tick.specs.Runs.{AreRuns}
use Rattle.gr_model.specs.Net.{Net, is_host, with_wants, wants_with}
use Rattle.gr_model.specs.Tree.{IsNet}
use Rattle.gr_model.specs.Broker.{View, Log, Outcome, seen, taking, view_joined, with_joins, started, log_know, learn, drops, receive, place_of, wake, publish, joining}
use Rattle.gr_model_calls.specs.Rules.{IsView, MayCome, is_dropped, unmoved, Comes, RulesDetermine}
use Rattle.gr_model_calls.proofs.joins.OneRun.{IsNet-with}
use Rattle.gr_model_calls.proofs.runs.Schedules.{log_know-is}
use Rattle.gr_model_calls.proofs.rules.CallRules.{new_ticks_rule}
use Rattle.gr_model_calls.proofs.rules.HostRules.{frame_rule, wakes_rule, publishes_rule, joins_rule}
use Rattle.gr_model_calls.proofs.rules.Views.{new_ticks_view, comes_view, wakes_view, publishes_view, joins_view}
use Rattle.gr_model_calls.proofs.rules.Determined.{determined}
use Rattle.gr_model_theorems.specs.Alone.{IsOnly, ObeysAlone, frame_to}

-- whoever wants what, a view is one that a broker may have
shown : (net : Net) (f : ℕ → ℕ → ℕ → Event → Bool) (p b : ℕ) (v : View) → IsView net p b v → IsView (with_wants net f) p b v
shown net f p b v h = record { know = h.know; wants = h.wants; all_wants = h.all_wants; asks = h.asks }

plain : (net : Net) (f : ℕ → ℕ → ℕ → Event → Bool) (p b : ℕ) (v : View) → IsView (with_wants net f) p b v → IsView net p b v
plain net f p b v h = record { know = h.know; wants = h.wants; all_wants = h.all_wants; asks = h.asks }

-- a frame does what its rule says where it is not dropped
comes_alone : (net : Net) (p b now from : ℕ) (y : Body) (v : View) (log : Log) → IsNet net → p < net.publishers → b < net.brokers → MayCome net p from b y → is_dropped v y ≡ false → IsView net p b v →
    IsOnly net p b (Comes net p from b now y v log) (receive net now (frame_to from b p y) v log)
comes_alone net p b now from y v log n i j may kept h =
    let o = receive net now (frame_to from b p y) v log in
    let r : Comes net p from b now y v log o = frame_rule net now (frame_to from b p y) v log n i j may kept h in
    record { rule = r; only = λ u x. alone y u o x r; view = comes_view net p from b now y v log o h r }
  where
    d : RulesDetermine net p b
    d = determined net p b n i j

    alone : (z : Body) (u o : Outcome) → Comes net p from b now z v log u → Comes net p from b now z v log o → u ≡ o
    alone (body.Knowledge runs js) u o x r = d.new_ticks runs (with_joins v (longer v.joins js)) log u o x r
    alone (body.Curiosity runs) u o x r = d.child_asks now from runs v log u o x r
    alone (body.Expect tick) u o x r = d.expects now tick v log u o x r

-- a frame that is dropped does nothing
drops_alone : (net : Net) (p b now from : ℕ) (y : Body) (v : View) (log : Log) → is_dropped v y ≡ true → receive net now (frame_to from b p y) v log ≡ unmoved v log
unfolding receive
drops_alone net p b now from (body.Knowledge runs js) v log e = dropped (drops v runs js) e
  where
    dropped : (q : Bool) → q ≡ true → (elim q as (λ x. Outcome) [ true ↦ record { view = v; log = log; lines = []; frames = [] } | false ↦ learn net p b runs (with_joins v (longer v.joins js)) log ]) ≡ unmoved v log
    dropped true e = refl
    dropped false e = absurd (false≢true e)
drops_alone net p b now from (body.Curiosity runs) v log e = absurd (false≢true e)
drops_alone net p b now from (body.Expect tick) v log e = absurd (false≢true e)

-- each call, on the net that the view shows
pub obeys_alone : (net : Net) (p b now : ℕ) (v : View) (log : Log) → IsNet net → 1 ≤ net.quiet → p < net.publishers → b < net.brokers → IsView net p b v → ObeysAlone net p b now v log
obeys_alone net p b now v log n quiet i j h = record {
  comes = λ from y may kept.
      let f = frame_to from b p y in
      let wants = wants_with net (taking v f).joins in
      let x = comes_alone (with_wants net wants) p b now from y v log (tree wants) i j (may_come wants from y may) kept (shown net wants p b v h) in
      record { rule = x.rule; only = x.only; view = plain net wants p b (receive (with_wants net wants) now f v log).view x.view };
  drops = λ from y dropped. drops_alone (seen net (taking v (frame_to from b p y))) p b now from y v log dropped;
  wakes =
      let wants = wants_with net v.joins in
      let o = wake (with_wants net wants) p b now v log in
      let r = wakes_rule (with_wants net wants) p b now v log (tree wants) quiet i j (shown net wants p b v h) in
      record { rule = r; only = λ u x. (alone wants).wakes now v log u o x r; view = plain net wants p b o.view (wakes_view (with_wants net wants) p b now v log o (shown net wants p b v h) r) };
  learns = λ piece runs.
      let wants = wants_with net v.joins in
      let o = learn (with_wants net wants) p b piece v log in
      let r = new_ticks_rule (with_wants net wants) p b piece v log (n.children_once p b i j) (shown net wants p b v h) runs in
      record { rule = r; only = λ u x. (alone wants).new_ticks piece v log u o x r; view = plain net wants p b o.view (new_ticks_view (with_wants net wants) p b piece v log o r) };
  publishes = λ number e.
      let wants = wants_with net v.joins in
      let o = publish (with_wants net wants) p b now number e v log in
      let r = publishes_rule (with_wants net wants) p b now number e v log (tree wants) i j (shown net wants p b v h) in
      record { rule = r; only = λ u x. (alone wants).publishes now number e v log u o x r; view = plain net wants p b o.view (publishes_view (with_wants net wants) p b now number e v log o (shown net wants p b v h) r) };
  joins = λ s.
      let wants = wants_with net (view_joined log s now v).joins in
      let o = joining (with_wants net wants) p b now s v log in
      let r = joins_rule (with_wants net wants) p b now s v log (tree wants) i j (shown net wants p b v h) in
      record { rule = r; only = λ u x. (alone wants).joins now s v log u o x r; view = plain net wants p b o.view (joins_view (with_wants net wants) p b now s v log o (shown net wants p b v h) r) };
}
  where
    tree : (f : ℕ → ℕ → ℕ → Event → Bool) → IsNet (with_wants net f)
    tree f = IsNet-with net f n

    alone : (f : ℕ → ℕ → ℕ → Event → Bool) → RulesDetermine (with_wants net f) p b
    alone f = determined (with_wants net f) p b (tree f) i j

    may_come : (f : ℕ → ℕ → ℕ → Event → Bool) (from : ℕ) (y : Body) → MayCome net p from b y → MayCome (with_wants net f) p from b y
    may_come f from (body.Knowledge runs js) m = m
    may_come f from (body.Curiosity runs) m = m
    may_come f from (body.Expect tick) m = m

-- The view that a broker starts with

abbrev nothing_wanted : Wanted
nothing_wanted = []

nothing_stored : (cs : List ℕ) (i : ℕ) → AreRuns N (get_or (map (λ c. nothing_wanted) cs) i [])
nothing_stored [] i = tt
nothing_stored (c ∷ cs) zero = tt
nothing_stored (c ∷ cs) (suc i) = nothing_stored cs i

one_each : (cs : List ℕ) → length (map (λ c. nothing_wanted) cs) ≡ length cs
one_each [] = refl
one_each (c ∷ cs) = ap suc (one_each cs)

pub started_view : (net : Net) (p b : ℕ) (log : Log) → IsView net p b (started net p b log)
unfolding started
started_view net p b log = record {
  know = known (is_host net p b);
  wants = λ c m. nothing_stored (net.children p b) (place_of c (net.children p b));
  all_wants = one_each (net.children p b);
  asks = tt;
}
  where
    known : (q : Bool) → AreRuns Q (if q then log_know log else [])
    known true = (log_know-is log).runs
    known false = tt
