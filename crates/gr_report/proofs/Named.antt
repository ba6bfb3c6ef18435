-- Every line that a step tells is named, since the tree that a topology is to the machine has what its names name
use Rattle.std.proofs.Common.{ℕ, List, [], ◌∷◌}
use Rattle.std.specs.List.{AllByRecursion}
use Rattle.gr_frame.specs.declared.Body.{Body}
use Rattle.gr_frame.specs.declared.Body.TheVariants as body
use Rattle.gr_frame.specs.declared.Frame.{Frame}
use Rattle.gr_sched.specs.declared.step.Step.{Step}
use Rattle.gr_sched.specs.declared.step.Step.TheVariants as step
use Rattle.gr_sched.specs.declared.step.Line.{Line}
use Rattle.gr_topo.specs.Topology.{TopologyView}
use Rattle.gr_model.specs.declared.report.Report.TheVariants as line
use Rattle.gr_model.specs.NetOf.{net_of, IsOrderly}
use Rattle.gr_model.specs.Tree.{IsNet}
use Rattle.gr_model.specs.World.{World, sent_line, next}
use Rattle.gr_model.specs.Text.{IsNamed}
use Rattle.gr_model_calls.specs.Edges.{GoesOverEdge}
use Rattle.gr_model_calls.specs.Fits.{StepIn}
use Rattle.gr_model_calls.proofs.runs.Worlds.{Each}
use Rattle.gr_scenario.specs.Steps.{IsStepOf}
use Rattle.gr_report.specs.Named.{AllNamed}
use Rattle.gr_report.proofs.Between.{IsBetween}
use Rattle.gr_report.proofs.Names.{Names, JoinerIn, step_names}

-- both words say the same of each element of a list
pub each_of : {X : Type 0} (P : X → Type 0) (xs : List X) → AllByRecursion P xs → Each P xs
each_of P [] a = tt
each_of P (x ∷ xs) a = (a.0, each_of P xs a.1)

-- and the other way
pub all_of : {X : Type 0} (P : X → Type 0) (xs : List X) → Each P xs → AllByRecursion P xs
all_of P [] a = tt
all_of P (x ∷ xs) a = (a.0, all_of P xs a.1)

-- the line of a frame that goes along an edge is named
between_is_named : (t : TopologyView) (n : ℕ) (f : Frame) → IsBetween (net_of t) f → IsNamed t (sent_line n f)
unfolding sent_line
between_is_named t n f g = one f.body
  where
    one : (y : Body) → IsNamed t (elim y [
      | body.Knowledge runs js ↦ line.SentKnow n f.head.from f.head.to f.head.publisher runs js
      | body.Curiosity runs ↦ line.SentWant n f.head.from f.head.to f.head.publisher runs
      | body.Expect tick ↦ line.SentExpect n f.head.from f.head.to f.head.publisher tick
    ])
    one (body.Knowledge runs js) = (g.from, g.to, g.publisher)
    one (body.Curiosity runs) = (g.from, g.to, g.publisher)
    one (body.Expect tick) = (g.from, g.to, g.publisher)

-- so is that of one that goes over an edge, with joins of late subscribers alone
pub sent_is_named : (t : TopologyView) (n : ℕ) (f : Frame) → GoesOverEdge (net_of t) f → IsNamed t (sent_line n f)
sent_is_named t n f g = between_is_named t n f (record { publisher = g.publisher; from = g.from; to = g.to; between = g.between })

-- a line is named where it names what the tree has
pub names_of : (t : TopologyView) → Names (net_of t) (IsNamed t)
names_of t = record {
  opened = λ p last settled cut h. h;
  logged = λ p number tick h. h;
  already = λ p number h. h;
  gap = λ p number following h. h;
  exhausted = λ p number h. h;
  joined = λ s p tick i j. (i, j);
  already_joined = λ s p i j. (i, j);
  exhausted_join = λ s p i j. (i, j);
  kept = λ p number tick h. h;
  lost = λ p number tick h. h;
  mark = λ p tick h. h;
  cut = λ p tick h. h;
  reclaimed = λ p generation h. h;
  got = λ s p tick e i j. (i, j);
  horizon = λ s p tick i j. (i, j);
  sent = λ n f g. between_is_named t n f g;
  crashed = λ b h. h;
  swept = λ m. tt;
  refused_hosts = λ k b h. h;
  refused_frame = λ k f s. tt;
  refused_clock = λ k m. tt;
  frames = λ n. tt;
  log = λ p last settled cut kept h. h;
  doubt = λ b p tick i j. (i, j);
  bytes = λ f xs. tt;
}

-- a step of the topology is one of its tree
pub step_in : (t : TopologyView) (s : Step) → IsStepOf t s → StepIn (net_of t) s
step_in t (step.Clock now) h = tt
step_in t (step.Publish p number stop e) h = h.0
step_in t (step.Wake b) h = h
step_in t (step.Deliver frame) h = tt
step_in t (step.Crash b) h = h
step_in t step.Sweep h = tt
step_in t step.Show h = tt
step_in t (step.Bytes frame) h = tt
step_in t (step.Join s p) h = (h.1, h.2)

-- and the subscriber that joins is there
joiner_in : (t : TopologyView) (s : Step) → IsStepOf t s → JoinerIn (net_of t) s
joiner_in t (step.Clock now) h = tt
joiner_in t (step.Publish p number stop e) h = tt
joiner_in t (step.Wake b) h = tt
joiner_in t (step.Deliver frame) h = tt
joiner_in t (step.Crash b) h = tt
joiner_in t step.Sweep h = tt
joiner_in t step.Show h = tt
joiner_in t (step.Bytes frame) h = tt
joiner_in t (step.Join s p) h = h.0

-- each line of a step is named, where all frames so far went over edges
pub next_named : (t : TopologyView) (w : World) (l : Line) → IsNet (net_of t) → IsOrderly (net_of t) → AllByRecursion (GoesOverEdge (net_of t)) w.frames → IsStepOf t l.step → AllNamed t (next (net_of t) w l).lines
next_named t w l n o a i =
    all_of (IsNamed t) (next (net_of t) w l).lines (step_names (net_of t) (IsNamed t) w l (record { names = names_of t; tree = n; orderly = o }) (each_of (GoesOverEdge (net_of t)) w.frames a) (step_in t l.step i) (joiner_in t l.step i))
