-- The scenario of a soak, as what its text reads as: a topology, and the steps of n turns over it
use Rattle.std.specs.Prelude.{ℕ, ◌+◌, ◌*◌, ◌/◌, ◌%◌, pos, nat_eq, if◌then◌else◌, List, [], ◌∷◌, ◌++◌, map}
use Rattle.std.specs.Prelude.{flat_map, codes, Some, None}
use Rattle.gr_event.specs.declared.event.Event.{Event}
use Rattle.gr_event.specs.declared.value.Value.TheVariants as value
use Rattle.gr_filter.specs.declared.node.Operand.TheVariants.{Name, Int, Text}
use Rattle.gr_filter.specs.declared.node.Sign.TheVariants.{Equal, Greater}
use Rattle.gr_filter.specs.Tree.{Tree, compare, both}
use Rattle.gr_model.specs.Net.{numbers}
use Rattle.gr_sched.specs.declared.step.Step.{Step}
use Rattle.gr_sched.specs.declared.step.Step.TheVariants.{Clock, Publish, Wake, Deliver, Crash, Sweep, Show}
use Rattle.gr_sched.specs.declared.step.Line.{Line}
use Rattle.gr_topo.specs.Topology.{TopologyView, default_values}
use Rattle.gr_tree.specs.declared.link.Link.{Link}
use Rattle.gr_soak.specs.Text.{brokers, word, after, drawn}

-- The topology: a tree of seven brokers, P at its root and Q at B1, and twelve subscribers at the four leaves

abbrev pub link : ℕ → ℕ → Link
link one other = record { one = one; other = other }

-- what subscriber i wants: sym = WORD AND price > PRICE
unfoldable pub filter_at : ℕ → Tree
filter_at i = both (compare (Name (codes "sym")) Equal (Text (word (i % 4))))
    (compare (Name (codes "price")) Greater (Int (pos (15 * i))))

abbrev pub subscribers : List (List ℕ)
subscribers =
    codes "S0" ∷ codes "S1" ∷ codes "S2" ∷ codes "S3" ∷ codes "S4" ∷ codes "S5" ∷ codes "S6" ∷ codes "S7"
    ∷ codes "S8" ∷ codes "S9" ∷ codes "S10" ∷ codes "S11" ∷ []

unfoldable pub soak_topology : TopologyView
soak_topology = record {
  brokers = brokers;
  publishers = codes "P" ∷ codes "Q" ∷ [];
  subscribers = subscribers;
  links = link 0 1 ∷ link 0 2 ∷ link 1 3 ∷ link 1 4 ∷ link 2 5 ∷ link 2 6 ∷ [];
  hosts = 0 ∷ 1 ∷ [];
  homes = map (λ i. 3 + i % 4) (numbers 12);
  filters = map (λ i. Some (filter_at i)) (numbers 12);
  late = [];
  totals = [];
  addresses = None ∷ None ∷ None ∷ None ∷ None ∷ None ∷ None ∷ [];
  clients = None ∷ None ∷ [];
  settings = default_values;
}

-- The steps

abbrev pub event_with : ℕ → ℕ → ℕ → Event
event_with price qty w =
    (codes "price", value.Int (pos price)) ∷ (codes "qty", value.Int (pos qty)) ∷ (codes "sym", value.Text (word w)) ∷ []

-- publish i of all, by P and Q in turn
unfoldable pub publish_step : ℕ → ℕ → ℕ → ℕ → Step
publish_step i price qty w = Publish (if nat_eq (i % 2) 1 then 0 else 1) ((i + 1) / 2) None (event_with price qty w)

-- eight of the frames that may have been sent by turn i, each drawn from x on
abbrev pub deliver_steps : ℕ → ℕ → List Step
deliver_steps i x = map (λ d. Deliver (1 + drawn x (d + 1) (6 * i))) (numbers 8)

-- the leaves are woken at each tenth turn
abbrev pub wake_steps : ℕ → List Step
wake_steps i = if nat_eq (i % 10) 0 then Wake 3 ∷ Wake 4 ∷ Wake 5 ∷ Wake 6 ∷ [] else []

-- one crash a third of the way, and one at two thirds
abbrev pub first_crash : ℕ → ℕ → List Step
first_crash n i = if nat_eq i (n / 3) then Crash 1 ∷ [] else []

abbrev pub second_crash : ℕ → ℕ → List Step
second_crash n i = if nat_eq i (2 * n / 3) then Crash 0 ∷ [] else []

-- turn i of n, with x as it stands before its draws
unfoldable pub turn_steps : ℕ → ℕ → ℕ → List Step
turn_steps n i x =
    Clock (100 * i) ∷ publish_step i (drawn x 1 200) (drawn x 2 1000) (drawn x 3 4) ∷ (deliver_steps i (after x 3)
    ++ (wake_steps i ++ (first_crash n i ++ second_crash n i)))

abbrev pub turns_steps : ℕ → List Step
turns_steps n = flat_map (λ k. turn_steps n (k + 1) (after n (11 * k))) (numbers n)

-- steps, each on a line of its own, where so many lines stand before them
abbrev pub on_lines : ℕ → List Step → List Line
on_lines before [] = []
on_lines before (s ∷ steps) = record { number = before + 1; step = s } ∷ on_lines (before + 1) steps

unfoldable pub soak_steps : ℕ → List Line
soak_steps n = on_lines 0 (turns_steps n ++ Sweep ∷ Show ∷ [])
