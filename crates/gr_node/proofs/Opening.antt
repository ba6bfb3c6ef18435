-- The hosted brokers' starts are the machine's: where a publisher is at the broker its turn leaves what the broker keeps, where it is
-- not nothing is read of a log; and each broker has its turn once, since they rise
use Rattle.std.proofs.Common.{◌≡◌, ◌≢◌, inl, inr, ℕ, zero, suc, ◌+◌, ◌<◌, ◌≤◌, Bool, true, false, ◌&&◌, ◌||◌, List, [], ◌∷◌, ◌++◌, length, map, filter, get_or, set, Option, Some, None, refl, sym, ap, ap₂, ◌∙◌, subst, arith, length-set, append-nil, append_assoc, flat_map, le_of_eq}
use Rattle.std.specs.Prelude.{is_some, nat_eq, if◌then◌else◌}
use Rattle.std.specs.List.{AllByRecursion, list_any}
use Rattle.std.proofs.lemmas.Bool.{cases_eq, eq-eqb, eqb-true, ne_eqb, both_ways, or_left, or_right, or_parts, false≢true}
use Rattle.std.proofs.lemmas.List.{get_or-set_same, get_or-set_other, set-get_or}
use Rattle.gr_frame.specs.declared.Frame.{Frame}
use Rattle.gr_out.specs.Entry.{Entry}
use Rattle.gr_out.specs.Journal.{is_among}
use Rattle.gr_know.specs.Values.{Known}
use Rattle.gr_event.specs.declared.limits.TheConstants.{MAX_JOINS}
use Rattle.gr_publog.specs.declared.steps.Aside.TheVariants.{Short}
use Rattle.gr_publog.specs.State.{empty_state, IsState}
use Rattle.gr_publog.specs.Views.{LogView}
use Rattle.gr_publog.proofs.Kept.{begins}
use Rattle.gr_topo.specs.Topology.{TopologyView, host_of}
use Rattle.gr_model.specs.declared.report.Report.{Report}
use Rattle.gr_model.specs.Net.{Net, is_host, not_empty, numbers, numbers_from}
use Rattle.gr_model.specs.NetOf.{net_of, IsRising}
use Rattle.gr_model.specs.Broker.{View, Log, Outcome as MachineOutcome, empty_log, log_know, learn, seen, started}
use Rattle.gr_model.specs.World.{World, Transition, blank_view, view_of, log_of, sent_lines, absorbed, unchanged, followed_by, in_turn}
use Rattle.gr_model.specs.Opening.{reopened_log, over_logs, reopened_line, opened_for, opened_for_by}
use Rattle.gr_model_theorems.specs.Forgets.{WasOpened, AllOpened}
use Rattle.gr_model_calls.proofs.runs.Schedules.{get_numbers, length_numbers}
use Rattle.gr_model_theorems.proofs.server.Opening.{over_view}
use Rattle.gr_broker.specs.Seen.{BrokerView, view_in, log_in, log_said, machine_log}
use Rattle.gr_broker.specs.Opened.{opened_at}
use Rattle.gr_broker.proofs.Fresh.{opened_silent}
use Rattle.gr_report.proofs.Along.{flat_map_same}
use Rattle.gr_node.specs.Seen.{NodeView, broker_in, log_at, log_here}
use Rattle.gr_node.specs.Of.{AreHosted}
use Rattle.gr_node.specs.Plan.{Act, binds, starts, settles, bound_entry, act, entries, all_entries}
use Rattle.gr_node.specs.Starting.{HasStarted, lines_of_start, start_lines}
use Rattle.gr_node.proofs.Ordered.{state_ordered}
use Rattle.gr_node.proofs.Taken.{IsShaped, IsNode, some_is}

-- Acts in two parts

pub in_turn_append : {X : Type 0} (f : World → X → Transition) (xs ys : List X) (w : World)
    → in_turn f (xs ++ ys) w ≡ followed_by (in_turn f xs w) (in_turn f ys)
in_turn_append f [] ys w = refl
in_turn_append {X} f (x ∷ xs) ys w =
    let s : Transition = f w x in
    let u : Transition = in_turn f xs s.world in
    let v : Transition = in_turn f ys u.world in
    ap (λ (r : Transition). let m : Transition = record { world = r.world; lines = s.lines ++ r.lines } in m) (in_turn_append f xs ys s.world)
    ∙ ap (λ (ls : List Report). let m : Transition = record { world = v.world; lines = ls } in m) (sym (append_assoc s.lines u.lines v.lines))

pub all_entries_append : (t : TopologyView) (hosted : List ℕ) (w : World) (xs ys : List Act)
    → all_entries t hosted w (xs ++ ys)
    ≡ all_entries t hosted w xs ++ (let u : Transition = in_turn (act (net_of t) hosted) xs w in all_entries t hosted u.world ys)
unfolding all_entries
all_entries_append t hosted w [] ys = refl
all_entries_append t hosted w (a ∷ xs) ys =
    let s : Transition = act (net_of t) hosted w a in
    let u : Transition = in_turn (act (net_of t) hosted) xs s.world in
    ap (λ (es : List Entry). entries t hosted w a ++ es) (all_entries_append t hosted s.world xs ys)
    ∙ sym (append_assoc (entries t hosted w a) (all_entries t hosted s.world xs) (all_entries t hosted u.world ys))

-- Bindings and starts

-- bindings change and tell nothing
pub binds_nothing : (net : Net) (hosted ks : List ℕ) (w : World) → in_turn (act net hosted) (map binds ks) w ≡ unchanged w []
unfolding act
binds_nothing net hosted [] w = refl
binds_nothing net hosted (k ∷ ks) w = binds_nothing net hosted ks w

-- each puts its entry
pub binds_entries : (t : TopologyView) (hosted ks : List ℕ) (w : World) → all_entries t hosted w (map binds ks) ≡ map (bound_entry t hosted) ks
unfolding all_entries entries act
binds_entries t hosted [] w = refl
binds_entries t hosted (k ∷ ks) w = ap (λ (es : List Entry). bound_entry t hosted k ∷ es) (binds_entries t hosted ks w)

-- starts put none
pub starts_entries : (t : TopologyView) (hosted bs : List ℕ) (w : World) → all_entries t hosted w (map starts bs) ≡ []
unfolding all_entries entries
starts_entries t hosted [] w = refl
starts_entries t hosted (b ∷ bs) w =
    let s : Transition = act (net_of t) hosted w (starts b) in starts_entries t hosted bs s.world

-- to tell what is ready in one order changes nothing of the machine, and puts no entry
pub settled_nothing : (net : Net) (hosted : List ℕ) (acts : List Act) (w : World) → in_turn (act net hosted) (settles ∷ acts) w ≡ in_turn (act net hosted) acts w
unfolding act
settled_nothing net hosted acts w = refl

pub settled_entries : (t : TopologyView) (hosted : List ℕ) (w : World) (acts : List Act) → all_entries t hosted w (settles ∷ acts) ≡ all_entries t hosted w acts
unfolding all_entries entries act
settled_entries t hosted w acts = refl

-- Brokers in a list

-- what holds of each holds of one that stands there
pub all_at : (P : ℕ → Type 0) (bs : List ℕ) (b : ℕ) → AllByRecursion P bs → is_among bs b ≡ true → P b
all_at P [] b a e = absurd (false≢true e)
all_at P (c ∷ bs) b a e = elim (cases_eq c b) [
  | inl h ↦ subst P h a.0
  | inr h ↦ all_at P bs b a.1 (ap (λ q. q || is_among bs b) (sym (ne_eqb c b h)) ∙ e)
]

-- a front of a rising list rises
rising_front : (xs ys : List ℕ) → IsRising (xs ++ ys) → IsRising xs
rising_front [] ys r = tt
rising_front (x ∷ xs) ys r = (λ y e. r.0 y (longer xs ys y e), rising_front xs ys r.1)
  where
    longer : (xs ys : List ℕ) (y : ℕ) → list_any (λ z. nat_eq z y) xs ≡ true → list_any (λ z. nat_eq z y) (xs ++ ys) ≡ true
    longer [] ys y e = absurd (false≢true e)
    longer (x ∷ xs) ys y e = elim (cases_eq x y) [
      | inl h ↦ or_left (nat_eq x y) (list_any (λ z. nat_eq z y) (xs ++ ys)) (eq-eqb x y h)
      | inr h ↦ or_right (nat_eq x y) (list_any (λ z. nat_eq z y) (xs ++ ys)) (longer xs ys y (ap (λ q. q || list_any (λ z. nat_eq z y) xs) (sym (ne_eqb x y h)) ∙ e))
    ]

-- One publisher's start

module _ (net : Net) (p b : ℕ) (log : Log) where
  abbrev opened_if : Bool → Bool → MachineOutcome
  opened_if here some =
      let v : View = started net p b log in
      let o : MachineOutcome = learn (seen net v) p b [] v log in
      elim (here && some) [
        | true ↦ record { view = o.view; log = log; lines = reopened_line log p ++ o.lines; frames = o.frames }
        | false ↦ record { view = v; log = log; lines = if here then reopened_line log p else []; frames = [] }
      ]

  opened_by : (here some : Bool) → is_host net p b ≡ here → not_empty (net.subscribers_at b) ≡ some → opened_at net p b log ≡ opened_if here some
  unfolding opened_at
  opened_by here some h s = ap (λ x. opened_if x (not_empty (net.subscribers_at b))) h ∙ ap (opened_if here) s

  -- where the publisher is elsewhere, what is known is nothing, and nothing is told
  view_elsewhere : is_host net p b ≡ false → (opened_at net p b log).view ≡ started net p b log
  view_elsewhere e = ap (λ (o : MachineOutcome). o.view) (opened_by false (not_empty (net.subscribers_at b)) e refl)

  lines_elsewhere : is_host net p b ≡ false → (opened_at net p b log).lines ≡ []
  lines_elsewhere e = ap (λ (o : MachineOutcome). o.lines) (opened_by false (not_empty (net.subscribers_at b)) e refl)

-- no log is looked at there
started_elsewhere : (net : Net) (p b : ℕ) (log other : Log) → is_host net p b ≡ false → started net p b log ≡ started net p b other
unfolding started
started_elsewhere net p b log other e =
    let made : Bool → Log → View = λ here l. record { know = if here then log_know l else []; wants = map (λ _. []) (net.children p b); asks = []; horizon = 0; joins = if here then l.joins else [] } in
    ap (λ here. made here log) e ∙ sym (ap (λ here. made here other) e)

learned_log : (net : Net) (p b : ℕ) (piece : Known) (v : View) (l : Log) → (learn net p b piece v l).log ≡ l
unfolding learn
learned_log net p b piece v l = refl

-- what an opening leaves as it was
pub record Keeps (w u : World) : Type 0 where
  pub clock : u.clock ≡ w.clock
  pub frames : u.frames ≡ w.frames
  pub logs : u.logs ≡ w.logs
  pub views : length u.views ≡ length w.views
  pub rows : (c : ℕ) → length (get_or u.views c []) ≡ length (get_or w.views c [])

keeps_all : (w : World) → Keeps w w
keeps_all w = record { clock = refl; frames = refl; logs = refl; views = refl; rows = λ c. refl }

keeps_on : (u v w : World) → Keeps u v → Keeps v w → Keeps u w
keeps_on u v w a b = record {
  clock = b.clock ∙ a.clock;
  frames = b.frames ∙ a.frames;
  logs = b.logs ∙ a.logs;
  views = b.views ∙ a.views;
  rows = λ c. b.rows c ∙ a.rows c;
}

-- A turn: one view is exchanged
record Turns (w : World) (b p : ℕ) (v : View) (u : World) : Type 0 where
  keeps : Keeps w u
  view : view_of u b p ≡ v
  others : (c q : ℕ) → (c ≡ b → q ≢ p) → view_of u c q ≡ view_of w c q

-- one view is exchanged
module _ (views : List (List View)) (b p : ℕ) (v : View) (row : b < length views) where
  abbrev exchanged : List (List View)
  exchanged = set views b (set (get_or views b []) p v)

  row_here : get_or exchanged b [] ≡ set (get_or views b []) p v
  row_here = get_or-set_same views b (set (get_or views b []) p v) [] row

  row_there : (c : ℕ) → c ≢ b → get_or exchanged c [] ≡ get_or views c []
  row_there c ne = get_or-set_other views b c (set (get_or views b []) p v) [] ne

  rows_long : (c : ℕ) → length (get_or exchanged c []) ≡ length (get_or views c [])
  rows_long c = elim (cases_eq c b) [
    | inl e ↦ subst (λ (k : ℕ). length (get_or exchanged k []) ≡ length (get_or views k [])) (sym e)
        (ap length row_here ∙ length-set (get_or views b []) p v)
    | inr e ↦ ap length (row_there c e)
  ]

  view_here : p < length (get_or views b []) → get_or (get_or exchanged b []) p blank_view ≡ v
  view_here place =
      ap (λ (vs : List View). get_or vs p blank_view) row_here ∙ get_or-set_same (get_or views b []) p v blank_view place

  view_other : (c q : ℕ) → (c ≡ b → q ≢ p) → get_or (get_or exchanged c []) q blank_view ≡ get_or (get_or views c []) q blank_view
  view_other c q ne = elim (cases_eq c b) [
    | inl e ↦ subst (λ (k : ℕ). get_or (get_or exchanged k []) q blank_view ≡ get_or (get_or views k []) q blank_view) (sym e)
        (ap (λ (vs : List View). get_or vs q blank_view) row_here ∙ get_or-set_other (get_or views b []) p q v blank_view (ne e))
    | inr e ↦ ap (λ (vs : List View). get_or vs q blank_view) (row_there c e)
  ]

-- an outcome that sends nothing and leaves the log is taken up
quiet_turn : (w : World) (b p : ℕ) (o : MachineOutcome) → o.frames ≡ [] → o.log ≡ log_of w p → b < length w.views
    → p < length (get_or w.views b []) → Turns w b p o.view (absorbed w b p o).world
unfolding absorbed
quiet_turn w b p o silent same row place = record {
  keeps = record {
    clock = refl;
    frames = ap (λ (fs : List Frame). w.frames ++ fs) silent ∙ append-nil w.frames;
    logs = ap (set w.logs p) same ∙ set-get_or w.logs p empty_log;
    views = length-set w.views b (set (get_or w.views b []) p o.view);
    rows = rows_long w.views b p o.view row;
  };
  view = view_here w.views b p o.view row place;
  others = view_other w.views b p o.view row;
}

no_sent_lines : (k : ℕ) (ls : List Report) (fs : List Frame) → fs ≡ [] → ls ++ sent_lines k fs ≡ ls
no_sent_lines k ls fs e = ap (λ (gs : List Frame). ls ++ sent_lines k gs) e ∙ append-nil ls

absorbed_lines : (w : World) (b p : ℕ) (o : MachineOutcome) → o.frames ≡ [] → (absorbed w b p o).lines ≡ o.lines
unfolding absorbed
absorbed_lines w b p o silent = no_sent_lines (suc (length w.frames)) o.lines o.frames silent

-- the machine's turn of a publisher, at its host, leaves and tells what the broker's start does
record OpensFor (net : Net) (w : World) (p b : ℕ) (log : Log) (u : Transition) : Type 0 where
  world : Turns w b p (opened_at net p b log).view u.world
  lines : u.lines ≡ (opened_at net p b log).lines

module _ (net : Net) (w : World) (p : ℕ) (log : Log) (is_log : log_of w p ≡ log) (fresh : view_of w (net.host p) p ≡ started net p (net.host p) log)
    (row : net.host p < length w.views) (place : p < length (get_or w.views (net.host p) [])) where
  abbrev b : ℕ
  b = net.host p

  abbrev learned : MachineOutcome
  learned = learn (seen net (started net p b log)) p b [] (started net p b log) log

  abbrev learns : MachineOutcome
  learns = learn (seen net (view_of w b p)) p b [] (view_of w b p) (log_of w p)

  learns_same : learns ≡ learned
  learns_same =
      ap (λ (v : View). learn (seen net v) p b [] v (log_of w p)) fresh ∙ ap (λ (l : Log). learn (seen net (started net p b log)) p b [] (started net p b log) l) is_log

  host_here : is_host net p b ≡ true
  host_here = eq-eqb (net.host p) b refl

  -- with a subscriber at the host
  turn_with : not_empty (net.subscribers_at b) ≡ true
      → OpensFor net w p b log (followed_by (unchanged w (reopened_line (log_of w p) p)) (λ u. absorbed u b p (learn (seen net (view_of u b p)) p b [] (view_of u b p) (log_of u p))))
  turn_with some =
      let opened = opened_by net p b log true true host_here some in
      let silent : learns.frames ≡ [] =
      ap (λ (o : MachineOutcome). o.frames) learns_same ∙ (sym (ap (λ (o : MachineOutcome). o.frames) opened) ∙ opened_silent net p b log) in
      let same : learns.view ≡ (opened_at net p b log).view = ap (λ (o : MachineOutcome). o.view) learns_same ∙ sym (ap (λ (o : MachineOutcome). o.view) opened) in
      record {
        world = subst (λ (v : View). Turns w b p v (absorbed w b p learns).world) same
            (quiet_turn w b p learns silent (learned_log (seen net (view_of w b p)) p b [] (view_of w b p) (log_of w p)) row place);
        lines = ap₂ (λ (xs ys : List Report). xs ++ ys) (ap (λ (l : Log). reopened_line l p) is_log) (absorbed_lines w b p learns silent ∙ ap (λ (o : MachineOutcome). o.lines) learns_same)
            ∙ sym (ap (λ (o : MachineOutcome). o.lines) opened);
      }

  -- and without
  turn_alone : not_empty (net.subscribers_at b) ≡ false → OpensFor net w p b log (followed_by (unchanged w (reopened_line (log_of w p) p)) (λ u. unchanged u []))
  turn_alone none =
      let opened = opened_by net p b log true false host_here none in
      record {
        world = record {
          keeps = keeps_all w;
          view = fresh ∙ sym (ap (λ (o : MachineOutcome). o.view) opened);
          others = λ c q ne. refl;
        };
        lines = append-nil (reopened_line (log_of w p) p) ∙ (ap (λ (l : Log). reopened_line l p) is_log ∙ sym (ap (λ (o : MachineOutcome). o.lines) opened));
      }

  turn_is : OpensFor net w p b log (opened_for net w p)
  unfolding opened_for_by
  turn_is = go (not_empty (net.subscribers_at b)) refl
    where
      go : (q : Bool) → not_empty (net.subscribers_at b) ≡ q → OpensFor net w p b log (followed_by (unchanged w (reopened_line (log_of w p) p)) (λ u. elim q [
        | true ↦ absorbed u b p (learn (seen net (view_of u b p)) p b [] (view_of u b p) (log_of u p))
        | false ↦ unchanged u []
      ]))
      go true e = turn_with e
      go false e = turn_alone e

-- One broker's start

-- what a publisher's start leaves and tells over one of these logs
abbrev view_opened : Net → List Log → ℕ → ℕ → View
view_opened net logs b p = let o : MachineOutcome = opened_at net p b (reopened_log logs p) in o.view

abbrev lines_opened : Net → List Log → ℕ → ℕ → List Report
lines_opened net logs b p = let o : MachineOutcome = opened_at net p b (reopened_log logs p) in o.lines

-- so many publishers have had their turn at a broker
record Within (net : Net) (logs : List Log) (b upto : ℕ) (first now : World) : Type 0 where
  keeps : Keeps first now
  turned : (p : ℕ) → p < upto → p < net.publishers → view_of now b p ≡ view_opened net logs b p
  left : (p : ℕ) → upto ≤ p → view_of now b p ≡ view_of first b p
  others : (c q : ℕ) → c ≢ b → view_of now c q ≡ view_of first c q

-- those from one on have their turn
record HasTurns (net : Net) (logs : List Log) (b : ℕ) (ps : List ℕ) (first : World) (u : Transition) : Type 0 where
  world : Within net logs b net.publishers first u.world
  lines : u.lines ≡ flat_map (lines_opened net logs b) ps

-- before a broker's start
record IsFresh (net : Net) (logs : List Log) (b : ℕ) (w : World) : Type 0 where
  row : b < length w.views
  long : length (get_or w.views b []) ≡ net.publishers
  views : (p : ℕ) → p < net.publishers → view_of w b p ≡ started net p b (reopened_log logs p)
  logs_are : (p : ℕ) → p < net.publishers → log_of w p ≡ reopened_log logs p

module _ (net : Net) (logs : List Log) (b : ℕ) (first : World) (fresh : IsFresh net logs b first) where
  -- one publisher at the broker more
  within_here : (p : ℕ) (w : World) → p < net.publishers → net.host p ≡ b → Within net logs b p first w → OpensFor net w p b (reopened_log logs p) (opened_for net w p)
  within_here p w j at k =
      subst (λ (c : ℕ). OpensFor net w p c (reopened_log logs p) (opened_for net w p)) at
      (turn_is net w p (reopened_log logs p) (ap (λ (ls : List Log). get_or ls p empty_log) k.keeps.logs ∙ fresh.logs_are p j)
      (subst (λ (c : ℕ). view_of w c p ≡ started net p c (reopened_log logs p)) (sym at) (k.left p (le_of_eq refl) ∙ fresh.views p j))
      (subst (λ (c : ℕ). c < length w.views) (sym at) (omega (arith, fresh.row, k.keeps.views)))
      (subst (λ (c : ℕ). p < length (get_or w.views c [])) (sym at) (omega (arith, j, fresh.long, k.keeps.rows b))))

  within_turned : (p : ℕ) (w : World) (u : World) → p < net.publishers → Within net logs b p first w → Turns w b p (view_opened net logs b p) u → Within net logs b (suc p) first u
  within_turned p w u j k s = record {
    keeps = keeps_on first w u k.keeps s.keeps;
    turned = λ q upto i. elim (cases_eq q p) [
      | inl e ↦ subst (λ (c : ℕ). view_of u b c ≡ view_opened net logs b c) (sym e) s.view
      | inr e ↦ s.others b q (λ _. e) ∙ k.turned q (omega (arith, upto, e)) i
    ];
    left = λ q from. s.others b q (λ _ e. absurd (omega (arith, from, e))) ∙ k.left q (omega (arith, from));
    others = λ c q ne. s.others c q (λ e. absurd (ne e)) ∙ k.others c q ne;
  }

  -- one publisher elsewhere more
  within_elsewhere : (p : ℕ) (w : World) → p < net.publishers → is_host net p b ≡ false → Within net logs b p first w → Within net logs b (suc p) first w
  within_elsewhere p w j below k = record {
    keeps = k.keeps;
    turned = λ q upto i. elim (cases_eq q p) [
      | inl e ↦ subst (λ (c : ℕ). view_of w b c ≡ view_opened net logs b c) (sym e)
          (k.left p (le_of_eq refl) ∙ (fresh.views p j ∙ sym (view_elsewhere net p b (reopened_log logs p) below)))
      | inr e ↦ k.turned q (omega (arith, upto, e)) i
    ];
    left = λ q from. k.left q (omega (arith, from));
    others = k.others;
  }

  -- all that are left
  turns_from : (a m : ℕ) (w : World) → a + m ≡ net.publishers → Within net logs b a first w
      → HasTurns net logs b (numbers_from a m) first (in_turn (opened_for net) (filter (λ p. is_host net p b) (numbers_from a m)) w)
  turns_from a zero w e k = record {
    world = subst (λ (n : ℕ). Within net logs b n first w) (omega (arith, e)) k;
    lines = refl;
  }
  turns_from a (suc m) w e k =
      let j : a < net.publishers = omega (arith, e) in
      let rest : List ℕ = filter (λ p. is_host net p b) (numbers_from (suc a) m) in
      elim (is_host net a b) as (λ q. is_host net a b ≡ q → HasTurns net logs b (numbers_from a (suc m)) first (in_turn (opened_for net) (if q then a ∷ rest else rest) w)) [
        | true ↦ λ here.
            let one = within_here a w j (eqb-true (net.host a) b here) k in
            let t : Transition = opened_for net w a in
            let more = turns_from (suc a) m t.world (omega (arith, e)) (within_turned a w t.world j k one.world) in
            record { world = more.world; lines = ap₂ (λ (xs ys : List Report). xs ++ ys) one.lines more.lines }
        | false ↦ λ below.
            let more = turns_from (suc a) m w (omega (arith, e)) (within_elsewhere a w j below k) in
            record {
              world = more.world;
              lines = more.lines ∙ ap (λ (xs : List Report). xs ++ flat_map (lines_opened net logs b) (numbers_from (suc a) m)) (sym (lines_elsewhere net a b (reopened_log logs a) below));
            }
      ] refl

  within_first : Within net logs b 0 first first
  within_first = record {
    keeps = keeps_all first;
    turned = λ p upto j. absurd (omega (arith, upto));
    left = λ p from. refl;
    others = λ c q ne. refl;
  }

  -- the broker starts
  start_turns : (hosted : List ℕ) → HasTurns net logs b (numbers net.publishers) first (act net hosted first (starts b))
  unfolding act
  start_turns hosted =
      subst (λ (ps : List ℕ). HasTurns net logs b (numbers net.publishers) first (in_turn (opened_for net) ps first)) (sym (append-nil (filter (λ p. is_host net p b) (numbers net.publishers))))
      (turns_from 0 net.publishers first (omega arith) within_first)

-- Brokers start one after another

-- what is left of them, after their starts
record HaveTurns (net : Net) (logs : List Log) (bs : List ℕ) (first : World) (u : Transition) : Type 0 where
  keeps : Keeps first u.world
  views : (b p : ℕ) → is_among bs b ≡ true → p < net.publishers → view_of u.world b p ≡ view_opened net logs b p
  others : (b p : ℕ) → is_among bs b ≡ false → view_of u.world b p ≡ view_of first b p
  lines : u.lines ≡ flat_map (λ b. flat_map (lines_opened net logs b) (numbers net.publishers)) bs

-- a broker that is less than all of a list does not stand in it
not_among : (b : ℕ) (bs : List ℕ) → ((c : ℕ) → list_any (λ z. nat_eq z c) bs ≡ true → b < c) → is_among bs b ≡ false
not_among b bs less = go (is_among bs b) refl
  where
    go : (q : Bool) → is_among bs b ≡ q → q ≡ false
    go false e = refl
    go true e = absurd (omega (arith, less b e))

fresh_on : (net : Net) (logs : List Log) (b c : ℕ) (w u : World) → c ≢ b → Within net logs b net.publishers w u → IsFresh net logs c w → IsFresh net logs c u
fresh_on net logs b c w u ne k f = record {
  row = omega (arith, f.row, k.keeps.views);
  long = k.keeps.rows c ∙ f.long;
  views = λ p j. k.others c p ne ∙ f.views p j;
  logs_are = λ p j. ap (λ (ls : List Log). get_or ls p empty_log) k.keeps.logs ∙ f.logs_are p j;
}

starts_turn : (net : Net) (logs : List Log) (hosted bs : List ℕ) (w : World) → IsRising bs → ((b : ℕ) → is_among bs b ≡ true → IsFresh net logs b w)
    → HaveTurns net logs bs w (in_turn (act net hosted) (map starts bs) w)
starts_turn net logs hosted [] w r f = record {
  keeps = keeps_all w;
  views = λ b p e j. absurd (false≢true e);
  others = λ b p e. refl;
  lines = refl;
}
starts_turn net logs hosted (b ∷ bs) w r f =
    let t : Transition = act net hosted w (starts b) in
    let one = start_turns net logs b w (f b (or_left (nat_eq b b) (is_among bs b) (eq-eqb b b refl))) hosted in
    let later : is_among bs b ≡ false = not_among b bs r.0 in
    let more = starts_turn net logs hosted bs t.world r.1 (λ c e. fresh_on net logs b c w t.world (λ h. both_ways (is_among bs b) later (ap (is_among bs) (sym h) ∙ e)) one.world (f c (or_right (nat_eq b c) (is_among bs c) e))) in
    record {
      keeps = keeps_on w t.world _ one.world.keeps more.keeps;
      views = λ c p e j. elim (cases_eq b c) [
        | inl h ↦ subst (λ (k : ℕ). view_of (in_turn (act net hosted) (map starts bs) t.world).world k p ≡ view_opened net logs k p) h (more.others b p later ∙ one.world.turned p j j)
        | inr h ↦ more.views c p (ap (λ q. q || is_among bs c) (sym (ne_eqb b c h)) ∙ e) j
      ];
      others = λ c p e. let parts = or_parts (nat_eq b c) (is_among bs c) e in
          more.others c p parts.1 ∙ one.world.others c p (λ h. both_ways (nat_eq b c) parts.0 (eq-eqb b c (sym h)));
      lines = ap₂ (λ (xs ys : List Report). xs ++ ys) one.lines more.lines;
    }

-- The node after its starts

-- the logs of the brokers that have started
abbrev pub logs_found : TopologyView → NodeView → List Log
logs_found t n = map (log_here t n) (numbers (length t.publishers))

pub logs_read : (t : TopologyView) (n : NodeView) (p : ℕ) → p < length t.publishers → get_or (logs_found t n) p empty_log ≡ log_here t n p
logs_read t n p j = get_numbers (log_here t n) 0 (length t.publishers) p empty_log j ∙ ap (log_here t n) (omega arith)

-- a world in which nothing has happened, with its lists as long as the topology says
record IsBegun (t : TopologyView) (w : World) : Type 0 where
  clock : w.clock ≡ 0
  frames : w.frames ≡ []
  views : length w.views ≡ length t.brokers
  rows : (b : ℕ) → b < length t.brokers → length (get_or w.views b []) ≡ length t.publishers
  logs : length w.logs ≡ length t.publishers

module _ (t : TopologyView) (bs : List ℕ) (n : NodeView) (each : AllByRecursion (HasStarted t n) bs)
    (are : (b : ℕ) → is_some (broker_in n b) ≡ is_among bs b) where
  abbrev net : Net
  net = net_of t

  abbrev logs : List Log
  logs = logs_found t n

  started_at : (b : ℕ) (x : BrokerView) → broker_in n b ≡ Some x → HasStarted t n b
  started_at b x e = all_at (HasStarted t n) bs b each (sym (are b) ∙ ap (λ (s : Option BrokerView). is_some s) e)

  same_broker : (b : ℕ) (x : BrokerView) (e : broker_in n b ≡ Some x) → (started_at b x e).broker ≡ x
  same_broker b x e = some_is (sym (started_at b x e).here ∙ e)

  -- Each log was opened
  said_opened : length t.late ≤ MAX_JOINS → (s : Option LogView) → ((l : LogView) → s ≡ Some l → IsState l.state × (l.state.late ≡ t.late)) → WasOpened t.late (log_said s)
  said_opened few None h = record {
    view = record { lane = 0; state = empty_state t.late; broken = false; second = false; generation = 1; size = 33; aside = Short };
    state = begins t.late few;
    late = refl;
    says = refl;
  }
  said_opened few (Some l) h = record { view = l; state = (h l refl).0; late = (h l refl).1; says = refl }

  opened_at_host : length t.late ≤ MAX_JOINS → (s : Option BrokerView) (p : ℕ) → ((x : BrokerView) → s ≡ Some x → WasOpened t.late (machine_log x p)) → WasOpened t.late (log_at s p)
  opened_at_host few None p h = said_opened few None (λ l e. absurd (cc e))
  opened_at_host few (Some x) p h = h x refl

  opened_in : length t.late ≤ MAX_JOINS → (p : ℕ) → WasOpened t.late (log_here t n p)
  opened_in few p = opened_at_host few (broker_in n (host_of t p)) p (λ x e.
      let s = started_at (host_of t p) x e in
      subst (λ (z : BrokerView). WasOpened t.late (machine_log z p)) (same_broker (host_of t p) x e)
      (said_opened few (log_in s.broker p) (λ l h. (s.states p l h, s.fits.late p l h))))

  pub logs_opened : length t.late ≤ MAX_JOINS → AllOpened t.late (logs_found t n)
  logs_opened few = go 0 (length t.publishers)
    where
      go : (a k : ℕ) → AllOpened t.late (map (log_here t n) (numbers_from a k))
      go a zero = tt
      go a (suc k) = (opened_in few a, go (suc a) k)

  -- What a publisher's start leaves and tells over the broker's own log

  log_at_host : (b p : ℕ) (x : BrokerView) → broker_in n b ≡ Some x → p < length t.publishers → host_of t p ≡ b → reopened_log logs p ≡ machine_log x p
  log_at_host b p x e j at =
      logs_read t n p j ∙ ap (λ (s : Option BrokerView). log_at s p) (ap (λ (c : ℕ). broker_in n c) at ∙ e)

  view_same : (b p : ℕ) (x : BrokerView) → broker_in n b ≡ Some x → p < length t.publishers → view_opened net logs b p ≡ (opened_at net p b (machine_log x p)).view
  view_same b p x e j = go (is_host net p b) refl
    where
      go : (q : Bool) → is_host net p b ≡ q → (opened_at net p b (reopened_log logs p)).view ≡ (opened_at net p b (machine_log x p)).view
      go true h = ap (λ (l : Log). (opened_at net p b l).view) (log_at_host b p x e j (eqb-true (host_of t p) b h))
      go false h =
          view_elsewhere net p b (reopened_log logs p) h
          ∙ (started_elsewhere net p b (reopened_log logs p) (machine_log x p) h ∙ sym (view_elsewhere net p b (machine_log x p) h))

  lines_same : (b p : ℕ) (x : BrokerView) → broker_in n b ≡ Some x → p < length t.publishers → lines_opened net logs b p ≡ (opened_at net p b (machine_log x p)).lines
  lines_same b p x e j = go (is_host net p b) refl
    where
      go : (q : Bool) → is_host net p b ≡ q → (opened_at net p b (reopened_log logs p)).lines ≡ (opened_at net p b (machine_log x p)).lines
      go true h = ap (λ (l : Log). (opened_at net p b l).lines) (log_at_host b p x e j (eqb-true (host_of t p) b h))
      go false h = lines_elsewhere net p b (reopened_log logs p) h ∙ sym (lines_elsewhere net p b (machine_log x p) h)

  start_same : (b : ℕ) → HasStarted t n b → flat_map (lines_opened net logs b) (numbers (length t.publishers)) ≡ start_lines t n b
  start_same b s =
      flat_map_same (lines_opened net logs b) (λ p. (opened_at net p b (machine_log s.broker p)).lines) 0 (length t.publishers) (λ p from upto. lines_same b p s.broker s.here (omega (arith, upto)))
      ∙ sym (ap (λ (o : Option BrokerView). lines_of_start t b o) s.here)

  starts_same : (cs : List ℕ) → AllByRecursion (HasStarted t n) cs
      → flat_map (λ b. flat_map (lines_opened net logs b) (numbers (length t.publishers))) cs ≡ flat_map (start_lines t n) cs
  starts_same [] a = refl
  starts_same (c ∷ cs) a = ap₂ (λ (xs ys : List Report). xs ++ ys) (start_same c a.0) (starts_same cs a.1)

  -- The world over the logs
  abbrev over : World
  over = over_logs net logs

  over_log : (p : ℕ) → p < length t.publishers → log_of over p ≡ reopened_log logs p
  unfolding over_logs
  over_log p j = get_numbers (reopened_log logs) 0 (length t.publishers) p empty_log j ∙ ap (reopened_log logs) (omega arith)

  -- how long its lists are, and that nothing has happened
  over_world : IsBegun t over
  unfolding over_logs
  over_world =
      let blank : ℕ → List View = λ b. map (λ p. started net p b (reopened_log logs p)) (numbers net.publishers) in
      record {
        clock = refl;
        frames = refl;
        views = length_numbers blank 0 (length t.brokers);
        rows = λ b j. ap length (get_numbers blank 0 (length t.brokers) b [] j) ∙ length_numbers (λ p. started net p (0 + b) (reopened_log logs p)) 0 net.publishers;
        logs = length_numbers (reopened_log logs) 0 (length t.publishers);
      }

  started_below : (b : ℕ) → is_among bs b ≡ true → b < length t.brokers
  started_below b e = let s = all_at (HasStarted t n) bs b each e in omega (arith, s.fits.number, s.number)

  over_fresh : (b : ℕ) → is_among bs b ≡ true → IsFresh net logs b over
  over_fresh b e =
      let j = started_below b e in
      record {
        row = omega (arith, j, over_world.views);
        long = over_world.rows b j;
        views = λ p k. over_view net logs b p j k;
        logs_are = over_log;
      }

  -- The node is the machine's after its starts
  module _ (hosted rest : List ℕ) (parts : bs ++ rest ≡ hosted) (hosts : AreHosted t hosted) (offers : n.offers ≡ 0) (now : n.now ≡ 0)
      (count : length n.brokers ≡ length t.brokers) where
    abbrev machine : Transition
    machine = in_turn (act net hosted) (map starts bs) over

    turns : HaveTurns net logs bs over machine
    turns = starts_turn net logs hosted bs over (rising_front bs rest (subst IsRising (sym parts) hosts.rising)) over_fresh

    view_now : (b p : ℕ) (x : BrokerView) → broker_in n b ≡ Some x → p < length t.publishers → view_of machine.world b p ≡ view_in x p
    view_now b p x e j =
        let s = started_at b x e in
        turns.views b p (sym (are b) ∙ ap (λ (o : Option BrokerView). is_some o) e) j
        ∙ (view_same b p s.broker s.here j ∙ (sym (s.views p j) ∙ ap (λ (z : BrokerView). view_in z p) (same_broker b x e)))

    shaped_now : (b : ℕ) (x : BrokerView) → broker_in n b ≡ Some x → IsShaped t b x
    shaped_now b x e =
        let s = started_at b x e in
        subst (λ (z : BrokerView). IsShaped t b z) (same_broker b x e) (record {
          number = s.number;
          views = s.fits.views;
          logs = s.fits.logs;
          hosted = λ p j. s.fits.hosted p j ∙ ap (λ (c : ℕ). is_host net p c) s.number;
          ordered = λ p l h. state_ordered l.state (s.states p l h);
        })

    node_now : IsNode t n machine.world
    node_now = record {
      clock = turns.keeps.clock ∙ (over_world.clock ∙ sym now);
      offers = ap length (turns.keeps.frames ∙ over_world.frames) ∙ sym offers;
      views = view_now;
      logs = λ p x e j. ap (λ (ls : List Log). get_or ls p empty_log) turns.keeps.logs ∙ (over_log p j ∙ log_at_host (host_of t p) p x e j refl);
      shaped = shaped_now;
      count = count;
      world_views = turns.keeps.views ∙ over_world.views;
      each_views = λ b j. turns.keeps.rows b ∙ over_world.rows b j;
      world_logs = ap length turns.keeps.logs ∙ over_world.logs;
    }

    lines_now : machine.lines ≡ flat_map (start_lines t n) bs
    lines_now = turns.lines ∙ starts_same bs each

-- what the hosted brokers tell that have started is what the machine tells, and it leaves the node's world
pub opened_is : (t : TopologyView) (hosted bs rest : List ℕ) (n : NodeView) → bs ++ rest ≡ hosted → AreHosted t hosted
    → AllByRecursion (HasStarted t n) bs → ((b : ℕ) → is_some (broker_in n b) ≡ is_among bs b) → n.offers ≡ 0 → n.now ≡ 0
    → length n.brokers ≡ length t.brokers
    → let logs : List Log = map (log_here t n) (numbers (length t.publishers)) in
    let u : Transition = in_turn (act (net_of t) hosted) (map starts bs) (over_logs (net_of t) logs) in
    (u.lines ≡ flat_map (start_lines t n) bs) × IsNode t n u.world
opened_is t hosted bs rest n parts hosts each are offers now count =
    (lines_now t bs n each are hosted rest parts hosts offers now count, node_now t bs n each are hosted rest parts hosts offers now count)
