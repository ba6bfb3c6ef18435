-- What a client was answered lasts: the log of the time of the answer has every number below the one that was offered, and what a crash
-- may have left since then goes on from it
use Rattle.std.proofs.Common.{◌≡◌, ℕ, suc, ◌^◌, ◌<◌, ◌≤◌, true, List, [], ◌∷◌, ◌++◌, length, map, take, drop, sym, ap, ◌∙◌, arith, append_assoc}
use Rattle.std.specs.List.{list_any}
use Rattle.std.proofs.lemmas.List.{take-append-drop}
use Rattle.gr_publog.specs.Views.{Lanes, MayLeavePair}
use Rattle.gr_pubend.specs.Log.{Log}
use Rattle.gr_sched.specs.declared.step.Line.{Line}
use Rattle.gr_topo.specs.Topology.{TopologyView}
use Rattle.gr_model.specs.Net.{Net}
use Rattle.gr_model.specs.NetOf.{net_of}
use Rattle.gr_model.specs.World.{log_of}
use Rattle.gr_model.specs.Arrivals.{Request, requests_of}
use Rattle.gr_node.specs.Lasting.{HoldsOnward, Along, Lasts}
use Rattle.gr_node.specs.Plan.{Act, binds, starts, settles, shows, acts_from, closing, nodes, plan, all_entries}
use Rattle.gr_node.specs.Turns.{left_behind}
use Rattle.gr_node.specs.Served.{Course, world_before, acts_upto, world_upto}
use Rattle.gr_node.specs.Submitted.{AreFirst, offers_next, HasNumbers}
use Rattle.gr_node.proofs.Lasting.{along_as}
use Rattle.gr_node.proofs.SoFar.{acts_later}
use Rattle.gr_node.proofs.Submitting.{next_answered}

-- the acts of the first arrivals are the first of the plan
pub upto_are_first : (t : TopologyView) (hosted : List ℕ) (steps : List Line) (c : Course) (k : ℕ) → AreFirst t hosted steps c (acts_upto t hosted steps c k)
unfolding plan
upto_are_first t hosted steps c k = record {
  left = behind ++ (closing c.closed ++ shows ∷ []);
  parts =
      append_assoc bound (started ++ (settles ∷ upto)) (behind ++ (closing c.closed ++ shows ∷ []))
      ∙ ap (λ acts. bound ++ acts)
      (append_assoc started (settles ∷ upto) (behind ++ (closing c.closed ++ shows ∷ []))
      ∙ ap (λ acts. started ++ (settles ∷ acts))
      (sym (append_assoc upto behind (closing c.closed ++ shows ∷ []))
      ∙ (ap (λ acts. acts ++ (closing c.closed ++ shows ∷ [])) (sym all)
      ∙ sym (append_assoc (acts_from net hosted requests c.came) (closing c.closed) (shows ∷ [])))));
}
  where
    net : Net
    net = net_of t

    requests : List Request
    requests = requests_of net hosted steps

    bound : List Act
    bound = map binds (nodes t hosted)

    started : List Act
    started = map starts hosted

    upto : List Act
    upto = acts_from net hosted requests (take k c.came)

    behind : List Act
    behind = acts_from net hosted (left_behind requests (take k c.came)) (drop k c.came)

    all : acts_from net hosted requests c.came ≡ upto ++ behind
    all = ap (acts_from net hosted requests) (sym (take-append-drop k c.came)) ∙ acts_later net hosted requests (take k c.came) (drop k c.came)

pub answer_lasts : (t : TopologyView) (hosted : List ℕ) (steps : List Line) (c : Course) (k p n : ℕ) (mid after : Lanes) → p < length t.publishers → n < 2 ^ 64
    → list_any (offers_next p n) (all_entries t hosted (world_before t c) (acts_upto t hosted steps c k)) ≡ true
    → (l : Lasts t.late (log_of (world_upto t hosted steps c k) p) mid after)
    → ((a b : List ℕ) → MayLeavePair mid a b → HasNumbers t.late n a b) × Along (HasNumbers t.late n) mid l.parts after
answer_lasts t hosted steps c k p n mid after below small offered l =
    ((λ a b left. has a b (l.first a b left)), along_as (HoldsOnward t.late log) (HasNumbers t.late n) has mid after l.parts l.since)
  where
    log : Log
    log = log_of (world_upto t hosted steps c k) p

    logged : n ≤ suc log.last
    logged = next_answered t hosted steps c (acts_upto t hosted steps c k) (upto_are_first t hosted steps c k) p n below small offered

    has : (a b : List ℕ) → HoldsOnward t.late log a b → HasNumbers t.late n a b
    has a b h = let grown : log.last ≤ h.0.last = h.2.last in (h.0, h.1, omega (arith, logged, grown))
