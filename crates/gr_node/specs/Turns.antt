-- The turns of a run: which request is next, and what one arrival leads to
use Rattle.std.specs.Prelude.{◌≡◌, ◌≢◌, ℕ, ◌≤◌, Bool, true, false, List, [], ◌∷◌, ◌++◌, length, drop, Result, Ok, Err}
use Rattle.std.specs.Prelude.{OnOk}
use Rattle.std.specs.List.{AllByRecursion}
use Rattle.gr_out.specs.declared.fault.RunFault.{RunFault}
use Rattle.gr_out.specs.Lane.{Lane}
use Rattle.gr_topo.specs.Topology.{TopologyView}
use Rattle.gr_sched.specs.declared.step.Line.{Line}
use Rattle.gr_model.specs.Net.{Net}
use Rattle.gr_model.specs.NetOf.{net_of}
use Rattle.gr_model.specs.Arrivals.{Arrival, Request, requests_in, requests_of, left_after}
use Rattle.gr_model_theorems.specs.Served.{IsOfBytes}
use Rattle.gr_node.specs.Seen.{NodeView}
use Rattle.gr_node.specs.Plan.{acts_from, closing}
use Rattle.gr_node.specs.Went.{Outside, Went}
use Rattle.gr_node.specs.Lasting.{ActsKeep}

-- the first of these steps, where there is one, is a request to be carried out here
abbrev pub IsFirst : Net → List ℕ → List Line → Type 0
IsFirst net hosted [] = Unit {0}
IsFirst net hosted (l ∷ ls) = requests_in net hosted l ≢ []

-- the requests that are left after what came
unfoldable pub left_behind : List Request → List Arrival → List Request
left_behind left [] = left
left_behind left (a ∷ came) = left_behind (left_after left a) came

-- what came in a turn that ended so: one arrival, or that nothing comes any more. Where a turn failed it may be that
-- nothing came
abbrev pub CameIn : Result Bool RunFault → List Arrival → Bool → Type 0
CameIn (Ok true) came shut = (length came ≡ 1) × (shut ≡ false)
CameIn (Ok false) came shut = (came ≡ []) × (shut ≡ true)
CameIn (Err e) came shut = (length came ≤ 1) × (shut ≡ false)

-- A turn: what came, its acts as far as they were made, what they did to the lanes, and the requests that are left then
pub record Turned (t : TopologyView) (hosted : List ℕ) (tells keeps : Type 0) (steps : List Line) (next next' : ℕ)
    (n n' : NodeView) (before after : Outside) (lanes lanes' : ℕ → Lane) (result : Result Bool RunFault) : Type 0 where
  pub came : List Arrival
  pub shut : Bool
  pub ends : CameIn result came shut
  pub bytes : AllByRecursion IsOfBytes came
  pub went : Went t hosted tells
      (acts_from (net_of t) hosted (requests_of (net_of t) hosted (drop next steps)) came ++ closing shut)
      n n' before after result
  pub kept : keeps → ActsKeep t hosted n
      (acts_from (net_of t) hosted (requests_of (net_of t) hosted (drop next steps)) came ++ closing shut) lanes lanes'
  pub left : OnOk result (requests_of (net_of t) hosted (drop next' steps)
      ≡ left_behind (requests_of (net_of t) hosted (drop next steps)) came)
