-- What the top call promises
use Rattle.std.specs.Prelude.{◌≡◌, ℕ, ◌⊎◌, List, Option}
use Rattle.gr_out.specs.Bytes.{with_more}
use Rattle.gr_out.specs.Page.{TakesFront}
use Rattle.gr_sched.specs.declared.step.Line.{Line}
use Rattle.gr_topo.specs.Topology.{TopologyView, totals_of}
use Rattle.gr_model.specs.declared.report.Report.{Report}
use Rattle.gr_model.specs.Headline.{Headline}
use Rattle.gr_model.specs.NetOf.{net_of}
use Rattle.gr_model.specs.Ordered.{OneOrder, TotallyOrdered}
use Rattle.gr_model.specs.Orders.{orders_of, ordered_steps, with_orders}
use Rattle.gr_model.specs.Text.{labels_of, report_text}
use Rattle.gr_model_theorems.specs.Replies.{Replied}
use Rattle.gr_scenario.specs.declared.asked.Asked.{Asked}
use Rattle.gr_scenario.specs.declared.asked.Asked.TheVariants.{Scenario}
use Rattle.gr_replay.specs.Replayed.{all_lines}
use Rattle.gr_top.specs.Answers.{Answer}
use Rattle.gr_top.specs.Behind.{AreBehind}
use Rattle.gr_top.specs.Joining.{IsByRules, joined_by, LateGetPastJoin}
use Rattle.gr_top.specs.Swept.{SweepsSettle}

-- the text of a report: the lines of each step, and behind them what is ready then in the one list of each subscriber
-- that gets one
abbrev pub printed_text : TopologyView → List (List Report) → List ℕ
printed_text t report = report_text (labels_of t) (all_lines (with_orders (orders_of t) report))

-- A report of a schedule over a topology is the one that the rules allow, and meets the headline
pub record MeetsHeadline (t : TopologyView) (lines : List Line) (report : List (List Report)) : Type 0 where
  -- each step makes its calls, and each call forwards, asks, acknowledges, tells and keeps what its rule says; the
  -- lines are those of the calls and frames in their order
  pub by_rules : IsByRules (net_of t) lines report
  -- no other report is one by the rules
  pub alone : (other : List (List Report)) → IsByRules (net_of t) lines other → other ≡ report
  -- recorded lines, delivered exactly, doubt horizons, horizons rise and discarded only after delivery, step by step
  pub headline : Headline (net_of t) lines report
  -- a late subscriber has exactly the events past its join that its filter matches, and nothing while it has none
  pub late : LateGetPastJoin (net_of t) lines report
  -- each step is refused, and bytes are shown, exactly where the schedule and the frames sent demand it; sent lines are
  -- numbered 1, 2, 3 and so on
  pub replied : Replied (net_of t) lines report
  -- each sweep that is not refused settles everything: afterwards each subscriber has all that is recorded for it
  pub settled : SweepsSettle (net_of t) lines report
  -- what is printed of each step are its lines, and behind them what is ready in the one list of each subscriber that
  -- gets one
  pub behind : AreBehind (with_orders (orders_of t) report) report (ordered_steps (orders_of t) report)
  -- that is, after each step each of these was told exactly what all publishers have up to where it has heard them all,
  -- each event once, rising by tick and then publisher
  pub ordered : TotallyOrdered (net_of t) (totals_of t) lines report (ordered_steps (orders_of t) report)
  -- and of two of these that want the same, late ones by the joins that they have in the end, at any two steps, one
  -- list begins with the other
  pub one_order : OneOrder (joined_by (net_of t) lines report) (totals_of t) (ordered_steps (orders_of t) report)

-- A schedule over a topology was asked for, and a report that meets the headline was taken whole
pub record WasReplayed (old new : Option (List ℕ)) (asked : Asked) : Type 0 where
  pub topology : TopologyView
  pub lines : List Line
  pub schedule : asked ≡ Scenario topology lines
  pub report : List (List Report)
  pub meets : MeetsHeadline topology lines report
  pub taken : new ≡ with_more old (printed_text topology report)

-- A front was taken of a report of this schedule that meets the headline
pub record WasCut (topology : TopologyView) (lines : List Line) (old new : Option (List ℕ)) : Type 0 where
  pub report : List (List Report)
  pub meets : MeetsHeadline topology lines report
  pub front : TakesFront old new (printed_text topology report)

-- what holds of a topology and a schedule, where they are asked for
abbrev pub OnScenario : Asked → (TopologyView → List Line → Type 0) → Type 0
OnScenario (Scenario t lines) P = P t lines
OnScenario _ P = Unit {0}

-- where a schedule was asked for, nothing was taken, or a front of such a report
abbrev pub AtMostCut : Option (List ℕ) → Option (List ℕ) → Asked → Type 0
AtMostCut old new asked = OnScenario asked (λ t lines. (new ≡ old) ⊎ WasCut t lines old new)

-- the status is that of the answer, and the sink took its text whole
pub record IsAnswered (status : ℕ) (old new : Option (List ℕ)) (answer : Answer) : Type 0 where
  pub same : status ≡ answer.status
  pub taken : new ≡ with_more old answer.text

-- a status that comes once all is printed
abbrev pub IsWhole : ℕ → Type 0
IsWhole status = (status ≡ 0) ⊎ ((status ≡ 1) ⊎ ((status ≡ 2) ⊎ (status ≡ 9)))

-- a status that comes once a part is printed
abbrev pub IsCut : ℕ → Type 0
IsCut status = (status ≡ 4) ⊎ (status ≡ 7)

-- a status that comes where a run was stopped: by the disk, by lanes that hold no log, or by the post
abbrev pub IsStop : ℕ → Type 0
IsStop status = (status ≡ 5) ⊎ ((status ≡ 6) ⊎ (status ≡ 8))
