-- What a run of all brokers tells over an honest journal is by the rules of its calls, since each arrival does what its steps do
use Rattle.std.proofs.Common.{◌≡◌, List, [], ◌∷◌, ◌++◌, refl, sym, ap, ◌∙◌, subst}
use Rattle.gr_sched.specs.declared.step.Line.{Line}
use Rattle.gr_model.specs.declared.report.Report.{Report}
use Rattle.gr_model.specs.Net.{Net, numbers}
use Rattle.gr_model.specs.Tree.{IsNet}
use Rattle.gr_model.specs.Broker.{Log}
use Rattle.gr_model.specs.World.{World, Transition, show}
use Rattle.gr_model.specs.Arrivals.{Arrival, Request, requests_of, left_after, served, served_by, served_from_by, arrived_by}
use Rattle.gr_model_calls.specs.OneNet as one
use Rattle.gr_model_calls.proofs.runs.Schedules.{report_lines}
use Rattle.gr_model_theorems.specs.ByRules.{RunByRules, shown}
use Rattle.gr_model_theorems.specs.Forgets.{kept_logs}
use Rattle.gr_model_theorems.specs.Lanes.{lanes_net, IsServedOverLanes}
use Rattle.gr_model_theorems.specs.Served.{IsHonestRun, AllDoSteps, steps_of_arrival, dropped_line}
use Rattle.gr_model_theorems.specs.Statements.{opened_over, served_end, ArrivalsDoSteps, IsServedRun}
use Rattle.gr_model_theorems.proofs.joins.Served.{ServedAsOne, served_as_one}
use Rattle.gr_model_theorems.proofs.server.OpensByRules.{opens_by_rules}
use Rattle.gr_model_theorems.proofs.server.Serving.{shown as all_shown}
use Rattle.gr_node.specs.Obeyed.{ComeByRules, ServedByRules, ObeysRules, AloneObeysRules}
use Rattle.gr_node.proofs.ObeyedOnce.{only_one_obeys}

-- a run over logs that forget is one over logs that keep their events
pub served_kept : (net : Net) (logs : List Log) (steps : List Line) (arrivals : List Arrival) → IsServedOverLanes net logs steps arrivals
    → served net (numbers net.brokers) logs steps arrivals ≡ served net (numbers net.brokers) (kept_logs logs) steps arrivals → IsServedRun net (kept_logs logs) steps arrivals
served_kept net logs steps arrivals s same = record {
  over = record { asked = s.over.asked; reopened_cuts = s.over.found };
  brokers = s.brokers;
  publishers = s.publishers;
  late = s.late;
  numbers_in = s.numbers_in;
  bytes = s.bytes;
  honest = subst (IsHonestRun arrivals) same s.honest;
}

-- what is shown is written once for the machine and once for the rules
show_is : (net : Net) (w : World) → show net w ≡ shown net w
unfolding show
show_is net w = refl

-- where each arrival does what its steps do, what they tell is by the rules
come_by_rules : (net : Net) (arrivals : List Arrival) (w : World) (told : List Report) (left : List Request) → IsNet net → AllDoSteps net w told left arrivals
    → ComeByRules net w told left arrivals (one.served_from net (numbers net.brokers) w left arrivals) (one.arrived net (numbers net.brokers) w left arrivals)
unfolding served_from_by arrived_by
come_by_rules net [] w told left n does = (ap (λ (ls : List Report). ls ∷ []) (all_shown net w n ∙ show_is net w), refl)
come_by_rules net (a ∷ arrivals) w told left n does =
    let t : Transition = one.comes net (numbers net.brokers) w left a in
    let steps : List Line = steps_of_arrival net told left a in
    let x = does.1 in
    record {
      parts = one.run_from net w steps;
      after = t.world;
      happens = subst (RunByRules net w steps (one.run_from net w steps)) (sym x.world) x.by_rules;
      lines = x.lines ∙ ap (λ (ls : List Report). ls ++ dropped_line net a) (sym (report_lines net w steps));
      rest = come_by_rules net arrivals t.world (told ++ t.lines) (left_after left a) n does.2;
    }

-- and so is the whole run, behind its start
obeys_rules : (net : Net) (logs : List Log) (steps : List Line) (arrivals : List Arrival) → IsServedRun net (kept_logs logs) steps arrivals → ArrivalsDoSteps net (kept_logs logs) steps arrivals
    → served net (numbers net.brokers) logs steps arrivals ≡ served net (numbers net.brokers) (kept_logs logs) steps arrivals → ObeysRules net logs steps arrivals (served net (numbers net.brokers) logs steps arrivals)
unfolding served_by
obeys_rules net logs steps arrivals s does same =
    let kept : List Log = kept_logs logs in
    let g : Net = lanes_net net logs steps arrivals in
    let left : List Request = requests_of net (numbers net.brokers) steps in
    let o : Transition = opened_over g kept in
    let asked = s.over.asked in
    let x : ServedAsOne net kept steps arrivals = served_as_one net kept steps arrivals asked.tree (record { brokers = s.brokers; publishers = s.publishers; late = s.late }) asked.quiet asked.retry s.over.reopened_cuts asked.steps_in s.numbers_in s.bytes s.honest in
    let rs : List (List Report) = o.lines ∷ one.served_from g (numbers net.brokers) o.world left arrivals in
    let reports : served net (numbers net.brokers) logs steps arrivals ≡ rs = same ∙ x.reports in
    subst (ObeysRules net logs steps arrivals) (sym reports) (record {
      left = served_end net kept steps arrivals;
      run = subst (ServedByRules g kept steps arrivals rs) (sym x.ends) (record {
        opened = o.world;
        opens = opens_by_rules g kept x.tree x.reopened;
        rest = come_by_rules g arrivals o.world o.lines left x.tree
            (subst (λ (t : Transition). AllDoSteps g t.world t.lines left arrivals) does.opens does.does);
      });
    })

-- and nothing else is
pub obeys_alone : (net : Net) (logs : List Log) (steps : List Line) (arrivals : List Arrival) → IsServedRun net (kept_logs logs) steps arrivals → ArrivalsDoSteps net (kept_logs logs) steps arrivals
    → served net (numbers net.brokers) logs steps arrivals ≡ served net (numbers net.brokers) (kept_logs logs) steps arrivals → AloneObeysRules net logs steps arrivals (served net (numbers net.brokers) logs steps arrivals)
obeys_alone net logs steps arrivals s does same =
    let asked = s.over.asked in
    let here = obeys_rules net logs steps arrivals s does same in
    record {
      obeys = here;
      alone = λ other obeyed. only_one_obeys net logs steps arrivals (served net (numbers net.brokers) logs steps arrivals) other asked.tree asked.quiet s.over.reopened_cuts asked.steps_in s.numbers_in s.bytes here obeyed;
    }
