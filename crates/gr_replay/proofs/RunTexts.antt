-- The text of what steps tell over a world and lists, cut behind one of them
use Rattle.std.proofs.Common.{◌≡◌, ℕ, ◌+◌, ◌<◌, true, List, [], ◌∷◌, ◌++◌, take, drop, get_or, length, refl, sym, ap, ◌∙◌, subst}
use Rattle.std.proofs.lemmas.List.{take_more, take-append-drop}
use Rattle.gr_sched.specs.declared.step.Line.{Line}
use Rattle.gr_topo.specs.Topology.{TopologyView}
use Rattle.gr_model.specs.declared.report.Report.{Report}
use Rattle.gr_model.specs.Net.{Net}
use Rattle.gr_model.specs.NetOf.{net_of}
use Rattle.gr_model.specs.Orders.{Order, fed, with_orders, orders_of, AreOrdersOf}
use Rattle.gr_model.specs.Text.{Labels, labels_of, report_text}
use Rattle.gr_model.specs.World.{World, Transition, next, run_all, run_from, start_by}
use Rattle.gr_model.proofs.Ordering.{fed_keeps, rested_keeps}
use Rattle.gr_model_theorems.specs.Forgets.{ForgetTheSame}
use Rattle.gr_model_theorems.proofs.server.Lanes.{started_same}
use Rattle.gr_world.specs.Seen.{WorldView, net_in, world_of}
use Rattle.gr_replay.specs.Replayed.{all_lines, replayed_text}
use Rattle.gr_replay.specs.Going.{Tells, with_ready, left_behind, orders_after, step_text, text_from}
use Rattle.gr_replay.specs.Over.{opened_text}
use Rattle.gr_replay.proofs.OrderTexts.{told_append, told_more, after_more, lines_append, lines_more, text_append, replayed_apart}

-- where the steps before one lead, and it
led_behind : (net : Net) (w : World) (steps : List Line) (l : Line) → (run_all net w (steps ++ l ∷ [])).world ≡ (next net (run_all net w steps).world l).world
led_behind net w [] l = refl
led_behind net w (s ∷ steps) l = led_behind net (next net w s).world steps l

-- the same of the first so many steps
pub leads_more : (net : Net) (w : World) (steps : List Line) (i : ℕ) (l : Line) → i < length steps → l ≡ get_or steps i l → (run_all net w (take (i + 1) steps)).world ≡ (next net (run_all net w (take i steps)).world l).world
leads_more net w steps i l h e =
    ap (λ xs. (run_all net w xs).world) (take_more steps i l h ∙ ap (λ x. take i steps ++ x ∷ []) (sym e)) ∙ led_behind net w (take i steps) l

-- the text with one step more, where a world and lists stand between
pub text_step : (first w : WorldView) (os now : List Order) (steps : List Line) (i : ℕ) (l : Line) → i < length steps → l ≡ get_or steps i l → w.topo ≡ first.topo → world_of w ≡ (run_all (net_in first) (world_of first) (take i steps)).world
    → now ≡ orders_after os (run_from (net_in first) (world_of first) (take i steps)) → text_from first os (take (i + 1) steps) ≡ text_from first os (take i steps) ++ step_text w now l
text_step first w os now steps i l h e t u o =
    ap (λ rs. report_text labels (all_lines (with_orders os rs))) (told_more (net_in first) (world_of first) steps i l h e)
    ∙ ap (report_text labels) (lines_more os told (next (net_in first) there l).lines)
    ∙ text_append labels (all_lines (with_orders os told)) (with_ready (orders_after os told) (next (net_in first) there l).lines)
    ∙ ap (λ x. text_from first os (take i steps) ++ report_text labels (with_ready x (next (net_in first) there l).lines)) (sym o)
    ∙ ap (λ x. text_from first os (take i steps) ++ report_text labels (with_ready now (next (net_in first) x l).lines)) (sym u)
    ∙ ap (λ x. text_from first os (take i steps) ++ report_text (labels_of x) (with_ready now (next (net_of x) (world_of w) l).lines)) (sym t)
  where
    labels : Labels
    labels = labels_of first.topo

    told : List (List Report)
    told = run_from (net_in first) (world_of first) (take i steps)

    there : World
    there = (run_all (net_in first) (world_of first) (take i steps)).world

-- where the steps lead with one more
pub leads_step : (first w : WorldView) (steps : List Line) (i : ℕ) (l : Line) (u : World) → i < length steps → l ≡ get_or steps i l → w.topo ≡ first.topo → world_of w ≡ (run_all (net_in first) (world_of first) (take i steps)).world → u ≡ (next (net_in w) (world_of w) l).world → u ≡ (run_all (net_in first) (world_of first) (take (i + 1) steps)).world
leads_step first w steps i l u h e t x n =
    n ∙ ap (λ z. (next (net_of z) (world_of w) l).world) t
    ∙ ap (λ z. (next (net_in first) z l).world) x
    ∙ sym (leads_more (net_in first) (world_of first) steps i l h e)

-- and which lists they leave
pub left_step : (first w : WorldView) (os now left : List Order) (steps : List Line) (i : ℕ) (l : Line) → i < length steps → l ≡ get_or steps i l → w.topo ≡ first.topo → world_of w ≡ (run_all (net_in first) (world_of first) (take i steps)).world
    → now ≡ orders_after os (run_from (net_in first) (world_of first) (take i steps)) → left ≡ left_behind now (next (net_in w) (world_of w) l).lines → left ≡ orders_after os (run_from (net_in first) (world_of first) (take (i + 1) steps))
left_step first w os now left steps i l h e t x o n =
    n ∙ ap (λ z. left_behind now (next (net_of z) (world_of w) l).lines) t
    ∙ ap (λ z. left_behind now (next (net_in first) z l).lines) x
    ∙ ap (λ z. left_behind z (next (net_in first) there l).lines) o
    ∙ sym (ap (orders_after os) (told_more (net_in first) (world_of first) steps i l h e) ∙ after_more os told (next (net_in first) there l).lines)
  where
    told : List (List Report)
    told = run_from (net_in first) (world_of first) (take i steps)

    there : World
    there = (run_all (net_in first) (world_of first) (take i steps)).world

-- the lists that a step leaves are those of the topology
pub left_are : (t : TopologyView) (os left : List Order) (lines : List Report) → AreOrdersOf t os → left ≡ left_behind os lines → AreOrdersOf t left
left_are t os left lines a e = subst (AreOrdersOf t) (sym e) (rested_keeps t (fed os lines) (fed_keeps t os lines a))

-- the text of all steps goes on behind that of the first of them
pub text_rest : (first : WorldView) (os : List Order) (steps : List Line) (k : ℕ) → (rest : List ℕ) × (text_from first os steps ≡ text_from first os (take k steps) ++ rest)
text_rest first os steps k =
    let u = (run_all (net_in first) (world_of first) (take k steps)).world in
    let told = run_from (net_in first) (world_of first) (take k steps) in
    let rest = run_from (net_in first) u (drop k steps) in (
      report_text (labels_of first.topo) (all_lines (with_orders (orders_after os told) rest)),
      ap (text_from first os) (sym (take-append-drop k steps))
          ∙ ap (λ rs. report_text (labels_of first.topo) (all_lines (with_orders os rs))) (told_append (net_in first) (world_of first) (take k steps) (drop k steps))
          ∙ ap (report_text (labels_of first.topo)) (lines_append os told rest)
          ∙ text_append (labels_of first.topo) (all_lines (with_orders os told)) (all_lines (with_orders (orders_after os told) rest)),
    )

-- the lines that a step tells, and what is ready behind them, are its text
pub step_lines : (old new : WorldView) (os : List Order) (l : Line) (lines told : List Report) (t : TopologyView) → t ≡ old.topo → told ≡ lines → Tells l old new lines → report_text (labels_of t) (with_ready os told) ≡ step_text old os l
step_lines old new os l lines told t e s n =
    ap (λ x. report_text (labels_of x) (with_ready os told)) e ∙ ap (λ xs. report_text (labels_of old.topo) (with_ready os xs)) (s ∙ sym (ap (λ (x : Transition). x.lines) n))

-- and which lists they leave
pub step_leaves : (old new : WorldView) (os : List Order) (l : Line) (lines told : List Report) → told ≡ lines → Tells l old new lines → left_behind os told ≡ left_behind os (next (net_in old) (world_of old) l).lines
step_leaves old new os l lines told s n = ap (left_behind os) (s ∙ sym (ap (λ (x : Transition). x.lines) n))

-- where the opening told nothing, what it told and what steps tell is the text of their replay: logs that forget what they cut lead to
-- the lines of the report
pub whole_text : (t : TopologyView) (w : WorldView) (os left : List Order) (slice steps : List Line) → os ≡ orders_of t → left ≡ left_behind os w.told → w.told ≡ [] → slice ≡ steps → w.topo ≡ t → world_of w ≡ start_by true (net_of t)
    → report_text (labels_of w.topo) (with_ready os w.told) ++ text_from w left slice ≡ replayed_text t steps
whole_text t w os left slice steps o l z s e x =
    ap (λ y. report_text (labels_of w.topo) (with_ready y w.told) ++ text_from w left slice) o
    ∙ ap (λ y. report_text (labels_of w.topo) (with_ready (orders_of t) y) ++ text_from w left slice) z
    ∙ ap (λ y. opened ++ text_from w y slice) (l ∙ ap (λ y. left_behind y w.told) o ∙ ap (left_behind (orders_of t)) z)
    ∙ ap (λ y. opened ++ text_from w (left_behind (orders_of t) []) y) s
    ∙ ap (λ y. opened ++ report_text (labels_of w.topo) (all_lines (with_orders (left_behind (orders_of t) []) (run_from (net_in w) y steps)))) x
    ∙ ap (λ y. report_text (labels_of y) (with_ready (orders_of t) []) ++ report_text (labels_of y) (all_lines (with_orders (left_behind (orders_of t) []) (run_from (net_of y) (start_by true (net_of t)) steps)))) e
    ∙ ap (λ rs. report_text (labels_of t) (with_ready (orders_of t) []) ++ report_text (labels_of t) (all_lines (with_orders (left_behind (orders_of t) []) rs))) (let same : ForgetTheSame (net_of t) steps = started_same (net_of t) steps in same.lines)
    ∙ replayed_apart t steps
  where
    opened : List ℕ
    opened = report_text (labels_of w.topo) (with_ready (orders_of t) [])

-- whatever it told, that is the text from the world that was opened
pub over_text : (w : WorldView) (os left : List Order) (slice steps : List Line) → os ≡ orders_of w.topo → left ≡ left_behind os w.told → slice ≡ steps
    → report_text (labels_of w.topo) (with_ready os w.told) ++ text_from w left slice ≡ opened_text w steps
over_text w os left slice steps o l s =
    ap (λ y. report_text (labels_of w.topo) (with_ready os w.told) ++ text_from w y slice) l
    ∙ ap (λ y. report_text (labels_of w.topo) (with_ready y w.told) ++ text_from w (left_behind y w.told) slice) o
    ∙ ap (λ y. report_text (labels_of w.topo) (with_ready (orders_of w.topo) w.told) ++ text_from w (left_behind (orders_of w.topo) w.told) y) s
