-- What steps tell with what the lists tell behind each, cut behind one of them
use Rattle.std.proofs.Common.{◌≡◌, ℕ, Bool, true, false, ◌+◌, ◌<◌, if◌then◌else◌, List, [], ◌∷◌, ◌++◌, take, get_or, length, map, refl, sym, ap, ◌∙◌}
use Rattle.std.specs.Prelude.{nat_eq}
use Rattle.std.proofs.lemmas.List.{append-nil, take_more}
use Rattle.std.proofs.lemmas.Grind.{flat_map-append}
use Rattle.gr_sched.specs.declared.step.Line.{Line}
use Rattle.gr_topo.specs.Topology.{TopologyView, totals_of}
use Rattle.gr_model.specs.declared.report.Report.{Report}
use Rattle.gr_model.specs.Net.{Net}
use Rattle.gr_model.specs.NetOf.{net_of}
use Rattle.gr_model.specs.Orders.{Order, fed, ordered, with_orders, fresh_order, orders_of}
use Rattle.gr_model.specs.Text.{Labels, labels_of, whole_line, report_text}
use Rattle.gr_model.specs.World.{World, next, run_all, run_from, run_from_by, report_of_by, start}
use Rattle.gr_replay.specs.Replayed.{all_lines, replayed_text}
use Rattle.gr_replay.specs.Going.{with_ready, left_behind, orders_after}

-- what steps tell is what the first of them tell, and then the rest
pub told_append : (net : Net) (w : World) (xs ys : List Line) → run_from net w (xs ++ ys) ≡ run_from net w xs ++ run_from net (run_all net w xs).world ys
unfolding run_from_by
told_append net w [] ys = refl
told_append net w (l ∷ xs) ys = ap (λ rs. (next net w l).lines ∷ rs) (told_append net (next net w l).world xs ys)

told_alone : (net : Net) (w : World) (l : Line) → run_from net w (l ∷ []) ≡ (next net w l).lines ∷ []
unfolding run_from_by
told_alone net w l = refl

-- the same with one step more
pub told_more : (net : Net) (w : World) (steps : List Line) (i : ℕ) (l : Line) → i < length steps → l ≡ get_or steps i l
    → run_from net w (take (i + 1) steps) ≡ run_from net w (take i steps) ++ (next net (run_all net w (take i steps)).world l).lines ∷ []
told_more net w steps i l h e =
    ap (run_from net w) (take_more steps i l h ∙ ap (λ x. take i steps ++ x ∷ []) (sym e))
    ∙ told_append net w (take i steps) (l ∷ [])
    ∙ ap (λ rs. run_from net w (take i steps) ++ rs) (told_alone net (run_all net w (take i steps)).world l)

-- the lists go on behind the first steps
pub with_append : (os : List Order) (xs ys : List (List Report)) → with_orders os (xs ++ ys) ≡ with_orders os xs ++ with_orders (orders_after os xs) ys
unfolding with_orders
with_append os [] ys = refl
with_append os (ls ∷ xs) ys = ap (λ zs. with_ready os ls ∷ zs) (with_append (left_behind os ls) xs ys)

with_one : (os : List Order) (ls : List Report) → with_orders os (ls ∷ []) ≡ with_ready os ls ∷ []
unfolding with_orders
with_one os ls = refl

-- and so do the lists that are left
pub after_more : (os : List Order) (xs : List (List Report)) (ls : List Report) → orders_after os (xs ++ ls ∷ []) ≡ left_behind (orders_after os xs) ls
after_more os [] ls = refl
after_more os (x ∷ xs) ls = after_more (left_behind os x) xs ls

-- all lines with those of more steps
pub lines_append : (os : List Order) (xs ys : List (List Report)) → all_lines (with_orders os (xs ++ ys)) ≡ all_lines (with_orders os xs) ++ all_lines (with_orders (orders_after os xs) ys)
lines_append os xs ys = ap all_lines (with_append os xs ys) ∙ flat_map-append (λ lines. lines) (with_orders os xs) (with_orders (orders_after os xs) ys)

-- with those of one
pub lines_more : (os : List Order) (xs : List (List Report)) (ls : List Report) → all_lines (with_orders os (xs ++ ls ∷ [])) ≡ all_lines (with_orders os xs) ++ with_ready (orders_after os xs) ls
lines_more os xs ls =
    lines_append os xs (ls ∷ [])
    ∙ ap (λ rs. all_lines (with_orders os xs) ++ all_lines rs) (with_one (orders_after os xs) ls)
    ∙ ap (λ rs. all_lines (with_orders os xs) ++ rs) (append-nil (with_ready (orders_after os xs) ls))

-- the text of lines and of lines behind them
pub text_append : (labels : Labels) (xs ys : List Report) → report_text labels (xs ++ ys) ≡ report_text labels xs ++ report_text labels ys
text_append labels xs ys = flat_map-append (whole_line labels) xs ys

-- the text of a whole replay: what the start tells, which is nothing, with what is ready then, and what the steps tell
pub replayed_apart : (t : TopologyView) (steps : List Line)
    → report_text (labels_of t) (with_ready (orders_of t) []) ++ report_text (labels_of t) (all_lines (with_orders (left_behind (orders_of t) []) (run_from (net_of t) (start (net_of t)) steps))) ≡ replayed_text t steps
unfolding report_of_by with_orders
replayed_apart t steps =
    sym (text_append (labels_of t) (with_ready (orders_of t) []) (all_lines (with_orders (left_behind (orders_of t) []) (run_from (net_of t) (start (net_of t)) steps))))

-- nothing is ready at the start
none_ready : (n : ℕ) (ss : List ℕ) → ordered (fed (map (fresh_order n) ss) []) ≡ []
none_ready n [] = refl
none_ready n (s ∷ ss) = none_ready n ss

ready_at_start : (t : TopologyView) → with_ready (orders_of t) [] ≡ []
ready_at_start t = go (nat_eq (length t.publishers) 0)
  where
    go : (c : Bool) → ordered (fed (if c then [] else map (fresh_order (length t.publishers)) (totals_of t)) []) ≡ []
    go true = refl
    go false = none_ready (length t.publishers) (totals_of t)

no_steps : (net : Net) (w : World) (os : List Order) → all_lines (with_orders os (run_from net w [])) ≡ []
unfolding run_from_by with_orders
no_steps net w os = refl

-- no steps tell nothing
pub replayed_none : (t : TopologyView) → replayed_text t [] ≡ []
replayed_none t =
    sym (replayed_apart t [])
    ∙ ap (λ xs. report_text (labels_of t) xs ++ report_text (labels_of t) (all_lines (with_orders (left_behind (orders_of t) []) (run_from (net_of t) (start (net_of t)) [])))) (ready_at_start t)
    ∙ ap (report_text (labels_of t)) (no_steps (net_of t) (start (net_of t)) (left_behind (orders_of t) []))
