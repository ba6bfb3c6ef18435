-- Over every schedule, after each step, each subscriber with one list was told exactly what it is to have of every publisher up to where it has heard them all
use Rattle.std.proofs.Common.{◌≡◌, ℕ, ◌<◌, ◌≤◌, Bool, true, false, if◌then◌else◌, List, [], ◌∷◌, ◌++◌, map, refl, sym, ap, ap₂, ◌∙◌, subst, arith, append-nil}
use Rattle.std.specs.Prelude.{nat_eq}
use Rattle.std.specs.List.{list_any}
use Rattle.std.proofs.lemmas.Grind.{flat_map-append}
use Rattle.std.proofs.lemmas.Bool.{eqb-true}
use Rattle.gr_order.specs.declared.item.Item.{Item}
use Rattle.gr_sched.specs.declared.step.Line.{Line}
use Rattle.gr_model.specs.declared.report.Report.{Report}
use Rattle.gr_model.specs.Net.{Net}
use Rattle.gr_model.specs.Tree.{IsNet, IsSubscriber, IsDistinct}
use Rattle.gr_model.specs.World.{World, Transition, start, run_from_by, report_of_by}
use Rattle.gr_model_calls.specs.OneNet.{next, run_from, report_of, IsOrdered, TotallyOrdered_from, TotallyOrdered}
use Rattle.gr_model.specs.Headline.{History, history_after, begin}
use Rattle.gr_model.specs.Orders.{Order, fed, ordered, without_ordered, fresh_order, orders_over, ordered_steps}
use Rattle.gr_model.specs.Ordered.{ordered_items, items_told, IsMergedOf, heard_upto}
use Rattle.gr_model_calls.specs.Fits.{StepsIn}
use Rattle.gr_model_calls.specs.Steady.{Steady}
use Rattle.gr_model_theorems.proofs.records.Recorded.{begin_lines, after_lines}
use Rattle.gr_model_theorems.proofs.headline.SoFar.{Stands, next_stands, start_stands, gets_now}
use Rattle.gr_model_theorems.proofs.order.Told.{begun}
use Rattle.gr_model_theorems.proofs.order.Hearing.{NonePassed, joined}
use Rattle.gr_model_theorems.proofs.order.Merged.{told_is_expected}
use Rattle.gr_model_theorems.proofs.order.Steadily.{none_passed}

-- the lists behind steps
abbrev orders_after : List Order → List (List Report) → List Order
orders_after os [] = os
orders_after os (ls ∷ rs) = orders_after (without_ordered (fed os ls)) rs

steps_append : (os : List Order) (xs ys : List (List Report)) → ordered_steps os (xs ++ ys) ≡ ordered_steps os xs ++ ordered_steps (orders_after os xs) ys
unfolding ordered_steps
steps_append os [] ys = refl
steps_append os (ls ∷ xs) ys = ap (λ zs. ordered (fed os ls) ∷ zs) (steps_append (without_ordered (fed os ls)) xs ys)

after_append : (os : List Order) (xs : List (List Report)) (ls : List Report) → orders_after os (xs ++ ls ∷ []) ≡ without_ordered (fed (orders_after os xs) ls)
after_append os [] ls = refl
after_append os (x ∷ xs) ls = after_append (without_ordered (fed os x)) xs ls

one_step : (os : List Order) (ls : List Report) → ordered_steps os (ls ∷ []) ≡ ordered (fed os ls) ∷ []
unfolding ordered_steps
one_step os ls = refl

joined_one : (xs : List (List Report)) (ls : List Report) → joined (xs ++ ls ∷ []) ≡ joined xs ++ ls
joined_one xs ls = flat_map-append (λ ys. ys) xs (ls ∷ []) ∙ ap (λ ys. joined xs ++ ys) (append-nil ls)

-- where there is no list nothing is told
none_told : (s : ℕ) (rs : List (List Report)) → items_told s (ordered_steps [] rs) ≡ []
unfolding ordered_steps
none_told s [] = refl
none_told s (ls ∷ rs) = none_told s rs

-- whatever was told, where the lines are those of a subscriber that is there
told_now : (net : Net) (w : World) (h : History) (s : ℕ) (totals : List ℕ) (rs : List (List Report)) → IsDistinct totals → list_any (λ x. nat_eq x s) totals ≡ true → IsSubscriber net s → Stands net w h → h.lines ≡ joined rs
    → IsMergedOf net h s (heard_upto net h.lines s) (items_told s (ordered_steps (orders_over net.publishers totals) rs))
told_now net w h s totals rs apart here y k lines = go (nat_eq net.publishers 0) refl
  where
    passed : NonePassed s (begun net.publishers) rs
    passed = none_passed s net.publishers rs (λ p lt. subst (Steady s p 0 0) lines (k.lines.steady p s lt y)) (λ p m ge. subst (Steady s p m m) lines (k.lines.nothing p s m ge))

    no_one : net.publishers ≡ 0 → (i : Item) → i.publisher < net.publishers → ⊥
    no_one e i lt = omega (arith, e, lt)

    go : (c : Bool) → nat_eq net.publishers 0 ≡ c → IsMergedOf net h s (heard_upto net h.lines s) (items_told s (ordered_steps (if c then [] else map (fresh_order net.publishers) totals) rs))
    go true e = subst (λ xs. IsMergedOf net h s (heard_upto net h.lines s) xs) (sym (none_told s rs)) (record {
      each = λ i. (λ c. absurd (omega (arith, c.1)), λ c. absurd (no_one (eqb-true net.publishers 0 e) i c.0));
      rises = tt;
    })
    go false e = told_is_expected net h s totals rs apart here lines (λ p lt. (gets_now net w h s p k lt y).got) passed

-- how far a run has come: its lines so far, and what was told of them in one order
pub record Come (net : Net) (totals : List ℕ) (h : History) (told : List Report) (os : List Order) (rs : List (List Report)) : Type 0 where
  pub lines : h.lines ≡ joined rs
  pub told_is : told ≡ joined (ordered_steps (orders_over net.publishers totals) rs)
  pub orders : os ≡ orders_after (orders_over net.publishers totals) rs

-- it goes on by lines, which the next history has
pub goes_on : (net : Net) (totals : List ℕ) (h g : History) (told : List Report) (os : List Order) (rs : List (List Report)) (ls : List Report) → g.lines ≡ h.lines ++ ls → Come net totals h told os rs
    → Come net totals g (told ++ ordered (fed os ls)) (without_ordered (fed os ls)) (rs ++ ls ∷ [])
goes_on net totals h g told os rs ls more c = record {
  lines = more ∙ ap (λ xs. xs ++ ls) c.lines ∙ sym (joined_one rs ls);
  told_is =
      ap₂ (λ xs ys. xs ++ ordered (fed ys ls)) c.told_is c.orders
      ∙ sym (joined_one (ordered_steps start_orders rs) (ordered (fed (orders_after start_orders rs) ls)))
      ∙ ap (λ zs. joined (ordered_steps start_orders rs ++ zs)) (sym (one_step (orders_after start_orders rs) ls))
      ∙ ap joined (sym (steps_append start_orders rs (ls ∷ [])));
  orders = ap (λ ys. without_ordered (fed ys ls)) c.orders ∙ sym (after_append start_orders rs ls);
}
  where
    start_orders : List Order
    start_orders = orders_over net.publishers totals

pub is_ordered : (net : Net) (totals : List ℕ) (w : World) (h : History) (told : List Report) (os : List Order) (rs : List (List Report)) → IsDistinct totals → ((s : ℕ) → list_any (λ x. nat_eq x s) totals ≡ true → IsSubscriber net s) → Stands net w h → Come net totals h told os rs → IsOrdered net totals h told
is_ordered net totals w h told os rs apart there k c = λ s here.
    subst (λ ls. IsMergedOf net h s (heard_upto net h.lines s) (ordered_items s ls)) (sym c.told_is) (told_now net w h s totals rs apart here (there s here) k c.lines)

pub from_here : (net : Net) (totals : List ℕ) (w : World) (h : History) (told : List Report) (os : List Order) (rs : List (List Report)) (steps : List Line) → IsNet net → 1 ≤ net.quiet → StepsIn net steps → IsDistinct totals
    → ((s : ℕ) → list_any (λ x. nat_eq x s) totals ≡ true → IsSubscriber net s) → Stands net w h → Come net totals h told os rs
    → TotallyOrdered_from net totals h told steps (run_from net w steps) (ordered_steps os (run_from net w steps))
unfolding ordered_steps run_from_by
from_here net totals w h told os rs [] n z i apart there k c = is_ordered net totals w h told os rs apart there k c
from_here net totals w h told os rs (l ∷ ls) n z i apart there k c =
    let t : Transition = next net w l in (
      is_ordered net totals w h told os rs apart there k c,
      from_here net totals t.world (history_after net h l t.lines) (told ++ ordered (fed os t.lines)) (without_ordered (fed os t.lines)) (rs ++ t.lines ∷ []) ls n z i.1 apart there (next_stands net w h l n z i.0 k) (goes_on net totals h (history_after net h l t.lines) told os rs t.lines (after_lines net h l t.lines) c),
    )

-- nothing is told at the start
none_at_start : (n : ℕ) (ss : List ℕ) → ordered (fed (map (fresh_order n) ss) []) ≡ []
none_at_start n [] = refl
none_at_start n (s ∷ ss) = none_at_start n ss

start_tells : (n : ℕ) (totals : List ℕ) → ordered (fed (orders_over n totals) []) ≡ []
start_tells n totals = go (nat_eq n 0)
  where
    go : (c : Bool) → ordered (fed (if c then [] else map (fresh_order n) totals) []) ≡ []
    go true = refl
    go false = none_at_start n totals

-- behind the lines of a start
pub begins : (net : Net) (totals : List ℕ) (h : History) (ls : List Report) → h.lines ≡ ls
    → Come net totals h (ordered (fed (orders_over net.publishers totals) ls)) (without_ordered (fed (orders_over net.publishers totals) ls)) (ls ∷ [])
begins net totals h ls e = record {
  lines = e ∙ sym (append-nil ls);
  told_is = sym (ap joined (one_step (orders_over net.publishers totals) ls) ∙ append-nil (ordered (fed (orders_over net.publishers totals) ls)));
  orders = refl;
}

begins_empty : (net : Net) (totals : List ℕ) → Come net totals (begin net) [] (without_ordered (fed (orders_over net.publishers totals) [])) ([] ∷ [])
begins_empty net totals = subst (λ told. Come net totals (begin net) told (without_ordered (fed (orders_over net.publishers totals) [])) ([] ∷ [])) (start_tells net.publishers totals) (begins net totals (begin net) [] (begin_lines net))

pub ordered_always : (net : Net) (totals : List ℕ) (steps : List Line) → IsNet net → 1 ≤ net.quiet → StepsIn net steps → IsDistinct totals → ((s : ℕ) → list_any (λ x. nat_eq x s) totals ≡ true → s < net.subscribers)
    → TotallyOrdered net totals steps (report_of net steps) (ordered_steps (orders_over net.publishers totals) (report_of net steps))
unfolding report_of_by ordered_steps
ordered_always net totals steps n z i apart below = (
  start_tells net.publishers totals,
  from_here net totals (start net) (begin net) [] (without_ordered (fed (orders_over net.publishers totals) [])) ([] ∷ []) steps n z i apart (λ s here. n.subscriber s (below s here)) (start_stands net n) (begins_empty net totals),
)
