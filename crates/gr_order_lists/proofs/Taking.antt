-- Steps of a list: an event is taken, lines are heard, and lines are told
use Rattle.std.proofs.Common.{◌≡◌, ℕ, suc, ◌+◌, ◌<◌, ◌≤◌, List, [], ◌∷◌, ◌++◌, Result, Ok, Err, length, map, get_or, set, drop, refl, sym, ap, ◌∙◌, subst, arith, append_assoc, append-nil}
use Rattle.std.specs.Prelude.{OnOk}
use Rattle.std.proofs.lemmas.List.{drop_more, drop_all}
use Rattle.gr_event.specs.declared.event.Event.{Event}
use Rattle.gr_order.specs.declared.item.Item.{Item}
use Rattle.gr_order.specs.Merge.{MergeView, with_item, without_ready}
use Rattle.gr_model.specs.declared.report.Report.{Report}
use Rattle.gr_model.specs.Orders.{Order, IsOrder, heard, fed, ordered_line}
use Rattle.gr_model.proofs.Ordering.{taken_fits}
use Rattle.gr_order_lists.proofs.PlacedLists.{fed_next, fed_none}

-- what follows where a call succeeds
pub on_ok : {T E : Type 0} {P Q : Type 0} (r : Result T E) → (P → Q) → OnOk r P → OnOk r Q
on_ok (Ok x) f h = f h
on_ok (Err e) f h = tt

-- an event is taken, with the place as the code has it
pub taken_at : (m m2 : MergeView) (reached : List ℕ) (p q t : ℕ) (e : Event) → IsOrder m reached → q ≡ p → m2 ≡ with_item m (record { publisher = p; tick = t; event = e }) → q < length reached → get_or reached q 0 < t → IsOrder m2 (set reached q t)
taken_at m m2 reached p q t e o same is lt past =
    subst (λ (z : MergeView). IsOrder z (set reached q t)) (sym (is ∙ ap (λ k. with_item m (record { publisher = k; tick = t; event = e })) (sym same)))
    (taken_fits m reached (record { publisher = q; tick = t; event = e }) o lt past)

-- the next of what is left
next_left : {A : Type 0} (xs : List A) (i : ℕ) (x : A) → i < length xs → x ≡ get_or xs i x → drop i xs ≡ x ∷ drop (i + 1) xs
next_left xs i x lt e = drop_more xs i x lt ∙ ap (λ y. y ∷ drop (i + 1) xs) (sym e)

-- one line is heard, and then those that are left
pub hears_on : (old now new : List Order) (lines : List Report) (i : ℕ) (l : Report) → fed now (drop i lines) ≡ fed old lines → i < length lines → l ≡ get_or lines i l → new ≡ map (λ o. heard o l) now → fed new (drop (i + 1) lines) ≡ fed old lines
hears_on old now new lines i l inv lt is e =
    ap (λ xs. fed xs (drop (i + 1) lines)) e ∙ fed_next now l (drop (i + 1) lines) ∙ ap (fed now) (sym (next_left lines i l lt is)) ∙ inv

pub heard_through : (old now : List Order) (lines : List Report) (i : ℕ) → fed now (drop i lines) ≡ fed old lines → length lines ≤ i → now ≡ fed old lines
heard_through old now lines i inv h = sym (ap (fed now) (drop_all i lines h) ∙ fed_none now) ∙ inv

-- one line is told, and then those that are left
pub tells_on : (s : ℕ) (all lines new : List Report) (items : List Item) (i : ℕ) (x : Item) → lines ++ map (ordered_line s) (drop i items) ≡ all → i < length items → x ≡ get_or items i x → new ≡ lines ++ ordered_line s x ∷ []
    → new ++ map (ordered_line s) (drop (i + 1) items) ≡ all
tells_on s all lines new items i x inv lt is e =
    ap (λ xs. xs ++ map (ordered_line s) (drop (i + 1) items)) e ∙ append_assoc lines (ordered_line s x ∷ []) (map (ordered_line s) (drop (i + 1) items))
    ∙ ap (λ xs. lines ++ map (ordered_line s) xs) (sym (next_left items i x lt is)) ∙ inv

pub told_through : (s : ℕ) (all lines : List Report) (items : List Item) (i : ℕ) → lines ++ map (ordered_line s) (drop i items) ≡ all → length items ≤ i → lines ≡ all
told_through s all lines items i inv h = sym (ap (λ xs. lines ++ map (ordered_line s) xs) (drop_all i items h) ∙ append-nil lines) ∙ inv
