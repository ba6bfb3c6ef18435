-- Of two subscribers with one list that want the same, one list begins with the other, at any two steps. Behind the last step each list is merged of the same events, up to a tick of its own, and what was told up to a step is a front of what is told then
use Rattle.std.proofs.Common.{◌≡◌, ◌⊎◌, inl, inr, ℕ, ◌<◌, ◌≤◌, Bool, true, ◌&&◌, List, [], ◌∷◌, ◌++◌, get_or, take, drop, refl, sym, ap, ap₂, ◌∙◌, subst, arith, le_refl, append-nil, append_assoc, take-append-drop}
use Rattle.std.specs.Prelude.{nat_eq, nat_le}
use Rattle.std.specs.List.{Contains, list_any}
use Rattle.std.proofs.lemmas.Grind.{flat_map-append}
use Rattle.std.proofs.lemmas.Bool.{cases_lt}
use Rattle.gr_event.specs.declared.event.Event.{Event}
use Rattle.gr_order.specs.declared.item.Item.{Item}
use Rattle.gr_order.specs.Law.{Begins}
use Rattle.gr_order.proofs.Prefix.{begins}
use Rattle.gr_sched.specs.declared.step.Line.{Line}
use Rattle.gr_model.specs.declared.report.Report.{Report}
use Rattle.gr_model.specs.Net.{Net}
use Rattle.gr_model.specs.Tree.{IsNet, IsDistinct}
use Rattle.gr_model_calls.specs.OneNet.{report_of, IsOrdered, TotallyOrdered_from, TotallyOrdered}
use Rattle.gr_model.specs.Headline.{History, expected, record_of, history_after, begin}
use Rattle.gr_model.specs.Orders.{orders_over, ordered_steps}
use Rattle.gr_model.specs.Ordered.{ordered_item, ordered_items, items_told, IsMergedOf, heard_upto, OneOrder}
use Rattle.gr_model_calls.specs.Fits.{StepsIn}
use Rattle.gr_model_theorems.proofs.order.Hearing.{joined}
use Rattle.gr_model_theorems.proofs.order.Merged.{kept, cut_off}
use Rattle.gr_model_theorems.proofs.order.Always.{ordered_always}

-- ---- fronts of lists

one_more : (x y : Item) (xs ys : List Item) → x ≡ y → Begins xs ys ⊎ Begins ys xs → Begins (x ∷ xs) (y ∷ ys) ⊎ Begins (y ∷ ys) (x ∷ xs)
one_more x y xs ys e (inl b) = let more : Begins (x ∷ xs) (y ∷ ys) = record { rest = b.rest; is = ap₂ (λ z zs. z ∷ zs) (sym e) b.is } in inl more
one_more x y xs ys e (inr b) = let more : Begins (y ∷ ys) (x ∷ xs) = record { rest = b.rest; is = ap₂ (λ z zs. z ∷ zs) e b.is } in inr more

-- of two fronts of one list one begins with the other
fronts : (xs ys vs ws : List Item) → xs ++ vs ≡ ys ++ ws → Begins xs ys ⊎ Begins ys xs
fronts [] ys vs ws e = let all : Begins [] ys = record { rest = ys; is = refl } in inl all
fronts (x ∷ xs) [] vs ws e = let all : Begins [] (x ∷ xs) = record { rest = x ∷ xs; is = refl } in inr all
fronts (x ∷ xs) (y ∷ ys) vs ws e =
    one_more x y xs ys (ap (λ (zs : List Item). get_or zs 0 x) e) (fronts xs ys vs ws (ap (λ (zs : List Item). drop 1 zs) e))

-- so where one list begins with another, the fronts of both do
both_fronts : (xs vs ys ws : List Item) → Begins (xs ++ vs) (ys ++ ws) ⊎ Begins (ys ++ ws) (xs ++ vs) → Begins xs ys ⊎ Begins ys xs
both_fronts xs vs ys ws (inl b) = fronts xs ys (vs ++ b.rest) ws (sym (append_assoc xs vs b.rest) ∙ sym b.is)
both_fronts xs vs ys ws (inr b) = fronts xs ys vs (ws ++ b.rest) (b.is ∙ append_assoc ys ws b.rest)

-- what is told up to a step is a front of what is told by all
told_cut : (s i : ℕ) (told : List (List Report)) → items_told s told ≡ items_told s (take i told) ++ items_told s (drop i told)
told_cut s i told =
    ap (items_told s) (sym (take-append-drop i told))
    ∙ ap (ordered_items s) (flat_map-append (λ (ls : List Report). ls) (take i told) (drop i told))
    ∙ flat_map-append (ordered_item s) (joined (take i told)) (joined (drop i told))

cut_told : (net : Net) (h : History) (s n i : ℕ) (told : List (List Report)) → IsMergedOf net h s n (items_told s told) → IsMergedOf net h s n (items_told s (take i told) ++ items_told s (drop i told))
cut_told net h s n i told m = subst (λ (xs : List Item). IsMergedOf net h s n xs) (told_cut s i told) m

-- ---- two lists at one moment

-- these subscribers want the same
abbrev WantSame : Net → ℕ → ℕ → Type 0
WantSame net s r = (p t : ℕ) (e : Event) → net.wants p s t e ≡ net.wants p r t e

-- so what one is to have the other is to have
wanted_too : (net : Net) (h : History) (s r p m : ℕ) (x : ℕ × Event) → WantSame net s r → Contains (expected net h s p m) x → Contains (expected net h r p m) x
wanted_too net h s r p m x same c =
    let a = (kept (λ y. nat_le y.0 m && net.wants p s y.0 y.1) (record_of h p).events x).0 c in
    (kept (λ y. nat_le y.0 m && net.wants p r y.0 y.1) (record_of h p).events x).1 (a.0, ap (λ (b : Bool). nat_le x.0 m && b) (sym (same p x.0 x.1)) ∙ a.1)

-- the list up to the earlier tick begins the other
shorter : (net : Net) (h : History) (s r m n : ℕ) (list longer : List Item) → m ≤ n → WantSame net s r → IsMergedOf net h s m list → IsMergedOf net h r n longer → Begins list longer
shorter net h s r m n list longer le same a b = begins longer longer m n list longer le (λ i low. (λ c. c, λ c. c)) (record { each = λ i. (there i, back i); rises = a.rises }) (record { each = λ i. (λ c. (c, upto i c), λ c. c.0); rises = b.rises })
  where
    upto : (i : Item) → Contains longer i → i.tick ≤ n
    upto i c =
        let x = (b.each i).0 c in
        ((cut_off net h r i.publisher n n (i.tick, i.event) (le_refl n)).0 x.1).1

    there : (i : Item) → Contains list i → Contains longer i × (i.tick ≤ m)
    there i c =
        let x = (a.each i).0 c in
        let y = (cut_off net h s i.publisher m n (i.tick, i.event) le).0 x.1 in
        ((b.each i).1 (x.0, wanted_too net h s r i.publisher n (i.tick, i.event) same y.0), y.1)

    back : (i : Item) → Contains longer i × (i.tick ≤ m) → Contains list i
    back i c =
        let x = (b.each i).0 c.0 in
        let y : Contains (expected net h s i.publisher n) (i.tick, i.event) = wanted_too net h r s i.publisher n (i.tick, i.event) (λ p t e. sym (same p t e)) x.1 in
        (a.each i).1 (x.0, (cut_off net h s i.publisher m n (i.tick, i.event) le).1 (y, c.1))

either : (net : Net) (h : History) (s r m n : ℕ) (list other : List Item) → WantSame net s r → IsMergedOf net h s m list → IsMergedOf net h r n other → Begins list other ⊎ Begins other list
either net h s r m n list other same a b = elim (cases_lt m n) [
  | inl lt ↦ inl (shorter net h s r m n list other (omega (arith, lt)) same a b)
  | inr ge ↦ inr (shorter net h r s n m other list ge (λ p t e. sym (same p t e)) b a)
]

-- ---- behind the last step

-- there is a history of which these lines tell what they are to tell
pub record AtEnd (net : Net) (totals : List ℕ) (told : List Report) : Type 0 where
  pub now : History
  pub ordered : IsOrdered net totals now told

pub last_step : (net : Net) (totals : List ℕ) (h : History) (told : List Report) (steps : List Line) (rs os : List (List Report)) → TotallyOrdered_from net totals h told steps rs os → AtEnd net totals (told ++ joined os)
last_step net totals h told [] [] [] k = let a : AtEnd net totals told = record { now = h; ordered = k } in subst (λ (xs : List Report). AtEnd net totals xs) (sym (append-nil told)) a
last_step net totals h told [] [] (o ∷ os) k = absurd k
last_step net totals h told [] (r ∷ rs) [] k = absurd k
last_step net totals h told [] (r ∷ rs) (o ∷ os) k = absurd k
last_step net totals h told (l ∷ ls) [] [] k = absurd k
last_step net totals h told (l ∷ ls) [] (o ∷ os) k = absurd k
last_step net totals h told (l ∷ ls) (r ∷ rs) [] k = absurd k
last_step net totals h told (l ∷ ls) (r ∷ rs) (o ∷ os) k =
    subst (λ (xs : List Report). AtEnd net totals xs) (append_assoc told o (joined os)) (last_step net totals (history_after net h l r) (told ++ o) ls rs os k.1)

at_end : (net : Net) (totals : List ℕ) (steps : List Line) (rs told : List (List Report)) → TotallyOrdered net totals steps rs told → AtEnd net totals (joined told)
at_end net totals steps [] [] k = absurd k
at_end net totals steps [] (o ∷ os) k = absurd k
at_end net totals steps (r ∷ rs) [] k = absurd k
at_end net totals steps (r ∷ rs) (o ∷ os) k = subst (λ (xs : List Report). AtEnd net totals (xs ++ joined os)) (sym k.0) (last_step net totals (begin net) [] steps rs os k.1)

-- where each list is what it is to be at the end, they are in one order
pub in_one_order : (net : Net) (totals : List ℕ) (told : List (List Report)) → AtEnd net totals (joined told) → OneOrder net totals told
in_one_order net totals told z = λ s r i j here there same.
    both_fronts (items_told s (take i told)) (items_told s (drop i told)) (items_told r (take j told)) (items_told r (drop j told))
    (either net z.now s r (heard_upto net z.now.lines s) (heard_upto net z.now.lines r)
    (items_told s (take i told) ++ items_told s (drop i told)) (items_told r (take j told) ++ items_told r (drop j told)) same
    (cut_told net z.now s (heard_upto net z.now.lines s) i told (z.ordered s here))
    (cut_told net z.now r (heard_upto net z.now.lines r) j told (z.ordered r there)))

pub one_order_always : (net : Net) (totals : List ℕ) (steps : List Line) → IsNet net → 1 ≤ net.quiet → StepsIn net steps → IsDistinct totals → ((s : ℕ) → list_any (λ x. nat_eq x s) totals ≡ true → s < net.subscribers)
    → OneOrder net totals (ordered_steps (orders_over net.publishers totals) (report_of net steps))
one_order_always net totals steps n z i apart below =
    let told : List (List Report) = ordered_steps (orders_over net.publishers totals) (report_of net steps) in
    in_one_order net totals told (at_end net totals steps (report_of net steps) told (ordered_always net totals steps n z i apart below))
