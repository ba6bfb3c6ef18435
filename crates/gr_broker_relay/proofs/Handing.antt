-- What the code tells the subscribers at a broker, one by one and event by event, is what the machine's lines say.
use Rattle.std.proofs.Common.{◌≡◌, ℕ, zero, suc, ◌<◌, true, nat_eq, List, [], ◌∷◌, ◌++◌, length, get_or, refl, sym, ap, ap₂, ◌∙◌, subst, arith}
use Rattle.std.specs.Prelude.{flat_map}
use Rattle.std.specs.List.{list_any}
use Rattle.std.proofs.lemmas.Bool.{eq-eqb, ne_eqb, or_left, or_right}
use Rattle.std.proofs.lemmas.List.{append-nil}
use Rattle.gr_event.specs.declared.event.Event.{Event}
use Rattle.gr_know.specs.Values.{Known}
use Rattle.gr_subend.specs.declared.delivery.Delivery.{Delivery}
use Rattle.gr_subend.specs.Deliveries.{items}
use Rattle.gr_topo.specs.Topology.{TopologyView, home_of, subscribers_of}
use Rattle.gr_model.specs.declared.report.Report.{Report}
use Rattle.gr_model.specs.Net.{Net}
use Rattle.gr_model.proofs.NetOf.{among}
use Rattle.gr_model.specs.Broker.{data_ticks, delivery_lines}
use Rattle.gr_broker_relay.specs.Handed.{told_to, lines_to}

-- The subscribers

stands : (ss : List ℕ) (i : ℕ) → i < length ss → list_any (λ s. nat_eq s (get_or ss i 0)) ss ≡ true
stands [] i lt = absurd (omega (arith, lt))
stands (s ∷ ss) zero lt = or_left (nat_eq s s) (list_any (λ x. nat_eq x s) ss) (eq-eqb s s refl)
stands (s ∷ ss) (suc i) lt = or_right (nat_eq s (get_or ss i 0)) (list_any (λ x. nat_eq x (get_or ss i 0)) ss) (stands ss i (omega (arith, lt)))

-- each subscriber at a broker is one of the topology
pub here_in : (t : TopologyView) (b : ℕ) (here : List ℕ) (i s : ℕ) → here ≡ subscribers_of t b → i < length here → s ≡ get_or here i 0 → s < length t.subscribers
here_in t b here i s e lt es =
    let one : list_any (λ x. nat_eq x (get_or here i 0)) (subscribers_of t b) ≡ true = subst (λ ss. list_any (λ x. nat_eq x (get_or here i 0)) ss ≡ true) e (stands here i lt) in
    let low : get_or here i 0 < length t.subscribers = (among (λ x. nat_eq (home_of t x) b) (length t.subscribers) (get_or here i 0) one).1 in
    let same : s ≡ get_or here i 0 = es in
    omega (arith, low, same)

-- What the machine tells

same_each : {L : Type 0} (f g : ℕ → List L) (ss : List ℕ) → ((s : ℕ) → f s ≡ g s) → flat_map f ss ≡ flat_map g ss
same_each f g [] h = refl
same_each f g (s ∷ ss) h = ap₂ (λ xs ys. xs ++ ys) (h s) (same_each f g ss h)

none_each : {L : Type 0} (f : ℕ → List L) (ss : List ℕ) → ((s : ℕ) → f s ≡ []) → flat_map f ss ≡ []
none_each f [] h = refl
none_each f (s ∷ ss) h = ap₂ (λ xs ys. xs ++ ys) (h s) (none_each f ss h)

delivers_none : (net : Net) (p h to : ℕ) (xs : List (ℕ × Event)) (s : ℕ) → h ≡ to → delivery_lines net p h to xs s ≡ []
unfolding delivery_lines
delivers_none net p h to xs s e = rw (eq-eqb h to e) refl

delivers_some : (net : Net) (p h to : ℕ) (xs : List (ℕ × Event)) (s : ℕ) → (h ≡ to → ⊥) → delivery_lines net p h to xs s ≡ told_to net p to xs s
unfolding delivery_lines
delivers_some net p h to xs s n = rw (ne_eqb h to n) refl

-- where the horizon stays nothing is told
pub none_told : (net : Net) (p b h to : ℕ) (know : Known) (old new : List Report) → to ≡ h → new ≡ old → new ≡ old ++ lines_to net p b h to know
none_told net p b h to know old new e en =
    en ∙ sym (append-nil old) ∙ ap (λ xs. old ++ xs) (sym (none_each (delivery_lines net p h to (data_ticks h to know)) (net.subscribers_at b) (λ s. delivers_none net p h to (data_ticks h to know) s (sym e))))

-- else each subscriber here is told what the horizon passed
pub some_told : (net : Net) (p b h to : ℕ) (know : Known) (ds : List Delivery) (here : List ℕ) → (to ≡ h → ⊥) → items ds ≡ data_ticks h to know → here ≡ net.subscribers_at b
    → flat_map (told_to net p to (items ds)) here ≡ lines_to net p b h to know
some_told net p b h to know ds here n passed eh =
    ap₂ (λ xs ss. flat_map (told_to net p to xs) ss) passed eh
    ∙ sym (same_each (delivery_lines net p h to (data_ticks h to know)) (told_to net p to (data_ticks h to know)) (net.subscribers_at b) (λ s. delivers_some net p h to (data_ticks h to know) s (λ q. n (sym q))))
