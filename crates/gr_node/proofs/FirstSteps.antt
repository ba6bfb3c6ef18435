-- The request that is next among steps: its publisher is at a hosted broker, and the others are left behind it
use Rattle.std.proofs.Common.{◌≡◌, ◌≢◌, ℕ, suc, ◌+◌, ◌<◌, ◌≤◌, Bool, true, false, List, [], ◌∷◌, ◌++◌, length, map, get_or, drop, Option, Some, None, is_some, ◌&&◌, not, if◌then◌else◌, refl, sym, ap, ◌∙◌, subst, add-one, drop-drop}
use Rattle.std.proofs.lemmas.List.{drop_all}
use Rattle.std.proofs.Math.Seq.{drop-cons}
use Rattle.gr_event.specs.declared.event.Event.{Event}
use Rattle.gr_sched.specs.declared.step.Line.{Line}
use Rattle.gr_sched.specs.declared.step.Stop.{Stop}
use Rattle.gr_sched.specs.declared.step.Step.{Step}
use Rattle.gr_sched.specs.declared.step.Step.TheVariants as step
use Rattle.gr_model.specs.Net.{Net}
use Rattle.gr_model.specs.Arrivals.{quiet, Request, asks_publish, asks_join, is_hosted, is_scheduled, requests_in, requests_of, left_after}
use Rattle.gr_node.specs.Plan.{calls, publishes, joins, request_calls}
use Rattle.gr_node.specs.Turns.{IsFirst}

-- past the last step there is no request
pub none_next : (net : Net) (hosted : List ℕ) (steps : List Line) (next : ℕ) → length steps ≤ next → requests_of net hosted (drop next steps) ≡ []
none_next net hosted steps next h = ap (requests_of net hosted) (drop_all next steps h)

-- the steps from a place on are the one there and those behind it
pub step_there : (steps : List Line) (i : ℕ) (l : Line) → i < length steps → l ≡ get_or steps i l → drop i steps ≡ l ∷ drop (i + 1) steps
step_there steps i l h e = drop-cons steps i l h ∙ ap (λ (x : Line). x ∷ drop (suc i) steps) (sym e) ∙ ap (λ k. l ∷ drop k steps) (sym (add-one i))

-- for a publisher with a client no schedule publishes
pub with_client : (here : Bool) (o : Option (List ℕ)) (address : List ℕ) → Some address ≡ o → false ≡ (here && not (is_some o))
with_client true o address e = ap (λ (x : Option (List ℕ)). not (is_some x)) e
with_client false o address e = refl

-- for one without it does where it is at a hosted broker
pub without_client : (here : Bool) (o : Option (List ℕ)) → None ≡ o → here ≡ (here && not (is_some o))
without_client true o e = ap (λ (x : Option (List ℕ)). not (is_some x)) e
without_client false o e = refl

-- a publish that no schedule makes here is none
pub none_here : (net : Net) (hosted : List ℕ) (l : Line) (p number : ℕ) (stop : Option Stop) (e : Event) → l.step ≡ step.Publish p number stop e → is_scheduled net hosted p ≡ false → requests_in net hosted l ≡ []
none_here net hosted l p number stop e is h =
    ap (λ (x : Step). requests_in net hosted (record { number = l.number; step = x })) is
    ∙ ap (λ (b : Bool). if b then asks_publish p number e ∷ [] else []) h

-- and so is a join to a publisher elsewhere
pub join_elsewhere : (net : Net) (hosted : List ℕ) (l : Line) (s p : ℕ) → l.step ≡ step.Join s p → is_hosted net hosted p ≡ false → requests_in net hosted l ≡ []
join_elsewhere net hosted l s p is h =
    ap (λ (x : Step). requests_in net hosted (record { number = l.number; step = x })) is
    ∙ ap (λ (b : Bool). if b then asks_join s p ∷ [] else []) h

-- a step that is no request here is passed over
pub passed_over : (net : Net) (hosted : List ℕ) (steps : List Line) (at from : ℕ) (l : Line) → at < length steps → l ≡ get_or steps at l → requests_in net hosted l ≡ []
    → requests_of net hosted (drop at steps) ≡ requests_of net hosted (drop from steps) → requests_of net hosted (drop (at + 1) steps) ≡ requests_of net hosted (drop from steps)
passed_over net hosted steps at from l h e none so_far =
    sym (ap (requests_of net hosted) (step_there steps at l h e) ∙ ap (λ xs. xs ++ requests_of net hosted (drop (at + 1) steps)) none) ∙ so_far

-- a step has one request at most
one_if : (x : Request) (here : Bool) → ◌≢◌ {A = List Request} (if here then x ∷ [] else []) [] → ◌≡◌ {A = List Request} (if here then x ∷ [] else []) (x ∷ [])
one_if x true h = refl
one_if x false h = absurd (h refl)

-- the request of the step at a place is the next one
request_next : (net : Net) (hosted : List ℕ) (steps : List Line) (next : ℕ) (l : Line) (x : Request) (here : Bool) → next < length steps → l ≡ get_or steps next l
    → requests_in net hosted l ≡ (if here then x ∷ [] else []) → IsFirst net hosted (drop next steps) → requests_of net hosted (drop next steps) ≡ x ∷ requests_of net hosted (drop (next + 1) steps)
request_next net hosted steps next l x here lt is one first =
    let there : drop next steps ≡ l ∷ drop (next + 1) steps = step_there steps next l lt is in
    let some : requests_in net hosted l ≢ [] = subst (IsFirst net hosted) there first in
    ap (requests_of net hosted) there ∙ ap (λ (xs : List Request). xs ++ requests_of net hosted (drop (next + 1) steps)) (one ∙ one_if x here (λ e. some (one ∙ e)))

-- so is its call
pub publish_next : (net : Net) (hosted : List ℕ) (steps : List Line) (next : ℕ) (l : Line) (p number : ℕ) (stop : Option Stop) (e : Event) → next < length steps → l ≡ get_or steps next l
    → (let x : Line = get_or steps next l in x.step) ≡ step.Publish p number stop e → IsFirst net hosted (drop next steps)
    → map calls (request_calls (requests_of net hosted (drop next steps))) ≡ calls (publishes (p, (number, e))) ∷ []
publish_next net hosted steps next l p number stop e lt is step_is first =
    let at : l.step ≡ step.Publish p number stop e = ap (λ (x : Line). x.step) is ∙ step_is in
    ap (λ (xs : List Request). map calls (request_calls xs))
    (request_next net hosted steps next l (asks_publish p number e) (is_scheduled net hosted p) lt is (ap (λ (x : Step). requests_in net hosted (record { number = l.number; step = x })) at) first)

pub join_next : (net : Net) (hosted : List ℕ) (steps : List Line) (next : ℕ) (l : Line) (s p : ℕ) → next < length steps → l ≡ get_or steps next l
    → (let x : Line = get_or steps next l in x.step) ≡ step.Join s p → IsFirst net hosted (drop next steps)
    → map calls (request_calls (requests_of net hosted (drop next steps))) ≡ calls (joins s p) ∷ []
join_next net hosted steps next l s p lt is step_is first =
    let at : l.step ≡ step.Join s p = ap (λ (x : Line). x.step) is ∙ step_is in
    ap (λ (xs : List Request). map calls (request_calls xs))
    (request_next net hosted steps next l (asks_join s p) (is_hosted net hosted p) lt is (ap (λ (x : Step). requests_in net hosted (record { number = l.number; step = x })) at) first)

-- so behind it the others are left
left_behind_it : (net : Net) (hosted : List ℕ) (number moment : ℕ) (s : Step) (ls : List Line) → requests_in net hosted (record { number = number; step = s }) ≢ []
    → requests_of net hosted ls ≡ left_after (requests_in net hosted (record { number = number; step = s }) ++ requests_of net hosted ls) (quiet moment)
left_behind_it net hosted number moment (step.Publish p at stop e) ls h =
    ap (λ (xs : List Request). left_after (xs ++ requests_of net hosted ls) (quiet moment)) (sym (one_if (asks_publish p at e) (is_scheduled net hosted p) h))
left_behind_it net hosted number moment (step.Clock now) ls h = absurd (h refl)
left_behind_it net hosted number moment (step.Wake b) ls h = absurd (h refl)
left_behind_it net hosted number moment (step.Deliver f) ls h = absurd (h refl)
left_behind_it net hosted number moment (step.Crash b) ls h = absurd (h refl)
left_behind_it net hosted number moment step.Sweep ls h = absurd (h refl)
left_behind_it net hosted number moment step.Show ls h = absurd (h refl)
left_behind_it net hosted number moment (step.Bytes f) ls h = absurd (h refl)
left_behind_it net hosted number moment (step.Join s p) ls h =
    ap (λ (xs : List Request). left_after (xs ++ requests_of net hosted ls) (quiet moment)) (sym (one_if (asks_join s p) (is_hosted net hosted p) h))

left_of : (net : Net) (hosted : List ℕ) (moment : ℕ) (ls : List Line) → IsFirst net hosted ls → requests_of net hosted (drop 1 ls) ≡ left_after (requests_of net hosted ls) (quiet moment)
left_of net hosted moment [] h = refl
left_of net hosted moment (l ∷ ls) h = left_behind_it net hosted l.number moment l.step ls h

-- a quiet moment leaves the requests behind the next
pub left_next : (net : Net) (hosted : List ℕ) (steps : List Line) (next moment : ℕ) → IsFirst net hosted (drop next steps)
    → requests_of net hosted (drop (next + 1) steps) ≡ left_after (requests_of net hosted (drop next steps)) (quiet moment)
left_next net hosted steps next moment h = ap (requests_of net hosted) (sym (drop-drop 1 next steps)) ∙ left_of net hosted moment (drop next steps) h
