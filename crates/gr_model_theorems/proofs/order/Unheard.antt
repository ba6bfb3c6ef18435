-- What the subscribers that get one list over all publishers hear: lines one after another, and nothing of a line that is no event and no horizon. What is ready is told once
use Rattle.std.proofs.Common.{◌≡◌, ℕ, suc, Bool, true, false, List, [], ◌∷◌, ◌++◌, map, flat_map, refl, ap, ap₂, ◌∙◌}
use Rattle.std.specs.Prelude.{if◌then◌else◌}
use Rattle.std.specs.List.{AllByRecursion}
use Rattle.gr_frame.specs.declared.Body.{Body}
use Rattle.gr_frame.specs.declared.Body.TheVariants as body
use Rattle.gr_frame.specs.declared.Frame.{Frame}
use Rattle.gr_model.specs.declared.report.Report.{Report}
use Rattle.gr_model.specs.declared.report.Report.TheVariants as line
use Rattle.gr_model.specs.Net.{Net, numbers, keeps_horizon}
use Rattle.gr_model.specs.Broker.{Log}
use Rattle.gr_model.specs.World.{World, sent_line, sent_lines, log_of, view_of, kept_events}
use Rattle.gr_model.specs.Arrivals.{is_hosted, show_hosted}
use Rattle.gr_model.specs.Orders.{Order, said_of, nothing, said, held, with_held, heard, heard_all, fed, ordered_line, ordered, without_ordered}
use Rattle.gr_model_theorems.proofs.order.Told.{none_ready}

-- a line of which no list hears anything
abbrev pub IsUnheard : Report → Type 0
IsUnheard l = said_of l ≡ nothing

abbrev pub AreUnheard : List Report → Type 0
AreUnheard ls = AllByRecursion IsUnheard ls

-- nothing was told
pub fed_nothing : (os : List Order) → fed os [] ≡ os
fed_nothing [] = refl
fed_nothing (o ∷ os) = ap (λ xs. o ∷ xs) (fed_nothing os)

-- such lines leave every list
heard_unheard : (o : Order) (l : Report) → IsUnheard l → heard o l ≡ o
heard_unheard o l e = ap (λ x. with_held o (said o.subscriber (held o) x)) e

all_unheard : (o : Order) (ls : List Report) → AreUnheard ls → heard_all o ls ≡ o
all_unheard o [] h = refl
all_unheard o (l ∷ ls) h = ap (λ x. heard_all x ls) (heard_unheard o l h.0) ∙ all_unheard o ls h.1

pub fed_unheard : (os : List Order) (ls : List Report) → AreUnheard ls → fed os ls ≡ os
fed_unheard [] ls h = refl
fed_unheard (o ∷ os) ls h = ap₂ (λ x xs. x ∷ xs) (all_unheard o ls h) (fed_unheard os ls h)

-- lines, and then others
heard_append : (o : Order) (xs ys : List Report) → heard_all o (xs ++ ys) ≡ heard_all (heard_all o xs) ys
heard_append o [] ys = refl
heard_append o (x ∷ xs) ys = heard_append (heard o x) xs ys

pub fed_append : (os : List Order) (xs ys : List Report) → fed os (xs ++ ys) ≡ fed (fed os xs) ys
fed_append [] xs ys = refl
fed_append (o ∷ os) xs ys = ap₂ (λ z zs. z ∷ zs) (heard_append o xs ys) (fed_append os xs ys)

-- Lines of frames

sent_unheard : (n : ℕ) (f : Frame) → IsUnheard (sent_line n f)
unfolding sent_line
sent_unheard n f = one f.body
  where
    one : (y : Body) → IsUnheard (elim y [
      | body.Knowledge runs js ↦ line.SentKnow n f.head.from f.head.to f.head.publisher runs js
      | body.Curiosity runs ↦ line.SentWant n f.head.from f.head.to f.head.publisher runs
      | body.Expect tick ↦ line.SentExpect n f.head.from f.head.to f.head.publisher tick
    ])
    one (body.Knowledge runs js) = refl
    one (body.Curiosity runs) = refl
    one (body.Expect tick) = refl

frames_unheard : (n : ℕ) (fs : List Frame) → AreUnheard (sent_lines n fs)
frames_unheard n [] = tt
frames_unheard n (f ∷ fs) = (sent_unheard n f, frames_unheard (suc n) fs)

pub fed_sent : (os : List Order) (ls : List Report) (n : ℕ) (fs : List Frame) → fed os (ls ++ sent_lines n fs) ≡ fed os ls
fed_sent os ls n fs = fed_append os ls (sent_lines n fs) ∙ fed_unheard (fed os ls) (sent_lines n fs) (frames_unheard n fs)

-- What is shown

both_unheard : (xs ys : List Report) → AreUnheard xs → AreUnheard ys → AreUnheard (xs ++ ys)
both_unheard [] ys h k = k
both_unheard (x ∷ xs) ys h k = (h.0, both_unheard xs ys h.1 k)

each_unheard : (f : ℕ → List Report) (ks : List ℕ) → ((k : ℕ) → AreUnheard (f k)) → AreUnheard (flat_map f ks)
each_unheard f [] h = tt
each_unheard f (k ∷ ks) h = both_unheard (f k) (flat_map f ks) (h k) (each_unheard f ks h)

pub shown_unheard : (net : Net) (hosted : List ℕ) (w : World) → AreUnheard (show_hosted net hosted w)
unfolding show_hosted
shown_unheard net hosted w =
    (refl, both_unheard (flat_map logs (numbers net.publishers)) (flat_map doubts hosted) (each_unheard logs (numbers net.publishers) log_unheard) (each_unheard doubts hosted doubts_unheard))
  where
    logs : ℕ → List Report
    logs p = let l : Log = log_of w p in if is_hosted net hosted p then line.LogOf p l.last l.settled l.cut (kept_events l) ∷ [] else []

    doubt : ℕ → ℕ → List Report
    doubt b p = if keeps_horizon net p b then line.Doubt b p (view_of w b p).horizon ∷ [] else []

    doubts : ℕ → List Report
    doubts b = flat_map (doubt b) (numbers net.publishers)

    one_unheard : (c : Bool) (l : Report) → IsUnheard l → AreUnheard (if c then l ∷ [] else [])
    one_unheard true l h = (h, tt)
    one_unheard false l h = tt

    log_unheard : (p : ℕ) → AreUnheard (logs p)
    log_unheard p = let l : Log = log_of w p in one_unheard (is_hosted net hosted p) (line.LogOf p l.last l.settled l.cut (kept_events l)) refl

    doubts_unheard : (b : ℕ) → AreUnheard (doubts b)
    doubts_unheard b = each_unheard (doubt b) (numbers net.publishers) (λ p. one_unheard (keeps_horizon net p b) (line.Doubt b p (view_of w b p).horizon) refl)

-- What is ready

-- nothing behind what was taken out
pub rested_ready : (os : List Order) → ordered (without_ordered os) ≡ []
rested_ready [] = refl
rested_ready (o ∷ os) = ap₂ (λ xs ys. xs ++ ys) (ap (λ items. map (ordered_line o.subscriber) items) (none_ready o.merge)) (rested_ready os)
