-- Hosts that start over logs with joins do the same by what their views show as on the net of the last joins
use Rattle.std.proofs.Common.{◌≡◌, ⊎_elim, ℕ, ◌<◌, Bool, true, false, [], ◌++◌, refl, ap}
use Rattle.gr_event.specs.declared.event.Event.{Event}
use Rattle.gr_event.specs.Joins.{Joins}
use Rattle.gr_know.specs.declared.values.K.TheVariants.{Q, D}
use Rattle.gr_model.specs.Net.{Net, with_wants, wants_with, not_empty}
use Rattle.gr_model.specs.Broker.{View, learn, seen}
use Rattle.gr_model.specs.World.{World, Transition, view_of, log_of, absorbed, unchanged}
use Rattle.gr_model.specs.Opening.{opened_for_by, reopened_line}
use Rattle.gr_model.specs.Tree.{IsNet}
use Rattle.gr_model_calls.specs.Fits.{WorldFits}
use Rattle.gr_model_calls.proofs.calls.Calls.{learn_log}
use Rattle.gr_model_calls.proofs.calls.Erased.{Agree, learn_agree}
use Rattle.gr_model_calls.proofs.runs.Seeing.{Back, Runs}
use Rattle.gr_model_calls.proofs.joins.Growing.{AheadOf, absorbed_back, on_by, still_on}
use Rattle.gr_model_calls.proofs.joins.SameCalls.{last_wants, agree_by, view_holds}

pub opened_back : (net : Net) (see : View → Net) (last : ℕ → Joins) (p : ℕ) → Back (AheadOf net last) (λ w. opened_for_by see net w p)
unfolding opened_for_by
opened_back net see last p w = go (not_empty (net.subscribers_at (net.host p)))
  where
    v : View
    v = view_of w (net.host p) p

    go : (q : Bool) → (let t : Transition = elim q [ true ↦ absorbed w (net.host p) p (learn (see v) p (net.host p) [] v (log_of w p)) | false ↦ unchanged w [] ] in AheadOf net last t.world) → AheadOf net last w
    go true b = absorbed_back net last w (net.host p) p (learn (see v) p (net.host p) [] v (log_of w p)) (on_by (log_of w p) (log_of w p) _ (learn_log (see v) p (net.host p) [] v (log_of w p)) (still_on (log_of w p))) b
    go false b = b

nothing_agrees : (p : ℕ) (f g : ℕ → ℕ → ℕ → Event → Bool) → Agree p f g []
nothing_agrees p f g t e x s = absurd (Q_not_D x)
  where
    Q_not_D : Q ≡ D e → ⊥
    Q_not_D q = cc

pub opened_same : (net : Net) (last : ℕ → Joins) (w : World) (p : ℕ) → (let one = with_wants net (last_wants net last) in IsNet one → WorldFits one w → p < net.publishers → Runs (AheadOf net last) (opened_for_by (seen net) net w p) (opened_for_by (λ v. one) one w p))
unfolding opened_for_by
opened_same net last w p n f j = record { on = λ x. go (not_empty (net.subscribers_at (net.host p))) (⊎_elim (opened_back net (seen net) last p w) (opened_back (with_wants net (last_wants net last)) (λ v. with_wants net (last_wants net last)) last p w) x) }
  where
    v : View
    v = view_of w (net.host p) p

    told : Transition → Transition
    told t = record { world = t.world; lines = reopened_line (log_of w p) p ++ t.lines }

    go : (q : Bool) → AheadOf net last w →
        (let t : Transition = elim q [ true ↦ absorbed w (net.host p) p (learn (seen net v) p (net.host p) [] v (log_of w p)) | false ↦ unchanged w [] ] in told t)
        ≡ (let t : Transition = elim q [ true ↦ absorbed w (net.host p) p (learn (with_wants net (last_wants net last)) p (net.host p) [] v (log_of w p)) | false ↦ unchanged w [] ] in told t)
    go true a = ap (λ o. told (absorbed w (net.host p) p o)) (learn_agree net (wants_with net v.joins) (last_wants net last) p (net.host p) [] v (log_of w p) (f.views p (net.host p) j (n.host_in p j)).know.runs tt (agree_by net last p v.joins v.know (view_holds net last w (net.host p) p f a (n.host_in p j) j)) (nothing_agrees p (wants_with net v.joins) (last_wants net last)))
    go false a = refl
