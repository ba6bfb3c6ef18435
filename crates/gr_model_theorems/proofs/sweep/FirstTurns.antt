-- What holds of one tick while brokers are woken holds after all
-- but the host were, by falling depth, since each turn keeps it
use Rattle.std.proofs.Common.{◌≡◌, ◌⊎◌, inl, inr, ⊎_elim, ℕ, ◌<◌, false, List, [], ◌∷◌, length, refl, ◌∙◌}
use Rattle.std.specs.Prelude.{nat_eq, filter}
use Rattle.std.specs.List.{list_any}
use Rattle.std.proofs.lemmas.Bool.{eq-eqb, false≢true, or_left, or_right, or_cases}
use Rattle.gr_model.specs.Headline.{Recorded}
use Rattle.gr_model.specs.Net.{Net, is_host}
use Rattle.gr_model.specs.World.{World, in_turn, sent_since, is_want, wake_up_by}
use Rattle.gr_model_calls.specs.OneNet.{wake_for, wake_up}
use Rattle.gr_model.specs.Tree.{IsNet}
use Rattle.gr_model_calls.specs.Fits.{WorldFits}
use Rattle.gr_model_calls.proofs.runs.Worlds.{Each, wake_for_kept, wake_up_kept, filter_frames, frames_past_true}
use Rattle.gr_model_theorems.proofs.records.Records.{core_of, wake_for_core, deliver_core}
use Rattle.gr_model_theorems.proofs.sweep.Upward.{rank_of, sent_up_less, ranks}
use Rattle.gr_model_theorems.proofs.sweep.Pending.{IsPending, deliver_up_all}
use Rattle.gr_model_theorems.proofs.sweep.FirstPending.{IsIn, FirstAt}
use Rattle.gr_model_theorems.proofs.sweep.FirstWake.{first_woken}
use Rattle.gr_model_theorems.proofs.sweep.FirstOrder.{FallsFrom, IsBelow}

-- The log stays

log_pending : (net : Net) (p : ℕ) (r : Recorded) → IsNet net → IsPending net (rank_of net) (λ w fs. core_of w p ≡ r)
log_pending net p r n = record {
  step = λ w x fs f tr h. deliver_core net w x p f tr.publisher_in ∙ h;
  less = λ w x f tr. sent_up_less net w x (record { depth_up = n.depth_up }) f tr;
}

log_woken : (net : Net) (p : ℕ) (w : World) (b : ℕ) → IsNet net → p < net.publishers → b < net.brokers → is_host net p b ≡ false → WorldFits net w → core_of (wake_up net p w b).world p ≡ core_of w p
unfolding wake_up_by
log_woken net p w b n j i host f =
    let y = (wake_for net w b p).world in
    let g = (wake_for_kept net w b p n f i j).fits in
    let fs = filter is_want (sent_since w y) in
    let a = filter_frames net y is_want (sent_since w y) (frames_past_true net y (length_of w) y.frames g.frames) in
    deliver_up_all net (rank_of net) (λ u gs. core_of u p ≡ core_of w p) net.brokers n (log_pending net p (core_of w p) n) fs [] y g a (ranks net y fs n a)
    (wake_for_core net w b p p f j ∙ rw (eq-eqb p p refl, host) refl)
  where
    length_of : World → ℕ
    length_of u = length u.frames

-- where the turns of some brokers lead
pub record Turned (net : Net) (p t m first : ℕ) (xs woken : List ℕ) (w y : World) : Type 0 where
  pub depth : ℕ
  pub now_woken : List ℕ
  pub all : (b : ℕ) → IsIn b xs ⊎ IsIn b woken → IsIn b now_woken
  pub holds : FirstAt net p t m first depth now_woken y []

-- what holds of one tick before the turns of some brokers holds after them, with these woken
pub turned : (net : Net) (p t m first d : ℕ) (xs woken : List ℕ) (w : World) → IsNet net → p < net.publishers → WorldFits net w → FallsFrom net p d xs → Each (IsBelow net p) xs → FirstAt net p t m first d woken w [] → Turned net p t m first xs woken w (in_turn (wake_up net p) xs w).world
turned net p t m first d [] woken w n j f falls below h = record { depth = d; now_woken = woken; all = λ b e. ⊎_elim (λ x. absurd (false≢true x)) (λ x. x) e; holds = h }
turned net p t m first d (x ∷ xs) woken w n j f falls below h =
    let y = (wake_up net p w x).world in
    let g = (wake_up_kept net p w x n f below.0.0 j).fits in
    let r = turned net p t m first (net.depth p x) xs (x ∷ woken) y n j g falls.1 below.1 (first_woken net p t m first d woken w x n j below.0.0 below.0.1 f falls.0 h) in
    record {
      depth = r.depth;
      now_woken = r.now_woken;
      all = λ b e. r.all b (⊎_elim
          (λ z. ⊎_elim (λ a. inr (or_left (nat_eq x b) (list_any (λ c. nat_eq c b) woken) a)) (λ a. inl a) (or_cases (nat_eq x b) (list_any (λ c. nat_eq c b) xs) z))
          (λ z. inr (or_right (nat_eq x b) (list_any (λ c. nat_eq c b) woken) z)) e);
      holds = r.holds;
    }

-- the world after the turns of these brokers
pub record TurnsKeep (net : Net) (p : ℕ) (w y : World) : Type 0 where
  pub fits : WorldFits net y
  pub log : core_of y p ≡ core_of w p

-- the turns of brokers below the host keep the world fitting, and the record of the log
pub turns_keep : (net : Net) (p : ℕ) (xs : List ℕ) (w : World) → IsNet net → p < net.publishers → WorldFits net w → Each (IsBelow net p) xs → TurnsKeep net p w (in_turn (wake_up net p) xs w).world
turns_keep net p [] w n j f below = record { fits = f; log = refl }
turns_keep net p (x ∷ xs) w n j f below =
    let y = (wake_up net p w x).world in
    let r = turns_keep net p xs y n j (wake_up_kept net p w x n f below.0.0 j).fits below.1 in
    record { fits = r.fits; log = r.log ∙ log_woken net p w x n j below.0.0 below.0.1 f }
