-- The third phase of a sweep: from where every horizon has come to the moment, it ends with the log cut there, and sends no knowledge
use Rattle.std.proofs.Common.{◌≡◌, ⊎_elim, ℕ, ◌≤◌, ◌<◌, true, false, List, [], ◌∷◌, ◌++◌, length, refl, sym, subst, arith, append-nil}
use Rattle.std.specs.Prelude.{nat_eq, filter}
use Rattle.std.specs.List.{list_any}
use Rattle.std.proofs.lemmas.Bool.{cases_Bool, both_ways}
use Rattle.gr_frame.specs.declared.Frame.{Frame}
use Rattle.gr_model.specs.Net.{Net, is_host, keeps_horizon}
use Rattle.gr_model.specs.World.{World, view_of, log_of, in_turn, inwards, numbers_down, sent_since, is_want, wake_up_by}
use Rattle.gr_model_calls.specs.OneNet.{wake_for, wake_up}
use Rattle.gr_model.specs.Tree.{IsNet}
use Rattle.gr_model_calls.specs.Fits.{WorldFits}
use Rattle.gr_model_calls.proofs.runs.Worlds.{Each, wake_for_kept, wake_up_kept, filter_frames, frames_past_true, depths_in}
use Rattle.gr_model_theorems.proofs.sweep.Pending.{IsPending, deliver_up_all}
use Rattle.gr_model_theorems.proofs.sweep.Upward.{rank_of, sent_up_less, ranks}
use Rattle.gr_model_theorems.proofs.sweep.SweepStates.{Calm}
use Rattle.gr_model_theorems.proofs.sweep.Rounds.{stands, Falls, stands_inwards, inwards_falls, deeper_stands_not}
use Rattle.gr_model_theorems.proofs.sweep.Settling.{Settling, NoKnow, acks_delivered, settling_woken, settling_host}

settling_pending : (net : Net) (p m : ℕ) (base : List Frame) (rest : List ℕ) → IsNet net → IsPending net (rank_of net) (Settling net p m base rest)
settling_pending net p m base rest n = record {
  step = λ w x fs f tr s. acks_delivered net p m base rest w x fs n f tr s;
  less = λ w x f tr. sent_up_less net w x (record { depth_up = n.depth_up }) f tr;
}

-- a broker is woken, and what it sends up is delivered
settling_turn : (net : Net) (p m : ℕ) (base : List Frame) (b : ℕ) (bs : List ℕ) (w : World) → IsNet net → 1 ≤ net.quiet → 1 ≤ net.retry → WorldFits net w → b < net.brokers → p < net.publishers → Each (λ y. net.depth p y ≤ net.depth p b) bs → Settling net p m base (b ∷ bs) w [] → Settling net p m base bs (wake_up net p w b).world []
unfolding wake_up_by
settling_turn net p m base b bs w n z r f i j low s =
    let y = (wake_for net w b p).world in
    let g = (wake_for_kept net w b p n f i j).fits in
    let fs = filter is_want (sent_since w y) in
    let a = filter_frames net y is_want (sent_since w y) (frames_past_true net y (length w.frames) y.frames g.frames) in
    let out : (c : ℕ) → list_any (λ x. nat_eq x c) (net.children p b) ≡ true → stands (b ∷ bs) c ≡ false = λ c k. deeper_stands_not net p (net.depth p b) c (b ∷ bs) (omega arith, low) (omega (arith, n.depth_up p c b j (n.child_in p b c j i k) (n.child_up p b c j i k))) in
    let woken : Settling net p m base bs y fs = ⊎_elim (λ e. settling_host net p m base b bs w n z f i j e out s) (λ e. settling_woken net p m base b bs w n r f i j e out s) (cases_Bool (is_host net p b)) in
    deliver_up_all net (rank_of net) (Settling net p m base bs) net.brokers n (settling_pending net p m base bs n) fs [] y g a (ranks net y fs n a) (subst (λ q. Settling net p m base bs y q) (sym (append-nil fs)) woken)

settling_turns : (net : Net) (p m : ℕ) (base : List Frame) (bs : List ℕ) (w : World) → IsNet net → 1 ≤ net.quiet → 1 ≤ net.retry → WorldFits net w → Each (λ b. b < net.brokers) bs → p < net.publishers → Falls net p bs → Settling net p m base bs w [] → Settling net p m base [] (in_turn (wake_up net p) bs w).world []
settling_turns net p m base [] w n z r f a j l s = s
settling_turns net p m base (b ∷ bs) w n z r f a j l s = settling_turns net p m base bs (wake_up net p w b).world n z r (wake_up_kept net p w b n f a.0 j).fits a.1 j l.1 (settling_turn net p m base b bs w n z r f a.0 j l.0 s)

-- where the third phase of a publisher's sweep ends
pub record Still (net : Net) (p m : ℕ) (before w : World) : Type 0 where
  pub settled : (log_of w p).settled ≡ m
  pub cut : (log_of w p).cut ≡ m
  pub reached : (b : ℕ) → b < net.brokers → keeps_horizon net p b ≡ true → (view_of w b p).horizon ≡ m
  pub more : List Frame
  pub frames : w.frames ≡ before.frames ++ more
  pub none_told : Each NoKnow more

-- the third phase of a publisher's sweep
abbrev pub third_phase : Net → World → ℕ → World
third_phase net w p = (in_turn (wake_up net p) (inwards net p) w).world

-- from where every horizon is at the moment, the third phase ends with the log cut there
pub third_phase_cuts : (net : Net) (p m first : ℕ) (w : World) → IsNet net → 1 ≤ net.quiet → 1 ≤ net.retry → p < net.publishers → Calm net p m first w → Still net p m w (third_phase net w p)
third_phase_cuts net p m first w n z r j c =
    let s = settling_turns net p m w.frames (inwards net p) w n z r c.fits (depths_in net p (numbers_down net.brokers)) j (inwards_falls net p) (record {
      clock = c.now.clock;
      unknown = c.unknown;
      settled = c.settled;
      reached = c.reached;
      asked = c.asked;
      plain = tt;
      acked = λ b u t i up off one le. absurd (both_ways (stands (inwards net p) b) off (stands_inwards net p b i (n.depth_in p b j i)));
      cut = λ off. absurd (both_ways (stands (inwards net p) (net.host p)) off (stands_inwards net p (net.host p) (n.host_in p j) (n.depth_in p (net.host p) j (n.host_in p j))));
      more = [];
      frames = sym (append-nil w.frames);
      none_told = tt;
    }) in
    record { settled = s.settled; cut = s.cut refl; reached = s.reached; more = s.more; frames = s.frames; none_told = s.none_told }
