-- What a broker has stored and asked for a tick stays, while no child acknowledges the tick
use Rattle.std.proofs.Common.{◌≡◌, ◌≢◌, inl, inr, ⊎_elim, ℕ, Bool, true, false, ◌<◌, List, [], refl, sym, ap, ap₂, ◌∙◌, subst, get_or}
use Rattle.std.specs.Prelude.{nat_eq, if◌then◌else◌}
use Rattle.std.specs.List.{list_any}
use Rattle.std.proofs.lemmas.Bool.{cases_eq}
use Rattle.gr_know.specs.declared.values.K.TheVariants.{Q, F}
use Rattle.gr_curio.specs.declared.values.Q3.{Q3}
use Rattle.gr_curio.specs.declared.values.Q3.TheVariants.{N, C, A}
use Rattle.gr_frame.specs.declared.Body.TheVariants as body
use Rattle.gr_frame.specs.declared.Frame.{Frame}
use Rattle.gr_know.specs.Values.{known_at}
use Rattle.gr_curio.specs.Values.{Wanted, wanted_at, asked_at, is_A}
use Rattle.gr_model.specs.Net.{Net, is_host, keeps_horizon}
use Rattle.gr_model.specs.Broker.{Outcome, place_of, receive, curious, is_consolidated_by, wake, wake_below, wake_host}
use Rattle.gr_model.specs.World.{World, view_of, log_of, deliver_frame_by, wake_for_by}
use Rattle.gr_model_calls.specs.OneNet.{deliver_frame, wake_for}
use Rattle.gr_model_calls.specs.Fits.{facts_of, WorldFits, FrameTrue, BodyTrue, BodyFits}
use Rattle.gr_model.specs.Tree.{IsNet}
use Rattle.gr_model_calls.proofs.runs.Worlds.{deliver_kept}
use Rattle.gr_model_calls.proofs.asks.AskMoments.{Taken, absorbed_taken}
use Rattle.gr_model_calls.proofs.asks.CallTicks.{WakeTicks, wake_ticks}
use Rattle.gr_model_calls.proofs.rules.Forwarding.{wants_of}
use Rattle.gr_model_calls.proofs.rules.Answering.{CuriosityTicks, curiosity_ticks, not_settled}
use Rattle.gr_model_calls.proofs.rules.Serves.{receive_curiosity, Stores}
use Rattle.gr_curio.specs.declared.asks.Moment.TheVariants.{At}

-- what the delivery of a Curiosity frame does, by ticks
pub record DeliveredWant (net : Net) (w y : World) (x : Frame) (runs : Wanted) (o : Outcome) : Type 0 where
  pub ticks : CuriosityTicks net x.head.publisher x.head.to w.clock x.head.from runs (view_of w x.head.to x.head.publisher) o
  pub taken : Taken net w y x.head.to x.head.publisher o
  pub fits : WorldFits net y

-- what the delivery of a Curiosity frame does at each tick
pub delivered_want : (net : Net) (w : World) (x : Frame) (runs : Wanted) → IsNet net → WorldFits net w → FrameTrue net w x → x.body ≡ body.Curiosity runs →
    DeliveredWant net w (deliver_frame net w x).world x runs (receive net w.clock x (view_of w x.head.to x.head.publisher) (log_of w x.head.publisher))
unfolding deliver_frame_by
delivered_want net w x runs n f tr e =
    let p = x.head.publisher in
    let v = view_of w x.head.to p in
    record {
      ticks = subst (CuriosityTicks net p x.head.to w.clock x.head.from runs v) (sym (receive_curiosity net w.clock x runs v (log_of w p) e))
          (curiosity_ticks net (facts_of net w p) p x.head.to w.clock x.head.from runs v (log_of w p) (f.views p x.head.to tr.publisher_in tr.fits.to_in) (subst (BodyFits net p x.head.from x.head.to) e tr.fits.body) (subst (BodyTrue net (facts_of net w p) p x.head.from x.head.to) e tr.told));
      taken = absorbed_taken net w x.head.to p (receive net w.clock x v (log_of w p)) f tr.fits.to_in tr.publisher_in;
      fits = (deliver_kept net w x n f tr).fits;
    }

stay_C : (q : Q3) → q ≢ A → curious Q (if is_A q then A else C) q ≡ C
stay_C N h = refl
stay_C C h = refl
stay_C A h = absurd (h refl)

-- a stored question stays at the broker that takes a piece, unless that child acknowledges the tick
stays_here : (net : Net) (w y : World) (x : Frame) (runs : Wanted) (o : Outcome) (c t : ℕ) → x.head.publisher < net.publishers → x.head.to < net.brokers → DeliveredWant net w y x runs o → list_any (λ z. nat_eq z c) (net.children x.head.publisher x.head.to) ≡ true → (x.head.from ≡ c → wanted_at runs t ≢ A) → Stores net w x.head.publisher x.head.to c t → Stores net y x.head.publisher x.head.to c t
stays_here net w y x runs o c t i j d child na s =
    let p = x.head.publisher in
    let u = x.head.to in
    let v = view_of w u p in
    let k = d.ticks in
    let kept : wanted_at (wants_of net p u o.view c) t ≡ C = elim (cases_eq c x.head.from) [
      | inl e ↦
          let s1 : wanted_at (wants_of net p u v x.head.from) t ≡ C = subst (λ z. wanted_at (wants_of net p u v z) t ≡ C) e s.asks in
          subst (λ z. wanted_at (wants_of net p u o.view z) t ≡ C) (sym e)
          (k.wants t ∙ (ap₂ (λ a b. curious a (if is_A (wanted_at runs t) then A else b) (wanted_at runs t)) s.unknown s1 ∙ stay_C (wanted_at runs t) (na (sym e))))
      | inr e ↦ ap (λ z. wanted_at z t) (k.other c child e) ∙ s.asks
    ] in
    let s1 : wanted_at (wants_of net p u (view_of y u p) c) t ≡ C = ap (λ z. wanted_at (wants_of net p u z c) t) d.taken.view ∙ kept in
    let no = not_settled net (facts_of net y p) p u c t v.horizon (view_of y u p).wants (d.fits.views p u i j).wants child (ap is_A s1) in
    let no1 : is_consolidated_by (keeps_horizon net p u) v.horizon o.view.wants t ≡ false = ap (λ z. is_consolidated_by (keeps_horizon net p u) v.horizon z.wants t) (sym d.taken.view) ∙ no in
    record {
      asks = s1;
      unknown = ap (λ z. known_at z.know t) d.taken.view ∙ ⊎_elim (λ z. z ∙ (ap (λ b. if b then F else known_at v.know t) no1 ∙ s.unknown)) (λ z. z.0) (k.know t);
    }

-- a broker whose view stays still stores the question
pub same_stores : (net : Net) (w y : World) (p u c t : ℕ) → view_of y u p ≡ view_of w u p → Stores net w p u c t → Stores net y p u c t
same_stores net w y p u c t e s = record { asks = ap (λ z. wanted_at (wants_of net p u z c) t) e ∙ s.asks; unknown = ap (λ z. known_at z.know t) e ∙ s.unknown }

-- a stored question stays where a Curiosity frame is delivered, unless it acknowledges the tick from that child to that broker
pub stores_stay : (net : Net) (w : World) (x : Frame) (runs : Wanted) (p u c t : ℕ) → IsNet net → WorldFits net w → FrameTrue net w x → x.body ≡ body.Curiosity runs → list_any (λ z. nat_eq z c) (net.children p u) ≡ true →
    (x.head.publisher ≡ p → x.head.to ≡ u → x.head.from ≡ c → wanted_at runs t ≢ A) → Stores net w p u c t → Stores net (deliver_frame net w x).world p u c t
stores_stay net w x runs p u c t n f tr e child na s =
    let y = (deliver_frame net w x).world in
    let d = delivered_want net w x runs n f tr e in
    elim (cases_eq u x.head.to) [
      | inl g ↦ elim (cases_eq p x.head.publisher) [
        | inl k ↦
            subst (λ z. Stores net y z u c t) (sym k) (subst (λ z. Stores net y x.head.publisher z c t) (sym g)
            (stays_here net w y x runs (receive net w.clock x (view_of w x.head.to x.head.publisher) (log_of w x.head.publisher)) c t tr.publisher_in tr.fits.to_in d
            (subst (λ z. list_any (λ a. nat_eq a c) (net.children x.head.publisher z) ≡ true) g (subst (λ z. list_any (λ a. nat_eq a c) (net.children z u) ≡ true) k child))
            (na (sym k) (sym g)) (subst (λ z. Stores net w x.head.publisher z c t) g (subst (λ z. Stores net w z u c t) k s))))
        | inr k ↦ same_stores net w y p u c t (d.taken.other_publisher u p k) s
      ]
      | inr g ↦ same_stores net w y p u c t (d.taken.other u p g) s
    ]

-- an ask of this moment stays noted where a Curiosity frame is delivered, if the tick is unknown then
pub noted_stays : (net : Net) (w : World) (x : Frame) (runs : Wanted) (p u t : ℕ) → IsNet net → WorldFits net w → FrameTrue net w x → x.body ≡ body.Curiosity runs → known_at (view_of (deliver_frame net w x).world u p).know t ≡ Q → asked_at (view_of w u p).asks t ≡ At w.clock → asked_at (view_of (deliver_frame net w x).world u p).asks t ≡ At w.clock
noted_stays net w x runs p u t n f tr e unknown s =
    let y = (deliver_frame net w x).world in
    let d = delivered_want net w x runs n f tr e in
    elim (cases_eq u x.head.to) [
      | inl g ↦ elim (cases_eq p x.head.publisher) [
        | inl k ↦
            let gone = ap (λ z. known_at z.know t) (sym d.taken.view) ∙ subst (λ z. known_at (view_of y z x.head.publisher).know t ≡ Q) g (subst (λ z. known_at (view_of y u z).know t ≡ Q) k unknown) in
            subst (λ z. asked_at (view_of y u z).asks t ≡ At w.clock) (sym k) (subst (λ z. asked_at (view_of y z x.head.publisher).asks t ≡ At w.clock) (sym g)
            (ap (λ z. asked_at z.asks t) d.taken.view ∙ ⊎_elim (λ z. z) (λ z. z ∙ subst (λ z. asked_at (view_of w z x.head.publisher).asks t ≡ At w.clock) g (subst (λ z. asked_at (view_of w u z).asks t ≡ At w.clock) k s)) (d.ticks.asks t gone)))
        | inr k ↦ ap (λ z. asked_at z.asks t) (d.taken.other_publisher u p k) ∙ s
      ]
      | inr g ↦ ap (λ z. asked_at z.asks t) (d.taken.other u p g) ∙ s
    ]

-- the wake of a broker that is not the host, by ticks
pub record WokenBelow (net : Net) (w y : World) (b p : ℕ) (o : Outcome) : Type 0 where
  pub ticks : WakeTicks net p b w.clock (view_of w b p) o
  pub taken : Taken net w y b p o

-- what the wake of a broker below the host does at each tick
pub woken_below : (net : Net) (w : World) (b p : ℕ) → WorldFits net w → b < net.brokers → p < net.publishers → is_host net p b ≡ false → WokenBelow net w (wake_for net w b p).world b p (wake net p b w.clock (view_of w b p) (log_of w p))
unfolding wake_for_by wake
woken_below net w b p f i j e = record {
  ticks = subst (λ q. WakeTicks net p b w.clock (view_of w b p) (at q)) (sym e) (wake_ticks net (facts_of net w p) p b w.clock (view_of w b p) (log_of w p) (f.views p b j i));
  taken = absorbed_taken net w b p (wake net p b w.clock (view_of w b p) (log_of w p)) f i j;
}
  where
    at : Bool → Outcome
    at q = elim q [ true ↦ wake_host net p b w.clock (view_of w b p) (log_of w p) | false ↦ wake_below net p b w.clock (view_of w b p) (log_of w p) ]

-- a stored question stays where a broker that is not the host wakes
pub stores_stay_wake : (net : Net) (w : World) (b p u c t : ℕ) → WorldFits net w → b < net.brokers → p < net.publishers → is_host net p b ≡ false → Stores net w p u c t → Stores net (wake_for net w b p).world p u c t
stores_stay_wake net w b p u c t f i j e s =
    let y = (wake_for net w b p).world in
    let k = woken_below net w b p f i j e in
    elim (cases_eq u b) [
      | inl g ↦
          let s1 = subst (λ z. Stores net w p z c t) g s in
          subst (λ z. Stores net y p z c t) (sym g) (record {
            asks = ap (λ z. wanted_at (wants_of net p b z c) t) k.taken.view ∙ (ap (λ z. wanted_at (wants_in z) t) k.ticks.wants ∙ s1.asks);
            unknown = ap (λ z. known_at z.know t) k.taken.view ∙ ⊎_elim (λ z. z ∙ s1.unknown) (λ z. z.0) (k.ticks.know t);
          })
      | inr g ↦ same_stores net w y p u c t (k.taken.other u p g) s
    ]
  where
    wants_in : List Wanted → Wanted
    wants_in ws = get_or ws (place_of c (net.children p b)) []
