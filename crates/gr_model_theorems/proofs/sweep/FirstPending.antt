-- What holds of one tick while the brokers are woken from the deepest on, kept by each nested delivery: curiosity only goes to brokers less deep than the woken one
use Rattle.std.proofs.Common.{◌≡◌, ◌≢◌, ◌⊎◌, inl, inr, ⊎_elim, ℕ, ◌+◌, ◌≤◌, ◌<◌, true, false, ◌&&◌, ◌||◌, List, [], ◌∷◌, ◌++◌, length, sym, ap, ◌∙◌, subst, Some, arith}
use Rattle.std.specs.Prelude.{filter, nat_eq, nat_lt, if◌then◌else◌}
use Rattle.std.specs.List.{list_any}
use Rattle.std.proofs.lemmas.Bool.{cases_Bool, cases_eq, and_parts, or_cases, or_right, ltb-true}
use Rattle.std.proofs.lemmas.List.{length-append}
use Rattle.gr_know.specs.declared.values.K.TheVariants.{Q, F}
use Rattle.gr_curio.specs.declared.values.Q3.TheVariants.{C, A}
use Rattle.gr_curio.specs.declared.asks.Moment.TheVariants.{At}
use Rattle.gr_frame.specs.declared.Body.TheVariants as body
use Rattle.gr_frame.specs.declared.Frame.{Frame}
use Rattle.gr_know.specs.Values.{known_at, is_Q}
use Rattle.gr_curio.specs.Values.{Wanted, wanted_at, asked_at, is_C, is_outstanding}
use Rattle.gr_model.specs.Net.{Net, is_host, keeps_horizon}
use Rattle.gr_model.specs.Broker.{View, Outcome, any_C, is_consolidated_by, place_of, curiosity, receive}
use Rattle.gr_model.specs.World.{World, view_of, log_of, frames_past, sent_since, is_want}
use Rattle.gr_model_calls.specs.OneNet.{deliver_frame}
use Rattle.gr_model.specs.Tree.{IsNet}
use Rattle.gr_model_calls.specs.Fits.{WorldFits, FrameTrue, BodyTrue, BodyFits, facts_of}
use Rattle.gr_model_calls.proofs.runs.Worlds.{Each}
use Rattle.gr_model_calls.proofs.asks.AskMoments.{Each-on, ExpectBody}
use Rattle.gr_model_calls.proofs.rules.SweepAsks.{AsksNow, now_closed, asked_now}
use Rattle.gr_model_calls.proofs.asks.CallTicks.{needs}
use Rattle.gr_model_theorems.proofs.heard.Heard.{not_done}
use Rattle.gr_model_calls.proofs.rules.Forwarding.{wants_of}
use Rattle.gr_model_calls.proofs.rules.Answering.{UpAsks, Q_is}
use Rattle.gr_model_calls.proofs.rules.Serves.{Stores, frames_past_all, receive_curiosity}
use Rattle.gr_model_theorems.proofs.sweep.Stays.{DeliveredWant, delivered_want, stores_stay, noted_stays}
use Rattle.gr_model_theorems.proofs.sweep.Pending.{sent_up, IsPending}
use Rattle.gr_model_theorems.proofs.sweep.Upward.{rank_of, sent_up_less, up_kept}
use Rattle.gr_model_theorems.proofs.sweep.Path.{Claim, claim_kept}
use Rattle.gr_model_theorems.proofs.sweep.SweepStates.{IsChild, Unknowns}
use Rattle.gr_model_theorems.proofs.sweep.FirstUnknown.{asked_open, stored_any, curiosity_any, unknown_calls}

-- a Curiosity frame that waits, while brokers at depth d are woken: it goes to a broker less deep; what it asks at the tick its sender has noted with this moment; and an A at the tick comes from a broker at that depth or deeper that has not asked the tick at this moment
pub record WaitsUp (net : Net) (p t m d : ℕ) (w : World) (f : Frame) : Type 0 where
  pub runs : Wanted
  pub body_is : f.body ≡ body.Curiosity runs
  pub publisher : f.head.publisher ≡ p
  pub below : net.depth p f.head.to < d
  pub noted : wanted_at runs t ≡ C → asked_at (view_of w f.head.from p).asks t ≡ At m
  pub final : wanted_at runs t ≡ A → (d ≤ net.depth p f.head.from) × (asked_at (view_of w f.head.from p).asks t ≢ At m)

-- a child that has asked the tick at this moment has its question stored at c
pub record AskedByChild (net : Net) (p t m : ℕ) (w : World) (c : ℕ) : Type 0 where
  pub child : ℕ
  pub is_child : IsChild net p c child
  pub stored : wanted_at (wants_of net p c (view_of w c p) child) t ≡ C
  pub asked : asked_at (view_of w child p).asks t ≡ At m

-- why c has not consolidated the tick: its horizon is below it; or a child asks it, and no curiosity comes any more so deep, or that child asked it at this moment
abbrev pub OpenBy : Net → ℕ → ℕ → ℕ → ℕ → World → ℕ → Type 0
OpenBy net p t m d w c = ((keeps_horizon net p c ≡ true) × ((view_of w c p).horizon < t)) ⊎ (((any_C (view_of w c p).wants t ≡ true) × (d ≤ net.depth p c)) ⊎ AskedByChild net p t m w c)

-- a broker has asked at this moment what its children ask, and what it needs and is idle
pub record HasAskedAll (net : Net) (p t m : ℕ) (w : World) (b : ℕ) : Type 0 where
  pub stored : any_C (view_of w b p).wants t ≡ true → asked_at (view_of w b p).asks t ≡ At m
  pub needed : t + net.idle ≤ m → needs net p b (view_of w b p) t ≡ true → asked_at (view_of w b p).asks t ≡ At m

-- the number is in the list
abbrev pub IsIn : ℕ → List ℕ → Type 0
IsIn b bs = list_any (λ x. nat_eq x b) bs ≡ true

-- of one tick, with the brokers woken so far and the frames that wait
pub record FirstAt (net : Net) (p t m first d : ℕ) (woken : List ℕ) (w : World) (pending : List Frame) : Type 0 where
  pub now : AsksNow net m w
  pub unknown : Unknowns net w
  pub first_in : first ≤ length w.frames
  pub waits : Each (WaitsUp net p t m d w) pending
  pub claim : Claim net p t m first w pending
  pub opened : (c : ℕ) → c < net.brokers → asked_at (view_of w c p).asks t ≡ At m → OpenBy net p t m d w c
  -- a broker does not know what it has asked at this moment
  pub unknown_asked : (c : ℕ) → c < net.brokers → asked_at (view_of w c p).asks t ≡ At m → known_at (view_of w c p).know t ≡ Q
  pub asked : (b : ℕ) → b < net.brokers → IsIn b woken → is_host net p b ≡ false → HasAskedAll net p t m w b

-- such a broker has not consolidated the tick
pub opened_not_settled : (net : Net) (p t m d : ℕ) (w : World) (c : ℕ) → OpenBy net p t m d w c → is_consolidated_by (keeps_horizon net p c) (view_of w c p).horizon (view_of w c p).wants t ≡ false
opened_not_settled net p t m d w c (inl h) = ap (λ k. is_consolidated_by k (view_of w c p).horizon (view_of w c p).wants t) h.0 ∙ not_done (view_of w c p).horizon t (view_of w c p).wants h.1
opened_not_settled net p t m d w c (inr (inl h)) = asked_open (keeps_horizon net p c) (view_of w c p).horizon (view_of w c p).wants t h.0
opened_not_settled net p t m d w c (inr (inr h)) = asked_open (keeps_horizon net p c) (view_of w c p).horizon (view_of w c p).wants t (stored_any (view_of w c p).wants (place_of h.child (net.children p c)) t (ap is_C h.stored))

-- what a broker needs it has not consolidated
pub needed_not_settled : (net : Net) (p b : ℕ) (v : View) (t : ℕ) → needs net p b v t ≡ true → is_consolidated_by (keeps_horizon net p b) v.horizon v.wants t ≡ false
needed_not_settled net p b v t e =
    ⊎_elim
    (λ x. asked_open (keeps_horizon net p b) v.horizon v.wants t x)
    (λ x. let y = and_parts (keeps_horizon net p b) (nat_lt v.horizon t) x in ap (λ k. is_consolidated_by k v.horizon v.wants t) y.0 ∙ not_done v.horizon t v.wants (ltb-true v.horizon t y.1))
    (or_cases (any_C v.wants t) (keeps_horizon net p b && nat_lt v.horizon t) (and_parts (is_Q (known_at v.know t)) (any_C v.wants t || (keeps_horizon net p b && nat_lt v.horizon t)) e).1)

-- the same view says the same
pub same_asked : (net : Net) (p t m : ℕ) (w y : World) (b : ℕ) → view_of y b p ≡ view_of w b p → HasAskedAll net p t m w b → HasAskedAll net p t m y b
same_asked net p t m w y b e h = record {
  stored = λ a. ap (λ v. asked_at v.asks t) e ∙ h.stored (sym (ap (λ v. any_C v.wants t) e) ∙ a);
  needed = λ l a. ap (λ v. asked_at v.asks t) e ∙ h.needed l (sym (ap (λ v. needs net p b v t) e) ∙ a);
}

-- a joined list is at least as long as its front
pub longer : (k : ℕ) (xs ys : List Frame) → k ≤ length xs → k ≤ length (xs ++ ys)
longer k xs ys h = omega (arith, h, length-append xs ys)

-- a delivery
module _ (net : Net) (p t m first d : ℕ) (woken : List ℕ) (w : World) (x : Frame) (fs : List Frame) (n : IsNet net) (j : p < net.publishers) (f : WorldFits net w) (tr : FrameTrue net w x) (h : FirstAt net p t m first d woken w (x ∷ fs)) where
  abbrev y : World
  y = (deliver_frame net w x).world

  abbrev a : WaitsUp net p t m d w x
  a = h.waits.0

  abbrev o : Outcome
  o = receive net w.clock x (view_of w x.head.to x.head.publisher) (log_of w x.head.publisher)

  k : DeliveredWant net w y x a.runs o
  k = delivered_want net w x a.runs n f tr a.body_is

  since : sent_since w y ≡ o.frames
  since = ap (frames_past (length w.frames)) k.taken.frames ∙ frames_past_all w.frames o.frames

  -- the receiver's view, and each other one
  here : view_of y x.head.to p ≡ o.view
  here = subst (λ q. view_of y x.head.to q ≡ o.view) a.publisher k.taken.view

  unknown_then : Unknowns net y
  unknown_then = (unknown_calls net n).delivered w x f tr tt h.unknown

  -- a question of a child that asked it at this moment stays
  stored_on : (c : ℕ) → c < net.brokers → (g : AskedByChild net p t m w c) → wanted_at (wants_of net p c (view_of y c p) g.child) t ≡ C
  stored_on c i g =
      let s : Stores net w p c g.child t = record { asks = g.stored; unknown = h.unknown.each p c g.child t j i g.is_child g.stored } in
      (stores_stay net w x a.runs p c g.child t n f tr a.body_is g.is_child (λ q r e z. (a.final z).1 (subst (λ b. asked_at (view_of w b p).asks t ≡ At m) (sym e) g.asked)) s).asks

  horizon_on : (c : ℕ) → (view_of w c p).horizon < t → (view_of y c p).horizon < t
  horizon_on c l =
      elim (cases_eq c x.head.to) [
        | inl e ↦ subst (λ b. (view_of y b p).horizon < t) (sym e) (omega (arith, ap (λ v. v.horizon) here, k.ticks.horizon, same_horizon, subst (λ b. (view_of w b p).horizon < t) e l))
        | inr e ↦ omega (arith, ap (λ v. v.horizon) (k.taken.other c p e), l)
      ]
    where
      same_horizon : (view_of w x.head.to x.head.publisher).horizon ≡ (view_of w x.head.to p).horizon
      same_horizon = ap (λ q. (view_of w x.head.to q).horizon) a.publisher

  -- a broker that had asked the tick does not consolidate it
  open_on : (c : ℕ) → c < net.brokers → OpenBy net p t m d w c → is_consolidated_by (keeps_horizon net p c) (view_of y c p).horizon (view_of y c p).wants t ≡ false
  open_on c i (inl g) = ap (λ q. is_consolidated_by q (view_of y c p).horizon (view_of y c p).wants t) g.0 ∙ not_done (view_of y c p).horizon t (view_of y c p).wants (horizon_on c g.1)
  open_on c i (inr (inl g)) =
      let far : c ≢ x.head.to = λ q. omega (arith, g.1, a.below, ap (net.depth p) q) in
      asked_open (keeps_horizon net p c) (view_of y c p).horizon (view_of y c p).wants t (ap (λ v. any_C v.wants t) (k.taken.other c p far) ∙ g.0)
  open_on c i (inr (inr g)) = asked_open (keeps_horizon net p c) (view_of y c p).horizon (view_of y c p).wants t (stored_any (view_of y c p).wants (place_of g.child (net.children p c)) t (ap is_C (stored_on c i g)))

  -- so the receiver does not know it afterwards
  gone : asked_at (view_of w x.head.to p).asks t ≡ At m → known_at (view_of y x.head.to p).know t ≡ Q
  gone e =
      let open_here : is_consolidated_by (keeps_horizon net p x.head.to) o.view.horizon o.view.wants t ≡ false = ap (λ v. is_consolidated_by (keeps_horizon net p x.head.to) v.horizon v.wants t) (sym here) ∙ open_on x.head.to tr.fits.to_in (h.opened x.head.to tr.fits.to_in e) in
      let none : is_consolidated_by (keeps_horizon net x.head.publisher x.head.to) (view_of w x.head.to x.head.publisher).horizon o.view.wants t ≡ false =
      ap (λ z. is_consolidated_by (keeps_horizon net x.head.publisher x.head.to) z o.view.wants t) (sym k.ticks.horizon) ∙ subst (λ q. is_consolidated_by (keeps_horizon net q x.head.to) o.view.horizon o.view.wants t ≡ false) (sym a.publisher) open_here in
      let old : known_at (view_of w x.head.to x.head.publisher).know t ≡ Q = subst (λ q. known_at (view_of w x.head.to q).know t ≡ Q) (sym a.publisher) (h.unknown_asked x.head.to tr.fits.to_in e) in
      ap (λ v. known_at v.know t) here ∙ ⊎_elim (λ z. z ∙ (ap (λ q. if q then F else known_at (view_of w x.head.to x.head.publisher).know t) none ∙ old)) (λ z. z.0) (k.ticks.know t)

  -- what was noted stays
  stays : (b : ℕ) → asked_at (view_of w b p).asks t ≡ At m → asked_at (view_of y b p).asks t ≡ At m
  stays b e =
      elim (cases_eq b x.head.to) [
        | inl g ↦ subst (λ z. asked_at (view_of y z p).asks t ≡ At m) (sym g) (stays_here (subst (λ z. asked_at (view_of w z p).asks t ≡ At m) g e))
        | inr g ↦ ap (λ v. asked_at v.asks t) (k.taken.other b p g) ∙ e
      ]
    where
      stays_here : asked_at (view_of w x.head.to p).asks t ≡ At m → asked_at (view_of y x.head.to p).asks t ≡ At m
      stays_here e = subst (λ c. asked_at (view_of y x.head.to p).asks t ≡ At c) h.now.clock (noted_stays net w x a.runs p x.head.to t n f tr a.body_is (gone e) (subst (λ c. asked_at (view_of w x.head.to p).asks t ≡ At c) (sym h.now.clock) e))

  sent_wait : (z : Frame) → is_want z ≡ true → UpAsks net x.head.publisher x.head.to t w.clock o.view z → WaitsUp net p t m d y z
  sent_wait z e g =
      let u = g e in
      record {
        runs = u.part;
        body_is = u.body_is;
        publisher = u.publisher ∙ a.publisher;
        below = omega (arith, a.below, n.depth_up p x.head.to z.head.to j tr.fits.to_in (subst (λ q. net.up q x.head.to ≡ Some z.head.to) a.publisher u.up));
        noted = λ c. subst (λ b. asked_at (view_of y b p).asks t ≡ At m) (sym u.from_is) (ap (λ v. asked_at v.asks t) here ∙ (u.noted c ∙ ap (λ q. At q) h.now.clock));
        final = λ c. absurd (u.no_A c);
      }

  kept_wait : (z : Frame) → WaitsUp net p t m d w z → WaitsUp net p t m d y z
  kept_wait z g = record {
    runs = g.runs;
    body_is = g.body_is;
    publisher = g.publisher;
    below = g.below;
    noted = λ c. stays z.head.from (g.noted c);
    final = λ c.
        let e = g.final c in
        let far : z.head.from ≢ x.head.to = λ q. omega (arith, e.0, a.below, ap (net.depth p) q) in
        (e.0, λ q. e.1 (sym (ap (λ v. asked_at v.asks t) (k.taken.other z.head.from p far)) ∙ q));
  }

  all_wait : (zs : List Frame) → Each (WaitsUp net p t m d w) zs → Each (WaitsUp net p t m d y) zs
  all_wait [] g = tt
  all_wait (z ∷ zs) g = (kept_wait z g.0, all_wait zs g.1)

  -- a broker that had asked the tick is open for the same reason
  still_open : (c : ℕ) → c < net.brokers → OpenBy net p t m d w c → OpenBy net p t m d y c
  still_open c i (inl g) = inl (g.0, horizon_on c g.1)
  still_open c i (inr (inl g)) =
      let far : c ≢ x.head.to = λ q. omega (arith, g.1, a.below, ap (net.depth p) q) in
      inr (inl (ap (λ v. any_C v.wants t) (k.taken.other c p far) ∙ g.0, g.1))
  still_open c i (inr (inr g)) = inr (inr (record { child = g.child; is_child = g.is_child; stored = stored_on c i g; asked = stays g.child g.asked }))

  -- the receiver had asked it before, or asks it for the child that sent the frame
  asked_then : asked_at (view_of y x.head.to p).asks t ≡ At m → (asked_at (view_of w x.head.to p).asks t ≡ At m) ⊎ AskedByChild net p t m y x.head.to
  asked_then e =
      ⊎_elim
      (λ g. inl (subst (λ r. asked_at (view_of w x.head.to r).asks t ≡ At m) a.publisher (g ∙ ap (λ r. At r) h.now.clock)))
      (λ g. inr (record {
        child = x.head.from;
        is_child = subst (λ r. IsChild net r x.head.to x.head.from) a.publisher (subst (BodyFits net x.head.publisher x.head.from x.head.to) a.body_is tr.fits.body);
        stored = ap (λ v. wanted_at (wants_of net p x.head.to v x.head.from) t) here ∙ subst (λ r. wanted_at (wants_of net r x.head.to o.view x.head.from) t ≡ C) a.publisher g.1;
        asked = stays x.head.from (a.noted g.0);
      }))
      (k.ticks.asks_stored t (sym (ap (λ v. asked_at v.asks t) here) ∙ (e ∙ ap (λ r. At r) (sym h.now.clock))))

  opened : (c : ℕ) → c < net.brokers → asked_at (view_of y c p).asks t ≡ At m → OpenBy net p t m d y c
  opened c i e =
      elim (cases_eq c x.head.to) [
        | inr q ↦ still_open c i (h.opened c i (sym (ap (λ v. asked_at v.asks t) (k.taken.other c p q)) ∙ e))
        | inl q ↦ subst (λ b. OpenBy net p t m d y b) (sym q)
            (⊎_elim (λ g. still_open x.head.to tr.fits.to_in (h.opened x.head.to tr.fits.to_in g)) (λ g. inr (inr g)) (asked_then (subst (λ b. asked_at (view_of y b p).asks t ≡ At m) q e)))
      ]

  unknown_asked : (c : ℕ) → c < net.brokers → asked_at (view_of y c p).asks t ≡ At m → known_at (view_of y c p).know t ≡ Q
  unknown_asked c i e =
      elim (cases_eq c x.head.to) [
        | inr q ↦ ap (λ v. known_at v.know t) (k.taken.other c p q) ∙ h.unknown_asked c i (sym (ap (λ v. asked_at v.asks t) (k.taken.other c p q)) ∙ e)
        | inl q ↦ subst (λ b. known_at (view_of y b p).know t ≡ Q) (sym q)
            (⊎_elim gone (λ g. unknown_then.each p x.head.to g.child t j tr.fits.to_in g.is_child g.stored) (asked_then (subst (λ b. asked_at (view_of y b p).asks t ≡ At m) q e)))
      ]

  -- the receiver has still asked what it should
  receiver_asked : is_host net x.head.publisher x.head.to ≡ false → HasAskedAll net x.head.publisher t w.clock w x.head.to → HasAskedAll net x.head.publisher t w.clock y x.head.to
  receiver_asked host g = record { stored = stored; needed = needed }
    where
      q : ℕ
      q = x.head.publisher

      b : ℕ
      b = x.head.to

      v : View
      v = view_of w b q

      is : view_of y b q ≡ (curiosity net q b w.clock x.head.from (place_of x.head.from (net.children q b)) a.runs v (log_of w q)).view
      is = k.taken.view ∙ ap (λ r. r.view) (receive_curiosity net w.clock x a.runs v (log_of w q) a.body_is)

      noted : known_at (view_of y b q).know t ≡ Q → asked_at v.asks t ≡ At w.clock → asked_at (view_of y b q).asks t ≡ At w.clock
      noted unknown e = noted_stays net w x a.runs q b t n f tr a.body_is unknown e

      stored : any_C (view_of y b q).wants t ≡ true → asked_at (view_of y b q).asks t ≡ At w.clock
      stored e =
          ⊎_elim
          (λ z. elim (cases_Bool (is_outstanding (asked_at v.asks t) w.clock net.retry)) [
            | inl r ↦ noted (unknown_then.any q b t tr.publisher_in tr.fits.to_in e) (asked_now net w.clock q b t w (subst (λ c. AsksNow net c w) (sym h.now.clock) h.now) tr.publisher_in tr.fits.to_in r)
            | inr r ↦ ap (λ u. asked_at u.asks t) k.taken.view ∙ (k.ticks.asked t host z.0 z.2 z.1 r).1
          ])
          (λ z. noted (unknown_then.any q b t tr.publisher_in tr.fits.to_in e) (g.stored z))
          (curiosity_any net (facts_of net w q) q b w.clock x.head.from a.runs v (log_of w q) t (f.views q b tr.publisher_in tr.fits.to_in) (subst (BodyFits net q x.head.from b) a.body_is tr.fits.body) (subst (BodyTrue net (facts_of net w q) q x.head.from b) a.body_is tr.told) (sym (ap (λ u. any_C u.wants t) is) ∙ e))

      needed : t + net.idle ≤ w.clock → needs net q b (view_of y b q) t ≡ true → asked_at (view_of y b q).asks t ≡ At w.clock
      needed l e =
          let s = and_parts (is_Q (known_at (view_of y b q).know t)) (any_C (view_of y b q).wants t || (keeps_horizon net q b && nat_lt (view_of y b q).horizon t)) e in
          ⊎_elim stored (λ z.
          let z1 : (keeps_horizon net q b && nat_lt v.horizon t) ≡ true = sym (ap (λ c. keeps_horizon net q b && nat_lt c t) (ap (λ u. u.horizon) k.taken.view ∙ k.ticks.horizon)) ∙ z in
          let z2 = and_parts (keeps_horizon net q b) (nat_lt v.horizon t) z1 in
          let lt : v.horizon < t = ltb-true v.horizon t z2.1 in
          let open_ : is_consolidated_by (keeps_horizon net q b) v.horizon o.view.wants t ≡ false = ap (λ c. is_consolidated_by c v.horizon o.view.wants t) z2.0 ∙ not_done v.horizon t o.view.wants lt in
          let gone : known_at o.view.know t ≡ Q = sym (ap (λ u. known_at u.know t) k.taken.view) ∙ Q_is (known_at (view_of y b q).know t) s.0 in
          let old : known_at v.know t ≡ Q = ⊎_elim (λ c. sym (c ∙ ap (λ r. if r then F else known_at v.know t) open_) ∙ gone) (λ c. absurd (omega (arith, lt, c.2 z2.0))) (k.ticks.know t) in
          noted (Q_is (known_at (view_of y b q).know t) s.0) (g.needed l (ap (λ c. is_Q c && (any_C v.wants t || (keeps_horizon net q b && nat_lt v.horizon t))) old ∙ or_right (any_C v.wants t) (keeps_horizon net q b && nat_lt v.horizon t) z1)))
          (or_cases (any_C (view_of y b q).wants t) (keeps_horizon net q b && nat_lt (view_of y b q).horizon t) s.1)

  still_asked : (b : ℕ) → is_host net p b ≡ false → HasAskedAll net p t m w b → HasAskedAll net p t m y b
  still_asked b host g =
      elim (cases_eq b x.head.to) [
        | inr e ↦ same_asked net p t m w y b (k.taken.other b p e) g
        | inl e ↦ subst (λ z. HasAskedAll net p t m y z) (sym e) (subst (λ r. HasAskedAll net r t m y x.head.to) a.publisher (subst (λ c. HasAskedAll net x.head.publisher t c y x.head.to) h.now.clock (receiver_asked (subst (λ r. is_host net r x.head.to ≡ false) (sym a.publisher) (subst (λ z. is_host net p z ≡ false) e host)) (subst (λ c. HasAskedAll net x.head.publisher t c w x.head.to) (sym h.now.clock) (subst (λ r. HasAskedAll net r t m w x.head.to) (sym a.publisher) (subst (λ z. HasAskedAll net p t m w z) e g))))))
      ]

  delivered : FirstAt net p t m first d woken y (sent_up net w x ++ fs)
  delivered = record {
    now = (now_closed net m n).delivered w x f tr (subst (ExpectBody net x.head.publisher x.head.to) (sym a.body_is) tt) h.now;
    unknown = unknown_then;
    first_in = subst (λ z. first ≤ length z) (sym k.taken.frames) (longer first w.frames o.frames h.first_in);
    waits = Each-on (WaitsUp net p t m d y) (sent_up net w x) fs (subst (λ z. Each (WaitsUp net p t m d y) (filter is_want z)) (sym since) (up_kept (UpAsks net x.head.publisher x.head.to t w.clock o.view) (WaitsUp net p t m d y) o.frames sent_wait (k.ticks.sends t))) (all_wait fs h.waits.1);
    claim = subst (λ z. Claim net p t z first y (sent_up net w x ++ fs)) h.now.clock
        (claim_kept net p t first w x a.runs fs n f tr (subst (λ z. AsksNow net z w) (sym h.now.clock) h.now) a.body_is (λ g e. (a.final e).1 (g ∙ ap (λ z. At z) h.now.clock)) h.first_in (subst (λ z. Claim net p t z first w (x ∷ fs)) (sym h.now.clock) h.claim));
    opened = opened;
    unknown_asked = unknown_asked;
    asked = λ b i l host. still_asked b host (h.asked b i l host);
  }

-- each delivery keeps it
pub first_pending : (net : Net) (p t m first d : ℕ) (woken : List ℕ) → IsNet net → p < net.publishers → IsPending net (rank_of net) (FirstAt net p t m first d woken)
first_pending net p t m first d woken n j = record {
  step = λ w x fs f tr h. delivered net p t m first d woken w x fs n j f tr h;
  less = λ w x f tr. sent_up_less net w x (record { depth_up = n.depth_up }) f tr;
}
