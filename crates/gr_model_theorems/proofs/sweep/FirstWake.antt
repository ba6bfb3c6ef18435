-- A broker below the host that is woken in the first phase of a sweep has asked all it should, and what it sends up keeps what holds of a tick
use Rattle.std.proofs.Common.{◌≡◌, ◌≢◌, ◌⊎◌, inl, inr, ⊎_elim, ℕ, ◌+◌, ◌≤◌, ◌<◌, Bool, true, false, not, ◌&&◌, ◌||◌, List, [], ◌∷◌, length, refl, sym, ap, ap₂, ◌∙◌, subst, Some, arith, append-nil}
use Rattle.std.specs.Prelude.{filter, nat_eq, nat_le, nat_lt, if◌then◌else◌}
use Rattle.std.specs.List.{list_any}
use Rattle.std.proofs.lemmas.Bool.{cases_Bool, cases_eq, false≢true, true≢false, and_parts, or_cases, or_left, or_right, ltb-true, eqb-true}
use Rattle.gr_know.specs.declared.values.K.TheVariants.{Q}
use Rattle.gr_curio.specs.declared.values.Q3.{Q3}
use Rattle.gr_curio.specs.declared.values.Q3.TheVariants.{N, C, A}
use Rattle.gr_curio.specs.declared.asks.Moment.TheVariants.{At}
use Rattle.gr_frame.specs.declared.Frame.{Frame}
use Rattle.gr_know.specs.Values.{known_at, is_Q}
use Rattle.gr_curio.specs.Values.{Wanted, wanted_at, asked_at, is_C, is_outstanding}
use Rattle.gr_tick.specs.Runs.{top_of}
use Rattle.gr_model.specs.Net.{Net, is_host, keeps_horizon}
use Rattle.gr_model.specs.Broker.{View, Outcome, any_C, is_consolidated_by, wake, up_frames, wanted_at_wake}
use Rattle.gr_model.specs.World.{World, view_of, log_of, frames_past, sent_since, is_want, wake_up_by}
use Rattle.gr_model_calls.specs.OneNet.{wake_for, wake_up}
use Rattle.gr_model.specs.Tree.{IsNet}
use Rattle.gr_model_calls.specs.Fits.{WorldFits}
use Rattle.gr_model_calls.proofs.runs.Worlds.{Each, wake_for_kept, filter_frames, frames_past_true}
use Rattle.gr_model_calls.proofs.rules.SweepAsks.{now_closed, asked_now}
use Rattle.gr_model_calls.proofs.asks.CallTicks.{needs, wake_piece, wake_asked, asked_is_needed, needed_is_asked, asked_is_noted}
use Rattle.gr_model_calls.proofs.rules.Forwarding.{Has, WantsTick, up_frames_want, wants_of}
use Rattle.gr_model_calls.proofs.rules.Answering.{SentUp, up_frames_sent, Q_is}
use Rattle.gr_model_calls.proofs.rules.Serves.{TellsKnown, frames_past_all}
use Rattle.gr_model_theorems.proofs.sweep.Stays.{WokenBelow, woken_below, stores_stay_wake}
use Rattle.gr_model_theorems.proofs.sweep.Upward.{rank_of, up_kept, ranks}
use Rattle.gr_model_theorems.proofs.sweep.Pending.{deliver_up_all}
use Rattle.gr_model_theorems.proofs.sweep.Path.{Path, Has-past, Has-wants}
use Rattle.gr_model_theorems.proofs.sweep.FirstUnknown.{unknown_calls}
use Rattle.gr_model_theorems.proofs.sweep.FirstPending.{WaitsUp, OpenBy, HasAskedAll, IsIn, FirstAt, opened_not_settled, needed_not_settled, same_asked, longer, first_pending}

C_of : (q : Q3) → is_C q ≡ true → q ≡ C
C_of N e = absurd (false≢true e)
C_of A e = absurd (false≢true e)
C_of C e = refl

C_not_N : C ≡ N → ⊥
C_not_N e = cc

N_not_A : N ≡ A → ⊥
N_not_A e = cc

A_not_C : A ≡ C → ⊥
A_not_C e = cc

not_A_if : (q : Bool) → (if q then C else N) ≢ A
not_A_if true = λ e. cc
not_A_if false = λ e. cc

module _ (net : Net) (p t m first d0 : ℕ) (woken : List ℕ) (w : World) (b : ℕ) (n : IsNet net) (j : p < net.publishers) (i : b < net.brokers) (host : is_host net p b ≡ false) (f : WorldFits net w) (deep : net.depth p b ≤ d0) (h : FirstAt net p t m first d0 woken w []) where
  abbrev y : World
  y = (wake_for net w b p).world

  abbrev d : ℕ
  d = net.depth p b

  abbrev v : View
  v = view_of w b p

  abbrev o : Outcome
  o = wake net p b w.clock v (log_of w p)

  abbrev asked_piece : Wanted
  asked_piece = wake_asked net p b w.clock v

  abbrev piece : Wanted
  piece = wake_piece net p b w.clock v

  abbrev settled_here : Bool
  settled_here = is_consolidated_by (keeps_horizon net p b) v.horizon v.wants t

  k : WokenBelow net w y b p o
  k = woken_below net w b p f i j host

  since : sent_since w y ≡ o.frames
  since = ap (frames_past (length w.frames)) k.taken.frames ∙ frames_past_all w.frames o.frames

  -- no broker's curiosity nor horizon changes
  same_wants : (c : ℕ) → (view_of y c p).wants ≡ (view_of w c p).wants
  same_wants c =
      elim (cases_eq c b) [
        | inl e ↦ subst (λ z. (view_of y z p).wants ≡ (view_of w z p).wants) (sym e) (ap (λ u. u.wants) k.taken.view ∙ k.ticks.wants)
        | inr e ↦ ap (λ u. u.wants) (k.taken.other c p e)
      ]

  same_horizon : (c : ℕ) → (view_of y c p).horizon ≡ (view_of w c p).horizon
  same_horizon c =
      elim (cases_eq c b) [
        | inl e ↦ subst (λ z. (view_of y z p).horizon ≡ (view_of w z p).horizon) (sym e) (ap (λ u. u.horizon) k.taken.view ∙ k.ticks.horizon)
        | inr e ↦ ap (λ u. u.horizon) (k.taken.other c p e)
      ]

  pick : (q : Bool) → asked_at v.asks t ≡ At m → (if q then At w.clock else asked_at v.asks t) ≡ At m
  pick true e = ap (λ z. At z) h.now.clock
  pick false e = e

  -- what is unknown is unknown afterwards
  gone : known_at v.know t ≡ Q → known_at o.view.know t ≡ Q
  gone e = ⊎_elim (λ z. z ∙ e) (λ z. z.0) (k.ticks.know t)

  -- what was noted stays
  stays : (c : ℕ) → asked_at (view_of w c p).asks t ≡ At m → asked_at (view_of y c p).asks t ≡ At m
  stays c e =
      elim (cases_eq c b) [
        | inl g ↦
            let a : asked_at v.asks t ≡ At m = subst (λ z. asked_at (view_of w z p).asks t ≡ At m) g e in
            subst (λ z. asked_at (view_of y z p).asks t ≡ At m) (sym g) (ap (λ u. asked_at u.asks t) k.taken.view ∙ (k.ticks.asks t (gone (h.unknown_asked b i a)) ∙ pick (is_C (wanted_at asked_piece t)) a))
        | inr g ↦ ap (λ u. asked_at u.asks t) (k.taken.other c p g) ∙ e
      ]

  -- what the wake asks is noted
  noted : wanted_at asked_piece t ≡ C → asked_at (view_of y b p).asks t ≡ At m
  noted e = ap (λ u. asked_at u.asks t) k.taken.view ∙ (asked_is_noted net p b w.clock t v o k.ticks e ∙ ap (λ z. At z) h.now.clock)

  -- an ask was noted before, or the wake asks
  new_or_old : asked_at (view_of y b p).asks t ≡ At m → (asked_at v.asks t ≡ At m) ⊎ (wanted_at asked_piece t ≡ C)
  new_or_old e =
      elim (cases_Bool (is_C (wanted_at asked_piece t))) [
        | inl g ↦ inr (C_of (wanted_at asked_piece t) g)
        | inr g ↦ inl (sym (ap (λ q. if q then At w.clock else asked_at v.asks t) g) ∙ k.ticks.asks_from t m (sym (ap (λ u. asked_at u.asks t) k.taken.view) ∙ e))
      ]

  still_open : (c : ℕ) → OpenBy net p t m d0 w c → OpenBy net p t m d y c
  still_open c (inl g) = inl (g.0, omega (arith, same_horizon c, g.1))
  still_open c (inr (inl g)) = inr (inl (ap (λ ws. any_C ws t) (same_wants c) ∙ g.0, omega (arith, g.1, deep)))
  still_open c (inr (inr g)) = inr (inr (record { child = g.child; is_child = g.is_child; stored = ap (λ ws. wanted_at (wants_in ws g.child) t) (same_wants c) ∙ g.stored; asked = stays g.child g.asked }))
    where
      wants_in : List Wanted → ℕ → Wanted
      wants_in ws e = wants_of net p c (record { know = []; wants = ws; asks = []; horizon = 0; joins = [] }) e

  newly_open : wanted_at asked_piece t ≡ C → OpenBy net p t m d y b
  newly_open e =
      ⊎_elim
      (λ x. inr (inl (ap (λ ws. any_C ws t) (same_wants b) ∙ x, omega arith)))
      (λ x. let z = and_parts (keeps_horizon net p b) (nat_lt v.horizon t) x in inl (z.0, omega (arith, same_horizon b, ltb-true v.horizon t z.1)))
      (or_cases (any_C v.wants t) (keeps_horizon net p b && nat_lt v.horizon t) (and_parts (is_Q (known_at v.know t)) (any_C v.wants t || (keeps_horizon net p b && nat_lt v.horizon t)) (asked_is_needed net p b w.clock t v o k.ticks e)).1)

  opened : (c : ℕ) → c < net.brokers → asked_at (view_of y c p).asks t ≡ At m → OpenBy net p t m d y c
  opened c x e =
      elim (cases_eq c b) [
        | inl g ↦ ⊎_elim
            (λ z. still_open c (h.opened c x (subst (λ q. asked_at (view_of w q p).asks t ≡ At m) (sym g) z)))
            (λ z. subst (λ q. OpenBy net p t m d y q) (sym g) (newly_open z))
            (new_or_old (subst (λ q. asked_at (view_of y q p).asks t ≡ At m) g e))
        | inr g ↦ still_open c (h.opened c x (sym (ap (λ u. asked_at u.asks t) (k.taken.other c p g)) ∙ e))
      ]

  -- a broker does not know what it has asked at this moment
  unknown_asked : (c : ℕ) → c < net.brokers → asked_at (view_of y c p).asks t ≡ At m → known_at (view_of y c p).know t ≡ Q
  unknown_asked c x e =
      elim (cases_eq c b) [
        | inl g ↦ subst (λ q. known_at (view_of y q p).know t ≡ Q) (sym g) (ap (λ u. known_at u.know t) k.taken.view ∙ gone (⊎_elim
            (λ z. h.unknown_asked b i z)
            (λ z. Q_is (known_at v.know t) (and_parts (is_Q (known_at v.know t)) (any_C v.wants t || (keeps_horizon net p b && nat_lt v.horizon t)) (asked_is_needed net p b w.clock t v o k.ticks z)).0)
            (new_or_old (subst (λ q. asked_at (view_of y q p).asks t ≡ At m) g e))))
        | inr g ↦ ap (λ u. known_at u.know t) (k.taken.other c p g) ∙ h.unknown_asked c x (sym (ap (λ u. asked_at u.asks t) (k.taken.other c p g)) ∙ e)
      ]

  -- the piece acknowledges only what is consolidated, and asks the rest
  piece_C : wanted_at piece t ≡ C → wanted_at asked_piece t ≡ C
  piece_C e =
      elim (cases_Bool settled_here) [
        | inl g ↦ absurd (A_not_C (sym (k.ticks.piece t ∙ ap (λ q. if q then A else wanted_at asked_piece t) g) ∙ e))
        | inr g ↦ sym (k.ticks.piece t ∙ ap (λ q. if q then A else wanted_at asked_piece t) g) ∙ e
      ]

  piece_A : wanted_at piece t ≡ A → settled_here ≡ true
  piece_A e =
      elim (cases_Bool settled_here) [
        | inl g ↦ g
        | inr g ↦ absurd (not_A_if _ (sym (k.ticks.asked t) ∙ (sym (k.ticks.piece t ∙ ap (λ q. if q then A else wanted_at asked_piece t) g) ∙ e)))
      ]

  not_both : settled_here ≡ true → asked_at (view_of y b p).asks t ≢ At m
  not_both e g =
      true≢false (sym e ∙ (ap₂ (λ x ws. is_consolidated_by (keeps_horizon net p b) x ws t) (sym (same_horizon b)) (sym (same_wants b)) ∙ opened_not_settled net p t m d y b (opened b i g)))

  sent_wait : (z : Frame) → is_want z ≡ true → SentUp net p b t piece z → WaitsUp net p t m d y z
  sent_wait z e u = record {
    runs = u.part;
    body_is = u.body_is;
    publisher = u.publisher;
    below = omega (arith, n.depth_up p b z.head.to j i u.up);
    noted = λ c. subst (λ q. asked_at (view_of y q p).asks t ≡ At m) (sym u.from_is) (⊎_elim (λ q. noted (piece_C (sym q ∙ c))) (λ q. absurd (C_not_N (sym c ∙ q))) u.value);
    final = λ c. subst (λ q. (d ≤ net.depth p q) × (asked_at (view_of y q p).asks t ≢ At m)) (sym u.from_is) (omega arith, not_both (⊎_elim (λ q. piece_A (sym q ∙ c)) (λ q. absurd (N_not_A (sym q ∙ c))) u.value));
  }

  path_stays : (c u : ℕ) → Path net p t m first w c u → Path net p t m first y c u
  path_stays c u (inl g) = inl (subst (λ z. Has (TellsKnown p u c t) (frames_past first z)) (sym k.taken.frames) (Has-past (TellsKnown p u c t) first w.frames o.frames g))
  path_stays c u (inr g) = inr (stores_stay_wake net w b p u c t f i j host g.0, ⊎_elim (λ z. inl z) (λ z. inr (stays u z)) g.1)

  -- an ask is older, or waits in a frame
  older : (c u : ℕ) → net.up p c ≡ Some u → asked_at (view_of y c p).asks t ≡ At m → (asked_at (view_of w c p).asks t ≡ At m) ⊎ Has (WantsTick p c u t C) (filter is_want (sent_since w y))
  older c u up e =
      elim (cases_eq c b) [
        | inl g ↦ ⊎_elim
            (λ z. inl (subst (λ q. asked_at (view_of w q p).asks t ≡ At m) (sym g) z))
            (λ z.
            let open_ = needed_not_settled net p b v t (asked_is_needed net p b w.clock t v o k.ticks z) in
            let x : wanted_at piece t ≡ C = k.ticks.piece t ∙ (ap (λ q. if q then A else wanted_at asked_piece t) open_ ∙ z) in
            inr (Has-wants p c u t (sent_since w y) (subst (Has (WantsTick p c u t C)) (sym (since ∙ k.ticks.frames)) (subst (λ q. Has (WantsTick p q u t C) (up_frames net p b piece)) (sym g) (subst (λ q. Has (WantsTick p b u t q) (up_frames net p b piece)) x (up_frames_want net p b u t piece (subst (λ q. net.up p q ≡ Some u) g up) (λ q. C_not_N (sym x ∙ q))))))))
            (new_or_old (subst (λ q. asked_at (view_of y q p).asks t ≡ At m) g e))
        | inr g ↦ inl (sym (ap (λ u. asked_at u.asks t) (k.taken.other c p g)) ∙ e)
      ]

  -- an ask that is outstanding has this moment, and what has none outstanding is asked
  by_asking : (is_outstanding (asked_at v.asks t) w.clock net.retry ≡ false → wanted_at asked_piece t ≡ C) → asked_at (view_of y b p).asks t ≡ At m
  by_asking g =
      elim (cases_Bool (is_outstanding (asked_at v.asks t) w.clock net.retry)) [
        | inl e ↦ stays b (asked_now net m p b t w h.now j i (subst (λ c. is_outstanding (asked_at v.asks t) c net.retry ≡ true) h.now.clock e))
        | inr e ↦ noted (g e)
      ]

  asked_stored : any_C (view_of y b p).wants t ≡ true → asked_at (view_of y b p).asks t ≡ At m
  asked_stored e =
      let a : any_C v.wants t ≡ true = sym (ap (λ ws. any_C ws t) (same_wants b)) ∙ e in
      let q : (wanted_at_wake net (keeps_horizon net p b) w.clock v t && is_Q (known_at v.know t)) ≡ true = ap₂ (λ x z. x && z) (or_left (any_C v.wants t) (keeps_horizon net p b && nat_lt v.horizon t && (nat_le (t + net.idle) w.clock || (nat_le (t + net.gap) w.clock && nat_lt t (top_of v.know)))) a) (ap is_Q (h.unknown.any p b t j i a)) in
      by_asking (λ g. k.ticks.asked t ∙ ap₂ (λ x z. if x && not z then C else N) q g)

  asked_needed : t + net.idle ≤ m → needs net p b (view_of y b p) t ≡ true → asked_at (view_of y b p).asks t ≡ At m
  asked_needed l e =
      let s = and_parts (is_Q (known_at (view_of y b p).know t)) (any_C (view_of y b p).wants t || (keeps_horizon net p b && nat_lt (view_of y b p).horizon t)) e in
      ⊎_elim asked_stored (λ z.
      let z1 : (keeps_horizon net p b && nat_lt v.horizon t) ≡ true = sym (ap (λ c. keeps_horizon net p b && nat_lt c t) (same_horizon b)) ∙ z in
      let z2 = and_parts (keeps_horizon net p b) (nat_lt v.horizon t) z1 in
      let gone : known_at o.view.know t ≡ Q = sym (ap (λ u. known_at u.know t) k.taken.view) ∙ Q_is (known_at (view_of y b p).know t) s.0 in
      let old : known_at v.know t ≡ Q = ⊎_elim (λ c. sym c ∙ gone) (λ c. absurd (omega (arith, ltb-true v.horizon t z2.1, c.2 z2.0))) (k.ticks.know t) in
      let need : needs net p b v t ≡ true = ap (λ c. is_Q c && (any_C v.wants t || (keeps_horizon net p b && nat_lt v.horizon t))) old ∙ or_right (any_C v.wants t) (keeps_horizon net p b && nat_lt v.horizon t) z1 in
      by_asking (λ g. needed_is_asked net p b w.clock t v o k.ticks need (omega (arith, l, h.now.clock)) g))
      (or_cases (any_C (view_of y b p).wants t) (keeps_horizon net p b && nat_lt (view_of y b p).horizon t) s.1)

  asked : (c : ℕ) → c < net.brokers → IsIn c (b ∷ woken) → is_host net p c ≡ false → HasAskedAll net p t m y c
  asked c x l e =
      elim (cases_eq c b) [
        | inl g ↦ subst (λ z. HasAskedAll net p t m y z) (sym g) (record { stored = asked_stored; needed = asked_needed })
        | inr g ↦ same_asked net p t m w y c (k.taken.other c p g) (h.asked c x (⊎_elim (λ z. absurd (g (sym (eqb-true b c z)))) (λ z. z) (or_cases (nat_eq b c) (list_any (λ z. nat_eq z c) woken) l)) e)
      ]

  woken_for : FirstAt net p t m first d (b ∷ woken) y (filter is_want (sent_since w y))
  woken_for = record {
    now = (now_closed net m n).woken w b p f i j h.now;
    unknown = (unknown_calls net n).woken w b p f i j h.unknown;
    first_in = subst (λ z. first ≤ length z) (sym k.taken.frames) (longer first w.frames o.frames h.first_in);
    waits = subst (λ z. Each (WaitsUp net p t m d y) (filter is_want z)) (sym (since ∙ k.ticks.frames)) (up_kept (SentUp net p b t piece) (WaitsUp net p t m d y) (up_frames net p b piece) sent_wait (up_frames_sent net t p b piece k.ticks.piece_runs));
    claim = λ c u child up e. ⊎_elim (λ a. ⊎_elim (λ z. inl (path_stays c u z)) (λ z. absurd z) (h.claim c u child up a)) (λ z. inr z) (older c u up e);
    opened = opened;
    unknown_asked = unknown_asked;
    asked = asked;
  }

-- the wake of a broker that is not the host, with all its nested deliveries
pub first_woken : (net : Net) (p t m first d0 : ℕ) (woken : List ℕ) (w : World) (b : ℕ) → IsNet net → p < net.publishers → b < net.brokers → is_host net p b ≡ false → WorldFits net w → net.depth p b ≤ d0 → FirstAt net p t m first d0 woken w [] → FirstAt net p t m first (net.depth p b) (b ∷ woken) (wake_up net p w b).world []
unfolding wake_up_by
first_woken net p t m first d0 woken w b n j i host f deep h =
    let y = (wake_for net w b p).world in
    let g = (wake_for_kept net w b p n f i j).fits in
    let fs = filter is_want (sent_since w y) in
    let a = filter_frames net y is_want (sent_since w y) (frames_past_true net y (length w.frames) y.frames g.frames) in
    deliver_up_all net (rank_of net) (FirstAt net p t m first (net.depth p b) (b ∷ woken)) net.brokers n (first_pending net p t m first (net.depth p b) (b ∷ woken) n j) fs [] y g a (ranks net y fs n a)
    (subst (λ z. FirstAt net p t m first (net.depth p b) (b ∷ woken) y z) (sym (append-nil fs)) (woken_for net p t m first d0 woken w b n j i host f deep h))
