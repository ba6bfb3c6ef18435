-- The second phase: by rising depth each broker is handed what it needs and hands it on, so each kept horizon comes to the moment
use Rattle.std.proofs.Common.{◌≡◌, ◌≢◌, ◌⊎◌, inl, inr, ⊎_elim, ℕ, suc, zero, ◌≤◌, ◌<◌, true, false, ◌&&◌, ◌||◌, List, [], ◌∷◌, ◌++◌, length, get_or, refl, sym, ap, ap₂, ◌∙◌, subst, Some, arith, append-nil, append_assoc, le_antisymm}
use Rattle.std.specs.Prelude.{nat_lt}
use Rattle.std.proofs.lemmas.List.{length-append}
use Rattle.std.proofs.lemmas.Bool.{cases_Bool, cases_lt, cases_eq, false≢true, or_left, or_right, and_parts, eqb-true, lt-ltb, both_ways}
use Rattle.gr_know.specs.declared.values.K.{K}
use Rattle.gr_know.specs.declared.values.K.TheVariants.{Q, S, D, F}
use Rattle.gr_curio.specs.declared.values.Q3.TheVariants.{C, A}
use Rattle.gr_curio.specs.declared.asks.Moment.TheVariants.{At}
use Rattle.gr_frame.specs.declared.Frame.{Frame}
use Rattle.gr_know.specs.Values.{known_at, is_Q}
use Rattle.gr_curio.specs.Values.{Wanted, wanted_at, asked_at, is_C}
use Rattle.gr_model.specs.Net.{Net, is_host, keeps_horizon}
use Rattle.gr_model.specs.Broker.{View, any_C, place_of}
use Rattle.gr_model.specs.World.{World, view_of, log_of, frames_past}
use Rattle.gr_model_calls.specs.OneNet.{hand_down}
use Rattle.gr_model.specs.Tree.{IsNet}
use Rattle.gr_model_calls.specs.Fits.{WorldFits}
use Rattle.gr_model_theorems.proofs.heard.Heard.{cases_Q}
use Rattle.gr_model_calls.proofs.asks.AskMoments.{ExpectFits}
use Rattle.gr_model_calls.proofs.rules.SweepAsks.{AsksNow, now_closed}
use Rattle.gr_model_calls.proofs.runs.Closed.{Goes, hand_down_goes}
use Rattle.gr_model_calls.proofs.asks.CallTicks.{needs}
use Rattle.gr_model_calls.proofs.rules.Forwarding.{Has, wants_of}
use Rattle.gr_model_calls.proofs.rules.Serves.{TellsKnown, Stores}
use Rattle.gr_model_theorems.proofs.sweep.Path.{Has-past}
use Rattle.gr_model_theorems.proofs.sweep.SweepStates.{IsChild, Unknowns, Begins, Asked, Calm, first_phase, second_phase}
use Rattle.gr_model_theorems.proofs.sweep.SecondTurn.{BringsTick, Leaves, turn_leaves, turn_tells, turn_rises, handed, told_handed}
use Rattle.gr_model_theorems.proofs.sweep.SecondOrder.{Had, IsTurnByTurn, outwards_in_turn}

-- a tick that the second phase brings to a broker: one past what was settled, or one that it needs after the first phase
pub record IsDue (net : Net) (p m s : ℕ) (old : World) (b t : ℕ) : Type 0 where
  pub from : 1 ≤ t
  pub upto : t ≤ m
  pub due : (s < t) ⊎ (needs net p b (view_of old b p) t ≡ true)

-- the second phase so far: those who had their turn have told their children and passed their horizons; the others stand as after the first phase
pub record Handed (net : Net) (p m s first : ℕ) (old : World) (Done : ℕ → Type 0) (w : World) : Type 0 where
  pub fits : WorldFits net w
  pub now : AsksNow net m w
  pub unknown : Unknowns net w
  pub more : List Frame
  pub frames : w.frames ≡ old.frames ++ more
  pub log : log_of w p ≡ log_of old p
  pub before : (b : ℕ) → (Done b → ⊥) → view_of w b p ≡ view_of old b p
  pub asked : (b t : ℕ) → b < net.brokers → is_host net p b ≡ false → any_C (view_of w b p).wants t ≡ true → asked_at (view_of w b p).asks t ≡ At m
  pub passed : (b c t : ℕ) → b < net.brokers → Done b → is_host net p b ≡ false → IsChild net p b c → IsDue net p m s old b t → wanted_at (wants_of net p b (view_of old b p) c) t ≢ A → Has (TellsKnown p b c t) (frames_past first w.frames)
  pub reached : (b : ℕ) → b < net.brokers → Done b → keeps_horizon net p b ≡ true → m ≤ (view_of w b p).horizon

known_if : (k : K) → is_Q k ≡ true → k ≡ Q
known_if Q e = refl
known_if S e = absurd (false≢true e)
known_if (D x) e = absurd (false≢true e)
known_if F e = absurd (false≢true e)

C_not_A : C ≡ A → ⊥
C_not_A e = cc

-- a stored question of one child is a question of some child
any_C_of : (ws : List Wanted) (i t : ℕ) → is_C (wanted_at (get_or ws i []) t) ≡ true → any_C ws t ≡ true
any_C_of [] i t e = absurd (false≢true e)
any_C_of (w ∷ ws) zero t e = or_left (is_C (wanted_at w t)) (any_C ws t) e
any_C_of (w ∷ ws) (suc i) t e = or_right (is_C (wanted_at w t)) (any_C ws t) (any_C_of ws i t e)

-- who has stored a question needs its tick
stored_needs : (net : Net) (p u c t : ℕ) (w : World) → Stores net w p u c t → needs net p u (view_of w u p) t ≡ true
stored_needs net p u c t w h =
    ap₂ (λ x y. x && (y || (keeps_horizon net p u && nat_lt (view_of w u p).horizon t))) (ap is_Q h.unknown) (any_C_of (view_of w u p).wants (place_of c (net.children p u)) t (ap is_C h.asks))

-- and so does who does not know a tick above the horizon that it keeps
pub above_needs : (net : Net) (p b t : ℕ) (v : View) → keeps_horizon net p b ≡ true → known_at v.know t ≡ Q → v.horizon < t → needs net p b v t ≡ true
above_needs net p b t v keeps k l = ap₂ (λ x y. x && y) (ap is_Q k) (or_right (any_C v.wants t) (keeps_horizon net p b && nat_lt v.horizon t) (ap₂ (λ x y. x && y) keeps (lt-ltb v.horizon t l)))

-- what is due was unknown
due_unknown : (net : Net) (p m s first : ℕ) (old : World) (b t : ℕ) → Asked net p s m first old → b < net.brokers → is_host net p b ≡ false → IsDue net p m s old b t → known_at (view_of old b p).know t ≡ Q
due_unknown net p m s first old b t a i host h =
    ⊎_elim
    (λ l. a.fresh b t i host l)
    (λ e. known_if (known_at (view_of old b p).know t) (and_parts (is_Q (known_at (view_of old b p).know t)) (any_C (view_of old b p).wants t || (keeps_horizon net p b && nat_lt (view_of old b p).horizon t)) e).0)
    h.due

-- what is due to a broker was told it once the next broker up has had its turn
pub comes_down : (net : Net) (p m s first : ℕ) (old w : World) (Done : ℕ → Type 0) (b u t : ℕ) → IsNet net → Asked net p s m first old → Handed net p m s first old Done w → u < net.brokers → IsChild net p u b → ((is_host net p u ≡ true) ⊎ Done u) → IsDue net p m s old b t → Has (TellsKnown p u b t) (frames_past first w.frames)
comes_down net p m s first old w Done b u t n a h i child done d =
    ⊎_elim
    (λ l. past l)
    (λ e. elim (cases_lt s t) [
      | inl l ↦ past l
      | inr l ↦ ⊎_elim (λ z. grow z) (λ z. on z.1 (inr (stored_needs net p u b t old z.0)) (λ q. C_not_A (sym z.0.asks ∙ q))) (a.served b u t i child d.from l e)
    ])
    d.due
  where
    Told : Type 0
    Told = Has (TellsKnown p u b t) (frames_past first w.frames)

    grow : Has (TellsKnown p u b t) (frames_past first old.frames) → Told
    grow z = subst (λ q. Has (TellsKnown p u b t) (frames_past first q)) (sym h.frames) (Has-past (TellsKnown p u b t) first old.frames h.more z)

    on : is_host net p u ≡ false → (s < t) ⊎ (needs net p u (view_of old u p) t ≡ true) → wanted_at (wants_of net p u (view_of old u p) b) t ≢ A → Told
    on e due na = ⊎_elim (λ y. absurd (both_ways (is_host net p u) e y)) (λ y. h.passed u b t i y e child (record { from = d.from; upto = d.upto; due = due }) na) done

    past : s < t → Told
    past l = elim (cases_Bool (is_host net p u)) [
      | inl e ↦
          let g : net.host p ≡ u = eqb-true (net.host p) u e in
          subst (λ z. Has (TellsKnown p z b t) (frames_past first w.frames)) g (subst (λ q. Has (TellsKnown p (net.host p) b t) (frames_past first q)) (sym h.frames) (Has-past (TellsKnown p (net.host p) b t) first old.frames h.more
          (a.marked b t (subst (λ z. IsChild net p z b) (sym g) child) l d.upto)))
      | inr e ↦ on e (inl l) (a.plain u b t i child l)
    ]

-- another name for who has had its turn
handed_on : (net : Net) (p m s first : ℕ) (old : World) (Done Over : ℕ → Type 0) (w : World) → ((b : ℕ) → Done b → Over b) → ((b : ℕ) → b < net.brokers → Over b → Done b) → Handed net p m s first old Done w → Handed net p m s first old Over w
handed_on net p m s first old Done Over w to back h = record {
  fits = h.fits;
  now = h.now;
  unknown = h.unknown;
  more = h.more;
  frames = h.frames;
  log = h.log;
  before = λ b k. h.before b (λ z. k (to b z));
  asked = h.asked;
  passed = λ b c t i done host child due na. h.passed b c t i (back b i done) host child due na;
  reached = λ b i done keeps. h.reached b i (back b i done) keeps;
}

-- One turn

-- the next broker up had its turn before
up_had : (net : Net) (p d b u : ℕ) → IsNet net → p < net.publishers → b < net.brokers → net.depth p b ≡ d → net.up p b ≡ Some u → Had net p d b u
up_had net p d b u n j i e up = inl (omega (arith, e, n.depth_up p b u j i up))

not_yet : (net : Net) (p d b : ℕ) → net.depth p b ≡ d → Had net p d b b → ⊥
not_yet net p d b e (inl l) = omega (arith, e, l)
not_yet net p d b e (inr l) = omega (arith, l.1)

-- those who have had it, but for one
had_other : (net : Net) (p d b c : ℕ) → c ≢ b → Had net p d (suc b) c → Had net p d b c
had_other net p d b c k (inl l) = inl l
had_other net p d b c k (inr l) = inr (l.0, omega (arith, l.1, k))

had_more : (net : Net) (p d b c : ℕ) → Had net p d b c → Had net p d (suc b) c
had_more net p d b c (inl l) = inl l
had_more net p d b c (inr l) = inr (l.0, omega (arith, l.1))

-- one more broker
handed_turn : (net : Net) (p m s first : ℕ) (old : World) (d b : ℕ) (w : World) → IsNet net → p < net.publishers → 1 ≤ m → s < m → Asked net p s m first old → b < net.brokers → net.depth p b ≡ d → Handed net p m s first old (Had net p d b) w → Handed net p m s first old (Had net p d (suc b)) (hand_down net p first w b).world
handed_turn net p m s first old d b w n j one sm a i e h = record {
  fits = g.kept.fits;
  now = g.holds;
  unknown = l.unknown;
  more = h.more ++ l.more;
  frames = l.frames ∙ (ap (λ (z : List Frame). z ++ l.more) h.frames ∙ append_assoc old.frames h.more l.more);
  log = l.log ∙ h.log;
  before = λ c k. l.other c (λ z. k (subst (Had net p d (suc b)) (sym z) (inr (e, omega arith)))) ∙ h.before c (λ z. k (had_more net p d b c z));
  asked = λ c t x host q. elim (cases_eq c b) [
    | inl z ↦ subst (λ v. asked_at (view_of y v p).asks t ≡ At m) (sym z) (let c = subst (λ v. any_C (view_of y v p).wants t ≡ true) z q in l.asks t c ∙ h.asked b t i (subst (λ v. is_host net p v ≡ false) z host) (l.wants t c))
    | inr z ↦ ap (λ v. asked_at v.asks t) (l.other c z) ∙ h.asked c t x host (subst (λ v. any_C v.wants t ≡ true) (l.other c z) q)
  ];
  passed = λ c k t x done host child due na. elim (cases_eq c b) [
    | inl z ↦ subst (λ v. Has (TellsKnown p v k t) (frames_past first y.frames)) (sym z) (tells k t (subst (λ v. is_host net p v ≡ false) z host) (subst (λ v. IsChild net p v k) z child) (subst (λ v. IsDue net p m s old v t) z due) (subst (λ v. wanted_at (wants_of net p v (view_of old v p) k) t ≢ A) z na))
    | inr z ↦ subst (λ v. Has (TellsKnown p c k t) (frames_past first v)) (sym l.frames) (Has-past (TellsKnown p c k t) first w.frames l.more (h.passed c k t x (had_other net p d b c z done) host child due na))
  ];
  reached = λ c x done keeps. elim (cases_eq c b) [
    | inl z ↦ subst (λ v. m ≤ (view_of y v p).horizon) (sym z) (rises (subst (λ v. keeps_horizon net p v ≡ true) z keeps))
    | inr z ↦ subst (λ v. m ≤ v.horizon) (sym (l.other c z)) (h.reached c x (had_other net p d b c z done) keeps)
  ];
}
  where
    y : World
    y = (hand_down net p first w b).world

    g : Goes net (AsksNow net m) w (hand_down net p first w b)
    g = hand_down_goes net (ExpectFits net) (AsksNow net m) p first w b n (now_closed net m n) h.fits h.now

    l : Leaves net w p b y []
    l = turn_leaves net p first w b n h.fits h.unknown

    same : view_of w b p ≡ view_of old b p
    same = h.before b (not_yet net p d b e)

    first_in : first ≤ length w.frames
    first_in = omega (arith, a.first_in, ap length h.frames, length-append old.frames h.more)

    comes_here : (t : ℕ) → is_host net p b ≡ false → IsDue net p m s old b t → Has (BringsTick t) (handed p first b w)
    comes_here t host due =
        let u = n.up_below p b j i host in
        let k = n.up_in p b u.0 j i u.1 in
        told_handed p u.0 b t (frames_past first w.frames) (comes_down net p m s first old w (Had net p d b) b u.0 t n a h k.0 k.1 (inr (up_had net p d b u.0 n j i e u.1)) due)

    tells : (k t : ℕ) → is_host net p b ≡ false → IsChild net p b k → IsDue net p m s old b t → wanted_at (wants_of net p b (view_of old b p) k) t ≢ A → Has (TellsKnown p b k t) (frames_past first y.frames)
    tells k t host child due na = turn_tells net k t first p b w n h.fits (record {
      first_in = first_in;
      child = child;
      state = inr (
        ap (λ v. known_at v.know t) same ∙ due_unknown net p m s first old b t a i host due,
        subst (λ v. wanted_at (wants_of net p b v k) t ≢ A) (sym same) na,
        comes_here t host due,
      );
    })

    waiting : (t : ℕ) → is_host net p b ≡ false → keeps_horizon net p b ≡ true → 1 ≤ t → t ≤ m → (t ≤ (view_of w b p).horizon) ⊎ ((known_at (view_of w b p).know t ≢ Q) ⊎ Has (BringsTick t) (handed p first b w))
    waiting t host keeps x z = elim (cases_lt (view_of w b p).horizon t) [
      | inr l ↦ inl l
      | inl l ↦ elim (cases_Q (known_at (view_of w b p).know t)) [
        | inr k ↦ inr (inl k)
        | inl k ↦ inr (inr (comes_here t host (record { from = x; upto = z; due = inr (subst (λ v. needs net p b v t ≡ true) same (above_needs net p b t (view_of w b p) keeps k l)) })))
      ]
    ]

    rises : keeps_horizon net p b ≡ true → m ≤ (view_of y b p).horizon
    rises keeps = elim (cases_Bool (is_host net p b)) [
      | inl host ↦
          let c : net.host p ≡ b = eqb-true (net.host p) b host in
          let q : (view_of w b p).horizon ≡ m = ap (λ v. v.horizon) same ∙ subst (λ z. (view_of old z p).horizon ≡ m) c (a.host (subst (λ z. keeps_horizon net p z ≡ true) (sym c) keeps)) in
          turn_rises net m p first b w n h.fits (record { keeps = keeps; each = λ t x z. inl (omega (arith, z, q)); edge = inl (omega (arith, q)) })
      | inr host ↦ turn_rises net m p first b w n h.fits (record {
        keeps = keeps;
        each = λ t x z. waiting t host keeps x z;
        edge = inr (inr (comes_here m host (record { from = one; upto = omega arith; due = inl sm })));
      })
    ]

-- All turns

handed_order : (net : Net) (p m s first : ℕ) (old : World) → IsNet net → p < net.publishers → 1 ≤ m → s < m → Asked net p s m first old → IsTurnByTurn net p (hand_down net p first) (λ d a w. Handed net p m s first old (Had net p d a) w)
handed_order net p m s first old n j one sm a = record {
  turn = λ d b w i e h. handed_turn net p m s first old d b w n j one sm a i e h;
  skip = λ d b w i e h. handed_on net p m s first old (Had net p d b) (Had net p d (suc b)) w (λ c x. had_more net p d b c x) (λ c x y. skipped net p d b c e y) h;
  deeper = λ d w h. handed_on net p m s first old (Had net p d net.brokers) (Had net p (suc d) 0) w (λ c x. deeper_had net p d c x) (λ c x y. deeper_back net p d c x y) h;
}
  where
    skipped : (net : Net) (p d b c : ℕ) → net.depth p b ≢ d → Had net p d (suc b) c → Had net p d b c
    skipped net p d b c e (inl l) = inl l
    skipped net p d b c e (inr l) = elim (cases_eq c b) [
      | inl z ↦ absurd (e (subst (λ v. net.depth p v ≡ d) z l.0))
      | inr z ↦ inr (l.0, omega (arith, l.1, z))
    ]

    deeper_had : (net : Net) (p d c : ℕ) → Had net p d net.brokers c → Had net p (suc d) 0 c
    deeper_had net p d c (inl l) = inl (omega (arith, l))
    deeper_had net p d c (inr l) = inl (omega (arith, l.0))

    deeper_back : (net : Net) (p d c : ℕ) → c < net.brokers → Had net p (suc d) 0 c → Had net p d net.brokers c
    deeper_back net p d c i (inl l) = elim (cases_eq (net.depth p c) d) [
      | inl z ↦ inr (z, i)
      | inr z ↦ inl (omega (arith, l, z))
    ]
    deeper_back net p d c i (inr l) = absurd (omega (arith, l.1))

-- after the second phase each broker has had its turn
pub handed_all : (net : Net) (p m : ℕ) (w : World) → IsNet net → Begins net p m w → Asked net p (log_of w p).settled m (length w.frames) (first_phase net w p) →
    Handed net p m (log_of w p).settled (length w.frames) (first_phase net w p) (Had net p net.brokers 0) (second_phase net w p)
handed_all net p m w n b a =
    let s = (log_of w p).settled in
    let first = length w.frames in
    let old = first_phase net w p in
    outwards_in_turn net p (hand_down net p first) (λ d a w. Handed net p m s first old (Had net p d a) w) (handed_order net p m s first old n b.publisher (omega (arith, b.far)) (omega (arith, b.far)) a) old (record {
      fits = a.fits;
      now = a.now;
      unknown = a.unknown;
      more = [];
      frames = sym (append-nil old.frames);
      log = refl;
      before = λ c k. refl;
      asked = a.asked;
      passed = λ c k t i done host child due na. absurd (none c done);
      reached = λ c i done keeps. absurd (none c done);
    })
  where
    none : (c : ℕ) → Had net p 0 0 c → ⊥
    none c (inl l) = omega (arith, l)
    none c (inr l) = omega (arith, l.1)

-- after the second phase each kept horizon is at the moment, and each question that stands was asked at it
pub second_phase_calms : (net : Net) (p m : ℕ) (w : World) → IsNet net → Begins net p m w → Asked net p (log_of w p).settled m (length w.frames) (first_phase net w p) → Calm net p m (length w.frames) (second_phase net w p)
second_phase_calms net p m w n b a =
    let h = handed_all net p m w n b a in
    let y = second_phase net w p in
    let settled : (log_of y p).settled ≡ m = ap (λ l. l.settled) h.log ∙ a.settled in
    record {
      fits = h.fits;
      now = h.now;
      unknown = h.unknown;
      first_in = omega (arith, a.first_in, ap length h.frames, length-append (first_phase net w p).frames h.more);
      settled = settled;
      reached = λ c i keeps. le_antisymm (omega (arith, settled, (h.fits.views p c b.publisher i).horizon.settled)) (h.reached c i (inl (n.depth_in p c b.publisher i)) keeps);
      asked = h.asked;
    }
