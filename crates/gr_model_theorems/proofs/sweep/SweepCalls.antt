-- The calls of a sweep, made one after another, are the sweep: each number that is delivered is that of the frame which the machine delivers there
use Rattle.std.proofs.Common.{◌≡◌, inl, inr, ℕ, suc, zero, ◌≤◌, Bool, true, false, List, [], ◌∷◌, ◌++◌, map, length, refl, sym, ap, ◌∙◌, subst, Option, Some, None, arith, append-nil, append_assoc}
use Rattle.std.specs.Prelude.{nat_lt, filter, slice_get}
use Rattle.std.proofs.lemmas.Bool.{cases_Bool, true≢false}
use Rattle.std.proofs.lemmas.List.{length-append}
use Rattle.gr_frame.specs.declared.Frame.{Frame}
use Rattle.gr_model.specs.declared.report.Report.TheVariants as line
use Rattle.gr_model.specs.Net.{Net, numbers}
use Rattle.gr_model.specs.Broker.{Outcome, max_tick, wake, receive}
use Rattle.gr_model.specs.World.{World, Transition, view_of, log_of, absorbed, unchanged, followed_by, in_turn, frame_at, frames_past, sent_since, is_want, is_know_to, inwards, outwards, sweep_moment, deliver_frame_by, deliver_up_by, hand_down_by, sweep_by, sweep_for_by, wake_for_by, wake_up_by}
use Rattle.gr_model_calls.specs.OneNet.{wake_for, deliver_frame, deliver_up, wake_up, hand_down, sweep_for, sweep}
use Rattle.gr_model_theorems.specs.Settles.{Call, wakes, delivers, made, EachSent, all_made, numbers_of, sent_past, calls_in_turn, up_calls, wake_calls, down_calls, sweep_calls_for, at_sweep, sweep_calls}

-- Frames are only added

-- the second world has all frames of the first, and maybe more after them
pub record Grows (w u : World) : Type 0 where
  pub more : List Frame
  pub frames : u.frames ≡ w.frames ++ more

-- a world has all its own frames
pub grows_none : (w : World) → Grows w w
grows_none w = record { more = []; frames = sym (append-nil w.frames) }

-- frames that are kept twice are kept
pub grows_on : (w u v : World) → Grows w u → Grows u v → Grows w v
grows_on w u v a b = record { more = a.more ++ b.more; frames = b.frames ∙ (ap (λ z. z ++ b.more) a.frames ∙ append_assoc w.frames a.more b.more) }

absorbed_grows : (w : World) (b p : ℕ) (o : Outcome) → Grows w (absorbed w b p o).world
unfolding absorbed
absorbed_grows w b p o = record { more = o.frames; frames = refl }

-- a wake keeps the frames sent before
pub wake_grows : (net : Net) (w : World) (b p : ℕ) → Grows w (wake_for net w b p).world
unfolding wake_for_by
wake_grows net w b p = absorbed_grows w b p (wake net p b w.clock (view_of w b p) (log_of w p))

-- a delivery keeps the frames sent before
pub deliver_grows : (net : Net) (w : World) (f : Frame) → Grows w (deliver_frame net w f).world
unfolding deliver_frame_by
deliver_grows net w f = absorbed_grows w f.head.to f.head.publisher (receive net w.clock f (view_of w f.head.to f.head.publisher) (log_of w f.head.publisher))

made_grows : (net : Net) (w : World) (c : Call) → Grows w (made net w c).world
made_grows net w (wakes b p) = wake_grows net w b p
made_grows net w (delivers k) = go (frame_at w k)
  where
    go : (o : Option Frame) → Grows w (let t : Transition = elim o [ None ↦ unchanged w [] | Some f ↦ deliver_frame net w f ] in t.world)
    go None = grows_none w
    go (Some f) = deliver_grows net w f

-- calls made one after another keep the frames sent before
pub all_made_grows : (net : Net) (cs : List Call) (w : World) → Grows w (all_made net cs w).world
all_made_grows net [] w = grows_none w
all_made_grows net (c ∷ cs) w = grows_on w (made net w c).world (all_made net cs (made net w c).world).world (made_grows net w c) (all_made_grows net cs (made net w c).world)

-- as many frames are there as were there
pub grows_long : (w u : World) (n : ℕ) → Grows w u → n ≤ length w.frames → n ≤ length u.frames
grows_long w u n g l = omega (arith, l, ap length g.frames ∙ length-append w.frames g.more)

-- Numbers of frames

-- two lists go together, item by item
abbrev pub Pairs : {X Y : Type 0} → (X → Y → Type 0) → List X → List Y → Type 0
Pairs R [] [] = Unit {0}
Pairs R (x ∷ xs) (y ∷ ys) = R x y × Pairs R xs ys
Pairs R [] (y ∷ ys) = ⊥
Pairs R (x ∷ xs) [] = ⊥

-- the frame has the number
abbrev pub IsAt : World → ℕ → Frame → Type 0
IsAt w k f = frame_at w k ≡ Some f

front_stays : (xs ys : List Frame) (k : ℕ) (f : Frame) → slice_get xs k ≡ Some f → slice_get (xs ++ ys) k ≡ Some f
front_stays [] ys k f e = absurd (none_some f e)
  where
    none_some : (f : Frame) → None ≡ Some f → ⊥
    none_some f e = cc
front_stays (x ∷ xs) ys zero f e = e
front_stays (x ∷ xs) ys (suc k) f e = front_stays xs ys k f e

-- a frame keeps its number
pub at_stays : (w u : World) (k : ℕ) (f : Frame) → Grows w u → IsAt w k f → IsAt u k f
at_stays w u zero f g e = e
at_stays w u (suc k) f g e = ap (λ z. slice_get z k) g.frames ∙ front_stays w.frames g.more k f e

pairs_stay : (w u : World) (ks : List ℕ) (fs : List Frame) → Grows w u → Pairs (IsAt w) ks fs → Pairs (IsAt u) ks fs
pairs_stay w u [] [] g a = tt
pairs_stay w u [] (f ∷ fs) g a = absurd a
pairs_stay w u (k ∷ ks) [] g a = absurd a
pairs_stay w u (k ∷ ks) (f ∷ fs) g a = (at_stays w u k f g a.0, pairs_stay w u ks fs g a.1)

here_at : (pre fs : List Frame) (f : Frame) → slice_get (pre ++ f ∷ fs) (length pre) ≡ Some f
here_at [] fs f = refl
here_at (x ∷ pre) fs f = here_at pre fs f

numbers_at : (test : Frame → Bool) (w : World) (pre fs : List Frame) → w.frames ≡ pre ++ fs → Pairs (IsAt w) (numbers_of test (suc (length pre)) fs) (filter test fs)
numbers_at test w pre [] e = tt
numbers_at test w pre (f ∷ fs) e =
    let rest = subst (λ z. Pairs (IsAt w) (numbers_of test (suc z) fs) (filter test fs)) (omega (arith, length-append pre (f ∷ []))) (numbers_at test w (pre ++ f ∷ []) fs (e ∙ sym (append_assoc pre (f ∷ []) fs))) in
    elim (cases_Bool (test f)) [
      | inl y ↦ rw y (ap (λ z. slice_get z (length pre)) e ∙ here_at pre fs f, rest)
      | inr y ↦ rw y rest
    ]

pub record Front (n : ℕ) (fs : List Frame) : Type 0 where
  pub pre : List Frame
  pub whole : fs ≡ pre ++ frames_past n fs
  pub long : length pre ≡ n

pub front_of : (n : ℕ) (fs : List Frame) → n ≤ length fs → Front n fs
front_of zero fs l = record { pre = []; whole = refl; long = refl }
front_of (suc n) [] l = absurd (omega (arith, l))
front_of (suc n) (f ∷ fs) l = let x = front_of n fs (omega (arith, l)) in record { pre = f ∷ x.pre; whole = ap (λ z. f ∷ z) x.whole; long = ap suc x.long }

-- the numbers are those of the frames
pub sent_at : (test : Frame → Bool) (n : ℕ) (w : World) → n ≤ length w.frames → Pairs (IsAt w) (sent_past test n w) (filter test (frames_past n w.frames))
sent_at test n w l = let x = front_of n w.frames l in subst (λ z. Pairs (IsAt w) (numbers_of test (suc z) (frames_past n w.frames)) (filter test (frames_past n w.frames))) x.long (numbers_at test w x.pre (frames_past n w.frames) x.whole)

-- Lists of calls

pub all_made-append : (net : Net) (xs ys : List Call) (w : World) → all_made net (xs ++ ys) w ≡ followed_by (all_made net xs w) (all_made net ys)
all_made-append net [] ys w = refl
all_made-append net (x ∷ xs) ys w =
    let s = made net w x in
    let a = all_made net xs s.world in
    ap (λ (r : Transition). let t : Transition = record { world = r.world; lines = s.lines ++ r.lines } in t) (all_made-append net xs ys s.world)
    ∙ ap (λ ls. let t : Transition = record { world = (all_made net ys a.world).world; lines = ls } in t) (sym (append_assoc s.lines a.lines (all_made net ys a.world).lines))

pub calls_are : {X Y : Type 0} (net : Net) (R : World → X → Y → Type 0) (g : World → X → List Call) (f : World → Y → Transition) → ((w u : World) (x : X) (y : Y) → Grows w u → R w x y → R u x y) → ((w : World) (x : X) (y : Y) → R w x y → all_made net (g w x) w ≡ f w y) →
    (xs : List X) (ys : List Y) (w : World) → Pairs (R w) xs ys → all_made net (calls_in_turn net g xs w) w ≡ in_turn f ys w
calls_are net R g f stays one [] [] w a = refl
calls_are net R g f stays one [] (y ∷ ys) w a = absurd a
calls_are net R g f stays one (x ∷ xs) [] w a = absurd a
calls_are {X} {Y} net R g f stays one (x ∷ xs) (y ∷ ys) w a =
    let s = all_made net (g w x) w in
    all_made-append net (g w x) (calls_in_turn net g xs s.world) w
    ∙ (ap (λ (r : Transition). let t : Transition = record { world = r.world; lines = s.lines ++ r.lines } in t) (calls_are net R g f stays one xs ys s.world (on xs ys a.1))
    ∙ ap (λ (t : Transition). followed_by t (in_turn f ys)) (one w x y a.0))
  where
    on : (xs : List X) (ys : List Y) → Pairs (R w) xs ys → Pairs (R (all_made net (g w x) w).world) xs ys
    on [] [] b = tt
    on [] (v ∷ vs) b = absurd b
    on (u ∷ us) [] b = absurd b
    on (u ∷ us) (v ∷ vs) b = (stays w (all_made net (g w x) w).world u v (all_made_grows net (g w x) w) b.0, on us vs b.1)

-- the call that delivers a number delivers the frame with that number
pub made_is : (net : Net) (w : World) (k : ℕ) (f : Frame) → IsAt w k f → made net w (delivers k) ≡ deliver_frame net w f
made_is net w k f e = ap (λ o. let t : Transition = elim o [ None ↦ unchanged w [] | Some f ↦ deliver_frame net w f ] in t) e

-- the calls of upward deliveries, made one after another, are these deliveries
pub up_are : (net : Net) (fuel : ℕ) (ks : List ℕ) (fs : List Frame) (w : World) → Pairs (IsAt w) ks fs → all_made net (up_calls net fuel ks w) w ≡ deliver_up net fuel fs w
unfolding up_calls deliver_up_by
up_are net zero ks fs w a = refl
up_are net (suc fuel) ks fs w a = calls_are net (λ u k f. IsAt u k f) (λ u k. let x = (made net u (delivers k)).world in delivers k ∷ up_calls net fuel (sent_past is_want (length u.frames) x) x) (λ u f. followed_by (deliver_frame net u f) (λ x. deliver_up net fuel (filter is_want (sent_since u x)) x))
    (λ u v k f g e. at_stays u v k f g e)
    (λ u k f e.
    let s = made net u (delivers k) in
    ap (λ (r : Transition). let t : Transition = record { world = r.world; lines = s.lines ++ r.lines } in t) (up_are net fuel (sent_past is_want (length u.frames) s.world) (filter is_want (sent_since u s.world)) s.world (sent_at is_want (length u.frames) s.world (grows_long u s.world (length u.frames) (made_grows net u (delivers k)) (omega arith))))
    ∙ ap (λ (t : Transition). followed_by t (λ x. deliver_up net fuel (filter is_want (sent_since u x)) x)) (made_is net u k f e))
    ks fs w a

-- the calls of a broker's wake, with the upward deliveries that follow it, are that wake
pub wakes_are : (net : Net) (p : ℕ) (w : World) (b : ℕ) → all_made net (wake_calls net p w b) w ≡ wake_up net p w b
unfolding wake_calls wake_up_by
wakes_are net p w b =
    let s = wake_for net w b p in
    ap (λ (r : Transition). let t : Transition = record { world = r.world; lines = s.lines ++ r.lines } in t) (up_are net net.brokers (sent_past is_want (length w.frames) s.world) (filter is_want (sent_since w s.world)) s.world (sent_at is_want (length w.frames) s.world (grows_long w s.world (length w.frames) (wake_grows net w b p) (omega arith))))

deliveries_are : (net : Net) (ks : List ℕ) (fs : List Frame) (w : World) → Pairs (IsAt w) ks fs → all_made net (map delivers ks) w ≡ in_turn (deliver_frame net) fs w
deliveries_are net [] [] w a = refl
deliveries_are net [] (f ∷ fs) w a = absurd a
deliveries_are net (k ∷ ks) [] w a = absurd a
deliveries_are net (k ∷ ks) (f ∷ fs) w a =
    let s = made net w (delivers k) in
    ap (λ (r : Transition). let t : Transition = record { world = r.world; lines = s.lines ++ r.lines } in t) (deliveries_are net ks fs s.world (pairs_stay w s.world ks fs (made_grows net w (delivers k)) a.1))
    ∙ ap (λ (t : Transition). followed_by t (in_turn (deliver_frame net) fs)) (made_is net w k f a.0)

-- the calls of a broker's turn in the second phase are that turn
pub downs_are : (net : Net) (p first : ℕ) (w : World) (b : ℕ) → first ≤ length w.frames → all_made net (down_calls net p first w b) w ≡ hand_down net p first w b
unfolding down_calls hand_down_by
downs_are net p first w b l = deliveries_are net (sent_past (is_know_to p b) first w) (filter (is_know_to p b) (frames_past first w.frames)) w (sent_at (is_know_to p b) first w l)

-- items that go with themselves
pairs_same : {X : Type 0} (R : X → X → Type 0) (xs : List X) → ((x : X) → R x x) → Pairs R xs xs
pairs_same R [] h = tt
pairs_same R (x ∷ xs) h = (h x, pairs_same R xs h)

-- the calls of wakes one after another are these wakes
pub wake_turns_are : (net : Net) (p : ℕ) (bs : List ℕ) (w : World) → all_made net (calls_in_turn net (wake_calls net p) bs w) w ≡ in_turn (wake_up net p) bs w
wake_turns_are net p bs w = calls_are net (λ u x y. x ≡ y) (wake_calls net p) (wake_up net p) (λ u v x y g e. e) (λ u x y e. wakes_are net p u x ∙ ap (wake_up net p u) e) bs bs w (pairs_same (λ x y. x ≡ y) bs (λ x. refl))

-- the calls of second-phase turns one after another are these turns
pub down_turns_are : (net : Net) (p first : ℕ) (bs : List ℕ) (w : World) → first ≤ length w.frames → all_made net (calls_in_turn net (down_calls net p first) bs w) w ≡ in_turn (hand_down net p first) bs w
down_turns_are net p first bs w l = calls_are net (λ u x y. (x ≡ y) × (first ≤ length u.frames)) (down_calls net p first) (hand_down net p first) (λ u v x y g e. (e.0, grows_long u v first g e.1)) (λ u x y e. downs_are net p first u x e.1 ∙ ap (hand_down net p first u) e.0) bs bs w (pairs_same (λ x y. (x ≡ y) × (first ≤ length w.frames)) bs (λ x. (refl, l)))

-- the calls of the sweep of one publisher are that sweep
pub sweep_for_are : (net : Net) (w : World) (p : ℕ) → all_made net (sweep_calls_for net w p) w ≡ sweep_for net w p
unfolding sweep_calls_for sweep_for_by
sweep_for_are net w p =
    all_made-append net (a ++ b) c w
    ∙ (ap (λ (t : Transition). followed_by t (all_made net c)) (all_made-append net a b w)
    ∙ (ap (λ (r : Transition). after_two r) (wake_turns_are net p (inwards net p) y)
    ∙ (ap (λ (r : Transition). let t : Transition = record { world = r.world; lines = s.lines ++ r.lines } in followed_by t (in_turn (wake_up net p) (inwards net p))) (down_turns_are net p first (outwards net p) x (grows_long w x first (all_made_grows net a w) (omega arith)))
    ∙ ap (λ (t : Transition). followed_by (followed_by t (in_turn (hand_down net p first) (outwards net p))) (in_turn (wake_up net p) (inwards net p))) (wake_turns_are net p (inwards net p) w))))
  where
    first : ℕ
    first = length w.frames

    a : List Call
    a = calls_in_turn net (wake_calls net p) (inwards net p) w

    s : Transition
    s = all_made net a w

    x : World
    x = s.world

    b : List Call
    b = calls_in_turn net (down_calls net p first) (outwards net p) x

    y : World
    y = (all_made net b x).world

    c : List Call
    c = calls_in_turn net (wake_calls net p) (inwards net p) y

    after_two : Transition → Transition
    after_two r = record { world = r.world; lines = (s.lines ++ (all_made net b x).lines) ++ r.lines }

-- the calls of the sweeps of some publishers are these sweeps
pub sweeps_are : (net : Net) (ps : List ℕ) (w : World) → all_made net (calls_in_turn net (sweep_calls_for net) ps w) w ≡ in_turn (sweep_for net) ps w
sweeps_are net ps w = calls_are net (λ u x y. x ≡ y) (sweep_calls_for net) (sweep_for net) (λ u v x y g e. e) (λ u x y e. sweep_for_are net u x ∙ ap (sweep_for net u) e) ps ps w (pairs_same (λ x y. x ≡ y) ps (λ x. refl))

-- a sweep that is not refused is its calls
pub sweep_is_calls : (net : Net) (w : World) (k : ℕ) → nat_lt max_tick (sweep_moment net w) ≡ false → sweep net w k ≡ followed_by (all_made net (sweep_calls net w) (at_sweep net w)) (λ x. unchanged x (line.Swept (sweep_moment net w) ∷ []))
unfolding sweep_by sweep_calls
sweep_is_calls net w k ok = go (nat_lt max_tick (sweep_moment net w)) ok
  where
    swept : Transition
    swept = in_turn (sweep_for net) (numbers net.publishers) (at_sweep net w)

    go : (q : Bool) → q ≡ false → (let t : Transition = elim q [ true ↦ unchanged w (line.RefusedClock k (sweep_moment net w) ∷ []) | false ↦ followed_by swept (λ x. unchanged x (line.Swept (sweep_moment net w) ∷ [])) ] in t) ≡ followed_by (all_made net (calls_in_turn net (sweep_calls_for net) (numbers net.publishers) (at_sweep net w)) (at_sweep net w)) (λ x. unchanged x (line.Swept (sweep_moment net w) ∷ []))
    go true e = absurd (true≢false e)
    go false e = ap (λ (t : Transition). followed_by t (λ x. unchanged x (line.Swept (sweep_moment net w) ∷ []))) (sym (sweeps_are net (numbers net.publishers) (at_sweep net w)))

-- Each frame is there when it is delivered

sent_append : (net : Net) (xs ys : List Call) (w : World) → EachSent net xs w → EachSent net ys (all_made net xs w).world → EachSent net (xs ++ ys) w
sent_append net [] ys w a b = b
sent_append net (x ∷ xs) ys w a b = (a.0, sent_append net xs ys (made net w x).world a.1 b)

calls_sent : {X Y : Type 0} (net : Net) (R : World → X → Y → Type 0) (g : World → X → List Call) → ((w u : World) (x : X) (y : Y) → Grows w u → R w x y → R u x y) → ((w : World) (x : X) (y : Y) → R w x y → EachSent net (g w x) w) → (xs : List X) (ys : List Y) (w : World) → Pairs (R w) xs ys → EachSent net (calls_in_turn net g xs w) w
calls_sent net R g stays one [] ys w a = tt
calls_sent net R g stays one (x ∷ xs) [] w a = absurd a
calls_sent {X} {Y} net R g stays one (x ∷ xs) (y ∷ ys) w a =
    let u = (all_made net (g w x) w).world in
    sent_append net (g w x) (calls_in_turn net g xs u) w (one w x y a.0) (calls_sent net R g stays one xs ys u (on xs ys a.1))
  where
    on : (xs : List X) (ys : List Y) → Pairs (R w) xs ys → Pairs (R (all_made net (g w x) w).world) xs ys
    on [] [] b = tt
    on [] (v ∷ vs) b = absurd b
    on (u ∷ us) [] b = absurd b
    on (u ∷ us) (v ∷ vs) b = (stays w (all_made net (g w x) w).world u v (all_made_grows net (g w x) w) b.0, on us vs b.1)

up_sent : (net : Net) (fuel : ℕ) (ks : List ℕ) (fs : List Frame) (w : World) → Pairs (IsAt w) ks fs → EachSent net (up_calls net fuel ks w) w
unfolding up_calls
up_sent net zero ks fs w a = tt
up_sent net (suc fuel) ks fs w a = calls_sent net (λ u k f. IsAt u k f) (λ u k. let x = (made net u (delivers k)).world in delivers k ∷ up_calls net fuel (sent_past is_want (length u.frames) x) x)
    (λ u v k f g e. at_stays u v k f g e)
    (λ u k f e. let x = (made net u (delivers k)).world in (
      (f, e),
      up_sent net fuel (sent_past is_want (length u.frames) x) (filter is_want (frames_past (length u.frames) x.frames)) x (sent_at is_want (length u.frames) x (grows_long u x (length u.frames) (made_grows net u (delivers k)) (omega arith))),
    ))
    ks fs w a

wakes_sent : (net : Net) (p : ℕ) (w : World) (b : ℕ) → EachSent net (wake_calls net p w b) w
unfolding wake_calls
wakes_sent net p w b = let x = (wake_for net w b p).world in (tt, up_sent net net.brokers (sent_past is_want (length w.frames) x) (filter is_want (frames_past (length w.frames) x.frames)) x (sent_at is_want (length w.frames) x (grows_long w x (length w.frames) (wake_grows net w b p) (omega arith))))

deliveries_sent : (net : Net) (ks : List ℕ) (fs : List Frame) (w : World) → Pairs (IsAt w) ks fs → EachSent net (map delivers ks) w
deliveries_sent net [] fs w a = tt
deliveries_sent net (k ∷ ks) [] w a = absurd a
deliveries_sent net (k ∷ ks) (f ∷ fs) w a = let x = (made net w (delivers k)).world in ((f, a.0), deliveries_sent net ks fs x (pairs_stay w x ks fs (made_grows net w (delivers k)) a.1))

downs_sent : (net : Net) (p first : ℕ) (w : World) (b : ℕ) → first ≤ length w.frames → EachSent net (down_calls net p first w b) w
unfolding down_calls
downs_sent net p first w b l = deliveries_sent net (sent_past (is_know_to p b) first w) (filter (is_know_to p b) (frames_past first w.frames)) w (sent_at (is_know_to p b) first w l)

wake_turns_sent : (net : Net) (p : ℕ) (bs : List ℕ) (w : World) → EachSent net (calls_in_turn net (wake_calls net p) bs w) w
wake_turns_sent net p bs w = calls_sent net (λ u x y. x ≡ y) (wake_calls net p) (λ u v x y g e. e) (λ u x y e. wakes_sent net p u x) bs bs w (pairs_same (λ x y. x ≡ y) bs (λ x. refl))

down_turns_sent : (net : Net) (p first : ℕ) (bs : List ℕ) (w : World) → first ≤ length w.frames → EachSent net (calls_in_turn net (down_calls net p first) bs w) w
down_turns_sent net p first bs w l = calls_sent net (λ u x y. first ≤ length u.frames) (down_calls net p first) (λ u v x y g e. grows_long u v first g e) (λ u x y e. downs_sent net p first u x e) bs bs w (pairs_same (λ x y. first ≤ length w.frames) bs (λ x. l))

sweep_for_sent : (net : Net) (w : World) (p : ℕ) → EachSent net (sweep_calls_for net w p) w
unfolding sweep_calls_for
sweep_for_sent net w p =
    let first = length w.frames in
    let a = calls_in_turn net (wake_calls net p) (inwards net p) w in
    let x = (all_made net a w).world in
    let b = calls_in_turn net (down_calls net p first) (outwards net p) x in
    let y = (all_made net b x).world in
    let c = calls_in_turn net (wake_calls net p) (inwards net p) y in
    sent_append net (a ++ b) c w (sent_append net a b w (wake_turns_sent net p (inwards net p) w) (down_turns_sent net p first (outwards net p) x (grows_long w x first (all_made_grows net a w) (omega arith))))
    (subst (λ u. EachSent net c u) (sym (ap (λ t. t.world) (all_made-append net a b w))) (wake_turns_sent net p (inwards net p) y))

-- each frame that a sweep delivers was sent before
pub sweep_sent : (net : Net) (w : World) → EachSent net (sweep_calls net w) (at_sweep net w)
unfolding sweep_calls
sweep_sent net w = calls_sent net (λ u x y. x ≡ y) (sweep_calls_for net) (λ u v x y g e. e) (λ u x y e. sweep_for_sent net u x) (numbers net.publishers) (numbers net.publishers) (at_sweep net w) (pairs_same (λ x y. x ≡ y) (numbers net.publishers) (λ x. refl))
