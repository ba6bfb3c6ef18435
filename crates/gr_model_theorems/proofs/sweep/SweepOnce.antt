-- Each frame that a publisher's sweep sends, but an Expect, is delivered in it exactly once: upward frames when they are sent, knowledge at its receiver's turn
use Rattle.std.proofs.Common.{◌≡◌, ℕ, suc, zero, ◌+◌, ◌≤◌, ◌<◌, Bool, true, false, not, ◌&&◌, ◌||◌, List, [], ◌∷◌, ◌++◌, length, refl, sym, ap, ◌∙◌, subst, arith}
use Rattle.std.specs.Prelude.{nat_eq, filter}
use Rattle.std.proofs.lemmas.Bool.{false≢true, true≢false, and_right, eq-eqb, ne_eqb, eqb-true}
use Rattle.gr_frame.specs.declared.Body.{Body}
use Rattle.gr_frame.specs.declared.Body.TheVariants as body
use Rattle.gr_frame.specs.declared.Frame.{Frame}
use Rattle.gr_model.specs.Net.{Net}
use Rattle.gr_model.specs.World.{World, Transition, in_turn, frames_past, sent_since, is_want, is_know_to, inwards, outwards, numbers_down, deliver_up_by, sweep_for_by, wake_up_by}
use Rattle.gr_model_calls.specs.OneNet.{wake_for, deliver_frame, deliver_up, wake_up, hand_down, sweep_for}
use Rattle.gr_model_theorems.specs.Settles.{Call, delivers, made, all_made, numbers_of, sent_past, calls_in_turn, up_calls, wake_calls, down_calls, sweep_calls_for, times, is_expect}
use Rattle.gr_model.specs.Tree.{IsNet, IsDistinct}
use Rattle.gr_model_calls.specs.Fits.{WorldFits, FrameTrue, AllFramesTrue}
use Rattle.gr_model_calls.proofs.runs.Worlds.{Each, FrameTrue-later, wake_for_kept, deliver_kept, wake_up_kept, hand_down_kept, in_turn_kept, filter_frames, frames_past_true, depths_in}
use Rattle.gr_model_calls.proofs.rules.Serves.{frames_past_all}
use Rattle.gr_model_theorems.proofs.sweep.Pending.{sent_up, delivered_up, one_kept, up_true, Each-weaker}
use Rattle.gr_model_theorems.proofs.sweep.Upward.{rank_of, sent_up_less, ranks}
use Rattle.gr_model_theorems.proofs.sweep.Rounds.{stands, Each-map, AllDeeper, outwards_deeper, outwards_once, stands_outwards}
use Rattle.gr_model_theorems.proofs.sweep.SweepCalls.{Grows, Pairs, IsAt, grows_none, grows_on, grows_long, wake_grows, deliver_grows, all_made_grows, at_stays, sent_at, up_are, wakes_are, downs_are, wake_turns_are, down_turns_are, made_is}
use Rattle.gr_model_theorems.proofs.sweep.SweepNumbers.{count, count-append, count_deliveries, sent_more, sent_split, sent_none, one, times_parts, times_none}
use Rattle.gr_model_theorems.proofs.sweep.SweepSends.{AddsFrames, adds_on, adds_grow, adds_map, Of, wake_turns_of, is_know, Down, hand_down_adds, KnowOf, hand_turns_add, units}
use Rattle.gr_model_theorems.proofs.sweep.Settling.{NoKnow}

-- The upward frames

-- turns one after another keep the frames sent before, where each of them does
pub in_turn_grows : {X : Type 0} (f : World → X → Transition) → ((w : World) (x : X) → Grows w (f w x).world) → (xs : List X) (w : World) → Grows w (in_turn f xs w).world
in_turn_grows f g [] w = grows_none w
in_turn_grows f g (x ∷ xs) w = grows_on w (f w x).world (in_turn f xs (f w x).world).world (g w x) (in_turn_grows f g xs (f w x).world)

deliver_up_grows : (net : Net) (fuel : ℕ) (fs : List Frame) (w : World) → Grows w (deliver_up net fuel fs w).world
unfolding deliver_up_by
deliver_up_grows net zero fs w = grows_none w
deliver_up_grows net (suc fuel) fs w = in_turn_grows (delivered_up net fuel) (λ u f. let y = (deliver_frame net u f).world in grows_on u y (deliver_up net fuel (filter is_want (sent_since u y)) y).world (deliver_grows net u f) (deliver_up_grows net fuel (filter is_want (sent_since u y)) y)) fs w

abbrev UpOnce : Net → ℕ → ℕ → Type 0
UpOnce net k fuel = (ks : List ℕ) (fs : List Frame) (w : World) → Pairs (IsAt w) ks fs → WorldFits net w → Each (FrameTrue net w) fs → Each (λ z. rank_of net z < fuel) fs →
    count k (up_calls net fuel ks w) ≡ times k ks + times k (sent_past is_want (length w.frames) (deliver_up net fuel fs w).world)

-- the call for one frame and what it leads to
abbrev one_up : Net → ℕ → World → ℕ → List Call
one_up net fuel u k = let x = (made net u (delivers k)).world in delivers k ∷ up_calls net fuel (sent_past is_want (length u.frames) x) x

one_up_is : (net : Net) (fuel : ℕ) (w : World) (k : ℕ) (x : Frame) → IsAt w k x → all_made net (one_up net fuel w k) w ≡ delivered_up net fuel w x
one_up_is net fuel w k x e =
    let s = made net w (delivers k) in
    ap (λ (r : Transition). let t : Transition = record { world = r.world; lines = s.lines ++ r.lines } in t) (up_are net fuel (sent_past is_want (length w.frames) s.world) (filter is_want (sent_since w s.world)) s.world (sent_at is_want (length w.frames) s.world (grows_long w s.world (length w.frames) (subst (λ t. Grows w t.world) (sym (made_is net w k x e)) (deliver_grows net w x)) (omega arith))))
    ∙ ap (λ (t : Transition). let r = deliver_up net fuel (filter is_want (sent_since w t.world)) t.world in let t : Transition = record { world = r.world; lines = t.lines ++ r.lines } in t) (made_is net w k x e)

up_turns : (net : Net) (k fuel : ℕ) → IsNet net → UpOnce net k fuel → (ks : List ℕ) (fs : List Frame) (w : World) → Pairs (IsAt w) ks fs → WorldFits net w → Each (FrameTrue net w) fs → Each (λ z. rank_of net z < suc fuel) fs →
    count k (calls_in_turn net (one_up net fuel) ks w) ≡ times k ks + times k (sent_past is_want (length w.frames) (in_turn (delivered_up net fuel) fs w).world)
up_turns net k fuel n up [] [] w a f t r = ap (times k) (sym (sent_none is_want w)) ∙ omega arith
up_turns net k fuel n up [] (x ∷ xs) w a f t r = absurd a
up_turns net k fuel n up (j ∷ js) [] w a f t r = absurd a
up_turns net k fuel n up (j ∷ js) (x ∷ xs) w a f t r =
    let y = (deliver_frame net w x).world in
    let d = deliver_kept net w x n f t.0 in
    let below : Each (λ z. rank_of net z < fuel) (sent_up net w x) = Each-weaker (λ z. rank_of net z < rank_of net x) (λ z. rank_of net z < fuel) (sent_up net w x) (λ z l. omega (arith, l, r.0)) (sent_up_less net w x (record { depth_up = n.depth_up }) f t.0) in
    let whole = one_kept net fuel w x n f t.0 in
    let z = (delivered_up net fuel w x).world in
    let v = (in_turn (delivered_up net fuel) xs z).world in
    let here = up (sent_past is_want (length w.frames) y) (sent_up net w x) y (sent_at is_want (length w.frames) y (grows_long w y (length w.frames) (deliver_grows net w x) (omega arith))) d.fits (up_true net w x n f t.0) below in
    let here1 : count k (up_calls net fuel (sent_past is_want (length w.frames) (made net w (delivers j)).world) (made net w (delivers j)).world) ≡ times k (sent_past is_want (length w.frames) y) + times k (sent_past is_want (length y.frames) z) =
    subst (λ s. count k (up_calls net fuel (sent_past is_want (length w.frames) s.world) s.world) ≡ times k (sent_past is_want (length w.frames) y) + times k (sent_past is_want (length y.frames) z)) (sym (made_is net w j x a.0)) here in
    let g1 = deliver_grows net w x in
    let g2 : Grows y z = deliver_up_grows net fuel (sent_up net w x) y in
    let g3 : Grows z v = in_turn_grows (delivered_up net fuel) (λ u f. grows_on u (deliver_frame net u f).world (delivered_up net fuel u f).world (deliver_grows net u f) (deliver_up_grows net fuel (sent_up net u f) (deliver_frame net u f).world)) xs z in
    let rest = up_turns net k fuel n up js xs z (on js xs (grows_on w y z g1 g2) a.1) whole.fits (Each-weaker (FrameTrue net w) (FrameTrue net z) xs (λ q e. FrameTrue-later net w z q whole.later e) t.1) r.1 in
    let rest1 : count k (calls_in_turn net (one_up net fuel) js (all_made net (one_up net fuel w j) w).world) ≡ times k js + times k (sent_past is_want (length z.frames) v) = subst (λ s. count k (calls_in_turn net (one_up net fuel) js s.world) ≡ times k js + times k (sent_past is_want (length z.frames) v)) (sym (one_up_is net fuel w j x a.0)) rest in
    let parts = count-append k (one_up net fuel w j) (calls_in_turn net (one_up net fuel) js (all_made net (one_up net fuel w j) w).world) in
    let s1 = sent_split k is_want (length w.frames) y z (grows_long w y (length w.frames) g1 (omega arith)) g2 in
    let s2 = sent_split k is_want (length w.frames) z v (grows_long w z (length w.frames) (grows_on w y z g1 g2) (omega arith)) g3 in
    omega (arith, parts, here1, rest1, s1, s2)
  where
    on : (js : List ℕ) (xs : List Frame) → Grows w (delivered_up net fuel w x).world → Pairs (IsAt w) js xs → Pairs (IsAt (delivered_up net fuel w x).world) js xs
    on [] [] g b = tt
    on [] (q ∷ qs) g b = absurd b
    on (i ∷ is) [] g b = absurd b
    on (i ∷ is) (q ∷ qs) g b = (at_stays w (delivered_up net fuel w x).world i q g b.0, on is qs g b.1)

up_once : (net : Net) (k fuel : ℕ) → IsNet net → UpOnce net k fuel
unfolding up_calls deliver_up_by
up_once net k zero n [] [] w a f t r = ap (times k) (sym (sent_none is_want w)) ∙ omega arith
up_once net k zero n [] (x ∷ xs) w a f t r = absurd a
up_once net k zero n (j ∷ js) [] w a f t r = absurd a
up_once net k zero n (j ∷ js) (x ∷ xs) w a f t r = absurd (omega (arith, r.0))
up_once net k (suc fuel) n ks fs w a f t r = up_turns net k fuel n (up_once net k fuel n) ks fs w a f t r

wake_up_grows : (net : Net) (p : ℕ) (w : World) (b : ℕ) → Grows w (wake_up net p w b).world
unfolding wake_up_by
wake_up_grows net p w b = let y = (wake_for net w b p).world in grows_on w y (deliver_up net net.brokers (filter is_want (sent_since w y)) y).world (wake_grows net w b p) (deliver_up_grows net net.brokers (filter is_want (sent_since w y)) y)

wake_once : (net : Net) (k p : ℕ) (w : World) (b : ℕ) → IsNet net → WorldFits net w → b < net.brokers → p < net.publishers → count k (wake_calls net p w b) ≡ times k (sent_past is_want (length w.frames) (wake_up net p w b).world)
unfolding wake_calls wake_up_by
wake_once net k p w b n f i j =
    let y = (wake_for net w b p).world in
    let g = (wake_for_kept net w b p n f i j).fits in
    let fs = filter is_want (sent_since w y) in
    let a = filter_frames net y is_want (sent_since w y) (frames_past_true net y (length w.frames) y.frames g.frames) in
    let long = grows_long w y (length w.frames) (wake_grows net w b p) (omega arith) in
    up_once net k net.brokers n (sent_past is_want (length w.frames) y) fs y (sent_at is_want (length w.frames) y long) g a (ranks net y fs n a)
    ∙ sym (sent_split k is_want (length w.frames) y (deliver_up net net.brokers fs y).world long (deliver_up_grows net net.brokers fs y))

-- each upward frame is delivered as it is sent
pub wake_turns_once : (net : Net) (k p : ℕ) (bs : List ℕ) (w : World) → IsNet net → WorldFits net w → Each (λ b. b < net.brokers) bs → p < net.publishers → count k (calls_in_turn net (wake_calls net p) bs w) ≡ times k (sent_past is_want (length w.frames) (in_turn (wake_up net p) bs w).world)
wake_turns_once net k p [] w n f a j = ap (times k) (sym (sent_none is_want w))
wake_turns_once net k p (b ∷ bs) w n f a j =
    let y = (wake_up net p w b).world in
    let z = (in_turn (wake_up net p) bs y).world in
    let rest = wake_turns_once net k p bs y n (wake_up_kept net p w b n f a.0 j).fits a.1 j in
    let rest1 : count k (calls_in_turn net (wake_calls net p) bs (all_made net (wake_calls net p w b) w).world) ≡ times k (sent_past is_want (length y.frames) z) = subst (λ s. count k (calls_in_turn net (wake_calls net p) bs s.world) ≡ times k (sent_past is_want (length y.frames) z)) (sym (wakes_are net p w b)) rest in
    omega (
      arith,
      count-append k (wake_calls net p w b) (calls_in_turn net (wake_calls net p) bs (all_made net (wake_calls net p w b) w).world),
      wake_once net k p w b n f a.0 j,
      rest1,
      sent_split k is_want (length w.frames) y z (grows_long w y (length w.frames) (wake_up_grows net p w b) (omega arith)) (in_turn_grows (wake_up net p) (λ u c. wake_up_grows net p u c) bs y),
    )

-- Knowledge

-- knowledge of p for a broker that has had its turn
abbrev know_off : ℕ → List ℕ → Frame → Bool
know_off p bs f = (is_know f && nat_eq f.head.publisher p) && not (stands bs f.head.to)

know_to_parts : (p b : ℕ) (f : Frame) → is_know_to p b f ≡ ((is_know f && nat_eq f.head.publisher p) && nat_eq f.head.to b)
know_to_parts p b f = go f.body
  where
    go : (y : Body) → (let q : Bool = elim y [ body.Knowledge runs js ↦ nat_eq f.head.publisher p && nat_eq f.head.to b | _ ↦ false ] in q) ≡ (((let q : Bool = elim y [ body.Knowledge runs js ↦ true | _ ↦ false ] in q) && nat_eq f.head.publisher p) && nat_eq f.head.to b)
    go (body.Knowledge runs js) = refl
    go (body.Curiosity runs) = refl
    go (body.Expect tick) = refl

-- at a broker's turn: what is off with it is what was off before, and what is for it
turn_parts : (p b : ℕ) (bs : List ℕ) (f : Frame) → stands bs b ≡ false → one (know_off p bs f) ≡ one (know_off p (b ∷ bs) f) + one (is_know_to p b f)
turn_parts p b bs f off = go (is_know f && nat_eq f.head.publisher p) (nat_eq b f.head.to) refl ∙ ap (λ q. one (know_off p (b ∷ bs) f) + one q) (sym (know_to_parts p b f))
  where
    go : (k q : Bool) → nat_eq b f.head.to ≡ q → one (k && not (stands bs f.head.to)) ≡ one (k && not (q || stands bs f.head.to)) + one (k && nat_eq f.head.to b)
    go false q e = refl
    go true true e = ap (λ x. one (not x)) (subst (λ z. stands bs z ≡ false) (eqb-true b f.head.to e) off) ∙ ap (λ x. 0 + one x) (sym (eq-eqb f.head.to b (sym (eqb-true b f.head.to e))))
    go true false e = (let z : one (not (stands bs f.head.to)) ≡ one (not (stands bs f.head.to)) + 0 = omega arith in z) ∙ ap (λ x. one (not (stands bs f.head.to)) + one x) (sym (ne_eqb f.head.to b (λ g. true≢false (sym (eq-eqb b f.head.to (sym g)) ∙ e))))

hand_grows : (net : Net) (p first : ℕ) (w : World) (b : ℕ) → Grows w (hand_down net p first w b).world
hand_grows net p first w b = adds_grow (Down net p b) w (hand_down net p first w b).world (hand_down_adds net p first w b)

down_once : (net : Net) (k p first : ℕ) (w : World) (b : ℕ) → count k (down_calls net p first w b) ≡ times k (sent_past (is_know_to p b) first w)
unfolding down_calls
down_once net k p first w b = count_deliveries k (sent_past (is_know_to p b) first w)

-- knowledge is delivered at its receiver's turn
down_turns_once : (net : Net) (k p first : ℕ) (bs : List ℕ) (w : World) → IsNet net → p < net.publishers → Each (λ b. b < net.brokers) bs → IsDistinct bs → AllDeeper net p bs → first ≤ length w.frames →
    times k (sent_past (know_off p bs) first w) + count k (calls_in_turn net (down_calls net p first) bs w) ≡ times k (sent_past (know_off p []) first (in_turn (hand_down net p first) bs w).world)
down_turns_once net k p first [] w n j a d o l = omega arith
down_turns_once net k p first (b ∷ bs) w n j a d o l =
    let y = (hand_down net p first w b).world in
    let z = (in_turn (hand_down net p first) bs y).world in
    let g = hand_down_adds net p first w b in
    let rest = down_turns_once net k p first bs y n j a.1 d.1 o.1 (grows_long w y first (hand_grows net p first w b) l) in
    let rest1 : times k (sent_past (know_off p bs) first y) + count k (calls_in_turn net (down_calls net p first) bs (all_made net (down_calls net p first w b) w).world) ≡ times k (sent_past (know_off p []) first z) =
    subst (λ s. times k (sent_past (know_off p bs) first y) + count k (calls_in_turn net (down_calls net p first) bs s.world) ≡ times k (sent_past (know_off p []) first z)) (sym (downs_are net p first w b l)) rest in
    let new : times k (numbers_of (know_off p bs) (suc (length w.frames)) g.more) ≡ 0 = times_none k (suc (length w.frames)) (know_off p bs) g.more (Each-map (Down net p b) (λ f. know_off p bs f ≡ false) g.more later g.each) in
    omega (
      arith,
      count-append k (down_calls net p first w b) (calls_in_turn net (down_calls net p first) bs (all_made net (down_calls net p first w b) w).world),
      rest1,
      new,
      down_once net k p first w b,
      sent_more k (know_off p bs) first w y g.more l g.frames,
      times_parts k (suc first) (λ f. Unit {0}) (know_off p bs) (know_off p (b ∷ bs)) (is_know_to p b) (frames_past first w.frames) (λ f t. turn_parts p b bs f d.0) (units (frames_past first w.frames)),
    )
  where
    later : (f : Frame) → Down net p b f → know_off p bs f ≡ false
    later f x =
        let i = n.child_in p b f.head.to j a.0 x.child in
        ap (λ q. (is_know f && nat_eq f.head.publisher p) && not q) (o.0 f.head.to i (omega (arith, n.depth_up p f.head.to b j i (n.child_up p b f.head.to j a.0 x.child)))) ∙ and_right (is_know f && nat_eq f.head.publisher p) false refl

-- Together

-- a frame that a sweep delivers: each but an expectation
abbrev pub is_due : Frame → Bool
is_due f = not (is_expect f)

due_parts : (p : ℕ) (f : Frame) → Of p f → one (is_due f) ≡ one (is_want f) + one (know_off p [] f)
due_parts p f e = go f.body ∙ ap (λ q. one (is_want f) + one ((is_know f && q) && true)) (sym (eq-eqb f.head.publisher p e))
  where
    go : (y : Body) → one (not (let q : Bool = elim y [ body.Expect tick ↦ true | _ ↦ false ] in q)) ≡ one (let q : Bool = elim y [ body.Curiosity runs ↦ true | _ ↦ false ] in q) + one (((let q : Bool = elim y [ body.Knowledge runs js ↦ true | _ ↦ false ] in q) && true) && true)
    go (body.Knowledge runs js) = refl
    go (body.Curiosity runs) = refl
    go (body.Expect tick) = refl

know_not_want : (f : Frame) → is_know f ≡ true → is_want f ≡ false
know_not_want f e = go f.body e
  where
    go : (y : Body) → (let q : Bool = elim y [ body.Knowledge runs js ↦ true | _ ↦ false ] in q) ≡ true → (let q : Bool = elim y [ body.Curiosity runs ↦ true | _ ↦ false ] in q) ≡ false
    go (body.Knowledge runs js) h = refl
    go (body.Curiosity runs) h = absurd (false≢true h)
    go (body.Expect tick) h = refl

no_know_is : (f : Frame) → NoKnow f → is_know f ≡ false
no_know_is f h = go f.body refl
  where
    go : (y : Body) → f.body ≡ y → (let q : Bool = elim y [ body.Knowledge runs js ↦ true | _ ↦ false ] in q) ≡ false
    go (body.Knowledge runs js) e = absurd (h runs js e)
    go (body.Curiosity runs) e = refl
    go (body.Expect tick) e = refl

past_of : (R : Frame → Type 0) (w u : World) → AddsFrames R w u → Each R (frames_past (length w.frames) u.frames)
past_of R w u a = subst (Each R) (sym (ap (frames_past (length w.frames)) a.frames ∙ frames_past_all w.frames a.more)) a.each

-- one publisher's sweep, where its third phase sends no knowledge
pub sweep_for_once : (net : Net) (k p : ℕ) (w : World) → IsNet net → WorldFits net w → p < net.publishers →
    (let w1 = (in_turn (wake_up net p) (inwards net p) w).world in
    let w2 = (in_turn (hand_down net p (length w.frames)) (outwards net p) w1).world in
    AddsFrames NoKnow w2 (in_turn (wake_up net p) (inwards net p) w2).world) →
    count k (sweep_calls_for net w p) ≡ times k (sent_past is_due (length w.frames) (sweep_for net w p).world)
unfolding sweep_calls_for sweep_for_by
sweep_for_once net k p w n f j quiet =
    omega (arith, count-append k (a ++ b) c, count-append k a b, first_part, second_part, third_part, none_off, whole, wants, wants_second, knows)
  where
    first : ℕ
    first = length w.frames

    w1 : World
    w1 = (in_turn (wake_up net p) (inwards net p) w).world

    w2 : World
    w2 = (in_turn (hand_down net p first) (outwards net p) w1).world

    w3 : World
    w3 = (in_turn (wake_up net p) (inwards net p) w2).world

    a : List Call
    a = calls_in_turn net (wake_calls net p) (inwards net p) w

    b : List Call
    b = calls_in_turn net (down_calls net p first) (outwards net p) (all_made net a w).world

    c : List Call
    c = calls_in_turn net (wake_calls net p) (inwards net p) (all_made net b (all_made net a w).world).world

    ins : Each (λ x. x < net.brokers) (inwards net p)
    ins = depths_in net p (numbers_down net.brokers)

    outs : Each (λ x. x < net.brokers) (outwards net p)
    outs = depths_in net p _

    o1 : AddsFrames (Of p) w w1
    o1 = wake_turns_of net p (inwards net p) w

    k2 : AddsFrames (KnowOf p) w1 w2
    k2 = hand_turns_add net p first (outwards net p) w1

    o2 : AddsFrames (Of p) w1 w2
    o2 = adds_map (KnowOf p) (Of p) w1 w2 (λ x y. y.publisher) k2

    o3 : AddsFrames (Of p) w2 w3
    o3 = wake_turns_of net p (inwards net p) w2

    l1 : first ≤ length w1.frames
    l1 = grows_long w w1 first (adds_grow (Of p) w w1 o1) (omega arith)

    l2 : first ≤ length w2.frames
    l2 = grows_long w1 w2 first (adds_grow (Of p) w1 w2 o2) l1

    f1 : WorldFits net w1
    f1 = (in_turn_kept net (λ x b. b < net.brokers) (wake_up net p) (λ x y b l h. h) (λ x b g h. wake_up_kept net p x b n g h j) (inwards net p) w f ins).fits

    world1 : (all_made net a w).world ≡ w1
    world1 = ap (λ t. t.world) (wake_turns_are net p (inwards net p) w)

    world2 : (all_made net b (all_made net a w).world).world ≡ w2
    world2 = ap (λ t. t.world) (down_turns_are net p first (outwards net p) (all_made net a w).world (grows_long w (all_made net a w).world first (all_made_grows net a w) (omega arith))) ∙ ap (λ u. (in_turn (hand_down net p first) (outwards net p) u).world) world1

    first_part : count k a ≡ times k (sent_past is_want first w1)
    first_part = wake_turns_once net k p (inwards net p) w n f ins j

    off_at_first : times k (sent_past (know_off p (outwards net p)) first w1) + count k (calls_in_turn net (down_calls net p first) (outwards net p) w1) ≡ times k (sent_past (know_off p []) first w2)
    off_at_first = down_turns_once net k p first (outwards net p) w1 n j outs (outwards_once net p) (outwards_deeper net p (λ x i. n.depth_in p x j i)) l1

    second_part : times k (sent_past (know_off p (outwards net p)) first w1) + count k b ≡ times k (sent_past (know_off p []) first w2)
    second_part = subst (λ u. times k (sent_past (know_off p (outwards net p)) first w1) + count k (calls_in_turn net (down_calls net p first) (outwards net p) u) ≡ times k (sent_past (know_off p []) first w2)) (sym world1) off_at_first

    f2 : WorldFits net w2
    f2 = (in_turn_kept net (λ x b. b < net.brokers) (hand_down net p first) (λ x y b l h. h) (λ x b g h. hand_down_kept net p first x b n g) (outwards net p) w1 f1 outs).fits

    third_part : count k c ≡ times k (sent_past is_want (length w2.frames) w3)
    third_part = subst (λ u. count k (calls_in_turn net (wake_calls net p) (inwards net p) u) ≡ times k (sent_past is_want (length w2.frames) w3)) (sym world2) (wake_turns_once net k p (inwards net p) w2 n f2 ins j)

    offs : (fs : List Frame) → AllFramesTrue net w1 fs → Each (λ x. know_off p (outwards net p) x ≡ false) fs
    offs [] t = tt
    offs (x ∷ fs) t = (
      ap (λ q. (is_know x && nat_eq x.head.publisher p) && not q) (stands_outwards net p x.head.to t.0.fits.to_in (n.depth_in p x.head.to j t.0.fits.to_in)) ∙ and_right (is_know x && nat_eq x.head.publisher p) false refl,
      offs fs t.1,
    )

    none_off : times k (sent_past (know_off p (outwards net p)) first w1) ≡ 0
    none_off = times_none k (suc first) (know_off p (outwards net p)) (frames_past first w1.frames) (offs (frames_past first w1.frames) (frames_past_true net w1 first w1.frames f1.frames))

    whole : times k (sent_past is_due first w3) ≡ times k (sent_past is_want first w3) + times k (sent_past (know_off p []) first w3)
    whole = times_parts k (suc first) (Of p) is_due is_want (know_off p []) (frames_past first w3.frames) (due_parts p) (past_of (Of p) w w3 (adds_on (Of p) w w1 w3 o1 (adds_on (Of p) w1 w2 w3 o2 o3)))

    wants : times k (sent_past is_want first w3) ≡ times k (sent_past is_want first w2) + times k (sent_past is_want (length w2.frames) w3)
    wants = sent_split k is_want first w2 w3 l2 (adds_grow (Of p) w2 w3 o3)

    wants_second : times k (sent_past is_want first w2) ≡ times k (sent_past is_want first w1)
    wants_second = omega (arith, sent_more k is_want first w1 w2 k2.more l1 k2.frames, times_none k (suc (length w1.frames)) is_want k2.more (Each-map (KnowOf p) (λ x. is_want x ≡ false) k2.more (λ x y. know_not_want x y.know) k2.each))

    knows : times k (sent_past (know_off p []) first w3) ≡ times k (sent_past (know_off p []) first w2)
    knows = omega (arith, sent_more k (know_off p []) first w2 w3 quiet.more l2 quiet.frames, times_none k (suc (length w2.frames)) (know_off p []) quiet.more (Each-map NoKnow (λ x. know_off p [] x ≡ false) quiet.more (λ x y. ap (λ q. (q && nat_eq x.head.publisher p) && true) (no_know_is x y)) quiet.each))
