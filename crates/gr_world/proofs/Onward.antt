-- What is done for each of a list in turn, where the answers are joined and frames that fail a test are passed over: what is left is what passes among those that are left. A frame keeps its place while more are sent
use Rattle.std.proofs.Common.{◌≡◌, ◌≢◌, ℕ, zero, suc, ◌+◌, ◌-◌, ◌<◌, ◌≤◌, Bool, true, false, cond, List, [], ◌∷◌, length, map, get_or, drop, Some, Result, Ok, Err, refl, sym, ap, ap₂, ◌∙◌, subst, arith, add-one, length-append}
use Rattle.std.specs.List.{filter}
use Rattle.std.specs.Option.{option_map}
use Rattle.std.proofs.Math.Seq.{drop-cons}
use Rattle.std.proofs.lemmas.List.{get_or-map, length-map, get_or_append_left}
use Rattle.std.proofs.lemmas.Option.{slice_get-map, slice_get-get_or}
use Rattle.gr_frame.specs.declared.Frame.{Frame}
use Rattle.gr_model.specs.declared.report.Report.{Report}
use Rattle.gr_model.specs.Net.{Net}
use Rattle.gr_model.specs.World.{World, Transition, wake_for, wake_up, wake_up_by, unchanged, followed_by, in_turn, frame_at, frames_past, sent_since, is_want, is_know_to, deliver_frame, deliver_up, deliver_up_by, hand_down, hand_down_by, inwards, outwards, sweep_for, sweep_for_by}
use Rattle.gr_world.specs.declared.fault.WorldFault.{WorldFault}
use Rattle.gr_world.specs.Seen.{WorldView, frame_said, net_in, world_of}
use Rattle.gr_world.specs.Steps.{Does}
use Rattle.gr_world.specs.Ran.{Keeps}
use Rattle.gr_world.specs.Sweeps.{Joins, AreBrokers, wants_past, with_wants, phases}
use Rattle.gr_world.proofs.Composed.{Leads, leads_next}
use Rattle.gr_world.proofs.Depths.{inwards_in}
use Rattle.gr_world.proofs.Joining.{does_joined, does_same}

-- Joined answers

-- with the next one done and its lines joined, the rest is left
pub leads_joined : {X : Type 0} (f : World → X → Transition) (x : X) (xs left : List X) (w new : WorldView) (ls all : List Report) (told : Result (List Report) WorldFault) (whole : Transition)
    → left ≡ x ∷ xs → Joins ls told (Ok all) → Leads f left w ls whole → Does (f (world_of w) x) new told → Leads f xs new all whole
leads_joined f x xs left w new ls all (Ok more) whole e j l d =
    subst (λ (k : List Report). Leads f xs new k whole) (sym j)
    (leads_next f x xs (subst (λ ys. Leads f ys w ls whole) e l) d)
leads_joined f x xs left w new ls all (Err g) whole e j l d = absurd j

-- before the first, all is left
pub leads_all : {X : Type 0} (f : World → X → Transition) (left xs : List X) (w : WorldView) (ls : List Report) (whole : Transition) → ls ≡ [] → left ≡ xs → whole ≡ in_turn f xs (world_of w) → Leads f left w ls whole
leads_all f left xs w ls whole none e is = record {
  is = ap₂ (λ (k : List Report) ys. followed_by (record { world = world_of w; lines = k }) (in_turn f ys)) none e ∙ sym is;
}

-- nothing is done
pub does_nothing : (t : Transition) (w : WorldView) (ls : List Report) → t ≡ unchanged (world_of w) [] → ls ≡ [] → Does t w (Ok ls)
does_nothing t w ls e none = record { world = sym (ap (λ (u : Transition). u.world) e); lines = none ∙ sym (ap (λ (u : Transition). u.lines) e) }

-- what is left of a list from a place on
pub places_left : (xs : List ℕ) (i : ℕ) → i < length xs → drop i xs ≡ get_or xs i 0 ∷ drop (i + 1) xs
places_left xs i h = drop-cons xs i 0 h ∙ ap (λ n. get_or xs i 0 ∷ drop n xs) (sym (add-one i))

-- Frames at their places

-- the frame at a place
abbrev pub frame_of : WorldView → ℕ → Frame
frame_of w i = frame_said (get_or w.frames i [])

-- the machine finds it there
pub frame_here : (w : WorldView) (i : ℕ) → i < length w.frames → frame_at (world_of w) (suc i) ≡ Some (frame_of w i)
frame_here w i h = slice_get-map frame_said w.frames i ∙ ap (option_map frame_said) (slice_get-get_or w.frames i [] h)

-- frames are only added
pub no_fewer : (a b : WorldView) → Keeps a b → length a.frames ≤ length b.frames
no_fewer a b k = omega (arith, ap length k.frames ∙ length-append a.frames k.more)

-- so it stays there
pub frame_kept : (a b : WorldView) (i : ℕ) → Keeps a b → i < length a.frames → frame_at (world_of b) (suc i) ≡ Some (frame_of a i)
frame_kept a b i k h =
    frame_here b i (omega (arith, no_fewer a b k))
    ∙ ap (λ (x : List ℕ). Some (frame_said x)) (ap (λ fs. get_or fs i []) k.frames ∙ get_or_append_left a.frames k.more [] i h)

-- The frames that pass a test, from a place on

-- the frames from a place on that pass
abbrev pub passing : (Frame → Bool) → WorldView → ℕ → List Frame
passing test w i = filter test (drop i (map frame_said w.frames))

frames_left : (w : WorldView) (i : ℕ) → i < length w.frames → drop i (map frame_said w.frames) ≡ frame_of w i ∷ drop (i + 1) (map frame_said w.frames)
frames_left w i h =
    drop-cons (map frame_said w.frames) i (frame_said []) (omega (arith, length-map w.frames frame_said))
    ∙ ap₂ (λ f n. f ∷ drop n (map frame_said w.frames)) (get_or-map frame_said w.frames i [] (frame_said []) h) (sym (add-one i))

-- one that passes is the next
pub passing_takes : (test : Frame → Bool) (w : WorldView) (i : ℕ) → i < length w.frames → test (frame_of w i) ≡ true → passing test w i ≡ frame_of w i ∷ passing test w (i + 1)
passing_takes test w i h t =
    ap (filter test) (frames_left w i h)
    ∙ ap (λ b. cond b (frame_of w i ∷ passing test w (i + 1)) (passing test w (i + 1))) t

-- one that does not pass is not among them
pub passing_skips : (test : Frame → Bool) (w : WorldView) (i : ℕ) → i < length w.frames → test (frame_of w i) ≡ false → passing test w i ≡ passing test w (i + 1)
passing_skips test w i h t =
    ap (filter test) (frames_left w i h)
    ∙ ap (λ b. cond b (frame_of w i ∷ passing test w (i + 1)) (passing test w (i + 1))) t

past_dropped : (n : ℕ) (fs : List Frame) → drop n fs ≡ frames_past n fs
past_dropped zero fs = refl
past_dropped (suc n) [] = refl
past_dropped (suc n) (f ∷ fs) = past_dropped n fs

-- they are the machine's frames past the first so many
pub passing_past : (test : Frame → Bool) (w : WorldView) (n : ℕ) → passing test w n ≡ filter test (frames_past n (map frame_said w.frames))
passing_past test w n = ap (filter test) (past_dropped n (map frame_said w.frames))

-- what is left once a frame was passed over
pub leads_passed : (f : World → Frame → Transition) (test : Frame → Bool) (start : WorldView) (i : ℕ) (w : WorldView) (ls : List Report) (whole : Transition) → i < length start.frames → test (frame_of start i) ≡ false
    → Leads f (passing test start i) w ls whole → Leads f (passing test start (i + 1)) w ls whole
leads_passed f test start i w ls whole h t l = subst (λ fs. Leads f fs w ls whole) (passing_skips test start i h t) l

-- Upward frames

-- with fuel, each upward frame is delivered with those that this sends
pub up_in_turn : (net : Net) (fuel : ℕ) (fs : List Frame) (w : World) → fuel ≢ 0 → deliver_up net fuel fs w ≡ in_turn (with_wants net (fuel - 1)) fs w
unfolding deliver_up_by
up_in_turn net zero fs w some = absurd (some refl)
up_in_turn net (suc n) fs w some = let e : n ≡ suc n - 1 = omega arith in ap (λ k. in_turn (with_wants net k) fs w) e

-- without, none is
pub up_without : (net : Net) (fuel : ℕ) (fs : List Frame) (w : World) → fuel ≡ 0 → deliver_up net fuel fs w ≡ unchanged w []
unfolding deliver_up_by
up_without net fuel fs w none = ap (λ k. deliver_up net k fs w) none

-- the upward frames that were sent since a world are those past its last
pub wants_since : (a : WorldView) (n : ℕ) (w : World) → n ≡ length a.frames → wants_past n w ≡ filter is_want (sent_since (world_of a) w)
wants_since a n w e = ap (λ k. wants_past k w) (e ∙ sym (length-map a.frames frame_said))

-- a broker that wakes, and then the delivery of what it asks
pub wake_up_does : (a mid new : WorldView) (p b fuel before : ℕ) (ls : List Report) (told result : Result (List Report) WorldFault) → mid.topo ≡ a.topo → fuel ≡ length mid.topo.brokers → before ≡ length a.frames → Joins ls told result
    → Does (wake_for (net_in a) (world_of a) b p) mid (Ok ls) → Does (deliver_up (net_in mid) fuel (wants_past before (world_of mid)) (world_of mid)) new told → Does (wake_up (net_in a) p (world_of a) b) new result
unfolding wake_up_by
wake_up_does a mid new p b fuel before ls told result topo many at j x y =
    let wants = filter is_want (sent_since (world_of a) (world_of mid)) in
    let y1 = subst (λ n. Does (deliver_up (net_in mid) n (wants_past before (world_of mid)) (world_of mid)) new told) many y in
    let y2 = subst (λ fs. Does (deliver_up (net_in mid) (length mid.topo.brokers) fs (world_of mid)) new told) (wants_since a before (world_of mid) at) y1 in
    does_joined (wake_for (net_in a) (world_of a) b p) (λ u. deliver_up (net_in a) (length a.topo.brokers) (filter is_want (sent_since (world_of a) u)) u) mid new ls told result j x
    (does_same (λ n. deliver_up n n.brokers wants (world_of mid)) a mid new told topo y2)

-- Knowledge

-- the knowledge of a publisher to a broker from a place on
abbrev pub known_past : ℕ → ℕ → ℕ → World → List Frame
known_past p b first w = filter (is_know_to p b) (frames_past first w.frames)

pub down_in_turn : (net : Net) (p first : ℕ) (w : World) (b : ℕ) → hand_down net p first w b ≡ in_turn (deliver_frame net) (known_past p b first w) w
unfolding hand_down_by
down_in_turn net p first w b = refl

-- A publisher

-- all brokers by falling depth are brokers
pub order_in : (a : WorldView) (p : ℕ) (bs : List ℕ) → bs ≡ inwards (net_in a) p → AreBrokers a bs
order_in a p bs e = subst (λ xs. AreBrokers a xs) (sym e) (inwards_in (net_in a) p)

-- the three phases over the brokers by depth are the sweep for a publisher
pub sweep_for_does : (a new : WorldView) (p : ℕ) (inward outward : List ℕ) (r : Result (List Report) WorldFault) → inward ≡ inwards (net_in a) p → outward ≡ outwards (net_in a) p
    → Does (phases (net_in a) p inward outward (world_of a)) new r → Does (sweep_for (net_in a) (world_of a) p) new r
unfolding sweep_for_by
sweep_for_does a new p inward outward r e h d =
    subst (λ xs. Does (phases (net_in a) p (inwards (net_in a) p) xs (world_of a)) new r) h
    (subst (λ xs. Does (phases (net_in a) p xs outward (world_of a)) new r) e d)

-- the phases one after another
pub phases_do : (a b mid new : WorldView) (p first : ℕ) (inward outward : List ℕ) (woken handed : List Report) (down up result : Result (List Report) WorldFault) → b.topo ≡ a.topo → mid.topo ≡ a.topo → first ≡ length a.frames
    → Joins woken down (Ok handed) → Joins handed up result → Does (in_turn (wake_up (net_in a) p) inward (world_of a)) b (Ok woken) → Does (in_turn (hand_down (net_in b) p first) outward (world_of b)) mid down
    → Does (in_turn (wake_up (net_in mid) p) inward (world_of mid)) new up → Does (phases (net_in a) p inward outward (world_of a)) new result
phases_do a b mid new p first inward outward woken handed down up result here there at j k x y z =
    let net = net_in a in
    let e : first ≡ length (world_of a).frames = at ∙ sym (length-map a.frames frame_said) in
    let second = does_same (λ n. in_turn (hand_down n p first) outward (world_of b)) a b mid down here y in
    let from = subst (λ n. Does (in_turn (hand_down net p n) outward (world_of b)) mid down) e second in
    let both = does_joined (in_turn (wake_up net p) inward (world_of a)) (in_turn (hand_down net p (length (world_of a).frames)) outward) b mid woken down (Ok handed) j x from in
    let third = does_same (λ n. in_turn (wake_up n p) inward (world_of mid)) a mid new up there z in
    does_joined (followed_by (in_turn (wake_up net p) inward (world_of a)) (in_turn (hand_down net p (length (world_of a).frames)) outward)) (in_turn (wake_up net p) inward) mid new handed up result k both third
