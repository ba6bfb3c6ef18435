-- The calls of a sweep send frames of its publisher alone, and where knowledge
-- is delivered, knowledge for the children alone, since learning asks nothing
use Rattle.std.proofs.Common.{◌≡◌, ℕ, suc, zero, Bool, true, false, ◌&&◌, List, [], ◌∷◌, ◌++◌, map, length, refl, sym, ap, ◌∙◌, subst, append-nil, append_assoc}
use Rattle.std.specs.Prelude.{nat_eq, nat_lt, filter, if◌then◌else◌}
use Rattle.std.proofs.lemmas.Bool.{false≢true, and_parts, eqb-true, eq-eqb, or_left, or_right}
use Rattle.gr_event.specs.Joins.{longer, Joins}
use Rattle.gr_know.specs.Values.{Known}
use Rattle.gr_curio.specs.Values.{Wanted}
use Rattle.gr_frame.specs.Bytes.{head_size, cut_frames, known_run_size}
use Rattle.gr_frame.specs.declared.Body.{Body}
use Rattle.gr_frame.specs.declared.Body.TheVariants as body
use Rattle.gr_frame.specs.declared.Frame.{Frame}
use Rattle.gr_model.specs.Net.{Net, is_host}
use Rattle.gr_model.specs.Broker.{with_joins, drops, View, Log, Outcome, head, know_frames, forward, new_ticks, forward_frames, learn, curiosity, expect, place_of, receive, marking, cutting, silence, with_mark, wake, wake_host, wake_below, expect_frames}
use Rattle.gr_model.specs.World.{World, Transition, view_of, log_of, absorbed, followed_by, in_turn, frames_past, sent_since, is_want, is_know_to, deliver_frame_by, deliver_up_by, hand_down_by, wake_for_by, wake_up_by}
use Rattle.gr_model_calls.specs.OneNet.{wake_for, deliver_frame, deliver_up, wake_up, hand_down}
use Rattle.gr_model_calls.proofs.calls.HostCases.{marking_cases}
use Rattle.gr_model_calls.proofs.runs.Worlds.{Each}
use Rattle.gr_model_calls.proofs.asks.AskMoments.{Each-on}
use Rattle.gr_model_calls.proofs.runs.Closed.{Each-kept}
use Rattle.gr_model_calls.proofs.rules.Serves.{frames_past_all}
use Rattle.gr_model_theorems.proofs.sweep.Upward.{SentBy, learn_each, expects_each, asking_each, receive_each}
use Rattle.gr_model_theorems.proofs.sweep.Rounds.{stands, Each-map, Each-join, each_tested}
use Rattle.gr_model_theorems.proofs.sweep.SweepCalls.{Grows}

-- more frames, and each has the property
pub record AddsFrames (R : Frame → Type 0) (w u : World) : Type 0 where
  pub more : List Frame
  pub frames : u.frames ≡ w.frames ++ more
  pub each : Each R more

pub adds_none : (R : Frame → Type 0) (w : World) → AddsFrames R w w
adds_none R w = record { more = []; frames = sym (append-nil w.frames); each = tt }

-- frames with a property, and then more with it, are more with it
pub adds_on : (R : Frame → Type 0) (w u v : World) → AddsFrames R w u → AddsFrames R u v → AddsFrames R w v
adds_on R w u v a b = record { more = a.more ++ b.more; frames = b.frames ∙ (ap (λ z. z ++ b.more) a.frames ∙ append_assoc w.frames a.more b.more); each = Each-join R a.more b.more a.each b.each }

-- the added frames have a weaker property too
pub adds_map : (R S : Frame → Type 0) (w u : World) → ((f : Frame) → R f → S f) → AddsFrames R w u → AddsFrames S w u
adds_map R S w u h a = record { more = a.more; frames = a.frames; each = Each-map R S a.more h a.each }

-- where frames with a property are added, those sent before are kept
pub adds_grow : (R : Frame → Type 0) (w u : World) → AddsFrames R w u → Grows w u
adds_grow R w u a = record { more = a.more; frames = a.frames }

pub in_turn_adds : {X : Type 0} (R : Frame → Type 0) (ok : X → Type 0) (f : World → X → Transition) → ((w : World) (x : X) → ok x → AddsFrames R w (f w x).world) → (xs : List X) (w : World) → Each ok xs → AddsFrames R w (in_turn f xs w).world
in_turn_adds R ok f one [] w a = adds_none R w
in_turn_adds R ok f one (x ∷ xs) w a = adds_on R w (f w x).world (in_turn f xs (f w x).world).world (one w x a.0) (in_turn_adds R ok f one xs (f w x).world a.1)

absorbed_adds : (R : Frame → Type 0) (w : World) (b p : ℕ) (o : Outcome) → Each R o.frames → AddsFrames R w (absorbed w b p o).world
unfolding absorbed
absorbed_adds R w b p o a = record { more = o.frames; frames = refl; each = a }

-- what was sent since
since_adds : (R : Frame → Type 0) (w u : World) → AddsFrames R w u → Each R (sent_since w u)
since_adds R w u a = subst (Each R) (sym (ap (frames_past (length w.frames)) a.frames ∙ frames_past_all w.frames a.more)) a.each

-- Frames of one publisher

-- a frame of the publisher
abbrev pub Of : ℕ → Frame → Type 0
Of p f = f.head.publisher ≡ p

wake_each : (net : Net) (p b now : ℕ) (R : Frame → Type 0) (v : View) (log : Log) → SentBy net p b R → Each R (wake net p b now v log).frames
unfolding wake wake_host wake_below
wake_each net p b now R v log s = go (is_host net p b)
  where
    marked : Each R (marking net p b now v log).frames
    marked = marking_cases net p b now v log (λ o. Each R o.frames) (λ e. learn_each net p b R (silence (suc log.settled) now []) v (with_mark log now) s) (λ e. tt)

    told : (q : Bool) (tick : ℕ) (ws : List Wanted) → Each R (if q then expect_frames p b tick (net.children p b) ws else [])
    told true tick ws = expects_each net p b tick R (net.children p b) ws s
    told false tick ws = tt

    go : (q : Bool) → Each R (let o : Outcome = elim q [ true ↦ wake_host net p b now v log | false ↦ wake_below net p b now v log ] in o.frames)
    go true = Each-on R (marking net p b now v log).frames _ marked (told (nat_lt 0 (cutting net p b (marking net p b now v log).view (marking net p b now v log).log).settled) (cutting net p b (marking net p b now v log).view (marking net p b now v log).log).settled (marking net p b now v log).view.wants)
    go false = asking_each net p b now R _ _ v log s

wake_of : (net : Net) (w : World) (b p : ℕ) → AddsFrames (Of p) w (wake_for net w b p).world
unfolding wake_for_by
wake_of net w b p = absorbed_adds (Of p) w b p (wake net p b w.clock (view_of w b p) (log_of w p)) (wake_each net p b w.clock (Of p) (view_of w b p) (log_of w p) (record { know = λ c part js. refl; want = λ u part e. refl; expect = λ c tick. refl }))

pub deliver_of : (net : Net) (p : ℕ) (w : World) (f : Frame) → Of p f → AddsFrames (Of p) w (deliver_frame net w f).world
unfolding deliver_frame_by
deliver_of net p w f e = absorbed_adds (Of p) w f.head.to f.head.publisher (receive net w.clock f (view_of w f.head.to f.head.publisher) (log_of w f.head.publisher))
    (receive_each net w.clock (Of p) f (view_of w f.head.to f.head.publisher) (log_of w f.head.publisher) (record { know = λ c part js. e; want = λ u part h. e; expect = λ c tick. e }))

pub deliver_up_of : (net : Net) (p fuel : ℕ) (fs : List Frame) (w : World) → Each (Of p) fs → AddsFrames (Of p) w (deliver_up net fuel fs w).world
unfolding deliver_up_by
deliver_up_of net p zero fs w a = adds_none (Of p) w
deliver_up_of net p (suc fuel) fs w a =
    in_turn_adds (Of p) (Of p) (λ u f. followed_by (deliver_frame net u f) (λ x. deliver_up net fuel (filter is_want (sent_since u x)) x))
    (λ u f e. let y = (deliver_frame net u f).world in let d = deliver_of net p u f e in
    adds_on (Of p) u y (deliver_up net fuel (filter is_want (sent_since u y)) y).world d (deliver_up_of net p fuel (filter is_want (sent_since u y)) y (Each-kept (Of p) is_want (sent_since u y) (since_adds (Of p) u y d))))
    fs w a

pub wake_up_of : (net : Net) (p : ℕ) (w : World) (b : ℕ) → AddsFrames (Of p) w (wake_up net p w b).world
unfolding wake_up_by
wake_up_of net p w b =
    let y = (wake_for net w b p).world in
    let d = wake_of net w b p in
    adds_on (Of p) w y (deliver_up net net.brokers (filter is_want (sent_since w y)) y).world d (deliver_up_of net p net.brokers (filter is_want (sent_since w y)) y (Each-kept (Of p) is_want (sent_since w y) (since_adds (Of p) w y d)))

-- a property that says nothing holds of each
pub units : {X : Type 0} (xs : List X) → Each (λ x. Unit {0}) xs
units [] = tt
units (x ∷ xs) = (tt, units xs)

-- the wakes of the first phase send frames of their publisher only
pub wake_turns_of : (net : Net) (p : ℕ) (bs : List ℕ) (w : World) → AddsFrames (Of p) w (in_turn (wake_up net p) bs w).world
wake_turns_of net p bs w = in_turn_adds (Of p) (λ b. Unit {0}) (wake_up net p) (λ u b t. wake_up_of net p u b) bs w (units bs)

-- Knowledge for the children

-- whether a frame is a Knowledge frame
abbrev pub is_know : Frame → Bool
is_know f = elim f.body [ body.Knowledge runs js ↦ true | _ ↦ false ]

-- a frame of knowledge from a broker to one of its children
pub record Down (net : Net) (p b : ℕ) (f : Frame) : Type 0 where
  pub know : is_know f ≡ true
  pub publisher : f.head.publisher ≡ p
  pub child : stands (net.children p b) f.head.to ≡ true

know_down : (js : Joins) (net : Net) (p b c : ℕ) (runs : Known) → stands (net.children p b) c ≡ true → Each (Down net p b) (know_frames js b c p runs)
know_down js net p b c runs m = go (cut_frames (head_size js) known_run_size runs)
  where
    go : (parts : List Known) → Each (Down net p b) (map (λ part. record { head = head b c p; body = body.Knowledge part js }) parts)
    go [] = tt
    go (x ∷ xs) = (record { know = refl; publisher = refl; child = m }, go xs)

forward_down : (js : Joins) (net : Net) (p b : ℕ) (new : Known) (cs : List ℕ) (ws : List Wanted) → ((c : ℕ) → stands cs c ≡ true → stands (net.children p b) c ≡ true) → Each (Down net p b) (forward_frames js net p b new cs ws)
forward_down js net p b new [] ws m = tt
forward_down js net p b new (c ∷ cs) [] m = tt
forward_down js net p b new (c ∷ cs) (w ∷ ws) m = Each-on (Down net p b) (know_frames js b c p (forward net p c w new)) (forward_frames js net p b new cs ws) (know_down js net p b c (forward net p c w new) (m c (or_left (nat_eq c c) (stands cs c) (eq-eqb c c refl)))) (forward_down js net p b new cs ws (λ d h. m d (or_right (nat_eq c d) (stands cs d) h)))

learn_down : (net : Net) (p b : ℕ) (piece : Known) (v : View) (log : Log) → Each (Down net p b) (learn net p b piece v log).frames
unfolding learn
learn_down net p b piece v log = forward_down v.joins net p b (new_ticks v.know piece) (net.children p b) v.wants (λ c h. h)

receive_down : {js : Joins} (net : Net) (now : ℕ) (f : Frame) (runs : Known) (v : View) (log : Log) → f.body ≡ body.Knowledge runs js → Each (Down net f.head.publisher f.head.to) (receive net now f v log).frames
unfolding receive
receive_down {js} net now f runs v log e = subst (λ y. Each (Down net f.head.publisher f.head.to) (let o : Outcome = elim y [
  | body.Knowledge runs js ↦ elim (drops v runs js) [ true ↦ record { view = v; log = log; lines = []; frames = [] } | false ↦ learn net f.head.publisher f.head.to runs (with_joins v (longer v.joins js)) log ]
  | body.Curiosity runs ↦ curiosity net f.head.publisher f.head.to now f.head.from (place_of f.head.from (net.children f.head.publisher f.head.to)) runs v log
  | body.Expect tick ↦ expect net f.head.publisher f.head.to now tick v log
] in o.frames)) (sym e) (learned (drops v runs js))
  where
    learned : (q : Bool) → Each (Down net f.head.publisher f.head.to) (let o : Outcome = elim q [ true ↦ record { view = v; log = log; lines = []; frames = [] } | false ↦ learn net f.head.publisher f.head.to runs (with_joins v (longer v.joins js)) log ] in o.frames)
    learned true = tt
    learned false = learn_down net f.head.publisher f.head.to runs (with_joins v (longer v.joins js)) log

-- a frame that brings b knowledge of p
pub record KnowTo (p b : ℕ) (f : Frame) : Type 0 where
  pub runs : Known
  pub joins : Joins
  pub body : f.body ≡ body.Knowledge runs joins
  pub publisher : f.head.publisher ≡ p
  pub to : f.head.to ≡ b

pub know_to_is : (p b : ℕ) (f : Frame) → is_know_to p b f ≡ true → KnowTo p b f
know_to_is p b f e = go f.body refl e
  where
    go : (y : Body) → f.body ≡ y → (let q : Bool = elim y [ body.Knowledge runs js ↦ nat_eq f.head.publisher p && nat_eq f.head.to b | _ ↦ false ] in q) ≡ true → KnowTo p b f
    go (body.Knowledge runs js) g h = let x = and_parts (nat_eq f.head.publisher p) (nat_eq f.head.to b) h in record { runs = runs; joins = js; body = g; publisher = eqb-true f.head.publisher p x.0; to = eqb-true f.head.to b x.1 }
    go (body.Curiosity runs) g h = absurd (false≢true h)
    go (body.Expect tick) g h = absurd (false≢true h)

deliver_down : (net : Net) (p b : ℕ) (w : World) (f : Frame) → is_know_to p b f ≡ true → AddsFrames (Down net p b) w (deliver_frame net w f).world
unfolding deliver_frame_by
deliver_down net p b w f e =
    let k = know_to_is p b f e in
    absorbed_adds (Down net p b) w f.head.to f.head.publisher (receive net w.clock f (view_of w f.head.to f.head.publisher) (log_of w f.head.publisher))
    (subst (λ z. Each (Down net p z) (receive net w.clock f (view_of w f.head.to f.head.publisher) (log_of w f.head.publisher)).frames) k.to
    (subst (λ z. Each (Down net z f.head.to) (receive net w.clock f (view_of w f.head.to f.head.publisher) (log_of w f.head.publisher)).frames) k.publisher
    (receive_down net w.clock f k.runs (view_of w f.head.to f.head.publisher) (log_of w f.head.publisher) k.body)))

-- the knowledge that is handed down to a broker goes on to its children
pub hand_down_adds : (net : Net) (p first : ℕ) (w : World) (b : ℕ) → AddsFrames (Down net p b) w (hand_down net p first w b).world
unfolding hand_down_by
hand_down_adds net p first w b = in_turn_adds (Down net p b) (λ f. is_know_to p b f ≡ true) (deliver_frame net) (λ u f e. deliver_down net p b u f e) (filter (is_know_to p b) (frames_past first w.frames)) w (each_tested (is_know_to p b) (frames_past first w.frames))

-- knowledge of the publisher
pub record KnowOf (p : ℕ) (f : Frame) : Type 0 where
  pub know : is_know f ≡ true
  pub publisher : f.head.publisher ≡ p

-- the turns of the second phase send knowledge of their publisher only
pub hand_turns_add : (net : Net) (p first : ℕ) (bs : List ℕ) (w : World) → AddsFrames (KnowOf p) w (in_turn (hand_down net p first) bs w).world
hand_turns_add net p first bs w = in_turn_adds (KnowOf p) (λ b. Unit {0}) (hand_down net p first) (λ u b t. adds_map (Down net p b) (KnowOf p) u (hand_down net p first u b).world (λ f d. record { know = d.know; publisher = d.publisher }) (hand_down_adds net p first u b)) bs w (units bs)
