-- Each call keeps that a broker below the host knows above its horizon what it has heard
use Rattle.std.proofs.Common.{◌≡◌, ◌≢◌, ◌⊎◌, inl, inr, ℕ, suc, ◌+◌, ◌<◌, Bool, true, false, List, [], map, set, get_or, refl, sym, ap, ◌∙◌, subst, arith}
use Rattle.std.proofs.lemmas.Bool.{cases_eq, eq-eqb, false≢true, both_ways}
use Rattle.std.proofs.lemmas.List.{get_or-set_other, get_or-set_same}
use Rattle.gr_event.specs.Joins.{Joins, longer}
use Rattle.gr_event.specs.declared.event.Event.{Event}
use Rattle.gr_frame.specs.declared.Body.{Body}
use Rattle.gr_frame.specs.declared.Body.TheVariants as body
use Rattle.gr_frame.specs.declared.Frame.{Frame}
use Rattle.gr_know.specs.declared.values.K.TheVariants.{Q}
use Rattle.gr_tick.specs.Runs.{AreRuns}
use Rattle.gr_know.specs.Values.{Known, known_at}
use Rattle.gr_curio.specs.Values.{Wanted}
use Rattle.gr_model.specs.Net.{Net, is_host, keeps_horizon, numbers}
use Rattle.gr_model.specs.Broker.{joining, with_joins, drops, View, Log, Outcome, empty_log, learn, asking, expect, curiosity, wake, wake_host, wake_below, receive, stored, acknowledged, place_of, due, noted, publish, started}
use Rattle.gr_model.specs.World.{join_now_by, World, blank_view, view_of, log_of, absorbed, restarted, deliver_frame_by, publish_now_by, wake_for_by}
use Rattle.gr_model_calls.specs.OneNet.{join_now, wake_for, deliver_frame, publish_now}
use Rattle.gr_model_calls.specs.Truth.{HasEvent, Facts, AllWantTruth}
use Rattle.gr_model.specs.Tree.{IsNet, IsPlace}
use Rattle.gr_model_calls.specs.Fits.{WorldFits, ViewTrue, FrameTrue, BodyTrue, BodyFits, facts_of}
use Rattle.gr_model_calls.proofs.calls.CallTruth.{ViewTrue-taken, curiosity_wants}
use Rattle.gr_model_calls.proofs.asks.CallTicks.{IsTrimmed, trimmed-is, trimmed_above}
use Rattle.gr_model_theorems.proofs.heard.Heard.{HeardFits, hears, learn_heard, kept_above}
use Rattle.gr_model_calls.proofs.runs.Clash.{nothing_drops}
use Rattle.gr_model_calls.proofs.runs.Closed.{with_logs}
use Rattle.gr_model_calls.proofs.runs.Schedules.{get_numbers}
use Rattle.gr_model_calls.proofs.runs.Worlds.{absorbed_changed}
use Rattle.gr_model_calls.proofs.calls.Calls.{trimmed_horizon}

-- the same horizon, and the same knowledge above it
same_heard : (v u : View) (H : ℕ → Bool) → u.horizon ≡ v.horizon → ((t : ℕ) → v.horizon < t → known_at u.know t ≡ known_at v.know t) → HeardFits v H → HeardFits u H
same_heard v u H e k h = record {
  below = λ t x y. h.below t x (omega (arith, y, e));
  stops = subst (λ n. H (suc n) ≡ false) (sym e) h.stops;
  known = λ t x y. h.known t (omega (arith, x, e)) (λ q. y (k t (omega (arith, x, e)) ∙ q));
  kept = λ t x y q. h.kept t (omega (arith, x, e)) y (sym (k t (omega (arith, x, e))) ∙ q);
}

-- another name for what was heard
pub heard_as : (v : View) (H K : ℕ → Bool) → ((t : ℕ) → K t ≡ H t) → HeardFits v H → HeardFits v K
heard_as v H K e h = record {
  below = λ t x y. e t ∙ h.below t x y;
  stops = e (suc v.horizon) ∙ h.stops;
  known = λ t x y. e t ∙ h.known t x y;
  kept = λ t x y. h.kept t x (sym (e t) ∙ y);
}

trimmed_heard : (net : Net) (p b : ℕ) (v u : View) (H : ℕ → Bool) → keeps_horizon net p b ≡ true → IsTrimmed net p b v u → HeardFits v H → HeardFits u H
trimmed_heard net p b v u H keeps i h = same_heard v u H i.horizon (λ t l. trimmed_above net p b t v u i keeps l) h

asking_heard : (net : Net) (p b now : ℕ) (wanted : ℕ → Bool) (ps : List ℕ) (v : View) (log : Log) (H : ℕ → Bool) → keeps_horizon net p b ≡ true → AreRuns Q v.know → HeardFits v H → HeardFits (asking net p b now wanted ps v log).view H
unfolding asking
asking_heard net p b now wanted ps v log H keeps r h =
    let w : View = record { know = v.know; wants = v.wants; asks = noted now v.asks (due now net.retry v.know v.asks wanted ps); horizon = v.horizon; joins = v.joins } in
    trimmed_heard net p b w _ H keeps (trimmed-is net p b w r) (record { below = h.below; stops = h.stops; known = h.known; kept = h.kept })

wake_heard : (net : Net) (p b now : ℕ) (v : View) (log : Log) (H : ℕ → Bool) → is_host net p b ≡ false → keeps_horizon net p b ≡ true → AreRuns Q v.know → HeardFits v H → HeardFits (wake net p b now v log).view H
unfolding wake wake_below
wake_heard net p b now v log H host keeps r h = go (is_host net p b) host
  where
    go : (q : Bool) → q ≡ false → HeardFits (let o : Outcome = elim q [ true ↦ wake_host net p b now v log | false ↦ wake_below net p b now v log ] in o.view) H
    go true e = absurd (false≢true (sym e))
    go false e = asking_heard net p b now _ _ v log H keeps r h

expect_heard : (net : Net) (p b now tick : ℕ) (v : View) (log : Log) (H : ℕ → Bool) → keeps_horizon net p b ≡ true → AreRuns Q v.know → HeardFits v H → HeardFits (expect net p b now tick v log).view H
unfolding expect
expect_heard net p b now tick v log H keeps r h = asking_heard net p b now _ _ v log H keeps r h

curiosity_heard : (net : Net) (f : Facts) (p b now c : ℕ) (piece : Wanted) (v : View) (log : Log) (H : ℕ → Bool) → keeps_horizon net p b ≡ true → ViewTrue net f p b v → AllWantTruth net f p (net.children p b) (set v.wants (place_of c (net.children p b)) (stored v.know (acknowledged (get_or v.wants (place_of c (net.children p b)) []) piece) piece)) →
    HeardFits v H → HeardFits (curiosity net p b now c (place_of c (net.children p b)) piece v log).view H
unfolding curiosity
curiosity_heard net f p b now c piece v log H keeps h ws k =
    same_heard v _ H (trimmed_horizon net p b _) (λ t l. kept_above net f p b v.know (set v.wants (place_of c (net.children p b)) (stored v.know (acknowledged (get_or v.wants (place_of c (net.children p b)) []) piece) piece)) _ t keeps h.know.runs ws refl l) k

-- what a frame adds to what its receiver has heard
abbrev pub hears_body : (ℕ → Bool) → Body → ℕ → Bool
hears_body H (body.Knowledge runs js) t = hears H runs t
hears_body H _ t = H t

receive_heard : (net : Net) (f : Facts) (now : ℕ) (x : Frame) (v : View) (log : Log) (H : ℕ → Bool) → IsPlace net x.head.publisher x.head.to → keeps_horizon net x.head.publisher x.head.to ≡ true → ViewTrue net f x.head.publisher x.head.to v → BodyTrue net f x.head.publisher x.head.from x.head.to x.body → BodyFits net x.head.publisher x.head.from x.head.to x.body →
    HeardFits v H → HeardFits (receive net now x v log).view (hears_body H x.body)
unfolding receive
receive_heard net f now x v log H place keeps h tr fits k = go x.body tr fits
  where
    p : ℕ
    p = x.head.publisher

    b : ℕ
    b = x.head.to

    learned : (runs : Known) (js : Joins) (q : Bool) → drops v runs js ≡ q → BodyTrue net f p x.head.from b (body.Knowledge runs js) → HeardFits (let o : Outcome = elim q [ true ↦ record { view = v; log = log; lines = []; frames = [] } | false ↦ learn net p b runs (with_joins v (longer v.joins js)) log ] in o.view) (hears H runs)
    learned runs js true e i = absurd (false≢true (sym (nothing_drops net f p b v runs js h.know h.held i.0 i.1) ∙ e))
    learned runs js false e i = learn_heard net f p b runs (with_joins v (longer v.joins js)) log H place keeps (ViewTrue-taken net f p b v js (HasEvent runs) h i.1) i.0 (record { below = k.below; stops = k.stops; known = k.known; kept = k.kept })

    go : (y : Body) → BodyTrue net f p x.head.from b y → BodyFits net p x.head.from b y → HeardFits (let o : Outcome = elim y [
      | body.Knowledge runs js ↦ elim (drops v runs js) [ true ↦ record { view = v; log = log; lines = []; frames = [] } | false ↦ learn net x.head.publisher x.head.to runs (with_joins v (longer v.joins js)) log ]
      | body.Curiosity runs ↦ curiosity net x.head.publisher x.head.to now x.head.from (place_of x.head.from (net.children x.head.publisher x.head.to)) runs v log
      | body.Expect tick ↦ expect net x.head.publisher x.head.to now tick v log
    ] in o.view) (hears_body H y)
    go (body.Knowledge runs js) i j = learned runs js (drops v runs js) refl i
    go (body.Curiosity runs) i j = curiosity_heard net f p b now x.head.from runs v log H keeps h (curiosity_wants net f p b x.head.from runs v h j i) k
    go (body.Expect tick) i j = expect_heard net p b now tick v log H keeps h.know.runs k

-- Worlds

-- each broker below the host that keeps a horizon, with what it has heard of each publisher
abbrev pub HeardsFit : Net → World → (ℕ → ℕ → ℕ → Bool) → Type 0
HeardsFit net w H = (b p : ℕ) → b < net.brokers → p < net.publishers → is_host net p b ≡ false → keeps_horizon net p b ≡ true → HeardFits (view_of w b p) (H b p)

-- two of them say the same but at one broker and publisher
abbrev pub SameBut : (ℕ → ℕ → ℕ → Bool) → (ℕ → ℕ → ℕ → Bool) → ℕ → ℕ → Type 0
SameBut H K b p = (c q t : ℕ) → (c ≢ b) ⊎ (q ≢ p) → K c q t ≡ H c q t

absorbed_heard : (net : Net) (w : World) (b p : ℕ) (o : Outcome) (H K : ℕ → ℕ → ℕ → Bool) → WorldFits net w → b < net.brokers → p < net.publishers → (is_host net p b ≡ false → keeps_horizon net p b ≡ true → HeardFits (view_of w b p) (H b p) → HeardFits o.view (K b p)) → SameBut H K b p → HeardsFit net w H → HeardsFit net (absorbed w b p o).world K
absorbed_heard net w b p o H K f i j call same h c q x y =
    let d = absorbed_changed net w b p o f i j in
    let u = (absorbed w b p o).world in
    elim (cases_eq q p) [
      | inr e ↦ λ host keeps. heard_as (view_of u c q) (H c q) (K c q) (λ t. same c q t (inr e)) (subst (λ v. HeardFits v (H c q)) (sym (d.other_publisher c q e)) (h c q x y host keeps))
      | inl e ↦ elim (cases_eq c b) [
        | inr g ↦ λ host keeps. heard_as (view_of u c q) (H c q) (K c q) (λ t. same c q t (inl g)) (subst (λ v. HeardFits v (H c q)) (sym (d.other_broker c q g)) (h c q x y host keeps))
        | inl g ↦ subst (λ z. is_host net z c ≡ false → keeps_horizon net z c ≡ true → HeardFits (view_of u c z) (K c z)) (sym e) (subst (λ z. is_host net p z ≡ false → keeps_horizon net p z ≡ true → HeardFits (view_of u z p) (K z p)) (sym g)
            (λ host keeps. subst (λ v. HeardFits v (K b p)) (sym d.view) (call host keeps (h b p i j host keeps))))
      ]
    ]

-- a wake keeps that brokers know above their horizons what they have heard
pub wake_for_heard : (net : Net) (w : World) (b p : ℕ) (H : ℕ → ℕ → ℕ → Bool) → WorldFits net w → b < net.brokers → p < net.publishers → HeardsFit net w H → HeardsFit net (wake_for net w b p).world H
unfolding wake_for_by
wake_for_heard net w b p H f i j h =
    absorbed_heard net w b p (wake net p b w.clock (view_of w b p) (log_of w p)) H H f i j (λ host keeps k. wake_heard net p b w.clock (view_of w b p) (log_of w p) (H b p) host keeps (f.views p b j i).know.runs k) (λ c q t x. refl) h

-- a delivery keeps it too, with what the frame says then heard by its receiver
pub deliver_heard : (net : Net) (w : World) (x : Frame) (H K : ℕ → ℕ → ℕ → Bool) → IsNet net → WorldFits net w → FrameTrue net w x → ((t : ℕ) → K x.head.to x.head.publisher t ≡ hears_body (H x.head.to x.head.publisher) x.body t) → SameBut H K x.head.to x.head.publisher → HeardsFit net w H → HeardsFit net (deliver_frame net w x).world K
unfolding deliver_frame_by
deliver_heard net w x H K n f tr here same h =
    let b = x.head.to in
    let p = x.head.publisher in
    let o = receive net w.clock x (view_of w b p) (log_of w p) in
    absorbed_heard net w b p o H K f tr.fits.to_in tr.publisher_in
    (λ host keeps k. heard_as o.view (hears_body (H b p) x.body) (K b p) here (receive_heard net (facts_of net w p) w.clock x (view_of w b p) (log_of w p) (H b p) (n.place p b tr.publisher_in tr.fits.to_in) keeps (f.views p b tr.publisher_in tr.fits.to_in) tr.told tr.fits.body k))
    same h

-- a publish keeps that brokers know above their horizons what they have heard
pub publish_now_heard : (net : Net) (w : World) (p number : ℕ) (e : Event) (H : ℕ → ℕ → ℕ → Bool) → IsNet net → WorldFits net w → p < net.publishers → HeardsFit net w H → HeardsFit net (publish_now net w p number e).world H
unfolding publish_now_by
publish_now_heard net w p number e H n f j h =
    absorbed_heard net w (net.host p) p (publish net p (net.host p) w.clock number e (view_of w (net.host p) p) (log_of w p)) H H f (n.host_in p j) j
    (λ host keeps k. absurd (both_ways (is_host net p (net.host p)) host (eq-eqb (net.host p) (net.host p) refl))) (λ c q t x. refl) h

-- so does a join
pub join_now_heard : (net : Net) (w : World) (s p : ℕ) (H : ℕ → ℕ → ℕ → Bool) → IsNet net → WorldFits net w → p < net.publishers → HeardsFit net w H → HeardsFit net (join_now net w s p).world H
unfolding join_now_by
join_now_heard net w s p H n f j h =
    absorbed_heard net w (net.host p) p (joining net p (net.host p) w.clock s (view_of w (net.host p) p) (log_of w p)) H H f (n.host_in p j) j
    (λ host keeps k. absurd (both_ways (is_host net p (net.host p)) host (eq-eqb (net.host p) (net.host p) refl))) (λ c q t x. refl) h

-- a started broker has heard nothing
pub started_heard : (net : Net) (p b : ℕ) (log : Log) (H : ℕ → Bool) → is_host net p b ≡ false → ((t : ℕ) → H t ≡ false) → HeardFits (started net p b log) H
unfolding started
started_heard net p b log H host none = rw host (record {
  below = λ t x y. absurd (omega (arith, x, y));
  stops = none 1;
  known = λ t x y. absurd (y refl);
  kept = λ t x y. absurd (false≢true (sym (none t) ∙ y));
})

-- a restart keeps it too, after which its broker has heard nothing
pub restarted_heard : (net : Net) (w : World) (logs : List Log) (b : ℕ) (H K : ℕ → ℕ → ℕ → Bool) → WorldFits net w → b < net.brokers → ((p t : ℕ) → p < net.publishers → K b p t ≡ false) → ((c p t : ℕ) → c ≢ b → K c p t ≡ H c p t) → HeardsFit net w H → HeardsFit net (restarted net (with_logs w logs) b) K
unfolding restarted
restarted_heard net w logs b H K f i none same h c q x y =
    let g : ℕ → View = λ p. started net p b (get_or logs p empty_log) in
    let u = restarted net (with_logs w logs) b in
    let here : view_of u b q ≡ started net (0 + q) b (get_or logs (0 + q) empty_log) = ap (λ row. get_or row q blank_view) (get_or-set_same w.views b (map g (numbers net.publishers)) [] (omega (arith, f.views_long))) ∙ get_numbers g 0 net.publishers q blank_view y in
    elim (cases_eq c b) [
      | inl e ↦ subst (λ z. is_host net q z ≡ false → keeps_horizon net q z ≡ true → HeardFits (view_of u z q) (K z q)) (sym e)
          (λ host keeps. subst (λ v. HeardFits v (K b q)) (sym here) (started_heard net (0 + q) b (get_or logs (0 + q) empty_log) (K b q) (subst (λ z. is_host net z b ≡ false) (omega arith) host) (λ t. none q t y)))
      | inr e ↦ λ host keeps.
          let other : view_of u c q ≡ view_of w c q = ap (λ row. get_or row q blank_view) (get_or-set_other w.views b c (map g (numbers net.publishers)) [] e) in
          heard_as (view_of u c q) (H c q) (K c q) (λ t. same c q t e) (subst (λ v. HeardFits v (H c q)) (sym other) (h c q x y host keeps))
    ]
