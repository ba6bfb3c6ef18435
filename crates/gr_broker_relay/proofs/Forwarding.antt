-- Each child is sent what passes the edge to it and what it has not acknowledged, and then wants what the machine says.
use Rattle.std.proofs.Common.{◌≡◌, ℕ, suc, cond, nat_eq, ◌+◌, ◌<◌, ◌⊎◌, not, ◌&&◌, List, [], ◌∷◌, length, get_or, refl, sym, ap, ap₂, ◌∙◌, subst, inl, inr, arith}
use Rattle.std.specs.Prelude.{if◌then◌else◌, slice_index_or}
use Rattle.std.proofs.lemmas.Bool.{cases_lt, eq-eqb, ne_eqb}
use Rattle.std.proofs.lemmas.List.{ext_get_or, get_or_default}
use Rattle.gr_event.specs.Joins.{Joins}
use Rattle.gr_tick.specs.Runs.{AreRuns}
use Rattle.gr_tick.specs.Stored.{RunsGive}
use Rattle.gr_tick.proofs.RunLaws.{zip_runs-is}
use Rattle.gr_know.specs.declared.values.K.TheVariants.{Q}
use Rattle.gr_know.specs.Values.{Known, known_at, same_K, is_Q, new_K}
use Rattle.gr_know.proofs.ValueLaws.{K_decides}
use Rattle.gr_curio.specs.declared.values.Q3.TheVariants.{N, C}
use Rattle.gr_curio.specs.Values.{Wanted, wanted_at, is_A, is_C}
use Rattle.gr_curio.specs.Wants.{wants_of, all_A}
use Rattle.gr_edge.specs.Pass.{pass}
use Rattle.gr_frame.specs.declared.Frame.{Frame}
use Rattle.gr_frame.specs.Frames.{FrameList}
use Rattle.gr_topo.specs.Topology.{children_of}
use Rattle.gr_model.specs.Net.{Net}
use Rattle.gr_model.specs.NetOf.{net_of}
use Rattle.gr_model.specs.Broker.{View, seen, new_ticks, passed, forward, know_frames, forward_wants}
use Rattle.gr_model_calls.proofs.calls.Passed.{passed-is}
use Rattle.gr_broker_relay.specs.declared.place.Child.{Child}
use Rattle.gr_broker_relay.specs.declared.site.Site.{Site}
use Rattle.gr_broker_relay.specs.Branch.{wantings_below}
use Rattle.gr_broker_relay.specs.Held.{IsSite}
use Rattle.gr_broker_relay.specs.Changes.{AreTaken}
use Rattle.gr_broker_relay.specs.Told.{AddsFrames}
use Rattle.gr_broker_relay.proofs.Sited.{child_number, child_has_edge, child_edge}
use Rattle.gr_broker_walks.proofs.Untouched.{sent_whole}
use Rattle.gr_broker_relay.proofs.Learned.{sent_is, quenched_is, quenched_stays, forward_wants-length, forward_wants-at}

-- The edge to a child, which is read by its place, has what is wanted behind it
pub edge_at : (s : Site) (i : ℕ) (c : Child) → IsSite s → i < length s.position.now.children.items → c ≡ get_or s.position.now.children.items i c → get_or s.edges.now c.edge [] ≡ wantings_below s.topo.now s.publisher (get_or (children_of s.topo.now s.publisher s.broker) i 0)
edge_at s i c is lt e =
    let inside = child_has_edge i s.edges.now s.position.now c is.edges lt e in
    child_edge s.topo.now s.broker s.publisher i s.edges.now s.position.now c (get_or s.edges.now c.edge []) is.branch is.edges lt e (get_or_default s.edges.now c.edge [] (get_or s.edges.now c.edge []) inside)

-- so what passes it and was not acknowledged is what the machine forwards
pub forwarded : (s : Site) (v : View) (i : ℕ) (c : Child) (w : Wanted) (fresh let_by sent : Known) → IsSite s → i < length s.position.now.children.items → c ≡ get_or s.position.now.children.items i c → AreRuns Q fresh → AreRuns N w → RunsGive Q let_by (λ t. pass (slice_index_or s.edges.now c.edge []) v.joins t (known_at fresh t)) → RunsGive Q sent (λ t. if is_A (wanted_at w t) then Q else known_at let_by t) → sent ≡ forward (seen (net_of s.topo.now) v) s.publisher (get_or (children_of s.topo.now s.publisher s.broker) i 0) w fresh
forwarded s v i c w fresh let_by sent is lt e a b g h =
    sent_is s.topo.now v s.publisher (get_or (children_of s.topo.now s.publisher s.broker) i 0) (get_or s.edges.now c.edge []) w fresh let_by sent (edge_at s i c is lt e) a b g h

-- and where the child wants none of what passes it, that is all of it
pub forwarded_whole : (s : Site) (v : View) (i : ℕ) (c : Child) (w : Wanted) (fresh let_by : Known) → IsSite s → i < length s.position.now.children.items → c ≡ get_or s.position.now.children.items i c → AreRuns Q fresh → AreRuns N w → RunsGive Q let_by (λ t. pass (slice_index_or s.edges.now c.edge []) v.joins t (known_at fresh t)) → ((t : ℕ) → (known_at let_by t ≡ Q) ⊎ (wanted_at w t ≡ N)) → let_by ≡ forward (seen (net_of s.topo.now) v) s.publisher (get_or (children_of s.topo.now s.publisher s.broker) i 0) w fresh
forwarded_whole s v i c w fresh let_by is lt e a b g untouched =
    forwarded s v i c w fresh let_by let_by is lt e a b g (sent_whole w let_by (λ t. pass (slice_index_or s.edges.now c.edge []) v.joins t (known_at fresh t)) g untouched)

-- and so are its frames
pub sends_forwarded : (s : Site) (js : Joins) (i : ℕ) (c : Child) (sent new : Known) (before after : FrameList) → IsSite s → i < length s.position.now.children.items → c ≡ get_or s.position.now.children.items i c → sent ≡ new → AddsFrames (know_frames js s.broker c.number s.publisher sent) before after → AddsFrames (know_frames js s.broker (get_or (children_of s.topo.now s.publisher s.broker) i 0) s.publisher new) before after
sends_forwarded s js i c sent new before after is lt e same adds =
    subst (λ (fs : List Frame). AddsFrames fs before after)
    (ap₂ (λ n k. know_frames js s.broker n s.publisher k) (child_number s.topo.now s.broker s.publisher i s.edges.now s.position.now c is.branch lt e) same) adds

-- The runs of what is forwarded are canonical

-- what is new of a piece
pub new_runs : (know piece : Known) → AreRuns Q know → AreRuns Q piece → AreRuns Q (new_ticks know piece)
unfolding new_ticks
new_runs know piece a b = let z = zip_runs-is Q Q Q same_K K_decides new_K know piece refl a b in z.runs

-- and what of it is sent to a child
pub forward_runs : (net : Net) (p c : ℕ) (w : Wanted) (new : Known) → AreRuns Q new → AreRuns N w → AreRuns Q (forward net p c w new)
unfolding forward
forward_runs net p c w new a b =
    let k = passed-is net p c new a in
    let z = zip_runs-is Q N Q same_K K_decides (λ v x. if is_A x then Q else v) (passed net p c new) w refl k.runs b in
    z.runs

-- What the children want then

all_A_same : (ws us : List Wanted) (t : ℕ) → length us ≡ length ws → ((i : ℕ) → i < length ws → is_A (wanted_at (wants_of us i) t) ≡ is_A (wanted_at (wants_of ws i) t)) → all_A us t ≡ all_A ws t
all_A_same [] [] t e h = refl
all_A_same [] (u ∷ us) t e h = absurd (omega (arith, e))
all_A_same (w ∷ ws) [] t e h = absurd (omega (arith, e))
all_A_same (w ∷ ws) (u ∷ us) t e h = ap₂ (λ x y. x && y) (h 0 (omega arith)) (all_A_same ws us t (omega (arith, e)) (λ i lt. h (suc i) (omega (arith, lt))))

-- the pieces that are taken out tell what each child asked and is sent
-- the pieces that are taken out tell what each child asked and is sent
abbrev pub AreAnswered : Net → ℕ → Known → List ℕ → List Wanted → List Wanted → Type 0
AreAnswered net p new cs ws pieces = (i : ℕ) → i < length ws → RunsGive N (slice_index_or pieces i []) (λ t.
    if not (is_Q (known_at (forward net p (get_or cs i 0) (wants_of ws i) new) t)) && is_C (wanted_at (wants_of ws i) t) then C else N)

-- so the children want what the machine says
pub taken_forwarded : (net : Net) (p : ℕ) (new : Known) (cs : List ℕ) (ws pieces us : List Wanted) → length ws ≡ length cs → AreRuns Q new → AreAnswered net p new cs ws pieces → AreTaken ws pieces us → us ≡ forward_wants net p new cs ws
taken_forwarded net p new cs ws pieces us e a answered taken =
    ext_get_or [] us (forward_wants net p new cs ws) (taken.many ∙ sym (forward_wants-length net p new cs ws e)) (λ i lt.
    let inside : i < length ws = omega (arith, lt, taken.many) in
    quenched_is (wants_of ws i) (forward net p (get_or cs i 0) (wants_of ws i) new) (slice_index_or pieces i []) (wants_of us i)
    (taken.canonical i inside) (forward_runs net p (get_or cs i 0) (wants_of ws i) new a (taken.canonical i inside)) (answered i inside) (taken.each i inside)
    ∙ sym (forward_wants-at net p new cs ws i e inside))

-- and have acknowledged what they had
pub taken_acknowledged : (net : Net) (p : ℕ) (new : Known) (cs : List ℕ) (ws pieces us : List Wanted) → AreAnswered net p new cs ws pieces → AreTaken ws pieces us → (t : ℕ) → all_A us t ≡ all_A ws t
taken_acknowledged net p new cs ws pieces us answered taken t =
    all_A_same ws us t taken.many (λ i lt. quenched_stays (wants_of ws i) (slice_index_or pieces i []) (wants_of us i) (forward net p (get_or cs i 0) (wants_of ws i) new) t (answered i lt) (taken.each i lt))

-- One child more

-- what holds of each element of a list holds of one more
pub each_more : {X : Type 0} (P : ℕ → X → Type 0) (xs ys : List X) (y d : X) (n : ℕ) → ((k : ℕ) → get_or ys k d ≡ cond (nat_eq k n) y (get_or xs k d)) → ((i : ℕ) → i < n → P i (slice_index_or xs i d)) → P n y → (i : ℕ) → i < n + 1 → P i (slice_index_or ys i d)
each_more P xs ys y d n same before here i lt =
    elim (cases_lt i n) [
      | inl l ↦ subst (P i) (sym (same i ∙ ap (λ b. cond b y (get_or xs i d)) (ne_eqb i n (λ e. absurd (omega (arith, l, e)))))) (before i l)
      | inr g ↦
          let at : n ≡ i = omega (arith, g, lt) in
          subst (λ k. P k (get_or ys k d)) at (subst (P n) (sym (same n ∙ ap (λ b. cond b y (get_or xs n d)) (eq-eqb n n refl))) here)
    ]
