-- A start over logs that were found: each host with a subscriber has its horizon where its log is settled, and nothing else has happened
use Rattle.std.proofs.Common.{◌≡◌, ◌≢◌, inl, inr, ℕ, suc, ◌+◌, ◌≤◌, ◌<◌, Bool, true, false, ◌&&◌, List, [], ◌∷◌, ◌++◌, map, length, set, get_or, refl, sym, ap, ap₂, ◌∙◌, subst, None, Some, Option, arith, le_trans, le_antisymm, append_assoc, append-nil}
use Rattle.std.specs.Prelude.{nat_eq, nat_lt, ◌||◌, if◌then◌else◌, filter}
use Rattle.std.specs.List.{list_any}
use Rattle.std.proofs.lemmas.Bool.{le-ltb, cases_eq, eq-eqb, ne_eqb, lt-leb, false≢true, both_ways}
use Rattle.std.proofs.lemmas.List.{set-get_or}
use Rattle.std.proofs.lemmas.List.Elements.{filter-append}
use Rattle.gr_event.specs.declared.event.Event.{Event}
use Rattle.gr_know.specs.declared.values.K.TheVariants.{Q}
use Rattle.gr_curio.specs.declared.values.Q3.TheVariants.{N}
use Rattle.gr_frame.specs.declared.Body.TheVariants as body
use Rattle.gr_frame.specs.declared.Frame.{Frame}
use Rattle.gr_frame.specs.Bytes.{cut_frames}
use Rattle.gr_tick.specs.Runs.{AreRuns}
use Rattle.gr_tick.proofs.RunLaws.{runs_equal}
use Rattle.gr_know.specs.Values.{Known, known_at, is_Q}
use Rattle.gr_curio.specs.Values.{Wanted, wanted_at, is_A}
use Rattle.gr_model.specs.declared.report.Report.{Report}
use Rattle.gr_model.specs.declared.report.Report.TheVariants as line
use Rattle.gr_model.specs.Net.{all_late, Net, keeps_horizon, not_empty, is_empty, numbers}
use Rattle.gr_model.specs.Broker.{with_joins, drops, View, Log, Outcome, empty_log, head, learn, receive, new_ticks, forward, forward_frames, know_frames, started}
use Rattle.gr_model.specs.World.{World, Transition, blank_view, view_of, log_of, absorbed, unchanged, in_turn, sent_lines, deliver_frame_by}
use Rattle.gr_model_calls.specs.OneNet.{deliver_frame, opened_for}
use Rattle.gr_model.specs.Opening.{reopened_log, over_logs, reopened_line, opened_for_by}
use Rattle.gr_model_theorems.specs.Found.{IsReopened, AreReopened}
use Rattle.gr_model_calls.specs.Truth.{Holds, HasEvent, Facts, KnowsTruth, AllWantTruth}
use Rattle.gr_model_calls.specs.Said.{TicksRise, due_upto}
use Rattle.gr_model.specs.Tree.{IsNet, IsSubscriber}
use Rattle.gr_model_calls.specs.Fits.{facts, facts_of, reached_in, LogFits, ViewTrue, CutTrue, HostKnows, FrameTrue, AllFramesTrue, WorldFits, LinesFit}
use Rattle.gr_model.specs.Headline.{is_sent}
use Rattle.gr_model_calls.proofs.calls.CallTruth.{new_ticks-is, forward-is}
use Rattle.gr_model_calls.proofs.runs.Clash.{nothing_drops}
use Rattle.gr_model_calls.proofs.runs.Worlds.{Each, absorbed_changed, deliver_kept, silent_lines, reached_here}
use Rattle.gr_model_calls.proofs.runs.Schedules.{started_holds, get_numbers, length_numbers, started_true, started_known}
use Rattle.gr_model_calls.proofs.calls.Telling.{Neutral-nil, Silent}
use Rattle.gr_model_theorems.proofs.cuts.Cutlines.{CutFree, CutFree-append, learn_free, sent_free}
use Rattle.gr_model_calls.proofs.asks.AskMoments.{learn_asks, started_asks}
use Rattle.gr_model_theorems.proofs.hosts.BareHosts.{started_horizon}
use Rattle.gr_model_theorems.proofs.heard.Heard.{HeardFits}
use Rattle.gr_model_theorems.proofs.heard.HeardCalls.{HeardsFit, deliver_heard, started_heard}
use Rattle.gr_model_theorems.proofs.sweep.FirstUnknown.{UnknownIn, by_any, started_unknown, unknown_calls}
use Rattle.gr_model_theorems.proofs.sweep.SweepStates.{Unknowns}
use Rattle.gr_model_theorems.proofs.records.Records.{deliver_clock, deliver_most}
use Rattle.gr_model_theorems.proofs.records.RecordLines.{deliver_sends}
use Rattle.gr_model_theorems.proofs.records.NamedLines.{Named, Named-append, Named-map, deliver_named}
use Rattle.gr_model_theorems.proofs.headline.SoFar.{Any}
use Rattle.gr_event.specs.Joins.{Joins, longer}
use Rattle.gr_model_theorems.proofs.hosts.HostHorizon.{learn_reaches}

-- A host learns nothing new

-- a frame without runs
abbrev pub nothing : Net → ℕ → Frame
nothing net p = record { head = head (net.host p) (net.host p) p; body = body.Knowledge [] [] }

no_runs_true : (net : Net) (f : Facts) (p b : ℕ) → KnowsTruth net f p b []
no_runs_true net f p b = record { runs = tt; each = λ t. tt }

-- no runs have an event, so they need no joins
nothing_held : (now : Joins) → Holds now [] (HasEvent [])
nothing_held now = record { rest = now; front = refl; above = λ t x. cc x.1 }

-- a frame without runs is true wherever it comes
pub nothing_is_true : (net : Net) (w : World) (p : ℕ) → IsNet net → p < net.publishers → FrameTrue net w (nothing net p)
nothing_is_true net w p n j = record { publisher_in = j; fits = record { publisher = refl; to_in = n.host_in p j; body = tt }; told = (no_runs_true net (facts_of net w p) p (net.host p), nothing_held (log_of w p).joins) }

-- what the host leaves and tells where it learns nothing new
abbrev pub learns : Net → World → ℕ → Outcome
learns net w p = learn net p (net.host p) [] (view_of w (net.host p) p) (log_of w p)

-- no list is shorter than none
pub longer_none : (js : Joins) → longer js [] ≡ js
longer_none js = ap (λ q. if q then [] else js) (le-ltb (length js) 0 (omega arith))

-- delivering a frame without runs to the host makes it learn nothing new, and nothing else
pub delivered_nothing : (net : Net) (w : World) (p : ℕ) → IsNet net → WorldFits net w → p < net.publishers → deliver_frame net w (nothing net p) ≡ absorbed w (net.host p) p (learns net w p)
unfolding deliver_frame_by receive
delivered_nothing net w p n f j = go (drops v [] []) refl ∙ ap (λ (js : Joins). absorbed w b p (learn net p b [] (with_joins v js) (log_of w p))) (longer_none v.joins)
  where
    b : ℕ
    b = net.host p

    v : View
    v = view_of w b p

    u : View
    u = with_joins v (longer v.joins [])

    go : (q : Bool) → drops v [] [] ≡ q → absorbed w b p (elim q [ true ↦ record { view = v; log = log_of w p; lines = []; frames = [] } | false ↦ learn net p b [] u (log_of w p) ]) ≡ absorbed w b p (learn net p b [] u (log_of w p))
    go true e = let h = f.views p b j (n.host_in p j) in absurd (false≢true (sym (nothing_drops net (facts_of net w p) p b v [] [] h.know h.held (no_runs_true net (facts_of net w p) p b) (nothing_held (log_of w p).joins)) ∙ e))
    go false e = refl

both_Q : (c : Bool) → (if c then Q else Q) ≡ Q
both_Q true = refl
both_Q false = refl

nothing_new : (know : Known) → AreRuns Q know → new_ticks know [] ≡ []
nothing_new know r = let n = new_ticks-is know [] r tt in runs_equal Q 1 1 (new_ticks know []) [] n.runs tt (λ t. n.same_at t ∙ both_Q (is_Q (known_at know t)))

nothing_forward : (net : Net) (p c : ℕ) (w : Wanted) → AreRuns N w → forward net p c w [] ≡ []
nothing_forward net p c w r = let n = forward-is net p c w [] r tt in runs_equal Q 1 1 (forward net p c w []) [] n.runs tt (λ t. n.same_at t ∙ both_Q (is_A (wanted_at w t)))

no_frames : (js : Joins) (net : Net) (f : Facts) (p b : ℕ) (cs : List ℕ) (ws : List Wanted) → AllWantTruth net f p cs ws → forward_frames js net p b [] cs ws ≡ []
unfolding cut_frames
no_frames js net f p b [] ws a = refl
no_frames js net f p b (c ∷ cs) [] a = refl
no_frames js net f p b (c ∷ cs) (w ∷ ws) a = ap₂ (λ (x : Known) (y : List Frame). know_frames js b c p x ++ y) (nothing_forward net p c w a.0.runs) (no_frames js net f p b cs ws a.1)

-- a host that learns nothing new sends nothing
pub learns_silently : (net : Net) (w : World) (p : ℕ) → IsNet net → WorldFits net w → p < net.publishers → (learns net w p).frames ≡ []
unfolding learn
learns_silently net w p n f j =
    let v = view_of w (net.host p) p in
    let t = f.views p (net.host p) j (n.host_in p j) in
    ap (λ (x : Known). forward_frames v.joins net p (net.host p) x (net.children p (net.host p)) v.wants) (nothing_new v.know t.know.runs) ∙ no_frames v.joins net (facts_of net w p) p (net.host p) (net.children p (net.host p)) v.wants t.wants

learns_log : (net : Net) (w : World) (p : ℕ) → (learns net w p).log ≡ log_of w p
unfolding learn
learns_log net w p = refl

delivered_logs : (net : Net) (w : World) (p : ℕ) → IsNet net → WorldFits net w → p < net.publishers → (deliver_frame net w (nothing net p)).world.logs ≡ w.logs
unfolding absorbed
delivered_logs net w p n f j = ap (λ (t : Transition). t.world.logs) (delivered_nothing net w p n f j) ∙ (ap (set w.logs p) (learns_log net w p) ∙ set-get_or w.logs p empty_log)

delivered_frames : (net : Net) (w : World) (p : ℕ) → IsNet net → WorldFits net w → p < net.publishers → (deliver_frame net w (nothing net p)).world.frames ≡ w.frames
unfolding absorbed
delivered_frames net w p n f j = ap (λ (t : Transition). t.world.frames) (delivered_nothing net w p n f j) ∙ (ap (λ (z : List Frame). w.frames ++ z) (learns_silently net w p n f j) ∙ append-nil w.frames)

delivered_free : (net : Net) (w : World) (p q : ℕ) → IsNet net → WorldFits net w → p < net.publishers → CutFree q (deliver_frame net w (nothing net p)).lines
unfolding absorbed
delivered_free net w p q n f j =
    let o = learns net w p in
    subst (λ (t : Transition). CutFree q t.lines) (sym (delivered_nothing net w p n f j)) (CutFree-append q o.lines (sent_lines (suc (length w.frames)) o.frames) (learn_free net p (net.host p) q [] (view_of w (net.host p) p) (log_of w p)) (sent_free q (suc (length w.frames)) o.frames))

-- Along the opening

-- what holds after the publishers so far; the lines are those told so far
pub record Opening (net : Net) (logs : List Log) (w : World) (ls : List Report) : Type 0 where
  pub fits : WorldFits net w
  pub lines : LinesFit net w ls
  pub free : (q : ℕ) → CutFree q ls
  pub logs_are : w.logs ≡ map (reopened_log logs) (numbers net.publishers)
  pub frames : w.frames ≡ []
  pub clock : w.clock ≡ 0
  pub most : w.most ≡ 0
  pub asks : (b p : ℕ) → b < net.brokers → p < net.publishers → (view_of w b p).asks ≡ []
  pub unknown : Unknowns net w
  pub heard : HeardsFit net w (λ b p t. false)
  pub unsent : filter is_sent ls ≡ []
  pub named : Named net Any ls
  pub unlogged : (p : ℕ) → p < net.publishers → not_empty (net.subscribers_at (net.host p)) ≡ false → (view_of w (net.host p) p).horizon ≡ 0

-- more lines that say nothing of events, horizons, cuts and frames
opening_on : (net : Net) (logs : List Log) (w : World) (ls more : List Report) → Silent more → ((q : ℕ) → CutFree q more) → filter is_sent more ≡ [] → Named net Any more → Opening net logs w ls → Opening net logs w (ls ++ more)
opening_on net logs w ls more silent free unsent named o = record {
  fits = o.fits;
  lines = silent_lines net w ls more silent o.lines;
  free = λ q. CutFree-append q ls more (o.free q) (free q);
  logs_are = o.logs_are;
  frames = o.frames;
  clock = o.clock;
  most = o.most;
  asks = o.asks;
  unknown = o.unknown;
  heard = o.heard;
  unsent = filter-append is_sent ls more ∙ ap₂ (λ (x y : List Report). x ++ y) o.unsent unsent;
  named = Named-append net Any ls more o.named named;
  unlogged = o.unlogged;
}

none_left : (xs ys : List Frame) → xs ≡ [] → xs ++ ys ≡ [] → ys ≡ []
none_left xs ys e f = ap (λ (z : List Frame). z ++ ys) (sym e) ∙ f

opening_learns : (net : Net) (logs : List Log) (w : World) (ls : List Report) (p : ℕ) → IsNet net → p < net.publishers → not_empty (net.subscribers_at (net.host p)) ≡ true → Opening net logs w ls → Opening net logs (deliver_frame net w (nothing net p)).world (ls ++ (deliver_frame net w (nothing net p)).lines)
opening_learns net logs w ls p n j some o =
    let x = nothing net p in
    let f = o.fits in
    let tr = nothing_is_true net w p n j in
    let t = deliver_frame net w x in
    let k = deliver_kept net w x n f tr in
    let s = deliver_sends net w x in
    let same : t.world.frames ≡ w.frames = delivered_frames net w p n f j in
    let none : s.more ≡ [] = none_left w.frames s.more o.frames (sym s.frames ∙ (same ∙ o.frames)) in
    let c = absorbed_changed net w (net.host p) p (learns net w p) f (n.host_in p j) j in
    let is = delivered_nothing net w p n f j in
    record {
      fits = k.fits;
      lines = k.lines ls o.lines;
      free = λ q. CutFree-append q ls t.lines (o.free q) (delivered_free net w p q n f j);
      logs_are = delivered_logs net w p n f j ∙ o.logs_are;
      frames = same ∙ o.frames;
      clock = deliver_clock net w x ∙ o.clock;
      most = deliver_most net w x ∙ o.most;
      asks = λ b q i y. subst (λ (u : Transition). (view_of u.world b q).asks ≡ []) (sym is) (elim (cases_eq q p) [
        | inr e ↦ ap (λ v. v.asks) (c.other_publisher b q e) ∙ o.asks b q i y
        | inl e ↦ elim (cases_eq b (net.host p)) [
          | inr g ↦ ap (λ v. v.asks) (c.other_broker b q g) ∙ o.asks b q i y
          | inl g ↦ ap₂ (λ a d. (view_of (absorbed w (net.host p) p (learns net w p)).world a d).asks) g e ∙ (ap (λ v. v.asks) c.view ∙ (learn_asks net p (net.host p) w.clock [] (view_of w (net.host p) p) (log_of w p)).host (eq-eqb (net.host p) (net.host p) refl) (o.asks (net.host p) p (n.host_in p j) j))
        ]
      ]);
      unknown = (unknown_calls net n).delivered w x f tr tt o.unknown;
      heard = deliver_heard net w x (λ b q t. false) (λ b q t. false) n f tr (λ t. refl) (λ b q t h. refl) o.heard;
      unsent = filter-append is_sent ls t.lines ∙ ap₂ (λ (x y : List Report). x ++ y) o.unsent (s.told ∙ ap (sent_lines (suc (length w.frames))) none);
      named = Named-append net Any ls t.lines o.named (Named-map net _ Any t.lines (λ b q u e. tt) (deliver_named net w x n (n.host_in p j) j));
      unlogged = λ q y e. subst (λ (u : Transition). (view_of u.world (net.host q) q).horizon ≡ 0) (sym is) (elim (cases_eq q p) [
        | inl g ↦ absurd (both_ways (not_empty (net.subscribers_at (net.host p))) (subst (λ z. not_empty (net.subscribers_at (net.host z)) ≡ false) g e) some)
        | inr g ↦ ap (λ v. v.horizon) (c.other_publisher (net.host q) q g) ∙ o.unlogged q y e
      ]);
    }

-- the line of a reopened log delivers nothing, cuts nothing and is no sent line
pub found_line_says : (c : Bool) (p last settled cut : ℕ) → (let ls : List Report = if c then line.Opened p last settled cut ∷ [] else [] in Silent ls × ((q : ℕ) → CutFree q ls) × (filter is_sent ls ≡ []))
found_line_says true p last settled cut = (λ s q. record { got = refl; horizon = λ n. refl; steady = λ n. refl }, λ q. tt, refl)
found_line_says false p last settled cut = (λ s q. Neutral-nil s q, λ q. tt, refl)

found_line_named : (net : Net) (c : Bool) (p last settled cut : ℕ) → (let ls : List Report = if c then line.Opened p last settled cut ∷ [] else [] in Named net Any ls)
found_line_named net true p last settled cut = tt
found_line_named net false p last settled cut = tt

-- one publisher more
pub opening_turn : (net : Net) (logs : List Log) (w : World) (ls : List Report) (p : ℕ) → IsNet net → p < net.publishers → Opening net logs w ls → Opening net logs (opened_for net w p).world (ls ++ (opened_for net w p).lines)
unfolding opened_for_by
opening_turn net logs w ls p n j o = go (not_empty (net.subscribers_at (net.host p))) refl
  where
    front : List Report
    front = reopened_line (log_of w p) p

    begun : Opening net logs w (ls ++ front)
    begun =
        let l : Log = log_of w p in
        let s = found_line_says (nat_lt 0 l.settled) p l.last l.settled l.cut in
        opening_on net logs w ls front s.0 s.1 s.2 (found_line_named net (nat_lt 0 l.settled) p l.last l.settled l.cut) o

    go : (q : Bool) → not_empty (net.subscribers_at (net.host p)) ≡ q → (let t : Transition = elim q [ true ↦ absorbed w (net.host p) p (learns net w p) | false ↦ unchanged w [] ] in Opening net logs t.world (ls ++ (front ++ t.lines)))
    go true e =
        subst (λ (t : Transition). Opening net logs t.world (ls ++ (front ++ t.lines))) (delivered_nothing net w p n o.fits j)
        (subst (λ (z : List Report). Opening net logs (deliver_frame net w (nothing net p)).world z) (append_assoc ls front (deliver_frame net w (nothing net p)).lines) (opening_learns net logs w (ls ++ front) p n j e begun))
    go false e = subst (λ (z : List Report). Opening net logs w (ls ++ z)) (sym (append-nil front)) begun

-- what holds of the opening so far holds after the turns of more publishers
pub opening_turns : (net : Net) (logs : List Log) (w : World) (ls : List Report) (ps : List ℕ) → IsNet net → Each (λ p. p < net.publishers) ps → Opening net logs w ls → Opening net logs (in_turn (opened_for net) ps w).world (ls ++ (in_turn (opened_for net) ps w).lines)
opening_turns net logs w ls [] n a o = subst (λ (z : List Report). Opening net logs w z) (sym (append-nil ls)) o
opening_turns net logs w ls (p ∷ ps) n a o =
    let t = opened_for net w p in
    subst (λ (z : List Report). Opening net logs (in_turn (opened_for net) ps t.world).world z) (append_assoc ls t.lines (in_turn (opened_for net) ps t.world).lines)
    (opening_turns net logs t.world (ls ++ t.lines) ps n a.1 (opening_turn net logs w ls p n a.0 o))

-- Horizons of hosts

-- the horizon of a publisher's host is where its log is settled
abbrev pub MeetsAt : Net → World → ℕ → Type 0
MeetsAt net w q = (view_of w (net.host q) q).horizon ≡ (log_of w q).settled

-- a host with subscribers that has had its turn has its horizon where its log is settled
pub learned_meets : (net : Net) (w : World) (p : ℕ) → IsNet net → WorldFits net w → p < net.publishers → not_empty (net.subscribers_at (net.host p)) ≡ true → MeetsAt net (absorbed w (net.host p) p (learns net w p)).world p
learned_meets net w p n f j some =
    let b = net.host p in
    let i = n.host_in p j in
    let u = (absorbed w b p (learns net w p)).world in
    let c = absorbed_changed net w b p (learns net w p) f i j in
    let g : WorldFits net u = subst (λ (t : Transition). WorldFits net t.world) (delivered_nothing net w p n f j) (deliver_kept net w (nothing net p) n f (nothing_is_true net w p n j)).fits in
    let t = f.views p b j i in
    let known : HostKnows (learns net w p).view (log_of u p).settled = subst (λ v. HostKnows v (log_of u p).settled) c.view (g.known p j) in
    let keeps : keeps_horizon net p b ≡ true = ap (λ q. q || is_empty (net.children p b)) some in
    let far : (log_of u p).settled ≤ (learns net w p).view.horizon = learn_reaches net p b (log_of u p).settled [] (view_of w b p) (log_of w p) (log_of w p) (reached_in net w p) n j i keeps t (no_runs_true net (facts_of net w p) p b) known in
    le_antisymm (g.views p b j i).horizon.settled (subst (λ v. (log_of u p).settled ≤ v.horizon) (sym c.view) far)

turn_meets : (net : Net) (w : World) (p : ℕ) → IsNet net → WorldFits net w → p < net.publishers → not_empty (net.subscribers_at (net.host p)) ≡ true → MeetsAt net (opened_for net w p).world p
unfolding opened_for_by
turn_meets net w p n f j some = go (not_empty (net.subscribers_at (net.host p))) some
  where
    go : (q : Bool) → q ≡ true → (let t : Transition = elim q [ true ↦ absorbed w (net.host p) p (learns net w p) | false ↦ unchanged w [] ] in MeetsAt net t.world p)
    go true e = learned_meets net w p n f j some
    go false e = absurd (false≢true e)

turn_stays : (net : Net) (w : World) (p q : ℕ) → IsNet net → WorldFits net w → p < net.publishers → q ≢ p → MeetsAt net w q → MeetsAt net (opened_for net w p).world q
unfolding opened_for_by
turn_stays net w p q n f j e m = go (not_empty (net.subscribers_at (net.host p)))
  where
    go : (c : Bool) → (let t : Transition = elim c [ true ↦ absorbed w (net.host p) p (learns net w p) | false ↦ unchanged w [] ] in MeetsAt net t.world q)
    go true = let c = absorbed_changed net w (net.host p) p (learns net w p) f (n.host_in p j) j in ap (λ v. v.horizon) (c.other_publisher (net.host q) q e) ∙ (m ∙ ap (λ l. l.settled) (sym (c.other_log q e)))
    go false = m

turns_stay : (net : Net) (logs : List Log) (w : World) (ls : List Report) (ps : List ℕ) (q : ℕ) → IsNet net → Each (λ p. p < net.publishers) ps → Opening net logs w ls → not_empty (net.subscribers_at (net.host q)) ≡ true → MeetsAt net w q → MeetsAt net (in_turn (opened_for net) ps w).world q
turns_stay net logs w ls [] q n a o some m = m
turns_stay net logs w ls (p ∷ ps) q n a o some m =
    let t = opened_for net w p in
    turns_stay net logs t.world (ls ++ t.lines) ps q n a.1 (opening_turn net logs w ls p n a.0 o) some (elim (cases_eq q p) [
      | inl e ↦ subst (λ z. MeetsAt net t.world z) (sym e) (turn_meets net w p n o.fits a.0 (subst (λ z. not_empty (net.subscribers_at (net.host z)) ≡ true) e some))
      | inr e ↦ turn_stays net w p q n o.fits a.0 e m
    ])

-- a publisher that has its turn
abbrev pub Stands_in : ℕ → List ℕ → Type 0
Stands_in q ps = list_any (λ p. nat_eq p q) ps ≡ true

-- after the turns of some publishers, each of their hosts with subscribers has its horizon where its log is settled
pub turns_meet : (net : Net) (logs : List Log) (w : World) (ls : List Report) (ps : List ℕ) (q : ℕ) → IsNet net → Each (λ p. p < net.publishers) ps → Opening net logs w ls → not_empty (net.subscribers_at (net.host q)) ≡ true → Stands_in q ps → MeetsAt net (in_turn (opened_for net) ps w).world q
turns_meet net logs w ls [] q n a o some m = absurd (false≢true m)
turns_meet net logs w ls (p ∷ ps) q n a o some m =
    let t = opened_for net w p in
    let next = opening_turn net logs w ls p n a.0 o in
    elim (cases_eq p q) [
      | inl e ↦ turns_stay net logs t.world (ls ++ t.lines) ps q n a.1 next some (subst (λ z. MeetsAt net t.world z) e (turn_meets net w p n o.fits a.0 (subst (λ z. not_empty (net.subscribers_at (net.host z)) ≡ true) (sym e) some)))
      | inr e ↦ turns_meet net logs t.world (ls ++ t.lines) ps q n a.1 next some (later p q (list_any (λ x. nat_eq x q) ps) e m)
    ]
  where
    later : (p q : ℕ) (c : Bool) → p ≢ q → (nat_eq p q || c) ≡ true → c ≡ true
    later p q c e h = ap (λ x. x || c) (sym (ne_eqb p q e)) ∙ h

-- Before the first publisher

-- before its turn each broker is as it starts from its reopened log
pub over_view : (net : Net) (logs : List Log) (b p : ℕ) → b < net.brokers → p < net.publishers → view_of (over_logs net logs) b p ≡ started net p b (reopened_log logs p)
unfolding over_logs
over_view net logs b p i j =
    let g : ℕ → ℕ → View = λ c q. started net q c (reopened_log logs q) in
    ap (λ row. get_or row p blank_view) (get_numbers (λ c. map (g c) (numbers net.publishers)) 0 net.brokers b [] i)
    ∙ (get_numbers (g (0 + b)) 0 net.publishers p blank_view j ∙ ap₂ g (omega arith) (omega arith))

over_log : (net : Net) (logs : List Log) (p : ℕ) → p < net.publishers → log_of (over_logs net logs) p ≡ reopened_log logs p
unfolding over_logs
over_log net logs p j = get_numbers (reopened_log logs) 0 net.publishers p empty_log j ∙ ap (reopened_log logs) (omega arith)

record Shape (net : Net) (w : World) : Type 0 where
  views_long : length w.views ≡ net.brokers
  rows_long : (b : ℕ) → b < net.brokers → length (get_or w.views b []) ≡ net.publishers
  logs_long : length w.logs ≡ net.publishers
  frames : w.frames ≡ []
  clock : w.clock ≡ 0
  most : w.most ≡ 0

over_shape : (net : Net) (logs : List Log) → Shape net (over_logs net logs)
unfolding over_logs
over_shape net logs =
    let g : ℕ → ℕ → View = λ c p. started net p c (reopened_log logs p) in
    record {
      views_long = length_numbers (λ c. map (g c) (numbers net.publishers)) 0 net.brokers;
      rows_long = λ b i. ap length (get_numbers (λ c. map (g c) (numbers net.publishers)) 0 net.brokers b [] i) ∙ length_numbers (g (0 + b)) 0 net.publishers;
      logs_long = length_numbers (reopened_log logs) 0 net.publishers;
      frames = refl;
      clock = refl;
      most = refl;
    }

-- up to the cut no event is there, so all of it is final
found_cut : (net : Net) (log : Log) (reached : ℕ → ℕ) (p b : ℕ) → IsReopened net log → CutTrue net (facts log reached) p b log.cut
found_cut net log reached p b f t y z = record {
  settled = le_trans z f.fits.cut;
  told = λ s m c. absurd (false≢true (sym (ap (λ (o : Option Event). elim o [ None ↦ false | Some e ↦ net.wants p s t e ]) (f.past_cut t z)) ∙ c));
}

over_fits : (net : Net) (logs : List Log) → IsNet net → AreReopened net logs → WorldFits net (over_logs net logs)
over_fits net logs n a =
    let w = over_logs net logs in
    let s = over_shape net logs in
    let cut_at : (q b : ℕ) → q < net.publishers → CutTrue net (facts_of net w q) q b (log_of w q).cut = λ q b x. subst (λ l. CutTrue net (facts l (reached_in net w q)) q b l.cut) (sym (over_log net logs q x)) (found_cut net (reopened_log logs q) (reached_in net w q) q b (a q)) in
    record {
      views_long = s.views_long;
      rows_long = s.rows_long;
      logs_long = s.logs_long;
      views = λ q b x y. subst (λ v. ViewTrue net (facts_of net w q) q b v) (sym (over_view net logs b q y x ∙ ap (started net q b) (sym (over_log net logs q x)))) (started_true net (log_of w q) (reached_in net w q) q b (λ h. cut_at q b x));
      logs = λ q x. subst LogFits (sym (over_log net logs q x)) (a q).fits;
      late = λ q x. subst (λ l. all_late net l.joins ≡ true) (sym (over_log net logs q x)) (a q).late;
      hosts = λ q x. ap (λ v. v.joins) (over_view net logs (net.host q) q (n.host_in q x) x) ∙ (started_holds net (reopened_log logs q) q (net.host q) (eq-eqb (net.host q) (net.host q) refl) ∙ ap (λ l. l.joins) (sym (over_log net logs q x)));
      known = λ q x. subst (λ m. HostKnows (view_of w (net.host q) q) m.settled) (sym (over_log net logs q x)) (subst (λ v. HostKnows v (reopened_log logs q).settled) (sym (over_view net logs (net.host q) q (n.host_in q x) x)) (started_known net (reopened_log logs q) q (net.host q) (eq-eqb (net.host q) (net.host q) refl)));
      cuts = λ q x. cut_at q (net.host q) x;
      frames = subst (λ z. AllFramesTrue net w z) (sym s.frames) tt;
    }

nothing_due : (net : Net) (p s from : ℕ) (events : List (ℕ × Event)) → TicksRise from events → due_upto net p s 0 events ≡ []
nothing_due net p s from [] r = refl
nothing_due net p s from (x ∷ xs) r = ap (λ c. if c && net.wants p s x.0 x.1 then x ∷ due_upto net p s 0 xs else due_upto net p s 0 xs) (lt-leb x.0 0 (omega (arith, r.0))) ∙ nothing_due net p s x.0 xs r.1

over_reached : (net : Net) (logs : List Log) (p s : ℕ) → p < net.publishers → IsSubscriber net s → reached_in net (over_logs net logs) p s ≡ 0
unfolding started
over_reached net logs p s j y = reached_here net (over_logs net logs) p s y ∙ ap (λ v. v.horizon) (over_view net logs (net.at s) p y.at_in j)

over_lines : (net : Net) (logs : List Log) → AreReopened net logs → LinesFit net (over_logs net logs) []
over_lines net logs a = record {
  got = λ p s j y. sym (ap₂ (λ h l. due_upto net p s h l.events) (over_reached net logs p s j y) (over_log net logs p j) ∙ nothing_due net p s 0 (reopened_log logs p).events (a p).fits.rise);
  horizon = λ p s j y. sym (over_reached net logs p s j y);
  steady = λ p s j y. refl;
  nothing = λ p s n j. refl;
}

logs_are : (net : Net) (logs : List Log) → (over_logs net logs).logs ≡ map (reopened_log logs) (numbers net.publishers)
unfolding over_logs
logs_are net logs = refl

-- before the first turn nothing was told, and nothing has happened
pub over_opening : (net : Net) (logs : List Log) → IsNet net → AreReopened net logs → Opening net logs (over_logs net logs) []
over_opening net logs n a =
    let w = over_logs net logs in
    let s = over_shape net logs in
    let f = over_fits net logs n a in
    record {
      fits = f;
      lines = over_lines net logs a;
      free = λ q. tt;
      logs_are = logs_are net logs;
      frames = s.frames;
      clock = s.clock;
      most = s.most;
      asks = λ b p i j. ap (λ v. v.asks) (over_view net logs b p i j) ∙ started_asks net p b (reopened_log logs p);
      unknown = by_any net w (λ p b j i. subst UnknownIn (sym (over_view net logs b p i j)) (started_unknown net p b (reopened_log logs p)));
      heard = λ b p i j host keeps. subst (λ v. HeardFits v (λ t. false)) (sym (over_view net logs b p i j)) (started_heard net p b (reopened_log logs p) (λ t. false) host (λ t. refl));
      unsent = refl;
      named = tt;
      unlogged = λ p j e. ap (λ v. v.horizon) (over_view net logs (net.host p) p (n.host_in p j) j) ∙ started_horizon net p (net.host p) (reopened_log logs p);
    }

-- the logs are those that were found
pub opened_logs : (net : Net) (logs : List Log) (w : World) (ls : List Report) (q : ℕ) → q < net.publishers → Opening net logs w ls → log_of w q ≡ reopened_log logs q
opened_logs net logs w ls q j o = ap (λ (z : List Log). get_or z q empty_log) o.logs_are ∙ (get_numbers (reopened_log logs) 0 net.publishers q empty_log j ∙ ap (reopened_log logs) (omega arith))
