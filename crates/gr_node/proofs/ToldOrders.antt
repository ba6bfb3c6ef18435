-- What acts tell, with the lines of one order: behind the lines of each step of what is served stands what is ready in one order then,
-- since that is told once behind the starts and once behind each arrival
use Rattle.std.proofs.Common.{◌≡◌, ◌⊎◌, inl, inr, ℕ, Bool, true, false, List, [], ◌∷◌, ◌++◌, map, Option, Some, None, Result, Ok, Err, refl, sym, ap, ap₂, ◌∙◌, append-nil, append_assoc}
use Rattle.std.specs.Prelude.{if◌then◌else◌}
use Rattle.std.specs.List.{AllByRecursion}
use Rattle.std.proofs.lemmas.Bool.{cases_Bool}
use Rattle.gr_frame.specs.Decode.{frame_decoded}
use Rattle.gr_note.specs.declared.note.Note.{Note}
use Rattle.gr_note.specs.declared.fault.NoteFault.{NoteFault}
use Rattle.gr_note.specs.Bytes.{begins_note}
use Rattle.gr_note.specs.Decode.{note_decoded}
use Rattle.gr_out.specs.Journal.{is_among}
use Rattle.gr_sched.specs.declared.step.Line.{Line}
use Rattle.gr_topo.specs.Topology.{TopologyView}
use Rattle.gr_model.specs.declared.report.Report.{Report}
use Rattle.gr_model.specs.Net.{Net}
use Rattle.gr_model.specs.NetOf.{net_of}
use Rattle.gr_model.specs.Broker.{Log}
use Rattle.gr_model.specs.World.{World, Transition, unchanged, in_turn}
use Rattle.gr_model.specs.Opening.{over_logs, opening}
use Rattle.gr_model.specs.Arrivals.{Arrival, datagram, quiet, Publish, Request, requests_of, left_after, publisher_of, submitted_in, comes, show_hosted, served_from, served_from_by, served, served_by}
use Rattle.gr_model.specs.Orders.{Order, fed, ordered, without_ordered, with_orders}
use Rattle.gr_model_theorems.specs.Served.{joined}
use Rattle.gr_node.specs.Plan.{Call, gets, Act, binds, starts, arrives, calls, answers, drops, settles, closes, shows, is_ours, ours, quiet_calls, submit_acts, note_acts, datagram_acts, acts_of, arrival_acts, acts_from, closing, run_acts, nodes, plan, act, told_by, heard_by, told_by_acts}
use Rattle.gr_model_theorems.proofs.order.Unheard.{fed_nothing, fed_unheard, fed_append, shown_unheard, rested_ready}
use Rattle.gr_node.proofs.Acting.{all_append}
use Rattle.gr_node.proofs.Planned.{calls_are, no_calls, arrival_is, passed_over, none_taken, ours_more, ours_same, begun_as}

-- Acts, and then others

-- what is heard in one order when acts were made
unfoldable pub heard_by_acts : Net → List ℕ → World → List Order → List Act → List Order
heard_by_acts net hosted w os [] = os
heard_by_acts net hosted w os (a ∷ acts) =
    let u : Transition = act net hosted w a in heard_by_acts net hosted u.world (heard_by net hosted w os a) acts

pub told_append : (net : Net) (hosted : List ℕ) (w : World) (os : List Order) (xs ys : List Act)
    → told_by_acts net hosted w os (xs ++ ys)
    ≡ told_by_acts net hosted w os xs ++ (let u : Transition = in_turn (act net hosted) xs w in told_by_acts net hosted u.world (heard_by_acts net hosted w os xs) ys)
unfolding told_by_acts heard_by_acts
told_append net hosted w os [] ys = refl
told_append net hosted w os (a ∷ xs) ys =
    let s : Transition = act net hosted w a in
    let u : Transition = in_turn (act net hosted) xs s.world in
    let next : List Order = heard_by net hosted w os a in
    ap (λ (ls : List Report). told_by net hosted w os a ++ ls) (told_append net hosted s.world next xs ys)
    ∙ sym (append_assoc (told_by net hosted w os a) (told_by_acts net hosted s.world next xs) (told_by_acts net hosted u.world (heard_by_acts net hosted s.world next xs) ys))

-- Acts that tell the machine's lines and no others

abbrev pub IsPlain : Act → Type 0
IsPlain settles = ⊥
IsPlain _ = Unit {0}

abbrev pub ArePlain : List Act → Type 0
ArePlain acts = AllByRecursion IsPlain acts

plain_told : (net : Net) (hosted : List ℕ) (w : World) (os : List Order) (a : Act) → IsPlain a
    → told_by net hosted w os a ≡ (let u : Transition = act net hosted w a in u.lines)
plain_told net hosted w os (binds b) h = refl
plain_told net hosted w os (starts b) h = refl
plain_told net hosted w os (arrives a) h = refl
plain_told net hosted w os (calls c) h = refl
plain_told net hosted w os (answers x) h = refl
plain_told net hosted w os (drops l) h = refl
plain_told net hosted w os settles h = absurd h
plain_told net hosted w os closes h = refl
plain_told net hosted w os shows h = refl

plain_heard : (net : Net) (hosted : List ℕ) (w : World) (os : List Order) (a : Act) → IsPlain a
    → heard_by net hosted w os a ≡ (let u : Transition = act net hosted w a in fed os u.lines)
plain_heard net hosted w os (binds b) h = refl
plain_heard net hosted w os (starts b) h = refl
plain_heard net hosted w os (arrives a) h = refl
plain_heard net hosted w os (calls c) h = refl
plain_heard net hosted w os (answers x) h = refl
plain_heard net hosted w os (drops l) h = refl
plain_heard net hosted w os settles h = absurd h
plain_heard net hosted w os closes h = refl
plain_heard net hosted w os shows h = refl

-- what they tell, and what is heard then
pub lines_told : (net : Net) (hosted : List ℕ) (w : World) (os : List Order) (acts : List Act) → ArePlain acts
    → told_by_acts net hosted w os acts ≡ (in_turn (act net hosted) acts w).lines
unfolding told_by_acts
lines_told net hosted w os [] h = refl
lines_told net hosted w os (a ∷ acts) h =
    let u : Transition = act net hosted w a in
    ap₂ (λ (xs ys : List Report). xs ++ ys) (plain_told net hosted w os a h.0) (lines_told net hosted u.world (heard_by net hosted w os a) acts h.1)

pub lines_heard : (net : Net) (hosted : List ℕ) (w : World) (os : List Order) (acts : List Act) → ArePlain acts
    → heard_by_acts net hosted w os acts ≡ fed os (in_turn (act net hosted) acts w).lines
unfolding heard_by_acts
lines_heard net hosted w os [] h = sym (fed_nothing os)
lines_heard net hosted w os (a ∷ acts) h =
    let u : Transition = act net hosted w a in
    let v : Transition = in_turn (act net hosted) acts u.world in
    lines_heard net hosted u.world (heard_by net hosted w os a) acts h.1
    ∙ (ap (λ (xs : List Order). fed xs v.lines) (plain_heard net hosted w os a h.0) ∙ sym (fed_append os u.lines v.lines))

-- Which are such

pub plain_append : (xs ys : List Act) → ArePlain xs → ArePlain ys → ArePlain (xs ++ ys)
plain_append xs ys h k = all_append IsPlain xs ys h k

pub plain_binds : (ks : List ℕ) → ArePlain (map binds ks)
plain_binds [] = tt
plain_binds (k ∷ ks) = (tt, plain_binds ks)

pub plain_starts : (bs : List ℕ) → ArePlain (map starts bs)
plain_starts [] = tt
plain_starts (b ∷ bs) = (tt, plain_starts bs)

plain_calls : (cs : List Call) → ArePlain (map calls cs)
plain_calls [] = tt
plain_calls (c ∷ cs) = (tt, plain_calls cs)

plain_submits : (b p : ℕ) (o : Option Publish) → ArePlain (submit_acts b p o)
plain_submits b p None = (tt, tt)
plain_submits b p (Some x) = (tt, (tt, tt))

plain_note : (net : Net) (b : ℕ) (r : Result Note NoteFault) → ArePlain (note_acts net b r)
plain_note net b (Err fault) = (tt, tt)
plain_note net b (Ok n) = plain_submits b (publisher_of n) (submitted_in net b n)

plain_datagram : (net : Net) (b : ℕ) (bytes : List ℕ) → ArePlain (datagram_acts net b bytes)
plain_datagram net b bytes = go (begins_note bytes)
  where
    go : (c : Bool) → ArePlain (elim c [ true ↦ note_acts net b (note_decoded bytes) | false ↦ calls (gets b (frame_decoded bytes)) ∷ [] ])
    go true = plain_note net b (note_decoded bytes)
    go false = (tt, tt)

plain_of : (net : Net) (hosted : List ℕ) (left : List Request) (a : Arrival) → ArePlain (acts_of net hosted left a)
plain_of net hosted left (datagram b bytes moment) = go (is_among hosted b)
  where
    go : (c : Bool) → ArePlain (if c then datagram_acts net b bytes else [])
    go true = plain_datagram net b bytes
    go false = tt
plain_of net hosted left (quiet moment) = plain_calls (quiet_calls net hosted left)

-- What is ready

-- it is told, and nothing else
settled_told : (net : Net) (hosted : List ℕ) (w : World) (os : List Order) → told_by_acts net hosted w os (settles ∷ []) ≡ ordered os
unfolding told_by_acts
settled_told net hosted w os = append-nil (ordered os)

settled_heard : (net : Net) (hosted : List ℕ) (w : World) (os : List Order) → heard_by_acts net hosted w os (settles ∷ []) ≡ without_ordered os
unfolding heard_by_acts
settled_heard net hosted w os = refl

heard_append : (net : Net) (hosted : List ℕ) (w : World) (os : List Order) (xs ys : List Act)
    → heard_by_acts net hosted w os (xs ++ ys) ≡ (let u : Transition = in_turn (act net hosted) xs w in heard_by_acts net hosted u.world (heard_by_acts net hosted w os xs) ys)
unfolding heard_by_acts
heard_append net hosted w os [] ys = refl
heard_append net hosted w os (a ∷ xs) ys = let s : Transition = act net hosted w a in heard_append net hosted s.world (heard_by net hosted w os a) xs ys

-- An arrival

-- what its acts tell, and what is heard then
pub record Settled (net : Net) (hosted : List ℕ) (w : World) (os : List Order) (acts : List Act) (ls : List Report) (next : List Order) : Type 0 where
  pub told : told_by_acts net hosted w os acts ≡ ls
  pub heard : heard_by_acts net hosted w os acts ≡ next

module _ (net : Net) (hosted : List ℕ) (left : List Request) (a : Arrival) (w : World) (os : List Order) where
  abbrev first_acts : List Act
  first_acts = arrives a ∷ acts_of net hosted left a

  first_plain : ArePlain first_acts
  first_plain = (tt, plain_of net hosted left a)

  abbrev first_done : Transition
  first_done = in_turn (act net hosted) first_acts w

  -- where it is one of ours, what is ready is told behind its lines
  pub settles_ours : is_ours hosted a ≡ true → (s : Transition) → first_done ≡ s
      → Settled net hosted w os (arrival_acts net hosted left a) (s.lines ++ ordered (fed os s.lines)) (without_ordered (fed os s.lines))
  settles_ours e s is = record {
    told = ap (λ (c : Bool). told_by_acts net hosted w os (first_acts ++ (if c then settles ∷ [] else []))) e
        ∙ (told_append net hosted w os first_acts (settles ∷ [])
        ∙ (ap₂ (λ (xs ys : List Report). xs ++ ys) (lines_told net hosted w os first_acts first_plain)
        (settled_told net hosted first_done.world (heard_by_acts net hosted w os first_acts) ∙ ap (λ (xs : List Order). ordered xs) (lines_heard net hosted w os first_acts first_plain))
        ∙ ap (λ (r : Transition). r.lines ++ ordered (fed os r.lines)) is));
    heard = ap (λ (c : Bool). heard_by_acts net hosted w os (first_acts ++ (if c then settles ∷ [] else []))) e
        ∙ (heard_append net hosted w os first_acts (settles ∷ [])
        ∙ (settled_heard net hosted first_done.world (heard_by_acts net hosted w os first_acts)
        ∙ (ap (λ (xs : List Order). without_ordered xs) (lines_heard net hosted w os first_acts first_plain)
        ∙ ap (λ (r : Transition). without_ordered (fed os r.lines)) is)));
  }

  -- and else nothing is told or heard
  passes_over : is_ours hosted a ≡ false → first_done ≡ unchanged w [] → Settled net hosted w os (arrival_acts net hosted left a) [] os
  passes_over e is = record {
    told = ap (λ (c : Bool). told_by_acts net hosted w os (first_acts ++ (if c then settles ∷ [] else []))) e
        ∙ (ap (told_by_acts net hosted w os) (append-nil first_acts)
        ∙ (lines_told net hosted w os first_acts first_plain ∙ ap (λ (r : Transition). r.lines) is));
    heard = ap (λ (c : Bool). heard_by_acts net hosted w os (first_acts ++ (if c then settles ∷ [] else []))) e
        ∙ (ap (heard_by_acts net hosted w os) (append-nil first_acts)
        ∙ (lines_heard net hosted w os first_acts first_plain ∙ (ap (λ (r : Transition). fed os r.lines) is ∙ fed_nothing os)));
  }

-- All that came, and what is shown

-- behind the last of it nothing is ready
shown_told : (net : Net) (hosted : List ℕ) (closed : Bool) (w : World) (os : List Order) → ordered os ≡ []
    → told_by_acts net hosted w os (closing closed ++ shows ∷ []) ≡ joined (with_orders os (show_hosted net hosted w ∷ []))
unfolding with_orders act
shown_told net hosted closed w os none =
    lines_told net hosted w os (closing closed ++ shows ∷ []) (plain_append (closing closed) (shows ∷ []) (plain_closing closed) (tt, tt))
    ∙ (shown_alone closed
    ∙ sym (append-nil (shown ++ ordered (fed os shown)) ∙ (ap (λ (xs : List Order). shown ++ ordered xs) (fed_unheard os shown (shown_unheard net hosted w))
    ∙ (ap (λ (xs : List Report). shown ++ xs) none ∙ append-nil shown))))
  where
    shown : List Report
    shown = show_hosted net hosted w

    plain_closing : (c : Bool) → ArePlain (closing c)
    plain_closing true = (tt, tt)
    plain_closing false = tt

    shown_alone : (c : Bool) → (in_turn (act net hosted) (closing c ++ shows ∷ []) w).lines ≡ shown
    shown_alone true = append-nil shown
    shown_alone false = append-nil shown

-- an arrival that is one of ours, and those after it
told_ours : (net : Net) (hosted : List ℕ) (left : List Request) (a : Arrival) (came : List Arrival) (w : World) (os : List Order) (more : List Act)
    → is_ours hosted a ≡ true
    → ((u : World) (next : List Order) → ordered next ≡ [] → told_by_acts net hosted u next more ≡ joined (with_orders next (served_from net hosted u (left_after left a) came)))
    → told_by_acts net hosted w os (arrival_acts net hosted left a ++ more) ≡ joined (with_orders os (served_from net hosted w left (a ∷ came)))
unfolding with_orders served_from_by
told_ours net hosted left a came w os more e later =
    let s : Transition = comes net hosted w left a in
    let next : List Order = without_ordered (fed os s.lines) in
    let here = settles_ours net hosted left a w os e s (calls_are net hosted left a w e) in
    told_append net hosted w os (arrival_acts net hosted left a) more
    ∙ ap₂ (λ (xs ys : List Report). xs ++ ys) here.told
    (ap (λ (u : Transition). told_by_acts net hosted u.world (heard_by_acts net hosted w os (arrival_acts net hosted left a)) more) (arrival_is net hosted left a w e)
    ∙ (ap (λ (xs : List Order). told_by_acts net hosted s.world xs more) here.heard ∙ later s.world next (rested_ready (fed os s.lines))))

-- one that is not
told_others : (net : Net) (hosted : List ℕ) (left : List Request) (a : Arrival) (w : World) (os : List Order) (more : List Act)
    → is_ours hosted a ≡ false → told_by_acts net hosted w os (arrival_acts net hosted left a ++ more) ≡ told_by_acts net hosted w os more
told_others net hosted left a w os more e =
    let here = passes_over net hosted left a w os e (no_calls net hosted left a w e) in
    told_append net hosted w os (arrival_acts net hosted left a) more
    ∙ ap₂ (λ (xs ys : List Report). xs ++ ys) here.told
    (ap (λ (u : Transition). told_by_acts net hosted u.world (heard_by_acts net hosted w os (arrival_acts net hosted left a)) more) (passed_over net hosted left a w e)
    ∙ ap (λ (xs : List Order). told_by_acts net hosted w xs more) here.heard)

pub told_came : (net : Net) (hosted : List ℕ) (left : List Request) (came : List Arrival) (closed : Bool) (w : World) (os : List Order) → ordered os ≡ []
    → told_by_acts net hosted w os (acts_from net hosted left came ++ (closing closed ++ shows ∷ [])) ≡ joined (with_orders os (served_from net hosted w left (ours hosted came)))
unfolding acts_from served_from_by
told_came net hosted left [] closed w os none = shown_told net hosted closed w os none
told_came net hosted left (a ∷ came) closed w os none =
    let later : List Act = acts_from net hosted (left_after left a) came in
    let end : List Act = closing closed ++ shows ∷ [] in
    ap (told_by_acts net hosted w os) (append_assoc (arrival_acts net hosted left a) later end)
    ∙ go (later ++ end) (λ u next h. told_came net hosted (left_after left a) came closed u next h) (cases_Bool (is_ours hosted a))
  where
    go : (more : List Act)
        → ((u : World) (next : List Order) → ordered next ≡ [] → told_by_acts net hosted u next more ≡ joined (with_orders next (served_from net hosted u (left_after left a) (ours hosted came))))
        → (is_ours hosted a ≡ true) ⊎ (is_ours hosted a ≡ false)
        → told_by_acts net hosted w os (arrival_acts net hosted left a ++ more) ≡ joined (with_orders os (served_from net hosted w left (ours hosted (a ∷ came))))
    go more each (inl e) =
        told_ours net hosted left a (ours hosted came) w os more e each
        ∙ sym (ap (λ (xs : List Arrival). joined (with_orders os (served_from net hosted w left xs))) (ours_more hosted a came e))
    go more each (inr e) =
        told_others net hosted left a w os more e
        ∙ (each w os none
        ∙ (ap (λ (ps : List Request). joined (with_orders os (served_from net hosted w ps (ours hosted came)))) (none_taken hosted left a e)
        ∙ sym (ap (λ (xs : List Arrival). joined (with_orders os (served_from net hosted w left xs))) (ours_same hosted a came e))))

-- The plan

-- what bindings and starts tell, and what is heard then
pub begun_told : (net : Net) (hosted ks bs : List ℕ) (w : World) (os : List Order) (more : List Act)
    → told_by_acts net hosted w os ((map binds ks ++ map starts bs) ++ more)
    ≡ (let s : Transition = in_turn (act net hosted) (map binds ks ++ map starts bs) w in s.lines ++ told_by_acts net hosted s.world (fed os s.lines) more)
begun_told net hosted ks bs w os more =
    let acts : List Act = map binds ks ++ map starts bs in
    let s : Transition = in_turn (act net hosted) acts w in
    let plain : ArePlain acts = plain_append (map binds ks) (map starts bs) (plain_binds ks) (plain_starts bs) in
    told_append net hosted w os acts more
    ∙ ap₂ (λ (xs ys : List Report). xs ++ ys) (lines_told net hosted w os acts plain)
    (ap (λ (xs : List Order). told_by_acts net hosted s.world xs more) (lines_heard net hosted w os acts plain))

-- what is ready is told first
settled_first : (net : Net) (hosted : List ℕ) (w : World) (os : List Order) (acts : List Act)
    → told_by_acts net hosted w os (settles ∷ acts) ≡ ordered os ++ told_by_acts net hosted w (without_ordered os) acts
unfolding told_by_acts act
settled_first net hosted w os acts = refl

-- The acts of a plan tell what is served of what came at the hosted brokers, and behind the lines of each step those of one order
pub plan_told : (t : TopologyView) (hosted : List ℕ) (steps : List Line) (came : List Arrival) (closed : Bool) (logs : List Log) (os : List Order)
    → told_by_acts (net_of t) hosted (over_logs (net_of t) logs) os (plan t hosted steps came closed)
    ≡ joined (with_orders os (served (net_of t) hosted logs steps (ours hosted came)))
unfolding plan served_by with_orders
plan_told t hosted steps came closed logs os =
    let net : Net = net_of t in
    let ks : List ℕ = nodes t hosted in
    let left : List Request = requests_of net hosted steps in
    let o : Transition = opening net hosted logs in
    let next : List Order = fed os o.lines in
    let tail : List Act = acts_from net hosted left came ++ (closing closed ++ shows ∷ []) in
    ap (told_by_acts net hosted (over_logs net logs) os)
    (sym (append_assoc (map binds ks) (map starts hosted) (run_acts net hosted steps came closed ++ shows ∷ []))
    ∙ ap (λ (acts : List Act). (map binds ks ++ map starts hosted) ++ (settles ∷ acts)) (append_assoc (acts_from net hosted left came) (closing closed) (shows ∷ [])))
    ∙ (begun_told net hosted ks hosted (over_logs net logs) os (settles ∷ tail)
    ∙ (ap (λ (s : Transition). s.lines ++ told_by_acts net hosted s.world (fed os s.lines) (settles ∷ tail)) (begun_as net hosted ks logs)
    ∙ (ap (λ (ls : List Report). o.lines ++ ls) (settled_first net hosted o.world next tail
    ∙ ap (λ (ls : List Report). ordered next ++ ls) (told_came net hosted left came closed o.world (without_ordered next) (rested_ready next)))
    ∙ sym (append_assoc o.lines (ordered next) (joined (with_orders (without_ordered next) (served_from net hosted o.world left (ours hosted came))))))))

-- The acts that were made of a plan tell the first of these lines
pub told_front : (t : TopologyView) (hosted : List ℕ) (steps : List Line) (came : List Arrival) (closed : Bool) (logs : List Log) (os : List Order)
    (made left : List Act) → made ++ left ≡ plan t hosted steps came closed
    → (rest : List Report) × (joined (with_orders os (served (net_of t) hosted logs steps (ours hosted came)))
    ≡ told_by_acts (net_of t) hosted (over_logs (net_of t) logs) os made ++ rest)
told_front t hosted steps came closed logs os made left e =
    let net : Net = net_of t in
    let w : World = over_logs net logs in
    let s : Transition = in_turn (act net hosted) made w in (
      told_by_acts net hosted s.world (heard_by_acts net hosted w os made) left,
      sym (plan_told t hosted steps came closed logs os) ∙ (ap (told_by_acts net hosted w os) (sym e) ∙ told_append net hosted w os made left),
    )
