-- What becomes of a frame that came: the tick of a clash is the one that the machine names, a child that is found is in place, the log
-- passes through, and where nothing is learned no frame is sent
use Rattle.std.proofs.Common.{◌≡◌, ◌≢◌, ◌⊎◌, inl, inr, ℕ, suc, ◌<◌, ◌≤◌, Bool, true, false, List, [], ◌∷◌, ◌++◌, length, get_or, Option, Some, None, Result, Ok, Err, OnOk, OnErr, ◌&&◌, refl, sym, ap, ap₂, ◌∙◌, subst, arith}
use Rattle.std.specs.Prelude.{◌↔◌, ◌^◌, nat_eq, nat_lt, if◌then◌else◌, is_some, IsSome, ◌||◌}
use Rattle.std.specs.List.{list_any}
use Rattle.std.proofs.lemmas.Bool.{cases_lt, cases_eq, true≢false, eqb-true, ltb-true, ne_eqb, and_parts}
use Rattle.gr_event.specs.Joins.{Joins, first_split, longer}
use Rattle.gr_event.specs.declared.join.Split.{Split}
use Rattle.gr_tick.specs.Runs.{AreRuns, tabulate, tabulate_from, tabulate_sorted, sorted, points}
use Rattle.gr_know.specs.declared.values.K.{K}
use Rattle.gr_know.specs.declared.values.K.TheVariants.{Q}
use Rattle.gr_know.specs.Values.{Known, known_at, same_K, is_Q, new_K, clash_K}
use Rattle.gr_know.specs.Clash.{IsLeastClash}
use Rattle.gr_curio.specs.Values.{Wanted, is_A, wanted_at}
use Rattle.gr_frame.specs.declared.Body.{Body}
use Rattle.gr_frame.specs.declared.Body.TheVariants as body
use Rattle.gr_frame.specs.declared.Frame.{Frame}
use Rattle.gr_frame.specs.Decode.{frame_decoded}
use Rattle.gr_frame.specs.Bytes.{cut_frames}
use Rattle.gr_frame.specs.Limits.{IsBody}
use Rattle.gr_frame.proofs.Fields.{AreBytes}
use Rattle.gr_frame.proofs.Told.{decoded_spells}
use Rattle.gr_topo.specs.Topology.{TopologyView, host_of, up_at, children_of, IsTopology}
use Rattle.gr_model.specs.Net.{Net, is_host, not_empty}
use Rattle.gr_model.specs.NetOf.{net_of}
use Rattle.gr_model.proofs.NetOf.{net_is_orderly}
use Rattle.gr_model.specs.Broker.{View, Log, Outcome, new_ticks, passed, forward, forward_frames, learn, curiosity, asking, expect, clashes, drops, place_of, receive, empty_log, seen, with_joins}
use Rattle.gr_model.specs.Arrivals.{clash_runs, first_of, fits_broker, joins_fit}
use Rattle.gr_model_calls.proofs.runs.LeastClash.{clash_is_least, none_clashes}
use Rattle.gr_broker.specs.Receipt.{Receipt, split, clash, taken, receipt_of_piece, receipt_of_joined, receipt_of_fit, view_after, comes_over}
use Rattle.gr_broker.proofs.Joined.{curiosity_joins}

-- The least tick of a clash

-- two ticks that are both the least at which two functions clash
least_same : (kept came : ℕ → K) (t u : ℕ) (a b c d : K) → IsLeastClash kept came t a b → IsLeastClash kept came u c d → u ≡ t
least_same kept came t u a b c d x y = by_place (cases_lt t u) (cases_lt u t)
  where
    by_place : (t < u) ⊎ (u ≤ t) → (u < t) ⊎ (t ≤ u) → u ≡ t
    by_place (inl lt) _ = absurd (true≢false (sym x.clash ∙ y.least t x.from_one lt))
    by_place (inr _) (inl lt) = absurd (true≢false (sym y.clash ∙ x.least u y.from_one lt))
    by_place (inr ge) (inr le) = omega arith

-- the least tick at which what is known and what came clash is the one that the machine names
pub least_is : (know piece : Known) (t : ℕ) (k x : K) → AreRuns Q know → AreRuns Q piece → IsLeastClash (known_at know) (known_at piece) t k x → first_of (clash_runs know piece) ≡ Some t
least_is know piece t k x a b l = go (first_of (clash_runs know piece)) refl
  where
    go : (o : Option ℕ) → first_of (clash_runs know piece) ≡ o → o ≡ Some t
    go None e = absurd (true≢false (sym l.clash ∙ none_clashes know piece a b e t))
    go (Some u) e = ap (λ (n : ℕ). Some n) (least_same (known_at know) (known_at piece) t u k x _ _ l (clash_is_least know piece u a b e))

-- where nothing clashes it names none
pub no_clash_is : (know piece : Known) → AreRuns Q know → AreRuns Q piece → ((t : ℕ) → clash_K (known_at know t) (known_at piece t) ≡ false) → first_of (clash_runs know piece) ≡ None
no_clash_is know piece a b none = go (first_of (clash_runs know piece)) refl
  where
    go : (o : Option ℕ) → first_of (clash_runs know piece) ≡ o → o ≡ None
    go None e = refl
    go (Some u) e = absurd (true≢false (sym (clash_is_least know piece u a b e).clash ∙ none u))

-- and then what came does not clash
pub clashes_none : (know piece : Known) → first_of (clash_runs know piece) ≡ None → clashes know piece ≡ false
unfolding clashes
clashes_none know piece e = go (clash_runs know piece) e
  where
    go : (rs : Wanted) → first_of rs ≡ None → not_empty rs ≡ false
    go [] e = refl
    go (r ∷ rs) e = cc

-- exactly where there is a least tick what came clashes
pub clashes_where : (know piece : Known) → (clashes know piece ≡ true) ↔ IsSome (first_of (clash_runs know piece))
unfolding clashes
clashes_where know piece = go (clash_runs know piece)
  where
    go : (rs : Wanted) → (not_empty rs ≡ true) ↔ IsSome (first_of rs)
    go [] = (λ e. e, λ e. e)
    go (r ∷ rs) = (λ e. refl, λ e. refl)

-- Children

-- a child that is there has a place
pub place_in : (c : ℕ) (cs : List ℕ) → list_any (λ x. nat_eq x c) cs ≡ true → place_of c cs < length cs
place_in c [] h = absurd (true≢false (sym h))
place_in c (x ∷ xs) h = go (nat_eq x c) refl (place_in c xs)
  where
    later : nat_eq x c ≡ false → list_any (λ y. nat_eq y c) xs ≡ true
    later e = rw e at h

    go : (q : Bool) → nat_eq x c ≡ q → (list_any (λ y. nat_eq y c) xs ≡ true → place_of c xs < length xs) → (if q then 0 else suc (place_of c xs)) < suc (length xs)
    go true e i = omega arith
    go false e i = omega (arith, i (later e))

-- and it stands there
pub place_reads : (c : ℕ) (cs : List ℕ) → list_any (λ x. nat_eq x c) cs ≡ true → get_or cs (place_of c cs) 0 ≡ c
place_reads c [] h = absurd (true≢false (sym h))
place_reads c (x ∷ xs) h = go (nat_eq x c) refl (place_reads c xs)
  where
    later : nat_eq x c ≡ false → list_any (λ y. nat_eq y c) xs ≡ true
    later e = rw e at h

    go : (q : Bool) → nat_eq x c ≡ q → (list_any (λ y. nat_eq y c) xs ≡ true → get_or xs (place_of c xs) 0 ≡ c) → get_or (x ∷ xs) (if q then 0 else suc (place_of c xs)) 0 ≡ c
    go true e i = eqb-true x c e
    go false e i = i (later e)

-- what a frame that was decoded carries is within the limits
pub body_of : (bytes : List ℕ) (f : Frame) → AreBytes bytes → frame_decoded bytes ≡ Ok f → IsBody f.body
body_of bytes f fits h = (decoded_spells bytes f fits h).whole.body

-- the tick of a frame that was decoded is one
pub expect_in : (bytes : List ℕ) (f : Frame) (tick : ℕ) → AreBytes bytes → frame_decoded bytes ≡ Ok f → f.body ≡ body.Expect tick → (1 ≤ tick) × (tick ≤ 2 ^ 62)
expect_in bytes f tick fits h e = subst IsBody e (decoded_spells bytes f fits h).whole.body

-- a broker that has a next one towards the host is not the host
pub not_host : (t : TopologyView) (p b u : ℕ) → IsTopology t → p < length t.publishers → up_at t p b ≡ Some u → is_host (net_of t) p b ≡ false
not_host t p b u is i e = go (cases_eq (host_of t p) b)
  where
    none_some : None ≡ Some u → ⊥
    none_some x = cc

    go : (host_of t p ≡ b) ⊎ (host_of t p ≢ b) → is_host (net_of t) p b ≡ false
    go (inl same) = absurd (none_some (sym ((net_is_orderly t is).host_up p i) ∙ (ap (up_at t p) same ∙ e)))
    go (inr other) = ne_eqb (host_of t p) b other

-- What the machine does with a frame, by its body

-- what is known is learned
pub receive_knowledge : (net : Net) (now : ℕ) (f : Frame) (v : View) (log : Log) (runs : Known) (js : Joins) → f.body ≡ body.Knowledge runs js → drops v runs js ≡ false →
    receive net now f v log ≡ learn net f.head.publisher f.head.to runs (with_joins v (longer v.joins js)) log
unfolding receive
receive_knowledge net now f v log runs js e c = rw (receive, e, c) refl

-- what is asked or acknowledged comes from the child in its place
pub receive_curiosity : (net : Net) (now i : ℕ) (f : Frame) (v : View) (log : Log) (runs : Wanted) → f.body ≡ body.Curiosity runs → i ≡ place_of f.head.from (net.children f.head.publisher f.head.to) →
    receive net now f v log ≡ curiosity net f.head.publisher f.head.to now f.head.from i runs v log
unfolding receive
receive_curiosity net now i f v log runs e at = rw (receive, e, at) refl

-- what is to be expected is asked
pub receive_expect : (net : Net) (now : ℕ) (f : Frame) (v : View) (log : Log) (tick : ℕ) → f.body ≡ body.Expect tick → receive net now f v log ≡ expect net f.head.publisher f.head.to now tick v log
unfolding receive
receive_expect net now f v log tick e = rw (receive, e) refl

-- No call of these looks at the log

-- an outcome with another log
abbrev pub on_log : Outcome → Log → Outcome
on_log o log = record { view = o.view; log = log; lines = o.lines; frames = o.frames }

pub learn_on_log : (net : Net) (p b : ℕ) (piece : Known) (v : View) (log : Log) → learn net p b piece v log ≡ on_log (learn net p b piece v empty_log) log
unfolding learn
learn_on_log net p b piece v log = refl

curiosity_on_log : (net : Net) (p b now c i : ℕ) (piece : Wanted) (v : View) (log : Log) → curiosity net p b now c i piece v log ≡ on_log (curiosity net p b now c i piece v empty_log) log
unfolding curiosity
curiosity_on_log net p b now c i piece v log = refl

expect_on_log : (net : Net) (p b now tick : ℕ) (v : View) (log : Log) → expect net p b now tick v log ≡ on_log (expect net p b now tick v empty_log) log
unfolding expect asking
expect_on_log net p b now tick v log = refl

-- what is done with a body; with knowledge, given whether it is dropped
abbrev learned_by : Net → Frame → View → Log → Known → Joins → Bool → Outcome
learned_by net f v log runs js q = elim q [ true ↦ record { view = v; log = log; lines = []; frames = [] } | false ↦ learn net f.head.publisher f.head.to runs (with_joins v (longer v.joins js)) log ]

abbrev received_by : Net → ℕ → Frame → View → Log → Body → Outcome
received_by net now f v log y =
    elim y [
      | body.Knowledge runs js ↦ learned_by net f v log runs js (drops v runs js)
      | body.Curiosity runs ↦ curiosity net f.head.publisher f.head.to now f.head.from (place_of f.head.from (net.children f.head.publisher f.head.to)) runs v log
      | body.Expect tick ↦ expect net f.head.publisher f.head.to now tick v log
    ]

-- a frame that comes leaves the log, and what is kept, told and sent is the same over every log
pub receive_on_log : (net : Net) (now : ℕ) (f : Frame) (v : View) (log : Log) → receive net now f v log ≡ on_log (receive net now f v empty_log) log
unfolding receive
receive_on_log net now f v log = go f.body
  where
    learned : (runs : Known) (js : Joins) (q : Bool) → learned_by net f v log runs js q ≡ on_log (learned_by net f v empty_log runs js q) log
    learned runs js true = refl
    learned runs js false = learn_on_log net f.head.publisher f.head.to runs (with_joins v (longer v.joins js)) log

    go : (y : Body) → received_by net now f v log y ≡ on_log (received_by net now f v empty_log y) log
    go (body.Knowledge runs js) = learned runs js (drops v runs js)
    go (body.Curiosity runs) = curiosity_on_log net f.head.publisher f.head.to now f.head.from (place_of f.head.from (net.children f.head.publisher f.head.to)) runs v log
    go (body.Expect tick) = expect_on_log net f.head.publisher f.head.to now tick v log

-- Nothing is learned

-- where a function has the least value at each point there are no runs
tabulate_none : (g : ℕ → K) → ((t : ℕ) → g t ≡ Q) → (ps : List ℕ) → tabulate Q same_K g ps ≡ []
tabulate_none g none ps = from_sorted (sorted ps)
  where
    from : (p : ℕ) (qs : List ℕ) → tabulate_from Q same_K g p qs ≡ []
    from p [] = refl
    from p (q ∷ qs) = rw (none p) (from q qs)

    from_sorted : (qs : List ℕ) → tabulate_sorted Q same_K g qs ≡ []
    from_sorted [] = refl
    from_sorted (p ∷ qs) = from p qs

none_new : (k : K) → new_K k Q ≡ Q
none_new k = go (is_Q k)
  where
    go : (q : Bool) → (if q then Q else Q) ≡ Q
    go true = refl
    go false = refl

-- the empty piece has no new tick
pub new_ticks_none : (know : Known) → new_ticks know [] ≡ []
unfolding new_ticks
new_ticks_none know = tabulate_none (λ t. new_K (known_at know t) Q) (λ t. none_new (known_at know t)) (points know ++ [])

-- and of no new tick a child is sent none
pub forward_none : (net : Net) (p c : ℕ) (w : Wanted) → forward net p c w [] ≡ []
unfolding forward passed
forward_none net p c w = tabulate_none (λ t. if is_A (wanted_at w t) then Q else Q) (λ t. go (is_A (wanted_at w t))) (points w)
  where
    go : (q : Bool) → (if q then Q else Q) ≡ Q
    go true = refl
    go false = refl

forward_frames_none : (js : Joins) (net : Net) (p b : ℕ) (cs : List ℕ) (ws : List Wanted) → forward_frames js net p b [] cs ws ≡ []
unfolding cut_frames
forward_frames_none js net p b [] ws = refl
forward_frames_none js net p b (c ∷ cs) [] = refl
forward_frames_none js net p b (c ∷ cs) (w ∷ ws) = rw (forward_none net p c w) (forward_frames_none js net p b cs ws)

-- a broker that learns nothing sends nothing
pub learn_none : (net : Net) (p b : ℕ) (v : View) (log : Log) → (learn net p b [] v log).frames ≡ []
unfolding learn
learn_none net p b v log = rw (new_ticks_none v.know) (forward_frames_none v.joins net p b (net.children p b) v.wants)

-- What a frame that fits is answered

-- by whether its joins split, and by whether it clashes
abbrev split_if : Net → ℕ → View → Frame → Option Split → Receipt
split_if net now v f o = elim o [ Some x ↦ split x | None ↦ receipt_of_joined net now v f ]

abbrev clash_of : Known → Body → Option ℕ
clash_of know y = elim y [ body.Knowledge runs js ↦ first_of (clash_runs know runs) | _ ↦ None ]

abbrev said_by : Body → ℕ → K
said_by y t = elim y [ body.Knowledge runs js ↦ known_at runs t | _ ↦ Q ]

abbrev joins_by : Body → Joins
joins_by y = elim y [ body.Knowledge runs js ↦ js | _ ↦ [] ]

abbrev taking_by : View → Body → View
taking_by v y = elim y [ body.Knowledge runs js ↦ with_joins v (longer v.joins js) | _ ↦ v ]

abbrev joined_if : Net → ℕ → View → Frame → Body → Option ℕ → Receipt
joined_if net now v f y o = elim o [ Some t ↦ clash t (known_at v.know t) (said_by y t) | None ↦ taken (receive (seen net (taking_by v y)) now f v empty_log) ]

abbrev piece_if : Net → ℕ → ℕ → View → Known → Joins → Option ℕ → Receipt
piece_if net p b v runs js o =
    let u : View = with_joins v (longer v.joins js) in elim o [ Some t ↦ clash t (known_at v.know t) (known_at runs t) | None ↦ taken (learn (seen net u) p b runs u empty_log) ]

-- by what the frame brings
splits_by : (net : Net) (now : ℕ) (v : View) (f : Frame) (y : Body) (o : Option Split) → f.body ≡ y → first_split 0 v.joins (joins_by y) ≡ o → receipt_of_fit net now v f ≡ split_if net now v f o
unfolding receipt_of_fit
splits_by net now v f y o e s = ap (split_if net now v f) (ap (λ (z : Body). first_split 0 v.joins (joins_by z)) e ∙ s)

joined_by : (net : Net) (now : ℕ) (v : View) (f : Frame) (y : Body) → f.body ≡ y → receipt_of_joined net now v f ≡ joined_if net now v f y (clash_of v.know y)
joined_by net now v f y e = ap (λ (z : Body). joined_if net now v f z (clash_of v.know z)) e

-- what is known of it, where it clashes
pub piece_clashes : (net : Net) (p b t : ℕ) (v : View) (runs : Known) (js : Joins) (k x : K) → AreRuns Q v.know → AreRuns Q runs →
    IsLeastClash (known_at v.know) (known_at runs) t k x → receipt_of_piece net p b v runs js ≡ clash t k x
piece_clashes net p b t v runs js k x canon came l = ap (piece_if net p b v runs js) (least_is v.know runs t k x canon came l) ∙ rw (l.kept_is, l.came_is) refl

-- and where it does not: it is learned, with the longer list
pub piece_taken : (net : Net) (p b : ℕ) (v : View) (runs : Known) (js : Joins) → AreRuns Q v.know → AreRuns Q runs → ((t : ℕ) → clash_K (known_at v.know t) (known_at runs t) ≡ false) →
    receipt_of_piece net p b v runs js ≡ (let u : View = with_joins v (longer v.joins js) in taken (learn (seen net u) p b runs u empty_log))
piece_taken net p b v runs js canon came none = ap (piece_if net p b v runs js) (no_clash_is v.know runs canon came none)

-- a frame whose joins split
pub answers_split : (net : Net) (now : ℕ) (v : View) (f : Frame) (runs : Known) (js : Joins) (x : Split) → f.body ≡ body.Knowledge runs js → first_split 0 v.joins js ≡ Some x → receipt_of_fit net now v f ≡ split x
answers_split net now v f runs js x e s = splits_by net now v f (body.Knowledge runs js) (Some x) e s

-- knowledge whose joins do not split
not_dropped : (v : View) (runs : Known) (js : Joins) → first_split 0 v.joins js ≡ None → first_of (clash_runs v.know runs) ≡ None → drops v runs js ≡ false
unfolding drops
not_dropped v runs js s c = ap₂ (λ (o : Option Split) (q : Bool). is_some o || q) s (clashes_none v.know runs c)

pub answers_piece : (net : Net) (now p b : ℕ) (v : View) (f : Frame) (runs : Known) (js : Joins) → f.head.publisher ≡ p → f.head.to ≡ b → f.body ≡ body.Knowledge runs js → first_split 0 v.joins js ≡ None →
    receipt_of_fit net now v f ≡ receipt_of_piece net p b v runs js
answers_piece net now p b v f runs js ep eb e s =
    splits_by net now v f (body.Knowledge runs js) None e s ∙ joined_by net now v f (body.Knowledge runs js) e ∙ go (first_of (clash_runs v.know runs)) refl
  where
    u : View
    u = with_joins v (longer v.joins js)

    go : (o : Option ℕ) → first_of (clash_runs v.know runs) ≡ o → joined_if net now v f (body.Knowledge runs js) o ≡ piece_if net p b v runs js o
    go (Some t) c = refl
    go None c = ap taken (receive_knowledge (seen net u) now f v empty_log runs js e (not_dropped v runs js s c) ∙ ap₂ (λ (i j : ℕ). learn (seen net u) i j runs u empty_log) ep eb)

-- a frame that brings no joins does not split
none_split : (js : Joins) → first_split 0 js [] ≡ None
none_split [] = refl
none_split (j ∷ js) = refl

-- curiosity of the child in its place
pub answers_curiosity : (net : Net) (now p b c i : ℕ) (v : View) (f : Frame) (runs : Wanted) → f.head.publisher ≡ p → f.head.to ≡ b → f.body ≡ body.Curiosity runs → i ≡ place_of f.head.from (net.children p b) → c ≡ f.head.from →
    receipt_of_fit net now v f ≡ taken (curiosity (seen net v) p b now c i runs v empty_log)
answers_curiosity net now p b c i v f runs ep eb e at ec =
    splits_by net now v f (body.Curiosity runs) None e (none_split v.joins) ∙ joined_by net now v f (body.Curiosity runs) e
    ∙ ap taken (receive_curiosity (seen net v) now i f v empty_log runs e (at ∙ ap₂ (λ (x y : ℕ). place_of f.head.from (net.children x y)) (sym ep) (sym eb))
    ∙ ap₂ (λ (x y : ℕ). curiosity (seen net v) x y now f.head.from i runs v empty_log) ep eb ∙ ap (λ (x : ℕ). curiosity (seen net v) p b now x i runs v empty_log) (sym ec))

-- a tick to expect
pub answers_expect : (net : Net) (now p b : ℕ) (v : View) (f : Frame) (tick : ℕ) → f.head.publisher ≡ p → f.head.to ≡ b → f.body ≡ body.Expect tick →
    receipt_of_fit net now v f ≡ taken (expect (seen net v) p b now tick v empty_log)
answers_expect net now p b v f tick ep eb e =
    splits_by net now v f (body.Expect tick) None e (none_split v.joins) ∙ joined_by net now v f (body.Expect tick) e
    ∙ ap taken (receive_expect (seen net v) now f v empty_log tick e ∙ ap₂ (λ (x y : ℕ). expect (seen net v) x y now tick v empty_log) ep eb)

-- who is told what to expect is not the host
pub expects_below : (t : TopologyView) (p b tick : ℕ) (up : Option ℕ) (children : List ℕ) (f : Frame) → IsTopology t → p < length t.publishers → up ≡ up_at t p b → f.body ≡ body.Expect tick → comes_over up children f ≡ true →
    is_host (net_of t) p b ≡ false
expects_below t p b tick up children f is i e eb h = go up refl
  where
    from_up : elim up [ Some u ↦ nat_eq u f.head.from | None ↦ false ] ≡ true
    from_up = rw eb at h

    go : (o : Option ℕ) → up ≡ o → is_host (net_of t) p b ≡ false
    go None n = absurd (true≢false (sym (rw n at from_up)))
    go (Some u) n = not_host t p b u is i (sym e ∙ n)

-- At the host the joins that are held stay: only what a child asks comes there

fits_all : (a b c d : Bool) → (((a && b) && c) && d) ≡ true → (b ≡ true) × (c ≡ true)
fits_all a b c d h =
    let one = and_parts ((a && b) && c) d h in
    let two = and_parts (a && b) c one.0 in
    ((and_parts a b two.0).1, two.1)

pub receipt_joins : (t : TopologyView) (now b : ℕ) (v : View) (f : Frame) → IsTopology t → fits_broker (net_of t) b f ≡ true → is_host (net_of t) f.head.publisher b ≡ true → (view_after (receipt_of_fit (net_of t) now v f) v).joins ≡ v.joins
receipt_joins t now b v f is fits host = go f.body refl
  where
    net : Net
    net = net_of t

    p : ℕ
    p = f.head.publisher

    upstream : Bool
    upstream = elim (up_at t p b) [ Some u ↦ nat_eq u f.head.from | None ↦ false ]

    over : Body → Bool
    over y = elim y [ body.Curiosity runs ↦ list_any (λ x. nat_eq x f.head.from) (children_of t p b) | _ ↦ upstream ]

    parts : (nat_lt p (length t.publishers) ≡ true) × (over f.body ≡ true)
    parts = fits_all (nat_eq f.head.to b) (nat_lt p (length t.publishers)) (over f.body) (joins_fit net f) fits

    none_up : upstream ≡ true → ⊥
    none_up h = at (up_at t p b) refl h
      where
        at : (o : Option ℕ) → up_at t p b ≡ o → elim o [ Some u ↦ nat_eq u f.head.from | None ↦ false ] ≡ true → ⊥
        at None e k = true≢false (sym k)
        at (Some u) e k = true≢false (sym host ∙ not_host t p b u is (ltb-true p (length t.publishers) parts.0) e)

    go : (y : Body) → f.body ≡ y → (view_after (receipt_of_fit net now v f) v).joins ≡ v.joins
    go (body.Knowledge runs js) e = absurd (none_up (ap over (sym e) ∙ parts.1))
    go (body.Expect tick) e = absurd (none_up (ap over (sym e) ∙ parts.1))
    go (body.Curiosity runs) e =
        ap (λ r. (view_after r v).joins) (answers_curiosity net now p f.head.to f.head.from (place_of f.head.from (net.children p f.head.to)) v f runs refl refl e refl refl)
        ∙ curiosity_joins (seen net v) p f.head.to now f.head.from (place_of f.head.from (net.children p f.head.to)) runs v empty_log

-- so they are held after an answer
pub same_after : {T E : Type 0} (result : Result T E) (v v' w : View) → OnOk result (v' ≡ w) → OnErr result (v' ≡ v) → w.joins ≡ v.joins → v'.joins ≡ v.joins
same_after (Ok x) v v' w ok err same = ap (λ (u : View). u.joins) ok ∙ same
same_after (Err e) v v' w ok err same = ap (λ (u : View). u.joins) err
