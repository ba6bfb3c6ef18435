-- A broker's call keeps every tick and event within the limits, and what it sends is cut into frames that are short enough
use Rattle.std.proofs.Common.{◌≡◌, ℕ, zero, suc, ◌+◌, ◌-◌, ◌≤◌, ◌<◌, ◌^◌, length, ap, min, max, Bool, true, false, ◌&&◌, ◌||◌, List, [], ◌∷◌, ◌++◌, map, set, get_or, refl, Option, Some, None, arith, le_trans}
use Rattle.std.specs.Prelude.{not, nat_eq, nat_le, nat_lt, if◌then◌else◌}
use Rattle.std.specs.List.{AllByRecursion, list_any}
use Rattle.std.proofs.lemmas.Bool.{and_from, leb-true, ltb-true}
use Rattle.gr_event.specs.declared.event.Event.{Event}
use Rattle.gr_event.specs.Event.{event_size}
use Rattle.gr_event.specs.Limits.{IsEvent}
use Rattle.gr_tick.specs.declared.run.Run.{Run}
use Rattle.gr_tick.specs.Runs.{points, zip_runs, first_bottom_from, top_of}
use Rattle.gr_know.specs.declared.values.K.{K}
use Rattle.gr_know.specs.declared.values.K.TheVariants.{Q, S, D, F}
use Rattle.gr_know.specs.Values.{Known, known_at, same_K, join_K, new_K, is_Q}
use Rattle.gr_event.specs.Event.{same_event}
use Rattle.gr_event.specs.declared.limits.TheConstants.{MAX_JOINS}
use Rattle.gr_event.specs.declared.join.Join.{Join}
use Rattle.gr_event.specs.Joins.{longer, Joins, has_joined}
use Rattle.gr_publog.specs.State.{is_new}
use Rattle.gr_publog.proofs.Entering.{held_up, held_more, may_stand}
use Rattle.gr_curio.specs.declared.values.Q3.{Q3}
use Rattle.gr_curio.specs.declared.values.Q3.TheVariants.{N, C, A}
use Rattle.gr_curio.specs.declared.asks.Moment.{Moment}
use Rattle.gr_curio.specs.declared.asks.Moment.TheVariants.{Never}
use Rattle.gr_curio.specs.Values.{Wanted, Asked, wanted_at, asked_at, same_Q3, same_moment, is_A, is_C}
use Rattle.gr_curio.specs.Due.{due_of, noted_of}
use Rattle.gr_curio.specs.Wants.{answered_of}
use Rattle.gr_frame.specs.declared.Body.{Body}
use Rattle.gr_frame.specs.declared.Body.TheVariants as body
use Rattle.gr_frame.specs.declared.Frame.{Frame}
use Rattle.gr_frame.specs.Bytes.{head_size, known_run_size, wanted_run_size, cut_frames}
use Rattle.gr_frame.specs.Limits.{IsKnown, IsWanted}
use Rattle.gr_model.specs.Net.{Net, is_host, keeps_horizon, wanted_below, pass, numbers_from}
use Rattle.gr_model.specs.Broker.{with_joins, with_join, joining, drops, View, Log, Outcome, max_tick, head, know_frames, want_frames, expect_frame, up_frames, all_points, is_consolidated_by, consolidated, finished, forgotten, is_F, open_asks, kept_view_below, kept_view, horizon_after, new_ticks, event_ticks, pass_points, passed, forward, still_wanted, forward_frames, forward_wants, learn, due, noted, upward, acknowledged, answer, answers, curious, stored, curiosity, asking, wanted_at_wake, wake_below, covers, expect_frames, expect, any_C, with_event, with_mark, past, event_at, event_points, log_at, log_know, silence, publish, done_upto, cutting, marking, wake_host, wake, started, place_of, receive}
use Rattle.gr_model_theorems.specs.Spelled.{RunsIn, IsMoment, ViewIn, LogIn}
use Rattle.gr_model_calls.proofs.calls.HostCases.{publish_cases, marking_cases, joining_cases, news_of}
use Rattle.gr_model_calls.proofs.calls.Cutting.{cut_cases, cut_at, cutting_cases}
use Rattle.gr_model_theorems.proofs.limits.SpelledRuns.{all_on, all_set, all_get, all_tabulated, AreUpto, points_upto, all_points_upto, value_fits, tabulate_in, both_upto, zip_in, first_bottom_upto, top_upto, forgotten_in, IsPartIn, parts_in}

-- Frames that a broker sends

-- a body that is not empty, not too long, and within the limits
abbrev pub BodyCut : Body → Type 0
BodyCut (body.Knowledge rs js) = IsPartIn (head_size js) known_run_size IsKnown rs
BodyCut (body.Curiosity rs) = IsPartIn 12 wanted_run_size IsWanted rs
BodyCut (body.Expect tick) = (1 ≤ tick) × (tick ≤ max_tick)

-- a frame of this broker
pub record FrameCut (b : ℕ) (f : Frame) : Type 0 where
  pub from : f.head.from ≡ b
  pub body : BodyCut f.body

-- each is a frame of this broker, short enough and within the limits
abbrev pub AllCut : ℕ → List Frame → Type 0
AllCut b fs = AllByRecursion (FrameCut b) fs

known_small : (r : Run K) → IsKnown r.value → known_run_size r ≤ 8211
known_small r fits = go r.value fits
  where
    go : (v : K) → IsKnown v → elim v [ D e ↦ 19 + event_size e | _ ↦ 17 ] ≤ 8211
    go Q h = omega arith
    go S h = omega arith
    go F h = omega arith
    go (D e) h = omega (arith, h.short)

-- what stands before the runs of a frame with few joins is short
head_low : (js : Joins) → length js ≤ MAX_JOINS → head_size js ≤ 8173
head_low [] h = omega arith
head_low (j ∷ js) h = omega (arith, h)

know_cut : (js : Joins) (from to p : ℕ) (runs : Known) → length js ≤ MAX_JOINS → RunsIn IsKnown runs → AllCut from (know_frames js from to p runs)
know_cut js from to p runs few a = go (cut_frames (head_size js) known_run_size runs) (parts_in (head_size js) known_run_size IsKnown runs (head_low js few) known_small a)
  where
    go : (parts : List Known) → AllByRecursion (IsPartIn (head_size js) known_run_size IsKnown) parts → AllCut from (map (λ part. record { head = head from to p; body = body.Knowledge part js }) parts)
    go [] h = tt
    go (x ∷ xs) h = (record { from = refl; body = h.0 }, go xs h.1)

want_cut : (from to p : ℕ) (runs : Wanted) → RunsIn IsWanted runs → AllCut from (want_frames from to p runs)
want_cut from to p runs a = go (cut_frames 12 wanted_run_size runs) (parts_in 12 wanted_run_size IsWanted runs (omega arith) (λ r h. omega arith) a)
  where
    go : (parts : List Wanted) → AllByRecursion (IsPartIn 12 wanted_run_size IsWanted) parts → AllCut from (map (λ part. record { head = head from to p; body = body.Curiosity part }) parts)
    go [] h = tt
    go (x ∷ xs) h = (record { from = refl; body = h.0 }, go xs h.1)

up_cut : (net : Net) (p b : ℕ) (runs : Wanted) → RunsIn IsWanted runs → AllCut b (up_frames net p b runs)
up_cut net p b runs a = go (net.up p b)
  where
    go : (u : Option ℕ) → AllCut b (elim u [ Some u ↦ want_frames b u p runs | None ↦ [] ])
    go None = tt
    go (Some u) = want_cut b u p runs a

expects_cut : (p b tick : ℕ) (cs : List ℕ) (ws : List Wanted) → 1 ≤ tick → tick ≤ max_tick → AllCut b (expect_frames p b tick cs ws)
expects_cut p b tick [] ws h k = tt
expects_cut p b tick (c ∷ cs) [] h k = tt
expects_cut p b tick (c ∷ cs) (w ∷ ws) h k = all_on (FrameCut b) (if covers w tick then [] else expect_frame b c p tick ∷ []) (expect_frames p b tick cs ws) (go (covers w tick)) (expects_cut p b tick cs ws h k)
  where
    go : (q : Bool) → AllCut b (if q then [] else expect_frame b c p tick ∷ [])
    go true = tt
    go false = (record { from = refl; body = (h, k) }, tt)

-- Values

pass_known : (net : Net) (p c t : ℕ) (k : K) → IsKnown k → IsKnown (pass net p c t k)
pass_known net p c t Q h = tt
pass_known net p c t S h = tt
pass_known net p c t F h = tt
pass_known net p c t (D e) h = go (wanted_below net p c t e)
  where
    go : (q : Bool) → IsKnown (elim q [ true ↦ D e | false ↦ S ])
    go true = h
    go false = tt

join_known : (k x : K) → IsKnown k → IsKnown x → IsKnown (join_K k x)
join_known Q x h g = g
join_known F x h g = tt
join_known S Q h g = tt
join_known S S h g = tt
join_known S (D e) h g = tt
join_known S F h g = tt
join_known (D a) Q h g = h
join_known (D a) S h g = tt
join_known (D a) F h g = tt
join_known (D a) (D b) h g = go (same_event a b)
  where
    go : (q : Bool) → IsKnown (if q then D a else F)
    go true = h
    go false = tt

if_known : (q : Bool) (k x : K) → IsKnown k → IsKnown x → IsKnown (if q then k else x)
if_known true k x h g = h
if_known false k x h g = g

answer_known : (k : K) (a x : Q3) → IsKnown k → IsKnown (answer k a x)
answer_known k a N h = tt
answer_known k a A h = tt
answer_known k a C h = if_known (is_A a) F k tt h

-- Parts of calls

consolidated_in : (keeps : Bool) (h : ℕ) (ws : List Wanted) → h ≤ max_tick → AllByRecursion (RunsIn IsWanted) ws → RunsIn IsWanted (consolidated keeps h ws)
unfolding consolidated
consolidated_in keeps h ws k a = tabulate_in IsWanted N same_Q3 (λ t. if is_consolidated_by keeps h ws t then A else N) (1 ∷ (suc h ∷ all_points ws)) (omega arith, (omega (arith, k), all_points_upto IsWanted ws a)) (λ t. tt)

finished_in : (know : Known) (done : Wanted) → RunsIn IsKnown know → RunsIn IsWanted done → RunsIn IsKnown (finished know done)
unfolding finished
finished_in know done a b = zip_in IsKnown IsWanted IsKnown Q N Q same_K (λ k c. if is_A c then F else k) know done a b tt tt (λ k c h g. if_known (is_A c) F k tt h)

open_asks_in : (know : Known) (asks : Asked) → RunsIn IsKnown know → RunsIn IsMoment asks → RunsIn IsMoment (open_asks know asks)
unfolding open_asks
open_asks_in know asks a b = zip_in IsMoment IsKnown IsMoment Never Q Never same_moment (λ moment k. if is_F k then Never else moment) asks know b a tt tt (λ x y h g. if_moment (is_F y) x h)
  where
    if_moment : (q : Bool) (x : Moment) → IsMoment x → IsMoment (if q then Never else x)
    if_moment true x h = tt
    if_moment false x h = h

trimmed_in : (net : Net) (p b : ℕ) (v : View) → ViewIn v → ViewIn (kept_view net p b v)
unfolding kept_view
trimmed_in net p b v a = go (is_host net p b)
  where
    upto : ℕ
    upto = if keeps_horizon net p b then v.horizon else max_tick

    go : (q : Bool) → ViewIn (elim q [ true ↦ v | false ↦ kept_view_below net p b v ])
    go true = a
    go false =
        let known = forgotten_in IsKnown net.cache upto v.know a.know in
        record { know = known; wants = a.wants; asks = open_asks_in (forgotten net.cache upto v.know) v.asks known a.asks; horizon = a.horizon; joins = a.joins }

horizon_in : (keeps : Bool) (h : ℕ) (know : Known) → h ≤ max_tick → RunsIn IsKnown know → horizon_after keeps h know ≤ max_tick
unfolding horizon_after
horizon_in keeps h know k a = go keeps
  where
    go : (q : Bool) → (if q then first_bottom_from know (suc h) - 1 else h) ≤ max_tick
    go true = omega (arith, first_bottom_upto IsKnown know (suc h) (omega (arith, k)) a)
    go false = k

new_in : (know piece : Known) → RunsIn IsKnown know → RunsIn IsKnown piece → RunsIn IsKnown (new_ticks know piece)
unfolding new_ticks
new_in know piece a b = zip_in IsKnown IsKnown IsKnown Q Q Q same_K new_K know piece a b tt tt (λ k x h g. if_known (is_Q k) x Q g tt)

row_upto : (a n : ℕ) → a + n ≤ suc (suc max_tick) → AreUpto (numbers_from a n)
row_upto a zero h = tt
row_upto a (suc n) h = (omega arith, row_upto (suc a) n (omega arith))

event_points_upto : (k : K) (first last : ℕ) → first ≤ suc max_tick → last ≤ max_tick → AreUpto (event_ticks k first last)
event_points_upto Q first last h k = tt
event_points_upto S first last h k = tt
event_points_upto F first last h k = tt
event_points_upto (D e) first last h k = row_upto (suc first) (last - first) (omega arith)

pass_upto : (know : Known) → RunsIn IsKnown know → AreUpto (pass_points know)
pass_upto [] a = tt
pass_upto (r ∷ rs) a = (a.0.first, (omega (arith, a.0.last), all_on (λ p. p ≤ suc max_tick) (event_ticks r.value r.first r.last) (pass_points rs) (event_points_upto r.value r.first r.last a.0.first a.0.last) (pass_upto rs a.1)))

passed_in : (net : Net) (p c : ℕ) (know : Known) → RunsIn IsKnown know → RunsIn IsKnown (passed net p c know)
unfolding passed
passed_in net p c know a =
    tabulate_in IsKnown Q same_K (λ t. pass net p c t (known_at know t)) (pass_points know) (pass_upto know a) (λ t. pass_known net p c t (known_at know t) (value_fits IsKnown Q know t tt a))

forward_in : (net : Net) (p c : ℕ) (w : Wanted) (new : Known) → RunsIn IsWanted w → RunsIn IsKnown new → RunsIn IsKnown (forward net p c w new)
unfolding forward
forward_in net p c w new a b = zip_in IsKnown IsWanted IsKnown Q N Q same_K (λ v a. if is_A a then Q else v) (passed net p c new) w (passed_in net p c new b) a tt tt (λ v a h g. if_known (is_A a) Q v tt h)

quenched_in : (w : Wanted) (sent : Known) → RunsIn IsWanted w → RunsIn IsKnown sent → RunsIn IsWanted (still_wanted w sent)
unfolding still_wanted
quenched_in w sent a b = zip_in IsWanted IsKnown IsWanted N Q N same_Q3 (λ a v. answered_of (not (is_Q v)) a) w sent a b tt tt (λ x y h g. tt)

forward_frames_cut : (js : Joins) (net : Net) (p b : ℕ) (new : Known) (cs : List ℕ) (ws : List Wanted) → length js ≤ MAX_JOINS → RunsIn IsKnown new → AllByRecursion (RunsIn IsWanted) ws → AllCut b (forward_frames js net p b new cs ws)
forward_frames_cut js net p b new [] ws few h a = tt
forward_frames_cut js net p b new (c ∷ cs) [] few h a = tt
forward_frames_cut js net p b new (c ∷ cs) (w ∷ ws) few h a = all_on (FrameCut b) (know_frames js b c p (forward net p c w new)) (forward_frames js net p b new cs ws) (know_cut js b c p (forward net p c w new) few (forward_in net p c w new a.0 h)) (forward_frames_cut js net p b new cs ws few h a.1)

forward_wants_in : (net : Net) (p : ℕ) (new : Known) (cs : List ℕ) (ws : List Wanted) → RunsIn IsKnown new → AllByRecursion (RunsIn IsWanted) ws → AllByRecursion (RunsIn IsWanted) (forward_wants net p new cs ws)
forward_wants_in net p new [] ws h a = tt
forward_wants_in net p new (c ∷ cs) [] h a = tt
forward_wants_in net p new (c ∷ cs) (w ∷ ws) h a = (quenched_in w (forward net p c w new) a.0 (forward_in net p c w new a.0 h), forward_wants_in net p new cs ws h a.1)

-- Calls

-- what a call leaves is within the limits, and so are its frames
pub record CallIn (late : List ℕ) (b : ℕ) (o : Outcome) : Type 0 where
  pub view : ViewIn o.view
  pub log : LogIn late o.log
  pub frames : AllCut b o.frames

learn_in : {late : List ℕ} (net : Net) (p b : ℕ) (piece : Known) (v : View) (log : Log) → RunsIn IsKnown piece → ViewIn v → LogIn late log → CallIn late b (learn net p b piece v log)
unfolding learn
learn_in net p b piece v log h a l =
    let keeps = keeps_horizon net p b in
    let new = new_ticks v.know piece in
    let know = zip_runs Q Q Q same_K join_K v.know piece in
    let horizon = horizon_after keeps v.horizon know in
    let ws = forward_wants net p new (net.children p b) v.wants in
    let new_is = new_in v.know piece a.know h in
    let know_is = zip_in IsKnown IsKnown IsKnown Q Q Q same_K join_K v.know piece a.know h tt tt join_known in
    let horizon_is = horizon_in keeps v.horizon know a.horizon know_is in
    let ws_is = forward_wants_in net p new (net.children p b) v.wants new_is a.wants in
    record {
      view = trimmed_in net p b (record { know = finished know (consolidated keeps horizon ws); wants = ws; asks = v.asks; horizon = horizon; joins = v.joins }) (record {
        know = finished_in know (consolidated keeps horizon ws) know_is (consolidated_in keeps horizon ws horizon_is ws_is);
        wants = ws_is;
        asks = a.asks;
        horizon = horizon_is;
        joins = a.joins;
      });
      log = l;
      frames = forward_frames_cut v.joins net p b new (net.children p b) v.wants a.joins new_is a.wants;
    }

due_in : (now retry : ℕ) (know : Known) (asks : Asked) (wanted : ℕ → Bool) (ps : List ℕ) → RunsIn IsKnown know → RunsIn IsMoment asks → AreUpto ps → RunsIn IsWanted (due now retry know asks wanted ps)
unfolding due
due_in now retry know asks wanted ps a b h =
    tabulate_in IsWanted N same_Q3 (λ t. due_of (asked_at asks t) (if wanted t && is_Q (known_at know t) then C else N) now retry) (ps ++ points know ++ points asks)
    (all_on (λ p. p ≤ suc max_tick) (ps ++ points know) (points asks) (all_on (λ p. p ≤ suc max_tick) ps (points know) h (points_upto IsKnown know a)) (points_upto IsMoment asks b)) (λ t. tt)

noted_in : (now : ℕ) (asks : Asked) (asked : Wanted) → RunsIn IsMoment asks → RunsIn IsWanted asked → RunsIn IsMoment (noted now asks asked)
unfolding noted
noted_in now asks asked a b = zip_in IsMoment IsWanted IsMoment Never N Never same_moment (noted_of now) asks asked a b tt tt (λ x y h g. tt)

upward_in : (done asked : Wanted) → RunsIn IsWanted done → RunsIn IsWanted asked → RunsIn IsWanted (upward done asked)
unfolding upward
upward_in done asked a b = zip_in IsWanted IsWanted IsWanted N N N same_Q3 (λ c a. if is_A c then A else a) done asked a b tt tt (λ x y h g. tt)

asking_in : {late : List ℕ} (net : Net) (p b now : ℕ) (wanted : ℕ → Bool) (ps : List ℕ) (v : View) (log : Log) → AreUpto ps → ViewIn v → LogIn late log → CallIn late b (asking net p b now wanted ps v log)
unfolding asking
asking_in net p b now wanted ps v log h a l =
    let done = consolidated (keeps_horizon net p b) v.horizon v.wants in
    let asked = due now net.retry v.know v.asks wanted ps in
    let done_is = consolidated_in (keeps_horizon net p b) v.horizon v.wants a.horizon a.wants in
    let asked_is = due_in now net.retry v.know v.asks wanted ps a.know a.asks h in
    record {
      view = trimmed_in net p b (record { know = v.know; wants = v.wants; asks = noted now v.asks asked; horizon = v.horizon; joins = v.joins }) (record { know = a.know; wants = a.wants; asks = noted_in now v.asks asked a.asks asked_is; horizon = a.horizon; joins = a.joins });
      log = l;
      frames = up_cut net p b (upward done asked) (upward_in done asked done_is asked_is);
    }

acknowledged_in : (w piece : Wanted) → RunsIn IsWanted w → RunsIn IsWanted piece → RunsIn IsWanted (acknowledged w piece)
unfolding acknowledged
acknowledged_in w piece a b = zip_in IsWanted IsWanted IsWanted N N N same_Q3 (λ a x. if is_A x then A else a) w piece a b tt tt (λ x y h g. tt)

three_upto : (know : Known) (w piece : Wanted) → RunsIn IsKnown know → RunsIn IsWanted w → RunsIn IsWanted piece → AreUpto (points know ++ points w ++ points piece)
three_upto know w piece h a b = all_on (λ p. p ≤ suc max_tick) (points know ++ points w) (points piece) (both_upto IsKnown IsWanted know w h a) (points_upto IsWanted piece b)

answers_in : (net : Net) (p c : ℕ) (know : Known) (w piece : Wanted) → RunsIn IsKnown know → RunsIn IsWanted w → RunsIn IsWanted piece → RunsIn IsKnown (answers net p c know w piece)
unfolding answers
answers_in net p c know w piece h a b =
    let k : Known = passed net p c know in
    let i : RunsIn IsKnown k = passed_in net p c know h in
    tabulate_in IsKnown Q same_K (λ t. answer (known_at k t) (wanted_at w t) (wanted_at piece t)) (points k ++ points w ++ points piece) (three_upto k w piece i a b)
    (λ t. answer_known (known_at k t) (wanted_at w t) (wanted_at piece t) (value_fits IsKnown Q k t tt i))

stored_in : (know : Known) (w piece : Wanted) → RunsIn IsKnown know → RunsIn IsWanted w → RunsIn IsWanted piece → RunsIn IsWanted (stored know w piece)
unfolding stored
stored_in know w piece h a b = tabulate_in IsWanted N same_Q3 (λ t. curious (known_at know t) (wanted_at w t) (wanted_at piece t)) (points know ++ points w ++ points piece) (three_upto know w piece h a b) (λ t. tt)

curiosity_in : {late : List ℕ} (net : Net) (p b now c i : ℕ) (piece : Wanted) (v : View) (log : Log) → RunsIn IsWanted piece → ViewIn v → LogIn late log → CallIn late b (curiosity net p b now c i piece v log)
unfolding curiosity
curiosity_in net p b now c i piece v log h a l =
    let asked_is = asks (is_host net p b) in
    record {
      view = trimmed_in net p b (record { know = know; wants = ws; asks = noted now v.asks (asked (is_host net p b)); horizon = v.horizon; joins = v.joins }) (record {
        know = know_is;
        wants = ws_is;
        asks = noted_in now v.asks (asked (is_host net p b)) a.asks asked_is;
        horizon = a.horizon;
        joins = a.joins;
      });
      log = l;
      frames = all_on (FrameCut b) (know_frames v.joins b c p reply) (up_frames net p b (asked (is_host net p b))) (know_cut v.joins b c p reply a.joins reply_is) (up_cut net p b (asked (is_host net p b)) asked_is);
    }
  where
    w : Wanted
    w = acknowledged (get_or v.wants i []) piece

    w_is : RunsIn IsWanted w
    w_is = acknowledged_in (get_or v.wants i []) piece (all_get (RunsIn IsWanted) v.wants i [] a.wants tt) h

    reply : Known
    reply = answers net p c v.know w piece

    reply_is : RunsIn IsKnown reply
    reply_is = answers_in net p c v.know w piece a.know w_is h

    ws : List Wanted
    ws = set v.wants i (stored v.know w piece)

    ws_is : AllByRecursion (RunsIn IsWanted) ws
    ws_is = all_set (RunsIn IsWanted) v.wants i (stored v.know w piece) a.wants (stored_in v.know w piece a.know w_is h)

    know : Known
    know = finished v.know (consolidated (keeps_horizon net p b) v.horizon ws)

    know_is : RunsIn IsKnown know
    know_is = finished_in v.know (consolidated (keeps_horizon net p b) v.horizon ws) a.know (consolidated_in (keeps_horizon net p b) v.horizon ws a.horizon ws_is)

    asked : Bool → Wanted
    asked q = elim q [ true ↦ [] | false ↦ due now net.retry know v.asks (λ t. is_C (wanted_at piece t) && is_Q (known_at reply t)) (points piece ++ points reply) ]

    asks : (q : Bool) → RunsIn IsWanted (asked q)
    asks true = tt
    asks false = due_in now net.retry know v.asks (λ t. is_C (wanted_at piece t) && is_Q (known_at reply t)) (points piece ++ points reply) know_is a.asks (both_upto IsWanted IsKnown piece reply h reply_is)

wake_below_in : {late : List ℕ} (net : Net) (p b now : ℕ) (v : View) (log : Log) → now ≤ max_tick → ViewIn v → LogIn late log → CallIn late b (wake_below net p b now v log)
unfolding wake_below
wake_below_in net p b now v log h a l =
    asking_in net p b now (wanted_at_wake net (keeps_horizon net p b) now v) (all_points v.wants ++ (suc v.horizon ∷ (suc (now - net.idle) ∷ (suc (now - net.gap) ∷ (top_of v.know ∷ []))))) v log
    (all_on (λ p. p ≤ suc max_tick) (all_points v.wants) (suc v.horizon ∷ (suc (now - net.idle) ∷ (suc (now - net.gap) ∷ (top_of v.know ∷ [])))) (all_points_upto IsWanted v.wants a.wants)
    (omega (arith, a.horizon), (omega (arith, h), (omega (arith, h), (omega (arith, top_upto IsKnown v.know a.know), tt))))) a l

expect_in : {late : List ℕ} (net : Net) (p b now tick : ℕ) (v : View) (log : Log) → 1 ≤ tick → tick ≤ max_tick → ViewIn v → LogIn late log → CallIn late b (expect net p b now tick v log)
unfolding expect
expect_in net p b now tick v log h k a l =
    let wanted = λ (t : ℕ). any_C v.wants t || (keeps_horizon net p b && nat_lt v.horizon t && nat_le t tick) in
    let ps = all_points v.wants ++ (suc v.horizon ∷ (suc tick ∷ [])) in
    let o = asking_in net p b now wanted ps v log (all_on (λ p. p ≤ suc max_tick) (all_points v.wants) (suc v.horizon ∷ (suc tick ∷ [])) (all_points_upto IsWanted v.wants a.wants) (omega (arith, a.horizon), (omega (arith, k), tt))) a l in
    record {
      view = o.view;
      log = o.log;
      frames = all_on (FrameCut b) (asking net p b now wanted ps v log).frames (expect_frames p b tick (net.children p b) v.wants) o.frames (expects_cut p b tick (net.children p b) v.wants h k);
    }

silence_in : (first last : ℕ) (rest : Known) → last ≤ max_tick → RunsIn IsKnown rest → RunsIn IsKnown (silence first last rest)
unfolding silence
silence_in first last rest h a = go (nat_le first last) refl
  where
    go : (q : Bool) → nat_le first last ≡ q → RunsIn IsKnown (if q then record { first = first; last = last; value = S } ∷ rest else rest)
    go true e = (record { first = omega (arith, leb-true first last e, h); last = h; value = tt }, a)
    go false e = a

-- a log with a further event
pub with_event_in : {late : List ℕ} (log : Log) (tick : ℕ) (e : Event) → log.settled ≤ tick → tick ≤ max_tick → IsEvent e → LogIn late log → LogIn late (with_event log tick e)
with_event_in {late} log tick e past h k l = record { settled = h; cut = l.cut; events = all_on (λ x. (x.0 ≤ max_tick) × IsEvent x.1) log.events ((tick, e) ∷ []) l.events ((h, k), tt); held = held_up late log.joins log.settled tick past l.held }

-- a publish of an event within the limits leaves and sends only what is within them
pub publish_in : {late : List ℕ} (net : Net) (p b now number : ℕ) (e : Event) (v : View) (log : Log) → IsEvent e → ViewIn v → LogIn late log → CallIn late b (publish net p b now number e v log)
publish_in {late} net p b now number e v log k a l =
    publish_cases net p b now number e v log (CallIn late b) (λ x. record { view = a; log = l; frames = tt }) (λ x. record { view = a; log = l; frames = tt }) (λ x y. record { view = a; log = l; frames = tt })
    (λ x h. let c = learned h in record { view = c.view; log = c.log; frames = c.frames })
  where
    tick : ℕ
    tick = max (suc log.settled) now

    learned : tick ≤ max_tick → CallIn late b (learn net p b (news_of log tick e) v (with_event log tick e))
    learned h = learn_in net p b (news_of log tick e) v (with_event log tick e) (silence_in (suc log.settled) (tick - 1) (record { first = tick; last = tick; value = D e } ∷ []) (omega (arith, h)) (record { first = omega (arith, h); last = h; value = k }, tt)) a (with_event_in log tick e (omega arith) h k l)

marking_in : {late : List ℕ} (net : Net) (p b now : ℕ) (v : View) (log : Log) → now ≤ max_tick → ViewIn v → LogIn late log → CallIn late b (marking net p b now v log)
marking_in {late} net p b now v log h a l =
    marking_cases net p b now v log (CallIn late b)
    (λ e. learn_in net p b (silence (suc log.settled) now []) v (with_mark log now) (silence_in (suc log.settled) now [] h tt) a (record { settled = h; cut = l.cut; events = l.events; held = held_up late log.joins log.settled now (omega (arith, leb-true (log.settled + net.quiet) now e)) l.held }))
    (λ e. record { view = a; log = l; frames = tt })

-- a log with a further join, of a subscriber that may join
pub with_join_in : {late : List ℕ} (log : Log) (tick s : ℕ) → has_joined log.joins s ≡ false → list_any (λ x. nat_eq x s) late ≡ true → s < 2 ^ 16 → log.settled < tick → tick ≤ max_tick → LogIn late log → LogIn late (with_join log tick s)
with_join_in {late} log tick s fresh among small past upto l =
    let j : Join = record { subscriber = s; tick = tick } in
    let enters : is_new late log.joins s ≡ true = and_from (list_any (λ x. nat_eq x s) late) (not (has_joined log.joins s)) among (ap not fresh) in
    record {
      settled = upto;
      cut = l.cut;
      events = l.events;
      held = held_more late log.joins j log.settled tick l.held enters (may_stand late log.joins j log.settled l.held enters past upto) small (omega (arith, past)) (omega arith);
    }

-- a join of a subscriber that may join leaves and sends only what is within the limits
pub joining_in : {late : List ℕ} (net : Net) (p b now s : ℕ) (v : View) (log : Log) → list_any (λ x. nat_eq x s) late ≡ true → s < 2 ^ 16 → ViewIn v → LogIn late log → CallIn late b (joining net p b now s v log)
joining_in {late} net p b now s v log among small a l =
    joining_cases net p b now s v log (CallIn late b) (λ e. record { view = a; log = l; frames = tt }) (λ e x. record { view = a; log = l; frames = tt })
    (λ e x. let c = learned e x in record { view = c.view; log = c.log; frames = c.frames })
  where
    tick : ℕ
    tick = max (suc log.settled) now

    learned : has_joined log.joins s ≡ false → tick ≤ max_tick → CallIn late b (learn net p b (silence (suc log.settled) tick []) (with_joins v (with_join log tick s).joins) (with_join log tick s))
    learned e x =
        let k = with_join_in log tick s e among small (omega arith) x l in
        learn_in net p b (silence (suc log.settled) tick []) (with_joins v (with_join log tick s).joins) (with_join log tick s) (silence_in (suc log.settled) tick [] x tt)
        (record { know = a.know; wants = a.wants; asks = a.asks; horizon = a.horizon; joins = k.held.joins.few }) k

least_upto : (a b : ℕ) → min a b ≤ a
least_upto a b = omega arith

-- what a cut leaves is what was there
past_in : (t : ℕ) (xs : List (ℕ × Event)) → AllByRecursion (λ x. (x.0 ≤ max_tick) × IsEvent x.1) xs → AllByRecursion (λ x. (x.0 ≤ max_tick) × IsEvent x.1) (past t xs)
past_in t [] a = tt
past_in t (x ∷ xs) a = go (nat_lt t x.0) (past_in t xs a.1)
  where
    go : (b : Bool) → AllByRecursion (λ x. (x.0 ≤ max_tick) × IsEvent x.1) (past t xs) → AllByRecursion (λ x. (x.0 ≤ max_tick) × IsEvent x.1) (if b then x ∷ past t xs else past t xs)
    go true h = (a.0, h)
    go false h = h

kept_in : (q : Bool) (t : ℕ) (xs : List (ℕ × Event)) → AllByRecursion (λ x. (x.0 ≤ max_tick) × IsEvent x.1) xs → AllByRecursion (λ x. (x.0 ≤ max_tick) × IsEvent x.1) (if q then past t xs else xs)
kept_in true t xs a = past_in t xs a
kept_in false t xs a = a

cutting_in : {late : List ℕ} (net : Net) (p b : ℕ) (v : View) (log : Log) → LogIn late log → LogIn late (cutting net p b v log)
unfolding done_upto
cutting_in {late} net p b v log l = cutting_cases net p b v log (LogIn late) l (λ x. cut_cases net.reclaim log upto (LogIn late) (record { settled = l.settled; cut = low; events = left; held = l.held }) (record { settled = l.settled; cut = low; events = left; held = l.held }))
  where
    upto : ℕ
    upto = cut_at net p b v log

    low : upto ≤ max_tick
    low = le_trans (least_upto log.settled (first_bottom_from (consolidated (keeps_horizon net p b) v.horizon v.wants) 1 - 1)) l.settled

    left : AllByRecursion (λ x. (x.0 ≤ max_tick) × IsEvent x.1) (if log.forgets then past upto log.events else log.events)
    left = kept_in log.forgets upto log.events l.events

wake_host_in : {late : List ℕ} (net : Net) (p b now : ℕ) (v : View) (log : Log) → now ≤ max_tick → ViewIn v → LogIn late log → CallIn late b (wake_host net p b now v log)
unfolding wake_host
wake_host_in net p b now v log h a l =
    let o : Outcome = marking net p b now v log in
    let m = marking_in net p b now v log h a l in
    let c = cutting_in net p b o.view o.log m.log in
    let cut = cutting net p b o.view o.log in
    record { view = m.view; log = c; frames = all_on (FrameCut b) o.frames (if nat_lt 0 cut.settled then expect_frames p b cut.settled (net.children p b) o.view.wants else []) m.frames (told o.view cut.settled c.settled (nat_lt 0 cut.settled) refl) }
  where
    told : (u : View) (tick : ℕ) → tick ≤ max_tick → (q : Bool) → nat_lt 0 tick ≡ q → AllCut b (if q then expect_frames p b tick (net.children p b) u.wants else [])
    told u tick k true e = expects_cut p b tick (net.children p b) u.wants (ltb-true 0 tick e) k
    told u tick k false e = tt

-- a wake up to the last tick leaves and sends only what is within the limits
pub wake_in : {late : List ℕ} (net : Net) (p b now : ℕ) (v : View) (log : Log) → now ≤ max_tick → ViewIn v → LogIn late log → CallIn late b (wake net p b now v log)
unfolding wake
wake_in {late} net p b now v log h a l = go (is_host net p b)
  where
    go : (q : Bool) → CallIn late b (elim q [ true ↦ wake_host net p b now v log | false ↦ wake_below net p b now v log ])
    go true = wake_host_in net p b now v log h a l
    go false = wake_below_in net p b now v log h a l

-- what comes is within the limits
abbrev pub BodyIn : Body → Type 0
BodyIn (body.Knowledge rs js) = RunsIn IsKnown rs × (length js ≤ MAX_JOINS)
BodyIn (body.Curiosity rs) = RunsIn IsWanted rs
BodyIn (body.Expect tick) = (1 ≤ tick) × (tick ≤ max_tick)

-- a view that takes up few joins
taken_in : (v : View) (js : Joins) → ViewIn v → length js ≤ MAX_JOINS → ViewIn (with_joins v (longer v.joins js))
taken_in v js a few = record { know = a.know; wants = a.wants; asks = a.asks; horizon = a.horizon; joins = go (nat_lt (length v.joins) (length js)) }
  where
    go : (q : Bool) → length (if q then js else v.joins) ≤ MAX_JOINS
    go true = few
    go false = a.joins

-- receiving a frame within the limits leaves and sends only what is within them
pub receive_in : {late : List ℕ} (net : Net) (now : ℕ) (f : Frame) (v : View) (log : Log) → BodyIn f.body → ViewIn v → LogIn late log → CallIn late f.head.to (receive net now f v log)
unfolding receive
receive_in {late} net now f v log h a l = go f.body h
  where
    learned : (runs : Known) (js : Joins) (q : Bool) → RunsIn IsKnown runs × (length js ≤ MAX_JOINS) → CallIn late f.head.to (elim q [ true ↦ record { view = v; log = log; lines = []; frames = [] } | false ↦ learn net f.head.publisher f.head.to runs (with_joins v (longer v.joins js)) log ])
    learned runs js true k = record { view = a; log = l; frames = tt }
    learned runs js false k = learn_in net f.head.publisher f.head.to runs (with_joins v (longer v.joins js)) log k.0 (taken_in v js a k.1) l

    go : (y : Body) → BodyIn y → CallIn late f.head.to (elim y [
      | body.Knowledge runs js ↦ elim (drops v runs js) [ true ↦ record { view = v; log = log; lines = []; frames = [] } | false ↦ learn net f.head.publisher f.head.to runs (with_joins v (longer v.joins js)) log ]
      | body.Curiosity runs ↦ curiosity net f.head.publisher f.head.to now f.head.from (place_of f.head.from (net.children f.head.publisher f.head.to)) runs v log
      | body.Expect tick ↦ expect net f.head.publisher f.head.to now tick v log
    ])
    go (body.Knowledge runs js) k = learned runs js (drops v runs js) k
    go (body.Curiosity runs) k = curiosity_in net f.head.publisher f.head.to now f.head.from (place_of f.head.from (net.children f.head.publisher f.head.to)) runs v log k a l
    go (body.Expect tick) k = expect_in net f.head.publisher f.head.to now tick v log k.0 k.1 a l

-- Starts

event_known : (events : List (ℕ × Event)) (t : ℕ) → AllByRecursion (λ x. (x.0 ≤ max_tick) × IsEvent x.1) events → IsKnown (event_at events t)
event_known [] t a = tt
event_known (x ∷ xs) t a = if_known (nat_eq x.0 t) (D x.1) (event_at xs t) a.0.1 (event_known xs t a.1)

events_upto : (events : List (ℕ × Event)) → AllByRecursion (λ x. (x.0 ≤ max_tick) × IsEvent x.1) events → AreUpto (event_points events)
events_upto [] a = tt
events_upto (x ∷ xs) a = (omega (arith, a.0.0), (omega (arith, a.0.0), events_upto xs a.1))

log_know_in : {late : List ℕ} (log : Log) → LogIn late log → RunsIn IsKnown (log_know log)
unfolding log_know
log_know_in log l = tabulate_in IsKnown Q same_K (log_at log) (1 ∷ (suc log.cut ∷ (suc log.settled ∷ event_points log.events))) (omega arith, (omega (arith, l.cut), (omega (arith, l.settled), events_upto log.events l.events))) (λ t. go t (nat_le 1 t && nat_le t log.settled) (nat_le t log.cut))
  where
    go : (t : ℕ) (x y : Bool) → IsKnown (if x then (if y then F else event_at log.events t) else Q)
    go t true true = tt
    go t true false = event_known log.events t l.events
    go t false y = tt

-- a broker that starts from a log within the limits is within them
pub started_in : {late : List ℕ} (net : Net) (p b : ℕ) (log : Log) → LogIn late log → ViewIn (started net p b log)
unfolding started
started_in net p b log l = record { know = go (is_host net p b); wants = all_tabulated (RunsIn IsWanted) (λ _. []) (net.children p b) (λ c. tt); asks = tt; horizon = omega arith; joins = few (is_host net p b) }
  where
    few : (q : Bool) → length (if q then log.joins else []) ≤ MAX_JOINS
    few true = l.held.joins.few
    few false = omega arith

    go : (q : Bool) → RunsIn IsKnown (if q then log_know log else [])
    go true = log_know_in log l
    go false = tt
