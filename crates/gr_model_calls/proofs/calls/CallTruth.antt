-- Each call of a broker keeps what it knows, wants and sends true
use Rattle.std.proofs.Common.{◌≡◌, ◌≢◌, inl, inr, ◌⊎◌, ⊎_elim, ℕ, suc, ◌+◌, ◌-◌, ◌≤◌, ◌<◌, Bool, true, false, not, ◌&&◌, ◌||◌, List, [], ◌∷◌, ◌++◌, map, set, get_or, refl, sym, ap, ap₂, ◌∙◌, subst, Option, Some, None, arith, le_trans, le_refl}
use Rattle.std.specs.Prelude.{zero, nat_eq, nat_le, nat_lt, if◌then◌else◌}
use Rattle.std.specs.List.{list_any}
use Rattle.std.proofs.lemmas.Bool.{cases_Bool, cases_lt, false≢true, true≢false, eqb-true, eq-eqb, or_left, or_right, leb-true, ltb-true, le-leb, lt-leb, lt-ltb, le-ltb}
use Rattle.gr_know.specs.declared.values.K.{K}
use Rattle.gr_know.specs.declared.values.K.TheVariants.{Q, S, D, F}
use Rattle.gr_curio.specs.declared.values.Q3.{Q3}
use Rattle.gr_curio.specs.declared.values.Q3.TheVariants.{N, C, A}
use Rattle.gr_frame.specs.declared.Body.{Body}
use Rattle.gr_frame.specs.declared.Body.TheVariants as body
use Rattle.gr_frame.specs.declared.Frame.{Frame}
use Rattle.gr_tick.specs.Runs.{AreRuns, points, zip_runs, IsSteady, IsNone, IsPast, first_bottom_from, top_of}
use Rattle.gr_know.specs.Values.{Known, known_at, is_Q, join_K, same_K}
use Rattle.gr_curio.specs.Values.{Wanted, Asked, wanted_at, asked_at, is_C, is_A, same_Q3, same_moment, is_outstanding}
use Rattle.gr_model.specs.Net.{Net, is_host, keeps_horizon, pass, not_empty, is_empty}
use Rattle.gr_model.specs.Broker.{with_joins, View, Log, Outcome, know_frames, passed, want_frames, expect_frame, all_points, is_consolidated_by, consolidated, finished, is_F, open_asks, kept_view, kept_view_below, horizon_after, new_ticks, forward, still_wanted, forward_frames, forward_wants, learn, max_tick, due, noted, upward, up_frames, asking, answers, answer, curious, stored, acknowledged, curiosity, wake_below, wanted_at_wake, any_C, expect, expect_frames, covers, place_of, head}
use Rattle.gr_frame.specs.Bytes.{known_run_size, wanted_run_size, head_size, cut_frames}
use Rattle.gr_event.specs.declared.event.Event.{Event}
use Rattle.gr_event.specs.Event.{same_event}
use Rattle.gr_event.specs.Joins.{Joins, longer}
use Rattle.gr_model_calls.proofs.calls.Held.{fewer, either, both, holds_later}
use Rattle.gr_model_calls.specs.Truth.{Holds, HasEvent, Facts, TrueF, IsTrueAt, KnowsTruth, WantsTruth, AllWantTruth, IsLater}
use Rattle.gr_model.specs.Tree.{IsPlace}
use Rattle.gr_model_calls.specs.Fits.{IsHorizon, ViewTrue, BodyTrue}
use Rattle.gr_tick.proofs.RunLaws.{AreRunsOf, tabulate-is, zip_runs-is, first_bottom_from-is, IsNone-append, IsPast-append, value_at-step, value_at-past, value_at-start}
use Rattle.gr_know.proofs.ValueLaws.{K_decides}
use Rattle.gr_curio.proofs.ValueLaws.{Q3_decides, moment_decides}
use Rattle.gr_model_calls.proofs.calls.Pieces.{AllParts, cut_frames-parts, consolidated-is, IsLowered, forgotten-is}
use Rattle.gr_model_calls.proofs.calls.Passed.{passed-is}
use Rattle.gr_model_calls.proofs.calls.TruthTicks.{TrueF-later, IsTrueAt-later, join_true, pass_true, consolidated_true}
use Rattle.gr_curio.specs.declared.asks.Moment.{Moment}
use Rattle.gr_curio.specs.declared.asks.Moment.TheVariants.{Never, At}
use Rattle.gr_curio.specs.Wants.{answered_of}
use Rattle.gr_curio.specs.Due.{due_of, noted_of}

-- knowledge that has at each tick a true value
pub KnowsTruth-by : (net : Net) (f : Facts) (p b : ℕ) (g : ℕ → K) (know : Known) → AreRunsOf Q g know → ((t : ℕ) → IsTrueAt net f p b t (g t)) → KnowsTruth net f p b know
KnowsTruth-by net f p b g know r h = record { runs = r.runs; each = λ t. subst (λ k. IsTrueAt net f p b t k) (sym (r.same_at t)) (h t) }

pub WantsTruth-by : (net : Net) (f : Facts) (p c : ℕ) (g : ℕ → Q3) (w : Wanted) → AreRunsOf N g w → ((t : ℕ) → g t ≡ A → TrueF net f p c t) → WantsTruth net f p c w
WantsTruth-by net f p c g w r h = record { runs = r.runs; each = λ t e. h t (sym (r.same_at t) ∙ e) }

-- what is known truly stays true as more is logged and subscribers come on
pub KnowsTruth-later : (net : Net) (f g : Facts) (p b : ℕ) (know : Known) → IsLater f g → KnowsTruth net f p b know → KnowsTruth net g p b know
KnowsTruth-later net f g p b know l h = record { runs = h.runs; each = λ t. IsTrueAt-later net f g p b t (known_at know t) l (h.each t) }

-- a child's curiosity that is true stays true as more is logged and subscribers come on
pub WantsTruth-later : (net : Net) (f g : Facts) (p c : ℕ) (w : Wanted) → IsLater f g → WantsTruth net f p c w → WantsTruth net g p c w
WantsTruth-later net f g p c w l h = record { runs = h.runs; each = λ t e. TrueF-later net f g p c t l (h.each t e) }

pub AllWantTruth-later : (net : Net) (f g : Facts) (p : ℕ) (cs : List ℕ) (ws : List Wanted) → IsLater f g → AllWantTruth net f p cs ws → AllWantTruth net g p cs ws
AllWantTruth-later net f g p [] [] l h = tt
AllWantTruth-later net f g p (c ∷ cs) (w ∷ ws) l h = (WantsTruth-later net f g p c w l h.0, AllWantTruth-later net f g p cs ws l h.1)
AllWantTruth-later net f g p [] (w ∷ ws) l h = absurd h
AllWantTruth-later net f g p (c ∷ cs) [] l h = absurd h

-- something canonical is stored of each child
abbrev pub AllWantRuns : List ℕ → List Wanted → Type 0
AllWantRuns [] [] = Unit {0}
AllWantRuns (c ∷ cs) (w ∷ ws) = AreRuns N w × AllWantRuns cs ws
AllWantRuns [] (w ∷ ws) = ⊥
AllWantRuns (c ∷ cs) [] = ⊥

-- so it is where what is stored is true
pub want_runs : (net : Net) (f : Facts) (p : ℕ) (cs : List ℕ) (ws : List Wanted) → AllWantTruth net f p cs ws → AllWantRuns cs ws
want_runs net f p [] [] a = tt
want_runs net f p [] (w ∷ ws) a = absurd a
want_runs net f p (c ∷ cs) [] a = absurd a
want_runs net f p (c ∷ cs) (w ∷ ws) a = (a.0.runs, want_runs net f p cs ws a.1)

-- what is stored at a place is canonical, and all is still where something canonical is put there
pub get_runs : (cs : List ℕ) (ws : List Wanted) (i : ℕ) → AllWantRuns cs ws → AreRuns N (get_or ws i [])
get_runs [] [] i a = tt
get_runs [] (w ∷ ws) i a = absurd a
get_runs (c ∷ cs) [] i a = absurd a
get_runs (c ∷ cs) (w ∷ ws) zero a = a.0
get_runs (c ∷ cs) (w ∷ ws) (suc i) a = get_runs cs ws i a.1

pub set_runs : (cs : List ℕ) (ws : List Wanted) (i : ℕ) (x : Wanted) → AllWantRuns cs ws → AreRuns N x → AllWantRuns cs (set ws i x)
set_runs [] [] i x a r = tt
set_runs [] (w ∷ ws) i x a r = absurd a
set_runs (c ∷ cs) [] i x a r = absurd a
set_runs (c ∷ cs) (w ∷ ws) zero x a r = (r, a.1)
set_runs (c ∷ cs) (w ∷ ws) (suc i) x a r = (a.0, set_runs cs ws i x a.1 r)

-- learning: the join with a true piece
pub joined_true : (net : Net) (f : Facts) (p b : ℕ) (know piece : Known) → KnowsTruth net f p b know → KnowsTruth net f p b piece → KnowsTruth net f p b (zip_runs Q Q Q same_K join_K know piece)
joined_true net f p b know piece h i =
    KnowsTruth-by net f p b (λ t. join_K (known_at know t) (known_at piece t)) (zip_runs Q Q Q same_K join_K know piece) (zip_runs-is Q Q Q same_K K_decides join_K know piece refl h.runs i.runs)
    (λ t. join_true net f p b t (known_at know t) (known_at piece t) (h.each t) (i.each t))

-- the new ticks of a piece are those that were unknown before
pub new_ticks-is : (know piece : Known) → AreRuns Q know → AreRuns Q piece → AreRunsOf Q (λ t. if is_Q (known_at know t) then known_at piece t else Q) (new_ticks know piece)
unfolding new_ticks
new_ticks-is know piece h i = zip_runs-is Q Q Q same_K K_decides (λ k x. if is_Q k then x else Q) know piece refl h i

-- one of two values
if_true : (net : Net) (f : Facts) (p b t : ℕ) (c : Bool) (k x : K) → IsTrueAt net f p b t k → IsTrueAt net f p b t x → IsTrueAt net f p b t (if c then k else x)
if_true net f p b t true k x h i = h
if_true net f p b t false k x h i = i

pub new_true : (net : Net) (f : Facts) (p b : ℕ) (know piece : Known) → KnowsTruth net f p b know → KnowsTruth net f p b piece → KnowsTruth net f p b (new_ticks know piece)
new_true net f p b know piece h i =
    KnowsTruth-by net f p b (λ t. if is_Q (known_at know t) then known_at piece t else Q) (new_ticks know piece) (new_ticks-is know piece h.runs i.runs)
    (λ t. if_true net f p b t (is_Q (known_at know t)) (known_at piece t) Q (i.each t) tt)

-- a child is forwarded what its edge passes of the new ticks, but for those that it has acknowledged
pub forward-is : (net : Net) (p c : ℕ) (w : Wanted) (new : Known) → AreRuns N w → AreRuns Q new → AreRunsOf Q (λ t. if is_A (wanted_at w t) then Q else pass net p c t (known_at new t)) (forward net p c w new)
unfolding forward
forward-is net p c w new h i =
    let s = passed-is net p c new i in
    let z = zip_runs-is Q N Q same_K K_decides (λ v a. if is_A a then Q else v) (passed net p c new) w refl s.runs h in
    record { runs = z.runs; same_at = λ t. z.same_at t ∙ ap (λ v. if is_A (wanted_at w t) then Q else v) (s.same_at t) }

-- forwarding: what a child is sent is true at the edge to it
pub forward_true : (net : Net) (f : Facts) (p b c : ℕ) (w : Wanted) (new : Known) → IsPlace net p b → list_any (λ x. nat_eq x c) (net.children p b) ≡ true → AreRuns N w → KnowsTruth net f p b new → KnowsTruth net f p c (forward net p c w new)
forward_true net f p b c w new place child h i =
    KnowsTruth-by net f p c (λ t. if is_A (wanted_at w t) then Q else pass net p c t (known_at new t)) (forward net p c w new) (forward-is net p c w new h i.runs)
    (λ t. if_true net f p c t (is_A (wanted_at w t)) Q (pass net p c t (known_at new t)) tt (pass_true net f p b c t (known_at new t) place child (i.each t)))

answered_if : (q : Bool) (a : Q3) → answered_of q a ≡ (if is_C a && q then N else a)
answered_if true N = refl
answered_if true C = refl
answered_if true A = refl
answered_if false N = refl
answered_if false C = refl
answered_if false A = refl

-- knowledge that is sent to a child ends its question at that tick, and nothing else
pub quenched-is : (w : Wanted) (sent : Known) → AreRuns N w → AreRuns Q sent → AreRunsOf N (λ t. if is_C (wanted_at w t) && not (is_Q (known_at sent t)) then N else wanted_at w t) (still_wanted w sent)
unfolding still_wanted
quenched-is w sent h i =
    let z = zip_runs-is N Q N same_Q3 Q3_decides (λ a v. answered_of (not (is_Q v)) a) w sent refl h i in
    record { runs = z.runs; same_at = λ t. z.same_at t ∙ answered_if (not (is_Q (known_at sent t))) (wanted_at w t) }

quench_A : (b : Bool) (q : Q3) → (if b then N else q) ≡ A → q ≡ A
quench_A true q h = cc
quench_A false q h = h

pub quenched_true : (net : Net) (f : Facts) (p c : ℕ) (w : Wanted) (sent : Known) → WantsTruth net f p c w → AreRuns Q sent → WantsTruth net f p c (still_wanted w sent)
quenched_true net f p c w sent h i =
    WantsTruth-by net f p c (λ t. if is_C (wanted_at w t) && not (is_Q (known_at sent t)) then N else wanted_at w t) (still_wanted w sent) (quenched-is w sent h.runs i)
    (λ t e. h.each t (quench_A (is_C (wanted_at w t) && not (is_Q (known_at sent t))) (wanted_at w t) e))

-- a consolidated tick becomes final, each other tick stays as it is known
pub finished-is : (know : Known) (done : Wanted) → AreRuns Q know → AreRuns N done → AreRunsOf Q (λ t. if is_A (wanted_at done t) then F else known_at know t) (finished know done)
unfolding finished
finished-is know done h i = zip_runs-is Q N Q same_K K_decides (λ k c. if is_A c then F else k) know done refl h i

-- a broker keeps a horizon or has a child
keeps_or_child : (net : Net) (p b : ℕ) (ws : List Wanted) → (is_empty (net.children p b) ≡ false → not_empty ws ≡ true) → (keeps_horizon net p b || not_empty ws) ≡ true
keeps_or_child net p b ws h =
    elim (cases_Bool (is_empty (net.children p b))) [
      | inl e ↦ or_left (keeps_horizon net p b) (not_empty ws) (or_right (not_empty (net.subscribers_at b)) (is_empty (net.children p b)) e)
      | inr e ↦ or_right (keeps_horizon net p b) (not_empty ws) (h e)
    ]

some_wants : (cs : List ℕ) (ws : List Wanted) → AllWantRuns cs ws → is_empty cs ≡ false → not_empty ws ≡ true
some_wants [] ws a e = absurd (true≢false e)
some_wants (c ∷ cs) [] a e = absurd a
some_wants (c ∷ cs) (w ∷ ws) a e = refl

-- what a broker consolidates, whatever the horizon, is an acknowledgement exactly at its consolidated ticks
pub done-is : (net : Net) (p b h : ℕ) (ws : List Wanted) → AllWantRuns (net.children p b) ws → AreRunsOf N (λ t. if is_consolidated_by (keeps_horizon net p b) h ws t then A else N) (consolidated (keeps_horizon net p b) h ws)
done-is net p b h ws a = consolidated-is (keeps_horizon net p b) h ws (keeps_or_child net p b ws (some_wants (net.children p b) ws a))

done_A : (b : Bool) → (if b then A else N) ≡ A → b ≡ true
done_A true e = refl
done_A false e = cc

-- the test for an acknowledgement passes nothing else
pub A_is : (q : Q3) → is_A q ≡ true → q ≡ A
A_is N h = absurd (false≢true h)
A_is C h = absurd (false≢true h)
A_is A h = refl

-- consolidation: each A of the consolidated ticks is true of the broker itself
pub done_true : (net : Net) (f : Facts) (p b h : ℕ) (ws : List Wanted) → IsPlace net p b → AllWantTruth net f p (net.children p b) ws → IsHorizon net f b h → WantsTruth net f p b (consolidated (keeps_horizon net p b) h ws)
done_true net f p b h ws place a hor =
    WantsTruth-by net f p b (λ t. if is_consolidated_by (keeps_horizon net p b) h ws t then A else N) (consolidated (keeps_horizon net p b) h ws)
    (done-is net p b h ws (want_runs net f p (net.children p b) ws a))
    (λ t e. consolidated_true net f p b h t ws place a hor.settled hor.here (done_A (is_consolidated_by (keeps_horizon net p b) h ws t) e))

-- and F at these ticks is true
pub finished_true : (net : Net) (f : Facts) (p b : ℕ) (know : Known) (done : Wanted) → KnowsTruth net f p b know → WantsTruth net f p b done → KnowsTruth net f p b (finished know done)
finished_true net f p b know done k d =
    KnowsTruth-by net f p b (λ t. if is_A (wanted_at done t) then F else known_at know t) (finished know done) (finished-is know done k.runs d.runs)
    (λ t. elim (cases_Bool (is_A (wanted_at done t))) [
      | inl e ↦ rw e (d.each t (A_is (wanted_at done t) e))
      | inr e ↦ rw e (k.each t)
    ])

pub lowered_true : (net : Net) (f : Facts) (p b upto : ℕ) (old new : Known) → IsLowered 1 upto old new → KnowsTruth net f p b old → KnowsTruth net f p b new
lowered_true net f p b upto old new l k = record {
  runs = l.runs;
  each = λ t. ⊎_elim (λ e. subst (λ x. IsTrueAt net f p b t x) (sym e) (k.each t)) (λ e. subst (λ x. IsTrueAt net f p b t x) (sym e.0) tt) (l.each t);
}

-- No call makes an event

Q_no_event : (e : Event) → Q ≡ D e → ⊥
Q_no_event e h = cc

lowered_event : (upto : ℕ) (old new : Known) → IsLowered 1 upto old new → (t : ℕ) → HasEvent new t → HasEvent old t
lowered_event upto old new l t x = ⊎_elim (λ e. (x.0, sym e ∙ x.1)) (λ e. absurd (Q_no_event x.0 (sym e.0 ∙ x.1))) (l.each t)

finished_event : (know : Known) (done : Wanted) → AreRuns Q know → AreRuns N done → (t : ℕ) → HasEvent (finished know done) t → HasEvent know t
finished_event know done k d t x = (x.0, go (is_A (wanted_at done t)) (sym ((finished-is know done k d).same_at t) ∙ x.1))
  where
    go : (q : Bool) → (if q then F else known_at know t) ≡ D x.0 → known_at know t ≡ D x.0
    go true e = cc
    go false e = e

joined_event : (know piece : Known) → AreRuns Q know → AreRuns Q piece → (t : ℕ) → HasEvent (zip_runs Q Q Q same_K join_K know piece) t → HasEvent know t ⊎ HasEvent piece t
joined_event know piece k i t x = ⊎_elim (λ e. inl (x.0, e)) (λ e. inr (x.0, e)) (join_event (known_at know t) (known_at piece t) x.0 (sym ((zip_runs-is Q Q Q same_K K_decides join_K know piece refl k i).same_at t) ∙ x.1))
  where
    join_event : (k x : K) (e : Event) → join_K k x ≡ D e → (k ≡ D e) ⊎ (x ≡ D e)
    join_event Q x e h = inr h
    join_event F x e h = cc
    join_event S Q e h = cc
    join_event S S e h = cc
    join_event S (D b) e h = cc
    join_event S F e h = cc
    join_event (D a) Q e h = inl h
    join_event (D a) S e h = cc
    join_event (D a) (D b) e h = inl (pick (same_event a b) h)
      where
        pick : (q : Bool) → (if q then D a else F) ≡ D e → D a ≡ D e
        pick true z = z
        pick false z = cc
    join_event (D a) F e h = cc

new_event : (know piece : Known) → AreRuns Q know → AreRuns Q piece → (t : ℕ) → HasEvent (new_ticks know piece) t → HasEvent piece t
new_event know piece k i t x = (x.0, go (is_Q (known_at know t)) (sym ((new_ticks-is know piece k i).same_at t) ∙ x.1))
  where
    go : (q : Bool) → (if q then known_at piece t else Q) ≡ D x.0 → known_at piece t ≡ D x.0
    go true e = e
    go false e = cc

pass_event : (net : Net) (p c t : ℕ) (k : K) (e : Event) → pass net p c t k ≡ D e → k ≡ D e
pass_event net p c t Q e x = x
pass_event net p c t S e x = x
pass_event net p c t F e x = x
pass_event net p c t (D a) e x = go (list_any (λ s. net.wants p s t a) (net.below p c)) x
  where
    go : (q : Bool) → (elim q as (λ z. K) [ true ↦ D a | false ↦ S ]) ≡ D e → D a ≡ D e
    go true z = z
    go false z = cc

forward_event : (net : Net) (p c : ℕ) (w : Wanted) (new : Known) → AreRuns N w → AreRuns Q new → (t : ℕ) → HasEvent (forward net p c w new) t → HasEvent new t
forward_event net p c w new a n t x = (x.0, pass_event net p c t (known_at new t) x.0 (go (is_A (wanted_at w t)) (sym ((forward-is net p c w new a n).same_at t) ∙ x.1)))
  where
    go : (q : Bool) → (if q then Q else pass net p c t (known_at new t)) ≡ D x.0 → pass net p c t (known_at new t) ≡ D x.0
    go true e = cc
    go false e = e

-- what each of the frames says is true at its receiver
abbrev pub AllTrue : Net → Facts → ℕ → List Frame → Type 0
AllTrue net f p [] = Unit {0}
AllTrue net f p (x ∷ xs) = BodyTrue net f p x.head.from x.head.to x.body × AllTrue net f p xs

-- frames of two lists that are true are true in one
pub AllTrue-append : (net : Net) (f : Facts) (p : ℕ) (xs ys : List Frame) → AllTrue net f p xs → AllTrue net f p ys → AllTrue net f p (xs ++ ys)
AllTrue-append net f p [] ys a b = b
AllTrue-append net f p (x ∷ xs) ys a b = (a.0, AllTrue-append net f p xs ys a.1 b)

-- the frames of a true piece are true
pub know_frames_true : (net : Net) (f : Facts) (js : Joins) (p from to : ℕ) (runs : Known) → KnowsTruth net f p to runs → Holds f.joined js (HasEvent runs) → AllTrue net f p (know_frames js from to p runs)
know_frames_true net f js p from to runs k held = go (cut_frames (head_size js) known_run_size runs) (cut_frames-parts Q (head_size js) known_run_size runs k.runs)
  where
    go : (parts : List Known) → AllParts Q parts runs → AllTrue net f p (map (λ part. record { head = head from to p; body = body.Knowledge part js }) parts)
    go [] a = tt
    go (x ∷ xs) a = ((record { runs = a.0.0; each = λ t. ⊎_elim (λ e. subst (λ y. IsTrueAt net f p to t y) (sym e) (k.each t)) (λ e. subst (λ y. IsTrueAt net f p to t y) (sym e) tt) (a.0.1 t) }, fewer f.joined js (HasEvent runs) (HasEvent x) (λ t y. ⊎_elim (λ e. (y.0, sym e ∙ y.1)) (λ e. absurd (Q_no_event y.0 (sym e ∙ y.1))) (a.0.1 t)) held), go xs a.1)

pub want_frames_true : (net : Net) (f : Facts) (p from to : ℕ) (runs : Wanted) → WantsTruth net f p from runs → AllTrue net f p (want_frames from to p runs)
want_frames_true net f p from to runs k = go (cut_frames 12 wanted_run_size runs) (cut_frames-parts N 12 wanted_run_size runs k.runs)
  where
    none_A : N ≡ A → ⊥
    none_A e = cc

    go : (parts : List Wanted) → AllParts N parts runs → AllTrue net f p (map (λ part. record { head = head from to p; body = body.Curiosity part }) parts)
    go [] a = tt
    go (x ∷ xs) a = (record { runs = a.0.0; each = λ t q. ⊎_elim (λ e. k.each t (sym e ∙ q)) (λ e. absurd (none_A (sym e ∙ q))) (a.0.1 t) }, go xs a.1)

open_asks-is : (know : Known) (asks : Asked) → AreRuns Q know → AreRuns Never asks → AreRuns Never (open_asks know asks)
unfolding open_asks
open_asks-is know asks k a = (zip_runs-is Never Q Never same_moment moment_decides (λ moment k. if is_F k then Never else moment) asks know refl a k).runs

pub trimmed_true : (net : Net) (f : Facts) (p b : ℕ) (v : View) → ViewTrue net f p b v → ViewTrue net f p b (kept_view net p b v)
unfolding kept_view
trimmed_true net f p b v h = go (is_host net p b)
  where
    less : View
    less = kept_view_below net p b v

    go : (q : Bool) → ViewTrue net f p b (elim q [ true ↦ v | false ↦ less ])
    go true = h
    go false = record {
      know = lowered_true net f p b (if keeps_horizon net p b then v.horizon else max_tick) v.know less.know (forgotten-is net.cache (if keeps_horizon net p b then v.horizon else max_tick) v.know h.know.runs) h.know;
      wants = h.wants;
      asks = open_asks-is less.know v.asks (forgotten-is net.cache (if keeps_horizon net p b then v.horizon else max_tick) v.know h.know.runs).runs h.asks;
      horizon = h.horizon;
      held = fewer f.joined v.joins (HasEvent v.know) (HasEvent less.know) (lowered_event (if keeps_horizon net p b then v.horizon else max_tick) v.know less.know (forgotten-is net.cache (if keeps_horizon net p b then v.horizon else max_tick) v.know h.know.runs)) h.held;
    }

-- forwarding over all children
forward_wants_true : (net : Net) (f : Facts) (p b : ℕ) (new : Known) (cs : List ℕ) (ws : List Wanted) → IsPlace net p b → KnowsTruth net f p b new → ((c : ℕ) → list_any (λ x. nat_eq x c) cs ≡ true → list_any (λ x. nat_eq x c) (net.children p b) ≡ true) → AllWantTruth net f p cs ws → AllWantTruth net f p cs (forward_wants net p new cs ws)
forward_wants_true net f p b new [] [] place k m a = tt
forward_wants_true net f p b new [] (w ∷ ws) place k m a = absurd a
forward_wants_true net f p b new (c ∷ cs) [] place k m a = absurd a
forward_wants_true net f p b new (c ∷ cs) (w ∷ ws) place k m a = (
  quenched_true net f p c w (forward net p c w new) a.0 (forward_true net f p b c w new place (m c (or_left (nat_eq c c) (list_any (λ x. nat_eq x c) cs) (eq-eqb c c refl))) a.0.runs k).runs,
  forward_wants_true net f p b new cs ws place k (λ d e. m d (or_right (nat_eq c d) (list_any (λ x. nat_eq x d) cs) e)) a.1,
)

-- forwarding keeps what is stored canonical
pub forward_runs : (net : Net) (p : ℕ) (new : Known) (cs : List ℕ) (ws : List Wanted) → AreRuns Q new → AllWantRuns cs ws → AllWantRuns cs (forward_wants net p new cs ws)
forward_runs net p new [] [] r a = tt
forward_runs net p new [] (w ∷ ws) r a = absurd a
forward_runs net p new (c ∷ cs) [] r a = absurd a
forward_runs net p new (c ∷ cs) (w ∷ ws) r a = ((quenched-is w (forward net p c w new) a.0 (forward-is net p c w new a.0 r).runs).runs, forward_runs net p new cs ws r a.1)

forward_frames_true : (net : Net) (f : Facts) (js : Joins) (p b : ℕ) (new : Known) (cs : List ℕ) (ws : List Wanted) → IsPlace net p b → KnowsTruth net f p b new → Holds f.joined js (HasEvent new) → ((c : ℕ) → list_any (λ x. nat_eq x c) cs ≡ true → list_any (λ x. nat_eq x c) (net.children p b) ≡ true) → AllWantTruth net f p cs ws → AllTrue net f p (forward_frames js net p b new cs ws)
forward_frames_true net f js p b new [] [] place k held m a = tt
forward_frames_true net f js p b new [] (w ∷ ws) place k held m a = absurd a
forward_frames_true net f js p b new (c ∷ cs) [] place k held m a = absurd a
forward_frames_true net f js p b new (c ∷ cs) (w ∷ ws) place k held m a =
    AllTrue-append net f p (know_frames js b c p (forward net p c w new)) (forward_frames js net p b new cs ws)
    (know_frames_true net f js p b c (forward net p c w new) (forward_true net f p b c w new place (m c (or_left (nat_eq c c) (list_any (λ x. nat_eq x c) cs) (eq-eqb c c refl))) a.0.runs k) (fewer f.joined js (HasEvent new) (HasEvent (forward net p c w new)) (forward_event net p c w new a.0.runs k.runs) held))
    (forward_frames_true net f js p b new cs ws place k held (λ d e. m d (or_right (nat_eq c d) (list_any (λ x. nat_eq x d) cs) e)) a.1)

-- a tick with a true value that is not Q is settled
pub true_settled : (net : Net) (f : Facts) (p b t : ℕ) (k : K) → IsTrueAt net f p b t k → k ≢ Q → t ≤ f.settled
true_settled net f p b t Q h n = absurd (n refl)
true_settled net f p b t S h n = h.settled
true_settled net f p b t (D e) h n = h.settled
true_settled net f p b t F h n = h.settled

-- the horizon moves on, and stays within what is settled
pub record HorizonMoves (net : Net) (f : Facts) (know : Known) (h h' : ℕ) : Type 0 where
  pub on : h ≤ h'
  pub settled : h' ≤ f.settled
  pub known : (t : ℕ) → h < t → t ≤ h' → known_at know t ≢ Q

-- a kept horizon moves on over known ticks, never back, and never past what is settled
pub horizon_after-is : (net : Net) (f : Facts) (p b : ℕ) (keeps : Bool) (h : ℕ) (know : Known) → KnowsTruth net f p b know → h ≤ f.settled → HorizonMoves net f know h (horizon_after keeps h know)
unfolding horizon_after
horizon_after-is net f p b false h know k s = record { on = le_refl h; settled = s; known = λ t a c. absurd (omega arith) }
horizon_after-is net f p b true h know k s =
    let u = first_bottom_from know (suc h) in
    let i = first_bottom_from-is Q 1 know (suc h) k.runs in
    record {
      on = omega (arith, i.reached);
      settled = elim (cases_lt (suc h) u) [
        | inl l ↦ true_settled net f p b (u - 1) (known_at know (u - 1)) (k.each (u - 1)) (i.known (u - 1) (omega arith) (omega arith))
        | inr l ↦ omega (arith, i.reached, s)
      ];
      known = λ t a c. i.known t a (omega arith);
    }

-- the horizon after a piece was learned
abbrev pub learned_horizon : Net → ℕ → ℕ → Known → View → ℕ
learned_horizon net p b piece v = horizon_after (keeps_horizon net p b) v.horizon (zip_runs Q Q Q same_K join_K v.know piece)

-- the view that a call leaves is true, and so is what its frames say
pub record OutcomeTrue (net : Net) (f : Facts) (p b : ℕ) (o : Outcome) : Type 0 where
  pub view : ViewTrue net f p b o.view
  pub frames : AllTrue net f p o.frames

-- each event that is known truly is of a settled tick
pub events_settled : (net : Net) (f : Facts) (p b : ℕ) (know : Known) → KnowsTruth net f p b know → (t : ℕ) → HasEvent know t → t ≤ f.settled
events_settled net f p b know k t x = go (known_at know t) (k.each t) x.1
  where
    go : (v : K) → IsTrueAt net f p b t v → v ≡ D x.0 → t ≤ f.settled
    go Q h e = absurd (Q_no_event x.0 e)
    go S h e = h.settled
    go (D a) h e = h.settled
    go F h e = h.settled

pub AllTrue-later : (net : Net) (f g : Facts) (p : ℕ) (xs : List Frame) → IsLater f g → AllTrue net f p xs → AllTrue net g p xs
AllTrue-later net f g p [] l a = tt
AllTrue-later net f g p (x ∷ xs) l a = (body_later x.body a.0, AllTrue-later net f g p xs l a.1)
  where
    body_later : (y : Body) → BodyTrue net f p x.head.from x.head.to y → BodyTrue net g p x.head.from x.head.to y
    body_later (body.Knowledge runs js) h = (KnowsTruth-later net f g p x.head.to runs l h.0, holds_later f.joined g.joined js f.settled (HasEvent runs) l.joined (events_settled net f p x.head.to runs h.0) h.1)
    body_later (body.Curiosity runs) h = WantsTruth-later net f g p x.head.from runs l h
    body_later (body.Expect tick) h = le_trans h l.settled

-- learning a true piece leaves and sends what is true, once the subscribers here have come to the new horizon
pub learn_true : (net : Net) (f g : Facts) (p b : ℕ) (piece : Known) (v : View) (log : Log) → IsPlace net p b → ViewTrue net f p b v → KnowsTruth net f p b piece → Holds f.joined v.joins (HasEvent piece) → IsLater f g → IsHorizon net g b (learned_horizon net p b piece v) → OutcomeTrue net g p b (learn net p b piece v log)
unfolding learn
learn_true net f g p b piece v log place h i hp l hor =
    let know = zip_runs Q Q Q same_K join_K v.know piece in
    let new = new_ticks v.know piece in
    let k = KnowsTruth-later net f g p b know l (joined_true net f p b v.know piece h.know i) in
    let n = KnowsTruth-later net f g p b new l (new_true net f p b v.know piece h.know i) in
    let held = holds_later f.joined g.joined v.joins f.settled (λ t. HasEvent v.know t ⊎ HasEvent piece t) l.joined (λ t x. ⊎_elim (λ y. events_settled net f p b v.know h.know t y) (λ y. events_settled net f p b piece i t y) x) (either f.joined v.joins (HasEvent v.know) (HasEvent piece) h.held hp) in
    let a = AllWantTruth-later net f g p (net.children p b) v.wants l h.wants in
    let ws = forward_wants net p new (net.children p b) v.wants in
    let w = forward_wants_true net g p b new (net.children p b) v.wants place n (λ c e. e) a in
    let h' = learned_horizon net p b piece v in
    let done = consolidated (keeps_horizon net p b) h' ws in
    record {
      view = trimmed_true net g p b (record { know = finished know done; wants = ws; asks = v.asks; horizon = h'; joins = v.joins }) (record {
        know = finished_true net g p b know done k (done_true net g p b h' ws place w hor);
        wants = w;
        asks = h.asks;
        horizon = hor;
        held = fewer g.joined v.joins (λ t. HasEvent v.know t ⊎ HasEvent piece t) (HasEvent (finished know done)) (λ t x. joined_event v.know piece h.know.runs i.runs t (finished_event know done k.runs (done_true net g p b h' ws place w hor).runs t x)) held;
      });
      frames = forward_frames_true net g v.joins p b new (net.children p b) v.wants place n (fewer g.joined v.joins (λ t. HasEvent v.know t ⊎ HasEvent piece t) (HasEvent new) (λ t x. inr (new_event v.know piece h.know.runs i.runs t x)) held) (λ c e. e) a;
    }

-- Asking

-- a set of wanted ticks that is steady between points
pub record IsWanted (wanted : ℕ → Bool) (ps : List ℕ) : Type 0 where
  pub start : wanted 0 ≡ false
  pub step : (t : ℕ) → IsNone (suc t) ps → wanted (suc t) ≡ wanted t
  pub past : (t : ℕ) → IsPast t ps → wanted t ≡ false

due_if : (moment : Moment) (q : Bool) (now retry : ℕ) → due_of moment (if q then C else N) now retry ≡ (if q && not (is_outstanding moment now retry) then C else N)
due_if moment true now retry = refl
due_if moment false now retry = refl

-- the wanted ticks that are unknown, and of which no ask is outstanding, are asked
pub due-at : (now retry : ℕ) (know : Known) (asks : Asked) (wanted : ℕ → Bool) (ps : List ℕ) → IsWanted wanted ps →
    AreRunsOf N (λ t. if wanted t && is_Q (known_at know t) && not (is_outstanding (asked_at asks t) now retry) then C else N) (due now retry know asks wanted ps)
unfolding due
due-at now retry know asks wanted ps w =
    let d = tabulate-is N same_Q3 Q3_decides (λ t. due_of (asked_at asks t) (if wanted t && is_Q (known_at know t) then C else N) now retry) (ps ++ points know ++ points asks) (record {
      start = rw w.start refl;
      step = λ t n. let x = IsNone-append (suc t) (ps ++ points know) (points asks) n in let y = IsNone-append (suc t) ps (points know) x.0 in
          ap₂ (λ m q. due_of m (if q then C else N) now retry) (value_at-step Never asks t x.1) (ap₂ (λ c d. c && d) (w.step t y.0) (ap is_Q (value_at-step Q know t y.1)));
      past = λ t n. let x = IsPast-append t (ps ++ points know) (points asks) n in let y = IsPast-append t ps (points know) x.0 in rw (w.past t y.0) refl;
    }) in
    record { runs = d.runs; same_at = λ t. d.same_at t ∙ due_if (asked_at asks t) (wanted t && is_Q (known_at know t)) now retry }

due_C : (b : Bool) → (if b then C else N) ≡ A → ⊥
due_C true e = cc
due_C false e = cc

-- what is asked has the moment of the ask
pub noted-at : (now : ℕ) (asks : Asked) (asked : Wanted) → AreRuns Never asks → AreRuns N asked → AreRunsOf Never (λ t. if is_C (wanted_at asked t) then At now else asked_at asks t) (noted now asks asked)
unfolding noted
noted-at now asks asked a w = zip_runs-is Never N Never same_moment moment_decides (noted_of now) asks asked refl a w

-- what goes upstream is acknowledged where all is consolidated, and else asked
pub upward-at : (done asked : Wanted) → AreRuns N done → AreRuns N asked → AreRunsOf N (λ t. if is_A (wanted_at done t) then A else wanted_at asked t) (upward done asked)
unfolding upward
upward-at done asked d a = zip_runs-is N N N same_Q3 Q3_decides (λ c a. if is_A c then A else a) done asked refl d a

-- what goes upstream: an A only where it is true of the sender
upward_true : (net : Net) (f : Facts) (p b : ℕ) (done asked : Wanted) → WantsTruth net f p b done → WantsTruth net f p b asked → WantsTruth net f p b (upward done asked)
upward_true net f p b done asked d a =
    WantsTruth-by net f p b (λ t. if is_A (wanted_at done t) then A else wanted_at asked t) (upward done asked) (upward-at done asked d.runs a.runs)
    (λ t. elim (cases_Bool (is_A (wanted_at done t))) [
      | inl e ↦ rw e (λ q. d.each t (A_is (wanted_at done t) e))
      | inr e ↦ rw e (λ q. a.each t q)
    ])

up_frames_true : (net : Net) (f : Facts) (p b : ℕ) (runs : Wanted) → WantsTruth net f p b runs → AllTrue net f p (up_frames net p b runs)
up_frames_true net f p b runs w = go (net.up p b)
  where
    go : (u : Option ℕ) → AllTrue net f p (elim u [ Some u ↦ want_frames b u p runs | None ↦ [] ])
    go None = tt
    go (Some u) = want_frames_true net f p b u runs w

due_true : (net : Net) (f : Facts) (p b now : ℕ) (know : Known) (asks : Asked) (wanted : ℕ → Bool) (ps : List ℕ) → AreRuns Q know → AreRuns Never asks → IsWanted wanted ps → WantsTruth net f p b (due now net.retry know asks wanted ps)
due_true net f p b now know asks wanted ps k a w =
    WantsTruth-by net f p b (λ t. if wanted t && is_Q (known_at know t) && not (is_outstanding (asked_at asks t) now net.retry) then C else N) (due now net.retry know asks wanted ps)
    (due-at now net.retry know asks wanted ps w)
    (λ t e. absurd (due_C (wanted t && is_Q (known_at know t) && not (is_outstanding (asked_at asks t) now net.retry)) e))

-- asking keeps and sends what is true
pub asking_true : (net : Net) (f : Facts) (p b now : ℕ) (wanted : ℕ → Bool) (ps : List ℕ) (v : View) (log : Log) → IsPlace net p b → ViewTrue net f p b v → IsWanted wanted ps → OutcomeTrue net f p b (asking net p b now wanted ps v log)
unfolding asking
asking_true net f p b now wanted ps v log place h w =
    let done = consolidated (keeps_horizon net p b) v.horizon v.wants in
    let asked = due now net.retry v.know v.asks wanted ps in
    let d = done_true net f p b v.horizon v.wants place h.wants h.horizon in
    let a = due_true net f p b now v.know v.asks wanted ps h.know.runs h.asks w in
    record {
      view = trimmed_true net f p b (record { know = v.know; wants = v.wants; asks = noted now v.asks asked; horizon = v.horizon; joins = v.joins }) (record {
        know = h.know;
        wants = h.wants;
        asks = (noted-at now v.asks asked h.asks a.runs).runs;
        horizon = h.horizon;
        held = h.held;
      });
      frames = up_frames_true net f p b (upward done asked) (upward_true net f p b done asked d a);
    }

-- Wanted sets

same_test : (x y : Bool) → (x ≡ true → y ≡ true) → (y ≡ true → x ≡ true) → x ≡ y
same_test true true a b = refl
same_test false false a b = refl
same_test true false a b = sym (a refl)
same_test false true a b = b refl

above_step : (h t : ℕ) → suc t ≢ suc h → nat_lt h (suc t) ≡ nat_lt h t
above_step h t n = same_test (nat_lt h (suc t)) (nat_lt h t)
    (λ e. let m : t ≡ h → ⊥ = λ g. n (ap suc g) in lt-ltb h t (omega (arith, ltb-true h (suc t) e, m)))
    (λ e. lt-ltb h (suc t) (omega (arith, ltb-true h t e)))

ago_step : (gap now t : ℕ) → suc t ≢ suc (now - gap) → nat_le (suc t + gap) now ≡ nat_le (t + gap) now
ago_step gap now t n = same_test (nat_le (suc t + gap) now) (nat_le (t + gap) now)
    (λ e. le-leb (t + gap) now (omega (arith, leb-true (suc t + gap) now e)))
    (λ e. let m : t ≡ now - gap → ⊥ = λ g. n (ap suc g) in le-leb (suc t + gap) now (omega (arith, leb-true (t + gap) now e, m)))

below_step : (top t : ℕ) → suc t ≢ top → nat_lt (suc t) top ≡ nat_lt t top
below_step top t n = same_test (nat_lt (suc t) top) (nat_lt t top)
    (λ e. lt-ltb t top (omega (arith, ltb-true (suc t) top e)))
    (λ e. lt-ltb (suc t) top (omega (arith, ltb-true t top e, n)))

upto_step : (top t : ℕ) → suc t ≢ suc top → nat_le (suc t) top ≡ nat_le t top
upto_step top t n = same_test (nat_le (suc t) top) (nat_le t top)
    (λ e. le-leb t top (omega (arith, leb-true (suc t) top e)))
    (λ e. let m : t ≡ top → ⊥ = λ g. n (ap suc g) in le-leb (suc t) top (omega (arith, leb-true t top e, m)))

any_C-start : (cs : List ℕ) (ws : List Wanted) → AllWantRuns cs ws → any_C ws 0 ≡ false
any_C-start [] [] a = refl
any_C-start [] (w ∷ ws) a = absurd a
any_C-start (c ∷ cs) [] a = absurd a
any_C-start (c ∷ cs) (w ∷ ws) a = ap₂ (λ x y. x || y) (ap is_C (value_at-start N 1 w 0 a.0 (omega arith))) (any_C-start cs ws a.1)

any_C-step : (ws : List Wanted) (t : ℕ) → IsNone (suc t) (all_points ws) → any_C ws (suc t) ≡ any_C ws t
any_C-step [] t n = refl
any_C-step (w ∷ ws) t n =
    let k = IsNone-append (suc t) (points w) (all_points ws) n in
    ap₂ (λ x y. x || y) (ap is_C (value_at-step N w t k.0)) (any_C-step ws t k.1)

any_C-past : (ws : List Wanted) (t : ℕ) → IsPast t (all_points ws) → any_C ws t ≡ false
any_C-past [] t n = refl
any_C-past (w ∷ ws) t n =
    let k = IsPast-append t (points w) (all_points ws) n in
    ap₂ (λ x y. x || y) (ap is_C (value_at-past N w t k.0)) (any_C-past ws t k.1)

and_false : (x : Bool) → (x && false) ≡ false
and_false true = refl
and_false false = refl

-- what is wanted at a wake is steady between these points
pub wake_wanted : (net : Net) (p b now : ℕ) (v : View) → AllWantRuns (net.children p b) v.wants → (keeps : Bool) → IsWanted (wanted_at_wake net keeps now v) (all_points v.wants ++ (suc v.horizon ∷ (suc (now - net.idle) ∷ (suc (now - net.gap) ∷ (top_of v.know ∷ [])))))
wake_wanted net p b now v a keeps = record {
  start = ap₂ (λ x y. x || y) (any_C-start (net.children p b) v.wants a) (ap₂ (λ x y. keeps && x && y) (le-ltb v.horizon 0 (omega arith)) refl ∙ rw and_false refl);
  step = λ t n.
      let k = IsNone-append (suc t) (all_points v.wants) (suc v.horizon ∷ (suc (now - net.idle) ∷ (suc (now - net.gap) ∷ (top_of v.know ∷ [])))) n in
      ap₂ (λ x y. x || y) (any_C-step v.wants t k.0)
      (ap₂ (λ x y. keeps && x && y) (above_step v.horizon t k.1.0)
      (ap₂ (λ x y. x || y) (ago_step net.idle now t k.1.1.0) (ap₂ (λ x y. x && y) (ago_step net.gap now t k.1.1.1.0) (below_step (top_of v.know) t k.1.1.1.1.0))));
  past = λ t n.
      let k = IsPast-append t (all_points v.wants) (suc v.horizon ∷ (suc (now - net.idle) ∷ (suc (now - net.gap) ∷ (top_of v.know ∷ [])))) n in
      ap₂ (λ x y. x || y) (any_C-past v.wants t k.0)
      (ap₂ (λ x y. keeps && nat_lt v.horizon t && (x || (y && nat_lt t (top_of v.know)))) (lt-leb (t + net.idle) now (omega (arith, k.1.1.0))) (lt-leb (t + net.gap) now (omega (arith, k.1.1.1.0))) ∙ and_false (keeps && nat_lt v.horizon t));
}

-- the wake of a broker below the host keeps its view true and sends only what is true
pub wake_below_true : (net : Net) (f : Facts) (p b now : ℕ) (v : View) (log : Log) → IsPlace net p b → ViewTrue net f p b v → OutcomeTrue net f p b (wake_below net p b now v log)
unfolding wake_below
wake_below_true net f p b now v log place h =
    asking_true net f p b now (wanted_at_wake net (keeps_horizon net p b) now v)
    (all_points v.wants ++ (suc v.horizon ∷ (suc (now - net.idle) ∷ (suc (now - net.gap) ∷ (top_of v.know ∷ []))))) v log place h (wake_wanted net p b now v (want_runs net f p (net.children p b) v.wants h.wants) (keeps_horizon net p b))

-- what an expected tick makes wanted changes only at points of what children want, at the horizon and at the tick
pub expect_wanted : (net : Net) (p b tick : ℕ) (v : View) → AllWantRuns (net.children p b) v.wants → (keeps : Bool) → IsWanted (λ t. any_C v.wants t || (keeps && nat_lt v.horizon t && nat_le t tick)) (all_points v.wants ++ (suc v.horizon ∷ (suc tick ∷ [])))
expect_wanted net p b tick v a keeps = record {
  start = ap₂ (λ x y. x || y) (any_C-start (net.children p b) v.wants a) (ap₂ (λ x y. keeps && x && y) (le-ltb v.horizon 0 (omega arith)) refl ∙ rw and_false refl);
  step = λ t n.
      let k = IsNone-append (suc t) (all_points v.wants) (suc v.horizon ∷ (suc tick ∷ [])) n in
      ap₂ (λ x y. x || y) (any_C-step v.wants t k.0) (ap₂ (λ x y. keeps && x && y) (above_step v.horizon t k.1.0) (upto_step tick t k.1.1.0));
  past = λ t n.
      let k = IsPast-append t (all_points v.wants) (suc v.horizon ∷ (suc tick ∷ [])) n in
      ap₂ (λ x y. x || y) (any_C-past v.wants t k.0) (ap (λ y. keeps && nat_lt v.horizon t && y) (lt-leb t tick (omega (arith, k.1.1.0))) ∙ and_false (keeps && nat_lt v.horizon t));
}

-- an expectation that is handed on to children is of a tick that is settled
pub expect_frames_true : (net : Net) (f : Facts) (p b tick : ℕ) (cs : List ℕ) (ws : List Wanted) → tick ≤ f.settled → AllTrue net f p (expect_frames p b tick cs ws)
expect_frames_true net f p b tick [] ws h = tt
expect_frames_true net f p b tick (c ∷ cs) [] h = tt
expect_frames_true net f p b tick (c ∷ cs) (w ∷ ws) h = AllTrue-append net f p (if covers w tick then [] else expect_frame b c p tick ∷ []) (expect_frames p b tick cs ws) (go (covers w tick)) (expect_frames_true net f p b tick cs ws h)
  where
    go : (q : Bool) → AllTrue net f p (if q then [] else expect_frame b c p tick ∷ [])
    go true = tt
    go false = (h, tt)

-- an expected tick that is settled keeps the view true, and so is all that is sent of it
pub expect_true : (net : Net) (f : Facts) (p b now tick : ℕ) (v : View) (log : Log) → IsPlace net p b → ViewTrue net f p b v → tick ≤ f.settled → OutcomeTrue net f p b (expect net p b now tick v log)
unfolding expect
expect_true net f p b now tick v log place h s =
    let ps = all_points v.wants ++ (suc v.horizon ∷ (suc tick ∷ [])) in
    let wanted = λ (t : ℕ). any_C v.wants t || (keeps_horizon net p b && nat_lt v.horizon t && nat_le t tick) in
    let o = asking_true net f p b now wanted ps v log place h (expect_wanted net p b tick v (want_runs net f p (net.children p b) v.wants h.wants) (keeps_horizon net p b)) in
    record { view = o.view; frames = AllTrue-append net f p (asking net p b now wanted ps v log).frames (expect_frames p b tick (net.children p b) v.wants) o.frames (expect_frames_true net f p b tick (net.children p b) v.wants s) }

-- Curiosity

wants_at : (net : Net) (f : Facts) (p : ℕ) (cs : List ℕ) (ws : List Wanted) (c : ℕ) → AllWantTruth net f p cs ws → list_any (λ x. nat_eq x c) cs ≡ true → WantsTruth net f p c (get_or ws (place_of c cs) [])
wants_at net f p [] ws c a m = absurd (false≢true m)
wants_at net f p (d ∷ cs) [] c a m = absurd a
wants_at net f p (d ∷ cs) (w ∷ ws) c a m =
    elim (cases_Bool (nat_eq d c)) [
      | inl e ↦ rw e (subst (λ x. WantsTruth net f p x w) (eqb-true d c e) a.0)
      | inr e ↦ rw e (wants_at net f p cs ws c a.1 (subst (λ b. (b || list_any (λ x. nat_eq x c) cs) ≡ true) e m))
    ]

wants_set : (net : Net) (f : Facts) (p : ℕ) (cs : List ℕ) (ws : List Wanted) (c : ℕ) (u : Wanted) → AllWantTruth net f p cs ws → WantsTruth net f p c u → AllWantTruth net f p cs (set ws (place_of c cs) u)
wants_set net f p [] [] c u a k = tt
wants_set net f p [] (w ∷ ws) c u a k = absurd a
wants_set net f p (d ∷ cs) [] c u a k = absurd a
wants_set net f p (d ∷ cs) (w ∷ ws) c u a k =
    elim (cases_Bool (nat_eq d c)) [
      | inl e ↦ rw e (subst (λ x. WantsTruth net f p x u) (sym (eqb-true d c e)) k, a.1)
      | inr e ↦ rw e (a.0, wants_set net f p cs ws c u a.1 k)
    ]

acknowledged-is : (w piece : Wanted) → AreRuns N w → AreRuns N piece → AreRunsOf N (λ t. if is_A (wanted_at piece t) then A else wanted_at w t) (acknowledged w piece)
unfolding acknowledged
acknowledged-is w piece h i = zip_runs-is N N N same_Q3 Q3_decides (λ a x. if is_A x then A else a) w piece refl h i

acknowledged_true : (net : Net) (f : Facts) (p c : ℕ) (w piece : Wanted) → WantsTruth net f p c w → WantsTruth net f p c piece → WantsTruth net f p c (acknowledged w piece)
acknowledged_true net f p c w piece h i =
    WantsTruth-by net f p c (λ t. if is_A (wanted_at piece t) then A else wanted_at w t) (acknowledged w piece) (acknowledged-is w piece h.runs i.runs)
    (λ t. elim (cases_Bool (is_A (wanted_at piece t))) [
      | inl e ↦ rw e (λ q. i.each t (A_is (wanted_at piece t) e))
      | inr e ↦ rw e (λ q. h.each t q)
    ])

-- three steady functions joined
three_steady : {V : Type 0} (bottom : V) (g : K → Q3 → Q3 → V) (know : Known) (w piece : Wanted) → ((k : K) (a : Q3) → g k a N ≡ bottom) → AreRuns N piece → ((t : ℕ) → IsPast t (points know ++ points w ++ points piece) → g (known_at know t) (wanted_at w t) (wanted_at piece t) ≡ bottom) → IsSteady bottom (λ t. g (known_at know t) (wanted_at w t) (wanted_at piece t)) (points know ++ points w ++ points piece)
three_steady bottom g know w piece z r p = record {
  start = ap (g (known_at know 0) (wanted_at w 0)) (value_at-start N 1 piece 0 r (omega arith)) ∙ z (known_at know 0) (wanted_at w 0);
  step = λ t n.
      let x = IsNone-append (suc t) (points know ++ points w) (points piece) n in
      let y = IsNone-append (suc t) (points know) (points w) x.0 in
      ap₂ (λ k a. g k a (wanted_at piece (suc t))) (value_at-step Q know t y.0) (value_at-step N w t y.1) ∙ ap (g (known_at know t) (wanted_at w t)) (value_at-step N piece t x.1);
  past = p;
}

answers-is : (net : Net) (p c : ℕ) (know : Known) (w piece : Wanted) → AreRuns Q know → AreRuns N piece → AreRunsOf Q (λ t. answer (pass net p c t (known_at know t)) (wanted_at w t) (wanted_at piece t)) (answers net p c know w piece)
unfolding answers
answers-is net p c know w piece k r =
    let s = passed-is net p c know k in
    let i = tabulate-is Q same_K K_decides (λ t. answer (known_at (passed net p c know) t) (wanted_at w t) (wanted_at piece t)) (points (passed net p c know) ++ points w ++ points piece)
    (three_steady Q answer (passed net p c know) w piece (λ k a. refl) r (λ t n. ap (answer (known_at (passed net p c know) t) (wanted_at w t)) (value_at-past N piece t (IsPast-append t (points (passed net p c know) ++ points w) (points piece) n).1))) in
    record { runs = i.runs; same_at = λ t. i.same_at t ∙ ap (λ x. answer x (wanted_at w t) (wanted_at piece t)) (s.same_at t) }

answer_true : (net : Net) (f : Facts) (p b c t : ℕ) (k : K) (a q : Q3) → IsPlace net p b → list_any (λ x. nat_eq x c) (net.children p b) ≡ true → IsTrueAt net f p b t k → (a ≡ A → TrueF net f p c t) → IsTrueAt net f p c t (answer (pass net p c t k) a q)
answer_true net f p b c t k N N place child h i = tt
answer_true net f p b c t k C N place child h i = tt
answer_true net f p b c t k A N place child h i = tt
answer_true net f p b c t k N A place child h i = tt
answer_true net f p b c t k C A place child h i = tt
answer_true net f p b c t k A A place child h i = tt
answer_true net f p b c t k A C place child h i = i refl
answer_true net f p b c t k N C place child h i = pass_true net f p b c t k place child h
answer_true net f p b c t k C C place child h i = pass_true net f p b c t k place child h

answers_true : (net : Net) (f : Facts) (p b c : ℕ) (know : Known) (w piece : Wanted) → IsPlace net p b → list_any (λ x. nat_eq x c) (net.children p b) ≡ true → KnowsTruth net f p b know → WantsTruth net f p c w → AreRuns N piece → KnowsTruth net f p c (answers net p c know w piece)
answers_true net f p b c know w piece place child k a r =
    KnowsTruth-by net f p c (λ t. answer (pass net p c t (known_at know t)) (wanted_at w t) (wanted_at piece t)) (answers net p c know w piece) (answers-is net p c know w piece k.runs r)
    (λ t. answer_true net f p b c t (known_at know t) (wanted_at w t) (wanted_at piece t) place child (k.each t) (a.each t))

stored-is : (know : Known) (w piece : Wanted) → AreRuns N w → AreRuns N piece → AreRunsOf N (λ t. curious (known_at know t) (wanted_at w t) (wanted_at piece t)) (stored know w piece)
unfolding stored
stored-is know w piece rw_ rp =
    tabulate-is N same_Q3 Q3_decides (λ t. curious (known_at know t) (wanted_at w t) (wanted_at piece t)) (points know ++ points w ++ points piece) (record {
      start = ap₂ (curious (known_at know 0)) (value_at-start N 1 w 0 rw_ (omega arith)) (value_at-start N 1 piece 0 rp (omega arith));
      step = λ t n.
          let x = IsNone-append (suc t) (points know ++ points w) (points piece) n in
          let y = IsNone-append (suc t) (points know) (points w) x.0 in
          ap₂ (λ k a. curious k a (wanted_at piece (suc t))) (value_at-step Q know t y.0) (value_at-step N w t y.1) ∙ ap (curious (known_at know t) (wanted_at w t)) (value_at-step N piece t x.1);
      past = λ t n.
          let x = IsPast-append t (points know ++ points w) (points piece) n in
          let y = IsPast-append t (points know) (points w) x.0 in
          ap₂ (curious (known_at know t)) (value_at-past N w t y.1) (value_at-past N piece t x.1);
    })

curious_A : (k : K) (a q : Q3) → curious k a q ≡ A → a ≡ A
curious_A k N N e = e
curious_A k C N e = e
curious_A k A N e = e
curious_A k N A e = e
curious_A k C A e = e
curious_A k A A e = e
curious_A k A C e = refl
curious_A k N C e = absurd (not_A (is_Q k) e)
  where
    not_A : (b : Bool) → (if b then C else N) ≡ A → ⊥
    not_A true e = cc
    not_A false e = cc
curious_A k C C e = absurd (not_A (is_Q k) e)
  where
    not_A : (b : Bool) → (if b then C else N) ≡ A → ⊥
    not_A true e = cc
    not_A false e = cc

stored_true : (net : Net) (f : Facts) (p c : ℕ) (know : Known) (w piece : Wanted) → WantsTruth net f p c w → AreRuns N piece → WantsTruth net f p c (stored know w piece)
stored_true net f p c know w piece h r =
    WantsTruth-by net f p c (λ t. curious (known_at know t) (wanted_at w t) (wanted_at piece t)) (stored know w piece) (stored-is know w piece h.runs r)
    (λ t e. h.each t (curious_A (known_at know t) (wanted_at w t) (wanted_at piece t) e))

curiosity_wanted : (reply : Known) (piece : Wanted) → AreRuns N piece → IsWanted (λ t. is_C (wanted_at piece t) && is_Q (known_at reply t)) (points piece ++ points reply)
curiosity_wanted reply piece r = record {
  start = ap (λ q. is_C q && is_Q (known_at reply 0)) (value_at-start N 1 piece 0 r (omega arith));
  step = λ t n. let k = IsNone-append (suc t) (points piece) (points reply) n in ap₂ (λ q x. is_C q && is_Q x) (value_at-step N piece t k.0) (value_at-step Q reply t k.1);
  past = λ t n. let k = IsPast-append t (points piece) (points reply) n in ap (λ q. is_C q && is_Q (known_at reply t)) (value_at-past N piece t k.0);
}

N_not_A : N ≡ A → ⊥
N_not_A e = cc

answers_event : (net : Net) (p c : ℕ) (know : Known) (w piece : Wanted) → AreRuns Q know → AreRuns N piece → (t : ℕ) → HasEvent (answers net p c know w piece) t → HasEvent know t
answers_event net p c know w piece k i t x = (x.0, pass_event net p c t (known_at know t) x.0 (go (wanted_at piece t) (sym ((answers-is net p c know w piece k i).same_at t) ∙ x.1)))
  where
    pick : (b : Bool) → (if b then F else pass net p c t (known_at know t)) ≡ D x.0 → pass net p c t (known_at know t) ≡ D x.0
    pick true e = cc
    pick false e = e

    go : (q : Q3) → answer (pass net p c t (known_at know t)) (wanted_at w t) q ≡ D x.0 → pass net p c t (known_at know t) ≡ D x.0
    go N e = cc
    go A e = cc
    go C e = pick (is_A (wanted_at w t)) e

-- a child's true curiosity keeps the view true, and it is answered and handed up truly
pub curiosity_true : (net : Net) (f : Facts) (p b now c : ℕ) (piece : Wanted) (v : View) (log : Log) → IsPlace net p b → list_any (λ x. nat_eq x c) (net.children p b) ≡ true → ViewTrue net f p b v → WantsTruth net f p c piece → OutcomeTrue net f p b (curiosity net p b now c (place_of c (net.children p b)) piece v log)
unfolding curiosity
curiosity_true net f p b now c piece v log place child h i =
    let at = place_of c (net.children p b) in
    let w = acknowledged (get_or v.wants at []) piece in
    let a = acknowledged_true net f p c (get_or v.wants at []) piece (wants_at net f p (net.children p b) v.wants c h.wants child) i in
    let reply = answers net p c v.know w piece in
    let r = answers_true net f p b c v.know w piece place child h.know a i.runs in
    let ws = set v.wants at (stored v.know w piece) in
    let s = wants_set net f p (net.children p b) v.wants c (stored v.know w piece) h.wants (stored_true net f p c v.know w piece a i.runs) in
    let done = consolidated (keeps_horizon net p b) v.horizon ws in
    let know = finished v.know done in
    let k = finished_true net f p b v.know done h.know (done_true net f p b v.horizon ws place s h.horizon) in
    let asked : Bool → Wanted = λ q. elim q [ true ↦ [] | false ↦ due now net.retry know v.asks (λ t. is_C (wanted_at piece t) && is_Q (known_at reply t)) (points piece ++ points reply) ] in
    let d : (q : Bool) → WantsTruth net f p b (asked q) = elim [
      | true ↦ record { runs = tt; each = λ t e. absurd (N_not_A e) }
      | false ↦ due_true net f p b now know v.asks (λ t. is_C (wanted_at piece t) && is_Q (known_at reply t)) (points piece ++ points reply) k.runs h.asks (curiosity_wanted reply piece i.runs)
    ] in
    let x = d (is_host net p b) in
    record {
      view = trimmed_true net f p b (record { know = know; wants = ws; asks = noted now v.asks (asked (is_host net p b)); horizon = v.horizon; joins = v.joins }) (record {
        know = k;
        wants = s;
        asks = (noted-at now v.asks (asked (is_host net p b)) h.asks x.runs).runs;
        horizon = h.horizon;
        held = fewer f.joined v.joins (HasEvent v.know) (HasEvent know) (finished_event v.know done h.know.runs (done_true net f p b v.horizon ws place s h.horizon).runs) h.held;
      });
      frames = AllTrue-append net f p (know_frames v.joins b c p reply) (up_frames net p b (asked (is_host net p b))) (know_frames_true net f v.joins p b c reply r (fewer f.joined v.joins (HasEvent v.know) (HasEvent reply) (answers_event net p c v.know w piece h.know.runs i.runs) h.held)) (up_frames_true net f p b (asked (is_host net p b)) x);
    }

-- a view that is true stays true as more is logged and subscribers come on
pub ViewTrue-later : (net : Net) (f g : Facts) (p b : ℕ) (v : View) → IsLater f g → ViewTrue net f p b v → ViewTrue net g p b v
ViewTrue-later net f g p b v l h = record {
  know = KnowsTruth-later net f g p b v.know l h.know;
  wants = AllWantTruth-later net f g p (net.children p b) v.wants l h.wants;
  asks = h.asks;
  horizon = record { settled = le_trans h.horizon.settled l.settled; here = λ s m. le_trans (h.horizon.here s m) (l.reached s) };
  held = holds_later f.joined g.joined v.joins f.settled (HasEvent v.know) l.joined (events_settled net f p b v.know h.know) h.held;
}

-- a view may take up other joins that are held
pub ViewTrue-joins : (net : Net) (f : Facts) (p b : ℕ) (v : View) (js : Joins) → ViewTrue net f p b v → Holds f.joined js (HasEvent v.know) → ViewTrue net f p b (with_joins v js)
ViewTrue-joins net f p b v js h held = record { know = h.know; wants = h.wants; asks = h.asks; horizon = record { settled = h.horizon.settled; here = h.horizon.here }; held = held }

-- and those that come with a piece, where they are more
pub ViewTrue-taken : (net : Net) (f : Facts) (p b : ℕ) (v : View) (js : Joins) (Came : ℕ → Type 0) → ViewTrue net f p b v → Holds f.joined js Came → ViewTrue net f p b (with_joins v (longer v.joins js))
ViewTrue-taken net f p b v js Came h held = ViewTrue-joins net f p b v (longer v.joins js) h (fewer f.joined (longer v.joins js) (λ t. HasEvent v.know t ⊎ Came t) (HasEvent v.know) (λ t x. inl x) (both f.joined v.joins js (HasEvent v.know) Came h.held held))

-- an outcome that is true stays true as more is logged and subscribers come on
pub OutcomeTrue-later : (net : Net) (f g : Facts) (p b : ℕ) (o : Outcome) → IsLater f g → OutcomeTrue net f p b o → OutcomeTrue net g p b o
OutcomeTrue-later net f g p b o l h = record { view = ViewTrue-later net f g p b o.view l h.view; frames = AllTrue-later net f g p o.frames l h.frames }

-- what is stored of each child stays true where a child's true curiosity is stored
pub curiosity_wants : (net : Net) (f : Facts) (p b c : ℕ) (piece : Wanted) (v : View) → ViewTrue net f p b v → list_any (λ x. nat_eq x c) (net.children p b) ≡ true → WantsTruth net f p c piece →
    AllWantTruth net f p (net.children p b) (set v.wants (place_of c (net.children p b)) (stored v.know (acknowledged (get_or v.wants (place_of c (net.children p b)) []) piece) piece))
curiosity_wants net f p b c piece v h child i =
    let at = place_of c (net.children p b) in
    let w = acknowledged (get_or v.wants at []) piece in
    let a = acknowledged_true net f p c (get_or v.wants at []) piece (wants_at net f p (net.children p b) v.wants c h.wants child) i in
    wants_set net f p (net.children p b) v.wants c (stored v.know w piece) h.wants (stored_true net f p c v.know w piece a i.runs)

-- the join of two lists of runs has at each tick the join of their values
pub joined-is : (know piece : Known) → AreRuns Q know → AreRuns Q piece → AreRunsOf Q (λ t. join_K (known_at know t) (known_at piece t)) (zip_runs Q Q Q same_K join_K know piece)
joined-is know piece h i = zip_runs-is Q Q Q same_K K_decides join_K know piece refl h i

-- what is stored of each child stays true where a true piece is forwarded
pub learn_wants : (net : Net) (f : Facts) (p b : ℕ) (piece : Known) (v : View) → IsPlace net p b → ViewTrue net f p b v → KnowsTruth net f p b piece → AllWantTruth net f p (net.children p b) (forward_wants net p (new_ticks v.know piece) (net.children p b) v.wants)
learn_wants net f p b piece v place h i = forward_wants_true net f p b (new_ticks v.know piece) (net.children p b) v.wants place (new_true net f p b v.know piece h.know i) (λ c e. e) h.wants

-- the consolidated ticks are canonical, whatever the horizon
pub done_runs : (net : Net) (f : Facts) (p b h : ℕ) (ws : List Wanted) → AllWantTruth net f p (net.children p b) ws → AreRuns N (consolidated (keeps_horizon net p b) h ws)
done_runs net f p b h ws a = (done-is net p b h ws (want_runs net f p (net.children p b) ws a)).runs

-- what a broker consolidates is an acknowledgement exactly at its consolidated ticks
pub done_values : (net : Net) (f : Facts) (p b h : ℕ) (ws : List Wanted) → AllWantTruth net f p (net.children p b) ws → (t : ℕ) → wanted_at (consolidated (keeps_horizon net p b) h ws) t ≡ (if is_consolidated_by (keeps_horizon net p b) h ws t then A else N)
done_values net f p b h ws a = (done-is net p b h ws (want_runs net f p (net.children p b) ws a)).same_at
