-- A view that a broker may have, whatever its peers send: a true one is such a view, and each rule leaves one
use Rattle.std.proofs.Common.{◌<◌, ◌≡◌, inl, inr, ℕ, suc, ◌+◌, max, Bool, true, false, List, [], ◌∷◌, length, get_or, refl, sym, ap, ◌∙◌, subst, arith}
use Rattle.std.specs.Prelude.{nat_eq, if◌then◌else◌}
use Rattle.std.specs.List.{list_any}
use Rattle.std.proofs.lemmas.Bool.{cases_Bool, cases_lt, cases_eq, both_ways, or_left, or_right, eq-eqb, eqb-true}
use Rattle.gr_event.specs.declared.event.Event.{Event}
use Rattle.gr_event.specs.Joins.{Joins, longer, has_joined}
use Rattle.gr_model.specs.declared.report.Report.{Report}
use Rattle.gr_curio.specs.declared.values.Q3.TheVariants.{N}
use Rattle.gr_frame.specs.declared.Body.{Body}
use Rattle.gr_frame.specs.declared.Body.TheVariants as body
use Rattle.gr_frame.specs.declared.Frame.{Frame}
use Rattle.gr_tick.specs.Runs.{AreRuns}
use Rattle.gr_know.specs.Values.{Known}
use Rattle.gr_curio.specs.Values.{Wanted}
use Rattle.gr_model.specs.Net.{Net, is_host}
use Rattle.gr_model.specs.Broker.{View, Log, Outcome, place_of, with_event, with_mark, with_join, with_joins, view_joined, max_tick}
use Rattle.gr_model.specs.Tree.{IsDistinct}
use Rattle.gr_model_calls.specs.Truth.{Facts}
use Rattle.gr_model.specs.World.{World, view_of}
use Rattle.gr_model_calls.specs.Fits.{ViewTrue, WorldFits, facts_of}
use Rattle.gr_model_calls.specs.Rules.{IsView, NewTicks, ChildAsks, Asks, HostWakes, Wakes, Publishes, TakesJoin, Comes, wants_from, wanted_by_age, wanted_upto, says}
use Rattle.gr_model_calls.proofs.calls.CallTruth.{AllWantRuns, want_runs}
use Rattle.gr_model_calls.proofs.rules.Answering.{wants_true_at}

-- one that is not in a list differs from each in it
pub apart : (c d : ℕ) (cs : List ℕ) → list_any (λ y. nat_eq y c) cs ≡ false → list_any (λ x. nat_eq x d) cs ≡ true → nat_eq c d ≡ false
apart c d cs n m =
    elim (cases_Bool (nat_eq c d)) [
      | inl e ↦ absurd (both_ways (list_any (λ y. nat_eq y c) cs) n (subst (λ x. list_any (λ y. nat_eq y x) cs ≡ true) (sym (eqb-true c d e)) m))
      | inr e ↦ e
    ]

each_runs : (cs : List ℕ) (ws : List Wanted) → IsDistinct cs → length ws ≡ length cs → ((c : ℕ) → list_any (λ x. nat_eq x c) cs ≡ true → AreRuns N (get_or ws (place_of c cs) [])) → AllWantRuns cs ws
each_runs [] [] d l h = tt
each_runs [] (w ∷ ws) d l h = absurd (omega (arith, l))
each_runs (c ∷ cs) [] d l h = absurd (omega (arith, l))
each_runs (c ∷ cs) (w ∷ ws) d l h =
    let same : nat_eq c c ≡ true = eq-eqb c c refl in
    let here : AreRuns N (get_or (w ∷ ws) (if nat_eq c c then 0 else suc (place_of c cs)) []) = h c (or_left (nat_eq c c) (list_any (λ x. nat_eq x c) cs) same) in (
      subst (λ q. AreRuns N (get_or (w ∷ ws) (if q then 0 else suc (place_of c cs)) [])) same here,
      each_runs cs ws d.1 (omega (arith, l)) (λ e m. subst (λ q. AreRuns N (get_or (w ∷ ws) (if q then 0 else suc (place_of e cs)) [])) (apart c e cs d.0 m) (h e (or_right (nat_eq c e) (list_any (λ x. nat_eq x e) cs) m))),
    )

-- what such a view has stored is canonical
pub wants_runs : (net : Net) (p b : ℕ) (v : View) → IsDistinct (net.children p b) → IsView net p b v → AllWantRuns (net.children p b) v.wants
wants_runs net p b v d h = each_runs (net.children p b) v.wants d h.all_wants h.wants

-- as many are stored as there are children
pub long_as : (cs : List ℕ) (ws : List Wanted) → AllWantRuns cs ws → length ws ≡ length cs
long_as [] [] a = refl
long_as [] (w ∷ ws) a = absurd a
long_as (c ∷ cs) [] a = absurd a
long_as (c ∷ cs) (w ∷ ws) a = ap suc (long_as cs ws a.1)

-- a true view is such a view
pub true_view : (net : Net) (f : Facts) (p b : ℕ) (v : View) → ViewTrue net f p b v → IsView net p b v
true_view net f p b v h = record {
  know = h.know.runs;
  wants = λ c m. (wants_true_at net f p (net.children p b) v.wants c h.wants m).runs;
  all_wants = long_as (net.children p b) v.wants (want_runs net f p (net.children p b) v.wants h.wants);
  asks = h.asks;
}

-- and so is each view of a world that fits
pub fits_view : (net : Net) (w : World) (p b : ℕ) → WorldFits net w → p < net.publishers → b < net.brokers → IsView net p b (view_of w b p)
fits_view net w p b f j i = true_view net (facts_of net w p) p b (view_of w b p) (f.views p b j i)

-- whatever joins are held
pub joined_view : (net : Net) (p b : ℕ) (v : View) (js : Joins) → IsView net p b v → IsView net p b (with_joins v js)
joined_view net p b v js h = record { know = h.know; wants = h.wants; all_wants = h.all_wants; asks = h.asks }

-- Each rule leaves such a view

pub new_ticks_view : (net : Net) (p b : ℕ) (piece : Known) (v : View) (log : Log) (o : Outcome) → NewTicks net p b piece v log o → IsView net p b o.view
new_ticks_view net p b piece v log o x = record {
  know = x.know.forgets.kept_is.runs;
  wants = λ c m. (x.wants c m).runs;
  all_wants = x.all_wants;
  asks = x.asks.runs;
}

child_asks_view : (net : Net) (p b now c : ℕ) (piece : Wanted) (v : View) (log : Log) (o : Outcome) → IsView net p b v → ChildAsks net p b now c piece v log o → IsView net p b o.view
child_asks_view net p b now c piece v log o h x = record {
  know = x.know.forgets.kept_is.runs;
  wants = λ d m. elim (cases_eq d c) [
    | inl e ↦ subst (λ z. AreRuns N (wants_from net p b o.view z)) (sym e) x.wants.runs
    | inr e ↦ subst (λ z. AreRuns N z) (sym (x.other_wants d m e)) (h.wants d m)
  ];
  all_wants = x.all_wants;
  asks = x.asks.runs;
}

asks_view : (net : Net) (p b now : ℕ) (wanted : ℕ → Bool) (more : List Frame) (v : View) (log : Log) (o : Outcome) → IsView net p b v → Asks net p b now wanted more v log o → IsView net p b o.view
asks_view net p b now wanted more v log o h x = record {
  know = x.know.kept_is.runs;
  wants = λ c m. subst (λ ws. AreRuns N (get_or ws (place_of c (net.children p b)) [])) (sym x.wants) (h.wants c m);
  all_wants = ap length x.wants ∙ h.all_wants;
  asks = x.asks.runs;
}

host_wakes_view : (net : Net) (p b now : ℕ) (v : View) (log : Log) (o : Outcome) → IsView net p b v → HostWakes net p b now v log o → IsView net p b o.view
host_wakes_view net p b now v log o h x = subst (λ u. IsView net p b u) (sym x.view_same) (
    elim (cases_lt now (log.settled + net.quiet)) [
      | inl l ↦ subst (λ (u : Outcome). IsView net p b u.view) (sym (x.stays l)) h
      | inr l ↦ new_ticks_view net p b x.silent v (with_mark log now) x.marked (x.marks l)
    ])

pub wakes_view : (net : Net) (p b now : ℕ) (v : View) (log : Log) (o : Outcome) → IsView net p b v → Wakes net p b now v log o → IsView net p b o.view
wakes_view net p b now v log o h x =
    elim (cases_Bool (is_host net p b)) [
      | inl e ↦ host_wakes_view net p b now v log o h (x.host e)
      | inr e ↦ asks_view net p b now (wanted_by_age net p b now v) [] v log o h (x.below e)
    ]

pub publishes_view : (net : Net) (p b now number : ℕ) (e : Event) (v : View) (log : Log) (o : Outcome) → IsView net p b v → Publishes net p b now number e v log o → IsView net p b o.view
publishes_view net p b now number e v log o h x =
    elim (cases_lt log.last number) [
      | inr l ↦ stays (x.already l)
      | inl l ↦ elim (cases_lt (suc log.last) number) [
        | inl m ↦ stays (x.gap m)
        | inr m ↦ next (omega (arith, l, m))
      ]
    ]
  where
    stays : {l : Report} → o ≡ says v log l → IsView net p b o.view
    stays e = subst (λ (u : Outcome). IsView net p b u.view) (sym e) h

    next : number ≡ suc log.last → IsView net p b o.view
    next s = elim (cases_lt max_tick (max (suc log.settled) now)) [
      | inl l ↦ stays (x.exhausted s l)
      | inr l ↦ subst (λ (u : Outcome). IsView net p b u.view) (sym (x.logged s l)) (new_ticks_view net p b x.piece v (with_event log (max (suc log.settled) now) e) x.learned (x.learns s l))
    ]

pub joins_view : (net : Net) (p b now s : ℕ) (v : View) (log : Log) (o : Outcome) → IsView net p b v → TakesJoin net p b now s v log o → IsView net p b o.view
joins_view net p b now s v log o h x =
    elim (cases_Bool (has_joined log.joins s)) [
      | inl e ↦ subst (λ (u : Outcome). IsView net p b u.view) (sym (x.already e)) h
      | inr e ↦ elim (cases_lt max_tick (max (suc log.settled) now)) [
        | inl l ↦ subst (λ (u : Outcome). IsView net p b u.view) (sym (x.exhausted e l)) h
        | inr l ↦ subst (λ (u : Outcome). IsView net p b u.view) (sym (x.logged e l)) (new_ticks_view net p b x.silent (view_joined log s now v) (with_join log (max (suc log.settled) now) s) x.learned (x.learns e l))
      ]
    ]

pub comes_view : (net : Net) (p from b now : ℕ) (y : Body) (v : View) (log : Log) (o : Outcome) → IsView net p b v → Comes net p from b now y v log o → IsView net p b o.view
comes_view net p from b now (body.Knowledge runs js) v log o h x = new_ticks_view net p b runs (with_joins v (longer v.joins js)) log o x
comes_view net p from b now (body.Curiosity runs) v log o h x = child_asks_view net p b now from runs v log o h x
comes_view net p from b now (body.Expect tick) v log o h x = asks_view net p b now (wanted_upto net p b tick v) x.on v log o h x.asks
