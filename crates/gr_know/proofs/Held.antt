-- A run whose ticks are known already changes nothing
use Rattle.std.proofs.Common.{◌≡◌, ℕ, ◌+◌, ◌<◌, ◌≤◌, Bool, true, false, cond, length, take, get_or, refl, sym, ap, ◌∙◌, arith}
use Rattle.std.specs.Prelude.{if◌then◌else◌}
use Rattle.gr_event.specs.declared.event.Event.{Event}
use Rattle.gr_event.proofs.SameEvent.{event_equal, event_itself}
use Rattle.gr_tick.specs.declared.run.Run.{Run}
use Rattle.gr_tick.specs.Runs.{is_in}
use Rattle.gr_tick.specs.Stored.{AreTickRuns}
use Rattle.gr_tick.proofs.StepLemmas.{read_values}
use Rattle.gr_tick.proofs.SeekLemmas.{run_at}
use Rattle.gr_know.specs.declared.values.K.{K}
use Rattle.gr_know.specs.declared.values.K.TheVariants.{Q, S, D, F}
use Rattle.gr_know.specs.Order.{is_at_most}
use Rattle.gr_know.specs.Values.{Known, known_at, join_K}
use Rattle.gr_know.proofs.Walks.{in_run}

-- what is at most what is known adds nothing to it
adds_nothing : (x k : K) → is_at_most x k ≡ true → join_K k x ≡ k
adds_nothing Q Q h = refl
adds_nothing Q S h = refl
adds_nothing Q (D f) h = refl
adds_nothing Q F h = refl
adds_nothing S Q h = cc
adds_nothing S S h = refl
adds_nothing S (D f) h = cc
adds_nothing S F h = refl
adds_nothing (D e) Q h = cc
adds_nothing (D e) S h = cc
adds_nothing (D e) (D f) h =
    let same : e ≡ f = event_equal e f h in
    ap (λ (x : Event). join_K (D f) (D x)) same ∙ ap (λ (b : Bool). if b then D f else F) (event_itself f)
adds_nothing (D e) F h = refl
adds_nothing F Q h = cc
adds_nothing F S h = cc
adds_nothing F (D f) h = cc
adds_nothing F F h = refl

-- one run of what is known holds a run
pub held_by : (xs : Known) (i : ℕ) (r s : Run K) → i < length xs → r ≡ get_or xs i r → AreTickRuns Q xs → r.first ≤ s.first → s.last ≤ r.last → is_at_most s.value r.value ≡ true
    → (t : ℕ) → is_in t s ≡ true → join_K (known_at xs t) s.value ≡ known_at xs t
held_by xs i r s lt e h a b at t y =
    let p = in_run s t y in
    let here : r.value ≡ known_at xs t = run_at Q xs i t r lt e h (omega (arith, p.0)) (omega (arith, p.1)) in
    ap (λ (k : K). join_K k s.value) (sym here) ∙ adds_nothing s.value r.value at ∙ here

-- one run of a piece more adds nothing
pub held_more : (piece : Known) (i t : ℕ) (r : Run K) (k : K) → i < length piece → r ≡ get_or piece i r → AreTickRuns Q piece → (is_in t r ≡ true → join_K k r.value ≡ k) → join_K k (known_at (take i piece) t) ≡ k
    → join_K k (known_at (take (i + 1) piece) t) ≡ k
held_more piece i t r k lt e h here before = ap (join_K k) (read_values Q piece i t r lt e h) ∙ by_test (is_in t r) here
  where
    by_test : (b : Bool) → (b ≡ true → join_K k r.value ≡ k) → join_K k (cond b r.value (known_at (take i piece) t)) ≡ k
    by_test true g = g refl
    by_test false g = before
