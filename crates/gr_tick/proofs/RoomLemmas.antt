-- How much room a join needs at most: a run of the kept list lies in at most one run that came, but for those at whose ends two meet.
use Rattle.std.proofs.Common.{◌≡◌, ℕ, ◌+◌, ◌*◌, ◌<◌, ◌≤◌, Bool, true, false, cond, leb, List, [], ◌∷◌, length, refl, arith}
use Rattle.std.proofs.lemmas.Bool.{leb-true, leb-false}
use Rattle.gr_tick.specs.declared.run.Run.{Run}
use Rattle.gr_tick.specs.Stored.{AreTickRuns, EndBefore, runs_in, needed}
use Rattle.gr_tick.proofs.RunsLemmas.{BeginAfter-back, BeginAfter-earlier, EndBefore-later}
use Rattle.gr_tick.proofs.SeekLemmas.{none_begun, none_ended, touches_one}
use Rattle.gr_tick.proofs.StepLemmas.{runs_in-cons, later_kept, needed_later}

module _ {V : Type 0} where
  -- the runs from the first one on that ends past a tick
  past : ℕ → List (Run V) → List (Run V)
  past b [] = []
  past b (r ∷ rs) = cond (leb r.last b) (past b rs) (r ∷ rs)

  past_runs : (least : V) (b : ℕ) (rs : List (Run V)) → AreTickRuns least rs → AreTickRuns least (past b rs)
  unfolding past
  past_runs least b [] h = h
  past_runs least b (r ∷ rs) h = by_cases (leb r.last b) (past_runs least b rs h.2)
    where
      by_cases : (c : Bool) → AreTickRuns least (past b rs) → AreTickRuns least (cond c (past b rs) (r ∷ rs))
      by_cases true k = k
      by_cases false k = h

  past_in : (b : ℕ) (rs : List (Run V)) (f l : ℕ) → b < f → runs_in f l rs ≤ runs_in f l (past b rs)
  unfolding past
  past_in b [] f l lt = omega arith
  past_in b (r ∷ rs) f l lt = by_cases (leb r.last b) refl (past_in b rs f l lt)
    where
      by_cases : (c : Bool) → leb r.last b ≡ c → runs_in f l rs ≤ runs_in f l (past b rs) → runs_in f l (r ∷ rs) ≤ runs_in f l (cond c (past b rs) (r ∷ rs))
      by_cases true e k = let low : r.last ≤ b = leb-true r.last b e in omega (arith, later_kept f l rs r (omega (arith, low, lt)), k)
      by_cases false e k = omega arith

  past_count : (least : V) (f b : ℕ) (rs : List (Run V)) → AreTickRuns least rs → runs_in f b rs + length (past b rs) ≤ length rs + 1
  unfolding past
  past_count least f b [] h = omega arith
  past_count least f b (r ∷ rs) h = by_cases (leb r.last b) refl (past_count least f b rs h.2)
    where
      by_cases : (c : Bool) → leb r.last b ≡ c → runs_in f b rs + length (past b rs) ≤ length rs + 1 → runs_in f b (r ∷ rs) + length (cond c (past b rs) (r ∷ rs)) ≤ length (r ∷ rs) + 1
      by_cases true e k = omega (arith, runs_in-cons f b r rs, touches_one f b r, k)
      by_cases false e k =
          let high : b < r.last = leb-false r.last b e in
          omega (arith, runs_in-cons f b r rs, touches_one f b r, none_begun f b rs (BeginAfter-earlier rs r.last b (BeginAfter-back least r rs h) (omega (arith, high))))

  pub needed_at_most : (least : V) (rs os : List (Run V)) → AreTickRuns least rs → AreTickRuns least os → needed rs os ≤ length rs + 2 * length os
  needed_at_most least rs [] h k = omega arith
  needed_at_most least rs (o ∷ os) h k =
      let rest = needed_later least (past o.last rs) rs os o.last k.2 (BeginAfter-back least o os k) (λ f l lt le. past_in o.last rs f l lt) in
      omega (arith, rest, needed_at_most least (past o.last rs) os (past_runs least o.last rs h) k.2, past_count least o.first o.last rs h)

  -- where all runs end before the first of others, each of these needs room for itself alone
  pub needed_past : (least : V) (rs : List (Run V)) (o : Run V) (os : List (Run V)) → AreTickRuns least (o ∷ os) → EndBefore rs o.first → needed rs (o ∷ os) ≡ length (o ∷ os)
  needed_past least rs o [] k ended = omega (arith, none_ended o.first o.last rs ended)
  needed_past least rs o (p ∷ ps) k ended =
      let next = needed_past least rs p ps k.2 (EndBefore-later rs o.first p.first ended (omega (arith, k.0.ordered, k.1.later))) in
      omega (arith, none_ended o.first o.last rs ended, next)
