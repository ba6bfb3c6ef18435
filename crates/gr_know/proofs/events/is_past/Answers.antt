-- From the piece's first run on nothing is known
use Rattle.std.proofs.Common.{◌≡◌, [], ◌∷◌, slice_get, Some, subst, arith, ltb-true, ℕ, ◌+◌}
use Rattle.gr_tick.specs.declared.run.Run.{Run}
use Rattle.gr_tick.specs.Runs.{AreRunsFrom}
use Rattle.gr_tick.proofs.RunsLemmas.{value_at_past}
use Rattle.gr_know.specs.declared.values.K.{K}
use Rattle.gr_know.specs.declared.values.K.TheVariants.{Q}
use Rattle.gr_know.specs.Values.{Known}
use Rattle.gr_know.proofs.events.is_past.Goals as goal

first_is : (x r : Run K) (xs : Known) → slice_get (x ∷ xs) 0 ≡ Some r → x ≡ r
first_is x r xs e = cc

from_first : (xs : Known) (r : Run K) (f : ℕ) → slice_get xs 0 ≡ Some r → AreRunsFrom Q f xs → AreRunsFrom Q r.first xs
from_first [] r f e a = tt
from_first (x ∷ xs) r f e a = subst (λ (k : Run K). AreRunsFrom Q k.first (x ∷ xs)) (first_is x r xs e) (omega arith, a.1, a.2, a.3, a.4)

pub returns : goal.returns
returns c = λ h.
    let below = ltb-true c.top.result c.run.result.now.first h in
    record {
      first = c.run.result.now.first;
      runs = from_first c.args.piece.now c.run.result.now 1 c.run.ensures.run c.len.ensures.canonical;
      unknown = λ t from. value_at_past Q c.args.stream.now.runs (c.top.result + 1) t c.top.ensures.past (omega (arith, below, from));
    }
