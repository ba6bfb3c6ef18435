use Rattle.std.proofs.Common.{◌≡◌, ℕ, ◌^◌, Bool, true, false, cond, refl, sym, ◌∙◌}
use Rattle.std.proofs.lemmas.Result.{IfOk-weaker}
use Rattle.gr_tick.specs.Stored.{RunsGive, within}
use Rattle.gr_tick.proofs.Canonical.{value_at-outside}
use Rattle.gr_curio.specs.Values.{Wanted, wanted_at}
use Rattle.gr_curio.specs.declared.values.Q3.TheVariants.{N}
use Rattle.gr_broker_walks.proofs.wanted.whole_of.Goals as goal

in_all : (b : Bool) (rs : Wanted) (t : ℕ) → (b ≡ false → wanted_at rs t ≡ N) → cond b (wanted_at rs t) N ≡ wanted_at rs t
in_all true rs t out = refl
in_all false rs t out = sym (out refl)

pub returns : goal.returns
returns c =
    let rs = c.args.stream.now.runs in
    IfOk-weaker c.piece.result (λ piece. RunsGive N piece (λ t. cond (within 1 (2 ^ 62) t) (wanted_at rs t) N)) (λ piece. RunsGive N piece (λ t. wanted_at rs t))
    (λ piece g. record {
      canonical = g.canonical;
      in_range = g.in_range;
      values = λ t. g.values t ∙ in_all (within 1 (2 ^ 62) t) rs t (λ out. value_at-outside N rs t c.len.ensures.canonical c.len.ensures.in_range out);
    }) c.piece.ensures
