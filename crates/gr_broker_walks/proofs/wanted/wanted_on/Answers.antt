use Rattle.std.proofs.Common.{◌≡◌, ℕ, ◌<◌, false, cond, [], sym, ap, ◌∙◌, arith}
use Rattle.std.proofs.lemmas.Bool.{cond-false}
use Rattle.std.proofs.lemmas.Bool.Decides.{nat_tests}
use Rattle.std.proofs.lemmas.Result.{IfOk-weaker}
use Rattle.gr_tick.specs.Stored.{RunsGive, within}
use Rattle.gr_curio.specs.Order.{greater_of}
use Rattle.gr_curio.specs.Values.{Wanted, wanted_at}
use Rattle.gr_curio.specs.declared.values.Q3.TheVariants.{N, C}
use Rattle.gr_broker_walks.proofs.wanted.wanted_on.Goals as goal

outside : (first last t : ℕ) → last < first → within first last t ≡ false
outside first last t h = grind (arith, nat_tests)

-- what the piece gives, once its runs are joined to none
piece_joined : (curious none joined : Wanted) (t : ℕ) → none ≡ [] → RunsGive N joined (λ t. greater_of (wanted_at none t) (wanted_at curious t)) → wanted_at joined t ≡ wanted_at curious t
piece_joined curious none joined t e g = g.values t ∙ ap (λ rs. greater_of (wanted_at rs t) (wanted_at curious t)) e

-- a piece of them with the range asked for besides
abbrev Besides : ℕ → ℕ → Wanted → Wanted → Type 0
Besides first last curious piece = RunsGive N piece (λ t. cond (within first last t) (greater_of (wanted_at curious t) C) (wanted_at curious t))

pub returns-then-first-last : goal.returns-then-first-last
returns-then-first-last c =
    let curious = c.args.curious.now in
    let joined = c.join_piece.new.self.runs in
    let empty : (t : ℕ) → within c.args.first c.args.last t ≡ false = λ t. outside c.args.first c.args.last t c.if-first-last.true in
    IfOk-weaker c.whole_of.result (λ piece. RunsGive N piece (λ t. wanted_at joined t)) (Besides c.args.first c.args.last curious)
    (λ piece g. record {
      canonical = g.canonical;
      in_range = g.in_range;
      values = λ t. g.values t ∙ piece_joined curious c.new-stream.result.runs joined t c.new-stream.ensures.runs c.in_ok-join_piece.ensures.joined
          ∙ sym (cond-false (within c.args.first c.args.last t) (greater_of (wanted_at curious t) C) (wanted_at curious t) (empty t));
    }) c.whole_of.ensures

pub returns : goal.returns
returns c =
    let curious = c.args.curious.now in
    let joined = c.join_piece.new.self.runs in
    let ranged = c.join_range.new.self.runs in
    let same : (t : ℕ) → wanted_at c.reserve.new.self.runs t ≡ wanted_at curious t = λ t.
    ap (λ rs. wanted_at rs t) c.in_ok-reserve.ensures.runs ∙ piece_joined curious c.new-stream.result.runs joined t c.new-stream.ensures.runs c.in_ok-join_piece.ensures.joined in
    IfOk-weaker c.whole_of-2.result (λ piece. RunsGive N piece (λ t. wanted_at ranged t)) (Besides c.args.first c.args.last curious)
    (λ piece g. record {
      canonical = g.canonical;
      in_range = g.in_range;
      values = λ t. g.values t ∙ c.join_range.ensures.joined.values t ∙ ap (λ x. cond (within c.args.first c.args.last t) (greater_of x C) x) (same t);
    }) c.whole_of-2.ensures
