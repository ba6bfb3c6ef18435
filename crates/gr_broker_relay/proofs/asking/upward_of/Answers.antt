use Rattle.std.proofs.Common.{◌≡◌, ℕ, true, false, cond, refl, ap, ◌∙◌}
use Rattle.std.proofs.lemmas.Result.{IfOk-weaker}
use Rattle.gr_tick.specs.Stored.{RunsGive}
use Rattle.gr_curio.specs.Order.{greater_of}
use Rattle.gr_curio.specs.Values.{wanted_at, is_A, is_C}
use Rattle.gr_curio.specs.declared.values.Q3.{Q3}
use Rattle.gr_curio.specs.declared.values.Q3.TheVariants.{N, C, A}
use Rattle.gr_broker_relay.proofs.asking.upward_of.Goals as goal

-- of what is acknowledged or nothing, and what is asked, the greater is the first where it is acknowledged
greater_choice : (d a : Q3) → is_C d ≡ false → greater_of (greater_of N d) a ≡ cond (is_A d) A a
greater_choice N a h = refl
greater_choice A a h = refl
greater_choice C a h = let bad : true ≡ false = h in cc

pub returns : goal.returns
returns c =
    let done = c.args.done.now in
    let asked = c.args.asked.now in
    let joined = c.join_piece-2.new.self.runs in
    let first : (t : ℕ) → wanted_at c.join_piece.new.self.runs t ≡ greater_of N (wanted_at done t) = λ t.
    c.in_ok-join_piece.ensures.joined.values t ∙ ap (λ rs. greater_of (wanted_at rs t) (wanted_at done t)) c.new-stream.ensures.runs in
    IfOk-weaker c.whole_of.result (λ piece. RunsGive N piece (λ t. wanted_at joined t)) (λ piece. RunsGive N piece (λ t. cond (is_A (wanted_at done t)) A (wanted_at asked t)))
    (λ piece g. record {
      canonical = g.canonical;
      in_range = g.in_range;
      values = λ t. g.values t ∙ c.in_ok-join_piece-2.ensures.joined.values t ∙ ap (λ x. greater_of x (wanted_at asked t)) (first t) ∙ greater_choice (wanted_at done t) (wanted_at asked t) (c.requires t);
    }) c.whole_of.ensures
