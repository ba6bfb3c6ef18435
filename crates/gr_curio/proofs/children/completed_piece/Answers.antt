use Rattle.std.proofs.Common.{◌≡◌, ℕ, ◌-◌, ◌&&◌, nat_le, min, cond, length, take, drop, refl, sym, ap, ◌∙◌}
use Rattle.std.proofs.lemmas.List.{take_rest}
use Rattle.std.proofs.lemmas.Result.{IfOk-weaker}
use Rattle.gr_tick.specs.Stored.{RunsGive}
use Rattle.gr_curio.specs.Values.{wanted_at, is_A}
use Rattle.gr_curio.specs.Wants.{runs_of, all_A, all_A_but}
use Rattle.gr_curio.specs.declared.values.Q3.TheVariants.{N, A}
use Rattle.gr_curio.proofs.ChildrenLemmas.{give_child, all_but_one}
use Rattle.gr_curio.proofs.children.completed_piece.Goals as goal

pub returns : goal.returns
returns c =
    let cs = c.args.children.now in
    let both : (t : ℕ) → (all_A (runs_of (take c.min-out.result cs)) t && all_A (runs_of (take (length cs - c.min-next.result) (drop c.min-next.result cs))) t) ≡ all_A_but c.args.but (runs_of cs) t = λ t.
    ap (λ ys. all_A (runs_of (take c.min-out.result cs)) t && all_A (runs_of ys) t) (take_rest cs c.min-next.result)
    ∙ sym (all_but_one c.args.but cs c.min-out.result c.min-next.result t (c.min-out.ensures ∙ ap (λ n. min n (length cs)) c.unwrap_or.ensures) c.min-next.ensures) in
    IfOk-weaker c.completed_by.result _ (λ done. RunsGive N done (λ t. cond (is_A (wanted_at c.args.piece.now t) && nat_le t c.args.upto && all_A_but c.args.but (runs_of cs) t) A N))
    (λ done k. give_child done done _ _ k refl (λ t. ap (λ b. cond (is_A (wanted_at c.args.piece.now t) && nat_le t c.args.upto && b) A N) (both t)))
    c.completed_by.ensures
