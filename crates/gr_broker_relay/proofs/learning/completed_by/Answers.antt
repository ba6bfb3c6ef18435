-- Where there is no child, all have acknowledged every tick
use Rattle.std.proofs.Common.{◌≡◌, ℕ, ◌&&◌, Bool, true, false, nat_lt, nat_le, if◌then◌else◌, List, [], ◌∷◌, length, refl, sym, ap, ◌∙◌, arith}
use Rattle.gr_tick.specs.Kept.{Kept}
use Rattle.gr_curio.specs.declared.values.Q3.{Q3}
use Rattle.gr_curio.specs.declared.values.Q3.TheVariants.{N, A}
use Rattle.gr_curio.specs.Wants.{runs_of, all_A}
use Rattle.gr_broker_relay.proofs.learning.completed_by.Goals as goal

nobody : (ws : List (Kept Q3)) (b : Bool) (t : ℕ) → length ws ≡ 0 → (b && all_A (runs_of ws) t) ≡ b
nobody [] true t e = refl
nobody [] false t e = refl
nobody (w ∷ ws) b t e = absurd (omega (arith, e))

pub returns-then-children-eq0 : goal.returns-then-children-eq0
returns-then-children-eq0 c =
    let none : length c.args.held.now.wants ≡ 0 = sym c.children.ensures ∙ c.if-children-eq0.true in
    record {
      canonical = c.len.ensures.canonical;
      in_range = c.len.ensures.in_range;
      values = λ t.
          c.in_ok-passed.ensures t
          ∙ ap (λ h. if nat_lt h t && nat_le t c.args.to then A else N) c.horizon.ensures.horizon
          ∙ ap (λ b. if b then A else N) (sym (nobody c.args.held.now.wants (nat_lt c.args.held.now.horizon t && nat_le t c.args.to) t none));
    }
