-- What a step's call leaves and tells, by the step
use Rattle.std.proofs.Common.{◌≡◌, List, sym, ap, ◌∙◌, subst, Some, Ok}
use Rattle.gr_sched.specs.declared.step.Step.{Step}
use Rattle.gr_sched.specs.declared.step.Step.TheVariants as step
use Rattle.gr_model.specs.declared.report.Report.{Report}
use Rattle.gr_model.specs.World.{Transition, next_by, show}
use Rattle.gr_world.specs.Seen.{WorldView, net_in, world_of}
use Rattle.gr_world.specs.Steps.{Makes}

-- what is shown leaves the world as it is
pub shown : (s : Step) (w : WorldView) (lines : List Report) → s ≡ step.Show → lines ≡ show (net_in w) (world_of w) → Makes s w w (Ok lines)
unfolding next_by
shown s w lines e l = subst (λ x. Makes x w w (Ok lines)) (sym e) (λ n told h. ap make (sym l ∙ same told h))
  where
    make : List Report → Transition
    make told = record { world = world_of w; lines = told }

    same : (told : List Report) → Some lines ≡ Some told → lines ≡ told
    same told h = cc
