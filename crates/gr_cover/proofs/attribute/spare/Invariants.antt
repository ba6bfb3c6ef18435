use Rattle.std.proofs.Common.{◌≡◌, ◌-◌, ◌∷◌, []}
use Rattle.gr_event.specs.declared.limits.TheConstants.{MAX_TEXT}
use Rattle.gr_cover.specs.Candidates.{spare_from}
use Rattle.gr_cover.proofs.attribute.spare.Given as goal

-- what is left of the search gives the same
abbrev pub invariant-letters : goal.invariant-letters
invariant-letters l = spare_from (MAX_TEXT - l.counter) l.text l.values ≡ spare_from MAX_TEXT (120 ∷ []) l.values
