use Rattle.std.proofs.Common.{[], ◌∷◌, ◌++◌}
use Rattle.std.proofs.lemmas.Option.{IfSome_then}
use Rattle.json.specs.Token.{key}
use Rattle.json.specs.Print.{quoted, separator}
use Rattle.gr_event.proofs.Found.{found_both}
use Rattle.gr_event.proofs.compare.behind_name.Goals as goal

pub returns : goal.returns
returns c =
    let name = c.args.name.now in
    IfSome_then c.behind_byte.result c.behind_byte.ensures
    (λ left colon. found_both (separator c.args.after (key name)) (quoted name ++ 58 ∷ []) _ _ left.now (c.in_ok-behind_comma.ensures name)
    (found_both (quoted name) (58 ∷ []) _ _ left.now c.in_ok-behind_quoted.ensures colon))
