use Rattle.std.proofs.Common.{◌≡◌, ◌++◌, List, ℕ, drop}
use Rattle.json.specs.Print.{escape}
use Rattle.gr_event.proofs.compare.behind_few.Given as goal

-- what is found of the bytes that are left is found of all
abbrev pub invariant-bytes : goal.invariant-bytes
invariant-bytes l = (end : List ℕ) → l.left ≡ escape (drop l.byte-index l.inside) ++ end → l.fn.text ≡ escape l.fn.inside ++ end
