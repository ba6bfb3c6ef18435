-- Truth with a third value: false < unknown < true
use Rattle.std.specs.Prelude.{Bool, true, false}
use Rattle.gr_filter.specs.declared.kleene.Kleene.{Kleene}
use Rattle.gr_filter.specs.declared.kleene.Kleene.TheVariants.{False, Unknown, True}

-- what is known to be true or false
abbrev pub known : Bool → Kleene
known true = True
known false = False

-- false and true are exchanged, unknown stays
abbrev pub opposite : Kleene → Kleene
opposite False = True
opposite Unknown = Unknown
opposite True = False

-- AND gives the least of both
abbrev pub least : Kleene → Kleene → Kleene
least False b = False
least Unknown False = False
least Unknown b = Unknown
least True b = b

-- OR gives the greatest of both
abbrev pub greatest : Kleene → Kleene → Kleene
greatest True b = True
greatest Unknown True = True
greatest Unknown b = Unknown
greatest False b = b

-- the opposite, where NOT stands before
abbrev pub opposite_if : Bool → Kleene → Kleene
opposite_if true k = opposite k
opposite_if false k = k
