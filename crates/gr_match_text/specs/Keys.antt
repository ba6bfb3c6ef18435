-- The names of a set, in the order in which they came
use Rattle.std.specs.Prelude.{ℕ, List, Vec, map}
use Rattle.std.specs.declared.alloc.Global.{Global}

abbrev pub key_texts : List (Vec ℕ Global) → List (List ℕ)
key_texts keys = map (λ k. k.items) keys
