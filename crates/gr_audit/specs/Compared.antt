-- A text, and what was told so far of another one that is compared with it
use Rattle.std.specs.Prelude.{◌≡◌, ◌+◌, ℕ, suc, false, nat_eq, if◌then◌else◌, List, [], ◌∷◌, ◌++◌, Option, Some, None}

pub record ComparedView : Type 0 where
  -- what was told as it stands in the text, and what stands there behind it
  pub same : List ℕ
  pub left : List ℕ
  -- the byte that was told behind it, if it is another one
  pub wrong : Option ℕ
  pub faults : ℕ

-- what was told
abbrev pub told_of : ComparedView → List ℕ
told_of c = elim c.wrong [ None ↦ c.same | Some byte ↦ c.same ++ byte ∷ [] ]

-- the text
abbrev pub text_of : ComparedView → List ℕ
text_of c = c.same ++ c.left

-- a byte is not the next one
abbrev pub IsOther : Option ℕ → List ℕ → Type 0
IsOther None left = Unit {0}
IsOther (Some byte) [] = Unit {0}
IsOther (Some byte) (next ∷ left) = nat_eq next byte ≡ false

-- how many lines of a text end
abbrev pub ends_in : List ℕ → ℕ
ends_in [] = 0
ends_in (byte ∷ text) = if nat_eq byte 10 then suc (ends_in text) else ends_in text

-- the line at which what was told and a text part, where the text begins with this line
abbrev pub wrong_by : ℕ → List ℕ → List ℕ → Option ℕ → Option ℕ
wrong_by first same [] None = None
wrong_by first same (next ∷ left) None = Some (first + ends_in same)
wrong_by first same left (Some byte) = Some (first + ends_in same)

abbrev pub wrong_in : ℕ → ComparedView → Option ℕ
wrong_in first c = wrong_by first c.same c.left c.wrong
