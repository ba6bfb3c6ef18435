-- How far a pattern fits at the front of a text, up to its first '%'
use Rattle.std.specs.Prelude.{ℕ, ◌==◌, Bool, false, if◌then◌else◌, List, [], ◌∷◌}
use Rattle.gr_filter.specs.declared.like.Front.{Front}
use Rattle.gr_filter.specs.declared.like.Front.TheVariants as front
use Rattle.gr_filter.specs.Like.{continues, after_character, any_front}

-- not; all of it, with what is left of the text; or up to a '%', with what is left of both behind it
pub data Reach : Type 0 where
  differs : Reach
  whole : List ℕ → Reach
  up_to : List ℕ → List ℕ → Reach

abbrev pub reach_of : Front → Reach
reach_of front.Differs = differs
reach_of (front.Whole t) = whole t.now
reach_of (front.UpTo p t) = up_to p.now t.now

abbrev pub reach_character : (List ℕ → Reach) → List ℕ → Reach
reach_character rest [] = differs
reach_character rest (c ∷ cs) = if continues c then differs else rest (after_character cs)

abbrev pub reach_byte : ℕ → (List ℕ → Reach) → List ℕ → Reach
reach_byte p rest [] = differs
reach_byte p rest (c ∷ cs) = if p == c then rest cs else differs

abbrev pub reach : List ℕ → List ℕ → Reach
reach [] text = whole text
reach (p ∷ ps) text = if p == 37 then up_to ps text
    else (if p == 95 then reach_character (reach ps) text else reach_byte p (reach ps) text)

-- what is left behind some front of one byte or more fits
abbrev pub any_later : (List ℕ → Bool) → List ℕ → Bool
any_later rest [] = false
any_later rest (c ∷ cs) = any_front rest cs
