-- What the lines tell a subscriber of a publisher, in their order
use Rattle.std.specs.Prelude.{◌≡◌, ℕ, ◌<◌, ◌≤◌, ◌&&◌, nat_eq, if◌then◌else◌, List, [], ◌∷◌, IsTrue}
use Rattle.gr_model.specs.declared.report.Report.{Report}
use Rattle.gr_model.specs.declared.report.Report.TheVariants as line

-- each event that s got from p lies past all that came before, each horizon rises and is not before the events that
-- were got, and at the end none was got past the horizon. n is the horizon before, and r the last tick that was got or
-- heard
abbrev pub Steady : ℕ → ℕ → ℕ → ℕ → List Report → Type 0
Steady s p n r [] = r ≡ n
Steady s p n r (line.Got q k t e ∷ ls) = (IsTrue (nat_eq q s && nat_eq k p) → r < t)
    × Steady s p n (if nat_eq q s && nat_eq k p then t else r) ls
Steady s p n r (line.Horizon q k t ∷ ls) = (IsTrue (nat_eq q s && nat_eq k p) → (n < t) × (r ≤ t))
    × Steady s p (if nat_eq q s && nat_eq k p then t else n) (if nat_eq q s && nat_eq k p then t else r) ls
Steady s p n r (_ ∷ ls) = Steady s p n r ls
