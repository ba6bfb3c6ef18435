-- Two lanes in which a log stands hold one, and a pair of images stands for one log
use Rattle.std.proofs.Common.{◌≡◌, ℕ, List, [], Ok, refl, sym, ap, ◌∙◌, subst}
use Rattle.std.specs.Prelude.{IsOk, is_ok, Result}
use Rattle.gr_publog.specs.State.{LogState}
use Rattle.gr_publog.specs.Text.{head_in}
use Rattle.gr_publog.specs.Lanes.{Found, found_none, present_of, lanes_text, state_in}
use Rattle.gr_publog.specs.Views.{LogView, Lanes, MayLeavePair, StandsRead, Stands}
use Rattle.gr_report.specs.Readable.{IsReadable}

pub is_ok_of : {X : Type 0} (r : Result X ℕ) (x : X) → r ≡ Ok x → IsOk r
is_ok_of {X} r x e = ap (λ (y : Result X ℕ). is_ok y) e

-- one answer is of one value
pub ok_same : {X : Type 0} (x y : X) → ◌≡◌ {A = Result X ℕ} (Ok x) (Ok y) → x ≡ y
ok_same x y e = cc

-- lanes in which a log stands hold one, whatever pair a crash leaves of them
pub stands_readable : StandsRead → (ls : Lanes) (l : LogView) (late : List ℕ) → Stands ls l → l.state.late ≡ late → IsReadable late ls
stands_readable read ls l late s e a b left =
    is_ok_of (state_in late a b) l.state (subst (λ (js : List ℕ). ◌≡◌ {A = Result LogState ℕ} (state_in js a b) (Ok l.state)) e (read ls l a b s left))

-- lanes that read nothing stand for nothing
pub nothing_found : (late : List ℕ) → lanes_text late [] [] ≡ Ok (found_none late)
unfolding lanes_text present_of head_in
nothing_found late = refl

-- a pair that stands for two things stands for one
pub found_same : (late a b : List ℕ) (f g : Found) → lanes_text late a b ≡ Ok f → lanes_text late a b ≡ Ok g → f ≡ g
found_same late a b f g e h = ok_same f g (sym e ∙ h)
