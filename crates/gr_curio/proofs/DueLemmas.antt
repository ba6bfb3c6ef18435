-- What is due of a run, by pieces on which the moment of the last ask stays.
use Rattle.std.proofs.Common.{◌≡◌, ℕ, Bool, true, false, not, ◌&&◌, cond, sym, ap, ◌∙◌}
use Rattle.std.proofs.lemmas.Bool.{and_left, cond-false}
use Rattle.gr_curio.specs.Values.{is_C, is_outstanding}
use Rattle.gr_curio.specs.Due.{due_of}
use Rattle.gr_curio.specs.declared.asks.Moment.{Moment}
use Rattle.gr_curio.specs.declared.values.Q3.{Q3}
use Rattle.gr_curio.specs.declared.values.Q3.TheVariants.{N, C}

-- what is not asked for is not due
pub due_unasked : (m : Moment) (q : Q3) (now retry : ℕ) → is_C q ≡ false → due_of m q now retry ≡ N
due_unasked m q now retry n = cond-false (is_C q && not (is_outstanding m now retry)) C N (and_left (is_C q) (not (is_outstanding m now retry)) n)

-- what is asked for is due by the moment of its last ask, which is that of the tick before
pub due_asked : (m n k : Moment) (q : Q3) (now retry : ℕ) (b : Bool) → is_C q ≡ true → k ≡ n → m ≡ n → b ≡ is_outstanding k now retry → cond (not b) C N ≡ due_of m q now retry
due_asked m n k q now retry b y ek em eb =
    ap (λ x. cond (not x) C N) (eb ∙ ap (λ x. is_outstanding x now retry) (ek ∙ sym em)) ∙ sym (ap (λ x. cond (x && not (is_outstanding m now retry)) C N) y)
