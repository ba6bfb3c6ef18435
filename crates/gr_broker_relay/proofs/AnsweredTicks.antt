-- One tick of a child's curiosity: what it is told, what is left of it, what is stored, asked on and completed, case by case.
use Rattle.std.proofs.Common.{◌≡◌, ℕ, ◌^◌, Bool, true, false, not, ◌&&◌, ◌||◌, List, refl, sym, ap, ◌∙◌}
use Rattle.std.specs.Prelude.{nat_le, if◌then◌else◌}
use Rattle.std.proofs.lemmas.Bool.{false≢true, and_parts, true_from_ne_false}
use Rattle.gr_know.specs.declared.values.K.{K}
use Rattle.gr_know.specs.declared.values.K.TheVariants.{Q, S, D, F}
use Rattle.gr_curio.specs.declared.values.Q3.{Q3}
use Rattle.gr_curio.specs.declared.values.Q3.TheVariants.{N, C, A}
use Rattle.gr_curio.specs.declared.asks.Moment.{Moment}
use Rattle.gr_curio.specs.declared.asks.Moment.TheVariants.{Never}
use Rattle.gr_tick.specs.Stored.{within}
use Rattle.gr_know.specs.Values.{is_Q}
use Rattle.gr_curio.specs.Values.{is_C, is_A}
use Rattle.gr_curio.specs.Order.{greater_of}
use Rattle.gr_curio.specs.Due.{due_of, noted_of}
use Rattle.gr_event.specs.Joins.{Joins}
use Rattle.gr_edge.specs.Pass as edge
use Rattle.gr_model.specs.Net.{Net, pass, wanted_below}
use Rattle.gr_model.specs.Broker.{max_tick, horizon_if, is_reached, is_F, answer, curious}
use Rattle.gr_broker_walks.specs.Told.{said_at, left_at}

-- what passes is nothing exactly where nothing comes
pub silent_passed : (net : Net) (p c t : ℕ) (k : K) → is_Q (pass net p c t k) ≡ is_Q k
silent_passed net p c t Q = refl
silent_passed net p c t S = refl
silent_passed net p c t F = refl
silent_passed net p c t (D e) = elim (wanted_below net p c t e) as (λ b. is_Q (elim b [ true ↦ D e | false ↦ S ]) ≡ false) [ true ↦ refl | false ↦ refl ]

-- an answer that is worked out before the edge passes as the machine's answer
pub answer_passes : (ws : List edge.Wanting) (js : Joins) (t : ℕ) (k : K) (a q : Q3) → edge.pass ws js t (said_at k a q) ≡ answer (edge.pass ws js t k) (if is_A q then A else a) q
answer_passes ws js t k a N = refl
answer_passes ws js t k a A = refl
answer_passes ws js t k N C = refl
answer_passes ws js t k C C = refl
answer_passes ws js t k A C = refl

-- and it says nothing exactly where nothing was said before the edge
pub silent_answer : (k r : K) (a q : Q3) → is_Q r ≡ is_Q k → is_Q (answer r (if is_A q then A else a) q) ≡ is_Q (said_at k a q)
silent_answer k r a N e = refl
silent_answer k r a A e = refl
silent_answer k r N C e = e
silent_answer k r C C e = e
silent_answer k r A C e = refl

-- what is stored: the curiosity raised by what is left, and then taken out where the child asked before and is answered now
pub stored_value : (k : K) (a q : Q3) → (if not (is_Q (said_at k a q)) && is_C a then N else greater_of a (left_at q (is_Q (said_at k a q)))) ≡ curious k (if is_A q then A else a) q
stored_value k N N = refl
stored_value k C N = refl
stored_value k A N = refl
stored_value k N A = refl
stored_value k C A = refl
stored_value k A A = refl
stored_value k A C = refl
stored_value Q N C = refl
stored_value S N C = refl
stored_value (D e) N C = refl
stored_value F N C = refl
stored_value Q C C = refl
stored_value S C C = refl
stored_value (D e) C C = refl
stored_value F C C = refl

-- an acknowledgement is stored where there was one or one comes
pub stored_A : (k : K) (a q : Q3) → is_A (curious k (if is_A q then A else a) q) ≡ (is_A a || is_A q)
stored_A k N N = refl
stored_A k C N = refl
stored_A k A N = refl
stored_A k N A = refl
stored_A k C A = refl
stored_A k A A = refl
stored_A k A C = refl
stored_A Q N C = refl
stored_A S N C = refl
stored_A (D e) N C = refl
stored_A F N C = refl
stored_A Q C C = refl
stored_A S C C = refl
stored_A (D e) C C = refl
stored_A F C C = refl

-- what is left acknowledges what comes to be acknowledged
pub left_A : (q : Q3) (silent : Bool) → is_A (left_at q silent) ≡ is_A q
left_A N s = refl
left_A A s = refl
left_A C true = refl
left_A C false = refl

-- and asks for what is asked and not told
pub left_C : (q : Q3) (silent : Bool) → is_C (left_at q silent) ≡ (is_C q && silent)
left_C N s = refl
left_C A s = refl
left_C C true = refl
left_C C false = refl

-- what is asked on is unknown, and stays asked
pub asked_on : (k : K) (a q : Q3) → (is_C q && is_Q (said_at k a q)) ≡ true → (k ≡ Q) × (is_A (curious k (if is_A q then A else a) q) ≡ false)
asked_on k a N e = absurd (false≢true e)
asked_on k a A e = absurd (false≢true e)
asked_on k A C e = absurd (false≢true e)
asked_on Q N C e = (refl, refl)
asked_on S N C e = absurd (false≢true e)
asked_on (D x) N C e = absurd (false≢true e)
asked_on F N C e = absurd (false≢true e)
asked_on Q C C e = (refl, refl)
asked_on S C C e = absurd (false≢true e)
asked_on (D x) C C e = absurd (false≢true e)
asked_on F C C e = absurd (false≢true e)

-- of three tests the second may be asked first
pub swapped : (x y z : Bool) → (x && (y && z)) ≡ (y && (x && z))
swapped true y z = refl
swapped false true z = refl
swapped false false z = refl

-- there is such a tick, and the horizon has come to it
abbrev pub reaches : Bool → ℕ → ℕ → Bool
reaches keeps h t = nat_le 1 t && is_reached (horizon_if keeps h) t

-- an acknowledged tick is in range, so only the horizon is asked
pub reached_A : (keeps : Bool) (h t : ℕ) (l : Q3) → (within 1 (2 ^ 62) t ≡ false → l ≡ N) → (is_A l && nat_le t (if keeps then h else max_tick)) ≡ (is_A l && reaches keeps h t)
reached_A keeps h t N out = refl
reached_A keeps h t C out = refl
reached_A keeps h t A out = by_horizon keeps
  where
    A_not_N : A ≡ N → ⊥
    A_not_N e = cc

    parts : (nat_le 1 t ≡ true) × (nat_le t (2 ^ 62) ≡ true)
    parts = and_parts (nat_le 1 t) (nat_le t (2 ^ 62)) (true_from_ne_false (within 1 (2 ^ 62) t) (λ e. A_not_N (out e)))

    by_horizon : (x : Bool) → nat_le t (if x then h else max_tick) ≡ reaches x h t
    by_horizon true = ap (λ b. b && nat_le t h) (sym parts.0)
    by_horizon false = parts.1 ∙ ap (λ b. b && true) (sym parts.0)

-- what is consolidated is final already, or is completed by what comes
pub finished_value : (k : K) (n l a o : Bool) → ((n && (a && o)) ≡ true → k ≡ F) → (if (l && n) && o then F else k) ≡ (if n && ((a || l) && o) then F else k)
finished_value k true true true o h = refl
finished_value k true true false o h = refl
finished_value k true false true true h = h refl
finished_value k true false true false h = refl
finished_value k true false false o h = refl
finished_value k false true a o h = refl
finished_value k false false a o h = refl

-- a test that follows from another adds nothing to it
pub and_known : (a x : Bool) → (a ≡ true → x ≡ true) → (a && x) ≡ a
and_known true x h = h refl
and_known false x h = refl

-- what is due is asked for
pub due_C : (m : Moment) (q : Q3) (now retry : ℕ) → is_C (due_of m q now retry) ≡ true → is_C q ≡ true
due_C m N now retry e = absurd (false≢true e)
due_C m A now retry e = absurd (false≢true e)
due_C m C now retry e = refl

-- a moment that is noted stays where the tick is not final, and where it is final there was none
pub open_value : (now : ℕ) (m : Moment) (s : Q3) (k : K) (c : Bool) → (k ≡ F → m ≡ Never) → (is_C s ≡ true → k ≡ Q) → (if c then Never else noted_of now m s) ≡ (if is_F (if c then F else k) then Never else noted_of now m s)
open_value now m s k true d n = refl
open_value now m s Q false d n = refl
open_value now m s S false d n = refl
open_value now m s (D e) false d n = refl
open_value now m N F false d n = d refl
open_value now m A F false d n = d refl
open_value now m C F false d n = absurd (F_not_Q (n refl))
  where
    F_not_Q : F ≡ Q → ⊥
    F_not_Q e = cc
