-- A Curiosity frame that asks nothing is delivered without an answer: its receiver has nothing new to ask, tell or forget
use Rattle.std.proofs.Common.{◌≡◌, ◌≢◌, ⊎_elim, ℕ, suc, zero, Bool, true, false, not, ◌&&◌, List, [], ◌∷◌, ◌++◌, set, get_or, refl, sym, ap, ap₂, ◌∙◌, subst, Option, Some, None}
use Rattle.std.specs.Prelude.{nat_eq, if◌then◌else◌}
use Rattle.std.specs.List.{list_any}
use Rattle.std.proofs.lemmas.Bool.{false≢true, or_cases, or_left, or_right, both_ways, eq-eqb, ne_eqb}
use Rattle.gr_know.specs.declared.values.K.{K}
use Rattle.gr_know.specs.declared.values.K.TheVariants.{Q}
use Rattle.gr_curio.specs.declared.values.Q3.{Q3}
use Rattle.gr_curio.specs.declared.values.Q3.TheVariants.{N, C, A}
use Rattle.gr_frame.specs.declared.Frame.{Frame}
use Rattle.gr_frame.specs.Bytes.{cut_frames}
use Rattle.gr_tick.specs.Runs.{AreRuns, points}
use Rattle.gr_know.specs.Values.{Known, known_at, is_Q}
use Rattle.gr_curio.specs.Values.{Wanted, wanted_at, asked_at, is_C, is_A, is_outstanding}
use Rattle.gr_model.specs.Net.{Net, is_host, keeps_horizon, pass}
use Rattle.gr_model.specs.Broker.{View, Log, know_frames, want_frames, all_A, any_C, consolidated, finished, due, up_frames, place_of, answer, answers, curious, stored, acknowledged, curiosity}
use Rattle.gr_model.specs.Tree.{IsDistinct}
use Rattle.gr_model_calls.specs.Truth.{Facts, WantsTruth}
use Rattle.gr_model_calls.specs.Fits.{ViewTrue}
use Rattle.gr_tick.proofs.RunLaws.{AreRunsOf, runs_equal}
use Rattle.gr_model_calls.proofs.asks.CallTicks.{due-at}
use Rattle.gr_model_calls.proofs.rules.Forwarding.{wants_of}
use Rattle.gr_model_calls.proofs.rules.Answering.{SameLength, wants_true_at, acknowledged-is, answers-is, stored-is, curiosity_wanted}
use Rattle.gr_event.specs.Joins.{Joins}
use Rattle.gr_model_calls.proofs.calls.Calls.{trimmed_wants}

-- Lists of runs in which nothing stands

none_known : (know : Known) → AreRuns Q know → ((t : ℕ) → known_at know t ≡ Q) → know ≡ []
none_known know a h = runs_equal Q 1 1 know [] a tt h

none_wanted : (w : Wanted) → AreRuns N w → ((t : ℕ) → wanted_at w t ≡ N) → w ≡ []
none_wanted w a h = runs_equal N 1 1 w [] a tt h

up_none : (net : Net) (p b : ℕ) → up_frames net p b [] ≡ []
unfolding cut_frames
up_none net p b = go (net.up p b)
  where
    go : (u : Option ℕ) → (let fs : List Frame = elim u [ Some u ↦ want_frames b u p [] | None ↦ [] ] in fs) ≡ []
    go None = refl
    go (Some u) = refl

know_none : (js : Joins) (b c p : ℕ) → know_frames js b c p [] ≡ []
unfolding cut_frames
know_none js b c p = refl

answer_quiet : (k : K) (a x : Q3) → x ≢ C → answer k a x ≡ Q
answer_quiet k a N h = refl
answer_quiet k a A h = refl
answer_quiet k a C h = absurd (h refl)

not_C : (x : Q3) → x ≢ C → is_C x ≡ false
not_C N h = refl
not_C A h = refl
not_C C h = absurd (h refl)

-- a piece that asks nothing is answered by no frame, and nothing is asked on
pub quiet_frames : (net : Net) (f : Facts) (p b now c : ℕ) (piece : Wanted) (v : View) (log : Log) → ViewTrue net f p b v → list_any (λ y. nat_eq y c) (net.children p b) ≡ true → WantsTruth net f p c piece → ((t : ℕ) → wanted_at piece t ≢ C) →
    (curiosity net p b now c (place_of c (net.children p b)) piece v log).frames ≡ []
unfolding curiosity
quiet_frames net f p b now c piece v log h child wt quiet =
    ap₂ (λ x y. know_frames v.joins b c p x ++ up_frames net p b y) reply_none (asked_none (is_host net p b)) ∙ (ap (λ x. x ++ up_frames net p b []) (know_none v.joins b c p) ∙ up_none net p b)
  where
    w : Wanted
    w = acknowledged (wants_of net p b v c) piece

    reply : Known
    reply = answers net p c v.know w piece

    ri : AreRunsOf Q (λ t. answer (pass net p c t (known_at v.know t)) (wanted_at w t) (wanted_at piece t)) reply
    ri = answers-is net p c v.know w piece h.know.runs wt.runs

    reply_none : reply ≡ []
    reply_none = none_known reply ri.runs (λ t. ri.same_at t ∙ answer_quiet (pass net p c t (known_at v.know t)) (wanted_at w t) (wanted_at piece t) (quiet t))

    know : Known
    know = finished v.know (consolidated (keeps_horizon net p b) v.horizon (set v.wants (place_of c (net.children p b)) (stored v.know w piece)))

    asking : Wanted
    asking = due now net.retry know v.asks (λ t. is_C (wanted_at piece t) && is_Q (known_at reply t)) (points piece ++ points reply)

    di : AreRunsOf N (λ t. if (is_C (wanted_at piece t) && is_Q (known_at reply t)) && is_Q (known_at know t) && not (is_outstanding (asked_at v.asks t) now net.retry) then C else N) asking
    di = due-at now net.retry know v.asks (λ t. is_C (wanted_at piece t) && is_Q (known_at reply t)) (points piece ++ points reply) (curiosity_wanted reply piece wt.runs)

    asking_none : asking ≡ []
    asking_none = none_wanted asking di.runs (λ t. di.same_at t ∙ ap (λ x. if (x && is_Q (known_at reply t)) && is_Q (known_at know t) && not (is_outstanding (asked_at v.asks t) now net.retry) then C else N) (not_C (wanted_at piece t) (quiet t)))

    asked_none : (q : Bool) → (let x : Wanted = elim q [ true ↦ [] | false ↦ asking ] in x) ≡ []
    asked_none true = refl
    asked_none false = asking_none

-- What is stored of the children

pub curiosity_stores : (net : Net) (p b now c : ℕ) (piece : Wanted) (v : View) (log : Log) →
    (curiosity net p b now c (place_of c (net.children p b)) piece v log).view.wants ≡ set v.wants (place_of c (net.children p b)) (stored v.know (acknowledged (wants_of net p b v c) piece) piece)
unfolding curiosity
curiosity_stores net p b now c piece v log = trimmed_wants net p b _

any_C_set : (ws : List Wanted) (i t : ℕ) (x : Wanted) → (wanted_at x t ≡ C → wanted_at (get_or ws i []) t ≡ C) → any_C (set ws i x) t ≡ true → any_C ws t ≡ true
any_C_set [] i t x f e = e
any_C_set (w ∷ ws) zero t x f e = ⊎_elim (λ y. or_left (is_C (wanted_at w t)) (any_C ws t) (ap is_C (f (C_of (wanted_at x t) y)))) (λ y. or_right (is_C (wanted_at w t)) (any_C ws t) y) (or_cases (is_C (wanted_at x t)) (any_C ws t) e)
  where
    C_of : (q : Q3) → is_C q ≡ true → q ≡ C
    C_of N e = absurd (false≢true e)
    C_of A e = absurd (false≢true e)
    C_of C e = refl
any_C_set (w ∷ ws) (suc i) t x f e = ⊎_elim (λ y. or_left (is_C (wanted_at w t)) (any_C ws t) y) (λ y. or_right (is_C (wanted_at w t)) (any_C ws t) (any_C_set ws i t x f y)) (or_cases (is_C (wanted_at w t)) (any_C (set ws i x) t) e)

curious_quiet : (k : K) (a x : Q3) → x ≢ C → curious k a x ≡ a
curious_quiet k a N h = refl
curious_quiet k a A h = refl
curious_quiet k a C h = absurd (h refl)

A_if_C : (a x : Q3) → (if is_A x then A else a) ≡ C → a ≡ C
A_if_C a N e = e
A_if_C a C e = e
A_if_C a A e = absurd (A_not_C e)
  where
    A_not_C : A ≡ C → ⊥
    A_not_C e = cc

-- where some child's question is stored after such a piece, it was stored before
pub quiet_any_C : (net : Net) (f : Facts) (p b now c t : ℕ) (piece : Wanted) (v : View) (log : Log) → ViewTrue net f p b v → list_any (λ y. nat_eq y c) (net.children p b) ≡ true → WantsTruth net f p c piece → wanted_at piece t ≢ C →
    any_C (curiosity net p b now c (place_of c (net.children p b)) piece v log).view.wants t ≡ true → any_C v.wants t ≡ true
quiet_any_C net f p b now c t piece v log h child wt quiet e =
    let w0 = wants_of net p b v c in
    let ai = acknowledged-is w0 piece (wants_true_at net f p (net.children p b) v.wants c h.wants child).runs wt.runs in
    let si = stored-is v.know (acknowledged w0 piece) piece ai.runs wt.runs in
    any_C_set v.wants (place_of c (net.children p b)) t (stored v.know (acknowledged w0 piece) piece)
    (λ x. A_if_C (wanted_at w0 t) (wanted_at piece t) (sym (ai.same_at t) ∙ (sym (curious_quiet (known_at v.know t) (wanted_at (acknowledged w0 piece) t) (wanted_at piece t) quiet) ∙ (sym (si.same_at t) ∙ x))))
    (ap (λ z. any_C z t) (sym (curiosity_stores net p b now c piece v log)) ∙ e)

-- each child has acknowledged a tick that all that is stored has as acknowledged
pub all_A_of : (cs : List ℕ) (ws : List Wanted) (t : ℕ) → SameLength cs ws → IsDistinct cs → ((c : ℕ) → list_any (λ x. nat_eq x c) cs ≡ true → wanted_at (get_or ws (place_of c cs) []) t ≡ A) → all_A ws t ≡ true
all_A_of [] [] t l d h = refl
all_A_of [] (w ∷ ws) t l d h = absurd l
all_A_of (c ∷ cs) [] t l d h = absurd l
all_A_of (c ∷ cs) (w ∷ ws) t l d h =
    let here : wanted_at w t ≡ A = subst (λ q. wanted_at (get_or (w ∷ ws) (if q then 0 else suc (place_of c cs)) []) t ≡ A) (eq-eqb c c refl) (h c (or_left (nat_eq c c) (list_any (λ x. nat_eq x c) cs) (eq-eqb c c refl))) in
    ap₂ (λ x y. x && y) (ap is_A here) (all_A_of cs ws t l d.1 (λ e m.
    let n : nat_eq c e ≡ false = ne_eqb c e (λ z. both_ways (list_any (λ y. nat_eq y c) cs) d.0 (subst (λ y. list_any (λ x. nat_eq x y) cs ≡ true) (sym z) m)) in
    subst (λ q. wanted_at (get_or (w ∷ ws) (if q then 0 else suc (place_of e cs)) []) t ≡ A) n (h e (or_right (nat_eq c e) (list_any (λ x. nat_eq x e) cs) m))))
