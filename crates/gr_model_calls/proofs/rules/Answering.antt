-- A tick that a child asks is answered, or stored and asked on
use Rattle.std.proofs.Common.{◌≡◌, ◌≢◌, ◌⊎◌, inl, inr, ⊎_elim, ℕ, suc, ◌≤◌, Bool, true, false, not, ◌&&◌, ◌||◌, List, [], ◌∷◌, ◌++◌, set, get_or, map, refl, sym, ap, ap₂, ◌∙◌, subst, Option, Some, None, arith}
use Rattle.std.specs.Prelude.{nat_eq, nat_le, if◌then◌else◌}
use Rattle.std.specs.List.{list_any}
use Rattle.std.proofs.lemmas.Bool.{cases_Bool, false≢true, true≢false, eqb-true, and_right, and_parts}
use Rattle.std.proofs.lemmas.List.{get_or-set_other}
use Rattle.gr_know.specs.declared.values.K.{K}
use Rattle.gr_know.specs.declared.values.K.TheVariants.{Q, S, D, F}
use Rattle.gr_curio.specs.declared.values.Q3.{Q3}
use Rattle.gr_curio.specs.declared.values.Q3.TheVariants.{N, C, A}
use Rattle.gr_frame.specs.declared.Frame.{Frame}
use Rattle.gr_tick.specs.Runs.{AreRuns, points, IsSteady, IsPast}
use Rattle.gr_know.specs.Values.{Known, known_at, is_Q, same_K}
use Rattle.gr_curio.specs.Values.{Wanted, wanted_at, asked_at, is_C, is_A, same_Q3, is_outstanding}
use Rattle.gr_event.specs.Joins.{Joins}
use Rattle.gr_model.specs.Net.{Net, is_host, keeps_horizon, pass}
use Rattle.gr_model.specs.Broker.{View, Log, Outcome, want_frames, know_frames, all_A, consolidated, horizon_if, is_reached, is_consolidated_by, finished, due, noted, up_frames, place_of, passed, answer, answers, curious, stored, acknowledged, curiosity, head}
use Rattle.gr_frame.specs.Bytes.{head_size, cut_frames, known_run_size, wanted_run_size}
use Rattle.gr_model.specs.World.{is_want}
use Rattle.gr_model_calls.specs.Truth.{Facts, WantsTruth, AllWantTruth}
use Rattle.gr_model_calls.specs.Fits.{ViewTrue}
use Rattle.gr_tick.proofs.RunLaws.{AreRunsOf, tabulate-is, zip_runs-is, IsNone-append, IsPast-append, value_at-step, value_at-past, value_at-start}
use Rattle.gr_know.proofs.ValueLaws.{K_decides}
use Rattle.gr_curio.proofs.ValueLaws.{Q3_decides}
use Rattle.gr_model_calls.proofs.calls.CallTruth.{AllWantRuns, IsWanted, finished-is, curiosity_wants, done_runs, done_values}
use Rattle.gr_frame.specs.declared.Body.{Body}
use Rattle.gr_frame.specs.declared.Body.TheVariants as body
use Rattle.gr_model_calls.proofs.calls.Pieces.{AllParts, cut_frames-parts}
use Rattle.gr_model_calls.proofs.runs.Worlds.{Each}
use Rattle.gr_model_calls.proofs.asks.AskMoments.{Each-on}
use Rattle.gr_model_calls.proofs.calls.Passed.{passed-is}
use Rattle.gr_model_calls.proofs.asks.CallTicks.{IsTrimmed, trimmed-is, moment_kept, moment_from, due-at, noted-at}
use Rattle.gr_model_calls.proofs.rules.Forwarding.{Has, Has-front, Has-back, TellsTick, WantsTick, know_frames_tell, up_frames_want, pass_not_Q, wants_of}
use Rattle.gr_curio.specs.declared.asks.Moment.TheVariants.{Never, At}

-- Lists of children

-- a curiosity is stored for each child
abbrev pub SameLength : List ℕ → List Wanted → Type 0
SameLength [] [] = Unit {0}
SameLength (c ∷ cs) (w ∷ ws) = SameLength cs ws
SameLength [] (w ∷ ws) = ⊥
SameLength (c ∷ cs) [] = ⊥

-- a true view has stored something of each child
pub same_length : (net : Net) (f : Facts) (p : ℕ) (cs : List ℕ) (ws : List Wanted) → AllWantTruth net f p cs ws → SameLength cs ws
same_length net f p [] [] a = tt
same_length net f p [] (w ∷ ws) a = absurd a
same_length net f p (c ∷ cs) [] a = absurd a
same_length net f p (c ∷ cs) (w ∷ ws) a = same_length net f p cs ws a.1

-- what is stored of a child is found at its place
pub set_here : (cs : List ℕ) (ws : List Wanted) (c : ℕ) (x : Wanted) → SameLength cs ws → list_any (λ y. nat_eq y c) cs ≡ true → get_or (set ws (place_of c cs) x) (place_of c cs) [] ≡ x
set_here [] ws c x l m = absurd (false≢true m)
set_here (d ∷ cs) [] c x l m = absurd l
set_here (d ∷ cs) (w ∷ ws) c x l m =
    elim (cases_Bool (nat_eq d c)) [
      | inl e ↦ rw e refl
      | inr e ↦ rw e (set_here cs ws c x l (subst (λ q. (q || list_any (λ y. nat_eq y c) cs) ≡ true) e m))
    ]

-- two children have two places
pub place_apart : (cs : List ℕ) (c d : ℕ) → list_any (λ y. nat_eq y c) cs ≡ true → list_any (λ y. nat_eq y d) cs ≡ true → (d ≢ c) → place_of d cs ≢ place_of c cs
place_apart [] c d m k n = absurd (false≢true m)
place_apart (x ∷ cs) c d m k n =
    elim (cases_Bool (nat_eq x c)) [
      | inl e ↦ elim (cases_Bool (nat_eq x d)) [
        | inl g ↦ absurd (n (sym (eqb-true x d g) ∙ eqb-true x c e))
        | inr g ↦ rw e (rw g (λ z. omega (arith, z)))
      ]
      | inr e ↦ elim (cases_Bool (nat_eq x d)) [
        | inl g ↦ rw e (rw g (λ z. omega (arith, z)))
        | inr g ↦ rw e (rw g (λ z. place_apart cs c d (subst (λ q. (q || list_any (λ y. nat_eq y c) cs) ≡ true) e m) (subst (λ q. (q || list_any (λ y. nat_eq y d) cs) ≡ true) g k) n (omega (arith, z))))
      ]
    ]

not_all_A : (cs : List ℕ) (ws : List Wanted) (c t : ℕ) → SameLength cs ws → list_any (λ y. nat_eq y c) cs ≡ true → is_A (wanted_at (get_or ws (place_of c cs) []) t) ≡ false → all_A ws t ≡ false
not_all_A [] ws c t l m h = absurd (false≢true m)
not_all_A (d ∷ cs) [] c t l m h = absurd l
not_all_A (d ∷ cs) (w ∷ ws) c t l m h =
    elim (cases_Bool (nat_eq d c)) [
      | inl e ↦ ap (λ q. q && all_A ws t) (subst (λ q. is_A (wanted_at (get_or (w ∷ ws) (if q then 0 else suc (place_of c cs)) []) t) ≡ false) e h)
      | inr e ↦ ap (λ q. is_A (wanted_at w t) && q) (not_all_A cs ws c t l (subst (λ q. (q || list_any (λ y. nat_eq y c) cs) ≡ true) e m) (subst (λ q. is_A (wanted_at (get_or (w ∷ ws) (if q then 0 else suc (place_of c cs)) []) t) ≡ false) e h)) ∙ and_right (is_A (wanted_at w t)) false refl
    ]

-- where what is stored is canonical, something is stored of each child
pub long_of : (cs : List ℕ) (ws : List Wanted) → AllWantRuns cs ws → SameLength cs ws
long_of [] [] a = tt
long_of [] (w ∷ ws) a = absurd a
long_of (c ∷ cs) [] a = absurd a
long_of (c ∷ cs) (w ∷ ws) a = long_of cs ws a.1

-- a tick where a child has no A is not consolidated
pub not_consolidated : (net : Net) (p b c t h : ℕ) (ws : List Wanted) → SameLength (net.children p b) ws → list_any (λ y. nat_eq y c) (net.children p b) ≡ true → is_A (wanted_at (get_or ws (place_of c (net.children p b)) []) t) ≡ false → is_consolidated_by (keeps_horizon net p b) h ws t ≡ false
not_consolidated net p b c t h ws l m n = ap (λ q. nat_le 1 t && is_reached (horizon_if (keeps_horizon net p b) h) t && q) (not_all_A (net.children p b) ws c t l m n) ∙ and_right (nat_le 1 t && is_reached (horizon_if (keeps_horizon net p b) h) t) false refl

pub not_settled : (net : Net) (f : Facts) (p b c t h : ℕ) (ws : List Wanted) → AllWantTruth net f p (net.children p b) ws → list_any (λ y. nat_eq y c) (net.children p b) ≡ true → is_A (wanted_at (get_or ws (place_of c (net.children p b)) []) t) ≡ false → is_consolidated_by (keeps_horizon net p b) h ws t ≡ false
not_settled net f p b c t h ws a m n = not_consolidated net p b c t h ws (same_length net f p (net.children p b) ws a) m n

-- what is stored of each child is true of it
pub wants_true_at : (net : Net) (f : Facts) (p : ℕ) (cs : List ℕ) (ws : List Wanted) (c : ℕ) → AllWantTruth net f p cs ws → list_any (λ x. nat_eq x c) cs ≡ true → WantsTruth net f p c (get_or ws (place_of c cs) [])
wants_true_at net f p [] ws c a m = absurd (false≢true m)
wants_true_at net f p (d ∷ cs) [] c a m = absurd a
wants_true_at net f p (d ∷ cs) (w ∷ ws) c a m =
    elim (cases_Bool (nat_eq d c)) [
      | inl e ↦ rw e (subst (λ x. WantsTruth net f p x w) (eqb-true d c e) a.0)
      | inr e ↦ rw e (wants_true_at net f p cs ws c a.1 (subst (λ b. (b || list_any (λ x. nat_eq x c) cs) ≡ true) e m))
    ]

-- the answers, the curiosity with its acknowledgements, and what is stored, tick by tick
pub acknowledged-is : (w piece : Wanted) → AreRuns N w → AreRuns N piece → AreRunsOf N (λ t. if is_A (wanted_at piece t) then A else wanted_at w t) (acknowledged w piece)
unfolding acknowledged
acknowledged-is w piece h i = zip_runs-is N N N same_Q3 Q3_decides (λ a x. if is_A x then A else a) w piece refl h i

-- three steady functions joined
three_steady : {V : Type 0} (bottom : V) (g : K → Q3 → Q3 → V) (know : Known) (w piece : Wanted) → ((k : K) (a : Q3) → g k a N ≡ bottom) → AreRuns N piece → ((t : ℕ) → IsPast t (points know ++ points w ++ points piece) → g (known_at know t) (wanted_at w t) (wanted_at piece t) ≡ bottom) → IsSteady bottom (λ t. g (known_at know t) (wanted_at w t) (wanted_at piece t)) (points know ++ points w ++ points piece)
three_steady bottom g know w piece z r p = record {
  start = ap (g (known_at know 0) (wanted_at w 0)) (value_at-start N 1 piece 0 r (omega arith)) ∙ z (known_at know 0) (wanted_at w 0);
  step = λ t n.
      let x = IsNone-append (suc t) (points know ++ points w) (points piece) n in
      let y = IsNone-append (suc t) (points know) (points w) x.0 in
      ap₂ (λ k a. g k a (wanted_at piece (suc t))) (value_at-step Q know t y.0) (value_at-step N w t y.1) ∙ ap (g (known_at know t) (wanted_at w t)) (value_at-step N piece t x.1);
  past = p;
}

-- the answer to a child has at each tick what the rule answers there
pub answers-is : (net : Net) (p c : ℕ) (know : Known) (w piece : Wanted) → AreRuns Q know → AreRuns N piece → AreRunsOf Q (λ t. answer (pass net p c t (known_at know t)) (wanted_at w t) (wanted_at piece t)) (answers net p c know w piece)
unfolding answers
answers-is net p c know w piece k r =
    let s = passed-is net p c know k in
    let i = tabulate-is Q same_K K_decides (λ t. answer (known_at (passed net p c know) t) (wanted_at w t) (wanted_at piece t)) (points (passed net p c know) ++ points w ++ points piece)
    (three_steady Q answer (passed net p c know) w piece (λ k a. refl) r (λ t n. ap (answer (known_at (passed net p c know) t) (wanted_at w t)) (value_at-past N piece t (IsPast-append t (points (passed net p c know) ++ points w) (points piece) n).1))) in
    record { runs = i.runs; same_at = λ t. i.same_at t ∙ ap (λ x. answer x (wanted_at w t) (wanted_at piece t)) (s.same_at t) }

-- what is stored of a child has at each tick what the rule stores there
pub stored-is : (know : Known) (w piece : Wanted) → AreRuns N w → AreRuns N piece → AreRunsOf N (λ t. curious (known_at know t) (wanted_at w t) (wanted_at piece t)) (stored know w piece)
unfolding stored
stored-is know w piece rw_ rp =
    tabulate-is N same_Q3 Q3_decides (λ t. curious (known_at know t) (wanted_at w t) (wanted_at piece t)) (points know ++ points w ++ points piece) (record {
      start = ap₂ (curious (known_at know 0)) (value_at-start N 1 w 0 rw_ (omega arith)) (value_at-start N 1 piece 0 rp (omega arith));
      step = λ t n.
          let x = IsNone-append (suc t) (points know ++ points w) (points piece) n in
          let y = IsNone-append (suc t) (points know) (points w) x.0 in
          ap₂ (λ k a. curious k a (wanted_at piece (suc t))) (value_at-step Q know t y.0) (value_at-step N w t y.1) ∙ ap (curious (known_at know t) (wanted_at w t)) (value_at-step N piece t x.1);
      past = λ t n.
          let x = IsPast-append t (points know ++ points w) (points piece) n in
          let y = IsPast-append t (points know) (points w) x.0 in
          ap₂ (curious (known_at know t)) (value_at-past N w t y.1) (value_at-past N piece t x.1);
    })

-- Values

not_A : (q : Q3) → q ≢ A → is_A q ≡ false
not_A N h = refl
not_A C h = refl
not_A A h = absurd (h refl)

answer_C : (k : K) (a : Q3) → a ≢ A → answer k a C ≡ k
answer_C k a h = ap (λ q. if q then F else k) (not_A a h)

curious_C : (k : K) (a : Q3) → a ≢ A → k ≡ Q → curious k a C ≡ C
curious_C k a h e = ap₂ (λ q x. if q then A else (if x then C else N)) (not_A a h) (ap is_Q e)

-- what c has acknowledged before its C or N is looked at
abbrev pub acknowledged_at : Q3 → Q3 → Q3
acknowledged_at a x = if is_A x then A else a

-- a frame without an A at the tick
abbrev pub NoABody : ℕ → Body → Type 0
NoABody t (body.Curiosity runs) = wanted_at runs t ≢ A
NoABody t _ = Unit {0}

-- the frame acknowledges nothing at the tick
abbrev pub NoA : ℕ → Frame → Type 0
NoA t f = NoABody t f.body

no_A_know : (js : Joins) (t from to p : ℕ) (runs : Known) → Each (NoA t) (know_frames js from to p runs)
no_A_know js t from to p runs = go (cut_frames (head_size js) known_run_size runs)
  where
    go : (parts : List Known) → Each (NoA t) (map (λ part. record { head = head from to p; body = body.Knowledge part js }) parts)
    go [] = tt
    go (x ∷ xs) = (tt, go xs)

-- a piece without an acknowledgement at a tick goes up without one
pub no_A_up : (net : Net) (t p b : ℕ) (runs : Wanted) → AreRuns N runs → wanted_at runs t ≢ A → Each (NoA t) (up_frames net p b runs)
no_A_up net t p b runs a n = at (net.up p b)
  where
    N_not_A : N ≡ A → ⊥
    N_not_A e = cc

    go : (u : ℕ) (parts : List Wanted) → AllParts N parts runs → Each (NoA t) (map (λ part. record { head = head b u p; body = body.Curiosity part }) parts)
    go u [] h = tt
    go u (x ∷ xs) h = (λ e. ⊎_elim (λ z. n (sym z ∙ e)) (λ z. N_not_A (sym z ∙ e)) (h.0.1 t), go u xs h.1)

    at : (u : Option ℕ) → Each (NoA t) (elim u [ Some u ↦ want_frames b u p runs | None ↦ [] ])
    at None = tt
    at (Some u) = go u (cut_frames 12 wanted_run_size runs) (cut_frames-parts N 12 wanted_run_size runs a)

-- a Curiosity frame from a broker to the next one up, that has of a tick what a piece has, or nothing
pub record SentUp (net : Net) (p b t : ℕ) (runs : Wanted) (f : Frame) : Type 0 where
  pub part : Wanted
  pub body_is : f.body ≡ body.Curiosity part
  pub from_is : f.head.from ≡ b
  pub publisher : f.head.publisher ≡ p
  pub up : net.up p b ≡ Some f.head.to
  pub value : (wanted_at part t ≡ wanted_at runs t) ⊎ (wanted_at part t ≡ N)

-- each frame that goes up has of a tick what the piece has, or nothing
pub up_frames_sent : (net : Net) (t p b : ℕ) (runs : Wanted) → AreRuns N runs → Each (SentUp net p b t runs) (up_frames net p b runs)
up_frames_sent net t p b runs a = at (net.up p b) refl
  where
    go : (u : ℕ) (parts : List Wanted) → net.up p b ≡ Some u → AllParts N parts runs → Each (SentUp net p b t runs) (map (λ part. record { head = head b u p; body = body.Curiosity part }) parts)
    go u [] e h = tt
    go u (x ∷ xs) e h = (record { part = x; body_is = refl; from_is = refl; publisher = refl; up = e; value = h.0.1 t }, go u xs e h.1)

    at : (u : Option ℕ) → net.up p b ≡ u → Each (SentUp net p b t runs) (elim u [ Some u ↦ want_frames b u p runs | None ↦ [] ])
    at None e = tt
    at (Some u) e = go u (cut_frames 12 wanted_run_size runs) e (cut_frames-parts N 12 wanted_run_size runs a)

-- what goes up of a tick has no A, and a C is noted with this moment
pub record AsksUp (net : Net) (p b t now : ℕ) (v : View) (f : Frame) : Type 0 where
  pub part : Wanted
  pub body_is : f.body ≡ body.Curiosity part
  pub from_is : f.head.from ≡ b
  pub publisher : f.head.publisher ≡ p
  pub up : net.up p b ≡ Some f.head.to
  pub no_A : wanted_at part t ≢ A
  pub noted : wanted_at part t ≡ C → asked_at v.asks t ≡ At now

-- each frame that goes up is such
abbrev pub UpAsks : Net → ℕ → ℕ → ℕ → ℕ → View → Frame → Type 0
UpAsks net p b t now v f = is_want f ≡ true → AsksUp net p b t now v f

up_asks_know : (js : Joins) (net : Net) (p b t now c : ℕ) (v : View) (runs : Known) → Each (UpAsks net p b t now v) (know_frames js b c p runs)
up_asks_know js net p b t now c v runs = go (cut_frames (head_size js) known_run_size runs)
  where
    go : (parts : List Known) → Each (UpAsks net p b t now v) (map (λ part. record { head = head b c p; body = body.Knowledge part js }) parts)
    go [] = tt
    go (x ∷ xs) = (λ e. absurd (false≢true e), go xs)

up_asks_up : (net : Net) (p b t now : ℕ) (v : View) (runs : Wanted) → wanted_at runs t ≢ A → (wanted_at runs t ≡ C → asked_at v.asks t ≡ At now) → (fs : List Frame) → Each (SentUp net p b t runs) fs → Each (UpAsks net p b t now v) fs
up_asks_up net p b t now v runs n k [] a = tt
up_asks_up net p b t now v runs n k (f ∷ fs) a = (
  λ e. record {
    part = a.0.part;
    body_is = a.0.body_is;
    from_is = a.0.from_is;
    publisher = a.0.publisher;
    up = a.0.up;
    no_A = λ z. ⊎_elim (λ y. n (sym y ∙ z)) (λ y. N_not_A (sym y ∙ z)) a.0.value;
    noted = λ z. ⊎_elim (λ y. k (sym y ∙ z)) (λ y. absurd (N_not_C (sym y ∙ z))) a.0.value;
  },
  up_asks_up net p b t now v runs n k fs a.1,
)
  where
    N_not_A : N ≡ A → ⊥
    N_not_A e = cc

    N_not_C : N ≡ C → ⊥
    N_not_C e = cc

-- what a child's curiosity does at each tick
pub record CuriosityTicks (net : Net) (p b now c : ℕ) (piece : Wanted) (v : View) (o : Outcome) : Type 0 where
  pub answered : (t : ℕ) → wanted_at piece t ≡ C → wanted_at (wants_of net p b v c) t ≢ A → known_at v.know t ≢ Q → Has (TellsTick p b c t (pass net p c t (known_at v.know t))) o.frames
  pub told_F : (t : ℕ) → wanted_at piece t ≡ C → wanted_at (wants_of net p b v c) t ≡ A → Has (TellsTick p b c t F) o.frames
  pub wants : (t : ℕ) → wanted_at (wants_of net p b o.view c) t ≡ curious (known_at v.know t) (acknowledged_at (wanted_at (wants_of net p b v c) t) (wanted_at piece t)) (wanted_at piece t)
  pub stored : (t : ℕ) → wanted_at piece t ≡ C → wanted_at (wants_of net p b v c) t ≢ A → known_at v.know t ≡ Q → wanted_at (wants_of net p b o.view c) t ≡ C
  pub other : (d : ℕ) → list_any (λ y. nat_eq y d) (net.children p b) ≡ true → (d ≢ c) → wants_of net p b o.view d ≡ wants_of net p b v d
  pub asked : (t : ℕ) → is_host net p b ≡ false → wanted_at piece t ≡ C → wanted_at (wants_of net p b v c) t ≢ A → known_at v.know t ≡ Q → is_outstanding (asked_at v.asks t) now net.retry ≡ false → ((u : ℕ) → net.up p b ≡ Some u → Has (WantsTick p b u t C) o.frames) × (asked_at o.view.asks t ≡ At now)
  pub asks : (t : ℕ) → known_at o.view.know t ≡ Q → (asked_at o.view.asks t ≡ At now) ⊎ (asked_at o.view.asks t ≡ asked_at v.asks t)
  pub asks_new : (t : ℕ) → asked_at o.view.asks t ≡ At now → (asked_at v.asks t ≡ At now) ⊎ ((u : ℕ) → net.up p b ≡ Some u → Has (WantsTick p b u t C) o.frames)
  pub asks_stored : (t : ℕ) → asked_at o.view.asks t ≡ At now → (asked_at v.asks t ≡ At now) ⊎ ((wanted_at piece t ≡ C) × (wanted_at (wants_of net p b o.view c) t ≡ C))
  pub no_A : (t : ℕ) → Each (NoA t) o.frames
  pub sends : (t : ℕ) → Each (UpAsks net p b t now o.view) o.frames
  pub horizon : o.view.horizon ≡ v.horizon
  pub know : (t : ℕ) → (known_at o.view.know t ≡ (if is_consolidated_by (keeps_horizon net p b) v.horizon o.view.wants t then F else known_at v.know t)) ⊎ ((known_at o.view.know t ≡ Q) × (is_host net p b ≡ false) × (keeps_horizon net p b ≡ true → t ≤ v.horizon))

-- what is left to ask of a piece changes only at points of the piece and of the reply
pub curiosity_wanted : (reply : Known) (piece : Wanted) → AreRuns N piece → IsWanted (λ t. is_C (wanted_at piece t) && is_Q (known_at reply t)) (points piece ++ points reply)
curiosity_wanted reply piece r = record {
  start = ap (λ q. is_C q && is_Q (known_at reply 0)) (value_at-start N 1 piece 0 r (omega arith));
  step = λ t n. let k = IsNone-append (suc t) (points piece) (points reply) n in ap₂ (λ q x. is_C q && is_Q x) (value_at-step N piece t k.0) (value_at-step Q reply t k.1);
  past = λ t n. let k = IsPast-append t (points piece) (points reply) n in ap (λ q. is_C q && is_Q (known_at reply t)) (value_at-past N piece t k.0);
}

-- a value is Q where it cannot be anything else
cases_K : (k : K) → ((k ≢ Q) → k ≡ Q) → k ≡ Q
cases_K Q h = refl
cases_K S h = h (λ e. cc)
cases_K (D x) h = h (λ e. cc)
cases_K F h = h (λ e. cc)

-- the test for an unknown tick passes nothing else
pub Q_is : (k : K) → is_Q k ≡ true → k ≡ Q
Q_is Q e = refl
Q_is S e = absurd (true≢false (sym e))
Q_is (D x) e = absurd (true≢false (sym e))
Q_is F e = absurd (true≢false (sym e))

-- each tick that a child asks is answered where it is known, and else
-- stored, and asked of the next broker up unless that is outstanding
pub curiosity_ticks : (net : Net) (f : Facts) (p b now c : ℕ) (piece : Wanted) (v : View) (log : Log) → ViewTrue net f p b v → list_any (λ y. nat_eq y c) (net.children p b) ≡ true → WantsTruth net f p c piece →
    CuriosityTicks net p b now c piece v (curiosity net p b now c (place_of c (net.children p b)) piece v log)
unfolding curiosity
curiosity_ticks net f p b now c piece v log h child wt =
    record {
      answered = λ t e n k. Has-front (TellsTick p b c t (pass net p c t (known_at v.know t))) (know_frames v.joins b c p reply) (up_frames net p b (asked (is_host net p b))) (
          let x = reply_C t e n in
          subst (λ z. Has (TellsTick p b c t z) (know_frames v.joins b c p reply)) x (know_frames_tell v.joins p b c t reply (λ z. pass_not_Q net p c t (known_at v.know t) k (sym x ∙ z))));
      told_F = λ t e n. Has-front (TellsTick p b c t F) (know_frames v.joins b c p reply) (up_frames net p b (asked (is_host net p b))) (
          let x : known_at reply t ≡ F = ri.same_at t ∙ ap₂ (answer (pass net p c t (known_at v.know t))) (w_C t e ∙ n) e in
          subst (λ z. Has (TellsTick p b c t z) (know_frames v.joins b c p reply)) x (know_frames_tell v.joins p b c t reply (λ z. F_not_Q (sym x ∙ z))));
      wants = λ t. ap (λ z. wanted_at (get_or z at []) t) i.wants ∙ (stored_at t ∙ ap (λ z. curious (known_at v.know t) z (wanted_at piece t)) (ai.same_at t));
      stored = λ t e n k. ap (λ z. wanted_at (get_or z at []) t) i.wants ∙ stored_C t e n k;
      other = λ d m n. ap (λ z. get_or z (place_of d (net.children p b)) []) i.wants ∙ get_or-set_other v.wants at (place_of d (net.children p b)) (stored v.know w piece) [] (place_apart (net.children p b) c d child m n);
      asked = λ t host e n k out.
          let d = due_C t e n k out in
          let z : wanted_at (asked (is_host net p b)) t ≡ C = ap (λ q. wanted_at (asked q) t) host ∙ d in (
            λ u up. Has-back (WantsTick p b u t C) (know_frames v.joins b c p reply) (up_frames net p b (asked (is_host net p b)))
                (subst (λ y. Has (WantsTick p b u t y) (up_frames net p b (asked (is_host net p b)))) z (up_frames_want net p b u t (asked (is_host net p b)) up (λ y. C_not_N (sym z ∙ y)))),
            moment t (gone t (know_Q t e n k)) ∙ ap (λ q. if is_C q then At now else asked_at v.asks t) z,
          );
      asks = λ t g. now_or (is_C (wanted_at (asked (is_host net p b)) t)) t (moment t g);
      asks_new = λ t g. elim (cases_Bool (is_C (wanted_at (asked (is_host net p b)) t))) [
        | inl e ↦ inr (λ u up. let z = C_of (wanted_at (asked (is_host net p b)) t) e in
            Has-back (WantsTick p b u t C) (know_frames v.joins b c p reply) (up_frames net p b (asked (is_host net p b)))
            (subst (λ y. Has (WantsTick p b u t y) (up_frames net p b (asked (is_host net p b)))) z (up_frames_want net p b u t (asked (is_host net p b)) up (λ y. C_not_N (sym z ∙ y)))))
        | inr e ↦ inl (sym (ap (λ q. if q then At now else asked_at v.asks t) e) ∙ was t g)
      ];
      asks_stored = λ t g. elim (cases_Bool (is_C (wanted_at (asked (is_host net p b)) t))) [
        | inl e ↦ let z = asked_parts (is_host net p b) t (C_of (wanted_at (asked (is_host net p b)) t) e) in inr (z.0, ap (λ y. wanted_at (get_or y at []) t) i.wants ∙ stored_C t z.0 z.1 z.2)
        | inr e ↦ inl (sym (ap (λ q. if q then At now else asked_at v.asks t) e) ∙ was t g)
      ];
      sends = λ t. Each-on (UpAsks net p b t now (curiosity net p b now c at piece v log).view) (know_frames v.joins b c p reply) (up_frames net p b (asked (is_host net p b))) (up_asks_know v.joins net p b t now c (curiosity net p b now c at piece v log).view reply)
          (up_asks_up net p b t now (curiosity net p b now c at piece v log).view (asked (is_host net p b)) (asked_not_A (is_host net p b) t) (λ e. let z = asked_parts (is_host net p b) t e in moment t (gone t (know_Q t z.0 z.1 z.2)) ∙ ap (λ q. if is_C q then At now else asked_at v.asks t) e) (up_frames net p b (asked (is_host net p b))) (up_frames_sent net t p b (asked (is_host net p b)) (asked_runs (is_host net p b))));
      no_A = λ t. Each-on (NoA t) (know_frames v.joins b c p reply) (up_frames net p b (asked (is_host net p b))) (no_A_know v.joins t b c p reply) (no_A_up net t p b (asked (is_host net p b)) (asked_runs (is_host net p b)) (asked_not_A (is_host net p b) t));
      horizon = i.horizon;
      know = λ t. ⊎_elim (λ x. inl (x ∙ (fin t ∙ ap (λ z. if is_consolidated_by keeps v.horizon z t then F else known_at v.know t) (sym i.wants)))) (λ x. inr x) (i.each t);
    }
  where
    keeps : Bool
    keeps = keeps_horizon net p b

    at : ℕ
    at = place_of c (net.children p b)

    w0 : Wanted
    w0 = wants_of net p b v c

    w : Wanted
    w = acknowledged w0 piece

    w0_true : WantsTruth net f p c w0
    w0_true = wants_true_at net f p (net.children p b) v.wants c h.wants child

    ai : AreRunsOf N (λ t. if is_A (wanted_at piece t) then A else wanted_at w0 t) w
    ai = acknowledged-is w0 piece w0_true.runs wt.runs

    w_C : (t : ℕ) → wanted_at piece t ≡ C → wanted_at w t ≡ wanted_at w0 t
    w_C t e = ai.same_at t ∙ ap (λ q. if is_A q then A else wanted_at w0 t) e

    reply : Known
    reply = answers net p c v.know w piece

    ri : AreRunsOf Q (λ t. answer (pass net p c t (known_at v.know t)) (wanted_at w t) (wanted_at piece t)) reply
    ri = answers-is net p c v.know w piece h.know.runs wt.runs

    reply_C : (t : ℕ) → wanted_at piece t ≡ C → wanted_at w0 t ≢ A → known_at reply t ≡ pass net p c t (known_at v.know t)
    reply_C t e n = ri.same_at t ∙ (ap₂ (answer (pass net p c t (known_at v.know t))) (w_C t e) e ∙ answer_C (pass net p c t (known_at v.know t)) (wanted_at w0 t) n)

    ws : List Wanted
    ws = set v.wants at (stored v.know w piece)

    all : AllWantTruth net f p (net.children p b) ws
    all = curiosity_wants net f p b c piece v h child wt

    stored_at : (t : ℕ) → wanted_at (get_or ws at []) t ≡ curious (known_at v.know t) (wanted_at w t) (wanted_at piece t)
    stored_at t = ap (λ z. wanted_at z t) (set_here (net.children p b) v.wants c (stored v.know w piece) (same_length net f p (net.children p b) v.wants h.wants) child) ∙ (stored-is v.know w piece ai.runs wt.runs).same_at t

    stored_C : (t : ℕ) → wanted_at piece t ≡ C → wanted_at w0 t ≢ A → known_at v.know t ≡ Q → wanted_at (get_or ws at []) t ≡ C
    stored_C t e n k = stored_at t ∙ (ap₂ (curious (known_at v.know t)) (w_C t e) e ∙ curious_C (known_at v.know t) (wanted_at w0 t) n k)

    done : Wanted
    done = consolidated keeps v.horizon ws

    dr : AreRuns N done
    dr = done_runs net f p b v.horizon ws all

    know : Known
    know = finished v.know done

    fi : AreRunsOf Q (λ t. if is_A (wanted_at done t) then F else known_at v.know t) know
    fi = finished-is v.know done h.know.runs dr

    F_if : (x : Bool) (k : K) → (if is_A (if x then A else N) then F else k) ≡ (if x then F else k)
    F_if true k = refl
    F_if false k = refl

    fin : (t : ℕ) → known_at know t ≡ (if is_consolidated_by keeps v.horizon ws t then F else known_at v.know t)
    fin t = fi.same_at t ∙ (ap (λ x. if is_A x then F else known_at v.know t) (done_values net f p b v.horizon ws all t) ∙ F_if (is_consolidated_by keeps v.horizon ws t) (known_at v.know t))

    asking : Wanted
    asking = due now net.retry know v.asks (λ t. is_C (wanted_at piece t) && is_Q (known_at reply t)) (points piece ++ points reply)

    di : AreRunsOf N (λ t. if (is_C (wanted_at piece t) && is_Q (known_at reply t)) && is_Q (known_at know t) && not (is_outstanding (asked_at v.asks t) now net.retry) then C else N) asking
    di = due-at now net.retry know v.asks (λ t. is_C (wanted_at piece t) && is_Q (known_at reply t)) (points piece ++ points reply) (curiosity_wanted reply piece wt.runs)

    asked : Bool → Wanted
    asked q = elim q [ true ↦ [] | false ↦ asking ]

    asked_runs : (q : Bool) → AreRuns N (asked q)
    asked_runs true = tt
    asked_runs false = di.runs

    C_not_A : (q : Bool) → (if q then C else N) ≢ A
    C_not_A true = λ e. cc
    C_not_A false = λ e. cc

    asked_not_A : (q : Bool) (t : ℕ) → wanted_at (asked q) t ≢ A
    asked_not_A true t = λ e. C_not_A false e
    asked_not_A false t = λ e. C_not_A ((is_C (wanted_at piece t) && is_Q (known_at reply t)) && is_Q (known_at know t) && not (is_outstanding (asked_at v.asks t) now net.retry)) (sym (di.same_at t) ∙ e)

    C_of : (q : Q3) → is_C q ≡ true → q ≡ C
    C_of N e = absurd (false≢true e)
    C_of A e = absurd (false≢true e)
    C_of C e = refl

    C_not_N : C ≡ N → ⊥
    C_not_N e = cc

    C_if : (q : Bool) → (if q then C else N) ≡ C → q ≡ true
    C_if true e = refl
    C_if false e = absurd (C_not_N (sym e))

    passes_Q : (t : ℕ) (k : K) → is_Q (pass net p c t k) ≡ true → k ≡ Q
    passes_Q t k e = cases_K k (λ n. absurd (pass_not_Q net p c t k n (Q_is (pass net p c t k) e)))

    -- what is answered Q was neither acknowledged nor known
    unanswered : (t : ℕ) (a : Q3) (k : K) → is_Q (answer (pass net p c t k) a C) ≡ true → (k ≡ Q) × (a ≢ A)
    unanswered t A k e = absurd (false≢true e)
    unanswered t N k e = (passes_Q t k e, λ h. cc)
    unanswered t C k e = (passes_Q t k e, λ h. cc)

    asked_parts : (q : Bool) (t : ℕ) → wanted_at (asked q) t ≡ C → (wanted_at piece t ≡ C) × (wanted_at w0 t ≢ A) × (known_at v.know t ≡ Q)
    asked_parts true t e = absurd (C_not_N (sym e))
    asked_parts false t e =
        let r = known_at reply t in
        let x = C_if ((is_C (wanted_at piece t) && is_Q r) && is_Q (known_at know t) && not (is_outstanding (asked_at v.asks t) now net.retry)) (sym (di.same_at t) ∙ e) in
        let y = and_parts (is_C (wanted_at piece t)) (is_Q r) (and_parts (is_C (wanted_at piece t) && is_Q r) (is_Q (known_at know t)) (and_parts ((is_C (wanted_at piece t) && is_Q r) && is_Q (known_at know t)) (not (is_outstanding (asked_at v.asks t) now net.retry)) x).0).0 in
        let g = C_of (wanted_at piece t) y.0 in
        let u = unanswered t (wanted_at w0 t) (known_at v.know t) (sym (ap is_Q (ri.same_at t ∙ ap₂ (answer (pass net p c t (known_at v.know t))) (w_C t g) g)) ∙ y.1) in
        (g, u.1, u.0)

    noted_is : AreRunsOf Never (λ t. if is_C (wanted_at (asked (is_host net p b)) t) then At now else asked_at v.asks t) (noted now v.asks (asked (is_host net p b)))
    noted_is = noted-at now v.asks (asked (is_host net p b)) h.asks (asked_runs (is_host net p b))

    left : View
    left = record { know = know; wants = ws; asks = noted now v.asks (asked (is_host net p b)); horizon = v.horizon; joins = v.joins }

    after_it : View
    after_it = (curiosity net p b now c at piece v log).view

    i : IsTrimmed net p b left after_it
    i = trimmed-is net p b left fi.runs

    -- an unknown tick is unknown afterwards, and there the moment of the last ask stays; and none comes of itself
    gone : (t : ℕ) → known_at know t ≡ Q → known_at after_it.know t ≡ Q
    gone t e = ⊎_elim (λ x. x ∙ e) (λ x. x.0) (i.each t)

    moment : (t : ℕ) → known_at after_it.know t ≡ Q → asked_at after_it.asks t ≡ (if is_C (wanted_at (asked (is_host net p b)) t) then At now else asked_at v.asks t)
    moment t e = moment_kept net p b left after_it i noted_is.runs t e ∙ noted_is.same_at t

    was : (t : ℕ) → asked_at after_it.asks t ≡ At now → (if is_C (wanted_at (asked (is_host net p b)) t) then At now else asked_at v.asks t) ≡ At now
    was t e = sym (noted_is.same_at t) ∙ moment_from net p b left after_it i noted_is.runs t now e

    know_Q : (t : ℕ) → wanted_at piece t ≡ C → wanted_at w0 t ≢ A → known_at v.know t ≡ Q → known_at know t ≡ Q
    know_Q t e n k = fin t ∙ (ap (λ q. if q then F else known_at v.know t) (not_settled net f p b c t v.horizon ws all child (ap is_A (stored_C t e n k))) ∙ k)

    due_C : (t : ℕ) → wanted_at piece t ≡ C → wanted_at w0 t ≢ A → known_at v.know t ≡ Q → is_outstanding (asked_at v.asks t) now net.retry ≡ false → wanted_at asking t ≡ C
    due_C t e n k out = di.same_at t ∙ (ap₂ (λ x y. if x && y && not (is_outstanding (asked_at v.asks t) now net.retry) then C else N)
        (ap₂ (λ x y. is_C x && is_Q y) e (reply_C t e n ∙ ap (pass net p c t) k)) (ap is_Q (know_Q t e n k)) ∙ ap (λ x. if not x then C else N) out)

    now_or : (q : Bool) (t : ℕ) → asked_at (curiosity net p b now c at piece v log).view.asks t ≡ (if q then At now else asked_at v.asks t) → (asked_at (curiosity net p b now c at piece v log).view.asks t ≡ At now) ⊎ (asked_at (curiosity net p b now c at piece v log).view.asks t ≡ asked_at v.asks t)
    now_or true t e = inl e
    now_or false t e = inr e

    F_not_Q : F ≡ Q → ⊥
    F_not_Q e = cc
