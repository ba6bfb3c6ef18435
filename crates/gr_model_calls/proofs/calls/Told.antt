-- Where a horizon moves, a subscriber gets exactly what is expected
use Rattle.std.proofs.Common.{◌≡◌, ◌≢◌, ◌⊎◌, inl, inr, ⊎_elim, ℕ, ◌≤◌, ◌<◌, Bool, true, false, ◌&&◌, [], ◌∷◌, ◌++◌, refl, sym, ap, ap₂, ◌∙◌, Option, Some, None, arith, le_trans, le_refl}
use Rattle.std.specs.Prelude.{nat_le, nat_lt, if◌then◌else◌, filter}
use Rattle.std.proofs.lemmas.Bool.{cases_Bool, cases_lt, cases_eq, and_right, le-leb, lt-leb, lt-ltb, le-ltb}
use Rattle.gr_event.specs.declared.event.Event.{Event}
use Rattle.gr_know.specs.declared.values.K.{K}
use Rattle.gr_know.specs.declared.values.K.TheVariants.{Q, S, D, F}
use Rattle.gr_know.specs.Values.{Known, known_at}
use Rattle.gr_model.specs.Net.{Net}
use Rattle.gr_model.specs.Broker.{data_ticks}
use Rattle.gr_model_calls.specs.Truth.{Facts, IsTrueAt, KnowsTruth}
use Rattle.gr_model.specs.Tree.{is_below}
use Rattle.gr_model_calls.specs.Said.{said_at, TicksRise, due_upto, due_between}
use Rattle.gr_model_calls.proofs.calls.TruthTicks.{concerns_at}
use Rattle.gr_subend.specs.Said.{event_of}
pub use Rattle.gr_subend.proofs.Saying.{Items, said_at-here, said_at-past, said_at-below, TicksRise-lower, some_none, said_equal, TicksUpto, rises_append, said_append, said_append_front}
pub use Rattle.gr_subend.proofs.Ticks.{data_ticks_rise, data_ticks_in, data_ticks_out}

-- Filters

-- what a test keeps of rising ticks rises
pub filter-rises : (test : ℕ × Event → Bool) (from : ℕ) (xs : Items) → TicksRise from xs → TicksRise from (filter test xs)
filter-rises test from [] r = tt
filter-rises test from (x ∷ xs) r =
    elim (cases_Bool (test x)) [
      | inl e ↦ rw e (r.0, filter-rises test x.0 xs r.1)
      | inr e ↦ rw e (TicksRise-lower from x.0 (filter test xs) (omega (arith, r.0)) (filter-rises test x.0 xs r.1))
    ]

-- the event, where there is one that the test passes
abbrev pub kept_by : (ℕ × Event → Bool) → ℕ → Option Event → Option Event
kept_by test t None = None
kept_by test t (Some e) = if test (t, e) then Some e else None

-- a filtered list says at each tick what the list says there, where the test passes it
pub said_at-filter : (test : ℕ × Event → Bool) (from : ℕ) (xs : Items) (t : ℕ) → TicksRise from xs → said_at (filter test xs) t ≡ kept_by test t (said_at xs t)
said_at-filter test from [] t r = refl
said_at-filter test from (x ∷ xs) t r =
    elim (cases_eq x.0 t) [
      | inl h ↦
          let g : test (t, x.1) ≡ test x = ap (λ u. test (u, x.1)) (sym h) in
          elim (cases_Bool (test x)) [
            | inl e ↦ rw e (said_at-here x (filter test xs) t h ∙ sym (ap (kept_by test t) (said_at-here x xs t h) ∙ rw (g ∙ e) refl))
            | inr e ↦ rw e (said_at-below x.0 (filter test xs) t (filter-rises test x.0 xs r.1) (omega arith) ∙ sym (ap (kept_by test t) (said_at-here x xs t h) ∙ rw (g ∙ e) refl))
          ]
      | inr h ↦
          let i = said_at-filter test x.0 xs t r.1 in
          elim (cases_Bool (test x)) [
            | inl e ↦ rw e (said_at-past x (filter test xs) t h ∙ (i ∙ sym (ap (kept_by test t) (said_at-past x xs t h))))
            | inr e ↦ rw e (i ∙ sym (ap (kept_by test t) (said_at-past x xs t h)))
          ]
    ]

-- What a subscriber gets

-- at a known tick past the subscriber's horizon, what is known is what was logged, as far as the subscriber wants it
same_kept : (net : Net) (f : Facts) (p b s lo t : ℕ) (k : K) → IsTrueAt net f p b t k → k ≢ Q → is_below net p b s ≡ true → f.reached s ≡ lo → lo < t →
    kept_by (λ x. net.wants p s x.0 x.1) t (event_of k) ≡ kept_by (λ x. net.wants p s x.0 x.1) t (f.said t)
same_kept net f p b s lo t Q h n m r l = absurd (n refl)
same_kept net f p b s lo t (D e) h n m r l = ap (kept_by (λ x. net.wants p s x.0 x.1) t) (sym h.logged)
same_kept net f p b s lo t S h n m r l = sym (unwanted (f.said t) refl)
  where
    unwanted : (o : Option Event) → f.said t ≡ o → kept_by (λ x. net.wants p s x.0 x.1) t o ≡ None
    unwanted None e = refl
    unwanted (Some v) e = rw (sym (concerns_at net f p s t v e) ∙ h.none s m) refl
same_kept net f p b s lo t F h n m r l = sym (unwanted (f.said t) refl)
  where
    unwanted : (o : Option Event) → f.said t ≡ o → kept_by (λ x. net.wants p s x.0 x.1) t o ≡ None
    unwanted None e = refl
    unwanted (Some v) e =
        elim (cases_Bool (net.wants p s t v)) [
          | inl w ↦ absurd (omega (arith, h.told s m (concerns_at net f p s t v e ∙ w), r))
          | inr w ↦ rw w refl
        ]

kept_between : (net : Net) (p s lo hi t : ℕ) (o : Option Event) → lo < t → t ≤ hi → kept_by (λ x. (nat_lt lo x.0 && nat_le x.0 hi) && net.wants p s x.0 x.1) t o ≡ kept_by (λ x. net.wants p s x.0 x.1) t o
kept_between net p s lo hi t None h k = refl
kept_between net p s lo hi t (Some e) h k = rw (lt-ltb lo t h, le-leb t hi k) refl

kept_outside : (net : Net) (p s lo hi t : ℕ) (o : Option Event) → (t ≤ lo) ⊎ (hi < t) → kept_by (λ x. (nat_lt lo x.0 && nat_le x.0 hi) && net.wants p s x.0 x.1) t o ≡ None
kept_outside net p s lo hi t None h = refl
kept_outside net p s lo hi t (Some e) h =
    ⊎_elim (λ k. rw (le-ltb lo t k) refl) (λ k. rw (lt-leb t hi k, and_right (nat_lt lo t) false refl) refl) h

-- the horizon moves from lo to hi: what is told is what was logged there and is wanted
pub told_is_due : (net : Net) (f : Facts) (p b s lo hi : ℕ) (know : Known) (events : Items) → KnowsTruth net f p b know → ((t : ℕ) → lo < t → t ≤ hi → known_at know t ≢ Q) → is_below net p b s ≡ true → f.reached s ≡ lo → TicksRise 0 events → ((t : ℕ) → f.said t ≡ said_at events t) →
    filter (λ x. net.wants p s x.0 x.1) (data_ticks lo hi know) ≡ due_between net p s lo hi events
told_is_due net f p b s lo hi know events k n m r rise says =
    let between = λ (x : ℕ × Event). (nat_lt lo x.0 && nat_le x.0 hi) && net.wants p s x.0 x.1 in
    let wanted = λ (x : ℕ × Event). net.wants p s x.0 x.1 in
    let d = data_ticks_rise lo hi know k.runs in
    said_equal 0 0 (filter wanted (data_ticks lo hi know)) (filter between events) (filter-rises wanted 0 (data_ticks lo hi know) d) (filter-rises between 0 events rise)
    (λ t. said_at-filter wanted 0 (data_ticks lo hi know) t d ∙ (at t (cases_lt lo t) (cases_lt hi t) ∙ sym (said_at-filter between 0 events t rise)))
  where
    at : (t : ℕ) → (lo < t) ⊎ (t ≤ lo) → (hi < t) ⊎ (t ≤ hi) → kept_by (λ x. net.wants p s x.0 x.1) t (said_at (data_ticks lo hi know) t) ≡ kept_by (λ x. (nat_lt lo x.0 && nat_le x.0 hi) && net.wants p s x.0 x.1) t (said_at events t)
    at t (inr h) c = ap (kept_by (λ x. net.wants p s x.0 x.1) t) (data_ticks_out lo hi t know k.runs (inl h)) ∙ sym (kept_outside net p s lo hi t (said_at events t) (inl h))
    at t (inl h) (inl c) = ap (kept_by (λ x. net.wants p s x.0 x.1) t) (data_ticks_out lo hi t know k.runs (inr c)) ∙ sym (kept_outside net p s lo hi t (said_at events t) (inr c))
    at t (inl h) (inr c) =
        ap (kept_by (λ x. net.wants p s x.0 x.1) t) (data_ticks_in lo hi t know k.runs h c)
        ∙ (same_kept net f p b s lo t (known_at know t) (k.each t) (n t h c) m r h
        ∙ (ap (kept_by (λ x. net.wants p s x.0 x.1) t) (says t)
        ∙ sym (kept_between net p s lo hi t (said_at events t) h c)))

pub filter-yes : (test : ℕ × Event → Bool) (x : ℕ × Event) (xs : Items) → test x ≡ true → filter test (x ∷ xs) ≡ x ∷ filter test xs
filter-yes test x xs e = rw e refl

pub filter-no : (test : ℕ × Event → Bool) (x : ℕ × Event) (xs : Items) → test x ≡ false → filter test (x ∷ xs) ≡ filter test xs
filter-no test x xs e = rw e refl

-- past the bound nothing is due
due_upto_none : (net : Net) (p s lo from : ℕ) (events : Items) → lo ≤ from → TicksRise from events → due_upto net p s lo events ≡ []
due_upto_none net p s lo from [] h r = refl
due_upto_none net p s lo from (x ∷ xs) h r = filter-no (λ y. nat_le y.0 lo && net.wants p s y.0 y.1) x xs (ap (λ b. b && net.wants p s x.0 x.1) (lt-leb x.0 lo (omega (arith, r.0)))) ∙ due_upto_none net p s lo x.0 xs (omega (arith, r.0)) r.1

-- of events past the lower bound, what is due up to a horizon is what is due between the two
pub due_upto_past : (net : Net) (p s lo hi from : ℕ) (events : Items) → lo ≤ from → TicksRise from events → due_upto net p s hi events ≡ due_between net p s lo hi events
due_upto_past net p s lo hi from [] h r = refl
due_upto_past net p s lo hi from (x ∷ xs) h r =
    let i = due_upto_past net p s lo hi x.0 xs (omega (arith, r.0)) r.1 in
    let same : (nat_lt lo x.0 && nat_le x.0 hi && net.wants p s x.0 x.1) ≡ (nat_le x.0 hi && net.wants p s x.0 x.1) = ap (λ b. b && nat_le x.0 hi && net.wants p s x.0 x.1) (lt-ltb lo x.0 (omega (arith, r.0))) in
    elim (cases_Bool (nat_le x.0 hi && net.wants p s x.0 x.1)) [
      | inl e ↦ filter-yes (λ y. nat_le y.0 hi && net.wants p s y.0 y.1) x xs e ∙ (ap (λ zs. x ∷ zs) i ∙ sym (filter-yes (λ y. (nat_lt lo y.0 && nat_le y.0 hi) && net.wants p s y.0 y.1) x xs (same ∙ e)))
      | inr e ↦ filter-no (λ y. nat_le y.0 hi && net.wants p s y.0 y.1) x xs e ∙ (i ∙ sym (filter-no (λ y. (nat_lt lo y.0 && nat_le y.0 hi) && net.wants p s y.0 y.1) x xs (same ∙ e)))
    ]

-- what is due up to a later tick is what was due before and what is due between
pub due_more : (net : Net) (p s lo hi from : ℕ) (events : Items) → lo ≤ hi → TicksRise from events → due_upto net p s hi events ≡ due_upto net p s lo events ++ due_between net p s lo hi events
due_more net p s lo hi from [] h r = refl
due_more net p s lo hi from (x ∷ xs) h r =
    elim (cases_lt lo x.0) [
      | inl k ↦
          due_upto_past net p s lo hi lo (x ∷ xs) (le_refl lo) (k, r.1)
          ∙ ap (λ zs. zs ++ due_between net p s lo hi (x ∷ xs)) (sym (due_upto_none net p s lo lo (x ∷ xs) (le_refl lo) (k, r.1)))
      | inr k ↦
          let i = due_more net p s lo hi x.0 xs h r.1 in
          let b : (nat_lt lo x.0 && nat_le x.0 hi && net.wants p s x.0 x.1) ≡ false = ap (λ z. z && nat_le x.0 hi && net.wants p s x.0 x.1) (le-ltb lo x.0 k) in
          let up : (nat_le x.0 hi && net.wants p s x.0 x.1) ≡ net.wants p s x.0 x.1 = ap (λ z. z && net.wants p s x.0 x.1) (le-leb x.0 hi (le_trans k h)) in
          let low : (nat_le x.0 lo && net.wants p s x.0 x.1) ≡ net.wants p s x.0 x.1 = ap (λ z. z && net.wants p s x.0 x.1) (le-leb x.0 lo k) in
          let rest = filter-no (λ y. (nat_lt lo y.0 && nat_le y.0 hi) && net.wants p s y.0 y.1) x xs b in
          elim (cases_Bool (net.wants p s x.0 x.1)) [
            | inl w ↦
                filter-yes (λ y. nat_le y.0 hi && net.wants p s y.0 y.1) x xs (up ∙ w)
                ∙ (ap (λ zs. x ∷ zs) i ∙ sym (ap₂ (λ u v. u ++ v) (filter-yes (λ y. nat_le y.0 lo && net.wants p s y.0 y.1) x xs (low ∙ w)) rest))
            | inr w ↦
                filter-no (λ y. nat_le y.0 hi && net.wants p s y.0 y.1) x xs (up ∙ w)
                ∙ (i ∙ sym (ap₂ (λ u v. u ++ v) (filter-no (λ y. nat_le y.0 lo && net.wants p s y.0 y.1) x xs (low ∙ w)) rest))
          ]
    ]
