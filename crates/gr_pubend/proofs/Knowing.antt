-- A log's knowledge has at each tick what the log says, also with what comes next
use Rattle.std.proofs.Common.{◌≡◌, ◌≢◌, ◌⊎◌, inl, inr, ℕ, zero, suc, ◌-◌, ◌≤◌, ◌<◌, Bool, true, false, ◌&&◌, List, [], ◌∷◌, ◌++◌, refl, sym, ap, ap₂, ◌∙◌, arith, eq-eqb}
use Rattle.std.specs.Prelude.{nat_eq, nat_le, nat_lt, if◌then◌else◌}
use Rattle.std.proofs.lemmas.Bool.{cases_lt, cases_eq, ne_eqb, le-leb, lt-leb, ltb-false, and_right, and_from}
use Rattle.gr_event.specs.declared.event.Event.{Event}
use Rattle.gr_tick.specs.declared.run.Run.{Run}
use Rattle.gr_tick.specs.Runs.{IsNone}
use Rattle.gr_tick.specs.Stored.{within, RunsGive}
use Rattle.gr_tick.proofs.RunLaws.{AreRunsOf, tabulate-is}
use Rattle.gr_tick.proofs.Canonical.{given_runs}
use Rattle.gr_know.specs.declared.values.K.{K}
use Rattle.gr_know.specs.declared.values.K.TheVariants.{Q, S, D, F}
use Rattle.gr_know.specs.Values.{Known, known_at, same_K, join_K}
use Rattle.gr_know.proofs.ValueLaws.{K_decides}
use Rattle.gr_publog.specs.declared.record.Entry.{Entry}
use Rattle.gr_publog.specs.State.{EventsUpto, IsState}
use Rattle.gr_publog.specs.Views.{LogView}
use Rattle.gr_pubend.specs.Log.{Log, with_event, with_mark, with_cut, past, pairs, said, event_at, log_at, event_points, log_know, silence, Stays}

-- The list of the log's knowledge

le_step : (t h : ℕ) → suc t ≢ suc h → nat_le (suc t) h ≡ nat_le t h
le_step t h n =
    elim (cases_lt t h) [
      | inl k ↦ le-leb (suc t) h k ∙ sym (le-leb t h (omega arith))
      | inr k ↦ let m : t ≡ h → ⊥ = λ e. n (ap suc e) in lt-leb (suc t) h (omega arith) ∙ sym (lt-leb t h (omega (arith, m)))
    ]

one_step : (t : ℕ) → suc t ≢ 1 → nat_le 1 (suc t) ≡ nat_le 1 t
one_step zero n = absurd (n refl)
one_step (suc t) n = le-leb 1 (suc (suc t)) (omega arith) ∙ sym (le-leb 1 (suc t) (omega arith))

event_at-step : (events : List (ℕ × Event)) (t : ℕ) → IsNone (suc t) (event_points events) → event_at events (suc t) ≡ event_at events t
event_at-step [] t n = refl
event_at-step (x ∷ xs) t n = rw (ne_eqb x.0 (suc t) (λ e. n.0 (sym e)), ne_eqb x.0 t (λ e. n.1.0 (ap suc (sym e)))) (event_at-step xs t n.1.1)

pub log_know-is : (log : Log) → AreRunsOf Q (log_at log) (log_know log)
unfolding log_know
log_know-is log =
    tabulate-is Q same_K K_decides (log_at log) (1 ∷ (suc log.cut ∷ (suc log.settled ∷ event_points log.events))) (record {
      start = refl;
      step = λ t n.
          ap₂ (λ c v. if c then v else Q) (ap₂ (λ a b. a && b) (one_step t n.0) (le_step t log.settled n.1.1.0))
          (ap₂ (λ c v. if c then F else v) (le_step t log.cut n.1.0) (event_at-step log.events t n.1.1.1));
      past = λ t n. ap (λ c. if c then (if nat_le t log.cut then F else event_at log.events t) else Q) (ap (λ c. nat_le 1 t && c) (lt-leb t log.settled n.1.1.0) ∙ and_right (nat_le 1 t) false refl);
    })

-- runs with what the log says at each tick are its knowledge
pub known_by : (log : Log) (know : Known) → RunsGive Q know (log_at log) → know ≡ log_know log
known_by log know g =
    let k = log_know-is log in
    given_runs Q know (log_know log) (log_at log) g k.runs k.same_at

-- Events

pub event_at-more : (events : List (ℕ × Event)) (tick t : ℕ) (e : Event) → tick ≢ t → event_at (events ++ (tick, e) ∷ []) t ≡ event_at events t
event_at-more [] tick t e n = rw (ne_eqb tick t n) refl
event_at-more (x ∷ xs) tick t e n = ap (λ v. if nat_eq x.0 t then D x.1 else v) (event_at-more xs tick t e n)

not_there : (e : Event) (v : K) → (if true then D e else v) ≡ S → ⊥
not_there e v h = cc

event_at-new : (events : List (ℕ × Event)) (t : ℕ) (e : Event) → event_at events t ≡ S → event_at (events ++ (t, e) ∷ []) t ≡ D e
event_at-new [] t e h = rw (eq-eqb t t refl) refl
event_at-new (x ∷ xs) t e h = by_test (nat_eq x.0 t) h (λ g. event_at-new xs t e (rw g at h))
  where
    by_test : (b : Bool) → (if b then D x.1 else event_at xs t) ≡ S → (b ≡ false → event_at (xs ++ (t, e) ∷ []) t ≡ D e) → (if b then D x.1 else event_at (xs ++ (t, e) ∷ []) t) ≡ D e
    by_test true s i = absurd (not_there x.1 (event_at xs t) s)
    by_test false s i = i refl

-- past a cut the events that it leaves are all that were there
pub event_past : (cut t : ℕ) (xs : List (ℕ × Event)) → cut < t → event_at (past cut xs) t ≡ event_at xs t
event_past cut t [] l = refl
event_past cut t (x ∷ xs) l = go (nat_lt cut x.0) refl (event_past cut t xs l)
  where
    go : (a : Bool) → nat_lt cut x.0 ≡ a → event_at (past cut xs) t ≡ event_at xs t → event_at (if a then x ∷ past cut xs else past cut xs) t ≡ (if nat_eq x.0 t then D x.1 else event_at xs t)
    go true y e = ap (λ (k : K). if nat_eq x.0 t then D x.1 else k) e
    go false y e = e ∙ sym (ap (λ (c : Bool). if c then D x.1 else event_at xs t) (ne_eqb x.0 t (λ h. omega (arith, l, h, ltb-false cut x.0 y))))

-- whether the log forgets or not
cut_event : (q : Bool) (cut t : ℕ) (xs : List (ℕ × Event)) → cut < t → event_at (if q then past cut xs else xs) t ≡ event_at xs t
cut_event true cut t xs l = event_past cut t xs l
cut_event false cut t xs l = refl

-- none is past what is settled
none_upto : (top t : ℕ) (es : List Entry) → EventsUpto top es → top < t → event_at (pairs es) t ≡ S
none_upto top t [] u h = refl
none_upto top t (e ∷ es) u h =
    ap (λ b. if b then D e.event else event_at (pairs es) t) (ne_eqb e.tick t (λ z. omega (arith, z, h, u.0))) ∙ none_upto top t es u.1 h

-- what is said of a log that is in order
pub stays_of : (l : LogView) → IsState l.state → Stays (said l)
stays_of l i = record { within = i.cut; upto = i.settled; none_past = λ t h. none_upto l.state.settled t l.state.events i.upto h }

-- What the log says tick by tick

pub log_at-past : (log : Log) (t : ℕ) → log.settled < t → log_at log t ≡ Q
log_at-past log t h = rw (lt-leb t log.settled h, and_right (nat_le 1 t) false refl) refl

pub log_at-in : (log : Log) (t : ℕ) → 1 ≤ t → t ≤ log.settled → log_at log t ≡ (if nat_le t log.cut then F else event_at log.events t)
log_at-in log t a b = rw (le-leb 1 t a, le-leb t log.settled b) refl

pub log_at-zero : (log : Log) (t : ℕ) → t < 1 → log_at log t ≡ Q
log_at-zero log t h = rw (lt-leb 1 t h) refl

pub join_Q : (k : K) → join_K k Q ≡ k
join_Q Q = refl
join_Q S = refl
join_Q (D e) = refl
join_Q F = refl

pub within_in : (a b t : ℕ) → a ≤ t → t ≤ b → within a b t ≡ true
within_in a b t h k = and_from (nat_le a t) (nat_le t b) (le-leb a t h) (le-leb t b k)

pub within_below : (a b t : ℕ) → t < a → within a b t ≡ false
within_below a b t h = ap (λ x. x && nat_le t b) (lt-leb a t h)

pub within_above : (a b t : ℕ) → b < t → within a b t ≡ false
within_above a b t h = ap (λ x. nat_le a t && x) (lt-leb t b h) ∙ and_right (nat_le a t) false refl

-- silence on top of the rest
pub silence_at : (first last t : ℕ) (rest : Known) → known_at (silence first last rest) t ≡ (if within first last t then S else known_at rest t)
unfolding silence
silence_at first last t rest =
    elim (cases_lt last first) [
      | inl h ↦ ap (λ b. known_at (if b then record { first = first; last = last; value = S } ∷ rest else rest) t) (lt-leb first last h) ∙ sym (ap (λ b. if b then S else known_at rest t) (empty h (cases_lt t first)))
      | inr h ↦ ap (λ b. known_at (if b then record { first = first; last = last; value = S } ∷ rest else rest) t) (le-leb first last h)
    ]
  where
    empty : last < first → (t < first) ⊎ (first ≤ t) → within first last t ≡ false
    empty h (inl k) = within_below first last t k
    empty h (inr k) = within_above first last t (omega arith)

-- an event at its tick
abbrev pub at_tick : ℕ → Event → Run K
at_tick tick e = record { first = tick; last = tick; value = D e }

-- silence up to an event, and the event
abbrev pub up_to_event : ℕ → ℕ → Event → Known
up_to_event first tick e = silence first (tick - 1) (at_tick tick e ∷ [])

pub event_piece : (first tick t : ℕ) (e : Event) → known_at (up_to_event first tick e) t ≡ (if within first (tick - 1) t then S else (if within tick tick t then D e else Q))
event_piece first tick t e = silence_at first (tick - 1) t (at_tick tick e ∷ [])

pub event_piece-below : (first tick t : ℕ) (e : Event) → t < first → first ≤ tick → known_at (up_to_event first tick e) t ≡ Q
event_piece-below first tick t e h k =
    event_piece first tick t e
    ∙ ap (λ b. if b then S else (if within tick tick t then D e else Q)) (within_below first (tick - 1) t h)
    ∙ ap (λ b. if b then D e else Q) (within_below tick tick t (omega arith))

event_piece-before : (first tick t : ℕ) (e : Event) → first ≤ t → t < tick → known_at (up_to_event first tick e) t ≡ S
event_piece-before first tick t e h k =
    event_piece first tick t e ∙ ap (λ b. if b then S else (if within tick tick t then D e else Q)) (within_in first (tick - 1) t h (omega arith))

event_piece-there : (first tick : ℕ) (e : Event) → 1 ≤ tick → known_at (up_to_event first tick e) tick ≡ D e
event_piece-there first tick e h =
    event_piece first tick tick e
    ∙ ap (λ b. if b then S else (if within tick tick tick then D e else Q)) (within_above first (tick - 1) tick (omega arith))
    ∙ ap (λ b. if b then D e else Q) (within_in tick tick tick (omega arith) (omega arith))

event_piece-past : (first tick t : ℕ) (e : Event) → tick < t → known_at (up_to_event first tick e) t ≡ Q
event_piece-past first tick t e h =
    event_piece first tick t e
    ∙ ap (λ b. if b then S else (if within tick tick t then D e else Q)) (within_above first (tick - 1) t (omega arith))
    ∙ ap (λ b. if b then D e else Q) (within_above tick tick t h)

-- a tick past the cut that is settled
pub log_at-live : (log : Log) (t : ℕ) → 1 ≤ t → t ≤ log.settled → log.cut < t → log_at log t ≡ event_at log.events t
log_at-live log t a b c = log_at-in log t a b ∙ ap (λ x. if x then F else event_at log.events t) (lt-leb t log.cut c)

module _ (log : Log) (h : Stays log) where
  pub at_event : (tick t : ℕ) (e : Event) → log.settled < tick → join_K (log_at log t) (known_at (up_to_event (suc log.settled) tick e) t) ≡ log_at (with_event log tick e) t
  at_event tick t e past = by_place (cases_lt t 1) (cases_lt log.settled t) (cases_lt t tick) (cases_eq tick t)
    where
      by_place : (t < 1) ⊎ (1 ≤ t) → (log.settled < t) ⊎ (t ≤ log.settled) → (t < tick) ⊎ (tick ≤ t) → (tick ≡ t) ⊎ (tick ≢ t) → join_K (log_at log t) (known_at (up_to_event (suc log.settled) tick e) t) ≡ log_at (with_event log tick e) t
      by_place (inl a) b c d =
          ap₂ join_K (log_at-zero log t a) (event_piece-below (suc log.settled) tick t e (omega arith) (omega arith)) ∙ sym (log_at-zero (with_event log tick e) t a)
      by_place (inr a) (inr b) c d =
          ap (join_K (log_at log t)) (event_piece-below (suc log.settled) tick t e (omega arith) (omega arith))
          ∙ join_Q (log_at log t)
          ∙ log_at-in log t a b
          ∙ ap (λ v. if nat_le t log.cut then F else v) (sym (event_at-more log.events tick t e (λ q. omega (arith, q))))
          ∙ sym (log_at-in (with_event log tick e) t a (omega arith))
      by_place (inr a) (inl b) (inl c) d =
          ap₂ join_K (log_at-past log t b) (event_piece-before (suc log.settled) tick t e (omega arith) c)
          ∙ sym (log_at-live (with_event log tick e) t a (omega arith) (omega (arith, h.within)) ∙ event_at-more log.events tick t e (λ q. omega (arith, q)) ∙ h.none_past t b)
      by_place (inr a) (inl b) (inr c) (inl d) =
          ap (λ n. join_K (log_at log n) (known_at (up_to_event (suc log.settled) tick e) n)) (sym d)
          ∙ ap₂ join_K (log_at-past log tick past) (event_piece-there (suc log.settled) tick e (omega arith))
          ∙ sym (log_at-live (with_event log tick e) tick (omega arith) (omega arith) (omega (arith, h.within)) ∙ event_at-new log.events tick e (h.none_past tick past))
          ∙ ap (log_at (with_event log tick e)) d
      by_place (inr a) (inl b) (inr c) (inr d) =
          let far : tick < t = omega (arith, d) in
          ap₂ join_K (log_at-past log t b) (event_piece-past (suc log.settled) tick t e far) ∙ sym (log_at-past (with_event log tick e) t far)

  pub at_mark : (now t : ℕ) → log.settled ≤ now → join_K (log_at log t) (known_at (silence (suc log.settled) now []) t) ≡ log_at (with_mark log now) t
  at_mark now t past = ap (join_K (log_at log t)) (silence_at (suc log.settled) now t []) ∙ by_place (cases_lt t 1) (cases_lt log.settled t) (cases_lt now t)
    where
      by_place : (t < 1) ⊎ (1 ≤ t) → (log.settled < t) ⊎ (t ≤ log.settled) → (now < t) ⊎ (t ≤ now) → join_K (log_at log t) (if within (suc log.settled) now t then S else Q) ≡ log_at (with_mark log now) t
      by_place (inl a) b c =
          ap₂ (λ k x. join_K k (if x then S else Q)) (log_at-zero log t a) (within_below (suc log.settled) now t (omega arith)) ∙ sym (log_at-zero (with_mark log now) t a)
      by_place (inr a) (inr b) c =
          ap (λ x. join_K (log_at log t) (if x then S else Q)) (within_below (suc log.settled) now t (omega arith))
          ∙ join_Q (log_at log t)
          ∙ log_at-in log t a b
          ∙ sym (log_at-in (with_mark log now) t a (omega arith))
      by_place (inr a) (inl b) (inr c) =
          ap₂ (λ k x. join_K k (if x then S else Q)) (log_at-past log t b) (within_in (suc log.settled) now t (omega arith) c)
          ∙ sym (log_at-live (with_mark log now) t a c (omega (arith, h.within)) ∙ h.none_past t b)
      by_place (inr a) (inl b) (inl c) =
          ap₂ (λ k x. join_K k (if x then S else Q)) (log_at-past log t b) (within_above (suc log.settled) now t c) ∙ sym (log_at-past (with_mark log now) t c)

  pub at_cut : (tick t : ℕ) → log.cut ≤ tick → tick ≤ log.settled → (if within 1 tick t then F else log_at log t) ≡ log_at (with_cut log tick) t
  at_cut tick t low high = by_place (cases_lt t 1) (cases_lt log.settled t) (cases_lt tick t)
    where
      by_place : (t < 1) ⊎ (1 ≤ t) → (log.settled < t) ⊎ (t ≤ log.settled) → (tick < t) ⊎ (t ≤ tick) → (if within 1 tick t then F else log_at log t) ≡ log_at (with_cut log tick) t
      by_place (inl a) b c =
          ap (λ x. if x then F else log_at log t) (within_below 1 tick t a) ∙ log_at-zero log t a ∙ sym (log_at-zero (with_cut log tick) t a)
      by_place (inr a) b (inr c) =
          ap (λ x. if x then F else log_at log t) (within_in 1 tick t a c)
          ∙ sym (log_at-in (with_cut log tick) t a (omega arith) ∙ ap (λ x. if x then F else event_at (with_cut log tick).events t) (le-leb t tick c))
      by_place (inr a) (inr b) (inl c) =
          ap (λ x. if x then F else log_at log t) (within_above 1 tick t c)
          ∙ log_at-live log t a b (omega arith)
          ∙ sym (log_at-live (with_cut log tick) t a b c ∙ cut_event log.forgets tick t log.events c)
      by_place (inr a) (inl b) (inl c) =
          ap (λ x. if x then F else log_at log t) (within_above 1 tick t c)
          ∙ log_at-past log t b
          ∙ sym (log_at-past (with_cut log tick) t b)
