-- The third phase of a sweep, one call after another: each woken broker sends what is consolidated and asks nothing, and its next broker up stores that at once
use Rattle.std.proofs.Common.{◌≡◌, ◌≢◌, ◌⊎◌, inl, inr, ⊎_elim, ℕ, ◌+◌, ◌-◌, ◌≤◌, ◌<◌, min, Bool, true, false, ◌&&◌, ◌||◌, List, [], ◌∷◌, ◌++◌, map, length, get_or, refl, sym, ap, ap₂, ◌∙◌, subst, Option, Some, None, arith, append-nil, append_assoc}
use Rattle.std.specs.Prelude.{nat_eq, nat_le, nat_lt, if◌then◌else◌, filter}
use Rattle.std.specs.List.{list_any}
use Rattle.std.proofs.lemmas.Bool.{cases_eq, cases_lt, false≢true, true≢false, both_ways, eq-eqb, ne_eqb, le-leb, lt-leb, ltb-true, ltb-false}
use Rattle.gr_event.specs.Joins.{Joins}
use Rattle.gr_curio.specs.declared.values.Q3.{Q3}
use Rattle.gr_curio.specs.declared.values.Q3.TheVariants.{N, C, A}
use Rattle.gr_frame.specs.declared.Body.{Body}
use Rattle.gr_frame.specs.declared.Body.TheVariants as body
use Rattle.gr_frame.specs.declared.Frame.{Frame}
use Rattle.gr_frame.specs.Bytes.{cut_frames, wanted_run_size}
use Rattle.gr_tick.specs.Runs.{AreRuns, first_bottom_from, top_of}
use Rattle.gr_know.specs.Values.{Known, known_at, is_Q}
use Rattle.gr_curio.specs.Values.{Wanted, wanted_at, asked_at, is_C, is_outstanding}
use Rattle.gr_model.specs.Net.{Net, is_host, keeps_horizon}
use Rattle.gr_model.specs.Broker.{View, Log, Outcome, any_C, horizon_if, is_reached, is_consolidated_by, consolidated, up_frames, want_frames, place_of, head, wake, wake_host, wake_below, asking, marking, cutting, cut_log_at, done_upto, expect_frames, expect_frame, covers, curious, receive}
use Rattle.gr_model.specs.World.{World, view_of, log_of, sent_since, frames_past, is_want, wake_for_by}
use Rattle.gr_model_calls.specs.OneNet.{wake_for, deliver_frame}
use Rattle.gr_model_calls.specs.Truth.{Facts, AllWantTruth}
use Rattle.gr_model.specs.Tree.{IsNet}
use Rattle.gr_model_calls.specs.Fits.{WorldFits, FrameTrue, BodyFits, BodyTrue, facts_of}
use Rattle.gr_model_calls.proofs.calls.HostCases.{marking_cases}
use Rattle.gr_curio.specs.declared.asks.Moment.TheVariants.{At}
use Rattle.gr_tick.proofs.RunLaws.{first_bottom_from-is}
use Rattle.gr_model_calls.proofs.calls.Pieces.{AllParts, cut_frames-parts}
use Rattle.gr_model_calls.proofs.calls.CallTruth.{done_runs, done_values}
use Rattle.gr_model_calls.proofs.calls.Cutting.{at_cut, cutting_settled}
use Rattle.gr_model_theorems.proofs.records.Records.{receive_log}
use Rattle.gr_model_calls.proofs.runs.Worlds.{Each}
use Rattle.gr_model_calls.proofs.asks.AskMoments.{Each-on, Taken, absorbed_taken}
use Rattle.gr_model_calls.proofs.asks.CallTicks.{wake_piece, wake_asked, not_asked, just_asked}
use Rattle.gr_model_calls.proofs.rules.Forwarding.{Has, WantsTick, WantsBody, wants_of, up_frames_want}
use Rattle.gr_model_calls.proofs.rules.Answering.{same_length, acknowledged_at}
use Rattle.gr_model_calls.proofs.rules.Serves.{receive_curiosity, frames_past_all}
use Rattle.gr_model_theorems.proofs.sweep.Stays.{DeliveredWant, delivered_want, WokenBelow, woken_below}
use Rattle.gr_model_theorems.proofs.sweep.Pending.{sent_up}
use Rattle.gr_model_theorems.proofs.sweep.Rounds.{stands}
use Rattle.gr_model_theorems.proofs.sweep.SweepStates.{Unknowns}
use Rattle.gr_model_theorems.proofs.sweep.FirstUnknown.{unknown_calls}
use Rattle.gr_model_theorems.proofs.sweep.SettleAcks.{quiet_frames, quiet_any_C, all_A_of}

-- a Curiosity frame of the publisher that asks nothing
pub record Acks (p : ℕ) (f : Frame) : Type 0 where
  pub publisher : f.head.publisher ≡ p
  pub runs : Wanted
  pub body : f.body ≡ body.Curiosity runs
  pub quiet : (t : ℕ) → wanted_at runs t ≢ C

-- the frame brings no knowledge
abbrev pub NoKnow : Frame → Type 0
NoKnow f = (runs : Known) (js : Joins) → f.body ≢ body.Knowledge runs js

-- in the third phase, with the brokers that are still to be woken and the upward frames that wait; base are the frames sent before the phase
pub record Settling (net : Net) (p m : ℕ) (base : List Frame) (rest : List ℕ) (w : World) (pending : List Frame) : Type 0 where
  pub clock : w.clock ≡ m
  pub unknown : Unknowns net w
  pub settled : (log_of w p).settled ≡ m
  pub reached : (b : ℕ) → b < net.brokers → keeps_horizon net p b ≡ true → (view_of w b p).horizon ≡ m
  pub asked : (b t : ℕ) → b < net.brokers → is_host net p b ≡ false → any_C (view_of w b p).wants t ≡ true → asked_at (view_of w b p).asks t ≡ At m
  pub plain : Each (Acks p) pending
  pub acked : (b u t : ℕ) → b < net.brokers → net.up p b ≡ Some u → stands rest b ≡ false → 1 ≤ t → t ≤ m → (wanted_at (wants_of net p u (view_of w u p) b) t ≡ A) ⊎ Has (WantsTick p b u t A) pending
  pub cut : stands rest (net.host p) ≡ false → (log_of w p).cut ≡ m
  pub more : List Frame
  pub frames : w.frames ≡ base ++ more
  pub none_told : Each NoKnow more

-- A frame is delivered

curious_A : (k : _) (a x : Q3) → a ≡ A → curious k (acknowledged_at a x) x ≡ A
curious_A k a N e = e
curious_A k a C e = ap (λ z. curious k z C) e
curious_A k a A e = refl

acks_delivered_here : (net : Net) (m : ℕ) (base : List Frame) (rest : List ℕ) (w : World) (x : Frame) (fs : List Frame) → IsNet net → WorldFits net w → FrameTrue net w x → Settling net x.head.publisher m base rest w (x ∷ fs) → Settling net x.head.publisher m base rest (deliver_frame net w x).world (sent_up net w x ++ fs)
acks_delivered_here net m base rest w x fs n f tr s =
    record {
      clock = d.taken.clock ∙ s.clock;
      unknown = unknown;
      settled = ap (λ l. l.settled) log ∙ s.settled;
      reached = λ b i k. elim (cases_eq b x.head.to) [
        | inl e ↦ subst (λ z. keeps_horizon net p z ≡ true → (view_of y z p).horizon ≡ m) (sym e) (λ k. ap (λ v. v.horizon) d.taken.view ∙ (d.ticks.horizon ∙ s.reached x.head.to tr.fits.to_in k)) k
        | inr e ↦ ap (λ v. v.horizon) (d.taken.other b p e) ∙ s.reached b i k
      ];
      asked = λ b t i host c. elim (cases_eq b x.head.to) [
        | inl e ↦ subst (λ z. is_host net p z ≡ false → any_C (view_of y z p).wants t ≡ true → asked_at (view_of y z p).asks t ≡ At m) (sym e) (asked_here t) host c
        | inr e ↦ ap (λ v. asked_at v.asks t) (d.taken.other b p e) ∙ s.asked b t i host (ap (λ v. any_C v.wants t) (sym (d.taken.other b p e)) ∙ c)
      ];
      plain = subst (λ z. Each (Acks p) (z ++ fs)) (sym none_up) s.plain.1;
      acked = λ b u t i up out one le. subst (λ z. (wanted_at (wants_of net p u (view_of y u p) b) t ≡ A) ⊎ Has (WantsTick p b u t A) (z ++ fs)) (sym none_up) (⊎_elim
          (λ z. inl (stored b u t (child b u i up) z))
          (λ z. ⊎_elim (λ h. inl (fresh b u t h)) (λ h. inr h) z)
          (s.acked b u t i up out one le));
      cut = λ z. ap (λ l. l.cut) log ∙ s.cut z;
      more = s.more;
      frames = d.taken.frames ∙ (ap (λ z. w.frames ++ z) none ∙ (append-nil w.frames ∙ s.frames));
      none_told = s.none_told;
    }
  where
    p : ℕ
    p = x.head.publisher

    a : Acks p x
    a = s.plain.0

    y : World
    y = (deliver_frame net w x).world

    o : Outcome
    o = receive net w.clock x (view_of w x.head.to p) (log_of w p)

    d : DeliveredWant net w y x a.runs o
    d = delivered_want net w x a.runs n f tr a.body

    unknown : Unknowns net y
    unknown = (unknown_calls net n).delivered w x f tr tt s.unknown

    log : log_of y p ≡ log_of w p
    log = d.taken.log ∙ receive_log net w.clock x (view_of w x.head.to p) (log_of w p)

    here : list_any (λ z. nat_eq z x.head.from) (net.children p x.head.to) ≡ true
    here = subst (BodyFits net p x.head.from x.head.to) a.body tr.fits.body

    none : o.frames ≡ []
    none = ap (λ z. z.frames) (receive_curiosity net w.clock x a.runs (view_of w x.head.to p) (log_of w p) a.body)
        ∙ quiet_frames net (facts_of net w p) p x.head.to w.clock x.head.from a.runs (view_of w x.head.to p) (log_of w p) (f.views p x.head.to tr.publisher_in tr.fits.to_in) here (subst (BodyTrue net (facts_of net w p) p x.head.from x.head.to) a.body tr.told) a.quiet

    none_up : sent_up net w x ≡ []
    none_up = ap (λ z. filter is_want (frames_past (length w.frames) z)) d.taken.frames ∙ (ap (filter is_want) (frames_past_all w.frames o.frames) ∙ ap (filter is_want) none)

    child : (b u : ℕ) → b < net.brokers → net.up p b ≡ Some u → list_any (λ z. nat_eq z b) (net.children p u) ≡ true
    child b u i up = (n.up_in p b u tr.publisher_in i up).1

    asked_here : (t : ℕ) → is_host net p x.head.to ≡ false → any_C (view_of y x.head.to p).wants t ≡ true → asked_at (view_of y x.head.to p).asks t ≡ At m
    asked_here t host c =
        let before : any_C (view_of w x.head.to p).wants t ≡ true = quiet_any_C net (facts_of net w p) p x.head.to w.clock x.head.from t a.runs (view_of w x.head.to p) (log_of w p) (f.views p x.head.to tr.publisher_in tr.fits.to_in) here (subst (BodyTrue net (facts_of net w p) p x.head.from x.head.to) a.body tr.told) (a.quiet t)
        (ap (λ z. any_C z.view.wants t) (sym (receive_curiosity net w.clock x a.runs (view_of w x.head.to p) (log_of w p) a.body)) ∙ (ap (λ v. any_C v.wants t) (sym d.taken.view) ∙ c)) in
        ap (λ v. asked_at v.asks t) d.taken.view ∙ ⊎_elim (λ z. z ∙ ap (λ k. At k) s.clock) (λ z. z ∙ s.asked x.head.to t tr.fits.to_in host before) (d.ticks.asks t (ap (λ v. known_at v.know t) (sym d.taken.view) ∙ unknown.any p x.head.to t tr.publisher_in tr.fits.to_in c))

    stored : (b u t : ℕ) → list_any (λ z. nat_eq z b) (net.children p u) ≡ true → wanted_at (wants_of net p u (view_of w u p) b) t ≡ A → wanted_at (wants_of net p u (view_of y u p) b) t ≡ A
    stored b u t m e = elim (cases_eq u x.head.to) [
      | inr g ↦ ap (λ v. wanted_at (wants_of net p u v b) t) (d.taken.other u p g) ∙ e
      | inl g ↦ elim (cases_eq b x.head.from) [
        | inl h ↦
            let e1 : wanted_at (wants_of net p x.head.to (view_of w x.head.to p) x.head.from) t ≡ A = subst (λ z. wanted_at (wants_of net p x.head.to (view_of w x.head.to p) z) t ≡ A) h (subst (λ z. wanted_at (wants_of net p z (view_of w z p) b) t ≡ A) g e) in
            subst (λ z. wanted_at (wants_of net p z (view_of y z p) b) t ≡ A) (sym g) (subst (λ z. wanted_at (wants_of net p x.head.to (view_of y x.head.to p) z) t ≡ A) (sym h)
            (ap (λ v. wanted_at (wants_of net p x.head.to v x.head.from) t) d.taken.view ∙ (d.ticks.wants t ∙ curious_A _ (wanted_at (wants_of net p x.head.to (view_of w x.head.to p) x.head.from) t) (wanted_at a.runs t) e1)))
        | inr h ↦
            let e1 : wanted_at (wants_of net p x.head.to (view_of w x.head.to p) b) t ≡ A = subst (λ z. wanted_at (wants_of net p z (view_of w z p) b) t ≡ A) g e in
            subst (λ z. wanted_at (wants_of net p z (view_of y z p) b) t ≡ A) (sym g)
            (ap (λ v. wanted_at (wants_of net p x.head.to v b) t) d.taken.view ∙ (ap (λ z. wanted_at z t) (d.ticks.other b (subst (λ z. list_any (λ q. nat_eq q b) (net.children p z) ≡ true) g m) h) ∙ e1))
      ]
    ]

    value : (t : ℕ) (z : Body) → z ≡ body.Curiosity a.runs → WantsBody t A z → wanted_at a.runs t ≡ A
    value t z e h = subst (WantsBody t A) e h

    fresh : (b u t : ℕ) → WantsTick p b u t A x → wanted_at (wants_of net p u (view_of y u p) b) t ≡ A
    fresh b u t h =
        let v : wanted_at a.runs t ≡ A = value t x.body a.body h.body in
        subst (λ z. wanted_at (wants_of net p z (view_of y z p) b) t ≡ A) h.to_is (subst (λ z. wanted_at (wants_of net p x.head.to (view_of y x.head.to p) z) t ≡ A) h.from_is
        (ap (λ z. wanted_at (wants_of net p x.head.to z x.head.from) t) d.taken.view ∙ (d.ticks.wants t ∙ ap (λ q. curious (known_at (view_of w x.head.to p).know t) (acknowledged_at (wanted_at (wants_of net p x.head.to (view_of w x.head.to p) x.head.from) t) q) q) v)))

-- the delivery of a waiting acknowledgement keeps what holds in the third phase
pub acks_delivered : (net : Net) (p m : ℕ) (base : List Frame) (rest : List ℕ) (w : World) (x : Frame) (fs : List Frame) → IsNet net → WorldFits net w → FrameTrue net w x → Settling net p m base rest w (x ∷ fs) → Settling net p m base rest (deliver_frame net w x).world (sent_up net w x ++ fs)
acks_delivered net p m base rest w x fs n f tr s =
    let e = s.plain.0.publisher in
    subst (λ q. Settling net q m base rest (deliver_frame net w x).world (sent_up net w x ++ fs)) e (acks_delivered_here net m base rest w x fs n f tr (subst (λ q. Settling net q m base rest w (x ∷ fs)) (sym e) s))

-- A broker below the host is woken

not_C_if : (q : Bool) → (if q then A else N) ≢ C
not_C_if true = λ e. cc
not_C_if false = λ e. cc

-- all upward frames of a piece that asks nothing
up_acks : (net : Net) (p b : ℕ) (runs : Wanted) → AreRuns N runs → ((t : ℕ) → wanted_at runs t ≢ C) → Each (Acks p) (up_frames net p b runs)
up_acks net p b runs a quiet = at (net.up p b)
  where
    N_not_C : N ≡ C → ⊥
    N_not_C e = cc

    go : (u : ℕ) (parts : List Wanted) → AllParts N parts runs → Each (Acks p) (map (λ part. record { head = head b u p; body = body.Curiosity part }) parts)
    go u [] h = tt
    go u (x ∷ xs) h = (record { publisher = refl; runs = x; body = refl; quiet = λ t e. ⊎_elim (λ z. quiet t (sym z ∙ e)) (λ z. N_not_C (sym z ∙ e)) (h.0.1 t) }, go u xs h.1)

    at : (u : Option ℕ) → Each (Acks p) (let fs : List Frame = elim u [ Some u ↦ want_frames b u p runs | None ↦ [] ] in fs)
    at None = tt
    at (Some u) = go u (cut_frames 12 wanted_run_size runs) (cut_frames-parts N 12 wanted_run_size runs a)

acks_up : (p : ℕ) (fs : List Frame) → Each (Acks p) fs → filter is_want fs ≡ fs
acks_up p [] a = refl
acks_up p (f ∷ fs) a = rw (want_is f.body a.0.body) (ap (λ z. f ∷ z) (acks_up p fs a.1))
  where
    want_is : (y : Body) → y ≡ body.Curiosity a.0.runs → (let q : Bool = elim y [ body.Curiosity runs ↦ true | _ ↦ false ] in q) ≡ true
    want_is y e = ap (λ z. let q : Bool = elim z [ body.Curiosity runs ↦ true | _ ↦ false ] in q) e

acks_silent : (p : ℕ) (fs : List Frame) → Each (Acks p) fs → Each NoKnow fs
acks_silent p [] a = tt
acks_silent p (f ∷ fs) a = (λ runs js e. differ a.0.runs runs js (sym a.0.body ∙ e), acks_silent p fs a.1)
  where
    differ : (x : Wanted) (y : Known) (js : Joins) → body.Curiosity x ≡ body.Knowledge y js → ⊥
    differ x y js e = cc

wake_below_log : (net : Net) (p b now : ℕ) (v : View) (log : Log) → is_host net p b ≡ false → (wake net p b now v log).log ≡ log
unfolding wake wake_below asking
wake_below_log net p b now v log e = rw (wake, e) refl

wanted_quiet : (c k h x q o : Bool) → (k ≡ true → h ≡ true → x ≡ false) → (c ≡ true → o ≡ true) → (q ≡ true → (c || (k && h && x)) ≡ true → o ≡ true)
wanted_quiet true k h x q o f g y z = g refl
wanted_quiet false true true x q o f g y z = absurd (both_ways x (f refl refl) z)
wanted_quiet false true false x q o f g y z = absurd (false≢true z)
wanted_quiet false false h x q o f g y z = absurd (false≢true z)

keeps_test : (keeps : Bool) (h m t : ℕ) → (keeps ≡ true → h ≡ m) → t ≤ m → is_reached (horizon_if keeps h) t ≡ true
keeps_test true h m t e l = le-leb t h (omega (arith, l, e refl))
keeps_test false h m t e l = refl

-- where all children have acknowledged, each tick up to the moment is consolidated
settled_upto : (net : Net) (p m : ℕ) (base : List Frame) (b : ℕ) (bs : List ℕ) (w : World) (t : ℕ) → IsNet net → WorldFits net w → b < net.brokers → p < net.publishers → ((c : ℕ) → list_any (λ x. nat_eq x c) (net.children p b) ≡ true → stands (b ∷ bs) c ≡ false) → Settling net p m base (b ∷ bs) w [] → 1 ≤ t → t ≤ m →
    is_consolidated_by (keeps_horizon net p b) (view_of w b p).horizon (view_of w b p).wants t ≡ true
settled_upto net p m base b bs w t n f i j out s one le =
    ap₂ (λ x y. x && y) (ap₂ (λ x y. x && y) (le-leb 1 t one) (keeps_test (keeps_horizon net p b) (view_of w b p).horizon m t (λ k. s.reached b i k) le))
    (all_A_of (net.children p b) (view_of w b p).wants t (same_length net (facts_of net w p) p (net.children p b) (view_of w b p).wants (f.views p b j i).wants) (n.children_once p b j i)
    (λ c k. ⊎_elim (λ z. z) (λ z. absurd z) (s.acked c b t (n.child_in p b c j i k) (n.child_up p b c j i k) (out c k) one le)))

not_left : (b c : ℕ) (bs : List ℕ) → c ≢ b → stands bs c ≡ false → stands (b ∷ bs) c ≡ false
not_left b c bs n e = ap₂ (λ x y. x || y) (ne_eqb b c (λ z. n (sym z))) e

-- the wake of a broker below the host, after all its children, keeps what holds in the third phase
pub settling_woken : (net : Net) (p m : ℕ) (base : List Frame) (b : ℕ) (bs : List ℕ) (w : World) → IsNet net → 1 ≤ net.retry → WorldFits net w → b < net.brokers → p < net.publishers → is_host net p b ≡ false → ((c : ℕ) → list_any (λ x. nat_eq x c) (net.children p b) ≡ true → stands (b ∷ bs) c ≡ false) → Settling net p m base (b ∷ bs) w [] →
    Settling net p m base bs (wake_for net w b p).world (filter is_want (sent_since w (wake_for net w b p).world))
settling_woken net p m base b bs w n r f i j host out s =
    subst (Settling net p m base bs y) (sym pending) (record {
      clock = k.taken.clock ∙ s.clock;
      unknown = unknown;
      settled = ap (λ l. l.settled) log ∙ s.settled;
      reached = λ c x e. elim (cases_eq c b) [
        | inl g ↦ subst (λ z. keeps_horizon net p z ≡ true → (view_of y z p).horizon ≡ m) (sym g) (λ e. ap (λ v. v.horizon) k.taken.view ∙ (k.ticks.horizon ∙ s.reached b i e)) e
        | inr g ↦ ap (λ v. v.horizon) (k.taken.other c p g) ∙ s.reached c x e
      ];
      asked = λ c t x h e. elim (cases_eq c b) [
        | inl g ↦ subst (λ z. any_C (view_of y z p).wants t ≡ true → asked_at (view_of y z p).asks t ≡ At m) (sym g) (λ e.
            ap (λ v. asked_at v.asks t) k.taken.view ∙ (k.ticks.asks t (ap (λ v. known_at v.know t) (sym k.taken.view) ∙ unknown.any p b t j i e) ∙ (ap (λ q. if is_C q then At w.clock else asked_at (view_of w b p).asks t) (asked_none t) ∙ s.asked b t i host (sym (ap (λ v. any_C v.wants t) k.taken.view ∙ ap (λ z. any_C z t) k.ticks.wants) ∙ e)))) e
        | inr g ↦ ap (λ v. asked_at v.asks t) (k.taken.other c p g) ∙ s.asked c t x h (sym (ap (λ v. any_C v.wants t) (k.taken.other c p g)) ∙ e)
      ];
      plain = acks;
      acked = λ c u t x up off one le. elim (cases_eq c b) [
        | inl g ↦
            let e : wanted_at piece t ≡ A = piece_at t ∙ ap (λ q. if q then A else N) (settled_upto net p m base b bs w t n f i j out s one le) in
            inr (subst (λ z. Has (WantsTick p z u t A) (up_frames net p b piece)) (sym g) (subst (λ q. Has (WantsTick p b u t q) (up_frames net p b piece)) e (up_frames_want net p b u t piece (subst (λ z. net.up p z ≡ Some u) g up) (λ q. A_not_N (sym e ∙ q)))))
        | inr g ↦ inl (⊎_elim (λ z. stays c u t z) (λ z. absurd z) (s.acked c u t x up (not_left b c bs g off) one le))
      ];
      cut = λ z. ap (λ l. l.cut) log ∙ s.cut (not_left b (net.host p) bs (λ e. true≢false (sym (eq-eqb (net.host p) b e) ∙ host)) z);
      more = s.more ++ up_frames net p b piece;
      frames = k.taken.frames ∙ (ap₂ (λ x z. x ++ z) s.frames k.ticks.frames ∙ append_assoc base s.more (up_frames net p b piece));
      none_told = Each-on NoKnow s.more (up_frames net p b piece) s.none_told (acks_silent p (up_frames net p b piece) acks);
    })
  where
    y : World
    y = (wake_for net w b p).world

    o : Outcome
    o = wake net p b w.clock (view_of w b p) (log_of w p)

    k : WokenBelow net w y b p o
    k = woken_below net w b p f i j host

    unknown : Unknowns net y
    unknown = (unknown_calls net n).woken w b p f i j s.unknown

    log : log_of y p ≡ log_of w p
    log = k.taken.log ∙ wake_below_log net p b w.clock (view_of w b p) (log_of w p) host

    piece : Wanted
    piece = wake_piece net p b w.clock (view_of w b p)

    A_not_N : A ≡ N → ⊥
    A_not_N e = cc

    outstanding : (t : ℕ) → any_C (view_of w b p).wants t ≡ true → is_outstanding (asked_at (view_of w b p).asks t) w.clock net.retry ≡ true
    outstanding t e = ap (λ z. is_outstanding z w.clock net.retry) (s.asked b t i host e ∙ ap (λ z. At z) (sym s.clock)) ∙ just_asked w.clock net.retry r

    young : (t : ℕ) → keeps_horizon net p b ≡ true → nat_lt (view_of w b p).horizon t ≡ true → (nat_le (t + net.idle) w.clock || (nat_le (t + net.gap) w.clock && nat_lt t (top_of (view_of w b p).know))) ≡ false
    young t e l =
        let h : (view_of w b p).horizon < t = ltb-true (view_of w b p).horizon t l in
        ap₂ (λ x z. x || (z && nat_lt t (top_of (view_of w b p).know))) (lt-leb (t + net.idle) w.clock (omega (arith, h, s.clock, s.reached b i e))) (lt-leb (t + net.gap) w.clock (omega (arith, h, s.clock, s.reached b i e)))

    asked_none : (t : ℕ) → wanted_at (wake_asked net p b w.clock (view_of w b p)) t ≡ N
    asked_none t =
        let q = is_Q (known_at (view_of w b p).know t) in
        let out = is_outstanding (asked_at (view_of w b p).asks t) w.clock net.retry in
        let aged = nat_le (t + net.idle) w.clock || (nat_le (t + net.gap) w.clock && nat_lt t (top_of (view_of w b p).know)) in
        k.ticks.asked t ∙ not_asked (any_C (view_of w b p).wants t || (keeps_horizon net p b && nat_lt (view_of w b p).horizon t && aged)) q out
        (wanted_quiet (any_C (view_of w b p).wants t) (keeps_horizon net p b) (nat_lt (view_of w b p).horizon t) aged q out (young t) (outstanding t))

    piece_at : (t : ℕ) → wanted_at piece t ≡ (if is_consolidated_by (keeps_horizon net p b) (view_of w b p).horizon (view_of w b p).wants t then A else N)
    piece_at t = k.ticks.piece t ∙ ap (λ x. if is_consolidated_by (keeps_horizon net p b) (view_of w b p).horizon (view_of w b p).wants t then A else x) (asked_none t)

    acks : Each (Acks p) (up_frames net p b piece)
    acks = up_acks net p b piece k.ticks.piece_runs (λ t e. not_C_if (is_consolidated_by (keeps_horizon net p b) (view_of w b p).horizon (view_of w b p).wants t) (sym (piece_at t) ∙ e))

    pending : filter is_want (sent_since w y) ≡ up_frames net p b piece
    pending = ap (λ z. filter is_want (frames_past (length w.frames) z)) k.taken.frames ∙ (ap (filter is_want) (frames_past_all w.frames o.frames ∙ k.ticks.frames) ∙ acks_up p (up_frames net p b piece) acks)

    wants_in : ℕ → ℕ → List Wanted → Wanted
    wants_in u c ws = get_or ws (place_of c (net.children p u)) []

    stays : (c u t : ℕ) → wanted_at (wants_of net p u (view_of w u p) c) t ≡ A → wanted_at (wants_of net p u (view_of y u p) c) t ≡ A
    stays c u t e = elim (cases_eq u b) [
      | inl g ↦ subst (λ z. wanted_at (wants_of net p z (view_of w z p) c) t ≡ A → wanted_at (wants_of net p z (view_of y z p) c) t ≡ A) (sym g) (λ e. ap (λ v. wanted_at (wants_of net p b v c) t) k.taken.view ∙ (ap (λ z. wanted_at (wants_in b c z) t) k.ticks.wants ∙ e)) e
      | inr g ↦ ap (λ v. wanted_at (wants_of net p u v c) t) (k.taken.other u p g) ∙ e
    ]

-- The host is woken

-- all is cut that is settled, where all of it is consolidated
cut_all : (net : Net) (f : Facts) (p b : ℕ) (v : View) (log : Log) → AllWantTruth net f p (net.children p b) v.wants → log.cut ≤ log.settled → ((t : ℕ) → 1 ≤ t → t ≤ log.settled → is_consolidated_by (keeps_horizon net p b) v.horizon v.wants t ≡ true) → (cutting net p b v log).cut ≡ log.settled
unfolding cutting done_upto
cut_all net f p b v log a c h = go (nat_lt log.cut upto) refl
  where
    done : Wanted
    done = consolidated (keeps_horizon net p b) v.horizon v.wants

    first : ℕ
    first = first_bottom_from done 1

    A_not_N : A ≡ N → ⊥
    A_not_N e = cc

    past : log.settled < first
    past =
        let x = first_bottom_from-is N 1 done 1 (done_runs net f p b v.horizon v.wants a) in
        elim (cases_lt log.settled first) [
          | inl l ↦ l
          | inr l ↦ absurd (A_not_N (sym (done_values net f p b v.horizon v.wants a first ∙ ap (λ q. if q then A else N) (h first x.reached l)) ∙ x.stops))
        ]

    upto : ℕ
    upto = min log.settled (first - 1)

    upto_is : upto ≡ log.settled
    upto_is = omega (arith, past)

    go : (q : Bool) → nat_lt log.cut upto ≡ q → (let l : Log = if q then cut_log_at net.reclaim log upto else log in l.cut) ≡ log.settled
    go true e = at_cut net.reclaim log upto ∙ upto_is
    go false e = omega (arith, c, ltb-false log.cut upto e, upto_is)

marked_none : (net : Net) (p b now : ℕ) (v : View) (log : Log) → nat_le (log.settled + net.quiet) now ≡ false → marking net p b now v log ≡ record { view = v; log = log; lines = []; frames = [] }
marked_none net p b now v log e = marking_cases net p b now v log (λ o. o ≡ record { view = v; log = log; lines = []; frames = [] }) (λ x. absurd (both_ways (nat_le (log.settled + net.quiet) now) e x)) (λ x. refl)

-- a frame of Expect
IsExpect : Frame → Type 0
IsExpect f = (tick : ℕ) × (f.body ≡ body.Expect tick)

expects_all : (p b tick : ℕ) (cs : List ℕ) (ws : List Wanted) → Each IsExpect (expect_frames p b tick cs ws)
unfolding IsExpect
expects_all p b tick [] ws = tt
expects_all p b tick (c ∷ cs) [] = tt
expects_all p b tick (c ∷ cs) (w ∷ ws) = Each-on IsExpect (if covers w tick then [] else expect_frame b c p tick ∷ []) (expect_frames p b tick cs ws) (go (covers w tick)) (expects_all p b tick cs ws)
  where
    go : (q : Bool) → Each IsExpect (if q then [] else expect_frame b c p tick ∷ [])
    go true = tt
    go false = ((tick, refl), tt)

expects_not_up : (fs : List Frame) → Each IsExpect fs → filter is_want fs ≡ []
unfolding IsExpect
expects_not_up [] a = refl
expects_not_up (f ∷ fs) a = rw (not_want f.body a.0.1) (expects_not_up fs a.1)
  where
    not_want : (y : Body) → y ≡ body.Expect a.0.0 → (let q : Bool = elim y [ body.Curiosity runs ↦ true | _ ↦ false ] in q) ≡ false
    not_want y e = ap (λ z. let q : Bool = elim z [ body.Curiosity runs ↦ true | _ ↦ false ] in q) e

expects_silent : (fs : List Frame) → Each IsExpect fs → Each NoKnow fs
unfolding IsExpect
expects_silent [] a = tt
expects_silent (f ∷ fs) a = (λ runs js e. differ a.0.0 runs js (sym a.0.1 ∙ e), expects_silent fs a.1)
  where
    differ : (x : ℕ) (y : Known) (js : Joins) → body.Expect x ≡ body.Knowledge y js → ⊥
    differ x y js e = cc

record HostWoken (v : View) (log : Log) (o : Outcome) : Type 0 where
  view : o.view ≡ v
  settled : o.log.settled ≡ log.settled
  cut : o.log.cut ≡ log.settled
  expects : Each IsExpect o.frames

host_woken : (net : Net) (f : Facts) (p b now : ℕ) (v : View) (log : Log) → is_host net p b ≡ true → nat_le (log.settled + net.quiet) now ≡ false → AllWantTruth net f p (net.children p b) v.wants → log.cut ≤ log.settled → ((t : ℕ) → 1 ≤ t → t ≤ log.settled → is_consolidated_by (keeps_horizon net p b) v.horizon v.wants t ≡ true) → HostWoken v log (wake net p b now v log)
unfolding wake wake_host
host_woken net f p b now v log host late a c h = subst (HostWoken v log) (sym is_wake_host) (record {
  view = ap (λ o. o.view) e;
  settled = cutting_settled net p b (marking net p b now v log).view (marking net p b now v log).log ∙ ap (λ o. o.log.settled) e;
  cut = ap (λ o. (cutting net p b o.view o.log).cut) e ∙ cut_all net f p b v log a c h;
  expects = Each-on IsExpect (marking net p b now v log).frames _ (subst (λ o. Each IsExpect o.frames) (sym e) tt) (told (nat_lt 0 (cutting net p b (marking net p b now v log).view (marking net p b now v log).log).settled) (cutting net p b (marking net p b now v log).view (marking net p b now v log).log).settled (marking net p b now v log).view.wants);
})
  where
    e : marking net p b now v log ≡ record { view = v; log = log; lines = []; frames = [] }
    e = marked_none net p b now v log late

    is_wake_host : wake net p b now v log ≡ wake_host net p b now v log
    is_wake_host = rw (wake, host) refl

    told : (q : Bool) (tick : ℕ) (ws : List Wanted) → Each IsExpect (if q then expect_frames p b tick (net.children p b) ws else [])
    told true tick ws = expects_all p b tick (net.children p b) ws
    told false tick ws = tt

-- the wake of the host, after all its children, keeps what holds in the third phase
pub settling_host : (net : Net) (p m : ℕ) (base : List Frame) (b : ℕ) (bs : List ℕ) (w : World) → IsNet net → 1 ≤ net.quiet → WorldFits net w → b < net.brokers → p < net.publishers → is_host net p b ≡ true → ((c : ℕ) → list_any (λ x. nat_eq x c) (net.children p b) ≡ true → stands (b ∷ bs) c ≡ false) → Settling net p m base (b ∷ bs) w [] →
    Settling net p m base bs (wake_for net w b p).world (filter is_want (sent_since w (wake_for net w b p).world))
unfolding wake_for_by
settling_host net p m base b bs w n r f i j host out s =
    subst (Settling net p m base bs y) (sym pending) (record {
      clock = k.clock ∙ s.clock;
      unknown = (unknown_calls net n).woken w b p f i j s.unknown;
      settled = ap (λ l. l.settled) k.log ∙ (h.settled ∙ s.settled);
      reached = λ c x e. ap (λ v. v.horizon) (same c) ∙ s.reached c x e;
      asked = λ c t x q e. ap (λ v. asked_at v.asks t) (same c) ∙ s.asked c t x q (ap (λ v. any_C v.wants t) (sym (same c)) ∙ e);
      plain = tt;
      acked = λ c u t x up off one le. elim (cases_eq c b) [
        | inl g ↦
            let z = n.up_in p c u j x up in
            absurd (both_ways (is_host net p c) ((n.place p u j z.0).child_not_host c z.1) (subst (λ q. is_host net p q ≡ true) (sym g) host))
        | inr g ↦ ⊎_elim (λ z. inl (ap (λ v. wanted_at (wants_of net p u v c) t) (same u) ∙ z)) (λ z. absurd z) (s.acked c u t x up (not_left b c bs g off) one le)
      ];
      cut = λ z. ap (λ l. l.cut) k.log ∙ (h.cut ∙ s.settled);
      more = s.more ++ o.frames;
      frames = k.frames ∙ (ap (λ z. z ++ o.frames) s.frames ∙ append_assoc base s.more o.frames);
      none_told = Each-on NoKnow s.more o.frames s.none_told (expects_silent o.frames h.expects);
    })
  where
    y : World
    y = (wake_for net w b p).world

    o : Outcome
    o = wake net p b w.clock (view_of w b p) (log_of w p)

    k : Taken net w y b p o
    k = absorbed_taken net w b p o f i j

    h : HostWoken (view_of w b p) (log_of w p) o
    h = host_woken net (facts_of net w p) p b w.clock (view_of w b p) (log_of w p) host (lt-leb ((log_of w p).settled + net.quiet) w.clock (omega (arith, s.settled, s.clock, r))) (f.views p b j i).wants (f.logs p j).cut
        (λ t one le. settled_upto net p m base b bs w t n f i j out s one (omega (arith, le, s.settled)))

    same : (c : ℕ) → view_of y c p ≡ view_of w c p
    same c = elim (cases_eq c b) [
      | inl g ↦ subst (λ z. view_of y z p ≡ view_of w z p) (sym g) (k.view ∙ h.view)
      | inr g ↦ k.other c p g
    ]

    pending : filter is_want (sent_since w y) ≡ []
    pending = ap (λ z. filter is_want (frames_past (length w.frames) z)) k.frames ∙ (ap (filter is_want) (frames_past_all w.frames o.frames) ∙ expects_not_up o.frames h.expects)
