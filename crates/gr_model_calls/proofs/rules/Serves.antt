-- Each tick that a delivered Curiosity frame asks is answered, or stored
-- and, below the host, asked on, since its receiver obeys the rule
use Rattle.std.proofs.Common.{◌≡◌, ◌≢◌, ◌⊎◌, inl, inr, ⊎_elim, ℕ, true, false, List, [], ◌∷◌, ◌++◌, length, refl, sym, ap, ◌∙◌, subst, Some}
use Rattle.std.specs.Prelude.{nat_eq, if◌then◌else◌}
use Rattle.std.specs.List.{list_any}
use Rattle.std.proofs.lemmas.Bool.{cases_Bool, true≢false}
use Rattle.gr_know.specs.declared.values.K.{K}
use Rattle.gr_know.specs.declared.values.K.TheVariants.{Q, S, D, F}
use Rattle.gr_curio.specs.declared.values.Q3.{Q3}
use Rattle.gr_curio.specs.declared.values.Q3.TheVariants.{N, C, A}
use Rattle.gr_frame.specs.declared.Body.{Body}
use Rattle.gr_frame.specs.declared.Body.TheVariants as body
use Rattle.gr_frame.specs.declared.Frame.{Frame}
use Rattle.gr_know.specs.Values.{known_at, is_Q}
use Rattle.gr_curio.specs.Values.{Wanted, wanted_at, asked_at, is_A, is_outstanding}
use Rattle.gr_model.specs.Net.{Net, is_host, keeps_horizon, pass}
use Rattle.gr_model.specs.Broker.{View, Log, Outcome, place_of, curiosity, receive, is_consolidated_by}
use Rattle.gr_model.specs.World.{World, view_of, log_of, absorbed, frames_past, sent_since, deliver_frame_by}
use Rattle.gr_model_calls.specs.OneNet.{deliver_frame}
use Rattle.gr_model_calls.specs.Truth.{WantsTruth}
use Rattle.gr_model_calls.specs.Fits.{facts_of, WorldFits, FrameTrue, BodyTrue, BodyFits}
use Rattle.gr_model.specs.Tree.{IsNet}
use Rattle.gr_model_calls.proofs.runs.Worlds.{deliver_kept}
use Rattle.gr_model_calls.proofs.asks.AskMoments.{Taken, absorbed_taken}
use Rattle.gr_model_calls.proofs.rules.SweepAsks.{AsksNow, asked_now}
use Rattle.gr_model_calls.proofs.rules.Forwarding.{Has, Has-on, TellsTick, WantsTick, WantsBody, pass_not_Q, wants_of}
use Rattle.gr_model_calls.proofs.rules.Answering.{CuriosityTicks, curiosity_ticks, not_settled}
use Rattle.gr_curio.specs.declared.asks.Moment.TheVariants.{At}

-- the frames past those sent before are those sent since
pub frames_past_all : (xs ys : List Frame) → frames_past (length xs) (xs ++ ys) ≡ ys
frames_past_all [] ys = refl
frames_past_all (x ∷ xs) ys = frames_past_all xs ys

-- a Curiosity frame
abbrev pub IsCuriosity : Body → ℕ → Q3 → Type 0
IsCuriosity y t q = (runs : Wanted) × (y ≡ body.Curiosity runs) × (wanted_at runs t ≡ q)

pub want_body : (t : ℕ) (q : Q3) (y : Body) → WantsBody t q y → IsCuriosity y t q
want_body t q (body.Knowledge runs js) h = absurd h
want_body t q (body.Curiosity runs) h = (runs, refl, h)
want_body t q (body.Expect tick) h = absurd h

-- receiving a Curiosity frame is the call for its sender's curiosity
pub receive_curiosity : (net : Net) (now : ℕ) (f : Frame) (runs : Wanted) (v : View) (log : Log) → f.body ≡ body.Curiosity runs → receive net now f v log ≡ curiosity net f.head.publisher f.head.to now f.head.from (place_of f.head.from (net.children f.head.publisher f.head.to)) runs v log
unfolding receive
receive_curiosity net now f runs v log e = rw e refl

-- a Knowledge frame knows the tick
pub record TellsKnown (p from to t : ℕ) (f : Frame) : Type 0 where
  pub value : K
  pub known : value ≢ Q
  pub tells : TellsTick p from to t value f

-- a broker has stored that a child asks the tick, and does not know it
pub record Stores (net : Net) (w : World) (p u c t : ℕ) : Type 0 where
  pub asks : wanted_at (wants_of net p u (view_of w u p) c) t ≡ C
  pub unknown : known_at (view_of w u p).know t ≡ Q

-- it has asked the tick at this moment, before the delivery or in it
pub record AsksOn (net : Net) (w y : World) (p u t : ℕ) : Type 0 where
  pub noted : asked_at (view_of y u p).asks t ≡ At w.clock
  pub before : (asked_at (view_of w u p).asks t ≡ At w.clock) ⊎ ((x : ℕ) → net.up p u ≡ Some x → Has (WantsTick p u x t C) (sent_since w y))

-- a tick that a child asked was sent to it as known; or its question is stored, at the host, or asked on
abbrev pub Served : Net → World → World → ℕ → ℕ → ℕ → ℕ → Type 0
Served net w y p u c t = Has (TellsKnown p u c t) (sent_since w y) ⊎ (Stores net y p u c t × ((is_host net p u ≡ true) ⊎ AsksOn net w y p u t))

A_of : (q : Q3) → is_A q ≡ true → q ≡ A
A_of N e = absurd (true≢false (sym e))
A_of C e = absurd (true≢false (sym e))
A_of A e = refl

Q_of : (k : K) → is_Q k ≡ true → k ≡ Q
Q_of Q e = refl
Q_of S e = absurd (true≢false (sym e))
Q_of (D x) e = absurd (true≢false (sym e))
Q_of F e = absurd (true≢false (sym e))

F_not_Q : F ≡ Q → ⊥
F_not_Q e = cc

-- a frame that tells a known value of a tick knows the tick
pub known_of : (p u c t : ℕ) (k : K) (fs : List Frame) → k ≢ Q → Has (TellsTick p u c t k) fs → Has (TellsKnown p u c t) fs
known_of p u c t k fs n h = Has-on (TellsTick p u c t k) (TellsKnown p u c t) fs (λ f y. record { value = k; known = n; tells = y }) h

-- a tick asked of a broker by a delivered frame is answered, or stored there and asked on, or stored at the host
pub delivered_serves : (net : Net) (w : World) (x : Frame) (t : ℕ) → IsNet net → WorldFits net w → FrameTrue net w x → AsksNow net w.clock w → WantsBody t C x.body → Served net w (deliver_frame net w x).world x.head.publisher x.head.to x.head.from t
unfolding deliver_frame_by
delivered_serves net w x t n f tr a h = go (cases_Bool (is_A (wanted_at w0 t))) (cases_Bool (is_Q (known_at v.know t))) (cases_Bool (is_host net p u)) (cases_Bool (is_outstanding (asked_at v.asks t) w.clock net.retry))
  where
    p : ℕ
    p = x.head.publisher

    u : ℕ
    u = x.head.to

    c : ℕ
    c = x.head.from

    v : View
    v = view_of w u p

    w0 : Wanted
    w0 = wants_of net p u v c

    is : IsCuriosity x.body t C
    is = want_body t C x.body h

    child : list_any (λ y. nat_eq y c) (net.children p u) ≡ true
    child = subst (BodyFits net p c u) is.1 tr.fits.body

    told : WantsTruth net (facts_of net w p) p c is.0
    told = subst (BodyTrue net (facts_of net w p) p c u) is.1 tr.told

    o : Outcome
    o = receive net w.clock x v (log_of w p)

    k : CuriosityTicks net p u w.clock c is.0 v o
    k = subst (CuriosityTicks net p u w.clock c is.0 v) (sym (receive_curiosity net w.clock x is.0 v (log_of w p) is.1)) (curiosity_ticks net (facts_of net w p) p u w.clock c is.0 v (log_of w p) (f.views p u tr.publisher_in tr.fits.to_in) child told)

    y : World
    y = (absorbed w u p o).world

    ta : Taken net w y u p o
    ta = absorbed_taken net w u p o f tr.fits.to_in tr.publisher_in

    since : sent_since w y ≡ o.frames
    since = ap (frames_past (length w.frames)) ta.frames ∙ frames_past_all w.frames o.frames

    fits : WorldFits net y
    fits = (deliver_kept net w x n f tr).fits

    not_A : (q : Q3) → is_A q ≡ false → q ≢ A
    not_A q e g = true≢false (sym (ap is_A g) ∙ e)

    not_Q : (q : K) → is_Q q ≡ false → q ≢ Q
    not_Q q e g = true≢false (sym (ap is_Q g) ∙ e)

    stores : wanted_at w0 t ≢ A → known_at v.know t ≡ Q → Stores net y p u c t
    stores na q =
        let s = k.stored t is.2 na q in
        let s1 : wanted_at (wants_of net p u (view_of y u p) c) t ≡ C = ap (λ z. wanted_at (wants_of net p u z c) t) ta.view ∙ s in
        let no = not_settled net (facts_of net y p) p u c t v.horizon (view_of y u p).wants (fits.views p u tr.publisher_in tr.fits.to_in).wants child (ap is_A s1) in
        let no1 : is_consolidated_by (keeps_horizon net p u) v.horizon o.view.wants t ≡ false = ap (λ z. is_consolidated_by (keeps_horizon net p u) v.horizon z.wants t) (sym ta.view) ∙ no in
        record {
          asks = s1;
          unknown = ap (λ z. known_at z.know t) ta.view ∙ ⊎_elim (λ z. z ∙ (ap (λ b. if b then F else known_at v.know t) no1 ∙ q)) (λ z. z.0) (k.know t);
        }

    asked_on : is_host net p u ≡ false → wanted_at w0 t ≢ A → known_at v.know t ≡ Q → ((is_outstanding (asked_at v.asks t) w.clock net.retry ≡ true) ⊎ (is_outstanding (asked_at v.asks t) w.clock net.retry ≡ false)) → AsksOn net w y p u t
    asked_on e na q (inl out) =
        let old = asked_now net w.clock p u t w a tr.publisher_in tr.fits.to_in out in
        record { noted = ap (λ z. asked_at z.asks t) ta.view ∙ ⊎_elim (λ z. z) (λ z. z ∙ old) (k.asks t (ap (λ z. known_at z.know t) (sym ta.view) ∙ (stores na q).unknown)); before = inl old }
    asked_on e na q (inr out) =
        let z = k.asked t e is.2 na q out in
        record { noted = ap (λ g. asked_at g.asks t) ta.view ∙ z.1; before = inr (λ r up. subst (Has (WantsTick p u r t C)) (sym since) (z.0 r up)) }

    go : ((is_A (wanted_at w0 t) ≡ true) ⊎ (is_A (wanted_at w0 t) ≡ false)) → ((is_Q (known_at v.know t) ≡ true) ⊎ (is_Q (known_at v.know t) ≡ false)) → ((is_host net p u ≡ true) ⊎ (is_host net p u ≡ false)) → ((is_outstanding (asked_at v.asks t) w.clock net.retry ≡ true) ⊎ (is_outstanding (asked_at v.asks t) w.clock net.retry ≡ false)) → Served net w y p u c t
    go (inl e) r s z = inl (subst (Has (TellsKnown p u c t)) (sym since) (known_of p u c t F o.frames F_not_Q (k.told_F t is.2 (A_of (wanted_at w0 t) e))))
    go (inr e) (inr g) s z = inl (subst (Has (TellsKnown p u c t)) (sym since) (known_of p u c t (pass net p c t (known_at v.know t)) o.frames (pass_not_Q net p c t (known_at v.know t) (not_Q (known_at v.know t) g)) (k.answered t is.2 (not_A (wanted_at w0 t) e) (not_Q (known_at v.know t) g))))
    go (inr e) (inl g) (inl s) z = inr (stores (not_A (wanted_at w0 t) e) (Q_of (known_at v.know t) g), inl s)
    go (inr e) (inl g) (inr s) z = inr (stores (not_A (wanted_at w0 t) e) (Q_of (known_at v.know t) g), inr (asked_on s (not_A (wanted_at w0 t) e) (Q_of (known_at v.know t) g) z))
