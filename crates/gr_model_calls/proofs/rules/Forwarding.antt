-- Each tick of a piece is in a frame, and a learned tick goes to each child that has not acknowledged it
use Rattle.std.proofs.Common.{◌≡◌, ◌≢◌, ◌⊎◌, inl, inr, ⊎_elim, ℕ, suc, ◌+◌, Bool, true, false, not, ◌&&◌, ◌||◌, ◌≤◌, List, [], ◌∷◌, ◌++◌, map, get_or, refl, sym, ap, ap₂, ◌∙◌, subst, Some, None, append-nil, append_assoc}
use Rattle.std.specs.Prelude.{nat_eq, nat_le, if◌then◌else◌}
use Rattle.std.specs.List.{list_any}
use Rattle.std.proofs.lemmas.Bool.{cases_Bool, false≢true, eqb-true}
use Rattle.gr_know.specs.declared.values.K.{K}
use Rattle.gr_know.specs.declared.values.K.TheVariants.{Q, S, D, F}
use Rattle.gr_curio.specs.declared.values.Q3.{Q3}
use Rattle.gr_curio.specs.declared.values.Q3.TheVariants.{N, C, A}
use Rattle.gr_tick.specs.declared.run.Run.{Run}
use Rattle.gr_frame.specs.declared.Body.{Body}
use Rattle.gr_frame.specs.declared.Body.TheVariants as body
use Rattle.gr_frame.specs.declared.Frame.{Frame}
use Rattle.gr_tick.specs.Runs.{AreRuns, value_at, zip_runs, is_in}
use Rattle.gr_know.specs.Values.{Known, known_at, is_Q, join_K, same_K}
use Rattle.gr_curio.specs.Values.{Wanted, wanted_at, asked_at, is_C, is_A}
use Rattle.gr_event.specs.Joins.{Joins}
use Rattle.gr_model.specs.Net.{Net, is_host, keeps_horizon, pass, wanted_below}
use Rattle.gr_model.specs.Broker.{View, Log, Outcome, know_frames, want_frames, consolidated, is_consolidated_by, finished, forward, new_ticks, forward_frames, forward_wants, learn, up_frames, place_of, head}
use Rattle.gr_frame.specs.Bytes.{head_size, cut_from, cut_frames, known_run_size, wanted_run_size}
use Rattle.gr_model_calls.specs.Truth.{Facts, KnowsTruth, AllWantTruth}
use Rattle.gr_model.specs.Tree.{IsPlace}
use Rattle.gr_model_calls.specs.Fits.{ViewTrue}
use Rattle.gr_model_calls.proofs.calls.CallTruth.{new_ticks-is, forward-is, quenched-is, finished-is, joined-is, learn_wants, done_runs, done_values, learned_horizon}
use Rattle.gr_model_calls.proofs.asks.CallTicks.{trimmed-is, moment_kept}

-- one of the list has the property
abbrev pub Has : {X : Type 0} → (X → Type 0) → List X → Type 0
Has P [] = ⊥
Has P (x ∷ xs) = P x ⊎ Has P xs

-- one has a weaker property too
pub Has-on : {X : Type 0} (P R : X → Type 0) (xs : List X) → ((x : X) → P x → R x) → Has P xs → Has R xs
Has-on P R [] f h = absurd h
Has-on P R (x ∷ xs) f h = ⊎_elim (λ y. inl (f x y)) (λ y. inr (Has-on P R xs f y)) h

pub Has-map : {X Y : Type 0} (P : X → Type 0) (R : Y → Type 0) (g : X → Y) (xs : List X) → ((x : X) → P x → R (g x)) → Has P xs → Has R (map g xs)
Has-map P R g [] f h = absurd h
Has-map P R g (x ∷ xs) f h = ⊎_elim (λ y. inl (f x y)) (λ y. inr (Has-map P R g xs f y)) h

-- one of the first list is one of both
pub Has-front : {X : Type 0} (P : X → Type 0) (xs ys : List X) → Has P xs → Has P (xs ++ ys)
Has-front P [] ys h = absurd h
Has-front P (x ∷ xs) ys h = ⊎_elim (λ y. inl y) (λ y. inr (Has-front P xs ys y)) h

-- one of the second list is one of both
pub Has-back : {X : Type 0} (P : X → Type 0) (xs ys : List X) → Has P ys → Has P (xs ++ ys)
Has-back P [] ys h = h
Has-back P (x ∷ xs) ys h = inr (Has-back P xs ys h)

-- Frames have each tick

value_at-split : {V : Type 0} (bottom : V) (xs ys : List (Run V)) (t : ℕ) → (value_at bottom xs t ≡ value_at bottom (xs ++ ys) t) ⊎ (value_at bottom ys t ≡ value_at bottom (xs ++ ys) t)
value_at-split bottom [] ys t = inr refl
value_at-split bottom (r ∷ xs) ys t =
    elim (cases_Bool (is_in t r)) [
      | inl e ↦ rw e (inl refl)
      | inr e ↦ rw e (value_at-split bottom xs ys t)
    ]

-- the part has the tick as the whole has
abbrev pub IsThere : {V : Type 0} → V → ℕ → List (Run V) → List (Run V) → Type 0
IsThere bottom t whole part = value_at bottom part t ≡ value_at bottom whole t

cut_from_has : {V : Type 0} (bottom : V) (room : ℕ) (size : Run V → ℕ) (used t : ℕ) (begun rs : List (Run V)) → Has (IsThere bottom t (begun ++ rs)) (cut_from room size used begun rs)
unfolding cut_from
cut_from_has bottom room size used t begun [] = inl (ap (λ x. value_at bottom x t) (sym (append-nil begun)))
cut_from_has bottom room size used t begun (r ∷ rs) =
    elim (nat_le (used + size r) 16384) as (λ b. Has (IsThere bottom t (begun ++ r ∷ rs)) (elim b [ true ↦ cut_from room size (used + size r) (begun ++ r ∷ []) rs | false ↦ begun ∷ cut_from room size (room + size r) (r ∷ []) rs ])) [
      | true ↦ subst (λ x. Has (IsThere bottom t x) (cut_from room size (used + size r) (begun ++ r ∷ []) rs)) (append_assoc begun (r ∷ []) rs) (cut_from_has bottom room size (used + size r) t (begun ++ r ∷ []) rs)
      | false ↦ ⊎_elim (λ e. inl e) (λ e. inr (Has-on (IsThere bottom t (r ∷ rs)) (IsThere bottom t (begun ++ r ∷ rs)) (cut_from room size (room + size r) (r ∷ []) rs) (λ x y. y ∙ e) (cut_from_has bottom room size (room + size r) t (r ∷ []) rs))) (value_at-split bottom begun (r ∷ rs) t)
    ]

-- a tick that is not the least is in one of the frames as it is in the whole
pub cut_frames_has : {V : Type 0} (bottom : V) (room : ℕ) (size : Run V → ℕ) (t : ℕ) (rs : List (Run V)) → value_at bottom rs t ≢ bottom → Has (IsThere bottom t rs) (cut_frames room size rs)
unfolding cut_frames
cut_frames_has bottom room size t [] n = absurd (n refl)
cut_frames_has bottom room size t (r ∷ rs) n = cut_from_has bottom room size (room + size r) t (r ∷ []) rs

-- the body is knowledge with this value at the tick
abbrev pub TellsBody : ℕ → K → Body → Type 0
TellsBody t k (body.Knowledge runs js) = known_at runs t ≡ k
TellsBody t k _ = ⊥

-- the body is curiosity with this value at the tick
abbrev pub WantsBody : ℕ → Q3 → Body → Type 0
WantsBody t q (body.Curiosity runs) = wanted_at runs t ≡ q
WantsBody t q _ = ⊥

-- a Knowledge frame between two brokers has this of the tick
pub record TellsTick (p from to t : ℕ) (k : K) (f : Frame) : Type 0 where
  pub from_is : f.head.from ≡ from
  pub to_is : f.head.to ≡ to
  pub publisher : f.head.publisher ≡ p
  pub body : TellsBody t k f.body

-- a Curiosity frame between two brokers has this of the tick
pub record WantsTick (p from to t : ℕ) (q : Q3) (f : Frame) : Type 0 where
  pub from_is : f.head.from ≡ from
  pub to_is : f.head.to ≡ to
  pub publisher : f.head.publisher ≡ p
  pub body : WantsBody t q f.body

-- each known tick of a piece is in one of the frames that it is cut into
pub know_frames_tell : (js : Joins) (p from to t : ℕ) (runs : Known) → known_at runs t ≢ Q → Has (TellsTick p from to t (known_at runs t)) (know_frames js from to p runs)
know_frames_tell js p from to t runs n =
    Has-map (IsThere Q t runs) (TellsTick p from to t (known_at runs t)) (λ part. record { head = head from to p; body = body.Knowledge part js }) (cut_frames (head_size js) known_run_size runs)
    (λ part e. record { from_is = refl; to_is = refl; publisher = refl; body = e }) (cut_frames_has Q (head_size js) known_run_size t runs n)

pub want_frames_want : (p from to t : ℕ) (runs : Wanted) → wanted_at runs t ≢ N → Has (WantsTick p from to t (wanted_at runs t)) (want_frames from to p runs)
want_frames_want p from to t runs n =
    Has-map (IsThere N t runs) (WantsTick p from to t (wanted_at runs t)) (λ part. record { head = head from to p; body = body.Curiosity part }) (cut_frames 12 wanted_run_size runs)
    (λ part e. record { from_is = refl; to_is = refl; publisher = refl; body = e }) (cut_frames_has N 12 wanted_run_size t runs n)

-- each tick that a piece asks or acknowledges is in one of the frames that go up
pub up_frames_want : (net : Net) (p b u t : ℕ) (runs : Wanted) → net.up p b ≡ Some u → wanted_at runs t ≢ N → Has (WantsTick p b u t (wanted_at runs t)) (up_frames net p b runs)
up_frames_want net p b u t runs e n = subst (λ x. Has (WantsTick p b u t (wanted_at runs t)) (elim x [ Some u ↦ want_frames b u p runs | None ↦ [] ])) (sym e) (want_frames_want p b u t runs n)

-- Forwarding

-- an edge makes no tick unknown
pub pass_not_Q : (net : Net) (p c t : ℕ) (k : K) → k ≢ Q → pass net p c t k ≢ Q
pass_not_Q net p c t Q h = absurd (h refl)
pass_not_Q net p c t S h = h
pass_not_Q net p c t F h = h
pass_not_Q net p c t (D e) h = go (wanted_below net p c t e)
  where
    go : (b : Bool) → (elim b as (λ x. K) [ true ↦ D e | false ↦ S ]) ≢ Q
    go true = λ x. cc
    go false = λ x. cc

-- what is no acknowledgement does not pass the test for one
pub not_A : (q : Q3) → q ≢ A → is_A q ≡ false
not_A N h = refl
not_A C h = refl
not_A A h = absurd (h refl)

-- an unknown tick passes the test for one
pub is_Q_of : (k : K) → k ≡ Q → is_Q k ≡ true
is_Q_of k e = ap is_Q e

pub not_Q_of : (k : K) → k ≢ Q → is_Q k ≡ false
not_Q_of Q h = absurd (h refl)
not_Q_of S h = refl
not_Q_of (D e) h = refl
not_Q_of F h = refl

-- what a broker has stored of a child's curiosity
abbrev pub wants_of : Net → ℕ → ℕ → View → ℕ → Wanted
wants_of net p b v c = get_or v.wants (place_of c (net.children p b)) []

forward_tells : (js : Joins) (net : Net) (f : Facts) (p b c t : ℕ) (new : Known) (cs : List ℕ) (ws : List Wanted) → AllWantTruth net f p cs ws → AreRuns Q new → list_any (λ x. nat_eq x c) cs ≡ true → known_at new t ≢ Q → wanted_at (get_or ws (place_of c cs) []) t ≢ A → Has (TellsTick p b c t (pass net p c t (known_at new t))) (forward_frames js net p b new cs ws)
forward_tells js net f p b c t new [] ws a r m n k = absurd (false≢true m)
forward_tells js net f p b c t new (d ∷ cs) [] a r m n k = absurd a
forward_tells js net f p b c t new (d ∷ cs) (w ∷ ws) a r m n k =
    elim (cases_Bool (nat_eq d c)) [
      | inl e ↦
          let k1 : wanted_at w t ≢ A = subst (λ q. wanted_at (get_or (w ∷ ws) (if q then 0 else suc (place_of c cs)) []) t ≢ A) e k in
          let v : known_at (forward net p d w new) t ≡ pass net p d t (known_at new t) = (forward-is net p d w new a.0.runs r).same_at t ∙ ap (λ q. if q then Q else pass net p d t (known_at new t)) (not_A (wanted_at w t) k1) in
          Has-front (TellsTick p b c t (pass net p c t (known_at new t))) (know_frames js b d p (forward net p d w new)) (forward_frames js net p b new cs ws)
          (subst (λ x. Has (TellsTick p b x t (pass net p x t (known_at new t))) (know_frames js b d p (forward net p d w new))) (eqb-true d c e)
          (subst (λ x. Has (TellsTick p b d t x) (know_frames js b d p (forward net p d w new))) v (know_frames_tell js p b d t (forward net p d w new) (λ x. pass_not_Q net p d t (known_at new t) n (sym v ∙ x)))))
      | inr e ↦
          let k1 : wanted_at (get_or ws (place_of c cs) []) t ≢ A = subst (λ q. wanted_at (get_or (w ∷ ws) (if q then 0 else suc (place_of c cs)) []) t ≢ A) e k in
          Has-back (TellsTick p b c t (pass net p c t (known_at new t))) (know_frames js b d p (forward net p d w new)) (forward_frames js net p b new cs ws)
          (forward_tells js net f p b c t new cs ws a.1 r (subst (λ q. (q || list_any (λ x. nat_eq x c) cs) ≡ true) e m) n k1)
    ]

-- what a child's curiosity is at a tick where something new was learned of it, or nothing
abbrev pub quenched_at : Net → ℕ → ℕ → ℕ → K → Q3 → Q3
quenched_at net p c t k q = if is_C q && not (is_Q (if is_A q then Q else pass net p c t k)) then N else q

forward_quenches : (net : Net) (f : Facts) (p c t : ℕ) (new : Known) (cs : List ℕ) (ws : List Wanted) → AllWantTruth net f p cs ws → AreRuns Q new → list_any (λ x. nat_eq x c) cs ≡ true → wanted_at (get_or (forward_wants net p new cs ws) (place_of c cs) []) t ≡ quenched_at net p c t (known_at new t) (wanted_at (get_or ws (place_of c cs) []) t)
forward_quenches net f p c t new [] ws a r m = absurd (false≢true m)
forward_quenches net f p c t new (d ∷ cs) [] a r m = absurd a
forward_quenches net f p c t new (d ∷ cs) (w ∷ ws) a r m =
    elim (cases_Bool (nat_eq d c)) [
      | inl e ↦ rw e (
          let s = forward-is net p d w new a.0.runs r in
          (quenched-is w (forward net p d w new) a.0.runs s.runs).same_at t
          ∙ (ap (λ k. if is_C (wanted_at w t) && not (is_Q k) then N else wanted_at w t) (s.same_at t)
          ∙ ap (λ x. quenched_at net p x t (known_at new t) (wanted_at w t)) (eqb-true d c e)))
      | inr e ↦ rw e (forward_quenches net f p c t new cs ws a.1 r (subst (λ q. (q || list_any (λ x. nat_eq x c) cs) ≡ true) e m))
    ]

-- what is learned, before forgetting
abbrev pub known_then : Net → ℕ → ℕ → Known → View → View → ℕ → K
known_then net p b piece v u t = if is_consolidated_by (keeps_horizon net p b) u.horizon u.wants t then F else join_K (known_at v.know t) (known_at piece t)

-- what learning a piece does at each tick
pub record LearnTicks (net : Net) (p b : ℕ) (piece : Known) (v : View) (o : Outcome) : Type 0 where
  pub forwarded : (c t : ℕ) → list_any (λ x. nat_eq x c) (net.children p b) ≡ true → known_at v.know t ≡ Q → known_at piece t ≢ Q → wanted_at (wants_of net p b v c) t ≢ A → Has (TellsTick p b c t (pass net p c t (known_at piece t))) o.frames
  pub wants : (c t : ℕ) → list_any (λ x. nat_eq x c) (net.children p b) ≡ true → wanted_at (wants_of net p b o.view c) t ≡ quenched_at net p c t (if is_Q (known_at v.know t) then known_at piece t else Q) (wanted_at (wants_of net p b v c) t)
  pub horizon : o.view.horizon ≡ learned_horizon net p b piece v
  pub asks : (t : ℕ) → known_at o.view.know t ≡ Q → asked_at o.view.asks t ≡ asked_at v.asks t
  pub know : (t : ℕ) → (known_at o.view.know t ≡ known_then net p b piece v o.view t) ⊎ ((known_at o.view.know t ≡ Q) × (is_host net p b ≡ false) × (keeps_horizon net p b ≡ true → t ≤ o.view.horizon))

-- each new tick goes on to each child that has not acknowledged it and ends its question;
-- the horizon moves on, and with a kept horizon only what it has passed is forgotten
pub learn_ticks : (net : Net) (f : Facts) (p b : ℕ) (piece : Known) (v : View) (log : Log) → IsPlace net p b → ViewTrue net f p b v → KnowsTruth net f p b piece → LearnTicks net p b piece v (learn net p b piece v log)
unfolding learn
learn_ticks net f p b piece v log place h k =
    let keeps = keeps_horizon net p b in
    let new = new_ticks v.know piece in
    let n = new_ticks-is v.know piece h.know.runs k.runs in
    let joined = zip_runs Q Q Q same_K join_K v.know piece in
    let j = joined-is v.know piece h.know.runs k.runs in
    let hz = learned_horizon net p b piece v in
    let ws = forward_wants net p new (net.children p b) v.wants in
    let all = learn_wants net f p b piece v place h k in
    let done = consolidated keeps hz ws in
    let fin = finished-is joined done j.runs (done_runs net f p b hz ws all) in
    let u : View = record { know = finished joined done; wants = ws; asks = v.asks; horizon = hz; joins = v.joins } in
    let i = trimmed-is net p b u fin.runs in
    record {
      forwarded = λ c t m q x a.
          let e : known_at new t ≡ known_at piece t = n.same_at t ∙ ap (λ z. if z then known_at piece t else Q) (is_Q_of (known_at v.know t) q) in
          subst (λ z. Has (TellsTick p b c t (pass net p c t z)) (forward_frames v.joins net p b new (net.children p b) v.wants)) e (forward_tells v.joins net f p b c t new (net.children p b) v.wants h.wants n.runs m (λ z. x (sym e ∙ z)) a);
      wants = λ c t m. ap (λ z. wanted_at (get_or z (place_of c (net.children p b)) []) t) i.wants ∙ (forward_quenches net f p c t new (net.children p b) v.wants h.wants n.runs m ∙ ap (λ z. quenched_at net p c t z (wanted_at (wants_of net p b v c) t)) (n.same_at t));
      horizon = i.horizon;
      asks = λ t e. moment_kept net p b u (learn net p b piece v log).view i h.asks t e;
      know = λ t.
          let e : known_at u.know t ≡ (if is_consolidated_by keeps hz ws t then F else join_K (known_at v.know t) (known_at piece t)) = fin.same_at t ∙ (ap₂ (λ x y. if is_A x then F else y) (done_values net f p b hz ws all t) (j.same_at t) ∙ F_if (is_consolidated_by keeps hz ws t) (join_K (known_at v.know t) (known_at piece t))) in
          ⊎_elim (λ x. inl (x ∙ (e ∙ ap₂ (λ z y. if is_consolidated_by keeps z y t then F else join_K (known_at v.know t) (known_at piece t)) (sym i.horizon) (sym i.wants)))) (λ x. inr (x.0, x.1, λ y. subst (λ z. t ≤ z) (sym i.horizon) (x.2 y))) (i.each t);
    }
  where
    F_if : (c : Bool) (x : K) → (if is_A (if c then A else N) then F else x) ≡ (if c then F else x)
    F_if true x = refl
    F_if false x = refl

-- where something new was learned of a tick, no question stays
pub quench_not_C : (net : Net) (p c t : ℕ) (k : K) (q : Q3) → k ≢ Q → quenched_at net p c t k q ≢ C
quench_not_C net p c t k N h = λ e. cc
quench_not_C net p c t k A h = λ e. cc
quench_not_C net p c t k C h = λ e. N_not_C (sym (ap (λ x. if not x then N else C) (not_Q_of (pass net p c t k) (pass_not_Q net p c t k h))) ∙ e)
  where
    N_not_C : N ≡ C → ⊥
    N_not_C e = cc
