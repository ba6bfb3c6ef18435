-- Each delivery keeps the path claim of the first phase, since a tick
-- that is asked is answered, or stored and, below the host, asked on
use Rattle.std.proofs.Common.{◌≡◌, ◌≢◌, ◌⊎◌, inl, inr, ⊎_elim, ℕ, suc, zero, ◌≤◌, Bool, true, false, List, [], ◌∷◌, ◌++◌, length, refl, sym, ap, ◌∙◌, subst, Some, arith}
use Rattle.std.specs.Prelude.{filter, nat_eq}
use Rattle.std.specs.List.{list_any}
use Rattle.std.proofs.lemmas.Bool.{cases_Bool, cases_eq}
use Rattle.gr_curio.specs.declared.values.Q3.TheVariants.{C, A}
use Rattle.gr_frame.specs.declared.Body.{Body}
use Rattle.gr_frame.specs.declared.Body.TheVariants as body
use Rattle.gr_frame.specs.declared.Frame.{Frame}
use Rattle.gr_curio.specs.Values.{Wanted, wanted_at, asked_at}
use Rattle.gr_model.specs.Net.{Net, is_host}
use Rattle.gr_model.specs.Broker.{receive}
use Rattle.gr_model.specs.World.{World, view_of, log_of, frames_past, sent_since, is_want}
use Rattle.gr_model_calls.specs.OneNet.{deliver_frame}
use Rattle.gr_model.specs.Tree.{IsNet}
use Rattle.gr_model_calls.specs.Fits.{WorldFits, FrameTrue}
use Rattle.gr_model_calls.proofs.rules.SweepAsks.{AsksNow}
use Rattle.gr_model_calls.proofs.rules.Forwarding.{Has, Has-front, Has-back, WantsTick, WantsBody}
use Rattle.gr_model_calls.proofs.rules.Serves.{TellsKnown, Stores, Served, delivered_serves, frames_past_all}
use Rattle.gr_model_theorems.proofs.sweep.Stays.{DeliveredWant, delivered_want, stores_stay, noted_stays}
use Rattle.gr_model_theorems.proofs.sweep.Pending.{sent_up}
use Rattle.gr_curio.specs.declared.asks.Moment.TheVariants.{At}

-- a tick that c asked of u is in a Knowledge frame to c of this sweep, or is stored at u, which is the host or asked it too
abbrev pub Path : Net → ℕ → ℕ → ℕ → ℕ → World → ℕ → ℕ → Type 0
Path net p t m first w c u = Has (TellsKnown p u c t) (frames_past first w.frames) ⊎ (Stores net w p u c t × ((is_host net p u ≡ true) ⊎ (asked_at (view_of w u p).asks t ≡ At m)))

-- so it is for each broker that asked the tick at this moment, or its frame is pending
abbrev pub Claim : Net → ℕ → ℕ → ℕ → ℕ → World → List Frame → Type 0
Claim net p t m first w pending = (c u : ℕ) → list_any (λ z. nat_eq z c) (net.children p u) ≡ true → net.up p c ≡ Some u → asked_at (view_of w c p).asks t ≡ At m → Path net p t m first w c u ⊎ Has (WantsTick p c u t C) pending

-- a frame past the first few is so in a longer list too
pub Has-past : (P : Frame → Type 0) (n : ℕ) (xs ys : List Frame) → Has P (frames_past n xs) → Has P (frames_past n (xs ++ ys))
Has-past P zero xs ys h = Has-front P xs ys h
Has-past P (suc n) [] ys h = absurd h
Has-past P (suc n) (x ∷ xs) ys h = Has-past P n xs ys h

-- a frame that is added is past the first few
pub Has-last : (P : Frame → Type 0) (n : ℕ) (xs ys : List Frame) → n ≤ length xs → Has P ys → Has P (frames_past n (xs ++ ys))
Has-last P zero xs ys l h = Has-back P xs ys h
Has-last P (suc n) [] ys l h = absurd (omega (arith, l))
Has-last P (suc n) (x ∷ xs) ys l h = Has-last P n xs ys (omega (arith, l)) h

want_is : (p c u t : ℕ) (f : Frame) → WantsTick p c u t C f → is_want f ≡ true
want_is p c u t f h = go f.body h.body
  where
    go : (y : Body) → WantsBody t C y → (elim y as (λ q. Bool) [ body.Curiosity runs ↦ true | _ ↦ false ]) ≡ true
    go (body.Knowledge runs js) k = absurd k
    go (body.Curiosity runs) k = refl
    go (body.Expect tick) k = absurd k

-- a frame that asks a tick is among the upward frames
pub Has-wants : (p c u t : ℕ) (fs : List Frame) → Has (WantsTick p c u t C) fs → Has (WantsTick p c u t C) (filter is_want fs)
Has-wants p c u t [] h = absurd h
Has-wants p c u t (f ∷ fs) (inl h) = rw (want_is p c u t f h) (inl h)
Has-wants p c u t (f ∷ fs) (inr h) =
    elim (cases_Bool (is_want f)) [
      | inl e ↦ rw e (inr (Has-wants p c u t fs h))
      | inr e ↦ rw e (Has-wants p c u t fs h)
    ]

-- the delivery of a Curiosity frame keeps the claim, where it has no A at the tick from a broker that asked it at this moment; and what it asks on is pending
pub claim_kept : (net : Net) (p t first : ℕ) (w : World) (x : Frame) (runs : Wanted) (fs : List Frame) → IsNet net → WorldFits net w → FrameTrue net w x → AsksNow net w.clock w → x.body ≡ body.Curiosity runs → (asked_at (view_of w x.head.from p).asks t ≡ At w.clock → wanted_at runs t ≢ A) → first ≤ length w.frames →
    Claim net p t w.clock first w (x ∷ fs) → Claim net p t w.clock first (deliver_frame net w x).world (sent_up net w x ++ fs)
claim_kept net p t first w x runs fs n f tr an e na l claim c u child up asked = ⊎_elim old new before
  where
    y : World
    y = (deliver_frame net w x).world

    d : DeliveredWant net w y x runs (receive net w.clock x (view_of w x.head.to x.head.publisher) (log_of w x.head.publisher))
    d = delivered_want net w x runs n f tr e

    sent : List Frame
    sent = (receive net w.clock x (view_of w x.head.to x.head.publisher) (log_of w x.head.publisher)).frames

    since : sent_since w y ≡ sent
    since = ap (frames_past (length w.frames)) d.taken.frames ∙ frames_past_all w.frames sent

    before : (asked_at (view_of w c p).asks t ≡ At w.clock) ⊎ Has (WantsTick p c u t C) sent
    before = elim (cases_eq c x.head.to) [
      | inl g ↦ elim (cases_eq p x.head.publisher) [
        | inl k ↦ ⊎_elim
            (λ z. inl (subst (λ q. asked_at (view_of w c q).asks t ≡ At w.clock) (sym k) (subst (λ b. asked_at (view_of w b x.head.publisher).asks t ≡ At w.clock) (sym g) z)))
            (λ z. inr (subst (λ q. Has (WantsTick q c u t C) sent) (sym k) (subst (λ b. Has (WantsTick x.head.publisher b u t C) sent) (sym g) (z u (subst (λ b. net.up x.head.publisher b ≡ Some u) g (subst (λ q. net.up q c ≡ Some u) k up))))))
            (d.ticks.asks_new t (sym (ap (λ v. asked_at v.asks t) d.taken.view) ∙ subst (λ b. asked_at (view_of y b x.head.publisher).asks t ≡ At w.clock) g (subst (λ q. asked_at (view_of y c q).asks t ≡ At w.clock) k asked)))
        | inr k ↦ inl (sym (ap (λ v. asked_at v.asks t) (d.taken.other_publisher c p k)) ∙ asked)
      ]
      | inr g ↦ inl (sym (ap (λ v. asked_at v.asks t) (d.taken.other c p g)) ∙ asked)
    ]

    new : Has (WantsTick p c u t C) sent → Path net p t w.clock first y c u ⊎ Has (WantsTick p c u t C) (sent_up net w x ++ fs)
    new h = inr (Has-front (WantsTick p c u t C) (sent_up net w x) fs (Has-wants p c u t (sent_since w y) (subst (Has (WantsTick p c u t C)) (sym since) h)))

    stays : asked_at (view_of w c p).asks t ≡ At w.clock → Path net p t w.clock first w c u → Path net p t w.clock first y c u
    stays g (inl h) = inl (subst (λ z. Has (TellsKnown p u c t) (frames_past first z)) (sym d.taken.frames) (Has-past (TellsKnown p u c t) first w.frames sent h))
    stays g (inr h) =
        let s = stores_stay net w x runs p u c t n f tr e child (λ a b z. na (subst (λ q. asked_at (view_of w q p).asks t ≡ At w.clock) (sym z) g)) h.0 in
        inr (s, ⊎_elim (λ z. inl z) (λ z. inr (noted_stays net w x runs p u t n f tr e s.unknown z)) h.1)

    served : WantsTick p c u t C x → Path net p t w.clock first y c u
    served h =
        let s = delivered_serves net w x t n f tr an h.body in
        let s1 : Served net w y p u c t = subst (λ q. Served net w y q u c t) h.publisher (subst (λ b. Served net w y x.head.publisher b c t) h.to_is (subst (λ b. Served net w y x.head.publisher x.head.to b t) h.from_is s)) in
        ⊎_elim
        (λ z. inl (subst (λ q. Has (TellsKnown p u c t) (frames_past first q)) (sym d.taken.frames) (Has-last (TellsKnown p u c t) first w.frames sent l (subst (Has (TellsKnown p u c t)) since z))))
        (λ z. inr (z.0, ⊎_elim (λ a. inl a) (λ a. inr a.noted) z.1)) s1

    old : asked_at (view_of w c p).asks t ≡ At w.clock → Path net p t w.clock first y c u ⊎ Has (WantsTick p c u t C) (sent_up net w x ++ fs)
    old a = ⊎_elim (λ z. inl (stays a z)) (λ z. ⊎_elim (λ h. inl (served h)) (λ h. inr (Has-back (WantsTick p c u t C) (sent_up net w x) fs h)) z) (claim c u child up a)
