-- A datagram that is no frame has its first fault; one publisher's part of a broker is put in place
use Rattle.std.proofs.Common.{◌≡◌, ◌≢◌, ◌⊎◌, inl, inr, ℕ, zero, suc, ◌<◌, true, false, List, [], ◌∷◌, length, map, get_or, set, Ok, Err, Result, Option, OnOk, OnErr, refl, sym, ap, ap₂, ◌∙◌, subst, arith}
use Rattle.std.proofs.lemmas.List.{map-set, get_or-map, get_or-set_same, get_or-set_other}
use Rattle.std.proofs.lemmas.Bool.{cases_eq}
use Rattle.gr_frame.specs.declared.fault.FrameKind.{FrameKind}
use Rattle.gr_frame.specs.declared.fault.FrameKind.TheVariants as kind
use Rattle.gr_frame.specs.declared.fault.FrameFault.{FrameFault}
use Rattle.gr_frame.specs.Gives.{Fails, FailsAs, fault}
use Rattle.gr_frame.specs.declared.Frame.{Frame}
use Rattle.gr_edge.specs.Pass.{Wanting}
use Rattle.gr_publog.specs.Views.{LogView}
use Rattle.gr_model.specs.Net.{Net}
use Rattle.gr_model.specs.Broker.{View}
use Rattle.gr_model.specs.World.{blank_view}
use Rattle.gr_model.specs.Arrivals.{fits_broker}
use Rattle.gr_broker_relay.specs.declared.held.Held.{Held}
use Rattle.gr_broker_relay.specs.declared.place.Position.{Position}
use Rattle.gr_broker_relay.specs.Held.{held_view, seen_branch}
use Rattle.gr_broker.specs.Seen.{BrokerView, view_in, seen_broker}
use Rattle.gr_broker.specs.Receipt.{Receipt, no_frame, stray, split, clash, taken, receipt, receipt_of_fit, view_after, after_receipt}

-- a fault that is not want of memory is that of the bytes
fails_as : {X : Type 0} (k : FrameKind) (at : ℕ) (read : Result X FrameFault) → (k ≡ kind.Memory → ⊥) → FailsAs k at read → read ≡ Err (fault k at)
fails_as kind.Memory at read n h = absurd (n refl)
fails_as kind.Short at read n h = h
fails_as kind.BadMagic at read n h = h
fails_as kind.BadVersion at read n h = h
fails_as kind.BadKind at read n h = h
fails_as kind.BadRange at read n h = h
fails_as kind.BadOrder at read n h = h
fails_as kind.BadEvent at read n h = h
fails_as kind.Trailing at read n h = h
fails_as kind.TooLong at read n h = h
fails_as kind.BadJoins at read n h = h

pub fails : {X : Type 0} (f : FrameFault) (read : Result X FrameFault) → (f.kind ≡ kind.Memory → ⊥) → Fails f read → read ≡ Err f
fails f read n h = fails_as f.kind f.at read n h

-- what a list is seen as, with one element exchanged
pub seen_set : {A B : Type 0} (f : A → B) (xs : List A) (i : ℕ) (x : A) → map f (set xs i x) ≡ set (map f xs) i (f x)
seen_set f xs i x = map-set f xs i x

-- one that is seen as before leaves the list as it was seen
pub same_set : {A B : Type 0} (f : A → B) (xs : List A) (i : ℕ) (x d : A) → i < length xs → f x ≡ f (get_or xs i d) → map f (set xs i x) ≡ map f xs
same_set f [] i x d lt e = absurd (omega (arith, lt))
same_set f (y ∷ ys) zero x d lt e = ap (λ z. z ∷ map f ys) e
same_set f (y ∷ ys) (suc i) x d lt e = ap (λ zs. f y ∷ zs) (same_set f ys i x d (omega (arith, lt)) e)

-- what holds of each holds of each still where it holds of the one that was exchanged
pub each_set : {B : Type 0} (P : ℕ → B → Type 0) (xs : List B) (i : ℕ) (x d : B) (n : ℕ) → i < length xs → ((p : ℕ) → p < n → P p (get_or xs p d)) → P i x → (p : ℕ) → p < n → P p (get_or (set xs i x) p d)
each_set P xs i x d n lt h here p j = go (cases_eq p i)
  where
    go : (p ≡ i) ⊎ (p ≢ i) → P p (get_or (set xs i x) p d)
    go (inl e) = subst (λ (q : ℕ). P q (get_or (set xs i x) q d)) (sym e) (subst (P i) (sym (get_or-set_same xs i x d lt)) here)
    go (inr e) = subst (P p) (sym (get_or-set_other xs i p x d e)) (h p j)

-- what follows for an answer
pub on_ok : {T E : Type 0} {P Q : Type 0} (r : Result T E) → (P → Q) → OnOk r P → OnOk r Q
on_ok (Ok x) f h = f h
on_ok (Err e) f h = tt

pub on_err : {T E : Type 0} {P Q : Type 0} (r : Result T E) → (P → Q) → OnErr r P → OnErr r Q
on_err (Ok x) f h = tt
on_err (Err e) f h = f h

-- A frame of one publisher's tree

-- one that does not fit
pub stray_answer : (net : Net) (now : ℕ) (b : BrokerView) (f : Frame) → fits_broker net b.number f ≡ false → receipt net now b (Ok f) ≡ stray f.head
unfolding receipt
stray_answer net now b f e = rw (receipt, e) refl

-- one that fits
pub fit_answer : (net : Net) (now : ℕ) (b : BrokerView) (f : Frame) (v : View) → fits_broker net b.number f ≡ true → v ≡ view_in b f.head.publisher → receipt net now b (Ok f) ≡ receipt_of_fit net now v f
unfolding receipt
fit_answer net now b f v e h = rw (receipt, e, h) refl

-- what is kept of a publisher is that of its part
pub part_is : (number : ℕ) (here : List ℕ) (edges : List (List Wanting)) (places : List Position) (held : List Held) (p : ℕ) (h : Held) → p < length held → h ≡ get_or held p h →
    held_view h ≡ view_in (seen_broker number here edges places held) p
part_is number here edges places held p h lt e = ap held_view e ∙ sym (get_or-map held_view held p h blank_view lt)

-- a broker whose part of one publisher was put back is the broker after the receipt
pub put_back : (number : ℕ) (here : List ℕ) (edges : List (List Wanting)) (places : List Position) (held : List Held) (p : ℕ) (h h' : Held) (f : Frame) (r : Receipt) → f.head.publisher ≡ p → p < length held → h ≡ get_or held p h →
    h'.log ≡ h.log → held_view h' ≡ view_after r (held_view h) → seen_broker number here edges places (set held p h') ≡ after_receipt (Ok f) r (seen_broker number here edges places held)
put_back number here edges places held p h h' f r ep lt e el ev = go r ev
  where
    logs : map (λ x. x.log) (set held p h') ≡ map (λ x. x.log) held
    logs = same_set (λ x. x.log) held p h' h lt (el ∙ ap (λ x. x.log) e)

    made : List View → List (Option LogView) → BrokerView
    made vs ls = record { number = number; here = here; branches = map (seen_branch edges) places; views = vs; logs = ls }

    views_and : {vs : List View} → map held_view (set held p h') ≡ vs → made (map held_view (set held p h')) (map (λ x. x.log) (set held p h')) ≡ made vs (map (λ x. x.log) held)
    views_and a = ap₂ made a logs

    go : (r : Receipt) → held_view h' ≡ view_after r (held_view h) → seen_broker number here edges places (set held p h') ≡ after_receipt (Ok f) r (seen_broker number here edges places held)
    go (taken o) ev = views_and (seen_set held_view held p h' ∙ ap₂ (λ (i : ℕ) v. set (map held_view held) i v) (sym ep) ev)
    go (no_frame x) ev = views_and (same_set held_view held p h' h lt (ev ∙ ap held_view e))
    go (split x) ev = views_and (same_set held_view held p h' h lt (ev ∙ ap held_view e))
    go (stray x) ev = views_and (same_set held_view held p h' h lt (ev ∙ ap held_view e))
    go (clash t k x) ev = views_and (same_set held_view held p h' h lt (ev ∙ ap held_view e))

-- bytes that are no frame
pub no_frame_answer : (net : Net) (now : ℕ) (b : BrokerView) (read : Result Frame FrameFault) (f : FrameFault) → read ≡ Err f → receipt net now b read ≡ no_frame f
unfolding receipt
no_frame_answer net now b read f e = rw (receipt, e) refl
