-- What each way out of an append, and of a filling, has done to the lane
use Rattle.std.proofs.Common.{◌≡◌, ◌⊎◌, inl, inr, ℕ, ◌+◌, ◌≤◌, true, false, List, Ok, Err, refl, ap, sym, ◌∙◌, subst, arith}
use Rattle.gr_out.specs.declared.disk.Stop.TheVariants.{After}
use Rattle.gr_out.specs.Lane.{Lane, Call, content, moment, crash_image, has_stopped, MayLeave, LeftSince, LeavesOnly, with_room}
use Rattle.gr_publog.specs.declared.record.LogFault.TheVariants as fault
use Rattle.gr_publog.specs.declared.steps.Aside.{Aside}
use Rattle.gr_publog.specs.Rewrite.{IsShut, filled}
use Rattle.gr_publog.specs.Crash.{behind_gate, opened_gate, IsBetween, Broke, StoppedImage}
use Rattle.gr_publog.specs.Steps.{append_calls, rewriting_calls, GoesOn, Extends, Refills}
use Rattle.gr_publog.specs.Uses.{KeepsCalls}
use Rattle.gr_publog.proofs.Moments.{only_now}
use Rattle.gr_publog.proofs.Onward.{goes_on_same, goes_on_room, goes_on_then}

-- where no call was made, no stop broke one
none_broke : (l l' : Lane) (call pick : ℕ) → l'.stop ≡ l.stop → Broke l l' call pick → ⊥
none_broke l l' call pick same broke = let e : false ≡ true = sym (ap has_stopped (same ∙ broke.ordered)) ∙ broke.stopped in cc e

-- nothing but what may be left
left_now : (l l' : Lane) (image : List ℕ) → l' ≡ l → LeftSince l' (moment l) image → MayLeave l image
left_now l l' image e left = only_now l.start l.calls image (subst (λ (x : Lane). LeftSince x (moment l) image) e left)

-- the same behind more room
in_room : (l l' : Lane) (n : ℕ) (image : List ℕ) → l' ≡ with_room n l → LeftSince l' (moment l) image → MayLeave l image
in_room l l' n image e left = only_now l.start l.calls image (subst (λ (x : Lane). LeftSince x (moment l) image) e left)

module _ {T : Type 0} (before after : Lane) (only : LeavesOnly before (content before)) (e : after ≡ before) where
  pub extends_refused : (gate : ℕ) (bytes : List ℕ) → Extends {T = T} gate bytes before after (Err fault.Memory)
  extends_refused gate bytes = record {
    written = tt;
    only = tt;
    calls = tt;
    on = goes_on_same before after e;
    any_moment = λ image left. inl (only image (left_now before after image e left));
    breaks = λ call pick ordered few. refl;
    picked = λ call pick broke. absurd (none_broke before after call pick (ap (λ (x : Lane). x.stop) e) broke);
    untouched = λ h. e;
    few = λ h. absurd (cc h);
    reserved = λ h. ap (λ (x : Lane). x.reserved) e ∙ h;
    unset = λ h. ap (λ (x : Lane). x.stop) e ∙ h;
  }

  pub refills_refused : (aside : Aside) (body : List ℕ) → Refills {T = T} aside body before after (Err fault.Memory)
  refills_refused aside body = record {
    written = tt;
    only = tt;
    calls = tt;
    on = goes_on_same before after e;
    any_moment = λ image left. inl (only image (left_now before after image e left));
    untouched = λ h. e;
    few = λ h. absurd (cc h);
    reserved = λ h. ap (λ (x : Lane). x.reserved) e ∙ h;
    ready = tt;
    unset = λ h. ap (λ (x : Lane). x.stop) e ∙ h;
  }

-- What is known where the four calls of an append were begun, in the room that was made.
pub record IsPut (gate : ℕ) (bytes text : List ℕ) (before mid after : Lane) (n : ℕ) : Type 0 where
  pub room : mid ≡ with_room n before
  pub text_is : bytes ≡ text
  pub keeps : KeepsCalls mid after
  pub any_moment : (image : List ℕ) → LeftSince after (moment mid) image → IsBetween gate bytes (content mid) image
  pub picked : (call pick : ℕ) → Broke mid after call pick → StoppedImage gate bytes (content mid) call pick (crash_image after)
  pub left : mid.left ≤ after.left + 4

module _ (gate : ℕ) (bytes text : List ℕ) (before mid after : Lane) (n : ℕ) (a : IsPut gate bytes text before mid after n) where
  images : (image : List ℕ) → LeftSince after (moment before) image → (image ≡ content before) ⊎ IsBetween gate text (content before) image
  images image left =
      let b : IsBetween gate bytes (content mid) image = a.any_moment image (subst (λ (m : ℕ). LeftSince after m image) (sym (ap moment a.room)) left) in
      inr (subst (λ (c : List ℕ). IsBetween gate text c image) (ap content a.room) (subst (λ (c : List ℕ). IsBetween gate c (content mid) image) a.text_is b))

  picks : (call pick : ℕ) → Broke before after call pick → StoppedImage gate text (content before) call pick (crash_image after)
  picks call pick broke =
      let one : Broke mid after call pick = record { ordered = ap (λ (x : Lane). x.stop) a.room ∙ broke.ordered; stopped = broke.stopped } in
      subst (λ (c : List ℕ). StoppedImage gate c (content before) call pick (crash_image after)) a.text_is
      (subst (λ (c : List ℕ). StoppedImage gate bytes c call pick (crash_image after)) (ap content a.room) (a.picked call pick one))

  onward : GoesOn before after
  onward = goes_on_then before mid after (goes_on_room n before mid a.room) a.keeps.goes_on

  pub extends_failed : {T : Type 0} → Extends {T = T} gate text before after (Err fault.Disk)
  extends_failed = record {
    written = tt;
    only = tt;
    calls = tt;
    on = onward;
    any_moment = images;
    breaks = λ call pick ordered few. refl;
    picked = picks;
    untouched = λ h. absurd (cc h);
    few = λ h. omega (arith, a.left, ap (λ (x : Lane). x.left) a.room);
    reserved = λ h. a.keeps.reserved ∙ ap (λ (x : Lane). x.reserved) a.room;
    unset = λ h. a.keeps.unset (ap (λ (x : Lane). x.stop) a.room ∙ h);
  }

  pub extends_ok : {T : Type 0} (x : T) → content after ≡ opened_gate gate (behind_gate gate bytes (content mid)) → LeavesOnly after (content after) → after.calls ≡ append_calls gate bytes mid.calls
      → ((call pick : ℕ) → mid.stop ≡ After call pick → call ≤ 4 → false ≡ true) → Extends {T = T} gate text before after (Ok x)
  extends_ok x written only calls breaks = record {
    written = written ∙ (ap (λ (c : List ℕ). opened_gate gate (behind_gate gate bytes c)) (ap content a.room) ∙ ap (λ (b : List ℕ). opened_gate gate (behind_gate gate b (content before))) a.text_is);
    only = only;
    calls = calls ∙ (ap (λ (b : List ℕ). append_calls gate b mid.calls) a.text_is ∙ ap (λ (cs : List Call). append_calls gate text cs) (ap (λ (x : Lane). x.calls) a.room));
    on = onward;
    any_moment = images;
    breaks = λ call pick ordered few. breaks call pick (ap (λ (x : Lane). x.stop) a.room ∙ ordered) few;
    picked = picks;
    untouched = λ h. absurd (cc h);
    few = λ h. absurd (cc h);
    reserved = λ h. a.keeps.reserved ∙ ap (λ (x : Lane). x.reserved) a.room;
    unset = λ h. a.keeps.unset (ap (λ (x : Lane). x.stop) a.room ∙ h);
  }

-- What is known where a lane was to be closed and filled, in the room that was made.
pub record IsRewritten (body text : List ℕ) (before mid after : Lane) (n : ℕ) : Type 0 where
  pub sole : LeavesOnly before (content before)
  pub room : mid ≡ with_room n before
  pub text_is : body ≡ text
  pub keeps : KeepsCalls mid after
  pub any_moment : (n : ℕ) (image : List ℕ) → LeftSince after n image → LeftSince mid n image ⊎ ((image ≡ content mid) ⊎ (IsShut image ⊎ (image ≡ filled body (content mid))))
  pub left : mid.left ≤ after.left + 8

module _ (body text : List ℕ) (before mid after : Lane) (n : ℕ) (r : IsRewritten body text before mid after n) where
  outcomes : (image : List ℕ) → LeftSince after (moment before) image → (image ≡ content before) ⊎ (IsShut image ⊎ (image ≡ filled text (content before)))
  outcomes image left = elim (r.any_moment (moment before) image left) [
    | inl since ↦ inl (r.sole image (in_room before mid n image r.room since))
    | inr (inl e) ↦ inl (e ∙ ap content r.room)
    | inr (inr (inl h)) ↦ inr (inl h)
    | inr (inr (inr e)) ↦ inr (inr (e ∙ (ap (λ (c : List ℕ). filled body c) (ap content r.room) ∙ ap (λ (b : List ℕ). filled b (content before)) r.text_is)))
  ]

  onward_too : GoesOn before after
  onward_too = goes_on_then before mid after (goes_on_room n before mid r.room) r.keeps.goes_on

  pub refills_failed : {T : Type 0} (aside : Aside) → Refills {T = T} aside text before after (Err fault.Disk)
  refills_failed aside = record {
    written = tt;
    only = tt;
    calls = tt;
    on = onward_too;
    any_moment = outcomes;
    untouched = λ h. absurd (cc h);
    few = λ h. omega (arith, r.left, ap (λ (x : Lane). x.left) r.room);
    reserved = λ h. r.keeps.reserved ∙ ap (λ (x : Lane). x.reserved) r.room;
    ready = tt;
    unset = λ h. r.keeps.unset (ap (λ (x : Lane). x.stop) r.room ∙ h);
  }

  pub refills_ok : {T : Type 0} (x : T) (aside : Aside) → content after ≡ filled body (content mid) → LeavesOnly after (content after) → after.calls ≡ rewriting_calls aside body mid.calls
      → Refills {T = T} aside text before after (Ok x)
  refills_ok x aside written only calls = record {
    written = written ∙ (ap (λ (c : List ℕ). filled body c) (ap content r.room) ∙ ap (λ (b : List ℕ). filled b (content before)) r.text_is);
    only = only;
    calls = calls ∙ (ap (λ (b : List ℕ). rewriting_calls aside b mid.calls) r.text_is ∙ ap (λ (cs : List Call). rewriting_calls aside text cs) (ap (λ (x : Lane). x.calls) r.room));
    on = onward_too;
    any_moment = outcomes;
    untouched = λ h. absurd (cc h);
    few = λ h. absurd (cc h);
    reserved = λ h. r.keeps.reserved ∙ ap (λ (x : Lane). x.reserved) r.room;
    ready = r.keeps.reserved ∙ ap (λ (x : Lane). x.reserved) r.room;
    unset = λ h. r.keeps.unset (ap (λ (x : Lane). x.stop) r.room ∙ h);
  }
