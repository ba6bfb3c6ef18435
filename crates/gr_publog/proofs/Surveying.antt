-- Two lanes are synced, one after the other
use Rattle.std.proofs.Common.{◌≡◌, ◌≢◌, ◌⊎◌, inl, inr, ⊎_elim, ℕ, suc, Bool, true, false, List, ◌∷◌, Result, Ok, Err, refl, ap, sym, ◌∙◌, subst, arith}
use Rattle.std.specs.Prelude.{OnOk, MatchResult}
use Rattle.gr_out.specs.declared.disk.Stop.TheVariants.{Unset}
use Rattle.gr_out.specs.Lane.{Lane, Sync, content, moment, MayLeave, LeftSince, LeavesOnly, after_call, with_room}
use Rattle.gr_publog.specs.declared.record.LogFault.{LogFault}
use Rattle.gr_publog.specs.declared.record.LogFault.TheVariants as fault
use Rattle.gr_publog.specs.declared.head.Standing.{Standing}
use Rattle.gr_publog.specs.Text.{◌>>=◌, standing_of}
use Rattle.gr_publog.specs.Lanes.{present_of, chosen}
use Rattle.gr_publog.specs.Gives.{Fails, Tells}
use Rattle.gr_publog.specs.Views.{lanes_at}
use Rattle.gr_publog.specs.Opens.{Surveys}
use Rattle.gr_publog.specs.Steps.{GoesOn}
use Rattle.gr_publog.proofs.Moments.{only_now, sync_since}
use Rattle.gr_publog.proofs.Onward.{goes_on_same, goes_on_room, goes_on_sync, goes_on_then}

-- One lane

pub no_call : (l l' : Lane) → l' ≡ l → (image : List ℕ) → LeftSince l' (moment l) image → MayLeave l image ⊎ (image ≡ content l)
no_call l l' e image left = inl (only_now l.start l.calls image (subst (λ (x : Lane). LeftSince x (moment l) image) e left))

pub one_sync : (l l1 l2 : Lane) (f : Bool) (n : ℕ) → l1 ≡ with_room n l → l2 ≡ after_call Sync f l1 → (image : List ℕ) → LeftSince l2 (moment l) image → MayLeave l image ⊎ (image ≡ content l)
one_sync l l1 l2 f n e1 e2 image left =
    ⊎_elim (λ before. inl (only_now l.start l.calls image (subst (λ (x : Lane). LeftSince x (moment l) image) e1 before))) (λ is. inr (is ∙ ap content e1)) (sync_since l1 l2 f e2 (moment l) image left)

-- no call takes an earlier one back
pub sync_on : (l l1 l2 : Lane) (f : Bool) (n : ℕ) → l1 ≡ with_room n l → l2 ≡ after_call Sync f l1 → GoesOn l l2
sync_on l l1 l2 f n e1 e2 = goes_on_then l l1 l2 (goes_on_room n l l1 e1) (goes_on_sync f l1 l2 e2)

-- What is known of a lane that was synced, or was to be.
pub record IsSynced {T : Type 0} (l l' : Lane) (result : Result T LogFault) : Type 0 where
  pub same : content l' ≡ content l
  pub on : GoesOn l l'
  pub only : OnOk result (LeavesOnly l' (content l'))
  pub calls : OnOk result (l'.calls ≡ Sync ∷ l.calls)
  pub any_moment : (image : List ℕ) → LeftSince l' (moment l) image → MayLeave l image ⊎ (image ≡ content l)
  pub reserved : OnOk result (l'.reserved ≡ true)
  pub unset : l.stop ≡ Unset → l'.stop ≡ Unset

-- an image of such a lane might have been left before
may : (reads : (l : Lane) → MayLeave l (content l)) (l : Lane) (image : List ℕ) → MayLeave l image ⊎ (image ≡ content l) → MayLeave l image
may reads l image (inl m) = m
may reads l image (inr e) = subst (MayLeave l) (sym e) (reads l)

other_is : (lane k : ℕ) → k ≡ suc lane → lane ≢ k
other_is lane k is e = omega (arith, is, e)

next_is_other : (lane k : ℕ) → k ≡ suc lane → suc lane ≢ lane
next_is_other lane k is e = omega (arith, e)

-- Both

-- where the first was not synced
pub surveys_first : {T : Type 0} (reads : (l : Lane) → MayLeave l (content l)) (f f1 : ℕ → Lane) (lane : ℕ) (e : LogFault) → IsSynced {T = T} (f lane) (f1 lane) (Err e)
    → ((n : ℕ) → n ≢ lane → f1 n ≡ f n) → Surveys {T = T} (lanes_at f lane) (lanes_at f1 lane) (Err e)
surveys_first reads f f1 lane e s others =
    let same : f1 (suc lane) ≡ f (suc lane) = others (suc lane) (next_is_other lane (suc lane) refl) in
    record {
      first = s.same;
      second = ap content same;
      on_first = s.on;
      on_second = goes_on_same (f (suc lane)) (f1 (suc lane)) same;
      only = tt;
      any_moment = λ a b left. (may reads (f lane) a (s.any_moment a left.0), may reads (f (suc lane)) b (no_call (f (suc lane)) (f1 (suc lane)) same b left.1));
      calls = tt;
      reserved = tt;
      unset_first = s.unset;
      unset_second = λ h. ap (λ (x : Lane). x.stop) same ∙ h;
    }

-- two facts on an answer that is Ok
both_ok : {T : Type 0} (P Q : Type 0) (r : Result T LogFault) → P → OnOk r Q → OnOk r (P × Q)
both_ok P Q (Ok x) p q = (p, q)
both_ok P Q (Err e) p q = tt

-- where it was, whatever came of the second
pub surveys_second : {T U : Type 0} (reads : (l : Lane) → MayLeave l (content l)) (f f1 f2 : ℕ → Lane) (lane k : ℕ) (u : U) (result : Result T LogFault) → k ≡ suc lane → IsSynced (f lane) (f1 lane) (Ok u)
    → ((n : ℕ) → n ≢ lane → f1 n ≡ f n) → IsSynced (f1 k) (f2 k) result → ((n : ℕ) → n ≢ k → f2 n ≡ f1 n) → Surveys (lanes_at f lane) (lanes_at f2 lane) result
surveys_second reads f f1 f2 lane k u result is s1 others1 s2 others2 =
    let first_same : f2 lane ≡ f1 lane = others2 lane (other_is lane k is) in
    let begun : f1 k ≡ f (suc lane) = ap f1 is ∙ others1 (suc lane) (next_is_other lane k is) in
    let ended : f2 k ≡ f2 (suc lane) = ap f2 is in
    let second : IsSynced (f (suc lane)) (f2 (suc lane)) result = subst (λ (x : Lane). IsSynced (f (suc lane)) x result) ended (subst (λ (x : Lane). IsSynced x (f2 k) result) begun s2) in
    record {
      first = ap content first_same ∙ s1.same;
      second = second.same;
      on_first = subst (λ (x : Lane). GoesOn (f lane) x) (sym first_same) s1.on;
      on_second = second.on;
      only = both_ok (LeavesOnly (f2 lane) (content (f2 lane))) (LeavesOnly (f2 (suc lane)) (content (f2 (suc lane)))) result (subst (λ (x : Lane). LeavesOnly x (content x)) (sym first_same) s1.only) second.only;
      any_moment = λ a b left.
          (may reads (f lane) a (s1.any_moment a (subst (λ (x : Lane). LeftSince x (moment (f lane)) a) first_same left.0)), may reads (f (suc lane)) b (second.any_moment b left.1));
      calls = both_ok ((f2 lane).calls ≡ Sync ∷ (f lane).calls) ((f2 (suc lane)).calls ≡ Sync ∷ (f (suc lane)).calls) result (ap (λ (x : Lane). x.calls) first_same ∙ s1.calls) second.calls;
      reserved = both_ok ((f2 lane).reserved ≡ true) ((f2 (suc lane)).reserved ≡ true) result (ap (λ (x : Lane). x.reserved) first_same ∙ s1.reserved) second.reserved;
      unset_first = λ h. ap (λ (x : Lane). x.stop) first_same ∙ s1.unset h;
      unset_second = second.unset;
    }

-- Readers one after another

-- what a reader of bytes answers, as one of a lane does
pub fails_tells : {X : Type 0} (f : LogFault) (read read' : Result X ℕ) → read ≡ read' → Fails f read → Tells f read'
fails_tells fault.Memory read read' e h = tt
fails_tells fault.Disk read read' e h = absurd h
fails_tells (fault.Damaged at) read read' e h = sym e ∙ h
fails_tells fault.Reopen read read' e h = absurd h

pub tells_as : {X : Type 0} (r : Result X LogFault) (read read' : Result X ℕ) → read ≡ read' → MatchResult r (λ x. read ≡ Ok x) (λ f. Fails f read) → MatchResult r (λ x. read' ≡ Ok x) (λ f. Tells f read')
tells_as (Ok x) read read' e h = sym e ∙ h
tells_as (Err f) read read' e h = fails_tells f read read' e h

-- a fault of the first of two readers
pub tells_on : {X Y : Type 0} (e : LogFault) (read : Result X ℕ) (f : X → Result Y ℕ) → Tells e read → Tells e (read >>= f)
tells_on fault.Memory read f h = tt
tells_on fault.Disk read f h = tt
tells_on (fault.Damaged at) read f h = ap (λ r. r >>= f) h
tells_on fault.Reopen read f h = absurd h

-- of the second
pub tells_then : {X Y : Type 0} (e : LogFault) (read : Result X ℕ) (f : X → Result Y ℕ) (x : X) → read ≡ Ok x → Tells e (f x) → Tells e (read >>= f)
tells_then e read f x is h = subst (λ r. Tells e (r >>= f)) (sym is) h

pub tells_first : (e : LogFault) (a b : List ℕ) → Tells e (standing_of true a) → Tells e (present_of a b)
unfolding present_of
tells_first e a b h = tells_on e (standing_of true a) (λ x. standing_of false b >>= λ y. chosen x y) h

pub tells_second : (e : LogFault) (a b : List ℕ) (x : Standing) → standing_of true a ≡ Ok x → Tells e (standing_of false b) → Tells e (present_of a b)
unfolding present_of
tells_second e a b x is h = tells_then e (standing_of true a) (λ x. standing_of false b >>= λ y. chosen x y) x is (tells_on e (standing_of false b) (λ y. chosen x y) h)
