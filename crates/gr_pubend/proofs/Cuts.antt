-- What a cut of a log does to its two lanes, whether it is a record or the log written anew
use Rattle.std.proofs.Common.{◌≡◌, ◌⊎◌, inl, ℕ, Bool, true, false, if◌then◌else◌, List, Option, Some, None, Result, Ok, Err, refl, sym, ap, ◌∙◌, subst}
use Rattle.std.specs.Prelude.{IsErrOf, OnOk}
use Rattle.std.proofs.lemmas.Bool.{false≢true}
use Rattle.gr_out.specs.declared.disk.Stop.TheVariants.{Unset}
use Rattle.gr_publog.specs.declared.record.Record.TheVariants as entry
use Rattle.gr_publog.specs.declared.record.LogFault.{LogFault}
use Rattle.gr_publog.specs.declared.record.LogFault.TheVariants as fault
use Rattle.gr_publog.specs.State.{after_record}
use Rattle.gr_publog.specs.Steps.{GoesOn}
use Rattle.gr_publog.specs.Views.{LogView, Lanes, appended, reclaimed, present, other, LeftPair, ReadsAs, Stands, StandsRead, IsReady}
use Rattle.gr_publog.specs.Calls.{Appends, Reclaims}
use Rattle.gr_publog.proofs.Onward.{goes_on_same}
use Rattle.gr_publog.proofs.Passing.{appends_unmade, reclaims_unmade, appends_ok_as, appends_err_as, reclaims_ok_as, reclaims_err_as, still_reads}
use Rattle.gr_pubend.specs.Cuts.{cut_reclaims, cut_view, cut_if, cut_state, Cuts}

module _ {T : Type 0} (l : LogView) (tick reclaim : ℕ) (before after : Lanes) (result : Result T LogFault) where
  -- by a record, and by the log written anew
  pub cuts_recorded : cut_reclaims l reclaim ≡ false → Appends l (Some (entry.Cut tick)) before after result → Cuts l (Some tick) reclaim before after result
  cuts_recorded b a = record {
    none = λ e. absurd (cc e);
    recorded = λ t e no. subst (λ (n : ℕ). Appends l (Some (entry.Cut n)) before after result) (tick_is t e) a;
    reclaimed = λ t e yes. absurd (false≢true (sym b ∙ yes));
  }
    where
      tick_is : (t : ℕ) → ◌≡◌ {A = Option ℕ} (Some tick) (Some t) → tick ≡ t
      tick_is t e = cc

  pub cuts_reclaimed : cut_reclaims l reclaim ≡ true → Reclaims l tick before after result → Cuts l (Some tick) reclaim before after result
  cuts_reclaimed b a = record {
    none = λ e. absurd (cc e);
    recorded = λ t e no. absurd (false≢true (sym no ∙ b));
    reclaimed = λ t e yes. subst (λ (n : ℕ). Reclaims l n before after result) (tick_is t e) a;
  }
    where
      tick_is : (t : ℕ) → ◌≡◌ {A = Option ℕ} (Some tick) (Some t) → tick ≡ t
      tick_is t e = cc

-- a cut in either way
pub by_way : {P : Type 0} (l : LogView) (reclaim : ℕ) → (cut_reclaims l reclaim ≡ false → P) → (cut_reclaims l reclaim ≡ true → P) → P
by_way {P} l reclaim recorded anew = go (cut_reclaims l reclaim) refl
  where
    go : (b : Bool) → cut_reclaims l reclaim ≡ b → P
    go false e = recorded e
    go true e = anew e

-- where nothing is cut
pub cuts_none : {T : Type 0} (l : LogView) (cut : Option ℕ) (reclaim : ℕ) (before after : Lanes) (result : Result T LogFault) → cut ≡ None → after ≡ before → Cuts l cut reclaim before after result
cuts_none l cut reclaim before after result none e = record {
  none = λ h. e;
  recorded = λ t some. absurd (cc (sym none ∙ some));
  reclaimed = λ t some. absurd (cc (sym none ∙ some));
}

-- where memory was refused before the first call
pub cuts_unmade : {T : Type 0} → StandsRead → (l : LogView) (before after : Lanes) → IsReady l before → after ≡ before → (cut : Option ℕ) (reclaim : ℕ)
    → Cuts {T = T} l cut reclaim before after (Err fault.Memory)
cuts_unmade {T} reads l before after ready e cut reclaim = record {
  none = λ h. e;
  recorded = λ t some no. appends_unmade {T = T} reads l before after ready e (Some (entry.Cut t));
  reclaimed = λ t some yes. reclaims_unmade {T = T} reads l before after ready e t;
}

-- the same for another type of answer
module _ {T U : Type 0} (l : LogView) (before after : Lanes) (cut : Option ℕ) (reclaim : ℕ) where
  pub cuts_ok_as : (x : T) (y : U) → Cuts l cut reclaim before after (Ok x) → Cuts l cut reclaim before after (Ok y)
  cuts_ok_as x y c = record {
    none = c.none;
    recorded = λ t some no. appends_ok_as l before after (Some (entry.Cut t)) x y (c.recorded t some no);
    reclaimed = λ t some yes. reclaims_ok_as l before after t x y (c.reclaimed t some yes);
  }

  pub cuts_err_as : (f : LogFault) → Cuts {T = T} l cut reclaim before after (Err f) → Cuts {T = U} l cut reclaim before after (Err f)
  cuts_err_as f c = record {
    none = c.none;
    recorded = λ t some no. appends_err_as {T = T} {U = U} l before after (Some (entry.Cut t)) f (c.recorded t some no);
    reclaimed = λ t some yes. reclaims_err_as {T = T} {U = U} l before after t f (c.reclaimed t some yes);
  }

-- What follows either way

-- the log cut either way holds the same
pub cut_holds : (reclaim tick : ℕ) (l : LogView) → (cut_view reclaim tick l).state ≡ after_record l.state (entry.Cut tick)
cut_holds reclaim tick l = go (cut_reclaims l reclaim)
  where
    go : (b : Bool) → (let v : LogView = if b then reclaimed tick l else appended (entry.Cut tick) l in v.state) ≡ after_record l.state (entry.Cut tick)
    go true = refl
    go false = refl

pub cut_stays : (reclaim tick : ℕ) (l : LogView) → ((cut_view reclaim tick l).lane ≡ l.lane) × ((cut_view reclaim tick l).broken ≡ l.broken)
cut_stays reclaim tick l = go (cut_reclaims l reclaim)
  where
    go : (b : Bool) → (let v : LogView = if b then reclaimed tick l else appended (entry.Cut tick) l in (v.lane ≡ l.lane) × (v.broken ≡ l.broken))
    go true = (refl, refl)
    go false = (refl, refl)

-- by the way it takes
anew_is : (reclaim tick : ℕ) (l : LogView) → cut_reclaims l reclaim ≡ true → reclaimed tick l ≡ cut_view reclaim tick l
anew_is reclaim tick l e = sym (ap (λ (b : Bool). if b then reclaimed tick l else appended (entry.Cut tick) l) e)

noted_is : (reclaim tick : ℕ) (l : LogView) → cut_reclaims l reclaim ≡ false → appended (entry.Cut tick) l ≡ cut_view reclaim tick l
noted_is reclaim tick l e = sym (ap (λ (b : Bool). if b then reclaimed tick l else appended (entry.Cut tick) l) e)

module _ {T : Type 0} (l : LogView) (reclaim : ℕ) (before after : Lanes) (result : Result T LogFault) where
  -- after `Ok` the log stands, cut or not
  pub cuts_stand : (cut : Option ℕ) → Cuts l cut reclaim before after result → IsReady l before → l.broken ≡ false → OnOk result (Stands after (cut_if cut reclaim l))
  cuts_stand None c ready b = on_any result (subst (λ (x : Lanes). Stands x l) (sym (c.none refl)) (ready b))
    where
      on_any : (r : Result T LogFault) → Stands after l → OnOk r (Stands after l)
      on_any (Ok x) s = s
      on_any (Err e) s = tt
  cuts_stand (Some tick) c ready b =
      by_way l reclaim
      (λ no. subst (λ (v : LogView). OnOk result (Stands after v)) (noted_is reclaim tick l no) ((c.recorded tick refl no).stands b))
      (λ yes. subst (λ (v : LogView). OnOk result (Stands after v)) (anew_is reclaim tick l yes) ((c.reclaimed tick refl yes).stands b))

  -- at every moment a crash leaves what was held before, or that with the cut
  pub cuts_read : (cut : Option ℕ) → StandsRead → Cuts l cut reclaim before after result → IsReady l before → l.broken ≡ false → (a b : List ℕ) → LeftPair before after a b
      → ReadsAs l.state a b ⊎ ReadsAs (cut_state cut l.state) a b
  cuts_read None reads c ready broken a b left = inl (still_reads reads l before after (ready broken) (c.none refl) a b left)
  cuts_read (Some tick) reads c ready broken a b left =
      by_way l reclaim (λ no. (c.recorded tick refl no).any_moment broken a b left) (λ yes. (c.reclaimed tick refl yes).any_moment broken a b left)

  -- no call takes an earlier one back
  pub cuts_on : (cut : Option ℕ) → Cuts l cut reclaim before after result → GoesOn (present l before) (present l after) × GoesOn (other l before) (other l after)
  cuts_on None c = (
    goes_on_same (present l before) (present l after) (ap (present l) (c.none refl)),
    goes_on_same (other l before) (other l after) (ap (other l) (c.none refl)),
  )
  cuts_on (Some tick) c =
      by_way l reclaim
      (λ no. ((c.recorded tick refl no).on, goes_on_same (other l before) (other l after) (c.recorded tick refl no).aside))
      (λ yes. (goes_on_same (present l before) (present l after) (c.reclaimed tick refl yes).kept, (c.reclaimed tick refl yes).on))

  -- want of memory comes before the first call
  pub cuts_untouched : (cut : Option ℕ) → Cuts l cut reclaim before after result → IsErrOf result fault.Memory → after ≡ before
  cuts_untouched None c h = c.none refl
  cuts_untouched (Some tick) c h = by_way l reclaim (λ no. (c.recorded tick refl no).untouched h) (λ yes. (c.reclaimed tick refl yes).untouched h)

  -- room and stops, of the present lane and of the other one
  pub cuts_reserved : (cut : Option ℕ) → Cuts l cut reclaim before after result
      → ((present l before).reserved ≡ true → (present l after).reserved ≡ true) × ((other l before).reserved ≡ true → (other l after).reserved ≡ true)
  cuts_reserved None c = (
    λ h. ap (λ (x : Lanes). (present l x).reserved) (c.none refl) ∙ h,
    λ h. ap (λ (x : Lanes). (other l x).reserved) (c.none refl) ∙ h,
  )
  cuts_reserved (Some tick) c =
      by_way l reclaim
      (λ no. ((c.recorded tick refl no).reserved, λ h. ap (λ x. x.reserved) (c.recorded tick refl no).aside ∙ h))
      (λ yes. (λ h. ap (λ x. x.reserved) (c.reclaimed tick refl yes).kept ∙ h, (c.reclaimed tick refl yes).reserved))

  pub cuts_unset : (cut : Option ℕ) → Cuts l cut reclaim before after result
      → ((present l before).stop ≡ Unset → (present l after).stop ≡ Unset) × ((other l before).stop ≡ Unset → (other l after).stop ≡ Unset)
  cuts_unset None c = (
    λ h. ap (λ (x : Lanes). (present l x).stop) (c.none refl) ∙ h,
    λ h. ap (λ (x : Lanes). (other l x).stop) (c.none refl) ∙ h,
  )
  cuts_unset (Some tick) c =
      by_way l reclaim
      (λ no. ((c.recorded tick refl no).unset, λ h. ap (λ x. x.stop) (c.recorded tick refl no).aside ∙ h))
      (λ yes. (λ h. ap (λ x. x.stop) (c.reclaimed tick refl yes).kept ∙ h, (c.reclaimed tick refl yes).unset))
