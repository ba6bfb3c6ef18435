-- A call that did not come to the lanes, and what a call did for another type of answer
use Rattle.std.proofs.Common.{◌≡◌, ℕ, inl, Bool, true, false, not, if◌then◌else◌, List, Option, None, Ok, Err, refl, ap, ap₂, sym, ◌∙◌, subst}
use Rattle.std.specs.Prelude.{IsErrOf}
use Rattle.std.proofs.lemmas.Bool.{false≢true}
use Rattle.gr_out.specs.Lane.{Lane, Call, content, read_after, LeftAfter, LeavesOnly}
use Rattle.gr_publog.specs.declared.record.Record.{Record}
use Rattle.gr_publog.specs.declared.record.LogFault.{LogFault}
use Rattle.gr_publog.specs.declared.record.LogFault.TheVariants as fault
use Rattle.gr_publog.specs.Views.{LogView, Lanes, present, other, MayLeavePair, LeftPair, ReadsAs, IsAside, Stands, StandsRead, IsReady}
use Rattle.gr_publog.specs.Text.{standing_of, IsText}
use Rattle.gr_publog.specs.Calls.{Appends, Reclaims}
use Rattle.gr_publog.proofs.Onward.{goes_on_same}
use Rattle.gr_publog.proofs.Calling.{same_left, none_broke, stands_new}

-- lanes that are as they were are left as they may be now
pub left_still : (before after : Lanes) → after ≡ before → (a b : List ℕ) → LeftPair before after a b → MayLeavePair before a b
left_still before after e a b left = (
  same_left before.first after.first a (ap (λ (x : Lanes). x.first) e) left.0,
  same_left before.second after.second b (ap (λ (x : Lanes). x.second) e) left.1,
)

-- so they hold what they held
pub still_reads : StandsRead → (l : LogView) (before after : Lanes) → Stands before l → after ≡ before → (a b : List ℕ) → LeftPair before after a b → ReadsAs l.state a b
still_reads reads l before after s e a b left = reads before l a b s (left_still before after e a b left)

module _ {T : Type 0} (reads : StandsRead) (l : LogView) (before after : Lanes) (ready : IsReady l before) (e : after ≡ before) where
  -- where memory was refused before the first call
  pub appends_unmade : (logged : Option Record) → Appends {T = T} l logged before after (Err fault.Memory)
  appends_unmade logged = record {
    stands = λ b. tt;
    calls = tt;
    aside = ap (other l) e;
    on = goes_on_same (present l before) (present l after) (ap (present l) e);
    any_moment = λ b x y left. inl (still_reads reads l before after (ready b) e x y left);
    head = λ b image left. ap (standing_of (not l.second)) ((ready b).only image (same_left (present l before) (present l after) image (ap (present l) e) left)) ∙ stands_new l before (ready b);
    breaks = λ some call pick ordered few. refl;
    kept = λ b call pick broke. absurd (none_broke (present l before) (present l after) call pick (ap (λ (x : Lanes). (present l x).stop) e) broke);
    untouched = λ h. e;
    few = λ h. absurd (cc h);
    reserved = λ h. ap (λ (x : Lanes). (present l x).reserved) e ∙ h;
    unset = λ h. ap (λ (x : Lanes). (present l x).stop) e ∙ h;
  }

  pub reclaims_unmade : (tick : ℕ) → Reclaims {T = T} l tick before after (Err fault.Memory)
  reclaims_unmade tick = record {
    stands = λ b. tt;
    calls = tt;
    kept = ap (present l) e;
    on = goes_on_same (other l before) (other l after) (ap (other l) e);
    any_moment = λ b x y left. inl (still_reads reads l before after (ready b) e x y left);
    untouched = λ h. e;
    few = λ h. absurd (cc h);
    reserved = λ h. ap (λ (x : Lanes). (other l x).reserved) e ∙ h;
    unset = λ h. ap (λ (x : Lanes). (other l x).stop) e ∙ h;
  }

  -- where nothing is to be logged
  pub appends_none : (logged : Option Record) (x : T) → logged ≡ None → Appends l logged before after (Ok x)
  appends_none logged x none = subst (λ (o : Option Record). Appends l o before after (Ok x)) (sym none) (record {
    stands = λ b. subst (λ (y : Lanes). Stands y l) (sym e) (ready b);
    calls = ap (λ (y : Lanes). (present l y).calls) e;
    aside = ap (other l) e;
    on = goes_on_same (present l before) (present l after) (ap (present l) e);
    any_moment = λ b a c left. inl (still_reads reads l before after (ready b) e a c left);
    head = λ b image left. ap (standing_of (not l.second)) ((ready b).only image (same_left (present l before) (present l after) image (ap (present l) e) left)) ∙ stands_new l before (ready b);
    breaks = λ some. absurd (false≢true some);
    kept = λ b call pick broke. absurd (none_broke (present l before) (present l after) call pick (ap (λ (x : Lanes). (present l x).stop) e) broke);
    untouched = λ h. absurd (cc h);
    few = λ h. absurd (cc h);
    reserved = λ h. ap (λ (x : Lanes). (present l x).reserved) e ∙ h;
    unset = λ h. ap (λ (x : Lanes). (present l x).stop) e ∙ h;
  })

-- Lanes that made no call in between, whatever room and stop they have

pub record SameCalls (l l' : Lane) : Type 0 where
  pub start : l'.start ≡ l.start
  pub calls : l'.calls ≡ l.calls

same_in_turn : (b : Bool) (x y x' y' : Lane) → SameCalls x x' → SameCalls y y' → SameCalls (if b then y else x) (if b then y' else x')
same_in_turn true x y x' y' p q = q
same_in_turn false x y x' y' p q = p

pub same_content : (l l' : Lane) → SameCalls l l' → content l' ≡ content l
same_content l l' s = ap₂ read_after s.start s.calls

pub same_only : (l l' : Lane) → SameCalls l l' → LeavesOnly l (content l) → LeavesOnly l' (content l')
same_only l l' s only image left =
    only image (subst (λ (cs : List Call). LeftAfter l.start cs image) s.calls (subst (λ (bytes : List ℕ). LeftAfter bytes l'.calls image) s.start left))
    ∙ sym (same_content l l' s)

-- a log stands in them as before
pub stands_with : (l : LogView) (ls ls' : Lanes) → SameCalls ls.first ls'.first → SameCalls ls.second ls'.second → Stands ls l → Stands ls' l
stands_with l ls ls' one two s =
    let here : SameCalls (present l ls) (present l ls') = same_in_turn l.second ls.first ls.second ls'.first ls'.second one two in
    let there : SameCalls (other l ls) (other l ls') = same_in_turn l.second ls.second ls.first ls'.second ls'.first two one in
    record {
      base = s.base;
      records = s.records;
      text = subst (λ (bytes : List ℕ). IsText l.state.late bytes s.base s.records) (sym (same_content (present l ls) (present l ls') here)) s.text;
      state = s.state;
      generation = s.generation;
      size = s.size;
      aside = subst (λ (bytes : List ℕ). IsAside l.aside l.second l.generation bytes) (sym (same_content (other l ls) (other l ls') there)) s.aside;
      only = same_only (present l ls) (present l ls') here s.only;
      only_aside = same_only (other l ls) (other l ls') there s.only_aside;
    }

-- The same for another type of answer

fault_is : {T : Type 0} (f e : LogFault) → IsErrOf {T = T} {E = LogFault} (Err f) e → f ≡ e
fault_is f e h = cc

-- a fault is the same whatever was to be answered
pub same_fault : {T U : Type 0} (f e : LogFault) → IsErrOf {T = T} {E = LogFault} (Err f) e → IsErrOf {T = U} {E = LogFault} (Err f) e
same_fault {T} {U} f e h = ap (λ (x : LogFault). Err x) (fault_is {T = T} f e h)

module _ {T U : Type 0} (l : LogView) (before after : Lanes) where
  pub appends_ok_as : (logged : Option Record) (x : T) (y : U) → Appends l logged before after (Ok x) → Appends l logged before after (Ok y)
  appends_ok_as logged x y a = record {
    stands = a.stands;
    calls = a.calls;
    aside = a.aside;
    on = a.on;
    any_moment = a.any_moment;
    head = a.head;
    breaks = a.breaks;
    kept = a.kept;
    untouched = λ h. absurd (cc h);
    few = λ h. absurd (cc h);
    reserved = a.reserved;
    unset = a.unset;
  }

  pub appends_err_as : (logged : Option Record) (f : LogFault) → Appends {T = T} l logged before after (Err f) → Appends {T = U} l logged before after (Err f)
  appends_err_as logged f a = record {
    stands = a.stands;
    calls = a.calls;
    aside = a.aside;
    on = a.on;
    any_moment = a.any_moment;
    head = a.head;
    breaks = a.breaks;
    kept = a.kept;
    untouched = λ h. a.untouched (same_fault {T = U} f fault.Memory h);
    few = λ h. a.few (same_fault {T = U} f fault.Disk h);
    reserved = a.reserved;
    unset = a.unset;
  }

  pub reclaims_ok_as : (tick : ℕ) (x : T) (y : U) → Reclaims l tick before after (Ok x) → Reclaims l tick before after (Ok y)
  reclaims_ok_as tick x y a = record {
    stands = a.stands;
    calls = a.calls;
    kept = a.kept;
    on = a.on;
    any_moment = a.any_moment;
    untouched = λ h. absurd (cc h);
    few = λ h. absurd (cc h);
    reserved = a.reserved;
    unset = a.unset;
  }

  pub reclaims_err_as : (tick : ℕ) (f : LogFault) → Reclaims {T = T} l tick before after (Err f) → Reclaims {T = U} l tick before after (Err f)
  reclaims_err_as tick f a = record {
    stands = a.stands;
    calls = a.calls;
    kept = a.kept;
    on = a.on;
    any_moment = a.any_moment;
    untouched = λ h. a.untouched (same_fault {T = U} f fault.Memory h);
    few = λ h. a.few (same_fault {T = U} f fault.Disk h);
    reserved = a.reserved;
    unset = a.unset;
  }
