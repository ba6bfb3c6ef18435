-- The lanes of a log by their numbers
use Rattle.std.proofs.Common.{◌≡◌, ◌≢◌, ℕ, suc, ◌+◌, ◌<◌, ◌≤◌, Bool, true, false, not, if◌then◌else◌, List, [], ◌∷◌, ◌++◌, length, Some, Result, Ok, Err, refl, ap, sym, ◌∙◌, subst, arith, le-leb, lt-ltb}
use Rattle.gr_out.specs.Lane.{Lane, content, LeavesOnly}
use Rattle.gr_publog.specs.declared.record.Record.{Record}
use Rattle.gr_publog.specs.declared.record.Record.TheVariants.{Cut}
use Rattle.gr_publog.specs.declared.record.LogFault.{LogFault}
use Rattle.gr_publog.specs.declared.record.LogFault.TheVariants as fault
use Rattle.gr_publog.specs.declared.steps.Aside.{Aside}
use Rattle.gr_publog.specs.State.{LogState, empty_state, after_record, may_follow, IsSound, IsState, max_tick}
use Rattle.gr_publog.specs.Text.{record_bytes}
use Rattle.gr_publog.specs.Lanes.{state_text}
use Rattle.gr_publog.specs.Rewrite.{Reclaiming, ShutIs, TwoAre, LowerIs}
use Rattle.gr_publog.specs.Filled.{body_of}
use Rattle.gr_publog.specs.Crash.{GaveUp, is_disk}
use Rattle.gr_publog.specs.Steps.{StandsAs, Extends, Refills}
use Rattle.gr_publog.specs.Views.{LogView, failed, lanes_at, number_of, present, other, AwayFrom, Stands}
use Rattle.gr_publog.specs.Calls.{Appends, Reclaims, Leaves}
use Rattle.gr_publog.proofs.Presence.{stands_as}
use Rattle.gr_publog.proofs.Calling.{appends_of, gate_in}
use Rattle.gr_publog.proofs.Refilling.{reclaims_of}

at_number : (f : ℕ → Lane) (n : ℕ) (b : Bool) → (if b then f (suc n) else f n) ≡ f (number_of n b)
at_number f n true = refl
at_number f n false = refl

not_at_number : (f : ℕ → Lane) (n : ℕ) (b : Bool) → (if b then f n else f (suc n)) ≡ f (number_of n (not b))
not_at_number f n true = refl
not_at_number f n false = refl

pub present_at : (f : ℕ → Lane) (l : LogView) (k : ℕ) → k ≡ number_of l.lane l.second → present l (lanes_at f l.lane) ≡ f k
present_at f l k e = at_number f l.lane l.second ∙ ap f (sym e)

pub other_at : (f : ℕ → Lane) (l : LogView) (k : ℕ) → k ≡ number_of l.lane (not l.second) → other l (lanes_at f l.lane) ≡ f k
other_at f l k e = not_at_number f l.lane l.second ∙ ap f (sym e)

apart : (n : ℕ) (b : Bool) → number_of n (not b) ≢ number_of n b
apart n true e = omega (arith, e)
apart n false e = omega (arith, e)

apart_too : (n : ℕ) (b : Bool) → number_of n b ≢ number_of n (not b)
apart_too n true e = omega (arith, e)
apart_too n false e = omega (arith, e)

-- a lane that is neither
pub away : (lane n k : ℕ) (b : Bool) → k ≡ number_of lane b → AwayFrom lane n → n ≢ k
away lane n k true e a h = a.1 (h ∙ e)
away lane n k false e a h = a.0 (h ∙ e)

-- An append to the lane with the number of the present one

module _ {T : Type 0} (l : LogView) (r : Record) (f f' : ℕ → Lane) (k gate : ℕ) (result : Result T LogFault) (is : k ≡ number_of l.lane l.second) (others : (n : ℕ) → n ≢ k → f' n ≡ f n) where
  pub appends_at : ShutIs → TwoAre → LowerIs → Stands (lanes_at f l.lane) l → gate + 1 ≡ l.size → may_follow l.state r ≡ true → IsSound r → Extends gate (record_bytes r ++ 0 ∷ []) (f k) (f' k) result
      → Appends l (Some r) (lanes_at f l.lane) (lanes_at f' l.lane) result
  appends_at shut_is two lower stands place ok sound extends =
      appends_of l r (lanes_at f l.lane) (lanes_at f' l.lane) gate result (record {
        shut_is = shut_is;
        two = two;
        lower = lower;
        stands = stands;
        beside = other_at f' l (number_of l.lane (not l.second)) refl ∙ (others (number_of l.lane (not l.second)) (λ e. apart l.lane l.second (e ∙ is)) ∙ sym (other_at f l (number_of l.lane (not l.second)) refl));
        place = place;
        ok = ok;
        sound = sound;
        extends = subst (λ (x : Lane). Extends gate (record_bytes r ++ 0 ∷ []) x (present l (lanes_at f' l.lane)) result) (sym (present_at f l k is))
            (subst (λ (x : Lane). Extends gate (record_bytes r ++ 0 ∷ []) (f k) x result) (sym (present_at f' l k is)) extends);
      })

pub stands_present : (l : LogView) (f : ℕ → Lane) (k : ℕ) → k ≡ number_of l.lane l.second → Stands (lanes_at f l.lane) l → LeavesOnly (f k) (content (f k))
stands_present l f k is s = subst (λ (x : Lane). LeavesOnly x (content x)) (present_at f l k is) s.only

pub gate_within : (l : LogView) (f : ℕ → Lane) (k gate : ℕ) → k ≡ number_of l.lane l.second → gate + 1 ≡ l.size → Stands (lanes_at f l.lane) l → gate < length (content (f k))
gate_within l f k gate is place s = subst (λ (x : Lane). gate < length (content x)) (present_at f l k is) (gate_in l (lanes_at f l.lane) gate place s)

-- A reclaiming into the other one

module _ {T : Type 0} (l : LogView) (tick : ℕ) (f f' : ℕ → Lane) (k : ℕ) (result : Result T LogFault) (is : k ≡ number_of l.lane (not l.second)) (others : (n : ℕ) → n ≢ k → f' n ≡ f n) where
  pub reclaims_at : ShutIs → TwoAre → LowerIs → Reclaiming (empty_state l.state.late) (state_text l.state.late) → Stands (lanes_at f l.lane) l → 1 ≤ l.generation → suc l.generation ≤ max_tick → IsState (after_record l.state (Cut tick))
      → Refills l.aside (body_of (after_record l.state (Cut tick)) (suc l.generation)) (f k) (f' k) result → Reclaims l tick (lanes_at f l.lane) (lanes_at f' l.lane) result
  reclaims_at shut_is two lower reclaims stands low high state refills =
      let body : List ℕ = body_of (after_record l.state (Cut tick)) (suc l.generation) in
      reclaims_of l tick (lanes_at f l.lane) (lanes_at f' l.lane) result (record {
        shut_is = shut_is;
        two = two;
        lower = lower;
        reclaims = reclaims;
        stands = stands;
        kept = present_at f' l (number_of l.lane l.second) refl ∙ (others (number_of l.lane l.second) (λ e. apart_too l.lane l.second (e ∙ is)) ∙ sym (present_at f l (number_of l.lane l.second) refl));
        low = low;
        high = high;
        state = state;
        refills = subst (λ (x : Lane). Refills l.aside body x (other l (lanes_at f' l.lane)) result) (sym (other_at f l k is)) (subst (λ (x : Lane). Refills l.aside body (f k) x result) (sym (other_at f' l k is)) refills);
      })

pub stands_other : (l : LogView) (f : ℕ → Lane) (k : ℕ) → k ≡ number_of l.lane (not l.second) → Stands (lanes_at f l.lane) l → LeavesOnly (f k) (content (f k))
stands_other l f k is s = subst (λ (x : Lane). LeavesOnly x (content x)) (other_at f l k is) s.only_aside

pub other_stands_as : (l : LogView) (f : ℕ → Lane) (k : ℕ) → k ≡ number_of l.lane (not l.second) → Stands (lanes_at f l.lane) l → StandsAs l.aside (content (f k))
other_stands_as l f k is s = subst (λ (x : Lane). StandsAs l.aside (content x)) (other_at f l k is) (stands_as l.aside l.second l.generation (content (other l (lanes_at f l.lane))) s.aside)

-- The same for another type of answer

pub extends_ok_as : {T U : Type 0} (gate : ℕ) (bytes : List ℕ) (l l' : Lane) (x : T) (y : U) → Extends gate bytes l l' (Ok x) → Extends gate bytes l l' (Ok y)
extends_ok_as gate bytes l l' x y e = record {
  written = e.written;
  only = e.only;
  calls = e.calls;
  on = e.on;
  any_moment = e.any_moment;
  breaks = e.breaks;
  picked = e.picked;
  untouched = λ h. absurd (cc h);
  few = λ h. absurd (cc h);
  reserved = e.reserved;
  unset = e.unset;
}

pub extends_err_as : {T U : Type 0} (gate : ℕ) (bytes : List ℕ) (l l' : Lane) (x : LogFault) → Extends {T = T} gate bytes l l' (Err x) → Extends {T = U} gate bytes l l' (Err x)
extends_err_as {T} {U} gate bytes l l' x e = record {
  written = tt;
  only = tt;
  calls = tt;
  on = e.on;
  any_moment = e.any_moment;
  breaks = λ call pick ordered few. refl;
  picked = e.picked;
  untouched = λ h. e.untouched (ap (λ (y : LogFault). Err y) (fault_of x fault.Memory h));
  few = λ h. e.few (ap (λ (y : LogFault). Err y) (fault_of x fault.Disk h));
  reserved = e.reserved;
  unset = e.unset;
}
  where
    fault_of : (x y : LogFault) → ◌≡◌ {A = Result U LogFault} (Err x) (Err y) → x ≡ y
    fault_of x y h = cc

pub refills_ok_as : {T U : Type 0} (aside : Aside) (body : List ℕ) (l l' : Lane) (x : T) (y : U) → Refills aside body l l' (Ok x) → Refills aside body l l' (Ok y)
refills_ok_as aside body l l' x y e = record {
  written = e.written;
  only = e.only;
  calls = e.calls;
  on = e.on;
  any_moment = e.any_moment;
  untouched = λ h. absurd (cc h);
  few = λ h. absurd (cc h);
  reserved = e.reserved;
  ready = e.ready;
  unset = e.unset;
}

-- What a fault leaves in memory

pub leaves_fault : {T : Type 0} (U : Type 0) (x : LogFault) (l l' logged : LogView) → GaveUp {X = U} (Err x) → l.broken ≡ false
    → l' ≡ record { lane = l.lane; state = l.state; broken = is_disk x; second = l.second; generation = l.generation; size = l.size; aside = l.aside } → Leaves {T = T} l logged (failed l) l' (Err x)
leaves_fault U fault.Memory l l' logged gave whole e = record {
  ok = tt;
  memory = λ h. e ∙ ap (λ (b : Bool). let v : LogView = record { lane = l.lane; state = l.state; broken = b; second = l.second; generation = l.generation; size = l.size; aside = l.aside } in v) (sym whole);
  closed = λ h. absurd (cc h);
  failed = λ h. absurd (cc h);
  never_damaged = λ at h. cc h;
}
leaves_fault U fault.Disk l l' logged gave whole e = record { ok = tt; memory = λ h. absurd (cc h); closed = λ h. absurd (cc h); failed = λ h. e; never_damaged = λ at h. cc h }
leaves_fault U (fault.Damaged at) l l' logged gave whole e = absurd gave
leaves_fault U fault.Reopen l l' logged gave whole e = absurd gave

-- and what an answer that is Ok does
pub leaves_ok : {T : Type 0} (x : T) (l l' logged broken : LogView) → l' ≡ logged → Leaves {T = T} l logged broken l' (Ok x)
leaves_ok x l l' logged broken e = record { ok = e; memory = λ h. absurd (cc h); closed = λ h. absurd (cc h); failed = λ h. absurd (cc h); never_damaged = λ at h. cc h }

pub may_cut_is : (s : LogState) (tick : ℕ) → s.cut < tick → tick ≤ s.settled → may_follow s (Cut tick) ≡ true
may_cut_is s tick low high = rw (lt-ltb s.cut tick low, le-leb tick s.settled high) refl
