-- What a call leaves of two lanes: the same whatever it was to answer, and of two calls what the second leaves
use Rattle.std.proofs.Common.{◌≡◌, ◌⊎◌, inl, inr, ⊎_elim, ℕ, suc, Bool, true, false, if◌then◌else◌, ◌||◌, Option, Result, Ok, Err, OnOk, refl, ap, sym, subst, ◌∙◌}
use Rattle.std.specs.Prelude.{IsErrOf}
use Rattle.std.proofs.lemmas.Bool.{true≢false}
use Rattle.gr_out.specs.Faults.{Rose}
use Rattle.gr_out.specs.Stops.{StaysFaultless}
use Rattle.gr_out.specs.Lane.{Lane, has_stopped}
use Rattle.gr_publog.specs.declared.record.Record.{Record}
use Rattle.gr_publog.specs.declared.record.LogFault.{LogFault}
use Rattle.gr_publog.specs.declared.record.LogFault.TheVariants as fault
use Rattle.gr_publog.specs.Steps.{GoesOn}
use Rattle.gr_publog.specs.Views.{LogView, Lanes, lanes_at, number_of, failed, other, Stands, IsReady}
use Rattle.gr_publog.specs.Calls.{Appends, Tally, Leaves, LeavesDisk}
use Rattle.gr_publog.proofs.Passing.{same_fault}
use Rattle.gr_publog.proofs.Onward.{goes_on_same, goes_on_then}
use Rattle.gr_pubend.specs.Cuts.{Cuts}
use Rattle.gr_pubend.proofs.Cuts.{cuts_on}
use Rattle.gr_broker.specs.Lanes.{GoesOnBoth, either_stopped}
use Rattle.gr_broker.specs.Keeps.{UsesLane, UsesLog}

-- One call after another

-- a disk that stays faultless
pub faultless_on : (a b c : Type 0) (f g h : ℕ) → StaysFaultless a b f g → StaysFaultless b c g h → StaysFaultless a c f h
faultless_on a b c f g h x y = record { stays = λ z. y.stays (x.stays z); same_faults = λ z. y.same_faults (x.stays z) ∙ x.same_faults z }

-- two lanes on which calls stay called
pub both_then : (a b c : Lanes) → GoesOnBoth a b → GoesOnBoth b c → GoesOnBoth a c
both_then a b c x y = record {
  first = goes_on_then a.first b.first c.first x.first y.first;
  second = goes_on_then a.second b.second c.second x.second y.second;
}

-- lanes that are as they were
pub both_same : (a b : Lanes) → b ≡ a → GoesOnBoth a b
both_same a b e = record {
  first = goes_on_same a.first b.first (ap (λ (x : Lanes). x.first) e);
  second = goes_on_same a.second b.second (ap (λ (x : Lanes). x.second) e);
}

-- A call on a log

-- it fails for a stop of one of its two lanes where it fails for a stop of one
stops_either : (second : Bool) (x y : Lane) → (let l : Lane = if second then y else x in has_stopped l.stop ≡ true) → (has_stopped x.stop || has_stopped y.stop) ≡ true
stops_either false x y e = ap (λ (b : Bool). b || has_stopped y.stop) e
stops_either true x y e = ap (λ (b : Bool). has_stopped x.stop || b) e ∙ or_true (has_stopped x.stop)
  where
    or_true : (b : Bool) → (b || true) ≡ true
    or_true true = refl
    or_true false = refl

numbered : (lanes : ℕ → Lane) (lane : ℕ) (second : Bool) → lanes (number_of lane second) ≡ (if second then lanes (suc lane) else lanes lane)
numbered lanes lane false = refl
numbered lanes lane true = refl

pub stopped_either : {S T : Type 0} {tells : Type 0} {faultless : S → Type 0} {lane_of : S → ℕ → Lane} {faults stops : S → ℕ} {lane : ℕ} {a b : S} {result : Result T LogFault} (second : Bool)
    → LeavesDisk tells faultless lane_of faults stops lane (has_stopped (lane_of b (number_of lane second)).stop) a b result
    → LeavesDisk tells faultless lane_of faults stops lane (either_stopped (lanes_at (lane_of b) lane)) a b result
stopped_either {S} {T} {tells} {faultless} {lane_of} {faults} {stops} {lane} {a} {b} {result} second k = record {
  tally = k.tally;
  faultless_stays = k.faultless_stays;
  causes = λ t. let j = k.causes t in record { why = λ e. ⊎_elim (λ s. inl (either s)) (λ r. inr r) (j.why e); by_stop = λ none e. either (j.by_stop none e) };
  idle = k.idle;
  others = k.others;
}
  where
    either : has_stopped (lane_of b (number_of lane second)).stop ≡ true → either_stopped (lanes_at (lane_of b) lane) ≡ true
    either s = stops_either second (lane_of b lane) (lane_of b (suc lane)) (ap (λ (l : Lane). has_stopped l.stop) (sym (numbered (lane_of b) lane second)) ∙ s)

-- what was called on its lanes stays called
both_of : (second : Bool) (before after : Lanes) → GoesOn (if second then before.second else before.first) (if second then after.second else after.first)
    → GoesOn (if second then before.first else before.second) (if second then after.first else after.second) → GoesOnBoth before after
both_of false before after p o = record { first = p; second = o }
both_of true before after p o = record { first = o; second = p }

pub appends_both : {T : Type 0} (l : LogView) (logged : Option Record) (before after : Lanes) (result : Result T LogFault) → Appends l logged before after result → GoesOnBoth before after
appends_both l logged before after result k = both_of l.second before after k.on (goes_on_same (other l before) (other l after) k.aside)

pub cuts_both : {T : Type 0} (l : LogView) (cut : Option ℕ) (reclaim : ℕ) (before after : Lanes) (result : Result T LogFault) → Cuts l cut reclaim before after result → GoesOnBoth before after
cuts_both l cut reclaim before after result k = let on = cuts_on l reclaim before after result cut k in both_of l.second before after on.0 on.1

-- and it is ready for the next call
pub ready_after : {T : Type 0} (l l' next : LogView) (lanes lanes' : ℕ → Lane) (result : Result T LogFault) → IsReady l (lanes_at lanes l.lane) → Leaves l next (failed l) l' result
    → next.lane ≡ l.lane → next.broken ≡ l.broken → (l.broken ≡ false → OnOk result (Stands (lanes_at lanes' l.lane) next))
    → (IsErrOf result fault.Memory → lanes_at lanes' l.lane ≡ lanes_at lanes l.lane) → (IsErrOf result fault.Reopen → lanes_at lanes' l.lane ≡ lanes_at lanes l.lane) → IsReady l' (lanes_at lanes' l'.lane)
ready_after l l' next lanes lanes' (Ok x) ready k lane broken stands memory closed =
    subst (λ (m : LogView). IsReady m (lanes_at lanes' m.lane)) (sym k.ok) (λ b. subst (λ (n : ℕ). Stands (lanes_at lanes' n) next) (sym lane) (stands (sym broken ∙ b)))
ready_after l l' next lanes lanes' (Err fault.Memory) ready k lane broken stands memory closed =
    subst (λ (m : LogView). IsReady m (lanes_at lanes' m.lane)) (sym (k.memory refl)) (subst (λ (ls : Lanes). IsReady l ls) (sym (memory refl)) ready)
ready_after l l' next lanes lanes' (Err fault.Reopen) ready k lane broken stands memory closed =
    subst (λ (m : LogView). IsReady m (lanes_at lanes' m.lane)) (sym (k.closed refl)) (subst (λ (ls : Lanes). IsReady l ls) (sym (closed refl)) ready)
ready_after l l' next lanes lanes' (Err fault.Disk) ready k lane broken stands memory closed =
    subst (λ (m : LogView). IsReady m (lanes_at lanes' m.lane)) (sym (k.failed refl)) (λ b. absurd (true≢false b))
ready_after l l' next lanes lanes' (Err (fault.Damaged at)) ready k lane broken stands memory closed = absurd (k.never_damaged at refl)

-- What a call leaves of a disk

-- of one of the two lanes by its number, and of what the log then is
pub log_uses : {S T : Type 0} {tells : Type 0} {faultless : S → Type 0} {lane_of : S → ℕ → Lane} {faults stops : S → ℕ} (a b : S) (l l' next : LogView) (second : Bool) (result : Result T LogFault)
    → (tells → IsReady l (lanes_at (lane_of a) l.lane)) → Leaves l next (failed l) l' result → next.lane ≡ l.lane → next.broken ≡ l.broken
    → LeavesDisk tells faultless lane_of faults stops l.lane (has_stopped (lane_of b (number_of l.lane second)).stop) a b result
    → (tells → GoesOnBoth (lanes_at (lane_of a) l.lane) (lanes_at (lane_of b) l.lane))
    → (tells → l.broken ≡ false → OnOk result (Stands (lanes_at (lane_of b) l.lane) next))
    → (tells → IsErrOf result fault.Memory → lanes_at (lane_of b) l.lane ≡ lanes_at (lane_of a) l.lane)
    → UsesLog tells faultless lane_of faults stops a b l l' result
log_uses {S} {T} {tells} {faultless} {lane_of} {faults} {stops} a b l l' next second result ready left lane broken disk on stands untouched = record {
  lane = record {
    disk = stopped_either second disk;
    goes_on = on;
  };
  stands = λ t. ready_after l l' next (lane_of a) (lane_of b) result (ready t) left lane broken (stands t) (untouched t) (λ h. ap (λ (d : S). lanes_at (lane_of d) l.lane) (disk.idle h));
}

module _ {S T U : Type 0} {tells : Type 0} {faultless : S → Type 0} {lane_of : S → ℕ → Lane} {faults stops : S → ℕ} {lane : ℕ} where
  -- another answer, or the same fault
  pub uses_ok_as : {a b : S} (x : T) (y : U) → UsesLane {T = T} tells faultless lane_of faults stops lane a b (Ok x) → UsesLane {T = U} tells faultless lane_of faults stops lane a b (Ok y)
  uses_ok_as x y k = record {
    disk = record {
      tally = record {
        faults_never_fall = k.disk.tally.faults_never_fall;
        stops_never_fall = k.disk.tally.stops_never_fall;
        rose = λ h. absurd (cc h);
        same = λ u. k.disk.tally.same tt;
      };
      faultless_stays = k.disk.faultless_stays;
      causes = λ t. record { why = λ h. absurd (cc h); by_stop = λ none h. absurd (cc h) };
      idle = λ h. absurd (cc h);
      others = k.disk.others;
    };
    goes_on = k.goes_on;
  }

  pub uses_err_as : {a b : S} (e : LogFault) → UsesLane {T = T} tells faultless lane_of faults stops lane a b (Err e) → UsesLane {T = U} tells faultless lane_of faults stops lane a b (Err e)
  uses_err_as e k = record {
    disk = record {
      tally = record {
        faults_never_fall = k.disk.tally.faults_never_fall;
        stops_never_fall = k.disk.tally.stops_never_fall;
        rose = λ h. k.disk.tally.rose (same_fault {T = U} e fault.Disk h);
        same = k.disk.tally.same;
      };
      faultless_stays = k.disk.faultless_stays;
      causes = λ t. let j = k.disk.causes t in record {
        why = λ h. j.why (same_fault {T = U} e fault.Disk h);
        by_stop = λ none h. j.by_stop none (same_fault {T = U} e fault.Disk h);
      };
      idle = λ h. k.disk.idle (same_fault {T = U} e fault.Reopen h);
      others = k.disk.others;
    };
    goes_on = k.goes_on;
  }

  -- one call after another that came through
  pub uses_then : {a b c : S} (x : T) (result : Result U LogFault) → UsesLane {T = T} tells faultless lane_of faults stops lane a b (Ok x) → UsesLane {T = U} tells faultless lane_of faults stops lane b c result → (IsErrOf result fault.Reopen → c ≡ a) →
      UsesLane {T = U} tells faultless lane_of faults stops lane a c result
  uses_then {a} {b} {c} x result one two idle =
      let first = one.disk in
      let next = two.disk in
      let same = first.tally.same tt in
      record {
        disk = record {
          tally = subst (λ (n : ℕ). Tally n (stops a) (faults c) (stops c) result) same.0 (subst (λ (n : ℕ). Tally (faults b) n (faults c) (stops c) result) same.1 next.tally);
          faultless_stays = faultless_on (faultless a) (faultless b) (faultless c) (faults a) (faults b) (faults c) first.faultless_stays next.faultless_stays;
          causes = λ t. let k = next.causes t in record {
            why = subst (λ (n : ℕ). IsErrOf result fault.Disk → (either_stopped (lanes_at (lane_of c) lane) ≡ true) ⊎ Rose n (faults c)) same.0 k.why;
            by_stop = λ none. k.by_stop (first.faultless_stays.stays none);
          };
          idle = idle;
          others = λ t n other. next.others t n other ∙ first.others t n other;
        };
        goes_on = λ t. both_then (lanes_at (lane_of a) lane) (lanes_at (lane_of b) lane) (lanes_at (lane_of c) lane) (one.goes_on t) (two.goes_on t);
      }
