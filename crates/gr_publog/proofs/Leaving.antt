-- What a call on a log leaves of its disk, by what the call within it leaves
use Rattle.std.proofs.Common.{◌≡◌, ◌⊎◌, ℕ, Bool, true, Result, Ok, Err, ap, sym, ◌∙◌, subst}
use Rattle.std.specs.Prelude.{IsErrOf}
use Rattle.gr_out.specs.Faults.{Rose}
use Rattle.gr_out.specs.Lane.{Lane, has_stopped}
use Rattle.gr_publog.specs.declared.record.LogFault.{LogFault}
use Rattle.gr_publog.specs.declared.record.LogFault.TheVariants as fault
use Rattle.gr_publog.specs.Gives.{IsNoReopen}
use Rattle.gr_publog.specs.Crash.{GaveUp}
use Rattle.gr_publog.specs.Views.{lanes_at, number_of}
use Rattle.gr_publog.specs.Opens.{EitherStopped, either_stopped}
use Rattle.gr_publog.specs.Calls.{Tally, LeavesDisk}
use Rattle.gr_publog.specs.Uses.{ChangesLane, UsesLanes}
use Rattle.gr_publog.proofs.Passing.{same_fault}
use Rattle.gr_publog.proofs.Numbered.{away}
use Rattle.gr_publog.proofs.Choosing.{causes_of}

-- a call that gave up does not ask for an opening
no_reopen : (T : Type 0) (e : LogFault) → GaveUp {X = T} (Err e) → e ≡ fault.Reopen → ⊥
no_reopen T e gave is = subst (λ (x : LogFault). GaveUp {X = T} (Err x)) is gave

fault_of : {T : Type 0} (e x : LogFault) → IsErrOf {T = T} {E = LogFault} (Err e) x → e ≡ x
fault_of e x h = cc

-- the lane that is called, by its number
stop_at : (lanes : ℕ → Lane) (lane n : ℕ) (second : Bool) → n ≡ number_of lane second → has_stopped (lanes n).stop ≡ has_stopped (lanes (number_of lane second)).stop
stop_at lanes lane n second is = ap (λ (m : ℕ). has_stopped (lanes m).stop) is

module _ {S T U : Type 0} {tells : Type 0} {faultless : S → Type 0} {lane_of : S → ℕ → Lane} {faults stops : S → ℕ} {lane : ℕ} where
  -- An opening: its syncs failed, or what comes behind them answers

  pub opening_failed : {a b : S} (e : LogFault) → GaveUp {X = T} (Err e) → UsesLanes {T = T} tells faultless lane_of faults stops lane a b (Err e)
      → LeavesDisk {T = U} tells faultless lane_of faults stops lane (either_stopped (lanes_at (lane_of b) lane)) a b (Err e)
  opening_failed {a} {b} e gave k = record {
    tally = record {
      faults_never_fall = k.tally.faults_never_fall;
      stops_never_fall = k.tally.stops_never_fall;
      rose = λ h. k.tally.rose (same_fault {T = U} e fault.Disk h);
      same = k.tally.same;
    };
    faultless_stays = k.faultless_stays;
    causes = λ t.
        causes_of {T = U} (faultless a) (lanes_at (lane_of b) lane) (faults a) (faults b) (Err e)
        (λ h. k.why t (same_fault {T = U} e fault.Disk h)) (λ f h. k.by_stop t f (same_fault {T = U} e fault.Disk h));
    idle = λ h. absurd (no_reopen T e gave (fault_of {T = U} e fault.Reopen h));
    others = k.others;
  }

  pub opening_then : {a b c : S} (x : T) (result : Result U LogFault) → IsNoReopen result → UsesLanes {T = T} tells faultless lane_of faults stops lane a b (Ok x) → UsesLanes {T = U} tells faultless lane_of faults stops lane b c result
      → LeavesDisk {T = U} tells faultless lane_of faults stops lane (either_stopped (lanes_at (lane_of c) lane)) a c result
  opening_then {a} {b} {c} x result never one two =
      let same = one.tally.same tt in
      record {
        tally = subst (λ (n : ℕ). Tally n (stops a) (faults c) (stops c) result) same.0 (subst (λ (n : ℕ). Tally (faults b) n (faults c) (stops c) result) same.1 two.tally);
        faultless_stays = record {
          stays = λ f. two.faultless_stays.stays (one.faultless_stays.stays f);
          same_faults = λ f. two.faultless_stays.same_faults (one.faultless_stays.stays f) ∙ one.faultless_stays.same_faults f;
        };
        causes = λ t.
            causes_of (faultless a) (lanes_at (lane_of c) lane) (faults a) (faults c) result
            (λ h. subst (λ (n : ℕ). EitherStopped (lanes_at (lane_of c) lane) ⊎ Rose n (faults c)) same.0 (two.why t h)) (λ f h. two.by_stop t (one.faultless_stays.stays f) h);
        idle = λ h. absurd (subst (λ (r : Result U LogFault). IsNoReopen r) h never);
        others = λ t n far. two.others t n far ∙ one.others t n far;
      }

  -- A call that changes one of the two

  pub changed : {a b : S} (n : ℕ) (second : Bool) (x : T) (y : U) → n ≡ number_of lane second → ChangesLane {T = T} tells faultless lane_of faults stops n a b (Ok x)
      → LeavesDisk {T = U} tells faultless lane_of faults stops lane (has_stopped (lane_of b (number_of lane second)).stop) a b (Ok y)
  changed {a} {b} n second x y is k = record {
    tally = record {
      faults_never_fall = k.tally.faults_never_fall;
      stops_never_fall = k.tally.stops_never_fall;
      rose = λ h. absurd (cc h);
      same = λ u. k.tally.same tt;
    };
    faultless_stays = k.faultless_stays;
    causes = λ t. record { why = λ h. absurd (cc h); by_stop = λ f h. absurd (cc h) };
    idle = λ h. absurd (cc h);
    others = λ t m far. k.others t m (away lane m n second is far);
  }

  pub change_failed : {a b : S} (n : ℕ) (second : Bool) (e : LogFault) → n ≡ number_of lane second → GaveUp {X = T} (Err e) → ChangesLane {T = T} tells faultless lane_of faults stops n a b (Err e)
      → LeavesDisk {T = U} tells faultless lane_of faults stops lane (has_stopped (lane_of b (number_of lane second)).stop) a b (Err e)
  change_failed {a} {b} n second e is gave k = record {
    tally = record {
      faults_never_fall = k.tally.faults_never_fall;
      stops_never_fall = k.tally.stops_never_fall;
      rose = λ h. k.tally.rose (same_fault {T = U} e fault.Disk h);
      same = k.tally.same;
    };
    faultless_stays = k.faultless_stays;
    causes = λ t. let j = k.causes t in let at = stop_at (lane_of b) lane n second is in record {
      why = λ h. subst (λ (s : Bool). (s ≡ true) ⊎ Rose (faults a) (faults b)) at (j.why (same_fault {T = U} e fault.Disk h));
      by_stop = λ f h. sym at ∙ j.by_stop f (same_fault {T = U} e fault.Disk h);
    };
    idle = λ h. absurd (no_reopen T e gave (fault_of {T = U} e fault.Reopen h));
    others = λ t m far. k.others t m (away lane m n second is far);
  }
