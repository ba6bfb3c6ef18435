-- What a broker answers and leaves, in the words of a world: whose log is exchanged, which fault comes, how the disk's counts move
use Rattle.std.proofs.Common.{◌≡◌, ◌≢◌, ℕ, ◌<◌, Bool, true, false, List, length, map, inl, inr, Option, Some, None, Result, Ok, Err, OnOk, refl, sym, ap, ◌∙◌, subst}
use Rattle.std.specs.Prelude.{IfOk, IsErrOf}
use Rattle.std.proofs.lemmas.List.{get_or-set_same, get_or-set_other}
use Rattle.gr_frame.specs.Bytes.{frame_bytes}
use Rattle.gr_frame.specs.Cut.{AreFrames}
use Rattle.gr_publog.specs.declared.record.Record.{Record}
use Rattle.gr_publog.specs.declared.record.LogFault.{LogFault}
use Rattle.gr_publog.specs.declared.record.LogFault.TheVariants as log_fault
use Rattle.gr_publog.specs.Views.{LogView}
use Rattle.gr_out.specs.Stops.{StaysFaultless}
use Rattle.gr_publog.specs.Calls.{Leaves, Tally, Causes}
use Rattle.gr_model.specs.declared.report.Report.{Report}
use Rattle.gr_model.specs.Broker.{View, Outcome as MachineOutcome}
use Rattle.gr_broker_relay.specs.declared.outcome.Outcome.{Outcome}
use Rattle.gr_broker_relay.specs.Told.{Tells}
use Rattle.gr_broker.specs.declared.outcome.BrokerFault.{BrokerFault}
use Rattle.gr_broker.specs.declared.outcome.BrokerFault.TheVariants as refused
use Rattle.gr_broker.specs.Seen.{BrokerView, log_in, with_view, with_log, with_logged, with_cut_if, with_failed, is_broken, broken_at}
use Rattle.gr_broker.specs.Told.{log_answer}
use Rattle.gr_broker.specs.Hosted.{WakeLeaves}
use Rattle.gr_pubend.proofs.Cuts.{cut_stays}
use Rattle.gr_world.specs.declared.fault.WorldFault.{WorldFault}
use Rattle.gr_world.specs.declared.fault.WorldFault.TheVariants as fault
use Rattle.gr_world.specs.Steps.{IsCarried}
use Rattle.gr_world.specs.Disk.{NotDisk, Counts, UsesDisk}
use Rattle.gr_world.specs.Taking.{Follows}
use Rattle.gr_world.proofs.Absorbing.{Touches}

-- The answer

-- what holds where the broker answered holds where the world does
pub ok_follows : (X : Type 0) (answer : Result Outcome BrokerFault) (result : Result (List Report) WorldFault) → Follows answer result → OnOk (log_answer answer) X → OnOk result X
ok_follows X (Ok told) (Ok ls) f x = x
ok_follows X (Ok told) (Err e) f x = tt
ok_follows X (Err e) result f x = subst (λ (r : Result (List Report) WorldFault). OnOk r X) (sym f) tt

-- a fact of an answer, by another of it
pub on_ok : {T E X Y : Type 0} (r : Result T E) → (X → Y) → OnOk r X → OnOk r Y
on_ok (Ok x) f h = f h
on_ok (Err e) f h = tt

-- the same in the words of a log
pub ok_answer : {X Y : Type 0} (answer : Result Outcome BrokerFault) → (X → Y) → OnOk answer X → OnOk (log_answer answer) Y
ok_answer (Ok told) f h = f h
ok_answer (Err e) f h = tt

-- the frames that a broker tells are spelled
pub spelled_follow : (o : MachineOutcome) (answer : Result Outcome BrokerFault) → IfOk answer (Tells o) → OnOk (log_answer answer) (AreFrames (map frame_bytes o.frames) o.frames)
spelled_follow o (Ok told) t = subst (λ (bs : List (List ℕ)). AreFrames bs o.frames) t.frames t.spelled
spelled_follow o (Err e) t = tt

-- the world answers that the disk failed, or that a log is to be opened again, only where the broker does
pub disk_follows : (answer : Result Outcome BrokerFault) (result : Result (List Report) WorldFault) → Follows answer result → IsErrOf result fault.Disk → IsErrOf (log_answer answer) log_fault.Disk
disk_follows (Ok told) (Ok ls) f e = cc
disk_follows (Ok told) (Err x) f e = cc
disk_follows (Err refused.Memory) result f e = cc
disk_follows (Err refused.Disk) result f e = refl
disk_follows (Err refused.Reopen) result f e = cc
disk_follows (Err (refused.Damaged p at)) result f e = cc

pub reopen_follows : (answer : Result Outcome BrokerFault) (result : Result (List Report) WorldFault) → Follows answer result → result ≡ Err fault.Reopen → IsErrOf answer refused.Reopen
reopen_follows (Ok told) (Ok ls) f e = cc
reopen_follows (Ok told) (Err x) f e = cc
reopen_follows (Err refused.Memory) result f e = cc
reopen_follows (Err refused.Disk) result f e = cc
reopen_follows (Err refused.Reopen) result f e = refl
reopen_follows (Err (refused.Damaged p at)) result f e = cc

-- where the broker does, so does the world
pub reopen_told : (answer : Result Outcome BrokerFault) (result : Result (List Report) WorldFault) → Follows answer result → IsErrOf answer refused.Reopen → result ≡ Err fault.Reopen
reopen_told (Ok told) result f e = absurd (cc e)
reopen_told (Err refused.Memory) result f e = absurd (cc e)
reopen_told (Err refused.Disk) result f e = absurd (cc e)
reopen_told (Err refused.Reopen) result f e = f
reopen_told (Err (refused.Damaged p at)) result f e = absurd (cc e)

-- and that it did not, only where the broker did not
pub not_disk : (answer : Result Outcome BrokerFault) (result : Result (List Report) WorldFault) → Follows answer result → NotDisk result → IsErrOf (log_answer answer) log_fault.Disk → ⊥
not_disk (Ok told) result f n e = cc
not_disk (Err refused.Memory) result f n e = cc
not_disk (Err refused.Disk) result f n e = subst (λ (r : Result (List Report) WorldFault). NotDisk r) f n
not_disk (Err refused.Reopen) result f n e = cc
not_disk (Err (refused.Damaged p at)) result f n e = cc

-- a broker that never finds a log damaged refuses nothing
pub carried_follows : (answer : Result Outcome BrokerFault) (result : Result (List Report) WorldFault) → Follows answer result → ((at : ℕ) → log_answer answer ≢ Err (log_fault.Damaged at)) → IsCarried result
carried_follows (Ok told) (Ok ls) f n = tt
carried_follows (Ok told) (Err e) f n = subst (λ (x : WorldFault). IsCarried (Err x)) (sym f) tt
carried_follows (Err refused.Memory) result f n = subst (λ (r : Result (List Report) WorldFault). IsCarried r) (sym f) tt
carried_follows (Err refused.Disk) result f n = subst (λ (r : Result (List Report) WorldFault). IsCarried r) (sym f) tt
carried_follows (Err refused.Reopen) result f n = subst (λ (r : Result (List Report) WorldFault). IsCarried r) (sym f) tt
carried_follows (Err (refused.Damaged p at)) result f n = absurd (n at refl)

-- the counts of the disk move as the broker says
pub counts_follow : (answer : Result Outcome BrokerFault) (result : Result (List Report) WorldFault) (faults stops faults' stops' : ℕ) → Follows answer result → Tally faults stops faults' stops' (log_answer answer) → Counts faults stops faults' stops' result
counts_follow answer result faults stops faults' stops' f t = record {
  faults_never_fall = t.faults_never_fall;
  stops_never_fall = t.stops_never_fall;
  rose = λ e. t.rose (disk_follows answer result f e);
}

-- What is left

-- what holds of all that a call may leave holds of what it leaves
pub leaves_on : {V T : Type 0} (P : V → Type 0) (before logged broken after : V) (result : Result T LogFault) → Leaves before logged broken after result → P before → P logged → (IsErrOf result log_fault.Disk → P broken) → P after
leaves_on P before logged broken after (Ok x) s a b c = subst P (sym s.ok) b
leaves_on P before logged broken after (Err log_fault.Memory) s a b c = subst P (sym (s.memory refl)) a
leaves_on P before logged broken after (Err log_fault.Disk) s a b c = subst P (sym (s.failed refl)) (c refl)
leaves_on P before logged broken after (Err log_fault.Reopen) s a b c = subst P (sym (s.closed refl)) a
leaves_on P before logged broken after (Err (log_fault.Damaged at)) s a b c = absurd (s.never_damaged at refl)

-- the same of a wake
pub wake_leaves_on : {V T : Type 0} (P : V → Type 0) (before marked woken broken marked_broken after : V) (result : Result T LogFault) → WakeLeaves before marked woken broken marked_broken after result
    → P before → P marked → P woken → (IsErrOf result log_fault.Disk → P broken × P marked_broken) → P after
wake_leaves_on P before marked woken broken marked_broken after (Ok x) s a m b c = subst P (sym s.ok) b
wake_leaves_on P before marked woken broken marked_broken after (Err log_fault.Memory) s a m b c = elim (s.memory refl) [ inl e ↦ subst P (sym e) a | inr e ↦ subst P (sym e) m ]
wake_leaves_on P before marked woken broken marked_broken after (Err log_fault.Disk) s a m b c = elim (s.failed refl) [ inl e ↦ subst P (sym e) (c refl).0 | inr e ↦ subst P (sym e) (c refl).1 ]
wake_leaves_on P before marked woken broken marked_broken after (Err log_fault.Reopen) s a m b c = subst P (sym (s.closed refl)) a
wake_leaves_on P before marked woken broken marked_broken after (Err (log_fault.Damaged at)) s a m b c = absurd (s.never_damaged at refl)

-- a broker whose log and view of one publisher are exchanged
pub touched : (p : ℕ) (b : BrokerView) (l : Option LogView) (v : View) → Touches p b (with_view (with_log b p l) p v)
touched p b l v = record { number = refl; others = λ q n. get_or-set_other b.logs p q l None n }

pub touched_broken : (p : ℕ) (b : BrokerView) → Touches p b (broken_at b p)
touched_broken p b = record { number = refl; others = λ q n. get_or-set_other b.logs p q (with_failed (log_in b p)) None n }

pub untouched : (p : ℕ) (b : BrokerView) → Touches p b b
untouched p b = record { number = refl; others = λ q n. refl }

-- one after another
pub touched_twice : (p : ℕ) (a b c : BrokerView) → Touches p a b → Touches p b c → Touches p a c
touched_twice p a b c s t = record { number = t.number ∙ s.number; others = λ q n. t.others q n ∙ s.others q n }

-- a log is as whole with a further record
pub whole_logged : (l : Option LogView) (r : Option Record) → is_broken (with_logged l r) ≡ is_broken l
whole_logged None r = refl
whole_logged (Some l) None = refl
whole_logged (Some l) (Some r) = refl

-- and so it is with a cut
pub whole_cut : (l : Option LogView) (cut : Option ℕ) (reclaim : ℕ) → is_broken (with_cut_if l cut reclaim) ≡ is_broken l
whole_cut None cut reclaim = refl
whole_cut (Some l) None reclaim = refl
whole_cut (Some l) (Some tick) reclaim = (cut_stays reclaim tick l).1

-- so is one that is exchanged for it
pub whole_with : (p : ℕ) (b : BrokerView) (l : Option LogView) (v : View) → p < length b.logs → is_broken l ≡ is_broken (log_in b p) → is_broken (log_in b p) ≡ false → is_broken (log_in (with_view (with_log b p l) p v) p) ≡ false
whole_with p b l v lt same whole = ap is_broken (get_or-set_same b.logs p l None lt) ∙ (same ∙ whole)

-- a broker that is to open a log again answers so in the words of a log
pub closes : (answer : Result Outcome BrokerFault) → IsErrOf answer refused.Reopen → IsErrOf (log_answer answer) log_fault.Reopen
closes answer e = ap log_answer e

-- with no record a log is as it was
pub logged_none : (l : Option LogView) → with_logged l None ≡ l
logged_none None = refl
logged_none (Some l) = refl

-- and with no cut
pub cut_none : (l : Option LogView) (reclaim : ℕ) → with_cut_if l None reclaim ≡ l
cut_none None reclaim = refl
cut_none (Some l) reclaim = refl

-- so is one that is exchanged for itself
pub log_same : (p : ℕ) (b : BrokerView) (l : Option LogView) (v : View) → p < length b.logs → l ≡ log_in b p → log_in (with_view (with_log b p l) p v) p ≡ log_in b p
log_same p b l v lt same = get_or-set_same b.logs p l None lt ∙ same

-- and one that the disk had failed before
pub failed_same : (p : ℕ) (b : BrokerView) → p < length b.logs → is_broken (log_in b p) ≡ true → log_in (broken_at b p) p ≡ log_in b p
failed_same p b lt broken = get_or-set_same b.logs p (with_failed (log_in b p)) None lt ∙ go (log_in b p) broken
  where
    go : (o : Option LogView) → is_broken o ≡ true → with_failed o ≡ o
    go None k = refl
    go (Some l) k = ap (λ (q : Bool). let v : LogView = record {
      lane = l.lane;
      state = l.state;
      broken = q;
      second = l.second;
      generation = l.generation;
      size = l.size;
      aside = l.aside;
    } in Some v) (sym k)

-- What a call does to the disk, by what the broker says of it: where no stop is ordered on the lanes none has broken it
pub ran_on : (faultless faultless' : Type 0) (faults stops faults' stops' : ℕ) (stopped : Bool) (answer : Result Outcome BrokerFault) (result : Result (List Report) WorldFault)
    → Follows answer result → Tally faults stops faults' stops' (log_answer answer) → Causes faultless stopped faults faults' (log_answer answer)
    → StaysFaultless faultless faultless' faults faults' → (stopped ≡ true → ⊥)
    → UsesDisk faultless faultless' faults stops faults' stops' result
ran_on faultless faultless' faults stops faults' stops' stopped answer result f tally causes stays never = record {
  counts = counts_follow answer result faults stops faults' stops' f tally;
  faultless_stays = stays;
  never_fails = λ less e. never (causes.by_stop less (disk_follows answer result f e));
}
