-- The answers by the numbers of a log, and the records that may follow
use Rattle.std.proofs.Common.{◌≡◌, ℕ, suc, ◌+◌, ◌-◌, ◌≤◌, ◌<◌, max, true, [], Option, Some, Ok, refl, sym, ap, ◌∙◌, subst, arith, eq-eqb}
use Rattle.std.specs.Prelude.{false, not, nat_eq, nat_le, nat_lt, IsSome}
use Rattle.std.specs.List.{list_any}
use Rattle.std.proofs.lemmas.Bool.{and_from, le-leb, lt-leb, lt-ltb, le-ltb}
use Rattle.gr_event.specs.declared.event.Event.{Event}
use Rattle.gr_publog.specs.declared.record.Record.{Record}
use Rattle.gr_publog.specs.declared.record.Record.TheVariants as entry
use Rattle.gr_publog.specs.declared.record.State.{State}
use Rattle.gr_event.specs.Joins.{has_joined}
use Rattle.gr_publog.specs.State.{LogState, numbers, footing, max_tick, may_settle, may_enter, may_follow}
use Rattle.gr_publog.specs.Calls.{Leaves}
use Rattle.gr_pubend.specs.declared.answers.Published.TheVariants.{Logged, Already, Gap, Exhausted}
use Rattle.gr_pubend.specs.declared.answers.Quieted.TheVariants.{NotYet, Marked}
use Rattle.gr_pubend.specs.declared.answers.Joined.TheVariants as joins
use Rattle.gr_pubend.specs.Log.{Log, silence}
use Rattle.gr_pubend.specs.Answers.{published, quieted, joined_at}
use Rattle.gr_pubend.proofs.Knowing.{up_to_event}

-- what was logged is left
pub leaves_ok : {V T : Type 0} (before logged broken after : V) (x : T) → after ≡ logged → Leaves before logged broken after (Ok x)
leaves_ok before logged broken after x e = record { ok = e; memory = λ h. absurd (cc h); closed = λ h. absurd (cc h); failed = λ h. absurd (cc h); never_damaged = λ at h. cc h }

-- a record is logged
pub is_logged : (logged : Option Record) (r : Record) → logged ≡ Some r → IsSome logged
is_logged logged r e = subst (λ (x : Option Record). IsSome x) (sym e) refl

-- a record that may follow
settling : (s : State) (tick : ℕ) → s.settled < tick → tick ≤ max_tick → may_settle s tick ≡ true
settling s tick past upto = and_from (nat_lt s.settled tick) (nat_le tick max_tick) (lt-ltb s.settled tick past) (le-leb tick max_tick upto)

pub may_event : (s : LogState) (tick number : ℕ) (e : Event) → s.settled < tick → tick ≤ max_tick → number ≡ s.last + 1 → may_follow s (entry.Event tick number e) ≡ true
may_event s tick number e past upto next =
    and_from (may_settle (numbers s) tick) (nat_eq number (s.last + 1)) (settling (numbers s) tick past upto) (eq-eqb number (s.last + 1) next)

pub may_mark : (s : LogState) (tick : ℕ) → s.settled < tick → tick ≤ max_tick → may_follow s (entry.Mark tick) ≡ true
may_mark s tick past upto = settling (numbers s) tick past upto

pub may_cut : (s : LogState) (tick : ℕ) → s.cut < tick → tick ≤ s.settled → may_follow s (entry.Cut tick) ≡ true
may_cut s tick past upto = and_from (nat_lt s.cut tick) (nat_le tick s.settled) (lt-ltb s.cut tick past) (le-leb tick s.settled upto)

pub may_join : (s : LogState) (tick x : ℕ) → s.settled < tick → tick ≤ max_tick → list_any (λ y. nat_eq y x) s.late ≡ true → has_joined s.joins x ≡ false → may_follow s (entry.Join tick x) ≡ true
may_join s tick x past upto late fresh =
    and_from (may_settle (numbers s) tick) (may_enter (footing s) x) (settling (numbers s) tick past upto) (and_from (list_any (λ y. nat_eq y x) s.late) (not (has_joined s.joins x)) late (ap not fresh))

-- The answers

module _ (log : Log) (number now : ℕ) (e : Event) where
  pub says_already : number ≤ log.last → published log number e now ≡ Already
  unfolding published
  says_already le = rw (le-leb number log.last (omega arith), published) refl

  pub says_gap : log.last + 1 < number → published log number e now ≡ Gap (log.last + 1)
  unfolding published
  says_gap lt =
      let a = lt-leb number log.last (omega arith) in
      let b = lt-ltb (suc log.last) number (omega arith) in
      let c : suc log.last ≡ log.last + 1 = omega arith in
      (rw (a, b, published) refl) ∙ ap Gap c

  pub says_exhausted : (tick : ℕ) → log.last < number → number ≤ log.last + 1 → tick ≡ max now (log.settled + 1) → max_tick < tick → published log number e now ≡ Exhausted
  unfolding published
  says_exhausted tick lt le t past =
      let a = lt-leb number log.last (omega arith) in
      let b = le-ltb (suc log.last) number (omega arith) in
      let c = lt-ltb max_tick (max (suc log.settled) now) (omega (arith, t, past)) in
      rw (a, b, c, published) refl

  pub says_logged : (tick : ℕ) → log.last < number → number ≤ log.last + 1 → tick ≡ max now (log.settled + 1) → tick ≤ max_tick → published log number e now ≡ Logged tick (up_to_event (suc log.settled) tick e)
  unfolding published
  says_logged tick lt le t upto =
      let m : max (suc log.settled) now ≡ tick = omega (arith, t) in
      let a = lt-leb number log.last (omega arith) in
      let b = le-ltb (suc log.last) number (omega arith) in
      let c = le-ltb max_tick (max (suc log.settled) now) (omega (arith, m, upto)) in
      (rw (a, b, c, published) refl) ∙ ap (λ n. Logged n (up_to_event (suc log.settled) n e)) m

module _ (log : Log) (now quiet : ℕ) where
  pub says_not_yet : now - log.settled < quiet → quieted log now quiet ≡ NotYet
  unfolding quieted
  says_not_yet lt = rw (lt-leb (log.settled + quiet) now (omega (arith, lt)), quieted) refl

  pub says_marked : 1 ≤ quiet → quiet ≤ now - log.settled → quieted log now quiet ≡ Marked now (silence (suc log.settled) now [])
  unfolding quieted
  says_marked one le = rw (le-leb (log.settled + quiet) now (omega (arith, one, le)), quieted) refl

module _ (log : Log) (x now : ℕ) where
  pub says_joined : has_joined log.joins x ≡ true → joined_at log x now ≡ joins.Already
  unfolding joined_at
  says_joined has = rw (has, joined_at) refl

  pub says_no_tick : (tick : ℕ) → has_joined log.joins x ≡ false → tick ≡ max now (log.settled + 1) → max_tick < tick → joined_at log x now ≡ joins.Exhausted
  unfolding joined_at
  says_no_tick tick has t past =
      let c = lt-ltb max_tick (max (suc log.settled) now) (omega (arith, t, past)) in
      rw (has, c, joined_at) refl

  pub says_joins : (tick : ℕ) → has_joined log.joins x ≡ false → tick ≡ max now (log.settled + 1) → tick ≤ max_tick → joined_at log x now ≡ joins.Logged tick (silence (suc log.settled) tick [])
  unfolding joined_at
  says_joins tick has t upto =
      let m : max (suc log.settled) now ≡ tick = omega (arith, t) in
      let c = le-ltb max_tick (max (suc log.settled) now) (omega (arith, m, upto)) in
      (rw (has, c, joined_at) refl) ∙ ap (λ n. joins.Logged n (silence (suc log.settled) n [])) m
