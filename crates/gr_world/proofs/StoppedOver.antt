-- The machine's publish that stops is its host's start over the logs that are left: those that there were, with the event where
-- it is kept.
use Rattle.std.proofs.Common.{◌≡◌, ◌≢◌, ℕ, zero, suc, ◌+◌, ◌-◌, ◌<◌, ◌≤◌, max, Bool, true, false, ◌&&◌, List, [], ◌∷◌, length, map, get_or, set, Some, None, refl, sym, ap, ◌∙◌, subst, arith, eq-eqb}
use Rattle.std.specs.Prelude.{nat_eq, nat_le, if◌then◌else◌}
use Rattle.std.proofs.lemmas.Bool.{ne_eqb, eqb-true, leb-true}
use Rattle.std.proofs.lemmas.List.{get_or-set_same}
use Rattle.gr_event.specs.declared.event.Event.{Event}
use Rattle.gr_sched.specs.declared.step.Stop.{Stop}
use Rattle.gr_model.specs.declared.report.Report.TheVariants as line
use Rattle.gr_model.specs.Net.{Net, not_empty, numbers, numbers_from}
use Rattle.gr_model.specs.Broker.{Log, empty_log, with_event, max_tick, is_kept}
use Rattle.gr_model.specs.World.{World, Transition, unchanged, log_of, publish_now, publish_stopped, publish_stopped_by, restarted, opened_lines}
use Rattle.gr_world.specs.Opened.{with_logs}
use Rattle.gr_world.specs.Stopped.{tick_in, kept_line, stopped_over}

-- A test that gives something, or nothing

test_none : {A : Type 0} (b : Bool) (x : A) → (if b then Some x else None) ≡ None → b ≡ false
test_none false x h = refl
test_none true x h = absurd (cc h)

test_some : {A : Type 0} (b : Bool) (x y : A) → (if b then Some x else None) ≡ Some y → (b ≡ true) × (x ≡ y)
test_some false x y h = absurd (cc h)
test_some true x y h = (refl, cc h)

both_true : (a b : Bool) → (a && b) ≡ true → a ≡ true
both_true true b h = refl
both_true false b h = h

both_right : (a b : Bool) → (a && b) ≡ true → b ≡ true
both_right true b h = h
both_right false b h = absurd (cc h)

-- Lists over a range of numbers

same_over : {X : Type 0} (f g : ℕ → X) (a n : ℕ) → ((q : ℕ) → a ≤ q → q < a + n → f q ≡ g q) → map f (numbers_from a n) ≡ map g (numbers_from a n)
same_over f g a zero h = refl
same_over {X} f g a (suc n) h =
    let here = h a (omega arith) (omega arith) in
    let rest = same_over f g (suc a) n (λ q le lt. h q (omega arith) (omega arith)) in
    ap (λ (x : X). x ∷ map f (numbers_from (suc a) n)) here ∙ ap (λ (xs : List X). g a ∷ xs) rest

-- where all agree, the lists are one
pub same_all : {X : Type 0} (f g : ℕ → X) (n : ℕ) → ((q : ℕ) → q < n → f q ≡ g q) → map f (numbers n) ≡ map g (numbers n)
same_all f g n h = same_over f g 0 n (λ q le lt. h q (omega arith))

set_over : {X : Type 0} (f g : ℕ → X) (a n i : ℕ) (v : X) → i < n → f (a + i) ≡ v → ((q : ℕ) → a ≤ q → q < a + n → q ≢ a + i → f q ≡ g q)
    → map f (numbers_from a n) ≡ set (map g (numbers_from a n)) i v
set_over f g a zero i v lt e h = absurd (omega arith)
set_over {X} f g a (suc n) zero v lt e h =
    let here : f a ≡ v = ap f (omega arith) ∙ e in
    let rest = same_over f g (suc a) n (λ q le lt. h q (omega arith) (omega arith) (λ s. absurd (omega arith))) in
    ap (λ (x : X). x ∷ map f (numbers_from (suc a) n)) here ∙ ap (λ (xs : List X). v ∷ xs) rest
set_over {X} f g a (suc n) (suc i) v lt e h =
    let here = h a (omega arith) (omega arith) (λ s. absurd (omega arith)) in
    let rest = set_over f g (suc a) n i v (omega arith) (ap f (omega arith) ∙ e) (λ q le lt ne. h q (omega arith) (omega arith) (λ s. ne (omega arith))) in
    ap (λ (x : X). x ∷ map f (numbers_from (suc a) n)) here ∙ ap (λ (xs : List X). g a ∷ xs) rest

-- where all but one agree, it is the other with that one exchanged
pub set_one : {X : Type 0} (f g : ℕ → X) (n i : ℕ) (v : X) → i < n → f i ≡ v → ((q : ℕ) → q < n → q ≢ i → f q ≡ g q)
    → map f (numbers n) ≡ set (map g (numbers n)) i v
set_one f g n i v lt e h = set_over f g 0 n i v lt (ap f (omega arith) ∙ e) (λ q le l ne. h q (omega arith) (λ s. ne (omega arith)))

-- What is logged at a tick has the next number, and its tick is past what is settled and not past the last one.
pub record IsNextAt (log : Log) (number now tick : ℕ) : Type 0 where
  pub number_is : number ≡ suc log.last
  pub later : log.settled < tick
  pub upto : tick ≤ max_tick
  pub tick_is : max (suc log.settled) now ≡ tick

pub next_at : (log : Log) (number now tick : ℕ) → tick_in log number now ≡ Some tick → IsNextAt log number now tick
next_at log number now tick some =
    let at : ℕ = max (suc log.settled) now in
    let t = test_some (nat_eq number (suc log.last) && nat_le at max_tick) at tick some in
    record {
      number_is = eqb-true number (suc log.last) (both_true (nat_eq number (suc log.last)) (nat_le at max_tick) t.0);
      later = omega (arith, t.1);
      upto = subst (λ (k : ℕ). k ≤ max_tick) t.1 (leb-true at max_tick (both_right (nat_eq number (suc log.last)) (nat_le at max_tick) t.0));
      tick_is = t.1;
    }

-- the logs that are left: with the event where it is kept
abbrev pub logs_left : World → ℕ → ℕ → Event → Bool → List Log
logs_left w p tick e kept = if kept then set w.logs p (with_event (log_of w p) tick e) else w.logs

module _ (net : Net) (w : World) (n p number : ℕ) (stop : Stop) (e : Event) where
  abbrev told_by : ℕ → Bool → Transition
  told_by tick kept = record {
    world = restarted net (with_logs w (logs_left w p tick e kept)) (net.host p);
    lines = line.Crashed (net.host p) ∷ (kept_line kept p number tick ∷ opened_lines net (logs_left w p tick e kept) (net.host p));
  }

  -- where a subscriber is at the host it is refused
  pub is_refused : not_empty (net.subscribers_at (net.host p)) ≡ true → publish_stopped net w n p number stop e ≡ unchanged w (line.RefusedHosts n (net.host p) ∷ [])
  unfolding publish_stopped_by
  is_refused some = rw (publish_stopped_by, some) refl

  -- where nothing would be logged it is the publish
  pub not_stopped : not_empty (net.subscribers_at (net.host p)) ≡ false → tick_in (log_of w p) number w.clock ≡ None
      → publish_stopped net w n p number stop e ≡ publish_now net w p number e
  unfolding publish_stopped_by
  not_stopped alone none =
      let log = log_of w p in
      let t = test_none (nat_eq number (suc log.last) && nat_le (max (suc log.settled) w.clock) max_tick) (max (suc log.settled) w.clock) none in
      rw (publish_stopped_by, alone, t) refl

  -- else the host starts over the logs that are left
  stopped_told : (tick : ℕ) → not_empty (net.subscribers_at (net.host p)) ≡ false → tick_in (log_of w p) number w.clock ≡ Some tick
      → publish_stopped net w n p number stop e ≡ told_by tick (let log : Log = log_of w p in is_kept (log.size - 1) stop.call stop.pick)
  unfolding publish_stopped_by
  stopped_told tick alone some =
      let log = log_of w p in
      let t = test_some (nat_eq number (suc log.last) && nat_le (max (suc log.settled) w.clock) max_tick) (max (suc log.settled) w.clock) tick some in
      (rw (publish_stopped_by, alone, t.0) refl) ∙ ap (λ (k : ℕ). told_by k (is_kept (log.size - 1) stop.call stop.pick)) t.1

  -- it is the last one where the event is kept, and only there
  kept_last : (tick : ℕ) (kept : Bool) → p < length w.logs → tick_in (log_of w p) number w.clock ≡ Some tick
      → (let log : Log = get_or (logs_left w p tick e kept) p empty_log in nat_eq log.last number) ≡ kept
  kept_last tick true lt some =
      let s = (next_at (log_of w p) number w.clock tick some).number_is in
      rw (get_or-set_same w.logs p (with_event (log_of w p) tick e) empty_log lt) (eq-eqb _ _ (sym s))
  kept_last tick false lt some =
      let s = (next_at (log_of w p) number w.clock tick some).number_is in
      ne_eqb _ _ (λ x. absurd (omega arith))

  pub stopped_is : (tick : ℕ) → p < length w.logs → not_empty (net.subscribers_at (net.host p)) ≡ false → tick_in (log_of w p) number w.clock ≡ Some tick
      → publish_stopped net w n p number stop e
      ≡ stopped_over net w (net.host p) p number tick (logs_left w p tick e (let log : Log = log_of w p in is_kept (log.size - 1) stop.call stop.pick))
  stopped_is tick lt alone some =
      let log = log_of w p in
      let kept = is_kept (log.size - 1) stop.call stop.pick in
      stopped_told tick alone some
      ∙ sym (ap (λ (b : Bool). record {
        world = restarted net (with_logs w (logs_left w p tick e kept)) (net.host p);
        lines = line.Crashed (net.host p) ∷ (kept_line b p number tick ∷ opened_lines net (logs_left w p tick e kept) (net.host p));
      }) (kept_last tick kept lt some))
