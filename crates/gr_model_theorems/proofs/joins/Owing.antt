-- A report that says what the net of the last joins demands says what the joins so far demand
use Rattle.std.proofs.Common.{◌≡◌, inl, inr, ℕ, suc, zero, ◌+◌, ◌≤◌, ◌<◌, Bool, true, false, not, ◌&&◌, List, [], ◌∷◌, ◌++◌, map, filter, length, set, get_or, refl, sym, ap, ap₂, ◌∙◌, subst, Some, None, arith, le_trans, le_refl}
use Rattle.std.specs.Prelude.{nat_le, if◌then◌else◌, Contains, IsTrue}
use Rattle.std.proofs.lemmas.Bool.{leb-true, cases_Bool}
use Rattle.gr_event.specs.declared.event.Event.{Event}
use Rattle.gr_event.specs.Joins.{Joins}
use Rattle.gr_sched.specs.declared.step.Step.{Step}
use Rattle.gr_sched.specs.declared.step.Step.TheVariants as step
use Rattle.gr_sched.specs.declared.step.Line.{Line}
use Rattle.gr_model.specs.declared.report.Report.{Report}
use Rattle.gr_model.specs.Net.{Net, is_host, is_late, with_wants, wants_with}
use Rattle.gr_model.specs.Headline.{Recorded, nothing_recorded, History, record_of, tick_of, is_next, recording, settling, marked, each_record, may_enter, with_joined, sweep_at, is_swept, greatest, says_kept, records_after, clock_after, most_after, Stored, standing_of, is_reclaimed_line, heard_after, unlogged_after, history_after, history, expected, record_lines, IsDoubt, StepReports, Delivered, InOrder, Holds_from_by, recorded_net, last_horizon}
use Rattle.gr_model_calls.specs.Truth.{Grows}
use Rattle.gr_model_calls.proofs.calls.Told.{TicksUpto}
use Rattle.gr_model_calls.proofs.calls.Held.{shows, grows_not, grows_on, NoneBelow-lower}
use Rattle.gr_model_calls.proofs.joins.Growing.{set_or}
use Rattle.gr_model_theorems.proofs.records.Standings.{stored_seen, behind_seen}

-- a record that goes on from another
pub record RecordOn (r new : Recorded) : Type 0 where
  pub settled : r.settled ≤ new.settled
  pub joined : Grows r.joined new.joined r.settled

record_still : (r : Recorded) → RecordOn r r
record_still r = record { settled = le_refl r.settled; joined = grows_not r.joined r.settled }

abbrev RecordsOn : List Recorded → List Recorded → Type 0
RecordsOn xs ys = (p : ℕ) → RecordOn (get_or xs p nothing_recorded) (get_or ys p nothing_recorded)

each_on : (f : ℕ → Recorded → Recorded) → ((p : ℕ) (r : Recorded) → RecordOn r (f p r)) → (a : ℕ) (rs : List Recorded) → RecordsOn rs (each_record f a rs)
each_on f h a [] p = record_still nothing_recorded
each_on f h a (r ∷ rs) zero = h a r
each_on f h a (r ∷ rs) (suc p) = each_on f h (suc a) rs p

marked_on : (net : Net) (clock : ℕ) (r : Recorded) → RecordOn r (marked net clock r)
marked_on net clock r =
    elim (cases_Bool (nat_le (r.settled + net.quiet) clock)) [
      | inl e ↦ subst (λ q. RecordOn r (if q then settling clock r else r)) (sym e) (record { settled = omega (arith, leb-true (r.settled + net.quiet) clock e); joined = grows_not r.joined r.settled })
      | inr e ↦ subst (λ q. RecordOn r (if q then settling clock r else r)) (sym e) (record_still r)
    ]

settling_on : (m : ℕ) (rs : List Recorded) → greatest (map (λ r. r.settled) rs) ≤ m → RecordsOn rs (map (settling m) rs)
settling_on m [] l p = record_still nothing_recorded
settling_on m (r ∷ rs) l zero = record { settled = omega (arith, l); joined = grows_not r.joined r.settled }
settling_on m (r ∷ rs) l (suc p) = settling_on m rs (omega (arith, l)) p

-- the records after a step go on from those before it
records_on : (net : Net) (h : History) (l : Line) (ls : List Report) → RecordsOn h.records (records_after net h l ls)
unfolding records_after
records_on net h l ls q = go l.step
  where
    put : (c : Bool) (p : ℕ) (r : Recorded) → RecordOn (record_of h p) r → RecordOn (record_of h q) (get_or (if c then set h.records p r else h.records) q nothing_recorded)
    put true p r o = set_or h.records p q r nothing_recorded (RecordOn (record_of h q)) (record_still (record_of h q)) (λ e. subst (λ z. RecordOn (record_of h z) r) (sym e) o)
    put false p r o = record_still (record_of h q)

    hosted : (b p : ℕ) (r : Recorded) → RecordOn r (if is_host net p b then marked net h.clock r else r)
    hosted b p r = at (is_host net p b)
      where
        at : (c : Bool) → RecordOn r (if c then marked net h.clock r else r)
        at true = marked_on net h.clock r
        at false = record_still r

    swept : (c : Bool) → RecordOn (record_of h q) (get_or (if c then map (settling (sweep_at net h)) h.records else h.records) q nothing_recorded)
    swept true = settling_on (sweep_at net h) h.records (omega arith) q
    swept false = record_still (record_of h q)

    after : Step → List Recorded
    after z = elim z [
      | step.Publish p number stop e ↦ let r = record_of h p in if is_next h.clock r number && elim stop [ None ↦ true | Some s ↦ says_kept ls ] then set h.records p (recording h.clock r e) else h.records
      | step.Wake b ↦ each_record (λ p r. if is_host net p b then marked net h.clock r else r) 0 h.records
      | step.Sweep ↦ if is_swept net h then map (settling (sweep_at net h)) h.records else h.records
      | step.Join s p ↦ let r = record_of h p in if may_enter h.clock r s then set h.records p (with_joined h.clock r s) else h.records
      | _ ↦ h.records
    ]

    go : (z : Step) → RecordOn (record_of h q) (get_or (after z) q nothing_recorded)
    go (step.Publish p number stop e) = put (is_next h.clock (record_of h p) number && elim stop [ None ↦ true | Some s ↦ says_kept ls ]) p (recording h.clock (record_of h p) e) (record { settled = omega arith; joined = grows_not (record_of h p).joined (record_of h p).settled })
    go (step.Wake b) = each_on (λ p r. if is_host net p b then marked net h.clock r else r) (hosted b) 0 h.records q
    go step.Sweep = swept (is_swept net h)
    go (step.Join s p) = put (may_enter h.clock (record_of h p) s) p (with_joined h.clock (record_of h p) s) (record { settled = omega arith; joined = (record { subscriber = s; tick = tick_of h.clock (record_of h p) } ∷ [], refl, (omega arith, tt)) })
    go (step.Clock now) = record_still (record_of h q)
    go (step.Deliver k) = record_still (record_of h q)
    go (step.Crash b) = record_still (record_of h q)
    go step.Show = record_still (record_of h q)
    go (step.Bytes k) = record_still (record_of h q)

-- the last joins come past what is settled
abbrev pub RecordedAhead : (ℕ → Joins) → History → Type 0
RecordedAhead last h = (p : ℕ) → Grows (record_of h p).joined (last p) (record_of h p).settled

pub ahead_back : (net : Net) (last : ℕ → Joins) (h : History) (l : Line) (ls : List Report) → RecordedAhead last (history_after net h l ls) → RecordedAhead last h
unfolding history_after
ahead_back net last h l ls a p = let o = records_on net h l ls p in grows_on (record_of h p).joined (get_or (records_after net h l ls) p nothing_recorded).joined (last p) (record_of h p).settled (get_or (records_after net h l ls) p nothing_recorded).settled o.settled o.joined (a p)

-- each event of each record is settled
abbrev pub RecordsUpto : List Recorded → Type 0
RecordsUpto rs = (p : ℕ) → let r = get_or rs p nothing_recorded in TicksUpto r.settled r.events

upto_later : (m n : ℕ) (xs : List (ℕ × Event)) → m ≤ n → TicksUpto m xs → TicksUpto n xs
upto_later m n [] l u = tt
upto_later m n (x ∷ xs) l u = (le_trans u.0 l, upto_later m n xs l u.1)

upto_end : (m : ℕ) (xs : List (ℕ × Event)) (e : Event) → TicksUpto m xs → TicksUpto m (xs ++ (m, e) ∷ [])
upto_end m [] e u = (le_refl m, tt)
upto_end m (x ∷ xs) e u = (u.0, upto_end m xs e u.1)

-- a record after which the events are still settled
abbrev KeepsUpto : Recorded → Recorded → Type 0
KeepsUpto r new = TicksUpto r.settled r.events → TicksUpto new.settled new.events

each_upto : (f : ℕ → Recorded → Recorded) → ((p : ℕ) (r : Recorded) → KeepsUpto r (f p r)) → (a : ℕ) (rs : List Recorded) → RecordsUpto rs → RecordsUpto (each_record f a rs)
each_upto f h a [] u p = tt
each_upto f h a (r ∷ rs) u zero = h a r (u zero)
each_upto f h a (r ∷ rs) u (suc p) = each_upto f h (suc a) rs (λ q. u (suc q)) p

marked_upto : (net : Net) (clock : ℕ) (r : Recorded) → KeepsUpto r (marked net clock r)
marked_upto net clock r u =
    elim (cases_Bool (nat_le (r.settled + net.quiet) clock)) [
      | inl e ↦ subst (λ q. let z : Recorded = if q then settling clock r else r in TicksUpto z.settled z.events) (sym e) (upto_later r.settled clock r.events (omega (arith, leb-true (r.settled + net.quiet) clock e)) u)
      | inr e ↦ subst (λ q. let z : Recorded = if q then settling clock r else r in TicksUpto z.settled z.events) (sym e) u
    ]

settling_upto : (m : ℕ) (rs : List Recorded) → greatest (map (λ r. r.settled) rs) ≤ m → RecordsUpto rs → RecordsUpto (map (settling m) rs)
settling_upto m [] l u p = tt
settling_upto m (r ∷ rs) l u zero = upto_later r.settled m r.events (omega (arith, l)) (u zero)
settling_upto m (r ∷ rs) l u (suc p) = settling_upto m rs (omega (arith, l)) (λ q. u (suc q)) p

pub records_upto : (net : Net) (h : History) (l : Line) (ls : List Report) → RecordsUpto h.records → RecordsUpto (records_after net h l ls)
unfolding records_after
records_upto net h l ls u q = go l.step
  where
    put : (c : Bool) (p : ℕ) (r : Recorded) → TicksUpto r.settled r.events → (let z = get_or (if c then set h.records p r else h.records) q nothing_recorded in TicksUpto z.settled z.events)
    put true p r o = set_or h.records p q r nothing_recorded (λ z. TicksUpto z.settled z.events) (u q) (λ e. o)
    put false p r o = u q

    hosted : (b p : ℕ) (r : Recorded) → KeepsUpto r (if is_host net p b then marked net h.clock r else r)
    hosted b p r = at (is_host net p b)
      where
        at : (c : Bool) → KeepsUpto r (if c then marked net h.clock r else r)
        at true = marked_upto net h.clock r
        at false = λ o. o

    swept : (c : Bool) → (let z = get_or (if c then map (settling (sweep_at net h)) h.records else h.records) q nothing_recorded in TicksUpto z.settled z.events)
    swept true = settling_upto (sweep_at net h) h.records (omega arith) u q
    swept false = u q

    after : Step → List Recorded
    after z = elim z [
      | step.Publish p number stop e ↦ let r = record_of h p in if is_next h.clock r number && elim stop [ None ↦ true | Some s ↦ says_kept ls ] then set h.records p (recording h.clock r e) else h.records
      | step.Wake b ↦ each_record (λ p r. if is_host net p b then marked net h.clock r else r) 0 h.records
      | step.Sweep ↦ if is_swept net h then map (settling (sweep_at net h)) h.records else h.records
      | step.Join s p ↦ let r = record_of h p in if may_enter h.clock r s then set h.records p (with_joined h.clock r s) else h.records
      | _ ↦ h.records
    ]

    go : (z : Step) → (let r = get_or (after z) q nothing_recorded in TicksUpto r.settled r.events)
    go (step.Publish p number stop e) = put (is_next h.clock (record_of h p) number && elim stop [ None ↦ true | Some s ↦ says_kept ls ]) p (recording h.clock (record_of h p) e) (upto_end (tick_of h.clock (record_of h p)) (record_of h p).events e (upto_later (record_of h p).settled (tick_of h.clock (record_of h p)) (record_of h p).events (omega arith) (u p)))
    go (step.Wake b) = each_upto (λ p r. if is_host net p b then marked net h.clock r else r) (hosted b) 0 h.records u q
    go step.Sweep = swept (is_swept net h)
    go (step.Join s p) = put (may_enter h.clock (record_of h p) s) p (with_joined h.clock (record_of h p) s) (upto_later (record_of h p).settled (tick_of h.clock (record_of h p)) (record_of h p).events (omega arith) (u p))
    go (step.Clock now) = u q
    go (step.Deliver k) = u q
    go (step.Crash b) = u q
    go step.Show = u q
    go (step.Bytes k) = u q

-- Whom an event concerns

-- of a settled event the joins so far say what the last ones do
pub wants_so_far : (net : Net) (last now : Joins) (settled p s t : ℕ) (e : Event) → Grows now last settled → t ≤ settled → wants_with net last p s t e ≡ wants_with net now p s t e
wants_so_far net last now settled p s t e g l =
    ap (λ b. elim (is_late net s) as (λ _. Bool) [ true ↦ net.wants p s t e && b | false ↦ net.wants p s t e ])
    (sym (shows last now (λ u. u ≤ settled) s t (record { rest = g.0; front = g.1; above = λ u k. NoneBelow-lower u settled g.0 k g.2 }) l))

pub owed_same : (f g : ℕ → Event → Bool) (m n : ℕ) (xs : List (ℕ × Event)) → TicksUpto m xs → ((t : ℕ) (e : Event) → t ≤ m → f t e ≡ g t e) → filter (λ x. nat_le x.0 n && f x.0 x.1) xs ≡ filter (λ x. nat_le x.0 n && g x.0 x.1) xs
owed_same f g m n [] u h = refl
owed_same f g m n (x ∷ xs) u h = ap₂ (λ (b : Bool) (ys : List (ℕ × Event)). if (nat_le x.0 n && b) then x ∷ ys else ys) (h x.0 x.1 u.0) (owed_same f g m n xs u.1 h)

upto_at : (m : ℕ) (xs : List (ℕ × Event)) (t : ℕ) (e : Event) → TicksUpto m xs → Contains xs (t, e) → t ≤ m
upto_at m xs t e u c = at xs c.0 u c.1 c.2
  where
    at : (ys : List (ℕ × Event)) (j : ℕ) → TicksUpto m ys → j < length ys → get_or ys j (t, e) ≡ (t, e) → t ≤ m
    at [] j v l q = absurd (omega arith)
    at (y ∷ ys) zero v l q = subst (λ z. z ≤ m) (ap (λ (z : ℕ × Event). z.0) q) v.0
    at (y ∷ ys) (suc j) v l q = at ys j v.1 (omega arith) q

module _ (net : Net) (last : ℕ → Joins) where
  abbrev one : Net
  one = with_wants net (λ p s t e. wants_with net (last p) p s t e)

  doubt_on : (h : History) (b p n : ℕ) → IsDoubt one h b p n → IsDoubt (recorded_net net h) h b p n
  doubt_on h b p n d = record { at_host = d.at_host; below = d.below; ends = d.ends }

  -- so what is expected is the same
  pub expected_on : (h : History) (s p n : ℕ) → RecordedAhead last h → RecordsUpto h.records → expected one h s p n ≡ expected (recorded_net net h) h s p n
  expected_on h s p n a u = owed_same (λ t e. wants_with net (last p) p s t e) (λ t e. wants_with net (record_of h p).joined p s t e) (record_of h p).settled n (record_of h p).events (u p) (λ t e l. wants_so_far net (last p) (record_of h p).joined (record_of h p).settled p s t e (a p) l)

  delivered_on : (h : History) → RecordedAhead last h → RecordsUpto h.records → Delivered one h → Delivered (recorded_net net h) h
  delivered_on h a u d = record {
    got = λ s p i j. d.got s p i j ∙ expected_on h s p (last_horizon s p 0 h.lines) a u;
    doubt = λ s p i j. doubt_on h (net.at s) p (last_horizon s p 0 h.lines) (d.doubt s p i j);
  }

  order_on : (h : History) → RecordedAhead last h → RecordsUpto h.records → InOrder one h → InOrder (recorded_net net h) h
  order_on h a u d = record {
    horizons = d.horizons;
    cuts = d.cuts;
    cut_settled = d.cut_settled;
    cut_got = λ p t xs ys e s v ev c l i w. d.cut_got p t xs ys e s v ev c l i (subst (λ b. IsTrue b) (sym (wants_so_far net (last p) (record_of h p).joined (record_of h p).settled p s v ev (a p) (upto_at (record_of h p).settled (record_of h p).events v ev (u p) c))) w);
  }

  pub after_same : (h : History) (l : Line) (ls : List Report) → history_after one h l ls ≡ history_after net h l ls
  unfolding history_after clock_after most_after records_after heard_after unlogged_after
  after_same h l ls =
      let with_stored : List Stored → History = λ ss. record (history_after net h l ls) { stored = ss } in
      ap with_stored (stored_seen net (λ p s t e. wants_with net (last p) p s t e) h l ls)

  step_on : (h : History) (l : Line) (ls : List Report) → StepReports one h l ls → StepReports net h l ls
  unfolding record_lines records_after
  step_on h l ls s = record { records = s.records; kept = s.kept; reclaims = s.reclaims ∙ behind_seen net (λ p t u e. wants_with net (last p) p t u e) (record_of h) (standing_of h) (filter (λ x. not (is_reclaimed_line x)) ls); doubts_stand = s.doubts_stand; doubts_true = λ b p t c. let d = s.doubts_true b p t c in record { at_host = d.at_host; below = d.below; ends = d.ends } }

  abbrev LastOf : History → List Line → List (List Report) → Type 0
  LastOf h ls rs = (p : ℕ) → (record_of (history net h ls rs) p).joined ≡ last p

  -- where the joins are the last ones nothing is ahead
  last_ahead : (h : History) (ls : List Line) (rs : List (List Report)) → LastOf h ls rs → RecordedAhead last (history net h ls rs)
  last_ahead h ls rs e p = let r = record_of (history net h ls rs) p in subst (λ z. Grows r.joined z r.settled) (e p) (grows_not r.joined r.settled)

  -- what is ahead of a history is ahead of those before it
  pub ahead_from : (h : History) (ls : List Line) (rs : List (List Report)) → RecordedAhead last (history net h ls rs) → RecordedAhead last h
  ahead_from h [] rs a = a
  ahead_from h (l ∷ ls) [] a = a
  ahead_from h (l ∷ ls) (r ∷ rs) a = ahead_back net last h l r (ahead_from (history_after net h l r) ls rs a)

  pub holds_before : (h : History) (ls : List Line) (rs : List (List Report)) → RecordedAhead last (history net h ls rs) → RecordsUpto h.records → Holds_from_by (λ _. one) one h ls rs → Holds_from_by (recorded_net net) net h ls rs
  unfolding history_after
  holds_before h [] [] e u x = (delivered_on h e u x.0, order_on h e u x.1)
  holds_before h (l ∷ ls) (r ∷ rs) e u x =
      let a = ahead_from h (l ∷ ls) (r ∷ rs) e in
      (delivered_on h a u x.0, order_on h a u x.1, step_on h l r x.2, holds_before (history_after net h l r) ls rs e (records_upto net h l r u) (subst (λ z. Holds_from_by (λ _. one) one z ls rs) (after_same h l r) x.3))
  holds_before h [] (r ∷ rs) e u x = absurd x
  holds_before h (l ∷ ls) [] e u x = absurd x

  pub holds_on : (h : History) (ls : List Line) (rs : List (List Report)) → LastOf h ls rs → RecordsUpto h.records → Holds_from_by (λ _. one) one h ls rs → Holds_from_by (recorded_net net) net h ls rs
  holds_on h ls rs e u x = holds_before h ls rs (last_ahead h ls rs e) u x

  -- what is ahead at the end is ahead before
  pub ahead_at : (h : History) (ls : List Line) (rs : List (List Report)) → LastOf h ls rs → RecordedAhead last h
  ahead_at h ls rs e = ahead_from h ls rs (last_ahead h ls rs e)
