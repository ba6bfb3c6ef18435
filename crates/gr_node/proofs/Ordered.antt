-- What holds of each log that a hosted broker has, whatever is logged: its joins rise, no event has the tick of a join, and no tick is
-- past what is settled. It is less than what holds of a state, and needs nothing of the events
use Rattle.std.proofs.Common.{◌≡◌, ℕ, suc, ◌+◌, ◌-◌, ◌^◌, ◌<◌, ◌≤◌, max, Bool, true, false, List, [], ◌∷◌, ◌++◌, Option, Some, None, refl, subst, arith}
use Rattle.std.specs.Prelude.{nat_le, nat_lt, if◌then◌else◌, filter}
use Rattle.std.proofs.lemmas.Bool.{leb-true, ltb-false}
use Rattle.gr_event.specs.declared.event.Event.{Event}
use Rattle.gr_event.specs.declared.join.Join.{Join}
use Rattle.gr_event.specs.declared.limits.TheConstants.{MAX_JOIN_TICK}
use Rattle.gr_event.specs.Joins.{Joins, JoinsRise, has_joined}
use Rattle.gr_know.specs.Values.{Known}
use Rattle.gr_know.specs.declared.values.K.TheVariants.{D}
use Rattle.gr_publog.specs.declared.record.Entry.{Entry}
use Rattle.gr_publog.specs.declared.record.Record.{Record}
use Rattle.gr_publog.specs.declared.record.Record.TheVariants as entry
use Rattle.gr_publog.specs.State.{LogState, after_record, IsState, EventsUpto, Apart, JoinsUpto, max_tick}
use Rattle.gr_publog.specs.Views.{LogView, appended, reclaimed}
use Rattle.gr_publog.specs.Calls.{appended_if}
use Rattle.gr_publog.proofs.Entering.{upto_up, upto_more, apart_event, apart_join, left_apart}
use Rattle.gr_pubend.specs.Log.{said, silence, reclaims}
use Rattle.gr_pubend.specs.Answers.{published, quieted, joined_at, event_of, mark_of, join_of}
use Rattle.gr_pubend.specs.declared.answers.Published.{Published}
use Rattle.gr_pubend.specs.declared.answers.Published.TheVariants.{Logged, Already, Gap, Exhausted}
use Rattle.gr_pubend.specs.declared.answers.Quieted.{Quieted}
use Rattle.gr_pubend.specs.declared.answers.Quieted.TheVariants.{NotYet, Marked}
use Rattle.gr_pubend.specs.declared.answers.Joined.{Joined}
use Rattle.gr_pubend.specs.declared.answers.Joined.TheVariants as joins
use Rattle.gr_pubend.specs.Cuts.{cut_if}
use Rattle.gr_broker.specs.Seen.{with_logged, with_cut_if}

pub record IsOrdered (s : LogState) : Type 0 where
  pub rise : JoinsRise 0 s.joins
  pub upto : JoinsUpto s.settled s.joins
  pub apart : Apart s.events s.joins
  pub events : EventsUpto s.settled s.events

pub state_ordered : (s : LogState) → IsState s → IsOrdered s
state_ordered s i = record { rise = i.held.joins.rise; upto = i.held.upto; apart = i.apart; events = i.upto }

-- further ticks

events_up : (top t : ℕ) (es : List Entry) → top ≤ t → EventsUpto top es → EventsUpto t es
events_up top t [] l u = tt
events_up top t (e ∷ es) l u = (omega (arith, l, u.0), events_up top t es l u.1)

events_more : (t : ℕ) (es : List Entry) (e : Entry) → EventsUpto t es → e.tick ≤ t → EventsUpto t (es ++ e ∷ [])
events_more t [] e u l = (l, tt)
events_more t (x ∷ es) e u l = (u.0, events_more t es e u.1 l)

events_left : (t top : ℕ) (es : List Entry) → EventsUpto top es → EventsUpto top (filter (λ e. nat_lt t e.tick) es)
events_left t top [] u = tt
events_left t top (e ∷ es) u = go (nat_lt t e.tick) (events_left t top es u.1)
  where
    go : (b : Bool) → EventsUpto top (filter (λ x. nat_lt t x.tick) es) → EventsUpto top (if b then e ∷ filter (λ x. nat_lt t x.tick) es else filter (λ x. nat_lt t x.tick) es)
    go true h = (u.0, h)
    go false h = h

joins_more : (from top : ℕ) (js : Joins) (j : Join) → from ≤ top → JoinsRise from js → JoinsUpto top js → top < j.tick → j.tick ≤ MAX_JOIN_TICK → j.subscriber < 2 ^ 16 → JoinsRise from (js ++ j ∷ [])
joins_more from top [] j l r u past most small = (omega (arith, l, past), most, small, tt)
joins_more from top (x ∷ js) j l r u past most small = (r.0, r.1, r.2, joins_more x.tick top js j u.0 r.3 u.1 past most small)

-- One record more

module _ (s : LogState) (o : IsOrdered s) where
  with_event : (tick number : ℕ) (e : Event) → s.settled < tick → IsOrdered (after_record s (entry.Event tick number e))
  with_event tick number e later = record {
    rise = o.rise;
    upto = upto_up s.settled tick s.joins (omega (arith, later)) o.upto;
    apart = apart_event s.events (record { tick = tick; number = number; event = e }) s.joins s.settled o.apart o.upto later;
    events = events_more tick s.events (record { tick = tick; number = number; event = e }) (events_up s.settled tick s.events (omega (arith, later)) o.events) (omega arith);
  }

  with_mark : (tick : ℕ) → s.settled ≤ tick → IsOrdered (after_record s (entry.Mark tick))
  with_mark tick later = record {
    rise = o.rise;
    upto = upto_up s.settled tick s.joins later o.upto;
    apart = o.apart;
    events = events_up s.settled tick s.events later o.events;
  }

  with_join : (tick x : ℕ) → s.settled < tick → tick ≤ max_tick → x < 2 ^ 16 → IsOrdered (after_record s (entry.Join tick x))
  with_join tick x later most small =
      let j : Join = record { subscriber = x; tick = tick } in
      record {
        rise = joins_more 0 s.settled s.joins j (omega arith) o.rise o.upto later most small;
        upto = upto_more tick s.joins j (upto_up s.settled tick s.joins (omega (arith, later)) o.upto) (omega arith);
        apart = apart_join s.settled s.events s.joins j o.apart o.events later;
        events = events_up s.settled tick s.events (omega (arith, later)) o.events;
      }

  pub with_cut : (tick : ℕ) → IsOrdered (after_record s (entry.Cut tick))
  with_cut tick = record { rise = o.rise; upto = o.upto; apart = left_apart tick s.events s.joins o.apart; events = events_left tick s.settled s.events o.events }

-- What calls log

module _ (l : LogView) (o : IsOrdered l.state) where
  pub ordered_publish : (number : ℕ) (e : Event) (now : ℕ) → IsOrdered (appended_if (event_of (published (said l) number e now) number e) l).state
  unfolding published
  ordered_publish number e now = go (nat_le number l.state.last) (nat_lt (suc l.state.last) number) (nat_lt max_tick at)
    where
      at : ℕ
      at = max (suc l.state.settled) now

      news : Known
      news = silence (suc l.state.settled) (at - 1) (record { first = at; last = at; value = D e } ∷ [])

      go : (a b c : Bool) →
          (let answer : Published = elim a [ true ↦ Already | false ↦ elim b [ true ↦ Gap (suc l.state.last) | false ↦ elim c [ true ↦ Exhausted | false ↦ Logged at news ] ] ] in
          IsOrdered (appended_if (event_of answer number e) l).state)
      go true b c = o
      go false true c = o
      go false false true = o
      go false false false = with_event l.state o at number e (omega arith)

  pub ordered_mark : (now quiet : ℕ) → IsOrdered (appended_if (mark_of (quieted (said l) now quiet)) l).state
  unfolding quieted
  ordered_mark now quiet = go (nat_le (l.state.settled + quiet) now) refl
    where
      news : Known
      news = silence (suc l.state.settled) now []

      go : (a : Bool) → nat_le (l.state.settled + quiet) now ≡ a → (let answer : Quieted = elim a [ true ↦ Marked now news | false ↦ NotYet ] in IsOrdered (appended_if (mark_of answer) l).state)
      go true x = with_mark l.state o now (omega (arith, leb-true (l.state.settled + quiet) now x))
      go false x = o

  pub ordered_join : (x now : ℕ) → x < 2 ^ 16 → IsOrdered (appended_if (join_of (joined_at (said l) x now) x) l).state
  unfolding joined_at
  ordered_join x now small = go (has_joined l.state.joins x) (nat_lt max_tick at) refl
    where
      at : ℕ
      at = max (suc l.state.settled) now

      news : Known
      news = silence (suc l.state.settled) at []

      go : (a b : Bool) → nat_lt max_tick at ≡ b →
          (let answer : Joined = elim a [ true ↦ joins.Already | false ↦ elim b [ true ↦ joins.Exhausted | false ↦ joins.Logged at news ] ] in
          IsOrdered (appended_if (join_of answer x) l).state)
      go true b h = o
      go false true h = o
      go false false h = with_join l.state o at x (omega arith) (ltb-false max_tick at h) small

-- and a cut
pub ordered_cut : (l : LogView) → IsOrdered l.state → (cut : Option ℕ) (reclaim : ℕ) → IsOrdered (cut_if cut reclaim l).state
ordered_cut l o None reclaim = o
ordered_cut l o (Some tick) reclaim = go (reclaims reclaim l.size l.generation)
  where
    go : (b : Bool) → IsOrdered (if b then reclaimed tick l else appended (entry.Cut tick) l).state
    go true = with_cut l.state o tick
    go false = with_cut l.state o tick

-- Logs that may be there

pub ordered_logged : (o : Option LogView) (r : Option Record) → ((l : LogView) → o ≡ Some l → IsOrdered (appended_if r l).state) → (k : LogView) → with_logged o r ≡ Some k → IsOrdered k.state
ordered_logged None r h k e = absurd (cc e)
ordered_logged (Some l) None h k e = let is : l ≡ k = cc in subst (λ (m : LogView). IsOrdered m.state) is (h l refl)
ordered_logged (Some l) (Some r) h k e = let is : appended r l ≡ k = cc in subst (λ (m : LogView). IsOrdered m.state) is (h l refl)

pub ordered_cut_if : (o : Option LogView) (cut : Option ℕ) (reclaim : ℕ) → ((l : LogView) → o ≡ Some l → IsOrdered l.state) → (k : LogView) → with_cut_if o cut reclaim ≡ Some k → IsOrdered k.state
ordered_cut_if None cut reclaim h k e = absurd (cc e)
ordered_cut_if (Some l) cut reclaim h k e = let is : cut_if cut reclaim l ≡ k = cc in subst (λ (m : LogView). IsOrdered m.state) is (ordered_cut l (h l refl) cut reclaim)
