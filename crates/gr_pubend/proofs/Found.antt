-- What is said of a log that is in order: its events rise from its cut up to what is settled, and it goes on with each record
-- and each cut
use Rattle.std.proofs.Common.{◌≡◌, ℕ, suc, ◌+◌, ◌-◌, ◌==◌, ◌≤◌, Bool, true, false, List, [], ◌∷◌, ◌++◌, length, refl, sym, ap, ap₂, ◌∙◌, arith}
use Rattle.std.specs.Prelude.{nat_lt, if◌then◌else◌, filter}
use Rattle.std.specs.List.{AllByRecursion}
use Rattle.std.proofs.lemmas.Bool.{ltb-true, ltb-false, eqb-true, and_parts}
use Rattle.gr_event.specs.declared.event.Event.{Event}
use Rattle.gr_event.specs.Limits.{IsEvent}
use Rattle.gr_event.specs.Joins.{Joins, JoinsRise}
use Rattle.gr_publog.specs.declared.record.Record.{Record}
use Rattle.gr_publog.specs.declared.record.Record.TheVariants as entry
use Rattle.gr_publog.specs.declared.record.Entry.{Entry}
use Rattle.gr_publog.specs.State.{LogState, after_record, numbers, may_settle, may_follow, EventsRise, EventsUpto, Apart, IsState}
use Rattle.gr_publog.specs.Filled.{filled_size, size_filled as size_of_state, last_event as last_of, events_room as room_of, greatest_tick as greatest_of}
use Rattle.gr_publog.specs.Views.{LogView, appended, reclaimed}
use Rattle.gr_publog.proofs.Filled.{same_size_of}
use Rattle.gr_publog.proofs.Entering.{left_apart}
use Rattle.gr_pubend.specs.Log.{Log, said, pairs, past, with_entry, with_cut, events_room, last_event, greatest_tick, joins_room, size_filled, filled_log, cut_log_at, reclaims}
use Rattle.gr_pubend.specs.Cuts.{cut_view}
use Rattle.gr_pubend.specs.Found.{PairsRise, IsLive, IsSettled, SaidGoesOn}
use Rattle.gr_pubend.proofs.Opening.{pairs_more}

-- The events

pairs_rise : (from n : ℕ) (es : List Entry) → EventsRise from n es → PairsRise from (pairs es)
pairs_rise from n [] r = tt
pairs_rise from n (e ∷ es) r = (r.0, pairs_rise e.tick e.number es r.1.1)

live_all : (cut from n top : ℕ) (es : List Entry) → cut ≤ from → EventsRise from n es → EventsUpto top es → AllByRecursion (λ e. IsEvent e.event) es → AllByRecursion (IsLive cut top) (pairs es)
live_all cut from n top [] le r u a = tt
live_all cut from n top (e ∷ es) le r u a = (
  record { past = omega (arith, le, r.0); upto = u.0; event = a.0 },
  live_all cut e.tick e.number top es (omega (arith, le, r.0)) r.1.1 u.1 a.1,
)

pub said_settled : (l : LogView) → IsState l.state → IsSettled (said l)
said_settled l i = record {
  rise = pairs_rise l.state.cut (l.state.last - length l.state.events) l.state.events i.rise;
  live = live_all l.state.cut l.state.cut (l.state.last - length l.state.events) l.state.settled l.state.events (omega arith) i.rise i.upto i.events;
  cut = i.cut;
  settled = i.settled;
}

-- those that a cut leaves
pub pairs_past : (tick : ℕ) (es : List Entry) → pairs (filter (λ e. nat_lt tick e.tick) es) ≡ past tick (pairs es)
pairs_past tick [] = refl
pairs_past tick (e ∷ es) = go (nat_lt tick e.tick) (pairs_past tick es)
  where
    go : (b : Bool) → pairs (filter (λ x. nat_lt tick x.tick) es) ≡ past tick (pairs es)
        → pairs (if b then e ∷ filter (λ x. nat_lt tick x.tick) es else filter (λ x. nat_lt tick x.tick) es) ≡ (if b then (e.tick, e.event) ∷ past tick (pairs es) else past tick (pairs es))
    go true h = ap (λ (xs : List (ℕ × Event)). (e.tick, e.event) ∷ xs) h
    go false h = h

-- behind a cut nothing more is cut by it
pub past_twice : (cut tick : ℕ) (xs : List (ℕ × Event)) → cut ≤ tick → past tick (past cut xs) ≡ past tick xs
past_twice cut tick [] l = refl
past_twice cut tick (x ∷ xs) l = go (nat_lt cut x.0) (nat_lt tick x.0) refl refl (past_twice cut tick xs l)
  where
    go : (a b : Bool) → nat_lt cut x.0 ≡ a → nat_lt tick x.0 ≡ b → past tick (past cut xs) ≡ past tick xs
        → past tick (if a then x ∷ past cut xs else past cut xs) ≡ (if b then x ∷ past tick xs else past tick xs)
    go true b p q h = ap₂ (λ (c : Bool) (r : List (ℕ × Event)). if c then x ∷ r else r) q h
    go false true p q h = absurd (omega (arith, l, ltb-true tick x.0 q, ltb-false cut x.0 p))
    go false false p q h = h

-- With a record

-- logs are the same by their parts that differ
same_parts : (l : Log) (last last' settled : ℕ) (events events' : List (ℕ × Event)) (joins : Joins) (size size' : ℕ) → last ≡ last' → events ≡ events' → size ≡ size'
    → ◌≡◌ {A = Log}
    (record { last = last; settled = settled; cut = l.cut; events = events; joins = joins; generation = l.generation; size = size; forgets = l.forgets })
    (record { last = last'; settled = settled; cut = l.cut; events = events'; joins = joins; generation = l.generation; size = size'; forgets = l.forgets })
same_parts l last last' settled events events' joins size size' a b c =
    ap (λ (n : ℕ). let x : Log = record { last = n; settled = settled; cut = l.cut; events = events; joins = joins; generation = l.generation; size = size; forgets = l.forgets } in x) a
    ∙ ap₂ (λ (es : List (ℕ × Event)) (n : ℕ). let x : Log = record { last = last'; settled = settled; cut = l.cut; events = es; joins = joins; generation = l.generation; size = n; forgets = l.forgets } in x) b c

-- a cut may always be said
pub cut_more : (l : LogView) (tick : ℕ) → said (appended (entry.Cut tick) l) ≡ with_cut (said l) tick
cut_more l tick =
    same_parts (with_cut (said l) tick) l.state.last l.state.last l.state.settled (pairs (filter (λ e. nat_lt tick e.tick) l.state.events)) (past tick (pairs l.state.events)) l.state.joins _ _
    refl (pairs_past tick l.state.events) (omega arith)

pub said_more : (l : LogView) (r : Record) → may_follow l.state r ≡ true → said (appended r l) ≡ with_entry (said l) r
said_more l (entry.Event tick number e) may =
    let k = and_parts (may_settle (numbers l.state) tick) (number == l.state.last + 1) may in
    same_parts (said l) number (suc l.state.last) tick (pairs (l.state.events ++ record { tick = tick; number = number; event = e } ∷ [])) (pairs l.state.events ++ (tick, e) ∷ []) l.state.joins _ _
    (omega (arith, eqb-true number (l.state.last + 1) k.1)) (pairs_more l.state.events (record { tick = tick; number = number; event = e })) (omega arith)
said_more l (entry.Mark tick) may = same_parts (said l) l.state.last l.state.last tick (pairs l.state.events) (pairs l.state.events) l.state.joins _ _ refl refl (omega arith)
said_more l (entry.Cut tick) may = cut_more l tick
said_more l (entry.Join tick s) may =
    same_parts (said l) l.state.last l.state.last tick (pairs l.state.events) (pairs l.state.events) (l.state.joins ++ record { subscriber = s; tick = tick } ∷ []) _ _ refl refl (omega arith)

-- Written anew

rooms : (es : List Entry) → room_of es ≡ events_room (pairs es)
rooms [] = refl
rooms (e ∷ es) = omega (arith, rooms es)

lasts : (tick : ℕ) (es : List Entry) → last_of tick es ≡ last_event tick (pairs es)
lasts tick [] = refl
lasts tick (e ∷ es) = lasts e.tick es

greatest : (cut : ℕ) (es : List Entry) (js : Joins) → greatest_of cut es js ≡ greatest_tick cut (pairs es) js
greatest cut es js = omega (arith, lasts cut es)

-- the size is that of the pairs
pub same_filled : (cut settled : ℕ) (es : List Entry) (js : Joins) → size_of_state cut settled es js ≡ size_filled cut settled (pairs es) js
unfolding size_filled
same_filled cut settled es js =
    ap₂ (λ (n g : ℕ). 33 + n + joins_room cut js + (if nat_lt g settled then 10 else 0)) (rooms es) (greatest cut es js)

module _ (l : LogView) (tick : ℕ) (rise : JoinsRise 0 l.state.joins) (apart : Apart l.state.events l.state.joins) where
  pub said_anew_of : said (reclaimed tick l) ≡ filled_log (with_cut (said l) tick)
  said_anew_of =
      let state : LogState = after_record l.state (entry.Cut tick) in
      let events : pairs state.events ≡ past tick (pairs l.state.events) = pairs_past tick l.state.events in
      let size : filled_size state ≡ size_filled tick l.state.settled (past tick (past tick (pairs l.state.events))) l.state.joins =
      same_size_of state rise (left_apart tick l.state.events l.state.joins apart)
      ∙ (same_filled tick l.state.settled state.events l.state.joins
      ∙ ap (λ (xs : List (ℕ × Event)). size_filled tick l.state.settled xs l.state.joins) (events ∙ sym (past_twice tick tick (pairs l.state.events) (omega arith)))) in
      same_parts (filled_log (with_cut (said l) tick)) l.state.last l.state.last l.state.settled (pairs state.events) (past tick (pairs l.state.events)) l.state.joins _ _ refl events size

  pub said_cut_of : (reclaim : ℕ) → said (cut_view reclaim tick l) ≡ cut_log_at reclaim (said l) tick
  said_cut_of reclaim = go (reclaims reclaim l.size l.generation)
    where
      go : (b : Bool) → said (if b then reclaimed tick l else appended (entry.Cut tick) l) ≡ (if b then filled_log (with_cut (said l) tick) else with_cut (said l) tick)
      go true = said_anew_of
      go false = cut_more l tick

pub goes_on : SaidGoesOn
goes_on = record {
  appended = said_more;
  reclaimed = λ l tick i. said_anew_of l tick i.held.joins.rise i.apart;
  cut = λ reclaim l tick i. said_cut_of l tick i.held.joins.rise i.apart reclaim;
}
