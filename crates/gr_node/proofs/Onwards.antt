-- How a log goes on: with a record that it logs, with a cut, and through one call after another
use Rattle.std.proofs.Common.{◌≡◌, ℕ, suc, ◌+◌, ◌-◌, ◌≤◌, max, Bool, true, false, List, [], ◌∷◌, ◌++◌, refl, sym, ap, ◌∙◌, arith, append-nil, append_assoc, le_refl}
use Rattle.std.specs.Prelude.{nat_le, nat_lt, if◌then◌else◌, Option, Some, None}
use Rattle.std.proofs.lemmas.Bool.{leb-true, leb-false}
use Rattle.std.proofs.lemmas.List.Elements.{filter-append}
use Rattle.gr_event.specs.declared.event.Event.{Event}
use Rattle.gr_event.specs.Joins.{Joins, has_joined}
use Rattle.gr_know.specs.Values.{Known}
use Rattle.gr_know.specs.declared.values.K.TheVariants.{D}
use Rattle.gr_publog.specs.declared.record.Record.{Record}
use Rattle.gr_publog.specs.declared.record.Record.TheVariants as entry
use Rattle.gr_publog.specs.State.{LogState, after_record, max_tick}
use Rattle.gr_publog.specs.Calls.{state_if, appended_if}
use Rattle.gr_publog.specs.Views.{LogView, appended, reclaimed}
use Rattle.gr_pubend.specs.Log.{Log, past, pairs, said, silence, reclaims}
use Rattle.gr_pubend.specs.Answers.{published, quieted, joined_at, event_of, mark_of, join_of}
use Rattle.gr_pubend.specs.declared.answers.Published.{Published}
use Rattle.gr_pubend.specs.declared.answers.Published.TheVariants.{Logged, Already, Gap, Exhausted}
use Rattle.gr_pubend.specs.declared.answers.Quieted.{Quieted}
use Rattle.gr_pubend.specs.declared.answers.Quieted.TheVariants.{NotYet, Marked}
use Rattle.gr_pubend.specs.declared.answers.Joined.{Joined}
use Rattle.gr_pubend.specs.declared.answers.Joined.TheVariants as joins
use Rattle.gr_pubend.specs.Cuts.{cut_if, cut_state}
use Rattle.gr_pubend.proofs.Found.{pairs_past, past_twice}
use Rattle.gr_pubend.proofs.Opening.{pairs_more}
use Rattle.gr_model.specs.declared.report.Report.{Report}
use Rattle.gr_node.specs.Lasting.{Onward, IsAlike, SettlesOn, log_read}
use Rattle.gr_node.specs.Submitted.{RiseWithin, Logs}

-- Events past a tick

pub past_append : (t : ℕ) (xs ys : List (ℕ × Event)) → past t (xs ++ ys) ≡ past t xs ++ past t ys
past_append t xs ys = filter-append (λ x. nat_lt t x.0) xs ys

-- what agrees past a tick agrees past a later one
pub past_later : (cut t : ℕ) (xs ys : List (ℕ × Event)) → cut ≤ t → past cut xs ≡ past cut ys → past t xs ≡ past t ys
past_later cut t xs ys l e = sym (past_twice cut t xs l) ∙ (ap (past t) e ∙ past_twice cut t ys l)

-- what stands past a cut, and then past a later one
pub past_on : (a b : ℕ) (xs ys zs more new : List (ℕ × Event)) → a ≤ b → past a ys ≡ past a (xs ++ more) → past b zs ≡ past b (ys ++ new) → past b zs ≡ past b (xs ++ (more ++ new))
past_on a b xs ys zs more new l one two =
    two
    ∙ (past_append b ys new
    ∙ (ap (λ (l : List (ℕ × Event)). l ++ past b new) (past_later a b ys (xs ++ more) l one)
    ∙ (sym (past_append b (xs ++ more) new) ∙ ap (past b) (append_assoc xs more new))))

-- Logs

pub onward_alike : (l m : Log) → IsAlike l m → Onward l m
onward_alike l m a = record {
  last = omega (arith, a.last);
  settled = omega (arith, a.settled);
  cut = omega (arith, a.cut);
  more_joins = [];
  joins = a.joins ∙ sym (append-nil l.joins);
  more = [];
  events = ap (past m.cut) (a.events ∙ sym (append-nil l.events));
}

-- one that is settled further
pub settles_onward : (l m : Log) → SettlesOn l m → Onward l m
settles_onward l m a = record {
  last = omega (arith, a.last);
  settled = a.settled;
  cut = omega (arith, a.cut);
  more_joins = [];
  joins = a.joins ∙ sym (append-nil l.joins);
  more = [];
  events = ap (past m.cut) (a.events ∙ sym (append-nil l.events));
}

pub onward_then : (l m k : Log) → Onward l m → Onward m k → Onward l k
onward_then l m k x y = record {
  last = omega (arith, x.last, y.last);
  settled = omega (arith, x.settled, y.settled);
  cut = omega (arith, x.cut, y.cut);
  more_joins = x.more_joins ++ y.more_joins;
  joins = y.joins ∙ (ap (λ (js : Joins). js ++ y.more_joins) x.joins ∙ append_assoc l.joins x.more_joins y.more_joins);
  more = x.more ++ y.more;
  events = past_on m.cut k.cut l.events m.events k.events x.more y.more y.cut x.events y.events;
}

-- what a view says, and what its state reads as
pub said_read : (l : LogView) → IsAlike (said l) (log_read l.state)
said_read l = record { last = refl; settled = refl; cut = refl; events = refl; joins = refl }

pub read_said : (l : LogView) → IsAlike (log_read l.state) (said l)
read_said l = record { last = refl; settled = refl; cut = refl; events = refl; joins = refl }

-- With one record more

module _ (s : LogState) where
  same : Onward (log_read s) (log_read s)
  same = onward_alike (log_read s) (log_read s) (record { last = refl; settled = refl; cut = refl; events = refl; joins = refl })

  with_event : (tick number : ℕ) (e : Event) → s.last ≤ number → s.settled ≤ tick → Onward (log_read s) (log_read (after_record s (entry.Event tick number e)))
  with_event tick number e last settled = record {
    last = last;
    settled = settled;
    cut = le_refl s.cut;
    more_joins = [];
    joins = sym (append-nil s.joins);
    more = (tick, e) ∷ [];
    events = ap (past s.cut) (pairs_more s.events (record { tick = tick; number = number; event = e }));
  }

  with_join : (tick x : ℕ) → s.settled ≤ tick → Onward (log_read s) (log_read (after_record s (entry.Join tick x)))
  with_join tick x settled = record {
    last = le_refl s.last;
    settled = settled;
    cut = le_refl s.cut;
    more_joins = record { subscriber = x; tick = tick } ∷ [];
    joins = refl;
    more = [];
    events = ap (past s.cut) (sym (append-nil (pairs s.events)));
  }

  with_cut : (tick : ℕ) → s.cut ≤ tick → Onward (log_read s) (log_read (after_record s (entry.Cut tick)))
  with_cut tick cut = record {
    last = le_refl s.last;
    settled = le_refl s.settled;
    cut = cut;
    more_joins = [];
    joins = sym (append-nil s.joins);
    more = [];
    events = ap (past tick) (pairs_past tick s.events) ∙ (past_twice tick tick (pairs s.events) (le_refl tick) ∙ ap (past tick) (sym (append-nil (pairs s.events))));
  }

-- What calls log

module _ (l : LogView) where
  abbrev s : LogState
  s = l.state

  pub publish_onward : (number : ℕ) (e : Event) (now : ℕ) → Onward (log_read s) (log_read (state_if (event_of (published (said l) number e now) number e) s))
  unfolding published
  publish_onward number e now = go (nat_le number s.last) (nat_lt (suc s.last) number) (nat_lt max_tick at) refl
    where
      at : ℕ
      at = max (suc s.settled) now

      news : Known
      news = silence (suc s.settled) (at - 1) (record { first = at; last = at; value = D e } ∷ [])

      go : (a b c : Bool) → nat_le number s.last ≡ a →
          (let answer : Published = elim a [ true ↦ Already | false ↦ elim b [ true ↦ Gap (suc s.last) | false ↦ elim c [ true ↦ Exhausted | false ↦ Logged at news ] ] ] in
          Onward (log_read s) (log_read (state_if (event_of answer number e) s)))
      go true b c x = same s
      go false true c x = same s
      go false false true x = same s
      go false false false x = with_event s at number e (omega (arith, leb-false number s.last x)) (omega arith)

  -- what a mark adds, where there is one, is settled alone
  pub mark_settles : (now quiet : ℕ) → SettlesOn (log_read s) (log_read (state_if (mark_of (quieted (said l) now quiet)) s))
  unfolding quieted
  mark_settles now quiet = go (nat_le (s.settled + quiet) now) refl
    where
      news : Known
      news = silence (suc s.settled) now []

      go : (a : Bool) → nat_le (s.settled + quiet) now ≡ a → (let answer : Quieted = elim a [ true ↦ Marked now news | false ↦ NotYet ] in SettlesOn (log_read s) (log_read (state_if (mark_of answer) s)))
      go true x = record { last = refl; settled = omega (arith, leb-true (s.settled + quiet) now x); cut = refl; events = refl; joins = refl }
      go false x = record { last = refl; settled = le_refl s.settled; cut = refl; events = refl; joins = refl }

  pub join_onward : (x now : ℕ) → Onward (log_read s) (log_read (state_if (join_of (joined_at (said l) x now) x) s))
  unfolding joined_at
  join_onward x now = go (has_joined s.joins x) (nat_lt max_tick at)
    where
      at : ℕ
      at = max (suc s.settled) now

      news : Known
      news = silence (suc s.settled) at []

      go : (a b : Bool) → (let answer : Joined = elim a [ true ↦ joins.Already | false ↦ elim b [ true ↦ joins.Exhausted | false ↦ joins.Logged at news ] ] in Onward (log_read s) (log_read (state_if (join_of answer x) s)))
      go true b = same s
      go false true = same s
      go false false = with_join s at x (omega arith)

-- a cut past the last one
pub cut_onward : (s : LogState) (cut : Option ℕ) → ((tick : ℕ) → cut ≡ Some tick → s.cut ≤ tick) → Onward (log_read s) (log_read (cut_state cut s))
cut_onward s None later = same s
cut_onward s (Some tick) later = with_cut s tick (later tick refl)

-- the view with a record, or none, and cut, or not, is of the state so
pub appended_alike : (r : Option Record) (l : LogView) → IsAlike (log_read (state_if r l.state)) (said (appended_if r l))
appended_alike None l = read_said l
appended_alike (Some r) l = record { last = refl; settled = refl; cut = refl; events = refl; joins = refl }

pub cut_alike : (cut : Option ℕ) (reclaim : ℕ) (l : LogView) → IsAlike (log_read (cut_state cut l.state)) (said (cut_if cut reclaim l))
cut_alike None reclaim l = read_said l
cut_alike (Some tick) reclaim l = go (reclaims reclaim l.size l.generation)
  where
    go : (b : Bool) → IsAlike (log_read (after_record l.state (entry.Cut tick))) (said (if b then reclaimed tick l else appended (entry.Cut tick) l))
    go true = record { last = refl; settled = refl; cut = refl; events = refl; joins = refl }
    go false = record { last = refl; settled = refl; cut = refl; events = refl; joins = refl }

-- A log that got events goes on
pub logs_onward : (p : ℕ) (l m : Log) (told : List Report) (new : List (ℕ × Event)) → Logs p l m told new → Onward l m
logs_onward p l m told new g = record {
  last = let e = g.last in omega (arith, e);
  settled = rises l.settled m.settled new g.ticks;
  cut = g.cut;
  more_joins = g.joined.0;
  joins = g.joined.1;
  more = new;
  events = g.events;
}
  where
    rises : (a b : ℕ) (xs : List (ℕ × Event)) → RiseWithin a b xs → a ≤ b
    rises a b [] h = h
    rises a b (x ∷ xs) h = omega (arith, h.0, rises x.0 b xs h.1)
