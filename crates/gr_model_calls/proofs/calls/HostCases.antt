-- What holds of each answer of the log holds of a publish, and of a time of silence, since these only follow the answer
use Rattle.std.proofs.Common.{◌≡◌, ℕ, suc, ◌+◌, ◌-◌, ◌≤◌, ◌<◌, max, Bool, true, false, [], ◌∷◌, refl, arith}
use Rattle.std.specs.Prelude.{nat_le, nat_lt}
use Rattle.std.proofs.lemmas.Bool.{leb-true, ltb-true, ltb-false, leb-false}
use Rattle.gr_event.specs.declared.event.Event.{Event}
use Rattle.gr_know.specs.declared.values.K.TheVariants.{D}
use Rattle.gr_know.specs.Values.{Known}
use Rattle.gr_pubend.specs.declared.answers.Published.TheVariants.{Logged, Already, Gap, Exhausted}
use Rattle.gr_pubend.specs.declared.answers.Quieted.TheVariants.{NotYet, Marked}
use Rattle.gr_pubend.specs.declared.answers.Joined.TheVariants as joins
use Rattle.gr_event.specs.Joins.{has_joined}
use Rattle.gr_model.specs.declared.report.Report.TheVariants as line
use Rattle.gr_model.specs.Net.{Net}
use Rattle.gr_model.specs.Broker.{View, Log, Outcome, max_tick, learn, silence, published, quieted, unmoved, says, with_mark, publish_by, publish, marking_by, marking, joining, joining_by, joined_at}

-- the event at its tick, with the silence before it
abbrev pub news_of : Log → ℕ → Event → Known
news_of log tick e = silence (suc log.settled) (tick - 1) (record { first = tick; last = tick; value = D e } ∷ [])

-- what holds of each answer of a publish holds of the publish
pub publish_cases : (net : Net) (p b now number : ℕ) (e : Event) (v : View) (log : Log) (P : Outcome → Type 0) →
    (number ≤ log.last → P (says v log (line.Already p number))) →
    (suc log.last < number → P (says v log (line.Gap p number (suc log.last)))) →
    (number ≡ suc log.last → max_tick < max (suc log.settled) now → P (says v log (line.Exhausted p number))) →
    (number ≡ suc log.last → max (suc log.settled) now ≤ max_tick → P (publish_by net p b number e v log (Logged (max (suc log.settled) now) (news_of log (max (suc log.settled) now) e)))) →
    P (publish net p b now number e v log)
unfolding publish published
publish_cases net p b now number e v log P already gap exhausted logged = at (nat_le number log.last) (nat_lt (suc log.last) number) (nat_lt max_tick tick) refl refl refl
  where
    tick : ℕ
    tick = max (suc log.settled) now

    at : (x y z : Bool) → nat_le number log.last ≡ x → nat_lt (suc log.last) number ≡ y → nat_lt max_tick tick ≡ z →
        P (publish_by net p b number e v log (elim x [ true ↦ Already | false ↦ elim y [ true ↦ Gap (suc log.last) | false ↦ elim z [ true ↦ Exhausted | false ↦ Logged tick (news_of log tick e) ] ] ]))
    at true y z a c d = already (leb-true number log.last a)
    at false true z a c d = gap (ltb-true (suc log.last) number c)
    at false false true a c d = exhausted (omega (arith, leb-false number log.last a, ltb-false (suc log.last) number c)) (ltb-true max_tick tick d)
    at false false false a c d = logged (omega (arith, leb-false number log.last a, ltb-false (suc log.last) number c)) (ltb-false max_tick tick d)

-- and so it is of a time of silence
pub marking_cases : (net : Net) (p b now : ℕ) (v : View) (log : Log) (P : Outcome → Type 0) →
    (nat_le (log.settled + net.quiet) now ≡ true → P (learn net p b (silence (suc log.settled) now []) v (with_mark log now))) →
    (nat_le (log.settled + net.quiet) now ≡ false → P (unmoved v log)) → P (marking net p b now v log)
unfolding marking quieted
marking_cases net p b now v log P marked still = at (nat_le (log.settled + net.quiet) now) refl
  where
    at : (q : Bool) → nat_le (log.settled + net.quiet) now ≡ q → P (marking_by net p b v log (elim q [ true ↦ Marked now (silence (suc log.settled) now []) | false ↦ NotYet ]))
    at true e = marked e
    at false e = still e

-- and of a join
pub joining_cases : (net : Net) (p b now s : ℕ) (v : View) (log : Log) (P : Outcome → Type 0) →
    (has_joined log.joins s ≡ true → P (says v log (line.AlreadyJoined s p))) →
    (has_joined log.joins s ≡ false → max_tick < max (suc log.settled) now → P (says v log (line.ExhaustedJoin s p))) →
    (has_joined log.joins s ≡ false → max (suc log.settled) now ≤ max_tick → P (joining_by net p b s v log (joins.Logged (max (suc log.settled) now) (silence (suc log.settled) (max (suc log.settled) now) [])))) →
    P (joining net p b now s v log)
unfolding joining joined_at
joining_cases net p b now s v log P already exhausted logged = at (has_joined log.joins s) (nat_lt max_tick tick) refl refl
  where
    tick : ℕ
    tick = max (suc log.settled) now

    at : (x y : Bool) → has_joined log.joins s ≡ x → nat_lt max_tick tick ≡ y → P (joining_by net p b s v log (elim x [ true ↦ joins.Already | false ↦ elim y [ true ↦ joins.Exhausted | false ↦ joins.Logged tick (silence (suc log.settled) tick []) ] ]))
    at true y a e = already a
    at false true a e = exhausted a (ltb-true max_tick tick e)
    at false false a e = logged a (ltb-false max_tick tick e)
