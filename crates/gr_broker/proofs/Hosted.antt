-- What the host logs, in the machine's words: the log with one record more, and the log that is cut
use Rattle.std.proofs.Common.{◌≡◌, ℕ, suc, ◌+◌, ◌-◌, ◌≤◌, ◌<◌, Bool, true, false, List, [], ◌∷◌, ◌++◌, map, Option, Some, None, Result, Ok, Err, refl, sym, ap, ap₂, ◌∙◌, subst, arith, le_refl, append-nil}
use Rattle.std.specs.Prelude.{nat_le, nat_lt, if◌then◌else◌, max, OnOk}
use Rattle.std.proofs.lemmas.Bool.{leb-true, leb-false, ltb-true, ltb-false, lt-ltb, le-ltb}
use Rattle.gr_event.specs.declared.event.Event.{Event}
use Rattle.gr_know.specs.Values.{Known}
use Rattle.gr_know.specs.declared.values.K.TheVariants.{D}
use Rattle.gr_event.specs.Joins.{JoinsRise}
use Rattle.gr_publog.specs.declared.record.Record.{Record}
use Rattle.gr_publog.specs.declared.record.Record.TheVariants as entry
use Rattle.gr_frame.specs.Bytes.{frame_bytes}
use Rattle.gr_frame.specs.Cut.{AreFrames}
use Rattle.gr_publog.specs.declared.record.LogFault.{LogFault}
use Rattle.gr_publog.specs.declared.record.LogFault.TheVariants as fault
use Rattle.gr_publog.specs.State.{max_tick, Apart}
use Rattle.gr_publog.specs.Views.{LogView, Lanes, appended, IsReady, StandsRead}
use Rattle.gr_publog.specs.Calls.{Appends, appended_if}
use Rattle.gr_publog.proofs.Passing.{appends_none, appends_unmade}
use Rattle.gr_pubend.specs.Log.{Log, with_mark, with_join, filled_log, with_cut, cut_log_at, reclaims, said, silence}
use Rattle.gr_pubend.specs.Cuts.{cut_if}
use Rattle.gr_pubend.specs.declared.answers.Published.{Published}
use Rattle.gr_pubend.specs.declared.answers.Published.TheVariants as publishes
use Rattle.gr_pubend.specs.declared.answers.Quieted.{Quieted}
use Rattle.gr_pubend.specs.declared.answers.Quieted.TheVariants as quiets
use Rattle.gr_pubend.specs.declared.answers.Joined.{Joined}
use Rattle.gr_pubend.specs.declared.answers.Joined.TheVariants as joined
use Rattle.gr_pubend.specs.Answers.{published, quieted, joined_at, event_of, mark_of, join_of, publish_logs, quiet_logs, join_logs}
use Rattle.gr_pubend.proofs.Standing.{may_event}
use Rattle.gr_pubend.proofs.Found.{said_more, said_cut_of}
use Rattle.gr_model.specs.declared.report.Report.{Report}
use Rattle.gr_model.specs.declared.report.Report.TheVariants as line
use Rattle.gr_model.specs.Net.{Net, keeps_horizon}
use Rattle.gr_model.specs.Broker.{View, Outcome, consolidated, learn, done_upto, cutting, cutting_lines, marking, marking_by, publish, publish_by, joining, joining_by, says, wake_host, expect_frames, seen, with_joins, view_joined}
use Rattle.gr_broker_relay.specs.declared.outcome.Outcome.{Outcome as Told}
use Rattle.gr_broker_relay.specs.Told.{Tells, Adds}
use Rattle.gr_broker_relay.specs.Cuts.{tick_cut}
use Rattle.gr_broker.specs.Hosted.{join_with, join_by}
use Rattle.gr_broker.proofs.Joined.{logged_tick}
use Rattle.gr_broker.specs.Host.{tick_marked, mark_lines, cut_lines, expected_frames}

-- A publish and a time of silence, by their answers

pub publish_is : (net : Net) (p b now number : ℕ) (e : Event) (v : View) (log : Log) (answer : Published) → published log number e now ≡ answer → publish net p b now number e v log ≡ publish_by net p b number e v log answer
unfolding publish
publish_is net p b now number e v log answer is = ap (publish_by net p b number e v log) is

pub marking_is : (net : Net) (p b now : ℕ) (v : View) (log : Log) (answer : Quieted) → quieted log now net.quiet ≡ answer → marking net p b now v log ≡ marking_by net p b v log answer
unfolding marking
marking_is net p b now v log answer is = ap (marking_by net p b v log) is

-- a join, at the net that the held list shows then
pub join_is : (net : Net) (p b now s : ℕ) (v : View) (log : Log) (answer : Joined) → joined_at log s now ≡ answer → join_with net p b now s v log ≡ joining_by (seen net (view_joined log s now v)) p b s v log answer
unfolding joining
join_is net p b now s v log answer is = ap (joining_by (seen net (view_joined log s now v)) p b s v log) is

pub join_logged : (net : Net) (p b now s : ℕ) (v : View) (log : Log) (tick : ℕ) (fresh : Known) → joined_at log s now ≡ joined.Logged tick fresh → join_with net p b now s v log ≡ join_by net p b s v log tick fresh
join_logged net p b now s v log tick fresh is =
    join_is net p b now s v log (joined.Logged tick fresh) is
    ∙ ap (λ (t : ℕ). joining_by (seen net (with_joins v (log.joins ++ record { subscriber = s; tick = t } ∷ []))) p b s v log (joined.Logged tick fresh)) (sym (logged_tick log s now tick fresh is))

-- What a log has then

-- an event that is logged has the next number, and a tick past what is settled
pub record IsNext (log : Log) (number tick : ℕ) : Type 0 where
  pub in_turn : number ≡ log.last + 1
  pub past : log.settled < tick
  pub upto : tick ≤ max_tick

pub next_event : (log : Log) (number : ℕ) (e : Event) (now tick : ℕ) (fresh : Known) → published log number e now ≡ publishes.Logged tick fresh → IsNext log number tick
unfolding published
next_event log number e now tick fresh is = go (nat_le number log.last) (nat_lt (suc log.last) number) (nat_lt max_tick at) refl refl refl is
  where
    at : ℕ
    at = max (suc log.settled) now

    news : Known
    news = silence (suc log.settled) (at - 1) (record { first = at; last = at; value = D e } ∷ [])

    go : (a b c : Bool) → nat_le number log.last ≡ a → nat_lt (suc log.last) number ≡ b → nat_lt max_tick at ≡ c
        → elim a [ true ↦ publishes.Already | false ↦ elim b [ true ↦ publishes.Gap (suc log.last) | false ↦ elim c [ true ↦ publishes.Exhausted | false ↦ publishes.Logged at news ] ] ] ≡ publishes.Logged tick fresh
        → IsNext log number tick
    go true b c p q r h = absurd (cc h)
    go false true c p q r h = absurd (cc h)
    go false false true p q r h = absurd (cc h)
    go false false false p q r h =
        let same : at ≡ tick = cc h in
        record {
          in_turn = omega (arith, leb-false number log.last p, ltb-false (suc log.last) number q);
          past = omega (arith, same);
          upto = omega (arith, same, ltb-false max_tick at r);
        }

-- a log with a mark, and with a join
log_sized : (log : Log) (size size' : ℕ) → size ≡ size' → (let x : Log = record log { size = size } in x) ≡ record log { size = size' }
log_sized log size size' e = ap (λ (n : ℕ). let x : Log = record log { size = n } in x) e

pub said_marked : (l : LogView) (tick : ℕ) → said (appended (entry.Mark tick) l) ≡ with_mark (said l) tick
said_marked l tick = log_sized (with_mark (said l) tick) _ _ (omega arith)

said_with : (l : LogView) (tick s : ℕ) → said (appended (entry.Join tick s) l) ≡ with_join (said l) tick s
said_with l tick s = log_sized (with_join (said l) tick s) _ _ (omega arith)

-- after a publish it has the record that the publish logs
pub publish_log_is : (net : Net) (p b now number : ℕ) (e : Event) (v : View) (l : LogView) → said (appended_if (publish_logs (said l) number e now) l) ≡ (publish net p b now number e v (said l)).log
unfolding publish learn
publish_log_is net p b now number e v l = go (published (said l) number e now) refl
  where
    go : (answer : Published) → published (said l) number e now ≡ answer → said (appended_if (event_of answer number e) l) ≡ (publish_by net p b number e v (said l) answer).log
    go (publishes.Logged tick fresh) is = let n = next_event (said l) number e now tick fresh is in said_more l (entry.Event tick number e) (may_event l.state tick number e n.past n.upto n.in_turn)
    go publishes.Already is = refl
    go (publishes.Gap next) is = refl
    go publishes.Exhausted is = refl

-- after a join that of the join
pub join_log_is : (net : Net) (p b now s : ℕ) (v : View) (l : LogView) → said (appended_if (join_logs (said l) s now) l) ≡ (join_with net p b now s v (said l)).log
unfolding joining learn
join_log_is net p b now s v l = go (joined_at (said l) s now)
  where
    go : (answer : Joined) → said (appended_if (join_of answer s) l) ≡ (joining_by (seen net (view_joined (said l) s now v)) p b s v (said l) answer).log
    go (joined.Logged tick fresh) = said_with l tick s
    go joined.Already = refl
    go joined.Exhausted = refl

-- after a time of silence that of the mark
pub marking_log_is : (net : Net) (p b now : ℕ) (v : View) (l : LogView) → said (appended_if (quiet_logs (said l) now net.quiet) l) ≡ (marking net p b now v (said l)).log
unfolding marking learn
marking_log_is net p b now v l = go (quieted (said l) now net.quiet)
  where
    go : (answer : Quieted) → said (appended_if (mark_of answer) l) ≡ (marking_by net p b v (said l) answer).log
    go (quiets.Marked tick fresh) = said_marked l tick
    go quiets.NotYet = refl

-- a mark changes neither the events nor the joins
pub marked_rise : (l : LogView) (answer : Quieted) → JoinsRise 0 l.state.joins → JoinsRise 0 (appended_if (mark_of answer) l).state.joins
marked_rise l (quiets.Marked tick fresh) h = h
marked_rise l quiets.NotYet h = h

pub marked_apart : (l : LogView) (answer : Quieted) → Apart l.state.events l.state.joins → (let m : LogView = appended_if (mark_of answer) l in Apart m.state.events m.state.joins)
marked_apart l (quiets.Marked tick fresh) h = h
marked_apart l quiets.NotYet h = h

-- after a cut it is cut
pub cutting_log_is : (net : Net) (p b : ℕ) (v : View) (l : LogView) (log : Log) → JoinsRise 0 l.state.joins → Apart l.state.events l.state.joins → said l ≡ log
    → said (cut_if (tick_cut net p b v log) net.reclaim l) ≡ cutting net p b v log
unfolding cutting
cutting_log_is net p b v l log rise apart e = go (nat_lt log.cut tick)
  where
    tick : ℕ
    tick = done_upto (consolidated (keeps_horizon net p b) v.horizon v.wants) log.settled

    go : (q : Bool) → said (cut_if (if q then Some tick else None) net.reclaim l) ≡ (if q then cut_log_at net.reclaim log tick else log)
    go true = said_cut_of l tick rise apart net.reclaim ∙ ap (λ x. cut_log_at net.reclaim x tick) e
    go false = e

-- A host's wake: what the mark left and told, the lines of both before that, and what is to be expected then
abbrev pub woken_by : Net → ℕ → ℕ → Outcome → Option ℕ → Option ℕ → Outcome
woken_by net p b m marked due = record {
  view = m.view;
  log = cutting net p b m.view m.log;
  lines = mark_lines p marked ++ cut_lines p net.reclaim due m.log ++ m.lines;
  frames = m.frames ++ expected_frames p b m.log.settled (net.children p b) m.view.wants;
}

mark_told : (net : Net) (p b now : ℕ) (v : View) (log : Log) → 1 ≤ net.quiet →
    (if nat_lt log.settled (marking net p b now v log).log.settled then line.Mark p now ∷ [] else []) ≡ mark_lines p (tick_marked (quieted log now net.quiet))
unfolding marking quieted learn
mark_told net p b now v log quiet = go (nat_le (log.settled + net.quiet) now) refl
  where
    silent : Known
    silent = silence (suc log.settled) now []

    go : (q : Bool) → nat_le (log.settled + net.quiet) now ≡ q →
        (let answer : Quieted = elim q [ true ↦ quiets.Marked now silent | false ↦ quiets.NotYet ] in
        let o : Outcome = marking_by net p b v log answer in
        (if nat_lt log.settled o.log.settled then line.Mark p now ∷ [] else []) ≡ mark_lines p (tick_marked answer))
    go true e = ap (λ q. if q then line.Mark p now ∷ [] else []) (lt-ltb log.settled now (omega (arith, quiet, leb-true (log.settled + net.quiet) now e)))
    go false e = ap (λ q. if q then line.Mark p now ∷ [] else []) (le-ltb log.settled log.settled (le_refl log.settled))

-- the lines of a cut
cut_told : (p reclaim : ℕ) (log : Log) (a : ℕ) → log.cut < a → cutting_lines p log (cut_log_at reclaim log a) ≡ cut_lines p reclaim (Some a) log
cut_told p reclaim log a past = go (reclaims reclaim log.size log.generation)
  where
    go : (r : Bool) → cutting_lines p log (if r then filled_log (with_cut log a) else with_cut log a) ≡ line.Cut p a ∷ (if r then line.Reclaimed p (suc log.generation) ∷ [] else [])
    go true =
        ap (λ (q : Bool). if q then line.Cut p a ∷ (if nat_lt log.generation (suc log.generation) then line.Reclaimed p (suc log.generation) ∷ [] else []) else []) (lt-ltb log.cut a past)
        ∙ ap (λ (q : Bool). line.Cut p a ∷ (if q then line.Reclaimed p (suc log.generation) ∷ [] else [])) (lt-ltb log.generation (suc log.generation) (omega arith))
    go false =
        ap (λ (q : Bool). if q then line.Cut p a ∷ (if nat_lt log.generation log.generation then line.Reclaimed p log.generation ∷ [] else []) else []) (lt-ltb log.cut a past)
        ∙ ap (λ (q : Bool). line.Cut p a ∷ (if q then line.Reclaimed p log.generation ∷ [] else [])) (le-ltb log.generation log.generation (le_refl log.generation))

-- and what is settled
cut_settled : (reclaim : ℕ) (log : Log) (a : ℕ) → (cut_log_at reclaim log a).settled ≡ log.settled
cut_settled reclaim log a = go (reclaims reclaim log.size log.generation)
  where
    go : (r : Bool) → (let x : Log = if r then filled_log (with_cut log a) else with_cut log a in x.settled) ≡ log.settled
    go true = refl
    go false = refl

-- so a host's wake is this
pub host_woken : (net : Net) (p b now : ℕ) (v : View) (log : Log) → 1 ≤ net.quiet →
    wake_host net p b now v log ≡
    (let m : Outcome = marking net p b now v log in woken_by net p b m (tick_marked (quieted log now net.quiet)) (tick_cut net p b m.view m.log))
unfolding wake_host cutting
host_woken net p b now v log quiet = ap (λ marks. cut_after marks (cut_by (nat_lt m.log.cut a))) (mark_told net p b now v log quiet) ∙ go (nat_lt m.log.cut a) refl
  where
    m : Outcome
    m = marking net p b now v log

    a : ℕ
    a = done_upto (consolidated (keeps_horizon net p b) m.view.horizon m.view.wants) m.log.settled

    marks : List Report
    marks = mark_lines p (tick_marked (quieted log now net.quiet))

    cut_by : Bool → Log
    cut_by q = if q then cut_log_at net.reclaim m.log a else m.log

    -- by the log after the cut
    cut_after : List Report → Log → Outcome
    cut_after ls cut = record {
      view = m.view;
      log = cut;
      lines = ls ++ cutting_lines p m.log cut ++ m.lines;
      frames = m.frames ++ (if nat_lt 0 cut.settled then expect_frames p b cut.settled (net.children p b) m.view.wants else []);
    }

    -- by the lines of the cut, and by what is settled
    told_by : Log → List Report → ℕ → Outcome
    told_by cut ls settled = record {
      view = m.view;
      log = cut;
      lines = marks ++ ls ++ m.lines;
      frames = m.frames ++ expected_frames p b settled (net.children p b) m.view.wants;
    }

    go : (q : Bool) → nat_lt m.log.cut a ≡ q → cut_after marks (cut_by q) ≡ told_by (cut_by q) (cut_lines p net.reclaim (if q then Some a else None) m.log) m.log.settled
    go true e = ap₂ (told_by (cut_by true)) (cut_told p net.reclaim m.log a (ltb-true m.log.cut a e)) (cut_settled net.reclaim m.log a)
    go false e = ap (λ (q : Bool). told_by m.log (if q then line.Cut p m.log.cut ∷ (if nat_lt m.log.generation m.log.generation then line.Reclaimed p m.log.generation ∷ [] else []) else []) m.log.settled) (le-ltb m.log.cut m.log.cut (le_refl m.log.cut))

-- Answers of one line, and of nothing logged

-- a line alone is told
pub line_told : {T : Type 0} (answer : Result T LogFault) (told : Told) (v : View) (log : Log) (r : Report) → OnOk answer (told.reports ≡ r ∷ []) → OnOk answer (told.frames.frames ≡ []) → OnOk answer (Tells (says v log r) told)
line_told (Ok x) told v log r lines frames = record { lines = lines; frames = frames; spelled = subst (λ fs. AreFrames fs []) (sym frames) tt }
line_told (Err e) told v log r lines frames = tt

-- a line, and what is told and sent behind it
pub line_first : (mid told : Told) (o : Outcome) (r : Report) → mid.reports ≡ r ∷ [] → mid.frames.frames ≡ [] → Adds o.lines o.frames mid told →
    Tells (record { view = o.view; log = o.log; lines = r ∷ o.lines; frames = o.frames }) told
line_first mid told o r lines frames adds =
    let sent : told.frames.frames ≡ map frame_bytes o.frames = adds.frames.added ∙ ap (λ fs. fs ++ map frame_bytes o.frames) frames in
    record {
      lines = adds.lines ∙ ap (λ ls. ls ++ o.lines) lines;
      frames = sent;
      spelled = subst (λ fs. AreFrames fs o.frames) (sym sent) adds.frames.spelled;
    }

-- what holds anyway holds where the answer is `Ok`
pub on_ok : {T E : Type 0} (answer : Result T E) (P : Type 0) → P → OnOk answer P
on_ok (Ok x) P h = h
on_ok (Err e) P h = tt

-- where nothing is to be logged and memory alone may be wanted, the lanes are as they were
pub appends_idle : {T : Type 0} → StandsRead → (l : LogView) (logged : Option Record) (before after : Lanes) (answer : Result T LogFault) → logged ≡ None → IsReady l before → after ≡ before → ((e : LogFault) → answer ≡ Err e → e ≡ fault.Memory) → Appends l logged before after answer
appends_idle reads l logged before after (Ok x) none ready same only = appends_none reads l before after ready same logged x none
appends_idle {T} reads l logged before after (Err e) none ready same only = subst (λ f. Appends {T = T} l logged before after (Err f)) (sym (only e refl)) (appends_unmade reads l before after ready same logged)

-- nothing is put at the end
pub adds_nothing : (told : Told) → Adds [] [] told told
adds_nothing told = record {
  lines = sym (append-nil told.reports);
  frames = record { added = sym (append-nil told.frames.frames); spelled = tt };
}
