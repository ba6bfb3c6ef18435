-- The joins that are held: no call but a join changes those of a host, and after each they are those of its log; a join that may be
-- logged has room, and only late subscribers join
use Rattle.std.proofs.Common.{◌≡◌, ◌≢◌, ◌⊎◌, inl, inr, ℕ, suc, ◌<◌, max, Bool, true, false, List, [], ◌∷◌, ◌++◌, length, map, get_or, set, Option, Some, None, Result, Ok, Err, OnOk, OnErr, refl, sym, ap, ◌∙◌, subst}
use Rattle.std.specs.Prelude.{nat_eq, nat_lt, if◌then◌else◌, IsSome}
use Rattle.std.specs.List.{list_any}
use Rattle.std.proofs.lemmas.Bool.{cases_eq, and_parts, and_from, false≢true}
use Rattle.std.proofs.lemmas.List.{map-set, length-map, get_or-set_same, get_or-set_other}
use Rattle.gr_event.specs.declared.event.Event.{Event}
use Rattle.gr_event.specs.Joins.{Joins, has_joined, may_join}
use Rattle.gr_know.specs.Values.{Known}
use Rattle.gr_curio.specs.Values.{Wanted}
use Rattle.gr_publog.specs.declared.record.Record.TheVariants as entry
use Rattle.gr_publog.specs.declared.record.LogFault.{LogFault}
use Rattle.gr_publog.specs.declared.record.LogFault.TheVariants as fault
use Rattle.gr_publog.specs.State.{LogState, footing, numbers, may_settle, may_enter, may_follow, AreLate, IsState}
use Rattle.gr_publog.specs.Views.{LogView}
use Rattle.gr_publog.specs.Calls.{Leaves}
use Rattle.gr_publog.proofs.Entering.{may_with}
use Rattle.gr_pubend.specs.declared.answers.Joined.{Joined}
use Rattle.gr_pubend.specs.declared.answers.Joined.TheVariants as joins
use Rattle.gr_pubend.specs.declared.answers.Published.{Published}
use Rattle.gr_pubend.specs.declared.answers.Published.TheVariants as publishes
use Rattle.gr_pubend.specs.declared.answers.Quieted.{Quieted}
use Rattle.gr_pubend.specs.declared.answers.Quieted.TheVariants as quiets
use Rattle.gr_pubend.specs.Log.{Log, with_cut, filled_log, cut_log_at, reclaims, said, silence}
use Rattle.gr_pubend.specs.Answers.{published, quieted, joined_at}
use Rattle.gr_topo.specs.Topology.{TopologyView}
use Rattle.gr_model.specs.Net.{Net, is_host, all_late, is_late, keeps_horizon}
use Rattle.gr_model.specs.NetOf.{net_of}
use Rattle.gr_model.specs.Broker.{View, Outcome, max_tick, consolidated, done_upto, kept_view, kept_view_below, learn, publish, publish_by, marking, marking_by, joining, joining_by, cutting, curiosity, seen, with_joins, view_joined}
use Rattle.gr_model_calls.proofs.calls.Held.{all_late_on}
use Rattle.gr_model.specs.World.{blank_view}
use Rattle.gr_broker_relay.specs.declared.held.Held.{Held}
use Rattle.gr_broker_relay.specs.Held.{held_view}
use Rattle.gr_broker_relay.specs.Kept.{IsKept}
use Rattle.gr_broker.specs.Seen.{log_said, with_failed, logs_of, HasJoins}
use Rattle.gr_broker.specs.Of.{HoldJoins}
use Rattle.gr_broker.specs.Hosted.{join_with}

-- What the machine's calls keep

kept_joins : (net : Net) (p b : ℕ) (v : View) → (kept_view net p b v).joins ≡ v.joins
unfolding kept_view
kept_joins net p b v = go (is_host net p b)
  where
    go : (q : Bool) → (let u : View = elim q [ true ↦ v | false ↦ kept_view_below net p b v ] in u.joins) ≡ v.joins
    go true = refl
    go false = refl

pub learn_joins : (net : Net) (p b : ℕ) (piece : Known) (v : View) (log : Log) → (learn net p b piece v log).view.joins ≡ v.joins
unfolding learn
learn_joins net p b piece v log = kept_joins net p b _

pub curiosity_joins : (net : Net) (p b now c i : ℕ) (piece : Wanted) (v : View) (log : Log) → (curiosity net p b now c i piece v log).view.joins ≡ v.joins
unfolding curiosity
curiosity_joins net p b now c i piece v log = kept_joins net p b _

-- Where the log's joins are held they are held after a publish, a join and a time of silence, and a cut changes none

pub publish_joins : (net : Net) (p b now number : ℕ) (e : Event) (v : View) (log : Log) → v.joins ≡ log.joins → (let o : Outcome = publish net p b now number e v log in o.view.joins ≡ o.log.joins)
unfolding publish learn
publish_joins net p b now number e v log h = go (published log number e now)
  where
    go : (answer : Published) → (let o : Outcome = publish_by net p b number e v log answer in o.view.joins ≡ o.log.joins)
    go (publishes.Logged tick fresh) = kept_joins net p b _ ∙ h
    go publishes.Already = h
    go (publishes.Gap next) = h
    go publishes.Exhausted = h

joining_joins : (net : Net) (p b now s : ℕ) (v : View) (log : Log) → v.joins ≡ log.joins → (let o : Outcome = joining net p b now s v log in o.view.joins ≡ o.log.joins)
unfolding joining learn
joining_joins net p b now s v log h = go (joined_at log s now)
  where
    go : (answer : Joined) → (let o : Outcome = joining_by net p b s v log answer in o.view.joins ≡ o.log.joins)
    go (joins.Logged tick fresh) = kept_joins net p b _
    go joins.Already = h
    go joins.Exhausted = h

pub join_joins : (net : Net) (p b now s : ℕ) (v : View) (log : Log) → v.joins ≡ log.joins → (let o : Outcome = join_with net p b now s v log in o.view.joins ≡ o.log.joins)
join_joins net p b now s v log h = joining_joins (seen net (view_joined log s now v)) p b now s v log h

pub marking_joins : (net : Net) (p b now : ℕ) (v : View) (log : Log) → v.joins ≡ log.joins → (let o : Outcome = marking net p b now v log in o.view.joins ≡ o.log.joins)
unfolding marking learn
marking_joins net p b now v log h = go (quieted log now net.quiet)
  where
    go : (answer : Quieted) → (let o : Outcome = marking_by net p b v log answer in o.view.joins ≡ o.log.joins)
    go (quiets.Marked tick fresh) = kept_joins net p b _ ∙ h
    go quiets.NotYet = h

pub cutting_joins : (net : Net) (p b : ℕ) (v : View) (log : Log) → (cutting net p b v log).joins ≡ log.joins
unfolding cutting
cutting_joins net p b v log = go (nat_lt log.cut tick)
  where
    tick : ℕ
    tick = done_upto (consolidated (keeps_horizon net p b) v.horizon v.wants) log.settled

    anew : (r : Bool) → (let l : Log = if r then filled_log (with_cut log tick) else with_cut log tick in l.joins) ≡ log.joins
    anew true = refl
    anew false = refl

    go : (q : Bool) → (let l : Log = if q then cut_log_at net.reclaim log tick else log in l.joins) ≡ log.joins
    go true = anew (reclaims net.reclaim log.size log.generation)
    go false = refl

-- A log that is here, and what is held beside it

-- what is held beside a log, where there is one
abbrev pub Beside : View → Option LogView → Type 0
Beside v o = (l : LogView) → o ≡ Some l → HasJoins v l

some_said : (o : Option LogView) (l : LogView) → o ≡ Some l → log_said o ≡ said l
some_said o l e = ap log_said e

-- what is held is beside a log where it is that of what the machine says of it
pub beside_said : (v : View) (o : Option LogView) (log : Log) → log_said o ≡ log → v.joins ≡ log.joins → Beside v o
beside_said v o log e h l is = h ∙ ap (λ (x : Log). x.joins) (sym e ∙ some_said o l is)

-- and then they are those of what the machine says of it
pub said_joins : (v : View) (o : Option LogView) → IsSome o → Beside v o → v.joins ≡ (log_said o).joins
said_joins v (Some l) s h = h l refl
said_joins v None s h = absurd (false≢true s)

-- a log that the disk failed holds the same
pub beside_failed : (v : View) (o : Option LogView) → Beside v o → Beside v (with_failed o)
beside_failed v None h l e = h l e
beside_failed v (Some m) h l e = subst (λ (x : LogView). HasJoins v x) (some_is e) (h m refl)
  where
    some_is : {x y : LogView} → Some x ≡ Some y → x ≡ y
    some_is {x} e = ap (λ o. elim o [ Some z ↦ z | None ↦ x ]) e

-- What becomes of it by an answer: as before, as the log goes on, or failed

pub beside_after : {T : Type 0} (result : Result T LogFault) (v v' w : View) (l l' next : Option LogView) → Beside v l → Beside w next → Leaves l next (with_failed l) l' result → OnOk result (v' ≡ w) → OnErr result (v' ≡ v) → Beside v' l'
beside_after (Ok x) v v' w l l' next old new s ok err = subst (λ (o : Option LogView). Beside v' o) (sym s.ok) (subst (λ (u : View). Beside u next) (sym ok) new)
beside_after (Err fault.Memory) v v' w l l' next old new s ok err = subst (λ (o : Option LogView). Beside v' o) (sym (s.memory refl)) (subst (λ (u : View). Beside u l) (sym err) old)
beside_after (Err fault.Disk) v v' w l l' next old new s ok err = subst (λ (o : Option LogView). Beside v' o) (sym (s.failed refl)) (subst (λ (u : View). Beside u (with_failed l)) (sym err) (beside_failed v l old))
beside_after (Err fault.Reopen) v v' w l l' next old new s ok err = subst (λ (o : Option LogView). Beside v' o) (sym (s.closed refl)) (subst (λ (u : View). Beside u l) (sym err) old)
beside_after (Err (fault.Damaged at)) v v' w l l' next old new s ok err = absurd (s.never_damaged at refl)

-- One part is put in place of another

pub hold_set : (held : List Held) (p : ℕ) (h : Held) → p < length held → HoldJoins (map held_view held) (logs_of held) → Beside (held_view h) h.log → HoldJoins (map held_view (set held p h)) (logs_of (set held p h))
hold_set held p h lt all here = rw (map-set held_view held p h, map-set (λ (x : Held). x.log) held p h) at_each
  where
    views : List View
    views = map held_view held

    logs : List (Option LogView)
    logs = logs_of held

    at : (q : ℕ) (l : LogView) → get_or (set logs p h.log) q None ≡ Some l → (q ≡ p) ⊎ (q ≢ p) → HasJoins (get_or (set views p (held_view h)) q blank_view) l
    at q l e (inl same) =
        let put : get_or (set logs p h.log) p None ≡ h.log = get_or-set_same logs p h.log None (subst (λ (n : ℕ). p < n) (sym (length-map held (λ (x : Held). x.log))) lt) in
        let there : get_or (set views p (held_view h)) p blank_view ≡ held_view h = get_or-set_same views p (held_view h) blank_view (subst (λ (n : ℕ). p < n) (sym (length-map held held_view)) lt) in
        subst (λ (n : ℕ). HasJoins (get_or (set views p (held_view h)) n blank_view) l) (sym same)
        (subst (λ (v : View). HasJoins v l) (sym there) (here l (sym put ∙ subst (λ (n : ℕ). get_or (set logs p h.log) n None ≡ Some l) same e)))
    at q l e (inr other) =
        subst (λ (v : View). HasJoins v l) (sym (get_or-set_other views p q (held_view h) blank_view other)) (all q l (sym (get_or-set_other logs p q h.log None other) ∙ e))

    at_each : HoldJoins (set views p (held_view h)) (set logs p h.log)
    at_each q l e = at q l e (cases_eq q p)

-- A join that is logged

-- its tick is the next one, or the moment where that is later
pub logged_tick : (log : Log) (s now tick : ℕ) (fresh : Known) → joined_at log s now ≡ joins.Logged tick fresh → tick ≡ max (suc log.settled) now
unfolding joined_at
logged_tick log s now tick fresh e = go (has_joined log.joins s) (nat_lt max_tick next) e
  where
    next : ℕ
    next = max (suc log.settled) now

    go : (a b : Bool) → elim a [ true ↦ joins.Already | false ↦ elim b [ true ↦ joins.Exhausted | false ↦ joins.Logged next (silence (suc log.settled) next []) ] ] ≡ joins.Logged tick fresh → tick ≡ next
    go true b k = absurd (cc k)
    go false true k = absurd (cc k)
    go false false k = let same : next ≡ tick = cc k in sym same

-- there is room for it behind the joins of its log
pub may_be_held : (s : LogState) (tick x : ℕ) → IsState s → may_follow s (entry.Join tick x) ≡ true → may_join s.joins (record { subscriber = x; tick = tick }) ≡ true
may_be_held s tick x i may = may_with (footing s) tick x i.held may

-- What each call needs of what is kept is so with other joins of late subscribers
pub kept_with : (net : Net) (p b : ℕ) (v : View) (js : Joins) → IsKept net p b v → all_late net js ≡ true → IsKept net p b (with_joins v js)
kept_with net p b v js k late = record { wants = k.wants; final = k.final; dropped = k.dropped; asks_nobody = k.asks_nobody; none_kept = k.none_kept; joins = late }

-- Only late subscribers join

enters_late : (net : Net) (s : LogState) (tick x : ℕ) → s.late ≡ net.late → may_follow s (entry.Join tick x) ≡ true → is_late net x ≡ true
enters_late net s tick x e may =
    let enters = and_parts (may_settle (numbers s) tick) (may_enter (footing s) x) may in
    ap (λ (late : List ℕ). list_any (λ y. nat_eq y x) late) (sym e) ∙ (and_parts (list_any (λ y. nat_eq y x) s.late) _ enters.1).0

late_all : (net : Net) (late : List ℕ) (js : Joins) → late ≡ net.late → AreLate late js → all_late net js ≡ true
late_all net late [] e a = refl
late_all net late (j ∷ js) e a =
    and_from (is_late net j.subscriber) (all_late net js) (ap (λ (ls : List ℕ). list_any (λ x. nat_eq x j.subscriber) ls) (sym e) ∙ a.0) (late_all net late js e a.1)

-- the joins of a log in which those of the topology may join
pub log_late : (t : TopologyView) (s : LogState) → s.late ≡ t.late → IsState s → all_late (net_of t) s.joins ≡ true
log_late t s e i = late_all (net_of t) s.late s.joins e i.held.known

-- and they with one more
pub more_late : (t : TopologyView) (s : LogState) (tick x : ℕ) → s.late ≡ t.late → IsState s → may_follow s (entry.Join tick x) ≡ true →
    all_late (net_of t) (s.joins ++ record { subscriber = x; tick = tick } ∷ []) ≡ true
more_late t s tick x e i may =
    all_late_on (net_of t) s.joins (record { subscriber = x; tick = tick } ∷ []) (log_late t s e i)
    (and_from (is_late (net_of t) x) true (enters_late (net_of t) s tick x e may) refl)
