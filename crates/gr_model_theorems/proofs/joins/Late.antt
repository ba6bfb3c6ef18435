-- A late subscriber has exactly the events past its join that its filter matches, up to its last horizon, and nothing while it has none
use Rattle.std.proofs.Common.{◌≡◌, ℕ, zero, suc, ◌+◌, ◌<◌, ◌≤◌, Bool, true, false, not, ◌&&◌, ◌||◌, List, [], ◌∷◌, map, filter, set, get_or, replicate, refl, ap, ap₂, ◌∙◌, subst, Option, Some, None}
use Rattle.std.specs.Prelude.{nat_eq, nat_le, nat_lt, if◌then◌else◌}
use Rattle.std.proofs.lemmas.Bool.{and_parts, or_parts, or_from, eqb-true}
use Rattle.gr_event.specs.declared.event.Event.{Event}
use Rattle.gr_event.specs.Joins.{Joins, has_joined, joined_below, tick_of, JoinOnce}
use Rattle.gr_event.proofs.Joining.{once_with}
use Rattle.gr_sched.specs.declared.step.Step.{Step}
use Rattle.gr_sched.specs.declared.step.Step.TheVariants as step
use Rattle.gr_sched.specs.declared.step.Line.{Line}
use Rattle.gr_model.specs.declared.report.Report.{Report}
use Rattle.gr_model.specs.Net.{Net, is_host, is_late, wants_with}
use Rattle.gr_model.specs.Tree.{IsNet, IsSubscriber}
use Rattle.gr_model.specs.Broker.{max_tick}
use Rattle.gr_model.specs.World.{start, run_from}
use Rattle.gr_model.specs.Headline as headline
use Rattle.gr_model.specs.Headline.{Recorded, nothing_recorded, History, record_of, is_next, recording, settling, marked, each_record, may_enter, with_joined, sweep_at, is_swept, says_kept, records_after, history_after, history, begin, expected, last_horizon, delivered_events}
use Rattle.gr_model_calls.specs.Fits.{StepsIn, history_of}
use Rattle.gr_model_theorems.specs.Statements.{due_late}
use Rattle.gr_model_calls.proofs.joins.Growing.{set_or}
use Rattle.gr_model_theorems.proofs.joins.Always.{gets_exactly}

-- No subscriber joins twice

abbrev RecordsOnce : List Recorded → Type 0
RecordsOnce rs = (p : ℕ) → JoinOnce (get_or rs p nothing_recorded).joined

each_once : (f : ℕ → Recorded → Recorded) → ((p : ℕ) (r : Recorded) → JoinOnce r.joined → JoinOnce (f p r).joined) → (a : ℕ) (rs : List Recorded) → RecordsOnce rs → RecordsOnce (each_record f a rs)
each_once f h a [] u p = tt
each_once f h a (r ∷ rs) u zero = h a r (u zero)
each_once f h a (r ∷ rs) u (suc p) = each_once f h (suc a) rs (λ q. u (suc q)) p

settled_once : (m : ℕ) (rs : List Recorded) → RecordsOnce rs → RecordsOnce (map (settling m) rs)
settled_once m [] u p = tt
settled_once m (r ∷ rs) u zero = u zero
settled_once m (r ∷ rs) u (suc p) = settled_once m rs (λ q. u (suc q)) p

off : (v : Bool) → not v ≡ true → v ≡ false
off false e = refl
off true e = absurd (cc)

after_once : (net : Net) (h : History) (l : Line) (ls : List Report) → RecordsOnce h.records → RecordsOnce (history_after net h l ls).records
unfolding history_after records_after
after_once net h l ls u q = go l.step
  where
    put : (c : Bool) (p : ℕ) (r : Recorded) → (c ≡ true → JoinOnce r.joined) → JoinOnce (get_or (if c then set h.records p r else h.records) q nothing_recorded).joined
    put true p r o = set_or h.records p q r nothing_recorded (λ z. JoinOnce z.joined) (u q) (λ e. o refl)
    put false p r o = u q

    settled : (c : Bool) (t : ℕ) (r : Recorded) → JoinOnce r.joined → (let z : Recorded = if c then settling t r else r in JoinOnce z.joined)
    settled true t r o = o
    settled false t r o = o

    hosted : (b p : ℕ) (r : Recorded) → JoinOnce r.joined → (let z : Recorded = if is_host net p b then marked net h.clock r else r in JoinOnce z.joined)
    hosted b p r o = at (is_host net p b)
      where
        at : (c : Bool) → (let z : Recorded = if c then marked net h.clock r else r in JoinOnce z.joined)
        at true = settled (nat_le (r.settled + net.quiet) h.clock) h.clock r o
        at false = o

    swept : (c : Bool) → (let z = get_or (if c then map (settling (sweep_at net h)) h.records else h.records) q nothing_recorded in JoinOnce z.joined)
    swept true = settled_once (sweep_at net h) h.records u q
    swept false = u q

    after : Step → List Recorded
    after z = elim z [
      | step.Publish p number stop e ↦ let r = record_of h p in if is_next h.clock r number && elim stop [ None ↦ true | Some s ↦ says_kept ls ] then set h.records p (recording h.clock r e) else h.records
      | step.Wake b ↦ each_record (λ p r. if is_host net p b then marked net h.clock r else r) 0 h.records
      | step.Sweep ↦ if is_swept net h then map (settling (sweep_at net h)) h.records else h.records
      | step.Join s p ↦ let r = record_of h p in if may_enter h.clock r s then set h.records p (with_joined h.clock r s) else h.records
      | _ ↦ h.records
    ]

    go : (z : Step) → JoinOnce (get_or (after z) q nothing_recorded).joined
    go (step.Publish p number stop e) = put (is_next h.clock (record_of h p) number && elim stop [ None ↦ true | Some s ↦ says_kept ls ]) p (recording h.clock (record_of h p) e) (λ x. u p)
    go (step.Wake b) = each_once (λ p r. if is_host net p b then marked net h.clock r else r) (hosted b) 0 h.records u q
    go step.Sweep = swept (is_swept net h)
    go (step.Join s p) = put (may_enter h.clock (record_of h p) s) p (with_joined h.clock (record_of h p) s)
        (λ x. once_with (record_of h p).joined (record { subscriber = s; tick = headline.tick_of h.clock (record_of h p) }) (u p) (off (has_joined (record_of h p).joined s) (and_parts (not (has_joined (record_of h p).joined s)) (nat_le (headline.tick_of h.clock (record_of h p)) max_tick) x).0))
    go (step.Clock now) = u q
    go (step.Deliver k) = u q
    go (step.Crash b) = u q
    go step.Show = u q
    go (step.Bytes k) = u q

pub history_once : (net : Net) (h : History) (ls : List Line) (rs : List (List Report)) → RecordsOnce h.records → RecordsOnce (history net h ls rs).records
history_once net h [] rs u = u
history_once net h (l ∷ ls) [] u = u
history_once net h (l ∷ ls) (r ∷ rs) u = history_once net (history_after net h l r) ls rs (after_once net h l r u)

nothing_once : (n : ℕ) → RecordsOnce (replicate n nothing_recorded)
nothing_once zero p = tt
nothing_once (suc n) zero = tt
nothing_once (suc n) (suc p) = nothing_once n p

begin_once : (net : Net) → RecordsOnce (begin net).records
unfolding begin
begin_once net = nothing_once net.publishers

-- What is past a join

none_below : (js : Joins) (s t : ℕ) → has_joined js s ≡ false → joined_below js s t ≡ false
none_below [] s t h = refl
none_below (j ∷ js) s t h =
    let parts = or_parts (nat_eq j.subscriber s) (has_joined js s) h in
    or_from (nat_eq j.subscriber s && nat_lt j.tick t) (joined_below js s t) (ap (λ (b : Bool). b && nat_lt j.tick t) parts.0) (none_below js s t parts.1)

-- its tick is that of the one join that there is
abbrev past_tick : Option ℕ → ℕ → Bool
past_tick o t = elim o [ None ↦ false | Some u ↦ nat_lt u t ]

below_tick : (js : Joins) (s t : ℕ) → JoinOnce js → joined_below js s t ≡ past_tick (tick_of js s) t
below_tick [] s t o = refl
below_tick (j ∷ js) s t o = go (nat_eq j.subscriber s) refl (below_tick js s t o.1)
  where
    right : (b : Bool) → (b || false) ≡ b
    right true = refl
    right false = refl

    go : (c : Bool) → nat_eq j.subscriber s ≡ c → joined_below js s t ≡ past_tick (tick_of js s) t → ((c && nat_lt j.tick t) || joined_below js s t) ≡ past_tick (if c then Some j.tick else tick_of js s) t
    go true e rest = ap (λ (b : Bool). nat_lt j.tick t || b) (none_below js s t (subst (λ (r : ℕ). has_joined js r ≡ false) (eqb-true j.subscriber s e) o.0)) ∙ right (nat_lt j.tick t)
    go false e rest = rest

-- of a late subscriber what is expected is what is due past its join
expected_late : (net : Net) (js : Joins) (s p n : ℕ) (events : List (ℕ × Event)) → is_late net s ≡ true → JoinOnce js → filter (λ x. nat_le x.0 n && wants_with net js p s x.0 x.1) events ≡ due_late net p s n events (tick_of js s)
expected_late net js s p n events late once = go events (tick_of js s) refl
  where
    wanted : (t : ℕ) (e : Event) → wants_with net js p s t e ≡ (net.wants p s t e && past_tick (tick_of js s) t)
    wanted t e = ap (λ (c : Bool). elim c as (λ _. Bool) [ true ↦ net.wants p s t e && joined_below js s t | false ↦ net.wants p s t e ]) late ∙ ap (λ (b : Bool). net.wants p s t e && b) (below_tick js s t once)

    none : (a w : Bool) → (a && (w && false)) ≡ false
    none true true = refl
    none true false = refl
    none false w = refl

    turned : (a w b : Bool) → (a && (w && b)) ≡ ((b && a) && w)
    turned true true true = refl
    turned true true false = refl
    turned true false true = refl
    turned true false false = refl
    turned false w true = refl
    turned false w false = refl

    keep : (x : ℕ × Event) (c d : Bool) (xs ys : List (ℕ × Event)) → c ≡ d → xs ≡ ys → (if c then x ∷ xs else xs) ≡ (if d then x ∷ ys else ys)
    keep x c d xs ys e f = ap₂ (λ (b : Bool) (zs : List (ℕ × Event)). if b then x ∷ zs else zs) e f

    go : (xs : List (ℕ × Event)) (o : Option ℕ) → tick_of js s ≡ o → filter (λ x. nat_le x.0 n && wants_with net js p s x.0 x.1) xs ≡ due_late net p s n xs o
    go [] None e = refl
    go [] (Some t) e = refl
    go (x ∷ xs) None e = keep x (nat_le x.0 n && wants_with net js p s x.0 x.1) false _ [] (ap (λ (b : Bool). nat_le x.0 n && b) (wanted x.0 x.1 ∙ ap (λ (o : Option ℕ). net.wants p s x.0 x.1 && past_tick o x.0) e) ∙ none (nat_le x.0 n) (net.wants p s x.0 x.1)) (go xs None e)
    go (x ∷ xs) (Some t) e =
        keep x (nat_le x.0 n && wants_with net js p s x.0 x.1) ((nat_lt t x.0 && nat_le x.0 n) && net.wants p s x.0 x.1) _ _
        (ap (λ (b : Bool). nat_le x.0 n && b) (wanted x.0 x.1 ∙ ap (λ (o : Option ℕ). net.wants p s x.0 x.1 && past_tick o x.0) e) ∙ turned (nat_le x.0 n) (net.wants p s x.0 x.1) (nat_lt t x.0)) (go xs (Some t) e)

pub late_gets : (net : Net) (steps : List Line) (s p : ℕ) → IsNet net → 1 ≤ net.quiet → StepsIn net steps → p < net.publishers → IsSubscriber net s → is_late net s ≡ true
    → (let h = history_of net steps in delivered_events s p h.lines ≡ due_late net p s (last_horizon s p 0 h.lines) (record_of h p).events (tick_of (record_of h p).joined s))
late_gets net steps s p n z i j y late =
    let h = history_of net steps in
    (gets_exactly net steps s p n z i j y).got ∙ expected_late net (record_of h p).joined s p (last_horizon s p 0 h.lines) (record_of h p).events late (history_once net (begin net) steps (run_from net (start net) steps) (begin_once net) p)
