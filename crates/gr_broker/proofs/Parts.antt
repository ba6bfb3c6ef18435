-- A broker with one publisher's part exchanged: what it is seen as, and what stays of the others
use Rattle.std.proofs.Common.{◌≡◌, ◌≢◌, ◌⊎◌, inl, inr, ℕ, ◌<◌, List, length, map, get_or, set, Option, Some, None, Result, Ok, Err, OnOk, OnErr, refl, sym, ap, ap₂, ◌∙◌, subst}
use Rattle.std.specs.Prelude.{is_some, IsSome, ◌*◌}
use Rattle.std.proofs.lemmas.List.{map-set, set-get_or, get_or-map, length-map, get_or-set_same, get_or-set_other}
use Rattle.std.proofs.lemmas.Bool.{cases_eq, false≢true}
use Rattle.gr_event.specs.declared.event.Event.{Event}
use Rattle.gr_edge.specs.Pass.{Wanting}
use Rattle.gr_publog.specs.declared.record.Record.{Record}
use Rattle.gr_publog.specs.declared.record.LogFault.{LogFault}
use Rattle.gr_publog.specs.declared.record.LogFault.TheVariants as fault
use Rattle.gr_publog.specs.Views.{LogView, lanes_at}
use Rattle.gr_out.specs.Lane.{Lane}
use Rattle.gr_publog.specs.Calls.{Appends, Leaves, appended_if}
use Rattle.gr_pubend.specs.Log.{said}
use Rattle.gr_pubend.specs.Answers.{published, event_of, publish_logs, joined_at, join_of, join_logs}
use Rattle.gr_model.specs.Net.{Net}
use Rattle.gr_model.specs.Broker.{View, publish}
use Rattle.gr_model.specs.World.{blank_view}
use Rattle.gr_broker_relay.specs.declared.held.Held.{Held}
use Rattle.gr_broker_relay.specs.declared.place.Position.{Position}
use Rattle.gr_broker_relay.specs.Held.{held_view, seen_branch}
use Rattle.gr_broker.specs.Seen.{BrokerView, view_in, log_in, log_said, with_view, with_log, with_logged, with_failed, broken_at, logs_of, seen_broker}
use Rattle.gr_broker.specs.Hosted.{AppendsAt, join_with}
use Rattle.gr_broker.proofs.Hosted.{publish_log_is, join_log_is}

module _ (number : ℕ) (here : List ℕ) (edges : List (List Wanting)) (places : List Position) (held : List Held) (p : ℕ) (h : Held) (lt : p < length held) (e : h ≡ get_or held p h) where
  -- the broker with these parts
  abbrev pub broker_of : List Held → BrokerView
  broker_of parts = seen_broker number here edges places parts

  -- what is kept of the publisher, and its log, are those of its part
  pub part_view : held_view h ≡ view_in (broker_of held) p
  part_view = ap held_view e ∙ sym (get_or-map held_view held p h blank_view lt)

  pub part_log : h.log ≡ log_in (broker_of held) p
  part_log = ap (λ x. x.log) e ∙ sym (get_or-map (λ x. x.log) held p h None lt)

  -- with another part there the view and the log are exchanged
  pub exchanged : (h' : Held) → broker_of (set held p h') ≡ with_view (with_log (broker_of held) p h'.log) p (held_view h')
  exchanged h' = ap₂ made (map-set held_view held p h') (map-set (λ x. x.log) held p h')
    where
      made : List View → List (Option LogView) → BrokerView
      made vs ls = record { number = number; here = here; branches = map (seen_branch edges) places; views = vs; logs = ls }

  -- by what they are
  pub exchanged_to : (h' : Held) (l : Option LogView) (v : View) → h'.log ≡ l → held_view h' ≡ v → broker_of (set held p h') ≡ with_view (with_log (broker_of held) p l) p v
  exchanged_to h' l v el ev = exchanged h' ∙ ap₂ (λ x y. with_view (with_log (broker_of held) p x) p y) el ev

  -- a part that is seen as before changes nothing
  pub unchanged_by : (h' : Held) → h'.log ≡ h.log → held_view h' ≡ held_view h → broker_of (set held p h') ≡ broker_of held
  unchanged_by h' el ev =
      exchanged_to h' (log_in (broker_of held) p) (view_in (broker_of held) p) (el ∙ part_log) (ev ∙ part_view)
      ∙ ap₂ made (set-get_or (map held_view held) p blank_view) (set-get_or (logs_of held) p None)
    where
      made : List View → List (Option LogView) → BrokerView
      made vs ls = record { number = number; here = here; branches = map (seen_branch edges) places; views = vs; logs = ls }

  -- one whose log alone is another
  pub logged_by : (h' : Held) (l : Option LogView) → h'.log ≡ l → held_view h' ≡ held_view h → broker_of (set held p h') ≡ with_log (broker_of held) p l
  logged_by h' l el ev =
      exchanged_to h' l (view_in (broker_of held) p) el (ev ∙ part_view)
      ∙ ap (λ vs. made vs (set (logs_of held) p l)) (set-get_or (map held_view held) p blank_view)
    where
      made : List View → List (Option LogView) → BrokerView
      made vs ls = record { number = number; here = here; branches = map (seen_branch edges) places; views = vs; logs = ls }

  -- the logs then: that of the publisher, and all others as before
  pub log_here : (h' : Held) → get_or (logs_of (set held p h')) p None ≡ h'.log
  log_here h' = ap (λ ls. get_or ls p None) (map-set (λ x. x.log) held p h') ∙ get_or-set_same (logs_of held) p h'.log None (subst (λ n. p < n) (sym (length-map held (λ x. x.log))) lt)

  pub log_there : (h' : Held) (q : ℕ) → q ≢ p → get_or (logs_of (set held p h')) q None ≡ get_or (logs_of held) q None
  log_there h' q n = ap (λ ls. get_or ls q None) (map-set (λ x. x.log) held p h') ∙ get_or-set_other (logs_of held) p q h'.log None n

  -- what holds of each log holds still where it holds of the one that was exchanged
  pub each_log : (P : ℕ → Option LogView → Type 0) (h' : Held) → ((q : ℕ) → q ≢ p → P q (get_or (logs_of held) q None)) → P p h'.log → (q : ℕ) → P q (get_or (logs_of (set held p h')) q None)
  each_log P h' all here q = go (cases_eq q p)
    where
      go : (q ≡ p) ⊎ (q ≢ p) → P q (get_or (logs_of (set held p h')) q None)
      go (inl s) = subst (λ (i : ℕ). P i (get_or (logs_of (set held p h')) i None)) (sym s) (subst (P p) (sym (log_here h')) here)
      go (inr n) = subst (P q) (sym (log_there h' q n)) (all q n)

  -- What a call leaves of the publisher's part it leaves of the broker
  pub leaves_exchanged : {T : Type 0} (result : Result T LogFault) (h' : Held) (l : Option LogView) (v : View) → Leaves h.log l (with_failed h.log) h'.log result →
      OnOk result (held_view h' ≡ v) → OnErr result (held_view h' ≡ held_view h) →
      Leaves (broker_of held) (with_view (with_log (broker_of held) p l) p v) (broken_at (broker_of held) p) (broker_of (set held p h')) result
  leaves_exchanged (Ok x) h' l v s ok err = record {
    ok = exchanged_to h' l v s.ok ok;
    memory = λ n. cc;
    closed = λ n. cc;
    failed = λ n. cc;
    never_damaged = λ at n. cc;
  }
  leaves_exchanged (Err f) h' l v s ok err = record {
    ok = tt;
    memory = λ n. unchanged_by h' (s.memory n) err;
    closed = λ n. unchanged_by h' (s.closed n) err;
    failed = λ n. logged_by h' (with_failed (log_in (broker_of held) p)) (s.failed n ∙ ap with_failed part_log) err;
    never_damaged = s.never_damaged;
  }

-- what holds of a log before a call, with the record of the call, and where the disk failed it, holds of the log after the call
pub after_leaves : {T : Type 0} (P : Option LogView → Type 0) (result : Result T LogFault) (l l' : Option LogView) (r : Option Record) → P l → P (with_logged l r) → P (with_failed l) → Leaves l (with_logged l r) (with_failed l) l' result → P l'
after_leaves P (Ok x) l l' r a b c s = subst P (sym s.ok) b
after_leaves P (Err fault.Memory) l l' r a b c s = subst P (sym (s.memory refl)) a
after_leaves P (Err fault.Disk) l l' r a b c s = subst P (sym (s.failed refl)) c
after_leaves P (Err fault.Reopen) l l' r a b c s = subst P (sym (s.closed refl)) a
after_leaves P (Err (fault.Damaged at)) l l' r a b c s = absurd (s.never_damaged at refl)

-- so a log stays one
pub stays_some : {T : Type 0} (result : Result T LogFault) (l l' : Option LogView) (r : Option Record) → Leaves l (with_logged l r) (with_failed l) l' result → is_some l' ≡ is_some l
stays_some result l l' r s = after_leaves (λ x. is_some x ≡ is_some l) result l l' r refl (logged_some l r) (failed_some l) s
  where
    logged_some : (l : Option LogView) (r : Option Record) → is_some (with_logged l r) ≡ is_some l
    logged_some None r = refl
    logged_some (Some x) None = refl
    logged_some (Some x) (Some y) = refl

    failed_some : (l : Option LogView) → is_some (with_failed l) ≡ is_some l
    failed_some None = refl
    failed_some (Some x) = refl

-- the lane of a log, where there is one
abbrev pub OnLane : ℕ → Option LogView → Type 0
OnLane n o = (l : LogView) → o ≡ Some l → l.lane ≡ n

-- and stays on its lane
pub stays_on : {T : Type 0} (n : ℕ) (result : Result T LogFault) (l l' : Option LogView) (r : Option Record) → OnLane n l → Leaves l (with_logged l r) (with_failed l) l' result → OnLane n l'
stays_on n result l l' r on s = after_leaves (OnLane n) result l l' r on (logged_on l r on) (failed_on l on) s
  where
    some_is : {x y : LogView} → Some x ≡ Some y → x ≡ y
    some_is {x} e = ap (λ o. elim o [ Some z ↦ z | None ↦ x ]) e

    logged_on : (l : Option LogView) (r : Option Record) → OnLane n l → OnLane n (with_logged l r)
    logged_on None r on m e = cc
    logged_on (Some x) None on m e = on m e
    logged_on (Some x) (Some y) on m e = ap (λ z. z.lane) (sym (some_is e)) ∙ on x refl

    failed_on : (l : Option LogView) → OnLane n l → OnLane n (with_failed l)
    failed_on None on m e = cc
    failed_on (Some x) on m e = ap (λ z. z.lane) (sym (some_is e)) ∙ on x refl

-- the subscribers that may join in a log, where there is one
abbrev pub HasLate : List ℕ → Option LogView → Type 0
HasLate late o = (l : LogView) → o ≡ Some l → l.state.late ≡ late

-- and they stay those
pub stays_late : {T : Type 0} (late : List ℕ) (result : Result T LogFault) (l l' : Option LogView) (r : Option Record) → HasLate late l → Leaves l (with_logged l r) (with_failed l) l' result → HasLate late l'
stays_late late result l l' r on s = after_leaves (HasLate late) result l l' r on (logged_on l r on) (failed_on l on) s
  where
    some_is : {x y : LogView} → Some x ≡ Some y → x ≡ y
    some_is {x} e = ap (λ o. elim o [ Some z ↦ z | None ↦ x ]) e

    logged_on : (l : Option LogView) (r : Option Record) → HasLate late l → HasLate late (with_logged l r)
    logged_on None r on m e = cc
    logged_on (Some x) None on m e = on m e
    logged_on (Some x) (Some y) on m e = ap (λ z. z.state.late) (sym (some_is e)) ∙ on x refl

    failed_on : (l : Option LogView) → HasLate late l → HasLate late (with_failed l)
    failed_on None on m e = cc
    failed_on (Some x) on m e = ap (λ z. z.state.late) (sym (some_is e)) ∙ on x refl

-- what an answer gives of its own, by another fact of it
pub both_ok : {T E : Type 0} {P R S : Type 0} (r : Result T E) → (P → R → S) → OnOk r P → OnOk r R → OnOk r S
both_ok (Ok x) f a b = f a b
both_ok (Err e) f a b = tt

-- a log that is there
pub there : {C : Type 0} (o : Option LogView) → IsSome o → ((l : LogView) → o ≡ Some l → C) → C
there (Some l) s f = f l refl
there None s f = absurd (false≢true s)

-- what the machine says of a publisher's log once a publish was logged
pub said_after : (net : Net) (p b now number : ℕ) (e : Event) (v : View) (o : Option LogView) → IsSome o →
    log_said (with_logged o (event_of (published (log_said o) number e now) number e)) ≡ (publish net p b now number e v (log_said o)).log
said_after net p b now number e v (Some l) s = by_record (publish_logs (said l) number e now) ∙ publish_log_is net p b now number e v l
  where
    by_record : (r : Option Record) → log_said (with_logged (Some l) r) ≡ said (appended_if r l)
    by_record None = refl
    by_record (Some r) = refl
said_after net p b now number e v None s = absurd (false≢true s)

-- and once a join was
pub said_joined : (net : Net) (p b now s : ℕ) (v : View) (o : Option LogView) → IsSome o →
    log_said (with_logged o (join_of (joined_at (log_said o) s now) s)) ≡ (join_with net p b now s v (log_said o)).log
said_joined net p b now s v (Some l) is = by_record (join_logs (said l) s now) ∙ join_log_is net p b now s v l
  where
    by_record : (r : Option Record) → log_said (with_logged (Some l) r) ≡ said (appended_if r l)
    by_record None = refl
    by_record (Some r) = refl
said_joined net p b now s v None is = absurd (false≢true is)

-- what a call does to the lanes of a publisher that is here
pub appends_at : {T : Type 0} (b : BrokerView) (p : ℕ) (r : Option Record) (before after : ℕ → Lane) (result : Result T LogFault) →
    ((l : LogView) → log_in b p ≡ Some l → Appends l r (lanes_at before (2 * p)) (lanes_at after (2 * p)) result) → AppendsAt b p r before after result
appends_at b p r before after result h = go (log_in b p) refl
  where
    At : Option LogView → Type 0
    At o = elim o [ Some l ↦ Appends l r (lanes_at before (2 * p)) (lanes_at after (2 * p)) result | None ↦ Unit {0} ]

    go : (o : Option LogView) → log_in b p ≡ o → At o
    go (Some l) e = h l e
    go None e = tt
