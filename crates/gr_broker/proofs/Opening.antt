-- A broker's start goes publisher by publisher: what is kept of one more is put beside the others, and a lane that no publisher so
-- far has is as it was, so each lane is opened as it was found.
use Rattle.std.proofs.Common.{◌≡◌, inl, inr, ℕ, zero, suc, ◌+◌, ◌*◌, ◌<◌, ◌≤◌, Bool, true, false, List, [], ◌∷◌, ◌++◌, length, get_or, map, Option, Some, None, Result, Ok, Err, OnOk, refl, sym, ap, ap₂, ◌∙◌, subst, arith}
use Rattle.std.specs.Prelude.{IsOk, is_ok, is_some, flat_map, ◌||◌}
use Rattle.std.proofs.lemmas.Bool.{cases_lt, cases_eq, false≢true}
use Rattle.std.proofs.lemmas.List.{append-nil, append_assoc, length_push, get_or_push, get_or_append_left, get_or_past, map_push}
use Rattle.gr_topo.specs.Topology.{TopologyView, subscribers_of}
use Rattle.gr_out.specs.declared.disk.Stop.{Stop}
use Rattle.gr_out.specs.Lane.{Lane, Call, content, moment, has_stopped, LeftAfter, LeftFrom, LeftSince, MayLeave}
use Rattle.gr_publog.specs.declared.record.LogFault.{LogFault}
use Rattle.gr_publog.specs.Lanes.{lanes_text, state_in}
use Rattle.gr_publog.specs.Views.{LogView, Lanes, lanes_at, AwayFrom, LeftPair, MayLeavePair}
use Rattle.gr_publog.specs.Opens.{Opens, Settles}
use Rattle.gr_publog.proofs.Moments.{only_now}
use Rattle.gr_model.specs.declared.report.Report.{Report}
use Rattle.gr_model.specs.Net.{numbers, numbers_from, is_host}
use Rattle.gr_model.specs.NetOf.{net_of}
use Rattle.gr_model.specs.Broker.{View}
use Rattle.gr_model.specs.World.{blank_view}
use Rattle.gr_broker_relay.specs.declared.held.Held.{Held}
use Rattle.gr_broker_relay.specs.Held.{held_view}
use Rattle.gr_broker_relay.specs.declared.outcome.Outcome.{Outcome as BrokerOutcome}
use Rattle.gr_broker_relay.specs.Branch.{Branch, branch_of}
use Rattle.gr_broker_relay.proofs.Placing.{numbers_more}
use Rattle.gr_broker.specs.Seen.{BrokerView, log_said}
use Rattle.gr_broker.specs.Lanes.{GoesOnBoth, AreUnset, either_stopped}
use Rattle.gr_broker.specs.Opened.{StartsOver, OpensLanes, LosesNothing, found_at, IsDamagedAt}
use Rattle.gr_broker.proofs.Fresh.{none_some, opened_silent}
use Rattle.gr_broker.specs.Starting.{start_lines, IsStarted, AreStarted, AreOpened, TouchesLanes}
use Rattle.gr_broker.proofs.Using.{both_same}

-- Lists of publishers

flat_map_same : {X : Type 0} (f g : ℕ → List X) (a n : ℕ) → ((k : ℕ) → a ≤ k → k < a + n → f k ≡ g k) → flat_map f (numbers_from a n) ≡ flat_map g (numbers_from a n)
flat_map_same f g a zero h = refl
flat_map_same f g a (suc n) h =
    ap (λ xs. xs ++ flat_map f (numbers_from (suc a) n)) (h a (omega arith) (omega arith))
    ∙ ap (λ xs. g a ++ xs) (flat_map_same f g (suc a) n (λ k from upto. h k (omega (arith, from)) (omega (arith, upto))))

flat_map_push : {X : Type 0} (f : ℕ → List X) (ks : List ℕ) (k : ℕ) → flat_map f (ks ++ k ∷ []) ≡ flat_map f ks ++ f k
flat_map_push f [] k = append-nil (f k)
flat_map_push f (j ∷ js) k = ap (λ xs. f j ++ xs) (flat_map_push f js k) ∙ sym (append_assoc (f j) (flat_map f js) (f k))

-- what more publishers tell
lines_more : (f g : ℕ → List Report) (n : ℕ) (lines more : List Report) → ((k : ℕ) → k < n → f k ≡ g k) → more ≡ g n → lines ≡ flat_map f (numbers n) → lines ++ more ≡ flat_map g (numbers (n + 1))
lines_more f g n lines more same e told =
    ap (λ xs. xs ++ more) (told ∙ flat_map_same f g 0 n (λ k from upto. same k (omega (arith, upto))))
    ∙ ap (λ xs. flat_map g (numbers n) ++ xs) e
    ∙ sym (ap (flat_map g) (numbers_more n) ∙ flat_map_push g (numbers n) n)

-- One publisher more

module _ (t : TopologyView) (b n : ℕ) (views : List View) (logs : List (Option LogView)) where
  each_more : (v : View) (l : Option LogView) → length views ≡ n → length logs ≡ n → ((p : ℕ) → p < n → IsStarted t p b (get_or views p blank_view) (get_or logs p None)) → IsStarted t n b v l
      → (p : ℕ) → p < n + 1 → IsStarted t p b (get_or (views ++ v ∷ []) p blank_view) (get_or (logs ++ l ∷ []) p None)
  each_more v l many as_many each one p j = elim (cases_lt p n) [
    | inl k ↦ rw (get_or_append_left views (v ∷ []) blank_view p (omega (arith, many)), get_or_append_left logs (l ∷ []) None p (omega (arith, as_many))) (each p k)
    | inr k ↦
        let e : p ≡ n = omega (arith, k, j) in
        subst (λ (q : ℕ). IsStarted t q b (get_or (views ++ v ∷ []) q blank_view) (get_or (logs ++ l ∷ []) q None)) (sym e)
        (rw (get_or_push views v blank_view n many, get_or_push logs l None n as_many) one)
  ]

  -- what is kept of one more is put beside the others
  started_more : (lines : List Report) (v : View) (l : Option LogView) → AreStarted t b n views logs lines → IsStarted t n b v l
      → AreStarted t b (n + 1) (views ++ v ∷ []) (logs ++ l ∷ []) (lines ++ start_lines t b l n)
  started_more lines v l s one = record {
    count = length_push views v ∙ ap (λ k. k + 1) s.count;
    as_many = length_push logs l ∙ ap (λ k. k + 1) s.as_many;
    each = each_more v l s.count s.as_many s.each one;
    told = lines_more (λ p. start_lines t b (get_or logs p None) p) (λ p. start_lines t b (get_or (logs ++ l ∷ []) p None) p) n lines (start_lines t b l n)
        (λ k j. ap (λ m. start_lines t b m k) (sym (get_or_append_left logs (l ∷ []) None k (omega (arith, s.as_many)))))
        (ap (λ m. start_lines t b m n) (sym (get_or_push logs l None n s.as_many))) s.told;
  }

-- Lanes

-- what may be left now may have been left since any moment
left_now : (start : List ℕ) (calls : List Call) (n : ℕ) (image : List ℕ) → LeftAfter start calls image → LeftFrom start calls n image
left_now start [] n image left = left
left_now start (c ∷ calls) n image left = inl left

pub since_now : (l : Lane) (n : ℕ) (image : List ℕ) → MayLeave l image → LeftSince l n image
since_now l n image left = left_now l.start l.calls n image left

pub now_of_pair : (ls : Lanes) (a b : List ℕ) → LeftPair ls ls a b → MayLeavePair ls a b
now_of_pair ls a b left = (only_now ls.first.start ls.first.calls a left.0, only_now ls.second.start ls.second.calls b left.1)

-- lanes that were not touched have lost nothing
pub loses_nothing : (late : List ℕ) (before after : Lanes) → after ≡ before → LosesNothing late before after
loses_nothing late before after e = record {
  synced = before;
  on_synced = both_same before before refl;
  on = both_same before after e;
  before_sync = now_of_pair before;
  any_moment = λ a b left. inl (now_of_pair before a b (subst (λ (ls : Lanes). LeftPair before ls a b) e left));
}

-- those that were opened have lost nothing, whatever came of it
pub opening_loses : (late : List ℕ) (lane : ℕ) (before after : Lanes) (result : Result LogView LogFault) → Opens late lane before after result → LosesNothing late before after
opening_loses late lane before after result o = by_answer o.answer refl
  where
    synced : Lanes
    synced = o.synced

    on_synced : GoesOnBoth before synced
    on_synced = record { first = o.syncs.on_first; second = o.syncs.on_second }

    settled : Settles late lane synced after result → LosesNothing late before after
    settled s = record {
      synced = synced;
      on_synced = on_synced;
      on = record { first = s.on_first; second = s.on_second };
      before_sync = o.syncs.any_moment;
      any_moment = λ a b left. inr (s.any_moment a b left ∙ ap (λ (x : List ℕ). state_in late x (content synced.second)) o.syncs.first ∙ ap (λ (x : List ℕ). state_in late (content before.first) x) o.syncs.second);
    }

    by_answer : (answer : Result (Unit {0}) LogFault) → o.answer ≡ answer → LosesNothing late before after
    by_answer (Ok x) e = settled (subst (λ (r : Result (Unit {0}) LogFault). OnOk r (Settles late lane synced after result)) e o.settles)
    by_answer (Err f) e =
        let same : after ≡ synced = (o.stops f e).0 in
        record {
          synced = synced;
          on_synced = on_synced;
          on = both_same synced after same;
          before_sync = o.syncs.any_moment;
          any_moment = λ a b left.
              let now = now_of_pair synced a b (subst (λ (ls : Lanes). LeftPair synced ls a b) same left) in
              inl (o.syncs.any_moment a b (since_now synced.first (moment before.first) a now.0, since_now synced.second (moment before.second) b now.1));
        }

-- so have those of a publisher
pub publisher_loses : (late late' : List ℕ) (n lane : ℕ) (before after : ℕ → Lane) (result : Result LogView LogFault) → late ≡ late' → n ≡ lane → Opens late n (lanes_at before n) (lanes_at after n) result
    → LosesNothing late' (lanes_at before lane) (lanes_at after lane)
publisher_loses late late' n lane before after result same at o =
    subst (λ (k : ℕ). LosesNothing late' (lanes_at before k) (lanes_at after k)) at
    (subst (λ (x : List ℕ). LosesNothing x (lanes_at before n) (lanes_at after n)) same (opening_loses late n (lanes_at before n) (lanes_at after n) result o))

-- where no stop was ordered on them there is none
pub opening_unset : (late : List ℕ) (lane : ℕ) (before after : Lanes) (result : Result LogView LogFault) → Opens late lane before after result → AreUnset before → AreUnset after
opening_unset late lane before after result o u = by_answer o.answer refl
  where
    synced : Lanes
    synced = o.synced

    by_answer : (answer : Result (Unit {0}) LogFault) → o.answer ≡ answer → AreUnset after
    by_answer (Ok x) e =
        let s : Settles late lane synced after result = subst (λ (r : Result (Unit {0}) LogFault). OnOk r (Settles late lane synced after result)) e o.settles in
        record { first = s.unset_first (o.syncs.unset_first u.first); second = s.unset_second (o.syncs.unset_second u.second) }
    by_answer (Err f) e =
        subst (λ (ls : Lanes). AreUnset ls) (sym (o.stops f e).0) (record { first = o.syncs.unset_first u.first; second = o.syncs.unset_second u.second })

-- and none has stopped
pub none_stopped : (ls : Lanes) → AreUnset ls → either_stopped ls ≡ true → ⊥
none_stopped ls u e = false≢true (sym (ap₂ (λ (x y : Stop). has_stopped x || has_stopped y) u.first u.second) ∙ e)

-- lanes of different publishers are apart
lanes_apart : (p q : ℕ) → (p ≡ q → ⊥) → AwayFrom (2 * p) (2 * q) × AwayFrom (2 * p) (suc (2 * q))
lanes_apart p q n = (
  (λ e. n (let s = e in omega (arith, s)), λ e. omega (arith, e)),
  (λ e. omega (arith, e), λ e. n (let s = e in omega (arith, s))),
)

-- two lanes that are as they were
pub both_lanes : (before after : ℕ → Lane) (n : ℕ) → after n ≡ before n → after (suc n) ≡ before (suc n) → lanes_at after n ≡ lanes_at before n
both_lanes before after n a b = ap₂ (λ (x y : Lane). let ls : Lanes = record { first = x; second = y } in ls) a b

-- those of one publisher are as they were where those of another one alone were called
pub lanes_there : (before after : ℕ → Lane) (p q : ℕ) → ((n : ℕ) → AwayFrom (2 * p) n → after n ≡ before n) → (p ≡ q → ⊥) → lanes_at after (2 * q) ≡ lanes_at before (2 * q)
lanes_there before after p q others n = both_lanes before after (2 * q) (others (2 * q) (lanes_apart p q n).0) (others (suc (2 * q)) (lanes_apart p q n).1)

module _ (t : TopologyView) (b n : ℕ) (before mid after : ℕ → Lane) where
  -- the lanes of the next publisher are as they were at first
  next_lanes : TouchesLanes t b n before mid → lanes_at mid (2 * n) ≡ lanes_at before (2 * n)
  next_lanes s =
      both_lanes before mid (2 * n) (s.others (2 * n) (λ p j here. (lanes_apart p n (λ e. omega (arith, j, e))).0))
      (s.others (suc (2 * n)) (λ p j here. (lanes_apart p n (λ e. omega (arith, j, e))).1))

  -- so where no stop was ordered on them there is none
  pub next_unset : TouchesLanes t b n before mid → ((p : ℕ) → p < length t.publishers → is_host (net_of t) p b ≡ true → AreUnset (lanes_at before (2 * p)))
      → n < length t.publishers → is_host (net_of t) n b ≡ true → AreUnset (lanes_at mid (2 * n))
  next_unset s none j here = subst (λ (ls : Lanes). AreUnset ls) (sym (next_lanes s)) (none n j here)

  -- one publisher more touches no lanes but its own
  pub touches_more : TouchesLanes t b n before mid → ((k : ℕ) → AwayFrom (2 * n) k → after k ≡ mid k) → (is_host (net_of t) n b ≡ false → (k : ℕ) → after k ≡ mid k)
      → (is_host (net_of t) n b ≡ true → LosesNothing t.late (lanes_at mid (2 * n)) (lanes_at after (2 * n))) → TouchesLanes t b (n + 1) before after
  touches_more s others below any = record {
    others = λ k h. other k h (is_host (net_of t) n b) refl;
    any_moment = λ p j here. elim (cases_lt p n) [
      | inl q ↦ subst (λ (ls : Lanes). LosesNothing t.late (lanes_at before (2 * p)) ls) (sym (lanes_there mid after n p others (λ e. omega (arith, q, e)))) (s.any_moment p q here)
      | inr q ↦
          let e : p ≡ n = omega (arith, q, j) in
          subst (λ (k : ℕ). LosesNothing t.late (lanes_at before (2 * k)) (lanes_at after (2 * k))) (sym e)
          (subst (λ (ls : Lanes). LosesNothing t.late ls (lanes_at after (2 * n))) (next_lanes s) (any (subst (λ (k : ℕ). is_host (net_of t) k b ≡ true) e here)))
    ];
  }
    where
      rest : (k : ℕ) → ((p : ℕ) → p < n + 1 → is_host (net_of t) p b ≡ true → AwayFrom (2 * p) k) → mid k ≡ before k
      rest k h = s.others k (λ p j. h p (omega (arith, j)))

      other : (k : ℕ) → ((p : ℕ) → p < n + 1 → is_host (net_of t) p b ≡ true → AwayFrom (2 * p) k) → (c : Bool) → is_host (net_of t) n b ≡ c → after k ≡ before k
      other k h true e = others k (h n (omega arith) e) ∙ rest k h
      other k h false e = below e k ∙ rest k h

  -- what holds of the lanes so far holds of all: those of later publishers are as they were
  pub touches_all : (m : ℕ) → n ≤ m → TouchesLanes t b n before after → TouchesLanes t b m before after
  touches_all m le s = record {
    others = λ k h. s.others k (λ p j. h p (omega (arith, j, le)));
    any_moment = λ p j here. elim (cases_lt p n) [
      | inl q ↦ s.any_moment p q here
      | inr q ↦
          loses_nothing t.late (lanes_at before (2 * p)) (lanes_at after (2 * p))
          (both_lanes before after (2 * p) (s.others (2 * p) (λ k i there. (lanes_apart k p (λ e. omega (arith, q, i, e))).0))
          (s.others (suc (2 * p)) (λ k i there. (lanes_apart k p (λ e. omega (arith, q, i, e))).1)))
    ];
  }

  -- the lanes of each are opened as they were found: no later publisher touches them
  opened_more : (logs : List (Option LogView)) (l : Option LogView) → length logs ≡ n → AreOpened t logs before mid → TouchesLanes t b n before mid
      → ((k : ℕ) → AwayFrom (2 * n) k → after k ≡ mid k) → ((m : LogView) → l ≡ Some m → Opens t.late (2 * n) (lanes_at mid (2 * n)) (lanes_at after (2 * n)) (Ok m)) → AreOpened t (logs ++ l ∷ []) before after
  opened_more logs l many opened s others one p m e = elim (cases_lt p n) [
    | inl q ↦
        subst (λ (ls : Lanes). Opens t.late (2 * p) (lanes_at before (2 * p)) ls (Ok m)) (sym (lanes_there mid after n p others (λ f. omega (arith, q, f))))
        (opened p m (sym (get_or_append_left logs (l ∷ []) None p (omega (arith, q, many))) ∙ e))
    | inr q ↦ elim (cases_eq p n) [
      | inl f ↦
          subst (λ (k : ℕ). Opens t.late (2 * k) (lanes_at before (2 * k)) (lanes_at after (2 * k)) (Ok m)) (sym f)
          (subst (λ (ls : Lanes). Opens t.late (2 * n) ls (lanes_at after (2 * n)) (Ok m)) (next_lanes s)
          (one m (sym (get_or_push logs l None n many) ∙ subst (λ (k : ℕ). get_or (logs ++ l ∷ []) k None ≡ Some m) f e)))
      | inr f ↦ absurd (none_some m (sym (get_or_past (logs ++ l ∷ []) p None (omega (arith, q, f, many, length_push logs l))) ∙ e))
    ]
  ]

-- One publisher more, as they are kept

module _ (t : TopologyView) (b n : ℕ) (old new : List Held) (h : Held) (e : new ≡ old ++ h ∷ []) where
  -- what is kept of them
  pub started_next : (lines told : List Report) → told ≡ lines ++ start_lines t b h.log n → AreStarted t b n (map held_view old) (map (λ (x : Held). x.log) old) lines → IsStarted t n b (held_view h) h.log
      → AreStarted t b (n + 1) (map held_view new) (map (λ (x : Held). x.log) new) told
  started_next lines told says s one =
      rw (e, map_push held_view old h, map_push (λ (x : Held). x.log) old h, says) (started_more t b n (map held_view old) (map (λ (x : Held). x.log) old) lines (held_view h) h.log s one)

  -- and their lanes
  pub opened_next : (before mid after : ℕ → Lane) → length (map (λ (x : Held). x.log) old) ≡ n → AreOpened t (map (λ (x : Held). x.log) old) before mid → TouchesLanes t b n before mid
      → ((k : ℕ) → AwayFrom (2 * n) k → after k ≡ mid k) → ((m : LogView) → h.log ≡ Some m → Opens t.late (2 * n) (lanes_at mid (2 * n)) (lanes_at after (2 * n)) (Ok m)) → AreOpened t (map (λ (x : Held). x.log) new) before after
  opened_next before mid after many opened s others one =
      rw (e, map_push (λ (x : Held). x.log) old h) (opened_more t b n before mid after (map (λ (x : Held). x.log) old) h.log many opened s others one)

-- the fault of an answer is the same whatever was to be answered
pub err_is : {T E : Type 0} (f e : E) → ◌≡◌ {A = Result T E} (Err f) (Err e) → f ≡ e
err_is f e h = cc

-- Lanes that hold no log

is_ok_of : {X : Type 0} (r : Result X ℕ) (x : X) → r ≡ Ok x → IsOk r
is_ok_of {X} r x e = ap (λ (y : Result X ℕ). is_ok y) e

some_log : (l : Option LogView) → is_some l ≡ true → (m : LogView) × (l ≡ Some m)
some_log None e = absurd (false≢true e)
some_log (Some m) e = (m, refl)

-- the first lanes that hold no log stop the start, so those before them hold one
pub damaged_at : (t : TopologyView) (b n q at : ℕ) (views : List View) (logs : List (Option LogView)) (lines : List Report) (before mid : ℕ → Lane)
    → n < length t.publishers → AreStarted t b n views logs lines → AreOpened t logs before mid → TouchesLanes t b n before mid
    → q ≡ n → is_host (net_of t) n b ≡ true → found_at t mid n ≡ Err at → IsDamagedAt t b q at before
damaged_at t b n q at views logs lines before mid j s opened touched e here fault =
    subst (λ (p : ℕ). IsDamagedAt t b p at before) (sym e) (record {
      publisher = j;
      hosted = here;
      fault = subst (λ (ls : Lanes). lanes_text t.late (content ls.first) (content ls.second) ≡ Err at) (next_lanes t b n before mid mid touched) fault;
      before = λ p k there. let m = some_log (get_or logs p None) ((s.each p k).hosted ∙ there) in
          let gives = (opened p m.0 m.1).gives in
          is_ok_of (found_at t before p) gives.0 gives.1;
    })

-- The broker that has started

place_of_log : (logs : List (Option LogView)) (p : ℕ) (l : LogView) → get_or logs p None ≡ Some l → p < length logs
place_of_log logs p l e = elim (cases_lt p (length logs)) [
  | inl k ↦ k
  | inr k ↦ absurd (none_some l (sym (get_or_past logs p None k) ∙ e))
]

module _ (t : TopologyView) (b : ℕ) (here : List ℕ) (branches : List Branch) (views : List View) (logs : List (Option LogView)) (told : BrokerOutcome) where
  abbrev the_broker : BrokerView
  the_broker = record { number = b; here = here; branches = branches; views = views; logs = logs }

  -- it is one of the topology, and over its logs as each publisher's start says
  pub starts_over : b < length t.brokers → here ≡ subscribers_of t b → branches ≡ map (branch_of t b) (numbers (length t.publishers))
      → AreStarted t b (length t.publishers) views logs told.reports → told.frames.frames ≡ [] → StartsOver t b the_broker told
  starts_over j at stands s none = record {
    number = refl;
    fits = record {
      number = j;
      here = at;
      branches = stands;
      views = s.count;
      logs = s.as_many;
      kept = λ p k. (s.each p k).kept;
      hosted = λ p k. (s.each p k).hosted;
      lanes = λ p l e. (s.each p (let k : p < length t.publishers = omega (arith, place_of_log logs p l e, s.as_many) in k)).lane l e;
      late = λ p l e. (s.each p (let k : p < length t.publishers = omega (arith, place_of_log logs p l e, s.as_many) in k)).late l e;
      joined = λ p l e. (s.each p (let k : p < length t.publishers = omega (arith, place_of_log logs p l e, s.as_many) in k)).joined l e;
    };
    views = λ p k. (s.each p k).view;
    lines = s.told;
    frames = none;
    sends_none = λ p k. opened_silent (net_of t) p b (log_said (get_or logs p None));
    whole = λ p l e. (s.each p (let k : p < length t.publishers = omega (arith, place_of_log logs p l e, s.as_many) in k)).whole l e;
  }

  -- and its lanes were opened
  pub opens_lanes : (before after : ℕ → Lane) → AreStarted t b (length t.publishers) views logs told.reports → AreOpened t logs before after → TouchesLanes t b (length t.publishers) before after
      → OpensLanes t the_broker before after
  opens_lanes before after s opened touched = record {
    opened = opened;
    others = λ n h. touched.others n (λ p j here. h p ((s.each p j).hosted ∙ here));
  }
