-- Brokers start one after another: what is kept and told of one more is put behind that of the others, and the lanes of each log are
-- opened as they were found, since no later broker touches them.
use Rattle.std.proofs.Common.{◌≡◌, ◌≢◌, ◌⊎◌, inl, inr, ℕ, suc, ◌+◌, ◌<◌, ◌≤◌, true, List, [], ◌∷◌, ◌++◌, length, get_or, Some, Ok, Err, refl, sym, ap, ◌∙◌, subst, arith}
use Rattle.std.specs.Prelude.{flat_map, is_ok, IsOk}
use Rattle.std.proofs.lemmas.Bool.{cases_lt}
use Rattle.std.proofs.lemmas.List.{append-nil, append_assoc, length_push, get_or_push, get_or_append_left}
use Rattle.gr_out.specs.Lane.{Lane, content}
use Rattle.gr_publog.specs.Lanes.{lanes_text}
use Rattle.gr_publog.specs.Views.{Lanes, lanes_at, AwayFrom}
use Rattle.gr_publog.specs.Opens.{Opens}
use Rattle.gr_publog.proofs.Onward.{goes_on_same}
use Rattle.gr_publog.proofs.Passing.{left_still}
use Rattle.gr_topo.specs.Topology.{TopologyView, host_of}
use Rattle.gr_model.specs.declared.report.Report.{Report}
use Rattle.gr_model.specs.Net.{numbers, is_host}
use Rattle.gr_model.specs.NetOf.{net_of}
use Rattle.gr_broker_relay.specs.declared.outcome.Outcome.{Outcome as BrokerOutcome}
use Rattle.gr_broker_relay.proofs.Placing.{numbers_more}
use Rattle.gr_broker.specs.Lanes.{log_lane, AreUnset}
use Rattle.gr_broker.specs.Seen.{BrokerView, log_in}
use Rattle.gr_broker.specs.Opened.{StartsOver, OpensLanes, LosesNothing, found_at, IsDamagedAt}
use Rattle.gr_report.proofs.Along.{flat_map_same}
use Rattle.gr_world.specs.Seen.{no_broker}
use Rattle.gr_world.specs.Disk.{LeavesOthers}
use Rattle.gr_world.specs.Opened.{NoStops, IsFirstDamaged}
use Rattle.gr_world.specs.Starting.{start_lines, HasStarted, HaveStarted, HaveOpened}
use Rattle.gr_report.proofs.Hosts.{host_is, is_host_at, hosted_log, log_hosted, lanes_apart}
use Rattle.gr_world.proofs.Lanes.{lanes_same}

-- Lists along numbers

flat_map_push : {X : Type 0} (f : ℕ → List X) (ks : List ℕ) (k : ℕ) → flat_map f (ks ++ k ∷ []) ≡ flat_map f ks ++ f k
flat_map_push f [] k = append-nil (f k)
flat_map_push f (j ∷ js) k = ap (λ xs. f j ++ xs) (flat_map_push f js k) ∙ sym (append_assoc (f j) (flat_map f js) (f k))

lines_more : (f g : ℕ → List Report) (n : ℕ) (told more : List Report) → ((k : ℕ) → k < n → f k ≡ g k) → more ≡ g n → told ≡ flat_map f (numbers n) → told ++ more ≡ flat_map g (numbers (n + 1))
lines_more f g n told more same e is =
    ap (λ xs. xs ++ more) (is ∙ flat_map_same f g 0 n (λ k from upto. same k (omega (arith, upto))))
    ∙ ap (λ xs. flat_map g (numbers n) ++ xs) e
    ∙ sym (ap (flat_map g) (numbers_more n) ∙ flat_map_push g (numbers n) n)

-- what a broker's start says, but for its frames
pub has_started : (t : TopologyView) (b : ℕ) (v : BrokerView) (told : BrokerOutcome) → StartsOver t b v told → HasStarted t b v
has_started t b v told s = record { number = s.number; fits = s.fits; views = s.views; whole = s.whole }

-- One broker more

module _ (t : TopologyView) (n : ℕ) (brokers : List BrokerView) (v : BrokerView) where
  abbrev more : List BrokerView
  more = brokers ++ v ∷ []

  at_old : length brokers ≡ n → (b : ℕ) → b < n → get_or more b no_broker ≡ get_or brokers b no_broker
  at_old many b j = get_or_append_left brokers (v ∷ []) no_broker b (omega (arith, many, j))

  at_new : length brokers ≡ n → get_or more n no_broker ≡ v
  at_new many = get_or_push brokers v no_broker n many

  each_more : length brokers ≡ n → ((b : ℕ) → b < n → HasStarted t b (get_or brokers b no_broker)) → HasStarted t n v
      → (b : ℕ) → b < n + 1 → HasStarted t b (get_or more b no_broker)
  each_more many each one b j = elim (cases_lt b n) [
    | inl k ↦ subst (λ (x : BrokerView). HasStarted t b x) (sym (at_old many b k)) (each b k)
    | inr k ↦
        let e : b ≡ n = omega (arith, k, j) in
        subst (λ (m : ℕ). HasStarted t m (get_or more m no_broker)) (sym e) (subst (λ (x : BrokerView). HasStarted t n x) (sym (at_new many)) one)
  ]

  started_more : (told lines : List Report) → HaveStarted t n brokers told → HasStarted t n v → lines ≡ start_lines t n v → HaveStarted t (n + 1) more (told ++ lines)
  started_more told lines s one e = record {
    count = length_push brokers v ∙ ap (λ k. k + 1) s.count;
    each = each_more s.count s.each one;
    lines = lines_more (λ b. start_lines t b (get_or brokers b no_broker)) (λ b. start_lines t b (get_or more b no_broker)) n told lines
        (λ k j. ap (start_lines t k) (sym (at_old s.count k j))) (e ∙ ap (start_lines t n) (sym (at_new s.count))) s.lines;
  }

  module _ (before mid after : ℕ → Lane)
      (others : (k : ℕ) → ((p : ℕ) → p < length t.publishers → is_host (net_of t) p n ≡ true → AwayFrom (log_lane p) k) → after k ≡ mid k) where
    -- the lanes of publishers at other brokers stay
    stays : (p b : ℕ) → host_of t p ≡ b → b ≢ n → lanes_at after (log_lane p) ≡ lanes_at mid (log_lane p)
    stays p b at apart =
        lanes_same mid after (log_lane p)
        (others (log_lane p) (λ q j here. (lanes_apart t p q b n at (host_is t q n here) apart).0))
        (others (suc (log_lane p)) (λ q j here. (lanes_apart t p q b n at (host_is t q n here) apart).1))

    opened_more : (told : List Report) → HaveStarted t n brokers told → HasStarted t n v → HaveOpened t n brokers before mid → OpensLanes t v mid after → HaveOpened t (n + 1) more before after
    opened_more told s one sofar new = record {
      opened = λ b p l j e. elim (cases_lt b n) [
        | inl k ↦
            let h = s.each b k in
            let e' : log_in (get_or brokers b no_broker) p ≡ Some l = subst (λ (x : BrokerView). log_in x p ≡ Some l) (at_old s.count b k) e in
            let at = log_hosted t b (get_or brokers b no_broker) h.fits h.number p l e' in
            subst (λ (x : Lanes). Opens t.late (log_lane p) (lanes_at before (log_lane p)) x (Ok l)) (sym (stays p b at.1 (λ same. omega (arith, k, same)))) (sofar.opened b p l k e')
        | inr k ↦
            let same : b ≡ n = omega (arith, k, j) in
            let e' : log_in v p ≡ Some l = subst (λ (x : BrokerView). log_in x p ≡ Some l) (ap (λ m. get_or more m no_broker) same ∙ at_new s.count) e in
            let at = log_hosted t n v one.fits one.number p l e' in
            subst (λ (x : Lanes). Opens t.late (log_lane p) x (lanes_at after (log_lane p)) (Ok l)) (untouched p at.1) (new.opened p l e')
      ];
      others = λ k h. others k (λ p j here. h p j (let e = host_is t p n here in omega (arith, e))) ∙ sofar.others k (λ p j below. h p j (omega (arith, below)));
    }
      where
        untouched : (p : ℕ) → host_of t p ≡ n → lanes_at mid (log_lane p) ≡ lanes_at before (log_lane p)
        untouched p at =
            lanes_same before mid (log_lane p)
            (sofar.others (log_lane p) (λ q j below. (lanes_apart t p q n (host_of t q) at refl (λ e. omega (arith, e, below))).0))
            (sofar.others (suc (log_lane p)) (λ q j below. (lanes_apart t p q n (host_of t q) at refl (λ e. omega (arith, e, below))).1))

-- the same of lists by what they are
pub started_next : (t : TopologyView) (n : ℕ) (old new : List BrokerView) (v : BrokerView) (told told' : List Report) (outcome : BrokerOutcome)
    → new ≡ old ++ v ∷ [] → told' ≡ told ++ outcome.reports → HaveStarted t n old told → StartsOver t n v outcome → HaveStarted t (n + 1) new told'
started_next t n old new v told told' outcome e says s one =
    rw (e, says) (started_more t n old v told outcome.reports s (has_started t n v outcome one) one.lines)

-- and of their lanes
pub opened_next : (t : TopologyView) (n : ℕ) (old new : List BrokerView) (v : BrokerView) (told : List Report) (outcome : BrokerOutcome) (before mid after : ℕ → Lane)
    → new ≡ old ++ v ∷ [] → HaveStarted t n old told → StartsOver t n v outcome → HaveOpened t n old before mid → OpensLanes t v mid after
    → ((k : ℕ) → ((p : ℕ) → p < length t.publishers → is_host (net_of t) p n ≡ true → AwayFrom (log_lane p) k) → after k ≡ mid k) → HaveOpened t (n + 1) new before after
opened_next t n old new v told outcome before mid after e s one sofar opens others =
    rw e (opened_more t n old v before mid after others told s (has_started t n v outcome one) sofar opens)

-- before the first
pub none_started : (t : TopologyView) (brokers : List BrokerView) (told : List Report) → brokers ≡ [] → told ≡ [] → HaveStarted t 0 brokers told
none_started t brokers told none nothing = rw (none, nothing) (record { count = refl; each = λ b j. absurd (omega (arith, j)); lines = refl })

-- no lane was opened then
pub none_opened : (t : TopologyView) (brokers : List BrokerView) (before after : ℕ → Lane) → ((n : ℕ) → after n ≡ before n) → HaveOpened t 0 brokers before after
none_opened t brokers before after same = record { opened = λ b p l j e. absurd (omega (arith, j)); others = λ n h. same n }

-- The lanes of the brokers that have started held logs
pub read_before : (t : TopologyView) (n : ℕ) (brokers : List BrokerView) (told : List Report) (before mid : ℕ → Lane) → HaveStarted t n brokers told → HaveOpened t n brokers before mid → (q : ℕ) → q < length t.publishers → host_of t q < n → IsOk (found_at t before q)
read_before t n brokers told before mid s o q j below =
    let b = host_of t q in
    let h = s.each b below in
    let l = hosted_log t b (get_or brokers b no_broker) h.fits h.number q j refl in
    let x = (o.opened b q l.0 below l.1).gives in
    ap is_ok x.1

-- The lanes of a broker that is still to start are as they were at first

module _ (t : TopologyView) (n : ℕ) (brokers : List BrokerView) (before mid : ℕ → Lane) (sofar : HaveOpened t n brokers before mid) where
  lane_first : (p : ℕ) → host_of t p ≡ n → lanes_at mid (log_lane p) ≡ lanes_at before (log_lane p)
  lane_first p there =
      lanes_same before mid (log_lane p)
      (sofar.others (log_lane p) (λ q j below. (lanes_apart t p q n (host_of t q) there refl (λ e. omega (arith, e, below))).0))
      (sofar.others (suc (log_lane p)) (λ q j below. (lanes_apart t p q n (host_of t q) there refl (λ e. omega (arith, e, below))).1))

  -- so those that hold no log then held none
  pub damaged_first : (p at : ℕ) → IsDamagedAt t n p at mid → IsDamagedAt t (host_of t p) p at before
  damaged_first p at d =
      let there = host_is t p n d.hosted in
      subst (λ (b : ℕ). IsDamagedAt t b p at before) (sym there) (record {
        publisher = d.publisher;
        hosted = d.hosted;
        fault = subst (λ (ls : Lanes). lanes_text t.late (content ls.first) (content ls.second) ≡ Err at) (lane_first p there) d.fault;
        before = λ q j here. subst (λ (ls : Lanes). IsOk (lanes_text t.late (content ls.first) (content ls.second))) (lane_first q (host_is t q n here)) (d.before q j here);
      })

  -- and it is the first of all
  pub damaged_of_all : (told : List Report) → HaveStarted t n brokers told → (p at : ℕ) → IsDamagedAt t n p at mid → IsFirstDamaged t p at before
  damaged_of_all told s p at d =
      let there = host_is t p n d.hosted in
      record { here = damaged_first p at d; before = λ q j below. read_before t n brokers told before mid s sofar q j (subst (λ b. host_of t q < b) there below) }

  -- and without a stop there is none
  pub unset_first : NoStops before → (p : ℕ) → p < length t.publishers → is_host (net_of t) p n ≡ true → AreUnset (lanes_at mid (log_lane p))
  unset_first none p j here = subst AreUnset (sym (lane_first p (host_is t p n here))) (record { first = none (log_lane p); second = none (suc (log_lane p)) })

-- What lanes have lost

-- those that were not called have lost nothing
pub loses_none : (late : List ℕ) (before after : Lanes) → after ≡ before → LosesNothing late before after
loses_none late before after e = record {
  synced = before;
  on_synced = record { first = goes_on_same before.first before.first refl; second = goes_on_same before.second before.second refl };
  on = record { first = goes_on_same before.first after.first (ap (λ (x : Lanes). x.first) e); second = goes_on_same before.second after.second (ap (λ (x : Lanes). x.second) e) };
  before_sync = left_still before before refl;
  any_moment = λ a b left. inl (left_still before after e a b left);
}

-- those of the brokers that have started have lost nothing, and no other lane was touched
pub record Untouched (t : TopologyView) (upto : ℕ) (before after : ℕ → Lane) : Type 0 where
  pub loses : (p : ℕ) → p < length t.publishers → host_of t p < upto → LosesNothing t.late (lanes_at before (log_lane p)) (lanes_at after (log_lane p))
  pub others : (n : ℕ) → ((p : ℕ) → p < length t.publishers → host_of t p < upto → AwayFrom (log_lane p) n) → after n ≡ before n

pub untouched_none : (t : TopologyView) (before : ℕ → Lane) → Untouched t 0 before before
untouched_none t before = record { loses = λ p j h. absurd (omega (arith, h)); others = λ n h. refl }

-- after one broker more, which started or not
pub untouched_next : (t : TopologyView) (b : ℕ) (before mid after : ℕ → Lane) → Untouched t b before mid
    → ((k : ℕ) → ((p : ℕ) → p < length t.publishers → is_host (net_of t) p b ≡ true → AwayFrom (log_lane p) k) → after k ≡ mid k)
    → ((p : ℕ) → p < length t.publishers → is_host (net_of t) p b ≡ true → LosesNothing t.late (lanes_at mid (log_lane p)) (lanes_at after (log_lane p))) → Untouched t (b + 1) before after
untouched_next t b before mid after u others any = record {
  loses = λ p j below. go p j below (cases_lt (host_of t p) b);
  others = λ k h. others k (λ p j here. h p j (let e = host_is t p b here in omega (arith, e))) ∙ u.others k (λ p j below. h p j (omega (arith, below)));
}
  where
    here : (p : ℕ) → p < length t.publishers → host_of t p ≡ b → LosesNothing t.late (lanes_at before (log_lane p)) (lanes_at after (log_lane p))
    here p j at =
        subst (λ (ls : Lanes). LosesNothing t.late ls (lanes_at after (log_lane p)))
        (lanes_same before mid (log_lane p)
        (u.others (log_lane p) (λ q i below. (lanes_apart t p q b (host_of t q) at refl (λ e. omega (arith, e, below))).0))
        (u.others (suc (log_lane p)) (λ q i below. (lanes_apart t p q b (host_of t q) at refl (λ e. omega (arith, e, below))).1)))
        (any p j (is_host_at t p b at))

    go : (p : ℕ) → p < length t.publishers → host_of t p < b + 1 → (host_of t p < b) ⊎ (b ≤ host_of t p) → LosesNothing t.late (lanes_at before (log_lane p)) (lanes_at after (log_lane p))
    go p j below (inl k) =
        subst (λ (ls : Lanes). LosesNothing t.late (lanes_at before (log_lane p)) ls)
        (sym (lanes_same mid after (log_lane p)
        (others (log_lane p) (λ q i at. (lanes_apart t p q (host_of t p) b refl (host_is t q b at) (λ e. omega (arith, k, e))).0))
        (others (suc (log_lane p)) (λ q i at. (lanes_apart t p q (host_of t p) b refl (host_is t q b at) (λ e. omega (arith, k, e))).1))))
        (u.loses p j k)
    go p j below (inr k) = here p j (omega (arith, below, k))

-- all have lost nothing then
pub untouched_all : (t : TopologyView) (upto : ℕ) (before after : ℕ → Lane) → Untouched t upto before after → (p : ℕ) → p < length t.publishers → LosesNothing t.late (lanes_at before (log_lane p)) (lanes_at after (log_lane p))
untouched_all t upto before after u p j = elim (cases_lt (host_of t p) upto) [
  | inl k ↦ u.loses p j k
  | inr k ↦ loses_none t.late (lanes_at before (log_lane p)) (lanes_at after (log_lane p)) (lanes_same before after (log_lane p)
      (u.others (log_lane p) (λ q i below. (lanes_apart t p q (host_of t p) (host_of t q) refl refl (λ e. omega (arith, k, e, below))).0))
      (u.others (suc (log_lane p)) (λ q i below. (lanes_apart t p q (host_of t p) (host_of t q) refl refl (λ e. omega (arith, k, e, below))).1)))
]

pub untouched_others : (t : TopologyView) (upto : ℕ) (before after : ℕ → Lane) → Untouched t upto before after → LeavesOthers t before after
untouched_others t upto before after u n h = u.others n (λ p j below. h p j)
