-- One broker of a node is exchanged, by a call that touches one publisher's lanes, and only where that publisher is at the broker:
-- what holds of the node holds of it then, since each other broker stands as it did
use Rattle.std.proofs.Common.{◌≡◌, ◌≢◌, ◌⊎◌, inl, inr, ℕ, suc, ◌+◌, ◌<◌, ◌≤◌, Bool, true, false, if◌then◌else◌, List, [], ◌∷◌, ◌++◌, length, get_or, set, Option, Some, None, refl, sym, ap, ap₂, ◌∙◌, subst, arith}
use Rattle.std.specs.Prelude.{is_some, IsSome, nat_eq}
use Rattle.std.specs.List.{AllByRecursion}
use Rattle.std.proofs.lemmas.Bool.{cases_eq, cases_lt, eq-eqb, ne_eqb, eqb-true, or_left, true≢false}
use Rattle.std.proofs.lemmas.List.{get_or-set_same, get_or-set_other, get_or_past, length-set, set-set}
use Rattle.gr_frame.specs.declared.Frame.{Frame}
use Rattle.gr_frame.specs.Cut.{AreFrames}
use Rattle.gr_out.specs.Lane.{Lane}
use Rattle.gr_out.specs.Journal.{is_among}
use Rattle.gr_publog.specs.declared.record.Record.{Record}
use Rattle.gr_publog.specs.declared.record.Record.TheVariants.{Cut}
use Rattle.gr_publog.specs.State.{IsState}
use Rattle.gr_publog.specs.Views.{LogView, Lanes, appended, reclaimed, lanes_at, AwayFrom, IsReady}
use Rattle.gr_pubend.specs.Log.{reclaims}
use Rattle.gr_topo.specs.Topology.{TopologyView, host_of}
use Rattle.gr_model.specs.declared.report.Report.{Report}
use Rattle.gr_model.specs.NetOf.{net_of}
use Rattle.gr_model.specs.Broker.{View}
use Rattle.gr_model.specs.World.{sent_lines}
use Rattle.gr_model.specs.Orders.{fed}
use Rattle.gr_model_calls.specs.Edges.{GoesOverEdge}
use Rattle.gr_broker_relay.specs.declared.outcome.Outcome.{Outcome}
use Rattle.gr_broker.specs.Lanes.{log_lane}
use Rattle.gr_broker.specs.Seen.{BrokerView, log_in, with_view, with_log, with_logged, with_cut_if, is_broken, IsHosted}
use Rattle.gr_broker.specs.Of.{IsBrokerOf, LogsStand}
use Rattle.gr_report.specs.Named.{AllNamed}
use Rattle.gr_node.specs.Seen.{NodeView, broker_in}
use Rattle.gr_node.specs.Of.{NodeFits, AllStand, OthersStay}
use Rattle.gr_node.specs.Plan.{Call, offers_of}
use Rattle.gr_node.specs.Done.{Done, taken_up, call_done}
use Rattle.gr_node.specs.Went.{Makes}
use Rattle.gr_node.proofs.Pairs.{lanes_same, away}

none_some : {X : Type 0} {x : X} → None ≡ Some x → ⊥
none_some e = cc

some_is : {X : Type 0} {x y : X} → Some x ≡ Some y → x ≡ y
some_is {X} {x} e = ap (λ (o : Option X). elim o [ Some z ↦ z | None ↦ x ]) e

-- a place where something stands is one of the list
pub some_within : {X : Type 0} (xs : List (Option X)) (b : ℕ) → IsSome (get_or xs b None) → b < length xs
some_within xs b s = go (cases_lt b (length xs))
  where
    go : (b < length xs) ⊎ (length xs ≤ b) → b < length xs
    go (inl lt) = lt
    go (inr past) = absurd (true≢false (sym s ∙ ap is_some (get_or_past xs b None past)))

-- The logs of a broker

module _ (t : TopologyView) (x : BrokerView) (fits : IsBrokerOf t x) where
  -- a log is that of a publisher
  pub log_within : (p : ℕ) (l : LogView) → log_in x p ≡ Some l → p < length t.publishers
  log_within p l e = subst (λ k. p < k) fits.logs (some_within x.logs p (ap is_some e))

  -- and is there where the publisher is
  pub log_at_host : (b p : ℕ) (l : LogView) → x.number ≡ b → p < length t.publishers → log_in x p ≡ Some l → host_of t p ≡ b
  log_at_host b p l number below e = eqb-true (host_of t p) x.number (sym (fits.hosted p below) ∙ ap is_some e) ∙ number

-- what each log holds is a state, if that is so of one more
pub states_more : (x : BrokerView) (p : ℕ) → ((q : ℕ) (l : LogView) → q < p → log_in x q ≡ Some l → IsState l.state) → ((l : LogView) → log_in x p ≡ Some l → IsState l.state)
    → (q : ℕ) (l : LogView) → q < p + 1 → log_in x q ≡ Some l → IsState l.state
states_more x p before here q l lt e = go (cases_eq q p)
  where
    go : (q ≡ p) ⊎ (q ≢ p) → IsState l.state
    go (inl same) = here l (ap (log_in x) (sym same) ∙ e)
    go (inr ne) = before q l (omega (arith, lt, ne)) e

pub same_state : (x : BrokerView) (p : ℕ) (l m : LogView) → log_in x p ≡ Some l → log_in x p ≡ Some m → IsState l.state → IsState m.state
same_state x p l m e f s = let same : l ≡ m = cc in subst (λ (k : LogView). IsState k.state) same s

-- the node with other brokers
abbrev pub with_brokers : NodeView → List (Option BrokerView) → NodeView
with_brokers n bs = record { brokers = bs; offers = n.offers; now = n.now; orders = n.orders }

-- No log of a broker is broken

abbrev pub IsWhole : BrokerView → Type 0
IsWhole x = (p : ℕ) → is_broken (log_in x p) ≡ false

-- a log is as whole with a further record
pub whole_logged : (l : Option LogView) (r : Option Record) → is_broken (with_logged l r) ≡ is_broken l
whole_logged None r = refl
whole_logged (Some l) None = refl
whole_logged (Some l) (Some r) = refl

-- a broker is as whole with a log that is
pub whole_with : (x : BrokerView) (p : ℕ) (l : Option LogView) (v : View) → p < length x.logs → is_broken l ≡ false → IsWhole x → IsWhole (with_view (with_log x p l) p v)
whole_with x p l v lt h whole q = go (cases_eq q p)
  where
    go : (q ≡ p) ⊎ (q ≢ p) → is_broken (get_or (set x.logs p l) q None) ≡ false
    go (inl e) = ap is_broken (ap (λ k. get_or (set x.logs p l) k None) e ∙ get_or-set_same x.logs p l None lt) ∙ h
    go (inr d) = ap is_broken (get_or-set_other x.logs p q l None d) ∙ whole q

-- and once it is cut, or not
pub whole_cut : (l : Option LogView) (cut : Option ℕ) (reclaim : ℕ) → is_broken (with_cut_if l cut reclaim) ≡ is_broken l
whole_cut None cut reclaim = refl
whole_cut (Some l) None reclaim = refl
whole_cut (Some l) (Some tick) reclaim = go (reclaims reclaim l.size l.generation)
  where
    go : (b : Bool) → (if b then reclaimed tick l else appended (Cut tick) l).broken ≡ l.broken
    go true = refl
    go false = refl

-- A broker stood at its place, and another is put there
pub record Place (t : TopologyView) (n : NodeView) (b : ℕ) (x after : BrokerView) (bs : List (Option BrokerView)) : Type 0 where
  pub fits : NodeFits t n
  pub here : broker_in n b ≡ Some x
  pub put : bs ≡ set n.brokers b (Some after)

-- the host of a publisher has its log
pub hosts_here : (t : TopologyView) (n : NodeView) (b p : ℕ) (x : BrokerView) → NodeFits t n → broker_in n b ≡ Some x → p < length t.publishers → host_of t p ≡ b → IsHosted x p
hosts_here t n b p x fits here lt at =
    let is : IsBrokerOf t x = fits.fits b x here in
    (subst (λ k. p < k) (sym is.logs) lt, is.hosted p lt ∙ eq-eqb (host_of t p) x.number (at ∙ sym (fits.numbered b x here)))

-- it is taken out and put back
pub placed : (t : TopologyView) (n : NodeView) (b : ℕ) (x after : BrokerView) (left bs : List (Option BrokerView)) → NodeFits t n → get_or n.brokers b None ≡ Some x
    → left ≡ set n.brokers b None → bs ≡ set left b (Some after) → Place t n b x after bs
placed t n b x after left bs fits was out back = record {
  fits = fits;
  here = was;
  put = back ∙ (ap (λ l. set l b (Some after)) out ∙ set-set n.brokers b None (Some after));
}

-- the same by an equal number
pub placed_at : (t : TopologyView) (n : NodeView) (b c : ℕ) (x after : BrokerView) (bs : List (Option BrokerView)) → b ≡ c → Place t n b x after bs → Place t n c x after bs
placed_at t n b c x after bs e s = subst (λ k. Place t n k x after bs) e s

module _ (t : TopologyView) (n : NodeView) (b : ℕ) (x after : BrokerView) (bs : List (Option BrokerView)) (s : Place t n b x after bs) where
  within : b < length n.brokers
  within = some_within n.brokers b (ap is_some s.here)

  -- Before the call

  pub place_broker : IsBrokerOf t x
  place_broker = s.fits.fits b x s.here

  pub place_number : x.number ≡ b
  place_number = s.fits.numbered b x s.here

  pub place_whole : IsWhole x
  place_whole p = go (log_in x p) refl
    where
      go : (l : Option LogView) → log_in x p ≡ l → is_broken l ≡ false
      go None e = refl
      go (Some l) e = s.fits.whole b p x l s.here e

  -- a log of it is that of a publisher of the topology
  pub place_log : (p : ℕ) → p < length t.publishers → p < length x.logs
  place_log p lt = subst (λ k. p < k) (sym place_broker.logs) lt

  -- where the publisher is elsewhere it has no log
  pub no_log : (p : ℕ) → p < length t.publishers → host_of t p ≢ b → log_in x p ≡ None
  no_log p lt d = go (log_in x p) (place_broker.hosted p lt ∙ ne_eqb (host_of t p) x.number (λ e. d (e ∙ place_number)))
    where
      go : (o : Option LogView) → is_some o ≡ false → o ≡ None
      go None e = refl
      go (Some l) e = absurd (true≢false e)

  -- After it

  -- what holds of the broker that is put there, and of each other, holds of each
  at_each : (P : ℕ → BrokerView → Type 0) → P b after → ((c : ℕ) (y : BrokerView) → c ≢ b → broker_in n c ≡ Some y → P c y) → (c : ℕ) (y : BrokerView) → get_or bs c None ≡ Some y → P c y
  at_each P a others c y e = go (cases_eq c b)
    where
      there : (k : ℕ) → get_or (set n.brokers b (Some after)) k None ≡ get_or bs k None
      there k = ap (λ l. get_or l k None) (sym s.put)

      go : (c ≡ b) ⊎ (c ≢ b) → P c y
      go (inl same) =
          let is : after ≡ y = some_is (sym (get_or-set_same n.brokers b (Some after) None within) ∙ (there b ∙ (ap (λ k. get_or bs k None) (sym same) ∙ e))) in
          subst (λ k. P k y) (sym same) (subst (P b) is a)
      go (inr d) = others c y d (sym (get_or-set_other n.brokers b c (Some after) None d) ∙ (there c ∙ e))

  -- the node fits with a broker of the same number whose logs are whole
  pub fits_on : IsBrokerOf t after → after.number ≡ x.number → IsWhole after → NodeFits t (with_brokers n bs)
  fits_on is same whole = record {
    count = ap length s.put ∙ (length-set n.brokers b (Some after) ∙ s.fits.count);
    now = s.fits.now;
    fits = at_each (λ c y. IsBrokerOf t y) is (λ c y d e. s.fits.fits c y e);
    numbered = at_each (λ c y. y.number ≡ c) (same ∙ place_number) (λ c y d e. s.fits.numbered c y e);
    whole = λ c p y l e h. at_each (λ c y. (p : ℕ) (l : LogView) → log_in y p ≡ Some l → l.broken ≡ false)
        (λ p l h. ap is_broken (sym h) ∙ whole p) (λ c y d e p l h. s.fits.whole c p y l e h) c y e p l h;
  }

  -- all logs stand where the lanes stay of all that are at other brokers
  pub stands_over : (lanes lanes' : ℕ → Lane) → AllStand lanes n → LogsStand lanes' after
      → ((c q : ℕ) (y : BrokerView) (l : LogView) → c ≢ b → broker_in n c ≡ Some y → log_in y q ≡ Some l → lanes_at lanes' (log_lane q) ≡ lanes_at lanes (log_lane q)) → AllStand lanes' (with_brokers n bs)
  stands_over lanes lanes' all a stay =
      at_each (λ c y. LogsStand lanes' y) a (λ c y d e q l h. subst (λ (ls : Lanes). IsReady l ls) (sym (stay c q y l d e h)) (all c y e q l h))

  -- a log at a broker is that of a publisher whose host it is
  logged_here : (c q : ℕ) (y : BrokerView) (l : LogView) → broker_in n c ≡ Some y → log_in y q ≡ Some l → host_of t q ≡ c
  logged_here c q y l e h = go (cases_lt q (length y.logs))
    where
      is : IsBrokerOf t y
      is = s.fits.fits c y e

      go : (q < length y.logs) ⊎ (length y.logs ≤ q) → host_of t q ≡ c
      go (inl lt) =
          let below : q < length t.publishers = subst (λ k. q < k) is.logs lt in
          eqb-true (host_of t q) y.number (sym (is.hosted q below) ∙ ap is_some h) ∙ s.fits.numbered c y e
      go (inr past) = absurd (none_some (sym (get_or_past y.logs q None past) ∙ h))

  -- A call that touches no lane but that of one publisher, and this only where the publisher is at the broker
  module _ (p : ℕ) (lt : p < length t.publishers) (lanes lanes' : ℕ → Lane) (moves : (m : ℕ) → (host_of t p ≡ b → AwayFrom (log_lane p) m) → lanes' m ≡ lanes m) where
    pub stands_on : AllStand lanes n → LogsStand lanes' after → AllStand lanes' (with_brokers n bs)
    stands_on all a =
        stands_over lanes lanes' all a (λ c q y l d e h.
        let apart : host_of t p ≡ b → q ≢ p = λ at same. d (sym (logged_here c q y l e h) ∙ (ap (host_of t) same ∙ at)) in
        lanes_same lanes lanes' (log_lane q) (moves (log_lane q) (λ at. (away p q (apart at)).0)) (moves (suc (log_lane q)) (λ at. (away p q (apart at)).1)))

    pub others_on : OthersStay t (b ∷ []) lanes lanes'
    others_on m clear = moves m (λ at. clear p lt (among (sym at)))
      where
        among : b ≡ host_of t p → is_among (b ∷ []) (host_of t p) ≡ true
        among e = or_left (nat_eq b (host_of t p)) false (eq-eqb b (host_of t p) e)

  -- What is told

  -- a call that is taken up, before its lines are put and its frames offered
  pub makes_on : (c : Call) (lines : List Report) (frames : List Frame) (told : Outcome) → call_done t n c ≡ taken_up n b after lines frames → told.reports ≡ lines → AreFrames told.frames.frames frames
      → AllByRecursion (GoesOverEdge (net_of t)) frames → AllNamed t lines → Makes t n c (with_brokers n bs) told
  makes_on c lines frames told done same spelled over named = record {
    frames = frames;
    spelled = spelled;
    over = over;
    named = subst (AllNamed t) (sym same) named;
    offers = refl;
    now = refl;
    orders = refl;
    done = done ∙ ap₂ made (sym s.put) (sym same);
  }
    where
      made : List (Option BrokerView) → List Report → Done
      made l ls = record {
        node = record { brokers = l; offers = n.offers + length frames; now = n.now; orders = fed n.orders ls };
        lines = ls ++ sent_lines (suc n.offers) frames;
        entries = offers_of frames;
      }
