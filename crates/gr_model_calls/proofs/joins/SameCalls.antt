-- Each call does the same by what its view shows as on the net of the last joins
use Rattle.std.proofs.Common.{◌≡◌, ◌⊎◌, inl, inr, ⊎_elim, ℕ, suc, ◌-◌, ◌<◌, max, true, false, [], ◌∷◌, ◌++◌, refl, sym, ap, ◌∙◌, subst, None, arith, le_refl, le_trans}
use Rattle.std.specs.Prelude.{nat_le, nat_lt}
use Rattle.std.proofs.lemmas.Bool.{eq-eqb}
use Rattle.std.proofs.lemmas.List.{get_or-set_same}
use Rattle.gr_event.specs.declared.event.Event.{Event}
use Rattle.gr_event.specs.Joins.{Joins, longer, has_joined}
use Rattle.gr_frame.specs.declared.Body.{Body}
use Rattle.gr_frame.specs.declared.Body.TheVariants as body
use Rattle.gr_frame.specs.declared.Frame.{Frame}
use Rattle.gr_know.specs.declared.values.K.TheVariants.{Q, D}
use Rattle.gr_tick.specs.Runs.{AreRuns}
use Rattle.gr_know.specs.Values.{Known}
use Rattle.gr_model.specs.Net.{Net, with_wants, wants_with}
use Rattle.gr_model.specs.Broker.{View, Log, Outcome, seen, taking, view_joined, with_event, with_join, with_joins, drops, learn, curiosity, expect, publish, joining, receive, place_of, empty_log, silence, max_tick}
use Rattle.gr_model.specs.World.{World, view_of, log_of, absorbed, wake_for_by, deliver_frame_by, publish_now_by, join_now_by}
use Rattle.gr_model.specs.Tree.{IsNet}
use Rattle.gr_model_calls.specs.Truth.{Facts, Holds, HasEvent, Grows, KnowsTruth}
use Rattle.gr_model_calls.specs.Fits.{facts, facts_of, reached_in, WorldFits, FrameTrue, BodyTrue, ViewTrue}
use Rattle.gr_model_calls.proofs.calls.Held.{seen_wants, fewer, both, holds_later, NoneBelow-lower}
use Rattle.gr_model_calls.proofs.calls.CallTruth.{events_settled}
use Rattle.gr_model_calls.proofs.calls.Calls.{silence_true, nothing_true, published_piece}
use Rattle.gr_model_calls.proofs.calls.Erased.{Wants, Agree, wake_agree, publish_agree, publish_logs, joining_agree, joining_logs, knowledge_agree, curiosity_agree, expect_agree}
use Rattle.gr_model_calls.proofs.runs.Seeing.{Runs, SameCalls}
use Rattle.gr_model_calls.proofs.joins.Growing.{AheadOf, growing}

silence_runs : (net : Net) (n last : ℕ) → AreRuns Q (silence (suc n) last [])
silence_runs net n last =
    let f : Facts = record { settled = last; said = λ t. None; reached = λ s. 0; joined = [] } in
    (silence_true net f 0 0 (suc n) last [] (omega arith) (le_refl last) (λ t x y. refl) (nothing_true net f 0 0) tt tt).runs

module _ (net : Net) (last : ℕ → Joins) where
  abbrev pub last_wants : Wants
  last_wants p s t e = wants_with net (last p) p s t e

  abbrev pub one : Net
  one = with_wants net last_wants

  pub agree_by : (p : ℕ) (js : Joins) (know : Known) → Holds (last p) js (HasEvent know) → Agree p (wants_with net js) last_wants know
  agree_by p js know h t e x s = seen_wants net (last p) js p s t e know h x

  -- what a view holds shows what all joins do
  pub view_holds : (w : World) (b p : ℕ) → WorldFits one w → AheadOf net last w → b < net.brokers → p < net.publishers → Holds (last p) (view_of w b p).joins (HasEvent (view_of w b p).know)
  view_holds w b p f a i j =
      let h = f.views p b j i in
      holds_later (log_of w p).joins (last p) (view_of w b p).joins (log_of w p).settled (HasEvent (view_of w b p).know) (a p j) (events_settled one (facts_of one w p) p b (view_of w b p).know h.know) h.held

  here_log : (w : World) (b p : ℕ) (o : Outcome) → WorldFits one w → p < net.publishers → log_of (absorbed w b p o).world p ≡ o.log
  unfolding absorbed
  here_log w b p o f j = get_or-set_same w.logs p o.log empty_log (omega (arith, f.logs_long))

  wake_same : (w : World) (b p : ℕ) → WorldFits one w → b < net.brokers → p < net.publishers → Runs (AheadOf net last) (wake_for_by (seen net) net w b p) (wake_for_by (λ v. one) one w b p)
  unfolding wake_for_by
  wake_same w b p f i j = record {
    on = λ x.
        let a : AheadOf net last w = ⊎_elim ((growing net (seen net) last).woken b p w) ((growing one (λ v. one) last).woken b p w) x in
        let v = view_of w b p in
        ap (absorbed w b p) (wake_agree net (wants_with net v.joins) last_wants p b w.clock v (log_of w p) (f.views p b j i).know.runs (silence_runs net (log_of w p).settled w.clock) (agree_by p v.joins v.know (view_holds w b p f a i j)));
  }

  receive_same : (now : ℕ) (x : Frame) (v : View) (log : Log) (g : Facts) → ViewTrue one g x.head.publisher x.head.to v → BodyTrue one g x.head.publisher x.head.from x.head.to x.body → Grows g.joined (last x.head.publisher) g.settled → receive (seen net (taking v x)) now x v log ≡ receive one now x v log
  unfolding receive
  receive_same now x v log g h told grows = go x.body told
    where
      p : ℕ
      p = x.head.publisher

      b : ℕ
      b = x.head.to

      at : Net → Body → Outcome
      at m y = elim y [
        | body.Knowledge runs js ↦ elim (drops v runs js) [ true ↦ record { view = v; log = log; lines = []; frames = [] } | false ↦ learn m p b runs (with_joins v (longer v.joins js)) log ]
        | body.Curiosity runs ↦ curiosity m p b now x.head.from (place_of x.head.from (m.children p b)) runs v log
        | body.Expect tick ↦ expect m p b now tick v log
      ]

      took : Body → View
      took y = elim y [ body.Knowledge runs js ↦ with_joins v (longer v.joins js) | _ ↦ v ]

      own_holds : Holds (last p) v.joins (HasEvent v.know)
      own_holds = holds_later g.joined (last p) v.joins g.settled (HasEvent v.know) grows (events_settled one g p b v.know h.know) h.held

      go : (y : Body) → BodyTrue one g p x.head.from b y → at (seen net (took y)) y ≡ at one y
      go (body.Knowledge runs js) t =
          let held = both (last p) v.joins js (HasEvent v.know) (HasEvent runs) own_holds (holds_later g.joined (last p) js g.settled (HasEvent runs) grows (events_settled one g p b runs t.0) t.1) in
          knowledge_agree net (wants_with net (longer v.joins js)) last_wants p b runs js v log h.know.runs t.0.runs
          (agree_by p (longer v.joins js) v.know (fewer (last p) (longer v.joins js) (λ u. HasEvent v.know u ⊎ HasEvent runs u) (HasEvent v.know) (λ u z. inl z) held))
          (agree_by p (longer v.joins js) runs (fewer (last p) (longer v.joins js) (λ u. HasEvent v.know u ⊎ HasEvent runs u) (HasEvent runs) (λ u z. inr z) held)) (drops v runs js)
      go (body.Curiosity runs) t = curiosity_agree net (wants_with net v.joins) last_wants p b now x.head.from (place_of x.head.from (net.children p b)) runs v log (agree_by p v.joins v.know own_holds)
      go (body.Expect tick) t = expect_agree net (wants_with net v.joins) last_wants p b now tick v log

  deliver_same : (w : World) (x : Frame) → WorldFits one w → FrameTrue one w x → Runs (AheadOf net last) (deliver_frame_by (seen net) net w x) (deliver_frame_by (λ v. one) one w x)
  unfolding deliver_frame_by
  deliver_same w x f t = record {
    on = λ z.
        let a : AheadOf net last w = ⊎_elim ((growing net (seen net) last).delivered x w) ((growing one (λ v. one) last).delivered x w) z in
        ap (absorbed w x.head.to x.head.publisher) (receive_same w.clock x (view_of w x.head.to x.head.publisher) (log_of w x.head.publisher) (facts_of one w x.head.publisher) (f.views x.head.publisher x.head.to t.publisher_in t.fits.to_in) t.told (a x.head.publisher t.publisher_in));
  }

  publish_same : (w : World) (p number : ℕ) (e : Event) → IsNet one → WorldFits one w → p < net.publishers → Runs (AheadOf net last) (publish_now_by (seen net) net w p number e) (publish_now_by (λ v. one) one w p number e)
  unfolding publish_now_by
  publish_same w p number e n f j = record {
    on = λ x.
        let a : AheadOf net last w = ⊎_elim ((growing net (seen net) last).published p number e w) ((growing one (λ v. one) last).published p number e w) x in
        ap (absorbed w b p) (publish_agree net (wants_with net v.joins) last_wants p b w.clock number e v log (f.views p b j i).know.runs (agree_by p v.joins v.know (view_holds w b p f a i j)) piece_true.runs
        (λ l m k. agree_by p v.joins piece (holds (⊎_elim (λ y. after (seen net v) l m k (y p j)) (λ y. after one l m k (y p j)) x))));
  }
    where
      b : ℕ
      b = net.host p

      i : b < net.brokers
      i = n.host_in p j

      v : View
      v = view_of w b p

      log : Log
      log = log_of w p

      tick : ℕ
      tick = max (suc log.settled) w.clock

      piece : Known
      piece = silence (suc log.settled) (tick - 1) (record { first = tick; last = tick; value = D e } ∷ [])

      piece_true : KnowsTruth one (facts (with_event log tick e) (reached_in one w p)) p b piece
      piece_true = published_piece one p b tick e log (reached_in one w p) (eq-eqb b b refl) (f.logs p j) (omega arith)

      after : (m : Net) → nat_le number log.last ≡ false → nat_lt (suc log.last) number ≡ false → nat_lt max_tick tick ≡ false →
          (let u : World = (absorbed w b p (publish m p b w.clock number e v log)).world in Grows (log_of u p).joins (last p) (log_of u p).settled) → Grows log.joins (last p) tick
      after m l k q g = subst (λ z. Grows z.joins (last p) z.settled) (here_log w b p (publish m p b w.clock number e v log) f j ∙ publish_logs m p b w.clock number e v log l k q) g

      holds : Grows log.joins (last p) tick → Holds (last p) v.joins (HasEvent piece)
      holds g = record { rest = g.0; front = g.1 ∙ ap (λ (z : Joins). z ++ g.0) (sym (f.hosts p j)); above = λ t y. NoneBelow-lower t tick g.0 (events_settled one (facts (with_event log tick e) (reached_in one w p)) p b piece piece_true t y) g.2 }

  join_same : (w : World) (s p : ℕ) → IsNet one → WorldFits one w → p < net.publishers → Runs (AheadOf net last) (join_now_by (seen net) net w s p) (join_now_by (λ v. one) one w s p)
  unfolding join_now_by
  join_same w s p n f j = record {
    on = λ x.
        ap (absorbed w b p) (joining_agree net (wants_with net (with_join log tick s).joins) last_wants p b w.clock s v log (f.views p b j i).know.runs (silence_runs net log.settled tick)
        (λ l m. agree_by p (with_join log tick s).joins v.know (holds (⊎_elim (λ y. after (seen net (view_joined log s w.clock v)) l m (y p j)) (λ y. after one l m (y p j)) x))));
  }
    where
      b : ℕ
      b = net.host p

      i : b < net.brokers
      i = n.host_in p j

      v : View
      v = view_of w b p

      log : Log
      log = log_of w p

      tick : ℕ
      tick = max (suc log.settled) w.clock

      after : (m : Net) → has_joined log.joins s ≡ false → nat_lt max_tick tick ≡ false →
          (let u : World = (absorbed w b p (joining m p b w.clock s v log)).world in Grows (log_of u p).joins (last p) (log_of u p).settled) → Grows (with_join log tick s).joins (last p) tick
      after m l k g = subst (λ z. Grows z.joins (last p) z.settled) (here_log w b p (joining m p b w.clock s v log) f j ∙ joining_logs m p b w.clock s v log l k) g

      holds : Grows (with_join log tick s).joins (last p) tick → Holds (last p) (with_join log tick s).joins (HasEvent v.know)
      holds g = record { rest = g.0; front = g.1; above = λ t y. NoneBelow-lower t tick g.0 (le_trans (events_settled one (facts_of one w p) p b v.know (f.views p b j i).know t y) (omega arith)) g.2 }

  pub same_calls : IsNet one → SameCalls net last_wants (seen net) (AheadOf net last)
  same_calls n = record {
    woken = λ w b p f i j. wake_same w b p f i j;
    delivered = λ w x f t. deliver_same w x f t;
    published = λ w p number e f j. publish_same w p number e n f j;
    joined = λ w s p f j. join_same w s p n f j;
  }
