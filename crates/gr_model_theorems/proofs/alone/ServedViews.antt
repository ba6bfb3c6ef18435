-- Whatever comes to a server, each view is one that its broker may have
use Rattle.std.proofs.Common.{◌≡◌, ◌≢◌, inl, inr, ℕ, ◌+◌, ◌<◌, ◌≤◌, Bool, true, false, ◌&&◌, List, [], ◌∷◌, length, get_or, refl, sym, ap, ◌∙◌, subst, Option, Some, None, arith}
use Rattle.std.specs.Prelude.{nat_eq, nat_lt, map, set, Result, Ok, Err}
use Rattle.std.specs.List.{list_any, AllByRecursion}
use Rattle.std.proofs.lemmas.Bool.{cases_Bool, cases_eq, and_parts, eqb-true}
use Rattle.std.proofs.lemmas.List.{length-set, get_or-set_other}
use Rattle.gr_event.specs.declared.event.Event.{Event}
use Rattle.gr_event.specs.declared.join.Split.{Split}
use Rattle.gr_event.specs.Joins.{first_split}
use Rattle.gr_frame.specs.declared.Body.{Body}
use Rattle.gr_frame.specs.declared.Body.TheVariants as body
use Rattle.gr_frame.specs.declared.Frame.{Frame}
use Rattle.gr_frame.specs.declared.fault.FrameFault.{FrameFault}
use Rattle.gr_frame.specs.Decode.{frame_decoded}
use Rattle.gr_frame.specs.Limits.{IsBody}
use Rattle.gr_frame.proofs.Told.{decoded_spells}
use Rattle.gr_note.specs.declared.note.Note.{Note}
use Rattle.gr_note.specs.declared.fault.NoteFault.{NoteFault}
use Rattle.gr_note.specs.Bytes.{begins_note}
use Rattle.gr_note.specs.Decode.{note_decoded}
use Rattle.gr_sched.specs.declared.step.Line.{Line}
use Rattle.gr_model.specs.declared.report.Report.TheVariants as line
use Rattle.gr_model.specs.Net.{Net, numbers, not_empty}
use Rattle.gr_model.specs.Tree.{IsNet}
use Rattle.gr_model.specs.Broker.{View, Log, Outcome, seen, taking, view_joined, started, learn, receive, wake, publish, joining}
use Rattle.gr_model.specs.World.{World, Transition, view_of, log_of, absorbed, unchanged, in_turn, with_view, wake_for_by, wake_all_by, deliver_frame_by, publish_now_by, join_now_by}
use Rattle.gr_model.specs.Opening.{over_logs, reopened_log, opened_for_by, opening, opening_by, publishers_at}
use Rattle.gr_model.specs.Arrivals.{asks_publish, asks_join, Arrival, datagram, quiet, Publish, Request, requests_of, left_after, at_moment, joins_in, fits_broker, least_clash, clash_line, split_line, publisher_of, submitted_in, takes_by, receives_by, notes_by, reads_by, answered_first_by, quieted_by, comes_by, arrived, arrived_by}
use Rattle.gr_model_calls.specs.Rules.{IsView, MayCome, is_dropped}
use Rattle.gr_model_calls.proofs.runs.Worlds.{view_same, view_other_broker, view_other, row_length}
use Rattle.gr_model_calls.proofs.runs.Schedules.{get_numbers, length_numbers}
use Rattle.gr_model_theorems.specs.Served.{IsOfBytes}
use Rattle.gr_model_theorems.specs.Alone.{ObeysAlone}
use Rattle.gr_model_theorems.proofs.server.Opening.{over_view}
use Rattle.gr_model_theorems.proofs.alone.Alone.{obeys_alone, started_view}

-- each broker has one view for each publisher, and each is one that it may have
record AllAreViews (net : Net) (w : World) : Type 0 where
  views_long : length w.views ≡ net.brokers
  rows_long : (b : ℕ) → b < net.brokers → length (get_or w.views b []) ≡ net.publishers
  views : (p b : ℕ) → p < net.publishers → b < net.brokers → IsView net p b (view_of w b p)

-- a frame that is read of bytes, and fits the broker, may come
pub read_may_come : (net : Net) (b : ℕ) (bytes : List ℕ) (f : Frame) → ((i : ℕ) → get_or bytes i 0 < 256) → frame_decoded bytes ≡ Ok f → fits_broker net b f ≡ true → MayCome net f.head.publisher f.head.from b f.body
read_may_come net b bytes f are e fits = may f.body (decoded_spells bytes f are e).whole.body (and_parts (nat_eq f.head.to b && nat_lt f.head.publisher net.publishers) (between f.body) (and_parts _ _ fits).0).1
  where
    between : Body → Bool
    between y = elim y [
      | body.Curiosity runs ↦ list_any (λ x. nat_eq x f.head.from) (net.children f.head.publisher b)
      | _ ↦ elim (net.up f.head.publisher b) [ Some u ↦ nat_eq u f.head.from | None ↦ false ]
    ]

    may : (y : Body) → IsBody y → between y ≡ true → MayCome net f.head.publisher f.head.from b y
    may (body.Knowledge runs js) i h = i.0.runs
    may (body.Curiosity runs) i h = (i.runs, h)
    may (body.Expect tick) i h = tt

-- and it is addressed to the broker
read_to : (net : Net) (b : ℕ) (f : Frame) → fits_broker net b f ≡ true → f.head.to ≡ b
read_to net b f fits = eqb-true f.head.to b (and_parts (nat_eq f.head.to b) (nat_lt f.head.publisher net.publishers) (and_parts _ _ (and_parts _ _ fits).0).0).0

module _ (net : Net) (n : IsNet net) (quiet_on : 1 ≤ net.quiet) where
  -- all calls of a broker whose view is one that it may have
  alone : (w : World) (p b : ℕ) → AllAreViews net w → p < net.publishers → b < net.brokers → ObeysAlone net p b w.clock (view_of w b p) (log_of w p)
  alone w p b a i j = obeys_alone net p b w.clock (view_of w b p) (log_of w p) n quiet_on i j (a.views p b i j)

  -- an outcome is put in place
  absorbed_views : (w : World) (b p : ℕ) (o : Outcome) → AllAreViews net w → (p < net.publishers → b < net.brokers → IsView net p b o.view) → AllAreViews net (absorbed w b p o).world
  unfolding absorbed
  absorbed_views w b p o a h = record {
    views_long = length-set w.views b (set (get_or w.views b []) p o.view) ∙ a.views_long;
    rows_long = λ c k. elim (cases_eq c b) [
      | inl e ↦ row_length w.views b p c o.view (omega (arith, a.views_long, e, k)) ∙ a.rows_long c k
      | inr e ↦ other_row c e ∙ a.rows_long c k
    ];
    views = λ q c x y. elim (cases_eq c b) [
      | inl e ↦ elim (cases_eq q p) [
        | inl g ↦ here q c x y g e
        | inr g ↦ subst (λ z. IsView net q z (view_of (absorbed w b p o).world z q)) (sym e) (subst (λ v. IsView net q b v) (sym (view_other w.views b p q o.view (omega (arith, a.views_long, e, y)) g)) (a.views q b x (subst (λ z. z < net.brokers) e y)))
      ]
      | inr e ↦ subst (λ v. IsView net q c v) (sym (view_other_broker w.views b p c q o.view e)) (a.views q c x y)
    ];
  }
    where
      other_row : (c : ℕ) → c ≢ b → length (get_or (with_view w.views b p o.view) c []) ≡ length (get_or w.views c [])
      other_row c e = ap length (get_or-set_other w.views b c (set (get_or w.views b []) p o.view) [] e)

      here : (q c : ℕ) → q < net.publishers → c < net.brokers → q ≡ p → c ≡ b → IsView net q c (view_of (absorbed w b p o).world c q)
      here q c x y g e =
          let i : p < net.publishers = subst (λ z. z < net.publishers) g x in
          let j : b < net.brokers = subst (λ z. z < net.brokers) e y in
          subst (λ z. IsView net z c (view_of (absorbed w b p o).world c z)) (sym g) (subst (λ z. IsView net p z (view_of (absorbed w b p o).world z p)) (sym e)
          (subst (λ v. IsView net p b v) (sym (view_same w w.views b p o.view (omega (arith, a.views_long, j)) (omega (arith, a.rows_long b j, i)))) (h i j)))

  wake_views : (w : World) (b p : ℕ) → AllAreViews net w → AllAreViews net (wake_for_by (seen net) net w b p).world
  unfolding wake_for_by
  wake_views w b p a = absorbed_views w b p (wake (seen net (view_of w b p)) p b w.clock (view_of w b p) (log_of w p)) a (λ i j. (alone w p b a i j).wakes.view)

  publish_views : (w : World) (p number : ℕ) (e : Event) → AllAreViews net w → AllAreViews net (publish_now_by (seen net) net w p number e).world
  unfolding publish_now_by
  publish_views w p number e a =
      let v = view_of w (net.host p) p in
      absorbed_views w (net.host p) p (publish (seen net v) p (net.host p) w.clock number e v (log_of w p)) a (λ i j. ((alone w p (net.host p) a i j).publishes number e).view)

  join_views : (w : World) (s p : ℕ) → AllAreViews net w → AllAreViews net (join_now_by (seen net) net w s p).world
  unfolding join_now_by
  join_views w s p a =
      let v = view_of w (net.host p) p in
      absorbed_views w (net.host p) p (joining (seen net (view_joined (log_of w p) s w.clock v)) p (net.host p) w.clock s v (log_of w p)) a (λ i j. ((alone w p (net.host p) a i j).joins s).view)

  -- a frame that may come is received or dropped
  deliver_views : (w : World) (f : Frame) → AllAreViews net w → MayCome net f.head.publisher f.head.from f.head.to f.body → AllAreViews net (deliver_frame_by (seen net) net w f).world
  unfolding deliver_frame_by
  deliver_views w f a may = absorbed_views w f.head.to f.head.publisher o a (λ i j. elim (cases_Bool (is_dropped v f.body)) [
    | inl e ↦ subst (λ (u : Outcome). IsView net f.head.publisher f.head.to u.view) (sym ((alone w f.head.publisher f.head.to a i j).drops f.head.from f.body e)) (a.views f.head.publisher f.head.to i j)
    | inr e ↦ ((alone w f.head.publisher f.head.to a i j).comes f.head.from f.body may e).view
  ])
    where
      v : View
      v = view_of w f.head.to f.head.publisher

      o : Outcome
      o = receive (seen net (taking v f)) w.clock f v (log_of w f.head.publisher)

  takes_views : (w : World) (b : ℕ) (f : Frame) → AllAreViews net w → MayCome net f.head.publisher f.head.from f.head.to f.body → AllAreViews net (takes_by (seen net) net w b f).world
  unfolding takes_by
  takes_views w b f a may = split (first_split 0 (view_of w b f.head.publisher).joins (joins_in f))
    where
      clash : (t : Option ℕ) → AllAreViews net (let r : Transition = elim t [
        | Some t ↦ unchanged w (clash_line b (view_of w b f.head.publisher).know f t ∷ [])
        | None ↦ deliver_frame_by (seen net) net w f
      ] in r.world)
      clash (Some t) = a
      clash None = deliver_views w f a may

      split : (s : Option Split) → AllAreViews net (let r : Transition = elim s [
        | Some x ↦ unchanged w (split_line b x ∷ [])
        | None ↦ elim (least_clash (view_of w b f.head.publisher).know f) [
          | Some t ↦ unchanged w (clash_line b (view_of w b f.head.publisher).know f t ∷ [])
          | None ↦ deliver_frame_by (seen net) net w f
        ]
      ] in r.world)
      split (Some x) = a
      split None = clash (least_clash (view_of w b f.head.publisher).know f)

  receives_views : (w : World) (b : ℕ) (bytes : List ℕ) (r : Result Frame FrameFault) → ((i : ℕ) → get_or bytes i 0 < 256) → frame_decoded bytes ≡ r → AllAreViews net w → AllAreViews net (receives_by (seen net) net w b r).world
  unfolding receives_by
  receives_views w b bytes (Err fault) are e a = a
  receives_views w b bytes (Ok f) are e a = fitted (fits_broker net b f) refl
    where
      fitted : (q : Bool) → fits_broker net b f ≡ q → AllAreViews net (let r : Transition = elim q [
        | false ↦ unchanged w (line.DroppedStray b f.head.from f.head.to f.head.publisher ∷ [])
        | true ↦ takes_by (seen net) net w b f
      ] in r.world)
      fitted false h = a
      fitted true h = takes_views w b f a (subst (λ z. MayCome net f.head.publisher f.head.from z f.body) (sym (read_to net b f h)) (read_may_come net b bytes f are e h))

  notes_views : (w : World) (b : ℕ) (r : Result Note NoteFault) → AllAreViews net w → AllAreViews net (notes_by (seen net) net w b r).world
  unfolding notes_by
  notes_views w b (Err fault) a = a
  notes_views w b (Ok x) a = submitted (submitted_in net b x)
    where
      submitted : (s : Option Publish) → AllAreViews net (let r : Transition = elim s [
        | Some y ↦ publish_now_by (seen net) net w y.0 y.1.0 y.1.1
        | None ↦ unchanged w (line.DroppedStrayNote b (publisher_of x) ∷ [])
      ] in r.world)
      submitted (Some y) = publish_views w y.0 y.1.0 y.1.1 a
      submitted None = a

  reads_views : (w : World) (b : ℕ) (bytes : List ℕ) → ((i : ℕ) → get_or bytes i 0 < 256) → AllAreViews net w → AllAreViews net (reads_by (seen net) net w b bytes).world
  reads_views w b bytes are a = read (begins_note bytes)
    where
      read : (q : Bool) → AllAreViews net (let r : Transition = elim q [
        | true ↦ notes_by (seen net) net w b (note_decoded bytes)
        | false ↦ receives_by (seen net) net w b (frame_decoded bytes)
      ] in r.world)
      read true = notes_views w b (note_decoded bytes) a
      read false = receives_views w b bytes (frame_decoded bytes) are refl a

  turn_views : {X : Type 0} (f : World → X → Transition) → ((w : World) (x : X) → AllAreViews net w → AllAreViews net (f w x).world) → (xs : List X) (w : World) → AllAreViews net w → AllAreViews net (in_turn f xs w).world
  turn_views f h [] w a = a
  turn_views f h (x ∷ xs) w a = turn_views f h xs (f w x).world (h w x a)

  wake_all_views : (w : World) (b : ℕ) → AllAreViews net w → AllAreViews net (wake_all_by (seen net) net w b).world
  unfolding wake_all_by
  wake_all_views w b a = turn_views (λ u p. wake_for_by (seen net) net u b p) (λ u p. wake_views u b p) (numbers net.publishers) w a

  first_views : (w : World) (left : List Request) → AllAreViews net w → AllAreViews net (answered_first_by (seen net) net w left).world
  first_views w [] a = a
  first_views w (asks_publish p number e ∷ left) a = publish_views w p number e a
  first_views w (asks_join s p ∷ left) a = join_views w s p a

  moment_views : (w : World) (moment : ℕ) → AllAreViews net w → AllAreViews net (at_moment w moment)
  moment_views w moment a = record { views_long = a.views_long; rows_long = a.rows_long; views = a.views }

  comes_views : (hosted : List ℕ) (w : World) (left : List Request) (x : Arrival) → IsOfBytes x → AllAreViews net w → AllAreViews net (comes_by (seen net) net hosted w left x).world
  unfolding comes_by quieted_by
  comes_views hosted w left (datagram b bytes moment) are a = reads_views (at_moment w moment) b bytes are (moment_views w moment a)
  comes_views hosted w left (quiet moment) are a = turn_views (wake_all_by (seen net) net) wake_all_views hosted (answered_first_by (seen net) net (at_moment w moment) left).world (first_views (at_moment w moment) left (moment_views w moment a))

  arrived_views : (hosted : List ℕ) (arrivals : List Arrival) (w : World) (left : List Request) → AllByRecursion IsOfBytes arrivals → AllAreViews net w → AllAreViews net (arrived net hosted w left arrivals)
  unfolding arrived_by
  arrived_views hosted [] w left are a = a
  arrived_views hosted (x ∷ arrivals) w left are a = arrived_views hosted arrivals (comes_by (seen net) net hosted w left x).world (left_after left x) are.1 (comes_views hosted w left x are.0 a)

  opened_views : (w : World) (p : ℕ) → AllAreViews net w → AllAreViews net (opened_for_by (seen net) net w p).world
  unfolding opened_for_by
  opened_views w p a = opens (not_empty (net.subscribers_at (net.host p)))
    where
      v : View
      v = view_of w (net.host p) p

      opens : (q : Bool) → AllAreViews net (let r : Transition = elim q [
        | true ↦ absorbed w (net.host p) p (learn (seen net v) p (net.host p) [] v (log_of w p))
        | false ↦ unchanged w []
      ] in r.world)
      opens true = absorbed_views w (net.host p) p (learn (seen net v) p (net.host p) [] v (log_of w p)) a (λ i j. ((alone w p (net.host p) a i j).learns [] tt).view)
      opens false = a

  over_views : (logs : List Log) → AllAreViews net (over_logs net logs)
  unfolding over_logs
  over_views logs =
      let g : ℕ → ℕ → View = λ c p. started net p c (reopened_log logs p) in
      record {
        views_long = length_numbers (λ c. map (g c) (numbers net.publishers)) 0 net.brokers;
        rows_long = λ b i. ap length (get_numbers (λ c. map (g c) (numbers net.publishers)) 0 net.brokers b [] i) ∙ length_numbers (g (0 + b)) 0 net.publishers;
        views = λ p b i j. subst (λ v. IsView net p b v) (sym (over_view net logs b p j i)) (started_view net p b (reopened_log logs p));
      }

  -- so it is after all that came
  pub served_views : (hosted : List ℕ) (logs : List Log) (steps : List Line) (arrivals : List Arrival) (p b : ℕ) → AllByRecursion IsOfBytes arrivals → p < net.publishers → b < net.brokers →
      IsView net p b (view_of (arrived net hosted (opening net hosted logs).world (requests_of net hosted steps) arrivals) b p)
  unfolding opening_by
  served_views hosted logs steps arrivals p b are i j =
      let opened = turn_views (opened_for_by (seen net) net) opened_views (publishers_at net hosted) (over_logs net logs) (over_views logs) in
      (arrived_views hosted arrivals (opening net hosted logs).world (requests_of net hosted steps) are opened).views p b i j
