-- What holds of every line that names what a tree of brokers has holds of each line that a step tells: its own numbers
-- are in range, and so are those of the frames that it sends, since each frame goes along an edge of the tree
use Rattle.std.proofs.Common.{◌≡◌, ◌<◌, ◌-◌, arith, ℕ, suc, zero, max, Bool, true, false, ◌&&◌, List, [], ◌∷◌, ◌++◌, map, length, set, refl, Option, Some, None}
use Rattle.std.specs.Prelude.{nat_eq, nat_le, nat_lt, if◌then◌else◌, flat_map, filter, get_or}
use Rattle.std.specs.List.{list_any}
use Rattle.std.proofs.lemmas.Bool.{eq-eqb, or_left, or_right}
use Rattle.gr_event.specs.declared.event.Event.{Event}
use Rattle.gr_event.specs.Joins.{Joins, longer}
use Rattle.gr_frame.specs.declared.Body.{Body}
use Rattle.gr_frame.specs.declared.Body.TheVariants as body
use Rattle.gr_frame.specs.declared.Frame.{Frame}
use Rattle.gr_frame.specs.Bytes.{frame_bytes}
use Rattle.gr_know.specs.Values.{Known}
use Rattle.gr_sched.specs.declared.step.Stop.{Stop}
use Rattle.gr_sched.specs.declared.step.Step.{Step}
use Rattle.gr_sched.specs.declared.step.Step.TheVariants as step
use Rattle.gr_sched.specs.declared.step.Line.{Line}
use Rattle.gr_model.specs.declared.report.Report.{Report}
use Rattle.gr_model.specs.declared.report.Report.TheVariants as line
use Rattle.gr_model.specs.Net.{Net, is_host, keeps_horizon, numbers, not_empty, with_wants, wants_with}
use Rattle.gr_model.specs.NetOf.{IsOrderly}
use Rattle.gr_model.specs.Tree.{IsNet}
use Rattle.gr_model.specs.Broker.{View, Log, Outcome, empty_log, is_kept, delivery_lines, got_line, learn, publish, marking, cutting, cutting_lines, wake, wake_host, wake_below, asking, curiosity, expect, receive, drops, joining, place_of, seen, taking, view_joined, with_event, with_joins, max_tick}
use Rattle.gr_model.specs.World.{World, Transition, view_of, log_of, absorbed, unchanged, followed_by, in_turn, sent_line, sent_lines, wake_for, wake_all, deliver_frame, frame_at, publish_now, join_now, restarted, crash, publish_stopped, deliver_up, wake_up, hand_down, sweep_for, sweep, sweep_moment, next, show, opened_lines, kept_events, frames_past, sent_since, is_want, is_know_to, outwards, inwards, numbers_down, deliver_frame_by, deliver_up_by, hand_down_by, next_by, join_now_by, publish_now_by, publish_stopped_by, sweep_by, sweep_for_by, wake_all_by, wake_for_by, wake_up_by}
use Rattle.gr_model_calls.specs.Edges.{GoesBetween}
use Rattle.gr_model_calls.specs.Fits.{StepIn}
use Rattle.gr_model_calls.proofs.asks.AskMoments.{Each-on}
use Rattle.gr_model_calls.proofs.calls.HostCases.{publish_cases, marking_cases, joining_cases}
use Rattle.gr_model_calls.proofs.runs.Closed.{Each-past, Each-kept, frame_at_ready}
use Rattle.gr_model_calls.proofs.runs.Worlds.{Each, numbers_below, depths_in}
use Rattle.gr_model_calls.proofs.topology.Strays.{AllOver, wake_on, receive_on, publish_on, joining_on}
use Rattle.gr_report.proofs.Between.{IsBetween, AllBetween, all_between, seen_between}
use Rattle.gr_report.proofs.Passing.{body_fits_with}

-- a property of lines that holds of each that names publishers, subscribers and brokers of the tree
pub record Names (net : Net) (N : Report → Type 0) : Type 0 where
  pub opened : (p last settled cut : ℕ) → p < net.publishers → N (line.Opened p last settled cut)
  pub logged : (p number tick : ℕ) → p < net.publishers → N (line.Logged p number tick)
  pub already : (p number : ℕ) → p < net.publishers → N (line.Already p number)
  pub gap : (p number following : ℕ) → p < net.publishers → N (line.Gap p number following)
  pub exhausted : (p number : ℕ) → p < net.publishers → N (line.Exhausted p number)
  pub joined : (s p tick : ℕ) → s < net.subscribers → p < net.publishers → N (line.Joined s p tick)
  pub already_joined : (s p : ℕ) → s < net.subscribers → p < net.publishers → N (line.AlreadyJoined s p)
  pub exhausted_join : (s p : ℕ) → s < net.subscribers → p < net.publishers → N (line.ExhaustedJoin s p)
  pub kept : (p number tick : ℕ) → p < net.publishers → N (line.Kept p number tick)
  pub lost : (p number tick : ℕ) → p < net.publishers → N (line.Lost p number tick)
  pub mark : (p tick : ℕ) → p < net.publishers → N (line.Mark p tick)
  pub cut : (p tick : ℕ) → p < net.publishers → N (line.Cut p tick)
  pub reclaimed : (p generation : ℕ) → p < net.publishers → N (line.Reclaimed p generation)
  pub got : (s p tick : ℕ) (e : Event) → s < net.subscribers → p < net.publishers → N (line.Got s p tick e)
  pub horizon : (s p tick : ℕ) → s < net.subscribers → p < net.publishers → N (line.Horizon s p tick)
  pub sent : (n : ℕ) (f : Frame) → IsBetween net f → N (sent_line n f)
  pub crashed : (b : ℕ) → b < net.brokers → N (line.Crashed b)
  pub swept : (moment : ℕ) → N (line.Swept moment)
  pub refused_hosts : (k b : ℕ) → b < net.brokers → N (line.RefusedHosts k b)
  pub refused_frame : (k frame sent : ℕ) → N (line.RefusedFrame k frame sent)
  pub refused_clock : (k moment : ℕ) → N (line.RefusedClock k moment)
  pub frames : (count : ℕ) → N (line.Frames count)
  pub log : (p last settled cut kept : ℕ) → p < net.publishers → N (line.LogOf p last settled cut kept)
  pub doubt : (b p tick : ℕ) → b < net.brokers → p < net.publishers → N (line.Doubt b p tick)
  pub bytes : (frame : ℕ) (bytes : List ℕ) → N (line.BytesOf frame bytes)

-- whatever subscribers want, the tree has the same
pub names_with : (net : Net) (wants : ℕ → ℕ → ℕ → Event → Bool) (N : Report → Type 0) → Names net N → Names (with_wants net wants) N
names_with net wants N k = record {
  opened = k.opened;
  logged = k.logged;
  already = k.already;
  gap = k.gap;
  exhausted = k.exhausted;
  joined = k.joined;
  already_joined = k.already_joined;
  exhausted_join = k.exhausted_join;
  kept = k.kept;
  lost = k.lost;
  mark = k.mark;
  cut = k.cut;
  reclaimed = k.reclaimed;
  got = k.got;
  horizon = k.horizon;
  sent = λ n f g. k.sent n f (between_with f g);
  crashed = k.crashed;
  swept = k.swept;
  refused_hosts = k.refused_hosts;
  refused_frame = k.refused_frame;
  refused_clock = k.refused_clock;
  frames = k.frames;
  log = k.log;
  doubt = k.doubt;
  bytes = k.bytes;
}
  where
    between_body : (p from to : ℕ) (y : Body) → GoesBetween (with_wants net wants) p from to y → GoesBetween net p from to y
    between_body p from to (body.Knowledge runs js) h = h
    between_body p from to (body.Curiosity runs) h = h
    between_body p from to (body.Expect tick) h = h

    between_with : (f : Frame) → IsBetween (with_wants net wants) f → IsBetween net f
    between_with f g = record {
      publisher = g.publisher;
      from = g.from;
      to = g.to;
      between = between_body f.head.publisher f.head.from f.head.to f.body g.between;
    }

-- and its lists are as orderly
pub orderly_with : (net : Net) (wants : ℕ → ℕ → ℕ → Event → Bool) → IsOrderly net → IsOrderly (with_wants net wants)
orderly_with net wants o = record {
  host_up = o.host_up;
  host_depth = o.host_depth;
  children_distinct = o.children_distinct;
  children_rising = o.children_rising;
  subscribers_rising = o.subscribers_rising;
  subscribers_in = o.subscribers_in;
  below_distinct = o.below_distinct;
  below_rising = o.below_rising;
  below_in = o.below_in;
  gap = o.gap;
  idle = o.idle;
  retry = o.retry;
  quiet = o.quiet;
  cache = o.cache;
}

-- what a broker's call tells is named, and what it sends goes along edges
pub record Says (net : Net) (N : Report → Type 0) (o : Outcome) : Type 0 where
  pub lines : Each N o.lines
  pub frames : Each (IsBetween net) o.frames

-- what a part of a step tells is named, and all that was sent when it is through goes along edges
pub record Speaks (net : Net) (N : Report → Type 0) (t : Transition) : Type 0 where
  pub lines : Each N t.lines
  pub over : AllBetween net t.world

-- one part and then another
pub after : (net : Net) (N : Report → Type 0) (t : Transition) (f : World → Transition) → Speaks net N t → Speaks net N (f t.world) → Speaks net N (followed_by t f)
after net N t f a b = record { lines = Each-on N t.lines (f t.world).lines a.lines b.lines; over = b.over }

-- all turns, one after another
pub in_turn_speaks : {X : Type 0} (net : Net) (N : Report → Type 0) (ok : X → Type 0) (f : World → X → Transition) → ((w : World) (x : X) → AllBetween net w → ok x → Speaks net N (f w x)) → (xs : List X) (w : World) → AllBetween net w → Each ok xs → Speaks net N (in_turn f xs w)
in_turn_speaks net N ok f one [] w a e = record { lines = tt; over = a }
in_turn_speaks net N ok f one (x ∷ xs) w a e =
    let k = one w x a e.0 in after net N (f w x) (in_turn f xs) k (in_turn_speaks net N ok f one xs (f w x).world k.over e.1)

-- What a call tells

-- the lines of what a subscriber gets
pub got_named : (net : Net) (N : Report → Type 0) (s p : ℕ) (xs : List (ℕ × Event)) → Names net N → s < net.subscribers → p < net.publishers → Each N (map (got_line s p) xs)
got_named net N s p [] k i j = tt
got_named net N s p (x ∷ xs) k i j = (k.got s p x.0 x.1 i j, got_named net N s p xs k i j)

-- and of one delivery
pub delivery_named : (net : Net) (N : Report → Type 0) (p h h' s : ℕ) (items : List (ℕ × Event)) → Names net N → s < net.subscribers → p < net.publishers → Each N (delivery_lines net p h h' items s)
unfolding delivery_lines
delivery_named net N p h h' s items k i j = go (nat_eq h h')
  where
    go : (c : Bool) → Each N (if c then [] else map (got_line s p) (filter (λ x. net.wants p s x.0 x.1) items) ++ line.Horizon s p h' ∷ [])
    go true = tt
    go false = Each-on N (map (got_line s p) (filter (λ x. net.wants p s x.0 x.1) items)) (line.Horizon s p h' ∷ []) (got_named net N s p (filter (λ x. net.wants p s x.0 x.1) items) k i j) (k.horizon s p h' i j, tt)

-- the lines of what a broker learns
pub learn_named : (net : Net) (N : Report → Type 0) (p b : ℕ) (piece : Known) (v : View) (log : Log) → Names net N → IsOrderly net → p < net.publishers → Each N (learn net p b piece v log).lines
unfolding learn
learn_named net N p b piece v log k o j = go _ _ (net.subscribers_at b) (λ s m. o.subscribers_in b s m)
  where
    go : (h : ℕ) (items : List (ℕ × Event)) (xs : List ℕ) → ((s : ℕ) → list_any (λ x. nat_eq x s) xs ≡ true → s < net.subscribers) → Each N (flat_map (delivery_lines net p v.horizon h items) xs)
    go h items [] m = tt
    go h items (x ∷ xs) m = Each-on N (delivery_lines net p v.horizon h items x) (flat_map (delivery_lines net p v.horizon h items) xs) (delivery_named net N p v.horizon h x items k (m x (or_left (nat_eq x x) (list_any (λ y. nat_eq y x) xs) (eq-eqb x x refl))) j) (go h items xs (λ s z. m s (or_right (nat_eq x s) (list_any (λ y. nat_eq y s) xs) z)))

-- of a frame that comes
pub receive_named : (net : Net) (N : Report → Type 0) (now : ℕ) (f : Frame) (v : View) (log : Log) → Names net N → IsOrderly net → f.head.publisher < net.publishers → Each N (receive net now f v log).lines
unfolding receive expect curiosity asking
receive_named net N now f v log k o j = go f.body
  where
    learned : (runs : Known) (js : Joins) (c : Bool) → Each N (let o : Outcome = elim c [ true ↦ record { view = v; log = log; lines = []; frames = [] } | false ↦ learn net f.head.publisher f.head.to runs (with_joins v (longer v.joins js)) log ] in o.lines)
    learned runs js true = tt
    learned runs js false = learn_named net N f.head.publisher f.head.to runs (with_joins v (longer v.joins js)) log k o j

    go : (y : Body) → Each N (let o : Outcome = elim y [
      | body.Knowledge runs js ↦ elim (drops v runs js) [ true ↦ record { view = v; log = log; lines = []; frames = [] } | false ↦ learn net f.head.publisher f.head.to runs (with_joins v (longer v.joins js)) log ]
      | body.Curiosity runs ↦ curiosity net f.head.publisher f.head.to now f.head.from (place_of f.head.from (net.children f.head.publisher f.head.to)) runs v log
      | body.Expect tick ↦ expect net f.head.publisher f.head.to now tick v log
    ] in o.lines)
    go (body.Knowledge runs js) = learned runs js (drops v runs js)
    go (body.Curiosity runs) = tt
    go (body.Expect tick) = tt

-- of a publish
pub publish_named : (net : Net) (N : Report → Type 0) (p b now number : ℕ) (e : Event) (v : View) (log : Log) → Names net N → IsOrderly net → p < net.publishers → Each N (publish net p b now number e v log).lines
publish_named net N p b now number e v log k o j = publish_cases net p b now number e v log (λ x. Each N x.lines) (λ l. (k.already p number j, tt)) (λ l. (k.gap p number (suc log.last) j, tt)) (λ x l. (k.exhausted p number j, tt)) (λ x l. (k.logged p number (max (suc log.settled) now) j, learn_named net N p b _ v _ k o j))

-- of a join
pub joining_named : (net : Net) (N : Report → Type 0) (p b now s : ℕ) (v : View) (log : Log) → Names net N → IsOrderly net → s < net.subscribers → p < net.publishers → Each N (joining net p b now s v log).lines
joining_named net N p b now s v log k o i j = joining_cases net p b now s v log (λ x. Each N x.lines) (λ e. (k.already_joined s p i j, tt)) (λ e l. (k.exhausted_join s p i j, tt)) (λ e l. (k.joined s p (max (suc log.settled) now) i j, learn_named net N p b _ _ _ k o j))

-- of a mark
pub marking_named : (net : Net) (N : Report → Type 0) (p b now : ℕ) (v : View) (log : Log) → Names net N → IsOrderly net → p < net.publishers → Each N (marking net p b now v log).lines
marking_named net N p b now v log k o j = marking_cases net p b now v log (λ x. Each N x.lines) (λ e. learn_named net N p b _ v _ k o j) (λ e. tt)

-- of a wake
pub wake_named : (net : Net) (N : Report → Type 0) (p b now : ℕ) (v : View) (log : Log) → Names net N → IsOrderly net → p < net.publishers → Each N (wake net p b now v log).lines
unfolding wake wake_host wake_below asking
wake_named net N p b now v log k o j = go (is_host net p b)
  where
    marked : Outcome
    marked = marking net p b now v log

    new : Log
    new = cutting net p b marked.view marked.log

    -- of a cut, whether the log was written anew or not
    anew : (e : Bool) → Each N (if e then line.Reclaimed p new.generation ∷ [] else [])
    anew true = (k.reclaimed p new.generation j, tt)
    anew false = tt

    cuts : (d e : Bool) → Each N (if d then line.Cut p new.cut ∷ (if e then line.Reclaimed p new.generation ∷ [] else []) else [])
    cuts true e = (k.cut p new.cut j, anew e)
    cuts false e = tt

    marks : (c : Bool) → Each N (if c then line.Mark p now ∷ [] else [])
    marks true = (k.mark p now j, tt)
    marks false = tt

    go : (q : Bool) → Each N (let u : Outcome = elim q [ true ↦ wake_host net p b now v log | false ↦ wake_below net p b now v log ] in u.lines)
    go true =
        let m : List Report = if nat_lt log.settled marked.log.settled then line.Mark p now ∷ [] else [] in
        Each-on N (m ++ cutting_lines p marked.log new) marked.lines
        (Each-on N m (cutting_lines p marked.log new) (marks (nat_lt log.settled marked.log.settled)) (cuts (nat_lt marked.log.cut new.cut) (nat_lt marked.log.generation new.generation)))
        (marking_named net N p b now v log k o j)
    go false = tt

-- What a call sends

-- the lines of frames that go along edges
pub sent_named : (net : Net) (N : Report → Type 0) (n : ℕ) (fs : List Frame) → Names net N → Each (IsBetween net) fs → Each N (sent_lines n fs)
sent_named net N n [] k a = tt
sent_named net N n (f ∷ fs) k a = (k.sent n f a.0, sent_named net N (suc n) fs k a.1)

-- and of a call that is taken up
pub absorbed_speaks : (net : Net) (N : Report → Type 0) (w : World) (b p : ℕ) (o : Outcome) → Names net N → AllBetween net w → Says net N o → Speaks net N (absorbed w b p o)
unfolding absorbed
absorbed_speaks net N w b p o k a s = record {
  lines = Each-on N o.lines (sent_lines (suc (length w.frames)) o.frames) s.lines (sent_named net N (suc (length w.frames)) o.frames k s.frames);
  over = Each-on (IsBetween net) w.frames o.frames a s.frames;
}

-- Parts of a step, on a tree whose lists name what there is

-- a tree of brokers, and a property of all lines that name what it has
pub record Stands (net : Net) (N : Report → Type 0) : Type 0 where
  pub names : Names net N
  pub tree : IsNet net
  pub orderly : IsOrderly net

-- the net that a view shows has the same
names_seen : (net : Net) (v : View) (N : Report → Type 0) → Stands net N → Names (seen net v) N
names_seen net v N s = names_with net (wants_with net v.joins) N s.names

orderly_seen : (net : Net) (v : View) (N : Report → Type 0) → Stands net N → IsOrderly (seen net v)
orderly_seen net v N s = orderly_with net (wants_with net v.joins) s.orderly

-- a wake
pub wake_for_speaks : (net : Net) (N : Report → Type 0) (w : World) (b p : ℕ) → Stands net N → AllBetween net w → b < net.brokers → p < net.publishers → Speaks net N (wake_for net w b p)
unfolding wake_for_by
wake_for_speaks net N w b p s a i j = absorbed_speaks net N w b p (wake (seen net v) p b w.clock v (log_of w p)) s.names a (record {
  lines = wake_named (seen net v) N p b w.clock v (log_of w p) (names_seen net v N s) (orderly_seen net v N s) j;
  frames = wake_on (seen net v) p b w.clock (IsBetween net) v (log_of w p) (seen_between net v p b s.tree j i);
})
  where
    v : View
    v = view_of w b p

-- a delivery
pub deliver_speaks : (net : Net) (N : Report → Type 0) (w : World) (x : Frame) → Stands net N → AllBetween net w → IsBetween net x → Speaks net N (deliver_frame net w x)
unfolding deliver_frame_by
deliver_speaks net N w x s a g = absorbed_speaks net N w x.head.to x.head.publisher (receive (seen net u) w.clock x v (log_of w x.head.publisher)) s.names a (record {
  lines = receive_named (seen net u) N w.clock x v (log_of w x.head.publisher) (names_seen net u N s) (orderly_seen net u N s) g.publisher;
  frames = receive_on (seen net u) w.clock (IsBetween net) x v (log_of w x.head.publisher) (seen_between net u x.head.publisher x.head.to s.tree g.publisher g.to) (body_fits_with net (wants_with net u.joins) x.head.publisher x.head.from x.head.to x.body g.between);
})
  where
    v : View
    v = view_of w x.head.to x.head.publisher

    u : View
    u = taking v x

-- a publish
pub publish_now_speaks : (net : Net) (N : Report → Type 0) (w : World) (p number : ℕ) (e : Event) → Stands net N → AllBetween net w → p < net.publishers → Speaks net N (publish_now net w p number e)
unfolding publish_now_by
publish_now_speaks net N w p number e s a j = absorbed_speaks net N w (net.host p) p (publish (seen net v) p (net.host p) w.clock number e v (log_of w p)) s.names a (record {
  lines = publish_named (seen net v) N p (net.host p) w.clock number e v (log_of w p) (names_seen net v N s) (orderly_seen net v N s) j;
  frames = publish_on (seen net v) p (net.host p) w.clock number (IsBetween net) e v (log_of w p) (seen_between net v p (net.host p) s.tree j (s.tree.host_in p j));
})
  where
    v : View
    v = view_of w (net.host p) p

-- a join
pub join_now_speaks : (net : Net) (N : Report → Type 0) (w : World) (q p : ℕ) → Stands net N → AllBetween net w → q < net.subscribers → p < net.publishers → Speaks net N (join_now net w q p)
unfolding join_now_by
join_now_speaks net N w q p s a i j = absorbed_speaks net N w (net.host p) p (joining (seen net u) p (net.host p) w.clock q v (log_of w p)) s.names a (record {
  lines = joining_named (seen net u) N p (net.host p) w.clock q v (log_of w p) (names_seen net u N s) (orderly_seen net u N s) i j;
  frames = joining_on (seen net u) p (net.host p) w.clock q (IsBetween net) v (log_of w p) (seen_between net u p (net.host p) s.tree j (s.tree.host_in p j));
})
  where
    v : View
    v = view_of w (net.host p) p

    u : View
    u = view_joined (log_of w p) q w.clock v

-- a wake of all publishers at a broker
pub wake_all_speaks : (net : Net) (N : Report → Type 0) (w : World) (b : ℕ) → Stands net N → AllBetween net w → b < net.brokers → Speaks net N (wake_all net w b)
unfolding wake_all_by
wake_all_speaks net N w b s a i = in_turn_speaks net N (λ p. p < net.publishers) (λ u p. wake_for net u b p) (λ u p c j. wake_for_speaks net N u b p s c i j) (numbers net.publishers) w a (numbers_below 0 net.publishers net.publishers (omega arith))

-- A sweep

-- the frames past the first so many that pass a test go along edges
past : (net : Net) (w : World) (n : ℕ) (test : Frame → Bool) → AllBetween net w → Each (IsBetween net) (filter test (frames_past n w.frames))
past net w n test a = Each-kept (IsBetween net) test (frames_past n w.frames) (Each-past (IsBetween net) n w.frames a)

deliver_up_speaks : (net : Net) (N : Report → Type 0) (fuel : ℕ) (fs : List Frame) (w : World) → Stands net N → AllBetween net w → Each (IsBetween net) fs → Speaks net N (deliver_up net fuel fs w)
unfolding deliver_up_by
deliver_up_speaks net N zero fs w s a e = record { lines = tt; over = a }
deliver_up_speaks net N (suc fuel) fs w s a e =
    in_turn_speaks net N (IsBetween net) (λ u x. followed_by (deliver_frame net u x) (λ y. deliver_up net fuel (filter is_want (sent_since u y)) y))
    (λ u x c g. let d = deliver_speaks net N u x s c g in let y = (deliver_frame net u x).world in
    after net N (deliver_frame net u x) (λ z. deliver_up net fuel (filter is_want (sent_since u z)) z) d (deliver_up_speaks net N fuel (filter is_want (sent_since u y)) y s d.over (past net y (length_of u) is_want d.over)))
    fs w a e
  where
    length_of : World → ℕ
    length_of u = length u.frames

wake_up_speaks : (net : Net) (N : Report → Type 0) (p : ℕ) (w : World) (b : ℕ) → Stands net N → AllBetween net w → b < net.brokers → p < net.publishers → Speaks net N (wake_up net p w b)
unfolding wake_up_by
wake_up_speaks net N p w b s a i j =
    let k = wake_for_speaks net N w b p s a i j in
    let y = (wake_for net w b p).world in
    after net N (wake_for net w b p) (λ u. deliver_up net net.brokers (filter is_want (sent_since w u)) u) k (deliver_up_speaks net N net.brokers (filter is_want (sent_since w y)) y s k.over (past net y (length w.frames) is_want k.over))

hand_down_speaks : (net : Net) (N : Report → Type 0) (p first : ℕ) (w : World) (b : ℕ) → Stands net N → AllBetween net w → Speaks net N (hand_down net p first w b)
unfolding hand_down_by
hand_down_speaks net N p first w b s a = in_turn_speaks net N (IsBetween net) (deliver_frame net) (λ u x c g. deliver_speaks net N u x s c g) (filter (is_know_to p b) (frames_past first w.frames)) w a (past net w first (is_know_to p b) a)

sweep_for_speaks : (net : Net) (N : Report → Type 0) (w : World) (p : ℕ) → Stands net N → AllBetween net w → p < net.publishers → Speaks net N (sweep_for net w p)
unfolding sweep_for_by
sweep_for_speaks net N w p s a j =
    let up = λ (u : World) (c : AllBetween net u). in_turn_speaks net N (λ b. b < net.brokers) (wake_up net p) (λ x b d i. wake_up_speaks net N p x b s d i j) (inwards net p) u c (depths_in net p (numbers_down net.brokers)) in
    let first = up w a in
    let w1 = (in_turn (wake_up net p) (inwards net p) w).world in
    let second = in_turn_speaks net N (λ b. b < net.brokers) (hand_down net p (length w.frames)) (λ x b d i. hand_down_speaks net N p (length w.frames) x b s d) (outwards net p) w1 first.over (depths_in net p (numbers net.brokers)) in
    let w2 = (in_turn (hand_down net p (length w.frames)) (outwards net p) w1).world in
    after net N (followed_by (in_turn (wake_up net p) (inwards net p) w) (in_turn (hand_down net p (length w.frames)) (outwards net p))) (in_turn (wake_up net p) (inwards net p))
    (after net N (in_turn (wake_up net p) (inwards net p) w) (in_turn (hand_down net p (length w.frames)) (outwards net p)) first second)
    (up w2 second.over)

sweep_named : (net : Net) (N : Report → Type 0) (w : World) (k : ℕ) → Stands net N → AllBetween net w → Each N (sweep net w k).lines
unfolding sweep_by
sweep_named net N w k s a = go (nat_lt max_tick m)
  where
    m : ℕ
    m = sweep_moment net w

    u : World
    u = record { clock = m; most = max m w.most; frames = w.frames; views = w.views; logs = w.logs }

    go : (q : Bool) → Each N (let t : Transition = elim q [ true ↦ unchanged w (line.RefusedClock k m ∷ []) | false ↦ followed_by (in_turn (sweep_for net) (numbers net.publishers) u) (λ x. unchanged x (line.Swept m ∷ [])) ] in t.lines)
    go true = (s.names.refused_clock k m, tt)
    go false = Each-on N (in_turn (sweep_for net) (numbers net.publishers) u).lines (line.Swept m ∷ [])
        (in_turn_speaks net N (λ p. p < net.publishers) (sweep_for net) (λ x p c j. sweep_for_speaks net N x p s c j) (numbers net.publishers) u a (numbers_below 0 net.publishers net.publishers (omega arith))).lines
        (s.names.swept m, tt)

-- Crashes

-- the lines that an opening tells of the logs at a broker
pub opened_named : (net : Net) (N : Report → Type 0) (logs : List Log) (b : ℕ) → Names net N → Each N (opened_lines net logs b)
unfolding opened_lines
opened_named net N logs b k = go (numbers net.publishers) (numbers_below 0 net.publishers net.publishers (omega arith))
  where
    one : (p : ℕ) (c : Bool) → p < net.publishers → Each N (let log = get_or logs p empty_log in if c then line.Opened p log.last log.settled log.cut ∷ [] else [])
    one p true j = (let log = get_or logs p empty_log in k.opened p log.last log.settled log.cut j, tt)
    one p false j = tt

    here : ℕ → List Report
    here p = let log = get_or logs p empty_log in if nat_eq (net.host p) b && nat_lt 0 log.settled then line.Opened p log.last log.settled log.cut ∷ [] else []

    go : (ps : List ℕ) → Each (λ p. p < net.publishers) ps → Each N (flat_map here ps)
    go [] a = tt
    go (p ∷ ps) a = Each-on N (here p) (flat_map here ps) (one p (nat_eq (net.host p) b && nat_lt 0 (get_or logs p empty_log).settled) a.0) (go ps a.1)

crash_named : (net : Net) (N : Report → Type 0) (w : World) (b : ℕ) → Names net N → b < net.brokers → Each N (crash net w b).lines
unfolding crash
crash_named net N w b k i = (k.crashed b i, opened_named net N w.logs b k)

stopped_named : (net : Net) (N : Report → Type 0) (w : World) (k p number : ℕ) (stop : Stop) (e : Event) → Stands net N → AllBetween net w → p < net.publishers → Each N (publish_stopped net w k p number stop e).lines
unfolding publish_stopped_by
stopped_named net N w k p number stop e s a j = go (not_empty (net.subscribers_at (net.host p))) (nat_eq number (suc log.last) && nat_le tick max_tick) (is_kept (log.size - 1) stop.call stop.pick)
  where
    log : Log
    log = log_of w p

    tick : ℕ
    tick = max (suc log.settled) w.clock

    told_by : Bool → Transition
    told_by q =
        let logs : List Log = if q then set w.logs p (with_event log tick e) else w.logs in
        record {
          world = restarted net (record { clock = w.clock; most = w.most; frames = w.frames; views = w.views; logs = logs }) (net.host p);
          lines = line.Crashed (net.host p) ∷ ((if q then line.Kept p number tick else line.Lost p number tick) ∷ opened_lines net logs (net.host p));
        }

    go : (x y z : Bool) → Each N (let t : Transition = elim x [ true ↦ unchanged w (line.RefusedHosts k (net.host p) ∷ []) | false ↦ elim y [ false ↦ publish_now net w p number e | true ↦ told_by z ] ] in t.lines)
    go true y z = (s.names.refused_hosts k (net.host p) (s.tree.host_in p j), tt)
    go false false z = (publish_now_speaks net N w p number e s a j).lines
    go false true true = (s.names.crashed (net.host p) (s.tree.host_in p j), (s.names.kept p number tick j, opened_named net N (set w.logs p (with_event log tick e)) (net.host p) s.names))
    go false true false = (s.names.crashed (net.host p) (s.tree.host_in p j), (s.names.lost p number tick j, opened_named net N w.logs (net.host p) s.names))

-- What is shown

pub show_named : (net : Net) (N : Report → Type 0) (w : World) → Names net N → Each N (show net w)
unfolding show
show_named net N w k = (k.frames (length w.frames), logs (numbers net.publishers) (numbers_below 0 net.publishers net.publishers (omega arith)))
  where
    log_line : ℕ → Report
    log_line p = let l = log_of w p in line.LogOf p l.last l.settled l.cut (kept_events l)

    here : ℕ → ℕ → List Report
    here b p = if keeps_horizon net p b then line.Doubt b p (view_of w b p).horizon ∷ [] else []

    there : ℕ → List Report
    there b = flat_map (here b) (numbers net.publishers)

    one : (b p : ℕ) → b < net.brokers → p < net.publishers → (c : Bool) → Each N (if c then line.Doubt b p (view_of w b p).horizon ∷ [] else [])
    one b p i j true = (k.doubt b p (view_of w b p).horizon i j, tt)
    one b p i j false = tt

    row : (b : ℕ) (ps : List ℕ) → b < net.brokers → Each (λ p. p < net.publishers) ps → Each N (flat_map (here b) ps)
    row b [] i a = tt
    row b (p ∷ ps) i a = Each-on N (here b p) (flat_map (here b) ps) (one b p i a.0 (keeps_horizon net p b)) (row b ps i a.1)

    brokers : (bs : List ℕ) → Each (λ b. b < net.brokers) bs → Each N (flat_map there bs)
    brokers [] a = tt
    brokers (b ∷ bs) a = Each-on N (there b) (flat_map there bs) (row b (numbers net.publishers) a.0 (numbers_below 0 net.publishers net.publishers (omega arith))) (brokers bs a.1)

    logs : (ps : List ℕ) → Each (λ p. p < net.publishers) ps → Each N (map log_line ps ++ flat_map there (numbers net.brokers))
    logs [] a = brokers (numbers net.brokers) (numbers_below 0 net.brokers net.brokers (omega arith))
    logs (p ∷ ps) a = (let l = log_of w p in k.log p l.last l.settled l.cut (kept_events l) a.0, logs ps a.1)

-- Every step

-- the subscriber that joins is there
abbrev pub JoinerIn : Net → Step → Type 0
JoinerIn net (step.Join q p) = q < net.subscribers
JoinerIn net _ = Unit {0}

named_by : (net : Net) (N : Report → Type 0) (w : World) (k : ℕ) (x : Step) → Stands net N → AllBetween net w → StepIn net x → JoinerIn net x → Each N (next net w (record { number = k; step = x })).lines
unfolding next_by
named_by net N w k (step.Clock now) s a i m = tt
named_by net N w k (step.Publish p number None e) s a i m = (publish_now_speaks net N w p number e s a i).lines
named_by net N w k (step.Publish p number (Some stop) e) s a i m = stopped_named net N w k p number stop e s a i
named_by net N w k (step.Wake b) s a i m = (wake_all_speaks net N w b s a i).lines
named_by net N w k (step.Deliver j) s a i m = go (frame_at w j) refl
  where
    go : (o : Option Frame) → frame_at w j ≡ o → Each N (let t : Transition = elim o [ None ↦ unchanged w (line.RefusedFrame k j (length w.frames) ∷ []) | Some x ↦ deliver_frame net w x ] in t.lines)
    go None e = (s.names.refused_frame k j (length w.frames), tt)
    go (Some x) e = (deliver_speaks net N w x s a (frame_at_ready (IsBetween net) w j x a e)).lines
named_by net N w k (step.Crash b) s a i m = go (not_empty (net.subscribers_at b))
  where
    go : (q : Bool) → Each N (let t : Transition = elim q [ true ↦ unchanged w (line.RefusedHosts k b ∷ []) | false ↦ crash net w b ] in t.lines)
    go true = (s.names.refused_hosts k b i, tt)
    go false = crash_named net N w b s.names i
named_by net N w k step.Sweep s a i m = sweep_named net N w k s a
named_by net N w k step.Show s a i m = show_named net N w s.names
named_by net N w k (step.Bytes j) s a i m = go (frame_at w j)
  where
    go : (o : Option Frame) → Each N (let t : Transition = elim o [ None ↦ unchanged w (line.RefusedFrame k j (length w.frames) ∷ []) | Some x ↦ unchanged w (line.BytesOf j (frame_bytes x) ∷ []) ] in t.lines)
    go None = (s.names.refused_frame k j (length w.frames), tt)
    go (Some x) = (s.names.bytes j (frame_bytes x), tt)
named_by net N w k (step.Join q p) s a i m = (join_now_speaks net N w q p s a m i.1).lines

-- each line of a step names what the tree has, where all frames so far went over its edges
pub step_names : (net : Net) (N : Report → Type 0) (w : World) (l : Line) → Stands net N → AllOver net w → StepIn net l.step → JoinerIn net l.step → Each N (next net w l).lines
step_names net N w l s a i m = named_by net N w l.number l.step s (all_between net w.frames a) i m
