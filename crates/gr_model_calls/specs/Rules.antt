-- The rules of the calls, tick by tick: what each call of a broker sends, tells and keeps
use Rattle.std.specs.Prelude.{◌≡◌, ◌≢◌, ℕ, suc, ◌+◌, ◌≤◌, ◌<◌, max, Bool, true, false, not, ◌&&◌, ◌||◌, nat_eq, nat_le}
use Rattle.std.specs.Prelude.{nat_lt, if◌then◌else◌, List, [], ◌∷◌, ◌++◌, length, get_or, None, flat_map}
use Rattle.std.specs.List.{list_any}
use Rattle.gr_event.specs.declared.event.Event.{Event}
use Rattle.gr_know.specs.declared.values.K.{K}
use Rattle.gr_know.specs.declared.values.K.TheVariants.{Q, S, D, F}
use Rattle.gr_curio.specs.declared.values.Q3.{Q3}
use Rattle.gr_curio.specs.declared.values.Q3.TheVariants.{N, C, A}
use Rattle.gr_curio.specs.declared.asks.Moment.{Moment}
use Rattle.gr_curio.specs.declared.asks.Moment.TheVariants.{Never, At}
use Rattle.gr_frame.specs.declared.Body.{Body}
use Rattle.gr_frame.specs.declared.Body.TheVariants as body
use Rattle.gr_frame.specs.declared.Frame.{Frame}
use Rattle.gr_model.specs.declared.report.Report.{Report}
use Rattle.gr_model.specs.declared.report.Report.TheVariants as line
use Rattle.gr_tick.specs.Runs.{AreRuns, top_of}
use Rattle.gr_know.specs.Values.{Known, known_at, is_Q, is_D, join_K, new_K}
use Rattle.gr_curio.specs.Values.{Wanted, Asked, wanted_at, asked_at, is_C, is_A, is_outstanding}
use Rattle.gr_model.specs.Net.{Net, keeps_horizon, is_host, pass}
use Rattle.gr_event.specs.Joins.{Joins, longer, has_joined}
use Rattle.gr_model.specs.Broker.{View, Log, Outcome, max_tick, is_F, know_frames, expect_frame, up_frames}
use Rattle.gr_model.specs.Broker.{with_joins, view_joined, with_join, drops}
use Rattle.gr_model.specs.Broker.{is_consolidated_by, any_C, data_count, place_of, delivery_lines, with_event}
use Rattle.gr_model.specs.Broker.{with_mark, reclaims, cut_log_at}
pub use Rattle.gr_model.specs.Broker.{unmoved, says}
pub use Rattle.gr_subend.specs.Said.{event_of}
use Rattle.gr_model_calls.specs.Said.{said_at, TicksRise}

-- Pieces: the list of runs that has this value at each tick. There is exactly one.

pub record HasKnown (at : ℕ → K) (piece : Known) : Type 0 where
  pub runs : AreRuns Q piece
  pub each : (t : ℕ) → known_at piece t ≡ at t

pub record HasWanted (at : ℕ → Q3) (piece : Wanted) : Type 0 where
  pub runs : AreRuns N piece
  pub each : (t : ℕ) → wanted_at piece t ≡ at t

pub record HasAsked (at : ℕ → Moment) (piece : Asked) : Type 0 where
  pub runs : AreRuns Never piece
  pub each : (t : ℕ) → asked_at piece t ≡ at t

-- The children

-- c is a child of b, seen from the host of p
abbrev pub IsChild : Net → ℕ → ℕ → ℕ → Type 0
IsChild net p b c = list_any (λ x. nat_eq x c) (net.children p b) ≡ true

-- what b has stored of child c's curiosity; at a tick
abbrev pub wants_from : Net → ℕ → ℕ → View → ℕ → Wanted
wants_from net p b v c = get_or v.wants (place_of c (net.children p b)) []

abbrev pub want_at : Net → ℕ → ℕ → View → ℕ → ℕ → Q3
want_at net p b v c t = wanted_at (wants_from net p b v c) t

-- one curiosity is stored for each child
abbrev pub HasAllWants : Net → ℕ → ℕ → View → Type 0
HasAllWants net p b v = length v.wants ≡ length (net.children p b)

-- A view that a broker may have, whatever its peers send: its runs are canonical, and it stores one curiosity for each
-- child.
pub record IsView (net : Net) (p b : ℕ) (v : View) : Type 0 where
  pub know : AreRuns Q v.know
  pub wants : (c : ℕ) → IsChild net p b c → AreRuns N (wants_from net p b v c)
  pub all_wants : HasAllWants net p b v
  pub asks : AreRuns Never v.asks

-- What is kept

-- A kept horizon moves to the greatest k such that no tick of h + 1 to k is unknown. One that is not kept stays.
pub record Moves (keeps : Bool) (h k : ℕ) (at : ℕ → K) : Type 0 where
  pub on : h ≤ k
  pub known : (t : ℕ) → h < t → t ≤ k → at t ≢ Q
  pub stops : keeps ≡ true → at (suc k) ≡ Q
  pub stays : keeps ≡ false → k ≡ h

-- up to here a broker may forget: below its kept horizon, or all
abbrev pub forgets_upto : Net → ℕ → ℕ → ℕ → ℕ
forgets_upto net p b h = if keeps_horizon net p b then h else max_tick

-- Forgetting makes event ticks unknown again, and leaves all else.
pub record Forgets (net : Net) (p b h : ℕ) (full kept : Known) : Type 0 where
  -- They are the least ones, up to a last tick. The host forgets none, and a broker that keeps a horizon none past it.
  pub last : ℕ
  pub at_host : is_host net p b ≡ true → last ≡ 0
  pub within : last ≤ forgets_upto net p b h
  pub kept_is : HasKnown (λ t. if is_D (known_at full t) && nat_le t last then Q else known_at full t) kept
  -- No more are forgotten than are too many: where fewer than `cache` are left, none was.
  pub needed : data_count kept < net.cache → kept ≡ full
  -- And as many as are too many: where more are left below the host, they may not be forgotten.
  pub enough : is_host net p b ≡ false → net.cache < data_count kept → (t : ℕ) → t ≤ forgets_upto net p b h
      → is_D (known_at kept t) ≡ false

-- What is then known: final where consolidated, by each child's acknowledgement and the horizon; else as it was or
-- came. Then the broker forgets.
pub record Knows (net : Net) (p b : ℕ) (at : ℕ → K) (u : View) : Type 0 where
  pub full : Known
  pub full_is : HasKnown (λ t. if is_consolidated_by (keeps_horizon net p b) u.horizon u.wants t then F else at t) full
  pub forgets : Forgets net p b u.horizon full u.know

-- Of the asks the moments are kept, but below the host none where the tick is final afterwards: it is never asked
-- again.
abbrev pub KeepsMoments : Net → ℕ → ℕ → (ℕ → Moment) → View → Type 0
KeepsMoments net p b at u = HasAsked (λ t. if is_F (known_at u.know t) && not (is_host net p b) then Never
    else at t) u.asks

-- Where the horizon moves from h to k, each subscriber here, in order, is told the events of the ticks past h and up to
-- k that it wants, by rising tick, and then k (`told`).
pub record DeliversOn (net : Net) (p b h k : ℕ) (at : ℕ → K) (ls : List Report) : Type 0 where
  pub passed : List (ℕ × Event)
  pub rise : TicksRise 0 passed
  pub each : (t : ℕ) → said_at passed t ≡ (if nat_lt h t && nat_le t k then event_of (at t) else None)
  pub lines : ls ≡ flat_map (delivery_lines net p h k passed) (net.subscribers_at b)

-- New ticks

-- To each child, in order, what it is sent as frames. A piece makes the frames that the cutting rule gives
-- (`cut_frames`).
abbrev pub frames_down : Joins → Net → ℕ → ℕ → (ℕ → Known) → List Frame
frames_down js net p b sent = flat_map (λ c. know_frames js b c p (sent c)) (net.children p b)

-- A piece of knowledge comes to b
pub record NewTicks (net : Net) (p b : ℕ) (piece : Known) (v : View) (log : Log) (o : Outcome) : Type 0 where
  -- Each child is sent, where it has not acknowledged, what was unknown and came, as it passes the child's edge.
  pub sent : ℕ → Known
  pub sent_is : (c : ℕ) → IsChild net p b c → HasKnown (λ t. if is_A (want_at net p b v c t) then Q
      else pass net p c t (new_K (known_at v.know t) (known_at piece t))) (sent c)
  pub frames : o.frames ≡ frames_down v.joins net p b sent
  -- What a child asked is done where it was sent something.
  pub wants : (c : ℕ) → IsChild net p b c → HasWanted (λ t. if is_C (want_at net p b v c t)
      && not (is_Q (known_at (sent c) t)) then N else want_at net p b v c t) (wants_from net p b o.view c)
  pub all_wants : HasAllWants net p b o.view
  pub asks : KeepsMoments net p b (λ t. asked_at v.asks t) o.view
  -- What was known and what came are joined. The horizon moves, and the subscribers are told.
  pub horizon : Moves (keeps_horizon net p b) v.horizon o.view.horizon (λ t.
      join_K (known_at v.know t) (known_at piece t))
  pub lines : DeliversOn net p b v.horizon o.view.horizon (λ t. join_K (known_at v.know t) (known_at piece t)) o.lines
  pub know : Knows net p b (λ t. join_K (known_at v.know t) (known_at piece t)) o.view
  pub log_same : o.log ≡ log
  pub joins_same : o.view.joins ≡ v.joins

-- Curiosity

-- Child c's piece comes to b
pub record ChildAsks (net : Net) (p b now c : ℕ) (piece : Wanted) (v : View) (log : Log) (o : Outcome) : Type 0 where
  -- An asked tick is answered: final where c had acknowledged it, else what is known, as it passes the edge to c.
  pub reply : Known
  pub reply_is : HasKnown (λ t. if is_C (wanted_at piece t)
      then (if is_A (want_at net p b v c t) then F else pass net p c t (known_at v.know t)) else Q) reply
  -- Below the host the asked ticks that were neither acknowledged nor known, and of which no ask is outstanding, are
  -- asked upward.
  pub asked : Wanted
  pub asked_is : HasWanted (λ t. if not (is_host net p b) && is_C (wanted_at piece t)
      && not (is_A (want_at net p b v c t)) && is_Q (known_at v.know t)
      && not (is_outstanding (asked_at v.asks t) now net.retry) then C else N) asked
  -- All answers go to c as one piece, and then all asks upward as one.
  pub frames : o.frames ≡ know_frames v.joins b c p reply ++ up_frames net p b asked
  -- Of c is kept: an acknowledgement, old or new; an ask that is not answered; and what it did not speak of.
  pub wants : HasWanted (λ t. if is_A (wanted_at piece t) || is_A (want_at net p b v c t) then A
      else (if is_C (wanted_at piece t) then (if is_Q (known_at v.know t) then C else N)
      else want_at net p b v c t)) (wants_from net p b o.view c)
  pub other_wants : (d : ℕ) → IsChild net p b d → d ≢ c → wants_from net p b o.view d ≡ wants_from net p b v d
  pub all_wants : HasAllWants net p b o.view
  -- The asks are of now.
  pub asks : KeepsMoments net p b (λ t. if is_C (wanted_at asked t) then At now else asked_at v.asks t) o.view
  pub horizon : o.view.horizon ≡ v.horizon
  pub know : Knows net p b (λ t. known_at v.know t) o.view
  pub lines : o.lines ≡ []
  pub log_same : o.log ≡ log
  pub joins_same : o.view.joins ≡ v.joins

-- Asking

-- A broker that is not the host asks for the wanted ticks, and then sends some more frames
pub record Asks (net : Net) (p b now : ℕ) (wanted : ℕ
    → Bool) (more : List Frame) (v : View) (log : Log) (o : Outcome) : Type 0 where
  -- The wanted ticks that are unknown, and of which no ask is outstanding, are asked.
  pub asked : Wanted
  pub asked_is : HasWanted (λ t. if wanted t && is_Q (known_at v.know t)
      && not (is_outstanding (asked_at v.asks t) now net.retry) then C else N) asked
  -- Upward goes one piece: acknowledged at the consolidated ticks, and else asked at those.
  pub sent : Wanted
  pub sent_is : HasWanted (λ t. if is_consolidated_by (keeps_horizon net p b) v.horizon v.wants t then A
      else wanted_at asked t) sent
  pub frames : o.frames ≡ up_frames net p b sent ++ more
  -- The asks are of now. Nothing else is changed but what is forgotten.
  pub asks : KeepsMoments net p b (λ t. if is_C (wanted_at asked t) then At now else asked_at v.asks t) o.view
  pub wants : o.view.wants ≡ v.wants
  pub horizon : o.view.horizon ≡ v.horizon
  pub know : Forgets net p b v.horizon v.know o.view.know
  pub lines : o.lines ≡ []
  pub log_same : o.log ≡ log
  pub joins_same : o.view.joins ≡ v.joins

-- At a wake are wanted: what some child asks; and past a kept horizon the ticks as old as `idle`, and those as old as
-- `gap` below the greatest tick that is known.
abbrev pub wanted_by_age : Net → ℕ → ℕ → ℕ → View → ℕ → Bool
wanted_by_age net p b now v t = any_C v.wants t
    || (keeps_horizon net p b && nat_lt v.horizon t
    && (nat_le (t + net.idle) now || (nat_le (t + net.gap) now && nat_lt t (top_of v.know))))

-- At an Expect are wanted: what some child asks, and all ticks past a kept horizon and up to the expected one.
abbrev pub wanted_upto : Net → ℕ → ℕ → ℕ → View → ℕ → Bool
wanted_upto net p b tick v t = any_C v.wants t || (keeps_horizon net p b && nat_lt v.horizon t && nat_le t tick)

-- Expect of a tick goes to each child, in order, that has not acknowledged every tick from 1 up to it.
pub record SendsExpect (net : Net) (p b tick : ℕ) (v : View) (frames : List Frame) : Type 0 where
  pub done : ℕ → Bool
  pub is_done : (c : ℕ) → IsChild net p b c → done c ≡ true → (t : ℕ) → 1 ≤ t → t ≤ tick → want_at net p b v c t ≡ A
  pub not_done : (c : ℕ) → IsChild net p b c → done c ≡ false → (t : ℕ) × (1 ≤ t) × (t ≤ tick)
      × (want_at net p b v c t ≢ A)
  pub frames_are : frames ≡ flat_map (λ c. if done c then [] else expect_frame b c p tick ∷ []) (net.children p b)

-- Expect of a tick comes to b
pub record Expects (net : Net) (p b now tick : ℕ) (v : View) (log : Log) (o : Outcome) : Type 0 where
  pub on : List Frame
  pub on_is : SendsExpect net p b tick v on
  pub asks : Asks net p b now (wanted_upto net p b tick v) on v log o

-- The host

-- silence on the ticks past a settled one and up to now
abbrev pub silence_upto : ℕ → ℕ → ℕ → K
silence_upto settled now t = if nat_lt settled t && nat_le t now then S else Q

-- all up to a tick, which is not past what is settled, is consolidated, and the next tick is not or is past what is
-- settled
pub record IsConsolidatedUpto (net : Net) (p b settled a : ℕ) (v : View) : Type 0 where
  pub within : a ≤ settled
  pub each : (t : ℕ) → 1 ≤ t → t ≤ a → is_consolidated_by (keeps_horizon net p b) v.horizon v.wants t ≡ true
  pub stops : a < settled → is_consolidated_by (keeps_horizon net p b) v.horizon v.wants (suc a) ≡ false

-- behind the line of a cut: where the cut writes the log anew, the generation after it
abbrev pub reclaimed_lines : Net → ℕ → Log → List Report
reclaimed_lines net p log = if reclaims net.reclaim log.size log.generation
    then line.Reclaimed p (suc log.generation) ∷ [] else []

-- The host is woken
pub record HostWakes (net : Net) (p b now : ℕ) (v : View) (log : Log) (o : Outcome) : Type 0 where
  -- Where the log was silent for `quiet`, it is marked at now, and the silence up to now is new.
  pub silent : Known
  pub silent_is : HasKnown (silence_upto log.settled now) silent
  pub marked : Outcome
  pub marks : log.settled + net.quiet ≤ now → NewTicks net p b silent v (with_mark log now) marked
  pub stays : now < log.settled + net.quiet → marked ≡ unmoved v log
  -- The log is cut at the greatest settled tick up to which all is consolidated, where that is past the last cut. Where
  -- its text has `reclaim` bytes or more, that writes it anew.
  pub upto : ℕ
  pub upto_is : IsConsolidatedUpto net p b marked.log.settled upto marked.view
  pub cut : log.cut < upto → o.log ≡ cut_log_at net.reclaim marked.log upto
  pub no_cut : upto ≤ log.cut → o.log ≡ marked.log
  -- Expect of what is settled goes to the children, where anything is.
  pub expected : List Frame
  pub expected_is : 1 ≤ o.log.settled → SendsExpect net p b o.log.settled marked.view expected
  pub none_expected : o.log.settled ≡ 0 → expected ≡ []
  pub frames : o.frames ≡ marked.frames ++ expected
  -- The lines: the mark, the cut and behind it that the log was written anew, and what the subscribers are told.
  pub lines : o.lines ≡ (if nat_le (log.settled + net.quiet) now then line.Mark p now ∷ [] else [])
      ++ (if nat_lt log.cut upto then line.Cut p upto ∷ reclaimed_lines net p marked.log else []) ++ marked.lines
  pub view_same : o.view ≡ marked.view

-- A broker is woken
pub record Wakes (net : Net) (p b now : ℕ) (v : View) (log : Log) (o : Outcome) : Type 0 where
  pub host : is_host net p b ≡ true → HostWakes net p b now v log o
  pub below : is_host net p b ≡ false → Asks net p b now (wanted_by_age net p b now v) [] v log o

-- the event at its tick, and silence between what was settled and that tick
abbrev pub event_upto : ℕ → ℕ → Event → ℕ → K
event_upto settled tick e t = if nat_eq t tick then D e else (if nat_lt settled t && nat_lt t tick then S else Q)

-- A publish at the host. The tick of the next event is past what is settled, and not before now.
pub record Publishes (net : Net) (p b now number : ℕ) (e : Event) (v : View) (log : Log) (o : Outcome) : Type 0 where
  -- A number that was there is said to be there already; one past the next one is told the next; and ticks may be used
  -- up.
  pub already : number ≤ log.last → o ≡ says v log (line.Already p number)
  pub gap : suc log.last < number → o ≡ says v log (line.Gap p number (suc log.last))
  pub exhausted : number ≡ suc log.last → max_tick < max (suc log.settled) now → o
      ≡ says v log (line.Exhausted p number)
  -- Else the event is logged at its tick, and it and the silence before it are new.
  pub piece : Known
  pub piece_is : HasKnown (event_upto log.settled (max (suc log.settled) now) e) piece
  pub learned : Outcome
  pub learns : number ≡ suc log.last → max (suc log.settled) now ≤ max_tick
      → NewTicks net p b piece v (with_event log (max (suc log.settled) now) e) learned
  pub logged : number ≡ suc log.last → max (suc log.settled) now ≤ max_tick →
      o ≡ (record {
        view = learned.view;
        log = learned.log;
        lines = line.Logged p number (max (suc log.settled) now) ∷ learned.lines;
        frames = learned.frames;
      })

-- A join at the host: said already, past the last tick, or logged, held, and the silence up to its tick new
pub record TakesJoin (net : Net) (p b now s : ℕ) (v : View) (log : Log) (o : Outcome) : Type 0 where
  pub already : has_joined log.joins s ≡ true → o ≡ says v log (line.AlreadyJoined s p)
  pub exhausted : has_joined log.joins s ≡ false → max_tick < max (suc log.settled) now
      → o ≡ says v log (line.ExhaustedJoin s p)
  pub silent : Known
  pub silent_is : HasKnown (silence_upto log.settled (max (suc log.settled) now)) silent
  pub learned : Outcome
  pub learns : has_joined log.joins s ≡ false → max (suc log.settled) now ≤ max_tick
      → NewTicks net p b silent (view_joined log s now v) (with_join log (max (suc log.settled) now) s) learned
  pub logged : has_joined log.joins s ≡ false → max (suc log.settled) now ≤ max_tick →
      o ≡ (record {
        view = learned.view;
        log = learned.log;
        lines = line.Joined s p (max (suc log.settled) now) ∷ learned.lines;
        frames = learned.frames;
      })

-- A frame comes: knowledge is new ticks, curiosity is of the child that sent it
abbrev pub Comes : Net → ℕ → ℕ → ℕ → ℕ → Body → View → Log → Outcome → Type 0
Comes net p from to now (body.Knowledge runs js) v log o =
    NewTicks net p to runs (with_joins v (longer v.joins js)) log o
Comes net p from to now (body.Curiosity runs) v log o = ChildAsks net p to now from runs v log o
Comes net p from to now (body.Expect tick) v log o = Expects net p to now tick v log o

-- A frame that a broker may get, whatever its peers send: runs are canonical, and curiosity is that of a child.
abbrev pub MayCome : Net → ℕ → ℕ → ℕ → Body → Type 0
MayCome net p from to (body.Knowledge runs js) = AreRuns Q runs
MayCome net p from to (body.Curiosity runs) = AreRuns N runs × IsChild net p to from
MayCome net p from to (body.Expect tick) = Unit {0}

-- knowledge is dropped where its joins split from those that are held, or it clashes
abbrev pub is_dropped : View → Body → Bool
is_dropped v (body.Knowledge runs js) = drops v runs js
is_dropped v _ = false

-- The rules leave nothing open: of one view, one log and one moment, two outcomes by one rule are the same.
pub record RulesDetermine (net : Net) (p b : ℕ) : Type 0 where
  pub new_ticks : (piece : Known) (v : View) (log : Log) (o u : Outcome) → NewTicks net p b piece v log o
      → NewTicks net p b piece v log u → o ≡ u
  pub child_asks : (now c : ℕ) (piece : Wanted) (v : View) (log : Log) (o u : Outcome)
      → ChildAsks net p b now c piece v log o → ChildAsks net p b now c piece v log u → o ≡ u
  pub expects : (now tick : ℕ) (v : View) (log : Log) (o u : Outcome) → Expects net p b now tick v log o
      → Expects net p b now tick v log u → o ≡ u
  pub wakes : (now : ℕ) (v : View) (log : Log) (o u : Outcome) → Wakes net p b now v log o → Wakes net p b now v log u
      → o ≡ u
  pub publishes : (now number : ℕ) (e : Event) (v : View) (log : Log) (o u : Outcome)
      → Publishes net p b now number e v log o → Publishes net p b now number e v log u → o ≡ u
  pub joins : (now s : ℕ) (v : View) (log : Log) (o u : Outcome) → TakesJoin net p b now s v log o
      → TakesJoin net p b now s v log u → o ≡ u
