-- An honest journal makes an honest run: each offer that a plan puts into the journal is of a frame that the lines so far tell, or
-- of a note, so bytes that were offered to a broker, and are no note, have a number among these lines
use Rattle.std.proofs.Common.{◌≡◌, ◌⊎◌, inl, inr, arith, ℕ, suc, ◌<◌, ◌≤◌, Bool, true, false, ◌&&◌, ◌||◌, List, [], ◌∷◌, ◌++◌, map, length, drop, refl, sym, ap, ap₂, ◌∙◌, subst, Option, Some, None, append-nil, append_assoc}
use Rattle.std.specs.Prelude.{◌^◌, nat_eq, nat_lt, bytes_eq, if◌then◌else◌, Result, Ok, Err}
use Rattle.std.specs.List.{list_any, AllByRecursion}
use Rattle.std.proofs.lemmas.Bool.{cases_Bool, eqb-true, or_cases, or_left, or_right, true≢false}
use Rattle.std.proofs.lemmas.List.Folds.{list_any-append}
use Rattle.std.proofs.lemmas.Slice.Eq.{bytes_eq-Decides}
use Rattle.std.proofs.Math.Bool.{and-false}
use Rattle.gr_event.specs.declared.join.Split.{Split}
use Rattle.gr_event.specs.Joins.{first_split}
use Rattle.gr_frame.specs.declared.Body.{Body}
use Rattle.gr_frame.specs.declared.Body.TheVariants as body
use Rattle.gr_frame.specs.declared.Frame.{Frame}
use Rattle.gr_frame.specs.declared.fault.FrameFault.{FrameFault}
use Rattle.gr_frame.specs.declared.fault.FrameKind.TheVariants.{TooLong, BadMagic}
use Rattle.gr_frame.specs.Bytes.{frame_bytes}
use Rattle.gr_frame.specs.Gives.{fault}
use Rattle.gr_frame.specs.Decode.{field_at, byte_at, kind_at, fields_of, frame_decoded}
use Rattle.gr_frame.proofs.Fields.{bind_told, else_told, then_told, field_told}
use Rattle.gr_note.specs.declared.note.Note.{Note}
use Rattle.gr_note.specs.declared.note.Note.TheVariants.{Submit, Next, Spent}
use Rattle.gr_note.specs.Bytes.{begins_note, note_bytes}
use Rattle.gr_note.specs.Nodes.{client_node}
use Rattle.gr_out.specs.Entry.{Entry}
use Rattle.gr_out.specs.Entry as entry
use Rattle.gr_sched.specs.declared.step.Line.{Line}
use Rattle.gr_topo.specs.Topology.{TopologyView, host_of, IsSound}
use Rattle.gr_model.specs.declared.report.Report.{Report}
use Rattle.gr_model.specs.declared.report.Report.TheVariants as line
use Rattle.gr_model.specs.Net.{Net, numbers}
use Rattle.gr_model.specs.NetOf.{net_of}
use Rattle.gr_model.specs.Broker.{Log, Outcome, publish, joining, receive, wake, seen, taking, view_joined}
use Rattle.gr_model.specs.World.{World, Transition, view_of, log_of, unchanged, absorbed, in_turn, sent_line, sent_lines, sent_since, frames_past, deliver_frame, deliver_frame_by, publish_now_by, join_now_by, wake_for_by}
use Rattle.gr_model.specs.Opening.{over_logs}
use Rattle.gr_model.specs.Arrivals.{Arrival, datagram, quiet, Request, requests_of, left_after, fits_broker, joins_in, least_clash, clash_line, split_line, fault_number, takes, receives, takes_by, receives_by, served, served_from, served_from_by, served_by}
use Rattle.gr_model.specs.Headline.{is_sent, sent_number}
use Rattle.gr_model_theorems.specs.Served.{IsOfBytes, tells_bytes, number_of_bytes, IsHonestAt, IsHonest, IsHonestRun}
use Rattle.gr_model_theorems.specs.Spelled.{LateIn, NumbersIn}
use Rattle.gr_model_theorems.specs.Statements.{IsAskedRun}
use Rattle.gr_model_theorems.specs.Found.{AreReopened}
use Rattle.gr_model_theorems.specs.Forgets.{kept_logs}
use Rattle.gr_model_theorems.specs.Lanes.{IsServedOverLanes}
use Rattle.gr_model_calls.proofs.rules.Serves.{frames_past_all}
use Rattle.gr_model_theorems.proofs.headline.ReplyLines.{frame_told}
use Rattle.gr_node.specs.Plan.{Call, gets, publishes, joins, wakes, Act, binds, starts, arrives, calls, answers, drops, settles, closes, shows, is_ours, ours, called, arrival_acts, acts_from, closing, nodes, plan, act, entry_of, offers_of, reply_to, reply_entry, entries, all_entries}
use Rattle.gr_node.specs.Served.{Course, planned, is_offer_to, IsHonestEntry, IsHonestJournal}
use Rattle.gr_node.proofs.Opening.{all_entries_append, settled_entries}
use Rattle.gr_node.proofs.Planned.{arrival_is, passed_over, none_taken, ours_more, ours_same, begun_as}

-- What entries offer, lines tell

-- to each offer of what is no note there is a line of a frame that goes to the same broker in these bytes
pub record Told (es : List Entry) (ls : List Report) : Type 0 where
  pub tells : (b : ℕ) (bytes : List ℕ) → begins_note bytes ≡ false → list_any (is_offer_to b bytes) es ≡ true → list_any (tells_bytes b bytes) ls ≡ true

-- no entry is no offer
told_none : (ls : List Report) → Told [] ls
told_none ls = record { tells = λ b bytes plain e. absurd (true≢false (sym e)) }

-- some, and then more
told_on : (es fs : List Entry) (ls ms : List Report) → Told es ls → Told fs ms → Told (es ++ fs) (ls ++ ms)
told_on es fs ls ms t u = record { tells = on }
  where
    on : (b : ℕ) (bytes : List ℕ) → begins_note bytes ≡ false → list_any (is_offer_to b bytes) (es ++ fs) ≡ true → list_any (tells_bytes b bytes) (ls ++ ms) ≡ true
    on b bytes plain e = go (or_cases (list_any (is_offer_to b bytes) es) (list_any (is_offer_to b bytes) fs) (sym (list_any-append (is_offer_to b bytes) es fs) ∙ e))
      where
        before : Bool
        before = list_any (tells_bytes b bytes) ls

        after : Bool
        after = list_any (tells_bytes b bytes) ms

        go : (list_any (is_offer_to b bytes) es ≡ true) ⊎ (list_any (is_offer_to b bytes) fs ≡ true) → list_any (tells_bytes b bytes) (ls ++ ms) ≡ true
        go (inl h) = list_any-append (tells_bytes b bytes) ls ms ∙ or_left before after (t.tells b bytes plain h)
        go (inr h) = list_any-append (tells_bytes b bytes) ls ms ∙ or_right before after (u.tells b bytes plain h)

-- Frames

line_sent : (n : ℕ) (f : Frame) → is_sent (sent_line n f) ≡ true
unfolding sent_line
line_sent n f = go f.body
  where
    go : (y : Body) → is_sent (elim y [ body.Knowledge runs js ↦ line.SentKnow n f.head.from f.head.to f.head.publisher runs js | body.Curiosity runs ↦ line.SentWant n f.head.from f.head.to f.head.publisher runs | body.Expect tick ↦ line.SentExpect n f.head.from f.head.to f.head.publisher tick ]) ≡ true
    go (body.Knowledge runs js) = refl
    go (body.Curiosity runs) = refl
    go (body.Expect tick) = refl

-- a frame's line tells its bytes to its receiver, and nothing else
line_tells : (n b : ℕ) (bytes : List ℕ) (f : Frame) → tells_bytes b bytes (sent_line n f) ≡ (nat_eq f.head.to b && bytes_eq (frame_bytes f) bytes)
line_tells n b bytes f =
    ap₂ (λ (x y : Bool). x && y) (line_sent n f)
    (ap (λ (o : Option Frame). elim o [ Some g ↦ nat_eq g.head.to b && bytes_eq (frame_bytes g) bytes | None ↦ false ]) (frame_told n f))

-- the lines of frames tell their offers
frames_told : (n : ℕ) (fs : List Frame) → Told (offers_of fs) (sent_lines n fs)
frames_told n fs = record { tells = λ b bytes plain e. sym (same n b bytes fs) ∙ e }
  where
    same : (n b : ℕ) (bytes : List ℕ) (fs : List Frame) → list_any (is_offer_to b bytes) (offers_of fs) ≡ list_any (tells_bytes b bytes) (sent_lines n fs)
    same n b bytes [] = refl
    same n b bytes (f ∷ fs) = ap₂ (λ (x y : Bool). x || y) (sym (line_tells n b bytes f)) (same (suc n) b bytes fs)

-- Calls

-- the frames that were sent on the way to a world are told on the way
record Tells (w : World) (u : Transition) : Type 0 where
  sent : Told (offers_of (sent_since w u.world)) u.lines

-- where nothing was done
none_tells : (w : World) (ls : List Report) → Tells w (unchanged w ls)
none_tells w ls = record {
  sent = subst (λ (fs : List Frame). Told (offers_of fs) ls)
      (sym (ap (frames_past (length w.frames)) (sym (append-nil w.frames)) ∙ frames_past_all w.frames [])) (told_none ls);
}

-- where a broker's call was taken up
absorbed_tells : (w : World) (b p : ℕ) (o : Outcome) → Tells w (absorbed w b p o)
unfolding absorbed
absorbed_tells w b p o =
    let n : ℕ = suc (length w.frames) in
    record {
      sent = subst (λ (fs : List Frame). Told (offers_of fs) (o.lines ++ sent_lines n o.frames))
          (sym (frames_past_all w.frames o.frames))
          (told_on [] (offers_of o.frames) o.lines (sent_lines n o.frames) (told_none o.lines) (frames_told n o.frames));
    }

delivered_tells : (net : Net) (w : World) (f : Frame) → Tells w (deliver_frame net w f)
unfolding deliver_frame_by
delivered_tells net w f =
    absorbed_tells w f.head.to f.head.publisher (receive (seen net (taking (view_of w f.head.to f.head.publisher) f)) w.clock f (view_of w f.head.to f.head.publisher) (log_of w f.head.publisher))

taken_tells : (net : Net) (w : World) (b : ℕ) (f : Frame) → Tells w (takes net w b f)
unfolding takes_by
taken_tells net w b f = go (first_split 0 (view_of w b f.head.publisher).joins (joins_in f)) (least_clash (view_of w b f.head.publisher).know f)
  where
    go : (s : Option Split) (o : Option ℕ) → Tells w (elim s [
      | Some x ↦ unchanged w (split_line b x ∷ [])
      | None ↦ elim o [ Some t ↦ unchanged w (clash_line b (view_of w b f.head.publisher).know f t ∷ []) | None ↦ deliver_frame net w f ]
    ])
    go (Some x) o = none_tells w (split_line b x ∷ [])
    go None None = delivered_tells net w f
    go None (Some t) = none_tells w (clash_line b (view_of w b f.head.publisher).know f t ∷ [])

received_tells : (net : Net) (w : World) (b : ℕ) (r : Result Frame FrameFault) → Tells w (receives net w b r)
unfolding receives_by
received_tells net w b (Err fault) = none_tells w (line.DroppedNotFrame b (fault_number fault.kind) fault.at ∷ [])
received_tells net w b (Ok f) = go (fits_broker net b f)
  where
    stray : List Report
    stray = line.DroppedStray b f.head.from f.head.to f.head.publisher ∷ []

    go : (q : Bool) → Tells w (elim q [ false ↦ unchanged w stray | true ↦ takes net w b f ])
    go true = taken_tells net w b f
    go false = none_tells w stray

called_tells : (net : Net) (w : World) (c : Call) → Tells w (called net w c)
unfolding publish_now_by join_now_by wake_for_by
called_tells net w (gets b r) = received_tells net w b r
called_tells net w (publishes x) =
    let p : ℕ = x.0 in
    absorbed_tells w (net.host p) p (publish (seen net (view_of w (net.host p) p)) p (net.host p) w.clock x.1.0 x.1.1 (view_of w (net.host p) p) (log_of w p))
called_tells net w (joins s p) =
    let b : ℕ = net.host p in
    absorbed_tells w b p (joining (seen net (view_joined (log_of w p) s w.clock (view_of w b p))) p b w.clock s (view_of w b p) (log_of w p))
called_tells net w (wakes b p) = absorbed_tells w b p (wake (seen net (view_of w b p)) p b w.clock (view_of w b p) (log_of w p))

-- Acts

no_offer : (a : Arrival) (b : ℕ) (bytes : List ℕ) → is_offer_to b bytes (entry_of a) ≡ false
no_offer (datagram c sent moment) b bytes = refl
no_offer (quiet moment) b bytes = refl

-- an entry that is no offer of what is no note
told_one : (e : Entry) (ls : List Report) → ((b : ℕ) (bytes : List ℕ) → begins_note bytes ≡ false → is_offer_to b bytes e ≡ false) → Told (e ∷ []) ls
told_one e ls n = record { tells = λ b bytes plain h. absurd (true≢false (sym h ∙ ap (λ (x : Bool). x || false) (n b bytes plain))) }

-- a note begins as one
note_begins : (n : Note) → begins_note (note_bytes n) ≡ true
unfolding note_bytes
note_begins (Submit p k e) = refl
note_begins (Next p k) = refl
note_begins (Spent p) = refl

-- so an offer of a note is none of what is no note
no_reply : (from to : ℕ) (n : Note) (b : ℕ) (bytes : List ℕ) → begins_note bytes ≡ false → is_offer_to b bytes (entry.offered from to (note_bytes n)) ≡ false
no_reply from to n b bytes plain = go (cases_Bool (bytes_eq (note_bytes n) bytes))
  where
    go : (bytes_eq (note_bytes n) bytes ≡ true) ⊎ (bytes_eq (note_bytes n) bytes ≡ false) → (nat_eq to b && bytes_eq (note_bytes n) bytes) ≡ false
    go (inl e) =
        let same : note_bytes n ≡ bytes = (bytes_eq-Decides (note_bytes n) bytes).0 e in
        absurd (true≢false (sym (note_begins n) ∙ (ap begins_note same ∙ plain)))
    go (inr e) = ap (λ (x : Bool). nat_eq to b && x) e ∙ and-false (nat_eq to b)

act_told : (t : TopologyView) (hosted : List ℕ) (w : World) (a : Act) → Told (entries t hosted w a) (act (net_of t) hosted w a).lines
unfolding entries act
act_told t hosted w (binds b) = record { tells = λ c bytes plain e. absurd (true≢false (sym e)) }
act_told t hosted w (starts b) = told_none _
act_told t hosted w (arrives a) = told_one (entry_of a) [] (λ b bytes plain. no_offer a b bytes)
act_told t hosted w (calls c) = (called_tells (net_of t) w c).sent
act_told t hosted w (answers x) = let l : Log = log_of w x.0 in
    told_one (reply_entry t l.last x) [] (no_reply (host_of t x.0) (client_node x.0) (reply_to l.last x))
act_told t hosted w (drops l) = told_none (l ∷ [])
act_told t hosted w settles = told_none []
act_told t hosted w closes = record { tells = λ c bytes plain e. absurd (true≢false (sym e)) }
act_told t hosted w shows = told_none _

-- what acts put into the journal, they tell
pub acts_told : (t : TopologyView) (hosted : List ℕ) (acts : List Act) (w : World) → Told (all_entries t hosted w acts) (in_turn (act (net_of t) hosted) acts w).lines
unfolding all_entries
acts_told t hosted [] w = told_none []
acts_told t hosted (a ∷ acts) w =
    let u : Transition = act (net_of t) hosted w a in
    told_on (entries t hosted w a) (all_entries t hosted u.world acts) u.lines (in_turn (act (net_of t) hosted) acts u.world).lines
    (act_told t hosted w a) (acts_told t hosted acts u.world)

-- The journal

-- the later part of an honest journal
honest_past : (before es fs : List Entry) → IsHonestJournal before (es ++ fs) → IsHonestJournal (before ++ es) fs
honest_past before [] fs h = subst (λ (z : List Entry). IsHonestJournal z fs) (sym (append-nil before)) h
honest_past before (e ∷ es) fs h = subst (λ (z : List Entry). IsHonestJournal z fs) (append_assoc before (e ∷ []) es) (honest_past (before ++ e ∷ []) es fs h.1)

-- a line with these bytes has a number
numbered : (b : ℕ) (bytes : List ℕ) (ls : List Report) → list_any (tells_bytes b bytes) ls ≡ true → (k : ℕ) × (number_of_bytes b bytes ls ≡ Some k)
numbered b bytes [] e = absurd (true≢false (sym e))
numbered b bytes (l ∷ ls) e =
    elim (cases_Bool (tells_bytes b bytes l)) [
      | inl h ↦ (sent_number l, ap (λ (c : Bool). if c then Some (sent_number l) else number_of_bytes b bytes ls) h)
      | inr h ↦
          let x = numbered b bytes ls (sym (ap (λ (c : Bool). c || list_any (tells_bytes b bytes) ls) h) ∙ e) in
          (x.0, ap (λ (c : Bool). if c then Some (sent_number l) else number_of_bytes b bytes ls) h ∙ x.1)
    ]

-- bytes that decode to a frame begin otherwise than a note
letters_told : (bytes : List ℕ) (f : Frame) → frame_decoded bytes ≡ Ok f → bytes ≡ 71 ∷ (75 ∷ drop 2 bytes)
unfolding frame_decoded fields_of kind_at
letters_told bytes f h =
    let all = else_told (nat_lt 16384 (length bytes)) (fault TooLong 16384) (fields_of bytes) f h in
    let kind = bind_told (kind_at bytes) _ f all.1 in
    let field = bind_told (field_at bytes 0 2) _ kind.0 kind.1 in
    let letters = field.0 in
    let version = bind_told (if bytes_eq letters (71 ∷ (75 ∷ [])) then byte_at bytes 2 else Err (fault BadMagic 0)) _ kind.0 field.2 in
    let test = then_told (bytes_eq letters (71 ∷ (75 ∷ []))) (fault BadMagic 0) (byte_at bytes 2) version.0 version.1 in
    let spelled : letters ≡ 71 ∷ (75 ∷ []) = (bytes_eq-Decides letters (71 ∷ (75 ∷ []))).0 test.0 in
    (field_told bytes 0 2 letters field.1).0 ∙ ap (λ l. l ++ drop 2 bytes) spelled

-- so what begins as a note is no frame
no_frame : (bytes : List ℕ) → begins_note bytes ≡ true → (f : FrameFault) × (frame_decoded bytes ≡ Err f)
no_frame bytes noted = go (frame_decoded bytes) refl
  where
    go : (r : Result Frame FrameFault) → frame_decoded bytes ≡ r → (f : FrameFault) × (frame_decoded bytes ≡ Err f)
    go (Err f) e = (f, e)
    go (Ok f) e = absurd (true≢false (sym noted ∙ ap begins_note (letters_told bytes f e)))

-- an entry that is honest is of an honest arrival
arrival_honest : (es : List Entry) (ls : List Report) (a : Arrival) → Told es ls → IsHonestEntry es (entry_of a) → IsHonestAt ls a
arrival_honest es ls (datagram b bytes moment) t (inl h) = inl h
arrival_honest es ls (datagram b bytes moment) t (inr h) = elim (cases_Bool (begins_note bytes)) [
  | inl noted ↦ inl (no_frame bytes noted)
  | inr plain ↦ inr (numbered b bytes ls (t.tells b bytes plain h))
]
arrival_honest es ls (quiet moment) t h = tt

-- one arrival, where those after it are honest
arrival_more : (net : Net) (hosted : List ℕ) (left : List Request) (a : Arrival) (came : List Arrival) (w : World) (es : List Entry) (ls : List Report)
    → Told es ls → IsHonestEntry es (entry_of a)
    → (let s : Transition = in_turn (act net hosted) (arrival_acts net hosted left a) w in
    IsHonest (ls ++ s.lines) (ours hosted came) (served_from net hosted s.world (left_after left a) (ours hosted came)))
    → IsHonest ls (ours hosted (a ∷ came)) (served_from net hosted w left (ours hosted (a ∷ came)))
unfolding served_from_by
arrival_more net hosted left a came w es ls told h rest = go (cases_Bool (is_ours hosted a))
  where
    here : List Arrival → Type 0
    here xs = IsHonest ls xs (served_from net hosted w left xs)

    later : List Request → Transition → Type 0
    later ps u = IsHonest (ls ++ u.lines) (ours hosted came) (served_from net hosted u.world ps (ours hosted came))

    go : (is_ours hosted a ≡ true) ⊎ (is_ours hosted a ≡ false) → here (ours hosted (a ∷ came))
    go (inl e) =
        subst here (sym (ours_more hosted a came e))
        (arrival_honest es ls a told h, subst (later (left_after left a)) (arrival_is net hosted left a w e) rest)
    go (inr e) =
        let passed : later (left_after left a) (unchanged w []) = subst (later (left_after left a)) (passed_over net hosted left a w e) rest in
        let same : later left (unchanged w []) = subst (λ (ps : List Request). later ps (unchanged w [])) (none_taken hosted left a e) passed in
        subst here (sym (ours_same hosted a came e))
        (subst (λ (z : List Report). IsHonest z (ours hosted came) (served_from net hosted w left (ours hosted came))) (append-nil ls) same)

-- so are all that came at the hosted brokers
arrivals_honest : (t : TopologyView) (hosted : List ℕ) (left : List Request) (came : List Arrival) (more : List Act) (w : World) (es : List Entry) (ls : List Report)
    → Told es ls → IsHonestJournal es (all_entries t hosted w (acts_from (net_of t) hosted left came ++ more))
    → IsHonest ls (ours hosted came) (served_from (net_of t) hosted w left (ours hosted came))
unfolding acts_from all_entries entries
arrivals_honest t hosted left [] more w es ls told h = tt
arrivals_honest t hosted left (a ∷ came) more w es ls told h =
    let net : Net = net_of t in
    let first : List Act = arrival_acts net hosted left a in
    let later : List Act = acts_from net hosted (left_after left a) came in
    let s : Transition = in_turn (act net hosted) first w in
    let here : List Entry = all_entries t hosted w first in
    let after : List Entry = all_entries t hosted s.world (later ++ more) in
    let parts : IsHonestJournal es (here ++ after) =
    subst (IsHonestJournal es) (ap (all_entries t hosted w) (append_assoc first later more) ∙ all_entries_append t hosted w first (later ++ more)) h in
    arrival_more net hosted left a came w es ls told parts.0
    (arrivals_honest t hosted (left_after left a) came more s.world (es ++ here) (ls ++ s.lines)
    (told_on es here ls s.lines told (acts_told t hosted first w)) (honest_past es here after parts))

-- The run of a plan whose entries are honest is honest
pub honest_run : (t : TopologyView) (hosted : List ℕ) (steps : List Line) (came : List Arrival) (closed : Bool) (logs : List Log)
    → IsHonestJournal [] (all_entries t hosted (over_logs (net_of t) logs) (plan t hosted steps came closed))
    → IsHonestRun (ours hosted came) (served (net_of t) hosted logs steps (ours hosted came))
unfolding plan served_by
honest_run t hosted steps came closed logs h =
    let net : Net = net_of t in
    let w : World = over_logs net logs in
    let left : List Request = requests_of net hosted steps in
    let bound : List Act = map binds (nodes t hosted) in
    let begun : List Act = bound ++ map starts hosted in
    let acts : List Act = acts_from net hosted left came in
    let more : List Act = closing closed ++ shows ∷ [] in
    let s : Transition = in_turn (act net hosted) begun w in
    let before : List Entry = all_entries t hosted w begun in
    let after : List Entry = all_entries t hosted s.world (acts ++ more) in
    let is : plan t hosted steps came closed ≡ begun ++ (settles ∷ (acts ++ more)) =
    ap (λ (z : List Act). bound ++ (map starts hosted ++ (settles ∷ z))) (append_assoc acts (closing closed) (shows ∷ []))
    ∙ sym (append_assoc bound (map starts hosted) (settles ∷ (acts ++ more))) in
    let parts : IsHonestJournal [] (before ++ after) =
    subst (IsHonestJournal []) (ap (all_entries t hosted w) is ∙ (all_entries_append t hosted w begun (settles ∷ (acts ++ more))
    ∙ ap (λ (es : List Entry). before ++ es) (settled_entries t hosted s.world (acts ++ more)))) h in
    subst (λ (u : Transition). IsHonest u.lines (ours hosted came) (served_from net hosted u.world left (ours hosted came)))
    (begun_as net hosted (nodes t hosted) logs)
    (arrivals_honest t hosted left came more s.world before s.lines (acts_told t hosted begun w) (honest_past [] before after parts))

-- What came at the hosted brokers is bytes, where all that came is
pub bytes_ours : (hosted : List ℕ) (came : List Arrival) → AllByRecursion IsOfBytes came → AllByRecursion IsOfBytes (ours hosted came)
bytes_ours hosted [] h = tt
bytes_ours hosted (a ∷ came) h = elim (cases_Bool (is_ours hosted a)) [
  | inl e ↦ subst (AllByRecursion IsOfBytes) (sym (ours_more hosted a came e)) (h.0, bytes_ours hosted came h.1)
  | inr e ↦ subst (AllByRecursion IsOfBytes) (sym (ours_same hosted a came e)) (bytes_ours hosted came h.1)
]

-- Few subscribers of a topology are late, and their numbers have 16 bits
pub late_in : (t : TopologyView) → IsSound t → LateIn (net_of t)
late_in t sound = record {
  few = omega (arith, sound.limits.late);
  numbers = λ s late. let below = all_at t.late s sound.late_in late in omega (arith, below, sound.limits.subscribers);
}
  where
    all_at : (ls : List ℕ) (s : ℕ) → AllByRecursion (λ x. x < length t.subscribers) ls → list_any (λ x. nat_eq x s) ls ≡ true → s < length t.subscribers
    all_at [] s a e = absurd (true≢false (sym e))
    all_at (x ∷ ls) s a e = elim (or_cases (nat_eq x s) (list_any (λ y. nat_eq y s) ls) e) [
      | inl same ↦ subst (λ k. k < length t.subscribers) (eqb-true x s same) a.0
      | inr later ↦ all_at ls s a.1 later
    ]

-- So a run of all brokers is one that the theorems speak of
pub is_served : (t : TopologyView) (steps : List Line) (c : Course) → IsAskedRun (net_of t) steps → NumbersIn steps → length t.brokers ≤ 2 ^ 16 → length t.publishers ≤ 2 ^ 16 → LateIn (net_of t) → AreReopened (net_of t) (kept_logs c.logs) → AllByRecursion IsOfBytes c.came
    → IsHonestJournal [] (planned t (numbers (length t.brokers)) steps c) → IsServedOverLanes (net_of t) c.logs steps (ours (numbers (length t.brokers)) c.came)
is_served t steps c asked numbers_in brokers publishers late found bytes honest =
    let all : List ℕ = numbers (length t.brokers) in
    record {
      over = record { asked = asked; found = found };
      brokers = brokers;
      publishers = publishers;
      late = late;
      numbers_in = numbers_in;
      bytes = bytes_ours all c.came bytes;
      honest = honest_run t all steps c.came c.closed c.logs honest;
    }
