-- What comes to a process leads to the same in two worlds in which its brokers see the same, and to nothing at others
use Rattle.std.proofs.Common.{◌≡◌, ℕ, suc, Bool, true, false, ◌&&◌, ◌||◌, List, [], ◌∷◌, ◌++◌, Option, Some, None, Result, Ok, Err, length, get_or, refl, sym, ap, ◌∙◌, subst}
use Rattle.std.specs.Prelude.{nat_eq, nat_lt, if◌then◌else◌, filter}
use Rattle.std.specs.List.{AllByRecursion}
use Rattle.std.proofs.lemmas.Bool.{and_parts, eqb-true, eq-eqb}
use Rattle.gr_event.specs.declared.event.Event.{Event}
use Rattle.gr_event.specs.Joins.{first_split}
use Rattle.gr_event.specs.declared.join.Split.{Split}
use Rattle.gr_frame.specs.declared.Frame.{Frame}
use Rattle.gr_frame.specs.declared.fault.FrameFault.{FrameFault}
use Rattle.gr_frame.specs.Decode.{frame_decoded}
use Rattle.gr_note.specs.declared.note.Note.{Note}
use Rattle.gr_note.specs.declared.note.Note.TheVariants.{Submit, Next, Spent}
use Rattle.gr_note.specs.declared.fault.NoteFault.{NoteFault}
use Rattle.gr_note.specs.Bytes.{begins_note}
use Rattle.gr_note.specs.Decode.{note_decoded}
use Rattle.gr_note.specs.Fault as note
use Rattle.gr_sched.specs.declared.step.Line.{Line}
use Rattle.gr_sched.specs.declared.step.Step.{Step}
use Rattle.gr_sched.specs.declared.step.Step.TheVariants as step
use Rattle.gr_model.specs.declared.report.Report.TheVariants as line
use Rattle.gr_model.specs.Net.{Net, numbers}
use Rattle.gr_model.specs.Broker.{View, seen, taking, wake, receive, publish, joining, view_joined}
use Rattle.gr_model.specs.World.{World, Transition, view_of, unchanged, followed_by, in_turn, wake_for, wake_for_by, wake_all, wake_all_by, deliver_frame, deliver_frame_by, publish_now, publish_now_by, join_now, join_now_by, blank_view, sent_lines}
use Rattle.gr_model.specs.Headline.{is_sent, sent_count}
use Rattle.gr_model.specs.Arrivals.{Arrival, datagram, quiet, Publish, Request, asks_publish, asks_join, is_hosted, is_scheduled, requests_in, requests_of, left_after, at_moment, fits_broker, joins_in, least_clash, clash_line, split_line, takes, takes_by, receives, receives_by, submitted_in, notes, notes_by, reads, answered_first, quieted, quieted_by, comes, comes_by, fault_number, publisher_of}
use Rattle.gr_journal.specs.Lines.{is_among}
use Rattle.gr_audit_theorems.specs.Numbered.{numbered_on}
use Rattle.gr_audit_theorems.proofs.Beside.{Beside, beside_itself, beside_next, called, IsSide, side_says, side_seq, side_called, called_apart}
use Rattle.gr_audit_theorems.proofs.Calls.{wake_is_call, receive_is_call, publish_is_call, join_is_call}

-- What is asked of a process is at its brokers

abbrev pub RequestAt : Net → List ℕ → Request → Type 0
RequestAt net hosted (asks_publish p number e) = is_hosted net hosted p ≡ true
RequestAt net hosted (asks_join s p) = is_hosted net hosted p ≡ true

abbrev pub RequestsAt : Net → List ℕ → List Request → Type 0
RequestsAt net hosted left = AllByRecursion (RequestAt net hosted) left

abbrev pub ArrivalAt : List ℕ → Arrival → Type 0
ArrivalAt hosted (datagram b bytes moment) = is_among hosted b ≡ true
ArrivalAt hosted (quiet moment) = Unit {0}

-- no publisher has a client
abbrev pub Unheard : Net → Type 0
Unheard net = (p : ℕ) → net.client p ≡ false

-- one list of brokers has none of the other
abbrev pub AreApart : List ℕ → List ℕ → Type 0
AreApart hosted others = (b : ℕ) → is_among hosted b ≡ true → is_among others b ≡ false

all_append : (net : Net) (hosted : List ℕ) (xs ys : List Request) → RequestsAt net hosted xs → RequestsAt net hosted ys → RequestsAt net hosted (xs ++ ys)
all_append net hosted [] ys a b = b
all_append net hosted (x ∷ xs) ys a b = (a.0, all_append net hosted xs ys a.1 b)

pub requests_at : (net : Net) (hosted : List ℕ) (steps : List Line) → RequestsAt net hosted (requests_of net hosted steps)
requests_at net hosted [] = tt
requests_at net hosted (l ∷ steps) = all_append net hosted (requests_in net hosted l) (requests_of net hosted steps) (one l.step) (requests_at net hosted steps)
  where
    published : (p number : ℕ) (e : Event) (c : Bool) → is_scheduled net hosted p ≡ c → RequestsAt net hosted (if c then asks_publish p number e ∷ [] else [])
    published p number e true h = ((and_parts (is_hosted net hosted p) _ h).0, tt)
    published p number e false h = tt

    joined : (s p : ℕ) (c : Bool) → is_hosted net hosted p ≡ c → RequestsAt net hosted (if c then asks_join s p ∷ [] else [])
    joined s p true h = (h, tt)
    joined s p false h = tt

    one : (x : Step) → RequestsAt net hosted (elim x [
      | step.Publish p number stop e ↦ if is_scheduled net hosted p then asks_publish p number e ∷ [] else []
      | step.Join s p ↦ if is_hosted net hosted p then asks_join s p ∷ [] else []
      | _ ↦ []
    ])
    one (step.Publish p number stop e) = published p number e (is_scheduled net hosted p) refl
    one (step.Join s p) = joined s p (is_hosted net hosted p) refl
    one x = tt

pub left_at : (net : Net) (hosted : List ℕ) (left : List Request) (a : Arrival) → RequestsAt net hosted left → RequestsAt net hosted (left_after left a)
left_at net hosted left (datagram b bytes moment) h = h
left_at net hosted [] (quiet moment) h = tt
left_at net hosted (x ∷ left) (quiet moment) h = h.1

-- a list of all its own
pub all_of : (P : ℕ → Type 0) (xs : List ℕ) → ((b : ℕ) → is_among xs b ≡ true → P b) → AllByRecursion P xs
all_of P [] h = tt
all_of P (x ∷ xs) h = (h x (ap (λ c. c || is_among xs x) (eq-eqb x x refl)), all_of P xs (λ b m. h b (more (nat_eq x b) (is_among xs b) m)))
  where
    more : (c d : Bool) → d ≡ true → (c || d) ≡ true
    more true d e = refl
    more false d e = e

-- no note submits anything
pub submits_none : (net : Net) (b : ℕ) (n : Note) → Unheard net → submitted_in net b n ≡ None
submits_none net b (Submit p number event) h = go (nat_lt p net.publishers) (net.client p) (h p)
  where
    go : (c d : Bool) → d ≡ false → ◌≡◌ {A = Option Publish} (if c && (d && nat_eq (net.host p) b) then Some (p, (number, event)) else None) None
    go true true e = absurd (cc)
    go true false e = refl
    go false d e = refl
submits_none net b (Next p next) h = refl
submits_none net b (Spent p) h = refl

fits_to : (net : Net) (b : ℕ) (f : Frame) → fits_broker net b f ≡ true → f.head.to ≡ b
fits_to net b f h = eqb-true f.head.to b (and_parts (nat_eq f.head.to b) _ (and_parts (nat_eq f.head.to b && nat_lt f.head.publisher net.publishers) _ (and_parts _ _ h).0).0).0

-- At the brokers of a process

module _ (net : Net) (hosted : List ℕ) where
  side_in_turn : {X : Type 0} (P : X → Type 0) (f : World → X → Transition) → ((w u : World) (x : X) → P x → Beside net hosted w u → w.clock ≡ u.clock → IsSide net hosted w u (f w x) (f u x))
      → (xs : List X) (w u : World) → AllByRecursion P xs → Beside net hosted w u → w.clock ≡ u.clock → IsSide net hosted w u (in_turn f xs w) (in_turn f xs u)
  side_in_turn P f each [] w u all beside clock = side_says net hosted w u [] beside refl
  side_in_turn P f each (x ∷ xs) w u all beside clock =
      let a = each w u x all.0 beside clock in
      side_seq net hosted w u (f w x) (f u x) (in_turn f xs) (in_turn f xs) a (side_in_turn P f each xs (f w x).world (f u x).world all.1 a.beside (a.clock ∙ (clock ∙ sym a.other_clock)))

  side_wake : (w u : World) (b p : ℕ) → is_among hosted b ≡ true → Beside net hosted w u → w.clock ≡ u.clock → IsSide net hosted w u (wake_for net w b p) (wake_for net u b p)
  unfolding wake_for_by
  side_wake w u b p among beside clock =
      subst (λ n. IsSide net hosted w u (called w b p (λ v log. wake (seen net v) p b w.clock v log)) (called u b p (λ v log. wake (seen net v) p b n v log))) clock
      (side_called net hosted w u b p (λ v log. wake (seen net v) p b w.clock v log) (wake_is_call net p b w.clock) among beside)

  each_number : (n : ℕ) → AllByRecursion (λ (p : ℕ). Unit {0}) (numbers n)
  each_number n = all_of (λ p. Unit {0}) (numbers n) (λ p m. tt)

  side_wake_all : (w u : World) (b : ℕ) → is_among hosted b ≡ true → Beside net hosted w u → w.clock ≡ u.clock → IsSide net hosted w u (wake_all net w b) (wake_all net u b)
  unfolding wake_all_by
  side_wake_all w u b among beside clock =
      side_in_turn (λ p. Unit {0}) (λ x p. wake_for net x b p) (λ x y p t side c. side_wake x y b p among side c) (numbers net.publishers) w u (each_number net.publishers) beside clock

  side_publish : (w u : World) (p number : ℕ) (e : Event) → is_hosted net hosted p ≡ true → Beside net hosted w u → w.clock ≡ u.clock → IsSide net hosted w u (publish_now net w p number e) (publish_now net u p number e)
  unfolding publish_now_by
  side_publish w u p number e among beside clock =
      subst (λ n. IsSide net hosted w u (called w (net.host p) p (λ v log. publish (seen net v) p (net.host p) w.clock number e v log)) (called u (net.host p) p (λ v log. publish (seen net v) p (net.host p) n number e v log))) clock
      (side_called net hosted w u (net.host p) p (λ v log. publish (seen net v) p (net.host p) w.clock number e v log) (publish_is_call net p w.clock number e) among beside)

  side_join : (w u : World) (s p : ℕ) → is_hosted net hosted p ≡ true → Beside net hosted w u → w.clock ≡ u.clock → IsSide net hosted w u (join_now net w s p) (join_now net u s p)
  unfolding join_now_by
  side_join w u s p among beside clock =
      subst (λ n. IsSide net hosted w u (called w (net.host p) p (λ v log. joining (seen net (view_joined log s w.clock v)) p (net.host p) w.clock s v log)) (called u (net.host p) p (λ v log. joining (seen net (view_joined log s n v)) p (net.host p) n s v log))) clock
      (side_called net hosted w u (net.host p) p (λ v log. joining (seen net (view_joined log s w.clock v)) p (net.host p) w.clock s v log) (join_is_call net p w.clock s) among beside)

  side_deliver : (w u : World) (x : Frame) → is_among hosted x.head.to ≡ true → Beside net hosted w u → w.clock ≡ u.clock → IsSide net hosted w u (deliver_frame net w x) (deliver_frame net u x)
  unfolding deliver_frame_by
  side_deliver w u x among beside clock =
      subst (λ n. IsSide net hosted w u (called w x.head.to x.head.publisher (λ v log. receive (seen net (taking v x)) w.clock x v log)) (called u x.head.to x.head.publisher (λ v log. receive (seen net (taking v x)) n x v log))) clock
      (side_called net hosted w u x.head.to x.head.publisher (λ v log. receive (seen net (taking v x)) w.clock x v log) (receive_is_call net w.clock x) among beside)

  -- what is done with a frame that fits, by what is kept for its publisher
  abbrev taken_at : View → World → ℕ → Frame → Transition
  taken_at v w b f = elim (first_split 0 v.joins (joins_in f)) [
    | Some x ↦ unchanged w (split_line b x ∷ [])
    | None ↦ elim (least_clash v.know f) [
      | Some t ↦ unchanged w (clash_line b v.know f t ∷ [])
      | None ↦ deliver_frame net w f
    ]
  ]

  side_takes : (w u : World) (b : ℕ) (f : Frame) → f.head.to ≡ b → is_among hosted b ≡ true → Beside net hosted w u → w.clock ≡ u.clock → IsSide net hosted w u (takes net w b f) (takes net u b f)
  unfolding takes_by
  side_takes w u b f to among beside clock =
      subst (λ (z : View). IsSide net hosted w u (taken_at (view_of w b f.head.publisher) w b f) (taken_at z u b f)) (ap (λ (r : List View). get_or r f.head.publisher blank_view) (beside.rows b among))
      (go (view_of w b f.head.publisher) (first_split 0 (view_of w b f.head.publisher).joins (joins_in f)) (least_clash (view_of w b f.head.publisher).know f))
    where
      clashing : (v : View) (c : Option ℕ) → IsSide net hosted w u (elim c [ Some t ↦ unchanged w (clash_line b v.know f t ∷ []) | None ↦ deliver_frame net w f ]) (elim c [ Some t ↦ unchanged u (clash_line b v.know f t ∷ []) | None ↦ deliver_frame net u f ])
      clashing v (Some t) = side_says net hosted w u (clash_line b v.know f t ∷ []) beside refl
      clashing v None = side_deliver w u f (subst (λ z. is_among hosted z ≡ true) (sym to) among) beside clock

      go : (v : View) (o : Option Split) (c : Option ℕ) → IsSide net hosted w u
          (elim o [ Some x ↦ unchanged w (split_line b x ∷ []) | None ↦ elim c [ Some t ↦ unchanged w (clash_line b v.know f t ∷ []) | None ↦ deliver_frame net w f ] ])
          (elim o [ Some x ↦ unchanged u (split_line b x ∷ []) | None ↦ elim c [ Some t ↦ unchanged u (clash_line b v.know f t ∷ []) | None ↦ deliver_frame net u f ] ])
      go v (Some x) c = side_says net hosted w u (split_line b x ∷ []) beside refl
      go v None c = clashing v c

  side_receives : (w u : World) (b : ℕ) (r : Result Frame FrameFault) → is_among hosted b ≡ true → Beside net hosted w u → w.clock ≡ u.clock → IsSide net hosted w u (receives net w b r) (receives net u b r)
  unfolding receives_by
  side_receives w u b (Err fault) among beside clock = side_says net hosted w u (line.DroppedNotFrame b (fault_number fault.kind) fault.at ∷ []) beside refl
  side_receives w u b (Ok f) among beside clock = go (fits_broker net b f) refl
    where
      go : (q : Bool) → fits_broker net b f ≡ q → IsSide net hosted w u
          (elim q [ false ↦ unchanged w (line.DroppedStray b f.head.from f.head.to f.head.publisher ∷ []) | true ↦ takes net w b f ])
          (elim q [ false ↦ unchanged u (line.DroppedStray b f.head.from f.head.to f.head.publisher ∷ []) | true ↦ takes net u b f ])
      go true h = side_takes w u b f (fits_to net b f h) among beside clock
      go false h = side_says net hosted w u (line.DroppedStray b f.head.from f.head.to f.head.publisher ∷ []) beside refl

  side_notes : (w u : World) (b : ℕ) (r : Result Note NoteFault) → Unheard net → Beside net hosted w u → IsSide net hosted w u (notes net w b r) (notes net u b r)
  unfolding notes_by
  side_notes w u b (Err fault) unheard beside = side_says net hosted w u (line.DroppedBadNote b (note.fault_number fault.kind) fault.at ∷ []) beside refl
  side_notes w u b (Ok n) unheard beside = go (submitted_in net b n) (submits_none net b n unheard)
    where
      go : (o : Option Publish) → o ≡ None → IsSide net hosted w u
          (elim o [ Some x ↦ publish_now net w x.0 x.1.0 x.1.1 | None ↦ unchanged w (line.DroppedStrayNote b (publisher_of n) ∷ []) ])
          (elim o [ Some x ↦ publish_now net u x.0 x.1.0 x.1.1 | None ↦ unchanged u (line.DroppedStrayNote b (publisher_of n) ∷ []) ])
      go (Some x) e = absurd (cc)
      go None e = side_says net hosted w u (line.DroppedStrayNote b (publisher_of n) ∷ []) beside refl

  side_reads : (w u : World) (b : ℕ) (bytes : List ℕ) → Unheard net → is_among hosted b ≡ true → Beside net hosted w u → w.clock ≡ u.clock → IsSide net hosted w u (reads net w b bytes) (reads net u b bytes)
  side_reads w u b bytes unheard among beside clock = go (begins_note bytes)
    where
      go : (q : Bool) → IsSide net hosted w u (elim q [ true ↦ notes net w b (note_decoded bytes) | false ↦ receives net w b (frame_decoded bytes) ]) (elim q [ true ↦ notes net u b (note_decoded bytes) | false ↦ receives net u b (frame_decoded bytes) ])
      go true = side_notes w u b (note_decoded bytes) unheard beside
      go false = side_receives w u b (frame_decoded bytes) among beside clock

  side_first : (w u : World) (left : List Request) → RequestsAt net hosted left → Beside net hosted w u → w.clock ≡ u.clock → IsSide net hosted w u (answered_first net w left) (answered_first net u left)
  side_first w u [] at beside clock = side_says net hosted w u [] beside refl
  side_first w u (asks_publish p number e ∷ left) at beside clock = side_publish w u p number e at.0 beside clock
  side_first w u (asks_join s p ∷ left) at beside clock = side_join w u s p at.0 beside clock

  side_quieted : (w u : World) (left : List Request) → RequestsAt net hosted left → Beside net hosted w u → w.clock ≡ u.clock → IsSide net hosted w u (quieted net hosted w left) (quieted net hosted u left)
  unfolding quieted_by
  side_quieted w u left at beside clock =
      let a = side_first w u left at beside clock in
      side_seq net hosted w u (answered_first net w left) (answered_first net u left) (in_turn (wake_all net) hosted) (in_turn (wake_all net) hosted) a
      (side_in_turn (λ b. is_among hosted b ≡ true) (wake_all net) (λ x y b among side c. side_wake_all x y b among side c) hosted (answered_first net w left).world (answered_first net u left).world
      (all_of (λ b. is_among hosted b ≡ true) hosted (λ b m. m)) a.beside (a.clock ∙ (clock ∙ sym a.other_clock)))

  beside_at : (w u : World) (moment : ℕ) → Beside net hosted w u → Beside net hosted (at_moment w moment) (at_moment u moment)
  beside_at w u moment x = record { rows = x.rows; logs = x.logs; brokers = x.brokers; publishers = x.publishers }

  -- an arrival at these brokers tells the same in both worlds but for the numbers of frames, and sends the same
  pub record ComesSame (w u : World) (x y : Transition) : Type 0 where
    pub beside : Beside net hosted x.world y.world
    pub more : List Frame
    pub frames : x.world.frames ≡ w.frames ++ more
    pub other_frames : y.world.frames ≡ u.frames ++ more
    pub lines : x.lines ≡ numbered_on (suc (length w.frames)) y.lines
    pub count : sent_count y.lines ≡ length more
    pub told : filter is_sent y.lines ≡ sent_lines (suc (length u.frames)) more

  same_at : (w u : World) (moment : ℕ) (x y : Transition) → IsSide net hosted (at_moment w moment) (at_moment u moment) x y → ComesSame w u x y
  same_at w u moment x y s = record { beside = s.beside; more = s.more; frames = s.frames; other_frames = s.other_frames; lines = s.lines; count = s.count; told = s.told }

  pub comes_same : (w u : World) (left : List Request) (a : Arrival) → Unheard net → ArrivalAt hosted a → RequestsAt net hosted left → Beside net hosted w u → ComesSame w u (comes net hosted w left a) (comes net hosted u left a)
  unfolding comes_by
  comes_same w u left (datagram b bytes moment) unheard among at beside =
      same_at w u moment _ _ (side_reads (at_moment w moment) (at_moment u moment) b bytes unheard among (beside_at w u moment beside) refl)
  comes_same w u left (quiet moment) unheard among at beside =
      same_at w u moment _ _ (side_quieted (at_moment w moment) (at_moment u moment) left at (beside_at w u moment beside) refl)

-- At other brokers

module _ (net : Net) (hosted others : List ℕ) (apart : AreApart hosted others) where
  apart_seq : (w : World) (t : Transition) (f : World → Transition) → Beside net others t.world w → Beside net others (f t.world).world t.world → Beside net others (followed_by t f).world w
  apart_seq w t f a b = beside_next net others (f t.world).world t.world w b a

  apart_in_turn : {X : Type 0} (P : X → Type 0) (f : World → X → Transition) → ((w : World) (x : X) → P x → Beside net others (f w x).world w) → (xs : List X) (w : World) → AllByRecursion P xs → Beside net others (in_turn f xs w).world w
  apart_in_turn P f each [] w all = beside_itself net others w
  apart_in_turn P f each (x ∷ xs) w all = apart_seq w (f w x) (in_turn f xs) (each w x all.0) (apart_in_turn P f each xs (f w x).world all.1)

  apart_wake : (w : World) (b p : ℕ) → is_among hosted b ≡ true → Beside net others (wake_for net w b p).world w
  unfolding wake_for_by
  apart_wake w b p among = called_apart net others w b p (λ v log. wake (seen net v) p b w.clock v log) (wake_is_call net p b w.clock) (apart b among)

  apart_wake_all : (w : World) (b : ℕ) → is_among hosted b ≡ true → Beside net others (wake_all net w b).world w
  unfolding wake_all_by
  apart_wake_all w b among = apart_in_turn (λ p. Unit {0}) (λ x p. wake_for net x b p) (λ x p t. apart_wake x b p among) (numbers net.publishers) w (all_of (λ p. Unit {0}) (numbers net.publishers) (λ p m. tt))

  apart_publish : (w : World) (p number : ℕ) (e : Event) → is_hosted net hosted p ≡ true → Beside net others (publish_now net w p number e).world w
  unfolding publish_now_by
  apart_publish w p number e among = called_apart net others w (net.host p) p (λ v log. publish (seen net v) p (net.host p) w.clock number e v log) (publish_is_call net p w.clock number e) (apart (net.host p) among)

  apart_join : (w : World) (s p : ℕ) → is_hosted net hosted p ≡ true → Beside net others (join_now net w s p).world w
  unfolding join_now_by
  apart_join w s p among = called_apart net others w (net.host p) p (λ v log. joining (seen net (view_joined log s w.clock v)) p (net.host p) w.clock s v log) (join_is_call net p w.clock s) (apart (net.host p) among)

  apart_deliver : (w : World) (x : Frame) → is_among hosted x.head.to ≡ true → Beside net others (deliver_frame net w x).world w
  unfolding deliver_frame_by
  apart_deliver w x among = called_apart net others w x.head.to x.head.publisher (λ v log. receive (seen net (taking v x)) w.clock x v log) (receive_is_call net w.clock x) (apart x.head.to among)

  apart_takes : (w : World) (b : ℕ) (f : Frame) → f.head.to ≡ b → is_among hosted b ≡ true → Beside net others (takes net w b f).world w
  unfolding takes_by
  apart_takes w b f to among = go (view_of w b f.head.publisher) (first_split 0 (view_of w b f.head.publisher).joins (joins_in f)) (least_clash (view_of w b f.head.publisher).know f)
    where
      clashing : (v : View) (c : Option ℕ) → (let t : Transition = elim c [ Some t ↦ unchanged w (clash_line b v.know f t ∷ []) | None ↦ deliver_frame net w f ] in Beside net others t.world w)
      clashing v (Some t) = beside_itself net others w
      clashing v None = apart_deliver w f (subst (λ z. is_among hosted z ≡ true) (sym to) among)

      go : (v : View) (o : Option Split) (c : Option ℕ) → (let t : Transition = elim o [ Some x ↦ unchanged w (split_line b x ∷ []) | None ↦ elim c [ Some t ↦ unchanged w (clash_line b v.know f t ∷ []) | None ↦ deliver_frame net w f ] ] in Beside net others t.world w)
      go v (Some x) c = beside_itself net others w
      go v None c = clashing v c

  apart_receives : (w : World) (b : ℕ) (r : Result Frame FrameFault) → is_among hosted b ≡ true → Beside net others (receives net w b r).world w
  unfolding receives_by
  apart_receives w b (Err fault) among = beside_itself net others w
  apart_receives w b (Ok f) among = go (fits_broker net b f) refl
    where
      go : (q : Bool) → fits_broker net b f ≡ q → (let t : Transition = elim q [ false ↦ unchanged w (line.DroppedStray b f.head.from f.head.to f.head.publisher ∷ []) | true ↦ takes net w b f ] in Beside net others t.world w)
      go true h = apart_takes w b f (fits_to net b f h) among
      go false h = beside_itself net others w

  apart_notes : (w : World) (b : ℕ) (r : Result Note NoteFault) → Unheard net → Beside net others (notes net w b r).world w
  unfolding notes_by
  apart_notes w b (Err fault) unheard = beside_itself net others w
  apart_notes w b (Ok n) unheard = go (submitted_in net b n) (submits_none net b n unheard)
    where
      go : (o : Option Publish) → o ≡ None → (let t : Transition = elim o [ Some x ↦ publish_now net w x.0 x.1.0 x.1.1 | None ↦ unchanged w (line.DroppedStrayNote b (publisher_of n) ∷ []) ] in Beside net others t.world w)
      go (Some x) e = absurd (cc)
      go None e = beside_itself net others w

  apart_reads : (w : World) (b : ℕ) (bytes : List ℕ) → Unheard net → is_among hosted b ≡ true → Beside net others (reads net w b bytes).world w
  apart_reads w b bytes unheard among = go (begins_note bytes)
    where
      go : (q : Bool) → (let t : Transition = elim q [ true ↦ notes net w b (note_decoded bytes) | false ↦ receives net w b (frame_decoded bytes) ] in Beside net others t.world w)
      go true = apart_notes w b (note_decoded bytes) unheard
      go false = apart_receives w b (frame_decoded bytes) among

  apart_first : (w : World) (left : List Request) → RequestsAt net hosted left → Beside net others (answered_first net w left).world w
  apart_first w [] at = beside_itself net others w
  apart_first w (asks_publish p number e ∷ left) at = apart_publish w p number e at.0
  apart_first w (asks_join s p ∷ left) at = apart_join w s p at.0

  apart_quieted : (w : World) (left : List Request) → RequestsAt net hosted left → Beside net others (quieted net hosted w left).world w
  unfolding quieted_by
  apart_quieted w left at = apart_seq w (answered_first net w left) (in_turn (wake_all net) hosted) (apart_first w left at)
      (apart_in_turn (λ b. is_among hosted b ≡ true) (wake_all net) (λ x b among. apart_wake_all x b among) hosted (answered_first net w left).world (all_of (λ b. is_among hosted b ≡ true) hosted (λ b m. m)))

  moved_at : (w : World) (moment : ℕ) (u : World) → Beside net others u (at_moment w moment) → Beside net others u w
  moved_at w moment u x = record { rows = x.rows; logs = x.logs; brokers = x.brokers; publishers = x.publishers }

  -- an arrival at these brokers leaves what the others see
  pub comes_apart : (w : World) (left : List Request) (a : Arrival) → Unheard net → ArrivalAt hosted a → RequestsAt net hosted left → Beside net others (comes net hosted w left a).world w
  unfolding comes_by
  comes_apart w left (datagram b bytes moment) unheard among at = moved_at w moment _ (apart_reads (at_moment w moment) b bytes unheard among)
  comes_apart w left (quiet moment) unheard among at = moved_at w moment _ (apart_quieted (at_moment w moment) left at)
