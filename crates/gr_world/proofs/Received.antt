-- A frame of a world reaches its receiver: its bytes decode, it fits since it went over an edge, and one that splits or clashes is
-- dropped where the machine's call changes and tells nothing
use Rattle.std.proofs.Common.{◌≡◌, ◌≢◌, ◌⊎◌, inl, inr, ℕ, zero, suc, ◌<◌, Bool, true, false, List, [], ◌∷◌, length, map, get_or, set, Option, Some, None, Result, Ok, Err, OnOk, OnErr, refl, sym, ap, ◌∙◌, subst}
use Rattle.std.specs.Prelude.{slice_get, IfOk}
use Rattle.std.specs.List.{AllByRecursion}
use Rattle.std.proofs.lemmas.List.{set-get_or}
use Rattle.std.proofs.lemmas.Bool.{cases_eq}
use Rattle.gr_event.specs.declared.join.Split.{Split}
use Rattle.gr_event.specs.Joins.{first_split, longer}
use Rattle.std.specs.declared.alloc.AllocError.{AllocError}
use Rattle.gr_frame.specs.declared.Body.{Body}
use Rattle.gr_frame.specs.declared.Body.TheVariants as body
use Rattle.gr_frame.specs.declared.Frame.{Frame}
use Rattle.gr_frame.specs.declared.fault.FrameFault.{FrameFault}
use Rattle.gr_frame.specs.Bytes.{frame_bytes}
use Rattle.gr_frame.specs.Cut.{AreFrames}
use Rattle.gr_frame.specs.Decode.{frame_decoded}
use Rattle.gr_frame.specs.Limits.{IsFrame}
use Rattle.gr_frame.proofs.Spelled.{spelled_decodes}
use Rattle.gr_know.specs.Values.{known_at}
use Rattle.gr_publog.specs.Views.{LogView}
use Rattle.gr_topo.specs.Topology.{host_of}
use Rattle.gr_model.specs.declared.report.Report.{Report}
use Rattle.gr_model.specs.Net.{Net, wants_with, all_late}
use Rattle.gr_model.specs.Tree.{IsNet}
use Rattle.gr_model.specs.Arrivals.{fits_broker, joins_in, least_clash}
use Rattle.gr_model.specs.Broker.{View, Log, Outcome as MachineOutcome, empty_log, receive, seen, taking, with_joins, unmoved}
use Rattle.gr_model.specs.World.{World, blank_view, view_of, log_of, frame_at, deliver_frame, deliver_frame_by}
use Rattle.gr_model_calls.specs.Edges.{GoesOverEdge}
use Rattle.gr_model_calls.proofs.calls.Held.{longer_late}
use Rattle.gr_model_calls.proofs.topology.Strays.{receive_on}
use Rattle.gr_model_theorems.proofs.server.CutEvents.{on_log}
use Rattle.gr_broker_relay.specs.Told.{Tells}
use Rattle.gr_broker.specs.declared.outcome.Received.{Received}
use Rattle.gr_broker.specs.declared.outcome.Received.TheVariants as answer
use Rattle.gr_broker.specs.declared.outcome.Dropped.TheVariants as dropped
use Rattle.gr_broker.specs.Seen.{BrokerView, view_in, log_in, log_said, is_broken}
use Rattle.gr_broker.specs.Of.{IsBrokerOf}
use Rattle.gr_broker.specs.Receipt.{Receipt, stray, split, clash, taken, came_at, receipt, receipt_of_fit, after_receipt, Answers}
use Rattle.gr_report.proofs.Named.{all_of}
use Rattle.gr_report.proofs.Passing.{seen_edges, over_fits_broker, body_fits_with, none_some, PassesLog, PassesRest, HasLeast, receive_passes, split_drops, clash_drops, receipt_logs, receipt_number}
use Rattle.gr_world.specs.declared.fault.WorldFault.{WorldFault}
use Rattle.gr_world.specs.declared.fault.WorldFault.TheVariants as fault
use Rattle.gr_world.specs.Seen.{WorldView, broker_in, log_at, frame_said, world_of, net_in}
use Rattle.gr_world.specs.Of.{IsWorld}
use Rattle.gr_world.specs.Steps.{Does, IsCarried}
use Rattle.gr_world.specs.Ran.{IsOpen, Ran}
use Rattle.gr_world.specs.Taking.{FollowsReceipt, TakesUp, IsReceived, put_in}
use Rattle.gr_world.proofs.Absorbing.{view_is, log_is, log_here, log_elsewhere}
use Rattle.gr_world.proofs.Called.{Called, called_does, called_ran, broker_read}

-- The frame at a place

some_is : {X : Type 0} {x y : X} → Some x ≡ Some y → x ≡ y
some_is {X} {x} e = ap (λ (o : Option X). elim o [ Some z ↦ z | None ↦ x ]) e

-- what bytes at a place say is the frame at that place
pub said_at : (bs : List (List ℕ)) (k : ℕ) (bytes : List ℕ) → slice_get bs k ≡ Some bytes → slice_get (map frame_said bs) k ≡ Some (frame_said bytes)
said_at [] k bytes e = absurd (none_some e)
said_at (b ∷ bs) zero bytes e = ap (λ (x : List ℕ). Some (frame_said x)) (some_is e)
said_at (b ∷ bs) (suc k) bytes e = said_at bs k bytes e

-- they are its spelling
pub spelled_at : (bs : List (List ℕ)) (k : ℕ) (bytes : List ℕ) → AreFrames bs (map frame_said bs) → slice_get bs k ≡ Some bytes → IsFrame bytes (frame_said bytes)
spelled_at [] k bytes a e = absurd (none_some e)
spelled_at (b ∷ bs) zero bytes a e = subst (λ (x : List ℕ). IsFrame x (frame_said x)) (some_is e) a.0
spelled_at (b ∷ bs) (suc k) bytes a e = spelled_at bs k bytes a.1 e

-- and what holds of each frame holds of it
pub holds_at : (P : Frame → Type 0) (bs : List (List ℕ)) (k : ℕ) (bytes : List ℕ) → AllByRecursion P (map frame_said bs) → slice_get bs k ≡ Some bytes → P (frame_said bytes)
holds_at P [] k bytes a e = absurd (none_some e)
holds_at P (b ∷ bs) zero bytes a e = subst (λ (x : List ℕ). P (frame_said x)) (some_is e) a.0
holds_at P (b ∷ bs) (suc k) bytes a e = holds_at P bs k bytes a.1 e

-- What a frame that fits is answered and leaves, beside the machine's outcome
pub record FitsIn (net : Net) (now : ℕ) (b : BrokerView) (f : Frame) (o : MachineOutcome) : Type 0 where
  pub told : (a : Received) → Answers a (receipt net now b (Ok f)) → IsReceived o a
  pub view : (after_receipt (Ok f) (receipt net now b (Ok f)) b).views ≡ set b.views f.head.publisher o.view

pub fits_in : PassesLog → PassesRest → HasLeast → (net : Net) (now : ℕ) (b : BrokerView) (f : Frame) (l : Log) → fits_broker net b.number f ≡ true
    → FitsIn net now b f (let v : View = view_in b f.head.publisher in receive (seen net (taking v f)) now f v l)
unfolding receipt receipt_of_fit
fits_in passes rest law net now b f l fits =
    let k = subst Is (sym is) (at (first_split 0 v.joins (joins_in f)) (least_clash v.know f) refl refl) in record { told = k.0; view = k.1 }
  where
    v : View
    v = view_in b f.head.publisher

    -- the net that the joins show, those of the frame taken up
    shown : Net
    shown = seen net (taking v f)

    o : MachineOutcome
    o = receive shown now f v l

    m : MachineOutcome
    m = receive shown now f v empty_log

    same : on_log m l ≡ o
    same = receive_passes passes rest shown now f v l

    found : Option Split → Option ℕ → Receipt
    found x c = elim x [ Some y ↦ split y | None ↦ elim c [ Some t ↦ clash t (known_at v.know t) (came_at f t) | None ↦ taken m ] ]

    said : Bool → Option Split → Option ℕ → Receipt
    said q x c = elim q [ false ↦ stray f.head | true ↦ found x c ]

    taken_told : (a : Received) → Answers a (taken m) → IsReceived o a
    taken_told (answer.Taken told) t = subst (λ (x : MachineOutcome). Tells x told) same (record { lines = t.lines; frames = t.frames; spelled = t.spelled })
    taken_told (answer.Dropped (dropped.NotFrame e)) t = absurd t
    taken_told (answer.Dropped (dropped.Stray h)) t = absurd t
    taken_told (answer.Dropped (dropped.Split n j k)) t = absurd t
    taken_told (answer.Dropped (dropped.Clash c)) t = absurd t

    -- where nothing moves nothing is told or sent, and what is kept stays
    nothing_told : o ≡ unmoved v l → (o.lines ≡ []) × (o.frames ≡ [])
    nothing_told d = (ap (λ (y : MachineOutcome). y.lines) d, ap (λ (y : MachineOutcome). y.frames) d)

    nothing_kept : o ≡ unmoved v l → b.views ≡ set b.views f.head.publisher o.view
    nothing_kept d = sym (ap (λ (y : MachineOutcome). set b.views f.head.publisher y.view) d ∙ set-get_or b.views f.head.publisher blank_view)

    split_told : (x : Split) → o ≡ unmoved v l → (a : Received) → Answers a (split x) → IsReceived o a
    split_told x d (answer.Taken told) t = absurd t
    split_told x d (answer.Dropped (dropped.NotFrame y)) t = absurd t
    split_told x d (answer.Dropped (dropped.Stray h)) t = absurd t
    split_told x d (answer.Dropped (dropped.Split n j k)) t = nothing_told d
    split_told x d (answer.Dropped (dropped.Clash c)) t = absurd t

    clash_told : (x : ℕ) → o ≡ unmoved v l → (a : Received) → Answers a (clash x (known_at v.know x) (came_at f x)) → IsReceived o a
    clash_told x d (answer.Taken told) t = absurd t
    clash_told x d (answer.Dropped (dropped.NotFrame y)) t = absurd t
    clash_told x d (answer.Dropped (dropped.Stray h)) t = absurd t
    clash_told x d (answer.Dropped (dropped.Split n j k)) t = absurd t
    clash_told x d (answer.Dropped (dropped.Clash c)) t = nothing_told d

    Is : Receipt → Type 0
    Is r = ((a : Received) → Answers a r → IsReceived o a) × ((after_receipt (Ok f) r b).views ≡ set b.views f.head.publisher o.view)

    at : (x : Option Split) (c : Option ℕ) → first_split 0 v.joins (joins_in f) ≡ x → least_clash v.know f ≡ c → Is (found x c)
    at (Some y) c s e = let d = split_drops shown now f v l y s in (split_told y d, nothing_kept d)
    at None (Some x) s e = let d = clash_drops law shown now f v l x e in (clash_told x d, nothing_kept d)
    at None None s e = (taken_told, ap (λ (y : MachineOutcome). set b.views f.head.publisher y.view) same)

    is : receipt net now b (Ok f) ≡ found (first_split 0 v.joins (joins_in f)) (least_clash v.know f)
    is = ap (λ q. said q (first_split 0 v.joins (joins_in f)) (least_clash v.know f)) fits

-- The answer

-- what holds where the broker took the frame or dropped it holds where the world answers
on_reply : (X : Type 0) (reply : Result Received AllocError) (result : Result (List Report) WorldFault) → FollowsReceipt reply result → OnOk reply X → OnOk result X
on_reply X (Ok a) (Ok ls) f x = x
on_reply X (Ok a) (Err e) f x = tt
on_reply X (Err e) result f x = subst (λ (r : Result (List Report) WorldFault). OnOk r X) (sym f) tt

on_all : {X : Type 0} (result : Result (List Report) WorldFault) → X → OnOk result X
on_all (Ok ls) x = x
on_all (Err e) x = tt

-- no fault comes but want of memory
pub only_memory : (reply : Result Received AllocError) (result : Result (List Report) WorldFault) → FollowsReceipt reply result → (e : WorldFault) → result ≡ Err e → e ≡ fault.Memory
only_memory (Ok a) (Ok ls) f e h = cc
only_memory (Ok a) (Err x) f e h = cc
only_memory (Err x) result f e h = cc

carries : (reply : Result Received AllocError) (result : Result (List Report) WorldFault) → FollowsReceipt reply result → IsCarried result
carries (Ok a) (Ok ls) f = tt
carries (Ok a) (Err e) f = subst (λ (x : WorldFault). IsCarried (Err x)) (sym f) tt
carries (Err x) result f = subst (λ (r : Result (List Report) WorldFault). IsCarried r) (sym f) tt

not_reopen : (reply : Result Received AllocError) (result : Result (List Report) WorldFault) → FollowsReceipt reply result → result ≡ Err fault.Reopen → ⊥
not_reopen reply result f h = cc (only_memory reply result f fault.Reopen h)

-- A delivery

-- the machine's outcome of it
abbrev pub deliver_in : WorldView → Frame → MachineOutcome
deliver_in w f =
    let m : World = world_of w in
    let v : View = view_of m f.head.to f.head.publisher in
    receive (seen (net_in w) (taking v f)) w.clock f v (log_of m f.head.publisher)

-- where what is held is of late subscribers, as is what a frame over an edge brings, so is what is held once it is taken up
pub taking_late : (net : Net) (v : View) (f : Frame) → all_late net v.joins ≡ true → GoesOverEdge net f → all_late net (taking v f).joins ≡ true
taking_late net v f late over = go f.body over.joins
  where
    go : (y : Body) → all_late net (elim y [ body.Knowledge runs js ↦ js | _ ↦ [] ]) ≡ true → all_late net (let u : View = elim y [ body.Knowledge runs js ↦ with_joins v (longer v.joins js) | _ ↦ v ] in u.joins) ≡ true
    go (body.Knowledge runs js) h = longer_late net v.joins js late h
    go (body.Curiosity runs) h = late
    go (body.Expect tick) h = late

module _ (w : WorldView) (f : Frame) (bytes : List ℕ) (i : IsWorld w) (spelled : IsFrame bytes f) (over : GoesOverEdge (net_in w) f) where
  abbrev broker : BrokerView
  broker = broker_in w f.head.to

  within : f.head.to < length w.brokers
  within = subst (λ n. f.head.to < n) (sym i.count) over.to

  -- the bytes decode
  pub decodes : frame_decoded bytes ≡ Ok f
  decodes = spelled_decodes bytes f spelled

  -- what the receiver answers and leaves is the machine's outcome
  pub delivers : PassesLog → PassesRest → HasLeast → FitsIn (net_in w) w.clock broker f (deliver_in w f)
  delivers passes rest law =
      subst (λ (v : View). FitsIn (net_in w) w.clock broker f (receive (seen (net_in w) (taking v f)) w.clock f v (log_of (world_of w) f.head.publisher))) (sym (view_is w f.head.to f.head.publisher within))
      (fits_in passes rest law (net_in w) w.clock broker f (log_of (world_of w) f.head.publisher) (over_fits_broker (net_in w) f broker.number (sym (i.numbered f.head.to over.to)) over))

  -- What is said of the answer, by the bytes
  abbrev pub Says : Result Received AllocError → Type 0
  Says reply = IfOk reply (λ a. Answers a (receipt (net_in w) w.clock broker (frame_decoded bytes)))

  abbrev pub Leaves : Result Received AllocError → BrokerView → Type 0
  Leaves reply after = OnOk reply (after ≡ after_receipt (frame_decoded bytes) (receipt (net_in w) w.clock broker (frame_decoded bytes)) broker)

  -- it was taken, or it clashes
  pub is_received : PassesLog → PassesRest → HasLeast → (reply : Result Received AllocError) → Says reply → IfOk reply (IsReceived (deliver_in w f))
  is_received passes rest law (Ok a) h = (delivers passes rest law).told a (subst (λ (r : Result Frame FrameFault). Answers a (receipt (net_in w) w.clock broker r)) decodes h)
  is_received passes rest law (Err e) h = tt

  -- no log has changed
  left : (reply : Result Received AllocError) (after : BrokerView) → Leaves reply after → OnErr reply (after ≡ broker) → (P : BrokerView → Type 0) → P broker → P (after_receipt (Ok f) (receipt (net_in w) w.clock broker (Ok f)) broker) → P after
  left (Ok a) after h e P x y = subst P (sym h) (subst (λ (r : Result Frame FrameFault). P (after_receipt r (receipt (net_in w) w.clock broker r) broker)) (sym decodes) y)
  left (Err x) after h e P a y = subst P (sym e) a

  pub same_logs : (reply : Result Received AllocError) (after : BrokerView) → Leaves reply after → OnErr reply (after ≡ broker) → after.logs ≡ broker.logs
  same_logs reply after h e = left reply after h e (λ (x : BrokerView). x.logs ≡ broker.logs) refl (receipt_logs f (receipt (net_in w) w.clock broker (Ok f)) broker)

  pub log_kept : (reply : Result Received AllocError) (after : BrokerView) (frames : List (List ℕ)) → Leaves reply after → OnErr reply (after ≡ broker) → (q : ℕ) → log_at (put_in w f.head.to after frames) q ≡ log_at w q
  log_kept reply after frames h e q = go (cases_eq (host_of w.topo q) f.head.to)
    where
      go : (host_of w.topo q ≡ f.head.to) ⊎ (host_of w.topo q ≢ f.head.to) → log_at (put_in w f.head.to after frames) q ≡ log_at w q
      go (inl same) = log_here w f.head.to f.head.publisher after frames within q same ∙ (ap (λ (ls : List (Option LogView)). get_or ls q None) (same_logs reply after h e) ∙ sym (ap (λ c. log_in (broker_in w c) q) same))
      go (inr n) = log_elsewhere w f.head.to f.head.publisher after frames within q n

  -- a delivery that is answered and taken up has done what a call does
  pub deliver_called : IsNet (net_in w) → PassesLog → PassesRest → HasLeast → (reply : Result Received AllocError) (after : BrokerView) (frames : List (List ℕ)) (result : Result (List Report) WorldFault)
      → Says reply → Leaves reply after → OnErr reply (after ≡ broker) → IsBrokerOf w.topo after → FollowsReceipt reply result
      → ((o : MachineOutcome) → IfOk reply (IsReceived o) → TakesUp o w.frames frames result) → Called w f.head.to f.head.publisher (deliver_in w f) after frames result
  deliver_called n passes rest law reply after frames result says leaves err is by takes = record {
    takes = takes (deliver_in w f) (is_received passes rest law reply says);
    view = on_reply _ reply result by (viewed reply leaves);
    log = on_all result (ap log_said (log_kept reply after frames leaves err f.head.publisher) ∙ (sym (log_is w f.head.publisher over.publisher) ∙ sym (passed passes)));
    spelled = on_reply _ reply result by (spelled_by reply (is_received passes rest law reply says));
    over = all_of (GoesOverEdge (net_in w)) _ (receive_on (seen (net_in w) (taking kept f)) w.clock (GoesOverEdge (net_in w)) f kept _ (seen_edges (net_in w) (taking kept f) f.head.publisher f.head.to n over.publisher over.to held)
        (body_fits_with (net_in w) (wants_with (net_in w) (taking kept f).joins) f.head.publisher f.head.from f.head.to f.body over.between));
    touches = record {
      number = left reply after leaves err (λ (x : BrokerView). x.number ≡ broker.number) refl (receipt_number f (receipt (net_in w) w.clock broker (Ok f)) broker);
      others = λ q d. ap (λ (ls : List (Option LogView)). get_or ls q None) (same_logs reply after leaves err);
    };
    fits = is;
    carried = carries reply result by;
    whole = λ d h. ap (λ (ls : List (Option LogView)). is_broken (get_or ls f.head.publisher None)) (same_logs reply after leaves err) ∙ h;
    closed = λ h. ap (λ (ls : List (Option LogView)). get_or ls f.head.publisher None) (same_logs reply after leaves err);
    reopen = λ e. absurd (not_reopen reply result by e);
  }
    where
      kept : View
      kept = view_of (world_of w) f.head.to f.head.publisher

      held : all_late (net_in w) (taking kept f).joins ≡ true
      held =
          taking_late (net_in w) kept f
          (subst (λ (v : View). all_late (net_in w) v.joins ≡ true) (sym (view_is w f.head.to f.head.publisher within)) ((i.brokers f.head.to over.to).kept f.head.publisher over.publisher).joins) over

      viewed : (reply : Result Received AllocError) → Leaves reply after → OnOk reply (after.views ≡ set broker.views f.head.publisher (deliver_in w f).view)
      viewed (Ok a) h =
          ap (λ (x : BrokerView). x.views) h
          ∙ (ap (λ (r : Result Frame FrameFault). (after_receipt r (receipt (net_in w) w.clock broker r) broker).views) decodes ∙ (delivers passes rest law).view)
      viewed (Err e) h = tt

      spelled_by : (reply : Result Received AllocError) → IfOk reply (IsReceived (deliver_in w f)) → OnOk reply (AreFrames (map frame_bytes (deliver_in w f).frames) (deliver_in w f).frames)
      spelled_by (Ok (answer.Taken told)) t = subst (λ (bs : List (List ℕ)). AreFrames bs (deliver_in w f).frames) t.frames t.spelled
      spelled_by (Ok (answer.Dropped (dropped.Split a j k))) t = subst (λ (fs : List Frame). AreFrames (map frame_bytes fs) fs) (sym t.1) tt
      spelled_by (Ok (answer.Dropped (dropped.Clash c))) t = subst (λ (fs : List Frame). AreFrames (map frame_bytes fs) fs) (sym t.1) tt
      spelled_by (Ok (answer.Dropped (dropped.NotFrame x))) t = absurd t
      spelled_by (Ok (answer.Dropped (dropped.Stray h))) t = absurd t
      spelled_by (Err e) t = tt

      passed : PassesLog → (let o : MachineOutcome = deliver_in w f in o.log ≡ log_of (world_of w) f.head.publisher)
      passed k = k (seen (net_in w) (taking kept f)) w.clock f _ _

  -- so it does what the machine's delivery does
  pub deliver_does : (after : BrokerView) (frames : List (List ℕ)) (result : Result (List Report) WorldFault) → Called w f.head.to f.head.publisher (deliver_in w f) after frames result
      → Does (deliver_frame (net_in w) (world_of w) f) (put_in w f.head.to after frames) result
  unfolding deliver_frame_by
  deliver_does after frames result c = called_does w f.head.to f.head.publisher (deliver_in w f) after frames result i over.to over.publisher c

-- The call in code, where the world is seen by its parts and the frame by its place

-- the frame at a place is spelled, and goes over an edge
pub record Place (v w : WorldView) (k : ℕ) (bytes : List ℕ) : Type 0 where
  pub same : v ≡ w
  pub fits : IsWorld w
  pub is_open : IsOpen w
  pub there : slice_get v.frames k ≡ Some bytes

module _ (v w : WorldView) (k : ℕ) (bytes : List ℕ) (s : Place v w k bytes) where
  abbrev frame : Frame
  frame = frame_said bytes

  place_fits : IsWorld v
  place_fits = subst IsWorld (sym s.same) s.fits

  pub place_spelled : IsFrame bytes frame
  place_spelled = spelled_at v.frames k bytes place_fits.spelled s.there

  place_over : GoesOverEdge (net_in v) frame
  place_over = holds_at (GoesOverEdge (net_in v)) v.frames k bytes place_fits.over s.there

  -- its receiver is a broker
  pub place_to : (to : ℕ) → to ≡ frame.head.to → to < length v.topo.brokers
  place_to to e = subst (λ n. n < length v.topo.brokers) (sym e) place_over.to

  pub place_broker : (to : ℕ) → to ≡ frame.head.to → to < length v.brokers
  place_broker to e = subst (λ n. to < n) (sym place_fits.count) (place_to to e)

  module _ (to : ℕ) (x after : BrokerView) (reply : Result Received AllocError) (at : to ≡ frame.head.to) (read : x ≡ get_or v.brokers to x) (passes : PassesLog) (rest : PassesRest) (law : HasLeast) (says : IfOk reply (λ a. Answers a (receipt (net_in v) v.clock x (frame_decoded bytes)))) where
    here : x ≡ broker_in v frame.head.to
    here = broker_read v to x place_fits (place_to to at) read ∙ ap (broker_in v) at

    said : Says v frame bytes place_fits place_spelled place_over reply
    said = subst (λ (z : BrokerView). IfOk reply (λ a. Answers a (receipt (net_in v) v.clock z (frame_decoded bytes)))) here says

    -- it was taken, or it clashes
    pub place_received : IfOk reply (IsReceived (deliver_in v frame))
    place_received = is_received v frame bytes place_fits place_spelled place_over passes rest law reply said

    module _ (frames : List (List ℕ)) (result : Result (List Report) WorldFault) (n : IsNet (net_in v)) (leaves : OnOk reply (after ≡ after_receipt (frame_decoded bytes) (receipt (net_in v) v.clock x (frame_decoded bytes)) x)) (err : OnErr reply (after ≡ x)) (is : IsBrokerOf v.topo after) (by : FollowsReceipt reply result) (takes : (o : MachineOutcome) → IfOk reply (IsReceived o) → TakesUp o v.frames frames result) where
      left_here : Leaves v frame bytes place_fits place_spelled place_over reply after
      left_here = subst (λ (z : BrokerView). OnOk reply (after ≡ after_receipt (frame_decoded bytes) (receipt (net_in v) v.clock z (frame_decoded bytes)) z)) here leaves

      err_here : OnErr reply (after ≡ broker_in v frame.head.to)
      err_here = subst (λ (z : BrokerView). OnErr reply (after ≡ z)) here err

      called : Called v frame.head.to frame.head.publisher (deliver_in v frame) after frames result
      called = deliver_called v frame bytes place_fits place_spelled place_over n passes rest law reply after frames result said left_here err_here is by takes

      pub does_deliver : (f : Frame) → frame_at (world_of w) (suc k) ≡ Some f → Does (deliver_frame (net_in w) (world_of w) f) (put_in v to after frames) result
      does_deliver f e =
          let there : frame_at (world_of v) (suc k) ≡ Some frame = said_at v.frames k bytes s.there in
          let is_frame : frame ≡ f = some_is (sym there ∙ subst (λ (u : WorldView). frame_at (world_of u) (suc k) ≡ Some f) (sym s.same) e) in
          subst (λ (u : WorldView). Does (deliver_frame (net_in u) (world_of u) f) (put_in v to after frames) result) s.same
          (subst (λ (g : Frame). Does (deliver_frame (net_in v) (world_of v) g) (put_in v to after frames) result) is_frame
          (subst (λ m. Does (deliver_frame (net_in v) (world_of v) frame) (put_in v m after frames) result) (sym at)
          (deliver_does v frame bytes place_fits place_spelled place_over after frames result called)))

      pub ran_deliver : Ran w (put_in v to after frames) result
      ran_deliver =
          subst (λ (u : WorldView). Ran u (put_in v to after frames) result) s.same
          (subst (λ m. Ran v (put_in v m after frames) result) (sym at)
          (called_ran v frame.head.to frame.head.publisher (deliver_in v frame) after frames result place_fits place_over.to place_over.publisher called))

      pub logs_deliver : (q : ℕ) → log_at (put_in v to after frames) q ≡ log_at w q
      logs_deliver q =
          subst (λ (u : WorldView). log_at (put_in v to after frames) q ≡ log_at u q) s.same
          (subst (λ m. log_at (put_in v m after frames) q ≡ log_at v q) (sym at)
          (log_kept v frame bytes place_fits place_spelled place_over reply after frames left_here err_here q))
