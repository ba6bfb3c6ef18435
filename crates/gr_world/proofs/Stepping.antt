-- The machine's step, as the rule of each kind of step has it
use Rattle.std.proofs.Common.{◌≡◌, ℕ, suc, zero, ◌-◌, ◌<◌, max, List, [], ◌∷◌, length, map, get_or, Option, Some, None, Result, Ok, Err, option_map, refl, sym, ap, ap₂, ◌∙◌, subst, arith}
use Rattle.std.proofs.Math.Nat.{max_comm}
use Rattle.std.proofs.lemmas.Option.{slice_get-map, slice_get-get_or}
use Rattle.std.proofs.lemmas.List.{length-map}
use Rattle.gr_event.specs.declared.event.Event.{Event}
use Rattle.gr_frame.specs.declared.Frame.{Frame}
use Rattle.gr_frame.specs.Bytes.{frame_bytes}
use Rattle.gr_frame.specs.Cut.{AreFrames}
use Rattle.gr_sched.specs.declared.step.Step.TheVariants as step
use Rattle.gr_out.specs.Lane.{Lane}
use Rattle.gr_model.specs.declared.report.Report.{Report}
use Rattle.gr_model.specs.declared.report.Report.TheVariants as line
use Rattle.gr_model.specs.Net.{Net, numbers_from}
use Rattle.gr_model.specs.World.{World, Transition, unchanged, next, next_by, publish_now, join_now, wake_all, wake_all_by, wake_for, deliver_frame, frame_at}
use Rattle.gr_world.specs.declared.fault.WorldFault.{WorldFault}
use Rattle.gr_world.specs.declared.fault.WorldFault.TheVariants as fault
use Rattle.gr_world.specs.Seen.{WorldView, world_of, net_in, frame_said}
use Rattle.gr_world.specs.Of.{IsWorld, LanesFit}
use Rattle.gr_world.specs.Steps.{Makes, Does, frame_refusal}
use Rattle.gr_world.proofs.Composed.{Leads, leads_first, reached}

-- a publish with no stop is the publish at the host
pub next_publish : (net : Net) (w : World) (n p number : ℕ) (e : Event) → next net w (record { number = n; step = step.Publish p number None e }) ≡ publish_now net w p number e
unfolding next_by
next_publish net w n p number e = refl

-- a join is the join at the host
pub next_join : (net : Net) (w : World) (n s p : ℕ) → next net w (record { number = n; step = step.Join s p }) ≡ join_now net w s p
unfolding next_by
next_join net w n s p = refl

-- a wake is that for all publishers
pub next_wake : (net : Net) (w : World) (n b : ℕ) → next net w (record { number = n; step = step.Wake b }) ≡ wake_all net w b
unfolding next_by
next_wake net w n b = refl

abbrev delivered : Net → World → ℕ → ℕ → Option Frame → Transition
delivered net w n k o = elim o [ None ↦ unchanged w (line.RefusedFrame n k (length w.frames) ∷ []) | Some f ↦ deliver_frame net w f ]

abbrev told_bytes : World → ℕ → ℕ → Option Frame → Transition
told_bytes w n k o = elim o [ None ↦ unchanged w (line.RefusedFrame n k (length w.frames) ∷ []) | Some f ↦ unchanged w (line.BytesOf k (frame_bytes f) ∷ []) ]

-- a delivery of a frame that was sent
pub next_deliver : (net : Net) (w : World) (n k : ℕ) (f : Frame) → frame_at w k ≡ Some f → next net w (record { number = n; step = step.Deliver k }) ≡ deliver_frame net w f
unfolding next_by
next_deliver net w n k f h = ap (λ o. delivered net w n k o) h

-- a delivery of no frame
pub next_no_frame : (net : Net) (w : World) (n k : ℕ) → frame_at w k ≡ None
    → next net w (record { number = n; step = step.Deliver k }) ≡ unchanged w (line.RefusedFrame n k (length w.frames) ∷ [])
unfolding next_by
next_no_frame net w n k h = ap (λ o. delivered net w n k o) h

-- the bytes of a frame that was sent
pub next_bytes : (net : Net) (w : World) (n k : ℕ) (f : Frame) → frame_at w k ≡ Some f
    → next net w (record { number = n; step = step.Bytes k }) ≡ unchanged w (line.BytesOf k (frame_bytes f) ∷ [])
unfolding next_by
next_bytes net w n k f h = ap (λ o. told_bytes w n k o) h

-- the bytes of no frame
pub next_no_bytes : (net : Net) (w : World) (n k : ℕ) → frame_at w k ≡ None
    → next net w (record { number = n; step = step.Bytes k }) ≡ unchanged w (line.RefusedFrame n k (length w.frames) ∷ [])
unfolding next_by
next_no_bytes net w n k h = ap (λ o. told_bytes w n k o) h

-- The clock

-- the moment, and the greatest of all
abbrev pub at_clock : WorldView → ℕ → ℕ → WorldView
at_clock w now most = record {
  topo = w.topo;
  brokers = w.brokers;
  frames = w.frames;
  clock = now;
  most = most;
  told = w.told;
  down = w.down;
  spent = w.spent;
}

sets_clock : (w : WorldView) (now most : ℕ) → most ≡ max w.most now → Makes (step.Clock now) w (at_clock w now most) (Ok [])
unfolding next_by
sets_clock w now most e n lines k =
    let none : lines ≡ [] = cc in
    ap₂ (λ m ls. reached (record { clock = now; most = m; frames = map frame_said w.frames; views = (world_of w).views; logs = (world_of w).logs }) ls) (max_comm now w.most ∙ sym e) (sym none)

-- a clock that is set
pub clock_makes : (v w : WorldView) (now most : ℕ) → v ≡ w → most ≡ max v.most now → Makes (step.Clock now) w (at_clock v now most) (Ok [])
clock_makes v w now most same e = subst (λ x. Makes (step.Clock now) x (at_clock v now most) (Ok [])) same (sets_clock v now most e)

-- lanes are as they were
pub clock_lanes : (v w : WorldView) (now most : ℕ) → v ≡ w → (lanes : ℕ → Lane) → LanesFit lanes w → LanesFit lanes (at_clock v now most)
clock_lanes v w now most same lanes fit = let f = subst (λ x. LanesFit lanes x) (sym same) fit in record { logs = f.logs; readable = f.readable }

-- The frame of a number

-- what the bytes at its place say
pub frame_found : (w : WorldView) (i : ℕ) → i < length w.frames → frame_at (world_of w) (suc i) ≡ Some (frame_said (get_or w.frames i []))
frame_found w i h = slice_get-map frame_said w.frames i ∙ ap (λ (o : Option (List ℕ)). option_map frame_said o) (slice_get-get_or w.frames i [] h)

spelled_at : (bs : List (List ℕ)) (i : ℕ) → AreFrames bs (map frame_said bs) → i < length bs → frame_bytes (frame_said (get_or bs i [])) ≡ get_or bs i []
spelled_at [] i a h = absurd (omega arith)
spelled_at (b ∷ bs) zero a h = sym a.0.spelled
spelled_at (b ∷ bs) (suc i) a h = spelled_at bs i a.1 (omega arith)

-- and it is spelled by these bytes
pub bytes_found : (w : WorldView) (i : ℕ) → IsWorld w → i < length w.frames → frame_bytes (frame_said (get_or w.frames i [])) ≡ get_or w.frames i []
bytes_found w i f h = spelled_at w.frames i f.spelled h

-- as many frames as the machine's world has
pub as_many_frames : (w : WorldView) → length (map frame_said w.frames) ≡ length w.frames
as_many_frames w = length-map w.frames frame_said

-- For each publisher in turn

-- before the first publisher, a wake for all is left
pub wakes_first : (net : Net) (w : WorldView) (b : ℕ) (ls : List Report) → ls ≡ []
    → Leads (λ u p. wake_for net u b p) (numbers_from 0 (net.publishers - 0)) w ls (wake_all net (world_of w) b)
unfolding wake_all_by
wakes_first net w b ls none = leads_first (λ u p. wake_for net u b p) net.publishers w ls none

-- a wake for the next publisher does what is next
pub wake_next : (net : Net) (w : WorldView) (b p : ℕ) (new : WorldView) (r : Result (List Report) WorldFault) → net_in w ≡ net
    → Does (wake_for (net_in w) (world_of w) b p) new r → Does (wake_for net (world_of w) b p) new r
wake_next net w b p new r e d = subst (λ n. Does (wake_for n (world_of w) b p) new r) e d

-- No frame of a number

-- a delivery of no frame is refused as the machine refuses it
pub no_frame_makes : (w : WorldView) (k sent : ℕ) → frame_at (world_of w) k ≡ None → sent ≡ length w.frames → Makes (step.Deliver k) w w (Err (fault.NoFrame sent))
no_frame_makes w k sent none many n lines e =
    let same : line.RefusedFrame n k sent ∷ [] ≡ lines = cc in
    next_no_frame (net_in w) (world_of w) n k none
    ∙ (ap (λ c. reached (world_of w) (line.RefusedFrame n k c ∷ [])) (as_many_frames w ∙ sym many) ∙ ap (λ ls. reached (world_of w) ls) same)

-- so is the telling of its bytes
pub no_bytes_makes : (w : WorldView) (k sent : ℕ) → frame_at (world_of w) k ≡ None → sent ≡ length w.frames → Makes (step.Bytes k) w w (Err (fault.NoFrame sent))
no_bytes_makes w k sent none many n lines e =
    let same : line.RefusedFrame n k sent ∷ [] ≡ lines = cc in
    next_no_bytes (net_in w) (world_of w) n k none
    ∙ (ap (λ c. reached (world_of w) (line.RefusedFrame n k c ∷ [])) (as_many_frames w ∙ sym many) ∙ ap (λ ls. reached (world_of w) ls) same)

-- the bytes of a frame are told
pub bytes_makes : (w : WorldView) (k i : ℕ) (told : List Report) → IsWorld w → k ≡ suc i → i < length w.frames → told ≡ line.BytesOf k (get_or w.frames i []) ∷ [] → Makes (step.Bytes k) w w (Ok told)
bytes_makes w k i told f e h said n lines s =
    let same : told ≡ lines = cc in
    let found : frame_at (world_of w) k ≡ Some (frame_said (get_or w.frames i [])) = rw e (frame_found w i h) in
    next_bytes (net_in w) (world_of w) n k (frame_said (get_or w.frames i [])) found
    ∙ (ap (λ bs. reached (world_of w) (line.BytesOf k bs ∷ [])) (bytes_found w i f h) ∙ ap (λ ls. reached (world_of w) ls) (sym said ∙ same))

abbrev frame_refused : WorldView → Option Frame → Option WorldFault
frame_refused w o = elim o [ None ↦ Some (fault.NoFrame (length w.frames)) | Some f ↦ None ]

-- a frame that was sent is not refused
pub frame_not_refused : (w : WorldView) (k i : ℕ) → k ≡ suc i → i < length w.frames → frame_refusal w k ≡ None
frame_not_refused w k i e h =
    let found : frame_at (world_of w) k ≡ Some (frame_said (get_or w.frames i [])) = rw e (frame_found w i h) in
    ap (λ o. frame_refused w o) found

-- one that was not is
pub frame_is_refused : (w : WorldView) (k sent : ℕ) → frame_at (world_of w) k ≡ None → sent ≡ length w.frames → frame_refusal w k ≡ Some (fault.NoFrame sent)
frame_is_refused w k sent none many = ap (λ o. frame_refused w o) none ∙ ap (λ c. Some (fault.NoFrame c)) (sym many)

-- so it is refused for no cause
pub never_refused : (w : WorldView) (k i : ℕ) → k ≡ suc i → i < length w.frames → (e : WorldFault) → frame_refusal w k ≡ Some e → ⊥
never_refused w k i at h e refused = none_is e (sym (frame_not_refused w k i at h) ∙ refused)
  where
    none_is : (x : WorldFault) → None ≡ Some x → ⊥
    none_is x q = cc
