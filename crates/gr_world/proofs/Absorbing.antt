-- A broker's call is taken up: the world with the broker that the call leaves, and with the frames that it sends, is the
-- machine's world with the outcome absorbed, since what is kept of one publisher and one log alone have changed
use Rattle.std.proofs.Common.{◌≡◌, ◌≢◌, ◌⊎◌, inl, inr, ℕ, suc, ◌<◌, List, [], ◌++◌, length, map, get_or, set, Result, Ok, Err, OnOk, sym, ap, ◌∙◌, subst, arith}
use Rattle.std.proofs.lemmas.List.{map-append, map-set, get_or-map, get_or-set_same, get_or-set_other, length-map, length-set, ext_get_or}
use Rattle.std.proofs.lemmas.Bool.{cases_eq}
use Rattle.gr_frame.specs.declared.Frame.{Frame}
use Rattle.gr_frame.specs.Bytes.{frame_bytes}
use Rattle.gr_frame.specs.Cut.{AreFrames}
use Rattle.gr_topo.specs.Topology.{host_of}
use Rattle.gr_model.specs.declared.report.Report.{Report}
use Rattle.gr_model.specs.Net.{numbers}
use Rattle.gr_model.specs.Broker.{View, Log, Outcome as MachineOutcome, empty_log}
use Rattle.gr_model.specs.World.{World, blank_view, view_of, log_of, with_view, absorbed, sent_lines}
use Rattle.gr_model_calls.proofs.runs.Schedules.{get_numbers, length_numbers}
use Rattle.gr_broker.specs.Seen.{BrokerView, view_in, log_in, log_said}
use Rattle.gr_outbox.proofs.Telling.{frames_back}
use Rattle.gr_world.specs.declared.fault.WorldFault.{WorldFault}
use Rattle.gr_world.specs.Seen.{WorldView, no_broker, broker_in, log_at, frame_said, world_of}
use Rattle.gr_world.specs.Steps.{Does}
use Rattle.gr_world.specs.Taking.{TakesUp, put_in}

-- What the machine reads of a world

-- what the machine's world keeps of a publisher at a broker is what the broker keeps
pub view_is : (w : WorldView) (b p : ℕ) → b < length w.brokers → view_of (world_of w) b p ≡ view_in (broker_in w b) p
view_is w b p lt = ap (λ (vs : List View). get_or vs p blank_view) (get_or-map (λ (x : BrokerView). x.views) w.brokers b no_broker [] lt)

-- the log of a publisher of the machine's world is the one at its host
pub log_is : (w : WorldView) (p : ℕ) → p < length w.topo.publishers → log_of (world_of w) p ≡ log_said (log_at w p)
log_is w p lt = get_numbers (λ q. log_said (log_at w q)) 0 (length w.topo.publishers) p empty_log lt ∙ ap (λ q. log_said (log_at w q)) (omega arith)

-- Lists made of numbers

-- two functions that agree everywhere but at one number make lists that differ in its place alone
pub exchanged_at : {X : Type 0} (g h : ℕ → X) (n i : ℕ) (x : X) → (i < n → h i ≡ x) → ((q : ℕ) → q < n → q ≢ i → h q ≡ g q) → map h (numbers n) ≡ set (map g (numbers n)) i x
exchanged_at {X} g h n i x here other =
    ext_get_or x (map h (numbers n)) (set (map g (numbers n)) i x)
    (length_numbers h 0 n ∙ sym (length-set (map g (numbers n)) i x ∙ length_numbers g 0 n))
    (λ q lt. let below : q < n = subst (λ k. q < k) (length_numbers h 0 n) lt in
    get_numbers h 0 n q x below ∙ (ap h (omega arith) ∙ go q below (cases_eq q i)))
  where
    go : (q : ℕ) → q < n → (q ≡ i) ⊎ (q ≢ i) → h q ≡ get_or (set (map g (numbers n)) i x) q x
    go q below (inl e) =
        let within : i < n = subst (λ k. k < n) e below in
        ap h e ∙ (here within ∙ (sym (get_or-set_same (map g (numbers n)) i x x (subst (λ k. i < k) (sym (length_numbers g 0 n)) within))
        ∙ ap (λ k. get_or (set (map g (numbers n)) i x) k x) (sym e)))
    go q below (inr e) = other q below e ∙ sym (get_or-set_other (map g (numbers n)) i q x x e ∙ (get_numbers g 0 n q x below ∙ ap g (omega arith)))

-- One broker exchanged

-- what a call for one publisher leaves of the others' logs, and of the broker's number
pub record Touches (p : ℕ) (before after : BrokerView) : Type 0 where
  pub number : after.number ≡ before.number
  pub others : (q : ℕ) → q ≢ p → log_in after q ≡ log_in before q

module _ (w : WorldView) (b p : ℕ) (after : BrokerView) (frames : List (List ℕ)) (lt : b < length w.brokers) where
  -- the broker is there, and all others are as before
  pub broker_here : broker_in (put_in w b after frames) b ≡ after
  broker_here = get_or-set_same w.brokers b after no_broker lt

  pub broker_there : (c : ℕ) → c ≢ b → broker_in (put_in w b after frames) c ≡ broker_in w c
  broker_there c n = get_or-set_other w.brokers b c after no_broker n

  -- what holds of the broker exchanged, and of all others, holds of each
  pub each_broker : (P : ℕ → BrokerView → Type 0) → P b after → ((c : ℕ) → c ≢ b → P c (broker_in w c)) → (c : ℕ) → P c (broker_in (put_in w b after frames) c)
  each_broker P here there c = go (cases_eq c b)
    where
      go : (c ≡ b) ⊎ (c ≢ b) → P c (broker_in (put_in w b after frames) c)
      go (inl e) = subst (λ (k : ℕ). P k (broker_in (put_in w b after frames) k)) (sym e) (subst (P b) (sym broker_here) here)
      go (inr n) = subst (P c) (sym (broker_there c n)) (there c n)

  -- the log of a publisher that is at another broker stays
  pub log_elsewhere : (q : ℕ) → host_of w.topo q ≢ b → log_at (put_in w b after frames) q ≡ log_at w q
  log_elsewhere q n = ap (λ (x : BrokerView). log_in x q) (broker_there (host_of w.topo q) n)

  -- one that is at this broker is the one it has now
  pub log_here : (q : ℕ) → host_of w.topo q ≡ b → log_at (put_in w b after frames) q ≡ log_in after q
  log_here q e = ap (λ c. log_in (broker_in (put_in w b after frames) c) q) e ∙ ap (λ (x : BrokerView). log_in x q) broker_here

  -- the logs of other publishers stay
  pub log_stays : Touches p (broker_in w b) after → (q : ℕ) → q ≢ p → log_at (put_in w b after frames) q ≡ log_at w q
  log_stays t q n = go (cases_eq (host_of w.topo q) b)
    where
      go : (host_of w.topo q ≡ b) ⊎ (host_of w.topo q ≢ b) → log_at (put_in w b after frames) q ≡ log_at w q
      go (inl e) = log_here q e ∙ (t.others q n ∙ sym (ap (λ c. log_in (broker_in w c) q) e))
      go (inr other) = log_elsewhere q other

  -- The heart: what is kept of the publisher is the outcome's, so is its log, and the outcome's frames stand behind
  pub world_is : (o : MachineOutcome) → after.views ≡ set (broker_in w b).views p o.view
      → (p < length w.topo.publishers → log_said (log_at (put_in w b after frames) p) ≡ o.log)
      → Touches p (broker_in w b) after → frames ≡ w.frames ++ map frame_bytes o.frames → AreFrames (map frame_bytes o.frames) o.frames
      → world_of (put_in w b after frames) ≡ (absorbed (world_of w) b p o).world
  unfolding absorbed
  world_is o view log t more spelled =
      ap (λ fs. made fs views_now logs_now) sent ∙ (ap (λ vs. made frames_then vs logs_now) views ∙ ap (λ ls. made frames_then views_then ls) logs)
    where
      made : List Frame → List (List View) → List Log → World
      made fs vs ls = record { clock = w.clock; most = w.most; frames = fs; views = vs; logs = ls }

      views_now : List (List View)
      views_now = map (λ (x : BrokerView). x.views) (set w.brokers b after)

      logs_now : List Log
      logs_now = map (λ q. log_said (log_at (put_in w b after frames) q)) (numbers (length w.topo.publishers))

      frames_then : List Frame
      frames_then = map frame_said w.frames ++ o.frames

      views_then : List (List View)
      views_then = with_view (map (λ (x : BrokerView). x.views) w.brokers) b p o.view

      sent : map frame_said frames ≡ map frame_said w.frames ++ o.frames
      sent =
          ap (map frame_said) more ∙ (map-append frame_said w.frames (map frame_bytes o.frames)
          ∙ ap (λ (fs : List Frame). map frame_said w.frames ++ fs) (frames_back (map frame_bytes o.frames) o.frames spelled))

      views : map (λ (x : BrokerView). x.views) (set w.brokers b after) ≡ with_view (map (λ (x : BrokerView). x.views) w.brokers) b p o.view
      views =
          map-set (λ (x : BrokerView). x.views) w.brokers b after
          ∙ (ap (λ (vs : List View). set (map (λ (x : BrokerView). x.views) w.brokers) b vs) view
          ∙ ap (λ (vs : List View). set (map (λ (x : BrokerView). x.views) w.brokers) b (set vs p o.view)) (sym (get_or-map (λ (x : BrokerView). x.views) w.brokers b no_broker [] lt)))

      logs : map (λ q. log_said (log_at (put_in w b after frames) q)) (numbers (length w.topo.publishers))
          ≡ set (map (λ q. log_said (log_at w q)) (numbers (length w.topo.publishers))) p o.log
      logs =
          exchanged_at (λ q. log_said (log_at w q)) (λ q. log_said (log_at (put_in w b after frames) q)) (length w.topo.publishers) p o.log
          log (λ q below n. ap log_said (log_stays t q n))

  -- So a call that is taken up does what the machine's call does
  pub does_absorb : (o : MachineOutcome) (result : Result (List Report) WorldFault) → TakesUp o w.frames frames result
      → OnOk result (after.views ≡ set (broker_in w b).views p o.view)
      → OnOk result (p < length w.topo.publishers → log_said (log_at (put_in w b after frames) p) ≡ o.log)
      → Touches p (broker_in w b) after → OnOk result (AreFrames (map frame_bytes o.frames) o.frames)
      → Does (absorbed (world_of w) b p o) (put_in w b after frames) result
  unfolding absorbed
  does_absorb o (Ok ls) k view log t spelled = record {
    world = world_is o view log t k.frames spelled;
    lines = k.lines ∙ ap (λ n. o.lines ++ sent_lines (suc n) o.frames) (sym (length-map w.frames frame_said));
  }
  does_absorb o (Err e) k view log t spelled = record { world = tt; lines = tt }
