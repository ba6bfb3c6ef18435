-- What a broker's call leaves is a world still: the broker is one of the topology, each new frame is spelled and goes over an
-- edge of the tree, and no other log has changed
use Rattle.std.proofs.Common.{◌≡◌, ◌≢◌, ◌⊎◌, inl, inr, ℕ, ◌<◌, true, false, List, [], ◌∷◌, ◌++◌, length, map, Option, Some, None, Result, Ok, Err, OnOk, refl, sym, ap, ◌∙◌, subst, append-nil}
use Rattle.std.specs.Prelude.{is_some}
use Rattle.std.specs.List.{AllByRecursion}
use Rattle.std.proofs.lemmas.List.{map-append, length-set}
use Rattle.std.proofs.lemmas.Bool.{cases_eq, eqb-true, false≢true}
use Rattle.gr_frame.specs.declared.Frame.{Frame}
use Rattle.gr_frame.specs.Bytes.{frame_bytes}
use Rattle.gr_frame.specs.Cut.{AreFrames}
use Rattle.gr_publog.specs.Views.{LogView}
use Rattle.gr_topo.specs.Topology.{TopologyView, host_of}
use Rattle.gr_model.specs.declared.report.Report.{Report}
use Rattle.gr_model.specs.Net.{is_host}
use Rattle.gr_model.specs.NetOf.{net_of}
use Rattle.gr_model.specs.Broker.{Outcome as MachineOutcome}
use Rattle.gr_model_calls.specs.Edges.{GoesOverEdge}
use Rattle.gr_broker.specs.Seen.{BrokerView, log_in, is_broken}
use Rattle.gr_broker.specs.Of.{IsBrokerOf}
use Rattle.gr_world.specs.declared.fault.WorldFault.{WorldFault}
use Rattle.gr_world.specs.Seen.{WorldView, broker_in, log_at, frame_said, net_in}
use Rattle.gr_world.specs.Of.{IsWorld, IsSound}
use Rattle.gr_world.specs.Disk.{HasBroken}
use Rattle.gr_world.specs.Ran.{Keeps}
use Rattle.gr_world.specs.Taking.{TakesUp, put_in}
use Rattle.gr_outbox.proofs.Telling.{frames_back}
use Rattle.gr_world.proofs.Absorbing.{Touches, each_broker, log_here, log_stays, log_elsewhere}

-- Frames that are sent

all_append : {X : Type 0} (P : X → Type 0) (xs ys : List X) → AllByRecursion P xs → AllByRecursion P ys → AllByRecursion P (xs ++ ys)
all_append P [] ys a b = b
all_append P (x ∷ xs) ys a b = (a.0, all_append P xs ys a.1 b)

spelled_append : (xs ys : List (List ℕ)) → AreFrames xs (map frame_said xs) → AreFrames ys (map frame_said ys) → AreFrames (xs ++ ys) (map frame_said (xs ++ ys))
spelled_append [] ys a b = b
spelled_append (x ∷ xs) ys a b = (a.0, spelled_append xs ys a.1 b)

-- frames stand behind those before, each spelled and over an edge
pub record Sends (t : TopologyView) (before after : List (List ℕ)) : Type 0 where
  pub sent : List Frame
  pub more : after ≡ before ++ map frame_bytes sent
  pub spelled : AreFrames (map frame_bytes sent) sent
  pub over : AllByRecursion (GoesOverEdge (net_of t)) sent

-- those of an outcome that is taken up, or none
pub sends_of : (t : TopologyView) (o : MachineOutcome) (before after : List (List ℕ)) (result : Result (List Report) WorldFault) → TakesUp o before after result
    → OnOk result (AreFrames (map frame_bytes o.frames) o.frames) → AllByRecursion (GoesOverEdge (net_of t)) o.frames → Sends t before after
sends_of t o before after (Ok ls) k spelled over = record { sent = o.frames; more = k.frames; spelled = spelled; over = over }
sends_of t o before after (Err e) k spelled over = record { sent = []; more = k.kept ∙ sym (append-nil before); spelled = tt; over = tt }

-- What is at a broker

-- a publisher whose log a broker has is at it
pub host_is : (w : WorldView) (b p : ℕ) (l : LogView) → IsWorld w → b < length w.topo.brokers → p < length w.topo.publishers → log_in (broker_in w b) p ≡ Some l → host_of w.topo p ≡ b
host_is w b p l i lt below e =
    let here : is_host (net_of w.topo) p (broker_in w b).number ≡ true = sym ((i.brokers b lt).hosted p below) ∙ ap is_some e in
    eqb-true (host_of w.topo p) (broker_in w b).number here ∙ i.numbered b lt

-- so its log is the publisher's
pub at_host : (w : WorldView) (b p : ℕ) (l : LogView) → IsWorld w → b < length w.topo.brokers → p < length w.topo.publishers → log_in (broker_in w b) p ≡ Some l → log_at w p ≡ Some l
at_host w b p l i lt below e = ap (λ c. log_in (broker_in w c) p) (host_is w b p l i lt below e) ∙ e

-- no log at a broker of a sound world is broken
pub sound_here : (w : WorldView) (b p : ℕ) → IsWorld w → IsSound w → b < length w.topo.brokers → p < length w.topo.publishers → is_broken (log_in (broker_in w b) p) ≡ false
sound_here w b p i s lt below = go (log_in (broker_in w b) p) refl
  where
    go : (o : Option LogView) → log_in (broker_in w b) p ≡ o → is_broken o ≡ false
    go (Some l) e = s.logs p l below (at_host w b p l i lt below e)
    go None e = refl

-- one that is broken there is one of the world
pub broken_here : (w : WorldView) (b p : ℕ) → IsWorld w → b < length w.topo.brokers → p < length w.topo.publishers → is_broken (log_in (broker_in w b) p) ≡ true → HasBroken w
broken_here w b p i lt below broken = go (log_in (broker_in w b) p) refl broken
  where
    go : (o : Option LogView) → log_in (broker_in w b) p ≡ o → is_broken o ≡ true → HasBroken w
    go (Some l) e k = record { publisher = p; below = below; broken = ap is_broken (at_host w b p l i lt below e) ∙ k }
    go None e k = absurd (false≢true k)

module _ (w : WorldView) (b p : ℕ) (after : BrokerView) (frames : List (List ℕ)) (i : IsWorld w) (lt : b < length w.topo.brokers) where
  within : b < length w.brokers
  within = subst (λ n. b < n) (sym i.count) lt

  pub world_fits : IsBrokerOf w.topo after → Touches p (broker_in w b) after → Sends w.topo w.frames frames → IsWorld (put_in w b after frames)
  world_fits is t s = record {
    count = length-set w.brokers b after ∙ i.count;
    brokers = each_broker w b p after frames within (λ c x. c < length w.topo.brokers → IsBrokerOf w.topo x) (λ j. is) (λ c n j. i.brokers c j);
    numbered = each_broker w b p after frames within (λ c x. c < length w.topo.brokers → x.number ≡ c) (λ j. t.number ∙ i.numbered b lt) (λ c n j. i.numbered c j);
    spelled = subst (λ (fs : List (List ℕ)). AreFrames fs (map frame_said fs)) (sym s.more) (spelled_append w.frames (map frame_bytes s.sent) i.spelled
        (subst (AreFrames (map frame_bytes s.sent)) (sym said) s.spelled));
    over = subst (λ (fs : List (List ℕ)). AllByRecursion (GoesOverEdge (net_in w)) (map frame_said fs)) (sym s.more)
        (subst (AllByRecursion (GoesOverEdge (net_in w))) (sym (map-append frame_said w.frames (map frame_bytes s.sent)))
        (all_append (GoesOverEdge (net_in w)) (map frame_said w.frames) (map frame_said (map frame_bytes s.sent)) i.over
        (subst (AllByRecursion (GoesOverEdge (net_in w))) (sym said) s.over)));
    clock = i.clock;
    most = i.most;
    down = i.down;
  }
    where
      said : map frame_said (map frame_bytes s.sent) ≡ s.sent
      said = frames_back (map frame_bytes s.sent) s.sent s.spelled

  pub keeps : Sends w.topo w.frames frames → Keeps w (put_in w b after frames)
  keeps s = record {
    topo = refl;
    told = refl;
    clock = refl;
    most = refl;
    down = refl;
    spent = refl;
    more = map frame_bytes s.sent;
    frames = s.more;
  }

  -- where the log of the publisher is as whole as it was, the world is as sound
  pub stays_sound : p < length w.topo.publishers → Touches p (broker_in w b) after
      → (is_broken (log_in (broker_in w b) p) ≡ false → is_broken (log_in after p) ≡ false) → IsSound w → IsSound (put_in w b after frames)
  stays_sound below t whole s = record {
    logs = λ q l lt_q e. go q l lt_q e (cases_eq q p);
    up = s.up;
  }
    where
      here : (l : LogView) → log_at (put_in w b after frames) p ≡ Some l → (host_of w.topo p ≡ b) ⊎ (host_of w.topo p ≢ b) → l.broken ≡ false
      here l e (inl h) =
          ap is_broken (sym (sym (log_here w b p after frames within p h) ∙ e)) ∙ whole (sound_here w b p i s lt below)
      here l e (inr n) = s.logs p l below (sym (log_elsewhere w b p after frames within p n) ∙ e)

      go : (q : ℕ) (l : LogView) → q < length w.topo.publishers → log_at (put_in w b after frames) q ≡ Some l → (q ≡ p) ⊎ (q ≢ p) → l.broken ≡ false
      go q l lt_q e (inl same) = here l (ap (λ k. log_at (put_in w b after frames) k) (sym same) ∙ e) (cases_eq (host_of w.topo p) b)
      go q l lt_q e (inr n) = s.logs q l lt_q (sym (log_stays w b p after frames within t q n) ∙ e)

  abbrev log_then : ℕ → Option LogView
  log_then q = log_at (put_in w b after frames) q

  -- what holds of the log of the publisher, at this broker or not, and of all others that stay, holds of each
  each_log : (P : Option LogView → Option LogView → Type 0) → ((o : Option LogView) → P o o) → P (log_in (broker_in w b) p) (log_in after p) → Touches p (broker_in w b) after → (q : ℕ) → P (log_at w q) (log_then q)
  each_log P same here t q = go (cases_eq q p) (cases_eq (host_of w.topo p) b)
    where
      go : (q ≡ p) ⊎ (q ≢ p) → (host_of w.topo p ≡ b) ⊎ (host_of w.topo p ≢ b) → P (log_at w q) (log_then q)
      go (inr n) h = subst (P (log_at w q)) (sym (log_stays w b p after frames within t q n)) (same (log_at w q))
      go (inl e) (inl at) =
          subst (λ k. P (log_at w k) (log_then k)) (sym e)
          (subst (P (log_at w p)) (sym (log_here w b p after frames within p at))
          (subst (λ (o : Option LogView). P o (log_in after p)) (sym (ap (λ c. log_in (broker_in w c) p) at)) here))
      go (inl e) (inr n) =
          subst (λ k. P (log_at w k) (log_then k)) (sym e)
          (subst (P (log_at w p)) (sym (log_elsewhere w b p after frames within p n)) (same (log_at w p)))

  -- a log that the disk has failed stays, where that of the publisher does
  pub logs_closed : Touches p (broker_in w b) after → (is_broken (log_in (broker_in w b) p) ≡ true → log_in after p ≡ log_in (broker_in w b) p) → (q : ℕ) → is_broken (log_at w q) ≡ true → log_then q ≡ log_at w q
  logs_closed t closed q = each_log (λ old new. is_broken old ≡ true → new ≡ old) (λ o h. refl) closed t q

  -- and each log is as whole as it was, where that of the publisher is
  pub logs_whole : Touches p (broker_in w b) after → (is_broken (log_in (broker_in w b) p) ≡ false → is_broken (log_in after p) ≡ false) → (q : ℕ) → is_broken (log_at w q) ≡ false → is_broken (log_then q) ≡ false
  logs_whole t whole q = each_log (λ old new. is_broken old ≡ false → is_broken new ≡ false) (λ o h. h) whole t q
