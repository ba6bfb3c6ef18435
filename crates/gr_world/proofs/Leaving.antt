-- A call on a world that has called brokers, and noted where memory was refused, is the machine's step; it leaves a world, and lanes that fit it
use Rattle.std.proofs.Common.{◌≡◌, ℕ, ◌<◌, List, length, Some, None, Result, Ok, Err, sym, ap, ap₂, ◌∙◌, subst}
use Rattle.std.proofs.lemmas.Bool.{true≢false}
use Rattle.gr_out.specs.Lane.{Lane}
use Rattle.gr_publog.specs.Views.{lanes_at}
use Rattle.gr_sched.specs.declared.step.Step.{Step}
use Rattle.gr_model.specs.declared.report.Report.{Report}
use Rattle.gr_model.specs.World.{Transition, next}
use Rattle.gr_broker.specs.Lanes.{log_lane}
use Rattle.gr_world.specs.declared.fault.WorldFault.{WorldFault}
use Rattle.gr_world.specs.declared.fault.WorldFault.TheVariants as fault
use Rattle.gr_topo.specs.Topology.{TopologyView, host_of}
use Rattle.gr_world.specs.Seen.{WorldView, world_of, net_in, log_at}
use Rattle.gr_world.specs.Of.{IsWorld, IsReadable, LanesFit}
use Rattle.gr_world.specs.Steps.{Makes, Does, Refuses, IsCarried, refused_at}
use Rattle.gr_world.specs.Ran.{Keeps, with_spent, noted_in}
use Rattle.gr_world.proofs.Composed.{reached}

-- a step that is refused for no cause is carried out, or fails
pub refuses_none : (s : Step) (w new : WorldView) (r : Result (List Report) WorldFault) → refused_at w s ≡ None → IsCarried r → Refuses s w new r
refuses_none s w new r h c = record { refused = λ _ e k. cc; carried = λ _ _. c }

makes_mid : (s : Step) (old mid new : WorldView) (t : Transition) (r : Result (List Report) WorldFault) → new ≡ noted_in mid r → Does t mid r → IsCarried r
    → ((n : ℕ) → next (net_in old) (world_of old) (record { number = n; step = s }) ≡ t) → Makes s old new r
makes_mid s old mid new t (Ok ls) e d c h = λ n lines k.
    let same : ls ≡ lines = cc in
    h n ∙ ap₂ (λ u m. reached u m) (sym d.world ∙ ap world_of (sym e)) (sym d.lines ∙ same)
makes_mid s old mid new t (Err fault.Memory) e d c h = λ n lines k. cc
makes_mid s old mid new t (Err fault.Disk) e d c h = λ n lines k. cc
makes_mid s old mid new t (Err fault.Reopen) e d c h = λ n lines k. cc
makes_mid s old mid new t (Err _) e d c h = absurd c

-- the machine's step, of what the call does
pub makes_of : (s : Step) (old mid new : WorldView) (t : Transition) (r r' : Result (List Report) WorldFault) → r' ≡ r → new ≡ noted_in mid r → Does t mid r → IsCarried r
    → ((n : ℕ) → next (net_in old) (world_of old) (record { number = n; step = s }) ≡ t) → Makes s old new r'
makes_of s old mid new t r r' same e d c h = subst (λ x. Makes s old new x) (sym same) (makes_mid s old mid new t r e d c h)

fits_spent : (w : WorldView) → IsWorld w → IsWorld (with_spent w)
fits_spent w f = record {
  count = f.count;
  brokers = f.brokers;
  numbered = f.numbered;
  spelled = f.spelled;
  over = f.over;
  clock = f.clock;
  most = f.most;
  down = f.down;
}

-- it is still a world
pub fits_noted : (mid new : WorldView) (r : Result (List Report) WorldFault) → new ≡ noted_in mid r → IsWorld mid → IsWorld new
fits_noted mid new (Ok ls) e f = subst IsWorld (sym e) f
fits_noted mid new (Err fault.Memory) e f = subst IsWorld (sym e) (fits_spent mid f)
fits_noted mid new (Err _) e f = subst IsWorld (sym e) f

-- after a fault other than want of memory nothing is noted
pub noted_failed : (mid new : WorldView) (r r' : Result (List Report) WorldFault) → r' ≡ r → new ≡ noted_in mid r → r' ≡ Err fault.Disk → (r ≡ Err fault.Disk) × (new ≡ mid)
noted_failed mid new r r' same e h = let is : r ≡ Err fault.Disk = sym same ∙ h in (is, e ∙ ap (noted_in mid) is)

pub noted_closed : (mid new : WorldView) (r r' : Result (List Report) WorldFault) → r' ≡ r → new ≡ noted_in mid r → r' ≡ Err fault.Reopen → (r ≡ Err fault.Reopen) × (new ≡ mid)
noted_closed mid new r r' same e h = let is : r ≡ Err fault.Reopen = sym same ∙ h in (is, e ∙ ap (noted_in mid) is)

-- the lanes fit, or no call uses them any more
pub lanes_noted : (lanes : ℕ → Lane) (mid new : WorldView) (r : Result (List Report) WorldFault) → new ≡ noted_in mid r → LanesFit lanes mid → LanesFit lanes new
lanes_noted lanes mid new (Ok ls) e f = subst (λ w. LanesFit lanes w) (sym e) f
lanes_noted lanes mid new (Err fault.Memory) e f = subst (λ w. LanesFit lanes w) (sym e) (record { logs = λ k. absurd (true≢false k); readable = λ k. absurd (true≢false k) })
lanes_noted lanes mid new (Err _) e f = subst (λ w. LanesFit lanes w) (sym e) f

-- The lanes fit where no log has changed
pub lanes_kept : {lanes : ℕ → Lane} {old new : WorldView} → Keeps old new → ((p : ℕ) → p < length old.topo.publishers → log_at new p ≡ log_at old p) → LanesFit lanes old → LanesFit lanes new
lanes_kept {lanes} {old} {new} k same f =
    let many = ap (λ (t : TopologyView). length t.publishers) k.topo in
    record {
      logs = λ s p l h up at. f.logs (sym k.spent ∙ s) p l (rw many at h) (λ d. up (k.down ∙ (d ∙ ap (λ (t : TopologyView). Some (host_of t p)) (sym k.topo)))) (sym (same p (rw many at h)) ∙ at);
      readable = λ s p h. subst (λ (t : TopologyView). IsReadable t.late (lanes_at lanes (log_lane p))) (sym k.topo) (f.readable (sym k.spent ∙ s) p (rw many at h));
    }
