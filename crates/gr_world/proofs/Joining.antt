-- Lines that were told are joined with what the next call answers: the two calls are one run, whatever the second answers. Deliveries are runs on a disk that they leave as it is
use Rattle.std.proofs.Common.{◌≡◌, ℕ, ◌<◌, List, length, Some, Result, Ok, Err, refl, sym, ap, ◌∙◌, subst}
use Rattle.std.specs.List.{AllByRecursion}
use Rattle.gr_out.specs.Lane.{Lane}
use Rattle.gr_publog.specs.Views.{lanes_at}
use Rattle.gr_model.specs.declared.report.Report.{Report}
use Rattle.gr_topo.specs.Topology.{TopologyView, host_of}
use Rattle.gr_model.specs.Net.{Net}
use Rattle.gr_model.specs.NetOf.{net_of}
use Rattle.gr_model.specs.World.{World, Transition, followed_by}
use Rattle.gr_broker.specs.Lanes.{log_lane}
use Rattle.gr_world.specs.declared.fault.WorldFault.{WorldFault}
use Rattle.gr_world.specs.declared.fault.WorldFault.TheVariants as fault
use Rattle.gr_world.specs.Seen.{WorldView, log_at, net_in, world_of}
use Rattle.gr_world.specs.Of.{IsReadable, LanesFit}
use Rattle.gr_world.specs.Steps.{Does}
use Rattle.gr_world.specs.Disk.{UsesDisk, LeavesOthers}
use Rattle.gr_world.specs.Ran.{Keeps, Ran}
use Rattle.gr_world.specs.Sweeps.{Joins, Delivers, AreBrokers}
use Rattle.gr_world.proofs.Composed.{ran_on, ran_lines, ran_memory, disk_on, disk_lines, disk_memory, does_err, does_on}

-- two runs whose lines are joined are one
pub ran_joined : (a b c : WorldView) (ls : List Report) (told result : Result (List Report) WorldFault) → Joins ls told result → Ran a b (Ok ls) → Ran b c told → Ran a c result
ran_joined a b c ls (Ok more) (Ok all) j x y = ran_lines {ls = more} all (ran_on x y)
ran_joined a b c ls (Ok more) (Err e) j x y = subst (λ (f : WorldFault). Ran a c (Err f)) (sym j) (ran_memory {ls = more} (ran_on x y))
ran_joined a b c ls (Err e) (Ok all) j x y = absurd j
ran_joined a b c ls (Err e) (Err f) j x y = subst (λ (g : WorldFault). Ran a c (Err g)) (sym j) (ran_on x y)

-- and one on the disk
pub disk_joined : (fl fl' fl'' : Type 0) (f s f' s' f'' s'' : ℕ) (ls : List Report) (told result : Result (List Report) WorldFault) → Joins ls told result
    → UsesDisk fl fl' f s f' s' (Ok ls) → UsesDisk fl' fl'' f' s' f'' s'' told → UsesDisk fl fl'' f s f'' s'' result
disk_joined fl fl' fl'' f s f' s' f'' s'' ls (Ok more) (Ok all) j x y = disk_lines {ls = more} all (disk_on x y)
disk_joined fl fl' fl'' f s f' s' f'' s'' ls (Ok more) (Err e) j x y = subst (λ (g : WorldFault). UsesDisk fl fl'' f s f'' s'' (Err g)) (sym j) (disk_memory {ls = more} (disk_on x y))
disk_joined fl fl' fl'' f s f' s' f'' s'' ls (Err e) (Ok all) j x y = absurd j
disk_joined fl fl' fl'' f s f' s' f'' s'' ls (Err e) (Err g) j x y = subst (λ (h : WorldFault). UsesDisk fl fl'' f s f'' s'' (Err h)) (sym j) (disk_on x y)

-- what the machine does in both, one after the other
pub does_joined : (t : Transition) (f : World → Transition) (mid new : WorldView) (ls : List Report) (told result : Result (List Report) WorldFault) → Joins ls told result
    → Does t mid (Ok ls) → Does (f (world_of mid)) new told → Does (followed_by t f) new result
does_joined t f mid new ls (Ok more) (Ok all) j x y = subst (λ (l : List Report). Does (followed_by t f) new (Ok l)) (sym j) (does_on t f (Ok more) x y)
does_joined t f mid new ls (Ok more) (Err e) j x y = does_err e
does_joined t f mid new ls (Err e) (Ok all) j x y = absurd j
does_joined t f mid new ls (Err e) (Err g) j x y = does_err g

-- the topology is the same, and so is its net
pub does_same : (step : Net → Transition) (a b new : WorldView) (r : Result (List Report) WorldFault) → b.topo ≡ a.topo → Does (step (net_in b)) new r → Does (step (net_in a)) new r
does_same step a b new r e d = subst (λ (t : TopologyView). Does (step (net_of t)) new r) e d

-- and its brokers
pub brokers_kept : (a b : WorldView) (bs : List ℕ) → b.topo ≡ a.topo → AreBrokers a bs → AreBrokers b bs
brokers_kept a b bs e h = subst (λ (t : TopologyView). AllByRecursion (λ n. n < length t.brokers) bs) (sym e) h

-- Deliveries

-- a frame was delivered
pub delivered : (a b : WorldView) (r : Result (List Report) WorldFault) → ((e : WorldFault) → r ≡ Err e → e ≡ fault.Memory) → ((p : ℕ) → p < length a.topo.publishers → log_at b p ≡ log_at a p) → Delivers a b r
delivered a b r m l = record { memory = m; logs = l }

-- nothing was delivered
pub delivers_none : (w : WorldView) (ls : List Report) → Delivers w w (Ok ls)
delivers_none w ls = record { memory = λ e k. cc; logs = λ p j. refl }

-- two lots of deliveries whose lines are joined are one
pub delivers_joined : (a b c : WorldView) (ls : List Report) (told result : Result (List Report) WorldFault) → b.topo ≡ a.topo → Joins ls told result → Delivers a b (Ok ls) → Delivers b c told → Delivers a c result
delivers_joined a b c ls told result topo j x y = record {
  memory = λ e k. refused told result j y.memory e k;
  logs = λ p i. y.logs p (subst (λ t. p < length t.publishers) (sym topo) i) ∙ x.logs p i;
}
  where
    refused : (told result : Result (List Report) WorldFault) → Joins ls told result → ((e : WorldFault) → told ≡ Err e → e ≡ fault.Memory) → (e : WorldFault) → result ≡ Err e → e ≡ fault.Memory
    refused (Ok more) (Ok all) j m e k = cc
    refused (Ok more) (Err f) j m e k = cc
    refused (Err g) (Ok all) j m e k = cc
    refused (Err g) (Err f) j m e k = let q : g ≡ fault.Memory = m g refl in cc

-- where no log has changed, the lanes fit as before
pub lanes_kept : (lanes : ℕ → Lane) (a b : WorldView) → Keeps a b → ((p : ℕ) → p < length a.topo.publishers → log_at b p ≡ log_at a p) → LanesFit lanes a → LanesFit lanes b
lanes_kept lanes a b k same x = record {
  logs = λ u p l i d e.
      let j : p < length a.topo.publishers = subst (λ t. p < length t.publishers) k.topo i in
      x.logs (sym k.spent ∙ u) p l j (λ h. d (k.down ∙ h ∙ ap (λ t. Some (host_of t p)) (sym k.topo))) (sym (same p j) ∙ e);
  readable = λ u p i. subst (λ (t : TopologyView). IsReadable t.late (lanes_at lanes (log_lane p))) (sym k.topo) (x.readable (sym k.spent ∙ u) p (subst (λ t. p < length t.publishers) k.topo i));
}

-- Lanes that are nobody's

-- a call on a disk that is left as it is touches none
pub others_none : (t : TopologyView) (a : ℕ → Lane) → LeavesOthers t a a
others_none t a n h = refl

-- nor do two calls one after the other that touch none
pub others_on : (t t' : TopologyView) (a b c : ℕ → Lane) → t' ≡ t → LeavesOthers t a b → LeavesOthers t' b c → LeavesOthers t a c
others_on t t' a b c e x y n h = y n (λ p i. h p (subst (λ (s : TopologyView). p < length s.publishers) e i)) ∙ x n h
