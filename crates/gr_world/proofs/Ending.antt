-- How a wake or a sweep ends at a log: what was done for those before, one after another, and how the last one ended
use Rattle.std.proofs.Common.{◌≡◌, inr, ℕ, zero, suc, ◌+◌, ◌-◌, ◌<◌, List, [], ◌∷◌, ◌++◌, length, get_or, take, drop, Result, Ok, Err, refl, sym, ap, ap₂, ◌∙◌, subst, arith, add-one}
use Rattle.gr_topo.specs.Topology.{TopologyView}
use Rattle.gr_model.specs.declared.report.Report.{Report}
use Rattle.gr_model.specs.Net.{Net, numbers_from}
use Rattle.gr_model.specs.NetOf.{net_of}
use Rattle.gr_model.specs.World.{World, Transition, in_turn, wake_up, hand_down, inwards, outwards}
use Rattle.gr_world.specs.declared.fault.WorldFault.{WorldFault}
use Rattle.gr_world.specs.declared.fault.WorldFault.TheVariants as fault
use Rattle.gr_world.specs.Seen.{WorldView, net_in, world_of}
use Rattle.gr_world.specs.Steps.{Does}
use Rattle.gr_world.specs.Ran.{Keeps, noted_in}
use Rattle.gr_world.specs.Sweeps.{Joins, Delivers}
use Rattle.gr_world.specs.Ended.{IsEnd, WakeEnds, EndsAt, WakesEnd, PhasesEnd, SweepEnds}

-- The answer

-- want of memory ends nothing at a log, nor does an answer
pub end_memory : (e : WorldFault) → e ≡ fault.Memory → IsEnd (Err e) → ⊥
end_memory e is h = subst (λ (x : WorldFault). IsEnd (Err x)) is h

-- where answers are joined, it is the second that ends at a log
pub end_joined : (ls : List Report) (told result : Result (List Report) WorldFault) → Joins ls told result → IsEnd result → told ≡ result
end_joined ls (Ok more) (Ok all) j h = absurd h
end_joined ls (Ok more) (Err e) j h = absurd (end_memory e j h)
end_joined ls (Err f) (Ok all) j h = absurd j
end_joined ls (Err f) (Err e) j h = ap (λ (x : WorldFault). let r : Result (List Report) WorldFault = Err x in r) (sym j)

-- deliveries end at no log
pub end_delivered : (a b : WorldView) (r : Result (List Report) WorldFault) → Delivers a b r → IsEnd r → ⊥
end_delivered a b (Ok ls) d h = h
end_delivered a b (Err e) d h = end_memory e (d.memory e refl) h

-- nor do lines that are joined with those of deliveries
pub end_behind : (a b : WorldView) (ls : List Report) (told result : Result (List Report) WorldFault) → Joins ls told result → Delivers a b told → IsEnd result → ⊥
end_behind a b ls told result j d h = end_delivered a b told d (subst IsEnd (sym (end_joined ls told result j h)) h)

-- where it ends at a log, nothing more is noted
pub noted_end : (P : Result (List Report) WorldFault → WorldView → Type 0) (w new : WorldView) (r result : Result (List Report) WorldFault) → result ≡ r → new ≡ noted_in w r → (IsEnd r → P r w) → IsEnd result → P result new
noted_end P w new r result same e h =
    subst (λ (q : Result (List Report) WorldFault). IsEnd q → P q new) (sym same) (subst (λ (v : WorldView). IsEnd r → P r v) (sym e) (go r h))
  where
    go : (q : Result (List Report) WorldFault) → (IsEnd q → P q w) → IsEnd q → P q (noted_in w q)
    go (Ok ls) k d = absurd d
    go (Err fault.Memory) k d = absurd d
    go (Err fault.Disk) k d = k d
    go (Err fault.Reopen) k d = k d
    go (Err (fault.Damaged p at)) k d = absurd d
    go (Err (fault.HostsSubscriber b)) k d = absurd d
    go (Err (fault.NoFrame sent)) k d = absurd d
    go (Err (fault.ClockRange at)) k d = absurd d

-- One after another

-- what was done for some of a list so far
pub record SoFar (f : World → ℕ → Transition) (done : List ℕ) (old new : WorldView) : Type 0 where
  pub is : world_of new ≡ (in_turn f done (world_of old)).world

pub so_far_none : (f : World → ℕ → Transition) (w : WorldView) → SoFar f [] w w
so_far_none f w = record { is = refl }

in_turn_then : (f : World → ℕ → Transition) (xs : List ℕ) (x : ℕ) (w : World) → (in_turn f (xs ++ x ∷ []) w).world ≡ (f (in_turn f xs w).world x).world
in_turn_then f [] x w = refl
in_turn_then f (y ∷ ys) x w = in_turn_then f ys x (f w y).world

pub so_far_next : (f : World → ℕ → Transition) (done next : List ℕ) (x : ℕ) (old mid new : WorldView) (ls all : List Report) (told : Result (List Report) WorldFault) → next ≡ done ++ x ∷ [] → Joins ls told (Ok all) → SoFar f done old mid → Does (f (world_of mid) x) new told → SoFar f next old new
so_far_next f done next x old mid new ls all (Ok more) e j s d = record {
  is = d.world ∙ (ap (λ u. (f u x).world) s.is ∙ (sym (in_turn_then f done x (world_of old)) ∙ ap (λ ys. (in_turn f ys (world_of old)).world) (sym e)));
}
so_far_next f done next x old mid new ls all (Err g) e j s d = absurd j

-- so it ends where the next one does
pub ends_at : (f : World → ℕ → Transition) (ends : ℕ → WorldView → WorldView → Type 0) (items done left : List ℕ) (item : ℕ) (old mid new : WorldView) → items ≡ done ++ item ∷ left → Keeps old mid → SoFar f done old mid → ends item mid new → EndsAt f ends items old new
ends_at f ends items done left item old mid new order k s last = record { done = done; item = item; left = left; order = order; mid = mid; keeps = k; reached = s.is; last = last }

-- Lists from a place on

take_next : (xs : List ℕ) (i : ℕ) → i < length xs → take (suc i) xs ≡ take i xs ++ get_or xs i 0 ∷ []
take_next [] i h = absurd (omega arith)
take_next (x ∷ xs) zero h = refl
take_next (x ∷ xs) (suc i) h = ap (λ ys. x ∷ ys) (take_next xs i (omega arith))

pub place_next : (xs : List ℕ) (i : ℕ) → i < length xs → take (i + 1) xs ≡ take i xs ++ get_or xs i 0 ∷ []
place_next xs i h = ap (λ n. take n xs) (add-one i) ∙ take_next xs i h

take_here : (xs : List ℕ) (i : ℕ) → i < length xs → xs ≡ take i xs ++ get_or xs i 0 ∷ drop (suc i) xs
take_here [] i h = absurd (omega arith)
take_here (x ∷ xs) zero h = refl
take_here (x ∷ xs) (suc i) h = ap (λ ys. x ∷ ys) (take_here xs i (omega arith))

pub place_here : (xs : List ℕ) (i : ℕ) → i < length xs → xs ≡ take i xs ++ get_or xs i 0 ∷ drop (i + 1) xs
place_here xs i h = take_here xs i h ∙ ap (λ n. take i xs ++ get_or xs i 0 ∷ drop n xs) (sym (add-one i))

numbers_then : (a n : ℕ) → numbers_from a (suc n) ≡ numbers_from a n ++ (a + n) ∷ []
numbers_then a zero = let e : a ≡ a + 0 = omega arith in ap (λ k. k ∷ []) e
numbers_then a (suc n) = let e : suc a + n ≡ a + suc n = omega arith in ap (λ ys. a ∷ ys) (numbers_then (suc a) n ∙ ap (λ k. numbers_from (suc a) n ++ k ∷ []) e)

pub number_next : (i : ℕ) → numbers_from 0 (i + 1) ≡ numbers_from 0 i ++ i ∷ []
number_next i = let e : 0 + i ≡ i = omega arith in ap (numbers_from 0) (add-one i) ∙ (numbers_then 0 i ∙ ap (λ k. numbers_from 0 i ++ k ∷ []) e)

numbers_split : (a i n : ℕ) → numbers_from a (i + n) ≡ numbers_from a i ++ numbers_from (a + i) n
numbers_split a zero n = let e : a ≡ a + 0 = omega arith in let f : 0 + n ≡ n = omega arith in ap (numbers_from a) f ∙ ap (λ k. numbers_from k n) e
numbers_split a (suc i) n =
    let f : suc i + n ≡ suc (i + n) = omega arith in
    let e : suc a + i ≡ a + suc i = omega arith in
    ap (numbers_from a) f ∙ ap (λ ys. a ∷ ys) (numbers_split (suc a) i n ∙ ap (λ k. numbers_from (suc a) i ++ numbers_from k n) e)

pub number_here : (i n : ℕ) → i < n → numbers_from 0 n ≡ numbers_from 0 i ++ i ∷ numbers_from (i + 1) (n - (i + 1))
number_here i n h =
    let many : n ≡ i + suc (n - (i + 1)) = omega (arith, h) in
    let here : 0 + i ≡ i = omega arith in
    let after : suc (0 + i) ≡ i + 1 = omega arith in
    ap (numbers_from 0) many
    ∙ (numbers_split 0 i (suc (n - (i + 1)))
    ∙ ap₂ (λ k m. numbers_from 0 i ++ k ∷ numbers_from m (n - (i + 1))) here after)

-- A publisher's sweep

-- it ended in the third phase
pub ends_third : (a b mid new : WorldView) (p first : ℕ) (inward outward : List ℕ) (woken all : List Report) (down r : Result (List Report) WorldFault) → first ≡ length (let u : World = world_of a in u.frames) → b.topo ≡ a.topo → mid.topo ≡ a.topo → Keeps a mid
    → Joins woken down (Ok all) → Does (in_turn (wake_up (net_in a) p) inward (world_of a)) b (Ok woken) → Does (in_turn (hand_down (net_in b) p first) outward (world_of b)) mid down
    → WakesEnd (net_in mid) p inward r mid new → PhasesEnd (net_in a) p inward outward r a new
ends_third a b mid new p first inward outward woken all (Ok more) r at here there k j x y last = inr (record {
  mid = mid;
  keeps = k;
  reached = y.world
      ∙ (ap (λ (t : TopologyView). (in_turn (hand_down (net_of t) p first) outward (world_of b)).world) here
      ∙ (ap (λ n. (in_turn (hand_down (net_in a) p n) outward (world_of b)).world) at
      ∙ ap (λ u. (in_turn (hand_down (net_in a) p (length (let v : World = world_of a in v.frames))) outward u).world) x.world));
  last = subst (λ (t : TopologyView). WakesEnd (net_of t) p inward r mid new) there last;
})
ends_third a b mid new p first inward outward woken all (Err g) r at here there k j x y last = absurd j

-- where it ended once it was joined
pub ends_wakes : (net : Net) (p : ℕ) (inward : List ℕ) (mid new : WorldView) (ls : List Report) (told result : Result (List Report) WorldFault) → Joins ls told result → (IsEnd told → WakesEnd net p inward told mid new) → IsEnd result → WakesEnd net p inward result mid new
ends_wakes net p inward mid new ls told result j h e =
    let same = end_joined ls told result j e in
    subst (λ (r : Result (List Report) WorldFault). WakesEnd net p inward r mid new) same (h (subst IsEnd (sym same) e))

-- so one broker's wake
pub ends_wake_up : (b p : ℕ) (mid new : WorldView) (ls : List Report) (told result : Result (List Report) WorldFault) → Joins ls told result → (IsEnd told → WakeEnds b p told mid new) → IsEnd result → WakeEnds b p result mid new
ends_wake_up b p mid new ls told result j h e =
    let same = end_joined ls told result j e in
    subst (λ (r : Result (List Report) WorldFault). WakeEnds b p r mid new) same (h (subst IsEnd (sym same) e))

-- and one publisher's sweep
pub ends_sweeps : (net : Net) (p : ℕ) (mid new : WorldView) (ls : List Report) (told result : Result (List Report) WorldFault) → Joins ls told result → (IsEnd told → SweepEnds net told p mid new) → IsEnd result → SweepEnds net result p mid new
ends_sweeps net p mid new ls told result j h e =
    let same = end_joined ls told result j e in
    subst (λ (r : Result (List Report) WorldFault). SweepEnds net r p mid new) same (h (subst IsEnd (sym same) e))

-- in the brokers' own order
pub ends_sweep : (a new : WorldView) (p : ℕ) (inward outward : List ℕ) (r : Result (List Report) WorldFault) → inward ≡ inwards (net_in a) p → outward ≡ outwards (net_in a) p
    → PhasesEnd (net_in a) p inward outward r a new → SweepEnds (net_in a) r p a new
ends_sweep a new p inward outward r e h x =
    subst (λ xs. PhasesEnd (net_in a) p (inwards (net_in a) p) xs r a new) h
    (subst (λ xs. PhasesEnd (net_in a) p xs outward r a new) e x)
