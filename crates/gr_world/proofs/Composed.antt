-- Brokers' calls one after another, where each but the last answered Ok, are one run: of the machine, of the world, and of the disk. And what is done for each of a list in turn is what was done for those so far, and then what is left
use Rattle.std.proofs.Common.{◌≡◌, ◌⊎◌, true, false, ℕ, ◌+◌, ◌-◌, ◌<◌, ◌≤◌, List, [], ◌∷◌, ◌++◌, length, get_or, drop, Result, Ok, Err, refl, sym, ap, ap₂, ◌∙◌, subst, inl, inr, arith, append-nil, append_assoc, add-one, drop_of_length-le}
use Rattle.std.proofs.Math.Seq.{drop-cons}
use Rattle.std.proofs.lemmas.Bool.{cases_Bool, false≢true}
use Rattle.gr_out.specs.Faults.{Rose}
use Rattle.gr_publog.specs.Crash.{EitherRose}
use Rattle.gr_model.specs.declared.report.Report.{Report}
use Rattle.gr_model.specs.Net.{numbers_from}
use Rattle.gr_model.specs.World.{World, Transition, followed_by, in_turn}
use Rattle.gr_report.proofs.Along.{numbers_left}
use Rattle.gr_world.specs.declared.fault.WorldFault.{WorldFault}
use Rattle.gr_world.specs.declared.fault.WorldFault.TheVariants as fault
use Rattle.gr_topo.specs.Topology.{TopologyView}
use Rattle.gr_broker.specs.Seen.{is_broken}
use Rattle.gr_world.specs.Seen.{WorldView, log_at, world_of}
use Rattle.gr_world.specs.Of.{IsWorld}
use Rattle.gr_world.specs.Steps.{Does}
use Rattle.gr_world.specs.Disk.{StaysSound, HasBroken, UsesDisk}
use Rattle.gr_world.specs.Ran.{IsOpen, Keeps, Ran}

-- an answer, with lines that were told before it
abbrev pub behind : List Report → Result (List Report) WorldFault → Result (List Report) WorldFault
behind ls (Ok more) = Ok (ls ++ more)
behind ls (Err e) = Err e

-- The world

-- a world keeps all that it is
pub keeps_none : (w : WorldView) → Keeps w w
keeps_none w = record { topo = refl; told = refl; clock = refl; most = refl; down = refl; spent = refl; more = []; frames = sym (append-nil w.frames) }

-- what is kept twice is kept
pub keeps_on : {a b c : WorldView} → Keeps a b → Keeps b c → Keeps a c
keeps_on {a} {b} {c} k l = record {
  topo = l.topo ∙ k.topo;
  told = l.told ∙ k.told;
  clock = l.clock ∙ k.clock;
  most = l.most ∙ k.most;
  down = l.down ∙ k.down;
  spent = l.spent ∙ k.spent;
  more = k.more ++ l.more;
  frames = l.frames ∙ (ap (λ z. z ++ l.more) k.frames ∙ append_assoc a.frames k.more l.more);
}

-- a world that was open is still open
pub open_kept : {a b : WorldView} → Keeps a b → IsOpen a → IsOpen b
open_kept k o = record { up = k.down ∙ o.up; unspent = k.spent ∙ o.unspent }

-- a sound world stays sound through two calls, the first of which the disk did not fail
pub sound_on : {a b c : WorldView} {ls : List Report} {r : Result (List Report) WorldFault} → StaysSound {T = List Report} a b (Ok ls) → StaysSound b c r → StaysSound a c r
sound_on s t = record { sound = λ h n. t.sound (s.sound h tt) n; opened = λ h. t.opened (s.sound h tt) }

-- Nothing was done yet
pub ran_none : {w : WorldView} (ls : List Report) → IsWorld w → Ran w w (Ok ls)
ran_none {w} ls f = record {
  fits = f;
  keeps = keeps_none w;
  carried = tt;
  sound = record { sound = λ h _. h; opened = λ _ e. cc };
  closed = λ p j k. refl;
  whole = λ _ p j k. k;
  reopen = λ e. absurd (cc e);
}

-- Two runs one after the other are one
pub ran_on : {a b c : WorldView} {ls : List Report} {r : Result (List Report) WorldFault} → Ran a b (Ok ls) → Ran b c r → Ran a c r
ran_on {a} {b} {c} {ls} {r} x y = record {
  fits = y.fits;
  keeps = keeps_on x.keeps y.keeps;
  carried = y.carried;
  sound = sound_on x.sound y.sound;
  closed = λ p j k. let e = x.closed p j k in y.closed p (there p j) (ap is_broken e ∙ k) ∙ e;
  whole = λ n p j k. y.whole n p (there p j) (x.whole tt p j k);
  reopen = λ e. let z = y.reopen e in broken_before z (back z.publisher z.below) (cases_Bool (is_broken (log_at a z.publisher)));
}
  where
    there : (p : ℕ) → p < length a.topo.publishers → p < length b.topo.publishers
    there p j = subst (λ (t : TopologyView). p < length t.publishers) (sym x.keeps.topo) j

    back : (p : ℕ) → p < length b.topo.publishers → p < length a.topo.publishers
    back p j = subst (λ (t : TopologyView). p < length t.publishers) x.keeps.topo j

    broken_before : (z : HasBroken b) → z.publisher < length a.topo.publishers → (is_broken (log_at a z.publisher) ≡ true) ⊎ (is_broken (log_at a z.publisher) ≡ false) → HasBroken a
    broken_before z j (inl k) = record { publisher = z.publisher; below = j; broken = k }
    broken_before z j (inr k) = absurd (false≢true (sym (x.whole tt z.publisher j k) ∙ z.broken))

-- A run that answered Ok is one with any lines
pub ran_lines : {a b : WorldView} {ls : List Report} (more : List Report) → Ran a b (Ok ls) → Ran a b (Ok more)
ran_lines more x = record {
  fits = x.fits;
  keeps = x.keeps;
  carried = tt;
  sound = record { sound = λ h _. x.sound.sound h tt; opened = λ _ e. cc };
  closed = x.closed;
  whole = λ _. x.whole tt;
  reopen = λ e. absurd (cc e);
}

-- and one after which memory was refused
pub ran_memory : {a b : WorldView} {ls : List Report} → Ran a b (Ok ls) → Ran a b (Err fault.Memory)
ran_memory x = record {
  fits = x.fits;
  keeps = x.keeps;
  carried = tt;
  sound = record { sound = λ h _. x.sound.sound h tt; opened = λ _ e. cc };
  closed = x.closed;
  whole = λ _. x.whole tt;
  reopen = λ e. absurd (cc e);
}

-- The disk

-- a count that rose later has risen
pub rose_later : (a b c : ℕ) → a ≤ b → Rose b c → Rose a c
rose_later a b c h r = omega arith

-- one of two counts that rose later has risen
pub either_later : (a b c a' b' c' : ℕ) → a ≤ b → a' ≤ b' → EitherRose b c b' c' → EitherRose a c a' c'
either_later a b c a' b' c' h h' (inl r) = inl (rose_later a b c h r)
either_later a b c a' b' c' h h' (inr r) = inr (rose_later a' b' c' h' r)

-- and a count that rose does not fall
rose_sooner : (a b c : ℕ) → b ≤ c → Rose a b → Rose a c
rose_sooner a b c h r = omega arith

pub either_sooner : (a b c a' b' c' : ℕ) → b ≤ c → b' ≤ c' → EitherRose a b a' b' → EitherRose a c a' c'
either_sooner a b c a' b' c' h h' (inl r) = inl (rose_sooner a b c h r)
either_sooner a b c a' b' c' h h' (inr r) = inr (rose_sooner a' b' c' h' r)

-- Nothing was done to the disk
pub disk_none : {fl : Type 0} {f s : ℕ} (ls : List Report) → UsesDisk fl fl f s f s (Ok ls)
disk_none ls = record {
  counts = record { faults_never_fall = omega arith; stops_never_fall = omega arith; rose = λ e. cc };
  faultless_stays = record { stays = λ h. h; same_faults = λ _. refl };
  never_fails = λ _ e. cc;
}

-- Two runs on the disk one after the other are one
pub disk_on : {fl fl' fl'' : Type 0} {f s f' s' f'' s'' : ℕ} {ls : List Report} {r : Result (List Report) WorldFault}
    → UsesDisk fl fl' f s f' s' (Ok ls) → UsesDisk fl' fl'' f' s' f'' s'' r → UsesDisk fl fl'' f s f'' s'' r
disk_on {fl} {fl'} {fl''} {f} {s} {f'} {s'} {f''} {s''} x y = record {
  counts = record {
    faults_never_fall = omega (arith, x.counts.faults_never_fall, y.counts.faults_never_fall);
    stops_never_fall = omega (arith, x.counts.stops_never_fall, y.counts.stops_never_fall);
    rose = λ e. either_later f f' f'' s s' s'' x.counts.faults_never_fall x.counts.stops_never_fall (y.counts.rose e);
  };
  faultless_stays = record {
    stays = λ h. y.faultless_stays.stays (x.faultless_stays.stays h);
    same_faults = λ h. y.faultless_stays.same_faults (x.faultless_stays.stays h) ∙ x.faultless_stays.same_faults h;
  };
  never_fails = λ h. y.never_fails (x.faultless_stays.stays h);
}

-- A run on the disk that answered Ok is one with any lines
pub disk_lines : {fl fl' : Type 0} {f s f' s' : ℕ} {ls : List Report} (more : List Report) → UsesDisk fl fl' f s f' s' (Ok ls) → UsesDisk fl fl' f s f' s' (Ok more)
disk_lines more x = record {
  counts = record { faults_never_fall = x.counts.faults_never_fall; stops_never_fall = x.counts.stops_never_fall; rose = λ e. cc };
  faultless_stays = x.faultless_stays;
  never_fails = λ _ e. cc;
}

-- and one after which memory was refused
pub disk_memory : {fl fl' : Type 0} {f s f' s' : ℕ} {ls : List Report} → UsesDisk fl fl' f s f' s' (Ok ls) → UsesDisk fl fl' f s f' s' (Err fault.Memory)
disk_memory x = record {
  counts = record { faults_never_fall = x.counts.faults_never_fall; stops_never_fall = x.counts.stops_never_fall; rose = λ e. cc };
  faultless_stays = x.faultless_stays;
  never_fails = λ _ e. cc;
}

-- The machine

-- nothing is said of what a call does that answers a fault
pub does_err : {t : Transition} {w : WorldView} (e : WorldFault) → Does t w (Err e)
does_err e = record { world = tt; lines = tt }

-- a world and the lines told on the way to it
abbrev pub reached : World → List Report → Transition
reached w ls = record { world = w; lines = ls }

-- What two calls do one after the other is the one followed by the other
pub does_on : (t : Transition) (f : World → Transition) {mid new : WorldView} {ls : List Report} (r : Result (List Report) WorldFault)
    → Does t mid (Ok ls) → Does (f (world_of mid)) new r → Does (followed_by t f) new (behind ls r)
does_on t f (Ok more) x y = record {
  world = y.world ∙ ap (λ u. (f u).world) x.world;
  lines = ap₂ (λ a b. a ++ b) x.lines (y.lines ∙ ap (λ u. (f u).lines) x.world);
}
does_on t f (Err e) x y = does_err e

-- For each of a list in turn

-- the whole is what was done so far, and then what is left
pub record Leads {X : Type 0} (f : World → X → Transition) (left : List X) (w : WorldView) (ls : List Report) (whole : Transition) : Type 0 where
  pub is : followed_by (reached (world_of w) ls) (in_turn f left) ≡ whole

-- before the first, all is left
pub leads_start : {X : Type 0} (f : World → X → Transition) (xs : List X) (w : WorldView) → Leads f xs w [] (in_turn f xs (world_of w))
leads_start f xs w = record { is = refl }

-- with the next one done, the rest is left
pub leads_next : {X : Type 0} (f : World → X → Transition) (x : X) (xs : List X) {w new : WorldView} {ls more : List Report} {whole : Transition}
    → Leads f (x ∷ xs) w ls whole → Does (f (world_of w) x) new (Ok more) → Leads f xs new (ls ++ more) whole
leads_next f x xs {w} {new} {ls} {more} {whole} h d =
    let t : Transition = f (world_of w) x in
    let rest : Transition = in_turn f xs t.world in
    record {
      is = ap₂ (λ u m. followed_by (reached u (ls ++ m)) (in_turn f xs)) d.world d.lines
          ∙ (ap (λ l. reached rest.world l) (append_assoc ls t.lines rest.lines) ∙ h.is);
    }

-- with none left, all was done
pub leads_end : {X : Type 0} (f : World → X → Transition) {w : WorldView} {ls : List Report} {whole : Transition} → Leads f [] w ls whole → Does whole w (Ok ls)
leads_end f {w} {ls} {whole} h = record { world = ap (λ (t : Transition). t.world) h.is; lines = sym (append-nil ls) ∙ ap (λ (t : Transition). t.lines) h.is }

-- The same over the numbers below n, from i on

-- before the first number, all are left
pub leads_first : (f : World → ℕ → Transition) (n : ℕ) (w : WorldView) (ls : List Report) → ls ≡ [] → Leads f (numbers_from 0 (n - 0)) w ls (in_turn f (numbers_from 0 n) (world_of w))
leads_first f n w ls none =
    let e : n ≡ n - 0 = omega arith in
    subst (λ xs. Leads f (numbers_from 0 (n - 0)) w xs (in_turn f (numbers_from 0 n) (world_of w))) (sym none)
    (subst (λ k. Leads f (numbers_from 0 k) w [] (in_turn f (numbers_from 0 n) (world_of w))) e (leads_start f (numbers_from 0 n) w))

-- with the next number done, those behind it are left
pub leads_number : (f : World → ℕ → Transition) (i n : ℕ) {w new : WorldView} {ls more : List Report} {whole : Transition} → i < n
    → Leads f (numbers_from i (n - i)) w ls whole → Does (f (world_of w) i) new (Ok more) → Leads f (numbers_from (i + 1) (n - (i + 1))) new (ls ++ more) whole
leads_number f i n {w} {new} {ls} {more} {whole} h l d =
    leads_next f i (numbers_from (i + 1) (n - (i + 1))) (subst (λ xs. Leads f xs w ls whole) (numbers_left i n h) l) d

-- with no number left, all was done
pub leads_numbers : (f : World → ℕ → Transition) (i n : ℕ) {w : WorldView} {ls : List Report} {whole : Transition} → n ≤ i
    → Leads f (numbers_from i (n - i)) w ls whole → Does whole w (Ok ls)
leads_numbers f i n {w} {ls} {whole} h l =
    let e : n - i ≡ 0 = omega arith in
    leads_end f (subst (λ k. Leads f (numbers_from i k) w ls whole) e l)

-- The same over a list, from its place i on

-- with the one at a place done, those behind it are left
pub leads_place : (f : World → ℕ → Transition) (xs : List ℕ) (i : ℕ) {w new : WorldView} {ls more : List Report} {whole : Transition} → i < length xs
    → Leads f (drop i xs) w ls whole → Does (f (world_of w) (get_or xs i 0)) new (Ok more) → Leads f (drop (i + 1) xs) new (ls ++ more) whole
leads_place f xs i {w} {new} {ls} {more} {whole} h l d =
    let e = drop-cons xs i 0 h ∙ ap (λ k. get_or xs i 0 ∷ drop k xs) (sym (add-one i)) in
    leads_next f (get_or xs i 0) (drop (i + 1) xs) (subst (λ ys. Leads f ys w ls whole) e l) d

-- with no place left, all was done
pub leads_places : (f : World → ℕ → Transition) (xs : List ℕ) (i : ℕ) {w : WorldView} {ls : List Report} {whole : Transition} → length xs ≤ i
    → Leads f (drop i xs) w ls whole → Does whole w (Ok ls)
leads_places f xs i {w} {ls} {whole} h l = leads_end f (subst (λ ys. Leads f ys w ls whole) (drop_of_length-le xs h) l)
