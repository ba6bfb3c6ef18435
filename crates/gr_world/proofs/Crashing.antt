-- A crash over lanes that fit finds each log as it was, so it is the machine's; one that is refused has changed nothing.
use Rattle.std.proofs.Common.{◌≡◌, ◌≢◌, ◌⊎◌, inl, inr, ℕ, ◌<◌, Bool, true, false, List, [], ◌∷◌, length, map, Option, Some, None, Result, Ok, Err, refl, sym, ap, ap₂, ◌∙◌, subst, arith}
use Rattle.std.specs.Prelude.{IfOk}
use Rattle.std.proofs.lemmas.Bool.{cases_eq, false≢true}
use Rattle.gr_out.specs.Lane.{Lane, crash_image}
use Rattle.gr_out.proofs.Images.{image_left}
use Rattle.gr_publog.specs.Lanes.{Found, lanes_text}
use Rattle.gr_publog.specs.Views.{LogView, Lanes, lanes_at, found_of, StandsFound, Stands}
use Rattle.gr_publog.specs.Opens.{view_of}
use Rattle.gr_pubend.specs.Log.{Log, said}
use Rattle.gr_sched.specs.declared.step.Step.TheVariants as step
use Rattle.gr_topo.specs.Topology.{TopologyView, host_of, subscribers_of, not_empty}
use Rattle.gr_model.specs.declared.report.Report.{Report}
use Rattle.gr_model.specs.declared.report.Report.TheVariants as line
use Rattle.gr_model.specs.Net.{numbers}
use Rattle.gr_model.specs.World.{World, Transition, restarted, opened_lines, unchanged, crash, next, next_by}
use Rattle.gr_broker.specs.Lanes.{log_lane}
use Rattle.gr_broker.specs.Seen.{log_in, log_said}
use Rattle.gr_world.specs.declared.fault.WorldFault.{WorldFault}
use Rattle.gr_world.specs.declared.fault.WorldFault.TheVariants as fault
use Rattle.gr_world.specs.Seen.{WorldView, broker_in, log_at, world_of, net_in}
use Rattle.gr_world.specs.Of.{IsWorld, LaneFits, LanesFit, IsSound}
use Rattle.gr_world.specs.Opened.{IsRead, IsLeft, IsSoundBut, Crashes, with_logs, restart_over}
use Rattle.gr_world.specs.Steps.{Makes, Does, IsCarried}
use Rattle.gr_world.specs.Disk.{NotDisk, StaysSound}
use Rattle.gr_world.specs.Ran.{noted_in}
use Rattle.gr_report.proofs.Hosts.{hosted_log}
use Rattle.gr_report.proofs.Along.{map_same}
use Rattle.gr_report.proofs.Readable.{found_same}

-- Where no other broker is down, the lanes of all others fit their logs
pub others_fit : (w : WorldView) (b : ℕ) (lanes : ℕ → Lane) → LanesFit lanes w → w.spent ≡ false → (w.down ≡ None) ⊎ (w.down ≡ Some b)
    → (p : ℕ) (l : LogView) → p < length w.topo.publishers → host_of w.topo p ≢ b → log_at w p ≡ Some l → LaneFits l (lanes_at lanes (log_lane p))
others_fit w b lanes fit unspent down p l i n e = fit.logs unspent p l i (up down) e
  where
    none_is : (c : ℕ) → ◌≡◌ {A = Option ℕ} None (Some c) → ⊥
    none_is c e = cc

    some_is : (c d : ℕ) → ◌≡◌ {A = Option ℕ} (Some c) (Some d) → c ≡ d
    some_is c d e = cc

    up : (w.down ≡ None) ⊎ (w.down ≡ Some b) → w.down ≢ Some (host_of w.topo p)
    up (inl none) this = none_is (host_of w.topo p) (sym none ∙ this)
    up (inr some) this = n (sym (some_is b (host_of w.topo p) (sym some ∙ this)))

-- The logs after a crash

-- what is said of a log that is opened over what stands for it
said_view : (lane : ℕ) (a b : List ℕ) (l : LogView) → said (view_of lane a b (found_of l)) ≡ said l
said_view lane a b l = refl

-- a log that is opened over what stands for another one says the same
pub said_found : (late : List ℕ) (o : Option LogView) (l : LogView) (a b : List ℕ) → IsRead late o a b → lanes_text late a b ≡ Ok (found_of l) → log_said o ≡ said l
said_found late None l a b read e = absurd read
said_found late (Some m) l a b read e =
    ap said read.2 ∙ (ap (λ (f : Found). said (view_of m.lane a b f)) (found_same late a b read.0 (found_of l) read.1 e) ∙ said_view m.lane a b l)

-- what a crash leaves of lanes in which a log stands stands for it
pub left_found : StandsFound → (late : List ℕ) (ls : Lanes) (l : LogView) → Stands ls l → l.state.late ≡ late → lanes_text late (crash_image ls.first) (crash_image ls.second) ≡ Ok (found_of l)
left_found law late ls l s same =
    subst (λ (js : List ℕ). lanes_text js (crash_image ls.first) (crash_image ls.second) ≡ Ok (found_of l)) same
    (law ls l (crash_image ls.first) (crash_image ls.second) s (image_left ls.first, image_left ls.second))

module _ (law : StandsFound) (old new : WorldView) (b : ℕ) (lanes : ℕ → Lane) (fits : IsWorld old) (sound : IsSound old) (unspent : old.spent ≡ false) (l : LanesFit lanes old) (j : b < length old.topo.brokers)
    (elsewhere : (p : ℕ) → p < length old.topo.publishers → host_of old.topo p ≢ b → log_at new p ≡ log_at old p)
    (found : (p : ℕ) → p < length old.topo.publishers → host_of old.topo p ≡ b → IsLeft old.topo.late (log_at new p) (lanes_at lanes (log_lane p))) where
  log_found : (p : ℕ) → p < length old.topo.publishers → host_of old.topo p ≡ b → log_said (log_at new p) ≡ log_said (log_at old p)
  log_found p i at =
      let m = hosted_log old.topo b (broker_in old b) (fits.brokers b j) (fits.numbered b j) p i at in
      let e : log_at old p ≡ Some m.0 = subst (λ (c : ℕ). log_in (broker_in old c) p ≡ Some m.0) (sym at) m.1 in
      let fit = l.logs unspent p m.0 i (λ down. absurd (not_down (host_of old.topo p) (sym sound.up ∙ down))) e in
      let ls = lanes_at lanes (log_lane p) in
      said_found old.topo.late (log_at new p) m.0 (crash_image ls.first) (crash_image ls.second) (found p i at)
      (left_found law old.topo.late ls m.0 (fit.ready (sound.logs p m.0 i e)) ((fits.brokers b j).late p m.0 m.1))
      ∙ sym (ap log_said e)
    where
      not_down : (c : ℕ) → None ≡ Some c → ⊥
      not_down c e = cc

  -- each log is found as it was
  pub logs_found : new.topo ≡ old.topo → (let w : World = world_of new in w.logs) ≡ (let w : World = world_of old in w.logs)
  logs_found topo =
      ap (λ (t : TopologyView). map (λ p. log_said (log_at new p)) (numbers (length t.publishers))) topo
      ∙ map_same (λ p. log_said (log_at new p)) (λ p. log_said (log_at old p)) 0 (length old.topo.publishers) (λ p from upto.
      let i : p < length old.topo.publishers = omega (arith, upto) in
      elim (cases_eq (host_of old.topo p) b) [ inl at ↦ log_found p i at | inr n ↦ ap log_said (elsewhere p i n) ])

-- so it is the machine's crash
pub crash_made : (old new : WorldView) (b : ℕ) (opened lines : List Report) → (let w : World = world_of new in Does (restart_over (net_in old) (world_of old) b w.logs) new (Ok opened))
    → (let w : World = world_of new in w.logs) ≡ (let w : World = world_of old in w.logs) → lines ≡ line.Crashed b ∷ opened → Does (crash (net_in old) (world_of old) b) new (Ok lines)
unfolding crash
crash_made old new b opened lines does same e = record {
  world = does.world ∙ ap (λ (ls : List Log). restarted (net_in old) (with_logs (world_of old) ls) b) same;
  lines = e ∙ ap (λ (ls : List Report). line.Crashed b ∷ ls) (does.lines ∙ ap (λ (ls : List Log). opened_lines (net_in old) ls b) same);
}

-- What holds of one broker's restart holds where all is sound
pub sound_but : (w : WorldView) (b : ℕ) → IsSound w → IsSoundBut b w
sound_but w b s = record { logs = λ p l i n e. s.logs p l i e; up = inl s.up }

-- The step

none_lines : (ls : List Report) → ◌≡◌ {A = Option (List Report)} None (Some ls) → ⊥
none_lines ls e = cc

lines_are : (ls ms : List Report) → ◌≡◌ {A = Option (List Report)} (Some ls) (Some ms) → ls ≡ ms
lines_are ls ms e = cc

abbrev crash_if : WorldView → ℕ → ℕ → Bool → Transition
crash_if w n b some = elim some [ true ↦ unchanged (world_of w) (line.RefusedHosts n b ∷ []) | false ↦ crash (net_in w) (world_of w) b ]

crash_next : (w : WorldView) (n b : ℕ) (some : Bool) → not_empty (subscribers_of w.topo b) ≡ some → next (net_in w) (world_of w) (record { number = n; step = step.Crash b }) ≡ crash_if w n b some
unfolding next_by
crash_next w n b some e = ap (crash_if w n b) e

-- a crash where a subscriber is
pub makes_refusal : (w : WorldView) (b : ℕ) → not_empty (subscribers_of w.topo b) ≡ true → Makes (step.Crash b) w w (Err (fault.HostsSubscriber b))
makes_refusal w b some n lines e =
    crash_next w n b true some ∙ ap (λ (ls : List Report). unchanged (world_of w) ls) (lines_are (line.RefusedHosts n b ∷ []) lines e)

-- any other
pub makes_crash : (old new : WorldView) (b : ℕ) (result : Result (List Report) WorldFault) → not_empty (subscribers_of old.topo b) ≡ false → IsCarried result
    → Does (crash (net_in old) (world_of old) b) new result → Makes (step.Crash b) old (noted_in new result) result
makes_crash old new b (Ok told) none o does n lines e =
    crash_next old n b false none ∙ made (crash (net_in old) (world_of old) b) does ∙ ap (λ (ls : List Report). let t : Transition = record { world = world_of new; lines = ls } in t) (lines_are told lines e)
  where
    made : (t : Transition) → Does t new (Ok told) → t ≡ record { world = world_of new; lines = told }
    made t d = ap₂ (λ (w : World) (ls : List Report). let t : Transition = record { world = w; lines = ls } in t) (sym d.world) (sym d.lines)
makes_crash old new b (Err fault.Memory) none o does n lines e = absurd (none_lines lines e)
makes_crash old new b (Err fault.Disk) none o does n lines e = absurd (none_lines lines e)
makes_crash old new b (Err fault.Reopen) none o does n lines e = absurd (none_lines lines e)
makes_crash old new b (Err (fault.Damaged p at)) none o does n lines e = absurd o
makes_crash old new b (Err (fault.HostsSubscriber c)) none o does n lines e = absurd o
makes_crash old new b (Err (fault.NoFrame k)) none o does n lines e = absurd o
makes_crash old new b (Err (fault.ClockRange at)) none o does n lines e = absurd o

-- What is noted

-- after want of memory no call uses the lanes, and else they fit
pub noted_lanes : (lanes : ℕ → Lane) (new : WorldView) (result : Result (List Report) WorldFault) → (result ≢ Err fault.Memory → LanesFit lanes new) → LanesFit lanes (noted_in new result)
noted_lanes lanes new (Ok lines) fit = fit (λ e. cc)
noted_lanes lanes new (Err fault.Memory) fit = record { logs = λ unspent. absurd (false≢true (sym unspent)); readable = λ unspent. absurd (false≢true (sym unspent)) }
noted_lanes lanes new (Err fault.Disk) fit = fit (λ e. cc)
noted_lanes lanes new (Err fault.Reopen) fit = fit (λ e. cc)
noted_lanes lanes new (Err (fault.Damaged p at)) fit = fit (λ e. cc)
noted_lanes lanes new (Err (fault.HostsSubscriber c)) fit = fit (λ e. cc)
noted_lanes lanes new (Err (fault.NoFrame k)) fit = fit (λ e. cc)
noted_lanes lanes new (Err (fault.ClockRange at)) fit = fit (λ e. cc)

-- a world stays as sound
sound_noted : (mid : WorldView) (r : Result (List Report) WorldFault) → IsSound mid → IsSound (noted_in mid r)
sound_noted mid (Ok lines) s = s
sound_noted mid (Err fault.Memory) s = record { logs = s.logs; up = s.up }
sound_noted mid (Err _) s = s

pub noted_sound : (old mid new : WorldView) (r r' : Result (List Report) WorldFault) → r' ≡ r → new ≡ noted_in mid r → (IsSound old → NotDisk r → IsSound mid) → r ≢ Err fault.Reopen → StaysSound old new r'
noted_sound old mid new r r' same e s never = record {
  sound = λ h n. subst IsSound (sym e) (sound_noted mid r (s h (subst (λ (x : Result (List Report) WorldFault). NotDisk x) same n)));
  opened = λ h is. never (sym same ∙ is);
}

-- Over the logs that it leaves it is the machine's, whether the disk had failed one or not
pub crashes_over : (old new : WorldView) (b : ℕ) (lanes : ℕ → Lane) (opened lines : List Report) → (let w : World = world_of new in Does (restart_over (net_in old) (world_of old) b w.logs) new (Ok opened))
    → ((p : ℕ) → p < length old.topo.publishers → host_of old.topo p ≢ b → log_at new p ≡ log_at old p) → ((p : ℕ) → p < length old.topo.publishers → host_of old.topo p ≡ b → IsLeft old.topo.late (log_at new p) (lanes_at lanes (log_lane p)))
    → lines ≡ line.Crashed b ∷ opened → Crashes b lanes old new lines
crashes_over old new b lanes opened lines does elsewhere found e = record {
  found = found;
  elsewhere = elsewhere;
  over = ap₂ (λ (w : World) (ls : List Report). let t : Transition = record { world = w; lines = ls } in t) (sym does.world) (ap (λ (ls : List Report). line.Crashed b ∷ ls) (sym does.lines) ∙ sym e);
}

-- and so it is where it is noted that memory was refused
pub noted_lines : (P : WorldView → List Report → Type 0) (mid new : WorldView) (r result : Result (List Report) WorldFault) → result ≡ r → new ≡ noted_in mid r → IfOk r (P mid) → IfOk result (P new)
noted_lines P mid new (Ok ls) result same e h = subst (λ (q : Result (List Report) WorldFault). IfOk q (P new)) (sym same) (subst (λ (v : WorldView). P v ls) (sym e) h)
noted_lines P mid new (Err x) result same e h = subst (λ (q : Result (List Report) WorldFault). IfOk q (P new)) (sym same) tt
