-- A sweep is what is done at its moment, with the clock there: so it is the machine's step, keeps a sound world sound, and leaves lanes that fit, also where it is noted that memory was refused
use Rattle.std.proofs.Common.{◌≡◌, ℕ, ◌^◌, ◌<◌, ◌≤◌, max, Bool, true, false, nat_lt, List, [], ◌∷◌, Result, Ok, Err, refl, sym, ap, ap₂, ◌∙◌, subst, lt-ltb, le-ltb}
use Rattle.std.proofs.lemmas.Bool.{true≢false}
use Rattle.gr_out.specs.Lane.{Lane}
use Rattle.gr_sched.specs.declared.step.Step.TheVariants as step
use Rattle.gr_model.specs.declared.report.Report.{Report}
use Rattle.gr_model.specs.declared.report.Report.TheVariants as line
use Rattle.gr_model.specs.Net.{Net, numbers}
use Rattle.gr_model.specs.Broker.{max_tick}
use Rattle.gr_model.specs.World.{World, Transition, unchanged, followed_by, in_turn, sweep_for, sweep_moment, sweep_by, next, next_by}
use Rattle.gr_world.specs.declared.fault.WorldFault.{WorldFault}
use Rattle.gr_world.specs.declared.fault.WorldFault.TheVariants as fault
use Rattle.gr_world.specs.Seen.{WorldView, net_in, world_of}
use Rattle.gr_world.specs.Of.{IsWorld, LanesFit, IsSound}
use Rattle.gr_world.specs.Steps.{Makes, Does, IsCarried}
use Rattle.gr_world.specs.Disk.{StaysSound}
use Rattle.gr_world.specs.Ran.{Ran, with_spent, noted_in}
use Rattle.gr_world.specs.Sweeps.{at_moment, swept}

-- Once memory was refused, that alone is noted

noted_cases : (P : WorldView → Type 0) (w : WorldView) (r : Result (List Report) WorldFault) → P w → P (with_spent w) → P (noted_in w r)
noted_cases P w (Ok ls) x y = x
noted_cases P w (Err fault.Memory) x y = y
noted_cases P w (Err fault.Disk) x y = x
noted_cases P w (Err fault.Reopen) x y = x
noted_cases P w (Err (fault.Damaged p at)) x y = x
noted_cases P w (Err (fault.HostsSubscriber b)) x y = x
noted_cases P w (Err (fault.NoFrame sent)) x y = x
noted_cases P w (Err (fault.ClockRange at)) x y = x

-- a world stays one
pub noted_fits : (w new : WorldView) (r : Result (List Report) WorldFault) → new ≡ noted_in w r → IsWorld w → IsWorld new
noted_fits w new r e f =
    subst IsWorld (sym e)
    (noted_cases IsWorld w r f (record { count = f.count; brokers = f.brokers; numbered = f.numbered; spelled = f.spelled; over = f.over; clock = f.clock; most = f.most; down = f.down }))

-- no lane is used once memory was refused
pub noted_lanes : (lanes : ℕ → Lane) (w new : WorldView) (r : Result (List Report) WorldFault) → new ≡ noted_in w r → LanesFit lanes w → LanesFit lanes new
noted_lanes lanes w new r e x =
    subst (λ (v : WorldView). LanesFit lanes v) (sym e)
    (noted_cases (LanesFit lanes) w r x (record { logs = λ u p l i d k. absurd (true≢false u); readable = λ u p i. absurd (true≢false u) }))

-- a sound world stays sound, which the clock has no part in
pub noted_sound : (old mid w new : WorldView) (m : ℕ) (r result : Result (List Report) WorldFault) → mid ≡ at_moment old m → result ≡ r → new ≡ noted_in w r → Ran mid w r → StaysSound old new result
noted_sound old mid w new m r result clock same e x =
    let still : IsSound old → IsSound mid = λ h. subst IsSound (sym clock) (record { logs = h.logs; up = h.up }) in
    let sound : StaysSound old (noted_in w r) r = record {
      sound = λ h n. let s = x.sound.sound (still h) n in noted_cases IsSound w r s (record { logs = s.logs; up = s.up });
      opened = λ h. x.sound.opened (still h);
    } in
    subst (λ (v : WorldView). StaysSound old v result) (sym e) (subst (λ (q : Result (List Report) WorldFault). StaysSound old (noted_in w r) q) (sym same) sound)

-- The clock moves, and the lanes fit as before
pub moved_lanes : (lanes : ℕ → Lane) (w mid : WorldView) (m : ℕ) → mid ≡ at_moment w m → LanesFit lanes w → LanesFit lanes mid
moved_lanes lanes w mid m e x = subst (λ (v : WorldView). LanesFit lanes v) (sym e) (record { logs = x.logs; readable = x.readable })

-- The step

-- past the last tick it is refused
sweep_refused : (net : Net) (w : World) (n : ℕ) → nat_lt max_tick (sweep_moment net w) ≡ true
    → next net w (record { number = n; step = step.Sweep }) ≡ record { world = w; lines = line.RefusedClock n (sweep_moment net w) ∷ [] }
unfolding next_by sweep_by
sweep_refused net w n h = go (nat_lt max_tick m) h
  where
    m : ℕ
    m = sweep_moment net w

    u : World
    u = record { clock = m; most = max m w.most; frames = w.frames; views = w.views; logs = w.logs }

    go : (q : Bool) → q ≡ true → (let t : Transition = elim q [ true ↦ unchanged w (line.RefusedClock n m ∷ []) | false ↦ followed_by (in_turn (sweep_for net) (numbers net.publishers) u) (λ x. unchanged x (line.Swept m ∷ [])) ] in t)
        ≡ unchanged w (line.RefusedClock n m ∷ [])
    go true e = refl
    go false e = cc

-- else all publishers are swept, with the clock at the moment
sweep_moves : (net : Net) (w : World) (n : ℕ) → nat_lt max_tick (sweep_moment net w) ≡ false
    → next net w (record { number = n; step = step.Sweep })
    ≡ swept net (record { clock = sweep_moment net w; most = max (sweep_moment net w) w.most; frames = w.frames; views = w.views; logs = w.logs }) (sweep_moment net w)
unfolding next_by sweep_by
sweep_moves net w n h = go (nat_lt max_tick m) h
  where
    m : ℕ
    m = sweep_moment net w

    u : World
    u = record { clock = m; most = max m w.most; frames = w.frames; views = w.views; logs = w.logs }

    go : (q : Bool) → q ≡ false → (let t : Transition = elim q [ true ↦ unchanged w (line.RefusedClock n m ∷ []) | false ↦ followed_by (in_turn (sweep_for net) (numbers net.publishers) u) (λ x. unchanged x (line.Swept m ∷ [])) ] in t)
        ≡ followed_by (in_turn (sweep_for net) (numbers net.publishers) u) (λ x. unchanged x (line.Swept m ∷ []))
    go true e = cc
    go false e = refl

-- so an answer that the moment is past the last tick is the machine's step
pub past_makes : (old : WorldView) (m : ℕ) → m ≡ sweep_moment (net_in old) (world_of old) → 2 ^ 62 < m → Makes step.Sweep old old (Err (fault.ClockRange m))
past_makes old m moment past n lines e =
    let range = ap (λ k. nat_lt max_tick k) (sym moment) ∙ lt-ltb max_tick m past in
    let same : line.RefusedClock n m ∷ [] ≡ lines = cc in
    sweep_refused (net_in old) (world_of old) n range
    ∙ ap (λ (l : List Report). record { world = world_of old; lines = l }) (ap (λ k. line.RefusedClock n k ∷ []) (sym moment) ∙ same)

-- and so is what is done at the moment
module _ (old : WorldView) (m : ℕ) (moment : m ≡ sweep_moment (net_in old) (world_of old)) (within : m ≤ 2 ^ 62) where
  done_makes : (w : WorldView) (r : Result (List Report) WorldFault) → IsCarried r → Does (swept (net_in old) (world_of (at_moment old m)) m) w r → Makes step.Sweep old (noted_in w r) r
  done_makes w (Ok ls) carried d n lines e =
      let range = ap (λ k. nat_lt max_tick k) (sym moment) ∙ le-ltb max_tick m within in
      let same : ls ≡ lines = cc in
      sweep_moves (net_in old) (world_of old) n range
      ∙ ap (λ k. swept (net_in old) (record { clock = k; most = max k old.most; frames = (world_of old).frames; views = (world_of old).views; logs = (world_of old).logs }) k) (sym moment)
      ∙ ap₂ (λ u l. record { world = u; lines = l }) (sym d.world) (sym d.lines ∙ same)
  done_makes w (Err fault.Memory) carried d n lines e = cc
  done_makes w (Err fault.Disk) carried d n lines e = cc
  done_makes w (Err fault.Reopen) carried d n lines e = cc
  done_makes w (Err (fault.Damaged p at)) carried d n lines e = absurd carried
  done_makes w (Err (fault.HostsSubscriber b)) carried d n lines e = absurd carried
  done_makes w (Err (fault.NoFrame sent)) carried d n lines e = absurd carried
  done_makes w (Err (fault.ClockRange at)) carried d n lines e = absurd carried

  pub swept_makes : (mid w new : WorldView) (r result : Result (List Report) WorldFault) → mid ≡ at_moment old m → result ≡ r → new ≡ noted_in w r → IsCarried r → Does (swept (net_in mid) (world_of mid) m) w r → Makes step.Sweep old new result
  swept_makes mid w new r result clock same e carried d =
      subst (λ (v : WorldView). Makes step.Sweep old v result) (sym e)
      (subst (λ (q : Result (List Report) WorldFault). Makes step.Sweep old (noted_in w r) q) (sym same)
      (done_makes w r carried (subst (λ (v : WorldView). Does (swept (net_in v) (world_of v) m) w r) clock d)))
