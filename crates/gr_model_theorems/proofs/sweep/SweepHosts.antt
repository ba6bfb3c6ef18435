-- After a sweep every host that keeps a horizon has it where its log is settled
use Rattle.std.proofs.Common.{◌≡◌, ◌⊎◌, inl, inr, ⊎_elim, ℕ, suc, zero, ◌+◌, ◌≤◌, ◌<◌, max, Bool, true, false, [], ◌∷◌, ◌++◌, map, refl, sym, ap, ◌∙◌, subst, arith, le_antisymm, le_trans}
use Rattle.std.specs.Prelude.{nat_eq, nat_le, nat_lt}
use Rattle.std.proofs.lemmas.Bool.{cases_Bool, cases_eq, eq-eqb, ne_eqb, or_left, or_right, true≢false, both_ways}
use Rattle.gr_frame.specs.declared.Frame.{Frame}
use Rattle.gr_model.specs.declared.report.Report.TheVariants as line
use Rattle.gr_model.specs.Net.{Net, keeps_horizon, numbers, numbers_from}
use Rattle.gr_model.specs.Broker.{Outcome, wake, receive, max_tick}
use Rattle.gr_model.specs.World.{World, Transition, view_of, log_of, absorbed, unchanged, followed_by, in_turn, sweep_moment, deliver_frame_by, next_by, sweep_by, wake_for_by}
use Rattle.gr_model_calls.specs.OneNet.{wake_for, deliver_frame, sweep, sweep_for, next}
use Rattle.gr_model.specs.Headline.{History, unlogged_after}
use Rattle.gr_model.specs.Tree.{IsNet}
use Rattle.gr_sched.specs.declared.step.Step.{Step}
use Rattle.gr_sched.specs.declared.step.Step.TheVariants as step
use Rattle.gr_sched.specs.declared.step.Line.{Line}
use Rattle.gr_model_calls.specs.Fits.{WorldFits, FrameTrue, HostKnows, StepIn, reached_in}
use Rattle.gr_model_calls.proofs.calls.Calls.{CallTrue, wake_call, receive_call}
use Rattle.gr_model_theorems.proofs.records.Records.{core_of, receive_log, wake_core}
use Rattle.gr_model_theorems.proofs.records.Recorded.{RecordsFit, Sweeps, sweeps_from, marked_now, settled_below}
use Rattle.gr_model_theorems.proofs.records.RecordLines.{sweeps_recs}
use Rattle.gr_model_theorems.proofs.hosts.HostHorizon.{wake_meets}
use Rattle.gr_model_calls.proofs.runs.Worlds.{held_by_host, Each, absorbed_changed}
use Rattle.gr_model_calls.proofs.asks.AskMoments.{ExpectFits}
use Rattle.gr_model_calls.proofs.runs.Chains.{Chains, sweeps_chain}
use Rattle.gr_model_calls.proofs.runs.Schedules.{clocked_fits}
use Rattle.gr_model_theorems.proofs.hosts.BareHosts.{Unlogged, bare_by, RecordsFirst, tells_bare, tells_still, told_of, told_recs, told_append, host_horizon, host_settled}

-- the horizon of the host only rises, and where the log went on it has come there
record HostMoves (net : Net) (p : ℕ) (w : World) (t : Transition) : Type 0 where
  rises : host_horizon net p w ≤ host_horizon net p t.world
  meets : (host_settled p t.world ≡ host_settled p w) ⊎ (host_horizon net p t.world ≡ host_settled p t.world)

moves_seq : (net : Net) (p : ℕ) (w : World) (t : Transition) (f : World → Transition) → IsNet net → p < net.publishers → WorldFits net (f t.world).world → HostMoves net p w t → HostMoves net p t.world (f t.world) → HostMoves net p w (followed_by t f)
moves_seq net p w t f n j fits a b = record {
  rises = le_trans a.rises b.rises;
  meets = ⊎_elim
      (λ e. ⊎_elim (λ x. inl (e ∙ x)) (λ x. inr (le_antisymm (fits.views p (net.host p) j (n.host_in p j)).horizon.settled (omega (arith, b.rises, x, e)))) a.meets)
      (λ y. inr y)
      b.meets;
}

-- a call of a broker
call_moves : (net : Net) (p : ℕ) (w : World) (b q : ℕ) (o : Outcome) → WorldFits net w → b < net.brokers → q < net.publishers → CallTrue net q b (view_of w b q) (log_of w q) (reached_in net w q) o → (q ≡ p → net.host q ≡ b → (o.log.settled ≡ (log_of w q).settled) ⊎ (o.view.horizon ≡ o.log.settled)) → HostMoves net p w (absorbed w b q o)
call_moves net p w b q o f i j call meets =
    let c = absorbed_changed net w b q o f i j in
    let u = (absorbed w b q o).world in
    elim (cases_eq q p) [
      | inr e ↦
          let h : host_horizon net p u ≡ host_horizon net p w = ap (λ v. v.horizon) (c.other_publisher (net.host p) p (λ x. e (sym x))) in
          record { rises = omega (arith, h); meets = inl (ap (λ l. l.settled) (c.other_log p (λ x. e (sym x)))) }
      | inl e ↦ subst (λ z. HostMoves net z w (absorbed w b q o)) e (elim (cases_eq (net.host q) b) [
        | inr g ↦
            let h : host_horizon net q u ≡ host_horizon net q w = ap (λ v. v.horizon) (c.other_broker (net.host q) q g) in
            record { rises = omega (arith, h); meets = inl (ap (λ l. l.settled) (c.log ∙ call.same_log (ne_eqb (net.host q) b g))) }
        | inl g ↦
            let h : host_horizon net q u ≡ o.view.horizon = ap (λ a. (view_of u a q).horizon) g ∙ ap (λ v. v.horizon) c.view in
            let k : host_horizon net q w ≡ (view_of w b q).horizon = ap (λ a. (view_of w a q).horizon) g in
            record {
              rises = omega (arith, h, k, call.horizon);
              meets = ⊎_elim (λ x. inl (ap (λ l. l.settled) c.log ∙ x)) (λ x. inr (h ∙ (x ∙ ap (λ l. l.settled) (sym c.log)))) (meets e g);
            }
      ])
    ]

wake_moves : (net : Net) (p : ℕ) (w : World) (b q : ℕ) → IsNet net → WorldFits net w → b < net.brokers → q < net.publishers → keeps_horizon net p (net.host p) ≡ true → HostMoves net p w (wake_for net w b q)
unfolding wake_for_by
wake_moves net p w b q n f i j keeps =
    let o = wake net q b w.clock (view_of w b q) (log_of w q) in
    call_moves net p w b q o f i j (wake_call net q b w.clock (view_of w b q) (log_of w q) (reached_in net w q) n j i (f.logs q j) (f.views q b j i) (held_by_host net w b q f j))
    (λ e g.
    let yes = eq-eqb (net.host q) b g in
    let kept : keeps_horizon net q b ≡ true = subst (λ z. keeps_horizon net q z ≡ true) g (subst (λ z. keeps_horizon net z (net.host z) ≡ true) (sym e) keeps) in
    elim (cases_Bool (nat_le (host_settled q w + net.quiet) w.clock)) [
      | inl y ↦ inr (wake_meets net q b w.clock (view_of w b q) (log_of w q) (reached_in net w q) n j i yes kept (f.logs q j) (f.views q b j i) (held_by_host net w b q f j yes) (subst (λ a. HostKnows (view_of w a q) (log_of w q).settled) g (f.known q j)) (λ x. absurd (both_ways (nat_le (host_settled q w + net.quiet) w.clock) x y)))
      | inr y ↦ inl (ap (λ r. r.settled) (wake_core net q b w.clock (view_of w b q) (log_of w q) (f.logs q j).keeps) ∙ rw (yes, y) refl)
    ])

deliver_moves : (net : Net) (p : ℕ) (w : World) (x : Frame) → IsNet net → WorldFits net w → FrameTrue net w x → HostMoves net p w (deliver_frame net w x)
unfolding deliver_frame_by
deliver_moves net p w x n f t =
    let b = x.head.to in
    let q = x.head.publisher in
    call_moves net p w b q (receive net w.clock x (view_of w b q) (log_of w q)) f t.fits.to_in t.publisher_in
    (receive_call net w.clock x (view_of w b q) (log_of w q) (reached_in net w q) n t.publisher_in t.fits t.told (f.logs q t.publisher_in) (f.views q b t.publisher_in t.fits.to_in))
    (λ e g. inl (ap (λ l. l.settled) (receive_log net w.clock x (view_of w b q) (log_of w q))))

moves_chain : (net : Net) (p : ℕ) → IsNet net → p < net.publishers → keeps_horizon net p (net.host p) ≡ true → Chains net (HostMoves net p)
moves_chain net p n j keeps = record {
  nil = λ w f. record { rises = omega arith; meets = inl refl };
  seq = λ w t f g k a x b. moves_seq net p w t f n j x.fits a b;
  wake = λ w b q f i k. wake_moves net p w b q n f i k keeps;
  deliver = λ w x f t. deliver_moves net p w x n f t;
}

-- each publisher is marked
marks_told : (p c a n : ℕ) → a ≤ p → p < a + n → told_of p (map (λ q. line.Mark q c) (numbers_from a n)) ≡ true
marks_told p c a zero h k = absurd (omega arith)
marks_told p c a (suc n) h k =
    elim (cases_eq a p) [
      | inl e ↦ or_left (nat_eq a p) (told_of p (map (λ q. line.Mark q c) (numbers_from (suc a) n))) (eq-eqb a p e)
      | inr e ↦ or_right (nat_eq a p) (told_of p (map (λ q. line.Mark q c) (numbers_from (suc a) n))) (marks_told p c (suc a) n (omega (arith, e)) (omega arith))
    ]

-- a sweep tells of each publisher, and its host has come to where the log is settled
pub sweep_tells : (net : Net) (w : World) (k p : ℕ) → IsNet net → 1 ≤ net.quiet → WorldFits net w → p < net.publishers → keeps_horizon net p (net.host p) ≡ true → RecordsFirst net p w (sweep net w k)
unfolding sweep_by
sweep_tells net w k p n z f j keeps = go (nat_lt max_tick m)
  where
    m : ℕ
    m = sweep_moment net w

    u : World
    u = record { clock = m; most = max m w.most; frames = w.frames; views = w.views; logs = w.logs }

    g : WorldFits net u
    g = clocked_fits net w m (max m w.most) f

    swept : Transition
    swept = in_turn (sweep_for net) (numbers net.publishers) u

    s : Sweeps net u swept.world 0 net.publishers
    s = sweeps_from net u 0 net.publishers n z g (omega arith)

    settled : host_settled p swept.world ≡ m
    settled = ap (λ r. r.settled) (s.inside p (omega arith) (omega (arith, j)) ∙ marked_now net m (core_of w p) (settled_below net w p f j))

    moved : HostMoves net p u swept
    moved = (sweeps_chain net (HostMoves net p) u (moves_chain net p n j keeps) n g).holds

    reached : host_horizon net p swept.world ≡ host_settled p swept.world
    reached = ⊎_elim (λ e. absurd (omega (arith, e, settled, settled_below net w p f j, z))) (λ y. y) moved.meets

    told : told_of p (swept.lines ++ line.Swept m ∷ []) ≡ true
    told = told_append p swept.lines (line.Swept m ∷ [])
        ∙ or_left (told_of p swept.lines) (told_of p (line.Swept m ∷ []))
        (told_recs p swept.lines ∙ (ap (told_of p) (sweeps_recs net u 0 net.publishers n z g (omega arith) (λ q x y. settled_below net w q f (omega arith))) ∙ marks_told p m 0 net.publishers (omega arith) (omega (arith, j))))

    go : (q : Bool) → RecordsFirst net p w (elim q [ true ↦ unchanged w (line.RefusedClock k m ∷ []) | false ↦ followed_by swept (λ x. unchanged x (line.Swept m ∷ [])) ])
    go true = tells_still net p w (unchanged w (line.RefusedClock k m ∷ [])) refl refl refl
    go false = record { told = λ x. reached; still = λ x. absurd (true≢false (sym told ∙ x)) }

bare_at : (net : Net) (w : World) (h : History) (k : ℕ) (s : Step) → IsNet net → 1 ≤ net.quiet → WorldFits net w → RecordsFit net w h → Each (ExpectFits net) w.frames → StepIn net s → Unlogged net w h.unlogged → Unlogged net (next net w (record { number = k; step = s })).world (unlogged_after net h (record { number = k; step = s }) (next net w (record { number = k; step = s })).lines)
unfolding next_by unlogged_after
bare_at net w h k step.Sweep n z f r x i a = tells_bare net w (sweep net w k) h.unlogged a (λ p j keeps. sweep_tells net w k p n z f j keeps)
bare_at net w h k s n z f r x i a = bare_by net w h k s n z f r x i refl a

-- each step keeps what the flags say of the hosts
pub step_bare : (net : Net) (w : World) (h : History) (l : Line) → IsNet net → 1 ≤ net.quiet → WorldFits net w → RecordsFit net w h → Each (ExpectFits net) w.frames → StepIn net l.step → Unlogged net w h.unlogged → Unlogged net (next net w l).world (unlogged_after net h l (next net w l).lines)
step_bare net w h l n z f r x i a = bare_at net w h l.number l.step n z f r x i a
