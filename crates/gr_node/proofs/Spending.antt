-- Spent is answered exactly where no tick was left for the very next event
use Rattle.std.proofs.Common.{◌≡◌, ℕ, suc, length, ◌≤◌, ◌<◌, ◌↔◌, max, Bool, false, refl, sym, ap, ◌∙◌, subst, arith}
use Rattle.std.specs.Prelude.{nat_eq, if◌then◌else◌}
use Rattle.std.proofs.lemmas.Bool.{eq-eqb, ne_eqb, lt-leb, lt-ltb, le-leb, le-ltb}
use Rattle.std.proofs.lemmas.List.{get_or-set_same}
use Rattle.gr_note.specs.declared.note.Note.TheVariants.{Next, Spent}
use Rattle.gr_pubend.specs.declared.answers.Published.{Published}
use Rattle.gr_pubend.specs.declared.answers.Published.TheVariants.{Logged, Already, Gap, Exhausted}
use Rattle.gr_model.specs.Net.{Net}
use Rattle.gr_model.specs.Broker.{View, Log, Outcome, empty_log, max_tick, with_event, publish, published, seen}
use Rattle.gr_model.specs.World.{World, Transition, view_of, log_of, absorbed, publish_now, publish_now_by}
use Rattle.gr_model.specs.Arrivals.{Publish}
use Rattle.gr_model_calls.proofs.calls.HostCases.{publish_cases, news_of}
use Rattle.gr_model_calls.proofs.calls.Calls.{learn_log}
use Rattle.gr_node.specs.Plan.{reply_to}

module _ (x : Publish) where
  abbrev number : ℕ
  number = x.1.0

  -- Spent is answered exactly where the publish was answered that no tick is left
  abbrev SaysSpent : ℕ → Published → Type 0
  SaysSpent last a = (reply_to last x ≡ Spent x.0) ↔ (a ≡ Exhausted)

  -- another number is waited for
  goes_on : (last : ℕ) (a : Published) → nat_eq number (suc last) ≡ false → (a ≡ Exhausted → ⊥) → SaysSpent last a
  goes_on last a e other = (
    λ h. absurd (next_not (sym (ap (λ (c : Bool). if c then Spent x.0 else Next x.0 (suc last)) e) ∙ h)),
    λ h. absurd (other h),
  )
    where
      next_not : Next x.0 (suc last) ≡ Spent x.0 → ⊥
      next_not h = cc

  spent_is : (net : Net) (b now : ℕ) (v : View) (log : Log) → (let o : Outcome = publish net x.0 b now number x.1.1 v log in let l : Log = o.log in SaysSpent l.last (published log number x.1.1 now))
  unfolding published
  spent_is net b now v log =
      publish_cases net x.0 b now number x.1.1 v log (λ o. let l : Log = o.log in SaysSpent l.last (published log number x.1.1 now))
      (λ l. goes_on log.last (published log number x.1.1 now) (ne_eqb number (suc log.last) (λ h. omega (arith, h, l))) (already l))
      (λ l. goes_on log.last (published log number x.1.1 now) (ne_eqb number (suc log.last) (λ h. omega (arith, h, l))) (gap l))
      (λ e l. (λ h. exhausted e l, λ h. ap (λ (c : Bool). if c then Spent x.0 else Next x.0 (suc log.last)) (eq-eqb number (suc log.last) e)))
      (λ e l.
      subst (λ (m : Log). SaysSpent m.last (published log number x.1.1 now)) (sym (learn_log net x.0 b (news_of log tick x.1.1) v (with_event log tick x.1.1)))
      (goes_on (suc log.last) (published log number x.1.1 now) (ne_eqb number (suc (suc log.last)) (λ h. omega (arith, h, e))) (logged e l)))
    where
      tick : ℕ
      tick = max (suc log.settled) now

      already : number ≤ log.last → published log number x.1.1 now ≡ Exhausted → ⊥
      already l h = let is : published log number x.1.1 now ≡ Already = rw (published, le-leb number log.last l) refl in let e : Already ≡ Exhausted = sym is ∙ h in cc

      gap : suc log.last < number → published log number x.1.1 now ≡ Exhausted → ⊥
      gap l h = let is : published log number x.1.1 now ≡ Gap (suc log.last) = rw (published, lt-leb number log.last (omega (arith, l)), lt-ltb (suc log.last) number l) refl in let e : Gap (suc log.last) ≡ Exhausted = sym is ∙ h in cc

      exhausted : number ≡ suc log.last → max_tick < tick → published log number x.1.1 now ≡ Exhausted
      exhausted e l = rw (published, lt-leb number log.last (omega (arith, e)), le-ltb (suc log.last) number (omega (arith, e)), lt-ltb max_tick tick l) refl

      logged : number ≡ suc log.last → tick ≤ max_tick → published log number x.1.1 now ≡ Exhausted → ⊥
      logged e l h = let is : published log number x.1.1 now ≡ Logged tick (news_of log tick x.1.1) = rw (published, lt-leb number log.last (omega (arith, e)), le-ltb (suc log.last) number (omega (arith, e)), le-ltb max_tick tick l) refl in let f : Logged tick (news_of log tick x.1.1) ≡ Exhausted = sym is ∙ h in cc

  -- the same of a world
  pub spent_where_exhausted : (net : Net) (w : World) → x.0 < length w.logs
      → (let u : Transition = publish_now net w x.0 number x.1.1 in let l : Log = log_of u.world x.0 in SaysSpent l.last (published (log_of w x.0) number x.1.1 w.clock))
  unfolding publish_now_by absorbed
  spent_where_exhausted net w below =
      let b : ℕ = net.host x.0 in
      let shown : Net = seen net (view_of w b x.0) in
      let o : Outcome = publish shown x.0 b w.clock number x.1.1 (view_of w b x.0) (log_of w x.0) in
      subst (λ (l : Log). SaysSpent l.last (published (log_of w x.0) number x.1.1 w.clock)) (sym (get_or-set_same w.logs x.0 o.log empty_log below))
      (spent_is shown b w.clock (view_of w b x.0) (log_of w x.0))
