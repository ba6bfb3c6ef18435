-- What the first phase of a publisher's sweep leaves: each broker has asked what it needs, up to the host, which has marked its log and told its children; before the host's wake nothing past the old mark was known, since what is known is true
use Rattle.std.proofs.Common.{◌≡◌, ◌≢◌, ◌⊎◌, inl, inr, ⊎_elim, ℕ, suc, zero, ◌+◌, ◌≤◌, ◌<◌, true, false, List, [], ◌∷◌, length, get_or, refl, sym, ap, ◌∙◌, subst, arith}
use Rattle.std.specs.Prelude.{nat_le}
use Rattle.std.proofs.lemmas.Bool.{cases_Bool, cases_lt, cases_eq, true≢false, eq-eqb, eqb-true, le-leb, both_ways}
use Rattle.gr_know.specs.declared.values.K.{K}
use Rattle.gr_know.specs.declared.values.K.TheVariants.{Q, S}
use Rattle.gr_curio.specs.declared.values.Q3.TheVariants.{A}
use Rattle.gr_curio.specs.declared.asks.Moment.TheVariants.{Never, At}
use Rattle.gr_know.specs.Values.{known_at, is_Q}
use Rattle.gr_curio.specs.Values.{wanted_at, asked_at}
use Rattle.gr_model.specs.Net.{Net, is_host, keeps_horizon}
use Rattle.gr_model.specs.Broker.{View, Outcome, any_C, wake}
use Rattle.gr_model.specs.World.{World, blank_view, view_of, log_of, in_turn, frames_past}
use Rattle.gr_model_calls.specs.OneNet.{wake_for, wake_up}
use Rattle.gr_model.specs.Tree.{IsNet}
use Rattle.gr_model_calls.specs.Fits.{WorldFits, facts_of, reached_in}
use Rattle.gr_model_calls.proofs.calls.CallTruth.{true_settled}
use Rattle.gr_model_calls.proofs.runs.Worlds.{wake_for_kept}
use Rattle.gr_model_theorems.proofs.records.Records.{core_of, wake_for_core}
use Rattle.gr_model_theorems.proofs.records.Recorded.{marked_now}
use Rattle.gr_model_theorems.proofs.hosts.HostHorizon.{wake_meets}
use Rattle.gr_model_calls.proofs.asks.AskMoments.{Taken}
use Rattle.gr_model_calls.proofs.rules.SweepAsks.{AsksNow, now_closed}
use Rattle.gr_model_calls.proofs.asks.CallTicks.{needs}
use Rattle.gr_model_calls.proofs.rules.Forwarding.{Has, wants_of}
use Rattle.gr_model_calls.proofs.rules.Answering.{Q_is, wants_true_at}
use Rattle.gr_model_calls.proofs.rules.Serves.{TellsKnown, Stores, known_of}
use Rattle.gr_model_theorems.proofs.sweep.Stays.{same_stores}
use Rattle.gr_model_theorems.proofs.sweep.Path.{Path, Has-past, Has-last}
use Rattle.gr_model_theorems.proofs.sweep.SweepStates.{IsChild, Begins, Asked, first_phase}
use Rattle.gr_model_theorems.proofs.sweep.FirstUnknown.{unknown_calls}
use Rattle.gr_model_theorems.proofs.sweep.FirstPending.{HasAskedAll, FirstAt, longer}
use Rattle.gr_model_theorems.proofs.sweep.FirstOrder.{HostLast, host_last, woken_before}
use Rattle.gr_model_theorems.proofs.sweep.FirstTurns.{Turned, turned, TurnsKeep, turns_keep}
use Rattle.gr_model_theorems.proofs.sweep.FirstHost.{TellsMark, host_tells, host_alone, woken_taken}
use Rattle.gr_model_calls.proofs.runs.Chains.{in_turn_append}

get_or_past : {X : Type 0} (xs : List X) (i : ℕ) (d : X) → length xs ≤ i → get_or xs i d ≡ d
get_or_past [] i d l = refl
get_or_past (x ∷ xs) zero d l = absurd (omega (arith, l))
get_or_past (x ∷ xs) (suc i) d l = get_or_past xs i d (omega (arith, l))

never : (m : ℕ) → Never ≢ At m
never m e = cc

S_not_Q : S ≡ Q → ⊥
S_not_Q e = cc

-- a value is Q where each other value is refuted
only_Q : (k : K) → ((k ≢ Q) → ⊥) → k ≡ Q
only_Q k h = elim (cases_Bool (is_Q k)) [ inl e ↦ Q_is k e | inr e ↦ absurd (h (λ g. true≢false (sym (ap is_Q g) ∙ e))) ]

module _ (net : Net) (p m : ℕ) (w : World) (n : IsNet net) (begun : Begins net p m w) where
  abbrev s : ℕ
  s = (log_of w p).settled

  abbrev first : ℕ
  first = length w.frames

  j : p < net.publishers
  j = begun.publisher

  abbrev host : ℕ
  host = net.host p

  host_in : host < net.brokers
  host_in = n.host_in p j

  is_it : is_host net p host ≡ true
  is_it = eq-eqb host host refl

  order : HostLast net p net.brokers
  order = host_last net p n j

  -- before the host is woken
  abbrev u : World
  u = (in_turn (wake_up net p) order.before w).world

  keeps : TurnsKeep net p w u
  keeps = turns_keep net p order.before w n j begun.fits order.below

  none_asked : (c t : ℕ) → asked_at (view_of w c p).asks t ≢ At m
  none_asked c t e =
      elim (cases_lt c net.brokers) [
        | inl l ↦ begun.none_asked c t l e
        | inr l ↦
            let v : view_of w c p ≡ blank_view = ap (λ row. get_or row p blank_view) (get_or_past w.views c [] (omega (arith, l, begun.fits.views_long))) in
            never m (sym (ap (λ x. asked_at x.asks t) v) ∙ e)
      ]

  at_first : (t : ℕ) → FirstAt net p t m first net.brokers [] w []
  at_first t = record {
    now = begun.now;
    unknown = begun.unknown;
    first_in = omega arith;
    waits = tt;
    claim = λ c x child up e. absurd (none_asked c t e);
    opened = λ c l e. absurd (none_asked c t e);
    unknown_asked = λ c l e. absurd (none_asked c t e);
    asked = λ b l e h. absurd (true≢false (sym e));
  }

  at_last : (t : ℕ) → Turned net p t m first order.before [] w u
  at_last t = turned net p t m first net.brokers order.before [] w n j begun.fits order.falls order.below (at_first t)

  have_asked : (b t : ℕ) → b < net.brokers → is_host net p b ≡ false → HasAskedAll net p t m u b
  have_asked b t i h = let r = at_last t in r.holds.asked b i (r.all b (inl (woken_before net p b order.before n j order.is i h))) h

  settled_before : (log_of u p).settled ≡ s
  settled_before = ap (λ r. r.settled) keeps.log

  -- what is known or acknowledged is settled
  fresh_before : (b t : ℕ) → b < net.brokers → s < t → known_at (view_of u b p).know t ≡ Q
  fresh_before b t i l = only_Q (known_at (view_of u b p).know t) (λ k. omega (arith, l, settled_before, true_settled net (facts_of net u p) p b t (known_at (view_of u b p).know t) ((keeps.fits.views p b j i).know.each t) k))

  plain_before : (b c t : ℕ) → b < net.brokers → IsChild net p b c → s < t → wanted_at (wants_of net p b (view_of u b p) c) t ≢ A
  plain_before b c t i child l e = omega (arith, l, settled_before, ((wants_true_at net (facts_of net u p) p (net.children p b) (view_of u b p).wants c (keeps.fits.views p b j i).wants child).each t e).settled)

  -- after the host is woken
  abbrev y : World
  y = (wake_for net u host p).world

  phase_is : first_phase net w p ≡ y
  phase_is = ap (λ bs. (in_turn (wake_up net p) bs w).world) order.is ∙ (in_turn_append (wake_up net p) order.before (host ∷ []) w ∙ host_alone net p u n j keeps.fits)

  abbrev v : View
  v = view_of u host p

  abbrev o : Outcome
  o = wake net p host u.clock v (log_of u p)

  taken : Taken net u y host p o
  taken = woken_taken net u host p keeps.fits host_in j

  now_before : AsksNow net m u
  now_before = let r = at_last 0 in r.holds.now

  in_before : first ≤ length u.frames
  in_before = let r = at_last 0 in r.holds.first_in

  fits : WorldFits net y
  fits = (wake_for_kept net u host p n keeps.fits host_in j).fits

  long : (log_of u p).settled + net.quiet ≤ u.clock
  long = omega (arith, settled_before, begun.far, now_before.clock)

  settled_now : (log_of y p).settled ≡ m
  settled_now = ap (λ r. r.settled) (wake_for_core net u host p p keeps.fits j ∙ (rw (eq-eqb p p refl, is_it) refl ∙ marked_now net u.clock (core_of u p) long)) ∙ now_before.clock

  tells : TellsMark net p host u.clock v (log_of u p) o
  tells = host_tells net p host u.clock v (log_of u p) (reached_in net u p) (n.place p host j host_in) is_it (keeps.fits.logs p j) (keeps.fits.views p host j host_in) (le-leb ((log_of u p).settled + net.quiet) u.clock long)

  horizon_now : keeps_horizon net p host ≡ true → (view_of y host p).horizon ≡ m
  horizon_now k =
      ap (λ x. x.horizon) taken.view
      ∙ (wake_meets net p host u.clock v (log_of u p) (reached_in net u p) n j host_in is_it k (keeps.fits.logs p j) (keeps.fits.views p host j host_in) (keeps.fits.hosts p j) (keeps.fits.known p j) (λ x. absurd (both_ways (nat_le ((log_of u p).settled + net.quiet) u.clock) x (le-leb ((log_of u p).settled + net.quiet) u.clock long)))
      ∙ (ap (λ l. l.settled) (sym taken.log) ∙ settled_now))

  not_host : (b : ℕ) → is_host net p b ≡ false → b ≢ host
  not_host b h e = true≢false (sym (eq-eqb host b (sym e)) ∙ h)

  other : (b : ℕ) → is_host net p b ≡ false → view_of y b p ≡ view_of u b p
  other b h = taken.other b p (not_host b h)

  plain : (b c t : ℕ) → b < net.brokers → IsChild net p b c → s < t → wanted_at (wants_of net p b (view_of y b p) c) t ≢ A
  plain b c t i child l e =
      elim (cases_eq b host) [
        | inl g ↦
            let e1 = subst (λ z. wanted_at (wants_of net p z (view_of y z p) c) t ≡ A) g e in
            let child1 = subst (λ z. IsChild net p z c) g child in
            plain_before host c t host_in child1 l (tells.plain c t child1 (sym (ap (λ x. wanted_at (wants_of net p host x c) t) taken.view) ∙ e1))
        | inr g ↦ plain_before b c t i child l (sym (ap (λ x. wanted_at (wants_of net p b x c) t) (taken.other b p g)) ∙ e)
      ]

  marked : (c t : ℕ) → IsChild net p host c → s < t → t ≤ m → Has (TellsKnown p host c t) (frames_past first y.frames)
  marked c t child l upto =
      subst (λ z. Has (TellsKnown p host c t) (frames_past first z)) (sym taken.frames)
      (Has-last (TellsKnown p host c t) first u.frames o.frames in_before
      (known_of p host c t S o.frames (λ e. S_not_Q e) (tells.tells c t child (omega (arith, l, settled_before)) (omega (arith, upto, now_before.clock)) (fresh_before host t host_in l) (plain_before host c t host_in child l))))

  -- the host knows all that is settled, so it stores no question there
  not_stored : (c t : ℕ) → 1 ≤ t → t ≤ s → Stores net u p host c t → ⊥
  not_stored c t a b x = keeps.fits.known p j t a (omega (arith, b, settled_before)) x.unknown

  served : (c x t : ℕ) → x < net.brokers → IsChild net p x c → 1 ≤ t → t ≤ s → needs net p c (view_of y c p) t ≡ true → Has (TellsKnown p x c t) (frames_past first y.frames) ⊎ (Stores net y p x c t × (is_host net p x ≡ false))
  served c x t i child one upto need =
      let c_in = n.child_in p x c j i child in
      let below = (n.place p x j i).child_not_host c child in
      let need1 : needs net p c (view_of u c p) t ≡ true = sym (ap (λ z. needs net p c z t) (other c below)) ∙ need in
      let asked = (have_asked c t c_in below).needed (omega (arith, upto, begun.far)) need1 in
      let r = at_last t in
      ⊎_elim path (λ z. absurd z) (r.holds.claim c x child (n.child_up p x c j i child) asked)
    where
      path : Path net p t m first u c x → Has (TellsKnown p x c t) (frames_past first y.frames) ⊎ (Stores net y p x c t × (is_host net p x ≡ false))
      path (inl g) = inl (subst (λ z. Has (TellsKnown p x c t) (frames_past first z)) (sym taken.frames) (Has-past (TellsKnown p x c t) first u.frames o.frames g))
      path (inr g) =
          elim (cases_Bool (is_host net p x)) [
            | inl e ↦ absurd (not_stored c t one upto (subst (λ z. Stores net u p z c t) (sym (eqb-true host x e)) g.0))
            | inr e ↦ inr (same_stores net u y p x c t (other x e) g.0, e)
          ]

  after_host : Asked net p s m first y
  after_host = record {
    fits = fits;
    now = (now_closed net m n).woken u host p keeps.fits host_in j now_before;
    unknown = (unknown_calls net n).woken u host p keeps.fits host_in j (let r = at_last 0 in r.holds.unknown);
    first_in = subst (λ z. first ≤ length z) (sym taken.frames) (longer first u.frames o.frames in_before);
    settled = settled_now;
    host = horizon_now;
    fresh = λ b t i h l. ap (λ x. known_at x.know t) (other b h) ∙ fresh_before b t i l;
    plain = plain;
    marked = marked;
    served = served;
    asked = λ b t i h e. ap (λ x. asked_at x.asks t) (other b h) ∙ (have_asked b t i h).stored (sym (ap (λ x. any_C x.wants t) (other b h)) ∙ e);
  }

-- what stands after the first phase
pub first_phase_asks : (net : Net) (p m : ℕ) (w : World) → IsNet net → 1 ≤ net.retry → 1 ≤ net.quiet → Begins net p m w → Asked net p (log_of w p).settled m (length w.frames) (first_phase net w p)
first_phase_asks net p m w n retry quiet begun = subst (Asked net p (log_of w p).settled m (length w.frames)) (sym (phase_is net p m w n begun)) (after_host net p m w n begun)
