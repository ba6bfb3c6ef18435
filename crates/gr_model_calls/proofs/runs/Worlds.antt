-- Every step keeps what holds of the world
use Rattle.std.proofs.Common.{◌≡◌, ◌≢◌, inl, inr, ℕ, suc, zero, ◌+◌, ◌≤◌, ◌<◌, Bool, true, false, List, [], ◌∷◌, ◌++◌, length, set, get_or, refl, sym, ap, ap₂, ◌∙◌, subst, arith, le_trans, le_refl, append-nil, append_assoc}
use Rattle.std.specs.Prelude.{nat_eq, if◌then◌else◌, flat_map, filter}
use Rattle.std.specs.List.{list_any}
use Rattle.std.proofs.lemmas.Bool.{cases_Bool, cases_eq, eq-eqb, eqb-true, ne_eqb}
use Rattle.std.proofs.lemmas.List.{get_or-set_other, get_or-set_same, length-set}
use Rattle.gr_event.specs.declared.event.Event.{Event}
use Rattle.gr_frame.specs.declared.Body.{Body}
use Rattle.gr_frame.specs.declared.Body.TheVariants as body
use Rattle.gr_frame.specs.declared.Frame.{Frame}
use Rattle.gr_model.specs.declared.report.Report.{Report}
use Rattle.gr_model.specs.Net.{Net, is_late, all_late, is_host, numbers, numbers_from}
use Rattle.gr_model.specs.Broker.{View, Outcome, empty_log, publish, wake, receive, joining}
use Rattle.gr_model.specs.World.{World, Transition, blank_view, view_of, log_of, with_view, absorbed, unchanged, followed_by, in_turn, join_now_by, frames_past, sent_lines, sent_since, is_want, is_know_to, at_depth, outwards, inwards, numbers_down, deliver_frame_by, deliver_up_by, hand_down_by, publish_now_by, sweep_for_by, wake_all_by, wake_for_by, wake_up_by}
use Rattle.gr_model_calls.specs.OneNet.{wake_for, wake_all, deliver_frame, publish_now, join_now, deliver_up, wake_up, hand_down, sweep_for}
use Rattle.gr_model_calls.specs.Truth.{HasEvent, Grows, Facts, IsLater}
use Rattle.gr_model_calls.proofs.calls.Held.{holds_later, grows_not, grows_on}
use Rattle.gr_model_calls.specs.Said.{said_at, due_upto, due_between}
use Rattle.gr_model_calls.specs.Fits.{facts, reached_in, facts_of, LogFits, ViewTrue, HostKnows, CutTrue, BodyTrue, FrameFits, AllFit, FrameTrue, AllFramesTrue, WorldFits, LinesFit}
use Rattle.gr_model.specs.Tree.{IsNet, IsSubscriber}
use Rattle.gr_model.specs.Headline.{delivered_events, last_horizon}
use Rattle.gr_model_calls.specs.Steady.{Steady}
use Rattle.gr_model_calls.proofs.calls.Told.{due_more}
use Rattle.gr_model_calls.proofs.calls.Telling.{gots-append, last_horizon-append, Steady-append, Neutral, Neutral-append, Neutral-nil, sent_lines_neutral, CallTells, Silent, due_upto_same, wake_tells, receive_tells, publish_tells, joining_tells}
use Rattle.gr_model_calls.proofs.calls.TruthTicks.{TrueF-later}
use Rattle.gr_model_calls.proofs.calls.CallTruth.{events_settled, ViewTrue-later, KnowsTruth-later, WantsTruth-later, AllTrue}
use Rattle.gr_model_calls.proofs.calls.Calls.{ComeOn, CallTrue, publish_call, wake_call, receive_call, joining_call}

-- Views in a list of lists

-- what stands where one view was put in its place: that view there, and all others as they were
pub view_same : (w : World) (views : List (List View)) (b p : ℕ) (v : View) → b < length views → p < length (get_or views b []) → get_or (get_or (with_view views b p v) b []) p blank_view ≡ v
view_same w views b p v h k = ap (λ row. get_or row p blank_view) (get_or-set_same views b (set (get_or views b []) p v) [] h) ∙ get_or-set_same (get_or views b []) p v blank_view k

pub view_other_broker : (views : List (List View)) (b p c q : ℕ) (v : View) → c ≢ b → get_or (get_or (with_view views b p v) c []) q blank_view ≡ get_or (get_or views c []) q blank_view
view_other_broker views b p c q v n = ap (λ row. get_or row q blank_view) (get_or-set_other views b c (set (get_or views b []) p v) [] n)

pub view_other : (views : List (List View)) (b p q : ℕ) (v : View) → b < length views → q ≢ p → get_or (get_or (with_view views b p v) b []) q blank_view ≡ get_or (get_or views b []) q blank_view
view_other views b p q v h n = ap (λ row. get_or row q blank_view) (get_or-set_same views b (set (get_or views b []) p v) [] h) ∙ get_or-set_other (get_or views b []) p q v blank_view n

-- and no row is longer or shorter
pub row_length : (views : List (List View)) (b p c : ℕ) (v : View) → b < length views → length (get_or (with_view views b p v) c []) ≡ length (get_or views c [])
row_length views b p c v h =
    elim (cases_eq c b) [
      | inl e ↦ subst (λ x. length (get_or (with_view views b p v) x []) ≡ length (get_or views x [])) (sym e) (ap length (get_or-set_same views b (set (get_or views b []) p v) [] h) ∙ length-set (get_or views b []) p v)
      | inr e ↦ ap length (get_or-set_other views b c (set (get_or views b []) p v) [] e)
    ]

-- Frames at later facts

BodyTrue-later : (net : Net) (f g : Facts) (p from to : ℕ) (y : Body) → IsLater f g → BodyTrue net f p from to y → BodyTrue net g p from to y
BodyTrue-later net f g p from to (body.Knowledge runs js) l h = (KnowsTruth-later net f g p to runs l h.0, holds_later f.joined g.joined js f.settled (HasEvent runs) l.joined (events_settled net f p to runs h.0) h.1)
BodyTrue-later net f g p from to (body.Curiosity runs) l h = WantsTruth-later net f g p from runs l h
BodyTrue-later net f g p from to (body.Expect tick) l h = le_trans h l.settled

-- frames that are true stay true as more is logged and subscribers come on
pub frames_later : (net : Net) (w u : World) (fs : List Frame) → ((q : ℕ) → q < net.publishers → IsLater (facts_of net w q) (facts_of net u q)) → AllFramesTrue net w fs → AllFramesTrue net u fs
frames_later net w u [] l a = tt
frames_later net w u (f ∷ fs) l a = (record { publisher_in = a.0.publisher_in; fits = a.0.fits; told = BodyTrue-later net (facts_of net w f.head.publisher) (facts_of net u f.head.publisher) f.head.publisher f.head.from f.head.to f.body (l f.head.publisher a.0.publisher_in) a.0.told }, frames_later net w u fs l a.1)

frames_new : (net : Net) (w : World) (p : ℕ) (fs : List Frame) → p < net.publishers → AllFit net p fs → AllTrue net (facts_of net w p) p fs → AllFramesTrue net w fs
frames_new net w p [] h a b = tt
frames_new net w p (f ∷ fs) h a b =
    let e : p ≡ f.head.publisher = sym a.0.publisher in (
      record {
        publisher_in = subst (λ q. q < net.publishers) e h;
        fits = subst (λ q. FrameFits net q f) e a.0;
        told = subst (λ q. BodyTrue net (facts_of net w q) q f.head.from f.head.to f.body) e b.0;
      },
      frames_new net w p fs h a.1 b.1,
    )

frames_append : (net : Net) (w : World) (xs ys : List Frame) → AllFramesTrue net w xs → AllFramesTrue net w ys → AllFramesTrue net w (xs ++ ys)
frames_append net w [] ys a b = b
frames_append net w (x ∷ xs) ys a b = (a.0, frames_append net w xs ys a.1 b)

-- A call is taken up

-- what changes where broker b has made a call for publisher p
pub record Changed (net : Net) (w u : World) (b p : ℕ) (o : Outcome) : Type 0 where
  pub view : view_of u b p ≡ o.view
  pub log : log_of u p ≡ o.log
  pub other_broker : (c q : ℕ) → c ≢ b → view_of u c q ≡ view_of w c q
  pub other_publisher : (c q : ℕ) → q ≢ p → view_of u c q ≡ view_of w c q
  pub other_log : (q : ℕ) → q ≢ p → log_of u q ≡ log_of w q

-- putting an outcome in place changes one view and one log, and adds the frames
pub absorbed_changed : (net : Net) (w : World) (b p : ℕ) (o : Outcome) → WorldFits net w → b < net.brokers → p < net.publishers → Changed net w (absorbed w b p o).world b p o
unfolding absorbed
absorbed_changed net w b p o f i j =
    let h : b < length w.views = omega (arith, f.views_long) in
    let k : p < length (get_or w.views b []) = omega (arith, f.rows_long b i) in
    record {
      view = view_same w w.views b p o.view h k;
      log = get_or-set_same w.logs p o.log empty_log (omega (arith, f.logs_long));
      other_broker = λ c q n. view_other_broker w.views b p c q o.view n;
      other_publisher = λ c q n. elim (cases_eq c b) [
        | inl e ↦ subst (λ x. get_or (get_or (with_view w.views b p o.view) x []) q blank_view ≡ get_or (get_or w.views x []) q blank_view) (sym e) (view_other w.views b p q o.view h n)
        | inr e ↦ view_other_broker w.views b p c q o.view e
      ];
      other_log = λ q n. get_or-set_other w.logs p q o.log empty_log n;
    }

-- under one condition the greater number stays the greater
pub if_le : (c : Bool) (x y : ℕ) → x ≤ y → (if c then x else 0) ≤ (if c then y else 0)
if_le true x y h = h
if_le false x y h = le_refl 0

-- the horizons of publisher p after the call
comes_on : (net : Net) (w u : World) (b p : ℕ) (o : Outcome) → IsNet net → b < net.brokers → Changed net w u b p o → (view_of w b p).horizon ≤ o.view.horizon → ComeOn net b o.view.horizon (reached_in net w p) (reached_in net u p)
comes_on net w u b p o n i c h = record {
  on = λ s. if_le (list_any (λ x. nat_eq x s) (net.subscribers_at (net.at s))) (view_of w (net.at s) p).horizon (view_of u (net.at s) p).horizon (elim (cases_eq (net.at s) b) [
    | inl e ↦ subst (λ x. (view_of w x p).horizon ≤ (view_of u x p).horizon) (sym e) (subst (λ v. (view_of w b p).horizon ≤ v.horizon) (sym c.view) h)
    | inr e ↦ subst (λ v. (view_of w (net.at s) p).horizon ≤ v.horizon) (sym (c.other_broker (net.at s) p e)) (le_refl (view_of w (net.at s) p).horizon)
  ]);
  here = λ s m. subst (λ x. o.view.horizon ≤ (if list_any (λ y. nat_eq y s) (net.subscribers_at x) then (view_of u x p).horizon else 0)) (sym (n.here_at b s i m)) (rw m (subst (λ v. o.view.horizon ≤ v.horizon) (sym c.view) (le_refl o.view.horizon)));
}

later_at : (net : Net) (w u : World) (b p : ℕ) (o : Outcome) → IsNet net → b < net.brokers → Changed net w u b p o → CallTrue net p b (view_of w b p) (log_of w p) (reached_in net w p) o → (q : ℕ) → IsLater (facts_of net w q) (facts_of net u q)
later_at net w u b p o n i c t q =
    elim (cases_eq q p) [
      | inl e ↦ subst (λ x. IsLater (facts_of net w x) (facts_of net u x)) (sym e) (record {
        settled = subst (λ l. (log_of w p).settled ≤ l.settled) (sym c.log) t.settled;
        said = λ x h. ap (λ l. said_at l.events x) c.log ∙ t.said x h;
        reached = (comes_on net w u b p o n i c t.horizon).on;
        joined = subst (λ l. Grows (log_of w p).joins l.joins (log_of w p).settled) (sym c.log) t.joined;
      })
      | inr e ↦ record {
        settled = subst (λ l. (log_of w q).settled ≤ l.settled) (sym (c.other_log q e)) (le_refl (log_of w q).settled);
        said = λ x h. ap (λ l. said_at l.events x) (c.other_log q e);
        reached = λ s. if_le (list_any (λ x. nat_eq x s) (net.subscribers_at (net.at s))) (view_of w (net.at s) q).horizon (view_of u (net.at s) q).horizon (subst (λ v. (view_of w (net.at s) q).horizon ≤ v.horizon) (sym (c.other_publisher (net.at s) q e)) (le_refl (view_of w (net.at s) q).horizon));
        joined = subst (λ l. Grows (log_of w q).joins l.joins (log_of w q).settled) (sym (c.other_log q e)) (grows_not (log_of w q).joins (log_of w q).settled);
      }
    ]

record Shape (net : Net) (w u : World) (o : Outcome) : Type 0 where
  views_long : length u.views ≡ net.brokers
  rows_long : (b : ℕ) → b < net.brokers → length (get_or u.views b []) ≡ net.publishers
  logs_long : length u.logs ≡ net.publishers
  frames : u.frames ≡ w.frames ++ o.frames

shape : (net : Net) (w : World) (b p : ℕ) (o : Outcome) → WorldFits net w → b < net.brokers → p < net.publishers → Shape net w (absorbed w b p o).world o
unfolding absorbed
shape net w b p o f i j = record {
  views_long = length-set w.views b (set (get_or w.views b []) p o.view) ∙ f.views_long;
  rows_long = λ c k. row_length w.views b p c o.view (omega (arith, f.views_long)) ∙ f.rows_long c k;
  logs_long = length-set w.logs p o.log ∙ f.logs_long;
  frames = refl;
}

fitted : (net : Net) (w u : World) (b p : ℕ) (o : Outcome) → IsNet net → WorldFits net w → b < net.brokers → p < net.publishers → CallTrue net p b (view_of w b p) (log_of w p) (reached_in net w p) o → Changed net w u b p o → Shape net w u o → WorldFits net u
fitted net w u b p o n f i j t c s =
    let l = later_at net w u b p o n i c t in
    let on = comes_on net w u b p o n i c t.horizon in
    let told = t.told (reached_in net u p) on in
    let host_case : (P : ℕ → Type 0) → (net.host p ≡ b → P b) → (net.host p ≢ b → P (net.host p)) → P (net.host p) = λ P yes_ no_. elim (cases_eq (net.host p) b) [ inl e ↦ subst P (sym e) (yes_ e) | inr e ↦ no_ e ] in
    record {
      views_long = s.views_long;
      rows_long = s.rows_long;
      logs_long = s.logs_long;
      views = λ q d x y. elim (cases_eq q p) [
        | inl e ↦ elim (cases_eq d b) [
          | inl g ↦ subst (λ z. ViewTrue net (facts_of net u z) z d (view_of u d z)) (sym e) (subst (λ z. ViewTrue net (facts_of net u p) p z (view_of u z p)) (sym g)
              (subst (λ v. ViewTrue net (facts_of net u p) p b v) (sym c.view) (subst (λ m. ViewTrue net (facts m (reached_in net u p)) p b o.view) (sym c.log) told.view)))
          | inr g ↦ subst (λ v. ViewTrue net (facts_of net u q) q d v) (sym (c.other_broker d q g)) (ViewTrue-later net (facts_of net w q) (facts_of net u q) q d (view_of w d q) (l q) (f.views q d x y))
        ]
        | inr e ↦ subst (λ v. ViewTrue net (facts_of net u q) q d v) (sym (c.other_publisher d q e)) (ViewTrue-later net (facts_of net w q) (facts_of net u q) q d (view_of w d q) (l q) (f.views q d x y))
      ];
      logs = λ q x. elim (cases_eq q p) [
        | inl e ↦ subst (λ z. LogFits (log_of u z)) (sym e) (subst LogFits (sym c.log) t.log_fits)
        | inr e ↦ subst LogFits (sym (c.other_log q e)) (f.logs q x)
      ];
      late = λ q x. elim (cases_eq q p) [
        | inl e ↦ subst (λ z. all_late net (log_of u z).joins ≡ true) (sym e) (subst (λ m. all_late net m.joins ≡ true) (sym c.log) (t.late (f.late p j)))
        | inr e ↦ subst (λ m. all_late net m.joins ≡ true) (sym (c.other_log q e)) (f.late q x)
      ];
      hosts = λ q x. elim (cases_eq q p) [
        | inl e ↦ subst (λ z. (view_of u (net.host z) z).joins ≡ (log_of u z).joins) (sym e) (host_case (λ h. (view_of u h p).joins ≡ (log_of u p).joins)
            (λ g. ap (λ v. v.joins) c.view ∙ (t.host_joins (eq-eqb (net.host p) b g) (subst (λ h. (view_of w h p).joins ≡ (log_of w p).joins) g (f.hosts p j)) ∙ sym (ap (λ l. l.joins) c.log)))
            (λ g. ap (λ v. v.joins) (c.other_broker (net.host p) p g) ∙ (f.hosts p j ∙ sym (ap (λ l. l.joins) (c.log ∙ t.same_log (ne_eqb (net.host p) b g))))))
        | inr e ↦ ap (λ v. v.joins) (c.other_publisher (net.host q) q e) ∙ (f.hosts q x ∙ sym (ap (λ l. l.joins) (c.other_log q e)))
      ];
      known = λ q x. elim (cases_eq q p) [
        | inl e ↦ subst (λ z. HostKnows (view_of u (net.host z) z) (log_of u z).settled) (sym e) (host_case (λ h. HostKnows (view_of u h p) (log_of u p).settled)
            (λ g. subst (λ v. HostKnows v (log_of u p).settled) (sym c.view) (subst (λ m. HostKnows o.view m.settled) (sym c.log) (t.known (eq-eqb (net.host p) b g) (subst (λ h. HostKnows (view_of w h p) (log_of w p).settled) g (f.known p j)))))
            (λ g. subst (λ v. HostKnows v (log_of u p).settled) (sym (c.other_broker (net.host p) p g)) (subst (λ m. HostKnows (view_of w (net.host p) p) m.settled) (sym (c.log ∙ t.same_log (ne_eqb (net.host p) b g))) (f.known p j))))
        | inr e ↦ subst (λ v. HostKnows v (log_of u q).settled) (sym (c.other_publisher (net.host q) q e)) (subst (λ m. HostKnows (view_of w (net.host q) q) m.settled) (sym (c.other_log q e)) (f.known q x))
      ];
      cuts = λ q x. elim (cases_eq q p) [
        | inl e ↦ subst (λ z. CutTrue net (facts_of net u z) z (net.host z) (log_of u z).cut) (sym e) (host_case (λ h. CutTrue net (facts_of net u p) p h (log_of u p).cut)
            (λ g. subst (λ m. CutTrue net (facts m (reached_in net u p)) p b m.cut) (sym c.log) (t.cut (reached_in net u p) on (eq-eqb (net.host p) b g) (subst (λ h. CutTrue net (facts_of net w p) p h (log_of w p).cut) g (f.cuts p j))))
            (λ g. λ a y z. TrueF-later net (facts_of net w p) (facts_of net u p) p (net.host p) a (l p) (f.cuts p j a y (subst (λ m. a ≤ m.cut) (c.log ∙ t.same_log (ne_eqb (net.host p) b g)) z))))
        | inr e ↦ λ a y z. TrueF-later net (facts_of net w q) (facts_of net u q) q (net.host q) a (l q) (f.cuts q x a y (subst (λ m. a ≤ m.cut) (c.other_log q e) z))
      ];
      frames = subst (λ z. AllFramesTrue net u z) (sym s.frames) (frames_append net u w.frames o.frames (frames_later net w u w.frames (λ q x. l q) f.frames)
          (frames_new net u p o.frames j t.fits (subst (λ m. AllTrue net (facts m (reached_in net u p)) p o.frames) (sym c.log) told.frames)));
    }

-- the facts of each publisher are later
abbrev pub IsLaterWorld : Net → World → World → Type 0
IsLaterWorld net w u = (q : ℕ) → q < net.publishers → IsLater (facts_of net w q) (facts_of net u q)

-- what a step keeps: the world fits, its facts are later, and the lines told go on fitting
pub record Kept (net : Net) (w : World) (t : Transition) : Type 0 where
  pub fits : WorldFits net t.world
  pub later : IsLaterWorld net w t.world
  pub lines : (ls : List Report) → LinesFit net w ls → LinesFit net t.world (ls ++ t.lines)

-- how far a subscriber has come is the horizon of its broker
pub reached_here : (net : Net) (w : World) (p s : ℕ) → IsSubscriber net s → reached_in net w p s ≡ (view_of w (net.at s) p).horizon
reached_here net w p s i = rw i.here refl

-- the subscribers of a broker stand where its horizon does
pub exact_at : (net : Net) (w : World) (b p : ℕ) → IsNet net → b < net.brokers → (s : ℕ) → list_any (λ x. nat_eq x s) (net.subscribers_at b) ≡ true → reached_in net w p s ≡ (view_of w b p).horizon
exact_at net w b p n i s m = subst (λ x. (if list_any (λ y. nat_eq y s) (net.subscribers_at x) then (view_of w x p).horizon else 0) ≡ (view_of w b p).horizon) (sym (n.here_at b s i m)) (rw m refl)

lines_absorbed : (net : Net) (w u : World) (b p k : ℕ) (o : Outcome) (fs : List Frame) → IsNet net → WorldFits net w → WorldFits net u → b < net.brokers → p < net.publishers → CallTrue net p b (view_of w b p) (log_of w p) (reached_in net w p) o → CallTells net p b (view_of w b p) o → Changed net w u b p o →
    (ls : List Report) → LinesFit net w ls → LinesFit net u (ls ++ (o.lines ++ sent_lines k fs))
lines_absorbed net w u b p k o fs n f g i j t told c ls l = record {
  got = λ q s x y. elim (cases_eq q p) [
    | inl e ↦ subst (λ z. delivered_events s z (ls ++ (o.lines ++ sent_lines k fs)) ≡ due_upto net z s (reached_in net u z s) (log_of u z).events) (sym e) (elim (cases_eq (net.at s) b) [
      | inl a ↦
          let m : list_any (λ y. nat_eq y s) (net.subscribers_at b) ≡ true = subst (λ z. list_any (λ y. nat_eq y s) (net.subscribers_at z) ≡ true) a y.here in
          let r : reached_in net w p s ≡ (view_of w b p).horizon = exact_at net w b p n i s m in
          let r' : reached_in net u p s ≡ o.view.horizon = exact_at net u b p n i s m ∙ ap (λ v. v.horizon) c.view in
          gots-append s p ls (o.lines ++ sent_lines k fs)
          ∙ (ap₂ (λ a z. a ++ z) (l.got p s j y ∙ (ap (λ h. due_upto net p s h (log_of w p).events) r ∙ due_upto_same net p s (view_of w b p).horizon (log_of w p).events o.log.events (f.logs p j).rise t.log_fits.rise (λ z h. sym (t.said z (le_trans h (f.views p b j i).horizon.settled)))))
          (gots-append s p o.lines (sent_lines k fs) ∙ (ap₂ (λ a z. a ++ z) (told.got s m) (sent_lines_neutral s p k fs).got ∙ append-nil (due_between net p s (view_of w b p).horizon o.view.horizon o.log.events)))
          ∙ (sym (due_more net p s (view_of w b p).horizon o.view.horizon 0 o.log.events t.horizon t.log_fits.rise)
          ∙ ap₂ (λ h m. due_upto net p s h m.events) (sym r') (sym c.log)))
      | inr a ↦
          let quiet = quiet_at p s (λ e. not_here s y a) in
          gots-append s p ls (o.lines ++ sent_lines k fs) ∙ (ap₂ (λ a z. a ++ z) (l.got p s j y) quiet.got ∙ (append-nil (due_upto net p s (reached_in net w p s) (log_of w p).events)
          ∙ (due_upto_same net p s (reached_in net w p s) (log_of w p).events o.log.events (f.logs p j).rise t.log_fits.rise (λ z h. sym (t.said z (le_trans (subst (λ x. z ≤ x) (reached_here net w p s y) h) (f.views p (net.at s) j y.at_in).horizon.settled)))
          ∙ ap₂ (λ h m. due_upto net p s h m.events) (reached_here net w p s y ∙ (ap (λ v. v.horizon) (sym (c.other_broker (net.at s) p a)) ∙ sym (reached_here net u p s y))) (sym c.log))))
    ])
    | inr e ↦
        let quiet = quiet_at q s (λ h. absurd (e h)) in
        gots-append s q ls (o.lines ++ sent_lines k fs) ∙ (ap₂ (λ a z. a ++ z) (l.got q s x y) quiet.got ∙ (append-nil (due_upto net q s (reached_in net w q s) (log_of w q).events)
        ∙ ap₂ (λ h m. due_upto net q s h m.events) (reached_here net w q s y ∙ (ap (λ v. v.horizon) (sym (c.other_publisher (net.at s) q e)) ∙ sym (reached_here net u q s y))) (sym (c.other_log q e))))
  ];
  horizon = λ q s x y. elim (cases_eq q p) [
    | inl e ↦ subst (λ z. last_horizon s z 0 (ls ++ (o.lines ++ sent_lines k fs)) ≡ reached_in net u z s) (sym e) (elim (cases_eq (net.at s) b) [
      | inl a ↦
          let m : list_any (λ y. nat_eq y s) (net.subscribers_at b) ≡ true = subst (λ z. list_any (λ y. nat_eq y s) (net.subscribers_at z) ≡ true) a y.here in
          let r : reached_in net w p s ≡ (view_of w b p).horizon = exact_at net w b p n i s m in
          let r' : reached_in net u p s ≡ o.view.horizon = exact_at net u b p n i s m ∙ ap (λ v. v.horizon) c.view in
          last_horizon-append s p 0 ls (o.lines ++ sent_lines k fs)
          ∙ (ap (λ z. last_horizon s p z (o.lines ++ sent_lines k fs)) (l.horizon p s j y ∙ r)
          ∙ (last_horizon-append s p (view_of w b p).horizon o.lines (sent_lines k fs)
          ∙ ((sent_lines_neutral s p k fs).horizon (last_horizon s p (view_of w b p).horizon o.lines)
          ∙ (told.horizon s m ∙ sym r'))))
      | inr a ↦ last_horizon-append s p 0 ls (o.lines ++ sent_lines k fs) ∙ ((quiet_at p s (λ e. not_here s y a)).horizon (last_horizon s p 0 ls) ∙ (l.horizon p s j y ∙ (reached_here net w p s y ∙ (ap (λ v. v.horizon) (sym (c.other_broker (net.at s) p a)) ∙ sym (reached_here net u p s y)))))
    ])
    | inr e ↦ last_horizon-append s q 0 ls (o.lines ++ sent_lines k fs) ∙ ((quiet_at q s (λ h. absurd (e h))).horizon (last_horizon s q 0 ls) ∙ (l.horizon q s x y ∙ (reached_here net w q s y ∙ (ap (λ v. v.horizon) (sym (c.other_publisher (net.at s) q e)) ∙ sym (reached_here net u q s y)))))
  ];
  steady = λ q s x y. elim (cases_eq q p) [
    | inl e ↦ subst (λ z. Steady s z 0 0 (ls ++ (o.lines ++ sent_lines k fs))) (sym e) (Steady-append s p 0 0 ls (o.lines ++ sent_lines k fs) (l.steady p s j y) (elim (cases_eq (net.at s) b) [
      | inl a ↦
          let m : list_any (λ y. nat_eq y s) (net.subscribers_at b) ≡ true = subst (λ z. list_any (λ y. nat_eq y s) (net.subscribers_at z) ≡ true) a y.here in
          subst (λ z. Steady s p z z (o.lines ++ sent_lines k fs)) (sym (l.horizon p s j y ∙ exact_at net w b p n i s m)) (Steady-append s p (view_of w b p).horizon (view_of w b p).horizon o.lines (sent_lines k fs) (told.steady s m) ((sent_lines_neutral s p k fs).steady (last_horizon s p (view_of w b p).horizon o.lines)))
      | inr a ↦ (quiet_at p s (λ e. not_here s y a)).steady (last_horizon s p 0 ls)
    ]))
    | inr e ↦ Steady-append s q 0 0 ls (o.lines ++ sent_lines k fs) (l.steady q s x y) ((quiet_at q s (λ h. absurd (e h))).steady (last_horizon s q 0 ls))
  ];
  nothing = λ q s m x. Steady-append s q m m ls (o.lines ++ sent_lines k fs) (l.nothing q s m x) ((quiet_at q s (λ e. absurd (let lt = j in omega (arith, lt, e, x)))).steady (last_horizon s q m ls));
}
  where
    not_here : (s : ℕ) → IsSubscriber net s → net.at s ≢ b → list_any (λ x. nat_eq x s) (net.subscribers_at b) ≡ false
    not_here s y a =
        elim (cases_Bool (list_any (λ x. nat_eq x s) (net.subscribers_at b))) [
          | inl m ↦ absurd (a (n.here_at b s i m))
          | inr m ↦ m
        ]

    quiet_at : (q s : ℕ) → (q ≡ p → list_any (λ x. nat_eq x s) (net.subscribers_at b) ≡ false) → Neutral s q (o.lines ++ sent_lines k fs)
    quiet_at q s a = Neutral-append s q o.lines (sent_lines k fs) (told.elsewhere s q a) (sent_lines_neutral s q k fs)

-- silent lines change nothing
pub silent_lines : (net : Net) (w : World) (ls more : List Report) → Silent more → LinesFit net w ls → LinesFit net w (ls ++ more)
silent_lines net w ls more m l = record {
  got = λ q s x y. gots-append s q ls more ∙ (ap (λ z. delivered_events s q ls ++ z) (m s q).got ∙ (append-nil (delivered_events s q ls) ∙ l.got q s x y));
  horizon = λ q s x y. last_horizon-append s q 0 ls more ∙ ((m s q).horizon (last_horizon s q 0 ls) ∙ l.horizon q s x y);
  steady = λ q s x y. Steady-append s q 0 0 ls more (l.steady q s x y) ((m s q).steady (last_horizon s q 0 ls));
  nothing = λ q s k x. Steady-append s q k k ls more (l.nothing q s k x) ((m s q).steady (last_horizon s q k ls));
}

-- a call's lines are its own and then those of the frames that it sends
pub absorbed_lines : (w : World) (b p : ℕ) (o : Outcome) → (absorbed w b p o).lines ≡ o.lines ++ sent_lines (suc (length w.frames)) o.frames
unfolding absorbed
absorbed_lines w b p o = refl

pub absorbed_fits : (net : Net) (w : World) (b p : ℕ) (o : Outcome) → IsNet net → WorldFits net w → b < net.brokers → p < net.publishers → CallTrue net p b (view_of w b p) (log_of w p) (reached_in net w p) o → CallTells net p b (view_of w b p) o → Kept net w (absorbed w b p o)
absorbed_fits net w b p o n f i j t told =
    let c = absorbed_changed net w b p o f i j in
    let g = fitted net w (absorbed w b p o).world b p o n f i j t c (shape net w b p o f i j) in
    record {
      fits = g;
      later = λ q x. later_at net w (absorbed w b p o).world b p o n i c t q;
      lines = λ ls l. subst (λ z. LinesFit net (absorbed w b p o).world (ls ++ z)) (sym (absorbed_lines w b p o)) (lines_absorbed net w (absorbed w b p o).world b p (suc (length w.frames)) o o.frames n f g i j t told c ls l);
    }

Later-trans : (f g h : Facts) → IsLater f g → IsLater g h → IsLater f h
Later-trans f g h a b = record {
  settled = le_trans a.settled b.settled;
  said = λ t x. b.said t (le_trans x a.settled) ∙ a.said t x;
  reached = λ s. le_trans (a.reached s) (b.reached s);
  joined = grows_on f.joined g.joined h.joined f.settled g.settled a.settled a.joined b.joined;
}

-- facts are at least as late as themselves
pub Later-refl : (f : Facts) → IsLater f f
Later-refl f = record { settled = le_refl f.settled; said = λ t x. refl; reached = λ s. le_refl (f.reached s); joined = grows_not f.joined f.settled }

-- one step after another
pub Kept-after : (net : Net) (w : World) (t : Transition) (f : World → Transition) → Kept net w t → Kept net t.world (f t.world) → Kept net w (followed_by t f)
Kept-after net w t f a k = record {
  fits = k.fits;
  later = λ q i. Later-trans (facts_of net w q) (facts_of net t.world q) (facts_of net (f t.world).world q) (a.later q i) (k.later q i);
  lines = λ ls l. subst (λ z. LinesFit net (f t.world).world z) (append_assoc ls t.lines (f t.world).lines) (k.lines (ls ++ t.lines) (a.lines ls l));
}

-- nothing changes but silent lines
pub Kept-still : (net : Net) (w : World) (ls : List Report) → WorldFits net w → Silent ls → Kept net w (unchanged w ls)
Kept-still net w ls f m = record { fits = f; later = λ q i. Later-refl (facts_of net w q); lines = λ xs l. silent_lines net w xs ls m l }

-- where nothing happens the world goes on fitting
pub Kept-refl : (net : Net) (w : World) → WorldFits net w → Kept net w (unchanged w [])
Kept-refl net w f = Kept-still net w [] f (λ s q. Neutral-nil s q)

-- a frame that is true stays true in every later world
pub FrameTrue-later : (net : Net) (w u : World) (f : Frame) → IsLaterWorld net w u → FrameTrue net w f → FrameTrue net u f
FrameTrue-later net w u f l t = record { publisher_in = t.publisher_in; fits = t.fits; told = BodyTrue-later net (facts_of net w f.head.publisher) (facts_of net u f.head.publisher) f.head.publisher f.head.from f.head.to f.body (l f.head.publisher t.publisher_in) t.told }

-- Steps of broker calls

-- a host holds what its log does
pub held_by_host : (net : Net) (w : World) (b p : ℕ) → WorldFits net w → p < net.publishers → is_host net p b ≡ true → (view_of w b p).joins ≡ (log_of w p).joins
held_by_host net w b p f j e = subst (λ h. (view_of w h p).joins ≡ (log_of w p).joins) (eqb-true (net.host p) b e) (f.hosts p j)

-- a wake keeps the world fitting
pub wake_for_kept : (net : Net) (w : World) (b p : ℕ) → IsNet net → WorldFits net w → b < net.brokers → p < net.publishers → Kept net w (wake_for net w b p)
unfolding wake_for_by
wake_for_kept net w b p n f i j = absorbed_fits net w b p (wake net p b w.clock (view_of w b p) (log_of w p)) n f i j (wake_call net p b w.clock (view_of w b p) (log_of w p) (reached_in net w p) n j i (f.logs p j) (f.views p b j i) (held_by_host net w b p f j)) (wake_tells net p b w.clock (view_of w b p) (log_of w p) (reached_in net w p) n j i (f.logs p j) (f.views p b j i) (exact_at net w b p n i))

-- the delivery of a true frame keeps the world fitting
pub deliver_kept : (net : Net) (w : World) (x : Frame) → IsNet net → WorldFits net w → FrameTrue net w x → Kept net w (deliver_frame net w x)
unfolding deliver_frame_by
deliver_kept net w x n f t =
    absorbed_fits net w x.head.to x.head.publisher (receive net w.clock x (view_of w x.head.to x.head.publisher) (log_of w x.head.publisher)) n f t.fits.to_in t.publisher_in
    (receive_call net w.clock x (view_of w x.head.to x.head.publisher) (log_of w x.head.publisher) (reached_in net w x.head.publisher) n t.publisher_in t.fits t.told (f.logs x.head.publisher t.publisher_in) (f.views x.head.publisher x.head.to t.publisher_in t.fits.to_in))
    (receive_tells net w.clock x (view_of w x.head.to x.head.publisher) (log_of w x.head.publisher) (reached_in net w x.head.publisher) n t.publisher_in t.fits.to_in t.told (f.logs x.head.publisher t.publisher_in) (f.views x.head.publisher x.head.to t.publisher_in t.fits.to_in) (exact_at net w x.head.to x.head.publisher n t.fits.to_in))

-- a publish keeps the world fitting
pub publish_kept : (net : Net) (w : World) (p number : ℕ) (e : Event) → IsNet net → WorldFits net w → p < net.publishers → Kept net w (publish_now net w p number e)
unfolding publish_now_by
publish_kept net w p number e n f j =
    let i = n.host_in p j in
    absorbed_fits net w (net.host p) p (publish net p (net.host p) w.clock number e (view_of w (net.host p) p) (log_of w p)) n f i j
    (publish_call net p (net.host p) w.clock number e (view_of w (net.host p) p) (log_of w p) (reached_in net w p) n j i (eq-eqb (net.host p) (net.host p) refl) (f.logs p j) (f.views p (net.host p) j i) (f.hosts p j))
    (publish_tells net p (net.host p) w.clock number e (view_of w (net.host p) p) (log_of w p) (reached_in net w p) n j i (eq-eqb (net.host p) (net.host p) refl) (f.logs p j) (f.views p (net.host p) j i) (exact_at net w (net.host p) p n i))

-- a join keeps the world fitting
pub join_kept : (net : Net) (w : World) (s p : ℕ) → IsNet net → WorldFits net w → is_late net s ≡ true → p < net.publishers → Kept net w (join_now net w s p)
unfolding join_now_by
join_kept net w s p n f late j =
    let i = n.host_in p j in
    absorbed_fits net w (net.host p) p (joining net p (net.host p) w.clock s (view_of w (net.host p) p) (log_of w p)) n f i j
    (joining_call net p (net.host p) w.clock s (view_of w (net.host p) p) (log_of w p) (reached_in net w p) n late j i (eq-eqb (net.host p) (net.host p) refl) (f.logs p j) (f.views p (net.host p) j i))
    (joining_tells net p (net.host p) w.clock s (view_of w (net.host p) p) (log_of w p) (reached_in net w p) n j i (f.logs p j) (f.views p (net.host p) j i) (exact_at net w (net.host p) p n i))

-- a property of each
abbrev pub Each : {X : Type 0} → (X → Type 0) → List X → Type 0
Each P [] = Unit {0}
Each P (x ∷ xs) = P x × Each P xs

-- one after another, where what is asked of each item stays true
pub in_turn_kept : {X : Type 0} (net : Net) (ok : World → X → Type 0) (f : World → X → Transition) → ((w u : World) (x : X) → IsLaterWorld net w u → ok w x → ok u x) → ((w : World) (x : X) → WorldFits net w → ok w x → Kept net w (f w x)) →
    (xs : List X) (w : World) → WorldFits net w → Each (ok w) xs → Kept net w (in_turn f xs w)
in_turn_kept {X} net ok f stays one [] w fit a = Kept-refl net w fit
in_turn_kept {X} net ok f stays one (x ∷ xs) w fit a =
    let k = one w x fit a.0 in
    Kept-after net w (f w x) (in_turn f xs) k (in_turn_kept net ok f stays one xs (f w x).world k.fits (all_stay xs a.1 k.later))
  where
    all_stay : (ys : List X) → Each (ok w) ys → IsLaterWorld net w (f w x).world → Each (ok (f w x).world) ys
    all_stay [] b l = tt
    all_stay (y ∷ ys) b l = (stays w (f w x).world y l b.0, all_stay ys b.1 l)

-- each number of a range is below its end
pub numbers_below : (a n m : ℕ) → a + n ≤ m → Each (λ k. k < m) (numbers_from a n)
numbers_below a zero m h = tt
numbers_below a (suc n) m h = (omega arith, numbers_below (suc a) n m (omega arith))

-- waking a broker for all publishers keeps the world fitting
pub wake_all_kept : (net : Net) (w : World) (b : ℕ) → IsNet net → WorldFits net w → b < net.brokers → Kept net w (wake_all net w b)
unfolding wake_all_by
wake_all_kept net w b n f i = in_turn_kept net (λ u p. p < net.publishers) (λ u p. wake_for net u b p) (λ w u p l h. h) (λ u p g h. wake_for_kept net u b p n g i h) (numbers net.publishers) w f (numbers_below 0 net.publishers net.publishers (omega arith))

-- The sweep's phases

-- frames past the first few are true where all are
pub frames_past_true : (net : Net) (w : World) (n : ℕ) (fs : List Frame) → AllFramesTrue net w fs → AllFramesTrue net w (frames_past n fs)
frames_past_true net w zero fs a = a
frames_past_true net w (suc n) [] a = tt
frames_past_true net w (suc n) (f ∷ fs) a = frames_past_true net w n fs a.1

-- frames that pass a test are true where all are
pub filter_frames : (net : Net) (w : World) (test : Frame → Bool) (fs : List Frame) → AllFramesTrue net w fs → Each (FrameTrue net w) (filter test fs)
filter_frames net w test [] a = tt
filter_frames net w test (f ∷ fs) a =
    elim (cases_Bool (test f)) [
      | inl e ↦ rw e (a.0, filter_frames net w test fs a.1)
      | inr e ↦ rw e (filter_frames net w test fs a.1)
    ]

-- deliveries with the upward deliveries that follow them keep the world fitting
pub deliver_up_kept : (net : Net) (fuel : ℕ) (fs : List Frame) (w : World) → IsNet net → WorldFits net w → Each (FrameTrue net w) fs → Kept net w (deliver_up net fuel fs w)
unfolding deliver_up_by
deliver_up_kept net zero fs w n f a = Kept-refl net w f
deliver_up_kept net (suc fuel) fs w n f a =
    in_turn_kept net (FrameTrue net) (λ u x. followed_by (deliver_frame net u x) (λ y. deliver_up net fuel (filter is_want (sent_since u y)) y)) (FrameTrue-later net)
    (λ u x g h. let k = deliver_kept net u x n g h in let y = (deliver_frame net u x).world in
    Kept-after net u (deliver_frame net u x) (λ y. deliver_up net fuel (filter is_want (sent_since u y)) y) k (deliver_up_kept net fuel (filter is_want (sent_since u y)) y n k.fits (filter_frames net y is_want (sent_since u y) (frames_past_true net y (length u.frames) y.frames k.fits.frames))))
    fs w f a

-- a wake with the upward deliveries that follow it keeps the world fitting
pub wake_up_kept : (net : Net) (p : ℕ) (w : World) (b : ℕ) → IsNet net → WorldFits net w → b < net.brokers → p < net.publishers → Kept net w (wake_up net p w b)
unfolding wake_up_by
wake_up_kept net p w b n f i j =
    let k = wake_for_kept net w b p n f i j in
    let y = (wake_for net w b p).world in
    Kept-after net w (wake_for net w b p) (λ u. deliver_up net net.brokers (filter is_want (sent_since w u)) u) k (deliver_up_kept net net.brokers (filter is_want (sent_since w y)) y n k.fits (filter_frames net y is_want (sent_since w y) (frames_past_true net y (length w.frames) y.frames k.fits.frames)))

-- a broker's turn in the second phase keeps the world fitting
pub hand_down_kept : (net : Net) (p first : ℕ) (w : World) (b : ℕ) → IsNet net → WorldFits net w → Kept net w (hand_down net p first w b)
unfolding hand_down_by
hand_down_kept net p first w b n f = in_turn_kept net (FrameTrue net) (deliver_frame net) (FrameTrue-later net) (λ u x g h. deliver_kept net u x n g h) (filter (is_know_to p b) (frames_past first w.frames)) w f (filter_frames net w (is_know_to p b) (frames_past first w.frames) (frames_past_true net w first w.frames f.frames))

Each-append : {X : Type 0} (P : X → Type 0) (xs ys : List X) → Each P xs → Each P ys → Each P (xs ++ ys)
Each-append P [] ys a b = b
Each-append P (x ∷ xs) ys a b = (a.0, Each-append P xs ys a.1 b)

Each-filter : {X : Type 0} (P : X → Type 0) (test : X → Bool) (xs : List X) → Each P xs → Each P (filter test xs)
Each-filter P test [] a = tt
Each-filter P test (x ∷ xs) a =
    elim (cases_Bool (test x)) [
      | inl e ↦ rw e (a.0, Each-filter P test xs a.1)
      | inr e ↦ rw e (Each-filter P test xs a.1)
    ]

-- each number in a list by depths is that of a broker
pub depths_in : (net : Net) (p : ℕ) (ds : List ℕ) → Each (λ b. b < net.brokers) (flat_map (at_depth net p) ds)
depths_in net p [] = tt
depths_in net p (d ∷ ds) = Each-append (λ b. b < net.brokers) (at_depth net p d) (flat_map (at_depth net p) ds) (Each-filter (λ b. b < net.brokers) (λ b. nat_eq (net.depth p b) d) (numbers net.brokers) (numbers_below 0 net.brokers net.brokers (omega arith))) (depths_in net p ds)

-- the sweep of one publisher keeps the world fitting
pub sweep_for_kept : (net : Net) (w : World) (p : ℕ) → IsNet net → WorldFits net w → p < net.publishers → Kept net w (sweep_for net w p)
unfolding sweep_for_by
sweep_for_kept net w p n f j =
    let up = λ (u : World) (g : WorldFits net u). in_turn_kept net (λ x b. b < net.brokers) (wake_up net p) (λ x y b l h. h) (λ x b g h. wake_up_kept net p x b n g h j) (inwards net p) u g (depths_in net p (numbers_down net.brokers)) in
    let a = up w f in
    let w1 = (in_turn (wake_up net p) (inwards net p) w).world in
    let b = in_turn_kept net (λ x c. c < net.brokers) (hand_down net p (length w.frames)) (λ x y c l h. h) (λ x c g h. hand_down_kept net p (length w.frames) x c n g) (outwards net p) w1 a.fits (depths_in net p (numbers net.brokers)) in
    let w2 = (in_turn (hand_down net p (length w.frames)) (outwards net p) w1).world in
    let c = up w2 b.fits in
    Kept-after net w (followed_by (in_turn (wake_up net p) (inwards net p) w) (in_turn (hand_down net p (length w.frames)) (outwards net p))) (in_turn (wake_up net p) (inwards net p)) (Kept-after net w (in_turn (wake_up net p) (inwards net p) w) (in_turn (hand_down net p (length w.frames)) (outwards net p)) a b) c
