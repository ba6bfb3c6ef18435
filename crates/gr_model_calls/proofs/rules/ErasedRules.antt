-- A call that obeys its rule on the net of the last joins obeys it on the net that its broker sees
use Rattle.std.proofs.Common.{◌≡◌, ⊎_elim, ℕ, Bool, true, false, ◌&&◌, List, [], ◌∷◌, ◌++◌, map, sym, ap, ◌∙◌, Some, None}
use Rattle.std.specs.Prelude.{nat_eq, nat_lt, nat_le, if◌then◌else◌, flat_map}
use Rattle.std.proofs.Math.Path.{fun_ext}
use Rattle.gr_event.specs.declared.event.Event.{Event}
use Rattle.gr_know.specs.declared.values.K.{K}
use Rattle.gr_know.specs.declared.values.K.TheVariants.{Q, S, D, F}
use Rattle.gr_know.specs.Values.{Known, known_at, new_K, join_K}
use Rattle.gr_curio.specs.Values.{Wanted, wanted_at, is_A, is_C}
use Rattle.gr_model.specs.declared.report.Report.{Report}
use Rattle.gr_model.specs.declared.report.Report.TheVariants as line
use Rattle.gr_model_calls.specs.Said.{said_at, TicksRise}
use Rattle.gr_model.specs.Net.{Net, with_wants}
use Rattle.gr_model.specs.Broker.{View, Log, Outcome, delivery_lines, got_line}
use Rattle.gr_model_calls.specs.Rules.{Forgets, Knows, DeliversOn, NewTicks, ChildAsks, want_at, event_of}
use Rattle.gr_model_calls.proofs.calls.Erased.{Wants, Agree, pass_agree, filter_agree, new_event, join_event}

forgets_on : (net : Net) (f g : Wants) (p b h : ℕ) (full kept : Known) → Forgets (with_wants net f) p b h full kept → Forgets (with_wants net g) p b h full kept
forgets_on net f g p b h full kept x = record { last = x.last; at_host = x.at_host; within = x.within; kept_is = x.kept_is; needed = x.needed; enough = x.enough }

knows_on : (net : Net) (f g : Wants) (p b : ℕ) (at : ℕ → K) (u : View) → Knows (with_wants net f) p b at u → Knows (with_wants net g) p b at u
knows_on net f g p b at u x = record { full = x.full; full_is = x.full_is; forgets = forgets_on net f g p b u.horizon x.full u.know x.forgets }

event_is : (k : K) (e : Event) → event_of k ≡ Some e → k ≡ D e
event_is Q e h = cc
event_is S e h = cc
event_is F e h = cc
event_is (D a) e h = cc

-- what is told of events on which both agree
told_on : (net : Net) (f g : Wants) (p h k s : ℕ) (items : List (ℕ × Event)) → TicksRise 0 items → ((t : ℕ) (e : Event) → said_at items t ≡ Some e → (s : ℕ) → f p s t e ≡ g p s t e) → delivery_lines (with_wants net f) p h k items s ≡ delivery_lines (with_wants net g) p h k items s
unfolding delivery_lines
told_on net f g p h k s items r a =
    ap (λ (xs : List (ℕ × Event)). if nat_eq h k then [] else map (got_line s p) xs ++ line.Horizon s p k ∷ [])
    (filter_agree (λ t e. f p s t e) (λ t e. g p s t e) 0 items r (λ t e x. a t e x s))

tells_on : (net : Net) (f g : Wants) (p b h k : ℕ) (at : ℕ → K) (ls : List Report) → ((t : ℕ) (e : Event) → at t ≡ D e → (s : ℕ) → f p s t e ≡ g p s t e) → DeliversOn (with_wants net f) p b h k at ls → DeliversOn (with_wants net g) p b h k at ls
tells_on net f g p b h k at ls a x = record {
  passed = x.passed;
  rise = x.rise;
  each = x.each;
  lines = x.lines ∙ ap (λ (q : ℕ → List Report). flat_map q (net.subscribers_at b)) (fun_ext (λ s. told_on net f g p h k s x.passed x.rise (λ t e y. a t e (within t e (nat_lt h t && nat_le t k) (sym (x.each t) ∙ y)))));
}
  where
    within : (t : ℕ) (e : Event) (q : Bool) → (if q then event_of (at t) else None) ≡ Some e → at t ≡ D e
    within t e true y = event_is (at t) e y
    within t e false y = cc

-- new ticks
pub new_ticks_on : (net : Net) (f g : Wants) (p b : ℕ) (piece : Known) (v : View) (log : Log) (o : Outcome) → Agree p f g v.know → Agree p f g piece → NewTicks (with_wants net f) p b piece v log o → NewTicks (with_wants net g) p b piece v log o
new_ticks_on net f g p b piece v log o a k x = record {
  sent = x.sent;
  sent_is = λ c m. let y = x.sent_is c m in record {
    runs = y.runs;
    each = λ t. y.each t ∙ ap (λ z. if is_A (want_at net p b v c t) then Q else z) (pass_agree net f g p c t (new_K (known_at v.know t) (known_at piece t)) (λ e z s. k t e (new_event (known_at v.know t) (known_at piece t) e z) s));
  };
  frames = x.frames;
  wants = x.wants;
  all_wants = x.all_wants;
  asks = x.asks;
  horizon = x.horizon;
  lines = tells_on net f g p b v.horizon o.view.horizon (λ t. join_K (known_at v.know t) (known_at piece t)) o.lines joined x.lines;
  know = knows_on net f g p b (λ t. join_K (known_at v.know t) (known_at piece t)) o.view x.know;
  log_same = x.log_same;
  joins_same = x.joins_same;
}
  where
    joined : (t : ℕ) (e : Event) → join_K (known_at v.know t) (known_at piece t) ≡ D e → (s : ℕ) → f p s t e ≡ g p s t e
    joined t e y s = ⊎_elim (λ z. a t e z s) (λ z. k t e z s) (join_event (known_at v.know t) (known_at piece t) e y)

-- curiosity
pub child_asks_on : (net : Net) (f g : Wants) (p b now c : ℕ) (piece : Wanted) (v : View) (log : Log) (o : Outcome) → Agree p f g v.know → ChildAsks (with_wants net f) p b now c piece v log o → ChildAsks (with_wants net g) p b now c piece v log o
child_asks_on net f g p b now c piece v log o a x = record {
  reply = x.reply;
  reply_is = record {
    runs = x.reply_is.runs;
    each = λ t. x.reply_is.each t ∙ ap (λ z. if is_C (wanted_at piece t) then (if is_A (want_at net p b v c t) then F else z) else Q) (pass_agree net f g p c t (known_at v.know t) (λ e z s. a t e z s));
  };
  asked = x.asked;
  asked_is = x.asked_is;
  frames = x.frames;
  wants = x.wants;
  other_wants = x.other_wants;
  all_wants = x.all_wants;
  asks = x.asks;
  horizon = x.horizon;
  know = knows_on net f g p b (λ t. known_at v.know t) o.view x.know;
  lines = x.lines;
  log_same = x.log_same;
  joins_same = x.joins_same;
}
