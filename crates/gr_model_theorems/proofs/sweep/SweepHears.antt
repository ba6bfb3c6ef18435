-- A sweep adds to what was heard exactly the Knowledge frames that
-- are sent in it, since its sent lines are those of its frames
use Rattle.std.proofs.Common.{◌≡◌, inl, inr, ℕ, suc, max, Bool, true, false, not, ◌&&◌, ◌||◌, List, [], ◌∷◌, ◌++◌, length, refl, sym, ap, ap₂, ◌∙◌, subst, None, append-nil, append_assoc}
use Rattle.std.specs.Prelude.{nat_eq, nat_lt, filter, cond}
use Rattle.std.specs.List.{list_any}
use Rattle.std.proofs.lemmas.Bool.{cases_eq, eq-eqb, ne_eqb, true≢false}
use Rattle.std.proofs.lemmas.List.Elements.{filter-append}
use Rattle.gr_frame.specs.declared.Body.{Body}
use Rattle.gr_frame.specs.declared.Body.TheVariants as body
use Rattle.gr_frame.specs.declared.Frame.{Frame}
use Rattle.gr_know.specs.Values.{known_at, is_Q}
use Rattle.gr_model.specs.declared.report.Report.{Report}
use Rattle.gr_model.specs.declared.report.Report.TheVariants as line
use Rattle.gr_model.specs.Net.{Net, is_host, numbers}
use Rattle.gr_model.specs.Broker.{View, Log, Outcome, marking, cutting, wake, wake_host, wake_below, asking, receive, max_tick}
use Rattle.gr_model.specs.World.{World, Transition, view_of, log_of, absorbed, unchanged, followed_by, in_turn, sent_lines, sweep_moment, deliver_frame_by, sweep_by, wake_for_by}
use Rattle.gr_model_calls.specs.OneNet.{wake_for, deliver_frame, sweep, sweep_for}
use Rattle.gr_model.specs.Headline.{know_of_line, hearing, hearing_all}
use Rattle.gr_model.specs.Tree.{IsNet}
use Rattle.gr_model_calls.specs.Fits.{WorldFits, FrameTrue}
use Rattle.gr_model_theorems.proofs.records.RecordLines.{Skips, receive_none, marking_none, host_lines}
use Rattle.gr_model_theorems.proofs.heard.HeardSteps.{Pieces, HeardLong, heard_in, AddsHeard, body_adds, know_of_body, know_of_sent}
use Rattle.gr_model_theorems.proofs.heard.HeardCalls.{hears_body}
use Rattle.gr_model_calls.proofs.runs.Worlds.{Each}
use Rattle.gr_model_calls.proofs.runs.Chains.{Chains, sweeps_chain}
use Rattle.gr_model_calls.proofs.runs.Schedules.{clocked_fits}

-- what frames add to what was heard
abbrev pub hear_frames : Pieces → List Frame → Pieces
hear_frames heard [] = heard
hear_frames heard (f ∷ fs) = hear_frames (hearing heard (know_of_body f.head f.body)) fs

hear_append : (heard : Pieces) (xs ys : List Frame) → hear_frames heard (xs ++ ys) ≡ hear_frames (hear_frames heard xs) ys
hear_append heard [] ys = refl
hear_append heard (x ∷ xs) ys = hear_append (hearing heard (know_of_body x.head x.body)) xs ys

hearing_append : (heard : Pieces) (xs ys : List Report) → hearing_all heard (xs ++ ys) ≡ hearing_all (hearing_all heard xs) ys
hearing_append heard [] ys = refl
hearing_append heard (x ∷ xs) ys = hearing_append (hearing heard (know_of_line x)) xs ys

-- the line is of a Knowledge frame
abbrev is_know : Report → Bool
is_know (line.SentKnow n from to p runs js) = true
is_know _ = false

know_skips : Skips is_know
know_skips = record { got = λ s p t e. refl; horizon = λ s p t. refl }

not_know : (l : Report) → is_know l ≡ false → know_of_line l ≡ None
not_know (line.SentKnow n from to p runs js) e = absurd (true≢false e)
not_know _ e = refl

-- lines without one add nothing
mute : (heard : Pieces) (ls : List Report) → filter is_know ls ≡ [] → hearing_all heard ls ≡ heard
mute heard [] e = refl
mute heard (l ∷ ls) e = go (is_know l) refl (λ h. mute heard ls h)
  where
    cons_nil : (x : Report) (xs : List Report) → x ∷ xs ≡ [] → ⊥
    cons_nil x xs h = cc

    go : (c : Bool) → is_know l ≡ c → (filter is_know ls ≡ [] → hearing_all heard ls ≡ heard) → hearing_all heard (l ∷ ls) ≡ heard
    go true x rest = absurd (cons_nil l (filter is_know ls) (sym (ap (λ (c : Bool). cond c (l ∷ filter is_know ls) (filter is_know ls)) x) ∙ e))
    go false x rest = ap (λ o. hearing_all (hearing heard o) ls) (not_know l x) ∙ rest (sym (ap (λ (c : Bool). cond c (l ∷ filter is_know ls) (filter is_know ls)) x) ∙ e)

hear_sent : (heard : Pieces) (n : ℕ) (fs : List Frame) → hearing_all heard (sent_lines n fs) ≡ hear_frames heard fs
hear_sent heard n [] = refl
hear_sent heard n (f ∷ fs) = ap (λ o. hearing_all (hearing heard o) (sent_lines (suc n) fs)) (know_of_sent n f) ∙ hear_sent (hearing heard (know_of_body f.head f.body)) (suc n) fs

-- the lines say what the frames that were sent add
record Adding (w : World) (t : Transition) : Type 0 where
  more : List Frame
  frames : t.world.frames ≡ w.frames ++ more
  lines : (heard : Pieces) → hearing_all heard t.lines ≡ hear_frames heard more

adding_seq : (w : World) (t : Transition) (f : World → Transition) → Adding w t → Adding t.world (f t.world) → Adding w (followed_by t f)
adding_seq w t f a b = record {
  more = a.more ++ b.more;
  frames = b.frames ∙ (ap (λ (z : List Frame). z ++ b.more) a.frames ∙ append_assoc w.frames a.more b.more);
  lines = λ heard. hearing_append heard t.lines (f t.world).lines ∙ (ap (λ h. hearing_all h (f t.world).lines) (a.lines heard) ∙ (b.lines (hear_frames heard a.more) ∙ sym (hear_append heard a.more b.more)));
}

absorbed_adding : (w : World) (b p : ℕ) (o : Outcome) → filter is_know o.lines ≡ [] → Adding w (absorbed w b p o)
unfolding absorbed
absorbed_adding w b p o e = record {
  more = o.frames;
  frames = refl;
  lines = λ heard. hearing_append heard o.lines (sent_lines (suc (length w.frames)) o.frames) ∙ (ap (λ h. hearing_all h (sent_lines (suc (length w.frames)) o.frames)) (mute heard o.lines e) ∙ hear_sent heard (suc (length w.frames)) o.frames);
}

wake_mute : (net : Net) (p b now : ℕ) (v : View) (log : Log) → filter is_know (wake net p b now v log).lines ≡ []
unfolding wake wake_host wake_below asking
wake_mute net p b now v log = go (is_host net p b)
  where
    o : Outcome
    o = marking net p b now v log

    new : Log
    new = cutting net p b o.view o.log

    two : (c d e : Bool) → filter is_know (host_lines p now new.cut new.generation c d e) ≡ []
    two true true true = refl
    two true true false = refl
    two true false e = refl
    two false true true = refl
    two false true false = refl
    two false false e = refl

    go : (q : Bool) → filter is_know (let u : Outcome = elim q [ true ↦ wake_host net p b now v log | false ↦ wake_below net p b now v log ] in u.lines) ≡ []
    go true =
        let c = nat_lt log.settled o.log.settled in
        let d = nat_lt o.log.cut new.cut in
        let e = nat_lt o.log.generation new.generation in
        filter-append is_know (host_lines p now new.cut new.generation c d e) o.lines ∙ ap₂ (λ x y. x ++ y) (two c d e) (marking_none is_know net p b now v log know_skips)
    go false = refl

wake_adding : (net : Net) (w : World) (b p : ℕ) → Adding w (wake_for net w b p)
unfolding wake_for_by
wake_adding net w b p = absorbed_adding w b p (wake net p b w.clock (view_of w b p) (log_of w p)) (wake_mute net p b w.clock (view_of w b p) (log_of w p))

deliver_adding : (net : Net) (w : World) (x : Frame) → Adding w (deliver_frame net w x)
unfolding deliver_frame_by
deliver_adding net w x = absorbed_adding w x.head.to x.head.publisher (receive net w.clock x (view_of w x.head.to x.head.publisher) (log_of w x.head.publisher)) (receive_none is_know net w.clock x (view_of w x.head.to x.head.publisher) (log_of w x.head.publisher) know_skips)

adding_chain : (net : Net) → Chains net Adding
adding_chain net = record {
  nil = λ w f. record { more = []; frames = sym (append-nil w.frames); lines = λ heard. refl };
  seq = λ w t f g k a x b. adding_seq w t f a b;
  wake = λ w b p f i j. wake_adding net w b p;
  deliver = λ w x f t. deliver_adding net w x;
}

-- what a sweep adds
pub record SweepAdds (net : Net) (w : World) (k : ℕ) : Type 0 where
  pub more : List Frame
  pub frames : (sweep net w k).world.frames ≡ w.frames ++ more
  pub lines : (heard : Pieces) → hearing_all heard (sweep net w k).lines ≡ hear_frames heard more

-- a sweep adds to what was heard what its Knowledge frames say, each at its receiver
pub sweep_adds : (net : Net) (w : World) (k : ℕ) → IsNet net → WorldFits net w → SweepAdds net w k
unfolding sweep_by
sweep_adds net w k n f = let a = go (nat_lt max_tick m) in record { more = a.more; frames = a.frames; lines = a.lines }
  where
    m : ℕ
    m = sweep_moment net w

    u : World
    u = record { clock = m; most = max m w.most; frames = w.frames; views = w.views; logs = w.logs }

    go : (q : Bool) → Adding w (elim q [ true ↦ unchanged w (line.RefusedClock k m ∷ []) | false ↦ followed_by (in_turn (sweep_for net) (numbers net.publishers) u) (λ x. unchanged x (line.Swept m ∷ [])) ])
    go true = record { more = []; frames = sym (append-nil w.frames); lines = λ heard. refl }
    go false =
        let c = (sweeps_chain net Adding u (adding_chain net) n (clocked_fits net w m (max m w.most) f)).holds in
        record { more = c.more; frames = c.frames; lines = λ heard. hearing_append heard (in_turn (sweep_for net) (numbers net.publishers) u).lines (line.Swept m ∷ []) ∙ c.lines heard }

-- Tick by tick

-- whether a body brings knowledge of a tick
abbrev pub tells_body : ℕ → Body → Bool
tells_body t (body.Knowledge runs js) = not (is_Q (known_at runs t))
tells_body t _ = false

-- the frame brings b knowledge of a tick of p
abbrev pub tells_to : ℕ → ℕ → ℕ → Frame → Bool
tells_to b p t f = (nat_eq f.head.to b && nat_eq f.head.publisher p) && tells_body t f.body

-- a broker has heard a tick after such frames if it had before or one of them brings it
pub heard_of_frames : (net : Net) (w : World) (heard : Pieces) (fs : List Frame) (b p t : ℕ) → HeardLong net heard → Each (FrameTrue net w) fs → heard_in (hear_frames heard fs) b p t ≡ (heard_in heard b p t || list_any (tells_to b p t) fs)
heard_of_frames net w heard [] b p t l a = sym (or_false (heard_in heard b p t))
  where
    or_false : (x : Bool) → (x || false) ≡ x
    or_false true = refl
    or_false false = refl
heard_of_frames net w heard (f ∷ fs) b p t l a =
    heard_of_frames net w (hearing heard (know_of_body f.head f.body)) fs b p t adds.long a.1
    ∙ (ap (λ x. x || list_any (tells_to b p t) fs) one ∙ or_assoc (heard_in heard b p t) (tells_to b p t f) (list_any (tells_to b p t) fs))
  where
    or_assoc : (x y z : Bool) → ((x || y) || z) ≡ (x || (y || z))
    or_assoc true y z = refl
    or_assoc false y z = refl

    or_false : (x : Bool) → (x || false) ≡ x
    or_false true = refl
    or_false false = refl

    adds : AddsHeard net heard (hearing heard (know_of_body f.head f.body)) f.head f.body
    adds = body_adds net w heard f.head f.body l a.0.fits.to_in a.0.publisher_in a.0.told

    brings : (y : Body) → hears_body (heard_in heard f.head.to f.head.publisher) y t ≡ (heard_in heard f.head.to f.head.publisher t || tells_body t y)
    brings (body.Knowledge runs js) = refl
    brings (body.Curiosity runs) = sym (or_false (heard_in heard f.head.to f.head.publisher t))
    brings (body.Expect tick) = sym (or_false (heard_in heard f.head.to f.head.publisher t))

    elsewhere : (nat_eq f.head.to b && nat_eq f.head.publisher p) ≡ false → heard_in (hearing heard (know_of_body f.head f.body)) b p t ≡ heard_in heard b p t → heard_in (hearing heard (know_of_body f.head f.body)) b p t ≡ (heard_in heard b p t || tells_to b p t f)
    elsewhere e h = h ∙ (sym (or_false (heard_in heard b p t)) ∙ ap (λ c. heard_in heard b p t || (c && tells_body t f.body)) (sym e))

    one : heard_in (hearing heard (know_of_body f.head f.body)) b p t ≡ (heard_in heard b p t || tells_to b p t f)
    one = elim (cases_eq b f.head.to) [
      | inr e ↦ elsewhere (ap (λ c. c && nat_eq f.head.publisher p) (ne_eqb f.head.to b (λ x. e (sym x)))) (adds.same b p t (inl e))
      | inl e ↦ elim (cases_eq p f.head.publisher) [
        | inr g ↦ elsewhere (ap₂ (λ c d. c && d) (eq-eqb f.head.to b (sym e)) (ne_eqb f.head.publisher p (λ x. g (sym x)))) (adds.same b p t (inr g))
        | inl g ↦
            let here : heard_in (hearing heard (know_of_body f.head f.body)) b p t ≡ (heard_in heard b p t || tells_body t f.body) = subst (λ z. heard_in (hearing heard (know_of_body f.head f.body)) z p t ≡ (heard_in heard z p t || tells_body t f.body)) (sym e) (subst (λ z. heard_in (hearing heard (know_of_body f.head f.body)) f.head.to z t ≡ (heard_in heard f.head.to z t || tells_body t f.body)) (sym g) (adds.here t ∙ brings f.body)) in
            here ∙ ap (λ c. heard_in heard b p t || (c && tells_body t f.body)) (sym (ap₂ (λ c d. c && d) (eq-eqb f.head.to b (sym e)) (eq-eqb f.head.publisher p (sym g))))
      ]
    ]
