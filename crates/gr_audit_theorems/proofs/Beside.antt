-- Two worlds of one machine in which some brokers see the same, and what a call at one of these brokers does in both
use Rattle.std.proofs.Common.{◌≡◌, inl, inr, ℕ, suc, ◌+◌, ◌≤◌, ◌<◌, true, false, List, [], ◌++◌, length, get_or, set, refl, sym, ap, ap₂, ◌∙◌, subst, arith}
use Rattle.std.specs.Prelude.{filter}
use Rattle.std.proofs.lemmas.Bool.{cases_Bool, cases_eq, cases_lt, eqb-true, ne_eqb, true≢false}
use Rattle.std.proofs.lemmas.List.Elements.{filter-append}
use Rattle.std.proofs.lemmas.List.{length-append, length-set, get_or-set_same, get_or-set_other, get_or_past, append-nil, append_assoc}
use Rattle.gr_frame.specs.declared.Frame.{Frame}
use Rattle.gr_model.specs.declared.report.Report.{Report}
use Rattle.gr_model.specs.Net.{Net, is_host}
use Rattle.gr_model.specs.Broker.{View, Log, Outcome, empty_log}
use Rattle.gr_model.specs.World.{World, Transition, view_of, log_of, absorbed, unchanged, followed_by, sent_lines, blank_view}
use Rattle.gr_model.specs.Headline.{is_sent, sent_count}
use Rattle.gr_model.specs.Arrivals.{is_hosted}
use Rattle.gr_model_theorems.proofs.records.RecordLines.{sent_lines-append}
use Rattle.gr_journal.specs.Lines.{is_among}
use Rattle.gr_audit_theorems.specs.Numbered.{numbered_on}
use Rattle.gr_audit_theorems.proofs.Numbering.{count-append, numbered-append, numbered_none, numbered_sent, count_sent, sent_itself}

-- Two worlds have the same of what these brokers look at: their views, and the logs of the publishers at them
pub record Beside (net : Net) (hosted : List ℕ) (w u : World) : Type 0 where
  pub rows : (b : ℕ) → is_among hosted b ≡ true → get_or w.views b [] ≡ get_or u.views b []
  pub logs : (p : ℕ) → is_hosted net hosted p ≡ true → log_of w p ≡ log_of u p
  pub brokers : length w.views ≡ length u.views
  pub publishers : length w.logs ≡ length u.logs

pub beside_itself : (net : Net) (hosted : List ℕ) (w : World) → Beside net hosted w w
beside_itself net hosted w = record { rows = λ b h. refl; logs = λ p h. refl; brokers = refl; publishers = refl }

pub beside_next : (net : Net) (hosted : List ℕ) (w u v : World) → Beside net hosted w u → Beside net hosted u v → Beside net hosted w v
beside_next net hosted w u v x y = record {
  rows = λ b h. x.rows b h ∙ y.rows b h;
  logs = λ p h. x.logs p h ∙ y.logs p h;
  brokers = x.brokers ∙ y.brokers;
  publishers = x.publishers ∙ y.publishers;
}

pub beside_back : (net : Net) (hosted : List ℕ) (w u : World) → Beside net hosted w u → Beside net hosted u w
beside_back net hosted w u x = record {
  rows = λ b h. sym (x.rows b h);
  logs = λ p h. sym (x.logs p h);
  brokers = sym x.brokers;
  publishers = sym x.publishers;
}

-- Lists of which one place is set

pub set_past : {A : Type 0} (xs : List A) (i : ℕ) (a d : A) → length xs ≤ i → get_or (set xs i a) i d ≡ d
set_past xs i a d h = get_or_past (set xs i a) i d (subst (λ n. n ≤ i) (sym (length-set xs i a)) h)

-- where two lists have as many elements and the same one at a place, so they have once one place of both is set
pub set_alike : {A : Type 0} (xs ys : List A) (i j : ℕ) (a b d : A) → length xs ≡ length ys → (j ≡ i → a ≡ b) → ((j ≡ i → ⊥) → get_or xs j d ≡ get_or ys j d) → get_or (set xs i a) j d ≡ get_or (set ys i b) j d
set_alike xs ys i j a b d long here there = elim (cases_eq j i) [
  | inl e ↦ subst (λ k. get_or (set xs i a) k d ≡ get_or (set ys i b) k d) (sym e) (elim (cases_lt i (length xs)) [
    | inl lt ↦ get_or-set_same xs i a d lt ∙ (here e ∙ sym (get_or-set_same ys i b d (subst (λ n. i < n) long lt)))
    | inr le ↦ set_past xs i a d le ∙ sym (set_past ys i b d (subst (λ n. n ≤ i) long le))
  ])
  | inr ne ↦ get_or-set_other xs i j a d ne ∙ (there ne ∙ sym (get_or-set_other ys i j b d ne))
]

-- a place that is set to what stands there
set_itself : {A : Type 0} (xs : List A) (i j : ℕ) (d : A) → get_or (set xs i (get_or xs i d)) j d ≡ get_or xs j d
set_itself xs i j d = elim (cases_eq j i) [
  | inl e ↦ subst (λ k. get_or (set xs i (get_or xs i d)) k d ≡ get_or xs k d) (sym e) (elim (cases_lt i (length xs)) [
    | inl lt ↦ get_or-set_same xs i (get_or xs i d) d lt
    | inr le ↦ set_past xs i (get_or xs i d) d le ∙ sym (get_or_past xs i d le)
  ])
  | inr ne ↦ get_or-set_other xs i j (get_or xs i d) d ne
]

-- Calls

-- a call of a broker for a publisher: of what is told and sent, and of the view, the log says nothing where the
-- publisher is at another broker, and there the log stays; and its own lines are none of frames
pub record IsCall (net : Net) (p b : ℕ) (f : View → Log → Outcome) : Type 0 where
  pub view : (v : View) (log other : Log) → is_host net p b ≡ false → (f v log).view ≡ (f v other).view
  pub lines : (v : View) (log other : Log) → is_host net p b ≡ false → (f v log).lines ≡ (f v other).lines
  pub frames : (v : View) (log other : Log) → is_host net p b ≡ false → (f v log).frames ≡ (f v other).frames
  pub log : (v : View) (log : Log) → is_host net p b ≡ false → (f v log).log ≡ log
  pub unsent : (v : View) (log : Log) → filter is_sent (f v log).lines ≡ []

-- what a call at a broker does
abbrev pub called : World → ℕ → ℕ → (View → Log → Outcome) → Transition
called w b p f = absorbed w b p (f (view_of w b p) (log_of w p))

-- Two transitions from two worlds tell the same but for the numbers of frames, and send the same frames; these brokers
-- see the same in what they leave, and the clocks stay
pub record IsSide (net : Net) (hosted : List ℕ) (w u : World) (x y : Transition) : Type 0 where
  pub beside : Beside net hosted x.world y.world
  pub clock : x.world.clock ≡ w.clock
  pub other_clock : y.world.clock ≡ u.clock
  pub more : List Frame
  pub frames : x.world.frames ≡ w.frames ++ more
  pub other_frames : y.world.frames ≡ u.frames ++ more
  pub lines : x.lines ≡ numbered_on (suc (length w.frames)) y.lines
  pub count : sent_count y.lines ≡ length more
  pub told : filter is_sent y.lines ≡ sent_lines (suc (length u.frames)) more

-- lines without frames
pub side_says : (net : Net) (hosted : List ℕ) (w u : World) (ls : List Report) → Beside net hosted w u → filter is_sent ls ≡ [] → IsSide net hosted w u (unchanged w ls) (unchanged u ls)
side_says net hosted w u ls beside none = record {
  beside = beside;
  clock = refl;
  other_clock = refl;
  more = [];
  frames = sym (append-nil w.frames);
  other_frames = sym (append-nil u.frames);
  lines = sym (numbered_none (suc (length w.frames)) ls none);
  count = ap length none;
  told = none;
}

-- one after another
pub side_seq : (net : Net) (hosted : List ℕ) (w u : World) (x y : Transition) (f g : World → Transition) → IsSide net hosted w u x y → IsSide net hosted x.world y.world (f x.world) (g y.world) → IsSide net hosted w u (followed_by x f) (followed_by y g)
side_seq net hosted w u x y f g a b = record {
  beside = b.beside;
  clock = b.clock ∙ a.clock;
  other_clock = b.other_clock ∙ a.other_clock;
  more = a.more ++ b.more;
  frames = b.frames ∙ (ap (λ (z : List Frame). z ++ b.more) a.frames ∙ append_assoc w.frames a.more b.more);
  other_frames = b.other_frames ∙ (ap (λ (z : List Frame). z ++ b.more) a.other_frames ∙ append_assoc u.frames a.more b.more);
  lines = ap₂ (λ (p q : List Report). p ++ q) a.lines (b.lines ∙ ap (λ m. numbered_on m (g y.world).lines) long) ∙ sym (numbered-append (suc (length w.frames)) y.lines (g y.world).lines);
  count = count-append y.lines (g y.world).lines ∙ (ap₂ (λ p q. p + q) a.count b.count ∙ sym (length-append a.more b.more));
  told = filter-append is_sent y.lines (g y.world).lines
      ∙ (ap₂ (λ (p q : List Report). p ++ q) a.told (b.told ∙ ap (λ m. sent_lines m b.more) further) ∙ sym (sent_lines-append (suc (length u.frames)) a.more b.more));
}
  where
    further : suc (length y.world.frames) ≡ suc (length u.frames) + length a.more
    further = let l = ap length a.other_frames in let k = length-append u.frames a.more in omega (arith, l, k)

    long : suc (length x.world.frames) ≡ suc (length w.frames) + sent_count y.lines
    long = let l = ap length a.frames in let k = length-append w.frames a.more in let c = a.count in omega (arith, l, k, c)

-- a call at one of the brokers
module _ (net : Net) (hosted : List ℕ) (w u : World) (b p : ℕ) (f : View → Log → Outcome) (call : IsCall net p b f) (among : is_among hosted b ≡ true) (beside : Beside net hosted w u) where
  row : get_or w.views b [] ≡ get_or u.views b []
  row = beside.rows b among

  view : view_of w b p ≡ view_of u b p
  view = ap (λ (z : List View). get_or z p blank_view) row

  abbrev mine : Outcome
  mine = f (view_of w b p) (log_of w p)

  abbrev theirs : Outcome
  theirs = f (view_of u b p) (log_of u p)

  -- the publisher is at this broker, so its log is the same
  at_host : is_host net p b ≡ true → is_hosted net hosted p ≡ true
  at_host h = subst (λ z. is_among hosted z ≡ true) (sym (eqb-true (net.host p) b h)) among

  whole : is_host net p b ≡ true → mine ≡ theirs
  whole h = ap₂ f view (beside.logs p (at_host h))

  same_view : mine.view ≡ theirs.view
  same_view = elim (cases_Bool (is_host net p b)) [
    | inl h ↦ ap (λ (o : Outcome). o.view) (whole h)
    | inr h ↦ call.view (view_of w b p) (log_of w p) (log_of u p) h ∙ ap (λ v. (f v (log_of u p)).view) view
  ]

  same_lines : mine.lines ≡ theirs.lines
  same_lines = elim (cases_Bool (is_host net p b)) [
    | inl h ↦ ap (λ (o : Outcome). o.lines) (whole h)
    | inr h ↦ call.lines (view_of w b p) (log_of w p) (log_of u p) h ∙ ap (λ v. (f v (log_of u p)).lines) view
  ]

  same_frames : mine.frames ≡ theirs.frames
  same_frames = elim (cases_Bool (is_host net p b)) [
    | inl h ↦ ap (λ (o : Outcome). o.frames) (whole h)
    | inr h ↦ call.frames (view_of w b p) (log_of w p) (log_of u p) h ∙ ap (λ v. (f v (log_of u p)).frames) view
  ]

  -- the log of a publisher at one of the brokers: it is at this one, or the call leaves the log as it was
  same_log : is_hosted net hosted p ≡ true → mine.log ≡ theirs.log
  same_log h = elim (cases_Bool (is_host net p b)) [
    | inl k ↦ ap (λ (o : Outcome). o.log) (whole k)
    | inr k ↦ call.log (view_of w b p) (log_of w p) k ∙ (beside.logs p h ∙ sym (call.log (view_of u b p) (log_of u p) k))
  ]

  left : Beside net hosted (absorbed w b p mine).world (absorbed u b p theirs).world
  unfolding absorbed
  left = record {
    rows = λ c h. set_alike w.views u.views b c (set (get_or w.views b []) p mine.view) (set (get_or u.views b []) p theirs.view) [] beside.brokers
        (λ e. ap₂ (λ (r : List View) (v : View). set r p v) row same_view) (λ ne. beside.rows c h);
    logs = λ q h. set_alike w.logs u.logs p q mine.log theirs.log empty_log beside.publishers
        (λ e. same_log (subst (λ z. is_hosted net hosted z ≡ true) e h)) (λ ne. beside.logs q h);
    brokers = length-set w.views b (set (get_or w.views b []) p mine.view) ∙ (beside.brokers ∙ sym (length-set u.views b (set (get_or u.views b []) p theirs.view)));
    publishers = length-set w.logs p mine.log ∙ (beside.publishers ∙ sym (length-set u.logs p theirs.log));
  }

  pub side_called : IsSide net hosted w u (called w b p f) (called u b p f)
  unfolding absorbed
  side_called = record {
    beside = left;
    clock = refl;
    other_clock = refl;
    more = mine.frames;
    frames = refl;
    other_frames = ap (λ (z : List Frame). u.frames ++ z) (sym same_frames);
    lines = ap₂ (λ (x : List Report) (z : List Frame). x ++ sent_lines (suc (length w.frames)) z) same_lines same_frames
        ∙ sym (numbered-append (suc (length w.frames)) theirs.lines (sent_lines (suc (length u.frames)) theirs.frames)
        ∙ ap₂ (λ (x y : List Report). x ++ y) (numbered_none (suc (length w.frames)) theirs.lines (call.unsent (view_of u b p) (log_of u p))) (numbered_sent (suc (length w.frames) + sent_count theirs.lines) (suc (length u.frames)) theirs.frames
        ∙ ap (λ m. sent_lines m theirs.frames) none));
    count = count-append theirs.lines (sent_lines (suc (length u.frames)) theirs.frames)
        ∙ (ap₂ (λ x y. x + y) (ap length (call.unsent (view_of u b p) (log_of u p))) (count_sent (suc (length u.frames)) theirs.frames ∙ ap length (sym same_frames)) ∙ omega arith);
    told = filter-append is_sent theirs.lines (sent_lines (suc (length u.frames)) theirs.frames)
        ∙ (ap₂ (λ (x y : List Report). x ++ y) (call.unsent (view_of u b p) (log_of u p)) (sent_itself (suc (length u.frames)) theirs.frames)
        ∙ ap (λ (z : List Frame). sent_lines (suc (length u.frames)) z) (sym same_frames));
  }
    where
      none : suc (length w.frames) + sent_count theirs.lines ≡ suc (length w.frames)
      none = ap (λ n. suc (length w.frames) + n) (ap length (call.unsent (view_of u b p) (log_of u p))) ∙ omega arith

-- a call at another broker leaves what these see
pub called_apart : (net : Net) (others : List ℕ) (w : World) (b p : ℕ) (f : View → Log → Outcome) → IsCall net p b f → is_among others b ≡ false → Beside net others (called w b p f).world w
unfolding absorbed
called_apart net others w b p f call apart = record {
  rows = λ c h. get_or-set_other w.views b c (set (get_or w.views b []) p o.view) [] (λ e. true≢false (sym h ∙ (ap (is_among others) e ∙ apart)));
  logs = λ q h. log_at q h;
  brokers = length-set w.views b (set (get_or w.views b []) p o.view);
  publishers = length-set w.logs p o.log;
}
  where
    o : Outcome
    o = f (view_of w b p) (log_of w p)

    elsewhere : is_hosted net others p ≡ true → is_host net p b ≡ false
    elsewhere h = ne_eqb (net.host p) b (λ e. true≢false (sym h ∙ (ap (is_among others) e ∙ apart)))

    log_at : (q : ℕ) → is_hosted net others q ≡ true → get_or (set w.logs p o.log) q empty_log ≡ log_of w q
    log_at q h = elim (cases_eq q p) [
      | inl e ↦ subst (λ z. get_or (set w.logs p z) q empty_log ≡ log_of w q) (sym (call.log (view_of w b p) (log_of w p) (elsewhere (subst (λ z. is_hosted net others z ≡ true) e h)))) (set_itself w.logs p q empty_log)
      | inr ne ↦ get_or-set_other w.logs p q o.log empty_log ne
    ]
