-- Each call cuts at most the log of its own publisher, with one cut line, since only the wake of a host cuts
use Rattle.std.proofs.Common.{◌≡◌, ◌≢◌, ◌⊎◌, inl, inr, ℕ, suc, ◌<◌, max, Bool, true, false, List, [], ◌∷◌, ◌++◌, map, refl, sym, ap, ◌∙◌, subst, append-nil, append_assoc}
use Rattle.std.specs.Prelude.{nat_eq, nat_lt, if◌then◌else◌, flat_map, filter, IsTrue}
use Rattle.std.proofs.lemmas.Bool.{both_ways, lt-ltb, ltb-true, eq-eqb, ne_eqb}
use Rattle.gr_event.specs.Joins.{Joins, longer}
use Rattle.gr_event.specs.declared.event.Event.{Event}
use Rattle.gr_frame.specs.declared.Body.{Body}
use Rattle.gr_frame.specs.declared.Body.TheVariants as body
use Rattle.gr_frame.specs.declared.Frame.{Frame}
use Rattle.gr_model.specs.declared.report.Report.{Report}
use Rattle.gr_model.specs.declared.report.Report.TheVariants as line
use Rattle.gr_know.specs.Values.{Known}
use Rattle.gr_pubend.specs.declared.answers.Joined.TheVariants as joins
use Rattle.gr_model.specs.Net.{Net, is_host}
use Rattle.gr_model.specs.Broker.{joining, joining_by, with_join, with_joins, drops, View, Log, Outcome, delivery_lines, got_line, learn, publish, marking, cutting, wake, wake_host, wake_below, asking, curiosity, expect, receive, place_of, silence, with_event, with_mark, publish_by}
use Rattle.gr_model.specs.World.{sent_line, sent_lines}
use Rattle.gr_model.specs.Headline.{last_cut}
use Rattle.gr_pubend.specs.declared.answers.Published.TheVariants.{Logged}
use Rattle.gr_model_calls.proofs.calls.HostCases.{joining_cases, publish_cases, marking_cases, news_of}
use Rattle.gr_model_calls.proofs.calls.Calls.{marking_forgets, learn_log}
use Rattle.gr_model_calls.proofs.calls.Cutting.{at_cut, cut_at, cutting_cases, cutting_events}
use Rattle.gr_model_theorems.proofs.records.Records.{receive_log}

-- each cut line of p, with the lines before it
abbrev pub CutsHave : (ℕ → List Report → Type 0) → ℕ → List Report → List Report → Type 0
CutsHave R p before [] = Unit {0}
CutsHave R p before (line.Cut q t ∷ ls) = (IsTrue (nat_eq q p) → R t before) × CutsHave R p (before ++ line.Cut q t ∷ []) ls
CutsHave R p before (l ∷ ls) = CutsHave R p (before ++ l ∷ []) ls

-- no cut line of p
abbrev pub CutFree : ℕ → List Report → Type 0
CutFree p [] = Unit {0}
CutFree p (line.Cut q t ∷ ls) = (nat_eq q p ≡ false) × CutFree p ls
CutFree p (l ∷ ls) = CutFree p ls

-- the last cut of two lists of lines is that of the second, from that of the first on
pub last_cut-append : (p n : ℕ) (xs ys : List Report) → last_cut p n (xs ++ ys) ≡ last_cut p (last_cut p n xs) ys
last_cut-append p n [] ys = refl
last_cut-append p n (line.Cut q t ∷ xs) ys = last_cut-append p (if nat_eq q p then t else n) xs ys
last_cut-append p n (l ∷ xs) ys = last_cut-append p n xs ys

-- two lists without a cut line have none together
pub CutFree-append : (p : ℕ) (xs ys : List Report) → CutFree p xs → CutFree p ys → CutFree p (xs ++ ys)
CutFree-append p [] ys a b = b
CutFree-append p (line.Cut q t ∷ xs) ys a b = (a.0, CutFree-append p xs ys a.1 b)
CutFree-append p (l ∷ xs) ys a b = CutFree-append p xs ys a b

-- lines without a cut line leave the last cut
pub CutFree-last : (p n : ℕ) (ls : List Report) → CutFree p ls → last_cut p n ls ≡ n
CutFree-last p n [] a = refl
CutFree-last p n (line.Cut q t ∷ ls) a = ap (λ c. last_cut p (if c then t else n) ls) a.0 ∙ CutFree-last p n ls a.1
CutFree-last p n (l ∷ ls) a = CutFree-last p n ls a

-- of lines without a cut line, each cut line has any property
pub CutFree-have : (R : ℕ → List Report → Type 0) (p : ℕ) (before ls : List Report) → CutFree p ls → CutsHave R p before ls
CutFree-have R p before [] a = tt
CutFree-have R p before (line.Cut q t ∷ ls) a = (λ e. absurd (both_ways (nat_eq q p) a.0 e), CutFree-have R p (before ++ line.Cut q t ∷ []) ls a.1)
CutFree-have R p before (l ∷ ls) a = CutFree-have R p (before ++ l ∷ []) ls a

-- a weaker property holds of each cut line too
pub CutsHave-map : (R S : ℕ → List Report → Type 0) (p : ℕ) (before ls : List Report) → ((t : ℕ) (xs : List Report) → R t xs → S t xs) → CutsHave R p before ls → CutsHave S p before ls
CutsHave-map R S p before [] f a = tt
CutsHave-map R S p before (line.Cut q t ∷ ls) f a = (λ e. f t before (a.0 e), CutsHave-map R S p (before ++ line.Cut q t ∷ []) ls f a.1)
CutsHave-map R S p before (l ∷ ls) f a = CutsHave-map R S p (before ++ l ∷ []) ls f a

one_more : (before xs : List Report) (l : Report) → (before ++ l ∷ []) ++ xs ≡ before ++ (l ∷ xs)
one_more before xs l = append_assoc before (l ∷ []) xs

-- what holds of each cut line of two lists, with the lines before it, holds of those of both together
pub CutsHave-append : (R : ℕ → List Report → Type 0) (p : ℕ) (before xs ys : List Report) → CutsHave R p before xs → CutsHave R p (before ++ xs) ys → CutsHave R p before (xs ++ ys)
CutsHave-append R p before [] ys a b = subst (λ z. CutsHave R p z ys) (append-nil before) b
CutsHave-append R p before (line.Cut q t ∷ xs) ys a b = (a.0, CutsHave-append R p (before ++ line.Cut q t ∷ []) xs ys a.1 (subst (λ z. CutsHave R p z ys) (sym (one_more before xs (line.Cut q t))) b))
CutsHave-append R p before (l ∷ xs) ys a b = CutsHave-append R p (before ++ l ∷ []) xs ys a (subst (λ z. CutsHave R p z ys) (sym (one_more before xs l)) b)

-- at a split of the lines
pub CutsHave-at : (R : ℕ → List Report → Type 0) (p t : ℕ) (before xs ys : List Report) → CutsHave R p before (xs ++ line.Cut p t ∷ ys) → R t (before ++ xs)
CutsHave-at R p t before [] ys a = subst (λ z. R t z) (sym (append-nil before)) (a.0 (eq-eqb p p refl))
CutsHave-at R p t before (line.Cut q u ∷ xs) ys a = subst (λ z. R t z) (one_more before xs (line.Cut q u)) (CutsHave-at R p t (before ++ line.Cut q u ∷ []) xs ys a.1)
CutsHave-at R p t before (l ∷ xs) ys a = subst (λ z. R t z) (one_more before xs l) (CutsHave-at R p t (before ++ l ∷ []) xs ys a)

-- Lines without cuts

-- sent lines have no cut line
pub sent_free : (q n : ℕ) (fs : List Frame) → CutFree q (sent_lines n fs)
unfolding sent_line
sent_free q n [] = tt
sent_free q n (f ∷ fs) = CutFree-append q (sent_line n f ∷ []) (sent_lines (suc n) fs) (one f.body) (sent_free q (suc n) fs)
  where
    one : (y : Body) → CutFree q ((elim y [ body.Knowledge runs js ↦ line.SentKnow n f.head.from f.head.to f.head.publisher runs js | body.Curiosity runs ↦ line.SentWant n f.head.from f.head.to f.head.publisher runs | body.Expect tick ↦ line.SentExpect n f.head.from f.head.to f.head.publisher tick ]) ∷ [])
    one (body.Knowledge runs js) = tt
    one (body.Curiosity runs) = tt
    one (body.Expect tick) = tt

got_free : (q s p : ℕ) (xs : List (ℕ × Event)) → CutFree q (map (got_line s p) xs)
got_free q s p [] = tt
got_free q s p (x ∷ xs) = got_free q s p xs

told_free : (net : Net) (q p h h' s : ℕ) (items : List (ℕ × Event)) → CutFree q (delivery_lines net p h h' items s)
unfolding delivery_lines
told_free net q p h h' s items = go (nat_eq h h')
  where
    go : (c : Bool) → CutFree q (if c then [] else map (got_line s p) (filter (λ x. net.wants p s x.0 x.1) items) ++ line.Horizon s p h' ∷ [])
    go true = tt
    go false = CutFree-append q (map (got_line s p) (filter (λ x. net.wants p s x.0 x.1) items)) (line.Horizon s p h' ∷ []) (got_free q s p (filter (λ x. net.wants p s x.0 x.1) items)) tt

-- learning cuts nothing
pub learn_free : (net : Net) (p b q : ℕ) (piece : Known) (v : View) (log : Log) → CutFree q (learn net p b piece v log).lines
unfolding learn
learn_free net p b q piece v log = go _ _ (net.subscribers_at b)
  where
    go : (h : ℕ) (items : List (ℕ × Event)) (xs : List ℕ) → CutFree q (flat_map (delivery_lines net p v.horizon h items) xs)
    go h items [] = tt
    go h items (x ∷ xs) = CutFree-append q (delivery_lines net p v.horizon h items x) (flat_map (delivery_lines net p v.horizon h items) xs) (told_free net q p v.horizon h x items) (go h items xs)

-- What a call cuts

-- a call of the host that cuts: the log's cut goes on, and the one cut line says so
pub record NewCut (net : Net) (p b : ℕ) (log : Log) (o : Outcome) : Type 0 where
  pub host : is_host net p b ≡ true
  pub more : log.cut < o.log.cut
  pub events : o.log.events ≡ log.events
  pub pre : List Report
  pub post : List Report
  pub free_pre : CutFree p pre
  pub free_post : CutFree p post
  pub lines : o.lines ≡ pre ++ line.Cut p o.log.cut ∷ post

-- a call cuts at most its own log, with one cut line, and no other
pub record CallCuts (net : Net) (p b : ℕ) (log : Log) (o : Outcome) : Type 0 where
  pub others : (q : ℕ) → q ≢ p → CutFree q o.lines
  pub here : (CutFree p o.lines × (o.log.cut ≡ log.cut)) ⊎ NewCut net p b log o

-- a call with no cut
uncut : (net : Net) (p b : ℕ) (log : Log) (o : Outcome) → ((q : ℕ) → CutFree q o.lines) → o.log.cut ≡ log.cut → CallCuts net p b log o
uncut net p b log o a e = record { others = λ q n. a q; here = inl (a p, e) }

receive_free : (net : Net) (now : ℕ) (f : Frame) (v : View) (log : Log) (q : ℕ) → CutFree q (receive net now f v log).lines
unfolding receive expect curiosity asking
receive_free net now f v log q = go f.body
  where
    learned : (runs : Known) (js : Joins) (c : Bool) → CutFree q (let o : Outcome = elim c [ true ↦ record { view = v; log = log; lines = []; frames = [] } | false ↦ learn net f.head.publisher f.head.to runs (with_joins v (longer v.joins js)) log ] in o.lines)
    learned runs js true = tt
    learned runs js false = learn_free net f.head.publisher f.head.to q runs (with_joins v (longer v.joins js)) log

    go : (y : Body) → CutFree q (let o : Outcome = elim y [
      | body.Knowledge runs js ↦ elim (drops v runs js) [ true ↦ record { view = v; log = log; lines = []; frames = [] } | false ↦ learn net f.head.publisher f.head.to runs (with_joins v (longer v.joins js)) log ]
      | body.Curiosity runs ↦ curiosity net f.head.publisher f.head.to now f.head.from (place_of f.head.from (net.children f.head.publisher f.head.to)) runs v log
      | body.Expect tick ↦ expect net f.head.publisher f.head.to now tick v log
    ] in o.lines)
    go (body.Knowledge runs js) = learned runs js (drops v runs js)
    go (body.Curiosity runs) = tt
    go (body.Expect tick) = tt

-- receiving a frame cuts at most the log of its publisher, with one line
pub receive_cuts : (net : Net) (now : ℕ) (f : Frame) (v : View) (log : Log) → CallCuts net f.head.publisher f.head.to log (receive net now f v log)
receive_cuts net now f v log = uncut net f.head.publisher f.head.to log (receive net now f v log) (receive_free net now f v log) (ap (λ l. l.cut) (receive_log net now f v log))

-- joining
pub joining_cuts : (net : Net) (p b now s : ℕ) (v : View) (log : Log) → CallCuts net p b log (joining net p b now s v log)
joining_cuts net p b now s v log =
    joining_cases net p b now s v log (CallCuts net p b log) (λ e. uncut net p b log _ (λ q. tt) refl) (λ e l. uncut net p b log _ (λ q. tt) refl)
    (λ e l. uncut net p b log (joining_by net p b s v log (joins.Logged tick (silence (suc log.settled) tick []))) (λ q. learn_free net p b q _ _ _) (ap (λ m. m.cut) (learn_log net p b _ _ (with_join log tick s))))
  where
    tick : ℕ
    tick = max (suc log.settled) now

-- publishing
pub publish_cuts : (net : Net) (p b now number : ℕ) (e : Event) (v : View) (log : Log) → CallCuts net p b log (publish net p b now number e v log)
publish_cuts net p b now number e v log =
    publish_cases net p b now number e v log (CallCuts net p b log) (λ l. uncut net p b log _ (λ q. tt) refl) (λ l. uncut net p b log _ (λ q. tt) refl) (λ x l. uncut net p b log _ (λ q. tt) refl)
    (λ x l. uncut net p b log (publish_by net p b number e v log (Logged tick (news_of log tick e))) (λ q. learn_free net p b q _ v _) (ap (λ l. l.cut) (learn_log net p b _ v (with_event log tick e))))
  where
    tick : ℕ
    tick = max (suc log.settled) now

-- waking

record MarkKeeps (log : Log) (o : Outcome) : Type 0 where
  cut : o.log.cut ≡ log.cut
  events : o.log.events ≡ log.events
  free : (q : ℕ) → CutFree q o.lines

marking_keeps : (net : Net) (p b now : ℕ) (v : View) (log : Log) → MarkKeeps log (marking net p b now v log)
marking_keeps net p b now v log =
    marking_cases net p b now v log (MarkKeeps log)
    (λ e. let x = learn_log net p b (silence (suc log.settled) now []) v (with_mark log now) in record { cut = ap (λ l. l.cut) x; events = ap (λ l. l.events) x; free = λ q. learn_free net p b q _ v _ })
    (λ e. record { cut = refl; events = refl; free = λ q. tt })

cutting_stays : (net : Net) (p b : ℕ) (v : View) (log : Log) → nat_lt log.cut (cutting net p b v log).cut ≡ false → (cutting net p b v log).cut ≡ log.cut
cutting_stays net p b v log =
    let a = cut_at net p b v log in
    cutting_cases net p b v log (λ l. nat_lt log.cut l.cut ≡ false → l.cut ≡ log.cut) (λ f. refl)
    (λ x. subst (λ c. nat_lt log.cut c ≡ false → c ≡ log.cut) (sym (at_cut net.reclaim log a)) (λ f. absurd (both_ways (nat_lt log.cut a) f (lt-ltb log.cut a x))))

wake_host_cuts : (net : Net) (p b now : ℕ) (v : View) (log : Log) → log.forgets ≡ false → is_host net p b ≡ true → CallCuts net p b log (wake_host net p b now v log)
unfolding wake_host
wake_host_cuts net p b now v log keeps host = go (nat_lt o.log.cut new.cut) refl (nat_lt log.settled o.log.settled) (nat_lt o.log.generation new.generation)
  where
    o : Outcome
    o = marking net p b now v log

    new : Log
    new = cutting net p b o.view o.log

    k : MarkKeeps log o
    k = marking_keeps net p b now v log

    mark : Bool → List Report
    mark c = if c then line.Mark p now ∷ [] else []

    mark_free : (q : ℕ) (c : Bool) → CutFree q (mark c)
    mark_free q true = tt
    mark_free q false = tt

    fs : List Frame
    fs = (wake_host net p b now v log).frames

    anew : Bool → List Report
    anew d = if d then line.Reclaimed p new.generation ∷ [] else []

    anew_free : (q : ℕ) (d : Bool) → CutFree q (anew d)
    anew_free q true = tt
    anew_free q false = tt

    go : (q : Bool) → nat_lt o.log.cut new.cut ≡ q → (c d : Bool) → CallCuts net p b log (record { view = o.view; log = new; lines = (mark c ++ (if q then line.Cut p new.cut ∷ anew d else [])) ++ o.lines; frames = fs })
    go true e c d = record {
      others = λ q n. CutFree-append q (mark c ++ line.Cut p new.cut ∷ anew d) o.lines (CutFree-append q (mark c) (line.Cut p new.cut ∷ anew d) (mark_free q c) (ne_eqb p q (λ x. n (sym x)), anew_free q d)) (k.free q);
      here = inr (record {
        host = host;
        more = subst (λ z. z < new.cut) k.cut (ltb-true o.log.cut new.cut e);
        events = cutting_events net p b o.view o.log (marking_forgets net p b now v log ∙ keeps) ∙ k.events;
        pre = mark c;
        post = anew d ++ o.lines;
        free_pre = mark_free p c;
        free_post = CutFree-append p (anew d) o.lines (anew_free p d) (k.free p);
        lines = append_assoc (mark c) (line.Cut p new.cut ∷ anew d) o.lines;
      });
    }
    go false e c d = uncut net p b log (record { view = o.view; log = new; lines = (mark c ++ []) ++ o.lines; frames = fs }) (λ q. CutFree-append q (mark c ++ []) o.lines (CutFree-append q (mark c) [] (mark_free q c) tt) (k.free q)) (cutting_stays net p b o.view o.log e ∙ k.cut)

-- a wake cuts at most the log of its publisher, with one line
pub wake_cuts : (net : Net) (p b now : ℕ) (v : View) (log : Log) → log.forgets ≡ false → CallCuts net p b log (wake net p b now v log)
unfolding wake wake_below asking
wake_cuts net p b now v log keeps = go (is_host net p b) refl
  where
    go : (q : Bool) → is_host net p b ≡ q → CallCuts net p b log (elim q [ true ↦ wake_host net p b now v log | false ↦ wake_below net p b now v log ])
    go true e = wake_host_cuts net p b now v log keeps e
    go false e = uncut net p b log (wake_below net p b now v log) (λ q. tt) refl
