-- What the opening tells: each log that is not empty, and what the subscribers at its host get at once
use Rattle.std.proofs.Common.{◌≡◌, ◌≢◌, ◌⊎◌, inl, inr, ⊎_elim, ℕ, suc, zero, ◌≤◌, ◌<◌, Bool, true, false, ◌||◌, List, [], ◌∷◌, ◌++◌, map, length, refl, sym, ap, ap₂, ◌∙◌, subst, arith, append-nil, le_refl}
use Rattle.std.specs.Prelude.{nat_eq, nat_lt, if◌then◌else◌, filter, flat_map}
use Rattle.std.specs.List.{list_any, AllByRecursion}
use Rattle.std.proofs.lemmas.Bool.{cases_eq, eq-eqb, ne_eqb, eqb-true, lt-ltb, le-ltb, or_left, or_right, or_cases, false≢true, true≢false, both_ways, false_from_ne_true}
use Rattle.gr_event.specs.declared.event.Event.{Event}
use Rattle.gr_know.specs.declared.values.K.TheVariants.{Q}
use Rattle.gr_tick.specs.Runs.{zip_runs}
use Rattle.gr_know.specs.Values.{Known, same_K, join_K}
use Rattle.gr_frame.specs.declared.Frame.{Frame}
use Rattle.gr_model.specs.declared.report.Report.{Report}
use Rattle.gr_model.specs.declared.report.Report.TheVariants as line
use Rattle.gr_model.specs.Net.{Net, is_host, keeps_horizon, not_empty, numbers, numbers_from}
use Rattle.gr_model.specs.Broker.{View, Log, data_ticks, got_line, delivery_lines, learn, started}
use Rattle.gr_model.specs.World.{World, Transition, view_of, log_of, absorbed, unchanged, in_turn, sent_lines}
use Rattle.gr_model.specs.Opening.{over_logs, reopened_line, publishers_at, opened_for_by, opening_by}
use Rattle.gr_model_calls.specs.OneNet.{opened_for}
use Rattle.gr_model_theorems.specs.Found.{AreReopened, got_at_once, told_at_opening}
use Rattle.gr_model_calls.specs.Said.{due_upto, due_between}
use Rattle.gr_model_calls.specs.Truth.{Facts, KnowsTruth}
use Rattle.gr_model.specs.Tree.{IsNet, IsDistinct}
use Rattle.gr_model_calls.specs.Fits.{WorldFits, facts_of}
use Rattle.gr_model_calls.proofs.calls.CallTruth.{HorizonMoves, joined_true, horizon_after-is, learned_horizon}
use Rattle.gr_model_calls.proofs.calls.Calls.{learn_horizon}
use Rattle.gr_model_calls.proofs.calls.Told.{told_is_due, due_upto_past}
use Rattle.gr_model_calls.proofs.runs.Worlds.{Each, absorbed_changed, exact_at}
use Rattle.gr_model_theorems.proofs.records.Records.{HasLine}
use Rattle.gr_model.proofs.NetOf.{distinct_from}
use Rattle.gr_model_theorems.proofs.server.Opening.{Opening, learned_meets, learns_silently, opening_turn, over_view, over_opening, opened_logs}
use Rattle.gr_model_theorems.proofs.server.OverLogs.{all_opened, publishers_below, opened}

-- the horizons of hosts that have not had their turn
abbrev AreFresh : Net → World → List ℕ → Type 0
AreFresh net w ps = AllByRecursion (λ q. (view_of w (net.host q) q).horizon ≡ 0) ps

-- what one subscriber is told where the horizon moves from 0
told_at : (net : Net) (p s h : ℕ) (items events : List (ℕ × Event)) → filter (λ x. net.wants p s x.0 x.1) items ≡ due_upto net p s h events → delivery_lines net p 0 h items s ≡ (if nat_lt 0 h then map (got_line s p) (due_upto net p s h events) ++ line.Horizon s p h ∷ [] else [])
unfolding delivery_lines
told_at net p s h items events e =
    elim (cases_eq 0 h) [
      | inl z ↦ rw (eq-eqb 0 h z, le-ltb 0 h (omega (arith, z))) refl
      | inr z ↦ rw (ne_eqb 0 h z, lt-ltb 0 h (omega (arith, z))) (ap (λ (xs : List (ℕ × Event)). map (got_line s p) xs ++ line.Horizon s p h ∷ []) e)
    ]

learned_lines : (net : Net) (w : World) (p : ℕ) → IsNet net → WorldFits net w → p < net.publishers → not_empty (net.subscribers_at (net.host p)) ≡ true → (view_of w (net.host p) p).horizon ≡ 0 → (learn net p (net.host p) [] (view_of w (net.host p) p) (log_of w p)).lines ≡ flat_map (got_at_once net (log_of w p) p) (net.subscribers_at (net.host p))
unfolding learn
learned_lines net w p n f j some zero_ = go (net.subscribers_at b) (λ s m. m)
  where
    b : ℕ
    b = net.host p

    i : b < net.brokers
    i = n.host_in p j

    v : View
    v = view_of w b p

    log : Log
    log = log_of w p

    facts_now : Facts
    facts_now = facts_of net w p

    know : Known
    know = zip_runs Q Q Q same_K join_K v.know []

    t : KnowsTruth net facts_now p b know
    t = joined_true net facts_now p b v.know [] (f.views p b j i).know (record { runs = tt; each = λ u. tt })

    h : ℕ
    h = learned_horizon net p b [] v

    moves : HorizonMoves net facts_now know v.horizon h
    moves = horizon_after-is net facts_now p b (keeps_horizon net p b) v.horizon know t (f.views p b j i).horizon.settled

    settled : h ≡ log.settled
    settled =
        let c = absorbed_changed net w b p (learn net p b [] v log) f i j in
        sym (learn_horizon net p b [] v log) ∙ (ap (λ (x : View). x.horizon) (sym c.view) ∙ (learned_meets net w p n f j some ∙ ap (λ (x : Log). x.settled) c.log))

    one : (s : ℕ) → list_any (λ x. nat_eq x s) (net.subscribers_at b) ≡ true → delivery_lines net p v.horizon h (data_ticks v.horizon h know) s ≡ got_at_once net log p s
    one s m =
        let due : filter (λ x. net.wants p s x.0 x.1) (data_ticks v.horizon h know) ≡ due_between net p s v.horizon h log.events = told_is_due net facts_now p b s v.horizon h know log.events t moves.known (n.here_below p b s j i m) (exact_at net w b p n i s m) (f.logs p j).rise (λ u. refl) in
        let upto : due_upto net p s h log.events ≡ due_between net p s 0 h log.events = due_upto_past net p s 0 h 0 log.events (le_refl 0) (f.logs p j).rise in
        let same : filter (λ x. net.wants p s x.0 x.1) (data_ticks v.horizon h know) ≡ due_upto net p s h log.events = due ∙ (ap (λ lo. due_between net p s lo h log.events) zero_ ∙ sym upto) in
        ap (λ lo. delivery_lines net p lo h (data_ticks v.horizon h know) s) zero_ ∙ (told_at net p s h (data_ticks v.horizon h know) log.events same
        ∙ ap (λ m. if nat_lt 0 m then map (got_line s p) (due_upto net p s m log.events) ++ line.Horizon s p m ∷ [] else []) settled)

    go : (xs : List ℕ) → ((s : ℕ) → list_any (λ x. nat_eq x s) xs ≡ true → list_any (λ x. nat_eq x s) (net.subscribers_at b) ≡ true) → flat_map (delivery_lines net p v.horizon h (data_ticks v.horizon h know)) xs ≡ flat_map (got_at_once net log p) xs
    go [] m = refl
    go (x ∷ xs) m = ap₂ (λ (a c : List Report). a ++ c) (one x (m x (or_left (nat_eq x x) (list_any (λ y. nat_eq y x) xs) (eq-eqb x x refl)))) (go xs (λ s e. m s (or_right (nat_eq x s) (list_any (λ y. nat_eq y s) xs) e)))

-- the lines of a publisher's turn
turn_lines : (net : Net) (logs : List Log) (w : World) (ls : List Report) (p : ℕ) → IsNet net → p < net.publishers → Opening net logs w ls → (view_of w (net.host p) p).horizon ≡ 0 → (opened_for net w p).lines ≡ told_at_opening net logs p
unfolding opened_for_by absorbed
turn_lines net logs w ls p n j o fresh =
    subst (λ (log : Log). (opened_for net w p).lines ≡ reopened_line log p ++ flat_map (got_at_once net log p) (net.subscribers_at b)) (opened_logs net logs w ls p j o)
    (ap (λ (z : List Report). reopened_line (log_of w p) p ++ z) (go (not_empty (net.subscribers_at b)) refl))
  where
    b : ℕ
    b = net.host p

    none : (xs : List ℕ) → not_empty xs ≡ false → [] ≡ flat_map (got_at_once net (log_of w p) p) xs
    none [] e = refl
    none (x ∷ xs) e = absurd (true≢false e)

    go : (q : Bool) → not_empty (net.subscribers_at b) ≡ q → (let t : Transition = elim q [ true ↦ absorbed w b p (learn net p b [] (view_of w b p) (log_of w p)) | false ↦ unchanged w [] ] in t.lines) ≡ flat_map (got_at_once net (log_of w p) p) (net.subscribers_at b)
    go true e = ap₂ (λ (x : List Report) (y : List Frame). x ++ sent_lines (suc (length w.frames)) y) (learned_lines net w p n o.fits j e fresh) (learns_silently net w p n o.fits j) ∙ append-nil (flat_map (got_at_once net (log_of w p) p) (net.subscribers_at b))
    go false e = none (net.subscribers_at b) e

-- a turn leaves the others as they are
turn_keeps_view : (net : Net) (w : World) (p q : ℕ) → IsNet net → WorldFits net w → p < net.publishers → q ≢ p → (view_of (opened_for net w p).world (net.host q) q).horizon ≡ (view_of w (net.host q) q).horizon
unfolding opened_for_by
turn_keeps_view net w p q n f j e = go (not_empty (net.subscribers_at (net.host p)))
  where
    go : (c : Bool) → (let t : Transition = elim c [ true ↦ absorbed w (net.host p) p (learn net p (net.host p) [] (view_of w (net.host p) p) (log_of w p)) | false ↦ unchanged w [] ] in (view_of t.world (net.host q) q).horizon) ≡ (view_of w (net.host q) q).horizon
    go true = let c = absorbed_changed net w (net.host p) p (learn net p (net.host p) [] (view_of w (net.host p) p) (log_of w p)) f (n.host_in p j) j in ap (λ (v : View). v.horizon) (c.other_publisher (net.host q) q e)
    go false = refl

still_fresh : (net : Net) (w : World) (p : ℕ) (ps : List ℕ) → IsNet net → WorldFits net w → p < net.publishers → list_any (λ q. nat_eq q p) ps ≡ false → AreFresh net w ps → AreFresh net (opened_for net w p).world ps
still_fresh net w p [] n f j e a = tt
still_fresh net w p (q ∷ ps) n f j e a = (turn_keeps_view net w p q n f j (λ z. both_ways (nat_eq q p) (no_left (nat_eq q p) (list_any (λ x. nat_eq x p) ps) e) (eq-eqb q p z)) ∙ a.0, still_fresh net w p ps n f j (no_right (nat_eq q p) (list_any (λ x. nat_eq x p) ps) e) a.1)
  where
    no_left : (c d : Bool) → (c || d) ≡ false → c ≡ false
    no_left false d e = refl
    no_left true d e = e

    no_right : (c d : Bool) → (c || d) ≡ false → d ≡ false
    no_right false d e = e
    no_right true d e = absurd (true≢false e)

turns_lines : (net : Net) (logs : List Log) (w : World) (ls : List Report) (ps : List ℕ) → IsNet net → Each (λ p. p < net.publishers) ps → IsDistinct ps → Opening net logs w ls → AreFresh net w ps → (in_turn (opened_for net) ps w).lines ≡ flat_map (told_at_opening net logs) ps
turns_lines net logs w ls [] n a d o fresh = refl
turns_lines net logs w ls (p ∷ ps) n a d o fresh =
    let t = opened_for net w p in
    ap₂ (λ (x y : List Report). x ++ y) (turn_lines net logs w ls p n a.0 o fresh.0) (turns_lines net logs t.world (ls ++ t.lines) ps n a.1 d.1 (opening_turn net logs w ls p n a.0 o) (still_fresh net w p ps n o.fits a.0 d.0 fresh.1))

-- No publisher has two turns

passes : (test : ℕ → Bool) (p : ℕ) (xs : List ℕ) → HasLine p (filter test xs) → test p ≡ true
passes test p [] h = absurd (false≢true h)
passes test p (x ∷ xs) h = by (test x) refl (λ z. passes test p xs z) h
  where
    by : (c : Bool) → test x ≡ c → (HasLine p (filter test xs) → test p ≡ true) → HasLine p (if c then x ∷ filter test xs else filter test xs) → test p ≡ true
    by true e rest h = ⊎_elim (λ z. ap test (sym (eqb-true x p z)) ∙ e) rest (or_cases (nat_eq x p) (list_any (λ y. nat_eq y p) (filter test xs)) h)
    by false e rest h = rest h

has_either : (p : ℕ) (xs ys : List ℕ) → HasLine p (xs ++ ys) → HasLine p xs ⊎ HasLine p ys
has_either p [] ys h = inr h
has_either p (x ∷ xs) ys h = ⊎_elim (λ z. inl (or_left (nat_eq x p) (list_any (λ y. nat_eq y p) xs) z)) (λ z. ⊎_elim (λ y. inl (or_right (nat_eq x p) (list_any (λ y. nat_eq y p) xs) y)) (λ y. inr y) (has_either p xs ys z)) (or_cases (nat_eq x p) (list_any (λ y. nat_eq y p) (xs ++ ys)) h)

hosts_from : (net : Net) (p a k : ℕ) → HasLine p (publishers_at net (numbers_from a k)) → a ≤ net.host p
hosts_from net p a zero h = absurd (false≢true h)
hosts_from net p a (suc k) h =
    ⊎_elim
    (λ e. let g = eqb-true (net.host p) a (passes (λ q. is_host net q a) p (numbers net.publishers) e) in omega (arith, g))
    (λ e. let g = hosts_from net p (suc a) k e in omega (arith, g))
    (has_either p (filter (λ q. is_host net q a) (numbers net.publishers)) (publishers_at net (numbers_from (suc a) k)) h)

absent : (x : ℕ) (xs ys : List ℕ) → list_any (λ y. nat_eq y x) xs ≡ false → list_any (λ y. nat_eq y x) ys ≡ false → list_any (λ y. nat_eq y x) (xs ++ ys) ≡ false
absent x [] ys e g = g
absent x (z ∷ zs) ys e g = by (nat_eq z x) e (λ h. absent x zs ys h g)
  where
    by : (c : Bool) → (c || list_any (λ y. nat_eq y x) zs) ≡ false → (list_any (λ y. nat_eq y x) zs ≡ false → list_any (λ y. nat_eq y x) (zs ++ ys) ≡ false) → (c || list_any (λ y. nat_eq y x) (zs ++ ys)) ≡ false
    by true e rest = e
    by false e rest = rest e

distinct_both : (xs ys : List ℕ) → IsDistinct xs → IsDistinct ys → ((p : ℕ) → HasLine p xs → HasLine p ys → ⊥) → IsDistinct (xs ++ ys)
distinct_both [] ys a b c = b
distinct_both (x ∷ xs) ys a b c = (absent x xs ys a.0 (false_from_ne_true (list_any (λ y. nat_eq y x) ys) (λ e. c x (or_left (nat_eq x x) (list_any (λ y. nat_eq y x) xs) (eq-eqb x x refl)) e)), distinct_both xs ys a.1 b (λ p g h. c p (or_right (nat_eq x p) (list_any (λ y. nat_eq y p) xs) g) h))

turns_once : (net : Net) (a k : ℕ) → IsDistinct (publishers_at net (numbers_from a k))
turns_once net a zero = tt
turns_once net a (suc k) =
    distinct_both (filter (λ p. is_host net p a) (numbers net.publishers)) (publishers_at net (numbers_from (suc a) k)) (distinct_from (λ p. is_host net p a) 0 net.publishers) (turns_once net (suc a) k)
    (λ p g h. let x = eqb-true (net.host p) a (passes (λ q. is_host net q a) p (numbers net.publishers) g) in let y = hosts_from net p (suc a) k h in omega (arith, x, y))

all_fresh : (net : Net) (logs : List Log) (ps : List ℕ) → IsNet net → Each (λ p. p < net.publishers) ps → AreFresh net (over_logs net logs) ps
unfolding started
all_fresh net logs [] n a = tt
all_fresh net logs (p ∷ ps) n a = (ap (λ (v : View). v.horizon) (over_view net logs (net.host p) p (n.host_in p a.0) a.0), all_fresh net logs ps n a.1)

-- what the opening tells, and that it sends nothing
pub opened_tells : (net : Net) (logs : List Log) → IsNet net → AreReopened net logs → (all_opened net logs).lines ≡ flat_map (told_at_opening net logs) (publishers_at net (numbers net.brokers))
unfolding opening_by
opened_tells net logs n a =
    let ps = publishers_at net (numbers net.brokers) in
    let below = publishers_below net (numbers net.brokers) in
    turns_lines net logs (over_logs net logs) [] ps n below (turns_once net 0 net.brokers) (over_opening net logs n a) (all_fresh net logs ps n below)

-- the opening sends no frame
pub opened_sends_nothing : (net : Net) (logs : List Log) → IsNet net → AreReopened net logs → (all_opened net logs).world.frames ≡ []
opened_sends_nothing net logs n a = (opened net logs n a).frames
