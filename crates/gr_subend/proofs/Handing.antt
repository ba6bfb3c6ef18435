-- The piece past a horizon has the data ticks of the knowledge that the horizon passes
use Rattle.std.proofs.Common.{◌≡◌, ◌≢◌, ◌⊎◌, inl, inr, ℕ, suc, ◌+◌, ◌-◌, ◌^◌, ◌≤◌, ◌<◌, Bool, true, false, List, [], ◌∷◌, ◌++◌, length, drop, get_or, refl, sym, ap, ◌∙◌, subst, Some, append_assoc, arith}
use Rattle.std.specs.Prelude.{flat_map, if◌then◌else◌, ◌&&◌, nat_le, slice_get}
use Rattle.std.proofs.lemmas.Bool.{cases_lt, le-leb, lt-leb, and_from, cond-true}
use Rattle.gr_event.specs.declared.event.Event.{Event}
use Rattle.gr_tick.specs.declared.run.Run.{Run}
use Rattle.std.proofs.lemmas.List.{append-nil, drop_all, take_all}
use Rattle.std.proofs.lemmas.Option.{get_or_from_slice_get}
use Rattle.gr_tick.specs.Runs.{AreRuns, first_bottom_from}
use Rattle.gr_tick.proofs.EditLemmas.{drop_read}
use Rattle.gr_tick.specs.Stored.{within, EndBefore, RunsGive}
use Rattle.gr_tick.proofs.Canonical.{value_at-outside, AreTickRuns-canonical}
use Rattle.gr_tick.proofs.SteadyLemmas.{first_bottom_from-only}
use Rattle.gr_tick.proofs.RunsLemmas.{value_at_past}
use Rattle.gr_tick.proofs.SeekLemmas.{seek_low}
use Rattle.gr_tick.proofs.RunLaws.{value_at-below, value_at-start}
use Rattle.gr_know.specs.declared.values.K.{K}
use Rattle.gr_know.specs.declared.values.K.TheVariants.{Q}
use Rattle.gr_know.specs.Values.{Known, known_at, join_K}
use Rattle.gr_subend.specs.declared.delivery.Delivery.{Delivery}
use Rattle.gr_subend.specs.Horizon.{horizon_after, numbers_from, data_of_run, data_ticks, LiesWithin}
use Rattle.gr_subend.specs.Said.{said_at, event_of}
use Rattle.gr_subend.specs.Deliveries.{items}
use Rattle.gr_subend.proofs.Saying.{Items, said_equal, dated}
use Rattle.gr_subend.proofs.Ticks.{data_ticks_rise, data_ticks_in, data_ticks_out}

-- what a value says that is cut to a range
in_range : (lo hi t : ℕ) (k : K) → lo < t → t ≤ hi → (if within (lo + 1) hi t then k else Q) ≡ k
in_range lo hi t k a b = cond-true (within (lo + 1) hi t) k Q (and_from (nat_le (lo + 1) t) (nat_le t hi) (le-leb (lo + 1) t (omega arith)) (le-leb t hi b))

out_of_range : (lo hi t : ℕ) (k : K) → (t ≤ lo) ⊎ (hi < t) → (if within (lo + 1) hi t then k else Q) ≡ Q
out_of_range lo hi t k (inl h) = rw (lt-leb (lo + 1) t (omega arith)) refl
out_of_range lo hi t k (inr h) = by_first (nat_le (lo + 1) t)
  where
    by_first : (b : Bool) → (if b && nat_le t hi then k else Q) ≡ Q
    by_first true = rw (lt-leb t hi h) refl
    by_first false = refl

and_no : (b : Bool) → (b && false) ≡ false
and_no true = refl
and_no false = refl

-- the piece from lo + 1 to hi has the data ticks of the knowledge there
pub piece_ticks : (lo hi : ℕ) (know piece : Known) → hi ≤ 2 ^ 62 → AreRuns Q know → RunsGive Q piece (λ t. if within (lo + 1) hi t then known_at know t else Q) → data_ticks 0 (2 ^ 62) piece ≡ data_ticks lo hi know
piece_ticks lo hi know piece le a g =
    said_equal 0 0 (data_ticks 0 (2 ^ 62) piece) (data_ticks lo hi know) (data_ticks_rise 0 (2 ^ 62) piece g.canonical) (data_ticks_rise lo hi know a) (λ t. at t (cases_lt lo t) (cases_lt hi t))
  where
    -- the piece says what its value is, wherever that is
    whole : (t : ℕ) → said_at (data_ticks 0 (2 ^ 62) piece) t ≡ event_of (known_at piece t)
    whole t = by_place (cases_lt 0 t) (cases_lt (2 ^ 62) t)
      where
        outside : within 1 (2 ^ 62) t ≡ false → (t ≤ 0) ⊎ (2 ^ 62 < t) → said_at (data_ticks 0 (2 ^ 62) piece) t ≡ event_of (known_at piece t)
        outside e h = data_ticks_out 0 (2 ^ 62) t piece g.canonical h ∙ sym (ap event_of (value_at-outside Q piece t g.canonical g.in_range e))

        by_place : (0 < t) ⊎ (t ≤ 0) → (2 ^ 62 < t) ⊎ (t ≤ 2 ^ 62) → said_at (data_ticks 0 (2 ^ 62) piece) t ≡ event_of (known_at piece t)
        by_place (inl p) (inr q) = data_ticks_in 0 (2 ^ 62) t piece g.canonical p q
        by_place (inl p) (inl q) = outside (rw (lt-leb t (2 ^ 62) q) (and_no (nat_le 1 t))) (inr q)
        by_place (inr p) q = outside (ap (λ b. b && nat_le t (2 ^ 62)) (lt-leb 1 t (omega arith))) (inl p)

    at : (t : ℕ) → (lo < t) ⊎ (t ≤ lo) → (hi < t) ⊎ (t ≤ hi) → said_at (data_ticks 0 (2 ^ 62) piece) t ≡ said_at (data_ticks lo hi know) t
    at t (inl p) (inr q) = whole t ∙ ap event_of (g.values t ∙ in_range lo hi t (known_at know t) p q) ∙ sym (data_ticks_in lo hi t know a p q)
    at t (inl p) (inl q) = whole t ∙ ap event_of (g.values t ∙ out_of_range lo hi t (known_at know t) (inr q)) ∙ sym (data_ticks_out lo hi t know a (inr q))
    at t (inr p) q = whole t ∙ ap event_of (g.values t ∙ out_of_range lo hi t (known_at know t) (inl p)) ∙ sym (data_ticks_out lo hi t know a (inl p))

-- where the horizon stays nothing is passed
pub no_ticks : (h : ℕ) (know : Known) → AreRuns Q know → data_ticks h h know ≡ []
no_ticks h know a =
    said_equal 0 0 (data_ticks h h know) [] (data_ticks_rise h h know a) tt (λ t. elim (cases_lt h t) [
      | inl p ↦ data_ticks_out h h t know a (inr p)
      | inr p ↦ data_ticks_out h h t know a (inl p)
    ])

-- Tick by tick

-- one tick of a range, and those left
pub ticks_left : (e : Event) (tick last : ℕ) → tick ≤ last → dated e (numbers_from tick (suc last - tick)) ≡ (tick, e) ∷ dated e (numbers_from (tick + 1) (suc last - (tick + 1)))
ticks_left e tick last le =
    let n : suc last - tick ≡ suc (suc last - (tick + 1)) = omega arith in
    let m : suc tick ≡ tick + 1 = omega arith in
    ap (λ k. dated e (numbers_from tick k)) n ∙ ap (λ k. (tick, e) ∷ dated e (numbers_from k (suc last - (tick + 1)))) m

items_more : (ds : List Delivery) (d : Delivery) (rest : Items) → items (ds ++ d ∷ []) ++ rest ≡ items ds ++ (d.tick, d.event) ∷ rest
items_more [] d rest = refl
items_more (x ∷ ds) d rest = ap (λ xs. (x.tick, x.event) ∷ xs) (items_more ds d rest)

-- one delivery more
pub one_more : (e v : Event) (tick last : ℕ) (ds ds' : List Delivery) (whole : Items) → tick ≤ last → v ≡ e → ds' ≡ ds ++ record { tick = tick; event = v } ∷ []
    → items ds ++ dated e (numbers_from tick (suc last - tick)) ≡ whole → items ds' ++ dated e (numbers_from (tick + 1) (suc last - (tick + 1))) ≡ whole
one_more e v tick last ds ds' whole le same more before =
    ap (λ xs. items xs ++ dated e (numbers_from (tick + 1) (suc last - (tick + 1)))) more
    ∙ items_more ds (record { tick = tick; event = v }) (dated e (numbers_from (tick + 1) (suc last - (tick + 1))))
    ∙ ap (λ x. items ds ++ (tick, x) ∷ dated e (numbers_from (tick + 1) (suc last - (tick + 1)))) same
    ∙ ap (λ xs. items ds ++ xs) (sym (ticks_left e tick last le))
    ∙ before

-- Run by run

-- one run more
pub run_more : (f : Run K → Items) (rs : Known) (i : ℕ) (r : Run K) (ds ds' : List Delivery) (whole : Items) → i < length rs → slice_get rs i ≡ Some r → items ds' ≡ items ds ++ f r
    → items ds ++ flat_map f (drop i rs) ≡ whole → items ds' ++ flat_map f (drop (i + 1) rs) ≡ whole
run_more f rs i r ds ds' whole lt read more before =
    ap (λ xs. xs ++ flat_map f (drop (i + 1) rs)) more
    ∙ append_assoc (items ds) (f r) (flat_map f (drop (i + 1) rs))
    ∙ ap (λ xs. items ds ++ flat_map f xs) (sym (drop_read rs i r lt (sym (get_or_from_slice_get rs i r r read))))
    ∙ before

-- all runs
pub all_runs : (rs : Known) (i : ℕ) (ds : List Delivery) → length rs ≤ i → items ds ++ flat_map (data_of_run 0 (2 ^ 62)) (drop i rs) ≡ flat_map (data_of_run 0 (2 ^ 62)) rs → items ds ≡ data_ticks 0 (2 ^ 62) rs
unfolding data_ticks
all_runs rs i ds le h =
    sym (append-nil (items ds)) ∙ ap (λ xs. items ds ++ flat_map (data_of_run 0 (2 ^ 62)) xs) (sym (drop_all i rs le)) ∙ h

-- The horizon

-- it moves by the rule
pub moves : (i h k : ℕ) (know : Known) → i ≡ h → k ≡ first_bottom_from know (suc i) - 1 → k ≡ horizon_after true h know
unfolding horizon_after
moves i h k know e m = m ∙ ap (λ n. first_bottom_from know (suc n) - 1) e

-- and what is handed over are the data ticks that it passed
pub handed : (i h k : ℕ) (know piece : Known) (ds : List Delivery) → i ≡ h → k ≤ 2 ^ 62 → AreRuns Q know → RunsGive Q piece (λ t. if within (i + 1) k t then known_at know t else Q) → items ds ≡ data_ticks 0 (2 ^ 62) piece → items ds ≡ data_ticks h k know
handed i h k know piece ds e le a g d = d ∙ piece_ticks i k know piece le a g ∙ ap (λ n. data_ticks n k know) e

-- once a piece is joined

-- the horizon is where the next unknown tick says
pub moves_with : (h k : ℕ) (joined : Known) (at : ℕ → K) → RunsGive Q joined at → h ≤ k → ((t : ℕ) → h < t → t ≤ k → at t ≢ Q) → at (k + 1) ≡ Q → k ≡ horizon_after true h joined
unfolding horizon_after
moves_with h k joined at g le known next =
    let only : k + 1 ≡ first_bottom_from joined (suc h) =
    first_bottom_from-only Q joined (suc h) (k + 1) (AreTickRuns-canonical Q joined g.canonical g.in_range) (omega (arith, le)) (g.values (k + 1) ∙ next) (λ t lo hi e. known t (omega (arith, lo)) (omega (arith, hi)) (sym (g.values t) ∙ e)) in
    omega (arith, only)

-- where it stays nothing is handed over
pub none_upto : (h k : ℕ) (joined : Known) (at : ℕ → K) (ds : List Delivery) → ds ≡ [] → RunsGive Q joined at → h ≡ k → items ds ≡ data_ticks h k joined
none_upto h k joined at ds e g same =
    ap items e ∙ sym (no_ticks h joined g.canonical) ∙ ap (λ n. data_ticks h n joined) same

-- where the first run begins past a tick and the last one ends by another, all of them lie within
pub lies : (past upto : ℕ) (piece : Known) (first last : Run K) → AreRuns Q piece → EndBefore piece (2 ^ 62 + 1) → 0 < length piece → slice_get piece 0 ≡ Some first → slice_get piece (length piece - 1) ≡ Some last → past < first.first → last.last ≤ upto → LiesWithin past upto piece
lies past upto piece first last a b some f l p q = record { begins = begins; ends = ends }
  where
    begins : (r : Run K) (rs : Known) → piece ≡ r ∷ rs → past < r.first
    begins r rs e =
        let same : get_or piece 0 r ≡ first = get_or_from_slice_get piece 0 first r f in
        let here : r ≡ first = sym (ap (λ xs. get_or xs 0 r) e) ∙ same in
        subst (λ x. past < x.first) (sym here) p

    ends : EndBefore piece (upto + 1)
    ends =
        subst (λ xs. EndBefore xs (upto + 1)) (take_all (length piece - 1 + 1) piece (omega arith))
        (seek_low Q piece (length piece - 1) (upto + 1) last (omega (arith, some)) (sym (get_or_from_slice_get piece (length piece - 1) last last l)) (AreTickRuns-canonical Q piece a b) (omega (arith, q)))

-- a piece that follows all that is known, and is passed whole, is what is known of the ticks that are passed
pub passed_whole : (h k : ℕ) (know piece : Known) → AreRuns Q piece → EndBefore piece (2 ^ 62 + 1) → EndBefore know (h + 1) → LiesWithin h k piece → RunsGive Q piece (λ t. if within (h + 1) k t then join_K (known_at know t) (known_at piece t) else Q)
passed_whole h k know piece a b past w = record { canonical = a; in_range = b; values = λ t. at t (cases_lt h t) (cases_lt k t) }
  where
    early : (t : ℕ) → t ≤ h → known_at piece t ≡ Q
    early t le = go piece refl a
      where
        go : (rs : Known) → piece ≡ rs → AreRuns Q rs → known_at rs t ≡ Q
        go [] e c = refl
        go (r ∷ rs) e c =
            let lt : t < r.first = omega (arith, le, w.begins r rs e) in
            value_at-below Q r rs t lt ∙ value_at-start Q (suc r.last) rs t c.4 (omega (arith, lt, c.1))

    at : (t : ℕ) → (h < t) ⊎ (t ≤ h) → (k < t) ⊎ (t ≤ k) → known_at piece t ≡ (if within (h + 1) k t then join_K (known_at know t) (known_at piece t) else Q)
    at t (inl p) (inr q) =
        let unknown : known_at know t ≡ Q = value_at_past Q know (h + 1) t past (omega (arith, p)) in
        sym (ap (λ x. join_K x (known_at piece t)) unknown) ∙ sym (in_range h k t (join_K (known_at know t) (known_at piece t)) p q)
    at t (inl p) (inl q) = value_at_past Q piece (k + 1) t w.ends (omega (arith, q)) ∙ sym (out_of_range h k t (join_K (known_at know t) (known_at piece t)) (inr q))
    at t (inr p) q = early t p ∙ sym (out_of_range h k t (join_K (known_at know t) (known_at piece t)) (inl p))

-- else the data ticks that it passes
pub some_upto : (i h k : ℕ) (joined piece : Known) (at : ℕ → K) (ds : List Delivery) → i ≡ h → k ≤ 2 ^ 62 → RunsGive Q joined at → RunsGive Q piece (λ t. if within (i + 1) k t then at t else Q) → items ds ≡ data_ticks 0 (2 ^ 62) piece → items ds ≡ data_ticks h k joined
some_upto i h k joined piece at ds e le g p d =
    let q : RunsGive Q piece (λ t. if within (i + 1) k t then known_at joined t else Q) = record {
      canonical = p.canonical;
      in_range = p.in_range;
      values = λ t. p.values t ∙ ap (λ v. if within (i + 1) k t then v else Q) (sym (g.values t));
    } in
    handed i h k joined piece ds e le g.canonical q d
