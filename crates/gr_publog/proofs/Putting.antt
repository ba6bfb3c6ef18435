-- What a lane is filled with is put behind bytes, piece by piece
use Rattle.std.proofs.Common.{◌≡◌, ℕ, zero, suc, ◌+◌, ◌-◌, ◌<◌, ◌≤◌, max, false, nat_lt, nat_le, List, [], ◌∷◌, ◌++◌, length, take, drop, get_or, refl, ap, ap₂, sym, subst, ◌∙◌, append_assoc, append-nil, length-drop, le-ltb, lt-ltb, le-leb, arith}
use Rattle.std.specs.Prelude.{filter, Result, Ok, Err, OnOk}
use Rattle.std.specs.Int.{to_be_bytes, w16, w32, w64}
use Rattle.std.proofs.lemmas.Bool.{lt-leb}
use Rattle.std.proofs.lemmas.List.{drop_more}
use Rattle.gr_event.specs.declared.limits.TheConstants.{MAX_JOIN_TICK}
use Rattle.gr_event.specs.declared.join.Join.{Join}
use Rattle.gr_event.specs.Joins.{Joins, JoinsRise, last_join_tick}
use Rattle.gr_event.specs.declared.event.Event.{Event as EventPairs}
use Rattle.gr_event.specs.Event.{event_size, event_bytes}
use Rattle.gr_publog.specs.declared.record.Record.{Record}
use Rattle.gr_publog.specs.declared.record.Record.TheVariants.{Event, Join as JoinAt, Cut}
use Rattle.gr_publog.specs.declared.record.Entry.{Entry}
use Rattle.gr_publog.specs.State.{LogState, Footing, held_by, stands_after, EntriesRise, Apart}
use Rattle.gr_publog.specs.Text.{record_bytes, joins_bytes, blocks, base_bytes, based}
use Rattle.gr_publog.specs.Filled.{joins_upto, joins_past, joins_below, joins_from, joined, logged, in_order, last_event, greatest_tick, marked, base_of, body_of}
use Rattle.gr_publog.proofs.Live.{rise_drop, none_cut}
use Rattle.gr_publog.proofs.Merging.{rise_in, apart_in, all_past, all_from, none_upto, none_below, from_is_past}

-- the entry at a place
pub next_is : (es : List Entry) (i : ℕ) (x : Entry) → i < length es → x ≡ get_or es i x → drop i es ≡ x ∷ drop (i + 1) es
next_is es i x l e = drop_more es i x l ∙ ap (λ (y : Entry). y ∷ drop (i + 1) es) (sym e)

-- An event

pub event_put : (old b1 b2 form : List ℕ) (t n size : ℕ) (e : EventPairs) → b1 ≡ old ++ (1 ∷ (1 ∷ (to_be_bytes w64 t ++ (to_be_bytes w64 n ++ to_be_bytes w32 size)))) → b2 ≡ b1 ++ form
    → form ≡ event_bytes e → size ≡ event_size e → b2 ≡ old ++ (1 ∷ record_bytes (Event t n e))
event_put old b1 b2 form t n size e e1 e2 e3 e4 =
    let head : List ℕ = 1 ∷ (1 ∷ (to_be_bytes w64 t ++ (to_be_bytes w64 n ++ to_be_bytes w32 (event_size e)))) in
    let first : b1 ≡ old ++ head = e1 ∙ ap (λ (s : ℕ). old ++ (1 ∷ (1 ∷ (to_be_bytes w64 t ++ (to_be_bytes w64 n ++ to_be_bytes w32 s))))) e4 in
    e2 ∙ (ap₂ (λ (x y : List ℕ). x ++ y) first e3 ∙ append_assoc old head (event_bytes e))

blocks_more : (rs qs : List Record) → blocks (rs ++ qs) ≡ blocks rs ++ blocks qs
blocks_more [] qs = refl
blocks_more (r ∷ rs) qs = ap (λ (l : List ℕ). 1 ∷ (record_bytes r ++ l)) (blocks_more rs qs) ∙ ap (λ (l : List ℕ). 1 ∷ l) (sym (append_assoc (record_bytes r) (blocks rs) (blocks qs)))

-- what follows on an answer that is Ok
pub on_ok : {T E P Q : Type 0} (r : Result T E) → (P → Q) → OnOk r P → OnOk r Q
on_ok (Ok x) f p = f p
on_ok (Err e) f p = tt

-- Joins in their order

-- the join at a place
pub join_is : (js : Joins) (i : ℕ) (x : Join) → i < length js → x ≡ get_or js i x → drop i js ≡ x ∷ drop (i + 1) js
join_is js i x l e = drop_more js i x l ∙ ap (λ (y : Join). y ∷ drop (i + 1) js) (sym e)

pub taken_is : (js : Joins) (i : ℕ) (x : Join) → i < length js → x ≡ get_or js i x → take (i + 1) js ≡ take i js ++ x ∷ []
taken_is [] i x l e = absurd (omega (arith, l))
taken_is (j ∷ js) zero x l e = ap (λ (y : Join). y ∷ []) (sym e)
taken_is (j ∷ js) (suc i) x l e =
    let more : suc i + 1 ≡ suc (i + 1) = omega arith in
    ap (λ (n : ℕ). take n (j ∷ js)) more ∙ ap (λ (k : Joins). j ∷ k) (taken_is js i x (omega (arith, l)) e)

pub rise_on : (js rest : Joins) (x : Join) → js ≡ x ∷ rest → JoinsRise 0 js → JoinsRise 0 rest
rise_on js rest x is r = low (subst (JoinsRise 0) is r)
  where
    low : JoinsRise 0 (x ∷ rest) → JoinsRise 0 rest
    low q = down rest q.3
      where
        down : (ks : Joins) → JoinsRise x.tick ks → JoinsRise 0 ks
        down [] p = tt
        down (k ∷ ks) p = (omega (arith, p.0), p.1, p.2, p.3)

pub below_on : (old new target : List ℕ) (end : ℕ) (js rest : Joins) (x : Join) → new ≡ old ++ (1 ∷ record_bytes (JoinAt x.tick x.subscriber)) → js ≡ x ∷ rest → x.tick < end
    → old ++ blocks (joined (joins_below end js)) ≡ target → new ++ blocks (joined (joins_below end rest)) ≡ target
below_on old new target end js rest x e is low h =
    let R : List ℕ = blocks (joined (joins_below end rest)) in
    let first : joins_below end js ≡ x ∷ joins_below end rest = ap (joins_below end) is ∙ rw (lt-ltb x.tick end low) refl in
    ap (λ (l : List ℕ). l ++ R) e ∙ (append_assoc old (1 ∷ record_bytes (JoinAt x.tick x.subscriber)) R ∙ (ap (λ (l : Joins). old ++ blocks (joined l)) (sym first) ∙ h))

pub from_on : (end : ℕ) (js rest target : Joins) (x : Join) → js ≡ x ∷ rest → x.tick < end → joins_from end js ≡ target → joins_from end rest ≡ target
from_on end js rest target x is low h = sym (ap (joins_from end) is ∙ rw (lt-leb end x.tick low) refl) ∙ h

pub below_ends : (old target : List ℕ) (end : ℕ) (js rest : Joins) (x : Join) → js ≡ x ∷ rest → end ≤ x.tick → JoinsRise 0 js → old ++ blocks (joined (joins_below end js)) ≡ target → old ≡ target
below_ends old target end js rest x is high r h =
    let q : JoinsRise 0 (x ∷ rest) = subst (JoinsRise 0) is r in
    let none : joins_below end js ≡ [] = ap (joins_below end) is ∙ rw (le-ltb x.tick end high) (none_below end x.tick rest high q.3) in
    sym (append-nil old) ∙ (ap (λ (l : Joins). old ++ blocks (joined l)) (sym none) ∙ h)

pub from_ends : (end : ℕ) (js rest target : Joins) (x : Join) → js ≡ x ∷ rest → end ≤ x.tick → JoinsRise 0 js → joins_from end js ≡ target → js ≡ target
from_ends end js rest target x is high r h =
    let q : JoinsRise 0 (x ∷ rest) = subst (JoinsRise 0) is r in
    let all : joins_from end js ≡ js = ap (joins_from end) is ∙ (rw (le-leb end x.tick high) (ap (λ (l : Joins). x ∷ l) (all_from end x.tick rest high q.3)) ∙ sym is) in
    sym all ∙ h

-- where there are no more
pub below_none : (old target : List ℕ) (end : ℕ) (js : Joins) → js ≡ [] → old ++ blocks (joined (joins_below end js)) ≡ target → old ≡ target
below_none old target end js is h = sym (append-nil old) ∙ (ap (λ (l : Joins). old ++ blocks (joined (joins_below end l))) (sym is) ∙ h)

pub from_none : (end : ℕ) (js target : Joins) → js ≡ [] → joins_from end js ≡ target → js ≡ target
from_none end js target is h = is ∙ (ap (joins_from end) (sym is) ∙ h)

-- Joins up to a tick, and those past it

pub upto_on : (tick i : ℕ) (js rest target : Joins) (x : Join) → drop i js ≡ x ∷ rest → take (i + 1) js ≡ take i js ++ x ∷ [] → x.tick ≤ tick → take i js ++ joins_upto tick (drop i js) ≡ target
    → take (i + 1) js ++ joins_upto tick rest ≡ target
upto_on tick i js rest target x is more low h =
    let first : joins_upto tick (drop i js) ≡ x ∷ joins_upto tick rest = ap (joins_upto tick) is ∙ rw (le-leb x.tick tick low) refl in
    ap (λ (l : Joins). l ++ joins_upto tick rest) more ∙ (append_assoc (take i js) (x ∷ []) (joins_upto tick rest) ∙ (ap (λ (l : Joins). take i js ++ l) (sym first) ∙ h))

pub past_on : (tick : ℕ) (js rest target : Joins) (x : Join) → js ≡ x ∷ rest → x.tick ≤ tick → joins_past tick js ≡ target → joins_past tick rest ≡ target
past_on tick js rest target x is low h = sym (ap (joins_past tick) is ∙ rw (le-ltb tick x.tick low) refl) ∙ h

pub upto_ends : (tick : ℕ) (front js rest target : Joins) (x : Join) → js ≡ x ∷ rest → tick < x.tick → JoinsRise 0 js → front ++ joins_upto tick js ≡ target → front ≡ target
upto_ends tick front js rest target x is high r h =
    let q : JoinsRise 0 (x ∷ rest) = subst (JoinsRise 0) is r in
    let up : tick ≤ x.tick = omega (arith, high) in
    let none : joins_upto tick js ≡ [] = ap (joins_upto tick) is ∙ rw (lt-leb x.tick tick high) (none_upto tick x.tick rest up q.3) in
    sym (append-nil front) ∙ (ap (λ (l : Joins). front ++ l) (sym none) ∙ h)

pub past_ends : (tick : ℕ) (js rest target : Joins) (x : Join) → js ≡ x ∷ rest → tick < x.tick → JoinsRise 0 js → joins_past tick js ≡ target → js ≡ target
past_ends tick js rest target x is high r h =
    let q : JoinsRise 0 (x ∷ rest) = subst (JoinsRise 0) is r in
    let up : tick ≤ x.tick = omega (arith, high) in
    let all : joins_past tick js ≡ js = ap (joins_past tick) is ∙ (rw (lt-ltb tick x.tick high) (ap (λ (l : Joins). x ∷ l) (all_past tick x.tick rest up q.3)) ∙ sym is) in
    sym all ∙ h

-- Events and joins in their order

pub text_on : (b0 b1 b2 target : List ℕ) (es rest : List Entry) (x : Entry) (js ks : Joins) → b1 ≡ b0 ++ blocks (joined (joins_below x.tick js)) → b2 ≡ b1 ++ (1 ∷ record_bytes (logged x)) → es ≡ x ∷ rest
    → ks ≡ joins_from x.tick js → Apart es js → b0 ++ blocks (in_order es js) ≡ target → b2 ++ blocks (in_order rest ks) ≡ target
text_on b0 b1 b2 target es rest x js ks e1 e2 is more apart h =
    let past : Joins = joins_past x.tick js in
    let same : ks ≡ past = more ∙ from_is_past x.tick js (let a : Apart (x ∷ rest) js = subst (λ (l : List Entry). Apart l js) is apart in a.0) in
    let J : List ℕ = blocks (joined (joins_below x.tick js)) in
    let E : List ℕ = 1 ∷ record_bytes (logged x) in
    let R : List ℕ = blocks (in_order rest past) in
    let whole : J ++ (E ++ R) ≡ blocks (in_order (x ∷ rest) js) = sym (blocks_more (joined (joins_below x.tick js)) (logged x ∷ in_order rest past)) in
    ap₂ (λ (l : List ℕ) (k : Joins). l ++ blocks (in_order rest k)) (e2 ∙ ap (λ (l : List ℕ). l ++ E) e1) same
    ∙ (append_assoc (b0 ++ J) E R ∙ (append_assoc b0 J (E ++ R) ∙ (ap (λ (l : List ℕ). b0 ++ l) whole ∙ (ap (λ (l : List Entry). b0 ++ blocks (in_order l js)) (sym is) ∙ h))))

pub apart_on : (es rest : List Entry) (x : Entry) (js ks : Joins) → es ≡ x ∷ rest → ks ≡ joins_from x.tick js → Apart es js → Apart rest ks
apart_on es rest x js ks is more apart =
    let a : Apart (x ∷ rest) js = subst (λ (l : List Entry). Apart l js) is apart in
    subst (Apart rest) (sym more) (apart_in (λ (t : ℕ). nat_le x.tick t) rest js a.1)

pub rise_from : (end : ℕ) (js ks : Joins) → ks ≡ joins_from end js → JoinsRise 0 js → JoinsRise 0 ks
rise_from end js ks more r = subst (JoinsRise 0) (sym more) (rise_in (λ (t : ℕ). nat_le end t) 0 0 js r (λ t e l. l))

pub rise_rest : (cut : ℕ) (js ks : Joins) → ks ≡ joins_past cut js → JoinsRise 0 js → JoinsRise 0 ks
rise_rest cut js ks more r = subst (JoinsRise 0) (sym more) (rise_in (λ (t : ℕ). nat_lt cut t) 0 0 js r (λ t e l. l))

pub apart_rest : (cut : ℕ) (es : List Entry) (js ks : Joins) → ks ≡ joins_past cut js → Apart es js → Apart es ks
apart_rest cut es js ks more a = subst (Apart es) (sym more) (apart_in (λ (t : ℕ). nat_lt cut t) es js a)

pub top_on : (top target : ℕ) (es rest : List Entry) (x : Entry) → es ≡ x ∷ rest → last_event top es ≡ target → last_event x.tick rest ≡ target
top_on top target es rest x is h = ap (last_event top) (sym is) ∙ h

-- behind the last event all joins are below any tick past the last one
all_below : (end low : ℕ) (js : Joins) → MAX_JOIN_TICK < end → JoinsRise low js → joins_below end js ≡ js
all_below end low [] m r = refl
all_below end low (j ∷ js) m r = rw (lt-ltb j.tick end (omega (arith, m, r.1))) (ap (λ (l : Joins). j ∷ l) (all_below end j.tick js m r.3))

pub text_ends : (old new target : List ℕ) (end : ℕ) (es : List Entry) (js : Joins) → new ≡ old ++ blocks (joined (joins_below end js)) → es ≡ [] → MAX_JOIN_TICK < end → JoinsRise 0 js
    → old ++ blocks (in_order es js) ≡ target → new ≡ target
text_ends old new target end es js e is past r h =
    e ∙ (ap (λ (l : Joins). old ++ blocks (joined l)) (all_below end 0 js past r) ∙ (ap (λ (l : List Entry). old ++ blocks (in_order l js)) (sym is) ∙ h))

pub top_ends : (top target : ℕ) (es : List Entry) → es ≡ [] → last_event top es ≡ target → top ≡ target
top_ends top target es is h = ap (last_event top) (sym is) ∙ h

-- A base

pub base_join_on : (old new target : List ℕ) (js rest : Joins) (x : Join) → new ≡ old ++ (to_be_bytes w16 x.subscriber ++ to_be_bytes w64 x.tick) → js ≡ x ∷ rest → old ++ joins_bytes js ≡ target → new ++ joins_bytes rest ≡ target
base_join_on old new target js rest x e is h =
    let S : List ℕ = to_be_bytes w16 x.subscriber in
    let T : List ℕ = to_be_bytes w64 x.tick in
    ap (λ (l : List ℕ). l ++ joins_bytes rest) e ∙ (append_assoc old (S ++ T) (joins_bytes rest) ∙ (ap (λ (l : List ℕ). old ++ l) (append_assoc S T (joins_bytes rest)) ∙ (ap (λ (l : Joins). old ++ joins_bytes l) (sym is) ∙ h)))

pub base_put : (old b1 b2 : List ℕ) (g last cut count : ℕ) (js : Joins) → b1 ≡ old ++ (to_be_bytes w64 g ++ (to_be_bytes w64 last ++ (to_be_bytes w64 cut ++ to_be_bytes w16 count))) → count ≡ length js → b2 ≡ b1 ++ joins_bytes js
    → b2 ≡ old ++ base_bytes (based g last cut js)
base_put old b1 b2 g last cut count js e1 is e2 =
    let G : List ℕ = to_be_bytes w64 g in
    let L : List ℕ = to_be_bytes w64 last in
    let C : List ℕ = to_be_bytes w64 cut in
    let N : List ℕ = to_be_bytes w16 (length js) in
    let J : List ℕ = joins_bytes js in
    let split : (G ++ (L ++ (C ++ N))) ++ J ≡ G ++ (L ++ (C ++ (N ++ J))) =
    append_assoc G (L ++ (C ++ N)) J ∙ ap (λ (l : List ℕ). G ++ l) (append_assoc L (C ++ N) J ∙ ap (λ (l : List ℕ). L ++ l) (append_assoc C N J)) in
    e2 ∙ (ap (λ (l : List ℕ). l ++ J) (e1 ∙ ap (λ (n : ℕ). old ++ (G ++ (L ++ (C ++ to_be_bytes w16 n)))) is) ∙ (append_assoc old (G ++ (L ++ (C ++ N))) J ∙ ap (λ (l : List ℕ). old ++ l) split))

-- The body

pub body_put : (b0 b1 b2 b3 : List ℕ) (g from cut event top last : ℕ) (f : Footing) (before past : Joins) (all : List Entry) → last ≡ f.state.last - (length all - from) → b0 ≡ [] → before ≡ joins_upto cut f.joins → past ≡ joins_past cut f.joins
    → b1 ≡ b0 ++ base_bytes (based g last cut before) → b2 ≡ b1 ++ blocks (in_order (drop from all) past) → event ≡ last_event cut (drop from all) → top ≡ max event (last_join_tick f.joins)
    → b3 ≡ b2 ++ (blocks (marked top f.state.settled) ++ 0 ∷ []) → b3 ≡ body_of (held_by (stands_after f (Cut cut)) (drop from all)) g
unfolding body_of
body_put b0 b1 b2 b3 g from cut event top last f before past all lasts e0 bs ps e1 e2 events tops e3 =
    let es : List Entry = drop from all in
    let s : LogState = held_by (stands_after f (Cut cut)) es in
    let rs : List Record = in_order es (joins_past cut f.joins) in
    let greatest : top ≡ greatest_tick cut es f.joins = tops ∙ ap (λ (k : ℕ). max k (last_join_tick f.joins)) events in
    let mark : List ℕ = blocks (marked (greatest_tick cut es f.joins) f.state.settled) in
    let base : List ℕ = base_bytes (base_of s g) in
    let same : last ≡ f.state.last - length es = lasts ∙ ap (λ (k : ℕ). f.state.last - k) (sym (length-drop from all)) in
    let first : b1 ≡ base = e1 ∙ (ap (λ (l : List ℕ). l ++ base_bytes (based g last cut before)) e0 ∙ ap₂ (λ (k : ℕ) (l : Joins). base_bytes (based g k cut l)) same bs) in
    let second : b2 ≡ base ++ blocks rs = e2 ∙ ap₂ (λ (l : List ℕ) (k : Joins). l ++ blocks (in_order es k)) first ps in
    let third : b3 ≡ (base ++ blocks rs) ++ (mark ++ 0 ∷ []) = e3 ∙ ap₂ (λ (l : List ℕ) (k : ℕ). l ++ (blocks (marked k f.state.settled) ++ 0 ∷ [])) second greatest in
    third
    ∙ (append_assoc base (blocks rs) (mark ++ 0 ∷ [])
    ∙ ap (λ (l : List ℕ). base ++ l) (sym (append_assoc (blocks rs) mark (0 ∷ [])) ∙ ap (λ (l : List ℕ). l ++ 0 ∷ []) (sym (blocks_more rs (marked (greatest_tick cut es f.joins) f.state.settled)))))

-- The first entry past a tick

pub rise_next : (es rest : List Entry) (x : Entry) → es ≡ x ∷ rest → EntriesRise 0 es → EntriesRise 0 rest
rise_next es rest x is r = rise_drop 0 (x ∷ rest) (subst (EntriesRise 0) is r)

pub cut_next : (tick : ℕ) (es rest target : List Entry) (x : Entry) → es ≡ x ∷ rest → x.tick ≤ tick → filter (λ (e : Entry). nat_lt tick e.tick) es ≡ target
    → filter (λ (e : Entry). nat_lt tick e.tick) rest ≡ target
cut_next tick es rest target x is low h =
    let past : nat_lt tick x.tick ≡ false = le-ltb tick x.tick low in
    sym (rw past refl) ∙ (ap (λ (l : List Entry). filter (λ (e : Entry). nat_lt tick e.tick) l) (sym is) ∙ h)

pub cut_ends : (tick : ℕ) (es rest target : List Entry) (x : Entry) → es ≡ x ∷ rest → tick < x.tick → EntriesRise 0 es → filter (λ (e : Entry). nat_lt tick e.tick) es ≡ target → es ≡ target
cut_ends tick es rest target x is high r h =
    let first : EntriesRise 0 (x ∷ rest) = subst (EntriesRise 0) is r in
    let all : filter (λ (e : Entry). nat_lt tick e.tick) (x ∷ rest) ≡ x ∷ rest = none_cut tick 0 (x ∷ rest) first (lt-leb x.tick tick high) in
    is ∙ (sym all ∙ (ap (λ (l : List Entry). filter (λ (e : Entry). nat_lt tick e.tick) l) (sym is) ∙ h))
