-- What a lane reads as stands in it: a base, and each record that is read, up to the closed gate.
use Rattle.std.proofs.Common.{◌≡◌, ◌≢◌, ◌<◌, ◌≤◌, ◌+◌, ◌-◌, ◌^◌, ◌⊎◌, inl, inr, ℕ, zero, suc, Bool, true, false, ◌==◌, ◌&&◌, not, nat_le, nat_lt, if◌then◌else◌, List, [], ◌∷◌, ◌++◌, length, take, drop, get_or, Result, Ok, Err, refl, ap, sym, ◌∙◌, subst, arith, append_assoc, append-nil, length-take, eqb-true}
use Rattle.std.proofs.lemmas.Bool.{leb-true, ltb-true, ltb-false}
use Rattle.std.proofs.lemmas.List.{take_at, take-append-drop, drop_more}
use Rattle.std.proofs.lemmas.Nat.{be_bytes_2}
use Rattle.std.specs.Int.{Width, from_be_bytes, to_be_bytes, w16, w32, w64}
use Rattle.gr_event.specs.declared.event.Event.{Event as EventPairs}
use Rattle.gr_event.specs.declared.event.EventFault.{EventFault}
use Rattle.gr_event.specs.Event.{event_bytes}
use Rattle.gr_event.specs.Decode.{event_decoded}
use Rattle.gr_event.specs.Limits.{IsEvent}
use Rattle.gr_event.specs.declared.limits.TheConstants.{MAX_EVENT_BYTES, MAX_JOINS}
use Rattle.gr_event.specs.Joins.{Joins}
use Rattle.gr_event.specs.declared.join.Join.{Join as OneJoin}
use Rattle.gr_event.proofs.Told.{only_its_bytes}
use Rattle.gr_publog.specs.declared.record.Record.{Record}
use Rattle.gr_publog.specs.declared.record.Record.TheVariants.{Event, Mark, Cut, Join}
use Rattle.gr_publog.specs.declared.record.State.{State}
use Rattle.gr_publog.specs.declared.record.Base.{Base}
use Rattle.gr_publog.specs.declared.head.Standing.{Standing}
use Rattle.gr_publog.specs.declared.head.Standing.TheVariants.{Shut, Old, New}
use Rattle.gr_publog.specs.State.{LogState, Footing, empty_state, footing, after_record, state_from, may_settle, may_cut, is_new, may_enter, may_note, IsSound, Follow, AreHeld, max_tick}
use Rattle.gr_publog.specs.Text.{◌>>=◌, AreBytes, IsBase, WasRead, SpellsWhatIsRead, record_bytes, blocks, glog, old_stamp, is_generation, joins_bytes, base_bytes, front_of, begun, based, may_begin, joins_in, header_fault, is_open, generation_in, head_in, standing_of, field_in, number_in, event_of, event_in, logged_in, mark_in, cut_in, join_in, record_in, records_in, base_in, text_in}
use Rattle.gr_publog.proofs.Bytes.{bytes_before, bytes_behind, bytes_from, eight_fits, two_fits, spells_eight, spells_four}
use Rattle.gr_publog.proofs.Entering.{held_first, held_more, may_stand_first}
use Rattle.gr_publog.proofs.Events.{event_limits}
use Rattle.gr_publog.proofs.Reading.{spelled_event}

-- Steps of a reading that succeeded

-- each step succeeded
bind_told : {A B : Type 0} (r : Result A ℕ) (f : A → Result B ℕ) (y : B) → (r >>= f) ≡ Ok y → (x : A) × (r ≡ Ok x) × (f x ≡ Ok y)
bind_told (Ok x) f y h = (x, refl, h)
bind_told (Err e) f y h = absurd (cc)

-- a test before it held
then_told : {A : Type 0} (b : Bool) (at : ℕ) (r : Result A ℕ) (y : A) → (if b then r else Err at) ≡ Ok y → (b ≡ true) × (r ≡ Ok y)
then_told true at r y h = (refl, h)
then_told false at r y h = absurd (cc)

-- one of two succeeded
either_told : {A : Type 0} (b : Bool) (r s : Result A ℕ) (y : A) → (if b then r else s) ≡ Ok y → ((b ≡ true) × (r ≡ Ok y)) ⊎ ((b ≡ false) × (s ≡ Ok y))
either_told true r s y h = inl (refl, h)
either_told false r s y h = inr (refl, h)

-- Fields

-- So many bytes, and others behind them.
record IsField (n : ℕ) (rest field left : List ℕ) : Type 0 where
  whole : rest ≡ field ++ left
  len : length field ≡ n
  each : AreBytes field
  behind : AreBytes left

field_told : (total n : ℕ) (rest : List ℕ) (x : List ℕ × List ℕ) → AreBytes rest → field_in total n rest ≡ Ok x → IsField n rest x.0 x.1
field_told total n rest x fits h =
    let one = then_told (nat_le n (length rest)) total (Ok (take n rest, drop n rest)) x h in
    let is : (take n rest, drop n rest) ≡ x = let e = one.1 in cc in
    let inside : n ≤ length rest = leb-true n (length rest) one.0 in
    let split : rest ≡ take n rest ++ drop n rest = sym (take-append-drop n rest) in
    subst (λ (y : List ℕ × List ℕ). IsField n rest y.0 y.1) is (record {
      whole = split;
      len = length-take n rest ∙ omega (arith, inside);
      each = bytes_before rest (take n rest) (drop n rest) fits split;
      behind = bytes_from n rest fits;
    })

-- A number of so many bytes that passes a test.
record IsNumber (n : ℕ) (w : Width) (passes : ℕ → Bool) (rest : List ℕ) (x : ℕ) (left : List ℕ) : Type 0 where
  field : List ℕ
  stands : IsField n rest field left
  value : x ≡ from_be_bytes w field
  passed : passes x ≡ true

number_told : (total n : ℕ) (w : Width) (passes : ℕ → Bool) (rest : List ℕ) (x : ℕ × List ℕ) → AreBytes rest → number_in total n w passes rest ≡ Ok x
    → IsNumber n w passes rest x.0 x.1
number_told total n w passes rest x fits h =
    let one = bind_told (field_in total n rest) _ x h in
    let field = one.0.0 in
    let left = one.0.1 in
    let two = then_told (passes (from_be_bytes w field)) (total - length rest) (Ok (from_be_bytes w field, left)) x one.2 in
    let is : (from_be_bytes w field, left) ≡ x = let e = two.1 in cc in
    subst (λ (y : ℕ × List ℕ). IsNumber n w passes rest y.0 y.1) is
    (record { field = field; stands = field_told total n rest one.0 fits one.1; value = refl; passed = two.0 })

-- eight bytes are spelled by their number
eight_spelled : (passes : ℕ → Bool) (rest : List ℕ) (x : ℕ) (left : List ℕ) → IsNumber 8 w64 passes rest x left → rest ≡ to_be_bytes w64 x ++ left
eight_spelled passes rest x left n =
    n.stands.whole ∙ ap (λ (l : List ℕ). l ++ left) (sym (spells_eight x n.field n.value n.stands.len n.stands.each))

four_spelled : (passes : ℕ → Bool) (rest : List ℕ) (x : ℕ) (left : List ℕ) → IsNumber 4 w32 passes rest x left → rest ≡ to_be_bytes w32 x ++ left
four_spelled passes rest x left n =
    n.stands.whole ∙ ap (λ (l : List ℕ). l ++ left) (sym (spells_four x n.field n.value n.stands.len n.stands.each))

two_spelled : (passes : ℕ → Bool) (rest : List ℕ) (x : ℕ) (left : List ℕ) → IsNumber 2 w16 passes rest x left → rest ≡ to_be_bytes w16 x ++ left
two_spelled passes rest x left n =
    n.stands.whole ∙ ap (λ (l : List ℕ). l ++ left) (sym (be_bytes_2 n.field x n.stands.len n.stands.each n.value))

two_in : (passes : ℕ → Bool) (rest : List ℕ) (x : ℕ) (left : List ℕ) → IsNumber 2 w16 passes rest x left → x < 2 ^ 16
two_in passes rest x left n = rw n.value (two_fits n.field n.stands.each)

number_fits : (passes : ℕ → Bool) (rest : List ℕ) (x : ℕ) (left : List ℕ) → IsNumber 8 w64 passes rest x left → x < 2 ^ 64
number_fits passes rest x left n = rw n.value (eight_fits n.field n.stands.each)

-- an event that stood there decodes
decoded_told : (at : ℕ) (r : Result EventPairs EventFault) (e : EventPairs) → event_of at r ≡ Ok e → r ≡ Ok e
decoded_told at (Ok x) e h = ap (λ y. Ok y) (let is : x ≡ e = cc in is)
decoded_told at (Err f) e h = absurd (cc)

-- An event of so many bytes.
record IsEventField (n : ℕ) (rest : List ℕ) (e : EventPairs) (left : List ℕ) : Type 0 where
  stands : IsField n rest (event_bytes e) left
  event : IsEvent e

event_told : (total n : ℕ) (rest : List ℕ) (x : EventPairs × List ℕ) → AreBytes rest → event_in total n rest ≡ Ok x → IsEventField n rest x.0 x.1
unfolding event_in
event_told total n rest x fits h =
    let one = bind_told (field_in total n rest) _ x h in
    let bytes = one.0.0 in
    let left = one.0.1 in
    let field = field_told total n rest one.0 fits one.1 in
    let two = bind_told (event_of (total - length rest) (event_decoded bytes)) _ x one.2 in
    let e = two.0 in
    let decoded = decoded_told (total - length rest) (event_decoded bytes) e two.1 in
    let spelled : bytes ≡ event_bytes e = only_its_bytes bytes e field.each decoded in
    let is : (e, left) ≡ x = let k = two.2 in cc in
    subst (λ (y : EventPairs × List ℕ). IsEventField n rest y.0 y.1) is
    (record { stands = subst (λ (l : List ℕ). IsField n rest l left) spelled field; event = event_limits bytes e field.each decoded })

-- Records

-- A record that may follow stands in front of what is left.
pub record IsRead (s : Footing) (rest : List ℕ) (r : Record) (left : List ℕ) : Type 0 where
  pub spelled : rest ≡ record_bytes r ++ left
  pub may : may_note s r ≡ true
  pub sound : IsSound r
  pub behind : AreBytes left

abbrev pub Read : Footing → List ℕ → Record × List ℕ → Type 0
Read s rest x = IsRead s rest x.0 x.1

logged_told : (total : ℕ) (f : Footing) (rest : List ℕ) (x : Record × List ℕ) → AreBytes rest → logged_in total f.state rest ≡ Ok x → Read f (1 ∷ rest) x
unfolding logged_in
logged_told total f rest x fits h =
    let s : State = f.state in
    let next = λ (n : ℕ). n == s.last + 1 in
    let short = λ (n : ℕ). nat_le n MAX_EVENT_BYTES in
    let one = bind_told (number_in total 8 w64 (may_settle s) rest) _ x h in
    let tick = number_told total 8 w64 (may_settle s) rest one.0 fits one.1 in
    let two = bind_told (number_in total 8 w64 next one.0.1) _ x one.2 in
    let number = number_told total 8 w64 next one.0.1 two.0 tick.stands.behind two.1 in
    let three = bind_told (number_in total 4 w32 short two.0.1) _ x two.2 in
    let size = number_told total 4 w32 short two.0.1 three.0 number.stands.behind three.1 in
    let four = bind_told (event_in total three.0.0 three.0.1) _ x three.2 in
    let event = event_told total three.0.0 three.0.1 four.0 size.stands.behind four.1 in
    let is : (Event one.0.0 two.0.0 four.0.0, four.0.1) ≡ x = let e = four.2 in cc in
    subst (Read f (1 ∷ rest)) is (record {
      spelled = spelled_event one.0.0 two.0.0 three.0.0 four.0.0 rest one.0.1 two.0.1 three.0.1 four.0.1 (eight_spelled _ _ _ _ tick) (eight_spelled _ _ _ _ number)
          (four_spelled _ _ _ _ size) event.stands.whole event.stands.len;
      may = rw (tick.passed, number.passed) refl;
      sound = (number_fits _ _ _ _ number, event.event);
      behind = event.stands.behind;
    })

mark_told : (total : ℕ) (f : Footing) (rest : List ℕ) (x : Record × List ℕ) → AreBytes rest → mark_in total f.state rest ≡ Ok x → Read f (2 ∷ rest) x
unfolding mark_in
mark_told total f rest x fits h =
    let s : State = f.state in
    let one = bind_told (number_in total 8 w64 (may_settle s) rest) _ x h in
    let tick = number_told total 8 w64 (may_settle s) rest one.0 fits one.1 in
    let is : (Mark one.0.0, one.0.1) ≡ x = let e = one.2 in cc in
    subst (Read f (2 ∷ rest)) is
    (record { spelled = ap (λ (l : List ℕ). 2 ∷ l) (eight_spelled _ _ _ _ tick); may = tick.passed; sound = tt; behind = tick.stands.behind })

cut_told : (total : ℕ) (f : Footing) (rest : List ℕ) (x : Record × List ℕ) → AreBytes rest → cut_in total f.state rest ≡ Ok x → Read f (3 ∷ rest) x
unfolding cut_in
cut_told total f rest x fits h =
    let s : State = f.state in
    let one = bind_told (number_in total 8 w64 (may_cut s) rest) _ x h in
    let tick = number_told total 8 w64 (may_cut s) rest one.0 fits one.1 in
    let is : (Cut one.0.0, one.0.1) ≡ x = let e = one.2 in cc in
    subst (Read f (3 ∷ rest)) is
    (record { spelled = ap (λ (l : List ℕ). 3 ∷ l) (eight_spelled _ _ _ _ tick); may = tick.passed; sound = tt; behind = tick.stands.behind })

join_told : (total : ℕ) (f : Footing) (rest : List ℕ) (x : Record × List ℕ) → AreBytes rest → join_in total f rest ≡ Ok x → Read f (4 ∷ rest) x
unfolding join_in
join_told total f rest x fits h =
    let one = bind_told (number_in total 8 w64 (may_settle f.state) rest) _ x h in
    let tick = number_told total 8 w64 (may_settle f.state) rest one.0 fits one.1 in
    let two = bind_told (number_in total 2 w16 (may_enter f) one.0.1) _ x one.2 in
    let who = number_told total 2 w16 (may_enter f) one.0.1 two.0 tick.stands.behind two.1 in
    let is : (Join one.0.0 two.0.0, two.0.1) ≡ x = let e = two.2 in cc in
    let T = to_be_bytes w64 one.0.0 in
    let S = to_be_bytes w16 two.0.0 in
    let whole : rest ≡ (T ++ S) ++ two.0.1 =
    eight_spelled _ _ _ _ tick ∙ ap (λ (l : List ℕ). T ++ l) (two_spelled _ _ _ _ who) ∙ sym (append_assoc T S two.0.1) in
    subst (Read f (4 ∷ rest)) is
    (record { spelled = ap (λ (l : List ℕ). 4 ∷ l) whole; may = rw (tick.passed, who.passed) refl; sound = two_in _ _ _ _ who; behind = who.stands.behind })

pub record_told : (total : ℕ) (f : Footing) (rest : List ℕ) (x : Record × List ℕ) → AreBytes rest → record_in total f rest ≡ Ok x → Read f rest x
unfolding record_in
record_told total f [] x fits h = absurd (cc)
record_told total f (kind ∷ rest) x fits h =
    let behind = bytes_behind (kind ∷ rest) (kind ∷ []) rest fits refl in
    let as_kind = λ (k : ℕ) (b : (kind == k) ≡ true) (r : Read f (k ∷ rest) x). subst (λ (j : ℕ). Read f (j ∷ rest) x) (sym (eqb-true kind k b)) r in
    elim (either_told (kind == 1) (logged_in total f.state rest) _ x h) [
      | inl e ↦ as_kind 1 e.0 (logged_told total f rest x behind e.1)
      | inr e ↦ elim (either_told (kind == 2) (mark_in total f.state rest) _ x e.1) [
        | inl m ↦ as_kind 2 m.0 (mark_told total f rest x behind m.1)
        | inr m ↦ elim (either_told (kind == 3) (cut_in total f.state rest) _ x m.1) [
          | inl c ↦ as_kind 3 c.0 (cut_told total f rest x behind c.1)
          | inr c ↦ elim (either_told (kind == 4) (join_in total f rest) _ x c.1) [
            | inl j ↦ as_kind 4 j.0 (join_told total f rest x behind j.1)
            | inr j ↦ absurd (let k = j.1 in cc)
          ]
        ]
      ]
    ]

-- Lanes

-- a gate that is not open is closed
not_open : (gate : ℕ) → (gate == 1) ≡ false → gate ≢ 1
not_open gate h = λ e. let k : (gate == 1) ≡ true = ap (λ (g : ℕ). g == 1) e in cc

-- Records that stand in front of a closed gate, and what they leave.
record ReadOn (s : LogState) (rest : List ℕ) (x : LogState × List ℕ) : Type 0 where
  records : List Record
  gate : ℕ
  tail : List ℕ
  closed : gate ≢ 1
  whole : rest ≡ blocks records ++ gate ∷ tail
  follow : Follow s records
  is : (state_from s records, gate ∷ tail) ≡ x

-- one more in front
read_more : (s : LogState) (gate : ℕ) (rest left : List ℕ) (r : Record) (x : LogState × List ℕ) → gate ≡ 1 → IsRead (footing s) rest r left → ReadOn (after_record s r) left x → ReadOn s (gate ∷ rest) x
read_more s gate rest left r x opened one others = record {
  records = r ∷ others.records;
  gate = others.gate;
  tail = others.tail;
  closed = others.closed;
  whole = ap (λ (g : ℕ). g ∷ rest) opened ∙ ap (λ (l : List ℕ). 1 ∷ l) (one.spelled ∙ ap (λ (l : List ℕ). record_bytes r ++ l) others.whole ∙ sym (append_assoc (record_bytes r) (blocks others.records) (others.gate ∷ others.tail)));
  follow = (one.may, one.sound, others.follow);
  is = others.is;
}

records_told : (n total : ℕ) (s : LogState) (rest : List ℕ) (x : LogState × List ℕ) → AreBytes rest → records_in n total s rest ≡ Ok x → ReadOn s rest x
unfolding records_in
records_told zero total s rest x fits h = absurd (cc)
records_told (suc n) total s [] x fits h = absurd (cc)
records_told (suc n) total s (gate ∷ rest) x fits h =
    elim (gate == 1) as (λ b. (gate == 1) ≡ b → ReadOn s (gate ∷ rest) x) [
      | true ↦ λ e. let read : (record_in total (footing s) rest >>= λ y. records_in n total (after_record s y.0) y.1) ≡ Ok x = rw (records_in, e) at h in
          let one = bind_told (record_in total (footing s) rest) _ x read in
          let first = record_told total (footing s) rest one.0 (bytes_behind (gate ∷ rest) (gate ∷ []) rest fits refl) one.1 in
          let others = records_told n total (after_record s one.0.0) one.0.1 x first.behind one.2 in
          read_more s gate rest one.0.1 one.0.0 x (eqb-true gate 1 e) first others
      | false ↦ λ e. let none : ◌≡◌ {A = Result (LogState × List ℕ) ℕ} (Ok (s, gate ∷ rest)) (Ok x) = rw (records_in, e) at h in
          let is : (s, gate ∷ rest) ≡ x = cc in
          record { records = []; gate = gate; tail = rest; closed = not_open gate e; whole = refl; follow = tt; is = is }
    ] refl

-- Bases

both : (a b : Bool) → (a && b) ≡ true → (a ≡ true) × (b ≡ true)
both true b h = (refl, h)
both false b h = absurd (cc h)

ok_is : {A : Type 0} (x y : A) → ◌≡◌ {A = Result A ℕ} (Ok x) (Ok y) → x ≡ y
ok_is x y h = cc

-- Joins in front of what is left, behind others.
record AreJoinsRead (late : List ℕ) (cut count : ℕ) (front : Joins) (rest : List ℕ) (x : Joins × List ℕ) : Type 0 where
  js : Joins
  whole : front ++ js ≡ x.0
  count_is : length js ≡ count
  spelled : rest ≡ joins_bytes js ++ x.1
  held : AreHeld late x.0 cut
  behind : AreBytes x.1

joins_told : (n total : ℕ) (late : List ℕ) (cut : ℕ) (front : Joins) (rest : List ℕ) (x : Joins × List ℕ) → cut ≤ max_tick → AreHeld late front cut → AreBytes rest → joins_in n total late cut front rest ≡ Ok x
    → AreJoinsRead late cut n front rest x
unfolding joins_in
joins_told zero total late cut front rest x most held fits h =
    let is : (front, rest) ≡ x = ok_is (front, rest) x h in
    record {
      js = [];
      whole = append-nil front ∙ ap (λ (y : Joins × List ℕ). y.0) is;
      count_is = refl;
      spelled = ap (λ (y : Joins × List ℕ). y.1) is;
      held = subst (λ (y : Joins × List ℕ). AreHeld late y.0 cut) is held;
      behind = subst (λ (y : Joins × List ℕ). AreBytes y.1) is fits;
    }
joins_told (suc n) total late cut front rest x most held fits h =
    let read : (number_in total 2 w16 (is_new late front) rest >>= λ y. number_in total 8 w64 (may_begin front cut) y.1 >>= λ t.
    joins_in n total late cut (front ++ record { subscriber = y.0; tick = t.0 } ∷ []) t.1) ≡ Ok x = h in
    let one = bind_told (number_in total 2 w16 (is_new late front) rest) _ x read in
    let who = number_told total 2 w16 (is_new late front) rest one.0 fits one.1 in
    let two = bind_told (number_in total 8 w64 (may_begin front cut) one.0.1) _ x one.2 in
    let tick = number_told total 8 w64 (may_begin front cut) one.0.1 two.0 who.stands.behind two.1 in
    let j : OneJoin = record { subscriber = one.0.0; tick = two.0.0 } in
    let may = may_stand_first late front j cut held who.passed tick.passed most in
    let upto : two.0.0 ≤ cut = leb-true two.0.0 cut (both (nat_lt _ two.0.0) (nat_le two.0.0 cut) tick.passed).1 in
    let more = held_more late front j cut cut held who.passed may (two_in _ _ _ _ who) (omega arith) upto in
    let others = joins_told n total late cut (front ++ j ∷ []) two.0.1 x most more tick.stands.behind two.2 in
    let X = to_be_bytes w16 one.0.0 in
    let T = to_be_bytes w64 two.0.0 in
    record {
      js = j ∷ others.js;
      whole = sym (append_assoc front (j ∷ []) others.js) ∙ others.whole;
      count_is = ap suc others.count_is;
      spelled = two_spelled _ _ _ _ who ∙ ap (λ (l : List ℕ). X ++ l) (eight_spelled _ _ _ _ tick ∙ ap (λ (l : List ℕ). T ++ l) others.spelled ∙ sym (append_assoc T (joins_bytes others.js) x.1))
          ∙ sym (append_assoc X (T ++ joins_bytes others.js) x.1);
      held = others.held;
      behind = others.behind;
    }

-- A base in front of what is left.
pub record IsBaseRead (late rest : List ℕ) (b : Base) (left : List ℕ) : Type 0 where
  pub spelled : rest ≡ base_bytes b ++ left
  pub base : IsBase late b
  pub generation : from_be_bytes w64 (take 8 rest) ≡ b.generation
  pub behind : AreBytes left

base_split : (g l c n : ℕ) (js : Joins) (rest r1 r2 r3 r4 left : List ℕ) → rest ≡ to_be_bytes w64 g ++ r1 → r1 ≡ to_be_bytes w64 l ++ r2 → r2 ≡ to_be_bytes w64 c ++ r3 → r3 ≡ to_be_bytes w16 n ++ r4
    → length js ≡ n → r4 ≡ joins_bytes js ++ left → rest ≡ base_bytes (based g l c js) ++ left
base_split g l c n js rest r1 r2 r3 r4 left e1 e2 e3 e4 count e5 =
    let G = to_be_bytes w64 g in
    let L = to_be_bytes w64 l in
    let C = to_be_bytes w64 c in
    let N = to_be_bytes w16 (length js) in
    let J = joins_bytes js in
    let split : (G ++ (L ++ (C ++ (N ++ J)))) ++ left ≡ G ++ (L ++ (C ++ (N ++ (J ++ left)))) =
    append_assoc G (L ++ (C ++ (N ++ J))) left ∙ ap (λ (x : List ℕ). G ++ x) (append_assoc L (C ++ (N ++ J)) left
    ∙ ap (λ (x : List ℕ). L ++ x) (append_assoc C (N ++ J) left ∙ ap (λ (x : List ℕ). C ++ x) (append_assoc N J left))) in
    e1 ∙ ap (λ (x : List ℕ). G ++ x) (e2 ∙ ap (λ (x : List ℕ). L ++ x) (e3 ∙ ap (λ (x : List ℕ). C ++ x)
    (e4 ∙ ap (λ (k : ℕ). to_be_bytes w16 k ++ r4) (sym count) ∙ ap (λ (x : List ℕ). N ++ x) e5))) ∙ sym split

pub base_told : (total : ℕ) (late rest : List ℕ) (x : Base × List ℕ) → length late ≤ MAX_JOINS → AreBytes rest → base_in total late rest ≡ Ok x → IsBaseRead late rest x.0 x.1
unfolding base_in
base_told total late rest x few fits h =
    let top = λ (n : ℕ). nat_le n max_tick in
    let some = λ (n : ℕ). nat_le n MAX_JOINS in
    let one = bind_told (number_in total 8 w64 is_generation rest) _ x h in
    let generation = number_told total 8 w64 is_generation rest one.0 fits one.1 in
    let two = bind_told (number_in total 8 w64 top one.0.1) _ x one.2 in
    let last = number_told total 8 w64 top one.0.1 two.0 generation.stands.behind two.1 in
    let within = λ (n : ℕ). nat_le two.0.0 n && nat_le n max_tick in
    let three = bind_told (number_in total 8 w64 within two.0.1) _ x two.2 in
    let cut = number_told total 8 w64 within two.0.1 three.0 last.stands.behind three.1 in
    let four = bind_told (number_in total 2 w16 some three.0.1) _ x three.2 in
    let count = number_told total 2 w16 some three.0.1 four.0 cut.stands.behind four.1 in
    let five = bind_told (joins_in four.0.0 total late three.0.0 [] four.0.1) _ x four.2 in
    let g = both (nat_le 1 one.0.0) (nat_le one.0.0 max_tick) generation.passed in
    let c = both (nat_le two.0.0 three.0.0) (nat_le three.0.0 max_tick) cut.passed in
    let most : three.0.0 ≤ max_tick = leb-true three.0.0 max_tick c.1 in
    let joins = joins_told four.0.0 total late three.0.0 [] four.0.1 five.0 most (held_first late three.0.0 few) count.stands.behind five.1 in
    let is : (based one.0.0 two.0.0 three.0.0 five.0.0, five.0.1) ≡ x = ok_is (based one.0.0 two.0.0 three.0.0 five.0.0, five.0.1) x five.2 in
    subst (λ (y : Base × List ℕ). IsBaseRead late rest y.0 y.1) is (record {
      spelled = base_split one.0.0 two.0.0 three.0.0 four.0.0 five.0.0 rest one.0.1 two.0.1 three.0.1 four.0.1 five.0.1 (eight_spelled _ _ _ _ generation) (eight_spelled _ _ _ _ last) (eight_spelled _ _ _ _ cut)
          (two_spelled _ _ _ _ count) (ap (λ (l : Joins). length l) (sym joins.whole) ∙ joins.count_is) (joins.spelled ∙ ap (λ (l : Joins). joins_bytes l ++ five.0.1) joins.whole);
      base = record { low = leb-true 1 one.0.0 g.0; high = leb-true one.0.0 max_tick g.1; last = leb-true two.0.0 three.0.0 c.0; cut = most; held = joins.held };
      generation = ap (from_be_bytes w64) (ap (take 8) generation.stands.whole ∙ take_at generation.field one.0.1 8 generation.stands.len) ∙ sym generation.value;
      behind = joins.behind;
    })

-- one byte more that does not differ
begins_more : (at x b : ℕ) (xs bs : List ℕ) → (header_fault (at + 1) xs bs ≡ at + 1 + length xs → bs ≡ xs ++ drop (length xs) bs)
    → header_fault at (x ∷ xs) (b ∷ bs) ≡ at + length (x ∷ xs) → b ∷ bs ≡ (x ∷ xs) ++ drop (length (x ∷ xs)) (b ∷ bs)
begins_more at x b xs bs others h = by_test (x == b) refl h
  where
    by_test : (same : Bool) → (x == b) ≡ same → (if same then header_fault (at + 1) xs bs else at) ≡ at + length (x ∷ xs) → b ∷ bs ≡ (x ∷ xs) ++ drop (length (x ∷ xs)) (b ∷ bs)
    by_test true e k =
        let place : at + 1 + length xs ≡ at + length (x ∷ xs) = omega arith in
        ap (λ (l : List ℕ). b ∷ l) (others (k ∙ sym place)) ∙ ap (λ (y : ℕ). y ∷ (xs ++ drop (length xs) bs)) (sym (eqb-true x b e))
    by_test false e k = absurd (omega (arith, k))

-- bytes that differ nowhere from a header begin with it
begins_with : (at : ℕ) (front bytes : List ℕ) → header_fault at front bytes ≡ at + length front → bytes ≡ front ++ drop (length front) bytes
begins_with at [] bytes h = refl
begins_with at (x ∷ xs) [] h = absurd (omega (arith, h))
begins_with at (x ∷ xs) (b ∷ bs) h = begins_more at x b xs bs (begins_with (at + 1) xs bs) h

-- Heads

fault_upto : (at : ℕ) (hs bs : List ℕ) → header_fault at hs bs ≤ at + length hs
fault_upto at [] bs = omega arith
fault_upto at (h ∷ hs) [] = omega arith
fault_upto at (h ∷ hs) (b ∷ bs) = go (h == b) (fault_upto (at + 1) hs bs)
  where
    go : (x : Bool) → header_fault (at + 1) hs bs ≤ at + 1 + length hs → (if x then header_fault (at + 1) hs bs else at) ≤ at + length (h ∷ hs)
    go true l = omega (arith, l)
    go false l = omega arith

-- an answer behind a test
not_told : {A : Type 0} (b : Bool) (x y : A) (r : Result A ℕ) → (if not b then Ok x else r) ≡ Ok y → ((b ≡ false) × (x ≡ y)) ⊎ ((b ≡ true) × (r ≡ Ok y))
not_told true x y r h = inr (refl, h)
not_told false x y r h = inl (refl, let e : x ≡ y = cc in e)

past_told : {A : Type 0} (b : Bool) (at : ℕ) (r : Result A ℕ) (y : A) → (if b then Err at else r) ≡ Ok y → (b ≡ false) × (r ≡ Ok y)
past_told true at r y h = absurd (cc)
past_told false at r y h = (refl, h)

-- What the head of an open lane has.
pub record IsHead (first : Bool) (total : ℕ) (bytes : List ℕ) (x : Standing) : Type 0 where
  pub long : 6 < total
  pub gate : get_or bytes 5 0 ≡ 1
  pub header : header_fault 0 glog bytes ≡ 4
  pub version : ((get_or bytes 4 0 ≡ 2) × (generation_in total bytes ≡ Ok x)) ⊎ ((get_or bytes 4 0 ≡ 1) × (first ≡ true) × (Old ≡ x))

pub head_told : (first : Bool) (total : ℕ) (bytes : List ℕ) (x : Standing) → head_in first total bytes ≡ Ok x → ((is_open total bytes ≡ false) × (Shut ≡ x)) ⊎ IsHead first total bytes x
unfolding head_in
head_told first total bytes x h =
    let fault : ℕ = header_fault 0 glog bytes in
    elim (not_told (is_open total bytes) Shut x _ h) [
      | inl e ↦ inl e
      | inr e ↦ let one = past_told (nat_lt fault 4) fault _ x e.1 in
          let up : fault ≤ 4 = fault_upto 0 glog bytes in
          let opened = both (nat_lt 6 total) (get_or bytes 5 0 == 1) e.0 in
          let is : fault ≡ 4 = omega (arith, up, ltb-false fault 4 one.0) in
          inr (record {
            long = ltb-true 6 total opened.0;
            gate = eqb-true (get_or bytes 5 0) 1 opened.1;
            header = is;
            version = elim (either_told (get_or bytes 4 0 == 2) (generation_in total bytes) _ x one.1) [
              | inl k ↦ inl (eqb-true (get_or bytes 4 0) 2 k.0, k.1)
              | inr k ↦ let two = then_told (first && (get_or bytes 4 0 == 1)) 4 (Ok Old) x k.1 in
                  inr (eqb-true (get_or bytes 4 0) 1 (both first (get_or bytes 4 0 == 1) two.0).1, (both first (get_or bytes 4 0 == 1) two.0).0, let e2 = two.1 in let i : Old ≡ x = cc in i)
            ];
          })
    ]

old_not_new : {P : Type 0} (g : ℕ) → Old ≡ New g → P
old_not_new g e = absurd (cc e)

shut_not_new : {P : Type 0} (g : ℕ) → Shut ≡ New g → P
shut_not_new g e = absurd (cc e)

shut_not_old : {P : Type 0} → Shut ≡ Old → P
shut_not_old e = absurd (cc e)

same_generation : (g h : ℕ) → ◌≡◌ {A = Result Standing ℕ} (Ok (New g)) (Ok (New h)) → g ≡ h
same_generation g h e = cc

-- the first six bytes
six_are : (total : ℕ) (bytes : List ℕ) (v : ℕ) → total ≡ length bytes → 6 < total → header_fault 0 glog bytes ≡ 4 → get_or bytes 4 0 ≡ v → bytes ≡ 71 ∷ (76 ∷ (79 ∷ (71 ∷ (v ∷ drop 5 bytes))))
six_are total bytes v is long header version =
    let four : bytes ≡ glog ++ drop 4 bytes = begins_with 0 glog bytes header in
    let fifth : drop 4 bytes ≡ get_or bytes 4 0 ∷ drop 5 bytes = drop_more bytes 4 0 (omega (arith, is, long)) in
    four ∙ ap (λ (l : List ℕ). glog ++ l) (fifth ∙ ap (λ (y : ℕ). y ∷ drop 5 bytes) version)

-- The laws

generation_told : (total : ℕ) (bytes : List ℕ) (g : ℕ) → generation_in total bytes ≡ Ok (New g) → from_be_bytes w64 (take 8 (drop 6 bytes)) ≡ g
generation_told total bytes g h =
    let n : ℕ = from_be_bytes w64 (take 8 (drop 6 bytes)) in
    let one = then_told (nat_le 14 total) total _ (New g) h in
    let two = then_told (is_generation n) 6 (Ok (New n)) (New g) one.1 in
    same_generation n g two.1

new_told : (late bytes : List ℕ) (g : ℕ) (first : Bool) (s : LogState) (left : List ℕ) → length late ≤ MAX_JOINS → AreBytes bytes → standing_of first bytes ≡ Ok (New g) → text_in late (New g) bytes ≡ Ok (s, left)
    → (b : Base) × (b.generation ≡ g) × IsBase late b × WasRead (front_of b) (begun late b) bytes s left
unfolding text_in
new_told late bytes g first s left few fits stands h =
    elim (head_told first (length bytes) bytes (New g) stands) [
      | inl e ↦ shut_not_new g e.1
      | inr d ↦ elim d.version [
        | inr k ↦ old_not_new g k.2
        | inl k ↦ let five = six_are (length bytes) bytes 2 refl d.long d.header k.0 in
            let sixth : drop 5 bytes ≡ 1 ∷ drop 6 bytes = drop_more bytes 5 0 (omega (arith, d.long)) ∙ ap (λ (y : ℕ). y ∷ drop 6 bytes) d.gate in
            let read : (base_in (length bytes) late (drop 6 bytes) >>= λ b. records_in (length bytes + 1) (length bytes) (begun late b.0) b.1) ≡ Ok (s, left) = h in
            let one = bind_told (base_in (length bytes) late (drop 6 bytes)) _ (s, left) read in
            let b = one.0.0 in
            let base = base_told (length bytes) late (drop 6 bytes) one.0 few (bytes_from 6 bytes fits) one.1 in
            let rs = records_told (length bytes + 1) (length bytes) (begun late b) one.0.1 (s, left) base.behind one.2 in
            let whole : bytes ≡ (front_of b ++ blocks rs.records) ++ rs.gate ∷ rs.tail =
            five ∙ ap (λ (l : List ℕ). 71 ∷ (76 ∷ (79 ∷ (71 ∷ (2 ∷ l))))) (sixth ∙ ap (λ (l : List ℕ). 1 ∷ l) (base.spelled ∙ ap (λ (l : List ℕ). base_bytes b ++ l) rs.whole ∙ sym (append_assoc (base_bytes b) (blocks rs.records) (rs.gate ∷ rs.tail)))) in (
              b,
              sym base.generation ∙ generation_told (length bytes) bytes g k.1,
              base.base,
              record {
                records = rs.records;
                spells = record { text = record { gate = rs.gate; tail = rs.tail; closed = rs.closed; whole = whole }; follow = rs.follow };
                state = ap (λ (y : LogState × List ℕ). y.0) rs.is;
                left_is = ap (λ (y : LogState × List ℕ). y.1) rs.is;
              },
            )
      ]
    ]

not_generation : (total : ℕ) (bytes : List ℕ) → generation_in total bytes ≡ Ok Old → ⊥
not_generation total bytes h =
    let n : ℕ = from_be_bytes w64 (take 8 (drop 6 bytes)) in
    let one = then_told (nat_le 14 total) total _ Old h in
    let two = then_told (is_generation n) 6 (Ok (New n)) Old one.1 in
    let e = two.1 in cc

old_told : (late bytes : List ℕ) (s : LogState) (left : List ℕ) → AreBytes bytes → standing_of true bytes ≡ Ok Old → text_in late Old bytes ≡ Ok (s, left) → WasRead old_stamp (empty_state late) bytes s left
unfolding text_in
old_told late bytes s left fits stands h =
    elim (head_told true (length bytes) bytes Old stands) [
      | inl e ↦ shut_not_old e.1
      | inr d ↦ elim d.version [
        | inl k ↦ absurd (not_generation (length bytes) bytes k.1)
        | inr k ↦ let five = six_are (length bytes) bytes 1 refl d.long d.header k.0 in
            let read : records_in (length bytes + 1) (length bytes) (empty_state late) (drop 5 bytes) ≡ Ok (s, left) = h in
            let rs = records_told (length bytes + 1) (length bytes) (empty_state late) (drop 5 bytes) (s, left) (bytes_from 5 bytes fits) read in
            record {
              records = rs.records;
              spells = record {
                text = record { gate = rs.gate; tail = rs.tail; closed = rs.closed; whole = five ∙ ap (λ (l : List ℕ). 71 ∷ (76 ∷ (79 ∷ (71 ∷ (1 ∷ l))))) rs.whole };
                follow = rs.follow;
              };
              state = ap (λ (y : LogState × List ℕ). y.0) rs.is;
              left_is = ap (λ (y : LogState × List ℕ). y.1) rs.is;
            }
      ]
    ]

pub spells_told : SpellsWhatIsRead
spells_told = record { new = new_told; old = old_told }
