-- What a base and records spell reads as these, whatever stands behind the closed gate.
use Rattle.std.proofs.Common.{◌≡◌, ◌≢◌, ℕ, zero, suc, ◌+◌, ◌<◌, ◌≤◌, ◌^◌, Bool, true, false, ◌==◌, nat_lt, nat_le, List, [], ◌∷◌, ◌++◌, length, drop, take, Ok, refl, ap, sym, ◌∙◌, arith, append_assoc, append-nil, length-append, subst, le-leb, lt-ltb, ◌&&◌, get_or}
use Rattle.std.proofs.lemmas.List.{take_at, drop_at}
use Rattle.std.proofs.lemmas.Bool.{leb-true, and_from}
use Rattle.std.specs.Prelude.{not, nat_eq}
use Rattle.std.specs.List.{list_any}
use Rattle.std.proofs.lemmas.Bool.Decides.{nat_tests}
use Rattle.std.proofs.lemmas.Nat.{from_be_bytes-to_be_bytes_2, from_be_bytes-to_be_bytes_4, from_be_bytes-to_be_bytes_8}
use Rattle.std.specs.Int.{Width, from_be_bytes, to_be_bytes, w16, w32, w64}
use Rattle.gr_event.specs.declared.event.Event.{Event as EventPairs}
use Rattle.gr_event.specs.declared.value.Value.{Value}
use Rattle.gr_event.specs.declared.value.Value.TheVariants.{Int, Text, Bool as Truth}
use Rattle.gr_event.specs.Event.{event_size, event_bytes, pairs_size, pairs_bytes, value_size, value_bytes}
use Rattle.gr_event.specs.Decode.{event_decoded}
use Rattle.gr_event.specs.declared.limits.TheConstants.{MAX_EVENT_BYTES, MAX_JOINS}
use Rattle.gr_event.specs.Joins.{Joins, JoinsRise, JoinOnce, has_joined, last_join_tick}
use Rattle.gr_event.proofs.Spelled.{decodes_back}
use Rattle.gr_publog.specs.declared.record.Record.{Record}
use Rattle.gr_publog.specs.declared.record.Record.TheVariants.{Event, Mark, Cut, Join}
use Rattle.gr_publog.specs.declared.record.State.{State}
use Rattle.gr_publog.specs.declared.record.Base.{Base}
use Rattle.gr_publog.specs.declared.head.Standing.TheVariants.{Old, New}
use Rattle.gr_publog.specs.State.{LogState, Footing, empty_state, footing, after_record, state_from, may_settle, may_cut, is_new, may_enter, may_note, may_follow, IsSound, Follow, JoinsUpto, AreLate, max_tick}
use Rattle.gr_publog.proofs.Entering.{once_behind, last_push}
use Rattle.gr_publog.specs.Text.{Closes, Spells, IsBase, IsText, ReadsAsSpelled, record_bytes, record_size, blocks, glog, stamp, old_stamp, is_generation, joins_bytes, base_bytes, front_of, begun, based, field_in, number_in, event_in, logged_in, mark_in, cut_in, join_in, record_in, records_in, may_begin, joins_in, base_in, header_fault, head_in, standing_of, text_in}

-- Fields

field_at : (total n : ℕ) (f rest : List ℕ) → length f ≡ n → field_in total n (f ++ rest) ≡ Ok (f, rest)
field_at total n f rest len =
    let long : nat_le n (length (f ++ rest)) ≡ true = le-leb n (length (f ++ rest)) (omega (arith, len, length-append f rest)) in
    rw (long, take_at f rest n len, drop_at f rest n len) refl

number_at : (total n : ℕ) (w : Width) (passes : ℕ → Bool) (f rest : List ℕ) (x : ℕ) → length f ≡ n → from_be_bytes w f ≡ x → passes x ≡ true
    → number_in total n w passes (f ++ rest) ≡ Ok (x, rest)
number_at total n w passes f rest x len is ok = rw (field_at total n f rest len, is, ok) refl

length-eight : (x : ℕ) → length (to_be_bytes w64 x) ≡ 8
length-eight x = refl

length-four : (x : ℕ) → length (to_be_bytes w32 x) ≡ 4
length-four x = refl

eight_at : (total : ℕ) (passes : ℕ → Bool) (x : ℕ) (rest : List ℕ) → x < 2 ^ 64 → passes x ≡ true
    → number_in total 8 w64 passes (to_be_bytes w64 x ++ rest) ≡ Ok (x, rest)
eight_at total passes x rest fits ok = number_at total 8 w64 passes (to_be_bytes w64 x) rest x (length-eight x) (from_be_bytes-to_be_bytes_8 x fits) ok

length-two : (x : ℕ) → length (to_be_bytes w16 x) ≡ 2
length-two x = refl

two_at : (total : ℕ) (passes : ℕ → Bool) (x : ℕ) (rest : List ℕ) → x < 2 ^ 16 → passes x ≡ true
    → number_in total 2 w16 passes (to_be_bytes w16 x ++ rest) ≡ Ok (x, rest)
two_at total passes x rest fits ok = number_at total 2 w16 passes (to_be_bytes w16 x) rest x (length-two x) (from_be_bytes-to_be_bytes_2 x fits) ok

four_at : (total : ℕ) (passes : ℕ → Bool) (x : ℕ) (rest : List ℕ) → x < 2 ^ 32 → passes x ≡ true
    → number_in total 4 w32 passes (to_be_bytes w32 x ++ rest) ≡ Ok (x, rest)
four_at total passes x rest fits ok = number_at total 4 w32 passes (to_be_bytes w32 x) rest x (length-four x) (from_be_bytes-to_be_bytes_4 x fits) ok

-- Sizes

length-value : (v : Value) → length (value_bytes v) ≡ 1 + value_size v
length-value (Int z) = refl
length-value (Text t) = omega arith
length-value (Truth b) = refl

length-pairs : (ps : EventPairs) → length (pairs_bytes ps) ≡ pairs_size ps
length-pairs [] = refl
length-pairs (p ∷ ps) =
    let head = length p.0 ∷ p.0 in
    omega (arith, length-append (head ++ value_bytes p.1) (pairs_bytes ps), length-append head (value_bytes p.1), length-value p.1, length-pairs ps)

pub length-event : (e : EventPairs) → length (event_bytes e) ≡ event_size e
length-event e = omega (arith, length-pairs e)

pub length-record : (r : Record) → length (record_bytes r) ≡ record_size r
length-record (Event t n e) =
    let s = to_be_bytes w32 (event_size e) in
    omega (arith, length-append (to_be_bytes w64 t) (to_be_bytes w64 n ++ (s ++ event_bytes e)), length-append (to_be_bytes w64 n) (s ++ event_bytes e), length-append s (event_bytes e), length-eight t, length-eight n, length-four (event_size e), length-event e)
length-record (Mark t) = omega (arith, length-eight t)
length-record (Cut t) = omega (arith, length-eight t)
length-record (Join t x) = omega (arith, length-append (to_be_bytes w64 t) (to_be_bytes w16 x), length-eight t, length-two x)

-- Records

both : (a b : Bool) → (a && b) ≡ true → (a ≡ true) × (b ≡ true)
both true b h = (refl, h)
both false b h = absurd (cc h)

pub below_top : (s : State) (t : ℕ) → may_settle s t ≡ true → t ≤ max_tick
below_top s t h = leb-true t max_tick (both (nat_lt s.settled t) (nat_le t max_tick) h).1

below_settled : (s : State) (t : ℕ) → may_cut s t ≡ true → t ≤ s.settled
below_settled s t h = leb-true t s.settled (both (nat_lt s.cut t) (nat_le t s.settled) h).1

-- fields that read one after another are an Event
event_reads : (total : ℕ) (s : State) (t n size : ℕ) (e : EventPairs) (bytes rest r1 r2 r3 left : List ℕ) → number_in total 8 w64 (may_settle s) rest ≡ Ok (t, r1)
    → number_in total 8 w64 (λ x. x == s.last + 1) r1 ≡ Ok (n, r2) → number_in total 4 w32 (λ x. nat_le x MAX_EVENT_BYTES) r2 ≡ Ok (size, r3) → field_in total size r3 ≡ Ok (bytes, left)
    → event_decoded bytes ≡ Ok e → logged_in total s rest ≡ Ok (Event t n e, left)
unfolding logged_in event_in
event_reads total s t n size e bytes rest r1 r2 r3 left p1 p2 p3 p4 p5 = rw (p1, p2, p3, p4, p5) refl

-- those of a Join
join_reads : (total : ℕ) (f : Footing) (t x : ℕ) (rest behind left : List ℕ) → number_in total 8 w64 (may_settle f.state) rest ≡ Ok (t, behind) → number_in total 2 w16 (may_enter f) behind ≡ Ok (x, left)
    → join_in total f rest ≡ Ok (Join t x, left)
unfolding join_in
join_reads total f t x rest behind left p1 p2 = rw (p1, p2) refl

-- a record that may follow reads as itself
pub read_record : (total : ℕ) (f : Footing) (r : Record) (rest : List ℕ) → may_note f r ≡ true → IsSound r → f.state.settled ≤ max_tick
    → record_in total f (record_bytes r ++ rest) ≡ Ok (r, rest)
unfolding record_in logged_in event_in mark_in cut_in
read_record total f (Event t n e) rest ok sound top =
    let s : State = f.state in
    let may = both (may_settle s t) (n == s.last + 1) ok in
    let T = to_be_bytes w64 t in
    let N = to_be_bytes w64 n in
    let S = to_be_bytes w32 (event_size e) in
    let E = event_bytes e in
    let low : t ≤ max_tick = below_top s t may.0 in
    let small : nat_le (event_size e) MAX_EVENT_BYTES ≡ true = le-leb (event_size e) MAX_EVENT_BYTES sound.1.short in
    let short : event_size e ≤ MAX_EVENT_BYTES = sound.1.short in
    let a1 = eight_at total (may_settle s) t (N ++ (S ++ (E ++ rest))) (omega (arith, low)) may.0 in
    let a2 = eight_at total (λ x. x == s.last + 1) n (S ++ (E ++ rest)) sound.0 may.1 in
    let a3 = four_at total (λ x. nat_le x MAX_EVENT_BYTES) (event_size e) (E ++ rest) (omega (arith, short)) small in
    let a4 = field_at total (event_size e) E rest (length-event e) in
    let split : (T ++ (N ++ (S ++ E))) ++ rest ≡ T ++ (N ++ (S ++ (E ++ rest))) =
    append_assoc T (N ++ (S ++ E)) rest ∙ ap (λ (l : List ℕ). T ++ l) (append_assoc N (S ++ E) rest ∙ ap (λ (l : List ℕ). N ++ l) (append_assoc S E rest)) in
    ap (logged_in total s) split
    ∙ event_reads total s t n (event_size e) e E (T ++ (N ++ (S ++ (E ++ rest)))) (N ++ (S ++ (E ++ rest))) (S ++ (E ++ rest)) (E ++ rest) rest a1 a2 a3 a4 (decodes_back e sound.1)
read_record total f (Mark t) rest ok sound top =
    let low : t ≤ max_tick = below_top f.state t ok in
    rw (eight_at total (may_settle f.state) t rest (omega (arith, low)) ok) refl
read_record total f (Cut t) rest ok sound top =
    let low : t ≤ f.state.settled = below_settled f.state t ok in
    rw (eight_at total (may_cut f.state) t rest (omega (arith, low, top)) ok) refl
read_record total f (Join t x) rest ok sound top =
    let may = both (may_settle f.state t) (may_enter f x) ok in
    let T = to_be_bytes w64 t in
    let S = to_be_bytes w16 x in
    let low : t ≤ max_tick = below_top f.state t may.0 in
    let a1 = eight_at total (may_settle f.state) t (S ++ rest) (omega (arith, low)) may.0 in
    let a2 = two_at total (may_enter f) x rest sound may.1 in
    ap (join_in total f) (append_assoc T S rest) ∙ join_reads total f t x (T ++ (S ++ rest)) (S ++ rest) rest a1 a2

pub stays_below : (s : LogState) (r : Record) → may_follow s r ≡ true → s.settled ≤ max_tick → (after_record s r).settled ≤ max_tick
stays_below s (Event t n e) ok top = below_top (footing s).state t (both (may_settle (footing s).state t) (n == s.last + 1) ok).0
stays_below s (Mark t) ok top = below_top (footing s).state t ok
stays_below s (Cut t) ok top = top
stays_below s (Join t x) ok top = below_top (footing s).state t (both (may_settle (footing s).state t) (may_enter (footing s) x) ok).0

pub closed_gate : (gate : ℕ) → gate ≢ 1 → (gate == 1) ≡ false
closed_gate gate h = grind (arith, nat_tests)

-- records and then a closed gate
read_all : (n total : ℕ) (s : LogState) (rs : List Record) (gate : ℕ) (tail : List ℕ) → Follow s rs → s.settled ≤ max_tick → gate ≢ 1 → length rs < n
    → records_in n total s (blocks rs ++ gate ∷ tail) ≡ Ok (state_from s rs, gate ∷ tail)
unfolding records_in
read_all zero total s rs gate tail f top shut few = absurd (omega (arith, few))
read_all (suc n) total s [] gate tail f top shut few = rw (records_in, closed_gate gate shut) refl
read_all (suc n) total s (r ∷ rs) gate tail f top shut few =
    let less : length rs < n = omega (arith, few) in
    let first = read_record total (footing s) r (blocks rs ++ gate ∷ tail) f.0 f.1 top in
    let others = read_all n total (after_record s r) rs gate tail f.2 (stays_below s r f.0 top) shut less in
    rw (append_assoc (record_bytes r) (blocks rs) (gate ∷ tail), records_in, first, others) refl

long_blocks : (rs : List Record) → length rs ≤ length (blocks rs)
long_blocks [] = omega arith
long_blocks (r ∷ rs) = omega (arith, long_blocks rs, length-append (record_bytes r) (blocks rs))

-- A base

join_first : (n total : ℕ) (late : List ℕ) (cut : ℕ) (front : Joins) (x t : ℕ) (rest behind left : List ℕ) (out : Joins × List ℕ) → number_in total 2 w16 (is_new late front) rest ≡ Ok (x, behind)
    → number_in total 8 w64 (may_begin front cut) behind ≡ Ok (t, left) → joins_in n total late cut (front ++ record { subscriber = x; tick = t } ∷ []) left ≡ Ok out → joins_in (suc n) total late cut front rest ≡ Ok out
unfolding joins_in
join_first n total late cut front x t rest behind left out p1 p2 p3 = rw (joins_in, p1, p2) p3

-- joins that follow on others read as themselves
read_joins : (total : ℕ) (late : List ℕ) (cut : ℕ) (front js : Joins) (rest : List ℕ) → cut ≤ max_tick → JoinsRise (last_join_tick front) js → JoinsUpto cut js → AreLate late js → JoinOnce (front ++ js)
    → joins_in (length js) total late cut front (joins_bytes js ++ rest) ≡ Ok (front ++ js, rest)
unfolding joins_in
read_joins total late cut front [] rest m r u a o = ap (λ (l : Joins). Ok (l, rest)) (sym (append-nil front))
read_joins total late cut front (j ∷ js) rest m r u a o =
    let X = to_be_bytes w16 j.subscriber in
    let T = to_be_bytes w64 j.tick in
    let tail : List ℕ = joins_bytes js ++ rest in
    let fresh : is_new late front j.subscriber ≡ true = and_from (list_any (λ x. nat_eq x j.subscriber) late) (not (has_joined front j.subscriber)) a.0 (ap not (once_behind front j js o)) in
    let begins : may_begin front cut j.tick ≡ true = and_from (nat_lt (last_join_tick front) j.tick) (nat_le j.tick cut) (lt-ltb (last_join_tick front) j.tick r.0) (le-leb j.tick cut u.0) in
    let a1 = two_at total (is_new late front) j.subscriber (T ++ tail) r.2 fresh in
    let a2 = eight_at total (may_begin front cut) j.tick tail (omega (arith, u.0, m)) begins in
    let split : (X ++ (T ++ joins_bytes js)) ++ rest ≡ X ++ (T ++ tail) = append_assoc X (T ++ joins_bytes js) rest ∙ ap (λ (l : List ℕ). X ++ l) (append_assoc T (joins_bytes js) rest) in
    let others = read_joins total late cut (front ++ j ∷ []) js rest m (subst (λ (n : ℕ). JoinsRise n js) (sym (last_push 0 front j)) r.3) u.1 a.1 (subst JoinOnce (sym (append_assoc front (j ∷ []) js)) o) in
    ap (joins_in (suc (length js)) total late cut front) split
    ∙ join_first (length js) total late cut front j.subscriber j.tick (X ++ (T ++ tail)) (T ++ tail) tail (front ++ j ∷ js, rest) a1 a2 (others ∙ ap (λ (l : Joins). Ok (l, rest)) (append_assoc front (j ∷ []) js))

base_reads : (total : ℕ) (late : List ℕ) (g l c n : ℕ) (js : Joins) (rest r1 r2 r3 r4 left : List ℕ) → number_in total 8 w64 is_generation rest ≡ Ok (g, r1) → number_in total 8 w64 (λ x. nat_le x max_tick) r1 ≡ Ok (l, r2)
    → number_in total 8 w64 (λ x. nat_le l x && nat_le x max_tick) r2 ≡ Ok (c, r3) → number_in total 2 w16 (λ x. nat_le x MAX_JOINS) r3 ≡ Ok (n, r4) → joins_in n total late c [] r4 ≡ Ok (js, left)
    → base_in total late rest ≡ Ok (based g l c js, left)
unfolding base_in
base_reads total late g l c n js rest r1 r2 r3 r4 left p1 p2 p3 p4 p5 = rw (p1, p2, p3, p4, p5) refl

pub generation_ok : (g : ℕ) → 1 ≤ g → g ≤ max_tick → is_generation g ≡ true
generation_ok g low high = rw (le-leb 1 g low, le-leb g max_tick high) refl

pub read_base : (total : ℕ) (late : List ℕ) (b : Base) (rest : List ℕ) → IsBase late b → base_in total late (base_bytes b ++ rest) ≡ Ok (b, rest)
read_base total late b rest i =
    let G = to_be_bytes w64 b.generation in
    let L = to_be_bytes w64 b.last in
    let C = to_be_bytes w64 b.cut in
    let N = to_be_bytes w16 (length b.joins) in
    let J = joins_bytes b.joins in
    let few : length b.joins ≤ MAX_JOINS = i.held.joins.few in
    let a1 = eight_at total is_generation b.generation (L ++ (C ++ (N ++ (J ++ rest)))) (omega (arith, i.high)) (generation_ok b.generation i.low i.high) in
    let a2 = eight_at total (λ x. nat_le x max_tick) b.last (C ++ (N ++ (J ++ rest))) (omega (arith, i.last, i.cut)) (le-leb b.last max_tick (omega (arith, i.last, i.cut))) in
    let within : (nat_le b.last b.cut && nat_le b.cut max_tick) ≡ true = rw (le-leb b.last b.cut i.last, le-leb b.cut max_tick i.cut) refl in
    let a3 = eight_at total (λ x. nat_le b.last x && nat_le x max_tick) b.cut (N ++ (J ++ rest)) (omega (arith, i.cut)) within in
    let a4 = two_at total (λ x. nat_le x MAX_JOINS) (length b.joins) (J ++ rest) (omega (arith, few)) (le-leb (length b.joins) MAX_JOINS few) in
    let a5 = read_joins total late b.cut [] b.joins rest i.cut i.held.joins.rise i.held.upto i.held.known i.held.joins.once in
    let split : (G ++ (L ++ (C ++ (N ++ J)))) ++ rest ≡ G ++ (L ++ (C ++ (N ++ (J ++ rest)))) =
    append_assoc G (L ++ (C ++ (N ++ J))) rest ∙ ap (λ (l : List ℕ). G ++ l) (append_assoc L (C ++ (N ++ J)) rest
    ∙ ap (λ (l : List ℕ). L ++ l) (append_assoc C (N ++ J) rest ∙ ap (λ (l : List ℕ). C ++ l) (append_assoc N J rest))) in
    ap (base_in total late) split
    ∙ base_reads total late b.generation b.last b.cut (length b.joins) b.joins (G ++ (L ++ (C ++ (N ++ (J ++ rest))))) (L ++ (C ++ (N ++ (J ++ rest)))) (C ++ (N ++ (J ++ rest))) (N ++ (J ++ rest)) (J ++ rest) rest a1 a2 a3 a4 a5

-- Heads

head_new : (first : Bool) (total : ℕ) (bytes : List ℕ) (g : ℕ) → nat_lt 6 total ≡ true → (get_or bytes 5 0 == 1) ≡ true → nat_lt (header_fault 0 glog bytes) 4 ≡ false
    → (get_or bytes 4 0 == 2) ≡ true → nat_le 14 total ≡ true → from_be_bytes w64 (take 8 (drop 6 bytes)) ≡ g → is_generation g ≡ true → head_in first total bytes ≡ Ok (New g)
unfolding head_in
head_new first total bytes g p1 p2 p3 p4 p5 p6 p7 = rw (p1, p2, p3, p4, p5, p6, p7) refl

head_old : (total : ℕ) (bytes : List ℕ) → nat_lt 6 total ≡ true → (get_or bytes 5 0 == 1) ≡ true → nat_lt (header_fault 0 glog bytes) 4 ≡ false
    → (get_or bytes 4 0 == 2) ≡ false → (get_or bytes 4 0 == 1) ≡ true → head_in true total bytes ≡ Ok Old
unfolding head_in
head_old total bytes p1 p2 p3 p4 p5 = rw (p1, p2, p3, p4, p5) refl

pub front_stands : (first : Bool) (total g : ℕ) (rest : List ℕ) → 14 ≤ total → 1 ≤ g → g ≤ max_tick → head_in first total (stamp ++ 1 ∷ (to_be_bytes w64 g ++ rest)) ≡ Ok (New g)
front_stands first total g rest long low high =
    head_new first total (stamp ++ 1 ∷ (to_be_bytes w64 g ++ rest)) g (lt-ltb 6 total (omega (arith, long))) refl refl refl (le-leb 14 total long)
    (from_be_bytes-to_be_bytes_8 g (omega (arith, high))) (generation_ok g low high)

-- Texts

pub base_least : (b : Base) → 26 ≤ length (base_bytes b)
base_least b =
    let J : List ℕ = to_be_bytes w16 (length b.joins) in
    omega (
      arith,
      length-append (to_be_bytes w64 b.generation) (to_be_bytes w64 b.last ++ (to_be_bytes w64 b.cut ++ (J ++ joins_bytes b.joins))),
      length-append (to_be_bytes w64 b.last) (to_be_bytes w64 b.cut ++ (J ++ joins_bytes b.joins)),
      length-append (to_be_bytes w64 b.cut) (J ++ joins_bytes b.joins),
      length-append J (joins_bytes b.joins),
    )

text_by_base : (late : List ℕ) (g : ℕ) (bytes : List ℕ) (b : Base) (rest : List ℕ) (out : LogState × List ℕ) → base_in (length bytes) late (drop 6 bytes) ≡ Ok (b, rest)
    → records_in (length bytes + 1) (length bytes) (begun late b) rest ≡ Ok out → text_in late (New g) bytes ≡ Ok out
unfolding text_in
text_by_base late g bytes b rest out e1 e2 = rw (text_in, e1, e2) refl

text_by_records : (late bytes : List ℕ) (out : LogState × List ℕ) → records_in (length bytes + 1) (length bytes) (empty_state late) (drop 5 bytes) ≡ Ok out → text_in late Old bytes ≡ Ok out
unfolding text_in
text_by_records late bytes out e = rw (text_in, e) refl

module _ (late bytes : List ℕ) (b : Base) (rs : List Record) (t : IsText late bytes b rs) where
  abbrev c : Closes bytes (front_of b ++ blocks rs)
  c = t.spells.text

  abbrev records : List ℕ
  records = blocks rs ++ c.gate ∷ c.tail

  whole : bytes ≡ stamp ++ 1 ∷ (base_bytes b ++ records)
  whole = c.whole ∙ ap (λ (l : List ℕ). 71 ∷ (76 ∷ (79 ∷ (71 ∷ (2 ∷ (1 ∷ l)))))) (append_assoc (base_bytes b) (blocks rs) (c.gate ∷ c.tail))

  abbrev ends : List ℕ
  ends = to_be_bytes w64 b.last ++ (to_be_bytes w64 b.cut ++ (to_be_bytes w16 (length b.joins) ++ joins_bytes b.joins))

  long : 33 + length (blocks rs) ≤ length bytes
  long = omega (arith, ap length whole, length-append (base_bytes b) records, length-append (blocks rs) (c.gate ∷ c.tail), base_least b)

  -- it is open
  pub new_long : 6 < length bytes
  new_long = omega (arith, long)

  pub new_open : get_or bytes 5 0 ≡ 1
  new_open = ap (λ (l : List ℕ). get_or l 5 0) whole

  pub new_stands : (first : Bool) → standing_of first bytes ≡ Ok (New b.generation)
  new_stands first =
      let rest : List ℕ = ends ++ records in
      let split : bytes ≡ stamp ++ 1 ∷ (to_be_bytes w64 b.generation ++ rest) =
      whole ∙ ap (λ (l : List ℕ). 71 ∷ (76 ∷ (79 ∷ (71 ∷ (2 ∷ (1 ∷ l)))))) (append_assoc (to_be_bytes w64 b.generation) ends records) in
      ap (head_in first (length bytes)) split ∙ front_stands first (length bytes) b.generation rest (omega (arith, long)) t.base.low t.base.high

  pub new_reads : (g : ℕ) → text_in late (New g) bytes ≡ Ok (state_from (begun late b) rs, c.gate ∷ c.tail)
  new_reads g =
      let few : length rs < length bytes + 1 = omega (arith, long, long_blocks rs) in
      text_by_base late g bytes b records (state_from (begun late b) rs, c.gate ∷ c.tail) (ap (λ (l : List ℕ). base_in (length bytes) late (drop 6 l)) whole ∙ read_base (length bytes) late b records t.base)
      (read_all (length bytes + 1) (length bytes) (begun late b) rs c.gate c.tail t.spells.follow t.base.cut c.closed few)

module _ (late bytes : List ℕ) (rs : List Record) (t : Spells old_stamp (empty_state late) rs bytes) where
  abbrev d : Closes bytes (old_stamp ++ blocks rs)
  d = t.text

  abbrev old_records : List ℕ
  old_records = blocks rs ++ d.gate ∷ d.tail

  old_whole : bytes ≡ old_stamp ++ old_records
  old_whole = d.whole

  old_long : 6 + length (blocks rs) ≤ length bytes
  old_long = omega (arith, ap length old_whole, length-append (blocks rs) (d.gate ∷ d.tail))

  pub old_reads : text_in late Old bytes ≡ Ok (state_from (empty_state late) rs, d.gate ∷ d.tail)
  old_reads =
      let few : length rs < length bytes + 1 = omega (arith, old_long, long_blocks rs) in
      text_by_records late bytes (state_from (empty_state late) rs, d.gate ∷ d.tail)
      (ap (λ (l : List ℕ). records_in (length bytes + 1) (length bytes) (empty_state late) (drop 5 l)) old_whole ∙ read_all (length bytes + 1) (length bytes) (empty_state late) rs d.gate d.tail t.follow (omega arith) d.closed few)

-- a text of the first version whose byte 5 is 1 has a record
some_record : (rs : List Record) (gate : ℕ) (tail : List ℕ) → gate ≢ 1 → get_or (old_stamp ++ (blocks rs ++ gate ∷ tail)) 5 0 ≡ 1 → 1 ≤ length (blocks rs)
some_record [] gate tail shut e = absurd (shut e)
some_record (r ∷ rs) gate tail shut e = omega arith

pub old_stands : (late bytes : List ℕ) (rs : List Record) → Spells old_stamp (empty_state late) rs bytes → get_or bytes 5 0 ≡ 1 → standing_of true bytes ≡ Ok Old
old_stands late bytes rs t is =
    let w : bytes ≡ old_stamp ++ (blocks rs ++ t.text.gate ∷ t.text.tail) = t.text.whole in
    let some : 1 ≤ length (blocks rs) = some_record rs t.text.gate t.text.tail t.text.closed (ap (λ (l : List ℕ). get_or l 5 0) (sym w) ∙ is) in
    let seven : 6 < length bytes = omega (arith, some, old_long late bytes rs t) in
    let header : nat_lt (header_fault 0 glog bytes) 4 ≡ false = ap (λ (l : List ℕ). nat_lt (header_fault 0 glog l) 4) w in
    let not_two : (get_or bytes 4 0 == 2) ≡ false = ap (λ (l : List ℕ). get_or l 4 0 == 2) w in
    let one : (get_or bytes 4 0 == 1) ≡ true = ap (λ (l : List ℕ). get_or l 4 0 == 1) w in
    head_old (length bytes) bytes (lt-ltb 6 (length bytes) seven) (ap (λ (x : ℕ). x == 1) is) header not_two one

pub reads_spelled : ReadsAsSpelled
reads_spelled = record {
  new = λ late bytes b rs first t. (new_stands late bytes b rs t first, new_reads late bytes b rs t b.generation);
  old = λ late bytes rs t is. (old_stands late bytes rs t is, old_reads late bytes rs t);
}

-- the fields of an Event, one behind another, are its bytes
pub spelled_event : (t n size : ℕ) (e : EventPairs) (rest r1 r2 r3 left : List ℕ) → rest ≡ to_be_bytes w64 t ++ r1 → r1 ≡ to_be_bytes w64 n ++ r2
    → r2 ≡ to_be_bytes w32 size ++ r3 → r3 ≡ event_bytes e ++ left → length (event_bytes e) ≡ size → 1 ∷ rest ≡ record_bytes (Event t n e) ++ left
spelled_event t n size e rest r1 r2 r3 left e1 e2 e3 e4 is =
    let T = to_be_bytes w64 t in
    let N = to_be_bytes w64 n in
    let S = to_be_bytes w32 (event_size e) in
    let E = event_bytes e in
    let sized : to_be_bytes w32 size ≡ S = ap (to_be_bytes w32) (sym is ∙ length-event e) in
    let whole : rest ≡ T ++ (N ++ (S ++ (E ++ left))) =
    e1 ∙ ap (λ (l : List ℕ). T ++ l) (e2 ∙ ap (λ (l : List ℕ). N ++ l) (e3 ∙ ap (λ (l : List ℕ). l ++ r3) sized ∙ ap (λ (l : List ℕ). S ++ l) e4)) in
    let split : (T ++ (N ++ (S ++ E))) ++ left ≡ T ++ (N ++ (S ++ (E ++ left))) =
    append_assoc T (N ++ (S ++ E)) left ∙ ap (λ (l : List ℕ). T ++ l) (append_assoc N (S ++ E) left ∙ ap (λ (l : List ℕ). N ++ l) (append_assoc S E left)) in
    ap (λ (l : List ℕ). 1 ∷ l) (whole ∙ sym split)

pub blocks-append : (rs : List Record) (r : Record) (rest : List ℕ) → blocks (rs ++ r ∷ []) ++ rest ≡ blocks rs ++ 1 ∷ (record_bytes r ++ rest)
blocks-append [] r rest = ap (λ (l : List ℕ). 1 ∷ (l ++ rest)) (append-nil (record_bytes r))
blocks-append (x ∷ rs) r rest =
    ap (λ (l : List ℕ). 1 ∷ l) (append_assoc (record_bytes x) (blocks (rs ++ r ∷ [])) rest ∙ ap (λ (l : List ℕ). record_bytes x ++ l) (blocks-append rs r rest)
    ∙ sym (append_assoc (record_bytes x) (blocks rs) (1 ∷ (record_bytes r ++ rest))))

pub state-append : (s : LogState) (rs : List Record) (r : Record) → state_from s (rs ++ r ∷ []) ≡ after_record (state_from s rs) r
state-append s [] r = refl
state-append s (x ∷ rs) r = state-append (after_record s x) rs r

pub follow-append : (s : LogState) (rs : List Record) (r : Record) → Follow s rs → may_follow (state_from s rs) r ≡ true → IsSound r → Follow s (rs ++ r ∷ [])
follow-append s [] r f ok sound = (ok, sound, tt)
follow-append s (x ∷ rs) r f ok sound = (f.0, f.1, follow-append (after_record s x) rs r f.2 ok sound)
