-- Bytes that spell a frame decode to it, and bytes behind them are trailing
use Rattle.std.proofs.Common.{◌≡◌, ◌≢◌, ◌<◌, ◌≤◌, ◌+◌, ◌*◌, ◌^◌, ◌==◌, ◌||◌, ◌&&◌, ℕ, suc, List, [], ◌∷◌, ◌++◌, length, true, false, not, Bool, if◌then◌else◌, Option, Some, None, Result, Ok, Err, ap, refl, sym, ◌∙◌, arith, rules, append_assoc, append-nil, length-append, eqb-true}
use Rattle.std.specs.Int.{to_be_bytes, w16, w64}
use Rattle.std.specs.List.{AllByRecursion}
use Rattle.gr_tick.specs.declared.run.Run.{Run}
use Rattle.gr_tick.specs.Runs.{Decides_same}
use Rattle.gr_tick.specs.Stored.{EndBefore}
use Rattle.gr_know.specs.declared.values.K.{K}
use Rattle.gr_know.specs.declared.values.K.TheVariants.{Q, S, D, F}
use Rattle.gr_curio.specs.declared.values.Q3.{Q3}
use Rattle.gr_curio.specs.declared.values.Q3.TheVariants.{N, C, A}
use Rattle.gr_frame.specs.declared.Body.{Body}
use Rattle.gr_frame.specs.declared.Body.TheVariants as body
use Rattle.gr_frame.specs.declared.Head.{Head}
use Rattle.gr_frame.specs.declared.Frame.{Frame}
use Rattle.gr_frame.specs.declared.value.BodyKind.{BodyKind}
use Rattle.gr_frame.specs.declared.value.BodyKind.TheVariants.{Knowledge, JoinedKnowledge, Curiosity, Expect}
use Rattle.gr_frame.specs.declared.fault.FrameKind.TheVariants.{Trailing}
use Rattle.gr_frame.specs.declared.fault.FrameFault.{FrameFault}
use Rattle.gr_event.specs.Joins.{Joins}
use Rattle.gr_frame.specs.Bytes.{known_bytes, wanted_bytes, runs_bytes, frame_bytes, head_bytes, head_size, list_bytes}
use Rattle.gr_frame.specs.Form.{Form}
use Rattle.gr_frame.specs.Gives.{fault, ◌>>=◌}
use Rattle.gr_frame.specs.Limits.{IsKnown, IsWanted, IsPiece, IsBody, IsHead, IsWhole, IsFrame}
use Rattle.gr_frame.specs.Decode.{u16_at, tick_at, is_above, goes_on, run_with_ticks, run_at, run_size, runs_at, list_at, version_number, kind_number, kind_at, head_at, is_Expect, count_at, expect_at, knowledge_behind, body_at, fields_of, frame_decoded, known_form, wanted_form}
use Rattle.gr_frame.proofs.Fields.{byte_here, u16_here, tick_here, field_here, not_below}
use Rattle.gr_frame.proofs.Forms.{IsForm, known_is, wanted_is}
use Rattle.gr_frame.proofs.Lists.{head_sized, list_here}
use Rattle.gr_frame.proofs.Told.{After}

-- what was read, if it ends where the bytes end
abbrev pub ended : {A : Type 0} → ℕ → List ℕ → A → Result A FrameFault
ended at bytes x = if at == length bytes then Ok x else Err (fault Trailing at)

ended_map : {A B : Type 0} (b : Bool) (e : FrameFault) (x : A) (f : A → B) → ((if b then Ok x else Err e) >>= λ y. Ok (f y)) ≡ (if b then Ok (f x) else Err e)
ended_map true e x f = refl
ended_map false e x f = refl

ended_twice : {A B C : Type 0} (b : Bool) (e : FrameFault) (x : A) (f : A → B) (g : B → C) → (((if b then Ok x else Err e) >>= λ y. Ok (f y)) >>= λ z. Ok (g z)) ≡ (if b then Ok (g (f x)) else Err e)
ended_twice true e x f g = refl
ended_twice false e x f g = refl

module _ {V : Type 0} where
  run_here : (least : V) (Fits : V → Type 0) (form : Form V) → IsForm least Fits form → (front rest bytes : List ℕ) (r : Run V) (before : Option (Run V)) (at : ℕ)
      → bytes ≡ front ++ (to_be_bytes w64 r.first ++ (to_be_bytes w64 r.last ++ (form.bytes r.value ++ rest))) → at ≡ length front
      → 1 ≤ r.first → r.first ≤ r.last → r.last ≤ 2 ^ 62 → r.value ≢ least → Fits r.value
      → is_above before r.first ≡ true → goes_on form.same before r.first r.value ≡ false → run_at form bytes at before ≡ Ok r
  unfolding run_at run_with_ticks
  run_here least Fits form law front rest bytes r before at e d one ordered upto some fits above apart =
      let a = to_be_bytes w64 r.first in
      let b = to_be_bytes w64 r.last in
      let c = form.bytes r.value in
      let after_first : at + 8 ≡ length (front ++ a) = omega (arith, length-append front a) in
      let after_last : at + 16 ≡ length (front ++ (a ++ b)) = omega (arith, length-append front (a ++ b), length-append a b) in
      let first : tick_at bytes at 1 ≡ Ok r.first = tick_here front (b ++ (c ++ rest)) bytes r.first 1 at e d one (omega arith) in
      let last : tick_at bytes (at + 8) r.first ≡ Ok r.last = tick_here (front ++ a) (c ++ rest) bytes r.last r.first (at + 8) (e ∙ sym (append_assoc front a (b ++ (c ++ rest)))) after_first ordered upto in
      let value : form.read bytes (at + 16) ≡ Ok r.value =
      law.here (front ++ (a ++ b)) rest bytes r.value (at + 16)
      (e ∙ ap (λ l. front ++ l) (sym (append_assoc a b (c ++ rest))) ∙ sym (append_assoc front (a ++ b) (c ++ rest))) after_last some fits in
      rw (first, last, above, value, apart) refl

  stands_above : (least : V) (before : Option (Run V)) (r : Run V) (rs : List (Run V)) → After least before (r ∷ rs) → is_above before r.first ≡ true
  stands_above least None r rs h = refl
  stands_above least (Some p) r rs h = let next : suc p.last ≤ r.first = h.1.0 in grind (arith, rules)

  apart_by : (p r : Run V) (same : V → V → Bool) (x y : Bool) → Decides_same same → (r.first ≡ suc p.last → r.value ≢ p.value) → (suc p.last == r.first) ≡ x → same p.value r.value ≡ y → (x && y) ≡ false
  apart_by p r same true true d h e f =
      let touch : r.first ≡ suc p.last = grind (arith, rules) in
      absurd (h touch (sym ((d p.value r.value).0 f)))
  apart_by p r same true false d h e f = refl
  apart_by p r same false y d h e f = refl

  stands_apart : (least : V) (same : V → V → Bool) (before : Option (Run V)) (r : Run V) (rs : List (Run V)) → Decides_same same → After least before (r ∷ rs) → goes_on same before r.first r.value ≡ false
  stands_apart least same None r rs d h = refl
  stands_apart least same (Some p) r rs d h = apart_by p r same (suc p.last == r.first) (same p.value r.value) d h.0 refl refl

  -- the first of the runs, and the rest behind it
  record Led (least : V) (before : Option (Run V)) (r : Run V) (rs : List (Run V)) : Type 0 where
    from_one : 1 ≤ r.first
    ordered : r.first ≤ r.last
    some : r.value ≢ least
    after : After least (Some r) rs

  led : (least : V) (before : Option (Run V)) (r : Run V) (rs : List (Run V)) → After least before (r ∷ rs) → Led least before r rs
  led least None r rs h = record { from_one = h.0; ordered = h.1; some = h.2; after = (h.3, h.4) }
  led least (Some p) r rs h = record { from_one = omega (arith, h.1.0); ordered = h.1.1; some = h.1.2; after = (h.1.3, h.1.4) }

  pub runs_here : (least : V) (Fits : V → Type 0) (form : Form V) → IsForm least Fits form → (front : List ℕ) (rs : List (Run V)) (rest bytes : List ℕ) (before : Option (Run V)) (at : ℕ)
      → bytes ≡ front ++ (runs_bytes form.bytes rs ++ rest) → at ≡ length front → After least before rs → EndBefore rs (2 ^ 62 + 1) → AllByRecursion (λ r. Fits r.value) rs
      → runs_at form bytes (length rs) at before ≡ ended (length front + length (runs_bytes form.bytes rs)) bytes rs
  unfolding runs_at
  runs_here least Fits form law front [] rest bytes before at e d after upto each =
      let place : at ≡ length front + 0 = omega (arith, d) in
      ap (λ k. ended k bytes []) place
  runs_here least Fits form law front (r ∷ rs) rest bytes before at e d after upto each =
      let a = to_be_bytes w64 r.first in
      let b = to_be_bytes w64 r.last in
      let c = form.bytes r.value in
      let more = runs_bytes form.bytes rs in
      let here = led least before r rs after in
      let apart : (((a ++ b) ++ c) ++ more) ++ rest ≡ a ++ (b ++ (c ++ (more ++ rest))) = simp append_assoc in
      let spelled : bytes ≡ front ++ (a ++ (b ++ (c ++ (more ++ rest)))) = e ∙ ap (λ l. front ++ l) apart in
      let text = (a ++ b) ++ c in
      let next_spelled : bytes ≡ (front ++ text) ++ (more ++ rest) =
      e ∙ ap (λ l. front ++ l) (append_assoc text more rest) ∙ sym (append_assoc front text (more ++ rest)) in
      let size : length text ≡ run_size form r = omega (arith, length-append (a ++ b) c, length-append a b) in
      let next : at + run_size form r ≡ length (front ++ text) = omega (arith, length-append front text, size) in
      let run_is = run_here least Fits form law front (more ++ rest) bytes r before at spelled d here.from_one here.ordered (omega (arith, upto.0)) here.some each.0
      (stands_above least before r rs after) (stands_apart least form.same before r rs law.decides after) in
      let rest_is = runs_here least Fits form law (front ++ text) rs rest bytes (Some r) (at + run_size form r) next_spelled next here.after upto.1 each.1 in
      let whole : length (front ++ text) + length more ≡ length front + length (text ++ more) = omega (arith, length-append front text, length-append text more) in
      let others =
      ap (λ q. q >>= λ l. Ok (r ∷ l)) rest_is
      ∙ ended_map (length (front ++ text) + length more == length bytes) (fault Trailing (length (front ++ text) + length more)) rs (λ l. r ∷ l)
      ∙ ap (λ k. ended k bytes (r ∷ rs)) whole in
      rw run_is others

  -- each run has 17 bytes or more
  pub many_bytes : (least : V) (Fits : V → Type 0) (form : Form V) (before : Option (Run V)) (rs : List (Run V)) → ((v : V) → v ≢ least → 1 ≤ length (form.bytes v)) → After least before rs
      → 17 * length rs ≤ length (runs_bytes form.bytes rs)
  many_bytes least Fits form before [] some after = omega arith
  many_bytes least Fits form before (r ∷ rs) some after =
      let a = to_be_bytes w64 r.first in
      let b = to_be_bytes w64 r.last in
      let c = form.bytes r.value in
      let here = led least before r rs after in
      omega (
        arith,
        length-append ((a ++ b) ++ c) (runs_bytes form.bytes rs),
        length-append (a ++ b) c,
        length-append a b,
        some r.value here.some,
        many_bytes least Fits form (Some r) rs some here.after,
      )

-- The fields before the body

kind_here : (b : BodyKind) (bytes tail : List ℕ) → bytes ≡ 71 ∷ (75 ∷ (version_number b ∷ (kind_number b ∷ tail))) → kind_at bytes ≡ Ok b
unfolding kind_at
kind_here Knowledge bytes tail e =
    rw (field_here [] (71 ∷ (75 ∷ [])) (1 ∷ (1 ∷ tail)) bytes 0 2 e refl refl, byte_here (71 ∷ (75 ∷ [])) (1 ∷ tail) bytes 1 2 e refl, byte_here (71 ∷ (75 ∷ (1 ∷ []))) tail bytes 1 3 e refl) refl
kind_here JoinedKnowledge bytes tail e =
    rw (field_here [] (71 ∷ (75 ∷ [])) (2 ∷ (1 ∷ tail)) bytes 0 2 e refl refl, byte_here (71 ∷ (75 ∷ [])) (1 ∷ tail) bytes 2 2 e refl, byte_here (71 ∷ (75 ∷ (2 ∷ []))) tail bytes 1 3 e refl) refl
kind_here Curiosity bytes tail e =
    rw (field_here [] (71 ∷ (75 ∷ [])) (1 ∷ (2 ∷ tail)) bytes 0 2 e refl refl, byte_here (71 ∷ (75 ∷ [])) (2 ∷ tail) bytes 1 2 e refl, byte_here (71 ∷ (75 ∷ (1 ∷ []))) tail bytes 2 3 e refl) refl
kind_here Expect bytes tail e =
    rw (field_here [] (71 ∷ (75 ∷ [])) (1 ∷ (3 ∷ tail)) bytes 0 2 e refl refl, byte_here (71 ∷ (75 ∷ [])) (3 ∷ tail) bytes 1 2 e refl, byte_here (71 ∷ (75 ∷ (1 ∷ []))) tail bytes 3 3 e refl) refl

head_here : (h : Head) (front tail bytes : List ℕ) → bytes ≡ front ++ (to_be_bytes w16 h.from ++ (to_be_bytes w16 h.to ++ (to_be_bytes w16 h.publisher ++ tail))) → length front ≡ 4 → IsHead h
    → head_at bytes ≡ Ok h
unfolding head_at
head_here h front tail bytes e d is =
    let a = to_be_bytes w16 h.from in
    let b = to_be_bytes w16 h.to in
    let c = to_be_bytes w16 h.publisher in
    let two : 6 ≡ length (front ++ a) = omega (arith, length-append front a) in
    let three : 8 ≡ length (front ++ (a ++ b)) = omega (arith, length-append front (a ++ b)) in
    let from : u16_at bytes 4 ≡ Ok h.from = u16_here front (b ++ (c ++ tail)) bytes h.from 4 e (sym d) is.from in
    let to : u16_at bytes 6 ≡ Ok h.to = u16_here (front ++ a) (c ++ tail) bytes h.to 6 (e ∙ sym (append_assoc front a (b ++ (c ++ tail)))) two is.to in
    let publisher : u16_at bytes 8 ≡ Ok h.publisher = u16_here (front ++ (a ++ b)) tail bytes h.publisher 8 (e ∙ sym (append_assoc front (a ++ b) (c ++ tail))) three is.publisher in
    rw (from, to, publisher) refl

no_refusal : (x y z : Bool) → x ≡ false → (y ≡ true → z ≡ true) → (x || (y && not z)) ≡ false
no_refusal true y z e h = absurd (cc)
no_refusal false true z e h = rw (h refl) refl
no_refusal false false z e h = refl

count_here : (b : BodyKind) (n : ℕ) (front tail bytes : List ℕ) → bytes ≡ front ++ (to_be_bytes w16 n ++ tail) → length front ≡ 10 → n < 2 ^ 16 → (n == 0) ≡ false → (is_Expect b ≡ true → (n == 1) ≡ true)
    → count_at bytes b ≡ Ok n
unfolding count_at
count_here b n front tail bytes e d small some one =
    rw (u16_here front tail bytes n 10 e (sym d) small, no_refusal (n == 0) (is_Expect b) (n == 1) some one) refl

abbrev framed : Head → Body → Frame
framed h x = record { head = h; body = x }

fields_here : (b : BodyKind) (h : Head) (n : ℕ) (tail bytes : List ℕ) → bytes ≡ head_bytes (version_number b) (kind_number b) h n ++ tail → IsHead h → n < 2 ^ 16 → (n == 0) ≡ false
    → (is_Expect b ≡ true → (n == 1) ≡ true) → fields_of bytes ≡ (body_at bytes b n >>= λ x. Ok (framed h x))
unfolding fields_of
fields_here b h n tail bytes e is small some one =
    let a = to_be_bytes w16 h.from in
    let c = to_be_bytes w16 h.to in
    let d = to_be_bytes w16 h.publisher in
    let k = to_be_bytes w16 n in
    let first = 71 ∷ (75 ∷ (version_number b ∷ (kind_number b ∷ []))) in
    let kind_is = kind_here b bytes (a ++ (c ++ (d ++ (k ++ tail)))) e in
    let head_is = head_here h first (k ++ tail) bytes e refl is in
    let count_is = count_here b n (first ++ (a ++ (c ++ d))) tail bytes e refl small some one in
    rw (kind_is, head_is, count_is) refl

-- The body

not_none : {V : Type 0} (rs : List (Run V)) → rs ≢ [] → (length rs == 0) ≡ false
not_none [] h = absurd (h refl)
not_none (r ∷ rs) h = grind (arith, rules)

one_known : (v : K) → v ≢ Q → 1 ≤ length (known_bytes v)
one_known Q h = absurd (h refl)
one_known S h = omega arith
one_known (D e) h = omega arith
one_known F h = omega arith

one_wanted : (v : Q3) → v ≢ N → 1 ≤ length (wanted_bytes v)
one_wanted N h = absurd (h refl)
one_wanted C h = omega arith
one_wanted A h = omega arith

expect_here : (t : ℕ) (front rest bytes : List ℕ) → bytes ≡ front ++ (to_be_bytes w64 t ++ rest) → length front ≡ 12 → 1 ≤ t → t ≤ 2 ^ 62 → expect_at bytes ≡ ended 20 bytes (body.Expect t)
unfolding expect_at
expect_here t front rest bytes e d one upto = rw (tick_here front rest bytes t 1 12 e (sym d) one upto) refl

piece_begins : {V : Type 0} (least : V) (Fits : V → Type 0) (form : Form V) → IsForm least Fits form → ((v : V) → v ≢ least → 1 ≤ length (form.bytes v)) → (front : List ℕ) (rs : List (Run V)) (rest bytes : List ℕ) (at : ℕ)
    → bytes ≡ front ++ (runs_bytes form.bytes rs ++ rest) → length front ≡ at → length bytes ≤ 16384 → IsPiece least Fits rs
    → (runs_at form bytes (length rs) at None ≡ ended (at + length (runs_bytes form.bytes rs)) bytes rs) × (length rs < 2 ^ 16) × ((length rs == 0) ≡ false)
piece_begins least Fits form law some front rs rest bytes at e d short is =
    let text = runs_bytes form.bytes rs in (
      runs_here least Fits form law front rs rest bytes None at e (sym d) is.runs is.upto is.each ∙ ap (λ k. ended (k + length text) bytes rs) d,
      omega (arith, many_bytes least Fits form None rs some is.runs, ap length e, length-append front (text ++ rest), length-append text rest),
      not_none rs is.some,
    )

abbrev Begins : List ℕ → List ℕ → Head → Body → Type 0
Begins rest bytes h x = bytes ≡ frame_bytes (framed h x) ++ rest → fields_of bytes ≡ ended (length (frame_bytes (framed h x))) bytes (framed h x)

body_begins : (rest bytes : List ℕ) (h : Head) (x : Body) → length bytes ≤ 16384 → IsHead h → IsBody x → Begins rest bytes h x
unfolding frame_bytes body_at knowledge_behind
body_begins rest bytes h (body.Knowledge rs []) short is ok e =
    let front = head_bytes 1 1 h (length rs) in
    let text = runs_bytes known_form.bytes rs in
    let apart : bytes ≡ front ++ (text ++ rest) = e in
    let read = piece_begins Q IsKnown known_form known_is one_known front rs rest bytes 12 apart refl short ok.0 in
    fields_here Knowledge h (length rs) (text ++ rest) bytes apart is read.1 read.2 (λ k. absurd (cc))
    ∙ ap (λ q. (q >>= λ l. Ok (body.Knowledge l [])) >>= λ x. Ok (framed h x)) read.0
    ∙ ended_twice (12 + length text == length bytes) (fault Trailing (12 + length text)) rs (λ l. body.Knowledge l []) (λ x. framed h x)
    ∙ ap (λ k. ended k bytes (framed h (body.Knowledge rs []))) (sym (length-append front text))
body_begins rest bytes h (body.Knowledge rs (j ∷ js)) short is ok e =
    let all : Joins = j ∷ js in
    let front = head_bytes 2 1 h (length rs) in
    let list = list_bytes all in
    let text = runs_bytes known_form.bytes rs in
    let apart : bytes ≡ front ++ (list ++ (text ++ rest)) = e ∙ ap (λ l. front ++ l) (append_assoc list text rest) in
    let whole : bytes ≡ (front ++ list) ++ (text ++ rest) = apart ∙ sym (append_assoc front list (text ++ rest)) in
    let size : length (front ++ list) ≡ head_size all = head_sized 1 (length rs) h all in
    let end = head_size all + length text in
    let place : end ≡ length ((front ++ list) ++ text) = omega (arith, size, length-append (front ++ list) text) in
    let read = piece_begins Q IsKnown known_form known_is one_known (front ++ list) rs rest bytes (head_size all) whole size short ok.0 in
    let listed : list_at bytes ≡ Ok all = list_here j js front (text ++ rest) bytes apart refl ok.1 in
    fields_here JoinedKnowledge h (length rs) (list ++ (text ++ rest)) bytes apart is read.1 read.2 (λ k. absurd (cc))
    ∙ ap (λ q. (q >>= knowledge_behind bytes (length rs)) >>= λ x. Ok (framed h x)) listed
    ∙ ap (λ q. (q >>= λ l. Ok (body.Knowledge l all)) >>= λ x. Ok (framed h x)) read.0
    ∙ ended_twice (end == length bytes) (fault Trailing end) rs (λ l. body.Knowledge l all) (λ x. framed h x)
    ∙ ap (λ k. ended k bytes (framed h (body.Knowledge rs all))) place
body_begins rest bytes h (body.Curiosity rs) short is ok e =
    let front = head_bytes 1 2 h (length rs) in
    let text = runs_bytes wanted_form.bytes rs in
    let apart : bytes ≡ front ++ (text ++ rest) = e in
    let read = piece_begins N IsWanted wanted_form wanted_is one_wanted front rs rest bytes 12 apart refl short ok in
    fields_here Curiosity h (length rs) (text ++ rest) bytes apart is read.1 read.2 (λ k. absurd (cc))
    ∙ ap (λ q. (q >>= λ l. Ok (body.Curiosity l)) >>= λ x. Ok (framed h x)) read.0
    ∙ ended_twice (12 + length text == length bytes) (fault Trailing (12 + length text)) rs (λ l. body.Curiosity l) (λ x. framed h x)
    ∙ ap (λ k. ended k bytes (framed h (body.Curiosity rs))) (sym (length-append front text))
body_begins rest bytes h (body.Expect t) short is ok e =
    let front = head_bytes 1 3 h 1 in
    let apart : bytes ≡ front ++ (to_be_bytes w64 t ++ rest) = e in
    fields_here Expect h 1 (to_be_bytes w64 t ++ rest) bytes apart is (omega arith) refl (λ k. refl)
    ∙ ap (λ q. q >>= λ x. Ok (framed h x)) (expect_here t front rest bytes apart refl ok.0 ok.1)
    ∙ ended_map (20 == length bytes) (fault Trailing 20) (body.Expect t) (λ x. framed h x)

-- bytes that begin with a frame's
pub begins : (f : Frame) (rest bytes : List ℕ) → IsWhole f → bytes ≡ frame_bytes f ++ rest → length bytes ≤ 16384 → fields_of bytes ≡ ended (length (frame_bytes f)) bytes f
begins f rest bytes is e short = body_begins rest bytes f.head f.body short is.head is.body e

same_length : (a b : List ℕ) → b ≡ a → (length a == length b) ≡ true
same_length a b e = let l : length a ≡ length b = ap length (sym e) in grind (arith, rules)

-- bytes that spell a frame decode to it
pub spelled_decodes : (bytes : List ℕ) (f : Frame) → IsFrame bytes f → frame_decoded bytes ≡ Ok f
unfolding frame_decoded
spelled_decodes bytes f is =
    let whole : bytes ≡ frame_bytes f ++ [] = is.spelled ∙ sym (append-nil (frame_bytes f)) in
    rw (not_below 16384 (length bytes) is.short) (begins f [] bytes is.whole whole is.short ∙ rw (same_length (frame_bytes f) bytes is.spelled) refl)

ended_told : (b : Bool) (e : FrameFault) (x y : Frame) → (if b then Ok x else Err e) ≡ Ok y → b ≡ true
ended_told true e x y h = refl
ended_told false e x y h = absurd (cc)

nothing : (rest : List ℕ) → length rest ≡ 0 → rest ≡ []
nothing [] h = refl
nothing (x ∷ xs) h = absurd (omega arith)

-- no spelling is a proper prefix of another
pub no_prefix : (bytes rest : List ℕ) (f g : Frame) → IsFrame bytes f → IsFrame (bytes ++ rest) g → rest ≡ []
unfolding frame_decoded
no_prefix bytes rest f g is other =
    let longer = bytes ++ rest in
    let front : longer ≡ frame_bytes f ++ rest = ap (λ l. l ++ rest) is.spelled in
    let read : fields_of longer ≡ ended (length (frame_bytes f)) longer f = begins f rest longer is.whole front other.short in
    let whole : frame_decoded longer ≡ Ok g = spelled_decodes longer g other in
    let fields : fields_of longer ≡ Ok g = rw (not_below 16384 (length longer) other.short) at whole in
    let same : (length (frame_bytes f) == length longer) ≡ true =
    ended_told (length (frame_bytes f) == length longer) (fault Trailing (length (frame_bytes f))) f g (sym read ∙ fields) in
    let size : length (frame_bytes f) ≡ length longer = eqb-true (length (frame_bytes f)) (length longer) same in
    nothing rest (omega (arith, size, ap length is.spelled, length-append bytes rest))

ok_same : (x y : Frame) (r : Result Frame FrameFault) → r ≡ Ok x → r ≡ Ok y → x ≡ y
ok_same x y r a b = cc

-- bytes spell one frame alone
pub one_frame : (bytes : List ℕ) (f g : Frame) → IsFrame bytes f → IsFrame bytes g → f ≡ g
one_frame bytes f g a b = ok_same f g (frame_decoded bytes) (spelled_decodes bytes f a) (spelled_decodes bytes g b)
