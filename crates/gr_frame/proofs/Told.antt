-- Bytes that decode to a frame spell it
use Rattle.std.proofs.Common.{◌≡◌, ◌≢◌, ◌≤◌, ◌+◌, ◌^◌, ◌==◌, ◌||◌, ◌&&◌, ℕ, suc, zero, List, [], ◌∷◌, ◌++◌, length, drop, true, false, not, Bool, nat_lt, if◌then◌else◌, Option, Some, None, Ok, Err, ap, refl, sym, subst, ◌∙◌, arith, rules, append_assoc, inl, inr, eqb-true, ap₂}
use Rattle.std.specs.Prelude.{bytes_eq}
use Rattle.std.specs.Int.{to_be_bytes, w16, w64}
use Rattle.std.specs.List.{AllByRecursion}
use Rattle.std.proofs.lemmas.List.{drop_all}
use Rattle.std.proofs.lemmas.Slice.Eq.{bytes_eq-Decides}
use Rattle.gr_tick.specs.declared.run.Run.{Run}
use Rattle.gr_tick.specs.Runs.{AreRunsFrom, StartsApart, Decides_same}
use Rattle.gr_tick.specs.Stored.{EndBefore}
use Rattle.gr_know.specs.declared.values.K.TheVariants.{Q}
use Rattle.gr_curio.specs.declared.values.Q3.TheVariants.{N}
use Rattle.gr_frame.specs.declared.Body.{Body}
use Rattle.gr_frame.specs.declared.Body.TheVariants as body
use Rattle.gr_frame.specs.declared.Head.{Head}
use Rattle.gr_frame.specs.declared.Frame.{Frame}
use Rattle.gr_frame.specs.declared.value.BodyKind.{BodyKind}
use Rattle.gr_frame.specs.declared.value.BodyKind.TheVariants.{Knowledge, JoinedKnowledge, Curiosity, Expect}
use Rattle.gr_frame.specs.declared.fault.FrameKind.TheVariants.{TooLong, BadMagic, BadVersion, BadKind, BadRange, BadOrder, Trailing}
use Rattle.gr_frame.specs.Bytes.{runs_bytes, frame_bytes, head_bytes, head_size, list_bytes}
use Rattle.gr_frame.specs.Form.{Form}
use Rattle.gr_frame.specs.Gives.{fault, ◌>>=◌}
use Rattle.gr_frame.specs.Limits.{IsKnown, IsWanted, IsPiece, IsBody, IsHead, IsFrame}
use Rattle.gr_frame.specs.Decode.{byte_at, field_at, u16_at, tick_at, is_above, goes_on, run_with_ticks, run_at, run_size, runs_at, list_at, version_number, kind_number, kind_of, joined_kind_of, kind_in, kind_at, head_at, is_Expect, count_at, expect_at, knowledge_behind, body_at, fields_of, frame_decoded, known_form, wanted_form}
use Rattle.gr_frame.proofs.Fields.{AreBytes, bind_told, else_told, then_told, either_told, byte_told, field_told, u16_told, tick_told}
use Rattle.gr_frame.proofs.Forms.{IsForm, known_is, wanted_is}
use Rattle.gr_frame.proofs.Lists.{none_are, list_told}

module _ {V : Type 0} where
  -- runs that may stand behind the one before
  abbrev pub After : V → Option (Run V) → List (Run V) → Type 0
  After least None rs = AreRunsFrom least 1 rs
  After least (Some p) rs = StartsApart p rs × AreRunsFrom least (suc p.last) rs

  -- a run that was read
  record RunTold (least : V) (Fits : V → Type 0) (form : Form V) (bytes : List ℕ) (at : ℕ) (before : Option (Run V)) (r : Run V) : Type 0 where
    spelled : drop at bytes ≡ ((to_be_bytes w64 r.first ++ to_be_bytes w64 r.last) ++ form.bytes r.value) ++ drop (at + run_size form r) bytes
    from_one : 1 ≤ r.first
    ordered : r.first ≤ r.last
    upto : r.last ≤ 2 ^ 62
    some : r.value ≢ least
    fits : Fits r.value
    above : is_above before r.first ≡ true
    apart : goes_on form.same before r.first r.value ≡ false

  run_told : (least : V) (Fits : V → Type 0) (form : Form V) → IsForm least Fits form → (bytes : List ℕ) (at : ℕ) (before : Option (Run V)) (r : Run V) → AreBytes bytes
      → run_at form bytes at before ≡ Ok r → RunTold least Fits form bytes at before r
  unfolding run_at run_with_ticks
  run_told least Fits form law bytes at before r fits h =
      let one = bind_told (tick_at bytes at 1) _ r h in
      let first = one.0 in
      let two = bind_told (tick_at bytes (at + 8) first) _ r one.2 in
      let last = two.0 in
      let three = then_told (is_above before first) (fault BadOrder at) (run_with_ticks form bytes at before first last) r two.2 in
      let four = bind_told (form.read bytes (at + 16)) _ r three.1 in
      let v = four.0 in
      let run : Run V = record { first = first; last = last; value = v } in
      let five = else_told (goes_on form.same before first v) (fault BadOrder at) (Ok run) r four.2 in
      let is : run ≡ r = let e = five.1 in cc in
      let first_is = tick_told bytes at 1 first fits one.1 in
      let last_is = tick_told bytes (at + 8) first last fits two.1 in
      let value_is = law.told bytes (at + 16) v fits four.1 in
      let middle : at + 8 + 8 ≡ at + 16 = omega arith in
      let next : at + 16 + length (form.bytes v) ≡ at + run_size form run = omega arith in
      let a = to_be_bytes w64 first in
      let b = to_be_bytes w64 last in
      let c = form.bytes v in
      let rest = drop (at + run_size form run) bytes in
      let value_spelled : drop (at + 8 + 8) bytes ≡ c ++ rest =
      ap (λ k. drop k bytes) middle ∙ value_is.0 ∙ ap (λ k. c ++ drop k bytes) next in
      let grouped : a ++ (b ++ (c ++ rest)) ≡ ((a ++ b) ++ c) ++ rest =
      sym (append_assoc a b (c ++ rest)) ∙ sym (append_assoc (a ++ b) c rest) in
      subst (RunTold least Fits form bytes at before) is (record {
        spelled = first_is.0 ∙ ap (λ l. a ++ l) (last_is.0 ∙ ap (λ l. b ++ l) value_spelled) ∙ grouped;
        from_one = first_is.1;
        ordered = last_is.1;
        upto = last_is.2;
        some = value_is.1;
        fits = value_is.2;
        above = three.0;
        apart = five.0;
      })

  -- runs that were read
  record RunsTold (least : V) (Fits : V → Type 0) (form : Form V) (bytes : List ℕ) (at n : ℕ) (before : Option (Run V)) (rs : List (Run V)) : Type 0 where
    spelled : drop at bytes ≡ runs_bytes form.bytes rs
    after : After least before rs
    upto : EndBefore rs (2 ^ 62 + 1)
    each : AllByRecursion (λ r. Fits r.value) rs
    many : length rs ≡ n

  nothing_after : (least : V) (before : Option (Run V)) → After least before []
  nothing_after least None = tt
  nothing_after least (Some p) = (tt, tt)

  differs : (same : V → V → Bool) (p : Run V) (first : ℕ) (v : V) → Decides_same same → goes_on same (Some p) first v ≡ false → first ≡ suc p.last → v ≢ p.value
  differs same p first v d h e =
      let one : (suc p.last == first) ≡ true = grind (arith, rules) in
      let two : same p.value v ≡ false = rw one at h in
      λ k. (d p.value v).1 two (sym k)

  -- a run before those that may stand behind it
  led : (least : V) (Fits : V → Type 0) (form : Form V) (bytes : List ℕ) (at : ℕ) (before : Option (Run V)) (r : Run V) (rs : List (Run V)) → Decides_same form.same
      → RunTold least Fits form bytes at before r → After least (Some r) rs → After least before (r ∷ rs)
  led least Fits form bytes at None r rs d t a = (t.from_one, t.ordered, t.some, a.0, a.1)
  led least Fits form bytes at (Some p) r rs d t a =
      let above : nat_lt p.last r.first ≡ true = t.above in
      let next : suc p.last ≤ r.first = grind (arith, rules) in
      (λ e. differs form.same p r.first r.value d t.apart e, (next, t.ordered, t.some, a.0, a.1))

  runs_told : (least : V) (Fits : V → Type 0) (form : Form V) → IsForm least Fits form → (bytes : List ℕ) (n at : ℕ) (before : Option (Run V)) (rs : List (Run V)) → AreBytes bytes
      → runs_at form bytes n at before ≡ Ok rs → RunsTold least Fits form bytes at n before rs
  unfolding runs_at
  runs_told least Fits form law bytes zero at before rs fits h =
      let one = then_told (at == length bytes) (fault Trailing at) (Ok []) rs h in
      let is : [] ≡ rs = let e = one.1 in cc in
      let end : at ≡ length bytes = eqb-true at (length bytes) one.0 in
      subst (RunsTold least Fits form bytes at zero before) is (record {
        spelled = drop_all at bytes (omega (arith, end));
        after = nothing_after least before;
        upto = tt;
        each = tt;
        many = refl;
      })
  runs_told least Fits form law bytes (suc n) at before rs fits h =
      let one = bind_told (run_at form bytes at before) _ rs h in
      let r = one.0 in
      let two = bind_told (runs_at form bytes n (at + run_size form r) (Some r)) (λ rest. Ok (r ∷ rest)) rs one.2 in
      let rest = two.0 in
      let is : r ∷ rest ≡ rs = let e = two.2 in cc in
      let t : RunTold least Fits form bytes at before r = run_told least Fits form law bytes at before r fits one.1 in
      let ts : RunsTold least Fits form bytes (at + run_size form r) n (Some r) rest = runs_told least Fits form law bytes n (at + run_size form r) (Some r) rest fits two.1 in
      subst (RunsTold least Fits form bytes at (suc n) before) is (record {
        spelled = t.spelled ∙ ap (λ l. ((to_be_bytes w64 r.first ++ to_be_bytes w64 r.last) ++ form.bytes r.value) ++ l) ts.spelled;
        after = led least Fits form bytes at before r rest law.decides t ts.after;
        upto = (omega (arith, t.upto), ts.upto);
        each = (t.fits, ts.each);
        many = ap suc ts.many;
      })

  is_some : (rs : List (Run V)) (n : ℕ) → length rs ≡ n → (n == 0) ≡ false → rs ≢ []
  is_some rs n l h e = let none : n ≡ 0 = sym l ∙ ap length e in absurd (grind (arith, rules))

  piece_told : (least : V) (Fits : V → Type 0) (form : Form V) → IsForm least Fits form → (bytes : List ℕ) (n at : ℕ) (rs : List (Run V)) → AreBytes bytes → (n == 0) ≡ false
      → runs_at form bytes n at None ≡ Ok rs → (drop at bytes ≡ runs_bytes form.bytes rs) × IsPiece least Fits rs × (n ≡ length rs)
  piece_told least Fits form law bytes n at rs fits some h =
      let t : RunsTold least Fits form bytes at n None rs = runs_told least Fits form law bytes n at None rs fits h in
      (t.spelled, record { some = is_some rs n t.many some; runs = t.after; upto = t.upto; each = t.each }, sym t.many)

-- The fields before the body

-- the number and the version of a kind
abbrev IsNumbered : ℕ → ℕ → BodyKind → Type 0
IsNumbered v k b = (v ≡ version_number b) × (k ≡ kind_number b)

number_told : (k : ℕ) (b : BodyKind) → kind_of k ≡ Ok b → IsNumbered 1 k b
number_told k b h =
    elim (either_told (k == 1) (Ok Knowledge) _ b h) [
      | inl j ↦ let is : Knowledge ≡ b = let e = j.1 in cc in (ap version_number is, eqb-true k 1 j.0 ∙ ap kind_number is)
      | inr j ↦ elim (either_told (k == 2) (Ok Curiosity) _ b j.1) [
        | inl i ↦ let is : Curiosity ≡ b = let e = i.1 in cc in (ap version_number is, eqb-true k 2 i.0 ∙ ap kind_number is)
        | inr i ↦ elim (either_told (k == 3) (Ok Expect) (Err (fault BadKind 3)) b i.1) [
          | inl g ↦ let is : Expect ≡ b = let e = g.1 in cc in (ap version_number is, eqb-true k 3 g.0 ∙ ap kind_number is)
          | inr g ↦ absurd (let e = g.1 in cc)
        ]
      ]
    ]

joined_told : (k : ℕ) (b : BodyKind) → joined_kind_of k ≡ Ok b → IsNumbered 2 k b
joined_told k b h =
    let one = then_told (k == 1) (fault BadKind 3) (Ok JoinedKnowledge) b h in
    let is : JoinedKnowledge ≡ b = let e = one.1 in cc in
    (ap version_number is, eqb-true k 1 one.0 ∙ ap kind_number is)

-- the kind behind a version
pub version_told : (bytes : List ℕ) (v : ℕ) (b : BodyKind) → kind_in bytes v ≡ Ok b → (k : ℕ) × (byte_at bytes 3 ≡ Ok k) × (v ≡ version_number b) × (k ≡ kind_number b)
version_told bytes v b h =
    elim (either_told (v == 1) (byte_at bytes 3 >>= kind_of) _ b h) [
      | inl j ↦ let one = bind_told (byte_at bytes 3) kind_of b j.1 in
          let n = number_told one.0 b one.2 in
          (one.0, one.1, eqb-true v 1 j.0 ∙ n.0, n.1)
      | inr j ↦ elim (either_told (v == 2) (byte_at bytes 3 >>= joined_kind_of) (Err (fault BadVersion 2)) b j.1) [
        | inl i ↦ let one = bind_told (byte_at bytes 3) joined_kind_of b i.1 in
            let n = joined_told one.0 b one.2 in
            (one.0, one.1, eqb-true v 2 i.0 ∙ n.0, n.1)
        | inr i ↦ absurd (let e = i.1 in cc)
      ]
    ]

kind_told : (bytes : List ℕ) (b : BodyKind) → kind_at bytes ≡ Ok b → bytes ≡ 71 ∷ (75 ∷ (version_number b ∷ (kind_number b ∷ drop 4 bytes)))
unfolding kind_at
kind_told bytes b h =
    let one = bind_told (field_at bytes 0 2) _ b h in
    let letters = one.0 in
    let two = bind_told (if bytes_eq letters (71 ∷ (75 ∷ [])) then byte_at bytes 2 else Err (fault BadMagic 0)) _ b one.2 in
    let three = then_told (bytes_eq letters (71 ∷ (75 ∷ []))) (fault BadMagic 0) (byte_at bytes 2) two.0 two.1 in
    let behind = version_told bytes two.0 b two.2 in
    let k = behind.0 in
    let spelled : letters ≡ 71 ∷ (75 ∷ []) = (bytes_eq-Decides letters (71 ∷ (75 ∷ []))).0 three.0 in
    (field_told bytes 0 2 letters one.1).0 ∙ ap (λ l. l ++ drop 2 bytes) spelled
    ∙ ap (λ l. 71 ∷ (75 ∷ l)) (byte_told bytes 2 two.0 three.1 ∙ ap (λ n. n ∷ drop 3 bytes) behind.2)
    ∙ ap (λ l. 71 ∷ (75 ∷ (version_number b ∷ l))) (byte_told bytes 3 k behind.1 ∙ ap (λ n. n ∷ drop 4 bytes) behind.3)

head_told : (bytes : List ℕ) (h : Head) → AreBytes bytes → head_at bytes ≡ Ok h
    → (drop 4 bytes ≡ to_be_bytes w16 h.from ++ (to_be_bytes w16 h.to ++ (to_be_bytes w16 h.publisher ++ drop 10 bytes))) × IsHead h
unfolding head_at
head_told bytes h fits e =
    let one = bind_told (u16_at bytes 4) _ h e in
    let two = bind_told (u16_at bytes 6) _ h one.2 in
    let three = bind_told (u16_at bytes 8) _ h two.2 in
    let made : Head = record { from = one.0; to = two.0; publisher = three.0 } in
    let is : made ≡ h = let k = three.2 in cc in
    let a = u16_told bytes 4 one.0 fits one.1 in
    let b = u16_told bytes 6 two.0 fits two.1 in
    let c = u16_told bytes 8 three.0 fits three.1 in
    let P = λ (x : Head). (drop 4 bytes ≡ to_be_bytes w16 x.from ++ (to_be_bytes w16 x.to ++ (to_be_bytes w16 x.publisher ++ drop 10 bytes))) × IsHead x in
    subst P is (
      a.0 ∙ ap (λ l. to_be_bytes w16 one.0 ++ l) (b.0 ∙ ap (λ l. to_be_bytes w16 two.0 ++ l) c.0),
      record { from = a.1; to = b.1; publisher = c.1 },
    )

counted : (x y z : Bool) → (x || (y && not z)) ≡ false → (x ≡ false) × (y ≡ true → z ≡ true)
counted true y z h = absurd (cc)
counted false true true h = (refl, λ e. refl)
counted false true false h = absurd (cc)
counted false false z h = (refl, λ e. absurd (cc))

count_told : (bytes : List ℕ) (b : BodyKind) (n : ℕ) → AreBytes bytes → count_at bytes b ≡ Ok n
    → (drop 10 bytes ≡ to_be_bytes w16 n ++ drop 12 bytes) × ((n == 0) ≡ false) × (is_Expect b ≡ true → n ≡ 1)
unfolding count_at
count_told bytes b n fits h =
    let one = bind_told (u16_at bytes 10) _ n h in
    let m = one.0 in
    let two = else_told (m == 0 || (is_Expect b && not (m == 1))) (fault BadRange 10) (Ok m) n one.2 in
    let is : m ≡ n = let e = two.1 in cc in
    let c = counted (m == 0) (is_Expect b) (m == 1) two.0 in
    subst (λ (k : ℕ). (drop 10 bytes ≡ to_be_bytes w16 k ++ drop 12 bytes) × ((k == 0) ≡ false) × (is_Expect b ≡ true → k ≡ 1)) is
    ((u16_told bytes 10 m fits one.1).0, c.0, λ e. eqb-true m 1 (c.1 e))

expect_told : (bytes : List ℕ) (x : Body) → AreBytes bytes → expect_at bytes ≡ Ok x
    → (t : ℕ) × (x ≡ body.Expect t) × (drop 12 bytes ≡ to_be_bytes w64 t) × (1 ≤ t) × (t ≤ 2 ^ 62)
unfolding expect_at
expect_told bytes x fits h =
    let one = bind_told (tick_at bytes 12 1) _ x h in
    let t = one.0 in
    let two = then_told (20 == length bytes) (fault Trailing 20) (Ok (body.Expect t)) x one.2 in
    let is : body.Expect t ≡ x = let e = two.1 in cc in
    let end : 20 ≡ length bytes = eqb-true 20 (length bytes) two.0 in
    let tick = tick_told bytes 12 1 t fits one.1 in
    let none : drop 20 bytes ≡ [] = drop_all 20 bytes (omega (arith, end)) in
    (t, sym is, tick.0 ∙ ap (λ l. to_be_bytes w64 t ++ l) none, tick.1, tick.2)

-- Frames

-- what stands before the body
headed : (bytes rest : List ℕ) (v k n : ℕ) (h : Head) → bytes ≡ 71 ∷ (75 ∷ (v ∷ (k ∷ drop 4 bytes)))
    → drop 4 bytes ≡ to_be_bytes w16 h.from ++ (to_be_bytes w16 h.to ++ (to_be_bytes w16 h.publisher ++ drop 10 bytes))
    → drop 10 bytes ≡ to_be_bytes w16 n ++ drop 12 bytes → drop 12 bytes ≡ rest → bytes ≡ head_bytes v k h n ++ rest
headed bytes rest v k n h a b c d =
    let counted : drop 10 bytes ≡ to_be_bytes w16 n ++ rest = c ∙ ap (λ l. to_be_bytes w16 n ++ l) d in
    let named = b ∙ ap (λ l. to_be_bytes w16 h.from ++ (to_be_bytes w16 h.to ++ (to_be_bytes w16 h.publisher ++ l))) counted in
    a ∙ ap (λ l. 71 ∷ (75 ∷ (v ∷ (k ∷ l)))) named

-- the body behind its head
abbrev BodyTold : List ℕ → BodyKind → Head → ℕ → Body → Type 0
BodyTold bytes b h n x = ((drop 12 bytes ≡ drop 12 (frame_bytes (record { head = h; body = x }))) × (frame_bytes (record { head = h; body = x }) ≡ head_bytes (version_number b) (kind_number b) h n ++ drop 12 (frame_bytes (record { head = h; body = x })))) × IsBody x

body_told : (bytes : List ℕ) (b : BodyKind) (h : Head) (n : ℕ) (x : Body) → AreBytes bytes → (n == 0) ≡ false → (is_Expect b ≡ true → n ≡ 1)
    → body_at bytes b n ≡ Ok x → BodyTold bytes b h n x
unfolding body_at knowledge_behind frame_bytes
body_told bytes Knowledge h n x fits some one e =
    let read = bind_told (runs_at known_form bytes n 12 None) (λ rs. Ok (body.Knowledge rs [])) x e in
    let rs = read.0 in
    let piece = piece_told Q IsKnown known_form known_is bytes n 12 rs fits some read.1 in
    let is : body.Knowledge rs [] ≡ x = let k = read.2 in cc in
    subst (BodyTold bytes Knowledge h n) is ((piece.0, ap (λ k. head_bytes 1 1 h k ++ runs_bytes known_form.bytes rs) (sym piece.2)), (piece.1, none_are))
body_told bytes JoinedKnowledge h n x fits some one e =
    let list = bind_told (list_at bytes) (knowledge_behind bytes n) x e in
    let js = list.0 in
    let read = bind_told (runs_at known_form bytes n (head_size js) None) (λ rs. Ok (body.Knowledge rs js)) x list.2 in
    let rs = read.0 in
    let told = list_told bytes js fits list.1 in
    let piece = piece_told Q IsKnown known_form known_is bytes n (head_size js) rs fits some read.1 in
    let text = list_bytes js ++ runs_bytes known_form.bytes rs in
    let is : body.Knowledge rs js ≡ x = let k = read.2 in cc in
    subst (BodyTold bytes JoinedKnowledge h n) is (
      (told.0 ∙ ap (λ l. list_bytes js ++ l) piece.0, ap₂ (λ v k. head_bytes v 1 h k ++ text) told.1 (sym piece.2)),
      (piece.1, told.2),
    )
body_told bytes Curiosity h n x fits some one e =
    let read = bind_told (runs_at wanted_form bytes n 12 None) (λ rs. Ok (body.Curiosity rs)) x e in
    let rs = read.0 in
    let piece = piece_told N IsWanted wanted_form wanted_is bytes n 12 rs fits some read.1 in
    let is : body.Curiosity rs ≡ x = let k = read.2 in cc in
    subst (BodyTold bytes Curiosity h n) is ((piece.0, ap (λ k. head_bytes 1 2 h k ++ runs_bytes wanted_form.bytes rs) (sym piece.2)), piece.1)
body_told bytes Expect h n x fits some one e =
    let read = expect_told bytes x fits e in
    subst (BodyTold bytes Expect h n) (sym read.1) ((read.2, ap (λ k. head_bytes 1 3 h k ++ to_be_bytes w64 read.0) (sym (one refl))), (read.3, read.4))

at_most : (n k : ℕ) → nat_lt k n ≡ false → n ≤ k
at_most n k h = grind (arith, rules)

-- bytes that decode to a frame spell it
pub decoded_spells : (bytes : List ℕ) (f : Frame) → AreBytes bytes → frame_decoded bytes ≡ Ok f → IsFrame bytes f
unfolding frame_decoded fields_of
decoded_spells bytes f fits h =
    let short = else_told (nat_lt 16384 (length bytes)) (fault TooLong 16384) (fields_of bytes) f h in
    let one = bind_told (kind_at bytes) _ f short.1 in
    let b = one.0 in
    let two = bind_told (head_at bytes) _ f one.2 in
    let three = bind_told (count_at bytes b) _ f two.2 in
    let n = three.0 in
    let four = bind_told (body_at bytes b n) _ f three.2 in
    let made : Frame = record { head = two.0; body = four.0 } in
    let is : made ≡ f = let k = four.2 in cc in
    let head = head_told bytes two.0 fits two.1 in
    let count = count_told bytes b n fits three.1 in
    let body = body_told bytes b two.0 n four.0 fits count.1 count.2 four.1 in
    subst (IsFrame bytes) is (record {
      whole = record { head = head.1; body = body.1 };
      spelled = headed bytes (drop 12 (frame_bytes made)) (version_number b) (kind_number b) n two.0 (kind_told bytes b one.1) head.0 count.0 body.0.0 ∙ sym body.0.1;
      short = at_most (length bytes) 16384 short.0;
    })
