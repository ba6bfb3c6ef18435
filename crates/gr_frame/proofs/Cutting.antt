-- A piece cut into frames: nothing is lost, each part fits, and what fits is not cut
use Rattle.std.proofs.Common.{◌≡◌, ◌≢◌, ◌<◌, ◌≤◌, ◌+◌, ◌-◌, ◌^◌, ℕ, suc, List, [], ◌∷◌, ◌++◌, length, take, drop, get_or, true, false, Bool, nat_le, Some, map, ap, ap₂, refl, sym, subst, ◌∙◌, arith, rules, append_assoc, append-nil, length-append, le-leb}
use Rattle.std.specs.Prelude.{slice_get, slice_range, Result, Ok, Err, IfOk, OnOk}
use Rattle.std.specs.Int.{to_be_bytes, w64}
use Rattle.std.specs.List.{AllByRecursion}
use Rattle.std.proofs.Math.Seq.{take-add}
use Rattle.std.proofs.lemmas.Bool.{lt-leb}
use Rattle.std.proofs.lemmas.List.{drop_more, drop_all, take_more, get_or-drop, length-drop, length-take-le}
use Rattle.std.proofs.lemmas.Option.{slice_get_within, get_or_from_slice_get}
use Rattle.gr_event.specs.Event.{event_size}
use Rattle.gr_event.specs.declared.event.Event.{Event}
use Rattle.gr_tick.specs.declared.run.Run.{Run}
use Rattle.gr_tick.specs.Runs.{AreRunsFrom, StartsApart}
use Rattle.gr_tick.specs.Stored.{EndBefore}
use Rattle.gr_tick.proofs.RunLaws.{AreRunsFrom-lower}
use Rattle.gr_know.specs.declared.values.K.{K}
use Rattle.gr_know.specs.declared.values.K.TheVariants.{Q, S, D, F}
use Rattle.gr_curio.specs.declared.values.Q3.{Q3}
use Rattle.gr_curio.specs.declared.values.Q3.TheVariants.{N, C, A}
use Rattle.gr_frame.specs.declared.Body.{Body}
use Rattle.gr_frame.specs.declared.Body.TheVariants as body
use Rattle.gr_frame.specs.declared.Head.{Head}
use Rattle.gr_frame.specs.declared.Frame.{Frame}
use Rattle.gr_event.specs.Joins.{Joins, AreJoins}
use Rattle.gr_frame.specs.Bytes.{known_bytes, wanted_bytes, runs_bytes, frame_bytes, head_bytes, piece_head, head_size, known_run_size, wanted_run_size, cut_from, cut_frames}
use Rattle.gr_frame.specs.Cut.{parts_of, joined, AreFrames}
use Rattle.gr_frame.specs.Decode.{run_size, known_form, wanted_form}
use Rattle.gr_frame.specs.Form.{Form}
use Rattle.gr_frame.specs.Limits.{IsKnown, IsWanted, IsPiece, IsBody, IsHead, IsWhole, IsFrame}
use Rattle.gr_frame.proofs.Events.{length-event_bytes}
use Rattle.gr_frame.proofs.Lists.{head_sized, head_small}

module _ {V : Type 0} where
  -- Nothing is lost

  joined_from : (room : ℕ) (size : Run V → ℕ) (used : ℕ) (begun rs : List (Run V)) → joined (cut_from room size used begun rs) ≡ begun ++ rs
  unfolding cut_from
  joined_from room size used begun [] = refl
  joined_from room size used begun (r ∷ rs) =
      elim (nat_le (used + size r) 16384) as (λ b. joined (elim b [ true ↦ cut_from room size (used + size r) (begun ++ r ∷ []) rs | false ↦ begun ∷ cut_from room size (room + size r) (r ∷ []) rs ]) ≡ begun ++ r ∷ rs) [
        | true ↦ joined_from room size (used + size r) (begun ++ r ∷ []) rs ∙ append_assoc begun (r ∷ []) rs
        | false ↦ ap (λ l. begun ++ l) (joined_from room size (room + size r) (r ∷ []) rs)
      ]

  -- the parts one after another are the piece
  pub joined_parts : (room : ℕ) (size : Run V → ℕ) (rs : List (Run V)) → joined (cut_frames room size rs) ≡ rs
  unfolding cut_frames
  joined_parts room size [] = refl
  joined_parts room size (r ∷ rs) = joined_from room size (room + size r) (r ∷ []) rs

  -- Parts of a piece

  starts_front : (p : Run V) (xs ys : List (Run V)) → StartsApart p (xs ++ ys) → StartsApart p xs
  starts_front p [] ys h = tt
  starts_front p (x ∷ xs) ys h = h

  runs_front : (least : V) (from : ℕ) (xs ys : List (Run V)) → AreRunsFrom least from (xs ++ ys) → AreRunsFrom least from xs
  runs_front least from [] ys h = tt
  runs_front least from (x ∷ xs) ys h = (h.0, h.1, h.2, starts_front x xs ys h.3, runs_front least (suc x.last) xs ys h.4)

  runs_back : (least : V) (from : ℕ) (xs ys : List (Run V)) → 1 ≤ from → AreRunsFrom least from (xs ++ ys) → AreRunsFrom least 1 ys
  runs_back least from [] ys le h = AreRunsFrom-lower least 1 from ys le h
  runs_back least from (x ∷ xs) ys le h = runs_back least (suc x.last) xs ys (omega arith) h.4

  ends_front : (t : ℕ) (xs ys : List (Run V)) → EndBefore (xs ++ ys) t → EndBefore xs t
  ends_front t [] ys h = tt
  ends_front t (x ∷ xs) ys h = (h.0, ends_front t xs ys h.1)

  ends_back : (t : ℕ) (xs ys : List (Run V)) → EndBefore (xs ++ ys) t → EndBefore ys t
  ends_back t [] ys h = h
  ends_back t (x ∷ xs) ys h = ends_back t xs ys h.1

  each_front : (Fits : V → Type 0) (xs ys : List (Run V)) → AllByRecursion (λ r. Fits r.value) (xs ++ ys) → AllByRecursion (λ r. Fits r.value) xs
  each_front Fits [] ys h = tt
  each_front Fits (x ∷ xs) ys h = (h.0, each_front Fits xs ys h.1)

  each_back : (Fits : V → Type 0) (xs ys : List (Run V)) → AllByRecursion (λ r. Fits r.value) (xs ++ ys) → AllByRecursion (λ r. Fits r.value) ys
  each_back Fits [] ys h = h
  each_back Fits (x ∷ xs) ys h = each_back Fits xs ys h.1

  pub each_joined : (Fits : V → Type 0) (xs ys : List (Run V)) → AllByRecursion (λ r. Fits r.value) xs → AllByRecursion (λ r. Fits r.value) ys → AllByRecursion (λ r. Fits r.value) (xs ++ ys)
  each_joined Fits [] ys h k = k
  each_joined Fits (x ∷ xs) ys h k = (h.0, each_joined Fits xs ys h.1 k)

  piece_front : (least : V) (Fits : V → Type 0) (xs ys : List (Run V)) → xs ≢ [] → IsPiece least Fits (xs ++ ys) → IsPiece least Fits xs
  piece_front least Fits xs ys some h = record {
    some = some;
    runs = runs_front least 1 xs ys h.runs;
    upto = ends_front (2 ^ 62 + 1) xs ys h.upto;
    each = each_front Fits xs ys h.each;
  }

  piece_back : (least : V) (Fits : V → Type 0) (xs ys : List (Run V)) → ys ≢ [] → IsPiece least Fits (xs ++ ys) → IsPiece least Fits ys
  piece_back least Fits xs ys some h = record {
    some = some;
    runs = runs_back least 1 xs ys (omega arith) h.runs;
    upto = ends_back (2 ^ 62 + 1) xs ys h.upto;
    each = each_back Fits xs ys h.each;
  }

  -- the runs' bytes, cut in two
  pub runs_bytes-append : (value : V → List ℕ) (xs ys : List (Run V)) → runs_bytes value (xs ++ ys) ≡ runs_bytes value xs ++ runs_bytes value ys
  runs_bytes-append value [] ys = refl
  runs_bytes-append value (x ∷ xs) ys =
      let text = (to_be_bytes w64 x.first ++ to_be_bytes w64 x.last) ++ value x.value in
      ap (λ l. text ++ l) (runs_bytes-append value xs ys) ∙ sym (append_assoc text (runs_bytes value xs) (runs_bytes value ys))

  -- a run's size is that of its bytes, and small
  pub record IsSized (least : V) (Fits : V → Type 0) (form : Form V) : Type 0 where
    pub spelled : (r : Run V) → r.value ≢ least → form.size r ≡ run_size form r
    pub small : (r : Run V) → r.value ≢ least → Fits r.value → form.size r ≤ 8211

  pub last_bytes : (form : Form V) (begun : List (Run V)) (r : Run V) → length (runs_bytes form.bytes (begun ++ r ∷ [])) ≡ length (runs_bytes form.bytes begun) + run_size form r
  last_bytes form begun r =
      let a = to_be_bytes w64 r.first in
      let b = to_be_bytes w64 r.last in
      let c = form.bytes r.value in
      omega (
        arith,
        ap length (runs_bytes-append form.bytes begun (r ∷ [])),
        length-append (runs_bytes form.bytes begun) (runs_bytes form.bytes (r ∷ [])),
        length-append ((a ++ b) ++ c) [],
        length-append (a ++ b) c,
        length-append a b,
      )

  not_nothing : (xs : List (Run V)) (r : Run V) (ys : List (Run V)) → (xs ++ r ∷ ys) ≢ []
  not_nothing [] r ys = λ e. cc
  not_nothing (x ∷ xs) r ys = λ e. cc

  -- what holds of the run behind a front
  known_there : (least : V) (Fits : V → Type 0) (xs : List (Run V)) (r : Run V) (ys : List (Run V)) → IsPiece least Fits (xs ++ r ∷ ys) → (r.value ≢ least) × Fits r.value
  known_there least Fits xs r ys h =
      let k = piece_back least Fits xs (r ∷ ys) (λ e. cc) h in
      (k.runs.2, k.each.0)

  -- a part is a piece that fits into a frame
  abbrev pub IsPart : ℕ → V → (V → Type 0) → Form V → List (Run V) → Type 0
  IsPart room least Fits form part = IsPiece least Fits part × (room + length (runs_bytes form.bytes part) ≤ 16384)

  -- the run behind a front, given what the runs after it give
  parts_step : (least : V) (Fits : V → Type 0) (form : Form V) → IsSized least Fits form → (room : ℕ) → room ≤ 8173 → (used : ℕ) (begun : List (Run V)) (r : Run V) (rs : List (Run V)) (b : Bool) → nat_le (used + form.size r) 16384 ≡ b
      → begun ≢ [] → IsPiece least Fits (begun ++ r ∷ rs) → used ≡ room + length (runs_bytes form.bytes begun) → used ≤ 16384
      → (IsPiece least Fits ((begun ++ r ∷ []) ++ rs) → used + form.size r ≡ room + length (runs_bytes form.bytes (begun ++ r ∷ [])) → used + form.size r ≤ 16384 → AllByRecursion (IsPart room least Fits form) (cut_from room form.size (used + form.size r) (begun ++ r ∷ []) rs))
      → (IsPiece least Fits (r ∷ rs) → room + form.size r ≡ room + length (runs_bytes form.bytes (r ∷ [])) → room + form.size r ≤ 16384 → AllByRecursion (IsPart room least Fits form) (cut_from room form.size (room + form.size r) (r ∷ []) rs))
      → AllByRecursion (IsPart room least Fits form) (elim b [ true ↦ cut_from room form.size (used + form.size r) (begun ++ r ∷ []) rs | false ↦ begun ∷ cut_from room form.size (room + form.size r) (r ∷ []) rs ])
  parts_step least Fits form sized room low used begun r rs true e some h is fits more next =
      let there = known_there least Fits begun r rs h in
      let one = sized.spelled r there.0 in
      more (subst (IsPiece least Fits) (sym (append_assoc begun (r ∷ []) rs)) h) (omega (arith, is, one, last_bytes form begun r)) (grind (arith, rules))
  parts_step least Fits form sized room low used begun r rs false e some h is fits more next =
      let there = known_there least Fits begun r rs h in
      let one = sized.spelled r there.0 in
      let small = sized.small r there.0 there.1 in (
        (piece_front least Fits begun (r ∷ rs) some h, omega (arith, is)),
        next (piece_back least Fits begun (r ∷ rs) (λ k. cc) h) (omega (arith, one, last_bytes form [] r)) (omega (arith, small, low)),
      )

  parts_from : (least : V) (Fits : V → Type 0) (form : Form V) → IsSized least Fits form → (room : ℕ) → room ≤ 8173 → (used : ℕ) (begun rs : List (Run V)) → begun ≢ [] → IsPiece least Fits (begun ++ rs)
      → used ≡ room + length (runs_bytes form.bytes begun) → used ≤ 16384 → AllByRecursion (IsPart room least Fits form) (cut_from room form.size used begun rs)
  unfolding cut_from
  parts_from least Fits form sized room low used begun [] some h is fits = ((piece_front least Fits begun [] some h, omega (arith, is)), tt)
  parts_from least Fits form sized room low used begun (r ∷ rs) some h is fits =
      parts_step least Fits form sized room low used begun r rs (nat_le (used + form.size r) 16384) refl some h is fits
      (λ p q t. parts_from least Fits form sized room low (used + form.size r) (begun ++ r ∷ []) rs (not_nothing begun r []) p q t)
      (λ p q t. parts_from least Fits form sized room low (room + form.size r) (r ∷ []) rs (λ k. cc) p q t)

  -- each part of a piece is a piece that fits into a frame
  pub parts_fit : (least : V) (Fits : V → Type 0) (form : Form V) → IsSized least Fits form → (room : ℕ) → room ≤ 8173 → (rs : List (Run V)) → IsPiece least Fits rs → AllByRecursion (IsPart room least Fits form) (cut_frames room form.size rs)
  unfolding cut_frames
  parts_fit least Fits form sized room low [] h = tt
  parts_fit least Fits form sized room low (r ∷ rs) h =
      let there = known_there least Fits [] r rs h in
      parts_from least Fits form sized room low (room + form.size r) (r ∷ []) rs (λ k. cc) h
      (omega (arith, sized.spelled r there.0, last_bytes form [] r)) (omega (arith, sized.small r there.0 there.1, low))

  -- What fits is not cut

  whole_step : (least : V) (Fits : V → Type 0) (form : Form V) → IsSized least Fits form → (room : ℕ) → (used : ℕ) (begun : List (Run V)) (r : Run V) (rs : List (Run V)) (b : Bool) → nat_le (used + form.size r) 16384 ≡ b
      → IsPiece least Fits (begun ++ r ∷ rs) → used ≡ room + length (runs_bytes form.bytes begun) → room + length (runs_bytes form.bytes (begun ++ r ∷ rs)) ≤ 16384
      → (IsPiece least Fits ((begun ++ r ∷ []) ++ rs) → used + form.size r ≡ room + length (runs_bytes form.bytes (begun ++ r ∷ [])) → room + length (runs_bytes form.bytes ((begun ++ r ∷ []) ++ rs)) ≤ 16384
      → cut_from room form.size (used + form.size r) (begun ++ r ∷ []) rs ≡ ((begun ++ r ∷ []) ++ rs) ∷ [])
      → elim b [ true ↦ cut_from room form.size (used + form.size r) (begun ++ r ∷ []) rs | false ↦ begun ∷ cut_from room form.size (room + form.size r) (r ∷ []) rs ] ≡ (begun ++ r ∷ rs) ∷ []
  whole_step least Fits form sized room used begun r rs b e h is fits more =
      let regrouped : (begun ++ r ∷ []) ++ rs ≡ begun ++ r ∷ rs = append_assoc begun (r ∷ []) rs in
      let one : form.size r ≡ run_size form r = sized.spelled r (known_there least Fits begun r rs h).0 in
      let last = last_bytes form begun r in
      let size : length (runs_bytes form.bytes (begun ++ r ∷ rs)) ≡ length (runs_bytes form.bytes (begun ++ r ∷ [])) + length (runs_bytes form.bytes rs) =
      ap (λ l. length (runs_bytes form.bytes l)) (sym regrouped) ∙ ap length (runs_bytes-append form.bytes (begun ++ r ∷ []) rs)
      ∙ length-append (runs_bytes form.bytes (begun ++ r ∷ [])) (runs_bytes form.bytes rs) in
      let inside : used + form.size r ≤ 16384 = omega (arith, is, one, last, size, fits) in
      let holds : b ≡ true = sym e ∙ le-leb (used + form.size r) 16384 inside in
      let rest = more (subst (IsPiece least Fits) (sym regrouped) h) (omega (arith, is, one, last)) (subst (λ l. room + length (runs_bytes form.bytes l) ≤ 16384) (sym regrouped) fits) in
      rw holds (rest ∙ ap (λ l. l ∷ []) regrouped)

  whole_from : (least : V) (Fits : V → Type 0) (form : Form V) → IsSized least Fits form → (room : ℕ) → (used : ℕ) (begun rs : List (Run V)) → IsPiece least Fits (begun ++ rs)
      → used ≡ room + length (runs_bytes form.bytes begun) → room + length (runs_bytes form.bytes (begun ++ rs)) ≤ 16384 → cut_from room form.size used begun rs ≡ (begun ++ rs) ∷ []
  unfolding cut_from
  whole_from least Fits form sized room used begun [] h is fits = ap (λ l. l ∷ []) (sym (append-nil begun))
  whole_from least Fits form sized room used begun (r ∷ rs) h is fits =
      whole_step least Fits form sized room used begun r rs (nat_le (used + form.size r) 16384) refl h is fits
      (λ p q t. whole_from least Fits form sized room (used + form.size r) (begun ++ r ∷ []) rs p q t)

  pub whole_part : (least : V) (Fits : V → Type 0) (form : Form V) → IsSized least Fits form → (room : ℕ) → (rs : List (Run V)) → IsPiece least Fits rs → room + length (runs_bytes form.bytes rs) ≤ 16384 → cut_frames room form.size rs ≡ rs ∷ []
  unfolding cut_frames
  whole_part least Fits form sized room [] h fits = absurd (h.some refl)
  whole_part least Fits form sized room (r ∷ rs) h fits =
      whole_from least Fits form sized room (room + form.size r) (r ∷ []) rs h (omega (arith, sized.spelled r (known_there least Fits [] r rs h).0, last_bytes form [] r)) fits

  -- The place where a part ends

  pub run_there : (rs : List (Run V)) (i : ℕ) (r : Run V) → slice_get rs i ≡ Some r → drop i rs ≡ r ∷ drop (i + 1) rs
  run_there rs i r h =
      drop_more rs i r (slice_get_within rs i r h) ∙ ap (λ x. x ∷ drop (i + 1) rs) (get_or_from_slice_get rs i r r h)

  -- a part begins with its first run
  pub part_begun : (room : ℕ) (size : Run V → ℕ) (rs : List (Run V)) (start n : ℕ) (r : Run V) → slice_get rs start ≡ Some r → n ≡ size r
      → cut_from room size (room + n) (slice_range rs start (start + 1)) (drop (start + 1) rs) ≡ cut_frames room size (drop start rs)
  unfolding cut_frames
  part_begun room size rs start n r h is =
      let there : drop start rs ≡ r ∷ drop (start + 1) rs = run_there rs start r h in
      let count : start + 1 - start ≡ 1 = omega arith in
      let alone : slice_range rs start (start + 1) ≡ r ∷ [] = ap (λ k. take k (drop start rs)) count ∙ ap (λ l. take 1 l) there in
      ap₂ (λ k l. cut_from room size (room + k) l (drop (start + 1) rs)) is alone ∙ sym (ap (cut_frames room size) there)

  -- the runs of a part, with the next one
  pub range_more : (rs : List (Run V)) (start i : ℕ) (r : Run V) → slice_get rs i ≡ Some r → start ≤ i → slice_range rs start (i + 1) ≡ slice_range rs start i ++ r ∷ []
  range_more rs start i r h le =
      let inside : i < length rs = slice_get_within rs i r h in
      let more : i + 1 - start ≡ (i - start) + 1 = omega arith in
      let room : i - start < length (drop start rs) = omega (arith, length-drop start rs) in
      let place : start + (i - start) ≡ i = omega arith in
      let there : get_or (drop start rs) (i - start) r ≡ r = get_or-drop start rs (i - start) r ∙ ap (λ k. get_or rs k r) place ∙ get_or_from_slice_get rs i r r h in
      ap (λ n. take n (drop start rs)) more ∙ take_more (drop start rs) (i - start) r room ∙ ap (λ x. take (i - start) (drop start rs) ++ x ∷ []) there

  cut_more : (room : ℕ) (size : Run V → ℕ) (used : ℕ) (begun : List (Run V)) (r : Run V) (rs : List (Run V)) → nat_le (used + size r) 16384 ≡ true
      → cut_from room size used begun (r ∷ rs) ≡ cut_from room size (used + size r) (begun ++ r ∷ []) rs
  unfolding cut_from
  cut_more room size used begun r rs h = rw (cut_from, h) refl

  cut_next : (room : ℕ) (size : Run V → ℕ) (used : ℕ) (begun : List (Run V)) (r : Run V) (rs : List (Run V)) → nat_le (used + size r) 16384 ≡ false
      → cut_from room size used begun (r ∷ rs) ≡ begun ∷ cut_frames room size (r ∷ rs)
  unfolding cut_from cut_frames
  cut_next room size used begun r rs h = rw (cut_from, h) refl

  -- a run that fits goes into it
  pub part_grown : (room : ℕ) (size : Run V → ℕ) (rs : List (Run V)) (used n start i : ℕ) (r : Run V) (all : List (List (Run V))) → slice_get rs i ≡ Some r → n ≡ size r → start ≤ i → used + n ≤ 16384
      → cut_from room size used (slice_range rs start i) (drop i rs) ≡ all → cut_from room size (used + n) (slice_range rs start (i + 1)) (drop (i + 1) rs) ≡ all
  part_grown room size rs used n start i r all h is le fits so_far =
      let begun = slice_range rs start i in
      ap₂ (λ k l. cut_from room size (used + k) l (drop (i + 1) rs)) is (range_more rs start i r h le)
      ∙ sym (cut_more room size used begun r (drop (i + 1) rs) (le-leb (used + size r) 16384 (omega (arith, is, fits))))
      ∙ ap (cut_from room size used begun) (sym (run_there rs i r h)) ∙ so_far

  -- a run that does not fit begins the next one
  pub part_full : (room : ℕ) (size : Run V → ℕ) (rs : List (Run V)) (used n start i : ℕ) (r : Run V) (all : List (List (Run V))) → slice_get rs i ≡ Some r → n ≡ size r → 16384 < used + n
      → cut_from room size used (slice_range rs start i) (drop i rs) ≡ all → all ≡ slice_range rs start i ∷ cut_frames room size (drop i rs)
  part_full room size rs used n start i r all h is full so_far =
      let begun = slice_range rs start i in
      let there = run_there rs i r h in
      sym so_far ∙ ap (cut_from room size used begun) there ∙ cut_next room size used begun r (drop (i + 1) rs) (lt-leb (used + size r) 16384 (omega (arith, is, full)))
      ∙ ap (λ l. begun ∷ cut_frames room size l) (sym there)

  -- no run is left
  pub part_last : (room : ℕ) (size : Run V → ℕ) (rs : List (Run V)) (used start i end : ℕ) (all : List (List (Run V))) → i ≡ end → end ≡ length rs
      → cut_from room size used (slice_range rs start i) (drop i rs) ≡ all → all ≡ slice_range rs start end ∷ cut_frames room size (drop end rs)
  unfolding cut_from cut_frames
  part_last room size rs used start i end all same last so_far =
      let none : drop i rs ≡ [] = drop_all i rs (omega arith) in
      let nothing : drop end rs ≡ [] = drop_all end rs (omega arith) in
      sym so_far ∙ ap (cut_from room size used (slice_range rs start i)) none ∙ ap (λ k. slice_range rs start k ∷ []) same ∙ ap (λ l. slice_range rs start end ∷ cut_frames room size l) (sym nothing)

  pub none_left : (room : ℕ) (size : Run V → ℕ) (rs : List (Run V)) (i : ℕ) → length rs ≤ i → cut_frames room size (drop i rs) ≡ []
  unfolding cut_frames
  none_left room size rs i none = rw (drop_all i rs none) refl

  pub length-range : (rs : List (Run V)) (start end : ℕ) → start ≤ end → end ≤ length rs → length (slice_range rs start end) ≡ end - start
  length-range rs start end le within = length-take-le (end - start) (drop start rs) (omega (arith, length-drop start rs))

  -- the bytes of a part's runs, with the next one
  pub runs_more : (value : V → List ℕ) (rs : List (Run V)) (start i : ℕ) (r : Run V) → slice_get rs i ≡ Some r → start ≤ i
      → runs_bytes value (slice_range rs start (i + 1)) ≡ runs_bytes value (slice_range rs start i) ++ ((to_be_bytes w64 r.first ++ to_be_bytes w64 r.last) ++ value r.value)
  runs_more value rs start i r h le =
      ap (runs_bytes value) (range_more rs start i r h le) ∙ runs_bytes-append value (slice_range rs start i) (r ∷ [])
      ∙ ap (λ l. runs_bytes value (slice_range rs start i) ++ l) (append-nil ((to_be_bytes w64 r.first ++ to_be_bytes w64 r.last) ++ value r.value))

  -- the front of a piece, with one more part
  pub take_parts : (rs : List (Run V)) (start end : ℕ) → start ≤ end → take end rs ≡ take start rs ++ slice_range rs start end
  take_parts rs start end le =
      let place : end ≡ start + (end - start) = omega arith in
      ap (λ n. take n rs) place ∙ take-add start (end - start) rs

-- The two kinds of runs

known_size : (r : Run K) → r.value ≢ Q → known_run_size r ≡ run_size known_form r
known_size r some = go r.value refl some
  where
    go : (v : K) → r.value ≡ v → v ≢ Q → elim v [ D e ↦ 19 + event_size e | _ ↦ 17 ] ≡ 16 + length (known_bytes v)
    go Q is h = absurd (h refl)
    go S is h = refl
    go F is h = refl
    go (D e) is h = omega (arith, length-event_bytes e)

known_small : (r : Run K) → r.value ≢ Q → IsKnown r.value → known_run_size r ≤ 8211
known_small r some fits = go r.value fits
  where
    go : (v : K) → IsKnown v → elim v [ D e ↦ 19 + event_size e | _ ↦ 17 ] ≤ 8211
    go Q h = omega arith
    go S h = omega arith
    go F h = omega arith
    go (D e) h = omega (arith, h.short)

pub known_sized : IsSized Q IsKnown known_form
known_sized = record { spelled = known_size; small = known_small }

wanted_size : (r : Run Q3) → r.value ≢ N → wanted_run_size r ≡ run_size wanted_form r
wanted_size r some = go r.value some
  where
    go : (v : Q3) → v ≢ N → 17 ≡ 16 + length (wanted_bytes v)
    go N h = absurd (h refl)
    go C h = refl
    go A h = refl

pub wanted_sized : IsSized N IsWanted wanted_form
wanted_sized = record { spelled = wanted_size; small = λ r some fits. omega arith }

-- a run of an event
pub known_data : (r : Run K) (e : Event) (n : ℕ) → r.value ≡ D e → n ≡ event_size e → 19 + n ≡ run_size known_form r
known_data r e n is size = rw (is, size) (omega (arith, length-event_bytes e))

-- A list that more is put behind

-- what stood in front stays there
pub front_stays : {X : Type 0} (old now : List X) (x : X) (next : List X) → next ≡ now ++ x ∷ [] → take (length old) now ≡ old → take (length old) next ≡ old
front_stays {X = X} old now x next e h = ap (take (length old)) e ∙ go old now h
  where
    go : (o n : List X) → take (length o) n ≡ o → take (length o) (n ++ x ∷ []) ≡ o
    go [] n h = refl
    go (a ∷ o) [] h = absurd (empty h)
      where
        empty : [] ≡ a ∷ o → ⊥
        empty e = cc
    go (a ∷ o) (b ∷ n) h =
        let head : b ≡ a = cc in
        let rest : take (length o) n ≡ o = cc in
        ap₂ (λ y ys. y ∷ ys) head (go o n rest)

-- Frames of the parts

module _ {V : Type 0} where
  -- a part that was written, before those that are left
  pub part_made : {X : Type 0} (spell : List (Run V) → X) (frames more : List X) (part : List (Run V)) (parts left : List (List (Run V))) (all : List X)
      → more ≡ frames ++ spell part ∷ [] → parts ≡ part ∷ left → frames ++ map spell parts ≡ all → more ++ map spell left ≡ all
  part_made spell frames more part parts left all e cut so_far =
      ap (λ l. l ++ map spell left) e ∙ append_assoc frames (spell part ∷ []) (map spell left) ∙ ap (λ l. frames ++ map spell l) (sym cut) ∙ so_far

  pub all_made : {X : Type 0} (spell : List (Run V) → X) (frames : List X) (parts : List (List (Run V))) (all : List X) → parts ≡ [] → frames ++ map spell parts ≡ all → frames ≡ all
  all_made spell frames parts all none so_far = sym (append-nil frames) ∙ ap (λ l. frames ++ map spell l) (sym none) ∙ so_far

  all_heads : (h : Head) (make : List (Run V) → Body) (parts : List (List (Run V))) → AllByRecursion {X = Frame} (λ p. p.head ≡ h) (map (λ part. record { head = h; body = make part }) parts)
  all_heads h make [] = tt
  all_heads h make (p ∷ ps) = (refl, all_heads h make ps)

  -- the bytes of the parts are those of their frames
  pub spelled_parts : (value : V → List ℕ) (k : ℕ) (js : Joins) (h : Head) (make : List (Run V) → Body)
      → ((part : List (Run V)) → frame_bytes (record { head = h; body = make part }) ≡ piece_head k h (length part) js ++ runs_bytes value part)
      → (parts : List (List (Run V))) → map (λ part. piece_head k h (length part) js ++ runs_bytes value part) parts ≡ map frame_bytes (map (λ part. record { head = h; body = make part }) parts)
  spelled_parts value k js h make spelled [] = refl
  spelled_parts value k js h make spelled (p ∷ ps) = ap₂ (λ b bs. b ∷ bs) (sym (spelled p)) (spelled_parts value k js h make spelled ps)

  -- and each spells its part
  pub frames_of_parts : (least : V) (Fits : V → Type 0) (form : Form V) (k : ℕ) (js : Joins) (h : Head) (make : List (Run V) → Body)
      → ((part : List (Run V)) → frame_bytes (record { head = h; body = make part }) ≡ piece_head k h (length part) js ++ runs_bytes form.bytes part)
      → ((part : List (Run V)) → IsPiece least Fits part → IsBody (make part)) → IsHead h
      → (parts : List (List (Run V))) → AllByRecursion (IsPart (head_size js) least Fits form) parts
      → AreFrames (map (λ part. piece_head k h (length part) js ++ runs_bytes form.bytes part) parts) (map (λ part. record { head = h; body = make part }) parts)
  frames_of_parts least Fits form k js h make spelled bodies is [] each = tt
  frames_of_parts least Fits form k js h make spelled bodies is (p ∷ ps) each = (
    record {
      whole = record { head = is; body = bodies p each.0.0 };
      spelled = sym (spelled p);
      short = omega (arith, each.0.1, head_sized k (length p) h js, length-append (piece_head k h (length p) js) (runs_bytes form.bytes p));
    },
    frames_of_parts least Fits form k js h make spelled bodies is ps each.1,
  )

heads_under : (h : Head) (x : Body) → AllByRecursion {X = Frame} (λ p. p.head ≡ h) (parts_of (record { head = h; body = x }))
unfolding parts_of
heads_under h (body.Knowledge rs js) = all_heads h (λ part. body.Knowledge part js) (cut_frames (head_size js) known_run_size rs)
heads_under h (body.Curiosity rs) = all_heads h body.Curiosity (cut_frames 12 wanted_run_size rs)
heads_under h (body.Expect t) = (refl, tt)

-- all parts have the head of the frame
pub heads_kept : (f : Frame) → AllByRecursion {X = Frame} (λ p. p.head ≡ f.head) (parts_of f)
heads_kept f = heads_under f.head f.body

whole_under : (h : Head) (x : Body) → IsBody x → length (frame_bytes (record { head = h; body = x })) ≤ 16384 → parts_of (record { head = h; body = x }) ≡ record { head = h; body = x } ∷ []
unfolding parts_of frame_bytes
whole_under h (body.Knowledge rs js) is short =
    let front = piece_head 1 h (length rs) js in
    let fits : head_size js + length (runs_bytes known_bytes rs) ≤ 16384 = omega (arith, short, head_sized 1 (length rs) h js, length-append front (runs_bytes known_bytes rs)) in
    ap (map (λ part. record { head = h; body = body.Knowledge part js })) (whole_part Q IsKnown known_form known_sized (head_size js) rs is.0 fits)
whole_under h (body.Curiosity rs) is short =
    let fits : 12 + length (runs_bytes wanted_bytes rs) ≤ 16384 = omega (arith, short, length-append (head_bytes 1 2 h (length rs)) (runs_bytes wanted_bytes rs)) in
    ap (map (λ part. record { head = h; body = body.Curiosity part })) (whole_part N IsWanted wanted_form wanted_sized 12 rs is fits)
whole_under h (body.Expect t) is short = refl

-- a frame that is not too long is not cut
pub not_cut : (bytes : List ℕ) (f : Frame) → IsFrame bytes f → parts_of f ≡ f ∷ []
not_cut bytes f is = whole_under f.head f.body is.whole.body (omega (arith, is.short, ap length is.spelled))

-- Frames of a whole frame

known_spelled : (h : Head) (js : Joins) (part : List (Run K)) → frame_bytes (record { head = h; body = body.Knowledge part js }) ≡ piece_head 1 h (length part) js ++ runs_bytes known_bytes part
unfolding frame_bytes
known_spelled h js part = refl

wanted_spelled : (h : Head) (part : List (Run Q3)) → frame_bytes (record { head = h; body = body.Curiosity part }) ≡ piece_head 2 h (length part) [] ++ runs_bytes wanted_bytes part
unfolding frame_bytes
wanted_spelled h part = refl

pub known_parts : (f : Frame) (rs : List (Run K)) (js : Joins) → f.body ≡ body.Knowledge rs js → parts_of f ≡ map (λ part. record { head = f.head; body = body.Knowledge part js }) (cut_frames (head_size js) known_run_size rs)
unfolding parts_of
known_parts f rs js e = rw e refl

pub wanted_parts : (f : Frame) (rs : List (Run Q3)) → f.body ≡ body.Curiosity rs → parts_of f ≡ map (λ part. record { head = f.head; body = body.Curiosity part }) (cut_frames 12 wanted_run_size rs)
unfolding parts_of
wanted_parts f rs e = rw e refl

-- what was made of a piece of knowledge is what the cutting rule makes
pub known_cut : (f : Frame) (rs : List (Run K)) (js : Joins) (fs : List (List ℕ)) → f.body ≡ body.Knowledge rs js
    → fs ≡ map (λ part. piece_head 1 f.head (length part) js ++ runs_bytes known_bytes part) (cut_frames (head_size js) known_run_size rs) → fs ≡ map frame_bytes (parts_of f)
known_cut f rs js fs e made =
    made ∙ spelled_parts known_bytes 1 js f.head (λ part. body.Knowledge part js) (known_spelled f.head js) (cut_frames (head_size js) known_run_size rs)
    ∙ ap (map frame_bytes) (sym (known_parts f rs js e))

pub known_framed : (f : Frame) (rs : List (Run K)) (js : Joins) (fs : List (List ℕ)) → f.body ≡ body.Knowledge rs js → IsHead f.head → IsPiece Q IsKnown rs → AreJoins js
    → fs ≡ map (λ part. piece_head 1 f.head (length part) js ++ runs_bytes known_bytes part) (cut_frames (head_size js) known_run_size rs) → AreFrames fs (parts_of f)
known_framed f rs js fs e head piece are made =
    rw (made, known_parts f rs js e) (
    frames_of_parts Q IsKnown known_form 1 js f.head (λ part. body.Knowledge part js) (known_spelled f.head js) (λ part p. (p, are)) head (cut_frames (head_size js) known_run_size rs)
    (parts_fit Q IsKnown known_form known_sized (head_size js) (omega (arith, head_small js are)) rs piece)
    )

-- the same of curiosity, which has no joins
pub wanted_cut : (f : Frame) (rs : List (Run Q3)) (js : Joins) (fs : List (List ℕ)) → f.body ≡ body.Curiosity rs → js ≡ []
    → fs ≡ map (λ part. piece_head 2 f.head (length part) js ++ runs_bytes wanted_bytes part) (cut_frames (head_size js) wanted_run_size rs) → fs ≡ map frame_bytes (parts_of f)
wanted_cut f rs js fs e none made =
    made ∙ ap (λ (x : Joins). map (λ part. piece_head 2 f.head (length part) x ++ runs_bytes wanted_bytes part) (cut_frames (head_size x) wanted_run_size rs)) none
    ∙ spelled_parts wanted_bytes 2 [] f.head body.Curiosity (wanted_spelled f.head) (cut_frames 12 wanted_run_size rs) ∙ ap (map frame_bytes) (sym (wanted_parts f rs e))

pub wanted_framed : (f : Frame) (rs : List (Run Q3)) (fs : List (List ℕ)) → f.body ≡ body.Curiosity rs → IsHead f.head → IsPiece N IsWanted rs
    → fs ≡ map (λ part. piece_head 2 f.head (length part) [] ++ runs_bytes wanted_bytes part) (cut_frames 12 wanted_run_size rs) → AreFrames fs (parts_of f)
wanted_framed f rs fs e head piece made =
    rw (made, wanted_parts f rs e) (
    frames_of_parts N IsWanted wanted_form 2 [] f.head body.Curiosity (wanted_spelled f.head) (λ part p. p) head (cut_frames 12 wanted_run_size rs) (parts_fit N IsWanted wanted_form wanted_sized 12 (omega arith) rs piece)
    )

pub expect_parts : (f : Frame) (t : ℕ) → f.body ≡ body.Expect t → parts_of f ≡ f ∷ []
unfolding parts_of
expect_parts f t e = rw e refl

expect_bytes : (f : Frame) (t : ℕ) → f.body ≡ body.Expect t → frame_bytes f ≡ head_bytes 1 3 f.head 1 ++ to_be_bytes w64 t
unfolding frame_bytes
expect_bytes f t e = rw e refl

-- an Expect is one frame
pub expect_cut : (f : Frame) (t : ℕ) (bytes : List ℕ) → f.body ≡ body.Expect t → bytes ≡ head_bytes 1 3 f.head 1 ++ to_be_bytes w64 t → bytes ∷ [] ≡ map frame_bytes (parts_of f)
expect_cut f t bytes e made = ap (λ b. b ∷ []) (made ∙ sym (expect_bytes f t e)) ∙ ap (map frame_bytes) (sym (expect_parts f t e))

pub expect_framed : (f : Frame) (t : ℕ) (bytes : List ℕ) → f.body ≡ body.Expect t → IsHead f.head → 1 ≤ t → t ≤ 2 ^ 62 → bytes ≡ head_bytes 1 3 f.head 1 ++ to_be_bytes w64 t
    → AreFrames (bytes ∷ []) (parts_of f)
expect_framed f t bytes e head one upto made =
    let framed : bytes ≡ frame_bytes f = made ∙ sym (expect_bytes f t e) in
    let size : length bytes ≡ 20 = ap length made in
    let whole : IsBody f.body = subst IsBody (sym e) (one, upto) in
    subst (AreFrames (bytes ∷ [])) (sym (expect_parts f t e)) (record { whole = record { head = head; body = whole }; spelled = framed; short = omega (arith, size) }, tt)

-- Parts of a frame

-- what spells frames is not cut again
each_not_cut : (bs : List (List ℕ)) (ps : List Frame) → AreFrames bs ps → AllByRecursion {X = Frame} (λ p. parts_of p ≡ p ∷ []) ps
each_not_cut [] [] h = tt
each_not_cut [] (p ∷ ps) h = elim h [ ]
each_not_cut (b ∷ bs) [] h = elim h [ ]
each_not_cut (b ∷ bs) (p ∷ ps) h = (not_cut b p h.0, each_not_cut bs ps h.1)

parts_under : (h : Head) (x : Body) → IsHead h → IsBody x → AllByRecursion {X = Frame} (λ p. parts_of p ≡ p ∷ []) (parts_of (record { head = h; body = x }))
parts_under h (body.Knowledge rs js) head is =
    let f : Frame = record { head = h; body = body.Knowledge rs js } in
    let made = map (λ part. piece_head 1 h (length part) js ++ runs_bytes known_bytes part) (cut_frames (head_size js) known_run_size rs) in
    each_not_cut made (parts_of f) (known_framed f rs js made refl head is.0 is.1 refl)
parts_under h (body.Curiosity rs) head is =
    let f : Frame = record { head = h; body = body.Curiosity rs } in
    let made = map (λ part. piece_head 2 h (length part) [] ++ runs_bytes wanted_bytes part) (cut_frames 12 wanted_run_size rs) in
    each_not_cut made (parts_of f) (wanted_framed f rs made refl head is refl)
parts_under h (body.Expect t) head is =
    let f : Frame = record { head = h; body = body.Expect t } in
    subst (AllByRecursion {X = Frame} (λ p. parts_of p ≡ p ∷ [])) (sym (expect_parts f t refl)) (expect_parts f t refl, tt)

-- no part of a frame is cut again
pub parts_not_cut : (f : Frame) → IsWhole f → AllByRecursion {X = Frame} (λ p. parts_of p ≡ p ∷ []) (parts_of f)
parts_not_cut f is = parts_under f.head f.body is.head is.body

-- Results

-- what follows from two clauses on a value
pub if_ok_both : {T E : Type 0} (r : Result T E) (P R W : T → Type 0) → ((x : T) → P x → R x → W x) → IfOk r P → IfOk r R → IfOk r W
if_ok_both (Ok x) P R W f h k = f x h k
if_ok_both (Err e) P R W f h k = tt

pub on_ok_weaker : {T E : Type 0} (r : Result T E) (P R : Type 0) → (P → R) → OnOk r P → OnOk r R
on_ok_weaker (Ok x) P R f h = f h
on_ok_weaker (Err e) P R f h = tt
