-- Where a text and what was told part: the walk over both finds the line that stands there
use Rattle.std.proofs.Common.{◌≡◌, ℕ, suc, ◌+◌, ◌-◌, ◌<◌, Bool, true, false, List, [], ◌∷◌, ◌++◌, length, take, drop, get_or, Option, Some, None, is_some, refl, sym, ap, ap₂, ◌∙◌, arith, nat_eq, append_assoc, append-nil, take-add, length-drop}
use Rattle.std.specs.Prelude.{if◌then◌else◌, IsSome, IfOk, Result, Ok, Err}
use Rattle.std.proofs.lemmas.Bool.{eq-eqb}
use Rattle.std.proofs.lemmas.List.{take_rest}
use Rattle.std.proofs.lemmas.Grind.{take_at_read}
use Rattle.gr_audit.specs.Verdict.{first_wrong}
use Rattle.gr_audit.specs.Compared.{ComparedView, told_of, ends_in, wrong_by, IsOther}
use Rattle.gr_audit.proofs.Wrong.{none}

-- the lines that end so far, a byte at a time
one_more : (b : Bool) (n k : ℕ) → (if b then suc n else n) + k ≡ n + (if b then suc k else k)
one_more true n k = omega arith
one_more false n k = refl

step : (n x : ℕ) (s xs ys : List ℕ) → first_wrong (if nat_eq x 10 then suc n else n) xs ys ≡ Some ((if nat_eq x 10 then suc n else n) + ends_in s)
    → first_wrong n (x ∷ xs) (x ∷ ys) ≡ Some (n + ends_in (x ∷ s))
step n x s xs ys e =
    ap (λ b. if b then first_wrong (if nat_eq x 10 then suc n else n) xs ys else Some n) (eq-eqb x x refl)
    ∙ (e ∙ ap Some (one_more (nat_eq x 10) n (ends_in s)))

none_before : (n : ℕ) → Some n ≡ Some (n + 0)
none_before n = ap Some (omega arith)

-- a byte is another one
at_byte : (n : ℕ) (s left : List ℕ) (byte : ℕ) (rest : List ℕ) → IsOther (Some byte) left → first_wrong n (s ++ left) (s ++ byte ∷ rest) ≡ Some (n + ends_in s)
at_byte n [] [] byte rest h = none_before n
at_byte n [] (next ∷ left) byte rest h =
    ap (λ b. if b then first_wrong (if nat_eq next 10 then suc n else n) left rest else Some n) h ∙ none_before n
at_byte n (x ∷ s) left byte rest h =
    step n x s (s ++ left) (s ++ byte ∷ rest) (at_byte (if nat_eq x 10 then suc n else n) s left byte rest h)

-- more of the text is left
at_end : (n : ℕ) (s left : List ℕ) (next : ℕ) → first_wrong n (s ++ next ∷ left) s ≡ Some (n + ends_in s)
at_end n [] left next = none_before n
at_end n (x ∷ s) left next = step n x s (s ++ next ∷ left) s (at_end (if nat_eq x 10 then suc n else n) s left next)

abbrev told_by : List ℕ → Option ℕ → List ℕ
told_by same wrong = elim wrong [ None ↦ same | Some byte ↦ same ++ byte ∷ [] ]

-- all was told
whole : (n : ℕ) (same left : List ℕ) (wrong : Option ℕ) → IsOther wrong left → first_wrong n (same ++ left) (told_by same wrong) ≡ wrong_by n same left wrong
whole n same [] None h = ap (λ xs. first_wrong n xs same) (append-nil same) ∙ none n same
whole n same (next ∷ left) None h = at_end n same left next
whole n same left (Some byte) h = at_byte n same left byte [] h

pub wrong_whole : (n : ℕ) (same left text expected : List ℕ) (wrong : Option ℕ) → IsOther wrong left → same ++ left ≡ text → told_by same wrong ≡ expected → wrong_by n same left wrong ≡ first_wrong n text expected
wrong_whole n same left text expected wrong h t e = sym (whole n same left wrong h) ∙ ap₂ (first_wrong n) t e

-- a front was told, up to a byte that is another one
cut : (n : ℕ) (same left rest : List ℕ) (wrong : Option ℕ) → IsOther wrong left → IsSome wrong → first_wrong n (same ++ left) (told_by same wrong ++ rest) ≡ wrong_by n same left wrong
cut n same left rest None h some = absurd (cc)
cut n same left rest (Some byte) h some = ap (first_wrong n (same ++ left)) (append_assoc same (byte ∷ []) rest) ∙ (at_byte n same left byte rest h)

pub wrong_cut : (n : ℕ) (same left rest text expected : List ℕ) (wrong : Option ℕ) → IsOther wrong left → IsSome wrong → same ++ left ≡ text → told_by same wrong ++ rest ≡ expected
    → wrong_by n same left wrong ≡ first_wrong n text expected
wrong_cut n same left rest text expected wrong h some t e = sym (cut n same left rest wrong h some) ∙ ap₂ (first_wrong n) t e

-- What is told goes on

pub none_told : (same left : List ℕ) (wrong : Option ℕ) (faults : ℕ) (now : ComparedView) (b : Bool) → record { same = same; left = left; wrong = wrong; faults = faults } ≡ now → b ≡ is_some wrong → b ≡ false
    → told_of now ≡ same
none_told same left None faults now b view is h = ap told_of (sym view)
none_told same left (Some byte) faults now b view is h = absurd (cc)

pub told_on : (text piece bytes before : List ℕ) (at same : ℕ) → before ≡ take at text → piece ≡ take (length text - at) (drop at text) → take same piece ≡ take same bytes → take (at + same) text ≡ before ++ take same bytes
told_on text piece bytes before at same b p e = take-add at same text ∙ ap₂ (λ x y. x ++ y) (sym b) (ap (take same) (sym (p ∙ take_rest text at)) ∙ e)

pub told_wrong : (text piece bytes before : List ℕ) (at same : ℕ) → before ≡ take at text → piece ≡ take (length text - at) (drop at text) → take same piece ≡ take same bytes → same < length bytes
    → take (at + same) text ++ get_or bytes same 0 ∷ [] ≡ before ++ take (same + 1) bytes
told_wrong text piece bytes before at same b p e lt =
    let more = take_at_read bytes same 0 lt in
    ap (λ z. z ++ get_or bytes same 0 ∷ []) (told_on text piece bytes before at same b p e)
    ∙ (append_assoc before (take same bytes) (get_or bytes same 0 ∷ []) ∙ ap (λ z. before ++ z) (sym more.1))

-- the line

pub at_byte_line : (first : ℕ) (same left : List ℕ) (wrong : Option ℕ) (b : Bool) → b ≡ is_some wrong → b ≡ true → Some (first + ends_in same) ≡ wrong_by first same left wrong
at_byte_line first same left None b is h = absurd (cc)
at_byte_line first same [] (Some byte) b is h = refl
at_byte_line first same (next ∷ left) (Some byte) b is h = refl

left_line : (first : ℕ) (same left : List ℕ) (wrong : Option ℕ) → 0 < length left → Some (first + ends_in same) ≡ wrong_by first same left wrong
left_line first same [] wrong h = absurd (omega (arith, h))
left_line first same (next ∷ left) None h = refl
left_line first same (next ∷ left) (Some byte) h = refl

pub at_end_line : (first at : ℕ) (text : List ℕ) (wrong : Option ℕ) → at < length text → Some (first + ends_in (take at text)) ≡ wrong_by first (take at text) (drop at text) wrong
at_end_line first at text wrong lt = left_line first (take at text) (drop at text) wrong (omega (arith, lt, length-drop at text))

pub if_ok_is : {T E : Type 0} (r : Result T E) (x y : T) → IfOk r (λ z. z ≡ x) → x ≡ y → IfOk r (λ z. z ≡ y)
if_ok_is (Ok z) x y h e = h ∙ e
if_ok_is (Err f) x y h e = tt
