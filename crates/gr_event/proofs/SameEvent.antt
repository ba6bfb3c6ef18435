-- The test on two events is true at equals alone, and at all equals
use Rattle.std.proofs.Common.{◌≡◌, ◌↔◌, IsTrue, ◌∙◌, ℕ, Bool, true, false, ◌&&◌, List, [], ◌∷◌, refl, sym, ap, ap₂}
use Rattle.std.specs.Prelude.{bytes_eq, nat_eq}
use Rattle.std.proofs.lemmas.Bool.{and_parts, false≢true, eqb-true, eq-eqb, and_from}
use Rattle.std.proofs.lemmas.Bool.Decides.{Decides-int_eq}
use Rattle.gr_event.specs.declared.value.Value.{Value}
use Rattle.gr_event.specs.declared.value.Value.TheVariants.{Int, Text, Bool as Truth}
use Rattle.gr_event.specs.declared.event.Event.{Event}
use Rattle.gr_event.specs.Event.{same_bool, same_value, same_event, event_bytes}
use Rattle.gr_event.specs.Limits.{IsEvent}
use Rattle.gr_event.proofs.Walking.{same_bytes}

bytes_equal : (a b : List ℕ) → bytes_eq a b ≡ true → a ≡ b
bytes_equal [] [] h = refl
bytes_equal [] (y ∷ ys) h = cc
bytes_equal (x ∷ xs) [] h = cc
bytes_equal (x ∷ xs) (y ∷ ys) h = let k = and_parts (nat_eq x y) (bytes_eq xs ys) h in ap₂ (λ z zs. z ∷ zs) (eqb-true x y k.0) (bytes_equal xs ys k.1)

pub eqb-itself : (n : ℕ) → nat_eq n n ≡ true
eqb-itself n = eq-eqb n n refl

bytes_itself : (a : List ℕ) → bytes_eq a a ≡ true
bytes_itself [] = refl
bytes_itself (x ∷ xs) = and_from (nat_eq x x) (bytes_eq xs xs) (eqb-itself x) (bytes_itself xs)

bool_equal : (a b : Bool) → same_bool a b ≡ true → a ≡ b
bool_equal true true h = refl
bool_equal true false h = cc
bool_equal false true h = cc
bool_equal false false h = refl

value_equal : (a b : Value) → same_value a b ≡ true → a ≡ b
value_equal (Int a) (Int b) h = ap (λ x. Int x) ((Decides-int_eq a b).0 h)
value_equal (Text a) (Text b) h = ap (λ x. Text x) (bytes_equal a b h)
value_equal (Truth a) (Truth b) h = ap (λ x. Truth x) (bool_equal a b h)
value_equal (Int a) (Text b) h = absurd (false≢true h)
value_equal (Int a) (Truth b) h = absurd (false≢true h)
value_equal (Text a) (Int b) h = absurd (false≢true h)
value_equal (Text a) (Truth b) h = absurd (false≢true h)
value_equal (Truth a) (Int b) h = absurd (false≢true h)
value_equal (Truth a) (Text b) h = absurd (false≢true h)

value_itself : (a : Value) → same_value a a ≡ true
value_itself (Int a) = (Decides-int_eq a a).1 refl
value_itself (Text a) = bytes_itself a
value_itself (Truth true) = refl
value_itself (Truth false) = refl

pub event_equal : (a b : Event) → same_event a b ≡ true → a ≡ b
event_equal [] [] h = refl
event_equal [] (y ∷ ys) h = absurd (false≢true h)
event_equal (x ∷ xs) [] h = absurd (false≢true h)
event_equal (x ∷ xs) (y ∷ ys) h =
    let k = and_parts (bytes_eq x.0 y.0 && same_value x.1 y.1) (same_event xs ys) h in
    let l = and_parts (bytes_eq x.0 y.0) (same_value x.1 y.1) k.0 in
    let e : x ≡ y = λ i. (bytes_equal x.0 y.0 l.0 i, value_equal x.1 y.1 l.1 i) in
    ap₂ (λ z zs. z ∷ zs) e (event_equal xs ys k.1)

pub event_itself : (a : Event) → same_event a a ≡ true
event_itself [] = refl
event_itself (x ∷ xs) = and_from (bytes_eq x.0 x.0 && same_value x.1 x.1) (same_event xs xs) (and_from (bytes_eq x.0 x.0) (same_value x.1 x.1) (bytes_itself x.0) (value_itself x.1)) (event_itself xs)

-- what the test on their bytes answers
pub same_bytes-tells : (r : Bool) (a b : List ℕ) (d e : Event) → a ≡ event_bytes d → b ≡ event_bytes e → IsEvent d → IsEvent e → r ≡ bytes_eq a b → IsTrue r ↔ (d ≡ e)
same_bytes-tells r a b d e one two is it h = (
  λ t. same_bytes d e is it (sym one ∙ bytes_equal a b (sym h ∙ t) ∙ two),
  λ k. h ∙ (ap (λ l. bytes_eq a l) (two ∙ ap (λ l. event_bytes l) (sym k) ∙ sym one) ∙ bytes_itself a),
)
