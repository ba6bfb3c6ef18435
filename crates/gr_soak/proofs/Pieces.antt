-- Texts that are put one item after another
use Rattle.std.proofs.Common.{◌≡◌, ℕ, ◌+◌, ◌/◌, ◌%◌, ◌^◌, suc, zero, List, [], ◌∷◌, ◌++◌, ap, sym, ◌∙◌, arith, append_assoc}
use Rattle.std.specs.List.{flat_map}
use Rattle.std.proofs.lemmas.List.{append-nil}
use Rattle.std.proofs.lemmas.Grind.{flat_map-append}
use Rattle.gr_model.specs.Net.{numbers, numbers_from}
use Rattle.gr_soak.specs.Text.{stirred, after, drawn, clock_text, publish_text, delivers_text, wakes_text, first_crash_text, second_crash_text, turn_text}

numbers_on : (a n : ℕ) → numbers_from a (suc n) ≡ numbers_from a n ++ (a + n) ∷ []
numbers_on a zero = ap (λ k. k ∷ []) (let e : a ≡ a + 0 = omega arith in e)
numbers_on a (suc n) = ap (λ ks. a ∷ ks) (numbers_on (suc a) n ∙ ap (λ k. numbers_from (suc a) n ++ k ∷ []) (let e : suc a + n ≡ a + suc n = omega arith in e))

numbers_more : (n : ℕ) → numbers (n + 1) ≡ numbers n ++ n ∷ []
numbers_more n = ap numbers (let e : n + 1 ≡ suc n = omega arith in e) ∙ numbers_on 0 n ∙ ap (λ m. numbers n ++ m ∷ []) (let z : 0 + n ≡ n = omega arith in z)

-- the texts of the numbers below one more
pub texts_more : (f : ℕ → List ℕ) (n : ℕ) → flat_map f (numbers (n + 1)) ≡ flat_map f (numbers n) ++ f n
texts_more f n = ap (flat_map f) (numbers_more n) ∙ flat_map-append f (numbers n) (n ∷ []) ∙ ap (λ xs. flat_map f (numbers n) ++ xs) (append-nil (f n))

-- draws after draws
pub after_both : (x a b : ℕ) → after (after x a) b ≡ after x (a + b)
unfolding after
after_both x a zero = ap (after x) (let e : a ≡ a + 0 = omega arith in e)
after_both x a (suc b) = ap (λ y. after y 1) (after_both x a b) ∙ ap (after x) (let e : suc (a + b) ≡ a + suc b = omega arith in e)

-- one draw more
pub after_next : (x k : ℕ) → stirred (after x k) ≡ after x (k + 1)
unfolding after
after_next x k = ap (after x) (let e : suc k ≡ k + 1 = omega arith in e)

-- two pieces are one
pub both : (t0 t1 t2 a b : List ℕ) → t1 ≡ t0 ++ a → t2 ≡ t1 ++ b → t2 ≡ t0 ++ (a ++ b)
both t0 t1 t2 a b e f = f ∙ ap (λ t. t ++ b) e ∙ append_assoc t0 a b

-- the texts so far, and one more
pub one_more : (f : ℕ → List ℕ) (n : ℕ) (t0 t1 t2 a : List ℕ) → t1 ≡ t0 ++ flat_map f (numbers n) → t2 ≡ t1 ++ a → a ≡ f n → t2 ≡ t0 ++ flat_map f (numbers (n + 1))
one_more f n t0 t1 t2 a e h g = both t0 t1 t2 (flat_map f (numbers n)) a e h ∙ ap (λ xs. t0 ++ (flat_map f (numbers n) ++ xs)) g ∙ ap (λ xs. t0 ++ xs) (sym (texts_more f n))

-- what a draw gives after k others
pub drawn_next : (x k below state value : ℕ) → state ≡ after x k → value ≡ (stirred state / 2 ^ 33) % below → value ≡ drawn x (k + 1) below
drawn_next x k below state value e v = v ∙ ap (λ s. (s / 2 ^ 33) % below) (ap stirred e ∙ after_next x k)

-- the pieces of a turn
pub turn_whole : (n i x : ℕ) (t0 t1 t2 t3 t4 t5 t6 a b c : List ℕ) (x1 x2 x3 p q w : ℕ)
    → t1 ≡ t0 ++ clock_text i
    → x1 ≡ stirred x → p ≡ (stirred x / 2 ^ 33) % 200
    → x2 ≡ stirred x1 → q ≡ (stirred x1 / 2 ^ 33) % 1000
    → x3 ≡ stirred x2 → w ≡ (stirred x2 / 2 ^ 33) % 4
    → t2 ≡ t1 ++ publish_text i p q w
    → t3 ≡ t2 ++ delivers_text i x3
    → a ≡ wakes_text i → t4 ≡ t3 ++ a
    → b ≡ first_crash_text n i → t5 ≡ t4 ++ b
    → c ≡ second_crash_text n i → t6 ≡ t5 ++ c
    → t6 ≡ t0 ++ turn_text n i x
unfolding turn_text after
turn_whole n i x t0 t1 t2 t3 t4 t5 t6 a b c x1 x2 x3 p q w e1 s1 ep s2 eq s3 ew e2 e3 ea e4 eb e5 ec e6 =
    both t0 t1 t6 (clock_text i) _ e1
    (both t1 t2 t6 (publish_text i (drawn x 1 200) (drawn x 2 1000) (drawn x 3 4)) _ (e2 ∙ ap (λ y. t1 ++ publish_text i y q w) ep ∙ ap (λ y. t1 ++ publish_text i (drawn x 1 200) y w) q_is ∙ ap (λ y. t1 ++ publish_text i (drawn x 1 200) (drawn x 2 1000) y) w_is)
    (both t2 t3 t6 (delivers_text i (after x 3)) _ (e3 ∙ ap (λ y. t2 ++ delivers_text i y) x3_is)
    (both t3 t4 t6 (wakes_text i) _ (e4 ∙ ap (λ xs. t3 ++ xs) ea)
    (both t4 t5 t6 (first_crash_text n i) (second_crash_text n i) (e5 ∙ ap (λ xs. t4 ++ xs) eb) (e6 ∙ ap (λ xs. t5 ++ xs) ec)))))
  where
    q_is : q ≡ drawn x 2 1000
    q_is = eq ∙ ap (λ y. (stirred y / 2 ^ 33) % 1000) s1

    x2_is : x2 ≡ after x 2
    x2_is = s2 ∙ ap stirred s1

    w_is : w ≡ drawn x 3 4
    w_is = ew ∙ ap (λ y. (stirred y / 2 ^ 33) % 4) x2_is

    x3_is : x3 ≡ after x 3
    x3_is = s3 ∙ ap stirred x2_is
