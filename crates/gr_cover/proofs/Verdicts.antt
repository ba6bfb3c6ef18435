-- The candidates tell: one filter covers another exactly where no candidate is matched by the other alone
use Rattle.std.proofs.Common.{◌≡◌, ℕ, ◌↔◌, ◌⊎◌, ◌≤◌, ◌<◌, Bool, true, false, not, ◌&&◌, List, [], ◌∷◌, ◌++◌, Option, Some, None, refl, sym, ap, ◌∙◌, subst, inl, inr, arith, cond}
use Rattle.std.specs.Prelude.{find, nat_le}
use Rattle.std.specs.List.{AllByRecursion}
use Rattle.std.proofs.lemmas.Bool.{false≢true, and_parts, and_from, leb-true, leb-false, not-true}
use Rattle.gr_event.specs.declared.event.Event.{Event}
use Rattle.gr_event.specs.Limits.{IsEvent}
use Rattle.gr_filter.specs.Tree.{Tree}
use Rattle.gr_filter.specs.Truth.{is_true, matches}
use Rattle.gr_filter.specs.Written.{IsWritten}
use Rattle.gr_cover.specs.declared.attribute.Attribute.{Attribute}
use Rattle.gr_cover.specs.declared.cover.Cover.{Cover}
use Rattle.gr_cover.specs.declared.cover.Cover.TheVariants.{Yes, No, Unknown}
use Rattle.gr_cover.specs.Covering.{covered}
use Rattle.gr_cover.specs.Mentions.{mentions, is_plain}
use Rattle.gr_cover.specs.Candidates.{names_of, parts, candidates}
use Rattle.gr_cover.specs.Answer.{pair_attributes, is_plain_pair, pair_parts, differs, verdict, answer, IsDecided, TellsApart}
use Rattle.gr_cover.proofs.Agreeing.{all_parts, same_truth}
use Rattle.gr_cover.proofs.Rising.{Stands, at_one}
use Rattle.gr_cover.proofs.Choosing.{Candidate, candidate_of}
use Rattle.gr_cover.proofs.Valid.{all_both, mentions_written, all_spared, candidates_valid}

-- Finding

none_found : {X : Type 0} (test : X → Bool) (x : X) (xs : List X) → find test xs ≡ None → Stands x xs → test x ≡ false
none_found test x [] h s = absurd s
none_found test x (y ∷ ys) h s = go (test y) refl h s (none_found test x ys)
  where
    go : (b : Bool) → test y ≡ b → cond b (Some y) (find test ys) ≡ None → (x ≡ y) ⊎ Stands x ys → (find test ys ≡ None → Stands x ys → test x ≡ false) → test x ≡ false
    go true e k t later = absurd (cc)
    go false e k (inl p) later = ap test p ∙ e
    go false e k (inr t) later = later k t

-- what was found passes the test and is one of the list
record Found {X : Type 0} (test : X → Bool) (x : X) (xs : List X) : Type 0 where
  passes : test x ≡ true
  stands : Stands x xs

found : {X : Type 0} (test : X → Bool) (x : X) (xs : List X) → find test xs ≡ Some x → Found test x xs
found test x [] h = absurd (cc)
found test x (y ∷ ys) h = go (test y) refl h (found test x ys)
  where
    go : (b : Bool) → test y ≡ b → cond b (Some y) (find test ys) ≡ Some x → (find test ys ≡ Some x → Found test x ys) → Found test x (y ∷ ys)
    go true e k later = let p : x ≡ y = cc in record { passes = ap test p ∙ e; stands = inl p }
    go false e k later = let f = later k in record { passes = f.passes; stands = inr f.stands }

-- Two filters

-- what is known of two filters that can be decided
record Pair (wide narrow : Tree) : Type 0 where
  wide_plain : is_plain wide ≡ true
  narrow_plain : is_plain narrow ≡ true
  few : pair_parts wide narrow ≤ 4096

pair_of : (wide narrow : Tree) → IsDecided wide narrow → Pair wide narrow
pair_of wide narrow d =
    let b = and_parts (is_plain wide) (is_plain narrow) d.plain in
    record { wide_plain = b.0; narrow_plain = b.1; few = d.few }

-- the candidates of two filters are events
pub pair_valid : (wide narrow : Tree) → IsWritten wide → IsWritten narrow → IsDecided wide narrow → AllByRecursion IsEvent (candidates (pair_attributes wide narrow))
pair_valid wide narrow w n d =
    let p = pair_of wide narrow d in
    candidates_valid (mentions wide ++ mentions narrow) (all_both _ (mentions wide) (mentions narrow) (mentions_written wide w) (mentions_written narrow n)) p.few

-- the same, of the names as they were gathered
pub valid_at : (wide narrow : Tree) (names names_2 : List Attribute) (p : ℕ) → names ≡ pair_attributes wide narrow → names_2 ≡ pair_attributes wide narrow
    → IsWritten wide → IsWritten narrow → p ≡ parts names_2 → p ≤ 4096 → AllByRecursion IsEvent (candidates names)
valid_at wide narrow names names_2 p q q_2 w n e few =
    let is : pair_parts wide narrow ≤ 4096 = subst (λ k. k ≤ 4096) (e ∙ ap parts q_2) few in
    subst (λ z. AllByRecursion IsEvent (candidates z)) (sym q)
    (candidates_valid (mentions wide ++ mentions narrow) (all_both _ (mentions wide) (mentions narrow) (mentions_written wide w) (mentions_written narrow n)) is)

-- where no candidate tells, wide covers narrow
none_covers : (wide narrow : Tree) → IsWritten wide → IsWritten narrow → Pair wide narrow → find (differs wide narrow) (candidates (pair_attributes wide narrow)) ≡ None → covered wide narrow
none_covers wide narrow w n p h e is m =
    let ms = mentions wide ++ mentions narrow in
    let c : Candidate ms e = candidate_of ms e is.pairs.each (all_spared ms p.few) in
    let parts = all_parts _ (mentions wide) (mentions narrow) c.alike in
    let same_wide = ap is_true (same_truth wide e c.event w p.wide_plain parts.0) in
    let same_narrow = ap is_true (same_truth narrow e c.event n p.narrow_plain parts.1) in
    same_wide ∙ told (matches narrow c.event) (matches wide c.event) (sym same_narrow ∙ m) (none_found (differs wide narrow) c.event (candidates (pair_attributes wide narrow)) h c.stands)
  where
    told : (a b : Bool) → a ≡ true → a && not b ≡ false → b ≡ true
    told a true q r = refl
    told a false q r = absurd (false≢true (sym r ∙ and_from a true q refl))

-- where a candidate tells, it does not
some_tells : (wide narrow : Tree) (e : Event) → IsWritten wide → IsWritten narrow → IsDecided wide narrow → find (differs wide narrow) (candidates (pair_attributes wide narrow)) ≡ Some e → TellsApart wide narrow (No e)
some_tells wide narrow e w n d h =
    let f = found (differs wide narrow) e (candidates (pair_attributes wide narrow)) h in
    let k = and_parts (matches narrow e) (not (matches wide e)) f.passes in
    (at_one IsEvent e (candidates (pair_attributes wide narrow)) (pair_valid wide narrow w n d) f.stands, k.0, not-true (matches wide e) k.1)

-- The answer

-- a property of the answer, by its cases
answer_cases : (P : Cover → Type 0) (wide narrow : Tree)
    → (IsDecided wide narrow → P (verdict (find (differs wide narrow) (candidates (pair_attributes wide narrow)))))
    → ((IsDecided wide narrow → ⊥) → is_plain_pair wide narrow ≡ true → 4096 < pair_parts wide narrow → P (Unknown (pair_parts wide narrow)))
    → ((IsDecided wide narrow → ⊥) → is_plain_pair wide narrow ≡ false → P (Unknown 0))
    → P (answer wide narrow)
answer_cases P wide narrow decided many other = outer (is_plain_pair wide narrow) refl
  where
    inner : (b : Bool) → is_plain_pair wide narrow ≡ true → nat_le (pair_parts wide narrow) 4096 ≡ b → P (cond b (verdict (find (differs wide narrow) (candidates (pair_attributes wide narrow)))) (Unknown (pair_parts wide narrow)))
    inner true p e = decided (record { plain = p; few = leb-true (pair_parts wide narrow) 4096 e })
    inner false p e =
        let l = leb-false (pair_parts wide narrow) 4096 e in
        many (λ d. let f = d.few in absurd (omega (arith, l, f))) p (omega (arith, l))

    outer : (b : Bool) → is_plain_pair wide narrow ≡ b → P (cond b (cond (nat_le (pair_parts wide narrow) 4096) (verdict (find (differs wide narrow) (candidates (pair_attributes wide narrow)))) (Unknown (pair_parts wide narrow))) (Unknown 0))
    outer true e = inner (nat_le (pair_parts wide narrow) 4096) e refl
    outer false e = other (λ d. false≢true (sym e ∙ d.plain)) e

-- Yes is answered exactly where the pair is decided and wide covers narrow
pub yes_says : (wide narrow : Tree) → IsWritten wide → IsWritten narrow → (answer wide narrow ≡ Yes) ↔ (IsDecided wide narrow × covered wide narrow)
yes_says wide narrow w n = answer_cases (λ c. (c ≡ Yes) ↔ (IsDecided wide narrow × covered wide narrow)) wide narrow
    (λ d. decided d (find (differs wide narrow) (candidates (pair_attributes wide narrow))) refl)
    (λ no_pair plain many. (λ h. absurd (cc), λ h. absurd (no_pair h.0)))
    (λ no_pair other. (λ h. absurd (cc), λ h. absurd (no_pair h.0)))
  where
    decided : IsDecided wide narrow → (o : Option Event) → find (differs wide narrow) (candidates (pair_attributes wide narrow)) ≡ o → (verdict o ≡ Yes) ↔ (IsDecided wide narrow × covered wide narrow)
    decided d None e = (λ h. (d, none_covers wide narrow w n (pair_of wide narrow d) e), λ h. refl)
    decided d (Some x) e = (λ h. absurd (cc), λ h. let t = some_tells wide narrow x w n d e in absurd (false≢true (sym t.2 ∙ h.1 x t.0 t.1)))

-- No is answered with an event that tells them apart
pub no_says : (wide narrow : Tree) → IsWritten wide → IsWritten narrow → TellsApart wide narrow (answer wide narrow)
no_says wide narrow w n = answer_cases (λ c. TellsApart wide narrow c) wide narrow
    (λ d. decided d (find (differs wide narrow) (candidates (pair_attributes wide narrow))) refl)
    (λ no_pair plain many. tt)
    (λ no_pair other. tt)
  where
    decided : IsDecided wide narrow → (o : Option Event) → find (differs wide narrow) (candidates (pair_attributes wide narrow)) ≡ o → TellsApart wide narrow (verdict o)
    decided d None e = tt
    decided d (Some x) e = some_tells wide narrow x w n d e

-- Unknown 0 is answered exactly where a filter is not plain
parts_are : (p q : ℕ) → Unknown p ≡ Unknown q → p ≡ q
parts_are p q h = cc

pub other_says : (wide narrow : Tree) → (answer wide narrow ≡ Unknown 0) ↔ (is_plain_pair wide narrow ≡ false)
other_says wide narrow = answer_cases (λ c. (c ≡ Unknown 0) ↔ (is_plain_pair wide narrow ≡ false)) wide narrow
    (λ d. decided d (find (differs wide narrow) (candidates (pair_attributes wide narrow))))
    (λ no_pair plain many. (λ h. let e = parts_are (pair_parts wide narrow) 0 h in absurd (omega (arith, many, e)), λ h. absurd (false≢true (sym h ∙ plain))))
    (λ no_pair other. (λ h. other, λ h. refl))
  where
    decided : IsDecided wide narrow → (o : Option Event) → (verdict o ≡ Unknown 0) ↔ (is_plain_pair wide narrow ≡ false)
    decided d None = (λ h. absurd (cc), λ h. absurd (false≢true (sym h ∙ d.plain)))
    decided d (Some x) = (λ h. absurd (cc), λ h. absurd (false≢true (sym h ∙ d.plain)))
