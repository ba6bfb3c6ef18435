-- Journals one after another: what differs, and what is noted
use Rattle.std.proofs.Common.{◌≡◌, ℕ, ◌+◌, ◌<◌, List, [], ◌∷◌, ◌++◌, suc, length, map, take, drop, get_or, Option, Some, None, refl, sym, ap, ap₂, ◌∙◌, arith, append_assoc}
use Rattle.std.proofs.lemmas.Grind.{take_at_read}
use Rattle.gr_topo.specs.Topology.{TopologyView}
use Rattle.gr_journal.specs.declared.journal.Journal.{Journal}
use Rattle.gr_journal.specs.Groups.{Behavior}
use Rattle.gr_audit.specs.Joint.{Link}
use Rattle.gr_audit.specs.Noted.{Noted, with_journal, with_links, with_journals}
use Rattle.gr_audit.specs.Audited.{wrong_line, differing, links_of}
use Rattle.gr_audit.proofs.Clients.{drop_here}

map_end : {X Y : Type 0} (f : X → Y) (xs : List X) (x : X) → map f (xs ++ x ∷ []) ≡ map f xs ++ f x ∷ []
map_end f [] x = refl
map_end f (y ∷ xs) x = ap (λ z. f y ∷ z) (map_end f xs x)

journal_here : (js : List Journal) (i : ℕ) (j : Journal) → i < length js → j ≡ get_or js i j → drop i js ≡ j ∷ drop (i + 1) js
journal_here js i j lt is =
    let k : suc i ≡ i + 1 = omega arith in
    drop_here js i j lt ∙ ap₂ (λ (x : Journal) (n : ℕ). x ∷ drop n js) (sym is) k

-- a journal that differs, and one that does not

abbrev or_later : Behavior → TopologyView → List Journal → Option ℕ → Option ℕ
or_later b t js o = elim o [ None ↦ differing b t js | Some line ↦ Some line ]

at_journal : (b : Behavior) (t : TopologyView) (js : List Journal) (i : ℕ) (j : Journal) (o : Option ℕ) → differing b t (drop i js) ≡ differing b t js → i < length js → j ≡ get_or js i j → o ≡ wrong_line b t j
    → or_later b t (drop (i + 1) js) o ≡ differing b t js
at_journal b t js i j o inv lt is e =
    ap (or_later b t (drop (i + 1) js)) e ∙ (ap (differing b t) (sym (journal_here js i j lt is)) ∙ inv)

pub differs_here : (b : Behavior) (t : TopologyView) (js : List Journal) (i : ℕ) (j : Journal) (line : ℕ) → differing b t (drop i js) ≡ differing b t js → i < length js → j ≡ get_or js i j → Some line ≡ wrong_line b t j
    → Some line ≡ differing b t js
differs_here b t js i j line inv lt is e = at_journal b t js i j (Some line) inv lt is e

pub same_here : (b : Behavior) (t : TopologyView) (js : List Journal) (i : ℕ) (j : Journal) → differing b t (drop i js) ≡ differing b t js → i < length js → j ≡ get_or js i j → None ≡ wrong_line b t j
    → differing b t (drop (i + 1) js) ≡ differing b t js
same_here b t js i j inv lt is e = at_journal b t js i j None inv lt is e

-- what is noted

pub one_more : (b : Behavior) (t : TopologyView) (js : List Journal) (i : ℕ) (j : Journal) (start before noted after : Noted) → start.now ≡ [] → i < length js → j ≡ get_or js i j
    → before ≡ with_journals start (map (links_of b t) (take i js)) → noted ≡ with_links before (links_of b t j) → after ≡ with_journal noted → after ≡ with_journals start (map (links_of b t) (take (i + 1) js))
one_more b t js i j start before noted after none lt is inv e end =
    let r = take_at_read js i j lt in
    let ls : List (List Link) = map (links_of b t) (take i js) in
    let all : ls ++ links_of b t j ∷ [] ≡ map (links_of b t) (take (i + 1) js) =
    ap (λ k. ls ++ links_of b t k ∷ []) is ∙ (sym (map_end (links_of b t) (take i js) (get_or js i j)) ∙ ap (map (links_of b t)) (sym r.1)) in
    end
    ∙ (ap with_journal e
    ∙ (ap (λ z. with_journal (with_links z (links_of b t j))) inv
    ∙ (ap₂ (λ (x : List Link) (y : List (List Link)). record { before = y ++ (x ++ links_of b t j) ∷ []; now = [] }) none refl
    ∙ ap₂ (λ (x : List (List Link)) (y : List Link). record { before = x; now = y }) (append_assoc start.before ls (links_of b t j ∷ []) ∙ ap (λ z. start.before ++ z) all) (sym none))))
