-- A loop's turn over what is left of a list that is read entry by entry
use Rattle.std.specs.List.{zip}
use Rattle.std.proofs.Common.{◌≡◌, ◌⊎◌, ⊎_elim, Option, ℕ, Bool, ◌+◌, ◌<◌, ◌≤◌, List, [], ◌∷◌, ◌++◌, length, drop, get_or, Result, Ok, Err, refl, ap, ◌∙◌, sym, String, Global, string_bytes, arith}
use Rattle.std.proofs.lemmas.List.{drop_more, drop_all}
use Rattle.toml.specs.Data.{Data}
use Rattle.toml.specs.View.{view}
use Rattle.toml.specs.declared.value.Value.{Value}
use Rattle.gr_topo.specs.declared.fault.TopoFault.{TopoFault}
use Rattle.gr_topo.specs.Gives.{◌>>=◌, walk, one_more}
use Rattle.gr_topo.specs.Seen.{seen_items, seen_members}
use Rattle.gr_topo.specs.declared.fault.TopoFault.TheVariants.{BadType}
use Rattle.gr_topo.specs.declared.draft.Entry.{Entry}
use Rattle.gr_topo.specs.Draft.{EntryLists, AddressLists, with_place, with_entry, with_address}
use Rattle.gr_topo.specs.Shape.{text_in, two_texts, entry_in, one_entry, one_address}

-- ---- any list, of which the front is read

abbrev Step : Type 0 → Type 0 → Type 0
Step S A = S → A → Result S TopoFault

pub walk_front : {S A : Type 0} (f : Step S A) (s : S) (x : A) (xs : List A) → walk f s (x ∷ xs) ≡ (f s x >>= λ n. walk f n xs)
unfolding walk
walk_front f s x xs = refl

front_ok : {S A : Type 0} (f : Step S A) (s next : S) (x : A) (xs : List A) → f s x ≡ Ok next → walk f s (x ∷ xs) ≡ walk f next xs
front_ok f s next x xs h = walk_front f s x xs ∙ ap (λ r. r >>= λ n. walk f n xs) h

front_err : {S A : Type 0} (f : Step S A) (s : S) (e : TopoFault) (x : A) (xs : List A) → f s x ≡ Err e → walk f s (x ∷ xs) ≡ Err e
front_err f s e x xs h = walk_front f s x xs ∙ ap (λ r. r >>= λ n. walk f n xs) h

no_more : {S A : Type 0} (f : Step S A) (s : S) → walk f s [] ≡ Ok s
unfolding walk
no_more f s = refl

-- ---- a list that is read from a place on

pub list_more : {S A : Type 0} (f : Step S A) (s next : S) (xs : List A) (i : ℕ) (x : A) → i < length xs → x ≡ get_or xs i x → f s x ≡ Ok next → walk f s (drop i xs) ≡ walk f next (drop (i + 1) xs)
list_more f s next xs i x lt is h = ap (walk f s) (drop_more xs i x lt) ∙ ap (λ y. walk f s (y ∷ drop (i + 1) xs)) (sym is) ∙ front_ok f s next x (drop (i + 1) xs) h

pub list_refused : {S A : Type 0} (f : Step S A) (s : S) (e : TopoFault) (xs : List A) (i : ℕ) (x : A) → i < length xs → x ≡ get_or xs i x → f s x ≡ Err e → walk f s (drop i xs) ≡ Err e
list_refused f s e xs i x lt is h = ap (walk f s) (drop_more xs i x lt) ∙ ap (λ y. walk f s (y ∷ drop (i + 1) xs)) (sym is) ∙ front_err f s e x (drop (i + 1) xs) h

pub list_end : {S A : Type 0} (f : Step S A) (s : S) (xs : List A) (i : ℕ) → length xs ≤ i → walk f s (drop i xs) ≡ Ok s
list_end f s xs i h = ap (walk f s) (drop_all i xs h) ∙ no_more f s

-- ---- the items of an array

items_here : (vs : List Value) (i : ℕ) (v : Value) → i < length vs → v ≡ get_or vs i v → seen_items (drop i vs) ≡ view v ∷ seen_items (drop (i + 1) vs)
items_here vs i v lt is = ap seen_items (drop_more vs i v lt) ∙ ap (λ w. view w ∷ seen_items (drop (i + 1) vs)) (sym is)

pub items_more : {S : Type 0} (f : Step S Data) (s next : S) (vs : List Value) (i : ℕ) (v : Value) → i < length vs → v ≡ get_or vs i v → f s (view v) ≡ Ok next → walk f s (seen_items (drop i vs)) ≡ walk f next (seen_items (drop (i + 1) vs))
items_more f s next vs i v lt is h = ap (walk f s) (items_here vs i v lt is) ∙ front_ok f s next (view v) (seen_items (drop (i + 1) vs)) h

pub items_refused : {S : Type 0} (f : Step S Data) (s : S) (e : TopoFault) (vs : List Value) (i : ℕ) (v : Value) → i < length vs → v ≡ get_or vs i v → f s (view v) ≡ Err e → walk f s (seen_items (drop i vs)) ≡ Err e
items_refused f s e vs i v lt is h = ap (walk f s) (items_here vs i v lt is) ∙ front_err f s e (view v) (seen_items (drop (i + 1) vs)) h

pub items_end : {S : Type 0} (f : Step S Data) (s : S) (vs : List Value) (i : ℕ) → length vs ≤ i → walk f s (seen_items (drop i vs)) ≡ Ok s
items_end f s vs i h = ap (λ l. walk f s (seen_items l)) (drop_all i vs h) ∙ no_more f s

-- ---- the entries of a table

abbrev pub TableEntries : Type 0
TableEntries = List (String Global × Value)

pub members_more : {S : Type 0} (f : Step S (List ℕ × Data)) (s next : S) (es rest : TableEntries) (k : String Global) (w : Value) → es ≡ (k, w) ∷ rest → f s (string_bytes k, view w) ≡ Ok next
    → walk f s (seen_members es) ≡ walk f next (seen_members rest)
members_more f s next es rest k w is h = ap (λ l. walk f s (seen_members l)) is ∙ front_ok f s next (string_bytes k, view w) (seen_members rest) h

pub members_refused : {S : Type 0} (f : Step S (List ℕ × Data)) (s : S) (e : TopoFault) (es rest : TableEntries) (k : String Global) (w : Value) → es ≡ (k, w) ∷ rest → f s (string_bytes k, view w) ≡ Err e
    → walk f s (seen_members es) ≡ Err e
members_refused f s e es rest k w is h = ap (λ l. walk f s (seen_members l)) is ∙ front_err f s e (string_bytes k, view w) (seen_members rest) h

pub members_end : {S : Type 0} (f : Step S (List ℕ × Data)) (s : S) (es : TableEntries) → es ≡ [] → walk f s (seen_members es) ≡ Ok s
members_end f s es e = ap (λ l. walk f s (seen_members l)) e ∙ no_more f s

-- ---- one value more, read apart

pub one_ok : {A B : Type 0} (read : A → Result B TopoFault) (found : List B) (x : A) (y : B) → read x ≡ Ok y → one_more read found x ≡ Ok (found ++ y ∷ [])
one_ok read found x y h = ap (λ r. r >>= λ z. Ok (found ++ z ∷ [])) h

pub one_err : {A B : Type 0} (read : A → Result B TopoFault) (found : List B) (x : A) (e : TopoFault) → read x ≡ Err e → one_more read found x ≡ Err e
one_err read found x e h = ap (λ r. r >>= λ z. Ok (found ++ z ∷ [])) h

-- an array that has not two items is no link
pub not_two : (key : List ℕ) (vs : List Value) → (length vs ≡ 2 → ⊥) → two_texts key (seen_items vs) ≡ Err (BadType key)
not_two key [] h = refl
not_two key (a ∷ []) h = refl
not_two key (a ∷ b ∷ []) h = absurd (h refl)
not_two key (a ∷ b ∷ c ∷ vs) h = refl

pub two_are : (vs : List Value) → length vs ≡ 2 → (a b : Value) → a ≡ get_or vs 0 a → b ≡ get_or vs 1 b → seen_items vs ≡ view a ∷ view b ∷ []
two_are [] h a b e f = absurd (omega arith)
two_are (x ∷ []) h a b e f = absurd (omega arith)
two_are (x ∷ y ∷ []) h a b e f = ap (λ v. view v ∷ view y ∷ []) (sym e) ∙ ap (λ v. view a ∷ view v ∷ []) (sym f)
two_are (x ∷ y ∷ z ∷ vs) h a b e f = absurd (omega arith)

pub one_fails : (key : List ℕ) (vs : List Value) (a : Value) (e : TopoFault) → length vs ≡ 2 → a ≡ get_or vs 0 a → text_in key (view a) ≡ Err e → two_texts key (seen_items vs) ≡ Err e
one_fails key [] a e h i k = absurd (omega arith)
one_fails key (x ∷ []) a e h i k = absurd (omega arith)
one_fails key (x ∷ y ∷ []) a e h i k = ap (λ v. text_in key (view v) >>= λ one. text_in key (view y) >>= λ other. Ok (one, other)) (sym i) ∙ ap (λ r. r >>= λ one. text_in key (view y) >>= λ other. Ok (one, other)) k
one_fails key (x ∷ y ∷ z ∷ vs) a e h i k = absurd (omega arith)

pub other_fails : (key : List ℕ) (vs : List Value) (a b : Value) (t : List ℕ) (e : TopoFault) → length vs ≡ 2 → a ≡ get_or vs 0 a → b ≡ get_or vs 1 b → text_in key (view a) ≡ Ok t → text_in key (view b) ≡ Err e → two_texts key (seen_items vs) ≡ Err e
other_fails key vs a b t e h i j k l =
    ap (two_texts key) (two_are vs h a b i j) ∙ ap (λ r. r >>= λ one. text_in key (view b) >>= λ other. Ok (one, other)) k ∙ ap (λ r. r >>= λ other. Ok (t, other)) l

pub both_read : (key : List ℕ) (vs : List Value) (a b : Value) (t u : List ℕ) → length vs ≡ 2 → a ≡ get_or vs 0 a → b ≡ get_or vs 1 b → text_in key (view a) ≡ Ok t → text_in key (view b) ≡ Ok u → two_texts key (seen_items vs) ≡ Ok (t, u)
both_read key vs a b t u h i j k l =
    ap (two_texts key) (two_are vs h a b i j) ∙ ap (λ r. r >>= λ one. text_in key (view b) >>= λ other. Ok (one, other)) k ∙ ap (λ r. r >>= λ other. Ok (t, other)) l

-- ---- entries and addresses

pub one_entry_ok : (key : List ℕ) (filters : Bool) (found : EntryLists) (d : Data) (e : Entry) → entry_in key filters d ≡ Ok e → one_entry key filters found d ≡ Ok (with_entry found e)
one_entry_ok key filters found d e h = ap (λ r. r >>= λ x. Ok (with_entry found x)) h

pub one_entry_err : (key : List ℕ) (filters : Bool) (found : EntryLists) (d : Data) (e : TopoFault) → entry_in key filters d ≡ Err e → one_entry key filters found d ≡ Err e
one_entry_err key filters found d e h = ap (λ r. r >>= λ x. Ok (with_entry found x)) h

pub one_address_ok : (found : AddressLists) (k : List ℕ) (d : Data) (t : List ℕ) → text_in k d ≡ Ok t → one_address found (k, d) ≡ Ok (with_address found k t)
one_address_ok found k d t h = ap (λ r. r >>= λ x. Ok (with_address found k x)) h

pub one_address_err : (found : AddressLists) (k : List ℕ) (d : Data) (e : TopoFault) → text_in k d ≡ Err e → one_address found (k, d) ≡ Err e
one_address_err found k d e h = ap (λ r. r >>= λ x. Ok (with_address found k x)) h

entry_lists_same : (a b : List (List ℕ)) (c : List (Option (List ℕ))) (d s : List ℕ) (x y : List (List ℕ)) (z : List (Option (List ℕ))) (w t : List ℕ) → a ≡ x → b ≡ y → c ≡ z → d ≡ w → s ≡ t
    → ◌≡◌ {A = EntryLists} (record { names = a; brokers = b; filters = c; late = d; totals = s }) (record { names = x; brokers = y; filters = z; late = w; totals = t })
entry_lists_same a b c d s x y z w t e f g h i =
    ap (λ n. let r : EntryLists = record { names = n; brokers = b; filters = c; late = d; totals = s } in r) e ∙ ap (λ n. let r : EntryLists = record { names = x; brokers = n; filters = c; late = d; totals = s } in r) f
    ∙ ap (λ n. let r : EntryLists = record { names = x; brokers = y; filters = n; late = d; totals = s } in r) g ∙ ap (λ n. let r : EntryLists = record { names = x; brokers = y; filters = z; late = n; totals = s } in r) h
    ∙ ap (λ n. let r : EntryLists = record { names = x; brokers = y; filters = z; late = w; totals = n } in r) i

-- an entry was put at the end of each column
pub entry_pushed : (names brokers : List (List ℕ)) (filters : List (Option (List ℕ))) (late totals : List ℕ) (e : Entry) (n b : List (List ℕ)) (f : List (Option (List ℕ))) (l t : List ℕ) → n ≡ names ++ e.name ∷ [] → b ≡ brokers ++ e.at ∷ [] → f ≡ filters ++ e.filter ∷ []
    → l ≡ with_place late (length names) e.late → t ≡ with_place totals (length names) e.total
    → ◌≡◌ {A = EntryLists} (record { names = n; brokers = b; filters = f; late = l; totals = t }) (with_entry (record { names = names; brokers = brokers; filters = filters; late = late; totals = totals }) e)
entry_pushed names brokers filters late totals e n b f l t h i k m o =
    entry_lists_same n b f l t (names ++ e.name ∷ []) (brokers ++ e.at ∷ []) (filters ++ e.filter ∷ []) (with_place late (length names) e.late) (with_place totals (length names) e.total) h i k m o

pub address_pushed : (names texts : List (List ℕ)) (name text : List ℕ) (n t : List (List ℕ)) → n ≡ names ++ name ∷ [] → t ≡ texts ++ text ∷ []
    → ◌≡◌ {A = AddressLists} (record { names = n; texts = t }) (with_address (record { names = names; texts = texts }) name text)
address_pushed names texts name text n t h i =
    ap (λ x. let r : AddressLists = record { names = x; texts = t } in r) h ∙ ap (λ x. let r : AddressLists = record { names = names ++ name ∷ []; texts = x } in r) i

-- ---- two lists side by side

pairs_here : {A B : Type 0} (xs more : List A) (ys others : List B) (x : A) (y : B) → xs ≡ x ∷ more → ys ≡ y ∷ others → zip xs ys ≡ (x, y) ∷ zip more others
pairs_here xs more ys others x y h i = ap (λ l. zip l ys) h ∙ ap (λ l. zip (x ∷ more) l) i

pub pairs_more : {S A B : Type 0} (f : Step S (A × B)) (s next : S) (xs more : List A) (ys others : List B) (x : A) (y : B) → xs ≡ x ∷ more → ys ≡ y ∷ others → f s (x, y) ≡ Ok next → walk f s (zip xs ys) ≡ walk f next (zip more others)
pairs_more f s next xs more ys others x y h i k = ap (walk f s) (pairs_here xs more ys others x y h i) ∙ front_ok f s next (x, y) (zip more others) k

pub pairs_refused : {S A B : Type 0} (f : Step S (A × B)) (s : S) (e : TopoFault) (xs more : List A) (ys others : List B) (x : A) (y : B) → xs ≡ x ∷ more → ys ≡ y ∷ others → f s (x, y) ≡ Err e → walk f s (zip xs ys) ≡ Err e
pairs_refused f s e xs more ys others x y h i k = ap (walk f s) (pairs_here xs more ys others x y h i) ∙ front_err f s e (x, y) (zip more others) k

no_pairs : {A B : Type 0} (xs : List A) (ys : List B) → (xs ≡ []) ⊎ (ys ≡ []) → zip xs ys ≡ []
no_pairs [] ys h = refl
no_pairs (x ∷ xs) [] h = refl
no_pairs (x ∷ xs) (y ∷ ys) h = ⊎_elim (λ e. absurd (omega (arith, ap length e))) (λ e. absurd (omega (arith, ap length e))) h

pub pairs_end : {S A B : Type 0} (f : Step S (A × B)) (s : S) (xs : List A) (ys : List B) → (xs ≡ []) ⊎ (ys ≡ []) → walk f s (zip xs ys) ≡ Ok s
pairs_end f s xs ys h = ap (walk f s) (no_pairs xs ys h) ∙ no_more f s
