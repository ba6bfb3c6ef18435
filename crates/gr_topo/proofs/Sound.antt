-- What every topology that is read keeps: columns of one length, numbers of brokers, links between them, settings in range
use Rattle.std.proofs.Common.{◌≡◌, ◌⊎◌, ℕ, ℤ, pos, negsuc, ◌+◌, ◌<◌, ◌≤◌, Bool, true, false, ◌||◌, ◌&&◌, List, [], ◌∷◌, ◌++◌, length, get_or, Option, Some, None, Result, Ok, Err, refl, sym, ap, ◌∙◌, subst, inl, inr, ⊎_elim, arith, cond}
use Rattle.std.specs.Prelude.{nat_le, codes, bytes_eq}
use Rattle.std.specs.List.{zip, AllByRecursion}
use Rattle.std.proofs.lemmas.List.{get_or_append_left, get_or_push, length_push}
use Rattle.std.proofs.lemmas.List.Folds.{list_any-append}
use Rattle.std.proofs.lemmas.List.Quantifiers.{position-Some}
use Rattle.std.proofs.lemmas.Slice.Zip.{length-zip}
use Rattle.std.proofs.lemmas.Bool.{false≢true, or_cases, and_parts, cases_eq, cases_Bool, leb-true, cond-true, cond-false}
use Rattle.toml.specs.Data.{Data, Members}
use Rattle.gr_filter.specs.Tree.{Tree}
use Rattle.gr_tree.specs.declared.link.Link.{Link}
use Rattle.gr_tree.specs.Walks.{joins, is_linked, IsWithin, is_tree}
use Rattle.gr_tree.proofs.Links.{ends}
use Rattle.gr_topo.specs.declared.fault.TopoFault.{TopoFault}
use Rattle.gr_topo.specs.declared.fault.TopoFault.TheVariants.{TooMany, NotTree}
use Rattle.gr_topo.specs.Read.{names_checked, ResolvedLists, resolved_in}
use Rattle.gr_topo.specs.declared.settings.Settings.{Settings}
use Rattle.gr_topo.specs.declared.settings.WrittenSettings.{WrittenSettings}
use Rattle.gr_topo.specs.Draft.{EntryLists, DraftLists, with_place, with_entry, no_entries}
use Rattle.gr_topo.specs.Gives.{walk, one_more, each}
use Rattle.gr_topo.specs.Columns.{AreColumns, HasColumns}
use Rattle.gr_topo.specs.Shape.{entry_in, one_entry, entries_in, array_in, members_list, root_key, no_draft, draft_in, texts_in, pairs_in, addresses_in, settings_in}
use Rattle.gr_topo.specs.Checks.{passes, few, known, number_in, numbers_in, link_in, links_in, in_range, settings_of, filters_in, filter_beside, addresses_of, address_in, tree_of}
use Rattle.gr_topo.specs.Topology.{number_of, AreNames, IsInRange, IsSound}
use Rattle.gr_topo.proofs.Steps.{first_gave, ok_same, walk_keeps}
use Rattle.gr_topo.proofs.Named.{names_named, addresses_addressed}

-- as many are given as are read
each_length_from : {A B : Type 0} (f : A → Result B TopoFault) (xs : List A) (found ys : List B) → walk (one_more f) found xs ≡ Ok ys → length ys ≡ length found + length xs
unfolding walk
each_length_from f [] found ys h = let e : length found ≡ length ys = ap length (ok_same found ys h) in omega arith
each_length_from f (x ∷ xs) found ys h =
    let w = first_gave (one_more f found x) (λ n. walk (one_more f) n xs) ys h in
    let v = first_gave (f x) (λ y. Ok (found ++ y ∷ [])) w.0 w.1 in
    let more = each_length_from f xs w.0 ys w.2 in
    let e : length w.0 ≡ length found + 1 = ap length (sym (ok_same _ _ v.2)) ∙ length_push found v.0 in
    omega (arith, more, e)

pub each_length : {A B : Type 0} (f : A → Result B TopoFault) (xs : List A) (ys : List B) → each f xs ≡ Ok ys → length ys ≡ length xs
each_length f xs ys h = let e = each_length_from f xs [] ys h in omega (arith, e)

-- ---- numbers of brokers

number_below : (names : List (List ℕ)) (name : List ℕ) (b : ℕ) → number_in names name ≡ Ok b → b < length names
number_below names name b h = go (number_of names name) refl h
  where
    go : (o : Option ℕ) → number_of names name ≡ o → known name o ≡ Ok b → b < length names
    go None e k = absurd (err_ok k)
      where
        err_ok : {f : TopoFault} → Err f ≡ Ok b → ⊥
        err_ok h = cc
    go (Some i) e k = let same : i ≡ b = ok_same i b k in subst (λ z. z < length names) same (position-Some (λ known. bytes_eq known name) names i [] e).0

abbrev pub AllBelow : ℕ → List ℕ → Type 0
AllBelow n xs = (p : ℕ) → p < length xs → get_or xs p 0 < n

below_push : (n : ℕ) (xs : List ℕ) (x : ℕ) → AllBelow n xs → x < n → AllBelow n (xs ++ x ∷ [])
below_push n xs x all lt = λ p h.
    elim (cases_eq p (length xs)) [
      | inl e ↦ subst (λ z. z < n) (sym (get_or_push xs x 0 p (sym e))) lt
      | inr e ↦ let short : p < length xs = omega (arith, length_push xs x) in subst (λ z. z < n) (sym (get_or_append_left xs (x ∷ []) 0 p short)) (all p short)
    ]

pub numbers_below : (brokers names : List (List ℕ)) (ns : List ℕ) → numbers_in brokers names ≡ Ok ns → AllBelow (length brokers) ns
numbers_below brokers names ns h =
    walk_keeps (AllBelow (length brokers)) (one_more (number_in brokers))
    (λ s x next p k. let w = first_gave (number_in brokers x) (λ y. Ok (s ++ y ∷ [])) next k in
    subst (AllBelow (length brokers)) (ok_same _ _ w.2) (below_push (length brokers) s w.0 p (number_below brokers x w.0 w.1)))
    names [] ns (λ p lt. absurd (omega arith)) h

within_push : (n : ℕ) (links : List Link) (l : Link) → IsWithin n links → (l.one < n) × (l.other < n) → IsWithin n (links ++ l ∷ [])
within_push n links l all lt = λ a b h.
    ⊎_elim (λ e. all a b e)
    (λ e. ⊎_elim (λ k. by_ends a b k) (λ k. absurd (false≢true k)) (or_cases (joins a b l) false e))
    (or_cases (is_linked links a b) (joins a b l || false) (sym (list_any-append (joins a b) links (l ∷ [])) ∙ h))
  where
    by_ends : (a b : ℕ) → joins a b l ≡ true → (a < n) × (b < n)
    by_ends a b k =
        ⊎_elim
        (λ e. (omega (arith, lt.0, e.0), omega (arith, lt.1, e.1)))
        (λ e. (omega (arith, lt.1, e.1), omega (arith, lt.0, e.0)))
        (ends a b l k)

pub links_within : (brokers : List (List ℕ)) (pairs : List (List ℕ × List ℕ)) (links : List Link) → links_in brokers pairs ≡ Ok links → IsWithin (length brokers) links
links_within brokers pairs links h =
    walk_keeps (IsWithin (length brokers)) (one_more (link_in brokers))
    (λ s x next p k.
    let w = first_gave (link_in brokers x) (λ y. Ok (s ++ y ∷ [])) next k in
    let one = first_gave (number_in brokers x.0) _ w.0 w.1 in
    let other = first_gave (number_in brokers x.1) _ w.0 one.2 in
    let made : ◌≡◌ {A = Link} (record { one = one.0; other = other.0 }) w.0 = ok_same _ _ other.2 in
    subst (IsWithin (length brokers)) (ok_same _ _ w.2)
    (subst (λ z. IsWithin (length brokers) (s ++ z ∷ [])) made (within_push (length brokers) s (record { one = one.0; other = other.0 }) p (number_below brokers x.0 one.0 one.1, number_below brokers x.1 other.0 other.1))))
    pairs [] links (λ a b e. absurd (false≢true e)) h

-- ---- settings

range_of : (key : List ℕ) (least most : ℕ) (z : ℤ) (n : ℕ) → in_range key least most z ≡ Ok n → (least ≤ n) × (n ≤ most)
range_of key least most (pos k) n h = elim (cases_Bool (nat_le least k && nat_le k most)) [
  | inl e ↦
      let same : k ≡ n = ok_same k n (sym (cond-true (nat_le least k && nat_le k most) (Ok k) _ e) ∙ h) in
      let parts = and_parts (nat_le least k) (nat_le k most) e in
      (omega (arith, leb-true least k parts.0, same), omega (arith, leb-true k most parts.1, same))
  | inr e ↦ absurd (err_ok (sym (cond-false (nat_le least k && nat_le k most) (Ok k) _ e) ∙ h))
]
  where
    err_ok : {f : TopoFault} → Err f ≡ Ok n → ⊥
    err_ok h = cc
range_of key least most (negsuc k) n h = cc

pub settings_within : (w : WrittenSettings) (s : Settings) → settings_of w ≡ Ok s → IsInRange s
unfolding settings_of
settings_within w s h =
    let gap = first_gave (in_range (codes "gap") 1 1000000000 w.gap) _ s h in
    let idle = first_gave (in_range (codes "idle") 1 1000000000 w.idle) _ s gap.2 in
    let retry = first_gave (in_range (codes "retry") 1 1000000000 w.retry) _ s idle.2 in
    let quiet = first_gave (in_range (codes "quiet") 1 1000000000 w.quiet) _ s retry.2 in
    let cache = first_gave (in_range (codes "cache") 1 1000000 w.cache) _ s quiet.2 in
    let reclaim = first_gave (in_range (codes "reclaim") 64 1000000000 w.reclaim) _ s cache.2 in
    let made : ◌≡◌ {A = Settings} (record { gap = gap.0; idle = idle.0; retry = retry.0; quiet = quiet.0; cache = cache.0; reclaim = reclaim.0 }) s = ok_same _ _ reclaim.2 in
    subst IsInRange made (record {
      gap = range_of (codes "gap") 1 1000000000 w.gap gap.0 gap.1;
      idle = range_of (codes "idle") 1 1000000000 w.idle idle.0 idle.1;
      retry = range_of (codes "retry") 1 1000000000 w.retry retry.0 retry.1;
      quiet = range_of (codes "quiet") 1 1000000000 w.quiet quiet.0 quiet.1;
      cache = range_of (codes "cache") 1 1000000 w.cache cache.0 cache.1;
      reclaim = range_of (codes "reclaim") 64 1000000000 w.reclaim reclaim.0 reclaim.1;
    })

-- ---- columns

columns_none : AreColumns no_entries
columns_none = record { brokers = refl; filters = refl; late = tt; totals = tt }

-- places below the length stay below it, with one name more, whose place may be put behind them
places_push : (n k : ℕ) (places : List ℕ) → n < k → AllByRecursion (λ place. place < n) places → AllByRecursion (λ place. place < k) (places ++ n ∷ [])
places_push n k [] lt all = (lt, tt)
places_push n k (p ∷ places) lt all = (omega (arith, lt, all.0), places_push n k places lt all.1)

places_stay : (n k : ℕ) (places : List ℕ) → n < k → AllByRecursion (λ place. place < n) places → AllByRecursion (λ place. place < k) places
places_stay n k [] lt all = tt
places_stay n k (p ∷ places) lt all = (omega (arith, lt, all.0), places_stay n k places lt all.1)

listed_push : (places : List ℕ) (names : List (List ℕ)) (name : List ℕ) (listed : Bool) → AllByRecursion (λ place. place < length names) places
    → AllByRecursion (λ place. place < length (names ++ name ∷ [])) (with_place places (length names) listed)
listed_push places names name true all = places_push (length names) (length (names ++ name ∷ [])) places (omega (arith, length_push names name)) all
listed_push places names name false all = places_stay (length names) (length (names ++ name ∷ [])) places (omega (arith, length_push names name)) all

columns_push : (key : List ℕ) (filters : Bool) (s : EntryLists) (d : Data) (next : EntryLists) → AreColumns s → one_entry key filters s d ≡ Ok next → AreColumns next
columns_push key filters s d next p h =
    let w = first_gave (entry_in key filters d) (λ e. Ok (with_entry s e)) next h in
    subst AreColumns (ok_same _ _ w.2) (record {
      brokers = length_push s.brokers w.0.at ∙ ap (λ n. n + 1) p.brokers ∙ sym (length_push s.names w.0.name);
      filters = length_push s.filters w.0.filter ∙ ap (λ n. n + 1) p.filters ∙ sym (length_push s.names w.0.name);
      late = listed_push s.late s.names w.0.name w.0.late p.late;
      totals = listed_push s.totals s.names w.0.name w.0.total p.totals;
    })

entries_columns : (key : List ℕ) (filters : Bool) (d : Data) (e : EntryLists) → entries_in key filters d ≡ Ok e → AreColumns e
entries_columns key filters d e h =
    let w = first_gave (array_in key d) _ e h in
    walk_keeps AreColumns (one_entry key filters) (columns_push key filters) w.0 no_entries e columns_none w.2

err_ok : {A : Type 0} (e : TopoFault) (x : A) → ◌≡◌ {A = Result A TopoFault} (Err e) (Ok x) → ⊥
err_ok e x h = cc

if_gave : {A : Type 0} (b : Bool) (x y : Result A TopoFault) (r : A) → cond b x y ≡ Ok r → (x ≡ Ok r) ⊎ (y ≡ Ok r)
if_gave true x y r h = inl h
if_gave false x y r h = inr h

columns_same : (a b : DraftLists) → a ≡ b → HasColumns a → HasColumns b
columns_same a b e h = subst HasColumns e h

root_columns : (d : DraftLists) (m : List ℕ × Data) (next : DraftLists) → HasColumns d → root_key d m ≡ Ok next → HasColumns next
unfolding root_key
root_columns d m next p h =
    ⊎_elim (λ e. let w = first_gave (addresses_in m.0 m.1) _ next e in columns_same _ next (ok_same _ _ w.2) (record { publishers = p.publishers; subscribers = p.subscribers })) (λ h.
    ⊎_elim (λ e. let w = first_gave (texts_in m.0 m.1) _ next e in columns_same _ next (ok_same _ _ w.2) (record { publishers = p.publishers; subscribers = p.subscribers })) (λ h.
    ⊎_elim (λ e. let w = first_gave (addresses_in m.0 m.1) _ next e in columns_same _ next (ok_same _ _ w.2) (record { publishers = p.publishers; subscribers = p.subscribers })) (λ h.
    ⊎_elim (λ e. let w = first_gave (pairs_in m.0 m.1) _ next e in columns_same _ next (ok_same _ _ w.2) (record { publishers = p.publishers; subscribers = p.subscribers })) (λ h.
    ⊎_elim (λ e. let w = first_gave (entries_in m.0 false m.1) _ next e in columns_same _ next (ok_same _ _ w.2) (record { publishers = entries_columns m.0 false m.1 w.0 w.1; subscribers = p.subscribers })) (λ h.
    ⊎_elim (λ e. let w = first_gave (settings_in m.0 m.1) _ next e in columns_same _ next (ok_same _ _ w.2) (record { publishers = p.publishers; subscribers = p.subscribers })) (λ h.
    ⊎_elim (λ e. let w = first_gave (entries_in m.0 true m.1) _ next e in columns_same _ next (ok_same _ _ w.2) (record { publishers = p.publishers; subscribers = entries_columns m.0 true m.1 w.0 w.1 })) (λ h. absurd (err_ok _ next h))
    (if_gave (bytes_eq m.0 (codes "subscriber")) _ _ next h))
    (if_gave (bytes_eq m.0 (codes "settings")) _ _ next h))
    (if_gave (bytes_eq m.0 (codes "publisher")) _ _ next h))
    (if_gave (bytes_eq m.0 (codes "links")) _ _ next h))
    (if_gave (bytes_eq m.0 (codes "clients")) _ _ next h))
    (if_gave (bytes_eq m.0 (codes "brokers")) _ _ next h))
    (if_gave (bytes_eq m.0 (codes "addresses")) _ _ next h)

pub draft_columns : (ms : Members) (d : DraftLists) → draft_in ms ≡ Ok d → HasColumns d
draft_columns ms d h = walk_keeps HasColumns root_key root_columns (members_list ms) no_draft d (record { publishers = columns_none; subscribers = columns_none }) h

-- ---- the whole

few_fits : (most : ℕ) (key : List ℕ) (n : ℕ) (x : Unit {0}) → few most key n ≡ Ok x → n ≤ most
few_fits most key n x h = go (nat_le n most) refl h
  where
    go : (b : Bool) → nat_le n most ≡ b → passes b (TooMany key) ≡ Ok x → n ≤ most
    go true e k = leb-true n most e
    go false e k = absurd (err_ok (TooMany key) x k)

-- what names that pass are
pub names_fit : (brokers publishers subscribers : List (List ℕ)) (late : ℕ) (x : Unit {0}) → names_checked brokers publishers subscribers late ≡ Ok x → (length brokers ≤ 64) × (length publishers ≤ 64) × (length subscribers ≤ 1024) × (late ≤ 64)
unfolding names_checked
names_fit brokers publishers subscribers late x h =
    let one = first_gave (few 64 (codes "brokers") (length brokers)) _ x h in
    let two = first_gave (few 64 (codes "publisher") (length publishers)) _ x one.2 in
    let three = first_gave (few 1024 (codes "subscriber") (length subscribers)) _ x two.2 in
    let four = first_gave (few 64 (codes "late") late) _ x three.2 in
    (few_fits 64 (codes "brokers") (length brokers) one.0 one.1, few_fits 64 (codes "publisher") (length publishers) two.0 two.1, few_fits 1024 (codes "subscriber") (length subscribers) three.0 three.1, few_fits 64 (codes "late") late four.0 four.1)

a_tree : (n : ℕ) (links : List Link) (x : Unit {0}) → tree_of n links ≡ Ok x → is_tree n links ≡ true
a_tree n links x h = go (is_tree n links) refl h
  where
    go : (b : Bool) → is_tree n links ≡ b → passes b NotTree ≡ Ok x → is_tree n links ≡ true
    go true e k = e
    go false e k = absurd (err_ok NotTree x k)

pub record IsResolved (brokers : List (List ℕ)) (d : DraftLists) (r : ResolvedLists) : Type 0 where
  pub named : AreNames brokers × AreNames d.publishers.names × AreNames d.subscribers.names
  pub few_brokers : length brokers ≤ 64
  pub few_publishers : length d.publishers.names ≤ 64
  pub few_subscribers : length d.subscribers.names ≤ 1024
  pub few_late : length d.subscribers.late ≤ 64
  pub links : IsWithin (length brokers) r.links
  pub tree : is_tree (length brokers) r.links ≡ true
  pub hosts : AllBelow (length brokers) r.hosts
  pub homes : AllBelow (length brokers) r.homes
  pub host_count : length r.hosts ≡ length d.publishers.brokers
  pub home_count : length r.homes ≡ length d.subscribers.brokers

pub resolved_facts : (brokers : List (List ℕ)) (d : DraftLists) (r : ResolvedLists) → resolved_in brokers d ≡ Ok r → IsResolved brokers d r
unfolding resolved_in
resolved_facts brokers d r h =
    let names = first_gave (names_checked brokers d.publishers.names d.subscribers.names (length d.subscribers.late)) _ r h in
    let links = first_gave (links_in brokers d.links) _ r names.2 in
    let hosts = first_gave (numbers_in brokers d.publishers.brokers) _ r links.2 in
    let homes = first_gave (numbers_in brokers d.subscribers.brokers) _ r hosts.2 in
    let addresses = first_gave (numbers_in brokers d.addresses.names) _ r homes.2 in
    let clients = first_gave (numbers_in d.publishers.names d.clients.names) _ r addresses.2 in
    let tree = first_gave (tree_of (length brokers) links.0) _ r clients.2 in
    let fits = names_fit brokers d.publishers.names d.subscribers.names (length d.subscribers.late) names.0 names.1 in
    let made : ◌≡◌ {A = ResolvedLists} (record { links = links.0; hosts = hosts.0; homes = homes.0 }) r = ok_same _ _ tree.2 in
    subst (IsResolved brokers d) made (record {
      named = names_named brokers d.publishers.names d.subscribers.names (length d.subscribers.late) names.0 names.1;
      few_brokers = fits.0;
      few_publishers = fits.1;
      few_subscribers = fits.2;
      few_late = fits.3;
      links = links_within brokers d.links links.0 links.1;
      tree = a_tree (length brokers) links.0 tree.0 tree.1;
      hosts = numbers_below brokers d.publishers.brokers hosts.0 hosts.1;
      homes = numbers_below brokers d.subscribers.brokers homes.0 homes.1;
      host_count = each_length (number_in brokers) d.publishers.brokers hosts.0 hosts.1;
      home_count = each_length (number_in brokers) d.subscribers.brokers homes.0 homes.1;
    })

-- the parts that were read fit one another
pub read_sound : (brokers : List (List ℕ)) (d : DraftLists) (r : ResolvedLists) (s : Settings) (fs : List (Option Tree)) (as_given clients_given : List (Option (List ℕ))) → HasColumns d → resolved_in brokers d ≡ Ok r → settings_of d.settings ≡ Ok s
    → filters_in (zip d.subscribers.names d.subscribers.filters) ≡ Ok fs → addresses_of d.addresses brokers ≡ Ok as_given → addresses_of d.clients d.publishers.names ≡ Ok clients_given
    → IsSound (record { brokers = brokers; publishers = d.publishers.names; subscribers = d.subscribers.names; links = r.links; hosts = r.hosts; homes = r.homes; filters = fs; late = d.subscribers.late; totals = d.subscribers.totals; addresses = as_given; clients = clients_given; settings = s })
read_sound brokers d r s fs as_given clients_given cols found set filters addresses clients =
    let f = resolved_facts brokers d r found in
    let host_count : length r.hosts ≡ length d.publishers.names = f.host_count ∙ cols.publishers.brokers in
    let home_count : length r.homes ≡ length d.subscribers.names = f.home_count ∙ cols.subscribers.brokers in
    let count = each_length filter_beside (zip d.subscribers.names d.subscribers.filters) fs filters in
    let filter_count : length fs ≡ length d.subscribers.names = omega (arith, count, length-zip d.subscribers.names d.subscribers.filters, cols.subscribers.filters) in
    record {
      limits = record { brokers = f.few_brokers; publishers = f.few_publishers; subscribers = f.few_subscribers; late = f.few_late };
      broker_names = f.named.0;
      publisher_names = f.named.1;
      subscriber_names = f.named.2;
      addressed = addresses_addressed d.addresses brokers as_given addresses;
      reachable = addresses_addressed d.clients d.publishers.names clients_given clients;
      hosts = host_count;
      homes = home_count;
      filters = filter_count;
      late_in = cols.subscribers.late;
      totals_in = cols.subscribers.totals;
      addresses = each_length (address_in d.addresses) brokers as_given addresses;
      clients = each_length (address_in d.clients) d.publishers.names clients_given clients;
      host_in = λ p h. f.hosts p (omega (arith, host_count));
      home_in = λ p h. f.homes p (omega (arith, home_count));
      links = f.links;
      tree = f.tree;
      settings = settings_within d.settings s set;
    }

no_nodes : (links : List Link) → is_tree 0 links ≡ false
unfolding is_tree
no_nodes links = refl

-- no brokers are no tree
pub no_brokers : (n : ℕ) (links : List Link) → n ≡ 0 → tree_of n links ≡ Err NotTree
no_brokers n links e = subst (λ z. tree_of z links ≡ Err NotTree) (sym e) (ap (λ b. passes b NotTree) (no_nodes links))
