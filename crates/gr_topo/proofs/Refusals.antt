-- No refusal carries a filter's want of memory: no test gives one, and the first fault of a test is that of the whole
use Rattle.std.proofs.Common.{ℕ, ℤ, pos, negsuc, Bool, true, false, not, List, [], ◌∷◌, ◌++◌, Option, Some, None, Result, Ok, Err, subst, cond, length}
use Rattle.std.specs.Prelude.{IfErr, codes, bytes_eq, nat_le, ◌&&◌}
use Rattle.std.specs.List.{zip, list_any}
use Rattle.toml.specs.Data.{Data, string, integer, boolean, array, table, Members}
use Rattle.gr_filter.specs.declared.fault.FilterFault.{FilterFault}
use Rattle.gr_filter.specs.declared.fault.FilterFault.TheVariants as filter
use Rattle.gr_filter.specs.Grammar.{filter_text}
use Rattle.gr_filter.specs.Tree.{Tree}
use Rattle.gr_tree.specs.Walks.{is_tree}
use Rattle.gr_topo.specs.declared.fault.TopoFault.{TopoFault}
use Rattle.gr_topo.specs.declared.fault.TopoFault.TheVariants as fault
use Rattle.gr_topo.specs.declared.limits.TheConstants.{MAX_BROKERS, MAX_PUBLISHERS, MAX_SUBSCRIBERS, MAX_LATE}
use Rattle.gr_topo.specs.declared.settings.TheConstants.{MOST_TIME, MOST_CACHE, LEAST_RECLAIM, MOST_RECLAIM}
use Rattle.gr_topo.specs.declared.settings.WrittenSettings.{WrittenSettings}
use Rattle.gr_topo.specs.declared.draft.FoundEntry.{FoundEntry}
use Rattle.gr_topo.specs.Draft.{DraftLists, no_addresses, no_entries}
use Rattle.gr_topo.specs.Gives.{◌>>=◌, walk, one_more, each, Gives}
use Rattle.gr_topo.specs.Names.{is_name, is_address}
use Rattle.gr_topo.specs.Topology.{TopologyView, number_of}
use Rattle.gr_topo.specs.Checks.{passes, few, good_name, good_names, seen_once, apart, known, number_in, numbers_in, link_in, links_in, tree_of, in_range, settings_of, filter_or_fault, filter_in, filter_beside, filters_in, good_address, address_in, addresses_of}
use Rattle.gr_topo.specs.Shape.{text_in, integer_in, truth_in, array_in, table_in, required, texts_in, two_texts, pair_in, pairs_in, no_entry, entry_key, whole_entry, entry_in, one_entry, entries_in, one_address, addresses_in, default_settings, one_setting, settings_in, no_draft, root_key, draft_in, members_list}
use Rattle.gr_topo.specs.Read.{names_checked, resolved_in, topology_of, draft_topology, table_topology, document_topology}
use Rattle.gr_topo.specs.Fault.{IsRefusal}

abbrev pub Safe : {A : Type 0} → Result A TopoFault → Type 0
Safe r = IfErr r IsRefusal

both : {A B : Type 0} (r : Result A TopoFault) (f : A → Result B TopoFault) → Safe r → ((x : A) → Safe (f x)) → Safe (r >>= f)
both (Ok x) f h k = k x
both (Err e) f h k = h

either : {A : Type 0} (b : Bool) (r s : Result A TopoFault) → Safe r → Safe s → Safe (cond b r s)
either true r s h k = h
either false r s h k = k

walks : {S A : Type 0} (f : S → A → Result S TopoFault) → ((s : S) (x : A) → Safe (f s x)) → (s : S) (xs : List A) → Safe (walk f s xs)
unfolding walk
walks f h s [] = tt
walks f h s (x ∷ xs) = both (f s x) (λ n. walk f n xs) (h s x) (λ n. walks f h n xs)

all : {A B : Type 0} (read : A → Result B TopoFault) → ((x : A) → Safe (read x)) → (xs : List A) → Safe (each read xs)
all read h xs = walks (one_more read) (λ s x. both (read x) (λ y. Ok (s ++ y ∷ [])) (h x) (λ y. tt)) [] xs

tests : (b : Bool) (f : TopoFault) → IsRefusal f → Safe (passes b f)
tests true f h = tt
tests false f h = h

-- ---- the shape

texts : (key : List ℕ) (d : Data) → Safe (text_in key d)
texts key (string s) = tt
texts key _ = tt

integers : (key : List ℕ) (d : Data) → Safe (integer_in key d)
integers key (integer z) = tt
integers key _ = tt

truths : (key : List ℕ) (d : Data) → Safe (truth_in key d)
truths key (boolean b) = tt
truths key _ = tt

arrays : (key : List ℕ) (d : Data) → Safe (array_in key d)
arrays key (array ds) = tt
arrays key _ = tt

tables : (key : List ℕ) (d : Data) → Safe (table_in key d)
tables key (table ms) = tt
tables key _ = tt

needs : {A : Type 0} (key : List ℕ) (o : Option A) → Safe (required key o)
needs key None = tt
needs key (Some x) = tt

two : (key : List ℕ) (ds : List Data) → Safe (two_texts key ds)
two key [] = tt
two key (a ∷ []) = tt
two key (a ∷ b ∷ []) = both (text_in key a) _ (texts key a) (λ one. both (text_in key b) _ (texts key b) (λ other. tt))
two key (a ∷ b ∷ c ∷ ds) = tt

links : (key : List ℕ) (d : Data) → Safe (pairs_in key d)
links key d = both (array_in key d) (each (pair_in key)) (arrays key d) (all (pair_in key) (λ x. both (array_in key x) (two_texts key) (arrays key x) (two key)))

lists : (key : List ℕ) (d : Data) → Safe (texts_in key d)
lists key d = both (array_in key d) (each (text_in key)) (arrays key d) (all (text_in key) (texts key))

entry_keys : (filters : Bool) (found : FoundEntry) (m : List ℕ × Data) → Safe (entry_key filters found m)
unfolding entry_key
entry_keys filters found m =
    either (bytes_eq m.0 (codes "at")) _ _ (both (text_in m.0 m.1) _ (texts m.0 m.1) (λ t. tt))
    (either (bytes_eq m.0 (codes "name")) _ _ (both (text_in m.0 m.1) _ (texts m.0 m.1) (λ t. tt))
    (either (bytes_eq m.0 (codes "filter") && filters) _ _ (both (text_in m.0 m.1) _ (texts m.0 m.1) (λ t. tt))
    (either (bytes_eq m.0 (codes "late") && filters) _ _ (both (truth_in m.0 m.1) _ (truths m.0 m.1) (λ b. tt))
    (either (bytes_eq m.0 (codes "total") && filters) _ _ (both (truth_in m.0 m.1) _ (truths m.0 m.1) (λ b. tt)) tt))))

entries : (key : List ℕ) (filters : Bool) (d : Data) → Safe (entries_in key filters d)
entries key filters d =
    both (array_in key d) (walk (one_entry key filters) no_entries) (arrays key d)
    (walks (one_entry key filters) (λ found x. both (entry_in key filters x) _
    (both (table_in key x) _ (tables key x) (λ members. both (walk (entry_key filters) no_entry members) whole_entry (walks (entry_key filters) (entry_keys filters) no_entry members) (λ e.
    both (required (codes "name") e.name) _ (needs (codes "name") e.name) (λ name. both (required (codes "at") e.at) _ (needs (codes "at") e.at) (λ at. tt)))))
    (λ e. tt)) no_entries)

addresses : (key : List ℕ) (d : Data) → Safe (addresses_in key d)
addresses key d = both (table_in key d) (walk one_address no_addresses) (tables key d) (walks one_address (λ found m. both (text_in m.0 m.1) _ (texts m.0 m.1) (λ t. tt)) no_addresses)

setting : (found : WrittenSettings) (m : List ℕ × Data) → Safe (one_setting found m)
unfolding one_setting
setting found m =
    either (bytes_eq m.0 (codes "cache")) _ _ (both (integer_in m.0 m.1) _ (integers m.0 m.1) (λ z. tt))
    (either (bytes_eq m.0 (codes "gap")) _ _ (both (integer_in m.0 m.1) _ (integers m.0 m.1) (λ z. tt))
    (either (bytes_eq m.0 (codes "idle")) _ _ (both (integer_in m.0 m.1) _ (integers m.0 m.1) (λ z. tt))
    (either (bytes_eq m.0 (codes "quiet")) _ _ (both (integer_in m.0 m.1) _ (integers m.0 m.1) (λ z. tt))
    (either (bytes_eq m.0 (codes "reclaim")) _ _ (both (integer_in m.0 m.1) _ (integers m.0 m.1) (λ z. tt))
    (either (bytes_eq m.0 (codes "retry")) _ _ (both (integer_in m.0 m.1) _ (integers m.0 m.1) (λ z. tt)) tt)))))

root : (found : DraftLists) (m : List ℕ × Data) → Safe (root_key found m)
unfolding root_key
root found m =
    either (bytes_eq m.0 (codes "addresses")) _ _ (both (addresses_in m.0 m.1) _ (addresses m.0 m.1) (λ x. tt))
    (either (bytes_eq m.0 (codes "brokers")) _ _ (both (texts_in m.0 m.1) _ (lists m.0 m.1) (λ x. tt))
    (either (bytes_eq m.0 (codes "clients")) _ _ (both (addresses_in m.0 m.1) _ (addresses m.0 m.1) (λ x. tt))
    (either (bytes_eq m.0 (codes "links")) _ _ (both (pairs_in m.0 m.1) _ (links m.0 m.1) (λ x. tt))
    (either (bytes_eq m.0 (codes "publisher")) _ _ (both (entries_in m.0 false m.1) _ (entries m.0 false m.1) (λ x. tt))
    (either (bytes_eq m.0 (codes "settings")) _ _ (both (settings_in m.0 m.1) _ (both (table_in m.0 m.1) (walk one_setting default_settings) (tables m.0 m.1) (walks one_setting setting default_settings)) (λ x. tt))
    (either (bytes_eq m.0 (codes "subscriber")) _ _ (both (entries_in m.0 true m.1) _ (entries m.0 true m.1) (λ x. tt)) tt))))))

-- ---- the tests

knows : (name : List ℕ) (o : Option ℕ) → Safe (known name o)
knows name None = tt
knows name (Some number) = tt

names : (ns : List (List ℕ)) → Safe (good_names ns)
names ns = walks good_name (λ u n. tests (is_name n) (fault.BadName n) tt) tt ns

once : (ns : List (List ℕ)) → Safe (apart ns)
once ns =
    both {B = Unit {0}} (walk seen_once [] ns) (λ r. Ok tt)
    (walks seen_once (λ seen n. let new = not (list_any (bytes_eq n) seen) in both (passes new (fault.Twice n)) (λ u. Ok (seen ++ n ∷ [])) (tests new (fault.Twice n) tt) (λ u. tt)) [] ns)
    (λ r. tt)

checked : (bs ps ss : List (List ℕ)) (late : ℕ) → Safe (names_checked bs ps ss late)
unfolding names_checked
checked bs ps ss late =
    both (few MAX_BROKERS (codes "brokers") (length bs)) _ (tests (nat_le (length bs) MAX_BROKERS) (fault.TooMany (codes "brokers")) tt) (λ a.
    both (few MAX_PUBLISHERS (codes "publisher") (length ps)) _ (tests (nat_le (length ps) MAX_PUBLISHERS) (fault.TooMany (codes "publisher")) tt) (λ b.
    both (few MAX_SUBSCRIBERS (codes "subscriber") (length ss)) _ (tests (nat_le (length ss) MAX_SUBSCRIBERS) (fault.TooMany (codes "subscriber")) tt) (λ c.
    both (few MAX_LATE (codes "late") late) _ (tests (nat_le late MAX_LATE) (fault.TooMany (codes "late")) tt) (λ l.
    both (good_names bs) _ (names bs) (λ d. both (good_names ps) _ (names ps) (λ e. both (good_names ss) _ (names ss) (λ f.
    both (apart bs) _ (once bs) (λ g. both (apart ps) _ (once ps) (λ h. both (apart ss) _ (once ss) (λ i. tt))))))))))

resolved : (brokers : List (List ℕ)) (d : DraftLists) → Safe (resolved_in brokers d)
unfolding resolved_in
resolved brokers d =
    let one : (n : List ℕ) → Safe (number_in brokers n) = λ n. knows n (number_of brokers n) in
    let publisher : (n : List ℕ) → Safe (number_in d.publishers.names n) = λ n. knows n (number_of d.publishers.names n) in
    both (names_checked brokers d.publishers.names d.subscribers.names (length d.subscribers.late)) _ (checked brokers d.publishers.names d.subscribers.names (length d.subscribers.late)) (λ a.
    both (links_in brokers d.links) _ (all (link_in brokers) (λ ends. both (number_in brokers ends.0) _ (one ends.0) (λ x. both (number_in brokers ends.1) _ (one ends.1) (λ y. tt))) d.links) (λ links.
    both (numbers_in brokers d.publishers.brokers) _ (all (number_in brokers) one d.publishers.brokers) (λ hosts.
    both (numbers_in brokers d.subscribers.brokers) _ (all (number_in brokers) one d.subscribers.brokers) (λ homes.
    both (numbers_in brokers d.addresses.names) _ (all (number_in brokers) one d.addresses.names) (λ b.
    both (numbers_in d.publishers.names d.clients.names) _ (all (number_in d.publishers.names) publisher d.clients.names) (λ c.
    both (tree_of (length brokers) links) _ (tests (is_tree (length brokers) links) fault.NotTree tt) (λ t. tt)))))))

ranges : (key : List ℕ) (least most : ℕ) (z : ℤ) → Safe (in_range key least most z)
ranges key least most (pos n) = either (nat_le least n && nat_le n most) _ _ tt tt
ranges key least most (negsuc n) = tt

settings : (w : WrittenSettings) → Safe (settings_of w)
unfolding settings_of
settings w =
    both (in_range (codes "gap") 1 MOST_TIME w.gap) _ (ranges (codes "gap") 1 MOST_TIME w.gap) (λ a.
    both (in_range (codes "idle") 1 MOST_TIME w.idle) _ (ranges (codes "idle") 1 MOST_TIME w.idle) (λ b.
    both (in_range (codes "retry") 1 MOST_TIME w.retry) _ (ranges (codes "retry") 1 MOST_TIME w.retry) (λ c.
    both (in_range (codes "quiet") 1 MOST_TIME w.quiet) _ (ranges (codes "quiet") 1 MOST_TIME w.quiet) (λ d.
    both (in_range (codes "cache") 1 MOST_CACHE w.cache) _ (ranges (codes "cache") 1 MOST_CACHE w.cache) (λ e.
    both (in_range (codes "reclaim") LEAST_RECLAIM MOST_RECLAIM w.reclaim) _ (ranges (codes "reclaim") LEAST_RECLAIM MOST_RECLAIM w.reclaim) (λ f. tt))))))

-- want of memory of a filter is that of the whole
read_filter : (name : List ℕ) (r : Result Tree FilterFault) → Safe (filter_or_fault name r)
read_filter name (Ok tree) = tt
read_filter name (Err filter.Memory) = tt
read_filter name (Err (filter.BadToken at)) = tt
read_filter name (Err (filter.Expected at)) = tt
read_filter name (Err (filter.TooDeep at)) = tt
read_filter name (Err filter.TooLong) = tt
read_filter name (Err (filter.NumberRange at)) = tt

filters : (name : List ℕ) (o : Option (List ℕ)) → Safe (filter_in name o)
filters name None = tt
filters name (Some text) = read_filter name (filter_text text)

address : (name : List ℕ) (o : Option (List ℕ)) → Safe (good_address name o)
address name None = tt
address name (Some text) = both (passes (is_address text) (fault.BadAddress name)) _ (tests (is_address text) (fault.BadAddress name) tt) (λ u. tt)

topologies : (brokers : List (List ℕ)) (d : DraftLists) → Safe (topology_of brokers d)
unfolding topology_of
topologies brokers d =
    both (resolved_in brokers d) _ (resolved brokers d) (λ found.
    both (settings_of d.settings) _ (settings d.settings) (λ set.
    both (filters_in (zip d.subscribers.names d.subscribers.filters)) _ (all filter_beside (λ s. filters s.0 s.1) (zip d.subscribers.names d.subscribers.filters)) (λ fs.
    both (addresses_of d.addresses brokers) _ (all (address_in d.addresses) (λ b. address b _) brokers) (λ found_addresses.
    both (addresses_of d.clients d.publishers.names) _ (all (address_in d.clients) (λ p. address p _) d.publishers.names) (λ found_clients. tt)))))

drafts : (d : DraftLists) → Safe (draft_topology d)
unfolding draft_topology
drafts d = both (required (codes "brokers") d.brokers) _ (needs (codes "brokers") d.brokers) (λ brokers. topologies brokers d)

documents : (o : Option Members) → Safe (document_topology o)
unfolding table_topology
documents None = tt
documents (Some ms) = both (draft_in ms) draft_topology (walks root_key root no_draft (members_list ms)) drafts

-- what a reader answers is refused so too
refused : {X Y : Type 0} (see : X → Y) (r : Result X TopoFault) (read : Result Y TopoFault) → Gives see r read → Safe read → Safe r
refused see (Ok x) read h safe = tt
refused see (Err (fault.BadFilter name f)) read h safe = subst Safe h safe
refused see (Err fault.Memory) read h safe = tt
refused see (Err fault.NotToml) read h safe = tt
refused see (Err (fault.BadKey k)) read h safe = tt
refused see (Err (fault.BadType k)) read h safe = tt
refused see (Err (fault.Twice k)) read h safe = tt
refused see (Err (fault.Unknown k)) read h safe = tt
refused see (Err fault.NotTree) read h safe = tt
refused see (Err (fault.TooMany k)) read h safe = tt
refused see (Err (fault.BadAddress k)) read h safe = tt
refused see (Err (fault.Missing k)) read h safe = tt
refused see (Err (fault.BadName k)) read h safe = tt
refused see (Err (fault.BadRange k)) read h safe = tt

-- a reader of documents answers no fault of a filter that is want of memory
pub document_refused : {X : Type 0} (see : X → TopologyView) (r : Result X TopoFault) (o : Option Members) → Gives see r (document_topology o) → IfErr r IsRefusal
document_refused see r o h = refused see r (document_topology o) h (documents o)
