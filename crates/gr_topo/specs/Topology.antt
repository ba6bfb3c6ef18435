-- A topology as callers see it.
use Rattle.std.specs.Prelude.{◌≡◌, ℕ, ◌<◌, ◌≤◌, Bool, true, false, not, ◌&&◌, ◌||◌, nat_eq, List, [], ◌∷◌, length}
use Rattle.std.specs.Prelude.{filter, Option, Some, None, bytes_eq, codes, slice_index, slice_index_or, if◌then◌else◌}
use Rattle.std.specs.List.{AllByRecursion, position, list_any}
use Rattle.gr_event.specs.declared.event.Event.{Event}
use Rattle.gr_filter.specs.Tree.{Tree}
use Rattle.gr_filter.specs.Truth.{matches}
use Rattle.gr_sched.specs.Naming.{Naming}
use Rattle.gr_tree.specs.declared.link.Link.{Link}
use Rattle.gr_tree.specs.Walks.{numbers, is_linked, IsWithin, is_tree, distance, up_of, path_of, IsRooted, HasOnlyPaths}
use Rattle.gr_topo.specs.Names.{is_name, is_address}
use Rattle.gr_topo.specs.declared.limits.TheConstants.{MAX_BROKERS, MAX_PUBLISHERS, MAX_SUBSCRIBERS, MAX_LATE}
use Rattle.gr_topo.specs.declared.settings.TheConstants.{MOST_TIME, MOST_CACHE, LEAST_RECLAIM, MOST_RECLAIM}
use Rattle.gr_topo.specs.declared.settings.Settings.{Settings}

-- Brokers, publishers and subscribers by their numbers, from 0: the names of each; the links between brokers; the
-- brokers of publishers and of subscribers; the filters of subscribers, the late ones, in order, and which of them get
-- one list over all publishers; the addresses of brokers and those of the clients of publishers, where there are any; the settings.
pub record TopologyView : Type 0 where
  pub brokers : List (List ℕ)
  pub publishers : List (List ℕ)
  pub subscribers : List (List ℕ)
  pub links : List Link
  pub hosts : List ℕ
  pub homes : List ℕ
  pub filters : List (Option Tree)
  pub late : List ℕ
  pub totals : List ℕ
  pub addresses : List (Option (List ℕ))
  pub clients : List (Option (List ℕ))
  pub settings : Settings

-- how many of each there may be
pub record IsWithinLimits (t : TopologyView) : Type 0 where
  pub brokers : length t.brokers ≤ MAX_BROKERS
  pub publishers : length t.publishers ≤ MAX_PUBLISHERS
  pub subscribers : length t.subscribers ≤ MAX_SUBSCRIBERS
  pub late : length t.late ≤ MAX_LATE

-- the name of this number
abbrev pub name_at : List (List ℕ) → ℕ → List ℕ
name_at names number = slice_index_or names number []

-- the number of a name: the first place where it stands
abbrev pub number_of : List (List ℕ) → List ℕ → Option ℕ
number_of names name = position (λ known. bytes_eq known name) names

-- ---- the readers

abbrev pub size : TopologyView → ℕ
size t = length t.brokers

-- the broker of a publisher, and of a subscriber
abbrev pub host_of : TopologyView → ℕ → ℕ
host_of t p = slice_index t.hosts p

abbrev pub home_of : TopologyView → ℕ → ℕ
home_of t s = slice_index t.homes s

abbrev pub filter_of : TopologyView → ℕ → Option Tree
filter_of t s = slice_index_or t.filters s None

-- whether a subscriber gets one list over all publishers
abbrev pub total_of : TopologyView → ℕ → Bool
total_of t s = list_any (λ x. nat_eq x s) t.totals

-- the subscribers that get one, rising
abbrev pub totals_of : TopologyView → List ℕ
totals_of t = filter (total_of t) (numbers (length t.subscribers))

abbrev pub address_of : TopologyView → ℕ → Option (List ℕ)
address_of t b = slice_index_or t.addresses b None

-- the address of the client of a publisher, if it has one
abbrev pub client_of : TopologyView → ℕ → Option (List ℕ)
client_of t p = slice_index_or t.clients p None

-- every event matches where there is no filter
abbrev pub passes_filter : Option Tree → Event → Bool
passes_filter None e = true
passes_filter (Some tree) e = matches tree e

abbrev pub wants : TopologyView → ℕ → Event → Bool
wants t s e = passes_filter (filter_of t s) e

-- a subscriber that wants nothing of a publisher before it joins it
abbrev pub late_of : TopologyView → ℕ → Bool
late_of t s = list_any (λ x. nat_eq x s) t.late

-- the late subscriber of a number
abbrev pub if_late : TopologyView → Option ℕ → Option ℕ
if_late t None = None
if_late t (Some s) = if late_of t s then Some s else None

-- the number of a late subscriber's name
abbrev pub joiner_of : TopologyView → List ℕ → Option ℕ
joiner_of t name = if_late t (number_of t.subscribers name)

-- how the names of a schedule are known
abbrev pub naming_of : TopologyView → Naming
naming_of t = record { broker = number_of t.brokers; publisher = number_of t.publishers; joiner = joiner_of t }

-- ---- the tree, seen from the host of a publisher

-- the next broker on the path to the host; the host has none
abbrev pub up_at : TopologyView → ℕ → ℕ → Option ℕ
up_at t p b = up_of (size t) t.links (host_of t p) b

-- how many links lie between a broker and the host
abbrev pub depth_at : TopologyView → ℕ → ℕ → ℕ
depth_at t p b = distance (size t) t.links (host_of t p) b

abbrev pub is_this : Option ℕ → ℕ → Bool
is_this None c = false
is_this (Some u) c = nat_eq u c

-- the children of a broker are its neighbours but for the next one to the host, in order
abbrev pub is_child_at : TopologyView → ℕ → ℕ → ℕ → Bool
is_child_at t p b c = is_linked t.links b c && not (is_this (up_at t p b) c)

abbrev pub children_of : TopologyView → ℕ → ℕ → List ℕ
children_of t p b = filter (is_child_at t p b) (numbers (size t))

-- the subscribers at a broker, in order
abbrev pub subscribers_of : TopologyView → ℕ → List ℕ
subscribers_of t b = filter (λ s. nat_eq (home_of t s) b) (numbers (length t.subscribers))

-- the path from a broker to the host, both included
abbrev pub path_to_host : TopologyView → ℕ → ℕ → List ℕ
path_to_host t p b = b ∷ path_of (size t) t.links (host_of t p) b

-- the path from a broker to the host passes this one
abbrev pub passes_by : TopologyView → ℕ → ℕ → ℕ → Bool
passes_by t p b from = list_any (λ x. nat_eq x b) (path_to_host t p from)

-- the subscribers whose broker's path to the host passes a broker, in order
abbrev pub below_of : TopologyView → ℕ → ℕ → List ℕ
below_of t p b = filter (λ s. passes_by t p b (home_of t s)) (numbers (length t.subscribers))

abbrev pub is_empty : {A : Type 0} → List A → Bool
is_empty [] = true
is_empty (x ∷ xs) = false

abbrev pub not_empty : {A : Type 0} → List A → Bool
not_empty [] = false
not_empty (x ∷ xs) = true

-- a broker keeps a horizon for a publisher where it has subscribers or no children
abbrev pub keeps_horizon_at : TopologyView → ℕ → ℕ → Bool
keeps_horizon_at t p b = not_empty (subscribers_of t b) || is_empty (children_of t p b)

-- ---- what holds of every topology

pub record IsInRange (s : Settings) : Type 0 where
  pub gap : (1 ≤ s.gap) × (s.gap ≤ MOST_TIME)
  pub idle : (1 ≤ s.idle) × (s.idle ≤ MOST_TIME)
  pub retry : (1 ≤ s.retry) × (s.retry ≤ MOST_TIME)
  pub quiet : (1 ≤ s.quiet) × (s.quiet ≤ MOST_TIME)
  pub cache : (1 ≤ s.cache) × (s.cache ≤ MOST_CACHE)
  pub reclaim : (LEAST_RECLAIM ≤ s.reclaim) × (s.reclaim ≤ MOST_RECLAIM)

-- each is a name, and is found back under its number, so no two are the same
pub record AreNames (names : List (List ℕ)) : Type 0 where
  pub each : AllByRecursion (λ name. is_name name ≡ true) names
  pub found : (i : ℕ) → i < length names → number_of names (name_at names i) ≡ Some i

-- an address, where there is one
abbrev pub IsAddressed : Option (List ℕ) → Type 0
IsAddressed None = Unit {0}
IsAddressed (Some text) = is_address text ≡ true

-- the parts of a topology fit one another: each number is one of a broker, and the brokers are a tree
pub record IsSound (t : TopologyView) : Type 0 where
  pub limits : IsWithinLimits t
  pub broker_names : AreNames t.brokers
  pub publisher_names : AreNames t.publishers
  pub subscriber_names : AreNames t.subscribers
  pub addressed : AllByRecursion IsAddressed t.addresses
  pub reachable : AllByRecursion IsAddressed t.clients
  pub hosts : length t.hosts ≡ length t.publishers
  pub homes : length t.homes ≡ length t.subscribers
  pub filters : length t.filters ≡ length t.subscribers
  pub late_in : AllByRecursion (λ s. s < length t.subscribers) t.late
  pub totals_in : AllByRecursion (λ s. s < length t.subscribers) t.totals
  pub addresses : length t.addresses ≡ length t.brokers
  pub clients : length t.clients ≡ length t.publishers
  pub host_in : (p : ℕ) → p < length t.publishers → host_of t p < size t
  pub home_in : (s : ℕ) → s < length t.subscribers → home_of t s < size t
  pub links : IsWithin (size t) t.links
  pub tree : is_tree (size t) t.links ≡ true
  pub settings : IsInRange t.settings

-- seen from each host: the tree, and each path as the one walk over links without a repeat
pub record IsTopology (t : TopologyView) : Type 0 where
  pub sound : IsSound t
  pub rooted : (p : ℕ) → p < length t.publishers → IsRooted (size t) t.links (host_of t p)
  pub paths : (p : ℕ) → p < length t.publishers → HasOnlyPaths (size t) t.links (host_of t p)

-- ---- what stands for an empty topology part

abbrev pub default_values : Settings
default_values = record { gap = 200; idle = 1000; retry = 500; quiet = 1000; cache = 1024; reclaim = 65536 }

-- brokers A and B, linked; publisher P at A; subscriber S at B, who wants every event
abbrev pub blank : TopologyView
blank = record {
  brokers = codes "A" ∷ codes "B" ∷ [];
  publishers = codes "P" ∷ [];
  subscribers = codes "S" ∷ [];
  links = record { one = 0; other = 1 } ∷ [];
  hosts = 0 ∷ [];
  homes = 1 ∷ [];
  filters = None ∷ [];
  late = [];
  totals = [];
  addresses = None ∷ None ∷ [];
  clients = None ∷ [];
  settings = default_values;
}
