-- What is tested of a topology part whose shape is right, one test after the other
use Rattle.std.specs.Prelude.{ℕ, ℤ, pos, negsuc, Bool, true, false, not, ◌&&◌, nat_le, if◌then◌else◌, List, [], ◌∷◌}
use Rattle.std.specs.Prelude.{◌++◌, Option, Some, None, Result, Ok, Err, codes, bytes_eq}
use Rattle.std.specs.List.{list_any, slice_get}
use Rattle.std.specs.Option.{option_and_then}
use Rattle.gr_filter.specs.declared.fault.FilterFault.{FilterFault}
use Rattle.gr_filter.specs.declared.fault.FilterFault.TheVariants as filter_fault
use Rattle.gr_filter.specs.Grammar.{filter_text}
use Rattle.gr_filter.specs.Tree.{Tree}
use Rattle.gr_tree.specs.declared.link.Link.{Link}
use Rattle.gr_tree.specs.Walks.{is_tree}
use Rattle.gr_topo.specs.declared.fault.TopoFault.{TopoFault}
use Rattle.gr_topo.specs.declared.fault.TopoFault.TheVariants.{Memory, Twice, Unknown, NotTree, BadFilter, TooMany}
use Rattle.gr_topo.specs.declared.fault.TopoFault.TheVariants.{BadAddress, BadName, BadRange}
use Rattle.gr_topo.specs.declared.settings.TheConstants.{MOST_TIME, MOST_CACHE, LEAST_RECLAIM, MOST_RECLAIM}
use Rattle.gr_topo.specs.declared.settings.Settings.{Settings}
use Rattle.gr_topo.specs.declared.settings.WrittenSettings.{WrittenSettings}
use Rattle.gr_topo.specs.Draft.{AddressLists}
use Rattle.gr_topo.specs.Gives.{◌>>=◌, walk, each}
pub use Rattle.gr_topo.specs.Names.{is_letter, is_name_byte, is_name, behind_octet, port_of, is_port, is_address}
use Rattle.gr_topo.specs.Topology.{number_of}

-- a test that says nothing but its fault
abbrev pub passes : Bool → TopoFault → Result (Unit {0}) TopoFault
passes true fault = Ok tt
passes false fault = Err fault

-- ---- names

-- no more than so many
abbrev pub few : ℕ → List ℕ → ℕ → Result (Unit {0}) TopoFault
few most key count = passes (nat_le count most) (TooMany key)

-- each name is one
abbrev pub good_name : Unit {0} → List ℕ → Result (Unit {0}) TopoFault
good_name _ name = passes (is_name name) (BadName name)

abbrev pub good_names : List (List ℕ) → Result (Unit {0}) TopoFault
good_names names = walk good_name tt names

-- no name twice: those that were seen, with one more
abbrev pub seen_once : List (List ℕ) → List ℕ → Result (List (List ℕ)) TopoFault
seen_once seen name = passes (not (list_any (bytes_eq name) seen)) (Twice name) >>= λ _. Ok (seen ++ name ∷ [])

abbrev pub apart : List (List ℕ) → Result (Unit {0}) TopoFault
apart names = walk seen_once [] names >>= λ _. Ok tt

-- ---- numbers of names: of brokers, or of publishers

abbrev pub known : List ℕ → Option ℕ → Result ℕ TopoFault
known name None = Err (Unknown name)
known name (Some number) = Ok number

abbrev pub number_in : List (List ℕ) → List ℕ → Result ℕ TopoFault
number_in names name = known name (number_of names name)

abbrev pub numbers_in : List (List ℕ) → List (List ℕ) → Result (List ℕ) TopoFault
numbers_in names looked_up = each (number_in names) looked_up

abbrev pub link_in : List (List ℕ) → List ℕ × List ℕ → Result Link TopoFault
link_in brokers ends = do
  one ← number_in brokers ends.0
  other ← number_in brokers ends.1
  Ok (record { one = one; other = other })

abbrev pub links_in : List (List ℕ) → List (List ℕ × List ℕ) → Result (List Link) TopoFault
links_in brokers pairs = each (link_in brokers) pairs

abbrev pub tree_of : ℕ → List Link → Result (Unit {0}) TopoFault
tree_of brokers links = passes (is_tree brokers links) NotTree

-- ---- settings

-- an integer from the least to the most
abbrev pub in_range : List ℕ → ℕ → ℕ → ℤ → Result ℕ TopoFault
in_range key least most (pos n) = if nat_le least n && nat_le n most then Ok n else Err (BadRange key)
in_range key least most (negsuc n) = Err (BadRange key)

unfoldable pub settings_of : WrittenSettings → Result Settings TopoFault
settings_of w = do
  gap ← in_range (codes "gap") 1 MOST_TIME w.gap
  idle ← in_range (codes "idle") 1 MOST_TIME w.idle
  retry ← in_range (codes "retry") 1 MOST_TIME w.retry
  quiet ← in_range (codes "quiet") 1 MOST_TIME w.quiet
  cache ← in_range (codes "cache") 1 MOST_CACHE w.cache
  reclaim ← in_range (codes "reclaim") LEAST_RECLAIM MOST_RECLAIM w.reclaim
  Ok (record { gap = gap; idle = idle; retry = retry; quiet = quiet; cache = cache; reclaim = reclaim })

-- ---- filters

-- the tree, or the fault with the subscriber's name; want of memory stands by itself
abbrev pub filter_or_fault : List ℕ → Result Tree FilterFault → Result (Option Tree) TopoFault
filter_or_fault name (Ok tree) = Ok (Some tree)
filter_or_fault name (Err filter_fault.Memory) = Err Memory
filter_or_fault name (Err fault) = Err (BadFilter name fault)

abbrev pub filter_in : List ℕ → Option (List ℕ) → Result (Option Tree) TopoFault
filter_in name None = Ok None
filter_in name (Some text) = filter_or_fault name (filter_text text)

-- the filter of a subscriber, beside its name
abbrev pub filter_beside : List ℕ × Option (List ℕ) → Result (Option Tree) TopoFault
filter_beside s = filter_in s.0 s.1

abbrev pub filters_in : List (List ℕ × Option (List ℕ)) → Result (List (Option Tree)) TopoFault
filters_in subscribers = each filter_beside subscribers

-- ---- addresses

-- the address of a broker, or of a publisher's client, if it has one
abbrev pub good_address : List ℕ → Option (List ℕ) → Result (Option (List ℕ)) TopoFault
good_address name None = Ok None
good_address name (Some text) = passes (is_address text) (BadAddress name) >>= λ _. Ok (Some text)

abbrev pub address_in : AddressLists → List ℕ → Result (Option (List ℕ)) TopoFault
address_in lists name = good_address name (option_and_then (slice_get lists.texts) (number_of lists.names name))

abbrev pub addresses_of : AddressLists → List (List ℕ) → Result (List (Option (List ℕ))) TopoFault
addresses_of lists names = each (address_in lists) names
