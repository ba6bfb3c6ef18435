-- What a topology part says, key by key, by the meaning of `toml`: its texts and numbers, or the first that is of
-- another shape
use Rattle.std.specs.Prelude.{ℕ, ℤ, pos, Bool, true, false, ◌&&◌, if◌then◌else◌, List, [], ◌∷◌, Option, Some, None}
use Rattle.std.specs.Prelude.{Result, Ok, Err, codes, bytes_eq}
use Rattle.toml.specs.Data.{Data, string, integer, boolean, array, table, Items, no_items, item, Members}
use Rattle.toml.specs.Data.{no_members, member}
use Rattle.gr_topo.specs.declared.fault.TopoFault.{TopoFault}
use Rattle.gr_topo.specs.declared.fault.TopoFault.TheVariants.{BadKey, BadType, Missing}
use Rattle.gr_topo.specs.declared.settings.WrittenSettings.{WrittenSettings}
use Rattle.gr_topo.specs.declared.draft.Entry.{Entry}
use Rattle.gr_topo.specs.declared.draft.FoundEntry.{FoundEntry}
use Rattle.gr_topo.specs.Draft.{EntryLists, AddressLists, DraftLists, no_entries, no_addresses, with_entry}
use Rattle.gr_topo.specs.Draft.{with_address}
use Rattle.gr_topo.specs.Gives.{◌>>=◌, walk, each}

-- the items of an array in their order
abbrev pub items_list : Items → List Data
items_list no_items = []
items_list (item d ds) = d ∷ items_list ds

-- the members of a table in the byte order of their keys
abbrev pub members_list : Members → List (List ℕ × Data)
members_list no_members = []
members_list (member k d ms) = (k, d) ∷ members_list ms

-- ---- values of one type

abbrev pub text_in : List ℕ → Data → Result (List ℕ) TopoFault
text_in key (string s) = Ok s
text_in key _ = Err (BadType key)

abbrev pub integer_in : List ℕ → Data → Result ℤ TopoFault
integer_in key (integer z) = Ok z
integer_in key _ = Err (BadType key)

abbrev pub truth_in : List ℕ → Data → Result Bool TopoFault
truth_in key (boolean b) = Ok b
truth_in key _ = Err (BadType key)

abbrev pub array_in : List ℕ → Data → Result (List Data) TopoFault
array_in key (array ds) = Ok (items_list ds)
array_in key _ = Err (BadType key)

abbrev pub table_in : List ℕ → Data → Result (List (List ℕ × Data)) TopoFault
table_in key (table ms) = Ok (members_list ms)
table_in key _ = Err (BadType key)

abbrev pub required : {A : Type 0} → List ℕ → Option A → Result A TopoFault
required key None = Err (Missing key)
required key (Some x) = Ok x

-- ---- brokers and links

abbrev pub texts_in : List ℕ → Data → Result (List (List ℕ)) TopoFault
texts_in key d = array_in key d >>= each (text_in key)

-- a link is two texts
abbrev pub two_texts : List ℕ → List Data → Result (List ℕ × List ℕ) TopoFault
two_texts key (a ∷ b ∷ []) = do
  one ← text_in key a
  other ← text_in key b
  Ok (one, other)
two_texts key _ = Err (BadType key)

abbrev pub pair_in : List ℕ → Data → Result (List ℕ × List ℕ) TopoFault
pair_in key d = array_in key d >>= two_texts key

abbrev pub pairs_in : List ℕ → Data → Result (List (List ℕ × List ℕ)) TopoFault
pairs_in key d = array_in key d >>= each (pair_in key)

-- ---- publishers and subscribers

-- nothing was read of an entry
abbrev pub no_entry : FoundEntry
no_entry = record { name = None; at = None; filter = None; late = false; total = false }

-- one key of an entry: `name`, `at` and, where they may stand, `filter`, `late` and `total`
unfoldable pub entry_key : Bool → FoundEntry → List ℕ × Data → Result FoundEntry TopoFault
entry_key filters found m =
    if bytes_eq m.0 (codes "at") then (text_in m.0 m.1 >>= λ t. Ok (record found { at = Some t }))
    else (if bytes_eq m.0 (codes "name") then (text_in m.0 m.1 >>= λ t. Ok (record found { name = Some t }))
    else (if bytes_eq m.0 (codes "filter") && filters
    then (text_in m.0 m.1 >>= λ t. Ok (record found { filter = Some t }))
    else (if bytes_eq m.0 (codes "late") && filters
    then (truth_in m.0 m.1 >>= λ b. Ok (record found { late = b }))
    else (if bytes_eq m.0 (codes "total") && filters
    then (truth_in m.0 m.1 >>= λ b. Ok (record found { total = b }))
    else Err (BadKey m.0)))))

-- `name` and `at` are required
abbrev pub whole_entry : FoundEntry → Result Entry TopoFault
whole_entry found = do
  name ← required (codes "name") found.name
  at ← required (codes "at") found.at
  Ok (record { name = name; at = at; filter = found.filter; late = found.late; total = found.total })

abbrev pub entry_in : List ℕ → Bool → Data → Result Entry TopoFault
entry_in key filters d = do
  members ← table_in key d
  found ← walk (entry_key filters) no_entry members
  whole_entry found

abbrev pub one_entry : List ℕ → Bool → EntryLists → Data → Result EntryLists TopoFault
one_entry key filters found d = entry_in key filters d >>= λ e. Ok (with_entry found e)

abbrev pub entries_in : List ℕ → Bool → Data → Result EntryLists TopoFault
entries_in key filters d = array_in key d >>= walk (one_entry key filters) no_entries

-- ---- addresses and settings

abbrev pub one_address : AddressLists → List ℕ × Data → Result AddressLists TopoFault
one_address found m = text_in m.0 m.1 >>= λ t. Ok (with_address found m.0 t)

abbrev pub addresses_in : List ℕ → Data → Result AddressLists TopoFault
addresses_in key d = table_in key d >>= walk one_address no_addresses

-- what a setting is that is not written
abbrev pub default_settings : WrittenSettings
default_settings = record {
  gap = pos 200;
  idle = pos 1000;
  retry = pos 500;
  quiet = pos 1000;
  cache = pos 1024;
  reclaim = pos 65536;
}

unfoldable pub one_setting : WrittenSettings → List ℕ × Data → Result WrittenSettings TopoFault
one_setting found m =
    if bytes_eq m.0 (codes "cache") then (integer_in m.0 m.1 >>= λ z. Ok (record found { cache = z }))
    else (if bytes_eq m.0 (codes "gap") then (integer_in m.0 m.1 >>= λ z. Ok (record found { gap = z }))
    else (if bytes_eq m.0 (codes "idle") then (integer_in m.0 m.1 >>= λ z. Ok (record found { idle = z }))
    else (if bytes_eq m.0 (codes "quiet") then (integer_in m.0 m.1 >>= λ z. Ok (record found { quiet = z }))
    else (if bytes_eq m.0 (codes "reclaim") then (integer_in m.0 m.1 >>= λ z. Ok (record found { reclaim = z }))
    else (if bytes_eq m.0 (codes "retry") then (integer_in m.0 m.1 >>= λ z. Ok (record found { retry = z }))
    else Err (BadKey m.0))))))

abbrev pub settings_in : List ℕ → Data → Result WrittenSettings TopoFault
settings_in key d = table_in key d >>= walk one_setting default_settings

-- ---- the whole part

abbrev pub no_draft : DraftLists
no_draft = record {
  brokers = None;
  links = [];
  publishers = no_entries;
  subscribers = no_entries;
  addresses = no_addresses;
  clients = no_addresses;
  settings = default_settings;
}

-- one key of the root
unfoldable pub root_key : DraftLists → List ℕ × Data → Result DraftLists TopoFault
root_key found m =
    if bytes_eq m.0 (codes "addresses") then (addresses_in m.0 m.1 >>= λ x. Ok (record found { addresses = x }))
    else (if bytes_eq m.0 (codes "brokers") then (texts_in m.0 m.1 >>= λ x. Ok (record found { brokers = Some x }))
    else (if bytes_eq m.0 (codes "clients") then (addresses_in m.0 m.1 >>= λ x. Ok (record found { clients = x }))
    else (if bytes_eq m.0 (codes "links") then (pairs_in m.0 m.1 >>= λ x. Ok (record found { links = x }))
    else (if bytes_eq m.0 (codes "publisher")
    then (entries_in m.0 false m.1 >>= λ x. Ok (record found { publishers = x }))
    else (if bytes_eq m.0 (codes "settings") then (settings_in m.0 m.1 >>= λ x. Ok (record found { settings = x }))
    else (if bytes_eq m.0 (codes "subscriber")
    then (entries_in m.0 true m.1 >>= λ x. Ok (record found { subscribers = x }))
    else Err (BadKey m.0)))))))

-- the keys of the root in byte order; what is required there is asked for by whoever reads on
abbrev pub draft_in : Members → Result DraftLists TopoFault
draft_in ms = walk root_key no_draft (members_list ms)
