-- What a topology part says, before its names are looked up: texts and numbers in lists
use Rattle.std.specs.Prelude.{ℕ, Bool, true, false, List, [], ◌∷◌, ◌++◌, length, Option}
use Rattle.std.specs.Option.{option_map}
use Rattle.gr_topo.specs.declared.settings.WrittenSettings.{WrittenSettings}
use Rattle.gr_topo.specs.declared.draft.Entry.{Entry}
use Rattle.gr_topo.specs.declared.draft.Entries.{Entries}
use Rattle.gr_topo.specs.declared.draft.Addresses.{Addresses}
use Rattle.gr_topo.specs.declared.draft.Draft.{Draft}

-- publishers or subscribers in order: their names, the names of their brokers, the texts of their filters, the places
-- of the late ones, and of those that get one list over all publishers
pub record EntryLists : Type 0 where
  pub names : List (List ℕ)
  pub brokers : List (List ℕ)
  pub filters : List (Option (List ℕ))
  pub late : List ℕ
  pub totals : List ℕ

-- addresses: names, of brokers or of publishers with clients, and the text of each
pub record AddressLists : Type 0 where
  pub names : List (List ℕ)
  pub texts : List (List ℕ)

pub record DraftLists : Type 0 where
  pub brokers : Option (List (List ℕ))
  pub links : List (List ℕ × List ℕ)
  pub publishers : EntryLists
  pub subscribers : EntryLists
  pub addresses : AddressLists
  pub clients : AddressLists
  pub settings : WrittenSettings

abbrev pub no_entries : EntryLists
no_entries = record { names = []; brokers = []; filters = []; late = []; totals = [] }

abbrev pub no_addresses : AddressLists
no_addresses = record { names = []; texts = [] }

-- one place more, if what stands there is listed
abbrev pub with_place : List ℕ → ℕ → Bool → List ℕ
with_place places place true = places ++ place ∷ []
with_place places place false = places

-- one entry more at the end
abbrev pub with_entry : EntryLists → Entry → EntryLists
with_entry lists e = record {
  names = lists.names ++ e.name ∷ [];
  brokers = lists.brokers ++ e.at ∷ [];
  filters = lists.filters ++ e.filter ∷ [];
  late = with_place lists.late (length lists.names) e.late;
  totals = with_place lists.totals (length lists.names) e.total;
}

abbrev pub with_address : AddressLists → List ℕ → List ℕ → AddressLists
with_address lists name text = record { names = lists.names ++ name ∷ []; texts = lists.texts ++ text ∷ [] }

-- ---- as the code holds them

abbrev pub entry_lists : Entries → EntryLists
entry_lists e = record {
  names = e.names.items;
  brokers = e.brokers.items;
  filters = e.filters.items;
  late = e.late.items;
  totals = e.totals.items;
}

abbrev pub address_lists : Addresses → AddressLists
address_lists a = record { names = a.names.items; texts = a.texts.items }

abbrev pub draft_lists : Draft → DraftLists
draft_lists d = record {
  brokers = option_map (λ v. v.items) d.brokers;
  links = d.links.items;
  publishers = entry_lists d.publishers;
  subscribers = entry_lists d.subscribers;
  addresses = address_lists d.addresses;
  clients = address_lists d.clients;
  settings = d.settings;
}
