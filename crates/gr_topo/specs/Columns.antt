-- The columns of entries have one length, and the late ones and those with one list are among them
use Rattle.std.specs.Prelude.{◌≡◌, ◌<◌, length}
use Rattle.std.specs.List.{AllByRecursion}
use Rattle.gr_topo.specs.Draft.{EntryLists, DraftLists}

pub record AreColumns (e : EntryLists) : Type 0 where
  pub brokers : length e.brokers ≡ length e.names
  pub filters : length e.filters ≡ length e.names
  pub late : AllByRecursion (λ place. place < length e.names) e.late
  pub totals : AllByRecursion (λ place. place < length e.names) e.totals

pub record HasColumns (d : DraftLists) : Type 0 where
  pub publishers : AreColumns d.publishers
  pub subscribers : AreColumns d.subscribers
