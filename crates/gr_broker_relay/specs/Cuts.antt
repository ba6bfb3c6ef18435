-- How far a log is cut
use Rattle.std.specs.Prelude.{ℕ, nat_lt, if◌then◌else◌, Option, Some, None}
use Rattle.gr_model.specs.Net.{Net, keeps_horizon}
use Rattle.gr_model.specs.Broker.{View, Log, consolidated, done_upto}

-- the tick up to which a log is cut: that up to which all is consolidated, where that is past the last cut
abbrev pub tick_cut : Net → ℕ → ℕ → View → Log → Option ℕ
tick_cut net p b v log =
    let tick : ℕ = done_upto (consolidated (keeps_horizon net p b) v.horizon v.wants) log.settled in
    if nat_lt log.cut tick then Some tick else None
