-- The names of the files of lanes.
use Rattle.std.specs.Prelude.{ℕ, List, ◌++◌, codes}
use Rattle.std.specs.Fmt.{decimal}

-- the path of the file of a lane
abbrev pub lane_path : ℕ → List ℕ
lane_path lane = codes "gryphon-log/lane-" ++ decimal lane
