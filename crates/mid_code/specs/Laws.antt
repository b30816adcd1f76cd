-- What every run of mid code keeps.
use Rattle.std.specs.Prelude.{◌≡◌, ◌⊎◌, ℕ, List}
use Rattle.bb_words.specs.Answers.{Ends}
use Rattle.mid_code.specs.Code.{Program}
use Rattle.mid_code.specs.Meaning.{Strayed, Point, Goings, Watch, unwatched}
use Rattle.mid_code.specs.Runs.{mid}

-- a run ended because a move that was watched left its object
abbrev pub Strays : {A : Type 0} → Goings A → Type 0
Strays r = (v : Point) × (r ≡ Ends Strayed v)

-- Watching changes nothing but that a run may end: a watched run strays, or it is the run in which nothing is watched.
abbrev pub WatchedStraysOrRuns : Type 0
WatchedStraysOrRuns = (g : ℕ) (watch : Watch) (p : Program) (input : List ℕ) (m : ℕ) →
    Strays (mid g watch p input m) ⊎ (mid g watch p input m ≡ mid g unwatched p input m)
