-- Moves that are taken as safe: sites, each with the object that its moves stay in.
use Rattle.std.specs.Prelude.{◌≡◌, ◌≢◌, ◌==◌, ◌⊎◌, ℕ, suc, ◌<◌, ◌≤◌}
use Rattle.std.specs.Prelude.{if◌then◌else◌, All, List, [], ◌∷◌, Some, None, slice_get}
use Rattle.mid_code.specs.declared.code.MidObject.{MidObject}
use Rattle.mid_code.specs.declared.safe.SafeSite.{SafeSite}
use Rattle.mid_code.specs.Code.{Step, Move, MoveBy, If, Block, Loop, Steps, stop, step, Function, Program}
use Rattle.mid_code.specs.Formed.{IsObject}
use Rattle.mid_code.specs.Meaning.{Strayed, Watch}
use Rattle.mid_code.specs.Runs.{mid, outcome_of}

-- a site, and the object that its moves stay in: a global one, or a block local of the running call
pub record Site : Type 0 where
  pub site : ℕ
  pub object : MidObject

-- the site that a `SafeSite` stands for
abbrev pub site_of : SafeSite → Site
site_of s = record { site = s.site; object = s.object }

-- these sites are watched
abbrev pub watch_of : List Site → Watch
watch_of [] site = None
watch_of (s ∷ ss) site = if s.site == site then Some s.object else watch_of ss site

abbrev pub AreRising : (least : ℕ) → List Site → Type 0
AreRising least [] = Unit {0}
AreRising least (s ∷ ss) = (least ≤ s.site) × AreRising (suc s.site) ss

abbrev mutual
  -- a step is the move of this site, or holds it
  pub HasMove : ℕ → Step → Type 0
  HasMove n (Move site to from by scale down line) = site ≡ n
  HasMove n (MoveBy site to from d line) = site ≡ n
  HasMove n (If cond xs ys) = SomeHasMove n xs ⊎ SomeHasMove n ys
  HasMove n (Block body) = SomeHasMove n body
  HasMove n (Loop body) = SomeHasMove n body
  HasMove n x = ⊥

  pub SomeHasMove : ℕ → Steps → Type 0
  SomeHasMove n stop = ⊥
  SomeHasMove n (step x xs) = HasMove n x ⊎ SomeHasMove n xs

-- the site is that of a move of a function that has the object
pub record IsSiteOf (p : Program) (s : Site) : Type 0 where
  pub function : ℕ
  pub holder : Function
  pub found : slice_get p.functions function ≡ Some holder
  pub move : SomeHasMove s.site holder.body
  pub object : IsObject p holder s.object

-- Sites are safe where their numbers rise, each is that of a move, and no run in which they are watched strays: for every
-- size of slot, every input and every bound.
pub record Safe (p : Program) (sites : List Site) : Type 0 where
  pub rising : AreRising 0 sites
  pub moves : All (IsSiteOf p) sites
  pub never : (g : ℕ) → (g ≡ 4) ⊎ (g ≡ 5) → (input : List ℕ) (m : ℕ) → All (λ b. b < 256) input →
      (outcome_of (mid g (watch_of sites) p input m)).ending ≢ Strayed
