-- Laws of reading a file.
use Rattle.std.specs.Prelude.{◌≡◌, ℕ, suc, List, [], ◌∷◌}
use Rattle.c_words.specs.Tokens.{Placed}
use Rattle.syntax_tree.specs.Syntax.{UnitTree}
use Rattle.syntax_tree.specs.GrammarLimits.{Limits}
use Rattle.syntax_tree.specs.Grammar.{Derives}

-- tokens derive one tree
abbrev pub HasOneUnit : Type 0
HasOneUnit = (limits : Limits) (ts : List Placed) (unit other : UnitTree) → Derives limits ts unit → Derives limits ts other → unit ≡ other

-- the tokens have the numbers from this one on
abbrev pub Numbered : ℕ → List Placed → Type 0
Numbered n [] = Unit {0}
Numbered n (t ∷ ts) = (t.at.token ≡ n) × Numbered (suc n) ts
