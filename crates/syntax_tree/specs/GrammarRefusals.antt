-- Where the grammar's reading of a file stops, and why.
use Rattle.std.specs.Prelude.{◌≡◌, ℕ, zero, suc, ◌<◌, List, [], ◌∷◌, ◌++◌, length, take}
use Rattle.c_words.specs.Tokens.{Placed}
use Rattle.syntax_tree.specs.Syntax.{UnitTree}
use Rattle.syntax_tree.specs.GrammarLimits.{Limits, within_limits, without_limits, limits_before}
use Rattle.syntax_tree.specs.Grammar.{Derives}

-- these tokens, with others behind them or not, are a file
pub record Begin (limits : Limits) (ts : List Placed) : Type 0 where
  pub rest : List Placed
  pub unit : UnitTree
  pub derives : Derives limits (ts ++ rest) unit

pub data Refusal : Type 0 where
  -- no file begins so
  Syntax : Refusal
  -- a limit is passed
  TooDeep : Refusal

-- Why the tokens are no file within the limits, and at which token; the end of the file counts as the one behind all.
pub data IsRefused (ts : List Placed) : Refusal → ℕ → Type 0 where
  -- the tokens before token n begin a file, and no limit is passed at one of them; with it they begin none
  syntax : (n : ℕ) → n < length ts → Begin (limits_before n) (take n ts)
      → (Begin without_limits (take (suc n) ts) → ⊥)
      → IsRefused ts Refusal.Syntax n
  -- all tokens begin a file, no limit is passed, and the file goes on
  ended : Begin (limits_before (length ts)) ts
      → ((unit : UnitTree) → Derives without_limits ts unit → ⊥)
      → IsRefused ts Refusal.Syntax (length ts)
  -- with token n they begin a file, and a limit is passed at it, at none before
  too_deep : (n : ℕ) → n < length ts → Begin (limits_before n) (take (suc n) ts)
      → (Begin (limits_before (suc n)) (take (suc n) ts) → ⊥)
      → IsRefused ts Refusal.TooDeep n

-- the line of token n; where there is none, that of the last token, or 1
abbrev pub line_of : List Placed → ℕ → ℕ
line_of [] n = 1
line_of (t ∷ []) n = t.at.line
line_of (t ∷ u ∷ ts) zero = t.at.line
line_of (t ∷ u ∷ ts) (suc n) = line_of (u ∷ ts) n

-- what the limits allow, the grammar has
abbrev pub WithinIsWithout : Type 0
WithinIsWithout = (ts : List Placed) (unit : UnitTree) → Derives within_limits ts unit → Derives without_limits ts unit

-- a file is refused at one token and for one reason
abbrev pub HasOneRefusal : Type 0
HasOneRefusal = (ts : List Placed) (r s : Refusal) (n m : ℕ) → IsRefused ts r n → IsRefused ts s m → (r ≡ s) × (n ≡ m)

-- what the limits allow is not refused
abbrev pub IsNotRefused : Type 0
IsNotRefused = (ts : List Placed) (unit : UnitTree) (r : Refusal) (n : ℕ) → Derives within_limits ts unit → IsRefused ts r n → ⊥
