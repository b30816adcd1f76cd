-- What is reached from the number 0 by rules, each of which leads from one number to another; and rules in stretches.
use Rattle.std.specs.Prelude.{◌≤◌, ℕ, zero, suc, ◌+◌, Bool, true, false, List, [], ◌∷◌, ◌++◌, if◌then◌else◌, get_or, set}
use Rattle.std.specs.List.{Contains}
use Rattle.flat_verify.specs.declared.reach.Stretch.{Stretch}

pub record Rule : Type 0 where
  pub from : ℕ
  pub to : ℕ

abbrev pub rule : (from to : ℕ) → Rule
rule from to = record { from = from; to = to }

pub data Reached (rules : List Rule) : ℕ → Type 0 where
  origin : Reached rules 0
  led : (a b : ℕ) → Contains rules (rule a b) → Reached rules a → Reached rules b

-- ---- Stretches

-- so many rules, each from the next number to the next
abbrev pub rules_from : (from to count : ℕ) → List Rule
rules_from from to zero = []
rules_from from to (suc n) = rule from to ∷ rules_from (from + 1) (to + 1) n

abbrev pub rules_of : List Stretch → List Rule
rules_of [] = []
rules_of (s ∷ ss) = rules_from s.from s.to s.count ++ rules_of ss

-- the numbers of a stretch are below n
abbrev pub IsBelow : (n : ℕ) → Stretch → Type 0
IsBelow n s = (s.from + s.count ≤ n) × (s.to + s.count ≤ n)

abbrev pub AreBelow : (n : ℕ) → List Stretch → Type 0
AreBelow n [] = Unit {0}
AreBelow n (s ∷ ss) = IsBelow n s × AreBelow n ss

-- ---- Marks

abbrev pub is_marked : List Bool → ℕ → Bool
is_marked marks n = get_or marks n false

-- one rule after another marks where it leads, if where it comes from is marked
abbrev pub led_by : Rule → List Bool → List Bool
led_by r marks = if is_marked marks r.from then set marks r.to true else marks

abbrev pub led_by_all : List Rule → List Bool → List Bool
led_by_all [] marks = marks
led_by_all (r ∷ rs) marks = led_by_all rs (led_by r marks)

-- how many are not marked
abbrev pub unmarked : List Bool → ℕ
unmarked [] = 0
unmarked (true ∷ marks) = unmarked marks
unmarked (false ∷ marks) = suc (unmarked marks)
