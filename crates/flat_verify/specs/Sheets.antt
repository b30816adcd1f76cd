-- The facts that are asked of a program, as numbers, and the rules by which they are lost.
--
-- The number 0 stands for what is lost from the first; 1 + f says that the result of function f is tainted; and after
-- these each function has a row of numbers for each of its places, with one number for each fact that is asked.
use Rattle.std.specs.Prelude.{◌≡◌, ◌==◌, ◌<◌, ℕ, zero, suc, ◌+◌, ◌-◌, ◌*◌, Bool, true, false, not, ◌&&◌}
use Rattle.std.specs.Prelude.{List, [], ◌∷◌, ◌++◌, length, Option, Some, None, nat_lt, if◌then◌else◌, get_or, slice_get}
use Rattle.flat_discipline.specs.Facts.{Fact, Source}
use Rattle.flat_verify.specs.Effects.{Effect, source_by}
use Rattle.size_table.specs.Blocks.{Block}
use Rattle.flat_code.specs.Code.{FFunction}
use Rattle.flat_discipline.specs.Items.{items_of}
use Rattle.flat_verify.specs.Links.{OfEach, Link, body_links}
use Rattle.flat_discipline.specs.Discipline.{setting}
use Rattle.flat_verify.specs.Reach.{Rule, rule, is_marked}

-- the facts that the bytes of a range are spanned: the values of its first byte, and of their number
pub record Range : Type 0 where
  pub pointer : ℕ
  pub count : ℕ

-- what is computed of a function before its facts
pub record Sheet : Type 0 where
  pub values : ℕ
  pub params : ℕ
  -- the ranges whose spans are asked
  pub ranges : List Range
  -- how many places have facts, and the first number of the first
  pub places : ℕ
  pub base : ℕ
  pub links : List Link

-- ---- Numbers of facts

-- how many facts are asked at a place
abbrev pub width : Sheet → ℕ
width s = 2 * s.values + length s.ranges

abbrev pub later : Option ℕ → Option ℕ
later None = None
later (Some n) = Some (suc n)

abbrev pub range_number : List Range → (pointer count : ℕ) → Option ℕ
range_number [] a n = None
range_number (r ∷ rs) a n = if (a == r.pointer) && (n == r.count) then Some 0 else later (range_number rs a n)

abbrev pub from_number : ℕ → Option ℕ → Option ℕ
from_number n None = None
from_number n (Some k) = Some (n + k)

abbrev pub none_unless : Bool → Option ℕ → Option ℕ
none_unless true o = o
none_unless false o = None

-- the number of a fact among those that are asked at a place, if it is
abbrev pub fact_number : Sheet → Fact → Option ℕ
fact_number s (Fact.Clean v) = none_unless (nat_lt v s.values) (Some v)
fact_number s (Fact.Own v) = none_unless (nat_lt v s.values) (Some (s.values + v))
fact_number s (Fact.Spanned a n) = none_unless (nat_lt a s.values && nat_lt n s.values) (from_number (2 * s.values) (range_number s.ranges a n))

abbrev pub spanned : Range → Fact
spanned r = Fact.Spanned r.pointer r.count

-- the fact of a number
abbrev pub fact_at : Sheet → ℕ → Fact
fact_at s k =
    if nat_lt k s.values then Fact.Clean k
    else (if nat_lt k (2 * s.values) then Fact.Own (k - s.values) else spanned (get_or s.ranges (k - 2 * s.values) record { pointer = 0; count = 0 }))

-- ---- Numbers of facts at places

abbrev pub cell : Sheet → (place k : ℕ) → ℕ
cell s p k = s.base + p * width s + k

abbrev pub cell_if : Sheet → (place : ℕ) → Option ℕ → Option ℕ
cell_if s p None = None
cell_if s p (Some k) = Some (cell s p k)

abbrev pub fact_cell : Sheet → (place : ℕ) → Fact → Option ℕ
fact_cell s p x = none_unless (nat_lt p s.places) (cell_if s p (fact_number s x))

-- ---- Rules

abbrev pub rule_if : Option ℕ → (to : ℕ) → List Rule
rule_if None to = []
rule_if (Some from) to = rule from to ∷ []

abbrev pub rule_both : Option ℕ → Option ℕ → List Rule
rule_both from None = []
rule_both from (Some to) = rule_if from to

-- what has to be lost so that a fact is lost that comes from a source; there are so many functions
abbrev pub source_cell : (functions : ℕ) → Sheet → (place : ℕ) → Source → Option ℕ
source_cell functions s p Source.Held = None
source_cell functions s p Source.Gone = Some 0
source_cell functions s p (Source.From x) = fact_cell s p x
source_cell functions s p (Source.FromCall f) = none_unless (nat_lt f functions) (Some (suc f))

-- the rules of the first facts along an edge
abbrev pub goes_rules : (functions : ℕ) → Sheet → Effect → (from to : ℕ) → (facts : ℕ) → List Rule
goes_rules functions s e a b zero = []
goes_rules functions s e a b (suc k) = goes_rules functions s e a b k ++ rule_if (source_cell functions s a (source_by e (fact_at s k))) (cell s b k)

-- from the arguments to the parameters, from parameter k on
abbrev pub passes_rules : (from to : Sheet) → (place k : ℕ) → List ℕ → List Rule
passes_rules s t p k [] = []
passes_rules s t p k (v ∷ vs) = rule_both (fact_cell s p (Fact.Clean v)) (none_unless (nat_lt k t.params) (fact_cell t 0 (Fact.Clean k)))
    ++ passes_rules s t p (suc k) vs

abbrev pub passes_to : Sheet → Option Sheet → (place : ℕ) → List ℕ → List Rule
passes_to s None p vs = []
passes_to s (Some t) p vs = passes_rules s t p 0 vs

module _ (sheets : List Sheet) (f : ℕ) (s : Sheet) where
  abbrev pub link_rules : Link → List Rule
  link_rules (Link.Goes e a b) = goes_rules (length sheets) s e a b (width s)
  link_rules (Link.Passes a g args) = passes_to s (slice_get sheets g) a args
  link_rules (Link.Returns a v) = rule_if (fact_cell s a (Fact.Clean v)) (suc f)

  abbrev pub links_rules : List Link → List Rule
  links_rules [] = []
  links_rules (l ∷ ls) = link_rules l ++ links_rules ls

-- at a function's start no span stands
abbrev pub start_rules : Sheet → (ranges : ℕ) → List Rule
start_rules s zero = []
start_rules s (suc i) = start_rules s i ++ rule 0 (cell s 0 (2 * s.values + i)) ∷ []

abbrev pub sheet_rules : (sheets : List Sheet) → (f : ℕ) → Sheet → List Rule
sheet_rules sheets f s = start_rules s (length s.ranges) ++ links_rules sheets f s s.links

-- the rules of the functions from f on
abbrev pub rules_after : (sheets : List Sheet) → (f : ℕ) → List Sheet → List Rule
rules_after sheets f [] = []
rules_after sheets f (s ∷ ss) = sheet_rules sheets f s ++ rules_after sheets (suc f) ss

abbrev pub all_rules : List Sheet → List Rule
all_rules sheets = rules_after sheets 0 sheets

-- ---- What is lost by marks

abbrev pub marked_if : List Bool → Option ℕ → Bool
marked_if marks None = false
marked_if marks (Some n) = is_marked marks n

abbrev pub cell_in : Option Sheet → (place : ℕ) → Fact → Option ℕ
cell_in None p x = None
cell_in (Some s) p x = fact_cell s p x

module _ (sheets : List Sheet) (marks : List Bool) where
  abbrev pub is_lost : (f p : ℕ) → Fact → Bool
  is_lost f p x = marked_if marks (cell_in (slice_get sheets f) p x)

  -- the facts that are known, of those that are asked; of all others they say that they are
  abbrev pub known : (f p : ℕ) → Fact → Bool
  known f p x = not (is_lost f p x)

  abbrev pub gives : ℕ → Bool
  gives f = not (nat_lt f (length sheets) && is_marked marks (suc f))

-- ---- Sheets of a program

-- the numbers of functions stand one after another
abbrev pub Stands : (from : ℕ) → List Sheet → (total : ℕ) → Type 0
Stands from [] total = from ≡ total
Stands from (s ∷ ss) total = (s.base ≡ from) × Stands (from + s.places * width s) ss total

-- A link leads to a place that has facts, and the range that an element's sum asks for has a number.
abbrev pub InPlaces : (places : ℕ) → Link → Type 0
InPlaces n (Link.Goes e a b) = b < n
InPlaces n l = Unit {0}

abbrev pub is_some : Option ℕ → Bool
is_some None = false
is_some (Some n) = true

abbrev pub is_asked : Sheet → Fact → Bool
is_asked s x = is_some (fact_number s x)

abbrev pub asked_in : Option Sheet → Fact → Bool
asked_in None x = false
asked_in (Some s) x = is_asked s x

-- which facts are asked of each function
abbrev pub asks : List Sheet → (f : ℕ) → Fact → Bool
asks sheets f x = asked_in (slice_get sheets f) x

abbrev pub in_values : Sheet → Fact → Bool
in_values s (Fact.Clean v) = nat_lt v s.values
in_values s (Fact.Own v) = nat_lt v s.values
in_values s (Fact.Spanned a n) = nat_lt a s.values && nat_lt n s.values

abbrev pub IsAsked : Sheet → Source → Type 0
IsAsked s (Source.From x) = in_values s x ≡ true → is_asked s x ≡ true
IsAsked s o = Unit {0}

abbrev pub IsCovered : Sheet → Link → Type 0
IsCovered s (Link.Goes (Effect.Sets to clean ends) a b) = IsAsked s clean
IsCovered s l = Unit {0}

-- the sheet of function f
pub record IsSheet (g : ℕ) (globals : List Block) (functions : List FFunction) (f : ℕ) (fn : FFunction) (s : Sheet) : Type 0 where
  pub values : s.values ≡ fn.values
  pub params : s.params ≡ fn.params
  pub links : s.links ≡ body_links g (setting g globals functions f) (items_of g fn.body)
  pub placed : OfEach (InPlaces s.places) s.links
  pub some : 0 < s.places
  pub covered : OfEach (IsCovered s) s.links

-- the sheets of the functions from f on
abbrev pub AreSheets : (g : ℕ) (globals : List Block) (functions : List FFunction) → (f : ℕ) → List FFunction → List Sheet → Type 0
AreSheets g globals functions f [] [] = Unit {0}
AreSheets g globals functions f (fn ∷ fns) (s ∷ ss) = IsSheet g globals functions f fn s × AreSheets g globals functions (suc f) fns ss
AreSheets g globals functions f fns ss = ⊥
