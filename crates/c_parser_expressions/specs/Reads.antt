-- What the parser's functions ensure: their answer is what a program runs to within the limits. Where they refuse, the
-- cursor stays at the refused token.
use Rattle.std.specs.Prelude.{◌≡◌, ◌==◌, if◌then◌else◌, ℕ, Bool, true, false}
use Rattle.std.specs.Prelude.{List, [], ◌∷◌, ◌++◌, Option, Some, None, Result, Ok, Err}
use Rattle.c_words.specs.declared.place.At.{At}
use Rattle.c_words.specs.declared.words.Keyword.{Keyword}
use Rattle.c_words.specs.declared.words.Punctuator.{Punctuator}
use Rattle.c_words.specs.declared.words.Punctuator.TheVariants as m
use Rattle.c_words.specs.declared.operators.UnaryOperator.{UnaryOperator}
use Rattle.c_words.specs.declared.operators.StepOperator.{StepOperator}
use Rattle.c_words.specs.declared.operators.BinaryOperator.{BinaryOperator}
use Rattle.c_words.specs.declared.operators.AssignOperator.{AssignOperator}
use Rattle.c_words.specs.Tokens.{Token, Placed}
use Rattle.syntax_tree.specs.GrammarTokens.{unary_operator, step_operator, binary_operator, assign_operator}
use Rattle.syntax_tree.specs.GrammarLimits.{within_limits}
use Rattle.syntax_tree.specs.GrammarRefusals.{Refusal}
use Rattle.c_parser_expressions.specs.declared.cursor.Stop.{Stop}
use Rattle.c_parser_expressions.specs.declared.cursor.Stop.TheVariants as stop
use Rattle.c_parser_rules.specs.Programs.{Sort, Value, Program, Outcome}
use Rattle.c_parser_rules.specs.Tests.{first}
use Rattle.c_parser_rules.specs.Runs.{Runs, token_at}

abbrev pub Fails : (s : Sort) → Program s → List Placed → Stop → List Placed → Type 0
Fails s p old stop.Memory new = Unit {0}
Fails s p old stop.Syntax new = Runs within_limits s p old (Outcome.refused Refusal.Syntax new)
Fails s p old stop.TooDeep new = Runs within_limits s p old (Outcome.refused Refusal.TooDeep new)

abbrev pub Answers : (s : Sort) {A : Type 0} → Program s → (A → Value s) → List Placed → Result A Stop → List Placed → Type 0
Answers s p view old (Ok x) new = Runs within_limits s p old (Outcome.read (view x) new)
Answers s p view old (Err e) new = Fails s p old e new

pub record Reads (s : Sort) {A : Type 0} (p : Program s) (view : A → Value s) (old : List Placed) (result : Result A Stop) (new : List Placed) : Type 0 where
  pub answer : Answers s p view old result new

-- where the next token stands
abbrev pub place_of : List Placed → Option At
place_of [] = None
place_of (t ∷ ts) = Some t.at

abbrev pub mark_of : Option Token → Option Punctuator
mark_of (Some (Token.Punctuator p)) = Some p
mark_of _ = None

abbrev pub word_of : Option Token → Option Keyword
word_of (Some (Token.Keyword w)) = Some w
word_of _ = None

abbrev pub name_of : Option Token → Option (List ℕ)
name_of (Some (Token.Name x)) = Some x
name_of _ = None

abbrev pub text_of : Option Token → Option (List ℕ)
text_of (Some (Token.StringLiteral b)) = Some b
text_of _ = None

abbrev pub number_of : Option Token → Option (ℕ × Bool)
number_of (Some (Token.Number n u)) = Some (n, u)
number_of _ = None

abbrev pub character_of : Option Token → Option ℕ
character_of (Some (Token.Character n)) = Some n
character_of _ = None

-- the operators that a punctuator can be
abbrev pub assign_of : Option Token → Option AssignOperator
assign_of (Some (Token.Punctuator p)) = assign_operator p
assign_of _ = None

abbrev pub step_of : Option Token → Option StepOperator
step_of (Some (Token.Punctuator p)) = step_operator p
step_of _ = None

abbrev pub unary_of : Option Token → Option UnaryOperator
unary_of (Some (Token.Punctuator p)) = unary_operator p
unary_of _ = None

abbrev pub at_level : ℕ → Option (ℕ × BinaryOperator) → Option BinaryOperator
at_level k None = None
at_level k (Some o) = if o.0 == k then Some o.1 else None

abbrev pub binary_of : ℕ → Option Token → Option BinaryOperator
binary_of k (Some (Token.Punctuator p)) = at_level k (binary_operator p)
binary_of k _ = None

-- whether this token comes next
abbrev pub Saw : Token → List Placed → Bool → Type 0
Saw c ts true = first ts ≡ Some c
Saw c ts false = first ts ≡ Some c → ⊥

pub record Sees (c : Token) (ts : List Placed) (result : Bool) : Type 0 where
  pub answer : Saw c ts result

-- how the next token is taken, whatever it is
abbrev pub TookNext : Bool → List Placed → Result At Stop → List Placed → Type 0
TookNext within [] result new = (result ≡ Err stop.Syntax) × (new ≡ [])
TookNext true (t ∷ ts) result new = (result ≡ Ok t.at) × (new ≡ ts)
TookNext false (t ∷ ts) result new = (result ≡ Err stop.TooDeep) × (new ≡ t ∷ ts)

pub record TakesNext (within : Bool) (old : List Placed) (result : Result At Stop) (new : List Placed) : Type 0 where
  pub answer : TookNext within old result new

-- how a token is taken
abbrev pub Took : Token → Bool → List Placed → Result At Stop → List Placed → Type 0
Took c within old (Ok at) new = (within ≡ true) × (old ≡ token_at c at ∷ new)
Took c within old (Err stop.Memory) new = ⊥
Took c within old (Err stop.Syntax) new = (old ≡ new) × (first old ≡ Some c → ⊥)
Took c within old (Err stop.TooDeep) new = (old ≡ new) × (within ≡ false) × (first old ≡ Some c)

pub record Takes (c : Token) (within : Bool) (old : List Placed) (result : Result At Stop) (new : List Placed) : Type 0 where
  pub answer : Took c within old result new

-- The answer is what was there and behind it what a program gives that reads a list.
abbrev pub Adds : (s : Sort) {A B : Type 0} → Program s → (List B → Value s) → (A → List B) → List B → List Placed → Result A Stop
    → List Placed → Type 0
Adds s {B = B} p view items front old (Ok x) new = (rest : List B) × (items x ≡ front ++ rest) × Runs within_limits s p old (Outcome.read (view rest) new)
Adds s p view items front old (Err e) new = Fails s p old e new

pub record GoesOn (s : Sort) {A B : Type 0} (p : Program s) (view : List B → Value s) (items : A → List B) (front : List B) (old : List Placed)
    (result : Result A Stop) (new : List Placed) : Type 0 where
  pub answer : Adds s p view items front old result new

-- The answer leads from a program to another that depends on it: whatever that one answers, the first does.
abbrev pub Led : (s : Sort) {A : Type 0} → Program s → (A → Program s) → (A → Value s) → List Placed → Result A Stop → List Placed → Type 0
Led s {A = A} p q view old (Ok x) mid = (result : Result A Stop) (new : List Placed) → Reads s (q x) view mid result new → Reads s p view old result new
Led s p q view old (Err e) new = Fails s p old e new

pub record Leads (s : Sort) {A : Type 0} (p : Program s) (q : A → Program s) (view : A → Value s) (old : List Placed) (result : Result A Stop)
    (new : List Placed) : Type 0 where
  pub answer : Led s p q view old result new
