-- What the programs of the rules do on tokens, with the limits kept at some of them.
use Rattle.std.specs.Prelude.{◌≡◌, Bool, true, false, List, ◌∷◌, Option, Some}
use Rattle.c_words.specs.Tokens.{Token, Placed}
use Rattle.c_words.specs.declared.place.At.{At}
use Rattle.syntax_tree.specs.GrammarLimits.{Limits}
use Rattle.syntax_tree.specs.GrammarRefusals.{Refusal}
use Rattle.c_parser_rules.specs.Programs.{Sort, Value, Rule, Program, Outcome}
use Rattle.c_parser_rules.specs.Tests.{first}
use Rattle.c_parser_rules.specs.Bodies.{body}

abbrev pub token_at : Token → At → Placed
token_at c at = record { token = c; at = at }

pub data Runs (limits : Limits) : (s : Sort) → Program s → List Placed → Outcome (Value s) → Type 0 where
  give : {s : Sort} {x : Value s} {ts : List Placed} → Runs limits s (Program.give x) ts (Outcome.read x ts)
  refuse : {s : Sort} {ts : List Placed} → Runs limits s (Program.refuse {s = s}) ts (Outcome.refused Refusal.Syntax ts)
  look : {s : Sort} {f : Option Token → Program s} {ts : List Placed} {o : Outcome (Value s)} → Runs limits s (f (first ts)) ts o
      → Runs limits s (Program.look f) ts o
  take : {s : Sort} {c : Token} {within : Bool} {f : At → Program s} {at : At} {ts : List Placed} {o : Outcome (Value s)}
      → (limits at ≡ true → within ≡ true) → Runs limits s (f at) ts o → Runs limits s (Program.take c within f) (token_at c at ∷ ts) o
  take_deep : {s : Sort} {c : Token} {within : Bool} {f : At → Program s} {at : At} {ts : List Placed}
      → limits at ≡ true → within ≡ false
      → Runs limits s (Program.take c within f) (token_at c at ∷ ts) (Outcome.refused Refusal.TooDeep (token_at c at ∷ ts))
  take_other : {s : Sort} {c : Token} {within : Bool} {f : At → Program s} {ts : List Placed}
      → (first ts ≡ Some c → ⊥) → Runs limits s (Program.take c within f) ts (Outcome.refused Refusal.Syntax ts)
  ahead : {s : Sort} {c : Token} {within : Bool} {f : At → Program s} {at : At} {ts : List Placed} {o : Outcome (Value s)}
      → (limits at ≡ true → within ≡ true) → Runs limits s (f at) (token_at c at ∷ ts) o
      → Runs limits s (Program.ahead c within f) (token_at c at ∷ ts) o
  ahead_deep : {s : Sort} {c : Token} {within : Bool} {f : At → Program s} {at : At} {ts : List Placed}
      → limits at ≡ true → within ≡ false
      → Runs limits s (Program.ahead c within f) (token_at c at ∷ ts) (Outcome.refused Refusal.TooDeep (token_at c at ∷ ts))
  ahead_other : {s : Sort} {c : Token} {within : Bool} {f : At → Program s} {ts : List Placed}
      → (first ts ≡ Some c → ⊥) → Runs limits s (Program.ahead c within f) ts (Outcome.refused Refusal.Syntax ts)
  call : {s t : Sort} {r : Rule s} {f : Value s → Program t} {ts us : List Placed} {x : Value s} {o : Outcome (Value t)}
      → Runs limits s (body r) ts (Outcome.read x us) → Runs limits t (f x) us o → Runs limits t (Program.call r f) ts o
  call_refused : {s t : Sort} {r : Rule s} {f : Value s → Program t} {ts us : List Placed} {why : Refusal}
      → Runs limits s (body r) ts (Outcome.refused why us) → Runs limits t (Program.call r f) ts (Outcome.refused why us)
