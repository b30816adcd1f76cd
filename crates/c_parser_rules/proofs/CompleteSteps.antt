-- Steps of runs.
use Rattle.std.proofs.Common.{◌≡◌, ℕ, ◌<◌, Bool, true, false, cond, ◌&&◌, nat_lt, List, Option, sym, subst, arith}
use Rattle.std.proofs.lemmas.Bool.{false≢true}
use Rattle.std.proofs.lemmas.Bool.Decides.{nat_tests}
use Rattle.c_words.specs.Tokens.{Token, Placed}
use Rattle.c_words.specs.declared.place.At.{At}
use Rattle.syntax_tree.specs.Syntax.{ExpressionTree}
use Rattle.syntax_tree.specs.SyntaxHeights.{height}
use Rattle.syntax_tree.specs.GrammarLimits.{Limits, Opens, IsLow}
use Rattle.c_parser_rules.specs.Programs.{Sort, Value, Rule, Program, Outcome}
use Rattle.c_parser_rules.specs.Tests.{first, opens, is_low}
use Rattle.c_parser_rules.specs.Bodies.{body, when, reads}
use Rattle.c_parser_rules.specs.Runs.{Runs}
use Rattle.c_parser_rules.proofs.RunsLaws.{came, Called}

pub is_less : (a b : ℕ) → a < b → nat_lt a b ≡ true
is_less a b h = grind (arith, nat_tests)

pub both : (a b : Bool) → a ≡ true → b ≡ true → (a && b) ≡ true
both true b h i = i
both false b h i = absurd (false≢true h)

module _ (g : Limits) where
  pub reads_ : {s : Sort} {r : Rule s} {ts us : List Placed} {x : Value s} → Runs g s (body r) ts (Outcome.read x us) → Runs g s (reads r) ts (Outcome.read x us)
  reads_ h = Runs.call h Runs.give

  pub yes_ : {s : Sort} (test : Option Token → Bool) (p q : Program s) {ts : List Placed} {o : Outcome (Value s)} → test (first ts) ≡ true → Runs g s p ts o → Runs g s (when test p q) ts o
  yes_ {s = s} test p q {ts = ts} {o = o} e r = Runs.look (subst (λ b. Runs g s (cond b p q) ts o) (sym e) r)

  pub no_ : {s : Sort} (test : Option Token → Bool) (p q : Program s) {ts : List Placed} {o : Outcome (Value s)} → test (first ts) ≡ false → Runs g s q ts o → Runs g s (when test p q) ts o
  no_ {s = s} test p q {ts = ts} {o = o} e r = Runs.look (subst (λ b. Runs g s (cond b p q) ts o) (sym e) r)

  pub looked : {s : Sort} (f : Option Token → Program s) (p : Program s) {ts : List Placed} {o : Outcome (Value s)} → f (first ts) ≡ p → Runs g s p ts o → Runs g s (Program.look f) ts o
  looked {s = s} f p {ts = ts} {o = o} e r = Runs.look (subst (λ z. Runs g s z ts o) (sym e) r)

  pub ok : (at : At) (d : ℕ) → Opens g at d → g at ≡ true → opens d ≡ true
  ok at d op k = is_less d 200 (op k)

  pub low : (at : At) (a : ExpressionTree) → IsLow g at a → g at ≡ true → is_low a ≡ true
  low at a l k = is_less (height a) 200 (l k)

  pub low_ok : (at : At) (a : ExpressionTree) (d : ℕ) → IsLow g at a → Opens g at d → g at ≡ true → (is_low a && opens d) ≡ true
  low_ok at a d l op k = both (is_low a) (opens d) (low at a l k) (ok at d op k)

  -- the parts of a run
  pub unreads : {s : Sort} {r : Rule s} {ts us : List Placed} {x : Value s} → Runs g s (reads r) ts (Outcome.read x us) → Runs g s (body r) ts (Outcome.read x us)
  unreads {s = s} {r = r} {ts = ts} {us = us} {x = x} h = elim (came g _ _ _ _ h) [
    | Called.called y vs a n ↦ subst (λ o. Runs g s (body r) ts o) (sym (came g _ _ _ _ n)) a
    | Called.failed why vs a e ↦ absurd (cc)
  ]
