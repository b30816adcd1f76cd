-- Steps of a proof that a program reads what stands for its value.
use Rattle.std.proofs.Common.{◌≡◌, ℕ, ◌≤◌, ◌<◌, Bool, true, false, cond, ◌&&◌, nat_lt, List, [], ◌∷◌, ◌++◌, Option, None, refl, sym, ◌∙◌, subst, arith}
use Rattle.std.proofs.lemmas.List.{append-nil}
use Rattle.std.proofs.lemmas.Bool.{false≢true}
use Rattle.std.proofs.lemmas.Bool.Decides.{nat_tests}
use Rattle.c_words.specs.Tokens.{Token, Placed}
use Rattle.c_words.specs.declared.place.At.{At}
use Rattle.syntax_tree.specs.Syntax.{ExpressionTree}
use Rattle.syntax_tree.specs.GrammarLimits.{Limits, Opens, IsLow}
use Rattle.syntax_tree.specs.GrammarTokens.{identifier}
use Rattle.c_parser_rules.specs.Programs.{Sort, Value, Rule, Program}
use Rattle.c_parser_rules.specs.Tests.{opens, is_low}
use Rattle.c_parser_rules.specs.Bodies.{when}
use Rattle.c_parser_rules.specs.Runs.{token_at}
use Rattle.c_parser_rules.proofs.Meanings.{Means}
use Rattle.c_parser_rules.proofs.Soundness.{Rel, Sample, Free, Proves}

-- the program may go on, whatever follows
abbrev pub goes : {s : Sort} → Program s → Bool
goes (Program.give x) = true
goes Program.refuse = false
goes (Program.look f) = goes (f None)
goes (Program.take c within f) = true
goes (Program.ahead c within f) = false
goes (Program.call r f) = true

pub less : (a b : ℕ) → nat_lt a b ≡ true → a < b
less a b h = grind (arith, nat_tests)

pub not_less : (a b : ℕ) → nat_lt a b ≡ false → b ≤ a
not_less a b h = grind (arith, nat_tests)

pub both_left : (a b : Bool) → (a && b) ≡ true → a ≡ true
both_left true b h = refl
both_left false b h = absurd (false≢true h)

pub both_right : (a b : Bool) → (a && b) ≡ true → b ≡ true
both_right true b h = h
both_right false b h = absurd (false≢true h)

module _ (g : Limits) (samples : (s : Sort) (r : Rule s) → Free g → Sample (Means g r)) where
  pub completes : (s : Sort) (p : Program s) (W : Rel (Value s)) → Proves g s p W → goes p ≡ true → Free g → Sample W
  completes _ _ _ (Proves.give {x = x} h) e free = record { tokens = []; value = x; holds = h }
  completes _ _ _ Proves.refuse e free = absurd (false≢true e)
  completes _ _ _ (Proves.look h) e free = completes _ _ _ (h None) e free
  completes _ _ _ (Proves.take {c = c} some h) e free =
      let t = some free.0 (λ k. absurd (false≢true (sym free.1 ∙ k))) free in
      record { tokens = token_at c free.0 ∷ t.tokens; value = t.value; holds = t.holds }
  completes _ _ _ (Proves.ahead begun some h) e free = absurd (false≢true e)
  completes _ _ _ (Proves.call {s = s} {r = r} some h) e free =
      let i = samples s r free in
      let t = some i.value i.tokens i.holds free in
      record { tokens = i.tokens ++ t.tokens; value = t.value; holds = t.holds }

  pub takes : {s : Sort} {c : Token} {within : Bool} {f : At → Program s} {W : Rel (Value s)} → ((at : At) → goes (f at) ≡ true)
      → ((at : At) → (g at ≡ true → within ≡ true) → Proves g s (f at) (λ ts. W (token_at c at ∷ ts))) → Proves g s (Program.take c within f) W
  takes e h = Proves.take (λ at ok. completes _ _ _ (h at ok) (e at)) h

  pub calls : {s t : Sort} {r : Rule s} {f : Value s → Program t} {W : Rel (Value t)} → ((x : Value s) → goes (f x) ≡ true)
      → ((x : Value s) (us : List Placed) → Means g r us x → Proves g t (f x) (λ ts. W (us ++ ts))) → Proves g t (Program.call r f) W
  calls e h = Proves.call (λ x us i. completes _ _ _ (h x us i) (e x)) h

  pub whens : {s : Sort} (test : Option Token → Bool) {p q : Program s} {W : Rel (Value s)} → Proves g s p W → Proves g s q W → Proves g s (when test p q) W
  whens {s = s} test {p = p} {q = q} {W = W} h i = Proves.look (λ c. by (test c))
    where
      by : (b : Bool) → Proves g s (cond b p q) W
      by true = h
      by false = i

  -- a rule and then its value
  pub last : {s t : Sort} {r : Rule s} {f : Value s → Value t} {W : Rel (Value t)} → ((x : Value s) (us : List Placed) → Means g r us x → W us (f x))
      → Proves g t (Program.call r (λ x. Program.give (f x))) W
  last {f = f} {W = W} h = calls (λ x. refl) (λ x us i. Proves.give (subst (λ z. W z (f x)) (sym (append-nil us)) (h x us i)))

  -- a name
  pub named : {t : Sort} {f : List ℕ × At → Program t} {W : Rel (Value t)} → ((x : List ℕ × At) → goes (f x) ≡ true)
      → ((x : List ℕ) (at : At) → Proves g t (f (x, at)) (λ ts. W (identifier x at ∷ ts))) → Proves g t (Program.call Rule.identifier f) W
  named {f = f} {W = W} e h = calls e (λ x us i. subst (λ z. Proves g _ (f x) (λ ts. W (z ++ ts))) (sym i) (h x.0 x.1))

  pub opened : (at : At) (d : ℕ) → (g at ≡ true → opens d ≡ true) → Opens g at d
  opened at d h = λ k. less d 200 (h k)

  pub lowered : (at : At) (a : ExpressionTree) → (g at ≡ true → is_low a ≡ true) → IsLow g at a
  lowered at a h = λ k. less _ 200 (h k)

  pub low_of : (at : At) (a : ExpressionTree) (d : ℕ) → (g at ≡ true → (is_low a && opens d) ≡ true) → IsLow g at a
  low_of at a d h = λ k. less _ 200 (both_left (is_low a) (opens d) (h k))

  pub open_of : (at : At) (a : ExpressionTree) (d : ℕ) → (g at ≡ true → (is_low a && opens d) ≡ true) → Opens g at d
  open_of at a d h = λ k. less d 200 (both_right (is_low a) (opens d) (h k))
