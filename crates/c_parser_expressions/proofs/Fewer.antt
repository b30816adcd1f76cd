-- What a rule reads leaves no more tokens than there were, and fewer where it took one; and what a token that was taken
-- tells of the level.
use Rattle.std.proofs.Common.{◌≡◌, ◌⊎◌, inl, inr, ℕ, ◌≤◌, ◌<◌, length, arith, Bool, true, false, cond, ◌&&◌, List, [], ◌∷◌, Option, Some, None, Ok, refl, ap}
use Rattle.std.proofs.lemmas.Bool.Decides.{nat_tests}
use Rattle.c_words.specs.Tokens.{Token, Placed}
use Rattle.c_words.specs.declared.place.At.{At}
use Rattle.c_words.specs.declared.words.Keyword.TheVariants as w
use Rattle.c_words.specs.declared.words.Punctuator.TheVariants as m
use Rattle.syntax_tree.specs.GrammarLimits.{Limits, within_limits}
use Rattle.syntax_tree.specs.GrammarRefusals.{Refusal}
use Rattle.c_parser_rules.specs.Programs.{Sort, Value, Rule, Program, Outcome}
use Rattle.c_parser_rules.specs.Tests.{first, is_semicolon, is_open_brace, is_open_bracket, begins_specifier, opens}
use Rattle.c_parser_rules.specs.Bodies.{body, statement_by, value_statement}
use Rattle.c_parser_rules.specs.Runs.{Runs, token_at}
use Rattle.c_parser_expressions.specs.Reads.{Reads, Takes, TakesNext}

-- what is left
abbrev pub left : {A : Type 0} → Outcome A → List Placed
left (Outcome.read x us) = us
left (Outcome.refused why us) = us

module _ (limits : Limits) where
  pub shrinks : (s : Sort) (p : Program s) (ts : List Placed) (o : Outcome (Value s)) → Runs limits s p ts o → length (left o) ≤ length ts
  shrinks _ _ _ _ Runs.give = omega arith
  shrinks _ _ _ _ Runs.refuse = omega arith
  shrinks _ _ _ o (Runs.look r) = shrinks _ _ _ o r
  shrinks _ _ _ o (Runs.take w r) = let h = shrinks _ _ _ o r in omega (arith, h)
  shrinks _ _ _ _ (Runs.take_deep k bad) = omega arith
  shrinks _ _ _ _ (Runs.take_other bad) = omega arith
  shrinks _ _ _ o (Runs.ahead w r) = shrinks _ _ _ o r
  shrinks _ _ _ _ (Runs.ahead_deep k bad) = omega arith
  shrinks _ _ _ _ (Runs.ahead_other bad) = omega arith
  shrinks _ _ _ o (Runs.call r n) = let h = shrinks _ _ _ _ r in let i = shrinks _ _ _ o n in omega (arith, h, i)
  shrinks _ _ _ _ (Runs.call_refused r) = shrinks _ _ _ _ r

pub fewer : {s : Sort} {A : Type 0} {p : Program s} {v : A → Value s} {old new : List Placed} {x : A} → Reads s p v old (Ok x) new → length new ≤ length old
fewer {s = s} {p = p} {v = v} {old = old} {new = new} {x = x} a = shrinks within_limits s p old (Outcome.read (v x) new) a.answer

pub mark_shorter : {c : Token} {within : Bool} {old new : List Placed} {at : At} → Takes c within old (Ok at) new → length new < length old
mark_shorter a = let e = a.answer.1 in omega (arith, ap length e)

within_next : (within : Bool) (old new : List Placed) (at : At) → TakesNext within old (Ok at) new → within ≡ true
within_next within [] new at a = absurd (let e = a.answer.0 in (cc))
within_next true (t ∷ ts) new at a = refl
within_next false (t ∷ ts) new at a = absurd (let e = a.answer.0 in (cc))

below : (d : ℕ) → opens d ≡ true → d < 200
below d h = grind (arith, nat_tests, h)

second : (a b : Bool) → (a && b) ≡ true → b ≡ true
second true b h = h
second false b h = absurd (cc)

-- another level could be opened
pub opened : {d : ℕ} {old new : List Placed} {at : At} → TakesNext (opens d) old (Ok at) new → d < 200
opened {d = d} {old = old} {new = new} {at = at} a = below d (within_next (opens d) old new at a)

pub opened_behind : (a : Bool) {d : ℕ} {old new : List Placed} {at : At} → TakesNext (a && opens d) old (Ok at) new → d < 200
opened_behind a {d = d} {old = old} {new = new} {at = at} t = below d (second a (opens d) (within_next (a && opens d) old new at t))

-- another level was opened at the token that was taken
pub mark_opened : {c : Token} {d : ℕ} {old new : List Placed} {at : At} → Takes c (opens d) old (Ok at) new → d < 200
mark_opened {d = d} a = below d a.answer.0

-- what a rule gives, it gives behind a token at least
abbrev pub Moves : (s : Sort) → Program s → Type 0
Moves s p = (old new : List Placed) (x : Value s) → Runs within_limits s p old (Outcome.read x new) → length new < length old

-- each way through the program takes a token
abbrev pub Steps : (s : Sort) → Program s → Type 0
Steps s (Program.give x) = ⊥
Steps s Program.refuse = Unit {0}
Steps s (Program.look f) = (c : Option Token) → Steps s (f c)
Steps s (Program.take c within f) = Unit {0}
Steps s (Program.ahead c within f) = (at : At) → Steps s (f at)
Steps s (Program.call {s = t} r f) = Moves t (body r) ⊎ ((x : Value t) → Steps s (f x))

not_longer : (s : Sort) (p : Program s) (old new : List Placed) (x : Value s) → Runs within_limits s p old (Outcome.read x new) → length new ≤ length old
not_longer s p old new x r = shrinks within_limits s p old (Outcome.read x new) r

read_same : {A : Type 0} (x y : A) (us vs : List Placed) → Outcome.read x us ≡ Outcome.read y vs → (us ≡ vs)
read_same x y us vs e = cc

read_not : {A : Type 0} (x : A) (us vs : List Placed) (why : Refusal) → Outcome.refused why us ≡ Outcome.read x vs → ⊥
read_not x us vs why e = cc

moved : (s : Sort) (p : Program s) (old : List Placed) (o : Outcome (Value s)) → Runs within_limits s p old o → Steps s p → (new : List Placed) (x : Value s) → o ≡ Outcome.read x new → length new < length old
moved _ _ _ _ Runs.give h new x e = absurd h
moved _ _ _ _ (Runs.refuse {ts = ts}) h new x e = absurd (read_not x ts new Refusal.Syntax e)
moved _ _ _ _ (Runs.look {ts = ts} r) h new x e = moved _ _ _ _ r (h (first ts)) new x e
moved _ _ _ _ (Runs.take {s = s} {f = f} {at = at} {ts = ts} w r) h new x e =
    let n = not_longer s (f at) ts new x (rw e at r) in omega (arith, n)
moved _ _ _ _ (Runs.take_deep {c = c} {at = at} {ts = ts} k n) h new x e = absurd (read_not x (token_at c at ∷ ts) new Refusal.TooDeep e)
moved _ _ _ _ (Runs.take_other {ts = ts} n) h new x e = absurd (read_not x ts new Refusal.Syntax e)
moved _ _ _ _ (Runs.ahead {at = at} w r) h new x e = moved _ _ _ _ r (h at) new x e
moved _ _ _ _ (Runs.ahead_deep {c = c} {at = at} {ts = ts} k n) h new x e = absurd (read_not x (token_at c at ∷ ts) new Refusal.TooDeep e)
moved _ _ _ _ (Runs.ahead_other {ts = ts} n) h new x e = absurd (read_not x ts new Refusal.Syntax e)
moved _ _ _ _ (Runs.call {s = s} {t = t} {r = r} {f = f} {ts = ts} {us = us} {x = y} a n) (inl k) new x e =
    let i = k ts us y a in let j = not_longer t (f y) us new x (rw e at n) in omega (arith, i, j)
moved _ _ _ _ (Runs.call {s = s} {t = t} {r = r} {f = f} {ts = ts} {us = us} {x = y} a n) (inr k) new x e =
    let i = not_longer s (body r) ts us y a in let j = moved t (f y) us _ n (k y) new x e in omega (arith, i, j)
moved _ _ _ _ (Runs.call_refused {us = us} {why = why} a) h new x e = absurd (read_not x us new why e)

moves : (s : Sort) (p : Program s) → Steps s p → Moves s p
moves s p h old new x r = moved s p old (Outcome.read x new) r h new x refl

either : (s : Sort) (p q : Program s) (b : Bool) → Steps s p → Steps s q → Steps s (cond b p q)
either s p q true h i = h
either s p q false h i = i

pub shorter_by : {s : Sort} {A : Type 0} {p : Program s} {v : A → Value s} {old new : List Placed} {x : A} → Moves s p → Reads s p v old (Ok x) new → length new < length old
shorter_by {v = v} {old = old} {new = new} {x = x} h a = h old new (v x) a.answer

-- behind what was read a mark was taken
pub comma_shorter : {s : Sort} {A : Type 0} {p : Program s} {v : A → Value s} {c : Token} {within : Bool} {old mid new : List Placed} {x : A} {at : At}
    → Reads s p v old (Ok x) mid → Takes c within mid (Ok at) new → length new < length old
comma_shorter {s = s} {p = p} {v = v} {old = old} {mid = mid} {new = new} {x = x} a t =
    let i = not_longer s p old mid (v x) a.answer in omega (arith, i, ap length t.answer.1)

pub array_moves : (d : ℕ) → Moves Sort.array (body (Rule.array d))
array_moves d = moves Sort.array (body (Rule.array d)) tt

pub suffix_moves : (d : ℕ) → Moves Sort.suffix (body (Rule.suffix d))
suffix_moves d = moves Sort.suffix (body (Rule.suffix d)) (λ c. either _ _ _ (is_open_bracket c) (inl (array_moves d)) tt)

pub member_moves : (d : ℕ) → Moves Sort.member (body (Rule.member d))
member_moves d = moves Sort.member (body (Rule.member d)) (inr (λ s. inr (λ xs. tt)))

block_moves : (d : ℕ) → Moves Sort.block (body (Rule.block d))
block_moves d = moves Sort.block (body (Rule.block d)) tt

declaration_moves : (d : ℕ) → Moves Sort.declaration (body (Rule.declaration d))
declaration_moves d = moves Sort.declaration (body (Rule.declaration d)) (inr (λ s c. either _ _ _ (is_semicolon c) tt (inr (λ xs. tt))))

value_steps : (d : ℕ) (c : Option Token) → Steps Sort.statement (value_statement d c)
value_steps d None = tt
value_steps d (Some t) = λ at. inr (λ a. tt)

statement_steps : (d : ℕ) (c : Option Token) → Steps Sort.statement (statement_by d c)
statement_steps d None = tt
statement_steps d (Some (Token.Punctuator m.Semicolon)) = tt
statement_steps d (Some (Token.Punctuator m.OpenBrace)) = inl (block_moves d)
statement_steps d (Some (Token.Keyword w.If)) = tt
statement_steps d (Some (Token.Keyword w.While)) = tt
statement_steps d (Some (Token.Keyword w.Do)) = tt
statement_steps d (Some (Token.Keyword w.For)) = tt
statement_steps d (Some (Token.Keyword w.Break)) = tt
statement_steps d (Some (Token.Keyword w.Continue)) = tt
statement_steps d (Some (Token.Keyword w.Return)) = tt
statement_steps d _ = λ at. inr (λ a. tt)

statement_moves : (d : ℕ) → Moves Sort.statement (body (Rule.statement d))
statement_moves d = moves Sort.statement (body (Rule.statement d)) (statement_steps d)

pub item_moves : (d : ℕ) → Moves Sort.block_item (body (Rule.item d))
item_moves d = moves Sort.block_item (body (Rule.item d)) (λ c. either _ _ _ (begins_specifier c) (inl (declaration_moves d)) (inl (statement_moves d)))

pub external_moves : (d : ℕ) → Moves Sort.external (body (Rule.external d))
external_moves d = moves Sort.external (body (Rule.external d)) (inr (λ h c. either _ _ _ (is_semicolon c) tt (inr (λ t e. either _ _ _ (is_open_brace e) (inl (block_moves d)) (inr (λ i. inr (λ xs. tt)))))))
