-- A program has one outcome, and what is behind the refused token changes nothing.
use Rattle.std.proofs.Common.{◌≡◌, Bool, true, false, List, ◌∷◌, Some, refl, sym, ap, ◌∙◌, subst}
use Rattle.std.proofs.lemmas.Bool.{false≢true}
use Rattle.c_words.specs.Tokens.{Token, Placed}
use Rattle.c_words.specs.declared.place.At.{At}
use Rattle.syntax_tree.specs.GrammarLimits.{Limits}
use Rattle.syntax_tree.specs.GrammarRefusals.{Refusal}
use Rattle.c_parser_rules.specs.Programs.{Sort, Value, Rule, Program, Outcome}
use Rattle.c_parser_rules.specs.Tests.{first}
use Rattle.c_parser_rules.specs.Bodies.{body}
use Rattle.c_parser_rules.specs.Runs.{Runs, token_at}

clash : {A : Type 0} {b : Bool} → b ≡ true → b ≡ false → A
clash h i = absurd (false≢true (sym i ∙ h))

read_one : {A : Type 0} {x y : A} {us vs : List Placed} → Outcome.read x us ≡ Outcome.read y vs → (x ≡ y) × (us ≡ vs)
read_one h = (cc, cc)

refused_one : {A : Type 0} (why v : Refusal) (us vs : List Placed) → (let o : Outcome A = Outcome.refused why us in o ≡ Outcome.refused v vs) → (why ≡ v) × (us ≡ vs)
refused_one why v us vs h = (cc, cc)

refused_same : (A B : Type 0) (why v : Refusal) (us vs : List Placed) → (let o : Outcome A = Outcome.refused why us in o ≡ Outcome.refused v vs)
    → (let o : Outcome B = Outcome.refused why us in o ≡ Outcome.refused v vs)
refused_same A B why v us vs h = let e = refused_one {A = A} why v us vs h in cc

at_same : (c : Token) (at at2 : At) (ts us : List Placed) → token_at c at ∷ ts ≡ token_at c at2 ∷ us → at ≡ at2
at_same c at at2 ts us e = let h : token_at c at ≡ token_at c at2 = cc in ap (λ p. p.at) h

module _ (limits : Limits) where
  -- how a program came to its outcome
  pub data Took (s : Sort) (c : Token) (within : Bool) (f : At → Program s) (ts : List Placed) (o : Outcome (Value s)) : Type 0 where
    took : (at : At) (us : List Placed) → ts ≡ token_at c at ∷ us → (limits at ≡ true → within ≡ true) → Runs limits s (f at) us o → Took s c within f ts o
    deep : (at : At) (us : List Placed) → ts ≡ token_at c at ∷ us → limits at ≡ true → within ≡ false → o ≡ Outcome.refused Refusal.TooDeep ts → Took s c within f ts o
    other : (first ts ≡ Some c → ⊥) → o ≡ Outcome.refused Refusal.Syntax ts → Took s c within f ts o

  pub data Saw (s : Sort) (c : Token) (within : Bool) (f : At → Program s) (ts : List Placed) (o : Outcome (Value s)) : Type 0 where
    saw : (at : At) (us : List Placed) → ts ≡ token_at c at ∷ us → (limits at ≡ true → within ≡ true) → Runs limits s (f at) ts o → Saw s c within f ts o
    deep : (at : At) (us : List Placed) → ts ≡ token_at c at ∷ us → limits at ≡ true → within ≡ false → o ≡ Outcome.refused Refusal.TooDeep ts → Saw s c within f ts o
    other : (first ts ≡ Some c → ⊥) → o ≡ Outcome.refused Refusal.Syntax ts → Saw s c within f ts o

  pub data Called (s t : Sort) (r : Rule s) (f : Value s → Program t) (ts : List Placed) (o : Outcome (Value t)) : Type 0 where
    called : (x : Value s) (us : List Placed) → Runs limits s (body r) ts (Outcome.read x us) → Runs limits t (f x) us o → Called s t r f ts o
    failed : (why : Refusal) (us : List Placed) → Runs limits s (body r) ts (Outcome.refused why us) → o ≡ Outcome.refused why us → Called s t r f ts o

  abbrev pub Came : (s : Sort) → Program s → List Placed → Outcome (Value s) → Type 0
  Came s (Program.give x) ts o = o ≡ Outcome.read x ts
  Came s Program.refuse ts o = o ≡ Outcome.refused Refusal.Syntax ts
  Came s (Program.look f) ts o = Runs limits s (f (first ts)) ts o
  Came s (Program.take c within f) ts o = Took s c within f ts o
  Came s (Program.ahead c within f) ts o = Saw s c within f ts o
  Came s (Program.call {s = r} q f) ts o = Called r s q f ts o

  pub came : (s : Sort) (p : Program s) (ts : List Placed) (o : Outcome (Value s)) → Runs limits s p ts o → Came s p ts o
  came _ _ _ _ Runs.give = refl
  came _ _ _ _ Runs.refuse = refl
  came _ _ _ _ (Runs.look r) = r
  came _ _ _ _ (Runs.take w r) = Took.took _ _ refl w r
  came _ _ _ _ (Runs.take_deep k bad) = Took.deep _ _ refl k bad refl
  came _ _ _ _ (Runs.take_other bad) = Took.other bad refl
  came _ _ _ _ (Runs.ahead w r) = Saw.saw _ _ refl w r
  came _ _ _ _ (Runs.ahead_deep k bad) = Saw.deep _ _ refl k bad refl
  came _ _ _ _ (Runs.ahead_other bad) = Saw.other bad refl
  came _ _ _ _ (Runs.call r n) = Called.called _ _ r n
  came _ _ _ _ (Runs.call_refused r) = Called.failed _ _ r refl

  next : (s t : Sort) (f : Value s → Program t) (x y : Value s) (us vs : List Placed) (o : Outcome (Value t)) → Outcome.read x us ≡ Outcome.read y vs
      → Runs limits t (f y) vs o → Runs limits t (f x) us o
  next s t f x y us vs o h r = let e = read_one h in subst (λ z. Runs limits t (f z) us o) (sym e.0) (subst (λ z. Runs limits t (f y) z o) (sym e.1) r)

  same_at : (c : Token) (at at2 : At) (ts us : List Placed) → token_at c at ∷ ts ≡ token_at c at2 ∷ us → limits at2 ≡ true → limits at ≡ true
  same_at c at at2 ts us e k = ap limits (at_same c at at2 ts us e) ∙ k

  same_rest : (s : Sort) (c : Token) (f : At → Program s) (at at2 : At) (ts us : List Placed) (u : Outcome (Value s)) → token_at c at ∷ ts ≡ token_at c at2 ∷ us
      → Runs limits s (f at2) us u → Runs limits s (f at) ts u
  same_rest s c f at at2 ts us u e r =
      let a : at ≡ at2 = at_same c at at2 ts us e in
      let b : ts ≡ us = cc in
      subst (λ z. Runs limits s (f z) ts u) (sym a) (subst (λ z. Runs limits s (f at2) z u) (sym b) r)

  pub one_outcome : (s : Sort) (p : Program s) (ts : List Placed) (o u : Outcome (Value s)) → Runs limits s p ts o → Runs limits s p ts u → o ≡ u
  one_outcome _ _ _ _ u Runs.give q = sym (came _ _ _ _ q)
  one_outcome _ _ _ _ u Runs.refuse q = sym (came _ _ _ _ q)
  one_outcome _ _ _ _ u (Runs.look r) q = one_outcome _ _ _ _ u r (came _ _ _ _ q)
  one_outcome _ _ _ o u (Runs.take {s = s} {c = c} {within = within} {f = f} {at = at} {ts = ts} w r) q = elim (came _ _ _ _ q) [
    | Took.took at2 us e v q2 ↦ one_outcome _ _ _ o u r (same_rest s c f at at2 ts us u e q2)
    | Took.deep at2 us e k bad is ↦ clash (w (same_at c at at2 ts us e k)) bad
    | Took.other bad is ↦ absurd (bad refl)
  ]
  one_outcome _ _ _ _ u (Runs.take_deep {c = c} {at = at} {ts = ts} k bad) q = elim (came _ _ _ _ q) [
    | Took.took at2 us e v q2 ↦ clash (v (same_at c at2 at us ts (sym e) k)) bad
    | Took.deep at2 us e l not is ↦ sym is
    | Took.other not is ↦ absurd (not refl)
  ]
  one_outcome _ _ _ _ u (Runs.take_other bad) q = elim (came _ _ _ _ q) [
    | Took.took at2 us e v q2 ↦ absurd (bad (ap first e))
    | Took.deep at2 us e l not is ↦ absurd (bad (ap first e))
    | Took.other not is ↦ sym is
  ]
  one_outcome _ _ _ o u (Runs.ahead {s = s} {c = c} {within = within} {f = f} {at = at} {ts = ts} w r) q = elim (came _ _ _ _ q) [
    | Saw.saw at2 us e v q2 ↦ one_outcome _ _ _ o u r (subst (λ z. Runs limits s (f z) (token_at c at ∷ ts) u) (sym (at_same c at at2 ts us e)) q2)
    | Saw.deep at2 us e k bad is ↦ clash (w (same_at c at at2 ts us e k)) bad
    | Saw.other bad is ↦ absurd (bad refl)
  ]
  one_outcome _ _ _ _ u (Runs.ahead_deep {c = c} {at = at} {ts = ts} k bad) q = elim (came _ _ _ _ q) [
    | Saw.saw at2 us e v q2 ↦ clash (v (same_at c at2 at us ts (sym e) k)) bad
    | Saw.deep at2 us e l not is ↦ sym is
    | Saw.other not is ↦ absurd (not refl)
  ]
  one_outcome _ _ _ _ u (Runs.ahead_other bad) q = elim (came _ _ _ _ q) [
    | Saw.saw at2 us e v q2 ↦ absurd (bad (ap first e))
    | Saw.deep at2 us e l not is ↦ absurd (bad (ap first e))
    | Saw.other not is ↦ sym is
  ]
  one_outcome _ _ _ o u (Runs.call {s = s} {t = t} {r = r} {f = f} {ts = ts} {us = us} {x = x} a n) q = elim (came _ _ _ _ q) [
    | Called.called y vs b m ↦ one_outcome _ _ _ o u n (next s t f x y us vs u (one_outcome _ _ _ _ _ a b) m)
    | Called.failed why vs b is ↦ let e = one_outcome _ _ _ _ _ a b in absurd (cc)
  ]
  one_outcome _ _ _ _ u (Runs.call_refused a) q = elim (came _ _ _ _ q) [
    | Called.called y vs b m ↦ let e = one_outcome _ _ _ _ _ a b in absurd (cc)
    | Called.failed why vs b is ↦ let e = one_outcome _ _ _ _ _ a b in refused_same _ _ _ _ _ _ e ∙ sym is
  ]
