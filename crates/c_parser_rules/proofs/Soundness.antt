-- What a program reads stands for its value, and what stands before a refused token begins something that does.
use Rattle.std.proofs.Common.{◌≡◌, Bool, true, false, List, [], ◌∷◌, ◌++◌, length, Option, refl, sym, ap, ◌∙◌, subst, append_assoc}
use Rattle.std.proofs.lemmas.Bool.{false≢true}
use Rattle.c_words.specs.Tokens.{Token, Placed}
use Rattle.c_words.specs.declared.place.At.{At}
use Rattle.syntax_tree.specs.GrammarLimits.{Limits}
use Rattle.syntax_tree.specs.GrammarRefusals.{Refusal}
use Rattle.c_parser_rules.specs.Programs.{Sort, Value, Rule, Program, Outcome}
use Rattle.c_parser_rules.specs.Tests.{first}
use Rattle.c_parser_rules.specs.Bodies.{body}
use Rattle.c_parser_rules.specs.Runs.{Runs, token_at}
use Rattle.c_parser_rules.proofs.Meanings.{Means}

-- a fact, one universe up
record Lift (A : Type 0) : Type 1 where
  value : A

-- tokens that stand for a value
abbrev pub Rel : Type 0 → Type 1
Rel A = List Placed → A → Type 0

pub record Sample {A : Type 0} (W : Rel A) : Type 0 where
  pub tokens : List Placed
  pub value : A
  pub holds : W tokens value

-- the first of these tokens, if there is one, stands here
abbrev pub Begins : At → List Placed → Type 0
Begins at [] = Unit {0}
Begins at (t ∷ ts) = t.at ≡ at

module _ (grammar : Limits) where
  -- a place at which no limit is kept
  abbrev pub Free : Type 0
  Free = (at : At) × (grammar at ≡ false)

  -- What the program reads stands for its value; and wherever it has come to, something may follow that it can read.
  pub data Proves : (s : Sort) → Program s → Rel (Value s) → Type 1 where
    give : {s : Sort} {x : Value s} {W : Rel (Value s)} → W [] x → Proves s (Program.give x) W
    refuse : {s : Sort} {W : Rel (Value s)} → Proves s Program.refuse W
    look : {s : Sort} {f : Option Token → Program s} {W : Rel (Value s)} → ((c : Option Token) → Proves s (f c) W) → Proves s (Program.look f) W
    take : {s : Sort} {c : Token} {within : Bool} {f : At → Program s} {W : Rel (Value s)}
        → ((at : At) → (grammar at ≡ true → within ≡ true) → Free → Sample (λ ts. W (token_at c at ∷ ts)))
        → ((at : At) → (grammar at ≡ true → within ≡ true) → Proves s (f at) (λ ts. W (token_at c at ∷ ts)))
        → Proves s (Program.take c within f) W
    ahead : {s : Sort} {c : Token} {within : Bool} {f : At → Program s} {W : Rel (Value s)}
        → ((at : At) → within ≡ false → grammar at ≡ false → Sample (λ ts. W (token_at c at ∷ ts)))
        → ((at : At) → (grammar at ≡ true → within ≡ true) → Free → Sample (λ ts x. Begins at ts → W ts x))
        → ((at : At) → (grammar at ≡ true → within ≡ true) → Proves s (f at) (λ ts x. Begins at ts → W ts x))
        → Proves s (Program.ahead c within f) W
    call : {s t : Sort} {r : Rule s} {f : Value s → Program t} {W : Rel (Value t)}
        → ((x : Value s) (us : List Placed) → Means grammar r us x → Free → Sample (λ ts. W (us ++ ts)))
        → ((x : Value s) (us : List Placed) → Means grammar r us x → Proves t (f x) (λ ts. W (us ++ ts)))
        → Proves t (Program.call r f) W

  -- the parts of such a proof
  abbrev Parts : (s : Sort) → Program s → Rel (Value s) → Type 1
  Parts s (Program.give x) W = Lift (W [] x)
  Parts s Program.refuse W = Lift (Unit {0})
  Parts s (Program.look f) W = (c : Option Token) → Proves s (f c) W
  Parts s (Program.take c within f) W = (at : At) → (grammar at ≡ true → within ≡ true)
      → (Free → Sample (λ ts. W (token_at c at ∷ ts))) × Proves s (f at) (λ ts. W (token_at c at ∷ ts))
  Parts s (Program.ahead c within f) W = (at : At)
      → (within ≡ false → grammar at ≡ false → Sample (λ ts. W (token_at c at ∷ ts)))
      × ((grammar at ≡ true → within ≡ true) → (Free → Sample (λ ts x. Begins at ts → W ts x)) × Proves s (f at) (λ ts x. Begins at ts → W ts x))
  Parts s (Program.call {s = r_sort} r f) W = (x : Value r_sort) (us : List Placed) → Means grammar r us x
      → (Free → Sample (λ ts. W (us ++ ts))) × Proves s (f x) (λ ts. W (us ++ ts))

  parts : (s : Sort) (p : Program s) (W : Rel (Value s)) → Proves s p W → Parts s p W
  parts _ _ _ (Proves.give h) = record { value = h }
  parts _ _ _ Proves.refuse = record { value = tt }
  parts _ _ _ (Proves.look h) = h
  parts _ _ _ (Proves.take some h) = λ at ok. (some at ok, h at ok)
  parts _ _ _ (Proves.ahead begun some h) = λ at. (begun at, λ ok. (some at ok, h at ok))
  parts _ _ _ (Proves.call some h) = λ x us i. (some x us i, h x us i)

  pub record Good (s : Sort) (p : Program s) (W : Rel (Value s)) : Type 1 where
    pub some : Free → Sample W
    pub proves : Proves s p W

  pub record Read {A : Type 0} (W : Rel A) (a : List Placed) (x : A) (us : List Placed) : Type 0 where
    pub tokens : List Placed
    pub cut : a ≡ tokens ++ us
    pub holds : W tokens x

  -- the tokens before the refused one begin something
  pub record Begun {A : Type 0} (W : Rel A) (a us : List Placed) : Type 0 where
    pub before : List Placed
    pub tail : List Placed
    pub value : A
    pub cut : a ≡ before ++ us
    pub holds : W (before ++ tail) value

  -- the tokens up to this one and with it begin something
  pub record BegunAt {A : Type 0} (W : Rel A) (a : List Placed) (q : Placed) (us : List Placed) : Type 0 where
    pub before : List Placed
    pub tail : List Placed
    pub value : A
    pub cut : a ≡ before ++ (q ∷ us)
    pub holds : W (before ++ (q ∷ tail)) value

  abbrev pub Passed : {A : Type 0} → Rel A → List Placed → List Placed → Type 0
  Passed W a [] = Unit {0}
  Passed W a (q ∷ us) = grammar q.at ≡ false → Free → BegunAt W a q us

  -- what an outcome at these tokens says
  abbrev pub Says : {A : Type 0} → Rel A → List Placed → Outcome A → Type 0
  Says W a (Outcome.read x us) = Read W a x us
  Says W a (Outcome.refused Refusal.Syntax us) = Free → Begun W a us
  Says W a (Outcome.refused Refusal.TooDeep us) = Passed W a us

  passed_push : {A : Type 0} (W : Rel A) (ls a us : List Placed) → Passed (λ ts. W (ls ++ ts)) a us → Passed W (ls ++ a) us
  passed_push W ls a [] h = tt
  passed_push W ls a (q ∷ us) h = λ low free. let b = h low free in record {
    before = ls ++ b.before;
    tail = b.tail;
    value = b.value;
    cut = ap (λ z. ls ++ z) b.cut ∙ sym (append_assoc ls b.before (q ∷ us));
    holds = subst (λ z. W z b.value) (sym (append_assoc ls b.before (q ∷ b.tail))) b.holds;
  }

  -- tokens in front
  push : {A : Type 0} (W : Rel A) (ls a : List Placed) (o : Outcome A) → Says (λ ts. W (ls ++ ts)) a o → Says W (ls ++ a) o
  push W ls a (Outcome.read x us) h = record {
    tokens = ls ++ h.tokens;
    cut = ap (λ z. ls ++ z) h.cut ∙ sym (append_assoc ls h.tokens us);
    holds = h.holds;
  }
  push W ls a (Outcome.refused Refusal.Syntax us) h = λ free. let b = h free in record {
    before = ls ++ b.before;
    tail = b.tail;
    value = b.value;
    cut = ap (λ z. ls ++ z) b.cut ∙ sym (append_assoc ls b.before us);
    holds = subst (λ z. W z b.value) (sym (append_assoc ls b.before b.tail)) b.holds;
  }
  push W ls a (Outcome.refused Refusal.TooDeep us) h = passed_push W ls a us h

  refused_here : {A : Type 0} (W : Rel A) (a : List Placed) → (Free → Sample W) → Says {A = A} W a (Outcome.refused Refusal.Syntax a)
  refused_here W a some = λ free. let t = some free in record { before = []; tail = t.tokens; value = t.value; cut = refl; holds = t.holds }

  -- what was begun within a rule is ended, and what follows the rule is put behind it
  passed_on : {s t : Sort} (r : Rule s) (f : Value s → Program t) (W : Rel (Value t)) (a us : List Placed)
      → ((x : Value s) (us : List Placed) → Means grammar r us x → Free → Sample (λ ts. W (us ++ ts)))
      → Passed (Means grammar r) a us → Passed W a us
  passed_on r f W a [] go h = tt
  passed_on r f W a (q ∷ us) go h = λ low free. let b = h low free in
      let t = go b.value (b.before ++ (q ∷ b.tail)) b.holds free in record {
        before = b.before;
        tail = b.tail ++ t.tokens;
        value = t.value;
        cut = b.cut;
        holds = subst (λ z. W z t.value) (append_assoc b.before (q ∷ b.tail) t.tokens) t.holds;
      }

  goes_on : {s t : Sort} (r : Rule s) (f : Value s → Program t) (W : Rel (Value t)) (a us : List Placed) (why : Refusal)
      → ((x : Value s) (us : List Placed) → Means grammar r us x → Free → Sample (λ ts. W (us ++ ts)))
      → Says (Means grammar r) a (Outcome.refused why us) → Says W a (Outcome.refused why us)
  goes_on r f W a us Refusal.Syntax go h = λ free. let b = h free in
      let t = go b.value (b.before ++ b.tail) b.holds free in record {
        before = b.before;
        tail = b.tail ++ t.tokens;
        value = t.value;
        cut = b.cut;
        holds = subst (λ z. W z t.value) (append_assoc b.before b.tail t.tokens) t.holds;
      }
  goes_on r f W a us Refusal.TooDeep go h = passed_on r f W a us go h

  -- what begins with a token of this list stands where that stands
  begins_cut : (q : Placed) (ts vs us : List Placed) → q ∷ ts ≡ vs ++ us → Begins q.at vs
  begins_cut q ts [] us e = tt
  begins_cut q ts (v ∷ vs) us e = let h : q ≡ v = cc in ap (λ z. z.at) (sym h)

  begins_more : (at : At) (vs ws us : List Placed) → (length vs ≡ 0 → ⊥) → Begins at vs → Begins at (vs ++ ws)
  begins_more at [] ws us some h = absurd (some refl)
  begins_more at (v ∷ vs) ws us some h = h

  ahead_passed : {A : Type 0} (W : Rel A) (q : Placed) (ts us : List Placed) → Passed (λ ts x. Begins q.at ts → W ts x) (q ∷ ts) us → Passed W (q ∷ ts) us
  ahead_passed W q ts [] h = tt
  ahead_passed W q ts (v ∷ us) h = λ low free. at_begin (h low free)
    where
      begins_at : (before tail : List Placed) → q ∷ ts ≡ before ++ (v ∷ us) → Begins q.at (before ++ (v ∷ tail))
      begins_at [] tail e = let i : q ≡ v = cc in ap (λ z. z.at) (sym i)
      begins_at (b ∷ bs) tail e = let i : q ≡ b = cc in ap (λ z. z.at) (sym i)

      at_begin : BegunAt (λ ts x. Begins q.at ts → W ts x) (q ∷ ts) v us → BegunAt W (q ∷ ts) v us
      at_begin b = record { before = b.before; tail = b.tail; value = b.value; cut = b.cut; holds = b.holds (begins_at b.before b.tail b.cut) }

  -- what is read behind a look at the next token's place
  ahead_says : {A : Type 0} (W : Rel A) (q : Placed) (ts : List Placed) (o : Outcome A) → (Free → Sample W)
      → Says (λ ts x. Begins q.at ts → W ts x) (q ∷ ts) o → Says W (q ∷ ts) o
  ahead_says W q ts (Outcome.read x us) some h = record { tokens = h.tokens; cut = h.cut; holds = h.holds (begins_cut q ts h.tokens us h.cut) }
  ahead_says {A = A} W q ts (Outcome.refused Refusal.Syntax us) some h = λ free. at_begin (some free) (h free)
    where
      begun : (before tail : List Placed) (x : A) → q ∷ ts ≡ before ++ us → Sample W → (Begins q.at (before ++ tail) → W (before ++ tail) x) → Begun W (q ∷ ts) us
      begun [] tail x e t go = record { before = []; tail = t.tokens; value = t.value; cut = e; holds = t.holds }
      begun (b ∷ bs) tail x e t go = record { before = b ∷ bs; tail = tail; value = x; cut = e; holds = go (let i : q ≡ b = cc in ap (λ z. z.at) (sym i)) }

      at_begin : Sample W → Begun (λ ts x. Begins q.at ts → W ts x) (q ∷ ts) us → Begun W (q ∷ ts) us
      at_begin t b = begun b.before b.tail b.value b.cut t b.holds
  ahead_says W q ts (Outcome.refused Refusal.TooDeep us) some h = ahead_passed W q ts us h

  module _ (kept : Limits) (fewer : (at : At) → grammar at ≡ true → kept at ≡ true) (all : (s : Sort) (r : Rule s) → Good s (body r) (Means grammar r)) where
    pub right : (s : Sort) (p : Program s) (a : List Placed) (o : Outcome (Value s)) → Runs kept s p a o → (W : Rel (Value s)) → (Free → Sample W) → Proves s p W → Says W a o
    right _ _ _ _ (Runs.give {ts = ts}) W some good = record { tokens = []; cut = refl; holds = (parts _ _ _ good).value }
    right _ _ _ _ (Runs.refuse {ts = ts}) W some good = refused_here W ts some
    right _ _ _ _ (Runs.look {ts = ts} r) W some good = right _ _ _ _ r W some (parts _ _ _ good (first ts))
    right _ _ _ o (Runs.take {c = c} {at = at} {ts = ts} ok r) W some good =
        let i = parts _ _ _ good at (λ k. ok (fewer at k)) in
        push W (token_at c at ∷ []) ts o (right _ _ _ _ r (λ ts. W (token_at c at ∷ ts)) i.0 i.1)
    right _ _ _ _ (Runs.take_deep {c = c} {within = within} {at = at} {ts = ts} k bad) W some good = λ low free.
        let t = (parts _ _ _ good at (λ k. absurd (false≢true (sym low ∙ k)))).0 free in
        record { before = []; tail = t.tokens; value = t.value; cut = refl; holds = t.holds }
    right _ _ _ _ (Runs.take_other {ts = ts} bad) W some good = refused_here W ts some
    right _ _ _ o (Runs.ahead {c = c} {at = at} {ts = ts} ok r) W some good =
        let i = (parts _ _ _ good at).1 (λ k. ok (fewer at k)) in
        ahead_says W (token_at c at) ts o some (right _ _ _ _ r (λ ts x. Begins at ts → W ts x) i.0 i.1)
    right _ _ _ _ (Runs.ahead_deep {c = c} {at = at} {ts = ts} k bad) W some good = λ low free.
        let t = (parts _ _ _ good at).0 bad low in
        record { before = []; tail = t.tokens; value = t.value; cut = refl; holds = t.holds }
    right _ _ _ _ (Runs.ahead_other {ts = ts} bad) W some good = refused_here W ts some
    right _ _ _ o (Runs.call {s = s} {r = r} {ts = ts} {us = us} {x = x} a n) W some good =
        let h : Read (Means grammar r) ts x us = right _ _ _ _ a (Means grammar r) (all s r).some (all s r).proves in
        let i = parts _ _ _ good x h.tokens h.holds in
        subst (λ z. Says W z o) (sym h.cut) (push W h.tokens us o (right _ _ _ _ n (λ ts. W (h.tokens ++ ts)) i.0 i.1))
    right _ _ _ _ (Runs.call_refused {s = s} {r = r} {f = f} {ts = ts} {us = us} {why = why} a) W some good =
        goes_on r f W ts us why (λ x us h. (parts _ _ _ good x us h).0) (right _ _ _ _ a (Means grammar r) (all s r).some (all s r).proves)
