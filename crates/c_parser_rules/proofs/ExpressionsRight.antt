-- The rules for expressions read what stands for their values.
use Rattle.std.proofs.Common.{◌≡◌, ℕ, suc, ◌+◌, Bool, true, false, cond, ◌==◌, List, [], ◌∷◌, ◌++◌, Option, Some, None, refl, sym, ap, ◌∙◌, subst, append_assoc, arith}
use Rattle.std.proofs.lemmas.List.{append-nil}
use Rattle.std.proofs.lemmas.Bool.Decides.{nat_tests}
use Rattle.c_words.specs.Tokens.{Token, Placed}
use Rattle.c_words.specs.declared.place.At.{At}
use Rattle.c_words.specs.declared.words.Keyword.TheVariants as w
use Rattle.c_words.specs.declared.words.Punctuator.{Punctuator}
use Rattle.c_words.specs.declared.words.Punctuator.TheVariants as m
use Rattle.c_words.specs.declared.operators.UnaryOperator.{UnaryOperator}
use Rattle.c_words.specs.declared.operators.StepOperator.{StepOperator}
use Rattle.c_words.specs.declared.operators.BinaryOperator.{BinaryOperator}
use Rattle.c_words.specs.declared.operators.AssignOperator.{AssignOperator}
use Rattle.syntax_tree.specs.Syntax.{ExpressionTree}
use Rattle.syntax_tree.specs.GrammarLimits.{Limits, Level, Opens}
use Rattle.syntax_tree.specs.GrammarTokens.{mark, word, identifier, AreStrings, binary_operator, assign_operator, unary_operator, step_operator}
use Rattle.syntax_tree.specs.GrammarExpressions.{IsSpecifier, AreStars, IsAssignment, IsConditional, IsBinary, IsCast, IsUnary, IsPostfix, IsPrimary}
use Rattle.c_parser_rules.specs.Programs.{Sort, Value, Rule, Program}
use Rattle.c_parser_rules.specs.Tests.{is_int, begins_specifier, at_strength, operator, with_mark, assigns, opens}
use Rattle.c_parser_rules.specs.Bodies.{identifier_by, strings_by, unsigned_by, specifier_by, assign_by, binary_by, cast_by, sizeof_by, unary_mark, unary_by, postfix_by, primary_by}
use Rattle.c_parser_rules.specs.Runs.{token_at}
use Rattle.c_parser_rules.proofs.Meanings.{Means}
use Rattle.c_parser_rules.proofs.Soundness.{Rel, Proves}
use Rattle.c_parser_rules.proofs.Outline as o
use Rattle.c_parser_rules.proofs.Samples.{samples}

some_pair : {A B : Type 0} (a c : A) (b d : B) → (let l : Option (A × B) = Some (a, b) in l ≡ Some (c, d)) → (a ≡ c) × (b ≡ d)
some_pair {A = A} {B = B} a c b d h =
    let l : A × B = (a, b) in
    let r : A × B = (c, d) in
    let e : l ≡ r = cc in
    (ap (λ z. z.0) e, ap (λ z. z.1) e)

-- a binary operator that was found
pub found : (k : ℕ) (p q : Punctuator) (op : BinaryOperator) (x : Option (ℕ × BinaryOperator)) → at_strength k p x ≡ Some (q, op) → (p ≡ q) × (x ≡ Some (k, op))
found k p q op None h = absurd (cc)
found k p q op (Some x) h = by (x.0 == k) refl
  where
    by : (b : Bool) → (x.0 == k) ≡ b → (p ≡ q) × (Some x ≡ Some (k, op))
    by true e =
        let j = some_pair p q x.1 op (rw e at h) in
        let n : x.0 ≡ k = grind (arith, nat_tests) in
        (j.0, rw (← n, ← j.1) refl)
    by false e = let i : None ≡ Some (q, op) = rw e at h in absurd (cc)

pub operator_is : (k : ℕ) (c : Option Token) (p : Punctuator) (op : BinaryOperator) → operator k c ≡ Some (p, op) → binary_operator p ≡ Some (k, op)
operator_is k None p op h = absurd (cc)
operator_is k (Some (Token.Punctuator q)) p op h = let i = found k q p op (binary_operator q) h in ap binary_operator (sym i.0) ∙ i.1
operator_is k (Some _) p op h = absurd (cc)

assigned : (q p : Punctuator) (op : AssignOperator) (x : Option AssignOperator) → with_mark q x ≡ Some (p, op) → (q ≡ p) × (x ≡ Some op)
assigned q p op None h = absurd (cc)
assigned q p op (Some x) h = let j = some_pair q p x op h in (j.0, ap Some j.1)

pub assigns_is : (c : Option Token) (p : Punctuator) (op : AssignOperator) → assigns c ≡ Some (p, op) → assign_operator p ≡ Some op
assigns_is None p op h = absurd (cc)
assigns_is (Some (Token.Punctuator q)) p op h = let i = assigned q p op (assign_operator q) h in ap assign_operator (sym i.0) ∙ i.1
assigns_is (Some _) p op h = absurd (cc)

module _ (g : Limits) where
  abbrev pub P : (sort : Sort) → Program sort → Rel (Value sort) → Type 1
  P = Proves g

  pub takes : {s : Sort} {c : Token} {within : Bool} {f : At → Program s} {W : Rel (Value s)} → ((at : At) → o.goes (f at) ≡ true)
      → ((at : At) → (g at ≡ true → within ≡ true) → Proves g s (f at) (λ ts. W (token_at c at ∷ ts))) → Proves g s (Program.take c within f) W
  takes e h = o.takes g (samples g) e h

  pub calls : {s t : Sort} {r : Rule s} {f : Value s → Program t} {W : Rel (Value t)} → ((x : Value s) → o.goes (f x) ≡ true)
      → ((x : Value s) (us : List Placed) → Means g r us x → Proves g t (f x) (λ ts. W (us ++ ts))) → Proves g t (Program.call r f) W
  calls e h = o.calls g (samples g) e h

  pub last : {s t : Sort} {r : Rule s} {f : Value s → Value t} {W : Rel (Value t)} → ((x : Value s) (us : List Placed) → Means g r us x → W us (f x))
      → Proves g t (Program.call r (λ x. Program.give (f x))) W
  last h = o.last g (samples g) h

  pub nothing_behind : {A : Type 0} (W : Rel A) (ls : List Placed) (x : A) → W ls x → W (ls ++ []) x
  nothing_behind W ls x h = subst (λ z. W z x) (sym (append-nil ls)) h

  pub identifier_right : (c : Option Token) → P _ (identifier_by c) (Means g Rule.identifier)
  identifier_right (Some (Token.Name x)) = takes (λ at. refl) (λ at k. Proves.give refl)
  identifier_right _ = Proves.refuse

  pub strings_right : (c : Option Token) → P _ (strings_by c) (Means g Rule.strings)
  strings_right (Some (Token.StringLiteral b)) = takes (λ at. refl) (λ at k. last (λ ps us i. λ from first. AreStrings.another (i at b)))
  strings_right _ = Proves.give (λ at b. AreStrings.one)

  unsigned_right : (at : At) (c : Option Token) → P _ (unsigned_by at c) (λ ts. IsSpecifier (word w.Unsigned at ∷ ts))
  unsigned_right at (Some (Token.Keyword w.Int)) = takes (λ at. refl) (λ next k. Proves.give IsSpecifier.unsigned_int)
  unsigned_right at (Some (Token.Keyword w.Char)) = takes (λ at. refl) (λ next k. Proves.give IsSpecifier.unsigned_char)
  unsigned_right at _ = Proves.give IsSpecifier.unsigned

  pub specifier_right : (c : Option Token) → P _ (specifier_by c) IsSpecifier
  specifier_right (Some (Token.Keyword w.Void)) = takes (λ at. refl) (λ at k. Proves.give IsSpecifier.void)
  specifier_right (Some (Token.Keyword w.Char)) = takes (λ at. refl) (λ at k. Proves.give IsSpecifier.char)
  specifier_right (Some (Token.Keyword w.Int)) = takes (λ at. refl) (λ at k. Proves.give IsSpecifier.int)
  specifier_right (Some (Token.Keyword w.Signed)) = takes (λ at. refl) (λ at k.
      o.whens g (samples g) is_int (takes (λ at. refl) (λ next k. Proves.give IsSpecifier.signed_int)) (Proves.give IsSpecifier.signed))
  specifier_right (Some (Token.Keyword w.Unsigned)) = takes (λ at. refl) (λ at k. Proves.look (unsigned_right at))
  specifier_right (Some (Token.Keyword w.Struct)) = takes (λ at. refl) (λ at k. o.named g (samples g) (λ x. refl) (λ x next. Proves.give IsSpecifier.struct))
  specifier_right _ = Proves.refuse

  pub one_star : (d n : ℕ) (at : At) (us : List Placed) → Opens g at d → AreStars g (suc d) (suc d + n) us n → AreStars g d (d + suc n) (mark m.Star at ∷ us) (suc n)
  one_star d n at us op h = let e : suc d + n ≡ d + suc n = omega arith in AreStars.star op (subst (λ z. AreStars g (suc d) z us n) e h)

  pub no_star : (d : ℕ) → AreStars g d (d + 0) [] 0
  no_star d = let e : d ≡ d + 0 = omega arith in subst (λ z. AreStars g d z [] 0) e AreStars.no_star

  pub assign_right : (d : Level) (a : ExpressionTree) (ls : List Placed) → IsConditional g d ls a → (x : Option (Punctuator × AssignOperator))
      → ((p : Punctuator) (op : AssignOperator) → x ≡ Some (p, op) → assign_operator p ≡ Some op)
      → P _ (assign_by d a x) (λ ts. IsAssignment g d (ls ++ ts))
  assign_right d a ls h None is = Proves.give (nothing_behind (IsAssignment g d) ls a (IsAssignment.conditional h))
  assign_right d a ls h (Some x) is = takes (λ at. refl) (λ at k. last (λ b us i.
      IsAssignment.assign h (o.low_of g (samples g) at a d k) x.0 (is x.0 x.1 refl) (o.open_of g (samples g) at a d k) i))

  pub binary_right : (k : ℕ) (d : Level) (a : ExpressionTree) (x : Option (Punctuator × BinaryOperator))
      → ((p : Punctuator) (op : BinaryOperator) → x ≡ Some (p, op) → binary_operator p ≡ Some (suc k, op))
      → P _ (binary_by k d a x) (Means g (Rule.binary_rest k d a))
  binary_right k d a None is = Proves.give (λ ls h. nothing_behind (IsBinary g (suc k) d) ls a h)
  binary_right k d a (Some x) is = takes (λ at. refl) (λ at l. calls (λ b. refl) (λ b us i. last (λ c vs j. λ ls h.
      rw (← append_assoc ls (mark x.0 at ∷ us) vs) (j (ls ++ (mark x.0 at ∷ us)) (IsBinary.joined h (o.lowered g (samples g) at a l) x.0 (is x.0 x.1 refl) i)))))

  pub whens : {s : Sort} (test : Option Token → Bool) {p q : Program s} {W : Rel (Value s)} → Proves g s p W → Proves g s q W → Proves g s (Program.look (λ c. cond (test c) p q)) W
  whens test h i = o.whens g (samples g) test h i

  pub open_at : (at : At) (d : ℕ) → (g at ≡ true → opens d ≡ true) → Opens g at d
  open_at at d h = o.opened g (samples g) at d h

  pub cast_right : (d : Level) (c : Option Token) → P _ (cast_by d c) (IsCast g d)
  cast_right d (Some (Token.Punctuator m.OpenParen)) = takes (λ at. refl) (λ at k. whens begins_specifier
      (calls (λ t. refl) (λ t us i. takes (λ to. refl) (λ to l. last (λ a vs j. IsCast.cast (open_at at d k) i to j))))
      (calls (λ a. refl) (λ a us i. last (λ b vs j. IsCast.unary (IsUnary.postfix (j (mark m.OpenParen at ∷ us) (IsPostfix.primary (i (open_at at d k)))))))))
  cast_right d _ = last (λ a us i. IsCast.unary i)

  sizeof_right : (d : Level) (at : At) → Opens g at d → (c : Option Token) → P _ (sizeof_by d at c) (λ ts. IsUnary g d (word w.Sizeof at ∷ ts))
  sizeof_right d at op (Some (Token.Punctuator m.OpenParen)) = takes (λ at. refl) (λ from k. whens begins_specifier
      (calls (λ t. refl) (λ t us i. takes (λ to. refl) (λ to l. Proves.give (IsUnary.sizeof_type op (open_at from (suc d) k) i to))))
      (calls (λ a. refl) (λ a us i. last (λ b vs j. IsUnary.sizeof_expression op
      (IsUnary.postfix (j (mark m.OpenParen from ∷ us) (IsPostfix.primary (i (open_at from (suc d) k)))))))))
  sizeof_right d at op _ = last (λ a us i. IsUnary.sizeof_expression op i)

  unary_mark_right : (d : Level) (p : Punctuator) (x : Option StepOperator) (y : Option UnaryOperator)
      → ((op : StepOperator) → x ≡ Some op → step_operator p ≡ Some op) → ((op : UnaryOperator) → y ≡ Some op → unary_operator p ≡ Some op)
      → P _ (unary_mark d p x y) (IsUnary g d)
  unary_mark_right d p (Some op) y is isnt = takes (λ at. refl) (λ at k. last (λ a us i. IsUnary.step_before (is op refl) (open_at at d k) i))
  unary_mark_right d p None (Some op) is isnt = takes (λ at. refl) (λ at k. last (λ a us i. IsUnary.prefix (isnt op refl) (open_at at d k) i))
  unary_mark_right d p None None is isnt = last (λ a us i. IsUnary.postfix i)

  pub unary_right : (d : Level) (c : Option Token) → P _ (unary_by d c) (IsUnary g d)
  unary_right d (Some (Token.Punctuator p)) = unary_mark_right d p (step_operator p) (unary_operator p) (λ op h. h) (λ op h. h)
  unary_right d (Some (Token.Keyword w.Sizeof)) = takes (λ at. refl) (λ at k. Proves.look (sizeof_right d at (open_at at d k)))
  unary_right d _ = last (λ a us i. IsUnary.postfix i)

  -- one operator behind an operand, and then more
  more : (d : Level) (a b c : ExpressionTree) (us vs : List Placed) → ((ls : List Placed) → IsPostfix g d ls a → IsPostfix g d (ls ++ us) b)
      → Means g (Rule.postfix_rest d b) vs c → Means g (Rule.postfix_rest d a) (us ++ vs) c
  more d a b c us vs go i = λ ls h. rw (← append_assoc ls us vs) (i (ls ++ us) (go ls h))

  -- the brackets of an operator behind an operand
  bracket : (d : Level) (a b c : ExpressionTree) (from to : Placed) (us vs : List Placed) → ((ls : List Placed) → IsPostfix g d ls a → IsPostfix g d (ls ++ (from ∷ (us ++ (to ∷ [])))) b)
      → Means g (Rule.postfix_rest d b) vs c → Means g (Rule.postfix_rest d a) (from ∷ (us ++ (to ∷ vs))) c
  bracket d a b c from to us vs go i = λ ls h.
      let e : (us ++ (to ∷ [])) ++ vs ≡ us ++ (to ∷ vs) = append_assoc us (to ∷ []) vs in
      rw (← e, ← append_assoc ls (from ∷ (us ++ (to ∷ []))) vs) (i (ls ++ (from ∷ (us ++ (to ∷ [])))) (go ls h))

  pub postfix_right : (d : Level) (a : ExpressionTree) (c : Option Token) → P _ (postfix_by d a c) (Means g (Rule.postfix_rest d a))
  postfix_right d a (Some (Token.Punctuator m.OpenBracket)) = takes (λ at. refl) (λ at k. calls (λ b. refl) (λ b us i. takes (λ to. refl) (λ to l. last (λ c vs j.
      bracket d a (ExpressionTree.Index at a b) c (mark m.OpenBracket at) (mark m.CloseBracket to) us vs
      (λ ls h. IsPostfix.index h (o.low_of g (samples g) at a d k) (o.open_of g (samples g) at a d k) i to) j))))
  postfix_right d a (Some (Token.Punctuator m.OpenParen)) = takes (λ at. refl) (λ at k. calls (λ b. refl) (λ xs us i. takes (λ to. refl) (λ to l. last (λ c vs j.
      bracket d a _ c (mark m.OpenParen at) (mark m.CloseParen to) us vs
      (λ ls h. IsPostfix.call h at (o.low_of g (samples g) at a d k) (o.open_of g (samples g) at a d k) i to) j))))
  postfix_right d a (Some (Token.Punctuator m.Dot)) = takes (λ at. refl) (λ at k. o.named g (samples g) (λ x. refl) (λ x next. last (λ c vs j.
      more d a _ c (mark m.Dot at ∷ identifier x next ∷ []) vs (λ ls h. IsPostfix.member h (o.lowered g (samples g) at a k) next) j)))
  postfix_right d a (Some (Token.Punctuator m.Arrow)) = takes (λ at. refl) (λ at k. o.named g (samples g) (λ x. refl) (λ x next. last (λ c vs j.
      more d a _ c (mark m.Arrow at ∷ identifier x next ∷ []) vs (λ ls h. IsPostfix.arrow h (o.lowered g (samples g) at a k) next) j)))
  postfix_right d a (Some (Token.Punctuator m.PlusPlus)) = takes (λ at. refl) (λ at k. last (λ c vs j.
      more d a _ c (mark m.PlusPlus at ∷ []) vs (λ ls h. IsPostfix.step_after h (o.lowered g (samples g) at a k) m.PlusPlus refl) j))
  postfix_right d a (Some (Token.Punctuator m.MinusMinus)) = takes (λ at. refl) (λ at k. last (λ c vs j.
      more d a _ c (mark m.MinusMinus at ∷ []) vs (λ ls h. IsPostfix.step_after h (o.lowered g (samples g) at a k) m.MinusMinus refl) j))
  postfix_right d a _ = Proves.give (λ ls h. nothing_behind (IsPostfix g d) ls a h)

  pub primary_right : (d : Level) (c : Option Token) → P _ (primary_by d c) (IsPrimary g d)
  primary_right d (Some (Token.Name x)) = takes (λ at. refl) (λ at k. Proves.give IsPrimary.name)
  primary_right d (Some (Token.Number n u)) = takes (λ at. refl) (λ at k. Proves.give IsPrimary.number)
  primary_right d (Some (Token.Character n)) = takes (λ at. refl) (λ at k. Proves.give IsPrimary.character)
  primary_right d (Some (Token.StringLiteral b)) = takes (λ at. refl) (λ at k. last (λ ps us i. IsPrimary.text (i at b)))
  primary_right d (Some (Token.Keyword w.Null)) = takes (λ at. refl) (λ at k. Proves.give IsPrimary.null)
  primary_right d (Some (Token.Keyword w.Eof)) = takes (λ at. refl) (λ at k. Proves.give IsPrimary.eof)
  primary_right d (Some (Token.Punctuator m.OpenParen)) = takes (λ at. refl) (λ at k. last (λ a us i. i (open_at at d k)))
  primary_right d _ = Proves.refuse
