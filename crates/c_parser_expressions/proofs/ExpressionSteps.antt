-- Steps of the functions that read expressions: operators between operands, what follows an operand, lists.
use Rattle.std.proofs.Common.{◌≡◌, ℕ, suc, ◌+◌, ◌<◌, ◌-◌, ◌==◌, arith, Bool, true, false, ◌&&◌, cond, List, [], ◌∷◌, ◌++◌, Option, Some, None, Result, Ok, Err, refl, sym, ap, subst, ◌∙◌}
use Rattle.std.proofs.lemmas.List.{append-nil}
use Rattle.c_words.specs.Tokens.{Token, Placed}
use Rattle.c_words.specs.declared.place.At.{At}
use Rattle.c_words.specs.declared.words.Punctuator.{Punctuator}
use Rattle.c_words.specs.declared.words.Punctuator.TheVariants as m
use Rattle.c_words.specs.declared.operators.UnaryOperator.{UnaryOperator}
use Rattle.c_words.specs.declared.operators.StepOperator.{StepOperator}
use Rattle.c_words.specs.declared.operators.BinaryOperator.{BinaryOperator}
use Rattle.c_words.specs.declared.operators.AssignOperator.{AssignOperator}
use Rattle.syntax_tree.specs.declared.syntax.expressions.Expression.{Expression}
use Rattle.syntax_tree.specs.Syntax.{ExpressionTree, ExpressionTrees}
use Rattle.syntax_tree.specs.SyntaxViews.{expression_tree, expression_trees}
use Rattle.syntax_tree.specs.GrammarTokens.{binary_operator}
use Rattle.syntax_tree.specs.GrammarLimits.{within_limits}
use Rattle.c_parser_expressions.specs.declared.cursor.Stop.{Stop}
use Rattle.c_parser_rules.specs.Programs.{Sort, Value, Rule, Program, Outcome}
use Rattle.c_parser_rules.specs.Tests.{first, is_comma, is_open_bracket, at_strength, operator, assigns, opens, is_low}
use Rattle.c_parser_rules.specs.Bodies.{body, reads, when, mark, assign_by, binary_by, unary_by, postfix_by}
use Rattle.c_parser_expressions.specs.Parts.{begins_behind}
use Rattle.c_parser_rules.specs.Runs.{Runs}
use Rattle.c_parser_expressions.specs.Reads.{Reads, GoesOn, Takes, TakesNext, Fails, assign_of, step_of, unary_of, at_level, binary_of}
use Rattle.c_parser_expressions.proofs.CodeSteps.{looked, took, took_next, next_failed, called, call_failed, gave, when_yes, when_no, tail, tail_as}
use Rattle.c_parser_expressions.proofs.ListSteps.{joined}
use Rattle.c_parser_expressions.proofs.Choices.{assigns_is, step_is, unary_is, operator_is, one_more, binary_zero, binary_more}

-- ---- a choice by what was read
pub either_yes : {s : Sort} {A : Type 0} (b : Bool) {p : Program s} (q : Program s) {v : A → Value s} {old new : List Placed} {res : Result A Stop}
    → b ≡ true → Reads s p v old res new → Reads s (cond b p q) v old res new
either_yes {s = s} b {p = p} q {v = v} {old = old} {new = new} {res = res} e n = subst (λ z. Reads s (cond z p q) v old res new) (sym e) n

pub either_no : {s : Sort} {A : Type 0} (b : Bool) (p : Program s) {q : Program s} {v : A → Value s} {old new : List Placed} {res : Result A Stop}
    → b ≡ false → Reads s q v old res new → Reads s (cond b p q) v old res new
either_no {s = s} b p {q = q} {v = v} {old = old} {new = new} {res = res} e n = subst (λ z. Reads s (cond z p q) v old res new) (sym e) n

-- ---- what follows an operand
pub nothing_behind : (d : ℕ) (a : ExpressionTree) (c : Option Token) → begins_behind c ≡ false → postfix_by d a c ≡ Program.give a
nothing_behind d a (Some (Token.Punctuator m.OpenBracket)) h = absurd (cc)
nothing_behind d a (Some (Token.Punctuator m.OpenParen)) h = absurd (cc)
nothing_behind d a (Some (Token.Punctuator m.Dot)) h = absurd (cc)
nothing_behind d a (Some (Token.Punctuator m.Arrow)) h = absurd (cc)
nothing_behind d a (Some (Token.Punctuator m.PlusPlus)) h = absurd (cc)
nothing_behind d a (Some (Token.Punctuator m.MinusMinus)) h = absurd (cc)
nothing_behind d a _ h = refl

pub last_behind : (c : Option Token) → begins_behind c ≡ true → (c ≡ Some (Token.Punctuator m.OpenBracket) → ⊥) → (c ≡ Some (Token.Punctuator m.OpenParen) → ⊥)
    → (c ≡ Some (Token.Punctuator m.Dot) → ⊥) → (c ≡ Some (Token.Punctuator m.Arrow) → ⊥) → (c ≡ Some (Token.Punctuator m.PlusPlus) → ⊥) → c ≡ Some (Token.Punctuator m.MinusMinus)
last_behind (Some (Token.Punctuator m.OpenBracket)) h i j k l o = absurd (i refl)
last_behind (Some (Token.Punctuator m.OpenParen)) h i j k l o = absurd (j refl)
last_behind (Some (Token.Punctuator m.Dot)) h i j k l o = absurd (k refl)
last_behind (Some (Token.Punctuator m.Arrow)) h i j k l o = absurd (l refl)
last_behind (Some (Token.Punctuator m.PlusPlus)) h i j k l o = absurd (o refl)
last_behind (Some (Token.Punctuator m.MinusMinus)) h i j k l o = refl
last_behind _ h i j k l o = absurd (cc)

-- ---- an operator that comes next, whichever mark it is
pub assign_seen : {A : Type 0} {d : ℕ} {a : ExpressionTree} {op : AssignOperator} {v : A → ExpressionTree} {old new : List Placed} {res : Result A Stop} → assign_of (first old) ≡ Some op
    → ((p : Punctuator) → first old ≡ Some (Token.Punctuator p) → Reads Sort.expression (Program.take (Token.Punctuator p) (is_low a && opens d) (λ at. Program.call (Rule.assignment (suc d)) (λ b. Program.give (ExpressionTree.Assign at a op b)))) v old res new)
    → Reads Sort.expression (Program.look (λ c. assign_by d a (assigns c))) v old res new
assign_seen {d = d} {a = a} {op = op} {old = old} h r = let o = assigns_is (first old) op h in looked (λ c. assign_by d a (assigns c)) (assign_by d a (Some (o.0, op))) (ap (assign_by d a) o.2) (r o.0 o.1)

pub step_seen : {A : Type 0} {d : ℕ} {op : StepOperator} {v : A → ExpressionTree} {old new : List Placed} {res : Result A Stop} → step_of (first old) ≡ Some op
    → ((p : Punctuator) → first old ≡ Some (Token.Punctuator p) → Reads Sort.expression (Program.take (Token.Punctuator p) (opens d) (λ at. Program.call (Rule.unary (suc d)) (λ a. Program.give (ExpressionTree.StepBefore at op a)))) v old res new)
    → Reads Sort.expression (body (Rule.unary d)) v old res new
step_seen {d = d} {op = op} {old = old} h r = let o = step_is d (first old) op h in looked (unary_by d) _ o.2 (r o.0 o.1)

pub unary_seen : {A : Type 0} {d : ℕ} {op : UnaryOperator} {v : A → ExpressionTree} {old new : List Placed} {res : Result A Stop} → step_of (first old) ≡ None → unary_of (first old) ≡ Some op
    → ((p : Punctuator) → first old ≡ Some (Token.Punctuator p) → Reads Sort.expression (Program.take (Token.Punctuator p) (opens d) (λ at. Program.call (Rule.cast (suc d)) (λ a. Program.give (ExpressionTree.Unary at op a)))) v old res new)
    → Reads Sort.expression (body (Rule.unary d)) v old res new
unary_seen {d = d} {op = op} {old = old} n h r = let o = unary_is d (first old) op n h in looked (unary_by d) _ o.2 (r o.0 o.1)

-- ---- operators between operands, of a strength above zero
pub binary_bottom : {A : Type 0} {n d : ℕ} {v : A → ExpressionTree} {old new : List Placed} {res : Result A Stop} → n ≡ 0
    → Reads Sort.expression (body (Rule.cast d)) v old res new → Reads Sort.expression (body (Rule.binary n d)) v old res new
binary_bottom {n = n} {d = d} {v = v} {old = old} {new = new} {res = res} h r = subst (λ z. Reads Sort.expression z v old res new) (sym (binary_zero n d h)) (tail r)

pub binary_above : {A : Type 0} {n d : ℕ} {v : A → ExpressionTree} {old new : List Placed} {res : Result A Stop} → 0 < n
    → Reads Sort.expression (Program.call (Rule.binary (n - 1) d) (λ a. reads (Rule.binary_rest (n - 1) d a))) v old res new → Reads Sort.expression (body (Rule.binary n d)) v old res new
binary_above {n = n} {d = d} {v = v} {old = old} {new = new} {res = res} h r = subst (λ z. Reads Sort.expression z v old res new) (sym (binary_more n d h)) r

none_of : (k : ℕ) (p : Punctuator) (o : Option (ℕ × BinaryOperator)) → at_level k o ≡ None → at_strength k p o ≡ None
none_of k p None h = refl
none_of k p (Some o) h = chosen p o (o.0 == k) h
  where
    chosen : (p : Punctuator) (o : ℕ × BinaryOperator) (b : Bool) → cond b (Some o.1) None ≡ None → cond {A = Option (Punctuator × BinaryOperator)} b (Some (p, o.1)) None ≡ None
    chosen p o true h = absurd (cc)
    chosen p o false h = refl

no_operator : (k : ℕ) (c : Option Token) → binary_of k c ≡ None → operator k c ≡ None
no_operator k (Some (Token.Punctuator p)) h = none_of k p (binary_operator p) h
no_operator k None h = refl
no_operator k (Some (Token.Name x)) h = refl
no_operator k (Some (Token.Number n u)) h = refl
no_operator k (Some (Token.Character n)) h = refl
no_operator k (Some (Token.StringLiteral n)) h = refl
no_operator k (Some (Token.Keyword n)) h = refl

abbrev pub rest_of : ℕ → ℕ → ExpressionTree → Program Sort.expression
rest_of n d a = body (Rule.binary_rest (n - 1) d a)

operated : {B : Type 0} (n d : ℕ) (a : ExpressionTree) (o : Option (Punctuator × BinaryOperator)) {v : B → ExpressionTree} {old new : List Placed} {res : Result B Stop} → 0 < n → operator n (first old) ≡ o
    → Reads Sort.expression (binary_by (n - 1) d a o) v old res new → Reads Sort.expression (rest_of n d a) v old res new
operated n d a o {old = old} h e r = looked (λ c. binary_by (n - 1) d a (operator (suc (n - 1)) c)) (binary_by (n - 1) d a o)
    (ap (binary_by (n - 1) d a) (subst (λ z. operator z (first old) ≡ o) (sym (one_more n h)) e)) r

pub binary_over : {B : Type 0} {n d : ℕ} {a : ExpressionTree} {v : B → ExpressionTree} {x : B} {old : List Placed} → 0 < n → binary_of n (first old) ≡ None → v x ≡ a
    → Reads Sort.expression (rest_of n d a) v old (Ok x) old
binary_over {n = n} {d = d} {a = a} {old = old} h e i = operated n d a None h (no_operator n (first old) e) (gave i)

pub binary_stuck : {B : Type 0} {n d : ℕ} {a : ExpressionTree} {op : BinaryOperator} {v : B → ExpressionTree} {e : Stop} {old new : List Placed} → 0 < n → binary_of n (first old) ≡ Some op
    → TakesNext (is_low a) old (Err e) new → Reads Sort.expression (rest_of n d a) v old (Err e) new
binary_stuck {n = n} {d = d} {a = a} {op = op} {old = old} h e t = let o = operator_is n (first old) op e in operated n d a (Some (o.0, op)) h o.2 (next_failed o.1 t)

pub binary_failed : {A B : Type 0} {n d : ℕ} {a : ExpressionTree} {op : BinaryOperator} {w : A → ExpressionTree} {v : B → ExpressionTree} {e : Stop} {old mid new : List Placed} {at : At} → 0 < n → binary_of n (first old) ≡ Some op
    → TakesNext (is_low a) old (Ok at) mid → Reads Sort.expression (body (Rule.binary (n - 1) d)) w mid (Err e) new → Reads Sort.expression (rest_of n d a) v old (Err e) new
binary_failed {n = n} {d = d} {a = a} {op = op} {old = old} h e t r = let o = operator_is n (first old) op e in operated n d a (Some (o.0, op)) h o.2 (took_next o.1 t (call_failed r))

pub binary_step : {A B : Type 0} {n d : ℕ} {a c : ExpressionTree} {op : BinaryOperator} {w : A → ExpressionTree} {v : B → ExpressionTree} {b : A} {res : Result B Stop} {old mid far new : List Placed} {at : At} → 0 < n → binary_of n (first old) ≡ Some op
    → TakesNext (is_low a) old (Ok at) mid → Reads Sort.expression (body (Rule.binary (n - 1) d)) w mid (Ok b) far → c ≡ ExpressionTree.Binary at a op (w b)
    → Reads Sort.expression (rest_of n d c) v far res new → Reads Sort.expression (rest_of n d a) v old res new
binary_step {n = n} {d = d} {a = a} {op = op} {old = old} h e t r i g =
    let o = operator_is n (first old) op e in operated n d a (Some (o.0, op)) h o.2 (took_next o.1 t (called r (tail_as Sort.expression (λ z. Rule.binary_rest (n - 1) d z) i g)))

-- ---- lists
pub goes_on_failed : {s : Sort} {A B C : Type 0} {p : Program s} {w : C → Value s} {view : List B → Value s} {items : A → List B} {front : List B} {old new : List Placed} {e : Stop}
    → Reads s p w old (Err e) new → GoesOn s p view items front old (Err e) new
goes_on_failed r = record { answer = r.answer }

pub goes_on_all : (s : Sort) {A B : Type 0} (p : Program s) (view : List B → Value s) (items : A → List B) (old : List Placed) (res : Result A Stop) (new : List Placed)
    → GoesOn s p view items [] old res new → Reads s p (λ x. view (items x)) old res new
goes_on_all s p view items old (Ok x) new g = record { answer = subst (λ z. Runs within_limits s p old (Outcome.read (view z) new)) (sym g.answer.1) g.answer.2 }
goes_on_all s p view items old (Err e) new g = record { answer = g.answer }

abbrev pub MoreSizes : {A : Type 0} → ℕ → (A → List Expression) → List Expression → List Placed → Result A Stop → List Placed → Type 0
MoreSizes d items front old res new = GoesOn Sort.expressions (body (Rule.sizes d)) expression_trees items front old res new

pub sizes_more : {A : Type 0} {d : ℕ} {items : A → List Expression} {xs ys : List Expression} {e : Expression} {old mid far end new : List Placed} {at to : At} (res : Result A Stop)
    → first old ≡ Some (Token.Punctuator m.OpenBracket) → TakesNext (opens d) old (Ok at) mid → Reads Sort.expression (body (Rule.conditional (suc d))) expression_tree mid (Ok e) far
    → Takes (Token.Punctuator m.CloseBracket) true far (Ok to) end → ys ≡ xs ++ (e ∷ []) → MoreSizes d items ys end res new → MoreSizes d items xs old res new
sizes_more {d = d} {items = items} {xs = xs} {ys = ys} {e = e} {old = old} {end = end} {new = new} (Ok x) h t r c i g =
    let inner : Reads Sort.expressions (body (Rule.sizes d)) expression_trees end (Ok g.answer.0) new = record { answer = g.answer.2 } in
    let whole : Reads Sort.expressions (body (Rule.sizes d)) expression_trees old (Ok (e ∷ g.answer.0)) new = when_yes is_open_bracket _ _ (ap is_open_bracket h) (took_next h t (called r (took c (called inner (gave refl))))) in
    record { answer = (e ∷ g.answer.0, joined xs ys g.answer.0 (items x) e i g.answer.1, whole.answer) }
sizes_more {d = d} {old = old} {end = end} {new = new} (Err e) h t r c i g =
    let inner : Reads Sort.expressions (body (Rule.sizes d)) expression_trees end (Err e) new = record { answer = g.answer } in
    let whole : Reads Sort.expressions (body (Rule.sizes d)) expression_trees old (Err e) new = when_yes is_open_bracket _ _ (ap is_open_bracket h) (took_next h t (called r (took c (call_failed inner)))) in
    record { answer = whole.answer }

pub sizes_end : {A : Type 0} (d : ℕ) (items : A → List Expression) (x : A) (old : List Placed) → is_open_bracket (first old) ≡ false → MoreSizes d items (items x) old (Ok x) old
sizes_end d items x old e =
    let whole : Reads Sort.expressions (body (Rule.sizes d)) expression_trees old (Ok []) old = when_no is_open_bracket _ _ e (gave refl) in
    record { answer = ([], sym (append-nil (items x)), whole.answer) }

-- ---- arguments
abbrev pub behind_argument : ℕ → ExpressionTree → Program Sort.expressions
behind_argument d a = when is_comma (mark m.Comma (λ at. Program.call (Rule.listed d) (λ rest. Program.give (ExpressionTrees.more a rest)))) (Program.give (ExpressionTrees.more a ExpressionTrees.none))

-- what follows an argument, whichever that is
abbrev pub Lists : {A : Type 0} → ℕ → (A → List Expression) → List Expression → List Placed → Result A Stop → List Placed → Type 0
Lists d items front old (Ok x) new = (rest : List Expression) × (items x ≡ front ++ rest)
    × ((a : ExpressionTree) → Runs within_limits Sort.expressions (behind_argument d a) old (Outcome.read (ExpressionTrees.more a (expression_trees rest)) new))
Lists d items front old (Err e) new = (a : ExpressionTree) → Fails Sort.expressions (behind_argument d a) old e new

pub record MoreArguments {A : Type 0} (d : ℕ) (items : A → List Expression) (front : List Expression) (old : List Placed) (res : Result A Stop) (new : List Placed) : Type 0 where
  pub answer : Lists d items front old res new

pub arguments_first : {A : Type 0} {d : ℕ} {items : A → List Expression} {ys : List Expression} {e : Expression} {old mid new : List Placed} (res : Result A Stop)
    → Reads Sort.expression (body (Rule.assignment d)) expression_tree old (Ok e) mid → ys ≡ e ∷ [] → MoreArguments d items ys mid res new
    → Reads Sort.expressions (body (Rule.listed d)) (λ x. expression_trees (items x)) old res new
arguments_first {d = d} {items = items} {ys = ys} {e = e} {old = old} {new = new} (Ok x) r i g =
    let all : items x ≡ e ∷ g.answer.0 = g.answer.1 ∙ ap (λ z. z ++ g.answer.0) i in
    record { answer = subst (λ z. Runs within_limits Sort.expressions (body (Rule.listed d)) old (Outcome.read (expression_trees z) new)) (sym all) (Runs.call r.answer (g.answer.2 (expression_tree e))) }
arguments_first {d = d} {items = items} {e = e} {mid = mid} {new = new} (Err f) r i g =
    let inner : Reads Sort.expressions (behind_argument d (expression_tree e)) (λ x. expression_trees (items x)) mid (Err f) new = record { answer = g.answer (expression_tree e) } in called r inner

pub arguments_more : {A : Type 0} {d : ℕ} {items : A → List Expression} {xs ys : List Expression} {e : Expression} {old mid far new : List Placed} {at : At} (res : Result A Stop)
    → first old ≡ Some (Token.Punctuator m.Comma) → TakesNext true old (Ok at) mid → Reads Sort.expression (body (Rule.assignment d)) expression_tree mid (Ok e) far
    → ys ≡ xs ++ (e ∷ []) → MoreArguments d items ys far res new → MoreArguments d items xs old res new
arguments_more {d = d} {items = items} {xs = xs} {ys = ys} {e = e} {old = old} {mid = mid} {new = new} (Ok x) h t r i g =
    let inner : Reads Sort.expressions (body (Rule.listed d)) expression_trees mid (Ok (e ∷ g.answer.0)) new = record { answer = Runs.call r.answer (g.answer.2 (expression_tree e)) } in
    let whole : (a : ExpressionTree) → Reads Sort.expressions {A = List Expression} (behind_argument d a) (λ z. ExpressionTrees.more a (expression_trees z)) old (Ok (e ∷ g.answer.0)) new =
    λ a. when_yes is_comma _ _ (ap is_comma h) (took_next h t (called inner (gave refl))) in
    record { answer = (e ∷ g.answer.0, joined xs ys g.answer.0 (items x) e i g.answer.1, λ a. (whole a).answer) }
arguments_more {d = d} {e = e} {old = old} {mid = mid} {far = far} {new = new} (Err f) h t r i g =
    let behind : Reads Sort.expressions {A = List Expression} (behind_argument d (expression_tree e)) expression_trees far (Err f) new = record { answer = g.answer (expression_tree e) } in
    let inner : Reads Sort.expressions {A = List Expression} (body (Rule.listed d)) expression_trees mid (Err f) new = called r behind in
    let whole : (a : ExpressionTree) → Reads Sort.expressions {A = List Expression} (behind_argument d a) expression_trees old (Err f) new = λ a. when_yes is_comma _ _ (ap is_comma h) (took_next h t (call_failed inner)) in
    record { answer = λ a. (whole a).answer }

pub arguments_failed : {A : Type 0} {d : ℕ} {items : A → List Expression} {xs : List Expression} {old mid new : List Placed} {at : At} {f : Stop}
    → first old ≡ Some (Token.Punctuator m.Comma) → TakesNext true old (Ok at) mid → Reads Sort.expression (body (Rule.assignment d)) expression_tree mid (Err f) new
    → MoreArguments {A = A} d items xs old (Err f) new
arguments_failed {d = d} {old = old} {mid = mid} {new = new} {f = f} h t r =
    let inner : Reads Sort.expressions {A = List Expression} (body (Rule.listed d)) expression_trees mid (Err f) new = call_failed r in
    let whole : (a : ExpressionTree) → Reads Sort.expressions {A = List Expression} (behind_argument d a) expression_trees old (Err f) new = λ a. when_yes is_comma _ _ (ap is_comma h) (took_next h t (call_failed inner)) in
    record { answer = λ a. (whole a).answer }

pub arguments_end : {A : Type 0} (d : ℕ) (items : A → List Expression) (x : A) (old : List Placed) → is_comma (first old) ≡ false → MoreArguments d items (items x) old (Ok x) old
arguments_end d items x old e =
    let whole : (a : ExpressionTree) → Reads Sort.expressions {A = List Expression} (behind_argument d a) (λ z. ExpressionTrees.more a (expression_trees z)) old (Ok []) old = λ a. when_no is_comma _ _ e (gave refl) in
    record { answer = ([], sym (append-nil (items x)), λ a. (whole a).answer) }

pub add_two : (n : ℕ) → n + 2 ≡ suc (suc n)
add_two n = omega arith
