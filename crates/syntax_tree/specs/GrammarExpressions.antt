-- The grammar's rules for expressions: which tokens, all of them, derive which tree.
use Rattle.std.specs.Prelude.{◌≡◌, ℕ, zero, suc, Bool, List, [], ◌∷◌, ◌++◌, Some}
use Rattle.c_words.specs.declared.place.At.{At}
use Rattle.c_words.specs.declared.words.Keyword.TheVariants as w
use Rattle.c_words.specs.declared.words.Punctuator.{Punctuator}
use Rattle.c_words.specs.declared.words.Punctuator.TheVariants as m
use Rattle.c_words.specs.declared.operators.UnaryOperator.{UnaryOperator}
use Rattle.c_words.specs.declared.operators.StepOperator.{StepOperator}
use Rattle.c_words.specs.declared.operators.BinaryOperator.{BinaryOperator}
use Rattle.c_words.specs.declared.operators.AssignOperator.{AssignOperator}
use Rattle.syntax_tree.specs.declared.syntax.specifiers.Specifier.{Specifier}
use Rattle.syntax_tree.specs.declared.syntax.specifiers.Specifier.TheVariants as s
use Rattle.c_words.specs.Tokens.{Token, Placed}
use Rattle.syntax_tree.specs.Syntax.{ExpressionTree, ExpressionTrees, TypeNameTree, TypeDeclaratorTree}
use Rattle.syntax_tree.specs.GrammarLimits.{Limits, Level, Opens, IsLow}
use Rattle.syntax_tree.specs.GrammarTokens.{mark, word, identifier, AreStrings, unary_operator, step_operator, binary_operator, weakest, assign_operator}

-- specifier = "void" | "char" | "int" | "signed" [ "int" ] | "unsigned" [ "int" | "char" ] | "struct" name  (6.7.2)
pub data IsSpecifier : List Placed → Specifier → Type 0 where
  void : {at : At} → IsSpecifier (word w.Void at ∷ []) (s.Void at)
  char : {at : At} → IsSpecifier (word w.Char at ∷ []) (s.Char at)
  int : {at : At} → IsSpecifier (word w.Int at ∷ []) (s.Int at)
  signed : {at : At} → IsSpecifier (word w.Signed at ∷ []) (s.Signed at)
  signed_int : {at next : At} → IsSpecifier (word w.Signed at ∷ word w.Int next ∷ []) (s.SignedInt at)
  unsigned : {at : At} → IsSpecifier (word w.Unsigned at ∷ []) (s.Unsigned at)
  unsigned_int : {at next : At} → IsSpecifier (word w.Unsigned at ∷ word w.Int next ∷ []) (s.UnsignedInt at)
  unsigned_char : {at next : At} → IsSpecifier (word w.Unsigned at ∷ word w.Char next ∷ []) (s.UnsignedChar at)
  struct : {at next : At} {tag : List ℕ} → IsSpecifier (word w.Struct at ∷ identifier tag next ∷ []) (s.Struct at tag)

-- where a specifier stands: at its first word
abbrev pub specifier_at : Specifier → At
specifier_at (s.Void at) = at
specifier_at (s.Char at) = at
specifier_at (s.Int at) = at
specifier_at (s.Signed at) = at
specifier_at (s.SignedInt at) = at
specifier_at (s.Unsigned at) = at
specifier_at (s.UnsignedInt at) = at
specifier_at (s.UnsignedChar at) = at
specifier_at (s.Struct at tag) = at

-- where a call stands: at the name that is called; where that is no name, at the call's `(`
abbrev pub call_at : ExpressionTree → At → At
call_at (ExpressionTree.Name at x) from = at
call_at _ from = from

module _ (limits : Limits) where
  -- { "*" }: so many stars, each of which opens a level; the second level is the one behind them
  pub data AreStars : Level → Level → List Placed → ℕ → Type 0 where
    no_star : {d : Level} → AreStars d d [] zero
    star : {d f : Level} {at : At} {ts : List Placed} {n : ℕ} → Opens limits at d → AreStars (suc d) f ts n
        → AreStars d f (mark m.Star at ∷ ts) (suc n)

  mutual
    -- expression = assignment { "," assignment }: the comma operator is left-associative (6.5.17)
    pub data IsExpression : Level → List Placed → ExpressionTree → Type 0 where
      assignment : {d : Level} {ts : List Placed} {a : ExpressionTree} → IsAssignment d ts a → IsExpression d ts a
      comma : {d : Level} {ls : List Placed} {a : ExpressionTree} {at : At} {rs : List Placed} {b : ExpressionTree}
          → IsExpression d ls a → IsLow limits at a → IsAssignment d rs b
          → IsExpression d (ls ++ (mark m.Comma at ∷ rs)) (ExpressionTree.Comma at a b)

    -- assignment = conditional [ assign_op assignment ]  (6.5.16)
    pub data IsAssignment : Level → List Placed → ExpressionTree → Type 0 where
      conditional : {d : Level} {ts : List Placed} {a : ExpressionTree} → IsConditional d ts a → IsAssignment d ts a
      assign : {d : Level} {ls : List Placed} {a : ExpressionTree} {op : AssignOperator} {at : At} {rs : List Placed} {b : ExpressionTree}
          → IsConditional d ls a → IsLow limits at a → (p : Punctuator) → assign_operator p ≡ Some op → Opens limits at d
          → IsAssignment (suc d) rs b
          → IsAssignment d (ls ++ (mark p at ∷ rs)) (ExpressionTree.Assign at a op b)

    -- conditional = binary [ "?" expression ":" conditional ]  (6.5.15)
    pub data IsConditional : Level → List Placed → ExpressionTree → Type 0 where
      binary : {d : Level} {ts : List Placed} {a : ExpressionTree} → IsBinary weakest d ts a → IsConditional d ts a
      choice : {d : Level} {cs : List Placed} {a : ExpressionTree} {at : At} {ts : List Placed} {b : ExpressionTree} {us : List Placed} {c : ExpressionTree}
          → IsBinary weakest d cs a → IsLow limits at a → Opens limits at d → IsExpression (suc d) ts b → (colon : At) → IsConditional (suc d) us c
          → IsConditional d (cs ++ (mark m.Question at ∷ (ts ++ (mark m.Colon colon ∷ us)))) (ExpressionTree.Conditional at a b c)

    -- binary: casts joined by left-associative operators of at most this strength (6.5.5 to 6.5.14)
    pub data IsBinary : ℕ → Level → List Placed → ExpressionTree → Type 0 where
      operand : {d : Level} {ts : List Placed} {a : ExpressionTree} → IsCast d ts a → IsBinary zero d ts a
      stronger : {k : ℕ} {d : Level} {ts : List Placed} {a : ExpressionTree} → IsBinary k d ts a → IsBinary (suc k) d ts a
      joined : {k : ℕ} {d : Level} {ls : List Placed} {a : ExpressionTree} {op : BinaryOperator} {at : At} {rs : List Placed} {b : ExpressionTree}
          → IsBinary (suc k) d ls a → IsLow limits at a → (p : Punctuator) → binary_operator p ≡ Some (suc k, op) → IsBinary k d rs b
          → IsBinary (suc k) d (ls ++ (mark p at ∷ rs)) (ExpressionTree.Binary at a op b)

    -- cast = "(" type_name ")" cast | unary  (6.5.4)
    pub data IsCast : Level → List Placed → ExpressionTree → Type 0 where
      unary : {d : Level} {ts : List Placed} {a : ExpressionTree} → IsUnary d ts a → IsCast d ts a
      cast : {d : Level} {at : At} {ts : List Placed} {t : TypeNameTree} {us : List Placed} {a : ExpressionTree}
          → Opens limits at d → IsTypeName (suc d) ts t → (to : At) → IsCast (suc d) us a
          → IsCast d (mark m.OpenParen at ∷ (ts ++ (mark m.CloseParen to ∷ us))) (ExpressionTree.Cast at t a)

    -- unary = postfix | ( "++" | "--" ) unary | ( "&" | "*" | "+" | "-" | "~" | "!" ) cast
    --       | "sizeof" ( "(" type_name ")" | unary )  (6.5.3)
    pub data IsUnary : Level → List Placed → ExpressionTree → Type 0 where
      postfix : {d : Level} {ts : List Placed} {a : ExpressionTree} → IsPostfix d ts a → IsUnary d ts a
      step_before : {d : Level} {p : Punctuator} {op : StepOperator} {at : At} {ts : List Placed} {a : ExpressionTree}
          → step_operator p ≡ Some op → Opens limits at d → IsUnary (suc d) ts a
          → IsUnary d (mark p at ∷ ts) (ExpressionTree.StepBefore at op a)
      prefix : {d : Level} {p : Punctuator} {op : UnaryOperator} {at : At} {ts : List Placed} {a : ExpressionTree}
          → unary_operator p ≡ Some op → Opens limits at d → IsCast (suc d) ts a
          → IsUnary d (mark p at ∷ ts) (ExpressionTree.Unary at op a)
      sizeof_type : {d : Level} {at from : At} {ts : List Placed} {t : TypeNameTree}
          → Opens limits at d → Opens limits from (suc d) → IsTypeName (suc (suc d)) ts t → (to : At)
          → IsUnary d (word w.Sizeof at ∷ mark m.OpenParen from ∷ (ts ++ (mark m.CloseParen to ∷ []))) (ExpressionTree.SizeofType at t)
      sizeof_expression : {d : Level} {at : At} {ts : List Placed} {a : ExpressionTree}
          → Opens limits at d → IsUnary (suc d) ts a
          → IsUnary d (word w.Sizeof at ∷ ts) (ExpressionTree.SizeofExpression at a)

    -- postfix = primary { "[" expression "]" | "(" [ assignment { "," assignment } ] ")" | "." name | "->" name | "++" | "--" }  (6.5.2)
    pub data IsPostfix : Level → List Placed → ExpressionTree → Type 0 where
      primary : {d : Level} {ts : List Placed} {a : ExpressionTree} → IsPrimary d ts a → IsPostfix d ts a
      index : {d : Level} {ls : List Placed} {a : ExpressionTree} {at : At} {ts : List Placed} {b : ExpressionTree}
          → IsPostfix d ls a → IsLow limits at a → Opens limits at d → IsExpression (suc d) ts b → (to : At)
          → IsPostfix d (ls ++ (mark m.OpenBracket at ∷ (ts ++ (mark m.CloseBracket to ∷ [])))) (ExpressionTree.Index at a b)
      call : {d : Level} {ls : List Placed} {f : ExpressionTree} {ts : List Placed} {arguments : ExpressionTrees}
          → IsPostfix d ls f → (from : At) → IsLow limits from f → Opens limits from d → AreArguments (suc d) ts arguments → (to : At)
          → IsPostfix d (ls ++ (mark m.OpenParen from ∷ (ts ++ (mark m.CloseParen to ∷ [])))) (ExpressionTree.Call (call_at f from) f arguments)
      member : {d : Level} {ls : List Placed} {a : ExpressionTree} {at : At} {x : List ℕ}
          → IsPostfix d ls a → IsLow limits at a → (next : At)
          → IsPostfix d (ls ++ (mark m.Dot at ∷ identifier x next ∷ [])) (ExpressionTree.Member at a x)
      arrow : {d : Level} {ls : List Placed} {a : ExpressionTree} {at : At} {x : List ℕ}
          → IsPostfix d ls a → IsLow limits at a → (next : At)
          → IsPostfix d (ls ++ (mark m.Arrow at ∷ identifier x next ∷ [])) (ExpressionTree.Arrow at a x)
      step_after : {d : Level} {ls : List Placed} {a : ExpressionTree} {op : StepOperator} {at : At}
          → IsPostfix d ls a → IsLow limits at a → (p : Punctuator) → step_operator p ≡ Some op
          → IsPostfix d (ls ++ (mark p at ∷ [])) (ExpressionTree.StepAfter at a op)

    -- [ assignment { "," assignment } ]
    pub data AreArguments : Level → List Placed → ExpressionTrees → Type 0 where
      no_argument : {d : Level} → AreArguments d [] ExpressionTrees.none
      some_arguments : {d : Level} {ts : List Placed} {arguments : ExpressionTrees} → AreListed d ts arguments → AreArguments d ts arguments

    -- assignment { "," assignment }
    pub data AreListed : Level → List Placed → ExpressionTrees → Type 0 where
      last : {d : Level} {ts : List Placed} {a : ExpressionTree} → IsAssignment d ts a → AreListed d ts (ExpressionTrees.more a ExpressionTrees.none)
      next : {d : Level} {ts : List Placed} {a : ExpressionTree} {us : List Placed} {rest : ExpressionTrees}
          → IsAssignment d ts a → (comma : At) → AreListed d us rest
          → AreListed d (ts ++ (mark m.Comma comma ∷ us)) (ExpressionTrees.more a rest)

    -- primary = name | number | character | string { string } | "NULL" | "EOF" | "(" expression ")"  (6.5.1)
    pub data IsPrimary : Level → List Placed → ExpressionTree → Type 0 where
      name : {d : Level} {at : At} {x : List ℕ} → IsPrimary d (identifier x at ∷ []) (ExpressionTree.Name at x)
      number : {d : Level} {at : At} {n : ℕ} {is_unsigned : Bool}
          → IsPrimary d (record { token = Token.Number n is_unsigned; at = at } ∷ []) (ExpressionTree.Number at n is_unsigned)
      character : {d : Level} {at : At} {n : ℕ} → IsPrimary d (record { token = Token.Character n; at = at } ∷ []) (ExpressionTree.Character at n)
      text : {d : Level} {at : At} {ts : List Placed} {pieces : List (List ℕ)} → AreStrings at ts pieces → IsPrimary d ts (ExpressionTree.Text at pieces)
      null : {d : Level} {at : At} → IsPrimary d (word w.Null at ∷ []) (ExpressionTree.Null at)
      eof : {d : Level} {at : At} → IsPrimary d (word w.Eof at ∷ []) (ExpressionTree.Eof at)
      parenthesized : {d : Level} {at : At} {ts : List Placed} {a : ExpressionTree}
          → Opens limits at d → IsExpression (suc d) ts a → (to : At)
          → IsPrimary d (mark m.OpenParen at ∷ (ts ++ (mark m.CloseParen to ∷ []))) (ExpressionTree.Parenthesized at a)

    -- type_name = specifier ndecl  (6.7.7)
    pub data IsTypeName : Level → List Placed → TypeNameTree → Type 0 where
      type_name : {d : Level} {ss : List Placed} {s : Specifier} {ts : List Placed} {t : TypeDeclaratorTree}
          → IsSpecifier ss s → IsTypeDeclarator d (specifier_at s) ts t
          → IsTypeName d (ss ++ ts) (TypeNameTree.type_name (specifier_at s) s t)

    -- ndecl = { "*" } [ "(" ndecl ")" ] { "[" conditional "]" }, where brackets hold something; the place is that of the specifier
    pub data IsTypeDeclarator : Level → At → List Placed → TypeDeclaratorTree → Type 0 where
      direct : {d e : Level} {at : At} {ss : List Placed} {n : ℕ} {ts : List Placed} {sizes : ExpressionTrees}
          → AreStars d e ss n → AreSizes e ts sizes
          → IsTypeDeclarator d at (ss ++ ts) (TypeDeclaratorTree.Direct at n sizes)
      nested : {d e : Level} {at : At} {ss : List Placed} {n : ℕ} {first : Placed} {us : List Placed} {inner : TypeDeclaratorTree} {ts : List Placed}
          {sizes : ExpressionTrees}
          → AreStars d e ss n → (from : At) → Opens limits from e → IsTypeDeclarator (suc e) at (first ∷ us) inner → (to : At)
          → AreSizes e ts sizes
          → IsTypeDeclarator d at (ss ++ (mark m.OpenParen from ∷ first ∷ (us ++ (mark m.CloseParen to ∷ ts))))
          (TypeDeclaratorTree.Nested at n inner sizes)

    -- { "[" conditional "]" }
    pub data AreSizes : Level → List Placed → ExpressionTrees → Type 0 where
      no_size : {d : Level} → AreSizes d [] ExpressionTrees.none
      size : {d : Level} {at : At} {cs : List Placed} {c : ExpressionTree} {ts : List Placed} {rest : ExpressionTrees}
          → Opens limits at d → IsConditional (suc d) cs c → (to : At) → AreSizes d ts rest
          → AreSizes d (mark m.OpenBracket at ∷ (cs ++ (mark m.CloseBracket to ∷ ts))) (ExpressionTrees.more c rest)
