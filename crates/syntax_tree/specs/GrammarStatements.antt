-- The grammar's rules for statements.
use Rattle.std.specs.Prelude.{suc, Bool, true, false, List, [], ◌∷◌, ◌++◌, Option}
use Rattle.c_words.specs.declared.place.At.{At}
use Rattle.c_words.specs.declared.words.Keyword.TheVariants as w
use Rattle.c_words.specs.declared.words.Punctuator.TheVariants as m
use Rattle.c_words.specs.Tokens.{Placed}
use Rattle.syntax_tree.specs.Syntax.{ExpressionTree, DeclarationTree, ForStartTree, StatementTree, BlockTree, BlockItemTree, BlockItemTrees}
use Rattle.syntax_tree.specs.GrammarLimits.{Limits, Level, Opens}
use Rattle.syntax_tree.specs.GrammarTokens.{mark, word, first_at, Optional}
use Rattle.syntax_tree.specs.GrammarExpressions.{IsExpression}
use Rattle.syntax_tree.specs.GrammarDeclarations.{IsDeclaration}

module _ (limits : Limits) where
  -- declaration | [ expression ] ";"
  pub data IsForStart : Level → List Placed → ForStartTree → Type 0 where
    declaration : {d : Level} {ts : List Placed} {x : DeclarationTree} → IsDeclaration limits d ts x → IsForStart d ts (ForStartTree.Declaration x)
    expression : {d : Level} {ts : List Placed} {a : Option ExpressionTree} → Optional (IsExpression limits d) ts a → (to : At)
        → IsForStart d (ts ++ (mark m.Semicolon to ∷ [])) (ForStartTree.Expression a)

  mutual
    -- statement  (6.8). The test says whether the statement ends in an `if` without `else`, which an `else` behind it
    -- would belong to: what stands between an `if` and its `else` does not.
    pub data IsStatement : Level → Bool → List Placed → StatementTree → Type 0 where
      -- block
      block : {d : Level} {ts : List Placed} {x : BlockTree} → IsBlock d ts x → IsStatement d false ts (StatementTree.Block x)
      -- ";"
      empty : {d : Level} {at : At} → IsStatement d false (mark m.Semicolon at ∷ []) (StatementTree.Empty at)
      -- expression ";"
      expression : {d : Level} {ts : List Placed} {a : ExpressionTree} → IsExpression limits d ts a → (to : At)
          → IsStatement d false (ts ++ (mark m.Semicolon to ∷ [])) (StatementTree.Expression (first_at ts to) a)
      -- "if" "(" expression ")" statement
      only_if : {d : Level} {at from : At} {cs : List Placed} {c : ExpressionTree} {b : Bool} {ts : List Placed} {x : StatementTree}
          → Opens limits from d → IsExpression limits (suc d) cs c → (to : At) → IsStatement (suc d) b ts x
          → IsStatement d true (word w.If at ∷ mark m.OpenParen from ∷ (cs ++ (mark m.CloseParen to ∷ ts))) (StatementTree.If at c x)
      -- "if" "(" expression ")" statement "else" statement
      if_else : {d : Level} {at from : At} {cs : List Placed} {c : ExpressionTree} {ts : List Placed} {x : StatementTree} {b : Bool} {us : List Placed}
          {y : StatementTree}
          → Opens limits from d → IsExpression limits (suc d) cs c → (to : At) → IsStatement (suc d) false ts x → (other : At)
          → IsStatement (suc d) b us y
          → IsStatement d b (word w.If at ∷ mark m.OpenParen from ∷ (cs ++ (mark m.CloseParen to ∷ (ts ++ (word w.Else other ∷ us)))))
          (StatementTree.IfElse at c x y)
      -- "while" "(" expression ")" statement
      while : {d : Level} {at from : At} {cs : List Placed} {c : ExpressionTree} {b : Bool} {ts : List Placed} {x : StatementTree}
          → Opens limits from d → IsExpression limits (suc d) cs c → (to : At) → IsStatement (suc d) b ts x
          → IsStatement d b (word w.While at ∷ mark m.OpenParen from ∷ (cs ++ (mark m.CloseParen to ∷ ts))) (StatementTree.While at c x)
      -- "do" statement "while" "(" expression ")" ";"
      do_while : {d : Level} {at : At} {b : Bool} {ts : List Placed} {x : StatementTree} {cs : List Placed} {c : ExpressionTree}
          → (again from : At) → Opens limits (first_at ts again) d → IsStatement (suc d) b ts x → IsExpression limits (suc d) cs c → (to end : At)
          → IsStatement d false (word w.Do at
          ∷ (ts ++ (word w.While again ∷ mark m.OpenParen from ∷ (cs ++ (mark m.CloseParen to ∷ mark m.Semicolon end ∷ [])))))
          (StatementTree.DoWhile at x c)
      -- "for" "(" ( declaration | [ expression ] ";" ) [ expression ] ";" [ expression ] ")" statement
      for : {d : Level} {at from : At} {ss : List Placed} {start : ForStartTree} {cs : List Placed} {c : Option ExpressionTree} {us : List Placed}
          {u : Option ExpressionTree} {b : Bool} {ts : List Placed} {x : StatementTree}
          → Opens limits from d → IsForStart (suc d) ss start → Optional (IsExpression limits (suc d)) cs c → (middle : At)
          → Optional (IsExpression limits (suc d)) us u → (to : At) → IsStatement (suc d) b ts x
          → IsStatement d b (word w.For at ∷ mark m.OpenParen from
          ∷ (ss ++ (cs ++ (mark m.Semicolon middle ∷ (us ++ (mark m.CloseParen to ∷ ts)))))) (StatementTree.For at start c u x)
      -- "break" ";"
      break : {d : Level} {at to : At} → IsStatement d false (word w.Break at ∷ mark m.Semicolon to ∷ []) (StatementTree.Break at)
      -- "continue" ";"
      continue : {d : Level} {at to : At} → IsStatement d false (word w.Continue at ∷ mark m.Semicolon to ∷ []) (StatementTree.Continue at)
      -- "return" [ expression ] ";"
      return : {d : Level} {at : At} {ts : List Placed} {a : Option ExpressionTree} → Optional (IsExpression limits d) ts a → (to : At)
          → IsStatement d false (word w.Return at ∷ (ts ++ (mark m.Semicolon to ∷ []))) (StatementTree.Return at a)

    -- block = "{" { declaration | statement } "}"  (6.8.2)
    pub data IsBlock : Level → List Placed → BlockTree → Type 0 where
      braces : {d : Level} {at : At} {ts : List Placed} {items : BlockItemTrees} → Opens limits at d → AreItems (suc d) ts items → (to : At)
          → IsBlock d (mark m.OpenBrace at ∷ (ts ++ (mark m.CloseBrace to ∷ []))) (BlockTree.block at items)

    pub data AreItems : Level → List Placed → BlockItemTrees → Type 0 where
      no_item : {d : Level} → AreItems d [] BlockItemTrees.none
      item : {d : Level} {ts : List Placed} {x : BlockItemTree} {us : List Placed} {rest : BlockItemTrees} → IsItem d ts x → AreItems d us rest
          → AreItems d (ts ++ us) (BlockItemTrees.more x rest)

    pub data IsItem : Level → List Placed → BlockItemTree → Type 0 where
      declaration : {d : Level} {ts : List Placed} {x : DeclarationTree} → IsDeclaration limits d ts x → IsItem d ts (BlockItemTree.Declaration x)
      statement : {d : Level} {b : Bool} {ts : List Placed} {x : StatementTree} → IsStatement d b ts x → IsItem d ts (BlockItemTree.Statement x)
