-- Programs that come to a value of the wrong kind. So none of them is typed, and each breaks one rule of typing.
use Rattle.std.specs.Prelude.{◌≡◌, false, List, [], ◌∷◌, Some, codes}
use Rattle.c_words.specs.declared.operators.UnaryOperator.TheVariants.{Address, Dereference}
use Rattle.typed_tree.specs.Types.{CType}
use Rattle.typed_tree.specs.TypedTree.{CExpr, CForm, CStmt, CStmts, CLocal, CProgram}
use Rattle.typed_tree.specs.TypedLaws.{token, number, main_of}
use Rattle.source_meaning.specs.declared.values.OutsideCause.TheVariants.{Kind}
use Rattle.source_meaning.specs.declared.values.Ending.{Ending}
use Rattle.source_meaning.specs.declared.values.Ending.TheVariants.{Outside}
use Rattle.source_meaning.specs.Runs.{outcome}

-- `int main(void) { return E; }` with these locals
abbrev pub returning : List CLocal → CExpr → CProgram
returning locals e = main_of locals (CStmts.more (CStmt.Return (token 6) (Some e)) CStmts.none)

abbrev pub ending_of : CProgram → Ending
ending_of p = (outcome 4 p [] 1).ending

-- `*0`: a number is followed
abbrev pub followed_number : CProgram
followed_number = returning [] (CExpr.expr (token 7) CType.Int (CForm.Unary Dereference (number 8 0)))

-- `int x; return *&x;`, where x lies in no object
abbrev pub kept_local_referred : CProgram
kept_local_referred =
    returning (record { name = codes "x"; ty = CType.Int; size = 4; is_block = false } ∷ [])
    (CExpr.expr (token 7) CType.Int (CForm.Unary Dereference
    (CExpr.expr (token 8) (CType.Pointer CType.Int) (CForm.Unary Address
    (CExpr.expr (token 9) CType.Int (CForm.Local 0))))))

-- `return NULL;` in a function whose result is an int
abbrev pub pointer_returned : CProgram
pointer_returned = returning [] (CExpr.expr (token 7) (CType.Pointer CType.Void) CForm.Null)

abbrev pub UntypedComeThere : Type 0
UntypedComeThere =
    (ending_of followed_number ≡ Outside Kind) × (ending_of kept_local_referred ≡ Outside Kind) × (ending_of pointer_returned ≡ Outside Kind)
