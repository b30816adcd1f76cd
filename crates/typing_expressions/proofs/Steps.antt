-- Lists that grow at their end, and what they stand for.
use Rattle.std.proofs.Common.{◌≡◌, ℕ, ◌+◌, List, [], ◌∷◌, ◌++◌, refl, sym, ◌∙◌, ap, append_assoc}
use Rattle.std.specs.Prelude.{map, reverse, replicate}
use Rattle.std.proofs.lemmas.Grind.{reverse_onto}
use Rattle.std.proofs.lemmas.List.{map_push, replicate_more}
use Rattle.typed_tree.specs.declared.types.StructType.{StructType}
use Rattle.typed_tree.specs.declared.typed_expr.TypedExpr.{TypedExpr}
use Rattle.typed_tree.specs.TypedViews.{struct_of, expr_of}
use Rattle.typing_expressions.specs.declared.parts.Part.{Part}
use Rattle.typing_expressions.specs.Parts.{CPart, part_of, parts_of}
use Rattle.typing_expressions.specs.Expressions.{pointed}

pub structs_pushed : (ss : List StructType) (s : StructType) → map struct_of (ss ++ s ∷ []) ≡ map struct_of ss ++ struct_of s ∷ []
structs_pushed ss s = map_push struct_of ss s

pub exprs_pushed : (es : List TypedExpr) (e : TypedExpr) → map expr_of (es ++ e ∷ []) ≡ map expr_of es ++ expr_of e ∷ []
exprs_pushed es e = map_push expr_of es e

pub part_pushed : (ps : List Part) (p : Part) → parts_of (ps ++ p ∷ []) ≡ parts_of ps ++ part_of p ∷ []
part_pushed ps p = map_push part_of ps p

pub pointed_more : (ps : List CPart) (n : ℕ) → pointed ps n ++ CPart.Pointer ∷ [] ≡ pointed ps (n + 1)
pointed_more ps n = append_assoc ps (replicate n CPart.Pointer) (CPart.Pointer ∷ []) ∙ ap (λ qs. ps ++ qs) (replicate_more n CPart.Pointer)

pub ruleset parts_pushed = (part_pushed, pointed_more)

pub parts_reversed : (ps : List Part) → parts_of (reverse ps) ≡ reverse (parts_of ps)
parts_reversed [] = refl
parts_reversed (p ∷ ps) =
    ap parts_of (reverse_onto ps p []) ∙ part_pushed (reverse ps) p ∙ ap (λ qs. qs ++ part_of p ∷ []) (parts_reversed ps) ∙ sym (reverse_onto (parts_of ps) (part_of p) [])
