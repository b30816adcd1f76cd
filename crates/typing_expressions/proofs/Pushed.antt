-- Lists that grow at their end, and what they stand for.
use Rattle.std.proofs.Common.{◌≡◌, ℕ, ◌+◌, ◌-◌, ◌≤◌, List, [], ◌∷◌, ◌++◌, length, sym, ◌∙◌, ap, append_assoc, append-nil, arith}
use Rattle.std.specs.Prelude.{map, replicate}
use Rattle.std.proofs.lemmas.List.{map_push, replicate_more}
use Rattle.typed_tree.specs.declared.typed.InitialByte.{InitialByte}
use Rattle.typed_tree.specs.declared.typed.InitialByte.TheVariants.{Byte}
use Rattle.typing_expressions.specs.Initializers.{padded}
use Rattle.typed_tree.specs.declared.types.Member.{Member}
use Rattle.typed_tree.specs.declared.typed_stmt.TypedDeclaration.{TypedDeclaration}
use Rattle.typed_tree.specs.declared.typed_stmt.TypedInitial.{TypedInitial}
use Rattle.typed_tree.specs.declared.typed_stmt.TypedStmt.{TypedStmt}
use Rattle.typed_tree.specs.TypedViews.{member_of, declaration_of, initial_of, stmt_of}
use Rattle.typing_expressions.specs.declared.parts.Param.{Param}
use Rattle.typing_expressions.specs.declared.scene.Draft.{Draft}
use Rattle.typing_expressions.specs.Parts.{param_of}
use Rattle.typing_expressions.specs.Scene.{draft_of}

pub params_pushed : (ps : List Param) (p : Param) → map param_of (ps ++ p ∷ []) ≡ map param_of ps ++ param_of p ∷ []
params_pushed ps p = map_push param_of ps p

pub drafts_pushed : (ls : List Draft) (l : Draft) → map draft_of (ls ++ l ∷ []) ≡ map draft_of ls ++ draft_of l ∷ []
drafts_pushed ls l = map_push draft_of ls l

pub members_pushed : (ms : List Member) (m : Member) → map member_of (ms ++ m ∷ []) ≡ map member_of ms ++ member_of m ∷ []
members_pushed ms m = map_push member_of ms m

pub initials_pushed : (xs : List TypedInitial) (x : TypedInitial) → map initial_of (xs ++ x ∷ []) ≡ map initial_of xs ++ initial_of x ∷ []
initials_pushed xs x = map_push initial_of xs x

pub declarations_pushed : (ds : List TypedDeclaration) (d : TypedDeclaration) → map declaration_of (ds ++ d ∷ []) ≡ map declaration_of ds ++ declaration_of d ∷ []
declarations_pushed ds d = map_push declaration_of ds d

pub statements_pushed : (xs : List TypedStmt) (x : TypedStmt) → map stmt_of (xs ++ x ∷ []) ≡ map stmt_of xs ++ stmt_of x ∷ []
statements_pushed xs x = map_push stmt_of xs x

pub zero_more : (bs : List InitialByte) (n : ℕ) → (bs ++ replicate n (Byte 0)) ++ Byte 0 ∷ [] ≡ bs ++ replicate (n + 1) (Byte 0)
zero_more bs n = append_assoc bs (replicate n (Byte 0)) (Byte 0 ∷ []) ∙ ap (λ q. bs ++ q) (replicate_more n (Byte 0))

pub none_wanting : (bs : List InitialByte) (n : ℕ) → n ≤ length bs → bs ≡ padded bs n
none_wanting bs n h =
    let none : n - length bs ≡ 0 = omega (arith, h) in
    sym (ap (λ (k : ℕ). bs ++ replicate k (Byte 0)) none ∙ append-nil bs)

pub ruleset zeros = (zero_more, none_wanting)
