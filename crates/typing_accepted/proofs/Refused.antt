-- Where arguments, blocks and files are refused.
use Rattle.std.proofs.Common.{◌≡◌, ℕ, List, [], ◌∷◌, ◌++◌, refl, subst}
use Rattle.std.specs.Prelude.{Option, Some, None, Ok, Err, map, codes}
use Rattle.syntax_tree.specs.Syntax.{BlockItemTree, UnitTree}
use Rattle.syntax_tree.specs.SyntaxViews.{listed, listed_items}
use Rattle.typed_tree.specs.TypedTree.{CDeclaration, CStmt, CProgram}
use Rattle.typing_operators.specs.declared.error.TypeError.{TypeError}
use Rattle.typing_operators.specs.declared.error.TypeError.TheVariants.{Unknown, NoMain}
use Rattle.typing_operators.specs.Rule.{Rule, ◌>>=◌}
use Rattle.typing_expressions.specs.Names.{found}
use Rattle.typing_expressions.specs.Scene.{CScene, CDeclared}
use Rattle.typing_statements.specs.Statements.{CAround, declaration, statement, item}
use Rattle.typing_unit_keeps.specs.Units.{CFile, definitions, externals, undefined, all_defined, main_or_none, empty_file, finished_file, typed_unit}
use Rattle.typing_accepted.specs.AcceptanceFiles.{AcceptsExternals}
use Rattle.typing_accepted.specs.AcceptanceLaws.{ArgumentsFailAtFirst, ItemsFailAtFirst, LocalsFailAtFirst, DeclaratorsFailAtFirst, IsRefusedWith, FilesFailAtFirst}
use Rattle.typing_accepted.proofs.ToStatements.{to_locals, to_items}
use Rattle.typing_accepted.proofs.FromStatements.{from_locals, from_items}
use Rattle.typing_accepted.proofs.ToFiles.{to_all_declared, to_externals}
use Rattle.typing_accepted.proofs.FromFiles.{from_all_declared, from_externals}
use Rattle.typing_accepted.proofs.Agreement.{defined_to, defined_is}
use Rattle.typing_accepted.proofs.First.{arguments_first, locals_first, items_first, declared_first, externals_first}
use Rattle.typing_accepted.proofs.Same.{arguments_are_typed}

pub arguments_fail_at_first : ArgumentsFailAtFirst
arguments_fail_at_first s es e =
    let first = arguments_first [] s es e in
    record {
      forward = λ is.
          let f = first.forward is in
          record { front = f.front; next = f.next; rest = f.rest; parts = f.parts; state = f.state.1; accepted = (f.state.0, (arguments_are_typed s (listed f.front) f.state.0 f.state.1).backward f.accepted); refused = f.refused };
      backward = λ f. first.backward (record {
        front = f.front;
        next = f.next;
        rest = f.rest;
        parts = f.parts;
        state = (f.accepted.0, f.state);
        accepted = (arguments_are_typed s (listed f.front) f.accepted.0 f.state).forward f.accepted.1;
        refused = f.refused;
      });
    }

-- what is refused is refused whatever stands before it
behind : (A : Type 0) (r : Rule (A × CScene)) (f g : A → List CStmt) (e : TypeError) → (r >>= λ x. let o : Rule (List CStmt × CScene) = Ok (f x.0, x.1) in o) ≡ Err e → (r >>= λ x. let o : Rule (List CStmt × CScene) = Ok (g x.0, x.1) in o) ≡ Err e
behind A (Ok x) f g e is = absurd cc
behind A (Err d) f g e is = is

item_behind : (a : CAround) (done some : List CStmt) (s : CScene) (x : BlockItemTree) (e : TypeError) → item a done s x ≡ Err e → item a some s x ≡ Err e
item_behind a done some s (BlockItemTree.Declaration d) e is = behind (List CDeclaration) (declaration s d) (λ l. done ++ map CStmt.Declare l) (λ l. some ++ map CStmt.Declare l) e is
item_behind a done some s (BlockItemTree.Statement x) e is = behind CStmt (statement a s x) (λ y. done ++ y ∷ []) (λ y. some ++ y ∷ []) e is

pub items_fail_at_first : ItemsFailAtFirst
items_fail_at_first a s xs e =
    let first = items_first a [] s xs e in
    record {
      forward = λ is.
          let f = first.forward is in
          let all = from_items a [] s (listed_items f.front) f.state f.accepted in
          record { front = f.front; next = f.next; rest = f.rest; parts = f.parts; state = f.state.1; accepted = (all.these, all.accepts); refused = item_behind a f.state.0 [] f.state.1 f.next e f.refused };
      backward = λ f. first.backward (record {
        front = f.front;
        next = f.next;
        rest = f.rest;
        parts = f.parts;
        state = (f.accepted.0, f.state);
        accepted = to_items a s (listed_items f.front) f.accepted.0 f.state [] f.accepted.1;
        refused = item_behind a [] f.accepted.0 f.state f.next e f.refused;
      });
    }

-- declarators

pub locals_fail_at_first : LocalsFailAtFirst
locals_fail_at_first base s ds e =
    let first = locals_first base [] s ds e in
    record {
      forward = λ is.
          let f = first.forward is in
          let all = from_locals base [] s f.front f.state f.accepted in
          record { front = f.front; next = f.next; rest = f.rest; parts = f.parts; state = f.state.1; accepted = (all.these, all.declare); refused = f.refused };
      backward = λ f. first.backward (record {
        front = f.front;
        next = f.next;
        rest = f.rest;
        parts = f.parts;
        state = (f.accepted.0, f.state);
        accepted = to_locals base s f.front f.accepted.0 f.state [] f.accepted.1;
        refused = f.refused;
      });
    }

pub declarators_fail_at_first : DeclaratorsFailAtFirst
declarators_fail_at_first numbers base f ds e =
    let first = declared_first numbers base f ds e in
    record {
      forward = λ is.
          let g = first.forward is in
          record { front = g.front; next = g.next; rest = g.rest; parts = g.parts; state = g.state; accepted = from_all_declared numbers base f g.front g.state g.accepted; refused = g.refused };
      backward = λ g. first.backward (record {
        front = g.front;
        next = g.next;
        rest = g.rest;
        parts = g.parts;
        state = g.state;
        accepted = to_all_declared numbers base f g.front g.state g.accepted;
        refused = g.refused;
      });
    }

-- files

module _ (u : UnitTree) (e : TypeError) where
  in_text : externals (definitions [] u.externals) empty_file u.externals ≡ Err e → IsRefusedWith u e
  in_text is =
      let f = (externals_first (definitions [] u.externals) empty_file u.externals e).forward is in
      IsRefusedWith.in_text (record { front = f.front; next = f.next; rest = f.rest; parts = f.parts; state = f.state; accepted = from_externals (definitions [] u.externals) empty_file f.front f.state f.accepted; refused = f.refused })

  without_main : (f : CFile) → AcceptsExternals (definitions [] u.externals) empty_file u.externals f → undefined f.scene.functions f.scene.called ≡ None → (o : Option ℕ) → found (codes "main") (definitions [] u.externals) ≡ o
      → (main_or_none o >>= λ main. let r : Rule CProgram = Ok (record { structs = f.scene.structs; globals = f.globals; texts = f.scene.texts; functions = f.functions; main = main }) in r) ≡ Err e → IsRefusedWith u e
  without_main f accepts all None main is = IsRefusedWith.no_main accepts (defined_is f.scene.functions f.scene.called all) main (same_refusal NoMain is)
    where
      same_refusal : (d : TypeError) → (let r : Rule CProgram = Err d in r) ≡ Err e → e ≡ d
      same_refusal d h = cc
  without_main f accepts all (Some k) main is = absurd cc

  behind_text : (f : CFile) → AcceptsExternals (definitions [] u.externals) empty_file u.externals f → (o : Option CDeclared) → undefined f.scene.functions f.scene.called ≡ o
      → (all_defined o >>= λ t. main_or_none (found (codes "main") (definitions [] u.externals)) >>= λ main.
      let r : Rule CProgram = Ok (record { structs = f.scene.structs; globals = f.globals; texts = f.scene.texts; functions = f.functions; main = main }) in r) ≡ Err e → IsRefusedWith u e
  behind_text f accepts None all is = without_main f accepts all _ refl is
  behind_text f accepts (Some g) all is = IsRefusedWith.not_defined accepts all (same_refusal (Unknown g.line g.name) is)
    where
      same_refusal : (d : TypeError) → (let r : Rule CProgram = Err d in r) ≡ Err e → e ≡ d
      same_refusal d h = cc

  by_text : (r : Rule CFile) → externals (definitions [] u.externals) empty_file u.externals ≡ r → (r >>= λ f. finished_file (definitions [] u.externals) f) ≡ Err e → IsRefusedWith u e
  by_text (Ok f) text is = behind_text f (from_externals (definitions [] u.externals) empty_file u.externals f text) _ refl is
  by_text (Err d) text is = let same : d ≡ e = cc in in_text (subst (λ c. externals (definitions [] u.externals) empty_file u.externals ≡ Err c) same text)

  refused_by : IsRefusedWith u e → typed_unit u ≡ Err e
  refused_by (IsRefusedWith.in_text f) =
      let is = (externals_first (definitions [] u.externals) empty_file u.externals e).backward (record { front = f.front; next = f.next; rest = f.rest; parts = f.parts; state = f.state; accepted = to_externals (definitions [] u.externals) empty_file f.front f.state f.accepted; refused = f.refused }) in
      rw is refl
  refused_by (IsRefusedWith.not_defined {f = f} accepts all is) = rw (to_externals (definitions [] u.externals) empty_file u.externals f accepts, all, is) refl
  refused_by (IsRefusedWith.no_main {f = f} accepts all main is) = rw (to_externals (definitions [] u.externals) empty_file u.externals f accepts, defined_to f.scene.functions f.scene.called all, main, is) refl

pub files_fail_at_first : FilesFailAtFirst
files_fail_at_first u e = record { forward = λ is. by_text u e _ refl is; backward = λ is. refused_by u e is }
