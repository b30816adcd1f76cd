-- A list is refused where what stands before one of it is accepted, and that one is refused.
use Rattle.std.proofs.Common.{◌≡◌, List, [], ◌∷◌, ◌++◌, refl, sym, ap, ◌∙◌, subst}
use Rattle.std.specs.Prelude.{Ok, Err}
use Rattle.syntax_tree.specs.Syntax.{ExpressionTree, InitDeclaratorTree, BlockItemTree, ExternalTree}
use Rattle.syntax_tree.specs.SyntaxViews.{listed, listed_items}
use Rattle.typed_tree.specs.Types.{CType}
use Rattle.typed_tree.specs.TypedTree.{CExpr, CDeclaration, CStmt}
use Rattle.typing_operators.specs.declared.error.TypeError.{TypeError}
use Rattle.typing_operators.specs.Rule.{Rule, ◌>>=◌}
use Rattle.typing_expressions.specs.Scene.{CScene}
use Rattle.typing_expressions.specs.Expressions.{typed, typed_all}
use Rattle.typing_statements.specs.Statements.{CAround, local, locals, item, items}
use Rattle.typing_unit_keeps.specs.Units.{CDefinitions, CFile, declared, all_declared, external, externals}
use Rattle.typing_accepted.specs.AcceptanceLaws.{BothWays, FailsAtFirst}
use Rattle.typing_accepted.proofs.Steps.{onward, same_ok}

-- a function that takes the parts of a list one after the other
module _ {X A : Type 0} (one : A → X → Rule A) (all : A → List X → Rule A)
    (nothing : (a : A) → all a [] ≡ Ok a) (next : (a : A) (x : X) (xs : List X) → all a (x ∷ xs) ≡ (one a x >>= λ b. all b xs)) where
  abbrev Fails : A → List X → TypeError → Type 0
  Fails a xs e = FailsAtFirst (λ front b. all a front ≡ Ok b) (λ b x. one b x ≡ Err e) xs

  later : (a b : A) (x : X) (xs : List X) (e : TypeError) → one a x ≡ Ok b → Fails b xs e → Fails a (x ∷ xs) e
  later a b x xs e is f = record {
    front = x ∷ f.front;
    next = f.next;
    rest = f.rest;
    parts = ap (λ ys. x ∷ ys) f.parts;
    state = f.state;
    accepted = next a x f.front ∙ onward (one a x) (λ c. all c f.front) b (Ok f.state) is f.accepted;
    refused = f.refused;
  }

  fails_at : (a : A) (xs : List X) (e : TypeError) → all a xs ≡ Err e → Fails a xs e
  fails_at a [] e is = let no : (let r : Rule A = Ok a in r) ≡ Err e = sym (nothing a) ∙ is in absurd cc
  fails_at a (x ∷ xs) e is = by (one a x) refl (λ b h. fails_at b xs e h) (sym (next a x xs) ∙ is)
    where
      by : (r : Rule A) → one a x ≡ r → ((b : A) → all b xs ≡ Err e → Fails b xs e) → (r >>= λ b. all b xs) ≡ Err e → Fails a (x ∷ xs) e
      by (Ok b) r_is rest h = later a b x xs e r_is (rest b h)
      by (Err f) r_is rest h = record { front = []; next = x; rest = xs; parts = refl; state = a; accepted = nothing a; refused = rw r_is h }

  stops : (a : A) (front : List X) (x : X) (rest : List X) (b : A) (e : TypeError) → all a front ≡ Ok b → one b x ≡ Err e → all a (front ++ x ∷ rest) ≡ Err e
  stops a [] x rest b e before is = let same : a ≡ b = same_ok a b (sym (nothing a) ∙ before) in next a x rest ∙ rw (same, is) refl
  stops a (y ∷ front) x rest b e before is = next a y (front ++ x ∷ rest) ∙ by (one a y) (sym (next a y front) ∙ before) (λ c h. stops c front x rest b e h is)
    where
      by : (r : Rule A) → (r >>= λ c. all c front) ≡ Ok b → ((c : A) → all c front ≡ Ok b → all c (front ++ x ∷ rest) ≡ Err e) → (r >>= λ c. all c (front ++ x ∷ rest)) ≡ Err e
      by (Ok c) h go = go c h
      by (Err f) h go = absurd cc

  pub at_first : (a : A) (xs : List X) (e : TypeError) → BothWays (all a xs ≡ Err e) (Fails a xs e)
  at_first a xs e = record {
    forward = λ is. fails_at a xs e is;
    backward = λ f. subst (λ ys. all a ys ≡ Err e) (sym f.parts) (stops a f.front f.next f.rest f.state e f.accepted f.refused);
  }

-- one that keeps what each part gives
module _ {X Y : Type 0} (step : CScene → X → Rule (Y × CScene)) (all : List Y → CScene → List X → Rule (List Y × CScene))
    (nothing : (ys : List Y) (s : CScene) → all ys s [] ≡ Ok (ys, s))
    (next : (ys : List Y) (s : CScene) (x : X) (xs : List X) → all ys s (x ∷ xs) ≡ (step s x >>= λ y. all (ys ++ y.0 ∷ []) y.1 xs)) where
  abbrev more : List Y → Y × CScene → Rule (List Y × CScene)
  more ys y = Ok (ys ++ y.0 ∷ [], y.1)

  in_turn : (ys : List Y) (r : Rule (Y × CScene)) (xs : List X) → (r >>= λ y. all (ys ++ y.0 ∷ []) y.1 xs) ≡ ((r >>= λ y. more ys y) >>= λ b. all b.0 b.1 xs)
  in_turn ys (Ok y) xs = refl
  in_turn ys (Err e) xs = refl

  refused : (ys : List Y) (r : Rule (Y × CScene)) (e : TypeError) → BothWays ((r >>= λ y. more ys y) ≡ Err e) (r ≡ Err e)
  refused ys (Ok y) e = record { forward = λ h. absurd cc; backward = λ h. absurd cc }
  refused ys (Err f) e = record { forward = λ h. let same : f ≡ e = cc in rw same refl; backward = λ h. let same : f ≡ e = cc in rw same refl }

  pub kept_first : (ys : List Y) (s : CScene) (xs : List X) (e : TypeError) → BothWays (all ys s xs ≡ Err e) (FailsAtFirst (λ front u. all ys s front ≡ Ok u) (λ u x. step u.1 x ≡ Err e) xs)
  kept_first ys s xs e =
      let first = at_first (λ a x. step a.1 x >>= λ y. more a.0 y) (λ a xs. all a.0 a.1 xs) (λ a. nothing a.0 a.1) (λ a x xs. next a.0 a.1 x xs ∙ in_turn a.0 (step a.1 x) xs) (ys, s) xs e in
      record {
        forward = λ is.
            let f = first.forward is in
            record { front = f.front; next = f.next; rest = f.rest; parts = f.parts; state = f.state; accepted = f.accepted; refused = (refused f.state.0 (step f.state.1 f.next) e).forward f.refused };
        backward = λ f. first.backward (record {
          front = f.front;
          next = f.next;
          rest = f.rest;
          parts = f.parts;
          state = f.state;
          accepted = f.accepted;
          refused = (refused f.state.0 (step f.state.1 f.next) e).backward f.refused;
        });
      }

pub arguments_first : (vs : List CExpr) (s : CScene) (es : List ExpressionTree) (e : TypeError)
    → BothWays (typed_all vs s (listed es) ≡ Err e) (FailsAtFirst (λ front u. typed_all vs s (listed front) ≡ Ok u) (λ u next. typed u.1 next ≡ Err e) es)
arguments_first vs s es e = kept_first typed (λ vs s es. typed_all vs s (listed es)) (λ vs s. refl) (λ vs s x es. refl) vs s es e

pub locals_first : (base : CType) (done : List CDeclaration) (s : CScene) (ds : List InitDeclaratorTree) (e : TypeError)
    → BothWays (locals done s base ds ≡ Err e) (FailsAtFirst (λ front u. locals done s base front ≡ Ok u) (λ u next. local u.1 base next ≡ Err e) ds)
locals_first base done s ds e = kept_first (λ s d. local s base d) (λ done s ds. locals done s base ds) (λ done s. refl) (λ done s d ds. refl) done s ds e

pub items_first : (a : CAround) (done : List CStmt) (s : CScene) (xs : List BlockItemTree) (e : TypeError)
    → BothWays (items a done s (listed_items xs) ≡ Err e) (FailsAtFirst (λ front u. items a done s (listed_items front) ≡ Ok u) (λ u next. item a u.0 u.1 next ≡ Err e) xs)
items_first a done s xs e = at_first (λ b x. item a b.0 b.1 x) (λ b xs. items a b.0 b.1 (listed_items xs)) (λ b. refl) (λ b x xs. refl) (done, s) xs e

pub declared_first : (numbers : CDefinitions) (base : CType) (f : CFile) (ds : List InitDeclaratorTree) (e : TypeError)
    → BothWays (all_declared numbers f base ds ≡ Err e) (FailsAtFirst (λ front g. all_declared numbers f base front ≡ Ok g) (λ g next. declared numbers g base next ≡ Err e) ds)
declared_first numbers base f ds e = at_first (λ f d. declared numbers f base d) (λ f ds. all_declared numbers f base ds) (λ f. refl) (λ f d ds. refl) f ds e

pub externals_first : (numbers : CDefinitions) (f : CFile) (xs : List ExternalTree) (e : TypeError)
    → BothWays (externals numbers f xs ≡ Err e) (FailsAtFirst (λ front g. externals numbers f front ≡ Ok g) (λ g next. external numbers g next ≡ Err e) xs)
externals_first numbers f xs e = at_first (external numbers) (externals numbers) (λ f. refl) (λ f x xs. refl) f xs e
