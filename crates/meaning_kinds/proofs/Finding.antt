-- What is found in lists, and what stands nowhere in an expression or a statement.
use Rattle.std.proofs.Common.{◌≡◌, ℕ, Bool, true, false, List, Option, Some, None, refl, sym, ◌∙◌, arith}
use Rattle.std.specs.Prelude.{◌||◌, ◌==◌, IsTrue, map, slice_get, option_map}
use Rattle.std.proofs.lemmas.Bool.{true≢false}
use Rattle.std.proofs.lemmas.Option.{slice_get-map}
use Rattle.typed_tree.specs.TypedTree.{CExpr, CForm, CExprs, CLocal}
use Rattle.typed_tree.specs.TypedOperands.{is_place, has_object}
use Rattle.typed_tree.specs.Walk.{walked_all, any_of, some_expr}
use Rattle.typed_tree.specs.Typed.{refers_to}
use Rattle.meaning_kinds.specs.Kinds.{Never}
use Rattle.meaning_kinds.proofs.ValueKinds.{not_there}
use Rattle.meaning_kinds.proofs.Places.{same_thing}

-- what is found in a list of images is an image
pub found_image : {X Y : Type 0} (f : X → Y) (xs : List X) (k : ℕ) (y : Y) → slice_get (map f xs) k ≡ Some y → (x : X) × (slice_get xs k ≡ Some x) × (f x ≡ y)
found_image f xs k y e = of (slice_get xs k) refl (sym (slice_get-map f xs k) ∙ e)
  where
    of : (o : Option _) → slice_get xs k ≡ o → option_map f o ≡ Some y → (x : _) × (slice_get xs k ≡ Some x) × (f x ≡ y)
    of None eo h = absurd (not_there h)
    of (Some x) eo h = (x, eo, same_thing h)

or_left : (a b : Bool) → a || b ≡ false → a ≡ false
or_left true b h = absurd (true≢false h)
or_left false b h = refl

or_right : (a b : Bool) → a || b ≡ false → b ≡ false
or_right true b h = absurd (true≢false h)
or_right false b h = h

pub left : {ls : List CLocal} (a b : ℕ → Bool) → Never ls (λ k. a k || b k) → Never ls a
left a b h = record { none = λ k l found kept. or_left (a k) (b k) (h.none k l found kept) }

pub right : {ls : List CLocal} (a b : ℕ → Bool) → Never ls (λ k. a k || b k) → Never ls b
right a b h = record { none = λ k l found kept. or_right (a k) (b k) (h.none k l found kept) }

-- whether `&` is applied to local k in an expression, in one of several, or in a statement
abbrev pub mentions : CExpr → ℕ → Bool
mentions e k = some_expr (refers_to k) e

abbrev pub mentions_any : CExprs → ℕ → Bool
mentions_any es k = any_of (walked_all (λ e bs. refers_to k e || any_of bs) es)

abbrev pub nothing : ℕ → Bool
nothing k = false

-- of one operand, and of the first, the second and the third
pub one : {ls : List CLocal} (e : CExpr) → Never ls (λ k. mentions e k || false) → Never ls (mentions e)
one e h = left (mentions e) nothing h

pub first : {ls : List CLocal} (a b : CExpr) → Never ls (λ k. mentions a k || (mentions b k || false)) → Never ls (mentions a)
first a b h = left (mentions a) (λ k. mentions b k || false) h

pub second : {ls : List CLocal} (a b : CExpr) → Never ls (λ k. mentions a k || (mentions b k || false)) → Never ls (mentions b)
second a b h = one b (right (mentions a) (λ k. mentions b k || false) h)

pub place_has_object : (e : CExpr) → IsTrue (is_place e) → IsTrue (has_object e)
place_has_object (CExpr.expr at t (CForm.Local n)) h = refl
place_has_object (CExpr.expr at t (CForm.Global n)) h = refl
place_has_object (CExpr.expr at t (CForm.Text n)) h = refl
place_has_object (CExpr.expr at t (CForm.Index a b)) h = refl
place_has_object (CExpr.expr at t (CForm.Arrow e m)) h = refl
place_has_object (CExpr.expr at t (CForm.Member e m)) h = place_has_object e h
place_has_object (CExpr.expr at t (CForm.Unary o e)) h = h
place_has_object (CExpr.expr at t form) h = absurd (true≢false (sym h))

pub self_equal : (k : ℕ) → (k == k) ≡ true
self_equal k = grind arith

pub block_parts : (a b r x : Bool) → x ≡ (a || b || r) → x ≡ false → (a ≡ false) × (b ≡ false) × (r ≡ false)
block_parts true b r x e h = absurd (true≢false (sym e ∙ h))
block_parts false true r x e h = absurd (true≢false (sym e ∙ h))
block_parts false false true x e h = absurd (true≢false (sym e ∙ h))
block_parts false false false x e h = (refl, refl, refl)
