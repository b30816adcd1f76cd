-- The type of a declared function.
use Rattle.std.proofs.Common.{◌≡◌, ℕ, ◌<◌, ◌≤◌, Bool, true, false, not, ◌&&◌, ◌||◌, nat_lt, nat_le, List, [], ◌∷◌, length, refl, subst}
use Rattle.std.specs.Prelude.{Option, Some, None, Ok, reverse}
use Rattle.std.proofs.lemmas.Bool.{ltb-false, leb-false}
use Rattle.typed_tree.specs.Types.{CType, same, is_array}
use Rattle.typed_tree.specs.Sizes.{IsType}
use Rattle.typed_tree.specs.TypedRules.{IsResult}
use Rattle.typing_operators.specs.declared.error.TypeError.TheVariants.{BadType, TooManyParams, TooManyFunctions}
use Rattle.typing_operators.specs.Rule.{Rule}
use Rattle.typing_expressions.specs.Names.{found}
use Rattle.typing_expressions.specs.Parts.{CParam, CPart, is_incomplete, has_function, lacks_size, made}
use Rattle.typing_declarations.specs.Declarators.{has_many_params}
use Rattle.typing_unit_keeps.specs.Units.{CFile, is_main, gives_aggregate, takes_struct, param_types, is_again, has_none, breaks_main, unnamed, named_unless, function_type}
use Rattle.typing_unit_keeps.proofs.Steps.{passes, not_false}
use Rattle.typing_unit_keeps.proofs.Accepted.{or_left, or_right}
use Rattle.typing_unit_keeps.proofs.MadeTypes.{AreParts, made_is, result_is}
use Rattle.typing_unit_keeps.proofs.InitialTypes.{same_is}

-- What a declarator of a function was found to have.
pub record IsFunctionType (f : CFile) (x : List ℕ) (params : List CParam) (defines : Bool) (t : CType) : Type 0 where
  pub few : length params ≤ 8
  pub room : defines ≡ true → length f.functions < 1000
  pub type : IsType f.scene.structs t
  pub result : IsResult t
  pub no_struct : takes_struct params ≡ false
  pub main : is_main x ≡ true → (t ≡ CType.Int) × (params ≡ [])
  pub again : is_again f.scene.functions (found x f.scene.names) (Ok t) (param_types params) ≡ true

unless_is : (defines : Bool) (o : Option ℕ) (result : Rule CType) (t : CType) → named_unless defines o result ≡ Ok t → result ≡ Ok t
unless_is false o result t h = h
unless_is true None result t h = h
unless_is true (Some line) result t h = absurd cc

none_is : (params : List CParam) → has_none params ≡ true → params ≡ []
none_is [] h = refl
none_is (p ∷ ps) h = absurd cc

main_is : (x : List ℕ) (t : CType) (params : List CParam) → breaks_main x (Ok t) params ≡ false → is_main x ≡ true → (t ≡ CType.Int) × (params ≡ [])
main_is x t params kept is = by (is_main x) is (same t CType.Int) (has_none params) refl refl kept
  where
    by : (m : Bool) → m ≡ true → (a b : Bool) → same t CType.Int ≡ a → has_none params ≡ b → m && not (a && b) ≡ false → (t ≡ CType.Int) × (params ≡ [])
    by true is true true first second h = (same_is t CType.Int first, none_is params second)
    by true is true false first second h = absurd cc
    by true is false b first second h = absurd cc
    by false is a b first second h = absurd cc

pub function_type_is : (f : CFile) (line : ℕ) (x : List ℕ) (base : CType) (params : List CParam) (ps : List CPart) (defines has_initializer : Bool) (t : CType)
    → IsType f.scene.structs base → is_array base ≡ false → AreParts f.scene.structs ps → function_type f line x base params ps defines has_initializer ≡ Ok t → IsFunctionType f x params defines t
function_type_is f line x base params ps defines has_initializer t base_is no_array are h =
    let structs = f.scene.structs in
    let result = made structs line base (reverse ps) in
    let few = passes (nat_lt 8 (length params) || has_many_params ps) (TooManyParams line) _ t h in
    let room = passes (defines && nat_le 1000 (length f.functions)) (TooManyFunctions line) _ t few.1 in
    let complete = passes (is_incomplete structs false base ps) (BadType line 1) _ t room.1 in
    let parts = passes (has_function ps || gives_aggregate base ps || takes_struct params) (BadType line 2) _ t complete.1 in
    let plain : has_function ps || gives_aggregate base ps ≡ false = or_left _ _ parts.0 in
    let sized = passes (lacks_size ps) (BadType line 3) _ t parts.1 in
    let bare = passes has_initializer (BadType line 4) _ t sized.1 in
    let same_type = passes (breaks_main x result params || not (is_again f.scene.functions (found x f.scene.names) result (param_types params))) (BadType line 5) _ t bare.1 in
    let result_is_made : result ≡ Ok t = unless_is defines (unnamed params) result t same_type.1 in
    let main : breaks_main x result params ≡ false = or_left _ _ same_type.0 in
    let again : is_again f.scene.functions (found x f.scene.names) result (param_types params) ≡ true = not_false _ (or_right (breaks_main x result params) _ same_type.0) in
    record {
      few = ltb-false 8 (length params) (or_left _ _ few.0);
      room = λ is. leb-false 1000 (length f.functions) (by defines _ is room.0);
      type = (made_is structs line false base ps t base_is complete.0 are result_is_made).type;
      result = result_is structs line base ps t no_array (or_left _ _ plain) (or_right (has_function ps) _ plain) result_is_made;
      no_struct = or_right (has_function ps || gives_aggregate base ps) _ parts.0;
      main = main_is x t params (subst (λ r. breaks_main x r params ≡ false) result_is_made main);
      again = subst (λ r. is_again f.scene.functions (found x f.scene.names) r (param_types params) ≡ true) result_is_made again;
    }
  where
    by : (a b : Bool) → a ≡ true → a && b ≡ false → b ≡ false
    by true b is h = h
    by false b is h = absurd cc
