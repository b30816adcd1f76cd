-- The judgement of the small programs.
use Rattle.std.proofs.Common.{◌≡◌, ℕ, List, [], ◌∷◌, ◌+◌, length, refl, arith, lit<}
use Rattle.std.specs.Prelude.{Some, slice_get, codes}
use Rattle.std.proofs.lemmas.List.Elements.{All-nil, All-cons, All-from_recursion}
use Rattle.typed_tree.specs.Types.{CType}
use Rattle.typed_tree.specs.TypedTree.{CLocal, CFunction, CProgram}
use Rattle.typed_tree.specs.Sizes.{IsType, IsComplete}
use Rattle.typed_tree.specs.TypedRules.{IsResult}
use Rattle.typed_tree.specs.TypedBody.{IsLiteral}
use Rattle.typed_tree.specs.Typed.{IsStruct, IsFunction, IsLocalObject, IsGlobalObject, Typed}
use Rattle.typed_tree.specs.TypedLaws.{forty_two, main_function, return_number, mixed, Mixed, Strings}

no_local : (p : CProgram) (f : CFunction) (k : ℕ) (l : CLocal) → slice_get [] k ≡ Some l → IsLocalObject p f k l
no_local p f k l found = absurd cc

forty_two_body : IsFunction forty_two (main_function [] (return_number 42))
forty_two_body = record {
  result_type = tt;
  result = IsResult.scalar refl;
  params_few = omega arith;
  params_within = omega arith;
  params = All-nil _;
  locals = no_local _ _;
  block = tt;
  body = (((tt, (IsLiteral.int refl, lit< tt)), (refl, refl)), tt);
}

pub forty_two_is_typed : Typed forty_two
forty_two_is_typed = record {
  structs = All-nil (IsStruct []);
  ranked = record { rank = λ k. 0; rises = λ k j s m i found is_member within. absurd cc };
  globals = All-nil (IsGlobalObject forty_two);
  texts = All-nil _;
  functions = All-cons (IsFunction forty_two) _ [] forty_two_body (All-nil (IsFunction forty_two));
  functions_few = omega arith;
  main = record { function = _; found = refl; name = refl; result = refl; params = refl };
}

pub mixed_is_right : Mixed
mixed_is_right = (
  record {
    types = All-from_recursion (λ m. IsType (mixed ∷ []) m.ty) mixed.members (tt, (tt, ((tt, refl, omega arith, omega arith), (omega arith, tt))));
    complete = All-from_recursion (λ m. IsComplete (mixed ∷ []) m.ty) mixed.members (refl, (refl, (refl, (refl, tt))));
    in_order = (refl, (refl, (refl, (refl, tt))));
    align = refl;
    size = refl;
    fits = omega arith;
  },
  refl,
)

-- the length of a string is that of its type
of_length : (n : ℕ) (bytes : List ℕ) → Some (codes "ab") ≡ Some bytes → CType.Array CType.Char n ≡ CType.Array CType.Char (length bytes + 1) → n ≡ 3
of_length n bytes found is = let same : codes "ab" ≡ bytes = cc in let three : length bytes ≡ 2 = rw (← same) refl in let count : n ≡ length bytes + 1 = cc in omega arith

pub strings_are : Strings
strings_are = (
  ((tt, refl, omega arith, omega arith), record { bytes = codes "ab"; found = refl; type = refl }),
  λ typed. let three : 2 ≡ 3 = of_length 2 typed.1.bytes typed.1.found typed.1.type in omega arith,
  λ typed. cc typed.1.found,
)
