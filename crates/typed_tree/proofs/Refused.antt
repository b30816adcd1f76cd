-- Why each of those programs is not typed.
use Rattle.std.proofs.Common.{◌≡◌, ℕ, true, false, ◌&&◌, ◌||◌, IsTrue, List, [], ◌∷◌, refl, sym, ap, ◌∙◌, subst, arith, ◌<◌}
use Rattle.c_words.specs.declared.place.At.{At}
use Rattle.std.specs.Prelude.{Some}
use Rattle.std.proofs.lemmas.List.Elements.{All-nil, All-cons, All-head, All-tail}
use Rattle.typed_tree.specs.declared.typed.InitialByte.TheVariants.{Byte}
use Rattle.typed_tree.specs.Types.{CType, is_scalar, is_array, is_struct}
use Rattle.typed_tree.specs.TypedTree.{CForm, CExprs, CInitial, CInitials, CStmt, CStmts, CLocal, CFunction, CProgram}
use Rattle.typed_tree.specs.Sizes.{member_at}
use Rattle.typed_tree.specs.TypedRules.{Prototype, AreGiven, part_type, IsSet, AreAdded, AreSubtracted, AreOrdered, AreEquated, AreAlternatives, MayCast, CanStep, IsResult}
use Rattle.typed_tree.specs.TypedBody.{Environment, IsForm, IsStmt, IsInitialized}
use Rattle.typed_tree.specs.Typed.{environment_of, IsFunction, IsLocalObject, IsGlobalObject, IsInitialByte, Typed, is_line, stmt_on_lines}
use Rattle.typed_tree.specs.TypedLaws.{main_function, return_number}
use Rattle.typed_tree.specs.TypedRefused.{NotTyped, LinesCount, structs, locals, procedure, program_with, doing_with, evaluating, with_local}

-- what the names in that `main` stand for
abbrev names : Environment
names = environment_of (doing_with (CStmt.Block (record { token = 0; line = 1 }) CStmts.none)) (main_function locals CStmts.none)

-- the statement of a typed one keeps the rules
statement : (x : CStmt) → Typed (doing_with x) → IsStmt names false x
statement x typed = (All-head (IsFunction (doing_with x)) _ (procedure ∷ []) typed.functions).body.0

-- its expression does
formed : (t : CType) (form : CForm) → Typed (evaluating t form) → IsForm names t form
formed t form typed = (statement _ typed).0.1

-- the first function of a typed program, and the second
first : (f : CFunction) (fs : List CFunction) → Typed (program_with (f ∷ fs)) → IsFunction (program_with (f ∷ fs)) f
first f fs typed = All-head (IsFunction (program_with (f ∷ fs))) f fs typed.functions

second : (f g : CFunction) → Typed (program_with (f ∷ g ∷ [])) → IsFunction (program_with (f ∷ g ∷ [])) g
second f g typed =
    All-head (IsFunction (program_with (f ∷ g ∷ []))) g [] (All-tail (IsFunction (program_with (f ∷ g ∷ []))) f (g ∷ []) typed.functions)

-- the local of a typed `main` with one
local_is : (l : CLocal) (typed : Typed (with_local l)) → IsLocalObject (with_local l) (main_function (l ∷ []) (return_number 0)) 0 l
local_is l typed = (first _ [] typed).locals 0 l refl

-- `main` gives an int
main_gives : (f g : CFunction) → Some f ≡ Some g → g.result ≡ CType.Int → f.result ≡ CType.Int
main_gives f g found gives = let same : f ≡ g = cc in ap (λ (x : CFunction). x.result) same ∙ gives

member_at_one : (k : ℕ) (t : CType) → CType.Struct 0 ≡ CType.Struct k → member_at structs k 1 ≡ Some t → ⊥
member_at_one k t of found = let same : 0 ≡ k = cc in let none : member_at structs 0 1 ≡ Some t = subst (λ j. member_at structs j 1 ≡ Some t) (sym same) found in cc

-- the arguments fit a prototype that is found
given_to : (es : CExprs) (p q : Prototype) → Some p ≡ Some q → AreGiven q.params es → AreGiven p.params es
given_to es p q found given = let same : q ≡ p = cc in subst (λ (x : Prototype). AreGiven x.params es) same given

braced : (t : CType) (at : At) (parts : CInitials) → t ≡ CType.Int → IsInitialized names t (CInitial.Braces at parts) → ⊥
braced t at parts is (IsInitialized.parts value) = let wrong : is_array CType.Int || is_struct CType.Int ≡ true = rw is at value.0 in cc

two_parts : (t : CType) (at : At) (x y : CInitial) → t ≡ CType.Struct 0 → IsInitialized names t (CInitial.Braces at (CInitials.more x (CInitials.more y CInitials.none))) → ⊥
two_parts t at x y is (IsInitialized.parts value) =
    let u = value.1.1.0.0 in
    let wrong : part_type structs (CType.Struct 0) 1 ≡ Some u = subst (λ x. part_type structs x 1 ≡ Some u) is value.1.1.0.1 in cc

too_great : {p : CProgram} {name : List ℕ} {t : CType} {size : ℕ} → IsGlobalObject p (record { name = name; ty = t; size = size; initial = Byte 256 ∷ [] }) → ⊥
too_great {p} is = let small : 256 < 256 = All-head (IsInitialByte p) (Byte 256) [] is.initial in omega arith

found_type : (t u : CType) → Some t ≡ Some u → u ≡ t
found_type t u found = cc

pub not_typed : NotTyped
not_typed = record {
  incomplete_local = λ typed. let complete = (local_is _ typed).complete in cc;
  void_measured = λ typed. let form = formed _ _ typed in cc form.1;
  struct_result = λ typed. elim (second _ _ typed).result as (λ _. ⊥) [ IsResult.nothing is ↦ cc | IsResult.scalar is ↦ cc ];
  struct_parameter = λ typed. let scalar = All-head (λ (l : CLocal). IsTrue (is_scalar l.ty)) _ [] (second _ _ typed).params in cc;
  nine_parameters = λ typed. let few = (second _ _ typed).params_few in omega arith;
  empty_array = λ typed. let some = (local_is _ typed).type.2 in omega arith;
  unsigned_main = λ typed. cc (main_gives _ typed.main.function typed.main.found typed.main.result);
  number_set = λ typed. elim (formed _ _ typed).2 as (λ _. ⊥) [ IsSet.scalar assignable given same ↦ cc assignable.place | IsSet.struct assignable copied same ↦ cc assignable.place ];
  number_referred = λ typed. cc ((formed _ _ typed).1.place);
  array_set = λ typed. elim (formed _ _ typed).2 as (λ _. ⊥) [ IsSet.scalar assignable given same ↦ cc assignable.no_array | IsSet.struct assignable copied same ↦ cc assignable.no_array ];
  array_stepped = λ typed. cc ((formed _ _ typed).1.assignable.no_array);
  pointer_multiplied = λ typed. cc ((formed _ _ typed).2.left_number);
  pointer_negated = λ typed. cc ((formed _ _ typed).1.operand.0);
  pointer_masked = λ typed. cc ((formed _ _ typed).2.left_number);
  void_pointer_moved = λ typed. elim (formed _ _ typed).2 as (λ _. ⊥) [ AreAdded.numbers common ↦ cc common.left_number | AreAdded.pointer_and_number moved ↦ cc moved.complete | AreAdded.number_and_pointer moved ↦ cc moved.distance.0 ];
  pointer_subtracted = λ typed. elim (formed _ _ typed).2 as (λ _. ⊥) [ AreSubtracted.numbers common ↦ cc common.right_number | AreSubtracted.pointer_and_number moved ↦ moved.complete | AreSubtracted.pointers apart ↦ cc apart.one_type ];
  pointers_subtracted = λ typed. elim (formed _ _ typed).2 as (λ _. ⊥) [ AreSubtracted.numbers common ↦ cc common.right_number | AreSubtracted.pointer_and_number moved ↦ cc moved.distance.0 | AreSubtracted.pointers apart ↦ cc apart.one_type ];
  void_pointer_stepped = λ typed. elim (formed _ _ typed).1.steps as (λ _. ⊥) [ CanStep.number is ↦ cc | CanStep.pointer complete ↦ cc ];
  pointer_below_number = λ typed. elim (formed _ _ typed).2.0 as (λ _. ⊥) [ AreOrdered.numbers u common ↦ cc common.left_number | AreOrdered.pointers left right is same ↦ cc ];
  pointers_ordered = λ typed. elim (formed _ _ typed).2.0 as (λ _. ⊥) [ AreOrdered.numbers u common ↦ cc common.left_number | AreOrdered.pointers left right is same ↦ cc ];
  pointers_equated = λ typed. elim (formed _ _ typed).2.0 as (λ _. ⊥) [ AreEquated.numbers u common ↦ cc common.left_number | AreEquated.pointers u meeting ↦ cc meeting.meeting ];
  pointer_set_to_number = λ typed. elim (formed _ _ typed).2 as (λ _. ⊥) [ IsSet.scalar assignable given same ↦ cc given.0 | IsSet.struct assignable copied same ↦ cc copied.struct ];
  pointer_converted = λ typed. cc ((formed _ _ typed).1.1.1.4);
  number_cast_to_pointer = λ typed. elim (formed _ _ typed).1.allowed as (λ _. ⊥) [ MayCast.to_void is ↦ cc | MayCast.numbers from to ↦ cc | MayCast.pointers from to ↦ cc | MayCast.null is to ↦ cc ];
  pointer_cast_to_number = λ typed. elim (formed _ _ typed).1.allowed as (λ _. ⊥) [ MayCast.to_void is ↦ cc | MayCast.numbers from to ↦ cc | MayCast.pointers from to ↦ cc | MayCast.null is to ↦ cc ];
  struct_cast = λ typed. elim (formed _ _ typed).1.allowed as (λ _. ⊥) [ MayCast.to_void is ↦ cc | MayCast.numbers from to ↦ cc | MayCast.pointers from to ↦ cc | MayCast.null is to ↦ cc ];
  void_followed = λ typed. cc ((formed _ _ typed).1.complete);
  number_followed = λ typed. cc ((formed _ _ typed).1.to);
  pointer_as_index = λ typed. cc ((formed _ _ typed).2.distance.0);
  no_member = λ typed. member_at_one (formed _ _ typed).1.struct _ (formed _ _ typed).1.of (formed _ _ typed).1.found;
  number_with_member = λ typed. cc ((formed _ _ typed).1.of);
  struct_negated = λ typed. cc ((formed _ _ typed).1.0.scalar);
  struct_tested = λ typed. cc ((statement _ typed).0.1.scalar);
  unlike_alternatives = λ typed. elim (formed _ _ typed).4 as (λ _. ⊥) [ AreAlternatives.numbers common ↦ cc common.right_number | AreAlternatives.pointers meeting ↦ cc meeting.meeting | AreAlternatives.voids left right is ↦ cc ];
  struct_alternatives = λ typed. elim (formed _ _ typed).4 as (λ _. ⊥) [ AreAlternatives.numbers common ↦ cc common.right_number | AreAlternatives.pointers meeting ↦ cc meeting.meeting | AreAlternatives.voids left right is ↦ cc ];
  argument_missing = λ typed. let call = (formed _ _ typed).1 in given_to _ _ call.prototype call.found call.given;
  argument_too_many = λ typed. let call = (formed _ _ typed).1 in (given_to _ _ call.prototype call.found call.given).1;
  break_outside = λ typed. cc (statement _ typed);
  continue_outside = λ typed. cc (statement _ typed);
  returns_nothing = λ typed. cc ((statement _ typed).1);
  void_set = λ typed. elim (formed _ _ typed).2 as (λ _. ⊥) [ IsSet.scalar assignable given same ↦ cc given.0 | IsSet.struct assignable copied same ↦ cc copied.struct ];
  void_cast = λ typed. elim (formed _ _ typed).1.allowed as (λ _. ⊥) [ MayCast.to_void is ↦ cc | MayCast.numbers from to ↦ cc | MayCast.pointers from to ↦ cc | MayCast.null is to ↦ cc ];
  void_returned = λ typed. cc ((statement _ typed).1.0);
  braces_for_number = λ typed. let declared = statement _ typed in braced declared.type _ _ (found_type _ _ declared.found) declared.initialized;
  parts_too_many = λ typed. let declared = statement _ typed in two_parts declared.type _ _ _ (found_type _ _ declared.found) declared.initialized;
  struct_set_to_comma = λ typed. elim (formed _ _ typed).2 as (λ _. ⊥) [ IsSet.scalar assignable given same ↦ cc given.1 | IsSet.struct assignable copied same ↦ cc copied.place ];
  char_as_it_is = λ typed. elim (formed _ _ typed).2 as (λ _. ⊥) [ AreAdded.numbers common ↦ cc common.right | AreAdded.pointer_and_number moved ↦ moved.complete | AreAdded.number_and_pointer moved ↦ moved.complete ];
  array_as_it_is = λ typed. elim (formed _ _ typed).2 as (λ _. ⊥) [ AreAdded.numbers common ↦ cc common.left_number | AreAdded.pointer_and_number moved ↦ moved.complete | AreAdded.number_and_pointer moved ↦ moved.complete ];
  block_missed = λ typed. let block = ((first _ (procedure ∷ []) typed).locals 0 _ refl).is_block in cc;
  number_too_great = λ typed. let small = (formed _ _ typed).1 in omega arith;
  byte_too_great = λ typed. too_great (All-head (IsGlobalObject _) _ [] typed.globals);
}

pub lines_count : LinesCount
lines_count = (
  All-cons (λ (f : CFunction). IsTrue (is_line f.line && stmt_on_lines f.body)) (main_function [] (return_number 42)) [] refl (All-nil _),
  λ lines. let on = All-head (λ (f : CFunction). IsTrue (is_line f.line && stmt_on_lines f.body)) _ [] lines in cc,
  λ lines. let on = All-head (λ (f : CFunction). IsTrue (is_line f.line && stmt_on_lines f.body)) _ [] lines in cc,
)
