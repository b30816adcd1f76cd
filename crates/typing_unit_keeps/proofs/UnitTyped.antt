-- The program of a file whose text is read keeps the rules of typing.
use Rattle.std.proofs.Common.{◌≡◌, ℕ, zero, suc, ◌<◌, Bool, true, false, not, ◌&&◌, List, [], ◌∷◌, refl, sym, ◌∙◌, ap, subst, arith}
use Rattle.std.specs.Prelude.{Option, Some, None, Ok, Err, All, codes, slice_get, if◌then◌else◌}
use Rattle.std.proofs.lemmas.List.Elements.{All-nil, All-weaker}
use Rattle.typed_tree.specs.TypedTree.{CGlobal, CFunction, CProgram}
use Rattle.typed_tree.specs.Typed.{IsStruct, IsGlobalObject, IsFunction, IsString, IsMain, Typed}
use Rattle.typing_operators.specs.Rule.{Rule}
use Rattle.typing_expressions.specs.Names.{found}
use Rattle.typing_expressions.specs.Scene.{CEntry, CDeclared}
use Rattle.typing_unit_keeps.specs.Units.{CFile, CDefinitions, is_main, definitions, externals, undefined, all_defined, main_or_none, empty_file, finished_file}
use Rattle.typing_unit_keeps.specs.Laws.{FilesAreTyped}
use Rattle.typing_unit_keeps.proofs.Steps.{bound, same_ok, All-slice_get}
use Rattle.typing_unit_keeps.proofs.Scenes.{IsEntry, IsDeclared, IsDraft, IsNamed, Formed, StandsAs}
use Rattle.typing_unit_keeps.proofs.Later.{extends_same}
use Rattle.typing_unit_keeps.proofs.Laid.{are_ranked, none_ordered}
use Rattle.typing_unit_keeps.proofs.FoundNames.{name_itself}
use Rattle.typing_unit_keeps.proofs.Files.{global_types, HasNumber, IsThere, IsKnown, IsFile, EndsIn, IsDefinition}
use Rattle.typing_unit_keeps.proofs.GlobalObjects.{Laws}
use Rattle.typing_unit_keeps.proofs.Numbering.{function_numbered}
use Rattle.typing_unit_keeps.proofs.Externals.{IsRead, externals_advance}

-- nothing is declared at first
empty_formed : Formed empty_file.scene
empty_formed = record {
  structs = All-nil (IsStruct []);
  tags = All-nil (λ e. e.1 < 0);
  names = All-nil (λ e. IsEntry [] e.1);
  functions = All-nil (IsDeclared []);
  called = refl;
  locals = All-nil (IsDraft []);
  scopes = All-nil (λ names. All (IsNamed []) names);
}

empty_is_file : (numbers : CDefinitions) → IsFile numbers empty_file
empty_is_file numbers = record {
  scene = empty_formed;
  ordered = none_ordered;
  entries = All-nil (IsThere [] []);
  numbered = All-nil (HasNumber numbers);
  defined = λ k d there is_defined. absurd cc;
  known = All-nil (λ (fn : CFunction). IsKnown empty_file.scene fn.name);
  texts = All-nil IsString;
  few = omega arith;
}

-- each function that is called is defined
called_defined : (fs : List CDeclared) (called : List Bool) (k : ℕ) (d : CDeclared) → undefined fs called ≡ None → slice_get fs k ≡ Some d → slice_get called k ≡ Some true → d.is_defined ≡ true
called_defined [] called k d none there flag = absurd cc
called_defined (f ∷ fs) [] k d none there flag = absurd cc
called_defined (f ∷ fs) (c ∷ cs) zero d none there flag =
    ap (λ (e : CDeclared). e.is_defined) (sym (same f d there)) ∙ by c f.is_defined (same_flag c flag) none
  where
    same : (e d : CDeclared) → Some e ≡ Some d → e ≡ d
    same e d h = cc

    same_flag : (c : Bool) → Some c ≡ Some true → c ≡ true
    same_flag c h = cc

    by : (c b : Bool) → c ≡ true → (if c && not b then Some f else undefined fs cs) ≡ None → b ≡ true
    by true true is h = refl
    by true false is h = absurd cc
    by false b is h = absurd cc
called_defined (f ∷ fs) (c ∷ cs) (suc k) d none there flag = called_defined fs cs k d (rest (c && not f.is_defined) none) there flag
  where
    rest : (b : Bool) → (if b then Some f else undefined fs cs) ≡ None → undefined fs cs ≡ None
    rest true h = absurd cc
    rest false h = h

defined_all : (o : Option CDeclared) (u : Unit {0}) → all_defined o ≡ Ok u → o ≡ None
defined_all None u h = refl
defined_all (Some f) u h = absurd cc

main_found : (o : Option ℕ) (k : ℕ) → main_or_none o ≡ Ok k → o ≡ Some k
main_found None k h = absurd cc
main_found (Some n) k h = ap (λ r. number r) h
  where
    number : Rule ℕ → Option ℕ
    number (Ok n) = Some n
    number (Err e) = None

-- the program of a file
abbrev program_of : CFile → ℕ → CProgram
program_of f main = record { structs = f.scene.structs; globals = f.globals; texts = f.scene.texts; functions = f.functions; main = main }

stands_as : (globals : List CGlobal) (functions : List CDeclared) (e : List ℕ × CEntry) → IsThere globals functions e → StandsAs (global_types globals) e.1
stands_as globals functions (x, CEntry.Object n t) h = h
stands_as globals functions (x, CEntry.Function k) h = tt

-- it ends the file's own scene
ends_itself : (numbers : CDefinitions) (f : CFile) (main : ℕ) → IsFile numbers f → undefined f.scene.functions f.scene.called ≡ None → EndsIn (program_of f main) f.scene
ends_itself numbers f main is none = record {
  extends = extends_same f.scene.structs;
  objects = All-weaker (IsThere f.globals f.scene.functions) (λ e. StandsAs (global_types f.globals) e.1) (stands_as f.globals f.scene.functions) f.scene.names is.entries;
  texts = λ k x h. h;
  functions = λ k d there flag. is.defined k d there (called_defined f.scene.functions f.scene.called k d none there flag);
}

main_named : is_main (codes "main") ≡ true
unfolding is_main
main_named = name_itself (codes "main")

module _ (numbers : CDefinitions) (f : CFile) (main : ℕ) (read : IsRead numbers empty_file f) (none : undefined f.scene.functions f.scene.called ≡ None) (found_main : found (codes "main") numbers ≡ Some main) where
  abbrev p : CProgram
  p = program_of f main

  is : IsFile numbers f
  is = read.advances.is_file

  ends : EndsIn p f.scene
  ends = ends_itself numbers f main is none

  all_functions : All (IsDefinition p) f.functions
  all_functions = subst (All (IsDefinition p)) (sym read.advances.all_functions) (read.advances.are_functions p ends)

  main_is : IsMain p
  main_is =
      let at = function_numbered f.functions main (codes "main") (ap (found (codes "main")) (sym read.numbers_are) ∙ found_main) in
      let definition = All-slice_get (IsDefinition p) f.functions main at.0 all_functions at.1 in
      let fits = definition.main (ap is_main at.2 ∙ main_named) in
      record { function = at.0; found = at.1; name = at.2; result = fits.0; params = fits.1 }

  is_typed : Typed p
  is_typed = record {
    structs = is.scene.structs;
    ranked = are_ranked f.scene.structs is.ordered;
    globals = subst (All (IsGlobalObject p)) (sym read.advances.all_globals) (read.advances.are_globals p ends);
    texts = is.texts;
    functions = All-weaker (IsDefinition p) (IsFunction p) (λ fn definition. definition.function) f.functions all_functions;
    functions_few = is.few;
    main = main_is;
  }

pub files_are_typed : Laws → FilesAreTyped
files_are_typed laws u p range h =
    let numbers = definitions [] u.externals in
    let f = bound (externals numbers empty_file u.externals) (λ f. finished_file numbers f) p h in
    let read = externals_advance laws numbers empty_file u.externals f.0 (empty_is_file numbers) range.1 refl f.1 in
    let all = bound (all_defined (undefined f.0.scene.functions f.0.scene.called)) _ p f.2 in
    let main = bound (main_or_none (found (codes "main") numbers)) _ p all.2 in
    subst Typed (same_ok _ p main.2) (is_typed numbers f.0 main.0 read (defined_all _ all.0 all.1) (main_found _ main.0 main.1))
