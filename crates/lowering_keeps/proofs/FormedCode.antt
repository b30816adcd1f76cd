-- The code of a program of numbers is well formed.
use Rattle.std.specs.Prelude.{◌&&◌, IsTrue, All, map, slice_get, replicate, slice_index_or}
use mathlib.Core.Path.{fun_ext}
use Rattle.std.proofs.Common.{◌≡◌, ℕ, zero, suc, ◌+◌, ◌≤◌, true, false, List, [], ◌∷◌, ◌++◌, length, Some, refl, sym, ap, ◌∙◌, subst, arith}
use Rattle.std.proofs.lemmas.Bool.{true≢false, and_parts}
use Rattle.std.proofs.lemmas.List.{length-replicate}
use Rattle.std.proofs.lemmas.List.Elements.{All-nil, All-replicate}
use Rattle.std.proofs.lemmas.Option.{slice_get-map}
use Rattle.std.specs.Option.{option_map}
use Rattle.block_layout.specs.Objects.{globals_of}
use Rattle.typed_tree.specs.TypedTree.{CFunction, CProgram}
use Rattle.typed_tree.specs.Counts.{values_of}
use Rattle.typed_tree.specs.Typed.{Typed, IsFunction as IsTypedFunction, HasLines, is_line, stmt_on_lines}
use Rattle.typed_tree.specs.TypedLaws.{TypesAreSmall, AggregatesHaveObjects, TempsAtLeastFour}
use Rattle.mid_code.specs.Code.{Program}
use Rattle.mid_code.specs.Kinds.{IsNumber, Unknown, AreKinds}
use Rattle.mid_code.specs.Formed.{Formed, IsFunction, first_kinds, IsStored, AreFunctions, AreRising, AreAllOnce, IsCallOf, all_sites, sites_of_functions}
use Rattle.lowering_counts.specs.Built.{is_built, is_empty, are_built_structs, are_built_functions}
use Rattle.lowering_code.specs.Lower.{function_code, lowered}
use Rattle.lowering_keeps.proofs.Fits.{Takes, gives, ProgramFits}
use Rattle.lowering_code.proofs.KeptLocals.{AreKept, kept_values, kept_blocks, empty_is, nothing_stored}
use Rattle.lowering_keeps.proofs.FromTyped.{all_get, found_image, from_typed}
use Rattle.lowering_keeps.proofs.Reckoning.{numbers, known, signature, AllReckon, all_in_range, no_sites_in, all_kinds}
use Rattle.lowering_keeps.proofs.Reckoned.{line_is, good_stmt}

-- ---- Functions

module _ (p : CProgram) (fits : ProgramFits p) (few : (i : ℕ) (f : CFunction) → slice_get p.functions i ≡ Some f → f.params ≤ 8) (room : (i : ℕ) (f : CFunction) → slice_get p.functions i ≡ Some f → values_of f ≤ 250) (lines : (i : ℕ) (f : CFunction) → slice_get p.functions i ≡ Some f → (is_line f.line && stmt_on_lines f.body) ≡ true) (four : TempsAtLeastFour) where
  abbrev q : Program
  q = lowered p

  coded : (i : ℕ) (f : CFunction) → slice_get p.functions i ≡ Some f → slice_get q.functions i ≡ Some (function_code p.structs f)
  coded i f e = slice_get-map (function_code p.structs) p.functions i ∙ ap (option_map (function_code p.structs)) e

  calls : (i n : ℕ) (args : List ℕ) → Takes p.functions i n → length args ≡ n → IsCallOf q i args
  calls i n args takes count = (function_code p.structs takes.0, coded i takes.0 takes.1, count ∙ takes.2)

  kept : (i : ℕ) (f : CFunction) → slice_get p.functions i ≡ Some f → AreKept f.locals
  kept i f e j l found = ((fits.each i f e).kept j l found).0

  reckons : (i : ℕ) (f : CFunction) → slice_get p.functions i ≡ Some f → AllReckon q (function_code p.structs f) 0 (function_code p.structs f).body
  reckons i f e =
      let fit = fits.each i f e in
      let values = kept_values f.params f.locals (kept i f e) fit.params in (
        good_stmt q (function_code p.structs f) p.structs p.functions (length f.locals) four (omega (arith, values)) calls (gives f.result) false f.body fit.body
            (and_parts (is_line f.line) (stmt_on_lines f.body) (lines i f e)).1 1 1 (omega arith) (omega arith) (λ h. absurd (true≢false (sym h))) (omega (arith, values)),
        tt,
      )

  formed_function : (i : ℕ) (f : CFunction) → slice_get p.functions i ≡ Some f → IsFunction q (map signature q.functions) (function_code p.structs f) (signature (function_code p.structs f))
  formed_function i f e =
      let fit = fits.each i f e in
      let values = kept_values f.params f.locals (kept i f e) fit.params in
      let code = function_code p.structs f in
      let good = reckons i f e in
      record {
        line = line_is f.line (and_parts (is_line f.line) (stmt_on_lines f.body) (lines i f e)).0;
        values = room i f e;
        params = few i f e;
        params_are_values = omega (arith, values);
        blocks = subst (AreRising 0) (sym (kept_blocks 0 f.locals (kept i f e))) tt;
        ranges = all_in_range q code 0 code.body good;
        signature = length-replicate f.params IsNumber;
        known = All-replicate (λ k. k ≡ Unknown → ⊥) f.params IsNumber known;
        gives = known;
        last = numbers;
        kinds = subst (λ z. AreKinds (map signature q.functions) IsNumber code.body z numbers []) (sym (first_is f.params)) (all_kinds q code 0 code.body good);
        end = λ h. refl;
      }
    where
      at : (n v : ℕ) → slice_index_or (replicate n IsNumber) v IsNumber ≡ IsNumber
      at zero v = refl
      at (suc n) zero = refl
      at (suc n) (suc v) = at n v

      first_is : (n : ℕ) → first_kinds (record { params = replicate n IsNumber; result = IsNumber }) ≡ numbers
      first_is n = fun_ext (λ v. at n v)

  -- ---- The program

  all_formed : (fs : List CFunction) → ((i : ℕ) (f : CFunction) → slice_get fs i ≡ Some f → IsFunction q (map signature q.functions) (function_code p.structs f) (signature (function_code p.structs f))) → AreFunctions q (map signature q.functions) (map (function_code p.structs) fs) (map signature (map (function_code p.structs) fs))
  all_formed [] each = tt
  all_formed (f ∷ fs) each = (each 0 f refl, all_formed fs (λ i x e. each (suc i) x e))

  none_sited : (fs : List CFunction) → ((i : ℕ) (f : CFunction) → slice_get fs i ≡ Some f → all_sites (function_code p.structs f).body ≡ []) → sites_of_functions (map (function_code p.structs) fs) ≡ []
  none_sited [] each = refl
  none_sited (f ∷ fs) each = ap (λ z. z ++ sites_of_functions (map (function_code p.structs) fs)) (each 0 f refl) ∙ none_sited fs (λ i x e. each (suc i) x e)

  program_formed : globals_of p ≡ [] → length p.globals ≡ 0 → Formed q
  program_formed none no_names = record {
    named = omega (arith, no_names);
    globals = subst (All (IsStored q)) (sym none) (All-nil (IsStored q));
    signatures = map signature q.functions;
    functions = all_formed p.functions formed_function;
    sites = subst AreAllOnce (sym (none_sited p.functions (λ i f e. no_sites_in q (function_code p.structs f) 0 (function_code p.structs f).body (reckons i f e)))) (λ n lt. absurd (omega (arith, lt)));
    main = function_code p.structs fits.main.0;
    main_found = coded p.main fits.main.0 fits.main.1;
    main_params = sym fits.main.2;
    main_result = λ s e. let image = found_image signature q.functions p.main s e in sym (ap (λ z. z.result) image.2);
  }

pub code_formed : (p : CProgram) → TypesAreSmall → AggregatesHaveObjects → TempsAtLeastFour → Typed p → HasLines p → is_built p ≡ true → All (λ f. values_of f ≤ 250) p.functions → Formed (lowered p)
code_formed p small objects four typed lines built room =
    let empty = and_parts (is_empty p.globals) (is_empty p.texts) (and_parts (is_empty p.globals && is_empty p.texts) (are_built_structs p.structs) (and_parts (is_empty p.globals && is_empty p.texts && are_built_structs p.structs) (are_built_functions p.functions) built).0).0 in
    let no_globals = empty_is p.globals empty.0 in
    let no_texts = empty_is p.texts empty.1 in
    program_formed p (from_typed p small objects typed built)
    (λ i f e. (all_get (IsTypedFunction p) p.functions i f typed.functions e).params_few)
    (λ i f e. all_get (λ f. values_of f ≤ 250) p.functions i f room e)
    (λ i f e. all_get (λ f. IsTrue (is_line f.line && stmt_on_lines f.body)) p.functions i f lines e)
    four
    (nothing_stored p no_globals no_texts)
    (ap length no_globals)
