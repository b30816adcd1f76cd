-- The functions of flat code, and the one that is called first.
use Rattle.std.specs.Prelude.{map, slice_get}
use Rattle.std.proofs.Common.{◌≡◌, ℕ, zero, suc, ◌+◌, ◌<◌, ◌≤◌, true, List, [], ◌∷◌, length, Option, Some, None, refl, sym, ap, ◌∙◌, subst, arith}
use Rattle.std.proofs.lemmas.Bool.{and_parts}
use Rattle.std.proofs.lemmas.List.{length-map}
use Rattle.std.proofs.lemmas.Option.{none-some, same_Some, slice_get-map, slice_get_within}
use Rattle.std.specs.Option.{option_map}
use Rattle.typed_tree.specs.TypedTree.{CProgram}
use Rattle.typed_tree.specs.Typed.{Typed}
use Rattle.mid_code.specs.Code.{Function, Program}
use Rattle.mid_code.specs.Kinds.{Signature}
use Rattle.mid_code.specs.Formed.{IsCallOf, IsFunction, AreFunctions, Formed}
use Rattle.flat_discipline.specs.Laws.{PlainItemsAreRead}
use Rattle.bounds_instr_code.specs.Built.{is_none}
use Rattle.lowering_code.specs.Lower as lower
use Rattle.lowering_code.specs.Lower.{lowered}
use Rattle.bounds_instr_code.specs.Code.{code, function_code, instrumented}
use Rattle.select_scope.specs.Fits.{FunctionsFit, HasMain, FitItems, FitsFunction, params_of}
use Rattle.number_code.specs.Laws.{CodeFits}
use Rattle.number_code.proofs.OfNumbers.{functions_of_numbers, body_of}
use Rattle.number_code.proofs.CodeNumbers.{code_numbers}
use Rattle.number_code.proofs.FlatItems.{plain_is_read}
use Rattle.number_code.proofs.FitCode.{good_steps}

formed_at : (p : Program) (all : List Signature) (fs : List Function) (ss : List Signature) → AreFunctions p all fs ss → (k : ℕ) (f : Function) → slice_get fs k ≡ Some f → (s : Signature) × IsFunction p all f s
formed_at p all [] ss h k f e = absurd (none-some f e)
formed_at p all (x ∷ fs) [] h k f e = absurd h
formed_at p all (x ∷ fs) (s ∷ ss) h zero f e = (s, subst (λ y. IsFunction p all y s) (same_Some x f e) h.0)
formed_at p all (x ∷ fs) (s ∷ ss) h (suc k) f e = formed_at p all fs ss h.1 k f e

-- what is found in mid code is found in its flat code
found_in : (g : ℕ) (p : Program) (k : ℕ) (f : Function) → slice_get p.functions k ≡ Some f → slice_get (map (function_code g) p.functions) k ≡ Some (function_code g f)
found_in g p k f e = slice_get-map (function_code g) p.functions k ∙ ap (option_map (function_code g)) e

-- ---- The functions

module _ (p : Program) (formed : Formed p) (numbers : functions_of_numbers p.functions ≡ true) (read : PlainItemsAreRead) where
  abbrev params : ℕ → Option ℕ
  params k = params_of (slice_get (map (function_code 4) p.functions) k)

  formed_as : (k : ℕ) (f : Function) → slice_get p.functions k ≡ Some f → (s : Signature) × IsFunction p formed.signatures f s
  formed_as k f e = formed_at p formed.signatures p.functions formed.signatures formed.functions k f e

  calls : (k : ℕ) (args : List ℕ) → IsCallOf p k args → (params k ≡ Some (length args)) × (length args ≤ 8)
  calls k args (h, found, e) = (ap params_of (found_in 4 p k h found) ∙ ap Some (sym e), omega (arith, e, (formed_as k h found).1.params))

  function_fits : (k : ℕ) (f : Function) → slice_get p.functions k ≡ Some f → k < 1000 → FitsFunction params k (function_code 4 f)
  function_fits k f found few =
      let is = (formed_as k f found).1 in
      let good = good_steps p f params calls 4 f.body 0 (body_of p.functions numbers k f found) is.ranges in
      record {
        values = omega (arith, is.values);
        few = is.params;
        within = omega (arith, is.params_are_values);
        line = is.line.0;
        small = omega (arith, is.line.1);
        number_is = omega (arith, few);
        items = subst (FitItems (f.values + 5) params 0) (sym (plain_is_read 4 read (code 4 f.values f.body) good.1)) good.0;
      }

  functions_fit : length p.functions ≤ 1000 → FunctionsFit (instrumented 4 p)
  functions_fit few number fn e = of (slice_get p.functions number) refl (sym (slice_get-map (function_code 4) p.functions number) ∙ e)
    where
      of : (o : Option Function) → slice_get p.functions number ≡ o → option_map (function_code 4) o ≡ Some fn → FitsFunction params number fn
      of None found h = absurd (none-some fn h)
      of (Some f) found h =
          subst (FitsFunction params number) (same_Some (function_code 4 f) fn h)
          (function_fits number f found (let within = slice_get_within p.functions number f found in omega (arith, few, within)))

pub code_fit : PlainItemsAreRead → CodeFits
code_fit read p typed built formed =
    let parts = and_parts (is_none (lowered p).globals) (functions_of_numbers (lowered p).functions) (code_numbers p built) in
    functions_fit (lowered p) formed parts.1 read (subst (λ n. n ≤ 1000) (sym (length-map p.functions (lower.function_code p.structs))) typed.functions_few)

-- ---- The first function that is called

pub main_fit : (g : ℕ) (p : CProgram) → Typed p → HasMain (instrumented g (lowered p))
main_fit g p typed =
    let main = typed.main in
    let f = lower.function_code p.structs main.function in
    record {
      main = function_code g f;
      main_is = found_in g (lowered p) p.main f (slice_get-map (lower.function_code p.structs) p.functions p.main ∙ ap (option_map (lower.function_code p.structs)) main.found);
      no_params = main.params;
    }
