-- The functions of a program, one after another: their sheets, and the first that breaks the discipline.
use Rattle.std.proofs.Common.{◌≡◌, ◌<◌, ◌≤◌, ℕ, zero, suc, ◌+◌, ◌*◌, List, [], ◌∷◌, ◌++◌, Option, Some, None, Bool, true, refl, sym, ap, ◌∙◌, subst, arith, length, get_or, drop, map, append_assoc}
use Rattle.std.specs.Prelude.{slice_get}
use Rattle.std.proofs.lemmas.List.{at_drop_more, drop_all, map-append, append-nil}
use Rattle.size_table.specs.Blocks.{Block}
use Rattle.flat_code.specs.declared.code.FlatFunction.{FlatFunction}
use Rattle.flat_code.specs.Code.{FFunction, FCode}
use Rattle.flat_code.specs.CodeViews.{function_of, steps_of}
use Rattle.flat_verify.specs.declared.sheets.Sheet.{Sheet as SheetWritten}
use Rattle.flat_discipline.specs.Closed.{Known}
use Rattle.flat_discipline.specs.Discipline.{setting_in, setting, StepIndex, FirstBad, FirstBreak}
use Rattle.flat_discipline.specs.Laws.{BreaksByTable}
use Rattle.flat_verify.specs.Reach.{Reached, is_marked}
use Rattle.flat_discipline.specs.Items.{items_of}
use Rattle.flat_verify.specs.Links.{OfEach, Demand, body_links}
use Rattle.flat_verify.specs.Outline.{HasRange}
use Rattle.flat_verify.specs.Sheets.{Sheet, width, all_rules, asks, gives, known, Stands, InPlaces, IsSheet, AreSheets}
use Rattle.flat_verify.specs.SheetViews.{sheet_of}
use Rattle.flat_verify.specs.Verdict.{function_demands, first_unmet}
use Rattle.flat_discipline.proofs.Breaks.{exact_tables_tell}
use Rattle.flat_verify.proofs.Exact.{same_function, exact}
use Rattle.flat_verify.proofs.Outlined.{all_covered}
use Rattle.flat_verify.proofs.Firsts.{NoneBefore, one_further, found_first, no_main, none_bad}

next_in : {X Y : Type 0} (G : List X → Y) (xs : List X) (i : ℕ) (x : X) → i < length xs → x ≡ get_or xs i x → G (drop i xs) ≡ G (x ∷ drop (i + 1) xs)
next_in G xs i x lt is = at_drop_more G xs i x lt ∙ ap (λ z. G (z ∷ drop (i + 1) xs)) (sym is)

pub mapped_at : (xs : List FlatFunction) (f : ℕ) (x : FlatFunction) → f < length xs → x ≡ get_or xs f x → slice_get (map function_of xs) f ≡ Some (function_of x)
mapped_at [] f x l is = absurd (let z : ⊥ = omega (arith, l) in z)
mapped_at (y ∷ ys) zero x l is = ap (λ z. Some (function_of z)) (sym is)
mapped_at (y ∷ ys) (suc f) x l is = mapped_at ys f x (omega (arith, l)) is

element : (xs : List FlatFunction) (f : ℕ) → f < length xs → (x : FlatFunction) × (x ≡ get_or xs f x)
element [] f l = absurd (let z : ⊥ = omega (arith, l) in z)
element (y ∷ ys) zero l = (y, refl)
element (y ∷ ys) (suc f) l = element ys f (omega (arith, l))

module _ (g : ℕ) (globals : List Block) (functions : List FFunction) where
  -- the function of a number has the setting of that number
  pub first_same : (f number main : ℕ) (fn x : FFunction) (T : ℕ → Known) (o : Option ℕ) (ds : List Demand) → slice_get functions f ≡ Some x → number ≡ f
      → ds ≡ function_demands g (setting_in globals functions (Some x)) main number x → o ≡ first_unmet T None ds
      → slice_get functions f ≡ Some fn → o ≡ first_unmet T None (function_demands g (setting g globals functions f) main f fn)
  first_same f number main fn x T o ds at n is first here =
      first ∙ ap (first_unmet T None)
      (is ∙ ap (λ k. function_demands g (setting_in globals functions (Some x)) main k x) n ∙ ap (λ s. function_demands g (setting_in globals functions s) main f x) (sym at)
      ∙ ap (λ y. function_demands g (setting g globals functions f) main f y) (same_function x fn (sym at ∙ here)))

  -- ---- Sheets

  -- the sheets so far, and then those of the functions that are left, are all
  pub record Drawn (total f : ℕ) (left all : List FlatFunction) (sheets : List SheetWritten) : Type 0 where
    pub are : (ss : List Sheet) → AreSheets g globals functions f (map function_of left) ss → AreSheets g globals functions 0 (map function_of all) (map sheet_of sheets ++ ss)
    pub stands : (ss : List Sheet) (end : ℕ) → Stands total ss end → Stands (length all + 1) (map sheet_of sheets ++ ss) end
    pub count : length sheets ≡ f

  pub none_drawn : (total : ℕ) (all : List FlatFunction) (sheets : List SheetWritten) → total ≡ length all + 1 → sheets ≡ [] → Drawn total 0 all all sheets
  none_drawn total all sheets e n = subst (Drawn total 0 all all) (sym n) (record { are = λ ss a. a; stands = λ ss end s. subst (λ n. Stands n ss end) e s; count = refl })

  one_sheet : (old new : List SheetWritten) (s : SheetWritten) (ss : List Sheet) → new ≡ old ++ s ∷ [] → map sheet_of old ++ sheet_of s ∷ ss ≡ map sheet_of new ++ ss
  one_sheet old new s ss e = sym (append_assoc (map sheet_of old) (sheet_of s ∷ []) ss) ∙ ap (λ xs. xs ++ ss) (sym (map-append sheet_of old (s ∷ []))) ∙ ap (λ xs. map sheet_of xs ++ ss) (sym e)

  longer : (xs : List SheetWritten) (s : SheetWritten) → length (xs ++ s ∷ []) ≡ length xs + 1
  longer [] s = refl
  longer (x ∷ xs) s = let z : suc (length xs + 1) ≡ suc (length xs) + 1 = omega arith in ap suc (longer xs s) ∙ z

  pub one_drawn : (total next f : ℕ) (xs : List FlatFunction) (old new : List SheetWritten) (s : SheetWritten) → f < length xs → functions ≡ map function_of xs
      → ((fn : FFunction) → slice_get functions f ≡ Some fn → IsSheet g globals functions f fn (sheet_of s)) → s.base ≡ total → next ≡ total + s.places * width (sheet_of s) → new ≡ old ++ s ∷ []
      → Drawn total f (drop f xs) xs old → Drawn next (f + 1) (drop (f + 1) xs) xs new
  one_drawn total next f xs old new s lt fs is base more made d = record {
    are = λ ss a. subst (AreSheets g globals functions 0 (map function_of xs)) (one_sheet old new s ss made)
        (d.are (sheet_of s ∷ ss) (subst (λ z. AreSheets g globals functions f (map function_of z) (sheet_of s ∷ ss)) (sym (next_in (λ z. z) xs f x lt (element xs f lt).1))
        (is (function_of x) (ap (λ z. slice_get z f) fs ∙ mapped_at xs f x lt (element xs f lt).1), subst (λ n. AreSheets g globals functions n (map function_of (drop (f + 1) xs)) ss) one a)));
    stands = λ ss end st. subst (λ z. Stands (length xs + 1) z end) (one_sheet old new s ss made) (d.stands (sheet_of s ∷ ss) end (base, subst (λ n. Stands n ss end) more st));
    count = ap length made ∙ longer old s ∙ ap (λ n. n + 1) d.count;
  }
    where
      x : FlatFunction
      x = (element xs f lt).0

      one : f + 1 ≡ suc f
      one = omega arith

  pub all_drawn : (total f : ℕ) (xs : List FlatFunction) (sheets : List SheetWritten) → functions ≡ map function_of xs → length xs ≤ f → f ≤ length xs → Drawn total f (drop f xs) xs sheets
      → AreSheets g globals functions 0 functions (map sheet_of sheets) × Stands (suc (length (map sheet_of sheets))) (map sheet_of sheets) total
  all_drawn total f xs sheets fs le ge d = (
    subst (λ z. AreSheets g globals functions 0 z (map sheet_of sheets)) (sym fs)
        (subst (AreSheets g globals functions 0 (map function_of xs)) (append-nil (map sheet_of sheets)) (d.are [] (subst (λ z. AreSheets g globals functions f (map function_of z) []) (sym (drop_all f xs le)) tt))),
    subst (λ n. Stands n (map sheet_of sheets) total) counted (subst (λ z. Stands (length xs + 1) z total) (append-nil (map sheet_of sheets)) (d.stands [] total refl)),
  )
    where
      mapped : (ss : List SheetWritten) → length (map sheet_of ss) ≡ length ss
      mapped [] = refl
      mapped (s ∷ ss) = ap suc (mapped ss)

      counted : length xs + 1 ≡ suc (length (map sheet_of sheets))
      counted = omega (arith, mapped sheets, d.count, le, ge)

-- what is made of a function is its sheet
pub is_sheet : (g : ℕ) (globals : List Block) (xs : List FlatFunction) (f : ℕ) (x : FlatFunction) (fn : FFunction) (s : Sheet) → slice_get (map function_of xs) f ≡ Some fn → f < length xs → x ≡ get_or xs f x
    → s.values ≡ x.values → s.params ≡ x.params → s.links ≡ body_links g (setting_in globals (map function_of xs) (Some (function_of x))) (items_of g (steps_of x.body))
    → 0 < s.places → OfEach (InPlaces s.places) s.links → OfEach (HasRange s.ranges) s.links → IsSheet g globals (map function_of xs) f fn s
is_sheet g globals xs f x fn s at l is values params links some placed ranged =
    let here = mapped_at xs f x l is in
    subst (λ y. IsSheet g globals (map function_of xs) f y s) (same_function (function_of x) fn (sym here ∙ at)) (record {
      values = values;
      params = params;
      links = links ∙ ap (λ o. body_links g (setting_in globals (map function_of xs) o) (items_of g (steps_of x.body))) (sym here);
      placed = placed;
      some = some;
      covered = all_covered s s.links ranged;
    })

-- ---- The first break

above : (from : ℕ) (ss : List Sheet) (total : ℕ) → Stands from ss total → from ≤ total
above from [] total e = omega (arith, e)
above from (s ∷ ss) total (base, rest) = omega (arith, above (from + s.places * width s) ss total rest)

pub some_total : (from : ℕ) (ss : List Sheet) (total : ℕ) → Stands (suc from) ss total → 0 < total
some_total from ss total st = omega (arith, above (suc from) ss total st)

pub same_count : (g : ℕ) (globals : List Block) (functions : List FFunction) (f : ℕ) (fs : List FlatFunction) (ss : List SheetWritten) → AreSheets g globals functions f (map function_of fs) (map sheet_of ss) → length ss ≡ length fs
same_count g globals functions f [] [] a = refl
same_count g globals functions f [] (s ∷ ss) a = absurd a
same_count g globals functions f (x ∷ xs) [] a = absurd a
same_count g globals functions f (x ∷ xs) (s ∷ ss) a = ap suc (same_count g globals functions (suc f) xs ss a.1)

module _ (g : ℕ) (globals : List Block) (code : FCode) where
  module _ (T : ℕ → ℕ → Known) (xs : List FlatFunction) (fs : code.functions ≡ map function_of xs) where
    abbrev pub IsFirstIn : ℕ → Option ℕ → Type 0
    IsFirstIn n o = (fn : FFunction) → slice_get code.functions n ≡ Some fn → o ≡ first_unmet (T n) None (function_demands g (setting g globals code.functions n) code.main n fn)

    found_at : (n : ℕ) (l : n < length xs) → slice_get code.functions n ≡ Some (function_of (element xs n l).0)
    found_at n l = ap (λ z. slice_get z n) fs ∙ mapped_at xs n (element xs n l).0 l (element xs n l).1

    counted : length code.functions ≡ length xs
    counted = ap length fs ∙ mapped xs
      where
        mapped : (ys : List FlatFunction) → length (map function_of ys) ≡ length ys
        mapped [] = refl
        mapped (y ∷ ys) = ap suc (mapped ys)

    pub none_yet : NoneBefore g globals code T 0
    none_yet = λ f q l b. let z : ⊥ = omega (arith, l) in z

    pub none_here : (n : ℕ) (o : Option ℕ) → n < length xs → NoneBefore g globals code T n → IsFirstIn n o → o ≡ None → NoneBefore g globals code T (n + 1)
    none_here n o l none is e =
        let fn = function_of (element xs n l).0 in
        let at = found_at n l in
        let one : suc n ≡ n + 1 = omega arith in
        subst (NoneBefore g globals code T) one (one_further g globals code T n fn none at (sym (is fn at) ∙ e))

    pub first_here : (n a : ℕ) (o : Option ℕ) → n < length xs → NoneBefore g globals code T n → IsFirstIn n o → o ≡ Some a → FirstBad (BreaksByTable g globals code T) (Some record { function = n; place = a })
    first_here n a o l none is e =
        let fn = function_of (element xs n l).0 in
        let at = found_at n l in
        found_first g globals code T n a fn none at (sym (is fn at) ∙ e)

    at_end : (n : ℕ) → length xs ≤ n → n ≤ length xs → n ≡ length code.functions
    at_end n le ge = omega (arith, counted, le, ge)

    pub no_first : (n : ℕ) → length xs ≤ n → n ≤ length xs → NoneBefore g globals code T n → length xs ≤ code.main → FirstBad (BreaksByTable g globals code T) (Some record { function = code.main; place = 0 })
    no_first n le ge none l = no_main g globals code T (subst (NoneBefore g globals code T) (at_end n le ge) none) (omega (arith, counted, l))

    pub no_break : (n : ℕ) → length xs ≤ n → n ≤ length xs → NoneBefore g globals code T n → code.main < length xs → FirstBad (BreaksByTable g globals code T) None
    no_break n le ge none l = none_bad g globals code T (subst (NoneBefore g globals code T) (at_end n le ge) none) (omega (arith, counted, l))

  -- what the marks tell is what the chains tell
  pub tells : (sheets : List Sheet) (total : ℕ) (marks read : List Bool) → read ≡ marks → AreSheets g globals code.functions 0 code.functions sheets → Stands (suc (length sheets)) sheets total
      → ((n : ℕ) → is_marked marks n ≡ true → Reached (all_rules sheets) n) → ((n : ℕ) → Reached (all_rules sheets) n → is_marked marks n ≡ true)
      → (o : Option StepIndex) → FirstBad (BreaksByTable g globals code (known sheets read)) o → FirstBreak g globals code o
  tells sheets total marks read e are stands reached marked o first =
      exact_tables_tell g globals code (asks sheets) (gives sheets marks) (known sheets marks) (exact g globals code.functions sheets total are stands marks reached marked) o
      (subst (λ z. FirstBad (BreaksByTable g globals code (known sheets z)) o) e first)
