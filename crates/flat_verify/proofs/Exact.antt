-- Marks that are exactly what the rules of the sheets reach are an exact table.
use Rattle.std.proofs.Common.{◌≡◌, ◌<◌, ◌≤◌, ℕ, zero, suc, ◌+◌, ◌*◌, List, [], ◌∷◌, Option, Some, None, Bool, true, false, not, refl, sym, ap, ◌∙◌, subst, arith, length, get_or, ◌-◌, nat_lt, true≢false}
use Rattle.std.specs.Prelude.{slice_get, ◌&&◌}
use Rattle.std.proofs.lemmas.Option.{slice_get_within}
use Rattle.size_table.specs.Blocks.{Block}
use Rattle.flat_code.specs.Code.{FStep, FFunction}
use Rattle.flat_discipline.specs.Items.{Item, items_of, all_places}
use Rattle.flat_discipline.specs.Facts.{Fact, Source, Setting, Here, untold, source}
use Rattle.flat_verify.specs.Effects.{effect, source_by}
use Rattle.flat_discipline.specs.Chains.{Edges, body_edges, Spot, fact_in, Lost}
use Rattle.flat_discipline.specs.Closed.{Known, holds, ClosedOn, Exact}
use Rattle.flat_discipline.specs.Discipline.{params_in, values_in, edges_in, setting, edges}
use Rattle.flat_verify.specs.Links.{OfEach, Link}
use Rattle.flat_verify.specs.Reach.{Rule, rule, Reached, is_marked}
use Rattle.flat_verify.specs.Sheets.{Range, Sheet, width, none_unless, from_number, range_number, fact_number, fact_at, cell, fact_cell, rule_if, rule_both, source_cell, goes_rules, passes_to, link_rules, links_rules, start_rules, sheet_rules, all_rules, marked_if, cell_in, known, gives, spanned, Stands, InPlaces, is_some, is_asked, asked_in, asks, in_values, IsCovered, IsSheet, AreSheets}
use Rattle.flat_verify.proofs.EffectOf.{item_effect}
use Rattle.flat_discipline.proofs.Least.{every_edge, edge_every}
use Rattle.flat_verify.proofs.Links.{each_append, each_first, each_second, OfHands, OfEdge, edges_links, links_edges}
use Rattle.flat_verify.proofs.Marks.{IsClosed}
use Rattle.flat_verify.proofs.Cells.{not_none, same_number, same_sheet, lt_from, IsCell, IsCellOf, one_cell, numbered, cell_of, of_cell, stands_above, unless_some, from_some, ranged}
use Rattle.flat_verify.proofs.RuleLists.{asked_source, asked_number, each_contained, contained_each, goes_at, at_goes, pass_at, at_pass, start_at, at_start, links_at, at_links, sheet_at, at_sheet}
use Rattle.flat_discipline.proofs.Tables.{yes_lt, no_lt}

abbrev the_function : FFunction → Option FFunction → FFunction
the_function d None = d
the_function d (Some x) = x

pub same_function : (a b : FFunction) → Some a ≡ Some b → a ≡ b
same_function a b e = ap (the_function a) e

module _ (g : ℕ) (globals : List Block) (functions : List FFunction) where
  abbrev S : ℕ → Setting
  S = setting g globals functions

  abbrev E : ℕ → Edges
  E = edges g globals functions

  -- ---- Functions and their sheets

  pub record HasSheet (f : ℕ) (fn : FFunction) (at : Option Sheet) (number : ℕ) : Type 0 where
    pub sheet : Sheet
    pub found : at ≡ Some sheet
    pub is : IsSheet g globals functions number fn sheet

  pub function_sheet : (j f : ℕ) (fns : List FFunction) (ss : List Sheet) (fn : FFunction) → AreSheets g globals functions j fns ss → slice_get fns f ≡ Some fn → HasSheet f fn (slice_get ss f) (j + f)
  function_sheet j f [] ss fn are at = absurd (not_none fn at)
  function_sheet j f (x ∷ xs) [] fn are at = absurd are
  function_sheet j zero (x ∷ xs) (s ∷ ss) fn are at =
      let z : j ≡ j + 0 = omega arith in
      record { sheet = s; found = refl; is = subst (λ i. IsSheet g globals functions i fn s) z (subst (λ y. IsSheet g globals functions j y s) (same_function x fn at) are.0) }
  function_sheet j (suc f) (x ∷ xs) (s ∷ ss) fn are at =
      let z : suc j + f ≡ j + suc f = omega arith in
      let h = function_sheet (suc j) f xs ss fn are.1 at in
      record { sheet = h.sheet; found = h.found; is = subst (λ i. IsSheet g globals functions i fn h.sheet) z h.is }

  pub record HasFunction (s : Sheet) (at : Option FFunction) (number : ℕ) : Type 0 where
    pub function : FFunction
    pub found : at ≡ Some function
    pub is : IsSheet g globals functions number function s

  pub sheet_function : (j f : ℕ) (fns : List FFunction) (ss : List Sheet) (s : Sheet) → AreSheets g globals functions j fns ss → slice_get ss f ≡ Some s → HasFunction s (slice_get fns f) (j + f)
  sheet_function j f fns [] s are at = absurd (not_none s at)
  sheet_function j f [] (x ∷ xs) s are at = absurd are
  sheet_function j zero (x ∷ xs) (y ∷ ss) s are at =
      let z : j ≡ j + 0 = omega arith in
      record { function = x; found = refl; is = subst (λ i. IsSheet g globals functions i x s) z (subst (λ t. IsSheet g globals functions j x t) (same_sheet y s at) are.0) }
  sheet_function j (suc f) (x ∷ xs) (y ∷ ss) s are at =
      let z : suc j + f ≡ j + suc f = omega arith in
      let h = sheet_function (suc j) f xs ss s are.1 at in
      record { function = h.function; found = h.found; is = subst (λ i. IsSheet g globals functions i h.function s) z h.is }

  module _ (sheets : List Sheet) (total : ℕ) (are : AreSheets g globals functions 0 functions sheets) (stands : Stands (suc (length sheets)) sheets total) where
    at_zero : (f : ℕ) → 0 + f ≡ f
    at_zero f = omega arith

    -- an edge stands in a function that has a sheet
    pub record InSheet (f : ℕ) (h : Here) (i : Item) (a : ℕ) (b : Option ℕ) : Type 0 where
      pub function : FFunction
      pub sheet : Sheet
      pub at : slice_get functions f ≡ Some function
      pub found : slice_get sheets f ≡ Some sheet
      pub is : IsSheet g globals functions f function sheet
      pub edge : body_edges g (items_of g function.body) h i a b

    pub in_sheet : (f : ℕ) (h : Here) (i : Item) (a : ℕ) (b : Option ℕ) → E f h i a b → InSheet f h i a b
    in_sheet f h i a b e = by (slice_get functions f) refl e
      where
        by : (o : Option FFunction) → slice_get functions f ≡ o → edges_in g o h i a b → InSheet f h i a b
        by None at e = absurd e
        by (Some fn) at e =
            let s = function_sheet 0 f functions sheets fn are at in
            record { function = fn; sheet = s.sheet; at = at; found = s.found; is = subst (λ n. IsSheet g globals functions n fn s.sheet) (at_zero f) s.is; edge = e }

    -- what holds of each link holds of an edge's
    pub of_edge : (P : Link → Type 0) (f : ℕ) (h : Here) (i : Item) (a : ℕ) (b : Option ℕ) (at : InSheet f h i a b) → OfEach P at.sheet.links → OfEdge g (S f) P h i a b
    of_edge P f h i a b at each =
        let body = items_of g at.function.body in
        every_edge g (OfEdge g (S f) P) body untold 0 (all_places g body) [] (edges_links g (S f) P body untold 0 (all_places g body) [] (subst (OfEach P) at.is.links each)) h i a b at.edge

    values_of : (f : ℕ) (fn : FFunction) (s : Sheet) → slice_get functions f ≡ Some fn → IsSheet g globals functions f fn s → (S f).values ≡ s.values
    values_of f fn s at is = ap values_in at ∙ sym is.values

    in_fact : (f : ℕ) (fn : FFunction) (s : Sheet) (x : Fact) → slice_get functions f ≡ Some fn → IsSheet g globals functions f fn s → in_values s x ≡ fact_in (S f) x
    in_fact f fn s (Fact.Clean v) at is = ap (nat_lt v) (sym (values_of f fn s at is))
    in_fact f fn s (Fact.Own v) at is = ap (nat_lt v) (sym (values_of f fn s at is))
    in_fact f fn s (Fact.Spanned a n) at is = ap (λ v. nat_lt a v && nat_lt n v) (sym (values_of f fn s at is))

    abbrev pub A : ℕ → Fact → Bool
    A = asks sheets

    -- ---- What no rule changes is closed

    module _ (marks : List Bool) (first : is_marked marks 0 ≡ true) (closed : OfEach (IsClosed marks) (all_rules sheets)) where
      abbrev T : ℕ → ℕ → Known
      T = known sheets marks

      unless_led : (o : Option ℕ) (to : ℕ) → OfEach (IsClosed marks) (rule_if o to) → is_marked marks to ≡ false → marked_if marks o ≡ false
      unless_led None to c unset = refl
      unless_led (Some n) to c unset = by (is_marked marks n) refl
        where
          by : (b : Bool) → is_marked marks n ≡ b → is_marked marks n ≡ false
          by true m = absurd (true≢false (sym (c.0 m) ∙ unset))
          by false m = m

      not_true : (b : Bool) → not b ≡ true → b ≡ false
      not_true true e = absurd (true≢false (sym e))
      not_true false e = refl

      links_closed : (f : ℕ) (s : Sheet) → slice_get sheets f ≡ Some s → OfEach (λ l. OfEach (IsClosed marks) (link_rules sheets f s l)) s.links
      links_closed f s found =
          let here = subst (λ n. OfEach (IsClosed marks) (sheet_rules sheets n s)) (at_zero f) (sheet_at (IsClosed marks) sheets 0 f sheets s closed found) in
          links_at (IsClosed marks) sheets f s s.links (each_second (IsClosed marks) (start_rules s (length s.ranges)) (links_rules sheets f s s.links) here)

      asked_at : (f : ℕ) (s : Sheet) (x : Fact) → slice_get sheets f ≡ Some s → A f x ≡ true → (k : ℕ) × (fact_number s x ≡ Some k)
      asked_at f s x found ask = asked_number (fact_number s x) (sym (ap (λ o. asked_in o x) found) ∙ ask)

      at_ask : (f : ℕ) (s : Sheet) (x : Fact) → slice_get sheets f ≡ Some s → is_asked s x ≡ true → A f x ≡ true
      at_ask f s x found ask = ap (λ o. asked_in o x) found ∙ ask

      table_at : (f p : ℕ) (s : Sheet) (x : Fact) → slice_get sheets f ≡ Some s → T f p x ≡ not (marked_if marks (fact_cell s p x))
      table_at f p s x found = ap (λ o. not (marked_if marks (cell_in o p x))) found

      -- what the source of a fact is known by
      by_source : (f a : ℕ) (s : Sheet) (o : Source) → slice_get sheets f ≡ Some s → marked_if marks (source_cell (length sheets) s a o) ≡ false → holds (gives sheets marks) (T f a) o ≡ true
      by_source f a s Source.Held found unset = refl
      by_source f a s Source.Gone found unset = absurd (true≢false (sym first ∙ unset))
      by_source f a s (Source.From y) found unset = table_at f a s y found ∙ ap not unset
      by_source f a s (Source.FromCall q) found unset = by (nat_lt q (length sheets)) unset
        where
          by : (b : Bool) → marked_if marks (none_unless b (Some (suc q))) ≡ false → not (b && is_marked marks (suc q)) ≡ true
          by true unset = ap not unset
          by false unset = refl

      covered : (f : ℕ) (h : Here) (i : Item) (a b : ℕ) (x : Fact) → E f h i a (Some b) → A f x ≡ true → T f b x ≡ true → holds (gives sheets marks) (T f a) (source (S f) h i x) ≡ true
      covered f h i a b x e ask k =
          let at = in_sheet f h i a (Some b) e in
          let s = at.sheet in
          let n = asked_at f s x at.found ask in
          let is = numbered s x n.0 n.1 in
          let there = (of_edge (InPlaces s.places) f h i a (Some b) at at.is.placed).0.0 in
          let rules = (of_edge (λ l. OfEach (IsClosed marks) (link_rules sheets f s l)) f h i a (Some b) at (links_closed f s at.found)).0.0 in
          let one = goes_at (IsClosed marks) (length sheets) s (effect (S f) h i) a b (width s) n.0 rules is.below in
          let from : source_by (effect (S f) h i) (fact_at s n.0) ≡ source (S f) h i x = ap (source_by (effect (S f) h i)) is.is ∙ item_effect (S f) h i x in
          let unmarked : is_marked marks (cell s b n.0) ≡ false = not_true (is_marked marks (cell s b n.0)) (sym (table_at f b s x at.found ∙ ap (λ o. not (marked_if marks o)) (of_cell s b x n.0 n.1 there)) ∙ k) in
          by_source f a s (source (S f) h i x) at.found (unless_led (source_cell (length sheets) s a (source (S f) h i x)) (cell s b n.0) (subst (λ o. OfEach (IsClosed marks) (rule_if (source_cell (length sheets) s a o) (cell s b n.0))) from one) unmarked)

      sourced : (f : ℕ) (h : Here) (i : Item) (a b : ℕ) (x y : Fact) → E f h i a (Some b) → A f x ≡ true → source (S f) h i x ≡ Source.From y → fact_in (S f) y ≡ true → A f y ≡ true
      sourced f h i a b x y e ask is m =
          let at = in_sheet f h i a (Some b) e in
          let s = at.sheet in
          let n = asked_at f s x at.found ask in
          let cover = (of_edge (IsCovered s) f h i a (Some b) at at.is.covered).0.0 in
          at_ask f s y at.found (asked_source s (effect (S f) h i) a b x y cover (ap is_some n.1) (item_effect (S f) h i x ∙ is) (in_fact f at.function s y at.at at.is ∙ m))

      started : (f x n : ℕ) → A f (Fact.Spanned x n) ≡ true → T f 0 (Fact.Spanned x n) ≡ false
      started f x n ask = by (slice_get sheets f) refl
        where
          by : (o : Option Sheet) → slice_get sheets f ≡ o → T f 0 (Fact.Spanned x n) ≡ false
          by None found = absurd (true≢false (sym ask ∙ ap (λ o. asked_in o (Fact.Spanned x n)) found))
          by (Some s) found =
              let k = asked_at f s (Fact.Spanned x n) found ask in
              let u = unless_some (nat_lt x s.values && nat_lt n s.values) (from_number (2 * s.values) (range_number s.ranges x n)) k.0 k.1 in
              let r = from_some (2 * s.values) (range_number s.ranges x n) k.0 u.1 in
              let here = subst (λ j. OfEach (IsClosed marks) (sheet_rules sheets j s)) (at_zero f) (sheet_at (IsClosed marks) sheets 0 f sheets s closed found) in
              let c = start_at (IsClosed marks) s (length s.ranges) r.0 (each_first (IsClosed marks) (start_rules s (length s.ranges)) (links_rules sheets f s s.links) here) (ranged s.ranges x n r.0 r.1).0 in
              let fn = sheet_function 0 f functions sheets s are found in
              table_at f 0 s (Fact.Spanned x n) found ∙ ap (λ o. not (marked_if marks o)) (of_cell s 0 (Fact.Spanned x n) k.0 k.1 fn.is.some)
              ∙ ap (λ j. not (is_marked marks (cell s 0 j))) (sym r.2) ∙ ap not (c first)

      returned : (q from : ℕ) (h : Here) (a : ℕ) (b : Option ℕ) → E q h (Item.Plain (FStep.Return from)) a b → gives sheets marks q ≡ true → T q a (Fact.Clean from) ≡ true
      returned q from h a b e give =
          let at = in_sheet q h (Item.Plain (FStep.Return from)) a b e in
          let s = at.sheet in
          let rules = (of_edge (λ l. OfEach (IsClosed marks) (link_rules sheets q s l)) q h (Item.Plain (FStep.Return from)) a b at (links_closed q s at.found)).1.0 in
          let below : nat_lt q (length sheets) ≡ true = yes_lt q (length sheets) (slice_get_within sheets q s at.found) in
          let unset : is_marked marks (suc q) ≡ false = not_true (is_marked marks (suc q)) (sym (ap (λ t. not (t && is_marked marks (suc q))) below) ∙ give) in
          table_at q a s (Fact.Clean from) at.found ∙ ap not (unless_led (fact_cell s a (Fact.Clean from)) (suc q) rules unset)

      passed : (f to q : ℕ) (args : List ℕ) (h : Here) (a : ℕ) (b : Option ℕ) → E f h (Item.Plain (FStep.Call to q args)) a b → (k v params : ℕ) → slice_get args k ≡ Some v → (S f).params_of q ≡ Some params → k < params → A q (Fact.Clean k) ≡ true → T q 0 (Fact.Clean k) ≡ true → T f a (Fact.Clean v) ≡ true
      passed f to q args h a b e k v params arg has l ask know = by (slice_get functions q) refl
        where
          by : (o : Option FFunction) → slice_get functions q ≡ o → T f a (Fact.Clean v) ≡ true
          by None qat = absurd (not_none params (sym (ap params_in qat) ∙ has))
          by (Some fn) qat =
              let at = in_sheet f h (Item.Plain (FStep.Call to q args)) a b e in
              let s = at.sheet in
              let callee = function_sheet 0 q functions sheets fn are qat in
              let t = callee.sheet in
              let n = asked_at q t (Fact.Clean k) callee.found ask in
              let rules = (of_edge (λ m. OfEach (IsClosed marks) (link_rules sheets f s m)) f h (Item.Plain (FStep.Call to q args)) a b at (links_closed f s at.found)).1.0 in
              let one = pass_at (IsClosed marks) s t a 0 k v args (subst (λ o. OfEach (IsClosed marks) (passes_to s o a args)) callee.found rules) arg in
              let counted : params ≡ t.params = sym (same_number fn.params params (sym (ap params_in qat) ∙ has)) ∙ sym callee.is.params in
              let below : k < t.params = omega (arith, l, counted) in
              let to : none_unless (nat_lt (0 + k) t.params) (fact_cell t 0 (Fact.Clean (0 + k))) ≡ Some (cell t 0 n.0) =
              ap (λ j. none_unless (nat_lt j t.params) (fact_cell t 0 (Fact.Clean j))) (at_zero k) ∙ (ap (λ c. none_unless c (fact_cell t 0 (Fact.Clean k))) (yes_lt k t.params below) ∙ of_cell t 0 (Fact.Clean k) n.0 n.1 callee.is.some) in
              let unset : is_marked marks (cell t 0 n.0) ≡ false = not_true (is_marked marks (cell t 0 n.0)) (sym (table_at q 0 t (Fact.Clean k) callee.found ∙ ap (λ o. not (marked_if marks o)) (of_cell t 0 (Fact.Clean k) n.0 n.1 callee.is.some)) ∙ know) in
              table_at f a s (Fact.Clean v) at.found ∙ ap not (unless_led (fact_cell s a (Fact.Clean v)) (cell t 0 n.0) (subst (λ o. OfEach (IsClosed marks) (rule_both (fact_cell s a (Fact.Clean v)) o)) to one) unset)

      asked_if : (f : ℕ) (x : Fact) → ((s : Sheet) → in_values s x ≡ true → is_asked s x ≡ true) → fact_in (S f) x ≡ true → (fn : FFunction) → slice_get functions f ≡ Some fn → A f x ≡ true
      asked_if f x each m fn at =
          let h = function_sheet 0 f functions sheets fn are at in
          at_ask f h.sheet x h.found (each h.sheet (in_fact f fn h.sheet x at (subst (λ n. IsSheet g globals functions n fn h.sheet) (at_zero f) h.is) ∙ m))

      clean_asked : (s : Sheet) (v : ℕ) → in_values s (Fact.Clean v) ≡ true → is_asked s (Fact.Clean v) ≡ true
      clean_asked s v m = ap (λ b. is_some (none_unless b (Some v))) m

      own_asked : (s : Sheet) (v : ℕ) → in_values s (Fact.Own v) ≡ true → is_asked s (Fact.Own v) ≡ true
      own_asked s v m = ap (λ b. is_some (none_unless b (Some (s.values + v)))) m

      no_values : (f v : ℕ) (fnone : slice_get functions f ≡ None) → nat_lt v (S f).values ≡ true → ⊥
      no_values f v at m = true≢false (sym m ∙ (ap (λ o. nat_lt v (values_in o)) at ∙ no_lt v 0 (omega arith)))

      pub closed_on : ClosedOn S E A (gives sheets marks) T
      closed_on = record {
        cleans = λ f v m. cleans_at f v m (slice_get functions f) refl;
        owns = λ f v m. owns_at f v m (slice_get functions f) refl;
        sources = sourced;
        start = started;
        covers = covered;
        returns = returned;
        passes = passed;
      }
        where
          cleans_at : (f v : ℕ) → fact_in (S f) (Fact.Clean v) ≡ true → (o : Option FFunction) → slice_get functions f ≡ o → A f (Fact.Clean v) ≡ true
          cleans_at f v m None at = absurd (no_values f v at m)
          cleans_at f v m (Some fn) at = asked_if f (Fact.Clean v) (λ s. clean_asked s v) m fn at

          owns_at : (f v : ℕ) → fact_in (S f) (Fact.Own v) ≡ true → (o : Option FFunction) → slice_get functions f ≡ o → A f (Fact.Own v) ≡ true
          owns_at f v m None at = absurd (no_values f v at m)
          owns_at f v m (Some fn) at = asked_if f (Fact.Own v) (λ s. own_asked s v) m fn at

    -- ---- What is reached has a chain

    abbrev pub Sound : ℕ → Type 0
    Sound n = ((f p : ℕ) (x : Fact) → cell_in (slice_get sheets f) p x ≡ Some n → Lost S E (Spot.At f p x)) × ((q : ℕ) → q < length sheets → suc q ≡ n → Lost S E (Spot.Result q))

    -- a rule keeps that
    abbrev IsSound : Rule → Type 0
    IsSound r = Sound r.from → Sound r.to

    record HasCell (f p : ℕ) (x : Fact) (n : ℕ) : Type 0 where
      pub sheet : Sheet
      pub found : slice_get sheets f ≡ Some sheet
      pub cell : IsCellOf sheet p x n

    has_cell : (f p : ℕ) (x : Fact) (n : ℕ) → cell_in (slice_get sheets f) p x ≡ Some n → HasCell f p x n
    has_cell f p x n e = by (slice_get sheets f) refl
      where
        by : (o : Option Sheet) → slice_get sheets f ≡ o → HasCell f p x n
        by None at = absurd (not_none n (sym (ap (λ o. cell_in o p x) at) ∙ e))
        by (Some s) at = record { sheet = s; found = at; cell = cell_of s p x n (sym (ap (λ o. cell_in o p x) at) ∙ e) }

    above : (f : ℕ) (s : Sheet) → slice_get sheets f ≡ Some s → suc (length sheets) ≤ s.base
    above f s at = (stands_above sheets (suc (length sheets)) total f s stands at).0

    to_cell : (f : ℕ) (s : Sheet) (b k : ℕ) → slice_get sheets f ≡ Some s → IsCell s b k → ((x : Fact) → fact_number s x ≡ Some k → Lost S E (Spot.At f b x)) → Sound (cell s b k)
    to_cell f s b k found c lost = (λ f2 p2 x2 e. at f2 p2 x2 (has_cell f2 p2 x2 (cell s b k) e), λ q l e. absurd (omega (arith, above f s found, l, e)))
      where
        at : (f2 p2 : ℕ) (x2 : Fact) → HasCell f2 p2 x2 (cell s b k) → Lost S E (Spot.At f2 p2 x2)
        at f2 p2 x2 h =
            let one = one_cell sheets (suc (length sheets)) total f2 f h.sheet s p2 b h.cell.number k stands h.found found h.cell.is_cell c h.cell.is in
            subst (λ i. Lost S E (Spot.At i p2 x2)) (sym one.function) (subst (λ i. Lost S E (Spot.At f i x2)) (sym one.place) (lost x2 (subst (λ t. fact_number t x2 ≡ Some k) one.sheet (h.cell.of_fact ∙ ap Some one.fact))))

    to_result : (q : ℕ) → q < length sheets → Lost S E (Spot.Result q) → Sound (suc q)
    to_result q l lost = (
      λ f p x e. let h = has_cell f p x (suc q) e in absurd (omega (arith, above f h.sheet h.found, h.cell.is, l)),
      λ r m e. let same : q ≡ r = omega (arith, e) in subst (λ i. Lost S E (Spot.Result i)) same lost,
    )

    sound_first : Sound 0
    sound_first = (λ f p x e. let h = has_cell f p x 0 e in absurd (omega (arith, above f h.sheet h.found, h.cell.is)), λ q l e. absurd (omega (arith, e)))

    numbered_in : (s : Sheet) (x : Fact) (k : ℕ) → fact_number s x ≡ Some k → in_values s x ≡ true
    numbered_in s (Fact.Clean v) k e = (unless_some (nat_lt v s.values) (Some v) k e).0
    numbered_in s (Fact.Own v) k e = (unless_some (nat_lt v s.values) (Some (s.values + v)) k e).0
    numbered_in s (Fact.Spanned a n) k e = (unless_some (nat_lt a s.values && nat_lt n s.values) (from_number (2 * s.values) (range_number s.ranges a n)) k e).0

    in_range : (f : ℕ) (fn : FFunction) (s : Sheet) (x : Fact) (k : ℕ) → slice_get functions f ≡ Some fn → IsSheet g globals functions f fn s → fact_number s x ≡ Some k → fact_in (S f) x ≡ true
    in_range f fn s x k at is e = sym (in_fact f fn s x at is) ∙ numbered_in s x k e

    by_cell : (f p : ℕ) (s : Sheet) (x : Fact) (n : ℕ) → slice_get sheets f ≡ Some s → fact_cell s p x ≡ Some n → Sound n → Lost S E (Spot.At f p x)
    by_cell f p s x n found e sound = sound.0 f p x (ap (λ o. cell_in o p x) found ∙ e)

    -- one rule along an edge
    goes_sound : (f : ℕ) (h : Here) (i : Item) (a b : ℕ) (at : InSheet f h i a (Some b)) → E f h i a (Some b) → b < at.sheet.places → OfEach IsSound (goes_rules (length sheets) at.sheet (effect (S f) h i) a b (width at.sheet))
    goes_sound f h i a b at e there = at_goes IsSound (length sheets) at.sheet (effect (S f) h i) a b (width at.sheet) (λ k l. one k l (source_cell (length sheets) at.sheet a (source_by (effect (S f) h i) (fact_at at.sheet k))) refl)
      where
        lost : (k n : ℕ) (x : Fact) → Sound n → fact_number at.sheet x ≡ Some k → (o : Source) → source (S f) h i x ≡ o → source_cell (length sheets) at.sheet a o ≡ Some n → Lost S E (Spot.At f b x)
        lost k n x sound num Source.Held is c = absurd (not_none n c)
        lost k n x sound num Source.Gone is c = Lost.begins f h i a b x (in_range f at.function at.sheet x k at.at at.is num) e is
        lost k n x sound num (Source.From y) is c = Lost.goes_on f h i a b x y (in_range f at.function at.sheet x k at.at at.is num) e is (by_cell f a at.sheet y n at.found c sound)
        lost k n x sound num (Source.FromCall q) is c =
            let u = unless_some (nat_lt q (length sheets)) (Some (suc q)) n c in
            Lost.given f q h i a b x (in_range f at.function at.sheet x k at.at at.is num) e is (sound.1 q (lt_from q (length sheets) u.0) (same_number (suc q) n u.1))

        one : (k : ℕ) → k < width at.sheet → (o : Option ℕ) → source_cell (length sheets) at.sheet a (source_by (effect (S f) h i) (fact_at at.sheet k)) ≡ o → OfEach IsSound (rule_if o (cell at.sheet b k))
        one k l None c = tt
        one k l (Some n) c = (
          λ sound. to_cell f at.sheet b k at.found record { place = there; fact = l } (λ x num. lost k n x sound num (source (S f) h i x) refl (
              ap (source_cell (length sheets) at.sheet a) (sym (ap (source_by (effect (S f) h i)) (numbered at.sheet x k num).is ∙ item_effect (S f) h i x)) ∙ c
              )),
          tt,
        )

    passes_sound : (f to q : ℕ) (args : List ℕ) (h : Here) (a : ℕ) (b : Option ℕ) (at : InSheet f h (Item.Plain (FStep.Call to q args)) a b) → E f h (Item.Plain (FStep.Call to q args)) a b → (o : Option Sheet) → slice_get sheets q ≡ o → OfEach IsSound (passes_to at.sheet o a args)
    passes_sound f to q args h a b at e None found = tt
    passes_sound f to q args h a b at e (Some t) found = at_pass IsSound at.sheet t a 0 args (λ k v arg. one k v arg (fact_cell at.sheet a (Fact.Clean v)) refl (none_unless (nat_lt (0 + k) t.params) (fact_cell t 0 (Fact.Clean (0 + k)))) refl)
      where
        has : HasFunction t (slice_get functions q) (0 + q)
        has = sheet_function 0 q functions sheets t are found

        one : (k v : ℕ) → slice_get args k ≡ Some v → (from : Option ℕ) → fact_cell at.sheet a (Fact.Clean v) ≡ from → (to : Option ℕ) → none_unless (nat_lt (0 + k) t.params) (fact_cell t 0 (Fact.Clean (0 + k))) ≡ to → OfEach IsSound (rule_both from to)
        one k v arg from is None there = tt
        one k v arg None is (Some m) there = tt
        one k v arg (Some n) is (Some m) there =
            let u = unless_some (nat_lt (0 + k) t.params) (fact_cell t 0 (Fact.Clean (0 + k))) m there in
            let c = cell_of t 0 (Fact.Clean (0 + k)) m u.1 in
            let callee : IsSheet g globals functions q has.function t = subst (λ i. IsSheet g globals functions i has.function t) (at_zero q) has.is in
            let counted : (S f).params_of q ≡ Some t.params = ap params_in has.found ∙ ap Some (sym callee.params) in
            let below : k < t.params = omega (arith, lt_from (0 + k) t.params u.0) in
            let num : fact_number t (Fact.Clean k) ≡ Some c.number = ap (λ j. fact_number t (Fact.Clean j)) (sym (at_zero k)) ∙ c.of_fact in (
              λ sound. subst Sound c.is (to_cell q t 0 c.number found c.is_cell (λ x xnum. subst (λ y. Lost S E (Spot.At q 0 y)) (sym (numbered t (Fact.Clean k) c.number num).is ∙ (numbered t x c.number xnum).is)
                  (Lost.passed f to q k v t.params args h a b e arg counted below (in_range q has.function t (Fact.Clean k) c.number has.found callee num) (by_cell f a at.sheet (Fact.Clean v) n at.found is sound)))),
              tt,
            )

    returns_sound : (f from : ℕ) (h : Here) (a : ℕ) (b : Option ℕ) (at : InSheet f h (Item.Plain (FStep.Return from)) a b) → E f h (Item.Plain (FStep.Return from)) a b → (o : Option ℕ) → fact_cell at.sheet a (Fact.Clean from) ≡ o → OfEach IsSound (rule_if o (suc f))
    returns_sound f from h a b at e None is = tt
    returns_sound f from h a b at e (Some n) is = (λ sound. to_result f (slice_get_within sheets f at.sheet at.found) (Lost.returned f from h a b e (by_cell f a at.sheet (Fact.Clean from) n at.found is sound)), tt)

    starts_sound : (f : ℕ) (fn : FFunction) (s : Sheet) → slice_get functions f ≡ Some fn → slice_get sheets f ≡ Some s → IsSheet g globals functions f fn s → OfEach IsSound (start_rules s (length s.ranges))
    starts_sound f fn s at found is = at_start IsSound s (length s.ranges) (λ i l sound. to_cell f s 0 (2 * s.values + i) found record { place = is.some; fact = omega (arith, l) } (λ x num. lost i x num (numbered s x (2 * s.values + i) num).is))
      where
        last_fact : (i : ℕ) → (r : Range) × (fact_at s (2 * s.values + i) ≡ spanned r)
        last_fact i = (get_or s.ranges (2 * s.values + i - 2 * s.values) record { pointer = 0; count = 0 }, rw (no_lt (2 * s.values + i) s.values (omega arith)) (rw (no_lt (2 * s.values + i) (2 * s.values) (omega arith)) refl))

        lost : (i : ℕ) (x : Fact) → fact_number s x ≡ Some (2 * s.values + i) → fact_at s (2 * s.values + i) ≡ x → Lost S E (Spot.At f 0 x)
        lost i x num e =
            let r = last_fact i in
            let same : spanned r.0 ≡ x = sym r.1 ∙ e in
            subst (λ y. Lost S E (Spot.At f 0 y)) same (Lost.unspanned f r.0.pointer r.0.count (in_range f fn s (spanned r.0) (2 * s.values + i) at is (ap (fact_number s) same ∙ num)))

    -- what an edge hands out
    hands_sound : (f : ℕ) (h : Here) (i : Item) (a : ℕ) (b : Option ℕ) (at : InSheet f h i a b) → E f h i a b → OfHands (λ l. OfEach IsSound (link_rules sheets f at.sheet l)) i a
    hands_sound f h (Item.Plain (FStep.Call to q args)) a b at e = (passes_sound f to q args h a b at e (slice_get sheets q) refl, tt)
    hands_sound f h (Item.Plain (FStep.Return from)) a b at e = (returns_sound f from h a b at e (fact_cell at.sheet a (Fact.Clean from)) refl, tt)
    hands_sound f h (Item.Plain (FStep.Number v0 v1)) a b at e = tt
    hands_sound f h (Item.Plain (FStep.Same v0 v1)) a b at e = tt
    hands_sound f h (Item.Plain (FStep.Arith v0 v1 v2 v3)) a b at e = tt
    hands_sound f h (Item.Plain (FStep.If v0 v1 v2)) a b at e = tt
    hands_sound f h (Item.Plain (FStep.Block v0)) a b at e = tt
    hands_sound f h (Item.Plain (FStep.Loop v0)) a b at e = tt
    hands_sound f h (Item.Plain (FStep.Inner v0)) a b at e = tt
    hands_sound f h (Item.Plain (FStep.Exit v0)) a b at e = tt
    hands_sound f h (Item.Plain (FStep.Slot v0 v1)) a b at e = tt
    hands_sound f h (Item.Plain (FStep.Look v0 v1)) a b at e = tt
    hands_sound f h (Item.Plain (FStep.FrameAt v0 v1)) a b at e = tt
    hands_sound f h (Item.Plain (FStep.Load v0 v1 v2)) a b at e = tt
    hands_sound f h (Item.Plain (FStep.Store v0 v1 v2)) a b at e = tt
    hands_sound f h (Item.Plain (FStep.Checked v0 v1)) a b at e = tt
    hands_sound f h (Item.Plain (FStep.LineMark v0)) a b at e = tt
    hands_sound f h (Item.Plain (FStep.Report v0 v1)) a b at e = tt
    hands_sound f h (Item.Plain (FStep.Env v0 v1 v2 v3)) a b at e = tt
    hands_sound f h (Item.Checks v0) a b at e = tt
    hands_sound f h (Item.If v0 v1 v2) a b at e = tt
    hands_sound f h (Item.Block v0) a b at e = tt
    hands_sound f h (Item.Loop v0) a b at e = tt
    hands_sound f h (Item.Inner v0) a b at e = tt

    edge_sound : (f : ℕ) (h : Here) (i : Item) (a : ℕ) (b : Option ℕ) (at : InSheet f h i a b) → E f h i a b → OfEdge g (S f) (λ l. OfEach IsSound (link_rules sheets f at.sheet l)) h i a b
    edge_sound f h i a None at e = (tt, hands_sound f h i a None at e)
    edge_sound f h i a (Some b) at e =
        let there = (of_edge (InPlaces at.sheet.places) f h i a (Some b) at at.is.placed).0.0 in
        ((goes_sound f h i a b at e there, tt), hands_sound f h i a (Some b) at e)

    sheet_sound : (f : ℕ) (s : Sheet) → slice_get sheets f ≡ Some s → OfEach IsSound (sheet_rules sheets f s)
    sheet_sound f s found =
        let has = sheet_function 0 f functions sheets s are found in
        let is : IsSheet g globals functions f has.function s = subst (λ i. IsSheet g globals functions i has.function s) (at_zero f) has.is in
        let body = items_of g has.function.body in
        let P : Link → Type 0 = λ l. OfEach IsSound (link_rules sheets f s l) in
        let each = edge_every g (OfEdge g (S f) P) body untold 0 (all_places g body) [] (λ h i a b e. edge_sound f h i a b record { function = has.function; sheet = s; at = has.found; found = found; is = is; edge = e } (subst (λ o. edges_in g o h i a b) (sym has.found) e)) in
        each_append IsSound (start_rules s (length s.ranges)) (links_rules sheets f s s.links) (starts_sound f has.function s has.found found is)
        (at_links IsSound sheets f s s.links (subst (OfEach P) (sym is.links) (links_edges g (S f) P body untold 0 (all_places g body) [] each)))

    all_sound : OfEach IsSound (all_rules sheets)
    all_sound = at_sheet IsSound sheets 0 sheets (λ f s found. subst (λ i. OfEach IsSound (sheet_rules sheets i s)) (sym (at_zero f)) (sheet_sound f s found))

    pub sound : (n : ℕ) → Reached (all_rules sheets) n → Sound n
    sound _ Reached.origin = sound_first
    sound _ (Reached.led a b is r) = contained_each IsSound (all_rules sheets) (rule a b) all_sound is (sound a r)

    -- ---- Exact

    module _ (marks : List Bool) (reached : (n : ℕ) → is_marked marks n ≡ true → Reached (all_rules sheets) n) (marked : (n : ℕ) → Reached (all_rules sheets) n → is_marked marks n ≡ true) where
      closed_rules : OfEach (IsClosed marks) (all_rules sheets)
      closed_rules = each_contained (IsClosed marks) (all_rules sheets) (λ r c m. marked r.to (Reached.led r.from r.to c (reached r.from m)))

      marks_lost : (f p : ℕ) (x : Fact) → known sheets marks f p x ≡ false → Lost S E (Spot.At f p x)
      marks_lost f p x e = by (cell_in (slice_get sheets f) p x) refl (not_false (marked_if marks (cell_in (slice_get sheets f) p x)) e)
        where
          not_false : (b : Bool) → not b ≡ false → b ≡ true
          not_false true e = refl
          not_false false e = absurd (true≢false e)

          by : (o : Option ℕ) → cell_in (slice_get sheets f) p x ≡ o → marked_if marks (cell_in (slice_get sheets f) p x) ≡ true → Lost S E (Spot.At f p x)
          by None at m = absurd (true≢false (sym m ∙ ap (marked_if marks) at))
          by (Some n) at m = (sound n (reached n (sym (ap (marked_if marks) at) ∙ m))).0 f p x at

      results_lost : (q : ℕ) → gives sheets marks q ≡ false → Lost S E (Spot.Result q)
      results_lost q e =
          let m = both_true (nat_lt q (length sheets)) (is_marked marks (suc q)) e in
          (sound (suc q) (reached (suc q) m.1)).1 q (lt_from q (length sheets) m.0) refl
        where
          both_true : (a b : Bool) → not (a && b) ≡ false → (a ≡ true) × (b ≡ true)
          both_true true true e = (refl, refl)
          both_true true false e = absurd (true≢false e)
          both_true false b e = absurd (true≢false e)

      pub exact : Exact S E A (gives sheets marks) (known sheets marks)
      exact = record { closed = closed_on marks (marked 0 Reached.origin) closed_rules; marks = marks_lost; results = results_lost }
