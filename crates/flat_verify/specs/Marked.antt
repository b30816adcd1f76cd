-- What holds of the tables that are computed from marks.
use Rattle.std.specs.Prelude.{◌≡◌, ℕ, suc, Bool, true, List, length, Some, None, slice_get}
use Rattle.size_table.specs.Blocks.{Block}
use Rattle.flat_code.specs.Code.{FFunction, FCode}
use Rattle.flat_discipline.specs.Closed.{Known, Exact}
use Rattle.flat_discipline.specs.Discipline.{setting, edges}
use Rattle.flat_verify.specs.Reach.{Reached, is_marked}
use Rattle.flat_verify.specs.Sheets.{Sheet, all_rules, asks, gives, known, Stands, AreSheets}
use Rattle.flat_verify.specs.Verdict.{function_demands, first_unmet, FirstOf}
use Rattle.flat_discipline.specs.Laws.{BreaksByTable}

-- marks that are exactly what the rules of a program's sheets reach are an exact table
abbrev pub MarkedSheetsAreExact : Type 0
MarkedSheetsAreExact =
    (g : ℕ) (globals : List Block) (functions : List FFunction) (sheets : List Sheet) (total : ℕ) (marks : List Bool)
    → AreSheets g globals functions 0 functions sheets → Stands (suc (length sheets)) sheets total
    → ((n : ℕ) → is_marked marks n ≡ true → Reached (all_rules sheets) n)
    → ((n : ℕ) → Reached (all_rules sheets) n → is_marked marks n ≡ true)
    → Exact (setting g globals functions) (edges g globals functions) (asks sheets) (gives sheets marks) (known sheets marks)

-- The first demand of a function that a table does not meet is the function's first break by the table.
abbrev pub FirstUnmetIsFirst : Type 0
FirstUnmetIsFirst =
    (g : ℕ) (globals : List Block) (code : FCode) (T : ℕ → ℕ → Known) (f : ℕ) (fn : FFunction) → slice_get code.functions f ≡ Some fn
    → FirstOf (BreaksByTable g globals code T f) (first_unmet (T f) None (function_demands g (setting g globals code.functions f) code.main f fn))
