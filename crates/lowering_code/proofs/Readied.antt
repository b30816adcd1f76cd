-- What the code of a program asks of its functions, and that the code which is made is that of the definition.
use Rattle.std.specs.Prelude.{◌&&◌, not, map, All}
use Rattle.std.proofs.Common.{◌≡◌, ℕ, ◌≤◌, true, List, [], ◌∷◌, length, sym, ap, ◌∙◌, subst, arith}
use Rattle.std.proofs.lemmas.Bool.{and_parts}
use Rattle.std.proofs.lemmas.List.Elements.{All-nil, All-cons, All-head, All-tail}
use Rattle.block_layout.specs.Layout.{Item}
use Rattle.block_layout.specs.Objects.{Stored, globals_of}
use Rattle.typed_tree.specs.Counts.{values_of}
use Rattle.typed_tree.specs.TypedTree.{CStruct, CFunction, CProgram}
use Rattle.mid_code.specs.Code.{Step, Steps, Function, Program}
use Rattle.mid_code.specs.Formed.{most_values}
use Rattle.lowering_counts.specs.Built.{is_built, is_empty, is_built_function, are_built_locals, are_built_functions, are_built_structs, is_built_stmt, has_pointer}
use Rattle.lowering_counts.specs.Limits.{counted, HasRoom}
use Rattle.lowering_code.specs.Lower.{only, stmt_code, function_code, lowered}
use Rattle.lowering_code.specs.Ready.{IsReady}
use Rattle.lowering_code.proofs.KeptLocals.{AreKept, kept_values, kept_blocks, built_local, empty_is, nothing_stored}

pub ready_kept : (f : CFunction) → IsReady f → AreKept f.locals
ready_kept f ready j l found =
    let parts = and_parts (not (has_pointer f.result) && are_built_locals f.locals) (is_built_stmt f.body) ready.built in
    (built_local f.locals (and_parts (not (has_pointer f.result)) (are_built_locals f.locals) parts.0).1 j l found).0

-- a function's locals are among its values
pub few_locals : (f : CFunction) → IsReady f → length f.locals ≤ 250
few_locals f ready = omega (arith, ready.room, kept_values f.params f.locals (ready_kept f ready) ready.params)

pub function_is : (structs : List CStruct) (f : CFunction) (values k : ℕ) (inner body : Steps) (x : Step) → IsReady f → values ≡ counted (values_of f) → k ≡ length f.locals → inner ≡ stmt_code structs f.body 1 k → x ≡ Step.Block inner → body ≡ only x → (record { line = f.line; values = values; params = f.params; blocks = []; body = body }) ≡ function_code structs f
function_is structs f values k inner body x ready ev ek ei ex eb =
    let v : values ≡ values_of f = omega (arith, ev, ready.room) in
    let b : body ≡ only (Step.Block (stmt_code structs f.body 1 (length f.locals))) = eb ∙ ap only ex ∙ ap (λ z. only (Step.Block z)) (ei ∙ ap (stmt_code structs f.body 1) ek) in
    ap (λ z. the z [] body) v ∙ ap (λ z. the (values_of f) [] z) b ∙ ap (λ z. the (values_of f) z (only (Step.Block (stmt_code structs f.body 1 (length f.locals))))) (sym (kept_blocks 0 f.locals (ready_kept f ready)))
  where
    the : ℕ → List Item → Steps → Function
    the n blocks steps = record { line = f.line; values = n; params = f.params; blocks = blocks; body = steps }

-- ---- The program

are_ready : (fs : List CFunction) → are_built_functions fs ≡ true → All (λ f. values_of f ≤ most_values) fs → All (λ f. f.params ≤ length f.locals) fs → All IsReady fs
are_ready [] built room params = All-nil IsReady
are_ready (f ∷ fs) built room params =
    let parts = and_parts (is_built_function f) (are_built_functions fs) built in
    All-cons IsReady f fs (record { built = parts.0; room = All-head (λ f. values_of f ≤ most_values) f fs room; params = All-head (λ f. f.params ≤ length f.locals) f fs params })
    (are_ready fs parts.1 (All-tail (λ f. values_of f ≤ most_values) f fs room) (All-tail (λ f. f.params ≤ length f.locals) f fs params))

-- the requirements of a program's functions
pub slice_ready : (p : CProgram) (fs : List CFunction) → fs ≡ p.functions → is_built p ≡ true → HasRoom p → All (λ f. f.params ≤ length f.locals) p.functions → All IsReady fs
slice_ready p fs e built room params =
    subst (All IsReady) (sym e) (are_ready p.functions (and_parts (is_empty p.globals && is_empty p.texts && are_built_structs p.structs) (are_built_functions p.functions) built).1 room params)

pub lowered_is : (p : CProgram) (code : Program) → is_built p ≡ true → code.named ≡ 0 → code.globals ≡ [] → code.functions ≡ map (function_code p.structs) p.functions → code.main ≡ p.main → code ≡ lowered p
lowered_is p code built en eg ef em =
    let empty = and_parts (is_empty p.globals) (is_empty p.texts) (and_parts (is_empty p.globals && is_empty p.texts) (are_built_structs p.structs) (and_parts (is_empty p.globals && is_empty p.texts && are_built_structs p.structs) (are_built_functions p.functions) built).0).0 in
    let no_globals = empty_is p.globals empty.0 in
    let no_texts = empty_is p.texts empty.1 in
    ap (λ z. the z code.globals code.functions code.main) (en ∙ sym (ap length no_globals))
    ∙ ap (λ z. the (length p.globals) z code.functions code.main) (eg ∙ sym (nothing_stored p no_globals no_texts))
    ∙ ap (λ z. the (length p.globals) (globals_of p) z code.main) ef
    ∙ ap (λ z. the (length p.globals) (globals_of p) (map (function_code p.structs) p.functions) z) em
  where
    the : ℕ → List Stored → List Function → ℕ → Program
    the named globals functions main = record { named = named; globals = globals; functions = functions; main = main }
