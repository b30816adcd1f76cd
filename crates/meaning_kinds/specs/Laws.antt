-- A typed program never comes to a value of the wrong kind.
use Rattle.std.specs.Prelude.{◌≡◌, ℕ, Bool, List, Some, slice_get}
use Rattle.typed_tree.specs.TypedTree.{CExpr, CDeclaration, CStart, CStmt, CFunction, CProgram}
use Rattle.typed_tree.specs.Walk.{some_expr, over_declaration, over_start}
use Rattle.typed_tree.specs.TypedBody.{IsExpr, IsDeclaration, IsStart, IsStmt}
use Rattle.typed_tree.specs.Typed.{Typed, environment_of, refers_to, stmt_refers}
use Rattle.source_meaning.specs.declared.values.Want.{Want}
use Rattle.source_meaning.specs.declared.values.OutsideCause.TheVariants.{Kind}
use Rattle.source_meaning.specs.declared.values.Ending.TheVariants.{Outside}
use Rattle.source_meaning.specs.States.{State}
use Rattle.source_meaning.specs.Meaning.{Calls, run, declare, run_start, execute}
use Rattle.source_meaning.specs.Runs.{calls, outcome}
use Rattle.meaning_kinds.specs.Kinds.{Sound, HeldFits, MayWant, SignalFits, KeepsKinds, CallsKeepKinds, Never, refers}

-- No run of a typed program leaves its objects by a number where a pointer is wanted, by a pointer where a number is, or
-- by a place where a value is: whatever it reads, whatever the size of a slot, and wherever it is cut.
abbrev pub TypedKeepsKinds : Type 0
TypedKeepsKinds = (g : ℕ) (p : CProgram) (input : List ℕ) (m : ℕ) → Typed p → (outcome g p input m).ending ≡ Outside Kind → ⊥

-- The calls of a typed program keep kinds.
abbrev pub ProgramsKeepKinds : Type 0
ProgramsKeepKinds = (g : ℕ) (p : CProgram) (m n : ℕ) → Typed p → CallsKeepKinds p (calls g p m n)

-- Whatever calls there are that keep kinds, each typed expression does, in which `&` is applied to no local that lies in no
-- object: it gives a value of its type's kind, or a place of its type.
abbrev pub ExpressionsKeepKinds : Type 0
ExpressionsKeepKinds =
    (g : ℕ) (p : CProgram) (i : ℕ) (f : CFunction) → Typed p → slice_get p.functions i ≡ Some f →
    (call : Calls) → CallsKeepKinds p call →
    (e : CExpr) → IsExpr (environment_of p f) e → Never f.locals (λ k. some_expr (refers_to k) e) →
    (site : ℕ) (want : Want) → MayWant want e → (c : State) → Sound f.locals c →
    KeepsKinds f.locals (HeldFits f.locals want e) (run g p call e site want c)

-- So does each typed statement: where it leaves with a value, that has the kind of the function's result.
abbrev pub StatementsKeepKinds : Type 0
StatementsKeepKinds =
    (g : ℕ) (p : CProgram) (i : ℕ) (f : CFunction) → Typed p → slice_get p.functions i ≡ Some f →
    (call : Calls) → CallsKeepKinds p call →
    (m : ℕ) (in_loop : Bool) (x : CStmt) → IsStmt (environment_of p f) in_loop x → Never f.locals (λ k. stmt_refers k x) →
    (site : ℕ) (c : State) → Sound f.locals c →
    KeepsKinds f.locals (SignalFits f.result) (execute g p call m f.locals x site c)

-- and what stands in a statement: declarations, and what a `for` begins with
abbrev pub DeclarationsKeepKinds : Type 0
DeclarationsKeepKinds =
    (g : ℕ) (p : CProgram) (i : ℕ) (f : CFunction) → Typed p → slice_get p.functions i ≡ Some f →
    (call : Calls) → CallsKeepKinds p call →
    (m : ℕ) (d : CDeclaration) → IsDeclaration (environment_of p f) d → Never f.locals (λ k. over_declaration (refers k) d) →
    (site : ℕ) (c : State) → Sound f.locals c →
    KeepsKinds f.locals (SignalFits f.result) (declare g p call m f.locals d site c)

abbrev pub StartsKeepKinds : Type 0
StartsKeepKinds =
    (g : ℕ) (p : CProgram) (i : ℕ) (f : CFunction) → Typed p → slice_get p.functions i ≡ Some f →
    (call : Calls) → CallsKeepKinds p call →
    (m : ℕ) (x : CStart) → IsStart (environment_of p f) x → Never f.locals (λ k. over_start (refers k) x) →
    (site : ℕ) (c : State) → Sound f.locals c →
    KeepsKinds f.locals (SignalFits f.result) (run_start g p call m f.locals x site c)

-- In the body of a function `&` is applied to no local that lies in no object, so these laws speak of all its parts.
abbrev pub BodiesReferToBlocks : Type 0
BodiesReferToBlocks =
    (p : CProgram) (i : ℕ) (f : CFunction) → Typed p → slice_get p.functions i ≡ Some f → Never f.locals (λ k. stmt_refers k f.body)
