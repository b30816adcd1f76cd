-- The meaning of expressions, initializers and statements (C11 6.5, 6.7.9, 6.8). Operands and arguments are evaluated from
-- left to right. Each expression and statement has the number of its first pointer move.
use Rattle.std.specs.Prelude.{ℕ, zero, suc, ◌+◌, ◌*◌, Bool, true, false, List, [], ◌∷◌, length, Option, Some, None, slice_get}
use Rattle.bb_words.specs.Answers.{Goes, Ends, and_then, either}
use Rattle.bb_words.specs.declared.steps.Width.{Width}
use Rattle.bb_words.specs.declared.steps.Width.TheVariants as width
use Rattle.block_layout.specs.Layout.{layout}
use Rattle.block_layout.specs.Objects.{global_items}
use Rattle.c_words.specs.declared.place.At.{At}
use Rattle.typed_tree.specs.declared.typed.GlobalObject.{GlobalObject}
use Rattle.typed_tree.specs.declared.typed.GlobalObject.TheVariants as global
use Rattle.typed_tree.specs.declared.typed_expr.Called.{Called}
use Rattle.typed_tree.specs.declared.typed_expr.Called.TheVariants.{Defined, Library}
use Rattle.typed_tree.specs.Types.{CType, is_struct}
use Rattle.typed_tree.specs.Sizes.{size_of}
use Rattle.typed_tree.specs.TypedRules.{part_type}
use Rattle.typed_tree.specs.TypedTree.{CExpr, CForm, CExprs, CInitial, CInitials, CInitializer, CDeclaration, CStart, CStmt, CStmts, CLocal, CProgram, type_of}
use Rattle.source_meaning.specs.declared.values.Pointer.{Pointer}
use Rattle.source_meaning.specs.declared.values.Pointer.TheVariants.{Null}
use Rattle.source_meaning.specs.declared.values.Value.{Value}
use Rattle.source_meaning.specs.declared.values.Value.TheVariants.{Num, Ptr}
use Rattle.source_meaning.specs.declared.values.Slot.{Slot}
use Rattle.source_meaning.specs.declared.values.Slot.TheVariants.{Kept, Lies}
use Rattle.source_meaning.specs.declared.values.Place.TheVariants.{Memory}
use Rattle.source_meaning.specs.declared.values.Held.{Held}
use Rattle.source_meaning.specs.declared.values.Held.TheVariants.{Of, At as InPlace}
use Rattle.source_meaning.specs.declared.values.Want.{Want}
use Rattle.source_meaning.specs.declared.values.Want.TheVariants.{ItsValue, ItsPlace}
use Rattle.source_meaning.specs.declared.values.Signal.{Signal}
use Rattle.source_meaning.specs.declared.values.Signal.TheVariants.{Falls, Broke, Continued, Gave}
use Rattle.source_meaning.specs.declared.values.Ending.TheVariants.{Cut}
use Rattle.source_meaning.specs.Worlds.{Line, noted}
use Rattle.source_meaning.specs.Comparisons.{truth}
use Rattle.source_meaning.specs.Copies.{clear, initialize}
use Rattle.source_meaning.specs.Accounts.{library}
use Rattle.source_meaning.specs.Start.{pointer_to}
use Rattle.source_meaning.specs.Moves.{distance}
use Rattle.source_meaning.specs.Sites.{pointee, offset_at, sites_of, sites_of_all, sites_of_initial}
use Rattle.source_meaning.specs.Sites.{sites_of_initializer, sites_of_start, sites_of_option, sites_of_stmt}
use Rattle.source_meaning.specs.States.{State, Runs, count, tick, doing, giving, senseless, using_value, using_number}
use Rattle.source_meaning.specs.States.{using_pointer, using_place, using_address, local_place, with_slot, width_of, finish}
use Rattle.source_meaning.specs.Operators.{reach, reach_member, cast, wanted_by_conversion, convert}
use Rattle.source_meaning.specs.Operators.{wanted_by_operator, on_unary, run_binary, on_step, run_assign, on_copy}

-- how a call of function f with these arguments answers
abbrev pub Calls : Type 0
Calls = (f : ℕ) → List Value → State → Runs Value

-- nothing has the type void
abbrev pub type_or_void : Option CType → CType
type_or_void None = CType.Void
type_or_void (Some t) = t

-- where a global object lies
abbrev pub global_place : (g : ℕ) → CProgram → GlobalObject → Pointer
global_place g p o = pointer_to (length p.globals) (layout g (global_items p)) o

module _ (g : ℕ) (p : CProgram) (call : Calls) where
  -- 6.5.2.2 p4: a call, once its arguments are evaluated
  abbrev pub called : (site line : ℕ) → Called → List Value → State → Runs Held
  called site line (Defined f) vs c = and_then (call f vs c) (λ v. Goes (Of v))
  called site line (Library f) vs c = giving (library g f site (site + 1) line vs) c

  abbrev mutual
    -- An expression is evaluated for its value, or its place is found. Each node counts, but not the conversions that the
    -- language makes by itself.
    pub run : CExpr → (site : ℕ) → Want → State → Runs Held
    run (CExpr.expr at t form) n want c = run_form form n at.line t want c

    pub run_form : CForm → (site line : ℕ) → CType → Want → State → Runs Held
    -- 6.5.1: names, constants, strings; 6.5.3.4
    run_form (CForm.Local k) n line t want c = finish t want (local_place k c) (tick c)
    run_form (CForm.Global k) n line t want c = finish t want (Memory (global_place g p (global.Named k))) (tick c)
    run_form (CForm.Text k) n line t want c = finish t want (Memory (global_place g p (global.Text k))) (tick c)
    run_form (CForm.Number x) n line t want c = Goes (Of (Num x)) (tick c)
    run_form (CForm.Character x) n line t want c = Goes (Of (Num x)) (tick c)
    run_form CForm.Null n line t want c = Goes (Of (Ptr Null)) (tick c)
    run_form CForm.Eof n line t want c = Goes (Of (Num 4294967295)) (tick c)
    run_form (CForm.SizeofExpression e) n line t want c = Goes (Of (Num (size_of p.structs (type_of e)))) (tick c)
    run_form (CForm.SizeofType u) n line t want c = Goes (Of (Num (size_of p.structs u))) (tick c)
    -- 6.3, 6.5.4
    run_form (CForm.Convert k e) n line t want c = and_then (run e n (wanted_by_conversion k) c) (convert k t)
    run_form (CForm.Cast e) n line t want c = and_then (run e n ItsValue (tick c)) (λ x. using_value x (λ v. giving (cast t v)))
    -- 6.5.2
    run_form (CForm.Index a b) n line t want c =
        and_then (run a n ItsValue (tick c)) (λ x c1. and_then (run b (n + sites_of p.structs a) ItsValue c1) (λ y.
        using_pointer x (λ q. using_number y (λ i.
        reach g (n + sites_of p.structs a + sites_of p.structs b) line t want (distance false (size_of p.structs t) i) q))))
    run_form (CForm.Call f es) n line t want c = and_then (run_all es n (tick c)) (called (n + sites_of_all p.structs es) line f)
    run_form (CForm.Member e m) n line t want c =
        and_then (run e n ItsPlace (tick c)) (λ x. using_address x
        (reach_member g (n + sites_of p.structs e) line (offset_at p.structs (type_of e) m) t want))
    run_form (CForm.Arrow e m) n line t want c =
        and_then (run e n ItsValue (tick c)) (λ x. using_pointer x
        (reach_member g (n + sites_of p.structs e) line (offset_at p.structs (pointee (type_of e)) m) t want))
    run_form (CForm.StepBefore o e) n line t want c =
        and_then (run e n ItsPlace (tick c)) (λ x. using_place x (on_step p.structs g (n + sites_of p.structs e) line true o t))
    run_form (CForm.StepAfter o e) n line t want c =
        and_then (run e n ItsPlace (tick c)) (λ x. using_place x (on_step p.structs g (n + sites_of p.structs e) line false o t))
    -- 6.5.3 to 6.5.14
    run_form (CForm.Unary o e) n line t want c = and_then (run e n (wanted_by_operator o) (tick c)) (on_unary o t want)
    run_form (CForm.Binary o a b) n line t want c =
        run_binary p.structs g (n + sites_of p.structs a + sites_of p.structs b) o line (type_of a) (type_of b)
        (run a n ItsValue) (run b (n + sites_of p.structs a) ItsValue) (tick c)
    -- 6.5.15: one of the second and third operands is evaluated
    run_form (CForm.Conditional q a b) n line t want c =
        and_then (run q n ItsValue (tick c)) (λ x. using_value x (λ v c1. and_then (doing (truth v) c1) (λ s.
        either s (run a (n + sites_of p.structs q) want) (run b (n + sites_of p.structs q + sites_of p.structs a) want))))
    -- 6.5.16: the place is found, then the value
    run_form (CForm.Assign o a b) n line t want c =
        and_then (run a n ItsPlace (tick c)) (λ x.
        run_assign p.structs g (n + sites_of p.structs a + sites_of p.structs b) line o (type_of a) (type_of b) x (run b (n + sites_of p.structs a)))
    -- 6.5.17
    run_form (CForm.Comma a b) n line t want c =
        and_then (run a n ItsValue (tick c)) (λ x. run b (n + sites_of p.structs a) want)

    -- the values of arguments, the first one first
    pub run_all : CExprs → (site : ℕ) → State → Runs (List Value)
    run_all CExprs.none n c = Goes [] c
    run_all (CExprs.more e es) n c =
        and_then (run e n ItsValue c) (λ x. using_value x (λ v c1.
        and_then (run_all es (n + sites_of p.structs e) c1) (λ vs. Goes (v ∷ vs))))

  -- an expression whose value is not used (6.8.3 p2)
  abbrev pub run_unused : CExpr → (site : ℕ) → State → Runs Signal
  run_unused e n c = and_then (run e n ItsValue c) (λ x. Goes Falls)

  abbrev pub run_unused_if_any : Option CExpr → (site : ℕ) → State → Runs Signal
  run_unused_if_any None n c = Goes Falls c
  run_unused_if_any (Some e) n c = run_unused e n c

  -- whether a condition holds; a missing one does (6.8.5.3 p2)
  abbrev pub decide : CExpr → (site : ℕ) → State → Runs Bool
  decide e n c = and_then (run e n ItsValue c) (λ x. using_value x (λ v. doing (truth v)))

  abbrev pub decide_if_any : Option CExpr → (site : ℕ) → State → Runs Bool
  decide_if_any None n c = Goes true c
  decide_if_any (Some e) n c = decide e n c

  -- ---- Initializers (6.7.9)

  -- the bytes of a string come to lie in object k from an offset on
  abbrev pub fill_text : List ℕ → (k offset : ℕ) → State → Runs Signal
  fill_text [] k offset c = Goes Falls c
  fill_text (byte ∷ bytes) k offset c =
      and_then (doing (initialize k offset width.Byte (Num byte)) c) (λ done. fill_text bytes k (offset + 1))

  abbrev pub fill_scalar : Option Width → (k offset : ℕ) → Value → State → Runs Signal
  fill_scalar None k offset v c = senseless c
  fill_scalar (Some width) k offset v c = and_then (doing (initialize k offset width v) c) (λ done. Goes Falls)

  -- the offset of part i of an array or a struct
  abbrev pub part_offset : CType → ℕ → ℕ
  part_offset (CType.Array t m) i = size_of p.structs t * i
  part_offset t i = offset_at p.structs t i

  abbrev mutual
    -- A part of an object k, of this type and at this offset, gets what its initializer says.
    pub fill_part : CInitial → (site : ℕ) → CType → (k offset : ℕ) → State → Runs Signal
    fill_part (CInitial.Value e) n t k offset c =
        and_then (run e n ItsValue c) (λ x. using_value x (fill_scalar (width_of t) k offset))
    fill_part (CInitial.Text at bytes) n t k offset c = fill_text bytes k offset (count (1 + length bytes) c)
    fill_part (CInitial.Braces at parts) n t k offset c = fill_parts parts n t 0 k offset c

    -- the parts of an object of this type from part i on
    pub fill_parts : CInitials → (site : ℕ) → CType → (i k offset : ℕ) → State → Runs Signal
    fill_parts CInitials.none n t i k offset c = Goes Falls c
    fill_parts (CInitials.more x xs) n t i k offset c =
        and_then (fill_part x n (type_or_void (part_type p.structs t i)) k (offset + part_offset t i) c) (λ s.
        fill_parts xs (n + sites_of_initial p.structs x) t (suc i) k offset)

  -- an object is set to zero, and then its parts get what stands between the braces, or the bytes of the string
  abbrev pub fill_object : CInitial → (site : ℕ) → CType → Slot → State → Runs Signal
  fill_object x n t (Kept v) c = senseless c
  fill_object x n t (Lies k) c = and_then (doing (clear k) c) (λ done. fill_part x n t k 0)

  -- local j is a scalar and gets its value
  abbrev pub start_scalar : CType → (j : ℕ) → Slot → Value → State → Runs Signal
  start_scalar t j (Kept old) v c = Goes Falls (record c { locals = with_slot c.locals j (Kept v) })
  start_scalar t j (Lies k) v c = fill_scalar (width_of t) k 0 v c

  abbrev pub give_scalar : (j : ℕ) → CType → (State → Runs Held) → State → Runs Signal
  give_scalar j t e c = and_then (e c) (λ x. using_value x (λ v c1. start_scalar t j (c1.locals j) v c1))

  abbrev pub copy_struct : (line j : ℕ) → CType → (site : ℕ) → (State → Runs Held) → State → Runs Signal
  copy_struct line j t n e c =
      and_then (e c) (λ y c1.
      and_then (on_copy g n line (size_of p.structs t) (InPlace (local_place j c1)) y c1) (λ done. Goes Falls))

  -- Local j, of this type, gets its initializer, whose `=` stands on this line. A struct may be copied from a place, by a
  -- span of each and byte by byte, as by an assignment.
  abbrev pub initialized : (line j : ℕ) → CType → CInitial → (site : ℕ) → State → Runs Signal
  initialized line j t (CInitial.Value e) n c =
      either (is_struct (type_of e)) (copy_struct line j (type_of e) (n + sites_of p.structs e) (run e n ItsPlace))
      (give_scalar j (type_of e) (run e n ItsValue)) c
  initialized line j t (CInitial.Text at bytes) n c = fill_object (CInitial.Text at bytes) n t (c.locals j) c
  initialized line j t (CInitial.Braces at parts) n c = fill_object (CInitial.Braces at parts) n t (c.locals j) c

-- the type of a local
abbrev pub type_in : Option CLocal → CType
type_in None = CType.Void
type_in (Some l) = l.ty

-- a statement of this line begins
abbrev pub begin : At → State → State
begin at c = record c { world = noted (Line at.line) c.world; nodes = c.nodes + 1 }

-- the next statement comes only where this one falls through
abbrev pub then_next : Signal → (State → Runs Signal) → State → Runs Signal
then_next Falls go c = go c
then_next Broke go c = Goes Broke c
then_next Continued go c = Goes Continued c
then_next (Gave v) go c = Goes (Gave v) c

-- 6.8.6.2: in a turn of a loop, what comes after the body comes after `continue` too
abbrev pub then_tail : Signal → (State → Runs Signal) → State → Runs Signal
then_tail Falls go c = go c
then_tail Broke go c = Goes Broke c
then_tail Continued go c = go c
then_tail (Gave v) go c = Goes (Gave v) c

-- 6.8.6.3: the next turn of a loop comes unless the one before left the loop
abbrev pub then_again : Signal → (State → Runs Signal) → State → Runs Signal
then_again Falls go c = go c
then_again Broke go c = Goes Falls c
then_again Continued go c = go c
then_again (Gave v) go c = Goes (Gave v) c

-- at most n turns; where more are needed, the run is cut at the beginning of the next one
abbrev pub turns : ℕ → (State → Runs Signal) → State → Runs Signal
turns zero turn c = Ends Cut c
turns (suc n) turn c = and_then (turn c) (λ s. then_again s (turns n turn))

-- in a function with these locals, each run of a loop having at most m turns
module _ (g : ℕ) (p : CProgram) (call : Calls) (m : ℕ) (locals : List CLocal) where
  abbrev pub run_initializer : (j : ℕ) → Option CInitializer → (site : ℕ) → State → Runs Signal
  run_initializer j None n c = Goes Falls c
  run_initializer j (Some i) n c = initialized g p call i.at.line j (type_in (slice_get locals j)) i.value n c

  -- 6.7.9: a declared name counts as a node; without an initializer nothing happens
  abbrev pub declare : CDeclaration → (site : ℕ) → State → Runs Signal
  declare d n c = run_initializer d.local d.initializer n (tick c)

  abbrev pub declare_all : List CDeclaration → (site : ℕ) → State → Runs Signal
  declare_all [] n c = Goes Falls c
  declare_all (d ∷ ds) n c =
      and_then (declare d n c) (λ s. then_next s (declare_all ds (n + sites_of_initializer p.structs d.initializer)))

  abbrev pub run_start : CStart → (site : ℕ) → State → Runs Signal
  run_start CStart.Nothing n c = Goes Falls c
  run_start (CStart.Eval e) n c = run_unused g p call e n c
  run_start (CStart.Declare ds) n c = declare_all ds n c

  abbrev mutual
    -- 6.8: each statement notes its line as it begins, and counts as a node; a declaration is no statement.
    pub execute : CStmt → (site : ℕ) → State → Runs Signal
    execute (CStmt.Block at xs) n c = execute_all xs n (begin at c)
    execute (CStmt.Declare d) n c = declare d n c
    execute (CStmt.Empty at) n c = Goes Falls (begin at c)
    execute (CStmt.Eval at e) n c = run_unused g p call e n (begin at c)
    -- 6.8.4.1
    execute (CStmt.If at q x) n c =
        and_then (decide g p call q n (begin at c)) (λ s. either s (execute x (n + sites_of p.structs q)) (Goes Falls))
    execute (CStmt.IfElse at q x y) n c =
        and_then (decide g p call q n (begin at c)) (λ s.
        either s (execute x (n + sites_of p.structs q)) (execute y (n + sites_of p.structs q + sites_of_stmt p.structs x)))
    -- 6.8.5: a turn of `while` and of `for` begins at the condition, one of `do` at the body
    execute (CStmt.While at q x) n c =
        turns m (λ c1. and_then (decide g p call q n c1) (λ s. either s (execute x (n + sites_of p.structs q)) (Goes Broke))) (begin at c)
    execute (CStmt.Do at x q) n c =
        turns m (λ c1. and_then (execute x n c1) (λ s. then_tail s (λ c2.
        and_then (decide g p call q (n + sites_of_stmt p.structs x) c2) (λ b. Goes (either b Falls Broke))))) (begin at c)
    execute (CStmt.For at start q step x) n c =
        and_then (run_start start n (begin at c)) (λ s. then_next s (turns m (λ c1.
        and_then (decide_if_any g p call q (n + sites_of_start p.structs start) c1) (λ b. either b
        (λ c2. and_then (execute x (n + sites_of_start p.structs start + sites_of_option p.structs q + sites_of_option p.structs step) c2) (λ t.
        then_tail t (run_unused_if_any g p call step (n + sites_of_start p.structs start + sites_of_option p.structs q))))
        (Goes Broke)))))
    -- 6.8.6
    execute (CStmt.Break at) n c = Goes Broke (begin at c)
    execute (CStmt.Continue at) n c = Goes Continued (begin at c)
    execute (CStmt.Return at None) n c = Goes (Gave (Num 0)) (begin at c)
    execute (CStmt.Return at (Some e)) n c = and_then (run g p call e n ItsValue (begin at c)) (λ x. using_value x (λ v. Goes (Gave v)))

    -- the items of a block, one after another (6.8 p2)
    pub execute_all : CStmts → (site : ℕ) → State → Runs Signal
    execute_all CStmts.none n c = Goes Falls c
    execute_all (CStmts.more x xs) n c = and_then (execute x n c) (λ s. then_next s (execute_all xs (n + sites_of_stmt p.structs x)))
