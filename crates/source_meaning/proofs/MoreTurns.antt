-- Statements, calls and whole runs with more turns and deeper calls.
use Rattle.std.proofs.Common.{◌≡◌, ℕ, zero, suc, ◌+◌, ◌≤◌, Bool, true, false, List, [], ◌∷◌, Option, Some, None, refl, sym, ap, subst, arith}
use Rattle.std.specs.Prelude.{slice_get, nat_le, nat_lt, if◌then◌else◌}
use Rattle.bb_words.specs.Answers.{Answer, Goes, Ends, and_then}
use Rattle.bb_words.specs.declared.kinds.ReportKind.TheVariants.{Depth, Stack}
use Rattle.size_table.specs.declared.memory_map.TheConstants.{STACK_START, MOST_CALLS}
use Rattle.block_layout.specs.Layout.{layout, stack_under}
use Rattle.block_layout.specs.Objects.{block_items}
use Rattle.c_words.specs.declared.place.At.{At}
use Rattle.typed_tree.specs.TypedTree.{CInitializer, CDeclaration, CStart, CStmt, CStmts, CProgram, CLocal, CFunction}
use Rattle.source_meaning.specs.declared.values.Value.{Value}
use Rattle.source_meaning.specs.declared.values.Value.TheVariants.{Num, Ptr}
use Rattle.source_meaning.specs.declared.values.Want.TheVariants.{ItsValue}
use Rattle.source_meaning.specs.declared.values.Signal.{Signal}
use Rattle.source_meaning.specs.declared.values.Signal.TheVariants.{Falls, Broke, Continued, Gave}
use Rattle.source_meaning.specs.declared.values.Ending.{Ending}
use Rattle.source_meaning.specs.declared.values.Ending.TheVariants.{Exited, Reported, Trapped, Outside, Cut}
use Rattle.source_meaning.specs.Worlds.{World, Line, with_number}
use Rattle.source_meaning.specs.Accounts.{entered_at}
use Rattle.source_meaning.specs.Sites.{sites_of, sites_of_stmt, sites_of_start, sites_of_option, sites_of_initializer, first_site}
use Rattle.source_meaning.specs.States.{State, Runs, tick, done_in, local_place}
use Rattle.source_meaning.specs.Meaning.{Calls, begin, then_next, then_tail, then_again, turns, run_initializer, declare, declare_all, run_start, execute, execute_all, type_in}
use Rattle.source_meaning.specs.Runs.{pass, given, zero_of, call_function, call_if_any, call_past, calls, count_call, with_locals, return_to, first_state, exit_with, source, outcome_of}
use Rattle.source_meaning.specs.Laws.{Follows, reached, ExpressionsGrow, StatementsGrow, ProgramsGrow, RunsGrow, IsKeptBy, MoreTurnsKeep}
use Rattle.source_meaning.proofs.Later.{follows_same, noted_follows, Leads, ends_leads}
use Rattle.source_meaning.proofs.Operations.{enter_leads, leave_follows}
use Rattle.source_meaning.proofs.Longer.{Longer, IsKept, IsKeptEnd, alike, goes_on, goes_same, ends_same, cut_longer, longer_from, longer_at, longer_then, either_longer, doing_longer, value_longer, write_longer}
use Rattle.source_meaning.proofs.Expressions.{CallsAreLonger, AreLonger, run_longer, unused_longer, unused_if_any_longer, decide_longer, decide_if_any_longer, initialized_longer}

-- ---- Signals and turns

next_longer : (x : Signal) (r q : State → Runs Signal) (c : State) → Longer c (r c) (q c) → Longer c (then_next x r c) (then_next x q c)
next_longer Falls r q c h = h
next_longer Broke r q c h = goes_same _
next_longer Continued r q c h = goes_same _
next_longer (Gave v) r q c h = goes_same _

tail_longer : (x : Signal) (r q : State → Runs Signal) (c : State) → Longer c (r c) (q c) → Longer c (then_tail x r c) (then_tail x q c)
tail_longer Falls r q c h = h
tail_longer Broke r q c h = goes_same _
tail_longer Continued r q c h = h
tail_longer (Gave v) r q c h = goes_same _

again_longer : (x : Signal) (r q : State → Runs Signal) (c : State) → Longer c (r c) (q c) → Longer c (then_again x r c) (then_again x q c)
again_longer Falls r q c h = h
again_longer Broke r q c h = goes_same _
again_longer Continued r q c h = h
again_longer (Gave v) r q c h = goes_same _

-- turns that lead to later worlds do so one after another
turns_same : (n : ℕ) (q : State → Runs Signal) → ((c : State) → Longer c (q c) (q c)) → (c : State) → Longer c (turns n q c) (turns n q c)
turns_same zero q h c = ends_same _
turns_same (suc n) q h c = longer_then (h c) (λ x s. again_longer x _ _ s (turns_same n q h s))

-- a turn of the longer run leads to a later world
self : {r q : State → Runs Signal} → ((c : State) → Longer c (r c) (q c)) → (c : State) → Longer c (q c) (q c)
self h c = alike _ (h c).grows

turns_longer : (m n : ℕ) → m ≤ n → (r q : State → Runs Signal) → ((c : State) → Longer c (r c) (q c)) → (c : State) → Longer c (turns m r c) (turns n q c)
turns_longer zero n le r q h c = cut_longer _ (turns_same n q (self h) c).grows
turns_longer (suc m) zero le r q h c = absurd (omega arith)
turns_longer (suc m) (suc n) le r q h c = longer_then (h c) (λ x s. again_longer x _ _ s (turns_longer m n (omega arith) r q h s))

-- ---- Statements

module _ (g : ℕ) (p : CProgram) (call call' : Calls) (all : CallsAreLonger call call') (m n : ℕ) (le : m ≤ n) (locals : List CLocal) where
  initializer_longer : (j : ℕ) (x : Option CInitializer) (k : ℕ) (c : State) → Longer c (run_initializer g p call m locals j x k c) (run_initializer g p call' n locals j x k c)
  initializer_longer j None k c = goes_same _
  initializer_longer j (Some i) k c = initialized_longer g p call call' all i.at.line j (type_in (slice_get locals j)) i.value k c

  declare_longer : (d : CDeclaration) (k : ℕ) (c : State) → Longer c (declare g p call m locals d k c) (declare g p call' n locals d k c)
  declare_longer d k c = longer_at refl (initializer_longer d.local d.initializer k (tick c))

  declare_all_longer : (ds : List CDeclaration) (k : ℕ) (c : State) → Longer c (declare_all g p call m locals ds k c) (declare_all g p call' n locals ds k c)
  declare_all_longer [] k c = goes_same _
  declare_all_longer (d ∷ ds) k c = longer_then (declare_longer d k c) (λ x s. next_longer x _ _ s (declare_all_longer ds (k + sites_of_initializer p.structs d.initializer) s))

  start_longer : (x : CStart) (k : ℕ) (c : State) → Longer c (run_start g p call m locals x k c) (run_start g p call' n locals x k c)
  start_longer CStart.Nothing k c = goes_same _
  start_longer (CStart.Eval e) k c = unused_longer g p call call' all e k c
  start_longer (CStart.Declare ds) k c = declare_all_longer ds k c

  -- a statement has begun
  begun : {A : Type 0} {r q : Runs A} (at : At) (c : State) → Longer (begin at c) r q → Longer c r q
  begun at c h = longer_from (noted_follows (Line at.line) c.world) h

  mutual
    pub execute_longer : (x : CStmt) (k : ℕ) (c : State) → Longer c (execute g p call m locals x k c) (execute g p call' n locals x k c)
    execute_longer (CStmt.Block at xs) k c = begun at c (execute_all_longer xs k (begin at c))
    execute_longer (CStmt.Declare d) k c = declare_longer d k c
    execute_longer (CStmt.Empty at) k c = begun at c (goes_same _)
    execute_longer (CStmt.Eval at e) k c = begun at c (unused_longer g p call call' all e k (begin at c))
    execute_longer (CStmt.If at q x) k c =
        begun at c (longer_then (decide_longer g p call call' all q k (begin at c)) (λ b s.
        either_longer b _ _ _ _ (execute_longer x (k + sites_of p.structs q) s) (goes_same _)))
    execute_longer (CStmt.IfElse at q x y) k c =
        begun at c (longer_then (decide_longer g p call call' all q k (begin at c)) (λ b s.
        either_longer b _ _ _ _ (execute_longer x (k + sites_of p.structs q) s) (execute_longer y (k + sites_of p.structs q + sites_of_stmt p.structs x) s)))
    execute_longer (CStmt.While at q x) k c =
        begun at c (turns_longer m n le _ _ (λ c1. longer_then (decide_longer g p call call' all q k c1) (λ b s.
        either_longer b _ _ _ _ (execute_longer x (k + sites_of p.structs q) s) (goes_same _))) (begin at c))
    execute_longer (CStmt.Do at x q) k c =
        begun at c (turns_longer m n le _ _ (λ c1. longer_then (execute_longer x k c1) (λ t s. tail_longer t _ _ s
        (longer_then (decide_longer g p call call' all q (k + sites_of_stmt p.structs x) s) (λ b s1. goes_same _)))) (begin at c))
    execute_longer (CStmt.For at start q step x) k c =
        begun at c (longer_then (start_longer start k (begin at c)) (λ t s. next_longer t _ _ s (turns_longer m n le _ _ (λ c1.
        longer_then (decide_if_any_longer g p call call' all q (k + sites_of_start p.structs start) c1) (λ b s1. either_longer b _ _ _ _
        (longer_then (execute_longer x (k + sites_of_start p.structs start + sites_of_option p.structs q + sites_of_option p.structs step) s1) (λ t1 s2.
        tail_longer t1 _ _ s2 (unused_if_any_longer g p call call' all step (k + sites_of_start p.structs start + sites_of_option p.structs q) s2)))
        (goes_same _))) s)))
    execute_longer (CStmt.Break at) k c = begun at c (goes_same _)
    execute_longer (CStmt.Continue at) k c = begun at c (goes_same _)
    execute_longer (CStmt.Return at None) k c = begun at c (goes_same _)
    execute_longer (CStmt.Return at (Some e)) k c = begun at c (longer_then (run_longer g p call call' all e k ItsValue (begin at c)) (λ x s. value_longer x _ _ s (λ v. goes_same _)))

    execute_all_longer : (xs : CStmts) (k : ℕ) (c : State) → Longer c (execute_all g p call m locals xs k c) (execute_all g p call' n locals xs k c)
    execute_all_longer CStmts.none k c = goes_same _
    execute_all_longer (CStmts.more x xs) k c = longer_then (execute_longer x k c) (λ t s. next_longer t _ _ s (execute_all_longer xs (k + sites_of_stmt p.structs x) s))

-- ---- Calls

pass_longer : (j n : ℕ) (ls : List CLocal) (vs : List Value) (c : State) → Longer c (pass j n ls vs c) (pass j n ls vs c)
pass_longer j zero ls vs c = goes_same _
pass_longer j (suc n) [] vs c = goes_same _
pass_longer j (suc n) (l ∷ ls) [] c = goes_same _
pass_longer j (suc n) (l ∷ ls) (v ∷ vs) c = longer_then (write_longer l.ty (local_place j c) v c) (λ x s. pass_longer (suc j) n ls vs s)

function_longer : (g : ℕ) (f : CFunction) (r q : State → Runs Signal) → AreLonger r q → (vs : List Value) (c : State) → Longer c (call_function g f r vs c) (call_function g f q vs c)
function_longer g f r q h vs c =
    longer_at refl (longer_then (doing_longer _ (count_call f c) (enter_leads g f.line (block_items f))) (λ entered c1.
    longer_at refl (longer_then (pass_longer 0 f.params f.locals vs (with_locals g f c c1)) (λ passed c2.
    longer_then (h c2) (λ s c3. goes_on _ (return_to g f c c3) (leave_follows (block_items f) c.world c3.world))))))

if_any_longer : (g : ℕ) (f : Option CFunction) (r q : CFunction → State → Runs Signal) → ((h : CFunction) → AreLonger (r h) (q h)) → (vs : List Value) (c : State) → Longer c (call_if_any g f r vs c) (call_if_any g f q vs c)
if_any_longer g None r q h vs c = ends_same _
if_any_longer g (Some f) r q h vs c = function_longer g f (r f) (q f) (h f) vs c

past_same : (f : Option CFunction) (c : State) → Longer c (call_past f c) (call_past f c)
past_same None c = ends_same _
past_same (Some f) c = of (nat_le MOST_CALLS c.world.depth)
  where
    of : (b : Bool) → Longer {A = Value} c (if b then Ends (Reported Depth f.line) (count_call f c) else Ends Cut c) (if b then Ends (Reported Depth f.line) (count_call f c) else Ends Cut c)
    of true = alike _ follows_same
    of false = ends_same _

-- with so many turns and calls the calls are alike
calls_same : (g : ℕ) (p : CProgram) (m j : ℕ) → CallsAreLonger (calls g p m j) (calls g p m j)
calls_same g p m zero f vs c = past_same (slice_get p.functions f) c
calls_same g p m (suc j) f vs c =
    if_any_longer g (slice_get p.functions f) _ _ (λ h s. execute_longer g p (calls g p m j) (calls g p m j) (calls_same g p m j) m m (omega arith) h.locals h.body (first_site p.structs p.functions f) s) vs c

-- where so many calls are live a call is reported, however many may be nested
deep_longer : (g : ℕ) (f : Option CFunction) (q : CFunction → State → Runs Signal) → ((h : CFunction) → AreLonger (q h) (q h)) → (vs : List Value) (c : State) → Longer c (call_past f c) (call_if_any g f q vs c)
unfolding and_then
deep_longer g None q h vs c = ends_same _
deep_longer g (Some f) q h vs c = of (nat_le MOST_CALLS c.world.depth) refl
  where
    growing : Follows c.world (reached (call_function g f (q f) vs c)).world
    growing = (function_longer g f (q f) (q f) (h f) vs c).grows

    answers : Answer Ending World (Unit {0}) → Runs Value
    answers r = and_then (done_in (count_call f c) r) (λ entered c1. and_then (pass 0 f.params f.locals vs (with_locals g f c c1)) (λ passed c2.
        and_then (q f c2) (λ s c3. Goes (given (zero_of f.result) s) (return_to g f c c3))))

    reported : (b : Bool) → Answer Ending World (Unit {0})
    reported b = if b then Ends (Reported Depth f.line) c.world else
        (if nat_lt (stack_under g c.world.stack (block_items f)) STACK_START then Ends (Reported Stack f.line) c.world
        else Goes tt (entered_at (stack_under g c.world.stack (block_items f)) (layout g (block_items f)) c.world))

    of : (b : Bool) → nat_le MOST_CALLS c.world.depth ≡ b → Longer c (if b then Ends (Reported Depth f.line) (count_call f c) else Ends Cut c) (call_function g f (q f) vs c)
    of true e = record { kept = ap (λ b. answers (reported b)) e; grows = growing }
    of false e = cut_longer _ growing

calls_longer : (g : ℕ) (p : CProgram) (m n i j : ℕ) → m ≤ n → i ≤ j → CallsAreLonger (calls g p m i) (calls g p n j)
calls_longer g p m n zero zero le le2 f vs c = past_same (slice_get p.functions f) c
calls_longer g p m n zero (suc j) le le2 f vs c =
    deep_longer g (slice_get p.functions f) _ (λ h s. execute_longer g p (calls g p n j) (calls g p n j) (calls_same g p n j) n n (omega arith) h.locals h.body (first_site p.structs p.functions f) s) vs c
calls_longer g p m n (suc i) zero le le2 f vs c = absurd (omega arith)
calls_longer g p m n (suc i) (suc j) le le2 f vs c =
    if_any_longer g (slice_get p.functions f) _ _ (λ h s. execute_longer g p (calls g p m i) (calls g p n j) (calls_longer g p m n i j le (omega arith)) m n le h.locals h.body (first_site p.structs p.functions f) s) vs c

-- ---- Whole runs

exit_longer : (v : Value) (c : State) → Longer c (exit_with v c) (exit_with v c)
exit_longer v c = doing_longer _ c (λ w. of v w)
  where
    of : (v : Value) (w : World) → Leads {A = Unit {0}} w (with_number v (λ n. Ends (Exited n)) w)
    of (Num n) w = ends_leads _
    of (Ptr q) w = ends_leads _

source_longer : (g : ℕ) (p : CProgram) (input : List ℕ) (m n : ℕ) → m ≤ n → Longer (first_state g p input) (source g p input m) (source g p input n)
source_longer g p input m n le = longer_then (calls_longer g p m n m n le le p.main [] (first_state g p input)) (λ v s. exit_longer v s)

end_follows : (w : World) (q : Runs (Unit {0})) → Follows w (reached q).world → Follows w (outcome_of q).state.world
end_follows w (Goes a s) h = h
end_follows w (Ends e s) h = h

kept_by : (e : Ending) (s : State) (q : Runs (Unit {0})) → IsKeptEnd e s q → IsKeptBy e (record { ending = e; state = s }) (outcome_of q)
kept_by (Exited n) s q h = ap outcome_of h
kept_by (Reported kind line) s q h = ap outcome_of h
kept_by (Trapped kind) s q h = ap outcome_of h
kept_by (Outside cause) s q h = ap outcome_of h
kept_by Cut s q h = end_follows s.world q h

kept : (r q : Runs (Unit {0})) → IsKept r q → IsKeptBy (outcome_of r).ending (outcome_of r) (outcome_of q)
kept (Goes a s) q h = subst (λ z. Follows s.world (outcome_of z).state.world) (sym h) follows_same
kept (Ends e s) q h = kept_by e s q h

pub more_turns_keep : MoreTurnsKeep
more_turns_keep g p input m n le = kept (source g p input m) (source g p input n) (source_longer g p input m n le).kept

pub runs_grow : RunsGrow
runs_grow g p input m = end_follows _ (source g p input m) (source_longer g p input m m (omega arith)).grows

pub programs_grow : ProgramsGrow
programs_grow g p m n f vs c = (calls_same g p m n f vs c).grows

pub expressions_grow : ExpressionsGrow
expressions_grow g p call h e site want c = (run_longer g p call call (λ f vs s. alike (call f vs s) (h f vs s)) e site want c).grows

pub statements_grow : StatementsGrow
statements_grow g p call m locals h x site c = (execute_longer g p call call (λ f vs s. alike (call f vs s) (h f vs s)) m m (omega arith) locals x site c).grows
