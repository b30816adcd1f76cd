-- Statements of a typed function.
use Rattle.std.proofs.Common.{◌≡◌, ℕ, zero, suc, ◌+◌, Bool, true, false, List, [], ◌∷◌, Option, Some, None, sym, ap, ◌∙◌, subst}
use Rattle.std.specs.Prelude.{◌||◌, slice_get}
use Rattle.bb_words.specs.Answers.{Goes, either}
use Rattle.c_words.specs.declared.place.At.{At}
use Rattle.typed_tree.specs.Types.{CType}
use Rattle.typed_tree.specs.TypedTree.{CExpr, CInitializer, CDeclaration, CStart, CStmt, CStmts, CLocal, CFunction, CProgram}
use Rattle.typed_tree.specs.Walk.{over_initializer, over_declarations, over_start, over_expr_if_any, over_stmts}
use Rattle.typed_tree.specs.TypedBody.{Environment, IsExpr, IsInitialized, MayInitialize, IsDeclaration, AreDeclarations, IsStart, IsTestedIfAny, IsEvaluatedIfAny, IsStmt, AreStmts}
use Rattle.typed_tree.specs.Typed.{environment_of, stmt_refers}
use Rattle.source_meaning.specs.declared.values.Value.TheVariants.{Num}
use Rattle.source_meaning.specs.declared.values.Want.TheVariants.{ItsValue}
use Rattle.source_meaning.specs.declared.values.Signal.{Signal}
use Rattle.source_meaning.specs.declared.values.Signal.TheVariants.{Falls, Broke, Continued, Gave}
use Rattle.source_meaning.specs.Sites.{sites_of, sites_of_stmt, sites_of_start, sites_of_option, sites_of_initializer}
use Rattle.source_meaning.specs.States.{State, Runs, tick}
use Rattle.source_meaning.specs.Meaning.{Calls, run_unused, run_unused_if_any, decide, decide_if_any, type_in, begin, then_next, then_tail, then_again, turns, run_initializer, declare, declare_all, run_start, execute, execute_all}
use Rattle.meaning_kinds.specs.Kinds.{refers, Sound, SignalFits, KeepsKinds, CallsKeepKinds, Never}
use Rattle.meaning_kinds.proofs.ValueKinds.{as_void, Anything, keeps_value, keeps_end, keeps_then, keeps_if, keeps_doing}
use Rattle.meaning_kinds.proofs.Acts.{truth_gives}
use Rattle.meaning_kinds.proofs.Places.{use_value}
use Rattle.meaning_kinds.proofs.Operators.{kind_by}
use Rattle.meaning_kinds.proofs.Finding.{found_image, left, right, mentions}
use Rattle.meaning_kinds.proofs.Settings.{Setting}
use Rattle.meaning_kinds.proofs.Expressions.{run_kind}
use Rattle.meaning_kinds.proofs.Initials.{initialized_kind}

-- ---- Signals and turns

module _ (ls : List CLocal) (t : CType) where
  next_kind : (x : Signal) (go : State → Runs Signal) (c : State) → SignalFits t x → Sound ls c → KeepsKinds ls (SignalFits t) (go c) → KeepsKinds ls (SignalFits t) (then_next x go c)
  next_kind Falls go c h s k = k
  next_kind Broke go c h s k = keeps_value _ _ tt s
  next_kind Continued go c h s k = keeps_value _ _ tt s
  next_kind (Gave v) go c h s k = keeps_value _ _ h s

  tail_kind : (x : Signal) (go : State → Runs Signal) (c : State) → SignalFits t x → Sound ls c → KeepsKinds ls (SignalFits t) (go c) → KeepsKinds ls (SignalFits t) (then_tail x go c)
  tail_kind Falls go c h s k = k
  tail_kind Broke go c h s k = keeps_value _ _ tt s
  tail_kind Continued go c h s k = k
  tail_kind (Gave v) go c h s k = keeps_value _ _ h s

  again_kind : (x : Signal) (go : State → Runs Signal) (c : State) → SignalFits t x → Sound ls c → KeepsKinds ls (SignalFits t) (go c) → KeepsKinds ls (SignalFits t) (then_again x go c)
  again_kind Falls go c h s k = k
  again_kind Broke go c h s k = keeps_value _ _ tt s
  again_kind Continued go c h s k = k
  again_kind (Gave v) go c h s k = keeps_value _ _ h s

  turns_kind : (n : ℕ) (turn : State → Runs Signal) → ((c : State) → Sound ls c → KeepsKinds ls (SignalFits t) (turn c)) → (c : State) → Sound ls c → KeepsKinds ls (SignalFits t) (turns n turn c)
  turns_kind zero turn k c s = keeps_end _ _ tt
  turns_kind (suc n) turn k c s = keeps_then (k c s) (λ x d h r. again_kind x _ d h r (turns_kind n turn k d r))

  broken_or_on : (b : Bool) (c : State) → Sound ls c → KeepsKinds ls (SignalFits t) (Goes (either b Falls Broke) c)
  broken_or_on true c s = keeps_value _ _ tt s
  broken_or_on false c s = keeps_value _ _ tt s

abbrev initializer_mentions : Option CInitializer → ℕ → Bool
initializer_mentions x k = over_initializer (refers k) x

abbrev declarations_mention : List CDeclaration → ℕ → Bool
declarations_mention ds k = over_declarations (refers k) ds

abbrev start_mentions : CStart → ℕ → Bool
start_mentions x k = over_start (refers k) x

abbrev option_mentions : Option CExpr → ℕ → Bool
option_mentions x k = over_expr_if_any (refers k) x

abbrev stmt_mentions : CStmt → ℕ → Bool
stmt_mentions x k = stmt_refers k x

abbrev stmts_mention : CStmts → ℕ → Bool
stmts_mention xs k = over_stmts (refers k) xs

-- a statement has begun
begun : {ls : List CLocal} (at : At) (c : State) → Sound ls c → Sound ls (begin at c)
begun at c s = record { slots = s.slots }

module _ (g : ℕ) (p : CProgram) (f : CFunction) (given : Setting p f) (call : Calls) (all : CallsKeepKinds p call) (m : ℕ) where
  abbrev ls : List CLocal
  ls = f.locals

  abbrev names : Environment
  names = environment_of p f

  abbrev Leaves : Signal → Type 0
  Leaves = SignalFits f.result

  unused_kind : (e : CExpr) → IsExpr names e → Never ls (mentions e) → (n : ℕ) (c : State) → Sound ls c → KeepsKinds ls Leaves (run_unused g p call e n c)
  unused_kind e ie never n c s = keeps_then (run_kind g p f given call all e ie never n ItsValue tt c s) (λ x d h r. keeps_value _ _ tt r)

  unused_if_any_kind : (x : Option CExpr) → IsEvaluatedIfAny names x → Never ls (option_mentions x) → (n : ℕ) (c : State) → Sound ls c → KeepsKinds ls Leaves (run_unused_if_any g p call x n c)
  unused_if_any_kind None is never n c s = keeps_value _ _ tt s
  unused_if_any_kind (Some e) is never n c s = unused_kind e is.0 never n c s

  decide_kind : (e : CExpr) → IsExpr names e → Never ls (mentions e) → (n : ℕ) (c : State) → Sound ls c → KeepsKinds ls (Anything {A = Bool}) (decide g p call e n c)
  decide_kind e ie never n c s =
      keeps_then (run_kind g p f given call all e ie never n ItsValue tt c s) (λ x d h r. use_value ls e x _ d h (λ v hv. keeps_doing _ d r (λ w. truth_gives v w)))

  decide_if_any_kind : (x : Option CExpr) → IsTestedIfAny names x → Never ls (option_mentions x) → (n : ℕ) (c : State) → Sound ls c → KeepsKinds ls (Anything {A = Bool}) (decide_if_any g p call x n c)
  decide_if_any_kind None is never n c s = keeps_value _ _ tt s
  decide_if_any_kind (Some e) is never n c s = decide_kind e is.0 never n c s

  -- ---- Declarations

  initializer_kind : (j : ℕ) (t : CType) (x : Option CInitializer) → slice_get names.locals j ≡ Some t → MayInitialize names t x → Never ls (initializer_mentions x) → (n : ℕ) (c : State) → Sound ls c → KeepsKinds ls Leaves (run_initializer g p call m ls j x n c)
  initializer_kind j t None found is never n c s = keeps_value _ _ tt s
  initializer_kind j t (Some i) found is never n c s =
      let image = found_image (λ l. l.ty) ls j t found in
      let type : image.0.ty ≡ type_in (slice_get ls j) = sym (ap type_in image.1) in
      initialized_kind g p f given call all f.result i.value i.at.line j (type_in (slice_get ls j)) image.0 image.1 type
      (subst (λ u. IsInitialized names u i.value) (sym image.2 ∙ type) is) never n c s

  pub declare_kind : (d : CDeclaration) → IsDeclaration names d → Never ls (initializer_mentions d.initializer) → (n : ℕ) (c : State) → Sound ls c → KeepsKinds ls Leaves (declare g p call m ls d n c)
  declare_kind d is never n c s = initializer_kind d.local is.type d.initializer is.found is.initialized never n (tick c) (record { slots = s.slots })

  declare_all_kind : (ds : List CDeclaration) → AreDeclarations names ds → Never ls (declarations_mention ds) → (n : ℕ) (c : State) → Sound ls c → KeepsKinds ls Leaves (declare_all g p call m ls ds n c)
  declare_all_kind [] is never n c s = keeps_value _ _ tt s
  declare_all_kind (d ∷ ds) is never n c s =
      keeps_then (declare_kind d is.0 (left (initializer_mentions d.initializer) (declarations_mention ds) never) n c s) (λ x b h r.
      next_kind ls f.result x _ b h r (declare_all_kind ds is.1 (right (initializer_mentions d.initializer) (declarations_mention ds) never) (n + sites_of_initializer p.structs d.initializer) b r))

  pub start_kind : (x : CStart) → IsStart names x → Never ls (start_mentions x) → (n : ℕ) (c : State) → Sound ls c → KeepsKinds ls Leaves (run_start g p call m ls x n c)
  start_kind CStart.Nothing is never n c s = keeps_value _ _ tt s
  start_kind (CStart.Eval e) is never n c s = unused_kind e is.0 never n c s
  start_kind (CStart.Declare ds) is never n c s = declare_all_kind ds is never n c s

  -- ---- Statements

  mutual
    pub execute_kind : (b : Bool) (x : CStmt) → IsStmt names b x → Never ls (stmt_mentions x) → (n : ℕ) (c : State) → Sound ls c → KeepsKinds ls Leaves (execute g p call m ls x n c)
    execute_kind b (CStmt.Block at xs) is never n c s = execute_all_kind b xs is never n (begin at c) (begun at c s)
    execute_kind b (CStmt.Declare d) is never n c s = declare_kind d is never n c s
    execute_kind b (CStmt.Empty at) is never n c s = keeps_value _ _ tt (begun at c s)
    execute_kind b (CStmt.Eval at e) is never n c s = unused_kind e is.0 never n (begin at c) (begun at c s)
    execute_kind b (CStmt.If at q x) is never n c s =
        keeps_then (decide_kind q is.0.0 (left (mentions q) (stmt_mentions x) never) n (begin at c) (begun at c s)) (λ z d h r.
        keeps_if z _ _ d (λ t. execute_kind b x is.1 (right (mentions q) (stmt_mentions x) never) (n + sites_of p.structs q) d r) (λ t. keeps_value _ _ tt r))
    execute_kind b (CStmt.IfElse at q x y) is never n c s =
        let rest = right (mentions q) (λ k. stmt_mentions x k || stmt_mentions y k) never in
        keeps_then (decide_kind q is.0.0 (left (mentions q) (λ k. stmt_mentions x k || stmt_mentions y k) never) n (begin at c) (begun at c s)) (λ z d h r.
        keeps_if z _ _ d (λ t. execute_kind b x is.1 (left (stmt_mentions x) (stmt_mentions y) rest) (n + sites_of p.structs q) d r)
        (λ t. execute_kind b y is.2 (right (stmt_mentions x) (stmt_mentions y) rest) (n + sites_of p.structs q + sites_of_stmt p.structs x) d r))
    execute_kind b (CStmt.While at q x) is never n c s =
        turns_kind ls f.result m _ (λ c1 s1.
        keeps_then (decide_kind q is.0.0 (left (mentions q) (stmt_mentions x) never) n c1 s1) (λ z d h r.
        keeps_if z _ _ d (λ t. execute_kind true x is.1 (right (mentions q) (stmt_mentions x) never) (n + sites_of p.structs q) d r) (λ t. keeps_value _ _ tt r)))
        (begin at c) (begun at c s)
    execute_kind b (CStmt.Do at x q) is never n c s =
        turns_kind ls f.result m _ (λ c1 s1.
        keeps_then (execute_kind true x is.0 (left (stmt_mentions x) (mentions q) never) n c1 s1) (λ y d h r. tail_kind ls f.result y _ d h r
        (keeps_then (decide_kind q is.1.0 (right (stmt_mentions x) (mentions q) never) (n + sites_of_stmt p.structs x) d r) (λ z d1 h1 r1. broken_or_on ls f.result z d1 r1))))
        (begin at c) (begun at c s)
    execute_kind b (CStmt.For at start q step x) is never n c s =
        let never1 = right (start_mentions start) (λ k. option_mentions q k || (option_mentions step k || stmt_mentions x k)) never in
        let never2 = right (option_mentions q) (λ k. option_mentions step k || stmt_mentions x k) never1 in
        keeps_then (start_kind start is.0 (left (start_mentions start) (λ k. option_mentions q k || (option_mentions step k || stmt_mentions x k)) never) n (begin at c) (begun at c s)) (λ y d h r.
        next_kind ls f.result y _ d h r (turns_kind ls f.result m _ (λ c1 s1.
        keeps_then (decide_if_any_kind q is.1 (left (option_mentions q) (λ k. option_mentions step k || stmt_mentions x k) never1) (n + sites_of_start p.structs start) c1 s1) (λ z d1 h1 r1.
        keeps_if z _ _ d1 (λ t.
        keeps_then (execute_kind true x is.3 (right (option_mentions step) (stmt_mentions x) never2) (n + sites_of_start p.structs start + sites_of_option p.structs q + sites_of_option p.structs step) d1 r1) (λ u d2 h2 r2.
        tail_kind ls f.result u _ d2 h2 r2 (unused_if_any_kind step is.2 (left (option_mentions step) (stmt_mentions x) never2) (n + sites_of_start p.structs start + sites_of_option p.structs q) d2 r2)))
        (λ t. keeps_value _ _ tt r1))) d r))
    execute_kind b (CStmt.Break at) is never n c s = keeps_value _ _ tt (begun at c s)
    execute_kind b (CStmt.Continue at) is never n c s = keeps_value _ _ tt (begun at c s)
    execute_kind b (CStmt.Return at None) is never n c s = keeps_value _ _ (as_void f.result (Num 0) is.1) (begun at c s)
    execute_kind b (CStmt.Return at (Some e)) is never n c s =
        keeps_then (run_kind g p f given call all e is.0 never n ItsValue tt (begin at c) (begun at c s)) (λ x d h r.
        use_value ls e x _ d h (λ v hv. keeps_value _ _ (kind_by v (sym is.1.0) hv) r))

    execute_all_kind : (b : Bool) (xs : CStmts) → AreStmts names b xs → Never ls (stmts_mention xs) → (n : ℕ) (c : State) → Sound ls c → KeepsKinds ls Leaves (execute_all g p call m ls xs n c)
    execute_all_kind b CStmts.none is never n c s = keeps_value _ _ tt s
    execute_all_kind b (CStmts.more x xs) is never n c s =
        keeps_then (execute_kind b x is.0 (left (stmt_mentions x) (stmts_mention xs) never) n c s) (λ y d h r.
        next_kind ls f.result y _ d h r (execute_all_kind b xs is.1 (right (stmt_mentions x) (stmts_mention xs) never) (n + sites_of_stmt p.structs x) d r))
