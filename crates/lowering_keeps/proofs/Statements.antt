-- The code of a statement follows the statement.
use Rattle.std.specs.Prelude.{◌==◌, not, slice_get}
use Rattle.std.proofs.Common.{◌≡◌, ℕ, zero, suc, ◌+◌, ◌<◌, ◌≤◌, Bool, true, false, List, [], ◌∷◌, Option, Some, None, refl, sym, ap, ◌∙◌, subst, arith}
use Rattle.std.proofs.lemmas.Bool.{true≢false}
use Rattle.bb_words.specs.Answers.{Goes, and_then, either}
use Rattle.c_words.specs.declared.place.At.{At as Spot}
use Rattle.typed_tree.specs.Types.{CType}
use Rattle.typed_tree.specs.TypedTree.{CExpr, CInitial, CInitializer, CDeclaration, CStart, CStmt, CStmts, CLocal, CProgram, type_of}
use Rattle.source_meaning.specs.declared.values.Value.{Value}
use Rattle.source_meaning.specs.declared.values.Value.TheVariants.{Num, Ptr}
use Rattle.source_meaning.specs.declared.values.Held.{Held}
use Rattle.source_meaning.specs.declared.values.Want.TheVariants.{ItsValue, ItsPlace}
use Rattle.source_meaning.specs.declared.values.Signal.{Signal}
use Rattle.source_meaning.specs.declared.values.Signal.TheVariants.{Falls, Broke, Continued, Gave}
use Rattle.source_meaning.specs.declared.values.Ending.TheVariants.{Cut}
use Rattle.source_meaning.specs.Comparisons.{truth}
use Rattle.source_meaning.specs.Sites.{sites_of, sites_of_initializer, sites_of_start, sites_of_option, sites_of_stmt}
use Rattle.source_meaning.specs.States.{State, Runs, tick, doing as does, using_value}
use Rattle.source_meaning.specs.Meaning.{Calls as SourceCalls, run, run_unused, run_unused_if_any, decide, decide_if_any, copy_struct, give_scalar, start_scalar, initialized, type_in, begin, then_next, then_tail, then_again, turns, run_initializer, declare, declare_all, run_start, execute, execute_all}
use Rattle.mid_code.specs.Code.{Step, Steps, append}
use Rattle.mid_code.specs.Code.Steps.{stop, step as more}
use Rattle.mid_code.specs.Meaning.{Point, Goings, Way, On, Out, Back, spend, set, Watch, Names, Calls, after, again, out_of_one, rounds, acts}
use Rattle.lowering_code.specs.Lower.{only, code, code_if_any, leaving, test_code, initial_code, initializer_code, declaration_code, declarations_code, start_code, stmt_code, stmts_code}
use Rattle.lowering_keeps.proofs.Sim.{Sim, goes, ends, sim_then, sim_right, sim_left, sim_weaker, assoc, from_equal, to_equal}
use Rattle.lowering_keeps.proofs.Meets.{Meets, Lands, less, ticked, spent, marked, begins, assigned, with_local, overs}
use Rattle.lowering_keeps.proofs.Fits.{Fits, FitsIfAny, InitialFits, InitializerFits, DeclarationFits, DeclarationsFit, StartFits, StmtFits, StmtsFit}
use Rattle.lowering_keeps.proofs.Steps.{truth_then, goes_then, acts_append, at_end, only_acts, same_acts, if_then}
use Rattle.lowering_keeps.proofs.Expressions.{Matches, left, left_at_least, Right, one, right}

-- What `return` gives is a number; in a function that gives no value it is 0.
abbrev pub IsGiven : (gives : Bool) → Value → Type 0
IsGiven true (Num n) = Unit {0}
IsGiven true (Ptr q) = ⊥
IsGiven false x = x ≡ Num 0

abbrev pub IsNumbered : Signal → (gives : Bool) → Type 0
IsNumbered Falls gives = Unit {0}
IsNumbered Broke gives = Unit {0}
IsNumbered Continued gives = Unit {0}
IsNumbered (Gave x) gives = IsGiven gives x

-- how a function is left: with a value, or out of so many Blocks and Loops
abbrev pub back_way : (gives : Bool) → (back : ℕ) → Value → Way
back_way true back x = Back x
back_way false back x = Out back

-- how the code of a statement leaves: `break` out of the Block around the body and the Loop, `continue` out of the Block
abbrev pub stmt_way : (gives : Bool) → (back : ℕ) → Signal → Way
stmt_way gives back Falls = On
stmt_way gives back Broke = Out 2
stmt_way gives back Continued = Out 1
stmt_way gives back (Gave x) = back_way gives back x

-- how a turn of a Loop leaves
abbrev pub turn_way : (gives : Bool) → (back : ℕ) → Signal → Way
turn_way gives back Falls = On
turn_way gives back Broke = Out 1
turn_way gives back Continued = On
turn_way gives back (Gave x) = back_way gives (suc back) x

-- the code leaves as the statement does
pub record Leaves (gives : Bool) (ways : Signal → Way) (k s : ℕ) (x : Signal) (c : State) (w : Way) (v : Point) : Type 0 where
  pub way : w ≡ ways x
  pub numbered : IsNumbered x gives
  pub meets : Meets k s c v

leave : (gv : Bool) (ways : Signal → Way) (k s : ℕ) (x : Signal) (c : State) (w : Way) (v : Point) → w ≡ ways x → IsNumbered x gv → Meets k s c v → Sim (Leaves gv ways k s) (Goes x c) (Goes w v)
leave gv ways k s x c w v e n h = goes (Leaves gv ways k s) x c w v (record { way = e; numbered = n; meets = h })

less_left : (gv : Bool) (ways : Signal → Way) (k s s' : ℕ) (r : Runs Signal) (q : Goings Way) → s' ≤ s → Sim (Leaves gv ways k s) r q → Sim (Leaves gv ways k s') r q
less_left gv ways k s s' r q le h = sim_weaker (Leaves gv ways k s) (Leaves gv ways k s') r q h (λ x c w v l. record { way = l.way; numbered = l.numbered; meets = less k s s' c v le l.meets })

append_assoc : (xs ys zs : Steps) → append (append xs ys) zs ≡ append xs (append ys zs)
append_assoc stop ys zs = refl
append_assoc (more x xs) ys zs = ap (more x) (append_assoc xs ys zs)

-- out of the Block around a body
out_of_block : (gives : Bool) (back : ℕ) (x : Signal) → out_of_one (stmt_way gives (back + 2) x) ≡ turn_way gives back x
out_of_block gives back Falls = refl
out_of_block gives back Broke = refl
out_of_block gives back Continued = refl
out_of_block true back (Gave x) = refl
out_of_block false back (Gave x) = let e : back + 2 ≡ suc (suc back) = omega arith in ap (λ n. out_of_one (Out n)) e

out_of_loop : (back : ℕ) → 1 ≤ back → out_of_one (Out (suc back)) ≡ Out back
out_of_loop zero h = absurd (omega (arith, h))
out_of_loop (suc b) h = refl

both_ways : (A : Type 0) (F : Bool → State → Runs A) (b : Bool) (c : State) → F b c ≡ either b (F true) (F false) c
both_ways A F true c = refl
both_ways A F false c = refl

module _ (g : ℕ) (p : CProgram) (call : SourceCalls) (watch : Watch) (calling : Calls) (m : ℕ) (names : Names) (k : ℕ) (match : Matches p.functions call calling) (locals : List CLocal) where
  abbrev run_of : Steps → Point → Goings Way
  run_of xs = acts g watch calling m names xs

  mark_acts : (line : ℕ) (xs : Steps) (v : Point) → run_of (more (Step.LineMark line) xs) v ≡ run_of xs (marked line v)
  unfolding and_then
  mark_acts line xs v = refl

  exit_acts : (n : ℕ) (v : Point) → run_of (only (Step.Exit n)) v ≡ Goes (Out n) (spend 8 v)
  exit_acts n v = only_acts g watch calling m names (Step.Exit n) v

  return_acts : (i : ℕ) (v : Point) → run_of (only (Step.Return i)) v ≡ Goes (Back (v.values i)) (spend 16 v)
  return_acts i v = only_acts g watch calling m names (Step.Return i) v

  proven : (e : CExpr) → Fits p.structs p.functions k e → Right g p call watch calling m names k match e
  proven e fits = right g p call watch calling m names k match e fits

  -- an expression whose value is not used
  unused : (gv : Bool) (ways : Signal → Way) → On ≡ ways Falls → (e : CExpr) → Fits p.structs p.functions k e → (site s : ℕ) (c : State) (v : Point) → Meets k s c v → Sim (Leaves gv ways k (s + 512)) (run_unused g p call e site c) (run_of (code p.structs e k) v)
  unused gv ways falls e fits site s c v h =
      sim_left (Lands k k (s + left e) v) (Leaves gv ways k (s + 512)) (run g p call e site ItsValue c) (run_of (code p.structs e k) v) (λ x. Goes Falls)
      (proven e fits site k s c v (omega arith) h)
      (λ x c1 w v1 l. leave gv ways k (s + 512) Falls c1 w v1 (l.on ∙ falls) tt (less k (s + left e) (s + 512) c1 v1 (omega (arith, left_at_least e)) l.holds.meets))

  unused_if_any : (gv : Bool) (ways : Signal → Way) → On ≡ ways Falls → (o : Option CExpr) → FitsIfAny p.structs p.functions k o → (site s : ℕ) (c : State) (v : Point) → Meets k s c v → Sim (Leaves gv ways k s) (run_unused_if_any g p call o site c) (run_of (code_if_any p.structs o k) v)
  unused_if_any gv ways falls None fits site s c v h = leave gv ways k s Falls c On v falls tt h
  unused_if_any gv ways falls (Some e) fits site s c v h = less_left gv ways k (s + 512) s _ _ (omega arith) (unused gv ways falls e fits site s c v h)

  -- a condition, and then a choice by it
  decides : (R : Signal → State → Way → Point → Type 0) (q : CExpr) → Fits p.structs p.functions k q → (site s : ℕ) (c : State) (v : Point) (F : Bool → State → Runs Signal) (xs ys zs : Steps) → Meets k s c v → ((b : Bool) (c1 : State) (v1 : Point) → Meets k (s + 496) c1 v1 → Sim R (F b c1) (and_then (either b (run_of xs) (run_of ys) v1) (λ w. after w (run_of zs)))) → Sim R (and_then (decide g p call q site c) F) (run_of (append (code p.structs q k) (more (Step.If k xs ys) zs)) v)
  decides R q fits site s c v F xs ys zs h go =
      let G : Held → State → Runs Bool = λ x. using_value x (λ z. does (truth z)) in
      from_equal R _ _ (run_of (append (code p.structs q k) (more (Step.If k xs ys) zs)) v) (assoc (run g p call q site ItsValue c) G F)
      (one g p call watch calling m names k match R q site k s c v (λ x c1. and_then (G x c1) F) (more (Step.If k xs ys) zs) (proven q fits) (omega arith) h
      (λ n c1 v1 h1.
      from_equal R _ _ (run_of (more (Step.If k xs ys) zs) v1) (truth_then n c1 F ∙ both_ways Signal F (not (n == 0)) c1)
      (if_then g watch calling m names R k (F true) (F false) n k (s + 496) xs ys zs c1 v1 h1.holds (less k (s + left q) (s + 496 + 16) c1 v1 (omega (arith, left_at_least q)) h1.meets)
      (λ b v2 e2 h2. from_equal R _ _ _ (sym (both_ways Signal F b c1)) (go b c1 v2 h2)))))

  -- the test of a loop: it goes on with the rest of the turn, or leaves the loop
  tests : (R : Signal → State → Way → Point → Type 0) (q : CExpr) → Fits p.structs p.functions k q → (site s : ℕ) (c : State) (v : Point) (F : Bool → State → Runs Signal) (zs : Steps) → Meets k s c v → ((c1 : State) (v1 : Point) → Meets k (s + 480) c1 v1 → Sim R (F true c1) (run_of zs v1)) → ((c1 : State) (v1 : Point) → Meets k (s + 480) c1 v1 → Sim R (F false c1) (Goes (Out 1) v1)) → Sim R (and_then (decide g p call q site c) F) (run_of (append (code p.structs q k) (more (leaving k) zs)) v)
  unfolding and_then
  tests R q fits site s c v F zs h when_true when_false =
      decides R q fits site s c v F stop (only (Step.Exit 1)) zs h (λ b c1 v1 h1. of b c1 v1 h1)
    where
      of : (b : Bool) (c1 : State) (v1 : Point) → Meets k (s + 496) c1 v1 → Sim R (F b c1) (and_then (either b (run_of stop) (run_of (only (Step.Exit 1))) v1) (λ w. after w (run_of zs)))
      of true c1 v1 h1 = when_true c1 v1 (less k (s + 496) (s + 480) c1 v1 (omega arith) h1)
      of false c1 v1 h1 = when_false c1 (spend 8 v1) (spent 8 k (s + 480) c1 v1 (less k (s + 496) (s + 480 + 8) c1 v1 (omega arith) h1))

  point_then : {A B : Type 0} (a : A) (v : Point) (f : A → Point → Goings B) → and_then (Goes a v) f ≡ f a v
  unfolding and_then
  point_then a v f = refl

  -- the next statement comes where this one falls through
  goes_on : (gv : Bool) (back s s' : ℕ) (ys : Steps) (go : State → Runs Signal) (x : Signal) (c : State) (v : Point) → s' ≤ s → IsNumbered x gv → Meets k s c v → (Meets k s c v → Sim (Leaves gv (stmt_way gv back) k s') (go c) (run_of ys v)) → Sim (Leaves gv (stmt_way gv back) k s') (then_next x go c) (after (stmt_way gv back x) (run_of ys) v)
  goes_on gv back s s' ys go Falls c v le n h rec = rec h
  goes_on gv back s s' ys go Broke c v le n h rec = leave gv (stmt_way gv back) k s' Broke c (Out 2) v refl tt (less k s s' c v le h)
  goes_on gv back s s' ys go Continued c v le n h rec = leave gv (stmt_way gv back) k s' Continued c (Out 1) v refl tt (less k s s' c v le h)
  goes_on true back s s' ys go (Gave x) c v le n h rec = leave true (stmt_way true back) k s' (Gave x) c (Back x) v refl n (less k s s' c v le h)
  goes_on false back s s' ys go (Gave x) c v le n h rec = leave false (stmt_way false back) k s' (Gave x) c (Out back) v refl n (less k s s' c v le h)

  then_more : (gv : Bool) (back s s' : ℕ) (r : Runs Signal) (xs ys : Steps) (v : Point) (go : State → Runs Signal) → s' ≤ s → Sim (Leaves gv (stmt_way gv back) k s) r (run_of xs v) → ((c1 : State) (v1 : Point) → Meets k s c1 v1 → Sim (Leaves gv (stmt_way gv back) k s') (go c1) (run_of ys v1)) → Sim (Leaves gv (stmt_way gv back) k s') (and_then r (λ x. then_next x go)) (run_of (append xs ys) v)
  then_more gv back s s' r xs ys v go le h rec =
      let R = Leaves gv (stmt_way gv back) k s' in
      to_equal R (and_then r (λ x. then_next x go)) _ _ (acts_append g watch calling m names xs ys v)
      (sim_then (Leaves gv (stmt_way gv back) k s) R r (run_of xs v) (λ x. then_next x go) (λ w. after w (run_of ys)) h
      (λ x c1 w v1 l. subst (λ z. Sim R (then_next x go c1) (after z (run_of ys) v1)) (sym l.way) (goes_on gv back s s' ys go x c1 v1 le l.numbered l.meets (λ h1. rec c1 v1 h1))))

  -- what comes after the body in a turn
  tail_on : (gv : Bool) (back s s' : ℕ) (ys : Steps) (go : State → Runs Signal) (x : Signal) (c : State) (v : Point) → s' ≤ s → IsNumbered x gv → Meets k s c v → (Meets k s c v → Sim (Leaves gv (turn_way gv back) k s') (go c) (run_of ys v)) → Sim (Leaves gv (turn_way gv back) k s') (then_tail x go c) (after (turn_way gv back x) (run_of ys) v)
  tail_on gv back s s' ys go Falls c v le n h rec = rec h
  tail_on gv back s s' ys go Broke c v le n h rec = leave gv (turn_way gv back) k s' Broke c (Out 1) v refl tt (less k s s' c v le h)
  tail_on gv back s s' ys go Continued c v le n h rec = rec h
  tail_on true back s s' ys go (Gave x) c v le n h rec = leave true (turn_way true back) k s' (Gave x) c (Back x) v refl n (less k s s' c v le h)
  tail_on false back s s' ys go (Gave x) c v le n h rec = leave false (turn_way false back) k s' (Gave x) c (Out (suc back)) v refl n (less k s s' c v le h)

  -- a body in its Block
  pub block_only : (gv : Bool) (back s : ℕ) (r : Runs Signal) (b : Steps) (v : Point) → Sim (Leaves gv (stmt_way gv (back + 2)) k s) r (run_of b (spend 8 v)) → Sim (Leaves gv (turn_way gv back) k s) r (run_of (only (Step.Block b)) v)
  block_only gv back s r b v h =
      let R = Leaves gv (turn_way gv back) k s in
      to_equal R r _ _ (only_acts g watch calling m names (Step.Block b) v)
      (sim_right (Leaves gv (stmt_way gv (back + 2)) k s) R r (run_of b (spend 8 v)) (λ w. Goes (out_of_one w)) h
      (λ x c1 w v1 l. leave gv (turn_way gv back) k s x c1 (out_of_one w) v1 (ap out_of_one l.way ∙ out_of_block gv back x) l.numbered l.meets))

  block_then : (gv : Bool) (back s s' : ℕ) (r : Runs Signal) (b ys : Steps) (v : Point) (go : State → Runs Signal) → s' ≤ s → Sim (Leaves gv (stmt_way gv (back + 2)) k s) r (run_of b (spend 8 v)) → ((c1 : State) (v1 : Point) → Meets k s c1 v1 → Sim (Leaves gv (turn_way gv back) k s') (go c1) (run_of ys v1)) → Sim (Leaves gv (turn_way gv back) k s') (and_then r (λ x. then_tail x go)) (run_of (more (Step.Block b) ys) v)
  block_then gv back s s' r b ys v go le h rec =
      let R = Leaves gv (turn_way gv back) k s' in
      to_equal R (and_then r (λ x. then_tail x go)) _ _ (assoc (run_of b (spend 8 v)) (λ w. Goes (out_of_one w)) (λ w. after w (run_of ys)))
      (sim_then (Leaves gv (stmt_way gv (back + 2)) k s) R r (run_of b (spend 8 v)) (λ x. then_tail x go) (λ w v1. and_then (Goes (out_of_one w) v1) (λ z. after z (run_of ys))) h
      (λ x c1 w v1 l.
      to_equal R (then_tail x go c1) _ _ (point_then (out_of_one w) v1 (λ z. after z (run_of ys)))
      (subst (λ z. Sim R (then_tail x go c1) (after z (run_of ys) v1)) (sym (ap out_of_one l.way ∙ out_of_block gv back x)) (tail_on gv back s s' ys go x c1 v1 le l.numbered l.meets (λ h1. rec c1 v1 h1)))))

  -- ---- Loops

  again_on : (gv : Bool) (back s : ℕ) (n : ℕ) (turn : State → Runs Signal) (body : Point → Goings Way) (x : Signal) (c : State) (v : Point) → 1 ≤ back → IsNumbered x gv → Meets k s c v → Sim (Leaves gv (stmt_way gv back) k s) (turns n turn c) (rounds n body v) → Sim (Leaves gv (stmt_way gv back) k s) (then_again x (turns n turn) c) (again (turn_way gv back x) (rounds n body) v)
  again_on gv back s n turn body Falls c v le ok h rec = rec
  again_on gv back s n turn body Broke c v le ok h rec = leave gv (stmt_way gv back) k s Falls c On v refl tt h
  again_on gv back s n turn body Continued c v le ok h rec = rec
  again_on true back s n turn body (Gave x) c v le ok h rec = leave true (stmt_way true back) k s (Gave x) c (Back x) v refl ok h
  again_on false back s n turn body (Gave x) c v le ok h rec = leave false (stmt_way false back) k s (Gave x) c (out_of_one (Out (suc back))) v (out_of_loop back le) ok h

  turns_run : (gv : Bool) (back s : ℕ) (turn : State → Runs Signal) (body : Point → Goings Way) → 1 ≤ back → ((c : State) (v : Point) → Meets k s c v → Sim (Leaves gv (turn_way gv back) k (s + 16)) (turn c) (body v)) → (n : ℕ) (c : State) (v : Point) → Meets k (s + 16) c v → Sim (Leaves gv (stmt_way gv back) k (s + 16)) (turns n turn c) (rounds n body v)
  turns_run gv back s turn body le each zero c v h = ends (Leaves gv (stmt_way gv back) k (s + 16)) Cut c v (overs k (s + 16) c v h)
  turns_run gv back s turn body le each (suc n) c v h =
      let R = Leaves gv (stmt_way gv back) k (s + 16) in
      sim_then (Leaves gv (turn_way gv back) k (s + 16)) R (turn c) (body (spend 16 v)) (λ x. then_again x (turns n turn)) (λ w. again w (rounds n body))
      (each c (spend 16 v) (spent 16 k s c v h))
      (λ x c1 w v1 l. subst (λ z. Sim R (then_again x (turns n turn) c1) (again z (rounds n body) v1)) (sym l.way) (again_on gv back (s + 16) n turn body x c1 v1 le l.numbered l.meets (turns_run gv back s turn body le each n c1 v1 l.meets)))

  loop_runs : (gv : Bool) (back s : ℕ) (turn : State → Runs Signal) (b : Steps) (c : State) (v : Point) → 1 ≤ back → Meets k (s + 24) c v → ((c : State) (v : Point) → Meets k s c v → Sim (Leaves gv (turn_way gv back) k (s + 16)) (turn c) (run_of b v)) → Sim (Leaves gv (stmt_way gv back) k (s + 16)) (turns m turn c) (run_of (only (Step.Loop b)) v)
  loop_runs gv back s turn b c v le h each =
      to_equal (Leaves gv (stmt_way gv back) k (s + 16)) (turns m turn c) _ _ (only_acts g watch calling m names (Step.Loop b) v)
      (turns_run gv back s turn (run_of b) le each m c (spend 8 v) (spent 8 k (s + 16) c v (less k (s + 24) (s + 16 + 8) c v (omega arith) h)))

  -- ---- Declarations

  initial_follows : (gv : Bool) (back : ℕ) (x : CInitial) → InitialFits p.structs p.functions k x → (line j : ℕ) (t : CType) (site s : ℕ) (c : State) (v : Point) → j < k → Meets k (s + 1024) c v → Sim (Leaves gv (stmt_way gv back) k (s + 512)) (initialized g p call line j t x site c) (run_of (initial_code p.structs x j k) v)
  initial_follows gv back (CInitial.Text at bytes) fits line j t site s c v lt h = absurd fits
  initial_follows gv back (CInitial.Braces at parts) fits line j t site s c v lt h = absurd fits
  initial_follows gv back (CInitial.Value e) fits line j t site s c v lt h =
      let R = Leaves gv (stmt_way gv back) k (s + 512) in
      from_equal R _ _ (run_of (append (code p.structs e k) (only (Step.Same j k))) v)
      (ap (λ b. either b (copy_struct g p call line j (type_of e) (site + sites_of p.structs e) (run g p call e site ItsPlace)) (give_scalar g p call j (type_of e) (run g p call e site ItsValue)) c) fits.0)
      (one g p call watch calling m names k match R e site k (s + 1024) c v _ (only (Step.Same j k)) (proven e fits.1) (omega arith) h
      (λ n c1 v1 h1.
      from_equal R _ _ (run_of (only (Step.Same j k)) v1) (ap (λ z. start_scalar g p call (type_of e) j z (Num n) c1) (h1.meets.locals j lt).slot)
      (to_equal R _ _ _ (same_acts g watch calling m names j k n stop v1 h1.holds)
      (leave gv (stmt_way gv back) k (s + 512) Falls (with_local j n c1) On (set j (Num n) (spend 8 v1)) refl tt
      (assigned k (s + 512) j n c1 (spend 8 v1) (spent 8 k (s + 512) c1 v1 (less k (s + 1024 + left e) (s + 512 + 8) c1 v1 (omega arith) h1.meets)))))))

  initializer_follows : (gv : Bool) (back : ℕ) (o : Option CInitializer) → InitializerFits p.structs p.functions k o → (j site s : ℕ) (c : State) (v : Point) → j < k → Meets k (s + 1024) c v → Sim (Leaves gv (stmt_way gv back) k (s + 512)) (run_initializer g p call m locals j o site c) (run_of (initializer_code p.structs o j k) v)
  initializer_follows gv back None fits j site s c v lt h = leave gv (stmt_way gv back) k (s + 512) Falls c On v refl tt (less k (s + 1024) (s + 512) c v (omega arith) h)
  initializer_follows gv back (Some i) fits j site s c v lt h = initial_follows gv back i.value fits i.at.line j (type_in (slice_get locals j)) site s c v lt h

  declaration_follows : (gv : Bool) (back : ℕ) (d : CDeclaration) → DeclarationFits p.structs p.functions k d → (site s : ℕ) (c : State) (v : Point) → Meets k s c v → Sim (Leaves gv (stmt_way gv back) k (s + 512)) (declare g p call m locals d site c) (run_of (declaration_code p.structs d k) v)
  declaration_follows gv back d fits site s c v h = initializer_follows gv back d.initializer fits.1 d.local site s (tick c) v fits.0 (ticked k s c v h)

  declarations_follow : (gv : Bool) (back : ℕ) (ds : List CDeclaration) → DeclarationsFit p.structs p.functions k ds → (site s : ℕ) (c : State) (v : Point) → Meets k s c v → Sim (Leaves gv (stmt_way gv back) k s) (declare_all g p call m locals ds site c) (run_of (declarations_code p.structs ds k) v)
  declarations_follow gv back [] fits site s c v h = leave gv (stmt_way gv back) k s Falls c On v refl tt h
  declarations_follow gv back (d ∷ ds) fits site s c v h =
      then_more gv back (s + 512) s (declare g p call m locals d site c) (declaration_code p.structs d k) (declarations_code p.structs ds k) v
      (declare_all g p call m locals ds (site + sites_of_initializer p.structs d.initializer)) (omega arith) (declaration_follows gv back d fits.0 site s c v h)
      (λ c1 v1 h1. declarations_follow gv back ds fits.1 (site + sites_of_initializer p.structs d.initializer) s c1 v1 (less k (s + 512) s c1 v1 (omega arith) h1))

  start_follows : (gv : Bool) (back : ℕ) (x : CStart) → StartFits p.structs p.functions k x → (site s : ℕ) (c : State) (v : Point) → Meets k s c v → Sim (Leaves gv (stmt_way gv back) k s) (run_start g p call m locals x site c) (run_of (start_code p.structs x k) v)
  start_follows gv back CStart.Nothing fits site s c v h = leave gv (stmt_way gv back) k s Falls c On v refl tt h
  start_follows gv back (CStart.Eval e) fits site s c v h = less_left gv (stmt_way gv back) k (s + 512) s _ _ (omega arith) (unused gv (stmt_way gv back) refl e fits site s c v h)
  start_follows gv back (CStart.Declare ds) fits site s c v h = declarations_follow gv back ds fits site s c v h

  -- ---- Statements

  -- a statement begins with its line
  begun : (gv : Bool) (ways : Signal → Way) (r : Runs Signal) (at : Spot) (xs : Steps) (k' : ℕ) (v : Point) → Sim (Leaves gv ways k k') r (run_of xs (marked at.line v)) → Sim (Leaves gv ways k k') r (run_of (more (Step.LineMark at.line) xs) v)
  begun gv ways r at xs k' v h = to_equal (Leaves gv ways k k') r _ _ (mark_acts at.line xs v) h

  returns_number : (gv : Bool) (back : ℕ) → gv ≡ true → (e : CExpr) → Fits p.structs p.functions k e → (site s : ℕ) (c : State) (v : Point) → Meets k (s + 1020) c v → Sim (Leaves gv (stmt_way gv back) k (s + 512)) (and_then (run g p call e site ItsValue c) (λ x. using_value x (λ z. Goes (Gave z)))) (run_of (append (code p.structs e k) (only (Step.Return k))) v)
  returns_number false back eg e fits site s c v h = absurd (true≢false (sym eg))
  returns_number true back eg e fits site s c v h =
      let R = Leaves true (stmt_way true back) k (s + 512) in
      one g p call watch calling m names k match R e site k (s + 1020) c v _ (only (Step.Return k)) (proven e fits) (omega arith) h
      (λ n c1 v1 h1.
      to_equal R (Goes (Gave (Num n)) c1) _ _ (return_acts k v1)
      (leave true (stmt_way true back) k (s + 512) (Gave (Num n)) c1 (Back (v1.values k)) (spend 16 v1) (ap Back h1.holds) tt
      (spent 16 k (s + 512) c1 v1 (less k (s + 1020 + left e) (s + 512 + 16) c1 v1 (omega arith) h1.meets))))

  returns_nothing : (gv : Bool) (back : ℕ) → gv ≡ false → (s : ℕ) (c : State) (v : Point) → Meets k (s + 1020) c v → Sim (Leaves gv (stmt_way gv back) k (s + 512)) (Goes (Gave (Num 0)) c) (run_of (only (Step.Exit back)) v)
  returns_nothing true back eg s c v h = absurd (true≢false eg)
  returns_nothing false back eg s c v h =
      to_equal (Leaves false (stmt_way false back) k (s + 512)) (Goes (Gave (Num 0)) c) _ _ (exit_acts back v)
      (leave false (stmt_way false back) k (s + 512) (Gave (Num 0)) c (Out back) (spend 8 v) refl refl (spent 8 k (s + 512) c v (less k (s + 1020) (s + 512 + 8) c v (omega arith) h)))

  -- one of two statements, or nothing
  choose : (R : Signal → State → Way → Point → Type 0) (b : Bool) (r1 r2 : State → Runs Signal) (xs ys : Steps) (c : State) (v : Point) → Sim R (r1 c) (run_of xs v) → Sim R (r2 c) (run_of ys v) → Sim R (either b r1 r2 c) (and_then (either b (run_of xs) (run_of ys) v) (λ w. after w (run_of stop)))
  choose R true r1 r2 xs ys c v h1 h2 = to_equal R (r1 c) _ _ (at_end g watch calling m names (run_of xs v)) h1
  choose R false r1 r2 xs ys c v h1 h2 = to_equal R (r2 c) _ _ (at_end g watch calling m names (run_of ys v)) h2

  -- the test of a `for`
  tests_if_any : (gv : Bool) (back : ℕ) (o : Option CExpr) → FitsIfAny p.structs p.functions k o → (site s s' : ℕ) (c : State) (v : Point) (go : State → Runs Signal) (zs : Steps) → s' ≤ s + 480 → Meets k s c v → ((c1 : State) (v1 : Point) → Meets k s c1 v1 → Sim (Leaves gv (turn_way gv back) k s') (go c1) (run_of zs v1)) → Sim (Leaves gv (turn_way gv back) k s') (and_then (decide_if_any g p call o site c) (λ b. either b go (Goes Broke))) (run_of (append (test_code p.structs o k) zs) v)
  tests_if_any gv back None fits site s s' c v go zs le h rec =
      from_equal (Leaves gv (turn_way gv back) k s') _ _ (run_of zs v) (goes_then true c (λ b. either b go (Goes Broke))) (rec c v h)
  tests_if_any gv back (Some q) fits site s s' c v go zs le h rec =
      let R = Leaves gv (turn_way gv back) k s' in
      let F : Bool → State → Runs Signal = λ b. either b go (Goes Broke) in
      to_equal R (and_then (decide g p call q site c) F) _ _ (ap (λ xs. run_of xs v) (append_assoc (code p.structs q k) (only (leaving k)) zs))
      (tests R q fits site s c v F zs h
      (λ c1 v1 h1. rec c1 v1 (less k (s + 480) s c1 v1 (omega arith) h1))
      (λ c1 v1 h1. leave gv (turn_way gv back) k s' Broke c1 (Out 1) v1 refl tt (less k (s + 480) s' c1 v1 le h1)))

  -- a turn of a `for`
  for_turn : (gv : Bool) (back : ℕ) (q : Option CExpr) → FitsIfAny p.structs p.functions k q → (step : Option CExpr) → FitsIfAny p.structs p.functions k step → (x : CStmt) (sq ss sx s : ℕ) (c : State) (v : Point) → Meets k (s + 16) c v → ((c1 : State) (v1 : Point) → Meets k (s + 8) c1 v1 → Sim (Leaves gv (stmt_way gv (back + 2)) k (s + 8 + 512)) (execute g p call m locals x sx c1) (run_of (stmt_code p.structs x (back + 2) k) v1)) → Sim (Leaves gv (turn_way gv back) k (s + 16 + 16)) (and_then (decide_if_any g p call q sq c) (λ z. either z (λ c2. and_then (execute g p call m locals x sx c2) (λ y. then_tail y (run_unused_if_any g p call step ss))) (Goes Broke))) (run_of (append (test_code p.structs q k) (more (Step.Block (stmt_code p.structs x (back + 2) k)) (code_if_any p.structs step k))) v)
  for_turn gv back q fq step fs x sq ss sx s c v h body =
      let tail : State → Runs Signal = run_unused_if_any g p call step ss in
      let b : Steps = stmt_code p.structs x (back + 2) k in
      tests_if_any gv back q fq sq (s + 16) (s + 16 + 16) c v (λ c2. and_then (execute g p call m locals x sx c2) (λ y. then_tail y tail)) (more (Step.Block b) (code_if_any p.structs step k)) (omega arith) h
      (λ c1 v1 h1.
      block_then gv back (s + 8 + 512) (s + 16 + 16) (execute g p call m locals x sx c1) b (code_if_any p.structs step k) v1 tail (omega arith)
      (body c1 (spend 8 v1) (spent 8 k (s + 8) c1 v1 (less k (s + 16) (s + 8 + 8) c1 v1 (omega arith) h1)))
      (λ c2 v2 h2. less_left gv (turn_way gv back) k (s + 8 + 512) (s + 16 + 16) _ _ (omega arith) (unused_if_any gv (turn_way gv back) refl step fs ss (s + 8 + 512) c2 v2 h2)))

  mutual
    pub follows : (gv l : Bool) (x : CStmt) → StmtFits p.structs p.functions k gv l x → (back site s : ℕ) (c : State) (v : Point) → 1 ≤ back → Meets k s c v → Sim (Leaves gv (stmt_way gv back) k (s + 512)) (execute g p call m locals x site c) (acts g watch calling m names (stmt_code p.structs x back k) v)
    follows gv l (CStmt.Block at xs) fits back site s c v le h =
        begun gv (stmt_way gv back) _ at (stmts_code p.structs xs back k) (s + 512) v
        (less_left gv (stmt_way gv back) k (s + 1020) (s + 512) _ _ (omega arith) (all_follow gv l xs fits back site (s + 1020) (begin at c) (marked at.line v) le (begins at k s c v h)))
    follows gv l (CStmt.Declare d) fits back site s c v le h = declaration_follows gv back d fits site s c v h
    follows gv l (CStmt.Empty at) fits back site s c v le h =
        begun gv (stmt_way gv back) (Goes Falls (begin at c)) at stop (s + 512) v
        (leave gv (stmt_way gv back) k (s + 512) Falls (begin at c) On (marked at.line v) refl tt (less k (s + 1020) (s + 512) (begin at c) (marked at.line v) (omega arith) (begins at k s c v h)))
    follows gv l (CStmt.Eval at e) fits back site s c v le h =
        begun gv (stmt_way gv back) _ at (code p.structs e k) (s + 512) v
        (less_left gv (stmt_way gv back) k (s + 1020 + 512) (s + 512) _ _ (omega arith) (unused gv (stmt_way gv back) refl e fits site (s + 1020) (begin at c) (marked at.line v) (begins at k s c v h)))
    follows gv l (CStmt.If at q x) fits back site s c v le h =
        let R = Leaves gv (stmt_way gv back) k (s + 512) in
        let sx = site + sites_of p.structs q in
        begun gv (stmt_way gv back) _ at (append (code p.structs q k) (only (Step.If k (stmt_code p.structs x back k) stop))) (s + 512) v
        (decides R q fits.0 site (s + 1020) (begin at c) (marked at.line v) (λ b. either b (execute g p call m locals x sx) (Goes Falls)) (stmt_code p.structs x back k) stop stop (begins at k s c v h)
        (λ b c1 v1 h1. choose R b (execute g p call m locals x sx) (Goes Falls) (stmt_code p.structs x back k) stop c1 v1
        (follows gv l x fits.1 back sx s c1 v1 le (less k (s + 1020 + 496) s c1 v1 (omega arith) h1))
        (leave gv (stmt_way gv back) k (s + 512) Falls c1 On v1 refl tt (less k (s + 1020 + 496) (s + 512) c1 v1 (omega arith) h1))))
    follows gv l (CStmt.IfElse at q x y) fits back site s c v le h =
        let R = Leaves gv (stmt_way gv back) k (s + 512) in
        let sx = site + sites_of p.structs q in
        let sy = site + sites_of p.structs q + sites_of_stmt p.structs x in
        begun gv (stmt_way gv back) _ at (append (code p.structs q k) (only (Step.If k (stmt_code p.structs x back k) (stmt_code p.structs y back k)))) (s + 512) v
        (decides R q fits.0 site (s + 1020) (begin at c) (marked at.line v) (λ b. either b (execute g p call m locals x sx) (execute g p call m locals y sy)) (stmt_code p.structs x back k) (stmt_code p.structs y back k) stop (begins at k s c v h)
        (λ b c1 v1 h1. choose R b (execute g p call m locals x sx) (execute g p call m locals y sy) (stmt_code p.structs x back k) (stmt_code p.structs y back k) c1 v1
        (follows gv l x fits.1 back sx s c1 v1 le (less k (s + 1020 + 496) s c1 v1 (omega arith) h1))
        (follows gv l y fits.2 back sy s c1 v1 le (less k (s + 1020 + 496) s c1 v1 (omega arith) h1))))
    follows gv l (CStmt.While at q x) fits back site s c v le h =
        let sx = site + sites_of p.structs q in
        let b : Steps = append (code p.structs q k) (more (leaving k) (only (Step.Block (stmt_code p.structs x (back + 2) k)))) in
        let F : Bool → State → Runs Signal = λ z. either z (execute g p call m locals x sx) (Goes Broke) in
        let T = Leaves gv (turn_way gv back) k (s + 996 + 16) in
        begun gv (stmt_way gv back) _ at (only (Step.Loop b)) (s + 512) v
        (less_left gv (stmt_way gv back) k (s + 996 + 16) (s + 512) _ _ (omega arith)
        (loop_runs gv back (s + 996) (λ c1. and_then (decide g p call q site c1) F) b (begin at c) (marked at.line v) le (less k (s + 1020) (s + 996 + 24) (begin at c) (marked at.line v) (omega arith) (begins at k s c v h))
        (λ c1 v1 h1. tests T q fits.0 site (s + 996) c1 v1 F (only (Step.Block (stmt_code p.structs x (back + 2) k))) h1
        (λ c2 v2 h2. less_left gv (turn_way gv back) k (s + 1468 + 512) (s + 996 + 16) _ _ (omega arith)
        (block_only gv back (s + 1468 + 512) (execute g p call m locals x sx c2) (stmt_code p.structs x (back + 2) k) v2
        (follows gv true x fits.1 (back + 2) sx (s + 1468) c2 (spend 8 v2) (omega arith) (spent 8 k (s + 1468) c2 v2 (less k (s + 996 + 480) (s + 1468 + 8) c2 v2 (omega arith) h2)))))
        (λ c2 v2 h2. leave gv (turn_way gv back) k (s + 996 + 16) Broke c2 (Out 1) v2 refl tt (less k (s + 996 + 480) (s + 996 + 16) c2 v2 (omega arith) h2)))))
    follows gv l (CStmt.Do at x q) fits back site s c v le h =
        let sq = site + sites_of_stmt p.structs x in
        let b : Steps = stmt_code p.structs x (back + 2) k in
        let F : Bool → State → Runs Signal = λ z. Goes (either z Falls Broke) in
        let tail : State → Runs Signal = λ c2. and_then (decide g p call q sq c2) F in
        let ys : Steps = append (code p.structs q k) (only (leaving k)) in
        let T = Leaves gv (turn_way gv back) k (s + 996 + 16) in
        begun gv (stmt_way gv back) _ at (only (Step.Loop (more (Step.Block b) ys))) (s + 512) v
        (less_left gv (stmt_way gv back) k (s + 996 + 16) (s + 512) _ _ (omega arith)
        (loop_runs gv back (s + 996) (λ c1. and_then (execute g p call m locals x site c1) (λ z. then_tail z tail)) (more (Step.Block b) ys) (begin at c) (marked at.line v) le (less k (s + 1020) (s + 996 + 24) (begin at c) (marked at.line v) (omega arith) (begins at k s c v h))
        (λ c1 v1 h1. block_then gv back (s + 988 + 512) (s + 996 + 16) (execute g p call m locals x site c1) b ys v1 tail (omega arith)
        (follows gv true x fits.0 (back + 2) site (s + 988) c1 (spend 8 v1) (omega arith) (spent 8 k (s + 988) c1 v1 (less k (s + 996) (s + 988 + 8) c1 v1 (omega arith) h1)))
        (λ c2 v2 h2. tests T q fits.1 sq (s + 1500) c2 v2 F stop (less k (s + 988 + 512) (s + 1500) c2 v2 (omega arith) h2)
        (λ c3 v3 h3. leave gv (turn_way gv back) k (s + 996 + 16) Falls c3 On v3 refl tt (less k (s + 1500 + 480) (s + 996 + 16) c3 v3 (omega arith) h3))
        (λ c3 v3 h3. leave gv (turn_way gv back) k (s + 996 + 16) Broke c3 (Out 1) v3 refl tt (less k (s + 1500 + 480) (s + 996 + 16) c3 v3 (omega arith) h3))))))
    follows gv l (CStmt.For at start q step x) fits back site s c v le h =
        let sq = site + sites_of_start p.structs start in
        let ss = site + sites_of_start p.structs start + sites_of_option p.structs q in
        let sx = site + sites_of_start p.structs start + sites_of_option p.structs q + sites_of_option p.structs step in
        let b : Steps = stmt_code p.structs x (back + 2) k in
        let rest : Steps = more (Step.Block b) (code_if_any p.structs step k) in
        let tail : State → Runs Signal = run_unused_if_any g p call step ss in
        let go : State → Runs Signal = λ c2. and_then (execute g p call m locals x sx c2) (λ z. then_tail z tail) in
        let turn : State → Runs Signal = λ c1. and_then (decide_if_any g p call q sq c1) (λ z. either z go (Goes Broke)) in
        let loop : Steps = append (test_code p.structs q k) rest in
        begun gv (stmt_way gv back) _ at (append (start_code p.structs start k) (only (Step.Loop loop))) (s + 512) v
        (then_more gv back (s + 1020) (s + 512) (run_start g p call m locals start site (begin at c)) (start_code p.structs start k) (only (Step.Loop loop)) (marked at.line v) (turns m turn) (omega arith)
        (start_follows gv back start fits.0 site (s + 1020) (begin at c) (marked at.line v) (begins at k s c v h))
        (λ c1 v1 h1. less_left gv (stmt_way gv back) k (s + 980 + 16 + 16) (s + 512) _ _ (omega arith)
        (loop_runs gv back (s + 980 + 16) turn loop c1 v1 le (less k (s + 1020) (s + 980 + 16 + 24) c1 v1 (omega arith) h1)
        (λ c2 v2 h2. less_left gv (turn_way gv back) k (s + 980 + 16 + 16) (s + 980 + 16 + 16) _ _ (omega arith) (for_turn gv back q fits.1 step fits.2 x sq ss sx (s + 980) c2 v2 h2
        (λ c3 v3 h3. follows gv true x fits.3 (back + 2) sx (s + 980 + 8) c3 v3 (omega arith) h3))))))
    follows gv l (CStmt.Break at) fits back site s c v le h =
        begun gv (stmt_way gv back) (Goes Broke (begin at c)) at (only (Step.Exit 2)) (s + 512) v
        (to_equal (Leaves gv (stmt_way gv back) k (s + 512)) (Goes Broke (begin at c)) _ _ (exit_acts 2 (marked at.line v))
        (leave gv (stmt_way gv back) k (s + 512) Broke (begin at c) (Out 2) (spend 8 (marked at.line v)) refl tt (spent 8 k (s + 512) (begin at c) (marked at.line v) (less k (s + 1020) (s + 512 + 8) (begin at c) (marked at.line v) (omega arith) (begins at k s c v h)))))
    follows gv l (CStmt.Continue at) fits back site s c v le h =
        begun gv (stmt_way gv back) (Goes Continued (begin at c)) at (only (Step.Exit 1)) (s + 512) v
        (to_equal (Leaves gv (stmt_way gv back) k (s + 512)) (Goes Continued (begin at c)) _ _ (exit_acts 1 (marked at.line v))
        (leave gv (stmt_way gv back) k (s + 512) Continued (begin at c) (Out 1) (spend 8 (marked at.line v)) refl tt (spent 8 k (s + 512) (begin at c) (marked at.line v) (less k (s + 1020) (s + 512 + 8) (begin at c) (marked at.line v) (omega arith) (begins at k s c v h)))))
    follows gv l (CStmt.Return at None) fits back site s c v le h =
        begun gv (stmt_way gv back) (Goes (Gave (Num 0)) (begin at c)) at (only (Step.Exit back)) (s + 512) v
        (returns_nothing gv back fits s (begin at c) (marked at.line v) (begins at k s c v h))
    follows gv l (CStmt.Return at (Some e)) fits back site s c v le h =
        begun gv (stmt_way gv back) _ at (append (code p.structs e k) (only (Step.Return k))) (s + 512) v
        (returns_number gv back fits.0 e fits.1 site s (begin at c) (marked at.line v) (begins at k s c v h))

    pub all_follow : (gv l : Bool) (xs : CStmts) → StmtsFit p.structs p.functions k gv l xs → (back site s : ℕ) (c : State) (v : Point) → 1 ≤ back → Meets k s c v → Sim (Leaves gv (stmt_way gv back) k s) (execute_all g p call m locals xs site c) (acts g watch calling m names (stmts_code p.structs xs back k) v)
    all_follow gv l CStmts.none fits back site s c v le h = leave gv (stmt_way gv back) k s Falls c On v refl tt h
    all_follow gv l (CStmts.more x xs) fits back site s c v le h =
        then_more gv back (s + 512) s (execute g p call m locals x site c) (stmt_code p.structs x back k) (stmts_code p.structs xs back k) v
        (execute_all g p call m locals xs (site + sites_of_stmt p.structs x)) (omega arith) (follows gv l x fits.0 back site s c v le h)
        (λ c1 v1 h1. all_follow gv l xs fits.1 back (site + sites_of_stmt p.structs x) s c1 v1 le (less k (s + 512) s c1 v1 (omega arith) h1))
