-- Calls of the code follow those of the typed tree, and so do whole programs.
use Rattle.std.specs.Prelude.{◌==◌, if◌then◌else◌, nat_le, nat_lt, map, slice_get, slice_index_or, option_map}
use Rattle.std.proofs.Common.{◌≡◌, ◌≢◌, ℕ, zero, suc, ◌+◌, ◌<◌, ◌≤◌, Bool, true, false, List, [], ◌∷◌, length, Some, refl, sym, ap, ◌∙◌, subst, arith}
use Rattle.std.proofs.lemmas.Option.{slice_get-map}
use Rattle.bb_words.specs.Answers.{Goes, Ends, and_then}
use Rattle.bb_words.specs.declared.kinds.ReportKind.TheVariants.{Depth, Stack}
use Rattle.source_meaning.specs.declared.values.Pointer.TheVariants.{Null}
use Rattle.block_layout.specs.Layout.{position_of, Item, Placed, layout, stack_under}
use Rattle.block_layout.specs.Objects.{block_items}
use Rattle.typed_tree.specs.Types.{CType, is_pointer}
use Rattle.typed_tree.specs.TypedTree.{CLocal, CStruct, CFunction, CProgram}
use Rattle.typed_tree.specs.Counts.{values_of}
use Rattle.source_meaning.specs.declared.values.Value.{Value}
use Rattle.source_meaning.specs.declared.values.Value.TheVariants.{Num, Ptr}
use Rattle.source_meaning.specs.declared.values.Slot.{Slot}
use Rattle.source_meaning.specs.declared.values.Slot.TheVariants.{Kept, Lies}
use Rattle.source_meaning.specs.declared.values.ObjectKind.{ObjectKind}
use Rattle.source_meaning.specs.declared.values.ObjectKind.TheVariants.{Local}
use Rattle.source_meaning.specs.declared.values.Signal.{Signal}
use Rattle.source_meaning.specs.declared.values.Signal.TheVariants.{Falls, Broke, Continued, Gave}
use Rattle.source_meaning.specs.declared.values.Ending.TheVariants.{Exited, Reported, Cut}
use Rattle.source_meaning.specs.Worlds.{World, ended, all_ended}
use Rattle.size_table.specs.declared.memory_map.TheConstants.{MOST_CALLS, STACK_START}
use Rattle.source_meaning.specs.Accounts.{leave, enter, entered_at, all_made}
use Rattle.source_meaning.specs.States.{State, Runs, doing as does, with_slot, place_of_slot, write}
use Rattle.source_meaning.specs.Meaning.{execute}
use Rattle.source_meaning.specs.Sites.{first_site}
use Rattle.source_meaning.specs.Runs.{zero_of, slots_from, pass, given, return_to, count_call, with_locals, call_function, call_if_any, call_past, calls, first_state, exit_with, source, outcome_of, cost}
use Rattle.mid_code.specs.Code.{Step}
use Rattle.mid_code.specs.Times.{call_charge}
use Rattle.mid_code.specs.Meaning.{Came, Point, Goings, Way, spend, doing, Watch, unwatched, out_of_one, at_world, acts}
use Rattle.mid_code.specs.Runs.{parameters, handed, names_in}
use Rattle.mid_code.specs.Runs as mid
use Rattle.lowering_code.specs.Lower.{only, stmt_code, function_code, lowered}
use Rattle.lowering_keeps.specs.Keeps.{Agrees, Keeps}
use Rattle.lowering_keeps.proofs.Sim.{Over, Sim, goes, ends, sim_then, assoc, from_equal, to_equal}
use Rattle.lowering_keeps.proofs.Meets.{Meets, Grows, Did, did, less, spent}
use Rattle.lowering_keeps.proofs.Fits.{FunctionFits, ProgramFits, gives}
use Rattle.lowering_keeps.proofs.Steps.{goes_then, only_acts}
use Rattle.lowering_keeps.proofs.Expressions.{Returned, Matches}
use Rattle.lowering_keeps.proofs.Statements.{IsGiven, IsNumbered, stmt_way, Leaves, follows}

-- ---- A frame is entered

all_made_bytes : (kind : ObjectKind) (start : ℕ) (plan : List Placed) (w : World) → (all_made kind start plan w).bytes ≡ w.bytes
all_made_bytes kind start [] w = refl
all_made_bytes kind start (placed ∷ rest) w = all_made_bytes kind start rest _

enter_grows : (g line : ℕ) (items : List Item) (w : World) → Grows w (enter g line items w)
enter_grows g line items w = of (nat_le MOST_CALLS w.depth) (nat_lt (stack_under g w.stack items) STACK_START)
  where
    of : (a b : Bool) → Grows {A = Unit {0}} w (if a then Ends (Reported Depth line) w else if b then Ends (Reported Stack line) w else Goes tt (entered_at (stack_under g w.stack items) (layout g items) w))
    of true b = omega arith
    of false true = omega arith
    of false false = omega (arith, all_made_bytes Local (stack_under g w.stack items) (layout g items) (record w { depth = suc w.depth; stack = stack_under g w.stack items }))

all_ended_bytes : (n k : ℕ) (w : World) → (all_ended n k w).bytes ≡ w.bytes
all_ended_bytes zero k w = refl
all_ended_bytes (suc n) k w = all_ended_bytes n (suc k) (ended k w)

-- ---- The locals of a new call

slots_zero : (plan : List Placed) (first j : ℕ) (ls : List CLocal) → ((i : ℕ) (l : CLocal) → slice_get ls i ≡ Some l → (l.is_block ≡ false) × (is_pointer l.ty ≡ false)) → (i : ℕ) → slice_index_or (slots_from plan first j ls) i (Kept (Num 0)) ≡ Kept (Num 0)
slots_zero plan first j [] kept i = refl
slots_zero plan first j (l ∷ ls) kept zero =
    ap (λ b. if b then Lies (first + position_of j plan) else Kept (zero_of l.ty)) (kept 0 l refl).0
    ∙ ap (λ b. Kept (if b then Ptr Null else Num 0)) (kept 0 l refl).1
slots_zero plan first j (l ∷ ls) kept (suc i) = slots_zero plan first (suc j) ls (λ i' l' e. kept (suc i') l' e) i

-- arguments from number j on
abbrev filled : ℕ → List ℕ → (ℕ → Slot) → ℕ → Slot
filled j [] f = f
filled j (n ∷ ns) f = filled (suc j) ns (with_slot f j (Kept (Num n)))

-- each local is a value
abbrev AreKept : (ℕ → Slot) → Type 0
AreKept f = (i : ℕ) → (x : Value) × (f i ≡ Kept x)

kept_still : (f : ℕ → Slot) (j n : ℕ) → AreKept f → AreKept (with_slot f j (Kept (Num n)))
kept_still f j n kept i = of (i == j)
  where
    of : (b : Bool) → (x : Value) × ((if b then Kept (Num n) else f i) ≡ Kept x)
    of true = (Num n, refl)
    of false = kept i

pass_is : (ns : List ℕ) (j : ℕ) (ls : List CLocal) (c : State) → length ns ≤ length ls → AreKept c.locals → pass j (length ns) ls (map Num ns) c ≡ Goes tt (record c { locals = filled j ns c.locals })
unfolding and_then
pass_is [] j ls c le kept = refl
pass_is (n ∷ ns) j [] c le kept = absurd (omega (arith, le))
pass_is (n ∷ ns) j (l ∷ ls) c le kept =
    ap (λ z. and_then (write l.ty (place_of_slot j z) (Num n) c) (λ x. pass (suc j) (length ns) ls (map Num ns))) (kept j).1
    ∙ pass_is ns (suc j) ls (record c { locals = with_slot c.locals j (Kept (Num n)) }) (omega (arith, le)) (kept_still c.locals j n kept)

other : (f : ℕ → Slot) (i j : ℕ) (x : Slot) → i ≢ j → with_slot f j x i ≡ f i
other f i j x ne = grind arith

filled_below : (ns : List ℕ) (j : ℕ) (f : ℕ → Slot) (i : ℕ) → i < j → filled j ns f i ≡ f i
filled_below [] j f i lt = refl
filled_below (n ∷ ns) j f i lt = filled_below ns (suc j) (with_slot f j (Kept (Num n))) i (omega (arith, lt)) ∙ other f i j (Kept (Num n)) (λ e. omega (arith, e, lt))

filled_at : (ns : List ℕ) (j : ℕ) (f : ℕ → Slot) → ((i : ℕ) → j ≤ i → f i ≡ Kept (Num 0)) → (d : ℕ) → filled j ns f (j + d) ≡ Kept (Num (slice_index_or ns d 0))
filled_at [] j f zeros d = zeros (j + d) (omega arith)
filled_at (n ∷ ns) j f zeros zero =
    let e : j + 0 ≡ j = omega arith in
    ap (λ i. filled (suc j) ns (with_slot f j (Kept (Num n))) i) e
    ∙ filled_below ns (suc j) (with_slot f j (Kept (Num n))) j (omega arith)
    ∙ itself f j (Kept (Num n))
  where
    itself : (f : ℕ → Slot) (i : ℕ) (x : Slot) → with_slot f i x i ≡ x
    itself f i x = grind arith
filled_at (n ∷ ns) j f zeros (suc d) =
    let e : j + suc d ≡ suc j + d = omega arith in
    ap (λ i. filled (suc j) ns (with_slot f j (Kept (Num n))) i) e
    ∙ filled_at ns (suc j) (with_slot f j (Kept (Num n))) (λ i le. other f i j (Kept (Num n)) (λ h. omega (arith, h, le)) ∙ zeros i (omega (arith, le))) d

parameters_at : (ns : List ℕ) (i : ℕ) → parameters (map Num ns) i ≡ Num (slice_index_or ns i 0)
parameters_at [] i = refl
parameters_at (n ∷ ns) zero = refl
parameters_at (n ∷ ns) (suc i) = parameters_at ns i

-- ---- A call

abbrev result_of : Way → Value
result_of w = handed (out_of_one w)

-- what a call gives in both runs
gives_same : (t : CType) (x : Signal) → is_pointer t ≡ false → IsNumbered x (gives t) → (n : ℕ) × (given (zero_of t) x ≡ Num n) × (handed (out_of_one (stmt_way (gives t) 1 x)) ≡ Num n)
gives_same t Falls e ok = (0, ap (λ b. if b then Ptr Null else Num 0) e, refl)
gives_same t Broke e ok = (0, ap (λ b. if b then Ptr Null else Num 0) e, refl)
gives_same t Continued e ok = (0, ap (λ b. if b then Ptr Null else Num 0) e, refl)
gives_same t (Gave x) e ok = of (gives t) x ok
  where
    of : (b : Bool) (x : Value) → IsGiven b x → (n : ℕ) × (given (zero_of t) (Gave x) ≡ Num n) × (handed (out_of_one (stmt_way b 1 (Gave x))) ≡ Num n)
    of true (Num n) ok = (n, refl, refl)
    of true (Ptr q) ok = absurd ok
    of false x ok = (0, ok, refl)

point_then : {A B : Type 0} (a : A) (v : Point) (f : A → Point → Goings B) → and_then (Goes a v) f ≡ f a v
unfolding and_then
point_then a v f = refl

module _ (g : ℕ) (p : CProgram) (watch : Watch) (m n : ℕ) where
  abbrev source_calls : (f : ℕ) → List Value → State → Runs Value
  source_calls = calls g p m n

  abbrev code_calls : (f : ℕ) → List Value → Point → Goings Value
  code_calls = mid.calls g watch (lowered p) m n

  entered : Matches p.functions (calls g p m n) (mid.calls g watch (lowered p) m n) → (f : CFunction) → FunctionFits p.structs p.functions f → values_of f ≤ 250 → (site : ℕ) (ns : List ℕ) (s : ℕ) (c : State) (v : Point) → length ns ≡ f.params → v.world ≡ c.world → v.time + s ≤ cost c → Sim (Returned s c v) (call_function g f (execute g p (calls g p m n) m f.locals f.body site) (map Num ns) c) (mid.call_function g (function_code p.structs f) (λ u. acts g watch (mid.calls g watch (lowered p) m n) m (names_in g (lowered p) (function_code p.structs f) v) (function_code p.structs f).body u) (map Num ns) v)
  entered match f fits room site ns s c v arity ew paid =
      let h = function_code p.structs f in
      let items = block_items f in
      let k = length f.locals in
      let charge = call_charge h in
      let names = names_in g (lowered p) h v in
      let body = stmt_code p.structs f.body 1 k in
      let R = Returned s c v in
      let m0 : Meets 0 (s + 120) (count_call f c) (spend charge v) = record { world = ew; locals = λ j lt. absurd (omega arith); paid = omega (arith, paid, room) } in
      sim_then (Did 0 (s + 120) (spend charge v)) R (does (enter g f.line items) (count_call f c)) (doing (enter g f.line items) (spend charge v))
      (λ entered c1. and_then (pass 0 f.params f.locals (map Num ns) (with_locals g f c c1)) (λ passed c2. and_then (execute g p source_calls m f.locals f.body site c2) (λ x c3. Goes (given (zero_of f.result) x) (return_to g f c c3))))
      (λ entered u. and_then (acts g watch code_calls m names (only (Step.Block body)) (record u { values = parameters (map Num ns) })) (λ way t. Goes (handed way) (mid.return_to h v t)))
      (did 0 (s + 120) (count_call f c) (spend charge v) (enter g f.line items) (enter g f.line items) refl m0 (enter_grows g f.line items c.world))
      (λ x c1 y u d.
      let wl : State = with_locals g f c c1 in
      let zeros : (i : ℕ) → wl.locals i ≡ Kept (Num 0) = slots_zero (layout g items) (length c.world.objects) 0 f.locals fits.kept in
      let c2 : State = record wl { locals = filled 0 ns wl.locals } in
      let u1 : Point = record u { values = parameters (map Num ns) } in
      let F : Unit {0} → State → Runs Value = λ passed c2. and_then (execute g p source_calls m f.locals f.body site c2) (λ x c3. Goes (given (zero_of f.result) x) (return_to g f c c3)) in
      let K : Way → Point → Goings Value = λ way t. Goes (handed way) (mid.return_to h v t) in
      let m1 : Meets k (s + 120) c2 u1 = record {
        world = d.meets.world;
        locals = λ j lt. let e0 : 0 + j ≡ j = omega arith in record {
          number = slice_index_or ns j 0;
          slot = subst (λ i. filled 0 ns wl.locals i ≡ Kept (Num (slice_index_or ns j 0))) e0 (filled_at ns 0 wl.locals (λ i le. zeros i) j);
          value = parameters_at ns j;
        };
        paid = omega (arith, d.meets.paid);
      } in
      from_equal R _ _ (and_then (acts g watch code_calls m names (only (Step.Block body)) u1) K)
      (ap (λ r. and_then r F) (ap (λ z. pass 0 z f.locals (map Num ns) wl) (sym arity) ∙ pass_is ns 0 f.locals wl (omega (arith, arity, fits.params)) (λ i. (Num 0, zeros i))) ∙ goes_then tt c2 F)
      (to_equal R (F tt c2) _ _ (ap (λ q. and_then q K) (only_acts g watch code_calls m names (Step.Block body) u1) ∙ assoc (acts g watch code_calls m names body (spend 8 u1)) (λ w. Goes (out_of_one w)) K)
      (sim_then (Leaves (gives f.result) (stmt_way (gives f.result) 1) k (s + 112 + 512)) R (execute g p source_calls m f.locals f.body site c2) (acts g watch code_calls m names body (spend 8 u1)) (λ x c3. Goes (given (zero_of f.result) x) (return_to g f c c3)) (λ w t. and_then (Goes (out_of_one w) t) K)
      (follows g p source_calls watch code_calls m names k match f.locals (gives f.result) false f.body fits.body 1 site (s + 112) c2 (spend 8 u1) (omega arith) (spent 8 k (s + 112) c2 u1 (less k (s + 120) (s + 112 + 8) c2 u1 (omega arith) m1)))
      (λ x' c3 w t l.
      let same = gives_same f.result x' fits.result l.numbered in
      to_equal R (Goes (given (zero_of f.result) x') (return_to g f c c3)) _ _ (point_then (out_of_one w) t K)
      (goes R (given (zero_of f.result) x') (return_to g f c c3) (handed (out_of_one w)) (mid.return_to h v t) (record {
        number = same.0;
        value = same.1;
        result = ap (λ z. handed (out_of_one z)) l.way ∙ same.2;
        world = ap (λ z. leave items z t.world) ew ∙ ap (leave items c.world) l.meets.world;
        locals = refl;
        unset = refl;
        paid = omega (arith, l.meets.paid, all_ended_bytes (length items) (length c.world.objects) c3.world);
      }))))))

-- what the limits on functions give
abbrev pub HasRoom : CProgram → Type 0
HasRoom p = (i : ℕ) (f : CFunction) → slice_get p.functions i ≡ Some f → values_of f ≤ 250

module _ (g : ℕ) (p : CProgram) (watch : Watch) (m : ℕ) (fits : ProgramFits p) (room : HasRoom p) where
  past : (h : CFunction) → values_of h ≤ 250 → (s : ℕ) (c : State) (v : Point) → v.world ≡ c.world → v.time + s ≤ cost c → Sim (Returned s c v) (call_past (Some h) c) (mid.call_past (Some (function_code p.structs h)) v)
  past h small s c v ew paid =
      subst (λ w. Sim R (call_past (Some h) c) (if nat_le MOST_CALLS w.depth then Ends (Came (Reported Depth h.line)) (spend (call_charge (function_code p.structs h)) v) else Ends (Came Cut) v)) (sym ew) (of (nat_le MOST_CALLS c.world.depth))
    where
      R : Value → State → Value → Point → Type 0
      R = Returned s c v

      of : (b : Bool) → Sim (Returned s c v) (if b then Ends (Reported Depth h.line) (count_call h c) else Ends Cut c) (if b then Ends (Came (Reported Depth h.line)) (spend (call_charge (function_code p.structs h)) v) else Ends (Came Cut) v)
      of true = ends (Returned s c v) (Reported Depth h.line) (count_call h c) (spend (call_charge (function_code p.structs h)) v) (ew, omega (arith, paid, small))
      of false = ends (Returned s c v) Cut c v (ew, omega (arith, paid))

  coded : (f : ℕ) (h : CFunction) → slice_get p.functions f ≡ Some h → slice_get (lowered p).functions f ≡ Some (function_code p.structs h)
  coded f h e = slice_get-map (function_code p.structs) p.functions f ∙ ap (option_map (function_code p.structs)) e

  pub matches : (n : ℕ) → Matches p.functions (calls g p m n) (mid.calls g watch (lowered p) m n)
  matches zero f ns s c v takes ew paid =
      from_equal (Returned s c v) _ _ _ (ap (λ o. call_past o c) takes.1)
      (to_equal (Returned s c v) _ _ _ (ap (λ o. mid.call_past o v) (coded f takes.0 takes.1)) (past takes.0 (room f takes.0 takes.1) s c v ew paid))
  matches (suc n) f ns s c v takes ew paid =
      let site = first_site p.structs p.functions f in
      from_equal (Returned s c v) _ _ _ (ap (λ o. call_if_any g o (λ h. execute g p (calls g p m n) m h.locals h.body site) (map Num ns) c) takes.1)
      (to_equal (Returned s c v) _ _ _ (ap (λ o. mid.call_if_any g o (λ h caller. acts g watch (mid.calls g watch (lowered p) m n) m (names_in g (lowered p) h caller) h.body) (map Num ns) v) (coded f takes.0 takes.1))
      (entered g p watch m n (matches n) takes.0 (fits.each f takes.0 takes.1) (room f takes.0 takes.1) site ns s c v takes.2 ew paid))

-- ---- Whole programs

abbrev Ended : Unit {0} → State → Unit {0} → Point → Type 0
Ended a c b v = Over c v

exits : (n : ℕ) (c : State) (v : Point) → Over c v → Sim Ended (exit_with (Num n) c) (mid.exit_with (Num n) v)
exits n c v h = ends Ended (Exited n) c (at_world v.world v) (h.0, omega (arith, h.1))

agree_of : (r : Runs (Unit {0})) (q : Goings (Unit {0})) → Sim Ended r q → Agrees (outcome_of r) (mid.outcome_of q)
agree_of (Goes a c) q h =
    subst (λ z. Agrees (outcome_of (Goes a c)) (mid.outcome_of z)) (sym h.by.2) (record { ending = refl; world = h.by.3.0; time = h.by.3.1 })
agree_of (Ends e c) q h =
    subst (λ z. Agrees (outcome_of {A = Unit {0}} (Ends e c)) (mid.outcome_of z)) (sym h.by.1) (record { ending = refl; world = h.by.2.0; time = h.by.2.1 })

code_blocks : (structs : List CStruct) (fs : List CFunction) → map (λ f. f.blocks) (map (function_code structs) fs) ≡ map block_items fs
code_blocks structs [] = refl
code_blocks structs (f ∷ fs) = ap (λ z. block_items f ∷ z) (code_blocks structs fs)

-- The code of a program means what the program means.
pub keeps : (p : CProgram) → ProgramFits p → HasRoom p → Keeps p (lowered p)
keeps p fits room = record {
  named = refl;
  globals = refl;
  blocks = code_blocks p.structs p.functions;
  runs = λ g input m.
      let c : State = first_state g p input in
      let v : Point = mid.first_point g (lowered p) input in
      agree_of (source g p input m) (mid.mid g unwatched (lowered p) input m)
      (sim_then (Returned 0 c v) Ended (calls g p m m p.main [] c) (mid.calls g unwatched (lowered p) m m p.main [] v) exit_with mid.exit_with
      (matches g p unwatched m fits room m p.main [] 0 c v fits.main refl (omega arith))
      (λ x c1 y u l.
      subst (λ z. Sim Ended (exit_with z c1) (mid.exit_with y u)) (sym l.value)
      (subst (λ z. Sim Ended (exit_with (Num l.number) c1) (mid.exit_with z u)) (sym l.result)
      (exits l.number c1 u (l.world, omega (arith, l.paid))))));
}
