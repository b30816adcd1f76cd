-- A machine that follows calls with so many nested follows those with one more.
use Rattle.std.proofs.Common.{◌≡◌, ◌≢◌, ℕ, suc, ◌+◌, ◌<◌, ◌≤◌, ◌⊎◌, inl, inr, Bool, true, false, if◌then◌else◌, List, [], ◌∷◌, ◌++◌, length, Some, None, refl, sym, ap, ◌∙◌, subst, arith, length-append}
use Rattle.std.specs.Prelude.{nat_lt, nat_le, slice_get, slice_index_or}
use Rattle.std.proofs.lemmas.List.{append-nil}
use Rattle.std.proofs.lemmas.Bool.{ne_eqb, le-leb, cases_lt}
use Rattle.bb_words.specs.Answers.{Answer, and_then, either}
use Rattle.bb_words.specs.declared.kinds.ReportKind.TheVariants as report
use Rattle.size_table.specs.declared.memory_map.TheConstants.{STACK_START, HEAP_START, MOST_CALLS}
use Rattle.flat_code.specs.Code.{FSteps, FFunction}
use Rattle.flat_code.specs.World.{arguments, FWorld, FPoint, point, spend, choose, Ending}
use Rattle.flat_code.specs.Accounts as accounts
use Rattle.flat_code.specs.Run.{Calls, act_all, body_with, framed_if, counted, library, defined, call_one}
use Rattle.flat_code.specs.Time.{call_charge}
use Rattle.flat_discipline.specs.Discipline.{frame_in}
use Rattle.flat_discipline.specs.Comes.{InSteps, nothing, InDefined}
use Rattle.flat_discipline.specs.Items.{all_steps, items_of}
use Rattle.rv_asm.specs.declared.parts.Part.TheVariants.{Plain, Label}
use Rattle.rv_asm.specs.Runs.{IsAt, PartAt, PartsAt}
use Rattle.rv_code.specs.declared.instr.Instr.TheVariants.{Addi, Ecall}
use Rattle.rv_machine.specs.declared.frames.Entered.{Entered}
use Rattle.rv_machine.specs.declared.frames.Entry.TheVariants.{TooDeep, NoRoom}
use Rattle.rv_machine.specs.declared.stop.Halt.TheVariants.{Reported}
use Rattle.rv_machine.specs.State.{Core, Frames, register_of}
use Rattle.rv_machine.specs.Frames.{refused, entered_at, stack_under}
use Rattle.rv_machine.specs.Environment.{World}
use Rattle.rv_selected.specs.Registers.{constant}
use Rattle.rv_selected.specs.Selection.{frame_parts, items_parts, items_labels, enter_code, return_code}
use Rattle.rv_selected.specs.Steps.{plains}
use Rattle.select_scope.specs.Frame.{IsFrameAt}
use Rattle.select_scope.specs.Fits.{FitsFunction, params_of}
use Rattle.select_scope.specs.InReach.{reached, in_reach}
use Rattle.select_scope.specs.Loaded.{Loaded, IsLoaded, after, Frame, edge, Agrees}
use Rattle.select_scope.proofs.Agree.{Laws, spent, agrees_later}
use Rattle.select_scope.proofs.Moves.{apart}
use Rattle.select_scope.proofs.Pieces.{parts_split, plains_split, plains_join}
use Rattle.select_straight.proofs.Raw.{core_at}
use Rattle.select_calls.proofs.Calling.{IsCalled, CallComes, IsCallee, HasTime, CallsRun}
use Rattle.select_calls.proofs.Entering.{after_enter, enters_so, too_deep, no_room, has_entered, Reframed, reframed, agrees_reframed}
use Rattle.select_calls.proofs.Functions.{FunctionAt, Ready, prepares, refuses, running}
use Rattle.select_calls.proofs.Bodies.{entered_runs}

module _ (laws : Laws) (s : Loaded) (scene : IsLoaded s) (functions : List FFunction) (m q : ℕ) (deeper : Calls) (inside : (function : ℕ) → (args : List ℕ) → FPoint → Type 0) (less : q ≤ m) (runs : CallsRun s functions q deeper inside)
    (values_fit : (number : ℕ) (fn : FFunction) → slice_get functions number ≡ Some fn → fn.values ≤ 255) (items_are : (steps : FSteps) → all_steps 4 (items_of 4 steps) ≡ steps) where
  abbrev core : ℕ → Core
  core k = core_at laws s scene k

  pub function_runs : (f : Frame) (number : ℕ) (fn : FFunction) (places args : List ℕ) (u : FPoint) (k t : ℕ) → slice_get functions number ≡ Some fn → FunctionAt s scene number fn → FitsFunction (λ n. params_of (slice_get functions n)) number fn
      → length args ≡ fn.params → IsCallee f fn places → HasTime u.world k t
      → either (nat_le MOST_CALLS u.world.depth) nothing (InDefined 4 s.frames m (in_reach functions) deeper inside number fn args (slice_get s.frames number)) u → IsCalled s f number args u.world k
      → CallComes s f places u.words (suc q) k t (call_one 4 s.frames m functions deeper (Some fn) number args u)
  function_runs f number fn places args u k t own here fits given_all callee time reach called =
      let line = fn.line in
      let n = here.first in
      let p1 = Label number ∷ plains (enter_code number line) in
      let p2 = frame_parts (n + 1) fn.params fn.values in
      let p3 = items_parts 4 n None [] (n + 2) (items_of 4 fn.body) in
      let p4 = Plain (Addi 9 0 0) ∷ Label n ∷ plains (return_code number line fn.values) in
      let d4 = parts_split s (p1 ++ p2 ++ p3) p4 here.from here.to here.parts in
      let d3 = parts_split s (p1 ++ p2) p3 here.from d4.0 d4.1 in
      let d2 = parts_split s p1 p2 here.from d3.0 d3.1 in
      let start = d2.1.0 in
      let label : s.labels number ≡ start = d2.1.1.0 (scene.once number here.own) ∙ sym d2.1.1.1 in
      let some : line ≢ 0 = λ e. absurd (let x = fits.line in let z : 1 ≤ 0 = omega (arith, e, x) in omega (arith, z)) in
      let code = constant 10 number ++ constant 11 line in
      let coded : enter_code number line ≡ code ++ (Addi 17 0 7 ∷ Ecall ∷ []) ++ (Addi 8 10 0 ∷ []) =
      ap (λ b. if b then [] else code ++ (Addi 17 0 7 ∷ Ecall ∷ []) ++ (Addi 8 10 0 ∷ [])) (ne_eqb line 0 some) in
      let listed = subst (λ l. PartsAt s.text s.all s.labels start (plains l) d2.0) coded d2.1.2 in
      let e1 = plains_split s (code ++ (Addi 17 0 7 ∷ Ecall ∷ [])) (Addi 8 10 0 ∷ []) start d2.0 listed in
      let e2 = plains_split s code (Addi 17 0 7 ∷ Ecall ∷ []) start e1.0 e1.1 in
      let p = e2.2.0 in
      let asks_by = plains_join s code (Addi 17 0 7 ∷ []) start e2.0 p e2.1 (p, e2.2.1, refl) in
      let low = callee.room in
      let high = callee.high in
      let aligned = callee.aligned in
      let frame_0 : IsFrameAt (edge f) 0 = record { low = omega (arith, low); high = omega (arith, high); aligned = omega (arith, aligned) } in
      let ready = prepares laws s scene f number line start p k fits.number_is fits.small asks_by called.base frame_0 high (subst (λ x. IsAt s.text x (after s k)) label called.at) in
      let ecall : PartAt s.text s.all s.labels p (Plain Ecall) e1.0 = subst (λ x. PartAt s.text s.all s.labels p (Plain Ecall) x) (sym e2.2.2.2) e2.2.2.1 in
      let copy : PartAt s.text s.all s.labels e1.0 (Plain (Addi 8 10 0)) d2.0 = subst (λ x. PartAt s.text s.all s.labels e1.0 (Plain (Addi 8 10 0)) x) (sym e1.2.2) e1.2.1 in
      subst (λ b. CallComes s f places u.words (suc q) k t (choose b (library 4 s.frames m fn args) (counted line (defined 4 s.frames m deeper number fn args)) u)) (sym (ne_eqb line 0 some))
      (by_depth d2.0 d3.0 d4.0 p e1.0 n ready ecall copy d2.2 d3.2 d4.2 here.labels here.layout (nat_le MOST_CALLS u.world.depth) refl reach)
    where
      by_depth : (a a3 a4 p pe first : ℕ) → Ready laws s scene f number fn.line p k → PartAt s.text s.all s.labels p (Plain Ecall) pe → PartAt s.text s.all s.labels pe (Plain (Addi 8 10 0)) a
          → PartsAt s.text s.all s.labels a (frame_parts (first + 1) fn.params fn.values) a3
          → PartsAt s.text s.all s.labels a3 (items_parts 4 first None [] (first + 2) (items_of 4 fn.body)) a4
          → PartsAt s.text s.all s.labels a4 (Plain (Addi 9 0 0) ∷ Label first ∷ plains (return_code number fn.line fn.values)) here.to
          → first + (2 + items_labels (items_of 4 fn.body)) ≤ scene.count → slice_get s.frames number ≡ Some []
          → (deep : Bool) → nat_le MOST_CALLS u.world.depth ≡ deep → either deep nothing (InDefined 4 s.frames m (in_reach functions) deeper inside number fn args (slice_get s.frames number)) u
          → CallComes s f places u.words (suc q) k t (choose deep (λ v. Answer.Ends (Ending.Reported report.Depth fn.line) v) (defined 4 s.frames m deeper number fn args) u)
      by_depth a a3 a4 p pe first ready ecall copy pushes body ends labels layout true deep reach =
          let j = k + ready.count in
          let v = after s j in
          let agrees = ready.agrees u.world called.agrees in
          let too : nat_le MOST_CALLS (length v.machine.frames.entered) ≡ true = ap (λ l. nat_le MOST_CALLS (length l)) agrees.entered ∙ ap (nat_le MOST_CALLS) (sym agrees.depth) ∙ deep in
          let x = refused TooDeep v.machine.frames v.machine.core.memory in
          let so = enters_so v number x ready.seventeen ready.ten (ap (λ l. slice_get l number) agrees.layouts ∙ layout) (too_deep number v.machine.frames v.machine.core.memory too) in
          let soon = (time.2 deep).0 in
          let near = (time.2 deep).1 in
          refuses laws s scene f report.Depth fn.line p pe k j t u u.world (after_enter x v) ecall ready.at so (ap (λ y. Some (Reported report.Depth y)) ready.eleven) (append-nil v.told) agrees called.kept refl
          (omega arith) (omega (arith, near, ready.few))
      by_depth a a3 a4 p pe first ready ecall copy pushes body ends labels layout false deep reach =
          let u0 = point u.words (spend (call_charge fn) u.world) in
          subst (λ o. CallComes s f places u.words (suc q) k t (framed_if 4 fn.line (act_all 4 deeper m fn.frame fn.body) args o u0)) (sym layout)
          (by_room (nat_lt (accounts.stack_under 4 u.world.stack []) STACK_START) refl (subst (λ o. InDefined 4 s.frames m (in_reach functions) deeper inside number fn args o u) layout reach))
        where
          j : ℕ
          j = k + ready.count

          v : World
          v = after s j

          w0 : FWorld
          w0 = spend (call_charge fn) u.world

          agrees : Agrees s f u.world v
          agrees = ready.agrees u.world called.agrees

          none_deep : nat_le MOST_CALLS (length v.machine.frames.entered) ≡ false
          none_deep = ap (λ l. nat_le MOST_CALLS (length l)) agrees.entered ∙ ap (nat_le MOST_CALLS) (sym agrees.depth) ∙ deep

          few_by : (u.world.depth < 4096) ⊎ (4096 ≤ u.world.depth) → u.world.depth < 4096
          few_by (inl lt) = lt
          few_by (inr le) = absurd (let e : true ≡ false = sym (le-leb 4096 u.world.depth le) ∙ deep in let z : ⊥ = cc in z)

          given_on : (base : ℕ) (frames : Frames) → Reframed laws s scene a base frames j → (i : ℕ) → i < length args → register_of (core (j + 1 + 1)) (18 + i) ≡ slice_index_or args i 0
          given_on base frames r i lt =
              let few = fits.few in
              r.others (18 + i) (λ e. absurd (let z : 18 ≤ 8 = omega (arith, e) in omega (arith, z))) (λ e. absurd (let z : 18 ≤ 10 = omega (arith, e) in omega (arith, z)))
              ∙ ready.others (18 + i) (omega (arith, lt, few, given_all)) (λ e. absurd (let z : 18 ≤ 10 = omega (arith, e) in omega (arith, z)))
              (λ e. absurd (let z : 18 ≤ 11 = omega (arith, e) in omega (arith, z))) (λ e. absurd (let z : 18 ≤ 17 = omega (arith, e) in omega (arith, z)))
              ∙ called.given i lt

          by_room : (low : Bool) → nat_lt (accounts.stack_under 4 u.world.stack []) STACK_START ≡ low
              → either low nothing (λ z. InSteps 4 deeper m fn.frame inside (in_reach functions number) fn.body 0 (point (arguments args) (accounts.enter (accounts.stack_under 4 z.world.stack []) [] z.world))) (point u.words w0)
              → CallComes s f places u.words (suc q) k t (choose low (λ z. Answer.Ends (Ending.Reported report.Stack fn.line) z)
              (λ z. and_then (body_with (act_all 4 deeper m fn.frame fn.body) args (point z.words (accounts.enter (accounts.stack_under 4 z.world.stack []) [] z.world)))
              (λ word x. Answer.Goes word (point x.words (accounts.leave [] z.world x.world)))) (point u.words (spend (call_charge fn) u.world)))
          by_room true is body_reach =
              let stack : nat_lt (stack_under v.machine.frames.stack []) STACK_START ≡ true = ap (λ x. nat_lt (stack_under x []) STACK_START) agrees.number ∙ is in
              let x = refused NoRoom v.machine.frames v.machine.core.memory in
              let so = enters_so v number x ready.seventeen ready.ten (ap (λ l. slice_get l number) agrees.layouts ∙ layout) (no_room number v.machine.frames v.machine.core.memory none_deep stack) in
              let early = time.1 in
              refuses laws s scene f report.Stack fn.line p pe k j t (point u.words w0) u.world (after_enter x v) ecall ready.at so (ap (λ y. Some (Reported report.Stack y)) ready.eleven) (append-nil v.told) agrees called.kept refl
              (omega arith) (omega (arith, early, ready.few))
          by_room false is body_reach =
              let frames = v.machine.frames in
              let memory = v.machine.core.memory in
              let stack : nat_lt (stack_under frames.stack []) STACK_START ≡ false = ap (λ x. nat_lt (stack_under x []) STACK_START) agrees.number ∙ is in
              let base = stack_under frames.stack [] in
              let flat_base = accounts.stack_under 4 u.world.stack [] in
              let same_base : base ≡ flat_base = ap (λ x. stack_under x []) agrees.number in
              let x = entered_at base number [] frames memory in
              let so = enters_so v number x ready.seventeen ready.ten (ap (λ l. slice_get l number) agrees.layouts ∙ layout) (has_entered number frames memory none_deep stack) in
              let eight : u.world.stack ≤ HEAP_START = agrees.settled.stack in
              let number_is = agrees.number in
              let r = reframed laws s scene p pe a base j x.frames (after_enter x v) ecall copy ready.at (omega (arith, eight, number_is)) so refl refl ready.at.running refl (append-nil v.told) in
              let call : Entered = record { frame = number; back = u.world.stack } in
              let entered = f.entered ++ call ∷ [] in
              let more : frames.entered ++ (record { frame = number; back = frames.stack }) ∷ [] ≡ entered =
              ap (λ l. l ++ (record { frame = number; back = frames.stack }) ∷ []) agrees.entered ∙ ap (λ y. f.entered ++ (record { frame = number; back = y }) ∷ []) agrees.number in
              let depth = agrees.depth in
              let deeper_by : u.world.depth + 1 ≡ length entered = omega (arith, depth, length-append f.entered (call ∷ [])) in
              let now = agrees_reframed laws s scene f entered w0 (u.world.depth + 1) base a j x.frames refl agrees.layouts more deeper_by (omega (arith, eight, number_is)) r (agrees_later s f u.world w0 v (spent (call_charge fn) u.world) agrees) in
              let few_calls = few_by (cases_lt u.world.depth 4096) in
              let early = time.0 in
              let late = time.1 in
              entered_runs laws s scene functions m q deeper inside less runs values_fit items_are f number fn places args u w0 first a a3 a4 here.to (j + 1 + 1) k t fits callee given_all depth
              (omega (arith, few_calls, depth)) eight layout labels pushes body ends flat_base r.at
              (r.others 2 (apart 2 8 refl) (apart 2 10 refl) ∙ ready.others 2 (omega arith) (apart 2 10 refl) (apart 2 11 refl) (apart 2 17 refl) ∙ called.base)
              (r.others 1 (apart 1 8 refl) (apart 1 10 refl) ∙ ready.others 1 (omega arith) (apart 1 10 refl) (apart 1 11 refl) (apart 1 17 refl) ∙ called.from)
              (λ i lt. given_on base x.frames r i lt)
              (subst (λ o. InSteps 4 deeper m fn.frame inside (reached (frame_in o)) fn.body 0 (point (arguments args) (record w0 { depth = u.world.depth + 1; stack = flat_base }))) own body_reach)
              (subst (λ b. Agrees s (running laws s scene f number u.world.stack) (record w0 { depth = u.world.depth + 1; stack = b }) (after s (j + 1 + 1))) same_base now) called.kept
              (omega arith) (omega (arith, early, ready.few)) (omega (arith, late, ready.few))
