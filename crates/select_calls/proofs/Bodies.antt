-- How a machine follows a function, from its label to the place that it returns to.
use Rattle.std.proofs.Common.{◌≡◌, ℕ, zero, suc, ◌+◌, ◌*◌, ◌%◌, ◌^◌, ◌<◌, ◌≤◌, ◌⊎◌, inl, inr, List, [], ◌∷◌, length, Option, Some, None, refl, sym, ap, ◌∙◌, subst, arith, length-append}
use Rattle.std.specs.Prelude.{slice_get, slice_index_or}
use Rattle.std.proofs.lemmas.Bool.{cases_lt}
use Rattle.bb_words.specs.Answers.{Answer, and_then}
use Rattle.flat_code.specs.Code.{FSteps, FFunction}
use Rattle.flat_code.specs.World.{arguments, FWorld, FPoint, point, Run, Way}
use Rattle.flat_code.specs.Accounts as accounts
use Rattle.flat_code.specs.Run.{Calls, act_all, returned}
use Rattle.flat_discipline.specs.Comes.{InSteps}
use Rattle.flat_discipline.specs.Items.{all_steps, items_of}
use Rattle.rv_asm.specs.declared.parts.Part.TheVariants.{Plain, Label}
use Rattle.rv_asm.specs.Runs.{IsAt, PartsAt}
use Rattle.rv_code.specs.declared.instr.Instr.TheVariants.{Addi}
use Rattle.rv_machine.specs.State.{Core, register_of}
use Rattle.rv_selected.specs.Registers.{cell}
use Rattle.rv_selected.specs.Selection.{frame_parts, items_parts, items_labels, return_code}
use Rattle.rv_selected.specs.Steps.{plains}
use Rattle.size_table.specs.declared.memory_map.TheConstants.{HEAP_START}
use Rattle.size_table.specs.Memory.{word_at}
use Rattle.select_scope.specs.Fits.{FitItems, FitsFunction, params_of}
use Rattle.select_scope.specs.InReach.{reached}
use Rattle.select_scope.specs.Loaded.{Loaded, IsLoaded, after, Frame, edge, HasRoom, Agrees, IsKept, At}
use Rattle.select_scope.proofs.Agree.{Laws, itself}
use Rattle.select_scope.proofs.Reach.{Comes, ends_from}
use Rattle.select_scope.proofs.Moves.{cell_is, row}
use Rattle.select_scope.proofs.Pieces.{is_set}
use Rattle.select_items.proofs.Items.{items_run}
use Rattle.select_straight.proofs.Raw.{core_at}
use Rattle.select_calls.proofs.Pushes.{HasPlace, frame_push}
use Rattle.select_calls.proofs.Calling.{CallComes, IsCallee, CallsRun, calls_follow}
use Rattle.select_calls.proofs.Functions.{running, leaves_call}

-- past the arguments all values are 0
none_given : (args : List ℕ) (v : ℕ) → length args ≤ v → slice_index_or args v 0 ≡ 0
none_given [] v le = refl
none_given (x ∷ xs) zero le = absurd (omega (arith, le))
none_given (x ∷ xs) (suc v) le = none_given xs v (omega (arith, le))

module _ (laws : Laws) (s : Loaded) (scene : IsLoaded s) (functions : List FFunction) (m q : ℕ) (deeper : Calls) (inside : (function : ℕ) → (args : List ℕ) → FPoint → Type 0) (less : q ≤ m) (runs : CallsRun s functions q deeper inside)
    (values_fit : (number : ℕ) (fn : FFunction) → slice_get functions number ≡ Some fn → fn.values ≤ 255) (items_are : (steps : FSteps) → all_steps 4 (items_of 4 steps) ≡ steps) where
  abbrev params : ℕ → Option ℕ
  params n = params_of (slice_get functions n)

  abbrev core : ℕ → Core
  core k = core_at laws s scene k

  -- The body of a function that was entered, and its return, as a run of flat code says.
  abbrev pub back_of : (u : FPoint) (w0 : FWorld) → Run Way → Run ℕ
  back_of u w0 o = and_then (and_then (and_then o returned) (λ word t. Answer.Goes word (point u.words t.world))) (λ word t. Answer.Goes word (point t.words (accounts.leave [] w0 t.world)))

  returns_so : (f : Frame) (number : ℕ) (fn : FFunction) (places : List ℕ) (u : FPoint) (w0 : FWorld) (first a b k2 k t time : ℕ) → HasPlace f → HasRoom (running laws s scene f number w0.stack) → FitsFunction params number fn
      → IsCallee f fn places → w0.depth ≡ length f.entered → w0.stack ≤ HEAP_START → slice_get s.frames number ≡ Some [] → first < scene.count
      → PartsAt s.text s.all s.labels a (Plain (Addi 9 0 0) ∷ Label first ∷ plains (return_code number fn.line f.values)) b
      → k + 1 ≤ k2 → k2 + 10 ≤ time → k2 + 10 + t ≤ k + time → (o : Run Way)
      → Comes s (running laws s scene f number w0.stack) (record { exits = []; back = first }) a None q k2 time o → CallComes s f places u.words (suc q) k t (back_of u w0 o)
  unfolding and_then
  returns_so f number fn places u w0 first a b k2 k t time place room fits callee deep small layout own parts some early near (Answer.Goes Way.On u2) h =
      let g = running laws s scene f number w0.stack in
      let j = h.count in
      let done = row laws s scene g room (Addi 9 0 0 ∷ []) a parts.0 None None u2 u2.words u2.world j ((is_set 9 (omega arith) (omega arith), omega arith), tt) (parts.0, parts.1, refl) (itself u2.world)
      (omega (arith, h.within, early)) (record { cells = h.there.frame.stands.cells; five = tt; zero = h.there.frame.stands.zero }) (record { eight = refl; table = refl; behind = refl }) h.there in
      let at = subst (λ p. At s g p None u2 (j + 1)) (sym parts.2.1.1) done.there in
      let nine : register_of (core (j + 1)) 9 ≡ 0 = done.registers 9 (omega arith) ∙ ap (λ x. (x + 0) % 2 ^ 32) h.there.frame.stands.zero in
      let left = leaves_call laws s scene f number fn.line w0.stack w0.depth parts.2.0 b (j + 1) 0 places u2 place fits.line fits.number_is small deep layout callee.opened callee.back parts.2.2 nine at in (
        refl,
        record {
          count = j + 1 + left.count;
          later = omega (arith, h.later, some);
          within = omega (arith, h.within, left.few, near);
          at = left.at;
          base = left.base;
          value = left.value;
          agrees = left.agrees;
          kept = h.there.kept;
        },
      )
  returns_so f number fn places u w0 first a b k2 k t time place room fits callee deep small layout own parts some early near (Answer.Goes (Way.Out n) u2) h = absurd (let e = h.0 in omega (arith, e))
  returns_so f number fn places u w0 first a b k2 k t time place room fits callee deep small layout own parts some early near (Answer.Goes (Way.Back word) u2) h =
      let g = running laws s scene f number w0.stack in
      let j = h.come.count in
      let here : s.labels first ≡ parts.2.0 = parts.2.1.0 (scene.once first own) ∙ sym parts.2.1.1 in
      let at = subst (λ p. At s g p None u2 j) here h.come.there in
      let left = leaves_call laws s scene f number fn.line w0.stack w0.depth parts.2.0 b j word places u2 place fits.line fits.number_is small deep layout callee.opened callee.back parts.2.2 h.value at in (
        refl,
        record {
          count = j + left.count;
          later = omega (arith, h.come.later, some);
          within = omega (arith, h.come.within, left.few, near);
          at = left.at;
          base = left.base;
          value = left.value;
          agrees = left.agrees;
          kept = h.come.there.kept;
        },
      )
  returns_so f number fn places u w0 first a b k2 k t time place room fits callee deep small layout own parts some early near (Answer.Ends ending u2) h =
      ends_from s f ending u2 (suc q) q k t k2 time (omega (arith, some)) (omega (arith, some)) (omega (arith, near)) h

  -- ---- From the place behind the entering of a frame

  -- A frame was entered: its control frame is pushed, and the body is done.
  pub entered_runs : (f : Frame) (number : ℕ) (fn : FFunction) (places args : List ℕ) (u : FPoint) (w0 : FWorld) (first a a3 a4 b j k t : ℕ) → FitsFunction params number fn → IsCallee f fn places
      → length args ≡ fn.params → w0.depth ≡ length f.entered → length f.entered < 4096 → w0.stack ≤ HEAP_START → slice_get s.frames number ≡ Some [] → first + (2 + items_labels (items_of 4 fn.body)) ≤ scene.count
      → PartsAt s.text s.all s.labels a (frame_parts (first + 1) fn.params fn.values) a3
      → PartsAt s.text s.all s.labels a3 (items_parts 4 first None [] (first + 2) (items_of 4 fn.body)) a4
      → PartsAt s.text s.all s.labels a4 (Plain (Addi 9 0 0) ∷ Label first ∷ plains (return_code number fn.line fn.values)) b
      → (base : ℕ) → IsAt s.text a (after s j) → register_of (core j) 2 ≡ edge f → register_of (core j) 1 ≡ f.back
      → ((i : ℕ) → i < length args → register_of (core j) (18 + i) ≡ slice_index_or args i 0)
      → (let w1 = record w0 { depth = w0.depth + 1; stack = base } in
      InSteps 4 deeper m fn.frame inside (reached fn.frame) fn.body 0 (point (arguments args) w1)
      → Agrees s (running laws s scene f number w0.stack) w1 (after s j) → IsKept s w1.told → k + 1 ≤ j → j + 32 + 2 * fn.values ≤ w0.time → j + 32 + 2 * fn.values + t ≤ k + w0.time
      → CallComes s f places u.words (suc q) k t (back_of u w0 (act_all 4 deeper m fn.frame fn.body (point (arguments args) w1))))
  entered_runs f number fn places args u w0 first a a3 a4 b j k t fits callee given_all deep few_calls small layout labels pushes body ends base at two one given reach agrees kept some soon near =
      let g = running laws s scene f number w0.stack in
      let w1 = record w0 { depth = w0.depth + 1; stack = base } in
      let values = callee.values in
      let few = callee.few in
      let low = callee.room in
      let high = callee.high in
      let place_f : HasPlace f = record { low = omega (arith, low, few, few_calls, values); high = high; aligned = callee.aligned; few = omega (arith, values, few) } in
      let place_g : HasPlace g = record { low = place_f.low; high = place_f.high; aligned = place_f.aligned; few = place_f.few } in
      let calls_now : length g.entered ≡ length f.entered + 1 = length-append f.entered ((record { frame = number; back = w0.stack }) ∷ []) in
      let room : HasRoom g = record { low = omega (arith, low, few, few_calls, values, calls_now); high = high; aligned = callee.aligned; few = place_f.few } in
      let parts : PartsAt s.text s.all s.labels a (frame_parts (first + 1) fn.params f.values) a3 = subst (λ v. PartsAt s.text s.all s.labels a (frame_parts (first + 1) fn.params v) a3) (sym values) pushes in
      let within = fits.within in
      let pushed = frame_push laws s scene g w1 place_g (λ i. register_of (core j) (18 + i)) (first + 1) fn.params a a3 j (omega (arith, labels)) fits.few (omega (arith, values, within)) parts at two one (λ i lt. refl) agrees in
      let k2 = j + pushed.count in
      let taken = pushed.few in
      let u1 = point (arguments args) w1 in
      let cells : (v : ℕ) → v < f.values → word_at (core k2).memory (f.sp + cell v) ≡ slice_index_or args v 0 =
      λ v lt. ap (λ o. word_at (core k2).memory (f.sp + o)) (cell_is v (omega (arith, lt, values, few))) ∙ word_of f fn args j k2 given_all given pushed.given pushed.blank v lt (cases_lt v fn.params) in
      let here : At s g a3 None u1 k2 = record {
        at = pushed.at;
        frame = record { base = pushed.base; stands = record { cells = cells; five = tt; zero = (scene.form k2).zero }; behind = pushed.behind };
        agrees = pushed.agrees;
        soon = omega (arith, taken, soon, values);
        kept = kept;
      } in
      let follow = calls_follow laws s scene g room functions 4 m fn.frame q deeper inside values_fit runs in
      let fit_items : FitItems f.values params 0 (items_of 4 fn.body) = subst (λ v. FitItems v params 0 (items_of 4 fn.body)) (sym values) fits.items in
      let ran = items_run laws s scene g room 4 m fn.frame q deeper inside params less refl follow (items_of 4 fn.body) (record { exits = []; back = first }) (first + 2) a3 a4 0 None u1 k2 fit_items
      (subst (λ b. InSteps 4 deeper m fn.frame inside (reached fn.frame) b 0 u1) (sym (items_are fn.body)) reach) (omega (arith, labels)) body here in
      let came = subst (λ b. Comes s g (record { exits = []; back = first }) a4 None q k2 w0.time (act_all 4 deeper m fn.frame b u1)) (items_are fn.body) ran in
      returns_so f number fn places u w0 first a4 b k2 k t w0.time place_f room fits callee deep small layout (omega (arith, labels))
      (subst (λ v. PartsAt s.text s.all s.labels a4 (Plain (Addi 9 0 0) ∷ Label first ∷ plains (return_code number fn.line v)) b) (sym values) ends)
      (omega (arith, some)) (omega (arith, taken, soon, values)) (omega (arith, taken, near, values)) (act_all 4 deeper m fn.frame fn.body u1) came
    where
      word_of : (f : Frame) (fn : FFunction) (args : List ℕ) (j k2 : ℕ) → length args ≡ fn.params → ((i : ℕ) → i < length args → register_of (core j) (18 + i) ≡ slice_index_or args i 0)
          → ((v : ℕ) → v < fn.params → word_at (core k2).memory (f.sp + 4 * v) ≡ register_of (core j) (18 + v))
          → ((v : ℕ) → fn.params ≤ v → v < f.values → word_at (core k2).memory (f.sp + 4 * v) ≡ 0)
          → (v : ℕ) → v < f.values → (v < fn.params) ⊎ (fn.params ≤ v) → word_at (core k2).memory (f.sp + 4 * v) ≡ slice_index_or args v 0
      word_of f fn args j k2 same given first blank v lt (inl low) = first v low ∙ given v (omega (arith, low, same))
      word_of f fn args j k2 same given first blank v lt (inr high) = blank v high lt ∙ sym (none_given args v (omega (arith, high, same)))
