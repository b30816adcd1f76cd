-- How a machine follows steps that compute, leave a construct, or return.
use Rattle.std.proofs.Common.{ℕ, ◌+◌, ◌^◌, ◌<◌, ◌≤◌, List, [], ◌∷◌, length, Option, Some, None, refl, ◌∙◌, subst, arith}
use Rattle.bb_words.specs.Steps.{arith as operated}
use Rattle.bb_words.specs.declared.steps.ArithOp.{ArithOp}
use Rattle.flat_code.specs.Code.{FStep}
use Rattle.flat_code.specs.World.{Words, with_word, FPoint, point, spend}
use Rattle.rv_asm.specs.declared.parts.Part.TheVariants.{Plain, Jump}
use Rattle.rv_asm.specs.Runs.{PartsAt}
use Rattle.rv_code.specs.declared.instr.Instr.{Instr}
use Rattle.rv_selected.specs.Registers.{cell, load}
use Rattle.rv_selected.specs.Steps.{plains, held_after, number_code, same_code, arith_code, fetch}
use Rattle.rv_selected.specs.Straight.{does_all, AreStraight}
use Rattle.rv_selected.specs.Follows.{Leads}
use Rattle.select_scope.specs.Loaded.{Loaded, IsLoaded, after, Frame, HasRoom, At}
use Rattle.select_scope.proofs.Agree.{Laws, spent}
use Rattle.select_scope.proofs.Reach.{Arrives, Returns}
use Rattle.select_scope.proofs.Moves.{apart, word_is_small, at_later, jumps_to, leaves, held, row}
use Rattle.select_scope.proofs.Pieces.{load_straight, number_straight, same_straight, arith_straight, fetch_straight, number_length, same_length, arith_length, fetch_length, fetched}

module _ (laws : Laws) (s : Loaded) (scene : IsLoaded s) (f : Frame) (room : HasRoom f) where
  -- the values of the call are words
  pub values_small : (a : ℕ) (known : Option ℕ) (u : FPoint) (k : ℕ) → At s f a known u k → (v : ℕ) → v < f.values → u.words v < 2 ^ 32
  values_small a known u k at v lt = subst (λ (n : ℕ). n < 2 ^ 32) (at.frame.stands.cells v lt) (word_is_small (after s k).machine.core (f.sp + cell v) (scene.form k))

  -- Straight code that leads to other values arrives behind itself.
  pub leads_on : (code : List Instr) (a b charge : ℕ) (known next : Option ℕ) (u : FPoint) (words : Words) (k : ℕ)
      → AreStraight (f.values + 1) code → length code ≤ charge → Leads f.values known next u.words words code
      → PartsAt s.text s.all s.labels a (plains code) b → At s f a known u k → Arrives s f b next (point words (spend charge u.world)) k u.world.time
  leads_on code a b charge known next u words k straight short leads parts at =
      let led = leads (held laws s scene f room k) (values_small a known u k at) at.frame.stands in
      let done = row laws s scene f room code a b known next u words (spend charge u.world) k straight parts (spent charge u.world) (omega (arith, short, at.soon)) led.0
      (leaves laws s scene f room (held laws s scene f room k) (does_all code (held laws s scene f room k)) led.1) at in
      record { count = k + length code; later = omega arith; within = omega (arith, short); there = done.there }

  pub number_runs : (g a b : ℕ) (known : Option ℕ) (to value : ℕ) (u : FPoint) (k : ℕ) → to < f.values → value < 2 ^ 32
      → PartsAt s.text s.all s.labels a (plains (number_code to value)) b → At s f a known u k
      → Arrives s f b (held_after known (FStep.Number to value)) (point (with_word u.words to value) (spend 3 u.world)) k u.world.time
  number_runs g a b known to value u k lt small parts at =
      leads_on (number_code to value) a b 3 known (held_after known (FStep.Number to value)) u (with_word u.words to value) k
      (number_straight f.values room.few to value lt small) (number_length to value) (laws.leads.number g f.values known u.words to value room.few lt small) parts at

  pub same_runs : (g a b : ℕ) (known : Option ℕ) (to from : ℕ) (u : FPoint) (k : ℕ) → to < f.values → from < f.values
      → PartsAt s.text s.all s.labels a (plains (same_code known to from)) b → At s f a known u k
      → Arrives s f b (Some to) (point (with_word u.words to (u.words from)) (spend 2 u.world)) k u.world.time
  same_runs g a b known to from u k lt lf parts at =
      leads_on (same_code known to from) a b 2 known (Some to) u (with_word u.words to (u.words from)) k
      (same_straight f.values room.few known to from lt lf) (same_length known to from) (laws.leads.same g f.values known u.words to from room.few lt lf) parts at

  pub arith_runs : (g a b : ℕ) (known : Option ℕ) (to : ℕ) (op : ArithOp) (left right : ℕ) (u : FPoint) (k : ℕ) → to < f.values → left < f.values → right < f.values
      → PartsAt s.text s.all s.labels a (plains (arith_code known to op left right)) b → At s f a known u k
      → Arrives s f b (Some to) (point (with_word u.words to (operated op (u.words left) (u.words right))) (spend 5 u.world)) k u.world.time
  arith_runs g a b known to op left right u k lt ll lr parts at =
      leads_on (arith_code known to op left right) a b 5 known (Some to) u (with_word u.words to (operated op (u.words left) (u.words right))) k
      (arith_straight f.values room.few known to op left right lt ll lr) (arith_length known to op left right)
      (laws.leads.arith g f.values known u.words to op left right room.few lt ll lr) parts at

  -- ---- A value in x5

  pub record Fetches (b v charge : ℕ) (u : FPoint) (k : ℕ) : Type 0 where
    pub count : ℕ
    pub few : count ≤ 1
    pub there : At s f b (Some v) (point u.words (spend charge u.world)) (k + count)

  pub fetches : (a b : ℕ) (known : Option ℕ) (v charge : ℕ) (u : FPoint) (k : ℕ) → v < f.values → 1 ≤ charge
      → PartsAt s.text s.all s.labels a (plains (fetch known v)) b → At s f a known u k → Fetches b v charge u k
  fetches a b known v charge u k lt some parts at =
      let h = held laws s scene f room k in
      let got = fetched f.values known u.words v h lt at.frame.stands in
      let done = row laws s scene f room (fetch known v) a b known (Some v) u u.words (spend charge u.world) k (fetch_straight f.values room.few known v (omega (arith, lt))) parts
      (spent charge u.world) (omega (arith, fetch_length known v, some, at.soon)) got.stands (leaves laws s scene f room h (does_all (fetch known v) h) got.keeps) at in
      record { count = length (fetch known v); few = fetch_length known v; there = done.there }

  -- ---- Leaving a construct, and returning

  pub exit_runs : (a b l : ℕ) (known : Option ℕ) (u : FPoint) (k : ℕ) → PartsAt s.text s.all s.labels a (Jump 0 l ∷ []) b → At s f a known u k
      → Arrives s f (s.labels l) None (point u.words (spend 2 u.world)) k u.world.time
  exit_runs a b l known u k parts at =
      let v = point u.words (spend 2 u.world) in
      let go = jumps_to laws s scene f room l a parts.0 known v k parts.1 (omega (arith, at.soon)) (at_later s f a known u v.world k (spent 2 u.world) at) in
      record { count = k + go.count; later = omega arith; within = omega (arith, go.few); there = go.there }

  pub return_runs : (a b back from : ℕ) (known : Option ℕ) (u : FPoint) (k : ℕ) → from < f.values
      → PartsAt s.text s.all s.labels a (Plain (load 9 from) ∷ Jump 0 back ∷ []) b → At s f a known u k
      → Returns s f (s.labels back) (u.words from) (point u.words (spend 3 u.world)) k u.world.time
  return_runs a b back from known u k lt parts at =
      let h = held laws s scene f room k in
      let code = load 9 from ∷ [] in
      let v = point u.words (spend 3 u.world) in
      let done = row laws s scene f room code a parts.0 known None u u.words (spend 3 u.world) k (load_straight f.values room.few 9 from (omega arith) (omega arith) (omega (arith, lt)))
      (parts.0, parts.1, refl) (spent 3 u.world) (omega (arith, at.soon)) (record { cells = at.frame.stands.cells; five = tt; zero = at.frame.stands.zero })
      (record { eight = refl; table = refl; behind = refl }) at in
      let go = jumps_to laws s scene f room back parts.0 parts.2.0 None v (k + 1) parts.2.1 (omega (arith, at.soon)) done.there in
      record {
        come = record { count = k + 1 + go.count; later = omega arith; within = omega (arith, go.few); there = go.there };
        value = go.registers 9 (apart 9 5 refl) ∙ done.registers 9 (omega arith) ∙ at.frame.stands.cells from lt;
      }
