-- How a machine follows constructs: the turns of a loop, and a choice.
use Rattle.std.proofs.Common.{◌≡◌, ◌==◌, ℕ, zero, suc, ◌+◌, ◌-◌, ◌<◌, ◌≤◌, min, Bool, true, false, not, List, [], ◌∷◌, ◌++◌, Option, Some, None, refl, sym, ◌∙◌, subst, arith}
use Rattle.std.specs.Prelude.{slice_index, if◌then◌else◌}
use Rattle.bb_words.specs.Answers.{Answer, and_then, either}
use Rattle.flat_code.specs.World.{FPoint, point, spend, choose, Run, Way, again}
use Rattle.flat_code.specs.Run.{turns}
use Rattle.flat_discipline.specs.Comes.{IfOn, InTurns}
use Rattle.rv_asm.specs.declared.parts.BranchOp.TheVariants as branch
use Rattle.rv_asm.specs.declared.parts.Part.{Part}
use Rattle.rv_asm.specs.declared.parts.Part.TheVariants.{Label, Jump}
use Rattle.rv_asm.specs.Runs.{PartAt, PartsAt}
use Rattle.rv_selected.specs.Selection.{choice_parts}
use Rattle.select_scope.specs.Loaded.{Loaded, IsLoaded, after, Frame, HasRoom, At}
use Rattle.select_scope.proofs.Agree.{Laws, spent}
use Rattle.select_scope.proofs.Reach.{Arrives, Around, Comes, control_of, arrives_from, comes_on, comes_from}
use Rattle.select_scope.proofs.Moves.{at_later, Moved, jumps_to, branches_to}
use Rattle.select_scope.proofs.Pieces.{parts_split}

-- the constructs around, within one more
abbrev pub within : ℕ → Around → Around
within l r = record { exits = l ∷ r.exits; back = r.back }

module _ (laws : Laws) (s : Loaded) (scene : IsLoaded s) (f : Frame) (room : HasRoom f) where
  -- the place of a label that stands here
  pub label_here : (l a b : ℕ) → l < scene.count → PartAt s.text s.all s.labels a (Label l) b → (s.labels l ≡ a) × (b ≡ a)
  label_here l a b lt part = (part.0 (scene.once l lt), part.1)

  -- the same place by another name
  pub comes_at : (r : Around) (a b : ℕ) (known : Option ℕ) (q k t : ℕ) (o : Run Way) → a ≡ b → Comes s f r a known q k t o → Comes s f r b known q k t o
  comes_at r a b known q k t o e h = subst (λ p. Comes s f r p known q k t o) e h

  -- steps, with a jump behind them
  pub jump_after : (r : Around) (m m' l b : ℕ) (known : Option ℕ) (q k t k' t' : ℕ) (o : Run Way) → PartAt s.text s.all s.labels m (Jump 0 l) m' → s.labels l ≡ b
      → k ≤ t → k ≤ k' → k' + t + 2 ≤ k + t' → Comes s f r m known q k' t' o → Comes s f r b None q k t o
  jump_after r m m' l b known q k t k' t' (Answer.Goes Way.On u) part e early le near h =
      let go = jumps_to laws s scene f room l m m' known u h.count part (omega (arith, h.within, near, early)) h.there in
      record {
        count = h.count + go.count;
        later = omega (arith, h.later, le);
        within = omega (arith, h.within, go.few, near);
        there = subst (λ p. At s f p None u (h.count + go.count)) e go.there;
      }
  jump_after r m m' l b known q k t k' t' (Answer.Goes (Way.Out n) u) part e early le near h = comes_from s f r b None q k t k' t' (Answer.Goes (Way.Out n) u) le (omega (arith, near)) h
  jump_after r m m' l b known q k t k' t' (Answer.Goes (Way.Back word) u) part e early le near h = comes_from s f r b None q k t k' t' (Answer.Goes (Way.Back word) u) le (omega (arith, near)) h
  jump_after r m m' l b known q k t k' t' (Answer.Ends ending u) part e early le near h = comes_from s f r b None q k t k' t' (Answer.Ends ending u) le (omega (arith, near)) h

  -- At most n turns of a loop whose body stands from a to m, with a jump back there.
  pub turns_come : (r : Around) (first last a m m' b q : ℕ) (known : Option ℕ) (body : FPoint → Run Way) (P : FPoint → Type 0) → s.labels first ≡ a → s.labels last ≡ b
      → PartAt s.text s.all s.labels m (Jump 0 first) m'
      → ((u : FPoint) (k : ℕ) → P u → At s f a None u k → Comes s f (within last r) m known q k u.world.time (body u))
      → (n : ℕ) (u : FPoint) (k : ℕ) → InTurns n body P u → At s f a None u k → Comes s f r b None (min n q) k u.world.time (turns n body u)
  unfolding and_then
  turns_come r first last a m m' b q known body P ef el part runs zero u k holds at =
      record { count = k; later = omega arith; running = at.at.running; said = at.agrees.said; control = control_of s f u.world (after s k) at.agrees; kept = at.kept }
  turns_come r first last a m m' b q known body P ef el part runs (suc n) u k holds at =
      let v = point u.words (spend 2 u.world) in
      turn (λ w j more here. turns_come r first last a m m' b q known body P ef el part runs n w j more here) (body v) holds.1 (runs v k holds.0 (at_later s f a None u v.world k (spent 2 u.world) at))
    where
      t : ℕ
      t = u.world.time

      turn : ((w : FPoint) (j : ℕ) → InTurns n body P w → At s f a None w j → Comes s f r b None (min n q) j w.world.time (turns n body w)) → (o : Run Way) → IfOn o (InTurns n body P)
          → Comes s f (within last r) m known q k (t + 2) o → Comes s f r b None (min (suc n) q) k t (and_then o (λ way w. again way w (turns n body)))
      turn next (Answer.Goes Way.On w) more h =
          let go = jumps_to laws s scene f room first m m' known w h.count part (omega (arith, h.within, at.soon)) h.there in
          comes_on s f r b None (min (suc n) q) (min n q) k t (h.count + go.count) w.world.time (turns n body w) (omega (arith, h.later)) (omega (arith, h.later, go.some))
          (omega (arith, h.within, go.few)) (next w (h.count + go.count) more (subst (λ p. At s f p None w (h.count + go.count)) ef go.there))
      turn next (Answer.Goes (Way.Out zero) w) more h = subst (λ p. Arrives s f p None w k t) el (arrives_from s f (s.labels last) None w k t k (t + 2) (omega arith) (omega arith) h.1)
      turn next (Answer.Goes (Way.Out (suc l)) w) more h = (omega (arith, h.0), arrives_from s f (s.labels (slice_index r.exits l)) None w k t k (t + 2) (omega arith) (omega arith) h.1)
      turn next (Answer.Goes (Way.Back word) w) more h = comes_on s f r b None (min (suc n) q) q k t k (t + 2) (Answer.Goes (Way.Back word) w) (omega arith) (omega arith) (omega arith) h
      turn next (Answer.Ends ending w) more h = comes_on s f r b None (min (suc n) q) q k t k (t + 2) (Answer.Ends ending w) (omega arith) (omega arith) (omega arith) h

  -- ---- Choices

  -- What stands at a place follows a run, from any count at most so much later.
  abbrev pub Follows : (r : Around) (a b : ℕ) (u : FPoint) (q : ℕ) → (FPoint → Run Way) → Type 0
  Follows r a b u q go = (j : ℕ) → At s f a None u j → Comes s f r b None q j u.world.time (go u)

  -- past a branch: what stands there is followed
  follows_on : (r : Around) (place x b : ℕ) (u : FPoint) (q k t : ℕ) (go : FPoint → Run Way) → t + 3 ≤ u.world.time → place ≡ x
      → Follows r x b u q go → Moved laws s scene f room place u k 3 → Comes s f r b None q k t (go u)
  follows_on r place x b u q k t go later e runs moved =
      comes_from s f r b None q k t (k + moved.count) u.world.time (go u) (omega arith) (omega (arith, later, moved.few))
      (runs (k + moved.count) (subst (λ p. At s f p None u (k + moved.count)) e moved.there))

  -- past a branch to the end: no steps are done
  skips : (r : Around) (place b : ℕ) (u : FPoint) (q k t : ℕ) (o : Run Way) → t + 3 ≤ u.world.time → place ≡ b → o ≡ Answer.Goes Way.On u
      → Moved laws s scene f room place u k 3 → Comes s f r b None q k t o
  skips r place b u q k t o later e none moved = subst (Comes s f r b None q k t) (sym none) (record {
    count = k + moved.count;
    later = omega arith;
    within = omega (arith, later, moved.few);
    there = subst (λ p. At s f p None u (k + moved.count)) e moved.there;
  })

  -- The choice by a value that x5 holds. Its charge has room for a branch and a jump.
  pub choice_comes : (r : Around) (no_first no_second : Bool) (n a b cond : ℕ) (p1 p2 : List Part) (u : FPoint) (q k t : ℕ) (first second : FPoint → Run Way) (P1 P2 : FPoint → Type 0)
      → n + 2 ≤ scene.count → PartsAt s.text s.all s.labels a (choice_parts no_first no_second n p1 p2) b
      → (no_first ≡ true → first u ≡ Answer.Goes Way.On u) → (no_second ≡ true → second u ≡ Answer.Goes Way.On u)
      → either (u.words cond == 0) P2 P1 u
      → (P1 u → (x y : ℕ) → PartsAt s.text s.all s.labels x p1 y → Follows r x y u q first) → (P2 u → (x y : ℕ) → PartsAt s.text s.all s.labels x p2 y → Follows r x y u q second)
      → k + 5 ≤ u.world.time → t + 5 ≤ u.world.time → At s f a (Some cond) u k → Comes s f r b None q k t (choose (u.words cond == 0) second first u)
  choice_comes r true no_second n a b cond p1 p2 u q k t first second P1 P2 labels parts none_1 none_2 holds run_1 run_2 soon later at =
      let m2 = parts.0 in
      let one = parts_split s p2 (Label n ∷ Label (n + 1) ∷ []) m2 b parts.2 in
      let l1 = label_here n one.0 one.2.0 (omega (arith, labels)) one.2.1 in
      let l2 = label_here (n + 1) one.2.0 one.2.2.0 (omega (arith, labels)) one.2.2.1 in
      let end : one.0 ≡ b = sym (one.2.2.2 ∙ l2.1 ∙ l1.1) in
      by_test end l1.0 (u.words cond == 0) holds (λ p. run_2 p m2 one.0 one.1) (branches_to laws s scene f room branch.Bne n a m2 cond u k parts.1 (omega (arith, soon)) at)
    where
      by_test : {m2 m3 : ℕ} → m3 ≡ b → s.labels n ≡ m3 → (test : Bool) → either test P2 P1 u → (P2 u → Follows r m2 m3 u q second) → Moved laws s scene f room (if not test then s.labels n else m2) u k 3
          → Comes s f r b None q k t (choose test second first u)
      by_test {m2} {m3} end label true p run moved = comes_at r m3 b None q k t (second u) end (follows_on r m2 m2 m3 u q k t second (omega (arith, later)) refl (run p) moved)
      by_test {m2} {m3} end label false p run moved = skips r (s.labels n) b u q k t (first u) (omega (arith, later)) (label ∙ end) (none_1 refl) moved
  choice_comes r false true n a b cond p1 p2 u q k t first second P1 P2 labels parts none_1 none_2 holds run_1 run_2 soon later at =
      let m2 = parts.0 in
      let one = parts_split s p1 (Label n ∷ Label (n + 1) ∷ []) m2 b parts.2 in
      let l1 = label_here n one.0 one.2.0 (omega (arith, labels)) one.2.1 in
      let l2 = label_here (n + 1) one.2.0 one.2.2.0 (omega (arith, labels)) one.2.2.1 in
      let end : one.0 ≡ b = sym (one.2.2.2 ∙ l2.1 ∙ l1.1) in
      by_test end l1.0 (u.words cond == 0) holds (λ p. run_1 p m2 one.0 one.1) (branches_to laws s scene f room branch.Beq n a m2 cond u k parts.1 (omega (arith, soon)) at)
    where
      by_test : {m2 m3 : ℕ} → m3 ≡ b → s.labels n ≡ m3 → (test : Bool) → either test P2 P1 u → (P1 u → Follows r m2 m3 u q first) → Moved laws s scene f room (if test then s.labels n else m2) u k 3
          → Comes s f r b None q k t (choose test second first u)
      by_test {m2} {m3} end label true p run moved = skips r (s.labels n) b u q k t (second u) (omega (arith, later)) (label ∙ end) (none_2 refl) moved
      by_test {m2} {m3} end label false p run moved = comes_at r m3 b None q k t (first u) end (follows_on r m2 m2 m3 u q k t first (omega (arith, later)) refl (run p) moved)
  choice_comes r false false n a b cond p1 p2 u q k t first second P1 P2 labels parts none_1 none_2 holds run_1 run_2 soon later at =
      let m2 = parts.0 in
      let all = parts_split s (p1 ++ (Jump 0 (n + 1) ∷ Label n ∷ p2)) (Label (n + 1) ∷ []) m2 b parts.2 in
      let one = parts_split s p1 (Jump 0 (n + 1) ∷ Label n ∷ p2) m2 all.0 all.1 in
      let m3 = one.0 in
      let rest = one.2 in
      let m4 = rest.0 in
      let m5 = rest.2.0 in
      let l1 = label_here n m4 m5 (omega (arith, labels)) rest.2.1 in
      let l2 = label_here (n + 1) all.0 all.2.0 (omega (arith, labels)) all.2.1 in
      let end : all.0 ≡ b = sym (all.2.2 ∙ l2.1) in
      by_test m2 m3 m4 m5 all.0 end (l1.0 ∙ sym l1.1) (l2.0 ∙ end) rest.1 (u.words cond == 0) holds (λ p. run_1 p m2 m3 one.1) (λ p. run_2 p m5 all.0 rest.2.2)
      (branches_to laws s scene f room branch.Beq n a m2 cond u k parts.1 (omega (arith, soon)) at)
    where
      by_test : (m2 m3 m4 m5 m6 : ℕ) → m6 ≡ b → s.labels n ≡ m5 → s.labels (n + 1) ≡ b → PartAt s.text s.all s.labels m3 (Jump 0 (n + 1)) m4 → (test : Bool) → either test P2 P1 u
          → (P1 u → Follows r m2 m3 u q first) → (P2 u → Follows r m5 m6 u q second) → Moved laws s scene f room (if test then s.labels n else m2) u k 3
          → Comes s f r b None q k t (choose test second first u)
      by_test m2 m3 m4 m5 m6 end label last jump true p run_1 run_2 moved =
          comes_at r m6 b None q k t (second u) end (follows_on r (s.labels n) m5 m6 u q k t second (omega (arith, later)) label (run_2 p) moved)
      by_test m2 m3 m4 m5 m6 end label last jump false p run_1 run_2 moved =
          let j = k + moved.count in
          let time = u.world.time in
          comes_from s f r b None q k t j (time - 2) (first u) (omega arith) (omega (arith, later, moved.few))
          (jump_after r m3 m4 (n + 1) b None q j (time - 2) j time (first u) jump last (omega (arith, soon, moved.few)) (omega arith) (omega (arith, soon)) (run_1 p j moved.there))
