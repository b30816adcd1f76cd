-- The flat lists have the edges of a function, and what breaks the discipline in it.
use Rattle.std.proofs.Common.{◌≡◌, ◌⊎◌, ℕ, suc, ◌+◌, List, [], ◌∷◌, ◌++◌, inl, inr, Option, Some, None, true≢false}
use Rattle.flat_code.specs.Code.{FStep, FSteps}
use Rattle.flat_code.specs.Recognized.{Sequence, sequence_steps}
use Rattle.flat_discipline.specs.Items.{Item, Items, step_places, steps_places, places, all_places, first_place}
use Rattle.flat_discipline.specs.Facts.{Fact, Setting, Here, untold, branch, here_after}
use Rattle.flat_verify.specs.Effects.{effect}
use Rattle.flat_discipline.specs.Chains.{leading, leads, Edges}
use Rattle.flat_discipline.specs.Closed.{Each, EachAll}
use Rattle.flat_discipline.specs.Breaks.{address, reads, operands, shared, AddressLost, ReadLost, BreaksInside, InsideStep, Inside, Breaks, BreaksAll}
use Rattle.flat_verify.specs.Links.{OfEach, Link, goes, hands_out, links, links_all, Demand, own_all, read_facts, inside, inside_demands, all_inside, demands, demands_all, AnyLost, UnmetAt}

-- ---- What holds of each link

pub each_append : {A : Type 0} (P : A → Type 0) (xs ys : List A) → OfEach P xs → OfEach P ys → OfEach P (xs ++ ys)
each_append P [] ys a b = b
each_append P (x ∷ xs) ys a b = (a.0, each_append P xs ys a.1 b)

pub each_first : {A : Type 0} (P : A → Type 0) (xs ys : List A) → OfEach P (xs ++ ys) → OfEach P xs
each_first P [] ys a = tt
each_first P (x ∷ xs) ys a = (a.0, each_first P xs ys a.1)

pub each_second : {A : Type 0} (P : A → Type 0) (xs ys : List A) → OfEach P (xs ++ ys) → OfEach P ys
each_second P [] ys a = a
each_second P (x ∷ xs) ys a = each_second P xs ys a.1

-- what an edge has to meet so that its links do, and the other way round
abbrev pub OfHands : (P : Link → Type 0) → Item → (a : ℕ) → Type 0
OfHands P (Item.Plain x) a = OfEach P (hands_out x a)
OfHands P i a = Unit {0}

module _ (g : ℕ) (s : Setting) (P : Link → Type 0) where
  -- the links of an edge
  abbrev pub OfEdge : Edges
  OfEdge h i a b = OfEach P (goes (effect s h i) a b) × OfHands P i a

  mutual
    pub edge_links : (i : Item) (h : Here) (p after : ℕ) (exits : List ℕ) → OfEach P (links g s h i p after exits) → Each g OfEdge h i p after exits
    edge_links (Item.Plain x) h p after exits d =
        let front = goes (effect s h (Item.Plain x)) p (leads (leading x) after exits) in
        (each_first P front (hands_out x p) d, each_second P front (hands_out x p) d)
    edge_links (Item.Checks q) h p after exits d = (d, tt)
    edge_links (Item.If c x y) h p after exits d =
        let first = links_all g s (branch h c) x (p + 1) after exits in
        let second = links_all g s untold y (p + 1 + all_places g x) after exits in
        (((d.0, tt), tt), ((d.1.0, tt), tt), edges_links x (branch h c) (p + 1) after exits (each_first P first second d.1.1), edges_links y untold (p + 1 + all_places g x) after exits (each_second P first second d.1.1))
    edge_links (Item.Block x) h p after exits d = (((d.0, tt), tt), edges_links x untold (p + 1) after (after ∷ exits) d.1)
    edge_links (Item.Loop x) h p after exits d = (((d.0, tt), tt), edges_links x untold (p + 1) p (after ∷ exits) d.1)
    edge_links (Item.Inner x) h p after exits d = (((d.0, tt), tt), edges_links x untold (p + 1) p (after ∷ exits) d.1)

    pub edges_links : (is : Items) (h : Here) (p after : ℕ) (exits : List ℕ) → OfEach P (links_all g s h is p after exits) → EachAll g OfEdge h is p after exits
    edges_links Items.end h p after exits d = tt
    edges_links (Items.next i rest) h p after exits d =
        let first = links g s h i p (first_place rest (p + places g i) after) exits in
        let second = links_all g s (here_after i h) rest (p + places g i) after exits in
        (edge_links i h p (first_place rest (p + places g i) after) exits (each_first P first second d), edges_links rest (here_after i h) (p + places g i) after exits (each_second P first second d))

  mutual
    pub links_edge : (i : Item) (h : Here) (p after : ℕ) (exits : List ℕ) → Each g OfEdge h i p after exits → OfEach P (links g s h i p after exits)
    links_edge (Item.Plain x) h p after exits d = each_append P (goes (effect s h (Item.Plain x)) p (leads (leading x) after exits)) (hands_out x p) d.0 d.1
    links_edge (Item.Checks q) h p after exits d = d.0
    links_edge (Item.If c x y) h p after exits d =
        (d.0.0.0, (d.1.0.0, each_append P (links_all g s (branch h c) x (p + 1) after exits) (links_all g s untold y (p + 1 + all_places g x) after exits) (links_edges x (branch h c) (p + 1) after exits d.2) (links_edges y untold (p + 1 + all_places g x) after exits d.3)))
    links_edge (Item.Block x) h p after exits d = (d.0.0.0, links_edges x untold (p + 1) after (after ∷ exits) d.1)
    links_edge (Item.Loop x) h p after exits d = (d.0.0.0, links_edges x untold (p + 1) p (after ∷ exits) d.1)
    links_edge (Item.Inner x) h p after exits d = (d.0.0.0, links_edges x untold (p + 1) p (after ∷ exits) d.1)

    pub links_edges : (is : Items) (h : Here) (p after : ℕ) (exits : List ℕ) → EachAll g OfEdge h is p after exits → OfEach P (links_all g s h is p after exits)
    links_edges Items.end h p after exits d = tt
    links_edges (Items.next i rest) h p after exits d =
        each_append P (links g s h i p (first_place rest (p + places g i) after) exits) (links_all g s (here_after i h) rest (p + places g i) after exits)
        (links_edge i h p (first_place rest (p + places g i) after) exits d.0) (links_edges rest (here_after i h) (p + places g i) after exits d.1)

-- ---- What is not met, and what breaks the discipline

module _ (L : (place : ℕ) → Fact → Type 0) where
  unmet_append : (xs ys : List Demand) (q : ℕ) → UnmetAt L xs q ⊎ UnmetAt L ys q → UnmetAt L (xs ++ ys) q
  unmet_append [] ys q (inl u) = absurd u
  unmet_append [] ys q (inr u) = u
  unmet_append (x ∷ xs) ys q (inl (inl u)) = inl u
  unmet_append (x ∷ xs) ys q (inl (inr u)) = inr (unmet_append xs ys q (inl u))
  unmet_append (x ∷ xs) ys q (inr u) = inr (unmet_append xs ys q (inr u))

  unmet_apart : (xs ys : List Demand) (q : ℕ) → UnmetAt L (xs ++ ys) q → UnmetAt L xs q ⊎ UnmetAt L ys q
  unmet_apart [] ys q u = inr u
  unmet_apart (x ∷ xs) ys q (inl u) = inl (inl u)
  unmet_apart (x ∷ xs) ys q (inr u) = on (unmet_apart xs ys q u)
    where
      on : (UnmetAt L xs q ⊎ UnmetAt L ys q) → UnmetAt L (x ∷ xs) q ⊎ UnmetAt L ys q
      on (inl v) = inl (inr v)
      on (inr v) = inr v

  lost_read : (at : ℕ) (vs : List ℕ) → AnyLost L at (own_all vs) → ReadLost (L at) vs
  lost_read at [] u = u
  lost_read at (v ∷ vs) (inl u) = inl u
  lost_read at (v ∷ vs) (inr u) = inr (lost_read at vs u)

  read_lost : (at : ℕ) (vs : List ℕ) → ReadLost (L at) vs → AnyLost L at (own_all vs)
  read_lost at [] u = u
  read_lost at (v ∷ vs) (inl u) = inl u
  read_lost at (v ∷ vs) (inr u) = inr (read_lost at vs u)

  lost_facts : (at : ℕ) (o : Option ℕ) (vs : List ℕ) → AnyLost L at (read_facts o vs) → AddressLost (L at) o ⊎ ReadLost (L at) vs
  lost_facts at None vs u = inr (lost_read at vs u)
  lost_facts at (Some v) vs (inl u) = inl u
  lost_facts at (Some v) vs (inr u) = inr (lost_read at vs u)

  facts_lost : (at : ℕ) (o : Option ℕ) (vs : List ℕ) → AddressLost (L at) o ⊎ ReadLost (L at) vs → AnyLost L at (read_facts o vs)
  facts_lost at None vs (inl u) = absurd u
  facts_lost at None vs (inr u) = read_lost at vs u
  facts_lost at (Some v) vs (inl u) = inl u
  facts_lost at (Some v) vs (inr u) = inr (read_lost at vs u)

  module _ (s : Setting) where
    module _ (ops : List ℕ) (at : ℕ) where
      one_inside : (l : ℕ) (x : FStep) (p q : ℕ) → (q ≡ p) × BreaksInside s (L at) ops l x → UnmetAt L (inside s ops at l x p ∷ []) q
      one_inside l x p q (e, inl b) = inl (e, inl b)
      one_inside l x p q (e, inr b) = inl (e, inr (read_lost at (shared ops (reads x)) b))

      inside_one : (l : ℕ) (x : FStep) (p q : ℕ) → UnmetAt L (inside s ops at l x p ∷ []) q → (q ≡ p) × BreaksInside s (L at) ops l x
      inside_one l x p q (inl (e, inl b)) = (e, inl b)
      inside_one l x p q (inl (e, inr b)) = (e, inr (lost_read at (shared ops (reads x)) b))
      inside_one l x p q (inr b) = absurd b

      front : (d : Demand) (ds : List Demand) (q : ℕ) → UnmetAt L (d ∷ []) q → UnmetAt L (d ∷ ds) q
      front d ds q (inl u) = inl u
      front d ds q (inr u) = absurd u

      mutual
        pub inside_unmet : (l : ℕ) (x : FStep) (p q : ℕ) → InsideStep s (L at) ops l x p q → UnmetAt L (inside_demands s ops at l x p) q
        inside_unmet l (FStep.If c x y) p q (inl b) = front (inside s ops at l (FStep.If c x y) p) (all_inside s ops at l x (p + 1) ++ all_inside s ops at l y (p + 1 + steps_places x)) q (one_inside l (FStep.If c x y) p q b)
        inside_unmet l (FStep.If c x y) p q (inr (inl b)) = inr (unmet_append (all_inside s ops at l x (p + 1)) (all_inside s ops at l y (p + 1 + steps_places x)) q (inl (insides_unmet l x (p + 1) q b)))
        inside_unmet l (FStep.If c x y) p q (inr (inr b)) = inr (unmet_append (all_inside s ops at l x (p + 1)) (all_inside s ops at l y (p + 1 + steps_places x)) q (inr (insides_unmet l y (p + 1 + steps_places x) q b)))
        inside_unmet l (FStep.Block x) p q b = insides_unmet (suc l) x (p + 1) q b
        inside_unmet l (FStep.Loop x) p q b = insides_unmet (suc l) x (p + 1) q b
        inside_unmet l (FStep.Inner x) p q b = insides_unmet (suc l) x (p + 1) q b
        inside_unmet l (FStep.Number v1 v2) p q b = one_inside l (FStep.Number v1 v2) p q b
        inside_unmet l (FStep.Same v1 v2) p q b = one_inside l (FStep.Same v1 v2) p q b
        inside_unmet l (FStep.Arith v1 v2 v3 v4) p q b = one_inside l (FStep.Arith v1 v2 v3 v4) p q b
        inside_unmet l (FStep.Exit v1) p q b = one_inside l (FStep.Exit v1) p q b
        inside_unmet l (FStep.Call v1 v2 v3) p q b = one_inside l (FStep.Call v1 v2 v3) p q b
        inside_unmet l (FStep.Return v1) p q b = one_inside l (FStep.Return v1) p q b
        inside_unmet l (FStep.Slot v1 v2) p q b = one_inside l (FStep.Slot v1 v2) p q b
        inside_unmet l (FStep.Look v1 v2) p q b = one_inside l (FStep.Look v1 v2) p q b
        inside_unmet l (FStep.FrameAt v1 v2) p q b = one_inside l (FStep.FrameAt v1 v2) p q b
        inside_unmet l (FStep.Load v1 v2 v3) p q b = one_inside l (FStep.Load v1 v2 v3) p q b
        inside_unmet l (FStep.Store v1 v2 v3) p q b = one_inside l (FStep.Store v1 v2 v3) p q b
        inside_unmet l (FStep.Checked v1 v2) p q b = one_inside l (FStep.Checked v1 v2) p q b
        inside_unmet l (FStep.LineMark v1) p q b = one_inside l (FStep.LineMark v1) p q b
        inside_unmet l (FStep.Report v1 v2) p q b = one_inside l (FStep.Report v1 v2) p q b
        inside_unmet l (FStep.Env v1 v2 v3 v4) p q b = one_inside l (FStep.Env v1 v2 v3 v4) p q b

        pub insides_unmet : (l : ℕ) (xs : FSteps) (p q : ℕ) → Inside s (L at) ops l xs p q → UnmetAt L (all_inside s ops at l xs p) q
        insides_unmet l FSteps.none p q b = b
        insides_unmet l (FSteps.more x rest) p q (inl b) = unmet_append (inside_demands s ops at l x p) (all_inside s ops at l rest (p + step_places x)) q (inl (inside_unmet l x p q b))
        insides_unmet l (FSteps.more x rest) p q (inr b) = unmet_append (inside_demands s ops at l x p) (all_inside s ops at l rest (p + step_places x)) q (inr (insides_unmet l rest (p + step_places x) q b))

      if_case : (l c : ℕ) (x y : FSteps) (p q : ℕ) → (UnmetAt L (all_inside s ops at l x (p + 1)) q → Inside s (L at) ops l x (p + 1) q) → (UnmetAt L (all_inside s ops at l y (p + 1 + steps_places x)) q → Inside s (L at) ops l y (p + 1 + steps_places x) q) → UnmetAt L (inside_demands s ops at l (FStep.If c x y) p) q → InsideStep s (L at) ops l (FStep.If c x y) p q
      if_case l c x y p q f k (inl u) = inl (inside_one l (FStep.If c x y) p q (inl u))
      if_case l c x y p q f k (inr u) = on (unmet_apart (all_inside s ops at l x (p + 1)) (all_inside s ops at l y (p + 1 + steps_places x)) q u)
        where
          on : (UnmetAt L (all_inside s ops at l x (p + 1)) q ⊎ UnmetAt L (all_inside s ops at l y (p + 1 + steps_places x)) q) → InsideStep s (L at) ops l (FStep.If c x y) p q
          on (inl v) = inr (inl (f v))
          on (inr v) = inr (inr (k v))

      rest_case : (l : ℕ) (x : FStep) (rest : FSteps) (p q : ℕ) → (UnmetAt L (inside_demands s ops at l x p) q → InsideStep s (L at) ops l x p q) → (UnmetAt L (all_inside s ops at l rest (p + step_places x)) q → Inside s (L at) ops l rest (p + step_places x) q) → UnmetAt L (all_inside s ops at l (FSteps.more x rest) p) q → Inside s (L at) ops l (FSteps.more x rest) p q
      rest_case l x rest p q f k u = on (unmet_apart (inside_demands s ops at l x p) (all_inside s ops at l rest (p + step_places x)) q u)
        where
          on : (UnmetAt L (inside_demands s ops at l x p) q ⊎ UnmetAt L (all_inside s ops at l rest (p + step_places x)) q) → Inside s (L at) ops l (FSteps.more x rest) p q
          on (inl v) = inl (f v)
          on (inr v) = inr (k v)

      mutual
        pub unmet_inside : (l : ℕ) (x : FStep) (p q : ℕ) → UnmetAt L (inside_demands s ops at l x p) q → InsideStep s (L at) ops l x p q
        unmet_inside l (FStep.If c x y) p q u = if_case l c x y p q (unmet_insides l x (p + 1) q) (unmet_insides l y (p + 1 + steps_places x) q) u
        unmet_inside l (FStep.Block x) p q b = unmet_insides (suc l) x (p + 1) q b
        unmet_inside l (FStep.Loop x) p q b = unmet_insides (suc l) x (p + 1) q b
        unmet_inside l (FStep.Inner x) p q b = unmet_insides (suc l) x (p + 1) q b
        unmet_inside l (FStep.Number v1 v2) p q b = inside_one l (FStep.Number v1 v2) p q b
        unmet_inside l (FStep.Same v1 v2) p q b = inside_one l (FStep.Same v1 v2) p q b
        unmet_inside l (FStep.Arith v1 v2 v3 v4) p q b = inside_one l (FStep.Arith v1 v2 v3 v4) p q b
        unmet_inside l (FStep.Exit v1) p q b = inside_one l (FStep.Exit v1) p q b
        unmet_inside l (FStep.Call v1 v2 v3) p q b = inside_one l (FStep.Call v1 v2 v3) p q b
        unmet_inside l (FStep.Return v1) p q b = inside_one l (FStep.Return v1) p q b
        unmet_inside l (FStep.Slot v1 v2) p q b = inside_one l (FStep.Slot v1 v2) p q b
        unmet_inside l (FStep.Look v1 v2) p q b = inside_one l (FStep.Look v1 v2) p q b
        unmet_inside l (FStep.FrameAt v1 v2) p q b = inside_one l (FStep.FrameAt v1 v2) p q b
        unmet_inside l (FStep.Load v1 v2 v3) p q b = inside_one l (FStep.Load v1 v2 v3) p q b
        unmet_inside l (FStep.Store v1 v2 v3) p q b = inside_one l (FStep.Store v1 v2 v3) p q b
        unmet_inside l (FStep.Checked v1 v2) p q b = inside_one l (FStep.Checked v1 v2) p q b
        unmet_inside l (FStep.LineMark v1) p q b = inside_one l (FStep.LineMark v1) p q b
        unmet_inside l (FStep.Report v1 v2) p q b = inside_one l (FStep.Report v1 v2) p q b
        unmet_inside l (FStep.Env v1 v2 v3 v4) p q b = inside_one l (FStep.Env v1 v2 v3 v4) p q b

        pub unmet_insides : (l : ℕ) (xs : FSteps) (p q : ℕ) → UnmetAt L (all_inside s ops at l xs p) q → Inside s (L at) ops l xs p q
        unmet_insides l FSteps.none p q b = b
        unmet_insides l (FSteps.more x rest) p q u = rest_case l x rest p q (unmet_inside l x p q) (unmet_insides l rest (p + step_places x) q) u

    module _ (g : ℕ) where
      mutual
        pub break_unmet : (l : ℕ) (i : Item) (p q : ℕ) → Breaks g s L l i p q → UnmetAt L (demands g s l i p) q
        break_unmet l (Item.Plain x) p q (e, inl b) = inl (e, inl b)
        break_unmet l (Item.Plain x) p q (e, inr b) = inl (e, inr (facts_lost p (address x) (reads x) b))
        break_unmet l (Item.Checks x) p q (inl b) = inl (b.0, inr (inl b.1))
        break_unmet l (Item.Checks x) p q (inr b) = inr (insides_unmet (operands x) p l (sequence_steps g x) p q b)
        break_unmet l (Item.If c a b) p q (inl (e, inl x)) = inl (e, inl x)
        break_unmet l (Item.If c a b) p q (inl (e, inr x)) = inl (e, inr (inl x))
        break_unmet l (Item.If c a b) p q (inr (inl x)) = inr (unmet_append (demands_all g s l a (p + 1)) (demands_all g s l b (p + 1 + all_places g a)) q (inl (breaks_unmet l a (p + 1) q x)))
        break_unmet l (Item.If c a b) p q (inr (inr x)) = inr (unmet_append (demands_all g s l a (p + 1)) (demands_all g s l b (p + 1 + all_places g a)) q (inr (breaks_unmet l b (p + 1 + all_places g a) q x)))
        break_unmet l (Item.Block a) p q x = breaks_unmet (suc l) a (p + 1) q x
        break_unmet l (Item.Loop a) p q x = breaks_unmet (suc l) a (p + 1) q x
        break_unmet l (Item.Inner a) p q x = breaks_unmet (suc l) a (p + 1) q x

        pub breaks_unmet : (l : ℕ) (is : Items) (p q : ℕ) → BreaksAll g s L l is p q → UnmetAt L (demands_all g s l is p) q
        breaks_unmet l Items.end p q x = x
        breaks_unmet l (Items.next i rest) p q (inl x) = unmet_append (demands g s l i p) (demands_all g s l rest (p + places g i)) q (inl (break_unmet l i p q x))
        breaks_unmet l (Items.next i rest) p q (inr x) = unmet_append (demands g s l i p) (demands_all g s l rest (p + places g i)) q (inr (breaks_unmet l rest (p + places g i) q x))

      plain_case : (l : ℕ) (x : FStep) (p q : ℕ) → UnmetAt L (demands g s l (Item.Plain x) p) q → Breaks g s L l (Item.Plain x) p q
      plain_case l x p q (inl (e, inl b)) = (e, inl b)
      plain_case l x p q (inl (e, inr b)) = (e, inr (lost_facts p (address x) (reads x) b))
      plain_case l x p q (inr b) = absurd b

      checks_case : (l : ℕ) (x : Sequence) (p q : ℕ) → UnmetAt L (demands g s l (Item.Checks x) p) q → Breaks g s L l (Item.Checks x) p q
      checks_case l x p q (inl (e, inl b)) = absurd (true≢false b)
      checks_case l x p q (inl (e, inr (inl b))) = inl (e, b)
      checks_case l x p q (inl (e, inr (inr b))) = absurd b
      checks_case l x p q (inr b) = inr (unmet_insides (operands x) p l (sequence_steps g x) p q b)

      choice_case : (l c : ℕ) (a b : Items) (p q : ℕ) → (UnmetAt L (demands_all g s l a (p + 1)) q → BreaksAll g s L l a (p + 1) q) → (UnmetAt L (demands_all g s l b (p + 1 + all_places g a)) q → BreaksAll g s L l b (p + 1 + all_places g a) q) → UnmetAt L (demands g s l (Item.If c a b) p) q → Breaks g s L l (Item.If c a b) p q
      choice_case l c a b p q f k (inl (e, inl x)) = inl (e, inl x)
      choice_case l c a b p q f k (inl (e, inr (inl x))) = inl (e, inr x)
      choice_case l c a b p q f k (inl (e, inr (inr x))) = absurd x
      choice_case l c a b p q f k (inr u) = on (unmet_apart (demands_all g s l a (p + 1)) (demands_all g s l b (p + 1 + all_places g a)) q u)
        where
          on : (UnmetAt L (demands_all g s l a (p + 1)) q ⊎ UnmetAt L (demands_all g s l b (p + 1 + all_places g a)) q) → Breaks g s L l (Item.If c a b) p q
          on (inl v) = inr (inl (f v))
          on (inr v) = inr (inr (k v))

      later_case : (l : ℕ) (i : Item) (rest : Items) (p q : ℕ) → (UnmetAt L (demands g s l i p) q → Breaks g s L l i p q) → (UnmetAt L (demands_all g s l rest (p + places g i)) q → BreaksAll g s L l rest (p + places g i) q) → UnmetAt L (demands_all g s l (Items.next i rest) p) q → BreaksAll g s L l (Items.next i rest) p q
      later_case l i rest p q f k u = on (unmet_apart (demands g s l i p) (demands_all g s l rest (p + places g i)) q u)
        where
          on : (UnmetAt L (demands g s l i p) q ⊎ UnmetAt L (demands_all g s l rest (p + places g i)) q) → BreaksAll g s L l (Items.next i rest) p q
          on (inl v) = inl (f v)
          on (inr v) = inr (k v)

      mutual
        pub unmet_break : (l : ℕ) (i : Item) (p q : ℕ) → UnmetAt L (demands g s l i p) q → Breaks g s L l i p q
        unmet_break l (Item.Plain x) p q u = plain_case l x p q u
        unmet_break l (Item.Checks x) p q u = checks_case l x p q u
        unmet_break l (Item.If c a b) p q u = choice_case l c a b p q (unmet_breaks l a (p + 1) q) (unmet_breaks l b (p + 1 + all_places g a) q) u
        unmet_break l (Item.Block a) p q x = unmet_breaks (suc l) a (p + 1) q x
        unmet_break l (Item.Loop a) p q x = unmet_breaks (suc l) a (p + 1) q x
        unmet_break l (Item.Inner a) p q x = unmet_breaks (suc l) a (p + 1) q x

        pub unmet_breaks : (l : ℕ) (is : Items) (p q : ℕ) → UnmetAt L (demands_all g s l is p) q → BreaksAll g s L l is p q
        unmet_breaks l Items.end p q x = x
        unmet_breaks l (Items.next i rest) p q u = later_case l i rest p q (unmet_break l i p q) (unmet_breaks l rest (p + places g i) q) u
