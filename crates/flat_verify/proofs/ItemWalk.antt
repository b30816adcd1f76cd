-- Items that are gone over one after another.
use Rattle.std.proofs.Common.{◌≡◌, ◌<◌, ◌≤◌, ℕ, zero, suc, ◌+◌, ◌-◌, List, [], ◌∷◌, ◌++◌, Option, Vec, Global, refl, sym, ap, ◌∙◌, arith, length, get_or, take, drop, map, append_assoc}
use Rattle.std.proofs.lemmas.List.{drop_more, drop_all, map-append}
use Rattle.flat_code.specs.declared.code.FlatStep.{FlatStep}
use Rattle.flat_code.specs.declared.code.FlatFunction.{FlatFunction}
use Rattle.flat_code.specs.CodeViews.{step_of, steps_of, function_of}
use Rattle.flat_code.specs.Recognized.{Sequence, sequence_at, further}
use Rattle.flat_discipline.specs.Items.{Item, Items, item_or, item_of, items_from, items_of, places, all_places, first_place}
use Rattle.flat_discipline.proofs.Walked.{skip_in, one_in, ended, whole_rest}
use Rattle.flat_verify.specs.declared.items.FlatItem.{FlatItem}
use Rattle.flat_verify.specs.ItemViews.{items, as_item, as_items, as_bodies, bodies_of}

next_items : (xs : List FlatItem) (i : ℕ) (x : FlatItem) → i < length xs → x ≡ get_or xs i x → as_items (drop i xs) ≡ Items.next (as_item x) (as_items (drop (i + 1) xs))
next_items xs i x lt is = ap as_items (drop_more xs i x lt) ∙ ap (λ z. Items.next (as_item z) (as_items (drop (i + 1) xs))) (sym is)

end_items : (xs : List FlatItem) (i : ℕ) → length xs ≤ i → as_items (drop i xs) ≡ Items.end
end_items xs i le = ap as_items (drop_all i xs le)

pub item_places : (g : ℕ) (xs : List FlatItem) (i : ℕ) (x : FlatItem) → i < length xs → x ≡ get_or xs i x → places g (as_item x) ≤ all_places g (as_items xs)
item_places g [] i x l is = absurd (omega (arith, l))
item_places g (y ∷ ys) zero x l is = let e : places g (as_item x) ≡ places g (as_item y) = ap (λ z. places g (as_item z)) is in omega (arith, e)
item_places g (y ∷ ys) (suc i) x l is = omega (arith, item_places g ys i x (omega (arith, l)) is)

pub next_all : (g : ℕ) (xs : List FlatItem) (i : ℕ) (x : FlatItem) → i < length xs → x ≡ get_or xs i x → all_places g (as_items (drop i xs)) ≡ places g (as_item x) + all_places g (as_items (drop (i + 1) xs))
next_all g xs i x lt is = ap (all_places g) (next_items xs i x lt is)

pub none_all : (g : ℕ) (xs : List FlatItem) (i : ℕ) → length xs ≤ i → all_places g (as_items (drop i xs)) ≡ 0
none_all g xs i le = ap (all_places g) (end_items xs i le)

-- the place of the first that is left
pub first_left : (xs : List FlatItem) (i place after : ℕ) → i < length xs → first_place (as_items (drop i xs)) place after ≡ place
first_left [] i place after l = absurd (let z : ⊥ = omega (arith, l) in z)
first_left (x ∷ xs) zero place after l = refl
first_left (x ∷ xs) (suc i) place after l = first_left xs i place after (omega (arith, l))

pub none_left : (xs : List FlatItem) (i place after : ℕ) → length xs ≤ i → first_place (as_items (drop i xs)) place after ≡ after
none_left xs i place after le = ap (λ z. first_place z place after) (end_items xs i le)

-- the places of a choice, and of the other constructs
pub choice_places : (g size before first second cond : ℕ) (a a1 b b1 : List FlatItem) (x : Item) → x ≡ Item.If cond (as_items a) (as_items b) → a1 ≡ a → first ≡ all_places g (as_items a1)
    → b1 ≡ b → second ≡ all_places g (as_items b1) → before ≡ 1 + first → size ≡ before + second → size ≡ places g x
choice_places g size before first second cond a a1 b b1 x is same fs bs ss be si =
    si ∙ ap (λ n. n + second) (be ∙ ap (λ n. 1 + n) (fs ∙ ap (λ l. all_places g (as_items l)) same)) ∙ ap (λ n. 1 + all_places g (as_items a) + n) (ss ∙ ap (λ l. all_places g (as_items l)) bs) ∙ ap (places g) (sym is)

pub body_places : (g size inside : ℕ) (a a1 : List FlatItem) (x : Item) → places g x ≡ 1 + all_places g (as_items a) → a1 ≡ a → inside ≡ all_places g (as_items a1) → size ≡ 1 + inside → size ≡ places g x
body_places g size inside a a1 x is same fs si = si ∙ ap (λ n. 1 + n) (fs ∙ ap (λ l. all_places g (as_items l)) same) ∙ sym is

-- ---- Loops over items

-- Of each item comes `one`, by the state before it and the items behind it; `go` is the state after it.
module _ {X State : Type 0} (one : State → Item → Items → List X) (all : State → Items → List X) (go : State → Item → State)
    (more_is : (st : State) (i : Item) (rest : Items) → all st (Items.next i rest) ≡ one st i rest ++ all (go st i) rest) where
  pub one_more : (st after : State) (xs : List FlatItem) (i : ℕ) (x : FlatItem) (done new total : List X) → i < length xs → x ≡ get_or xs i x → after ≡ go st (as_item x)
      → new ≡ done ++ one st (as_item x) (as_items (drop (i + 1) xs)) → done ++ all st (as_items (drop i xs)) ≡ total → new ++ all after (as_items (drop (i + 1) xs)) ≡ total
  one_more st after xs i x done new total lt is goes made left =
      let rest = as_items (drop (i + 1) xs) in
      ap (λ z. new ++ all z rest) goes ∙ ap (λ p. p ++ all (go st (as_item x)) rest) made ∙ append_assoc done (one st (as_item x) rest) (all (go st (as_item x)) rest)
      ∙ ap (λ p. done ++ p) (sym (more_is st (as_item x) rest)) ∙ ap (λ z. done ++ all st z) (sym (next_items xs i x lt is)) ∙ left

-- ---- Steps that are read as items

-- items as a list
abbrev pub listed : Items → List Item
listed Items.end = []
listed (Items.next i rest) = i ∷ listed rest

pub items_listed : (is : Items) → items (listed is) ≡ is
items_listed Items.end = refl
items_listed (Items.next i rest) = ap (Items.next i) (items_listed rest)

-- these items, and those of the steps that are left, are all
abbrev pub ReadSoFar : (g skip : ℕ) → (left steps : List FlatStep) → List FlatItem → Type 0
ReadSoFar g skip left steps done = map as_item done ++ listed (items_from g skip (steps_of left)) ≡ listed (items_of g (steps_of steps))

one_item : ℕ → Item → Items → List Item
one_item st i rest = i ∷ []

all_items : ℕ → Items → List Item
all_items st is = listed is

same_state : ℕ → Item → ℕ
same_state st i = st

pub skip_read : (g skip : ℕ) (xs : List FlatStep) (i : ℕ) (x : FlatStep) (done : List FlatItem) → i < length xs → x ≡ get_or xs i x → 0 < skip → ReadSoFar g skip (drop i xs) xs done → ReadSoFar g (skip - 1) (drop (i + 1) xs) xs done
unfolding one_item all_items same_state
skip_read g skip xs i x done lt is pos left =
    skip_in g one_item all_items same_state (λ st. refl) (λ st i rest. refl) 0 skip xs i x (map as_item done) (listed (items_of g (steps_of xs))) lt is pos left

pub one_read : (g skip behind : ℕ) (xs : List FlatStep) (i : ℕ) (x : FlatStep) (o : Option Sequence) (old new : List FlatItem) (y : FlatItem) → i < length xs → x ≡ get_or xs i x → skip ≡ 0
    → sequence_at g (steps_of (take (length xs - i) (drop i xs))) ≡ o → behind ≡ further g o → as_item y ≡ item_or o (item_of g (step_of x)) → new ≡ old ++ y ∷ []
    → ReadSoFar g skip (drop i xs) xs old → ReadSoFar g behind (drop (i + 1) xs) xs new
unfolding one_item all_items same_state
one_read g skip behind xs i x o old new y lt is begun found far item push left =
    one_in g one_item all_items same_state (λ st. refl) (λ st i rest. refl) 0 0 skip behind xs i x o (map as_item old) (map as_item new) (listed (items_of g (steps_of xs))) lt is begun
    (ap (λ z. sequence_at g (steps_of z)) (sym (whole_rest xs i)) ∙ found) far refl
    (ap (map as_item) push ∙ map-append as_item old (y ∷ []) ∙ ap (λ z. map as_item old ++ z ∷ []) item) left

pub all_read : (g skip : ℕ) (xs : List FlatStep) (i : ℕ) (done : List FlatItem) → length xs ≤ i → ReadSoFar g skip (drop i xs) xs done → as_items done ≡ items_of g (steps_of xs)
unfolding one_item all_items same_state
all_read g skip xs i done le left =
    ap items (ended g one_item all_items same_state (λ st. refl) (λ st i rest. refl) 0 skip xs i (map as_item done) (listed (items_of g (steps_of xs))) le left) ∙ items_listed (items_of g (steps_of xs))

-- ---- The bodies of functions

pub bodies_count : (g : ℕ) (bodies : List (Vec FlatItem Global)) (functions : List FlatFunction) → as_bodies bodies ≡ bodies_of g (map function_of functions) → length bodies ≡ length functions
bodies_count g [] [] e = refl
bodies_count g (b ∷ bs) (x ∷ xs) e = ap suc (bodies_count g bs xs (ap rest_of e))
  where
    rest_of : List Items → List Items
    rest_of [] = []
    rest_of (y ∷ ys) = ys
bodies_count g [] (x ∷ xs) e = absurd (cc)
bodies_count g (b ∷ bs) [] e = absurd (cc)

pub body_at : (g : ℕ) (bodies : List (Vec FlatItem Global)) (functions : List FlatFunction) (f : ℕ) (b : Vec FlatItem Global) (x : FlatFunction) → as_bodies bodies ≡ bodies_of g (map function_of functions)
    → f < length functions → b ≡ get_or bodies f b → x ≡ get_or functions f x → as_items b.items ≡ items_of g (steps_of x.body)
body_at g bodies [] f b x e lt is at = absurd (let z : ⊥ = omega (arith, lt) in z)
body_at g [] (y ∷ ys) f b x e lt is at = absurd (cc)
body_at g (c ∷ cs) (y ∷ ys) zero b x e lt is at = ap (λ z. as_items z.items) is ∙ first_same e ∙ ap (λ z. items_of g (steps_of z.body)) (sym at)
  where
    first_same : as_items c.items ∷ as_bodies cs ≡ items_of g (steps_of y.body) ∷ bodies_of g (map function_of ys) → as_items c.items ≡ items_of g (steps_of y.body)
    first_same h = cc
body_at g (c ∷ cs) (y ∷ ys) (suc f) b x e lt is at = body_at g cs ys f b x (rest_same e) (omega (arith, lt)) is at
  where
    rest_same : as_items c.items ∷ as_bodies cs ≡ items_of g (steps_of y.body) ∷ bodies_of g (map function_of ys) → as_bodies cs ≡ bodies_of g (map function_of ys)
    rest_same h = cc
