-- Loops over a list that hold of what was seen, and of what is left.
use Rattle.std.specs.Prelude.{drop, take, map, min, All, slice_get, ◌&&◌, if◌then◌else◌}
use Rattle.std.specs.Option.{option_map}
use Rattle.std.proofs.Common.{◌≡◌, ℕ, zero, suc, ◌+◌, ◌<◌, ◌≤◌, Bool, true, false, List, [], ◌∷◌, ◌++◌, length, get_or, Some, refl, sym, ap, ◌∙◌, subst, append_assoc, arith}
use Rattle.std.proofs.lemmas.List.Elements.{All-nil, All-cons, All-head, All-tail}
use Rattle.std.proofs.lemmas.Option.{slice_get-map, slice_get_read}
use Rattle.lowering_counts.proofs.Counted.{next_in}

-- what holds of all images holds of the image of an element
pub all_at : {X Y : Type 0} (P : Y → Type 0) (g : X → Y) (xs : List X) (i : ℕ) (x : X) → All P (map g xs) → i < length xs → x ≡ get_or xs i x → P (g x)
all_at P g [] i x all lt is = absurd (omega (arith, lt))
all_at P g (y ∷ ys) zero x all lt is = subst (λ z. P (g z)) (sym is) (All-head P (g y) (map g ys) all)
all_at P g (y ∷ ys) (suc i) x all lt is = all_at P g ys i x (All-tail P (g y) (map g ys) all) (omega (arith, lt)) is

-- and of one more
pub all_more : {X Y : Type 0} (P : Y → Type 0) (g : X → Y) (xs : List X) (i : ℕ) (x : X) → i < length xs → x ≡ get_or xs i x → All P (take i (map g xs)) → P (g x) → All P (take (i + 1) (map g xs))
all_more P g xs i x lt is all holds = let next : suc i ≡ i + 1 = omega arith in subst (λ n. All P (take n (map g xs))) next (of xs i x lt is all holds)
  where
    of : (xs : List _) (i : ℕ) (x : _) → i < length xs → x ≡ get_or xs i x → All P (take i (map g xs)) → P (g x) → All P (take (suc i) (map g xs))
    of [] i x lt is all holds = absurd (omega (arith, lt))
    of (y ∷ ys) zero x lt is all holds = All-cons P (g y) [] (subst (λ z. P (g z)) is holds) (All-nil P)
    of (y ∷ ys) (suc i) x lt is all holds = All-cons P (g y) (take (suc i) (map g ys)) (All-head P (g y) (take i (map g ys)) all) (of ys i x (omega (arith, lt)) is (All-tail P (g y) (take i (map g ys)) all) holds)

pub all_seen : {X : Type 0} (P : X → Type 0) (xs : List X) (i : ℕ) → length xs ≤ i → All P (take i xs) → All P xs
all_seen P [] i le all = All-nil P
all_seen P (x ∷ xs) zero le all = absurd (omega (arith, le))
all_seen P (x ∷ xs) (suc i) le all = All-cons P x xs (All-head P x (take i xs) all) (all_seen P xs i (omega (arith, le)) (All-tail P x (take i xs) all))

-- an element is found, and its image
pub found_at : {X Y : Type 0} (g : X → Y) (xs : List X) (i : ℕ) (x : X) → i < length xs → x ≡ get_or xs i x → slice_get (map g xs) i ≡ Some (g x)
found_at g xs i x lt is = slice_get-map g xs i ∙ ap (option_map g) (slice_get_read xs (length xs) i x refl lt is)

-- A test of all elements goes on where an element passes, and is false where one does not.
pub goes_on : {X : Type 0} (G : List X → Bool) (t : Bool) (xs : List X) (i : ℕ) (x : X) (total : Bool) → i < length xs → x ≡ get_or xs i x → G (x ∷ drop (i + 1) xs) ≡ (t && G (drop (i + 1) xs)) → t ≡ true → G (drop i xs) ≡ total → G (drop (i + 1) xs) ≡ total
goes_on G t xs i x total lt is e h all = sym (ap (λ b. b && G (drop (i + 1) xs)) h) ∙ sym e ∙ sym (next_in G xs i x lt is) ∙ all

pub stops : {X : Type 0} (G : List X → Bool) (t : Bool) (xs : List X) (i : ℕ) (x : X) (total : Bool) → i < length xs → x ≡ get_or xs i x → G (x ∷ drop (i + 1) xs) ≡ (t && G (drop (i + 1) xs)) → t ≡ false → G (drop i xs) ≡ total → false ≡ total
stops G t xs i x total lt is e h all = sym (ap (λ b. b && G (drop (i + 1) xs)) h) ∙ sym e ∙ sym (next_in G xs i x lt is) ∙ all

pub small : (b : Bool) → (if b then 0 else 1) ≡ min (if b then 0 else 1) 4294967295
small true = refl
small false = refl

-- One more element of a list is made into what it is to be.
pub one_coded : {X Y Z : Type 0} (m : X → Z) (G : List Y → List Z) (code after : List X) (x : X) (z : Z) (ys : List Y) (i : ℕ) (y : Y) (total : List Z) → after ≡ code ++ x ∷ [] → m x ≡ z → i < length ys → y ≡ get_or ys i y → G (y ∷ drop (i + 1) ys) ≡ z ∷ G (drop (i + 1) ys) → map m code ++ G (drop i ys) ≡ total → map m after ++ G (drop (i + 1) ys) ≡ total
one_coded m G code after x z ys i y total ea em lt is e h =
    ap (λ c. map m c ++ G (drop (i + 1) ys)) ea ∙ pushed m code x (G (drop (i + 1) ys)) ∙ ap (λ v. map m code ++ (v ∷ G (drop (i + 1) ys))) em ∙ ap (λ l. map m code ++ l) (sym e ∙ sym (next_in G ys i y lt is)) ∙ h
  where
    pushed : {X Z : Type 0} (m : X → Z) (code : List X) (x : X) (rest : List Z) → map m (code ++ x ∷ []) ++ rest ≡ map m code ++ (m x ∷ rest)
    pushed m [] x rest = refl
    pushed m (c ∷ cs) x rest = ap (λ l. m c ∷ l) (pushed m cs x rest)

-- The number that a list has at an index is that of the element there.
pub number_at : {X Y : Type 0} (g : Y → ℕ) (v : X → Y) (ns : List ℕ) (xs : List X) (i : ℕ) (x : X) (d : ℕ) → ns ≡ map g (map v xs) → i < length xs → x ≡ get_or xs i x → get_or ns i d ≡ g (v x)
number_at g v ns xs i x d e lt is = ap (λ l. get_or l i d) e ∙ of xs i x lt is
  where
    of : (xs : List _) (i : ℕ) (x : _) → i < length xs → x ≡ get_or xs i x → get_or (map g (map v xs)) i d ≡ g (v x)
    of [] i x lt is = absurd (omega (arith, lt))
    of (y ∷ ys) zero x lt is = ap (λ z. g (v z)) (sym is)
    of (y ∷ ys) (suc i) x lt is = of ys i x (omega (arith, lt)) is

-- One more number of a list that has one for each element.
pub one_numbered : {Y : Type 0} (G : List Y → List ℕ) (numbers after : List ℕ) (n m : ℕ) (ys : List Y) (i : ℕ) (y : Y) (total : List ℕ) → after ≡ numbers ++ n ∷ [] → n ≡ m → i < length ys → y ≡ get_or ys i y → G (y ∷ drop (i + 1) ys) ≡ m ∷ G (drop (i + 1) ys) → numbers ++ G (drop i ys) ≡ total → after ++ G (drop (i + 1) ys) ≡ total
one_numbered G numbers after n m ys i y total ea en lt is e h =
    ap (λ l. l ++ G (drop (i + 1) ys)) ea ∙ append_assoc numbers (n ∷ []) (G (drop (i + 1) ys)) ∙ ap (λ z. numbers ++ (z ∷ G (drop (i + 1) ys))) en ∙ ap (λ l. numbers ++ l) (sym e ∙ sym (next_in G ys i y lt is)) ∙ h
