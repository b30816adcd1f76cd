-- Items one after another are what is read one after another.
use Rattle.std.proofs.Common.{◌≡◌, ℕ, zero, suc, ◌-◌, ◌<◌, ◌≤◌, List, [], ◌∷◌, ◌++◌, length, take, drop, Option, Some, None, refl, sym, ap, subst, ◌∙◌, append_assoc, append-nil, length-append, length-drop, take-append-drop, drop_at, arith}
use Rattle.c_lexer.specs.Pieces.{Items, done, more}
use Rattle.c_lexer.specs.Reading.{with_item, items_from}

-- an item is what a step reads, and nothing is read of no text
pub record IsRead {X : Type 0} (IsItem : List ℕ → List ℕ → X → Type 0) (step : List ℕ → Option (X × ℕ)) : Type 0 where
  pub none : step [] ≡ None
  pub some : (s rest : List ℕ) (x : X) → IsItem s rest x → 0 < length s
  pub again : (s rest : List ℕ) (x : X) → IsItem s rest x → step (s ++ rest) ≡ Some (x, length s)
  pub moves : (bytes : List ℕ) (x : X) (n : ℕ) → step bytes ≡ Some (x, n) → (0 < n) × (n ≤ length bytes)
  pub found : (bytes : List ℕ) (x : X) (n : ℕ) → step bytes ≡ Some (x, n) → IsItem (take n bytes) (drop n bytes) x

items_skip : {X : Type 0} (step : List ℕ → Option (X × ℕ)) (bytes : List ℕ) (n : ℕ) → items_from step bytes n ≡ items_from step (drop n bytes) 0
items_skip step [] zero = refl
items_skip step [] (suc n) = refl
items_skip step (b ∷ bs) zero = refl
items_skip step (b ∷ bs) (suc n) = items_skip step bs n

pub items_stop : {X : Type 0} (step : List ℕ → Option (X × ℕ)) (bytes : List ℕ) → step bytes ≡ None → items_from step bytes 0 ≡ ([], bytes)
items_stop step [] e = refl
items_stop step (b ∷ bs) e = ap (with_item (b ∷ bs) (items_from step bs)) e

drop_one : (n b : ℕ) (bs : List ℕ) → 0 < n → drop (n - 1) bs ≡ drop n (b ∷ bs)
drop_one zero b bs h = absurd (omega arith)
drop_one (suc n) b bs h = let e : suc n - 1 ≡ n = omega arith in ap (λ k. drop k bs) e

-- items, and then others
abbrev pub behind : {X : Type 0} → List X → List X × List ℕ → List X × List ℕ
behind xs r = (xs ++ r.0, r.1)

pub items_go : {X : Type 0} (step : List ℕ → Option (X × ℕ)) (bytes : List ℕ) (x : X) (n : ℕ) → step bytes ≡ Some (x, n) → 0 < n → n ≤ length bytes
    → items_from step bytes 0 ≡ behind (x ∷ []) (items_from step (drop n bytes) 0)
items_go step [] x n e h l = absurd (omega arith)
items_go step (b ∷ bs) x n e h l =
    ap (with_item (b ∷ bs) (items_from step bs)) e
    ∙ ap (λ r. behind (x ∷ []) r) (items_skip step bs (n - 1) ∙ ap (λ t. items_from step t 0) (drop_one n b bs h))

pub items_again : {X : Type 0} (IsItem : List ℕ → List ℕ → X → Type 0) (step : List ℕ → Option (X × ℕ)) → IsRead IsItem step
    → (rest s : List ℕ) (xs : List X) → Items IsItem rest s xs → step rest ≡ None → items_from step (s ++ rest) 0 ≡ (xs, rest)
items_again IsItem step r rest _ _ done e = items_stop step rest e
items_again {X} IsItem step r rest _ _ (more s t x xs i is) e =
    let whole : (s ++ t) ++ rest ≡ s ++ (t ++ rest) = append_assoc s t rest in
    let go = items_go step (s ++ (t ++ rest)) x (length s) (r.again s (t ++ rest) x i) (r.some s (t ++ rest) x i) (omega (arith, length-append s (t ++ rest))) in
    let on : drop (length s) (s ++ (t ++ rest)) ≡ t ++ rest = drop_at s (t ++ rest) (length s) refl in
    let tail = items_again IsItem step r rest t xs is e in
    ap (λ z. items_from step z 0) whole ∙ go ∙ ap (λ z. behind (x ∷ []) (items_from step z 0)) on ∙ ap (λ (z : List X × List ℕ). behind (x ∷ []) z) tail

-- the items that are read stand one after another, and none stands after them
abbrev pub AreFound : {X : Type 0} → (List ℕ → List ℕ → X → Type 0) → (List ℕ → Option (X × ℕ)) → List ℕ → List X × List ℕ → Type 0
AreFound IsItem step bytes r = (s : List ℕ) × (bytes ≡ s ++ r.1) × Items IsItem r.1 s r.0 × (step r.1 ≡ None)

pub items_found : {X : Type 0} (IsItem : List ℕ → List ℕ → X → Type 0) (step : List ℕ → Option (X × ℕ)) → IsRead IsItem step
    → (n : ℕ) (bytes : List ℕ) → length bytes ≤ n → AreFound IsItem step bytes (items_from step bytes 0)
items_found {X} IsItem step r n bytes h = by_step n bytes (step bytes) refl h
  where
    at_stop : (bytes : List ℕ) → step bytes ≡ None → AreFound IsItem step bytes (items_from step bytes 0)
    at_stop bytes e = rw (items_stop step bytes e) ([], refl, done, e)

    at_item : (bytes : List ℕ) (x : X) (k : ℕ) → step bytes ≡ Some (x, k) → AreFound IsItem step (drop k bytes) (items_from step (drop k bytes) 0) → AreFound IsItem step bytes (items_from step bytes 0)
    at_item bytes x k e go =
        let m = r.moves bytes x k e in
        let rest = (items_from step (drop k bytes) 0).1 in
        let parts : bytes ≡ (take k bytes ++ go.0) ++ rest = sym (take-append-drop k bytes) ∙ ap (λ t. take k bytes ++ t) go.1 ∙ sym (append_assoc (take k bytes) go.0 rest) in
        let item : IsItem (take k bytes) (go.0 ++ rest) x = subst (λ t. IsItem (take k bytes) t x) go.1 (r.found bytes x k e) in
        rw (items_go step bytes x k e m.0 m.1) (take k bytes ++ go.0, parts, more (take k bytes) go.0 x _ item go.2, go.3)

    by_step : (n : ℕ) (bytes : List ℕ) (o : Option (X × ℕ)) → step bytes ≡ o → length bytes ≤ n → AreFound IsItem step bytes (items_from step bytes 0)
    by_step n bytes None e h = at_stop bytes e
    by_step zero bytes (Some item) e h = let m = r.moves bytes item.0 item.1 e in absurd (omega arith)
    by_step (suc n) bytes (Some item) e h =
        let m = r.moves bytes item.0 item.1 e in
        at_item bytes item.0 item.1 e (by_step n (drop item.1 bytes) (step (drop item.1 bytes)) refl (omega (arith, length-drop item.1 bytes)))

-- one more item behind others
pub items_push : {X : Type 0} (IsItem : List ℕ → List ℕ → X → Type 0) (rest t : List ℕ) (x : X) → IsItem t rest x → (s : List ℕ) (xs : List X) → Items IsItem (t ++ rest) s xs → Items IsItem rest (s ++ t) (xs ++ x ∷ [])
items_push IsItem rest t x i _ _ done = subst (λ u. Items IsItem rest u (x ∷ [])) (append-nil t) (more t [] x [] i done)
items_push IsItem rest t x i _ _ (more s u y ys j js) =
    let tail = items_push IsItem rest t x i u ys js in
    let item : IsItem s ((u ++ t) ++ rest) y = subst (λ z. IsItem s z y) (sym (append_assoc u t rest)) j in
    subst (λ z. Items IsItem rest z (y ∷ (ys ++ x ∷ []))) (sym (append_assoc s u t)) (more s (u ++ t) y (ys ++ x ∷ []) item tail)
