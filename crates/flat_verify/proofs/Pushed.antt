-- Rules that are added one by one.
use Rattle.std.proofs.Common.{◌≡◌, ◌<◌, ◌≤◌, ℕ, zero, suc, ◌+◌, List, [], ◌∷◌, ◌++◌, Some, refl, sym, ap, ◌∙◌, subst, arith, length, get_or, set, append_assoc, append-nil}
use Rattle.std.specs.Prelude.{map, slice_get}
use Rattle.std.proofs.lemmas.List.{length-map}
use Rattle.std.proofs.lemmas.Option.{slice_get_past}
use Rattle.flat_verify.specs.declared.reach.Stretch.{Stretch}
use Rattle.flat_verify.specs.declared.sheets.Sheet.{Sheet as SheetWritten}
use Rattle.flat_verify.specs.SheetViews.{sheet_of}
use Rattle.flat_verify.specs.Reach.{Rule, rule, rules_from, rules_of, IsBelow, AreBelow}
use Rattle.flat_verify.specs.Sheets.{Sheet, passes_rules, passes_to}

-- ---- The last stretch

from_more : (f t n : ℕ) → rules_from f t (suc n) ≡ rules_from f t n ++ rule (f + n) (t + n) ∷ []
from_more f t zero = let a : f ≡ f + 0 = omega arith in let b : t ≡ t + 0 = omega arith in ap (λ x. rule x t ∷ []) a ∙ ap (λ x. rule (f + 0) x ∷ []) b
from_more f t (suc n) =
    let a : f + 1 + n ≡ f + suc n = omega arith in
    let b : t + 1 + n ≡ t + suc n = omega arith in
    ap (λ l. rule f t ∷ l) (from_more (f + 1) (t + 1) n ∙ (ap (λ x. rules_from (f + 1) (t + 1) n ++ rule x (t + 1 + n) ∷ []) a ∙ ap (λ x. rules_from (f + 1) (t + 1) n ++ rule (f + suc n) x ∷ []) b))

pub from_longer : (f t n : ℕ) → rules_from f t (n + 1) ≡ rules_from f t n ++ rule (f + n) (t + n) ∷ []
from_longer f t n = let e : n + 1 ≡ suc n = omega arith in ap (rules_from f t) e ∙ from_more f t n

merged : (xs : List Stretch) (k : ℕ) (d : Stretch) → suc k ≡ length xs → rules_of (set xs k record { from = (get_or xs k d).from; to = (get_or xs k d).to; count = (get_or xs k d).count + 1 }) ≡ rules_of xs ++ rule ((get_or xs k d).from + (get_or xs k d).count) ((get_or xs k d).to + (get_or xs k d).count) ∷ []
merged [] k d e = absurd (omega (arith, e))
merged (x ∷ []) zero d e = append-nil (rules_from x.from x.to (x.count + 1)) ∙ (from_longer x.from x.to x.count ∙ ap (λ l. l ++ rule (x.from + x.count) (x.to + x.count) ∷ []) (sym (append-nil (rules_from x.from x.to x.count))))
merged (x ∷ (y ∷ ys)) zero d e = absurd (omega (arith, e))
merged (x ∷ xs) (suc k) d e =
    ap (λ l. rules_from x.from x.to x.count ++ l) (merged xs k d (omega (arith, e)))
    ∙ sym (append_assoc (rules_from x.from x.to x.count) (rules_of xs) (rule ((get_or xs k d).from + (get_or xs k d).count) ((get_or xs k d).to + (get_or xs k d).count) ∷ []))

-- the last stretch takes one more rule
pub longer : (xs : List Stretch) (k from to : ℕ) (last : Stretch) → k + 1 ≡ length xs → last ≡ get_or xs k last → last.from + last.count ≡ from → last.to + last.count ≡ to → rules_of (set xs k record { from = last.from; to = last.to; count = last.count + 1 }) ≡ rules_of xs ++ rule from to ∷ []
longer xs k from to last e is f t =
    ap (λ (s : Stretch). rules_of (set xs k record { from = s.from; to = s.to; count = s.count + 1 })) is
    ∙ (merged xs k last (omega (arith, e)) ∙ (ap (λ (s : Stretch). rules_of xs ++ rule (s.from + s.count) (s.to + s.count) ∷ []) (sym is) ∙ (ap (λ x. rules_of xs ++ rule x (last.to + last.count) ∷ []) f ∙ ap (λ x. rules_of xs ++ rule from x ∷ []) t)))

pub below_set : (n : ℕ) (xs : List Stretch) (k : ℕ) (s : Stretch) → AreBelow n xs → IsBelow n s → AreBelow n (set xs k s)
below_set n [] k s a b = tt
below_set n (x ∷ xs) zero s a b = (b, a.1)
below_set n (x ∷ xs) (suc k) s a b = (a.0, below_set n xs k s a.1 b)

pub below_push : (n : ℕ) (xs : List Stretch) (s : Stretch) → AreBelow n xs → IsBelow n s → AreBelow n (xs ++ s ∷ [])
below_push n [] s a b = (b, tt)
below_push n (x ∷ xs) s a b = (a.0, below_push n xs s a.1 b)

pub one_pushed : (xs : List Stretch) (from to : ℕ) → rules_of (xs ++ record { from = from; to = to; count = 1 } ∷ []) ≡ rules_of xs ++ rule from to ∷ []
one_pushed [] from to = refl
one_pushed (x ∷ xs) from to = ap (λ l. rules_from x.from x.to x.count ++ l) (one_pushed xs from to) ∙ sym (append_assoc (rules_from x.from x.to x.count) (rules_of xs) (rule from to ∷ []))

pub last_below : (n : ℕ) (xs : List Stretch) (k : ℕ) (last : Stretch) → AreBelow n xs → k < length xs → last ≡ get_or xs k last → IsBelow n last
last_below n [] k last a l is = absurd (omega (arith, l))
last_below n (x ∷ xs) zero last a l is = subst (IsBelow n) (sym is) a.0
last_below n (x ∷ xs) (suc k) last a l is = last_below n xs k last a.1 (omega (arith, l)) is

-- ---- Calls

-- a function that there is not takes no arguments
pub no_callee : (s : Sheet) (ss : List SheetWritten) (g p : ℕ) (args : List ℕ) (now : List Rule) → length ss ≤ g → now ≡ now ++ passes_to s (slice_get (map sheet_of ss) g) p args
no_callee s ss g p args now l = sym (append-nil now) ∙ ap (λ o. now ++ passes_to s o p args) (sym (slice_get_past (map sheet_of ss) g (omega (arith, length-map ss sheet_of, l))))

pub callee : (s : Sheet) (ss : List SheetWritten) (g p : ℕ) (t : SheetWritten) (args : List ℕ) → g < length ss → t ≡ get_or ss g t → passes_to s (slice_get (map sheet_of ss) g) p args ≡ passes_rules s (sheet_of t) p 0 args
callee s [] g p t args l is = absurd (omega (arith, l))
callee s (x ∷ xs) zero p t args l is = ap (λ y. passes_rules s (sheet_of y) p 0 args) (sym is)
callee s (x ∷ xs) (suc g) p t args l is = callee s xs g p t args (omega (arith, l)) is

pub written_sheet : (ss : List SheetWritten) (f : ℕ) (x : SheetWritten) → f < length ss → x ≡ get_or ss f x → slice_get (map sheet_of ss) f ≡ Some (sheet_of x)
written_sheet [] f x l is = absurd (omega (arith, l))
written_sheet (y ∷ ys) zero x l is = ap (λ z. Some (sheet_of z)) (sym is)
written_sheet (y ∷ ys) (suc f) x l is = written_sheet ys f x (omega (arith, l)) is
