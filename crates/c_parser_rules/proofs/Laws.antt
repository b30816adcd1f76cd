-- A file has one tree, and is refused where the grammar's reading stops.
use Rattle.std.proofs.Common.{◌≡◌, ℕ, suc, ◌+◌, ◌-◌, true, false, nat_lt, List, [], ◌∷◌, ◌++◌, length, refl, sym, ap, ◌∙◌, subst, append_assoc, length-append, arith}
use Rattle.std.specs.Prelude.{take}
use Rattle.std.proofs.lemmas.Bool.Decides.{nat_tests}
use Rattle.std.proofs.lemmas.List.{append-nil, append_cancel_right}
use Rattle.c_words.specs.Tokens.{Placed}
use Rattle.c_words.specs.declared.place.At.{At}
use Rattle.syntax_tree.specs.Syntax.{UnitTree}
use Rattle.syntax_tree.specs.GrammarLimits.{Limits, within_limits, without_limits, limits_before}
use Rattle.syntax_tree.specs.Grammar.{Derives}
use Rattle.syntax_tree.specs.GrammarRefusals.{Begin, Refusal, IsRefused}
use Rattle.c_parser_rules.specs.Programs.{Sort, Value, Rule, Program, Outcome}
use Rattle.c_parser_rules.specs.Bodies.{body}
use Rattle.c_parser_rules.specs.Runs.{Runs}
use Rattle.c_parser_rules.specs.Laws.{HasOneUnit, Numbered}
use Rattle.c_parser_rules.proofs.RunsLaws.{one_outcome}
use Rattle.c_parser_rules.proofs.CompleteStatements.{complete}
use Rattle.c_parser_rules.proofs.Stability.{Fits, suffix, stable}
use Rattle.c_parser_rules.proofs.Soundness.{Free, Says, Read, right}
use Rattle.c_parser_rules.proofs.DeclarationsRight.{all_right}

pub one_unit : HasOneUnit
one_unit g ts unit other x y =
    let e : Outcome.read unit [] ≡ Outcome.read other [] = one_outcome g _ _ ts _ _ (complete g ts unit x) (complete g ts other y) in cc

-- ---- what follows from a refusal
same_refusal : (A B : Type 0) (why : Refusal) (us : List Placed) → (let o : Outcome A = Outcome.refused why us in o ≡ Outcome.refused Refusal.TooDeep [])
    → (let o : Outcome B = Outcome.refused why us in o ≡ Outcome.refused Refusal.TooDeep [])
same_refusal A B why us h = let e : why ≡ Refusal.TooDeep = cc in let f : us ≡ [] = cc in cc

-- a limit is passed at a token
deep_some : (k : Limits) (s : Sort) (p : Program s) (a : List Placed) (o : Outcome (Value s)) → Runs k s p a o → o ≡ Outcome.refused Refusal.TooDeep [] → ⊥
deep_some k _ _ _ _ Runs.give h = cc
deep_some k _ _ _ _ Runs.refuse h = absurd (let e : Refusal.Syntax ≡ Refusal.TooDeep = cc in (cc))
deep_some k _ _ _ _ (Runs.look r) h = deep_some k _ _ _ _ r h
deep_some k _ _ _ _ (Runs.take w r) h = deep_some k _ _ _ _ r h
deep_some k _ _ _ _ (Runs.take_deep l bad) h = cc
deep_some k _ _ _ _ (Runs.take_other bad) h = absurd (let e : Refusal.Syntax ≡ Refusal.TooDeep = cc in (cc))
deep_some k _ _ _ _ (Runs.ahead w r) h = deep_some k _ _ _ _ r h
deep_some k _ _ _ _ (Runs.ahead_deep l bad) h = cc
deep_some k _ _ _ _ (Runs.ahead_other bad) h = absurd (let e : Refusal.Syntax ≡ Refusal.TooDeep = cc in (cc))
deep_some k _ _ _ _ (Runs.call a n) h = deep_some k _ _ _ _ n h
deep_some k _ _ _ _ (Runs.call_refused {s = s} {t = t} {r = r} {us = us} {why = why} a) h =
    deep_some k _ _ _ _ a (same_refusal (Value t) (Value s) why us h)

-- limits at fewer tokens change no syntax error
weaker : (k k' : Limits) → ((at : At) → k' at ≡ true → k at ≡ true) → (s : Sort) (p : Program s) (a : List Placed) (o : Outcome (Value s)) → Runs k s p a o → Fits k' o → Runs k' s p a o
weaker k k' f _ _ _ _ Runs.give fit = Runs.give
weaker k k' f _ _ _ _ Runs.refuse fit = Runs.refuse
weaker k k' f _ _ _ _ (Runs.look r) fit = Runs.look (weaker k k' f _ _ _ _ r fit)
weaker k k' f _ _ _ _ (Runs.take {at = at} w r) fit = Runs.take (λ l. w (f at l)) (weaker k k' f _ _ _ _ r fit)
weaker k k' f _ _ _ _ (Runs.take_deep l bad) fit = Runs.take_deep fit bad
weaker k k' f _ _ _ _ (Runs.take_other bad) fit = Runs.take_other bad
weaker k k' f _ _ _ _ (Runs.ahead {at = at} w r) fit = Runs.ahead (λ l. w (f at l)) (weaker k k' f _ _ _ _ r fit)
weaker k k' f _ _ _ _ (Runs.ahead_deep l bad) fit = Runs.ahead_deep fit bad
weaker k k' f _ _ _ _ (Runs.ahead_other bad) fit = Runs.ahead_other bad
weaker k k' f _ _ _ _ (Runs.call a n) fit = Runs.call (weaker k k' f _ _ _ _ a tt) (weaker k k' f _ _ _ _ n fit)
weaker k k' f _ _ _ _ (Runs.call_refused a) fit = Runs.call_refused (weaker k k' f _ _ _ _ a fit)

take_front : (v us : List Placed) → take (length v) (v ++ us) ≡ v
take_front [] us = refl
take_front (q ∷ v) us = ap (λ z. q ∷ z) (take_front v us)

take_one : (v : List Placed) (t : Placed) (us : List Placed) → take (suc (length v)) (v ++ (t ∷ us)) ≡ v ++ (t ∷ [])
take_one [] t us = refl
take_one (q ∷ v) t us = ap (λ z. q ∷ z) (take_one v t us)

token_of : (n : ℕ) (v : List Placed) (t : Placed) (us : List Placed) → Numbered n (v ++ (t ∷ us)) → t.at.token ≡ n + length v
token_of n [] t us h = h.0 ∙ (omega arith)
token_of n (q ∷ v) t us h = token_of (suc n) v t us h.1 ∙ (omega arith)

not_before : (n : ℕ) → nat_lt n n ≡ false
not_before n = grind (arith, nat_tests)

before_next : (n : ℕ) → nat_lt n (suc n) ≡ true
before_next n = grind (arith, nat_tests)

free_at : (n : ℕ) → Free (limits_before n)
free_at n = (record { token = n; line = 0 }, not_before n)

-- what the run of the whole file says, seen with the limits before a token
abbrev Whole : Limits → List Placed → Outcome UnitTree → Type 0
Whole g ts o = Says g (Derives g) ts o

whole_says : (n : ℕ) (ts : List Placed) (o : Outcome UnitTree) → Runs within_limits Sort.unit (body Rule.unit) ts o → Whole (limits_before n) ts o
whole_says n ts o r =
    right (limits_before n) within_limits (λ at h. refl) (all_right (limits_before n)) Sort.unit (body Rule.unit) ts o r (Derives (limits_before n))
    (all_right (limits_before n) Sort.unit Rule.unit).some (all_right (limits_before n) Sort.unit Rule.unit).proves

-- what is read is derived
pub sound : (ts us : List Placed) (unit : UnitTree) → Runs within_limits Sort.unit (body Rule.unit) ts (Outcome.read unit us) → us ≡ [] → Derives within_limits ts unit
sound ts us unit r none =
    let i : Read within_limits (Derives within_limits) ts unit us =
    right within_limits within_limits (λ at h. h) (all_right within_limits) Sort.unit (body Rule.unit) ts (Outcome.read unit us) r (Derives within_limits)
    (all_right within_limits Sort.unit Rule.unit).some (all_right within_limits Sort.unit Rule.unit).proves in
    let e : ts ≡ i.tokens = i.cut ∙ ap (λ z. i.tokens ++ z) none ∙ append-nil i.tokens in
    subst (λ z. Derives within_limits z unit) (sym e) i.holds

read_or_not : (unit : UnitTree) (us rest : List Placed) (why : Refusal) → Outcome.read unit us ≡ Outcome.refused why rest → ⊥
read_or_not unit us rest why h = cc

-- with other tokens behind the refused one, and with limits that keep the refusal, nothing is derived
none_with : (g : Limits) (v : List Placed) (t : Placed) (us rest : List Placed) (why : Refusal) (unit : UnitTree) → Fits g (let o : Outcome UnitTree = Outcome.refused why (t ∷ us) in o)
    → Runs within_limits Sort.unit (body Rule.unit) (v ++ (t ∷ us)) (Outcome.refused why (t ∷ us)) → Derives g (v ++ (t ∷ rest)) unit → ⊥
none_with g v t us rest why unit fit r x =
    let i = stable within_limits g (λ at h. refl) t us rest Sort.unit (body Rule.unit) (v ++ (t ∷ us)) (Outcome.refused why (t ∷ us)) r v [] refl refl fit in
    read_or_not unit [] (t ∷ rest) why (one_outcome g _ _ (v ++ (t ∷ rest)) _ _ (complete g (v ++ (t ∷ rest)) unit x) i)

one_more : (g : Limits) (v : List Placed) (t : Placed) → Begin g (v ++ (t ∷ [])) → (rest : List Placed) × (unit : UnitTree) × Derives g (v ++ (t ∷ rest)) unit
one_more g v t b = (b.rest, b.unit, subst (λ z. Derives g z b.unit) (append_assoc v (t ∷ []) b.rest) b.derives)

short : (v us : List Placed) → length (v ++ us) - length us ≡ length v
short v us = omega (arith, length-append v us)

at_token : (v : List Placed) (t : Placed) (us : List Placed) (why : Refusal) → Numbered 0 (v ++ (t ∷ us))
    → Runs within_limits Sort.unit (body Rule.unit) (v ++ (t ∷ us)) (Outcome.refused why (t ∷ us)) → IsRefused (v ++ (t ∷ us)) why (length v)
at_token v t us Refusal.Syntax num r =
    let b = whole_says (length v) (v ++ (t ∷ us)) (Outcome.refused Refusal.Syntax (t ∷ us)) r (free_at (length v)) in
    let e : v ≡ b.before = append_cancel_right v b.before (t ∷ us) b.cut in
    IsRefused.syntax (length v) (omega (arith, length-append v (t ∷ us)))
    (record { rest = b.tail; unit = b.value; derives = subst (λ z. Derives (limits_before (length v)) (z ++ b.tail) b.value) (sym e ∙ sym (take_front v (t ∷ us))) b.holds })
    (λ begin. let i = one_more without_limits v t (subst (λ z. Begin without_limits z) (take_one v t us) begin) in none_with without_limits v t us i.0 Refusal.Syntax i.1 tt r i.2)
at_token v t us Refusal.TooDeep num r =
    let n : t.at.token ≡ length v = token_of 0 v t us num ∙ (omega arith) in
    let b = whole_says (length v) (v ++ (t ∷ us)) (Outcome.refused Refusal.TooDeep (t ∷ us)) r (ap (λ z. nat_lt z (length v)) n ∙ not_before (length v)) (free_at (length v)) in
    let e : v ≡ b.before = append_cancel_right v b.before (t ∷ us) b.cut in
    let kept : limits_before (suc (length v)) t.at ≡ true = ap (λ z. nat_lt z (suc (length v))) n ∙ before_next (length v) in
    let front : (v ++ (t ∷ [])) ++ b.tail ≡ b.before ++ (t ∷ b.tail) = append_assoc v (t ∷ []) b.tail ∙ ap (λ z. z ++ (t ∷ b.tail)) e in
    IsRefused.too_deep (length v) (omega (arith, length-append v (t ∷ us)))
    (record { rest = b.tail; unit = b.value; derives = subst (λ z. Derives (limits_before (length v)) z b.value) (sym front ∙ ap (λ z. z ++ b.tail) (sym (take_one v t us))) b.holds })
    (λ begin. let i = one_more (limits_before (suc (length v))) v t (subst (λ z. Begin (limits_before (suc (length v))) z) (take_one v t us) begin) in
    none_with (limits_before (suc (length v))) v t us i.0 Refusal.TooDeep i.1 kept r i.2)

at_end : (v : List Placed) (why : Refusal) → Runs within_limits Sort.unit (body Rule.unit) v (Outcome.refused why []) → IsRefused v why (length v)
at_end v Refusal.Syntax r =
    let b = whole_says (length v) v (Outcome.refused Refusal.Syntax []) r (free_at (length v)) in
    let e : v ≡ b.before = b.cut ∙ append-nil b.before in
    IsRefused.ended (record { rest = b.tail; unit = b.value; derives = subst (λ z. Derives (limits_before (length v)) (z ++ b.tail) b.value) (sym e) b.holds })
    (λ unit x. read_or_not unit [] [] Refusal.Syntax (one_outcome without_limits _ _ v _ _ (complete without_limits v unit x)
    (weaker within_limits without_limits (λ at h. refl) Sort.unit (body Rule.unit) v (Outcome.refused Refusal.Syntax []) r tt)))
at_end v Refusal.TooDeep r = absurd (deep_some within_limits Sort.unit (body Rule.unit) v (Outcome.refused Refusal.TooDeep []) r refl)

refused_by : (v us : List Placed) (why : Refusal) → Numbered 0 (v ++ us) → Runs within_limits Sort.unit (body Rule.unit) (v ++ us) (Outcome.refused why us) → IsRefused (v ++ us) why (length v)
refused_by v [] why num r = rw append-nil (at_end v why (rw append-nil at r))
refused_by v (t ∷ us) why num r = at_token v t us why num r

-- what is refused is refused where the definition says
pub refused : (ts us : List Placed) (why : Refusal) → Numbered 0 ts → Runs within_limits Sort.unit (body Rule.unit) ts (Outcome.refused why us) → IsRefused ts why (length ts - length us)
refused ts us why num r =
    let i = suffix within_limits Sort.unit (body Rule.unit) ts (Outcome.refused why us) r in
    let h : IsRefused (i.0 ++ us) why (length i.0) = refused_by i.0 us why (subst (λ z. Numbered 0 z) i.1 num) (subst (λ z. Runs within_limits Sort.unit (body Rule.unit) z (Outcome.refused why us)) i.1 r) in
    subst (λ z. IsRefused z why (length z - length us)) (sym i.1) (subst (λ z. IsRefused (i.0 ++ us) why z) (sym (short i.0 us)) h)
