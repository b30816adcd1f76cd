-- What stands behind the refused token changes nothing, nor do limits at other tokens.
use Rattle.std.proofs.Common.{◌≡◌, ◌<◌, true, List, [], ◌∷◌, ◌++◌, length, refl, sym, ap, ◌∙◌, subst, append_assoc, length-append, arith}
use Rattle.std.proofs.lemmas.List.{append_cancel_right}
use Rattle.c_words.specs.Tokens.{Placed}
use Rattle.c_words.specs.declared.place.At.{At}
use Rattle.syntax_tree.specs.GrammarLimits.{Limits}
use Rattle.syntax_tree.specs.GrammarRefusals.{Refusal}
use Rattle.c_parser_rules.specs.Programs.{Sort, Value, Program, Outcome}
use Rattle.c_parser_rules.specs.Tests.{first}
use Rattle.c_parser_rules.specs.Runs.{Runs, token_at}

abbrev pub rest_of : {A : Type 0} → Outcome A → List Placed
rest_of (Outcome.read x us) = us
rest_of (Outcome.refused why us) = us

abbrev pub with_rest : {A : Type 0} → Outcome A → List Placed → Outcome A
with_rest (Outcome.read x us) vs = Outcome.read x vs
with_rest (Outcome.refused why us) vs = Outcome.refused why vs

joined : (a v w rest us : List Placed) → a ≡ v ++ us → us ≡ w ++ rest → a ≡ (v ++ w) ++ rest
joined a v w rest us e h = e ∙ ap (λ z. v ++ z) h ∙ sym (append_assoc v w rest)

-- what is left is an end of what there was
pub suffix : (limits : Limits) (s : Sort) (p : Program s) (a : List Placed) (o : Outcome (Value s)) → Runs limits s p a o → (v : List Placed) × (a ≡ v ++ rest_of o)
suffix l _ _ _ _ Runs.give = ([], refl)
suffix l _ _ _ _ Runs.refuse = ([], refl)
suffix l _ _ _ _ (Runs.look r) = suffix l _ _ _ _ r
suffix l _ _ _ _ (Runs.take {c = c} {at = at} w r) = let i = suffix l _ _ _ _ r in (token_at c at ∷ i.0, ap (λ z. token_at c at ∷ z) i.1)
suffix l _ _ _ _ (Runs.take_deep k h) = ([], refl)
suffix l _ _ _ _ (Runs.take_other h) = ([], refl)
suffix l _ _ _ _ (Runs.ahead w r) = suffix l _ _ _ _ r
suffix l _ _ _ _ (Runs.ahead_deep k h) = ([], refl)
suffix l _ _ _ _ (Runs.ahead_other h) = ([], refl)
suffix l _ _ _ o (Runs.call {ts = ts} {us = us} a n) =
    let i = suffix l _ _ _ _ a in let j = suffix l _ _ _ _ n in (i.0 ++ j.0, joined ts i.0 j.0 (rest_of o) us i.1 j.1)
suffix l _ _ _ _ (Runs.call_refused a) = suffix l _ _ _ _ a

-- a limit that was passed is kept by these limits too
abbrev pub Fits : {A : Type 0} → Limits → Outcome A → Type 0
Fits k (Outcome.refused Refusal.TooDeep (q ∷ qs)) = k q.at ≡ true
Fits k _ = Unit {0}

module _ (k k' : Limits) (fewer : (at : At) → k' at ≡ true → k at ≡ true) (t : Placed) (s s' : List Placed) where
  first_same : (before : List Placed) → first (before ++ (t ∷ s)) ≡ first (before ++ (t ∷ s'))
  first_same [] = refl
  first_same (b ∷ bs) = refl

  cut_same : (before u : List Placed) → before ++ (t ∷ s) ≡ u ++ (t ∷ s) → before ≡ u
  cut_same before u e = append_cancel_right before u (t ∷ s) e

  data Split (q : Placed) (ts before : List Placed) : Type 0 where
    here : before ≡ [] → q ≡ t → ts ≡ s → Split q ts before
    within : (bs : List Placed) → before ≡ q ∷ bs → ts ≡ bs ++ (t ∷ s) → Split q ts before

  split : (q : Placed) (ts before : List Placed) → q ∷ ts ≡ before ++ (t ∷ s) → Split q ts before
  split q ts [] e = Split.here refl (cc) (cc)
  split q ts (b ∷ bs) e = Split.within bs (cc) (cc)

  -- the exchanged list begins with the same token
  begins : (q : Placed) (ts before : List Placed) → q ∷ ts ≡ before ++ (t ∷ s) → (rest : List Placed) × (before ++ (t ∷ s') ≡ q ∷ rest)
  begins q ts before e = elim (split q ts before e) [
    | Split.here none is rest ↦ (s', rw (none, is) refl)
    | Split.within bs is rest ↦ (bs ++ (t ∷ s'), rw is refl)
  ]

  longer : (u : List Placed) → length s < length (u ++ (t ∷ s))
  longer u = omega (arith, length-append u (t ∷ s))

  pub stable : (sort : Sort) (p : Program sort) (a : List Placed) (o : Outcome (Value sort)) → Runs k sort p a o
      → (before u : List Placed) → a ≡ before ++ (t ∷ s) → rest_of o ≡ u ++ (t ∷ s) → Fits k' o → Runs k' sort p (before ++ (t ∷ s')) (with_rest o (u ++ (t ∷ s')))
  stable _ _ _ _ (Runs.give {s = sort} {x = x} {ts = a}) before u e h fit =
      let is = cut_same before u (sym e ∙ h) in subst (λ z. Runs k' sort (Program.give x) (before ++ (t ∷ s')) (Outcome.read x (z ++ (t ∷ s')))) is Runs.give
  stable _ _ _ _ (Runs.refuse {s = sort} {ts = a}) before u e h fit =
      let is = cut_same before u (sym e ∙ h) in subst (λ z. Runs k' sort Program.refuse (before ++ (t ∷ s')) (Outcome.refused Refusal.Syntax (z ++ (t ∷ s')))) is Runs.refuse
  stable _ _ _ o (Runs.look {s = sort} {f = f} {ts = a} r) before u e h fit =
      Runs.look (subst (λ z. Runs k' sort (f z) (before ++ (t ∷ s')) (with_rest o (u ++ (t ∷ s')))) (ap first e ∙ first_same before) (stable _ _ _ _ r before u e h fit))
  stable _ _ _ o (Runs.take {s = sort} {c = c} {within = w} {f = f} {at = at} {ts = ts} ok r) before u e h fit = elim (split (token_at c at) ts before e) [
    | Split.here none is rest ↦ let i = suffix k _ _ _ _ r in absurd (omega (arith, ap length i.1, length-append i.0 (rest_of o), ap length h, longer u, ap length rest))
    | Split.within bs is rest ↦ subst (λ z. Runs k' sort (Program.take c w f) (z ++ (t ∷ s')) (with_rest o (u ++ (t ∷ s')))) (sym is)
        (Runs.take (λ l. ok (fewer at l)) (stable _ _ _ _ r bs u rest h fit))
  ]
  stable _ _ _ _ (Runs.take_deep {s = sort} {c = c} {within = w} {f = f} {at = at} {ts = ts} l bad) before u e h fit =
      let is = cut_same before u (sym e ∙ h) in
      let b = begins (token_at c at) ts before e in
      subst (λ z. Runs k' sort (Program.take c w f) (before ++ (t ∷ s')) (Outcome.refused Refusal.TooDeep (z ++ (t ∷ s')))) is
      (subst (λ z. Runs k' sort (Program.take c w f) z (Outcome.refused Refusal.TooDeep z)) (sym b.1) (Runs.take_deep fit bad))
  stable _ _ _ _ (Runs.take_other {s = sort} {c = c} {within = w} {f = f} {ts = ts} bad) before u e h fit =
      let is = cut_same before u (sym e ∙ h) in
      subst (λ z. Runs k' sort (Program.take c w f) (before ++ (t ∷ s')) (Outcome.refused Refusal.Syntax (z ++ (t ∷ s')))) is
      (Runs.take_other (λ q. bad (ap first e ∙ first_same before ∙ q)))
  stable _ _ _ o (Runs.ahead {s = sort} {c = c} {within = w} {f = f} {at = at} {ts = ts} ok r) before u e h fit =
      let b = begins (token_at c at) ts before e in
      let i = stable _ _ _ _ r before u e h fit in
      subst (λ z. Runs k' sort (Program.ahead c w f) z (with_rest o (u ++ (t ∷ s')))) (sym b.1)
      (Runs.ahead (λ l. ok (fewer at l)) (subst (λ z. Runs k' sort (f at) z (with_rest o (u ++ (t ∷ s')))) b.1 i))
  stable _ _ _ _ (Runs.ahead_deep {s = sort} {c = c} {within = w} {f = f} {at = at} {ts = ts} l bad) before u e h fit =
      let is = cut_same before u (sym e ∙ h) in
      let b = begins (token_at c at) ts before e in
      subst (λ z. Runs k' sort (Program.ahead c w f) (before ++ (t ∷ s')) (Outcome.refused Refusal.TooDeep (z ++ (t ∷ s')))) is
      (subst (λ z. Runs k' sort (Program.ahead c w f) z (Outcome.refused Refusal.TooDeep z)) (sym b.1) (Runs.ahead_deep fit bad))
  stable _ _ _ _ (Runs.ahead_other {s = sort} {c = c} {within = w} {f = f} {ts = ts} bad) before u e h fit =
      let is = cut_same before u (sym e ∙ h) in
      subst (λ z. Runs k' sort (Program.ahead c w f) (before ++ (t ∷ s')) (Outcome.refused Refusal.Syntax (z ++ (t ∷ s')))) is
      (Runs.ahead_other (λ q. bad (ap first e ∙ first_same before ∙ q)))
  stable _ _ _ o (Runs.call {us = us} a n) before u e h fit =
      let j = suffix k _ _ _ _ n in
      let mid = joined us j.0 u (t ∷ s) (rest_of o) j.1 h in
      Runs.call (stable _ _ _ _ a before (j.0 ++ u) e mid tt) (stable _ _ _ _ n (j.0 ++ u) u mid h fit)
  stable _ _ _ _ (Runs.call_refused a) before u e h fit = Runs.call_refused (stable _ _ _ _ a before u e h fit)
