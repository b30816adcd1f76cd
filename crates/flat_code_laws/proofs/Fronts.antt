-- What was told, in parts.
use Rattle.std.proofs.Common.{◌≡◌, ◌⊎◌, inl, inr, ◌≤◌, List, [], ◌∷◌, ◌++◌, refl, sym, ap, ◌∙◌, ⊎_elim, arith}
use Rattle.flat_code.specs.Told.{Tell, Stamped, Mark, tells, output_of, trail_of, Begins}
use Rattle.flat_code.specs.Safety.{live_after, ever_after}
use Rattle.flat_code_laws.specs.Laws.{TellsAppend, OutputAppends, TrailAppends, LiveAppends, EverAppends, SafeAppends, AllByLater, AllByAppends, FrontsCompare, OutputBegins, TrailBegins, TellsBegin}

pub tells_append : TellsAppend
tells_append [] ys = refl
tells_append (x ∷ xs) ys = ap (λ l. x.what ∷ l) (tells_append xs ys)

pub output_appends : OutputAppends
output_appends [] ys = refl
output_appends (Tell.Output byte ∷ xs) ys = ap (λ l. byte ∷ l) (output_appends xs ys)
output_appends (Tell.Line line ∷ xs) ys = output_appends xs ys
output_appends (Tell.Move from to ∷ xs) ys = output_appends xs ys
output_appends (Tell.Access at size write ∷ xs) ys = output_appends xs ys
output_appends (Tell.Made at exponent ∷ xs) ys = output_appends xs ys
output_appends (Tell.Ended at exponent ∷ xs) ys = output_appends xs ys

pub trail_appends : TrailAppends
trail_appends [] ys = refl
trail_appends (Tell.Output byte ∷ xs) ys = trail_appends xs ys
trail_appends (Tell.Line line ∷ xs) ys = ap (λ l. Mark.Begun line ∷ l) (trail_appends xs ys)
trail_appends (Tell.Move from to ∷ xs) ys = ap (λ l. Mark.Pair from to ∷ l) (trail_appends xs ys)
trail_appends (Tell.Access at size write ∷ xs) ys = trail_appends xs ys
trail_appends (Tell.Made at exponent ∷ xs) ys = trail_appends xs ys
trail_appends (Tell.Ended at exponent ∷ xs) ys = trail_appends xs ys

pub live_appends : LiveAppends
live_appends live [] ys = refl
live_appends live (x ∷ xs) ys = live_appends (live_after x live) xs ys

pub ever_appends : EverAppends
ever_appends ever [] ys = refl
ever_appends ever (x ∷ xs) ys = ever_appends (ever_after x ever) xs ys

pub safe_appends : SafeAppends
safe_appends g live ever [] ys = (λ h. (tt, h), λ h. h.1)
safe_appends g live ever (x ∷ xs) ys =
    let r = safe_appends g (live_after x live) (ever_after x ever) xs ys in
    (λ h. let k = r.0 h.1 in ((h.0, k.0), k.1), λ h. (h.0.0, r.1 (h.0.1, h.1)))

pub all_by_later : AllByLater
all_by_later a b [] le h = tt
all_by_later a b (x ∷ xs) le h = (let q : x.time ≤ b = omega (arith, h.0) in q, all_by_later a b xs le h.1)

pub all_by_appends : AllByAppends
all_by_appends t [] ys = (λ h. (tt, h), λ h. h.1)
all_by_appends t (x ∷ xs) ys =
    let r = all_by_appends t xs ys in
    (λ h. let k = r.0 h.1 in ((h.0, k.0), k.1), λ h. (h.0.0, r.1 (h.0.1, h.1)))

compare : (xs ys told rs ss : List Stamped) → told ≡ xs ++ rs → told ≡ ys ++ ss → Begins xs ys ⊎ Begins ys xs
compare [] ys told rs ss e f = inr (record { rest = ys; is = refl })
compare (x ∷ xs) [] told rs ss e f = inl (record { rest = x ∷ xs; is = refl })
compare (x ∷ xs) (y ∷ ys) told rs ss e f =
    let both : x ∷ (xs ++ rs) ≡ y ∷ (ys ++ ss) = sym e ∙ f in
    let head : x ≡ y = cc in
    let tail : xs ++ rs ≡ ys ++ ss = cc in
    ⊎_elim
    (λ h. inl (record { rest = h.rest; is = let q : x ∷ xs ≡ y ∷ (ys ++ h.rest) = ap (λ z. z ∷ xs) head ∙ ap (λ l. y ∷ l) h.is in q }))
    (λ h. inr (record { rest = h.rest; is = let q : y ∷ ys ≡ x ∷ (xs ++ h.rest) = ap (λ z. z ∷ ys) (sym head) ∙ ap (λ l. x ∷ l) h.is in q }))
    (compare xs ys (xs ++ rs) rs ss refl tail)

pub fronts_compare : FrontsCompare
fronts_compare told xs ys h k = compare xs ys told h.rest k.rest h.is k.is

pub output_begins : OutputBegins
output_begins xs ys h = record { rest = output_of h.rest; is = ap output_of h.is ∙ output_appends ys h.rest }

pub trail_begins : TrailBegins
trail_begins xs ys h = record { rest = trail_of h.rest; is = ap trail_of h.is ∙ trail_appends ys h.rest }

pub tells_begin : TellsBegin
tells_begin xs ys h = record { rest = tells h.rest; is = ap tells h.is ∙ tells_append ys h.rest }
