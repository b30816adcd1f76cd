-- Later worlds, and answers of operations on the world that lead to one.
use Rattle.std.proofs.Common.{◌≡◌, ℕ, zero, suc, Bool, true, false, List, [], ◌∷◌, ◌++◌, Option, Some, None, refl, sym, ap, ◌∙◌, subst, append_assoc, append-nil}
use Rattle.std.specs.Prelude.{slice_get, if◌then◌else◌}
use Rattle.bb_words.specs.Answers.{Goes, Ends, and_then, either}
use Rattle.source_meaning.specs.declared.values.Ending.{Ending}
use Rattle.source_meaning.specs.Objects.{Object, ended_in}
use Rattle.source_meaning.specs.Worlds.{World, Does, Mark, noted, made, ended, all_ended}
use Rattle.source_meaning.specs.Laws.{Begins, IsSame, Stay, Follows, reached}

pub begins_same : {A : Type 0} {xs : List A} → Begins xs xs
begins_same {xs = xs} = record { more = []; all = sym (append-nil xs) }

pub begins_then : {A : Type 0} {xs ys zs : List A} → Begins xs ys → Begins ys zs → Begins xs zs
begins_then {xs = xs} h k = record { more = h.more ++ k.more; all = k.all ∙ ap (λ z. z ++ k.more) h.all ∙ append_assoc xs h.more k.more }

pub is_same : (o : Object) → IsSame o o
is_same o = record { kind = refl; length = refl; base = refl; exponent = refl; ended = λ e. e }

pub same_then : {o p q : Object} → IsSame o p → IsSame p q → IsSame o q
same_then h k = record { kind = k.kind ∙ h.kind; length = k.length ∙ h.length; base = k.base ∙ h.base; exponent = k.exponent ∙ h.exponent; ended = λ e. k.ended (h.ended e) }

pub stay : (os : List Object) → Stay os os
stay [] = tt
stay (o ∷ os) = (is_same o, stay os)

pub stay_then : (os ps qs : List Object) → Stay os ps → Stay ps qs → Stay os qs
stay_then [] ps qs h k = tt
stay_then (o ∷ os) [] qs h k = absurd h
stay_then (o ∷ os) (p ∷ ps) [] h k = absurd k
stay_then (o ∷ os) (p ∷ ps) (q ∷ qs) h k = (same_then h.0 k.0, stay_then os ps qs h.1 k.1)

pub stay_more : (os : List Object) (o : Object) → Stay os (os ++ o ∷ [])
stay_more [] o = tt
stay_more (p ∷ os) o = (is_same p, stay_more os o)

pub has_ended : (o : Object) → IsSame o (record o { live = false })
has_ended o = record { kind = refl; length = refl; base = refl; exponent = refl; ended = λ e. refl }

pub ended_stay : (os : List Object) (k : ℕ) (x : Option Object) → slice_get os k ≡ x → Stay os (ended_in os k x)
ended_stay os k None e = stay os
ended_stay [] k (Some p) e = tt
ended_stay (o ∷ os) zero (Some p) e =
    let same : o ≡ p = cc in (subst (λ q. IsSame o (record q { live = false })) same (has_ended o), stay os)
ended_stay (o ∷ os) (suc k) (Some p) e = (is_same o, ended_stay os k (Some p) e)

pub follows_same : {w : World} → Follows w w
follows_same {w = w} = record { output = begins_same; trail = begins_same; taken = []; input = refl; objects = stay w.objects }

pub follows_then : {u v w : World} → Follows u v → Follows v w → Follows u w
follows_then {u = u} {v = v} {w = w} h k = record {
  output = begins_then h.output k.output;
  trail = begins_then h.trail k.trail;
  taken = h.taken ++ k.taken;
  input = h.input ∙ ap (λ z. h.taken ++ z) k.input ∙ sym (append_assoc h.taken k.taken w.rest);
  objects = stay_then u.objects v.objects w.objects h.objects k.objects;
}

pub noted_follows : (x : Mark) (w : World) → Follows w (noted x w)
noted_follows x w = record { output = begins_same; trail = record { more = x ∷ []; all = refl }; taken = []; input = refl; objects = stay w.objects }

pub made_follows : (o : Object) (w : World) → Follows w (made o w)
made_follows o w = record { output = begins_same; trail = begins_same; taken = []; input = refl; objects = stay_more w.objects o }

pub ended_follows : (k : ℕ) (w : World) → Follows w (ended k w)
ended_follows k w = record { output = begins_same; trail = begins_same; taken = []; input = refl; objects = ended_stay w.objects k (slice_get w.objects k) refl }

pub all_ended_follows : (n k : ℕ) (w : World) → Follows w (all_ended n k w)
all_ended_follows zero k w = follows_same
all_ended_follows (suc n) k w = follows_then (ended_follows k w) (all_ended_follows n (suc k) (ended k w))

-- ---- Answers

-- an answer of an operation leads to a later world
pub record Leads {A : Type 0} (w : World) (r : Does A) : Type 0 where
  pub to : Follows w (reached r)

pub goes_leads : {A : Type 0} {w : World} (a : A) → Leads w (Goes a w)
goes_leads a = record { to = follows_same }

pub ends_leads : {A : Type 0} {w : World} (e : Ending) → Leads {A = A} w (Ends e w)
ends_leads e = record { to = follows_same }

pub leads_then : {A B : Type 0} {w : World} {r : Does A} {f : A → World → Does B} → Leads w r → ((a : A) (v : World) → Leads v (f a v)) → Leads w (and_then r f)
unfolding and_then
leads_then {r = Goes a v} h k = record { to = follows_then h.to (k a v).to }
leads_then {r = Ends e v} h k = record { to = h.to }

pub if_leads : {A : Type 0} {w : World} {r q : Does A} → (b : Bool) → Leads w r → Leads w q → Leads w (if b then r else q)
if_leads true h k = h
if_leads false h k = k

pub either_leads : {A : Type 0} {w : World} (b : Bool) (f h : World → Does A) → Leads w (f w) → Leads w (h w) → Leads w (either b f h w)
either_leads true f h k l = k
either_leads false f h k l = l
