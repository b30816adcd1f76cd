-- The live blocks after events that tell of blocks.
use Rattle.std.proofs.Common.{◌≡◌, ◌≢◌, ℕ, Bool, cond, List, [], ◌∷◌, ◌++◌, refl, sym, ap, subst, ◌∙◌, inl, inr, arith, append-nil, append_assoc}
use Rattle.std.specs.Prelude.{map, reverse}
use Rattle.std.proofs.lemmas.Bool.{eq-eqb, ne_eqb}
use Rattle.std.proofs.lemmas.List.{map-append, reverse-append}
use Rattle.std.proofs.lemmas.Nat.{pow_pos}
use Rattle.bb_watch.specs.declared.event.Event.{Event}
use Rattle.rv_machine.specs.Environment.{made_event, ended_event}
use Rattle.bb_watch.specs.Live.{live_after, live_of}
use Rattle.bb_watch.specs.Told.{Tell, Output, Happens, events_of}
use Rattle.size_table.specs.Blocks.{Block, MissEachOther, MissesAll, AreDisjoint, without}

pub live_append : (live : List Block) (xs ys : List Event) → live_of live (xs ++ ys) ≡ live_of (live_of live xs) ys
live_append live [] ys = refl
live_append live (e ∷ xs) ys = live_append (live_after e live) xs ys

pub events_append : (xs ys : List Tell) → events_of (xs ++ ys) ≡ events_of xs ++ events_of ys
events_append [] ys = refl
events_append (Output byte ∷ xs) ys = events_append xs ys
events_append (Happens e ∷ xs) ys = ap (λ (l : List Event). e ∷ l) (events_append xs ys)

pub events_happen : (es : List Event) → events_of (map Happens es) ≡ es
events_happen [] = refl
events_happen (e ∷ es) = ap (λ (l : List Event). e ∷ l) (events_happen es)

-- ---- Blocks that are made

pub live_made : (live bs : List Block) → live_of live (map made_event bs) ≡ live ++ bs
live_made live [] = sym (append-nil live)
live_made live (b ∷ bs) = live_made (live ++ b ∷ []) bs ∙ append_assoc live (b ∷ []) bs

-- ---- Blocks that end

-- no block of the list begins there
BeginsNone : ℕ → List Block → Type 0
BeginsNone at [] = Unit {0}
BeginsNone at (b ∷ bs) = (b.base ≢ at) × BeginsNone at bs

without_last : (live : List Block) (b : Block) → BeginsNone b.base live → without b.base (live ++ b ∷ []) ≡ live
unfolding BeginsNone
without_last [] b h = ap (λ (t : Bool). cond t [] (b ∷ [])) (eq-eqb b.base b.base refl)
without_last (c ∷ live) b h =
    ap (λ (t : Bool). cond t (live ++ b ∷ []) (c ∷ without b.base (live ++ b ∷ []))) (ne_eqb c.base b.base h.0)
    ∙ ap (λ (l : List Block). c ∷ l) (without_last live b h.1)

meets_none : (c b : Block) (before after : List Block) → MissesAll c (before ++ b ∷ after) → MissEachOther c b
meets_none c b [] after m = m.0
meets_none c b (x ∷ before) after m = meets_none c b before after m.1

begin_apart : (c b : Block) → MissEachOther c b → c.base ≢ b.base
begin_apart c b (inl m) = let p = pow_pos c.exponent in omega (arith, m, p)
begin_apart c b (inr m) = let p = pow_pos b.exponent in omega (arith, m, p)

begins_none : (live : List Block) (b : Block) (bs : List Block) → AreDisjoint (live ++ b ∷ bs) → BeginsNone b.base live
unfolding BeginsNone
begins_none [] b bs d = tt
begins_none (c ∷ live) b bs d = (begin_apart c b (meets_none c b live bs d.0), begins_none live b bs d.1)

-- blocks that were made last end, the last one first
pub live_ended : (live bs : List Block) → AreDisjoint (live ++ bs) → live_of (live ++ bs) (map ended_event (reverse bs)) ≡ live
live_ended live [] d = append-nil live
live_ended live (b ∷ bs) d =
    let all = live ++ b ∷ bs in
    let split : map ended_event (reverse (b ∷ bs)) ≡ map ended_event (reverse bs) ++ ended_event b ∷ [] =
    ap (map ended_event) (reverse-append (b ∷ []) bs) ∙ map-append ended_event (reverse bs) (b ∷ []) in
    let push : live ++ b ∷ [] ++ bs ≡ all = append_assoc live (b ∷ []) bs in
    let others = live_ended (live ++ b ∷ []) bs (subst AreDisjoint (sym push) d) in
    ap (live_of all) split
    ∙ live_append all (map ended_event (reverse bs)) (ended_event b ∷ [])
    ∙ ap (λ (l : List Block). live_of (live_of l (map ended_event (reverse bs))) (ended_event b ∷ [])) (sym push)
    ∙ ap (λ (l : List Block). live_of l (ended_event b ∷ [])) others
    ∙ without_last live b (begins_none live b bs d)
