-- Texts that are written piece by piece.
use Rattle.std.proofs.Common.{◌≡◌, ◌≢◌, ℕ, List, [], ◌∷◌, ◌++◌, take, drop, Option, Some, refl, sym, ap, subst, ◌∙◌, append_assoc, append-nil}
use Rattle.std.proofs.lemmas.List.{take-append-drop}
use Rattle.std.specs.declared.result.Result.{Result}
use Rattle.std.specs.declared.result.Result.TheVariants.{Ok, Err}
use Rattle.bb_outside.specs.declared.SinkFailed.{SinkFailed}
use Rattle.bb_outside.specs.Streams.{Puts}
use Rattle.baggy_tool.specs.Notes.{IsAppended, IsCutOff, Noted}

-- this rest of the text is still to be written
abbrev pub IsPartly : List ℕ → List ℕ → Option (List ℕ) → Option (List ℕ) → Type 0
IsPartly text rest before now = (front : List ℕ) × (text ≡ front ++ rest) × IsAppended front before now

pub nothing_appended : (before : Option (List ℕ)) → IsAppended [] before before
nothing_appended before written e = e ∙ ap Some (sym (append-nil written))

pub partly_none : (text : List ℕ) (before : Option (List ℕ)) → IsPartly text text before before
partly_none text before = ([], refl, nothing_appended before)

pub appended_then : (a b : List ℕ) (x y z : Option (List ℕ)) → IsAppended a x y → IsAppended b y z → IsAppended (a ++ b) x z
appended_then a b x y z p q written e = q (written ++ a) (p written e) ∙ ap Some (append_assoc written a b)

take_drop : (n : ℕ) (xs : List ℕ) → take n xs ++ drop n xs ≡ xs
take_drop n xs = take-append-drop n xs

put_some : (rest : List ℕ) (count : ℕ) (now then : Option (List ℕ)) → Puts {E = SinkFailed} now then rest (Ok count) → IsAppended (take count rest) now then
put_some rest count now then p written e = subst (λ (o : Option (List ℕ)). Puts {E = SinkFailed} o then rest (Ok count)) e p

put_none : (rest : List ℕ) (e : SinkFailed) (now then : Option (List ℕ)) → Puts now then rest (Err e) → IsAppended [] now then
put_none rest e now then p written h = subst (λ (o : Option (List ℕ)). Puts o then rest (Err e)) h p ∙ ap Some (sym (append-nil written))

-- so many bytes more were written
pub partly_more : (text rest : List ℕ) (count : ℕ) (before now then : Option (List ℕ)) → IsPartly text rest before now → Puts {E = SinkFailed} now then rest (Ok count) → IsPartly text (drop count rest) before then
partly_more text rest count before now then p q = (
  p.0 ++ take count rest,
  p.1 ∙ ap (λ (l : List ℕ). p.0 ++ l) (sym (take_drop count rest)) ∙ sym (append_assoc p.0 (take count rest) (drop count rest)),
  appended_then p.0 (take count rest) before now then p.2 (put_some rest count now then q),
)

pub partly_all : (text rest : List ℕ) (before now : Option (List ℕ)) → rest ≡ [] → IsPartly text rest before now → IsAppended text before now
partly_all text rest before now e p =
    subst (λ (l : List ℕ). IsAppended l before now) (sym (p.1 ∙ ap (λ (l : List ℕ). p.0 ++ l) e ∙ append-nil p.0)) p.2

pub partly_cut : (text rest : List ℕ) (e : SinkFailed) (before now then : Option (List ℕ)) → rest ≢ [] → IsPartly text rest before now → Puts now then rest (Err e) → IsCutOff text before then
partly_cut text rest e before now then some p q =
    (p.0, rest, p.1, some, subst (λ (l : List ℕ). IsAppended l before then) (append-nil p.0) (appended_then p.0 [] before now then p.2 (put_none rest e now then q)))

-- one text and then another
pub noted_then : {E : Type 0} (r : Result Unit E) (a b : List ℕ) (x y z : Option (List ℕ)) → IsAppended a x y → Noted r b y z → Noted r (a ++ b) x z
noted_then (Ok done) a b x y z p q = appended_then a b x y z p q
noted_then (Err e) a b x y z p q =
    (a ++ q.0, q.1, ap (λ (l : List ℕ). a ++ l) q.2 ∙ sym (append_assoc a q.0 q.1), q.3, appended_then a q.0 x y z p q.4)

append_some : (a b : List ℕ) → a ≢ [] → a ++ b ≢ []
append_some [] b h = λ e. h refl
append_some (x ∷ a) b h = λ e. absurd (cc)

-- what was cut off in its first text is cut off
pub cut_first : (a b : List ℕ) (x y : Option (List ℕ)) → IsCutOff a x y → IsCutOff (a ++ b) x y
cut_first a b x y p =
    (p.0, p.1 ++ b, ap (λ (l : List ℕ). l ++ b) p.2 ∙ append_assoc p.0 p.1 b, append_some p.1 b p.3, p.4)

-- the same text, written in another way
pub noted_same : {E : Type 0} (r : Result Unit E) (a b : List ℕ) (x y : Option (List ℕ)) → a ≡ b → Noted r b x y → Noted r a x y
noted_same r a b x y e h = subst (λ (l : List ℕ). Noted r l x y) (sym e) h
