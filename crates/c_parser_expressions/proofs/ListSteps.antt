-- Loops that read a list: what is there goes on by what a program reads.
use Rattle.std.proofs.Common.{◌≡◌, ℕ, true, List, [], ◌∷◌, ◌++◌, Some, Result, Ok, Err, refl, sym, ap, ◌∙◌, append_assoc}
use Rattle.std.proofs.lemmas.List.{append-nil}
use Rattle.c_words.specs.Tokens.{Token, Placed}
use Rattle.c_words.specs.declared.place.At.{At}
use Rattle.c_parser_expressions.specs.declared.cursor.Stop.{Stop}
use Rattle.c_parser_rules.specs.Programs.{Sort, Value, Rule, Program}
use Rattle.c_parser_rules.specs.Tests.{first}
use Rattle.c_parser_rules.specs.Bodies.{body, strings_by}
use Rattle.c_parser_expressions.specs.Reads.{Reads, GoesOn, TakesNext}
use Rattle.c_parser_expressions.proofs.CodeSteps.{looked, seen_as, took_next, called, call_failed, gave}

pub joined : {A : Type 0} (xs ys rest all : List A) (y : A) → ys ≡ xs ++ (y ∷ []) → all ≡ ys ++ rest → all ≡ xs ++ (y ∷ rest)
joined xs ys rest all y e f = f ∙ ap (λ z. z ++ rest) e ∙ append_assoc xs (y ∷ []) rest

-- the same answer, seen without what was there
as_read : {s : Sort} {A B : Type 0} (p : Program s) (view : List B → Value s) (items : A → List B) (front : List B) (old new : List Placed) (res : Result A Stop)
    → GoesOn s p view items front old res new → (rest : Result (List B) Stop) × Reads s p view old rest new
as_read p view items front old new (Ok x) g = (Ok g.answer.0, record { answer = g.answer.2 })
as_read p view items front old new (Err e) g = (Err e, record { answer = g.answer })

pub strings_more : {A : Type 0} (items : A → List (List ℕ)) (xs ys : List (List ℕ)) (b : List ℕ) (old mid new : List Placed) (at : At) (res : Result A Stop)
    → first old ≡ Some (Token.StringLiteral b) → TakesNext true old (Ok at) mid → ys ≡ xs ++ (b ∷ [])
    → GoesOn Sort.pieces (body Rule.strings) (λ x. x) items ys mid res new → GoesOn Sort.pieces (body Rule.strings) (λ x. x) items xs old res new
strings_more items xs ys b old mid new at (Ok x) h t e g =
    let inner : Reads Sort.pieces (body Rule.strings) (λ z. z) mid (Ok g.answer.0) new = record { answer = g.answer.2 } in
    let whole : Reads Sort.pieces (body Rule.strings) (λ z. z) old (Ok (b ∷ g.answer.0)) new = seen_as strings_by _ h (took_next h t (called {r = Rule.strings} inner (gave refl))) in
    record { answer = (b ∷ g.answer.0, joined xs ys g.answer.0 (items x) b e g.answer.1, whole.answer) }
strings_more items xs ys b old mid new at (Err e) h t i g =
    let inner : Reads Sort.pieces {A = List (List ℕ)} (body Rule.strings) (λ z. z) mid (Err e) new = record { answer = g.answer } in
    let whole : Reads Sort.pieces {A = List (List ℕ)} (body Rule.strings) (λ z. z) old (Err e) new = seen_as strings_by _ h (took_next h t (call_failed {r = Rule.strings} inner)) in
    record { answer = whole.answer }

pub strings_end : {A : Type 0} (items : A → List (List ℕ)) (x : A) (old : List Placed) → strings_by (first old) ≡ Program.give [] → GoesOn Sort.pieces (body Rule.strings) (λ x. x) items (items x) old (Ok x) old
strings_end items x old e =
    let whole : Reads Sort.pieces {A = List (List ℕ)} (body Rule.strings) (λ z. z) old (Ok []) old = looked strings_by (Program.give []) e (gave refl) in
    record { answer = ([], sym (append-nil (items x)), whole.answer) }

-- the strings behind one
pub strings_then : {t : Sort} {A B : Type 0} {items : A → List (List ℕ)} {f : List (List ℕ) → Program t} {w : B → Value t} {front : List (List ℕ)} {old mid new : List Placed} {x : A} {res : Result B Stop}
    → (g : GoesOn Sort.pieces (body Rule.strings) (λ x. x) items front old (Ok x) mid) → Reads t (f g.answer.0) w mid res new → Reads t (Program.call Rule.strings f) w old res new
strings_then {old = old} {mid = mid} g n =
    let inner : Reads Sort.pieces {A = List (List ℕ)} (body Rule.strings) (λ z. z) old (Ok g.answer.0) mid = record { answer = g.answer.2 } in
    called inner n

pub strings_failed : {t : Sort} {A B : Type 0} {items : A → List (List ℕ)} {f : List (List ℕ) → Program t} {w : B → Value t} {front : List (List ℕ)} {old new : List Placed} {e : Stop}
    → GoesOn Sort.pieces (body Rule.strings) (λ x. x) items front old (Err e) new → Reads t (Program.call Rule.strings f) w old (Err e) new
strings_failed {old = old} {new = new} {e = e} g =
    let inner : Reads Sort.pieces {A = List (List ℕ)} (body Rule.strings) (λ z. z) old (Err e) new = record { answer = g.answer } in
    call_failed inner
