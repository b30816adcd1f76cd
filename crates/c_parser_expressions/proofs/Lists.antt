-- Loops over the lists of declarations and statements.
use Rattle.std.proofs.Common.{◌≡◌, ℕ, Bool, true, false, List, [], ◌∷◌, ◌++◌, Option, Result, Ok, Err, refl, sym, ap, ◌∙◌, subst, map}
use Rattle.std.proofs.lemmas.List.{append-nil}
use Rattle.c_words.specs.Tokens.{Token, Placed}
use Rattle.c_words.specs.declared.place.At.{At}
use Rattle.c_words.specs.declared.words.Punctuator.TheVariants as m
use Rattle.syntax_tree.specs.GrammarLimits.{within_limits}
use Rattle.syntax_tree.specs.Syntax.{InitializerTree, BlockItemTree}
use Rattle.syntax_tree.specs.SyntaxViews.{listed_parts, listed_items}
use Rattle.c_parser_expressions.specs.declared.cursor.Stop.{Stop}
use Rattle.c_parser_rules.specs.Programs.{Sort, Value, Rule, Program, Outcome}
use Rattle.c_parser_rules.specs.Tests.{first, is_comma, is_close_brace}
use Rattle.c_parser_rules.specs.Bodies.{body}
use Rattle.c_parser_rules.specs.Runs.{Runs}
use Rattle.c_parser_expressions.specs.Reads.{Reads, GoesOn, Takes, Answers}
use Rattle.c_parser_expressions.proofs.CodeSteps.{when_yes, when_no, took, called, call_failed, gave, tail}
use Rattle.c_parser_expressions.proofs.ListSteps.{joined}

-- One more item stands in front of what the rest gives.
goes_more : {s : Sort} {A B : Type 0} (p : Program s) (view : List B → Value s) (items : A → List B) (xs ys : List B) (y : B) (old mid new : List Placed) (res : Result A Stop)
    → ys ≡ xs ++ (y ∷ []) → ((zs : List B) → Reads s p view mid (Ok zs) new → Reads s p view old (Ok (y ∷ zs)) new)
    → ((e : Stop) → Reads s p view mid (Err e) new → Reads s p view old (Err e) new)
    → GoesOn s p view items ys mid res new → GoesOn s p view items xs old res new
goes_more p view items xs ys y old mid new (Ok x) e good bad g =
    record { answer = (y ∷ g.answer.0, joined xs ys g.answer.0 (items x) y e g.answer.1, (good g.answer.0 (record { answer = g.answer.2 })).answer) }
goes_more p view items xs ys y old mid new (Err r) e good bad g = record { answer = (bad r (record { answer = g.answer })).answer }

-- The list ends with these items.
goes_done : {s : Sort} {A B : Type 0} {p : Program s} {view : List B → Value s} {items : A → List B} {xs : List B} {x : A} {old new : List Placed} (rest : List B)
    → items x ≡ xs ++ rest → Reads s p view old (Ok rest) new → GoesOn s p view items xs old (Ok x) new
goes_done rest e a = record { answer = (rest, e, a.answer) }

goes_end : {s : Sort} {A B : Type 0} {p : Program s} {view : List B → Value s} {items : A → List B} {x : A} {old new : List Placed}
    → Reads s p view old (Ok []) new → GoesOn s p view items (items x) old (Ok x) new
goes_end {items = items} {x = x} a = goes_done [] (sym (append-nil (items x))) a

-- no further item is read
pub goes_stop : {s : Sort} {A B : Type 0} {p : Program s} {view : List B → Value s} {items : A → List B} {xs : List B} {old new : List Placed} {e : Stop}
    → Reads s p view old (Err e) new → GoesOn s p view items xs old (Err e) new
goes_stop a = record { answer = a.answer }

-- from nothing, the list is what was read
pub collected : {s : Sort} {A B : Type 0} {p : Program s} {view : List B → Value s} {items : A → List B} {xs : List B} {old new : List Placed} {res : Result A Stop}
    → xs ≡ [] → GoesOn s p view items xs old res new → Reads s p (λ x. view (items x)) old res new
collected {s = s} {p = p} {view = view} {items = items} {xs = xs} {old = old} {new = new} {res = res} n g = record { answer = whole s p view items xs old new res n g }
  where
    whole : (s : Sort) {A B : Type 0} (p : Program s) (view : List B → Value s) (items : A → List B) (xs : List B) (old new : List Placed) (res : Result A Stop)
        → xs ≡ [] → GoesOn s p view items xs old res new → Answers s p (λ x. view (items x)) old res new
    whole s p view items xs old new (Ok x) n g = subst (λ z. Runs within_limits s p old (Outcome.read (view z) new)) (sym (g.answer.1 ∙ ap (λ z. z ++ g.answer.0) n)) g.answer.2
    whole s p view items xs old new (Err e) n g = g.answer

-- a list that goes on behind what is there, as a part of another rule
pub goes_then : {s t : Sort} {A B C : Type 0} {r : Rule s} {view : List B → Value s} {items : A → List B} {f : Value s → Program t} {w : C → Value t} {xs : List B} {old mid new : List Placed} {x : A} {res : Result C Stop}
    → (g : GoesOn s (body r) view items xs old (Ok x) mid) → Reads t (f (view g.answer.0)) w mid res new → Reads t (Program.call r f) w old res new
goes_then {s = s} {r = r} {view = view} {old = old} {mid = mid} g n =
    let inner : Reads s (body r) view old (Ok g.answer.0) mid = record { answer = g.answer.2 } in called inner n

pub goes_failed : {s t : Sort} {A B C : Type 0} {r : Rule s} {view : List B → Value s} {items : A → List B} {f : Value s → Program t} {w : C → Value t} {xs : List B} {old new : List Placed} {e : Stop}
    → GoesOn s (body r) view items xs old (Err e) new → Reads t (Program.call r f) w old (Err e) new
goes_failed {s = s} {r = r} {view = view} {old = old} {new = new} {e = e} g =
    let inner : Reads s (body r) view old (Err e) new = record { answer = g.answer } in call_failed inner

-- any number of X
pub repeat_more : {s : Sort} {A B : Type 0} (begins : Option Token → Bool) (r : Rule s) {view : B → Value s} {items : A → List B} {xs ys : List B} {y : B} {old mid new : List Placed} {res : Result A Stop}
    → begins (first old) ≡ true → Reads s (body r) view old (Ok y) mid → ys ≡ xs ++ (y ∷ [])
    → GoesOn (Sort.many s) (body (Rule.repeat begins r)) (map view) items ys mid res new → GoesOn (Sort.many s) (body (Rule.repeat begins r)) (map view) items xs old res new
repeat_more begins r {view = view} {items = items} {xs = xs} {ys = ys} {y = y} {old = old} {mid = mid} {new = new} {res = res} h a e g =
    goes_more (body (Rule.repeat begins r)) (map view) items xs ys y old mid new res e
    (λ zs b. when_yes begins _ _ h (called a (called {r = Rule.repeat begins r} b (gave refl))))
    (λ z b. when_yes begins _ _ h (called a (call_failed {r = Rule.repeat begins r} b))) g

pub repeat_failed : {s : Sort} {A B : Type 0} (begins : Option Token → Bool) (r : Rule s) {view : B → Value s} {items : A → List B} {xs : List B} {old new : List Placed} {e : Stop}
    → begins (first old) ≡ true → Reads s (body r) view old (Err e) new → GoesOn (Sort.many s) (body (Rule.repeat begins r)) (map view) items xs old (Err e) new
repeat_failed begins r h a = goes_stop (when_yes begins _ _ h (call_failed a))

pub repeat_end : {s : Sort} {A B : Type 0} (begins : Option Token → Bool) (r : Rule s) {view : B → Value s} {items : A → List B} {x : A} {old : List Placed}
    → begins (first old) ≡ false → GoesOn (Sort.many s) (body (Rule.repeat begins r)) (map view) items (items x) old (Ok x) old
repeat_end begins r h = goes_end (when_no begins _ _ h (gave refl))

-- one X or more, with commas between
abbrev pub comma : Token
comma = Token.Punctuator m.Comma

pub commas_more : {s : Sort} {A B : Type 0} {r : Rule s} {view : B → Value s} {items : A → List B} {xs ys : List B} {y : B} {at : At} {old mid then new : List Placed} {res : Result A Stop}
    → Reads s (body r) view old (Ok y) mid → is_comma (first mid) ≡ true → Takes comma true mid (Ok at) then → ys ≡ xs ++ (y ∷ [])
    → GoesOn (Sort.many s) (body (Rule.commas r)) (map view) items ys then res new → GoesOn (Sort.many s) (body (Rule.commas r)) (map view) items xs old res new
commas_more {r = r} {view = view} {items = items} {xs = xs} {ys = ys} {y = y} {old = old} {then = then} {new = new} {res = res} a h t e g =
    goes_more (body (Rule.commas r)) (map view) items xs ys y old then new res e
    (λ zs b. called a (tail {r = Rule.commas_rest r (view y)} (when_yes is_comma _ _ h (took t (called {r = Rule.commas r} b (gave refl))))))
    (λ z b. called a (tail {r = Rule.commas_rest r (view y)} (when_yes is_comma _ _ h (took t (call_failed {r = Rule.commas r} b))))) g

pub commas_end : {s : Sort} {A B : Type 0} {r : Rule s} {view : B → Value s} {items : A → List B} {xs : List B} {x : A} {y : B} {old mid : List Placed}
    → Reads s (body r) view old (Ok y) mid → is_comma (first mid) ≡ false → items x ≡ xs ++ (y ∷ []) → GoesOn (Sort.many s) (body (Rule.commas r)) (map view) items xs old (Ok x) mid
commas_end {r = r} {view = view} {y = y} a h e = goes_done (y ∷ []) e (called a (tail {r = Rule.commas_rest r (view y)} (when_no is_comma _ _ h (gave refl))))

pub commas_failed : {s : Sort} {A B : Type 0} {r : Rule s} {view : B → Value s} {items : A → List B} {xs : List B} {old new : List Placed} {e : Stop}
    → Reads s (body r) view old (Err e) new → GoesOn (Sort.many s) (body (Rule.commas r)) (map view) items xs old (Err e) new
commas_failed a = goes_stop (call_failed a)

-- parts of an initializer, whose last may have a comma behind it
module _ {A B : Type 0} {d : ℕ} {view : B → InitializerTree} {items : A → List B} where
  pub parts_more : {xs ys : List B} {y : B} {at : At} {old mid then new : List Placed} {res : Result A Stop}
      → Reads Sort.initializer (body (Rule.initializer d)) view old (Ok y) mid → is_comma (first mid) ≡ true → Takes comma true mid (Ok at) then → is_close_brace (first then) ≡ false → ys ≡ xs ++ (y ∷ [])
      → GoesOn Sort.initializers (body (Rule.parts d)) (λ zs. listed_parts (map view zs)) items ys then res new → GoesOn Sort.initializers (body (Rule.parts d)) (λ zs. listed_parts (map view zs)) items xs old res new
  parts_more {xs = xs} {ys = ys} {y = y} {old = old} {then = then} {new = new} {res = res} a h t i e g =
      goes_more (body (Rule.parts d)) (λ zs. listed_parts (map view zs)) items xs ys y old then new res e
      (λ zs b. called a (when_yes is_comma _ _ h (took t (when_no is_close_brace _ _ i (called {r = Rule.parts d} b (gave refl))))))
      (λ z b. called a (when_yes is_comma _ _ h (took t (when_no is_close_brace _ _ i (call_failed {r = Rule.parts d} b))))) g

  pub parts_comma : {xs : List B} {x : A} {y : B} {at : At} {old mid then : List Placed}
      → Reads Sort.initializer (body (Rule.initializer d)) view old (Ok y) mid → is_comma (first mid) ≡ true → Takes comma true mid (Ok at) then → is_close_brace (first then) ≡ true → items x ≡ xs ++ (y ∷ [])
      → GoesOn Sort.initializers (body (Rule.parts d)) (λ zs. listed_parts (map view zs)) items xs old (Ok x) then
  parts_comma {y = y} a h t i e = goes_done (y ∷ []) e (called a (when_yes is_comma _ _ h (took t (when_yes is_close_brace _ _ i (gave refl)))))

  pub parts_end : {xs : List B} {x : A} {y : B} {old mid : List Placed}
      → Reads Sort.initializer (body (Rule.initializer d)) view old (Ok y) mid → is_comma (first mid) ≡ false → items x ≡ xs ++ (y ∷ [])
      → GoesOn Sort.initializers (body (Rule.parts d)) (λ zs. listed_parts (map view zs)) items xs old (Ok x) mid
  parts_end {y = y} a h e = goes_done (y ∷ []) e (called a (when_no is_comma _ _ h (gave refl)))

-- what stands in a block
module _ {A B : Type 0} {d : ℕ} {view : B → BlockItemTree} {items : A → List B} where
  pub items_more : {xs ys : List B} {y : B} {old mid new : List Placed} {res : Result A Stop}
      → is_close_brace (first old) ≡ false → Reads Sort.block_item (body (Rule.item d)) view old (Ok y) mid → ys ≡ xs ++ (y ∷ [])
      → GoesOn Sort.block_items (body (Rule.items d)) (λ zs. listed_items (map view zs)) items ys mid res new → GoesOn Sort.block_items (body (Rule.items d)) (λ zs. listed_items (map view zs)) items xs old res new
  items_more {xs = xs} {ys = ys} {y = y} {old = old} {mid = mid} {new = new} {res = res} h a e g =
      goes_more (body (Rule.items d)) (λ zs. listed_items (map view zs)) items xs ys y old mid new res e
      (λ zs b. when_no is_close_brace _ _ h (called a (called {r = Rule.items d} b (gave refl))))
      (λ z b. when_no is_close_brace _ _ h (called a (call_failed {r = Rule.items d} b))) g

  pub items_end : {x : A} {old : List Placed} → is_close_brace (first old) ≡ true → GoesOn Sort.block_items (body (Rule.items d)) (λ zs. listed_items (map view zs)) items (items x) old (Ok x) old
  items_end h = goes_end (when_yes is_close_brace _ _ h (gave refl))

-- the first item was read by another rule
pub first_then : {s : Sort} {A B : Type 0} {r : Rule (Sort.many s)} {view : B → Value s} {items : A → List B} {xs : List B} {y : B} {old new : List Placed} {res : Result A Stop}
    → xs ≡ y ∷ [] → GoesOn (Sort.many s) (body r) (map view) items xs old res new → Reads (Sort.many s) (Program.call r (λ rest. Program.give (view y ∷ rest))) (λ x. map view (items x)) old res new
first_then {s = s} {A = A} {B = B} {r = r} {view = view} {items = items} {xs = xs} {y = y} {old = old} {new = new} {res = res} n g = whole res g
  where
    whole : (res : Result A Stop) → GoesOn (Sort.many s) (body r) (map view) items xs old res new → Reads (Sort.many s) (Program.call r (λ rest. Program.give (view y ∷ rest))) (λ x. map view (items x)) old res new
    whole (Ok x) g = goes_then g (gave (ap (λ z. map view z) (g.answer.1 ∙ ap (λ z. z ++ g.answer.0) n)))
    whole (Err e) g = goes_failed g
