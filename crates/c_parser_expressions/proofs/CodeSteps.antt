-- What a function has read so far, and what it goes on to read.
use Rattle.std.proofs.Common.{◌≡◌, ◌<◌, length, arith, Bool, true, false, cond, List, [], ◌∷◌, Option, Some, Result, Ok, Err, refl, sym, ap, subst}
use Rattle.std.proofs.lemmas.Bool.{false≢true}
use Rattle.c_words.specs.Tokens.{Token, Placed}
use Rattle.c_words.specs.declared.place.At.{At}
use Rattle.syntax_tree.specs.GrammarLimits.{within_limits}
use Rattle.syntax_tree.specs.GrammarRefusals.{Refusal}
use Rattle.c_parser_expressions.specs.declared.cursor.Stop.{Stop}
use Rattle.c_parser_expressions.specs.declared.cursor.Stop.TheVariants as stop
use Rattle.c_parser_rules.specs.Programs.{Sort, Value, Rule, Program, Outcome}
use Rattle.c_parser_rules.specs.Tests.{first}
use Rattle.c_parser_rules.specs.Bodies.{body, when, reads}
use Rattle.c_parser_rules.specs.Runs.{Runs, token_at}
use Rattle.c_parser_expressions.specs.Reads.{Reads, Leads, Led, Takes, TakesNext, Sees, Answers, Fails}

after_call : {s t : Sort} {A B : Type 0} (r : Rule s) (v : A → Value s) (f : Value s → Program t) (w : B → Value t) (old mid new : List Placed) (x : A) (res : Result B Stop)
    → Runs within_limits s (body r) old (Outcome.read (v x) mid) → Answers t (f (v x)) w mid res new → Answers t (Program.call r f) w old res new
after_call r v f w old mid new x (Ok y) a n = Runs.call a n
after_call r v f w old mid new x (Err stop.Memory) a n = tt
after_call r v f w old mid new x (Err stop.Syntax) a n = Runs.call a n
after_call r v f w old mid new x (Err stop.TooDeep) a n = Runs.call a n

failed : {s t : Sort} (r : Rule s) (f : Value s → Program t) (old new : List Placed) (e : Stop) → Fails s (body r) old e new → Fails t (Program.call r f) old e new
failed r f old new stop.Memory h = tt
failed r f old new stop.Syntax h = Runs.call_refused h
failed r f old new stop.TooDeep h = Runs.call_refused h

taken : {s : Sort} {B : Type 0} (c : Token) (within : Bool) (f : At → Program s) (w : B → Value s) (at : At) (mid new : List Placed) (res : Result B Stop)
    → within ≡ true → Answers s (f at) w mid res new → Answers s (Program.take c within f) w (token_at c at ∷ mid) res new
taken c within f w at mid new (Ok y) h n = Runs.take (λ k. h) n
taken c within f w at mid new (Err stop.Memory) h n = tt
taken c within f w at mid new (Err stop.Syntax) h n = Runs.take (λ k. h) n
taken c within f w at mid new (Err stop.TooDeep) h n = Runs.take (λ k. h) n

seen : {s : Sort} {B : Type 0} (f : Option Token → Program s) (w : B → Value s) (old new : List Placed) (res : Result B Stop) → Answers s (f (first old)) w old res new → Answers s (Program.look f) w old res new
seen f w old new (Ok y) n = Runs.look n
seen f w old new (Err stop.Memory) n = tt
seen f w old new (Err stop.Syntax) n = Runs.look n
seen f w old new (Err stop.TooDeep) n = Runs.look n

pub called : {s t : Sort} {A B : Type 0} {r : Rule s} {v : A → Value s} {f : Value s → Program t} {w : B → Value t} {old mid new : List Placed} {x : A} {res : Result B Stop}
    → Reads s (body r) v old (Ok x) mid → Reads t (f (v x)) w mid res new → Reads t (Program.call r f) w old res new
called {r = r} {v = v} {f = f} {w = w} {old = old} {mid = mid} {new = new} {x = x} {res = res} a n = record { answer = after_call r v f w old mid new x res a.answer n.answer }

pub call_failed : {s t : Sort} {A B : Type 0} {r : Rule s} {v : A → Value s} {f : Value s → Program t} {w : B → Value t} {old new : List Placed} {e : Stop}
    → Reads s (body r) v old (Err e) new → Reads t (Program.call r f) w old (Err e) new
call_failed {r = r} {f = f} {old = old} {new = new} {e = e} a = record { answer = failed r f old new e a.answer }

pub took : {s : Sort} {B : Type 0} {c : Token} {within : Bool} {f : At → Program s} {w : B → Value s} {old mid new : List Placed} {at : At} {res : Result B Stop}
    → Takes c within old (Ok at) mid → Reads s (f at) w mid res new → Reads s (Program.take c within f) w old res new
took {s = s} {c = c} {within = within} {f = f} {w = w} {old = old} {mid = mid} {new = new} {at = at} {res = res} a n =
    record { answer = subst (λ z. Answers s (Program.take c within f) w z res new) (sym a.answer.1) (taken c within f w at mid new res a.answer.0 n.answer) }

pub gave : {s : Sort} {A : Type 0} {v : A → Value s} {x : A} {y : Value s} {old : List Placed} → v x ≡ y → Reads s (Program.give y) v old (Ok x) old
gave {s = s} {y = y} {old = old} e = record { answer = subst (λ z. Runs within_limits s (Program.give y) old (Outcome.read z old)) (sym e) Runs.give }

-- the same answer seen by another view
pub failed_as : {s : Sort} {A B : Type 0} {p : Program s} {v : A → Value s} {w : B → Value s} {old new : List Placed} {e : Stop} → Reads s p v old (Err e) new → Reads s p w old (Err e) new
failed_as a = record { answer = a.answer }

pub read_as : {s : Sort} {A B : Type 0} {p : Program s} {v : A → Value s} {w : B → Value s} {old new : List Placed} {x : A} {y : B} → Reads s p v old (Ok x) new → w y ≡ v x → Reads s p w old (Ok y) new
read_as {s = s} {p = p} {old = old} {new = new} a e = record { answer = subst (λ z. Runs within_limits s p old (Outcome.read z new)) (sym e) a.answer }

pub no_memory : {s : Sort} {A : Type 0} {p : Program s} {v : A → Value s} {old new : List Placed} → Reads s p v old (Err stop.Memory) new
no_memory = record { answer = tt }

pub when_yes : {s : Sort} {A : Type 0} (test : Option Token → Bool) (p q : Program s) {v : A → Value s} {old new : List Placed} {res : Result A Stop}
    → test (first old) ≡ true → Reads s p v old res new → Reads s (when test p q) v old res new
when_yes {s = s} test p q {v = v} {old = old} {new = new} {res = res} e n = record { answer = seen (λ c. cond (test c) p q) v old new res (rw e n.answer) }

pub when_no : {s : Sort} {A : Type 0} (test : Option Token → Bool) (p q : Program s) {v : A → Value s} {old new : List Placed} {res : Result A Stop}
    → test (first old) ≡ false → Reads s q v old res new → Reads s (when test p q) v old res new
when_no {s = s} test p q {v = v} {old = old} {new = new} {res = res} e n = record { answer = seen (λ c. cond (test c) p q) v old new res (rw e n.answer) }

refused_take : (s : Sort) (c : Token) (within : Bool) (f : At → Program s) (old new : List Placed) (e : Stop) → Takes c within old (Err e) new → Fails s (Program.take c within f) old e new
refused_take s c within f old new stop.Memory a = tt
refused_take s c within f old new stop.Syntax a = subst (λ z. Runs within_limits s (Program.take c within f) old (Outcome.refused Refusal.Syntax z)) a.answer.0 (Runs.take_other a.answer.1)
refused_take s c within f [] new stop.TooDeep a = absurd (let e = a.answer.2 in (cc))
refused_take s c within f (q ∷ qs) new stop.TooDeep a =
    let is : q.token ≡ c = (let e = a.answer.2 in (cc)) in
    subst (λ z. Runs within_limits s (Program.take c within f) (q ∷ qs) (Outcome.refused Refusal.TooDeep z)) a.answer.0
    (subst (λ z. Runs within_limits s (Program.take z within f) (q ∷ qs) (Outcome.refused Refusal.TooDeep (q ∷ qs))) is (Runs.take_deep {c = q.token} {at = q.at} refl a.answer.1))

pub take_failed : {s : Sort} {B : Type 0} {c : Token} {within : Bool} {f : At → Program s} {w : B → Value s} {old new : List Placed} {e : Stop}
    → Takes c within old (Err e) new → Reads s (Program.take c within f) w old (Err e) new
take_failed {s = s} {c = c} {within = within} {f = f} {old = old} {new = new} {e = e} a = record { answer = refused_take s c within f old new e a }

-- what the next token tells
pub looked : {s : Sort} {A : Type 0} (f : Option Token → Program s) (p : Program s) {v : A → Value s} {old new : List Placed} {res : Result A Stop}
    → f (first old) ≡ p → Reads s p v old res new → Reads s (Program.look f) v old res new
looked {s = s} f p {v = v} {old = old} {new = new} {res = res} e n = record { answer = seen f v old new res (subst (λ z. Answers s z v old res new) (sym e) n.answer) }

pub seen_as : {s : Sort} {A : Type 0} (f : Option Token → Program s) (c : Option Token) {v : A → Value s} {old new : List Placed} {res : Result A Stop}
    → first old ≡ c → Reads s (f c) v old res new → Reads s (Program.look f) v old res new
seen_as f c e n = looked f (f c) (ap f e) n

pub refused : {s : Sort} {A : Type 0} {v : A → Value s} {old : List Placed} → Reads s (Program.refuse {s = s}) v old (Err stop.Syntax) old
refused = record { answer = Runs.refuse }

tail_of : {s : Sort} {A : Type 0} (r : Rule s) (v : A → Value s) (old new : List Placed) (res : Result A Stop) → Answers s (body r) v old res new → Answers s (reads r) v old res new
tail_of r v old new (Ok x) a = Runs.call a Runs.give
tail_of r v old new (Err stop.Memory) a = tt
tail_of r v old new (Err stop.Syntax) a = Runs.call_refused a
tail_of r v old new (Err stop.TooDeep) a = Runs.call_refused a

pub tail : {s : Sort} {A : Type 0} {r : Rule s} {v : A → Value s} {old new : List Placed} {res : Result A Stop} → Reads s (body r) v old res new → Reads s (reads r) v old res new
tail {r = r} {v = v} {old = old} {new = new} {res = res} a = record { answer = tail_of r v old new res a.answer }

-- the next token is taken, whichever it is
next_parts : (within : Bool) (old new : List Placed) (at : At) → TakesNext within old (Ok at) new → (c : Token) → first old ≡ Some c → (within ≡ true) × (old ≡ token_at c at ∷ new)
next_parts within [] new at a c h = absurd (cc)
next_parts true (t ∷ ts) new at a c h =
    let k : c ≡ t.token = cc in let i : at ≡ t.at = (let e = a.answer.0 in (cc)) in (refl, rw (k, i, a.answer.1) refl)
next_parts false (t ∷ ts) new at a c h = absurd (let e = a.answer.0 in (cc))

pub took_next : {s : Sort} {B : Type 0} {c : Token} {within : Bool} {f : At → Program s} {w : B → Value s} {old mid new : List Placed} {at : At} {res : Result B Stop}
    → first old ≡ Some c → TakesNext within old (Ok at) mid → Reads s (f at) w mid res new → Reads s (Program.take c within f) w old res new
took_next {s = s} {c = c} {within = within} {f = f} {w = w} {old = old} {mid = mid} {new = new} {at = at} {res = res} h a n =
    let p = next_parts within old mid at a c h in
    record { answer = subst (λ z. Answers s (Program.take c within f) w z res new) (sym p.1) (taken c within f w at mid new res p.0 n.answer) }

next_fails : (s : Sort) (c : Token) (within : Bool) (f : At → Program s) (old new : List Placed) (e : Stop) → TakesNext within old (Err e) new → first old ≡ Some c → Fails s (Program.take c within f) old e new
next_fails s c within f [] new e a h = absurd (cc)
next_fails s c true f (t ∷ ts) new e a h = absurd (let i = a.answer.0 in (cc))
next_fails s c false f (t ∷ ts) new e a h =
    let is : t.token ≡ c = (cc) in
    let too : stop.TooDeep ≡ e = (let i = a.answer.0 in (cc)) in
    subst (λ z. Fails s (Program.take c false f) (t ∷ ts) z new) too
    (subst (λ z. Runs within_limits s (Program.take c false f) (t ∷ ts) (Outcome.refused Refusal.TooDeep z)) (sym a.answer.1)
    (subst (λ z. Runs within_limits s (Program.take z false f) (t ∷ ts) (Outcome.refused Refusal.TooDeep (t ∷ ts))) is (Runs.take_deep {c = t.token} {at = t.at} refl refl)))

pub next_failed : {s : Sort} {B : Type 0} {c : Token} {within : Bool} {f : At → Program s} {w : B → Value s} {old new : List Placed} {e : Stop}
    → first old ≡ Some c → TakesNext within old (Err e) new → Reads s (Program.take c within f) w old (Err e) new
next_failed {s = s} {c = c} {within = within} {f = f} {old = old} {new = new} {e = e} h a = record { answer = next_fails s c within f old new e a h }

saw : (c : Token) (ts : List Placed) (b : Bool) → b ≡ true → Sees c ts b → first ts ≡ Some c
saw c ts true e a = a.answer
saw c ts false e a = absurd (false≢true e)

saw_not : (c : Token) (ts : List Placed) (b : Bool) → b ≡ false → Sees c ts b → first ts ≡ Some c → ⊥
saw_not c ts false e a = a.answer
saw_not c ts true e a = absurd (false≢true (sym e))

-- what a look at the next token tells
pub saw_yes : {c : Token} {ts : List Placed} {b : Bool} → Sees c ts b → b ≡ true → first ts ≡ Some c
saw_yes {c = c} {ts = ts} {b = b} a e = saw c ts b e a

pub saw_no : {c : Token} {ts : List Placed} {b : Bool} → Sees c ts b → b ≡ false → first ts ≡ Some c → ⊥
saw_no {c = c} {ts = ts} {b = b} a e = saw_not c ts b e a

pub ruleset steps = (called, call_failed, took, take_failed, gave, no_memory, when_yes, when_no)

shorter : (within : Bool) (old new : List Placed) (at : At) → TakesNext within old (Ok at) new → length new < length old
shorter within [] new at a = absurd (let e = a.answer.0 in (cc))
shorter true (t ∷ ts) new at a = let n = a.answer.1 in omega (arith, ap length n)
shorter false (t ∷ ts) new at a = absurd (let e = a.answer.0 in (cc))

-- fewer tokens are left
pub next_shorter : {within : Bool} {old new : List Placed} {at : At} → TakesNext within old (Ok at) new → length new < length old
next_shorter {within = within} {old = old} {new = new} {at = at} a = shorter within old new at a

led_taken : (s : Sort) {A : Type 0} (c : Token) (within : Bool) (f : At → Program s) (q : A → Program s) (view : A → Value s) (old mid new : List Placed) (at : At) (res : Result A Stop)
    → first old ≡ Some c → TakesNext within old (Ok at) mid → Led s (f at) q view mid res new → Led s (Program.take c within f) q view old res new
led_taken s c within f q view old mid new at (Ok x) h a l = λ result end n. took_next h a (l result end n)
led_taken s c within f q view old mid new at (Err e) h a l = (took_next {w = view} {res = Err e} h a (record { answer = l })).answer

led_refused : (s : Sort) {A : Type 0} (c : Token) (within : Bool) (f : At → Program s) (q : A → Program s) (view : A → Value s) (old new : List Placed) (e : Stop)
    → first old ≡ Some c → TakesNext within old (Err e) new → Led s (Program.take c within f) q view old (Err e) new
led_refused s c within f q view old new e h a = next_fails s c within f old new e a h

led_looked : (s : Sort) {A : Type 0} (f : Option Token → Program s) (p : Program s) (q : A → Program s) (view : A → Value s) (old new : List Placed) (res : Result A Stop)
    → f (first old) ≡ p → Led s p q view old res new → Led s (Program.look f) q view old res new
led_looked s f p q view old new (Ok x) e l = λ result end n. looked f p e (l result end n)
led_looked s f p q view old new (Err r) e l = (looked f p {v = view} {res = Err r} e (record { answer = l })).answer

-- the same steps, where what comes next is left open
pub leads_seen : {s : Sort} {A : Type 0} (f : Option Token → Program s) (c : Option Token) {q : A → Program s} {view : A → Value s} {old new : List Placed} {res : Result A Stop}
    → first old ≡ c → Leads s (f c) q view old res new → Leads s (Program.look f) q view old res new
leads_seen {s = s} f c {q = q} {view = view} {old = old} {new = new} {res = res} e l = record { answer = led_looked s f (f c) q view old new res (ap f e) l.answer }

pub leads_took : {s : Sort} {A : Type 0} {c : Token} {within : Bool} {f : At → Program s} {q : A → Program s} {view : A → Value s} {old mid new : List Placed} {at : At} {res : Result A Stop}
    → first old ≡ Some c → TakesNext within old (Ok at) mid → Leads s (f at) q view mid res new → Leads s (Program.take c within f) q view old res new
leads_took {s = s} {c = c} {within = within} {f = f} {q = q} {view = view} {old = old} {mid = mid} {new = new} {at = at} {res = res} h a l =
    record { answer = led_taken s c within f q view old mid new at res h a l.answer }

pub leads_take_failed : {s : Sort} {A : Type 0} {c : Token} {within : Bool} {f : At → Program s} {q : A → Program s} {view : A → Value s} {old new : List Placed} {e : Stop}
    → first old ≡ Some c → TakesNext within old (Err e) new → Leads s (Program.take c within f) q view old (Err e) new
leads_take_failed {s = s} {c = c} {within = within} {f = f} {q = q} {view = view} {old = old} {new = new} {e = e} h a = record { answer = led_refused s c within f q view old new e h a }

led_mark : (s : Sort) {A : Type 0} (c : Token) (within : Bool) (f : At → Program s) (q : A → Program s) (view : A → Value s) (old mid new : List Placed) (at : At) (res : Result A Stop)
    → Takes c within old (Ok at) mid → Led s (f at) q view mid res new → Led s (Program.take c within f) q view old res new
led_mark s c within f q view old mid new at (Ok x) a l = λ result end n. took a (l result end n)
led_mark s c within f q view old mid new at (Err e) a l = (took {w = view} {res = Err e} a (record { answer = l })).answer

pub leads_took_mark : {s : Sort} {A : Type 0} {c : Token} {within : Bool} {f : At → Program s} {q : A → Program s} {view : A → Value s} {old mid new : List Placed} {at : At} {res : Result A Stop}
    → Takes c within old (Ok at) mid → Leads s (f at) q view mid res new → Leads s (Program.take c within f) q view old res new
leads_took_mark {s = s} {c = c} {within = within} {f = f} {q = q} {view = view} {old = old} {mid = mid} {new = new} {at = at} {res = res} a l =
    record { answer = led_mark s c within f q view old mid new at res a l.answer }

pub leads_mark_failed : {s : Sort} {A : Type 0} {c : Token} {within : Bool} {f : At → Program s} {q : A → Program s} {view : A → Value s} {old new : List Placed} {e : Stop}
    → Takes c within old (Err e) new → Leads s (Program.take c within f) q view old (Err e) new
leads_mark_failed {s = s} {A = A} {c = c} {within = within} {f = f} {view = view} {old = old} {new = new} {e = e} a = record { answer = refused_take s c within f old new e a }

led_called : {s t : Sort} {A B : Type 0} (r : Rule s) (v : A → Value s) (f : Value s → Program t) (q : B → Program t) (w : B → Value t) (old mid new : List Placed) (x : A) (res : Result B Stop)
    → Reads s (body r) v old (Ok x) mid → Led t (f (v x)) q w mid res new → Led t (Program.call r f) q w old res new
led_called r v f q w old mid new x (Ok y) a l = λ result end n. called a (l result end n)
led_called r v f q w old mid new x (Err e) a l = (called {w = w} {res = Err e} a (record { answer = l })).answer

pub leads_called : {s t : Sort} {A B : Type 0} {r : Rule s} {v : A → Value s} {f : Value s → Program t} {q : B → Program t} {w : B → Value t} {old mid new : List Placed} {x : A} {res : Result B Stop}
    → Reads s (body r) v old (Ok x) mid → Leads t (f (v x)) q w mid res new → Leads t (Program.call r f) q w old res new
leads_called {r = r} {v = v} {f = f} {q = q} {w = w} {old = old} {mid = mid} {new = new} {x = x} {res = res} a l = record { answer = led_called r v f q w old mid new x res a l.answer }

pub leads_call_failed : {s t : Sort} {A B : Type 0} {r : Rule s} {v : A → Value s} {f : Value s → Program t} {q : B → Program t} {w : B → Value t} {old new : List Placed} {e : Stop}
    → Reads s (body r) v old (Err e) new → Leads t (Program.call r f) q w old (Err e) new
leads_call_failed {r = r} {f = f} {old = old} {new = new} {e = e} a = record { answer = failed r f old new e a.answer }

-- the rule that goes on, on the tree that was made
pub leads_on : {s : Sort} {A : Type 0} (h : Value s → Rule s) {view : A → Value s} {old : List Placed} {x : A} {y : Value s}
    → view x ≡ y → Leads s (reads (h y)) (λ z. body (h (view z))) view old (Ok x) old
leads_on {s = s} h {view = view} {old = old} e = record { answer = λ result new n. subst (λ z. Reads s (reads (h z)) view old result new) e (tail n) }

-- the rule that goes on, where the code has the tree and the program says what it is
pub tail_as : (s : Sort) {t : Sort} {A : Type 0} (h : Value s → Rule t) {view : A → Value t} {old new : List Placed} {x y : Value s} {res : Result A Stop}
    → x ≡ y → Reads t (body (h x)) view old res new → Reads t (reads (h y)) view old res new
tail_as s {t = t} h {view = view} {old = old} {new = new} {res = res} e n = subst (λ z. Reads t (reads (h z)) view old res new) e (tail n)
