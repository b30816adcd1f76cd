-- Which way the rules of declarations and statements go, by what the code asks of the next token.
use Rattle.std.proofs.Common.{◌≡◌, ℕ, zero, suc, nat_eq, slice_get, ◌<◌, ◌≤◌, ◌&&◌, Bool, true, false, cond, List, [], ◌∷◌, length, Option, Some, None, Result, Ok, Err, refl, sym, ap, subst, map, arith}
use Rattle.std.proofs.lemmas.Bool.Decides.{nat_tests}
use Rattle.std.proofs.lemmas.Bool.{false≢true}
use Rattle.c_words.specs.Tokens.{Token, Placed}
use Rattle.c_words.specs.declared.place.At.{At}
use Rattle.c_words.specs.declared.words.Keyword.TheVariants as w
use Rattle.c_words.specs.declared.words.Punctuator.TheVariants as m
use Rattle.syntax_tree.specs.GrammarLimits.{within_limits}
use Rattle.syntax_tree.specs.GrammarRefusals.{Refusal}
use Rattle.syntax_tree.specs.GrammarExpressions.{specifier_at}
use Rattle.syntax_tree.specs.declared.syntax.declarators.Array.{Array}
use Rattle.syntax_tree.specs.declared.syntax.declarators.Parameter.{Parameter}
use Rattle.syntax_tree.specs.Syntax.{ParameterDeclaratorTree, ParametersTree, HeadTree}
use Rattle.syntax_tree.specs.SyntaxViews.{array_tree, parameter_declarator_tree, parameter_tree}
use Rattle.c_parser_expressions.specs.declared.cursor.Stop.{Stop}
use Rattle.c_parser_expressions.specs.declared.cursor.Stop.TheVariants as stop
use Rattle.c_parser_rules.specs.Programs.{Sort, Value, Rule, Program, Outcome}
use Rattle.c_parser_rules.specs.Tests.{first, is_end, is_semicolon, is_equal, is_open_bracket, is_close_bracket, is_open_brace, is_close_brace, goes_on, is_else, is_some, is_compound, begins_statement, may_begin_statement, opens}
use Rattle.c_parser_rules.specs.Bodies.{is_void, is_no_declarator, is_lone_void, parameters_of, statement_by, value_statement, do_by, do_rest, parameter_declarator_by, declarator_by, head_by}
use Rattle.c_parser_rules.specs.Runs.{Runs}
use Rattle.c_parser_expressions.specs.Reads.{Reads, Answers, name_of, place_of}
use Rattle.c_parser_expressions.proofs.CodeSteps.{looked, refused}

pub no_semicolon : (c : Option Token) → (c ≡ Some (Token.Punctuator m.Semicolon) → ⊥) → is_semicolon c ≡ false
no_semicolon (Some (Token.Punctuator m.Semicolon)) h = absurd (h refl)
no_semicolon _ h = refl

pub no_equal : (c : Option Token) → (c ≡ Some (Token.Punctuator m.Equal) → ⊥) → is_equal c ≡ false
no_equal (Some (Token.Punctuator m.Equal)) h = absurd (h refl)
no_equal _ h = refl

pub no_close_bracket : (c : Option Token) → (c ≡ Some (Token.Punctuator m.CloseBracket) → ⊥) → is_close_bracket c ≡ false
no_close_bracket (Some (Token.Punctuator m.CloseBracket)) h = absurd (h refl)
no_close_bracket _ h = refl

pub no_open_brace : (c : Option Token) → (c ≡ Some (Token.Punctuator m.OpenBrace) → ⊥) → is_open_brace c ≡ false
no_open_brace (Some (Token.Punctuator m.OpenBrace)) h = absurd (h refl)
no_open_brace _ h = refl

pub no_close_brace : (c : Option Token) → (c ≡ Some (Token.Punctuator m.CloseBrace) → ⊥) → is_close_brace c ≡ false
no_close_brace (Some (Token.Punctuator m.CloseBrace)) h = absurd (h refl)
no_close_brace _ h = refl

pub no_end : (c : Option Token) → (c ≡ Some (Token.Punctuator m.CloseBrace) → ⊥) → goes_on c ≡ true
no_end (Some (Token.Punctuator m.CloseBrace)) h = absurd (h refl)
no_end _ h = refl

pub no_else : (c : Option Token) → (c ≡ Some (Token.Keyword w.Else) → ⊥) → is_else c ≡ false
no_else (Some (Token.Keyword w.Else)) h = absurd (h refl)
no_else _ h = refl

-- ---- declarators
pub no_parameter_name : (d : ℕ) (at : At) (n : ℕ) (c : Option Token) → name_of c ≡ None → (c ≡ Some (Token.Punctuator m.OpenParen) → ⊥)
    → parameter_declarator_by d at n c ≡ Program.call (Rule.repeat is_open_bracket (Rule.array d)) (λ arrays. Program.give (ParameterDeclaratorTree.Unnamed at n arrays))
no_parameter_name d at n (Some (Token.Name x)) e h = absurd (cc)
no_parameter_name d at n (Some (Token.Punctuator m.OpenParen)) e h = absurd (h refl)
no_parameter_name d at n _ e h = refl

pub no_declared_name : (d n : ℕ) (c : Option Token) → name_of c ≡ None → (c ≡ Some (Token.Punctuator m.OpenParen) → ⊥) → declarator_by d n c ≡ Program.refuse
no_declared_name d n (Some (Token.Name x)) e h = absurd (cc)
no_declared_name d n (Some (Token.Punctuator m.OpenParen)) e h = absurd (h refl)
no_declared_name d n _ e h = refl

zero_not : (n : ℕ) → nat_eq (suc n) 0 ≡ false
zero_not n = grind (arith, nat_tests)

-- a parameter's declarator without tokens
pub no_arrays : (at : At) (n : ℕ) (xs : List Array) → length xs ≤ 0 → nat_eq n 0 ≡ is_no_declarator (ParameterDeclaratorTree.Unnamed at n (map array_tree xs))
no_arrays at zero [] h = refl
no_arrays at (suc n) [] h = zero_not n
no_arrays at n (x ∷ xs) h = absurd (omega (arith, h))

pub some_arrays : (at : At) (n : ℕ) (xs : List Array) → 0 < length xs → false ≡ is_no_declarator (ParameterDeclaratorTree.Unnamed at n (map array_tree xs))
some_arrays at n [] h = absurd (omega (arith, h))
some_arrays at zero (x ∷ xs) h = refl
some_arrays at (suc n) (x ∷ xs) h = refl

-- `void` alone
pub not_lone : (ps : List Parameter) → (length ps ≡ 1 → ⊥) → false ≡ is_lone_void (map parameter_tree ps)
not_lone [] h = refl
not_lone (p ∷ []) h = absurd (h refl)
not_lone (p ∷ q ∷ ps) h = refl

pub lone : (ps : List Parameter) (p : Parameter) → length ps ≡ 1 → Some p ≡ slice_get ps 0 → is_lone_void (map parameter_tree ps) ≡ (is_void p.specifier && is_no_declarator (parameter_declarator_tree p.declarator))
lone [] p h e = absurd (omega (arith, h))
lone (q ∷ []) p h e = let i : p ≡ q = cc in rw i refl
lone (q ∷ r ∷ ps) p h e = absurd (omega (arith, h))

pub chosen_none : (ps : List Parameter) → length ps ≤ 0 → parameters_of (map parameter_tree ps) ≡ Program.refuse
chosen_none [] h = refl
chosen_none (p ∷ ps) h = absurd (omega (arith, h))

pub chosen_void : (ps : List Parameter) (p : Parameter) → Some p ≡ slice_get ps 0 → is_lone_void (map parameter_tree ps) ≡ true → parameters_of (map parameter_tree ps) ≡ Program.give (ParametersTree.Void p.at)
chosen_void [] p e h = absurd (false≢true h)
chosen_void (q ∷ []) p e h = let i : p ≡ q = cc in
    rw i (ap (λ z. cond z (Program.give (ParametersTree.Void q.at)) (Program.give (ParametersTree.Listed q.at (parameter_tree q ∷ [])))) h)
chosen_void (q ∷ r ∷ ps) p e h = absurd (false≢true h)

pub chosen_list : (ps : List Parameter) (p : Parameter) → Some p ≡ slice_get ps 0 → is_lone_void (map parameter_tree ps) ≡ false → parameters_of (map parameter_tree ps) ≡ Program.give (ParametersTree.Listed p.at (map parameter_tree ps))
chosen_list [] p e h = absurd (cc)
chosen_list (q ∷ []) p e h = let i : p ≡ q = cc in
    rw i (ap (λ z. cond z (Program.give (ParametersTree.Void q.at)) (Program.give (ParametersTree.Listed q.at (parameter_tree q ∷ [])))) h)
chosen_list (q ∷ r ∷ ps) p e h = let i : p ≡ q = cc in rw i refl

-- ---- statements
pub not_compound : (c : Option Token) → (c ≡ Some (Token.Punctuator m.OpenBrace) → ⊥) → (c ≡ Some (Token.Keyword w.If) → ⊥) → (c ≡ Some (Token.Keyword w.While) → ⊥)
    → (c ≡ Some (Token.Keyword w.Do) → ⊥) → (c ≡ Some (Token.Keyword w.For) → ⊥) → is_compound c ≡ false
not_compound (Some (Token.Punctuator m.OpenBrace)) h i j k l = absurd (h refl)
not_compound (Some (Token.Keyword w.If)) h i j k l = absurd (i refl)
not_compound (Some (Token.Keyword w.While)) h i j k l = absurd (j refl)
not_compound (Some (Token.Keyword w.Do)) h i j k l = absurd (k refl)
not_compound (Some (Token.Keyword w.For)) h i j k l = absurd (l refl)
not_compound _ h i j k l = refl

pub no_jump : (d : ℕ) (c : Option Token) → is_compound c ≡ false → (c ≡ Some (Token.Punctuator m.Semicolon) → ⊥) → (c ≡ Some (Token.Keyword w.Break) → ⊥)
    → (c ≡ Some (Token.Keyword w.Continue) → ⊥) → (c ≡ Some (Token.Keyword w.Return) → ⊥) → statement_by d c ≡ value_statement d c
no_jump d (Some (Token.Punctuator m.OpenBrace)) n h i j k = absurd (false≢true (sym n))
no_jump d (Some (Token.Keyword w.If)) n h i j k = absurd (false≢true (sym n))
no_jump d (Some (Token.Keyword w.While)) n h i j k = absurd (false≢true (sym n))
no_jump d (Some (Token.Keyword w.Do)) n h i j k = absurd (false≢true (sym n))
no_jump d (Some (Token.Keyword w.For)) n h i j k = absurd (false≢true (sym n))
no_jump d (Some (Token.Punctuator m.Semicolon)) n h i j k = absurd (h refl)
no_jump d (Some (Token.Keyword w.Break)) n h i j k = absurd (i refl)
no_jump d (Some (Token.Keyword w.Continue)) n h i j k = absurd (j refl)
no_jump d (Some (Token.Keyword w.Return)) n h i j k = absurd (k refl)
no_jump d _ n h i j k = refl

-- the rule reads on from the next token, whose place it names
on_ahead : {s : Sort} {B : Type 0} (p : Program s) (g : At → Program s) (within : Bool) (w : B → Value s) (t : Placed) (ts new : List Placed) (res : Result B Stop)
    → p ≡ Program.ahead t.token within g → within ≡ true → Answers s (g t.at) w (t ∷ ts) res new → Answers s p w (t ∷ ts) res new
on_ahead {s} p g within w t ts new (Ok x) e h a = subst (λ z. Runs within_limits s z (t ∷ ts) (Outcome.read (w x) new)) (sym e) (Runs.ahead (λ k. h) a)
on_ahead p g within w t ts new (Err stop.Memory) e h a = tt
on_ahead {s} p g within w t ts new (Err stop.Syntax) e h a = subst (λ z. Runs within_limits s z (t ∷ ts) (Outcome.refused Refusal.Syntax new)) (sym e) (Runs.ahead (λ k. h) a)
on_ahead {s} p g within w t ts new (Err stop.TooDeep) e h a = subst (λ z. Runs within_limits s z (t ∷ ts) (Outcome.refused Refusal.TooDeep new)) (sym e) (Runs.ahead (λ k. h) a)

placed_ahead : {s : Sort} {B : Type 0} (f : Option Token → Program s) (g : At → Program s) (w : B → Value s) (at : At) (old new : List Placed) (res : Result B Stop)
    → ((t : Token) → f (Some t) ≡ Program.ahead t true g) → place_of old ≡ Some at → Answers s (g at) w old res new → Answers s (f (first old)) w old res new
placed_ahead f g w at [] new res e h a = absurd (cc)
placed_ahead {s} f g w at (t ∷ ts) new res e h a =
    let i : at ≡ t.at = cc in on_ahead (f (Some t.token)) g true w t ts new res (e t.token) refl (subst (λ z. Answers s (g z) w (t ∷ ts) res new) i a)

pub read_ahead : {s : Sort} {B : Type 0} (f : Option Token → Program s) (g : At → Program s) {w : B → Value s} {at : At} {old new : List Placed} {res : Result B Stop}
    → ((t : Token) → f (Some t) ≡ Program.ahead t true g) → place_of old ≡ Some at → Reads s (g at) w old res new → Reads s (f (first old)) w old res new
read_ahead f g {w} {at} {old} {new} {res} e h a = record { answer = placed_ahead f g w at old new res e h a.answer }

-- whether a token comes
pub none_first : (ts : List Placed) → place_of ts ≡ None → first ts ≡ None
none_first [] h = refl
none_first (t ∷ ts) h = absurd (cc)

pub at_end : (ts : List Placed) → place_of ts ≡ None → ts ≡ []
at_end [] h = refl
at_end (t ∷ ts) h = absurd (cc)

pub none_left : (ts : List Placed) → is_end (first ts) ≡ true → ts ≡ []
none_left [] h = refl
none_left (t ∷ ts) h = absurd (false≢true h)

pub not_at_end : (c : Option Token) → is_end c ≡ false → is_some c ≡ true
not_at_end None h = absurd (false≢true (sym h))
not_at_end (Some t) h = refl

pub ended : (c : Option Token) → is_end c ≡ true → is_some c ≡ false
ended None h = refl
ended (Some t) h = absurd (false≢true h)

-- the body of a `do`
do_choice : (d : ℕ) (at : At) (t : Token) → begins_statement t ≡ true → do_by d at (Some t) ≡ Program.ahead t (opens d) (λ from. do_rest d at)
do_choice d at t h = ap (λ z. cond z (Program.ahead t (opens d) (λ from. do_rest d at)) Program.refuse) h

pub do_body : {B : Type 0} (d : ℕ) (at : At) {w : B → Value Sort.statement} {old new : List Placed} {res : Result B Stop}
    → may_begin_statement (first old) ≡ true → opens d ≡ true → Reads Sort.statement (do_rest d at) w old res new → Reads Sort.statement (Program.look (do_by d at)) w old res new
do_body d at {w} {old = []} {new} {res} h o a = absurd (false≢true h)
do_body d at {w} {old = t ∷ ts} {new} {res} h o a = looked (do_by d at) (do_by d at (Some t.token)) refl
    (record { answer = on_ahead (do_by d at (Some t.token)) (λ from. do_rest d at) (opens d) w t ts new res (do_choice d at t.token h) o a.answer })

pub do_deep : {B : Type 0} (d : ℕ) (at : At) {w : B → Value Sort.statement} {old : List Placed}
    → may_begin_statement (first old) ≡ true → opens d ≡ false → Reads Sort.statement {A = B} (Program.look (do_by d at)) w old (Err stop.TooDeep) old
do_deep d at {w} {old = []} h o = absurd (false≢true h)
do_deep d at {w} {old = t ∷ ts} h o = record { answer = Runs.look (subst (λ z. Runs within_limits Sort.statement z (t ∷ ts) (Outcome.refused Refusal.TooDeep (t ∷ ts))) (sym (do_choice d at t.token h)) (Runs.ahead_deep refl o)) }

no_body : (d : ℕ) (at : At) (c : Option Token) → may_begin_statement c ≡ false → do_by d at c ≡ Program.refuse
no_body d at None h = refl
no_body d at (Some t) h = ap (λ z. cond z (Program.ahead t (opens d) (λ from. do_rest d at)) Program.refuse) h

pub do_nothing : {B : Type 0} (d : ℕ) (at : At) {w : B → Value Sort.statement} {old : List Placed}
    → may_begin_statement (first old) ≡ false → Reads Sort.statement {A = B} (Program.look (do_by d at)) w old (Err stop.Syntax) old
do_nothing d at {old = old} h = looked (do_by d at) Program.refuse (no_body d at (first old) h) refused

pub opens_not : (d : ℕ) → 200 ≤ d → opens d ≡ false
opens_not d h = grind (arith, nat_tests, h)

pub opens_yes : (d : ℕ) → d < 200 → opens d ≡ true
opens_yes d h = grind (arith, nat_tests, h)

-- ---- units
pub no_struct : (d : ℕ) (c : Option Token) → (c ≡ Some (Token.Keyword w.Struct) → ⊥)
    → head_by d c ≡ Program.call Rule.specifier (λ s. Program.give (HeadTree.Specifier s, specifier_at s))
no_struct d (Some (Token.Keyword w.Struct)) h = absurd (h refl)
no_struct d _ h = refl
