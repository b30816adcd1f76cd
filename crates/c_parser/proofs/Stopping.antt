-- Where reading stops, as the answer to the caller.
use Rattle.std.proofs.Common.{◌≡◌, ℕ, zero, suc, slice_get, ◌+◌, ◌-◌, ◌<◌, List, [], ◌∷◌, ◌++◌, length, Some, None, Ok, refl, sym, ap, subst, ◌∙◌, length-append, arith}
use Rattle.c_words.specs.Tokens.{Placed}
use Rattle.c_words.specs.declared.place.At.{At}
use Rattle.c_lexer.specs.declared.token.Token.{Token as Rattle_Token}
use Rattle.c_lexer.specs.Text.{Lexeme, placed_from, placed}
use Rattle.c_lexer.specs.Views.{lexemes}
use Rattle.syntax_tree.specs.declared.syntax.units.Unit.{Unit as Rattle_Unit}
use Rattle.syntax_tree.specs.Syntax.{UnitTree}
use Rattle.syntax_tree.specs.SyntaxViews.{unit_tree}
use Rattle.syntax_tree.specs.GrammarLimits.{within_limits}
use Rattle.syntax_tree.specs.Grammar.{Derives}
use Rattle.syntax_tree.specs.GrammarRefusals.{Refusal, IsRefused, line_of}
use Rattle.c_parser_rules.specs.Programs.{Sort, Rule, Outcome}
use Rattle.c_parser_rules.specs.Bodies.{body}
use Rattle.c_parser_rules.specs.Runs.{Runs}
use Rattle.c_parser_rules.specs.Laws.{Numbered}
use Rattle.c_parser_expressions.specs.Reads.{Reads, place_of}
use Rattle.c_parser.specs.Parse.{stop_place}
use Rattle.c_parser_rules.proofs.RunsLaws.{one_outcome}
use Rattle.c_parser_rules.proofs.CompleteStatements.{complete}
use Rattle.c_parser_rules.proofs.Stability.{suffix}
use Rattle.c_parser_rules.proofs.Laws.{sound, refused}

numbered_from : (n : ℕ) (ls : List Lexeme) → Numbered n (placed_from n ls)
numbered_from n [] = tt
numbered_from n (l ∷ ls) = (refl, numbered_from (suc n) ls)

pub numbered : (ts : List Rattle_Token) → Numbered 0 (placed (lexemes ts))
numbered ts = numbered_from 0 (lexemes ts)

length_from : (n : ℕ) (ts : List Rattle_Token) → length (placed_from n (lexemes ts)) ≡ length ts
length_from n [] = refl
length_from n (t ∷ ts) = ap suc (length_from (suc n) ts)

pub length_placed : (ts : List Rattle_Token) → length (placed (lexemes ts)) ≡ length ts
length_placed ts = length_from 0 ts

-- the line of the last token
last_from : (n k : ℕ) (ts : List Rattle_Token) (t : Rattle_Token) → length ts ≡ suc k → slice_get ts k ≡ Some t → line_of (placed_from n (lexemes ts)) (length ts) ≡ t.line
last_from n k [] t h e = absurd (omega (arith, h))
last_from n zero (q ∷ []) t h e = let i : q ≡ t = cc in ap (λ z. z.line) i
last_from n (suc k) (q ∷ []) t h e = absurd (omega (arith, h))
last_from n zero (q ∷ r ∷ ts) t h e = absurd (omega (arith, h))
last_from n (suc k) (q ∷ r ∷ ts) t h e = last_from (suc n) k (r ∷ ts) t (omega (arith, h)) e

pub last_line : (ts : List Rattle_Token) (t : Rattle_Token) → Some t ≡ slice_get ts (length ts - 1) → 0 < length ts → line_of (placed (lexemes ts)) (length ts) ≡ t.line
last_line ts t e h = last_from 0 (length ts - 1) ts t (omega (arith, h)) (sym e)

pub no_line : (ts : List Rattle_Token) → length ts ≡ 0 → line_of (placed (lexemes ts)) (length ts) ≡ 1
no_line [] h = refl
no_line (t ∷ ts) h = absurd (omega (arith, h))

-- the token behind these
line_at : (v : List Placed) (t : Placed) (us : List Placed) → line_of (v ++ (t ∷ us)) (length v) ≡ t.at.line
line_at [] t [] = refl
line_at [] t (u ∷ us) = refl
line_at (q ∷ []) t us = line_at [] t us
line_at (q ∷ r ∷ v) t us = line_at (r ∷ v) t us

number_at : (n : ℕ) (v : List Placed) (t : Placed) (us : List Placed) → Numbered n (v ++ (t ∷ us)) → t.at.token ≡ n + length v
number_at n [] t us h = h.0 ∙ (omega arith)
number_at n (q ∷ v) t us h = number_at (suc n) v t us h.1 ∙ (omega arith)

cut_place : (v us : List Placed) → Numbered 0 (v ++ us)
    → ((stop_place (v ++ us) us).token ≡ length (v ++ us) - length us) × ((stop_place (v ++ us) us).line ≡ line_of (v ++ us) (length (v ++ us) - length us))
cut_place v [] h = (omega arith, ap (line_of (v ++ [])) (let e : length (v ++ []) ≡ length (v ++ []) - 0 = omega arith in e))
cut_place v (u ∷ us) h =
    let l : length (v ++ (u ∷ us)) - length (u ∷ us) ≡ length v = omega (arith, length-append v (u ∷ us)) in
    let n : u.at.token ≡ length v = number_at 0 v u us h ∙ (omega arith) in
    (n ∙ sym l, sym (line_at v u us) ∙ ap (line_of (v ++ (u ∷ us))) (sym l))

place_cut : (ts v us : List Placed) → ts ≡ v ++ us → Numbered 0 ts
    → ((stop_place ts us).token ≡ length ts - length us) × ((stop_place ts us).line ≡ line_of ts (length ts - length us))
place_cut ts v us e h =
    subst (λ z. ((stop_place z us).token ≡ length z - length us) × ((stop_place z us).line ≡ line_of z (length z - length us))) (sym e) (cut_place v us (subst (λ z. Numbered 0 z) e h))

-- a refusal, with its line
pub refused_here : (ts us : List Placed) (why : Refusal) (at : At) → Numbered 0 ts → Runs within_limits Sort.unit (body Rule.unit) ts (Outcome.refused why us) → at ≡ stop_place ts us
    → IsRefused ts why at.token × (at.line ≡ line_of ts at.token)
refused_here ts us why at h r e =
    let i = suffix within_limits Sort.unit (body Rule.unit) ts (Outcome.refused why us) r in
    let p = place_cut ts i.0 us i.1 h in
    let n : at.token ≡ length ts - length us = ap (λ z. z.token) e ∙ p.0 in
    (subst (λ z. IsRefused ts why z) (sym n) (refused ts us why h r), ap (λ z. z.line) e ∙ p.1 ∙ ap (line_of ts) (sym n))

-- what was read is derived
pub read_all : (ts us : List Placed) (unit : Rattle_Unit) → Reads Sort.unit (body Rule.unit) unit_tree ts (Ok unit) us → us ≡ [] → Derives within_limits ts (unit_tree unit)
read_all ts us unit a e = sound ts us (unit_tree unit) a.answer e

-- what is derived is read
read_same : (x y : UnitTree) (us vs : List Placed) → Outcome.read x us ≡ Outcome.read y vs → x ≡ y
read_same x y us vs e = cc

pub read_derived : (ts us : List Placed) (unit : Rattle_Unit) (tree : UnitTree) → Reads Sort.unit (body Rule.unit) unit_tree ts (Ok unit) us → Derives within_limits ts tree → unit_tree unit ≡ tree
read_derived ts us unit tree a d = read_same (unit_tree unit) tree us [] (one_outcome within_limits _ _ ts _ _ a.answer (complete within_limits ts tree d))

not_refused : (x : UnitTree) (us vs : List Placed) (why : Refusal) → Outcome.refused why us ≡ Outcome.read x vs → ⊥
not_refused x us vs why e = cc

pub derived_not_refused : (ts us : List Placed) (why : Refusal) (tree : UnitTree) → Runs within_limits Sort.unit (body Rule.unit) ts (Outcome.refused why us) → Derives within_limits ts tree → ⊥
derived_not_refused ts us why tree r d = not_refused tree us [] why (one_outcome within_limits _ _ ts _ _ r (complete within_limits ts tree d))

-- the place that the code finds
pub stop_some : (ts us : List Placed) (at : At) → place_of us ≡ Some at → at ≡ stop_place ts us
stop_some ts [] at h = absurd (cc)
stop_some ts (u ∷ us) at h = cc

last_there : (t : Rattle_Token) (ts : List Rattle_Token) → None ≡ slice_get (t ∷ ts) (length ts) → ⊥
last_there t [] h = cc
last_there t (u ∷ us) h = last_there u us h

none_last : (ts : List Rattle_Token) → None ≡ slice_get ts (length ts - 1) → length ts ≡ 0
none_last [] h = refl
none_last (t ∷ ts) h = let e : length (t ∷ ts) - 1 ≡ length ts = omega arith in absurd (last_there t ts (rw e at h))

pub stop_none : (ts : List Rattle_Token) (us : List Placed) → place_of us ≡ None → None ≡ slice_get ts (length ts - 1) → record { token = length ts; line = 1 } ≡ stop_place (placed (lexemes ts)) us
stop_none [] [] h e = refl
stop_none (t ∷ ts) us h e = absurd (let n = none_last (t ∷ ts) e in omega (arith, n))
stop_none [] (u ∷ us) h e = absurd (cc)

pub stop_last : (ts : List Rattle_Token) (us : List Placed) (t : Rattle_Token) → place_of us ≡ None → Some t ≡ slice_get ts (length ts - 1)
    → record { token = length ts; line = t.line } ≡ stop_place (placed (lexemes ts)) us
stop_last [] us t h e = absurd (cc)
stop_last (q ∷ qs) [] t h e = rw (length_placed (q ∷ qs), last_line (q ∷ qs) t e (omega arith)) refl
stop_last (q ∷ qs) (u ∷ us) t h e = absurd (cc)
