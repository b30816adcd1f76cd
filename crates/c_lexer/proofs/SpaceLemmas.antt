-- Comments and directives are what is read as them.
use Rattle.std.proofs.Common.{◌≡◌, ℕ, ◌+◌, ◌-◌, ◌≤◌, eqb, Bool, true, false, ◌&&◌, cond, List, [], ◌∷◌, ◌++◌, length, take, drop, get_or, Option, Some, None, Result, Ok, Err, refl, sym, ap, ◌∙◌, append_assoc, length-append, take-append-drop, drop_at, arith, eqb-true, codes}
use Rattle.std.proofs.lemmas.Bool.{false≢true, and_parts}
use Rattle.c_lexer.specs.declared.bytes.Class.TheVariants as class
use Rattle.c_lexer.specs.declared.fault.Fault.{Fault}
use Rattle.c_lexer.specs.declared.fault.Fault.TheVariants as faults
use Rattle.c_lexer.specs.Bytes.{is_gap, IsRun}
use Rattle.c_lexer.specs.Pieces.{IsRow, here, there, begins, IsNextEnd, AllIn, IsHeader, stdio, stdlib, string, IsDirective, include}
use Rattle.c_lexer.specs.Reading.{run_behind, run_len, first_row, Found, headers, one_more, comment_end, past_gaps, row_len, header_len, directive_or_fault, header_at, directive_at}
use Rattle.c_lexer.proofs.RunLemmas.{run_found, run_again}
use Rattle.c_lexer.proofs.TableLemmas.{row_found, Each, at_row, begins_split}

-- ---- block comments

-- the end that is read is the next one
pub record IsEnd (bytes : List ℕ) (n : ℕ) : Type 0 where
  pub inside : List ℕ
  pub rest : List ℕ
  pub parts : bytes ≡ inside ++ 42 ∷ 47 ∷ rest
  pub size : n ≡ length inside + 2
  pub next : IsNextEnd inside rest

abbrev pub HasNoEnd : List ℕ → Type 0
HasNoEnd bytes = (a b : List ℕ) → bytes ≡ a ++ 42 ∷ 47 ∷ b → ⊥

abbrev pub EndOutcome : List ℕ → Option ℕ → Type 0
EndOutcome bytes None = HasNoEnd bytes
EndOutcome bytes (Some n) = IsEnd bytes n

head_is : (b c : ℕ) (bs cs : List ℕ) → b ∷ bs ≡ c ∷ cs → (b ≡ c) × (bs ≡ cs)
head_is b c bs cs e = (cc, cc)

end_here : (bs : List ℕ) → get_or bs 0 0 ≡ 47 → bs ≡ 47 ∷ drop 1 bs
end_here [] e = absurd cc
end_here (b ∷ bs) e = ap (λ x. x ∷ bs) e

pub end_found : (bytes : List ℕ) → EndOutcome bytes (comment_end bytes)
end_found [] = none
  where
    none : (a b : List ℕ) → [] ≡ a ++ 42 ∷ 47 ∷ b → ⊥
    none [] b e = cc
    none (x ∷ a) b e = cc
end_found (b ∷ bs) = by_test (end_found bs) (eqb b 42 && eqb (get_or bs 0 0) 47) refl
  where
    here_is : (eqb b 42 && eqb (get_or bs 0 0) 47) ≡ true → IsEnd (b ∷ bs) 2
    here_is e =
        let p = and_parts (eqb b 42) (eqb (get_or bs 0 0) 47) e in
        let star = eqb-true b 42 p.0 in
        let slash = end_here bs (eqb-true (get_or bs 0 0) 47 p.1) in
        record { inside = []; rest = drop 1 bs; parts = cc; size = refl; next = λ a c f. omega arith }

    not_here : (eqb b 42 && eqb (get_or bs 0 0) 47) ≡ false → (c : List ℕ) → b ∷ bs ≡ 42 ∷ 47 ∷ c → ⊥
    not_here e c f =
        let h = head_is b 42 bs (47 ∷ c) f in
        let second : eqb (get_or bs 0 0) 47 ≡ true = rw h.1 refl in
        let first : eqb b 42 ≡ true = rw h.0 refl in
        let both : (eqb b 42 && eqb (get_or bs 0 0) 47) ≡ true = rw (first, second) refl in
        false≢true (sym e ∙ both)

    by_next : (eqb b 42 && eqb (get_or bs 0 0) 47) ≡ false → (o : Option ℕ) → EndOutcome bs o → EndOutcome (b ∷ bs) (one_more o)
    by_next e None h = none
      where
        none : (a c : List ℕ) → b ∷ bs ≡ a ++ 42 ∷ 47 ∷ c → ⊥
        none [] c f = not_here e c f
        none (x ∷ a) c f = h a c (head_is b x bs (a ++ 42 ∷ 47 ∷ c) f).1
    by_next e (Some n) h = record { inside = b ∷ h.inside; rest = h.rest; parts = ap (λ t. b ∷ t) h.parts; size = omega (arith, h.size); next = next }
      where
        next : (a c : List ℕ) → (b ∷ h.inside) ++ 42 ∷ 47 ∷ h.rest ≡ a ++ 42 ∷ 47 ∷ c → length (b ∷ h.inside) ≤ length a
        next [] c f = absurd (not_here e c (ap (λ t. b ∷ t) h.parts ∙ f))
        next (x ∷ a) c f = let tail = h.next a c (head_is b x (h.inside ++ 42 ∷ 47 ∷ h.rest) (a ++ 42 ∷ 47 ∷ c) f).1 in omega arith

    by_test : EndOutcome bs (comment_end bs) → (t : Bool) → (eqb b 42 && eqb (get_or bs 0 0) 47) ≡ t → EndOutcome (b ∷ bs) (cond t (Some 2) (one_more (comment_end bs)))
    by_test go true e = here_is e
    by_test go false e = by_next e (comment_end bs) go

pub end_again : (inside rest : List ℕ) → IsNextEnd inside rest → comment_end (inside ++ 42 ∷ 47 ∷ rest) ≡ Some (length inside + 2)
end_again inside rest next = by_outcome (comment_end (inside ++ 42 ∷ 47 ∷ rest)) (end_found (inside ++ 42 ∷ 47 ∷ rest))
  where
    by_outcome : (o : Option ℕ) → EndOutcome (inside ++ 42 ∷ 47 ∷ rest) o → o ≡ Some (length inside + 2)
    by_outcome None h = absurd (h inside rest refl)
    by_outcome (Some n) h =
        let le = next h.inside h.rest h.parts in
        let ge = h.next inside rest (sym h.parts) in
        let size : n ≡ length inside + 2 = omega (arith, h.size) in
        ap (λ k. Some k) size

pub no_end_again : (bytes : List ℕ) → HasNoEnd bytes → comment_end bytes ≡ None
no_end_again bytes none = by_outcome (comment_end bytes) (end_found bytes)
  where
    by_outcome : (o : Option ℕ) → EndOutcome bytes o → o ≡ None
    by_outcome None h = refl
    by_outcome (Some n) h = absurd (none h.inside h.rest h.parts)

-- ---- directives

gap_len : (bytes : List ℕ) → run_len class.Gap bytes ≡ run_behind (λ _ b. is_gap b) 0 bytes
unfolding run_len
gap_len bytes = refl

all_gaps : (before : ℕ) (s rest : List ℕ) → IsRun (λ _ b. is_gap b) before s rest → AllIn is_gap s
all_gaps before [] rest h = tt
all_gaps before (b ∷ s) rest h = (h.0, all_gaps b s rest h.1)

-- the gaps that are read are gaps
gaps_found : (bytes : List ℕ) → (s : List ℕ) × AllIn is_gap s × (bytes ≡ s ++ past_gaps bytes)
gaps_found bytes =
    let n = run_len class.Gap bytes in
    let run : IsRun (λ _ b. is_gap b) 0 (take (run_behind (λ _ b. is_gap b) 0 bytes) bytes) (drop (run_behind (λ _ b. is_gap b) 0 bytes) bytes) = run_found (λ _ b. is_gap b) 0 bytes in
    (take n bytes, rw (gap_len bytes) (all_gaps 0 _ _ run), sym (take-append-drop n bytes))

-- a text that begins with no gap
abbrev BeginsNoGap : List ℕ → Type 0
BeginsNoGap [] = Unit {0}
BeginsNoGap (b ∷ bs) = is_gap b ≡ false

gaps_are_run : (before : ℕ) (s rest : List ℕ) → AllIn is_gap s → BeginsNoGap rest → IsRun (λ _ b. is_gap b) before s rest
gaps_are_run before [] [] a h = tt
gaps_are_run before [] (b ∷ rest) a h = h
gaps_are_run before (b ∷ s) rest a h = (a.0, gaps_are_run b s rest a.1 h)

gaps_again : (s rest : List ℕ) → AllIn is_gap s → BeginsNoGap rest → past_gaps (s ++ rest) ≡ rest
gaps_again s rest a h =
    let n : run_len class.Gap (s ++ rest) ≡ length s = gap_len (s ++ rest) ∙ run_again (λ _ b. is_gap b) 0 s rest (gaps_are_run 0 s rest a h) in
    rw n (drop_at s rest (length s) refl)

-- the text is a directive, and then the rest, or no front of it is one
abbrev pub DirectiveOutcome : List ℕ → Result Found Fault → Type 0
DirectiveOutcome bytes (Ok x) = (x.0 ≡ None) × (s : List ℕ) × (rest : List ℕ) × (bytes ≡ s ++ rest) × (x.1 ≡ length s) × IsDirective s
DirectiveOutcome bytes (Err f) = (f ≡ faults.BadDirective) × ((s after : List ℕ) → bytes ≡ s ++ after → IsDirective s → ⊥)

header_is : Each (λ r. (r.0 ≡ 60 ∷ drop 1 r.0) × ((rest : List ℕ) → first_row (λ s. begins s (r.0 ++ rest)) headers ≡ Some r)) headers
unfolding headers
header_is = ((refl, λ rest. refl), ((refl, λ rest. refl), ((refl, λ rest. refl), tt)))

header_row : (h : List ℕ) → IsHeader h → IsRow h tt headers
unfolding headers
header_row _ stdio = here _
header_row _ stdlib = there _ _ (here _)
header_row _ string = there _ _ (there _ _ (here _))

rows_are_headers : Each (λ r. IsHeader r.0) headers
unfolding headers
rows_are_headers = (stdio, (stdlib, (string, tt)))

sixty : is_gap 60 ≡ false
unfolding is_gap
sixty = refl

include_no_gap : (rest : List ℕ) → BeginsNoGap (codes "include" ++ rest)
unfolding is_gap
include_no_gap rest = refl

header_no_gap : (h rest : List ℕ) → h ≡ 60 ∷ drop 1 h → BeginsNoGap (h ++ rest)
header_no_gap [] rest e = absurd cc
header_no_gap (b ∷ h) rest e = rw (head_is b 60 h (drop 1 (b ∷ h)) e).0 sixty

pub directive_again : (s rest : List ℕ) → IsDirective s → directive_at (s ++ rest) ≡ Ok (None, length s)
unfolding directive_at header_len
directive_again _ rest (include b w h gb gw i) =
    let m = header_row h i in
    let inc = codes "include" in
    let row = at_row (λ r. (r.0 ≡ 60 ∷ drop 1 r.0) × ((rest : List ℕ) → first_row (λ s. begins s (r.0 ++ rest)) headers ≡ Some r)) h tt headers header_is m in
    let regroup : (((b ++ inc) ++ w) ++ h) ++ rest ≡ b ++ (inc ++ (w ++ (h ++ rest))) = simp append_assoc in
    let name : past_gaps ((((b ++ inc) ++ w) ++ h) ++ rest) ≡ inc ++ (w ++ (h ++ rest)) = ap past_gaps regroup ∙ gaps_again b (inc ++ (w ++ (h ++ rest))) gb (include_no_gap (w ++ (h ++ rest))) in
    let header : past_gaps (w ++ (h ++ rest)) ≡ h ++ rest = gaps_again w (h ++ rest) gw (header_no_gap h rest row.0) in
    let len : length (35 ∷ ((((b ++ inc) ++ w) ++ h) ++ rest)) - length (h ++ rest) + length h ≡ length (35 ∷ (((b ++ inc) ++ w) ++ h)) =
    omega (arith, length-append (((b ++ inc) ++ w) ++ h) rest, length-append ((b ++ inc) ++ w) h, length-append h rest) in
    at_name (length (35 ∷ ((((b ++ inc) ++ w) ++ h) ++ rest))) (past_gaps ((((b ++ inc) ++ w) ++ h) ++ rest)) (w ++ (h ++ rest)) name
    ∙ ap (λ t. directive_or_fault (length (35 ∷ ((((b ++ inc) ++ w) ++ h) ++ rest)) - length t) (header_len t)) header
    ∙ ap (λ o. directive_or_fault (length (35 ∷ ((((b ++ inc) ++ w) ++ h) ++ rest)) - length (h ++ rest)) (row_len o)) (row.1 rest)
    ∙ ap {B = Result Found Fault} (λ n. Ok (None, n)) len
  where
    at_name : (len : ℕ) (name after : List ℕ) → name ≡ codes "include" ++ after
        → cond (begins (codes "include") name) (header_at len (drop 7 name)) (Err faults.BadDirective) ≡ header_at len after
    at_name len name after e = rw e refl

header_found : (bytes : List ℕ) (k : ℕ) → header_len bytes ≡ Some k → (h : List ℕ) × IsRow h tt headers × (bytes ≡ h ++ drop (length h) bytes) × (k ≡ length h)
unfolding header_len
header_found bytes k e = by_row (first_row (λ s. begins s bytes) headers) refl e
  where
    by_row : (o : Option (List ℕ × Unit {0})) → first_row (λ s. begins s bytes) headers ≡ o → row_len o ≡ Some k → (h : List ℕ) × IsRow h tt headers × (bytes ≡ h ++ drop (length h) bytes) × (k ≡ length h)
    by_row None i f = absurd cc
    by_row (Some row) i f =
        let p = row_found (λ s. begins s bytes) headers row i in
        (row.0, p.0, begins_split row.0 bytes p.1, sym (some_is _ _ f))
      where
        some_is : (x y : ℕ) → Some x ≡ Some y → x ≡ y
        some_is x y g = cc

pub directive_found : (bs : List ℕ) → DirectiveOutcome (35 ∷ bs) (directive_at (35 ∷ bs))
unfolding directive_at
directive_found bs = by_name (begins (codes "include") (past_gaps bs)) refl
  where
    whole : List ℕ
    whole = 35 ∷ bs

    none : directive_at (35 ∷ bs) ≡ Err faults.BadDirective → (s after : List ℕ) → 35 ∷ bs ≡ s ++ after → IsDirective s → ⊥
    none e s after w d = let again = directive_again s after d in let same = ap directive_at w in cc

    by_header : begins (codes "include") (past_gaps bs) ≡ true → (o : Option ℕ) → header_len (past_gaps (drop 7 (past_gaps bs))) ≡ o
        → DirectiveOutcome (35 ∷ bs) (directive_or_fault (length (35 ∷ bs) - length (past_gaps (drop 7 (past_gaps bs)))) o)
    by_header i None e =
        let fails : directive_at (35 ∷ bs) ≡ Err faults.BadDirective = rw (i, e) refl in
        (refl, λ s after w d. none fails s after w d)
    by_header i (Some k) e =
        let g = gaps_found bs in
        let name = begins_split (codes "include") (past_gaps bs) i in
        let after = drop 7 (past_gaps bs) in
        let w = gaps_found after in
        let h = header_found (past_gaps after) k e in
        let rest = drop (length h.0) (past_gaps after) in
        let s = 35 ∷ (g.0 ++ codes "include" ++ w.0 ++ h.0) in
        let regroup : (((g.0 ++ codes "include") ++ w.0) ++ h.0) ++ rest ≡ g.0 ++ (codes "include" ++ (w.0 ++ (h.0 ++ rest))) = simp append_assoc in
        let parts : 35 ∷ bs ≡ s ++ rest =
        ap (λ t. 35 ∷ t) (g.2 ∙ ap (λ t. g.0 ++ t) (name ∙ ap (λ t. codes "include" ++ t) (w.2 ∙ ap (λ t. w.0 ++ t) h.2)) ∙ sym regroup) in
        let len : length (35 ∷ bs) - length (past_gaps after) + k ≡ length s =
        omega (arith, h.3, ap length parts, ap length h.2, length-append (((g.0 ++ codes "include") ++ w.0) ++ h.0) rest, length-append ((g.0 ++ codes "include") ++ w.0) h.0, length-append h.0 rest) in
        (refl, s, rest, parts, len, include g.0 w.0 h.0 g.1 w.1 (at_row (λ r. IsHeader r.0) h.0 tt headers rows_are_headers h.1))

    by_name : (t : Bool) → begins (codes "include") (past_gaps bs) ≡ t → DirectiveOutcome (35 ∷ bs) (cond t (header_at (length (35 ∷ bs)) (drop 7 (past_gaps bs))) (Err faults.BadDirective))
    by_name true i = by_header i (header_len (past_gaps (drop 7 (past_gaps bs)))) refl
    by_name false i =
        let fails : directive_at (35 ∷ bs) ≡ Err faults.BadDirective = rw i refl in
        (refl, λ s after w d. none fails s after w d)
