-- The command line as `clap` reads it.
use Rattle.std.proofs.Common.{◌≡◌, ℕ, Bool, true, false, cond, eqb, List, [], ◌∷◌, length, Option, None, map, ◌⊎◌, inl, inr, refl, sym, ap, subst, ◌∙◌, arith}
use Rattle.std.specs.Prelude.{find, slice_get}
use Rattle.std.specs.Option.{option_map, option_and_then}
use Rattle.std.specs.Str.{bytes_eq}
use Rattle.std.proofs.lemmas.Bool.{false≢true}
use Rattle.std.proofs.lemmas.Bool.Decides.{nat_tests}
use Rattle.clap.specs.Facts.{Entry}
use Rattle.clap.specs.Walk.{row_of, texts}
use Rattle.std.specs.Borrow.{Bor}
use Rattle.clap.specs.Words.{App, Row, Kinds, IsAmong, fault_of, first_of, first_value, rows_of, matches_of, is_simple, is_simple_and_free}
use Rattle.clap.specs.declared.parser.matches.Found.{Found}
use Rattle.clap.specs.declared.error.kind.ErrorKind.{ErrorKind}
use Rattle.clap.specs.declared.error.kind.ErrorKind.TheVariants as kind
use Rattle.clap.proofs.OnLiterals.{clap_on_literals}
use Rattle.baggy_tool.specs.Words.{baggy_command, asked_by, with_words, request_of, is_out_of_memory}

-- the first value of an argument among the entries of a match
abbrev value_in : List ℕ → List Entry → Option (List ℕ)
value_in id entries = option_and_then (λ a. option_map (λ s. s.now) (slice_get a.vals.items 0)) (option_map (λ e. e.1) (find (λ e. bytes_eq e.0.now id) entries))

pub command_is_simple : is_simple baggy_command ≡ true
unfolding clap_on_literals
command_is_simple = refl

pub command_is_free : is_simple_and_free baggy_command ≡ true
unfolding clap_on_literals
command_is_free = refl

pub words_admitted : (words : List (List ℕ)) → fault_of baggy_command words ≡ [] → request_of words ≡ asked_by (matches_of baggy_command words)
unfolding request_of
words_admitted words none = ap (λ (kinds : Kinds). cond (eqb (length kinds) 0) (asked_by (matches_of baggy_command words)) None) none

among_some : (k : ErrorKind) (kinds : Kinds) → IsAmong k kinds → eqb (length kinds) 0 ≡ false
among_some k [] h = absurd h
among_some k (x ∷ xs) h = grind (arith, nat_tests)

pub words_refused : (words : List (List ℕ)) (k : ErrorKind) → IsAmong k (fault_of baggy_command words) → None ≡ request_of words
unfolding request_of
words_refused words k h = sym (ap (λ (b : Bool). cond b (asked_by (matches_of baggy_command words)) None) (among_some k (fault_of baggy_command words) h))

-- the first value of an argument, as the rows of the matches have it
first_text : (items : List (Bor (List ℕ))) → option_map (λ s. s.now) (slice_get items 0) ≡ slice_get (texts items) 0
first_text [] = refl
first_text (x ∷ xs) = refl

entry_text : (id : List ℕ) (e : Entry) (es : List Entry) (found : Bool) → bytes_eq e.0.now id ≡ found → value_in id es ≡ first_of id (map row_of es) → value_in id (e ∷ es) ≡ first_of id (row_of e ∷ map row_of es)
entry_text id e es true is later = rw is (first_text e.1.vals.items)
entry_text id e es false is later = rw is later

rows_first : (id : List ℕ) (entries : List Entry) → value_in id entries ≡ first_of id (map row_of entries)
rows_first id [] = refl
rows_first id (e ∷ es) = entry_text id e es (bytes_eq e.0.now id) refl (rows_first id es)

pub value_is : (id : List ℕ) (found : Found) → first_value found id ≡ first_of id (rows_of found)
value_is id found = rows_first id found.entries.items

-- what the matches of the command ask for
pub matches_asked : (a : App) (words : List (List ℕ)) (rows : List Row) (R : Type 0) → a ≡ baggy_command → (is_simple_and_free a ≡ true → fault_of a words ≡ []) → (is_simple a ≡ true → (rows ≡ matches_of a words) × R) → asked_by rows ≡ request_of words
matches_asked a words rows R is kinds matches =
    let none = kinds (ap is_simple_and_free is ∙ command_is_free) in
    let same = (matches (ap is_simple is ∙ command_is_simple)).0 in
    ap asked_by (same ∙ ap (λ (b : App). matches_of b words) is) ∙ sym (words_admitted words (sym (ap (λ (b : App). fault_of b words) is) ∙ none))

out_of_memory_is : (k : ErrorKind) → k ≡ kind.OutOfMemory → is_out_of_memory k ≡ true
out_of_memory_is k e = ap is_out_of_memory e

-- an error for another cause than memory refuses the words
pub error_refuses : (a : App) (words : List (List ℕ)) (k : ErrorKind) → a ≡ baggy_command → false ≡ is_out_of_memory k → (is_simple_and_free a ≡ true → (k ≡ kind.OutOfMemory) ⊎ IsAmong k (fault_of a words)) → None ≡ request_of words
error_refuses a words k is other kinds = by (kinds (ap is_simple_and_free is ∙ command_is_free))
  where
    by : (k ≡ kind.OutOfMemory) ⊎ IsAmong k (fault_of a words) → None ≡ request_of words
    by (inl e) = absurd (false≢true (other ∙ out_of_memory_is k e))
    by (inr h) = words_refused words k (subst (λ (b : App). IsAmong k (fault_of b words)) is h)

pub words_asked : (a b c d a' b' c' d' : Option (List ℕ)) → a ≡ a' → b ≡ b' → c ≡ c' → d ≡ d' → with_words a b c d ≡ with_words a' b' c' d'
words_asked a b c d a' b' c' d' p q r s = rw (p, q, r, s) refl
